-- A term has the parts of an equation exactly where it is one.
use Rattle.std.proofs.Common.{◌≡◌, ◌∙◌, Bool, true, false, ◌&&◌, refl, sym, ap}
use Rattle.std.specs.Prelude.{Option, Some, None, MatchOption}
use Rattle.std.specs.Str.{bytes_eq}
use Rattle.std.proofs.lemmas.Option.{none-some, same_Some}
use Rattle.std.proofs.lemmas.Slice.Eq.{bytes_eq-Decides}
use Rattle.fp_term.specs.Names.{function, equality}
use Rattle.fp_term.specs.Types.{Typ, applied, none, more, type_eq}
use Rattle.fp_term.specs.Terms.{Tm, bound, free, constant, app, abs}
use Rattle.fp_term.specs.Typing.{function_type}
use Rattle.fp_term.proofs.Choices.{chosen, followed}
use Rattle.fp_term.proofs.Equal.{type_eq-decides}
use Rattle.fp_conclude.specs.declared.parts.Equation.{Equation}
use Rattle.fp_conclude.specs.Logic.{truth_type, equality_type, equal}
use Rattle.fp_conclude.specs.Parts.{function_parts, if_alike, compared, compared_by, sides_at, equation}

both : (a b : Bool) → (a && b) ≡ true → (a ≡ true) × (b ≡ true)
both true b e = (refl, e)
both false b e = cc

abbrev some_two : Typ → Typ → Option (Typ × Typ)
some_two from to = Some (from, to)

-- a type with the parts of a type of functions is one
pub function_shape : (ty : Typ) (p : Typ × Typ) → function_parts ty ≡ Some p → ty ≡ function_type p.0 p.1
function_shape (applied name (more from (more to none))) p e =
    chosen (bytes_eq name function) (some_two from to) None (Some p) (applied name (more from (more to none)) ≡ function_type p.0 p.1)
    (λ is f. let same = same_Some {A = Typ × Typ} (from, to) p f in
    rw ((bytes_eq-Decides name function).0 is, ← ap (λ (q : Typ × Typ). q.0) same, ← ap (λ (q : Typ × Typ). q.1) same) refl)
    (λ _ f. absurd (none-some p f)) e
function_shape _ p e = absurd (none-some p e)

alike_shape : (s : Typ) (o : Option (Typ × Typ)) (ty : Typ) → if_alike s o ≡ Some ty → (q : Typ × Typ) × (o ≡ Some q) × (s ≡ q.0) × (q.1 ≡ truth_type) × (s ≡ ty)
alike_shape s None ty e = absurd (none-some ty e)
alike_shape s (Some q) ty e =
    chosen (type_eq s q.0 && type_eq q.1 truth_type) _ _ _ ((r : Typ × Typ) × (Some q ≡ Some r) × (s ≡ r.0) × (r.1 ≡ truth_type) × (s ≡ ty))
    (λ is f. let b = both (type_eq s q.0) (type_eq q.1 truth_type) is in
    (q, refl, (type_eq-decides s q.0).0 b.0, (type_eq-decides q.1 truth_type).0 b.1, same_Some s ty f))
    (λ _ f. absurd (none-some ty f)) e

-- what is compared has that equality
compared_shape : (ty s : Typ) → compared ty ≡ Some s → ty ≡ equality_type s
compared_shape ty s e =
    followed (function_parts ty) _ s (ty ≡ equality_type s)
    (λ p f g. let a = alike_shape p.0 (function_parts p.1) s g in
    rw (function_shape ty p f, function_shape p.1 a.0 a.1, ← a.2, a.3, a.4) refl) e

compared_by_shape : (e : Tm) (s : Typ) → compared_by e ≡ Some s → e ≡ constant equality (equality_type s)
compared_by_shape (constant name ty) s e =
    chosen (bytes_eq name equality) _ _ _ (constant name ty ≡ constant equality (equality_type s))
    (λ is f. rw ((bytes_eq-Decides name equality).0 is, compared_shape ty s f) refl)
    (λ _ f. absurd (none-some s f)) e
compared_by_shape (bound n) s e = absurd (none-some s e)
compared_by_shape (free a t) s e = absurd (none-some s e)
compared_by_shape (app f x) s e = absurd (none-some s e)
compared_by_shape (abs t x) s e = absurd (none-some s e)

abbrev Three : Type 0
Three = Typ × Tm × Tm

at_sides : (l r : Tm) (o : Option Typ) (w : Three) → sides_at l r o ≡ Some w → (s : Typ) × (o ≡ Some s) × (s ≡ w.0) × (l ≡ w.1) × (r ≡ w.2)
at_sides l r None w e = absurd (none-some w e)
at_sides l r (Some s) w e =
    let same = same_Some {A = Three} (s, l, r) w e in
    (s, refl, ap (λ (q : Three). q.0) same, ap (λ (q : Three). q.1) same, ap (λ (q : Three). q.2) same)

pub equation_shape : (t : Tm) (w : Three) → equation t ≡ Some w → t ≡ equal w.0 w.1 w.2
equation_shape (app (app e l) r) w h =
    let a = at_sides l r (compared_by e) w h in
    rw (compared_by_shape e a.0 a.1, a.2, a.3, a.4) refl
equation_shape _ w h = absurd (none-some w h)

own : (s : Typ) → type_eq s s ≡ true
own s = (type_eq-decides s s).1 refl

pub equal_parts : (s : Typ) (t u : Tm) → equation (equal s t u) ≡ Some (s, t, u)
equal_parts s t u = rw (own s) refl

pub not_an_equation : (p : Tm) → equation p ≡ None → (s : Typ) (t u : Tm) → p ≡ equal s t u → ⊥
not_an_equation p h s t u e = none-some (s, t, u) (sym h ∙ ap equation e ∙ equal_parts s t u)

-- what is given as the parts of a term, if it is an equation
pub exact_sides : (t : Tm) (o : Option Equation) → MatchOption o (equation t ≡ None) (λ e. equation t ≡ Some (e.ty.now, e.left.now, e.right.now)) →
    MatchOption o ((s : Typ) → (l r : Tm) → t ≡ equal s l r → ⊥) (λ e. t ≡ equal e.ty.now e.left.now e.right.now)
exact_sides t None h = not_an_equation t h
exact_sides t (Some e) h = equation_shape t (e.ty.now, e.left.now, e.right.now) h

same_head : (e f l r m n : Tm) → app (app e l) r ≡ app (app f m) n → e ≡ f
same_head e f l r m n h = cc

pub own_equality : (t : Tm) (o : Option Equation) → MatchOption o (equation t ≡ None) (λ e. equation t ≡ Some (e.ty.now, e.left.now, e.right.now)) →
    MatchOption o (Unit {0}) (λ e. t ≡ app (app e.equality.now e.left.now) e.right.now) → MatchOption o (Unit {0}) (λ e. e.equality.now ≡ constant equality (equality_type e.ty.now))
own_equality t None h w = tt
own_equality t (Some e) h w = same_head e.equality.now (constant equality (equality_type e.ty.now)) e.left.now e.right.now e.left.now e.right.now (sym w ∙ equation_shape t (e.ty.now, e.left.now, e.right.now) h)
