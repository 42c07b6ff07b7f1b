-- The equations that rewriting at a place is made of.
use Rattle.std.proofs.Common.{◌≡◌, ◌∙◌, ℕ, ◌==◌, Bool, true, false, ◌||◌, List, [], ◌∷◌, refl, sym, ap}
use Rattle.std.specs.Prelude.{Some, Result, Ok, Err, IfOk}
use Rattle.std.proofs.lemmas.Option.{same_Some}
use Rattle.std.proofs.lemmas.Bool.Decides.{Decides-eqb}
use Rattle.fp_term.specs.Types.{Typ}
use Rattle.fp_term.specs.Terms.{Tm, free, constant, app, abs, opened, closed}
use Rattle.fp_term.specs.declared.signature.Signature.{Signature}
use Rattle.fp_term.proofs.Typed.{app_parts, abs_parts, opened_typed, opened_over}
use Rattle.fp_term.specs.Names.{equality}
use Rattle.fp_conclude.specs.Logic.{equal, equality_type}
use Rattle.fp_conclude.specs.Hypotheses.{union, occurs, occurs_in_any}
use Rattle.fp_conclude.specs.Outcomes.{gives}
use Rattle.fp_conclude.specs.Parts.{equation}
use Rattle.fp_conclude.specs.Checks.{typed_over}
use Rattle.fp_conclude.proofs.Checked.{well_typed}
use Rattle.fp_term.proofs.Equal.{term_eq-decides}
use Rattle.fp_conv.specs.Rewriting.{put_by, rewrite_of}
use Rattle.fp_conclude.specs.Rules.{trans_of, lam_of}
use Rattle.fp_conclude.proofs.Gives.{trans_gives}
use Rattle.fp_conclude.proofs.Outcomes.{same_given}
use Rattle.fp_kernel.specs.Definitions.{Def, Within}
use Rattle.fp_kernel.specs.Start.{signature_of}
use Rattle.fp_kernel.specs.Theorems.{Theorem, IsTheorem, promise_union, from_one, from_both}
use Rattle.fp_kernel.proofs.Later.{later_all}
use Rattle.fp_kernel.proofs.Formulas.{Sides, formula_of, sides}
use Rattle.fp_conv.specs.Equations.{IsTyped, IsGiven, Equates, right_of}
use Rattle.fp_conv.specs.Places.{subterm_at, put_at}
use Rattle.fp_conv.proofs.Opening.{neither, closed_opened}
use Rattle.fp_conv.proofs.Places.{application_at, abstraction_at, subterm_opened, put_closed}
use Rattle.fp_conv.proofs.Given.{abstract_given, abstract_equates}

-- the parts of a typed term
pub argument_typed : (g : Signature) (t f x : Tm) → t ≡ app f x → IsTyped g t → IsTyped g x
argument_typed g t f x is h =
    let k = rw is at h.well in
    let p = app_parts [] f x h.type k.typed in
    record { type = p.0; well = record { typed = p.2; over = k.over.1 } }

pub body_typed : (g : Signature) (t o : Tm) (name : List ℕ) (u : Typ) (x : Tm) → t ≡ abs u x → o ≡ opened 0 (free name u) x → IsTyped g t → IsTyped g o
body_typed g t o name u x is opened_is h =
    let k = rw is at h.well in
    let p = abs_parts [] u x h.type k.typed in
    rw opened_is (record {
      type = p.0;
      well = record {
        typed = opened_typed (free name u) u refl [] 0 x p.0 refl p.1;
        over = opened_over g (free name u) k.over.0 0 x k.over.1;
      };
    })

-- what was found to be well typed
pub found_typed : (g : Signature) (t : Tm) (s : Typ) → typed_over g t ≡ gives s → IsTyped g t
found_typed g t s e = record { type = s; well = well_typed g t s e }

-- what rewriting gives where nothing is refused
pub put_gives : (place : List ℕ) (t u : Tm) (s : Typ) (p : Typ × Tm × Tm) → subterm_at place t ≡ Some u → u ≡ p.1 → put_by s t place p ≡ gives (equal s t (put_at place p.2 t))
put_gives place t u s p h same = rw (h, (term_eq-decides u p.1).1 same) refl

pub put_stands : (defs : List Def) (a th : Theorem) (place : List ℕ) (t u : Tm) (p : Typ × Tm × Tm) → subterm_at place t ≡ Some u → u ≡ p.1 →
    Equates defs a.promises a.hyps t (put_at place p.2 t) th → (s : Typ) → typed_over (signature_of defs) t ≡ gives s → from_one defs a a.hyps (put_by s t place p) ≡ gives th
put_stands defs a th place t u p h same made s e =
    let type_is = same_Some made.type s (sym made.typed.typed ∙ (well_typed (signature_of defs) t s e).typed) in
    let is = rw type_is at made.is in
    ap (from_one defs a a.hyps) (put_gives place t u s p h same) ∙ ap gives (sym is)

-- the whole is that, where nothing is refused before
pub put_is_rewrite : (g : Signature) (place : List ℕ) (a t : Tm) (s : Typ) (p : Typ × Tm × Tm) → typed_over g t ≡ gives s → equation a ≡ Some p → put_by s t place p ≡ rewrite_of g place a t
put_is_rewrite g place a t s p e f = rw (e, f) refl

-- the rest of a place in the argument of an application
pub argument_there : (steps place : List ℕ) (step : ℕ) (t f x l : Tm) → steps ≡ step ∷ place → t ≡ app f x → (step ≡ 0 → ⊥) → subterm_at steps t ≡ Some l → subterm_at place x ≡ Some l
argument_there steps place step t f x l e is other h =
    application_at step place f x l (subterm_at place x ≡ Some l) (rw (e, is) at h)
    (λ same _. absurd (other ((Decides-eqb step 0).0 same)))
    (λ _ _ k. k)

-- the sides of an equation are typed over newer definitions too
pub sides_of : (defs : List Def) (a : Theorem) (s : Typ) (l r : Tm) → Within a.defs defs → IsTheorem a → a.concl ≡ equal s l r → Sides (signature_of defs) s l r
sides_of defs a s l r w d e = sides (signature_of defs) s l r (rw e at (formula_of (later_all w (λ x i. i) d)))

pub right_typed : (defs : List Def) (a : Theorem) (s : Typ) (l r : Tm) → Within a.defs defs → IsTheorem a → a.concl ≡ equal s l r → IsTyped (signature_of defs) r
right_typed defs a s l r w d e = record { type = s; well = (sides_of defs a s l r w d e).right }

-- two equations with a common side
pub chain : (defs : List Def) (a b : Theorem) (s : Typ) (t u v : Tm) → a.concl ≡ equal s t u → b.concl ≡ equal s u v →
    from_both defs a b (trans_of a.concl b.concl) ≡ gives (record { defs = defs; promises = promise_union a.promises b.promises; hyps = union a.hyps b.hyps; concl = equal s t v })
chain defs a b s t u v e f = rw (e, f) (ap (from_both defs a b) (trans_gives s t u v))

module _ (defs : List Def) (a : Theorem) (s : Typ) (l r : Tm) (w : Within a.defs defs) (d : IsTheorem a) (is : a.concl ≡ equal s l r) where
  itself_at : (b : Theorem) → Equates defs [] [] r r b → b.concl ≡ equal s r r
  itself_at b e =
      let same = same_Some e.type s (sym e.typed.typed ∙ (sides_of defs a s l r w d is).right.typed) in
      rw e.is (ap (λ (u : Typ). equal u r r) same)

  root : (b : Theorem) → Equates defs [] [] r r b → from_both defs a b (trans_of a.concl b.concl) ≡ gives (record { defs = defs; promises = a.promises; hyps = a.hyps; concl = equal s l r })
  root b e =
      let c = chain defs a b s l r r is (itself_at b e) in
      rw e.is (rw e.is at c)

  pub root_given : (b : Theorem) → Equates defs [] [] r r b → IsGiven (from_both defs a b (trans_of a.concl b.concl))
  root_given b e = record { value = _; given = root b e }

  pub root_equates : {E : Type 0} (b : Theorem) (q : Result Theorem E) → Equates defs [] [] r r b → IfOk q (λ th. from_both defs a b (trans_of a.concl b.concl) ≡ gives th) → IfOk q (Equates defs a.promises a.hyps l r)
  root_equates b (Ok th) e i = record { type = s; typed = (sides_of defs a s l r w d is).left; is = same_given th _ (sym i ∙ root b e) }
  root_equates b (Err f) e i = tt

  -- in a body that is opened by a variable that is apart from it and from the equation
  module _ (name : List ℕ) (u : Typ) (x : Tm) (steps place : List ℕ) (step : ℕ) (t o : Tm) (steps_are : steps ≡ step ∷ place) (term_is : t ≡ abs u x) (opened_is : o ≡ opened 0 (free name u) x) where
    pub body_there : subterm_at steps t ≡ Some l → subterm_at place o ≡ Some l
    body_there h =
        let p = abstraction_at step place u x l (rw (steps_are, term_is) at h) in
        rw opened_is (subterm_opened (free name u) l s (sides_of defs a s l r w d is).left.typed place 0 x p.1)

-- an abstraction whose body was opened by a variable that is apart from it and from the equation
module _ (defs : List Def) (a : Theorem) (s : Typ) (l r : Tm) (is : a.concl ≡ equal s l r) (name : List ℕ) (u : Typ) (x : Tm) (place : List ℕ) (o : Tm) (opened_is : o ≡ opened 0 (free name u) x)
    (apart : (occurs name u x || (occurs name u a.concl || occurs_in_any name u a.hyps)) ≡ false) (typed : IsTyped (signature_of defs) (abs u x)) where
  apart_body : occurs name u x ≡ false
  apart_body = (neither (occurs name u x) _ apart).0

  apart_both : (occurs name u a.concl ≡ false) × (occurs_in_any name u a.hyps ≡ false)
  apart_both = neither (occurs name u a.concl) _ (neither (occurs name u x) _ apart).1

  apart_right : occurs name u r ≡ false
  apart_right =
      let e : occurs name u (equal s l r) ≡ false = rw is at apart_both.0 in
      (neither (occurs name u (app (constant equality (equality_type s)) l)) (occurs name u r) e).1

  pub under_given : (b : Theorem) → Equates defs a.promises a.hyps o (put_at place r o) b → IsGiven (from_one defs b b.hyps (lam_of (signature_of defs) name u b.hyps b.concl))
  under_given b e = abstract_given name u typed.well.over.0 apart_both.1 e

  whole : (th : Theorem) → Equates defs a.promises a.hyps (abs u (closed 0 name u o)) (abs u (closed 0 name u (put_at place r o))) th → Equates defs a.promises a.hyps (abs u x) (abs u (put_at place r x)) th
  whole th e =
      let left = closed_opened name u 0 x apart_body in
      let right = put_closed name u r apart_right place 0 x apart_body in
      rw (opened_is, left, right) at e

  pub under_equates : {E : Type 0} (b : Theorem) (q : Result Theorem E) → Equates defs a.promises a.hyps o (put_at place r o) b →
      IfOk q (λ th. from_one defs b b.hyps (lam_of (signature_of defs) name u b.hyps b.concl) ≡ gives th) → IfOk q (Equates defs a.promises a.hyps (abs u x) (abs u (put_at place r x)))
  under_equates {E} b (Ok th) e i = whole th (abstract_equates {E = E} name u (Ok th) typed.well.over.0 apart_both.1 e i)
  under_equates b (Err f) e i = tt

-- the equation of an abstraction, where the place leads into its body
pub rewritten_in_body : {E : Type 0} (defs : List Def) (p : List (ℕ × Tm)) (h : List Tm) (q : Result Theorem E) (steps place : List ℕ) (step : ℕ) (t l r : Tm) (u : Typ) (x : Tm) → steps ≡ step ∷ place → t ≡ abs u x → subterm_at steps t ≡ Some l →
    IfOk q (Equates defs p h (abs u x) (abs u (put_at place r x))) → IfOk q (Equates defs p h t (put_at steps r t))
rewritten_in_body defs p h q steps place step t l r u x steps_are is there e = rw (steps_are, is) e

-- the equation of a theorem in terms of its own parts
pub own_parts : {defs : List Def} {p : List (ℕ × Tm)} {h : List Tm} {t u : Tm} {th : Theorem} → Equates defs p h t u th → Equates defs th.promises th.hyps t (right_of th.concl) th
own_parts e = rw e.is (rw e.is at e)

unequal_by : (step : ℕ) (b : Bool) → (step == 0) ≡ b → (step ≡ 0 → ⊥) → (step == 0) ≡ false
unequal_by step true e h = absurd (h ((Decides-eqb step 0).0 e))
unequal_by step false e h = e

-- the equation of an application, where the place leads into its function, and into its argument
pub rewritten_in_function : {E : Type 0} {defs : List Def} {p : List (ℕ × Tm)} {h : List Tm} {inner : Theorem} (q : Result Theorem E) (steps place : List ℕ) (step : ℕ) (t r f x : Tm) → steps ≡ step ∷ place → step ≡ 0 → t ≡ app f x →
    Equates defs p h f (put_at place r f) inner → IfOk q (Equates defs inner.promises inner.hyps (app f x) (app (right_of inner.concl) x)) → IfOk q (Equates defs p h t (put_at steps r t))
rewritten_in_function q steps place step t r f x steps_are zeroth is e made = rw (steps_are, zeroth, is) (rw e.is at made)

pub rewritten_in_argument : {E : Type 0} {defs : List Def} {p : List (ℕ × Tm)} {h : List Tm} {inner : Theorem} (q : Result Theorem E) (steps place : List ℕ) (step : ℕ) (t r f x : Tm) → steps ≡ step ∷ place → (step ≡ 0 → ⊥) → t ≡ app f x →
    Equates defs p h x (put_at place r x) inner → IfOk q (Equates defs inner.promises inner.hyps (app f x) (app f (right_of inner.concl))) → IfOk q (Equates defs p h t (put_at steps r t))
rewritten_in_argument q steps place step t r f x steps_are other is e made =
    let no = unequal_by step (step == 0) refl other in
    rw (steps_are, is, no) (rw e.is at made)

-- the rest of a place in the function of an application
pub function_there : (steps place : List ℕ) (step : ℕ) (t f x l : Tm) → steps ≡ step ∷ place → t ≡ app f x → step ≡ 0 → subterm_at steps t ≡ Some l → subterm_at place f ≡ Some l
function_there steps place step t f x l e is zeroth h = rw (e, is, zeroth) at h
