-- Laws of terms with several variables bound.
use Rattle.std.proofs.Common.{◌≡◌, ◌∙◌, ℕ, ◌+◌, Bool, true, false, cond, ◌&&◌, ◌||◌, List, [], ◌∷◌, refl, sym, ap}
use Rattle.std.specs.Prelude.{Option, Some, None, codes}
use Rattle.std.specs.Str.{bytes_eq}
use Rattle.std.proofs.lemmas.Bool.Decides.{Decides-and}
use Rattle.std.proofs.lemmas.Slice.Eq.{bytes_eq-Decides}
use Rattle.fp_term.specs.Types.{Typ, type_eq}
use Rattle.fp_term.specs.Terms.{Tm, bound, free, constant, app, abs, closed, found, or_else, replaced}
use Rattle.fp_term.specs.Typing.{type_under}
use Rattle.fp_term.proofs.Equal.{type_eq-decides}
use Rattle.fp_term.proofs.Typed.{app_typed, abs_typed, closed_typed}
use Rattle.fp_conclude.specs.Logic.{truth_type, predicate_type, quantifier, for_some, for_all}
use Rattle.fp_conclude.specs.Hypotheses.{occurs}
use Rattle.fp_shapes.specs.Binders.{Variables, lambdas, for_somes, for_alls, curried, LeaveAlone, LeaveAll}

-- types
pub lambdas_typed : (vs : Variables) (t : Tm) (r : Typ) → type_under [] t ≡ Some r → type_under [] (lambdas vs t) ≡ Some (curried vs r)
lambdas_typed [] t r e = e
lambdas_typed (v ∷ vs) t r e = abs_typed [] v.1 (closed 0 v.0 v.1 (lambdas vs t)) (curried vs r) (closed_typed v.0 v.1 [] 0 (lambdas vs t) (curried vs r) refl (lambdas_typed vs t r e))

pub some_typed : (name : List ℕ) (ty : Typ) (t : Tm) → type_under [] t ≡ Some truth_type → type_under [] (for_some ty (closed 0 name ty t)) ≡ Some truth_type
some_typed name ty t e =
    app_typed [] (quantifier (codes "ex") ty) (abs ty (closed 0 name ty t)) (predicate_type ty) truth_type refl
    (abs_typed [] ty (closed 0 name ty t) truth_type (closed_typed name ty [] 0 t truth_type refl e))

pub somes_typed : (vs : Variables) (t : Tm) → type_under [] t ≡ Some truth_type → type_under [] (for_somes vs t) ≡ Some truth_type
somes_typed [] t e = e
somes_typed (v ∷ vs) t e = some_typed v.0 v.1 (for_somes vs t) (somes_typed vs t e)

neither : (a b : Bool) → (a || b) ≡ false → (a ≡ false) × (b ≡ false)
neither true b e = cc
neither false b e = (refl, e)

-- putting terms in for other variables, and closing
module _ (name : List ℕ) (ty : Typ) where
  closed_apart : (at : ℕ) (t : Tm) → occurs name ty t ≡ false → closed at name ty t ≡ t
  closed_apart at (bound n) e = refl
  closed_apart at (free a s) e = rw e refl
  closed_apart at (constant a s) e = refl
  closed_apart at (app f x) e =
      let p = neither (occurs name ty f) (occurs name ty x) e in
      rw (closed_apart at f p.0, closed_apart at x p.1) refl
  closed_apart at (abs s x) e = ap (abs s) (closed_apart (at + 1) x e)

  module _ (pairs : List (List ℕ × Typ × Tm)) (alone : LeaveAlone name ty pairs) where
    put_apart : (at : ℕ) (a : List ℕ) (s : Typ) (o : Option Tm) → found a s pairs ≡ o → (bytes_eq a name && type_eq s ty) ≡ false → or_else o (free a s) ≡ closed at name ty (or_else o (free a s))
    put_apart at a s None f e = rw e refl
    put_apart at a s (Some u) f e = sym (closed_apart at u (alone.unused a s u f))

    put_variable : (at : ℕ) (a : List ℕ) (s : Typ) (b : Bool) → (bytes_eq a name && type_eq s ty) ≡ b →
        replaced pairs (cond b (bound at) (free a s)) ≡ closed at name ty (or_else (found a s pairs) (free a s))
    put_variable at a s true e =
        let d = (Decides-and (bytes_eq a name) (type_eq s ty) (bytes_eq-Decides a name) (type_eq-decides s ty)).0 e in
        let none : found a s pairs ≡ None = rw (d.0, d.1) alone.unpaired in
        rw (none, e) refl
    put_variable at a s false e = put_apart at a s (found a s pairs) refl e

    pub replaced_closed : (at : ℕ) (t : Tm) → replaced pairs (closed at name ty t) ≡ closed at name ty (replaced pairs t)
    replaced_closed at (bound n) = refl
    replaced_closed at (free a s) = put_variable at a s (bytes_eq a name && type_eq s ty) refl
    replaced_closed at (constant a s) = refl
    replaced_closed at (app f x) = rw (replaced_closed at f, replaced_closed at x) refl
    replaced_closed at (abs s x) = ap (abs s) (replaced_closed (at + 1) x)

-- a test on variables both ways round
abbrev Same : List ℕ → List ℕ → Typ → Typ → Bool
Same x y s t = bytes_eq x y && type_eq s t

same_is : (x y : List ℕ) (s t : Typ) → Same x y s t ≡ true → (x ≡ y) × (s ≡ t)
same_is x y s t e = (Decides-and (bytes_eq x y) (type_eq s t) (bytes_eq-Decides x y) (type_eq-decides s t)).0 e

same_from : (x y : List ℕ) (s t : Typ) → x ≡ y → s ≡ t → Same x y s t ≡ true
same_from x y s t e f = (Decides-and (bytes_eq x y) (type_eq s t) (bytes_eq-Decides x y) (type_eq-decides s t)).1 (e, f)

turned_at : (x y : List ℕ) (s t : Typ) (b c : Bool) → Same x y s t ≡ b → Same y x t s ≡ c → b ≡ c
turned_at x y s t true c e f = let d = same_is x y s t e in sym (same_from y x t s (sym d.0) (sym d.1)) ∙ f
turned_at x y s t false true e f = let d = same_is y x t s f in sym e ∙ same_from x y s t (sym d.0) (sym d.1)
turned_at x y s t false false e f = refl

-- another name for the bound variable
module _ (a b : List ℕ) (ty : Typ) where
  abbrev Renaming : List (List ℕ × Typ × Tm)
  Renaming = (a, ty, free b ty) ∷ []

  renamed_variable : (at : ℕ) (x : List ℕ) (s : Typ) (m : Bool) → Same a x ty s ≡ m → Same x b s ty ≡ false →
      closed at b ty (or_else (cond m (Some (free b ty)) None) (free x s)) ≡ cond m (bound at) (free x s)
  renamed_variable at x s true e g = rw (same_from b b ty ty refl refl) refl
  renamed_variable at x s false e g = rw g refl

  pub closed_renamed : (at : ℕ) (t : Tm) → occurs b ty t ≡ false → closed at b ty (replaced Renaming t) ≡ closed at a ty t
  closed_renamed at (bound n) e = refl
  closed_renamed at (free x s) e = renamed_variable at x s (Same a x ty s) refl e ∙ ap (λ m. cond m (bound at) (free x s)) (turned_at a x ty s (Same a x ty s) (Same x a s ty) refl refl)
  closed_renamed at (constant x s) e = refl
  closed_renamed at (app f x) e =
      let p = neither (occurs b ty f) (occurs b ty x) e in
      rw (closed_renamed at f p.0, closed_renamed at x p.1) refl
  closed_renamed at (abs s x) e = ap (abs s) (closed_renamed (at + 1) x e)

-- instances of what is bound
pub somes_replaced : (vs : Variables) (pairs : List (List ℕ × Typ × Tm)) (t : Tm) → LeaveAll vs pairs → replaced pairs (for_somes vs t) ≡ for_somes vs (replaced pairs t)
somes_replaced [] pairs t h = refl
somes_replaced (v ∷ vs) pairs t h =
    ap (for_some v.1) (replaced_closed v.0 v.1 pairs h.0 0 (for_somes vs t) ∙ ap (closed 0 v.0 v.1) (somes_replaced vs pairs t h.1))

pub alls_replaced : (vs : Variables) (pairs : List (List ℕ × Typ × Tm)) (t : Tm) → LeaveAll vs pairs → replaced pairs (for_alls vs t) ≡ for_alls vs (replaced pairs t)
alls_replaced [] pairs t h = refl
alls_replaced (v ∷ vs) pairs t h =
    ap (for_all v.1) (replaced_closed v.0 v.1 pairs h.0 0 (for_alls vs t) ∙ ap (closed 0 v.0 v.1) (alls_replaced vs pairs t h.1))
