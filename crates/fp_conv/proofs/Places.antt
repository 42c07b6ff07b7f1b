-- Places in bodies that are opened and closed again.
use Rattle.std.proofs.Common.{◌≡◌, ℕ, ◌+◌, ◌==◌, Bool, true, false, cond, List, [], ◌∷◌, refl, ap, arith}
use Rattle.std.specs.Prelude.{Some, None}
use Rattle.std.proofs.lemmas.Option.{none-some, same_Some}
use Rattle.fp_term.specs.Types.{Typ}
use Rattle.fp_term.specs.Terms.{Tm, bound, free, constant, app, abs, opened, closed}
use Rattle.fp_term.specs.Typing.{type_under}
use Rattle.fp_conclude.specs.Hypotheses.{occurs}
use Rattle.fp_conv.specs.Places.{subterm_at, put_at}
use Rattle.fp_conv.proofs.Opening.{neither, opened_whole, closed_apart, closed_opened}

-- which way a place in an application leads
pub application_at : (step : ℕ) (place : List ℕ) (f x l : Tm) (P : Type 0) → subterm_at (step ∷ place) (app f x) ≡ Some l →
    ((step == 0) ≡ true → subterm_at place f ≡ Some l → P) → ((step == 0) ≡ false → (step == 1) ≡ true → subterm_at place x ≡ Some l → P) → P
application_at step place f x l P e k m = by_step (step == 0) (step == 1) refl refl e
  where
    by_step : (b c : Bool) → (step == 0) ≡ b → (step == 1) ≡ c → cond b (subterm_at place f) (cond c (subterm_at place x) None) ≡ Some l → P
    by_step true c h i e = k h e
    by_step false true h i e = m h i e
    by_step false false h i e = absurd (none-some l e)

pub abstraction_at : (step : ℕ) (place : List ℕ) (s : Typ) (x l : Tm) → subterm_at (step ∷ place) (abs s x) ≡ Some l → ((step == 2) ≡ true) × (subterm_at place x ≡ Some l)
abstraction_at step place s x l e = by_step (step == 2) refl e
  where
    by_step : (b : Bool) → (step == 2) ≡ b → cond b (subterm_at place x) None ≡ Some l → ((step == 2) ≡ true) × (subterm_at place x ≡ Some l)
    by_step true h e = (h, e)
    by_step false h e = absurd (none-some l e)

-- a subterm without loose numbers stands there in the opened term too
module _ (by l : Tm) (s : Typ) (typed : type_under [] l ≡ Some s) where
  pub subterm_opened : (place : List ℕ) (at : ℕ) (t : Tm) → subterm_at place t ≡ Some l → subterm_at place (opened at by t) ≡ Some l
  subterm_opened [] at t e =
      let same = same_Some t l e in
      rw same (ap Some (opened_whole [] l s at by typed (omega arith)))
  subterm_opened (step ∷ place) at (bound n) e = absurd (none-some l e)
  subterm_opened (step ∷ place) at (free a u) e = absurd (none-some l e)
  subterm_opened (step ∷ place) at (constant a u) e = absurd (none-some l e)
  subterm_opened (step ∷ place) at (app f x) e =
      application_at step place f x l (subterm_at (step ∷ place) (opened at by (app f x)) ≡ Some l) e
      (λ h k. rw h (subterm_opened place at f k))
      (λ h i k. rw (h, i) (subterm_opened place at x k))
  subterm_opened (step ∷ place) at (abs u x) e =
      let p = abstraction_at step place u x l e in
      rw p.0 (subterm_opened place (at + 1) x p.1)

either_way : (b : Bool) (c : Tm → Tm) (t u v w : Tm) → c t ≡ v → c u ≡ w → c (cond b t u) ≡ cond b v w
either_way true c t u v w e f = e
either_way false c t u v w e f = f

-- what is put into the opened body closes to what is put into the body
module _ (name : List ℕ) (ty : Typ) (by : Tm) (apart : occurs name ty by ≡ false) where
  pub put_closed : (place : List ℕ) (at : ℕ) (t : Tm) → occurs name ty t ≡ false → closed at name ty (put_at place by (opened at (free name ty) t)) ≡ put_at place by t
  put_closed [] at t e = closed_apart name ty at by apart
  put_closed (step ∷ place) at (bound n) e = number_put (n == at) refl
    where
      number_put : (b : Bool) → (n == at) ≡ b → closed at name ty (put_at (step ∷ place) by (cond b (free name ty) (bound n))) ≡ bound n
      number_put true h = rw h at (closed_opened name ty at (bound n) refl)
      number_put false h = refl
  put_closed (step ∷ place) at (free a s) e = closed_opened name ty at (free a s) e
  put_closed (step ∷ place) at (constant a s) e = refl
  put_closed (step ∷ place) at (app f x) e =
      let parts = neither (occurs name ty f) (occurs name ty x) e in
      let by_var : Tm = free name ty in
      either_way (step == 0) (closed at name ty)
      (app (put_at place by (opened at by_var f)) (opened at by_var x)) (app (opened at by_var f) (put_at place by (opened at by_var x)))
      (app (put_at place by f) x) (app f (put_at place by x))
      (rw (put_closed place at f parts.0, closed_opened name ty at x parts.1) refl)
      (rw (closed_opened name ty at f parts.0, put_closed place at x parts.1) refl)
  put_closed (step ∷ place) at (abs s x) e = ap (abs s) (put_closed place (at + 1) x e)
