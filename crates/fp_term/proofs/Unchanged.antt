-- What has nothing to replace stays as it is.
use Rattle.std.proofs.Common.{◌≡◌, ◌≤◌, ℕ, ◌+◌, Bool, true, false, ◌||◌, List, refl, ap, arith}
use Rattle.fp_term.specs.Types.{Typ, Typs, variable, applied, none, more, is_polymorphic, are_polymorphic, retyped, all_retyped}
use Rattle.fp_term.specs.Terms.{Tm, bound, free, constant, app, abs, loose_of, is_open, has_type_variables, opened, closed, replaced, retyped_term}
use Rattle.fp_term.specs.Variables.{occurs, with_variables}

neither : (a b : Bool) → (a || b) ≡ false → (a ≡ false) × (b ≡ false)
neither true b e = cc
neither false b e = (refl, e)

pub unopened : (at : ℕ) (by t : Tm) → loose_of t ≤ at → opened at by t ≡ t
unopened at by (bound n) h = grind arith
unopened at by (free a s) h = refl
unopened at by (constant a s) h = refl
unopened at by (app f x) h = rw (unopened at by f (omega arith), unopened at by x (omega arith)) refl
unopened at by (abs s x) h = ap (abs s) (unopened (at + 1) by x (omega arith))

pub unclosed : (at : ℕ) (name : List ℕ) (ty : Typ) (t : Tm) → is_open t ≡ false → closed at name ty t ≡ t
unclosed at name ty (bound n) e = refl
unclosed at name ty (free a s) e = cc
unclosed at name ty (constant a s) e = refl
unclosed at name ty (app f x) e = let p = neither (is_open f) (is_open x) e in rw (unclosed at name ty f p.0, unclosed at name ty x p.1) refl
unclosed at name ty (abs s x) e = ap (abs s) (unclosed (at + 1) name ty x e)

pub unreplaced : (pairs : List (List ℕ × Typ × Tm)) (t : Tm) → is_open t ≡ false → replaced pairs t ≡ t
unreplaced pairs (bound n) e = refl
unreplaced pairs (free a s) e = cc
unreplaced pairs (constant a s) e = refl
unreplaced pairs (app f x) e = let p = neither (is_open f) (is_open x) e in rw (unreplaced pairs f p.0, unreplaced pairs x p.1) refl
unreplaced pairs (abs s x) e = ap (abs s) (unreplaced pairs x e)

mutual
  pub unretyped : (pairs : List (List ℕ × Typ)) (t : Typ) → is_polymorphic t ≡ false → retyped pairs t ≡ t
  unretyped pairs (variable name) e = cc
  unretyped pairs (applied name args) e = ap (applied name) (all_unretyped pairs args e)

  pub all_unretyped : (pairs : List (List ℕ × Typ)) (ts : Typs) → are_polymorphic ts ≡ false → all_retyped pairs ts ≡ ts
  all_unretyped pairs none e = refl
  all_unretyped pairs (more t ts) e = let p = neither (is_polymorphic t) (are_polymorphic ts) e in rw (unretyped pairs t p.0, all_unretyped pairs ts p.1) refl

pub unretyped_term : (pairs : List (List ℕ × Typ)) (t : Tm) → has_type_variables t ≡ false → retyped_term pairs t ≡ t
unretyped_term pairs (bound n) e = refl
unretyped_term pairs (free a s) e = ap (free a) (unretyped pairs s e)
unretyped_term pairs (constant a s) e = ap (constant a) (unretyped pairs s e)
unretyped_term pairs (app f x) e = let p = neither (has_type_variables f) (has_type_variables x) e in rw (unretyped_term pairs f p.0, unretyped_term pairs x p.1) refl
unretyped_term pairs (abs s x) e = let p = neither (is_polymorphic s) (has_type_variables x) e in rw (unretyped pairs s p.0, unretyped_term pairs x p.1) refl

-- a closed term has no variables
pub no_occurrence : (name : List ℕ) (ty : Typ) (t : Tm) → is_open t ≡ false → occurs name ty t ≡ false
no_occurrence name ty (bound n) e = refl
no_occurrence name ty (free a s) e = cc
no_occurrence name ty (constant a s) e = refl
no_occurrence name ty (app f x) e = let p = neither (is_open f) (is_open x) e in rw (no_occurrence name ty f p.0, no_occurrence name ty x p.1) refl
no_occurrence name ty (abs s x) e = no_occurrence name ty x e

pub no_variables : (known : List (List ℕ × Typ)) (t : Tm) → is_open t ≡ false → with_variables known t ≡ known
no_variables known (bound n) e = refl
no_variables known (free a s) e = cc
no_variables known (constant a s) e = refl
no_variables known (app f x) e = let p = neither (is_open f) (is_open x) e in rw (no_variables known f p.0) (no_variables known x p.1)
no_variables known (abs s x) e = no_variables known x e
