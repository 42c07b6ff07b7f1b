-- A term that is ill typed has no type.
use Rattle.std.proofs.Common.{◌≡◌, ℕ, List, ◌∷◌, refl, sym}
use Rattle.std.specs.Prelude.{Option, Some, None}
use Rattle.std.specs.List.{slice_get}
use Rattle.std.proofs.lemmas.Option.{none-some}
use Rattle.fp_term.specs.Types.{Typ}
use Rattle.fp_term.specs.Terms.{Tm, bound, free, constant, app, abs}
use Rattle.fp_term.specs.Typing.{type_under, type_of_app, bind, below, here_unless, ill_typed}

missing : (o : Option Typ) (place : List ℕ) → here_unless o ≡ Some place → o ≡ None
missing None place e = refl
missing (Some s) place e = absurd (none-some place e)

-- a place below comes from the one part or the other
below_cases : (step : ℕ) (o later : Option (List ℕ)) (place : List ℕ) (P : Type 0) → ((p : List ℕ) → o ≡ Some p → P) → (later ≡ Some place → P) → below step o later ≡ Some place → P
below_cases step None later place P f g e = g e
below_cases step (Some p) later place P f g e = f p refl

none_bound : (o : Option Typ) (next : Typ → Option Typ) → o ≡ None → bind o next ≡ None
none_bound None next e = refl
none_bound (Some s) next e = absurd (none-some s (sym e))

none_after : (o p : Option Typ) → p ≡ None → bind o (λ s. bind p (type_of_app s)) ≡ None
none_after None p e = refl
none_after (Some s) p e = none_bound p (type_of_app s) e

pub untyped : (env : List Typ) (t : Tm) (place : List ℕ) → ill_typed env t ≡ Some place → type_under env t ≡ None
untyped env (bound n) place e = missing (slice_get env n) place e
untyped env (free name s) place e = absurd (none-some place e)
untyped env (constant name s) place e = absurd (none-some place e)
untyped env (app f x) place e =
    below_cases 0 (ill_typed env f) _ place (type_under env (app f x) ≡ None)
    (λ p g. none_bound (type_under env f) _ (untyped env f p g))
    (λ later. below_cases 1 (ill_typed env x) _ place (type_under env (app f x) ≡ None)
    (λ p g. none_after (type_under env f) (type_under env x) (untyped env x p g))
    (λ here. missing (type_under env (app f x)) place here)
    later) e
untyped env (abs s x) place e =
    below_cases 2 (ill_typed (s ∷ env) x) None place (type_under env (abs s x) ≡ None)
    (λ p g. none_bound (type_under (s ∷ env) x) _ (untyped (s ∷ env) x p g))
    (λ none. absurd (none-some place none)) e
