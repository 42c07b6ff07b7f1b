-- What a cell speaks of is what its numbers give.
use Rattle.std.proofs.Common.{◌≡◌, ◌<◌, ℕ, List, length, refl}
use Rattle.std.specs.Prelude.{Option, Some, None, IsSome, slice_get}
use Rattle.std.proofs.lemmas.Option.{slice_get_within}
use Rattle.fp_term.specs.Terms.{Tm}
use Rattle.fp_cells.specs.Goals.{numbered_in, measure_at}

some_within : {A : Type 0} (xs : List A) (i : ℕ) (o : Option A) → slice_get xs i ≡ o → IsSome o → i < length xs
some_within xs i (Some x) e k = slice_get_within xs i x e
some_within xs i None e k = cc

some_of : (o : Option (List Tm)) (number : ℕ) → IsSome (numbered_in o number) → (terms : List Tm) × (o ≡ Some terms) × IsSome (slice_get terms number)
some_of (Some terms) number k = (terms, refl, k)
some_of None number k = cc

pub has_function : (measures : List (List Tm)) (function number : ℕ) → IsSome (measure_at measures function number) → function < length measures
has_function measures function number k =
    let p = some_of (slice_get measures function) number k in slice_get_within measures function p.0 p.1

pub has_measure : (measures : List (List Tm)) (function number : ℕ) (own terms : List Tm) → slice_get measures function ≡ Some own → terms ≡ own → IsSome (measure_at measures function number) → number < length terms
has_measure measures function number own terms e is k =
    let f : IsSome (slice_get own number) = rw e at k in
    rw is (some_within own number (slice_get own number) refl f)

pub same_measure : (measures : List (List Tm)) (function number : ℕ) (own terms : List Tm) (t : Tm) → slice_get measures function ≡ Some own → terms ≡ own → slice_get terms number ≡ Some t → measure_at measures function number ≡ Some t
same_measure measures function number own terms t e is f = rw e (rw is at f)
