-- Functions of a group by their numbers.
use Rattle.std.proofs.Common.{◌≡◌, ℕ, zero, suc, ◌≤◌, ◌<◌, List, [], ◌∷◌, length, refl, sym, ap, arith}
use Rattle.std.specs.Prelude.{Some, None}
use Rattle.std.specs.List.{slice_get}
use Rattle.fp_term.specs.Terms.{Tm}
use Rattle.fp_group.specs.declared.clause.Head.{Head}
use Rattle.fp_shapes.specs.Sums.{inject, project}
use Rattle.fp_spec.specs.Heads.{argument_types, result_types, result_by, result_in, out_by, result_out}

pub some_there : {X : Type 0} → (xs : List X) (i : ℕ) → i < length xs → (x : X) × (slice_get xs i ≡ Some x)
some_there [] i h = absurd (omega (arith, h))
some_there (x ∷ xs) zero h = (x, refl)
some_there (x ∷ xs) (suc i) h = some_there xs i (omega (arith, h))

pub none_there : {X : Type 0} → (xs : List X) (i : ℕ) → length xs ≤ i → slice_get xs i ≡ None
none_there [] i h = refl
none_there (x ∷ xs) zero h = absurd (omega (arith, h))
none_there (x ∷ xs) (suc i) h = none_there xs i (omega (arith, h))

pub as_many_arguments : (heads : List Head) → length (argument_types heads) ≡ length heads
as_many_arguments [] = refl
as_many_arguments (head ∷ heads) = ap suc (as_many_arguments heads)

pub as_many_results : (heads : List Head) → length (result_types heads) ≡ length heads
as_many_results [] = refl
as_many_results (head ∷ heads) = ap suc (as_many_results heads)

pub put_in : (heads : List Head) (i : ℕ) (t : Tm) → i < length heads → inject (result_types heads) i t ≡ result_in heads i t
put_in heads i t h = sym (ap (result_by heads i t) (some_there heads i h).1)

pub not_put_in : (heads : List Head) (i : ℕ) (t : Tm) → length heads ≤ i → t ≡ result_in heads i t
not_put_in heads i t h = sym (ap (result_by heads i t) (none_there heads i h))

pub taken_out : (heads : List Head) (i : ℕ) (t : Tm) → i < length heads → project (result_types heads) i t ≡ result_out heads i t
taken_out heads i t h = sym (ap (out_by heads i t) (some_there heads i h).1)

pub not_taken_out : (heads : List Head) (i : ℕ) (t : Tm) → length heads ≤ i → t ≡ result_out heads i t
not_taken_out heads i t h = sym (ap (out_by heads i t) (none_there heads i h))
