-- What a table says that was begun with nothing known.
use Rattle.std.proofs.Common.{◌≡◌, ◌∙◌, ℕ, Bool, true, false, List, length, sym}
use Rattle.std.specs.Bool.{MatchBool}
use Rattle.fp_term.specs.Types.{Typ}
use Rattle.fp_unify.specs.Facts.{Unsolvable}
use Rattle.fp_unify.specs.Cells.{Fits, AreFine}
use Rattle.fp_unify.specs.Settled.{Determines, Unfit}
use Rattle.fp_unify.specs.Solved.{AllOpen, AddsAll, DeniesAll, IsSolution}
use Rattle.fp_unify.specs.General.{IsBest}
use Rattle.fp_unify.proofs.Generality.{general}
use Rattle.fp_unify.specs.declared.fact.Fact.{Fact}
use Rattle.fp_unify.specs.declared.table.Shape.{Shape}

pub open_fits : (n : ℕ) (cells : List Shape) → AllOpen n cells → (v : ℕ → Typ) → Fits v cells
open_fits n cells a v = record { at = λ i. rw (a.unknown i) tt }

pub open_fine : (n : ℕ) (cells : List Shape) → AllOpen n cells → AreFine cells
open_fine n cells a = record { at = λ i. rw (a.unknown i) tt }

pub unsolvable : (limit n : ℕ) (cells : List Shape) (facts : List (ℕ × Fact)) → AllOpen n cells → DeniesAll limit cells facts → Unsolvable limit facts
unsolvable limit n cells facts a d = record { never = λ v s. d.never v (open_fits n cells a v) s }

solution_of : (limit n : ℕ) (old new : List Shape) (facts : List (ℕ × Fact)) (b : Bool) → AllOpen n old → n ≡ length old → AddsAll limit old facts new → MatchBool b (Determines new) (Unfit new) → MatchBool b (IsSolution limit facts n new) (Unsolvable limit facts)
solution_of limit n old new facts true a e all h =
    record { to = λ v s. all.to v (open_fits n old a v) s; back = λ v f. (all.back v f).1; determines = h; fine = all.fine; counted = all.kept ∙ sym e }
solution_of limit n old new facts false a e all h = record { never = λ v s. h.never v (all.to v (open_fits n old a v) s) }

best : (limit n : ℕ) (cells : List Shape) (facts : List (ℕ × Fact)) (b : Bool) → MatchBool b (IsSolution limit facts n cells) (Unsolvable limit facts) → MatchBool b (IsBest limit facts n cells) (Unsolvable limit facts)
best limit n cells facts true h = record { solution = h; general = general limit facts n cells h }
best limit n cells facts false h = h

pub solution : (limit n : ℕ) (old new : List Shape) (facts : List (ℕ × Fact)) (b : Bool) → AllOpen n old → n ≡ length old → AddsAll limit old facts new → MatchBool b (Determines new) (Unfit new) → MatchBool b (IsBest limit facts n new) (Unsolvable limit facts)
solution limit n old new facts b a e all h = best limit n new facts b (solution_of limit n old new facts b a e all h)
