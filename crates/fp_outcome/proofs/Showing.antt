-- The parts of an order have no loose numbers where the measures have none.
use Rattle.std.proofs.Common.{◌≡◌, ◌≤◌, refl, sym, arith, ℕ, zero, suc, List, [], ◌∷◌, ◌++◌, length, Bool, true, false}
use Rattle.std.specs.Prelude.{Result, Ok, Err, IfOk, Option, Some, None, if◌then◌else◌}
use Rattle.std.specs.List.{slice_get}
use Rattle.std.proofs.lemmas.List.{append-nil}
use Rattle.fp_term.specs.Terms.{Tm}
use Rattle.fp_print.specs.Numbers.{AllHaveOnly}
use Rattle.fp_level.specs.Ranks.{has}
use Rattle.fp_level.specs.declared.rank.Rank.{Rank}
use Rattle.fp_level.specs.declared.rank.Rank.TheVariants as rank
use Rattle.fp_outcome.specs.Shown.{ListsHaveOnly, AreShownParts, IsShownPart}
use Rattle.fp_outcome.specs.Parts.{numbered_measure, column_of, set_below, sets_of, part_of, parts_of}
use Rattle.fp_outcome.specs.declared.item.OrderPart.{OrderPart}

both : (ts us : List Tm) → AllHaveOnly 0 ts → AllHaveOnly 0 us → AllHaveOnly 0 (ts ++ us)
both [] us h k = k
both (t ∷ ts) us h k = (h.0, both ts us h.1 k)

numbered_shown : (ts : List Tm) (i : ℕ) → AllHaveOnly 0 ts → AllHaveOnly 0 (numbered_measure ts i)
numbered_shown [] i h = tt
numbered_shown (t ∷ ts) zero h = (h.0, tt)
numbered_shown (t ∷ ts) (suc i) h = numbered_shown ts i h.1

column_shown : (lists : List (List Tm)) (numbers : List ℕ) → ListsHaveOnly lists → AllHaveOnly 0 (column_of lists numbers)
column_shown [] numbers h = tt
column_shown (ts ∷ lists) [] h = tt
column_shown (ts ∷ lists) (i ∷ numbers) h = both (numbered_measure ts i) (column_of lists numbers) (numbered_shown ts i h.0) (column_shown lists numbers h.1)

chosen_shown : (ts : List Tm) (i : ℕ) (b : Bool) → AllHaveOnly 0 ts → AllHaveOnly 0 (if b then numbered_measure ts i else [])
chosen_shown ts i true h = numbered_shown ts i h
chosen_shown ts i false h = tt

set_shown : (ts : List Tm) (set n : ℕ) → AllHaveOnly 0 ts → AllHaveOnly 0 (set_below ts set n)
set_shown ts set zero h = tt
set_shown ts set (suc n) h = both (set_below ts set n) (if has set n then numbered_measure ts n else []) (set_shown ts set n h) (chosen_shown ts n (has set n) h)

sets_shown : (lists : List (List Tm)) (sets : List ℕ) → ListsHaveOnly lists → ListsHaveOnly (sets_of lists sets)
sets_shown [] sets h = tt
sets_shown (ts ∷ lists) [] h = tt
sets_shown (ts ∷ lists) (set ∷ sets) h = (set_shown ts set (length ts) h.0, sets_shown lists sets h.1)

part_shown : (lists : List (List Tm)) (r : Rank) → ListsHaveOnly lists → IsShownPart (part_of lists r)
part_shown lists (rank.Column numbers) h = column_shown lists numbers h
part_shown lists (rank.Max sets) h = sets_shown lists sets h
part_shown lists (rank.Min sets) h = sets_shown lists sets h

each_shown : (lists : List (List Tm)) (ranks : List Rank) → ListsHaveOnly lists → AreShownParts (parts_of lists ranks)
each_shown lists [] h = tt
each_shown lists (r ∷ ranks) h = (part_shown lists r h, each_shown lists ranks h)

pub all_shown : {E : Type 0} (r : Result (List OrderPart) E) (lists : List (List Tm)) (ranks : List Rank) → IfOk r (λ parts. parts ≡ parts_of lists ranks) → ListsHaveOnly lists → IfOk r AreShownParts
all_shown (Ok parts) lists ranks e h = rw e (each_shown lists ranks h)
all_shown (Err f) lists ranks e h = tt

none_there : (own : List Tm) (i : ℕ) → length own ≤ i → slice_get own i ≡ None
none_there [] i h = refl
none_there (t ∷ own) zero h = absurd (omega (arith, h))
none_there (t ∷ own) (suc i) h = none_there own i (omega (arith, h))

pub none_added : (chosen own : List Tm) (i : ℕ) → length own ≤ i → chosen ≡ chosen ++ numbered_measure own i
none_added chosen own i h = rw (none_there own i h) (sym (append-nil chosen))
