-- The search on what is known, where each cell is known or shown.
use Rattle.std.proofs.Common.{◌≡◌, ◌⊎◌, ◌<◌, ℕ, zero, suc, List, [], ◌∷◌, length, map, get_or, refl, inl, inr, ap, Option, Some, None}
use Rattle.fp_order.specs.declared.entry.Entry.{Entry}
use Rattle.fp_order.specs.declared.entry.Entry.TheVariants.{Unknown}
use Rattle.fp_order.specs.declared.grid.Grid.{Grid}
use Rattle.fp_order.specs.Grid.{cells_of, IsGrid}
use Rattle.fp_level.specs.declared.rank.Found.{Found}
use Rattle.fp_level.specs.Result.{IsResult}
use Rattle.fp_shown.specs.Fillings.{IsFilling}
use Rattle.fp_shown.specs.Shown.{IsShown}
use Rattle.fp_shown.proofs.Free.{closed_one}
use Rattle.fp_needed.specs.Needed.{AllKnownOrShown, entry_or_unknown, FindsForEach}

unknown_len : (known : List (Option Entry)) → length (map entry_or_unknown known) ≡ length known
unknown_len [] = refl
unknown_len (x ∷ known) = ap suc (unknown_len known)

unknown_agrees : (known : List (Option Entry)) (k : ℕ) (v : Entry) → get_or known k None ≡ Some v → get_or (map entry_or_unknown known) k Unknown ≡ v
unknown_agrees [] k v h = cc
unknown_agrees (x ∷ known) zero v h = ap entry_or_unknown h
unknown_agrees (x ∷ known) (suc k) v h = unknown_agrees known k v h

unknown_fills : (known : List (Option Entry)) → IsFilling known (map entry_or_unknown known)
unknown_fills known = record { len = unknown_len known; agrees = unknown_agrees known }

known_or_shown : (g : Grid) (known : List (Option Entry)) → AllKnownOrShown g known → (k : ℕ) → k < length (cells_of g) → ((v : Entry) × (get_or known k None ≡ Some v)) ⊎ IsShown g known k
known_or_shown g known all k l = by_entry (get_or known k None) refl where
  by_entry : (x : Option Entry) → get_or known k None ≡ x → ((v : Entry) × (get_or known k None ≡ Some v)) ⊎ IsShown g known k
  by_entry (Some v) s = inl (v, s)
  by_entry None s = inr (all k l s)

pub finds_for_each : (g : Grid) (known : List (Option Entry)) (found : Found) → IsGrid g → length known ≡ length (cells_of g) → IsResult g (map entry_or_unknown known) found → FindsForEach g known found
finds_for_each g known found h len is all full fills =
    let same = closed_one g h known len (known_or_shown g known all) (map entry_or_unknown known) full (unknown_fills known) fills in
    (same.found found).0 is
