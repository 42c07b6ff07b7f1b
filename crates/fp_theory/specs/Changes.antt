-- What naming a theorem and going back make of a theory.
use Rattle.std.specs.Prelude.{◌≡◌, ◌≤◌, ℕ, min, List, [], ◌∷◌, ◌++◌, length, take, Option, Some, None, is_some, true, Result, Ok, Err}
use Rattle.fp_term.specs.Terms.{Tm}
use Rattle.fp_kernel.specs.Definitions.{Within, oldest}
use Rattle.fp_kernel.specs.Theorems.{Theorem}
use Rattle.fp_group.specs.declared.constructors.ConType.{ConType}
use Rattle.fp_theory.specs.State.{State, found_theorem, with_theorem}
use Rattle.fp_theory.specs.declared.fault.NoteFault.{NoteFault}
use Rattle.fp_theory.specs.declared.fault.NoteFault.TheVariants.{NameTaken, HasPromise, NoMemory}
use Rattle.fp_theory.specs.declared.mark.Mark.{Mark}

-- the least number of a promise
abbrev pub least_with : ℕ → Option ℕ → Option ℕ
least_with n None = Some n
least_with n (Some m) = Some (min n m)

abbrev pub least_number : List (ℕ × Tm) → Option ℕ
least_number [] = None
least_number (p ∷ promises) = least_with p.0 (least_number promises)

-- the name is new and the theorem has no promise, and it is named; or why not
abbrev pub Notes : State → State → List ℕ → Theorem → Result (Unit {0}) NoteFault → Type 0
Notes old new name th (Ok u) = (found_theorem name old.named ≡ None) × (th.promises ≡ []) × (new ≡ with_theorem name th old)
Notes old new name th (Err (NameTaken taken)) = (is_some (found_theorem name old.named) ≡ true) × (taken ≡ name) × (new ≡ old)
Notes old new name th (Err (HasPromise number)) = (found_theorem name old.named ≡ None) × (least_number th.promises ≡ Some number) × (new ≡ old)
Notes old new name th (Err NoMemory) = new ≡ old

abbrev pub IsNameTaken : List ℕ → NoteFault → Type 0
IsNameTaken name (NameTaken taken) = taken ≡ name
IsNameTaken name (HasPromise number) = ⊥
IsNameTaken name NoMemory = Unit {0}

-- the lengths of its lists
pub record IsMarkOf (state : State) (m : Mark) : Type 0 where
  pub defs : m.defs ≡ length state.defs
  pub named : m.named ≡ length state.named
  pub simps : m.simps ≡ length state.simps
  pub congs : m.congs ≡ length state.congs
  pub types : m.types ≡ length state.types

-- no list is shorter
pub record IsAtMost (m : Mark) (state : State) : Type 0 where
  pub defs : m.defs ≤ length state.defs
  pub named : m.named ≤ length state.named
  pub simps : m.simps ≤ length state.simps
  pub congs : m.congs ≤ length state.congs
  pub types : m.types ≤ length state.types

-- each list cut to its number
abbrev pub cut_to : Mark → State → State
cut_to m state = record {
  defs = oldest m.defs state.defs;
  named = take m.named state.named;
  simps = take m.simps state.simps;
  congs = take m.congs state.congs;
  types = take m.types state.types;
}

-- each list has those of the other first
pub record Extends (old new : State) : Type 0 where
  pub defs : Within old.defs new.defs
  pub named : (more : List (List ℕ × Theorem)) × (new.named ≡ old.named ++ more)
  pub simps : (more : List (List ℕ)) × (new.simps ≡ old.simps ++ more)
  pub congs : (more : List (List ℕ)) × (new.congs ≡ old.congs ++ more)
  pub types : (more : List ConType) × (new.types ≡ old.types ++ more)
