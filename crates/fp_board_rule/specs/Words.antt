-- Words of a board, what each says of its cell, and what a seat has of a cell.
use Rattle.std.specs.Prelude.{ℕ, ◌-◌, ◌==◌, List, map, take, Bool, false, cond, Option, Some, None, slice_index_or}
use Rattle.fp_order.specs.declared.entry.Entry.{Entry}
use Rattle.fp_order.specs.declared.entry.Entry.TheVariants.{Unknown, Leq, Less}
use Rattle.fp_shown.specs.declared.state.CellState.{CellState}
use Rattle.fp_shown.specs.declared.state.CellState.TheVariants.{Free, Claimed, Settled, Cancelled}

-- the word of a settled cell
abbrev pub code : Entry → ℕ
code Unknown = 2
code Leq = 3
code Less = 4

-- the entry of a settled word
abbrev pub entry_of : ℕ → Option Entry
entry_of n = cond (n == 2) (Some Unknown) (cond (n == 3) (Some Leq) (cond (n == 4) (Some Less) None))

-- what has become of a cell with this word
abbrev pub state_of : ℕ → CellState
state_of n = cond (n == 0) Free (cond (n == 1) Cancelled (cond (n == 2) (Settled Unknown) (cond (n == 3) (Settled Leq) (cond (n == 4) (Settled Less) (Claimed (n - 8))))))

abbrev pub word_at : List ℕ → ℕ → ℕ
word_at words k = slice_index_or words k 0

-- what is known of a cell
abbrev pub known_in : List (Option Entry) → ℕ → Option Entry
known_in known k = slice_index_or known k None

-- whether a cell is noted, or a number is out
abbrev pub noted_in : List Bool → ℕ → Bool
noted_in noted k = slice_index_or noted k false

-- the settled ones of the first n cells, as a partial matrix
abbrev pub settled_words : ℕ → List ℕ → List (Option Entry)
settled_words n words = map entry_of (take n words)

-- what has become of the first n cells
abbrev pub states_of : ℕ → List ℕ → List CellState
states_of n words = map state_of (take n words)
