-- Where each completed clause comes from: a written clause, or all values of a function, with terms in place of variables, in the patterns and the right side alike.
use Rattle.std.specs.Prelude.{◌≡◌, ◌+◌, ℕ, List, [], ◌∷◌, ◌++◌, length, Some, Result, Ok, Err}
use Rattle.std.specs.List.{slice_get}
use Rattle.fp_term.specs.Types.{Typ}
use Rattle.fp_term.specs.Terms.{Tm}
use Rattle.fp_group.specs.declared.clause.Clause.{Clause}
use Rattle.fp_group.specs.declared.clause.Head.{Head}
use Rattle.fp_pattern.specs.declared.faults.PatternFault.{PatternFault}
use Rattle.fp_pattern.specs.Subtraction.{with_value}
use Rattle.fp_pattern.specs.Completed.{written, undefined_clause}

pub data IsInstanceOf (c : Clause) : Clause → Type 0 where
  itself : IsInstanceOf c c
  further : (d : Clause) (x : List ℕ) (s : Typ) (value : Tm) → IsInstanceOf c d → IsInstanceOf c (with_value d x s value)

pub data Comes (clauses : List Clause) (heads : List Head) (d : Clause) : Type 0 where
  from_written : (before : List Clause) (c : Clause) (rest : List Clause) (n : ℕ) → clauses ≡ before ++ c ∷ rest → n ≡ length before + 1 → IsInstanceOf (written n c) d → Comes clauses heads d
  from_all : (k : ℕ) (head : Head) → slice_get heads k ≡ Some head → IsInstanceOf (undefined_clause k head) d → Comes clauses heads d

abbrev pub AllCome : List Clause → List Head → List Clause → Type 0
AllCome clauses heads [] = Unit {0}
AllCome clauses heads (d ∷ ds) = Comes clauses heads d × AllCome clauses heads ds

abbrev pub ComeFrom : List Clause → List Head → Result (List Clause) PatternFault → Type 0
ComeFrom clauses heads (Ok out) = AllCome clauses heads out
ComeFrom clauses heads (Err fault) = Unit {0}
