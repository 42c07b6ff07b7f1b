-- The completed clauses of a group, and the faults.
use Rattle.std.specs.Prelude.{◌≡◌, ◌≤◌, ◌<◌, ℕ, ◌+◌, Bool, false, ◌&&◌, ◌||◌, ◌==◌, if◌then◌else◌, List, [], ◌∷◌, ◌++◌, length, codes, Option, Some, None, Result, Ok, Err}
use Rattle.std.specs.List.{slice_get}
use Rattle.std.specs.Str.{bytes_eq}
use Rattle.fp_term.specs.Types.{Typ, type_eq}
use Rattle.fp_term.specs.Terms.{Tm, free, constant, app}
use Rattle.fp_term.specs.declared.signature.Signature.{Signature}
use Rattle.fp_group.specs.declared.constructors.ConTable.{ConTable}
use Rattle.fp_group.specs.declared.clause.Clause.{Clause}
use Rattle.fp_group.specs.declared.clause.Head.{Head}
use Rattle.fp_pattern.specs.declared.faults.PatternFault.{PatternFault}
use Rattle.fp_pattern.specs.declared.faults.PatternFault.TheVariants.{NotPattern, NonLinear, Redundant, TooMany, NoMemory}
use Rattle.fp_pattern.specs.Patterns.{is_pattern}
use Rattle.fp_pattern.specs.Subtraction.{numbered, AreMinus, IsLeft}

-- is the variable among those?
abbrev pub is_seen : List (List ℕ × Typ) → List ℕ → Typ → Bool
is_seen [] x s = false
is_seen (known ∷ rest) x s = (bytes_eq known.0 x && type_eq known.1 s) || is_seen rest x s

abbrev pub then_seen : Result (List (List ℕ × Typ)) (List ℕ) → (List (List ℕ × Typ) → Result (List (List ℕ × Typ)) (List ℕ)) → Result (List (List ℕ × Typ)) (List ℕ)
then_seen (Ok seen) next = next seen
then_seen (Err name) next = Err name

-- the variables seen so far with those of the term, in pre-order; or the name of the first that was seen before
abbrev pub noted : List (List ℕ × Typ) → Tm → Result (List (List ℕ × Typ)) (List ℕ)
noted seen (free x s) = if is_seen seen x s then Err x else Ok (seen ++ (x, s) ∷ [])
noted seen (app f y) = then_seen (noted seen f) (λ more. noted more y)
noted seen _ = Ok seen

abbrev pub or_fault : Option PatternFault → Option PatternFault → Option PatternFault
or_fault None later = later
or_fault (Some fault) later = Some fault

abbrev pub after_noted : Result (List (List ℕ × Typ)) (List ℕ) → ℕ → (List (List ℕ × Typ) → Option PatternFault) → Option PatternFault
after_noted (Ok seen) i next = next seen
after_noted (Err name) i next = Some (NonLinear i name)

-- what is wrong with the patterns of clause `i` from argument `j` on: the first that is none, or has a variable that was there before
abbrev pub argument_fault : ConTable → ℕ → ℕ → List (List ℕ × Typ) → List Tm → Option PatternFault
argument_fault table i j seen [] = None
argument_fault table i j seen (p ∷ ps) = if is_pattern table p then after_noted (noted seen p) i (λ more. argument_fault table i (j + 1) more ps) else Some (NotPattern i j)

-- what is wrong with the clauses from clause `i` on
abbrev pub form_fault : ConTable → ℕ → List Clause → Option PatternFault
form_fault table i [] = None
form_fault table i (c ∷ cs) = or_fault (argument_fault table i 1 [] c.patterns) (form_fault table (i + 1) cs)

-- the patterns of the clauses of the function
abbrev pub patterns_of : ℕ → List Clause → List (List Tm)
patterns_of function [] = []
patterns_of function (c ∷ cs) = if c.function == function then c.patterns ∷ patterns_of function cs else patterns_of function cs

-- the clause with its number as its origin
abbrev pub written : ℕ → Clause → Clause
written n c = record { function = c.function; patterns = c.patterns; right = c.right; origin = Some n }

-- variables `v1`, `v2`, .. of the types, from a number on
abbrev pub variables_from : ℕ → List Typ → List Tm
variables_from n [] = []
variables_from n (s ∷ ss) = free (numbered n) s ∷ variables_from (n + 1) ss

-- the clause of all values of the function, undefined
abbrev pub undefined_clause : ℕ → Head → Clause
undefined_clause function head = record { function = function; patterns = variables_from 1 head.args; right = constant (codes "undefined") head.result; origin = None }

-- what is left of the clauses without each of the lists of patterns, where each list on the way has at most 256 clauses
pub data IsLeftWithin (table : ConTable) (signature : Signature) (function : List ℕ) : List (List Tm) → List Clause → List Clause → Type 0 where
  all_taken : (cs : List Clause) → IsLeftWithin table signature function [] cs cs
  one_taken_off :
      (q : List Tm) (qs : List (List Tm)) (cs ds left : List Clause) → AreMinus table signature function q cs ds → length ds ≤ 256 →
      IsLeftWithin table signature function qs ds left → IsLeftWithin table signature function (q ∷ qs) cs left

-- some list on the way has more than 256 clauses
pub data Passes (table : ConTable) (signature : Signature) (function : List ℕ) : List (List Tm) → List Clause → Type 0 where
  passes_now : (q : List Tm) (qs : List (List Tm)) (cs ds : List Clause) → AreMinus table signature function q cs ds → 256 < length ds → Passes table signature function (q ∷ qs) cs
  passes_later :
      (q : List Tm) (qs : List (List Tm)) (cs ds : List Clause) → AreMinus table signature function q cs ds → length ds ≤ 256 →
      Passes table signature function qs ds → Passes table signature function (q ∷ qs) cs

-- what is left, where no list on the way has more than 256 clauses; nothing where one has
abbrev pub IsLimited : ConTable → Signature → List ℕ → List (List Tm) → List Clause → Option (List Clause) → Type 0
IsLimited table signature function qs cs None = Passes table signature function qs cs
IsLimited table signature function qs cs (Some left) = IsLeftWithin table signature function qs cs left

-- something is left, however long the lists on the way
pub data IsSomeLeft (table : ConTable) (signature : Signature) (function : List ℕ) (qs : List (List Tm)) (cs : List Clause) : Type 0 where
  some_left : (c : Clause) (left : List Clause) → IsLeft table signature function qs cs (c ∷ left) → IsSomeLeft table signature function qs cs

-- the completed clauses of the clauses `rest`, after those `before` have given `out`, or the first fault
pub data Completes (table : ConTable) (signature : Signature) (heads : List Head) : List Clause → List Clause → List Clause → Result (List Clause) PatternFault → Type 0 where
  all_completed : (before out : List Clause) → Completes table signature heads before [] out (Ok out)
  redundant :
      (before : List Clause) (c : Clause) (rest out : List Clause) (head : Head) (n : ℕ) → slice_get heads c.function ≡ Some head → n ≡ length before + 1 →
      IsLeft table signature head.name (patterns_of c.function before) (written n c ∷ []) [] → Completes table signature heads before (c ∷ rest) out (Err (Redundant n))
  passing :
      (before : List Clause) (c : Clause) (rest out : List Clause) (head : Head) (n : ℕ) → slice_get heads c.function ≡ Some head → n ≡ length before + 1 →
      Passes table signature head.name (patterns_of c.function before) (written n c ∷ []) →
      IsSomeLeft table signature head.name (patterns_of c.function before) (written n c ∷ []) → Completes table signature heads before (c ∷ rest) out (Err (TooMany n))
  too_many :
      (before : List Clause) (c : Clause) (rest out : List Clause) (head : Head) (n : ℕ) (first : Clause) (left : List Clause) →
      slice_get heads c.function ≡ Some head → n ≡ length before + 1 →
      IsLeftWithin table signature head.name (patterns_of c.function before) (written n c ∷ []) (first ∷ left) →
      256 < length (out ++ first ∷ left) → Completes table signature heads before (c ∷ rest) out (Err (TooMany n))
  one_completed :
      (before : List Clause) (c : Clause) (rest out : List Clause) (head : Head) (n : ℕ) (first : Clause) (left : List Clause) (answer : Result (List Clause) PatternFault) →
      slice_get heads c.function ≡ Some head → n ≡ length before + 1 →
      IsLeftWithin table signature head.name (patterns_of c.function before) (written n c ∷ []) (first ∷ left) →
      length (out ++ first ∷ left) ≤ 256 → Completes table signature heads (before ++ c ∷ []) rest (out ++ first ∷ left) answer →
      Completes table signature heads before (c ∷ rest) out answer

-- the completed clauses with the missing ones of the functions from number `k` on
pub data AddsMissing (table : ConTable) (signature : Signature) (clauses : List Clause) : ℕ → List Head → List Clause → Result (List Clause) PatternFault → Type 0 where
  all_added : (k : ℕ) (out : List Clause) → AddsMissing table signature clauses k [] out (Ok out)
  passing_missing :
      (k : ℕ) (head : Head) (heads : List Head) (out : List Clause) → Passes table signature head.name (patterns_of k clauses) (undefined_clause k head ∷ []) →
      AddsMissing table signature clauses k (head ∷ heads) out (Err (TooMany (length clauses)))
  too_many_missing :
      (k : ℕ) (head : Head) (heads : List Head) (out left : List Clause) → IsLeftWithin table signature head.name (patterns_of k clauses) (undefined_clause k head ∷ []) left →
      256 < length (out ++ left) → AddsMissing table signature clauses k (head ∷ heads) out (Err (TooMany (length clauses)))
  one_added :
      (k : ℕ) (head : Head) (heads : List Head) (out left : List Clause) (answer : Result (List Clause) PatternFault) →
      IsLeftWithin table signature head.name (patterns_of k clauses) (undefined_clause k head ∷ []) left → length (out ++ left) ≤ 256 →
      AddsMissing table signature clauses (k + 1) heads (out ++ left) answer → AddsMissing table signature clauses k (head ∷ heads) out answer

-- the completed clauses, or the first fault
pub data IsCompletion (table : ConTable) (signature : Signature) (clauses : List Clause) (heads : List Head) : Result (List Clause) PatternFault → Type 0 where
  malformed : (fault : PatternFault) → form_fault table 1 clauses ≡ Some fault → IsCompletion table signature clauses heads (Err fault)
  refused : (fault : PatternFault) → form_fault table 1 clauses ≡ None → Completes table signature heads [] clauses [] (Err fault) → IsCompletion table signature clauses heads (Err fault)
  added :
      (out : List Clause) (answer : Result (List Clause) PatternFault) → form_fault table 1 clauses ≡ None → Completes table signature heads [] clauses [] (Ok out) →
      AddsMissing table signature clauses 0 heads out answer → IsCompletion table signature clauses heads answer

-- want of memory says nothing
abbrev pub Answers : (Result (List Clause) PatternFault → Type 0) → Result (List Clause) PatternFault → Type 0
Answers P (Ok out) = P (Ok out)
Answers P (Err NoMemory) = Unit {0}
Answers P (Err (NotPattern i j)) = P (Err (NotPattern i j))
Answers P (Err (NonLinear i name)) = P (Err (NonLinear i name))
Answers P (Err (Redundant i)) = P (Err (Redundant i))
Answers P (Err (TooMany i)) = P (Err (TooMany i))

-- each clause's function is one of so many
abbrev pub AreBelow : ℕ → List Clause → Type 0
AreBelow count [] = Unit {0}
AreBelow count (c ∷ cs) = (c.function < count) × AreBelow count cs

-- which fault there is where a list on the way has more than 256 clauses
abbrev pub IsPassing : ConTable → Signature → List ℕ → List (List Tm) → Clause → ℕ → PatternFault → Type 0
IsPassing table signature function qs c n (Redundant i) = (i ≡ n) × IsLeft table signature function qs (c ∷ []) []
IsPassing table signature function qs c n (TooMany i) = (i ≡ n) × IsSomeLeft table signature function qs (c ∷ [])
IsPassing table signature function qs c n (NotPattern i j) = ⊥
IsPassing table signature function qs c n (NonLinear i name) = ⊥
IsPassing table signature function qs c n NoMemory = Unit {0}

-- what is left of the written clause `n`, or its fault
abbrev pub WrittenLeft : ConTable → Signature → List ℕ → List (List Tm) → Clause → ℕ → Result (List Clause) PatternFault → Type 0
WrittenLeft table signature function qs c n (Ok left) = IsLeftWithin table signature function qs (c ∷ []) left × (0 < length left)
WrittenLeft table signature function qs c n (Err (Redundant i)) = (i ≡ n) × IsLeft table signature function qs (c ∷ []) []
WrittenLeft table signature function qs c n (Err (TooMany i)) = (i ≡ n) × (Passes table signature function qs (c ∷ []) × IsSomeLeft table signature function qs (c ∷ []))
WrittenLeft table signature function qs c n (Err (NotPattern i j)) = ⊥
WrittenLeft table signature function qs c n (Err (NonLinear i name)) = ⊥
WrittenLeft table signature function qs c n (Err NoMemory) = Unit {0}

-- what is left of all values of the function, or that it is too much
abbrev pub MissingLeft : ConTable → Signature → List ℕ → List (List Tm) → Clause → ℕ → Result (List Clause) PatternFault → Type 0
MissingLeft table signature function qs c n (Ok left) = IsLeftWithin table signature function qs (c ∷ []) left
MissingLeft table signature function qs c n (Err (Redundant i)) = ⊥
MissingLeft table signature function qs c n (Err (TooMany i)) = (i ≡ n) × Passes table signature function qs (c ∷ [])
MissingLeft table signature function qs c n (Err (NotPattern i j)) = ⊥
MissingLeft table signature function qs c n (Err (NonLinear i name)) = ⊥
MissingLeft table signature function qs c n (Err NoMemory) = Unit {0}

-- the clauses with those that are left, where they are at most 256
abbrev pub JoinAnswer : List Clause → List Clause → ℕ → Result (List Clause) PatternFault → Type 0
JoinAnswer out left n (Ok joined) = (joined ≡ out ++ left) × (length (out ++ left) ≤ 256)
JoinAnswer out left n (Err (TooMany i)) = (i ≡ n) × (256 < length (out ++ left))
JoinAnswer out left n (Err (Redundant i)) = ⊥
JoinAnswer out left n (Err (NotPattern i j)) = ⊥
JoinAnswer out left n (Err (NonLinear i name)) = ⊥
JoinAnswer out left n (Err NoMemory) = Unit {0}

-- no other result is a completion
abbrev pub IsOnly : ConTable → Signature → List Clause → List Head → Result (List Clause) PatternFault → Type 0
IsOnly table signature clauses heads result = (other : Result (List Clause) PatternFault) → IsCompletion table signature clauses heads other → Answers (λ (r : Result (List Clause) PatternFault). r ≡ other) result
