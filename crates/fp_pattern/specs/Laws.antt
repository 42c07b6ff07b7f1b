-- What the completed clauses of a function are, in the words of values.
use Rattle.std.specs.Prelude.{◌≡◌, ◌≤◌, ◌<◌, ◌+◌, ◌^◌, ℕ, true, ◌&&◌, ◌==◌, if◌then◌else◌, List, [], ◌∷◌, ◌++◌, length, Option, Some, None, Result, Ok, Err}
use Rattle.std.specs.List.{slice_get}
use Rattle.fp_term.specs.Types.{Typ}
use Rattle.fp_term.specs.declared.signature.Signature.{Signature}
use Rattle.fp_group.specs.declared.constructors.ConTable.{ConTable}
use Rattle.fp_group.specs.declared.clause.Clause.{Clause}
use Rattle.fp_group.specs.declared.clause.Head.{Head}
use Rattle.fp_pattern.specs.declared.faults.PatternFault.{PatternFault}
use Rattle.fp_pattern.specs.declared.faults.PatternFault.TheVariants.{Redundant}
use Rattle.fp_pattern.specs.Values.{Value, AreValues, all_match, one_if, one_matches, depths, HasDistinct, IsFine}
use Rattle.fp_pattern.specs.Completed.{patterns_of}
use Rattle.fp_pattern.specs.Conditions.{AreWellTyped, HasConstructors}

-- how many of the function's clauses match the values
abbrev pub count_of : ℕ → List Clause → List Value → ℕ
count_of k [] vs = 0
count_of k (c ∷ cs) vs = one_if (c.function == k && all_match c.patterns vs) + count_of k cs vs

-- the function's clauses have patterns of the types, no variable twice, none deeper than `d`
abbrev pub AreFit : ConTable → Signature → ℕ → List Typ → ℕ → List Clause → Type 0
AreFit table signature k ss d [] = Unit {0}
AreFit table signature k ss d (c ∷ cs) = (c.function ≡ k → IsFine table signature ss c × (depths c.patterns ≤ d)) × AreFit table signature k ss d cs

-- the patterns of the function's clauses are well typed at the types, none deeper than `d`
abbrev pub AreTyped : ConTable → Signature → ℕ → List Typ → ℕ → List Clause → Type 0
AreTyped table signature k ss d [] = Unit {0}
AreTyped table signature k ss d (c ∷ cs) = (c.function ≡ k → AreWellTyped signature ss c.patterns × (depths c.patterns ≤ d)) × AreTyped table signature k ss d cs

-- each list of values of a function's arguments matches exactly one of its completed clauses
abbrev pub MatchOnce : ConTable → Signature → List Clause → List Head → List Clause → Type 0
MatchOnce table signature clauses heads out =
    HasDistinct table → HasConstructors table signature → (k d : ℕ) (head : Head) (vs : List Value) → slice_get heads k ≡ Some head → length head.args < 2 ^ 32 →
    AreTyped table signature k head.args d clauses → AreValues table signature d head.args vs → count_of k out vs ≡ 1

-- the first written clause of the function that matches the values, by its number
abbrev pub first_from : ℕ → ℕ → List Clause → List Value → Option ℕ
first_from n k [] vs = None
first_from n k (c ∷ cs) vs = if c.function == k && all_match c.patterns vs then Some n else first_from (n + 1) k cs vs

-- each of the function's clauses that matches the values comes from the first written clause that matches them, or from none where none does
abbrev pub HaveOrigins : ℕ → List Clause → List Value → List Clause → Type 0
HaveOrigins k clauses vs [] = Unit {0}
HaveOrigins k clauses vs (c ∷ cs) = (c.function ≡ k → all_match c.patterns vs ≡ true → c.origin ≡ first_from 1 k clauses vs) × HaveOrigins k clauses vs cs

abbrev pub ComeFromFirst : ConTable → Signature → List Clause → List Head → List Clause → Type 0
ComeFromFirst table signature clauses heads out =
    HasDistinct table → HasConstructors table signature → (k d : ℕ) (head : Head) (vs : List Value) → slice_get heads k ≡ Some head → length head.args < 2 ^ 32 →
    AreTyped table signature k head.args d clauses → AreValues table signature d head.args vs → HaveOrigins k clauses vs out

-- each list of values that clause `n` matches, an earlier clause of its function matches
pub record IsCovered (table : ConTable) (signature : Signature) (clauses : List Clause) (heads : List Head) (n : ℕ) : Type 0 where
  pub before : List Clause
  pub clause : Clause
  pub rest : List Clause
  pub place : clauses ≡ before ++ clause ∷ rest
  pub number : n ≡ length before + 1
  pub covered :
      HasDistinct table → HasConstructors table signature → (d : ℕ) (head : Head) (vs : List Value) → slice_get heads clause.function ≡ Some head →
      AreTyped table signature clause.function head.args d clauses → AreValues table signature d head.args vs → all_match clause.patterns vs ≡ true → one_matches (patterns_of clause.function before) vs ≡ true

-- what the answer says in the words of values
abbrev pub Means : ConTable → Signature → List Clause → List Head → Result (List Clause) PatternFault → Type 0
Means table signature clauses heads (Ok out) = MatchOnce table signature clauses heads out × ComeFromFirst table signature clauses heads out
Means table signature clauses heads (Err (Redundant n)) = IsCovered table signature clauses heads n
Means table signature clauses heads (Err _) = Unit {0}
