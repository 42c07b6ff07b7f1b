-- That a clause is needed: a value that it matches and no earlier clause does.
use Rattle.std.specs.Prelude.{◌≡◌, ◌+◌, ℕ, max, true, false, List, [], ◌∷◌, ◌++◌, ◌<◌, length, Some, Result, Ok, Err}
use Rattle.fp_pattern.specs.declared.faults.PatternFault.{PatternFault}
use Rattle.fp_pattern.specs.declared.faults.PatternFault.TheVariants.{Redundant, TooMany}
use Rattle.std.specs.List.{slice_get}
use Rattle.fp_term.specs.Types.{Typ}
use Rattle.fp_term.specs.Terms.{Tm, constant, app}
use Rattle.fp_term.specs.Variables.{is_among}
use Rattle.fp_term.specs.Signatures.{IsType}
use Rattle.fp_term.specs.declared.signature.Signature.{Signature}
use Rattle.fp_group.specs.declared.constructors.ConTable.{ConTable}
use Rattle.fp_group.specs.declared.clause.Clause.{Clause}
use Rattle.fp_group.specs.declared.clause.Head.{Head}
use Rattle.fp_pattern.specs.Patterns.{constructors, con_type}
use Rattle.fp_pattern.specs.Values.{Value, AreValues, all_match, one_matches, HasDistinct}
use Rattle.fp_pattern.specs.Completed.{patterns_of}
use Rattle.fp_pattern.specs.Conditions.{HasConstructors}
use Rattle.fp_pattern.specs.Laws.{AreTyped}

-- a type has no declared constructors, or one that gives values of it
pub data HasSome (table : ConTable) (signature : Signature) (s : Typ) : Type 0 where
  none_declared : constructors table s ≡ [] → HasSome table signature s
  one_gives : (con : List ℕ) (type : Typ) → is_among (constructors table s) con ≡ true → con_type signature s con ≡ Some type → HasSome table signature s

-- each type of the signature has values, and its constructors give them at types of the signature
pub record HasValues (table : ConTable) (signature : Signature) : Type 0 where
  pub each : (s : Typ) → IsType signature s → HasSome table signature s
  pub keeps : (s : Typ) (con : List ℕ) (type : Typ) → IsType signature s → is_among (constructors table s) con ≡ true → con_type signature s con ≡ Some type → IsType signature type

abbrev pub AllTypes : Signature → List Typ → Type 0
AllTypes signature [] = Unit {0}
AllTypes signature (s ∷ ss) = IsType signature s × AllTypes signature ss

-- the levels of constructors of a pattern
abbrev pub levels : Tm → ℕ
levels (constant a s) = 1
levels (app f x) = max (levels f) (levels x + 1)
levels _ = 0

abbrev pub all_levels : List Tm → ℕ
all_levels [] = 0
all_levels (p ∷ ps) = max (levels p) (all_levels ps)

-- values that the clause matches and no earlier one of its function
pub record IsNeeded (table : ConTable) (signature : Signature) (ss : List Typ) (d : ℕ) (clause : Clause) (before : List Clause) : Type 0 where
  pub vs : List Value
  pub values : AreValues table signature d ss vs
  pub matched : all_match clause.patterns vs ≡ true
  pub unmatched : one_matches (patterns_of clause.function before) vs ≡ false

-- each of the first `m` clauses matches values that no earlier clause of its function matches
abbrev pub AreNeeded : ConTable → Signature → List Clause → List Head → ℕ → Type 0
AreNeeded table signature clauses heads m =
    (before : List Clause) (c : Clause) (rest : List Clause) → clauses ≡ before ++ c ∷ rest → length before < m →
    HasDistinct table → HasConstructors table signature → HasValues table signature → (d : ℕ) (head : Head) → slice_get heads c.function ≡ Some head → AllTypes signature head.args →
    AreTyped table signature c.function head.args d clauses → IsNeeded table signature head.args d c before

-- which clauses an answer shows to be needed: all, those up to one that is too many, or those before a redundant one
abbrev pub ShowsNeeded : ConTable → Signature → List Clause → List Head → Result (List Clause) PatternFault → Type 0
ShowsNeeded table signature clauses heads (Ok out) = AreNeeded table signature clauses heads (length clauses)
ShowsNeeded table signature clauses heads (Err (TooMany n)) = AreNeeded table signature clauses heads n
ShowsNeeded table signature clauses heads (Err (Redundant n)) = (m : ℕ) → n ≡ m + 1 → AreNeeded table signature clauses heads m
ShowsNeeded table signature clauses heads (Err _) = Unit {0}
