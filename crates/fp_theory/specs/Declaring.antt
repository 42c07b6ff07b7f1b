-- What declaring a rule makes of a theory, or why it is refused.
use Rattle.std.specs.Prelude.{◌≡◌, ℕ, List, Option, Some, None, Result, Ok, Err}
use Rattle.fp_kernel.specs.Theorems.{Theorem}
use Rattle.fp_cong_rule.specs.Reading.{cong_rule_of}
use Rattle.fp_rewriting.specs.declared.rule.Rule.{Rule}
use Rattle.fp_rewriting.specs.Reading.{rule_of}
use Rattle.fp_theory.specs.State.{State, found_theorem, IsRewriteRule, IsCongRule, with_simp, with_cong}
use Rattle.fp_theory.specs.declared.fault.RuleShapeFault.{RuleShapeFault}
use Rattle.fp_theory.specs.declared.fault.RuleShapeFault.TheVariants.{NoSuchTheorem, NotRuleShape, NoMemory}

-- there is no theorem of that name
pub record IsMissing (named : List (List ℕ × Theorem)) (name missing : List ℕ) : Type 0 where
  pub none : found_theorem name named ≡ None
  pub is : missing ≡ name

-- the theorem of that name states no rule of rewriting, or no congruence rule
pub record IsNoRewriteRule (named : List (List ℕ × Theorem)) (name : List ℕ) : Type 0 where
  pub theorem : Theorem
  pub found : found_theorem name named ≡ Some theorem
  pub reads : rule_of name theorem.concl ≡ None

pub record IsNoCongRule (named : List (List ℕ × Theorem)) (name : List ℕ) : Type 0 where
  pub theorem : Theorem
  pub found : found_theorem name named ≡ Some theorem
  pub reads : cong_rule_of name theorem.concl ≡ None

-- does the name stand for a rule?
abbrev pub ReadsSimp : List (List ℕ × Theorem) → List ℕ → Result (Unit {0}) RuleShapeFault → Type 0
ReadsSimp named name (Ok u) = IsRewriteRule named name
ReadsSimp named name (Err (NoSuchTheorem missing)) = IsMissing named name missing
ReadsSimp named name (Err NotRuleShape) = IsNoRewriteRule named name
ReadsSimp named name (Err NoMemory) = Unit {0}

abbrev pub ReadsCong : List (List ℕ × Theorem) → List ℕ → Result (Unit {0}) RuleShapeFault → Type 0
ReadsCong named name (Ok u) = IsCongRule named name
ReadsCong named name (Err (NoSuchTheorem missing)) = IsMissing named name missing
ReadsCong named name (Err NotRuleShape) = IsNoCongRule named name
ReadsCong named name (Err NoMemory) = Unit {0}

abbrev pub IsNoSuchTheorem : List ℕ → RuleShapeFault → Type 0
IsNoSuchTheorem name (NoSuchTheorem missing) = missing ≡ name
IsNoSuchTheorem name NotRuleShape = ⊥
IsNoSuchTheorem name NoMemory = Unit {0}

-- nothing is wrong where there is a rule
abbrev pub IsUnlessNone : Option Rule → Result (Unit {0}) RuleShapeFault → Type 0
IsUnlessNone (Some rule) (Ok u) = Unit {0}
IsUnlessNone (Some rule) (Err fault) = ⊥
IsUnlessNone None (Ok u) = ⊥
IsUnlessNone None (Err NotRuleShape) = Unit {0}
IsUnlessNone None (Err (NoSuchTheorem missing)) = ⊥
IsUnlessNone None (Err NoMemory) = ⊥

-- a declared name more, or all as it was
abbrev pub DeclaresSimp : State → State → List ℕ → Result (Unit {0}) RuleShapeFault → Type 0
DeclaresSimp old new name (Ok u) = new ≡ with_simp name old
DeclaresSimp old new name (Err fault) = new ≡ old

abbrev pub DeclaresCong : State → State → List ℕ → Result (Unit {0}) RuleShapeFault → Type 0
DeclaresCong old new name (Ok u) = new ≡ with_cong name old
DeclaresCong old new name (Err fault) = new ≡ old
