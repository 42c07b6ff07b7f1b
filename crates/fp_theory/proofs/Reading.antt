-- What a name stands for, by the rule that its theorem states.
use Rattle.std.proofs.Common.{◌≡◌, ℕ, List, sym}
use Rattle.std.specs.Prelude.{Option, Some, None, Result, Ok, Err}
use Rattle.fp_kernel.specs.Theorems.{Theorem}
use Rattle.fp_rewriting.specs.declared.rule.Rule.{Rule}
use Rattle.fp_rewriting.specs.Reading.{rule_of}
use Rattle.fp_theory.specs.State.{found_theorem}
use Rattle.fp_theory.specs.Declaring.{IsUnlessNone, ReadsSimp}
use Rattle.fp_theory.specs.declared.fault.RuleShapeFault.{RuleShapeFault}
use Rattle.fp_theory.specs.declared.fault.RuleShapeFault.TheVariants.{NoSuchTheorem, NotRuleShape, NoMemory}

pub reads_simp : (named : List (List ℕ × Theorem)) (name : List ℕ) (th : Theorem) (o : Option Rule) (r : Result (Unit {0}) RuleShapeFault) →
    found_theorem name named ≡ Some th → o ≡ rule_of name th.concl → IsUnlessNone o r → ReadsSimp named name r
reads_simp named name th (Some rule) (Ok u) e f h = record { theorem = th; found = e; rule = rule; reads = sym f }
reads_simp named name th (Some rule) (Err fault) e f h = absurd h
reads_simp named name th None (Ok u) e f h = absurd h
reads_simp named name th None (Err NotRuleShape) e f h = record { theorem = th; found = e; reads = sym f }
reads_simp named name th None (Err (NoSuchTheorem missing)) e f h = absurd h
reads_simp named name th None (Err NoMemory) e f h = absurd h
