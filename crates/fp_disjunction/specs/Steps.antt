-- Theorems of a known form.
use Rattle.std.specs.Prelude.{◌≡◌, List, codes}
use Rattle.fp_term.specs.Terms.{Tm}
use Rattle.fp_conclude.specs.Logic.{negation}
use Rattle.fp_conclude.specs.Hypotheses.{without}
use Rattle.fp_kernel.specs.Definitions.{Def, Within}
use Rattle.fp_kernel.specs.Start.{signature_of}
use Rattle.fp_kernel.specs.Derivability.{IsFormula}
use Rattle.fp_kernel.specs.Theorems.{Theorem}
use Rattle.fp_logic.specs.Steps.{IsJoined}

-- a theorem of a negation, and of a disjunction
abbrev pub IsNegation : List Def → Theorem → Tm → Type 0
IsNegation defs a p = Within a.defs defs × (a.concl ≡ negation p) × IsFormula (signature_of defs) p

abbrev pub IsDisjunction : List Def → Theorem → Tm → Tm → Type 0
IsDisjunction defs a l r = IsJoined (codes "or") defs a l r

-- with the hypotheses of a theorem but two
abbrev pub without_both : List Def → Tm → Tm → Theorem → Tm → Theorem
without_both defs t u a p = record { defs = defs; promises = a.promises; hyps = without u (without t a.hyps); concl = p }
