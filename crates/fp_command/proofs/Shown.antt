-- Formulas have no loose numbers.
use Rattle.std.proofs.Common.{◌≡◌, List, [], ◌∷◌, Some, None}
use Rattle.fp_term.specs.declared.statement.Statement.{Statement}
use Rattle.fp_term.specs.Terms.{Tm}
use Rattle.fp_term.specs.declared.signature.Signature.{Signature}
use Rattle.fp_conclude.specs.Logic.{truth_type}
use Rattle.fp_kernel.specs.Derivability.{IsFormula, AreFormulas}
use Rattle.fp_print.specs.Numbers.{HasOnly, AllHaveOnly}
use Rattle.fp_print.proofs.Loose.{typed_has_only}
use Rattle.fp_report.specs.Texts.{IsShownStatement}
use Rattle.fp_lines.specs.declared.fault.ProofFault.{ProofFault}
use Rattle.fp_lines.specs.declared.fault.ProofFault.TheVariants.{BadRuleName, BadLine, WrongEnd, NoMemory}
use Rattle.fp_kernel.specs.Definitions.{Def}
use Rattle.fp_kernel.specs.Start.{signature_of}
use Rattle.fp_lines.specs.Checks.{FaultShown}
use Rattle.fp_command.specs.Outcome.{stated}
use Rattle.fp_command.specs.Answers.{IsShownProof}

pub formula_has_only : (signature : Signature) (t : Tm) → IsFormula signature t → HasOnly 0 t
formula_has_only signature t h = typed_has_only [] t truth_type h.typed

pub formulas_have_only : (signature : Signature) (ts : List Tm) → AreFormulas signature ts → AllHaveOnly 0 ts
formulas_have_only signature [] h = tt
formulas_have_only signature (t ∷ ts) h = (formula_has_only signature t h.0, formulas_have_only signature ts h.1)

-- so a theorem without hypotheses can be printed
pub stated_shown : (signature : Signature) (t : Tm) → IsFormula signature t → IsShownStatement (stated t)
stated_shown signature t h = (tt, formula_has_only signature t h)

pub statement_shown : (signature : Signature) (s : Statement) (t : Tm) → s.hyps ≡ [] → s.concl ≡ t → IsFormula signature t → IsShownStatement s
statement_shown signature s t h e f = rw (h, e) (tt, formula_has_only signature t f)

pub ends_shown : (defs : List Def) (fault : ProofFault) → FaultShown defs fault → IsShownProof fault
ends_shown defs (BadRuleName line) e = tt
ends_shown defs (BadLine line cause) e = tt
ends_shown defs (WrongEnd None) e = tt
ends_shown defs (WrongEnd (Some s)) e = (formulas_have_only (signature_of defs) s.hyps e.hyps, formula_has_only (signature_of defs) s.concl e.concl)
ends_shown defs NoMemory e = tt
