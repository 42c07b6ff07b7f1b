-- The causes of a bad line, and their names.
use Rattle.std.specs.Prelude.{ℕ, List, codes}
use Rattle.fp_lines.specs.declared.cause.LineCause.{LineCause}
use Rattle.fp_lines.specs.declared.cause.LineCause.TheVariants.{BadArgs, NoSuchLine, NoSuchTheorem, UnknownName, BadArity, Clash, TypeTooLarge, NotEquation, NotRedex, NotBool, Shape, Differ, FreeInHyps, IllTyped}
use Rattle.fp_lines.specs.declared.fault.LineFault.{LineFault}
use Rattle.fp_lines.specs.declared.fault.LineFault.TheVariants as line
use Rattle.fp_conclude.specs.declared.fault.RuleFault.{RuleFault}
use Rattle.fp_conclude.specs.declared.fault.RuleFault.TheVariants as rule
use Rattle.fp_infer.specs.declared.fault.InferFault.{InferFault}
use Rattle.fp_infer.specs.declared.fault.InferFault.TheVariants as infer

abbrev pub cause_text : LineCause → List ℕ
cause_text BadArgs = codes "BadArgs"
cause_text NoSuchLine = codes "NoSuchLine"
cause_text NoSuchTheorem = codes "NoSuchTheorem"
cause_text UnknownName = codes "UnknownName"
cause_text BadArity = codes "BadArity"
cause_text Clash = codes "Clash"
cause_text TypeTooLarge = codes "TypeTooLarge"
cause_text NotEquation = codes "NotEquation"
cause_text NotRedex = codes "NotRedex"
cause_text NotBool = codes "NotBool"
cause_text Shape = codes "Shape"
cause_text Differ = codes "Differ"
cause_text FreeInHyps = codes "FreeInHyps"
cause_text IllTyped = codes "IllTyped"

-- the cause that a form's own fault is told as; no form that a line calls has the last two but one
abbrev pub cause_of : RuleFault → LineFault
cause_of (rule.UnknownName name) = line.Bad UnknownName
cause_of (rule.IllTyped place) = line.Bad IllTyped
cause_of rule.NotEquation = line.Bad NotEquation
cause_of rule.NotRedex = line.Bad NotRedex
cause_of rule.NotBool = line.Bad NotBool
cause_of rule.Shape = line.Bad Shape
cause_of (rule.Differ t u) = line.Bad Differ
cause_of (rule.FreeInHyps name) = line.Bad FreeInHyps
cause_of (rule.NoSuchPromise number) = line.Bad Shape
cause_of (rule.PromiseOrder number) = line.Bad Shape
cause_of rule.NoMemory = line.NoMemory

-- the cause that a fault of a written term is told as
abbrev pub cause_in_term : InferFault → LineFault
cause_in_term (infer.UnknownName name at) = line.Bad UnknownName
cause_in_term (infer.BadArity name at) = line.Bad BadArity
cause_in_term (infer.Clash at) = line.Bad Clash
cause_in_term (infer.TypeTooLarge at) = line.Bad TypeTooLarge
cause_in_term infer.NoMemory = line.NoMemory
