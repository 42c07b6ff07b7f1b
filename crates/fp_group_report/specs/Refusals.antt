-- What the refusal of a group says.
use Rattle.std.specs.Prelude.{◌≡◌}
use Rattle.fp_outcome.specs.declared.fault.FunFault.{FunFault}
use Rattle.fp_outcome.specs.declared.fault.FunFault.TheVariants as fault
use Rattle.fp_report.specs.declared.matrix.Matrix.{Matrix}
use Rattle.fp_report.specs.declared.reason.Kind.TheVariants as kind
use Rattle.fp_report.specs.declared.reason.Naming.TheVariants as naming
use Rattle.fp_report.specs.declared.reason.Clausal.TheVariants as clausal
use Rattle.fp_report.specs.declared.reason.Variable.TheVariants as variable
use Rattle.fp_report.specs.declared.reason.Reason.{Reason}
use Rattle.fp_report.specs.declared.reason.Reason.TheVariants.{Plain, Of, InClause, OfVariable, NotPattern, TooManyCalls, NoOrder}
use Rattle.fp_report.specs.declared.refusal.Refusal.{Refusal}

-- the place and the reason are the fault's
abbrev pub Explains : FunFault → Refusal → Type 0
Explains (fault.NameTaken at name) r = r ≡ record { at = at; reason = Of naming.NameTaken name }
Explains (fault.UnknownName at name) r = r ≡ record { at = at; reason = Of naming.UnknownName name }
Explains (fault.BadArity at name) r = r ≡ record { at = at; reason = Of naming.BadArity name }
Explains (fault.NoClause at name) r = r ≡ record { at = at; reason = Of naming.NoClause name }
Explains (fault.HiddenType at name) r = r ≡ record { at = at; reason = Of naming.HidingFunction name }
Explains (fault.LacksLemma at name) r = r ≡ record { at = at; reason = Of naming.LacksLemma name }
Explains (fault.NotProved at name) r = r ≡ record { at = at; reason = Of naming.NotProved name }
Explains (fault.Clash at) r = r ≡ record { at = at; reason = Plain kind.Clash }
Explains (fault.TypeTooLarge at) r = r ≡ record { at = at; reason = Plain kind.TypeTooLarge }
Explains (fault.TooManyFunctions at) r = r ≡ record { at = at; reason = Plain kind.TooManyFunctions }
Explains (fault.NotClause at clause) r = r ≡ record { at = at; reason = InClause clausal.NotClause clause }
Explains (fault.ArityDiffers at clause) r = r ≡ record { at = at; reason = InClause clausal.ArityDiffers clause }
Explains (fault.TooManyArguments at clause) r = r ≡ record { at = at; reason = InClause clausal.TooManyArguments clause }
Explains (fault.Redundant at clause) r = r ≡ record { at = at; reason = InClause clausal.Redundant clause }
Explains (fault.TooManyClauses at clause) r = r ≡ record { at = at; reason = InClause clausal.TooManyClauses clause }
Explains (fault.PartialCall at clause) r = r ≡ record { at = at; reason = InClause clausal.PartialCall clause }
Explains (fault.NotBound at clause name) r = r ≡ record { at = at; reason = OfVariable variable.NotBound clause name }
Explains (fault.NonLinear at clause name) r = r ≡ record { at = at; reason = OfVariable variable.NonLinear clause name }
Explains (fault.NotPattern at clause argument) r = r ≡ record { at = at; reason = NotPattern clause argument }
Explains (fault.TooManyCalls at number) r = r ≡ record { at = at; reason = TooManyCalls number }
Explains (fault.NoOrder at names measures rows found left) r =
    (matrix : Matrix) × (r ≡ record { at = at; reason = NoOrder matrix }) × (matrix.functions ≡ names) × (matrix.measures ≡ measures)
Explains fault.NoMemory r = ⊥
