-- Why a file's tokens are no commands, as the reader says.
use Rattle.std.specs.Prelude.{◌≡◌, ℕ}
use Rattle.fp_syntax.specs.declared.cursor.SyntaxFault.{SyntaxFault}
use Rattle.fp_syntax.specs.declared.cursor.SyntaxFault.TheVariants as syntax
use Rattle.fp_report.specs.declared.reason.Kind.TheVariants as kind
use Rattle.fp_report.specs.declared.reason.Reason.{Reason}
use Rattle.fp_report.specs.declared.reason.Reason.TheVariants.{Plain}

-- a fault of tokens, with its place
abbrev pub IsExplained : SyntaxFault → ℕ → Reason → Type 0
IsExplained (syntax.Refused p) at reason = (at ≡ p) × (reason ≡ Plain kind.Syntax)
IsExplained (syntax.NameTooLong p) at reason = (at ≡ p) × (reason ≡ Plain kind.NameTooLong)
IsExplained (syntax.TooDeep p) at reason = (at ≡ p) × (reason ≡ Plain kind.TooDeep)
IsExplained (syntax.TooLarge p) at reason = (at ≡ p) × (reason ≡ Plain kind.TooLarge)
IsExplained (syntax.NumberTooLarge p) at reason = (at ≡ p) × (reason ≡ Plain kind.NumberTooLarge)
IsExplained syntax.NoMemory at reason = ⊥

-- the reader refuses the tokens so; that they are no commands then isn't said
abbrev pub IsUnreadable : ℕ → Reason → Type 0
IsUnreadable at reason = (fault : SyntaxFault) × IsExplained fault at reason
