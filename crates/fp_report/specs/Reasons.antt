-- The line of a refusal.
use Rattle.std.specs.Prelude.{ℕ, nat_le, ◌==◌, ◌||◌, Bool, if◌then◌else◌, List, [], ◌∷◌, ◌++◌, map, Option, Some, None, codes}
use Rattle.std.specs.Fmt.{decimal}
use Rattle.fp_term.specs.declared.statement.Statement.{Statement}
use Rattle.fp_report.specs.Texts.{statement_text, IsShownStatement}
use Rattle.fp_report.specs.Matrices.{matrix_lines, IsShownMatrix}
use Rattle.fp_report.specs.declared.reason.Kind.{Kind}
use Rattle.fp_report.specs.declared.reason.Kind.TheVariants as kind
use Rattle.fp_report.specs.declared.reason.Naming.{Naming}
use Rattle.fp_report.specs.declared.reason.Naming.TheVariants as naming
use Rattle.fp_report.specs.declared.reason.Cause.{Cause}
use Rattle.fp_report.specs.declared.reason.Cause.TheVariants as cause
use Rattle.fp_report.specs.declared.reason.Clausal.{Clausal}
use Rattle.fp_report.specs.declared.reason.Clausal.TheVariants as clausal
use Rattle.fp_report.specs.declared.reason.Variable.{Variable}
use Rattle.fp_report.specs.declared.reason.Variable.TheVariants as variable
use Rattle.fp_report.specs.declared.reason.Reason.{Reason}
use Rattle.fp_report.specs.declared.reason.Reason.TheVariants.{Plain, Of, BadRuleName, BadLine, WrongEnd, InClause, OfVariable, NotPattern, TooManyCalls, NoOrder}

abbrev pub kind_text : Kind → List ℕ
kind_text kind.BadByte = codes "BadByte"
kind_text kind.OpenQuote = codes "OpenQuote"
kind_text kind.NameTooLong = codes "NameTooLong"
kind_text kind.Syntax = codes "Syntax"
kind_text kind.TooDeep = codes "TooDeep"
kind_text kind.TooLarge = codes "TooLarge"
kind_text kind.NumberTooLarge = codes "NumberTooLarge"
kind_text kind.TooLong = codes "TooLong"
kind_text kind.Clash = codes "Clash"
kind_text kind.TypeTooLarge = codes "TypeTooLarge"
kind_text kind.NotBool = codes "NotBool"
kind_text kind.NotInhabitedForm = codes "NotInhabitedForm"
kind_text kind.NotRuleShape = codes "NotRuleShape"
kind_text kind.NotMeasure = codes "NotMeasure"
kind_text kind.NotBuilt = codes "NotBuilt"
kind_text kind.TooManyFunctions = codes "TooManyFunctions"

-- a type variable has its apostrophe
abbrev pub naming_text : Naming → List ℕ
naming_text naming.NameTaken = codes "NameTaken "
naming_text naming.UnknownName = codes "UnknownName "
naming_text naming.BadArity = codes "BadArity "
naming_text naming.NotClosed = codes "NotClosed "
naming_text naming.HiddenType = codes "HiddenType '"
naming_text naming.NoSuchTheorem = codes "NoSuchTheorem "
naming_text naming.NotConstructor = codes "NotConstructor "
naming_text naming.LacksLemma = codes "LacksLemma "
naming_text naming.NoClause = codes "NoClause "
naming_text naming.NotProved = codes "NotProved "
naming_text naming.HidingFunction = codes "HiddenType "

abbrev pub cause_text : Cause → List ℕ
cause_text cause.BadArgs = codes "BadArgs"
cause_text cause.NoSuchLine = codes "NoSuchLine"
cause_text cause.NoSuchTheorem = codes "NoSuchTheorem"
cause_text cause.UnknownName = codes "UnknownName"
cause_text cause.BadArity = codes "BadArity"
cause_text cause.Clash = codes "Clash"
cause_text cause.TypeTooLarge = codes "TypeTooLarge"
cause_text cause.NotEquation = codes "NotEquation"
cause_text cause.NotRedex = codes "NotRedex"
cause_text cause.NotBool = codes "NotBool"
cause_text cause.Shape = codes "Shape"
cause_text cause.Differ = codes "Differ"
cause_text cause.FreeInHyps = codes "FreeInHyps"
cause_text cause.IllTyped = codes "IllTyped"

abbrev pub clausal_text : Clausal → List ℕ
clausal_text clausal.NotClause = codes "NotClause "
clausal_text clausal.ArityDiffers = codes "ArityDiffers "
clausal_text clausal.TooManyArguments = codes "TooManyArguments "
clausal_text clausal.Redundant = codes "Redundant "
clausal_text clausal.TooManyClauses = codes "TooManyClauses "
clausal_text clausal.PartialCall = codes "PartialCall "

abbrev pub variable_text : Variable → List ℕ
variable_text variable.NotBound = codes "NotBound "
variable_text variable.NonLinear = codes "NonLinear "

abbrev pub end_text : Bool → Option Statement → List ℕ
end_text full None = codes "WrongEnd nothing"
end_text full (Some s) = codes "WrongEnd " ++ statement_text full s

-- the kind of a refusal with its arguments
abbrev pub reason_text : Bool → Reason → List ℕ
reason_text full (Plain kind) = kind_text kind
reason_text full (Of naming name) = naming_text naming ++ name
reason_text full (BadRuleName line) = codes "BadRuleName " ++ decimal line
reason_text full (BadLine line cause) = codes "BadLine " ++ (decimal line ++ (codes " " ++ cause_text cause))
reason_text full (WrongEnd got) = end_text full got
reason_text full (InClause clausal clause) = clausal_text clausal ++ decimal clause
reason_text full (OfVariable variable clause name) = variable_text variable ++ (decimal clause ++ (codes " " ++ name))
reason_text full (NotPattern clause argument) = codes "NotPattern " ++ (decimal clause ++ (codes " " ++ decimal argument))
reason_text full (TooManyCalls number) = codes "TooManyCalls " ++ decimal number
reason_text full (NoOrder matrix) = codes "NoOrder"

-- the lines behind that of a refusal
abbrev pub reason_lines : Bool → Reason → List ℕ
reason_lines full (NoOrder matrix) = matrix_lines full matrix
reason_lines full _ = []

-- what is printed has no loose numbers
abbrev pub IsShownEnd : Option Statement → Type 0
IsShownEnd None = Unit {0}
IsShownEnd (Some s) = IsShownStatement s

abbrev pub IsShownReason : Reason → Type 0
IsShownReason (WrongEnd got) = IsShownEnd got
IsShownReason (NoOrder matrix) = IsShownMatrix matrix
IsShownReason _ = Unit {0}

-- a byte of a file's name as it is printed: a control byte is a question mark, so that a name is on one line
abbrev pub shown_byte : ℕ → ℕ
shown_byte b = if nat_le b 31 || (b == 127) then 63 else b

abbrev pub shown_file : List ℕ → List ℕ
shown_file name = map shown_byte name

-- `refused FILE at PLACE: KIND ARGS`, and the lines behind it
abbrev pub refusal_line : Bool → List ℕ → ℕ → Reason → List ℕ
refusal_line full file at reason = codes "refused " ++ (shown_file file ++ (codes " at " ++ (decimal at ++ (codes ": " ++ (reason_text full reason ++ (10 ∷ reason_lines full reason))))))
