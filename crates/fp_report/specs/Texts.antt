-- The texts of statements, types, terms and lists of names.
use Rattle.std.specs.Prelude.{ℕ, Bool, if◌then◌else◌, List, [], ◌∷◌, ◌++◌, codes}
use Rattle.fp_term.specs.Types.{Typ}
use Rattle.fp_term.specs.Terms.{Tm}
use Rattle.fp_term.specs.declared.statement.Statement.{Statement}
use Rattle.fp_full.specs.Printing.{printed, printed_type, printed_statement}
use Rattle.fp_print.specs.Texts.{short_statement, short_term}
use Rattle.fp_print.specs.Types.{short_type}
use Rattle.fp_print.specs.Numbers.{HasOnly, AllHaveOnly}

-- the text of a statement, in the full form or the short one
abbrev pub statement_text : Bool → Statement → List ℕ
statement_text full s = if full then printed_statement s.hyps s.concl else short_statement s.hyps s.concl

-- the texts of a type and of a term, in the full form or the short one
abbrev pub type_text : Bool → Typ → List ℕ
type_text full ty = if full then printed_type ty else short_type ty

abbrev pub term_text : Bool → Tm → List ℕ
term_text full t = if full then printed t else short_term t

-- terms without loose numbers can be printed
abbrev pub IsShownStatement : Statement → Type 0
IsShownStatement s = AllHaveOnly 0 s.hyps × HasOnly 0 s.concl

-- names with commas between them
abbrev pub commas_before : List (List ℕ) → List ℕ
commas_before [] = []
commas_before (name ∷ names) = codes ", " ++ (name ++ commas_before names)

abbrev pub with_commas : List (List ℕ) → List ℕ
with_commas [] = []
with_commas (name ∷ names) = name ++ commas_before names
