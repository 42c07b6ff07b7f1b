-- The lines of accepted items.
use Rattle.std.specs.Prelude.{ℕ, Bool, List, [], ◌∷◌, ◌++◌, codes}
use Rattle.fp_term.specs.Types.{Typ}
use Rattle.fp_term.specs.Terms.{Tm}
use Rattle.fp_term.specs.declared.statement.Statement.{Statement}
use Rattle.fp_print.specs.Numbers.{HasOnly}
use Rattle.fp_report.specs.Texts.{statement_text, type_text, term_text, with_commas, IsShownStatement}
use Rattle.fp_outcome.specs.Shown.{AreShownParts}
use Rattle.fp_report.specs.Matrices.{order_line}
use Rattle.fp_report.specs.declared.item.Item.{Item}
use Rattle.fp_report.specs.declared.item.Item.TheVariants.{Definition, Typedef, Theorem, Simp, Cong, Constructors, Size, Measure, Order}

abbrev pub IsShown : Item → Type 0
IsShown (Definition name s) = IsShownStatement s
IsShown (Typedef name s) = IsShownStatement s
IsShown (Theorem name s) = IsShownStatement s
IsShown (Simp name) = Unit {0}
IsShown (Cong name) = Unit {0}
IsShown (Constructors name names) = Unit {0}
IsShown (Size ty t) = HasOnly 0 t
IsShown (Measure ty t) = HasOnly 0 t
IsShown (Order names parts) = AreShownParts parts

abbrev pub AreShown : List Item → Type 0
AreShown [] = Unit {0}
AreShown (item ∷ items) = IsShown item × AreShown items

-- a word, a name and a statement
abbrev pub stated_line : Bool → List ℕ → List ℕ → Statement → List ℕ
stated_line full word name s = word ++ (name ++ (codes ": " ++ (statement_text full s ++ 10 ∷ [])))

-- a word and a name
abbrev pub named_line : List ℕ → List ℕ → List ℕ
named_line word name = word ++ (name ++ 10 ∷ [])

-- a word, a type and a term
abbrev pub measure_line : Bool → List ℕ → Typ → Tm → List ℕ
measure_line full word ty t = word ++ (type_text full ty ++ (codes ": " ++ (term_text full t ++ 10 ∷ [])))

abbrev pub item_line : Bool → Item → List ℕ
item_line full (Definition name s) = stated_line full (codes "definition ") name s
item_line full (Typedef name s) = stated_line full (codes "typedef ") name s
item_line full (Theorem name s) = stated_line full (codes "theorem ") name s
item_line full (Simp name) = named_line (codes "simp ") name
item_line full (Cong name) = named_line (codes "cong ") name
item_line full (Constructors name names) = codes "constructors " ++ (name ++ (codes ": " ++ (with_commas names ++ 10 ∷ [])))
item_line full (Size ty t) = measure_line full (codes "size ") ty t
item_line full (Measure ty t) = measure_line full (codes "measure ") ty t
item_line full (Order names parts) = order_line full names parts

-- the lines of items in order
abbrev pub item_lines : Bool → List Item → List ℕ
item_lines full [] = []
item_lines full (item ∷ items) = item_line full item ++ item_lines full items
