-- The lines of orders and of a descent matrix that leaves rows.
use Rattle.std.specs.Prelude.{ℕ, suc, Bool, List, [], ◌∷◌, ◌++◌, codes}
use Rattle.std.specs.Fmt.{decimal}
use Rattle.fp_term.specs.Terms.{Tm}
use Rattle.fp_order.specs.declared.entry.Entry.{Entry}
use Rattle.fp_order.specs.declared.entry.Entry.TheVariants.{Less, Leq, Unknown}
use Rattle.fp_report.specs.Texts.{term_text, with_commas}
use Rattle.fp_outcome.specs.Shown.{ListsHaveOnly, AreShownParts}
use Rattle.fp_outcome.specs.declared.item.OrderPart.{OrderPart}
use Rattle.fp_report.specs.Orders.{order_text}
use Rattle.fp_report.specs.declared.matrix.MatrixCell.{MatrixCell}
use Rattle.fp_report.specs.declared.matrix.RowVerdict.{RowVerdict}
use Rattle.fp_report.specs.declared.matrix.RowVerdict.TheVariants.{Decided, Left}
use Rattle.fp_report.specs.declared.matrix.MatrixRow.{MatrixRow}
use Rattle.fp_report.specs.declared.matrix.Matrix.{Matrix}

abbrev pub entry_text : Entry → List ℕ
entry_text Less = codes "<"
entry_text Leq = codes "<="
entry_text Unknown = codes "?"

-- `s-t e`
abbrev pub cell_text : MatrixCell → List ℕ
cell_text cell = decimal cell.source ++ (codes "-" ++ (decimal cell.target ++ (codes " " ++ entry_text cell.entry)))

abbrev pub cells_after : List MatrixCell → List ℕ
cells_after [] = []
cells_after (cell ∷ cells) = codes ", " ++ (cell_text cell ++ cells_after cells)

abbrev pub cells_text : List MatrixCell → List ℕ
cells_text [] = codes "none"
cells_text (cell ∷ cells) = cell_text cell ++ cells_after cells

abbrev pub verdict_text : RowVerdict → List ℕ
verdict_text (Decided position) = codes "decided by " ++ decimal position
verdict_text (Left cells) = codes "left: " ++ cells_text cells

-- `row N f -> g ..`
abbrev pub row_head : ℕ → MatrixRow → List ℕ
row_head number row = codes "row " ++ (decimal number ++ (codes " " ++ (row.caller ++ (codes " -> " ++ (row.callee ++ codes " ")))))

abbrev pub row_line : ℕ → MatrixRow → List ℕ
row_line number row = row_head number row ++ (verdict_text row.verdict ++ 10 ∷ [])

abbrev pub row_lines : ℕ → List MatrixRow → List ℕ
row_lines number [] = []
row_lines number (row ∷ rows) = row_line number row ++ row_lines (suc number) rows

-- `measure f N: TERM`
abbrev pub measure_line : Bool → List ℕ → ℕ → Tm → List ℕ
measure_line full function number measure = codes "measure " ++ (function ++ (codes " " ++ (decimal number ++ (codes ": " ++ (term_text full measure ++ 10 ∷ [])))))

abbrev pub measure_lines : Bool → List ℕ → ℕ → List Tm → List ℕ
measure_lines full function number [] = []
measure_lines full function number (measure ∷ measures) = measure_line full function number measure ++ measure_lines full function (suc number) measures

abbrev pub measures_lines : Bool → List (List ℕ) → List (List Tm) → List ℕ
measures_lines full [] measures = []
measures_lines full (function ∷ functions) [] = []
measures_lines full (function ∷ functions) (own ∷ measures) = measure_lines full function 1 own ++ measures_lines full functions measures

-- `order f1, f2: ORDER`
abbrev pub order_line : Bool → List (List ℕ) → List OrderPart → List ℕ
order_line full functions parts = codes "order " ++ (with_commas functions ++ (codes ": " ++ (order_text full parts ++ 10 ∷ [])))

abbrev pub partial_line : Bool → List (List ℕ) → List OrderPart → List ℕ
partial_line full functions [] = []
partial_line full functions (part ∷ parts) = order_line full functions (part ∷ parts)

abbrev pub matrix_lines : Bool → Matrix → List ℕ
matrix_lines full m = partial_line full m.functions m.order ++ (measures_lines full m.functions m.measures ++ row_lines 1 m.rows)

-- terms without loose numbers can be printed
abbrev pub IsShownMatrix : Matrix → Type 0
IsShownMatrix m = ListsHaveOnly m.measures × AreShownParts m.order
