use Rattle.std.proofs.Common.{List, ℕ, ◌∙◌, sym, subst}
use Rattle.std.proofs.lemmas.List.Elements.{All-same, All-get_or}
use Rattle.fp_order.specs.Grid.{IsColumn, columns_of, column_cells}
use Rattle.fp_order.proofs.CutLists.{columns_fit}
use Rattle.fp_order.proofs.Gained.{gains_columns}
use Rattle.fp_order.proofs.numbering.add_columns.Goals as goal

pub add_column-requires-clause-column : goal.add_column-requires-clause-column
add_column-requires-clause-column c =
    let functions = c.args.g.now.functions in
    let P : List ℕ → Type 0 = λ x. IsColumn functions x in
    let all = All-same P c.args.columns.now (columns_of functions) c.requires.columns (columns_fit functions) in
    subst P (sym (c.as_slice.ensures ∙ c.column-item.is)) (All-get_or P c.args.columns.now c.loop-column.column-index c.column-item.result c.loop-column-test.true all)

pub loop-column-preserved : goal.loop-column-preserved
loop-column-preserved c =
    gains_columns c.args.g.now c.args.numbered.now c.loop-column.numbered _ (column_cells c.args.g.now) c.args.columns.now c.loop-column.column-index c.column-item.result
    c.loop-column-test.true c.column-item.is c.loop-column.invariant (rw c.as_slice.ensures at c.in_ok-add_column.ensures)
