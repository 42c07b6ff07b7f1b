use Rattle.std.proofs.Common.{List, ℕ, ◌∙◌, sym, subst, map, length}
use Rattle.std.proofs.lemmas.List.Elements.{All-same, All-get_or}
use Rattle.fp_order.specs.Grid.{IsColumn, below, cell_on, columns_of}
use Rattle.fp_order.specs.Numbers.{number_of}
use Rattle.fp_order.proofs.CutLists.{columns_fit}
use Rattle.fp_shown.proofs.Flat.{flat_more}
use Rattle.fp_shown.proofs.table.all_numbers.Goals as goal

pub add_numbers-requires-clause-column : goal.add_numbers-requires-clause-column
add_numbers-requires-clause-column c =
    let functions = c.args.g.now.functions in
    let P : List ℕ → Type 0 = λ x. IsColumn functions x in
    let all = All-same P c.args.columns.now (columns_of functions) c.requires.columns (columns_fit functions) in
    subst P (sym (c.as_slice.ensures ∙ c.column-item.is)) (All-get_or P c.args.columns.now c.loop-column.column-index c.column-item.result c.loop-column-test.true all)

pub loop-column-preserved : goal.loop-column-preserved
loop-column-preserved c =
    let g = c.args.g.now in
    flat_more (λ column. map (λ r. number_of g (cell_on g column r)) (below (length g.rows))) c.args.columns.now c.loop-column.column-index c.column-item.result c.loop-column.numbers.items _
    c.loop-column-test.true c.column-item.is c.loop-column.invariant (rw c.as_slice.ensures at c.in_ok-add_numbers.ensures)
