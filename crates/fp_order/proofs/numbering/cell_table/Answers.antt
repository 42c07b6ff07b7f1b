use Rattle.std.proofs.Common.{◌≡◌, List, length, ◌++◌, ◌∙◌, ap, subst}
use Rattle.std.specs.List.{flat_map}
use Rattle.fp_order.specs.declared.grid.Cell.{Cell}
use Rattle.fp_order.specs.Grid.{below, columns_of, column_cells, row_cells, all_added, cells_of}
use Rattle.fp_order.specs.Numbers.{TellsNumbers, Gains}
use Rattle.fp_order.proofs.Gained.{gains_both}
use Rattle.fp_order.proofs.numbering.cell_table.Goals as goal

pub returns : goal.returns
returns c =
    let g = c.args.g.now in
    let columns : c.as_slice-4.result.now ≡ columns_of g.functions = c.as_slice-4.ensures ∙ (c.in_ok-columns.ensures ∙ ap columns_of c.as_slice.ensures) in
    let first : Gains g c.in_ok-numbered.numbered c.add_columns.new.numbered (flat_map (column_cells g) (columns_of g.functions)) =
    rw columns at c.in_ok-add_columns.ensures in
    let rest = flat_map (row_cells g) (below (length g.rows)) in
    let all = gains_both g c.in_ok-numbered.numbered c.add_columns.new.numbered c.add_rows.new.numbered (flat_map (column_cells g) (columns_of g.functions)) rest first c.in_ok-add_rows.ensures in
    let cells : c.add_rows.new.numbered.cells.items ≡ cells_of g =
    all.cells ∙ ap (λ (t : List Cell). all_added t (flat_map (column_cells g) (columns_of g.functions) ++ rest)) c.in_ok-numbered.ensures.cells in
    let P : List Cell → Type 0 = λ t. TellsNumbers g t c.add_rows.new.numbered.numbers.items in
    record { cells = cells; starts = c.in_ok-starts.ensures; len = all.numbered.len; numbers = subst P cells all.numbered.numbers }
