use Rattle.std.proofs.Common.{arith, ◌≡◌, get_or, sym, ◌∙◌, Some, None}
use Rattle.std.proofs.lemmas.Grind.{common_steps}
use Rattle.fp_order.specs.Grid.{number_in, cells_of}
use Rattle.fp_order.specs.Numbers.{place_of}
use Rattle.fp_order.proofs.Numbered.{number_at}
use Rattle.fp_order.proofs.Table.{has_number}
use Rattle.fp_order.proofs.numbering.CellTable.number.Goals as goal

pub returns-in-Some-clause-inside : goal.returns-in-Some-clause-inside
returns-in-Some-clause-inside c =
    let g = c.args.g.now in
    let at : get_or c.args.self.now.numbers.items (place_of g c.args.cell) None ≡ Some c.in-Some.number = grind (arith, common_steps) in
    (number_at (cells_of g) c.args.cell c.in-Some.number (sym (c.requires.table.numbers c.args.cell c.requires.cell) ∙ at)).0

pub returns-in-None-clause-inside : goal.returns-in-None-clause-inside
returns-in-None-clause-inside c =
    let g = c.args.g.now in
    let at : get_or c.args.self.now.numbers.items (place_of g c.args.cell) None ≡ None = grind (arith, common_steps) in
    let none : number_in (cells_of g) c.args.cell ≡ None = sym (c.requires.table.numbers c.args.cell c.requires.cell) ∙ at in
    let t = has_number g c.args.cell c.requires.cell in
    absurd (let some = t.1 in cc)
