use Rattle.std.proofs.Common.{rules, arith, ◌≡◌, length, get_or, None}
use Rattle.std.proofs.lemmas.Grind.{common_steps}
use Rattle.fp_order.specs.Numbers.{place_of}
use Rattle.fp_order.proofs.Gained.{gains_new}
use Rattle.fp_order.proofs.numbering.add.Goals as goal

pub returns-in_ok-push : goal.returns-in_ok-push
returns-in_ok-push c =
    let g = c.args.g.now in
    let at : c.place-place.result ≡ place_of g c.args.cell = c.place-place.ensures.value in
    let none : get_or c.args.numbered.now.numbers.items (place_of g c.args.cell) None ≡ None = grind (arith, common_steps) in
    let number : c.in-Ok.number ≡ length c.args.numbered.now.cells.items = search rules in
    gains_new g c.args.numbered.now _ c.args.cell c.requires.numbered c.requires.cell none c.in_ok-push.ensures.items (cc)
