use Rattle.std.proofs.Common.{◌≡◌, subst}
use Rattle.std.specs.Prelude.{IfOk}
use Rattle.fp_term.specs.Terms.{Tm}
use Rattle.fp_conclude.specs.Shapes.{right}
use Rattle.fp_kernel.specs.Theorems.{by_one}
use Rattle.fp_logic.proofs.Turning.{lifted_sides, lifted_equality, swap_asks, swap_gives}
use Rattle.fp_logic.proofs.equations.sym_known.Goals as goal

pub equality_of-requires : goal.equality_of-requires
equality_of-requires c = lifted_equality c.args.defs.now c.args.th.now c.args.ty.now c.args.left.now (right c.args.th.now.concl) c.requires.within c.concl-concl.ensures.derived c.requires.equation

pub refl_known-requires : goal.refl_known-requires
refl_known-requires c = (c.args.ty.now, (lifted_sides c.args.defs.now c.args.th.now c.args.ty.now c.args.left.now (right c.args.th.now.concl) c.requires.within c.concl-concl.ensures.derived c.requires.equation).left)

pub turn-requires : goal.turn-requires
turn-requires c =
    let h = lifted_sides c.args.defs.now c.args.th.now c.args.ty.now c.args.left.now (right c.args.th.now.concl) c.requires.within c.concl-concl.ensures.derived c.requires.equation in
    rw (c.in_ok-own.ensures c.args.ty.now h.left.typed, c.in_ok-equality.ensures) (swap_asks c.args.defs.now c.args.th.now c.args.ty.now c.args.left.now c.requires.within c.requires.equation)

pub returns : goal.returns
returns c =
    let h = lifted_sides c.args.defs.now c.args.th.now c.args.ty.now c.args.left.now (right c.args.th.now.concl) c.requires.within c.concl-concl.ensures.derived c.requires.equation in
    subst (λ (x : Tm). IfOk c.turn.result (λ th. th ≡ by_one c.args.defs.now c.args.th.now x)) (swap_gives c.args.th.now.concl c.args.ty.now c.args.left.now c.requires.equation) (rw (c.in_ok-own.ensures c.args.ty.now h.left.typed) at c.turn.ensures)
