use Rattle.fp_kernel.proofs.Defined.{new_derived}
use Rattle.fp_kernel.proofs.defs.Defs.add.Goals as goal

pub plain-theorem-requires : goal.plain-theorem-requires
plain-theorem-requires c =
    rw (c.in_ok-copy.ensures, c.in_ok-list.ensures, c.in_ok-concl.ensures)
    (new_derived c.args.self.now c.args.name.now c.args.body.now c.args.ty.now c.requires)
