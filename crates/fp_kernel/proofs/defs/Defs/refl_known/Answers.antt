use Rattle.fp_conclude.specs.Logic.{equal}
use Rattle.fp_kernel.specs.Theorems.{plain}
use Rattle.fp_kernel.proofs.Unchecked.{by_refl, at_each_type}
use Rattle.fp_kernel.proofs.defs.Defs.refl_known.Goals as goal

pub known_type-requires : goal.known_type-requires
known_type-requires c = (c.requires.0, c.requires.1.typed)

pub plain-requires-clause-derived : goal.plain-requires-clause-derived
plain-requires-clause-derived c =
    rw (c.new.ensures, c.in_ok-concl.ensures) (by_refl c.args.self.now c.args.term.now c.in_ok-ty.ty c.requires c.in_ok-ty.ensures)

pub returns : goal.returns
returns c =
    at_each_type c.plain.result c.args.term.now (λ s. plain c.args.self.now (equal s c.args.term.now c.args.term.now)) c.in_ok-ty.ty c.in_ok-ty.ensures
    (rw (c.new.ensures, c.in_ok-concl.ensures) at c.plain.ensures)
