use Rattle.std.proofs.Common.{◌≡◌, refl, subst}
use Rattle.std.specs.Prelude.{IfOk}
use Rattle.fp_kernel.specs.Theorems.{Theorem}
use Rattle.fp_logic.proofs.Choosers.{choice_from}
use Rattle.fp_logic.proofs.choosing.choice_of.Goals as goal

pub instance-requires-clause-whole : goal.instance-requires-clause-whole
instance-requires-clause-whole c = rw c.requires.schema refl

pub instance-requires-clause-first : goal.instance-requires-clause-first
instance-requires-clause-first c = c.requires.left

pub instance-requires-clause-second : goal.instance-requires-clause-second
instance-requires-clause-second c = c.requires.right

pub returns : goal.returns
returns c =
    subst (λ (x : Theorem). IfOk c.instance.result (λ th. th ≡ x)) (choice_from c.args.defs.now c.args.schema.now c.args.first c.args.left.now c.args.right.now c.requires.schema) c.instance.ensures

--
