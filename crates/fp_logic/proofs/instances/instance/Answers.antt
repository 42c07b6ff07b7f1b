use Rattle.std.proofs.Common.{List, refl, sym, ap, subst}
use Rattle.fp_kernel.specs.Definitions.{Def, Within, whole}
use Rattle.fp_kernel.specs.Theorems.{Theorem}
use Rattle.fp_logic.proofs.instances.instance.Goals as goal

pub instance_of-requires-clause-whole : goal.instance_of-requires-clause-whole
instance_of-requires-clause-whole c = rw c.requires.whole refl

pub instance_of-requires-clause-within : goal.instance_of-requires-clause-within
instance_of-requires-clause-within c = subst (λ (x : List Def). Within x c.args.defs.now) (sym (ap (λ (y : Theorem). y.defs) c.requires.whole)) whole
