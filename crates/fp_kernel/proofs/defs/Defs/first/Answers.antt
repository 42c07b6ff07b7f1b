use Rattle.std.proofs.Common.{◌∙◌, ap}
use Rattle.fp_kernel.specs.Definitions.{oldest}
use Rattle.fp_kernel.proofs.Oldest.{oldest_length, oldest_within, first_fits, first_is}
use Rattle.fp_kernel.proofs.defs.Defs.first.Goals as goal

pub invariant_of-result : goal.invariant_of-result
invariant_of-result c =
    first_fits c.args.level c.in_ok-list.list c.args.self.now (c.in_ok-list.ensures ∙ c.first.ensures ∙ ap (oldest c.args.level) c.definitions.ensures) c.requires

pub returns-clause-exact : goal.returns-clause-exact
returns-clause-exact c =
    first_is c.args.level c.in_ok-list.list c.args.self.now (c.in_ok-list.ensures ∙ c.first.ensures ∙ ap (oldest c.args.level) c.definitions.ensures) c.requires

pub returns-clause-number : goal.returns-clause-number
returns-clause-number c =
    rw (first_is c.args.level c.in_ok-list.list c.args.self.now (c.in_ok-list.ensures ∙ c.first.ensures ∙ ap (oldest c.args.level) c.definitions.ensures) c.requires)
    (oldest_length c.args.level c.args.self.now c.requires)

pub returns-clause-within : goal.returns-clause-within
returns-clause-within c =
    rw (first_is c.args.level c.in_ok-list.list c.args.self.now (c.in_ok-list.ensures ∙ c.first.ensures ∙ ap (oldest c.args.level) c.definitions.ensures) c.requires)
    (oldest_within c.args.level c.args.self.now)
