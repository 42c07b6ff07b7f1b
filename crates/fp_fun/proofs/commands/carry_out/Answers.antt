use Rattle.fp_theory.proofs.Marks.{most_back}
use Rattle.fp_fun.proofs.commands.carry_out.Goals as goal

pub back_to-requires-clause-most : goal.back_to-requires-clause-most
back_to-requires-clause-most c = most_back c.args.theory.now c.carried_out.new.theory c.mark-before.result c.mark-before.ensures.mark c.carried_out.ensures.extends
