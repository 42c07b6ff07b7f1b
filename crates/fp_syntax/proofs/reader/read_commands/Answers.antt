use Rattle.fp_commands.specs.Grammar.{no_more, CommandAt, file_limits}
use Rattle.fp_commands.proofs.Steps.{many_snoc}
use Rattle.fp_syntax.proofs.reader.read_commands.Goals as goal

pub loop-cursor-init : goal.loop-cursor-init
loop-cursor-init c = rw c.new-commands.ensures no_more

pub loop-cursor-preserved : goal.loop-cursor-preserved
loop-cursor-preserved c = rw c.in_ok-push.ensures.ok (many_snoc (CommandAt file_limits) _ _ _ _ _ c.loop-cursor.invariant c.in_ok-take_command.ensures.reads)
