use Rattle.std.proofs.Common.{length}
use Rattle.fp_commands.specs.Grammar.{Many, CommandAt, file_limits}
use Rattle.fp_syntax.proofs.reader.read_commands.Given as goal

abbrev pub invariant-loop-cursor : goal.invariant-loop-cursor
invariant-loop-cursor l = Many (CommandAt file_limits) l.words l.commands l.cursor.rest.now

abbrev pub decreases-loop-cursor : goal.decreases-loop-cursor
decreases-loop-cursor l = length l.cursor.rest.now
