use Rattle.std.proofs.Common.{◌≤◌, length}
use Rattle.fp_commands.specs.Grammar.{Many, LineAt, file_limits}
use Rattle.fp_syntax.proofs.line.take_lines.Given as goal

abbrev pub invariant-loop-alloc : goal.invariant-loop-alloc
invariant-loop-alloc l = (length l.cursor.rest.now ≤ length l.initial.cursor.rest.now) × Many (LineAt file_limits) l.initial.cursor.rest.now l.lines l.cursor.rest.now × (length l.lines ≤ 4000)

abbrev pub decreases-loop-alloc : goal.decreases-loop-alloc
decreases-loop-alloc l = length l.cursor.rest.now
