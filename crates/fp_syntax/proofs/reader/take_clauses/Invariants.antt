use Rattle.std.proofs.Common.{◌≤◌, length}
use Rattle.fp_words.specs.declared.word.Word.TheVariants.{Bar}
use Rattle.fp_commands.specs.Grammar.{Parted, TermAt, file_limits}
use Rattle.fp_syntax.proofs.reader.take_clauses.Given as goal

abbrev pub invariant-loop-alloc : goal.invariant-loop-alloc
invariant-loop-alloc l = (length l.cursor.rest.now ≤ length l.initial.cursor.rest.now) × Parted Bar (TermAt file_limits) l.fn.cursor.rest.now l.clauses l.cursor.rest.now

abbrev pub decreases-loop-alloc : goal.decreases-loop-alloc
decreases-loop-alloc l = length l.cursor.rest.now
