use Rattle.std.proofs.Common.{◌≤◌, length}
use Rattle.fp_words.specs.declared.word.Word.TheVariants.{Comma}
use Rattle.fp_commands.specs.Grammar.{Parted, NameAt}
use Rattle.fp_syntax.proofs.reader.take_names.Given as goal

abbrev pub invariant-loop-cursor : goal.invariant-loop-cursor
invariant-loop-cursor l = (length l.cursor.rest.now ≤ length l.initial.cursor.rest.now) × Parted Comma NameAt l.fn.cursor.rest.now l.names l.cursor.rest.now

abbrev pub decreases-loop-cursor : goal.decreases-loop-cursor
decreases-loop-cursor l = length l.cursor.rest.now
