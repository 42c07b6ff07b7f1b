use Rattle.std.proofs.Common.{◌≤◌, length}
use Rattle.fp_words.specs.declared.word.Keyword.TheVariants.{And}
use Rattle.fp_words.specs.declared.word.Word.TheVariants.{Reserved}
use Rattle.fp_commands.specs.Grammar.{Parted, HeadAt, file_limits}
use Rattle.fp_syntax.proofs.reader.take_heads.Given as goal

abbrev pub invariant-loop-alloc : goal.invariant-loop-alloc
invariant-loop-alloc l = (length l.cursor.rest.now ≤ length l.initial.cursor.rest.now) × Parted (Reserved And) (HeadAt file_limits) l.fn.cursor.rest.now l.heads l.cursor.rest.now

abbrev pub decreases-loop-alloc : goal.decreases-loop-alloc
decreases-loop-alloc l = length l.cursor.rest.now
