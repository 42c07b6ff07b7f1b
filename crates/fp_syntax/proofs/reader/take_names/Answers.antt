use Rattle.std.proofs.Common.{arith}
use Rattle.fp_words.specs.declared.word.Word.TheVariants.{Comma}
use Rattle.fp_commands.specs.Grammar.{NameAt}
use Rattle.fp_commands.proofs.Steps.{parted_one, parted_snoc}
use Rattle.fp_syntax.proofs.reader.take_names.Goals as goal

pub loop-cursor-init : goal.loop-cursor-init
loop-cursor-init c = (omega arith, rw (c.in_ok-push.ensures.ok, c.new-names.ensures) (parted_one Comma NameAt _ _ _ c.in_ok-take_name.ensures.reads))

pub loop-cursor-preserved : goal.loop-cursor-preserved
loop-cursor-preserved c = (
  omega (arith, c.loop-cursor.invariant.0, c.in_ok-take_sign.ensures.shorter, c.in_ok-take_name-2.ensures.shorter),
  rw c.in_ok-push-2.ensures.ok (parted_snoc Comma NameAt _ _ _ _ _ _ c.loop-cursor.invariant.1 c.in_ok-take_sign.ensures.reads c.in_ok-take_name-2.ensures.reads),
)
