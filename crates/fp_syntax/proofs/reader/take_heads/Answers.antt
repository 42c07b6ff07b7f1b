use Rattle.std.proofs.Common.{arith}
use Rattle.fp_words.specs.declared.word.Keyword.TheVariants.{And}
use Rattle.fp_words.specs.declared.word.Word.TheVariants.{Reserved}
use Rattle.fp_commands.specs.Grammar.{HeadAt, file_limits}
use Rattle.fp_commands.proofs.Steps.{parted_one, parted_snoc}
use Rattle.fp_syntax.proofs.reader.take_heads.Goals as goal

pub loop-alloc-init : goal.loop-alloc-init
loop-alloc-init c = (omega arith, rw (c.in_ok-push.ensures.ok, c.new-heads.ensures) (parted_one (Reserved And) (HeadAt file_limits) _ _ _ c.in_ok-take_head.ensures.reads))

pub loop-alloc-preserved : goal.loop-alloc-preserved
loop-alloc-preserved c = (
  omega (arith, c.loop-alloc.invariant.0, c.in_ok-take_sign.ensures.shorter, c.in_ok-take_head-2.ensures.shorter),
  rw c.in_ok-push-2.ensures.ok (parted_snoc (Reserved And) (HeadAt file_limits) _ _ _ _ _ _ c.loop-alloc.invariant.1 c.in_ok-take_sign.ensures.reads c.in_ok-take_head-2.ensures.reads),
)
