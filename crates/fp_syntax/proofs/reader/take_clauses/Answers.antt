use Rattle.std.proofs.Common.{arith}
use Rattle.fp_words.specs.declared.word.Word.TheVariants.{Bar}
use Rattle.fp_commands.specs.Grammar.{TermAt, file_limits}
use Rattle.fp_commands.proofs.Steps.{parted_one, parted_snoc}
use Rattle.fp_syntax.proofs.reader.take_clauses.Goals as goal

pub loop-alloc-init : goal.loop-alloc-init
loop-alloc-init c = (omega arith, rw (c.in_ok-push.ensures.ok, c.new-clauses.ensures) (parted_one Bar (TermAt file_limits) _ _ _ c.in_ok-take_term.ensures.reads))

pub loop-alloc-preserved : goal.loop-alloc-preserved
loop-alloc-preserved c = (
  omega (arith, c.loop-alloc.invariant.0, c.in_ok-take_sign.ensures.shorter, c.in_ok-take_term-2.ensures.shorter),
  rw c.in_ok-push-2.ensures.ok (parted_snoc Bar (TermAt file_limits) _ _ _ _ _ _ c.loop-alloc.invariant.1 c.in_ok-take_sign.ensures.reads c.in_ok-take_term-2.ensures.reads),
)
