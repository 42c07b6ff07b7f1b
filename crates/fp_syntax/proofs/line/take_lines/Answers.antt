use Rattle.std.proofs.Common.{arith, [], ◌∷◌, length-append}
use Rattle.fp_commands.specs.Grammar.{no_more, LineAt, file_limits}
use Rattle.fp_commands.proofs.Steps.{many_snoc}
use Rattle.fp_syntax.proofs.line.take_lines.Goals as goal

pub loop-alloc-init : goal.loop-alloc-init
loop-alloc-init c = (omega arith, rw c.new-lines.ensures no_more, rw c.new-lines.ensures (omega arith))

pub loop-alloc-preserved : goal.loop-alloc-preserved
loop-alloc-preserved c = (
  omega (arith, c.loop-alloc.invariant.0, c.in_ok-take_line.ensures.shorter),
  rw c.in_ok-push.ensures.ok (many_snoc (LineAt file_limits) _ _ _ _ _ c.loop-alloc.invariant.1 c.in_ok-take_line.ensures.reads),
  rw c.in_ok-push.ensures.ok (omega (arith, length-append c.loop-alloc.lines (c.in_ok-take_line.field-0 ∷ []), c.is_full.ensures c.if-is_full.false)),
)
