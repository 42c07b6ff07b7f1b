use Rattle.std.proofs.Common.{arith}
use Rattle.fp_commands.specs.Grammar.{no_more, ArgAt, line, file_limits}
use Rattle.fp_commands.proofs.Steps.{many_snoc}
use Rattle.fp_syntax.proofs.line.take_line.Goals as goal

pub loop-alloc-init : goal.loop-alloc-init
loop-alloc-init c = (omega arith, rw c.new-args.ensures no_more)

pub loop-alloc-preserved : goal.loop-alloc-preserved
loop-alloc-preserved c = (
  omega (arith, c.loop-alloc.invariant.0, c.in_ok-take_argument.ensures.shorter),
  rw c.in_ok-push.ensures.ok (many_snoc (ArgAt file_limits) _ _ _ _ _ c.loop-alloc.invariant.1 c.in_ok-take_argument.ensures.reads),
)

pub returns-clause-reads : goal.returns-clause-reads
returns-clause-reads c = line c.in_ok-name.ensures.reads c.loop-alloc.invariant.1 c.in_ok-take_sign.ensures.reads
