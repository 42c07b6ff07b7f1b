use Rattle.fp_print.proofs.Later.{first_has_only, rest_has_only, one_more}
use Rattle.fp_print.proofs.printer.print_later.Goals as goal

pub print_next-requires : goal.print_next-requires
print_next-requires c = first_has_only c.args.names.now c.args.hyps.now c.loop-hyp.hyp-index c.hyp-item.result c.loop-hyp-test.true c.hyp-item.is c.loop-hyp.invariant.0

pub loop-hyp-preserved : goal.loop-hyp-preserved
loop-hyp-preserved c =
    let t = c.hyp-item.result in
    let ts = c.args.hyps.now in
    let i = c.loop-hyp.hyp-index in (
      rest_has_only c.args.names.now ts i t c.loop-hyp-test.true c.hyp-item.is c.loop-hyp.invariant.0,
      one_more c.args.names.now ts i t c.loop-hyp-test.true c.hyp-item.is c.loop-hyp.out.items c.print_next.new.out.items _ c.loop-hyp.invariant.1 c.in_ok-print_next.ensures,
    )
