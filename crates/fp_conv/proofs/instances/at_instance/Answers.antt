use Rattle.fp_conv.proofs.Instanced.{rewritten_at}
use Rattle.fp_conv.proofs.instances.at_instance.Goals as goal

pub returns-in_ok-instantiated-in-Some : goal.returns-in_ok-instantiated-in-Some
returns-in_ok-instantiated-in-Some c =
    let e = c.args.sides.now in
    let i = c.in-Some.found in
    rewritten_at c.args.defs.now c.args.eq.now.promises c.args.eq.now.hyps e.left.now e.right.now c.args.term.now i.types i.terms
    (rw (c.in-Some.is, c.hyps.ensures.value) at c.in_ok-found.ensures.exact) c.in_ok-instantiated-in-Some.field-0 c.in_ok-instantiated-in-Some.ensures
