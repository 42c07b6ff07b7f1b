use Rattle.fp_declared.proofs.Within.{pushed}
use Rattle.fp_declared.proofs.rewriting.add_theorem.Goals as goal

pub returns-in_ok-copy-in-Some-2 : goal.returns-in_ok-copy-in-Some-2
returns-in_ok-copy-in-Some-2 c =
    pushed c.push.result c.args.theory.now.defs c.args.theorems.now c.push.new.self c.in_ok-copy-in-Some.field-0 c.in_ok-copy-in-Some-2.field-0 c.push.ensures.ok c.requires
    (rw c.in_ok-copy-in-Some-2.ensures c.in-Some.ensures.noted.within)
