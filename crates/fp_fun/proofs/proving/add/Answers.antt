use Rattle.fp_fun.proofs.Readying.{pushed}
use Rattle.fp_fun.proofs.proving.add.Goals as goal

pub returns : goal.returns
returns c =
    pushed c.push.result c.args.proof.now c.args.theorems.now c.push.new.self c.args.name c.args.theorem c.push.ensures.ok c.requires.ready c.requires.within c.requires.alone
