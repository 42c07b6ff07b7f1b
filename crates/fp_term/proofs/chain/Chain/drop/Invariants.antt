use Rattle.fp_term.specs.Chains.{links_left}
use Rattle.fp_term.proofs.chain.Chain.drop.Given as goal

abbrev pub decreases-loop-rest : goal.decreases-loop-rest
decreases-loop-rest g l = links_left l.rest
