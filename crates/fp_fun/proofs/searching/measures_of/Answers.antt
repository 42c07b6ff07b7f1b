use Rattle.fp_fun.proofs.Measured.{measures_shown}
use Rattle.fp_fun.proofs.searching.measures_of.Goals as goal

pub returns : goal.returns
returns g c = measures_shown c.generate.result c.in_ok-ty.ty c.generate.ensures.measures
