use Rattle.fp_outside.proofs.Outside.{Has-read}
use Rattle.fp_outside.proofs.reading.read_all.Goals as goal

pub returns-clause-whole : goal.returns-clause-whole
returns-clause-whole g c = Has-read _ _ _ _ _ c.in_ok-open.ensures.opens c.in_ok-read_rest.ensures.whole c.in_ok-read_rest.ensures.end
