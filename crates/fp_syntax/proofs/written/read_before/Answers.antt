use Rattle.fp_commands.proofs.Steps.{before_at}
use Rattle.fp_syntax.specs.Signs.{sign_word}
use Rattle.fp_syntax.proofs.written.read_before.Goals as goal

pub returns-clause-reads : goal.returns-clause-reads
returns-clause-reads c =
    before_at (sign_word c.args.closes) c.args.limits c.args.kind c.args.cursor.now.rest.now c.position-count.result _ _ c.in-Ok.ensures.found c.in_ok-take_sign.ensures.reads
