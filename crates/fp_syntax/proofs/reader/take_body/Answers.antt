use Rattle.fp_commands.specs.Grammar.{simp_rule, cong_rule}
use Rattle.fp_syntax.proofs.reader.take_body.Goals as goal

pub returns-in_ok-take_name-in-Simp-clause-reads : goal.returns-in_ok-take_name-in-Simp-clause-reads
returns-in_ok-take_name-in-Simp-clause-reads c = rw c.in-Simp.is (simp_rule c.in_ok-take_name-in-Simp.ensures.reads)

pub returns-in_ok-take_name-in-Cong-clause-reads : goal.returns-in_ok-take_name-in-Cong-clause-reads
returns-in_ok-take_name-in-Cong-clause-reads c = rw c.in-Cong.is (cong_rule c.in_ok-take_name-in-Cong.ensures.reads)
