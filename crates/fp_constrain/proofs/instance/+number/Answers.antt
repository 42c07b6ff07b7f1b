use Rattle.fp_constrain.proofs.Numbered.{numbered_more}
use Rattle.fp_constrain.proofs.instance.+number.Goals as goal

pub number_all-returns-in_ok-number_all-in-More-clause-table :
    goal.number_all-returns-in_ok-number_all-in-More-clause-table
number_all-returns-in_ok-number_all-in-More-clause-table t c =
    let e = c.in_ok-number_names-in-More.ensures in
    numbered_more _ _ _ _ _ c.in-More.first c.in-More.rest _ (rw c.in-More.is at c.node.ensures) e.table e.next c.in_ok-number_all-in-More.ensures.table
