use Rattle.std.proofs.Common.{rules, refl}
use Rattle.fp_constrain.proofs.Laid.{lays_found, lays_variable, lays_constructor, lays_end, lays_more, table_more}
use Rattle.fp_constrain.proofs.draft.+lay.Goals as goal

pub lay-returns-in-Some-clause-lays : goal.lay-returns-in-Some-clause-lays
lay-returns-in-Some-clause-lays t c = lays_found _ _ _ _ _ _ _ (rw c.in-Var.is at c.node.ensures) c.requires.about c.requires.table c.in-Some.ensures

pub lay-returns-in_ok-at-in-None-clause-lays : goal.lay-returns-in_ok-at-in-None-clause-lays
lay-returns-in_ok-at-in-None-clause-lays t c =
    let e = c.in_ok-at-in-None.ensures in
    lays_variable _ _ c.in-Var.name _ _ _ _ _ _ (rw c.in-Var.is at c.node.ensures) c.requires.about c.in-None.ensures e.next e.facts e.value

pub lay-returns-in_ok-at-in-Con-clause-lays : goal.lay-returns-in_ok-at-in-Con-clause-lays
lay-returns-in_ok-at-in-Con-clause-lays t c =
    let e = c.in_ok-at-in-Con.ensures in
    let l = c.in_ok-lay_all-in-Con.ensures in
    lays_constructor _ _ c.in-Con.name c.in-Con.args _ _ _ _ _ _ _ _ _ _ _ (rw c.in-Con.is at c.node.ensures) l.lays c.new-all.ensures.items refl e.next e.facts e.value

pub lay_all-lay_all-requires : goal.lay_all-lay_all-requires
lay_all-lay_all-requires t c =
    let l = c.in_ok-at-in-More.ensures.lays in
    (search rules, (l.grows.about, table_more _ _ _ l.grows.later c.requires.table))

pub lay_all-returns-in-End-clause-lays : goal.lay_all-returns-in-End-clause-lays
lay_all-returns-in-End-clause-lays t c = lays_end _ _ _ _ _ _ (rw c.in-End.is at c.node.ensures) c.requires.about

pub lay_all-returns-in_ok-lay_all-in-More-clause-lays :
    goal.lay_all-returns-in_ok-lay_all-in-More-clause-lays
lay_all-returns-in_ok-lay_all-in-More-clause-lays t c =
    let l = c.in_ok-at-in-More.ensures in
    lays_more _ _ c.in-More.first c.in-More.rest _ _ _ _ _ _ _ _ _ _ _ _ (rw c.in-More.is at c.node.ensures) c.requires.table l.lays refl c.in_ok-push-in-More.ensures.items c.in_ok-lay_all-in-More.ensures.lays
