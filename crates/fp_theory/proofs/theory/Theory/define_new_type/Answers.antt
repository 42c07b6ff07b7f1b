use Rattle.std.proofs.Common.{◌≡◌, sym, subst}
use Rattle.std.specs.Prelude.{None}
use Rattle.fp_theory.specs.State.{State, found_theorem}
use Rattle.fp_theory.proofs.Keeping.{theory_after_type}
use Rattle.fp_theory.proofs.theory.Theory.define_new_type.Goals as goal

pub invariant_of-self : goal.invariant_of-self
invariant_of-self c =
    let i = c.self.inside in
    let n = c.args.names.now in
    let state : State = record { defs = i.defs; named = i.named; simps = i.simps.items; congs = i.congs.items; types = i.types } in
    let first = subst (λ (s : State). found_theorem n.abs_rep.now s.named ≡ None) (sym c.self.view_is) c.requires.first_free in
    let second = subst (λ (s : State). found_theorem n.rep_abs.now s.named ≡ None) (sym c.self.view_is) c.requires.second_free in
    let d = c.define_type_named in
    theory_after_type state d.new.defs d.new.named n.name.now n.abs.now n.rep.now n.abs_rep.now n.rep_abs.now c.args.inhabited.now d.result c.self.invariant first second
    c.requires.apart d.ensures.defines d.ensures.names d.ensures.err_defs d.ensures.err_named
