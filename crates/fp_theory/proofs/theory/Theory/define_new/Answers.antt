use Rattle.std.proofs.Common.{◌≡◌, sym, subst}
use Rattle.std.specs.Prelude.{None}
use Rattle.fp_theory.specs.State.{State, found_theorem}
use Rattle.fp_theory.proofs.Keeping.{theory_after}
use Rattle.fp_theory.proofs.theory.Theory.define_new.Goals as goal

pub invariant_of-self : goal.invariant_of-self
invariant_of-self c =
    let i = c.self.inside in
    let state : State = record { defs = i.defs; named = i.named; simps = i.simps.items; congs = i.congs.items; types = i.types } in
    let free = subst (λ (s : State). found_theorem c.args.label.now s.named ≡ None) (sym c.self.view_is) c.requires in
    let d = c.define_named in
    theory_after state d.new.defs d.new.named c.args.name.now c.args.label.now c.args.body.now d.result c.self.invariant free
    d.ensures.defines d.ensures.names d.ensures.err_defs d.ensures.err_named
