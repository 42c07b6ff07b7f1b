use Rattle.std.proofs.Common.{sym, subst}
use Rattle.fp_theory.specs.State.{State, IsRewriteRule}
use Rattle.fp_theory.proofs.Keeping.{theory_with_simp}
use Rattle.fp_theory.proofs.theory.Theory.add_simp.Goals as goal

pub invariant_of-self-2 : goal.invariant_of-self-2
invariant_of-self-2 c =
    let i = c.self.inside in
    let state : State = record { defs = i.defs; named = i.named; simps = i.simps.items; congs = i.congs.items; types = i.types } in
    let rule = subst (λ (s : State). IsRewriteRule s.named c.args.name) (sym c.self.view_is) c.requires in
    rw c.in_ok-push.ensures.items (theory_with_simp state c.args.name c.self.invariant rule)
