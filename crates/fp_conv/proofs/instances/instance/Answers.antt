use Rattle.std.proofs.Common.{◌∙◌, sym}
use Rattle.fp_conv.proofs.Instanced.{kept_each, not_allowed}
use Rattle.fp_conv.proofs.instances.instance.Goals as goal

pub returns-then-branch-clause-exact : goal.returns-then-branch-clause-exact
returns-then-branch-clause-exact c =
    let i = c.in-Some.found in
    record {
      by = rw c.in-Some.is at c.in_ok-found.ensures.exact;
      own = rw c.in-Some.is at c.in_ok-found.ensures.own;
      kept = kept_each i.types i.terms c.args.hyps.now (sym c.in_ok-keeps_all-in-Some.ensures ∙ c.if-branch.true);
    }

pub returns-else-branch-clause-exact : goal.returns-else-branch-clause-exact
returns-else-branch-clause-exact c =
    let i = c.in-Some.found in
    not_allowed c.args.hyps.now c.args.left.now c.args.term.now i.types i.terms (rw c.in-Some.is at c.in_ok-found.ensures.exact) (rw c.in-Some.is at c.in_ok-found.ensures.own)
    (sym c.in_ok-keeps_all-in-Some.ensures ∙ c.if-branch.false)
