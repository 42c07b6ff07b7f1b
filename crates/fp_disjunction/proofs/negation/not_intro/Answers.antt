use Rattle.std.proofs.Common.{◌∙◌, sym}
use Rattle.std.specs.Prelude.{codes}
use Rattle.fp_logic.proofs.Shaped.{joined_parts}
use Rattle.fp_disjunction.proofs.Negated.{implies_false}
use Rattle.fp_disjunction.proofs.negation.not_intro.Goals as goal

pub not_intro_known-requires : goal.not_intro_known-requires
not_intro_known-requires c =
    implies_false c.args.defs.now c.args.a.now c.in-Some.left.now c.in-Some.right.now
    (joined_parts (codes "imp") c.args.defs.now c.args.a.now (c.in-Some.left.now, c.in-Some.right.now) c.requires c.concl.ensures.derived (rw (c.in-Some.is, c.concl.ensures.value) at c.in_ok-parts.ensures))
    (sym c.in_ok-is_false.ensures ∙ c.if-not-branch.false)
