use Rattle.std.proofs.Common.{◌∙◌, sym, ap}
use Rattle.std.specs.Prelude.{codes}
use Rattle.fp_term.specs.TermView.{seen}
use Rattle.fp_quant.proofs.Subjects.{quantified_abstraction}
use Rattle.fp_quant.proofs.general.spec_known.Goals as goal

pub specialized-requires-clause-shape : goal.specialized-requires-clause-shape
specialized-requires-clause-shape c =
    let is = sym c.node.ensures ∙ ap seen c.in-Abs.is in
    quantified_abstraction (codes "all") c.args.defs.now c.args.a.now c.args.ty.now c.in-Abs.ty c.args.predicate.now c.in-Abs.body c.requires.within c.concl-concl.ensures.derived c.requires.shape is
