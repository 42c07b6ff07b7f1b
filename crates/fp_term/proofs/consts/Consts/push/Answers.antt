use Rattle.std.proofs.Common.{[], ◌∷◌, arith, length-append}
use Rattle.fp_term.proofs.Indexed.{type_indexed}
use Rattle.fp_term.proofs.consts.Consts.push.Goals as goal

pub invariant_of-self : goal.invariant_of-self
invariant_of-self c =
    let longer = length-append c.self.inside.list (c.args.item ∷ []) in (
      rw c.in_ok-self-inside.ensures (omega (arith, longer, c.in_ok-count.ensures, c.self.invariant.0)),
      rw (c.in_ok-index.ensures, c.in_ok-declared.ensures, c.hash.ensures, c.in_ok-self-inside.ensures)
          (type_indexed c.args.item.0 c.args.item.1 c.self.inside.index c.self.inside.list c.self.invariant.1),
    )
