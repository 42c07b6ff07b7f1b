use Rattle.std.proofs.Common.{◌∙◌, sym, arith, below_more}
use Rattle.fp_normal.proofs.opening.first_unused.Goals as goal

pub loop-number-preserved : goal.loop-number-preserved
loop-number-preserved c =
    let taken = rw c.in_ok-name.ensures at (sym c.occurs.ensures ∙ c.if-not-occurs.false) in
    (omega (arith, c.loop-number.invariant.0), below_more _ _ c.loop-number.invariant.1 (λ _. taken))

pub returns-then-not-occurs : goal.returns-then-not-occurs
returns-then-not-occurs c = record {
  number = c.loop-number.number;
  from_on = c.loop-number.invariant.0;
  is = c.in_ok-name.ensures;
  unused = sym c.occurs.ensures ∙ c.if-not-occurs.true;
  others = c.loop-number.invariant.1;
}
