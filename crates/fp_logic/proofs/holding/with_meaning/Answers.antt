use Rattle.std.proofs.Common.{◌≡◌, subst}
use Rattle.std.specs.Prelude.{IfOk}
use Rattle.fp_term.specs.Terms.{Tm}
use Rattle.fp_kernel.specs.Theorems.{by_one}
use Rattle.fp_logic.proofs.Turning.{meaning_asks, meaning_gives}
use Rattle.fp_logic.proofs.holding.with_meaning.Goals as goal

pub trans_known-requires : goal.trans_known-requires
trans_known-requires c = rw c.in_ok-meaning.ensures (meaning_asks c.args.defs.now c.args.th.now c.args.th.now.concl c.requires.within c.requires.shape)

pub returns : goal.returns
returns c =
    subst (λ (x : Tm). IfOk c.trans_known.result (λ m. m ≡ by_one c.args.defs.now c.args.th.now x)) (meaning_gives c.args.th.now.concl c.requires.shape) (rw c.in_ok-meaning.ensures at c.trans_known.ensures)
