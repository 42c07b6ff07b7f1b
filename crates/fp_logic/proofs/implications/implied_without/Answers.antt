use Rattle.std.proofs.Common.{◌≡◌, subst}
use Rattle.std.specs.Prelude.{IfOk}
use Rattle.fp_kernel.specs.Definitions.{whole}
use Rattle.fp_kernel.specs.Theorems.{Theorem}
use Rattle.fp_logic.proofs.Turning.{lifted}
use Rattle.fp_logic.proofs.Discharged.{discharged_is}
use Rattle.fp_logic.proofs.implications.implied_without.Goals as goal

pub first_assumed-requires-clause-left : goal.first_assumed-requires-clause-left
first_assumed-requires-clause-left c = c.requires.formula

pub first_assumed-requires-clause-right : goal.first_assumed-requires-clause-right
first_assumed-requires-clause-right c = rw c.concl.ensures.value (lifted c.args.defs.now c.args.a.now c.requires.within c.concl.ensures.derived)

pub antisym_known-requires : goal.antisym_known-requires
antisym_known-requires c = rw (c.in_ok-first.ensures, c.in_ok-second.ensures) (whole, whole)

pub returns : goal.returns
returns c =
    let is = discharged_is c.args.defs.now c.args.term.now c.args.a.now.concl c.args.a.now c.hyps-hyps.ensures.set c.promises-promises.ensures.set in
    subst (λ (x : Theorem). IfOk c.antisym_known.result (λ th. th ≡ x)) is (rw (c.in_ok-first.ensures, c.in_ok-second.ensures, c.concl.ensures.value) at c.antisym_known.ensures)
