use Rattle.std.proofs.Common.{[]}
use Rattle.fp_kernel.proofs.Formulas.{formula_of}
use Rattle.fp_kernel.proofs.Sound.{assume_sound}
use Rattle.fp_kernel.proofs.defs.Defs.promise.Goals as goal

pub promise_known-requires : goal.promise_known-requires
promise_known-requires c =
    formula_of (assume_sound {defs = c.args.self.now} {promises = []} c.args.term.now c.in_ok-concl.concl (rw c.signature.ensures at c.in_ok-concl.ensures))
