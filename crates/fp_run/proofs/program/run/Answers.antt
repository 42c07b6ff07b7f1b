use Rattle.std.proofs.Common.{◌≡◌, ℕ, List, Option, nat_eq, cond, Bool, true, false, refl}
use Rattle.std.specs.Io.KnownBytes.{Appends}
use Rattle.fp_outside.specs.Sink.{AppendsPrefix}
use Rattle.fp_theory.specs.State.{State}
use Rattle.fp_run.specs.Words.{usage_line}
use Rattle.fp_run.specs.Runs.{Explains, explained, cut_short}
use Rattle.fp_run.proofs.program.run.Goals as goal

explains : (old new : Option (List ℕ)) (opened : Option ℕ) (s : State) (status : ℕ) (same : Bool) → status ≡ cond same 2 4 → (status ≡ 2 → Appends old new usage_line) → AppendsPrefix old new usage_line →
    Explains old new opened opened s status s
explains old new opened s status true e whole part = rw e (explained (whole e) refl)
explains old new opened s status false e whole part = rw e (cut_short part refl)

pub returns-in-None-clause-runs : goal.returns-in-None-clause-runs
returns-in-None-clause-runs g c =
    let e = c.explain.ensures in
    rw c.in-None.ensures (explains _ _ _ _ _ (nat_eq (g.K.Sink.faults c.explain.new.sink) (g.K.Sink.faults c.args.sink.now)) e.status e.whole e.prefix)
