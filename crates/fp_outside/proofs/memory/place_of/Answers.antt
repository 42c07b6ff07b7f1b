use Rattle.std.proofs.Common.{◌∙◌, sym, ap}
use Rattle.std.specs.Str.{bytes_eq}
use Rattle.fp_outside.proofs.Looking.{Opens-at, name_of-at, IsPlace-at}
use Rattle.fp_outside.proofs.memory.place_of.Goals as goal

pub returns-then-eq-clause-opens : goal.returns-then-eq-clause-opens
returns-then-eq-clause-opens c =
    Opens-at c.args.name.now c.args.entries.now c.loop-file.file c.index-entries-file.result c.loop-file-test.true c.index-entries-file.is (ap (λ text. bytes_eq text c.args.name.now) (sym c.as_str.ensures.value) ∙ sym c.eq.ensures ∙ c.if-eq.true) c.loop-file.invariant

pub returns-then-eq-clause-place : goal.returns-then-eq-clause-place
returns-then-eq-clause-place c =
    IsPlace-at c.args.entries.now c.loop-file.file c.index-entries-file.result c.loop-file-test.true c.index-entries-file.is

pub returns-then-eq-clause-named : goal.returns-then-eq-clause-named
returns-then-eq-clause-named c =
    name_of-at c.args.name.now c.args.entries.now c.loop-file.file c.index-entries-file.result c.loop-file-test.true c.index-entries-file.is (ap (λ text. bytes_eq text c.args.name.now) (sym c.as_str.ensures.value) ∙ sym c.eq.ensures ∙ c.if-eq.true)
