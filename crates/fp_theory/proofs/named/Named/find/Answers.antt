use Rattle.std.proofs.Common.{◌≡◌, ◌∙◌, ◌-◌, length, sym, ap, arith}
use Rattle.std.specs.Prelude.{Some, slice_index_or}
use Rattle.fp_theory.proofs.Placing.{found_by_last, none_by_last}
use Rattle.fp_theory.proofs.named.Named.find.Goals as goal

pub returns-in_err-place : goal.returns-in_err-place
returns-in_err-place c =
    rw (c.from_residual-in_err-place.ensures, ← c.self.view_is)
    (sym (none_by_last c.self.inside.entries.items c.in_ok-last.field-0-1.now c.in_ok-last.last.now c.args.name.now
    (sym c.as_slice.ensures.value ∙ c.in_ok-last.ensures.cases.0) c.self.invariant (sym c.find.ensures ∙ c.in_err-place.was)))

pub index-requires : goal.index-requires
index-requires c =
    let r = found_by_last c.self.inside.entries.items c.in_ok-last.field-0-1.now c.in_ok-last.last.now c.args.name.now c.in_ok-place.place
    (sym c.as_slice.ensures.value ∙ c.in_ok-last.ensures.cases.0) c.self.invariant (sym c.find.ensures ∙ c.in_ok-place.was) in
    let count = ap length c.as_slice.ensures.value in
    omega (arith, r.below, count, c.as_slice.ensures.len)

pub returns : goal.returns
returns c =
    let es = c.self.inside.entries.items in
    let place = c.in_ok-place.place in
    let d = c.index.result.now in
    let r = found_by_last es c.in_ok-last.field-0-1.now c.in_ok-last.last.now c.args.name.now place
    (sym c.as_slice.ensures.value ∙ c.in_ok-last.ensures.cases.0) c.self.invariant (sym c.find.ensures ∙ c.in_ok-place.was) in
    let whole : place ≡ place - 0 = omega arith in
    rw (← c.self.view_is) (ap (λ e. Some e.theorem) c.index.ensures ∙ ap (λ k. Some (slice_index_or es k d).theorem) whole ∙ sym (r.found d))
