use Rattle.std.proofs.Common.{◌≡◌, ◌∙◌, length, sym, ap, refl, arith}
use Rattle.std.specs.Option.{option_map}
use Rattle.fp_written.specs.Views.{state_of, verdict_of, tree_seen, at_word, at_end}
use Rattle.fp_written.proofs.Theorems.{start_reached, next_reached, halted_at, next_is}
use Rattle.fp_written.proofs.reader.read.Goals as goal

pub loop-at-init : goal.loop-at-init
loop-at-init c = (rw c.in_ok-reader.ensures.starts (start_reached c.args.limits c.args.kind c.args.tokens.now c.requires.long), c.in_ok-reader.ensures.counted)

pub returns-in-Refused : goal.returns-in-Refused
returns-in-Refused c =
    at_word (halted_at c.args.limits c.args.kind c.args.tokens.now c.loop-at.at (state_of c.loop-at.reader) c.index-tokens-at.result _ c.loop-at.invariant.0 c.loop-at-test.true (next_is c.args.tokens.now c.loop-at.at c.index-tokens-at.result c.loop-at-test.true (sym c.index-tokens-at.is)) (sym c.in_ok-next.ensures.verdict ∙ ap (λ o. verdict_of o) c.in-Refused.is))

pub returns-in-TooDeep : goal.returns-in-TooDeep
returns-in-TooDeep c =
    halted_at c.args.limits c.args.kind c.args.tokens.now c.loop-at.at (state_of c.loop-at.reader) c.index-tokens-at.result _ c.loop-at.invariant.0 c.loop-at-test.true (next_is c.args.tokens.now c.loop-at.at c.index-tokens-at.result c.loop-at-test.true (sym c.index-tokens-at.is)) (sym c.in_ok-next.ensures.verdict ∙ ap (λ o. verdict_of o) c.in-TooDeep.is)

pub returns-in-TooLarge : goal.returns-in-TooLarge
returns-in-TooLarge c =
    halted_at c.args.limits c.args.kind c.args.tokens.now c.loop-at.at (state_of c.loop-at.reader) c.index-tokens-at.result _ c.loop-at.invariant.0 c.loop-at-test.true (next_is c.args.tokens.now c.loop-at.at c.index-tokens-at.result c.loop-at-test.true (sym c.index-tokens-at.is)) (sym c.in_ok-next.ensures.verdict ∙ ap (λ o. verdict_of o) c.in-TooLarge.is)

pub returns-in-NumberTooLarge : goal.returns-in-NumberTooLarge
returns-in-NumberTooLarge c =
    halted_at c.args.limits c.args.kind c.args.tokens.now c.loop-at.at (state_of c.loop-at.reader) c.index-tokens-at.result _ c.loop-at.invariant.0 c.loop-at-test.true (next_is c.args.tokens.now c.loop-at.at c.index-tokens-at.result c.loop-at-test.true (sym c.index-tokens-at.is)) (sym c.in_ok-next.ensures.verdict ∙ ap (λ o. verdict_of o) c.in-NumberTooLarge.is)

pub loop-at-preserved : goal.loop-at-preserved
loop-at-preserved c = (
  next_reached c.args.limits c.args.kind c.args.tokens.now c.loop-at.at (state_of c.loop-at.reader) (state_of c.in-On.next) c.index-tokens-at.result c.loop-at.invariant.0 c.loop-at-test.true (next_is c.args.tokens.now c.loop-at.at c.index-tokens-at.result c.loop-at-test.true (sym c.index-tokens-at.is)) (sym c.in_ok-next.ensures.verdict ∙ ap (λ o. verdict_of o) c.in-On.is),
  rw c.in-On.is at c.in_ok-next.ensures.counted,
)

pub returns-in-Some : goal.returns-in-Some
returns-in-Some c =
    let here : c.loop-at.at ≡ length c.args.tokens.now = omega (arith, c.loop-at.invariant.0.within, c.loop-at-test.false) in
    (state_of c.loop-at.reader, rw here at c.loop-at.invariant.0, sym c.in_ok-found.ensures ∙ ap (λ o. option_map tree_seen o) c.in-Some.is)

pub returns-in-None : goal.returns-in-None
returns-in-None c =
    let here : c.loop-at.at ≡ length c.args.tokens.now = omega (arith, c.loop-at.invariant.0.within, c.loop-at-test.false) in
    at_end (record { last = state_of c.loop-at.reader; reached = rw here at c.loop-at.invariant.0; none = sym c.in_ok-found.ensures ∙ ap (λ o. option_map tree_seen o) c.in-None.is }) refl
