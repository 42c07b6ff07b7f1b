use Rattle.std.proofs.Common.{◌≡◌, ◌∙◌, sym, ◌-◌, false, true, arith}
use Rattle.fp_rewriting.specs.Fresh.{opening_name, is_taken}
use Rattle.fp_rewriting.proofs.Untaken.{untaken_here, taken_before, no_tries}
use Rattle.fp_rewriting.proofs.fresh.first_untaken.Goals as goal

pub returns-then-not-is_taken : goal.returns-then-not-is_taken
returns-then-not-is_taken c =
    let e : is_taken c.args.names.now c.args.term.now (opening_name c.loop-tried.number) ≡ false = rw (← c.in_ok-name.ensures) cc in
    let here = untaken_here (c.args.tries - c.loop-tried._tried) c.args.names.now c.args.term.now c.loop-tried.number e in c.in_ok-name.ensures ∙ here ∙ sym c.loop-tried.invariant

pub loop-tried-preserved : goal.loop-tried-preserved
loop-tried-preserved c =
    let e : is_taken c.args.names.now c.args.term.now (opening_name c.loop-tried.number) ≡ true = rw (← c.in_ok-name.ensures) cc in
    let later = taken_before c.args.tries c.loop-tried._tried c.args.names.now c.args.term.now c.loop-tried.number _ c.in_ok-number.ensures c.loop-tried-test.true e in cc

pub returns : goal.returns
returns c =
    let ends : c.args.tries ≡ c.loop-tried._tried = omega arith in
    let none = no_tries c.args.tries c.loop-tried._tried c.args.names.now c.args.term.now c.loop-tried.number ends in
    simp (c.loop-tried.invariant ∙ none) c.opening_name-2.ensures
