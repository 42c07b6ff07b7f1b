use Rattle.std.proofs.Common.{◌≡◌, ◌∙◌, List, [], refl, subst}
use Rattle.fp_kernel.specs.Definitions.{Def}
use Rattle.fp_line_rules.specs.Standing.{IsLine}
use Rattle.fp_lines.specs.Checks.{IsEnd, FaultShown, ends, has_no_lines}
use Rattle.fp_lines.proofs.Usable.{ended, last_line, otherwise, not_true}
use Rattle.fp_lines.proofs.checking.last_of.Goals as goal

pub returns-then-ends_at-clause-ok : goal.returns-then-ends_at-clause-ok
returns-then-ends_at-clause-ok c =
    let th = c.in-Some.theorem in
    let line : IsLine c.args.defs.now th = last_line c.args.defs.now c.pop.new.self.items th (rw c.in-Some.ensures.items at c.requires.lines) in
    let end : IsEnd c.args.statement.now th = c.ends_at.ensures.0 c.if-ends_at.true in
    ended c.args.defs.now c.args.statement.now th line end

pub returns-in-Some-clause-shown : goal.returns-in-Some-clause-shown
returns-in-Some-clause-shown c =
    let th = c.in-Some.theorem in
    let line : IsLine c.args.defs.now th = last_line c.args.defs.now c.pop.new.self.items th (rw c.in-Some.ensures.items at c.requires.lines) in
    subst (λ (ds : List Def). FaultShown ds c.wrong_end.result) line.over c.wrong_end.ensures.shown

pub returns-then-ends_at-clause-exact : goal.returns-then-ends_at-clause-exact
returns-then-ends_at-clause-exact c = λ n. rw c.in-Some.ensures.items (ends c.pop.new.self.items c.in-Some.theorem (c.ends_at.ensures.0 c.if-ends_at.true))

pub returns-in-Some-clause-exact : goal.returns-in-Some-clause-exact
returns-in-Some-clause-exact c = λ n.
    rw c.in-Some.ensures.items
    (otherwise c.args.defs.now c.args.theory.now.named c.args.theory.now.simps c.args.given.now c.args.statement.now c.pop.new.self.items n c.in-Some.theorem c.wrong_end.result
    (not_true c.ends_at.result c.ends_at.ensures.1 c.if-ends_at.false) c.wrong_end.ensures.exact)

pub returns-clause-exact : goal.returns-clause-exact
returns-clause-exact c =
    let none : c.pop.new.self.items ≡ [] = rw c.in-None.ensures.cases.0 at c.in-None.ensures.rest in
    let empty : c.args.theorems.items ≡ [] = c.in-None.ensures.items ∙ (rw none refl) in
    λ n. rw empty has_no_lines
