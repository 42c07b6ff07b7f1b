-- What a walk over a term makes of what it makes of the parts.
use Rattle.std.proofs.Common.{◌≡◌, ◌∙◌, ℕ, true, false, List, ◌∷◌, sym, ap}
use Rattle.std.specs.Prelude.{Option, Some, Result, Ok, Err, IfOk, MatchOption}
use Rattle.fp_term.specs.Types.{Typ}
use Rattle.fp_term.specs.Terms.{Tm, free, app, abs, opened, closed}
use Rattle.fp_conclude.specs.Logic.{equal}
use Rattle.fp_conclude.specs.Hypotheses.{union}
use Rattle.fp_conclude.specs.Outcomes.{gives}
use Rattle.fp_conclude.specs.Parts.{equation}
use Rattle.fp_conclude.specs.Rules.{mk_comb_of, lam_of, eq_mp_of}
use Rattle.fp_conclude.proofs.Gives.{eq_mp_gives}
use Rattle.fp_conclude.proofs.Outcomes.{same_given}
use Rattle.fp_kernel.specs.Definitions.{Def, Within}
use Rattle.fp_kernel.specs.Derivability.{IsFormula}
use Rattle.fp_kernel.specs.Start.{signature_of}
use Rattle.fp_kernel.specs.Theorems.{Theorem, IsTheorem, promise_union, from_one, from_both}
use Rattle.fp_kernel.proofs.Formulas.{formula_of}
use Rattle.fp_kernel.proofs.Later.{later_all}
use Rattle.fp_conv.specs.Equations.{IsTyped, IsGiven, Equates, right_of}
use Rattle.fp_conv.specs.Outermost.{Instance, Rewrites, in_application, in_abstraction, nowhere, is_used, is_simple, Rewriting, Rewritten}
use Rattle.fp_conv.proofs.Given.{combine_equates, abstract_given, abstract_equates}
use Rattle.fp_conv.proofs.Opening.{closed_opened}
use Rattle.fp_conv.proofs.Unions.{union_own, promises_own}
use Rattle.fp_conv.proofs.Unused.{unused_in_term, unused_in_hyps}

module _ (defs : List Def) (p : List (ℕ × Tm)) (h : List Tm) (l r : Tm) where
  -- an application that isn't an instance
  module _ {f x : Tm} (never : Instance h l (app f x) → ⊥) where
    pub both_rewritten : {a b : Theorem} (th : Theorem) → Rewriting defs p h l r f a → Rewriting defs p h l r x b → IsTyped (signature_of defs) (app f x) →
        from_both defs a b (mk_comb_of a.concl b.concl) ≡ gives th → Rewriting defs p h l r (app f x) th
    both_rewritten th d e t i =
        let made = combine_equates th d.equates e.equates t i in
        let same_promises = promises_own p in
        let same_hyps = union_own h in
        record { result = app d.result e.result; rewrites = in_application never d.rewrites e.rewrites; equates = rw (same_promises, same_hyps) at made }

    pub function_rewritten : {a : Theorem} (th : Theorem) → Rewriting defs p h l r f a → Rewrites h l r x x → Equates defs a.promises a.hyps (app f x) (app (right_of a.concl) x) th → Rewriting defs p h l r (app f x) th
    function_rewritten th d e made = record { result = app d.result x; rewrites = in_application never d.rewrites e; equates = rw d.equates.is at made }

    pub argument_rewritten : {b : Theorem} (th : Theorem) → Rewrites h l r f f → Rewriting defs p h l r x b → Equates defs b.promises b.hyps (app f x) (app f (right_of b.concl)) th → Rewriting defs p h l r (app f x) th
    argument_rewritten th d e made = record { result = app f e.result; rewrites = in_application never d e.rewrites; equates = rw e.equates.is at made }

    pub both_ok : {E : Type 0} {a b : Theorem} (q : Result Theorem E) → Rewriting defs p h l r f a → Rewriting defs p h l r x b → IsTyped (signature_of defs) (app f x) →
        IfOk q (λ th. from_both defs a b (mk_comb_of a.concl b.concl) ≡ gives th) → IfOk q (Rewriting defs p h l r (app f x))
    both_ok (Ok th) d e t i = both_rewritten th d e t i
    both_ok (Err w) d e t i = tt

    pub function_ok : {E : Type 0} {a : Theorem} (q : Result Theorem E) → Rewriting defs p h l r f a → Rewrites h l r x x → IfOk q (Equates defs a.promises a.hyps (app f x) (app (right_of a.concl) x)) →
        IfOk q (Rewriting defs p h l r (app f x))
    function_ok (Ok th) d e i = function_rewritten th d e i
    function_ok (Err w) d e i = tt

    pub argument_ok : {E : Type 0} {b : Theorem} (q : Result Theorem E) → Rewrites h l r f f → Rewriting defs p h l r x b → IfOk q (Equates defs b.promises b.hyps (app f x) (app f (right_of b.concl))) →
        IfOk q (Rewriting defs p h l r (app f x))
    argument_ok (Ok th) d e i = argument_rewritten th d e i
    argument_ok (Err w) d e i = tt

  -- an abstraction that isn't an instance, opened by a variable whose name is used nowhere
  module _ (name : List ℕ) (s : Typ) (body o : Tm) (never : Instance h l (abs s body) → ⊥) (unused : is_used name (body ∷ l ∷ r ∷ h) ≡ false) (opened_is : o ≡ opened 0 (free name s) body) where
    back : abs s (closed 0 name s o) ≡ abs s body
    back = rw opened_is (ap (abs s) (closed_opened name s 0 body (unused_in_term name s body l r h unused)))

    under : (u : Tm) → Rewrites h l r o u → Rewrites h l r (abs s body) (abs s (closed 0 name s u))
    under u d = in_abstraction s name never unused (rw opened_is at d)

    pub body_unchanged : Rewrites h l r o o → Rewrites h l r (abs s body) (abs s body)
    body_unchanged d = let k = under o d in rw back at k

    pub body_given : IsTyped (signature_of defs) (abs s body) → (b : Theorem) → Rewriting defs p h l r o b → IsGiven (from_one defs b b.hyps (lam_of (signature_of defs) name s b.hyps b.concl))
    body_given t b d = abstract_given name s t.well.over.0 (unused_in_hyps name s body l r h unused) d.equates

    pub body_rewritten : IsTyped (signature_of defs) (abs s body) → (b th : Theorem) → Rewriting defs p h l r o b → from_one defs b b.hyps (lam_of (signature_of defs) name s b.hyps b.concl) ≡ gives th →
        Rewriting defs p h l r (abs s body) th
    body_rewritten t b th d i =
        let made = abstract_equates {E = Unit {0}} name s (Ok th) t.well.over.0 (unused_in_hyps name s body l r h unused) d.equates i in
        record { result = abs s (closed 0 name s d.result); rewrites = under d.result d.rewrites; equates = rw back at made }

  -- a term that is made of the parts
  pub of_whole : {E : Type 0} {t u : Tm} (q : Result (Option Theorem) E) → t ≡ u → IfOk q (λ o. MatchOption o (Rewrites h l r u u) (Rewriting defs p h l r u)) →
      IfOk q (λ o. MatchOption o (Rewrites h l r t t) (Rewriting defs p h l r t))
  of_whole q is e = rw is e

  pub itself_rewritten : {E : Type 0} {t : Tm} (q : Result Theorem E) → Rewrites h l r t t → IfOk q (Equates defs p h t t) → IfOk q (Rewriting defs p h l r t)
  itself_rewritten {t = t} (Ok th) d e = record { result = t; rewrites = d; equates = e }
  itself_rewritten (Err f) d e = tt

pub simple_unchanged : (h : List Tm) (l r t u : Tm) → t ≡ u → (Instance h l t → ⊥) → is_simple u ≡ true → Rewrites h l r t t
simple_unchanged h l r t u is never e = nowhere never (rw is e)

pub formula_later : (defs : List Def) (a : Theorem) (p : Tm) → Within a.defs defs → IsTheorem a → p ≡ a.concl → IsFormula (signature_of defs) p
formula_later defs a p w d is = rw is (formula_of (later_all w (λ x i. i) d))

-- the second theorem, over the equation of its conclusion with what this becomes
module _ {defs : List Def} (a b made : Theorem) (s : Typ) (l r : Tm) (is : equation a.concl ≡ Some (s, l, r)) (p : Tm) (p_is : p ≡ b.concl) (d : Rewriting defs a.promises a.hyps l r p made) where
  moved : from_both defs made b (eq_mp_of made.concl b.concl) ≡ gives (record { defs = defs; promises = promise_union a.promises b.promises; hyps = union a.hyps b.hyps; concl = d.result })
  moved =
      let e = d.equates in
      rw (e.is, ← p_is) (ap (from_both defs (record { defs = defs; promises = a.promises; hyps = a.hyps; concl = equal e.type p d.result }) b) (eq_mp_gives e.type p d.result))

  pub moved_given : IsGiven (from_both defs made b (eq_mp_of made.concl b.concl))
  moved_given = record { value = _; given = moved }

  pub moved_rewritten : (th : Theorem) → from_both defs made b (eq_mp_of made.concl b.concl) ≡ gives th → Rewritten defs a b th
  moved_rewritten th i = record {
    type = s;
    left = l;
    right = r;
    equation = is;
    result = d.result;
    rewrites = rw p_is at d.rewrites;
    is = same_given th _ (sym i ∙ moved);
  }
