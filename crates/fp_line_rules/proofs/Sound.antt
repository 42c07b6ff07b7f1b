-- What a rule gives on theorems without promises is over the same definitions, and has no promises.
use Rattle.std.proofs.Common.{◌≡◌, ◌∙◌, ℕ, Bool, true, false, cond, List, [], ◌∷◌, refl, sym, ap, subst}
use Rattle.std.specs.Prelude.{Option, Some, None, Result, Ok, Err, IfOk}
use Rattle.fp_term.specs.Types.{Typ, type_eq}
use Rattle.fp_term.specs.Terms.{Tm, free, bound, constant, app, abs, opened, term_eq}
use Rattle.fp_term.specs.Signatures.{unknown_in_type}
use Rattle.fp_conclude.specs.declared.fault.RuleFault.{RuleFault}
use Rattle.fp_conclude.specs.Logic.{truth_type, equal, true_constant, conjunction}
use Rattle.fp_conclude.specs.Hypotheses.{union, without, occurs_in_any, all_replaced, all_retyped_terms}
use Rattle.fp_conclude.specs.Outcomes.{Refusal, Outcome, gives, refused, Answers, unless, with_part, shape, differ, unknown_name, free_in_hyps, ill_typed_at}
use Rattle.fp_conclude.proofs.Outcomes.{same_given, part_gives, unless_gives, gives_where}
use Rattle.fp_kernel.specs.Definitions.{Def}
use Rattle.fp_kernel.specs.Start.{signature_of}
use Rattle.fp_kernel.specs.Theorems.{Theorem, stands, promise_union}
use Rattle.fp_forms.specs.Forms.{implication_parts}
use Rattle.fp_forms.specs.Quantified.{existence_parts}
use Rattle.fp_logic.specs.Derived.{undisch_from}
use Rattle.fp_disjunction.specs.Forms.{disjunction_parts}
use Rattle.fp_disjunction.specs.Derived.{either_way, cases_from}
use Rattle.fp_quant.specs.Existential.{choice_made, chosen_by, choose_from}
use Rattle.fp_line_rules.specs.declared.rule.OfTerm.{OfTerm}
use Rattle.fp_line_rules.specs.declared.rule.OfTerm.TheVariants.{Refl, Beta, Assume}
use Rattle.fp_line_rules.specs.declared.rule.OfTheorem.{OfTheorem}
use Rattle.fp_line_rules.specs.declared.rule.OfTheorem.TheVariants.{Sym, Norm, Eqt, EqtElim, Eqf, Conj1, Conj2, Undisch, NotIntro, NotElim, Select}
use Rattle.fp_line_rules.specs.declared.rule.OfPair.{OfPair}
use Rattle.fp_line_rules.specs.declared.rule.OfPair.TheVariants.{Trans, MkComb, EqMp, Antisym, Rewrite, Conj, Mp}
use Rattle.fp_line_rules.specs.declared.rule.BeforeTheorem.{BeforeTheorem}
use Rattle.fp_line_rules.specs.declared.rule.BeforeTheorem.TheVariants.{Ap, Disch, Disj2, False}
use Rattle.fp_line_rules.specs.declared.rule.BeforeTerm.{BeforeTerm}
use Rattle.fp_line_rules.specs.declared.rule.BeforeTerm.TheVariants.{ApArg, Spec, Disj1}
use Rattle.fp_line_rules.specs.declared.rule.OfVariable.{OfVariable}
use Rattle.fp_line_rules.specs.declared.rule.OfVariable.TheVariants.{Lam, Gen, Ext}
use Rattle.fp_line_rules.specs.Standing.{IsLine}
use Rattle.fp_line_rules.specs.Rules.{Told, ByTerm, ByNorm, ByTheorem, ByRewriting, ByPair, ByTermThenTheorem, ByTheoremThenTerm, ByName, OfFree, ByVariable, ByChoice, ByWitness, ByCases, ByNothing, ByTerms, ByTypes}

AreNone : Theorem → Type 0
AreNone th = th.promises ≡ []

pub stood : (defs : List Def) (promises : List (ℕ × Tm)) (hyps : List Tm) (o : Outcome Tm) (q : Told) → promises ≡ [] → Answers q (stands defs promises hyps o) → IfOk q (IsLine defs)
stood defs promises hyps (gives c) (Ok th) p h =
    let e = same_given _ th h in
    record { promises = sym (ap (λ (t : Theorem). t.promises) e) ∙ p; over = sym (ap (λ (t : Theorem). t.defs) e) }
stood defs promises hyps (refused r) (Ok th) p h = cc
stood defs promises hyps o (Err f) p h = tt

-- a theorem that is given is this one
made : (defs : List Def) (th u : Theorem) → th ≡ u → th.promises ≡ [] → th.defs ≡ defs → IsLine defs u
made defs th u e p d = record { promises = sym (ap (λ (t : Theorem). t.promises) e) ∙ p; over = sym (ap (λ (t : Theorem). t.defs) e) ∙ d }

no_union : (a b : List (ℕ × Tm)) → a ≡ [] → b ≡ [] → promise_union a b ≡ []
no_union a b p q = rw (p, q) refl

pub term_line : (defs : List Def) (k : OfTerm) (t : Tm) (q : Told) → ByTerm defs k t q → IfOk q (IsLine defs)
term_line defs Refl t q h = stood defs [] _ _ q refl h
term_line defs Beta t q h = stood defs [] _ _ q refl h
term_line defs Assume t q h = stood defs [] _ _ q refl h

norm_line : (defs : List Def) (a : Theorem) (q : Told) → a.promises ≡ [] → ByNorm defs a q → IfOk q (IsLine defs)
norm_line defs a (Ok th) p h = made defs _ th (sym h.is) p refl
norm_line defs a (Err f) p h = tt

undisch_line : (defs : List Def) (a : Theorem) (q : Told) → a.promises ≡ [] → Answers q (undisch_from defs a) → IfOk q (IsLine defs)
undisch_line defs a (Ok th) p h =
    let x = part_gives shape (implication_parts a.concl) _ th h in
    made defs _ th (same_given _ th x.2) p refl
undisch_line defs a (Err f) p h = tt

pub theorem_line : (defs : List Def) (k : OfTheorem) (a : Theorem) (q : Told) → a.promises ≡ [] → ByTheorem defs k a q → IfOk q (IsLine defs)
theorem_line defs Sym a q p h = stood defs a.promises _ _ q p h
theorem_line defs Norm a q p h = norm_line defs a q p h
theorem_line defs Eqt a q p h = stood defs a.promises a.hyps (gives (equal truth_type a.concl true_constant)) q p h
theorem_line defs EqtElim a q p h = stood defs a.promises _ _ q p h
theorem_line defs Eqf a q p h = stood defs a.promises _ _ q p h
theorem_line defs Conj1 a q p h = stood defs a.promises _ _ q p h
theorem_line defs Conj2 a q p h = stood defs a.promises _ _ q p h
theorem_line defs Undisch a q p h = undisch_line defs a q p h
theorem_line defs NotIntro a q p h = stood defs a.promises _ _ q p h
theorem_line defs NotElim a q p h = stood defs a.promises _ _ q p h
theorem_line defs Select a q p h = stood defs a.promises _ _ q p h

rewriting_line : (defs : List Def) (a b : Theorem) (q : Told) → a.promises ≡ [] → b.promises ≡ [] → ByRewriting defs a b q → IfOk q (IsLine defs)
rewriting_line defs a b (Ok th) p r h = made defs _ th (sym h.0.is) (no_union a.promises b.promises p r) refl
rewriting_line defs a b (Err f) p r h = tt

pub pair_line : (defs : List Def) (k : OfPair) (a b : Theorem) (q : Told) → a.promises ≡ [] → b.promises ≡ [] → ByPair defs k a b q → IfOk q (IsLine defs)
pair_line defs Trans a b q p r h = stood defs _ _ _ q (no_union a.promises b.promises p r) h
pair_line defs MkComb a b q p r h = stood defs _ _ _ q (no_union a.promises b.promises p r) h
pair_line defs EqMp a b q p r h = stood defs _ _ _ q (no_union a.promises b.promises p r) h
pair_line defs Antisym a b q p r h =
    stood defs (promise_union a.promises b.promises) (union (without b.concl a.hyps) (without a.concl b.hyps)) (gives (equal truth_type a.concl b.concl)) q (no_union a.promises b.promises p r) h
pair_line defs Rewrite a b q p r h = rewriting_line defs a b q p r h
pair_line defs Conj a b q p r h = stood defs (promise_union a.promises b.promises) (union a.hyps b.hyps) (gives (conjunction a.concl b.concl)) q (no_union a.promises b.promises p r) h
pair_line defs Mp a b q p r h = stood defs _ _ _ q (no_union a.promises b.promises p r) h

pub before_theorem_line : (defs : List Def) (k : BeforeTheorem) (t : Tm) (a : Theorem) (q : Told) → a.promises ≡ [] → ByTermThenTheorem defs k t a q → IfOk q (IsLine defs)
before_theorem_line defs Ap t a q p h = stood defs a.promises _ _ q p h
before_theorem_line defs Disch t a q p h = stood defs a.promises _ _ q p h
before_theorem_line defs Disj2 t a q p h = stood defs a.promises _ _ q p h
before_theorem_line defs False t a q p h = stood defs a.promises _ _ q p h

pub before_term_line : (defs : List Def) (k : BeforeTerm) (a : Theorem) (t : Tm) (q : Told) → a.promises ≡ [] → ByTheoremThenTerm defs k a t q → IfOk q (IsLine defs)
before_term_line defs ApArg a t q p h = stood defs a.promises _ _ q p h
before_term_line defs Spec a t q p h = stood defs a.promises _ _ q p h
before_term_line defs Disj1 a t q p h = stood defs a.promises _ _ q p h

name_line : (defs : List Def) (k : OfVariable) (x : List ℕ) (s : Typ) (a : Theorem) (q : Told) → a.promises ≡ [] → ByName defs k x s a q → IfOk q (IsLine defs)
name_line defs Lam x s a q p h = stood defs a.promises _ _ q p h
name_line defs Gen x s a q p h = stood defs a.promises _ _ q p h
name_line defs Ext x s a q p h = stood defs a.promises _ _ q p h

-- of a free variable, or nothing
free_line : (defs : List Def) (t : Tm) (next : List ℕ → Typ → Told → Type 0) (q : Told) → ((x : List ℕ) (s : Typ) → next x s q → IfOk q (IsLine defs)) → OfFree t next q → IfOk q (IsLine defs)
free_line defs (free x s) next q k h = k x s h
free_line defs (bound n) next q k h = subst (λ (r : Told). IfOk r (IsLine defs)) (sym h) tt
free_line defs (constant x s) next q k h = subst (λ (r : Told). IfOk r (IsLine defs)) (sym h) tt
free_line defs (app f x) next q k h = subst (λ (r : Told). IfOk r (IsLine defs)) (sym h) tt
free_line defs (abs s x) next q k h = subst (λ (r : Told). IfOk r (IsLine defs)) (sym h) tt

pub variable_line : (defs : List Def) (k : OfVariable) (t : Tm) (a : Theorem) (q : Told) → a.promises ≡ [] → ByVariable defs k t a q → IfOk q (IsLine defs)
variable_line defs k t a q p h = free_line defs t (λ x s u. ByName defs k x s a u) q (λ x s g. name_line defs k x s a q p g) h

given_within : (b c : Bool) (x : Theorem) (r s : Refusal) (y : Theorem) → cond b (refused r) (cond c (gives x) (refused s)) ≡ gives y → x ≡ y
given_within true c x r s y e = cc
given_within false true x r s y e = same_given x y e
given_within false false x r s y e = cc

choose_line : (defs : List Def) (x : List ℕ) (s : Typ) (a b : Theorem) (q : Told) → a.promises ≡ [] → b.promises ≡ [] → Answers q (choose_from defs x s a b) → IfOk q (IsLine defs)
choose_line defs x s a b (Ok th) p r h =
    let known = unless_gives unknown_name (unknown_in_type (signature_of defs) s) _ th h in
    let parts = part_gives shape (existence_parts a.concl) (chosen_by defs x s a b) th known.1 in
    made defs _ th (given_within _ _ _ _ _ th parts.2) (no_union a.promises b.promises p r) refl
choose_line defs x s a b (Err f) p r h = tt

pub choice_line : (defs : List Def) (t : Tm) (a b : Theorem) (q : Told) → a.promises ≡ [] → b.promises ≡ [] → ByChoice defs t a b q → IfOk q (IsLine defs)
choice_line defs t a b q p r h = free_line defs t (λ x s u. Answers u (choose_from defs x s a b)) q (λ x s g. choose_line defs x s a b q p r g) h

pub witness_line : (defs : List Def) (t u : Tm) (a : Theorem) (q : Told) → a.promises ≡ [] → ByWitness defs t u a q → IfOk q (IsLine defs)
witness_line defs t u a q p h = stood defs a.promises _ _ q p h

pub cases_line : (defs : List Def) (a b c : Theorem) (q : Told) → a.promises ≡ [] → b.promises ≡ [] → c.promises ≡ [] → ByCases defs a b c q → IfOk q (IsLine defs)
cases_line defs a b c (Ok th) p r s h =
    let parts = part_gives shape (disjunction_parts a.concl) _ th h in
    let same = gives_where (term_eq b.concl c.concl) _ (differ b.concl c.concl) th parts.2 in
    made defs _ th same.1 (no_union (promise_union a.promises b.promises) c.promises (no_union a.promises b.promises p r) s) refl
cases_line defs a b c (Err f) p r s h = tt

pub nothing_line : (defs : List Def) (q : Told) → ByNothing defs q → IfOk q (IsLine defs)
nothing_line defs q h = stood defs [] [] (gives true_constant) q refl h

pub terms_line : (defs : List Def) (a : Theorem) (pairs : List (List ℕ × Typ × Tm)) (q : Told) → a.promises ≡ [] → ByTerms defs a pairs q → IfOk q (IsLine defs)
terms_line defs a pairs q p h = stood defs a.promises _ _ q p h

pub types_line : (defs : List Def) (a : Theorem) (pairs : List (List ℕ × Typ)) (q : Told) → a.promises ≡ [] → ByTypes defs a pairs q → IfOk q (IsLine defs)
types_line defs a pairs q p h = stood defs a.promises _ _ q p h
