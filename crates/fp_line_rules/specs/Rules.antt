-- What each rule gives, called on terms and theorems.
use Rattle.std.specs.Prelude.{◌≡◌, ℕ, List, [], ◌∷◌, Result, Ok, Err}
use Rattle.fp_term.specs.Types.{Typ}
use Rattle.fp_term.specs.Terms.{Tm, bound, free, constant, app, abs}
use Rattle.fp_conclude.specs.declared.fault.RuleFault.{RuleFault}
use Rattle.fp_conclude.specs.declared.fault.RuleFault.TheVariants as fault
use Rattle.fp_conclude.specs.Logic.{truth_type, equal, true_constant, conjunction}
use Rattle.fp_conclude.specs.Hypotheses.{union, without, all_replaced, all_retyped_terms}
use Rattle.fp_conclude.specs.Outcomes.{Answers, FaultIs, gives, refused, shape}
use Rattle.fp_conclude.specs.Rules.{refl_of, trans_of, mk_comb_of, lam_of, beta_of, assume_of, eq_mp_of, inst_of, inst_ty_of}
use Rattle.fp_kernel.specs.Definitions.{Def}
use Rattle.fp_kernel.specs.Start.{signature_of}
use Rattle.fp_kernel.specs.Theorems.{Theorem, stands, from_one, from_two, from_both}
use Rattle.fp_logic.specs.Derived.{sym_of, ap_of, ap_arg_of, eqt_elim_of, conj1_of, conj2_of, mp_of, disch_of, undisch_from}
use Rattle.fp_disjunction.specs.Derived.{eqf_of, disj1_of, disj2_of, not_intro_of, not_elim_of, false_elim_of, cases_from}
use Rattle.fp_conv.specs.Normal.{Normalizes}
use Rattle.fp_conv.specs.Outermost.{Rewritten, Determined, sides_of}
use Rattle.fp_quant.specs.Existential.{exists_of, choose_from, select_of}
use Rattle.fp_quant.specs.Universal.{gen_all_of, spec_of, ext_of}
use Rattle.fp_line_rules.specs.declared.rule.OfTerm.{OfTerm}
use Rattle.fp_line_rules.specs.declared.rule.OfTerm.TheVariants.{Refl, Beta, Assume}
use Rattle.fp_line_rules.specs.declared.rule.OfTheorem.{OfTheorem}
use Rattle.fp_line_rules.specs.declared.rule.OfTheorem.TheVariants.{Sym, Norm, Eqt, EqtElim, Eqf, Conj1, Conj2, Undisch, NotIntro, NotElim, Select}
use Rattle.fp_line_rules.specs.declared.rule.OfPair.{OfPair}
use Rattle.fp_line_rules.specs.declared.rule.OfPair.TheVariants.{Trans, MkComb, EqMp, Antisym, Rewrite, Conj, Mp}
use Rattle.fp_line_rules.specs.declared.rule.BeforeTheorem.{BeforeTheorem}
use Rattle.fp_line_rules.specs.declared.rule.BeforeTheorem.TheVariants.{Ap, Disch, Disj2, False}
use Rattle.fp_line_rules.specs.declared.rule.BeforeTerm.{BeforeTerm}
use Rattle.fp_line_rules.specs.declared.rule.BeforeTerm.TheVariants.{ApArg, Spec, Disj1}
use Rattle.fp_line_rules.specs.declared.rule.OfVariable.{OfVariable}
use Rattle.fp_line_rules.specs.declared.rule.OfVariable.TheVariants.{Lam, Gen, Ext}

-- what comes of a rule
abbrev pub Told : Type 0
Told = Result Theorem RuleFault

abbrev pub ByTerm : List Def → OfTerm → Tm → Told → Type 0
ByTerm defs Refl t r = Answers r (stands defs [] [] (refl_of (signature_of defs) t))
ByTerm defs Beta t r = Answers r (stands defs [] [] (beta_of (signature_of defs) t))
ByTerm defs Assume t r = Answers r (stands defs [] (t ∷ []) (assume_of (signature_of defs) t))

-- the beta-normal form, which there always is
abbrev pub ByNorm : List Def → Theorem → Told → Type 0
ByNorm defs a (Ok th) = Normalizes defs a th
ByNorm defs a (Err f) = f ≡ fault.NoMemory

abbrev pub ByTheorem : List Def → OfTheorem → Theorem → Told → Type 0
ByTheorem defs Sym a r = Answers r (from_one defs a a.hyps (sym_of a.concl))
ByTheorem defs Norm a r = ByNorm defs a r
ByTheorem defs Eqt a r = Answers r (from_one defs a a.hyps (gives (equal truth_type a.concl true_constant)))
ByTheorem defs EqtElim a r = Answers r (from_one defs a a.hyps (eqt_elim_of a.concl))
ByTheorem defs Eqf a r = Answers r (from_one defs a a.hyps (eqf_of a.concl))
ByTheorem defs Conj1 a r = Answers r (from_one defs a a.hyps (conj1_of a.concl))
ByTheorem defs Conj2 a r = Answers r (from_one defs a a.hyps (conj2_of a.concl))
ByTheorem defs Undisch a r = Answers r (undisch_from defs a)
ByTheorem defs NotIntro a r = Answers r (from_one defs a a.hyps (not_intro_of a.concl))
ByTheorem defs NotElim a r = Answers r (from_one defs a a.hyps (not_elim_of a.concl))
ByTheorem defs Select a r = Answers r (from_one defs a a.hyps (select_of a.concl))

-- what the second becomes by the first, of which there is one
abbrev pub ByRewriting : List Def → Theorem → Theorem → Told → Type 0
ByRewriting defs a b (Ok th) = Rewritten defs a b th × Determined a b th
ByRewriting defs a b (Err f) = FaultIs f (sides_of a.concl)

abbrev pub ByPair : List Def → OfPair → Theorem → Theorem → Told → Type 0
ByPair defs Trans a b r = Answers r (from_both defs a b (trans_of a.concl b.concl))
ByPair defs MkComb a b r = Answers r (from_both defs a b (mk_comb_of a.concl b.concl))
ByPair defs EqMp a b r = Answers r (from_both defs a b (eq_mp_of a.concl b.concl))
ByPair defs Antisym a b r = Answers r (from_two defs a b (union (without b.concl a.hyps) (without a.concl b.hyps)) (gives (equal truth_type a.concl b.concl)))
ByPair defs Rewrite a b r = ByRewriting defs a b r
ByPair defs Conj a b r = Answers r (from_both defs a b (gives (conjunction a.concl b.concl)))
ByPair defs Mp a b r = Answers r (from_both defs a b (mp_of a.concl b.concl))

abbrev pub ByTermThenTheorem : List Def → BeforeTheorem → Tm → Theorem → Told → Type 0
ByTermThenTheorem defs Ap t a r = Answers r (from_one defs a a.hyps (ap_of (signature_of defs) t a.concl))
ByTermThenTheorem defs Disch t a r = Answers r (from_one defs a (without t a.hyps) (disch_of (signature_of defs) t a.concl))
ByTermThenTheorem defs Disj2 t a r = Answers r (from_one defs a a.hyps (disj2_of (signature_of defs) t a.concl))
ByTermThenTheorem defs False t a r = Answers r (from_one defs a a.hyps (false_elim_of (signature_of defs) t a.concl))

abbrev pub ByTheoremThenTerm : List Def → BeforeTerm → Theorem → Tm → Told → Type 0
ByTheoremThenTerm defs ApArg a t r = Answers r (from_one defs a a.hyps (ap_arg_of (signature_of defs) a.concl t))
ByTheoremThenTerm defs Spec a t r = Answers r (from_one defs a a.hyps (spec_of (signature_of defs) a.concl t))
ByTheoremThenTerm defs Disj1 a t r = Answers r (from_one defs a a.hyps (disj1_of (signature_of defs) a.concl t))

abbrev pub ByName : List Def → OfVariable → List ℕ → Typ → Theorem → Told → Type 0
ByName defs Lam x s a r = Answers r (from_one defs a a.hyps (lam_of (signature_of defs) x s a.hyps a.concl))
ByName defs Gen x s a r = Answers r (from_one defs a a.hyps (gen_all_of (signature_of defs) x s a.hyps a.concl))
ByName defs Ext x s a r = Answers r (from_one defs a a.hyps (ext_of (signature_of defs) x s a.hyps a.concl))

-- of a free variable; another term doesn't come here
abbrev pub OfFree : Tm → (List ℕ → Typ → Told → Type 0) → Told → Type 0
OfFree (free x s) next r = next x s r
OfFree (bound n) next r = r ≡ Err fault.Shape
OfFree (constant x s) next r = r ≡ Err fault.Shape
OfFree (app f x) next r = r ≡ Err fault.Shape
OfFree (abs s x) next r = r ≡ Err fault.Shape

abbrev pub ByVariable : List Def → OfVariable → Tm → Theorem → Told → Type 0
ByVariable defs k x a r = OfFree x (λ name s q. ByName defs k name s a q) r

abbrev pub ByChoice : List Def → Tm → Theorem → Theorem → Told → Type 0
ByChoice defs x a b r = OfFree x (λ name s q. Answers q (choose_from defs name s a b)) r

abbrev pub ByWitness : List Def → Tm → Tm → Theorem → Told → Type 0
ByWitness defs t u a r = Answers r (from_one defs a a.hyps (exists_of (signature_of defs) t u a.concl))

abbrev pub ByCases : List Def → Theorem → Theorem → Theorem → Told → Type 0
ByCases defs a b c r = Answers r (cases_from defs a b c)

abbrev pub ByNothing : List Def → Told → Type 0
ByNothing defs r = Answers r (stands defs [] [] (gives true_constant))

abbrev pub ByTerms : List Def → Theorem → List (List ℕ × Typ × Tm) → Told → Type 0
ByTerms defs a pairs r = Answers r (from_one defs a (all_replaced pairs a.hyps) (inst_of (signature_of defs) pairs a.concl))

abbrev pub ByTypes : List Def → Theorem → List (List ℕ × Typ) → Told → Type 0
ByTypes defs a pairs r = Answers r (from_one defs a (all_retyped_terms pairs a.hyps) (inst_ty_of (signature_of defs) pairs a.concl))
