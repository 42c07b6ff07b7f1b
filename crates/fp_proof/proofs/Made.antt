-- What a rule gave stands over the definitions.
use Rattle.std.proofs.Common.{◌≡◌, ◌∙◌, ℕ, zero, suc, true, false, List, [], ◌∷◌, ◌++◌, take, refl, sym, ap, subst}
use Rattle.std.specs.Prelude.{Bool, if◌then◌else◌, Option, Some, None, Result, Ok, Err}
use Rattle.fp_term.specs.Types.{Typ, type_eq}
use Rattle.fp_term.specs.Terms.{Tm, free, opened, term_eq}
use Rattle.fp_term.specs.Signatures.{unknown_in_type}
use Rattle.fp_term.specs.declared.signature.Signature.{Signature}
use Rattle.fp_conclude.specs.Hypotheses.{without, occurs_in_any}
use Rattle.fp_conclude.specs.Checks.{typed_over}
use Rattle.fp_conclude.specs.Outcomes.{Outcome, Refusal, gives, refused, shape, unknown_name, with_part, unless, Answers}
use Rattle.fp_conclude.proofs.Checked.{well_typed}
use Rattle.fp_forms.specs.Forms.{implication_parts}
use Rattle.fp_forms.specs.Quantified.{existence_parts}
use Rattle.fp_logic.specs.Derived.{undisch_from}
use Rattle.fp_disjunction.specs.Forms.{disjunction_parts}
use Rattle.fp_disjunction.specs.Derived.{cases_from}
use Rattle.fp_quant.specs.Existential.{choose_from}
use Rattle.fp_conv.specs.Equations.{IsTyped}
use Rattle.fp_conv.specs.Normal.{NormalForm}
use Rattle.fp_conclude.specs.declared.fault.RuleFault.{RuleFault}
use Rattle.fp_kernel.specs.Definitions.{Def, Within, whole}
use Rattle.fp_kernel.specs.Start.{signature_of}
use Rattle.fp_kernel.specs.Theorems.{Theorem, stands, by_both}
use Rattle.fp_retrace.specs.Standing.{AreWithin}
use Rattle.fp_retrace.proofs.Stood.{stood}

pub made : (defs : List Def) (promises : List (ℕ × Tm)) (hyps : List Tm) (o : Outcome Tm) (r : Result Theorem RuleFault) (th : Theorem) → Answers r (stands defs promises hyps o) → r ≡ Ok th → Within th.defs defs
made defs promises hyps o (Ok x) th h e = let f : x ≡ th = cc in rw (← f) (stood defs promises hyps o x h)
made defs promises hyps o (Err f) th h e = cc

-- with one more theorem
pub after : (defs : List Def) (ths : List Theorem) (th : Theorem) → AreWithin defs ths → Within th.defs defs → AreWithin defs (ths ++ th ∷ [])
after defs [] th k l = (l, tt)
after defs (x ∷ ths) th k l = (k.0, after defs ths th k.1 l)

-- with the first ones alone
pub first : (defs : List Def) (n : ℕ) (ths : List Theorem) → AreWithin defs ths → AreWithin defs (take n ths)
first defs zero ths k = tt
first defs (suc n) [] k = tt
first defs (suc n) (x ∷ ths) k = (k.0, first defs n ths k.1)

-- what comes out, if anything, stands over the definitions
abbrev IsOver : List Def → Outcome Theorem → Type 0
IsOver defs (gives th) = th.defs ≡ defs
IsOver defs (refused r) = Unit {0}

over_if : (defs : List Def) (b : Bool) (o q : Outcome Theorem) → IsOver defs o → IsOver defs q → IsOver defs (if b then o else q)
over_if defs true o q k l = k
over_if defs false o q k l = l

over_part : {A : Type 0} (defs : List Def) (r : Refusal) (p : Option A) (next : A → Outcome Theorem) → ((x : A) → IsOver defs (next x)) → IsOver defs (with_part r p next)
over_part defs r None next k = tt
over_part defs r (Some x) next k = k x

over_unless : (defs : List Def) (f : List ℕ → Refusal) (p : Option (List ℕ)) (o : Outcome Theorem) → IsOver defs o → IsOver defs (unless f p o)
over_unless defs f None o k = k
over_unless defs f (Some x) o k = tt

over : (defs : List Def) (o : Outcome Theorem) (r : Result Theorem RuleFault) (th : Theorem) → IsOver defs o → Answers r o → r ≡ Ok th → Within th.defs defs
over defs (gives x) (Ok y) th k h e = let f : x ≡ th = cc in let same : th.defs ≡ defs = ap (λ (t : Theorem). t.defs) (sym f) ∙ k in subst (λ (ds : List Def). Within th.defs ds) same whole
over defs (gives x) (Err f) th k h e = cc
over defs (refused r) (Ok y) th k h e = cc
over defs (refused r) (Err f) th k h e = cc

pub undischarges : (defs : List Def) (a : Theorem) (r : Result Theorem RuleFault) (th : Theorem) → Answers r (undisch_from defs a) → r ≡ Ok th → Within th.defs defs
undischarges defs a r th h e = over defs (undisch_from defs a) r th (over_part defs shape (implication_parts a.concl) _ (λ p. refl)) h e

pub decides : (defs : List Def) (a b c : Theorem) (r : Result Theorem RuleFault) (th : Theorem) → Answers r (cases_from defs a b c) → r ≡ Ok th → Within th.defs defs
decides defs a b c r th h e =
    over defs (cases_from defs a b c) r th (over_part defs shape (disjunction_parts a.concl) _ (λ p. over_if defs (term_eq b.concl c.concl) _ _ refl tt)) h e

pub chooses : (defs : List Def) (name : List ℕ) (ty : Typ) (a b : Theorem) (r : Result Theorem RuleFault) (th : Theorem) → Answers r (choose_from defs name ty a b) → r ≡ Ok th → Within th.defs defs
chooses defs name ty a b r th h e =
    over defs (choose_from defs name ty a b) r th
    (over_unless defs unknown_name (unknown_in_type (signature_of defs) ty) _ (over_part defs shape (existence_parts a.concl) _
    (λ p. over_if defs (occurs_in_any name ty (b.concl ∷ a.concl ∷ without (opened 0 (free name ty) p.1) b.hyps)) _ _ tt (over_if defs (type_eq ty p.0) _ _ refl tt)))) h e

-- the normal form's theorem
pub normalizes : (defs : List Def) (t : Tm) (th : Theorem) → NormalForm defs t th → Within th.defs defs
normalizes defs t th n = rw n.equates.is whole

typed_by : (g : Signature) (t : Tm) (o : Outcome Typ) (r : Result Typ RuleFault) (s : Typ) → Answers r o → r ≡ Ok s → typed_over g t ≡ o → IsTyped g t
typed_by g t (gives u) (Ok v) s h e is = record { type = u; well = well_typed g t u is }
typed_by g t (gives u) (Err f) s h e is = cc
typed_by g t (refused q) (Ok v) s h e is = cc
typed_by g t (refused q) (Err f) s h e is = cc

pub found_typed : (g : Signature) (t : Tm) (r : Result Typ RuleFault) (s : Typ) → Answers r (typed_over g t) → r ≡ Ok s → IsTyped g t
found_typed g t r s h e = typed_by g t (typed_over g t) r s h e refl

-- what two theorems gave, over equal definitions
pub joins : (defs same : List Def) (a b th : Theorem) (p : Tm) → th ≡ by_both defs a b p → defs ≡ same → Within th.defs same
joins defs same a b th p e is = rw e (rw is whole)
