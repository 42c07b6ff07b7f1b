-- `p = p` from given hypotheses and promises.
use Rattle.std.proofs.Common.{◌≡◌, ◌∙◌, ℕ, true, false, List, [], ◌∷◌, refl, sym, ap}
use Rattle.std.specs.Prelude.{Result, Ok, Err, IfOk}
use Rattle.std.proofs.lemmas.Option.{same_Some}
use Rattle.fp_term.specs.Types.{Typ}
use Rattle.fp_term.specs.Terms.{Tm, free, replaced}
use Rattle.fp_conclude.specs.Logic.{truth_type, equal}
use Rattle.fp_conclude.specs.Hypotheses.{IsSet, union, without, all_replaced, occurs, occurs_in_any}
use Rattle.fp_conclude.specs.Outcomes.{gives}
use Rattle.fp_conclude.specs.Rules.{inst_of, eq_mp_of}
use Rattle.fp_conclude.proofs.Gives.{inst_gives, eq_mp_gives}
use Rattle.fp_conclude.proofs.Outcomes.{same_given}
use Rattle.fp_kernel.specs.Definitions.{Def, Within, whole}
use Rattle.fp_kernel.specs.Derivability.{IsFormula}
use Rattle.fp_kernel.specs.Start.{signature_of}
use Rattle.fp_kernel.specs.Theorems.{Theorem, promise_union, from_one, from_both}
use Rattle.fp_kernel.proofs.Growing.{from_start}
use Rattle.fp_term.specs.Names.{truth}
use Rattle.fp_conv.specs.Equations.{IsTyped, IsGiven, Equates}
use Rattle.fp_conv.proofs.Instanced.{known_types}
use Rattle.fp_conv.proofs.Unions.{union_own, promises_own}
use Rattle.fp_conv.proofs.Unused.{not_member, all_apart, without_apart, occurs_in_equation, placed_in_equation}

-- the variable is well typed
pub variable_typed : (defs : List Def) (name : List ℕ) (v : Tm) → v ≡ free name truth_type → IsTyped (signature_of defs) v
variable_typed defs name v is = rw is (record { type = truth_type; well = record { typed = refl; over = ((from_start defs).types truth 0 refl, tt) } })

pub equal_defs : (defs : List Def) (th : Theorem) (promises : List (ℕ × Tm)) (hyps : List Tm) (p : Tm) → th ≡ record { defs = defs; promises = promises; hyps = hyps; concl = p } → Within th.defs defs
equal_defs defs th promises hyps p is = rw is whole

module _ (defs : List Def) (a : Theorem) (name : List ℕ) (v : Tm) (v_is : v ≡ free name truth_type) (apart : occurs_in_any name truth_type a.hyps ≡ false) where
  abbrev own : Theorem
  own = record { defs = defs; promises = []; hyps = []; concl = equal truth_type v v }

  own_is : (o : Theorem) → Equates defs [] [] v v o → o ≡ own
  own_is o e =
      let typed = rw v_is at e.typed.typed in
      let same : truth_type ≡ e.type = same_Some truth_type e.type typed in
      rw e.is (ap (λ (u : Typ). record { defs = defs; promises = []; hyps = []; concl = equal u v v }) (sym same))

  occurs_own : occurs name truth_type (equal truth_type v v) ≡ true
  occurs_own = rw v_is (occurs_in_equation name truth_type truth_type)

  kept : without (equal truth_type v v) a.hyps ≡ a.hyps
  kept = without_apart (equal truth_type v v) a.hyps (not_member name truth_type (equal truth_type v v) a.hyps occurs_own apart)

  abbrev alike : Theorem
  alike = record { defs = defs; promises = a.promises; hyps = a.hyps; concl = equal truth_type a.concl (equal truth_type v v) }

  -- the equation of the theorem with that of the variable
  alike_is : (o th : Theorem) → Equates defs [] [] v v o →
      th ≡ record { defs = defs; promises = promise_union a.promises o.promises; hyps = union (without o.concl a.hyps) (without a.concl o.hyps); concl = equal truth_type a.concl o.concl } → th ≡ alike
  alike_is o th e i = let is = own_is o e in let k = kept in i ∙ rw (is, k) refl

  pub alike_within : (o th : Theorem) → Equates defs [] [] v v o →
      th ≡ record { defs = defs; promises = promise_union a.promises o.promises; hyps = union (without o.concl a.hyps) (without a.concl o.hyps); concl = equal truth_type a.concl o.concl } → Within th.defs defs
  alike_within o th e i = rw (alike_is o th e i) whole

  held : (o th : Theorem) → Equates defs [] [] v v o →
      th ≡ record { defs = defs; promises = promise_union a.promises o.promises; hyps = union (without o.concl a.hyps) (without a.concl o.hyps); concl = equal truth_type a.concl o.concl } →
      from_both defs th a (eq_mp_of th.concl a.concl) ≡ gives (record { defs = defs; promises = a.promises; hyps = a.hyps; concl = equal truth_type v v })
  held o th e i =
      let is = alike_is o th e i in
      let same_promises = promises_own a.promises in
      let same_hyps = union_own a.hyps in
      let made = ap (from_both defs alike a) (eq_mp_gives truth_type a.concl (equal truth_type v v)) in
      rw is (rw (same_promises, same_hyps) (rw (same_promises, same_hyps) at made))

  pub held_given : (o th : Theorem) → Equates defs [] [] v v o →
      th ≡ record { defs = defs; promises = promise_union a.promises o.promises; hyps = union (without o.concl a.hyps) (without a.concl o.hyps); concl = equal truth_type a.concl o.concl } →
      IsGiven (from_both defs th a (eq_mp_of th.concl a.concl))
  held_given o th e i = record { value = _; given = held o th e i }

  pub held_is : {E : Type 0} (o th : Theorem) (q : Result Theorem E) → Equates defs [] [] v v o →
      th ≡ record { defs = defs; promises = promise_union a.promises o.promises; hyps = union (without o.concl a.hyps) (without a.concl o.hyps); concl = equal truth_type a.concl o.concl } →
      IfOk q (λ x. from_both defs th a (eq_mp_of th.concl a.concl) ≡ gives x) → IfOk q (λ x. x ≡ record { defs = defs; promises = a.promises; hyps = a.hyps; concl = equal truth_type v v })
  held_is o th (Ok x) e i m = same_given x _ (sym m ∙ held o th e i)
  held_is o th (Err f) e i m = tt

  -- the instance of it by a formula
  module _ (th : Theorem) (th_is : th ≡ record { defs = defs; promises = a.promises; hyps = a.hyps; concl = equal truth_type v v }) (set : IsSet a.hyps) (p : Tm) (k : IsFormula (signature_of defs) p) where
    put : replaced ((name, truth_type, p) ∷ []) (equal truth_type v v) ≡ equal truth_type p p
    put = rw v_is (placed_in_equation name truth_type p truth_type)

    carried : from_one defs th (all_replaced ((name, truth_type, p) ∷ []) th.hyps) (inst_of (signature_of defs) ((name, truth_type, p) ∷ []) th.concl)
        ≡ gives (record { defs = defs; promises = a.promises; hyps = a.hyps; concl = equal truth_type p p })
    carried =
        let e = inst_gives (signature_of defs) ((name, truth_type, p) ∷ []) (equal truth_type v v) (known_types defs) (k, tt) in
        let kept_all = all_apart name truth_type p a.hyps apart set in
        rw th_is (rw kept_all (ap (from_one defs (record { defs = defs; promises = a.promises; hyps = a.hyps; concl = equal truth_type v v }) a.hyps) (e ∙ ap gives put)))

    pub carried_given : IsGiven (from_one defs th (all_replaced ((name, truth_type, p) ∷ []) th.hyps) (inst_of (signature_of defs) ((name, truth_type, p) ∷ []) th.concl))
    carried_given = record { value = _; given = carried }

    pub carried_equates : {E : Type 0} (q : Result Theorem E) → IfOk q (λ x. from_one defs th (all_replaced ((name, truth_type, p) ∷ []) th.hyps) (inst_of (signature_of defs) ((name, truth_type, p) ∷ []) th.concl) ≡ gives x) →
        IfOk q (Equates defs a.promises a.hyps p p)
    carried_equates (Ok x) m = record { type = truth_type; typed = k; is = same_given x _ (sym m ∙ carried) }
    carried_equates (Err f) m = tt
