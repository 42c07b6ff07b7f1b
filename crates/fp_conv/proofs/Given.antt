-- What the rules give on equations of given terms.
use Rattle.std.proofs.Common.{◌≡◌, ◌∙◌, ℕ, false, List, [], refl, sym, ap}
use Rattle.std.specs.Prelude.{Result, Ok, Err, IfOk}
use Rattle.std.specs.Result.{ForErr}
use Rattle.std.proofs.lemmas.Option.{same_Some}
use Rattle.fp_term.specs.Types.{Typ}
use Rattle.fp_term.specs.Terms.{Tm, app, abs, closed}
use Rattle.fp_term.specs.Typing.{function_type}
use Rattle.fp_term.specs.Signatures.{IsType, IsWellTyped}
use Rattle.fp_term.proofs.Typed.{app_parts, abs_typed, closed_typed, closed_over}
use Rattle.fp_conclude.specs.declared.fault.RuleFault.{RuleFault}
use Rattle.fp_conclude.specs.declared.fault.RuleFault.TheVariants.{UnknownName, IllTyped, NotEquation, NotRedex, NotBool, Shape, Differ, FreeInHyps, NoSuchPromise, PromiseOrder, NoMemory}
use Rattle.fp_conclude.specs.Logic.{equal}
use Rattle.fp_conclude.specs.Hypotheses.{IsSet, union, occurs_in_any}
use Rattle.fp_conclude.specs.Outcomes.{Outcome, gives, FaultIs, Answers}
use Rattle.fp_conclude.specs.Rules.{refl_of, mk_comb_of, lam_of}
use Rattle.fp_conclude.proofs.Gives.{refl_gives, mk_comb_gives, lam_gives}
use Rattle.fp_conclude.proofs.Outcomes.{same_given}
use Rattle.fp_conclude.proofs.Sets.{union_nothing}
use Rattle.fp_kernel.specs.Definitions.{Def, Within, whole}
use Rattle.fp_kernel.specs.Start.{signature_of}
use Rattle.fp_kernel.specs.Theorems.{Theorem, ArePromises, promise_union, stands, from_one, from_both}
use Rattle.fp_kernel.proofs.Promised.{promises_alone as promises_nothing}
use Rattle.fp_conv.specs.Equations.{IsTyped, IsGiven, Equates}

-- what gives something is refused for want of memory alone
memory_alone : {A : Type 0} (fault : RuleFault) (o : Outcome A) → FaultIs fault o → IsGiven o → fault ≡ NoMemory
memory_alone (UnknownName name) o h k = cc (h, k.given)
memory_alone (IllTyped place) o h k = cc (h, k.given)
memory_alone NotEquation o h k = cc (h, k.given)
memory_alone NotRedex o h k = cc (h, k.given)
memory_alone NotBool o h k = cc (h, k.given)
memory_alone Shape o h k = cc (h, k.given)
memory_alone (Differ t u) o h k = cc (h, k.given)
memory_alone (FreeInHyps name) o h k = cc (h, k.given)
memory_alone (NoSuchPromise number) o h k = cc (h, k.given)
memory_alone (PromiseOrder number) o h k = cc (h, k.given)
memory_alone NoMemory o h k = refl

pub given_unless_memory : {A : Type 0} (r : Result A RuleFault) (o : Outcome A) → Answers r o → IsGiven o → ForErr r (λ fault. fault ≡ NoMemory)
given_unless_memory (Ok x) o h k = λ fault e. cc
given_unless_memory (Err f) o h k = λ fault e. let same : f ≡ fault = cc in rw (← same) (memory_alone f o h k)

pub refl_given : (defs : List Def) (t : Tm) → IsTyped (signature_of defs) t → IsGiven (stands defs [] [] (refl_of (signature_of defs) t))
refl_given defs t h = record {
  value = record { defs = defs; promises = []; hyps = []; concl = equal h.type t t };
  given = ap (stands defs [] []) (refl_gives (signature_of defs) t h.type h.well);
}

pub refl_equates : {E : Type 0} (defs : List Def) (t : Tm) (r : Result Theorem RuleFault) (q : Result Theorem E) → IsTyped (signature_of defs) t →
    Answers r (stands defs [] [] (refl_of (signature_of defs) t)) → IfOk q (λ th. r ≡ Ok th) → IfOk q (Equates defs [] [] t t)
unfolding refl_given
refl_equates defs t r (Ok th) h a e = record { type = h.type; typed = h.well; is = same_given th _ (sym (rw e at a) ∙ (refl_given defs t h).given) }
refl_equates defs t r (Err f) h a e = tt

module _ {defs : List Def} where
  -- an equation is a theorem over the definitions
  pub within : {promises : List (ℕ × Tm)} {hyps : List Tm} {t u : Tm} {th : Theorem} → Equates defs promises hyps t u th → Within th.defs defs
  within e = rw e.is whole

  -- the equation of applications, from those of their parts
  pub combine : {p q : List (ℕ × Tm)} {h k : List Tm} {f u x v : Tm} {a b : Theorem} → Equates defs p h f u a → Equates defs q k x v b → IsTyped (signature_of defs) (app f x) →
      (s : Typ) × IsWellTyped (signature_of defs) (app f x) s
      × (from_both defs a b (mk_comb_of a.concl b.concl) ≡ gives (record { defs = defs; promises = promise_union p q; hyps = union h k; concl = equal s (app f x) (app u v) }))
  combine {p} {q} {h} {k} {f} {u} {x} {v} {a} {b} d e t =
      let s = t.type in
      let parts = app_parts [] f x s t.well.typed in
      let from = parts.0 in
      let of_functions = same_Some d.type (function_type from s) (sym d.typed.typed ∙ parts.1) in
      let of_arguments = same_Some e.type from (sym e.typed.typed ∙ parts.2) in
      let left : Theorem = record { defs = defs; promises = p; hyps = h; concl = equal (function_type from s) f u } in
      let right : Theorem = record { defs = defs; promises = q; hyps = k; concl = equal from x v } in
      let left_is : a ≡ left = d.is ∙ ap (λ (w : Typ). record { defs = defs; promises = p; hyps = h; concl = equal w f u }) of_functions in
      let right_is : b ≡ right = e.is ∙ ap (λ (w : Typ). record { defs = defs; promises = q; hyps = k; concl = equal w x v }) of_arguments in
      (s, t.well, rw (left_is, right_is) (ap (from_both defs left right) (mk_comb_gives from s f u x v)))

  pub combine_given : {p q : List (ℕ × Tm)} {h k : List Tm} {f u x v : Tm} {a b : Theorem} → Equates defs p h f u a → Equates defs q k x v b → IsTyped (signature_of defs) (app f x) →
      IsGiven (from_both defs a b (mk_comb_of a.concl b.concl))
  combine_given d e t = let c = combine d e t in record { value = _; given = c.2 }

  pub combine_equates : {p q : List (ℕ × Tm)} {h k : List Tm} {f u x v : Tm} {a b : Theorem} (th : Theorem) → Equates defs p h f u a → Equates defs q k x v b → IsTyped (signature_of defs) (app f x) →
      from_both defs a b (mk_comb_of a.concl b.concl) ≡ gives th → Equates defs (promise_union p q) (union h k) (app f x) (app u v) th
  combine_equates th d e t i = let c = combine d e t in record { type = c.0; typed = c.1; is = same_given th _ (sym i ∙ c.2) }

  pub argument_equates : {E : Type 0} {p : List (ℕ × Tm)} {h : List Tm} {f u x : Tm} {a b : Theorem} (q : Result Theorem E) → Equates defs p h f u a → Equates defs [] [] x x b → IsTyped (signature_of defs) (app f x) →
      IfOk q (λ th. from_both defs a b (mk_comb_of a.concl b.concl) ≡ gives th) → IfOk q (Equates defs p h (app f x) (app u x))
  argument_equates (Ok th) d e t i = combine_equates th d e t i
  argument_equates (Err f) d e t i = tt

  pub function_equates : {E : Type 0} {p : List (ℕ × Tm)} {h : List Tm} {f x v : Tm} {a b : Theorem} (q : Result Theorem E) → ArePromises p → IsSet h → Equates defs [] [] f f a → Equates defs p h x v b → IsTyped (signature_of defs) (app f x) →
      IfOk q (λ th. from_both defs a b (mk_comb_of a.concl b.concl) ≡ gives th) → IfOk q (Equates defs p h (app f x) (app f v))
  function_equates {p = p} {h = h} {f = f} {x = x} {v = v} (Ok th) j k d e t i =
      let made = combine_equates th d e t i in
      let same_promises = promises_nothing p j in
      let same_hyps = union_nothing h k in
      record { type = made.type; typed = made.typed; is = rw (same_promises, same_hyps) at made.is }
  function_equates (Err f) j k d e t i = tt

  -- the equation of abstractions, from that of their opened bodies
  pub abstract : {p : List (ℕ × Tm)} {h : List Tm} {t u : Tm} {b : Theorem} (name : List ℕ) (ty : Typ) → IsType (signature_of defs) ty → occurs_in_any name ty h ≡ false → (e : Equates defs p h t u b) →
      from_one defs b b.hyps (lam_of (signature_of defs) name ty b.hyps b.concl)
      ≡ gives (record { defs = defs; promises = p; hyps = h; concl = equal (function_type ty e.type) (abs ty (closed 0 name ty t)) (abs ty (closed 0 name ty u)) })
  abstract {p} {h} {t} {u} {b} name ty k apart e =
      let left : Theorem = record { defs = defs; promises = p; hyps = h; concl = equal e.type t u } in
      let is : b ≡ left = e.is in
      rw is (ap (from_one defs left h) (lam_gives (signature_of defs) name ty e.type h t u k apart))

  pub abstract_given : {p : List (ℕ × Tm)} {h : List Tm} {t u : Tm} {b : Theorem} (name : List ℕ) (ty : Typ) → IsType (signature_of defs) ty → occurs_in_any name ty h ≡ false → Equates defs p h t u b →
      IsGiven (from_one defs b b.hyps (lam_of (signature_of defs) name ty b.hyps b.concl))
  abstract_given name ty k apart e = record { value = _; given = abstract name ty k apart e }

  pub abstract_equates : {E : Type 0} {p : List (ℕ × Tm)} {h : List Tm} {t u : Tm} {b : Theorem} (name : List ℕ) (ty : Typ) (q : Result Theorem E) → IsType (signature_of defs) ty → occurs_in_any name ty h ≡ false → Equates defs p h t u b →
      IfOk q (λ th. from_one defs b b.hyps (lam_of (signature_of defs) name ty b.hyps b.concl) ≡ gives th) → IfOk q (Equates defs p h (abs ty (closed 0 name ty t)) (abs ty (closed 0 name ty u)))
  abstract_equates {t = t} name ty (Ok th) k apart e i = record {
    type = function_type ty e.type;
    typed = record {
      typed = abs_typed [] ty (closed 0 name ty t) e.type (closed_typed name ty [] 0 t e.type refl e.typed.typed);
      over = (k, closed_over (signature_of defs) name ty 0 t e.typed.over);
    };
    is = same_given th _ (sym i ∙ abstract name ty k apart e);
  }
  abstract_equates name ty (Err f) k apart e i = tt
