-- The equations that a beta-normal form is made of.
use Rattle.std.proofs.Common.{◌≡◌, ◌∙◌, ◌<◌, ◌+◌, ℕ, Bool, true, false, ◌||◌, List, [], refl, sym, ap, subst, arith}
use Rattle.std.specs.Prelude.{Result, Ok, Err, IfOk}
use Rattle.std.proofs.lemmas.Option.{same_Some}
use Rattle.fp_term.specs.Types.{Typ}
use Rattle.fp_term.specs.Terms.{Tm, bound, free, constant, app, abs, size_of, opened, closed}
use Rattle.fp_term.specs.Signatures.{IsWellTyped}
use Rattle.fp_term.specs.declared.signature.Signature.{Signature}
use Rattle.fp_term.proofs.Typed.{app_parts}
use Rattle.fp_conclude.specs.declared.fault.RuleFault.{RuleFault}
use Rattle.fp_conclude.specs.Logic.{truth_type, equal}
use Rattle.fp_conclude.specs.Hypotheses.{IsSet, union, occurs}
use Rattle.fp_conclude.specs.Outcomes.{gives, Answers}
use Rattle.fp_conclude.specs.Rules.{trans_of, mk_comb_of, lam_of, beta_of, eq_mp_of}
use Rattle.fp_conclude.proofs.Gives.{beta_gives, eq_mp_gives}
use Rattle.fp_conclude.proofs.Outcomes.{same_given}
use Rattle.fp_conclude.proofs.Sets.{union_nothing}
use Rattle.fp_kernel.specs.Definitions.{Def, Within}
use Rattle.fp_kernel.specs.Start.{signature_of}
use Rattle.fp_kernel.specs.Derivability.{IsFormula}
use Rattle.fp_kernel.specs.Theorems.{Theorem, IsTheorem, ArePromises, promise_union, stands, from_one, from_both}
use Rattle.fp_kernel.proofs.Later.{later_all}
use Rattle.fp_kernel.proofs.Formulas.{formula_of, sides}
use Rattle.fp_kernel.proofs.Promised.{promises_alone as promises_nothing}
use Rattle.fp_conv.specs.Equations.{IsTyped, IsGiven, Equates, right_of}
use Rattle.fp_conv.specs.Beta.{Reduces, none, first, here, is_redex, is_normal}
use Rattle.fp_conv.specs.Normal.{Reduction, NormalForm, Normalizes}
use Rattle.fp_conv.specs.Passes.{contracted, NormalBy, done}
use Rattle.fp_conv.proofs.Opening.{neither, closed_opened, size-opened}
use Rattle.fp_conv.proofs.Given.{combine_equates, abstract_given, abstract_equates}
use Rattle.fp_conv.proofs.Rewriting.{chain}
use Rattle.fp_conv.proofs.Reducing.{reduces_on, reduces_both, reduces_under}
use Rattle.fp_conv.proofs.Passed.{right_is, reduct_is}

pub function_typed : (g : Signature) (t f x : Tm) → t ≡ app f x → IsTyped g t → IsTyped g f
function_typed g t f x is h =
    let k = rw is at h.well in
    record { type = _; well = record { typed = (app_parts [] f x h.type k.typed).1; over = k.over.0 } }

pub parts_smaller : (t f x : Tm) → t ≡ app f x → size_of f + size_of x < size_of t
parts_smaller t f x is = rw is (omega arith)

pub inner_smaller : (t : Tm) (u : Typ) (x : Tm) → t ≡ abs u x → size_of x < size_of t
inner_smaller t u x is = rw is (omega arith)

pub body_smaller : (t o : Tm) (name : List ℕ) (u : Typ) (x : Tm) → t ≡ abs u x → o ≡ opened 0 (free name u) x → size_of o < size_of t
body_smaller t o name u x is opened_is =
    let same = size-opened name u 0 x in
    rw (is, opened_is, same) (omega arith)

-- a redex
redex_shape : (t : Tm) → is_redex t ≡ true → (s : Typ) × (body : Tm) × (arg : Tm) × (t ≡ app (abs s body) arg)
redex_shape (app (abs s body) arg) e = (s, body, arg, refl)
redex_shape (app (bound n) arg) e = cc
redex_shape (app (free a s) arg) e = cc
redex_shape (app (constant a s) arg) e = cc
redex_shape (app (app f x) arg) e = cc
redex_shape (bound n) e = cc
redex_shape (free a s) e = cc
redex_shape (constant a s) e = cc
redex_shape (abs s x) e = cc

record Contraction (defs : List Def) (t : Tm) : Type 0 where
  reduct : Tm
  type : Typ
  well : IsWellTyped (signature_of defs) t type
  reduces : Reduces t reduct
  right : reduct ≡ contracted t
  stands : stands defs [] [] (beta_of (signature_of defs) t) ≡ gives (record { defs = defs; promises = []; hyps = []; concl = equal type t reduct })

contraction : (defs : List Def) (t : Tm) → IsTyped (signature_of defs) t → is_redex t ≡ true → Contraction defs t
contraction defs t h e =
    let p = redex_shape t e in
    let k = rw p.3 at h.well in
    rw p.3 (record {
      reduct = opened 0 p.2 p.1;
      type = h.type;
      well = k;
      reduces = first (here p.0 p.1 p.2) none;
      right = refl;
      stands = ap (stands defs [] []) (beta_gives (signature_of defs) p.0 h.type p.1 p.2 k);
    })

pub contraction_given : (defs : List Def) (t : Tm) → IsTyped (signature_of defs) t → is_redex t ≡ true → IsGiven (stands defs [] [] (beta_of (signature_of defs) t))
contraction_given defs t h e = record { value = _; given = (contraction defs t h e).stands }

pub contraction_reduces : {E : Type 0} (defs : List Def) (t : Tm) (r : Result Theorem RuleFault) (q : Result Theorem E) → IsTyped (signature_of defs) t → is_redex t ≡ true →
    Answers r (stands defs [] [] (beta_of (signature_of defs) t)) → IfOk q (λ th. r ≡ Ok th) → IfOk q (Reduction defs t)
contraction_reduces defs t r (Ok th) h e a i =
    let c = contraction defs t h e in
    record { reduct = c.reduct; reduces = c.reduces; equates = record { type = c.type; typed = c.well; is = same_given th _ (sym (rw i at a) ∙ c.stands) } }
contraction_reduces defs t r (Err f) h e a i = tt

pub contraction_right : {E : Type 0} (defs : List Def) (t : Tm) (r : Result Theorem RuleFault) (q : Result Theorem E) → IsTyped (signature_of defs) t → is_redex t ≡ true →
    Answers r (stands defs [] [] (beta_of (signature_of defs) t)) → IfOk q (λ th. r ≡ Ok th) → IfOk q (λ th. right_of th.concl ≡ contracted t)
contraction_right defs t r (Ok th) h e a i =
    let c = contraction defs t h e in
    ap (λ (w : Theorem). right_of w.concl) (same_given th _ (sym (rw i at a) ∙ c.stands)) ∙ c.right
contraction_right defs t r (Err f) h e a i = tt

-- a term that reduces to itself
pub unreduced_ok : {E : Type 0} (defs : List Def) (t : Tm) (q : Result Theorem E) → IfOk q (Equates defs [] [] t t) → IfOk q (Reduction defs t)
unreduced_ok defs t (Ok th) e = record { reduct = t; reduces = none; equates = e }
unreduced_ok defs t (Err f) e = tt

module _ {defs : List Def} {t : Tm} {a : Theorem} where
  -- the right side of the equation, which is a formula
  pub right_typed : (p r : Tm) → Reduction defs t a → IsFormula (signature_of a.defs) a.concl → p ≡ a.concl → r ≡ right_of p → IsTyped (signature_of defs) r
  right_typed p r d f p_is r_is =
      let e = d.equates in
      let k = rw e.is at f in
      let right = (sides (signature_of defs) e.type t d.reduct k).right in
      rw (r_is, p_is, e.is) (record { type = e.type; well = right })

  pub normal_form : (p r : Tm) → Reduction defs t a → p ≡ a.concl → r ≡ right_of p → is_normal r ≡ true → ((v : Tm) → NormalBy (right_of a.concl) v → NormalBy t v) → NormalForm defs t a
  normal_form p r d p_is r_is n k =
      let normal : is_normal d.reduct ≡ true = rw (r_is, p_is, d.equates.is) at n in
      record {
        reduct = d.reduct;
        reduces = d.reduces;
        normal = normal;
        by_passes = k d.reduct (subst (λ (w : Tm). NormalBy w d.reduct) (sym (reduct_is d)) (done normal));
        equates = d.equates;
      }

  -- one reduction after the other
  after : {b : Theorem} → Reduction defs t a → Reduction defs (right_of a.concl) b → IsFormula (signature_of a.defs) a.concl →
      (e : Reduction defs t a) × (f : Reduction defs e.reduct b) × (from_both defs a b (trans_of a.concl b.concl) ≡ gives (record { defs = defs; promises = []; hyps = []; concl = equal e.equates.type t f.reduct }))
  after {b} d e f =
      let one = d.equates in
      let next : Reduction defs d.reduct b = rw one.is at e in
      let two = next.equates in
      let k = rw one.is at f in
      let right = (sides (signature_of defs) one.type t d.reduct k).right in
      let same = same_Some two.type one.type (sym two.typed.typed ∙ right.typed) in
      let left_is : a.concl ≡ equal one.type t d.reduct = ap (λ (w : Theorem). w.concl) one.is in
      let right_is : b.concl ≡ equal one.type d.reduct next.reduct = ap (λ (w : Theorem). w.concl) two.is ∙ ap (λ (u : Typ). equal u d.reduct next.reduct) same in
      let c = chain defs a b one.type t d.reduct next.reduct left_is right_is in
      let promises : promise_union a.promises b.promises ≡ [] = rw (one.is, two.is) refl in
      let hyps : union a.hyps b.hyps ≡ [] = rw (one.is, two.is) refl in
      (d, next, rw (promises, hyps) (rw (promises, hyps) at c))

  pub after_given : {b : Theorem} → Reduction defs t a → Reduction defs (right_of a.concl) b → IsFormula (signature_of a.defs) a.concl → IsGiven (from_both defs a b (trans_of a.concl b.concl))
  after_given d e f = let c = after d e f in record { value = _; given = c.2 }

  pub after_reduces : {E : Type 0} {b : Theorem} (q : Result Theorem E) → Reduction defs t a → Reduction defs (right_of a.concl) b → IsFormula (signature_of a.defs) a.concl →
      IfOk q (λ th. from_both defs a b (trans_of a.concl b.concl) ≡ gives th) → IfOk q (Reduction defs t)
  after_reduces (Ok th) d e f i =
      let c = after d e f in
      record {
        reduct = c.1.reduct;
        reduces = reduces_on c.0.reduces c.1.reduces;
        equates = record { type = c.0.equates.type; typed = c.0.equates.typed; is = same_given th _ (sym i ∙ c.2) };
      }
  after_reduces (Err g) d e f i = tt

  pub after_right : {E : Type 0} {b : Theorem} (q : Result Theorem E) → Reduction defs t a → Reduction defs (right_of a.concl) b → IsFormula (signature_of a.defs) a.concl →
      IfOk q (λ th. from_both defs a b (trans_of a.concl b.concl) ≡ gives th) → IfOk q (λ th. right_of th.concl ≡ right_of b.concl)
  after_right (Ok th) d e f i =
      let c = after d e f in
      ap (λ (w : Theorem). right_of w.concl) (same_given th _ (sym i ∙ c.2)) ∙ sym (reduct_is c.1)
  after_right (Err g) d e f i = tt

pub whole_typed : (g : Signature) (t u : Tm) → t ≡ u → IsTyped g t → IsTyped g u
whole_typed g t u is h = rw is at h

pub whole_reduces : {E : Type 0} (defs : List Def) (q : Result Theorem E) (t u : Tm) → t ≡ u → IfOk q (Reduction defs u) → IfOk q (Reduction defs t)
whole_reduces defs q t u is e = rw is e

pub reduction_of : (defs : List Def) (th : Theorem) (t u : Tm) → t ≡ u → Reduction defs u th → Reduction defs t th
reduction_of defs th t u is d = rw is d

-- the parts of an application
pub both_reduce : {E : Type 0} {defs : List Def} {f x : Tm} {a b : Theorem} (q : Result Theorem E) → IsTyped (signature_of defs) (app f x) → Reduction defs f a → Reduction defs x b →
    IfOk q (λ th. from_both defs a b (mk_comb_of a.concl b.concl) ≡ gives th) → IfOk q (Reduction defs (app f x))
both_reduce {f = f} {x = x} (Ok th) h d e i = record {
  reduct = app d.reduct e.reduct;
  reduces = reduces_both d.reduces e.reduces;
  equates = combine_equates th d.equates e.equates h i;
}
both_reduce (Err g) h d e i = tt

pub both_right : {E : Type 0} {defs : List Def} {f x : Tm} {a b : Theorem} (q : Result Theorem E) → IsTyped (signature_of defs) (app f x) → Reduction defs f a → Reduction defs x b →
    IfOk q (λ th. from_both defs a b (mk_comb_of a.concl b.concl) ≡ gives th) → IfOk q (λ th. right_of th.concl ≡ app (right_of a.concl) (right_of b.concl))
both_right (Ok th) h d e i = right_is (combine_equates th d.equates e.equates h i) ∙ rw (reduct_is d, reduct_is e) refl
both_right (Err g) h d e i = tt

-- a body that is opened by a variable that isn't free in it
module _ (defs : List Def) (name : List ℕ) (u : Typ) (x o : Tm) (opened_is : o ≡ opened 0 (free name u) x) (apart : occurs name u x ≡ false) (h : IsTyped (signature_of defs) (abs u x)) where
  pub body_given : (b : Theorem) → Reduction defs o b → IsGiven (from_one defs b b.hyps (lam_of (signature_of defs) name u b.hyps b.concl))
  body_given b d = abstract_given name u h.well.over.0 refl d.equates

  whole : (th : Theorem) → Reduction defs (abs u (closed 0 name u o)) th → Reduction defs (abs u x) th
  whole th d =
      let back = closed_opened name u 0 x apart in
      rw (opened_is, back) at d

  pub body_reduces : {E : Type 0} (b : Theorem) (q : Result Theorem E) → Reduction defs o b →
      IfOk q (λ th. from_one defs b b.hyps (lam_of (signature_of defs) name u b.hyps b.concl) ≡ gives th) → IfOk q (Reduction defs (abs u x))
  body_reduces {E} b (Ok th) d i =
      whole th (record {
        reduct = abs u (closed 0 name u d.reduct);
        reduces = reduces_under name u d.equates.type d.equates.typed.typed d.reduces;
        equates = abstract_equates {E = E} name u (Ok th) h.well.over.0 refl d.equates i;
      })
  body_reduces b (Err f) d i = tt

  pub body_right : {E : Type 0} (b : Theorem) (q : Result Theorem E) → Reduction defs o b →
      IfOk q (λ th. from_one defs b b.hyps (lam_of (signature_of defs) name u b.hyps b.concl) ≡ gives th) → IfOk q (λ th. right_of th.concl ≡ abs u (closed 0 name u (right_of b.concl)))
  body_right {E} b (Ok th) d i =
      right_is (abstract_equates {E = E} name u (Ok th) h.well.over.0 refl d.equates i) ∙ ap (λ (w : Tm). abs u (closed 0 name u w)) (sym (reduct_is d))
  body_right b (Err f) d i = tt

-- a variable that is apart from all is apart from the first
pub apart_first : (a b : Bool) → (a || b) ≡ false → a ≡ false
apart_first a b e = (neither a b e).0

-- a theorem over newer definitions
pub conclusion_typed : (defs : List Def) (a : Theorem) (p : Tm) → Within a.defs defs → IsTheorem a → p ≡ a.concl → IsTyped (signature_of defs) p
conclusion_typed defs a p w d is = rw is (record { type = truth_type; well = formula_of (later_all w (λ x i. i) d) })

-- what a theorem's conclusion is equal to
module _ {defs : List Def} {p : Tm} {b : Theorem} (a : Theorem) (n : NormalForm defs p b) (p_is : p ≡ a.concl) where
  moved : from_both defs b a (eq_mp_of b.concl a.concl) ≡ gives (record { defs = defs; promises = promise_union [] a.promises; hyps = union [] a.hyps; concl = n.reduct })
  moved =
      let e = n.equates in
      rw (e.is, ← p_is) (ap (from_both defs (record { defs = defs; promises = []; hyps = []; concl = equal e.type p n.reduct }) a) (eq_mp_gives e.type p n.reduct))

  pub moved_given : IsGiven (from_both defs b a (eq_mp_of b.concl a.concl))
  moved_given = record { value = _; given = moved }

  pub moved_normalizes : (th : Theorem) → ArePromises a.promises → IsSet a.hyps → from_both defs b a (eq_mp_of b.concl a.concl) ≡ gives th → Normalizes defs a th
  moved_normalizes th j k i =
      let same_promises = promises_nothing a.promises j in
      let same_hyps = union_nothing a.hyps k in
      record {
        reduct = n.reduct;
        reduces = rw p_is at n.reduces;
        normal = n.normal;
        by_passes = rw p_is at n.by_passes;
        is = rw (same_promises, same_hyps) at (same_given th _ (sym i ∙ moved));
      }
