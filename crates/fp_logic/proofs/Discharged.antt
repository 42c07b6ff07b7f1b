-- The hypotheses that are left without the one that is discharged.
use Rattle.std.proofs.Common.{◌≡◌, ◌∙◌, Bool, true, false, cond, not, ◌||◌, List, [], ◌∷◌, ◌++◌, refl, sym, ap}
use Rattle.std.specs.Prelude.{codes}
use Rattle.std.proofs.lemmas.List.Elements.{filter-append}
use Rattle.fp_term.specs.Terms.{Tm, term_eq, app}
use Rattle.fp_term.proofs.Equal.{term_eq-decides}
use Rattle.fp_term.proofs.Typed.{app_typed}
use Rattle.fp_conclude.specs.Logic.{truth_type, predicate_type, binary_type, connective, conjunction}
use Rattle.fp_conclude.specs.Hypotheses.{IsSet, member, union, without}
use Rattle.fp_conclude.proofs.Sets.{union_nothing, without_set, apart}
use Rattle.fp_kernel.specs.Definitions.{Def}
use Rattle.fp_kernel.specs.Start.{signature_of}
use Rattle.fp_kernel.specs.Derivability.{IsFormula}
use Rattle.fp_kernel.specs.Theorems.{Theorem, ArePromises, promise_union}
use Rattle.fp_kernel.proofs.Promised.{promises_alone}
use Rattle.fp_forms.specs.Schemas.{implied}
use Rattle.fp_logic.specs.Steps.{without_one}
use Rattle.fp_logic.proofs.Concrete.{at_start}

own_term : (t : Tm) → term_eq t t ≡ true
own_term t = (term_eq-decides t t).1 refl

kept_member : (t k h : Tm) (b : Bool) (rest : List Tm) (m : Bool) → term_eq t h ≡ b → term_eq t k ≡ false → member k rest ≡ m → member k (cond (not b) (h ∷ rest) rest) ≡ (term_eq k h || m)
kept_member t k h true rest m e f g =
    let same = (term_eq-decides t h).0 e in
    rw (← same, apart k t f, g) refl
kept_member t k h false rest m e f g = rw g refl

-- whether another is a member doesn't depend on the one
member_without : (t k : Tm) (hyps : List Tm) → term_eq t k ≡ false → member k (without t hyps) ≡ member k hyps
member_without t k [] f = refl
member_without t k (h ∷ hyps) f = kept_member t k h (term_eq t h) (without t hyps) (member k hyps) refl f (member_without t k hyps f)

without_last : (t k : Tm) (b : Bool) (hyps : List Tm) → term_eq t k ≡ b → without t (hyps ++ k ∷ []) ≡ without t hyps ++ cond (not b) (k ∷ []) []
without_last t k b hyps e = filter-append (λ h. not (term_eq t h)) hyps (k ∷ []) ∙ rw e refl

nothing_more : (xs : List Tm) → xs ++ [] ≡ xs
nothing_more [] = refl
nothing_more (x ∷ xs) = ap (λ (ys : List Tm). x ∷ ys) (nothing_more xs)

added : (t k : Tm) (m b : Bool) (hyps : List Tm) → term_eq t k ≡ b → without t (cond m hyps (hyps ++ k ∷ [])) ≡ cond b (without t hyps) (cond m (without t hyps) (without t hyps ++ k ∷ []))
added t k true true hyps e = refl
added t k true false hyps e = refl
added t k false true hyps e = without_last t k true hyps e ∙ nothing_more (without t hyps)
added t k false false hyps e = without_last t k false hyps e

one_without : (t k : Tm) (b : Bool) (hyps more : List Tm) → ((xs : List Tm) → without t (union xs more) ≡ union (without t xs) (without t more)) → term_eq t k ≡ b →
    without t (union hyps (k ∷ more)) ≡ union (without t hyps) (cond (not b) (k ∷ without t more) (without t more))
one_without t k true hyps more ih e =
    ih (cond (member k hyps) hyps (hyps ++ k ∷ [])) ∙ ap (λ (xs : List Tm). union xs (without t more)) (added t k (member k hyps) true hyps e)
one_without t k false hyps more ih e =
    ih (cond (member k hyps) hyps (hyps ++ k ∷ []))
    ∙ ap (λ (xs : List Tm). union xs (without t more)) (added t k (member k hyps) false hyps e)
    ∙ ap (λ (m : Bool). union (cond m (without t hyps) (without t hyps ++ k ∷ [])) (without t more)) (sym (member_without t k hyps e))

union_without : (t : Tm) (hyps more : List Tm) → without t (union hyps more) ≡ union (without t hyps) (without t more)
union_without t hyps [] = refl
union_without t hyps (k ∷ more) = one_without t k (term_eq t k) hyps more (λ xs. union_without t xs more) refl

pub discharged_hyps : (t u : Tm) (hyps : List Tm) → IsSet hyps → union (without t (union (t ∷ []) hyps)) (without u (u ∷ [])) ≡ without t hyps
discharged_hyps t u hyps h =
    rw (own_term u) (union_without t (t ∷ []) hyps ∙ rw (own_term t) (union_nothing (without t hyps) (without_set t hyps h)))

pub discharged_is : (defs : List Def) (t p : Tm) (a : Theorem) → IsSet a.hyps → ArePromises a.promises →
    record {
      defs = defs;
      promises = promise_union (promise_union [] a.promises) [];
      hyps = union (without t (union (t ∷ []) a.hyps)) (without (conjunction t p) (conjunction t p ∷ []));
      concl = implied t p;
    } ≡ without_one defs t a (implied t p)
discharged_is defs t p a h k = rw (discharged_hyps t (conjunction t p) a.hyps h, promises_alone a.promises k) refl

-- a connective of formulas is one
pub conjunction_formula : (defs : List Def) (l r : Tm) → IsFormula (signature_of defs) l → IsFormula (signature_of defs) r → IsFormula (signature_of defs) (conjunction l r)
conjunction_formula defs l r h k =
    let c = connective (codes "and") in
    record {
      typed = app_typed [] (app c l) r truth_type truth_type (app_typed [] c l truth_type (predicate_type truth_type) refl h.typed) k.typed;
      over = (((at_start defs c (binary_type truth_type truth_type) refl refl).over, h.over), k.over);
    }
