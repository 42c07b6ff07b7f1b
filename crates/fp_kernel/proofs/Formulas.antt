-- Whatever is derivable is a formula.
use Rattle.std.proofs.Common.{◌≡◌, ◌∙◌, ℕ, ◌&&◌, List, [], ◌∷◌, refl, sym, ap}
use Rattle.std.specs.Prelude.{Some, None, codes}
use Rattle.std.specs.Str.{bytes_eq}
use Rattle.std.proofs.lemmas.Option.{none-some, same_Some}
use Rattle.std.proofs.lemmas.Bool.Decides.{Decides-and}
use Rattle.std.proofs.lemmas.Slice.Eq.{bytes_eq-Decides}
use Rattle.fp_term.specs.declared.signature.Signature.{Signature}
use Rattle.fp_term.specs.Names.{function, truth, equality}
use Rattle.fp_term.specs.Types.{Typ, type_eq, found_type}
use Rattle.fp_term.specs.Terms.{Tm, constant, app, abs, opened, closed, found, replaced, retyped_term}
use Rattle.fp_term.specs.Typing.{type_under, function_type}
use Rattle.fp_term.specs.Signatures.{arity_of, IsType, IsOver, IsWellTyped, unknown_in}
use Rattle.fp_term.proofs.Choices.{chosen}
use Rattle.fp_term.proofs.Equal.{type_eq-decides}
use Rattle.fp_term.proofs.Known.{known}
use Rattle.fp_term.proofs.Typed.{app_parts, abs_parts, same_function, app_typed, abs_typed, opened_typed, closed_typed, replaced_typed, opened_over, closed_over, replaced_over, typed_over}
use Rattle.fp_term.proofs.Retyped.{retyped_typed, retyped_over}
use Rattle.fp_kernel.specs.Definitions.{Def}
use Rattle.fp_conclude.specs.Logic.{truth_type, alpha, predicate_type, equality_type, equal}
use Rattle.fp_kernel.specs.Start.{signature_of}
use Rattle.fp_conclude.specs.Axioms.{eta, selection, infinity, axioms, true_is, and_is, imp_is, all_is, ex_is, or_is, false_is, not_is, connectives}
use Rattle.fp_kernel.specs.Derivability.{IsIn, first, later}
use Rattle.fp_conclude.specs.Checks.{AreTerms, AreTypesOf}
use Rattle.fp_kernel.specs.Derivability.{IsFormula, AreFormulas}
use Rattle.fp_kernel.specs.Derivability.{Derives, refl as reflexive, trans, mk_comb, lam, beta, assume, eq_mp, antisym, inst, inst_ty, axiom_of, connective_of, constant_of, abs_rep_of, rep_abs_of, promise_of, as_set}
use Rattle.fp_kernel.proofs.Growing.{from_start, over_grows}

-- functions and truth values are types over any definitions
pub fun_is : (defs : List Def) → arity_of function (signature_of defs).types ≡ Some 2
fun_is defs = (from_start defs).types function 2 refl

pub truth_is : (defs : List Def) → IsType (signature_of defs) truth_type
truth_is defs = ((from_start defs).types truth 0 refl, tt)

pub function_is : (defs : List Def) (s r : Typ) → IsType (signature_of defs) s → IsType (signature_of defs) r → IsType (signature_of defs) (function_type s r)
function_is defs s r h k = (fun_is defs, (h, (k, tt)))

-- what makes an equation a formula
pub record Sides (g : Signature) (s : Typ) (t u : Tm) : Type 0 where
  pub type : IsType g s
  pub left : IsWellTyped g t s
  pub right : IsWellTyped g u s

equality_over : (defs : List Def) (s : Typ) → IsType (signature_of defs) s → IsOver (signature_of defs) (constant equality (equality_type s))
equality_over defs s h = (
  record { declared = equality_type alpha; found = (from_start defs).consts equality (equality_type alpha) refl; instance = record { pairs = (codes "a", s) ∷ []; equal = refl } },
  function_is defs s (predicate_type s) h (function_is defs s truth_type h (truth_is defs)),
)

pub equation : (defs : List Def) (s : Typ) (t u : Tm) → Sides (signature_of defs) s t u → IsFormula (signature_of defs) (equal s t u)
equation defs s t u h =
    let eq = constant equality (equality_type s) in
    record {
      typed = app_typed [] (app eq t) u s truth_type (app_typed [] eq t s (predicate_type s) refl h.left.typed) h.right.typed;
      over = ((equality_over defs s h.type, h.left.over), h.right.over);
    }

pub sides : (g : Signature) (s : Typ) (t u : Tm) → IsFormula g (equal s t u) → Sides g s t u
sides g s t u h =
    let eq = constant equality (equality_type s) in
    let p = app_parts [] (app eq t) u truth_type h.typed in
    let q = app_parts [] eq t (function_type p.0 truth_type) p.1 in
    let outer = same_function s (predicate_type s) q.0 (function_type p.0 truth_type) (same_Some (equality_type s) (function_type q.0 (function_type p.0 truth_type)) q.1) in
    let inner = same_function s truth_type p.0 truth_type outer.1 in
    record {
      type = h.over.0.0.1.1.0;
      left = record { typed = q.2 ∙ ap Some (sym outer.0); over = h.over.0.1 };
      right = record { typed = p.2 ∙ ap Some (sym inner.0); over = h.over.1 };
    }

-- each rule's conclusion
same_formula : (defs : List Def) (s : Typ) (t : Tm) → IsWellTyped (signature_of defs) t s → IsFormula (signature_of defs) (equal s t t)
same_formula defs s t h = equation defs s t t (record { type = typed_over (signature_of defs) (fun_is defs) t s h.over h.typed; left = h; right = h })

chain_formula : (defs : List Def) (s : Typ) (t u v : Tm) → IsFormula (signature_of defs) (equal s t u) → IsFormula (signature_of defs) (equal s u v) → IsFormula (signature_of defs) (equal s t v)
chain_formula defs s t u v h k =
    let a = sides (signature_of defs) s t u h in
    let b = sides (signature_of defs) s u v k in
    equation defs s t v (record { type = a.type; left = a.left; right = b.right })

applied_formula : (defs : List Def) (s r : Typ) (f g x y : Tm) → IsFormula (signature_of defs) (equal (function_type s r) f g) → IsFormula (signature_of defs) (equal s x y) →
    IsFormula (signature_of defs) (equal r (app f x) (app g y))
applied_formula defs s r f g x y h k =
    let a = sides (signature_of defs) (function_type s r) f g h in
    let b = sides (signature_of defs) s x y k in
    equation defs r (app f x) (app g y) (record {
      type = a.type.1.1.0;
      left = record { typed = app_typed [] f x s r a.left.typed b.left.typed; over = (a.left.over, b.left.over) };
      right = record { typed = app_typed [] g y s r a.right.typed b.right.typed; over = (a.right.over, b.right.over) };
    })

abstracted : (g : Signature) (name : List ℕ) (ty s : Typ) (t : Tm) → IsType g ty → IsWellTyped g t s → IsWellTyped g (abs ty (closed 0 name ty t)) (function_type ty s)
abstracted g name ty s t h k = record {
  typed = abs_typed [] ty (closed 0 name ty t) s (closed_typed name ty [] 0 t s refl k.typed);
  over = (h, closed_over g name ty 0 t k.over);
}

abstracted_formula : (defs : List Def) (name : List ℕ) (ty s : Typ) (t u : Tm) → IsType (signature_of defs) ty → IsFormula (signature_of defs) (equal s t u) →
    IsFormula (signature_of defs) (equal (function_type ty s) (abs ty (closed 0 name ty t)) (abs ty (closed 0 name ty u)))
abstracted_formula defs name ty s t u h k =
    let a = sides (signature_of defs) s t u k in
    equation defs (function_type ty s) (abs ty (closed 0 name ty t)) (abs ty (closed 0 name ty u)) (record {
      type = function_is defs ty s h a.type;
      left = abstracted (signature_of defs) name ty s t h a.left;
      right = abstracted (signature_of defs) name ty s u h a.right;
    })

reduced : (g : Signature) (s ty : Typ) (body arg : Tm) → IsWellTyped g (app (abs ty body) arg) s → IsWellTyped g (opened 0 arg body) s
reduced g s ty body arg h =
    let p = app_parts [] (abs ty body) arg s h.typed in
    let q = abs_parts [] ty body (function_type p.0 s) p.1 in
    let same = same_function ty q.0 p.0 s q.2 in
    record {
      typed = opened_typed arg ty (p.2 ∙ ap Some (sym same.0)) [] 0 body s refl (q.1 ∙ ap Some same.1);
      over = opened_over g arg h.over.1 0 body h.over.0.1;
    }

reduced_formula : (defs : List Def) (s ty : Typ) (body arg : Tm) → IsWellTyped (signature_of defs) (app (abs ty body) arg) s →
    IsFormula (signature_of defs) (equal s (app (abs ty body) arg) (opened 0 arg body))
reduced_formula defs s ty body arg h =
    equation defs s (app (abs ty body) arg) (opened 0 arg body) (record {
      type = typed_over (signature_of defs) (fun_is defs) (app (abs ty body) arg) s h.over h.typed;
      left = h;
      right = reduced (signature_of defs) s ty body arg h;
    })

pub both_formula : (defs : List Def) (p q : Tm) → IsFormula (signature_of defs) p → IsFormula (signature_of defs) q → IsFormula (signature_of defs) (equal truth_type p q)
both_formula defs p q h k = equation defs truth_type p q (record { type = truth_is defs; left = h; right = k })

-- the term that is found for a variable has its type
found_typed : (g : Signature) (pairs : List (List ℕ × Typ × Tm)) → AreTerms g pairs → (a : List ℕ) (v : Typ) (u : Tm) → found a v pairs ≡ Some u → IsWellTyped g u v
found_typed g [] h a v u e = absurd (none-some u e)
found_typed g (pair ∷ rest) h a v u e =
    chosen (bytes_eq pair.0 a && type_eq pair.1 v) _ _ _ (IsWellTyped g u v)
    (λ is f. let both = (Decides-and (bytes_eq pair.0 a) (type_eq pair.1 v) (bytes_eq-Decides pair.0 a) (type_eq-decides pair.1 v)).0 is in
    rw (← both.1, ← same_Some pair.2 u f) h.0)
    (λ _ f. found_typed g rest h.1 a v u f) e

pub replaced_formula : (g : Signature) (pairs : List (List ℕ × Typ × Tm)) → AreTerms g pairs → (p : Tm) → IsFormula g p → IsFormula g (replaced pairs p)
replaced_formula g pairs h p k = record {
  typed = replaced_typed pairs (λ a v u e. (found_typed g pairs h a v u e).typed) [] p truth_type k.typed;
  over = replaced_over g pairs (λ a v u e. (found_typed g pairs h a v u e).over) p k.over;
}

found_is : (g : Signature) (pairs : List (List ℕ × Typ)) → AreTypesOf g pairs → (a : List ℕ) (t : Typ) → found_type a pairs ≡ Some t → IsType g t
found_is g [] h a t e = absurd (none-some t e)
found_is g (pair ∷ rest) h a t e = chosen (bytes_eq pair.0 a) _ _ _ (IsType g t) (λ _ f. rw (← same_Some pair.1 t f) h.0) (λ _ f. found_is g rest h.1 a t f) e

pub retyped_formula : (g : Signature) (pairs : List (List ℕ × Typ)) → AreTypesOf g pairs → (p : Tm) → IsFormula g p → IsFormula g (retyped_term pairs p)
retyped_formula g pairs h p k = record {
  typed = retyped_typed pairs [] p truth_type k.typed;
  over = retyped_over g pairs (found_is g pairs h) p k.over;
}

-- the theorems of the start
at_start : (p : Tm) → type_under [] p ≡ Some truth_type → unknown_in (signature_of []) p ≡ None → IsFormula (signature_of []) p
at_start p e f = record { typed = e; over = known (signature_of []) p f }

axioms_are : AreFormulas (signature_of []) axioms
axioms_are = (at_start eta refl refl, (at_start selection refl refl, (at_start infinity refl refl, tt)))

connectives_are : AreFormulas (signature_of []) connectives
connectives_are = (
  at_start true_is refl refl,
  (
    at_start and_is refl refl,
    (
      at_start imp_is refl refl,
      (
        at_start all_is refl refl,
        (at_start ex_is refl refl, (at_start or_is refl refl, (at_start false_is refl refl, (at_start not_is refl refl, tt)))),
      ),
    ),
  ),
)

one_of : (g : Signature) (ts : List Tm) (p : Tm) → IsIn p ts → AreFormulas g ts → IsFormula g p
one_of g ts p first h = h.0
one_of g ts p (later {xs = us} i) h = one_of g us p i h.1

started : (defs : List Def) (ts : List Tm) (p : Tm) → AreFormulas (signature_of []) ts → IsIn p ts → IsFormula (signature_of defs) p
started defs ts p h i =
    let k = one_of (signature_of []) ts p i h in
    record { typed = k.typed; over = over_grows (signature_of []) (signature_of defs) (from_start defs) p k.over }

pub formula_of : {defs : List Def} {promises : List (ℕ × Tm)} {hyps : List Tm} {p : Tm} → Derives defs promises hyps p → IsFormula (signature_of defs) p
formula_of {defs} (reflexive s t h) = same_formula defs s t h
formula_of {defs} (trans {s = s} {t = t} {u = u} {v = v} d e) = chain_formula defs s t u v (formula_of d) (formula_of e)
formula_of {defs} (mk_comb {s = s} {r = r} {f = f} {g = g} {x = x} {y = y} d e) = applied_formula defs s r f g x y (formula_of d) (formula_of e)
formula_of {defs} (lam {s = s} {t = t} {u = u} name ty h apart d) = abstracted_formula defs name ty s t u h (formula_of d)
formula_of {defs} (beta s ty body arg h) = reduced_formula defs s ty body arg h
formula_of (assume t h) = h
formula_of {defs} (eq_mp {p = p} {q = q} d e) = (sides (signature_of defs) truth_type p q (formula_of d)).right
formula_of {defs} (antisym {p = p} {q = q} d e) = both_formula defs p q (formula_of d) (formula_of e)
formula_of {defs} (inst {p = p} pairs h d) = replaced_formula (signature_of defs) pairs h p (formula_of d)
formula_of {defs} (inst_ty {p = p} pairs h d) = retyped_formula (signature_of defs) pairs h p (formula_of d)
formula_of {defs} (axiom_of {p = p} i) = started defs axioms p axioms_are i
formula_of {defs} (connective_of {p = p} i) = started defs connectives p connectives_are i
formula_of (constant_of i h) = h
formula_of (abs_rep_of i h) = h
formula_of (rep_abs_of i h) = h
formula_of (promise_of i h) = h
formula_of (as_set same d) = formula_of d
