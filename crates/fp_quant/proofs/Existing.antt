-- Types of predicates, of what is said of some value, and of what is chosen.
use Rattle.std.proofs.Common.{◌≡◌, ◌∙◌, List, [], ◌∷◌, refl, sym, ap, subst}
use Rattle.std.specs.Prelude.{Some, codes}
use Rattle.std.proofs.lemmas.Option.{same_Some}
use Rattle.fp_term.specs.Names.{function, truth}
use Rattle.fp_term.specs.Types.{Typ}
use Rattle.fp_term.specs.Terms.{Tm, constant, app, abs, opened}
use Rattle.fp_term.specs.Typing.{type_under, function_type}
use Rattle.fp_term.specs.Signatures.{IsType, IsWellTyped}
use Rattle.fp_term.proofs.Typed.{app_parts, abs_parts, same_function, app_typed, opened_typed, opened_over}
use Rattle.fp_conclude.specs.Logic.{truth_type, alpha, predicate_type, select_type, quantifier_type, quantifier, select}
use Rattle.fp_kernel.specs.Definitions.{Def, Within}
use Rattle.fp_kernel.specs.Start.{signature_of}
use Rattle.fp_kernel.specs.Derivability.{IsFormula}
use Rattle.fp_kernel.specs.Theorems.{Theorem, IsTheorem}
use Rattle.fp_kernel.proofs.Growing.{from_start}
use Rattle.fp_logic.proofs.Turning.{lifted}
use Rattle.fp_forms.specs.Existence.{some_such, at_choice}
use Rattle.fp_quant.specs.Existence.{IsPredicate, IsExistence}

module _ (defs : List Def) (s : Typ) where
  -- what a quantifier is applied to
  pub of_predicate : (p : Tm) (r : Typ) → IsWellTyped (signature_of defs) (some_such s p) r → IsWellTyped (signature_of defs) p (predicate_type s)
  of_predicate p r h =
      let a = app_parts [] (quantifier (codes "ex") s) p r h.typed in
      let same = same_function (predicate_type s) truth_type a.0 r (same_Some (quantifier_type s) (function_type a.0 r) a.1) in
      record { typed = a.2 ∙ ap Some (sym same.0); over = h.over.1 }

  pub some_predicate : (p : Tm) (r : Typ) → IsWellTyped (signature_of defs) (some_such s (abs s p)) r → IsPredicate defs s (abs s p)
  some_predicate p r h = (h.over.1.0, of_predicate (abs s p) r h)

  pub existence : (a : Theorem) (p : Tm) → Within a.defs defs → IsTheorem a → a.concl ≡ some_such s (abs s p) → IsExistence defs a s (abs s p)
  existence a p w d e = (w, e, some_predicate p truth_type (subst (IsFormula (signature_of defs)) e (lifted defs a w d)))

  -- a predicate at a term
  pub at_term : (p t : Tm) → IsPredicate defs s p → IsWellTyped (signature_of defs) t s → IsFormula (signature_of defs) (app p t)
  at_term p t h k = record { typed = app_typed [] p t s truth_type h.1.typed k.typed; over = (h.1.over, k.over) }

  body_typed : (p : Tm) → IsPredicate defs s (abs s p) → type_under (s ∷ []) p ≡ Some truth_type
  body_typed p h =
      let b = abs_parts [] s p (predicate_type s) h.1.typed in
      b.1 ∙ ap Some (same_function s b.0 s truth_type b.2).1

  pub body_at : (p t : Tm) → IsPredicate defs s (abs s p) → IsWellTyped (signature_of defs) t s → IsFormula (signature_of defs) (opened 0 t p)
  body_at p t h k = record {
    typed = opened_typed t s k.typed [] 0 p truth_type refl (body_typed p h);
    over = opened_over (signature_of defs) t k.over 0 p h.1.over.1;
  }

  -- what is chosen
  predicate_is : IsType (signature_of defs) s → IsType (signature_of defs) (predicate_type s)
  predicate_is h = ((from_start defs).types function 2 refl, (h, (((from_start defs).types truth 0 refl, tt), tt)))

  pub choice_typed : (p : Tm) → IsPredicate defs s p → IsWellTyped (signature_of defs) (select s p) s
  choice_typed p h =
      let c = constant (codes "select") (select_type s) in
      record {
        typed = app_typed [] c p (predicate_type s) s refl h.1.typed;
        over = (
          (
            record { declared = select_type alpha; found = (from_start defs).consts (codes "select") (select_type alpha) refl; instance = record { pairs = (codes "a", s) ∷ []; equal = refl } },
            ((from_start defs).types function 2 refl, (predicate_is h.0, (h.0, tt))),
          ),
          h.1.over,
        );
      }

  pub at_choice_formula : (p : Tm) → IsPredicate defs s p → IsFormula (signature_of defs) (at_choice s p)
  at_choice_formula p h = at_term p (select s p) h (choice_typed p h)
