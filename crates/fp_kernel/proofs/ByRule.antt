-- Each step of a derivation is what the rule of its name gives on the conclusions before it.
use Rattle.std.proofs.Common.{◌≡◌, ℕ, List, [], ◌∷◌, refl as same_path}
use Rattle.std.specs.Prelude.{None}
use Rattle.fp_term.specs.Names.{function}
use Rattle.fp_term.specs.Types.{Typ}
use Rattle.fp_term.specs.Terms.{Tm, app, abs, opened, closed, replaced, retyped_term}
use Rattle.fp_term.specs.Typing.{function_type}
use Rattle.fp_term.specs.Signatures.{IsWellTyped, unknown_in_type}
use Rattle.fp_term.proofs.Known.{known_type}
use Rattle.fp_term.proofs.Typed.{typed_over}
use Rattle.fp_conclude.specs.Logic.{truth_type, equal}
use Rattle.fp_conclude.specs.Outcomes.{gives}
use Rattle.fp_conclude.specs.Rules.{refl_of, trans_of, mk_comb_of, lam_of, beta_of, assume_of, eq_mp_of, inst_of, inst_ty_of}
use Rattle.fp_conclude.specs.declared.axioms.Axiom.{Axiom}
use Rattle.fp_conclude.specs.declared.axioms.Axiom.TheVariants.{Eta, Selection, Infinity}
use Rattle.fp_conclude.specs.declared.connectives.LogicalConstant.{LogicalConstant}
use Rattle.fp_conclude.specs.declared.connectives.LogicalConstant.TheVariants.{Truth, Conjunction, Implication, Universal, Existential, Disjunction, Falsity, Negation}
use Rattle.fp_conclude.specs.Axioms.{axioms, axiom_statement, axiom_numbered, connectives, definition_statement, connective_numbered}
use Rattle.fp_conclude.proofs.Gives.{refl_gives, trans_gives, mk_comb_gives, lam_gives, beta_gives, assume_gives, eq_mp_gives, inst_gives, inst_ty_gives}
use Rattle.fp_kernel.specs.Definitions.{Def}
use Rattle.fp_kernel.specs.Start.{signature_of}
use Rattle.fp_kernel.specs.Derivability.{IsIn, first, later}
use Rattle.fp_kernel.specs.Derivability.{Derives, refl, trans, mk_comb, lam, beta, assume, eq_mp, antisym, inst, inst_ty, axiom_of, connective_of, constant_of, abs_rep_of, rep_abs_of, promise_of, as_set}
use Rattle.fp_kernel.proofs.Formulas.{fun_is}

abbrev pub ByRule : {defs : List Def} {promises : List (ℕ × Tm)} {hyps : List Tm} {p : Tm} → Derives defs promises hyps p → Type 0
ByRule {defs} (refl s t h) = refl_of (signature_of defs) t ≡ gives (equal s t t)
ByRule (trans {s = s} {t = t} {u = u} {v = v} d e) = trans_of (equal s t u) (equal s u v) ≡ gives (equal s t v)
ByRule (mk_comb {s = s} {r = r} {f = f} {g = g} {x = x} {y = y} d e) = mk_comb_of (equal (function_type s r) f g) (equal s x y) ≡ gives (equal r (app f x) (app g y))
ByRule {defs} (lam {hyps = hyps} {s = s} {t = t} {u = u} name ty h apart d) =
    lam_of (signature_of defs) name ty hyps (equal s t u) ≡ gives (equal (function_type ty s) (abs ty (closed 0 name ty t)) (abs ty (closed 0 name ty u)))
ByRule {defs} (beta s ty body arg h) = beta_of (signature_of defs) (app (abs ty body) arg) ≡ gives (equal s (app (abs ty body) arg) (opened 0 arg body))
ByRule {defs} (assume t h) = assume_of (signature_of defs) t ≡ gives t
ByRule (eq_mp {p = p} {q = q} d e) = eq_mp_of (equal truth_type p q) p ≡ gives q
ByRule (antisym d e) = Unit {0}
ByRule {defs} (inst {p = p} pairs h d) = inst_of (signature_of defs) pairs p ≡ gives (replaced pairs p)
ByRule {defs} (inst_ty {p = p} pairs h d) = inst_ty_of (signature_of defs) pairs p ≡ gives (retyped_term pairs p)
ByRule (axiom_of {p = p} i) = (a : Axiom) × (axiom_statement a ≡ p)
ByRule (connective_of {p = p} i) = (k : LogicalConstant) × (definition_statement k ≡ p)
ByRule (constant_of i h) = Unit {0}
ByRule (abs_rep_of i h) = Unit {0}
ByRule (rep_abs_of i h) = Unit {0}
ByRule {defs} (promise_of {p = p} i h) = assume_of (signature_of defs) p ≡ gives p
ByRule (as_set same d) = Unit {0}

known_types : (defs : List Def) (s : Typ) (t : Tm) → IsWellTyped (signature_of defs) t s → unknown_in_type (signature_of defs) s ≡ None
known_types defs s t h = known_type (signature_of defs) s (typed_over (signature_of defs) (fun_is defs) t s h.over h.typed)

axiom_among : (p : Tm) → IsIn p axioms → (a : Axiom) × (axiom_statement a ≡ p)
axiom_among p first = (Eta, same_path)
axiom_among p (later first) = (Selection, same_path)
axiom_among p (later (later first)) = (Infinity, same_path)
axiom_among p (later (later (later i))) = elim i [ ]

definition_among : (p : Tm) → IsIn p connectives → (k : LogicalConstant) × (definition_statement k ≡ p)
definition_among p first = (Truth, same_path)
definition_among p (later first) = (Conjunction, same_path)
definition_among p (later (later first)) = (Implication, same_path)
definition_among p (later (later (later first))) = (Universal, same_path)
definition_among p (later (later (later (later first)))) = (Existential, same_path)
definition_among p (later (later (later (later (later first))))) = (Disjunction, same_path)
definition_among p (later (later (later (later (later (later first)))))) = (Falsity, same_path)
definition_among p (later (later (later (later (later (later (later first))))))) = (Negation, same_path)
definition_among p (later (later (later (later (later (later (later (later i)))))))) = elim i [ ]

pub by_rule : {defs : List Def} {promises : List (ℕ × Tm)} {hyps : List Tm} {p : Tm} → (d : Derives defs promises hyps p) → ByRule d
by_rule {defs} (refl s t h) = refl_gives (signature_of defs) t s h
by_rule (trans {s = s} {t = t} {u = u} {v = v} d e) = trans_gives s t u v
by_rule (mk_comb {s = s} {r = r} {f = f} {g = g} {x = x} {y = y} d e) = mk_comb_gives s r f g x y
by_rule {defs} (lam {hyps = hyps} {s = s} {t = t} {u = u} name ty h apart d) = lam_gives (signature_of defs) name ty s hyps t u h apart
by_rule {defs} (beta s ty body arg h) = beta_gives (signature_of defs) ty s body arg h
by_rule {defs} (assume t h) = assume_gives (signature_of defs) t h
by_rule (eq_mp {p = p} {q = q} d e) = eq_mp_gives truth_type p q
by_rule (antisym d e) = tt
by_rule {defs} (inst {p = p} pairs h d) = inst_gives (signature_of defs) pairs p (known_types defs) h
by_rule {defs} (inst_ty {p = p} pairs h d) = inst_ty_gives (signature_of defs) pairs p h
by_rule (axiom_of {p = p} i) = axiom_among p i
by_rule (connective_of {p = p} i) = definition_among p i
by_rule (constant_of i h) = tt
by_rule (abs_rep_of i h) = tt
by_rule (rep_abs_of i h) = tt
by_rule {defs} (promise_of {p = p} i h) = assume_gives (signature_of defs) p h
by_rule (as_set same d) = tt

-- the axioms, and the definitions of the logical constants, in the order of their numbers
pub axioms_numbered : axioms ≡ axiom_numbered 1 ∷ axiom_numbered 2 ∷ axiom_numbered 3 ∷ []
axioms_numbered = same_path

pub definitions_numbered :
    connectives
    ≡ connective_numbered 1 ∷ connective_numbered 2 ∷ connective_numbered 3 ∷ connective_numbered 4 ∷ connective_numbered 5 ∷ connective_numbered 6 ∷ connective_numbered 7
    ∷ connective_numbered 8 ∷ []
definitions_numbered = same_path
