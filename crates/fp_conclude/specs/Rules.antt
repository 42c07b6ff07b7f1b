-- What each rule concludes from the conclusions of its premises, or why it concludes nothing.
use Rattle.std.specs.Prelude.{ℕ, true, if◌then◌else◌, List, [], Option, Some, None}
use Rattle.fp_term.specs.Types.{Typ, type_eq}
use Rattle.fp_term.specs.Terms.{Tm, app, abs, term_eq, opened, closed, replaced, retyped_term}
use Rattle.fp_term.specs.Typing.{function_type}
use Rattle.fp_term.specs.Signatures.{unknown_in_type}
use Rattle.fp_term.specs.declared.signature.Signature.{Signature}
use Rattle.fp_conclude.specs.Logic.{truth_type, equal}
use Rattle.fp_conclude.specs.Hypotheses.{occurs_in_any}
use Rattle.fp_conclude.specs.Parts.{function_parts, equation, redex}
use Rattle.fp_conclude.specs.Checks.{typed_over, unknown_in_pairs, fitting, unknown_in_type_pairs}
use Rattle.fp_conclude.specs.Outcomes.{Outcome, gives, refused, followed_by, unless, with_part, unknown_name, ill_typed_at, not_equation, not_redex, not_bool, differ, free_in_hyps}

-- REFL: `t = t`
abbrev pub refl_of : Signature → Tm → Outcome Tm
refl_of signature t = followed_by (typed_over signature t) (λ s. gives (equal s t t))

-- TRANS: `s = u` from `s = t` and `t = u`
abbrev pub joined : Typ × Tm × Tm → Typ × Tm × Tm → Outcome Tm
joined p q = if term_eq p.2 q.1 then gives (equal p.0 p.1 q.2) else refused (differ p.2 q.1)

abbrev pub trans_of : Tm → Tm → Outcome Tm
trans_of a b = with_part not_equation (equation a) (λ p. with_part not_equation (equation b) (λ q. joined p q))

-- MK_COMB: `f x = g y` from `f = g` and `x = y`; where the functions don't take such arguments the result is ill typed
abbrev pub applied_at : Option (Typ × Typ) → Typ × Tm × Tm → Typ × Tm × Tm → Outcome Tm
applied_at None p q = refused (ill_typed_at [])
applied_at (Some f) p q = if type_eq f.0 q.0 then gives (equal f.1 (app p.1 q.1) (app p.2 q.2)) else refused (ill_typed_at [])

abbrev pub mk_comb_of : Tm → Tm → Outcome Tm
mk_comb_of a b = with_part not_equation (equation a) (λ p. with_part not_equation (equation b) (λ q. applied_at (function_parts p.0) p q))

-- ABS: `(%x. s) = (%x. t)` from `s = t`, where `x` is free in no hypothesis
abbrev pub abstracted : List ℕ → Typ → Typ × Tm × Tm → Tm
abstracted name ty p = equal (function_type ty p.0) (abs ty (closed 0 name ty p.1)) (abs ty (closed 0 name ty p.2))

abbrev pub lam_of : Signature → List ℕ → Typ → List Tm → Tm → Outcome Tm
lam_of signature name ty hyps a =
    unless unknown_name (unknown_in_type signature ty)
    (with_part not_equation (equation a) (λ p. if occurs_in_any name ty hyps then refused (free_in_hyps name) else gives (abstracted name ty p)))

-- BETA: `(%v. b) u = b` with `u` for `v`
abbrev pub beta_of : Signature → Tm → Outcome Tm
beta_of signature t = followed_by (typed_over signature t) (λ s. with_part not_redex (redex t) (λ r. gives (equal s t (opened 0 r.1 r.0))))

-- ASSUME: a formula from itself
abbrev pub assume_of : Signature → Tm → Outcome Tm
assume_of signature t = followed_by (typed_over signature t) (λ s. if type_eq s truth_type then gives t else refused not_bool)

-- EQ_MP: `q` from `p = q` and `p`
abbrev pub replaced_by : Typ × Tm × Tm → Tm → Outcome Tm
replaced_by p b = if term_eq p.1 b then gives p.2 else refused (differ p.1 b)

abbrev pub eq_mp_of : Tm → Tm → Outcome Tm
eq_mp_of a b = with_part not_equation (equation a) (λ p. replaced_by p b)

-- INST: terms for variables of their types
abbrev pub inst_of : Signature → List (List ℕ × Typ × Tm) → Tm → Outcome Tm
inst_of signature pairs a =
    unless unknown_name (unknown_in_pairs signature pairs)
    (followed_by (fitting true pairs) (λ fit. if fit then gives (replaced pairs a) else refused (ill_typed_at [])))

-- INST_TYPE: types for type variables
abbrev pub inst_ty_of : Signature → List (List ℕ × Typ) → Tm → Outcome Tm
inst_ty_of signature pairs a = unless unknown_name (unknown_in_type_pairs signature pairs) (gives (retyped_term pairs a))
