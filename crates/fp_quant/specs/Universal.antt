-- What `gen_all`, `spec` and `ext` conclude from the conclusions of their premises, or why they conclude nothing.
use Rattle.std.specs.Prelude.{ℕ, ◌||◌, if◌then◌else◌, List, [], Option, Some, None, codes}
use Rattle.fp_term.specs.Types.{Typ, type_eq}
use Rattle.fp_term.specs.Terms.{Tm, free, app, abs, term_eq, opened, closed}
use Rattle.fp_term.specs.Typing.{function_type}
use Rattle.fp_term.specs.Signatures.{unknown_in_type}
use Rattle.fp_term.specs.declared.signature.Signature.{Signature}
use Rattle.fp_conclude.specs.Logic.{equal, for_all}
use Rattle.fp_conclude.specs.Hypotheses.{occurs, occurs_in_any}
use Rattle.fp_conclude.specs.Parts.{equation}
use Rattle.fp_conclude.specs.Checks.{typed_over}
use Rattle.fp_conclude.specs.Outcomes.{Outcome, gives, refused, followed_by, unless, with_part, unknown_name, ill_typed_at, not_equation, shape, free_in_hyps}
use Rattle.fp_forms.specs.Quantified.{quantified}

-- `!x. p` from `p`, where `x` is free in no hypothesis
abbrev pub gen_all_of : Signature → List ℕ → Typ → List Tm → Tm → Outcome Tm
gen_all_of signature name ty hyps p =
    unless unknown_name (unknown_in_type signature ty)
    (if occurs_in_any name ty hyps then refused (free_in_hyps name) else gives (for_all ty (closed 0 name ty p)))

-- `p` with `t` for `v`, of `%v. p`, and else `P t`
abbrev pub value_at : Tm → Tm → Tm
value_at (abs s p) t = opened 0 t p
value_at p t = app p t

-- that from `all P`, for `t` of the type `s`
abbrev pub specialized_at : Tm → Typ → Typ × Tm → Outcome Tm
specialized_at t s q = if type_eq s q.0 then gives (value_at q.1 t) else refused (ill_typed_at [])

abbrev pub spec_of : Signature → Tm → Tm → Outcome Tm
spec_of signature a t = followed_by (typed_over signature t) (λ s. with_part shape (quantified (codes "all") a) (specialized_at t s))

-- the function that is applied to the variable
abbrev pub applied_to_variable : List ℕ → Typ → Tm → Option Tm
applied_to_variable name ty (app f x) = if term_eq x (free name ty) then Some f else None
applied_to_variable name ty _ = None

-- `f = g` from `f x = g x`, where `x` is free in neither and in no hypothesis
abbrev pub same_functions : List ℕ → Typ → List Tm → Typ → Tm → Tm → Outcome Tm
same_functions name ty hyps to f g =
    if occurs name ty f || occurs name ty g || occurs_in_any name ty hyps then refused (free_in_hyps name) else gives (equal (function_type ty to) f g)

-- that from the type and the sides of an equation
abbrev pub same_values : List ℕ → Typ → List Tm → Typ × Tm × Tm → Outcome Tm
same_values name ty hyps p =
    with_part shape (applied_to_variable name ty p.1) (λ f. with_part shape (applied_to_variable name ty p.2) (same_functions name ty hyps p.0 f))

abbrev pub ext_of : Signature → List ℕ → Typ → List Tm → Tm → Outcome Tm
ext_of signature name ty hyps a = unless unknown_name (unknown_in_type signature ty) (with_part not_equation (equation a) (same_values name ty hyps))
