-- What each derived form concludes from the conclusions of its premises, or why it concludes nothing.
use Rattle.std.specs.Prelude.{if◌then◌else◌, List, [], ◌∷◌}
use Rattle.fp_term.specs.Types.{Typ}
use Rattle.fp_term.specs.Terms.{Tm, term_eq}
use Rattle.fp_term.specs.declared.signature.Signature.{Signature}
use Rattle.fp_conclude.specs.Logic.{equal, true_constant, implication}
use Rattle.fp_conclude.specs.Hypotheses.{union}
use Rattle.fp_conclude.specs.Parts.{function_parts, equation}
use Rattle.fp_conclude.specs.Checks.{typed_over}
use Rattle.fp_conclude.specs.Rules.{applied_at, assume_of}
use Rattle.fp_conclude.specs.Outcomes.{Outcome, gives, refused, followed_by, with_part, not_equation, shape, differ}
use Rattle.fp_kernel.specs.Definitions.{Def}
use Rattle.fp_kernel.specs.Theorems.{Theorem}
use Rattle.fp_forms.specs.Forms.{conjunction_parts, implication_parts}

-- `t = s` from `s = t`
abbrev pub sym_of : Tm → Outcome Tm
sym_of a = with_part not_equation (equation a) (λ p. gives (equal p.0 p.2 p.1))

-- `t s = t u` from `s = u`, and `f t = g t` from `f = g`; where the functions don't take such arguments the result is ill typed
abbrev pub ap_of : Signature → Tm → Tm → Outcome Tm
ap_of signature t a = followed_by (typed_over signature t) (λ s. with_part not_equation (equation a) (λ q. applied_at (function_parts s) (s, t, t) q))

abbrev pub ap_arg_of : Signature → Tm → Tm → Outcome Tm
ap_arg_of signature a t = followed_by (typed_over signature t) (λ s. with_part not_equation (equation a) (λ p. applied_at (function_parts p.0) p (s, t, t)))

-- `p` from `p = T`
abbrev pub untrue : Typ × Tm × Tm → Outcome Tm
untrue p = if term_eq p.2 true_constant then gives p.1 else refused (differ p.2 true_constant)

abbrev pub eqt_elim_of : Tm → Outcome Tm
eqt_elim_of a = with_part not_equation (equation a) untrue

-- `p` and `q` from `p /\ q`
abbrev pub conj1_of : Tm → Outcome Tm
conj1_of a = with_part shape (conjunction_parts a) (λ p. gives p.0)

abbrev pub conj2_of : Tm → Outcome Tm
conj2_of a = with_part shape (conjunction_parts a) (λ p. gives p.1)

-- `q` from `p --> q` and `p`
abbrev pub mp_of : Tm → Tm → Outcome Tm
mp_of a b = with_part shape (implication_parts a) (λ p. if term_eq p.0 b then gives p.1 else refused (differ p.0 b))

-- `t --> p` from `p`
abbrev pub disch_of : Signature → Tm → Tm → Outcome Tm
disch_of signature t p = followed_by (assume_of signature t) (λ u. gives (implication u p))

-- `q` from `p --> q`, with the hypothesis `p` after the others
abbrev pub undisch_from : List Def → Theorem → Outcome Theorem
undisch_from defs a =
    with_part shape (implication_parts a.concl) (λ p. gives (record { defs = defs; promises = a.promises; hyps = union a.hyps (p.0 ∷ []); concl = p.1 }))
