-- What each derived form concludes from the conclusions of its premises, or why it concludes nothing.
use Rattle.std.specs.Prelude.{if◌then◌else◌, List}
use Rattle.fp_term.specs.Terms.{Tm, term_eq}
use Rattle.fp_term.specs.declared.signature.Signature.{Signature}
use Rattle.fp_conclude.specs.Logic.{truth_type, equal, false_constant, implication, negation}
use Rattle.fp_conclude.specs.Hypotheses.{union, without}
use Rattle.fp_conclude.specs.Rules.{assume_of}
use Rattle.fp_conclude.specs.Outcomes.{Outcome, gives, refused, followed_by, with_part, shape, differ}
use Rattle.fp_kernel.specs.Definitions.{Def}
use Rattle.fp_kernel.specs.Theorems.{Theorem, promise_union}
use Rattle.fp_forms.specs.Forms.{implication_parts}
use Rattle.fp_disjunction.specs.Forms.{disjunction, disjunction_parts, negated}

-- `p = F` from `~ p`
abbrev pub eqf_of : Tm → Outcome Tm
eqf_of a = with_part shape (negated a) (λ p. gives (equal truth_type p false_constant))

-- `p \/ t` and `t \/ p` from `p`
abbrev pub disj1_of : Signature → Tm → Tm → Outcome Tm
disj1_of signature p t = followed_by (assume_of signature t) (λ u. gives (disjunction p u))

abbrev pub disj2_of : Signature → Tm → Tm → Outcome Tm
disj2_of signature t p = followed_by (assume_of signature t) (λ u. gives (disjunction u p))

-- `~ p` from `p --> F`, and back
abbrev pub not_intro_of : Tm → Outcome Tm
not_intro_of a = with_part shape (implication_parts a) (λ p. if term_eq p.1 false_constant then gives (negation p.0) else refused shape)

abbrev pub not_elim_of : Tm → Outcome Tm
not_elim_of a = with_part shape (negated a) (λ p. gives (implication p false_constant))

-- any formula from `F`
abbrev pub false_elim_of : Signature → Tm → Tm → Outcome Tm
false_elim_of signature t p = followed_by (assume_of signature t) (λ u. if term_eq p false_constant then gives u else refused shape)

-- `r` from `p \/ q`, `r` and `r`: the second's hypotheses without `p`, the third's without `q`
abbrev pub either_way : List Def → Theorem → Theorem → Theorem → Tm × Tm → Theorem
either_way defs a b c p = record {
  defs = defs;
  promises = promise_union (promise_union a.promises b.promises) c.promises;
  hyps = union (union a.hyps (without p.0 b.hyps)) (without p.1 c.hyps);
  concl = b.concl;
}

abbrev pub cases_from : List Def → Theorem → Theorem → Theorem → Outcome Theorem
cases_from defs a b c =
    with_part shape (disjunction_parts a.concl) (λ p. if term_eq b.concl c.concl then gives (either_way defs a b c p) else refused (differ b.concl c.concl))
