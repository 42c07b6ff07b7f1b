-- What rewriting a term at a place by an equation gives, or why it gives nothing.
use Rattle.std.specs.Prelude.{ℕ, if◌then◌else◌, List}
use Rattle.fp_term.specs.Types.{Typ}
use Rattle.fp_term.specs.Terms.{Tm, term_eq}
use Rattle.fp_term.specs.declared.signature.Signature.{Signature}
use Rattle.fp_conclude.specs.Logic.{equal}
use Rattle.fp_conclude.specs.Parts.{equation}
use Rattle.fp_conclude.specs.Checks.{typed_over}
use Rattle.fp_conclude.specs.Outcomes.{Outcome, gives, refused, followed_by, with_part, not_equation, shape, differ}
use Rattle.fp_conv.specs.Places.{subterm_at, put_at}

-- the term is equal to the one with the equation's right side in place of the subterm, which has to be its left side
abbrev pub exchanged : Typ → Tm → List ℕ → Typ × Tm × Tm → Tm → Outcome Tm
exchanged s t place p u = if term_eq u p.1 then gives (equal s t (put_at place p.2 t)) else refused (differ u p.1)

-- what comes of a term of that type at the place
abbrev pub put_by : Typ → Tm → List ℕ → Typ × Tm × Tm → Outcome Tm
put_by s t place p = with_part shape (subterm_at place t) (λ u. exchanged s t place p u)

abbrev pub rewrite_of : Signature → List ℕ → Tm → Tm → Outcome Tm
rewrite_of signature place a t = followed_by (typed_over signature t) (λ s. with_part not_equation (equation a) (λ p. put_by s t place p))
