-- Equations over all definitions, by `t = t`.
use Rattle.std.proofs.Common.{◌≡◌, ◌∙◌, true, List, [], ◌∷◌, refl, sym}
use Rattle.std.specs.List.{list_all}
use Rattle.fp_term.specs.Types.{Typ}
use Rattle.fp_term.specs.Terms.{Tm}
use Rattle.fp_term.proofs.Equal.{term_eq-decides}
use Rattle.fp_conclude.specs.Logic.{equal}
use Rattle.fp_conclude.specs.Hypotheses.{member}
use Rattle.fp_conclude.specs.Outcomes.{Outcome, gives, refused, followed_by}
use Rattle.fp_conclude.specs.Rules.{trans_of}
use Rattle.fp_conclude.proofs.Outcomes.{same_given}
use Rattle.fp_conclude.proofs.Equations.{equal_parts}
use Rattle.fp_kernel.specs.Definitions.{Def}
use Rattle.fp_kernel.specs.Theorems.{Theorem, plain, stands, from_both}
use Rattle.fp_retrace.specs.Proving.{Equates}
use Rattle.fp_simp_eq.specs.Equation.{reflexive, IsEquationOf, IsReflexive}

-- where `t = t` is given, the term has a type
given : (defs : List Def) (t : Tm) (o : Outcome Typ) (a : Theorem) → stands defs [] [] (followed_by o (λ s. gives (equal s t t))) ≡ gives a → (s : Typ) × (o ≡ gives s) × (a ≡ plain defs (equal s t t))
given defs t (gives s) a e = (s, refl, sym (same_given _ a e))
given defs t (refused r) a e = cc

pub itself : (defs : List Def) (t : Tm) (a : Theorem) → reflexive defs t ≡ gives a → IsReflexive defs t a
itself defs t a e =
    let g = given defs t _ a e in
    record { type = g.0; typed = g.1; is = g.2 }

no_member : (hs : List Tm) → list_all (λ h. member h []) hs ≡ true → hs ≡ []
no_member [] e = refl
no_member (h ∷ hs) e = cc

joined_parts : (s r : Typ) (t u : Tm) → trans_of (equal s t t) (equal r t u) ≡ gives (equal s t u)
joined_parts s r t u = rw (equal_parts s t t, equal_parts r t u, (term_eq-decides t t).1 refl) refl

-- the premises, as they stand
both : (defs : List Def) (s : Typ) (t u : Tm) (a th : Theorem) → a ≡ plain defs (equal s t t) → Equates defs [] t u th → from_both defs a th (trans_of a.concl th.concl) ≡ gives (plain defs (equal s t u))
both defs s t u a th is e =
    rw (is, e.concl, e.rests.promises, no_member th.hyps e.rests.hyps, joined_parts s e.type t u) refl

pub over_all : (defs : List Def) (t u : Tm) (a th w : Theorem) → IsReflexive defs t a → Equates defs [] t u th → from_both defs a th (trans_of a.concl th.concl) ≡ gives w → IsEquationOf defs t u w
over_all defs t u a th w i e g =
    record { type = i.type; typed = i.typed; is = same_given w _ (sym g ∙ both defs i.type t u a th i.is e) }
