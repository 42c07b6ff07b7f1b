-- Rewriting each outermost instance of an equation's left side, once.
use Rattle.std.specs.Prelude.{◌≡◌, ℕ, Bool, true, false, ◌&&◌, ◌||◌, List, [], ◌∷◌, Option, Some, MatchOption}
use Rattle.fp_term.specs.Types.{Typ}
use Rattle.fp_term.specs.Terms.{Tm, free, app, abs, term_eq, opened, closed, replaced, retyped_term}
use Rattle.fp_term.specs.Variables.{is_among, free_names}
use Rattle.fp_match.specs.Instances.{IsInstanceBy, AreOwn}
use Rattle.fp_conclude.specs.Logic.{truth_type}
use Rattle.fp_conclude.specs.Hypotheses.{union}
use Rattle.fp_conclude.specs.Outcomes.{Outcome, gives, with_part, not_equation}
use Rattle.fp_conclude.specs.Parts.{equation}
use Rattle.fp_conclude.specs.declared.parts.Equation.{Equation}
use Rattle.fp_kernel.specs.Definitions.{Def}
use Rattle.fp_kernel.specs.Theorems.{Theorem, promise_union}
use Rattle.fp_conv.specs.Equations.{Equates}

-- the types and then the terms leave each hypothesis as it is
abbrev pub AreKept : List (List ℕ × Typ) → List (List ℕ × Typ × Tm) → List Tm → Type 0
AreKept types terms [] = Unit {0}
AreKept types terms (h ∷ hyps) = (replaced terms (retyped_term types h) ≡ h) × AreKept types terms hyps

-- do they?
abbrev pub keeps_all : List (List ℕ × Typ) → List (List ℕ × Typ × Tm) → List Tm → Bool
keeps_all types terms [] = true
keeps_all types terms (h ∷ hyps) = term_eq (replaced terms (retyped_term types h)) h && keeps_all types terms hyps

-- the types and terms, of what the left side has alone, make it equal to the term and leave the hypotheses as they are
pub record IsAllowed (hyps : List Tm) (left : Tm) (types : List (List ℕ × Typ)) (terms : List (List ℕ × Typ × Tm)) (t : Tm) : Type 0 where
  pub by : IsInstanceBy types terms left t
  pub own : AreOwn types terms left
  pub kept : AreKept types terms hyps

-- the term is an instance of the left side that is allowed
pub record Instance (hyps : List Tm) (left t : Tm) : Type 0 where
  pub types : List (List ℕ × Typ)
  pub terms : List (List ℕ × Typ × Tm)
  pub is : IsAllowed hyps left types terms t

-- has a variable that is free in any of the terms that name, of whatever type?
abbrev pub is_used : List ℕ → List Tm → Bool
is_used name [] = false
is_used name (t ∷ ts) = is_among (free_names t) name || is_used name ts

-- a formula for the variable of that name
abbrev pub for_variable : List ℕ → Tm → List (List ℕ × Typ × Tm)
for_variable name p = (name, truth_type, p) ∷ []

-- it is neither an application nor an abstraction
abbrev pub is_simple : Tm → Bool
is_simple (app f x) = false
is_simple (abs s x) = false
is_simple t = true

-- What a term becomes by an equation `left = right` from hypotheses. An instance of the left side becomes that instance
-- of the right side, which isn't entered. In anything else the parts are rewritten: in an abstraction the body, opened by
-- a variable whose name is used nowhere, and closed again.
pub data Rewrites (hyps : List Tm) (left right : Tm) : Tm → Tm → Type 0 where
  at_instance : {t : Tm} (i : Instance hyps left t) → Rewrites hyps left right t (replaced i.terms (retyped_term i.types right))
  in_application : {f g x y : Tm} → (Instance hyps left (app f x) → ⊥) → Rewrites hyps left right f g → Rewrites hyps left right x y →
      Rewrites hyps left right (app f x) (app g y)
  in_abstraction : {body u : Tm} (s : Typ) (name : List ℕ) → (Instance hyps left (abs s body) → ⊥) → is_used name (body ∷ left ∷ right ∷ hyps) ≡ false →
      Rewrites hyps left right (opened 0 (free name s) body) u → Rewrites hyps left right (abs s body) (abs s (closed 0 name s u))
  nowhere : {t : Tm} → (Instance hyps left t → ⊥) → is_simple t ≡ true → Rewrites hyps left right t t

-- the theorem is the equation of the term with what it becomes, from the hypotheses and promises of the one that it is rewritten by
pub record Rewriting (defs : List Def) (promises : List (ℕ × Tm)) (hyps : List Tm) (left right t : Tm) (th : Theorem) : Type 0 where
  pub result : Tm
  pub rewrites : Rewrites hyps left right t result
  pub equates : Equates defs promises hyps t result th

-- by an equation with these sides the term stays as it is; the theorem says what it becomes; and one or the other
abbrev pub Stays : Theorem → Equation → Tm → Type 0
Stays eq sides t = Rewrites eq.hyps sides.left.now sides.right.now t t

abbrev pub Becomes : List Def → Theorem → Equation → Tm → Theorem → Type 0
Becomes defs eq sides t th = Rewriting defs eq.promises eq.hyps sides.left.now sides.right.now t th

abbrev pub StaysOrBecomes : List Def → Theorem → Equation → Tm → Option Theorem → Type 0
StaysOrBecomes defs eq sides t o = MatchOption o (Stays eq sides t) (Becomes defs eq sides t)

-- the theorem has what the second's conclusion becomes by the first, with the first's hypotheses and promises and then what is new in the second's
pub record Rewritten (defs : List Def) (a b th : Theorem) : Type 0 where
  pub type : Typ
  pub left : Tm
  pub right : Tm
  pub equation : equation a.concl ≡ Some (type, left, right)
  pub result : Tm
  pub rewrites : Rewrites a.hyps left right b.concl result
  pub is : th ≡ record { defs = defs; promises = promise_union a.promises b.promises; hyps = union a.hyps b.hyps; concl = result }

-- the theorem concludes whatever the second's conclusion becomes by the first, so there is just one such term
abbrev pub Determined : Theorem → Theorem → Theorem → Type 0
Determined a b th = (s : Typ) (l r u : Tm) → equation a.concl ≡ Some (s, l, r) → Rewrites a.hyps l r b.concl u → th.concl ≡ u

-- the sides of an equation
abbrev pub sides_of : Tm → Outcome (Typ × Tm × Tm)
sides_of a = with_part not_equation (equation a) gives
