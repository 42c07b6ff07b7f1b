-- What contracts see of a theorem.
use Rattle.std.specs.Prelude.{◌≡◌, ℕ, Bool, false, not, ◌&&◌, ◌||◌, ◌==◌, nat_lt, if◌then◌else◌, List, [], ◌∷◌, ◌++◌, filter, length, Option, Some, None}
use Rattle.fp_term.specs.Terms.{Tm, term_eq}
use Rattle.fp_conclude.specs.Hypotheses.{union}
use Rattle.fp_conclude.specs.Outcomes.{Outcome, gives, refused, no_such_promise, promise_order}
use Rattle.fp_kernel.specs.Definitions.{Def}
use Rattle.fp_kernel.specs.Derivability.{Derives}

pub record Theorem : Type 0 where
  pub defs : List Def
  pub promises : List (ℕ × Tm)
  pub hyps : List Tm
  pub concl : Tm

abbrev pub IsTheorem : Theorem → Type 0
IsTheorem th = Derives th.defs th.promises th.hyps th.concl

-- are they one promise, and is there such a promise?
abbrev pub same_promise : ℕ × Tm → ℕ × Tm → Bool
same_promise p q = p.0 == q.0 && term_eq p.1 q.1

abbrev pub promised : ℕ × Tm → List (ℕ × Tm) → Bool
promised p [] = false
promised p (q ∷ promises) = same_promise p q || promised p promises

-- none stands twice
abbrev pub ArePromises : List (ℕ × Tm) → Type 0
ArePromises [] = Unit {0}
ArePromises (p ∷ promises) = (promised p promises ≡ false) × ArePromises promises

-- the first promises, and then what is new in the second
abbrev pub promise_union : List (ℕ × Tm) → List (ℕ × Tm) → List (ℕ × Tm)
promise_union promises [] = promises
promise_union promises (p ∷ more) = promise_union (if promised p promises then promises else promises ++ p ∷ []) more

-- over a list of definitions, without hypotheses and promises
abbrev pub plain : List Def → Tm → Theorem
plain defs p = record { defs = defs; promises = []; hyps = []; concl = p }

-- from itself alone
abbrev pub from_itself : List Def → Tm → Theorem
from_itself defs p = record { defs = defs; promises = []; hyps = p ∷ []; concl = p }

-- with the hypotheses and the promises of a theorem, and of two
abbrev pub by_one : List Def → Theorem → Tm → Theorem
by_one defs a p = record { defs = defs; promises = a.promises; hyps = a.hyps; concl = p }

abbrev pub by_both : List Def → Theorem → Theorem → Tm → Theorem
by_both defs a b p = record { defs = defs; promises = promise_union a.promises b.promises; hyps = union a.hyps b.hyps; concl = p }

-- the theorem of what was concluded
abbrev pub stands : List Def → List (ℕ × Tm) → List Tm → Outcome Tm → Outcome Theorem
stands defs promises hyps (gives c) = gives (record { defs = defs; promises = promises; hyps = hyps; concl = c })
stands defs promises hyps (refused r) = refused r

-- over a list, from one theorem with these hypotheses, and from two with these and with their own
abbrev pub from_one : List Def → Theorem → List Tm → Outcome Tm → Outcome Theorem
from_one defs a hyps o = stands defs a.promises hyps o

abbrev pub from_two : List Def → Theorem → Theorem → List Tm → Outcome Tm → Outcome Theorem
from_two defs a b hyps o = stands defs (promise_union a.promises b.promises) hyps o

abbrev pub from_both : List Def → Theorem → Theorem → Outcome Tm → Outcome Theorem
from_both defs a b o = from_two defs a b (union a.hyps b.hyps) o

-- the promises without one, and the first number of promises that isn't below a number
abbrev pub without_promise : ℕ × Tm → List (ℕ × Tm) → List (ℕ × Tm)
without_promise p promises = filter (λ q. not (same_promise p q)) promises

abbrev pub first_not_below : ℕ → List (ℕ × Tm) → Option ℕ
first_not_below number [] = None
first_not_below number (p ∷ promises) = if nat_lt p.0 number then first_not_below number promises else Some p.0

-- a theorem, with its proof's promises in place of the promise that it proves
abbrev pub fulfilled : List Def → Theorem → ℕ → Theorem → Theorem
fulfilled defs a number proof = record {
  defs = defs;
  promises = promise_union (without_promise (number, proof.concl) a.promises) proof.promises;
  hyps = a.hyps;
  concl = a.concl;
}

-- is that a promise of the first theorem, and is the second without hypotheses?
abbrev pub fulfils : Theorem → ℕ → Theorem → Bool
fulfils a number proof = promised (number, proof.concl) a.promises && (length proof.hyps == 0)

abbrev pub unless_late : Option ℕ → Theorem → Outcome Theorem
unless_late None th = gives th
unless_late (Some number) th = refused (promise_order number)

abbrev pub cut_of : List Def → Theorem → ℕ → Theorem → Outcome Theorem
cut_of defs a number proof =
    if fulfils a number proof then unless_late (first_not_below number proof.promises) (fulfilled defs a number proof) else refused (no_such_promise number)
