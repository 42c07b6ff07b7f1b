-- Hypotheses and promises with themselves.
use Rattle.std.proofs.Common.{◌≡◌, ℕ, ◌==◌, Bool, true, false, ◌&&◌, ◌||◌, List, [], ◌∷◌, refl}
use Rattle.std.proofs.lemmas.Bool.Decides.{Decides-eqb}
use Rattle.fp_term.specs.Terms.{Tm, term_eq}
use Rattle.fp_term.proofs.Equal.{term_eq-decides}
use Rattle.fp_conclude.specs.Hypotheses.{member, union}
use Rattle.fp_kernel.specs.Theorems.{promised, promise_union}

later : (b c : Bool) → c ≡ true → (b || c) ≡ true
later true c e = refl
later false c e = e

-- each of the second list is in the first
Members : List Tm → List Tm → Type 0
Members hyps [] = Unit {0}
Members hyps (k ∷ ks) = (member k hyps ≡ true) × Members hyps ks

members_later : (h : Tm) (hyps ks : List Tm) → Members hyps ks → Members (h ∷ hyps) ks
unfolding Members
members_later h hyps [] m = tt
members_later h hyps (k ∷ ks) m = (later (term_eq k h) (member k hyps) m.0, members_later h hyps ks m.1)

members_own : (hyps : List Tm) → Members hyps hyps
unfolding Members
members_own [] = tt
members_own (h ∷ hyps) = (rw ((term_eq-decides h h).1 refl) refl, members_later h hyps hyps (members_own hyps))

union_members : (hyps ks : List Tm) → Members hyps ks → union hyps ks ≡ hyps
unfolding Members
union_members hyps [] m = refl
union_members hyps (k ∷ ks) m = rw m.0 (union_members hyps ks m.1)

pub union_own : (hyps : List Tm) → union hyps hyps ≡ hyps
union_own hyps = union_members hyps hyps (members_own hyps)

-- promises likewise
Held : List (ℕ × Tm) → List (ℕ × Tm) → Type 0
Held promises [] = Unit {0}
Held promises (q ∷ qs) = (promised q promises ≡ true) × Held promises qs

held_later : (p : ℕ × Tm) (promises qs : List (ℕ × Tm)) → Held promises qs → Held (p ∷ promises) qs
unfolding Held
held_later p promises [] m = tt
held_later p promises (q ∷ qs) m = (later (q.0 == p.0 && term_eq q.1 p.1) (promised q promises) m.0, held_later p promises qs m.1)

held_own : (promises : List (ℕ × Tm)) → Held promises promises
unfolding Held
held_own [] = tt
held_own (p ∷ promises) = (rw ((Decides-eqb p.0 p.0).1 refl, (term_eq-decides p.1 p.1).1 refl) refl, held_later p promises promises (held_own promises))

union_held : (promises qs : List (ℕ × Tm)) → Held promises qs → promise_union promises qs ≡ promises
unfolding Held
union_held promises [] m = refl
union_held promises (q ∷ qs) m = rw m.0 (union_held promises qs m.1)

pub promises_own : (promises : List (ℕ × Tm)) → promise_union promises promises ≡ promises
promises_own promises = union_held promises promises (held_own promises)
