-- The promises of two lists are among their union, and a promise is met by its proof.
use Rattle.std.proofs.Common.{◌≡◌, ℕ, Bool, true, false, cond, not, ◌&&◌, ◌||◌, ◌==◌, List, [], ◌∷◌, ◌++◌, length, refl as same_path}
use Rattle.std.proofs.lemmas.Bool.Decides.{Decides-eqb}
use Rattle.fp_term.specs.Terms.{Tm, term_eq}
use Rattle.fp_term.proofs.Equal.{term_eq-decides}
use Rattle.fp_kernel.specs.Derivability.{IsIn, first, later}
use Rattle.fp_kernel.specs.Theorems.{same_promise, promised, promise_union, without_promise}
use Rattle.fp_kernel.proofs.Later.{Among}

abbrev Promises : Type 0
Promises = List (ℕ × Tm)

in_append : (ps qs : Promises) → Among ps (ps ++ qs)
in_append [] qs x i = elim i [ ]
in_append (p ∷ ps) qs x first = first
in_append (p ∷ ps) qs x (later i) = later (in_append ps qs x i)

last_of : (ps : Promises) (q : ℕ × Tm) → IsIn q (ps ++ q ∷ [])
last_of [] q = first
last_of (p ∷ ps) q = later (last_of ps q)

kept_unless : (b : Bool) (ps : Promises) (q : ℕ × Tm) → Among ps (cond b ps (ps ++ q ∷ []))
kept_unless true ps q x i = i
kept_unless false ps q x i = in_append ps (q ∷ []) x i

pub first_promises : (ps qs : Promises) → Among ps (promise_union ps qs)
first_promises ps [] x i = i
first_promises ps (q ∷ qs) x i = first_promises (cond (promised q ps) ps (ps ++ q ∷ [])) qs x (kept_unless (promised q ps) ps q x i)

one_of_two : (a b : Bool) (P : Type 0) → (a ≡ true → P) → (b ≡ true → P) → (a || b) ≡ true → P
one_of_two true b P f g e = f same_path
one_of_two false b P f g e = g e

both_of : (a b : Bool) → (a && b) ≡ true → (a ≡ true) × (b ≡ true)
both_of true b e = (same_path, e)
both_of false b e = cc

same_pair : (a b : ℕ) (t u : Tm) → a ≡ b → t ≡ u → ◌≡◌ {A = ℕ × Tm} (a, t) (b, u)
same_pair a b t u e f = rw (e, f) same_path

promised_in : (p : ℕ × Tm) (ps : Promises) → promised p ps ≡ true → IsIn p ps
promised_in p [] e = cc
promised_in p (q ∷ ps) e =
    one_of_two (same_promise p q) (promised p ps) (IsIn p (q ∷ ps))
    (λ is. let b = both_of (p.0 == q.0) (term_eq p.1 q.1) is in
    let same = same_pair p.0 q.0 p.1 q.1 ((Decides-eqb p.0 q.0).0 b.0) ((term_eq-decides p.1 q.1).0 b.1) in
    rw same first)
    (λ is. later (promised_in p ps is)) e

there : (b : Bool) (ps : Promises) (q : ℕ × Tm) → promised q ps ≡ b → IsIn q (cond b ps (ps ++ q ∷ []))
there true ps q e = promised_in q ps e
there false ps q e = last_of ps q

pub second_promises : (ps qs : Promises) → Among qs (promise_union ps qs)
second_promises ps [] x i = elim i [ ]
second_promises ps (q ∷ qs) x first = first_promises (cond (promised q ps) ps (ps ++ q ∷ [])) qs x (there (promised q ps) ps q same_path)
second_promises ps (q ∷ qs) x (later i) = second_promises (cond (promised q ps) ps (ps ++ q ∷ [])) qs x i

-- two promises that are one
pub one_promise : (p q : ℕ × Tm) → same_promise p q ≡ true → p ≡ q
one_promise p q is =
    let b = both_of (p.0 == q.0) (term_eq p.1 q.1) is in
    same_pair p.0 q.0 p.1 q.1 ((Decides-eqb p.0 q.0).0 b.0) ((term_eq-decides p.1 q.1).0 b.1)

-- a promise is that one, or it stays
kept_or : (p q : ℕ × Tm) (b : Bool) (P : Type 0) (rest : Promises) → same_promise p q ≡ b → (p ≡ q → P) → (IsIn q (cond (not b) (q ∷ rest) rest) → P) → P
kept_or p q true P rest e f g = f (one_promise p q e)
kept_or p q false P rest e f g = g first

stays_past : (b : Bool) (x q : ℕ × Tm) (rest : Promises) → IsIn x rest → IsIn x (cond (not b) (q ∷ rest) rest)
stays_past true x q rest i = i
stays_past false x q rest i = later i

pub that_or_kept : (p x : ℕ × Tm) (ps : Promises) (P : Type 0) → IsIn x ps → (p ≡ x → P) → (IsIn x (without_promise p ps) → P) → P
that_or_kept p x [] P i f g = elim i [ ]
that_or_kept p x (q ∷ ps) P first f g = kept_or p q (same_promise p q) P (without_promise p ps) same_path f g
that_or_kept p x (q ∷ ps) P (later i) f g = that_or_kept p x ps P i f (λ k. g (stays_past (same_promise p q) x q (without_promise p ps) k))
