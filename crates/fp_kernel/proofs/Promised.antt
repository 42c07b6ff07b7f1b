-- Promises without repeats stay so with those of another theorem.
use Rattle.std.proofs.Common.{◌≡◌, ◌∙◌, ℕ, Bool, true, false, cond, not, ◌&&◌, ◌||◌, ◌==◌, List, [], ◌∷◌, ◌++◌, refl, sym}
use Rattle.std.proofs.lemmas.List.{append-nil, append_assoc}
use Rattle.std.proofs.lemmas.Bool.Decides.{Decides-eqb}
use Rattle.fp_term.specs.Terms.{Tm, term_eq}
use Rattle.fp_term.proofs.Equal.{term_eq-decides}
use Rattle.fp_kernel.specs.Theorems.{same_promise, promised, ArePromises, promise_union, without_promise}

neither : (a b : Bool) → (a || b) ≡ false → (a ≡ false) × (b ≡ false)
neither true b e = cc
neither false b e = (refl, e)

both_false : (a b : Bool) → a ≡ false → b ≡ false → (a || b) ≡ false
both_false a b e f = rw e f

both_of : (a b : Bool) → (a && b) ≡ true → (a ≡ true) × (b ≡ true)
both_of true b e = (refl, e)
both_of false b e = cc

alike_back : (p q : ℕ × Tm) → same_promise p q ≡ true → same_promise q p ≡ true
alike_back p q e =
    let b = both_of (p.0 == q.0) (term_eq p.1 q.1) e in
    rw ((Decides-eqb q.0 p.0).1 (sym ((Decides-eqb p.0 q.0).0 b.0))) ((term_eq-decides q.1 p.1).1 (sym ((term_eq-decides p.1 q.1).0 b.1)))

apart_by : (p q : ℕ × Tm) (b : Bool) → same_promise p q ≡ b → same_promise q p ≡ false → same_promise p q ≡ false
apart_by p q true e f = let g = alike_back p q e in cc
apart_by p q false e f = e

promised_append : (p : ℕ × Tm) (promises : List (ℕ × Tm)) (q : ℕ × Tm) → promised p promises ≡ false → same_promise p q ≡ false → promised p (promises ++ q ∷ []) ≡ false
promised_append p [] q e f = both_false (same_promise p q) false f refl
promised_append p (r ∷ promises) q e f =
    let a = neither (same_promise p r) (promised p promises) e in
    both_false (same_promise p r) (promised p (promises ++ q ∷ [])) a.0 (promised_append p promises q a.1 f)

set_append : (promises : List (ℕ × Tm)) (q : ℕ × Tm) → ArePromises promises → promised q promises ≡ false → ArePromises (promises ++ q ∷ [])
set_append [] q h e = (refl, tt)
set_append (p ∷ promises) q h e =
    let a = neither (same_promise q p) (promised q promises) e in
    (promised_append p promises q h.0 (apart_by p q (same_promise p q) refl a.0), set_append promises q h.1 a.1)

set_unless : (b : Bool) (promises : List (ℕ × Tm)) (q : ℕ × Tm) → promised q promises ≡ b → ArePromises promises → ArePromises (cond b promises (promises ++ q ∷ []))
set_unless true promises q e h = h
set_unless false promises q e h = set_append promises q h e

pub promises_set : (promises more : List (ℕ × Tm)) → ArePromises promises → ArePromises (promise_union promises more)
promises_set promises [] h = h
promises_set promises (q ∷ more) h = promises_set (cond (promised q promises) promises (promises ++ q ∷ [])) more (set_unless (promised q promises) promises q refl h)

-- none of the one list's promises is in the other
abbrev pub Apart : List (ℕ × Tm) → List (ℕ × Tm) → Type 0
Apart promises [] = Unit {0}
Apart promises (q ∷ more) = (promised q promises ≡ false) × Apart promises more

apart_more : (promises more : List (ℕ × Tm)) (q : ℕ × Tm) → Apart promises more → promised q more ≡ false → Apart (promises ++ q ∷ []) more
apart_more promises [] q h e = tt
apart_more promises (r ∷ more) q h e =
    let a = neither (same_promise q r) (promised q more) e in
    (promised_append r promises q h.0 (apart_by r q (same_promise r q) refl a.0), apart_more promises more q h.1 a.1)

-- promises that are apart are put one after the other
pub promises_apart : (promises more : List (ℕ × Tm)) → Apart promises more → ArePromises more → promise_union promises more ≡ promises ++ more
promises_apart promises [] h k = sym (append-nil promises)
promises_apart promises (q ∷ more) h k =
    rw h.0 (promises_apart (promises ++ q ∷ []) more (apart_more promises more q h.1 k.0) k.1 ∙ append_assoc promises (q ∷ []) more)

from_nothing : (more : List (ℕ × Tm)) → Apart [] more
from_nothing [] = tt
from_nothing (q ∷ more) = (refl, from_nothing more)

pub promises_alone : (promises : List (ℕ × Tm)) → ArePromises promises → promise_union [] promises ≡ promises
promises_alone promises h = promises_apart [] promises (from_nothing promises) h

not_promised_where : (b : Bool) (q p : ℕ × Tm) (rest : List (ℕ × Tm)) → same_promise q p ≡ false → promised q rest ≡ false → promised q (cond b (p ∷ rest) rest) ≡ false
not_promised_where true q p rest e f = both_false (same_promise q p) (promised q rest) e f
not_promised_where false q p rest e f = f

not_promised_without : (p q : ℕ × Tm) (promises : List (ℕ × Tm)) → promised q promises ≡ false → promised q (without_promise p promises) ≡ false
not_promised_without p q [] e = refl
not_promised_without p q (r ∷ promises) e =
    let a = neither (same_promise q r) (promised q promises) e in
    not_promised_where (not (same_promise p r)) q r (without_promise p promises) a.0 (not_promised_without p q promises a.1)

set_where : (b : Bool) (q : ℕ × Tm) (rest : List (ℕ × Tm)) → promised q rest ≡ false → ArePromises rest → ArePromises (cond b (q ∷ rest) rest)
set_where true q rest e h = (e, h)
set_where false q rest e h = h

pub without_set : (p : ℕ × Tm) (promises : List (ℕ × Tm)) → ArePromises promises → ArePromises (without_promise p promises)
without_set p [] h = tt
without_set p (q ∷ promises) h = set_where (not (same_promise p q)) q (without_promise p promises) (not_promised_without p q promises h.0) (without_set p promises h.1)
