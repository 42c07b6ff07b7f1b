-- Each question has one answer.
use Rattle.std.proofs.Common.{List, [], ◌∷◌}
use Rattle.fp_term.specs.Terms.{Tm}
use Rattle.fp_rewriting.specs.declared.left.Left.{Left}
use Rattle.fp_rewriting.specs.Spending.{stepped}
use Rattle.fp_rewriting.specs.Simplification.{Known}
use Rattle.fp_rewriting.specs.Settling.{Settles, of_goal, of_guard, with_facts}
use Rattle.fp_rewriting.proofs.Falls.{Falls, falls_on, later, simplifies_falls}
use Rattle.fp_rewriting.proofs.Unique.{Same, one_simplified}
use Rattle.fp_rewriting.proofs.Total.{Simplified}
use Rattle.fp_rewriting.proofs.Total as total

-- an end
pub record Come (P : Tm → Left → Type 0) : Type 0 where
  pub term : Tm
  pub left : Left
  pub by : P term left

pub settles : (k : Known) (gs : List Tm) (goal : Tm) (l : Left) → Come (Settles k gs goal l)
settles k [] goal l = let a : Simplified k 0 l goal = total.simplified k 0 l goal in record { term = a.term; left = a.left; by = of_goal k goal a.term a.by }
settles k (g ∷ gs) goal l =
    let a : Simplified k 0 l g = total.simplified k 0 l g in
    let b : Come (Settles (with_facts k a.term) gs goal a.left) = settles (with_facts k a.term) gs goal a.left in
    record { term = b.term; left = b.left; by = of_guard k g a.term gs goal b.term a.by b.by }

pub settles_falls : {k : Known} {gs : List Tm} {goal : Tm} {l : Left} {u : Tm} {m : Left} → Settles k gs goal l u m → Falls (stepped l) m
settles_falls (of_goal k goal u a) = simplifies_falls a
settles_falls (of_guard k g h gs goal u a b) = falls_on (simplifies_falls a) (later (settles_falls b))

pub one_settled : {k : Known} {gs : List Tm} {goal : Tm} {l : Left} {u : Tm} {m : Left} → Settles k gs goal l u m → (v : Tm) (n : Left) → Settles k gs goal l v n → Same u v m n
one_settled (of_goal k goal u a) v n (of_goal _ _ _ b) = one_simplified a v n b
one_settled (of_guard k g h gs goal u a b) v n (of_guard {n = p} _ _ h' _ _ _ a' b') =
    let e = one_simplified a h' p a' in one_settled b v n (rw (e.value, e.left) b')
