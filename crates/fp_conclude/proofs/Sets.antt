-- What the rules make of lists without repeats has none.
use Rattle.std.proofs.Common.{◌≡◌, ◌∙◌, ℕ, Bool, true, false, cond, not, ◌||◌, List, [], ◌∷◌, ◌++◌, map, refl, sym}
use Rattle.std.proofs.lemmas.List.{append-nil, append_assoc}
use Rattle.fp_term.specs.Types.{Typ}
use Rattle.fp_term.specs.Terms.{Tm, term_eq, replaced, retyped_term}
use Rattle.fp_term.proofs.Equal.{term_eq-decides}
use Rattle.fp_conclude.specs.Hypotheses.{member, IsSet, union, without, all_replaced, all_retyped_terms}

neither : (a b : Bool) → (a || b) ≡ false → (a ≡ false) × (b ≡ false)
neither true b e = cc
neither false b e = (refl, e)

both_false : (a b : Bool) → a ≡ false → b ≡ false → (a || b) ≡ false
both_false a b e f = rw e f

apart_by : (t u : Tm) (b : Bool) → term_eq t u ≡ b → term_eq u t ≡ false → term_eq t u ≡ false
apart_by t u true e f =
    let same = (term_eq-decides t u).0 e in
    let g : term_eq u t ≡ true = (term_eq-decides u t).1 (sym same) in
    cc
apart_by t u false e f = e

-- whether terms are apart doesn't depend on their order
pub apart : (t u : Tm) → term_eq u t ≡ false → term_eq t u ≡ false
apart t u f = apart_by t u (term_eq t u) refl f

pub member_append : (t : Tm) (hyps : List Tm) (u : Tm) → member t hyps ≡ false → term_eq t u ≡ false → member t (hyps ++ u ∷ []) ≡ false
member_append t [] u e f = both_false (term_eq t u) false f refl
member_append t (h ∷ hyps) u e f =
    let a = neither (term_eq t h) (member t hyps) e in
    both_false (term_eq t h) (member t (hyps ++ u ∷ [])) a.0 (member_append t hyps u a.1 f)

pub set_append : (hyps : List Tm) (u : Tm) → IsSet hyps → member u hyps ≡ false → IsSet (hyps ++ u ∷ [])
set_append [] u h e = (refl, tt)
set_append (t ∷ hyps) u h e =
    let a = neither (term_eq u t) (member u hyps) e in
    (member_append t hyps u h.0 (apart t u a.0), set_append hyps u h.1 a.1)

set_unless : (b : Bool) (hyps : List Tm) (u : Tm) → member u hyps ≡ b → IsSet hyps → IsSet (cond b hyps (hyps ++ u ∷ []))
set_unless true hyps u e h = h
set_unless false hyps u e h = set_append hyps u h e

pub union_set : (hyps more : List Tm) → IsSet hyps → IsSet (union hyps more)
union_set hyps [] h = h
union_set hyps (u ∷ more) h = union_set (cond (member u hyps) hyps (hyps ++ u ∷ [])) more (set_unless (member u hyps) hyps u refl h)

not_member_where : (b : Bool) (t h : Tm) (hyps : List Tm) → term_eq t h ≡ false → member t hyps ≡ false → member t (cond b (h ∷ hyps) hyps) ≡ false
not_member_where true t h hyps e f = both_false (term_eq t h) (member t hyps) e f
not_member_where false t h hyps e f = f

not_member_without : (u t : Tm) (hyps : List Tm) → member t hyps ≡ false → member t (without u hyps) ≡ false
not_member_without u t [] e = refl
not_member_without u t (h ∷ hyps) e =
    let a = neither (term_eq t h) (member t hyps) e in
    not_member_where (not (term_eq u h)) t h (without u hyps) a.0 (not_member_without u t hyps a.1)

set_where : (b : Bool) (t : Tm) (hyps : List Tm) → member t hyps ≡ false → IsSet hyps → IsSet (cond b (t ∷ hyps) hyps)
set_where true t hyps e h = (e, h)
set_where false t hyps e h = h

pub without_set : (u : Tm) (hyps : List Tm) → IsSet hyps → IsSet (without u hyps)
without_set u [] h = tt
without_set u (t ∷ hyps) h = set_where (not (term_eq u t)) t (without u hyps) (not_member_without u t hyps h.0) (without_set u hyps h.1)

pub replaced_set : (pairs : List (List ℕ × Typ × Tm)) (hyps : List Tm) → IsSet (all_replaced pairs hyps)
replaced_set pairs hyps = union_set [] (map (replaced pairs) hyps) tt

pub retyped_set : (pairs : List (List ℕ × Typ)) (hyps : List Tm) → IsSet (all_retyped_terms pairs hyps)
retyped_set pairs hyps = union_set [] (map (retyped_term pairs) hyps) tt

-- none of the one list is in the other
pub Apart : List Tm → List Tm → Type 0
Apart hyps [] = Unit {0}
Apart hyps (u ∷ more) = (member u hyps ≡ false) × Apart hyps more

apart_more : (hyps more : List Tm) (u : Tm) → Apart hyps more → member u more ≡ false → Apart (hyps ++ u ∷ []) more
unfolding Apart
apart_more hyps [] u h e = tt
apart_more hyps (t ∷ more) u h e =
    let a = neither (term_eq u t) (member u more) e in
    (member_append t hyps u h.0 (apart t u a.0), apart_more hyps more u h.1 a.1)

-- lists that are apart are put one after the other
pub union_apart : (hyps more : List Tm) → Apart hyps more → IsSet more → union hyps more ≡ hyps ++ more
unfolding Apart
union_apart hyps [] h k = sym (append-nil hyps)
union_apart hyps (u ∷ more) h k =
    rw h.0 (union_apart (hyps ++ u ∷ []) more (apart_more hyps more u h.1 k.0) k.1 ∙ append_assoc hyps (u ∷ []) more)

from_nothing : (more : List Tm) → Apart [] more
unfolding Apart
from_nothing [] = tt
from_nothing (u ∷ more) = (refl, from_nothing more)

pub union_nothing : (hyps : List Tm) → IsSet hyps → union [] hyps ≡ hyps
union_nothing hyps h = union_apart [] hyps (from_nothing hyps) h
