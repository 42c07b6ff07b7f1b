-- The predicates of a single function, and of several.
use Rattle.std.proofs.Common.{◌≡◌, List, [], ◌∷◌, get_or, length, refl, ap, arith}
use Rattle.fp_group.specs.declared.clause.Head.{Head}
use Rattle.fp_spec.specs.Statements.{shown_predicates, shown_from}

pub only : (heads : List Head) (head : Head) → head ≡ get_or heads 0 head → length heads ≡ 1 → shown_predicates (head ∷ []) ≡ shown_predicates heads
only [] head is h = absurd (omega (arith, h))
only (first ∷ []) head is h = ap (λ (x : Head). shown_predicates (x ∷ [])) is
only (first ∷ second ∷ heads) head is h = absurd (omega (arith, h))

pub several : (heads : List Head) → (length heads ≡ 1 → ⊥) → shown_from 1 heads ≡ shown_predicates heads
several [] h = refl
several (first ∷ []) h = absurd (h refl)
several (first ∷ second ∷ heads) h = refl
