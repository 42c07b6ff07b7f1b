-- No rule fits a term but those with the constant at its head.
use Rattle.std.proofs.Common.{◌≡◌, ℕ, Bool, true, false, cond, List, [], ◌∷◌, refl}
use Rattle.std.specs.Prelude.{Option, Some, None, is_some}
use Rattle.std.proofs.lemmas.Slice.Eq.{bytes_eq-Decides}
use Rattle.fp_term.specs.Types.{Typ}
use Rattle.fp_term.specs.Terms.{Tm, bound, free, constant, app, abs, replaced, retyped_term}
use Rattle.fp_match.specs.Instances.{IsTermInstance}
use Rattle.fp_rewriting.specs.declared.left.Left.{Left}
use Rattle.fp_rewriting.specs.declared.rule.Rule.{Rule}
use Rattle.fp_rewriting.specs.Simplification.{Known, FindsRule, no_rule, too_deep, no_instance, used, unused}
use Rattle.fp_rewriting.specs.Candidates.{head_constant, is_head, with_head, with_head_of, AreHeaded}

by_test : (b : Bool) (P : Type 0) → (b ≡ true → P) → (b ≡ false → P) → P
by_test true P f g = f refl
by_test false P f g = g refl

-- an instance keeps the constant at the head
instance_head : (ts : List (List ℕ × Typ × Tm)) (i : List (List ℕ × Typ)) (p : Tm) (a : List ℕ) → head_constant p ≡ Some a → head_constant (replaced ts (retyped_term i p)) ≡ Some a
instance_head ts i (bound n) a e = cc
instance_head ts i (free b s) a e = cc
instance_head ts i (constant b s) a e = e
instance_head ts i (app f x) a e = instance_head ts i f a e
instance_head ts i (abs s x) a e = cc

-- a rule with another head doesn't fit
no_other : (r : Rule) (t : Tm) (name : List ℕ) → is_some (head_constant r.lhs) ≡ true → is_head name (head_constant r.lhs) ≡ false → head_constant t ≡ Some name → IsTermInstance r.lhs t → ⊥
no_other r t name some other e h = go (head_constant r.lhs) refl some other
  where
    go : (o : Option (List ℕ)) → head_constant r.lhs ≡ o → is_some o ≡ true → is_head name o ≡ false → ⊥
    go None f s n = cc
    go (Some a) f s n =
        let g : head_constant t ≡ Some a = rw h.by.equal at (instance_head h.terms h.types r.lhs a f) in
        let same : a ≡ name = cc in
        let yes = (bytes_eq-Decides a name).1 same in cc

-- a term without a constant at its head fits no rule
no_head : (r : Rule) (t : Tm) → is_some (head_constant r.lhs) ≡ true → head_constant t ≡ None → IsTermInstance r.lhs t → ⊥
no_head r t some e h = go (head_constant r.lhs) refl some
  where
    go : (o : Option (List ℕ)) → head_constant r.lhs ≡ o → is_some o ≡ true → ⊥
    go None f s = cc
    go (Some a) f s = let g : head_constant t ≡ Some a = rw h.by.equal at (instance_head h.terms h.types r.lhs a f) in cc

none_fit : {k : Known} {d : ℕ} {l : Left} (rs : List Rule) (t : Tm) → AreHeaded rs → head_constant t ≡ None → FindsRule k d l rs t None l
none_fit [] t h e = no_rule t
none_fit (r ∷ rs) t h e = no_instance r rs t None (no_head r t h.0 e) (none_fit rs t h.1 e)

-- what is found from the rule on
kept : {k : Known} {d : ℕ} (r : Rule) (rs rest : List Rule) {l : Left} {ss : List Rule} {t : Tm} {o : Option Tm} {m : Left} → FindsRule k d l ss t o m → ss ≡ r ∷ rest →
    ((n : Left) → FindsRule k d n rest t o m → FindsRule k d n rs t o m) → FindsRule k d l (r ∷ rs) t o m
kept r rs rest (no_rule t) f rec = cc
kept r rs rest (too_deep r' rs' t o g b) f rec = let p : r' ≡ r = cc in let q : rs' ≡ rest = cc in
    too_deep r rs t o (rw p at g) (rec _ (rw q at b))
kept r rs rest (no_instance r' rs' t o g b) f rec = let p : r' ≡ r = cc in let q : rs' ≡ rest = cc in
    no_instance r rs t o (rw p at g) (rec _ (rw q at b))
kept r rs rest (used r' rs' t i g j b) f rec = let p : r' ≡ r = cc in rw (← p) (used r' rs t i g j b)
kept r rs rest (unused r' rs' t o i g j b c) f rec = let p : r' ≡ r = cc in let q : rs' ≡ rest = cc in
    unused r rs t o i (rw p at g) (rw p at j) (rw p at b) (rec _ (rw q at c))

-- what the rules of the head find, all rules find
all_find : {k : Known} {d : ℕ} (rs : List Rule) (t : Tm) (name : List ℕ) (o : Option Tm) (l m : Left) → AreHeaded rs → head_constant t ≡ Some name → FindsRule k d l (with_head name rs) t o m → FindsRule k d l rs t o m
all_find [] t name o l m h e a = a
all_find {k} {d} (r ∷ rs) t name o l m h e a = go (λ n a. all_find rs t name o n m h.1 e a) (is_head name (head_constant r.lhs)) refl a
  where
    go : ((n : Left) → FindsRule k d n (with_head name rs) t o m → FindsRule k d n rs t o m) → (b : Bool) → is_head name (head_constant r.lhs) ≡ b → FindsRule k d l (cond b (r ∷ with_head name rs) (with_head name rs)) t o m → FindsRule k d l (r ∷ rs) t o m
    go rec true f c = kept r rs (with_head name rs) c refl rec
    go rec false f c = no_instance r rs t o (no_other r t name h.0 f e) (rec l c)

pub candidates_find : {k : Known} {d : ℕ} (rs : List Rule) (t : Tm) (o : Option Tm) (l m : Left) → AreHeaded rs → (h : Option (List ℕ)) → head_constant t ≡ h → FindsRule k d l (with_head_of h rs) t o m → FindsRule k d l rs t o m
candidates_find rs t o l m h None e (no_rule _) = none_fit rs t h e
candidates_find rs t o l m h (Some name) e a = all_find rs t name o l m h e a
