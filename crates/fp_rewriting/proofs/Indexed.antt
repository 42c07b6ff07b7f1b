-- The index finds the rules of each head, in their order.
use Rattle.std.proofs.Common.{◌≡◌, ◌∙◌, ℕ, ◌/◌, ◌%◌, ◌==◌, Bool, true, false, cond, List, [], ◌∷◌, ◌++◌, refl, sym, ap}
use Rattle.std.specs.Prelude.{Option, Some, None, is_some}
use Rattle.std.specs.Str.{bytes_eq}
use Rattle.std.specs.List.{All}
use Rattle.std.proofs.lemmas.Slice.Eq.{bytes_eq-Decides}
use Rattle.std.proofs.lemmas.List.Elements.{All-head, All-tail}
use Rattle.fp_term.specs.Names.{name_hash}
use Rattle.fp_term.specs.Terms.{Tm}
use Rattle.fp_rewriting.specs.declared.rule.Rule.{Rule}
use Rattle.fp_rewriting.specs.Candidates.{head_constant, is_head, with_head, with_head_of, AreHeaded}
use Rattle.fp_rewriting.specs.Index.{Tree, tip, fork, sought, with_rule, with_rule_of, with_rules, Indexed}
use Rattle.fp_rewriting.specs.Reading.{is_rewriting}
use Rattle.fp_rewriting.specs.Stated.{IsStated}

append_nothing : (rs : List Rule) → rs ++ [] ≡ rs
append_nothing [] = refl
append_nothing (r ∷ rs) = ap (λ x. r ∷ x) (append_nothing rs)

append_twice : (xs ys zs : List Rule) → (xs ++ ys) ++ zs ≡ xs ++ (ys ++ zs)
append_twice [] ys zs = refl
append_twice (x ∷ xs) ys zs = ap (λ rest. x ∷ rest) (append_twice xs ys zs)

alike : {A : Type 0} (b : Bool) (x : A) → cond b x x ≡ x
alike true x = refl
alike false x = refl

no_match : (k n : List ℕ) (r : Rule) (rs : List Rule) (b : Bool) → bytes_eq k n ≡ b → (k ≡ n → ⊥) → rs ≡ rs ++ cond b (r ∷ []) []
no_match k n r rs true e d = absurd (d ((bytes_eq-Decides k n).0 e))
no_match k n r rs false e d = sym (append_nothing rs)

other : (a k n : List ℕ) → bytes_eq a k ≡ true → bytes_eq a n ≡ false → k ≡ n → ⊥
other a k n e f same =
    let g : bytes_eq a n ≡ true = (bytes_eq-Decides a n).1 ((bytes_eq-Decides a k).0 e ∙ same) in
    cc

module _ (k n : List ℕ) (r : Rule) where
  at_fork : (h g : ℕ) (a : List ℕ) (rs : List Rule) (z o : Tree) (p q u v : Bool) → bytes_eq a k ≡ p → bytes_eq a n ≡ q → (h % 2 == 0) ≡ u → (g % 2 == 0) ≡ v → (k ≡ n → h ≡ g) →
      sought (g / 2) n (with_rule (h / 2) k r z) ≡ sought (g / 2) n z ++ cond (bytes_eq k n) (r ∷ []) [] →
      sought (g / 2) n (with_rule (h / 2) k r o) ≡ sought (g / 2) n o ++ cond (bytes_eq k n) (r ∷ []) [] →
      sought g n (with_rule h k r (fork a rs z o)) ≡ sought g n (fork a rs z o) ++ cond (bytes_eq k n) (r ∷ []) []
  at_fork h g a rs z o true true u v ea en eu ev e x y =
      let same : k ≡ n = sym ((bytes_eq-Decides a k).0 ea) ∙ (bytes_eq-Decides a n).0 en in
      let is : bytes_eq k n ≡ true = (bytes_eq-Decides k n).1 same in
      rw (ea, en, is) refl
  at_fork h g a rs z o true false u v ea en eu ev e x y = rw (ea, en) (no_match k n r (cond (g % 2 == 0) (sought (g / 2) n z) (sought (g / 2) n o)) (bytes_eq k n) refl (other a k n ea en))
  at_fork h g a rs z o false true true v ea en eu ev e x y = rw (ea, eu, en) (no_match k n r rs (bytes_eq k n) refl (λ same. other a n k en ea (sym same)))
  at_fork h g a rs z o false true false v ea en eu ev e x y = rw (ea, eu, en) (no_match k n r rs (bytes_eq k n) refl (λ same. other a n k en ea (sym same)))
  at_fork h g a rs z o false false true true ea en eu ev e x y = rw (ea, eu, en, ev) x
  at_fork h g a rs z o false false false false ea en eu ev e x y = rw (ea, eu, en, ev) y
  at_fork h g a rs z o false false true false ea en eu ev e x y = rw (ea, eu, en, ev) (no_match k n r (sought (g / 2) n o) (bytes_eq k n) refl (λ same. let is : h ≡ g = e same in cc))
  at_fork h g a rs z o false false false true ea en eu ev e x y = rw (ea, eu, en, ev) (no_match k n r (sought (g / 2) n z) (bytes_eq k n) refl (λ same. let is : h ≡ g = e same in cc))

  -- what is found for a name once a rule was put in
  found_with : (h g : ℕ) (t : Tree) → (k ≡ n → h ≡ g) → sought g n (with_rule h k r t) ≡ sought g n t ++ cond (bytes_eq k n) (r ∷ []) []
  found_with h g tip e = ap (cond (bytes_eq k n) (r ∷ [])) (alike (g % 2 == 0) [])
  found_with h g (fork a rs z o) e =
      at_fork h g a rs z o (bytes_eq a k) (bytes_eq a n) (h % 2 == 0) (g % 2 == 0) refl refl refl refl e
      (found_with (h / 2) (g / 2) z (λ same. ap (λ x. x / 2) (e same))) (found_with (h / 2) (g / 2) o (λ same. ap (λ x. x / 2) (e same)))

put_first : (b : Bool) (r : Rule) (xs rs : List Rule) → (xs ++ cond b (r ∷ []) []) ++ rs ≡ xs ++ cond b (r ∷ rs) rs
put_first true r xs rs = append_twice xs (r ∷ []) rs
put_first false r xs rs = append_twice xs [] rs

one_more : (r : Rule) (t : Tree) (n : List ℕ) (rs : List Rule) (o : Option (List ℕ)) →
    sought (name_hash n) n (with_rule_of o r t) ++ rs ≡ sought (name_hash n) n t ++ cond (is_head n o) (r ∷ rs) rs
one_more r t n rs None = refl
one_more r t n rs (Some k) = ap (λ xs. xs ++ rs) (found_with k n r (name_hash k) (name_hash n) t (ap name_hash)) ∙ put_first (bytes_eq k n) r (sought (name_hash n) n t) rs

-- what is found for a name once the rules were put in
found_all : (rs : List Rule) (t : Tree) (n : List ℕ) → sought (name_hash n) n (with_rules rs t) ≡ sought (name_hash n) n t ++ with_head n rs
found_all [] t n = sym (append_nothing (sought (name_hash n) n t))
found_all (r ∷ rs) t n = found_all rs (with_rule_of (head_constant r.lhs) r t) n ∙ one_more r t n (with_head n rs) (head_constant r.lhs)

headed : (r : Rule) → IsStated r → is_some (head_constant r.lhs) ≡ true
headed r h = by_head (is_some (head_constant r.lhs)) refl
  where
    by_head : (c : Bool) → is_some (head_constant r.lhs) ≡ c → is_some (head_constant r.lhs) ≡ true
    by_head true g = g
    by_head false g = let e : is_rewriting r ≡ true = h in let f : false ≡ true = rw g at e in cc

all_headed : (rs : List Rule) → All IsStated rs → AreHeaded rs
all_headed [] h = tt
all_headed (r ∷ rs) h = (headed r (All-head IsStated r rs h), all_headed rs (All-tail IsStated r rs h))

pub indexed : (rs : List Rule) (t : Tree) → t ≡ with_rules rs tip → All IsStated rs → Indexed rs t
indexed rs t e h = rw e (record { headed = all_headed rs h; index = found_all rs tip })

pub found : (rs : List Rule) (t : Tree) (o : Option (List ℕ)) (name : List ℕ) → o ≡ Some name → Indexed rs t → with_head_of o rs ≡ sought (name_hash name) name t
found rs t o name e h = rw e (sym (h.index name))

-- the index of equal rules
pub copied : (rs all : List Rule) (t u : Tree) → rs ≡ all → t ≡ with_rules rs tip → Indexed all u → Indexed rs t
copied rs all t u e f h = let g : t ≡ with_rules all tip = rw e at f in rw (e, g) (record { headed = h.headed; index = found_all all tip })
