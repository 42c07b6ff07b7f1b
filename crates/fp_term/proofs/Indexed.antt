-- The index finds what the list has first for a name.
use Rattle.std.proofs.Common.{◌≡◌, ◌∙◌, ℕ, ◌/◌, ◌%◌, ◌==◌, Bool, true, false, cond, List, [], ◌∷◌, ◌++◌, refl, sym, ap}
use Rattle.std.specs.Prelude.{Option, Some, None, option_map}
use Rattle.std.specs.Str.{bytes_eq}
use Rattle.std.proofs.lemmas.Slice.Eq.{bytes_eq-Decides}
use Rattle.fp_term.specs.Names.{name_hash}
use Rattle.fp_term.specs.Types.{Typ, found_type}
use Rattle.fp_term.specs.Arities.{arity_of}
use Rattle.fp_term.specs.Index.{Entry, has_arity, has_type, Tree, tip, fork, sought, with_entry}

-- the first of two
abbrev earlier : Option Entry → Option Entry → Option Entry
earlier None o = o
earlier (Some s) o = Some s

earlier_none : (o : Option Entry) → earlier o None ≡ o
earlier_none None = refl
earlier_none (Some s) = refl

alike : {A : Type 0} (b : Bool) (x : A) → cond b x x ≡ x
alike true x = refl
alike false x = refl

no_match : (k n : List ℕ) (entry : Entry) (o : Option Entry) (r : Bool) → bytes_eq k n ≡ r → (k ≡ n → ⊥) → o ≡ earlier o (cond r (Some entry) None)
no_match k n entry o true e d = absurd (d ((bytes_eq-Decides k n).0 e))
no_match k n entry o false e d = sym (earlier_none o)

other : (a k n : List ℕ) → bytes_eq a k ≡ true → bytes_eq a n ≡ false → k ≡ n → ⊥
other a k n e f same =
    let g : bytes_eq a n ≡ true = (bytes_eq-Decides a n).1 ((bytes_eq-Decides a k).0 e ∙ same) in
    cc

module _ (k n : List ℕ) (entry : Entry) where
  at_fork : (h g : ℕ) (a : List ℕ) (s : Entry) (z o : Tree) (p q u v : Bool) → bytes_eq a k ≡ p → bytes_eq a n ≡ q → (h % 2 == 0) ≡ u → (g % 2 == 0) ≡ v → (k ≡ n → h ≡ g) →
      sought (g / 2) n (with_entry (h / 2) k entry z) ≡ earlier (sought (g / 2) n z) (cond (bytes_eq k n) (Some entry) None) →
      sought (g / 2) n (with_entry (h / 2) k entry o) ≡ earlier (sought (g / 2) n o) (cond (bytes_eq k n) (Some entry) None) →
      sought g n (with_entry h k entry (fork a s z o)) ≡ earlier (sought g n (fork a s z o)) (cond (bytes_eq k n) (Some entry) None)
  at_fork h g a s z o true true u v ea en eu ev e x y = rw (ea, en) refl
  at_fork h g a s z o true false u v ea en eu ev e x y = rw ea (no_match k n entry (sought g n (fork a s z o)) (bytes_eq k n) refl (other a k n ea en))
  at_fork h g a s z o false true true v ea en eu ev e x y = rw (ea, eu, en) refl
  at_fork h g a s z o false true false v ea en eu ev e x y = rw (ea, eu, en) refl
  at_fork h g a s z o false false true true ea en eu ev e x y = rw (ea, eu, en, ev) x
  at_fork h g a s z o false false false false ea en eu ev e x y = rw (ea, eu, en, ev) y
  at_fork h g a s z o false false true false ea en eu ev e x y = rw (ea, eu, en, ev) (no_match k n entry (sought (g / 2) n o) (bytes_eq k n) refl (λ same. let is : h ≡ g = e same in cc))
  at_fork h g a s z o false false false true ea en eu ev e x y = rw (ea, eu, en, ev) (no_match k n entry (sought (g / 2) n z) (bytes_eq k n) refl (λ same. let is : h ≡ g = e same in cc))

  found_with : (h g : ℕ) (t : Tree) → (k ≡ n → h ≡ g) → sought g n (with_entry h k entry t) ≡ earlier (sought g n t) (cond (bytes_eq k n) (Some entry) None)
  found_with h g tip e = ap (cond (bytes_eq k n) (Some entry)) (alike (g % 2 == 0) None)
  found_with h g (fork a s z o) e =
      at_fork h g a s z o (bytes_eq a k) (bytes_eq a n) (h % 2 == 0) (g % 2 == 0) refl refl refl refl e
      (found_with (h / 2) (g / 2) z (λ same. ap (λ x. x / 2) (e same))) (found_with (h / 2) (g / 2) o (λ same. ap (λ x. x / 2) (e same)))

first_or : (b : Bool) (s : Entry) (x y z : Option Entry) → x ≡ earlier y z → cond b (Some s) x ≡ earlier (cond b (Some s) y) z
first_or true s x y z e = refl
first_or false s x y z e = e

mapped : {A : Type 0} (f : A → Entry) (b : Bool) (x : A) (o : Option A) → option_map f (cond b (Some x) o) ≡ cond b (Some (f x)) (option_map f o)
mapped f true x o = refl
mapped f false x o = refl

type_earlier : (n k : List ℕ) (ty : Typ) (list : List (List ℕ × Typ)) →
    option_map has_type (found_type n (list ++ (k, ty) ∷ [])) ≡ earlier (option_map has_type (found_type n list)) (cond (bytes_eq k n) (Some (has_type ty)) None)
type_earlier n k ty [] = mapped has_type (bytes_eq k n) ty None
type_earlier n k ty (pair ∷ rest) =
    mapped has_type (bytes_eq pair.0 n) pair.1 _ ∙ first_or (bytes_eq pair.0 n) (has_type pair.1) _ (option_map has_type (found_type n rest)) _ (type_earlier n k ty rest)
    ∙ ap (λ o. earlier o (cond (bytes_eq k n) (Some (has_type ty)) None)) (sym (mapped has_type (bytes_eq pair.0 n) pair.1 (found_type n rest)))

arity_earlier : (n k : List ℕ) (arity : ℕ) (list : List (List ℕ × ℕ)) →
    option_map has_arity (arity_of n (list ++ (k, arity) ∷ [])) ≡ earlier (option_map has_arity (arity_of n list)) (cond (bytes_eq k n) (Some (has_arity arity)) None)
arity_earlier n k arity [] = mapped has_arity (bytes_eq k n) arity None
arity_earlier n k arity (pair ∷ rest) =
    mapped has_arity (bytes_eq pair.0 n) pair.1 _ ∙ first_or (bytes_eq pair.0 n) (has_arity pair.1) _ (option_map has_arity (arity_of n rest)) _ (arity_earlier n k arity rest)
    ∙ ap (λ o. earlier o (cond (bytes_eq k n) (Some (has_arity arity)) None)) (sym (mapped has_arity (bytes_eq pair.0 n) pair.1 (arity_of n rest)))

-- the index with one more name is that of the list with it
pub type_indexed : (k : List ℕ) (ty : Typ) (t : Tree) (list : List (List ℕ × Typ)) → ((n : List ℕ) → sought (name_hash n) n t ≡ option_map has_type (found_type n list)) →
    (n : List ℕ) → sought (name_hash n) n (with_entry (name_hash k) k (has_type ty) t) ≡ option_map has_type (found_type n (list ++ (k, ty) ∷ []))
type_indexed k ty t list h n =
    found_with k n (has_type ty) (name_hash k) (name_hash n) t (ap name_hash)
    ∙ ap (λ o. earlier o (cond (bytes_eq k n) (Some (has_type ty)) None)) (h n) ∙ sym (type_earlier n k ty list)

pub arity_indexed : (k : List ℕ) (arity : ℕ) (t : Tree) (list : List (List ℕ × ℕ)) → ((n : List ℕ) → sought (name_hash n) n t ≡ option_map has_arity (arity_of n list)) →
    (n : List ℕ) → sought (name_hash n) n (with_entry (name_hash k) k (has_arity arity) t) ≡ option_map has_arity (arity_of n (list ++ (k, arity) ∷ []))
arity_indexed k arity t list h n =
    found_with k n (has_arity arity) (name_hash k) (name_hash n) t (ap name_hash)
    ∙ ap (λ o. earlier o (cond (bytes_eq k n) (Some (has_arity arity)) None)) (h n) ∙ sym (arity_earlier n k arity list)
