use Rattle.std.proofs.Common.{◌≡◌, ◌∙◌, ◌||◌, ◌==◌, Bool, true, false, List, [], ◌∷◌, codes, ℕ, refl, sym, ap, arith}
use Rattle.std.proofs.lemmas.Bool.Decides.{nat_tests}
use Rattle.std.specs.List.{list_any}
use Rattle.std.specs.Str.{bytes_eq}
use Rattle.std.proofs.Math.Bool.{or_assoc}
use Rattle.fp_full.specs.Grammar.{is_reserved}
use Rattle.fp_full.proofs.lexicon.is_keyword.Goals as goal

keywords : List (List ℕ)
keywords =
    codes "definition" ∷ codes "typedef" ∷ codes "lemma" ∷ codes "simp" ∷ codes "cong" ∷ codes "constructors" ∷ codes "size" ∷ codes "measure" ∷ codes "fun" ∷ codes "function"
    ∷ codes "and" ∷ codes "where" ∷ codes "proof" ∷ codes "end" ∷ codes "abs" ∷ codes "rep" ∷ codes "by" ∷ codes "if" ∷ codes "then" ∷ codes "else" ∷ []

nat_eq_sym : (a b : ℕ) → (a == b) ≡ (b == a)
nat_eq_sym a b = grind (arith, nat_tests)

eq_sym : (xs ys : List ℕ) → bytes_eq xs ys ≡ bytes_eq ys xs
eq_sym [] [] = refl
eq_sym [] (y ∷ ys) = refl
eq_sym (x ∷ xs) [] = refl
eq_sym (x ∷ xs) (y ∷ ys) = rw (nat_eq_sym x y, eq_sym xs ys) refl

-- each of the tests after the first, from the left
among : Bool → List (List ℕ) → List ℕ → Bool
among b [] w = b
among b (k ∷ ks) w = among (b || bytes_eq w k) ks w

among_any : (b : Bool) (ks : List (List ℕ)) (w : List ℕ) → (b || list_any (λ k. bytes_eq k w) ks) ≡ among b ks w
unfolding among
among_any true [] w = refl
among_any false [] w = refl
among_any b (k ∷ ks) w = ap (λ t. b || (t || list_any (λ x. bytes_eq x w) ks)) (eq_sym k w) ∙ sym (or_assoc b (bytes_eq w k) (list_any (λ x. bytes_eq x w) ks)) ∙ among_any (b || bytes_eq w k) ks w

reserved_any : (w : List ℕ) → list_any (λ k. bytes_eq k w) keywords ≡ is_reserved w
unfolding keywords among
reserved_any w = among_any false keywords w

pub returns : goal.returns
unfolding keywords
returns c = let h : c.contains.result ≡ list_any (λ k. bytes_eq k c.args.word.now) keywords = c.contains.ensures.value in h ∙ reserved_any c.args.word.now
