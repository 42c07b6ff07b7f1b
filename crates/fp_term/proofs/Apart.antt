-- Values with different hashes differ.
use Rattle.std.proofs.Common.{◌≡◌, ℕ, Bool, true, false, List, refl, ap}
use Rattle.std.specs.Str.{bytes_eq}
use Rattle.std.proofs.lemmas.Slice.Eq.{bytes_eq-Decides}
use Rattle.fp_term.specs.Names.{name_hash}
use Rattle.fp_term.specs.Types.{Typ, Typs, type_eq, types_eq, type_hash, types_hash}
use Rattle.fp_term.specs.Terms.{Tm, term_eq, term_hash}
use Rattle.fp_term.proofs.Equal.{type_eq-decides, types_eq-decides, term_eq-decides}

not_equal : {A : Type 0} (same : Bool) (hash : A → ℕ) (a b : A) → (same ≡ true → a ≡ b) → (hash a ≡ hash b → ⊥) → same ≡ false
not_equal true hash a b e h = absurd (h (ap hash (e refl)))
not_equal false hash a b e h = refl

pub names_apart : (a b : List ℕ) → (name_hash a ≡ name_hash b → ⊥) → bytes_eq a b ≡ false
names_apart a b h = not_equal (bytes_eq a b) name_hash a b (bytes_eq-Decides a b).0 h

pub types_apart : (a b : Typ) → (type_hash a ≡ type_hash b → ⊥) → type_eq a b ≡ false
types_apart a b h = not_equal (type_eq a b) type_hash a b (type_eq-decides a b).0 h

pub all_types_apart : (a b : Typs) → (types_hash a ≡ types_hash b → ⊥) → types_eq a b ≡ false
all_types_apart a b h = not_equal (types_eq a b) types_hash a b (types_eq-decides a b).0 h

pub terms_apart : (a b : Tm) → (term_hash a ≡ term_hash b → ⊥) → term_eq a b ≡ false
terms_apart a b h = not_equal (term_eq a b) term_hash a b (term_eq-decides a b).0 h
