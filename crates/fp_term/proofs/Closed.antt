-- A pattern without variables matches just itself.
use Rattle.std.proofs.Common.{◌≡◌, ◌∙◌, ℕ, Bool, true, false, cond, ◌&&◌, ◌||◌, List, refl, ap}
use Rattle.std.specs.Prelude.{Option, Some, None}
use Rattle.std.specs.Option.{option_and_then}
use Rattle.std.specs.Str.{bytes_eq}
use Rattle.fp_term.specs.Types.{Typ, Typs, variable, applied, none, more, type_eq, types_eq, is_polymorphic, are_polymorphic, matched, all_matched}

abbrev Pairs : Type 0
Pairs = List (List ℕ × Typ)

neither : (a b : Bool) → (a || b) ≡ false → (a ≡ false) × (b ≡ false)
neither true b e = cc
neither false b e = (refl, e)

either : {A : Type 0} (b c : Bool) (x y z : A) → x ≡ cond c y z → cond b x z ≡ cond (b && c) y z
either true c x y z e = e
either false c x y z e = refl

after : (b c : Bool) (f : Pairs → Option Pairs) (pairs : Pairs) → f pairs ≡ cond c (Some pairs) None →
    option_and_then f (cond b (Some pairs) None) ≡ cond (b && c) (Some pairs) None
after true c f pairs e = e
after false c f pairs e = refl

mutual
  closed_match : (pairs : Pairs) (p t : Typ) → is_polymorphic p ≡ false → matched pairs p t ≡ cond (type_eq p t) (Some pairs) None
  closed_match pairs (variable a) t e = cc
  closed_match pairs (applied a xs) (variable b) e = refl
  closed_match pairs (applied a xs) (applied b ys) e = either (bytes_eq a b) (types_eq xs ys) _ (Some pairs) None (closed_match_all pairs xs ys e)

  closed_match_all : (pairs : Pairs) (ps ts : Typs) → are_polymorphic ps ≡ false → all_matched pairs ps ts ≡ cond (types_eq ps ts) (Some pairs) None
  closed_match_all pairs none none e = refl
  closed_match_all pairs none (more t ts) e = refl
  closed_match_all pairs (more p ps) none e = refl
  closed_match_all pairs (more p ps) (more t ts) e =
      let q = neither (is_polymorphic p) (are_polymorphic ps) e in
      ap (option_and_then (λ known. all_matched known ps ts)) (closed_match pairs p t q.0)
      ∙ after (type_eq p t) (types_eq ps ts) (λ known. all_matched known ps ts) pairs (closed_match_all pairs ps ts q.1)

pub closed_matched : (pairs : Pairs) (p t : Typ) → is_polymorphic p ≡ false → type_eq p t ≡ true → matched pairs p t ≡ Some pairs
closed_matched pairs p t e same = closed_match pairs p t e ∙ ap (λ b. cond b (Some pairs) None) same

pub closed_unmatched : (pairs : Pairs) (p t : Typ) → is_polymorphic p ≡ false → type_eq p t ≡ false → matched pairs p t ≡ None
closed_unmatched pairs p t e differs = closed_match pairs p t e ∙ ap (λ b. cond b (Some pairs) None) differs
