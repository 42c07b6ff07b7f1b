-- The search for the partner of a variable, step by step.
use Rattle.std.proofs.Common.{◌≡◌, ◌∙◌, ℕ, ◌+◌, ◌≤◌, ◌<◌, false, List, [], ◌∷◌, drop, get_or, length, refl, sym, ap}
use Rattle.std.specs.Prelude.{None}
use Rattle.std.proofs.lemmas.List.{drop_more, drop_all}
use Rattle.fp_term.specs.Terms.{Tm, term_eq}
use Rattle.fp_cong_rule.specs.Form.{partner}

no_partner : (xs : List Tm) (t : Tm) → partner xs [] t ≡ None
no_partner [] t = refl
no_partner (x ∷ xs) t = refl

pub ended : (xs ys : List Tm) (i : ℕ) (t : Tm) → length ys ≤ i → partner (drop i xs) (drop i ys) t ≡ partner xs ys t → None ≡ partner xs ys t
ended xs ys i t h e = sym (no_partner (drop i xs) t) ∙ sym (ap (λ w. partner (drop i xs) w t) (drop_all i ys h)) ∙ e

pub passed : (xs ys : List Tm) (i : ℕ) (x t : Tm) → x ≡ get_or xs i x → i < length xs → i < length ys → term_eq x t ≡ false →
    partner (drop i xs) (drop i ys) t ≡ partner xs ys t → partner (drop (i + 1) xs) (drop (i + 1) ys) t ≡ partner xs ys t
passed xs ys i x t is h k differs e =
    let a : drop i xs ≡ x ∷ drop (i + 1) xs = drop_more xs i x h ∙ ap (λ w. w ∷ drop (i + 1) xs) (sym is) in
    let step : partner (drop i xs) (drop i ys) t ≡ partner (drop (i + 1) xs) (drop (i + 1) ys) t = rw (a, drop_more ys i t k, differs) refl in
    sym step ∙ e
