-- The hypotheses that are left, after one more of them.
use Rattle.std.proofs.Common.{◌≡◌, ◌∙◌, ◌<◌, ◌+◌, ℕ, zero, suc, List, [], ◌∷◌, ◌++◌, length, get_or, drop, codes, sym, ap, arith, add-one, append_assoc}
use Rattle.fp_term.specs.Terms.{Tm}
use Rattle.fp_print.specs.Numbers.{HasOnly, AllHaveOnly}
use Rattle.fp_print.specs.Texts.{text_among, later_hypotheses}

left_from : (ts : List Tm) (i : ℕ) (t : Tm) → i < length ts → t ≡ get_or ts i t → drop i ts ≡ t ∷ drop (suc i) ts
left_from [] i t l e = absurd (omega arith)
left_from (x ∷ ts) zero t l e = ap (λ y. y ∷ ts) (sym e)
left_from (x ∷ ts) (suc i) t l e = left_from ts i t (omega arith) e

left_at : (ts : List Tm) (i : ℕ) (t : Tm) → i < length ts → t ≡ get_or ts i t → drop i ts ≡ t ∷ drop (i + 1) ts
left_at ts i t l e = rw add-one (left_from ts i t l e)

module _ (used : List (List ℕ)) (ts : List Tm) (i : ℕ) (t : Tm) (l : i < length ts) (e : t ≡ get_or ts i t) where
  pub first_has_only : AllHaveOnly 0 (drop i ts) → HasOnly 0 t
  first_has_only h = let k = rw (left_at ts i t l e) at h in k.0

  pub rest_has_only : AllHaveOnly 0 (drop i ts) → AllHaveOnly 0 (drop (i + 1) ts)
  rest_has_only h = let k = rw (left_at ts i t l e) at h in k.1

  pub one_more : (old new whole : List ℕ) → old ++ later_hypotheses used (drop i ts) ≡ whole → new ≡ old ++ (codes ", " ++ text_among used t) → new ++ later_hypotheses used (drop (i + 1) ts) ≡ whole
  one_more old new whole h f =
      let rest = later_hypotheses used (drop (i + 1) ts) in
      let next = codes ", " ++ text_among used t in
      let k = rw (left_at ts i t l e) at h in
      rw f (append_assoc old next rest ∙ ap (λ x. old ++ x) (append_assoc (codes ", ") (text_among used t) rest) ∙ k)
