-- The term that passes come to is one.
use Rattle.std.proofs.Common.{◌≡◌, ◌∙◌, ℕ, ◌<◌, ◌+◌, false, List, refl, sym, ap, subst, arith}
use Rattle.fp_term.specs.Types.{Typ}
use Rattle.fp_term.specs.Terms.{Tm, free, abs, opened, closed}
use Rattle.fp_conclude.specs.Hypotheses.{occurs}
use Rattle.fp_conv.specs.Passes.{opening_name, IsFirstUnused, Passes, settled, at_redex, in_parts, in_body, NormalBy, done, again}

taken_below : (from : ℕ) (s : Typ) (body : Tm) (a b : List ℕ) (h : IsFirstUnused from s body a) (k : IsFirstUnused from s body b) → h.number < k.number → ⊥
taken_below from s body a b h k below =
    let taken = k.others h.number below h.from_on in
    let unused : occurs (opening_name h.number) s body ≡ false = rw (← h.is) h.unused in
    cc

same_number : (m n : ℕ) → (m < n → ⊥) → (n < m → ⊥) → m ≡ n
same_number m n not_below not_above = omega (arith, not_below, not_above)

-- the first unused name is one
pub one_name : {from : ℕ} {s : Typ} {body : Tm} {a b : List ℕ} → IsFirstUnused from s body a → IsFirstUnused from s body b → a ≡ b
one_name {from} {s} {body} {a} {b} h k =
    h.is ∙ ap opening_name (same_number h.number k.number (taken_below from s body a b h k) (taken_below from s body b a k h)) ∙ sym k.is

pub one_pass : {depth : ℕ} {t u v : Tm} → Passes depth t u → Passes depth t v → u ≡ v
one_pass (settled e) (settled f) = refl
one_pass (settled e) (at_redex s b x) = cc
one_pass (settled e) (in_parts f a d k) = cc
one_pass (settled e) (in_body s name f n d) = cc
one_pass (at_redex s b x) (settled f) = cc
one_pass (at_redex s b x) (at_redex _ _ _) = refl
one_pass (at_redex s b x) (in_parts f a d k) = cc
one_pass (in_parts e a d k) (settled f) = cc
one_pass (in_parts e a d k) (at_redex s b x) = cc
one_pass (in_parts e a d k) (in_parts f c g l) = rw (one_pass d g, one_pass k l) refl
one_pass (in_body s name e n d) (settled f) = cc
one_pass {depth} (in_body {body = body} s name e n d) (in_body {u = v} _ other f m k) =
    let same = one_name n m in
    let by_name = subst (λ (a : List ℕ). Passes (depth + 1) (opened 0 (free a s) body) v) (sym same) k in
    ap (λ (w : Tm). abs s (closed 0 name s w)) (one_pass d by_name) ∙ ap (λ (a : List ℕ). abs s (closed 0 a s v)) same

-- the beta-normal form is one
pub one_form : {t u v : Tm} → NormalBy t u → NormalBy t v → u ≡ v
one_form (done e) (done f) = refl
one_form (done e) (again f d k) = cc
one_form (again e d k) (done f) = cc
one_form {v = v} (again e d k) (again f g l) = let same = one_pass d g in one_form k (subst (λ (w : Tm). NormalBy w v) (sym same) l)
