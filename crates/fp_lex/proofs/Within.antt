-- The bytes of a class at the front are counted up to the brace that closes.
use Rattle.std.proofs.Common.{◌≡◌, ◌≤◌, ◌<◌, ◌+◌, ℕ, zero, suc, Bool, true, false, cond, ◌==◌, nat_lt, List, [], ◌∷◌, length, take, ◌∙◌, refl, ap, sym, arith}
use Rattle.std.proofs.lemmas.Bool.Decides.{Decides-eqb, Decides-ltb}
use Rattle.fp_lex.specs.declared.token.TokenKind.TheVariants.{Braces}
use Rattle.fp_lex.specs.Bytes.{is_allowed, is_no_brace, leading}
use Rattle.fp_lex.specs.Pieces.{token, bad, braces}

within : (p : ℕ → Bool) (n : ℕ) (bs : List ℕ) → (leading p (take n bs) < n → leading p (take n bs) ≡ leading p bs) × (n ≤ leading p (take n bs) → n ≤ leading p bs)
within p zero bs = (λ h. absurd (omega arith), λ h. omega arith)
within p (suc n) [] = (λ h. refl, λ h. h)
within p (suc n) (b ∷ bs) =
    let r = within p n bs in
    elim (p b) as (λ c. (cond c (suc (leading p (take n bs))) 0 < suc n → cond c (suc (leading p (take n bs))) 0 ≡ cond c (suc (leading p bs)) 0) × (suc n ≤ cond c (suc (leading p (take n bs))) 0 → suc n ≤ cond c (suc (leading p bs)) 0))
    [ true ↦ (λ h. ap suc (r.0 (omega arith)), λ h. omega (arith, r.1 (omega arith))) | false ↦ (λ h. refl, λ h. h) ]

more : (n m : ℕ) → n < m → nat_lt n m ≡ true
more n m h = (Decides-ltb n m).1 h

not_more_by : (n m : ℕ) (b : Bool) → nat_lt n m ≡ b → m ≤ n → b ≡ false
not_more_by n m true e h = let less : n < m = (Decides-ltb n m).0 e in absurd (omega arith)
not_more_by n m false e h = refl

apart_by : (n m : ℕ) (b : Bool) → (n == m) ≡ b → (n ≡ m → ⊥) → b ≡ false
apart_by n m true e h = absurd (h ((Decides-eqb n m).0 e))
apart_by n m false e h = refl

-- the byte that may not be there, or the token
module _ (bs : List ℕ) (inside allowed : ℕ) (inside_is : inside ≡ leading is_no_brace bs) (apart : inside ≡ length bs → ⊥) (allowed_is : allowed ≡ leading is_allowed (take inside bs)) where
  closed : (leading is_no_brace bs == length bs) ≡ false
  closed = apart_by (leading is_no_brace bs) (length bs) _ refl (λ e. apart (inside_is ∙ e))

  pub braces_bad : allowed < inside → bad (allowed + 1) ≡ braces bs
  braces_bad less =
      let few : leading is_allowed (take inside bs) < inside = omega arith in
      let same : leading is_allowed bs ≡ allowed = sym ((within is_allowed inside bs).0 few) ∙ sym allowed_is in
      let test : nat_lt (leading is_allowed bs) (leading is_no_brace bs) ≡ true = more _ _ (omega arith) in
      let is : bad (allowed + 1) ≡ bad (suc (leading is_allowed bs)) = ap bad (omega arith) in
      is ∙ sym (rw (closed, test) refl)

  pub braces_token : inside ≤ allowed → token Braces (inside + 2) ≡ braces bs
  braces_token all =
      let many : inside ≤ leading is_allowed bs = (within is_allowed inside bs).1 (omega arith) in
      let test : nat_lt (leading is_allowed bs) (leading is_no_brace bs) ≡ false = not_more_by _ _ _ refl (omega arith) in
      let is : token Braces (inside + 2) ≡ token Braces (suc (suc (leading is_no_brace bs))) = ap (token Braces) (omega arith) in
      is ∙ sym (rw (closed, test) refl)
