-- Tokens, and bytes that are tokens with spaces before, between and after them.
use Rattle.std.specs.Prelude.{◌≡◌, ℕ, suc, ◌+◌, Bool, true, false, ◌||◌, ◌==◌, List, [], ◌∷◌, ◌++◌, length, map}
use Rattle.fp_term.specs.Names.{is_part_byte}

-- a space, a tab, a newline or a carriage return
abbrev pub is_space : ℕ → Bool
is_space b = b == 32 || b == 9 || b == 10 || b == 13

-- a parenthesis, the sign `=`, a brace, or a word
pub data Token : Type 0 where
  left : Token
  right : Token
  equals : Token
  brace_left : Token
  brace_right : Token
  word : List ℕ → Token

abbrev pub spelled : Token → List ℕ
spelled left = 40 ∷ []
spelled right = 41 ∷ []
spelled equals = 61 ∷ []
spelled brace_left = 123 ∷ []
spelled brace_right = 125 ∷ []
spelled (word w) = w

-- a token with the place of its first byte
pub record Placed : Type 0 where
  pub token : Token
  pub at : ℕ

abbrev pub tokens_of : List Placed → List Token
tokens_of placed = map (λ p. p.token) placed

abbrev pub begins_part : List ℕ → Bool
begins_part [] = false
begins_part (b ∷ bs) = is_part_byte b

-- a word is as long as it can be: no letter, digit, `_` or `'` follows it
abbrev pub Ends : Token → List ℕ → Type 0
Ends (word w) rest = begins_part rest ≡ false
Ends _ rest = Unit {0}

-- `Layout at tokens bytes`: the bytes, of which the first stands at that place, are these tokens at their places, with spaces
pub data Layout : ℕ → List Placed → List ℕ → Type 0 where
  ended : {at : ℕ} → Layout at [] []
  spaced : {at : ℕ} {tokens : List Placed} {bytes : List ℕ} (b : ℕ) → is_space b ≡ true → Layout (suc at) tokens bytes → Layout at tokens (b ∷ bytes)
  begun : {at : ℕ} {tokens : List Placed} {bytes : List ℕ} (token : Token) (rest : List ℕ) →
      bytes ≡ spelled token ++ rest → Ends token rest → Layout (at + length (spelled token)) tokens rest →
      Layout at (record { token = token; at = at } ∷ tokens) bytes
