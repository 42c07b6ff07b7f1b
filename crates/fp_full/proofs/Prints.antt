-- What is printed is a text.
use Rattle.std.proofs.Common.{◌≡◌, ℕ, suc, ◌+◌, List, [], ◌∷◌, ◌++◌, length, false, refl, ap, codes, append_assoc, append-nil}
use Rattle.std.specs.Fmt.{decimal}
use Rattle.fp_term.specs.Types.{Typ, variable, applied, Typs, none, more}
use Rattle.fp_term.specs.Terms.{Tm, bound, free, constant, app, abs}
use Rattle.fp_full.specs.Tokens.{Token, left, right, word, spelled, Placed, tokens_of, begins_part, Ends, Layout, ended, spaced, begun}
use Rattle.fp_full.specs.Grammar.{shown, shown_type, shown_types, shown_all, IsNamed, AreNamed}
use Rattle.fp_full.specs.Texts.{a_term, a_statement, IsText}
use Rattle.fp_full.specs.Printing.{printed, printed_type, printed_types, printed_each, printed_statement}

-- from that place on the bytes are these tokens
record Laid (at : ℕ) (tokens : List Token) (bytes : List ℕ) : Type 0 where
  placed : List Placed
  is : tokens_of placed ≡ tokens
  layout : Layout at placed bytes

-- wherever the bytes stand, they are these tokens
abbrev Lays : List Token → List ℕ → Type 0
Lays tokens bytes = (at : ℕ) → Laid at tokens bytes

lays_nothing : Lays [] []
lays_nothing at = record { placed = []; is = refl; layout = ended }

lays_space : (tokens : List Token) (bytes : List ℕ) → Lays tokens bytes → Lays tokens (32 ∷ bytes)
lays_space tokens bytes l at = let inner = l (suc at) in record { placed = inner.placed; is = inner.is; layout = spaced 32 refl inner.layout }

lays_token : (token : Token) (tokens : List Token) (rest : List ℕ) → Ends token rest → Lays tokens rest → Lays (token ∷ tokens) (spelled token ++ rest)
lays_token token tokens rest ends l at =
    let inner = l (at + length (spelled token)) in
    record {
      placed = record { token = token; at = at } ∷ inner.placed;
      is = ap (λ ts. token ∷ ts) inner.is;
      layout = begun token rest refl ends inner.layout;
    }

lays_left : (tokens : List Token) (rest : List ℕ) → Lays tokens rest → Lays (left ∷ tokens) (40 ∷ rest)
lays_left tokens rest l = lays_token left tokens rest tt l

lays_right : (tokens : List Token) (rest : List ℕ) → Lays tokens rest → Lays (right ∷ tokens) (41 ∷ rest)
lays_right tokens rest l = lays_token right tokens rest tt l

-- a form's letter after its parenthesis, and a space
lays_form : (letter : ℕ) (tokens : List Token) (rest : List ℕ) → Lays tokens rest → Lays (left ∷ word (letter ∷ []) ∷ tokens) (40 ∷ letter ∷ 32 ∷ rest)
lays_form letter tokens rest l =
    lays_left (word (letter ∷ []) ∷ tokens) (letter ∷ 32 ∷ rest) (lays_token (word (letter ∷ [])) tokens (32 ∷ rest) refl (lays_space tokens rest l))

-- no part of a name comes after a name
after_name : (us : Typs) (rest : List ℕ) → begins_part rest ≡ false → begins_part (printed_types us ++ rest) ≡ false
after_name none rest e = e
after_name (more u us) rest e = refl

mutual
  lays_type : (t : Typ) (tokens : List Token) (rest : List ℕ) → begins_part rest ≡ false → Lays tokens rest → Lays (shown_type t tokens) (printed_type t ++ rest)
  lays_type (variable n) tokens rest e l = lays_token (word (39 ∷ n)) tokens rest e l
  lays_type (applied n us) tokens rest e l =
      let inner = lays_types us (right ∷ tokens) (41 ∷ rest) refl (lays_right tokens rest l) in
      let named = lays_token (word n) (shown_types us (right ∷ tokens)) (printed_types us ++ 41 ∷ rest) (after_name us (41 ∷ rest) refl) inner in
      rw (append_assoc n (printed_types us ++ 41 ∷ []) rest, append_assoc (printed_types us) (41 ∷ []) rest) (lays_left _ _ named)

  lays_types : (us : Typs) (tokens : List Token) (rest : List ℕ) → begins_part rest ≡ false → Lays tokens rest → Lays (shown_types us tokens) (printed_types us ++ rest)
  lays_types none tokens rest e l = l
  lays_types (more u us) tokens rest e l =
      let inner = lays_type u (shown_types us tokens) (printed_types us ++ rest) (after_name us rest e) (lays_types us tokens rest e l) in
      rw (append_assoc (printed_type u) (printed_types us) rest) (lays_space _ _ inner)

-- a name, its type and the closing parenthesis
lays_typed : (n : List ℕ) (s : Typ) (tokens : List Token) (rest : List ℕ) → Lays tokens rest →
    Lays (word n ∷ shown_type s (right ∷ tokens)) ((n ++ 32 ∷ (printed_type s ++ 41 ∷ [])) ++ rest)
lays_typed n s tokens rest l =
    let inner = lays_space _ _ (lays_type s (right ∷ tokens) (41 ∷ rest) refl (lays_right tokens rest l)) in
    let named = lays_token (word n) (shown_type s (right ∷ tokens)) (32 ∷ (printed_type s ++ 41 ∷ rest)) refl inner in
    rw (append_assoc n (32 ∷ (printed_type s ++ 41 ∷ [])) rest, append_assoc (printed_type s) (41 ∷ []) rest) named

lays : (t : Tm) (tokens : List Token) (rest : List ℕ) → Lays tokens rest → Lays (shown t tokens) (printed t ++ rest)
lays (bound n) tokens rest l =
    let inner = lays_token (word (decimal n)) (right ∷ tokens) (41 ∷ rest) refl (lays_right tokens rest l) in
    rw (append_assoc (decimal n) (41 ∷ []) rest) (lays_form 98 _ _ inner)
lays (free n s) tokens rest l = lays_form 118 _ _ (lays_typed n s tokens rest l)
lays (constant n s) tokens rest l = lays_form 99 _ _ (lays_typed n s tokens rest l)
lays (app f x) tokens rest l =
    let last = lays_space _ _ (lays x (right ∷ tokens) (41 ∷ rest) (lays_right tokens rest l)) in
    let inner = lays f (shown x (right ∷ tokens)) (32 ∷ (printed x ++ 41 ∷ rest)) last in
    rw (append_assoc (printed f) (32 ∷ (printed x ++ 41 ∷ [])) rest, append_assoc (printed x) (41 ∷ []) rest) (lays_form 97 _ _ inner)
lays (abs s x) tokens rest l =
    let last = lays_space _ _ (lays x (right ∷ tokens) (41 ∷ rest) (lays_right tokens rest l)) in
    let inner = lays_type s (shown x (right ∷ tokens)) (32 ∷ (printed x ++ 41 ∷ rest)) refl last in
    rw (append_assoc (printed_type s) (32 ∷ (printed x ++ 41 ∷ [])) rest, append_assoc (printed x) (41 ∷ []) rest) (lays_form 108 _ _ inner)

lays_each : (us : List Tm) (tokens : List Token) (rest : List ℕ) → Lays tokens rest → Lays (shown_all us tokens) (printed_each us ++ rest)
lays_each [] tokens rest l = l
lays_each (u ∷ us) tokens rest l =
    let inner = lays u (shown_all us tokens) (printed_each us ++ rest) (lays_each us tokens rest l) in
    rw (append_assoc (printed u) (printed_each us) rest) (lays_space _ _ inner)

-- a parenthesis or a space comes after the letter of the hypotheses
after_letter : (us : List Tm) (rest : List ℕ) → begins_part rest ≡ false → begins_part (printed_each us ++ rest) ≡ false
after_letter [] rest e = e
after_letter (u ∷ us) rest e = refl

pub printed_term_text : (t : Tm) → IsNamed t → IsText (printed t) (a_term t)
printed_term_text t named =
    let l = lays t [] [] lays_nothing 0 in
    record { well = named; tokens = l.placed; spells = l.is; laid = rw append-nil at l.layout }

pub printed_statement_text : (hyps : List Tm) (t : Tm) → AreNamed hyps → IsNamed t → IsText (printed_statement hyps t) (a_statement hyps t)
printed_statement_text hyps t all named =
    let concl = lays_space _ _ (lays t (right ∷ []) (41 ∷ []) (lays_right [] [] lays_nothing)) in
    let rest = lays_right _ _ concl in
    let each = lays_each hyps _ _ rest in
    let letter = lays_token (word (codes "h")) _ _ (after_letter hyps _ refl) each in
    let l = lays_form 115 _ _ (lays_left _ _ letter) 0 in
    record { well = (all, named); tokens = l.placed; spells = l.is; laid = l.layout }
