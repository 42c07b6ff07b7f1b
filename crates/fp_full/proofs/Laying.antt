-- Tokens that a state takes are read from the bytes that they lie in.
use Rattle.std.proofs.Common.{◌≡◌, ◌∙◌, ◌+◌, ◌-◌, ℕ, suc, List, [], ◌∷◌, ◌++◌, length, true, false, ◌==◌, Some, refl, sym, ap, append_assoc, append-nil, length-append, arith, eqb-true, true≢false}
use Rattle.std.specs.List.{list_all}
use Rattle.std.specs.Option.{option_and_then}
use Rattle.std.proofs.lemmas.Bool.{false_from_ne_true}
use Rattle.fp_term.specs.Names.{is_part_byte}
use Rattle.fp_term.proofs.Choices.{followed}
use Rattle.fp_full.specs.Tokens.{Token, left, right, equals, brace_left, brace_right, word, spelled, is_space, Placed, begins_part, Ends, Layout, ended, spaced, begun}
use Rattle.fp_full.specs.Texts.{Parsed}
use Rattle.fp_full.specs.Machine.{State, step, finish, could, between, in_word, mark_of, from_between, next_phase, ended_at, reads_from}
use Rattle.fp_full.proofs.Steps.{finishes, laid_out, IsWord}
use Rattle.fp_full.proofs.Tests.{both, or_by}
use Rattle.fp_full.proofs.Words.{fronted, worded}
use Rattle.fp_full.proofs.Lexing.{stay, reads_step}

-- no byte is a space and a part of a word
pub space_apart : (b : ℕ) → is_space b ≡ true → is_part_byte b ≡ false
space_apart b e =
    or_by _ (b == 13) (is_part_byte b ≡ false) e
    (λ e. or_by _ (b == 10) (is_part_byte b ≡ false) e (λ e. or_by (b == 32) (b == 9) (is_part_byte b ≡ false) e (λ e. rw (eqb-true b 32 e) refl) (λ e. rw (eqb-true b 9 e) refl)) (λ e. rw (eqb-true b 10 e) refl))
    (λ e. rw (eqb-true b 13 e) refl)

pub part_apart : (b : ℕ) → is_part_byte b ≡ true → is_space b ≡ false
part_apart b e = false_from_ne_true (is_space b) (λ f. true≢false (sym e ∙ space_apart b f))

-- a space is passed over
skips : (at : ℕ) (s : State) (b : ℕ) (bytes : List ℕ) → is_space b ≡ true → reads_from at (between s) (b ∷ bytes) ≡ reads_from (suc at) (between s) bytes
unfolding next_phase from_between
skips at s b bytes e = reads_step at (between s) b bytes ∙ rw e refl

-- a mark is taken
takes_mark : (at : ℕ) (s next : State) (token : Token) (b : ℕ) (bytes : List ℕ) → is_space b ≡ false → is_part_byte b ≡ false → mark_of b ≡ Some token → step s token at ≡ Some next →
    reads_from at (between s) (b ∷ bytes) ≡ reads_from (at + 1) (between next) bytes
unfolding next_phase from_between
takes_mark at s next token b bytes e f m n =
    let place : suc at ≡ at + 1 = omega arith in
    reads_step at (between s) b bytes ∙ rw (e, f, m) (rw n (ap (λ k. reads_from k (between next) bytes) place))

-- a word ends where no part of one follows
closes : (rest : List ℕ) (w : List ℕ) (s next : State) (at : ℕ) → begins_part rest ≡ false → step s (word w) (at - length w) ≡ Some next → reads_from at (in_word w s) rest ≡ reads_from at (between next) rest
unfolding next_phase ended_at
closes [] w s next at f e = ap (λ k. option_and_then finish (step s (word w) (k - length w))) (sym (stay at)) ∙ rw e refl
closes (b ∷ bs) w s next at f e = reads_step at (in_word w s) b bs ∙ rw (f, e) (sym (reads_step at (between next) b bs))

-- a word goes on as far as it can
pub goes_on : (further w rest : List ℕ) (b at : ℕ) (s next : State) → list_all is_part_byte further ≡ true → begins_part rest ≡ false → step s (word ((b ∷ w) ++ further)) at ≡ Some next →
    reads_from (at + length (b ∷ w)) (in_word (b ∷ w) s) (further ++ rest) ≡ reads_from (at + length ((b ∷ w) ++ further)) (between next) rest
unfolding next_phase
goes_on [] w rest b at s next p f e =
    let place : (at + length (b ∷ w)) - length (b ∷ w) ≡ at = omega arith in
    let taken : step s (word (b ∷ w)) ((at + length (b ∷ w)) - length (b ∷ w)) ≡ Some next = rw place (rw append-nil at e) in
    closes rest (b ∷ w) s next (at + length (b ∷ w)) f taken ∙ ap (λ x. reads_from (at + length (b ∷ x)) (between next) rest) (sym (append-nil w))
goes_on (c ∷ further) w rest b at s next p f e =
    let parts = both (is_part_byte c) (list_all is_part_byte further) p in
    let same : (w ++ c ∷ []) ++ further ≡ w ++ c ∷ further = append_assoc w (c ∷ []) further in
    let taken : step s (word ((b ∷ (w ++ c ∷ [])) ++ further)) at ≡ Some next = ap (λ x. step s (word (b ∷ x)) at) same ∙ e in
    let front : could s (b ∷ (w ++ c ∷ [])) ≡ true = fronted s b (w ++ c ∷ []) further at next taken in
    let place : suc (at + length (b ∷ w)) ≡ at + length (b ∷ (w ++ c ∷ [])) = omega (arith, length-append w (c ∷ [])) in
    reads_step (at + length (b ∷ w)) (in_word (b ∷ w) s) c (further ++ rest)
    ∙ rw (parts.0, front) (ap (λ k. reads_from k (in_word (b ∷ (w ++ c ∷ [])) s) (further ++ rest)) place)
    ∙ goes_on further (w ++ c ∷ []) rest b at s next parts.1 f taken ∙ ap (λ x. reads_from (at + length (b ∷ x)) (between next) rest) same

-- a word is taken
takes_word : (w rest : List ℕ) (at : ℕ) (s next : State) → IsWord w → begins_part rest ≡ false → step s (word w) at ≡ Some next → reads_from at (between s) (w ++ rest) ≡ reads_from (at + length w) (between next) rest
unfolding next_phase from_between
takes_word [] rest at s next p f e = absurd p
takes_word (b ∷ w) rest at s next p f e =
    let parts = both (is_part_byte b) (list_all is_part_byte w) p in
    let front : could s (b ∷ []) ≡ true = fronted s b [] w at next e in
    let place : suc at ≡ at + 1 = omega arith in
    reads_step at (between s) b (w ++ rest) ∙ rw (part_apart b parts.0, parts.0, front) (ap (λ k. reads_from k (in_word (b ∷ []) s) (w ++ rest)) place)
    ∙ goes_on w [] rest b at s next parts.1 f e

-- a token is taken
takes : (token : Token) (rest : List ℕ) (at : ℕ) (s next : State) → Ends token rest → step s token at ≡ Some next → reads_from at (between s) (spelled token ++ rest) ≡ reads_from (at + length (spelled token)) (between next) rest
takes left rest at s next f e = takes_mark at s next left 40 rest refl refl refl e
takes right rest at s next f e = takes_mark at s next right 41 rest refl refl refl e
takes equals rest at s next f e = takes_mark at s next equals 61 rest refl refl refl e
takes brace_left rest at s next f e = takes_mark at s next brace_left 123 rest refl refl refl e
takes brace_right rest at s next f e = takes_mark at s next brace_right 125 rest refl refl refl e
takes (word w) rest at s next f e = takes_word w rest at s next (worded s w at next e) f e

-- tokens that the state takes are read from the bytes that they lie in
pub reads_laid : {at : ℕ} {tokens : List Placed} {bytes : List ℕ} → Layout at tokens bytes → (s : State) (p : Parsed) → finishes s tokens ≡ Some p → reads_from at (between s) bytes ≡ Some p
unfolding ended_at
reads_laid ended s p e = e
reads_laid (spaced {at = at} {bytes = bytes} b f l) s p e = skips at s b bytes f ∙ reads_laid l s p e
reads_laid (begun {at = at} {tokens = tokens} {bytes = bytes} token rest split ends l) s p e =
    followed (step s token at) (λ next. finishes next tokens) p (reads_from at (between s) bytes ≡ Some p)
    (λ next n g. ap (λ x. reads_from at (between s) x) split ∙ takes token rest at s next ends n ∙ reads_laid l next p g) e

-- the bytes of tokens, with a space before each
abbrev pub laid_bytes : List Token → List ℕ
laid_bytes [] = []
laid_bytes (t ∷ ts) = 32 ∷ (spelled t ++ laid_bytes ts)

-- they begin with no part of a word
pub begins_apart : (ts : List Token) → begins_part (laid_bytes ts) ≡ false
begins_apart [] = refl
begins_apart (t ∷ ts) = refl

any_ends : (t : Token) (rest : List ℕ) → begins_part rest ≡ false → Ends t rest
any_ends (word w) rest e = e
any_ends left rest e = tt
any_ends right rest e = tt
any_ends equals rest e = tt
any_ends brace_left rest e = tt
any_ends brace_right rest e = tt

pub layout : (ts : List Token) (at : ℕ) → Layout at (laid_out at ts) (laid_bytes ts)
layout [] at = ended
layout (t ∷ ts) at = spaced 32 refl (begun t (laid_bytes ts) refl (any_ends t (laid_bytes ts) (begins_apart ts)) (layout ts (suc at + length (spelled t))))
