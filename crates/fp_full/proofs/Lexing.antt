-- Runs over bytes, and how what is read lies in the bytes as tokens.
use Rattle.std.proofs.Common.{◌≡◌, ◌∙◌, ◌+◌, ◌-◌, ◌<◌, ℕ, suc, List, [], ◌∷◌, ◌++◌, length, take, get_or, Bool, true, false, cond, ◌==◌, Option, Some, None, IfSome, refl, sym, ap, subst, append_assoc, append-nil, length-append, arith, eqb-true}
use Rattle.std.specs.Option.{option_and_then}
use Rattle.std.proofs.lemmas.Option.{IfSome_then, none-some}
use Rattle.std.proofs.lemmas.List.{take_more, length-take-le}
use Rattle.fp_term.specs.Names.{is_part_byte}
use Rattle.fp_full.specs.Tokens.{Token, word, spelled, is_space, Placed, begins_part, Ends, Layout, ended, spaced, begun}
use Rattle.fp_full.specs.Texts.{Parsed}
use Rattle.fp_full.specs.Machine.{State, step, could, Phase, between, in_word, mark_of, waiting, in_longer, from_between, next_phase, run, ended_at, reads_from}
use Rattle.fp_full.proofs.Steps.{finishes}

-- what follows in each branch of a choice
pub if_cond : {A : Type 0} (c : Bool) (x y : Option A) (P : A → Type 0) → (c ≡ true → IfSome x P) → (c ≡ false → IfSome y P) → IfSome (cond c x y) P
if_cond true x y P f g = f refl
if_cond false x y P f g = g refl

-- one place on, with one byte less left
pub along : (at n : ℕ) → suc at + n ≡ at + suc n
along at n = omega arith

-- no bytes leave the place as it is
pub stay : (at : ℕ) → at ≡ at + 0
stay at = omega arith

-- a run over bytes and further ones
pub run_append : (at : ℕ) (s : Phase) (xs ys : List ℕ) → run at s (xs ++ ys) ≡ option_and_then (λ n. run (at + length xs) n ys) (run at s xs)
run_append at s [] ys = ap (λ k. run k s ys) (stay at)
run_append at s (b ∷ bs) ys =
    elim (next_phase s b at) as (λ o. option_and_then (λ next. run (suc at) next (bs ++ ys)) o ≡ option_and_then (λ n. run (at + suc (length bs)) n ys) (option_and_then (λ next. run (suc at) next bs) o)) [
      | None ↦ refl
      | Some next ↦ run_append (suc at) next bs ys ∙ ap (λ k. option_and_then (λ n. run k n ys) (run (suc at) next bs)) (along at (length bs))
    ]

one_step : (o : Option Phase) → option_and_then (λ next. Some next) o ≡ o
one_step None = refl
one_step (Some s) = refl

-- a run over one more byte
pub run_more : (s m : Phase) (bytes : List ℕ) (i b : ℕ) (o : Option Phase) → run 0 s (take i bytes) ≡ Some m → i < length bytes → get_or bytes i 0 ≡ b → next_phase m b i ≡ o → run 0 s (take (i + 1) bytes) ≡ o
run_more s m bytes i b o r l e n =
    let place : 0 + length (take i bytes) ≡ i = omega (arith, length-take-le i bytes (omega arith)) in
    rw (take_more bytes i 0 l, e) (run_append 0 s (take i bytes) (b ∷ []) ∙ ap (λ p. option_and_then (λ next. run (0 + length (take i bytes)) next (b ∷ [])) p) r
    ∙ ap (λ k. run k m (b ∷ [])) place ∙ one_step (next_phase m b i) ∙ n)

-- what is read byte by byte
pub reads_step : (at : ℕ) (s : Phase) (b : ℕ) (bs : List ℕ) → reads_from at s (b ∷ bs) ≡ option_and_then (λ next. reads_from (suc at) next bs) (next_phase s b at)
reads_step at s b bs =
    elim (next_phase s b at) as (λ o. option_and_then (λ last. ended_at last (at + suc (length bs))) (option_and_then (λ next. run (suc at) next bs) o) ≡ option_and_then (λ next. reads_from (suc at) next bs) o) [
      | None ↦ refl
      | Some next ↦ ap (λ k. option_and_then (λ last. ended_at last k) (run (suc at) next bs)) (sym (along at (length bs)))
    ]

-- what is read of bytes and further ones
pub reads_append : (at : ℕ) (s : Phase) (xs ys : List ℕ) → reads_from at s (xs ++ ys) ≡ option_and_then (λ n. reads_from (at + length xs) n ys) (run at s xs)
reads_append at s [] ys = ap (λ k. reads_from k s ys) (stay at)
reads_append at s (b ∷ bs) ys =
    reads_step at s b (bs ++ ys)
    ∙ elim (next_phase s b at) as (λ o. option_and_then (λ next. reads_from (suc at) next (bs ++ ys)) o ≡ option_and_then (λ n. reads_from (at + suc (length bs)) n ys) (option_and_then (λ next. run (suc at) next bs) o)) [
      | None ↦ refl
      | Some next ↦ reads_append (suc at) next bs ys ∙ ap (λ k. option_and_then (λ n. reads_from k n ys) (run (suc at) next bs)) (along at (length bs))
    ]

-- the bytes are tokens that the state takes
pub record Laid (at : ℕ) (s : State) (bytes : List ℕ) (p : Parsed) : Type 0 where
  pub tokens : List Placed
  pub laid : Layout at tokens bytes
  pub taken : finishes s tokens ≡ Some p

-- the bytes are the rest of the word w, and then tokens
record Going (at : ℕ) (w : List ℕ) (s : State) (bytes : List ℕ) (p : Parsed) : Type 0 where
  further : List ℕ
  rest : List ℕ
  tokens : List Placed
  split : bytes ≡ further ++ rest
  ends : begins_part rest ≡ false
  laid : Layout (at + length further) tokens rest
  taken : finishes s (record { token = word (w ++ further); at = at - length w } ∷ tokens) ≡ Some p

abbrev Lies : ℕ → Phase → List ℕ → Parsed → Type 0
Lies at (between s) bytes p = Laid at s bytes p
Lies at (in_word w s) bytes p = Going at w s bytes p

-- back over one byte
abbrev Back : ℕ → List ℕ → Parsed → Type 0 → Phase → Type 0
Back at bs p Whole q = Lies (suc at) q bs p → Whole

-- a mark is spelled by its byte, and any bytes may follow it
abbrev IsMark : ℕ → Token → Type 0
IsMark b token = (b ∷ [] ≡ spelled token) × ((rest : List ℕ) → Ends token rest)

marked : (b : ℕ) → IfSome (mark_of b) (IsMark b)
marked b =
    if_cond (b == 40) _ _ (IsMark b) (λ e. (ap (λ x. x ∷ []) (eqb-true b 40 e), λ rest. tt)) (λ _. if_cond (b == 41) _ _ (IsMark b) (λ e. (ap (λ x. x ∷ []) (eqb-true b 41 e), λ rest. tt))
    (λ _. if_cond (b == 61) _ _ (IsMark b) (λ e. (ap (λ x. x ∷ []) (eqb-true b 61 e), λ rest. tt)) (λ _. if_cond (b == 123) _ _ (IsMark b) (λ e. (ap (λ x. x ∷ []) (eqb-true b 123 e), λ rest. tt))
    (λ _. if_cond (b == 125) _ None (IsMark b) (λ e. (ap (λ x. x ∷ []) (eqb-true b 125 e), λ rest. tt)) (λ _. tt)))))

back_token : (o : Option State) (s : State) (token : Token) (b at : ℕ) (bs : List ℕ) (p : Parsed) → IsMark b token → step s token at ≡ o → IfSome (waiting o) (Back at bs p (Laid at s (b ∷ bs) p))
back_token None s token b at bs p m e = tt
back_token (Some next) s token b at bs p m e = λ r.
    let place : suc at ≡ at + length (spelled token) = omega (arith, ap length m.0) in
    record {
      tokens = record { token = token; at = at } ∷ r.tokens;
      laid = begun token bs (ap (λ x. x ++ bs) m.0) (m.1 bs) (subst (λ k. Layout k r.tokens bs) place r.laid);
      taken = rw e r.taken;
    }

back_mark : (o : Option Token) (s : State) (b at : ℕ) (bs : List ℕ) (p : Parsed) → IfSome o (IsMark b) → IfSome (option_and_then (λ token. waiting (step s token at)) o) (Back at bs p (Laid at s (b ∷ bs) p))
back_mark None s b at bs p m = tt
back_mark (Some token) s b at bs p m = back_token (step s token at) s token b at bs p m refl

back_first : (s : State) (b at : ℕ) (bs : List ℕ) (p : Parsed) → IfSome (in_longer (b ∷ []) s) (Back at bs p (Laid at s (b ∷ bs) p))
back_first s b at bs p =
    if_cond (could s (b ∷ [])) (Some (in_word (b ∷ []) s)) None (Back at bs p (Laid at s (b ∷ bs) p)) (λ _ r.
    let place : suc at - 1 ≡ at = omega arith in
    record {
      tokens = record { token = word (b ∷ r.further); at = at } ∷ r.tokens;
      laid = begun (word (b ∷ r.further)) r.rest (ap (λ x. b ∷ x) r.split) r.ends (subst (λ k. Layout k r.tokens r.rest) (along at (length r.further)) r.laid);
      taken = subst (λ k. finishes s (record { token = word (b ∷ r.further); at = k } ∷ r.tokens) ≡ Some p) place r.taken;
    }) (λ _. tt)

back_between : (s : State) (b at : ℕ) (bs : List ℕ) (p : Parsed) → IfSome (from_between s b at) (Back at bs p (Laid at s (b ∷ bs) p))
unfolding from_between
back_between s b at bs p =
    let P : Phase → Type 0 = Back at bs p (Laid at s (b ∷ bs) p) in
    if_cond (is_space b) _ _ P (λ e r. record { tokens = r.tokens; laid = spaced b e r.laid; taken = r.taken })
    (λ _. if_cond (is_part_byte b) _ _ P (λ _. back_first s b at bs p) (λ _. back_mark (mark_of b) s b at bs p (marked b)))

back_longer : (w : List ℕ) (s : State) (b at : ℕ) (bs : List ℕ) (p : Parsed) → IfSome (in_longer (w ++ b ∷ []) s) (Back at bs p (Going at w s (b ∷ bs) p))
back_longer w s b at bs p =
    if_cond (could s (w ++ b ∷ [])) (Some (in_word (w ++ b ∷ []) s)) None (Back at bs p (Going at w s (b ∷ bs) p)) (λ _ r.
    let place : suc at - length (w ++ b ∷ []) ≡ at - length w = omega (arith, length-append w (b ∷ [])) in
    record {
      further = b ∷ r.further;
      rest = r.rest;
      tokens = r.tokens;
      split = ap (λ x. b ∷ x) r.split;
      ends = r.ends;
      laid = subst (λ k. Layout k r.tokens r.rest) (along at (length r.further)) r.laid;
      taken = subst (λ x. finishes s (record { token = word x; at = at - length w } ∷ r.tokens) ≡ Some p) (append_assoc w (b ∷ []) r.further)
          (subst (λ k. finishes s (record { token = word ((w ++ b ∷ []) ++ r.further); at = k } ∷ r.tokens) ≡ Some p) place r.taken);
    }) (λ _. tt)

-- at a byte that ends the word
back_after : (o : Option State) (w : List ℕ) (s : State) (b at : ℕ) (bs : List ℕ) (p : Parsed) → is_part_byte b ≡ false → step s (word w) (at - length w) ≡ o →
    IfSome (option_and_then (λ next. from_between next b at) o) (Back at bs p (Going at w s (b ∷ bs) p))
back_after None w s b at bs p f e = tt
back_after (Some next) w s b at bs p f e = IfSome_then (from_between next b at) (back_between next b at bs p) (λ q back r.
    let l : Laid at next (b ∷ bs) p = back r in
    record { further = []; rest = b ∷ bs; tokens = l.tokens; split = refl; ends = f; laid = subst (λ k. Layout k l.tokens (b ∷ bs)) (stay at) l.laid; taken = rw (append-nil w, e) l.taken })

back : (q : Phase) (b at : ℕ) (bs : List ℕ) (p : Parsed) → IfSome (next_phase q b at) (Back at bs p (Lies at q (b ∷ bs) p))
unfolding next_phase
back (between s) b at bs p = back_between s b at bs p
back (in_word w s) b at bs p =
    if_cond (is_part_byte b) _ _ (Back at bs p (Going at w s (b ∷ bs) p)) (λ _. back_longer w s b at bs p) (λ f. back_after (step s (word w) (at - length w)) w s b at bs p f refl)

-- where the bytes end
back_end : (q : Phase) (at : ℕ) (p : Parsed) → ended_at q at ≡ Some p → Lies at q [] p
unfolding ended_at
back_end (between s) at p e = record { tokens = []; laid = ended; taken = e }
back_end (in_word w s) at p e = record { further = []; rest = []; tokens = []; split = refl; ends = refl; laid = ended; taken = rw append-nil e }

back_some : (o : Option Phase) (q : Phase) (b at : ℕ) (bs : List ℕ) (p : Parsed) → IfSome o (Back at bs p (Lies at q (b ∷ bs) p)) → ((next : Phase) → reads_from (suc at) next bs ≡ Some p → Lies (suc at) next bs p) →
    option_and_then (λ next. reads_from (suc at) next bs) o ≡ Some p → Lies at q (b ∷ bs) p
back_some None q b at bs p f lies e = absurd (none-some p e)
back_some (Some next) q b at bs p f lies e = f (lies next e)

lies : (bytes : List ℕ) (q : Phase) (at : ℕ) (p : Parsed) → reads_from at q bytes ≡ Some p → Lies at q bytes p
lies [] q at p e = back_end q at p (ap (λ k. ended_at q k) (stay at) ∙ e)
lies (b ∷ bs) q at p e = back_some (next_phase q b at) q b at bs p (back q b at bs p) (λ next. lies bs next (suc at) p) (sym (reads_step at q b bs) ∙ e)

-- the bytes that are read are tokens that the state takes
pub laid_from : (at : ℕ) (s : State) (bytes : List ℕ) (p : Parsed) → reads_from at (between s) bytes ≡ Some p → Laid at s bytes p
laid_from at s bytes p e = lies bytes (between s) at p e
