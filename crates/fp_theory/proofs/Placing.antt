-- Where names stand among the named theorems.
use Rattle.std.proofs.Common.{◌≡◌, ◌∙◌, ℕ, zero, suc, ◌+◌, ◌<◌, ◌≤◌, ◌-◌, List, [], ◌∷◌, ◌++◌, length, take, refl, sym, ap, subst, arith, length-append}
use Rattle.std.specs.Prelude.{Some, None, map, slice_index_or}
use Rattle.std.specs.Str.{bytes_eq}
use Rattle.std.proofs.lemmas.Option.{none-some, same_Some}
use Rattle.std.proofs.lemmas.List.{append_assoc, append-nil}
use Rattle.fp_term.specs.Arities.{arity_of}
use Rattle.fp_term.proofs.Choices.{chosen}
use Rattle.fp_kernel.specs.Theorems.{Theorem}
use Rattle.fp_theory.specs.State.{found_theorem}
use Rattle.fp_theory.specs.Places.{seen_entry, placed, ArePlaced}
use Rattle.fp_theory.specs.declared.named.Entry.{Entry}

-- one more place
step : (places before : List (List ℕ × ℕ)) (name : List ℕ) (ms : List (List ℕ × Theorem)) → places ≡ before ++ (name, length before) ∷ [] →
    places ++ placed (length places) ms ≡ before ++ (name, length before) ∷ placed (length before + 1) ms
step places before name ms e =
    rw (e, length-append before ((name, length before) ∷ [])) (append_assoc before ((name, length before) ∷ []) (placed (length before + 1) ms))

-- the last entry has the places of all
pub last_placed : (before : List (List ℕ × ℕ)) (init : List Entry) (e : Entry) → ArePlaced before (init ++ e ∷ []) →
    e.places ≡ before ++ placed (length before) (map seen_entry (init ++ e ∷ []))
last_placed before [] e h = h.0
last_placed before (x ∷ init) e h = last_placed x.places init e h.1 ∙ step x.places before x.name (map seen_entry (init ++ e ∷ [])) h.0

-- the list with one at the end
and_last : List (List ℕ × ℕ) → List ℕ → List (List ℕ × ℕ)
and_last places name = places ++ (name, length places) ∷ []

pub placed_pushed : (before : List (List ℕ × ℕ)) (es : List Entry) (e : Entry) → ArePlaced before es →
    e.places ≡ (before ++ placed (length before) (map seen_entry es)) ++ (e.name, length (before ++ placed (length before) (map seen_entry es))) ∷ [] →
    ArePlaced before (es ++ e ∷ [])
placed_pushed before [] e h k = (k ∙ ap (λ l. l ++ (e.name, length l) ∷ []) (append-nil before), tt)
placed_pushed before (x ∷ es) e h k =
    (h.0, placed_pushed x.places es e h.1 (k ∙ ap (λ l. l ++ (e.name, length l) ∷ []) (sym (step x.places before x.name (map seen_entry es) h.0))))

pub placed_cut : (before : List (List ℕ × ℕ)) (n : ℕ) (es : List Entry) → ArePlaced before es → ArePlaced before (take n es)
placed_cut before zero es h = tt
placed_cut before (suc n) [] h = tt
placed_cut before (suc n) (e ∷ es) h = (h.0, placed_cut e.places n es h.1)

-- the entry at a place
pub record IsFoundAt (name : List ℕ) (at place : ℕ) (es : List Entry) : Type 0 where
  pub below : place < at + length es
  pub from : at ≤ place
  pub found : (d : Entry) → found_theorem name (map seen_entry es) ≡ Some (slice_index_or es (place - at) d).theorem

pub found_placed : (name : List ℕ) (at place : ℕ) (es : List Entry) → arity_of name (placed at (map seen_entry es)) ≡ Some place → IsFoundAt name at place es
found_placed name at place [] e = absurd (none-some place e)
found_placed name at place (x ∷ es) e =
    chosen (bytes_eq x.name name) _ _ _ (IsFoundAt name at place (x ∷ es))
    (λ is f. let same : at ≡ place = same_Some at place f in
    record { below = omega arith; from = omega arith; found = λ d. let here : place - at ≡ 0 = omega arith in rw (is, here) refl })
    (λ no f. let r = found_placed name (at + 1) place es f in
    let low = r.from in
    let high = r.below in
    record {
      below = omega arith;
      from = omega arith;
      found = λ d. let next : place - at ≡ suc (place - (at + 1)) = omega arith in rw (no, next) (r.found d);
    }) e

pub none_placed : (name : List ℕ) (at : ℕ) (ms : List (List ℕ × Theorem)) → arity_of name (placed at ms) ≡ None → found_theorem name ms ≡ None
none_placed name at [] e = refl
none_placed name at (m ∷ ms) e =
    chosen (bytes_eq m.0 name) _ _ _ (found_theorem name (m ∷ ms) ≡ None) (λ _ f. absurd (none-some at (sym f))) (λ no f. rw no (none_placed name (at + 1) ms f)) e

-- by the places of the last entry
pub found_by_last : (es init : List Entry) (e : Entry) (name : List ℕ) (place : ℕ) → es ≡ init ++ e ∷ [] → ArePlaced [] es → arity_of name e.places ≡ Some place → IsFoundAt name 0 place es
found_by_last es init e name place same h k =
    let all_placed : ArePlaced [] (init ++ e ∷ []) = subst (ArePlaced []) same h in
    let all = ap (arity_of name) (last_placed [] init e all_placed) in
    subst (IsFoundAt name 0 place) (sym same) (found_placed name 0 place (init ++ e ∷ []) (sym all ∙ k))

pub none_by_last : (es init : List Entry) (e : Entry) (name : List ℕ) → es ≡ init ++ e ∷ [] → ArePlaced [] es → arity_of name e.places ≡ None → found_theorem name (map seen_entry es) ≡ None
none_by_last es init e name same h k =
    let all_placed : ArePlaced [] (init ++ e ∷ []) = subst (ArePlaced []) same h in
    let all = ap (arity_of name) (last_placed [] init e all_placed) in
    none_placed name 0 (map seen_entry es) (ap (λ l. arity_of name (placed 0 (map seen_entry l))) same ∙ sym all ∙ k)

pub places_by_last : (es init : List Entry) (e : Entry) → es ≡ init ++ e ∷ [] → ArePlaced [] es → e.places ≡ placed 0 (map seen_entry es)
places_by_last es init e same h = last_placed [] init e (subst (ArePlaced []) same h) ∙ ap (λ l. placed 0 (map seen_entry l)) (sym same)
