-- What a seat knows after a step, and that the rule holds then.
use Rattle.std.proofs.Common.{◌≡◌, ℕ, zero, suc, ◌+◌, ◌<◌, ◌≢◌, ◌⊎◌, List, [], ◌∷◌, length, set, sym, refl, ap, ◌∙◌, subst, inl, inr, ⊎_elim, arith, length-set, get_or-set_same, get_or-set_other, eqb, eq-eqb, Bool, true, false, Option, Some, None}
use mathlib.Core.Logic.{dite}
use mathlib.Core.Option.{some}
use native.Mathlib.Decide.{ℕ_discrete, dec_le}
use lib.ListN.{get_elem?, get_or}
use lib.Seq.{set-get_or}
use Rattle.atomic_table.proofs.Lists.{set_again}
use Rattle.fp_order.specs.declared.entry.Entry.{Entry}
use Rattle.fp_shown.specs.Shown.{IsShown}
use Rattle.fp_board_rule.specs.declared.plan.Plan.{Plan}
use Rattle.fp_board_rule.specs.declared.view.View.{View}
use Rattle.fp_board_rule.specs.Words.{code, entry_of, word_at, known_in, noted_in, settled_words}
use Rattle.fp_board_rule.specs.Rule.{count_of, AreVerdicts, IsWord, IsReached, Fits, Has, Kept}
use Rattle.fp_board_rule.specs.Steps.{knowing, noting, IsAlone, Grows, Sees}
use Rattle.fp_board_rule.proofs.Words.{entry_of-code, settled_at}
use Rattle.fp_board_rule.proofs.Moves.{Within, moved, same_at}

set_was : {A : Type 0} (xs : List A) (k j : ℕ) (a d c : A) → get_or (set xs k a) j d ≡ c → (get_or xs j d ≡ c) ⊎ ((j ≡ k) × (a ≡ c))
set_was [] k j a d c e = inl e
set_was (x ∷ xs) zero zero a d c e = inr (refl, e)
set_was (x ∷ xs) zero (suc j) a d c e = inl e
set_was (x ∷ xs) (suc k) zero a d c e = inl e
set_was (x ∷ xs) (suc k) (suc j) a d c e = ⊎_elim (λ p. inl p) (λ (p : (j ≡ k) × (a ≡ c)). inr (ap suc p.0, p.1)) (set_was xs k j a d c e)

pub knowing_was : (xs : List (Option Entry)) (k : ℕ) (o : Option Entry) (j : ℕ) (e : Entry) → known_in (knowing xs k o) j ≡ Some e → (known_in xs j ≡ Some e) ⊎ ((j ≡ k) × (o ≡ Some e))
knowing_was xs k None j e is = inl is
knowing_was xs k (Some a) j e is = set_was xs k j (Some a) None (Some e) is

pub knowing_here : (xs : List (Option Entry)) (k : ℕ) (o : Option Entry) (e : Entry) → k < length xs → o ≡ Some e → known_in (knowing xs k o) k ≡ Some e
knowing_here xs k None e h is = let w : None ≡ Some e = is in cc
knowing_here xs k (Some a) e h is = get_or-set_same xs k (Some a) None h ∙ is

pub length-knowing : (xs : List (Option Entry)) (k : ℕ) (o : Option Entry) → length (knowing xs k o) ≡ length xs
length-knowing xs k None = refl
length-knowing xs k (Some a) = length-set xs k (Some a)

pub knowing_other : (xs : List (Option Entry)) (k : ℕ) (o : Option Entry) (j : ℕ) → j ≢ k → known_in (knowing xs k o) j ≡ known_in xs j
knowing_other xs k None j ne = refl
knowing_other xs k (Some a) j ne = get_or-set_other xs k j (Some a) None ne

pub noting_was : (xs : List Bool) (k : ℕ) (b : Bool) (j : ℕ) → noted_in (noting xs k b) j ≡ true → (noted_in xs j ≡ true) ⊎ ((j ≡ k) × (b ≡ true))
noting_was xs k false j is = inl is
noting_was xs k true j is = set_was xs k j true false true is

pub noting_here : (xs : List Bool) (k : ℕ) (b : Bool) → k < length xs → b ≡ true → noted_in (noting xs k b) k ≡ true
noting_here xs k false h is = let w : false ≡ true = is in cc
noting_here xs k true h is = get_or-set_same xs k true false h

pub length-noting : (xs : List Bool) (k : ℕ) (b : Bool) → length (noting xs k b) ≡ length xs
length-noting xs k false = refl
length-noting xs k true = length-set xs k true

set_stays : (xs : List Bool) (k j : ℕ) → noted_in xs j ≡ true → noted_in (set xs k true) j ≡ true
set_stays [] k j is = is
set_stays (x ∷ xs) zero zero is = refl
set_stays (x ∷ xs) zero (suc j) is = is
set_stays (x ∷ xs) (suc k) zero is = is
set_stays (x ∷ xs) (suc k) (suc j) is = set_stays xs k j is

pub noting_other : (xs : List Bool) (k : ℕ) (b : Bool) (j : ℕ) → j ≢ k → noted_in (noting xs k b) j ≡ noted_in xs j
noting_other xs k false j ne = refl
noting_other xs k true j ne = get_or-set_other xs k j true false ne

pub noting_more : (xs : List Bool) (k : ℕ) (b : Bool) (j : ℕ) → noted_in xs j ≡ true → noted_in (noting xs k b) j ≡ true
noting_more xs k false j is = is
noting_more xs k true j is = set_stays xs k j is

-- a known cell is one of the list
pub known_inside : (xs : List (Option Entry)) (j : ℕ) (e : Entry) → known_in xs j ≡ Some e → j < length xs
known_inside [] j e is = absurd (let w : None ≡ Some e = is in cc)
known_inside (x ∷ xs) zero e is = omega arith
known_inside (x ∷ xs) (suc j) e is = let h = known_inside xs j e is in omega arith

abbrev pub after : View → ℕ → Option Entry → Bool → Option ℕ → ℕ → ℕ → View
after v k o b c looks refreshes = record v { known = knowing v.known k o; noted = noting v.noted k b; claim = c; looks = looks; refreshes = refreshes }

-- what the step on the word k, from x to y, has to meet
pub record Fair (plan : Plan) (v : View) (k x y : ℕ) (o : Option Entry) (b : Bool) (c : Option ℕ) : Type 0 where
  pub legal : IsWord plan k y
  pub stays : 0 < x → x < 5 → y ≡ x
  pub others : (m : ℕ) → x ≡ 8 + m → m ≢ v.number → (y ≡ x) ⊎ (y ≡ 1)
  pub owner : (m : ℕ) → 0 < m → y ≡ 8 + m → ((m ≡ v.number) × (c ≡ Some k)) ⊎ ((m ≢ v.number) × (x ≡ 8 + m))
  pub learns : (e : Entry) → o ≡ Some e → y ≡ code e
  pub notes : b ≡ true → y ≡ 1
  pub agrees : (e : Entry) → known_in v.known k ≡ Some e → (o ≡ None) ⊎ (o ≡ Some e)
  pub claim : (j : ℕ) → c ≡ Some j → ((j ≡ k) × ((y ≡ 8 + v.number) ⊎ (y ≡ 1))) ⊎ ((j ≢ k) × (v.claim ≡ Some j))
  pub claim_stays : (j : ℕ) → j ≢ k → v.claim ≡ Some j → c ≡ Some j
  pub tells : (e : Entry) → y ≡ code e → (x ≡ code e) ⊎ (o ≡ Some e)
  pub tells_cancel : y ≡ 1 → (x ≡ 1) ⊎ (b ≡ true)

pub grows : (plan : Plan) (v : View) (k x y : ℕ) (o : Option Entry) (b : Bool) (c : Option ℕ) (looks refreshes : ℕ) → k < length v.known → Fair plan v k x y o b c → Grows v (after v k o b c looks refreshes)
grows plan v k x y o b c looks refreshes near m = record {
  knows = λ j e is. dite (ℕ_discrete j k)
      (λ s. ap (known_in (knowing v.known k o)) s ∙ ⊎_elim (λ (none : o ≡ None). ap (λ (z : Option Entry). known_in (knowing v.known k z) k) none ∙ (ap (known_in v.known) (sym s) ∙ is)) (λ p. knowing_here v.known k o e near p) (m.agrees e (ap (known_in v.known) (sym s) ∙ is)))
      (λ ne. knowing_other v.known k o j ne ∙ is);
  notes = λ j is. noting_more v.noted k b j is;
}

pub same_grows : (v : View) → Grows v v
same_grows v = record { knows = λ j e is. is; notes = λ j is. is }

pub changed : (plan : Plan) (ws : List ℕ) (views : List View) (k id y : ℕ) (v : View) (o : Option Entry) (b : Bool) (c : Option ℕ) (looks refreshes : ℕ)
    → Kept plan ws views → get_elem? views id ≡ some v → 0 < v.number → k < count_of plan → Fair plan v k (word_at ws k) y o b c → (y ≡ 1 → IsShown plan.grid (settled_words (count_of plan) ws) k) → ((full : List Entry) → AreVerdicts plan full → IsReached plan (set ws k y) full)
    → Kept plan (set ws k y) (set views id (after v k o b c looks refreshes))
changed plan ws views k id y v o b c looks refreshes r me pos near m shows reached =
    let f = r.fits id v me pos in let known_near : k < length v.known = subst (λ (n : ℕ). k < n) (sym f.known_long) near in let noted_near : k < length v.noted = subst (λ (n : ℕ). k < n) (sym f.noted_long) near in
    moved plan ws views k id y v (after v k o b c looks refreshes) r me pos near record {
      legal = m.legal;
      stays = m.stays;
      others = m.others;
      owner = m.owner;
      number = refl;
      given = refl;
      out = refl;
      known_long = length-knowing v.known k o;
      noted_long = length-noting v.noted k b;
      known = λ j e is. ⊎_elim (λ p. inl p) (λ (p : (j ≡ k) × (o ≡ Some e)). inr (p.0, m.learns e p.1)) (knowing_was v.known k o j e is);
      noted = λ j is. ⊎_elim (λ p. inl p) (λ (p : (j ≡ k) × (b ≡ true)). inr (p.0, m.notes p.1)) (noting_was v.noted k b j is);
      claim = m.claim;
      claim_stays = m.claim_stays;
      knows_more = (grows plan v k (word_at ws k) y o b c looks refreshes known_near m).knows;
      notes_more = (grows plan v k (word_at ws k) y o b c looks refreshes known_near m).notes;
      tells = λ e is. ⊎_elim (λ p. inl p) (λ p. inr (knowing_here v.known k o e known_near p)) (m.tells e is);
      tells_cancel = λ is. ⊎_elim (λ p. inl p) (λ p. inr (noting_here v.noted k b noted_near p)) (m.tells_cancel is);
    } shows reached

pub unmoved : (plan : Plan) (ws : List ℕ) (views : List View) (k id : ℕ) (v : View) → Kept plan ws views → get_elem? views id ≡ some v → Kept plan (set ws k (word_at ws k)) (set views id v)
unmoved plan ws views k id v r me = subst (λ (l : List ℕ). Kept plan l (set views id v)) (sym (set-get_or ws k 0)) (subst (λ (l : List View). Kept plan ws l) (sym (set_again views id v me)) r)

pub reached_still : (plan : Plan) (ws : List ℕ) (k : ℕ) → ((full : List Entry) → AreVerdicts plan full → IsReached plan ws full) → (full : List Entry) → AreVerdicts plan full → IsReached plan (set ws k (word_at ws k)) full
reached_still plan ws k r full are = subst (λ (l : List ℕ). IsReached plan l full) (sym (set-get_or ws k 0)) (r full are)

-- the claimed word of a seat is its claim
pub owned : (plan : Plan) (ws : List ℕ) (views : List View) (k id : ℕ) (v : View) → Kept plan ws views → get_elem? views id ≡ some v → 0 < v.number → k < count_of plan → word_at ws k ≡ 8 + v.number → v.claim ≡ Some k
owned plan ws views k id v r me pos near is = let c = r.claimed k v.number near is pos in
    let there : c.0 ≡ id = r.apart c.0 id c.1 v c.2 me (subst (λ (n : ℕ). 0 < n) (sym c.3.0) pos) c.3.0 in
    ap (λ (u : View). u.claim) (sym (same_at views c.0 id c.1 v c.2 me there)) ∙ c.3.1

pub knowledge : (plan : Plan) (ws : List ℕ) (v : View) → Fits plan ws v → Within v.known (settled_words (count_of plan) ws)
knowledge plan ws v f j e is = settled_at (count_of plan) ws j (subst (λ (n : ℕ). j < n) f.known_long (known_inside v.known j e is)) ∙ (ap entry_of (f.known j e is) ∙ entry_of-code e)

-- what some seat has, a seat that is alone has
pub alone : (plan : Plan) (ws : List ℕ) (views : List View) (id : ℕ) (v : View) (P : View → Type 0) → Kept plan ws views → get_elem? views id ≡ some v → IsAlone v → Has views (λ u. (0 < u.number) × P u) → P v
alone plan ws views id v P r me only h =
    let head = r.headed in
    let at_head : head.id ≡ id = r.apart head.id id head.head v head.at me (subst (λ (n : ℕ). 0 < n) (sym head.one) (omega arith)) (head.one ∙ sym only.0) in
    let same : head.head ≡ v = same_at views head.id id head.head v head.at me at_head in
    dite (dec_le h.1.number 1)
    (λ low. let one : h.1.number ≡ v.number = let a = h.3.0 in let b = only.0 in omega arith in
    subst P (same_at views h.0 id h.1 v h.2 me (r.apart h.0 id h.1 v h.2 me h.3.0 one)) h.3.1)
    (λ high. let listed : noted_in head.head.out h.1.number ≡ true = head.listed h.0 h.1 h.2 (omega arith) in
    let none : noted_in v.out h.1.number ≡ false = only.1 h.1.number in
    let both : false ≡ true = sym none ∙ ap (λ (u : View). noted_in u.out h.1.number) (sym same) ∙ listed in cc)

-- a view that took in a word sees it
pub sees : (v w : View) (k x : ℕ) → k < length v.known → k < length v.noted → w.known ≡ knowing v.known k (entry_of x) → w.noted ≡ noting v.noted k (eqb x 1) → Sees w k x
sees v w k x near near' known noted = record {
  knows = λ e is. ap (λ l. known_in l k) known ∙ knowing_here v.known k (entry_of x) e near is;
  notes = λ is. ap (λ l. noted_in l k) noted ∙ noting_here v.noted k (eqb x 1) near' (eq-eqb x 1 is);
}

pub sees_later : (v w : View) (k x : ℕ) → Grows v w → Sees v k x → Sees w k x
sees_later v w k x g s = record { knows = λ e is. g.knows k e (s.knows e is); notes = λ is. g.notes k (s.notes is) }
