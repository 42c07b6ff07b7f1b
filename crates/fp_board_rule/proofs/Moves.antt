-- A step on one word by one seat keeps the rule.
use Rattle.std.proofs.Common.{◌≡◌, ℕ, zero, suc, ◌+◌, ◌<◌, ◌≤◌, ◌≢◌, ◌⊎◌, List, [], ◌∷◌, length, set, sym, refl, ap, ◌∙◌, subst, inl, inr, ⊎_elim, arith, length-set, get_or-set_other, get_or-set_same, Bool, true, Option, Some}
use mathlib.Core.Logic.{dite}
use mathlib.Core.Option.{some, some-injective, some-ne-none}
use native.Mathlib.Decide.{ℕ_discrete}
use lib.ListN.{get_elem?}
use Rattle.atomic_table.proofs.Lists.{at_set, set_else}
use Rattle.fp_order.specs.declared.entry.Entry.{Entry}
use Rattle.fp_order.specs.Grid.{columns_of}
use Rattle.fp_shown.specs.Shown.{number_on, row_of, IsShown}
use Rattle.fp_shown.proofs.Inside.{inside_grid}
use Rattle.fp_shown.proofs.Longest as longest
use Rattle.fp_board_rule.specs.declared.plan.Plan.{Plan}
use Rattle.fp_board_rule.specs.declared.view.View.{View}
use Rattle.fp_board_rule.specs.Words.{code, entry_of, word_at, known_in, noted_in, settled_words}
use Rattle.fp_board_rule.specs.Rule.{count_of, IsPlan, AreVerdicts, IsWord, IsReached, Fits, Has, Headed, Kept}
use Rattle.fp_board_rule.proofs.Words.{code_low, entry_of-code, settled_at, settled_was, length_settled}

abbrev pub Within : List (Option Entry) → List (Option Entry) → Type 0
Within p q = (k : ℕ) (e : Entry) → known_in p k ≡ Some e → known_in q k ≡ Some e

-- what is shown stays shown when more cells are known
pub shown_more : (plan : Plan) → IsPlan plan → (p q : List (Option Entry)) → length p ≡ count_of plan → length q ≡ count_of plan → Within p q → (j : ℕ) → IsShown plan.grid p j → IsShown plan.grid q j
unfolding IsShown
shown_more plan h p q long as_long within j w = let g = plan.grid in
    longest.shown_stays (number_on g) (length (columns_of g.functions)) (length g.rows) p q (inside_grid g p h.right (long ∙ h.full)) (record { len = as_long ∙ sym long; keeps = within }) (row_of g j) w

-- what a step on the word k, from x to y, may do to the view of its seat, from v to w
pub record Moves (plan : Plan) (k x y : ℕ) (v w : View) : Type 0 where
  pub legal : IsWord plan k y
  pub stays : 0 < x → x < 5 → y ≡ x
  pub others : (m : ℕ) → x ≡ 8 + m → m ≢ v.number → (y ≡ x) ⊎ (y ≡ 1)
  pub owner : (m : ℕ) → 0 < m → y ≡ 8 + m → ((m ≡ v.number) × (w.claim ≡ Some k)) ⊎ ((m ≢ v.number) × (x ≡ 8 + m))
  pub number : w.number ≡ v.number
  pub given : w.given ≡ v.given
  pub out : w.out ≡ v.out
  pub known_long : length w.known ≡ length v.known
  pub noted_long : length w.noted ≡ length v.noted
  pub known : (j : ℕ) (e : Entry) → known_in w.known j ≡ Some e → (known_in v.known j ≡ Some e) ⊎ ((j ≡ k) × (y ≡ code e))
  pub noted : (j : ℕ) → noted_in w.noted j ≡ true → (noted_in v.noted j ≡ true) ⊎ ((j ≡ k) × (y ≡ 1))
  pub claim : (j : ℕ) → w.claim ≡ Some j → ((j ≡ k) × ((y ≡ 8 + v.number) ⊎ (y ≡ 1))) ⊎ ((j ≢ k) × (v.claim ≡ Some j))
  pub claim_stays : (j : ℕ) → j ≢ k → v.claim ≡ Some j → w.claim ≡ Some j
  pub knows_more : (j : ℕ) (e : Entry) → known_in v.known j ≡ Some e → known_in w.known j ≡ Some e
  pub notes_more : (j : ℕ) → noted_in v.noted j ≡ true → noted_in w.noted j ≡ true
  pub tells : (e : Entry) → y ≡ code e → (x ≡ code e) ⊎ (known_in w.known k ≡ Some e)
  pub tells_cancel : y ≡ 1 → (x ≡ 1) ⊎ (noted_in w.noted k ≡ true)

pub at_put : {A : Type 0} (l : List A) (i : ℕ) (a b : A) → get_elem? l i ≡ some a → get_elem? (set l i b) i ≡ some b
at_put [] i a b e = absurd (some-ne-none a (sym e))
at_put (x ∷ xs) zero a b e = refl
at_put (x ∷ xs) (suc i) a b e = at_put xs i a b e

pub same_at : {A : Type 0} (l : List A) (i j : ℕ) (a b : A) → get_elem? l i ≡ some a → get_elem? l j ≡ some b → i ≡ j → a ≡ b
same_at l i j a b e f s = some-injective a b (sym e ∙ ap (λ (n : ℕ). get_elem? l n) s ∙ f)

-- a seat with a fact has it after the view id went from v to w
pub seat_after : (P : View → Type 0) (views : List View) (id : ℕ) (v w : View) → get_elem? views id ≡ some v → Has views P → (P v → P w) → Has (set views id w) P
seat_after P views id v w me h goes = dite (ℕ_discrete h.0 id)
    (λ e. (id, w, at_put views id v w me, goes (subst P (same_at views h.0 id h.1 v h.2 me e) h.3)))
    (λ ne. (h.0, h.1, set_else views id h.0 w ne ∙ h.2, h.3))

-- each view has the number that its seat's view had before
before : (views : List View) (id : ℕ) (v w : View) → get_elem? views id ≡ some v → w.number ≡ v.number → (i : ℕ) (u : View) → get_elem? (set views id w) i ≡ some u
    → (z : View) × (get_elem? views i ≡ some z) × (z.number ≡ u.number)
before views id v w me same i u at = ⊎_elim (λ (t : (i ≡ id) × (w ≡ u)). (v, ap (λ (n : ℕ). get_elem? views n) t.0 ∙ me, sym same ∙ ap (λ (z : View). z.number) t.1))
    (λ (t : (i ≢ id) × (get_elem? views i ≡ some u)). (u, t.1, refl)) (at_set views id i w u at)

pub headed_after : (views : List View) (id : ℕ) (v w : View) → get_elem? views id ≡ some v → Headed views → w.number ≡ v.number → w.given ≡ v.given → w.out ≡ v.out → Headed (set views id w)
headed_after views id v w me h number given out =
    let listed : (i : ℕ) (u : View) → get_elem? (set views id w) i ≡ some u → 1 < u.number → noted_in h.head.out u.number ≡ true = λ i u at up. let b = before views id v w me number i u at in
    ap (noted_in h.head.out) (sym b.2) ∙ h.listed i b.0 b.1 (subst (λ (n : ℕ). 1 < n) (sym b.2) up) in
    dite (ℕ_discrete h.id id)
    (λ e. let same : h.head ≡ v = same_at views h.id id h.head v h.at me e in
    let outs : w.out ≡ h.head.out = out ∙ ap (λ (u : View). u.out) (sym same) in let gave : w.given ≡ h.head.given = given ∙ ap (λ (u : View). u.given) (sym same) in record {
      id = id;
      head = w;
      at = at_put views id v w me;
      one = number ∙ ap (λ (u : View). u.number) (sym same) ∙ h.one;
      long = ap length outs ∙ h.long;
      low = subst (λ (n : ℕ). 1 ≤ n) (sym gave) h.low;
      high = subst (λ (n : ℕ). n ≤ 16) (sym gave) h.high;
      listed = λ i u at up. ap (λ (l : List Bool). noted_in l u.number) outs ∙ listed i u at up;
      only = λ m is. let o = h.only m (ap (λ (l : List Bool). noted_in l m) (sym outs) ∙ is) in
          (o.0, subst (λ (n : ℕ). m ≤ n) (sym gave) o.1, seat_after (λ u. u.number ≡ m) views id v w me o.2 (λ p. number ∙ p));
    })
    (λ ne. record {
      id = h.id;
      head = h.head;
      at = set_else views id h.id w ne ∙ h.at;
      one = h.one;
      long = h.long;
      low = h.low;
      high = h.high;
      listed = listed;
      only = λ m is. let o = h.only m is in (o.0, o.1, seat_after (λ u. u.number ≡ m) views id v w me o.2 (λ p. number ∙ p));
    })

pub moved : (plan : Plan) (ws : List ℕ) (views : List View) (k id y : ℕ) (v w : View) → Kept plan ws views → get_elem? views id ≡ some v → 0 < v.number → k < count_of plan
    → Moves plan k (word_at ws k) y v w → (y ≡ 1 → IsShown plan.grid (settled_words (count_of plan) ws) k) → ((full : List Entry) → AreVerdicts plan full → IsReached plan (set ws k y) full) → Kept plan (set ws k y) (set views id w)
moved plan ws views k id y v w r me pos near m shows reached =
    let room : k < length ws = let a = r.long in omega arith in
    let here : word_at (set ws k y) k ≡ y = get_or-set_same ws k y 0 room in
    let there : (j : ℕ) → j ≢ k → word_at (set ws k y) j ≡ word_at ws j = λ j ne. get_or-set_other ws k j y 0 ne in
    let stays_at : (j n : ℕ) → word_at ws j ≡ n → 0 < n → n < 5 → word_at (set ws k y) j ≡ n = λ j n is low high. dite (ℕ_discrete j k)
    (λ e. let x : word_at ws k ≡ n = ap (word_at ws) (sym e) ∙ is in ap (word_at (set ws k y)) e ∙ here ∙ m.stays (omega arith) (omega arith) ∙ x)
    (λ ne. there j ne ∙ is) in
    let f : Fits plan ws v = r.fits id v me pos in
    let coded : (j : ℕ) (e : Entry) → word_at ws j ≡ code e → word_at (set ws k y) j ≡ code e = λ j e is. let low = code_low e in stays_at j (code e) is (omega arith) (omega arith) in
    let own : Fits plan (set ws k y) w = record {
      known_long = m.known_long ∙ f.known_long;
      noted_long = m.noted_long ∙ f.noted_long;
      high = let a = f.high in let b = m.number in omega arith;
      known = λ j e is. ⊎_elim (λ old. coded j e (f.known j e old)) (λ (t : (j ≡ k) × (y ≡ code e)). ap (word_at (set ws k y)) t.0 ∙ here ∙ t.1) (m.known j e is);
      noted = λ j is. ⊎_elim (λ old. stays_at j 1 (f.noted j old) (omega arith) (omega arith)) (λ (t : (j ≡ k) × (y ≡ 1)). ap (word_at (set ws k y)) t.0 ∙ here ∙ t.1) (m.noted j is);
      claim = λ j is. ⊎_elim
          (λ (t : (j ≡ k) × ((y ≡ 8 + v.number) ⊎ (y ≡ 1))). (
            subst (λ (n : ℕ). n < count_of plan) (sym t.0) near,
            ⊎_elim (λ (a : y ≡ 8 + v.number). inl (ap (word_at (set ws k y)) t.0 ∙ here ∙ a ∙ ap (λ (n : ℕ). 8 + n) (sym m.number))) (λ (a : y ≡ 1). inr (ap (word_at (set ws k y)) t.0 ∙ here ∙ a)) t.1,
          ))
          (λ (t : (j ≢ k) × (v.claim ≡ Some j)). let c = f.claim j t.1 in (
            c.0,
            ⊎_elim (λ (a : word_at ws j ≡ 8 + v.number). inl (there j t.0 ∙ a ∙ ap (λ (n : ℕ). 8 + n) (sym m.number))) (λ (a : word_at ws j ≡ 1). inr (there j t.0 ∙ a)) c.1,
          ))
          (m.claim j is);
    } in
    let other : (i : ℕ) (u : View) → i ≢ id → get_elem? views i ≡ some u → 0 < u.number → Fits plan (set ws k y) u = λ i u ne at up. let g = r.fits i u at up in
    let apart : u.number ≢ v.number = λ same. ne (r.apart i id u v at me up same) in
    record {
      known_long = g.known_long;
      noted_long = g.noted_long;
      high = g.high;
      known = λ j e is. coded j e (g.known j e is);
      noted = λ j is. stays_at j 1 (g.noted j is) (omega arith) (omega arith);
      claim = λ j is. let c = g.claim j is in (
        c.0,
        ⊎_elim (λ (a : word_at ws j ≡ 8 + u.number). dite (ℕ_discrete j k)
            (λ e. let x : word_at ws k ≡ 8 + u.number = ap (word_at ws) (sym e) ∙ a in
            ⊎_elim (λ (b : y ≡ word_at ws k). inl (ap (word_at (set ws k y)) e ∙ here ∙ b ∙ x)) (λ (b : y ≡ 1). inr (ap (word_at (set ws k y)) e ∙ here ∙ b)) (m.others u.number x apart))
            (λ ne. inl (there j ne ∙ a)))
            (λ (a : word_at ws j ≡ 1). inr (stays_at j 1 a (omega arith) (omega arith))) c.1,
      );
    } in
    let n : ℕ = count_of plan in
    let within : Within (settled_words n ws) (settled_words n (set ws k y)) = λ j e is. let p = settled_was n ws j e is in settled_at n (set ws k y) j p.0 ∙ (ap entry_of (coded j e p.1) ∙ entry_of-code e) in
    let still : (j : ℕ) → IsShown plan.grid (settled_words n ws) j → IsShown plan.grid (settled_words n (set ws k y)) j =
    shown_more plan r.right (settled_words n ws) (settled_words n (set ws k y)) (length_settled n ws r.long) (length_settled n (set ws k y) (subst (λ (q : ℕ). n ≤ q) (sym (length-set ws k y)) r.long)) within in
    record {
      right = r.right;
      long = subst (λ (n : ℕ). count_of plan ≤ n) (sym (length-set ws k y)) r.long;
      reached = reached;
      spare = λ j past. there j (λ e. omega arith) ∙ r.spare j past;
      legal = λ j l. dite (ℕ_discrete j k) (λ e. subst (λ (q : ℕ). IsWord plan q (word_at (set ws k y) q)) (sym e) (subst (IsWord plan k) (sym here) m.legal))
          (λ ne. subst (IsWord plan j) (sym (there j ne)) (r.legal j l));
      fits = λ i u at up. ⊎_elim (λ (t : (i ≡ id) × (w ≡ u)). subst (Fits plan (set ws k y)) t.1 own) (λ (t : (i ≢ id) × (get_elem? views i ≡ some u)). other i u t.0 t.1 up) (at_set views id i w u at);
      claimed = λ j n l is up. let P : View → Type 0 = λ u. (u.number ≡ n) × (u.claim ≡ Some j) in dite (ℕ_discrete j k)
          (λ e. let at_k : y ≡ 8 + n = sym here ∙ ap (word_at (set ws k y)) (sym e) ∙ is in
          ⊎_elim (λ (t : (n ≡ v.number) × (w.claim ≡ Some k)). let out : Has (set views id w) P = (id, w, at_put views id v w me, (m.number ∙ sym t.0, t.1 ∙ ap Some (sym e))) in out)
          (λ (t : (n ≢ v.number) × (word_at ws k ≡ 8 + n)). let c = r.claimed k n near t.1 up in
          seat_after P views id v w me (c.0, c.1, c.2, (c.3.0, c.3.1 ∙ ap Some (sym e))) (λ p. absurd (t.0 (sym p.0)))) (m.owner n up at_k))
          (λ ne. seat_after P views id v w me (r.claimed j n l (sym (there j ne) ∙ is) up) (λ p. (m.number ∙ p.0, m.claim_stays j ne p.1)));
      apart = λ i j u z at at' up same. let a = before views id v w me m.number i u at in let b = before views id v w me m.number j z at' in
          r.apart i j a.0 b.0 a.1 b.1 (let q = a.2 in omega arith) (a.2 ∙ same ∙ sym b.2);
      headed = headed_after views id v w me r.headed m.number m.given m.out;
      shown = λ j l is. dite (ℕ_discrete j k)
          (λ e. subst (IsShown plan.grid (settled_words n (set ws k y))) (sym e) (still k (shows (sym here ∙ ap (word_at (set ws k y)) (sym e) ∙ is))))
          (λ ne. still j (r.shown j l (sym (there j ne) ∙ is)));
      settled_known = λ j e l is. let P : View → Type 0 = λ u. (0 < u.number) × (known_in u.known j ≡ Some e) in
          let more : P v → P w = λ p. (subst (λ (n : ℕ). 0 < n) (sym m.number) p.0, m.knows_more j e p.1) in
          let from : word_at ws j ≡ code e → Has (set views id w) P = λ was. seat_after P views id v w me (r.settled_known j e l was) more in
          dite (ℕ_discrete j k)
          (λ s. ⊎_elim (λ (a : word_at ws k ≡ code e). from (ap (word_at ws) s ∙ a)) (λ (a : known_in w.known k ≡ Some e). let out : Has (set views id w) P = (id, w, at_put views id v w me, (subst (λ (n : ℕ). 0 < n) (sym m.number) pos, ap (known_in w.known) s ∙ a)) in out)
          (m.tells e (sym here ∙ ap (word_at (set ws k y)) (sym s) ∙ is)))
          (λ ne. from (sym (there j ne) ∙ is));
      cancelled_noted = λ j l is. let P : View → Type 0 = λ u. (0 < u.number) × (noted_in u.noted j ≡ true) in
          let more : P v → P w = λ p. (subst (λ (n : ℕ). 0 < n) (sym m.number) p.0, m.notes_more j p.1) in
          let from : word_at ws j ≡ 1 → Has (set views id w) P = λ was. seat_after P views id v w me (r.cancelled_noted j l was) more in
          dite (ℕ_discrete j k)
          (λ s. ⊎_elim (λ (a : word_at ws k ≡ 1). from (ap (word_at ws) s ∙ a)) (λ (a : noted_in w.noted k ≡ true). let out : Has (set views id w) P = (id, w, at_put views id v w me, (subst (λ (n : ℕ). 0 < n) (sym m.number) pos, ap (noted_in w.noted) s ∙ a)) in out)
          (m.tells_cancel (sym here ∙ ap (word_at (set ws k y)) (sym s) ∙ is)))
          (λ ne. from (sym (there j ne) ∙ is));
    }
