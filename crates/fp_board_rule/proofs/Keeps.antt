-- Each step on one word keeps the rule.
use Rattle.std.proofs.Common.{◌≡◌, ℕ, ◌+◌, ◌-◌, ◌<◌, ◌≤◌, ◌≢◌, ◌⊎◌, List, length, set, sym, refl, ap, ◌∙◌, subst, inl, inr, ⊎_elim, arith, true, false, eqb, ne_eqb, Some, None}
use mathlib.Core.Logic.{dite}
use mathlib.Core.Option.{some, none}
use native.Mathlib.Decide.{ℕ_discrete}
use lib.ListN.{get_elem?}
use prog.Atomic.{either}
use Rattle.atomic_table.specs.Table.{State, Act, keeps, Valid, step, stepped, Allows, carried_after}
use Rattle.atomic_table.proofs.Lists.{exchanged}
use Rattle.fp_order.specs.declared.entry.Entry.{Entry}
use Rattle.fp_shown.specs.Shown.{IsShown}
use Rattle.fp_board_rule.specs.declared.plan.Plan.{Plan}
use Rattle.fp_board_rule.specs.declared.view.View.{View}
use Rattle.fp_board_rule.specs.Words.{code, entry_of, word_at, known_in, noted_in, settled_words}
use Rattle.fp_board_rule.specs.Rule.{count_of, IsVerdictOf, IsWord, Fits, Kept}
use Rattle.fp_board_rule.specs.Steps.{Sat, learned, claiming, idle, looks_after, Finds, Grows, loaded, looked, last_loaded, claimed, settled, cancelled, quitted}
use Rattle.fp_board_rule.proofs.Words.{code_low, entry_of-code, code_of-entry, length_settled}
use Rattle.fp_board_rule.proofs.Moves.{shown_more}
use Rattle.fp_board_rule.proofs.Changes.{Fair, changed, grows, same_grows, unmoved, reached_still, owned, knowledge, alone}
use Rattle.fp_board_rule.proofs.Events.{claims_reach, settles_reach, cancels_reach, quits_reach}

abbrev pub Rule : Plan → State ℕ View → Type 0
Rule plan s = Kept plan s.words s.views

abbrev Goes : Plan → State ℕ View → ℕ → ℕ → Sat → (ℕ → Sat → Type 0) → ℕ → Type 0
Goes plan s i id m then y = (w : View) × (a : Act ℕ) × Valid s.homes m.1 a × Rule plan (stepped s i y id m.1 w a) × then (word_at s.words i) (w, carried_after m.1 a)

pub true_eq : (n m : ℕ) → eqb n m ≡ true → n ≡ m
true_eq n m e = dite (ℕ_discrete n m) (λ s. s) (λ ne. let w : false ≡ true = sym (ne_eqb n m ne) ∙ e in cc)

word_low : (plan : Plan) (k x : ℕ) → IsWord plan k x → (x < 5) ⊎ ((8 < x) × (x ≤ 24))
word_low plan k x legal = ⊎_elim (λ (p : x ≡ 0). inl (omega arith)) (λ rest₁. ⊎_elim (λ (p : x ≡ 1). inl (omega arith))
    (λ rest₂. ⊎_elim (λ (p : (d : Entry) × (x ≡ code d) × IsVerdictOf plan k d). let low = code_low p.0 in let is = p.1 in inl (omega arith)) (λ (p : (8 < x) × (x ≤ 24)). inr p) rest₂) rest₁) legal

-- the word that is found agrees with what the seat has
pub finds : (plan : Plan) (ws : List ℕ) (views : List View) (k id : ℕ) (v : View) → Kept plan ws views → get_elem? views id ≡ some v → 0 < v.number → k < count_of plan → Finds v k (word_at ws k)
finds plan ws views k id v r me pos near = let x : ℕ = word_at ws k in let f = r.fits id v me pos in record {
  word = word_low plan k x (r.legal k near);
  known = λ e is. f.known k e is;
  noted = λ is. f.noted k is;
  claim = λ is. (f.claim k is).1;
  own = λ is. owned plan ws views k id v r me pos near is;
  alone = λ lone. record {
    settled = λ e is. alone plan ws views id v (λ u. known_in u.known k ≡ Some e) r me lone (r.settled_known k e near is);
    cancelled = λ is. alone plan ws views id v (λ u. noted_in u.noted k ≡ true) r me lone (r.cancelled_noted k near is);
    claimed = λ a. let up : 0 < x - 8 = omega arith in let there : x ≡ 8 + (x - 8) = omega arith in
        let c = r.claimed k (x - 8) near there up in
        alone plan ws views id v (λ u. u.claim ≡ Some k) r me lone (c.0, c.1, c.2, (subst (λ (n : ℕ). 0 < n) (sym c.3.0) up, c.3.1));
  };
}

load_fair : (plan : Plan) (ws : List ℕ) (views : List View) (k id : ℕ) (v : View) → Kept plan ws views → get_elem? views id ≡ some v → 0 < v.number → k < count_of plan
    → Fair plan v k (word_at ws k) (word_at ws k) (entry_of (word_at ws k)) (eqb (word_at ws k) 1) v.claim
load_fair plan ws views k id v r me pos near = let x : ℕ = word_at ws k in let f = r.fits id v me pos in record {
  legal = r.legal k near;
  stays = λ a b. refl;
  others = λ m is ne. inl refl;
  owner = λ m up is. dite (ℕ_discrete m v.number) (λ s. inl (s, owned plan ws views k id v r me pos near (is ∙ ap (λ (n : ℕ). 8 + n) s))) (λ ne. inr (ne, is));
  learns = λ e is. code_of-entry x e is;
  notes = λ is. true_eq x 1 is;
  agrees = λ e is. inr (ap entry_of (f.known k e is) ∙ entry_of-code e);
  claim = λ j is. dite (ℕ_discrete j k) (λ s. inl (s, (f.claim k (is ∙ ap Some s)).1)) (λ ne. inr (ne, is));
  claim_stays = λ j ne is. is;
  tells = λ e is. inl is;
  tells_cancel = λ is. inl is;
}

load_grows : (plan : Plan) (ws : List ℕ) (views : List View) (k id : ℕ) (v : View) (looks refreshes : ℕ) → Kept plan ws views → get_elem? views id ≡ some v → 0 < v.number → k < count_of plan
    → Grows v (record (learned v k (word_at ws k)) { looks = looks; refreshes = refreshes })
load_grows plan ws views k id v looks refreshes r me pos near = let f = r.fits id v me pos in
    grows plan v k (word_at ws k) (word_at ws k) (entry_of (word_at ws k)) (eqb (word_at ws k) 1) v.claim looks refreshes (subst (λ (n : ℕ). k < n) (sym f.known_long) near) (load_fair plan ws views k id v r me pos near)

-- a load keeps the rule
learns : (plan : Plan) (ws : List ℕ) (views : List View) (k id : ℕ) (v : View) (looks refreshes : ℕ) → Kept plan ws views → get_elem? views id ≡ some v → 0 < v.number → k < count_of plan
    → Kept plan (set ws k (word_at ws k)) (set views id (record (learned v k (word_at ws k)) { looks = looks; refreshes = refreshes }))
learns plan ws views k id v looks refreshes r me pos near = let x : ℕ = word_at ws k in
    changed plan ws views k id x v (entry_of x) (eqb x 1) v.claim looks refreshes r me pos near (load_fair plan ws views k id v r me pos near) (λ is. r.shown k near is) (reached_still plan ws k r.reached)

pub loads : (plan : Plan) (n id : ℕ) (m : Sat) (i : ℕ) → i < count_of plan → 0 < m.0.number → Allows (Rule plan) n id m i (λ y. y) (loaded (step n i 0 0 none) m)
loads plan n id m i near pos s r wide me _ = (
  learned m.0 i (word_at s.words i),
  keeps,
  tt,
  learns plan s.words s.views i id m.0 m.0.looks m.0.refreshes r me pos near,
  (refl, finds plan s.words s.views i id m.0 r me pos near, load_grows plan s.words s.views i id m.0 m.0.looks m.0.refreshes r me pos near),
)

pub looks : (plan : Plan) (n id : ℕ) (m : Sat) (i : ℕ) → i < count_of plan → 0 < m.0.number → Allows (Rule plan) n id m i (λ y. y) (looked (step n i 0 0 none) m)
looks plan n id m i near pos s r wide me _ = let c : ℕ = looks_after m.0.claim i m.0.looks in (
  record (learned m.0 i (word_at s.words i)) { looks = c },
  keeps,
  tt,
  learns plan s.words s.views i id m.0 c m.0.refreshes r me pos near,
  (refl, finds plan s.words s.views i id m.0 r me pos near, load_grows plan s.words s.views i id m.0 c m.0.refreshes r me pos near),
)

pub last_loads : (plan : Plan) (n id : ℕ) (m : Sat) (i : ℕ) → i < count_of plan → 0 < m.0.number → Allows (Rule plan) n id m i (λ y. y) (last_loaded (step n i 0 0 none) m)
last_loads plan n id m i near pos s r wide me _ = (
  record (learned m.0 i (word_at s.words i)) { refreshes = m.0.refreshes + 1 },
  keeps,
  tt,
  learns plan s.words s.views i id m.0 m.0.looks (m.0.refreshes + 1) r me pos near,
  (refl, finds plan s.words s.views i id m.0 r me pos near, load_grows plan s.words s.views i id m.0 m.0.looks (m.0.refreshes + 1) r me pos near),
)

pub claims : (plan : Plan) (n id : ℕ) (m : Sat) (i : ℕ) → i < count_of plan → 0 < m.0.number → m.0.claim ≡ None
    → Allows (Rule plan) n id m i (λ y. either (eqb y 0) (8 + m.0.number) y) (claimed (step n i 0 (8 + m.0.number) none) m)
claims plan n id m i near pos idle s r wide me _ = let v = m.0 in let x : ℕ = word_at s.words i in let f = r.fits id v me pos in
    let told = finds plan s.words s.views i id v r me pos near in
    exchanged x 0 (8 + v.number) (Goes plan s i id m (claimed (step n i 0 (8 + v.number) none) m)) (λ hit. (
      claiming v i,
      keeps,
      tt,
      changed plan s.words s.views i id (8 + v.number) v None false (Some i) 0 v.refreshes r me pos near record {
        legal = inr (inr (inr ((omega arith), (let a = f.high in omega arith))));
        stays = λ a b. absurd (omega arith);
        others = λ q is ne. absurd (omega arith);
        owner = λ q up is. inl ((omega arith), refl);
        learns = λ e is. let w : None ≡ Some e = is in cc;
        notes = λ is. let w : false ≡ true = is in cc;
        agrees = λ e is. inl refl;
        claim = λ j is. let e : i ≡ j = cc in inl (sym e, inl refl);
        claim_stays = λ j ne is. let w : None ≡ Some j = sym idle ∙ is in cc;
        tells = λ e is. let low = code_low e in absurd (omega arith);
        tells_cancel = λ is. absurd (omega arith);
      } (λ is. absurd (omega arith)) (claims_reach plan s.words s.views i id v r me pos near idle hit),
      ((λ _. refl), (λ miss. absurd (miss hit)), told),
    ))
    (λ miss. (v, keeps, tt, unmoved plan s.words s.views i id v r me, ((λ hit. absurd (miss hit)), (λ _. refl), told)))

-- a seat whose claim was cancelled ends it
ends : (plan : Plan) (ws : List ℕ) (views : List View) (k id : ℕ) (v : View) → Kept plan ws views → get_elem? views id ≡ some v → 0 < v.number → k < count_of plan → v.claim ≡ Some k → word_at ws k ≡ 1
    → Kept plan (set ws k (word_at ws k)) (set views id (idle v))
ends plan ws views k id v r me pos near mine is = let x : ℕ = word_at ws k in
    changed plan ws views k id x v None false None v.looks v.refreshes r me pos near record {
      legal = r.legal k near;
      stays = λ a b. refl;
      others = λ m e ne. inl refl;
      owner = λ m up e. absurd (omega arith);
      learns = λ e w. let z : None ≡ Some e = w in cc;
      notes = λ w. let z : false ≡ true = w in cc;
      agrees = λ e w. inl refl;
      claim = λ j w. let z : None ≡ Some j = w in cc;
      claim_stays = λ j ne w. let e : k ≡ j = let z : Some k ≡ Some j = sym mine ∙ w in cc in absurd (ne (sym e));
      tells = λ e w. inl w;
      tells_cancel = λ w. inl w;
    } (λ w. r.shown k near w) (reached_still plan ws k r.reached)

same_kept : (v : View) → Grows v (idle v)
same_kept v = record { knows = λ j e is. is; notes = λ j is. is }

-- the word of a seat's claim is its own or cancelled
own_or_cancelled : (plan : Plan) (ws : List ℕ) (v : View) (k : ℕ) → Fits plan ws v → v.claim ≡ Some k → word_at ws k ≢ 8 + v.number → word_at ws k ≡ 1
own_or_cancelled plan ws v k f mine ne = ⊎_elim (λ p. absurd (ne p)) (λ p. p) (f.claim k mine).1

pub settles : (plan : Plan) (n id : ℕ) (m : Sat) (i : ℕ) (e : Entry) → i < count_of plan → 0 < m.0.number → m.0.claim ≡ Some i → IsVerdictOf plan i e
    → Allows (Rule plan) n id m i (λ y. either (eqb y (8 + m.0.number)) (code e) y) (settled (step n i (8 + m.0.number) (code e) none) m)
settles plan n id m i e near pos mine verdict s r wide me _ = let v = m.0 in let x : ℕ = word_at s.words i in let f = r.fits id v me pos in let low = code_low e in
    let told = finds plan s.words s.views i id v r me pos near in
    let known_near : i < length v.known = subst (λ (q : ℕ). i < q) (sym f.known_long) near in
    exchanged x (8 + v.number) (code e) (Goes plan s i id m (settled (step n i (8 + v.number) (code e) none) m)) (λ hit.
    let fair : Fair plan v i x (code e) (entry_of (code e)) (eqb (code e) 1) None = record {
      legal = inr (inr (inl (e, refl, verdict)));
      stays = λ a b. absurd (omega arith);
      others = λ q w ne. absurd (ne (omega arith));
      owner = λ q up w. absurd (omega arith);
      learns = λ d w. code_of-entry (code e) d w;
      notes = λ w. true_eq (code e) 1 w;
      agrees = λ d w. let z = f.known i d w in let lo = code_low d in absurd (omega arith);
      claim = λ j w. let z : None ≡ Some j = w in cc;
      claim_stays = λ j ne w. let q : i ≡ j = let z : Some i ≡ Some j = sym mine ∙ w in cc in absurd (ne (sym q));
      tells = λ d w. inr (ap entry_of w ∙ entry_of-code d);
      tells_cancel = λ w. absurd (omega arith);
    } in (
      idle (learned v i (code e)),
      keeps,
      tt,
      changed plan s.words s.views i id (code e) v (entry_of (code e)) (eqb (code e) 1) None v.looks v.refreshes r me pos near fair (λ w. absurd (omega arith)) (settles_reach plan s.words s.views i v.number e r pos f.high near hit verdict),
      ((λ _. refl), (λ miss. absurd (miss hit)), told, grows plan v i x (code e) (entry_of (code e)) (eqb (code e) 1) None v.looks v.refreshes known_near fair),
    ))
    (λ miss. let one = own_or_cancelled plan s.words v i f mine miss in
    (idle v, keeps, tt, ends plan s.words s.views i id v r me pos near mine one, ((λ hit. absurd (miss hit)), (λ _. (one, refl)), told, same_kept v)))

pub cancels : (plan : Plan) (n id : ℕ) (m : Sat) (i found : ℕ) → i < count_of plan → 0 < m.0.number → (found ≡ 0) ⊎ (8 < found) → IsShown plan.grid m.0.known i
    → Allows (Rule plan) n id m i (λ y. either (eqb y found) 1 y) (cancelled (step n i found 1 none) m)
cancels plan n id m i found near pos vacant shown s r wide me _ = let v = m.0 in let x : ℕ = word_at s.words i in let f = r.fits id v me pos in
    let told = finds plan s.words s.views i id v r me pos near in
    let known_near : i < length v.known = subst (λ (q : ℕ). i < q) (sym f.known_long) near in
    let by_words : IsShown plan.grid (settled_words (count_of plan) s.words) i =
    shown_more plan r.right v.known (settled_words (count_of plan) s.words) f.known_long (length_settled (count_of plan) s.words r.long) (knowledge plan s.words v f) i shown in
    exchanged x found 1 (Goes plan s i id m (cancelled (step n i found 1 none) m)) (λ hit. let apart : 0 < x → x < 5 → ⊥ = λ a b. ⊎_elim (λ (p : found ≡ 0). omega arith) (λ (p : 8 < found). omega arith) vacant in
    let fair : Fair plan v i x 1 None true v.claim = record {
      legal = inr (inl refl);
      stays = λ a b. absurd (apart a b);
      others = λ q w ne. inr refl;
      owner = λ q up w. absurd (omega arith);
      learns = λ d w. let z : None ≡ Some d = w in cc;
      notes = λ w. refl;
      agrees = λ d w. inl refl;
      claim = λ j w. dite (ℕ_discrete j i) (λ p. inl (p, inr refl)) (λ ne. inr (ne, w));
      claim_stays = λ j ne w. w;
      tells = λ d w. let low = code_low d in absurd (omega arith);
      tells_cancel = λ w. inr refl;
    } in (
      learned v i 1,
      keeps,
      tt,
      changed plan s.words s.views i id 1 v None true v.claim v.looks v.refreshes r me pos near fair (λ w. by_words)
          (cancels_reach plan s.words s.views i v.number r pos f.high near (⊎_elim (λ (p : found ≡ 0). inl (hit ∙ p)) (λ (p : 8 < found). inr (omega arith)) vacant) by_words),
      ((λ _. refl), (λ miss. absurd (miss hit)), told, grows plan v i x 1 None true v.claim v.looks v.refreshes known_near fair),
    ))
    (λ miss. (v, keeps, tt, unmoved plan s.words s.views i id v r me, ((λ hit. absurd (miss hit)), (λ _. refl), told, same_grows v)))

pub quits : (plan : Plan) (n id : ℕ) (m : Sat) (i : ℕ) → i < count_of plan → 0 < m.0.number → m.0.claim ≡ Some i
    → Allows (Rule plan) n id m i (λ y. either (eqb y (8 + m.0.number)) 0 y) (quitted (step n i (8 + m.0.number) 0 none) m)
quits plan n id m i near pos mine s r wide me _ = let v = m.0 in let x : ℕ = word_at s.words i in let f = r.fits id v me pos in
    let told = finds plan s.words s.views i id v r me pos near in
    exchanged x (8 + v.number) 0 (Goes plan s i id m (quitted (step n i (8 + v.number) 0 none) m)) (λ hit. (
      idle v,
      keeps,
      tt,
      changed plan s.words s.views i id 0 v None false None v.looks v.refreshes r me pos near record {
        legal = inl refl;
        stays = λ a b. absurd (omega arith);
        others = λ q w ne. absurd (ne (omega arith));
        owner = λ q up w. absurd (omega arith);
        learns = λ d w. let z : None ≡ Some d = w in cc;
        notes = λ w. let z : false ≡ true = w in cc;
        agrees = λ d w. inl refl;
        claim = λ j w. let z : None ≡ Some j = w in cc;
        claim_stays = λ j ne w. let q : i ≡ j = let z : Some i ≡ Some j = sym mine ∙ w in cc in absurd (ne (sym q));
        tells = λ d w. let low = code_low d in absurd (omega arith);
        tells_cancel = λ w. absurd (omega arith);
      } (λ w. absurd (omega arith)) (quits_reach plan s.words s.views i v.number r pos f.high near hit),
      (refl, (λ miss. absurd (miss hit)), told),
    ))
    (λ miss. let one = own_or_cancelled plan s.words v i f mine miss in (idle v, keeps, tt, ends plan s.words s.views i id v r me pos near mine one, (refl, (λ _. one), told)))

pub claims_by : (plan : Plan) (n id : ℕ) (m : Sat) (i own : ℕ) → own ≡ 8 + m.0.number → i < count_of plan → 0 < m.0.number → m.0.claim ≡ None
    → Allows (Rule plan) n id m i (λ y. either (eqb y 0) own y) (claimed (step n i 0 own none) m)
claims_by plan n id m i own is near pos idle = subst (λ (q : ℕ). Allows (Rule plan) n id m i (λ y. either (eqb y 0) q y) (claimed (step n i 0 q none) m)) (sym is) (claims plan n id m i near pos idle)

pub settles_by : (plan : Plan) (n id : ℕ) (m : Sat) (i own word : ℕ) (e : Entry) → own ≡ 8 + m.0.number → word ≡ code e → i < count_of plan → 0 < m.0.number → m.0.claim ≡ Some i → IsVerdictOf plan i e
    → Allows (Rule plan) n id m i (λ y. either (eqb y own) word y) (settled (step n i own word none) m)
settles_by plan n id m i own word e is coded near pos mine verdict = subst (λ (q : ℕ). Allows (Rule plan) n id m i (λ y. either (eqb y q) word y) (settled (step n i q word none) m)) (sym is)
    (subst (λ (w : ℕ). Allows (Rule plan) n id m i (λ y. either (eqb y (8 + m.0.number)) w y) (settled (step n i (8 + m.0.number) w none) m)) (sym coded) (settles plan n id m i e near pos mine verdict))

pub quits_by : (plan : Plan) (n id : ℕ) (m : Sat) (i own : ℕ) → own ≡ 8 + m.0.number → i < count_of plan → 0 < m.0.number → m.0.claim ≡ Some i
    → Allows (Rule plan) n id m i (λ y. either (eqb y own) 0 y) (quitted (step n i own 0 none) m)
quits_by plan n id m i own is near pos mine = subst (λ (q : ℕ). Allows (Rule plan) n id m i (λ y. either (eqb y q) 0 y) (quitted (step n i q 0 none) m)) (sym is) (quits plan n id m i near pos mine)
