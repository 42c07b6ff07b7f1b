-- The first state, new seats and seats that are taken in.
use Rattle.std.proofs.Common.{◌≡◌, ℕ, zero, suc, ◌+◌, ◌<◌, ◌≤◌, ◌≢◌, ◌⊎◌, List, [], ◌∷◌, ◌++◌, length, set, replicate, sym, refl, ap, ◌∙◌, subst, inl, inr, ⊎_elim, arith, length-set, get_or-set_same, get_or-set_other, Bool, true, false, Option, Some, None}
use mathlib.Core.Logic.{dite}
use mathlib.Core.Option.{some, some-injective, some-ne-none}
use native.Mathlib.Decide.{ℕ_discrete}
use lib.ListN.{get_elem?, get_or}
use Rattle.atomic_table.specs.Table.{Splits, Joins}
use Rattle.atomic_table.proofs.Lists.{at_set, at_longer, set_else}
use Rattle.fp_order.specs.declared.entry.Entry.{Entry}
use Rattle.fp_shown.specs.declared.state.CellState.{CellState}
use Rattle.fp_shown.specs.declared.state.CellState.TheVariants.{Free}
use Rattle.fp_shown.specs.Machine as machine
use Rattle.fp_board_rule.specs.declared.plan.Plan.{Plan}
use Rattle.fp_board_rule.specs.declared.view.View.{View}
use Rattle.fp_board_rule.specs.Words.{word_at, known_in, noted_in, states_of}
use Rattle.fp_board_rule.specs.Rule.{count_of, IsPlan, Fits, Has, Kept, first_view}
use Rattle.fp_board_rule.specs.Steps.{left_part, right_part, taken_in, nobody, known_both, noted_both}
use Rattle.fp_board_rule.proofs.Words.{code_low, code_one}
use Rattle.fp_board_rule.proofs.Moves.{at_put, same_at, seat_after}
use Rattle.fp_board_rule.proofs.Keeps.{Rule}

pub get_or-replicate : {A : Type 0} (n k : ℕ) (a : A) → get_or (replicate n a) k a ≡ a
get_or-replicate zero k a = refl
get_or-replicate (suc n) zero a = refl
get_or-replicate (suc n) (suc k) a = get_or-replicate n k a

pub length-replicate' : {A : Type 0} (n : ℕ) (a : A) → length (replicate n a) ≡ n
length-replicate' zero a = refl
length-replicate' (suc n) a = let h = length-replicate' n a in omega arith

at_one : {A : Type 0} (a b : A) (i : ℕ) → get_elem? (a ∷ []) i ≡ some b → (i ≡ 0) × (a ≡ b)
at_one a b zero e = (refl, some-injective a b e)
at_one a b (suc i) e = absurd (some-ne-none b (sym e))

-- all cells are free
free_states : (n : ℕ) (ws : List ℕ) → n ≤ length ws → ((k : ℕ) → word_at ws k ≡ 0) → states_of n ws ≡ replicate n Free
free_states zero ws room zeros = refl
free_states (suc n) [] room zeros = absurd (omega arith)
free_states (suc n) (x ∷ ws) room zeros = let z : x ≡ 0 = zeros 0 in let h = free_states n ws (omega arith) (λ k. zeros (suc k)) in
    ap (λ (q : ℕ). states_of (suc n) (q ∷ ws)) z ∙ ap (λ (t : List CellState). Free ∷ t) h

pub starts : (plan : Plan) (ws : List ℕ) → IsPlan plan → count_of plan ≤ length ws → ((k : ℕ) → word_at ws k ≡ 0) → Kept plan ws (first_view plan ∷ [])
starts plan ws right room zeros =
    let known : (k : ℕ) (e : Entry) → known_in (first_view plan).known k ≡ Some e → ⊥ = λ k e is. let w : None ≡ Some e = sym (get_or-replicate (count_of plan) k None) ∙ is in cc in
    let noted : (k : ℕ) → noted_in (first_view plan).noted k ≡ true → ⊥ = λ k is. let w : false ≡ true = sym (get_or-replicate (count_of plan) k false) ∙ is in cc in
    let fits : Fits plan ws (first_view plan) = record {
      known_long = length-replicate' (count_of plan) None;
      noted_long = length-replicate' (count_of plan) false;
      high = omega arith;
      known = λ k e is. absurd (known k e is);
      noted = λ k is. absurd (noted k is);
      claim = λ k is. let w : None ≡ Some k = is in cc;
    } in
    record {
      right = right;
      long = room;
      reached = λ full are. record { events = []; plays = subst (machine.Plays plan.grid full (replicate (count_of plan) Free) []) (sym (free_states (count_of plan) ws room zeros)) (machine.none (replicate (count_of plan) Free)) };
      spare = λ k past. zeros k;
      legal = λ k l. inl (zeros k);
      fits = λ i u at up. subst (Fits plan ws) (at_one (first_view plan) u i at).1 fits;
      claimed = λ k m l is up. let z = zeros k in absurd (omega arith);
      apart = λ i j u w at at' up same. (at_one (first_view plan) u i at).0 ∙ sym (at_one (first_view plan) w j at').0;
      headed = record {
        id = 0;
        head = first_view plan;
        at = refl;
        one = refl;
        long = refl;
        low = omega arith;
        high = omega arith;
        listed = λ i u at up. let e = ap (λ (z : View). z.number) (at_one (first_view plan) u i at).1 in absurd (omega arith);
        only = λ m is. let w : false ≡ true = sym (get_or-replicate 17 m false) ∙ is in absurd (let z : ⊥ = cc in z);
      };
      shown = λ k l is. let z = zeros k in absurd (omega arith);
      settled_known = λ k e l is. let z = zeros k in let low = code_low e in absurd (omega arith);
      cancelled_noted = λ k l is. let z = zeros k in absurd (omega arith);
    }

at_snoc_there : {A : Type 0} (l : List A) (a b : A) (j : ℕ) → get_elem? (l ++ a ∷ []) j ≡ some b → (get_elem? l j ≡ some b) ⊎ ((j ≡ length l) × (a ≡ b))
at_snoc_there [] a b zero e = inr (refl, some-injective a b e)
at_snoc_there [] a b (suc j) e = absurd (some-ne-none b (sym e))
at_snoc_there (x ∷ xs) a b zero e = inl e
at_snoc_there (x ∷ xs) a b (suc j) e = ⊎_elim (λ p. inl p) (λ (p : (j ≡ length xs) × (a ≡ b)). inr (let q = p.0 in omega arith, p.1)) (at_snoc_there xs a b j e)

at_end : {A : Type 0} (l : List A) (a : A) → get_elem? (l ++ a ∷ []) (length l) ≡ some a
at_end [] a = refl
at_end (x ∷ xs) a = at_end xs a

more_has : (P : View → Type 0) (views : List View) (w : View) → Has views P → Has (views ++ w ∷ []) P
more_has P views w h = (h.0, h.1, at_longer views (w ∷ []) h.0 h.1 h.2, h.3)

set_was : (xs : List Bool) (k j : ℕ) → noted_in (set xs k true) j ≡ true → (noted_in xs j ≡ true) ⊎ (j ≡ k)
set_was [] k j e = inl e
set_was (x ∷ xs) zero zero e = inr refl
set_was (x ∷ xs) zero (suc j) e = inl e
set_was (x ∷ xs) (suc k) zero e = inl e
set_was (x ∷ xs) (suc k) (suc j) e = ⊎_elim (λ p. inl p) (λ p. inr (ap suc p)) (set_was xs k j e)

set_stays : (xs : List Bool) (k j : ℕ) → noted_in xs j ≡ true → noted_in (set xs k true) j ≡ true
set_stays [] k j is = is
set_stays (x ∷ xs) zero zero is = refl
set_stays (x ∷ xs) zero (suc j) is = is
set_stays (x ∷ xs) (suc k) zero is = is
set_stays (x ∷ xs) (suc k) (suc j) is = set_stays xs k j is

-- the view of number 1 is the first seat's
first_is : (plan : Plan) (ws : List ℕ) (views : List View) (id : ℕ) (v : View) (r : Kept plan ws views) → get_elem? views id ≡ some v → v.number ≡ 1 → r.headed.head ≡ v
first_is plan ws views id v r me one = let h = r.headed in
    same_at views h.id id h.head v h.at me (r.apart h.id id h.head v h.at me (subst (λ (n : ℕ). 0 < n) (sym h.one) (omega arith)) (h.one ∙ sym one))

pub splits : (plan : Plan) (id : ℕ) (v : View) → v.number ≡ 1 → v.given < 16 → Splits (Rule plan) id v (left_part v) (right_part v)
splits plan id v one room s r me =
    let ws = s.words in let views = s.views in let l = left_part v in let n = right_part v in let h = r.headed in
    let is_head : h.head ≡ v = first_is plan ws views id v r me one in
    let long : length v.out ≡ 17 = ap (λ (u : View). length u.out) (sym is_head) ∙ h.long in
    let low : 1 ≤ v.given = subst (λ (u : View). 1 ≤ u.given) is_head h.low in
    let f : Fits plan ws v = r.fits id v me (omega arith) in
    -- any view but the new one has an old number
    let old : (i : ℕ) (u : View) → get_elem? (set views id l) i ≡ some u → (z : View) × (get_elem? views i ≡ some z) × (z.number ≡ u.number) = λ i u at. ⊎_elim
    (λ (t : (i ≡ id) × (l ≡ u)). let out : (z : View) × (get_elem? views i ≡ some z) × (z.number ≡ u.number) = (v, ap (λ (q : ℕ). get_elem? views q) t.0 ∙ me, ap (λ (z : View). z.number) t.1) in out)
    (λ (t : (i ≢ id) × (get_elem? views i ≡ some u)). (u, t.1, refl)) (at_set views id i l u at) in
    let below : (i : ℕ) (z : View) → get_elem? views i ≡ some z → z.number ≢ v.given + 1 = λ i z at same. let listed = h.listed i z at (omega arith) in let o = h.only z.number listed in
    let a : z.number ≤ v.given = subst (λ (u : View). z.number ≤ u.given) is_head o.1 in omega arith in
    let has : (P : View → Type 0) → Has views P → (P v → P l) → Has (set views id l ++ n ∷ []) P = λ P p goes. more_has P (set views id l) n (seat_after P views id v l me p goes) in
    record {
      right = r.right;
      long = r.long;
      reached = r.reached;
      spare = r.spare;
      legal = r.legal;
      fits = λ i u at up. ⊎_elim (λ a. ⊎_elim
          (λ (t : (i ≡ id) × (l ≡ u)). subst (Fits plan ws) t.1 record { known_long = f.known_long; noted_long = f.noted_long; high = f.high; known = f.known; noted = f.noted; claim = f.claim })
          (λ (t : (i ≢ id) × (get_elem? views i ≡ some u)). r.fits i u t.1 up) (at_set views id i l u a))
          (λ (t : (i ≡ length (set views id l)) × (n ≡ u)). subst (Fits plan ws) t.1 record { known_long = f.known_long; noted_long = f.noted_long; high = omega arith; known = f.known; noted = f.noted; claim = λ k is. let w : None ≡ Some k = is in cc })
          (at_snoc_there (set views id l) n u i at);
      claimed = λ k m near is up. has (λ u. (u.number ≡ m) × (u.claim ≡ Some k)) (r.claimed k m near is up) (λ p. p);
      apart = λ i j u w at at' up same. ⊎_elim
          (λ a. let x = old i u a in ⊎_elim
          (λ b. let y = old j w b in r.apart i j x.0 y.0 x.1 y.1 (subst (λ (q : ℕ). 0 < q) (sym x.2) up) (x.2 ∙ same ∙ sym y.2))
          (λ (t : (j ≡ length (set views id l)) × (n ≡ w)). absurd (below i x.0 x.1 (x.2 ∙ same ∙ ap (λ (z : View). z.number) (sym t.1))))
          (at_snoc_there (set views id l) n w j at'))
          (λ (t : (i ≡ length (set views id l)) × (n ≡ u)). ⊎_elim
          (λ b. let y = old j w b in absurd (below j y.0 y.1 (y.2 ∙ sym same ∙ ap (λ (z : View). z.number) (sym t.1))))
          (λ (q : (j ≡ length (set views id l)) × (n ≡ w)). t.0 ∙ sym q.0)
          (at_snoc_there (set views id l) n w j at'))
          (at_snoc_there (set views id l) n u i at);
      headed = record {
        id = id;
        head = l;
        at = at_longer (set views id l) (n ∷ []) id l (at_put views id v l me);
        one = one;
        long = length-set v.out (v.given + 1) true ∙ long;
        low = omega arith;
        high = omega arith;
        listed = λ i u at up. ⊎_elim
            (λ a. let x = old i u a in let was : noted_in v.out u.number ≡ true = ap (λ (z : View). noted_in z.out u.number) (sym is_head) ∙ ap (noted_in h.head.out) (sym x.2) ∙ h.listed i x.0 x.1 (subst (λ (q : ℕ). 1 < q) (sym x.2) up) in
            set_stays v.out (v.given + 1) u.number was)
            (λ (t : (i ≡ length (set views id l)) × (n ≡ u)). ap (noted_in (set v.out (v.given + 1) true)) (ap (λ (z : View). z.number) (sym t.1)) ∙ get_or-set_same v.out (v.given + 1) true false (omega arith))
            (at_snoc_there (set views id l) n u i at);
        only = λ m is. ⊎_elim
            (λ was. let o = h.only m (ap (λ (z : View). noted_in z.out m) is_head ∙ was) in let a : m ≤ v.given = subst (λ (u : View). m ≤ u.given) is_head o.1 in
            let out : (1 < m) × (m ≤ v.given + 1) × Has (set views id l ++ n ∷ []) (λ u. u.number ≡ m) = (o.0, (omega arith), has (λ u. u.number ≡ m) o.2 (λ p. p)) in out)
            (λ e. let out : (1 < m) × (m ≤ v.given + 1) × Has (set views id l ++ n ∷ []) (λ u. u.number ≡ m) = ((omega arith), (omega arith), (length (set views id l), n, at_end (set views id l) n, sym e)) in out)
            (set_was v.out (v.given + 1) m is);
      };
      shown = r.shown;
      settled_known = λ k e near is. has (λ u. (0 < u.number) × (known_in u.known k ≡ Some e)) (r.settled_known k e near is) (λ p. p);
      cancelled_noted = λ k near is. has (λ u. (0 < u.number) × (noted_in u.noted k ≡ true)) (r.cancelled_noted k near is) (λ p. p);
    }

known_both_was : (xs ys : List (Option Entry)) (j : ℕ) (e : Entry) → known_in (known_both xs ys) j ≡ Some e → (known_in xs j ≡ Some e) ⊎ (known_in ys j ≡ Some e)
known_both_was [] ys j e is = inl is
known_both_was (x ∷ xs) [] j e is = inl is
known_both_was (None ∷ xs) (y ∷ ys) zero e is = inr is
known_both_was (Some a ∷ xs) (y ∷ ys) zero e is = inl is
known_both_was (None ∷ xs) (y ∷ ys) (suc j) e is = known_both_was xs ys j e is
known_both_was (Some a ∷ xs) (y ∷ ys) (suc j) e is = known_both_was xs ys j e is

known_both_left : (xs ys : List (Option Entry)) (j : ℕ) (e : Entry) → known_in xs j ≡ Some e → known_in (known_both xs ys) j ≡ Some e
known_both_left [] ys j e is = is
known_both_left (x ∷ xs) [] j e is = is
known_both_left (None ∷ xs) (y ∷ ys) zero e is = let w : None ≡ Some e = is in cc
known_both_left (Some a ∷ xs) (y ∷ ys) zero e is = is
known_both_left (None ∷ xs) (y ∷ ys) (suc j) e is = known_both_left xs ys j e is
known_both_left (Some a ∷ xs) (y ∷ ys) (suc j) e is = known_both_left xs ys j e is

-- the two agree where both know
known_both_right : (xs ys : List (Option Entry)) (j : ℕ) (e : Entry) → length ys ≤ length xs → ((a : Entry) → known_in xs j ≡ Some a → a ≡ e) → known_in ys j ≡ Some e → known_in (known_both xs ys) j ≡ Some e
known_both_right [] [] j e room same is = is
known_both_right [] (y ∷ ys) j e room same is = absurd (omega arith)
known_both_right (x ∷ xs) [] j e room same is = let w : None ≡ Some e = is in cc
known_both_right (None ∷ xs) (y ∷ ys) zero e room same is = is
known_both_right (Some a ∷ xs) (y ∷ ys) zero e room same is = ap Some (same a refl)
known_both_right (None ∷ xs) (y ∷ ys) (suc j) e room same is = known_both_right xs ys j e (omega arith) same is
known_both_right (Some a ∷ xs) (y ∷ ys) (suc j) e room same is = known_both_right xs ys j e (omega arith) same is

length-known_both : (xs ys : List (Option Entry)) → length (known_both xs ys) ≡ length xs
length-known_both [] ys = refl
length-known_both (x ∷ xs) [] = refl
length-known_both (None ∷ xs) (y ∷ ys) = let h = length-known_both xs ys in omega arith
length-known_both (Some a ∷ xs) (y ∷ ys) = let h = length-known_both xs ys in omega arith

noted_both_was : (xs ys : List Bool) (j : ℕ) → noted_in (noted_both xs ys) j ≡ true → (noted_in xs j ≡ true) ⊎ (noted_in ys j ≡ true)
noted_both_was [] ys j is = inl is
noted_both_was (x ∷ xs) [] j is = inl is
noted_both_was (false ∷ xs) (y ∷ ys) zero is = inr is
noted_both_was (true ∷ xs) (y ∷ ys) zero is = inl is
noted_both_was (false ∷ xs) (y ∷ ys) (suc j) is = noted_both_was xs ys j is
noted_both_was (true ∷ xs) (y ∷ ys) (suc j) is = noted_both_was xs ys j is

noted_both_left : (xs ys : List Bool) (j : ℕ) → noted_in xs j ≡ true → noted_in (noted_both xs ys) j ≡ true
noted_both_left [] ys j is = is
noted_both_left (x ∷ xs) [] j is = is
noted_both_left (false ∷ xs) (y ∷ ys) zero is = let w : false ≡ true = is in cc
noted_both_left (true ∷ xs) (y ∷ ys) zero is = is
noted_both_left (false ∷ xs) (y ∷ ys) (suc j) is = noted_both_left xs ys j is
noted_both_left (true ∷ xs) (y ∷ ys) (suc j) is = noted_both_left xs ys j is

noted_both_right : (xs ys : List Bool) (j : ℕ) → length ys ≤ length xs → noted_in ys j ≡ true → noted_in (noted_both xs ys) j ≡ true
noted_both_right [] [] j room is = is
noted_both_right [] (y ∷ ys) j room is = absurd (omega arith)
noted_both_right (x ∷ xs) [] j room is = let w : false ≡ true = is in cc
noted_both_right (false ∷ xs) (y ∷ ys) zero room is = is
noted_both_right (true ∷ xs) (y ∷ ys) zero room is = refl
noted_both_right (false ∷ xs) (y ∷ ys) (suc j) room is = noted_both_right xs ys j (omega arith) is
noted_both_right (true ∷ xs) (y ∷ ys) (suc j) room is = noted_both_right xs ys j (omega arith) is

length-noted_both : (xs ys : List Bool) → length (noted_both xs ys) ≡ length xs
length-noted_both [] ys = refl
length-noted_both (x ∷ xs) [] = refl
length-noted_both (false ∷ xs) (y ∷ ys) = let h = length-noted_both xs ys in omega arith
length-noted_both (true ∷ xs) (y ∷ ys) = let h = length-noted_both xs ys in omega arith

pub set_false : (xs : List Bool) (k j : ℕ) → noted_in (set xs k false) j ≡ true → (j ≢ k) × (noted_in xs j ≡ true)
set_false [] k j e = let w : false ≡ true = e in absurd (let z : ⊥ = cc in z)
set_false (x ∷ xs) zero zero e = let w : false ≡ true = e in absurd (let z : ⊥ = cc in z)
set_false (x ∷ xs) zero (suc j) e = ((λ q. omega arith), e)
set_false (x ∷ xs) (suc k) zero e = ((λ q. omega arith), e)
set_false (x ∷ xs) (suc k) (suc j) e = let p = set_false xs k j e in ((λ q. p.0 (omega arith)), p.1)

pub joins : (plan : Plan) (id other : ℕ) (v w : View) → v.number ≡ 1 → 0 < w.number → w.claim ≡ None → Joins (Rule plan) id v other w (taken_in v w) nobody
joins plan id other v w one up idle s r me ne there =
    let ws = s.words in let views = s.views in let b = taken_in v w in let h = r.headed in
    let at_w : get_elem? views other ≡ some w = sym (set_else views id other b ne) ∙ there in
    let is_head : h.head ≡ v = first_is plan ws views id v r me one in
    let f : Fits plan ws v = r.fits id v me (omega arith) in let g : Fits plan ws w = r.fits other w at_w up in
    let end : List View = set (set views id b) other nobody in
    let at_b : get_elem? end id ≡ some b = set_else (set views id b) other id nobody (λ e. ne (sym e)) ∙ at_put views id v b me in
    let as_long : length w.known ≤ length v.known = let p = f.known_long in let q = g.known_long in omega arith in
    let as_long' : length w.noted ≤ length v.noted = let p = f.noted_long in let q = g.noted_long in omega arith in
    -- a seat with a number is as it was, or is the first
    let old : (i : ℕ) (u : View) → get_elem? end i ≡ some u → 0 < u.number → (i ≢ other) × (((i ≡ id) × (b ≡ u)) ⊎ ((i ≢ id) × (get_elem? views i ≡ some u))) = λ i u at pos. ⊎_elim
    (λ (t : (i ≡ other) × (nobody ≡ u)). let e = ap (λ (z : View). z.number) t.1 in absurd (omega arith))
    (λ (t : (i ≢ other) × (get_elem? (set views id b) i ≡ some u)). (t.0, at_set views id i b u t.1)) (at_set (set views id b) other i nobody u at) in
    let was : (i : ℕ) (u : View) → get_elem? end i ≡ some u → 0 < u.number → (z : View) × (get_elem? views i ≡ some z) × (z.number ≡ u.number) = λ i u at pos. ⊎_elim
    (λ (t : (i ≡ id) × (b ≡ u)). let out : (z : View) × (get_elem? views i ≡ some z) × (z.number ≡ u.number) = (v, ap (λ (q : ℕ). get_elem? views q) t.0 ∙ me, ap (λ (z : View). z.number) t.1) in out)
    (λ (t : (i ≢ id) × (get_elem? views i ≡ some u)). (u, t.1, refl)) (old i u at pos).1 in
    let has : (P : View → Type 0) → Has views P → (P v → P b) → (P w → P b) → Has end P = λ P p from_v from_w. dite (ℕ_discrete p.0 id)
    (λ e. let out : Has end P = (id, b, at_b, from_v (subst P (same_at views p.0 id p.1 v p.2 me e) p.3)) in out)
    (λ not_id. dite (ℕ_discrete p.0 other)
    (λ e. let out : Has end P = (id, b, at_b, from_w (subst P (same_at views p.0 other p.1 w p.2 at_w e) p.3)) in out)
    (λ not_other. (p.0, p.1, set_else (set views id b) other p.0 nobody not_other ∙ (set_else views id p.0 b not_id ∙ p.2), p.3))) in
    record {
      right = r.right;
      long = r.long;
      reached = r.reached;
      spare = r.spare;
      legal = r.legal;
      fits = λ i u at pos. ⊎_elim
          (λ (t : (i ≡ id) × (b ≡ u)). subst (Fits plan ws) t.1 record {
            known_long = length-known_both v.known w.known ∙ f.known_long;
            noted_long = length-noted_both v.noted w.noted ∙ f.noted_long;
            high = f.high;
            known = λ k e is. ⊎_elim (λ p. f.known k e p) (λ p. g.known k e p) (known_both_was v.known w.known k e is);
            noted = λ k is. ⊎_elim (λ p. f.noted k p) (λ p. g.noted k p) (noted_both_was v.noted w.noted k is);
            claim = f.claim;
          })
          (λ (t : (i ≢ id) × (get_elem? views i ≡ some u)). r.fits i u t.1 pos) (old i u at pos).1;
      claimed = λ k m near is pos. has (λ u. (u.number ≡ m) × (u.claim ≡ Some k)) (r.claimed k m near is pos) (λ p. p) (λ p. let z : None ≡ Some k = sym idle ∙ p.1 in absurd (let y : ⊥ = cc in y));
      apart = λ i j u z at at' pos same. let x = was i u at pos in let y = was j z at' (subst (λ (q : ℕ). 0 < q) same pos) in
          r.apart i j x.0 y.0 x.1 y.1 (subst (λ (q : ℕ). 0 < q) (sym x.2) pos) (x.2 ∙ same ∙ sym y.2);
      headed = record {
        id = id;
        head = b;
        at = at_b;
        one = one;
        long = length-set v.out w.number false ∙ ap (λ (u : View). length u.out) (sym is_head) ∙ h.long;
        low = subst (λ (u : View). 1 ≤ u.given) is_head h.low;
        high = subst (λ (u : View). u.given ≤ 16) is_head h.high;
        listed = λ i u at pos. let x = was i u at (omega arith) in let far : i ≢ other = (old i u at (omega arith)).0 in
            let apart : u.number ≢ w.number = λ e. far (r.apart i other x.0 w x.1 at_w (subst (λ (q : ℕ). 0 < q) (sym x.2) (omega arith)) (x.2 ∙ e)) in
            get_or-set_other v.out w.number u.number false false apart ∙ (ap (λ (z : View). noted_in z.out u.number) (sym is_head) ∙ (ap (noted_in h.head.out) (sym x.2) ∙ h.listed i x.0 x.1 (subst (λ (q : ℕ). 1 < q) (sym x.2) pos)));
        only = λ m is. let p = set_false v.out w.number m is in let o = h.only m (ap (λ (z : View). noted_in z.out m) is_head ∙ p.1) in
            (o.0, subst (λ (u : View). m ≤ u.given) is_head o.1, has (λ u. u.number ≡ m) o.2 (λ q. q) (λ q. absurd (p.0 (sym q))));
      };
      shown = r.shown;
      settled_known = λ k e near is. has (λ u. (0 < u.number) × (known_in u.known k ≡ Some e)) (r.settled_known k e near is) (λ p. (p.0, known_both_left v.known w.known k e p.1))
          (λ p. (subst (λ (q : ℕ). 0 < q) (sym one) (omega arith), known_both_right v.known w.known k e as_long (λ a at_a. code_one a e (sym (f.known k a at_a) ∙ g.known k e p.1)) p.1));
      cancelled_noted = λ k near is. has (λ u. (0 < u.number) × (noted_in u.noted k ≡ true)) (r.cancelled_noted k near is) (λ p. (p.0, noted_both_left v.noted w.noted k p.1))
          (λ p. (subst (λ (q : ℕ). 0 < q) (sym one) (omega arith), noted_both_right v.noted w.noted k as_long' p.1));
    }
