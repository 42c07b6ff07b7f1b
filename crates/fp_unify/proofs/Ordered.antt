-- Settling the types of a table one after another.
use Rattle.std.proofs.Common.{◌≡◌, ◌∙◌, ◌<◌, ◌≤◌, ◌≢◌, ◌+◌, ◌==◌, ◌⊎◌, inl, inr, ℕ, zero, suc, Bool, true, false, cond, ◌&&◌, List, [], ◌∷◌, ◌++◌, length, drop, get_or, set, replicate, refl, sym, ap, arith}
use Rattle.std.specs.Bool.{MatchBool}
use Rattle.std.specs.List.{list_all}
use Rattle.std.proofs.lemmas.List.{drop_more, get_or-set_other, length-set, get_or-replicate, length-replicate, get_or_past}
use Rattle.std.proofs.lemmas.Bool.{cases_eq, cases_lt, both_ways}
use Rattle.std.proofs.lemmas.Bool.Decides.{Decides-eqb}
use Rattle.fp_term.specs.Types.{Typ, variable, applied, type_size, types_size}
use Rattle.fp_unify.specs.Facts.{types_at, AllBelow}
use Rattle.fp_unify.specs.Cells.{cell, Meets, Fits, IsFine, AreFine}
use Rattle.fp_unify.specs.Settled.{flag, is_ready, IsListed, upto, AreUnder, Lists, Settles, nothing, next, Settled, AreStuck, Going, Rounds, Between, NoneSettled, AllSettled, Determines, Unfit}
use Rattle.fp_unify.specs.declared.table.Shape.{Shape}
use Rattle.fp_unify.specs.declared.table.Shape.TheVariants.{Open, Link, Var, Con}

and_both : (a b : Bool) → (a && b) ≡ true → (a ≡ true) × (b ≡ true)
and_both true b e = (refl, e)
and_both false b e = cc

listed_push : (j x : ℕ) (xs : List ℕ) → IsListed j xs → IsListed j (xs ++ x ∷ [])
listed_push j x [] h = absurd h
listed_push j x (y ∷ xs) (inl e) = inl e
listed_push j x (y ∷ xs) (inr h) = inr (listed_push j x xs h)

listed_last : (j x : ℕ) (xs : List ℕ) → j ≡ x → IsListed j (xs ++ x ∷ [])
listed_last j x [] e = inl e
listed_last j x (y ∷ xs) e = inr (listed_last j x xs e)

listed_pushed : (j x : ℕ) (xs : List ℕ) → IsListed j (xs ++ x ∷ []) → IsListed j xs ⊎ (j ≡ x)
listed_pushed j x [] (inl e) = inr e
listed_pushed j x [] (inr h) = absurd h
listed_pushed j x (y ∷ xs) (inl e) = inl (inl e)
listed_pushed j x (y ∷ xs) (inr h) = elim (listed_pushed j x xs h) [ inl l ↦ inl (inr l) | inr e ↦ inr e ]

under_push : (n x : ℕ) (xs : List ℕ) → AreUnder n xs → x < n → AreUnder n (xs ++ x ∷ [])
under_push n x [] h l = (l, tt)
under_push n x (y ∷ xs) h l = (h.0, under_push n x xs h.1 l)

under_more : (n m : ℕ) (xs : List ℕ) → n ≤ m → AreUnder n xs → AreUnder m xs
under_more n m [] l h = tt
under_more n m (x ∷ xs) l h = (omega arith, under_more n m xs l h.1)

pub upto_under : (n : ℕ) → AreUnder n (upto n)
upto_under zero = tt
upto_under (suc n) = under_push (suc n) n (upto n) (under_more n (suc n) (upto n) (omega arith) (upto_under n)) (omega arith)

upto_by : (n j : ℕ) → (j < n → IsListed j (upto n)) → (j < n) ⊎ (n ≤ j) → j < suc n → IsListed j (upto n ++ n ∷ [])
upto_by n j h (inl l) k = listed_push j n (upto n) (h l)
upto_by n j h (inr r) k = listed_last j n (upto n) (omega arith)

upto_lists : (n j : ℕ) → j < n → IsListed j (upto n)
upto_lists zero j h = absurd (omega arith)
upto_lists (suc n) j h = upto_by n j (upto_lists n j) (cases_lt j n) h

pub lists_upto : (n : ℕ) (flags : List Bool) → length flags ≡ n → Lists flags (upto n)
lists_upto n flags e = record { all = λ j l f. upto_lists n j (omega arith) }

length_one : (xs : List ℕ) (y : ℕ) → length (xs ++ y ∷ []) ≡ length xs + 1
length_one [] y = refl
length_one (x ∷ xs) y = omega (arith, length_one xs y)

-- one more type of a round
module _ (cells : List Shape) (n x : ℕ) (first old new : List Bool) (rest todo : List ℕ) (kept : length first ≡ length cells) (g : Going cells n first old rest (x ∷ todo)) where
  set_listed : (j : ℕ) → flag new j ≡ false → flag new x ≡ true → IsListed j rest ⊎ IsListed j (x ∷ todo) → IsListed j rest ⊎ IsListed j todo
  set_listed j f t (inl h) = inl h
  set_listed j f t (inr (inl e)) = absurd (both_ways (flag new x) (rw e at f) t)
  set_listed j f t (inr (inr h)) = inr h

  was_unset : (j : ℕ) → (j ≡ x) ⊎ (j ≡ x → ⊥) → flag new x ≡ true → new ≡ set old x true → flag new j ≡ false → flag old j ≡ false
  was_unset j (inl e) t s f = absurd (both_ways (flag new x) (rw e at f) t)
  was_unset j (inr ne) t s f = sym (get_or-set_other old x j true false ne) ∙ (rw s at f)

  pub going_settled : Settled cells x old new true → Going cells (n + 1) first new rest todo
  going_settled (t, inl same) =
      record {
        kept = rw same g.kept;
        settles = rw same g.settles;
        lists = λ j l f. set_listed j f t (g.lists j (rw same at l) (rw same at f));
        inside = g.inside;
        later = g.later.1;
        fewer = omega (arith, g.fewer);
        stuck = λ e. absurd (omega (arith, g.fewer));
      }
  going_settled (t, inr s) =
      record {
        kept = rw s.0 (length-set old x true ∙ g.kept);
        settles = rw s.0 (next old x g.settles s.1 s.2);
        lists = λ j l f. let less : j < length old = omega (arith, l, ap length s.0, length-set old x true) in set_listed j f t (g.lists j less (was_unset j (cases_eq j x) t s.0 f));
        inside = g.inside;
        later = g.later.1;
        fewer = omega (arith, g.fewer);
        stuck = λ e. absurd (omega (arith, g.fewer));
      }

  unset_listed : (j : ℕ) → IsListed j rest ⊎ IsListed j (x ∷ todo) → IsListed j (rest ++ x ∷ []) ⊎ IsListed j todo
  unset_listed j (inl h) = inl (listed_push j x rest h)
  unset_listed j (inr (inl e)) = inl (listed_last j x rest e)
  unset_listed j (inr (inr h)) = inr h

  stuck_by : (j : ℕ) → flag old x ≡ false → is_ready old (cell cells x) ≡ false → first ≡ old → AreStuck cells first rest → IsListed j rest ⊎ (j ≡ x) → (flag first j ≡ false) × (is_ready first (cell cells j) ≡ false)
  stuck_by j f r e s (inl h) = s.each j h
  stuck_by j f r e s (inr is) = rw (e, is) (f, r)

  pub going_left : (last : List ℕ) → last ≡ rest ++ x ∷ [] → Settled cells x old new false → Going cells (n + 1) first new last todo
  going_left last put s =
      let one : length last ≡ length rest + 1 = ap length put ∙ length_one rest x in
      record {
        kept = rw s.0 g.kept;
        settles = rw s.0 g.settles;
        lists = λ j l f. rw put (unset_listed j (g.lists j (rw s.0 at l) (rw s.0 at f)));
        inside = rw put (under_push (length cells) x rest g.inside g.later.0);
        later = g.later.1;
        fewer = omega (arith, g.fewer, one);
        stuck = λ e.
            let p = g.stuck (omega (arith, one, e)) in
            (s.0 ∙ p.0, record { each = λ j h. stuck_by j s.1 s.2 (sym p.0) p.1 (listed_pushed j x rest (rw put at h)) });
      }

pub going_read : (cells : List Shape) (n : ℕ) (first old : List Bool) (rest left : List ℕ) (d i : ℕ) → i < length left → Going cells n first old rest (drop i left) → Going cells n first old rest (get_or left i d ∷ drop (i + 1) left)
going_read cells n first old rest left d i less g = rw (drop_more left i d less) at g

pub going_none : (cells : List Shape) (flags : List Bool) (rest left : List ℕ) → rest ≡ [] → Settles cells flags → Lists flags left → AreUnder (length cells) left → Going cells 0 flags flags rest left
going_none cells flags rest left e s l u =
    rw e (record { kept = refl; settles = s; lists = λ j h f. inr (l.all j h f); inside = tt; later = u; fewer = omega arith; stuck = λ z. (refl, record { each = λ j h. absurd h }) })

listed_now : (j : ℕ) (rest : List ℕ) → IsListed j rest ⊎ ⊥ → IsListed j rest
listed_now j rest (inl h) = h
listed_now j rest (inr b) = absurd b

pub going_all : (cells : List Shape) (n : ℕ) (old new : List Bool) (rest todo : List ℕ) → todo ≡ [] → Going cells n old new rest todo → Rounds cells n old new rest
going_all cells n old new rest todo e h =
    let g : Going cells n old new rest [] = rw e at h in
    record {
      kept = g.kept;
      settles = g.settles;
      lists = record { all = λ j l f. listed_now j rest (g.lists j l f) };
      inside = g.inside;
      fewer = g.fewer;
      stuck = λ z. let p = g.stuck z in rw p.0 p.1;
    }

none_by : (n i : ℕ) → (i < n) ⊎ (n ≤ i) → flag (replicate n false) i ≡ false
none_by n i (inl h) = get_or-replicate n i false false h
none_by n i (inr h) = get_or_past (replicate n false) i false (omega (arith, length-replicate n false))

pub none_in : (n : ℕ) → NoneSettled (replicate n false)
none_in n = record { none = λ i. none_by n i (cases_lt i n) }

-- what became settled stays so
module _ (flags : List Bool) (k : ℕ) (unset : flag flags k ≡ false) where
  other : (i : ℕ) → flag flags i ≡ true → i ≢ k
  other i f same = both_ways (flag flags k) unset (rw (← same) f)

  flag_set : (i : ℕ) → flag flags i ≡ true → flag (set flags k true) i ≡ true
  flag_set i f = get_or-set_other flags k i true false (other i f) ∙ f

  all_set : (xs : List ℕ) → list_all (flag flags) xs ≡ true → list_all (flag (set flags k true)) xs ≡ true
  all_set [] h = refl
  all_set (x ∷ xs) h = let b = and_both (flag flags x) (list_all (flag flags) xs) h in rw (flag_set x b.0, all_set xs b.1) refl

  ready_set : (s : Shape) → is_ready flags s ≡ true → is_ready (set flags k true) s ≡ true
  ready_set Open h = refl
  ready_set (Link j) h = flag_set j h
  ready_set (Var a) h = refl
  ready_set (Con a xs) h = all_set xs h

-- types that are alike where they are settled make the same types
module _ (flags : List Bool) (v w : ℕ → Typ) (alike : (i : ℕ) → flag flags i ≡ true → v i ≡ w i) where
  types_alike : (xs : List ℕ) → list_all (flag flags) xs ≡ true → types_at v xs ≡ types_at w xs
  types_alike [] h = refl
  types_alike (x ∷ xs) h = let b = and_both (flag flags x) (list_all (flag flags) xs) h in rw (alike x b.0, types_alike xs b.1) refl

  same_by : (k : ℕ) (s : Shape) → Meets v k s → Meets w k s → (s ≡ Open → v k ≡ w k) → is_ready flags s ≡ true → v k ≡ w k
  same_by k Open h g own r = own refl
  same_by k (Link j) h g own r = h ∙ alike j r ∙ sym g
  same_by k (Var a) h g own r = h ∙ sym g
  same_by k (Con a xs) h g own r = h ∙ ap (applied a) (types_alike xs r) ∙ sym g

-- the type that a form gives
abbrev shaped : (ℕ → Typ) → Typ → Shape → Typ
shaped v own Open = own
shaped v own (Link j) = v j
shaped v own (Var a) = variable a
shaped v own (Con a xs) = applied a (types_at v xs)

shaped_alike : (flags : List Bool) (v w : ℕ → Typ) → ((i : ℕ) → flag flags i ≡ true → v i ≡ w i) → (own : Typ) (s : Shape) → is_ready flags s ≡ true → shaped v own s ≡ shaped w own s
shaped_alike flags v w alike own Open r = refl
shaped_alike flags v w alike own (Link j) r = alike j r
shaped_alike flags v w alike own (Var a) r = refl
shaped_alike flags v w alike own (Con a xs) r = ap (applied a) (types_alike flags v w alike xs r)

shaped_meets : (v : ℕ → Typ) (i : ℕ) (own : Typ) (s : Shape) → v i ≡ shaped v own s → Meets v i s
shaped_meets v i own Open e = tt
shaped_meets v i own (Link j) e = e
shaped_meets v i own (Var a) e = e
shaped_meets v i own (Con a xs) e = e

abbrev pub put : (ℕ → Typ) → ℕ → Typ → ℕ → Typ
put v k t i = cond (i == k) t (v i)

pub put_same : (v : ℕ → Typ) (k : ℕ) (t : Typ) → put v k t k ≡ t
put_same v k t = rw ((Decides-eqb k k).1 refl) refl

put_by : (v : ℕ → Typ) (k : ℕ) (t : Typ) (i : ℕ) (b : Bool) → (i == k) ≡ b → i ≢ k → cond b t (v i) ≡ v i
put_by v k t i true e ne = absurd (ne ((Decides-eqb i k).0 e))
put_by v k t i false e ne = refl

pub put_other : (v : ℕ → Typ) (k : ℕ) (t : Typ) (i : ℕ) → i ≢ k → put v k t i ≡ v i
put_other v k t i ne = put_by v k t i (i == k) refl ne

module _ (cells : List Shape) where
  -- what is settled is made of settled types
  ready_by : (flags : List Bool) (k : ℕ) → flag flags k ≡ false → is_ready flags (cell cells k) ≡ true → ((i : ℕ) → flag flags i ≡ true → is_ready flags (cell cells i) ≡ true) →
      (i : ℕ) → (i ≡ k) ⊎ (i ≡ k → ⊥) → flag (set flags k true) i ≡ true → is_ready flags (cell cells i) ≡ true
  ready_by flags k e r h i (inl same) f = rw same r
  ready_by flags k e r h i (inr ne) f = h i (sym (get_or-set_other flags k i true false ne) ∙ f)

  settled_ready : (flags : List Bool) → Settles cells flags → (i : ℕ) → flag flags i ≡ true → is_ready flags (cell cells i) ≡ true
  settled_ready flags (nothing flags' h) i f = absurd (both_ways _ (h i) f)
  settled_ready all (next flags k s e r) i f = ready_set flags k e (cell cells i) (ready_by flags k e r (settled_ready flags s) i (cases_eq i k) f)

  -- no two solutions
  module _ (v w : ℕ → Typ) (of_v : Fits v cells) (of_w : Fits w cells) (own : (i : ℕ) → cell cells i ≡ Open → v i ≡ w i) where
    alike_by : (flags : List Bool) (k : ℕ) → is_ready flags (cell cells k) ≡ true → ((i : ℕ) → flag flags i ≡ true → v i ≡ w i) →
        (i : ℕ) → (i ≡ k) ⊎ (i ≡ k → ⊥) → flag (set flags k true) i ≡ true → v i ≡ w i
    alike_by flags k r h i (inl same) f = rw same (same_by flags v w h k (cell cells k) (of_v.at k) (of_w.at k) (own k) r)
    alike_by flags k r h i (inr ne) f = h i (sym (get_or-set_other flags k i true false ne) ∙ f)

    alike_settled : (flags : List Bool) → Settles cells flags → (i : ℕ) → flag flags i ≡ true → v i ≡ w i
    alike_settled flags (nothing flags' h) i f = absurd (both_ways _ (h i) f)
    alike_settled all (next flags k s e r) i f = alike_by flags k r (alike_settled flags s) i (cases_eq i k) f

  -- the solution for each choice of names
  module _ (names : ℕ → Typ) where
    put_shaped : (flags : List Bool) (k : ℕ) → flag flags k ≡ false → is_ready flags (cell cells k) ≡ true → (w : ℕ → Typ) → ((i : ℕ) → flag flags i ≡ true → is_ready flags (cell cells i) ≡ true) →
        ((i : ℕ) → flag flags i ≡ true → w i ≡ shaped w (names i) (cell cells i)) → (i : ℕ) → (i ≡ k) ⊎ (i ≡ k → ⊥) → flag (set flags k true) i ≡ true →
        put w k (shaped w (names k) (cell cells k)) i ≡ shaped (put w k (shaped w (names k) (cell cells k))) (names i) (cell cells i)
    put_shaped flags k e r w ready h i (inl same) f =
        let t = shaped w (names k) (cell cells k) in
        rw same (put_same w k t ∙ shaped_alike flags w (put w k t) (λ j g. sym (put_other w k t j (other flags k e j g))) (names k) (cell cells k) r)
    put_shaped flags k e r w ready h i (inr ne) f =
        let t = shaped w (names k) (cell cells k) in
        let was : flag flags i ≡ true = sym (get_or-set_other flags k i true false ne) ∙ f in
        put_other w k t i ne ∙ h i was ∙ shaped_alike flags w (put w k t) (λ j g. sym (put_other w k t j (other flags k e j g))) (names i) (cell cells i) (ready i was)

    put_named : (w : ℕ → Typ) (k i : ℕ) → (i ≡ k) ⊎ (i ≡ k → ⊥) → cell cells i ≡ Open → w i ≡ names i → put w k (shaped w (names k) (cell cells k)) i ≡ names i
    put_named w k i (inl same) f h = let at_k : cell cells k ≡ Open = rw (← same) f in rw same (put_same w k _ ∙ rw at_k refl)
    put_named w k i (inr ne) f h = put_other w k _ i ne ∙ h

    valued : (flags : List Bool) → Settles cells flags → ℕ → Typ
    valued flags (nothing flags' h) = names
    valued all (next flags k s e r) = put (valued flags s) k (shaped (valued flags s) (names k) (cell cells k))

    is_shaped : (flags : List Bool) (s : Settles cells flags) (i : ℕ) → flag flags i ≡ true → valued flags s i ≡ shaped (valued flags s) (names i) (cell cells i)
    unfolding valued
    is_shaped flags (nothing flags' h) i f = absurd (both_ways _ (h i) f)
    is_shaped all (next flags k s e r) i f = put_shaped flags k e r (valued flags s) (settled_ready flags s) (is_shaped flags s) i (cases_eq i k) f

    own_name : (flags : List Bool) (s : Settles cells flags) (i : ℕ) → cell cells i ≡ Open → valued flags s i ≡ names i
    unfolding valued
    own_name flags (nothing flags' h) i f = refl
    own_name all (next flags k s e r) i f = put_named (valued flags s) k i (cases_eq i k) f (own_name flags s i f)

  module _ (flags : List Bool) (kept : length flags ≡ length cells) (s : Settles cells flags) (all : AllSettled flags) where
    set_or_open : (i : ℕ) → (i < length cells) ⊎ (length cells ≤ i) → (flag flags i ≡ true) ⊎ (cell cells i ≡ Open)
    set_or_open i (inl h) = inl (all.all i (omega arith))
    set_or_open i (inr h) = inr (get_or_past cells i Open h)

    same_everywhere : (v w : ℕ → Typ) → Fits v cells → Fits w cells → ((i : ℕ) → cell cells i ≡ Open → v i ≡ w i) → (i : ℕ) → (flag flags i ≡ true) ⊎ (cell cells i ≡ Open) → v i ≡ w i
    same_everywhere v w f g own i (inl h) = alike_settled v w f g own flags s i h
    same_everywhere v w f g own i (inr h) = own i h

    fits_everywhere : (names : ℕ → Typ) (i : ℕ) → (flag flags i ≡ true) ⊎ (cell cells i ≡ Open) → Meets (valued names flags s) i (cell cells i)
    fits_everywhere names i (inl h) = shaped_meets (valued names flags s) i (names i) (cell cells i) (is_shaped names flags s i h)
    fits_everywhere names i (inr h) = rw h tt

    pub determined : Determines cells
    determined =
        record {
          filled = λ names. record { types = valued names flags s; fit = record { at = λ i. fits_everywhere names i (set_or_open i (cases_lt i (length cells))) }; chosen = own_name names flags s };
          same = λ v w f g own i. same_everywhere v w f g own i (set_or_open i (cases_lt i (length cells)));
        }

-- a type that is never settled would be a part of itself
module _ (cells : List Shape) (flags : List Bool) (fine : AreFine cells) (stuck : (i : ℕ) → i < length cells → flag flags i ≡ false → is_ready flags (cell cells i) ≡ false) (v : ℕ → Typ) (fits : Fits v cells) where
  Small : ℕ → Type 0
  Small m = (i : ℕ) → i < length cells → type_size (v i) < m → flag flags i ≡ true

  parts_set : (m : ℕ) → Small m → (xs : List ℕ) → AllBelow (length cells) xs → types_size (types_at v xs) < m → list_all (flag flags) xs ≡ true
  unfolding Small
  parts_set m small [] h k = refl
  parts_set m small (x ∷ xs) h k = rw (small x h.0 (omega arith), parts_set m small xs h.1 (omega arith)) refl

  made_ready : (m : ℕ) → Small m → (i : ℕ) (s : Shape) → ((j : ℕ) → j < i → type_size (v j) < suc m → flag flags j ≡ true) → Meets v i s → IsFine (length cells) i s → type_size (v i) < suc m → is_ready flags s ≡ true
  made_ready m small i Open links h k l = refl
  made_ready m small i (Link j) links h k l = links j k (rw (← h) l)
  made_ready m small i (Var a) links h k l = refl
  made_ready m small i (Con a xs) links h k l = parts_set m small xs k (let size : type_size (v i) ≡ types_size (types_at v xs) + 1 = ap type_size h in omega arith)

  set_by_size : (m : ℕ) → Small m → (bound i : ℕ) → i < bound → i < length cells → type_size (v i) < suc m → (b : Bool) → flag flags i ≡ b → flag flags i ≡ true
  set_by_size m small zero i below h k b e = absurd (omega arith)
  set_by_size m small (suc bound) i below h k true e = e
  set_by_size m small (suc bound) i below h k false e =
      absurd (both_ways _ (stuck i h e)
      (made_ready m small i (cell cells i) (λ j less l. set_by_size m small bound j (omega arith) (omega arith) l (flag flags j) refl) (fits.at i) (fine.at i) k))

  all_small : (m : ℕ) → Small m
  unfolding Small
  all_small zero i h k = absurd (omega arith)
  all_small (suc m) i h k = set_by_size m (all_small m) (suc i) i (omega arith) h k (flag flags i) refl

  pub never_fits : (i : ℕ) → i < length cells → flag flags i ≡ false → ⊥
  unfolding Small
  never_fits i h e = both_ways (flag flags i) e (all_small (suc (type_size (v i))) i h (omega arith))

pub between_none : (cells : List Shape) (before : ℕ) (flags : List Bool) (left : List ℕ) → length flags ≡ length cells → Settles cells flags → left ≡ upto (length cells) → before ≡ length left + 1 → Between cells before flags left
between_none cells before flags left kept s e b =
    record {
      kept = kept;
      settles = s;
      lists = rw e (lists_upto (length cells) flags kept);
      inside = rw e (upto_under (length cells));
      fewer = omega arith;
      stuck = λ z. absurd (omega arith);
    }

pub between_next : (cells : List Shape) (n : ℕ) (old new : List Bool) (rest : List ℕ) → length old ≡ length cells → Rounds cells n old new rest → Between cells n new rest
between_next cells n old new rest kept r =
    record { kept = r.kept ∙ kept; settles = r.settles; lists = r.lists; inside = r.inside; fewer = r.fewer; stuck = r.stuck }

all_settled : (flags : List Bool) (i : ℕ) (b : Bool) → flag flags i ≡ b → (flag flags i ≡ false → ⊥) → flag flags i ≡ true
all_settled flags i true e h = e
all_settled flags i false e h = absurd (h e)

-- of no types some are left, or the first one that is left is a part of itself
ended_by : (cells : List Shape) (flags : List Bool) (left : List ℕ) (b : Bool) → (length left == 0) ≡ b → AreFine cells → Between cells (length left) flags left → MatchBool b (Determines cells) (Unfit cells)
ended_by cells flags [] true e fine s =
    determined cells flags s.kept s.settles (record { all = λ i h. all_settled flags i (flag flags i) refl (λ f. s.lists.all i h f) })
ended_by cells flags [] false e fine s = cc
ended_by cells flags (x ∷ left) true e fine s = absurd (let z = (Decides-eqb (length (x ∷ left)) 0).0 e in omega arith)
ended_by cells flags (x ∷ left) false e fine s =
    let stuck = s.stuck refl in
    record { never = λ v f. never_fits cells flags fine (λ i h u. (stuck.each i (s.lists.all i (omega (arith, s.kept)) u)).1) v f x s.inside.0 (stuck.each x (inl refl)).0 }

pub ended : (cells : List Shape) (before : ℕ) (flags : List Bool) (left : List ℕ) → before ≤ length left → AreFine cells → Between cells before flags left → MatchBool (before == 0) (Determines cells) (Unfit cells)
ended cells before flags left stop fine s =
    let e : before ≡ length left = omega (arith, s.fewer) in
    rw e (ended_by cells flags left (length left == 0) refl fine (rw e at s))

pub start : (cells : List Shape) (flags : List Bool) → NoneSettled flags → Settles cells flags
start cells flags h = nothing flags h.none
