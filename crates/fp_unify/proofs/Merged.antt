-- Making one type of a table another.
use Rattle.std.proofs.Common.{◌≡◌, ◌∙◌, ◌<◌, ◌≤◌, ◌≢◌, ◌+◌, ◌&&◌, ◌==◌, ℕ, suc, Bool, true, false, cond, List, [], ◌∷◌, ◌++◌, length, get_or, set, refl, sym, ap, arith, length-append}
use Rattle.std.specs.Prelude.{Option, Some, None, MatchOption}
use Rattle.std.specs.Bool.{MatchBool}
use Rattle.std.specs.Str.{bytes_eq}
use Rattle.std.proofs.lemmas.List.{get_or_default, length-set, get_or-set_same, get_or-set_other}
use Rattle.std.proofs.lemmas.Option.{none-some, same_Some, cond_some}
use Rattle.std.proofs.lemmas.Bool.Decides.{Decides-and, Decides-eqb, not_from_Decides}
use Rattle.std.proofs.lemmas.Slice.Eq.{bytes_eq-Decides}
use Rattle.fp_term.specs.Types.{Typ, variable}
use Rattle.fp_unify.specs.Facts.{types_at, AllBelow}
use Rattle.fp_unify.specs.Cells.{cell, Meets, Fits, IsFine, AreFine, IsRoot, pairs, needed, is_open, AllSame, AreInside, weight, Turns, Apart, AllApart, Reaches, IsFormed, Takes, Against}
use Rattle.fp_unify.specs.declared.table.Shape.{Shape}
use Rattle.fp_unify.specs.declared.table.Shape.TheVariants.{Open, Link, Var, Con}
use Rattle.fp_unify.proofs.Tables.{cell_read, set_each, unset_each, weights_set, meets_read}

-- equal lists of types have equal types, and the other way round
pairs_same : (v : ℕ → Typ) (xs ys : List ℕ) → types_at v xs ≡ types_at v ys → AllSame v (pairs xs ys)
pairs_same v [] [] e = tt
pairs_same v [] (y ∷ ys) e = tt
pairs_same v (x ∷ xs) [] e = tt
pairs_same v (x ∷ xs) (y ∷ ys) e = let f : v x ≡ v y = cc in let g : types_at v xs ≡ types_at v ys = cc in (f, pairs_same v xs ys g)

same_types : (v : ℕ → Typ) (xs ys : List ℕ) → length xs ≡ length ys → AllSame v (pairs xs ys) → types_at v xs ≡ types_at v ys
same_types v [] [] n h = refl
same_types v [] (y ∷ ys) n h = absurd (omega arith)
same_types v (x ∷ xs) [] n h = absurd (omega arith)
same_types v (x ∷ xs) (y ∷ ys) n h = rw (h.0, same_types v xs ys (omega arith) h.1) refl

same_length : (v : ℕ → Typ) (xs ys : List ℕ) → types_at v xs ≡ types_at v ys → length xs ≡ length ys
same_length v [] [] e = refl
same_length v [] (y ∷ ys) e = cc
same_length v (x ∷ xs) [] e = cc
same_length v (x ∷ xs) (y ∷ ys) e = let g : types_at v xs ≡ types_at v ys = cc in ap suc (same_length v xs ys g)

pairs_inside : (n : ℕ) (xs ys : List ℕ) → AllBelow n xs → AllBelow n ys → AreInside n (pairs xs ys)
pairs_inside n [] ys h k = tt
pairs_inside n (x ∷ xs) [] h k = tt
pairs_inside n (x ∷ xs) (y ∷ ys) h k = (h.0, k.0, pairs_inside n xs ys h.1 k.1)

pairs_length : (xs ys : List ℕ) → length (pairs xs ys) ≤ length ys
pairs_length [] ys = omega arith
pairs_length (x ∷ xs) [] = omega arith
pairs_length (x ∷ xs) (y ∷ ys) = omega (arith, pairs_length xs ys)

-- equal types have the same forms
meets_same : (v : ℕ → Typ) (i j : ℕ) (s : Shape) → v i ≡ v j → Meets v i s → Meets v j s
meets_same v i j Open e h = tt
meets_same v i j (Link k) e h = sym e ∙ h
meets_same v i j (Var a) e h = sym e ∙ h
meets_same v i j (Con a xs) e h = sym e ∙ h

-- what two forms need
record Needs (low high : Shape) (extra : List (ℕ × ℕ)) : Type 0 where
  to : (v : ℕ → Typ) (i : ℕ) → Meets v i low → Meets v i high → AllSame v extra
  back : (v : ℕ → Typ) (i : ℕ) → Meets v i low → AllSame v extra → Meets v i high
  inside : (n i j : ℕ) → IsFine n i low → IsFine n j high → AreInside n extra
  less : length extra + 1 ≤ weight high

needs_none : (low high : Shape) (extra : List (ℕ × ℕ)) → [] ≡ extra → ((v : ℕ → Typ) (i : ℕ) → Meets v i low → Meets v i high) → 1 ≤ weight high → Needs low high extra
needs_none low high extra e f h = rw (← e) (record { to = λ v i k l. tt; back = λ v i k l. f v i k; inside = λ n i j k l. tt; less = omega arith })

needs_pairs : (a b xs ys : List ℕ) (extra : List (ℕ × ℕ)) → a ≡ b → length xs ≡ length ys → pairs xs ys ≡ extra → Needs (Con a xs) (Con b ys) extra
needs_pairs a b xs ys extra e n f =
    rw (← f) (record {
      to = λ v i h k. let g : types_at v xs ≡ types_at v ys = cc in pairs_same v xs ys g;
      back = λ v i h k. h ∙ (rw (e, same_types v xs ys n k) refl);
      inside = λ m i j h k. pairs_inside m xs ys h k;
      less = omega (arith, pairs_length xs ys);
    })

needs : (low high : Shape) (extra : List (ℕ × ℕ)) → needed low high ≡ Some extra → Needs low high extra
needs low Open extra e = needs_none low Open extra (same_Some [] extra e) (λ v i h. tt) (omega arith)
needs low (Link j) extra e = absurd (none-some extra e)
needs (Var a) (Var b) extra e =
    let c = cond_some (bytes_eq a b) [] extra e in
    needs_none (Var a) (Var b) extra c.1 (λ v i h. h ∙ ap variable ((bytes_eq-Decides a b).0 c.0)) (omega arith)
needs (Con a xs) (Con b ys) extra e =
    let c = cond_some (bytes_eq a b && length xs == length ys) (pairs xs ys) extra e in
    let d = (Decides-and (bytes_eq a b) (length xs == length ys) (bytes_eq-Decides a b) (Decides-eqb (length xs) (length ys))).0 c.0 in
    needs_pairs a b xs ys extra d.0 d.1 c.1
needs Open (Var b) extra e = absurd (none-some extra e)
needs (Link j) (Var b) extra e = absurd (none-some extra e)
needs (Con a xs) (Var b) extra e = absurd (none-some extra e)
needs Open (Con b ys) extra e = absurd (none-some extra e)
needs (Link j) (Con b ys) extra e = absurd (none-some extra e)
needs (Var a) (Con b ys) extra e = absurd (none-some extra e)

cond_none : (b : Bool) (x : List (ℕ × ℕ)) → cond b (Some x) None ≡ None → b ≡ false
cond_none true x e = absurd (none-some x (sym e))
cond_none false x e = refl

-- forms that can't be equal
differ : (v : ℕ → Typ) (i : ℕ) (low high : Shape) → IsRoot low → IsRoot high → is_open low ≡ false → needed low high ≡ None → Meets v i low → Meets v i high → ⊥
differ v i Open high r s o e h k = cc
differ v i (Link j) high r s o e h k = r
differ v i low Open r s o e h k = none-some [] (sym e)
differ v i low (Link j) r s o e h k = s
differ v i (Var a) (Var b) r s o e h k =
    let same : a ≡ b = cc in
    not_from_Decides (bytes_eq a b) (bytes_eq-Decides a b) (cond_none (bytes_eq a b) [] e) same
differ v i (Var a) (Con b ys) r s o e h k = cc
differ v i (Con a xs) (Var b) r s o e h k = cc
differ v i (Con a xs) (Con b ys) r s o e h k =
    let same : a ≡ b = cc in
    let types : types_at v xs ≡ types_at v ys = cc in
    not_from_Decides (bytes_eq a b && length xs == length ys) (Decides-and (bytes_eq a b) (length xs == length ys) (bytes_eq-Decides a b) (Decides-eqb (length xs) (length ys)))
    (cond_none (bytes_eq a b && length xs == length ys) (pairs xs ys) e) (same, same_length v xs ys types)

-- what holds of each pair holds of the pairs of both lists
same_append : (v : ℕ → Typ) (ps qs : List (ℕ × ℕ)) → AllSame v ps → AllSame v qs → AllSame v (ps ++ qs)
same_append v [] qs h k = k
same_append v (p ∷ ps) qs h k = (h.0, same_append v ps qs h.1 k)

same_left : (v : ℕ → Typ) (ps qs : List (ℕ × ℕ)) → AllSame v (ps ++ qs) → AllSame v ps
same_left v [] qs h = tt
same_left v (p ∷ ps) qs h = (h.0, same_left v ps qs h.1)

same_right : (v : ℕ → Typ) (ps qs : List (ℕ × ℕ)) → AllSame v (ps ++ qs) → AllSame v qs
same_right v [] qs h = h
same_right v (p ∷ ps) qs h = same_right v ps qs h.1

inside_append : (n : ℕ) (ps qs : List (ℕ × ℕ)) → AreInside n ps → AreInside n qs → AreInside n (ps ++ qs)
inside_append n [] qs h k = k
inside_append n (p ∷ ps) qs h k = (h.0, h.1, inside_append n ps qs h.2 k)

inside_left : (n : ℕ) (ps qs : List (ℕ × ℕ)) → AreInside n (ps ++ qs) → AreInside n ps
inside_left n [] qs h = tt
inside_left n (p ∷ ps) qs h = (h.0, h.1, inside_left n ps qs h.2)

inside_right : (n : ℕ) (ps qs : List (ℕ × ℕ)) → AreInside n (ps ++ qs) → AreInside n qs
inside_right n [] qs h = h
inside_right n (p ∷ ps) qs h = inside_right n ps qs h.2

-- fine cells stay fine where others change
fine_set : (cells : List Shape) (k : ℕ) (s : Shape) → k < length cells → AreFine cells → IsFine (length cells) k s → AreFine (set cells k s)
fine_set cells k s within f g = record { at = rw (length-set cells k s) (set_each (IsFine (length cells)) cells k s within (λ i ne. f.at i) g) }

fine_moved : (n i j : ℕ) (s : Shape) → IsRoot s → IsFine n i s → IsFine n j s
fine_moved n i j Open r h = tt
fine_moved n i j (Link k) r h = absurd r
fine_moved n i j (Var a) r h = tt
fine_moved n i j (Con a xs) r h = h

-- the later type became the earlier one
module _ (cells : List Shape) (low high : ℕ) (fine : AreFine cells) (order : low < high) (within : high < length cells) where
  pub linked : (pending extra : List (ℕ × ℕ)) → needed (cell cells low) (cell cells high) ≡ Some extra → Turns cells ((low, high) ∷ pending) (set cells high (Link low)) (pending ++ extra)
  linked pending extra e =
      let n = needs (cell cells low) (cell cells high) extra e in
      let apart : low ≢ high = omega arith in
      let low_stays = get_or-set_other cells high low (Link low) Open apart in
      let high_is = get_or-set_same cells high (Link low) Open within in
      record {
        to = λ v f same. (
          record { at = set_each (Meets v) cells high (Link low) within (λ i ne. f.at i) (sym same.0) },
          same_append v pending extra same.1 (n.to v low (f.at low) (meets_same v high low (cell cells high) (sym same.0) (f.at high))),
        );
        back = λ v f same.
            let equal : v high ≡ v low = meets_read v _ high (Link low) high_is f in
            let of_low : Meets v low (cell cells low) = meets_read v _ low (cell cells low) low_stays f in
            (record { at = unset_each (Meets v) cells high (Link low) within (λ i ne. f.at i) (n.back v high (meets_same v low high (cell cells low) (sym equal) of_low) (same_right v pending extra same)) }, (sym equal, same_left v pending extra same));
        fine = fine_set cells high (Link low) within fine order;
        inside = λ h. rw (length-set cells high (Link low)) (inside_append (length cells) pending extra h.2 (n.inside (length cells) low high (fine.at low) (fine.at high)));
        less = omega (arith, weights_set cells high (Link low) within, n.less, length-append pending extra);
        kept = length-set cells high (Link low);
      }

  -- the earlier type takes over what is known of the later one
  pub taken : (pending : List (ℕ × ℕ)) → cell cells low ≡ Open → IsRoot (cell cells high) → Turns cells ((low, high) ∷ pending) (set (set cells high (Link low)) low (cell cells high)) pending
  taken pending untold root =
      let s = cell cells high in
      let middle = set cells high (Link low) in
      let apart : low ≢ high = omega arith in
      let apart_too : high ≢ low = omega arith in
      let within_low : low < length middle = omega (arith, length-set cells high (Link low)) in
      let low_stays : cell middle low ≡ Open = get_or-set_other cells high low (Link low) Open apart ∙ untold in
      let low_is : cell (set middle low s) low ≡ s = get_or-set_same middle low s Open within_low in
      let high_is : cell (set middle low s) high ≡ Link low = get_or-set_other middle low high s Open apart_too ∙ get_or-set_same cells high (Link low) Open within in
      let of_open : weight (cell middle low) ≡ 1 = rw low_stays refl in
      record {
        to = λ v f same. (
          record { at = set_each (Meets v) middle low s within_low (λ i ne. set_each (Meets v) cells high (Link low) within (λ j other. f.at j) (sym same.0) i) (meets_same v high low s (sym same.0) (f.at high)) },
          same.1,
        );
        back = λ v f same.
            let equal : v high ≡ v low = meets_read v _ high (Link low) high_is f in
            let of_low : Meets v low s = meets_read v _ low s low_is f in (
              record {
                at = unset_each (Meets v) cells high (Link low) within
                    (λ i ne. unset_each (Meets v) middle low s within_low (λ j other. f.at j) (rw low_stays tt) i) (meets_same v low high s (sym equal) of_low);
              },
              (sym equal, same),
            );
        fine = fine_set middle low s within_low (fine_set cells high (Link low) within fine order) (rw (length-set cells high (Link low)) (fine_moved (length cells) high low s root (fine.at high)));
        inside = λ h. rw (length-set middle low s, length-set cells high (Link low)) h.2;
        less = omega (arith, weights_set cells high (Link low) within, weights_set middle low s within_low, of_open);
        kept = length-set middle low s ∙ length-set cells high (Link low);
      }

-- what was needed, or that nothing helps
none_needed : (o : Option (List (ℕ × ℕ))) (b : Bool) (old new : List (ℕ × ℕ)) → MatchOption o (b ≡ false) (λ extra. (b ≡ true) × (new ≡ old ++ extra)) → b ≡ false → o ≡ None
none_needed None b old new h e = refl
none_needed (Some extra) b old new h e = cc

some_needed : (o : Option (List (ℕ × ℕ))) (b : Bool) (old new : List (ℕ × ℕ)) → MatchOption o (b ≡ false) (λ extra. (b ≡ true) × (new ≡ old ++ extra)) → b ≡ true → (extra : List (ℕ × ℕ)) × (o ≡ Some extra) × (new ≡ old ++ extra)
some_needed None b old new h e = cc
some_needed (Some extra) b old new h e = (extra, refl, h.1)

-- the two outcomes of merging, from what was read
module _ (cells : List Shape) (low high : ℕ) (x y : Shape) (old new : List (ℕ × ℕ)) (b : Bool) (fine : AreFine cells) (order : low < high) (within : high < length cells) (read : x ≡ get_or cells low x) (read_too : y ≡ get_or cells high y)
    (found : MatchOption (needed x y) (b ≡ false) (λ extra. (b ≡ true) × (new ≡ old ++ extra))) where
  x_is : cell cells low ≡ x
  x_is = cell_read cells low x (omega arith) read

  y_is : cell cells high ≡ y
  y_is = cell_read cells high y within read_too

  pub merged : b ≡ true → Turns cells ((low, high) ∷ old) (set cells high (Link low)) new
  merged e =
      let s = some_needed (needed x y) b old new found e in
      rw s.2 (linked cells low high fine order within old s.0 (rw (x_is, y_is) s.1))

  pub unmerged : (z : Shape) → IsRoot (cell cells low) → IsRoot (cell cells high) → false ≡ is_open (get_or cells low z) → b ≡ false → Apart cells low high
  unmerged z r s told e =
      let known : is_open x ≡ false = rw (← x_is, get_or_default cells low Open z (omega arith)) (sym told) in
      record { never = λ v f same. differ v low x y (rw (← x_is) r) (rw (← y_is) s) known (none_needed (needed x y) b old new found e) (meets_read v cells low x x_is f) (meets_same v high low y (sym same) (meets_read v cells high y y_is f)) }

open_is : (s : Shape) → is_open s ≡ true → s ≡ Open
open_is Open e = refl
open_is _ e = cc

pub taken_read : (cells : List Shape) (low high : ℕ) (x : Shape) (pending : List (ℕ × ℕ)) (new : List Shape) → AreFine cells → low < high → high < length cells → true ≡ is_open (get_or cells low x) → IsRoot (cell cells high) →
    new ≡ set (set cells high (Link low)) low (cell cells high) → Turns cells ((low, high) ∷ pending) new pending
taken_read cells low high x pending new fine order within untold root e =
    rw e (taken cells low high fine order within pending (open_is (cell cells low) (rw (get_or_default cells low Open x (omega arith)) (sym untold))) root)

-- from the first table to the last one
pub reach_start : (cells : List Shape) (pending : List (ℕ × ℕ)) → AreFine cells → AreInside (length cells) pending → Reaches cells pending cells pending
reach_start cells pending fine h = record { to = λ v f e. (f, e); back = λ v f e. (f, e); fine = fine; inside = h; kept = refl }

module _ (first cells : List Shape) (start : List (ℕ × ℕ)) (a b : ℕ) (rest : List (ℕ × ℕ)) (r : Reaches first start cells (rest ++ (a, b) ∷ [])) where
  pub reach_on : (new : List Shape) (q : List (ℕ × ℕ)) → Turns cells ((a, b) ∷ rest) new q → Reaches first start new q
  reach_on new q t =
      record {
        to = λ v f e. let g = r.to v f e in t.to v g.0 ((same_right v rest ((a, b) ∷ []) g.1).0, same_left v rest ((a, b) ∷ []) g.1);
        back = λ v f same. let g = t.back v f same in r.back v g.0 (same_append v rest ((a, b) ∷ []) g.1.1 (g.1.0, tt));
        fine = t.fine;
        inside = (let last = inside_right (length cells) rest ((a, b) ∷ []) r.inside in t.inside (last.0, last.1, inside_left (length cells) rest ((a, b) ∷ []) r.inside));
        kept = t.kept ∙ r.kept;
      }

  pub reach_apart : Apart cells a b → AllApart first start
  reach_apart h = record { never = λ v f e. let g = r.to v f e in h.never v g.0 (same_right v rest ((a, b) ∷ []) g.1).0 }

  pub reach_inside : (a < length cells) × (b < length cells)
  reach_inside = let last = inside_right (length cells) rest ((a, b) ∷ []) r.inside in (last.0, last.1)

-- a form that a type takes
module _ (cells : List Shape) (at root : ℕ) (form : Shape) (fine : AreFine cells) (within : root < length cells) (form_fine : IsFine (length cells) 0 form) (known : IsFormed form)
    (stands : (v : ℕ → Typ) → Fits v cells → v at ≡ v root) where
  fine_form : (n i : ℕ) (s : Shape) → IsFormed s → IsFine n 0 s → IsFine n i s
  fine_form n i Open k h = absurd k
  fine_form n i (Link j) k h = absurd k
  fine_form n i (Var a) k h = tt
  fine_form n i (Con a xs) k h = h

  pub takes_new : cell cells root ≡ Open → Takes cells at form (set cells root form) []
  takes_new untold =
      let is_form = get_or-set_same cells root form Open within in
      record {
        to = λ v f h. (record { at = set_each (Meets v) cells root form within (λ i ne. f.at i) (meets_same v at root form (stands v f) h) }, tt);
        back = λ v f same.
            let of_root : Meets v root form = meets_read v _ root form is_form f in
            let old : Fits v cells = record { at = unset_each (Meets v) cells root form within (λ i ne. f.at i) (rw untold tt) } in
            (old, meets_same v root at form (sym (stands v old)) of_root);
        fine = fine_set cells root form within fine (fine_form (length cells) root form known form_fine);
        inside = tt;
        kept = length-set cells root form;
      }

  takes_known : (extra : List (ℕ × ℕ)) → needed (cell cells root) form ≡ Some extra → Takes cells at form cells extra
  takes_known extra e =
      let n = needs (cell cells root) form extra e in
      record {
        to = λ v f h. (f, n.to v root (f.at root) (meets_same v at root form (stands v f) h));
        back = λ v f same. (f, meets_same v root at form (sym (stands v f)) (n.back v root (f.at root) same));
        fine = fine;
        inside = n.inside (length cells) root 0 (fine.at root) form_fine;
        kept = refl;
      }

  formed_root : (s : Shape) → IsFormed s → IsRoot s
  formed_root Open h = tt
  formed_root (Link j) h = h
  formed_root (Var a) h = tt
  formed_root (Con a xs) h = tt

  module _ (x y : Shape) (b : Bool) (new : List (ℕ × ℕ)) (read : x ≡ get_or cells root x) (found : MatchOption (needed x form) (b ≡ false) (λ extra. (b ≡ true) × (new ≡ [] ++ extra))) where
    pub taken_known : b ≡ true → Takes cells at form cells new
    taken_known e =
        let s = some_needed (needed x form) b [] new found e in
        rw s.2 (takes_known s.0 (rw (cell_read cells root x within read) s.1))

    pub taken_against : IsRoot (cell cells root) → false ≡ is_open (get_or cells root y) → b ≡ false → Against cells at form
    taken_against r told e =
        let x_is = cell_read cells root x within read in
        let not_open : is_open x ≡ false = rw (← x_is, get_or_default cells root Open y within) (sym told) in
        record { never = λ v f h. differ v root x form (rw (← x_is) r) (formed_root form known) not_open (none_needed (needed x form) b [] new found e) (meets_read v cells root x x_is f) (meets_same v at root form (stands v f) h) }

  pub takes_open : (x : Shape) → true ≡ is_open (get_or cells root x) → Takes cells at form (set cells root form) []
  takes_open x untold = takes_new (open_is (cell cells root) (rw (get_or_default cells root Open x within) (sym untold)))

pub takes_or_not : (cells : List Shape) (at root : ℕ) (form : Shape) → AreFine cells → root < length cells → IsFine (length cells) 0 form → IsFormed form → ((v : ℕ → Typ) → Fits v cells → v at ≡ v root) →
    (x y : Shape) (b : Bool) (old new : List (ℕ × ℕ)) → x ≡ get_or cells root x → old ≡ [] → MatchOption (needed (get_or cells root x) form) (b ≡ false) (λ extra. (b ≡ true) × (new ≡ old ++ extra)) → IsRoot (cell cells root) → false ≡ is_open (get_or cells root y) →
    MatchBool b (Takes cells at form cells new) (Against cells at form)
takes_or_not cells at root form fine within form_fine known stands x y true old new read empty found r told = taken_known cells at root form fine within form_fine known stands x y true new read (rw (empty, ← read) at found) refl
takes_or_not cells at root form fine within form_fine known stands x y false old new read empty found r told = taken_against cells at root form fine within form_fine known stands x y false new read (rw (empty, ← read) at found) r told refl

pub takes_if_open : (cells : List Shape) (at root : ℕ) (form : Shape) → AreFine cells → root < length cells → IsFine (length cells) 0 form → IsFormed form → ((v : ℕ → Typ) → Fits v cells → v at ≡ v root) →
    (x : Shape) (old : List (ℕ × ℕ)) → old ≡ [] → true ≡ is_open (get_or cells root x) → Takes cells at form (set cells root form) old
takes_if_open cells at root form fine within form_fine known stands x old empty untold = rw empty (takes_open cells at root form fine within form_fine known stands x untold)
