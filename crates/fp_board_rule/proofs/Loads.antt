-- What a seat has after loads.
use Rattle.std.proofs.Common.{◌≡◌, ℕ, ◌+◌, ◌<◌, ◌≢◌, List, length, set, sym, refl, ap, ◌∙◌, subst, ⊎_elim, arith, get_or-set_same, get_or-set_other, eqb, Bool, true, false, Option, Some, None}
use mathlib.Core.Logic.{dite}
use native.Mathlib.Decide.{ℕ_discrete}
use lib.Seq.{set-get_or}
use Rattle.fp_order.specs.declared.entry.Entry.{Entry}
use Rattle.fp_board_rule.specs.declared.view.View.{View}
use Rattle.fp_board_rule.specs.Words.{entry_of, word_at, known_in, noted_in}
use Rattle.fp_board_rule.specs.Steps.{knowing, noting, learned, IsAlone, Accounts, Finds, Grows, Sees, SameRank, IsLoaded, IsRefreshed}
use Rattle.fp_board_rule.proofs.Words.{code_of-entry}
use Rattle.fp_board_rule.proofs.Changes.{knowing_was, knowing_other, noting_was, noting_other, sees, same_grows}
use Rattle.fp_board_rule.proofs.Keeps.{true_eq}

-- taking in what is there changes nothing
knowing_same : (xs : List (Option Entry)) (k : ℕ) (o : Option Entry) → ((e : Entry) → o ≡ Some e → known_in xs k ≡ Some e) → knowing xs k o ≡ xs
knowing_same xs k None there = refl
knowing_same xs k (Some a) there = ap (λ (o : Option Entry). set xs k o) (sym (there a refl)) ∙ set-get_or xs k None

noting_same : (xs : List Bool) (k : ℕ) (b : Bool) → (b ≡ true → noted_in xs k ≡ true) → noting xs k b ≡ xs
noting_same xs k false there = refl
noting_same xs k true there = ap (λ (b : Bool). set xs k b) (sym (there refl)) ∙ set-get_or xs k false

pub learned_nothing : (v : View) (k x : ℕ) → Accounts v k x → ((learned v k x).known ≡ v.known) × ((learned v k x).noted ≡ v.noted)
learned_nothing v k x a = (
  knowing_same v.known k (entry_of x) (λ e is. a.settled e (code_of-entry x e is)),
  noting_same v.noted k (eqb x 1) (λ is. a.cancelled (true_eq x 1 is)),
)

-- the found word agrees with what the seat has once it has taken it in
finds_here : (v : View) (k x looks refreshes : ℕ) → Finds v k x → Grows v (learned v k x) → Finds (record (learned v k x) { looks = looks; refreshes = refreshes }) k x
finds_here v k x looks refreshes f g = record {
  word = f.word;
  known = λ e is. ⊎_elim (λ p. f.known e p) (λ (p : (k ≡ k) × (entry_of x ≡ Some e)). code_of-entry x e p.1) (knowing_was v.known k (entry_of x) k e is);
  noted = λ is. ⊎_elim (λ p. f.noted p) (λ (p : (k ≡ k) × (eqb x 1 ≡ true)). true_eq x 1 p.1) (noting_was v.noted k (eqb x 1) k is);
  claim = f.claim;
  own = f.own;
  alone = λ lone. let a = f.alone lone in record { settled = λ e is. g.knows k e (a.settled e is); cancelled = λ is. g.notes k (a.cancelled is); claimed = a.claimed };
}

-- what is found elsewhere still agrees
finds_there : (v : View) (k x looks refreshes j y : ℕ) → j ≢ k → Finds v j y → Finds (record (learned v k x) { looks = looks; refreshes = refreshes }) j y
finds_there v k x looks refreshes j y ne f = let known = knowing_other v.known k (entry_of x) j ne in let noted = noting_other v.noted k (eqb x 1) j ne in record {
  word = f.word;
  known = λ e is. f.known e (sym known ∙ is);
  noted = λ is. f.noted (sym noted ∙ is);
  claim = f.claim;
  own = f.own;
  alone = λ lone. let a = f.alone lone in record { settled = λ e is. known ∙ a.settled e is; cancelled = λ is. noted ∙ a.cancelled is; claimed = a.claimed };
}

loaded_by : (v : View) (k x looks refreshes : ℕ) (words : List ℕ) → k < length v.known → k < length v.noted → k < length words → Finds v k x → Grows v (learned v k x)
    → IsLoaded v k words (record (learned v k x) { looks = looks; refreshes = refreshes }) (set words k x)
loaded_by v k x looks refreshes words near near' near'' f g = let w : View = record (learned v k x) { looks = looks; refreshes = refreshes } in let here : word_at (set words k x) k ≡ x = get_or-set_same words k x 0 near'' in record {
  rank = record { number = refl; claim = refl; given = refl; out = refl };
  grows = record { knows = g.knows; notes = g.notes };
  sees = subst (Sees w k) (sym here) (sees v w k x near near' refl refl);
  finds = subst (Finds w k) (sym here) (finds_here v k x looks refreshes f g);
  others = λ j ne. get_or-set_other words k j x 0 ne;
  still = λ j y ne h. finds_there v k x looks refreshes j y ne h;
  alone = λ lone. learned_nothing v k x (f.alone lone);
}

-- a seat after a load
pub is_loaded : (v w : View) (k x looks refreshes : ℕ) (words : List ℕ) → w ≡ record (learned v k x) { looks = looks; refreshes = refreshes } → k < length v.known → k < length v.noted → k < length words → Finds v k x → Grows v w
    → IsLoaded v k words w (set words k x)
is_loaded v w k x looks refreshes words is near near' near'' f g =
    let h : Grows v (record (learned v k x) { looks = looks; refreshes = refreshes }) = subst (Grows v) is g in
    subst (λ (u : View). IsLoaded v k words u (set words k x)) (sym is) (loaded_by v k x looks refreshes words near near' near'' f (record { knows = h.knows; notes = h.notes }))

pub refreshed_start : (v : View) (words : List ℕ) → IsRefreshed v v words 0
refreshed_start v words = record {
  rank = record { number = refl; claim = refl; given = refl; out = refl };
  grows = same_grows v;
  sees = λ k l. absurd (omega arith);
  finds = λ k l. absurd (omega arith);
  alone = λ lone. (refl, refl);
}

pub alone_later : (v w : View) → SameRank v w → IsAlone v → IsAlone w
alone_later v w rank lone = (rank.number ∙ lone.0, λ m. ap (λ (out : List Bool). noted_in out m) rank.out ∙ lone.1 m)

-- a word more is loaded
pub refreshed_more : (v w u : View) (words loaded_words : List ℕ) (k : ℕ) → IsRefreshed v w words k → IsLoaded w k words u loaded_words → IsRefreshed v u loaded_words (k + 1)
refreshed_more v w u words loaded_words k r l = record {
  rank = record { number = l.rank.number ∙ r.rank.number; claim = l.rank.claim ∙ r.rank.claim; given = l.rank.given ∙ r.rank.given; out = l.rank.out ∙ r.rank.out };
  grows = record { knows = λ j e is. l.grows.knows j e (r.grows.knows j e is); notes = λ j is. l.grows.notes j (r.grows.notes j is) };
  sees = λ j below. dite (ℕ_discrete j k) (λ s. subst (λ (q : ℕ). Sees u q (word_at loaded_words q)) (sym s) l.sees)
      (λ ne. let h = r.sees j (omega arith) in subst (Sees u j) (sym (l.others j ne)) (record { knows = λ e is. l.grows.knows j e (h.knows e is); notes = λ is. l.grows.notes j (h.notes is) }));
  finds = λ j below. dite (ℕ_discrete j k) (λ s. subst (λ (q : ℕ). Finds u q (word_at loaded_words q)) (sym s) l.finds)
      (λ ne. subst (Finds u j) (sym (l.others j ne)) (l.still j (word_at words j) ne (r.finds j (omega arith))));
  alone = λ lone. let a = r.alone lone in let b = l.alone (alone_later v w r.rank lone) in (b.0 ∙ a.0, b.1 ∙ a.1);
}
