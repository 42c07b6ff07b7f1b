-- How the parts of a split are made, one after another.
use Rattle.std.proofs.Common.{◌≡◌, ◌+◌, ℕ, List, [], ◌∷◌, ◌++◌, sym, append_assoc, drop, drop-cons, get_or, length, ◌<◌, ◌≤◌, ◌∙◌, ap, add-one, suc}
use Rattle.std.proofs.lemmas.List.{drop_all, append-nil}
use Rattle.std.specs.Prelude.{Some, None, Result, Ok, Err, IfOk, true, false}
use Rattle.fp_term.specs.Types.{Typ, variable}
use Rattle.fp_term.specs.Terms.{Tm, free, app}
use Rattle.fp_term.specs.declared.signature.Signature.{Signature}
use Rattle.fp_group.specs.declared.constructors.ConTable.{ConTable}
use Rattle.fp_group.specs.declared.clause.Clause.{Clause}
use Rattle.fp_pattern.specs.Patterns.{arrow, con_type, constructors}
use Rattle.fp_pattern.specs.Subtraction.{numbered, IsFirstNew, IsFilled, one_more, IsPart, AreParts, no_more, unfit, fit, IsMinus, none_common, all_covered, split, AreMinus, nothing, joined, any_apart, first_met}

pub filled_on :
    {E : Type 0} (r : Result Tm E) (f : List ℕ) (c : Clause) (n : ℕ) (name : List ℕ) (head more : Tm) (s a b : Typ) → arrow s ≡ Some (a, b) →
    IsFirstNew f c head n → name ≡ numbered n → more ≡ app head (free name a) → IfOk r (λ t. IsFilled f c more b t) → IfOk r (λ t. IsFilled f c head s t)
filled_on (Ok t) f c n name head more s a b is new named built h =
    let k : IsFilled f c (app head (free (numbered n) a)) b t = rw (← named, ← built) h in
    one_more n head s a b t is new k
filled_on (Err e) f c n name head more s a b is new named built h = tt

pub no_parts : (table : ConTable) (sig : Signature) (f : List ℕ) (c : Clause) (x : List ℕ) (s : Typ) (parts : List Clause) (a : List ℕ) → variable a ≡ s → parts ≡ [] → AreParts sig f c x s (constructors table s) parts
no_parts table sig f c x s parts a e is = rw (← e, is) no_more

pub drop_here : {A : Type 0} (xs : List A) (i : ℕ) (x : A) → i < length xs → x ≡ get_or xs i x → drop i xs ≡ x ∷ drop (i + 1) xs
drop_here xs i x h e =
    let d : drop i xs ≡ get_or xs i x ∷ drop (suc i) xs = drop-cons xs i x h in
    let f : get_or xs i x ∷ drop (suc i) xs ≡ x ∷ drop (suc i) xs = ap (λ y. y ∷ drop (suc i) xs) (sym e) in
    rw add-one (d ∙ f)

-- one more constructor, of which there is a part or none
module _ (sig : Signature) (f : List ℕ) (c : Clause) (x : List ℕ) (s : Typ) (all : List (List ℕ)) where
  pub continue_fit :
      (i : ℕ) (con : List ℕ) (parts : List Clause) (part : Clause) → i < length all → con ≡ get_or all i con → ((rest : List Clause) → AreParts sig f c x s (drop i all) rest → AreParts sig f c x s all (parts ++ rest)) →
      IsPart sig f c x s con part → (rest : List Clause) → AreParts sig f c x s (drop (i + 1) all) rest → AreParts sig f c x s all ((parts ++ part ∷ []) ++ rest)
  continue_fit i con parts part lt e h is rest r =
      let k : AreParts sig f c x s (drop i all) (part ∷ rest) = rw (drop_here all i con lt e) (fit con (drop (i + 1) all) part rest is r) in
      rw (append_assoc parts (part ∷ []) rest) (h (part ∷ rest) k)

  pub continue_unfit :
      (i : ℕ) (con : List ℕ) (parts : List Clause) → i < length all → con ≡ get_or all i con → ((rest : List Clause) → AreParts sig f c x s (drop i all) rest → AreParts sig f c x s all (parts ++ rest)) →
      con_type sig s con ≡ None → (rest : List Clause) → AreParts sig f c x s (drop (i + 1) all) rest → AreParts sig f c x s all (parts ++ rest)
  continue_unfit i con parts lt e h off rest r =
      let k : AreParts sig f c x s (drop i all) rest = rw (drop_here all i con lt e) (unfit con (drop (i + 1) all) rest off r) in
      h rest k

  pub ended_parts : (i : ℕ) (parts : List Clause) → length all ≤ i → ((rest : List Clause) → AreParts sig f c x s (drop i all) rest → AreParts sig f c x s all (parts ++ rest)) → AreParts sig f c x s all parts
  ended_parts i parts le h =
      let k : AreParts sig f c x s (drop i all) [] = rw (drop_all i all le) no_more in
      rw append-nil at (h [] k)

pub if_ok : {A E : Type 0} (r : Result A E) (P Q : A → Type 0) → ((a : A) → P a → Q a) → IfOk r P → IfOk r Q
if_ok (Ok a) P Q f h = f a h
if_ok (Err e) P Q f h = tt

-- one more clause of which something is left
module _ (table : ConTable) (sig : Signature) (f : List ℕ) (q : List Tm) where
  pub continue_minus :
      (all : List Clause) (i : ℕ) (c : Clause) (left more : List Clause) → i < length all → c ≡ get_or all i c →
      ((rest : List Clause) → AreMinus table sig f q (drop i all) rest → AreMinus table sig f q all (left ++ rest)) → IsMinus table sig f q c more →
      (rest : List Clause) → AreMinus table sig f q (drop (i + 1) all) rest → AreMinus table sig f q all ((left ++ more) ++ rest)
  continue_minus all i c left more lt e h is rest r =
      let k : AreMinus table sig f q (drop i all) (more ++ rest) = rw (drop_here all i c lt e) (joined c (drop (i + 1) all) more rest is r) in
      rw (append_assoc left more rest) (h (more ++ rest) k)

  pub ended_minus : (all : List Clause) (i : ℕ) (left : List Clause) → length all ≤ i → ((rest : List Clause) → AreMinus table sig f q (drop i all) rest → AreMinus table sig f q all (left ++ rest)) → AreMinus table sig f q all left
  ended_minus all i left le h =
      let k : AreMinus table sig f q (drop i all) [] = rw (drop_all i all le) nothing in
      rw append-nil at (h [] k)

-- what is left of one clause, by the three cases
module _ (table : ConTable) (sig : Signature) (f : List ℕ) (q : List Tm) (c : Clause) where
  pub left_whole : {E : Type 0} (r : Result (List Clause) E) → any_apart c.patterns q ≡ true → IfOk r (λ left. left ≡ c ∷ []) → IfOk r (λ left. IsMinus table sig f q c left)
  left_whole r h k = if_ok r _ _ (λ left e. rw e (none_common c h)) k

  pub left_none : (left : List Clause) → any_apart c.patterns q ≡ false → first_met c.patterns q ≡ None → left ≡ [] → IsMinus table sig f q c left
  left_none left h e k = rw k (all_covered c h e)

  pub left_split :
      {E : Type 0} (r : Result (List Clause) E) (x : List ℕ) (s : Typ) (parts : List Clause) → any_apart c.patterns q ≡ false → first_met c.patterns q ≡ Some (x, s) →
      AreParts sig f c x s (constructors table s) parts → IfOk r (λ left. AreMinus table sig f q parts left) → IfOk r (λ left. IsMinus table sig f q c left)
  left_split r x s parts h e are k = if_ok r _ _ (λ left m. split c x s parts left h e are m) k
