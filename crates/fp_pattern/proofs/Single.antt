-- What is left of clauses is one list.
use Rattle.std.proofs.Common.{◌≡◌, ◌∙◌, ◌<◌, ℕ, List, refl, sym, ap, subst, arith}
use Rattle.std.specs.Prelude.{nat_lt}
use Rattle.std.proofs.lemmas.Option.{none-some, same_Some}
use Rattle.std.proofs.lemmas.Bool.{ltb-true, ltb-false}
use Rattle.fp_term.specs.Types.{Typ}
use Rattle.fp_term.specs.Terms.{Tm, free, app, constant}
use Rattle.fp_term.specs.declared.signature.Signature.{Signature}
use Rattle.fp_group.specs.declared.constructors.ConTable.{ConTable}
use Rattle.fp_group.specs.declared.clause.Clause.{Clause}
use Rattle.fp_pattern.specs.Subtraction.{numbered, with_value, IsFirstNew, IsFilled, full, one_more, IsPart, AreParts, no_more, unfit, fit, IsMinus, none_common, all_covered, split, AreMinus, nothing, joined, IsLeft, whole, less}
use Rattle.fp_pattern.proofs.Matching.{by_cases}
use Rattle.fp_pattern.proofs.Gaps.{same_pair}
use Rattle.fp_pattern.proofs.Fresh.{both_ways}
use Rattle.fp_pattern.proofs.Typed.{same_arrow, no_arrow}

in_order : (a b : ℕ) (P : Type 0) → (a < b → P) → (b < a → P) → (a ≡ b → P) → P
in_order a b P f g h =
    by_cases (nat_lt a b) P (λ is. f (ltb-true a b is))
    (λ off. let le = ltb-false a b off in by_cases (nat_lt b a) P (λ is. g (ltb-true b a is)) (λ off'. let le' = ltb-false b a off' in h (omega arith)))

first_single : (f : List ℕ) (c : Clause) (head : Tm) (n m : ℕ) → IsFirstNew f c head n → IsFirstNew f c head m → n ≡ m
first_single f c head n m g h =
    in_order n m (n ≡ m) (λ lt. absurd (both_ways _ (h.first n g.positive lt) g.new)) (λ lt. absurd (both_ways _ (g.first m h.positive lt) h.new)) (λ e. e)

filled_single : (f : List ℕ) (c : Clause) (head : Tm) (s : Typ) (u v : Tm) → IsFilled f c head s u → IsFilled f c head s v → u ≡ v
filled_single f c _ _ _ _ (full head s off) (full _ _ off') = refl
filled_single f c _ _ _ _ (full head s off) (one_more n _ _ a b v is first more) = no_arrow s a b _ off is
filled_single f c _ _ _ _ (one_more n head s a b u is first more) (full _ _ off) = no_arrow s a b _ off is
filled_single f c _ _ _ _ (one_more n head s a b u is first more) (one_more m _ _ a' b' v is' first' more') =
    let e = same_arrow s a' b' a b is' is in
    let k = first_single f c head m n first' first in
    let moved : IsFilled f c (app head (free (numbered n) a)) b v = rw (← e.0, ← e.1, ← k) more' in
    filled_single f c (app head (free (numbered n) a)) b u v more moved

module _ (sig : Signature) (f : List ℕ) (c : Clause) (x : List ℕ) (s : Typ) where
  part_single : (con : List ℕ) (d e : Clause) → IsPart sig f c x s con d → IsPart sig f c x s con e → d ≡ e
  part_single con d e g h =
      let t : h.type ≡ g.type = same_Some _ _ (sym h.typed ∙ g.typed) in
      let moved : IsFilled f c (constant con g.type) g.type h.value = subst (λ (z : Typ). IsFilled f c (constant con z) z h.value) t h.filled in
      let v = filled_single f c (constant con g.type) g.type g.value h.value g.filled moved in
      g.is ∙ ap (with_value c x s) v ∙ sym h.is

  parts_single : (cons : List (List ℕ)) (ps qs : List Clause) → AreParts sig f c x s cons ps → AreParts sig f c x s cons qs → ps ≡ qs
  parts_single _ _ _ no_more no_more = refl
  parts_single _ _ _ (unfit con cons ps off more) (unfit _ _ qs off' more') = parts_single cons ps qs more more'
  parts_single _ _ _ (unfit con cons ps off more) (fit _ _ q qs is more') = absurd (none-some _ (sym off ∙ is.typed))
  parts_single _ _ _ (fit con cons p ps is more) (unfit _ _ qs off more') = absurd (none-some _ (sym off ∙ is.typed))
  parts_single _ _ _ (fit con cons p ps is more) (fit _ _ q qs is' more') = rw (part_single con p q is is', parts_single cons ps qs more more') refl

module _ (table : ConTable) (sig : Signature) (f : List ℕ) (q : List Tm) where
  mutual
    minus_single : (c : Clause) (ds es : List Clause) → IsMinus table sig f q c ds → IsMinus table sig f q c es → ds ≡ es
    minus_single _ _ _ (none_common c e) (none_common _ e') = refl
    minus_single _ _ _ (none_common c e) (all_covered _ e' m) = absurd (both_ways _ e e')
    minus_single _ _ _ (none_common c e) (split _ x s parts left e' m are more) = absurd (both_ways _ e e')
    minus_single _ _ _ (all_covered c e m) (none_common _ e') = absurd (both_ways _ e' e)
    minus_single _ _ _ (all_covered c e m) (all_covered _ e' m') = refl
    minus_single _ _ _ (all_covered c e m) (split _ x s parts left e' m' are more) = absurd (none-some _ (sym m ∙ m'))
    minus_single _ _ _ (split c x s parts left e m are more) (none_common _ e') = absurd (both_ways _ e' e)
    minus_single _ _ _ (split c x s parts left e m are more) (all_covered _ e' m') = absurd (none-some _ (sym m' ∙ m))
    minus_single _ _ _ (split c x s parts left e m are more) (split _ y t parts' left' e' m' are' more') =
        let p = same_pair y x t s (sym m' ∙ m) in
        let moved : AreParts sig f c x s _ parts' = rw (← p.0, ← p.1) are' in
        let same = parts_single sig f c x s _ parts parts' are moved in
        let moved' : AreMinus table sig f q parts left' = rw same more' in
        all_minus_single parts left left' more moved'

    pub all_minus_single : (cs ds es : List Clause) → AreMinus table sig f q cs ds → AreMinus table sig f q cs es → ds ≡ es
    all_minus_single _ _ _ nothing nothing = refl
    all_minus_single _ _ _ (joined c cs ds others is more) (joined _ _ es others' is' more') = rw (minus_single c ds es is is', all_minus_single cs others others' more more') refl

pub left_single : (table : ConTable) (sig : Signature) (f : List ℕ) (qs : List (List Tm)) (cs ds es : List Clause) → IsLeft table sig f qs cs ds → IsLeft table sig f qs cs es → ds ≡ es
left_single table sig f _ _ _ _ (whole cs) (whole _) = refl
left_single table sig f _ _ _ _ (less q qs cs ds left minus more) (less _ _ _ ds' left' minus' more') =
    let same = all_minus_single table sig f q cs ds ds' minus minus' in
    let moved : IsLeft table sig f qs ds left' = rw same more' in
    left_single table sig f qs ds left left' more moved
