-- A term simplifies in one way only.
use Rattle.std.proofs.Common.{◌≡◌, ℕ, Bool, true, false, List, [], ◌∷◌, map, refl, ap, sym}
use Rattle.std.specs.Prelude.{Option, Some, None}
use Rattle.fp_term.specs.Terms.{Tm}
use Rattle.fp_match.specs.declared.inst.Inst.{Inst}
use Rattle.fp_match.specs.Instances.{IsTermInstance}
use Rattle.fp_match.proofs.Unique.{unique_instance}
use Rattle.fp_rewriting.specs.declared.left.Left.{Left}
use Rattle.fp_rewriting.specs.declared.rule.Rule.{Rule}
use Rattle.fp_rewriting.specs.Spending.{emptied}
use Rattle.fp_rewriting.specs.Simplification.{Known, Matches, instance, Simplifies, Rewrites, Goes, Finds, FindsRule, Hold, abstraction, application, other, rewriting, stays, ends, continues, no_fuel, at_once, by_rules, no_rule, too_deep, no_instance, used, unused, all_hold, fails, holds}

pub record Same {A : Type 0} (a b : A) (l m : Left) : Type 0 where
  pub value : a ≡ b
  pub left : l ≡ m

same : {A : Type 0} (a : A) (l : Left) → Same a a l l
same a l = record { value = refl; left = refl }

apart : {P : Type 0} → true ≡ false → P
apart e = cc

matches_instance : {i : Inst} {p t : Tm} → Matches i p t → IsTermInstance p t
matches_instance {i} a = record { types = i.types; terms = i.terms; by = a.by }

alike : {i j : Inst} {p t : Tm} → Matches i p t → Matches j p t → (v : Tm) → instance i v ≡ instance j v
alike {i} {j} {p} {t} a b v = unique_instance p t i.types j.types i.terms j.terms a.by b.by a.own b.own v

alike_all : {i j : Inst} {p t : Tm} → Matches i p t → Matches j p t → (vs : List Tm) → map (instance i) vs ≡ map (instance j) vs
alike_all a b [] = refl
alike_all a b (v ∷ vs) = let e = alike a b v in let f = alike_all a b vs in cc

mutual
  pub one_simplified : {k : Known} {d : ℕ} {l : Left} {t u : Tm} {m : Left} → Simplifies k d l t u m → (v : Tm) (n : Left) → Simplifies k d l t v n → Same u v m n
  one_simplified (abstraction s x y a) v n (abstraction _ _ z b) = let h = one_simplified a z n b in record { value = cc (h.value); left = h.left }
  one_simplified (abstraction s x y a) v n (other t _ e b) = apart e
  one_simplified (application {d} {l} f x g y u a b c) v n (application _ _ g' y' _ a' b' c') =
      let h = one_simplified a g' _ a' in
      let i = one_simplified b y' _ (rw (h.left) b') in
      one_rewritten c v n (rw (h.value, i.value, i.left) c')
  one_simplified (application f x g y u a b c) v n (other t _ e b') = apart e
  one_simplified (other t u e a) v n (abstraction s x z b) = apart e
  one_simplified (other t u e a) v n (application f x g y _ b c c') = apart e
  one_simplified (other t u e a) v n (other _ _ e' b) = one_rewritten a v n b

  pub one_rewritten : {k : Known} {d : ℕ} {l : Left} {t u : Tm} {m : Left} → Rewrites k d l t u m → (v : Tm) (n : Left) → Rewrites k d l t v n → Same u v m n
  one_rewritten (rewriting t u o a b) v n (rewriting {d} {l} {m} _ _ p a' b') =
      let h = one_found a p m a' in
      one_going b v n (rw (h.value, h.left) b')

  one_going : {k : Known} {d : ℕ} {l : Left} {t : Tm} {o : Option Tm} {u : Tm} {m : Left} → Goes k d l t o u m → (v : Tm) (n : Left) → Goes k d l t o v n → Same u v m n
  one_going (stays {d} {l} t) v n (stays _) = same t l
  one_going (ends {d} {l} t w e) v n (ends _ _ f) = same t (emptied l)
  one_going (ends t w e) v n (continues _ _ _ f b) = apart cc
  one_going (continues t w u e a) v n (ends _ _ f) = apart cc
  one_going (continues t w u e a) v n (continues _ _ _ f b) = one_simplified a v n b

  one_found : {k : Known} {d : ℕ} {l : Left} {t : Tm} {o : Option Tm} {m : Left} → Finds k d l t o m → (p : Option Tm) (n : Left) → Finds k d l t p n → Same o p m n
  one_found (no_fuel {d} {l} t e) p n (no_fuel _ f) = same None l
  one_found (no_fuel t e) p n (at_once _ u f g) = absurd (f e)
  one_found (no_fuel t e) p n (by_rules _ _ f g b) = absurd (f e)
  one_found (at_once t u e f) p n (no_fuel _ g) = absurd (e g)
  one_found (at_once {d} {l} t u e f) p n (at_once _ v g h) = record { value = cc; left = refl }
  one_found (at_once t u e f) p n (by_rules _ _ g h b) = cc
  one_found (by_rules t o e f a) p n (no_fuel _ g) = absurd (e g)
  one_found (by_rules t o e f a) p n (at_once _ v g h) = cc
  one_found (by_rules t o e f a) p n (by_rules _ _ g h b) = one_rule a p n b

  one_rule : {k : Known} {d : ℕ} {l : Left} {rs : List Rule} {t : Tm} {o : Option Tm} {m : Left} → FindsRule k d l rs t o m → (p : Option Tm) (n : Left) → FindsRule k d l rs t p n → Same o p m n
  one_rule (no_rule {d} {l} t) p n (no_rule _) = same None l
  one_rule (too_deep r rs t o e a) p n (too_deep _ _ _ _ f b) = one_rule a p n b
  one_rule (too_deep r rs t o e a) p n (no_instance _ _ _ _ f b) = one_rule a p n b
  one_rule (too_deep r rs t o e a) p n (used _ _ _ i f g b) = apart cc
  one_rule (too_deep r rs t o e a) p n (unused _ _ _ _ i f g b c) = apart cc
  one_rule (no_instance r rs t o e a) p n (too_deep _ _ _ _ f b) = one_rule a p n b
  one_rule (no_instance r rs t o e a) p n (no_instance _ _ _ _ f b) = one_rule a p n b
  one_rule (no_instance r rs t o e a) p n (used _ _ _ i f g b) = absurd (e (matches_instance g))
  one_rule (no_instance r rs t o e a) p n (unused _ _ _ _ i f g b c) = absurd (e (matches_instance g))
  one_rule (used r rs t i e f a) p n (too_deep _ _ _ _ g b) = apart cc
  one_rule (used r rs t i e f a) p n (no_instance _ _ _ _ g b) = absurd (g (matches_instance f))
  one_rule (used r rs t i e f a) p n (used _ _ _ j g h b) =
      let w = one_held a true n (rw (alike_all f h r.conds) b) in
      record { value = ap Some (alike f h r.rhs); left = w.left }
  one_rule (used r rs t i e f a) p n (unused {d} {l} {m} _ _ _ _ j g h b c) =
      let w = one_held a false m (rw (alike_all f h r.conds) b) in apart w.value
  one_rule (unused r rs t o i e f a c) p n (too_deep _ _ _ _ g b) = apart cc
  one_rule (unused r rs t o i e f a c) p n (no_instance _ _ _ _ g b) = absurd (g (matches_instance f))
  one_rule (unused r rs t o i e f a c) p n (used _ _ _ j g h b) =
      let w = one_held a true n (rw (alike_all f h r.conds) b) in apart (sym w.value)
  one_rule (unused r rs t o i e f a c) p n (unused {d} {l} {m} _ _ _ _ j g h b c') =
      let w = one_held a false m (rw (alike_all f h r.conds) b) in
      one_rule c p n (rw (w.left) c')

  one_held : {k : Known} {d : ℕ} {l : Left} {ps : List Tm} {b : Bool} {m : Left} → Hold k d l ps b m → (c : Bool) (n : Left) → Hold k d l ps c n → Same b c m n
  one_held (all_hold {d} {l}) c n all_hold = same true l
  one_held (fails p q ps a e) c n (fails _ q' _ b f) = let h = one_simplified a q' n b in record { value = refl; left = h.left }
  one_held (fails p q ps a e) c n (holds {d} {l} {m} _ q' _ _ b f g) = let h = one_simplified a q' m b in let i = h.value in apart cc
  one_held (holds p q ps b a e c') c n (fails _ q' _ b' f) = let h = one_simplified a q' n b' in let i = h.value in apart cc
  one_held (holds p q ps b a e c') c n (holds {d} {l} {m} _ q' _ _ b' f g) =
      let h = one_simplified a q' m b' in one_held c' c n (rw (h.left) g)
