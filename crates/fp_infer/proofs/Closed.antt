-- A solved table has written names, and types of the signature.
use Rattle.std.proofs.Common.{◌≡◌, ◌∙◌, ◌+◌, ℕ, Bool, true, false, cond, ◌||◌, ◌==◌, List, [], ◌∷◌, length, refl, sym, ap, arith}
use Rattle.std.specs.Prelude.{Option, Some, None}
use Rattle.std.specs.Str.{bytes_eq}
use Rattle.std.proofs.lemmas.Bool.{both_ways}
use Rattle.std.proofs.lemmas.Bool.Decides.{Decides-eqb}
use Rattle.std.proofs.lemmas.Slice.Eq.{bytes_eq-Decides}
use Rattle.fp_term.specs.Types.{Typ, Typs, variable, applied, none, more, count, retyped, all_retyped}
use Rattle.fp_term.specs.Variables.{is_among}
use Rattle.fp_term.specs.Signatures.{arity_of, has_count, IsType, AreTypes}
use Rattle.fp_term.specs.declared.signature.Signature.{Signature}
use Rattle.fp_unify.specs.Facts.{types_at, Holds, Solves, IsKnown, AreKnown}
use Rattle.fp_unify.specs.Cells.{cell, Fits}
use Rattle.fp_unify.specs.Naming.{AreWritten}
use Rattle.fp_unify.specs.Solved.{IsSolution}
use Rattle.fp_unify.specs.declared.fact.Fact.{Fact}
use Rattle.fp_unify.specs.declared.fact.Fact.TheVariants.{IsVar, IsCon, Same, Never}
use Rattle.fp_unify.specs.declared.table.Shape.{Shape}
use Rattle.fp_unify.specs.declared.table.Shape.TheVariants.{Open, Var}

-- a change of types that keeps written names and the constructors of the signature keeps solutions
module _ (s : Signature) (written : List (List ℕ)) (h : Typ → Typ) (var : (a : List ℕ) → is_among written a ≡ true → h (variable a) ≡ variable a)
    (con : (a : List ℕ) (v : ℕ → Typ) (args : List ℕ) → arity_of a s.types ≡ Some (length args) → h (applied a (types_at v args)) ≡ applied a (types_at (λ i. h (v i)) args)) where
  holds_changed : (v : ℕ → Typ) (fact : Fact) → IsKnown s written fact → Holds v fact → Holds (λ i. h (v i)) fact
  holds_changed v (IsVar at a) k e = ap h e ∙ var a k
  holds_changed v (IsCon at a args) k e = ap h e ∙ con a v args k
  holds_changed v (Same l r) k e = ap h e
  holds_changed v Never k e = e

  pub solves_changed : (limit : ℕ) (v : ℕ → Typ) (facts : List (ℕ × Fact)) → AreKnown s written facts → Solves limit v facts → Solves limit (λ i. h (v i)) facts
  solves_changed limit v [] k e = tt
  solves_changed limit v (p ∷ facts) k e = ((λ below. holds_changed v p.1 k.0 (e.0 below)), solves_changed limit v facts k.1 e.1)

retyped_at : (pairs : List (List ℕ × Typ)) (v : ℕ → Typ) (args : List ℕ) → all_retyped pairs (types_at v args) ≡ types_at (λ i. retyped pairs (v i)) args
retyped_at pairs v [] = refl
retyped_at pairs v (x ∷ args) = ap (more (retyped pairs (v x))) (retyped_at pairs v args)

-- with another type in place of one name
abbrev other : List ℕ → List (List ℕ × Typ)
other a = (a, applied [] none) ∷ []

other_kept : (written : List (List ℕ)) (a b : List ℕ) (r : Bool) → is_among written a ≡ false → is_among written b ≡ true → bytes_eq a b ≡ r → retyped (other a) (variable b) ≡ variable b
other_kept written a b true f t e = absurd (both_ways (is_among written b) (rw ((bytes_eq-Decides a b).0 e) at f) t)
other_kept written a b false f t e = rw e refl

other_put : (a : List ℕ) → retyped (other a) (variable a) ≡ applied [] none
other_put a = rw ((bytes_eq-Decides a a).1 refl) refl

module _ (s : Signature) (written : List (List ℕ)) (limit : ℕ) (facts : List (ℕ × Fact)) (n : ℕ) (cells : List Shape) (sol : IsSolution limit facts n cells) (known : AreKnown s written facts) where
  written_by : (i : ℕ) (a : List ℕ) (b : Bool) → cell cells i ≡ Var a → is_among written a ≡ b → is_among written a ≡ true
  written_by i a true e f = f
  written_by i a false e f =
      let x = sol.determines.filled (λ i. variable []) in
      let is : x.types i ≡ variable a = rw e at (x.fit.at i) in
      let solves = solves_changed s written (retyped (other a)) (λ b t. other_kept written a b (bytes_eq a b) f t refl) (λ b v args k. ap (applied b) (retyped_at (other a) v args)) limit x.types facts known (sol.back x.types x.fit) in
      let fits = sol.to (λ i. retyped (other a) (x.types i)) solves in
      let same : retyped (other a) (x.types i) ≡ variable a = rw e at (fits.at i) in
      let put : retyped (other a) (x.types i) ≡ applied [] none = ap (retyped (other a)) is ∙ other_put a in
      let apart : variable a ≡ applied [] none = sym same ∙ put in
      cc

  pub are_written : AreWritten cells written
  are_written = record { among = λ i a e. written_by i a (is_among written a) e refl }

-- a type with a variable in place of what isn't of the signature
mutual
  pub repaired : Signature → Typ → Typ
  repaired s (variable a) = variable a
  repaired s (applied a ts) = cond (has_count (arity_of a s.types) (count ts)) (applied a (all_repaired s ts)) (variable [])

  pub all_repaired : Signature → Typs → Typs
  all_repaired s none = none
  all_repaired s (more t ts) = more (repaired s t) (all_repaired s ts)

count_repaired : (s : Signature) (ts : Typs) → count (all_repaired s ts) ≡ count ts
unfolding all_repaired
count_repaired s none = refl
count_repaired s (more t ts) = ap (λ n. 1 + n) (count_repaired s ts)

has_some : (o : Option ℕ) (n : ℕ) → has_count o n ≡ true → o ≡ Some n
has_some None n e = cc
has_some (Some k) n e = ap Some (sym ((Decides-eqb n k).0 e))

repaired_by : (s : Signature) (a : List ℕ) (ts : Typs) (b : Bool) → has_count (arity_of a s.types) (count ts) ≡ b → AreTypes s (all_repaired s ts) → IsType s (cond b (applied a (all_repaired s ts)) (variable []))
repaired_by s a ts true e h = (has_some (arity_of a s.types) (count ts) e ∙ ap Some (sym (count_repaired s ts)), h)
repaired_by s a ts false e h = tt

mutual
  unfolding repaired all_repaired

  pub repaired_is : (s : Signature) (t : Typ) → IsType s (repaired s t)
  repaired_is s (variable a) = tt
  repaired_is s (applied a ts) = repaired_by s a ts (has_count (arity_of a s.types) (count ts)) refl (all_repaired_are s ts)

  all_repaired_are : (s : Signature) (ts : Typs) → AreTypes s (all_repaired s ts)
  all_repaired_are s none = tt
  all_repaired_are s (more t ts) = (repaired_is s t, all_repaired_are s ts)

some_has : (n : ℕ) → has_count (Some n) n ≡ true
some_has n = (Decides-eqb n n).1 refl

mutual
  unfolding repaired all_repaired

  repaired_same : (s : Signature) (t : Typ) → IsType s t → repaired s t ≡ t
  repaired_same s (variable a) h = refl
  repaired_same s (applied a ts) h = rw (h.0, some_has (count ts)) (ap (applied a) (all_repaired_same s ts h.1))

  all_repaired_same : (s : Signature) (ts : Typs) → AreTypes s ts → all_repaired s ts ≡ ts
  all_repaired_same s none h = refl
  all_repaired_same s (more t ts) h = rw (repaired_same s t h.0, all_repaired_same s ts h.1) refl

count_at : (v : ℕ → Typ) (args : List ℕ) → count (types_at v args) ≡ length args
count_at v [] = refl
count_at v (x ∷ args) = let e = count_at v args in omega arith

repaired_at : (s : Signature) (v : ℕ → Typ) (args : List ℕ) → all_repaired s (types_at v args) ≡ types_at (λ i. repaired s (v i)) args
unfolding all_repaired
repaired_at s v [] = refl
repaired_at s v (x ∷ args) = ap (more (repaired s (v x))) (repaired_at s v args)

repaired_con : (s : Signature) (a : List ℕ) (v : ℕ → Typ) (args : List ℕ) → arity_of a s.types ≡ Some (length args) → repaired s (applied a (types_at v args)) ≡ applied a (types_at (λ i. repaired s (v i)) args)
unfolding repaired
repaired_con s a v args e = rw (e, count_at v args, some_has (length args)) (ap (applied a) (repaired_at s v args))

pub repaired_solves : (s : Signature) (written : List (List ℕ)) (limit : ℕ) (v : ℕ → Typ) (facts : List (ℕ × Fact)) → AreKnown s written facts → Solves limit v facts → Solves limit (λ i. repaired s (v i)) facts
unfolding repaired
repaired_solves s written limit v facts known h = solves_changed s written (repaired s) (λ a e. refl) (λ a w args e. repaired_con s a w args e) limit v facts known h

module _ (s : Signature) (written : List (List ℕ)) (limit : ℕ) (facts : List (ℕ × Fact)) (n : ℕ) (cells : List Shape) (sol : IsSolution limit facts n cells) (known : AreKnown s written facts) where
  pub are_types : (v : ℕ → Typ) → Fits v cells → ((i : ℕ) → cell cells i ≡ Open → IsType s (v i)) → (i : ℕ) → IsType s (v i)
  are_types v fits opens i =
      let fixed = sol.to (λ i. repaired s (v i)) (repaired_solves s written limit v facts known (sol.back v fits)) in
      let same = sol.determines.same (λ i. repaired s (v i)) v fixed fits (λ j e. repaired_same s (v j) (opens j e)) i in
      rw (← same) (repaired_is s (v i))
