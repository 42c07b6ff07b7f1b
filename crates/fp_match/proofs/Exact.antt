-- Steps of a search that find exactly what agrees with a fact.
use Rattle.std.proofs.Common.{◌≡◌, Bool, true, false, cond, refl}
use Rattle.std.specs.Prelude.{Option, Some, None}
use Rattle.std.specs.Option.{option_and_then}
use Rattle.std.specs.Bool.{Decides}
use Rattle.std.proofs.lemmas.Option.{none-some, same_Some, option_and_then_some}

-- A step from `old` to what it finds, if anything: what agrees with `old` and has the fact agrees with what is found,
-- and nothing else does.
pub record Exact {S : Type 0} (Agrees Kept : S → Type 0) (old : S) (Fact : Type 0) (o : Option S) : Type 0 where
  pub finds : Agrees old → Fact → (new : S) × (o ≡ Some new) × Agrees new
  pub back : (new : S) → o ≡ Some new → Agrees new → Agrees old × Fact
  pub keeps : (new : S) → o ≡ Some new → Kept old → Kept new

-- a step that finds nothing, since nothing has the fact
pub exact_none : {S : Type 0} (A K : S → Type 0) (s : S) (E : Type 0) → (A s → E → ⊥) → Exact A K s E None
exact_none A K s E never = record {
  finds = λ a e. absurd (never a e);
  back = λ new same a. absurd (none-some new same);
  keeps = λ new same k. absurd (none-some new same);
}

-- the same step for the same fact in other words
pub exact_alike : {S : Type 0} (A K : S → Type 0) (s : S) (E F : Type 0) (o : Option S) → (E → F) → (F → E) → Exact A K s E o → Exact A K s F o
exact_alike A K s E F o there back h = record {
  finds = λ a f. h.finds a (back f);
  back = λ new same a. let r = h.back new same a in (r.0, there r.1);
  keeps = h.keeps;
}

-- a step behind a test
pub exact_if : {S : Type 0} (A K : S → Type 0) (s : S) (P E : Type 0) (b : Bool) (o : Option S) → Decides b P → Exact A K s E o → Exact A K s (P × E) (cond b o None)
exact_if A K s P E true o d h = exact_alike A K s E (P × E) o (λ e. (d.0 refl, e)) (λ p. p.1) h
exact_if A K s P E false o d h = exact_none A K s (P × E) (λ a p. let e : false ≡ true = d.1 p.0 in cc)

-- a step that stays where a test says that the fact holds
pub exact_known : {S : Type 0} (A K : S → Type 0) (s : S) (P E : Type 0) (b : Bool) → Decides b P → (A s → E → P) → (A s → P → E) → Exact A K s E (cond b (Some s) None)
exact_known A K s P E true d there back = record {
  finds = λ a e. (s, refl, a);
  back = λ new same a. let b : A s = rw (same_Some s new same) a in (b, back b (d.0 refl));
  keeps = λ new same k. rw (← same_Some s new same) k;
}
exact_known A K s P E false d there back = exact_none A K s E (λ a e. let f : false ≡ true = d.1 (there a e) in cc)

pub exact_some : {S : Type 0} (A K : S → Type 0) (s : S) (E : Type 0) → E → Exact A K s E (Some s)
exact_some A K s E h = exact_known A K s (Unit {0}) E true ((λ _. tt), (λ _. refl)) (λ _ _. tt) (λ _ _. h)

-- a step, and then one from what it found
pub exact_then : {S : Type 0} (A K : S → Type 0) (s : S) (E F : Type 0) (o : Option S) (f : S → Option S) → Exact A K s E o → ((mid : S) → Exact A K mid F (f mid)) → Exact A K s (E × F) (option_and_then f o)
exact_then A K s E F o f h g = record {
  finds = λ a p. let q = h.finds a p.0 in let r = (g q.0).finds q.2 p.1 in (r.0, rw q.1 r.1, r.2);
  back = λ new same a.
      option_and_then_some f o new same
      (λ mid m n. let r = (g mid).back new n a in let q = h.back mid m r.0 in (q.0, (q.1, r.1)));
  keeps = λ new same k. option_and_then_some f o new same (λ mid m n. (g mid).keeps new n (h.keeps mid m k));
}
