-- Fuel and room never rise, and each entry is counted.
use Rattle.std.proofs.Common.{◌≤◌, ℕ, Bool, List, arith}
use Rattle.std.specs.Prelude.{Option}
use Rattle.fp_term.specs.Terms.{Tm}
use Rattle.fp_rewriting.specs.declared.left.Left.{Left}
use Rattle.fp_rewriting.specs.declared.rule.Rule.{Rule}
use Rattle.fp_rewriting.specs.Spending.{stepped, paid, emptied}
use Rattle.fp_rewriting.specs.Simplification.{Known, Simplifies, Rewrites, Goes, Finds, FindsRule, Hold, abstraction, application, other, rewriting, stays, ends, continues, no_fuel, at_once, by_rules, no_rule, too_deep, no_instance, used, unused, all_hold, fails, holds}

pub record Falls (l m : Left) : Type 0 where
  pub fuel : m.fuel ≤ l.fuel
  pub room : m.room ≤ l.room
  pub steps : l.steps ≤ m.steps

pub falls_same : (l : Left) → Falls l l
falls_same l = record { fuel = omega arith; room = omega arith; steps = omega arith }

pub falls_on : {l m n : Left} → Falls l m → Falls m n → Falls l n
falls_on a b = record { fuel = omega arith; room = omega arith; steps = omega arith }

pub falls_step : (l : Left) → Falls l (stepped l)
falls_step l = record { fuel = omega arith; room = omega arith; steps = omega arith }

falls_paid : (l : Left) (v : Tm) → Falls l (paid l v)
falls_paid l v = record { fuel = omega arith; room = omega arith; steps = omega arith }

falls_emptied : (l : Left) → Falls l (emptied l)
falls_emptied l = record { fuel = omega arith; room = omega arith; steps = omega arith }

pub later : {l m : Left} → Falls (stepped l) m → Falls l m
later {l} a = falls_on (falls_step l) a

mutual
  pub simplifies_falls : {k : Known} {d : ℕ} {l : Left} {t u : Tm} {m : Left} → Simplifies k d l t u m → Falls (stepped l) m
  simplifies_falls (abstraction s x y a) = later (simplifies_falls a)
  simplifies_falls (application f x g y u a b c) = falls_on (later (simplifies_falls a)) (falls_on (later (simplifies_falls b)) (later (rewrites_falls c)))
  simplifies_falls (other t u e a) = later (rewrites_falls a)

  pub rewrites_falls : {k : Known} {d : ℕ} {l : Left} {t u : Tm} {m : Left} → Rewrites k d l t u m → Falls (stepped l) m
  rewrites_falls (rewriting t u o a b) = falls_on (finds_falls a) (goes_falls b)

  pub goes_falls : {k : Known} {d : ℕ} {l : Left} {t : Tm} {o : Option Tm} {u : Tm} {m : Left} → Goes k d l t o u m → Falls l m
  goes_falls (stays {d} {l} t) = falls_same l
  goes_falls (ends {d} {l} t v e) = falls_emptied l
  goes_falls (continues {d} {l} t v u e a) = falls_on (falls_paid l v) (later (simplifies_falls a))

  pub finds_falls : {k : Known} {d : ℕ} {l : Left} {t : Tm} {o : Option Tm} {m : Left} → Finds k d l t o m → Falls l m
  finds_falls (no_fuel {d} {l} t e) = falls_same l
  finds_falls (at_once {d} {l} t u e f) = falls_same l
  finds_falls (by_rules t o e f a) = rule_falls a

  pub rule_falls : {k : Known} {d : ℕ} {l : Left} {rs : List Rule} {t : Tm} {o : Option Tm} {m : Left} → FindsRule k d l rs t o m → Falls l m
  rule_falls (no_rule {d} {l} t) = falls_same l
  rule_falls (too_deep r rs t o e a) = rule_falls a
  rule_falls (no_instance r rs t o e a) = rule_falls a
  rule_falls (used r rs t i e f a) = hold_falls a
  rule_falls (unused r rs t o i e f a b) = falls_on (hold_falls a) (rule_falls b)

  pub hold_falls : {k : Known} {d : ℕ} {l : Left} {ps : List Tm} {b : Bool} {m : Left} → Hold k d l ps b m → Falls l m
  hold_falls (all_hold {d} {l}) = falls_same l
  hold_falls (fails p q ps a e) = later (simplifies_falls a)
  hold_falls (holds p q ps b a e c) = falls_on (later (simplifies_falls a)) (hold_falls c)
