-- The rules of the first clauses and that of the next are those of one clause more.
use Rattle.std.proofs.Common.{◌≡◌, ℕ, ◌+◌, length, List, [], ◌∷◌, ◌++◌, arith}
use Rattle.std.proofs.lemmas.List.{length-append}
use Rattle.fp_group.specs.declared.group.Group.{Group}
use Rattle.fp_kernel.specs.Definitions.{Def, Within}
use Rattle.fp_kernel.specs.Theorems.{Theorem, plain}
use Rattle.fp_retrace.specs.Standing.{AreWithin}
use Rattle.fp_spec.specs.Statements.{psimp_of}
use Rattle.fp_partial.specs.Rules.{ArePartialRules}

rules_after : (group : Group) (n : ℕ) (ths : List Theorem) (th : Theorem) → ArePartialRules group n ths → th ≡ plain th.defs (psimp_of group (n + length ths)) → ArePartialRules group n (ths ++ th ∷ [])
rules_after group n [] th k h = let e : n + 0 ≡ n = omega arith in (cc, tt)
rules_after group n (x ∷ ths) th k h =
    let e : n + length (x ∷ ths) ≡ (n + 1) + length ths = omega arith in
    (k.0, rules_after group (n + 1) ths th k.1 cc)

pub rules_next : (group : Group) (old new : List Theorem) (th : Theorem) (n : ℕ) → new ≡ old ++ th ∷ [] → length old ≡ n → ArePartialRules group 0 old → th ≡ plain th.defs (psimp_of group n) → ArePartialRules group 0 new
rules_next group old new th n e l k h =
    let f : 0 + length old ≡ n = omega arith in
    rw e (rules_after group 0 old th k cc)

within_after : (defs : List Def) (ths : List Theorem) (th : Theorem) → AreWithin defs ths → Within th.defs defs → AreWithin defs (ths ++ th ∷ [])
within_after defs [] th k h = (h, tt)
within_after defs (x ∷ ths) th k h = (k.0, within_after defs ths th k.1 h)

pub within_next : (defs now : List Def) (old new : List Theorem) (th : Theorem) → new ≡ old ++ th ∷ [] → now ≡ defs → AreWithin defs old → Within th.defs now → AreWithin defs new
within_next defs now old new th e d k h = rw e (within_after defs old th k (rw (← d) h))

pub length_next : (old new : List Theorem) (th : Theorem) (n : ℕ) → new ≡ old ++ th ∷ [] → length old ≡ n → length new ≡ n + 1
length_next old new th n e l = let f = length-append old (th ∷ []) in rw e (omega arith)
