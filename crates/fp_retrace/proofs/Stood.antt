-- What rules make stands over the first ones of the definitions.
use Rattle.std.proofs.Common.{◌≡◌, ◌<◌, ℕ, zero, suc, length, get_or, List, [], ◌∷◌, ◌++◌, arith}
use Rattle.std.specs.Prelude.{Result, Ok, Err, IfOk, OnOk}
use Rattle.fp_term.specs.Terms.{Tm}
use Rattle.fp_conclude.specs.Hypotheses.{union}
use Rattle.fp_conclude.specs.Outcomes.{Outcome, gives, refused, Answers}
use Rattle.fp_conclude.specs.declared.fault.RuleFault.{RuleFault}
use Rattle.fp_kernel.specs.Definitions.{Def, Within, whole}
use Rattle.fp_kernel.specs.Theorems.{Theorem, promise_union, stands, from_one, from_both}
use Rattle.fp_retrace.specs.Standing.{IsWithin, AreWithin, AreNamedWithin}

same_theorem : (a b : Theorem) → gives a ≡ gives b → a ≡ b
same_theorem a b e = cc

pub stood : (defs : List Def) (promises : List (ℕ × Tm)) (hyps : List Tm) (o : Outcome Tm) (th : Theorem) → stands defs promises hyps o ≡ gives th → Within th.defs defs
stood defs promises hyps (gives c) th e = rw (← same_theorem _ th e) whole
stood defs promises hyps (refused r) th e = cc

answered : (defs : List Def) (promises : List (ℕ × Tm)) (hyps : List Tm) (o : Outcome Tm) (r : Result Theorem RuleFault) (th : Theorem) → Answers r (stands defs promises hyps o) → r ≡ Ok th → Within th.defs defs
answered defs promises hyps o (Ok x) th h e = let f : x ≡ th = cc in rw (← f) (stood defs promises hyps o x h)
answered defs promises hyps o (Err f) th h e = cc

-- what a rule gave
pub made_within : {E : Type 0} (defs : List Def) (promises : List (ℕ × Tm)) (hyps : List Tm) (o : Outcome Tm) (r : Result Theorem RuleFault) (q : Result Theorem E) →
    Answers r (stands defs promises hyps o) → IfOk q (λ th. r ≡ Ok th) → IfOk q (IsWithin defs)
made_within defs promises hyps o r (Ok th) h e = answered defs promises hyps o r th h e
made_within defs promises hyps o r (Err f) h e = tt

pub both_within : {E : Type 0} (defs : List Def) (r : Result Theorem RuleFault) (q : Result Theorem E) (a b : Theorem) (o : Outcome Tm) → Answers r (from_both defs a b o) → IfOk q (λ th. r ≡ Ok th) → IfOk q (IsWithin defs)
both_within defs r q a b o h e = made_within defs (promise_union a.promises b.promises) (union a.hyps b.hyps) o r q h e

pub one_within : {E : Type 0} (defs : List Def) (r : Result Theorem RuleFault) (q : Result Theorem E) (a : Theorem) (hyps : List Tm) (o : Outcome Tm) → Answers r (from_one defs a hyps o) → IfOk q (λ th. r ≡ Ok th) → IfOk q (IsWithin defs)
one_within defs r q a hyps o h e = made_within defs a.promises hyps o r q h e

within_after : (defs : List Def) (ths : List Theorem) (th : Theorem) → AreWithin defs ths → Within th.defs defs → AreWithin defs (ths ++ th ∷ [])
within_after defs [] th k l = (l, tt)
within_after defs (x ∷ ths) th k l = (k.0, within_after defs ths th k.1 l)

-- one more equation
pub within_pushed : {A E : Type 0} (defs : List Def) (q : Result A E) (old new : List Theorem) (fact : Theorem) → OnOk q (new ≡ old ++ fact ∷ []) → AreWithin defs old → Within fact.defs defs → OnOk q (AreWithin defs new)
within_pushed defs (Ok x) old new fact e k l = rw e (within_after defs old fact k l)
within_pushed defs (Err x) old new fact e k l = tt

-- one more theorem on top
pub within_put : {A E : Type 0} (defs : List Def) (q : Result A E) (old new : List Theorem) (th : Theorem) → OnOk q (new ≡ th ∷ old) → AreWithin defs old → Within th.defs defs → OnOk q (AreWithin defs new)
within_put defs (Ok x) old new th e k l = rw e (l, k)
within_put defs (Err x) old new th e k l = tt

pub within_at : (defs : List Def) (ths : List Theorem) (i : ℕ) (th : Theorem) → th ≡ get_or ths i th → i < length ths → AreWithin defs ths → Within th.defs defs
within_at defs [] i th e h k = absurd (omega arith)
within_at defs (x ∷ ths) zero th e h k = rw e (k.0)
within_at defs (x ∷ ths) (suc i) th e h k = within_at defs ths i th e (omega arith) k.1

pub named_at : (defs : List Def) (named : List (List ℕ × Theorem)) (i : ℕ) (n : List ℕ × Theorem) → n ≡ get_or named i n → i < length named → AreNamedWithin defs named → Within n.1.defs defs
named_at defs [] i n e h k = absurd (omega arith)
named_at defs (x ∷ more) zero n e h k = rw e (k.0)
named_at defs (x ∷ more) (suc i) n e h k = named_at defs more i n e (omega arith) k.1

-- the theorem on top, and those under it
pub top_within : (defs : List Def) (th : Theorem) (all ths : List Theorem) → all ≡ th ∷ ths → AreWithin defs all → Within th.defs defs
top_within defs th all ths e k = (rw e at k).0

pub rest_within : (defs : List Def) (th : Theorem) (all ths : List Theorem) → all ≡ th ∷ ths → AreWithin defs all → AreWithin defs ths
rest_within defs th all ths e k = (rw e at k).1

-- what stands anyway stands on success
pub stands_anyway : {A E : Type 0} (q : Result A E) (P : Type 0) → P → OnOk q P
stands_anyway (Ok x) P p = p
stands_anyway (Err x) P p = tt

-- at these definitions
pub within_at_these : {A E : Type 0} (q : Result A E) (defs : List Def) (old new : List Theorem) → OnOk q ((ds : List Def) → AreWithin ds old → AreWithin ds new) → AreWithin defs old → OnOk q (AreWithin defs new)
within_at_these (Ok x) defs old new f k = f defs k
within_at_these (Err x) defs old new f k = tt
