-- A rule's theorem is over the list of definitions that it was asked of.
use Rattle.std.specs.Prelude.{◌≡◌, ℕ, List, Result, Ok, Err, IfOk}
use Rattle.fp_term.specs.Terms.{Tm}
use Rattle.fp_conclude.specs.Outcomes.{Outcome, gives, refused, Answers}
use Rattle.fp_conclude.specs.declared.fault.RuleFault.{RuleFault}
use Rattle.fp_kernel.specs.Definitions.{Def, Within, whole}
use Rattle.fp_kernel.specs.Theorems.{Theorem, stands}

same_list : (a b : Theorem) → gives a ≡ gives b → a.defs ≡ b.defs
same_list a b e = cc

within : (old defs : List Def) → defs ≡ old → Within old defs
within old defs e = rw e whole

over : (defs : List Def) (promises : List (ℕ × Tm)) (hyps : List Tm) (o : Outcome Tm) (th : Theorem) → stands defs promises hyps o ≡ gives th → Within th.defs defs
over defs promises hyps (gives c) th e = within th.defs defs (same_list _ th e)
over defs promises hyps (refused r) th e = cc

pub answered : (defs : List Def) (promises : List (ℕ × Tm)) (hyps : List Tm) (o : Outcome Tm) (result : Result Theorem RuleFault) → Answers result (stands defs promises hyps o) → IfOk result (λ th. Within th.defs defs)
answered defs promises hyps o (Ok th) e = over defs promises hyps o th e
answered defs promises hyps o (Err fault) e = tt
