-- What a definition leaves of earlier theorems, and its own.
use Rattle.std.specs.Prelude.{ℕ, List, Result, Ok, Err, IfOk, OnOk}
use Rattle.fp_term.specs.Terms.{Tm}
use Rattle.fp_kernel.specs.Definitions.{Def, Within, whole, newer}
use Rattle.fp_kernel.specs.Defining.{Defines}
use Rattle.fp_kernel.specs.Theorems.{Theorem}
use Rattle.fp_kernel.specs.declared.fault.DefFault.{DefFault}

pub longer : (old new : List Def) (name : List ℕ) (body : Tm) (result : Result Theorem DefFault) → IfOk result (Defines old new name body) → OnOk result ((older : List Def) → Within older old → Within older new)
longer old new name body (Ok th) d = λ older w. rw d.list (newer _ w)
longer old new name body (Err fault) d = tt

pub defined : (old new : List Def) (name : List ℕ) (body : Tm) (result : Result Theorem DefFault) → IfOk result (Defines old new name body) → IfOk result (λ th. Within th.defs new)
defined old new name body (Ok th) d = rw d.theorem whole
defined old new name body (Err fault) d = tt
