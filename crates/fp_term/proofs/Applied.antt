-- What is answered for an application, from the types of its parts.
use Rattle.std.proofs.Common.{List, ap}
use Rattle.std.specs.Prelude.{Result, Ok, Err}
use Rattle.fp_term.specs.Types.{Typ}
use Rattle.fp_term.specs.Terms.{Tm, app}
use Rattle.fp_term.specs.Typing.{type_of_app, here_unless}
use Rattle.fp_term.specs.Faults.{HasType, TypeAnswer, AppliedAnswer}
use Rattle.fp_term.specs.declared.typing.TypeOfFault.{TypeOfFault}
use Rattle.fp_term.specs.declared.typing.TypeOfFault.TheVariants.{IllTyped, NoMemory}

pub applied_answer : (env : List Typ) (f x : Tm) (s t : Typ) (r : Result Typ TypeOfFault) → HasType env f s → HasType env x t → AppliedAnswer (type_of_app s t) r → TypeAnswer env (app f x) r
applied_answer env f x s t (Ok u) h k e = record { type_is = rw (h.type_is, k.type_is) e; well = rw (h.well, k.well, h.type_is, k.type_is) (ap here_unless e) }
applied_answer env f x s t (Err (IllTyped place)) h k e = rw (h.well, k.well, h.type_is, k.type_is, e.1) (ap here_unless e.0)
applied_answer env f x s t (Err NoMemory) h k e = tt
