use Rattle.std.proofs.Common.{◌≡◌}
use Rattle.fp_term.specs.Typing.{function_type_over}
use Rattle.fp_admit.proofs.taking.head_by.Given as goal

abbrev pub invariant-loop : goal.invariant-loop
invariant-loop l = l.fn.ty ≡ function_type_over l.args l.rest
