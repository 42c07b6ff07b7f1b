use Rattle.std.proofs.Common.{◌≡◌, ◌-◌, length, take}
use Rattle.fp_term.specs.Typing.{function_type_over}
use Rattle.fp_term.proofs.typing.function_of_all.Given as goal

abbrev pub invariant-loop-at : goal.invariant-loop-at
invariant-loop-at l = function_type_over (take (length l.from - l.at) l.from) l.made ≡ function_type_over l.from l.fn.to
