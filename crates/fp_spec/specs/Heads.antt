-- The arguments and the results of a group's functions, each as one value.
use Rattle.std.specs.Prelude.{ℕ, ◌+◌, Bool, ◌&&◌, ◌==◌, nat_lt, if◌then◌else◌, List, [], ◌∷◌, length, map, Option, Some, None, codes}
use Rattle.std.specs.List.{slice_get}
use Rattle.fp_term.specs.Names.{numbered}
use Rattle.fp_term.specs.Types.{Typ}
use Rattle.fp_term.specs.Terms.{Tm, constant}
use Rattle.fp_term.specs.Typing.{function_type, function_type_over}
use Rattle.fp_conclude.specs.Logic.{true_constant}
use Rattle.fp_group.specs.declared.clause.Head.{Head}
use Rattle.fp_shapes.specs.Binders.{Variables}
use Rattle.fp_shapes.specs.Tuples.{tuple_type, tuple}
use Rattle.fp_shapes.specs.Sums.{sums, inject, project}

abbrev pub argument_type : Head → Typ
argument_type head = tuple_type head.args

abbrev pub argument_types : List Head → List Typ
argument_types heads = map argument_type heads

abbrev pub result_types : List Head → List Typ
result_types heads = map (λ (head : Head). head.result) heads

-- the arguments of all functions, and the results
abbrev pub argument_sum : List Head → Typ
argument_sum heads = sums (argument_types heads)

abbrev pub result_sum : List Head → Typ
result_sum heads = sums (result_types heads)

-- functions from all arguments to all results
abbrev pub family_type : List Head → Typ
family_type heads = function_type (argument_sum heads) (result_sum heads)

-- `f`, the function
abbrev pub function_at : Head → Tm
function_at head = constant head.name (function_type_over head.args head.result)

-- `x1 .. xn`, from the number on
abbrev pub parameters_from : ℕ → List Typ → Variables
parameters_from n [] = []
parameters_from n (s ∷ tys) = (numbered (codes "x") n, s) ∷ parameters_from (n + 1) tys

abbrev pub parameters : Head → Variables
parameters head = parameters_from 1 head.args

-- are there as many terms as the function has arguments, and at least one?
abbrev pub are_arguments : Head → List Tm → Bool
are_arguments head args = length args == length head.args && nat_lt 0 (length args)

-- `in(t1, .., tn)` for the function of that number, where these are its arguments
abbrev pub in_by : List Head → ℕ → List Tm → Option Head → Tm
in_by heads i args None = true_constant
in_by heads i args (Some head) = if are_arguments head args then inject (argument_types heads) i (tuple head.args args) else true_constant

abbrev pub in_term : List Head → ℕ → List Tm → Tm
in_term heads i args = in_by heads i args (slice_get heads i)

-- `inr(t)` for the function of that number
abbrev pub result_by : List Head → ℕ → Tm → Option Head → Tm
result_by heads i t None = t
result_by heads i t (Some head) = inject (result_types heads) i t

abbrev pub result_in : List Head → ℕ → Tm → Tm
result_in heads i t = result_by heads i t (slice_get heads i)

-- `out(t)` for the function of that number
abbrev pub out_by : List Head → ℕ → Tm → Option Head → Tm
out_by heads i t None = t
out_by heads i t (Some head) = project (result_types heads) i t

abbrev pub result_out : List Head → ℕ → Tm → Tm
result_out heads i t = out_by heads i t (slice_get heads i)
