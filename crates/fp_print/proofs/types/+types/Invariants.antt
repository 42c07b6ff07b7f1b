use Rattle.std.proofs.Common.{◌+◌, ◌*◌}
use Rattle.fp_term.specs.Types.{type_parts, types_parts}
use Rattle.fp_print.proofs.types.+types.Given as goal

abbrev pub decreases-print_type_onto : goal.decreases-print_type_onto
decreases-print_type_onto l = 4 * type_parts l.ty.now

abbrev pub decreases-print_part : goal.decreases-print_part
decreases-print_part l = 4 * type_parts l.ty.now + 1

abbrev pub decreases-print_applied : goal.decreases-print_applied
decreases-print_applied l = 4 * types_parts l.args.now + 1

abbrev pub decreases-print_joined : goal.decreases-print_joined
decreases-print_joined l = 4 * (type_parts l.first.now + type_parts l.second.now) + 2

abbrev pub decreases-print_two : goal.decreases-print_two
decreases-print_two l = 4 * (type_parts l.first.now + type_parts l.second.now) + 3

abbrev pub decreases-print_listed : goal.decreases-print_listed
decreases-print_listed l = 4 * (type_parts l.first.now + types_parts l.rest.now) + 3

abbrev pub decreases-print_after_commas : goal.decreases-print_after_commas
decreases-print_after_commas l = 4 * types_parts l.tys.now + 1
