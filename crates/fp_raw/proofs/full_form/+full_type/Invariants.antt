use Rattle.std.proofs.Common.{◌≡◌, ◌≤◌}
use Rattle.fp_term.specs.Types.{types_parts}
use Rattle.fp_raw.specs.Raws.{full_types}
use Rattle.fp_raw.proofs.Joined.{joined}
use Rattle.fp_raw.proofs.full_form.+full_type.Given as goal

abbrev pub decreases-full_arguments : goal.decreases-full_arguments
decreases-full_arguments l = goal.size-full_arguments l

abbrev pub decreases-full_type : goal.decreases-full_type
decreases-full_type l = goal.size-full_type l

abbrev pub invariant-full_arguments-loop-first : goal.invariant-full_arguments-loop-first
invariant-full_arguments-loop-first l =
    (joined l.args.items (full_types l.at l.rest) ≡ full_types l.at l.types) × (types_parts l.rest ≤ types_parts l.types)
