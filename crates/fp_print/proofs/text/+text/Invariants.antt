use Rattle.std.proofs.Common.{◌+◌, ◌*◌}
use Rattle.fp_print.specs.Shapes.{shape}
use Rattle.fp_print.specs.Views.{seen_form}
use Rattle.fp_print.proofs.Sizes.{shape_size}
use Rattle.fp_print.proofs.text.+text.Given as goal

abbrev pub decreases-print_placed : goal.decreases-print_placed
decreases-print_placed l = 4 * shape_size (shape l.term.now) + 1

abbrev pub decreases-print_part : goal.decreases-print_part
decreases-print_part l = 4 * shape_size (shape l.term.now) + 2

abbrev pub decreases-print_inner : goal.decreases-print_inner
decreases-print_inner l = 4 * shape_size (seen_form l.form.now)

abbrev pub decreases-print_bound : goal.decreases-print_bound
decreases-print_bound l = 4 * shape_size (shape l.body.now) + 3

abbrev pub decreases-print_joined : goal.decreases-print_joined
decreases-print_joined l = 4 * (shape_size (shape l.left.now) + shape_size (shape l.right.now)) + 3

abbrev pub decreases-print_chosen : goal.decreases-print_chosen
decreases-print_chosen l = 4 * (shape_size (shape l.test.now) + shape_size (shape l.one.now) + shape_size (shape l.other.now)) + 3
