-- One level of an index, as the program holds it.
use Rattle.fp_rewriting.specs.Index.{Tree, tip, fork}
use Rattle.fp_rewriting.specs.declared.index.Branch.{Branch}
use Rattle.fp_rewriting.specs.declared.index.Branch.TheVariants.{Tip, Fork}

abbrev pub seen_tree : Branch → Tree
seen_tree Tip = tip
seen_tree (Fork head rules zero one) = fork head rules zero.value one.value
