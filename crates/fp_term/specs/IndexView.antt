-- One level of an index, as the program holds it.
use Rattle.fp_term.specs.Index.{Entry, has_arity, has_type, Tree, tip, fork}
use Rattle.fp_term.specs.declared.index.Declared.{Declared}
use Rattle.fp_term.specs.declared.index.Declared.TheVariants.{Arity, Constant}
use Rattle.fp_term.specs.declared.index.Branch.{Branch}
use Rattle.fp_term.specs.declared.index.Branch.TheVariants.{Tip, Fork}

abbrev pub seen_entry : Declared → Entry
seen_entry (Arity n) = has_arity n
seen_entry (Constant s) = has_type s

abbrev pub seen_tree : Branch → Tree
seen_tree Tip = tip
seen_tree (Fork name declared zero one) = fork name (seen_entry declared) zero one
