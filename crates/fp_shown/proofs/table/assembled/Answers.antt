use Rattle.fp_shown.proofs.Inside.{numbers_told, numbers_long}
use Rattle.fp_shown.proofs.table.assembled.Goals as goal

pub invariant_of-result : goal.invariant_of-result
invariant_of-result c = record {
  right = c.requires.right;
  tabled = c.requires.tabled;
  count = c.requires.count;
  row_count = c.row_count.ensures;
  full = numbers_long c.args.grid c.args.numbers.items c.requires.numbers c.args.columns c.row_count.result c.requires.count c.row_count.ensures;
  told = numbers_told c.args.grid c.args.numbers.items c.requires.numbers c.args.columns c.row_count.result c.requires.count c.row_count.ensures;
}
