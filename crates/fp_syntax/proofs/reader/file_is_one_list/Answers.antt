use Rattle.fp_syntax.proofs.Single.{one_list}
use Rattle.fp_syntax.proofs.reader.file_is_one_list.Goals as goal

pub returns : goal.returns
returns c = one_list
