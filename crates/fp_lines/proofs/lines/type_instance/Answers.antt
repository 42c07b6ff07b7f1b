use Rattle.std.proofs.lemmas.Result.{err_from_is_err_and}
use Rattle.fp_lines.specs.Lines.{unread_types, read_types}
use Rattle.fp_lines.proofs.Paired.{types_fail, types_fit}
use Rattle.fp_lines.proofs.lines.type_instance.Goals as goal

pub returns-in_err-push_type_pairs-clause-exact : goal.returns-in_err-push_type_pairs-clause-exact
returns-in_err-push_type_pairs-clause-exact c =
    let p = err_from_is_err_and c.from_residual.result c.from_residual.ensures.1 in
    rw (p.1, p.2)
    (unread_types
    (types_fail c.signature.result.now _ c.args.args.now c.new-pairs.result.items c.push_type_pairs.new.pairs.items c.in_err-push_type_pairs.field-0.0 c.signature.ensures c.new-pairs.ensures.items
    c.in_err-push_type_pairs.ensures))

pub returns-clause-exact : goal.returns-clause-exact
returns-clause-exact c =
    read_types c.push_type_pairs.new.pairs.items
    (types_fit c.signature.result.now _ c.args.args.now c.new-pairs.result.items c.push_type_pairs.new.pairs.items c.signature.ensures c.new-pairs.ensures.items c.in_ok-push_type_pairs.ensures)
    (rw c.as_slice.ensures.value at c.tell_types.ensures.exact)
