use Rattle.std.proofs.Common.{◌<◌, length, arith}
use Rattle.fp_lines.proofs.Paired.{types_shorter, type_kinds_behind, types_behind}
use Rattle.fp_lines.proofs.pairs.+push_type_pairs.Goals as goal

pub push_type_pairs-requires : goal.push_type_pairs-requires
push_type_pairs-requires t c =
    let s = c.in-Some in
    let measure = c.decreases in
    let falls = types_shorter c.args.args.now s.name.now s.ty.now s.rest.now s.ensures in
    let below : length s.rest.now < t = omega arith in
    (below, type_kinds_behind c.args.args.now s.name.now s.ty.now s.rest.now s.ensures c.requires)

pub returns : goal.returns
returns t c =
    let s = c.in-Some in
    types_behind c.args.signature.now c.args.args.now s.name.now s.ty.now c.in_ok-ty.ty s.rest.now c.args.pairs.now.items c.push_type.new.pairs.items c.push_type_pairs.new.pairs.items
    c.push_type_pairs.result s.ensures c.in_ok-ty.ensures c.in_ok-push_type.ensures c.push_type_pairs.ensures
