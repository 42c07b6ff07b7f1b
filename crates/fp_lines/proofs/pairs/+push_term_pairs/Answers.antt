use Rattle.std.proofs.Common.{◌<◌, length, arith}
use Rattle.fp_lines.specs.Read.{scene_of, signature_in}
use Rattle.fp_lines.proofs.Paired.{terms_shorter, term_kinds_behind, pairs_behind}
use Rattle.fp_lines.proofs.pairs.+push_term_pairs.Goals as goal

pub push_term_pairs-requires : goal.push_term_pairs-requires
push_term_pairs-requires t c =
    let s = c.in-Some in
    let measure = c.decreases in
    let falls = terms_shorter c.args.args.now s.variable.now s.term.now s.rest.now s.ensures in
    let below : length s.rest.now < t = omega arith in
    (below, (c.requires.sound, term_kinds_behind (signature_in (scene_of c.args.setting.now)) c.args.args.now s.variable.now s.term.now s.rest.now s.ensures c.requires.kinds))

pub returns-clause-pairs : goal.returns-clause-pairs
returns-clause-pairs t c =
    let s = c.in-Some in
    pairs_behind (scene_of c.args.setting.now) c.args.args.now s.variable.now s.term.now s.rest.now c.args.pairs.now.items c.push_terms.new.pairs.items c.push_term_pairs.new.pairs.items
    c.push_term_pairs.result s.ensures c.in_ok-push_terms.ensures.pair c.push_term_pairs.ensures.pairs
