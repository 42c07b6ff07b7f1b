use Rattle.std.proofs.Common.{rules, ◌<◌, length, arith}
use Rattle.fp_sources.specs.Sources.{told_one}
use Rattle.fp_sources.proofs.Telling.{told_next}
use Rattle.fp_sources.proofs.sources.tell_each.Goals as goal

pub loop-source-preserved : goal.loop-source-preserved
loop-source-preserved g c =
    let below : c.loop-source.source-index < length c.loop-source.sources = omega arith in
    told_next _ (told_one c.args.decl.now.kind c.args.decl.now.ty c.args.decl.now.term) c.loop-source.sources c.loop-source.source-index c.source-item.result c.tell_one.new.told _ c.source-item.is below (search rules) c.loop-source.invariant
