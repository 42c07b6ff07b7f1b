use Rattle.std.proofs.Common.{rules, sym}
use Rattle.fp_shown.specs.Shown.{number_on}
use Rattle.fp_shown.specs.Known.{known_at}
use Rattle.fp_shown.proofs.ColumnKind.{kind_skip, kind_hole, kind_less, kind_leq}
use Rattle.fp_shown.proofs.search.kind_of.Goals as goal
use Rattle.fp_shown.proofs.search.kind_of.Goals.{then-is_none+in-None, then-is_none+in-Some-Less, then-is_none+in-Some-Leq, else-is_none}

pub loop-row-preserved : goal.loop-row-preserved
loop-row-preserved c =
    let K = known_at (number_on c.args.s.now.grid) c.args.known.now in
    let d = c.args.decided.now in
    let b = c.loop-row.invariant in
    elim c.if-is_none.branch [
      | then-is_none+in-None w ↦ rw (w.hole-is, w.less-is) (kind_hole K d c.args.column c.loop-row.row c.loop-row.hole c.loop-row.less b (search rules) (search rules))
      | then-is_none+in-Some-Less w ↦ rw (w.hole-is, w.less-is) (kind_less K d c.args.column c.loop-row.row c.loop-row.hole c.loop-row.less b (search rules) (sym (rw w.in-Some-Less.field-0-is at w.in-Some-Less.ensures)))
      | then-is_none+in-Some-Leq w ↦ rw (w.hole-is, w.less-is) (kind_leq K d c.args.column c.loop-row.row c.loop-row.hole c.loop-row.less b (search rules) (sym (rw w.in-Some-Leq.field-0-is at w.in-Some-Leq.ensures)))
      | else-is_none w ↦ rw (w.hole-is, w.less-is) (kind_skip K d c.args.column c.loop-row.row c.loop-row.hole c.loop-row.less b (search rules))
    ]
