use Rattle.std.proofs.Common.{arith}
use Rattle.fp_unify.proofs.Named.{within_some, args_within, rest_below, rest_within, shown_next}
use Rattle.fp_unify.proofs.naming.+show.Goals as goal

pub show-overflow_sub-room : goal.show-overflow_sub-room
show-overflow_sub-room t c = within_some _ _ _ c.requires.determines c.requires.small

pub show-show_all-requires : goal.show-show_all-requires
show-show_all-requires t c =
    let p = within_some _ _ _ c.requires.determines c.requires.small in
    let a = args_within _ _ _ _ _ _ _ _ c.requires.fine c.index-cells-root.is c.in-Con.is (omega (arith, c.root-root.ensures.low, c.requires.inside)) c.root-root.ensures.same c.requires.small c.as_slice.ensures in
    (omega (arith, p), (c.requires.fine, (c.requires.determines, (a.0, (c.requires.written, (a.1, c.requires.namer))))))

pub show_all-loop-at-preserved : goal.show_all-loop-at-preserved
show_all-loop-at-preserved t c =
    let i = c.loop-at.invariant in
    let less = c.loop-at-test.true in
    record {
      inside = rest_below _ _ _ 0 less i.inside;
      small = rest_within _ _ _ _ 0 less i.small;
      namer = c.in_ok-ty.ensures.namer;
      showing = shown_next _ _ _ _ 0 _ _ _ _ _ _ less i.showing c.in_ok-ty.ensures.shows c.in_ok-push.ensures.items;
    }
