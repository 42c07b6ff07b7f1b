use Rattle.std.proofs.Common.{rules, arith, ◌≡◌, ◌<◌, ◌∙◌, length, replicate, ap, sym, slice_get, ℕ, List, Option, Some, None}
use Rattle.fp_order.specs.declared.entry.Entry.{Entry}
use Rattle.std.proofs.lemmas.List.{length-set, length-replicate}
use Rattle.fp_order.specs.Grid.{cells_of}
use Rattle.fp_shown.specs.Need.{IsNextNeeded, nothing_known}
use Rattle.fp_shown.proofs.Needs.{hole_filled}
use Rattle.fp_needed.specs.Needed.{AllKnownOrShown, IsVerdictAt}
use Rattle.std.proofs.lemmas.Option.{slice_get-get_or}
use Rattle.fp_simp.specs.declared.cell.CellData.{CellData}
use Rattle.fp_needed.proofs.Settled.{way_start, way_step, way_end}
use Rattle.fp_needed.proofs.settling.needed.Goals as goal

pub loop-known-init : goal.loop-known-init
loop-known-init c =
    let g = c.args.g.now in
    let all : c.in_ok-known.known.items ≡ nothing_known g = c.in_ok-known.ensures.items_if_clones_equal (λ y k. search rules) ∙ ap (λ (m : ℕ). replicate m None) c.requires.cells in
    record { len = ap (λ (x : List (Option Entry)). length x) all ∙ length-replicate (length (cells_of g)) None; way = way_start g c.args.rules.now c.args.cells.now c.in_ok-known.known.items all }

pub loop-known-smaller : goal.loop-known-smaller
loop-known-smaller c =
    let g = c.args.g.now in
    let known = c.loop-known.known.items in
    let next : IsNextNeeded g known c.in-Some.cell = rw (c.in-Some.is, c.as_slice.ensures.value, c.in_ok-s.ensures) at c.in_ok-cell.ensures in
    omega (arith, hole_filled known c.in-Some.cell c.in_ok-verdict.field-0 (omega (arith, next.inside, c.loop-known.invariant.len)) next.unknown)

pub loop-known-preserved : goal.loop-known-preserved
loop-known-preserved c =
    let g = c.args.g.now in
    let known = c.loop-known.known.items in
    let k = c.in-Some.cell in
    let next : IsNextNeeded g known k = rw (c.in-Some.is, c.as_slice.ensures.value, c.in_ok-s.ensures) at c.in_ok-cell.ensures in
    let goals = c.index-cells-cell.result in
    let near : k < length c.args.cells.now = omega (arith, next.inside, c.requires.cells) in
    let got : slice_get c.args.cells.now k ≡ Some goals = slice_get-get_or c.args.cells.now k goals near ∙ ap (λ (x : CellData). Some x) (sym c.index-cells-cell.is) in
    let at : IsVerdictAt c.args.rules.now c.args.cells.now k c.in_ok-verdict.field-0 = record { goals = goals; at = got; is = c.in_ok-verdict.ensures } in
    record {
      len = length-set known k (Some c.in_ok-verdict.field-0) ∙ c.loop-known.invariant.len;
      way = way_step g c.args.rules.now c.args.cells.now known k c.in_ok-verdict.field-0 c.loop-known.invariant.way next at;
    }

pub returns : goal.returns
returns c =
    let g = c.args.g.now in
    let known = c.loop-known.known.items in
    let all : AllKnownOrShown g known = rw (c.in_default.is, c.as_slice.ensures.value, c.in_ok-s.ensures) at c.in_ok-cell.ensures in
    way_end g c.args.rules.now c.args.cells.now known c.loop-known.invariant.way c.loop-known.invariant.len all
