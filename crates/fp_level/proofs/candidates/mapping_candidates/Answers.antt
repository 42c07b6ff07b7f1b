use Rattle.std.proofs.Common.{arith, ◌≡◌, ◌≤◌, ◌<◌, ◌∙◌, ap, take, map, length, List, ℕ}
use Rattle.fp_order.specs.Grid.{choices}
use Rattle.fp_level.specs.Ranks.{mappings_of}
use Rattle.fp_level.specs.Counts.{set_count, over_choices}
use Rattle.fp_level.proofs.Mappings.{mappings_few, mappings_many}
use Rattle.fp_level.proofs.candidates.mapping_candidates.Goals as goal

pub returns-then-as_slice-gt-MAX_SETS : goal.returns-then-as_slice-gt-MAX_SETS
returns-then-as_slice-gt-MAX_SETS c =
    let functions = c.args.functions.now in
    let counts : c.as_slice.result.now ≡ map set_count functions = c.as_slice.ensures.value ∙ c.in_ok-counts.ensures in
    let chosen : c.in_ok-chosen.chosen ≡ take 2049 (choices (map set_count functions)) =
    c.in_ok-chosen.ensures ∙ ap (λ (t : List ℕ). take 2049 (choices t)) counts in
    let many : 2048 < length c.in_ok-chosen.chosen = omega (arith, ap length c.as_slice-2.ensures) in
    c.new.ensures.items ∙ mappings_many functions c.in_ok-chosen.chosen chosen many

pub returns : goal.returns
returns c =
    let functions = c.args.functions.now in
    let counts : c.as_slice.result.now ≡ map set_count functions = c.as_slice.ensures.value ∙ c.in_ok-counts.ensures in
    let chosen : c.in_ok-chosen.chosen ≡ take 2049 (choices (map set_count functions)) =
    c.in_ok-chosen.ensures ∙ ap (λ (t : List ℕ). take 2049 (choices t)) counts in
    let few : length c.in_ok-chosen.chosen ≤ 2048 = omega (arith, ap length c.as_slice-2.ensures) in
    let all : over_choices c.as_slice-3.result.now ≡ mappings_of functions =
    ap over_choices c.as_slice-3.ensures ∙ mappings_few functions c.in_ok-chosen.chosen chosen few in
    rw all at c.mappings_over.ensures
