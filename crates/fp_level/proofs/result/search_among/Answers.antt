use Rattle.std.proofs.Common.{rules, ◌≡◌, ◌++◌, ◌∙◌, ap, sym, subst, List, ℕ, map, length, None, Option, replicate}
use Rattle.std.proofs.lemmas.List.{length-replicate, get_or-replicate}
use Rattle.fp_level.specs.Ranks.{column_ranks, mappings_of, candidate, candidate_entry}
use Rattle.fp_level.specs.Result.{IsSearched}
use Rattle.fp_level.proofs.Fit.{column_fits, mapping_fits}
use Rattle.fp_level.proofs.Joined.{result_joined}
use Rattle.fp_level.proofs.result.search_among.Goals as goal

pub best_among-requires-clause-ranks : goal.best_among-requires-clause-ranks
best_among-requires-clause-ranks c = rw c.requires.columns (column_fits c.args.s.now.grid.functions)

pub best_among-requires-2-clause-ranks : goal.best_among-requires-2-clause-ranks
best_among-requires-2-clause-ranks c = rw c.requires.mappings (mapping_fits c.args.s.now.grid.functions)

pub returns : goal.returns
returns c =
    let s = c.args.s.now in
    let g = s.grid in
    let eC = candidate_entry g s.entries.items (column_ranks g.functions) in
    let eM = candidate_entry g s.entries.items (mappings_of g.functions) in
    let first = c.in_ok-first.first.items in
    let second = c.in_ok-second.second.items in
    let start : c.in_ok-decided.decided.items ≡ replicate (length g.rows) None =
    c.in_ok-decided.ensures.items_if_clones_equal (λ y k. search rules) ∙ ap (λ (n : ℕ). replicate n None) c.row_count.ensures in
    let a : IsSearched eC (length (column_ranks g.functions)) 0 (replicate (length g.rows) None) c.best_among.new.decided.items first =
    rw (c.requires.columns, start) at c.in_ok-first.ensures in
    let base : c.in-Ok.base ≡ length first = search rules in
    let searched : IsSearched eM (length (mappings_of g.functions)) (length first) c.best_among.new.decided.items c.best_among-2.new.decided.items second =
    rw (c.requires.mappings, base) at c.in_ok-second.ensures in
    let P : List (Option ℕ) → Type 0 = λ t. IsSearched eM (length (mappings_of g.functions)) (length first) c.best_among.new.decided.items t second in
    let b = subst P (sym c.from_vec.ensures) searched in
    let front : c.add_chosen.new.chosen ≡ map (candidate (column_ranks g.functions)) first =
    rw (c.new-ranks.ensures, c.requires.columns, c.as_slice.ensures.value) at c.in_ok-add_chosen.ensures in
    let ranks : c.add_chosen-2.new.chosen ≡ map (candidate (column_ranks g.functions)) first ++ map (candidate (mappings_of g.functions)) second =
    rw (front, c.requires.mappings, c.as_slice-2.ensures.value) at c.in_ok-add_chosen-2.ensures in
    result_joined g s.entries.items (record { ranks = c.add_chosen-2.new.chosen; decided = c.from_vec.result }) first second
    (replicate (length g.rows) None) c.best_among.new.decided.items (length-replicate (length g.rows) None)
    (λ r h. get_or-replicate (length g.rows) r None None h) a b ranks
