use Rattle.std.proofs.Common.{◌≡◌, arith, rules, subst, sym, ℕ, ◌+◌, ◌-◌}
use Rattle.fp_board_rule.specs.Rule.{count_of}
use Rattle.fp_board.specs.Seats.{view_of}
use Rattle.fp_board_rule.specs.Steps.{IsLoaded, IsRefreshed}
use Rattle.fp_board_rule.proofs.Loads.{refreshed_start, refreshed_more}
use Rattle.fp_board.proofs.board.Board.load_all.Goals as goal

pub loop-k-init : goal.loop-k-init
loop-k-init c = record { of = c.requires.of; told = refreshed_start _ _ }

pub loop-k-preserved : goal.loop-k-preserved
loop-k-preserved c = record { of = c.load_one.ensures.of; told = refreshed_more _ _ _ _ _ _ c.loop-k.invariant.told c.load_one.ensures.told }

pub returns-clause-told : goal.returns-clause-told
returns-clause-told c = let board = c.args.self.now in let old = view_of c.args.seat.now in let seat = c.load_last.new.seat in let at = c.loop-k.seat in
    let last : c.loop-k.k ≡ board.count - 1 = search rules in
    let loaded : IsLoaded (view_of at) c.loop-k.k at.words.items (view_of seat) seat.words.items = subst (λ (n : ℕ). IsLoaded (view_of at) n at.words.items (view_of seat) seat.words.items) (sym last) c.load_last.ensures.told in
    let all : c.loop-k.k + 1 ≡ count_of board.plan = omega (arith, last, board.counted, c.requires.cells) in
    subst (λ (n : ℕ). IsRefreshed old (view_of seat) seat.words.items n) all (refreshed_more old (view_of at) (view_of seat) at.words.items seat.words.items c.loop-k.k c.loop-k.invariant.told loaded)
