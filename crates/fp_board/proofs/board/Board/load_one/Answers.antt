use Rattle.std.proofs.Common.{rules, ap, subst, sym, ◌<◌, ℕ}
use Rattle.fp_board_rule.specs.declared.plan.Plan.{Plan}
use Rattle.fp_board_rule.specs.Rule.{count_of}
use Rattle.fp_board_rule.proofs.Loads.{is_loaded}
use Rattle.fp_board_rule.proofs.Keeps.{loads}
use Rattle.fp_board.proofs.board.Board.load_one.Goals as goal

pub load-word-requires : goal.load-word-requires
load-word-requires c = let board = c.args.self.now in let seat = c.args.seat.now in
    (search rules, search rules, loads _ _ _ _ _ (subst (λ (q : Plan). c.args.k < count_of q) (sym board.keyed) c.requires.cell) (subst (λ (q : ℕ). 0 < q) (sym seat.agrees.same_number) seat.numbered.0))

pub returns-clause-told : goal.returns-clause-told
returns-clause-told c = let seat = c.args.seat.now in let of = c.requires.of in let told = c.load-word.ensures.2 in let near = c.requires.cell in
    is_loaded _ _ _ c.load-word.result seat.token.me.0.looks seat.token.me.0.refreshes _ (ap (λ q. q.0) told.0)
    (subst (λ (q : ℕ). c.args.k < q) (sym of.known_long) near) (subst (λ (q : ℕ). c.args.k < q) (sym of.noted_long) near) (subst (λ (q : ℕ). c.args.k < q) (sym of.words_long) near) told.1 told.2
