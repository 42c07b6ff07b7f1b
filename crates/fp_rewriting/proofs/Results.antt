-- Each question has exactly one answer, and it leaves no more than there was.
use Rattle.std.proofs.Common.{[]}
use Rattle.fp_rewriting.specs.Facts.{names_of}
use Rattle.fp_rewriting.specs.Settling.{Question, IsSimplified}
use Rattle.fp_rewriting.specs.Laws.{HasResult, HasOneResult, OnlyFalls}
use Rattle.fp_rewriting.proofs.Settles.{Come, settles, settles_falls, one_settled}

pub has_result : (q : Question) → HasResult q
has_result q =
    let a : Come (IsSimplified q) = settles (record { rules = q.rules; names = names_of [] q.guards; facts = [] }) q.guards q.goal (record { fuel = q.fuel; room = q.room; steps = 0 }) in
    record { term = a.term; left = a.left; by = a.by }

pub has_one_result : (q : Question) → HasOneResult q
has_one_result q t u l m a b = let s = one_settled a u m b in record { term = s.value; left = s.left }

pub only_falls : (q : Question) → OnlyFalls q
only_falls q t l a = let f = settles_falls a in record { fuel = f.fuel; room = f.room }
