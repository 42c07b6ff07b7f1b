-- Two answers of a question are one.
use Rattle.std.proofs.Common.{ap}
use Rattle.fp_rewriting.specs.declared.left.Left.{Left}
use Rattle.fp_rewriting.specs.Settling.{Question}
use Rattle.fp_rewriting.proofs.Settles.{one_settled}
use Rattle.fp_simp.specs.Cutting.{AreAlike, HasOneAnswer, IsGivenAtOnce}

pub one_answer : (q : Question) → HasOneAnswer q
one_answer q a b i j x y =
    let s = one_settled x b.term (record { fuel = b.fuel; room = b.room; steps = j }) y in
    let alike : AreAlike a b = record { term = s.value; fuel = ap (λ (l : Left). l.fuel) s.left; room = ap (λ (l : Left). l.room) s.left } in
    (alike, ap (λ (l : Left). l.steps) s.left)

pub given_at_once : (q : Question) → IsGivenAtOnce q
given_at_once q a b i x y = let s = one_answer q a b i y.steps x y.is in s.0
