use Rattle.std.proofs.Common.{◌≡◌, [], ◌∷◌, ◌++◌, OnOk, subst}
use Rattle.std.specs.Prelude.{map}
use Rattle.fp_constructors.specs.Answers.{named}
use Rattle.fp_constructors.proofs.needed.add_difference.Goals as goal

pub returns : goal.returns
returns c =
    subst (λ p. OnOk c.add.result (map named c.add.new.needs ≡ map named c.args.needs.now ++ p ∷ [])) c.in_ok-difference_of.ensures c.add.ensures
