-- What is asked of a written term, as the program holds it.
use Rattle.std.specs.Prelude.{ℕ, List}
use Rattle.std.specs.Option.{option_copied}
use Rattle.fp_unify.specs.declared.fact.Fact.{Fact}
use Rattle.fp_constrain.specs.Binding.{declared_in}
use Rattle.fp_constrain.specs.Clash.{Traces}
use Rattle.fp_constrain.specs.declared.clash.Question.{Question}

abbrev pub Poses : Question → ℕ → List ℕ → List (ℕ × Fact) → Type 0
Poses q count seen facts = Traces q.constants.now.signature.now (declared_in q.constants.now) q.given.now (option_copied q.want) q.raw.now count seen facts
