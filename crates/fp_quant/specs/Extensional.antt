-- Two functions of one type, and what is said of them on the way from `f x = g x` to `f = g`.
use Rattle.std.specs.Prelude.{ℕ, Bool, ◌||◌, List}
use Rattle.fp_term.specs.Types.{Typ}
use Rattle.fp_term.specs.Terms.{Tm, free, app}
use Rattle.fp_term.specs.Typing.{function_type}
use Rattle.fp_conclude.specs.Logic.{equal}
use Rattle.fp_conclude.specs.Hypotheses.{occurs, occurs_in_any}
use Rattle.fp_quant.specs.Meanings.{expansion}
use Rattle.fp_quant.specs.declared.extensional.Functions.{Functions}

abbrev pub type_of : Functions → Typ
type_of fs = function_type fs.from.now fs.to.now

-- `f x = g x`
abbrev pub alike_at : List ℕ → Functions → Tm
alike_at name fs = equal fs.to.now (app fs.left.now (free name fs.from.now)) (app fs.right.now (free name fs.from.now))

-- `f = (%x. f x)`
abbrev pub left_expanded : Functions → Tm
left_expanded fs = equal (type_of fs) fs.left.now (expansion fs.from.now fs.left.now)

-- `(%x. f x) = (%x. g x)`
abbrev pub both_expanded : Functions → Tm
both_expanded fs = equal (type_of fs) (expansion fs.from.now fs.left.now) (expansion fs.from.now fs.right.now)

-- `f = (%x. g x)`
abbrev pub right_expanded : Functions → Tm
right_expanded fs = equal (type_of fs) fs.left.now (expansion fs.from.now fs.right.now)

-- `f = g`
abbrev pub alike : Functions → Tm
alike fs = equal (type_of fs) fs.left.now fs.right.now

-- the variable is free in one of them or in a hypothesis
abbrev pub is_free : List ℕ → Functions → List Tm → Bool
is_free name fs hyps = occurs name fs.from.now fs.left.now || occurs name fs.from.now fs.right.now || occurs_in_any name fs.from.now hyps
