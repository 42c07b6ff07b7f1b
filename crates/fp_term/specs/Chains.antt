-- Lists that the program holds from their last value on.
use Rattle.std.specs.Prelude.{ℕ, ◌+◌, List, [], ◌∷◌, ◌++◌, Option, Some, None, length}
use Rattle.fp_term.specs.declared.chain.Link.{Link}
use Rattle.fp_term.specs.declared.chain.Link.TheVariants.{Start, Then}

abbrev pub linked : {T : Type 0} → Link T → List T
linked Start = []
linked (Then older newest) = older ++ newest ∷ []

-- one more than the number of values up to the link, where there is one
abbrev pub links_left : {T : Type 0} → Option (Link T) → ℕ
links_left None = 0
links_left (Some link) = length (linked link) + 1
