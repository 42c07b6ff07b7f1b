-- Rules of the form that conclusions state.
use Rattle.std.specs.Prelude.{◌≡◌, true}
use Rattle.fp_rewriting.specs.declared.rule.Rule.{Rule}
use Rattle.fp_rewriting.specs.Reading.{is_rewriting}

-- a constant stands at the head of the rule's left side, and all its variables and type variables occur there
abbrev pub IsStated : Rule → Type 0
IsStated r = is_rewriting r ≡ true
