-- What the program knows while a term is simplified.
use Rattle.std.specs.Prelude.{ℕ}
use Rattle.fp_simp.specs.declared.context.Context.{Context}
use Rattle.fp_simp.specs.declared.frame.Mode.{Mode}
use Rattle.fp_simp.specs.declared.frame.Mode.TheVariants.{Return}
use Rattle.fp_rewriting.specs.Simplification.{Known}

abbrev pub known : Context → Known
known c = record { rules = c.rules.now; names = c.names; facts = c.facts }

-- is a term to be handed back?
abbrev pub handing : Mode → ℕ
handing (Return t) = 1
handing _ = 0
