-- The bound variables around a term and the constants, as the program holds them.
use Rattle.std.specs.Prelude.{◌∷◌, []}
use Rattle.fp_constrain.specs.Declarations.{Declarations, declarations}
use Rattle.fp_constrain.specs.Draws.{Binders}
use Rattle.fp_constrain.specs.declared.constants.Constants.{Constants}
use Rattle.fp_constrain.specs.declared.drawing.Around.{Around}
use Rattle.fp_constrain.specs.declared.drawing.Around.TheVariants.{Outermost, Under'}

abbrev pub binders_in : Around → Binders
binders_in Outermost = []
binders_in (Under' name at p outer) = (name.now, at) ∷ binders_in outer

-- what the program takes for constants
abbrev pub declared_in : Constants → Declarations
declared_in c = declarations c.signature.now c.exact.now
