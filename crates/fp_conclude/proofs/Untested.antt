-- What the rules conclude from premises of their shape.
use Rattle.std.proofs.Common.{◌≡◌, ap, sym}
use Rattle.fp_term.specs.Terms.{Tm, constant, app}
use Rattle.fp_term.specs.Names.{equality}
use Rattle.fp_conclude.specs.Logic.{equality_type}
use Rattle.fp_conclude.specs.Shapes.{function_in, side_type, IsEquation}

-- an equation's head is the equality of its type
pub own_head : (p : Tm) → IsEquation p → function_in (function_in p) ≡ constant equality (equality_type (side_type p))
own_head p e = ap (λ t. function_in (function_in t)) e
