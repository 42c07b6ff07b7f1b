-- Terms of the type of truth values.
use Rattle.std.proofs.Common.{◌≡◌, ◌∙◌, ℕ, Bool, true, List, [], Some, sym, ap}
use Rattle.fp_term.specs.Types.{Typ, type_eq}
use Rattle.fp_term.specs.Terms.{Tm}
use Rattle.fp_term.specs.Typing.{type_under, ill_typed}
use Rattle.fp_term.specs.Faults.{HasType}
use Rattle.fp_term.proofs.Equal.{type_eq-decides}
use Rattle.fp_conclude.specs.Logic.{truth_type}
use Rattle.fp_conclude.proofs.Gives.{well_placed}

pub yes_of : (t : Tm) (s : Typ) (answer : Bool) → HasType [] t s → answer ≡ type_eq s truth_type → answer ≡ true → type_under [] t ≡ Some truth_type
yes_of t s answer h e y = h.type_is ∙ ap Some ((type_eq-decides s truth_type).0 (sym e ∙ y))

pub none_of : (t : Tm) (place : List ℕ) → ill_typed [] t ≡ Some place → type_under [] t ≡ Some truth_type → ⊥
none_of t place h e = let w = well_placed [] t truth_type e in cc
