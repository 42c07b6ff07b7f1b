-- The theorems that make constants the constructors of a type: each value is one of them, each is injective, and no two give one value.
use Rattle.std.specs.Prelude.{ℕ, ◌+◌, ◌==◌, if◌then◌else◌, List, [], ◌∷◌, ◌++◌, length, map, Option, Some, None, codes}
use Rattle.fp_term.specs.Names.{numbered}
use Rattle.fp_term.specs.Types.{Typ, Typs, variable, applied, none, more, retyped, found_type}
use Rattle.fp_term.specs.Terms.{Tm, free, constant}
use Rattle.fp_term.specs.declared.signature.Signature.{Signature}
use Rattle.fp_unify.specs.Candidates.{candidate}
use Rattle.fp_conclude.specs.Logic.{truth_type, equal, negation}
use Rattle.fp_shapes.specs.Binders.{Variables, for_somes, curried, at_variables}
use Rattle.fp_shapes.specs.Joined.{disjunctions, conjunctions}
use Rattle.fp_group.specs.declared.constructors.ConType.{ConType}
use Rattle.fp_constructors.specs.Forms.{arguments, constructor_parameters}
use Rattle.fp_constructors.specs.Naming.{lettered, renamed}

-- a constructor with the types of its arguments
abbrev pub Shape : Type 0
Shape = List ℕ × List Typ

-- variables of the types with the numbers from that one on
abbrev pub numbered_from : ℕ → List ℕ → List Typ → Variables
numbered_from k stem [] = []
numbered_from k stem (s ∷ types) = (numbered stem k, s) ∷ numbered_from (k + 1) stem types

-- `C x1 .. xn`, of that type, for variables of that stem
abbrev pub value_at : Typ → Shape → Variables → Tm
value_at whole shape vars = at_variables (constant shape.0 (curried vars whole)) vars

abbrev pub xs_of : Shape → Variables
xs_of shape = numbered_from 1 (codes "x") shape.1

abbrev pub ys_of : Shape → Variables
ys_of shape = numbered_from 1 (codes "y") shape.1

-- `?x1 .. xn. x = C x1 .. xn`
abbrev pub is_some_value : Typ → Shape → Tm
is_some_value whole shape = for_somes (xs_of shape) (equal whole (free (codes "x") whole) (value_at whole shape (xs_of shape)))

abbrev pub exhaustion : Typ → List Shape → Tm
exhaustion whole shapes = disjunctions (map (is_some_value whole) shapes)

-- `x1 = y1`, .., `xn = yn`
abbrev pub equations_from : ℕ → List Typ → List Tm
equations_from k [] = []
equations_from k (s ∷ types) = equal s (free (numbered (codes "x") k) s) (free (numbered (codes "y") k) s) ∷ equations_from (k + 1) types

-- `(C x1 .. xn = C y1 .. yn) = (x1 = y1 /\ .. /\ xn = yn)`
abbrev pub injection : Typ → Shape → Tm
injection whole shape =
    equal truth_type (equal whole (value_at whole shape (xs_of shape)) (value_at whole shape (ys_of shape))) (conjunctions (equations_from 1 shape.1))

-- `~ C x1 .. = D y1 ..`
abbrev pub difference : Typ → Shape → Shape → Tm
difference whole shape other = negation (equal whole (value_at whole shape (xs_of shape)) (value_at whole other (ys_of other)))

-- the names of the theorems
abbrev pub exhaust_name : List ℕ → List ℕ
exhaust_name name = name ++ codes "_exhaust"

abbrev pub inject_name : List ℕ → List ℕ
inject_name con = con ++ codes "_inject"

abbrev pub apart_name : List ℕ → List ℕ → List ℕ
apart_name con other = con ++ codes "_not_" ++ other

-- what is asked of a constructor, where it has arguments, and of each two of them
abbrev pub own_injection : Typ → Shape → List (List ℕ × Tm)
own_injection whole shape = if length shape.1 == 0 then [] else (inject_name shape.0, renamed (injection whole shape)) ∷ []

abbrev pub injections : Typ → List Shape → List (List ℕ × Tm)
injections whole [] = []
injections whole (shape ∷ shapes) = own_injection whole shape ++ injections whole shapes

abbrev pub own_difference : Typ → Shape → Shape → List (List ℕ × Tm)
own_difference whole shape other = (apart_name shape.0 other.0, renamed (difference whole shape other)) ∷ []

abbrev pub differences_from : Typ → Shape → List Shape → List (List ℕ × Tm)
differences_from whole shape [] = []
differences_from whole shape (other ∷ shapes) = own_difference whole shape other ++ differences_from whole shape shapes

abbrev pub differences : Typ → List Shape → List (List ℕ × Tm)
differences whole [] = []
differences whole (shape ∷ shapes) = differences_from whole shape shapes ++ differences whole shapes

-- the type applied to the first type variables
abbrev pub letters_from : ℕ → List (List ℕ) → Typs
letters_from k [] = none
letters_from k (a ∷ names) = more (variable (candidate k)) (letters_from (k + 1) names)

abbrev pub or_none : Option (List (List ℕ)) → List (List ℕ)
or_none None = []
or_none (Some params) = params

abbrev pub arguments_of : Option Typ → List Typ
arguments_of None = []
arguments_of (Some s) = arguments s

-- the constructor, with its type's parameters named by the first type variables
abbrev pub shape_of : Signature → List ℕ → List ℕ → Shape
shape_of signature name con = (con, map (retyped (lettered 0 (or_none (constructor_parameters signature name con)))) (arguments_of (found_type con signature.consts)))

abbrev pub whole_of : Signature → List ℕ → List (List ℕ) → Typ
whole_of signature name [] = applied name none
whole_of signature name (con ∷ cons) = applied name (letters_from 0 (or_none (constructor_parameters signature name con)))

-- all that is needed, in order
abbrev pub needed_of : List ℕ → Typ → List Shape → List (List ℕ × Tm)
needed_of name whole shapes = (exhaust_name name, renamed (exhaustion whole shapes)) ∷ injections whole shapes ++ differences whole shapes

abbrev pub needed : Signature → ConType → List (List ℕ × Tm)
needed signature type = needed_of type.name (whole_of signature type.name type.cons) (map (shape_of signature type.name) type.cons)
