-- Values, declared constructors applied to all their arguments, and what it comes to that two of them are equal.
use Rattle.std.specs.Prelude.{ℕ, Bool, false, not, ◌||◌, ◌&&◌, ◌==◌, if◌then◌else◌, List, [], ◌∷◌, length, Option, Some, None}
use Rattle.std.specs.Str.{bytes_eq}
use Rattle.fp_term.specs.Types.{Typ, type_eq}
use Rattle.fp_term.specs.Terms.{Tm, constant, head_of, arguments_of}
use Rattle.fp_term.specs.Variables.{is_among}
use Rattle.fp_group.specs.declared.constructors.ConType.{ConType}
use Rattle.fp_conclude.specs.Logic.{truth_type, equal, false_constant}
use Rattle.fp_conclude.specs.Parts.{function_parts}
use Rattle.fp_shapes.specs.Joined.{conjunctions}
use Rattle.fp_constructors.specs.Needed.{inject_name, apart_name}
use Rattle.fp_values.specs.Shapes.{names_of}

abbrev pub then_given : Option (Typ × Typ) → (Typ → Option Typ) → Option Typ
then_given None next = None
then_given (Some p) next = next p.1

-- the type of what a function of that type gives for the arguments; nothing where it takes fewer
abbrev pub given_for : Typ → List Tm → Option Typ
given_for s [] = Some s
given_for s (x ∷ xs) = then_given (function_parts s) (λ to. given_for to xs)

-- the type, where the constructor is one of its own
abbrev pub if_own : List ConType → List ℕ → Option Typ → Option Typ
if_own types con None = None
if_own types con (Some s) = if is_among (names_of types s) con then Some s else None

abbrev pub type_by : List ConType → Tm → List Tm → Option Typ
type_by types (constant con s) xs = if_own types con (given_for s xs)
type_by types _ xs = None

-- the type of a value; nothing for another term
abbrev pub value_type : List ConType → Tm → Option Typ
value_type types t = type_by types (head_of t) (arguments_of t)

abbrev pub if_one : Option Typ → Option Typ → Option Typ
if_one (Some s) (Some u) = if type_eq s u then Some s else None
if_one _ _ = None

-- the type of two values of one type
abbrev pub common_type : List ConType → Tm → Tm → Option Typ
common_type types a b = if_one (value_type types a) (value_type types b)

abbrev pub with_first : Option (Typ × Typ) → Tm → Tm → (Typ → List Tm) → List Tm
with_first None x y next = []
with_first (Some p) x y next = equal p.0 x y ∷ next p.1

-- `x1 = y1`, .., `xn = yn`, for arguments of a function of that type
abbrev pub equations : Typ → List Tm → List Tm → List Tm
equations s [] ys = []
equations s (x ∷ xs) [] = []
equations s (x ∷ xs) (y ∷ ys) = with_first (function_parts s) x y (λ to. equations to xs ys)

-- what it comes to that the constructors give one value: `F` for two of them, else that the arguments are equal, which is `T` where there are none
abbrev pub meaning : Tm → Tm → List Tm → List Tm → Tm
meaning (constant c s) (constant d u) xs ys = if bytes_eq c d then conjunctions (equations s xs ys) else false_constant
meaning _ _ xs ys = false_constant

-- `(a = b) = u`
abbrev pub equality_of : Typ → Tm → Tm → Tm
equality_of whole a b = equal truth_type (equal whole a b) (meaning (head_of a) (head_of b) (arguments_of a) (arguments_of b))

-- does the first stand before the second among the names?
abbrev pub stands_before : List (List ℕ) → List ℕ → List ℕ → Bool
stands_before [] a b = false
stands_before (n ∷ names) a b = bytes_eq n a || (not (bytes_eq n b) && stands_before names a b)

abbrev pub apart_by : Bool → List ℕ → List ℕ → List ℕ
apart_by first c d = if first then apart_name c d else apart_name d c

-- the name of the theorem about two constructors of a type with these names, the first one with these arguments
abbrev pub of_names : List (List ℕ) → List ℕ → List ℕ → List Tm → Option (List ℕ)
of_names names c d xs = if bytes_eq c d then (if length xs == 0 then None else Some (inject_name c)) else Some (apart_by (stands_before names c d) c d)

abbrev pub name_for : List ConType → Typ → Tm → Tm → List Tm → Option (List ℕ)
name_for types whole (constant c s) (constant d u) xs = of_names (names_of types whole) c d xs
name_for types whole _ _ xs = None

-- the name of the theorem that says so; none where a constructor without arguments is equal to itself
abbrev pub theorem_name : List ConType → Typ → Tm → Tm → Option (List ℕ)
theorem_name types whole a b = name_for types whole (head_of a) (head_of b) (arguments_of a)
