-- The signature of the start and that of a list of definitions, and what is said of a new type.
use Rattle.std.specs.Prelude.{ℕ, if◌then◌else◌, List, [], ◌∷◌, ◌++◌, length, Option, Some, codes}
use Rattle.fp_term.specs.Names.{function, truth, equality}
use Rattle.fp_term.specs.Types.{Typ, Typs, variable, applied, none, more}
use Rattle.fp_term.specs.Terms.{Tm, free, constant, app}
use Rattle.fp_term.specs.Typing.{type_under, function_type}
use Rattle.fp_term.specs.Variables.{is_among}
use Rattle.fp_term.specs.declared.signature.Signature.{Signature}
use Rattle.fp_kernel.specs.Definitions.{Def, new_constant, new_type}
use Rattle.fp_conclude.specs.Logic.{truth_type, alpha, predicate_type, binary_type, equality_type, select_type, quantifier_type, equal}

abbrev pub start_types : List (List ℕ × ℕ)
start_types = (truth, 0) ∷ (function, 2) ∷ (codes "ind", 0) ∷ []

-- equality, `select` and the two truth values
abbrev pub start_truths : List (List ℕ × Typ)
start_truths = (equality, equality_type alpha) ∷ (codes "select", select_type alpha) ∷ (codes "T", truth_type) ∷ (codes "F", truth_type) ∷ []

abbrev pub start_connectives : List (List ℕ × Typ)
start_connectives =
    (codes "and", binary_type truth_type truth_type) ∷ (codes "or", binary_type truth_type truth_type) ∷ (codes "imp", binary_type truth_type truth_type)
    ∷ (codes "not", predicate_type truth_type) ∷ []

abbrev pub start_quantifiers : List (List ℕ × Typ)
start_quantifiers = (codes "all", quantifier_type alpha) ∷ (codes "ex", quantifier_type alpha) ∷ []

abbrev pub start_constants : List (List ℕ × Typ)
start_constants = start_truths ++ start_connectives ++ start_quantifiers

-- the names in order of their first occurrence, after the known ones
abbrev pub distinct_after : List (List ℕ) → List (List ℕ) → List (List ℕ)
distinct_after known [] = known
distinct_after known (name ∷ names) = distinct_after (if is_among known name then known else known ++ name ∷ []) names

-- a new type, applied to its parameters
abbrev pub variables : List (List ℕ) → Typs
variables [] = none
variables (a ∷ names) = more (variable a) (variables names)

abbrev pub applied_to : List ℕ → List (List ℕ) → Typ
applied_to name params = applied name (variables params)

-- the type of which the predicate speaks
abbrev pub domain : Option Typ → Typ
domain (Some (applied name (more from rest))) = from
domain _ = truth_type

abbrev pub represented : Tm → Typ
represented predicate = domain (type_under [] predicate)

-- what a definition adds to a signature
abbrev pub types_of : Def → List (List ℕ × ℕ)
types_of (new_constant name s body) = []
types_of (new_type name params predicate inhabitant abstract represent) = (name, length params) ∷ []

abbrev pub constants_of : Def → List (List ℕ × Typ)
constants_of (new_constant name s body) = (name, s) ∷ []
constants_of (new_type name params predicate inhabitant abstract represent) =
    (abstract, function_type (represented predicate) (applied_to name params)) ∷ (represent, function_type (applied_to name params) (represented predicate)) ∷ []

abbrev pub signature_of : List Def → Signature
signature_of [] = record { types = start_types; consts = start_constants }
signature_of (d ∷ older) = record { types = (signature_of older).types ++ types_of d; consts = (signature_of older).consts ++ constants_of d }

-- `abs (rep a) = a`, of a new type
abbrev pub abs_rep : List ℕ → List (List ℕ) → Tm → List ℕ → List ℕ → Tm
abs_rep name params predicate abstract represent =
    let new = applied_to name params in
    let old = represented predicate in
    let a = free (codes "a") new in
    equal new (app (constant abstract (function_type old new)) (app (constant represent (function_type new old)) a)) a

-- `P r = (rep (abs r) = r)`, of a new type
abbrev pub rep_abs : List ℕ → List (List ℕ) → Tm → List ℕ → List ℕ → Tm
rep_abs name params predicate abstract represent =
    let new = applied_to name params in
    let old = represented predicate in
    let r = free (codes "r") old in
    equal truth_type (app predicate r) (equal old (app (constant represent (function_type new old)) (app (constant abstract (function_type old new)) r)) r)
