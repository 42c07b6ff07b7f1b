-- Values of types as trees, and which values a pattern matches.
use Rattle.std.specs.Prelude.{◌≡◌, ◌≤◌, ℕ, ◌+◌, max, Bool, true, false, ◌&&◌, ◌||◌, List, [], ◌∷◌, Some, None}
use Rattle.std.specs.Str.{bytes_eq}
use Rattle.fp_term.specs.Types.{Typ, type_eq}
use Rattle.fp_term.specs.Terms.{Tm, free, constant, app}
use Rattle.fp_term.specs.Variables.{is_among}
use Rattle.fp_term.specs.declared.signature.Signature.{Signature}
use Rattle.fp_group.specs.declared.constructors.ConTable.{ConTable}
use Rattle.fp_group.specs.declared.clause.Clause.{Clause}
use Rattle.fp_pattern.specs.Patterns.{constructors, arrow, con_type}

-- an atom, or a constructor with values of its arguments, given one after another
pub data Value : Type 0 where
  atom : Value
  made : List ℕ → Value
  given_one : Value → Value → Value

-- the values of a type down to a depth: above it a type with declared constructors has their values alone
mutual
  pub data IsValue (table : ConTable) (signature : Signature) : ℕ → Typ → Value → Type 0 where
    deep : (s : Typ) → IsValue table signature 0 s atom
    plain : (d : ℕ) (s : Typ) → constructors table s ≡ [] → IsValue table signature d s atom
    built :
        (d : ℕ) (s : Typ) (con : List ℕ) (type : Typ) (v : Value) → is_among (constructors table s) con ≡ true → con_type signature s con ≡ Some type →
        HasArguments table signature d type (made con) v → IsValue table signature (d + 1) s v

  -- the value is the head with values of all the arguments that its type takes
  pub data HasArguments (table : ConTable) (signature : Signature) : ℕ → Typ → Value → Value → Type 0 where
    all_given : (d : ℕ) (type : Typ) (head : Value) → arrow type ≡ None → HasArguments table signature d type head head
    and_given :
        (d : ℕ) (type a b : Typ) (head w v : Value) → arrow type ≡ Some (a, b) → IsValue table signature d a w →
        HasArguments table signature d b (given_one head w) v → HasArguments table signature d type head v

pub data AreValues (table : ConTable) (signature : Signature) (d : ℕ) : List Typ → List Value → Type 0 where
  no_values : AreValues table signature d [] []
  and_value : (s : Typ) (ss : List Typ) (v : Value) (vs : List Value) → IsValue table signature d s v → AreValues table signature d ss vs → AreValues table signature d (s ∷ ss) (v ∷ vs)

-- a variable matches each value, a constructor its own values whose arguments its patterns match
abbrev pub matches : Tm → Value → Bool
matches (free x s) v = true
matches (constant a s) (made b) = bytes_eq a b
matches (app f x) (given_one g w) = matches f g && matches x w
matches _ _ = false

abbrev pub all_match : List Tm → List Value → Bool
all_match [] [] = true
all_match (p ∷ ps) (v ∷ vs) = matches p v && all_match ps vs
all_match _ _ = false

abbrev pub one_if : Bool → ℕ
one_if true = 1
one_if false = 0

-- how many of the clauses match the values
abbrev pub count_matching : List Clause → List Value → ℕ
count_matching [] vs = 0
count_matching (c ∷ cs) vs = one_if (all_match c.patterns vs) + count_matching cs vs

-- does one of the lists of patterns match the values?
abbrev pub one_matches : List (List Tm) → List Value → Bool
one_matches [] vs = false
one_matches (q ∷ qs) vs = all_match q vs || one_matches qs vs

-- patterns of a type over the declared constructors
mutual
  pub data IsPatternOf (table : ConTable) (signature : Signature) : Typ → Tm → Type 0 where
    a_variable : (s : Typ) (x : List ℕ) → IsPatternOf table signature s (free x s)
    a_constructor :
        (s : Typ) (con : List ℕ) (type : Typ) (p : Tm) → is_among (constructors table s) con ≡ true → con_type signature s con ≡ Some type →
        TakesPatterns table signature type (constant con type) p → IsPatternOf table signature s p

  -- the pattern is the head applied to patterns of all the arguments that its type takes
  pub data TakesPatterns (table : ConTable) (signature : Signature) : Typ → Tm → Tm → Type 0 where
    ended : (type : Typ) (head : Tm) → arrow type ≡ None → TakesPatterns table signature type head head
    one_taken :
        (type a b : Typ) (head x p : Tm) → arrow type ≡ Some (a, b) → IsPatternOf table signature a x →
        TakesPatterns table signature b (app head x) p → TakesPatterns table signature type head p

pub data ArePatternsOf (table : ConTable) (signature : Signature) : List Typ → List Tm → Type 0 where
  no_patterns : ArePatternsOf table signature [] []
  and_pattern :
      (s : Typ) (ss : List Typ) (p : Tm) (ps : List Tm) → IsPatternOf table signature s p → ArePatternsOf table signature ss ps →
      ArePatternsOf table signature (s ∷ ss) (p ∷ ps)

-- the levels of a pattern: its arguments are one below it
abbrev pub depth_of : Tm → ℕ
depth_of (app f x) = max (depth_of f) (depth_of x + 1)
depth_of _ = 1

abbrev pub depths : List Tm → ℕ
depths [] = 0
depths (p ∷ ps) = max (depth_of p) (depths ps)

-- does the variable occur in the pattern?
abbrev pub has : List ℕ → Typ → Tm → Bool
has x s (free a t) = bytes_eq x a && type_eq s t
has x s (app f y) = has x s f || has x s y
has x s _ = false

abbrev pub any_has : List ℕ → Typ → List Tm → Bool
any_has x s [] = false
any_has x s (p ∷ ps) = has x s p || any_has x s ps

-- no variable occurs twice
abbrev pub IsLinear : Tm → Type 0
IsLinear (app f y) = IsLinear f × (IsLinear y × ((x : List ℕ) (s : Typ) → has x s f ≡ true → has x s y ≡ true → ⊥))
IsLinear _ = Unit {0}

abbrev pub AreLinear : List Tm → Type 0
AreLinear [] = Unit {0}
AreLinear (p ∷ ps) = IsLinear p × (AreLinear ps × ((x : List ℕ) (s : Typ) → has x s p ≡ true → any_has x s ps ≡ true → ⊥))

-- no name stands twice
abbrev pub Differ : List (List ℕ) → Type 0
Differ [] = Unit {0}
Differ (a ∷ names) = (is_among names a ≡ false) × Differ names

-- no type has a constructor twice
pub record HasDistinct (table : ConTable) : Type 0 where
  pub each : (s : Typ) → Differ (constructors table s)

-- a clause whose patterns are of the types, with no variable twice
pub record IsFine (table : ConTable) (signature : Signature) (ss : List Typ) (c : Clause) : Type 0 where
  pub typed : ArePatternsOf table signature ss c.patterns
  pub linear : AreLinear c.patterns

abbrev pub AreFine : ConTable → Signature → List Typ → List Clause → Type 0
AreFine table signature ss [] = Unit {0}
AreFine table signature ss (c ∷ cs) = IsFine table signature ss c × AreFine table signature ss cs

-- lists of patterns of the types, none deeper than `d`
abbrev pub AreSubtrahends : ConTable → Signature → List Typ → ℕ → List (List Tm) → Type 0
AreSubtrahends table signature ss d [] = Unit {0}
AreSubtrahends table signature ss d (q ∷ qs) = ArePatternsOf table signature ss q × ((depths q ≤ d) × AreSubtrahends table signature ss d qs)
