-- What is left of a clause without what a pattern matches.
use Rattle.std.specs.Prelude.{◌≡◌, ◌≤◌, ◌<◌, ℕ, Bool, true, false, not, ◌||◌, List, [], ◌∷◌, ◌++◌, map, Option, Some, None}
use Rattle.std.specs.Str.{bytes_eq}
use Rattle.std.specs.Fmt.{decimal}
use Rattle.fp_term.specs.Types.{Typ}
use Rattle.fp_term.specs.Terms.{Tm, bound, free, constant, app, abs, replaced}
use Rattle.fp_term.specs.declared.signature.Signature.{Signature}
use Rattle.fp_group.specs.declared.constructors.ConTable.{ConTable}
use Rattle.fp_group.specs.declared.clause.Clause.{Clause}
use Rattle.fp_pattern.specs.Patterns.{constructors, arrow, con_type}

-- does some place have two constructors that differ? Then nothing is an instance of both patterns
abbrev pub apart : Tm → Tm → Bool
apart (constant a s) (constant b t) = not (bytes_eq a b)
apart (constant a s) (app g y) = true
apart (app f x) (constant b t) = true
apart (app f x) (app g y) = apart f g || apart x y
apart _ _ = false

abbrev pub any_apart : List Tm → List Tm → Bool
any_apart (p ∷ ps) (q ∷ qs) = apart p q || any_apart ps qs
any_apart _ _ = false

abbrev pub first_of : Option (List ℕ × Typ) → Option (List ℕ × Typ) → Option (List ℕ × Typ)
first_of None later = later
first_of (Some x) later = Some x

-- the variable of `p` at the first place, in pre-order, where `p` has a variable and `q` a constructor
abbrev pub met : Tm → Tm → Option (List ℕ × Typ)
met (free x s) (constant b t) = Some (x, s)
met (free x s) (app g y) = Some (x, s)
met (app f x) (app g y) = first_of (met f g) (met x y)
met _ _ = None

abbrev pub first_met : List Tm → List Tm → Option (List ℕ × Typ)
first_met (p ∷ ps) (q ∷ qs) = first_of (met p q) (first_met ps qs)
first_met _ _ = None

-- is the name one of a variable or a constant of the term?
abbrev pub mentions : Tm → List ℕ → Bool
mentions (bound n) name = false
mentions (free a s) name = bytes_eq a name
mentions (constant a s) name = bytes_eq a name
mentions (app f x) name = mentions f name || mentions x name
mentions (abs s x) name = mentions x name

abbrev pub any_mentions : List Tm → List ℕ → Bool
any_mentions [] name = false
any_mentions (t ∷ ts) name = mentions t name || any_mentions ts name

-- does the name occur in the clause of the function?
abbrev pub occurs : List ℕ → Clause → List ℕ → Bool
occurs function clause name = bytes_eq function name || any_mentions clause.patterns name || mentions clause.right name

-- `v1`, `v2`, ..
abbrev pub numbered : ℕ → List ℕ
numbered n = 118 ∷ decimal n

-- is it the name of a variable of the term?
abbrev pub is_variable_of : Tm → List ℕ → Bool
is_variable_of (bound n) name = false
is_variable_of (free a s) name = bytes_eq a name
is_variable_of (constant a s) name = false
is_variable_of (app f x) name = is_variable_of f name || is_variable_of x name
is_variable_of (abs s x) name = is_variable_of x name

abbrev pub is_used : List ℕ → Clause → Tm → List ℕ → Bool
is_used function clause head name = occurs function clause name || is_variable_of head name

-- the first number from 1 on whose name doesn't occur in the clause, nor as a variable that the head has already
pub record IsFirstNew (function : List ℕ) (clause : Clause) (head : Tm) (n : ℕ) : Type 0 where
  pub positive : 1 ≤ n
  pub new : is_used function clause head (numbered n) ≡ false
  pub first : (k : ℕ) → 1 ≤ k → k < n → is_used function clause head (numbered k) ≡ true

-- the value is the head with a new variable for each argument that its type takes
pub data IsFilled (function : List ℕ) (clause : Clause) : Tm → Typ → Tm → Type 0 where
  full : (head : Tm) (s : Typ) → arrow s ≡ None → IsFilled function clause head s head
  one_more :
      (n : ℕ) (head : Tm) (s a b : Typ) (value : Tm) → arrow s ≡ Some (a, b) → IsFirstNew function clause head n →
      IsFilled function clause (app head (free (numbered n) a)) b value → IsFilled function clause head s value

-- the clause with the value in place of the variable
abbrev pub with_value : Clause → List ℕ → Typ → Tm → Clause
with_value c x s value = record {
  function = c.function;
  patterns = map (replaced ((x, s, value) ∷ [])) c.patterns;
  right = replaced ((x, s, value) ∷ []) c.right;
  origin = c.origin;
}

-- the clause with the constructor, applied to new variables, in place of the variable
pub record IsPart (signature : Signature) (function : List ℕ) (c : Clause) (x : List ℕ) (s : Typ) (con : List ℕ) (part : Clause) : Type 0 where
  pub type : Typ
  pub value : Tm
  pub typed : con_type signature s con ≡ Some type
  pub filled : IsFilled function c (constant con type) type value
  pub is : part ≡ with_value c x s value

-- the variable split into the constructors of its type, those that give values of it
pub data AreParts (signature : Signature) (function : List ℕ) (c : Clause) (x : List ℕ) (s : Typ) : List (List ℕ) → List Clause → Type 0 where
  no_more : AreParts signature function c x s [] []
  unfit : (con : List ℕ) (cons : List (List ℕ)) (parts : List Clause) → con_type signature s con ≡ None → AreParts signature function c x s cons parts → AreParts signature function c x s (con ∷ cons) parts
  fit :
      (con : List ℕ) (cons : List (List ℕ)) (part : Clause) (parts : List Clause) → IsPart signature function c x s con part →
      AreParts signature function c x s cons parts → AreParts signature function c x s (con ∷ cons) (part ∷ parts)

-- what is left of a clause, and of each clause of a list, without the patterns
mutual
  pub data IsMinus (table : ConTable) (signature : Signature) (function : List ℕ) (q : List Tm) : Clause → List Clause → Type 0 where
    none_common : (c : Clause) → any_apart c.patterns q ≡ true → IsMinus table signature function q c (c ∷ [])
    all_covered : (c : Clause) → any_apart c.patterns q ≡ false → first_met c.patterns q ≡ None → IsMinus table signature function q c []
    split :
        (c : Clause) (x : List ℕ) (s : Typ) (parts left : List Clause) → any_apart c.patterns q ≡ false → first_met c.patterns q ≡ Some (x, s) →
        AreParts signature function c x s (constructors table s) parts → AreMinus table signature function q parts left → IsMinus table signature function q c left

  pub data AreMinus (table : ConTable) (signature : Signature) (function : List ℕ) (q : List Tm) : List Clause → List Clause → Type 0 where
    nothing : AreMinus table signature function q [] []
    joined :
        (c : Clause) (cs left others : List Clause) → IsMinus table signature function q c left →
        AreMinus table signature function q cs others → AreMinus table signature function q (c ∷ cs) (left ++ others)

-- what is left of the clauses without each of the lists of patterns, one after another
pub data IsLeft (table : ConTable) (signature : Signature) (function : List ℕ) : List (List Tm) → List Clause → List Clause → Type 0 where
  whole : (cs : List Clause) → IsLeft table signature function [] cs cs
  less :
      (q : List Tm) (qs : List (List Tm)) (cs ds left : List Clause) → AreMinus table signature function q cs ds →
      IsLeft table signature function qs ds left → IsLeft table signature function (q ∷ qs) cs left
