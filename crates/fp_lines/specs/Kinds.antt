-- The arguments of a line by their kinds.
use Rattle.std.specs.Prelude.{ℕ, ◌&&◌, Bool, true, false, not, List, [], ◌∷◌, Option, Some, None, is_some}
use Rattle.fp_term.specs.Types.{found_type}
use Rattle.fp_term.specs.declared.signature.Signature.{Signature}
use Rattle.fp_raw.specs.Raws.{RawTm, RawTyp, raw_name, raw_bound, raw_free, raw_constant, raw_app, raw_abs, raw_typed}
use Rattle.fp_commands.specs.declared.command.Arg.{Arg}
use Rattle.fp_commands.specs.declared.command.Arg.TheVariants.{Number, Name, TyVar, Term, Ty}

-- a theorem: the number of a line, or a name
abbrev pub theorem_in : Arg → Option Arg
theorem_in (Number n) = Some (Number n)
theorem_in (Name a) = Some (Name a)
theorem_in (TyVar a) = None
theorem_in (Term t) = None
theorem_in (Ty s) = None

abbrev pub term_in : Arg → Option RawTm
term_in (Number n) = None
term_in (Name a) = None
term_in (TyVar a) = None
term_in (Term t) = Some t
term_in (Ty s) = None

-- is it a free variable, with types or without?
abbrev pub is_variable : Signature → RawTm → Bool
is_variable signature (raw_name a at) = not (is_some (found_type a signature.consts))
is_variable signature (raw_bound n at) = false
is_variable signature (raw_free a s at) = true
is_variable signature (raw_constant a s at) = false
is_variable signature (raw_app f x at) = false
is_variable signature (raw_abs a w x at) = false
is_variable signature (raw_typed t w at) = is_variable signature t

-- what follows from something, where there is something
abbrev pub from : {A B : Type 0} → Option A → (A → Option B) → Option B
from None next = None
from (Some x) next = next x

abbrev pub kept_if : {A : Type 0} → Bool → A → Option A
kept_if true x = Some x
kept_if false x = None

abbrev pub variable_in : Signature → Arg → Option RawTm
variable_in signature arg = from (term_in arg) (λ t. kept_if (is_variable signature t) t)

abbrev pub both : {A B : Type 0} → Option A → Option B → Option (A × B)
both a b = from a (λ x. from b (λ y. Some (x, y)))

abbrev pub all_three : {A B C : Type 0} → Option A → Option B → Option C → Option (A × B × C)
all_three a b c = from a (λ x. from b (λ y. from c (λ z. Some (x, y, z))))

abbrev pub theorem_alone : List Arg → Option Arg
theorem_alone (a ∷ []) = theorem_in a
theorem_alone _ = None

abbrev pub term_alone : List Arg → Option RawTm
term_alone (t ∷ []) = term_in t
term_alone _ = None

abbrev pub two_theorems : List Arg → Option (Arg × Arg)
two_theorems (a ∷ b ∷ []) = both (theorem_in a) (theorem_in b)
two_theorems _ = None

abbrev pub term_and_theorem : List Arg → Option (RawTm × Arg)
term_and_theorem (t ∷ a ∷ []) = both (term_in t) (theorem_in a)
term_and_theorem _ = None

abbrev pub theorem_and_term : List Arg → Option (Arg × RawTm)
theorem_and_term (a ∷ t ∷ []) = both (theorem_in a) (term_in t)
theorem_and_term _ = None

abbrev pub variable_and_theorem : Signature → List Arg → Option (RawTm × Arg)
variable_and_theorem signature (x ∷ a ∷ []) = both (variable_in signature x) (theorem_in a)
variable_and_theorem signature _ = None

abbrev pub two_terms_and_theorem : List Arg → Option (RawTm × RawTm × Arg)
two_terms_and_theorem (t ∷ u ∷ a ∷ []) = all_three (term_in t) (term_in u) (theorem_in a)
two_terms_and_theorem _ = None

abbrev pub variable_and_two_theorems : Signature → List Arg → Option (RawTm × Arg × Arg)
variable_and_two_theorems signature (x ∷ a ∷ b ∷ []) = all_three (variable_in signature x) (theorem_in a) (theorem_in b)
variable_and_two_theorems signature _ = None

abbrev pub three_theorems : List Arg → Option (Arg × Arg × Arg)
three_theorems (a ∷ b ∷ c ∷ []) = all_three (theorem_in a) (theorem_in b) (theorem_in c)
three_theorems _ = None

-- a theorem, and one argument or more behind it
abbrev pub theorem_and_more : List Arg → Option (Arg × List Arg)
theorem_and_more [] = None
theorem_and_more (a ∷ []) = None
theorem_and_more (a ∷ b ∷ rest) = both (theorem_in a) (Some (b ∷ rest))

-- a type variable, and a type
abbrev pub type_variable_in : Arg → Option (List ℕ)
type_variable_in (Number n) = None
type_variable_in (Name a) = None
type_variable_in (TyVar a) = Some a
type_variable_in (Term t) = None
type_variable_in (Ty s) = None

abbrev pub type_in : Arg → Option RawTyp
type_in (Number n) = None
type_in (Name a) = None
type_in (TyVar a) = None
type_in (Term t) = None
type_in (Ty s) = Some s

-- two terms, and a type variable and a type, with the arguments behind them
abbrev pub terms_first : List Arg → Option (RawTm × RawTm × List Arg)
terms_first (t ∷ u ∷ rest) = all_three (term_in t) (term_in u) (Some rest)
terms_first _ = None

abbrev pub types_first : List Arg → Option (List ℕ × RawTyp × List Arg)
types_first (a ∷ s ∷ rest) = all_three (type_variable_in a) (type_in s) (Some rest)
types_first _ = None

-- variables, each with a term after it
abbrev pub are_term_pairs : Signature → List Arg → Bool
are_term_pairs signature [] = true
are_term_pairs signature (x ∷ []) = false
are_term_pairs signature (x ∷ t ∷ rest) = is_some (variable_in signature x) && is_some (term_in t) && are_term_pairs signature rest

-- type variables, each with a type after it
abbrev pub are_type_pairs : List Arg → Bool
are_type_pairs [] = true
are_type_pairs (TyVar a ∷ Ty s ∷ rest) = are_type_pairs rest
are_type_pairs _ = false
