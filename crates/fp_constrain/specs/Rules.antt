-- The typing rules of written terms, of which those of the first subterms in post-order count.
use Rattle.std.specs.Prelude.{◌≡◌, ◌<◌, ◌+◌, ℕ, Bool, false, if◌then◌else◌, List, [], ◌∷◌, Option, Some, None}
use Rattle.std.specs.List.{slice_get}
use Rattle.std.specs.Str.{bytes_eq}
use Rattle.fp_term.specs.Types.{Typ}
use Rattle.fp_term.specs.Typing.{function_type}
use Rattle.fp_constrain.specs.Declarations.{Declared, IsDeclared, Declarations}
use Rattle.fp_raw.specs.Raws.{RawTm, raw_name, raw_bound, raw_free, raw_constant, raw_app, raw_abs, raw_typed, raw_size}
use Rattle.fp_constrain.specs.Subterms.{top, plain, plain_option}

-- the bound variables around a subterm with their types, innermost first
abbrev pub Scope : Type 0
Scope = List (Option (List ℕ) × Typ)

abbrev pub is_named : Option (List ℕ) → List ℕ → Bool
is_named None a = false
is_named (Some b) a = bytes_eq b a

-- the type of the innermost bound variable of that name
abbrev pub innermost : List ℕ → Scope → Option Typ
innermost a [] = None
innermost a (b ∷ scope) = if is_named b.0 a then Some b.1 else innermost a scope

-- a name is the innermost bound variable, else the constant, else a free variable
abbrev pub NameHas : Option Typ → Option Declared → Typ → Typ → Type 0
NameHas (Some s) d own t = t ≡ s
NameHas None (Some d) own t = IsDeclared d t
NameHas None None own t = t ≡ own

abbrev pub ConstantHas : Option Declared → Typ → Type 0
ConstantHas None t = ⊥
ConstantHas (Some d) t = IsDeclared d t

abbrev pub BoundHas : Option (Option (List ℕ) × Typ) → Typ → Type 0
BoundHas None t = ⊥
BoundHas (Some b) t = t ≡ b.1

abbrev pub IsWritten : Option Typ → Typ → Type 0
IsWritten None t = Unit {0}
IsWritten (Some s) t = t ≡ s

-- the types of subterms by their numbers, with these types of free variables, meet the typing rules of the subterms below the limit;
-- the term's first subterm has the number n
abbrev pub Has : Declarations → (List ℕ → Typ) → (ℕ → Typ) → ℕ → Scope → ℕ → RawTm → Type 0
Has g vars types limit scope n (raw_name a at) = n < limit → NameHas (innermost a scope) (g a) (vars a) (types n)
Has g vars types limit scope n (raw_bound k at) = n < limit → BoundHas (slice_get scope k) (types n)
Has g vars types limit scope n (raw_free a s at) = n < limit → (types n ≡ vars a) × (types n ≡ plain s)
Has g vars types limit scope n (raw_constant a s at) = n < limit → ConstantHas (g a) (types n) × IsWritten (plain_option s) (types n)
Has g vars types limit scope n (raw_app f x at) =
    Has g vars types limit scope n f × Has g vars types limit scope (n + raw_size f) x × (n + raw_size f + raw_size x < limit → types (top n f) ≡ function_type (types (top (n + raw_size f) x)) (types (n + raw_size f + raw_size x)))
Has g vars types limit scope n (raw_abs a w x at) =
    (u : Typ) × IsWritten (plain_option w) u × Has g vars types limit ((a, u) ∷ scope) n x × (n + raw_size x < limit → types (n + raw_size x) ≡ function_type u (types (top n x)))
Has g vars types limit scope n (raw_typed x w at) = Has g vars types limit scope n x × (n + raw_size x < limit → (types (top n x) ≡ plain w) × (types (n + raw_size x) ≡ plain w))
