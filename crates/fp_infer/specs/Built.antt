-- The term that a written term stands for, once the types of its subterms are known.
use Rattle.std.specs.Prelude.{◌≡◌, ◌<◌, ◌+◌, ◌-◌, nat_lt, ℕ, if◌then◌else◌, List, [], ◌∷◌, Bool, true, false, Option, Some, None, is_some}
use Rattle.std.specs.Option.{option_map}
use Rattle.fp_term.specs.Types.{Typ, variable, applied, none, more, found_type}
use Rattle.fp_term.specs.Terms.{Tm}
use Rattle.fp_term.specs.Terms as tm
use Rattle.fp_term.specs.Typing.{function_type}
use Rattle.fp_constrain.specs.Declarations.{Declared, Declarations}
use Rattle.fp_raw.specs.Raws.{RawTm, raw_name, raw_bound, raw_free, raw_constant, raw_app, raw_abs, raw_typed, raw_size}
use Rattle.fp_constrain.specs.Subterms.{top}
use Rattle.fp_constrain.specs.Rules.{is_named}

-- the names of the bound variables around a subterm, innermost first
abbrev pub Around : Type 0
Around = List (Option (List ℕ))

-- the number of the innermost bound variable of that name
abbrev pub bound_number : List ℕ → Around → Option ℕ
bound_number a [] = None
bound_number a (b ∷ around) = if is_named b a then Some 0 else option_map (λ k. k + 1) (bound_number a around)

-- a name is the innermost bound variable, else the constant, else a free variable
abbrev pub named : Option ℕ → Bool → List ℕ → Typ → Tm
named (Some k) is_constant a t = tm.bound k
named None true a t = tm.constant a t
named None false a t = tm.free a t

abbrev pub domain : Typ → Typ
domain (applied a (more from rest)) = from
domain t = t

-- the subterm with these types of subterms by their numbers
abbrev pub built : Declarations → (ℕ → Typ) → Around → ℕ → RawTm → Tm
built g types around n (raw_name a at) = named (bound_number a around) (is_some (g a)) a (types n)
built g types around n (raw_bound k at) = tm.bound k
built g types around n (raw_free a s at) = tm.free a (types n)
built g types around n (raw_constant a s at) = tm.constant a (types n)
built g types around n (raw_app f x at) = tm.app (built g types around n f) (built g types around (n + raw_size f) x)
built g types around n (raw_abs a w x at) = tm.abs (domain (types (n + raw_size x))) (built g types (a ∷ around) n x)
built g types around n (raw_typed x w at) = built g types around n x

-- the place of the subterm of that number; what is wanted of a term has the number after its last, and the term's place
abbrev pub place_of : ℕ → RawTm → ℕ
place_of k (raw_name a at) = at
place_of k (raw_bound n at) = at
place_of k (raw_free a s at) = at
place_of k (raw_constant a s at) = at
place_of k (raw_app f x at) = if nat_lt k (raw_size f) then place_of k f else (if nat_lt k (raw_size f + raw_size x) then place_of (k - raw_size f) x else at)
place_of k (raw_abs a w x at) = if nat_lt k (raw_size x) then place_of k x else at
place_of k (raw_typed x w at) = if nat_lt k (raw_size x) then place_of k x else at
