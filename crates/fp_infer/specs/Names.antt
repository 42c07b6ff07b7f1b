-- The names of a written term that its signature doesn't know.
use Rattle.std.specs.Prelude.{ℕ, ◌+◌, ◌<◌, ◌==◌, Bool, true, false, if◌then◌else◌, nat_lt, List, [], ◌∷◌, ◌++◌, Option, Some, None, is_some}
use Rattle.fp_term.specs.Types.{Typ}
use Rattle.fp_term.specs.Signatures.{arity_of}
use Rattle.fp_term.specs.Variables.{type_names}
use Rattle.fp_term.specs.declared.signature.Signature.{Signature}
use Rattle.fp_raw.specs.Raws.{RawTyp, RawTyps, raw_variable, raw_applied, raw_none, raw_more, RawTm, raw_name, raw_bound, raw_free, raw_constant, raw_app, raw_abs, raw_typed}
use Rattle.fp_constrain.specs.Declarations.{Declarations}
use Rattle.fp_constrain.specs.Subterms.{plain}
use Rattle.fp_infer.specs.declared.names.Search.{Search}
use Rattle.fp_infer.specs.declared.names.Search.TheVariants.{Unknown, Arity}

-- a name at its place
abbrev pub Found : Type 0
Found = ℕ × List ℕ

abbrev pub raw_count : RawTyps → ℕ
raw_count raw_none = 0
raw_count (raw_more t ts) = 1 + raw_count ts

-- a constructor that isn't of the signature, or one with another number of arguments
abbrev pub lacks : Option ℕ → Bool
lacks None = true
lacks (Some k) = false

abbrev pub takes_others : Option ℕ → ℕ → Bool
takes_others None n = false
takes_others (Some k) n = if n == k then false else true

abbrev pub is_wrong : Search → Signature → List ℕ → ℕ → Bool
is_wrong Unknown s a n = lacks (arity_of a s.types)
is_wrong Arity s a n = takes_others (arity_of a s.types) n

abbrev pub found_if : Bool → ℕ → List ℕ → List Found
found_if true at a = (at, a) ∷ []
found_if false at a = []

-- the wrong constructors of a written type, in the order of the text
abbrev mutual
  pub wrong_in_type : Search → Signature → RawTyp → List Found
  wrong_in_type k s (raw_variable a at) = []
  wrong_in_type k s (raw_applied a ts at) = found_if (is_wrong k s a (raw_count ts)) at a ++ wrong_in_types k s ts

  pub wrong_in_types : Search → Signature → RawTyps → List Found
  wrong_in_types k s raw_none = []
  wrong_in_types k s (raw_more t ts) = wrong_in_type k s t ++ wrong_in_types k s ts

abbrev pub wrong_in_option : Search → Signature → Option RawTyp → List Found
wrong_in_option k s None = []
wrong_in_option k s (Some t) = wrong_in_type k s t

-- a constant that isn't of the signature
abbrev pub lacks_constant : Search → Bool → Bool
lacks_constant Unknown known = if known then false else true
lacks_constant Arity known = false

-- the wrong constructors and constants of a written term
abbrev pub wrong_in : Search → Signature → Declarations → RawTm → List Found
wrong_in k s g (raw_name a at) = []
wrong_in k s g (raw_bound n at) = []
wrong_in k s g (raw_free a t at) = wrong_in_type k s t
wrong_in k s g (raw_constant a t at) = found_if (lacks_constant k (is_some (g a))) at a ++ wrong_in_option k s t
wrong_in k s g (raw_app f x at) = wrong_in k s g f ++ wrong_in k s g x
wrong_in k s g (raw_abs a t x at) = wrong_in_option k s t ++ wrong_in k s g x
wrong_in k s g (raw_typed x t at) = wrong_in k s g x ++ wrong_in_type k s t

-- that of the least place, of equal places the first
abbrev pub sooner : Option Found → Found → Option Found
sooner None p = Some p
sooner (Some q) p = if nat_lt p.0 q.0 then Some p else Some q

abbrev pub earliest : Option Found → List Found → Option Found
earliest best [] = best
earliest best (p ∷ found) = earliest (sooner best p) found

-- the type variables that a term writes
abbrev pub written_in_option : Option RawTyp → List (List ℕ)
written_in_option None = []
written_in_option (Some t) = type_names (plain t)

abbrev pub written_in : RawTm → List (List ℕ)
written_in (raw_name a at) = []
written_in (raw_bound n at) = []
written_in (raw_free a t at) = type_names (plain t)
written_in (raw_constant a t at) = written_in_option t
written_in (raw_app f x at) = written_in f ++ written_in x
written_in (raw_abs a t x at) = written_in_option t ++ written_in x
written_in (raw_typed x t at) = written_in x ++ type_names (plain t)

-- those of types of names, and of a wanted type
abbrev pub written_in_pairs : List (List ℕ × Typ) → List (List ℕ)
written_in_pairs [] = []
written_in_pairs (p ∷ pairs) = type_names p.1 ++ written_in_pairs pairs

abbrev pub written_in_want : Option Typ → List (List ℕ)
written_in_want None = []
written_in_want (Some t) = type_names t

abbrev pub written_names : List (List ℕ × Typ) → List (List ℕ × Typ) → Option Typ → RawTm → List (List ℕ)
written_names exact given want raw = ((written_in_pairs exact ++ written_in_pairs given) ++ written_in_want want) ++ written_in raw
