-- The signature of a theory is one over which terms are elaborated.
use Rattle.std.proofs.Common.{ℕ, Bool, true, false, if◌then◌else◌, List, [], ◌∷◌, ◌++◌}
use Rattle.fp_term.specs.Types.{Typ}
use Rattle.fp_term.specs.Terms.{Tm, bound, free, constant, app, abs}
use Rattle.fp_term.specs.Signatures.{IsType, IsOver}
use Rattle.fp_term.specs.Variables.{is_variable_among, with_variables, variables_of}
use Rattle.fp_term.specs.declared.signature.Signature.{Signature}
use Rattle.fp_infer.specs.Elaborated.{IsSound, AreTypesIn}
use Rattle.fp_theory.specs.Sound.{IsSoundSignature}

pub sound_alone : (s : Signature) → IsSoundSignature s → IsSound s [] []
sound_alone s h = record { functions = h.functions; declared = h.declared; exact_types = tt; given_types = tt }

types_then : (s : Signature) (pairs : List (List ℕ × Typ)) (name : List ℕ) (t : Typ) → AreTypesIn s pairs → IsType s t → AreTypesIn s (pairs ++ (name, t) ∷ [])
types_then s [] name t h is = (is, tt)
types_then s (p ∷ pairs) name t h is = (h.0, types_then s pairs name t h.1 is)

types_if : (s : Signature) (b : Bool) (known more : List (List ℕ × Typ)) → AreTypesIn s known → AreTypesIn s more → AreTypesIn s (if b then known else more)
types_if s true known more h k = h
types_if s false known more h k = k

-- the variables of a term over the signature have types of it
types_of : (s : Signature) (known : List (List ℕ × Typ)) (t : Tm) → AreTypesIn s known → IsOver s t → AreTypesIn s (with_variables known t)
types_of s known (bound n) h o = h
types_of s known (free name ty) h o = types_if s (is_variable_among known name ty) known (known ++ (name, ty) ∷ []) h (types_then s known name ty h o)
types_of s known (constant name ty) h o = h
types_of s known (app f x) h o = types_of s (with_variables known f) x (types_of s known f h o.0) o.1
types_of s known (abs ty x) h o = types_of s known x h o.1

pub known_types : (s : Signature) (t : Tm) → IsOver s t → AreTypesIn s (variables_of t)
known_types s t o = types_of s [] t tt o
