-- The free variables of a term that a written one stands for have types of the signature.
use Rattle.std.proofs.Common.{◌≡◌, ℕ, ◌+◌, ◌<◌, ◌≤◌, Bool, true, false, cond, List, [], ◌∷◌, ◌++◌, sym, subst, arith}
use Rattle.std.specs.Prelude.{Option, Some, None, is_some}
use Rattle.fp_term.specs.Types.{Typ}
use Rattle.fp_term.specs.Terms.{Tm, bound, free, constant, app, abs}
use Rattle.fp_term.specs.Variables.{is_variable_among, with_variables, variables_of}
use Rattle.fp_term.specs.Signatures.{IsType}
use Rattle.fp_term.specs.declared.signature.Signature.{Signature}
use Rattle.fp_raw.specs.Raws.{RawTm, raw_name, raw_bound, raw_free, raw_constant, raw_app, raw_abs, raw_typed, raw_size}
use Rattle.fp_constrain.specs.Declarations.{Declarations}
use Rattle.fp_infer.specs.Built.{Around, bound_number, named, built}
use Rattle.fp_kernel.specs.Definitions.{Def}
use Rattle.fp_kernel.specs.Start.{signature_of}
use Rattle.fp_infer.specs.Elaborated.{Elaborated, IsSound, AreTypesIn}
use Rattle.fp_theory.specs.Sound.{IsSoundSignature}

-- the free variables have types of the signature
abbrev FreeOver : Signature → Tm → Type 0
FreeOver s (bound n) = Unit {0}
FreeOver s (free a t) = IsType s t
FreeOver s (constant a t) = Unit {0}
FreeOver s (app f x) = FreeOver s f × FreeOver s x
FreeOver s (abs t x) = FreeOver s x

named_over : (s : Signature) (o : Option ℕ) (known : Bool) (a : List ℕ) (t : Typ) → IsType s t → FreeOver s (named o known a t)
named_over s (Some k) known a t h = tt
named_over s None true a t h = tt
named_over s None false a t h = h

-- the types from a number on, of so many subterms, are of the signature
abbrev AreOver : Signature → (ℕ → Typ) → ℕ → ℕ → Type 0
AreOver s types n size = (k : ℕ) → n ≤ k → k < n + size → IsType s (types k)

built_over : (s : Signature) (g : Declarations) (types : ℕ → Typ) (around : Around) (n : ℕ) (raw : RawTm) → AreOver s types n (raw_size raw) → FreeOver s (built g types around n raw)
built_over s g types around n (raw_name a at) h = named_over s (bound_number a around) (is_some (g a)) a (types n) (h n (omega arith) (omega arith))
built_over s g types around n (raw_bound k at) h = tt
built_over s g types around n (raw_free a t at) h = h n (omega arith) (omega arith)
built_over s g types around n (raw_constant a t at) h = tt
built_over s g types around n (raw_app f x at) h =
    (built_over s g types around n f (λ k from to. h k from (omega arith)), built_over s g types around (n + raw_size f) x (λ k from to. h k (omega arith) (omega arith)))
built_over s g types around n (raw_abs a w x at) h = built_over s g types (a ∷ around) n x (λ k from to. h k from (omega arith))
built_over s g types around n (raw_typed x w at) h = built_over s g types around n x (λ k from to. h k from (omega arith))

one_more : (s : Signature) (known : List (List ℕ × Typ)) (a : List ℕ) (t : Typ) → AreTypesIn s known → IsType s t → AreTypesIn s (known ++ (a, t) ∷ [])
one_more s [] a t h is = (is, tt)
one_more s (p ∷ known) a t h is = (h.0, one_more s known a t h.1 is)

with_one : (s : Signature) (b : Bool) (known : List (List ℕ × Typ)) (a : List ℕ) (t : Typ) → AreTypesIn s known → IsType s t → AreTypesIn s (cond b known (known ++ (a, t) ∷ []))
with_one s true known a t h is = h
with_one s false known a t h is = one_more s known a t h is

variables_over : (s : Signature) (known : List (List ℕ × Typ)) (t : Tm) → AreTypesIn s known → FreeOver s t → AreTypesIn s (with_variables known t)
variables_over s known (bound n) h over = h
variables_over s known (free a t) h over = with_one s (is_variable_among known a t) known a t h over
variables_over s known (constant a t) h over = h
variables_over s known (app f x) h over = variables_over s (with_variables known f) x (variables_over s known f h over.0) over.1
variables_over s known (abs t x) h over = variables_over s known x h over

-- so they can be given
pub elaborated_given : (s : Signature) (g : Declarations) (given : List (List ℕ × Typ)) (want : Option Typ) (written : List (List ℕ)) (raw : RawTm) (t : Tm) →
    Elaborated s g given want written raw t → AreTypesIn s (variables_of t)
elaborated_given s g given want written raw t e =
    let over = subst (FreeOver s) (sym e.is) (built_over s g e.types [] 0 raw (λ k from to. e.over k (omega arith))) in
    variables_over s [] t tt over

-- over the definitions of a theory
pub sound_given : (ds es : List Def) (given : List (List ℕ × Typ)) → es ≡ ds → IsSoundSignature (signature_of ds) → AreTypesIn (signature_of es) given → IsSound (signature_of es) [] given
sound_given ds es given e s known =
    let sound : IsSoundSignature (signature_of es) = subst (λ (defs : List Def). IsSoundSignature (signature_of defs)) (sym e) s in
    record { functions = sound.functions; declared = sound.declared; exact_types = tt; given_types = known }
