-- The built term is well typed.
use Rattle.std.proofs.Common.{◌≡◌, ◌∙◌, ℕ, zero, suc, ◌+◌, ◌<◌, ◌≤◌, ◌&&◌, Bool, true, false, cond, List, [], ◌∷◌, refl, sym, ap, arith, subst}
use Rattle.std.specs.Prelude.{Option, Some, None, is_some}
use Rattle.std.specs.Option.{option_map}
use Rattle.std.specs.List.{slice_get}
use Rattle.std.specs.Str.{bytes_eq}
use Rattle.fp_term.specs.Names.{function}
use Rattle.fp_term.specs.Types.{Typ, variable, applied, none, more, type_eq}
use Rattle.fp_term.specs.Terms.{Tm}
use Rattle.fp_term.specs.Terms as tm
use Rattle.fp_term.specs.Typing.{function_type, type_of_app, bind, type_under}
use Rattle.fp_term.proofs.Equal.{type_eq-decides}
use Rattle.fp_raw.specs.Raws.{RawTm, raw_name, raw_bound, raw_free, raw_constant, raw_app, raw_abs, raw_typed, raw_size}
use Rattle.fp_constrain.specs.Declarations.{Declared, IsDeclared, Declarations}
use Rattle.fp_constrain.specs.Subterms.{top}
use Rattle.fp_constrain.specs.Rules.{Scope, is_named, innermost, NameHas, ConstantHas, BoundHas, Has}
use Rattle.fp_infer.specs.Built.{Around, bound_number, named, built}

abbrev pub types_in : Scope → List Typ
types_in [] = []
types_in (b ∷ scope) = b.1 ∷ types_in scope

abbrev pub names_in : Scope → Around
names_in [] = []
names_in (b ∷ scope) = b.0 ∷ names_in scope

-- a name and its type: of a bound variable or of none
pub data Resolves (env : List Typ) : Option ℕ → Option Typ → Type 0 where
  to_none : Resolves env None None
  to_bound : (k : ℕ) (t : Typ) → slice_get env k ≡ Some t → Resolves env (Some k) (Some t)

further : (env : List Typ) (u : Typ) (o : Option ℕ) (i : Option Typ) → Resolves env o i → Resolves (u ∷ env) (option_map (λ k. k + 1) o) i
further env u None None to_none = to_none
further env u None (Some t) x = elim x [ ]
further env u (Some k) None x = elim x [ ]
further env u (Some k) (Some t) (to_bound k' t' e) = to_bound (k' + 1) t' (let n : k' + 1 ≡ suc k' = omega arith in rw n e)

pub resolves : (a : List ℕ) (scope : Scope) → Resolves (types_in scope) (bound_number a (names_in scope)) (innermost a scope)
resolves a [] = to_none
resolves a (b ∷ scope) =
    elim (is_named b.0 a) as (λ r. Resolves (b.1 ∷ types_in scope) (cond r (Some 0) (option_map (λ k. k + 1) (bound_number a (names_in scope)))) (cond r (Some b.1) (innermost a scope)))
    [ true ↦ to_bound 0 b.1 refl | false ↦ further (types_in scope) b.1 (bound_number a (names_in scope)) (innermost a scope) (resolves a scope) ]

typed_name : (env : List Typ) (o : Option ℕ) (i : Option Typ) (c : Bool) (d : Option Declared) (a : List ℕ) (own t : Typ) → Resolves env o i → NameHas i d own t → type_under env (named o c a t) ≡ Some t
typed_name env None None true d a own t to_none h = refl
typed_name env None None false d a own t to_none h = refl
typed_name env None (Some s) c d a own t x h = elim x [ ]
typed_name env (Some k) None c d a own t x h = elim x [ ]
typed_name env (Some k) (Some s) c d a own t (to_bound k' s' e) h = e ∙ ap Some (sym h)

bound_typed : (scope : Scope) (k : ℕ) (t : Typ) → BoundHas (slice_get scope k) t → slice_get (types_in scope) k ≡ Some t
bound_typed [] k t h = absurd h
bound_typed (b ∷ scope) zero t h = ap Some (sym h)
bound_typed (b ∷ scope) (suc k) t h = bound_typed scope k t h

app_typed : (u t : Typ) → type_of_app (function_type u t) u ≡ Some t
app_typed u t = rw ((type_eq-decides u u).1 refl) refl

module _ (g : Declarations) (vars : List ℕ → Typ) (types : ℕ → Typ) (limit : ℕ) where
  pub typed_built : (scope : Scope) (n : ℕ) (raw : RawTm) → n + raw_size raw ≤ limit → Has g vars types limit scope n raw → type_under (types_in scope) (built g types (names_in scope) n raw) ≡ Some (types (top n raw))
  typed_built scope n (raw_name a at) low h = typed_name (types_in scope) _ _ (is_some (g a)) (g a) a (vars a) (types n) (resolves a scope) (h (omega arith))
  typed_built scope n (raw_bound k at) low h = bound_typed scope k (types n) (h (omega arith))
  typed_built scope n (raw_free a s at) low h = refl
  typed_built scope n (raw_constant a s at) low h = refl
  typed_built scope n (raw_app f x at) low h =
      rw (typed_built scope n f (omega arith) h.0, typed_built scope (n + raw_size f) x (omega arith) h.1, h.2 (omega arith)) (app_typed (types (top (n + raw_size f) x)) (types (n + raw_size f + raw_size x)))
  typed_built scope n (raw_abs a w x at) low h =
      rw (h.3 (omega arith), typed_built ((a, h.0) ∷ scope) n x (omega arith) h.2) refl
  typed_built scope n (raw_typed x w at) low h =
      let r = h.1 (omega arith) in typed_built scope n x (omega arith) h.0 ∙ ap Some (r.0 ∙ sym r.1)
