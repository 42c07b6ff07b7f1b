-- Putting types in place of type variables keeps typing, and what is over a signature.
use Rattle.std.proofs.Common.{◌≡◌, ◌∙◌, ℕ, true, false, cond, List, [], ◌∷◌, map, refl, ap}
use Rattle.std.specs.Prelude.{Option, Some, None, option_map}
use Rattle.std.specs.Str.{bytes_eq}
use Rattle.std.proofs.lemmas.Option.{slice_get-map}
use Rattle.fp_term.specs.declared.signature.Signature.{Signature}
use Rattle.fp_term.specs.Types.{Typ, Typs, variable, applied, none, more, count, found_type, type_or, retyped, all_retyped, IsInstance}
use Rattle.fp_term.specs.Terms.{Tm, bound, free, constant, app, abs, retyped_term}
use Rattle.fp_term.specs.Typing.{type_under, function_type}
use Rattle.fp_term.specs.Signatures.{IsType, AreTypes, IsConstant, IsOver}
use Rattle.fp_term.proofs.Typed.{app_parts, abs_parts, app_typed, abs_typed}

-- the retyped term has the retyped type
module _ (pairs : List (List ℕ × Typ)) where
  pub retyped_typed : (env : List Typ) (t : Tm) (s : Typ) → type_under env t ≡ Some s → type_under (map (retyped pairs) env) (retyped_term pairs t) ≡ Some (retyped pairs s)
  retyped_typed env (bound n) s e = slice_get-map (retyped pairs) env n ∙ ap (option_map (retyped pairs)) e
  retyped_typed env (free a v) s e = ap (option_map (retyped pairs)) e
  retyped_typed env (constant a v) s e = ap (option_map (retyped pairs)) e
  retyped_typed env (app f x) s e =
      let p = app_parts env f x s e in
      app_typed (map (retyped pairs) env) (retyped_term pairs f) (retyped_term pairs x) (retyped pairs p.0) (retyped pairs s)
      (retyped_typed env f (function_type p.0 s) p.1) (retyped_typed env x p.0 p.2)
  retyped_typed env (abs v x) s e =
      let p = abs_parts env v x s e in
      rw (← p.2) (abs_typed (map (retyped pairs) env) (retyped pairs v) (retyped_term pairs x) (retyped pairs p.0) (retyped_typed (v ∷ env) x p.0 p.1))

-- an instance of an instance is an instance
abbrev composed : List (List ℕ × Typ) → List (List ℕ × Typ) → List (List ℕ × Typ)
composed pairs [] = pairs
composed pairs (q ∷ qs) = (q.0, retyped pairs q.1) ∷ composed pairs qs

found_composed : (pairs qs : List (List ℕ × Typ)) (a : List ℕ) → type_or (found_type a (composed pairs qs)) (variable a) ≡ retyped pairs (type_or (found_type a qs) (variable a))
found_composed pairs [] a = refl
found_composed pairs (q ∷ qs) a =
    elim (bytes_eq q.0 a) as (λ b. type_or (cond b (Some (retyped pairs q.1)) (found_type a (composed pairs qs))) (variable a) ≡ retyped pairs (type_or (cond b (Some q.1) (found_type a qs)) (variable a)))
    [ true ↦ refl | false ↦ found_composed pairs qs a ]

mutual
  retyped_twice : (pairs qs : List (List ℕ × Typ)) (t : Typ) → retyped (composed pairs qs) t ≡ retyped pairs (retyped qs t)
  retyped_twice pairs qs (variable a) = found_composed pairs qs a
  retyped_twice pairs qs (applied a ts) = ap (applied a) (all_retyped_twice pairs qs ts)

  all_retyped_twice : (pairs qs : List (List ℕ × Typ)) (ts : Typs) → all_retyped (composed pairs qs) ts ≡ all_retyped pairs (all_retyped qs ts)
  all_retyped_twice pairs qs none = refl
  all_retyped_twice pairs qs (more t ts) = rw (retyped_twice pairs qs t, all_retyped_twice pairs qs ts) refl

pub retyped_instance : (pairs : List (List ℕ × Typ)) (pattern type : Typ) → IsInstance pattern type → IsInstance pattern (retyped pairs type)
retyped_instance pairs pattern type i =
    record { pairs = composed pairs i.pairs; equal = retyped_twice pairs i.pairs pattern ∙ ap (retyped pairs) i.equal }

count_retyped : (pairs : List (List ℕ × Typ)) (ts : Typs) → count (all_retyped pairs ts) ≡ count ts
count_retyped pairs none = refl
count_retyped pairs (more t ts) = rw (count_retyped pairs ts) refl

-- what is over a signature stays over it
module _ (g : Signature) (pairs : List (List ℕ × Typ)) (are_types : (a : List ℕ) (t : Typ) → found_type a pairs ≡ Some t → IsType g t) where
  variable_retyped : (a : List ℕ) (o : Option Typ) → found_type a pairs ≡ o → IsType g (type_or o (variable a))
  variable_retyped a None is = tt
  variable_retyped a (Some t) is = are_types a t is

  mutual
    pub retyped_type : (t : Typ) → IsType g t → IsType g (retyped pairs t)
    retyped_type (variable a) h = variable_retyped a (found_type a pairs) refl
    retyped_type (applied a ts) h = (rw (count_retyped pairs ts) h.0, retyped_types ts h.1)

    retyped_types : (ts : Typs) → AreTypes g ts → AreTypes g (all_retyped pairs ts)
    retyped_types none h = tt
    retyped_types (more t ts) h = (retyped_type t h.0, retyped_types ts h.1)

  constant_retyped : (a : List ℕ) (t : Typ) → IsConstant g a t → IsConstant g a (retyped pairs t)
  constant_retyped a t c = record { declared = c.declared; found = c.found; instance = retyped_instance pairs c.declared t c.instance }

  pub retyped_over : (t : Tm) → IsOver g t → IsOver g (retyped_term pairs t)
  retyped_over (bound n) h = tt
  retyped_over (free a v) h = retyped_type v h
  retyped_over (constant a v) h = (constant_retyped a v h.0, retyped_type v h.1)
  retyped_over (app f x) h = (retyped_over f h.0, retyped_over x h.1)
  retyped_over (abs v x) h = (retyped_type v h.0, retyped_over x h.1)
