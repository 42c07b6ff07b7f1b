-- The built term is over the signature with the constants of exact types, and so well typed over it.
use Rattle.std.proofs.Common.{◌≡◌, ◌∙◌, ℕ, ◌+◌, ◌<◌, ◌≤◌, Bool, true, false, cond, List, [], ◌∷◌, ◌++◌, refl, sym, ap, arith, subst}
use Rattle.std.specs.Prelude.{Option, Some, None, Result, Ok, Err, IfOk, is_some}
use Rattle.std.specs.Str.{bytes_eq}
use Rattle.fp_term.specs.Types.{Typ, Typs, variable, applied, none, more, found_type, retyped, all_retyped, IsInstance}
use Rattle.fp_term.specs.Terms.{Tm}
use Rattle.fp_term.specs.Signatures.{IsType, AreTypes, IsConstant, IsOver, IsWellTyped}
use Rattle.fp_term.specs.declared.signature.Signature.{Signature}
use Rattle.fp_raw.specs.Raws.{RawTm, raw_name, raw_bound, raw_free, raw_constant, raw_app, raw_abs, raw_typed, raw_size}
use Rattle.fp_constrain.specs.Declarations.{Declared, exactly, instances, IsDeclared, Declarations, declarations, declared_by}
use Rattle.fp_constrain.specs.Subterms.{top}
use Rattle.fp_constrain.specs.Rules.{Scope, innermost, NameHas, ConstantHas, IsWritten, Has}
use Rattle.fp_constrain.specs.Clash.{IsWanted}
use Rattle.fp_term.specs.Typing.{function_type}
use Rattle.fp_infer.specs.Names.{written_names}
use Rattle.fp_infer.specs.Built.{bound_number, named, built, domain}
use Rattle.fp_infer.specs.Elaborated.{Elaborated, Answers, with_exact, IsTermOf}
use Rattle.fp_infer.specs.declared.fault.InferFault.{InferFault}
use Rattle.fp_infer.proofs.WellTyped.{types_in, names_in, Resolves, to_none, to_bound, resolves}

-- a type is an instance of itself
mutual
  same : (t : Typ) → retyped [] t ≡ t
  same (variable a) = refl
  same (applied a ts) = ap (applied a) (all_same ts)

  all_same : (ts : Typs) → all_retyped [] ts ≡ ts
  all_same none = refl
  all_same (more t ts) = rw (same t, all_same ts) refl

-- a name among two lists is one of the first, and else one of the second
found_first : (a : List ℕ) (first second : List (List ℕ × Typ)) (t : Typ) → found_type a first ≡ Some t → found_type a (first ++ second) ≡ Some t
found_first a [] second t e = cc
found_first a (p ∷ first) second t e =
    elim (bytes_eq p.0 a) as (λ b. cond b (Some p.1) (found_type a first) ≡ Some t → cond b (Some p.1) (found_type a (first ++ second)) ≡ Some t)
    [ true ↦ λ f. f | false ↦ λ f. found_first a first second t f ] e

found_second : (a : List ℕ) (first second : List (List ℕ × Typ)) → found_type a first ≡ None → found_type a (first ++ second) ≡ found_type a second
found_second a [] second e = refl
found_second a (p ∷ first) second e =
    elim (bytes_eq p.0 a) as (λ b. cond b (Some p.1) (found_type a first) ≡ None → cond b (Some p.1) (found_type a (first ++ second)) ≡ found_type a second)
    [ true ↦ λ f. cc | false ↦ λ f. found_second a first second f ] e

module _ (s : Signature) (exact : List (List ℕ × Typ)) where
  abbrev both : Signature
  both = with_exact s exact

  mutual
    type_over : (t : Typ) → IsType s t → IsType both t
    type_over (variable a) h = tt
    type_over (applied a ts) h = (h.0, types_over ts h.1)

    types_over : (ts : Typs) → AreTypes s ts → AreTypes both ts
    types_over none h = tt
    types_over (more t ts) h = (type_over t h.0, types_over ts h.1)

  constant_by : (a : List ℕ) (t : Typ) (e c : Option Typ) → found_type a exact ≡ e → found_type a s.consts ≡ c → ConstantHas (declared_by e c) t → IsConstant both a t
  constant_by a t (Some u) c e f h = record { declared = u; found = found_first a exact s.consts u e; instance = record { pairs = []; equal = same u ∙ sym h } }
  constant_by a t None (Some u) e f h = record { declared = u; found = found_second a exact s.consts e ∙ f; instance = h }
  constant_by a t None None e f h = absurd h

  constant_over : (a : List ℕ) (t : Typ) → ConstantHas (declarations s exact a) t → IsConstant both a t
  constant_over a t h = constant_by a t (found_type a exact) (found_type a s.consts) refl refl h

  -- a name that is resolved
  name_over : (env : List Typ) (o : Option ℕ) (i : Option Typ) (d : Option Declared) (a : List ℕ) (own t : Typ) → Resolves env o i → declarations s exact a ≡ d → NameHas i d own t → IsType s t → IsOver both (named o (is_some d) a t)
  name_over env None None (Some d) a own t to_none e h is = (constant_over a t (rw e h), type_over t is)
  name_over env None None None a own t to_none e h is = type_over t is
  name_over env None (Some u) d a own t x e h is = elim x [ ]
  name_over env (Some k) i d a own t x e h is = tt

  domain_over : (types : ℕ → Typ) (n : ℕ) (u v : Typ) → types n ≡ function_type u v → IsType s (types n) → IsType both (domain (types n))
  domain_over types n u v e is = let is_arrow = rw e at is in rw e (type_over u is_arrow.1.0)

  module _ (vars : List ℕ → Typ) (types : ℕ → Typ) (limit : ℕ) where
    abbrev g : Declarations
    g = declarations s exact

    built_over : (scope : Scope) (n : ℕ) (raw : RawTm) → n + raw_size raw ≤ limit → ((k : ℕ) → n ≤ k → k < n + raw_size raw → IsType s (types k)) → Has g vars types limit scope n raw → IsOver both (built g types (names_in scope) n raw)
    built_over scope n (raw_name a at) low is h =
        name_over (types_in scope) (bound_number a (names_in scope)) (innermost a scope) (g a) a (vars a) (types n) (resolves a scope) refl (h (omega arith)) (is n (omega arith) (omega arith))
    built_over scope n (raw_bound k at) low is h = tt
    built_over scope n (raw_free a w at) low is h = type_over (types n) (is n (omega arith) (omega arith))
    built_over scope n (raw_constant a w at) low is h =
        (constant_over a (types n) (h (omega arith)).0, type_over (types n) (is n (omega arith) (omega arith)))
    built_over scope n (raw_app f x at) low is h =
        (built_over scope n f (omega arith) (λ k from to. is k from (omega arith)) h.0, built_over scope (n + raw_size f) x (omega arith) (λ k from to. is k (omega arith) (omega arith)) h.1)
    built_over scope n (raw_abs a w x at) low is h = (
      domain_over types (n + raw_size x) h.0 (types (top n x)) (h.3 (omega arith)) (is (n + raw_size x) (omega arith) (omega arith)),
      built_over ((a, h.0) ∷ scope) n x (omega arith) (λ k from to. is k from (omega arith)) h.2,
    )
    built_over scope n (raw_typed x w at) low is h = built_over scope n x (omega arith) (λ k from to. is k from (omega arith)) h.0

is_wanted : (s : Signature) (want : Option Typ) (t : Typ) → IsWanted s want t → IsWritten want t
is_wanted s None t h = tt
is_wanted s (Some w) t h = h.0

-- the term of a written one is well typed
pub elaborated_term : (s : Signature) (exact given : List (List ℕ × Typ)) (want : Option Typ) (written : List (List ℕ)) (raw : RawTm) (t : Tm) → Elaborated s (declarations s exact) given want written raw t → IsTermOf (with_exact s exact) want t
elaborated_term s exact given want written raw t e =
    record {
      type = e.types (top 0 raw);
      well_typed = record {
        typed = e.typed;
        over = subst (IsOver (with_exact s exact)) (sym e.is) (built_over s exact e.vars e.types (raw_size raw + 1) [] 0 raw (omega arith) (λ k from to. e.over k (omega arith)) e.typing.has);
      };
      wanted = is_wanted s want (e.types (top 0 raw)) (e.typing.wanted (omega arith));
    }

pub answered_term : (s : Signature) (exact given : List (List ℕ × Typ)) (want : Option Typ) (raw : RawTm) (r : Result Tm InferFault) → Answers s exact given want raw r → IfOk r (λ t. IsTermOf (with_exact s exact) want t)
answered_term s exact given want raw (Ok t) h = elaborated_term s exact given want (written_names exact given want raw) raw t h.1
answered_term s exact given want raw (Err f) h = tt

-- without constants of exact types
pub answered_alone : (s : Signature) (given : List (List ℕ × Typ)) (want : Option Typ) (raw : RawTm) (r : Result Tm InferFault) → Answers s [] given want raw r → IfOk r (λ t. IsTermOf s want t)
answered_alone s given want raw (Ok t) h = elaborated_term s [] given want (written_names [] given want raw) raw t h.1
answered_alone s given want raw (Err f) h = tt
