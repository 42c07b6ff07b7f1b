-- Before a clash all constraints hold by types over the signature.
use Rattle.std.proofs.Common.{◌≡◌, ◌<◌, ◌+◌, ℕ, zero, suc, List, [], ◌∷◌, refl, arith}
use Rattle.std.specs.Prelude.{Option, slice_index_or}
use Rattle.fp_term.specs.Types.{Typ, variable}
use Rattle.fp_term.specs.Signatures.{IsType}
use Rattle.fp_term.specs.declared.signature.Signature.{Signature}
use Rattle.fp_raw.specs.Raws.{RawTm, raw_name, raw_bound, raw_free, raw_constant, raw_app, raw_abs, raw_typed, raw_size}
use Rattle.fp_constrain.specs.Declarations.{Declarations, declarations}
use Rattle.fp_constrain.specs.Rules.{Scope, Has}
use Rattle.fp_constrain.specs.Draws.{typing}
use Rattle.fp_constrain.specs.Clash.{Traces, FirstUnsolvable}
use Rattle.fp_constrain.proofs.Clashing.{satisfiable_none}
use Rattle.fp_unify.specs.Facts.{AreKnown}
use Rattle.fp_unify.specs.declared.fact.Fact.{Fact}
use Rattle.fp_infer.specs.Names.{written_names}
use Rattle.fp_infer.specs.Built.{place_of}
use Rattle.fp_infer.specs.Elaborated.{AreRight, IsSound, SatisfiableOver, ClashesAt, MayClashAt}
use Rattle.fp_infer.proofs.Known.{given_known, want_known, term_known}
use Rattle.fp_infer.proofs.Closed.{repaired, repaired_is, repaired_solves}

-- no rule below 0 asks for anything
nothing_asked : (g : Declarations) (vars : List ℕ → Typ) (types others : ℕ → Typ) (scope : Scope) (n : ℕ) (raw : RawTm) → Has g vars types 0 scope n raw → Has g vars others 0 scope n raw
nothing_asked g vars types others scope n (raw_name a at) h = λ below. absurd (omega arith)
nothing_asked g vars types others scope n (raw_bound k at) h = λ below. absurd (omega arith)
nothing_asked g vars types others scope n (raw_free a w at) h = λ below. absurd (omega arith)
nothing_asked g vars types others scope n (raw_constant a w at) h = λ below. absurd (omega arith)
nothing_asked g vars types others scope n (raw_app f x at) h = (nothing_asked g vars types others scope n f h.0, nothing_asked g vars types others scope (n + raw_size f) x h.1, λ below. absurd (omega arith))
nothing_asked g vars types others scope n (raw_abs a w x at) h = (h.0, h.1, nothing_asked g vars types others ((a, h.0) ∷ scope) n x h.2, λ below. absurd (omega arith))
nothing_asked g vars types others scope n (raw_typed x w at) h = (nothing_asked g vars types others scope n x h.0, λ below. absurd (omega arith))

module _ (s : Signature) (exact given : List (List ℕ × Typ)) (want : Option Typ) (raw : RawTm) (count : ℕ) (seen : List ℕ) (facts : List (ℕ × Fact)) (t : Traces s (declarations s exact) given want raw count seen facts)
    (sound : IsSound s exact given) (right : AreRight s (declarations s exact) raw) where
  abbrev written : List (List ℕ)
  written = written_names exact given want raw

  known : AreKnown s written facts
  known = t.only written sound.functions (given_known s exact given want raw sound) (term_known s exact given want raw sound right) (want_known s exact given want raw sound)

  before_clash : (k : ℕ) → FirstUnsolvable facts k (k + 1) → SatisfiableOver s (declarations s exact) given want k raw
  before_clash zero f =
      let b = satisfiable_none s (declarations s exact) given want raw in
      let types = λ (j : ℕ). variable [] in
      record {
        vars = b.vars;
        types = types;
        typing = record { has = nothing_asked (declarations s exact) b.vars b.types types [] 0 raw b.typing.has; gives = λ h. absurd (omega arith); wanted = λ h. absurd (omega arith) };
        over = λ j. tt;
      }
  before_clash (suc k) f =
      let v = λ (i : ℕ). repaired s (f.before.types i) in
      let b = t.sound (suc k) v (omega arith) (repaired_solves s written (suc k) f.before.types facts known f.before.solves) in
      record { vars = b.0; types = typing v seen; typing = b.1; over = λ j. repaired_is s (f.before.types (slice_index_or seen j 0)) }

pub clash_over : (s : Signature) (exact given : List (List ℕ × Typ)) (want : Option Typ) (raw : RawTm) (count : ℕ) (seen : List ℕ) (facts slice : List (ℕ × Fact)) (k : ℕ) → Traces s (declarations s exact) given want raw count seen facts → slice ≡ facts → FirstUnsolvable slice k (k + 1) →
    AreRight s (declarations s exact) raw → IsSound s exact given → SatisfiableOver s (declarations s exact) given want k raw
clash_over s exact given want raw count seen facts slice k t e f right sound = before_clash s exact given want raw count seen facts t sound right k (rw e at f)

pub clash_known : (s : Signature) (exact given : List (List ℕ × Typ)) (want : Option Typ) (raw : RawTm) (at : ℕ) → MayClashAt s exact given want raw at → AreRight s (declarations s exact) raw → IsSound s exact given → ClashesAt s (declarations s exact) given want raw at
clash_known s exact given want raw at h right sound = (h.0, h.1, h.2 right sound, h.3)
