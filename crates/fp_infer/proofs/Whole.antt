-- The built term is the written one's.
use Rattle.std.proofs.Common.{◌≡◌, ◌∙◌, ℕ, zero, suc, ◌+◌, ◌<◌, ◌≤◌, ◌^◌, ◌||◌, Bool, true, false, List, [], ◌∷◌, ◌++◌, length, get_or, subst, refl, sym, ap, arith}
use Rattle.std.specs.Prelude.{Option, Some, None, is_some, slice_index_or}
use Rattle.std.specs.Str.{bytes_eq}
use Rattle.std.proofs.lemmas.Slice.Eq.{bytes_eq-Decides}
use Rattle.fp_term.specs.Types.{Typ, variable, retyped, found_type}
use Rattle.fp_term.specs.Terms as tm
use Rattle.fp_term.specs.Typing.{function_type, type_under}
use Rattle.fp_term.specs.Terms.{Tm, retyped_term}
use Rattle.fp_term.specs.Variables.{is_among, type_names_in}
use Rattle.fp_term.specs.declared.signature.Signature.{Signature}
use Rattle.fp_raw.specs.Raws.{RawTm, raw_name, raw_bound, raw_free, raw_constant, raw_app, raw_abs, raw_typed, raw_size}
use Rattle.fp_constrain.specs.Declarations.{Declarations, declarations}
use Rattle.fp_constrain.specs.Subterms.{top}
use Rattle.fp_constrain.specs.Rules.{Scope, Has}
use Rattle.fp_constrain.specs.Draws.{typing}
use Rattle.fp_constrain.specs.Clash.{IsTyping, Clashes, Traces}
use Rattle.fp_unify.specs.Cells.{cell, Fits}
use Rattle.fp_unify.specs.General.{IsBest, Naming}
use Rattle.fp_unify.specs.Nodes.{type_nodes, Single}
use Rattle.fp_unify.specs.Candidates.{fresh_before, with_unwritten}
use Rattle.fp_unify.specs.Naming.{Pairs, name_of, names_of, Agrees, AreOwn, IsNamer, AreWritten, Within}
use Rattle.fp_unify.specs.declared.fact.Fact.{Fact}
use Rattle.fp_unify.specs.declared.table.Shape.{Shape}
use Rattle.fp_unify.specs.declared.table.Shape.TheVariants.{Open}
use Rattle.fp_infer.specs.Names.{written_names}
use Rattle.fp_infer.specs.Built.{Around, bound_number, named, built, place_of}
use Rattle.fp_infer.specs.Builds.{IsReady, IsArrow, AreArrows, Builds}
use Rattle.fp_infer.specs.Elaborated.{IsGeneral, FirstBeyond, Elaborated, IsLarge, IsLargeAt, ClashesAt, IsSound, AreRight}
use Rattle.fp_infer.proofs.Known.{given_known, want_known, term_known}
use Rattle.fp_infer.proofs.Closed.{are_written, are_types}
use Rattle.fp_infer.proofs.Fresh.{far, far_apart, far_unwritten, name_at, name_known, naming}
use Rattle.fp_infer.proofs.WellTyped.{typed_built}
use Rattle.fp_unify.specs.Facts.{AreKnown}
use Rattle.fp_term.specs.Signatures.{IsType}

-- the abstractions have types of functions where the typing rules hold
module _ (g : Declarations) (cells : List Shape) (seen : List ℕ) (limit : ℕ) where
  arrows : (n : ℕ) (raw : RawTm) → n + raw_size raw ≤ limit → ((v : ℕ → Typ) → Fits v cells → (vars : List ℕ → Typ) × (scope : Scope) × Has g vars (typing v seen) limit scope n raw) → AreArrows cells seen n raw
  arrows n (raw_name a at) low h = tt
  arrows n (raw_bound k at) low h = tt
  arrows n (raw_free a s at) low h = tt
  arrows n (raw_constant a s at) low h = tt
  arrows n (raw_app f x at) low h = (arrows n f (omega arith) (λ v e. let r = h v e in (r.0, r.1, r.2.0)), arrows (n + raw_size f) x (omega arith) (λ v e. let r = h v e in (r.0, r.1, r.2.1)))
  arrows n (raw_abs a w x at) low h =
      (arrows n x (omega arith) (λ v e. let r = h v e in (r.0, (a, r.2.0) ∷ r.1, r.2.2)), record { is = λ v e. let r = h v e in (r.2.0, _, r.2.3 (omega arith)) })
  arrows n (raw_typed x w at) low h = arrows n x (omega arith) (λ v e. let r = h v e in (r.0, r.1, r.2.0))

-- types with the names that were given
own_agrees : (v : ℕ → Typ) (cells : List Shape) (written : List (List ℕ)) (all some : Pairs) → ((i : ℕ) → cell cells i ≡ Open → v i ≡ variable (name_at written all i)) → AreOwn cells all some → Agrees v some
own_agrees v cells written all [] h o = tt
own_agrees v cells written all (p ∷ some) h o = (h p.0 o.0 ∙ ap variable (name_known written all p.0 p.1 o.1), own_agrees v cells written all some h o.2)

-- the term with other types in place of names is the one that is built with these types
retyped_named : (pairs : List (List ℕ × Typ)) (o : Option ℕ) (d : Bool) (a : List ℕ) (t : Typ) → retyped_term pairs (named o d a t) ≡ named o d a (retyped pairs t)
retyped_named pairs None true a t = refl
retyped_named pairs None false a t = refl
retyped_named pairs (Some k) d a t = refl

module _ (g : Declarations) (vars : List ℕ → Typ) (w v : ℕ → Typ) (limit : ℕ) (pairs : List (List ℕ × Typ)) where
  retyped_built : (scope : Scope) (around : Around) (n : ℕ) (raw : RawTm) → n + raw_size raw ≤ limit → ((k : ℕ) → n ≤ k → k < n + raw_size raw → retyped pairs (w k) ≡ v k) → Has g vars w limit scope n raw → retyped_term pairs (built g w around n raw) ≡ built g v around n raw
  retyped_built scope around n (raw_name a at) low e h = retyped_named pairs (bound_number a around) (is_some (g a)) a (w n) ∙ ap (named (bound_number a around) (is_some (g a)) a) (e n (omega arith) (omega arith))
  retyped_built scope around n (raw_bound k at) low e h = refl
  retyped_built scope around n (raw_free a s at) low e h = ap (tm.free a) (e n (omega arith) (omega arith))
  retyped_built scope around n (raw_constant a s at) low e h = ap (tm.constant a) (e n (omega arith) (omega arith))
  retyped_built scope around n (raw_app f x at) low e h =
      rw (retyped_built scope around n f (omega arith) (λ k l m. e k l (omega arith)) h.0, retyped_built scope around (n + raw_size f) x (omega arith) (λ k l m. e k (omega arith) (omega arith)) h.1) refl
  retyped_built scope around n (raw_abs a s x at) low e h =
      let arrow = h.3 (omega arith) in
      let of_v : v (n + raw_size x) ≡ retyped pairs (function_type h.0 (w (top n x))) = sym (e (n + raw_size x) (omega arith) (omega arith)) ∙ ap (retyped pairs) arrow in
      rw (arrow, of_v, retyped_built ((a, h.0) ∷ scope) (a ∷ around) n x (omega arith) (λ k l m. e k l (omega arith)) h.2) refl
  retyped_built scope around n (raw_typed x s at) low e h = retyped_built scope around n x (omega arith) (λ k l m. e k l (omega arith)) h.0

module _ (s : Signature) (exact given : List (List ℕ × Typ)) (want : Option Typ) (raw : RawTm) (count : ℕ) (facts : List (ℕ × Fact)) (seen : List ℕ) (cells : List Shape)
    (t : Traces s (declarations s exact) given want raw count seen facts) (b : IsBest (raw_size raw + 1) facts count cells) where
  abbrev g : Declarations
  g = declarations s exact

  typing_of : (v : ℕ → Typ) → Fits v cells → (vars : List ℕ → Typ) × IsTyping s g given want (raw_size raw + 1) raw vars (typing v seen)
  typing_of v f = t.sound (raw_size raw + 1) v (omega arith) (b.solution.back v f)

  pub whole_arrows : AreArrows cells seen 0 raw
  whole_arrows = arrows g cells seen (raw_size raw + 1) 0 raw (omega arith) (λ v f. let r = typing_of v f in (r.0, [], r.1.has))

  pub seen_inside : (k : ℕ) → k < length seen → slice_index_or seen k 0 < length cells
  seen_inside k less = omega (arith, t.below k less, b.solution.counted)

  -- the names in the table are written
  module _ (sound : IsSound s exact given) (right : AreRight s g raw) where
    abbrev written : List (List ℕ)
    written = written_names exact given want raw

    known : AreKnown s written facts
    known = t.only written sound.functions (given_known s exact given want raw sound) (term_known s exact given want raw sound right) (want_known s exact given want raw sound)

    names_written : AreWritten cells written
    names_written = are_written s written (raw_size raw + 1) facts count cells b.solution known

    pub ready : FirstBeyond cells seen 200 None → IsReady cells seen written 200
    ready small = record { fine = b.solution.fine; determines = b.solution.determines; names = names_written; inside = seen_inside; small = small }

    general : (names : ℕ → List ℕ) → Naming cells written names → (types : ℕ → Typ) → Fits types cells → ((i : ℕ) → cell cells i ≡ Open → types i ≡ variable (names i)) → IsGeneral s g given want written raw (typing types seen)
    general names naming types fits named_so =
        let p = b.general.principal written names names_written naming types fits named_so in
        record {
          general = λ vars others h.
              let x = t.complete (raw_size raw + 1) vars others h in
              let i = p.general x.0 x.1 in
              record { pairs = i.pairs; kept = i.kept; is = λ k less. i.is (slice_index_or seen k 0) (t.below k (omega (arith, t.counted))) ∙ x.2 k less };
        }

    types_over : (types : ℕ → Typ) → Fits types cells → (names : ℕ → List ℕ) → ((i : ℕ) → cell cells i ≡ Open → types i ≡ variable (names i)) → (i : ℕ) → IsType s (types i)
    types_over types fits names named_so i =
        are_types s written (raw_size raw + 1) facts count cells b.solution known types fits (λ j o. subst (IsType s) (sym (named_so j o)) tt) i

    pub elaborated : (next : ℕ) (new : Pairs) (term : Tm) → next < 2 ^ 64 → IsNamer cells written next new → Builds g cells written seen [] 0 raw [] new term → Elaborated s g given want written raw term
    elaborated next new term small n h =
        let names = name_at written new in
        let f = b.solution.determines.filled (λ i. variable (names i)) in
        let r = typing_of f.types f.fit in
        let is = h.is f.types f.fit (own_agrees f.types cells written new new f.chosen n.own) in
        record {
          vars = r.0;
          types = typing f.types seen;
          typing = r.1;
          general = general names (naming cells written next new small n.names) f.types f.fit f.chosen;
          over = λ k less. types_over f.types f.fit names f.chosen (slice_index_or seen k 0);
          is = is;
          typed = ap (type_under []) is ∙ typed_built g r.0 (typing f.types seen) (raw_size raw + 1) [] 0 raw (omega arith) r.1.has;
          next = next;
          names = sym n.names ∙ h.names;
        }

    pub elaborated_at : (shapes : List Shape) (places : List ℕ) (slice names : List (List ℕ)) (next : ℕ) (old new : Pairs) (term : Tm) → next < 2 ^ 64 → shapes ≡ cells → places ≡ seen → slice ≡ names → names ≡ written → old ≡ [] →
        IsNamer shapes slice next new → Builds g shapes slice places [] 0 raw old new term → Elaborated s g given want written raw term
    elaborated_at shapes places slice names next old new term small shapes_is places_is slice_is names_is old_is n h =
        elaborated next new term small (rw (shapes_is, slice_is, names_is) at n) (rw (shapes_is, slice_is, names_is, places_is, old_is) at h)

    pub large : (k : ℕ) → FirstBeyond cells seen 200 (Some k) → IsLarge s g given want written raw k
    large k x =
        let names = far written in
        let f = b.solution.determines.filled (λ i. variable (names i)) in
        let single : Single f.types cells = record { fits = f.fit; single = λ i o. ap type_nodes (f.chosen i o) } in
        let r = typing_of f.types f.fit in
        record {
          vars = r.0;
          types = typing f.types seen;
          typing = r.1;
          general = general names (record { apart = λ i j o p e. far_apart written i j e; unwritten = λ i o. far_unwritten written i }) f.types f.fit f.chosen;
          inside = omega (arith, x.0, t.counted);
          before = λ j less. (x.1 j less).small f.types single;
          large = x.2.large f.types single;
        }
