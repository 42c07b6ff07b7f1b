-- The built term.
use Rattle.std.proofs.Common.{◌≡◌, ◌∙◌, ℕ, zero, suc, ◌+◌, ◌<◌, ◌≤◌, Bool, true, false, List, [], ◌∷◌, ◌++◌, length, get_or, refl, sym, ap, arith}
use Rattle.std.specs.Prelude.{Option}
use Rattle.std.proofs.lemmas.List.{get_or_read_under}
use Rattle.fp_term.specs.Types.{Typ, variable, applied}
use Rattle.fp_term.specs.Terms.{Tm}
use Rattle.fp_term.specs.Terms as tm
use Rattle.fp_term.specs.Variables.{type_names, type_names_in}
use Rattle.fp_constrain.specs.Declarations.{Declared, Declarations}
use Rattle.fp_raw.specs.Raws.{RawTyp, RawTm, raw_app, raw_abs, raw_size}
use Rattle.fp_unify.specs.Cells.{cell, Fits}
use Rattle.fp_unify.specs.Settled.{Determines}
use Rattle.fp_constrain.specs.Draws.{typing}
use Rattle.fp_unify.specs.Nodes.{type_nodes}
use Rattle.fp_unify.specs.Naming.{Pairs, names_of, Agrees, Shows}
use Rattle.fp_unify.specs.Candidates.{with_unwritten}
use Rattle.fp_infer.specs.Built.{Around, domain, built}
use Rattle.fp_infer.specs.Builds.{IsArrow, Builds}
use Rattle.fp_unify.specs.declared.table.Shape.{Shape}
use Rattle.fp_unify.specs.declared.table.Shape.TheVariants.{Open}
use Rattle.fp_unify.proofs.Named.{with_append}

some_nodes : (t : Typ) → 0 < type_nodes t
some_nodes (variable a) = omega arith
some_nodes (applied a ts) = omega arith

pub open_arrow : (cells : List Shape) (at root : ℕ) (r : Shape) (P : Type 0) → Determines cells → IsArrow cells at → r ≡ get_or cells root r → r ≡ Open → root < length cells → ((v : ℕ → Typ) → Fits v cells → v at ≡ v root) → P
open_arrow cells at root r P d a read is inside same =
    let e : cell cells root ≡ Open = sym (get_or_read_under cells root (length cells) r Open read inside refl) ∙ is in
    let f = d.filled (λ i. variable []) in
    let i = a.is f.types f.fit in
    let h = ap type_nodes (sym (same f.types f.fit ∙ f.chosen root e) ∙ i.2) in
    let x = some_nodes i.0 in
    absurd (omega arith)

module _ (g : Declarations) (cells : List Shape) (written : List (List ℕ)) (seen : List ℕ) (around : Around) (n : ℕ) where
  pub builds_of : (raw whole : RawTm) (old new : Pairs) (t : Tm) → raw ≡ whole → Builds g cells written seen around n raw old new t → Builds g cells written seen around n whole old new t
  builds_of raw whole old new t e b = rw (← e) b

  pub builds_app : (f x : RawTm) (p tag : ℕ) (old mid new : Pairs) (s u t : Tm) → Builds g cells written seen around n f old mid s → tag ≡ n + raw_size f → Builds g cells written seen around tag x mid new u → t ≡ tm.app s u → Builds g cells written seen around n (raw_app f x p) old new t
  builds_app f x p tag old mid new s u t bf e bx is =
      let b : Builds g cells written seen around (n + raw_size f) x mid new u = rw e at bx in
      rw is
      (record {
        later = λ v h. bf.later v (b.later v h);
        is = λ v fit h. rw (bf.is v fit (b.later v h), b.is v fit h) refl;
        names = b.names ∙ ap (λ known. with_unwritten written known (type_names_in u)) bf.names ∙ sym (with_append written (names_of old) (type_names_in s) (type_names_in u));
      })

  pub builds_abs : (a : Option (List ℕ)) (w : Option RawTyp) (x : RawTm) (p tag at : ℕ) (old mid new : Pairs) (ty : Typ) (u t : Tm) → tag ≡ n + raw_size x → ((v : ℕ → Typ) → Fits v cells → v at ≡ domain (v (get_or seen tag 0))) → Shows cells written at old mid ty →
      Builds g cells written seen (a ∷ around) n x mid new u → t ≡ tm.abs ty u → Builds g cells written seen around n (raw_abs a w x p) old new t
  builds_abs a w x p tag at old mid new ty u t e from h b is =
      rw is
      (record {
        later = λ v k. h.later v (b.later v k);
        is = λ v fit k. rw (h.is v fit (b.later v k), from v fit, e, b.is v fit k) refl;
        names = b.names ∙ ap (λ known. with_unwritten written known (type_names_in u)) h.names ∙ sym (with_append written (names_of old) (type_names ty) (type_names_in u));
      })
