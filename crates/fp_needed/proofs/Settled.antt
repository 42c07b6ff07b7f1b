-- Cells settled one after another are those that are needed.
use Rattle.std.proofs.Common.{◌≡◌, ◌<◌, ℕ, zero, suc, List, [], ◌∷◌, length, get_or, set, refl, arith, inl, inr, sym, ◌∙◌, subst, replicate, Option, Some, None}
use Rattle.std.proofs.lemmas.Bool.{cases_eq}
use Rattle.std.proofs.lemmas.List.{get_or-set_other, get_or-set_same, length-set, length-replicate}
use Rattle.fp_order.specs.declared.entry.Entry.{Entry}
use Rattle.fp_order.specs.declared.entry.Entry.TheVariants.{Unknown}
use Rattle.fp_order.specs.declared.grid.Grid.{Grid}
use Rattle.fp_order.specs.Grid.{cells_of}
use Rattle.fp_rewriting.specs.declared.rule.Rule.{Rule}
use Rattle.fp_shown.specs.Fillings.{IsFilling}
use Rattle.fp_shown.specs.Need.{learned, IsNextNeeded, IsNeededAfter, nothing_known, known_after}
use Rattle.fp_simp.specs.declared.cell.CellData.{CellData}
use Rattle.fp_needed.specs.Needed.{IsVerdictAt, IsMatrixOf, AllKnownOrShown, Settles, done, more, IsOnTheWay, IsNeeded, NeededIsNeed}

pub way_start : (g : Grid) (rules : List Rule) (cells : List CellData) (known : List (Option Entry)) → known ≡ nothing_known g → IsOnTheWay g rules cells known
way_start g rules cells known none = record { back = λ order last s. (order, subst (λ (x : List (Option Entry)). Settles g rules cells x order last) none s) }

pub way_step : (g : Grid) (rules : List Rule) (cells : List CellData) (known : List (Option Entry)) (k : ℕ) (v : Entry) → IsOnTheWay g rules cells known → IsNextNeeded g known k → IsVerdictAt rules cells k v →
    IsOnTheWay g rules cells (set known k (Some v))
way_step g rules cells known k v way next is = record { back = λ order last s. way.back (k ∷ order) last (more known k v order last next is s) }

pub way_end : (g : Grid) (rules : List Rule) (cells : List CellData) (known : List (Option Entry)) → IsOnTheWay g rules cells known → length known ≡ length (cells_of g) → AllKnownOrShown g known →
    IsNeeded g rules cells known
way_end g rules cells known way len all = let s = way.back [] known (done known all) in record { len = len; order = s.0; settled = s.1 }

-- the full matrix agrees with more
filling_step : (known : List (Option Entry)) (full : List Entry) (k : ℕ) → k < length known → IsFilling known full → IsFilling (learned full known k) full
filling_step known full k l f = record {
  len = f.len ∙ sym (length-set known k (Some (get_or full k Unknown)));
  agrees = λ j v h. elim (cases_eq j k) [
    | inl s ↦
        let e : get_or (set known k (Some (get_or full k Unknown))) k None ≡ Some (get_or full k Unknown) = get_or-set_same known k (Some (get_or full k Unknown)) None l in
        let t : Some (get_or full k Unknown) ≡ Some v = sym e ∙ (rw s at h) in
        rw s (let u = t in cc)
    | inr off ↦ f.agrees j v (sym (get_or-set_other known k j (Some (get_or full k Unknown)) None off) ∙ h)
  ];
}

record Follows (g : Grid) (full : List Entry) (first : List (Option Entry)) (order : List ℕ) (last : List (Option Entry)) : Type 0 where
  pub need : IsNeededAfter g full first order
  pub last_is : last ≡ known_after full first order
  pub closed : AllKnownOrShown g last
  pub filling : IsFilling last full

follows : (g : Grid) (rules : List Rule) (cells : List CellData) (full : List Entry) → IsMatrixOf g rules cells full → (first : List (Option Entry)) (order : List ℕ) (last : List (Option Entry)) → IsFilling first full →
    Settles g rules cells first order last → Follows g full first order last
follows g rules cells full m first order last f (done known all) = record { need = all; last_is = refl; closed = all; filling = f }
follows g rules cells full m first order last f (more known k v rest end next is s) =
    let e : v ≡ get_or full k Unknown = m.each k v is in
    let F : Entry → Type 0 = λ x. IsFilling (set known k (Some x)) full in
    let N : Entry → Type 0 = λ x. IsNeededAfter g full (set known k (Some x)) rest in
    let L : Entry → Type 0 = λ x. end ≡ known_after full (set known k (Some x)) rest in
    let l : k < length known = omega (arith, next.inside, m.len, f.len) in
    let t = follows g rules cells full m (set known k (Some v)) rest end (subst F (sym e) (filling_step known full k l f)) s in
    record { need = (next, subst N e t.need); last_is = subst L e t.last_is; closed = t.closed; filling = t.filling }

none_at : (n k : ℕ) → get_or (replicate n (let none : Option Entry = None in none)) k None ≡ None
none_at zero k = refl
none_at (suc n) zero = refl
none_at (suc n) (suc k) = none_at n k

nothing_filled : (g : Grid) (full : List Entry) → length full ≡ length (cells_of g) → IsFilling (nothing_known g) full
nothing_filled g full len = record {
  len = len ∙ sym (length-replicate (length (cells_of g)) None);
  agrees = λ k v h. absurd (let z = sym (none_at (length (cells_of g)) k) ∙ h in cc);
}

pub needed_need : (g : Grid) (rules : List Rule) (cells : List CellData) → NeededIsNeed g rules cells
needed_need g rules cells known n full m =
    let t = follows g rules cells full m (nothing_known g) n.order known (nothing_filled g full m.len) n.settled in
    record { order = n.order; need = t.need; known_is = t.last_is; closed = t.closed; filling = t.filling }
