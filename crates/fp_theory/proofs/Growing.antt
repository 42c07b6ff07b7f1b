-- Tables of constructors that grow by a type.
use Rattle.std.proofs.Common.{◌≡◌, ◌∙◌, ℕ, zero, suc, ◌+◌, List, [], ◌∷◌, ◌++◌, length, take, refl, sym, ap, arith, length-append, add-zero}
use Rattle.std.proofs.lemmas.List.{append_assoc, append-nil}
use Rattle.std.proofs.Math.Seq.{take-append_seam, take-append-add}
use Rattle.fp_group.specs.declared.constructors.ConType.{ConType}
use Rattle.fp_group.specs.declared.constructors.ConTable.{ConTable}
use Rattle.fp_theory.specs.Tables.{last_types, AreGrowing}

pub last_table : (before : List ConType) (init : List ConTable) (t : ConTable) → last_types before (init ++ t ∷ []) ≡ t.types
last_table before [] t = refl
last_table before (x ∷ init) t = last_table x.types init t

pub table_count : (before : List ConType) (ts : List ConTable) → AreGrowing before ts → length (last_types before ts) ≡ length before + length ts
table_count before [] h = omega arith
table_count before (t ∷ ts) h =
    let one = ap length h.0.1 ∙ length-append before (h.0.0 ∷ []) in
    let rest = table_count t.types ts h.1 in
    omega arith

pub growing_pushed : (before : List ConType) (ts : List ConTable) (t : ConTable) (c : ConType) → AreGrowing before ts → t.types ≡ last_types before ts ++ c ∷ [] → AreGrowing before (ts ++ t ∷ [])
growing_pushed before [] t c h e = ((c, e), tt)
growing_pushed before (x ∷ ts) t c h e = (h.0, growing_pushed x.types ts t c h.1 e)

pub growing_cut : (before : List ConType) (n : ℕ) (ts : List ConTable) → AreGrowing before ts → AreGrowing before (take n ts)
growing_cut before zero ts h = tt
growing_cut before (suc n) [] h = tt
growing_cut before (suc n) (t ∷ ts) h = (h.0, growing_cut t.types n ts h.1)

-- the types of the last table begin with those before
after : (before : List ConType) (ts : List ConTable) → AreGrowing before ts → (more : List ConType) × (last_types before ts ≡ before ++ more)
after before [] h = ([], sym (append-nil before))
after before (t ∷ ts) h =
    let rest = after t.types ts h.1 in
    (h.0.0 ∷ rest.0, rest.1 ∙ ap (λ l. l ++ rest.0) h.0.1 ∙ append_assoc before (h.0.0 ∷ []) rest.0)

pub types_cut : (before : List ConType) (n : ℕ) (ts : List ConTable) → AreGrowing before ts → last_types before (take n ts) ≡ take (length before + n) (last_types before ts)
types_cut before zero ts h = let r = after before ts h in rw (add-zero (length before), r.1) (sym (take-append_seam before r.0))
types_cut before (suc n) [] h = sym (ap (take (length before + suc n)) (sym (append-nil before)) ∙ take-append-add before [] (suc n) ∙ append-nil before)
types_cut before (suc n) (t ∷ ts) h =
    let one : length t.types ≡ length before + 1 = ap length h.0.1 ∙ length-append before (h.0.0 ∷ []) in
    let same : length t.types + n ≡ length before + suc n = omega arith in
    types_cut t.types n ts h.1 ∙ ap (λ k. take k (last_types t.types ts)) same
