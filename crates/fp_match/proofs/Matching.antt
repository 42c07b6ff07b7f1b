-- Matching finds an instance exactly where there is one.
use Rattle.std.proofs.Common.{◌≡◌, ℕ, [], refl, sym, ◌∙◌, ap}
use Rattle.std.specs.Prelude.{Some, None}
use Rattle.std.specs.Bool.{Decides}
use Rattle.std.specs.Str.{bytes_eq}
use Rattle.std.proofs.lemmas.Option.{none-some}
use Rattle.std.proofs.lemmas.Bool.Decides.{Decides-eqb}
use Rattle.std.proofs.lemmas.Slice.Eq.{bytes_eq-Decides}
use Rattle.fp_term.specs.Types.{retyped}
use Rattle.fp_term.specs.Terms.{Tm, bound, free, constant, app, abs, replaced, retyped_term}
use Rattle.fp_term.specs.Typing.{type_under}
use Rattle.fp_match.specs.declared.inst.Inst.{Inst}
use Rattle.fp_match.specs.Instances.{AreTyped, IsInstanceBy, IsTermInstance}
use Rattle.fp_match.specs.Walk.{is_number, retyped_by, matched_term}
use Rattle.fp_match.proofs.Exact.{exact_none, exact_alike, exact_if, exact_known, exact_then}
use Rattle.fp_match.proofs.TermPairs.{InstAgrees, InstStands, ExactInst, nothing, nothing_agrees, nothing_stands, stands_agree, retyped_exact, variable_exact}

is_number-decides : (n : ℕ) (t : Tm) → Decides (is_number n t) (bound n ≡ t)
is_number-decides n (bound m) = let d = Decides-eqb n m in ((λ h. ap bound (d.0 h)), (λ e. let f : n ≡ m = cc in d.1 f))
is_number-decides n _ = ((λ h. cc), (λ e. cc))

-- the instance of the pattern by the types and terms
abbrev pub instance_by : Inst → Tm → Tm
instance_by all pattern = replaced all.terms (retyped_term all.types pattern)

pub matched_exact : (all : Inst) → AreTyped all.terms → (p t : Tm) (i : Inst) → ExactInst all i (instance_by all p ≡ t) (matched_term i p t)
matched_exact all typed (bound n) t i =
    exact_known (InstAgrees all) InstStands i (bound n ≡ t) (bound n ≡ t) (is_number n t) (is_number-decides n t) (λ _ e. e) (λ _ e. e)
matched_exact all typed (free x s) t i = variable_exact all i x s t (type_under [] t) refl typed
matched_exact all typed (constant a s) (constant b u) i =
    exact_alike (InstAgrees all) InstStands i ((a ≡ b) × (retyped all.types s ≡ u)) _ _
    (λ q. cc) (λ e. let f : a ≡ b = cc in let g : retyped all.types s ≡ u = cc in (f, g))
    (exact_if (InstAgrees all) InstStands i (a ≡ b) (retyped all.types s ≡ u) (bytes_eq a b) _ (bytes_eq-Decides a b) (retyped_exact all i s u))
matched_exact all typed (constant a s) _ i = exact_none (InstAgrees all) InstStands i _ (λ _ e. cc)
matched_exact all typed (app f x) (app g y) i =
    exact_alike (InstAgrees all) InstStands i ((instance_by all f ≡ g) × (instance_by all x ≡ y)) _ _
    (λ q. cc) (λ e. let h : instance_by all f ≡ g = cc in let k : instance_by all x ≡ y = cc in (h, k))
    (exact_then (InstAgrees all) InstStands i (instance_by all f ≡ g) (instance_by all x ≡ y) (matched_term i f g) (λ known. matched_term known x y)
    (matched_exact all typed f g i) (λ known. matched_exact all typed x y known))
matched_exact all typed (app f x) _ i = exact_none (InstAgrees all) InstStands i _ (λ _ e. cc)
matched_exact all typed (abs s x) (abs u y) i =
    exact_alike (InstAgrees all) InstStands i ((retyped all.types s ≡ u) × (instance_by all x ≡ y)) _ _
    (λ q. cc) (λ e. let h : retyped all.types s ≡ u = cc in let k : instance_by all x ≡ y = cc in (h, k))
    (exact_then (InstAgrees all) InstStands i (retyped all.types s ≡ u) (instance_by all x ≡ y) (retyped_by i s u) (λ known. matched_term known x y)
    (retyped_exact all i s u) (λ known. matched_exact all typed x y known))
matched_exact all typed (abs s x) _ i = exact_none (InstAgrees all) InstStands i _ (λ _ e. cc)

pub found_stands : (p t : Tm) (new : Inst) → matched_term nothing p t ≡ Some new → InstStands new
found_stands p t new e = (matched_exact nothing tt p t nothing).keeps new e nothing_stands

pub matched_instance : (p t : Tm) (new : Inst) → matched_term nothing p t ≡ Some new → IsInstanceBy new.types new.terms p t
matched_instance p t new e =
    let stands = found_stands p t new e in
    record { fit = stands.typed; equal = ((matched_exact new stands.typed p t nothing).back new e (stands_agree new stands)).1 }

pub unmatched : (p t : Tm) → matched_term nothing p t ≡ None → IsTermInstance p t → ⊥
unmatched p t e h =
    let all : Inst = record { types = h.types; terms = h.terms } in
    let r = (matched_exact all h.by.fit p t nothing).finds (nothing_agrees all) h.by.equal in
    none-some r.0 (sym e ∙ r.1)
