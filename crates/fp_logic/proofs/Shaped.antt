-- A premise that a form accepts has the form's shape.
use Rattle.std.proofs.Common.{◌≡◌, ◌∙◌, ℕ, List, [], refl, sym, ap, subst}
use Rattle.std.specs.Prelude.{Some, codes}
use Rattle.std.proofs.lemmas.Option.{none-some, same_Some}
use Rattle.fp_term.specs.Types.{type_eq}
use Rattle.fp_term.specs.Terms.{Tm, app, term_eq}
use Rattle.fp_term.specs.Typing.{type_under, function_type}
use Rattle.fp_term.proofs.Typed.{app_parts, same_function}
use Rattle.fp_term.proofs.Choices.{chosen}
use Rattle.fp_term.proofs.Equal.{type_eq-decides, term_eq-decides}
use Rattle.fp_conclude.specs.Logic.{truth_type, predicate_type, binary_type, equal, true_constant, connective, implication}
use Rattle.fp_conclude.specs.Parts.{equation}
use Rattle.fp_conclude.specs.Outcomes.{gives, not_equation, not_bool, shape, differ}
use Rattle.fp_conclude.proofs.Equations.{equation_shape}
use Rattle.fp_conclude.proofs.Outcomes.{part_gives, followed_gives, gives_where}
use Rattle.fp_conclude.specs.Checks.{typed_over}
use Rattle.fp_conclude.specs.Rules.{assume_of}
use Rattle.fp_conclude.proofs.Checked.{well_typed}
use Rattle.fp_kernel.specs.Definitions.{Def, Within}
use Rattle.fp_kernel.specs.Start.{signature_of}
use Rattle.fp_kernel.specs.Derivability.{IsFormula}
use Rattle.fp_kernel.specs.Theorems.{Theorem, IsTheorem}
use Rattle.fp_forms.specs.Forms.{parts_by, implication_parts}
use Rattle.fp_logic.specs.Derived.{untrue, eqt_elim_of, mp_of}
use Rattle.fp_logic.specs.Steps.{IsJoined}
use Rattle.fp_logic.proofs.Turning.{lifted, lifted_sides}

pub untrue_shape : (defs : List Def) (th : Theorem) (c : Tm) → Within th.defs defs → IsTheorem th → eqt_elim_of th.concl ≡ gives c → th.concl ≡ equal truth_type c true_constant
untrue_shape defs th c w d e =
    let a = part_gives not_equation (equation th.concl) untrue c e in
    let x = a.0 in
    let k = gives_where (term_eq x.2 true_constant) x.1 (differ x.2 true_constant) c a.2 in
    let is = equation_shape th.concl x a.1 in
    let h = lifted_sides defs th x.0 x.1 x.2 w d is in
    let same = (term_eq-decides x.2 true_constant).0 k.0 in
    let type : x.0 ≡ truth_type = same_Some x.0 truth_type (sym h.right.typed ∙ ap (type_under []) same) in
    is ∙ (rw (type, same, k.1) refl)

-- what has parts is made of them
abbrev Two : Type 0
Two = Tm × Tm

pub parts_shape : (name : List ℕ) (t : Tm) (p : Two) → parts_by name t ≡ Some p → t ≡ app (app (connective name) p.0) p.1
parts_shape name (app (app c l) r) p e =
    chosen (term_eq c (connective name)) _ _ _ (app (app c l) r ≡ app (app (connective name) p.0) p.1)
    (λ is f. let same = same_Some {A = Two} (l, r) p f in
    rw ((term_eq-decides c (connective name)).0 is, ← ap (λ (q : Two). q.0) same, ← ap (λ (q : Two). q.1) same) refl)
    (λ _ f. absurd (none-some p f)) e
parts_shape name _ p e = absurd (none-some p e)

pub mp_shape : (t b c : Tm) → mp_of t b ≡ gives c → t ≡ implication b c
mp_shape t b c e =
    let a = part_gives shape (implication_parts t) _ c e in
    let k = gives_where (term_eq a.0.0 b) a.0.1 (differ a.0.0 b) c a.2 in
    parts_shape (codes "imp") t a.0 a.1 ∙ (rw ((term_eq-decides a.0.0 b).0 k.0, k.1) refl)

-- the parts of a theorem of a connective are formulas
joined_formulas : (defs : List Def) (name : List ℕ) (l r : Tm) → IsFormula (signature_of defs) (app (app (connective name) l) r) → IsFormula (signature_of defs) l × IsFormula (signature_of defs) r
joined_formulas defs name l r h =
    let c = connective name in
    let p = app_parts [] (app c l) r truth_type h.typed in
    let q = app_parts [] c l (function_type p.0 truth_type) p.1 in
    let outer = same_function truth_type (predicate_type truth_type) q.0 (function_type p.0 truth_type) (same_Some (binary_type truth_type truth_type) (function_type q.0 (function_type p.0 truth_type)) q.1) in
    let inner = same_function truth_type truth_type p.0 truth_type outer.1 in
    (record { typed = q.2 ∙ ap Some (sym outer.0); over = h.over.0.1 }, record { typed = p.2 ∙ ap Some (sym inner.0); over = h.over.1 })

pub joined : (name : List ℕ) (defs : List Def) (a : Theorem) (l r : Tm) → Within a.defs defs → IsTheorem a → a.concl ≡ app (app (connective name) l) r → IsJoined name defs a l r
joined name defs a l r w d e =
    let h = joined_formulas defs name l r (subst (IsFormula (signature_of defs)) e (lifted defs a w d)) in
    (w, e, h.0, h.1)

pub joined_parts : (name : List ℕ) (defs : List Def) (a : Theorem) (p : Two) → Within a.defs defs → IsTheorem a → parts_by name a.concl ≡ Some p → IsJoined name defs a p.0 p.1
joined_parts name defs a p w d e = joined name defs a p.0 p.1 w d (parts_shape name a.concl p e)

-- what is assumed is the formula itself
pub assumed_formula : (defs : List Def) (t u : Tm) → assume_of (signature_of defs) t ≡ gives u → (t ≡ u) × IsFormula (signature_of defs) u
assumed_formula defs t u e =
    let a = followed_gives (typed_over (signature_of defs) t) _ u e in
    let k = gives_where (type_eq a.0 truth_type) t not_bool u a.2 in
    let same = (type_eq-decides a.0 truth_type).0 k.0 in
    let h = well_typed (signature_of defs) t a.0 a.1 in
    (k.1, subst (IsFormula (signature_of defs)) k.1 (record { typed = h.typed ∙ ap Some same; over = h.over }))
