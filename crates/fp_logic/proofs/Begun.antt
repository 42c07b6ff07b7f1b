-- Each list of definitions grew from none, and instances of theorems without hypotheses have none.
use Rattle.std.proofs.Common.{◌≡◌, ◌∙◌, ℕ, List, [], ◌∷◌, refl, sym, subst}
use Rattle.std.specs.Prelude.{Result, Ok, Err, IfOk}
use Rattle.fp_term.specs.Types.{Typ}
use Rattle.fp_term.specs.Terms.{Tm, replaced, retyped_term}
use Rattle.fp_kernel.specs.Definitions.{Def, Within, whole, newer}
use Rattle.fp_kernel.specs.Theorems.{Theorem, plain}
use Rattle.fp_kernel.specs.Known.{instance, type_instance}

pub from_nothing : (defs : List Def) → Within [] defs
from_nothing [] = whole
from_nothing (d ∷ defs) = newer d (from_nothing defs)

instance_is : (defs : List Def) {old : List Def} (th : Theorem) (pairs : List (List ℕ × Typ × Tm)) → th ≡ plain old th.concl → instance defs pairs th ≡ plain defs (replaced pairs th.concl)
instance_is defs th pairs e = subst (λ (x : Theorem). instance defs pairs x ≡ plain defs (replaced pairs x.concl)) (sym e) refl

pub instance_plain : {E : Type 0} (defs : List Def) {old : List Def} (th : Theorem) (pairs : List (List ℕ × Typ × Tm)) (q : Result Theorem E) → th ≡ plain old th.concl →
    IfOk q (λ i. i ≡ instance defs pairs th) → IfOk q (λ i. i ≡ plain defs (replaced pairs th.concl))
instance_plain defs th pairs (Ok i) e h = h ∙ instance_is defs th pairs e
instance_plain defs th pairs (Err f) e h = tt

type_instance_is : (defs : List Def) {old : List Def} (th : Theorem) (pairs : List (List ℕ × Typ)) → th ≡ plain old th.concl → type_instance defs pairs th ≡ plain defs (retyped_term pairs th.concl)
type_instance_is defs th pairs e = subst (λ (x : Theorem). type_instance defs pairs x ≡ plain defs (retyped_term pairs x.concl)) (sym e) refl

pub type_instance_plain : {E : Type 0} (defs : List Def) {old : List Def} (th : Theorem) (pairs : List (List ℕ × Typ)) (q : Result Theorem E) → th ≡ plain old th.concl →
    IfOk q (λ i. i ≡ type_instance defs pairs th) → IfOk q (λ i. i ≡ plain defs (retyped_term pairs th.concl))
type_instance_plain defs th pairs (Ok i) e h = h ∙ type_instance_is defs th pairs e
type_instance_plain defs th pairs (Err f) e h = tt
