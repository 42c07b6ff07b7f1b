-- What is given for a term that is known.
use Rattle.std.proofs.Common.{◌≡◌, ◌∙◌, List, [], ◌∷◌, refl, sym, subst}
use Rattle.std.specs.Prelude.{Some, Result, Ok, Err, IfOk}
use Rattle.fp_term.specs.Types.{Typ}
use Rattle.fp_term.specs.Terms.{Tm, app, opened}
use Rattle.fp_term.specs.Typing.{type_under}
use Rattle.fp_term.specs.Signatures.{IsWellTyped}
use Rattle.fp_conclude.specs.Logic.{equal}
use Rattle.fp_kernel.specs.Definitions.{Def}
use Rattle.fp_kernel.specs.Start.{signature_of}
use Rattle.fp_kernel.specs.Theorems.{Theorem, plain}
use Rattle.fp_conclude.specs.Shapes.{body_in, function_in, argument_in, IsRedex}

abbrev pub Reduced : List Def → Tm → Typ → Theorem
Reduced defs t u = plain defs (equal u t (opened 0 (argument_in t) (body_in (function_in t))))

-- what is given for a term of that type
pub at_type : {E : Type 0} (r : Result Theorem E) (t : Tm) (f : Typ → Theorem) (s : Typ) → type_under [] t ≡ Some s →
    IfOk r (λ th. (u : Typ) → type_under [] t ≡ Some u → th ≡ f u) → IfOk r (λ th. th ≡ f s)
at_type (Ok th) t f s is h = h s is
at_type (Err fault) t f s is h = tt

-- what is given for a term that is known
pub at_known : {E : Type 0} (r : Result Theorem E) (f : Tm → Typ → Theorem) (t u : Tm) (s : Typ) → t ≡ u → type_under [] u ≡ Some s →
    IfOk r (λ th. (v : Typ) → type_under [] t ≡ Some v → th ≡ f t v) → IfOk r (λ th. th ≡ f u s)
at_known r f t u s e is h = at_type r u (f u) s is (subst (λ (x : Tm). IfOk r (λ th. (v : Typ) → type_under [] x ≡ Some v → th ≡ f x v)) e h)

pub known_redex : (t u : Tm) → t ≡ u → IsRedex u → IsRedex t
known_redex t u e h = subst IsRedex (sym e) h

pub known_typed : (defs : List Def) (t u : Tm) (s : Typ) → t ≡ u → IsWellTyped (signature_of defs) u s → (r : Typ) × IsWellTyped (signature_of defs) t r
known_typed defs t u s e h = (s, subst (λ (x : Tm). IsWellTyped (signature_of defs) x s) (sym e) h)

pub same_app : (f g x y : Tm) → f ≡ g → x ≡ y → app f x ≡ app g y
same_app f g x y e h = rw (e, h) refl

pub known_at : (th : Theorem) (f : Tm → Typ → Theorem) (t u : Tm) (s : Typ) → t ≡ u → type_under [] u ≡ Some s → ((v : Typ) → type_under [] t ≡ Some v → th ≡ f t v) → th ≡ f u s
known_at th f t u s e is h = subst (λ (x : Tm). (v : Typ) → type_under [] x ≡ Some v → th ≡ f x v) e h s is
