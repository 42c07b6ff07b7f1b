-- An equation's sides as arguments, and as functions.
use Rattle.std.proofs.Common.{◌≡◌, ◌∙◌, List, [], refl, ap}
use Rattle.std.specs.Prelude.{Result, Ok, Err, Some, IfOk}
use Rattle.fp_term.specs.Types.{Typ}
use Rattle.fp_term.specs.Terms.{Tm, app}
use Rattle.fp_term.specs.Typing.{type_under, function_type}
use Rattle.fp_term.specs.declared.signature.Signature.{Signature}
use Rattle.fp_conclude.specs.Logic.{equal}
use Rattle.fp_conclude.specs.Hypotheses.{IsSet}
use Rattle.fp_conclude.specs.Checks.{typed_over}
use Rattle.fp_conclude.specs.Outcomes.{Outcome, gives, refused, followed_by}
use Rattle.fp_conclude.specs.Rules.{refl_of, mk_comb_of}
use Rattle.fp_conclude.proofs.Equations.{equal_parts}
use Rattle.fp_conclude.proofs.Sets.{union_nothing}
use Rattle.fp_kernel.specs.Definitions.{Def, Within, whole}
use Rattle.fp_kernel.specs.Start.{signature_of}
use Rattle.fp_kernel.specs.Theorems.{Theorem, ArePromises, stands, from_one, from_both, plain, by_one, by_both}
use Rattle.fp_kernel.proofs.Promised.{promises_alone}
use Rattle.fp_logic.specs.Derived.{ap_of, ap_arg_of}
use Rattle.fp_conclude.specs.Shapes.{side_type, left, right}
use Rattle.fp_conclude.specs.Known.{mk_comb_concl}
use Rattle.fp_logic.proofs.Turning.{alone_after}

-- what is given as the equation of a term with itself
pub own_from : (defs : List Def) (t : Tm) (o : Outcome Typ) (th : Theorem) → stands defs [] [] (followed_by o (λ s. gives (equal s t t))) ≡ gives th → (s : Typ) × (o ≡ gives s) × (th ≡ plain defs (equal s t t))
own_from defs t (gives s) th e = (s, refl, cc)
own_from defs t (refused r) th e = cc

ap_same : (g : Signature) (t c : Tm) (s : Typ) → typed_over g t ≡ gives s → mk_comb_of (equal s t t) c ≡ ap_of g t c
ap_same g t c s e = rw (e, equal_parts s t t) refl

ap_arg_same : (g : Signature) (t c : Tm) (s : Typ) → typed_over g t ≡ gives s → mk_comb_of c (equal s t t) ≡ ap_arg_of g c t
ap_arg_same g t c s e = rw (e, equal_parts s t t) refl

pub ap_is : (defs : List Def) (t : Tm) (own a : Theorem) → stands defs [] [] (refl_of (signature_of defs) t) ≡ gives own → IsSet a.hyps → ArePromises a.promises →
    from_both defs own a (mk_comb_of own.concl a.concl) ≡ from_one defs a a.hyps (ap_of (signature_of defs) t a.concl)
ap_is defs t own a e h k =
    let o = own_from defs t (typed_over (signature_of defs) t) own e in
    rw (o.2, union_nothing a.hyps h, promises_alone a.promises k, ap_same (signature_of defs) t a.concl o.0 o.1) refl

pub ap_arg_is : (defs : List Def) (t : Tm) (own a : Theorem) → stands defs [] [] (refl_of (signature_of defs) t) ≡ gives own →
    from_both defs a own (mk_comb_of a.concl own.concl) ≡ from_one defs a a.hyps (ap_arg_of (signature_of defs) a.concl t)
ap_arg_is defs t own a e =
    let o = own_from defs t (typed_over (signature_of defs) t) own e in
    rw (o.2, ap_arg_same (signature_of defs) t a.concl o.0 o.1) refl

-- the sides exchanged
pub its_right : (p : Tm) (s : Typ) (l r : Tm) → p ≡ equal s l r → p ≡ equal s l (right p)
its_right p s l r e = rw e refl

pub own_within : (defs : List Def) (t : Tm) (own : Theorem) → stands defs [] [] (refl_of (signature_of defs) t) ≡ gives own → Within own.defs defs
own_within defs t own e = let o = own_from defs t (typed_over (signature_of defs) t) own e in rw o.2 whole

-- what `mk_comb` gives of the equation of a function with itself
pub ap_gives : {E : Type 0} (defs : List Def) (a own : Theorem) (t : Tm) (q : Result Theorem E) → ((s : Typ) → type_under [] t ≡ Some s → own ≡ plain defs (equal s t t)) →
    IsSet a.hyps → ArePromises a.promises → IfOk q (λ th. th ≡ by_both defs own a (mk_comb_concl own.concl a.concl)) →
    IfOk q (λ th. (s : Typ) → type_under [] t ≡ Some (function_type (side_type a.concl) s) → th ≡ by_one defs a (equal s (app t (left a.concl)) (app t (right a.concl))))
ap_gives defs a own t (Ok th) o h k e =
    λ s is.
    e
    ∙ ap (λ (x : Theorem). by_both defs x a (mk_comb_concl x.concl a.concl)) (o (function_type (side_type a.concl) s) is)
    ∙ alone_after defs (equal (function_type (side_type a.concl) s) t t) (equal s (app t (left a.concl)) (app t (right a.concl))) a h k
ap_gives defs a own t (Err fault) o h k e = tt
