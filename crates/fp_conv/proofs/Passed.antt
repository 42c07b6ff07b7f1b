-- What the equations of a pass have on the right.
use Rattle.std.proofs.Common.{◌≡◌, ◌∙◌, ℕ, ◌+◌, Bool, true, false, List, [], refl, sym, ap, subst}
use Rattle.std.specs.Prelude.{Result, Ok, Err, IfOk}
use Rattle.fp_term.specs.Types.{Typ}
use Rattle.fp_term.specs.Terms.{Tm, bound, free, constant, app, abs, opened, closed}
use Rattle.fp_kernel.specs.Definitions.{Def}
use Rattle.fp_kernel.specs.Theorems.{Theorem}
use Rattle.fp_conv.specs.Equations.{Equates, right_of}
use Rattle.fp_conv.specs.Beta.{is_redex, is_normal}
use Rattle.fp_conv.specs.Normal.{Reduction}
use Rattle.fp_conv.specs.Passes.{contracted, Passes, settled, at_redex, in_parts, in_body, NormalBy, again, IsFirstUnused, PassedParts}

pub right_is : {defs : List Def} {promises : List (ℕ × Tm)} {hyps : List Tm} {t u : Tm} {th : Theorem} → Equates defs promises hyps t u th → right_of th.concl ≡ u
right_is e = ap (λ (w : Theorem). right_of w.concl) e.is

pub reduct_is : {defs : List Def} {t : Tm} {th : Theorem} (d : Reduction defs t th) → right_of th.concl ≡ d.reduct
reduct_is d = right_is d.equates

-- a normal term stays
pub stays : {E : Type 0} (depth : ℕ) (defs : List Def) (t : Tm) (q : Result Theorem E) → is_normal t ≡ true → IfOk q (Equates defs [] [] t t) → IfOk q (λ th. Passes depth t (right_of th.concl))
stays depth defs t (Ok th) n e = subst (λ (u : Tm). Passes depth t u) (sym (right_is e)) (settled n)
stays depth defs t (Err f) n e = tt

redex_passes : (depth : ℕ) (t : Tm) → is_redex t ≡ true → Passes depth t (contracted t)
redex_passes depth (app (abs s body) arg) e = at_redex s body arg
redex_passes depth (app (bound n) arg) e = cc
redex_passes depth (app (free a s) arg) e = cc
redex_passes depth (app (constant a s) arg) e = cc
redex_passes depth (app (app f x) arg) e = cc
redex_passes depth (bound n) e = cc
redex_passes depth (free a s) e = cc
redex_passes depth (constant a s) e = cc
redex_passes depth (abs s x) e = cc

-- a redex is contracted
pub contracts : {E : Type 0} (depth : ℕ) (t : Tm) (q : Result Theorem E) → is_redex t ≡ true → IfOk q (λ th. right_of th.concl ≡ contracted t) → IfOk q (λ th. Passes depth t (right_of th.concl))
contracts depth t (Ok th) r e = subst (λ (u : Tm). Passes depth t u) (sym e) (redex_passes depth t r)
contracts depth t (Err f) r e = tt

unredexed : (t : Tm) → is_redex t ≡ false → contracted t ≡ t
unredexed (app (abs s body) arg) e = cc
unredexed (app (bound n) arg) e = refl
unredexed (app (free a s) arg) e = refl
unredexed (app (constant a s) arg) e = refl
unredexed (app (app f x) arg) e = refl
unredexed (bound n) e = refl
unredexed (free a s) e = refl
unredexed (constant a s) e = refl
unredexed (abs s x) e = refl

-- what isn't a redex stays so
pub not_contracted : (p r : Tm) (th : Theorem) → p ≡ th.concl → r ≡ right_of p → is_redex r ≡ false → right_of th.concl ≡ contracted (right_of th.concl)
not_contracted p r th p_is r_is e =
    let is : r ≡ right_of th.concl = r_is ∙ ap right_of p_is in
    sym (unredexed (right_of th.concl) (subst (λ (u : Tm). is_redex u ≡ false) is e))

-- the second reduction's right side, of the first one's contracted
pub then_contracted : {E : Type 0} (p r : Tm) (made : Theorem) (next : Theorem) (q : Result Theorem E) → p ≡ made.concl → r ≡ right_of p → right_of next.concl ≡ contracted r →
    IfOk q (λ th. right_of th.concl ≡ right_of next.concl) → IfOk q (λ th. right_of th.concl ≡ contracted (right_of made.concl))
then_contracted p r made next (Ok th) p_is r_is n e = e ∙ n ∙ ap contracted (r_is ∙ ap right_of p_is)
then_contracted p r made next (Err f) p_is r_is n e = tt

-- a pass over the reduction's right side
pub then_passes : {E : Type 0} (p r : Tm) (made next : Theorem) (q : Result Theorem E) → p ≡ made.concl → r ≡ right_of p → Passes 0 r (right_of next.concl) →
    IfOk q (λ th. right_of th.concl ≡ right_of next.concl) → IfOk q (λ th. Passes 0 (right_of made.concl) (right_of th.concl))
then_passes p r made next (Ok th) p_is r_is d e =
    subst (λ (w : Tm). Passes 0 w (right_of th.concl)) (r_is ∙ ap right_of p_is) (subst (λ (w : Tm). Passes 0 r w) (sym e) d)
then_passes p r made next (Err f) p_is r_is d e = tt

-- the parts of an application pass
pub parts_pass : {E : Type 0} (depth : ℕ) (f x : Tm) (a b : Theorem) (q : Result Theorem E) → Passes depth f (right_of a.concl) → Passes depth x (right_of b.concl) →
    IfOk q (λ th. right_of th.concl ≡ app (right_of a.concl) (right_of b.concl)) → IfOk q (λ th. PassedParts depth f x (right_of th.concl))
parts_pass depth f x a b (Ok th) d k e = record { function = right_of a.concl; argument = right_of b.concl; functions = d; arguments = k; is = e }
parts_pass depth f x a b (Err g) d k e = tt

application_passes : (depth : ℕ) (f x u : Tm) → is_normal (app f x) ≡ false → is_redex (app f x) ≡ false → PassedParts depth f x u → Passes depth (app f x) (contracted u)
application_passes depth f x u n r p = subst (λ (w : Tm). Passes depth (app f x) (contracted w)) (sym p.is) (in_parts n r p.functions p.arguments)

-- and then the application
pub whole_passes : {E : Type 0} (depth : ℕ) (t f x : Tm) (made : Theorem) (q : Result Theorem E) → t ≡ app f x → is_normal t ≡ false → is_redex t ≡ false →
    PassedParts depth f x (right_of made.concl) → IfOk q (λ th. right_of th.concl ≡ contracted (right_of made.concl)) → IfOk q (λ th. Passes depth t (right_of th.concl))
whole_passes depth t f x made (Ok th) is n r p e =
    subst (λ (w : Tm). Passes depth w (right_of th.concl)) (sym is)
    (subst (λ (w : Tm). Passes depth (app f x) w) (sym e)
    (application_passes depth f x (right_of made.concl) (subst (λ (w : Tm). is_normal w ≡ false) is n) (subst (λ (w : Tm). is_redex w ≡ false) is r) p))
whole_passes depth t f x made (Err g) is n r p e = tt

-- the body of an abstraction passes, opened by the first unused name
pub body_passes : {E : Type 0} (depth next : ℕ) (s : Typ) (body o : Tm) (name : List ℕ) (inner : Theorem) (q : Result Theorem E) → next ≡ depth + 1 → IsFirstUnused depth s body name →
    o ≡ opened 0 (free name s) body → is_normal body ≡ false → Passes next o (right_of inner.concl) →
    IfOk q (λ th. right_of th.concl ≡ abs s (closed 0 name s (right_of inner.concl))) → IfOk q (λ th. Passes depth (abs s body) (right_of th.concl))
body_passes depth next s body o name inner (Ok th) next_is first is n d e =
    let at_opened = subst (λ (w : Tm). Passes (depth + 1) w (right_of inner.concl)) is (subst (λ (k : ℕ). Passes k o (right_of inner.concl)) next_is d) in
    subst (λ (w : Tm). Passes depth (abs s body) w) (sym e) (in_body s name n first at_opened)
body_passes depth next s body o name inner (Err f) next_is first is n d e = tt

pub body_unreduced : (t : Tm) (s : Typ) (body : Tm) → t ≡ abs s body → is_normal t ≡ false → is_normal body ≡ false
body_unreduced t s body is n = subst (λ (w : Tm). is_normal w ≡ false) is n

pub same_passes : {E : Type 0} (depth : ℕ) (t u : Tm) (q : Result Theorem E) → t ≡ u → IfOk q (λ th. Passes depth u (right_of th.concl)) → IfOk q (λ th. Passes depth t (right_of th.concl))
same_passes depth t u (Ok th) is e = subst (λ (w : Tm). Passes depth w (right_of th.concl)) (sym is) e
same_passes depth t u (Err f) is e = tt

-- passes to the normal form
normal_after : (t u v : Tm) (b : Bool) → is_normal t ≡ b → Passes 0 t u → NormalBy u v → NormalBy t v
normal_after t u v false n d k = again n d k
normal_after t u v true n (settled e) k = k
normal_after _ u v true n (at_redex s body arg) k = cc
normal_after _ u v true n (in_parts e a d l) k = cc
normal_after _ u v true n (in_body s name e m d) k = cc

pub after_pass : {t u v : Tm} → Passes 0 t u → NormalBy u v → NormalBy t v
after_pass {t} {u} {v} d k = normal_after t u v (is_normal t) refl d k
