-- What a pass makes of a term.
use Rattle.std.proofs.Common.{◌≡◌, ℕ, ◌+◌, true, false, List, sym, subst}
use Rattle.std.specs.Prelude.{Result, Ok, Err, IfOk}
use Rattle.fp_term.specs.Types.{Typ}
use Rattle.fp_term.specs.Terms.{Tm, bound, free, constant, app, abs, opened, closed}
use Rattle.fp_conv.specs.Beta.{is_redex, is_normal}
use Rattle.fp_conv.specs.Passes.{contracted, Passes, settled, at_redex, in_parts, in_body, NormalBy, again, IsFirstUnused}

-- a normal term stays
pub stays : {E : Type 0} (depth : ℕ) (t : Tm) (q : Result Tm E) → is_normal t ≡ true → IfOk q (λ u. u ≡ t) → IfOk q (Passes depth t)
stays depth t (Ok u) n e = subst (λ (w : Tm). Passes depth t w) (sym e) (settled n)
stays depth t (Err f) n e = tt

at_root : (depth : ℕ) (t : Tm) → is_redex t ≡ true → Passes depth t (contracted t)
at_root depth (app (abs s body) arg) e = at_redex s body arg
at_root depth (app (bound n) arg) e = cc
at_root depth (app (free a s) arg) e = cc
at_root depth (app (constant a s) arg) e = cc
at_root depth (app (app f x) arg) e = cc
at_root depth (bound n) e = cc
at_root depth (free a s) e = cc
at_root depth (constant a s) e = cc
at_root depth (abs s x) e = cc

-- a redex is contracted
pub redex_passes : {E : Type 0} (depth : ℕ) (t : Tm) (q : Result Tm E) → is_redex t ≡ true → IfOk q (λ u. u ≡ contracted t) → IfOk q (Passes depth t)
redex_passes depth t (Ok u) r e = subst (λ (w : Tm). Passes depth t w) (sym e) (at_root depth t r)
redex_passes depth t (Err f) r e = tt

-- the parts of an application pass, and then it
pub parts_pass : {E : Type 0} (depth : ℕ) (f x g y : Tm) (q : Result Tm E) → is_normal (app f x) ≡ false → is_redex (app f x) ≡ false → Passes depth f g → Passes depth x y →
    IfOk q (λ u. u ≡ contracted (app g y)) → IfOk q (Passes depth (app f x))
parts_pass depth f x g y (Ok u) n r d k e = subst (λ (w : Tm). Passes depth (app f x) w) (sym e) (in_parts n r d k)
parts_pass depth f x g y (Err h) n r d k e = tt

-- the body of an abstraction passes, opened by the first unused name
pub body_passes : {E : Type 0} (depth deeper : ℕ) (s : Typ) (body o u : Tm) (name : List ℕ) (c : Tm) (v : Typ) (q : Result Tm E) → deeper ≡ depth + 1 → IsFirstUnused depth s body name →
    o ≡ opened 0 (free name s) body → is_normal body ≡ false → Passes deeper o u → c ≡ closed 0 name s u → v ≡ s → IfOk q (λ w. w ≡ abs v c) → IfOk q (Passes depth (abs s body))
body_passes depth deeper s body o u name c v (Ok w) deeper_is first is n d c_is v_is e =
    let at_opened = subst (λ (x : Tm). Passes (depth + 1) x u) is (subst (λ (k : ℕ). Passes k o u) deeper_is d) in
    rw (e, v_is, c_is) (in_body s name n first at_opened)
body_passes depth deeper s body o u name c v (Err f) deeper_is first is n d c_is v_is e = tt

pub same_passes : {E : Type 0} (depth : ℕ) (t u : Tm) (q : Result Tm E) → t ≡ u → IfOk q (Passes depth u) → IfOk q (Passes depth t)
same_passes depth t u (Ok w) is e = subst (λ (x : Tm). Passes depth x w) (sym is) e
same_passes depth t u (Err f) is e = tt

-- one more pass before the normal form
pub after_pass : (t u v w : Tm) → is_normal u ≡ false → Passes 0 u v → ((x : Tm) → NormalBy u x → NormalBy t x) → NormalBy v w → NormalBy t w
after_pass t u v w n d k l = k w (again n d l)
