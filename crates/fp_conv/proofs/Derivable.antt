-- A term is derivably equal to whatever it reduces to: a body may be opened only by a variable that isn't free in it.
use Rattle.std.proofs.Common.{ℕ, List, [], refl}
use Rattle.fp_term.specs.Types.{Typ}
use Rattle.fp_term.specs.Terms.{Tm, free, opened}
use Rattle.fp_term.specs.Typing.{function_type}
use Rattle.fp_term.specs.Signatures.{IsOver, IsWellTyped}
use Rattle.fp_term.specs.declared.signature.Signature.{Signature}
use Rattle.fp_term.proofs.Typed.{app_parts, abs_parts, opened_typed, opened_over, closed_over}
use Rattle.fp_conclude.specs.Logic.{equal}
use Rattle.fp_kernel.specs.Definitions.{Def}
use Rattle.fp_kernel.specs.Start.{signature_of}
use Rattle.fp_kernel.specs.Derivability.{Derives, refl as by_refl, trans as by_trans, mk_comb as by_mk_comb, lam as by_lam, beta as by_beta}
use Rattle.fp_conv.specs.Beta.{Contracts, here, in_function, in_argument, in_body, Reduces, none, first}
use Rattle.fp_conv.proofs.Opening.{closed_opened}
use Rattle.fp_conv.proofs.Reducing.{contracts_typed}

contracts_over : {t u : Tm} (g : Signature) → Contracts t u → IsOver g t → IsOver g u
contracts_over g (here s body arg) o = opened_over g arg o.1 0 body o.0.1
contracts_over g (in_function x c) o = (contracts_over g c o.0, o.1)
contracts_over g (in_argument f c) o = (o.0, contracts_over g c o.1)
contracts_over g (in_body {body = body} {u = u} s name apart c) o = (o.0, closed_over g name s 0 u (contracts_over g c (opened_over g (free name s) o.0 0 body o.1)))

pub contracts_equal : {defs : List Def} {promises : List (ℕ × Tm)} {t u : Tm} (s : Typ) → Contracts t u → IsWellTyped (signature_of defs) t s → Derives defs promises [] (equal s t u)
contracts_equal s (here v body arg) h = by_beta s v body arg h
contracts_equal s (in_function {f = f} {g = g} x c) h =
    let p = app_parts [] f x s h.typed in
    by_mk_comb (contracts_equal (function_type p.0 s) c (record { typed = p.1; over = h.over.0 })) (by_refl p.0 x (record { typed = p.2; over = h.over.1 }))
contracts_equal s (in_argument {x = x} {y = y} f c) h =
    let p = app_parts [] f x s h.typed in
    by_mk_comb (by_refl (function_type p.0 s) f (record { typed = p.1; over = h.over.0 })) (contracts_equal p.0 c (record { typed = p.2; over = h.over.1 }))
contracts_equal {defs} {promises} s (in_body {body = body} {u = u} v name apart c) h =
    let p = abs_parts [] v body s h.typed in
    let inner : IsWellTyped (signature_of defs) (opened 0 (free name v) body) p.0 = record {
      typed = opened_typed (free name v) v refl [] 0 body p.0 refl p.1;
      over = opened_over (signature_of defs) (free name v) h.over.0 0 body h.over.1;
    } in
    let d : Derives defs promises [] (equal p.0 (opened 0 (free name v) body) u) = contracts_equal p.0 c inner in
    let back = closed_opened name v 0 body apart in
    rw (← p.2) (rw back at (by_lam name v h.over.0 refl d))

-- what a term reduces to
pub reduces_equal : {defs : List Def} {promises : List (ℕ × Tm)} {t u : Tm} (s : Typ) → Reduces t u → IsWellTyped (signature_of defs) t s → Derives defs promises [] (equal s t u)
reduces_equal s (none {t = t}) h = by_refl s t h
reduces_equal {defs} s (first c d) h =
    by_trans (contracts_equal s c h) (reduces_equal s d (record { typed = contracts_typed s c h.typed; over = contracts_over (signature_of defs) c h.over }))
