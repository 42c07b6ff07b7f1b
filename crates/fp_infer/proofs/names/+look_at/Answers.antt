use Rattle.std.proofs.Common.{sym, ap}
use Rattle.fp_constrain.specs.Binding.{declared_in}
use Rattle.fp_infer.specs.Names.{wrong_in_type, wrong_in_option, wrong_in}
use Rattle.fp_infer.proofs.Looked.{looked}
use Rattle.fp_infer.proofs.names.+look_at.Goals as goal

pub returns-in_ok-look_at-in-App-2 : goal.returns-in_ok-look_at-in-App-2
returns-in_ok-look_at-in-App-2 t c =
    let w = wrong_in c.args.search c.args.constants.now.signature.now (declared_in c.args.constants.now) in
    looked _ _ _ (w c.in-App.fun) (w c.in-App.arg) _ c.in_ok-look_at-in-App.ensures c.in_ok-look_at-in-App-2.ensures (sym (ap w (rw c.in-App.is at c.node.ensures)))

pub returns-in_ok-look_at-in-Abs : goal.returns-in_ok-look_at-in-Abs
returns-in_ok-look_at-in-Abs t c =
    let w = wrong_in c.args.search c.args.constants.now.signature.now (declared_in c.args.constants.now) in
    looked _ _ _ (wrong_in_option c.args.search c.args.constants.now.signature.now c.in-Abs.ty) (w c.in-Abs.body) _ c.in_ok-look_at_option-in-Abs.ensures c.in_ok-look_at-in-Abs.ensures (sym (ap w (rw c.in-Abs.is at c.node.ensures)))

pub returns-in_ok-look_at_type-in-Typed : goal.returns-in_ok-look_at_type-in-Typed
returns-in_ok-look_at_type-in-Typed t c =
    let w = wrong_in c.args.search c.args.constants.now.signature.now (declared_in c.args.constants.now) in
    looked _ _ _ (w c.in-Typed.term) (wrong_in_type c.args.search c.args.constants.now.signature.now c.in-Typed.ty) _ c.in_ok-look_at-in-Typed.ensures c.in_ok-look_at_type-in-Typed.ensures (sym (ap w (rw c.in-Typed.is at c.node.ensures)))
