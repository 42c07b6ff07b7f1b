use Rattle.std.proofs.Common.{ap, refl}
use Rattle.std.specs.Option.{option_copied}
use Rattle.fp_constrain.proofs.Clashing.{wants_none, wants_never, wants_type, wants_at, is_unknown, is_known}
use Rattle.fp_constrain.proofs.clash.draw_want.Goals as goal

pub returns-in-None : goal.returns-in-None
returns-in-None c = wants_at _ _ _ _ _ _ _ _ _ _ _ _ (wants_none c.args.signature.now _ _ _ _ c.requires.about) refl refl refl (ap option_copied c.in-None.is)

pub returns-then-is_some : goal.returns-then-is_some
returns-then-is_some c =
    let a = c.in_ok-add-in-Some.ensures in
    wants_at _ _ _ _ _ _ _ _ _ _ _ _
    (wants_never c.args.signature.now _ _ _ _ _ c.requires.about (is_unknown c.unknown_in_type.result _ _ c.is_some.ensures c.if-is_some.true c.unknown_in_type.ensures.over)) refl a.next a.facts (ap option_copied c.in-Some.is)

pub returns-in_ok-add-in-Some-2 : goal.returns-in_ok-add-in-Some-2
returns-in_ok-add-in-Some-2 c =
    let l = c.in_ok-node-in-Some.ensures in
    let a = c.in_ok-add-in-Some-2.ensures in
    wants_at _ _ _ _ _ _ _ _ _ _ _ _
    (wants_type c.args.signature.now _ _ _ _ _ _ _ _ c.requires.inside (is_known c.unknown_in_type.result _ _ c.is_some.ensures c.if-is_some.false c.unknown_in_type.ensures.over) l.lays) l.step a.next a.facts (ap option_copied c.in-Some.is)
