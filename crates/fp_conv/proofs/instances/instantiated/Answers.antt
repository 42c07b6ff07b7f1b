use Rattle.fp_conv.proofs.Instanced.{typed_given, typed_within, put_given, put_equates}
use Rattle.fp_conv.proofs.instances.instantiated.Goals as goal

pub inst_ty_known-requires-clause-given : goal.inst_ty_known-requires-clause-given
inst_ty_known-requires-clause-given c =
    let e = c.args.sides.now in
    let i = c.args.found.now in
    rw c.as_slice.ensures
    (typed_given c.args.defs.now c.args.eq.now e.ty.now e.left.now e.right.now c.requires.within c.concl.ensures.derived c.requires.equation c.hyps.ensures.set i.types i.terms c.args.term.now c.requires.allowed c.requires.first c.requires.typed)

pub inst_known-requires-clause-within : goal.inst_known-requires-clause-within
inst_known-requires-clause-within c =
    let e = c.args.sides.now in
    let i = c.args.found.now in
    typed_within c.args.defs.now c.args.eq.now e.ty.now e.left.now e.right.now c.requires.within c.concl.ensures.derived c.requires.equation c.hyps.ensures.set i.types i.terms c.args.term.now c.requires.allowed c.requires.first c.requires.typed
    c.in_ok-typed.typed (rw c.as_slice.ensures at c.in_ok-typed.ensures)

pub inst_known-requires-clause-given : goal.inst_known-requires-clause-given
inst_known-requires-clause-given c =
    let e = c.args.sides.now in
    let i = c.args.found.now in
    rw c.as_slice-2.ensures
    (put_given c.args.defs.now c.args.eq.now e.ty.now e.left.now e.right.now c.requires.within c.concl.ensures.derived c.requires.equation c.hyps.ensures.set i.types i.terms c.args.term.now c.requires.allowed c.requires.first c.requires.typed
    c.in_ok-typed.typed (rw c.as_slice.ensures at c.in_ok-typed.ensures))

pub returns : goal.returns
returns c =
    let e = c.args.sides.now in
    let i = c.args.found.now in
    put_equates c.args.defs.now c.args.eq.now e.ty.now e.left.now e.right.now c.requires.within c.concl.ensures.derived c.requires.equation c.hyps.ensures.set i.types i.terms c.args.term.now c.requires.allowed c.requires.first c.requires.typed
    c.in_ok-typed.typed (rw c.as_slice.ensures at c.in_ok-typed.ensures) c.inst_known.result (rw c.as_slice-2.ensures at c.inst_known.ensures)
