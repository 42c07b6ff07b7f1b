use Rattle.std.proofs.Common.{◌∙◌, sym, ap}
use Rattle.std.specs.Prelude.{Some}
use Rattle.std.specs.List.{slice_get}
use Rattle.std.proofs.lemmas.Option.{slice_get-get_or}
use Rattle.fp_print.proofs.Known.{known_name}
use Rattle.fp_print.proofs.names.BinderNames.made_name.Goals as goal

pub returns-in-Some : goal.returns-in-Some
returns-in-Some c =
    let name = c.in-Some.name.now in
    let found = c.in-Some.ensures.lookup in
    rw (← c.self.view_is)
    (known_name c.self.inside.used c.self.inside.known c.args.depth name c.self.invariant
    (ap (λ xs. slice_get xs c.args.depth) (sym c.as_slice.ensures) ∙ slice_get-get_or c.as_slice.result.now c.args.depth name found.3.0 ∙ ap Some (sym found.1)))
