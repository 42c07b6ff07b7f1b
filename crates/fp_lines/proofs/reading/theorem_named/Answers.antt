use Rattle.std.proofs.Common.{◌∙◌, sym, ap}
use Rattle.std.specs.Option.{option_copied}
use Rattle.fp_lines.proofs.Usable.{numbered_usable}
use Rattle.fp_lines.proofs.reading.theorem_named.Goals as goal

pub returns-in-Some-clause-usable : goal.returns-in-Some-clause-usable
returns-in-Some-clause-usable c = numbered_usable c.args.setting.now.defs.now c.args.setting.now.before.now _ c.in-Some.theorem.now c.requires.lines (sym c.line_numbered.ensures ∙ ap option_copied c.in-Some.is)
