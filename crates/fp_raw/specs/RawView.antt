-- One level of a written term, as the program holds it.
use Rattle.std.specs.Prelude.{ℕ}
use Rattle.fp_raw.specs.Raws.{RawTm, raw_name, raw_bound, raw_free, raw_constant, raw_app, raw_abs, raw_typed}
use Rattle.fp_raw.specs.declared.raw.RawNode.{RawNode}
use Rattle.fp_raw.specs.declared.raw.RawNode.TheVariants.{Name, Bound, Free, Const, App, Abs, Typed}

abbrev pub seen : RawNode → ℕ → RawTm
seen (Name name) at = raw_name name at
seen (Bound n) at = raw_bound n at
seen (Free name ty) at = raw_free name ty at
seen (Const name ty) at = raw_constant name ty at
seen (App f x) at = raw_app f x at
seen (Abs name ty body) at = raw_abs name ty body at
seen (Typed t ty) at = raw_typed t ty at
