-- What the program holds of a term whose types are found.
use Rattle.std.specs.Prelude.{◌+◌, ℕ, List, Option, None}
use Rattle.std.specs.Option.{option_copied}
use Rattle.fp_term.specs.Types.{Typ}
use Rattle.fp_term.specs.Terms.{Tm}
use Rattle.fp_raw.specs.Raws.{raw_size}
use Rattle.fp_constrain.specs.Binding.{declared_in}
use Rattle.fp_constrain.specs.Posed.{Poses}
use Rattle.fp_constrain.specs.declared.clash.Question.{Question}
use Rattle.fp_unify.specs.General.{IsBest}
use Rattle.fp_infer.specs.Names.{written_names}
use Rattle.fp_infer.specs.Elaborated.{FirstBeyond, Elaborated, MayClashAt, IsLargeAt, AreRight, IsSound}
use Rattle.fp_infer.specs.declared.elaborating.Types.{Types}
use Rattle.fp_infer.specs.declared.elaborating.Typed.{Typed}
use Rattle.fp_infer.specs.declared.elaborating.Typed.TheVariants.{Found, ClashAt}

pub record AreTypes (q : Question) (types : Types) : Type 0 where
  pub poses : Poses q types.equations.count types.equations.seen.items types.equations.facts.items
  pub best : IsBest (raw_size q.raw.now + 1) types.equations.facts.items types.equations.count types.cells.items

abbrev pub FindsTypes : Question → Typed → Type 0
FindsTypes q (Found types) = AreTypes q types
FindsTypes q (ClashAt at) = MayClashAt q.constants.now.signature.now q.constants.now.exact.now q.given.now (option_copied q.want) q.raw.now at

abbrev pub AreSmall : Types → Type 0
AreSmall types = FirstBeyond types.cells.items types.equations.seen.items 200 None

abbrev pub written_for : Question → List (List ℕ)
written_for q = written_names q.constants.now.exact.now q.given.now (option_copied q.want) q.raw.now

abbrev pub IsTooLargeAt : Question → ℕ → Type 0
IsTooLargeAt q at = IsLargeAt q.constants.now.signature.now (declared_in q.constants.now) q.given.now (option_copied q.want) (written_for q) q.raw.now at

abbrev pub Elaborates : Question → Tm → Type 0
Elaborates q t = Elaborated q.constants.now.signature.now (declared_in q.constants.now) q.given.now (option_copied q.want) (written_for q) q.raw.now t

abbrev pub IsRight : Question → Type 0
IsRight q = AreRight q.constants.now.signature.now (declared_in q.constants.now) q.raw.now

abbrev pub IsSoundFor : Question → Type 0
IsSoundFor q = IsSound q.constants.now.signature.now q.constants.now.exact.now q.given.now
