-- The subterms of a written term, by their numbers in post-order, and its written types.
use Rattle.std.specs.Prelude.{ℕ, ◌+◌, Option, Some, None}
use Rattle.fp_term.specs.Types.{Typ, Typs, variable, applied, none, more}
use Rattle.fp_raw.specs.Raws.{RawTyp, RawTyps, raw_variable, raw_applied, raw_none, raw_more, RawTm, raw_name, raw_bound, raw_free, raw_constant, raw_app, raw_abs, raw_typed, raw_size}

-- a written type without its places
abbrev mutual
  pub plain : RawTyp → Typ
  plain (raw_variable a at) = variable a
  plain (raw_applied a args at) = applied a (all_plain args)

  pub all_plain : RawTyps → Typs
  all_plain raw_none = none
  all_plain (raw_more t ts) = more (plain t) (all_plain ts)

abbrev pub plain_option : Option RawTyp → Option Typ
plain_option None = None
plain_option (Some t) = Some (plain t)

-- the number of the term itself, where its first subterm has the number n
abbrev pub top : ℕ → RawTm → ℕ
top n (raw_name a at) = n
top n (raw_bound k at) = n
top n (raw_free a s at) = n
top n (raw_constant a s at) = n
top n (raw_app f x at) = n + raw_size f + raw_size x
top n (raw_abs a w x at) = n + raw_size x
top n (raw_typed x w at) = n + raw_size x
