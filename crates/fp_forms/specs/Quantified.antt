-- Quantified formulas, and their parts.
use Rattle.std.specs.Prelude.{ℕ, if◌then◌else◌, List, Option, Some, None, codes}
use Rattle.std.specs.Option.{option_and_then}
use Rattle.fp_term.specs.Types.{Typ}
use Rattle.fp_term.specs.Terms.{Tm, constant, app, abs, term_eq}
use Rattle.fp_conclude.specs.Logic.{quantifier}
use Rattle.fp_conclude.specs.Parts.{function_parts}

-- over which type a quantifier of that type speaks
abbrev pub domain : Typ → Option Typ
domain ty = option_and_then (λ p. option_and_then (λ q. Some q.0) (function_parts p.0)) (function_parts ty)

abbrev pub over_domain : List ℕ → Tm → Tm → Option Typ → Option (Typ × Tm)
over_domain name q p None = None
over_domain name q p (Some s) = if term_eq q (quantifier name s) then Some (s, p) else None

-- the type and the predicate, where the quantifier of that name over the type is applied to the predicate
abbrev pub quantified : List ℕ → Tm → Option (Typ × Tm)
quantified name (app (constant a ty) p) = over_domain name (constant a ty) p (domain ty)
quantified name _ = None

-- the type of `v` and the body of `?v. p`
abbrev pub existence_parts : Tm → Option (Typ × Tm)
existence_parts (app c (abs s p)) = if term_eq c (quantifier (codes "ex") s) then Some (s, p) else None
existence_parts _ = None
