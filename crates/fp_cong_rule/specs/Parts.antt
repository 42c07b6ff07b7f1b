-- Formulas with their premises and quantifiers taken off.
use Rattle.std.specs.Prelude.{if◌then◌else◌, List, [], ◌∷◌, codes}
use Rattle.fp_term.specs.Types.{Typ}
use Rattle.fp_term.specs.Terms.{Tm, app, abs, term_eq}
use Rattle.fp_conclude.specs.Logic.{connective, quantifier}
use Rattle.fp_cong_rule.specs.declared.parts.Premise.{Premise}

-- `p1, .., pn` of `p1 --> .. --> pn --> q`, where `q` is no implication
abbrev pub premises : Tm → List Tm
premises (app (app c p) q) = if term_eq c (connective (codes "imp")) then p ∷ premises q else []
premises _ = []

-- `q` then
abbrev pub consequence : Tm → Tm
consequence (app (app c p) q) = if term_eq c (connective (codes "imp")) then consequence q else app (app c p) q
consequence t = t

-- the types of `x1, .., xn` of `!x1 .. xn. q`, where `q` begins with no such quantifier
abbrev pub domains : Tm → List Typ
domains (app c (abs s p)) = if term_eq c (quantifier (codes "all") s) then s ∷ domains p else []
domains _ = []

-- `q` then, with loose numbers for the variables, the last one being 0
abbrev pub within : Tm → Tm
within (app c (abs s p)) = if term_eq c (quantifier (codes "all") s) then within p else app c (abs s p)
within t = t

-- a premise `!v1 .. vk. G1 --> .. --> Gr --> q` taken apart
abbrev pub parts_of : Tm → Premise
parts_of p = record { vars = domains p; guards = premises (within p); rest = consequence (within p) }
