-- Disjunctions and negations, and their parts.
use Rattle.std.specs.Prelude.{if◌then◌else◌, Option, Some, None, codes}
use Rattle.fp_term.specs.Terms.{Tm, app, term_eq}
use Rattle.fp_conclude.specs.Logic.{connective, negation_constant}
use Rattle.fp_forms.specs.Forms.{parts_by}

abbrev pub disjunction : Tm → Tm → Tm
disjunction p q = app (app (connective (codes "or")) p) q

abbrev pub disjunction_parts : Tm → Option (Tm × Tm)
disjunction_parts t = parts_by (codes "or") t

abbrev pub negated : Tm → Option Tm
negated (app c p) = if term_eq c negation_constant then Some p else None
negated _ = None
