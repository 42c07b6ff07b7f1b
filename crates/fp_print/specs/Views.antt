-- The data that values of the program stand for.
use Rattle.fp_print.specs.declared.form.Binder.{Binder as HeldBinder}
use Rattle.fp_print.specs.declared.form.Binder.TheVariants.{Lambda, Universal, Existential, Choice}
use Rattle.fp_print.specs.declared.form.Form.{Form}
use Rattle.fp_print.specs.declared.form.Form.TheVariants.{Named, Numbered, Bound, Joined, Negated, Chosen, Paired, Applied}
use Rattle.fp_print.specs.declared.symbol.Infix.{Infix as HeldInfix}
use Rattle.fp_print.specs.declared.text.Place.{Place as HeldPlace}
use Rattle.fp_print.specs.declared.text.Place.TheVariants.{Alone, AfterBinder, Second}
use Rattle.fp_print.specs.Shapes.{Infix, Binder, lambda, universal, existential, choice, Shape, named, numbered, bound_by, joined_by, negated, chosen, paired, applied_to, shape}
use Rattle.fp_print.specs.Texts.{Place, alone, after_binder, second}

abbrev pub seen_infix : HeldInfix → Infix
seen_infix i = record { symbol = i.symbol.now; level = i.level; left = i.left; right = i.right }

abbrev pub seen_binder : HeldBinder → Binder
seen_binder Lambda = lambda
seen_binder Universal = universal
seen_binder Existential = existential
seen_binder Choice = choice

abbrev pub seen_form : Form → Shape
seen_form (Named name) = named name.now
seen_form (Numbered n) = numbered n
seen_form (Bound binder x) = bound_by (seen_binder binder) (shape x.now)
seen_form (Joined symbol x y) = joined_by (seen_infix symbol) (shape x.now) (shape y.now)
seen_form (Negated x) = negated (shape x.now)
seen_form (Chosen x y z) = chosen (shape x.now) (shape y.now) (shape z.now)
seen_form (Paired x y) = paired (shape x.now) (shape y.now)
seen_form (Applied f x) = applied_to (shape f.now) (shape x.now)

abbrev pub seen_place : HeldPlace → Place
seen_place Alone = alone
seen_place (AfterBinder binder) = after_binder (seen_binder binder)
seen_place Second = second
