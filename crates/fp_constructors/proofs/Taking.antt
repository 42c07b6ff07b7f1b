-- The arguments of a function's type, one by one, and what holds of all of two lists.
use Rattle.std.proofs.Common.{◌≡◌, ℕ, Bool, true, false, cond, ◌&&◌, List, [], ◌∷◌, ◌++◌, refl, sym, ap}
use Rattle.std.specs.List.{list_all}
use Rattle.std.proofs.lemmas.List.Folds.{list_all-append}
use Rattle.std.specs.Prelude.{Option, Some, None}
use Rattle.std.specs.Str.{bytes_eq}
use Rattle.std.proofs.lemmas.Option.{none-some, same_Some}
use Rattle.fp_term.specs.Names.{function}
use Rattle.fp_term.specs.Types.{Typ, variable, applied, none, more}
use Rattle.fp_pattern.specs.Patterns.{arrow}
use Rattle.fp_constructors.specs.Forms.{arguments}

arrow_chosen : (b : Bool) (from to a z : Typ) → cond {A = Option (Typ × Typ)} b (Some (from, to)) None ≡ Some (a, z) → (b ≡ true) × (from ≡ a) × (to ≡ z)
arrow_chosen true from to a z e = (refl, ap (λ (p : Typ × Typ). p.0) (same_Some _ _ e), ap (λ (p : Typ × Typ). p.1) (same_Some _ _ e))
arrow_chosen false from to a z e = absurd (none-some _ e)

pub arguments_arrow : (t a z : Typ) → arrow t ≡ Some (a, z) → arguments t ≡ a ∷ arguments z
arguments_arrow (variable name) a z e = absurd (none-some _ e)
arguments_arrow (applied name none) a z e = absurd (none-some _ e)
arguments_arrow (applied name (more from none)) a z e = absurd (none-some _ e)
arguments_arrow (applied name (more from (more to none))) a z e =
    let h = arrow_chosen (bytes_eq name function) from to a z e in
    rw (h.0, h.1, h.2) refl
arguments_arrow (applied name (more from (more to (more other rest)))) a z e = absurd (none-some _ e)

none_chosen : (b : Bool) (from to : Typ) → cond {A = Option (Typ × Typ)} b (Some (from, to)) None ≡ None → cond b (from ∷ arguments to) [] ≡ []
none_chosen true from to e = absurd (none-some _ (sym e))
none_chosen false from to e = refl

same_either : (b : Bool) (x : List Typ) → cond b x x ≡ x
same_either true x = refl
same_either false x = refl

pub arguments_none : (t : Typ) → arrow t ≡ None → arguments t ≡ []
arguments_none (variable name) e = refl
arguments_none (applied name none) e = same_either (bytes_eq name function) []
arguments_none (applied name (more from none)) e = same_either (bytes_eq name function) []
arguments_none (applied name (more from (more to none))) e = none_chosen (bytes_eq name function) from to e
arguments_none (applied name (more from (more to (more other rest)))) e = same_either (bytes_eq name function) []

pub all_append : (f : List ℕ → Bool) (xs ys : List (List ℕ)) → list_all f (xs ++ ys) ≡ (list_all f xs && list_all f ys)
all_append f xs ys = list_all-append f xs ys
