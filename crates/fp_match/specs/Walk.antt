-- What a walk over a pattern and a term, from the left, adds to what is known of an instance.
use Rattle.std.specs.Prelude.{ℕ, Bool, false, ◌==◌, if◌then◌else◌, List, [], ◌∷◌, ◌++◌, Option, Some, None}
use Rattle.std.specs.Option.{option_and_then, option_map}
use Rattle.std.specs.Str.{bytes_eq}
use Rattle.fp_term.specs.Types.{Typ, found_type, bound_to, matched}
use Rattle.fp_term.specs.Terms.{Tm, bound, free, constant, app, abs, term_eq, found}
use Rattle.fp_term.specs.Typing.{type_under}
use Rattle.fp_match.specs.declared.inst.Inst.{Inst}

-- the pairs with each of the new ones, where none of theirs differs
abbrev pub put_types : List (List ℕ × Typ) → List (List ℕ × Typ) → Option (List (List ℕ × Typ))
put_types pairs [] = Some pairs
put_types pairs (new ∷ rest) = option_and_then (λ known. put_types known rest) (bound_to (found_type new.0 pairs) new.0 new.1 pairs)

-- the pairs with those that make the type pattern equal to the type
abbrev pub matched_type : List (List ℕ × Typ) → Typ → Typ → Option (List (List ℕ × Typ))
matched_type pairs pattern t = option_and_then (put_types pairs) (matched [] pattern t)

-- the instance with the types that make the type pattern equal to the type
abbrev pub retyped_by : Inst → Typ → Typ → Option Inst
retyped_by i pattern t = option_map (λ types. record { types = types; terms = i.terms }) (matched_type i.types pattern t)

-- the instance with a pair for the variable, where it has none; no instance where its pair differs
abbrev pub put_term : Option Tm → List ℕ → Typ → Tm → Inst → Option Inst
put_term None name u t i = Some (record { types = i.types; terms = i.terms ++ (name, u, t) ∷ [] })
put_term (Some known) name u t i = if term_eq known t then Some i else None

-- the instance with a pair for the variable of a pattern, at the term's type
abbrev pub put_variable : Option Typ → List ℕ → Typ → Tm → Inst → Option Inst
put_variable None name s t i = None
put_variable (Some u) name s t i = option_and_then (λ known. put_term (found name u known.terms) name u t known) (retyped_by i s u)

abbrev pub is_number : ℕ → Tm → Bool
is_number n (bound m) = n == m
is_number n _ = false

-- the instance with what makes the pattern equal to the term, where there is any
abbrev pub matched_term : Inst → Tm → Tm → Option Inst
matched_term i (bound n) t = if is_number n t then Some i else None
matched_term i (free name s) t = put_variable (type_under [] t) name s t i
matched_term i (constant name s) (constant a u) = if bytes_eq name a then retyped_by i s u else None
matched_term i (constant name s) _ = None
matched_term i (app f x) (app g y) = option_and_then (λ known. matched_term known x y) (matched_term i f g)
matched_term i (app f x) _ = None
matched_term i (abs s x) (abs u y) = option_and_then (λ known. matched_term known x y) (retyped_by i s u)
matched_term i (abs s x) _ = None
