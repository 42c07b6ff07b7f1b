-- Definitions and theorems as plain data, by which a proof tells them apart.
use Rattle.std.specs.Prelude.{◌≡◌, ℕ, List, [], ◌∷◌, refl}
use Rattle.std.specs.Coded.{Coded, code_by, coded_list, coded×, coded_ℕ}
use Rattle.fp_term.specs.Types.{Typ, variable}
use Rattle.fp_term.specs.Terms.{Tm}
use Rattle.fp_term.specs.Codes.{coded_type, coded_term}
use Rattle.fp_kernel.specs.Definitions.{Def, new_constant, new_type}
use Rattle.fp_kernel.specs.Theorems.{Theorem}

-- the kind, the names, the types and the terms of a definition
abbrev pub DefParts : Type 0
DefParts = ℕ × (List (List ℕ) × (List (List ℕ) × (Typ × (Tm × Tm))))

abbrev pub parts_of : Def → DefParts
parts_of (new_constant name s body) = (0, (name ∷ [], ([], (s, (body, body)))))
parts_of (new_type name params predicate inhabitant abstract represent) = (1, (name ∷ abstract ∷ represent ∷ [], (params, (variable [], (predicate, inhabitant)))))

abbrev pub def_by : ℕ → List (List ℕ) → List (List ℕ) → Typ → Tm → Tm → Def
def_by kind (name ∷ abstract ∷ represent ∷ []) params s t u = new_type name params t u abstract represent
def_by kind (name ∷ []) params s t u = new_constant name s t
def_by kind _ params s t u = new_constant [] s t

abbrev pub def_of : DefParts → Def
def_of p = def_by p.0 p.1.0 p.1.1.0 p.1.1.1.0 p.1.1.1.1.0 p.1.1.1.1.1

pub def_again : (d : Def) → def_of (parts_of d) ≡ d
def_again (new_constant name s body) = refl
def_again (new_type name params predicate inhabitant abstract represent) = refl

abbrev pub coded_names : Coded (List (List ℕ))
coded_names = coded_list (coded_list coded_ℕ)

abbrev pub coded_def : Coded Def
coded_def = code_by DefParts (coded× coded_ℕ (coded× coded_names (coded× coded_names (coded× coded_type (coded× coded_term coded_term))))) parts_of def_of def_again

abbrev pub coded_defs : Coded (List Def)
coded_defs = coded_list coded_def

abbrev pub coded_theorem : Coded Theorem
coded_theorem =
    code_by (List Def × (List (ℕ × Tm) × (List Tm × Tm))) (coded× coded_defs (coded× (coded_list (coded× coded_ℕ coded_term)) (coded× (coded_list coded_term) coded_term)))
    (λ t. (t.defs, (t.promises, (t.hyps, t.concl)))) (λ p. record { defs = p.0; promises = p.1.0; hyps = p.1.1.0; concl = p.1.1.1 }) (λ _. refl)
