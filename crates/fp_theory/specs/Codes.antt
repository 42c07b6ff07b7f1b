-- States as plain data, by which a proof tells them apart.
use Rattle.std.specs.Prelude.{ℕ, List, refl}
use Rattle.std.specs.Coded.{Coded, code_by, coded_list, coded×, coded_ℕ}
use Rattle.fp_kernel.specs.Definitions.{Def}
use Rattle.fp_kernel.specs.Theorems.{Theorem}
use Rattle.fp_kernel.specs.Codes.{coded_names, coded_defs, coded_theorem}
use Rattle.fp_group.specs.declared.constructors.ConType.{ConType}
use Rattle.fp_theory.specs.State.{State}

abbrev pub coded_con_type : Coded ConType
coded_con_type = code_by (List ℕ × List (List ℕ)) (coded× (coded_list coded_ℕ) coded_names) (λ t. (t.name, t.cons)) (λ p. record { name = p.0; cons = p.1 }) (λ _. refl)

abbrev pub coded_con_types : Coded (List ConType)
coded_con_types = coded_list coded_con_type

abbrev pub coded_named : Coded (List (List ℕ × Theorem))
coded_named = coded_list (coded× (coded_list coded_ℕ) coded_theorem)

abbrev pub coded_state : Coded State
coded_state =
    code_by (List Def × (List (List ℕ × Theorem) × (List (List ℕ) × (List (List ℕ) × List ConType))))
    (coded× coded_defs (coded× coded_named (coded× coded_names (coded× coded_names coded_con_types))))
    (λ s. (s.defs, (s.named, (s.simps, (s.congs, s.types)))))
    (λ p. record { defs = p.0; named = p.1.0; simps = p.1.1.0; congs = p.1.1.1.0; types = p.1.1.1.1 }) (λ _. refl)
