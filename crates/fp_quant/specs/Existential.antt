-- What each derived form of `?` concludes from its premises, or why it concludes nothing.
use Rattle.std.specs.Prelude.{ℕ, if◌then◌else◌, List, [], ◌∷◌}
use Rattle.fp_term.specs.Types.{Typ, type_eq}
use Rattle.fp_term.specs.Terms.{Tm, free, abs, term_eq, opened}
use Rattle.fp_term.specs.Signatures.{first_of, unknown_in_type, unknown_in}
use Rattle.fp_term.specs.declared.signature.Signature.{Signature}
use Rattle.fp_conclude.specs.Logic.{select}
use Rattle.fp_conclude.specs.Hypotheses.{union, without, occurs_in_any}
use Rattle.fp_conclude.specs.Checks.{typed}
use Rattle.fp_conclude.specs.Outcomes.{Outcome, gives, refused, unless, followed_by, with_part, unknown_name, ill_typed_at, shape, differ, free_in_hyps}
use Rattle.fp_kernel.specs.Definitions.{Def}
use Rattle.fp_kernel.specs.Start.{signature_of}
use Rattle.fp_kernel.specs.Theorems.{Theorem, promise_union}
use Rattle.fp_forms.specs.Quantified.{existence_parts}

-- the type of the second of two terms, where both are well typed over the signature
abbrev pub witness_type : Signature → Tm → Tm → Outcome Typ
witness_type signature t u = unless unknown_name (first_of (unknown_in signature t) (unknown_in signature u)) (followed_by (typed t) (λ _. typed u))

-- `t`, which is `?v. p`, from the theorem `a`, which is `p` with `u`, of the type `s`, for `v`
abbrev pub witnessed : Tm → Tm → Typ → Tm → Typ × Tm → Outcome Tm
witnessed t u s a p =
    if term_eq (opened 0 u p.1) a then (if type_eq s p.0 then gives t else refused (ill_typed_at [])) else refused (differ (opened 0 u p.1) a)

abbrev pub exists_of : Signature → Tm → Tm → Tm → Outcome Tm
exists_of signature t u a = followed_by (witness_type signature t u) (λ s. with_part shape (existence_parts t) (witnessed t u s a))

-- `q` from `?v. p` and `q`: the second theorem's hypotheses without `p` with `x`, which is free in nothing else
abbrev pub choice_made : List Def → Theorem → Theorem → List Tm → Theorem
choice_made defs a b rest = record { defs = defs; promises = promise_union a.promises b.promises; hyps = union a.hyps rest; concl = b.concl }

abbrev pub chosen_by : List Def → List ℕ → Typ → Theorem → Theorem → Typ × Tm → Outcome Theorem
chosen_by defs name ty a b p =
    let rest = without (opened 0 (free name ty) p.1) b.hyps in
    if occurs_in_any name ty (b.concl ∷ a.concl ∷ rest) then refused (free_in_hyps name)
    else (if type_eq ty p.0 then gives (choice_made defs a b rest) else refused (ill_typed_at []))

abbrev pub choose_from : List Def → List ℕ → Typ → Theorem → Theorem → Outcome Theorem
choose_from defs name ty a b = unless unknown_name (unknown_in_type (signature_of defs) ty) (with_part shape (existence_parts a.concl) (chosen_by defs name ty a b))

-- `p` with `@v. p` for `v`, from `?v. p`
abbrev pub select_of : Tm → Outcome Tm
select_of a = with_part shape (existence_parts a) (λ p. gives (opened 0 (select p.0 (abs p.0 p.1)) p.1))
