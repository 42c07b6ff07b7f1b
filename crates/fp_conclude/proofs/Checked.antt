-- What was checked is well typed over the signature.
use Rattle.std.proofs.Common.{◌≡◌, ◌∙◌, ℕ, Bool, true, false, ◌&&◌, List, [], ◌∷◌, refl, sym, ap}
use Rattle.std.specs.Prelude.{Option, Some, None}
use Rattle.std.proofs.lemmas.Option.{none-some}
use Rattle.fp_term.specs.declared.signature.Signature.{Signature}
use Rattle.fp_term.specs.Types.{Typ, type_eq}
use Rattle.fp_term.specs.Terms.{Tm}
use Rattle.fp_term.specs.Typing.{type_under, ill_typed}
use Rattle.fp_term.specs.Signatures.{IsWellTyped, first_of, unknown_in_type, unknown_in}
use Rattle.fp_term.proofs.Equal.{type_eq-decides}
use Rattle.fp_term.proofs.Known.{known, type_known}
use Rattle.fp_conclude.specs.Outcomes.{gives, unknown_name, ill_typed_at}
use Rattle.fp_conclude.specs.Checks.{type_given, typed, typed_over, unknown_in_pairs, fits, fitting, unknown_in_type_pairs, AreTerms, AreTypesOf}
use Rattle.fp_conclude.proofs.Outcomes.{unless_gives, followed_gives, same_given}

given_type : (o : Option Typ) (s : Typ) → type_given o ≡ gives s → o ≡ Some s
given_type None s e = cc
given_type (Some t) s e = ap Some (same_given t s e)

typed_is : (t : Tm) (s : Typ) → typed t ≡ gives s → type_under [] t ≡ Some s
typed_is t s e = given_type (type_under [] t) s (unless_gives ill_typed_at (ill_typed [] t) (type_given (type_under [] t)) s e).1

pub well_typed : (g : Signature) (t : Tm) (s : Typ) → typed_over g t ≡ gives s → IsWellTyped g t s
unfolding typed_over
well_typed g t s e =
    let a = unless_gives unknown_name (unknown_in g t) (typed t) s e in
    record { typed = typed_is t s a.1; over = known g t a.0 }

none_of_two : (a b : Option (List ℕ)) → first_of a b ≡ None → (a ≡ None) × (b ≡ None)
none_of_two None b e = (refl, e)
none_of_two (Some x) b e = absurd (none-some x (sym e))

false_stays : (pairs : List (List ℕ × Typ × Tm)) → fitting false pairs ≡ gives true → ⊥
unfolding fitting
false_stays [] e = let f : false ≡ true = same_given false true e in cc
false_stays (pair ∷ rest) e =
    let a = followed_gives (fits pair.1 pair.2) (λ fit. fitting (false && fit) rest) true e in
    false_stays rest a.2

still : (b : Bool) (pairs : List (List ℕ × Typ × Tm)) → fitting b pairs ≡ gives true → (b ≡ true) × (fitting true pairs ≡ gives true)
still true pairs e = (refl, e)
still false pairs e = absurd (false_stays pairs e)

fit_is : (s : Typ) (t : Tm) → fits s t ≡ gives true → type_under [] t ≡ Some s
fit_is s t e =
    let a = followed_gives (typed t) (λ u. gives (type_eq u s)) true e in
    typed_is t a.0 a.1 ∙ ap Some ((type_eq-decides a.0 s).0 (same_given (type_eq a.0 s) true a.2))

pub are_terms : (g : Signature) (pairs : List (List ℕ × Typ × Tm)) → unknown_in_pairs g pairs ≡ None → fitting true pairs ≡ gives true → AreTerms g pairs
unfolding fitting
are_terms g [] h e = tt
are_terms g (pair ∷ rest) h e =
    let a = none_of_two (unknown_in_type g pair.1) (first_of (unknown_in g pair.2) (unknown_in_pairs g rest)) h in
    let b = none_of_two (unknown_in g pair.2) (unknown_in_pairs g rest) a.1 in
    let c = followed_gives (fits pair.1 pair.2) (λ fit. fitting fit rest) true e in
    let d = still c.0 rest c.2 in
    (record { typed = fit_is pair.1 pair.2 (c.1 ∙ ap gives d.0); over = known g pair.2 b.0 }, are_terms g rest b.1 d.1)

pub are_types : (g : Signature) (pairs : List (List ℕ × Typ)) → unknown_in_type_pairs g pairs ≡ None → AreTypesOf g pairs
are_types g [] h = tt
are_types g (pair ∷ rest) h =
    let a = none_of_two (unknown_in_type g pair.1) (unknown_in_type_pairs g rest) h in
    (type_known g pair.1 a.0, are_types g rest a.1)
