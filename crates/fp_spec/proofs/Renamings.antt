-- Variables put in place of others, as many as there are of both.
use Rattle.std.proofs.Common.{◌≡◌, ◌∙◌, ℕ, ◌≤◌, List, [], ◌∷◌, ◌++◌, drop, length, refl, sym, ap}
use Rattle.std.proofs.lemmas.List.{drop_all, append-nil}
use Rattle.fp_term.specs.Types.{Typ}
use Rattle.fp_term.specs.Terms.{Tm}
use Rattle.fp_shapes.specs.Binders.{Variables}
use Rattle.fp_spec.specs.Statements.{renaming}

no_others : (vs : Variables) → renaming vs [] ≡ []
no_others [] = refl
no_others (v ∷ vs) = refl

pub ended : (vs ws : Variables) (i : ℕ) (pairs whole : List (List ℕ × Typ × Tm)) → length ws ≤ i → pairs ++ renaming (drop i vs) (drop i ws) ≡ whole → pairs ≡ whole
ended vs ws i pairs whole h e =
    sym (append-nil pairs) ∙ ap (λ w. pairs ++ w) (sym (no_others (drop i vs)) ∙ ap (renaming (drop i vs)) (sym (drop_all i ws h))) ∙ e
