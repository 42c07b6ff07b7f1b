-- The search for a name that isn't taken, step by step.
use Rattle.std.proofs.Common.{◌≡◌, ◌<◌, ◌-◌, ◌+◌, ℕ, zero, suc, true, false, List, refl, arith}
use Rattle.fp_term.specs.Terms.{Tm}
use Rattle.fp_rewriting.specs.Fresh.{opening_name, is_taken, first_untaken}

pub untaken_here : (tries : ℕ) (names : List (List ℕ)) (t : Tm) (n : ℕ) → is_taken names t (opening_name n) ≡ false → opening_name n ≡ first_untaken tries names t n
unfolding first_untaken
untaken_here zero names t n e = refl
untaken_here (suc tries) names t n e = rw e refl

taken_here : (tries : ℕ) (names : List (List ℕ)) (t : Tm) (n : ℕ) → is_taken names t (opening_name n) ≡ true → first_untaken (suc tries) names t n ≡ first_untaken tries names t (n + 1)
unfolding first_untaken
taken_here tries names t n e = rw e refl

pub taken_before : (tries before : ℕ) (names : List (List ℕ)) (t : Tm) (n m : ℕ) → m ≡ n + 1 → before < tries → is_taken names t (opening_name n) ≡ true → first_untaken (tries - before) names t n ≡ first_untaken (tries - (before + 1)) names t m
taken_before tries before names t n m e h is =
    let f : tries - before ≡ suc (tries - (before + 1)) = omega arith in
    rw (f, e) (taken_here (tries - (before + 1)) names t n is)

pub no_tries : (tries before : ℕ) (names : List (List ℕ)) (t : Tm) (n : ℕ) → tries ≡ before → first_untaken (tries - before) names t n ≡ opening_name n
unfolding first_untaken
no_tries tries before names t n e = let f : tries - before ≡ zero = omega arith in rw f refl
