-- Named theorems over some definitions, with one more.
use Rattle.std.specs.Prelude.{◌≡◌, ℕ, List, [], ◌∷◌, ◌++◌, Result, Ok, Err, OnOk}
use Rattle.fp_kernel.specs.Definitions.{Def, Within}
use Rattle.fp_kernel.specs.Theorems.{Theorem}
use Rattle.fp_retrace.specs.Standing.{AreNamedWithin}

one_more : (defs : List Def) (ths : List (List ℕ × Theorem)) (name : List ℕ) (th : Theorem) → AreNamedWithin defs ths → Within th.defs defs → AreNamedWithin defs (ths ++ (name, th) ∷ [])
one_more defs [] name th h w = (w, tt)
one_more defs (t ∷ ts) name th h w = (h.0, one_more defs ts name th h.1 w)

pub pushed : {A E : Type 0} (r : Result A E) (defs : List Def) (old new : List (List ℕ × Theorem)) (name : List ℕ) (th : Theorem) → OnOk r (new ≡ old ++ (name, th) ∷ []) → AreNamedWithin defs old → Within th.defs defs →
    OnOk r (AreNamedWithin defs new)
pushed (Ok u) defs old new name th e h w = rw e (one_more defs old name th h w)
pushed (Err f) defs old new name th e h w = tt
