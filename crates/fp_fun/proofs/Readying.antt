-- Theorems that can be named, with one more.
use Rattle.std.specs.Prelude.{◌≡◌, ℕ, List, [], ◌∷◌, ◌++◌, Result, Ok, Err, OnOk}
use Rattle.std.proofs.Common.{◌<◌, zero, suc, length, get_or, refl, arith}
use Rattle.fp_kernel.specs.Definitions.{Def, Within}
use Rattle.fp_kernel.specs.Theorems.{Theorem, plain}
use Rattle.fp_theory.specs.State.{IsNoted}
use Rattle.fp_fun.specs.Ready.{AreReady}

one_more : (defs : List Def) (ths : List (List ℕ × Theorem)) (name : List ℕ) (th : Theorem) → AreReady defs ths → IsNoted defs th → AreReady defs (ths ++ (name, th) ∷ [])
one_more defs [] name th h n = (n, tt)
one_more defs (t ∷ ts) name th h n = (h.0, one_more defs ts name th h.1 n)

noted_alone : (defs : List Def) (th : Theorem) → Within th.defs defs → th ≡ plain th.defs th.concl → IsNoted defs th
noted_alone defs th w e = record { hyps = rw e refl; promises = rw e refl; within = w }

pub pushed : {A E : Type 0} (r : Result A E) (defs : List Def) (old new : List (List ℕ × Theorem)) (name : List ℕ) (th : Theorem) → OnOk r (new ≡ old ++ (name, th) ∷ []) →
    AreReady defs old → Within th.defs defs → th ≡ plain th.defs th.concl → OnOk r (AreReady defs new)
pushed (Ok u) defs old new name th e h w a = rw e (one_more defs old name th h (noted_alone defs th w a))
pushed (Err f) defs old new name th e h w a = tt

pub ready_at : (defs : List Def) (ths : List (List ℕ × Theorem)) (i : ℕ) (p : List ℕ × Theorem) → p ≡ get_or ths i p → i < length ths → AreReady defs ths → IsNoted defs p.1
ready_at defs [] i p e h k = absurd (omega (arith, h))
ready_at defs (q ∷ ths) zero p e h k = rw e k.0
ready_at defs (q ∷ ths) (suc i) p e h k = ready_at defs ths i p e (omega (arith, h)) k.1
