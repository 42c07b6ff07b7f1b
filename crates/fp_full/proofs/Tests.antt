-- What follows from tests that pass.
use Rattle.std.proofs.Common.{◌≡◌, Bool, true, false, cond, ◌&&◌, ◌||◌, Option, Some, None, IfSome, refl, sym, true≢false}
use Rattle.std.proofs.lemmas.Option.{cond_some}
use Rattle.fp_full.specs.Machine.{State}

pub both : (a b : Bool) → (a && b) ≡ true → (a ≡ true) × (b ≡ true)
both true b e = (refl, e)
both false b e = absurd (true≢false (sym e))

pub and_intro : (a b : Bool) → a ≡ true → b ≡ true → (a && b) ≡ true
and_intro a b p q = rw (p, q) refl

pub or_by : (a b : Bool) (P : Type 0) → (a || b) ≡ true → (a ≡ true → P) → (b ≡ true → P) → P
or_by true b P e f g = f refl
or_by false b P e f g = g e

-- the state that a test lets through
pub passed : (c : Bool) (x : State) → c ≡ true → cond c (Some x) None ≡ Some x
passed c x e = rw e refl

pub passes : (c : Bool) (x next : State) → cond c (Some x) None ≡ Some next → c ≡ true
passes c x next e = (cond_some c x next e).0

-- what holds of that state, and of the next one where the test fails
pub where_true : (c : Bool) (x : State) (o : Option State) (P : State → Type 0) → (c ≡ true → P x) → IfSome o P → IfSome (cond c (Some x) o) P
where_true true x o P f g = f refl
where_true false x o P f g = g
