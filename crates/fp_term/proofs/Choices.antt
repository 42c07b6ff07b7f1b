-- What follows from a choice that gave something.
use Rattle.std.proofs.Common.{◌≡◌, Bool, true, false, cond, refl}
use Rattle.std.specs.Prelude.{Option, Some, None}
use Rattle.std.specs.Option.{option_and_then}
use Rattle.std.proofs.lemmas.Option.{none-some}

pub chosen : {A : Type 0} (b : Bool) (x y z : A) (P : Type 0) → (b ≡ true → x ≡ z → P) → (b ≡ false → y ≡ z → P) → cond b x y ≡ z → P
chosen true x y z P f g e = f refl e
chosen false x y z P f g e = g refl e

pub chosen_alike : {A B : Type 0} (b : Bool) (x y z : A) (u v w : B) → (b ≡ true → x ≡ z → u ≡ w) → (b ≡ false → y ≡ z → v ≡ w) → cond b x y ≡ z → cond b u v ≡ w
chosen_alike true x y z u v w f g e = f refl e
chosen_alike false x y z u v w f g e = g refl e

pub followed : {A B : Type 0} (o : Option A) (f : A → Option B) (z : B) (P : Type 0) → ((a : A) → o ≡ Some a → f a ≡ Some z → P) → option_and_then f o ≡ Some z → P
followed None f z P g e = absurd (none-some z e)
followed (Some a) f z P g e = g a refl e
