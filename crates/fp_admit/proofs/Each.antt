-- Lists whose members are related one by one, with one more.
use Rattle.std.proofs.Common.{◌≡◌, ◌<◌, ◌+◌, ℕ, zero, suc, List, [], ◌∷◌, ◌++◌, take, map, length, get_or, refl, sym, ap, ◌∙◌, arith, add-one}
use Rattle.std.specs.Prelude.{Some}
use Rattle.fp_term.specs.Types.{Typ}
use Rattle.fp_term.specs.Typing.{function_type, function_type_over}
use Rattle.fp_conclude.specs.Parts.{function_parts}
use Rattle.fp_conclude.proofs.Equations.{function_shape}
use Rattle.fp_raw.specs.Raws.{RawTm}
use Rattle.fp_commands.specs.declared.command.Head as written
use Rattle.fp_group.specs.declared.group.Group.{Group}
use Rattle.fp_theory.specs.State.{State}
use Rattle.fp_admit.specs.Admitted.{AreEach, typed_heads, IsHeadOf, Admits}

one_more : {A B : Type 0} (P : A → B → Type 0) (xs : List A) (ys : List B) (i : ℕ) (x : A) (y : B) → x ≡ get_or xs i x → i < length xs →
    AreEach P (take i xs) ys → P x y → AreEach P (take (suc i) xs) (ys ++ y ∷ [])
one_more P [] ys i x y e below h p = absurd (omega (arith, below))
one_more P (z ∷ xs) [] zero x y e below h p = (rw (sym e) p, tt)
one_more P (z ∷ xs) (w ∷ ys) zero x y e below h p = absurd h
one_more P (z ∷ xs) [] (suc i) x y e below h p = absurd h
one_more P (z ∷ xs) (w ∷ ys) (suc i) x y e below h p = (h.0, one_more P xs ys i x y e (omega (arith, below)) h.1 p)

pub pushed : {A B : Type 0} (P : A → B → Type 0) (xs : List A) (old new : List B) (i : ℕ) (x : A) (y : B) → new ≡ old ++ y ∷ [] → x ≡ get_or xs i x → i < length xs →
    AreEach P (take i xs) old → P x y → AreEach P (take (i + 1) xs) new
pushed P xs old new i x y n e below h p = rw add-one (rw n (one_more P xs old i x y e below h p))

pub each_length : {A B : Type 0} (P : A → B → Type 0) (xs : List A) (ys : List B) → AreEach P xs ys → length ys ≡ length xs
each_length P [] [] h = refl
each_length P [] (y ∷ ys) h = absurd h
each_length P (x ∷ xs) [] h = absurd h
each_length P (x ∷ xs) (y ∷ ys) h = ap suc (each_length P xs ys h.1)

over_more : (args : List Typ) (from to : Typ) → function_type_over (args ++ from ∷ []) to ≡ function_type_over args (function_type from to)
over_more [] from to = refl
over_more (a ∷ args) from to = ap (function_type a) (over_more args from to)

-- a function type over one more argument
pub one_argument : (ty : Typ) (old new : List Typ) (item rest from to : Typ) → new ≡ old ++ item ∷ [] → item ≡ from → function_parts rest ≡ Some (from, to) → ty ≡ function_type_over old rest →
    ty ≡ function_type_over new to
one_argument ty old new item rest from to n i e h = rw (n, i) (h ∙ ap (function_type_over old) (function_shape rest (from, to) e) ∙ sym (over_more old from to))

heads_counted : (heads : List written.Head) → length (typed_heads heads) ≡ length heads
heads_counted [] = refl
heads_counted (h ∷ heads) = ap suc (heads_counted heads)

-- an admitted group has the functions that are written
pub counted : (s : State) (heads : List written.Head) (clauses : List RawTm) (g : Group) → Admits s heads clauses g → length g.heads ≡ length heads
counted s heads clauses g a = each_length IsHeadOf (typed_heads heads) g.heads a.heads_of ∙ heads_counted heads
