-- The beta-normal form of a term: the one that passes over it come to.
use Rattle.std.specs.Prelude.{◌≡◌, ℕ, ◌+◌, ◌<◌, ◌≤◌, true, false, List, codes}
use Rattle.fp_term.specs.Names.{numbered}
use Rattle.fp_term.specs.Types.{Typ}
use Rattle.fp_term.specs.Terms.{Tm, free, app, abs, opened, closed}
use Rattle.fp_conclude.specs.Hypotheses.{occurs}
use Rattle.fp_conv.specs.Beta.{is_abstraction, is_normal}

-- `_` with the number's digits after it; different numbers give different names
abbrev pub opening_name : ℕ → List ℕ
opening_name n = numbered (codes "_") n

-- it is the name of the first number, from that one on, whose variable isn't free in the body
pub record IsFirstUnused (from : ℕ) (s : Typ) (body : Tm) (name : List ℕ) : Type 0 where
  pub number : ℕ
  pub from_on : from ≤ number
  pub is : name ≡ opening_name number
  pub unused : occurs name s body ≡ false
  pub others : (k : ℕ) → k < number → from ≤ k → occurs (opening_name k) s body ≡ true

-- a redex becomes its body at the argument, all else stays
abbrev pub contracted : Tm → Tm
contracted (app (abs s body) arg) = opened 0 arg body
contracted t = t

-- One pass, under so many abstractions. A normal term stays, and a redex is contracted. Else both parts of an application
-- pass, and it is contracted where it has become a redex; the body of an abstraction passes, opened by the variable with
-- the first unused name and closed again.
pub data Passes : ℕ → Tm → Tm → Type 0 where
  settled : {depth : ℕ} {t : Tm} → is_normal t ≡ true → Passes depth t t
  at_redex : {depth : ℕ} (s : Typ) (body arg : Tm) → Passes depth (app (abs s body) arg) (opened 0 arg body)
  in_parts : {depth : ℕ} {f g x y : Tm} → is_normal (app f x) ≡ false → is_abstraction f ≡ false → Passes depth f g → Passes depth x y →
      Passes depth (app f x) (contracted (app g y))
  in_body : {depth : ℕ} {body u : Tm} (s : Typ) (name : List ℕ) → is_normal body ≡ false → IsFirstUnused depth s body name →
      Passes (depth + 1) (opened 0 (free name s) body) u → Passes depth (abs s body) (abs s (closed 0 name s u))

-- passes over the whole until it is normal
pub data NormalBy : Tm → Tm → Type 0 where
  done : {t : Tm} → is_normal t ≡ true → NormalBy t t
  again : {t u v : Tm} → is_normal t ≡ false → Passes 0 t u → NormalBy u v → NormalBy t v

-- what an application becomes whose parts pass
pub record PassedParts (depth : ℕ) (f x u : Tm) : Type 0 where
  pub function : Tm
  pub argument : Tm
  pub functions : Passes depth f function
  pub arguments : Passes depth x argument
  pub is : u ≡ app function argument
