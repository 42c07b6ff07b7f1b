-- What follows from an outcome that gives something, and that a fault stays the fault of what follows.
use Rattle.std.proofs.Common.{◌≡◌, ℕ, Bool, true, false, cond, List, refl, ap}
use Rattle.std.specs.Prelude.{Option, Some, None}
use Rattle.fp_conclude.specs.declared.fault.RuleFault.{RuleFault}
use Rattle.fp_conclude.specs.declared.fault.RuleFault.TheVariants.{UnknownName, IllTyped, NotEquation, NotRedex, NotBool, Shape, Differ, FreeInHyps, NoSuchPromise, PromiseOrder, NoMemory}
use Rattle.fp_conclude.specs.Outcomes.{Refusal, Outcome, gives, refused, followed_by, unless, with_part, FaultIs}

pub faults_then : {A B : Type 0} (fault : RuleFault) (o : Outcome A) (next : A → Outcome B) → FaultIs fault o → FaultIs fault (followed_by o next)
faults_then (UnknownName name) o next h = ap (λ x. followed_by x next) h
faults_then (IllTyped place) o next h = ap (λ x. followed_by x next) h
faults_then NotEquation o next h = ap (λ x. followed_by x next) h
faults_then NotRedex o next h = ap (λ x. followed_by x next) h
faults_then NotBool o next h = ap (λ x. followed_by x next) h
faults_then Shape o next h = ap (λ x. followed_by x next) h
faults_then (Differ t u) o next h = ap (λ x. followed_by x next) h
faults_then (FreeInHyps name) o next h = ap (λ x. followed_by x next) h
faults_then (NoSuchPromise number) o next h = ap (λ x. followed_by x next) h
faults_then (PromiseOrder number) o next h = ap (λ x. followed_by x next) h
faults_then NoMemory o next h = tt

pub unless_gives : {A : Type 0} (r : List ℕ → Refusal) (o : Option (List ℕ)) (later : Outcome A) (x : A) → unless r o later ≡ gives x → (o ≡ None) × (later ≡ gives x)
unless_gives r None later x e = (refl, e)
unless_gives r (Some name) later x e = cc

pub followed_gives : {A B : Type 0} (o : Outcome A) (next : A → Outcome B) (x : B) → followed_by o next ≡ gives x → (y : A) × (o ≡ gives y) × (next y ≡ gives x)
followed_gives (gives y) next x e = (y, refl, e)
followed_gives (refused r) next x e = cc

pub part_gives : {A B : Type 0} (r : Refusal) (o : Option A) (next : A → Outcome B) (x : B) → with_part r o next ≡ gives x → (y : A) × (o ≡ Some y) × (next y ≡ gives x)
part_gives r None next x e = cc
part_gives r (Some y) next x e = (y, refl, e)

pub same_given : {A : Type 0} (x y : A) → gives x ≡ gives y → x ≡ y
same_given x y e = cc

pub gives_where : {A : Type 0} (b : Bool) (x : A) (r : Refusal) (y : A) → cond b (gives x) (refused r) ≡ gives y → (b ≡ true) × (x ≡ y)
gives_where true x r y e = (refl, same_given x y e)
gives_where false x r y e = cc

pub gives_unless : {A : Type 0} (b : Bool) (x : A) (r : Refusal) (y : A) → cond b (refused r) (gives x) ≡ gives y → (b ≡ false) × (x ≡ y)
gives_unless true x r y e = cc
gives_unless false x r y e = (refl, same_given x y e)
