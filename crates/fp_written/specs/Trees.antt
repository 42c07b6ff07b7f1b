-- The trees that operators, binders, numerals and arguments of types stand for.
use Rattle.std.specs.Prelude.{ℕ, zero, suc, List, codes, Option, Some, None}
use Rattle.fp_raw.specs.Raws.{RawTyp, RawTyps, raw_variable, raw_applied, raw_none, raw_more, RawTm, raw_constant, raw_app, raw_abs, place}
use Rattle.fp_words.specs.declared.word.Infix.{Infix}
use Rattle.fp_words.specs.declared.word.Infix.TheVariants.{Implies, Disj, Conj, Equal, Less, Leq, Plus, Minus, Times, Arrow}
use Rattle.fp_words.specs.declared.word.Binder.{Binder}
use Rattle.fp_words.specs.declared.word.Binder.TheVariants.{Lambda, All, Some as Exists, Select}

-- an application has the place of its function
abbrev pub applied_to : RawTm → RawTm → RawTm
applied_to f x = raw_app f x (place f)

-- a constant without a type
abbrev pub plain : List ℕ → ℕ → RawTm
plain name at = raw_constant name None at

abbrev pub with_two : List ℕ → ℕ → RawTm → RawTm → RawTm
with_two name at a b = applied_to (applied_to (plain name at) a) b

abbrev pub with_three : List ℕ → ℕ → RawTm → RawTm → RawTm → RawTm
with_three name at a b c = applied_to (with_two name at a b) c

-- the constants of the operators
abbrev pub operator : Infix → List ℕ
operator Implies = codes "imp"
operator Disj = codes "or"
operator Conj = codes "and"
operator Equal = codes "eq"
operator Less = codes "less"
operator Leq = codes "leq"
operator Plus = codes "plus"
operator Minus = codes "minus"
operator Times = codes "times"
operator Arrow = codes "fun"

-- `Suc` so often applied to `Zero`
abbrev pub numeral_of : ℕ → ℕ → RawTm
numeral_of zero at = plain (codes "Zero") at
numeral_of (suc n) at = applied_to (plain (codes "Suc") at) (numeral_of n at)

-- the abstraction, and the constant of its binder, at the variable's place
abbrev pub binds : Binder → RawTm → ℕ → RawTm
binds Lambda t at = t
binds All t at = applied_to (plain (codes "all") at) t
binds Exists t at = applied_to (plain (codes "ex") at) t
binds Select t at = applied_to (plain (codes "select") at) t

abbrev pub binding : Binder → List ℕ → ℕ → Option RawTyp → RawTm → RawTm
binding b name at ty body = binds b (raw_abs (Some name) ty body at) at

-- the names of the types with operators
abbrev pub ty_operator : Infix → List ℕ
ty_operator Arrow = codes "fun"
ty_operator Plus = codes "sum"
ty_operator Times = codes "prod"
ty_operator _ = codes "fun"

abbrev pub ty_pair : RawTyp → RawTyp → RawTyps
ty_pair a b = raw_more a (raw_more b raw_none)

-- one more argument in front
abbrev pub with_arg : RawTyp → RawTyp → RawTyp
with_arg u (raw_variable name at) = raw_variable name at
with_arg u (raw_applied name args at) = raw_applied name (raw_more u args) at
