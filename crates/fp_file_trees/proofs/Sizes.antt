-- A list of written types is larger than what follows its first one.
use Rattle.std.proofs.Common.{◌<◌, ◌≤◌, ℕ, zero, suc, List, [], ◌∷◌, length, take, drop, arith}
use Rattle.fp_raw.specs.Raws.{RawTyp, raw_variable, raw_applied, arguments, raw_type_size, raw_types_size}

some_size : (t : RawTyp) → 0 < raw_type_size t
some_size (raw_variable a at) = omega arith
some_size (raw_applied a args at) = omega arith

taken : (k : ℕ) (types : List RawTyp) → raw_types_size (arguments (take k types)) ≤ raw_types_size (arguments types)
taken zero types = omega arith
taken (suc k) [] = omega arith
taken (suc k) (t ∷ types) = omega (arith, taken k types)

pub rest_smaller : (k : ℕ) (types : List RawTyp) → 1 ≤ length types → raw_types_size (arguments (take k (drop 1 types))) < raw_types_size (arguments types)
rest_smaller k [] h = absurd (omega arith)
rest_smaller k (t ∷ types) h = omega (arith, some_size t, taken k types)
