-- The printed texts: one space between elements, and none elsewhere.
use Rattle.std.specs.Prelude.{ℕ, List, [], ◌∷◌, ◌++◌}
use Rattle.std.specs.Fmt.{decimal}
use Rattle.fp_term.specs.Types.{Typ, Typs, variable, applied, none, more}
use Rattle.fp_term.specs.Terms.{Tm, bound, free, constant, app, abs}

abbrev mutual
  pub printed_type : Typ → List ℕ
  printed_type (variable name) = 39 ∷ name
  printed_type (applied name args) = 40 ∷ (name ++ (printed_types args ++ 41 ∷ []))

  pub printed_types : Typs → List ℕ
  printed_types none = []
  printed_types (more t ts) = 32 ∷ (printed_type t ++ printed_types ts)

-- `(b N)`, `(v name T)`, `(c name T)`, `(a t u)`, `(l T t)`
abbrev pub printed : Tm → List ℕ
printed (bound n) = 40 ∷ 98 ∷ 32 ∷ (decimal n ++ 41 ∷ [])
printed (free name s) = 40 ∷ 118 ∷ 32 ∷ (name ++ 32 ∷ (printed_type s ++ 41 ∷ []))
printed (constant name s) = 40 ∷ 99 ∷ 32 ∷ (name ++ 32 ∷ (printed_type s ++ 41 ∷ []))
printed (app f x) = 40 ∷ 97 ∷ 32 ∷ (printed f ++ 32 ∷ (printed x ++ 41 ∷ []))
printed (abs s x) = 40 ∷ 108 ∷ 32 ∷ (printed_type s ++ 32 ∷ (printed x ++ 41 ∷ []))

abbrev pub printed_each : List Tm → List ℕ
printed_each [] = []
printed_each (t ∷ ts) = 32 ∷ (printed t ++ printed_each ts)

-- `(s (h h1 .. hn) t)`
abbrev pub printed_statement : List Tm → Tm → List ℕ
printed_statement hyps concl = 40 ∷ 115 ∷ 32 ∷ 40 ∷ 104 ∷ (printed_each hyps ++ (41 ∷ 32 ∷ (printed concl ++ 41 ∷ [])))
