-- Names that occur nowhere in a group.
use Rattle.std.specs.Prelude.{◌≡◌, ℕ, false, suc, zero, ◌+◌, if◌then◌else◌, List, [], ◌∷◌, ◌++◌, length, map, codes}
use Rattle.fp_term.specs.Names.{numbered}
use Rattle.fp_term.specs.Types.{Typ}
use Rattle.fp_term.specs.Variables.{is_among}
use Rattle.fp_group.specs.declared.clause.Clause.{Clause}
use Rattle.fp_group.specs.declared.site.CallSite.{CallSite}
use Rattle.fp_group.specs.declared.group.Group.{Group}
use Rattle.fp_cong.specs.Rows.{names_of, all_names}

abbrev pub names_in_clauses : List Clause → List (List ℕ)
names_in_clauses [] = []
names_in_clauses (clause ∷ clauses) = all_names clause.patterns ++ names_of clause.right ++ names_in_clauses clauses

abbrev pub names_in_site : CallSite → List (List ℕ)
names_in_site site = map (λ (v : List ℕ × Typ). v.0) site.vars ++ all_names site.guards ++ all_names site.args

abbrev pub names_in_sites : List CallSite → List (List ℕ)
names_in_sites [] = []
names_in_sites (site ∷ sites) = names_in_site site ++ names_in_sites sites

-- the names of the variables and constants in the clauses and the sites, those of added variables too
abbrev pub names_in : Group → List (List ℕ)
names_in g = names_in_clauses g.clauses ++ names_in_sites g.sites

-- a1, a2, ..
abbrev pub candidate : ℕ → List ℕ
candidate n = numbered (codes "a") n

-- the first number, from this one on, of a candidate that isn't known, of so many and one more
abbrev pub unused_from : List (List ℕ) → ℕ → ℕ → ℕ
unused_from known zero n = n
unused_from known (suc more) n = if is_among known (candidate n) then unused_from known more (n + 1) else n

-- the number of the unknown candidate that so many come before
abbrev pub helper_number : List (List ℕ) → ℕ → ℕ
helper_number known zero = unused_from known (length known) 1
helper_number known (suc n) = unused_from known (length known) (helper_number known n + 1)

-- the unknown candidates in their order, from 0 on
abbrev pub helper : List (List ℕ) → ℕ → List ℕ
helper known n = candidate (helper_number known n)

-- none of the names is known
abbrev pub AreUnused : List (List ℕ) → List (List ℕ) → Type 0
AreUnused known [] = Unit {0}
AreUnused known (name ∷ names) = (is_among known name ≡ false) × AreUnused known names

-- none stands twice
abbrev pub AreDifferent : List (List ℕ) → Type 0
AreDifferent [] = Unit {0}
AreDifferent (name ∷ names) = (is_among names name ≡ false) × AreDifferent names
