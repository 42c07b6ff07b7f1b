-- Clauses and call sites whose terms have the types of their functions.
use Rattle.std.specs.Prelude.{◌≡◌, ℕ, List, [], ◌∷◌, Some}
use Rattle.std.specs.List.{slice_get}
use Rattle.fp_term.specs.Types.{Typ}
use Rattle.fp_term.specs.Terms.{Tm}
use Rattle.fp_term.specs.Typing.{type_under}
use Rattle.fp_conclude.specs.Logic.{truth_type}
use Rattle.fp_group.specs.declared.clause.Head.{Head}
use Rattle.fp_group.specs.declared.clause.Clause.{Clause}
use Rattle.fp_group.specs.declared.site.CallSite.{CallSite}
use Rattle.fp_spec.specs.Calls.{calls_at, all_calls_at}

-- the terms have the types, one each
abbrev pub HaveTypes : List Typ → List Tm → Type 0
HaveTypes [] [] = Unit {0}
HaveTypes [] (t ∷ ts) = ⊥
HaveTypes (s ∷ types) [] = ⊥
HaveTypes (s ∷ types) (t ∷ ts) = (type_under [] t ≡ Some s) × HaveTypes types ts

abbrev pub AreTruths : List Tm → Type 0
AreTruths [] = Unit {0}
AreTruths (t ∷ ts) = (type_under [] t ≡ Some truth_type) × AreTruths ts

-- the terms are arguments of the function of that number, which takes at least one
pub record AreTaken (heads : List Head) (i : ℕ) (args : List Tm) : Type 0 where
  pub head : Head
  pub place : slice_get heads i ≡ Some head
  pub first : Typ
  pub more : List Typ
  pub takes : head.args ≡ first ∷ more
  pub typed : HaveTypes head.args args

-- the clause has arguments of its function, and a right side of its result's type, with `h` in place of the calls
pub record IsClause (heads : List Head) (h : Tm) (clause : Clause) : Type 0 where
  pub taken : AreTaken heads clause.function clause.patterns
  pub right : type_under [] (calls_at heads h clause.right) ≡ Some taken.head.result

abbrev pub AreClauses : List Head → Tm → List Clause → Type 0
AreClauses heads h [] = Unit {0}
AreClauses heads h (clause ∷ clauses) = IsClause heads h clause × AreClauses heads h clauses

-- the site has guards that are truth values, and arguments of the function that is called, with `h` in place of the calls
pub record IsSite (heads : List Head) (h : Tm) (site : CallSite) : Type 0 where
  pub guards : AreTruths (all_calls_at heads h site.guards)
  pub taken : AreTaken heads site.callee (all_calls_at heads h site.args)

abbrev pub AreSites : List Head → Tm → List CallSite → Type 0
AreSites heads h [] = Unit {0}
AreSites heads h (site ∷ sites) = IsSite heads h site × AreSites heads h sites
