-- What is still to be read, or to be made of what was read.
use Rattle.std.specs.Prelude.{ℕ, List}
use Rattle.fp_words.specs.declared.word.Infix.{Infix}
use Rattle.fp_words.specs.declared.word.Binder.{Binder}

-- the last number of a symbol that reads is how many forms are around it
pub data Symbol : Type 0 where
  -- a term of at least this level
  Term : ℕ → ℕ → Symbol
  -- what may follow a term of the first level, so that the whole has at least the second
  MoreTerm : ℕ → ℕ → ℕ → Symbol
  -- what may follow a whole term
  AfterWhole : Symbol
  AfterTerm : ℕ → Symbol
  AfterPart : ℕ → Symbol
  Vars : Binder → ℕ → Symbol
  MoreVars : Binder → ℕ → Symbol
  VarName : Binder → ℕ → Symbol
  Ty : ℕ → ℕ → Symbol
  MoreTy : ℕ → ℕ → ℕ → Symbol
  AfterTy : ℕ → Symbol
  AfterArg : ℕ → Symbol
  ConName : Symbol
  WantColons : Symbol
  WantThen : Symbol
  WantElse : Symbol
  WantClose : Symbol
  -- the place of what is made is its last number
  MakeName : List ℕ → ℕ → Symbol
  MakeNumber : ℕ → ℕ → Symbol
  MakeApp : Symbol
  MakeInfix : Infix → ℕ → Symbol
  MakeNot : ℕ → Symbol
  MakeIf : ℕ → Symbol
  MakePair : ℕ → Symbol
  MakeTyped : ℕ → Symbol
  MakeAbs : Binder → List ℕ → ℕ → Symbol
  MakeTypedAbs : Binder → List ℕ → ℕ → Symbol
  Deepen : Symbol
  MakeTyVar : List ℕ → ℕ → Symbol
  MakeCon : List ℕ → ℕ → Symbol
  MakePost : List ℕ → ℕ → Symbol
  MakeTyInfix : Infix → ℕ → Symbol
  MakeArg : Symbol
  DeepenTy : Symbol
