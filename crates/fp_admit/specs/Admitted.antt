-- The group that a written one stands for.
use Rattle.std.specs.Prelude.{◌≡◌, ◌<◌, ◌==◌, ℕ, ◌+◌, if◌then◌else◌, List, [], ◌∷◌, map, length, Option, Some, None, Ok}
use Rattle.std.specs.Str.{bytes_eq}
use Rattle.fp_term.specs.Types.{Typ}
use Rattle.fp_term.specs.Terms.{Tm, bound, free, constant, app, abs, head_of, arguments_of}
use Rattle.fp_term.specs.Typing.{function_type_over}
use Rattle.fp_term.specs.declared.signature.Signature.{Signature}
use Rattle.fp_conclude.specs.Logic.{equal}
use Rattle.fp_kernel.specs.Start.{signature_of}
use Rattle.fp_raw.specs.Raws.{RawTm}
use Rattle.fp_commands.specs.declared.command.Head as written
use Rattle.fp_constrain.specs.Subterms.{plain}
use Rattle.fp_infer.specs.Elaborated.{Answers}
use Rattle.fp_group.specs.declared.clause.Head.{Head}
use Rattle.fp_group.specs.declared.clause.Clause.{Clause}
use Rattle.fp_group.specs.declared.constructors.ConTable.{ConTable}
use Rattle.fp_group.specs.declared.group.Group.{Group}
use Rattle.fp_pattern.specs.Completed.{IsCompletion}
use Rattle.fp_cong.specs.Rows.{AreRows}
use Rattle.fp_declared.specs.Rules.{congruence_rules}
use Rattle.fp_theory.specs.State.{State}

-- the functions with their written types
abbrev pub typed_heads : List written.Head → List (List ℕ × Typ)
typed_heads heads = map (λ (h : written.Head). (h.name, plain h.ty)) heads

-- lists of one length whose members are related one by one
abbrev pub AreEach : {A B : Type 0} → (A → B → Type 0) → List A → List B → Type 0
AreEach P [] [] = Unit {0}
AreEach P [] (y ∷ ys) = ⊥
AreEach P (x ∷ xs) [] = ⊥
AreEach P (x ∷ xs) (y ∷ ys) = P x y × AreEach P xs ys

-- the term is what the written clause stands for, where the functions are constants of exactly these types
abbrev pub IsTyped : Signature → List (List ℕ × Typ) → RawTm → Tm → Type 0
IsTyped s exact raw t = Answers s exact [] None raw (Ok t)

-- the number of the function of that name, where they are numbered from `n` on
abbrev pub number_from : ℕ → List (List ℕ × Typ) → List ℕ → Option ℕ
number_from n [] name = None
number_from n (p ∷ pairs) name = if bytes_eq p.0 name then Some n else number_from (n + 1) pairs name

-- the number of the function that the term is
abbrev pub function_number : List (List ℕ × Typ) → Tm → Option ℕ
function_number exact (constant name ty) = number_from 0 exact name
function_number exact _ = None

-- the term is an equation whose left side is a function at arguments, which are the clause's patterns
pub record IsClauseOf (exact : List (List ℕ × Typ)) (t : Tm) (c : Clause) : Type 0 where
  pub ty : Typ
  pub left : Tm
  pub equation : t ≡ equal ty left c.right
  pub function : function_number exact (head_of left) ≡ Some c.function
  pub patterns : c.patterns ≡ arguments_of left
  pub some : 0 < length c.patterns
  pub origin : c.origin ≡ None

-- the function with the types of its arguments and of its result
pub record IsHeadOf (p : List ℕ × Typ) (h : Head) : Type 0 where
  pub name : h.name ≡ p.0
  pub ty : p.1 ≡ function_type_over h.args h.result

-- the types with declared constructors
abbrev pub table_of : State → ConTable
table_of s = record { types = s.types }

-- the group has these functions, the completed ones of these clauses, and their call sites
pub record Completes (s : State) (heads : List Head) (clauses : List Clause) (g : Group) : Type 0 where
  pub heads_are : g.heads ≡ heads
  pub completed : IsCompletion (table_of s) (signature_of s.defs) clauses heads (Ok g.clauses)
  pub rules : g.rules.rules ≡ congruence_rules s.named s.congs
  pub sites : AreRows heads g.rules.rules g.clauses 64 g.sites

-- the group is that of the functions and clauses as they are written
pub record Admits (s : State) (heads : List written.Head) (clauses : List RawTm) (g : Group) : Type 0 where
  pub terms : List Tm
  pub taken : List Clause
  pub typed : AreEach (IsTyped (signature_of s.defs) (typed_heads heads)) clauses terms
  pub clauses_of : AreEach (IsClauseOf (typed_heads heads)) terms taken
  pub heads_of : AreEach IsHeadOf (typed_heads heads) g.heads
  pub completes : Completes s g.heads taken g
