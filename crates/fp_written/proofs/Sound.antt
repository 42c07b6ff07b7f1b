-- What was read is the front of a term or type within the depth, and at the end is one.
use Rattle.std.proofs.Common.{◌≡◌, ◌∙◌, ◌+◌, ◌≤◌, ℕ, suc, max, List, [], ◌∷◌, ◌++◌, Bool, true, false, cond, ◌==◌, nat_le, Option, Some, None, refl, sym, append_assoc, append-nil, arith, codes, MatchOption}
use Rattle.std.specs.Option.{option_and_then}
use Rattle.std.proofs.lemmas.Bool.Decides.{nat_tests}
use Rattle.fp_words.specs.declared.word.Infix.{Infix}
use Rattle.fp_words.specs.declared.word.Infix.TheVariants.{Implies, Disj, Conj, Equal, Less, Leq, Plus, Minus, Times, Arrow}
use Rattle.fp_words.specs.declared.word.Binder.{Binder}
use Rattle.fp_words.specs.declared.word.Word.{Word}
use Rattle.fp_words.specs.declared.word.Word.TheVariants.{Name, TyVar, Number, Between, Negation, Binds, Dot, Comma, Open, Close, Colons, If, Then, Else}
use Rattle.fp_words.specs.declared.word.Placed.{Placed}
use Rattle.fp_written.specs.declared.kinds.Kind.{Kind}
use Rattle.fp_written.specs.declared.kinds.Kind.TheVariants.{Term as TermKind, Ty as TypeKind}
use Rattle.fp_written.specs.Symbols.{Symbol}
use Rattle.fp_written.specs.Symbols.{Term, MoreTerm, AfterWhole, AfterTerm, AfterPart, Vars, MoreVars, VarName, Ty, MoreTy, AfterTy, AfterArg, ConName, WantColons, WantThen, WantElse, WantClose, MakeName, MakeNumber, MakeApp, MakeAbs, MakeTyVar, MakeCon}
use Rattle.fp_raw.specs.Raws.{RawTyp, raw_applied, RawTyps, raw_none, raw_more, RawTm, raw_typed}
use Rattle.fp_written.specs.Trees.{with_two, binding}
use Rattle.fp_written.specs.Written.{WType, variable, constant, postfix, between_types, round, applied, WArgs, last_arg, next_arg, tok, type_tokens, arg_tokens, ty_level, ty_left, level_of_type, IsType, AreArgs, raw_type, raw_args, depth_of_type, depth_of_args, only_name, typed_var, WTerm, named, numeral, application, between, negated, bound, choice, parens, typed, tuple, WParts, last_part, next_part, WVars, last_var, next_var, term_tokens, part_tokens, vars_tokens, level, left, right, level_of, Keeps, IsTerm, AreParts, AreVars, depth_of_var, depth_of, depth_of_parts, depth_of_vars, raw, raw_parts, raw_vars, WWhole, whole_term, whole_typed, whole_type, Tree, kind_of, whole_tokens, IsWhole, depth_of_whole, tree_of}
use Rattle.fp_written.specs.Machine.{keeps, Move, takes, passes, stops, term_move, joins, applies, more_move, after_whole_move, after_term_move, after_part_move, vars_move, more_vars_move, var_name_move, ty_move, ty_joins, ty_applies, more_ty_move, after_ty_move, after_arg_move, con_name_move, colons_move, then_move, else_move, close_move, Sized, SizedTy, sized, sized_ty, Made, Does, reads, makes, does, State, state, Out, on, refused, too_deep, top_depth, top_ty_depth, moved, when_made, does_step, step, finish, whole, then_out, run, out_ended, start}
use Rattle.std.proofs.lemmas.Option.{none-some, same_Some}
use Rattle.fp_written.proofs.Bounds.{keeps_is, keeps_less, keeps_max, left_max, right_max, term_deep, type_deep}

abbrev pub term_made : WTerm → Sized
term_made t = sized (raw t) (depth_of t)

abbrev pub type_made : WType → SizedTy
type_made t = sized_ty (raw_type t) (depth_of_type t)

-- what may follow a whole term
pub data WholeRest : Type 0 where
  no_more : WholeRest
  with_type : ℕ → WType → WholeRest

abbrev pub whole_rest_tokens : WholeRest → List Placed
whole_rest_tokens no_more = []
whole_rest_tokens (with_type c u) = tok Colons c ∷ type_tokens u

abbrev pub IsWholeRest : WholeRest → Type 0
IsWholeRest no_more = Unit {0}
IsWholeRest (with_type c u) = IsType u × (1 ≤ level_of_type u)

abbrev pub whole_rest_raw : RawTm → WholeRest → RawTm
whole_rest_raw a no_more = a
whole_rest_raw a (with_type c u) = raw_typed a (raw_type u) c

abbrev pub whole_rest_depth : ℕ → WholeRest → ℕ
whole_rest_depth d no_more = d
whole_rest_depth d (with_type c u) = suc (max d (depth_of_type u))

-- what may follow ( and a term
pub data TermRest : Type 0 where
  term_shut : ℕ → TermRest
  term_typed : ℕ → WType → ℕ → TermRest
  term_parts : WParts → TermRest

abbrev pub term_rest_tokens : TermRest → List Placed
term_rest_tokens (term_shut q) = tok Close q ∷ []
term_rest_tokens (term_typed c t q) = tok Colons c ∷ (type_tokens t ++ tok Close q ∷ [])
term_rest_tokens (term_parts parts) = part_tokens parts

abbrev pub IsTermRest : TermRest → Type 0
IsTermRest (term_shut q) = Unit {0}
IsTermRest (term_typed c t q) = IsType t × (1 ≤ level_of_type t)
IsTermRest (term_parts parts) = AreParts parts

abbrev pub term_rest_raw : RawTm → TermRest → RawTm
term_rest_raw a (term_shut q) = a
term_rest_raw a (term_typed c t q) = raw_typed a (raw_type t) c
term_rest_raw a (term_parts parts) = raw_parts a parts

abbrev pub term_rest_depth : ℕ → TermRest → ℕ
term_rest_depth d (term_shut q) = d
term_rest_depth d (term_typed c t q) = suc (max d (depth_of_type t))
term_rest_depth d (term_parts parts) = max d (depth_of_parts parts)

-- what may follow a further part
pub data PartRest : Type 0 where
  part_shut : ℕ → PartRest
  part_parts : WParts → PartRest

abbrev pub part_rest_tokens : PartRest → List Placed
part_rest_tokens (part_shut q) = tok Close q ∷ []
part_rest_tokens (part_parts parts) = part_tokens parts

abbrev pub IsPartRest : PartRest → Type 0
IsPartRest (part_shut q) = Unit {0}
IsPartRest (part_parts parts) = AreParts parts

abbrev pub part_rest_raw : RawTm → PartRest → RawTm
part_rest_raw a (part_shut q) = a
part_rest_raw a (part_parts parts) = raw_parts a parts

abbrev pub part_rest_depth : ℕ → PartRest → ℕ
part_rest_depth d (part_shut q) = d
part_rest_depth d (part_parts parts) = max d (depth_of_parts parts)

pub data VarsRest : Type 0 where
  vars_body : ℕ → WTerm → VarsRest
  vars_vars : WVars → VarsRest

abbrev pub vars_rest_tokens : VarsRest → List Placed
vars_rest_tokens (vars_body at a) = tok Dot at ∷ term_tokens a
vars_rest_tokens (vars_vars vars) = vars_tokens vars

abbrev pub IsVarsRest : VarsRest → Type 0
IsVarsRest (vars_body at a) = IsTerm a
IsVarsRest (vars_vars vars) = AreVars vars

abbrev pub vars_rest_raw : Binder → VarsRest → RawTm
vars_rest_raw b (vars_body at a) = raw a
vars_rest_raw b (vars_vars vars) = raw_vars b vars

abbrev pub vars_rest_depth : VarsRest → ℕ
vars_rest_depth (vars_body at a) = depth_of a
vars_rest_depth (vars_vars vars) = depth_of_vars vars

-- what may follow ( and a type
pub data TypeRest : Type 0 where
  type_shut : ℕ → TypeRest
  type_args : WArgs → List ℕ → ℕ → TypeRest

abbrev pub type_rest_tokens : TypeRest → List Placed
type_rest_tokens (type_shut q) = tok Close q ∷ []
type_rest_tokens (type_args args x at) = arg_tokens args ++ tok (Name x) at ∷ []

abbrev pub IsTypeRest : TypeRest → Type 0
IsTypeRest (type_shut q) = Unit {0}
IsTypeRest (type_args args x at) = AreArgs args

abbrev pub type_rest_raw : RawTyp → TypeRest → RawTyp
type_rest_raw u (type_shut q) = u
type_rest_raw u (type_args args x at) = raw_applied x (raw_more u (raw_args args)) at

abbrev pub type_rest_depth : ℕ → TypeRest → ℕ
type_rest_depth d (type_shut q) = d
type_rest_depth d (type_args args x at) = max d (depth_of_args args)

-- what may follow a further argument
pub data ArgRest : Type 0 where
  arg_shut : ℕ → ArgRest
  arg_args : WArgs → ArgRest

abbrev pub arg_rest_tokens : ArgRest → List Placed
arg_rest_tokens (arg_shut q) = tok Close q ∷ []
arg_rest_tokens (arg_args args) = arg_tokens args

abbrev pub IsArgRest : ArgRest → Type 0
IsArgRest (arg_shut q) = Unit {0}
IsArgRest (arg_args args) = AreArgs args

abbrev pub arg_rest_raw : ArgRest → RawTyps
arg_rest_raw (arg_shut q) = raw_none
arg_rest_raw (arg_args args) = raw_args args

abbrev pub arg_rest_depth : ArgRest → ℕ
arg_rest_depth (arg_shut q) = 0
arg_rest_depth (arg_args args) = depth_of_args args

abbrev pub Cont : Type 1
Cont = List Sized → List SizedTy → List Placed → Type 0

abbrev pub MadePromise : Does → Cont → Cont
MadePromise (reads f b) K ts us cs = ⊥
MadePromise (makes f) K ts us cs = MatchOption (f ts us) ⊥ (λ m. K m.terms m.types cs)

-- a term is there, and may go on
abbrev pub AtTerm : Option ℕ → Cont → ℕ → ℕ → ℕ → WTerm → List Sized → List SizedTy → List Placed → Type 0
AtTerm l K j n k t0 ts0 us cs = IsTerm t0 × (level_of t0 ≡ j) × (n ≤ j) × Keeps l (k + depth_of t0) × (bs : List Placed) × (cs ≡ bs ++ term_tokens t0) × ((t : WTerm) → IsTerm t → n ≤ level_of t → Keeps l (k + depth_of t) → (ds : List Placed) → ds ≡ bs ++ term_tokens t → K (term_made t ∷ ts0) us ds)

abbrev pub AtType : Option ℕ → Cont → ℕ → ℕ → ℕ → WType → List Sized → List SizedTy → List Placed → Type 0
AtType l K j n k t0 ts us0 cs = IsType t0 × (level_of_type t0 ≡ j) × (n ≤ j) × Keeps l (k + depth_of_type t0) × (bs : List Placed) × (cs ≡ bs ++ type_tokens t0) × ((t : WType) → IsType t → n ≤ level_of_type t → Keeps l (k + depth_of_type t) → (ds : List Placed) → ds ≡ bs ++ type_tokens t → K ts (type_made t ∷ us0) ds)

abbrev pub AtVars : Option ℕ → Cont → Binder → ℕ → List Sized → List SizedTy → List Placed → Type 0
AtVars l K b k ts us cs = (vars : WVars) → AreVars vars → Keeps l (k + suc (depth_of_vars vars)) → (ds : List Placed) → ds ≡ cs ++ vars_tokens vars → K (sized (raw_vars b vars) (depth_of_vars vars) ∷ ts) us ds

-- whatever this symbol reads within the depth, K holds afterwards
abbrev pub Promise : Option ℕ → Symbol → Cont → Cont
Promise l (Term n k) K ts us cs = (n ≤ 9) × Keeps l (k + 1) × ((t : WTerm) → IsTerm t → n ≤ level_of t → Keeps l (k + depth_of t) → (ds : List Placed) → ds ≡ cs ++ term_tokens t → K (term_made t ∷ ts) us ds)
Promise l (MoreTerm j n k) K ts us cs = (t0 : WTerm) × (ts0 : List Sized) × (ts ≡ term_made t0 ∷ ts0) × AtTerm l K j n k t0 ts0 us cs
Promise l AfterWhole K ts us cs = (first : Sized) × (ts0 : List Sized) × (ts ≡ first ∷ ts0) × (1 ≤ first.depth) × Keeps l first.depth × ((r : WholeRest) → IsWholeRest r → Keeps l (whole_rest_depth first.depth r) → (ds : List Placed) → ds ≡ cs ++ whole_rest_tokens r → K (sized (whole_rest_raw first.tree r) (whole_rest_depth first.depth r) ∷ ts0) us ds)
Promise l (AfterTerm k) K ts us cs = (first : Sized) × (ts0 : List Sized) × (ts ≡ first ∷ ts0) × (1 ≤ first.depth) × Keeps l (k + 2) × Keeps l (k + suc first.depth) × ((r : TermRest) → IsTermRest r → Keeps l (k + suc (term_rest_depth first.depth r)) → (ds : List Placed) → ds ≡ cs ++ term_rest_tokens r → K (sized (term_rest_raw first.tree r) (suc (term_rest_depth first.depth r)) ∷ ts0) us ds)
Promise l (AfterPart k) K ts us cs = (first : Sized) × (ts0 : List Sized) × (ts ≡ first ∷ ts0) × Keeps l (k + 2) × Keeps l (k + suc first.depth) × ((r : PartRest) → IsPartRest r → Keeps l (k + suc (part_rest_depth first.depth r)) → (ds : List Placed) → ds ≡ cs ++ part_rest_tokens r → K (sized (part_rest_raw first.tree r) (part_rest_depth first.depth r) ∷ ts0) us ds)
Promise l (Vars b k) K ts us cs = Keeps l (k + 2) × AtVars l K b k ts us cs
Promise l (MoreVars b k) K ts us cs = Keeps l (k + 2) × ((r : VarsRest) → IsVarsRest r → Keeps l (k + suc (vars_rest_depth r)) → (ds : List Placed) → ds ≡ cs ++ vars_rest_tokens r → K (sized (vars_rest_raw b r) (vars_rest_depth r) ∷ ts) us ds)
Promise l (VarName b k) K ts us cs = Keeps l (k + 3) × ((x : List ℕ) (at c : ℕ) (t : WType) (q : ℕ) → IsType t → 1 ≤ level_of_type t → Keeps l (k + suc (suc (depth_of_type t))) → (r : VarsRest) → IsVarsRest r → Keeps l (k + suc (vars_rest_depth r)) → (ds : List Placed) → ds ≡ cs ++ (tok (Name x) at ∷ tok Colons c ∷ ((type_tokens t ++ tok Close q ∷ []) ++ vars_rest_tokens r)) → K (sized (binding b x at (Some (raw_type t)) (vars_rest_raw b r)) (max (suc (depth_of_type t)) (vars_rest_depth r)) ∷ ts) us ds)
Promise l (Ty n k) K ts us cs = (n ≤ 5) × Keeps l (k + 1) × ((t : WType) → IsType t → n ≤ level_of_type t → Keeps l (k + depth_of_type t) → (ds : List Placed) → ds ≡ cs ++ type_tokens t → K ts (type_made t ∷ us) ds)
Promise l (MoreTy j n k) K ts us cs = (t0 : WType) × (us0 : List SizedTy) × (us ≡ type_made t0 ∷ us0) × AtType l K j n k t0 ts us0 cs
Promise l (AfterTy k) K ts us cs = (first : SizedTy) × (us0 : List SizedTy) × (us ≡ first ∷ us0) × Keeps l (k + 2) × Keeps l (k + suc first.depth) × ((r : TypeRest) → IsTypeRest r → Keeps l (k + suc (type_rest_depth first.depth r)) → (ds : List Placed) → ds ≡ cs ++ type_rest_tokens r → K ts (sized_ty (type_rest_raw first.tree r) (suc (type_rest_depth first.depth r)) ∷ us0) ds)
Promise l (AfterArg k) K ts us cs = Keeps l (k + 2) × ((r : ArgRest) → IsArgRest r → Keeps l (k + suc (arg_rest_depth r)) → (x : List ℕ) (at : ℕ) (ds : List Placed) → ds ≡ cs ++ (arg_rest_tokens r ++ tok (Name x) at ∷ []) → K ts (sized_ty (raw_applied x (arg_rest_raw r) at) (suc (arg_rest_depth r)) ∷ us) ds)
Promise l ConName K ts us cs = (x : List ℕ) (at : ℕ) (ds : List Placed) → ds ≡ cs ++ tok (Name x) at ∷ [] → K ts (sized_ty (raw_applied x raw_none at) 1 ∷ us) ds
Promise l WantColons K ts us cs = (q : ℕ) (ds : List Placed) → ds ≡ cs ++ tok Colons q ∷ [] → K ts us ds
Promise l WantThen K ts us cs = (q : ℕ) (ds : List Placed) → ds ≡ cs ++ tok Then q ∷ [] → K ts us ds
Promise l WantElse K ts us cs = (q : ℕ) (ds : List Placed) → ds ≡ cs ++ tok Else q ∷ [] → K ts us ds
Promise l WantClose K ts us cs = (q : ℕ) (ds : List Placed) → ds ≡ cs ++ tok Close q ∷ [] → K ts us ds
Promise l s K ts us cs = MadePromise (does s) K ts us cs

-- whatever is read from here on, at the end there is one term or type of the kind, and all the words are its own
unfoldable pub Grows : Option ℕ → Kind → List Symbol → Cont
Grows l kind [] ts us cs = (x : WWhole) × IsWhole x × (kind_of x ≡ kind) × Keeps l (depth_of_whole x) × (whole ts us ≡ Some (tree_of x)) × (cs ≡ whole_tokens x)
Grows l kind (s ∷ ss) ts us cs = Promise l s (Grows l kind ss) ts us cs

pub starts : (l : Option ℕ) (kind : Kind) → Keeps l 1 → Grows l kind (start kind).todo (start kind).terms (start kind).types []
unfolding Grows
starts l TermKind g = (
  omega arith,
  g,
  λ t w m h ds e. (
    term_made t,
    [],
    refl,
    term_deep t,
    keeps_less l _ _ h (omega arith),
    λ r v f ds2 e2.
        elim r as (λ r. IsWholeRest r → Keeps l (whole_rest_depth (depth_of t) r) → ds2 ≡ ds ++ whole_rest_tokens r → Grows l TermKind [] (sized (whole_rest_raw (raw t) r) (whole_rest_depth (depth_of t) r) ∷ []) [] ds2) [
          | no_more ↦ λ v f e2. (whole_term t, w, refl, f, refl, rw (e2, e) (append-nil (term_tokens t)))
          | with_type c u ↦ λ v f e2. (whole_typed t c u, (w, v.0, v.1), refl, f, refl, rw (e2, e) refl)
        ] v f e2,
  ),
)
starts l TypeKind g = (omega arith, g, λ t w m h ds e. (whole_type t, (w, m), refl, keeps_less l _ _ h (omega arith), refl, e))

MoveKeeps : Option ℕ → Kind → Move → List Symbol → List Sized → List SizedTy → List Placed → Placed → Type 0
MoveKeeps l kind (takes d these) ss ts us cs a = Keeps l d → Grows l kind (these ++ ss) ts us (cs ++ a ∷ [])
MoveKeeps l kind passes ss ts us cs a = Grows l kind ss ts us cs
MoveKeeps l kind stops ss ts us cs a = Unit {0}

cond_keeps : (l : Option ℕ) (kind : Kind) (c : Bool) (m n : Move) (ss : List Symbol) (ts : List Sized) (us : List SizedTy) (cs : List Placed) (a : Placed) → (c ≡ true → MoveKeeps l kind m ss ts us cs a) → (c ≡ false → MoveKeeps l kind n ss ts us cs a) → MoveKeeps l kind (cond c m n) ss ts us cs a
cond_keeps l kind true m n ss ts us cs a p q = p refl
cond_keeps l kind false m n ss ts us cs a p q = q refl

-- types
ty_keeps : (l : Option ℕ) (kind : Kind) (n k : ℕ) (w : Word) (at : ℕ) (ss : List Symbol) (ts : List Sized) (us : List SizedTy) (cs : List Placed) → Promise l (Ty n k) (Grows l kind ss) ts us cs → MoveKeeps l kind (ty_move n k w at) ss ts us cs (tok w at)
unfolding MoveKeeps Grows
ty_keeps l kind n k (TyVar x) at ss ts us cs (m, g, f) = λ h. (variable x at, us, refl, (tt, refl, m, h, cs, refl, f))
ty_keeps l kind n k (Name x) at ss ts us cs (m, g, f) = λ h. (constant x at, us, refl, (tt, refl, m, h, cs, refl, f))
ty_keeps l kind n k Open at ss ts us cs (m, g, f) = λ h. (
  omega arith,
  keeps_less l _ _ h (omega arith),
  λ t w v d ds e. (
    type_made t,
    us,
    refl,
    h,
    keeps_less l _ _ d (omega arith),
    λ r z y ds2 e2.
        elim r as (λ r. IsTypeRest r → Keeps l (k + suc (type_rest_depth (depth_of_type t) r)) → ds2 ≡ ds ++ type_rest_tokens r → Promise l (MoreTy 5 n k) (Grows l kind ss) ts (sized_ty (type_rest_raw (raw_type t) r) (suc (type_rest_depth (depth_of_type t) r)) ∷ us) ds2) [
          | type_shut q ↦ λ z y e2. (round at t q, us, refl, ((w, v), refl, m, y, cs, rw (e2, e) (simp append_assoc), f))
          | type_args args x p ↦ λ z y e2. (applied at t args x p, us, refl, ((w, v, z), refl, m, y, cs, rw (e2, e) (simp append_assoc), f))
        ] z y e2,
  ),
)
ty_keeps l kind n k _ at ss ts us cs p = tt

ty_joins_are : (j n : ℕ) (o : Infix) → ty_joins j n o ≡ true → (n ≤ ty_level o) × (ty_left o ≤ j)
ty_joins_are j n o e = (grind (arith, nat_tests), grind (arith, nat_tests))

ty_applies_are : (j n : ℕ) → ty_applies j n ≡ true → (n ≤ 4) × (4 ≤ j)
ty_applies_are j n e = (grind (arith, nat_tests), grind (arith, nat_tests))

ty_level_5 : (o : Infix) → ty_level o ≤ 5
ty_level_5 Arrow = omega arith
ty_level_5 Plus = omega arith
ty_level_5 Times = omega arith
ty_level_5 _ = omega arith

pub ty_done : (l : Option ℕ) (kind : Kind) (j n k : ℕ) (ss : List Symbol) (ts : List Sized) (us : List SizedTy) (cs : List Placed) → Promise l (MoreTy j n k) (Grows l kind ss) ts us cs → Grows l kind ss ts us cs
ty_done l kind j n k ss ts us cs (t0, us0, is, (w, lv, m, g, bs, e, f)) = rw is (f t0 w (omega arith) g cs e)

more_ty_there : (l : Option ℕ) (kind : Kind) (j n k : ℕ) (w : Word) (at : ℕ) (ss : List Symbol) (ts : List Sized) (t0 : WType) (us0 : List SizedTy) (cs : List Placed) → AtType l (Grows l kind ss) j n k t0 ts us0 cs → MoveKeeps l kind (more_ty_move j n k (depth_of_type t0) w at) ss ts (type_made t0 ∷ us0) cs (tok w at)
unfolding MoveKeeps Grows
more_ty_there l kind j n k (Between o) at ss ts t0 us0 cs (w, lv, m, g, bs, e, f) =
    cond_keeps l kind (ty_joins j n o) _ passes ss ts (type_made t0 ∷ us0) cs (tok (Between o) at)
    (λ j2. let q = ty_joins_are j n o j2 in
    λ h. (ty_level_5 o, keeps_less l _ _ h (omega (arith, type_deep t0)), λ b v p d ds y. (between_types t0 o at b, us0, refl, ((w, v, rw lv q.1, p), refl, q.0, keeps_max l k (depth_of_type t0) (depth_of_type b) h (keeps_less l _ _ d (omega arith)), bs, rw (y, e) (simp append_assoc), f))))
    (λ _. f t0 w (omega arith) g cs e)
more_ty_there l kind j n k (Name x) at ss ts t0 us0 cs (w, lv, m, g, bs, e, f) =
    cond_keeps l kind (ty_applies j n) _ passes ss ts (type_made t0 ∷ us0) cs (tok (Name x) at)
    (λ j2. let q = ty_applies_are j n j2 in
    λ h. (postfix t0 x at, us0, refl, ((w, rw lv q.1), refl, q.0, h, bs, rw e (simp append_assoc), f)))
    (λ _. f t0 w (omega arith) g cs e)
more_ty_there l kind j n k _ at ss ts t0 us0 cs (w, lv, m, g, bs, e, f) = f t0 w (omega arith) g cs e

more_ty_keeps : (l : Option ℕ) (kind : Kind) (j n k : ℕ) (w : Word) (at : ℕ) (ss : List Symbol) (ts : List Sized) (us : List SizedTy) (cs : List Placed) → Promise l (MoreTy j n k) (Grows l kind ss) ts us cs → MoveKeeps l kind (more_ty_move j n k (top_ty_depth us) w at) ss ts us cs (tok w at)
more_ty_keeps l kind j n k w at ss ts us cs (t0, us0, is, p) = rw is (more_ty_there l kind j n k w at ss ts t0 us0 cs p)

arg_depths : (a b c : ℕ) → max (suc a) (max (suc b) (suc c)) ≡ suc (max a (max b c))
arg_depths a b c = grind (arith, nat_tests)

arg_depth : (b c : ℕ) → max (suc b) (suc c) ≡ suc (max b c)
arg_depth b c = grind (arith, nat_tests)

max_none : (b : ℕ) → max b 0 ≡ b
max_none b = grind (arith, nat_tests)

after_ty_keeps : (l : Option ℕ) (kind : Kind) (k : ℕ) (w : Word) (at : ℕ) (ss : List Symbol) (ts : List Sized) (us : List SizedTy) (cs : List Placed) → Promise l (AfterTy k) (Grows l kind ss) ts us cs → MoveKeeps l kind (after_ty_move k w at) ss ts us cs (tok w at)
unfolding MoveKeeps Grows
after_ty_keeps l kind k Close at ss ts us cs (u, us0, is, g, h, f) = λ _. rw is (f (type_shut at) tt h (cs ++ tok Close at ∷ []) refl)
after_ty_keeps l kind k Comma at ss ts us cs (u, us0, is, g, h, f) = λ _. (
  omega arith,
  keeps_less l _ _ g (omega arith),
  λ t w m d ds e. (
    g,
    λ r v y x p ds2 e2. rw (is, arg_depths u.depth (depth_of_type t) (arg_rest_depth r))
        (elim r as (λ r. IsArgRest r → Keeps l (k + suc (arg_rest_depth r)) → ds2 ≡ ds ++ (arg_rest_tokens r ++ tok (Name x) p ∷ []) → Grows l kind ss ts (sized_ty (raw_applied x (raw_more u.tree (raw_more (raw_type t) (arg_rest_raw r))) p) (suc (max u.depth (max (depth_of_type t) (arg_rest_depth r)))) ∷ us0) ds2) [
          | arg_shut q ↦ λ v y e2. rw (max_none (depth_of_type t)) (f (type_args (last_arg at t q) x p) (w, m) (keeps_max l k u.depth (depth_of_type t) h (keeps_less l _ _ d (omega arith))) ds2 (rw (e2, e) (simp append_assoc)))
          | arg_args args ↦ λ v y e2. f (type_args (next_arg at t args) x p) (w, m, v) (keeps_max l k u.depth (max (depth_of_type t) (depth_of_args args)) h (keeps_max l k (depth_of_type t) (depth_of_args args) (keeps_less l _ _ d (omega arith)) y)) ds2 (rw (e2, e) (simp append_assoc))
        ] v y e2),
  ),
)
after_ty_keeps l kind k _ at ss ts us cs p = tt

after_arg_keeps : (l : Option ℕ) (kind : Kind) (k : ℕ) (w : Word) (at : ℕ) (ss : List Symbol) (ts : List Sized) (us : List SizedTy) (cs : List Placed) → Promise l (AfterArg k) (Grows l kind ss) ts us cs → MoveKeeps l kind (after_arg_move k w at) ss ts us cs (tok w at)
unfolding MoveKeeps Grows
after_arg_keeps l kind k Close at ss ts us cs (g, f) = λ _ x p ds e. f (arg_shut at) tt (keeps_less l _ _ g (omega arith)) x p ds (rw e (simp append_assoc))
after_arg_keeps l kind k Comma at ss ts us cs (g, f) = λ _. (
  omega arith,
  keeps_less l _ _ g (omega arith),
  λ t w m d ds e. (
    g,
    λ r v y x p ds2 e2. rw (arg_depth (depth_of_type t) (arg_rest_depth r))
        (elim r as (λ r. IsArgRest r → Keeps l (k + suc (arg_rest_depth r)) → ds2 ≡ ds ++ (arg_rest_tokens r ++ tok (Name x) p ∷ []) → Grows l kind ss ts (sized_ty (raw_applied x (raw_more (raw_type t) (arg_rest_raw r)) p) (suc (max (depth_of_type t) (arg_rest_depth r))) ∷ us) ds2) [
          | arg_shut q ↦ λ v y e2. rw (max_none (depth_of_type t)) (f (arg_args (last_arg at t q)) (w, m) (keeps_less l _ _ d (omega arith)) x p ds2 (rw (e2, e) (simp append_assoc)))
          | arg_args args ↦ λ v y e2. f (arg_args (next_arg at t args)) (w, m, v) (keeps_max l k (depth_of_type t) (depth_of_args args) (keeps_less l _ _ d (omega arith)) y) x p ds2 (rw (e2, e) (simp append_assoc))
        ] v y e2),
  ),
)
after_arg_keeps l kind k _ at ss ts us cs p = tt

con_name_keeps : (l : Option ℕ) (kind : Kind) (w : Word) (at : ℕ) (ss : List Symbol) (ts : List Sized) (us : List SizedTy) (cs : List Placed) → Promise l ConName (Grows l kind ss) ts us cs → MoveKeeps l kind (con_name_move w at) ss ts us cs (tok w at)
unfolding MoveKeeps Grows
con_name_keeps l kind (Name x) at ss ts us cs f = λ _. f x at (cs ++ tok (Name x) at ∷ []) refl
con_name_keeps l kind _ at ss ts us cs f = tt

colons_keeps : (l : Option ℕ) (kind : Kind) (w : Word) (at : ℕ) (ss : List Symbol) (ts : List Sized) (us : List SizedTy) (cs : List Placed) → Promise l WantColons (Grows l kind ss) ts us cs → MoveKeeps l kind (colons_move w) ss ts us cs (tok w at)
unfolding MoveKeeps Grows
colons_keeps l kind Colons at ss ts us cs f = λ _. f at _ refl
colons_keeps l kind _ at ss ts us cs f = tt

then_keeps : (l : Option ℕ) (kind : Kind) (w : Word) (at : ℕ) (ss : List Symbol) (ts : List Sized) (us : List SizedTy) (cs : List Placed) → Promise l WantThen (Grows l kind ss) ts us cs → MoveKeeps l kind (then_move w) ss ts us cs (tok w at)
unfolding MoveKeeps Grows
then_keeps l kind Then at ss ts us cs f = λ _. f at _ refl
then_keeps l kind _ at ss ts us cs f = tt

else_keeps : (l : Option ℕ) (kind : Kind) (w : Word) (at : ℕ) (ss : List Symbol) (ts : List Sized) (us : List SizedTy) (cs : List Placed) → Promise l WantElse (Grows l kind ss) ts us cs → MoveKeeps l kind (else_move w) ss ts us cs (tok w at)
unfolding MoveKeeps Grows
else_keeps l kind Else at ss ts us cs f = λ _. f at _ refl
else_keeps l kind _ at ss ts us cs f = tt

close_keeps : (l : Option ℕ) (kind : Kind) (w : Word) (at : ℕ) (ss : List Symbol) (ts : List Sized) (us : List SizedTy) (cs : List Placed) → Promise l WantClose (Grows l kind ss) ts us cs → MoveKeeps l kind (close_move w) ss ts us cs (tok w at)
unfolding MoveKeeps Grows
close_keeps l kind Close at ss ts us cs f = λ _. f at _ refl
close_keeps l kind _ at ss ts us cs f = tt

-- terms: a parenthesis, whatever its atom is for
opened : (l : Option ℕ) (kind : Kind) (n k at : ℕ) (ss : List Symbol) (ts : List Sized) (us : List SizedTy) (cs : List Placed) → Promise l (Term n k) (Grows l kind ss) ts us cs → Keeps l (k + 2) → Grows l kind (Term 0 (k + 1) ∷ AfterTerm k ∷ MoreTerm 9 n k ∷ ss) ts us (cs ++ tok Open at ∷ [])
unfolding Grows
opened l kind n k at ss ts us cs (m, g, f) h = (
  omega arith,
  keeps_less l _ _ h (omega arith),
  λ t w v d ds e. (
    term_made t,
    ts,
    refl,
    term_deep t,
    h,
    keeps_less l _ _ d (omega arith),
    λ r z y ds2 e2.
        elim r as (λ r. IsTermRest r → Keeps l (k + suc (term_rest_depth (depth_of t) r)) → ds2 ≡ ds ++ term_rest_tokens r → Promise l (MoreTerm 9 n k) (Grows l kind ss) (sized (term_rest_raw (raw t) r) (suc (term_rest_depth (depth_of t) r)) ∷ ts) us ds2) [
          | term_shut q ↦ λ z y e2. (parens at t q, ts, refl, (w, refl, m, y, cs, rw (e2, e) (simp append_assoc), f))
          | term_typed c u q ↦ λ z y e2. (typed at t c u q, ts, refl, ((w, z.0, z.1), refl, m, y, cs, rw (e2, e) (simp append_assoc), f))
          | term_parts parts ↦ λ z y e2. (tuple at t parts, ts, refl, ((w, z), refl, m, y, cs, rw (e2, e) (simp append_assoc), f))
        ] z y e2,
  ),
)

choice_keeps : (l : Option ℕ) (k a b c : ℕ) → Keeps l (k + 1 + a) → Keeps l (k + 1 + b) → Keeps l (k + 1 + c) → Keeps l (k + suc (max a (max b c)))
choice_keeps l k a b c p q r = keeps_max l k a (max b c) (keeps_less l _ _ p (omega arith)) (keeps_max l k b c (keeps_less l _ _ q (omega arith)) (keeps_less l _ _ r (omega arith)))

term_keeps : (l : Option ℕ) (kind : Kind) (n k : ℕ) (w : Word) (at : ℕ) (ss : List Symbol) (ts : List Sized) (us : List SizedTy) (cs : List Placed) → Promise l (Term n k) (Grows l kind ss) ts us cs → MoveKeeps l kind (term_move n k w at) ss ts us cs (tok w at)
unfolding MoveKeeps Grows
term_keeps l kind n k (Name x) at ss ts us cs (m, g, f) = λ h. (named x at, ts, refl, (tt, refl, m, h, cs, refl, f))
term_keeps l kind n k (Number x) at ss ts us cs (m, g, f) = λ h. (numeral x at, ts, refl, (tt, refl, m, h, cs, refl, f))
term_keeps l kind n k Open at ss ts us cs p = λ h. opened l kind n k at ss ts us cs p h
term_keeps l kind n k Negation at ss ts us cs (m, g, f) =
    cond_keeps l kind (nat_le n 4) _ stops ss ts us cs (tok Negation at)
    (λ j h. (omega arith, keeps_less l _ _ h (omega arith), λ a w v d ds e. (negated at a, ts, refl, ((w, v), refl, grind (arith, nat_tests), keeps_less l _ _ d (omega arith), cs, rw e (simp append_assoc), f))))
    (λ _. tt)
term_keeps l kind n k (Binds b) at ss ts us cs (m, g, f) =
    cond_keeps l kind (n == 0) _ stops ss ts us cs (tok (Binds b) at)
    (λ j h. (h, λ vars w d ds e. f (bound b at vars) w (grind (arith, nat_tests)) d ds (rw e (simp append_assoc))))
    (λ _. tt)
term_keeps l kind n k If at ss ts us cs (m, g, f) =
    cond_keeps l kind (n == 0) _ stops ss ts us cs (tok If at)
    (λ j h. (
      omega arith,
      keeps_less l _ _ h (omega arith),
      λ a wa _ da d1 e1 q d2 e2. (
        omega arith,
        keeps_less l _ _ h (omega arith),
        λ b wb _ db d3 e3 r d4 e4. (
          omega arith,
          keeps_less l _ _ h (omega arith),
          λ c wc _ dc d5 e5.
              f (choice at a q b r c) (wa, wb, wc) (grind (arith, nat_tests)) (choice_keeps l k (depth_of a) (depth_of b) (depth_of c) da db dc) d5 (rw (e5, e4, e3, e2, e1) (simp append_assoc)),
        ),
      ),
    ))
    (λ _. tt)
term_keeps l kind n k _ at ss ts us cs p = tt

joins_are : (j n : ℕ) (o : Infix) → joins j n o ≡ true → (n ≤ level o) × (left o ≤ j)
joins_are j n o e = (grind (arith, nat_tests), grind (arith, nat_tests))

applies_are : (j n : ℕ) → applies j n ≡ true → (n ≤ 8) × (8 ≤ j)
applies_are j n e = (grind (arith, nat_tests), grind (arith, nat_tests))

right_9 : (o : Infix) → right o ≤ 9
right_9 Implies = omega arith
right_9 Disj = omega arith
right_9 Conj = omega arith
right_9 Equal = omega arith
right_9 Less = omega arith
right_9 Leq = omega arith
right_9 Plus = omega arith
right_9 Minus = omega arith
right_9 Times = omega arith
right_9 Arrow = omega arith

pub term_done : (l : Option ℕ) (kind : Kind) (j n k : ℕ) (ss : List Symbol) (ts : List Sized) (us : List SizedTy) (cs : List Placed) → Promise l (MoreTerm j n k) (Grows l kind ss) ts us cs → Grows l kind ss ts us cs
term_done l kind j n k ss ts us cs (t0, ts0, is, (w, lv, m, g, bs, e, f)) = rw is (f t0 w (omega arith) g cs e)

-- an argument is a term of the last level, and then an application is made
argued : (l : Option ℕ) (kind : Kind) (j n k : ℕ) (ss : List Symbol) (t0 : WTerm) (ts0 : List Sized) (us : List SizedTy) (cs : List Placed) → applies j n ≡ true → Keeps l (k + suc (depth_of t0)) → AtTerm l (Grows l kind ss) j n k t0 ts0 us cs → Promise l (Term 9 (k + 1)) (Grows l kind (MakeApp ∷ MoreTerm 8 n k ∷ ss)) (term_made t0 ∷ ts0) us cs
unfolding Grows
argued l kind j n k ss t0 ts0 us cs j2 h (w, lv, m, g, bs, e, f) =
    let q = applies_are j n j2 in
    (omega arith, keeps_less l _ _ h (omega (arith, term_deep t0)), λ x v p d ds y. (application t0 x, ts0, refl, ((w, v, rw lv q.1, p), refl, q.0, keeps_max l k (depth_of t0) (depth_of x) h (keeps_less l _ _ d (omega arith)), bs, rw (y, e) (simp append_assoc), f)))

more_there : (l : Option ℕ) (kind : Kind) (j n k : ℕ) (w : Word) (at : ℕ) (ss : List Symbol) (t0 : WTerm) (ts0 : List Sized) (us : List SizedTy) (cs : List Placed) → AtTerm l (Grows l kind ss) j n k t0 ts0 us cs → MoveKeeps l kind (more_move j n k (depth_of t0) w at) ss (term_made t0 ∷ ts0) us cs (tok w at)
unfolding MoveKeeps Grows
more_there l kind j n k (Between o) at ss t0 ts0 us cs (w, lv, m, g, bs, e, f) =
    cond_keeps l kind (joins j n o) _ passes ss (term_made t0 ∷ ts0) us cs (tok (Between o) at)
    (λ j2. let q = joins_are j n o j2 in
    λ h. (right_9 o, keeps_less l _ _ h (omega (arith, term_deep t0)), λ b v p d ds y. (between t0 o at b, ts0, refl, ((w, v, rw lv q.1, p), refl, q.0, keeps_max l k (depth_of t0) (depth_of b) h (keeps_less l _ _ d (omega arith)), bs, rw (y, e) (simp append_assoc), f))))
    (λ _. f t0 w (omega arith) g cs e)
more_there l kind j n k (Name x) at ss t0 ts0 us cs p =
    cond_keeps l kind (applies j n) _ passes ss (term_made t0 ∷ ts0) us cs (tok (Name x) at)
    (λ j2 h. term_keeps l kind 9 (k + 1) (Name x) at (MakeApp ∷ MoreTerm 8 n k ∷ ss) (term_made t0 ∷ ts0) us cs (argued l kind j n k ss t0 ts0 us cs j2 h p) (keeps_less l _ _ h (omega (arith, term_deep t0))))
    (λ _. term_done l kind j n k ss (term_made t0 ∷ ts0) us cs (t0, ts0, refl, p))
more_there l kind j n k (Number x) at ss t0 ts0 us cs p =
    cond_keeps l kind (applies j n) _ passes ss (term_made t0 ∷ ts0) us cs (tok (Number x) at)
    (λ j2 h. term_keeps l kind 9 (k + 1) (Number x) at (MakeApp ∷ MoreTerm 8 n k ∷ ss) (term_made t0 ∷ ts0) us cs (argued l kind j n k ss t0 ts0 us cs j2 h p) (keeps_less l _ _ h (omega (arith, term_deep t0))))
    (λ _. term_done l kind j n k ss (term_made t0 ∷ ts0) us cs (t0, ts0, refl, p))
more_there l kind j n k Open at ss t0 ts0 us cs p =
    cond_keeps l kind (applies j n) _ passes ss (term_made t0 ∷ ts0) us cs (tok Open at)
    (λ j2 h. opened l kind 9 (k + 1) at (MakeApp ∷ MoreTerm 8 n k ∷ ss) (term_made t0 ∷ ts0) us cs (argued l kind j n k ss t0 ts0 us cs j2 (keeps_less l _ _ h (omega (arith, left_max (depth_of t0) 2))) p) (keeps_less l _ _ h (omega (arith, right_max (depth_of t0) 2))))
    (λ _. term_done l kind j n k ss (term_made t0 ∷ ts0) us cs (t0, ts0, refl, p))
more_there l kind j n k _ at ss t0 ts0 us cs p = term_done l kind j n k ss (term_made t0 ∷ ts0) us cs (t0, ts0, refl, p)

more_keeps : (l : Option ℕ) (kind : Kind) (j n k : ℕ) (w : Word) (at : ℕ) (ss : List Symbol) (ts : List Sized) (us : List SizedTy) (cs : List Placed) → Promise l (MoreTerm j n k) (Grows l kind ss) ts us cs → MoveKeeps l kind (more_move j n k (top_depth ts) w at) ss ts us cs (tok w at)
more_keeps l kind j n k w at ss ts us cs (t0, ts0, is, p) = rw is (more_there l kind j n k w at ss t0 ts0 us cs p)

after_whole_there : (l : Option ℕ) (kind : Kind) (w : Word) (at : ℕ) (ss : List Symbol) (first : Sized) (ts0 : List Sized) (us : List SizedTy) (cs : List Placed) → Keeps l first.depth → ((r : WholeRest) → IsWholeRest r → Keeps l (whole_rest_depth first.depth r) → (ds : List Placed) → ds ≡ cs ++ whole_rest_tokens r → Grows l kind ss (sized (whole_rest_raw first.tree r) (whole_rest_depth first.depth r) ∷ ts0) us ds) → 1 ≤ first.depth → MoveKeeps l kind (after_whole_move first.depth w at) ss (first ∷ ts0) us cs (tok w at)
unfolding MoveKeeps Grows
after_whole_there l kind Colons at ss first ts0 us cs g f b = λ h. (omega arith, keeps_less l _ _ h (omega arith), λ t w m d ds e. f (with_type at t) (w, m) (keeps_less l _ _ (keeps_max l 0 first.depth (depth_of_type t) (keeps_less l _ _ h (omega arith)) (keeps_less l _ _ d (omega arith))) (omega arith)) ds (rw e (simp append_assoc)))
after_whole_there l kind _ at ss first ts0 us cs g f b = f no_more tt g cs (sym (append-nil cs))

after_part_keeps : (l : Option ℕ) (kind : Kind) (k : ℕ) (w : Word) (at : ℕ) (ss : List Symbol) (ts : List Sized) (us : List SizedTy) (cs : List Placed) → Promise l (AfterPart k) (Grows l kind ss) ts us cs → MoveKeeps l kind (after_part_move k w at) ss ts us cs (tok w at)
unfolding MoveKeeps Grows
after_part_keeps l kind k Close at ss ts us cs (a, ts0, is, g, h, f) = λ _. rw is (f (part_shut at) tt h _ refl)
after_part_keeps l kind k Comma at ss ts us cs (a, ts0, is, g, h, f) = λ _. (
  omega arith,
  keeps_less l _ _ g (omega arith),
  λ t w m d ds e. (
    term_made t,
    ts,
    refl,
    g,
    keeps_less l _ _ d (omega arith),
    λ r v y ds2 e2. rw is
        (elim r as (λ r. IsPartRest r → Keeps l (k + suc (part_rest_depth (depth_of t) r)) → ds2 ≡ ds ++ part_rest_tokens r → Grows l kind ss (sized (with_two (codes "Pair") at a.tree (part_rest_raw (raw t) r)) (max a.depth (part_rest_depth (depth_of t) r)) ∷ ts0) us ds2) [
          | part_shut q ↦ λ v y e2. f (part_parts (last_part at t q)) w (keeps_max l k a.depth (depth_of t) h y) ds2 (rw (e2, e) (simp append_assoc))
          | part_parts parts ↦ λ v y e2. f (part_parts (next_part at t parts)) (w, v) (keeps_max l k a.depth (max (depth_of t) (depth_of_parts parts)) h y) ds2 (rw (e2, e) (simp append_assoc))
        ] v y e2),
  ),
)
after_part_keeps l kind k _ at ss ts us cs p = tt

after_term_there : (l : Option ℕ) (kind : Kind) (k : ℕ) (w : Word) (at : ℕ) (ss : List Symbol) (a : Sized) (ts0 : List Sized) (us : List SizedTy) (cs : List Placed) → Keeps l (k + 2) → Keeps l (k + suc a.depth) → ((r : TermRest) → IsTermRest r → Keeps l (k + suc (term_rest_depth a.depth r)) → (ds : List Placed) → ds ≡ cs ++ term_rest_tokens r → Grows l kind ss (sized (term_rest_raw a.tree r) (suc (term_rest_depth a.depth r)) ∷ ts0) us ds) → 1 ≤ a.depth → MoveKeeps l kind (after_term_move k a.depth w at) ss (a ∷ ts0) us cs (tok w at)
unfolding MoveKeeps Grows
after_term_there l kind k Close at ss a ts0 us cs g h f b = λ _. f (term_shut at) tt h _ refl
after_term_there l kind k Colons at ss a ts0 us cs g h f b = λ y.
    (omega arith, keeps_less l _ _ y (omega arith), λ t w m d ds e q ds2 e2. f (term_typed at t q) (w, m) (keeps_less l _ _ (keeps_max l (k + 1) a.depth (depth_of_type t) (keeps_less l _ _ y (omega arith)) (keeps_less l _ _ d (omega arith))) (omega arith)) ds2 (rw (e2, e) (simp append_assoc)))
after_term_there l kind k Comma at ss a ts0 us cs g h f b = λ _. (
  omega arith,
  keeps_less l _ _ g (omega arith),
  λ t w m d ds e. (
    term_made t,
    a ∷ ts0,
    refl,
    g,
    keeps_less l _ _ d (omega arith),
    λ r v y ds2 e2.
        elim r as (λ r. IsPartRest r → Keeps l (k + suc (part_rest_depth (depth_of t) r)) → ds2 ≡ ds ++ part_rest_tokens r → Grows l kind ss (sized (with_two (codes "Pair") at a.tree (part_rest_raw (raw t) r)) (suc (max a.depth (part_rest_depth (depth_of t) r))) ∷ ts0) us ds2) [
          | part_shut q ↦ λ v y e2. f (term_parts (last_part at t q)) w (keeps_max l k a.depth (depth_of t) h y) ds2 (rw (e2, e) (simp append_assoc))
          | part_parts parts ↦ λ v y e2. f (term_parts (next_part at t parts)) (w, v) (keeps_max l k a.depth (max (depth_of t) (depth_of_parts parts)) h y) ds2 (rw (e2, e) (simp append_assoc))
        ] v y e2,
  ),
)
after_term_there l kind k _ at ss a ts0 us cs g h f b = tt

after_whole_keeps : (l : Option ℕ) (kind : Kind) (w : Word) (at : ℕ) (ss : List Symbol) (ts : List Sized) (us : List SizedTy) (cs : List Placed) → Promise l AfterWhole (Grows l kind ss) ts us cs → MoveKeeps l kind (after_whole_move (top_depth ts) w at) ss ts us cs (tok w at)
after_whole_keeps l kind w at ss ts us cs (a, ts0, is, b, g, f) = rw is (after_whole_there l kind w at ss a ts0 us cs g f b)

after_term_keeps : (l : Option ℕ) (kind : Kind) (k : ℕ) (w : Word) (at : ℕ) (ss : List Symbol) (ts : List Sized) (us : List SizedTy) (cs : List Placed) → Promise l (AfterTerm k) (Grows l kind ss) ts us cs → MoveKeeps l kind (after_term_move k (top_depth ts) w at) ss ts us cs (tok w at)
after_term_keeps l kind k w at ss ts us cs (a, ts0, is, b, g, h, f) = rw is (after_term_there l kind k w at ss a ts0 us cs g h f b)

vars_rest_deep : (r : VarsRest) → 1 ≤ vars_rest_depth r
vars_rest_deep (vars_body at a) = term_deep a
vars_rest_deep (vars_vars (last_var x at a)) = omega (arith, term_deep a, right_max (depth_of_var x) (depth_of a))
vars_rest_deep (vars_vars (next_var x vars)) = omega (arith, vars_rest_deep (vars_vars vars), right_max (depth_of_var x) (depth_of_vars vars))

-- a variable, and what is promised of the rest
name_var : (l : Option ℕ) (kind : Kind) (b : Binder) (k : ℕ) (x : List ℕ) (at : ℕ) (ss : List Symbol) (ts : List Sized) (us : List SizedTy) (cs : List Placed) → Keeps l (k + 2) → AtVars l (Grows l kind ss) b k ts us cs → Grows l kind (MoreVars b k ∷ MakeAbs b x at ∷ ss) ts us (cs ++ tok (Name x) at ∷ [])
unfolding Grows
name_var l kind b k x at ss ts us cs g f = (
  g,
  λ r v y ds e.
      elim r as (λ r. IsVarsRest r → Keeps l (k + suc (vars_rest_depth r)) → ds ≡ (cs ++ tok (Name x) at ∷ []) ++ vars_rest_tokens r → Grows l kind ss (sized (binding b x at None (vars_rest_raw b r)) (max 1 (vars_rest_depth r)) ∷ ts) us ds) [
        | vars_body d t ↦ λ v y e. f (last_var (only_name x at) d t) (tt, v) (keeps_max l k 1 (depth_of t) (keeps_less l _ _ g (omega arith)) y) ds (rw e (simp append_assoc))
        | vars_vars vars ↦ λ v y e. f (next_var (only_name x at) vars) (tt, v) (keeps_max l k 1 (depth_of_vars vars) (keeps_less l _ _ g (omega arith)) y) ds (rw e (simp append_assoc))
      ] v y e,
)

open_var : (l : Option ℕ) (kind : Kind) (b : Binder) (k at : ℕ) (ss : List Symbol) (ts : List Sized) (us : List SizedTy) (cs : List Placed) → Keeps l (k + 3) → AtVars l (Grows l kind ss) b k ts us cs → Grows l kind (VarName b k ∷ ss) ts us (cs ++ tok Open at ∷ [])
unfolding Grows
open_var l kind b k at ss ts us cs g f = (
  g,
  λ x p c t q w m z r v y ds e.
      elim r as (λ r. IsVarsRest r → Keeps l (k + suc (vars_rest_depth r)) → ds ≡ (cs ++ tok Open at ∷ []) ++ (tok (Name x) p ∷ tok Colons c ∷ ((type_tokens t ++ tok Close q ∷ []) ++ vars_rest_tokens r)) → Grows l kind ss (sized (binding b x p (Some (raw_type t)) (vars_rest_raw b r)) (max (suc (depth_of_type t)) (vars_rest_depth r)) ∷ ts) us ds) [
        | vars_body d a ↦ λ v y e. f (last_var (typed_var at x p c t q) d a) ((w, m), v) (keeps_max l k (suc (depth_of_type t)) (depth_of a) z y) ds (rw e (simp append_assoc))
        | vars_vars vars ↦ λ v y e. f (next_var (typed_var at x p c t q) vars) ((w, m), v) (keeps_max l k (suc (depth_of_type t)) (depth_of_vars vars) z y) ds (rw e (simp append_assoc))
      ] v y e,
)

vars_keeps : (l : Option ℕ) (kind : Kind) (b : Binder) (k : ℕ) (w : Word) (at : ℕ) (ss : List Symbol) (ts : List Sized) (us : List SizedTy) (cs : List Placed) → Promise l (Vars b k) (Grows l kind ss) ts us cs → MoveKeeps l kind (vars_move b k w at) ss ts us cs (tok w at)
unfolding MoveKeeps Grows
vars_keeps l kind b k (Name x) at ss ts us cs (g, f) = λ _. name_var l kind b k x at ss ts us cs g f
vars_keeps l kind b k Open at ss ts us cs (g, f) = λ h. open_var l kind b k at ss ts us cs h f
vars_keeps l kind b k _ at ss ts us cs f = tt

more_vars_keeps : (l : Option ℕ) (kind : Kind) (b : Binder) (k : ℕ) (w : Word) (at : ℕ) (ss : List Symbol) (ts : List Sized) (us : List SizedTy) (cs : List Placed) → Promise l (MoreVars b k) (Grows l kind ss) ts us cs → MoveKeeps l kind (more_vars_move b k w at) ss ts us cs (tok w at)
unfolding MoveKeeps Grows
more_vars_keeps l kind b k (Name x) at ss ts us cs (g, f) = λ _. name_var l kind b k x at ss ts us cs g (λ vars. f (vars_vars vars))
more_vars_keeps l kind b k Open at ss ts us cs (g, f) = λ h. open_var l kind b k at ss ts us cs h (λ vars. f (vars_vars vars))
more_vars_keeps l kind b k Dot at ss ts us cs (g, f) = λ _. (omega arith, keeps_less l _ _ g (omega arith), λ t w m d ds e. f (vars_body at t) w (keeps_less l _ _ d (omega arith)) ds (rw e (simp append_assoc)))
more_vars_keeps l kind b k _ at ss ts us cs f = tt

var_name_keeps : (l : Option ℕ) (kind : Kind) (b : Binder) (k : ℕ) (w : Word) (at : ℕ) (ss : List Symbol) (ts : List Sized) (us : List SizedTy) (cs : List Placed) → Promise l (VarName b k) (Grows l kind ss) ts us cs → MoveKeeps l kind (var_name_move b k w at) ss ts us cs (tok w at)
unfolding MoveKeeps Grows
var_name_keeps l kind b k (Name x) at ss ts us cs (g, f) = λ _ c d1 e1. (omega arith, keeps_less l _ _ g (omega arith), λ t w m z d2 e2 q d3 e3. (keeps_less l _ _ g (omega arith), λ r v y d4 e4. f x at c t q w m (keeps_less l _ _ z (omega arith)) r v y d4 (rw (e4, e3, e2, e1) (simp append_assoc))))
var_name_keeps l kind b k _ at ss ts us cs f = tt

-- a step keeps what is promised
StepKeeps : Option ℕ → Kind → Out → List Placed → Placed → Type 0
StepKeeps l kind (on s) cs a = Grows l kind s.todo s.terms s.types (cs ++ a ∷ [])
StepKeeps l kind refused cs a = Unit {0}
StepKeeps l kind too_deep cs a = Unit {0}

DoesKeep : Option ℕ → Kind → Does → List Symbol → List Sized → List SizedTy → List Placed → Placed → Type 0
DoesKeep l kind (reads f b) ss ts us cs a = MoveKeeps l kind (f (top_depth ts) (top_ty_depth us) a.word a.at) ss ts us cs a
DoesKeep l kind (makes f) ss ts us cs a = MatchOption (f ts us) ⊥ (λ m. Grows l kind ss m.terms m.types cs)

does_keep : (l : Option ℕ) (kind : Kind) (s : Symbol) (ss : List Symbol) (ts : List Sized) (us : List SizedTy) (cs : List Placed) (a : Placed) → Promise l s (Grows l kind ss) ts us cs → DoesKeep l kind (does s) ss ts us cs a
unfolding DoesKeep
does_keep l kind (Term n k) ss ts us cs a p = term_keeps l kind n k a.word a.at ss ts us cs p
does_keep l kind (MoreTerm j n k) ss ts us cs a p = more_keeps l kind j n k a.word a.at ss ts us cs p
does_keep l kind AfterWhole ss ts us cs a p = after_whole_keeps l kind a.word a.at ss ts us cs p
does_keep l kind (AfterTerm k) ss ts us cs a p = after_term_keeps l kind k a.word a.at ss ts us cs p
does_keep l kind (AfterPart k) ss ts us cs a p = after_part_keeps l kind k a.word a.at ss ts us cs p
does_keep l kind (Vars b k) ss ts us cs a p = vars_keeps l kind b k a.word a.at ss ts us cs p
does_keep l kind (MoreVars b k) ss ts us cs a p = more_vars_keeps l kind b k a.word a.at ss ts us cs p
does_keep l kind (VarName b k) ss ts us cs a p = var_name_keeps l kind b k a.word a.at ss ts us cs p
does_keep l kind (Ty n k) ss ts us cs a p = ty_keeps l kind n k a.word a.at ss ts us cs p
does_keep l kind (MoreTy j n k) ss ts us cs a p = more_ty_keeps l kind j n k a.word a.at ss ts us cs p
does_keep l kind (AfterTy k) ss ts us cs a p = after_ty_keeps l kind k a.word a.at ss ts us cs p
does_keep l kind (AfterArg k) ss ts us cs a p = after_arg_keeps l kind k a.word a.at ss ts us cs p
does_keep l kind ConName ss ts us cs a p = con_name_keeps l kind a.word a.at ss ts us cs p
does_keep l kind WantColons ss ts us cs a p = colons_keeps l kind a.word a.at ss ts us cs p
does_keep l kind WantThen ss ts us cs a p = then_keeps l kind a.word a.at ss ts us cs p
does_keep l kind WantElse ss ts us cs a p = else_keeps l kind a.word a.at ss ts us cs p
does_keep l kind WantClose ss ts us cs a p = close_keeps l kind a.word a.at ss ts us cs p
does_keep l kind _ ss ts us cs a p = p

cond_step : (l : Option ℕ) (kind : Kind) (c : Bool) (s : State) (cs : List Placed) (a : Placed) → (c ≡ true → Grows l kind s.todo s.terms s.types (cs ++ a ∷ [])) → StepKeeps l kind (cond c (on s) too_deep) cs a
unfolding StepKeeps
cond_step l kind true s cs a f = f refl
cond_step l kind false s cs a f = tt

stopped : (l : Option ℕ) (kind : Kind) (cs : List Placed) (a : Placed) → StepKeeps l kind refused cs a
unfolding StepKeeps
stopped l kind cs a = tt

move_step : (l : Option ℕ) (kind : Kind) (m : Move) (without : Out) (ss : List Symbol) (ts : List Sized) (us : List SizedTy) (cs : List Placed) (a : Placed) → MoveKeeps l kind m ss ts us cs a → (Grows l kind ss ts us cs → StepKeeps l kind without cs a) → StepKeeps l kind (moved l m without ss ts us) cs a
unfolding MoveKeeps
move_step l kind (takes d these) without ss ts us cs a k f = cond_step l kind (keeps l d) (state (these ++ ss) ts us) cs a (λ e. k (keeps_is l d e))
move_step l kind passes without ss ts us cs a k f = f k
move_step l kind stops without ss ts us cs a k f = stopped l kind cs a

made_step : (l : Option ℕ) (kind : Kind) (o : Option Made) (ss : List Symbol) (cs : List Placed) (a : Placed) → MatchOption o ⊥ (λ m. Grows l kind ss m.terms m.types cs) → ((ts : List Sized) (us : List SizedTy) → Grows l kind ss ts us cs → StepKeeps l kind (step l a ss ts us) cs a) → StepKeeps l kind (when_made (step l a ss) o) cs a
made_step l kind None ss cs a k f = absurd k
made_step l kind (Some m) ss cs a k f = f m.terms m.types k

does_step_keeps : (l : Option ℕ) (kind : Kind) (d : Does) (ss : List Symbol) (ts : List Sized) (us : List SizedTy) (cs : List Placed) (a : Placed) → DoesKeep l kind d ss ts us cs a → ((ts : List Sized) (us : List SizedTy) → Grows l kind ss ts us cs → StepKeeps l kind (step l a ss ts us) cs a) → StepKeeps l kind (does_step l d (step l a ss) ss ts us a) cs a
unfolding DoesKeep
does_step_keeps l kind (reads g b) ss ts us cs a k f = move_step l kind (g (top_depth ts) (top_ty_depth us) a.word a.at) _ ss ts us cs a k (f ts us)
does_step_keeps l kind (makes g) ss ts us cs a k f = made_step l kind (g ts us) ss cs a k f

step_keeps : (l : Option ℕ) (kind : Kind) (ss : List Symbol) (ts : List Sized) (us : List SizedTy) (cs : List Placed) (a : Placed) → Grows l kind ss ts us cs → StepKeeps l kind (step l a ss ts us) cs a
unfolding Grows StepKeeps
step_keeps l kind [] ts us cs a g = tt
step_keeps l kind (s ∷ ss) ts us cs a g = does_step_keeps l kind (does s) ss ts us cs a (does_keep l kind s ss ts us cs a g) (λ ts us g. step_keeps l kind ss ts us cs a g)

unfoldable pub OutGrows : Option ℕ → Kind → Out → List Placed → Type 0
OutGrows l kind (on s) cs = Grows l kind s.todo s.terms s.types cs
OutGrows l kind refused cs = Unit {0}
OutGrows l kind too_deep cs = Unit {0}

pub run_keeps : (l : Option ℕ) (kind : Kind) (tokens : List Placed) (s : State) (cs : List Placed) → Grows l kind s.todo s.terms s.types cs → OutGrows l kind (run l s tokens) (cs ++ tokens)
unfolding OutGrows StepKeeps
run_keeps l kind [] s cs g = rw append-nil g
run_keeps l kind (a ∷ tail) s cs g =
    elim (step l a s.todo s.terms s.types) as (λ o. StepKeeps l kind o cs a → OutGrows l kind (then_out (λ next. run l next tail) o) (cs ++ a ∷ tail)) [
      | on next ↦ λ g. rw append_assoc at (run_keeps l kind tail next (cs ++ a ∷ []) g)
      | refused ↦ λ _. tt
      | too_deep ↦ λ _. tt
    ] (step_keeps l kind s.todo s.terms s.types cs a g)

-- at the end the tree is that of the words
EndIs : Option ℕ → Kind → Option Made → List Placed → Tree → Type 0
EndIs l kind o cs tree = option_and_then (λ m. whole m.terms m.types) o ≡ Some tree → (x : WWhole) × IsWhole x × (kind_of x ≡ kind) × Keeps l (depth_of_whole x) × (tree_of x ≡ tree) × (cs ≡ whole_tokens x)

end_made : (l : Option ℕ) (kind : Kind) (o : Option Made) (ss : List Symbol) (cs : List Placed) (tree : Tree) → MatchOption o ⊥ (λ m. Grows l kind ss m.terms m.types cs) → ((ts : List Sized) (us : List SizedTy) → Grows l kind ss ts us cs → EndIs l kind (finish ss ts us) cs tree) → EndIs l kind (option_and_then (λ m. finish ss m.terms m.types) o) cs tree
end_made l kind None ss cs tree k f = absurd k
end_made l kind (Some m) ss cs tree k f = f m.terms m.types k

whole_done : (l : Option ℕ) (kind : Kind) (ss : List Symbol) (ts : List Sized) (us : List SizedTy) (cs : List Placed) → Promise l AfterWhole (Grows l kind ss) ts us cs → Grows l kind ss ts us cs
whole_done l kind ss ts us cs (a, ts0, is, b, g, f) = rw is (f no_more tt g cs (sym (append-nil cs)))

end_sound : (l : Option ℕ) (kind : Kind) (ss : List Symbol) (ts : List Sized) (us : List SizedTy) (cs : List Placed) (tree : Tree) → Grows l kind ss ts us cs → EndIs l kind (finish ss ts us) cs tree
unfolding EndIs Grows
end_sound l kind [] ts us cs tree (x, w, kd, g, is, e) = λ d. (x, w, kd, g, same_Some (tree_of x) tree (sym is ∙ d), e)
end_sound l kind (MoreTerm j n k ∷ ss) ts us cs tree g = end_sound l kind ss ts us cs tree (term_done l kind j n k ss ts us cs g)
end_sound l kind (MoreTy j n k ∷ ss) ts us cs tree g = end_sound l kind ss ts us cs tree (ty_done l kind j n k ss ts us cs g)
end_sound l kind (AfterWhole ∷ ss) ts us cs tree g = end_sound l kind ss ts us cs tree (whole_done l kind ss ts us cs g)
end_sound l kind (Term n k ∷ ss) ts us cs tree g = λ e. absurd (none-some tree e)
end_sound l kind (AfterTerm k ∷ ss) ts us cs tree g = λ e. absurd (none-some tree e)
end_sound l kind (AfterPart k ∷ ss) ts us cs tree g = λ e. absurd (none-some tree e)
end_sound l kind (Vars b k ∷ ss) ts us cs tree g = λ e. absurd (none-some tree e)
end_sound l kind (MoreVars b k ∷ ss) ts us cs tree g = λ e. absurd (none-some tree e)
end_sound l kind (VarName b k ∷ ss) ts us cs tree g = λ e. absurd (none-some tree e)
end_sound l kind (Ty n k ∷ ss) ts us cs tree g = λ e. absurd (none-some tree e)
end_sound l kind (AfterTy k ∷ ss) ts us cs tree g = λ e. absurd (none-some tree e)
end_sound l kind (AfterArg k ∷ ss) ts us cs tree g = λ e. absurd (none-some tree e)
end_sound l kind (ConName ∷ ss) ts us cs tree g = λ e. absurd (none-some tree e)
end_sound l kind (WantColons ∷ ss) ts us cs tree g = λ e. absurd (none-some tree e)
end_sound l kind (WantThen ∷ ss) ts us cs tree g = λ e. absurd (none-some tree e)
end_sound l kind (WantElse ∷ ss) ts us cs tree g = λ e. absurd (none-some tree e)
end_sound l kind (WantClose ∷ ss) ts us cs tree g = λ e. absurd (none-some tree e)
end_sound l kind (MakeName x at ∷ ss) ts us cs tree g = end_sound l kind ss _ _ cs tree g
end_sound l kind (MakeNumber x at ∷ ss) ts us cs tree g = end_sound l kind ss _ _ cs tree g
end_sound l kind (MakeTyVar x at ∷ ss) ts us cs tree g = end_sound l kind ss _ _ cs tree g
end_sound l kind (MakeCon x at ∷ ss) ts us cs tree g = end_sound l kind ss _ _ cs tree g
end_sound l kind (s ∷ ss) ts us cs tree g = end_made l kind _ ss cs tree g (λ ts us g. end_sound l kind ss ts us cs tree g)

-- what is read is a term or type of the grammar within the depth
pub sound : (l : Option ℕ) (kind : Kind) (tokens : List Placed) (tree : Tree) → Keeps l 1 → out_ended (run l (start kind) tokens) ≡ Some tree → (x : WWhole) × IsWhole x × (kind_of x ≡ kind) × Keeps l (depth_of_whole x) × (tree_of x ≡ tree) × (tokens ≡ whole_tokens x)
unfolding OutGrows EndIs
sound l kind tokens tree b e =
    elim (run l (start kind) tokens) as (λ o. OutGrows l kind o tokens → out_ended o ≡ Some tree → (x : WWhole) × IsWhole x × (kind_of x ≡ kind) × Keeps l (depth_of_whole x) × (tree_of x ≡ tree) × (tokens ≡ whole_tokens x)) [
      | on s ↦ λ g e. end_sound l kind s.todo s.terms s.types tokens tree g e
      | refused ↦ λ _ e. absurd (none-some tree e)
      | too_deep ↦ λ _ e. absurd (none-some tree e)
    ] (run_keeps l kind tokens (start kind) [] (starts l kind b)) e
