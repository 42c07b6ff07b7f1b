-- Each term and type that the grammar has within the depth is read, as its tree.
use Rattle.std.proofs.Common.{◌≡◌, ◌∙◌, ◌+◌, ◌≤◌, ◌<◌, ℕ, suc, max, List, [], ◌∷◌, ◌++◌, Bool, true, false, cond, ◌==◌, nat_le, Option, Some, refl, sym, ap, append_assoc, append-nil, arith}
use Rattle.std.specs.Option.{option_and_then}
use Rattle.std.proofs.lemmas.Bool.Decides.{nat_tests}
use Rattle.fp_words.specs.declared.word.Infix.{Infix}
use Rattle.fp_words.specs.declared.word.Infix.TheVariants.{Implies, Disj, Conj, Equal, Less, Leq, Plus, Minus, Times, Arrow}
use Rattle.fp_words.specs.declared.word.Binder.{Binder}
use Rattle.fp_words.specs.declared.word.Word.{Word}
use Rattle.fp_words.specs.declared.word.Word.TheVariants.{Name, TyVar, Number, Between, Negation, Binds, Dot, Comma, Open, Close, Colons, If, Then, Else}
use Rattle.fp_words.specs.declared.word.Placed.{Placed}
use Rattle.fp_written.specs.Symbols.{Symbol}
use Rattle.fp_written.specs.Symbols.{Term, MoreTerm, AfterWhole, AfterTerm, AfterPart, Vars, MoreVars, VarName, Ty, MoreTy, AfterTy, AfterArg, ConName, WantColons, WantThen, WantElse, WantClose, MakeName, MakeNumber, MakeApp, MakeInfix, MakeNot, MakeIf, MakePair, MakeTyped, MakeAbs, MakeTypedAbs, Deepen, MakeTyVar, MakeCon, MakePost, MakeTyInfix, MakeArg, DeepenTy}
use Rattle.fp_raw.specs.Raws.{raw_applied, raw_none, raw_more, RawTm, raw_typed}
use Rattle.fp_written.specs.Written.{WType, variable, constant, postfix, between_types, round, applied, WArgs, last_arg, next_arg, tok, type_tokens, arg_tokens, ty_level, ty_left, level_of_type, IsType, AreArgs, raw_type, raw_args, depth_of_type, depth_of_args, WVar, only_name, typed_var, WTerm, named, numeral, application, between, negated, bound, choice, parens, typed, tuple, WParts, last_part, next_part, WVars, last_var, next_var, var_tokens, term_tokens, part_tokens, vars_tokens, level, left, right, level_of, IsVar, Keeps, IsTerm, AreParts, AreVars, depth_of_var, depth_of, depth_of_parts, depth_of_vars, bind_var, raw, raw_parts, raw_vars, WWhole, whole_term, whole_typed, whole_type, Tree, kind_of, whole_tokens, IsWhole, depth_of_whole, tree_of}
use Rattle.fp_written.specs.Machine.{Move, takes, passes, joins, applies, more_move, ty_joins, ty_applies, more_ty_move, Sized, SizedTy, sized, sized_ty, Made, reads, makes, does, state, on, too_deep, top_depth, top_ty_depth, moved, when_made, does_step, step, does_finish, finish, whole, then_out, run, out_ended, start}
use Rattle.fp_written.proofs.Bounds.{keeps_yes, keeps_less, keeps_max, left_max, right_max, term_deep, type_deep}

-- the tree that is read from there on
pub goes : Option ℕ → List Symbol → List Sized → List SizedTy → List Placed → Option Tree
goes l ss ts us tokens = out_ended (run l (state ss ts us) tokens)

-- what is to be made is made, whatever follows
pub made_now : (l : Option ℕ) (s : Symbol) (f : List Sized → List SizedTy → Option Made) (m : Made) (ss : List Symbol) (ts : List Sized) (us : List SizedTy) (rest : List Placed) → does s ≡ makes f → f ts us ≡ Some m → goes l (s ∷ ss) ts us rest ≡ goes l ss m.terms m.types rest
unfolding goes
made_now l s f m ss ts us [] e d =
    ap (λ x. option_and_then (λ m. whole m.terms m.types) (does_finish x (finish ss) ts us)) e
    ∙ ap (λ o. option_and_then (λ m. whole m.terms m.types) (option_and_then (λ m. finish ss m.terms m.types) o)) d
made_now l s f m ss ts us (a ∷ tail) e d =
    ap (λ x. out_ended (then_out (λ next. run l next tail) (does_step l x (step l a ss) ss ts us a))) e
    ∙ ap (λ o. out_ended (then_out (λ next. run l next tail) (when_made (step l a ss) o))) d

-- the next word is taken, or let pass
pub moved_now : (l : Option ℕ) (s : Symbol) (f : ℕ → ℕ → Word → ℕ → Move) (b : Bool) (m : Move) (ss : List Symbol) (ts : List Sized) (us : List SizedTy) (a : Placed) (tail : List Placed) → does s ≡ reads f b → f (top_depth ts) (top_ty_depth us) a.word a.at ≡ m → goes l (s ∷ ss) ts us (a ∷ tail) ≡ out_ended (then_out (λ next. run l next tail) (moved l m (step l a ss ts us) ss ts us))
unfolding goes
moved_now l s f b m ss ts us a tail e d =
    ap (λ x. out_ended (then_out (λ next. run l next tail) (does_step l x (step l a ss) ss ts us a))) e
    ∙ ap (λ x. out_ended (then_out (λ next. run l next tail) (moved l x (step l a ss ts us) ss ts us))) d

-- it is taken within the depth
pub taken_now : (l : Option ℕ) (s : Symbol) (f : ℕ → ℕ → Word → ℕ → Move) (b : Bool) (d : ℕ) (these ss : List Symbol) (ts : List Sized) (us : List SizedTy) (a : Placed) (tail : List Placed) → does s ≡ reads f b → f (top_depth ts) (top_ty_depth us) a.word a.at ≡ takes d these → Keeps l d → goes l (s ∷ ss) ts us (a ∷ tail) ≡ goes l (these ++ ss) ts us tail
unfolding goes
taken_now l s f b d these ss ts us a tail e g k =
    moved_now l s f b (takes d these) ss ts us a tail e g
    ∙ ap (λ c. out_ended (then_out (λ next. run l next tail) (cond c (on (state (these ++ ss) ts us)) too_deep))) (keeps_yes l d k)

-- types

-- behind a type of any level, in a place that needs at least m, the word isn't part of the type
pub TyHalts : ℕ → List Placed → Type 0
TyHalts m [] = Unit {0}
TyHalts m (a ∷ tail) = (j n k d at : ℕ) → m ≤ n → more_ty_move j n k d a.word at ≡ passes

pub ty_edge : ℕ → ℕ
ty_edge l = cond (nat_le 4 l) (l + 1) l

ty_passed : (l : Option ℕ) (j n k : ℕ) (ss : List Symbol) (ts : List Sized) (us : List SizedTy) (rest : List Placed) → TyHalts n rest → goes l (MoreTy j n k ∷ ss) ts us rest ≡ goes l ss ts us rest
unfolding goes TyHalts
ty_passed l j n k ss ts us [] h = refl
ty_passed l j n k ss ts us (a ∷ tail) h = moved_now l (MoreTy j n k) _ _ passes ss ts us a tail refl (h j n k (top_ty_depth us) a.at (omega arith))

ty_halts_more : (m n : ℕ) (rest : List Placed) → TyHalts m rest → m ≤ n → TyHalts n rest
unfolding TyHalts
ty_halts_more m n [] h l = tt
ty_halts_more m n (a ∷ tail) h l = λ j i k d at q. h j i k d at (omega arith)

no_join : (m j n : ℕ) (o : Infix) → ty_level o < m → m ≤ n → ty_joins j n o ≡ false
no_join m j n o l q = grind (arith, nat_tests)

ty_halts_infix : (m : ℕ) (o : Infix) (at : ℕ) (tail : List Placed) → ty_level o < m → TyHalts m (tok (Between o) at ∷ tail)
unfolding TyHalts
ty_halts_infix m o at tail l = λ j n k d p q. rw (no_join m j n o l q) refl

no_apply : (j n : ℕ) → 5 ≤ n → ty_applies j n ≡ false
no_apply j n l = grind (arith, nat_tests)

ty_halts_name : (m : ℕ) (x : List ℕ) (at : ℕ) (tail : List Placed) → 5 ≤ m → TyHalts m (tok (Name x) at ∷ tail)
unfolding TyHalts
ty_halts_name m x at tail l = λ j n k d p q. rw (no_apply j n (omega arith)) refl

ty_level_left : (o : Infix) → ty_level o < ty_left o
ty_level_left Arrow = omega arith
ty_level_left Plus = omega arith
ty_level_left Times = omega arith
ty_level_left _ = omega arith

edge_ge : (l : ℕ) → l ≤ ty_edge l
unfolding ty_edge
edge_ge l = grind (arith, nat_tests)

edge_mono : (k l : ℕ) → k ≤ l → ty_edge k ≤ ty_edge l
unfolding ty_edge
edge_mono k l h = grind (arith, nat_tests)

ty_edge_4 : (l : ℕ) → 4 ≤ l → 5 ≤ ty_edge l
unfolding ty_edge
ty_edge_4 l h = grind (arith, nat_tests)

edge_low : (l : ℕ) → l < 4 → ty_edge l ≡ l
unfolding ty_edge
edge_low l h = grind (arith, nat_tests)

joined : (j n : ℕ) (o : Infix) → n ≤ ty_level o → ty_left o ≤ j → ty_joins j n o ≡ true
joined j n o p q = grind (arith, nat_tests)

ty_applied : (j n : ℕ) → n ≤ 4 → 4 ≤ j → ty_applies j n ≡ true
ty_applied j n p q = grind (arith, nat_tests)

ty_level_low : (o : Infix) → ty_level o < 4
ty_level_low Arrow = omega arith
ty_level_low Plus = omega arith
ty_level_low Times = omega arith
ty_level_low _ = omega arith

halts_close : (m at : ℕ) (tail : List Placed) → TyHalts m (tok Close at ∷ tail)
unfolding TyHalts
halts_close m at tail = λ j n k d p q. refl

halts_comma : (m at : ℕ) (tail : List Placed) → TyHalts m (tok Comma at ∷ tail)
unfolding TyHalts
halts_comma m at tail = λ j n k d p q. refl

halts_args : (m : ℕ) (args : WArgs) (rest : List Placed) → TyHalts m (arg_tokens args ++ rest)
halts_args m (last_arg p t q) rest = halts_comma m p _
halts_args m (next_arg p t args) rest = halts_comma m p _

suc_max : (a b : ℕ) → max (suc a) (suc b) ≡ suc (max a b)
suc_max a b = grind (arith, nat_tests)

max_one : (a : ℕ) → 1 ≤ a → max a 1 ≡ a
max_one a l = grind (arith, nat_tests)

mutual
  pub type_goes : (l : Option ℕ) (t : WType) (n k : ℕ) (ss : List Symbol) (ts : List Sized) (us : List SizedTy) (rest : List Placed) → IsType t → n ≤ level_of_type t → Keeps l (k + depth_of_type t) → TyHalts (ty_edge (level_of_type t)) rest → goes l (Ty n k ∷ ss) ts us (type_tokens t ++ rest) ≡ goes l (MoreTy (level_of_type t) n k ∷ ss) ts (sized_ty (raw_type t) (depth_of_type t) ∷ us) rest
  type_goes l (variable x at) n k ss ts us rest w m g h =
      taken_now l (Ty n k) _ _ (k + 1) (MakeTyVar x at ∷ MoreTy 5 n k ∷ []) ss ts us (tok (TyVar x) at) rest refl refl g
      ∙ made_now l (MakeTyVar x at) _ _ _ ts us rest refl refl
  type_goes l (constant x at) n k ss ts us rest w m g h =
      taken_now l (Ty n k) _ _ (k + 1) (MakeCon x at ∷ MoreTy 5 n k ∷ []) ss ts us (tok (Name x) at) rest refl refl g
      ∙ made_now l (MakeCon x at) _ _ _ ts us rest refl refl
  type_goes l (postfix t x at) n k ss ts us rest w m g h =
      rw (append_assoc (type_tokens t) (tok (Name x) at ∷ []) rest)
      (type_goes l t n k ss ts us (tok (Name x) at ∷ rest) w.0 (omega arith) (keeps_less l _ _ g (omega arith)) (ty_halts_name _ x at rest (ty_edge_4 _ w.1))
      ∙ taken_now l (MoreTy (level_of_type t) n k) _ _ (k + suc (depth_of_type t)) (MakePost x at ∷ MoreTy 4 n k ∷ []) ss ts _ (tok (Name x) at) rest refl (rw (ty_applied (level_of_type t) n m w.1) refl) g
      ∙ made_now l (MakePost x at) _ _ _ ts (sized_ty (raw_type t) (depth_of_type t) ∷ us) rest refl refl)
  type_goes l (between_types a o at b) n k ss ts us rest w m g h =
      rw (append_assoc (type_tokens a) (tok (Between o) at ∷ type_tokens b) rest)
      (type_goes l a n k ss ts us (tok (Between o) at ∷ (type_tokens b ++ rest)) w.0 (omega (arith, ty_level_left o)) (keeps_less l _ _ g (omega (arith, left_max (depth_of_type a) (depth_of_type b)))) (ty_halts_infix _ o at _ (omega (arith, ty_level_left o, edge_ge (level_of_type a))))
      ∙ taken_now l (MoreTy (level_of_type a) n k) _ _ (k + suc (depth_of_type a)) (Ty (ty_level o) (k + 1) ∷ MakeTyInfix o at ∷ MoreTy (ty_level o) n k ∷ []) ss ts _ (tok (Between o) at) _ refl (rw (joined (level_of_type a) n o m w.2) refl) (keeps_less l _ _ g (omega (arith, left_max (depth_of_type a) (depth_of_type b))))
      ∙ type_goes l b (ty_level o) (k + 1) (MakeTyInfix o at ∷ MoreTy (ty_level o) n k ∷ ss) ts (sized_ty (raw_type a) (depth_of_type a) ∷ us) rest w.1 w.3 (keeps_less l _ _ g (omega (arith, right_max (depth_of_type a) (depth_of_type b)))) (ty_halts_more _ _ rest h (edge_mono _ _ w.3))
      ∙ ty_passed l (level_of_type b) (ty_level o) (k + 1) _ ts _ rest (rw (edge_low (ty_level o) (ty_level_low o)) at h)
      ∙ made_now l (MakeTyInfix o at) _ _ _ ts (sized_ty (raw_type b) (depth_of_type b) ∷ sized_ty (raw_type a) (depth_of_type a) ∷ us) rest refl refl)
  type_goes l (round p t q) n k ss ts us rest w m g h =
      rw (append_assoc (type_tokens t) (tok Close q ∷ []) rest)
      (taken_now l (Ty n k) _ _ (k + 2) (Ty 1 (k + 1) ∷ AfterTy k ∷ MoreTy 5 n k ∷ []) ss ts us (tok Open p) _ refl refl (keeps_less l _ _ g (omega (arith, type_deep t)))
      ∙ type_goes l t 1 (k + 1) (AfterTy k ∷ MoreTy 5 n k ∷ ss) ts us (tok Close q ∷ rest) w.0 w.1 (keeps_less l _ _ g (omega arith)) (halts_close _ q rest)
      ∙ ty_passed l (level_of_type t) 1 (k + 1) _ ts _ (tok Close q ∷ rest) (halts_close 1 q rest)
      ∙ taken_now l (AfterTy k) _ _ 0 (DeepenTy ∷ []) _ ts _ (tok Close q) rest refl refl (keeps_less l _ _ g (omega arith))
      ∙ made_now l DeepenTy _ _ _ ts (sized_ty (raw_type t) (depth_of_type t) ∷ us) rest refl refl)
  type_goes l (applied p t args x at) n k ss ts us rest w m g h =
      rw (append_assoc (type_tokens t) (arg_tokens args ++ tok (Name x) at ∷ []) rest, append_assoc (arg_tokens args) (tok (Name x) at ∷ []) rest)
      (taken_now l (Ty n k) _ _ (k + 2) (Ty 1 (k + 1) ∷ AfterTy k ∷ MoreTy 5 n k ∷ []) ss ts us (tok Open p) _ refl refl (keeps_less l _ _ g (omega (arith, type_deep t, left_max (depth_of_type t) (depth_of_args args))))
      ∙ type_goes l t 1 (k + 1) (AfterTy k ∷ MoreTy 5 n k ∷ ss) ts us (arg_tokens args ++ tok (Name x) at ∷ rest) w.0 w.1 (keeps_less l _ _ g (omega (arith, left_max (depth_of_type t) (depth_of_args args)))) (halts_args _ args _)
      ∙ ty_passed l (level_of_type t) 1 (k + 1) _ ts _ (arg_tokens args ++ tok (Name x) at ∷ rest) (halts_args 1 args _)
      ∙ after_ty l args k (MoreTy 5 n k ∷ ss) ts (sized_ty (raw_type t) (depth_of_type t) ∷ us) (tok (Name x) at ∷ rest) (keeps_less l _ 0 g (omega arith))
      ∙ args_go l args k (MakeArg ∷ MoreTy 5 n k ∷ ss) ts (sized_ty (raw_type t) (depth_of_type t) ∷ us) x at rest w.2 (keeps_less l _ _ g (omega (arith, right_max (depth_of_type t) (depth_of_args args))))
      ∙ made_now l MakeArg _ _ _ ts (sized_ty (raw_applied x (raw_args args) at) (suc (depth_of_args args)) ∷ sized_ty (raw_type t) (depth_of_type t) ∷ us) rest refl refl
      ∙ ap (λ d. goes l (MoreTy 5 n k ∷ ss) ts (sized_ty (raw_applied x (raw_more (raw_type t) (raw_args args)) at) d ∷ us) rest) (suc_max (depth_of_type t) (depth_of_args args)))

  -- the first comma leaves one argument more to be made than the others
  after_ty : (l : Option ℕ) (args : WArgs) (k : ℕ) (ss : List Symbol) (ts : List Sized) (us : List SizedTy) (rest : List Placed) → Keeps l 0 → goes l (AfterTy k ∷ ss) ts us (arg_tokens args ++ rest) ≡ goes l (AfterArg k ∷ MakeArg ∷ ss) ts us (arg_tokens args ++ rest)
  after_ty l (last_arg p t q) k ss ts us rest g =
      taken_now l (AfterTy k) _ _ 0 (Ty 1 (k + 1) ∷ AfterArg k ∷ MakeArg ∷ MakeArg ∷ []) ss ts us (tok Comma p) _ refl refl g
      ∙ sym (taken_now l (AfterArg k) _ _ 0 (Ty 1 (k + 1) ∷ AfterArg k ∷ MakeArg ∷ []) (MakeArg ∷ ss) ts us (tok Comma p) _ refl refl g)
  after_ty l (next_arg p t args) k ss ts us rest g =
      taken_now l (AfterTy k) _ _ 0 (Ty 1 (k + 1) ∷ AfterArg k ∷ MakeArg ∷ MakeArg ∷ []) ss ts us (tok Comma p) _ refl refl g
      ∙ sym (taken_now l (AfterArg k) _ _ 0 (Ty 1 (k + 1) ∷ AfterArg k ∷ MakeArg ∷ []) (MakeArg ∷ ss) ts us (tok Comma p) _ refl refl g)

  args_go : (l : Option ℕ) (args : WArgs) (k : ℕ) (ss : List Symbol) (ts : List Sized) (us : List SizedTy) (x : List ℕ) (at : ℕ) (rest : List Placed) → AreArgs args → Keeps l (k + suc (depth_of_args args)) → goes l (AfterArg k ∷ ss) ts us (arg_tokens args ++ tok (Name x) at ∷ rest) ≡ goes l ss ts (sized_ty (raw_applied x (raw_args args) at) (suc (depth_of_args args)) ∷ us) rest
  args_go l (last_arg p t q) k ss ts us x at rest w g =
      rw (append_assoc (type_tokens t) (tok Close q ∷ []) (tok (Name x) at ∷ rest))
      (taken_now l (AfterArg k) _ _ 0 (Ty 1 (k + 1) ∷ AfterArg k ∷ MakeArg ∷ []) ss ts us (tok Comma p) _ refl refl (keeps_less l _ 0 g (omega arith))
      ∙ type_goes l t 1 (k + 1) (AfterArg k ∷ MakeArg ∷ ss) ts us (tok Close q ∷ tok (Name x) at ∷ rest) w.0 w.1 (keeps_less l _ _ g (omega arith)) (halts_close _ q _)
      ∙ ty_passed l (level_of_type t) 1 (k + 1) _ ts _ (tok Close q ∷ tok (Name x) at ∷ rest) (halts_close 1 q _)
      ∙ taken_now l (AfterArg k) _ _ 0 (ConName ∷ []) (MakeArg ∷ ss) ts _ (tok Close q) _ refl refl (keeps_less l _ 0 g (omega arith))
      ∙ taken_now l ConName _ _ 0 (MakeCon x at ∷ []) (MakeArg ∷ ss) ts _ (tok (Name x) at) rest refl refl (keeps_less l _ 0 g (omega arith))
      ∙ made_now l (MakeCon x at) _ _ (MakeArg ∷ ss) ts (sized_ty (raw_type t) (depth_of_type t) ∷ us) rest refl refl
      ∙ made_now l MakeArg _ _ ss ts (sized_ty (raw_applied x raw_none at) 1 ∷ sized_ty (raw_type t) (depth_of_type t) ∷ us) rest refl refl
      ∙ ap (λ d. goes l ss ts (sized_ty (raw_applied x (raw_more (raw_type t) raw_none) at) d ∷ us) rest) (max_one (suc (depth_of_type t)) (omega arith)))
  args_go l (next_arg p t args) k ss ts us x at rest w g =
      rw (append_assoc (type_tokens t) (arg_tokens args) (tok (Name x) at ∷ rest))
      (taken_now l (AfterArg k) _ _ 0 (Ty 1 (k + 1) ∷ AfterArg k ∷ MakeArg ∷ []) ss ts us (tok Comma p) _ refl refl (keeps_less l _ 0 g (omega arith))
      ∙ type_goes l t 1 (k + 1) (AfterArg k ∷ MakeArg ∷ ss) ts us (arg_tokens args ++ tok (Name x) at ∷ rest) w.0 w.1 (keeps_less l _ _ g (omega (arith, left_max (depth_of_type t) (depth_of_args args)))) (halts_args _ args _)
      ∙ ty_passed l (level_of_type t) 1 (k + 1) _ ts _ (arg_tokens args ++ tok (Name x) at ∷ rest) (halts_args 1 args _)
      ∙ args_go l args k (MakeArg ∷ ss) ts (sized_ty (raw_type t) (depth_of_type t) ∷ us) x at rest w.2 (keeps_less l _ _ g (omega (arith, right_max (depth_of_type t) (depth_of_args args))))
      ∙ made_now l MakeArg _ _ ss ts (sized_ty (raw_applied x (raw_args args) at) (suc (depth_of_args args)) ∷ sized_ty (raw_type t) (depth_of_type t) ∷ us) rest refl refl
      ∙ ap (λ d. goes l ss ts (sized_ty (raw_applied x (raw_more (raw_type t) (raw_args args)) at) d ∷ us) rest) (suc_max (depth_of_type t) (depth_of_args args)))

-- terms

-- behind a term, in a place that needs at least m, the word isn't part of the term
pub Halts : ℕ → List Placed → Type 0
Halts m [] = Unit {0}
Halts m (a ∷ tail) = (j n k d at : ℕ) → m ≤ n → j ≤ 9 → more_move j n k d a.word at ≡ passes

pub edge : ℕ → ℕ
edge l = cond (nat_le 5 l) (l + 1) l

passed : (l : Option ℕ) (j n k : ℕ) (ss : List Symbol) (ts : List Sized) (us : List SizedTy) (rest : List Placed) → j ≤ 9 → Halts n rest → goes l (MoreTerm j n k ∷ ss) ts us rest ≡ goes l ss ts us rest
unfolding goes Halts
passed l j n k ss ts us [] m h = refl
passed l j n k ss ts us (a ∷ tail) m h = moved_now l (MoreTerm j n k) _ _ passes ss ts us a tail refl (h j n k (top_depth ts) a.at (omega arith) m)

halts_more : (m n : ℕ) (rest : List Placed) → Halts m rest → m ≤ n → Halts n rest
unfolding Halts
halts_more m n [] h l = tt
halts_more m n (a ∷ tail) h l = λ j i k d at q. h j i k d at (omega arith)

join_false : (j n : ℕ) (o : Infix) → level o < n → joins j n o ≡ false
join_false j n o l = grind (arith, nat_tests)

join_true : (j n : ℕ) (o : Infix) → n ≤ level o → left o ≤ j → joins j n o ≡ true
join_true j n o p q = grind (arith, nat_tests)

apply_true : (j n : ℕ) → n ≤ 8 → 8 ≤ j → applies j n ≡ true
apply_true j n p q = grind (arith, nat_tests)

apply_false : (j n : ℕ) → 8 < n → applies j n ≡ false
apply_false j n p = grind (arith, nat_tests)

level_low : (o : Infix) → level o ≤ 7
level_low Implies = omega arith
level_low Disj = omega arith
level_low Conj = omega arith
level_low Equal = omega arith
level_low Less = omega arith
level_low Leq = omega arith
level_low Plus = omega arith
level_low Minus = omega arith
level_low Times = omega arith
level_low Arrow = omega arith

-- an operator isn't part of its left side
edge_left : (o : Infix) (l : ℕ) → left o ≤ l → level o < edge l
unfolding edge
edge_left Implies l h = grind (arith, nat_tests)
edge_left Disj l h = grind (arith, nat_tests)
edge_left Conj l h = grind (arith, nat_tests)
edge_left Equal l h = grind (arith, nat_tests)
edge_left Less l h = grind (arith, nat_tests)
edge_left Leq l h = grind (arith, nat_tests)
edge_left Plus l h = grind (arith, nat_tests)
edge_left Minus l h = grind (arith, nat_tests)
edge_left Times l h = grind (arith, nat_tests)
edge_left Arrow l h = grind (arith, nat_tests)

-- what isn't part of the whole isn't part of its right side
edge_right : (o : Infix) → left o ≤ 9 → edge (level o) ≡ right o
unfolding edge
edge_right Implies h = refl
edge_right Disj h = refl
edge_right Conj h = refl
edge_right Equal h = refl
edge_right Less h = refl
edge_right Leq h = refl
edge_right Plus h = refl
edge_right Minus h = refl
edge_right Times h = refl
edge_right Arrow h = absurd (omega arith)

level_left : (o : Infix) → level o ≤ left o
level_left Implies = omega arith
level_left Disj = omega arith
level_left Conj = omega arith
level_left Equal = omega arith
level_left Less = omega arith
level_left Leq = omega arith
level_left Plus = omega arith
level_left Minus = omega arith
level_left Times = omega arith
level_left Arrow = omega arith

edge_up : (k l : ℕ) → k ≤ l → edge k ≤ edge l
unfolding edge
edge_up k l h = grind (arith, nat_tests)

edge_least : (l : ℕ) → l ≤ edge l
unfolding edge
edge_least l = grind (arith, nat_tests)

edge_8 : (l : ℕ) → 8 ≤ l → 9 ≤ edge l
unfolding edge
edge_8 l h = grind (arith, nat_tests)

halts_infix : (m : ℕ) (o : Infix) (at : ℕ) (tail : List Placed) → level o < m → Halts m (tok (Between o) at ∷ tail)
unfolding Halts
halts_infix m o at tail l = λ j n k d p q r. rw (join_false j n o (omega arith)) refl

none_join : (w : Word) (j n k d at : ℕ) → 9 ≤ n → more_move j n k d w at ≡ passes
none_join (Between o) j n k d at l = rw (join_false j n o (omega (arith, level_low o))) refl
none_join (Name x) j n k d at l = rw (apply_false j n (omega arith)) refl
none_join (Number x) j n k d at l = rw (apply_false j n (omega arith)) refl
none_join Open j n k d at l = rw (apply_false j n (omega arith)) refl
none_join _ j n k d at l = refl

halts_9 : (m : ℕ) (rest : List Placed) → 9 ≤ m → Halts m rest
unfolding Halts
halts_9 m [] l = tt
halts_9 m (a ∷ tail) l = λ j n k d at p q. none_join a.word j n k d at (omega arith)

-- these never are
abbrev ends : Word → Bool
ends Close = true
ends Comma = true
ends Colons = true
ends Then = true
ends Else = true
ends _ = false

halts_end : (m : ℕ) (w : Word) (at : ℕ) (tail : List Placed) → ends w ≡ true → Halts m (tok w at ∷ tail)
unfolding Halts
halts_end m Close at tail e = λ j n k d p q r. refl
halts_end m Comma at tail e = λ j n k d p q r. refl
halts_end m Colons at tail e = λ j n k d p q r. refl
halts_end m Then at tail e = λ j n k d p q r. refl
halts_end m Else at tail e = λ j n k d p q r. refl
halts_end m _ at tail e = absurd (let bad : false ≡ true = e in cc)

edge_0 : edge 0 ≤ 0
unfolding edge
edge_0 = omega arith

edge_4 : edge 4 ≤ 4
unfolding edge
edge_4 = omega arith

halts_parts : (m : ℕ) (parts : WParts) (rest : List Placed) → Halts m (part_tokens parts ++ rest)
halts_parts m (last_part p a q) rest = halts_end m Comma p _ refl
halts_parts m (next_part p a parts) rest = halts_end m Comma p _ refl

level_9 : (t : WTerm) → level_of t ≤ 9
level_9 (between a o at b) = omega (arith, level_low o)
level_9 (named n at) = omega arith
level_9 (numeral n at) = omega arith
level_9 (application f x) = omega arith
level_9 (negated at a) = omega arith
level_9 (bound b at vars) = omega arith
level_9 (choice p a q b r c) = omega arith
level_9 (parens p a q) = omega arith
level_9 (typed p a c t q) = omega arith
level_9 (tuple p a parts) = omega arith

-- behind ( and a first term
after_open : (l : Option ℕ) (x : WTerm) (j n k : ℕ) (ss : List Symbol) (ts : List Sized) (us : List SizedTy) (p : ℕ) (inside : List Placed) → applies j n ≡ true → 2 ≤ depth_of x → Keeps l (k + suc (depth_of x)) → Keeps l (k + suc (top_depth ts)) → goes l (MoreTerm j n k ∷ ss) ts us (tok Open p ∷ inside) ≡ goes l (Term 9 (k + 1) ∷ MakeApp ∷ MoreTerm 8 n k ∷ ss) ts us (tok Open p ∷ inside)
after_open l x j n k ss ts us p inside e b g f =
    taken_now l (MoreTerm j n k) _ _ (k + suc (max (top_depth ts) 2)) (Term 0 (k + 1 + 1) ∷ AfterTerm (k + 1) ∷ MoreTerm 9 9 (k + 1) ∷ MakeApp ∷ MoreTerm 8 n k ∷ []) ss ts us (tok Open p) inside refl (rw e refl) (keeps_max l k (top_depth ts) 2 f (keeps_less l _ _ g (omega arith)))
    ∙ sym (taken_now l (Term 9 (k + 1)) _ _ (k + 1 + 2) (Term 0 (k + 1 + 1) ∷ AfterTerm (k + 1) ∷ MoreTerm 9 9 (k + 1) ∷ []) (MakeApp ∷ MoreTerm 8 n k ∷ ss) ts us (tok Open p) inside refl refl (keeps_less l _ _ g (omega arith)))

-- an argument begins as a term of the last level does
argument : (l : Option ℕ) (x : WTerm) (j n k : ℕ) (ss : List Symbol) (ts : List Sized) (us : List SizedTy) (rest : List Placed) → 9 ≤ level_of x → applies j n ≡ true → Keeps l (k + suc (depth_of x)) → Keeps l (k + suc (top_depth ts)) → goes l (MoreTerm j n k ∷ ss) ts us (term_tokens x ++ rest) ≡ goes l (Term 9 (k + 1) ∷ MakeApp ∷ MoreTerm 8 n k ∷ ss) ts us (term_tokens x ++ rest)
argument l (named x at) j n k ss ts us rest m e g f =
    taken_now l (MoreTerm j n k) _ _ (k + suc (top_depth ts)) (MakeName x at ∷ MoreTerm 9 9 (k + 1) ∷ MakeApp ∷ MoreTerm 8 n k ∷ []) ss ts us (tok (Name x) at) rest refl (rw e refl) f
    ∙ sym (taken_now l (Term 9 (k + 1)) _ _ (k + 1 + 1) (MakeName x at ∷ MoreTerm 9 9 (k + 1) ∷ []) (MakeApp ∷ MoreTerm 8 n k ∷ ss) ts us (tok (Name x) at) rest refl refl (keeps_less l _ _ g (omega arith)))
argument l (numeral x at) j n k ss ts us rest m e g f =
    taken_now l (MoreTerm j n k) _ _ (k + suc (top_depth ts)) (MakeNumber x at ∷ MoreTerm 9 9 (k + 1) ∷ MakeApp ∷ MoreTerm 8 n k ∷ []) ss ts us (tok (Number x) at) rest refl (rw e refl) f
    ∙ sym (taken_now l (Term 9 (k + 1)) _ _ (k + 1 + 1) (MakeNumber x at ∷ MoreTerm 9 9 (k + 1) ∷ []) (MakeApp ∷ MoreTerm 8 n k ∷ ss) ts us (tok (Number x) at) rest refl refl (keeps_less l _ _ g (omega arith)))
argument l (parens p a q) j n k ss ts us rest m e g f = after_open l (parens p a q) j n k ss ts us p _ e (omega (arith, term_deep a)) g f
argument l (typed p a c t q) j n k ss ts us rest m e g f = after_open l (typed p a c t q) j n k ss ts us p _ e (omega arith) g f
argument l (tuple p a parts) j n k ss ts us rest m e g f = after_open l (tuple p a parts) j n k ss ts us p _ e (omega (arith, term_deep a, left_max (depth_of a) (depth_of_parts parts))) g f
argument l (application h x) j n k ss ts us rest m e g f = absurd (omega arith)
argument l (between a o at b) j n k ss ts us rest m e g f = absurd (omega (arith, level_low o))
argument l (negated at a) j n k ss ts us rest m e g f = absurd (omega arith)
argument l (bound b at vars) j n k ss ts us rest m e g f = absurd (omega arith)
argument l (choice p a q b r c) j n k ss ts us rest m e g f = absurd (omega arith)

-- what a variable leaves to be made, and the types that it reads
var_makes : Binder → WVar → Symbol
var_makes b (only_name x at) = MakeAbs b x at
var_makes b (typed_var p x at c t q) = MakeTypedAbs b x at

var_types : WVar → List SizedTy → List SizedTy
var_types (only_name x at) us = us
var_types (typed_var p x at c t q) us = sized_ty (raw_type t) (depth_of_type t) ∷ us

var_goes : (l : Option ℕ) (x : WVar) (b : Binder) (k : ℕ) (ss : List Symbol) (ts : List Sized) (us : List SizedTy) (rest : List Placed) → IsVar x → Keeps l (k + suc (depth_of_var x)) → goes l (Vars b k ∷ ss) ts us (var_tokens x ++ rest) ≡ goes l (MoreVars b k ∷ var_makes b x ∷ ss) ts (var_types x us) rest
unfolding var_makes var_types
var_goes l (only_name x at) b k ss ts us rest w g =
    taken_now l (Vars b k) _ _ 0 (MoreVars b k ∷ MakeAbs b x at ∷ []) ss ts us (tok (Name x) at) rest refl refl (keeps_less l _ 0 g (omega arith))
var_goes l (typed_var p x at c t q) b k ss ts us rest w g =
    rw (append_assoc (type_tokens t) (tok Close q ∷ []) rest)
    (taken_now l (Vars b k) _ _ (k + 3) (VarName b k ∷ []) ss ts us (tok Open p) _ refl refl (keeps_less l _ _ g (omega (arith, type_deep t)))
    ∙ taken_now l (VarName b k) _ _ 0 (WantColons ∷ Ty 1 (k + 2) ∷ WantClose ∷ MoreVars b k ∷ MakeTypedAbs b x at ∷ []) ss ts us (tok (Name x) at) _ refl refl (keeps_less l _ 0 g (omega arith))
    ∙ taken_now l WantColons _ _ 0 [] (Ty 1 (k + 2) ∷ WantClose ∷ MoreVars b k ∷ MakeTypedAbs b x at ∷ ss) ts us (tok Colons c) _ refl refl (keeps_less l _ 0 g (omega arith))
    ∙ type_goes l t 1 (k + 2) (WantClose ∷ MoreVars b k ∷ MakeTypedAbs b x at ∷ ss) ts us (tok Close q ∷ rest) w.0 w.1 (keeps_less l _ _ g (omega arith)) (halts_close _ q rest)
    ∙ ty_passed l (level_of_type t) 1 (k + 2) _ ts _ (tok Close q ∷ rest) (halts_close 1 q rest)
    ∙ taken_now l WantClose _ _ 0 [] (MoreVars b k ∷ MakeTypedAbs b x at ∷ ss) ts _ (tok Close q) rest refl refl (keeps_less l _ 0 g (omega arith)))

more_vars : (l : Option ℕ) (x : WVar) (b : Binder) (k : ℕ) (ss : List Symbol) (ts : List Sized) (us : List SizedTy) (rest : List Placed) → Keeps l (k + suc (depth_of_var x)) → goes l (MoreVars b k ∷ ss) ts us (var_tokens x ++ rest) ≡ goes l (Vars b k ∷ ss) ts us (var_tokens x ++ rest)
more_vars l (only_name x at) b k ss ts us rest g =
    taken_now l (MoreVars b k) _ _ 0 (MoreVars b k ∷ MakeAbs b x at ∷ []) ss ts us (tok (Name x) at) rest refl refl (keeps_less l _ 0 g (omega arith))
    ∙ sym (taken_now l (Vars b k) _ _ 0 (MoreVars b k ∷ MakeAbs b x at ∷ []) ss ts us (tok (Name x) at) rest refl refl (keeps_less l _ 0 g (omega arith)))
more_vars l (typed_var p x at c t q) b k ss ts us rest g =
    taken_now l (MoreVars b k) _ _ (k + 3) (VarName b k ∷ []) ss ts us (tok Open p) _ refl refl (keeps_less l _ _ g (omega (arith, type_deep t)))
    ∙ sym (taken_now l (Vars b k) _ _ (k + 3) (VarName b k ∷ []) ss ts us (tok Open p) _ refl refl (keeps_less l _ _ g (omega (arith, type_deep t))))

var_made : (l : Option ℕ) (x : WVar) (b : Binder) (body : RawTm) (d : ℕ) (ss : List Symbol) (ts : List Sized) (us : List SizedTy) (rest : List Placed) → goes l (var_makes b x ∷ ss) (sized body d ∷ ts) (var_types x us) rest ≡ goes l ss (sized (bind_var b x body) (max (depth_of_var x) d) ∷ ts) us rest
unfolding var_makes var_types
var_made l (only_name x at) b body d ss ts us rest = made_now l (MakeAbs b x at) _ _ ss (sized body d ∷ ts) us rest refl refl
var_made l (typed_var p x at c t q) b body d ss ts us rest = made_now l (MakeTypedAbs b x at) _ _ ss (sized body d ∷ ts) (sized_ty (raw_type t) (depth_of_type t) ∷ us) rest refl refl

mutual
  pub term_goes : (l : Option ℕ) (t : WTerm) (n k : ℕ) (ss : List Symbol) (ts : List Sized) (us : List SizedTy) (rest : List Placed) → IsTerm t → n ≤ level_of t → Keeps l (k + depth_of t) → Halts (edge (level_of t)) rest → goes l (Term n k ∷ ss) ts us (term_tokens t ++ rest) ≡ goes l (MoreTerm (level_of t) n k ∷ ss) (sized (raw t) (depth_of t) ∷ ts) us rest
  term_goes l (named x at) n k ss ts us rest w m g h =
      taken_now l (Term n k) _ _ (k + 1) (MakeName x at ∷ MoreTerm 9 n k ∷ []) ss ts us (tok (Name x) at) rest refl refl g
      ∙ made_now l (MakeName x at) _ _ _ ts us rest refl refl
  term_goes l (numeral x at) n k ss ts us rest w m g h =
      taken_now l (Term n k) _ _ (k + 1) (MakeNumber x at ∷ MoreTerm 9 n k ∷ []) ss ts us (tok (Number x) at) rest refl refl g
      ∙ made_now l (MakeNumber x at) _ _ _ ts us rest refl refl
  term_goes l (application f x) n k ss ts us rest w m g h =
      rw (append_assoc (term_tokens f) (term_tokens x) rest)
      (let gf : Keeps l (k + suc (depth_of f)) = keeps_less l _ _ g (omega (arith, left_max (depth_of f) (depth_of x))) in
      let gx : Keeps l (k + suc (depth_of x)) = keeps_less l _ _ g (omega (arith, right_max (depth_of f) (depth_of x))) in
      term_goes l f n k ss ts us (term_tokens x ++ rest) w.0 (omega arith) (keeps_less l _ _ gf (omega arith)) (halts_9 _ _ (edge_8 _ w.2))
      ∙ argument l x (level_of f) n k ss (sized (raw f) (depth_of f) ∷ ts) us rest w.3 (apply_true (level_of f) n m w.2) gx gf
      ∙ term_goes l x 9 (k + 1) (MakeApp ∷ MoreTerm 8 n k ∷ ss) (sized (raw f) (depth_of f) ∷ ts) us rest w.1 w.3 (keeps_less l _ _ gx (omega arith)) (halts_9 _ rest (edge_8 _ (omega arith)))
      ∙ passed l (level_of x) 9 (k + 1) _ _ us rest (level_9 x) (halts_9 9 rest (omega arith))
      ∙ made_now l MakeApp _ _ _ (sized (raw x) (depth_of x) ∷ sized (raw f) (depth_of f) ∷ ts) us rest refl refl)
  term_goes l (between a o at b) n k ss ts us rest w m g h =
      rw (append_assoc (term_tokens a) (tok (Between o) at ∷ term_tokens b) rest)
      (let r = edge_right o (omega (arith, level_9 a)) in
      let ga : Keeps l (k + suc (depth_of a)) = keeps_less l _ _ g (omega (arith, left_max (depth_of a) (depth_of b))) in
      let gb : Keeps l (k + suc (depth_of b)) = keeps_less l _ _ g (omega (arith, right_max (depth_of a) (depth_of b))) in
      term_goes l a n k ss ts us (tok (Between o) at ∷ (term_tokens b ++ rest)) w.0 (omega (arith, level_left o)) (keeps_less l _ _ ga (omega arith)) (halts_infix _ o at _ (edge_left o _ w.2))
      ∙ taken_now l (MoreTerm (level_of a) n k) _ _ (k + suc (depth_of a)) (Term (right o) (k + 1) ∷ MakeInfix o at ∷ MoreTerm (level o) n k ∷ []) ss _ us (tok (Between o) at) _ refl (rw (join_true (level_of a) n o m w.2) refl) ga
      ∙ term_goes l b (right o) (k + 1) (MakeInfix o at ∷ MoreTerm (level o) n k ∷ ss) (sized (raw a) (depth_of a) ∷ ts) us rest w.1 w.3 (keeps_less l _ _ gb (omega arith)) (halts_more _ _ rest h (omega (arith, edge_least (level_of b))))
      ∙ passed l (level_of b) (right o) (k + 1) _ _ us rest (level_9 b) (halts_more _ _ rest h (omega arith))
      ∙ made_now l (MakeInfix o at) _ _ _ (sized (raw b) (depth_of b) ∷ sized (raw a) (depth_of a) ∷ ts) us rest refl refl)
  term_goes l (negated at a) n k ss ts us rest w m g h =
      taken_now l (Term n k) _ _ (k + 2) (Term 4 (k + 1) ∷ MakeNot at ∷ MoreTerm 4 n k ∷ []) ss ts us (tok Negation at) _ refl (let e : nat_le n 4 ≡ true = grind (arith, nat_tests) in rw e refl) (keeps_less l _ _ g (omega (arith, term_deep a)))
      ∙ term_goes l a 4 (k + 1) (MakeNot at ∷ MoreTerm 4 n k ∷ ss) ts us rest w.0 w.1 (keeps_less l _ _ g (omega arith)) (halts_more _ _ rest h (edge_up 4 (level_of a) w.1))
      ∙ passed l (level_of a) 4 (k + 1) _ _ us rest (level_9 a) (halts_more _ 4 rest h edge_4)
      ∙ made_now l (MakeNot at) _ _ _ (sized (raw a) (depth_of a) ∷ ts) us rest refl refl
  term_goes l (bound b at vars) n k ss ts us rest w m g h =
      taken_now l (Term n k) _ _ (k + 2) (Vars b k ∷ Deepen ∷ []) ss ts us (tok (Binds b) at) _ refl (let e : (n == 0) ≡ true = grind (arith, nat_tests) in rw e refl) (keeps_less l _ _ g (omega (arith, vars_deep vars)))
      ∙ vars_go l vars b k (Deepen ∷ ss) ts us rest w g (halts_more _ 0 rest h edge_0)
      ∙ made_now l Deepen _ _ ss (sized (raw_vars b vars) (depth_of_vars vars) ∷ ts) us rest refl refl
      ∙ sym (passed l 0 n k ss _ us rest (omega arith) (halts_more _ n rest h (omega (arith, edge_0))))
  term_goes l (choice p a q b r c) n k ss ts us rest w m g h =
      rw (append_assoc (term_tokens a) (tok Then q ∷ (term_tokens b ++ tok Else r ∷ term_tokens c)) rest, append_assoc (term_tokens b) (tok Else r ∷ term_tokens c) rest)
      (let h0 : Halts 0 rest = halts_more _ 0 rest h edge_0 in
      let x1 = left_max (depth_of a) (max (depth_of b) (depth_of c)) in
      let x2 = right_max (depth_of a) (max (depth_of b) (depth_of c)) in
      let x3 = left_max (depth_of b) (depth_of c) in
      let x4 = right_max (depth_of b) (depth_of c) in
      let ga : Keeps l (k + 1 + depth_of a) = keeps_less l _ _ g (omega arith) in
      let gb : Keeps l (k + 1 + depth_of b) = keeps_less l _ _ g (omega arith) in
      let gc : Keeps l (k + 1 + depth_of c) = keeps_less l _ _ g (omega arith) in
      taken_now l (Term n k) _ _ (k + 2) (Term 0 (k + 1) ∷ WantThen ∷ Term 0 (k + 1) ∷ WantElse ∷ Term 0 (k + 1) ∷ MakeIf p ∷ []) ss ts us (tok If p) _ refl (let e : (n == 0) ≡ true = grind (arith, nat_tests) in rw e refl) (keeps_less l _ _ ga (omega (arith, term_deep a)))
      ∙ term_goes l a 0 (k + 1) (WantThen ∷ Term 0 (k + 1) ∷ WantElse ∷ Term 0 (k + 1) ∷ MakeIf p ∷ ss) ts us (tok Then q ∷ (term_tokens b ++ tok Else r ∷ (term_tokens c ++ rest))) w.0 (omega arith) ga (halts_end _ Then q _ refl)
      ∙ passed l (level_of a) 0 (k + 1) _ _ us (tok Then q ∷ (term_tokens b ++ tok Else r ∷ (term_tokens c ++ rest))) (level_9 a) (halts_end 0 Then q _ refl)
      ∙ taken_now l WantThen _ _ 0 [] (Term 0 (k + 1) ∷ WantElse ∷ Term 0 (k + 1) ∷ MakeIf p ∷ ss) _ us (tok Then q) _ refl refl (keeps_less l _ 0 g (omega arith))
      ∙ term_goes l b 0 (k + 1) (WantElse ∷ Term 0 (k + 1) ∷ MakeIf p ∷ ss) (sized (raw a) (depth_of a) ∷ ts) us (tok Else r ∷ (term_tokens c ++ rest)) w.1 (omega arith) gb (halts_end _ Else r _ refl)
      ∙ passed l (level_of b) 0 (k + 1) _ _ us (tok Else r ∷ (term_tokens c ++ rest)) (level_9 b) (halts_end 0 Else r _ refl)
      ∙ taken_now l WantElse _ _ 0 [] (Term 0 (k + 1) ∷ MakeIf p ∷ ss) _ us (tok Else r) _ refl refl (keeps_less l _ 0 g (omega arith))
      ∙ term_goes l c 0 (k + 1) (MakeIf p ∷ ss) (sized (raw b) (depth_of b) ∷ sized (raw a) (depth_of a) ∷ ts) us rest w.2 (omega arith) gc (halts_more 0 _ rest h0 (omega arith))
      ∙ passed l (level_of c) 0 (k + 1) _ _ us rest (level_9 c) h0
      ∙ made_now l (MakeIf p) _ _ ss (sized (raw c) (depth_of c) ∷ sized (raw b) (depth_of b) ∷ sized (raw a) (depth_of a) ∷ ts) us rest refl refl
      ∙ sym (passed l 0 n k ss _ us rest (omega arith) (halts_more 0 n rest h0 (omega arith))))
  term_goes l (parens p a q) n k ss ts us rest w m g h =
      rw (append_assoc (term_tokens a) (tok Close q ∷ []) rest)
      (taken_now l (Term n k) _ _ (k + 2) (Term 0 (k + 1) ∷ AfterTerm k ∷ MoreTerm 9 n k ∷ []) ss ts us (tok Open p) _ refl refl (keeps_less l _ _ g (omega (arith, term_deep a)))
      ∙ term_goes l a 0 (k + 1) (AfterTerm k ∷ MoreTerm 9 n k ∷ ss) ts us (tok Close q ∷ rest) w (omega arith) (keeps_less l _ _ g (omega arith)) (halts_end _ Close q rest refl)
      ∙ passed l (level_of a) 0 (k + 1) _ _ us (tok Close q ∷ rest) (level_9 a) (halts_end 0 Close q rest refl)
      ∙ taken_now l (AfterTerm k) _ _ 0 (Deepen ∷ []) _ _ us (tok Close q) rest refl refl (keeps_less l _ 0 g (omega arith))
      ∙ made_now l Deepen _ _ _ (sized (raw a) (depth_of a) ∷ ts) us rest refl refl)
  term_goes l (typed p a c t q) n k ss ts us rest w m g h =
      rw (append_assoc (term_tokens a) (tok Colons c ∷ (type_tokens t ++ tok Close q ∷ [])) rest, append_assoc (type_tokens t) (tok Close q ∷ []) rest)
      (let x1 = left_max (depth_of a) (depth_of_type t) in
      let x2 = right_max (depth_of a) (depth_of_type t) in
      taken_now l (Term n k) _ _ (k + 2) (Term 0 (k + 1) ∷ AfterTerm k ∷ MoreTerm 9 n k ∷ []) ss ts us (tok Open p) _ refl refl (keeps_less l _ _ g (omega arith))
      ∙ term_goes l a 0 (k + 1) (AfterTerm k ∷ MoreTerm 9 n k ∷ ss) ts us (tok Colons c ∷ (type_tokens t ++ tok Close q ∷ rest)) w.0 (omega arith) (keeps_less l _ _ g (omega arith)) (halts_end _ Colons c _ refl)
      ∙ passed l (level_of a) 0 (k + 1) _ _ us (tok Colons c ∷ (type_tokens t ++ tok Close q ∷ rest)) (level_9 a) (halts_end 0 Colons c _ refl)
      ∙ taken_now l (AfterTerm k) _ _ (k + suc (suc (depth_of a))) (Ty 1 (k + 2) ∷ WantClose ∷ MakeTyped c ∷ Deepen ∷ []) _ _ us (tok Colons c) _ refl refl (keeps_less l _ _ g (omega arith))
      ∙ type_goes l t 1 (k + 2) (WantClose ∷ MakeTyped c ∷ Deepen ∷ MoreTerm 9 n k ∷ ss) (sized (raw a) (depth_of a) ∷ ts) us (tok Close q ∷ rest) w.1 w.2 (keeps_less l _ _ g (omega arith)) (halts_close _ q rest)
      ∙ ty_passed l (level_of_type t) 1 (k + 2) _ _ _ (tok Close q ∷ rest) (halts_close 1 q rest)
      ∙ taken_now l WantClose _ _ 0 [] _ _ _ (tok Close q) rest refl refl (keeps_less l _ 0 g (omega arith))
      ∙ made_now l (MakeTyped c) _ _ _ (sized (raw a) (depth_of a) ∷ ts) (sized_ty (raw_type t) (depth_of_type t) ∷ us) rest refl refl
      ∙ made_now l Deepen _ _ _ (sized (raw_typed (raw a) (raw_type t) c) (suc (max (depth_of a) (depth_of_type t))) ∷ ts) us rest refl refl)
  term_goes l (tuple p a parts) n k ss ts us rest w m g h =
      rw (append_assoc (term_tokens a) (part_tokens parts) rest)
      (let x1 = left_max (depth_of a) (depth_of_parts parts) in
      let x2 = right_max (depth_of a) (depth_of_parts parts) in
      taken_now l (Term n k) _ _ (k + 2) (Term 0 (k + 1) ∷ AfterTerm k ∷ MoreTerm 9 n k ∷ []) ss ts us (tok Open p) _ refl refl (keeps_less l _ _ g (omega (arith, term_deep a)))
      ∙ term_goes l a 0 (k + 1) (AfterTerm k ∷ MoreTerm 9 n k ∷ ss) ts us (part_tokens parts ++ rest) w.0 (omega arith) (keeps_less l _ _ g (omega arith)) (halts_parts _ parts rest)
      ∙ passed l (level_of a) 0 (k + 1) _ _ us (part_tokens parts ++ rest) (level_9 a) (halts_parts 0 parts rest)
      ∙ first_comma l parts k (MoreTerm 9 n k ∷ ss) (sized (raw a) (depth_of a) ∷ ts) us rest (keeps_less l _ 0 g (omega arith))
      ∙ parts_go l parts (raw a) (depth_of a) k (Deepen ∷ MoreTerm 9 n k ∷ ss) ts us rest w.1 (keeps_less l _ _ g (omega arith))
      ∙ made_now l Deepen _ _ _ (sized (raw_parts (raw a) parts) (max (depth_of a) (depth_of_parts parts)) ∷ ts) us rest refl refl)

  vars_deep : (vars : WVars) → 1 ≤ depth_of_vars vars
  vars_deep (last_var x at a) = omega (arith, term_deep a, right_max (depth_of_var x) (depth_of a))
  vars_deep (next_var x vars) = omega (arith, vars_deep vars, right_max (depth_of_var x) (depth_of_vars vars))

  first_comma : (l : Option ℕ) (parts : WParts) (k : ℕ) (ss : List Symbol) (ts : List Sized) (us : List SizedTy) (rest : List Placed) → Keeps l 0 → goes l (AfterTerm k ∷ ss) ts us (part_tokens parts ++ rest) ≡ goes l (AfterPart k ∷ Deepen ∷ ss) ts us (part_tokens parts ++ rest)
  first_comma l (last_part p a q) k ss ts us rest g =
      taken_now l (AfterTerm k) _ _ 0 (Term 0 (k + 1) ∷ AfterPart k ∷ MakePair p ∷ Deepen ∷ []) ss ts us (tok Comma p) _ refl refl g
      ∙ sym (taken_now l (AfterPart k) _ _ 0 (Term 0 (k + 1) ∷ AfterPart k ∷ MakePair p ∷ []) (Deepen ∷ ss) ts us (tok Comma p) _ refl refl g)
  first_comma l (next_part p a parts) k ss ts us rest g =
      taken_now l (AfterTerm k) _ _ 0 (Term 0 (k + 1) ∷ AfterPart k ∷ MakePair p ∷ Deepen ∷ []) ss ts us (tok Comma p) _ refl refl g
      ∙ sym (taken_now l (AfterPart k) _ _ 0 (Term 0 (k + 1) ∷ AfterPart k ∷ MakePair p ∷ []) (Deepen ∷ ss) ts us (tok Comma p) _ refl refl g)

  parts_go : (l : Option ℕ) (parts : WParts) (first : RawTm) (d k : ℕ) (ss : List Symbol) (ts : List Sized) (us : List SizedTy) (rest : List Placed) → AreParts parts → Keeps l (k + 1 + depth_of_parts parts) → goes l (AfterPart k ∷ ss) (sized first d ∷ ts) us (part_tokens parts ++ rest) ≡ goes l ss (sized (raw_parts first parts) (max d (depth_of_parts parts)) ∷ ts) us rest
  parts_go l (last_part p a q) first d k ss ts us rest w g =
      rw (append_assoc (term_tokens a) (tok Close q ∷ []) rest)
      (taken_now l (AfterPart k) _ _ 0 (Term 0 (k + 1) ∷ AfterPart k ∷ MakePair p ∷ []) ss _ us (tok Comma p) _ refl refl (keeps_less l _ 0 g (omega arith))
      ∙ term_goes l a 0 (k + 1) (AfterPart k ∷ MakePair p ∷ ss) (sized first d ∷ ts) us (tok Close q ∷ rest) w (omega arith) g (halts_end _ Close q rest refl)
      ∙ passed l (level_of a) 0 (k + 1) _ _ us (tok Close q ∷ rest) (level_9 a) (halts_end 0 Close q rest refl)
      ∙ taken_now l (AfterPart k) _ _ 0 [] (MakePair p ∷ ss) _ us (tok Close q) rest refl refl (keeps_less l _ 0 g (omega arith))
      ∙ made_now l (MakePair p) _ _ ss (sized (raw a) (depth_of a) ∷ sized first d ∷ ts) us rest refl refl)
  parts_go l (next_part p a parts) first d k ss ts us rest w g =
      rw (append_assoc (term_tokens a) (part_tokens parts) rest)
      (let x1 = left_max (depth_of a) (depth_of_parts parts) in
      let x2 = right_max (depth_of a) (depth_of_parts parts) in
      taken_now l (AfterPart k) _ _ 0 (Term 0 (k + 1) ∷ AfterPart k ∷ MakePair p ∷ []) ss _ us (tok Comma p) _ refl refl (keeps_less l _ 0 g (omega arith))
      ∙ term_goes l a 0 (k + 1) (AfterPart k ∷ MakePair p ∷ ss) (sized first d ∷ ts) us (part_tokens parts ++ rest) w.0 (omega arith) (keeps_less l _ _ g (omega arith)) (halts_parts _ parts rest)
      ∙ passed l (level_of a) 0 (k + 1) _ _ us (part_tokens parts ++ rest) (level_9 a) (halts_parts 0 parts rest)
      ∙ parts_go l parts (raw a) (depth_of a) k (MakePair p ∷ ss) (sized first d ∷ ts) us rest w.1 (keeps_less l _ _ g (omega arith))
      ∙ made_now l (MakePair p) _ _ ss (sized (raw_parts (raw a) parts) (max (depth_of a) (depth_of_parts parts)) ∷ sized first d ∷ ts) us rest refl refl)

  vars_go : (l : Option ℕ) (vars : WVars) (b : Binder) (k : ℕ) (ss : List Symbol) (ts : List Sized) (us : List SizedTy) (rest : List Placed) → AreVars vars → Keeps l (k + suc (depth_of_vars vars)) → Halts 0 rest → goes l (Vars b k ∷ ss) ts us (vars_tokens vars ++ rest) ≡ goes l ss (sized (raw_vars b vars) (depth_of_vars vars) ∷ ts) us rest
  vars_go l (last_var x at a) b k ss ts us rest w g h =
      rw (append_assoc (var_tokens x) (tok Dot at ∷ term_tokens a) rest)
      (let x1 = left_max (depth_of_var x) (depth_of a) in
      let x2 = right_max (depth_of_var x) (depth_of a) in
      var_goes l x b k ss ts us (tok Dot at ∷ (term_tokens a ++ rest)) w.0 (keeps_less l _ _ g (omega arith))
      ∙ taken_now l (MoreVars b k) _ _ 0 (Term 0 (k + 1) ∷ []) (var_makes b x ∷ ss) ts _ (tok Dot at) _ refl refl (keeps_less l _ 0 g (omega arith))
      ∙ term_goes l a 0 (k + 1) (var_makes b x ∷ ss) ts (var_types x us) rest w.1 (omega arith) (keeps_less l _ _ g (omega arith)) (halts_more 0 _ rest h (omega arith))
      ∙ passed l (level_of a) 0 (k + 1) _ _ _ rest (level_9 a) h
      ∙ var_made l x b (raw a) (depth_of a) ss ts us rest)
  vars_go l (next_var x vars) b k ss ts us rest w g h =
      rw (append_assoc (var_tokens x) (vars_tokens vars) rest)
      (let x1 = left_max (depth_of_var x) (depth_of_vars vars) in
      let x2 = right_max (depth_of_var x) (depth_of_vars vars) in
      var_goes l x b k ss ts us (vars_tokens vars ++ rest) w.0 (keeps_less l _ _ g (omega arith))
      ∙ rest_of_vars l vars b k (var_makes b x ∷ ss) ts (var_types x us) rest (keeps_less l _ _ g (omega arith))
      ∙ vars_go l vars b k (var_makes b x ∷ ss) ts (var_types x us) rest w.1 (keeps_less l _ _ g (omega arith)) h
      ∙ var_made l x b (raw_vars b vars) (depth_of_vars vars) ss ts us rest)

  rest_of_vars : (l : Option ℕ) (vars : WVars) (b : Binder) (k : ℕ) (ss : List Symbol) (ts : List Sized) (us : List SizedTy) (rest : List Placed) → Keeps l (k + suc (depth_of_vars vars)) → goes l (MoreVars b k ∷ ss) ts us (vars_tokens vars ++ rest) ≡ goes l (Vars b k ∷ ss) ts us (vars_tokens vars ++ rest)
  rest_of_vars l (last_var x at a) b k ss ts us rest g = rw (append_assoc (var_tokens x) (tok Dot at ∷ term_tokens a) rest) (more_vars l x b k ss ts us _ (keeps_less l _ _ g (omega (arith, left_max (depth_of_var x) (depth_of a)))))
  rest_of_vars l (next_var x vars) b k ss ts us rest g = rw (append_assoc (var_tokens x) (vars_tokens vars) rest) (more_vars l x b k ss ts us _ (keeps_less l _ _ g (omega (arith, left_max (depth_of_var x) (depth_of_vars vars)))))

typed_goes : (l : Option ℕ) (t : WTerm) (c : ℕ) (u : WType) → IsTerm t → IsType u → 1 ≤ level_of_type u → Keeps l (suc (max (depth_of t) (depth_of_type u))) → goes l (Term 0 0 ∷ AfterWhole ∷ []) [] [] (term_tokens t ++ tok Colons c ∷ (type_tokens u ++ [])) ≡ goes l (MoreTy (level_of_type u) 1 1 ∷ MakeTyped c ∷ []) (sized (raw t) (depth_of t) ∷ []) (sized_ty (raw_type u) (depth_of_type u) ∷ []) []
unfolding TyHalts
typed_goes l t c u w v m g =
    let x1 = left_max (depth_of t) (depth_of_type u) in
    let x2 = right_max (depth_of t) (depth_of_type u) in
    term_goes l t 0 0 (AfterWhole ∷ []) [] [] (tok Colons c ∷ (type_tokens u ++ [])) w (omega arith) (keeps_less l _ _ g (omega arith)) (halts_end _ Colons c _ refl)
    ∙ passed l (level_of t) 0 0 _ _ [] (tok Colons c ∷ (type_tokens u ++ [])) (level_9 t) (halts_end 0 Colons c _ refl)
    ∙ taken_now l AfterWhole _ _ (suc (depth_of t)) (Ty 1 1 ∷ MakeTyped c ∷ []) [] _ [] (tok Colons c) _ refl refl (keeps_less l _ _ g (omega arith))
    ∙ type_goes l u 1 1 (MakeTyped c ∷ []) (sized (raw t) (depth_of t) ∷ []) [] [] v m (keeps_less l _ _ g (omega arith)) tt

-- what the grammar has within the depth is read
pub complete : (l : Option ℕ) (what : WWhole) → IsWhole what → Keeps l (depth_of_whole what) → out_ended (run l (start (kind_of what)) (whole_tokens what)) ≡ Some (tree_of what)
unfolding goes Halts TyHalts
complete l (whole_term t) w g =
    rw (← append-nil (term_tokens t))
    (term_goes l t 0 0 (AfterWhole ∷ []) [] [] [] w (omega arith) (keeps_less l _ _ g (omega arith)) tt)
complete l (whole_typed t c u) w g = rw (← append-nil (type_tokens u)) (typed_goes l t c u w.0 w.1 w.2 g)
complete l (whole_type u) w g =
    rw (← append-nil (type_tokens u))
    (type_goes l u 1 0 [] [] [] [] w.0 w.1 (keeps_less l _ _ g (omega arith)) tt)
