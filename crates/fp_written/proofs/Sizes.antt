-- The fewest words that a stack still needs.
use Rattle.std.proofs.Common.{◌≡◌, ◌+◌, ◌≤◌, ℕ, suc, List, [], ◌∷◌, ◌++◌, Bool, true, false, cond, ◌==◌, nat_le, Option, Some, None, refl, arith}
use Rattle.std.specs.Option.{option_and_then}
use Rattle.fp_words.specs.declared.word.Binder.{Binder}
use Rattle.fp_words.specs.declared.word.Word.{Word}
use Rattle.fp_words.specs.declared.word.Word.TheVariants.{Name, TyVar, Number, Between, Negation, Binds, Dot, Comma, Open, Close, Colons, If, Then, Else}
use Rattle.fp_words.specs.declared.word.Placed.{Placed}
use Rattle.fp_written.specs.Symbols.{Symbol}
use Rattle.fp_written.specs.Symbols.{Term, MoreTerm, AfterWhole, AfterTerm, AfterPart, Vars, MoreVars, VarName, Ty, MoreTy, AfterTy, AfterArg, ConName, WantColons, WantThen, WantElse, WantClose}
use Rattle.fp_written.specs.Written.{Tree}
use Rattle.fp_written.specs.Machine.{keeps, Move, takes, passes, stops, term_move, joins, applies, more_move, after_whole_move, after_term_move, after_part_move, vars_move, more_vars_move, var_name_move, ty_move, ty_joins, ty_applies, more_ty_move, after_ty_move, after_arg_move, con_name_move, colons_move, then_move, else_move, close_move, Sized, SizedTy, Made, Does, reads, makes, does, State, state, Out, on, refused, too_deep, top_depth, top_ty_depth, moved, when_made, does_step, step, does_finish, finish, whole, then_out, run, out_ended}
use Rattle.std.proofs.Common.{length}
use Rattle.std.proofs.lemmas.Option.{none-some}
use Rattle.fp_written.specs.Machine.{least, owed}
use Rattle.fp_written.proofs.Owed.{owed_append}

-- a word that is taken pays for one at most
MovePays : Move → ℕ → Type 0
MovePays (takes d these) n = n ≤ suc (owed these)
MovePays passes n = n ≡ 0
MovePays stops n = Unit {0}

pays_cond : (c : Bool) (x y : Move) (n : ℕ) → MovePays x n → MovePays y n → MovePays (cond c x y) n
pays_cond true x y n p q = p
pays_cond false x y n p q = q

term_pays : (n k : ℕ) (w : Word) (at : ℕ) → MovePays (term_move n k w at) 1
unfolding MovePays
term_pays n k (Name x) at = omega arith
term_pays n k (Number x) at = omega arith
term_pays n k Open at = omega arith
term_pays n k Negation at = pays_cond (nat_le n 4) _ stops 1 (omega arith) tt
term_pays n k (Binds b) at = pays_cond (n == 0) _ stops 1 (omega arith) tt
term_pays n k If at = pays_cond (n == 0) _ stops 1 (omega arith) tt
term_pays n k _ at = tt

more_pays : (j n k d : ℕ) (w : Word) (at : ℕ) → MovePays (more_move j n k d w at) 0
unfolding MovePays
more_pays j n k d (Between o) at = pays_cond (joins j n o) _ passes 0 (omega arith) refl
more_pays j n k d (Name x) at = pays_cond (applies j n) _ passes 0 (omega arith) refl
more_pays j n k d (Number x) at = pays_cond (applies j n) _ passes 0 (omega arith) refl
more_pays j n k d Open at = pays_cond (applies j n) _ passes 0 (omega arith) refl
more_pays j n k d _ at = refl

whole_pays : (d : ℕ) (w : Word) (at : ℕ) → MovePays (after_whole_move d w at) 0
unfolding MovePays
whole_pays d Colons at = omega arith
whole_pays d _ at = refl

after_term_pays : (k d : ℕ) (w : Word) (at : ℕ) → MovePays (after_term_move k d w at) 1
unfolding MovePays
after_term_pays k d Close at = omega arith
after_term_pays k d Colons at = omega arith
after_term_pays k d Comma at = omega arith
after_term_pays k d _ at = tt

after_part_pays : (k : ℕ) (w : Word) (at : ℕ) → MovePays (after_part_move k w at) 1
unfolding MovePays
after_part_pays k Close at = omega arith
after_part_pays k Comma at = omega arith
after_part_pays k _ at = tt

vars_pays : (b : Binder) (k : ℕ) (w : Word) (at : ℕ) → MovePays (vars_move b k w at) 3
unfolding MovePays
vars_pays b k (Name x) at = omega arith
vars_pays b k Open at = omega arith
vars_pays b k _ at = tt

more_vars_pays : (b : Binder) (k : ℕ) (w : Word) (at : ℕ) → MovePays (more_vars_move b k w at) 2
unfolding MovePays
more_vars_pays b k (Name x) at = omega arith
more_vars_pays b k Open at = omega arith
more_vars_pays b k Dot at = omega arith
more_vars_pays b k _ at = tt

var_name_pays : (b : Binder) (k : ℕ) (w : Word) (at : ℕ) → MovePays (var_name_move b k w at) 6
unfolding MovePays
var_name_pays b k (Name x) at = omega arith
var_name_pays b k _ at = tt

ty_pays : (n k : ℕ) (w : Word) (at : ℕ) → MovePays (ty_move n k w at) 1
unfolding MovePays
ty_pays n k (TyVar x) at = omega arith
ty_pays n k (Name x) at = omega arith
ty_pays n k Open at = omega arith
ty_pays n k _ at = tt

more_ty_pays : (j n k d : ℕ) (w : Word) (at : ℕ) → MovePays (more_ty_move j n k d w at) 0
unfolding MovePays
more_ty_pays j n k d (Between o) at = pays_cond (ty_joins j n o) _ passes 0 (omega arith) refl
more_ty_pays j n k d (Name x) at = pays_cond (ty_applies j n) _ passes 0 (omega arith) refl
more_ty_pays j n k d _ at = refl

after_ty_pays : (k : ℕ) (w : Word) (at : ℕ) → MovePays (after_ty_move k w at) 1
unfolding MovePays
after_ty_pays k Close at = omega arith
after_ty_pays k Comma at = omega arith
after_ty_pays k _ at = tt

after_arg_pays : (k : ℕ) (w : Word) (at : ℕ) → MovePays (after_arg_move k w at) 2
unfolding MovePays
after_arg_pays k Close at = omega arith
after_arg_pays k Comma at = omega arith
after_arg_pays k _ at = tt

con_name_pays : (w : Word) (at : ℕ) → MovePays (con_name_move w at) 1
unfolding MovePays
con_name_pays (Name x) at = omega arith
con_name_pays _ at = tt

colons_pays : (w : Word) → MovePays (colons_move w) 1
unfolding MovePays
colons_pays Colons = omega arith
colons_pays _ = tt

then_pays : (w : Word) → MovePays (then_move w) 1
unfolding MovePays
then_pays Then = omega arith
then_pays _ = tt

else_pays : (w : Word) → MovePays (else_move w) 1
unfolding MovePays
else_pays Else = omega arith
else_pays _ = tt

close_pays : (w : Word) → MovePays (close_move w) 1
unfolding MovePays
close_pays Close = omega arith
close_pays _ = tt

DoesPay : Does → ℕ → Type 0
DoesPay (reads f b) n = ((d e : ℕ) (w : Word) (at : ℕ) → MovePays (f d e w at) n) × (b ≡ true → n ≡ 0)
DoesPay (makes f) n = n ≡ 0

no_end : {n : ℕ} → false ≡ true → n ≡ 0
no_end e = absurd (let bad : false ≡ true = e in cc)

pays : (s : Symbol) → DoesPay (does s) (least s)
unfolding DoesPay
pays (Term n k) = (λ d e. term_pays n k, no_end)
pays (MoreTerm j n k) = (λ d e. more_pays j n k d, λ _. refl)
pays AfterWhole = (λ d e. whole_pays d, λ _. refl)
pays (AfterTerm k) = (λ d e. after_term_pays k d, no_end)
pays (AfterPart k) = (λ d e. after_part_pays k, no_end)
pays (Vars b k) = (λ d e. vars_pays b k, no_end)
pays (MoreVars b k) = (λ d e. more_vars_pays b k, no_end)
pays (VarName b k) = (λ d e. var_name_pays b k, no_end)
pays (Ty n k) = (λ d e. ty_pays n k, no_end)
pays (MoreTy j n k) = (λ d e. more_ty_pays j n k e, λ _. refl)
pays (AfterTy k) = (λ d e. after_ty_pays k, no_end)
pays (AfterArg k) = (λ d e. after_arg_pays k, no_end)
pays ConName = (λ d e. con_name_pays, no_end)
pays WantColons = (λ d e w at. colons_pays w, no_end)
pays WantThen = (λ d e w at. then_pays w, no_end)
pays WantElse = (λ d e w at. else_pays w, no_end)
pays WantClose = (λ d e w at. close_pays w, no_end)
pays _ = refl

OutPays : Out → ℕ → Type 0
OutPays (on s) n = n ≤ suc (owed s.todo)
OutPays refused n = Unit {0}
OutPays too_deep n = Unit {0}

weaker : (o : Out) (m n : ℕ) → n ≤ m → OutPays o m → OutPays o n
unfolding OutPays
weaker (on s) m n l p = omega arith
weaker refused m n l p = tt
weaker too_deep m n l p = tt

move_pays : (l : Option ℕ) (m : Move) (n : ℕ) (without : Out) (ss : List Symbol) (ts : List Sized) (us : List SizedTy) → MovePays m n → OutPays without (owed ss) → OutPays (moved l m without ss ts us) (n + owed ss)
unfolding MovePays OutPays
move_pays l (takes d these) n without ss ts us p q =
    elim (keeps l d) as (λ c. OutPays (cond c (on (state (these ++ ss) ts us)) too_deep) (n + owed ss)) [ true ↦ omega (arith, owed_append these ss) | false ↦ tt ]
move_pays l passes n without ss ts us p q = weaker without (owed ss) (n + owed ss) (omega arith) q
move_pays l stops n without ss ts us p q = tt

when_pays : (l : Option ℕ) (a : Placed) (ss : List Symbol) (o : Option Made) (n : ℕ) → n ≡ 0 → ((ts : List Sized) (us : List SizedTy) → OutPays (step l a ss ts us) (owed ss)) → OutPays (when_made (step l a ss) o) (n + owed ss)
unfolding OutPays
when_pays l a ss None n z f = tt
when_pays l a ss (Some m) n z f = weaker (step l a ss m.terms m.types) (owed ss) (n + owed ss) (omega arith) (f m.terms m.types)

does_pays : (l : Option ℕ) (d : Does) (n : ℕ) (a : Placed) (ss : List Symbol) (ts : List Sized) (us : List SizedTy) → DoesPay d n → ((ts : List Sized) (us : List SizedTy) → OutPays (step l a ss ts us) (owed ss)) → OutPays (does_step l d (step l a ss) ss ts us a) (n + owed ss)
unfolding DoesPay
does_pays l (reads f b) n a ss ts us p q = move_pays l (f (top_depth ts) (top_ty_depth us) a.word a.at) n _ ss ts us (p.0 (top_depth ts) (top_ty_depth us) a.word a.at) (q ts us)
does_pays l (makes f) n a ss ts us p q = when_pays l a ss (f ts us) n p q

step_pays : (l : Option ℕ) (a : Placed) (ss : List Symbol) (ts : List Sized) (us : List SizedTy) → OutPays (step l a ss ts us) (owed ss)
unfolding OutPays
step_pays l a [] ts us = tt
step_pays l a (s ∷ ss) ts us = does_pays l (does s) (least s) a ss ts us (pays s) (λ ts us. step_pays l a ss ts us)

-- where the words may end nothing is owed
ends_paid : (ss : List Symbol) (ts : List Sized) (us : List SizedTy) (m : Made) → finish ss ts us ≡ Some m → owed ss ≡ 0
unfolding DoesPay
ends_paid [] ts us m e = refl
ends_paid (s ∷ ss) ts us m e =
    elim (does s) as (λ d. DoesPay d (least s) → does_finish d (finish ss) ts us ≡ Some m → least s + owed ss ≡ 0) [
      | reads f b ↦ λ p e. elim b as (λ b. (b ≡ true → least s ≡ 0) → cond b (finish ss ts us) None ≡ Some m → least s + owed ss ≡ 0) [
        | true ↦ λ p e. (let h : least s ≡ 0 = p refl in let k : owed ss ≡ 0 = ends_paid ss ts us m e in omega arith)
        | false ↦ λ p e. absurd (none-some m e)
      ] p.1 e
      | makes f ↦ λ p e. elim (f ts us) as (λ o. option_and_then (λ m. finish ss m.terms m.types) o ≡ Some m → least s + owed ss ≡ 0) [
        | None ↦ λ e. absurd (none-some m e)
        | Some ws ↦ λ e. (let k : owed ss ≡ 0 = ends_paid ss ws.terms ws.types m e in omega arith)
      ] e
    ] (pays s) e

ended_paid : (s : State) (o : Option Made) (t : Tree) → finish s.todo s.terms s.types ≡ o → option_and_then (λ m. whole m.terms m.types) o ≡ Some t → owed s.todo ≡ 0
ended_paid s None t e d = absurd (none-some t d)
ended_paid s (Some m) t e d = ends_paid s.todo s.terms s.types m e

-- whatever is read from a state has at least the words that it needs
pub needs : (l : Option ℕ) (tokens : List Placed) (s : State) (t : Tree) → out_ended (run l s tokens) ≡ Some t → owed s.todo ≤ length tokens
unfolding OutPays
needs l [] s t e = let z = ended_paid s (finish s.todo s.terms s.types) t refl e in omega arith
needs l (a ∷ tail) s t e =
    elim (step l a s.todo s.terms s.types) as (λ o. OutPays o (owed s.todo) → out_ended (then_out (λ n. run l n tail) o) ≡ Some t → owed s.todo ≤ suc (length tail)) [
      | on n ↦ λ p e. (let k = needs l tail n t e in omega arith)
      | refused ↦ λ p e. absurd (none-some t e)
      | too_deep ↦ λ p e. absurd (none-some t e)
    ] (step_pays l a s.todo s.terms s.types) e
