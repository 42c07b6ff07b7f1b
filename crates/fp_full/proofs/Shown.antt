-- The tokens of types and terms, with more behind them.
use Rattle.std.proofs.Common.{◌≡◌, ◌∙◌, List, [], ◌∷◌, ◌++◌, codes, decimal, refl, ap}
use Rattle.fp_term.specs.Types.{Typ, Typs, variable, applied, none, more}
use Rattle.fp_term.specs.Terms.{Tm, bound, free, constant, app, abs}
use Rattle.fp_full.specs.Tokens.{Token, left, right, word}
use Rattle.fp_full.specs.Grammar.{shown_type, shown_types, shown, shown_all}
use Rattle.fp_full.specs.Machine.{typs}

-- the tokens of the arguments so far of a type, and then the rest
abbrev pub shown_list : List Typ → List Token → List Token
shown_list [] rest = rest
shown_list (t ∷ ts) rest = shown_type t (shown_list ts rest)

-- the tokens of a term but for its last parenthesis, and then the rest
abbrev pub open_shown : Tm → List Token → List Token
open_shown (bound n) rest = left ∷ word (codes "b") ∷ word (decimal n) ∷ rest
open_shown (free name s) rest = left ∷ word (codes "v") ∷ word name ∷ shown_type s rest
open_shown (constant name s) rest = left ∷ word (codes "c") ∷ word name ∷ shown_type s rest
open_shown (app f x) rest = left ∷ word (codes "a") ∷ shown f (shown x rest)
open_shown (abs s x) rest = left ∷ word (codes "l") ∷ shown_type s (shown x rest)

-- a term's last token is a parenthesis
pub shown_closed : (t : Tm) (rest : List Token) → open_shown t (right ∷ rest) ≡ shown t rest
shown_closed (bound n) rest = refl
shown_closed (free name s) rest = refl
shown_closed (constant name s) rest = refl
shown_closed (app f x) rest = refl
shown_closed (abs s x) rest = refl

-- arguments as a list, and as a type has them
pub shown_typs : (ts : List Typ) (rest : List Token) → shown_list ts rest ≡ shown_types (typs ts) rest
shown_typs [] rest = refl
shown_typs (t ∷ ts) rest = ap (λ r. shown_type t r) (shown_typs ts rest)

-- one argument more
pub shown_list_push : (ts : List Typ) (t : Typ) (rest : List Token) → shown_list ts (shown_type t rest) ≡ shown_list (ts ++ t ∷ []) rest
shown_list_push [] t rest = refl
shown_list_push (x ∷ xs) t rest = ap (λ r. shown_type x r) (shown_list_push xs t rest)

-- one term more
pub shown_all_push : (ts : List Tm) (t : Tm) (rest : List Token) → shown_all ts (shown t rest) ≡ shown_all (ts ++ t ∷ []) rest
shown_all_push [] t rest = refl
shown_all_push (x ∷ xs) t rest = ap (λ r. shown x r) (shown_all_push xs t rest)

-- what comes after a type, its arguments or a term stays behind its tokens
mutual
  shown_type_append : (t : Typ) (a b : List Token) → shown_type t (a ++ b) ≡ shown_type t a ++ b
  shown_type_append (variable name) a b = refl
  shown_type_append (applied name args) a b = ap (λ r. left ∷ word name ∷ r) (shown_types_append args (right ∷ a) b)

  shown_types_append : (ts : Typs) (a b : List Token) → shown_types ts (a ++ b) ≡ shown_types ts a ++ b
  shown_types_append none a b = refl
  shown_types_append (more t ts) a b = ap (λ r. shown_type t r) (shown_types_append ts a b) ∙ shown_type_append t (shown_types ts a) b

pub shown_append : (t : Tm) (a b : List Token) → shown t (a ++ b) ≡ shown t a ++ b
shown_append (bound n) a b = refl
shown_append (free name s) a b = ap (λ r. left ∷ word (codes "v") ∷ word name ∷ r) (shown_type_append s (right ∷ a) b)
shown_append (constant name s) a b = ap (λ r. left ∷ word (codes "c") ∷ word name ∷ r) (shown_type_append s (right ∷ a) b)
shown_append (app f x) a b =
    ap (λ r. left ∷ word (codes "a") ∷ shown f r) (shown_append x (right ∷ a) b) ∙ ap (λ r. left ∷ word (codes "a") ∷ r) (shown_append f (shown x (right ∷ a)) b)
shown_append (abs s x) a b =
    ap (λ r. left ∷ word (codes "l") ∷ shown_type s r) (shown_append x (right ∷ a) b) ∙ ap (λ r. left ∷ word (codes "l") ∷ r) (shown_type_append s (shown x (right ∷ a)) b)
