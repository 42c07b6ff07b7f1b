-- How the machine takes the tokens of a type and of a term.
use Rattle.std.proofs.Common.{◌≡◌, ◌∙◌, ℕ, List, [], ◌∷◌, ◌++◌, ◌<◌, ◌^◌, Bool, true, cond, Option, Some, None, decimal, refl, ap}
use Rattle.std.specs.Option.{option_and_then}
use Rattle.fp_term.specs.Names.{is_name}
use Rattle.fp_term.specs.Types.{Typ, Typs, variable, applied, none, more}
use Rattle.fp_term.specs.Terms.{Tm, bound, free, constant, app, abs}
use Rattle.fp_full.specs.Tokens.{Token, right, Placed, tokens_of}
use Rattle.fp_full.specs.Grammar.{shown_type, shown_types, shown, IsNamedType, AreNamedTypes, IsNamed}
use Rattle.fp_full.specs.Machine.{function_part, argument_part, body_part, Nest, Use, free_type, constant_type, bound_type, Partial, State, term_due, form_due, number_due, free_name_due, constant_name_due, type_due, type_name_due, close_due, onto, typs, after_term, after_argument, read_on, is_numeral, step}
use Rattle.fp_full.proofs.Steps.{finishes}
use Rattle.fp_full.proofs.Numerals.{decimal_numeral}

-- placed tokens bring the one state to the other, up to those that are left; any others may follow
pub record Follows (tail : List Placed) (s u : State) (ts : List Placed) (tokens : List Token) : Type 0 where
  pub rest : List Placed
  pub left_over : tokens_of rest ≡ tokens
  pub same : finishes s (ts ++ tail) ≡ finishes u (rest ++ tail)

-- tokens do so wherever they stand
pub record Runs (tail : List Placed) (s : State) (all : List Token) (u : State) (tokens : List Token) : Type 0 where
  pub run : (ts : List Placed) → tokens_of ts ≡ all → Follows tail s u ts tokens

-- no token, and one
pub first_token : (q : Placed) (qs : List Placed) (token : Token) (tokens : List Token) → tokens_of (q ∷ qs) ≡ token ∷ tokens → (q.token ≡ token) × (tokens_of qs ≡ tokens)
first_token q qs token tokens e = let f : q.token ∷ tokens_of qs ≡ token ∷ tokens = e in (cc, cc)

pub no_token : (token : Token) (tokens : List Token) → tokens_of [] ≡ token ∷ tokens → ⊥
no_token token tokens e = let f : ◌≡◌ {A = List Token} [] (token ∷ tokens) = e in cc

-- a first token
after_first : (s u : State) (token : Token) (tokens : List Token) (ts tail : List Placed) → ((at : ℕ) → step s token at ≡ Some u) → tokens_of ts ≡ token ∷ tokens → Follows tail s u ts tokens
after_first s u token tokens [] tail is e = absurd (no_token token tokens e)
after_first s u token tokens (q ∷ qs) tail is e =
    let f = first_token q qs token tokens e in
    record {
      rest = qs;
      left_over = f.1;
      same = ap (λ x. option_and_then (λ next. finishes next (qs ++ tail)) (step s x q.at)) f.0 ∙ ap (λ o. option_and_then (λ next. finishes next (qs ++ tail)) o) (is q.at);
    }

-- one token
pub one : {tail : List Placed} {s u : State} {token : Token} {tokens : List Token} → ((at : ℕ) → step s token at ≡ Some u) → Runs tail s (token ∷ tokens) u tokens
one {tail} {s} {u} {token} {tokens} is = record { run = λ ts e. after_first s u token tokens ts tail is e }

-- one run, and then another
pub both : {tail : List Placed} {s t u : State} {a b c : List Token} → Runs tail s a t b → Runs tail t b u c → Runs tail s a u c
both first second = record {
  run = λ ts e.
      let f = first.run ts e in
      let g = second.run f.rest f.left_over in
      record { rest = g.rest; left_over = g.left_over; same = f.same ∙ g.same };
}

-- the test holds, so the state is the next
pub allowed : (b : Bool) (s : State) → b ≡ true → ◌≡◌ {A = Option State} (cond b (Some s) None) (Some s)
allowed b s e = ap (λ x. cond x (Some s) None) e

-- the arguments of an open type, after those so far
listed : List Typ → Typs → List Typ
listed args none = args
listed args (more u us) = listed (args ++ u ∷ []) us

-- one argument more in front of the rest
onto_push : (ts : List Typ) (t : Typ) (rest : Typs) → onto (ts ++ t ∷ []) rest ≡ onto ts (more t rest)
onto_push [] t rest = refl
onto_push (x ∷ xs) t rest = ap (λ r. more x r) (onto_push xs t rest)

-- all arguments of the type
typs_listed : (args : List Typ) (us : Typs) → typs (listed args us) ≡ onto args us
unfolding listed
typs_listed args none = refl
typs_listed args (more u us) = typs_listed (args ++ u ∷ []) us ∙ onto_push args u us

-- a type's tokens are taken for the type
mutual
  unfolding step listed

  pub type_runs : (t : Typ) (role : Use) (ps : List Partial) (nest : Nest) (tail : List Placed) (tokens : List Token) → IsNamedType t → Runs tail (type_due role ps nest) (shown_type t tokens) (after_argument t role ps nest) tokens
  type_runs (variable name) role ps nest tail tokens h = one (λ at. allowed (is_name name) (after_argument (variable name) role ps nest) h)
  type_runs (applied name args) role ps nest tail tokens h =
      both (one {u = type_name_due role ps nest} (λ at. refl))
      (both (one {u = type_due role (record { name = name; args = [] } ∷ ps) nest} (λ at. allowed (is_name name) _ h.0))
      (both (types_runs args name [] role ps nest tail (right ∷ tokens) h.1)
      (one (λ at. ap (λ us. Some (after_argument (applied name us) role ps nest)) (typs_listed [] args)))))

  types_runs : (us : Typs) (name : List ℕ) (args : List Typ) (role : Use) (ps : List Partial) (nest : Nest) (tail : List Placed) (tokens : List Token) → AreNamedTypes us →
      Runs tail (type_due role (record { name = name; args = args } ∷ ps) nest) (shown_types us tokens) (type_due role (record { name = name; args = listed args us } ∷ ps) nest) tokens
  types_runs none name args role ps nest tail tokens h = record { run = λ ts e. record { rest = ts; left_over = e; same = refl } }
  types_runs (more u us) name args role ps nest tail tokens h =
      both (type_runs u role (record { name = name; args = args } ∷ ps) nest tail (shown_types us tokens) h.0) (types_runs us name (args ++ u ∷ []) role ps nest tail tokens h.1)

-- the text of a number is taken for the number
numbered : (n : ℕ) (nest : Nest) → n < 2 ^ 32 → ◌≡◌ {A = Option State} (cond (is_numeral (decimal n)) (Some (close_due (bound (read_on 0 (decimal n))) nest)) None) (Some (close_due (bound n) nest))
numbered n nest h = let d = decimal_numeral n h in allowed (is_numeral (decimal n)) (close_due (bound (read_on 0 (decimal n))) nest) d.0 ∙ ap (λ m. Some (close_due (bound m) nest)) d.1

-- a term's tokens are taken for the term
pub term_runs : (t : Tm) (nest : Nest) (tail : List Placed) (tokens : List Token) → IsNamed t → Runs tail (term_due nest) (shown t tokens) (after_term t nest) tokens
unfolding step
term_runs (bound n) nest tail tokens h =
    both (one {u = form_due nest} (λ at. refl)) (both (one {u = number_due nest} (λ at. refl)) (both (one {u = close_due (bound n) nest} (λ at. numbered n nest h)) (one (λ at. refl))))
term_runs (free name s) nest tail tokens h =
    both (one {u = form_due nest} (λ at. refl)) (both (one {u = free_name_due nest} (λ at. refl))
    (both (one {u = type_due (free_type name) [] nest} (λ at. allowed (is_name name) _ h.0)) (both (type_runs s (free_type name) [] nest tail (right ∷ tokens) h.1) (one (λ at. refl)))))
term_runs (constant name s) nest tail tokens h =
    both (one {u = form_due nest} (λ at. refl)) (both (one {u = constant_name_due nest} (λ at. refl))
    (both (one {u = type_due (constant_type name) [] nest} (λ at. allowed (is_name name) _ h.0)) (both (type_runs s (constant_type name) [] nest tail (right ∷ tokens) h.1) (one (λ at. refl)))))
term_runs (app f x) nest tail tokens h =
    both (one {u = form_due nest} (λ at. refl)) (both (one {u = term_due (record { root = nest.root; frames = function_part ∷ nest.frames })} (λ at. refl))
    (both (term_runs f (record { root = nest.root; frames = function_part ∷ nest.frames }) tail (shown x (right ∷ tokens)) h.0)
    (both (term_runs x (record { root = nest.root; frames = argument_part f ∷ nest.frames }) tail (right ∷ tokens) h.1) (one (λ at. refl)))))
term_runs (abs s x) nest tail tokens h =
    both (one {u = form_due nest} (λ at. refl)) (both (one {u = type_due bound_type [] nest} (λ at. refl))
    (both (type_runs s bound_type [] nest tail (shown x (right ∷ tokens)) h.0)
    (both (term_runs x (record { root = nest.root; frames = body_part s ∷ nest.frames }) tail (right ∷ tokens) h.1) (one (λ at. refl)))))
