-- Written types and terms as lists of tokens in post-order, by which a proof tells them apart.
use Rattle.std.specs.Prelude.{◌≡◌, ◌≤◌, ℕ, ◌+◌, List, [], ◌∷◌, Option, Some, None, ◌==◌, if◌then◌else◌, refl}
use Rattle.std.proofs.Common.{arith, ap, ◌∙◌}
use Rattle.std.specs.Coded.{Coded, code_by, coded_list, coded×, coded_ℕ}
use Rattle.fp_raw.specs.Raws.{RawTyp, raw_variable, raw_applied, RawTyps, raw_none, raw_more, RawTm, raw_name, raw_bound, raw_free, raw_constant, raw_app, raw_abs, raw_typed, arguments, raw_type_size, raw_types_size}
use denote.Param.Weighed.{most}

pub data Part : Type 0 where
  a_type : RawTyp → Part
  some_types : RawTyps → Part
  a_term : RawTm → Part

-- which form, what it holds besides its parts, where it stands
abbrev pub Token : Type 0
Token = ℕ × (List ℕ × ℕ)

abbrev mutual
  pub type_tokens : RawTyp → List Token → List Token
  type_tokens (raw_variable name at) rest = (0, (name, at)) ∷ rest
  type_tokens (raw_applied name args at) rest = types_tokens args ((1, (name, at)) ∷ rest)

  pub types_tokens : RawTyps → List Token → List Token
  types_tokens raw_none rest = (2, ([], 0)) ∷ rest
  types_tokens (raw_more t ts) rest = type_tokens t (types_tokens ts ((3, ([], 0)) ∷ rest))

abbrev pub term_tokens : RawTm → List Token → List Token
term_tokens (raw_name name at) rest = (4, (name, at)) ∷ rest
term_tokens (raw_bound n at) rest = (5, (n ∷ [], at)) ∷ rest
term_tokens (raw_free name ty at) rest = type_tokens ty ((6, (name, at)) ∷ rest)
term_tokens (raw_constant name None at) rest = (7, (name, at)) ∷ rest
term_tokens (raw_constant name (Some ty) at) rest = type_tokens ty ((8, (name, at)) ∷ rest)
term_tokens (raw_app f x at) rest = term_tokens f (term_tokens x ((9, ([], at)) ∷ rest))
term_tokens (raw_abs None None body at) rest = term_tokens body ((10, ([], at)) ∷ rest)
term_tokens (raw_abs None (Some ty) body at) rest = type_tokens ty (term_tokens body ((11, ([], at)) ∷ rest))
term_tokens (raw_abs (Some name) None body at) rest = term_tokens body ((12, (name, at)) ∷ rest)
term_tokens (raw_abs (Some name) (Some ty) body at) rest = type_tokens ty (term_tokens body ((13, (name, at)) ∷ rest))
term_tokens (raw_typed t ty at) rest = term_tokens t (type_tokens ty ((14, ([], at)) ∷ rest))

abbrev pub make_applied : List ℕ → ℕ → List Part → List Part
make_applied name at (some_types ts ∷ s) = a_type (raw_applied name ts at) ∷ s
make_applied name at s = s

abbrev pub make_more : List Part → List Part
make_more (some_types ts ∷ a_type t ∷ s) = some_types (raw_more t ts) ∷ s
make_more s = s

abbrev pub make_bound : List ℕ → ℕ → List Part → List Part
make_bound (n ∷ []) at s = a_term (raw_bound n at) ∷ s
make_bound _ at s = s

abbrev pub make_free : List ℕ → ℕ → List Part → List Part
make_free name at (a_type t ∷ s) = a_term (raw_free name t at) ∷ s
make_free name at s = s

abbrev pub make_constant : List ℕ → ℕ → List Part → List Part
make_constant name at (a_type t ∷ s) = a_term (raw_constant name (Some t) at) ∷ s
make_constant name at s = s

abbrev pub make_app : ℕ → List Part → List Part
make_app at (a_term x ∷ a_term f ∷ s) = a_term (raw_app f x at) ∷ s
make_app at s = s

abbrev pub make_abs : Option (List ℕ) → ℕ → List Part → List Part
make_abs name at (a_term x ∷ s) = a_term (raw_abs name None x at) ∷ s
make_abs name at s = s

abbrev pub make_typed_abs : Option (List ℕ) → ℕ → List Part → List Part
make_typed_abs name at (a_term x ∷ a_type t ∷ s) = a_term (raw_abs name (Some t) x at) ∷ s
make_typed_abs name at s = s

abbrev pub make_typed : ℕ → List Part → List Part
make_typed at (a_type t ∷ a_term x ∷ s) = a_term (raw_typed x t at) ∷ s
make_typed at s = s

abbrev pub step : ℕ → List ℕ → ℕ → List Part → List Part
step kind name at s =
    if kind == 0 then a_type (raw_variable name at) ∷ s else
    (if kind == 1 then make_applied name at s else
    (if kind == 2 then some_types raw_none ∷ s else
    (if kind == 3 then make_more s else
    (if kind == 4 then a_term (raw_name name at) ∷ s else
    (if kind == 5 then make_bound name at s else
    (if kind == 6 then make_free name at s else
    (if kind == 7 then a_term (raw_constant name None at) ∷ s else
    (if kind == 8 then make_constant name at s else
    (if kind == 9 then make_app at s else
    (if kind == 10 then make_abs None at s else
    (if kind == 11 then make_typed_abs None at s else
    (if kind == 12 then make_abs (Some name) at s else
    (if kind == 13 then make_typed_abs (Some name) at s else make_typed at s)))))))))))))

abbrev pub parts : List Part → List Token → List Part
parts s [] = s
parts s (t ∷ ts) = parts (step t.0 t.1.0 t.1.1 s) ts

mutual
  pub type_back : (t : RawTyp) (s : List Part) (rest : List Token) → parts s (type_tokens t rest) ≡ parts (a_type t ∷ s) rest
  type_back (raw_variable name at) s rest = refl
  type_back (raw_applied name args at) s rest = types_back args s ((1, (name, at)) ∷ rest)

  pub types_back : (ts : RawTyps) (s : List Part) (rest : List Token) → parts s (types_tokens ts rest) ≡ parts (some_types ts ∷ s) rest
  types_back raw_none s rest = refl
  types_back (raw_more t ts) s rest = type_back t s (types_tokens ts ((3, ([], 0)) ∷ rest)) ∙ types_back ts (a_type t ∷ s) ((3, ([], 0)) ∷ rest)

pub term_back : (t : RawTm) (s : List Part) (rest : List Token) → parts s (term_tokens t rest) ≡ parts (a_term t ∷ s) rest
term_back (raw_name name at) s rest = refl
term_back (raw_bound n at) s rest = refl
term_back (raw_free name ty at) s rest = type_back ty s ((6, (name, at)) ∷ rest)
term_back (raw_constant name None at) s rest = refl
term_back (raw_constant name (Some ty) at) s rest = type_back ty s ((8, (name, at)) ∷ rest)
term_back (raw_app f x at) s rest = term_back f s (term_tokens x ((9, ([], at)) ∷ rest)) ∙ term_back x (a_term f ∷ s) ((9, ([], at)) ∷ rest)
term_back (raw_abs None None body at) s rest = term_back body s ((10, ([], at)) ∷ rest)
term_back (raw_abs None (Some ty) body at) s rest = type_back ty s (term_tokens body ((11, ([], at)) ∷ rest)) ∙ term_back body (a_type ty ∷ s) ((11, ([], at)) ∷ rest)
term_back (raw_abs (Some name) None body at) s rest = term_back body s ((12, (name, at)) ∷ rest)
term_back (raw_abs (Some name) (Some ty) body at) s rest = type_back ty s (term_tokens body ((13, (name, at)) ∷ rest)) ∙ term_back body (a_type ty ∷ s) ((13, (name, at)) ∷ rest)
term_back (raw_typed t ty at) s rest = term_back t s (type_tokens ty ((14, ([], at)) ∷ rest)) ∙ type_back ty (a_term t ∷ s) ((14, ([], at)) ∷ rest)

abbrev pub first_type : List Part → RawTyp
first_type (a_type t ∷ s) = t
first_type _ = raw_variable [] 0

abbrev pub first_term : List Part → RawTm
first_term (a_term t ∷ s) = t
first_term _ = raw_bound 0 0

abbrev pub tokens_code : Coded (List Token)
tokens_code = coded_list (coded× coded_ℕ (coded× (coded_list coded_ℕ) coded_ℕ))

abbrev pub coded_raw_type : Coded RawTyp
coded_raw_type = code_by (List Token) tokens_code (λ t. type_tokens t []) (λ ts. first_type (parts [] ts)) (λ t. ap first_type (type_back t [] []))

abbrev pub coded_raw : Coded RawTm
coded_raw = code_by (List Token) tokens_code (λ t. term_tokens t []) (λ ts. first_term (parts [] ts)) (λ t. ap first_term (term_back t [] []))

-- each argument is smaller than the type that it is an argument of
pub arguments_smaller : (ts : List RawTyp) → most (λ t. raw_type_size t + 1) ts ≤ raw_types_size (arguments ts) + 1
arguments_smaller [] = omega arith
arguments_smaller (t ∷ ts) = omega (arith, arguments_smaller ts)
