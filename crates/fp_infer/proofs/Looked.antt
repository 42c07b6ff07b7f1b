-- Looking for wrong names, one part after another.
use Rattle.std.proofs.Common.{◌≡◌, ◌∙◌, ◌+◌, ◌-◌, ◌≤◌, ℕ, Bool, List, [], ◌∷◌, ◌++◌, length, take, drop, get_or, refl, sym, ap, arith}
use Rattle.std.specs.Prelude.{Option}
use Rattle.fp_term.specs.declared.signature.Signature.{Signature}
use Rattle.fp_raw.specs.Raws.{RawTyp, raw_applied, arguments}
use Rattle.fp_infer.specs.Names.{Found, raw_count, is_wrong, found_if, wrong_in_type, wrong_in_types, earliest}
use Rattle.fp_infer.specs.declared.names.Search.{Search}
use Rattle.fp_infer.proofs.Known.{earliest_append}

pub looked : (first mid last : Option Found) (xs ys whole : List Found) → mid ≡ earliest first xs → last ≡ earliest mid ys → whole ≡ xs ++ ys → last ≡ earliest first whole
looked first mid last xs ys whole e f w = f ∙ ap (λ b. earliest b ys) e ∙ sym (earliest_append first xs ys) ∙ ap (earliest first) (sym w)

count_arguments : (ts : List RawTyp) → raw_count (arguments ts) ≡ length ts
count_arguments [] = refl
count_arguments (t ∷ ts) = let e = count_arguments ts in omega arith

take_all : (ts : List RawTyp) → take (length ts) ts ≡ ts
take_all [] = refl
take_all (t ∷ ts) = ap (λ r. t ∷ r) (take_all ts)

pub con_looked : (k : Search) (s : Signature) (name : List ℕ) (args slice : List RawTyp) (at place n : ℕ) (ty : RawTyp) (wrong : Bool) (first mid last : Option Found) → raw_applied name (arguments args) at ≡ ty → slice ≡ args →
    wrong ≡ is_wrong k s name n → n ≡ length slice → place ≡ at → mid ≡ earliest first (found_if wrong place name) → last ≡ earliest mid (wrong_in_types k s (arguments slice)) → last ≡ earliest first (wrong_in_type k s ty)
con_looked k s name args slice at place n ty wrong first mid last is slice_is wrong_is n_is place_is e f =
    let count : n ≡ raw_count (arguments args) = n_is ∙ ap length slice_is ∙ sym (count_arguments args) in
    looked first mid last (found_if wrong place name) (wrong_in_types k s (arguments slice)) (wrong_in_type k s ty) e f
    (rw (← is, slice_is, place_is, wrong_is, count) refl)

pub types_looked : (k : Search) (s : Signature) (types : List RawTyp) (t : RawTyp) (first mid last : Option Found) → 1 ≤ length types → t ≡ get_or types 0 t → mid ≡ earliest first (wrong_in_type k s t) →
    last ≡ earliest mid (wrong_in_types k s (arguments (take (length types - 1) (drop 1 types)))) → last ≡ earliest first (wrong_in_types k s (arguments types))
types_looked k s [] t first mid last h is e f = absurd (omega arith)
types_looked k s (u ∷ types) t first mid last h is e f =
    let less : length (u ∷ types) - 1 ≡ length types = omega arith in
    let g : last ≡ earliest mid (wrong_in_types k s (arguments types)) = rw (less, take_all types) at f in
    looked first mid last (wrong_in_type k s t) (wrong_in_types k s (arguments types)) (wrong_in_types k s (arguments (u ∷ types))) e g (rw is refl)
