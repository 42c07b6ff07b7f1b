-- The generated terms are measures, and pairs of lists grow together.
use Rattle.std.proofs.Common.{◌≡◌, ◌∙◌, ◌<◌, ◌≤◌, ◌+◌, ℕ, zero, suc, Bool, true, false, cond, List, [], ◌∷◌, ◌++◌, take, drop, map, length, get_or, take-suc, drop-cons, append_assoc, refl, sym, ap, subst, arith}
use Rattle.std.specs.Prelude.{Result, Ok, Err, IfOk, Some, None, codes}
use Rattle.std.specs.Str.{bytes_eq}
use Rattle.std.proofs.lemmas.List.{map-append, drop_all, append-nil}
use Rattle.std.proofs.lemmas.Option.{same_Some}
use Rattle.std.proofs.lemmas.Slice.Eq.{bytes_eq-Decides}
use Rattle.fp_term.specs.Types.{Typ, Typs, variable, applied, none, more, type_parts}
use Rattle.fp_term.specs.Terms.{Tm, bound, app}
use Rattle.fp_term.specs.Typing.{function_type}
use Rattle.fp_term.proofs.Typed.{app_typed, abs_typed, typed_longer}
use Rattle.fp_conv.specs.Passes.{NormalBy}
use Rattle.fp_shapes.specs.Tuples.{pair_type}
use Rattle.fp_normal.proofs.Kept.{normal_typed, normal_closed}
use Rattle.fp_measure.specs.Sources.{natural, IsMeasure, AreMeasures, measures_of}
use Rattle.fp_measure.specs.Generating.{projection, of_part, AreNormalForms, pair_parts, two_types, offered, JoinsParts, Generates, of_pair, of_other}

-- lists of measures
pub append_measures : (ty : Typ) (xs ys : List Tm) → AreMeasures ty xs → AreMeasures ty ys → AreMeasures ty (xs ++ ys)
append_measures ty [] ys a b = b
append_measures ty (x ∷ xs) ys a b = (a.0, append_measures ty xs ys a.1 b)

pub take_measures : (ty : Typ) (n : ℕ) (xs : List Tm) → AreMeasures ty xs → AreMeasures ty (take n xs)
take_measures ty zero xs a = tt
take_measures ty (suc n) [] a = tt
take_measures ty (suc n) (x ∷ xs) a = (a.0, take_measures ty n xs a.1)

-- a measure of a part as one of the pair
part_measures : (pair part : Typ) (name : List ℕ) (m : Tm) → IsMeasure part m → IsMeasure pair (of_part pair (projection name pair part) m)
part_measures pair part name m k =
    let inner = app_typed (pair ∷ []) (projection name pair part) (bound 0) pair part refl refl in
    let measured = typed_longer [] (pair ∷ []) m (function_type part natural) k.typed in
    record {
      closed = rw (k.closed) refl;
      typed = abs_typed [] pair (app m (app (projection name pair part) (bound 0))) natural (app_typed (pair ∷ []) m (app (projection name pair part) (bound 0)) part natural measured inner);
    }

normal_measures : (ty : Typ) (t u : Tm) → NormalBy t u → IsMeasure ty t → IsMeasure ty u
normal_measures ty t u d k = record { closed = normal_closed d k.closed; typed = normal_typed (function_type ty natural) d k.typed }

pub parts_measure : (pair part : Typ) (name : List ℕ) (ms ns : List Tm) → AreMeasures part ms → AreNormalForms (map (of_part pair (projection name pair part)) ms) ns → AreMeasures pair ns
parts_measure pair part name [] [] a d = tt
parts_measure pair part name [] (n ∷ ns) a d = absurd d
parts_measure pair part name (m ∷ ms) [] a d = absurd d
parts_measure pair part name (m ∷ ms) (n ∷ ns) a d =
    (normal_measures pair (of_part pair (projection name pair part) m) n d.0 (part_measures pair part name m a.0), parts_measure pair part name ms ns a.1 d.1)

-- one more of each list
pub more_forms : (ts us : List Tm) (t u : Tm) → AreNormalForms ts us → NormalBy t u → AreNormalForms (ts ++ t ∷ []) (us ++ u ∷ [])
more_forms [] [] t u a d = (d, tt)
more_forms [] (v ∷ us) t u a d = absurd a
more_forms (s ∷ ts) [] t u a d = absurd a
more_forms (s ∷ ts) (v ∷ us) t u a d = (a.0, more_forms ts us t u a.1 d)

-- the loop over the measures of a part
take_more : (ms : List Tm) (i : ℕ) (m : Tm) → m ≡ get_or ms i m → i < length ms → take (i + 1) ms ≡ take i ms ++ m ∷ []
take_more ms i m is below =
    let on : i + 1 ≡ suc i = omega arith in
    ap (λ (n : ℕ). take n ms) on ∙ take-suc ms i m below ∙ ap (λ (x : Tm). take i ms ++ x ∷ []) (sym is)

pub one_more_form : (pair : Typ) (p w n : Tm) (ms made new : List Tm) (i : ℕ) (m : Tm) → m ≡ get_or ms i m → i < length ms → w ≡ of_part pair p m → NormalBy w n → new ≡ made ++ n ∷ [] →
    AreNormalForms (map (of_part pair p) (take i ms)) made → AreNormalForms (map (of_part pair p) (take (i + 1) ms)) new
one_more_form pair p w n ms made new i m is below w_is d new_is a =
    let f = of_part pair p in
    let on : take (i + 1) ms ≡ take i ms ++ m ∷ [] = take_more ms i m is below in
    let mapped : map f (take (i + 1) ms) ≡ map f (take i ms) ++ w ∷ [] = ap (map f) on ∙ map-append f (take i ms) (m ∷ []) ∙ ap (λ (x : Tm). map f (take i ms) ++ x ∷ []) (sym w_is) in
    rw (mapped, new_is) (more_forms (map f (take i ms)) made w n a d)

-- the parts of a pair type
two_are : (args : Typs) (a b : Typ) → two_types args ≡ Some (a, b) → args ≡ more a (more b none)
two_are none a b e = cc
two_are (more s none) a b e = cc
two_are (more s (more t none)) a b e =
    let p = same_Some (s, t) (a, b) e in
    let f : s ≡ a = ap (λ (x : Typ × Typ). x.0) p in
    let g : t ≡ b = ap (λ (x : Typ × Typ). x.1) p in
    rw (f, g) refl
two_are (more s (more t (more u us))) a b e = cc

pair_when : (name : List ℕ) (args : Typs) (a b : Typ) (c : Bool) → bytes_eq name (codes "prod") ≡ c → cond c (two_types args) None ≡ Some (a, b) → applied name args ≡ pair_type a b
pair_when name args a b true same e =
    let name_is = (bytes_eq-Decides name (codes "prod")).0 same in
    let args_are = two_are args a b e in
    rw (name_is, args_are) refl
pair_when name args a b false same e = cc

pub pair_of : (ty a b : Typ) → pair_parts ty ≡ Some (a, b) → ty ≡ pair_type a b
pair_of (variable name) a b e = cc
pair_of (applied name args) a b e = pair_when name args a b (bytes_eq name (codes "prod")) refl e

pub parts_smaller : (ty a b : Typ) → pair_parts ty ≡ Some (a, b) → (type_parts a < type_parts ty) × (type_parts b < type_parts ty)
parts_smaller ty a b e = let is = pair_of ty a b e in rw is (omega arith, omega arith)

module _ {E : Type 0} (pair s t : Typ) (ls rs ms ns own rest : List Tm) (p r : Tm) (p_is : p ≡ projection (codes "fst") pair s) (r_is : r ≡ projection (codes "snd") pair t) where
  pub joined_parts : (sources : List (List (Typ × Tm))) (q : Result (List Tm) E) → AreNormalForms (map (of_part pair p) ls) ms → AreNormalForms (map (of_part pair r) rs) ns →
      own ≡ offered sources pair → rest ≡ ns ++ own → IfOk q (λ all. all ≡ ms ++ rest) → IfOk q (JoinsParts sources pair s t ls rs)
  joined_parts sources (Ok all) a b own_is rest_is e = record {
    lefts = ms;
    rights = ns;
    left_forms = subst (λ (w : Tm). AreNormalForms (map (of_part pair w) ls) ms) p_is a;
    right_forms = subst (λ (w : Tm). AreNormalForms (map (of_part pair w) rs) ns) r_is b;
    is = e ∙ ap (λ (w : List Tm). ms ++ w) (rest_is ∙ ap (λ (w : List Tm). ns ++ w) own_is);
  }
  joined_parts sources (Err f) a b own_is rest_is e = tt

  pub joined_measure : (q : Result (List Tm) E) → AreMeasures s ls → AreMeasures t rs → AreNormalForms (map (of_part pair p) ls) ms → AreNormalForms (map (of_part pair r) rs) ns →
      AreMeasures pair own → rest ≡ ns ++ own → IfOk q (λ all. all ≡ ms ++ rest) → IfOk q (AreMeasures pair)
  joined_measure (Ok all) k l a b m rest_is e =
      let lefts = parts_measure pair s (codes "fst") ls ms k (subst (λ (w : Tm). AreNormalForms (map (of_part pair w) ls) ms) p_is a) in
      let rights = parts_measure pair t (codes "snd") rs ns l (subst (λ (w : Tm). AreNormalForms (map (of_part pair w) rs) ns) r_is b) in
      subst (AreMeasures pair) (sym (e ∙ ap (λ (w : List Tm). ms ++ w) rest_is)) (append_measures pair ms (ns ++ own) lefts (append_measures pair ns own rights m))
  joined_measure (Err f) k l a b m rest_is e = tt

pub pair_generates : {E : Type 0} (sources : List (List (Typ × Tm))) (limit : ℕ) (ty s t : Typ) (ls rs xs ys all sliced : List Tm) (q : Result (List Tm) E) → pair_parts ty ≡ Some (s, t) → Generates sources limit s ls → Generates sources limit t rs →
    xs ≡ ls → ys ≡ rs → JoinsParts sources ty s t xs ys all → sliced ≡ all → IfOk q (λ found. found ≡ take limit sliced) → IfOk q (Generates sources limit ty)
pair_generates sources limit ty s t ls rs xs ys all sliced (Ok found) parts g h xs_is ys_is j sliced_is e =
    let is = pair_of ty s t parts in
    let own = subst (λ (w : Typ). JoinsParts sources w s t ls rs all) is (subst (λ (w : List Tm). JoinsParts sources ty s t ls w all) ys_is (subst (λ (w : List Tm). JoinsParts sources ty s t w ys all) xs_is j)) in
    let made = of_pair s t ls rs all g h own in
    subst (λ (w : List Tm). Generates sources limit ty w) (sym (e ∙ ap (take limit) sliced_is)) (subst (λ (w : Typ). Generates sources limit w (take limit all)) (sym is) made)
pair_generates sources limit ty s t ls rs xs ys all sliced (Err f) parts g h xs_is ys_is j sliced_is e = tt

pub other_generates : {E : Type 0} (sources : List (List (Typ × Tm))) (limit : ℕ) (ty : Typ) (own sliced : List Tm) (q : Result (List Tm) E) → pair_parts ty ≡ None → own ≡ offered sources ty → sliced ≡ own →
    IfOk q (λ found. found ≡ take limit sliced) → IfOk q (Generates sources limit ty)
other_generates sources limit ty own sliced (Ok found) parts own_is sliced_is e =
    subst (λ (w : List Tm). Generates sources limit ty w) (sym (e ∙ ap (take limit) (sliced_is ∙ own_is))) (of_other ty parts)
other_generates sources limit ty own sliced (Err f) parts own_is sliced_is e = tt

pub first_measure : {E : Type 0} (ty : Typ) (limit : ℕ) (all sliced : List Tm) (q : Result (List Tm) E) → AreMeasures ty all → sliced ≡ all → IfOk q (λ found. found ≡ take limit sliced) → IfOk q (AreMeasures ty)
first_measure ty limit all sliced (Ok found) a sliced_is e = subst (AreMeasures ty) (sym (e ∙ ap (take limit) sliced_is)) (take_measures ty limit all a)
first_measure ty limit all sliced (Err f) a sliced_is e = tt

-- the loop over the sources, whose entries are `f`
module _ {D : Type 0} (f : D → List (Typ × Tm)) (ty : Typ) (sources : List D) where
  pub offered_more : (i : ℕ) (s : D) (all found new total : List Tm) → s ≡ get_or sources i s → i < length sources → found ≡ measures_of (f s) ty → new ≡ all ++ found →
      all ++ offered (map f (drop i sources)) ty ≡ total → new ++ offered (map f (drop (i + 1) sources)) ty ≡ total
  offered_more i s all found new total is below found_is new_is e =
      let on : i + 1 ≡ suc i = omega arith in
      let rest = drop-cons sources i s below ∙ ap (λ (w : D). w ∷ drop (suc i) sources) (sym is) in
      let later = offered (map f (drop (suc i) sources)) ty in
      let start : new ++ offered (map f (drop (i + 1) sources)) ty ≡ (all ++ measures_of (f s) ty) ++ later =
      ap (λ (n : ℕ). new ++ offered (map f (drop n sources)) ty) on ∙ ap (λ (w : List Tm). w ++ later) (new_is ∙ ap (λ (w : List Tm). all ++ w) found_is) in
      start ∙ append_assoc all (measures_of (f s) ty) later ∙ sym (ap (λ (w : List D). all ++ offered (map f w) ty) rest) ∙ e

  pub offered_all : (i : ℕ) (all total : List Tm) → length sources ≤ i → all ++ offered (map f (drop i sources)) ty ≡ total → all ≡ total
  offered_all i all total past e =
      sym (append-nil all) ∙ sym (ap (λ (w : List D). all ++ offered (map f w) ty) (drop_all i sources past)) ∙ e

pub more_measures : (ty : Typ) (all found new : List Tm) → new ≡ all ++ found → AreMeasures ty all → AreMeasures ty found → AreMeasures ty new
more_measures ty all found new is a b = subst (AreMeasures ty) (sym is) (append_measures ty all found a b)
