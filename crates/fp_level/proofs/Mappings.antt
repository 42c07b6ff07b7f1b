-- The mappings of the first choices of sets are all mappings, where these are few.
use Rattle.std.proofs.Common.{◌≡◌, ◌<◌, ◌≤◌, ◌+◌, ◌-◌, ◌^◌, ℕ, List, [], ◌∷◌, ◌++◌, map, take, length, refl, arith, sym, ◌∙◌, ap, length-append}
use Rattle.std.proofs.lemmas.Bool.{le-leb, lt-leb}
use Rattle.std.proofs.lemmas.List.{length-map}
use Rattle.fp_order.specs.Grid.{choices}
use Rattle.fp_order.proofs.CutLists.{length_take}
use Rattle.fp_level.specs.declared.rank.Rank.{Rank}
use Rattle.fp_level.specs.declared.rank.Rank.TheVariants.{Max, Min}
use Rattle.fp_level.specs.Ranks.{sets_of, mappings_of}
use Rattle.fp_level.specs.Counts.{set_count, over_choices}
use Rattle.fp_level.proofs.Capped.{choices_same, counts_same}

map_twice : {A B C : Type 0} (f : B → C) (g : A → B) (xs : List A) → map f (map g xs) ≡ map (λ x. f (g x)) xs
map_twice f g [] = refl
map_twice f g (x ∷ xs) = ap (λ (t : List _). f (g x) ∷ t) (map_twice f g xs)

abbrev all_choices : List ℕ → List (List ℕ)
all_choices functions = choices (map (λ measures. 2 ^ measures - 1) functions)

abbrev all_mappings : List ℕ → List Rank
all_mappings functions = map (λ (s : List ℕ). Max s) (sets_of functions) ++ map (λ (s : List ℕ). Min s) (sets_of functions)

count_all : (functions : List ℕ) → length (all_mappings functions) ≡ length (all_choices functions) + length (all_choices functions)
count_all functions = omega (
  arith,
  length-append (map (λ (s : List ℕ). Max s) (sets_of functions)) (map (λ (s : List ℕ). Min s) (sets_of functions)),
  length-map (sets_of functions) (λ (s : List ℕ). Max s),
  length-map (sets_of functions) (λ (s : List ℕ). Min s),
  length-map (all_choices functions) (λ (c : List ℕ). map (λ n. n + 1) c),
)

taken : (functions : List ℕ) (chosen : List (List ℕ)) → chosen ≡ take 2049 (choices (map set_count functions)) → chosen ≡ take 2049 (all_choices functions)
taken functions chosen s = s ∙ choices_same 2049 set_count (λ measures. 2 ^ measures - 1) counts_same functions

pub mappings_few : (functions : List ℕ) (chosen : List (List ℕ)) → chosen ≡ take 2049 (choices (map set_count functions)) → length chosen ≤ 2048 →
    over_choices chosen ≡ mappings_of functions
mappings_few functions chosen s l =
    let t = taken functions chosen s in
    let short : length (take 2049 (all_choices functions)) < 2049 = omega (arith, l, ap length t) in
    let e : chosen ≡ all_choices functions = t ∙ (length_take 2049 (all_choices functions)).2 short in
    let few : length (all_mappings functions) ≤ 4096 = omega (arith, count_all functions, l, ap length e) in
    let big : map (λ (c : List ℕ). Max (map (λ n. n + 1) c)) (all_choices functions) ≡ map (λ (s : List ℕ). Max s) (sets_of functions) =
    sym (map_twice (λ (s : List ℕ). Max s) (λ (c : List ℕ). map (λ n. n + 1) c) (all_choices functions)) in
    let small : map (λ (c : List ℕ). Min (map (λ n. n + 1) c)) (all_choices functions) ≡ map (λ (s : List ℕ). Min s) (sets_of functions) =
    sym (map_twice (λ (s : List ℕ). Min s) (λ (c : List ℕ). map (λ n. n + 1) c) (all_choices functions)) in
    rw (e, le-leb (length (all_mappings functions)) 4096 few)
    (ap (λ (t : List Rank). t ++ map (λ (c : List ℕ). Min (map (λ n. n + 1) c)) (all_choices functions)) big
    ∙ ap (λ (t : List Rank). map (λ (s : List ℕ). Max s) (sets_of functions) ++ t) small)

pub mappings_many : (functions : List ℕ) (chosen : List (List ℕ)) → chosen ≡ take 2049 (choices (map set_count functions)) → 2048 < length chosen →
    [] ≡ mappings_of functions
mappings_many functions chosen s l =
    let t = taken functions chosen s in
    let many : 4096 < length (all_mappings functions) = omega (arith, count_all functions, l, ap length t, (length_take 2049 (all_choices functions)).1) in
    rw (lt-leb (length (all_mappings functions)) 4096 many) refl
