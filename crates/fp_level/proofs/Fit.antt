-- The candidates of a search are ranks of the grid.
use Rattle.std.proofs.Common.{◌≡◌, ◌<◌, ◌+◌, ◌-◌, ◌^◌, nat_le, ℕ, zero, suc, Bool, true, false, List, [], ◌∷◌, ◌++◌, map, length, get_or, refl, arith, if◌then◌else◌}
use Rattle.std.proofs.lemmas.List.{length-map}
use Rattle.std.proofs.lemmas.List.Elements.{All-nil, All-append, All-map, All-weaker, All-get_or}
use Rattle.std.specs.List.{All}
use Rattle.fp_order.specs.Grid.{choices, columns_of, IsColumn}
use Rattle.fp_order.proofs.CutLists.{choices_columns, columns_fit}
use Rattle.fp_level.specs.declared.rank.Rank.{Rank}
use Rattle.fp_level.specs.declared.rank.Rank.TheVariants.{Column, Max, Min}
use Rattle.fp_level.specs.Ranks.{sets_of, mappings_of, column_ranks, IsSets, IsRank, candidate}

pub map_at : (f : ℕ → ℕ) (xs : List ℕ) (i : ℕ) → i < length xs → get_or (map f xs) i 0 ≡ f (get_or xs i 0)
map_at f [] i l = absurd (omega arith)
map_at f (x ∷ xs) zero l = refl
map_at f (x ∷ xs) (suc i) l = map_at f xs i (omega arith)

pub column_fits : (functions : List ℕ) (d : ℕ) → d < length (column_ranks functions) → IsRank functions (candidate (column_ranks functions) d)
column_fits functions d l =
    All-get_or (IsRank functions) (column_ranks functions) d (Column []) l
    (All-map (IsRank functions) (λ (c : List ℕ). Column c) (columns_of functions) (columns_fit functions))

sets_fit : (functions : List ℕ) → All (IsSets functions) (sets_of functions)
sets_fit functions =
    All-map (IsSets functions) (λ (c : List ℕ). map (λ n. n + 1) c) (choices sizes)
    (All-weaker (IsColumn sizes) (λ (c : List ℕ). IsSets functions (map (λ n. n + 1) c)) sets (choices sizes) (choices_columns sizes)) where
      sizes : List ℕ
      sizes = map (λ measures. 2 ^ measures - 1) functions

      sets : (c : List ℕ) → IsColumn sizes c → IsSets functions (map (λ n. n + 1) c)
      sets c s =
          let len : length c ≡ length functions = omega (arith, s.len, length-map functions (λ (measures : ℕ). 2 ^ measures - 1)) in
          record {
            len = omega (arith, len, length-map c (λ (n : ℕ). n + 1));
            some = λ f l. omega (arith, map_at (λ n. n + 1) c f (omega (arith, l, len)));
            below = λ f l. omega (
              arith,
              map_at (λ n. n + 1) c f (omega (arith, l, len)),
              map_at (λ measures. 2 ^ measures - 1) functions f l,
              s.below f (omega (arith, l, length-map functions (λ (measures : ℕ). 2 ^ measures - 1))),
            );
          }

pub mapping_fits : (functions : List ℕ) (d : ℕ) → d < length (mappings_of functions) → IsRank functions (candidate (mappings_of functions) d)
mapping_fits functions d l = All-get_or (IsRank functions) (mappings_of functions) d (Column []) l (limited (nat_le (length all) 4096)) where
  all : List Rank
  all = map (λ (s : List ℕ). Max s) (sets_of functions) ++ map (λ (s : List ℕ). Min s) (sets_of functions)

  fit : All (IsRank functions) all
  fit = All-append (IsRank functions) (map (λ (s : List ℕ). Max s) (sets_of functions)) (map (λ (s : List ℕ). Min s) (sets_of functions))
      (All-map (IsRank functions) (λ (s : List ℕ). Max s) (sets_of functions) (sets_fit functions))
      (All-map (IsRank functions) (λ (s : List ℕ). Min s) (sets_of functions) (sets_fit functions))

  limited : (b : Bool) → All (IsRank functions) (if b then all else [])
  limited true = fit
  limited false = All-nil (IsRank functions)
