-- What a signature declares by name: a tree in which a name's number leads the way, bit by bit.
use Rattle.std.specs.Prelude.{◌≡◌, ℕ, ◌+◌, ◌/◌, ◌%◌, ◌==◌, if◌then◌else◌, List, [], ◌∷◌, Option, Some, None}
use Rattle.std.proofs.Common.{ap, ◌∙◌, refl, ◌⊎◌, inl, inr}
use Rattle.std.specs.Coded.{Coded, code_by, coded_list, coded×, coded⊎, coded_ℕ}
use Rattle.std.specs.Str.{bytes_eq}
use Rattle.fp_term.specs.Types.{Typ}
use Rattle.fp_term.specs.Codes.{coded_type}

-- the number of a type constructor's arguments, or a constant's type
pub data Entry : Type 0 where
  has_arity : ℕ → Entry
  has_type : Typ → Entry

pub data Tree : Type 0 where
  tip : Tree
  fork : List ℕ → Entry → Tree → Tree → Tree

abbrev pub tree_size : Tree → ℕ
tree_size tip = 1
tree_size (fork a s zero one) = tree_size zero + tree_size one + 1

-- what stands with the name
abbrev pub sought : ℕ → List ℕ → Tree → Option Entry
sought hash name tip = None
sought hash name (fork a s zero one) = if bytes_eq a name then Some s else (if hash % 2 == 0 then sought (hash / 2) name zero else sought (hash / 2) name one)

-- the tree with an entry for the name, where it has none
abbrev pub with_entry : ℕ → List ℕ → Entry → Tree → Tree
with_entry hash name entry tip = fork name entry tip tip
with_entry hash name entry (fork a s zero one) =
    if bytes_eq a name then fork a s zero one else (if hash % 2 == 0 then fork a s (with_entry (hash / 2) name entry zero) one else fork a s zero (with_entry (hash / 2) name entry one))

abbrev pub entry_sum : Entry → ℕ ⊎ Typ
entry_sum (has_arity n) = inl n
entry_sum (has_type s) = inr s

abbrev pub sum_entry : ℕ ⊎ Typ → Entry
sum_entry (inl n) = has_arity n
sum_entry (inr s) = has_type s

pub entry_back : (e : Entry) → sum_entry (entry_sum e) ≡ e
entry_back (has_arity n) = refl
entry_back (has_type s) = refl

abbrev pub coded_entry : Coded Entry
coded_entry = code_by (ℕ ⊎ Typ) (coded⊎ coded_ℕ coded_type) entry_sum sum_entry entry_back

-- as lists of tokens in post-order
abbrev pub TreeToken : Type 0
TreeToken = ℕ × (List ℕ × Entry)

abbrev pub tree_tokens : Tree → List TreeToken → List TreeToken
tree_tokens tip rest = (0, ([], has_arity 0)) ∷ rest
tree_tokens (fork a s zero one) rest = tree_tokens zero (tree_tokens one ((1, (a, s)) ∷ rest))

abbrev pub make_fork : List ℕ → Entry → List Tree → List Tree
make_fork a s (one ∷ zero ∷ trees) = fork a s zero one ∷ trees
make_fork a s trees = trees

abbrev pub trees_of : List Tree → List TreeToken → List Tree
trees_of trees [] = trees
trees_of trees (t ∷ ts) = trees_of (if t.0 == 0 then tip ∷ trees else make_fork t.1.0 t.1.1 trees) ts

pub tree_back : (t : Tree) (trees : List Tree) (rest : List TreeToken) → trees_of trees (tree_tokens t rest) ≡ trees_of (t ∷ trees) rest
tree_back tip trees rest = refl
tree_back (fork a s zero one) trees rest = tree_back zero trees (tree_tokens one ((1, (a, s)) ∷ rest)) ∙ tree_back one (zero ∷ trees) ((1, (a, s)) ∷ rest)

abbrev pub first_tree : List Tree → Tree
first_tree (t ∷ trees) = t
first_tree _ = tip

abbrev pub coded_tree : Coded Tree
coded_tree = code_by (List TreeToken) (coded_list (coded× coded_ℕ (coded× (coded_list coded_ℕ) coded_entry))) (λ t. tree_tokens t []) (λ ts. first_tree (trees_of [] ts)) (λ t. ap first_tree (tree_back t [] []))
