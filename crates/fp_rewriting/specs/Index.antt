-- Rules by the constant at their head: a tree in which a name's number leads the way, bit by bit.
use Rattle.std.specs.Prelude.{◌≡◌, ℕ, ◌+◌, ◌/◌, ◌%◌, ◌==◌, if◌then◌else◌, List, [], ◌∷◌, ◌++◌, Option, Some, None}
use Rattle.std.proofs.Common.{ap, ◌∙◌, refl}
use Rattle.std.specs.Coded.{Coded, code_by, coded_list, coded×, coded_ℕ}
use Rattle.std.specs.Str.{bytes_eq}
use Rattle.fp_term.specs.Names.{name_hash}
use Rattle.fp_rewriting.specs.declared.rule.Rule.{Rule}
use Rattle.fp_rewriting.specs.Candidates.{head_constant, with_head, AreHeaded}
use Rattle.fp_rewriting.specs.Codes.{coded_rules}

pub data Tree : Type 0 where
  tip : Tree
  fork : List ℕ → List Rule → Tree → Tree → Tree

abbrev pub tree_size : Tree → ℕ
tree_size tip = 1
tree_size (fork a rs zero one) = tree_size zero + tree_size one + 1

-- the rules that stand with the name
abbrev pub sought : ℕ → List ℕ → Tree → List Rule
sought hash name tip = []
sought hash name (fork a rs zero one) = if bytes_eq a name then rs else (if hash % 2 == 0 then sought (hash / 2) name zero else sought (hash / 2) name one)

-- the tree with one rule more for the name, after those that stand with it
abbrev pub with_rule : ℕ → List ℕ → Rule → Tree → Tree
with_rule hash name r tip = fork name (r ∷ []) tip tip
with_rule hash name r (fork a rs zero one) =
    if bytes_eq a name then fork a (rs ++ r ∷ []) zero one else (if hash % 2 == 0 then fork a rs (with_rule (hash / 2) name r zero) one else fork a rs zero (with_rule (hash / 2) name r one))

abbrev pub with_rule_of : Option (List ℕ) → Rule → Tree → Tree
with_rule_of None r t = t
with_rule_of (Some name) r t = with_rule (name_hash name) name r t

-- the tree with the rules, each for the constant at its head
abbrev pub with_rules : List Rule → Tree → Tree
with_rules [] t = t
with_rules (r ∷ rs) t = with_rules rs (with_rule_of (head_constant r.lhs) r t)

-- what is true of the rules and their tree
pub record Indexed (rs : List Rule) (t : Tree) : Type 0 where
  pub headed : AreHeaded rs
  pub index : (name : List ℕ) → sought (name_hash name) name t ≡ with_head name rs

-- as lists of tokens in post-order
abbrev pub TreeToken : Type 0
TreeToken = ℕ × (List ℕ × List Rule)

abbrev pub tree_tokens : Tree → List TreeToken → List TreeToken
tree_tokens tip rest = (0, ([], [])) ∷ rest
tree_tokens (fork a rs zero one) rest = tree_tokens zero (tree_tokens one ((1, (a, rs)) ∷ rest))

abbrev pub make_fork : List ℕ → List Rule → List Tree → List Tree
make_fork a rs (one ∷ zero ∷ trees) = fork a rs zero one ∷ trees
make_fork a rs trees = trees

abbrev pub trees_of : List Tree → List TreeToken → List Tree
trees_of trees [] = trees
trees_of trees (t ∷ ts) = trees_of (if t.0 == 0 then tip ∷ trees else make_fork t.1.0 t.1.1 trees) ts

pub tree_back : (t : Tree) (trees : List Tree) (rest : List TreeToken) → trees_of trees (tree_tokens t rest) ≡ trees_of (t ∷ trees) rest
tree_back tip trees rest = refl
tree_back (fork a rs zero one) trees rest = tree_back zero trees (tree_tokens one ((1, (a, rs)) ∷ rest)) ∙ tree_back one (zero ∷ trees) ((1, (a, rs)) ∷ rest)

abbrev pub first_tree : List Tree → Tree
first_tree (t ∷ trees) = t
first_tree _ = tip

abbrev pub coded_tree : Coded Tree
coded_tree = code_by (List TreeToken) (coded_list (coded× coded_ℕ (coded× (coded_list coded_ℕ) coded_rules))) (λ t. tree_tokens t []) (λ ts. first_tree (trees_of [] ts)) (λ t. ap first_tree (tree_back t [] []))
