-- The short text of terms and statements.
use Rattle.std.specs.Prelude.{ℕ, suc, ◌+◌, ◌-◌, ◌==◌, Bool, true, false, nat_lt, if◌then◌else◌, List, [], ◌∷◌, ◌++◌, codes}
use Rattle.fp_term.specs.Terms.{Tm}
use Rattle.fp_print.specs.Shapes.{Binder, lambda, universal, existential, choice, Shape, named, numbered, bound_by, joined_by, negated, chosen, paired, applied_to, shape}
use Rattle.fp_print.specs.Names.{with_names, with_names_of_all, binder_name}

-- `%`, `!`, `?` and `@`
abbrev pub symbol_of : Binder → ℕ
symbol_of lambda = 37
symbol_of universal = 33
symbol_of existential = 63
symbol_of choice = 64

-- how tightly the form holds together
abbrev pub level : Shape → ℕ
level (named a) = 9
level (numbered n) = 9
level (bound_by binder x) = 0
level (joined_by symbol x y) = symbol.level
level (negated x) = 4
level (chosen x y z) = 0
level (paired x y) = 9
level (applied_to f x) = 8

-- where a form stands: by itself, right after a binder's name, or as the second part of a pair
pub data Place : Type 0 where
  alone : Place
  after_binder : Binder → Place
  second : Place

-- after a name the same binder goes on with one space, and a second part that is a pair has no parentheses of its own
abbrev pub before : Place → Shape → List ℕ
before alone (bound_by binder x) = symbol_of binder ∷ []
before alone (paired x y) = codes "("
before alone _ = []
before (after_binder b) (bound_by binder x) = if symbol_of b == symbol_of binder then codes " " else 46 ∷ 32 ∷ symbol_of binder ∷ []
before (after_binder b) (paired x y) = codes ". ("
before (after_binder b) _ = codes ". "
before second (bound_by binder x) = symbol_of binder ∷ []
before second _ = []

abbrev pub is_pair : Shape → Bool
is_pair (paired x y) = true
is_pair _ = false

abbrev pub after : Place → Shape → List ℕ
after second s = []
after alone s = if is_pair s then codes ")" else []
after (after_binder b) s = if is_pair s then codes ")" else []

-- a form in its place
abbrev pub placed : Place → Shape → List ℕ → List ℕ
placed place s text = before place s ++ (text ++ after place s)

-- a form by itself, in parentheses where its level is below the one that is needed
abbrev pub part : ℕ → Shape → List ℕ → List ℕ
part need s text = if nat_lt (level s) need then 40 ∷ (placed alone s text ++ 41 ∷ []) else placed alone s text

-- the text of a form inside `d` binders, but for what stands before and after it in its place
abbrev pub inner : List (List ℕ) → ℕ → Shape → List ℕ
inner used d (named a) = a
inner used d (numbered n) = binder_name used (d - suc n)
inner used d (bound_by binder x) = binder_name used d ++ placed (after_binder binder) x (inner used (d + 1) x)
inner used d (joined_by symbol x y) = part symbol.left x (inner used d x) ++ 32 ∷ (symbol.symbol ++ 32 ∷ part symbol.right y (inner used d y))
inner used d (negated x) = codes "~ " ++ part 4 x (inner used d x)
inner used d (chosen x y z) =
    codes "if " ++ (placed alone x (inner used d x) ++ (codes " then " ++ (placed alone y (inner used d y) ++ (codes " else " ++ placed alone z (inner used d z)))))
inner used d (paired x y) = placed alone x (inner used d x) ++ (codes ", " ++ placed second y (inner used d y))
inner used d (applied_to f x) = part 8 f (inner used d f) ++ 32 ∷ part 9 x (inner used d x)

-- the text of a term among those names
abbrev pub text_among : List (List ℕ) → Tm → List ℕ
text_among used t = placed alone (shape t) (inner used 0 (shape t))

abbrev pub short_term : Tm → List ℕ
short_term t = text_among (with_names [] t) t

-- the hypotheses after the first, and a space
abbrev pub later_hypotheses : List (List ℕ) → List Tm → List ℕ
later_hypotheses used [] = codes " "
later_hypotheses used (h ∷ hyps) = codes ", " ++ (text_among used h ++ later_hypotheses used hyps)

abbrev pub hypotheses : List (List ℕ) → List Tm → List ℕ
hypotheses used [] = []
hypotheses used (h ∷ hyps) = text_among used h ++ later_hypotheses used hyps

abbrev pub statement_among : List (List ℕ) → List Tm → Tm → List ℕ
statement_among used hyps concl = hypotheses used hyps ++ (codes "|- " ++ text_among used concl)

abbrev pub short_statement : List Tm → Tm → List ℕ
short_statement hyps concl = statement_among (with_names (with_names_of_all [] hyps) concl) hyps concl
