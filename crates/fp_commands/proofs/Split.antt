-- What is written ends at the first word that closes it.
use Rattle.std.proofs.Common.{◌≡◌, ◌∙◌, ℕ, List, [], ◌∷◌, ◌++◌, None, refl, sym, ap, subst}
use Rattle.fp_words.specs.declared.word.Word.{Word}
use Rattle.fp_words.specs.declared.word.Word.TheVariants.{Quote, CloseBracket, Number, Braces}
use Rattle.fp_words.specs.declared.word.Placed.{Placed}
use Rattle.fp_written.specs.declared.kinds.Kind.{Kind}
use Rattle.fp_written.specs.declared.kinds.Limits.{Limits}
use Rattle.fp_written.specs.Written.{tok, WType, WArgs, variable, constant, postfix, between_types, round, applied, last_arg, next_arg, type_tokens, arg_tokens, WVar, only_name, typed_var, var_tokens, WTerm, WParts, WVars, named, numeral, application, between, negated, bound, choice, parens, typed, tuple, last_part, next_part, last_var, next_var, term_tokens, part_tokens, vars_tokens, WWhole, whole_term, whole_typed, whole_type, whole_tokens, Tree, Reads, Keeps, NumberKeeps, NumbersKeep, no_limits}
use Rattle.fp_written.proofs.Theorems.{one_tree}
use Rattle.fp_commands.specs.Grammar.{word_at, written, WrittenBefore, written_before}

-- a word that closes nothing
abbrev pub Plain : Word → Type 0
Plain Quote = ⊥
Plain CloseBracket = ⊥
Plain (Braces b) = ⊥
Plain _ = Unit {0}

abbrev pub AllPlain : List Placed → Type 0
AllPlain [] = Unit {0}
AllPlain (a ∷ rest) = Plain a.word × AllPlain rest

plain_append : (xs ys : List Placed) → AllPlain xs → AllPlain ys → AllPlain (xs ++ ys)
plain_append [] ys p q = q
plain_append (x ∷ xs) ys p q = (p.0, plain_append xs ys p.1 q)

mutual
  type_plain : (t : WType) → AllPlain (type_tokens t)
  type_plain (variable n at) = (tt, tt)
  type_plain (constant n at) = (tt, tt)
  type_plain (postfix t n at) = plain_append (type_tokens t) _ (type_plain t) (tt, tt)
  type_plain (between_types a o at b) = plain_append (type_tokens a) _ (type_plain a) (tt, type_plain b)
  type_plain (round p t q) = (tt, plain_append (type_tokens t) _ (type_plain t) (tt, tt))
  type_plain (applied p t args n at) = (tt, plain_append (type_tokens t) _ (type_plain t) (plain_append (arg_tokens args) _ (arg_plain args) (tt, tt)))

  arg_plain : (args : WArgs) → AllPlain (arg_tokens args)
  arg_plain (last_arg p t q) = (tt, plain_append (type_tokens t) _ (type_plain t) (tt, tt))
  arg_plain (next_arg p t args) = (tt, plain_append (type_tokens t) _ (type_plain t) (arg_plain args))

var_plain : (x : WVar) → AllPlain (var_tokens x)
var_plain (only_name n at) = (tt, tt)
var_plain (typed_var p n at c t q) = (tt, (tt, (tt, plain_append (type_tokens t) _ (type_plain t) (tt, tt))))

mutual
  term_plain : (t : WTerm) → AllPlain (term_tokens t)
  term_plain (named n at) = (tt, tt)
  term_plain (numeral k at) = (tt, tt)
  term_plain (application f x) = plain_append (term_tokens f) _ (term_plain f) (term_plain x)
  term_plain (between a o at b) = plain_append (term_tokens a) _ (term_plain a) (tt, term_plain b)
  term_plain (negated at a) = (tt, term_plain a)
  term_plain (bound b at vars) = (tt, vars_plain vars)
  term_plain (choice p a q b r c) = (tt, plain_append (term_tokens a) _ (term_plain a) (tt, plain_append (term_tokens b) _ (term_plain b) (tt, term_plain c)))
  term_plain (parens p a q) = (tt, plain_append (term_tokens a) _ (term_plain a) (tt, tt))
  term_plain (typed p a c t q) = (tt, plain_append (term_tokens a) _ (term_plain a) (tt, plain_append (type_tokens t) _ (type_plain t) (tt, tt)))
  term_plain (tuple p a parts) = (tt, plain_append (term_tokens a) _ (term_plain a) (part_plain parts))

  part_plain : (parts : WParts) → AllPlain (part_tokens parts)
  part_plain (last_part p a q) = (tt, plain_append (term_tokens a) _ (term_plain a) (tt, tt))
  part_plain (next_part p a parts) = (tt, plain_append (term_tokens a) _ (term_plain a) (part_plain parts))

  vars_plain : (vars : WVars) → AllPlain (vars_tokens vars)
  vars_plain (last_var x at a) = plain_append (var_tokens x) _ (var_plain x) (tt, term_plain a)
  vars_plain (next_var x vars) = plain_append (var_tokens x) _ (var_plain x) (vars_plain vars)

whole_plain : (x : WWhole) → AllPlain (whole_tokens x)
whole_plain (whole_term t) = term_plain t
whole_plain (whole_typed t c u) = plain_append (term_tokens t) _ (term_plain t) (tt, type_plain u)
whole_plain (whole_type u) = type_plain u

pub reads_plain : (l : Limits) (k : Kind) (words : List Placed) (tree : Tree) → Reads l k words tree → AllPlain words
reads_plain l k words tree r = subst (λ ws. AllPlain ws) r.spelled (whole_plain r.what)

keeps_none : (n : ℕ) → Keeps None n
keeps_none n = tt

no_number : (w : Word) → NumberKeeps None w
no_number (Number n) = tt
no_number _ = tt

no_numbers : (xs : List Placed) → NumbersKeep None xs
no_numbers [] = tt
no_numbers (a ∷ xs) = (no_number a.word, no_numbers xs)

pub freed : (l : Limits) (k : Kind) (words : List Placed) (tree : Tree) → Reads l k words tree → Reads no_limits k words tree
freed l k words tree r = record {
  what = r.what;
  of_kind = r.of_kind;
  written = r.written;
  shallow = tt;
  short = tt;
  small = no_numbers words;
  spelled = r.spelled;
  stands = r.stands;
}

abbrev first_of : Placed → List Placed → Placed
first_of d [] = d
first_of d (x ∷ xs) = x

abbrev pub others_of : List Placed → List Placed
others_of [] = []
others_of (x ∷ xs) = xs

pub head_is : (x y : Placed) (xs ys : List Placed) → x ∷ xs ≡ y ∷ ys → x ≡ y
head_is x y xs ys e = ap (λ l. first_of x l) e

pub tail_is : (x y : Placed) (xs ys : List Placed) → x ∷ xs ≡ y ∷ ys → xs ≡ ys
tail_is x y xs ys e = ap (λ l. others_of l) e

-- words that close nothing end at the first that does
pub split_one : (w : Word) (xs ys : List Placed) (p q : ℕ) (r s : List Placed) → (Plain w → ⊥) → AllPlain xs → AllPlain ys → xs ++ tok w p ∷ r ≡ ys ++ tok w q ∷ s → (xs ≡ ys) × (r ≡ s)
split_one w [] [] p q r s never f g e = (refl, tail_is _ _ r s e)
split_one w [] (y ∷ ys) p q r s never f g e = absurd (never (subst (λ (z : Placed). Plain z.word) (sym (head_is _ y r (ys ++ tok w q ∷ s) e)) g.0))
split_one w (x ∷ xs) [] p q r s never f g e = absurd (never (subst (λ (z : Placed). Plain z.word) (head_is x _ (xs ++ tok w p ∷ r) s e) f.0))
split_one w (x ∷ xs) (y ∷ ys) p q r s never f g e =
    let rest = split_one w xs ys p q r s never f.1 g.1 (tail_is x y (xs ++ tok w p ∷ r) (ys ++ tok w q ∷ s) e) in
    (ap (λ z. z ∷ xs) (head_is x y (xs ++ tok w p ∷ r) (ys ++ tok w q ∷ s) e) ∙ ap (λ zs. y ∷ zs) rest.0, rest.1)

-- what is written before a word, as an equation
pub record Ended (w : Word) (l : Limits) (k : Kind) (a : List Placed) (t : Tree) (c : List Placed) : Type 0 where
  pub words : List Placed
  pub at : ℕ
  pub is : a ≡ words ++ tok w at ∷ c
  pub reads : Reads l k words t

pub ended_so : (w : Word) (l : Limits) (k : Kind) (a : List Placed) (t : Tree) (c : List Placed) → WrittenBefore w l k a t c → Ended w l k a t c
ended_so w l k a t c (written_before (written {words = ws} r) (word_at {at = at})) = record { words = ws; at = at; is = refl; reads = r }

pub before_one : (w : Word) (l m : Limits) (k : Kind) (a : List Placed) (t u : Tree) (c d : List Placed) → (Plain w → ⊥) → WrittenBefore w l k a t c → WrittenBefore w m k a u d → (t ≡ u) × (c ≡ d)
before_one w l m k a t u c d never x y =
    let p = ended_so w l k a t c x in
    let q = ended_so w m k a u d y in
    let same = split_one w p.words q.words p.at q.at c d never (reads_plain l k p.words t p.reads) (reads_plain m k q.words u q.reads) (sym p.is ∙ q.is) in
    (one_tree no_limits k q.words t u (subst (λ ws. Reads no_limits k ws t) same.0 (freed l k p.words t p.reads)) (freed m k q.words u q.reads), same.1)
