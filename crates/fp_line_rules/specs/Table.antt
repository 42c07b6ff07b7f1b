-- The rules by their names.
use Rattle.std.specs.Prelude.{ℕ, if◌then◌else◌, List, [], ◌∷◌, Option, Some, None, codes}
use Rattle.std.specs.Str.{bytes_eq}
use Rattle.fp_line_rules.specs.declared.rule.Rule.{Rule}
use Rattle.fp_line_rules.specs.declared.rule.Rule.TheVariants as rule
use Rattle.fp_line_rules.specs.declared.rule.OfTerm.TheVariants as term
use Rattle.fp_line_rules.specs.declared.rule.OfTheorem.TheVariants as theorem
use Rattle.fp_line_rules.specs.declared.rule.OfPair.TheVariants as pair
use Rattle.fp_line_rules.specs.declared.rule.BeforeTheorem.TheVariants as term_theorem
use Rattle.fp_line_rules.specs.declared.rule.BeforeTerm.TheVariants as theorem_term
use Rattle.fp_line_rules.specs.declared.rule.OfVariable.TheVariants as variable

-- the rules of the kernel
abbrev pub kernel_rules : List (List ℕ × Rule)
kernel_rules =
    (codes "refl", (rule.Term term.Refl))
    ∷ (codes "trans", (rule.Pair pair.Trans))
    ∷ (codes "mk_comb", (rule.Pair pair.MkComb))
    ∷ (codes "lam", (rule.Variable variable.Lam))
    ∷ (codes "beta", (rule.Term term.Beta))
    ∷ (codes "assume", (rule.Term term.Assume))
    ∷ (codes "eq_mp", (rule.Pair pair.EqMp))
    ∷ (codes "antisym", (rule.Pair pair.Antisym))
    ∷ (codes "inst", rule.Inst)
    ∷ (codes "inst_ty", rule.InstTy) ∷ []

-- forms on equations and truth
abbrev pub equation_rules : List (List ℕ × Rule)
equation_rules =
    (codes "sym", (rule.Theorem theorem.Sym))
    ∷ (codes "ap", (rule.TermTheorem term_theorem.Ap))
    ∷ (codes "ap_arg", (rule.TheoremTerm theorem_term.ApArg))
    ∷ (codes "norm", (rule.Theorem theorem.Norm))
    ∷ (codes "rewrite", (rule.Pair pair.Rewrite))
    ∷ (codes "truth", rule.Truth)
    ∷ (codes "eqt", (rule.Theorem theorem.Eqt))
    ∷ (codes "eqt_elim", (rule.Theorem theorem.EqtElim))
    ∷ (codes "eqf", (rule.Theorem theorem.Eqf))
    ∷ (codes "simp_eq", rule.SimpEq) ∷ []

-- forms of connectives
abbrev pub connective_rules : List (List ℕ × Rule)
connective_rules =
    (codes "conj", (rule.Pair pair.Conj))
    ∷ (codes "conj1", (rule.Theorem theorem.Conj1))
    ∷ (codes "conj2", (rule.Theorem theorem.Conj2))
    ∷ (codes "mp", (rule.Pair pair.Mp))
    ∷ (codes "disch", (rule.TermTheorem term_theorem.Disch))
    ∷ (codes "undisch", (rule.Theorem theorem.Undisch))
    ∷ (codes "disj1", (rule.TheoremTerm theorem_term.Disj1))
    ∷ (codes "disj2", (rule.TermTheorem term_theorem.Disj2))
    ∷ (codes "cases", rule.Cases)
    ∷ (codes "not_intro", (rule.Theorem theorem.NotIntro))
    ∷ (codes "not_elim", (rule.Theorem theorem.NotElim))
    ∷ (codes "false", (rule.TermTheorem term_theorem.False)) ∷ []

-- forms of quantifiers and functions
abbrev pub quantifier_rules : List (List ℕ × Rule)
quantifier_rules =
    (codes "gen", (rule.Variable variable.Gen))
    ∷ (codes "spec", (rule.TheoremTerm theorem_term.Spec))
    ∷ (codes "exists", rule.Exists)
    ∷ (codes "choose", rule.Choose)
    ∷ (codes "ext", (rule.Variable variable.Ext))
    ∷ (codes "select", (rule.Theorem theorem.Select)) ∷ []

-- the one of that name
abbrev pub found_rule : List ℕ → List (List ℕ × Rule) → Option Rule
found_rule name [] = None
found_rule name (p ∷ rest) = if bytes_eq name p.0 then Some p.1 else found_rule name rest

abbrev pub first_rule : Option Rule → Option Rule → Option Rule
first_rule None later = later
first_rule (Some k) later = Some k

abbrev pub rule_named : List ℕ → Option Rule
rule_named name =
    first_rule (found_rule name kernel_rules) (first_rule (found_rule name equation_rules) (first_rule (found_rule name connective_rules) (found_rule name quantifier_rules)))
