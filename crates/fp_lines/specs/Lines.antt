-- What comes of a line: kinds of its arguments, then theorems, then terms and types, then its rule.
use Rattle.std.specs.Prelude.{◌≡◌, ℕ, true, false, Bool, List, [], ◌∷◌, Option, Some, None, Ok, Err}
use Rattle.fp_term.specs.Types.{Typ}
use Rattle.fp_term.specs.Terms.{Tm}
use Rattle.fp_raw.specs.Raws.{RawTm}
use Rattle.fp_kernel.specs.Theorems.{Theorem}
use Rattle.fp_commands.specs.declared.command.Arg.{Arg}
use Rattle.fp_lines.specs.declared.cause.LineCause.TheVariants.{BadArgs}
use Rattle.fp_lines.specs.declared.fault.LineFault.{LineFault}
use Rattle.fp_lines.specs.declared.fault.LineFault.TheVariants.{Bad}
use Rattle.fp_line_rules.specs.declared.rule.OfTerm.{OfTerm}
use Rattle.fp_line_rules.specs.declared.rule.OfTheorem.{OfTheorem}
use Rattle.fp_line_rules.specs.declared.rule.OfPair.{OfPair}
use Rattle.fp_line_rules.specs.declared.rule.BeforeTheorem.{BeforeTheorem}
use Rattle.fp_line_rules.specs.declared.rule.BeforeTerm.{BeforeTerm}
use Rattle.fp_line_rules.specs.declared.rule.OfVariable.{OfVariable}
use Rattle.fp_line_rules.specs.declared.rule.Rule.{Rule}
use Rattle.fp_line_rules.specs.declared.rule.Rule.TheVariants as rule
use Rattle.fp_lines.specs.Causes.{cause_of}
use Rattle.fp_lines.specs.Kinds.{theorem_alone, term_alone, two_theorems, term_and_theorem, theorem_and_term, variable_and_theorem, two_terms_and_theorem, variable_and_two_theorems, three_theorems, theorem_and_more, are_term_pairs, are_type_pairs}
use Rattle.fp_lines.specs.Read.{Scene, signature_in, Answer, theorem_named, Reads, Unread, ReadsPairs, UnreadPairs, Is, types_read}
use Rattle.fp_declared.specs.Rules.{rewrite_rules}
use Rattle.fp_simp_eq.specs.Equation.{EquatesSimplified}
use Rattle.fp_line_rules.specs.Rules.{Told, ByTerm, ByTheorem, ByPair, ByTermThenTheorem, ByTheoremThenTerm, ByVariable, ByChoice, ByWitness, ByCases, ByNothing, ByTerms, ByTypes}

-- what a line tells of what comes of its rule
abbrev pub told : Told → Answer
told (Ok th) = Ok th
told (Err f) = Err (cause_of f)

pub record Tells (by : Told → Type 0) (r : Answer) : Type 0 where
  pub answer : Told
  pub comes : by answer
  pub is : r ≡ told answer

-- what follows where the arguments are of the kinds, and where a theorem is found
abbrev pub With : {A : Type 0} → Option A → (A → Answer → Type 0) → Answer → Type 0
With None next r = r ≡ Err (Bad BadArgs)
With (Some x) next r = next x r

abbrev pub Finding : Answer → (Theorem → Answer → Type 0) → Answer → Type 0
Finding (Err f) next r = r ≡ Err f
Finding (Ok th) next r = next th r

-- what follows where a term is read, or all pairs are
pub data Reading (s : Scene) (raw : RawTm) (next : Tm → Answer → Type 0) : Answer → Type 0 where
  unread : {f : LineFault} → Unread s raw f → Reading s raw next (Err f)
  read : {r : Answer} (t : Tm) → Reads s raw t → next t r → Reading s raw next r

pub data ReadingPairs (s : Scene) (args : List Arg) (next : List (List ℕ × Typ × Tm) → Answer → Type 0) : Answer → Type 0 where
  unread_pairs : {f : LineFault} → UnreadPairs s args f → ReadingPairs s args next (Err f)
  read_pairs : {r : Answer} (pairs : List (List ℕ × Typ × Tm)) → ReadsPairs s args [] pairs → next pairs r → ReadingPairs s args next r

pub data ReadingTypes (s : Scene) (args : List Arg) (next : List (List ℕ × Typ) → Answer → Type 0) : Answer → Type 0 where
  unread_types : {f : LineFault} → Is (types_read (signature_in s) args []) (Err f) → ReadingTypes s args next (Err f)
  read_types : {r : Answer} (pairs : List (List ℕ × Typ)) → types_read (signature_in s) args [] ≡ Ok pairs → next pairs r → ReadingTypes s args next r

abbrev pub LineOfNothing : Scene → List Arg → Answer → Type 0
LineOfNothing s [] r = Tells (ByNothing s.defs) r
LineOfNothing s (a ∷ args) r = r ≡ Err (Bad BadArgs)

abbrev pub LineOfTerm : Scene → OfTerm → List Arg → Answer → Type 0
LineOfTerm s k args r = With (term_alone args) (λ raw q. Reading s raw (λ t. Tells (ByTerm s.defs k t)) q) r

-- by the declared rules
abbrev pub LineOfSimp : Scene → List Arg → Answer → Type 0
LineOfSimp s args r = With (term_alone args) (λ raw q. Reading s raw (λ t. Tells (EquatesSimplified s.defs (rewrite_rules s.named s.simps) t)) q) r

abbrev pub LineOfTheorem : Scene → OfTheorem → List Arg → Answer → Type 0
LineOfTheorem s k args r = With (theorem_alone args) (λ x q. Finding (theorem_named s x) (λ a. Tells (ByTheorem s.defs k a)) q) r

abbrev pub LineOfPair : Scene → OfPair → List Arg → Answer → Type 0
LineOfPair s k args r =
    With (two_theorems args) (λ p q. Finding (theorem_named s p.0) (λ a u. Finding (theorem_named s p.1) (λ b. Tells (ByPair s.defs k a b)) u) q) r

abbrev pub LineBeforeTheorem : Scene → BeforeTheorem → List Arg → Answer → Type 0
LineBeforeTheorem s k args r =
    With (term_and_theorem args) (λ p q. Finding (theorem_named s p.1) (λ a u. Reading s p.0 (λ t. Tells (ByTermThenTheorem s.defs k t a)) u) q) r

abbrev pub LineBeforeTerm : Scene → BeforeTerm → List Arg → Answer → Type 0
LineBeforeTerm s k args r =
    With (theorem_and_term args) (λ p q. Finding (theorem_named s p.0) (λ a u. Reading s p.1 (λ t. Tells (ByTheoremThenTerm s.defs k a t)) u) q) r

abbrev pub LineOfVariable : Scene → OfVariable → List Arg → Answer → Type 0
LineOfVariable s k args r =
    With (variable_and_theorem (signature_in s) args) (λ p q. Finding (theorem_named s p.1) (λ a u. Reading s p.0 (λ x. Tells (ByVariable s.defs k x a)) u) q) r

abbrev pub ExistenceOf : Scene → RawTm → RawTm → Theorem → Answer → Type 0
ExistenceOf s x y a r = Reading s x (λ t q. Reading s y (λ u. Tells (ByWitness s.defs t u a)) q) r

abbrev pub LineOfExistence : Scene → List Arg → Answer → Type 0
LineOfExistence s args r = With (two_terms_and_theorem args) (λ p q. Finding (theorem_named s p.2) (λ a. ExistenceOf s p.0 p.1 a) q) r

abbrev pub ChoiceOf : Scene → RawTm → Theorem → Theorem → Answer → Type 0
ChoiceOf s x a b r = Reading s x (λ t. Tells (ByChoice s.defs t a b)) r

abbrev pub LineOfChoice : Scene → List Arg → Answer → Type 0
LineOfChoice s args r =
    With (variable_and_two_theorems (signature_in s) args) (λ p q. Finding (theorem_named s p.1) (λ a u. Finding (theorem_named s p.2) (λ b. ChoiceOf s p.0 a b) u) q) r

abbrev pub LineOfCases : Scene → List Arg → Answer → Type 0
LineOfCases s args r =
    With (three_theorems args)
    (λ p q. Finding (theorem_named s p.0) (λ a u. Finding (theorem_named s p.1) (λ b v. Finding (theorem_named s p.2) (λ c. Tells (ByCases s.defs a b c)) v) u) q) r

-- what follows where the pairs are of the kinds
abbrev pub Where : Bool → (Answer → Type 0) → Answer → Type 0
Where true next r = next r
Where false next r = r ≡ Err (Bad BadArgs)

abbrev pub InstanceOf : Scene → List Arg → Theorem → Answer → Type 0
InstanceOf s rest a r = ReadingPairs s rest (λ pairs. Tells (ByTerms s.defs a pairs)) r

abbrev pub LineOfInstance : Scene → List Arg → Answer → Type 0
LineOfInstance s args r =
    With (theorem_and_more args) (λ p q. Where (are_term_pairs (signature_in s) p.1) (λ u. Finding (theorem_named s p.0) (InstanceOf s p.1) u) q) r

abbrev pub TypeInstanceOf : Scene → List Arg → Theorem → Answer → Type 0
TypeInstanceOf s rest a r = ReadingTypes s rest (λ pairs. Tells (ByTypes s.defs a pairs)) r

abbrev pub LineOfTypeInstance : Scene → List Arg → Answer → Type 0
LineOfTypeInstance s args r =
    With (theorem_and_more args) (λ p q. Where (are_type_pairs p.1) (λ u. Finding (theorem_named s p.0) (TypeInstanceOf s p.1) u) q) r

abbrev pub LineBy : Scene → Rule → List Arg → Answer → Type 0
LineBy s rule.Truth args r = LineOfNothing s args r
LineBy s (rule.Term k) args r = LineOfTerm s k args r
LineBy s (rule.Theorem k) args r = LineOfTheorem s k args r
LineBy s (rule.Pair k) args r = LineOfPair s k args r
LineBy s (rule.TermTheorem k) args r = LineBeforeTheorem s k args r
LineBy s (rule.TheoremTerm k) args r = LineBeforeTerm s k args r
LineBy s (rule.Variable k) args r = LineOfVariable s k args r
LineBy s rule.Exists args r = LineOfExistence s args r
LineBy s rule.Choose args r = LineOfChoice s args r
LineBy s rule.Cases args r = LineOfCases s args r
LineBy s rule.Inst args r = LineOfInstance s args r
LineBy s rule.InstTy args r = LineOfTypeInstance s args r
LineBy s rule.SimpEq args r = LineOfSimp s args r
