-- The state of a theory: what is defined, what is named, and what is declared.
use Rattle.std.specs.Prelude.{◌≡◌, ℕ, if◌then◌else◌, List, [], ◌∷◌, ◌++◌, Option, Some, None}
use Rattle.std.specs.Str.{bytes_eq}
use Rattle.fp_kernel.specs.Definitions.{Def, Within}
use Rattle.fp_kernel.specs.Theorems.{Theorem}
use Rattle.fp_group.specs.declared.constructors.ConType.{ConType}
use Rattle.fp_group.specs.declared.congruence.CongRule.{CongRule}
use Rattle.fp_cong_rule.specs.Reading.{cong_rule_of}
use Rattle.fp_rewriting.specs.declared.rule.Rule.{Rule}
use Rattle.fp_rewriting.specs.Reading.{rule_of}

-- the definitions, the newest first; the named theorems, the names of the declared rules, and the types with declared constructors, the oldest first
pub record State : Type 0 where
  pub defs : List Def
  pub named : List (List ℕ × Theorem)
  pub simps : List (List ℕ)
  pub congs : List (List ℕ)
  pub types : List ConType

-- the theorem of that name
abbrev pub found_theorem : List ℕ → List (List ℕ × Theorem) → Option Theorem
found_theorem name [] = None
found_theorem name (entry ∷ rest) = if bytes_eq entry.0 name then Some entry.1 else found_theorem name rest

-- a theorem that can be named over the definitions: without hypotheses and promises
pub record IsNoted (defs : List Def) (th : Theorem) : Type 0 where
  pub hyps : th.hyps ≡ []
  pub promises : th.promises ≡ []
  pub within : Within th.defs defs

-- all of them can be named, and no two have one name
abbrev pub AreNoted : List Def → List (List ℕ × Theorem) → Type 0
AreNoted defs [] = Unit {0}
AreNoted defs (entry ∷ rest) = IsNoted defs entry.1 × (found_theorem entry.0 rest ≡ None) × AreNoted defs rest

-- the theorem of that name states a rule of rewriting, or a congruence rule
pub record IsRewriteRule (named : List (List ℕ × Theorem)) (name : List ℕ) : Type 0 where
  pub theorem : Theorem
  pub found : found_theorem name named ≡ Some theorem
  pub rule : Rule
  pub reads : rule_of name theorem.concl ≡ Some rule

pub record IsCongRule (named : List (List ℕ × Theorem)) (name : List ℕ) : Type 0 where
  pub theorem : Theorem
  pub found : found_theorem name named ≡ Some theorem
  pub rule : CongRule
  pub reads : cong_rule_of name theorem.concl ≡ Some rule

abbrev pub AreRewriteRules : List (List ℕ × Theorem) → List (List ℕ) → Type 0
AreRewriteRules named [] = Unit {0}
AreRewriteRules named (name ∷ names) = IsRewriteRule named name × AreRewriteRules named names

abbrev pub AreCongRules : List (List ℕ × Theorem) → List (List ℕ) → Type 0
AreCongRules named [] = Unit {0}
AreCongRules named (name ∷ names) = IsCongRule named name × AreCongRules named names

-- what every theory keeps
pub record IsTheory (state : State) : Type 0 where
  pub noted : AreNoted state.defs state.named
  pub simps : AreRewriteRules state.named state.simps
  pub congs : AreCongRules state.named state.congs

-- the same state with other named theorems, with a theorem more, and over other definitions
abbrev pub with_named : List (List ℕ × Theorem) → State → State
with_named named state = record { defs = state.defs; named = named; simps = state.simps; congs = state.congs; types = state.types }

abbrev pub with_theorem : List ℕ → Theorem → State → State
with_theorem name th state = with_named (state.named ++ (name, th) ∷ []) state

abbrev pub over : List Def → State → State
over defs state = record { defs = defs; named = state.named; simps = state.simps; congs = state.congs; types = state.types }

-- with a declaration more
abbrev pub with_simp : List ℕ → State → State
with_simp name state = record { defs = state.defs; named = state.named; simps = state.simps ++ name ∷ []; congs = state.congs; types = state.types }

abbrev pub with_cong : List ℕ → State → State
with_cong name state = record { defs = state.defs; named = state.named; simps = state.simps; congs = state.congs ++ name ∷ []; types = state.types }

abbrev pub with_type : ConType → State → State
with_type type state = record { defs = state.defs; named = state.named; simps = state.simps; congs = state.congs; types = state.types ++ type ∷ [] }
