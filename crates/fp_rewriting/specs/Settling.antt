-- Guards, and the whole of a simplification.
use Rattle.std.specs.Prelude.{ℕ, List, [], ◌∷◌, ◌++◌}
use Rattle.fp_term.specs.Terms.{Tm}
use Rattle.fp_rewriting.specs.declared.rule.Rule.{Rule}
use Rattle.fp_rewriting.specs.declared.left.Left.{Left}
use Rattle.fp_rewriting.specs.Facts.{facts_of, names_of}
use Rattle.fp_rewriting.specs.Simplification.{Known, Simplifies}

abbrev pub with_facts : Known → Tm → Known
with_facts k t = record { rules = k.rules; names = k.names; facts = k.facts ++ facts_of t }

-- `Settles k gs goal l u m`: with `l` left, each guard is simplified and taken apart, and then the goal becomes `u`
pub data Settles : Known → List Tm → Tm → Left → Tm → Left → Type 0 where
  of_goal : {l m : Left} (k : Known) (goal u : Tm) → Simplifies k 0 l goal u m → Settles k [] goal l u m
  of_guard : {l m n : Left} (k : Known) (g h : Tm) (gs : List Tm) (goal u : Tm) → Simplifies k 0 l g h n →
      Settles (with_facts k h) gs goal n u m → Settles k (g ∷ gs) goal l u m

-- what is asked for
pub record Question : Type 0 where
  pub rules : List Rule
  pub guards : List Tm
  pub fuel : ℕ
  pub room : ℕ
  pub goal : Tm

-- the goal becomes that term, with so much left after so many steps
abbrev pub IsSimplified : Question → Tm → Left → Type 0
IsSimplified q u m = Settles (record { rules = q.rules; names = names_of [] q.guards; facts = [] }) q.guards q.goal (record { fuel = q.fuel; room = q.room; steps = 0 }) u m
