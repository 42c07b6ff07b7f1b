-- Why a rule isn't declared.
use Rattle.std.proofs.Common.{ℕ, List, Err}
use Rattle.fp_theory.specs.State.{State}
use Rattle.fp_theory.specs.Declaring.{ReadsSimp, DeclaresSimp, ReadsCong, DeclaresCong}
use Rattle.fp_theory.specs.declared.fault.RuleShapeFault.{RuleShapeFault}
use Rattle.fp_theory.specs.declared.fault.RuleShapeFault.TheVariants as shaping
use Rattle.fp_command.specs.Outcome.{RefusesSimp, RefusesCong}
use Rattle.fp_command.specs.Outcome as why
use Rattle.fp_command.specs.Answers.{Shows, Leaves, At, ExplainsRule}
use Rattle.fp_command.specs.declared.fault.CommandFault.{CommandFault}
use Rattle.fp_command.specs.declared.fault.CommandFault.TheVariants.{Refused, NoMemory}

pub simp_refused : (s t : State) (begins : ℕ) (name : List ℕ) (fault : RuleShapeFault) (told : CommandFault) → ReadsSimp s.named name (Err fault) → DeclaresSimp s t name (Err fault) →
    Shows (At begins (ExplainsRule fault)) told → Leaves s t (At begins (RefusesSimp s name)) told
simp_refused s t begins name (shaping.NoSuchTheorem missing) (Refused r) reads same sh = ((sh.0.0, rw (sh.0.1, reads.is) (why.RefusesSimp.no_theorem reads.none)), sh.1, same)
simp_refused s t begins name shaping.NotRuleShape (Refused r) reads same sh = ((sh.0.0, rw sh.0.1 (why.RefusesSimp.no_rule reads)), sh.1, same)
simp_refused s t begins name shaping.NoMemory (Refused r) reads same sh = absurd sh.0.1
simp_refused s t begins name fault NoMemory reads same sh = tt

pub cong_refused : (s t : State) (begins : ℕ) (name : List ℕ) (fault : RuleShapeFault) (told : CommandFault) → ReadsCong s.named name (Err fault) → DeclaresCong s t name (Err fault) →
    Shows (At begins (ExplainsRule fault)) told → Leaves s t (At begins (RefusesCong s name)) told
cong_refused s t begins name (shaping.NoSuchTheorem missing) (Refused r) reads same sh = ((sh.0.0, rw (sh.0.1, reads.is) (why.RefusesCong.no_theorem reads.none)), sh.1, same)
cong_refused s t begins name shaping.NotRuleShape (Refused r) reads same sh = ((sh.0.0, rw sh.0.1 (why.RefusesCong.no_rule reads)), sh.1, same)
cong_refused s t begins name shaping.NoMemory (Refused r) reads same sh = absurd sh.0.1
cong_refused s t begins name fault NoMemory reads same sh = tt
