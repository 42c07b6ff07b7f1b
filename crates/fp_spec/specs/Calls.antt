-- A term with a function of the group's arguments in place of its calls.
use Rattle.std.specs.Prelude.{ℕ, List, map}
use Rattle.fp_term.specs.Terms.{Tm, app}
use Rattle.fp_group.specs.declared.clause.Head.{Head}
use Rattle.fp_cong.specs.Replaced.{calls_by}
use Rattle.fp_spec.specs.Heads.{in_term, result_out}

-- `out(h (in(t1, .., tn)))`
abbrev pub call_by : List Head → Tm → ℕ → List Tm → Tm
call_by heads h i args = result_out heads i (app h (in_term heads i args))

-- `t[h]`: each call of a function with all its arguments replaced, those in arguments too
abbrev pub calls_at : List Head → Tm → Tm → Tm
calls_at heads h t = calls_by (call_by heads h) heads t

abbrev pub all_calls_at : List Head → Tm → List Tm → List Tm
all_calls_at heads h ts = map (calls_at heads h) ts
