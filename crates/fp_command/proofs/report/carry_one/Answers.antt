use Rattle.fp_command.specs.Steps.{goes, stops}
use Rattle.fp_command.proofs.report.carry_one.Goals as goal

pub push_items-requires : goal.push_items-requires
push_items-requires g c = rw c.as_slice.ensures c.in-Ok.ensures.shown

pub returns-in_ok-push_items-in-Ok : goal.returns-in_ok-push_items-in-Ok
returns-in_ok-push_items-in-Ok g c = goes c.in-Ok.items c.in-Ok.ensures.accepted (rw c.as_slice.ensures at c.in_ok-push_items-in-Ok.ensures)

pub push_refusal-requires : goal.push_refusal-requires
push_refusal-requires g c = let r = rw c.in-Err-Refused.field-0-is at c.in-Err-Refused.ensures.refused in r.1

pub returns-in_ok-push_refusal-in-Err-Refused : goal.returns-in_ok-push_refusal-in-Err-Refused
returns-in_ok-push_refusal-in-Err-Refused g c =
    let r = rw c.in-Err-Refused.field-0-is at c.in-Err-Refused.ensures.refused in
    let f = c.in-Err-Refused.refusal in
    stops f.at f.reason r.0 r.2 c.in_ok-push_refusal-in-Err-Refused.ensures
