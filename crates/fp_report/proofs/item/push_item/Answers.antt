use Rattle.fp_report.proofs.item.push_item.Goals as goal

pub returns-in-Definition : goal.returns-in-Definition
returns-in-Definition c = rw c.in-Definition.is c.push_stated.ensures

pub returns-in-Typedef : goal.returns-in-Typedef
returns-in-Typedef c = rw c.in-Typedef.is c.push_stated-in-Typedef.ensures

pub returns-in-Theorem : goal.returns-in-Theorem
returns-in-Theorem c = rw c.in-Theorem.is c.push_stated-in-Theorem.ensures
