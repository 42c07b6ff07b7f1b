use Rattle.fp_raw.specs.Raws.{place}
use Rattle.fp_constrain.proofs.Clashing.{collects_name, collects_free, collects_app}
use Rattle.fp_constrain.proofs.clash.+collect.Goals as goal

pub returns-in_ok-collect_name-in-Name : goal.returns-in_ok-collect_name-in-Name
returns-in_ok-collect_name-in-Name t c = collects_name _ _ c.in-Name.name (place c.args.raw.now) _ c.in_ok-collect_name-in-Name.ensures (rw c.in-Name.is at c.node.ensures)

pub returns-in_ok-collect_name-in-Free : goal.returns-in_ok-collect_name-in-Free
returns-in_ok-collect_name-in-Free t c = collects_free _ _ c.in-Free.name c.in-Free.ty (place c.args.raw.now) _ c.in_ok-collect_name-in-Free.ensures (rw c.in-Free.is at c.node.ensures)

pub returns-in_ok-collect-in-App-2 : goal.returns-in_ok-collect-in-App-2
returns-in_ok-collect-in-App-2 t c = collects_app _ _ _ c.in-App.fun c.in-App.arg (place c.args.raw.now) _ c.in_ok-collect-in-App.ensures c.in_ok-collect-in-App-2.ensures (rw c.in-App.is at c.node.ensures)
