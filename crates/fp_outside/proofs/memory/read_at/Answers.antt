use Rattle.std.proofs.Common.{◌≡◌, ◌+◌, ◌≤◌, sym, ap, ◌∙◌, arith, length, length-take, length-drop}
use Rattle.std.proofs.Math.ListN.{drop_of_length-le}
use Rattle.fp_outside.proofs.Looking.{file_at, reads_at}
use Rattle.fp_outside.proofs.memory.read_at.Goals as goal

pub returns-clause-bytes : goal.returns-clause-bytes
returns-clause-bytes c =
    let seen = file_at c.args.entries.now c.args.place.file c.args.place.at c.index-entries-place.result c.requires c.index-entries-place.is in
    let same : c.deref.result.now ≡ c.index-entries-place.result.bytes.items = c.deref.ensures.value ∙ ap (λ file. file.bytes.items) (sym c.index-entries-place.is) in
    rw (seen, ← same) (reads_at c.deref.result.now c.copy_front.new.buf c.args.place.at c.copy_front.result c.copy_front.ensures.bytes)

pub returns-clause-end : goal.returns-clause-end
returns-clause-end c = λ zero room.
    let seen = file_at c.args.entries.now c.args.place.file c.args.place.at c.index-entries-place.result c.requires c.index-entries-place.is in
    let same : c.deref.result.now ≡ c.index-entries-place.result.bytes.items = c.deref.ensures.value ∙ ap (λ file. file.bytes.items) (sym c.index-entries-place.is) in
    let past : length c.deref.result.now ≤ c.args.place.at + c.copy_front.result = omega (arith, simp (length-take, length-drop) at c.copy_front.ensures.count) in
    rw (seen, ← same) (drop_of_length-le c.deref.result.now past)
