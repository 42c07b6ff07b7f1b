use Rattle.std.proofs.Common.{inr}
use Rattle.fp_run.specs.Runs.{here}
use Rattle.fp_run.proofs.Running.{runs_none, runs_refused, runs_on, runs_files_fault, runs_sink_fault, runs_no_memory, no_names, names_from, leaves_read}
use Rattle.fp_run.proofs.program.+run_files.Goals as goal

pub returns-in-empty-clause-runs : goal.returns-in-empty-clause-runs
returns-in-empty-clause-runs g t c = rw (no_names c.args.names.now c.in-empty.len_below) (runs_none _ _ _ _ _ _ _)

pub returns-then-written-clause-runs : goal.returns-then-written-clause-runs
returns-then-written-clause-runs g t c =
    rw (names_from c.args.names.now c.name-item.result c.as_str.result.now c.in-len1-up.len_at_least c.name-item.is c.as_str.ensures.value)
    (runs_refused _ _ _ _ _ _ _ _ _ _ _ _ c.in-Ok.written c.in-Ok.ensures.writes c.if-written.true)

pub returns-then-written-clause-read : goal.returns-then-written-clause-read
returns-then-written-clause-read g t c small =
    inr
    (rw (names_from c.args.names.now c.name-item.result c.as_str.result.now c.in-len1-up.len_at_least c.name-item.is c.as_str.ensures.value)
    (here c.args.room (c.in-Ok.ensures.named c.in-Ok.ensures.current) c.in-Ok.ensures.read))

pub returns-else-written-clause-runs : goal.returns-else-written-clause-runs
returns-else-written-clause-runs g t c =
    rw (names_from c.args.names.now c.name-item.result c.as_str.result.now c.in-len1-up.len_at_least c.name-item.is c.as_str.ensures.value)
    (runs_on _ _ _ _ _ _ _ _ _ _ _ _ _ _ _ (g.F.Files.current c.write_file.new.files) _ c.in-Ok.written c.in-Ok.ensures.writes c.if-written.false (rw c.in-Ok.ensures.held at c.run_files.ensures.runs))

pub returns-else-written-clause-read : goal.returns-else-written-clause-read
returns-else-written-clause-read g t c small =
    inr
    (rw (names_from c.args.names.now c.name-item.result c.as_str.result.now c.in-len1-up.len_at_least c.name-item.is c.as_str.ensures.value)
    (leaves_read g.F.Files.named g.F.Files.left _ c.write_file.new.files c.run_files.new.files _ _ _ c.args.room c.run_files.ensures.none (c.in-Ok.ensures.named c.in-Ok.ensures.current)
    c.in-Ok.ensures.read (rw c.in-Ok.ensures.held at c.run_files.ensures.read small)))

pub returns-in-Err-Files-clause-runs : goal.returns-in-Err-Files-clause-runs
returns-in-Err-Files-clause-runs g t c =
    rw (names_from c.args.names.now c.name-item.result c.as_str.result.now c.in-len1-up.len_at_least c.name-item.is c.as_str.ensures.value)
    (runs_files_fault _ _ _ _ _ _ _ _ _ _ _ _ (rw c.in-Err-Files.field-0-is at c.in-Err-Files.ensures.writes))

pub returns-in-Err-Sink-clause-runs : goal.returns-in-Err-Sink-clause-runs
returns-in-Err-Sink-clause-runs g t c =
    rw (names_from c.args.names.now c.name-item.result c.as_str.result.now c.in-len1-up.len_at_least c.name-item.is c.as_str.ensures.value)
    (runs_sink_fault _ _ _ _ _ _ _ _ _ _ _ _ (rw c.in-Err-Sink.field-0-is at c.in-Err-Sink.ensures.writes))

pub returns-in-Err-NoMemory-clause-runs : goal.returns-in-Err-NoMemory-clause-runs
returns-in-Err-NoMemory-clause-runs g t c =
    rw (names_from c.args.names.now c.name-item.result c.as_str.result.now c.in-len1-up.len_at_least c.name-item.is c.as_str.ensures.value)
    (runs_no_memory _ _ _ _ _ _ _ _ _ _ _ _ (rw c.in-Err-NoMemory.field-0-is at c.in-Err-NoMemory.ensures.writes))
