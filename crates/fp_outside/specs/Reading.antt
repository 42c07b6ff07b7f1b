-- What the reading of a whole file leaves.
use Rattle.std.specs.Prelude.{Bool, Result, Ok, Err, IsTrue}
use Rattle.fp_outside.specs.declared.reading.ReadFault.{ReadFault}
use Rattle.fp_outside.specs.declared.reading.ReadFault.TheVariants.{Failed, TooLong, NoMemory}

-- A file is current, unless a call failed.
abbrev pub LeavesCurrent : {T : Type 0} → Result T ReadFault → Bool → Type 0
LeavesCurrent (Ok _) current = IsTrue current
LeavesCurrent (Err Failed) current = Unit {0}
LeavesCurrent (Err TooLong) current = IsTrue current
LeavesCurrent (Err NoMemory) current = IsTrue current
