use Rattle.std.proofs.Common.{◌≡◌, drop}
use Rattle.fp_term.specs.Names.{name_hash, hashed_from}
use Rattle.fp_term.proofs.name.hash_of.Given as goal

abbrev pub invariant-loop-byte : goal.invariant-loop-byte
invariant-loop-byte l = name_hash l.bytes ≡ hashed_from l.hash (drop l.byte-index l.bytes)
