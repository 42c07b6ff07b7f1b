use Rattle.std.proofs.Common.{◌≡◌, drop}
use Rattle.fp_term.specs.Names.{name_hash, hashed_from}
use Rattle.fp_rewriting.proofs.index.hash_of.Given as goal

abbrev pub invariant-loop-byte : goal.invariant-loop-byte
invariant-loop-byte l = name_hash l.name ≡ hashed_from l.hash (drop l.byte-index l.name)
