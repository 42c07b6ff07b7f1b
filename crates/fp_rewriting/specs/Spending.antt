-- What is left to spend, and what is spent.
use Rattle.std.specs.Prelude.{◌+◌, ◌-◌, Bool, not, ◌&&◌, ◌==◌, nat_le}
use Rattle.fp_term.specs.Terms.{Tm, size_of}
use Rattle.fp_rewriting.specs.declared.left.Left.{Left}

-- one step more
abbrev pub stepped : Left → Left
stepped l = record { fuel = l.fuel; room = l.room; steps = l.steps + 1 }

-- is there fuel, and room for the result?
abbrev pub affords : Left → Tm → Bool
affords l u = not (l.fuel == 0) && nat_le (size_of u) l.room

-- what is left once the result was made
abbrev pub paid : Left → Tm → Left
paid l u = record { fuel = l.fuel - 1; room = l.room - size_of u; steps = l.steps }

-- nothing more is made
abbrev pub emptied : Left → Left
emptied l = record { fuel = 0; room = l.room; steps = l.steps }
