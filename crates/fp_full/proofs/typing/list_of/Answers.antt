use Rattle.std.proofs.Common.{◌≡◌, ◌∙◌, List, [], ◌∷◌, ◌++◌, refl, sym, ap}
use Rattle.fp_term.specs.Types.{Typ, Typs, more}
use Rattle.fp_full.specs.Machine.{onto}
use Rattle.fp_full.proofs.typing.list_of.Goals as goal

onto_push : (ts : List Typ) (t : Typ) (rest : Typs) → onto (ts ++ t ∷ []) rest ≡ onto ts (more t rest)
onto_push [] t rest = refl
onto_push (x ∷ xs) t rest = ap (λ r. more x r) (onto_push xs t rest)

-- the last of the types goes in front of the rest
popped : (olds news : List Typ) (t : Typ) (rest : Typs) → olds ≡ news ++ t ∷ [] → onto news (more t rest) ≡ onto olds rest
popped olds news t rest e = rw e (sym (onto_push news t rest))

pub loop-ty-preserved : goal.loop-ty-preserved
loop-ty-preserved c =
    rw c.in_ok-tys-2.ensures (popped c.loop-ty.args.items c.pop.new.self.items c.in-Some.ty c.loop-ty.tys c.in-Some.ensures.items ∙ c.loop-ty.invariant)
