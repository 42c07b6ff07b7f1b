-- Arguments in front of others.
use Rattle.std.proofs.Common.{◌≡◌, List, [], ◌∷◌, ◌++◌, refl, ap}
use Rattle.fp_raw.specs.Raws.{RawTyp, RawTyps, raw_none, raw_more, arguments}

abbrev pub joined : List RawTyp → RawTyps → RawTyps
joined [] rest = rest
joined (t ∷ ts) rest = raw_more t (joined ts rest)

pub joined_push : (ts : List RawTyp) (t : RawTyp) (rest : RawTyps) → joined (ts ++ t ∷ []) rest ≡ joined ts (raw_more t rest)
joined_push [] t rest = refl
joined_push (u ∷ ts) t rest = ap (raw_more u) (joined_push ts t rest)

pub joined_none : (ts : List RawTyp) → joined ts raw_none ≡ arguments ts
joined_none [] = refl
joined_none (t ∷ ts) = ap (raw_more t) (joined_none ts)
