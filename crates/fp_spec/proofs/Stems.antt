-- The name of the first function.
use Rattle.std.proofs.Common.{◌≡◌, ◌<◌, List, [], ◌∷◌, get_or, length, sym, ap, arith}
use Rattle.fp_group.specs.declared.clause.Head.{Head}
use Rattle.fp_spec.specs.Defining.{stem_of}

pub stem_is : (heads : List Head) (head : Head) → head ≡ get_or heads 0 head → 0 < length heads → stem_of heads ≡ head.name
stem_is [] head is h = absurd (omega (arith, h))
stem_is (first ∷ heads) head is h = sym (ap (λ (x : Head). x.name) is)
