-- Steps of reading a file and of writing a text.
use Rattle.std.proofs.Common.{◌≡◌, ◌∙◌, ◌<◌, ◌+◌, ℕ, length, List, ◌++◌, Option, Some, None, append_assoc, arith, sym, ap, length-append, append-nil, ◌-◌, take, drop, length-drop}
use Rattle.std.proofs.Math.Seq.{take-length}
use Rattle.std.specs.Io.KnownBytes.{Appends, Consumes, IsAtEnd}
use Rattle.fp_outside.specs.Held.{Opens, Has, HasMore}

pub Appends-then : (a b c : Option (List ℕ)) (x y : List ℕ) → Appends a b x → Appends b c y → Appends a c (x ++ y)
Appends-then None b c x y p q = tt
Appends-then (Some xs) None c x y p q = absurd p
Appends-then (Some xs) (Some ys) None x y p q = absurd q
Appends-then (Some xs) (Some ys) (Some zs) x y p q = q ∙ ap (λ w. w ++ y) p ∙ append_assoc xs x y

pub Consumes-then : (a b c : Option (List ℕ)) (x y : List ℕ) → Consumes a b x → Consumes b c y → Consumes a c (x ++ y)
Consumes-then None b c x y p q = tt
Consumes-then (Some xs) None c x y p q = absurd p
Consumes-then (Some xs) (Some ys) None x y p q = absurd q
Consumes-then (Some xs) (Some ys) (Some zs) x y p q = p ∙ ap (λ w. x ++ w) q ∙ sym (append_assoc x y zs)

pub HasMore-read : (a b c : Option (List ℕ)) (x y : List ℕ) (room : ℕ) → Consumes a b x → Consumes b c y → room < length x + length y → HasMore a room
HasMore-read None b c x y room p q l = tt
HasMore-read (Some xs) None c x y room p q l = absurd p
HasMore-read (Some xs) (Some ys) None x y room p q l = absurd q
HasMore-read (Some xs) (Some ys) (Some zs) x y room p q l = omega (arith, ap length p, ap length q, length-append x ys, length-append y zs)

pub Has-read : (held : Option (List (List ℕ × List ℕ))) (name bytes : List ℕ) (left rest : Option (List ℕ)) → Opens held name left → Consumes left rest bytes → IsAtEnd rest → Has held name bytes
Has-read None name bytes left rest o c e = tt
Has-read (Some files) name bytes None rest o c e = absurd o
Has-read (Some files) name bytes (Some xs) None o c e = absurd c
Has-read (Some files) name bytes (Some xs) (Some ys) o c e = o ∙ ap Some (c ∙ ap (λ w. bytes ++ w) e ∙ append-nil bytes)

-- what a slice from an index on is
pub rest_all : (d : ℕ) (bs : List ℕ) → take (length bs - d) (drop d bs) ≡ drop d bs
rest_all d bs = rw (← length-drop d bs) (take-length (drop d bs))
