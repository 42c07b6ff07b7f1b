-- What stands at the front of the words, and one more of many.
use Rattle.std.proofs.Common.{◌≡◌, ◌∙◌, ◌-◌, ℕ, List, [], ◌∷◌, ◌++◌, length, take, drop, refl, sym, ap, subst}
use Rattle.std.proofs.Math.Seq.{take-length}
use Rattle.std.proofs.lemmas.List.{length-drop, take-append-drop}
use Rattle.fp_raw.specs.Raws.{RawTm}
use Rattle.fp_words.specs.declared.word.Word.{Word}
use Rattle.fp_words.specs.declared.word.Placed.{Placed}
use Rattle.fp_written.specs.declared.kinds.Kind.{Kind}
use Rattle.fp_written.specs.declared.kinds.Limits.{Limits}
use Rattle.fp_written.specs.Written.{Reads, Tree}
use Rattle.fp_commands.specs.declared.command.Body.{Body}
use Rattle.fp_commands.specs.Grammar.{FileLimits, WordAt, word_at, written, WrittenBefore, written_before, Many, no_more, one_more, After, after, Parted, parted, BodyAt, CommandAt, command, TermAt, braced, NameAt, name_at, IsWordArg, ArgAt, word_arg}
use Rattle.fp_words.specs.declared.word.Keyword.{Keyword}
use Rattle.fp_words.specs.declared.word.Word.TheVariants.{Reserved, Name, Braces}
use Rattle.fp_words.specs.declared.word.Braces.{Braces as Inside}
use Rattle.fp_words.specs.declared.word.Braces.TheVariants.{Full}
use Rattle.fp_commands.specs.declared.command.Arg.{Arg}

-- the word of the first
pub at_front : (w : Word) (ws : List Placed) (p : Placed) (rest : List Placed) → ws ≡ p ∷ rest → p.word ≡ w → WordAt w ws rest
at_front w ws p rest e f =
    let here : WordAt p.word (p ∷ rest) rest = word_at {at = p.at} {rest = rest} in
    rw e (subst (λ v. WordAt v (p ∷ rest) rest) f here)

-- a command behind its word
pub command_front : (l : FileLimits) (k : Keyword) (ws : List Placed) (p : Placed) (rest c : List Placed) (body : Body) → ws ≡ p ∷ rest → p.word ≡ Reserved k → BodyAt l k rest body c → CommandAt l ws (record { at = p.at; body = body }) c
command_front l k ws p rest c body e f b =
    let here : CommandAt l (record { word = Reserved k; at = p.at } ∷ rest) (record { at = p.at; body = body }) c = command b in
    rw e (subst (λ v. CommandAt l (record { word = v; at = p.at } ∷ rest) (record { at = p.at; body = body }) c) (sym f) here)

pub name_front : (ws : List Placed) (p : Placed) (rest : List Placed) (x : List ℕ) → ws ≡ p ∷ rest → p.word ≡ Name x → NameAt ws x rest
name_front ws p rest x e f = name_at (at_front (Name x) ws p rest e f)

pub word_front : (l : FileLimits) (ws : List Placed) (p : Placed) (rest : List Placed) (x : Arg) → ws ≡ p ∷ rest → IsWordArg l p.word x → ArgAt l ws x rest
word_front l ws p rest x e f = word_arg (at_front p.word ws p rest e refl) f

pub braces_front : (l : FileLimits) (ws : List Placed) (p : Placed) (rest : List Placed) (t : RawTm) (b : Inside) → ws ≡ p ∷ rest → p.word ≡ Braces b → b ≡ Full t → TermAt l ws t rest
braces_front l ws p rest t b e f g = braced (at_front (Braces (Full t)) ws p rest e (f ∙ ap (λ z. Braces z) g))

pub rest_of : (ws : List Placed) (n : ℕ) → take (length ws - n) (drop n ws) ≡ drop n ws
rest_of ws n = rw (← length-drop n ws) (take-length (drop n ws))

-- what is written up to a place, and the word there
pub before_at : (closes : Word) (l : Limits) (k : Kind) (ws : List Placed) (n : ℕ) (tree : Tree) (c : List Placed) → Reads l k (take n ws) tree → WordAt closes (take (length ws - n) (drop n ws)) c → WrittenBefore closes l k ws tree c
before_at closes l k ws n tree c r w =
    let here : WrittenBefore closes l k (take n ws ++ drop n ws) tree c = written_before (written r) (rw (rest_of ws n) at w) in
    rw (take-append-drop n ws) at here

pub many_snoc : {T : Type 0} (P : List Placed → T → List Placed → Type 0) (a b c : List Placed) (xs : List T) (x : T) → Many P a xs b → P b x c → Many P a (xs ++ x ∷ []) c
many_snoc P a b c xs x no_more p = one_more p no_more
many_snoc P a b c xs x (one_more {x = y} {xs = ys} {b = d} q m) p = one_more q (many_snoc P d b c ys x m p)

pub parted_one : {T : Type 0} (w : Word) (P : List Placed → T → List Placed → Type 0) (a b : List Placed) (x : T) → P a x b → Parted w P a (x ∷ []) b
parted_one w P a b x p = parted p no_more

pub parted_snoc : {T : Type 0} (w : Word) (P : List Placed → T → List Placed → Type 0) (a b c d : List Placed) (xs : List T) (x : T) → Parted w P a xs b → WordAt w b c → P c x d → Parted w P a (xs ++ x ∷ []) d
parted_snoc w P a b c d xs x (parted {xs = ys} {b = e} q m) at p = parted q (many_snoc (After w P) e b d ys x m (after at p))
