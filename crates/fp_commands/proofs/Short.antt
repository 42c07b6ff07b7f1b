-- Where the names of the words are short, so are those of commands.
use Rattle.std.proofs.Common.{◌≤◌, ℕ, List, [], ◌∷◌, ◌++◌, length}
use Rattle.fp_raw.specs.Raws.{RawTm, RawTyp}
use Rattle.fp_words.specs.declared.word.Keyword.{Keyword}
use Rattle.fp_words.specs.declared.word.Keyword.TheVariants.{And}
use Rattle.fp_words.specs.declared.word.Word.{Word}
use Rattle.fp_words.specs.declared.word.Word.TheVariants.{Name, TyVar, Comma, Bar, OpenBracket, CloseBracket, Quote, Reserved}
use Rattle.fp_words.specs.declared.word.Placed.{Placed}
use Rattle.fp_written.specs.declared.kinds.Kind.{Kind}
use Rattle.fp_written.specs.declared.kinds.Limits.{Limits}
use Rattle.fp_written.specs.Written.{Tree}
use Rattle.fp_commands.specs.declared.command.Arg.{Arg}
use Rattle.fp_commands.specs.declared.command.Line.{Line}
use Rattle.fp_commands.specs.declared.command.Head.{Head}
use Rattle.fp_commands.specs.declared.command.Body.{Body}
use Rattle.fp_commands.specs.declared.command.Command.{Command}
use Rattle.fp_commands.specs.Grammar.{FileLimits, WordAt, word_at, written, WrittenBefore, written_before, TermAt, quoted, braced, TypeAt, enclosed, Many, no_more, one_more, After, after, Parted, parted, NameAt, name_at, ArgAt, word_arg, term_arg, type_arg, LineAt, line, HeadAt, head, BodyAt, definition, typedef, lemma, simp_rule, cong_rule, constructors, size_of, measure_of, fun_group, function_group, CommandAt, command, IsFile}
use Rattle.fp_commands.specs.Names.{head_names, names_of, AreShort, HaveShortNames}

abbrev pub Short : Word → Type 0
Short (Name n) = length n ≤ 64
Short (TyVar n) = length n ≤ 64
Short _ = Unit {0}

abbrev pub AllShort : List Placed → Type 0
AllShort [] = Unit {0}
AllShort (a ∷ rest) = Short a.word × AllShort rest

word_short : (w : Word) (a b : List Placed) → WordAt w a b → AllShort a → Short w × AllShort b
word_short w a b word_at g = g

rest_short : (xs ys : List Placed) → AllShort (xs ++ ys) → AllShort ys
rest_short [] ys g = g
rest_short (x ∷ xs) ys g = rest_short xs ys g.1

before_short : (w : Word) (l : Limits) (k : Kind) (a : List Placed) (t : Tree) (c : List Placed) → WrittenBefore w l k a t c → AllShort a → AllShort c
before_short w l k a t c (written_before (written {words = ws} {rest = r} x) y) g = (word_short w r c y (rest_short ws r g)).1

term_short : (l : FileLimits) (a : List Placed) (t : RawTm) (b : List Placed) → TermAt l a t b → AllShort a → AllShort b
term_short l a t b (quoted {b = d} p x) g = before_short _ _ _ d _ b x (word_short _ a d p g).1
term_short l a t b (braced p) g = (word_short _ a b p g).1

type_short : (opens closes : Word) (l : FileLimits) (a : List Placed) (u : RawTyp) (b : List Placed) → TypeAt opens closes l a u b → AllShort a → AllShort b
type_short opens closes l a u b (enclosed {b = d} p x) g = before_short closes _ _ d _ b x (word_short opens a d p g).1

name_short : (a : List Placed) (x : List ℕ) (b : List Placed) → NameAt a x b → AllShort a → (length x ≤ 64) × AllShort b
name_short a x b (name_at p) g = word_short (Name x) a b p g

many_short : {T : Type 0} (P : List Placed → T → List Placed → Type 0) → ((a : List Placed) (x : T) (b : List Placed) → P a x b → AllShort a → AllShort b) → (a : List Placed) (xs : List T) (b : List Placed) → Many P a xs b → AllShort a → AllShort b
many_short P f a xs b no_more g = g
many_short P f a xs b (one_more {x = x} {xs = ys} {b = d} h m) g = many_short P f d ys b m (f a x d h g)

after_short : {T : Type 0} (w : Word) (P : List Placed → T → List Placed → Type 0) → ((a : List Placed) (x : T) (b : List Placed) → P a x b → AllShort a → AllShort b) → (a : List Placed) (x : T) (b : List Placed) → After w P a x b → AllShort a → AllShort b
after_short w P f a x b (after {b = d} p q) g = f d x b q (word_short w a d p g).1

parted_short : {T : Type 0} (w : Word) (P : List Placed → T → List Placed → Type 0) → ((a : List Placed) (x : T) (b : List Placed) → P a x b → AllShort a → AllShort b) → (a : List Placed) (xs : List T) (b : List Placed) → Parted w P a xs b → AllShort a → AllShort b
parted_short w P f a xs b (parted {x = x} {xs = ys} {b = d} p m) g = many_short (After w P) (after_short w P f) d ys b m (f a x d p g)

arg_short : (l : FileLimits) (a : List Placed) (x : Arg) (b : List Placed) → ArgAt l a x b → AllShort a → AllShort b
arg_short l a x b (word_arg {w = w} p i) g = (word_short w a b p g).1
arg_short l a x b (term_arg {t = t} h) g = term_short l a t b h g
arg_short l a x b (type_arg {u = u} h) g = type_short OpenBracket CloseBracket l a u b h g

line_short : (l : FileLimits) (a : List Placed) (x : Line) (b : List Placed) → LineAt l a x b → AllShort a → AllShort b
line_short l a x b (line {x = n} {args = xs} {b = d} {c = e} p m q) g = (word_short _ e b q (many_short (ArgAt l) (arg_short l) d xs e m (name_short a n d p g).1)).1

head_short : (l : FileLimits) (a : List Placed) (x : Head) (b : List Placed) → HeadAt l a x b → AllShort a → (length x.name ≤ 64) × AllShort b
head_short l a x b (head {x = n} {u = u} {b = d} {c = e} p q h) g =
    let f = name_short a n d p g in
    (f.0, type_short Quote Quote l e u b h (word_short _ d e q f.1).1)

-- names behind a word each
more_names_short : (a : List Placed) (xs : List (List ℕ)) (b : List Placed) → Many (After Comma NameAt) a xs b → AllShort a → AreShort xs × AllShort b
more_names_short a xs b no_more g = (tt, g)
more_names_short a xs b (one_more {x = x} {xs = ys} {b = d} (after {b = e} p q) m) g =
    let f = name_short e x d q (word_short _ a e p g).1 in
    let r = more_names_short d ys b m f.1 in
    ((f.0, r.0), r.1)

names_short : (a : List Placed) (xs : List (List ℕ)) (b : List Placed) → Parted Comma NameAt a xs b → AllShort a → AreShort xs × AllShort b
names_short a xs b (parted {x = x} {xs = ys} {b = d} p m) g =
    let f = name_short a x d p g in
    let r = more_names_short d ys b m f.1 in
    ((f.0, r.0), r.1)

more_heads_short : (l : FileLimits) (a : List Placed) (xs : List Head) (b : List Placed) → Many (After (Reserved And) (HeadAt l)) a xs b → AllShort a → AreShort (head_names xs) × AllShort b
more_heads_short l a xs b no_more g = (tt, g)
more_heads_short l a xs b (one_more {x = x} {xs = ys} {b = d} (after {b = e} p q) m) g =
    let f = head_short l e x d q (word_short _ a e p g).1 in
    let r = more_heads_short l d ys b m f.1 in
    ((f.0, r.0), r.1)

heads_short : (l : FileLimits) (a : List Placed) (xs : List Head) (b : List Placed) → Parted (Reserved And) (HeadAt l) a xs b → AllShort a → AreShort (head_names xs) × AllShort b
heads_short l a xs b (parted {x = x} {xs = ys} {b = d} p m) g =
    let f = head_short l a x d p g in
    let r = more_heads_short l d ys b m f.1 in
    ((f.0, r.0), r.1)

group_short : (l : FileLimits) (a : List Placed) (hs : List Head) (ts : List RawTm) (b c d : List Placed) (w : Word) → Parted (Reserved And) (HeadAt l) a hs b → WordAt w b c → Parted Bar (TermAt l) c ts d → AllShort a → AreShort (head_names hs) × AllShort d
group_short l a hs ts b c d w p q r g =
    let f = heads_short l a hs b p g in
    (f.0, parted_short Bar (TermAt l) (term_short l) c ts d r (word_short w b c q f.1).1)

body_short : (l : FileLimits) (k : Keyword) (a : List Placed) (x : Body) (b : List Placed) → BodyAt l k a x b → AllShort a → AreShort (names_of x) × AllShort b
body_short l k a x b (definition {x = n} {t = t} {b = d} {c = e} p q r) g =
    let f = name_short a n d p g in
    ((f.0, tt), term_short l e t b r (word_short _ d e q f.1).1)
body_short l k a x b (typedef {x = x1} {y = x2} {z = x3} {n = x4} {b = b1} {c = b2} {d = b3} {e = b4} {f = b5} {g = b6} p1 p2 p3 p4 p5 p6 p7) g =
    let f1 = name_short a x1 b1 p1 g in
    let f2 = name_short b2 x2 b3 p3 (word_short _ b1 b2 p2 f1.1).1 in
    let f3 = name_short b4 x3 b5 p5 (word_short _ b3 b4 p4 f2.1).1 in
    let f4 = name_short b6 x4 b p7 (word_short _ b5 b6 p6 f3.1).1 in
    ((f1.0, (f2.0, (f3.0, (f4.0, tt)))), f4.1)
body_short l k a x b (lemma {x = n} {t = t} {lines = xs} {b = b1} {c = b2} {d = b3} {e = b4} {f = b5} p q r s m v _) g =
    let f = name_short a n b1 p g in
    ((f.0, tt), (word_short _ b5 b v (many_short (LineAt l) (line_short l) b4 xs b5 m (word_short _ b3 b4 s (term_short l b2 t b3 r (word_short _ b1 b2 q f.1).1)).1)).1)
body_short l k a x b (simp_rule {x = n} p) g = let f = name_short a n b p g in ((f.0, tt), f.1)
body_short l k a x b (cong_rule {x = n} p) g = let f = name_short a n b p g in ((f.0, tt), f.1)
body_short l k a x b (constructors {x = n} {cs = xs} {b = d} {c = e} p q r) g =
    let f = name_short a n d p g in
    let h = names_short e xs b r (word_short _ d e q f.1).1 in
    ((f.0, h.0), h.1)
body_short l k a x b (size_of {u = u} {t = t} {b = d} p q) g = (tt, term_short l d t b q (type_short OpenBracket CloseBracket l a u d p g))
body_short l k a x b (measure_of {u = u} {t = t} {b = d} p q) g = (tt, term_short l d t b q (type_short OpenBracket CloseBracket l a u d p g))
body_short l k a x b (fun_group {hs = hs} {ts = ts} {b = d} {c = e} p q r) g = group_short l a hs ts d e b _ p q r g
body_short l k a x b (function_group {hs = hs} {ts = ts} {b = d} {c = e} p q r) g = group_short l a hs ts d e b _ p q r g

commands_short : (l : FileLimits) (a : List Placed) (xs : List Command) (b : List Placed) → Many (CommandAt l) a xs b → AllShort a → HaveShortNames xs
commands_short l a xs b no_more g = tt
commands_short l a xs b (one_more {xs = ys} {b = d} (command {k = k} {body = y} {a = e} h) m) g =
    let f = body_short l k e y d h g.1 in
    (f.0, commands_short l d ys b m f.1)

pub file_short : (l : FileLimits) (words : List Placed) (xs : List Command) → IsFile l words xs → AllShort words → HaveShortNames xs
file_short l words xs h g = commands_short l words xs [] h g
