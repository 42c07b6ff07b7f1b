-- What the grammar reads has no malformed braces.
use Rattle.std.proofs.Common.{ℕ, List, [], ◌∷◌, ◌++◌}
use Rattle.fp_raw.specs.Raws.{RawTm, RawTyp}
use Rattle.fp_words.specs.declared.word.Infix.TheVariants.{Equal}
use Rattle.fp_words.specs.declared.word.Keyword.{Keyword}
use Rattle.fp_words.specs.declared.word.Keyword.TheVariants.{Abs, Rep, By, Proof, End, And, Where}
use Rattle.fp_words.specs.declared.word.Braces.TheVariants.{Full}
use Rattle.fp_words.specs.declared.word.Word.{Word}
use Rattle.fp_words.specs.declared.word.Word.TheVariants.{Name, TyVar, Number, Quote, Braces, Between, Comma, Colons, Colon, Bar, Semicolon, OpenBracket, CloseBracket, Reserved}
use Rattle.fp_words.specs.declared.word.Placed.{Placed}
use Rattle.fp_written.specs.declared.kinds.Kind.{Kind}
use Rattle.fp_written.specs.declared.kinds.Limits.{Limits}
use Rattle.fp_written.specs.Written.{Tree}
use Rattle.fp_commands.specs.declared.command.Arg.{Arg}
use Rattle.fp_commands.specs.declared.command.Line.{Line}
use Rattle.fp_commands.specs.declared.command.Head.{Head}
use Rattle.fp_commands.specs.declared.command.Body.{Body}
use Rattle.fp_commands.specs.declared.command.Command.{Command}
use Rattle.fp_commands.specs.Grammar.{FileLimits, WordAt, word_at, written, WrittenBefore, written_before, TermAt, quoted, braced, TypeAt, enclosed, Many, no_more, one_more, After, after, Parted, parted, NameAt, name_at, IsWordArg, ArgAt, word_arg, term_arg, type_arg, LineAt, line, HeadAt, head, BodyAt, definition, typedef, lemma, simp_rule, cong_rule, constructors, size_of, measure_of, fun_group, function_group, CommandAt, command, IsFile}
use Rattle.fp_commands.proofs.Split.{Plain, AllPlain, reads_plain}

abbrev pub Good : Word → Type 0
Good (Braces (Full t)) = Unit {0}
Good (Braces _) = ⊥
Good _ = Unit {0}

abbrev pub AllGood : List Placed → Type 0
AllGood [] = Unit {0}
AllGood (a ∷ rest) = Good a.word × AllGood rest

plain_good : (w : Word) → Plain w → Good w
plain_good Quote p = absurd p
plain_good CloseBracket p = absurd p
plain_good (Braces b) p = absurd p
plain_good _ p = tt

behind_plain : (xs ys : List Placed) → AllPlain xs → AllGood ys → AllGood (xs ++ ys)
behind_plain [] ys p g = g
behind_plain (x ∷ xs) ys p g = (plain_good x.word p.0, behind_plain xs ys p.1 g)

word_good : (w : Word) (a b : List Placed) → Good w → WordAt w a b → AllGood b → AllGood a
word_good w a b h word_at g = (h, g)

before_good : (w : Word) (l : Limits) (k : Kind) (a : List Placed) (t : Tree) (c : List Placed) → Good w → WrittenBefore w l k a t c → AllGood c → AllGood a
before_good w l k a t c h (written_before (written {words = ws} {rest = r} x) y) g = behind_plain ws r (reads_plain l k ws t x) (word_good w r c h y g)

term_good : (l : FileLimits) (a : List Placed) (t : RawTm) (b : List Placed) → TermAt l a t b → AllGood b → AllGood a
term_good l a t b (quoted {b = d} p x) g = word_good Quote a d tt p (before_good Quote _ _ d _ b tt x g)
term_good l a t b (braced p) g = word_good (Braces (Full t)) a b tt p g

type_good : (opens closes : Word) (l : FileLimits) (a : List Placed) (u : RawTyp) (b : List Placed) → Good opens → Good closes → TypeAt opens closes l a u b → AllGood b → AllGood a
type_good opens closes l a u b h k (enclosed {b = d} p x) g = word_good opens a d h p (before_good closes _ _ d _ b k x g)

many_good : {T : Type 0} (P : List Placed → T → List Placed → Type 0) → ((a : List Placed) (x : T) (b : List Placed) → P a x b → AllGood b → AllGood a) → (a : List Placed) (xs : List T) (b : List Placed) → Many P a xs b → AllGood b → AllGood a
many_good P f a xs b no_more g = g
many_good P f a xs b (one_more {x = x} {xs = ys} {b = d} h m) g = f a x d h (many_good P f d ys b m g)

after_good : {T : Type 0} (w : Word) (P : List Placed → T → List Placed → Type 0) → Good w → ((a : List Placed) (x : T) (b : List Placed) → P a x b → AllGood b → AllGood a) → (a : List Placed) (x : T) (b : List Placed) → After w P a x b → AllGood b → AllGood a
after_good w P h f a x b (after {b = d} p q) g = word_good w a d h p (f d x b q g)

parted_good : {T : Type 0} (w : Word) (P : List Placed → T → List Placed → Type 0) → Good w → ((a : List Placed) (x : T) (b : List Placed) → P a x b → AllGood b → AllGood a) → (a : List Placed) (xs : List T) (b : List Placed) → Parted w P a xs b → AllGood b → AllGood a
parted_good w P h f a xs b (parted {x = x} {xs = ys} {b = d} p m) g = f a x d p (many_good (After w P) (after_good w P h f) d ys b m g)

name_good : (a : List Placed) (x : List ℕ) (b : List Placed) → NameAt a x b → AllGood b → AllGood a
name_good a x b (name_at p) g = word_good (Name x) a b tt p g

word_arg_good : (l : FileLimits) (w : Word) (x : Arg) → IsWordArg l w x → Good w
word_arg_good l (Number n) x i = tt
word_arg_good l (Name n) x i = tt
word_arg_good l (TyVar n) x i = tt
word_arg_good l _ x i = absurd i

arg_good : (l : FileLimits) (a : List Placed) (x : Arg) (b : List Placed) → ArgAt l a x b → AllGood b → AllGood a
arg_good l a x b (word_arg {w = w} p i) g = word_good w a b (word_arg_good l w x i) p g
arg_good l a x b (term_arg {t = t} h) g = term_good l a t b h g
arg_good l a x b (type_arg {u = u} h) g = type_good OpenBracket CloseBracket l a u b tt tt h g

line_good : (l : FileLimits) (a : List Placed) (x : Line) (b : List Placed) → LineAt l a x b → AllGood b → AllGood a
line_good l a x b (line {x = n} {args = xs} {b = d} {c = e} p m q) g = name_good a n d p (many_good (ArgAt l) (arg_good l) d xs e m (word_good Semicolon e b tt q g))

head_good : (l : FileLimits) (a : List Placed) (x : Head) (b : List Placed) → HeadAt l a x b → AllGood b → AllGood a
head_good l a x b (head {x = n} {u = u} {b = d} {c = e} p q h) g = name_good a n d p (word_good Colons d e tt q (type_good Quote Quote l e u b tt tt h g))

group_good : (l : FileLimits) (a : List Placed) (hs : List Head) (ts : List RawTm) (b c d : List Placed) → Parted (Reserved And) (HeadAt l) a hs b → WordAt (Reserved Where) b c → Parted Bar (TermAt l) c ts d → AllGood d → AllGood a
group_good l a hs ts b c d p q r g = parted_good (Reserved And) (HeadAt l) tt (head_good l) a hs b p (word_good (Reserved Where) b c tt q (parted_good Bar (TermAt l) tt (term_good l) c ts d r g))

body_good : (l : FileLimits) (k : Keyword) (a : List Placed) (x : Body) (b : List Placed) → BodyAt l k a x b → AllGood b → AllGood a
body_good l k a x b (definition {x = n} {t = t} {b = d} {c = e} p q r) g = name_good a n d p (word_good (Between Equal) d e tt q (term_good l e t b r g))
body_good l k a x b (typedef {x = x1} {y = x2} {z = x3} {n = x4} {b = b1} {c = b2} {d = b3} {e = b4} {f = b5} {g = b6} p1 p2 p3 p4 p5 p6 p7) g =
    name_good a x1 b1 p1 (word_good (Reserved Abs) b1 b2 tt p2 (name_good b2 x2 b3 p3 (word_good (Reserved Rep) b3 b4 tt p4 (name_good b4 x3 b5 p5 (word_good (Reserved By) b5 b6 tt p6 (name_good b6 x4 b p7 g))))))
body_good l k a x b (lemma {x = n} {t = t} {lines = xs} {b = b1} {c = b2} {d = b3} {e = b4} {f = b5} p q r s m v _) g =
    name_good a n b1 p (word_good Colon b1 b2 tt q (term_good l b2 t b3 r (word_good (Reserved Proof) b3 b4 tt s (many_good (LineAt l) (line_good l) b4 xs b5 m (word_good (Reserved End) b5 b tt v g)))))
body_good l k a x b (simp_rule {x = n} p) g = name_good a n b p g
body_good l k a x b (cong_rule {x = n} p) g = name_good a n b p g
body_good l k a x b (constructors {x = n} {cs = xs} {b = d} {c = e} p q r) g = name_good a n d p (word_good (Between Equal) d e tt q (parted_good Comma NameAt tt name_good e xs b r g))
body_good l k a x b (size_of {u = u} {t = t} {b = d} p q) g = type_good OpenBracket CloseBracket l a u d tt tt p (term_good l d t b q g)
body_good l k a x b (measure_of {u = u} {t = t} {b = d} p q) g = type_good OpenBracket CloseBracket l a u d tt tt p (term_good l d t b q g)
body_good l k a x b (fun_group {hs = hs} {ts = ts} {b = d} {c = e} p q r) g = group_good l a hs ts d e b p q r g
body_good l k a x b (function_group {hs = hs} {ts = ts} {b = d} {c = e} p q r) g = group_good l a hs ts d e b p q r g

command_good : (l : FileLimits) (a : List Placed) (x : Command) (b : List Placed) → CommandAt l a x b → AllGood b → AllGood a
command_good l a x b (command {k = k} {body = y} {a = d} h) g = (tt, body_good l k d y b h g)

pub file_good : (l : FileLimits) (words : List Placed) (xs : List Command) → IsFile l words xs → AllGood words
file_good l words xs h = many_good (CommandAt l) (command_good l) words xs [] h tt
