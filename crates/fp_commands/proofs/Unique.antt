-- The words of a file are one list of commands.
use Rattle.std.proofs.Common.{◌≡◌, ◌∙◌, ℕ, List, [], ◌∷◌, ◌⊎◌, inl, inr, refl, sym, ap, subst, arith}
use Rattle.fp_raw.specs.Raws.{RawTm, RawTyp}
use Rattle.fp_words.specs.declared.word.Infix.TheVariants.{Equal}
use Rattle.fp_words.specs.declared.word.Keyword.{Keyword}
use Rattle.fp_words.specs.declared.word.Keyword.TheVariants.{Abs, Rep, By, Proof, End, And, Where}
use Rattle.fp_words.specs.declared.word.Braces.TheVariants.{Full}
use Rattle.fp_words.specs.declared.word.Word.{Word}
use Rattle.fp_words.specs.declared.word.Word.TheVariants.{Name, TyVar, Number, Quote, Braces, Between, Comma, Colons, Colon, Bar, Semicolon, OpenBracket, CloseBracket, Reserved}
use Rattle.fp_words.specs.declared.word.Placed.{Placed}
use Rattle.fp_written.specs.Written.{tok, Tree, a_term, a_type}
use Rattle.fp_written.specs.declared.kinds.Kind.TheVariants.{Term as of_term, Ty as of_type}
use Rattle.fp_commands.specs.declared.command.Arg.{Arg}
use Rattle.fp_commands.specs.declared.command.Arg.TheVariants.{Term as term_argument, Ty as type_argument}
use Rattle.fp_commands.specs.declared.command.Line.{Line}
use Rattle.fp_commands.specs.declared.command.Head.{Head}
use Rattle.fp_commands.specs.declared.command.Body.{Body}
use Rattle.fp_commands.specs.declared.command.Body.TheVariants as body
use Rattle.fp_commands.specs.declared.command.Command.{Command}
use Rattle.fp_commands.specs.Grammar.{FileLimits, WordAt, word_at, WrittenBefore, TermAt, quoted, braced, TypeAt, enclosed, Many, no_more, one_more, After, after, Parted, parted, NameAt, name_at, IsWordArg, ArgAt, word_arg, term_arg, type_arg, LineAt, line, HeadAt, head, BodyAt, definition, typedef, lemma, simp_rule, cong_rule, constructors, size_of, measure_of, fun_group, function_group, CommandAt, command, IsFile}
use Rattle.fp_commands.proofs.Split.{Plain, head_is, tail_is, others_of, before_one}

-- the first word
abbrev word_of : List Placed → Word
word_of [] = Quote
word_of (x ∷ xs) = x.word

is_word : (w : Word) (a b : List Placed) → WordAt w a b → word_of a ≡ w
is_word w a b word_at = refl

is_rest : (w : Word) (a b : List Placed) → WordAt w a b → others_of a ≡ b
is_rest w a b word_at = refl

pub behind : (w v : Word) (a b c : List Placed) → WordAt w a b → WordAt v a c → b ≡ c
behind w v a b c x y = sym (is_rest w a b x) ∙ is_rest v a c y

same_word : (w v : Word) (a b c : List Placed) → WordAt w a b → WordAt v a c → w ≡ v
same_word w v a b c x y = sym (is_word w a b x) ∙ is_word v a c y

-- classes of words, by which what begins with them is told apart
abbrev class : Word → ℕ
class (Name n) = 0
class (TyVar n) = 0
class (Number n) = 0
class Quote = 1
class (Braces b) = 10
class Comma = 2
class Bar = 3
class Semicolon = 4
class OpenBracket = 5
class (Reserved And) = 8
class (Reserved Where) = 9
class (Reserved k) = 6
class _ = 7

class_is : (w : Word) (a b : List Placed) → WordAt w a b → class (word_of a) ≡ class w
class_is w a b x = ap (λ v. class v) (is_word w a b x)

-- that word doesn't stand there
abbrev Stops : Word → List Placed → Type 0
Stops w a = (b : List Placed) → WordAt w a b → ⊥

abbrev name_in : Word → List ℕ
name_in (Name n) = n
name_in _ = []

abbrev term_in : RawTm → Tree → RawTm
term_in d (a_term t) = t
term_in d (a_type u) = d

abbrev type_in : RawTyp → Tree → RawTyp
type_in d (a_term t) = d
type_in d (a_type u) = u

abbrev full_in : RawTm → Word → RawTm
full_in d (Braces (Full t)) = t
full_in d _ = d

abbrev Same : {T : Type 0} → T → T → List Placed → List Placed → Type 0
Same x y b c = (x ≡ y) × (b ≡ c)

pub name_one : (a : List Placed) (x y : List ℕ) (b c : List Placed) → NameAt a x b → NameAt a y c → Same x y b c
name_one a x y b c (name_at p) (name_at q) = (ap (λ w. name_in w) (same_word (Name x) (Name y) a b c p q), behind (Name x) (Name y) a b c p q)

pub term_one : (l m : FileLimits) (a : List Placed) (t u : RawTm) (b c : List Placed) → TermAt l a t b → TermAt m a u c → Same t u b c
term_one l m a t u b c (quoted {b = d} p x) (quoted {b = e} q y) =
    let here = behind Quote Quote a d e p q in
    let r = before_one Quote l.terms m.terms of_term e (a_term t) (a_term u) b c (λ h. h) (subst (λ z. WrittenBefore Quote l.terms of_term z (a_term t) b) here x) y in
    (ap (λ z. term_in t z) r.0, r.1)
term_one l m a t u b c (quoted {b = d} p x) (braced q) = absurd (omega (arith, class_is Quote a d p, class_is (Braces (Full u)) a c q))
term_one l m a t u b c (braced p) (quoted {b = e} q y) = absurd (omega (arith, class_is (Braces (Full t)) a b p, class_is Quote a e q))
term_one l m a t u b c (braced p) (braced q) = (ap (λ w. full_in t w) (same_word (Braces (Full t)) (Braces (Full u)) a b c p q), behind (Braces (Full t)) (Braces (Full u)) a b c p q)

pub type_one : (opens closes : Word) (l m : FileLimits) (a : List Placed) (t u : RawTyp) (b c : List Placed) → (Plain closes → ⊥) → TypeAt opens closes l a t b → TypeAt opens closes m a u c → Same t u b c
type_one opens closes l m a t u b c never (enclosed {b = d} p x) (enclosed {b = e} q y) =
    let here = behind opens opens a d e p q in
    let r = before_one closes l.types m.types of_type e (a_type t) (a_type u) b c never (subst (λ z. WrittenBefore closes l.types of_type z (a_type t) b) here x) y in
    (ap (λ z. type_in t z) r.0, r.1)

word_arg_one : (l m : FileLimits) (w : Word) (x y : Arg) → IsWordArg l w x → IsWordArg m w y → x ≡ y
word_arg_one l m (Number n) x y i j = i.0 ∙ sym j.0
word_arg_one l m (Name n) x y i j = i ∙ sym j
word_arg_one l m (TyVar n) x y i j = i ∙ sym j
word_arg_one l m _ x y i j = absurd i

word_arg_class : (l : FileLimits) (w : Word) (x : Arg) → IsWordArg l w x → class w ≡ 0
word_arg_class l (Number n) x i = refl
word_arg_class l (Name n) x i = refl
word_arg_class l (TyVar n) x i = refl
word_arg_class l _ x i = absurd i

-- a term begins with a quote or with braces
term_class : (l : FileLimits) (a : List Placed) (t : RawTm) (b : List Placed) → TermAt l a t b → (class (word_of a) ≡ 1) ⊎ (class (word_of a) ≡ 10)
term_class l a t b (quoted {b = d} p x) = inl (class_is Quote a d p)
term_class l a t b (braced p) = inr (class_is (Braces (Full t)) a b p)

type_class : (last : Word) (l : FileLimits) (a : List Placed) (u : RawTyp) (b : List Placed) → TypeAt OpenBracket last l a u b → class (word_of a) ≡ 5
type_class last l a u b (enclosed {b = d} p x) = class_is OpenBracket a d p

not_both : {T : Type 0} (n k : ℕ) → (n ≡ 1) ⊎ (n ≡ 10) → n ≡ k → (k ≡ 0) ⊎ (k ≡ 5) → T
not_both n k (inl p) e (inl f) = absurd (omega (arith, p, e, f))
not_both n k (inl p) e (inr f) = absurd (omega (arith, p, e, f))
not_both n k (inr p) e (inl f) = absurd (omega (arith, p, e, f))
not_both n k (inr p) e (inr f) = absurd (omega (arith, p, e, f))

pub arg_one : (l m : FileLimits) (a : List Placed) (x y : Arg) (b c : List Placed) → ArgAt l a x b → ArgAt m a y c → Same x y b c
arg_one l m a x y b c (word_arg {w = w} p i) (word_arg {w = v} q j) =
    let e = same_word w v a b c p q in
    (word_arg_one l m v x y (subst (λ z. IsWordArg l z x) e i) j, behind w v a b c p q)
arg_one l m a x y b c (word_arg {w = w} p i) (term_arg {t = u} h) = not_both (class (word_of a)) 0 (term_class m a u c h) (class_is w a b p ∙ word_arg_class l w x i) (inl refl)
arg_one l m a x y b c (word_arg {w = w} p i) (type_arg {u = u} h) = absurd (omega (arith, class_is w a b p ∙ word_arg_class l w x i, type_class CloseBracket m a u c h))
arg_one l m a x y b c (term_arg {t = t} h) (word_arg {w = v} q j) = not_both (class (word_of a)) 0 (term_class l a t b h) (class_is v a c q ∙ word_arg_class m v y j) (inl refl)
arg_one l m a x y b c (term_arg {t = t} h) (term_arg {t = u} g) = let r = term_one l m a t u b c h g in (ap (λ z. term_argument z) r.0, r.1)
arg_one l m a x y b c (term_arg {t = t} h) (type_arg {u = u} g) = not_both (class (word_of a)) 5 (term_class l a t b h) (type_class CloseBracket m a u c g) (inr refl)
arg_one l m a x y b c (type_arg {u = t} h) (word_arg {w = v} q j) = absurd (omega (arith, class_is v a c q ∙ word_arg_class m v y j, type_class CloseBracket l a t b h))
arg_one l m a x y b c (type_arg {u = t} h) (term_arg {t = u} g) = not_both (class (word_of a)) 5 (term_class m a u c g) (type_class CloseBracket l a t b h) (inr refl)
arg_one l m a x y b c (type_arg {u = t} h) (type_arg {u = u} g) = let r = type_one OpenBracket CloseBracket l m a t u b c (λ z. z) h g in (ap (λ z. type_argument z) r.0, r.1)

-- no argument begins with a semicolon
arg_apart : (l : FileLimits) (a : List Placed) (x : Arg) (b c : List Placed) → ArgAt l a x b → WordAt Semicolon a c → ⊥
arg_apart l a x b c (word_arg {w = w} p i) q = omega (arith, class_is w a b p ∙ word_arg_class l w x i, class_is Semicolon a c q)
arg_apart l a x b c (term_arg {t = t} h) q = semicolon_no (class (word_of a)) (term_class l a t b h) (class_is Semicolon a c q)
  where
    semicolon_no : (n : ℕ) → (n ≡ 1) ⊎ (n ≡ 10) → n ≡ 4 → ⊥
    semicolon_no n (inl p) e = omega (arith, p, e)
    semicolon_no n (inr p) e = omega (arith, p, e)
arg_apart l a x b c (type_arg {u = u} h) q = omega (arith, type_class CloseBracket l a u b h, class_is Semicolon a c q)

-- many up to a word with which none begins
pub many_until : {T : Type 0} (P Q : List Placed → T → List Placed → Type 0) (w : Word) → ((a : List Placed) (x y : T) (b c : List Placed) → P a x b → Q a y c → Same x y b c)
    → ((a : List Placed) (x : T) (b c : List Placed) → P a x b → WordAt w a c → ⊥) → ((a : List Placed) (x : T) (b c : List Placed) → Q a x b → WordAt w a c → ⊥)
    → (a : List Placed) (xs ys : List T) (b c d e : List Placed) → Many P a xs b → WordAt w b c → Many Q a ys d → WordAt w d e → Same xs ys c e
many_until P Q w one left right a xs ys b c d e no_more p no_more q = (refl, behind w w a c e p q)
many_until P Q w one left right a xs ys b c d e no_more p (one_more {x = y} {b = g} h n) q = absurd (right a y g c h p)
many_until P Q w one left right a xs ys b c d e (one_more {x = x} {b = f} h m) p no_more q = absurd (left a x f e h q)
many_until P Q w one left right a xs ys b c d e (one_more {x = x} {xs = us} {b = f} h m) p (one_more {x = y} {xs = vs} {b = g} k n) q =
    let s = one a x y f g h k in
    let r = many_until P Q w one left right g us vs b c d e (subst (λ z. Many P z us b) s.1 m) p n q in
    (ap (λ z. z ∷ us) s.0 ∙ ap (λ zs. y ∷ zs) r.0, r.1)

-- many behind a word each, where that word doesn't stand behind them
pub many_after : {T : Type 0} (P Q : List Placed → T → List Placed → Type 0) (w : Word) → ((a : List Placed) (x y : T) (b c : List Placed) → P a x b → Q a y c → Same x y b c)
    → (a : List Placed) (xs ys : List T) (b c : List Placed) → Many (After w P) a xs b → Many (After w Q) a ys c → Stops w b → Stops w c → Same xs ys b c
many_after P Q w one a xs ys b c no_more no_more s t = (refl, refl)
many_after P Q w one a xs ys b c no_more (one_more (after {b = g} q h) n) s t = absurd (s g q)
many_after P Q w one a xs ys b c (one_more (after {b = f} p h) m) no_more s t = absurd (t f p)
many_after P Q w one a xs ys b c (one_more {x = x} {xs = us} {b = f} (after {b = i} p h) m) (one_more {x = y} {xs = vs} {b = g} (after {b = j} q k) n) s t =
    let e = behind w w a i j p q in
    let o = one j x y f g (subst (λ z. P z x f) e h) k in
    let r = many_after P Q w one g us vs b c (subst (λ z. Many (After w P) z us b) o.1 m) n s t in
    (ap (λ z. z ∷ us) o.0 ∙ ap (λ zs. y ∷ zs) r.0, r.1)

pub parted_sole : {T : Type 0} (P Q : List Placed → T → List Placed → Type 0) (w : Word) → ((a : List Placed) (x y : T) (b c : List Placed) → P a x b → Q a y c → Same x y b c)
    → (a : List Placed) (xs ys : List T) (b c : List Placed) → Parted w P a xs b → Parted w Q a ys c → Stops w b → Stops w c → Same xs ys b c
parted_sole P Q w one a xs ys b c (parted {x = x} {xs = us} {b = f} h m) (parted {x = y} {xs = vs} {b = g} k n) s t =
    let o = one a x y f g h k in
    let r = many_after P Q w one g us vs b c (subst (λ z. Many (After w P) z us b) o.1 m) n s t in
    (ap (λ z. z ∷ us) o.0 ∙ ap (λ zs. y ∷ zs) r.0, r.1)

abbrev line_of : List ℕ → List Arg → Line
line_of x args = record { name = x; args = args }

pub line_one : (l m : FileLimits) (a : List Placed) (x y : Line) (b c : List Placed) → LineAt l a x b → LineAt m a y c → Same x y b c
line_one l m a x y b c (line {x = n} {args = xs} {b = d} {c = e} p r s) (line {x = k} {args = ys} {b = f} {c = g} q t u) =
    let o = name_one a n k d f p q in
    let z = many_until (ArgAt l) (ArgAt m) Semicolon (arg_one l m) (arg_apart l) (arg_apart m) f xs ys e b g c (subst (λ v. Many (ArgAt l) v xs e) o.1 r) s t u in
    (ap (λ v. line_of v xs) o.0 ∙ ap (λ v. line_of k v) z.0, z.1)

line_class : (l : FileLimits) (a : List Placed) (x : Line) (b : List Placed) → LineAt l a x b → class (word_of a) ≡ 0
line_class l a x b (line {x = n} {b = d} (name_at p) r s) = class_is (Name n) a d p

line_apart : (l : FileLimits) (a : List Placed) (x : Line) (b c : List Placed) → LineAt l a x b → WordAt (Reserved End) a c → ⊥
line_apart l a x b c h q = omega (arith, line_class l a x b h, class_is (Reserved End) a c q)

abbrev head_of : List ℕ → RawTyp → Head
head_of x u = record { name = x; ty = u }

pub head_one : (l m : FileLimits) (a : List Placed) (x y : Head) (b c : List Placed) → HeadAt l a x b → HeadAt m a y c → Same x y b c
head_one l m a x y b c (head {x = n} {u = t} {b = d} {c = e} p r s) (head {x = k} {u = u} {b = f} {c = g} q i j) =
    let o = name_one a n k d f p q in
    let v = behind Colons Colons f e g (subst (λ z. WordAt Colons z e) o.1 r) i in
    let w = type_one Quote Quote l m g t u b c (λ z. z) (subst (λ z. TypeAt Quote Quote l z t b) v s) j in
    (ap (λ z. head_of z t) o.0 ∙ ap (λ z. head_of k z) w.0, w.1)

where_stops : (b c : List Placed) → WordAt (Reserved Where) b c → Stops (Reserved And) b
where_stops b c p d q = omega (arith, class_is (Reserved Where) b c p, class_is (Reserved And) b d q)

group_one : (l m : FileLimits) (a : List Placed) (hs ks : List Head) (ts us : List RawTm) (b c d e f g : List Placed) → Parted (Reserved And) (HeadAt l) a hs b → WordAt (Reserved Where) b c → Parted Bar (TermAt l) c ts d
    → Parted (Reserved And) (HeadAt m) a ks e → WordAt (Reserved Where) e f → Parted Bar (TermAt m) f us g → Stops Bar d → Stops Bar g → (hs ≡ ks) × (ts ≡ us) × (d ≡ g)
group_one l m a hs ks ts us b c d e f g p q r i j k s t =
    let o = parted_sole (HeadAt l) (HeadAt m) (Reserved And) (head_one l m) a hs ks b e p i (where_stops b c q) (where_stops e f j) in
    let v = behind (Reserved Where) (Reserved Where) e c f (subst (λ z. WordAt (Reserved Where) z c) o.1 q) j in
    let w = parted_sole (TermAt l) (TermAt m) Bar (term_one l m) f ts us d g (subst (λ z. Parted Bar (TermAt l) z ts d) v r) k s t in
    (o.0, w.0, w.1)

pub body_one : (l m : FileLimits) (k : Keyword) (a : List Placed) (x y : Body) (b c : List Placed) → BodyAt l k a x b → BodyAt m k a y c → Stops Comma b → Stops Comma c → Stops Bar b → Stops Bar c → Same x y b c
body_one l m k a x y b c (definition {x = n} {t = t} {b = d} {c = e} p q r) (definition {x = o} {t = u} {b = f} {c = g} i j h) _ _ _ _ =
    let s = name_one a n o d f p i in
    let v = behind (Between Equal) (Between Equal) f e g (subst (λ z. WordAt (Between Equal) z e) s.1 q) j in
    let w = term_one l m g t u b c (subst (λ z. TermAt l z t b) v r) h in
    (ap (λ z. body.Definition z t) s.0 ∙ ap (λ z. body.Definition o z) w.0, w.1)
body_one l m k a x y b c (typedef {x = x1} {y = x2} {z = x3} {n = x4} {b = b1} {c = b2} {d = b3} {e = b4} {f = b5} {g = b6} p1 p2 p3 p4 p5 p6 p7) (typedef {x = y1} {y = y2} {z = y3} {n = y4} {b = c1} {c = c2} {d = c3} {e = c4} {f = c5} {g = c6} q1 q2 q3 q4 q5 q6 q7) _ _ _ _ =
    let s1 = name_one a x1 y1 b1 c1 p1 q1 in
    let s2 = behind (Reserved Abs) (Reserved Abs) c1 b2 c2 (subst (λ z. WordAt (Reserved Abs) z b2) s1.1 p2) q2 in
    let s3 = name_one c2 x2 y2 b3 c3 (subst (λ z. NameAt z x2 b3) s2 p3) q3 in
    let s4 = behind (Reserved Rep) (Reserved Rep) c3 b4 c4 (subst (λ z. WordAt (Reserved Rep) z b4) s3.1 p4) q4 in
    let s5 = name_one c4 x3 y3 b5 c5 (subst (λ z. NameAt z x3 b5) s4 p5) q5 in
    let s6 = behind (Reserved By) (Reserved By) c5 b6 c6 (subst (λ z. WordAt (Reserved By) z b6) s5.1 p6) q6 in
    let s7 = name_one c6 x4 y4 b c (subst (λ z. NameAt z x4 b) s6 p7) q7 in
    (ap (λ z. body.Typedef z x2 x3 x4) s1.0 ∙ (ap (λ z. body.Typedef y1 z x3 x4) s3.0 ∙ (ap (λ z. body.Typedef y1 y2 z x4) s5.0 ∙ ap (λ z. body.Typedef y1 y2 y3 z) s7.0)), s7.1)
body_one l m k a x y b c (lemma {x = x1} {t = t} {lines = xs} {b = b1} {c = b2} {d = b3} {e = b4} {f = b5} p1 p2 p3 p4 p5 p6 _) (lemma {x = y1} {t = u} {lines = ys} {b = c1} {c = c2} {d = c3} {e = c4} {f = c5} q1 q2 q3 q4 q5 q6 _) _ _ _ _ =
    let s1 = name_one a x1 y1 b1 c1 p1 q1 in
    let s2 = behind Colon Colon c1 b2 c2 (subst (λ z. WordAt Colon z b2) s1.1 p2) q2 in
    let s3 = term_one l m c2 t u b3 c3 (subst (λ z. TermAt l z t b3) s2 p3) q3 in
    let s4 = behind (Reserved Proof) (Reserved Proof) c3 b4 c4 (subst (λ z. WordAt (Reserved Proof) z b4) s3.1 p4) q4 in
    let s5 = many_until (LineAt l) (LineAt m) (Reserved End) (line_one l m) (line_apart l) (line_apart m) c4 xs ys b5 b c5 c (subst (λ z. Many (LineAt l) z xs b5) s4 p5) p6 q5 q6 in
    (ap (λ z. body.Lemma z t xs) s1.0 ∙ (ap (λ z. body.Lemma y1 z xs) s3.0 ∙ ap (λ z. body.Lemma y1 u z) s5.0), s5.1)
body_one l m k a x y b c (simp_rule {x = n} p) (simp_rule {x = o} q) _ _ _ _ = let s = name_one a n o b c p q in (ap (λ z. body.Simp z) s.0, s.1)
body_one l m k a x y b c (cong_rule {x = n} p) (cong_rule {x = o} q) _ _ _ _ = let s = name_one a n o b c p q in (ap (λ z. body.Cong z) s.0, s.1)
body_one l m k a x y b c (constructors {x = n} {cs = xs} {b = d} {c = e} p q r) (constructors {x = o} {cs = ys} {b = f} {c = g} i j h) s t _ _ =
    let u = name_one a n o d f p i in
    let v = behind (Between Equal) (Between Equal) f e g (subst (λ z. WordAt (Between Equal) z e) u.1 q) j in
    let w = parted_sole NameAt NameAt Comma name_one g xs ys b c (subst (λ z. Parted Comma NameAt z xs b) v r) h s t in
    (ap (λ z. body.Constructors z xs) u.0 ∙ ap (λ z. body.Constructors o z) w.0, w.1)
body_one l m k a x y b c (size_of {u = u} {t = t} {b = d} p q) (size_of {u = v} {t = w} {b = e} r s) _ _ _ _ =
    let i = type_one OpenBracket CloseBracket l m a u v d e (λ z. z) p r in
    let j = term_one l m e t w b c (subst (λ z. TermAt l z t b) i.1 q) s in
    (ap (λ z. body.Size z t) i.0 ∙ ap (λ z. body.Size v z) j.0, j.1)
body_one l m k a x y b c (measure_of {u = u} {t = t} {b = d} p q) (measure_of {u = v} {t = w} {b = e} r s) _ _ _ _ =
    let i = type_one OpenBracket CloseBracket l m a u v d e (λ z. z) p r in
    let j = term_one l m e t w b c (subst (λ z. TermAt l z t b) i.1 q) s in
    (ap (λ z. body.Measure z t) i.0 ∙ ap (λ z. body.Measure v z) j.0, j.1)
body_one l m k a x y b c (fun_group {hs = hs} {ts = ts} {b = d} {c = e} p q r) (fun_group {hs = ks} {ts = us} {b = f} {c = g} i j h) _ _ s t =
    let o = group_one l m a hs ks ts us d e b f g c p q r i j h s t in
    (ap (λ z. body.Fun z ts) o.0 ∙ ap (λ z. body.Fun ks z) o.1, o.2)
body_one l m k a x y b c (function_group {hs = hs} {ts = ts} {b = d} {c = e} p q r) (function_group {hs = ks} {ts = us} {b = f} {c = g} i j h) _ _ s t =
    let o = group_one l m a hs ks ts us d e b f g c p q r i j h s t in
    (ap (λ z. body.Function z ts) o.0 ∙ ap (λ z. body.Function ks z) o.1, o.2)

-- a command, with its word by itself
record Commanded (l : FileLimits) (a : List Placed) (x : Command) (b : List Placed) : Type 0 where
  pub k : Keyword
  pub rest : List Placed
  pub is : a ≡ tok (Reserved k) x.at ∷ rest
  pub body : BodyAt l k rest x.body b

commanded : (l : FileLimits) (a : List Placed) (x : Command) (b : List Placed) → CommandAt l a x b → Commanded l a x b
commanded l a x b (command {k = k} {a = rest} h) = record { k = k; rest = rest; is = refl; body = h }

abbrev keyword_in : Keyword → Word → Keyword
keyword_in d (Reserved k) = k
keyword_in d _ = d

abbrev command_of : ℕ → Body → Command
command_of at body = record { at = at; body = body }

pub command_one : (l m : FileLimits) (a : List Placed) (x y : Command) (b c : List Placed) → CommandAt l a x b → CommandAt m a y c → Stops Comma b → Stops Comma c → Stops Bar b → Stops Bar c → Same x y b c
command_one l m a x y b c g h s t u v =
    let p = commanded l a x b g in
    let q = commanded m a y c h in
    let e = sym p.is ∙ q.is in
    let first = head_is _ _ p.rest q.rest e in
    let same : p.k ≡ q.k = ap (λ (z : Placed). keyword_in p.k z.word) first in
    let place : x.at ≡ y.at = ap (λ (z : Placed). z.at) first in
    let here : BodyAt l q.k q.rest x.body b = subst (λ z. BodyAt l z q.rest x.body b) same (subst (λ z. BodyAt l p.k z x.body b) (tail_is _ _ p.rest q.rest e) p.body) in
    let r = body_one l m q.k q.rest x.body y.body b c here q.body s t u v in
    (ap (λ z. command_of z x.body) place ∙ ap (λ z. command_of y.at z) r.0, r.1)

reserved_class : (k : Keyword) → (class (Reserved k) ≡ 6) ⊎ ((class (Reserved k) ≡ 8) ⊎ (class (Reserved k) ≡ 9))
reserved_class And = inr (inl refl)
reserved_class Where = inr (inr refl)
reserved_class _ = inl refl

-- where a file goes on, no comma or bar stands
file_stops : (l : FileLimits) (w : Word) (a : List Placed) (xs : List Command) (b : List Placed) → Many (CommandAt l) a xs b → b ≡ [] → (class w ≡ 2) ⊎ (class w ≡ 3) → Stops w a
file_stops l w a xs b no_more e k c p = none (class w) k (sym (class_is w a c p) ∙ ap (λ z. class (word_of z)) e)
  where
    none : (n : ℕ) → (n ≡ 2) ⊎ (n ≡ 3) → n ≡ 1 → ⊥
    none n (inl f) g = omega (arith, f, g)
    none n (inr f) g = omega (arith, f, g)
file_stops l w a xs b (one_more {x = x} {b = d} h m) e k c p =
    let q = commanded l a x d h in
    other (class w) (class (Reserved q.k)) k (reserved_class q.k) (sym (class_is w a c p) ∙ ap (λ z. class (word_of z)) q.is)
  where
    other : (n i : ℕ) → (n ≡ 2) ⊎ (n ≡ 3) → (i ≡ 6) ⊎ ((i ≡ 8) ⊎ (i ≡ 9)) → n ≡ i → ⊥
    other n i (inl f) (inl g) h = omega (arith, f, g, h)
    other n i (inl f) (inr (inl g)) h = omega (arith, f, g, h)
    other n i (inl f) (inr (inr g)) h = omega (arith, f, g, h)
    other n i (inr f) (inl g) h = omega (arith, f, g, h)
    other n i (inr f) (inr (inl g)) h = omega (arith, f, g, h)
    other n i (inr f) (inr (inr g)) h = omega (arith, f, g, h)

abbrev counted : List Placed → ℕ
counted [] = 0
counted (x ∷ xs) = 1

nothing : (p : Placed) (ps : List Placed) → [] ≡ p ∷ ps → ⊥
nothing p ps e = let f : 0 ≡ 1 = ap (λ l. counted l) e in omega (arith, f)

commands_one : (l m : FileLimits) (a : List Placed) (xs ys : List Command) (b c : List Placed) → Many (CommandAt l) a xs b → Many (CommandAt m) a ys c → b ≡ [] → c ≡ [] → xs ≡ ys
commands_one l m a xs ys b c no_more no_more e f = refl
commands_one l m a xs ys b c no_more (one_more {x = y} {b = g} h n) e f = absurd (nothing _ _ (sym e ∙ (commanded m a y g h).is))
commands_one l m a xs ys b c (one_more {x = x} {b = d} h k) no_more e f = absurd (nothing _ _ (sym f ∙ (commanded l a x d h).is))
commands_one l m a xs ys b c (one_more {x = x} {xs = us} {b = d} h k) (one_more {x = y} {xs = vs} {b = g} i n) e f =
    let s = command_one l m a x y d g h i (file_stops l Comma d us b k e (inl refl)) (file_stops m Comma g vs c n f (inl refl)) (file_stops l Bar d us b k e (inr refl)) (file_stops m Bar g vs c n f (inr refl)) in
    let r = commands_one l m g us vs b c (subst (λ z. Many (CommandAt l) z us b) s.1 k) n e f in
    ap (λ z. z ∷ us) s.0 ∙ ap (λ zs. y ∷ zs) r

pub one_file : (l m : FileLimits) (words : List Placed) (xs ys : List Command) → IsFile l words xs → IsFile m words ys → xs ≡ ys
one_file l m words xs ys h k = commands_one l m words xs ys [] [] h k refl refl
