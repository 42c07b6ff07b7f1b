-- The grammar of files over words: each production says with which words a list begins, what they stand for, and what is left behind them.
use Rattle.std.specs.Prelude.{◌≡◌, ℕ, List, [], ◌∷◌, ◌++◌, length, Option, Some, None}
use Rattle.fp_raw.specs.Raws.{RawTm, RawTyp}
use Rattle.fp_words.specs.declared.word.Infix.TheVariants.{Equal}
use Rattle.fp_words.specs.declared.word.Keyword.{Keyword}
use Rattle.fp_words.specs.declared.word.Keyword.TheVariants.{Definition, Typedef, Lemma, Simp, Cong, Constructors, Size, Measure, Fun, Function, And, Where, Proof, End, Abs, Rep, By}
use Rattle.fp_words.specs.declared.word.Braces.TheVariants.{Full}
use Rattle.fp_words.specs.declared.word.Word.{Word}
use Rattle.fp_words.specs.declared.word.Word.TheVariants.{Name, TyVar, Number, Quote, Braces, Between, Comma, Colons, Colon, Bar, Semicolon, OpenBracket, CloseBracket, Reserved}
use Rattle.fp_words.specs.declared.word.Placed.{Placed}
use Rattle.fp_written.specs.declared.kinds.Kind.{Kind}
use Rattle.fp_written.specs.declared.kinds.Kind.TheVariants.{Term as of_term, Ty as of_type}
use Rattle.fp_written.specs.declared.kinds.Limits.{Limits}
use Rattle.fp_written.specs.Written.{Reads, Tree, a_term, a_type, Keeps}
use Rattle.fp_commands.specs.declared.command.Arg.{Arg}
use Rattle.fp_commands.specs.declared.command.Arg.TheVariants.{Number as a_number, Name as a_name, TyVar as a_variable, Term as term_argument, Ty as type_argument}
use Rattle.fp_commands.specs.declared.command.Line.{Line}
use Rattle.fp_commands.specs.declared.command.Head.{Head}
use Rattle.fp_commands.specs.declared.command.Body.{Body}
use Rattle.fp_commands.specs.declared.command.Body.TheVariants.{Definition as a_definition, Typedef as a_typedef, Lemma as a_lemma, Simp as a_simp, Cong as a_cong, Constructors as some_constructors, Size as a_size, Measure as a_measure, Fun as a_fun, Function as a_function}
use Rattle.fp_commands.specs.declared.command.Command.{Command}

-- what is kept of the limits: those of terms and of types, the greatest number of lines, and the greatest number of a line
pub record FileLimits : Type 0 where
  pub terms : Limits
  pub types : Limits
  pub lines : Option ℕ
  pub number : Option ℕ

-- the word, wherever it stands
pub data WordAt (w : Word) : List Placed → List Placed → Type 0 where
  word_at : {at : ℕ} {rest : List Placed} → WordAt w (record { word = w; at = at } ∷ rest) rest

-- a written term or type
pub data WrittenAt (l : Limits) (k : Kind) : List Placed → Tree → List Placed → Type 0 where
  written : {words rest : List Placed} {tree : Tree} → Reads l k words tree → WrittenAt l k (words ++ rest) tree rest

-- a written term or type, and the word behind it
pub data WrittenBefore (closes : Word) (l : Limits) (k : Kind) : List Placed → Tree → List Placed → Type 0 where
  written_before : {tree : Tree} {a b c : List Placed} → WrittenAt l k a tree b → WordAt closes b c → WrittenBefore closes l k a tree c

-- term = QUOTE .. QUOTE | BRACES
pub data TermAt (l : FileLimits) : List Placed → RawTm → List Placed → Type 0 where
  quoted : {t : RawTm} {a b c : List Placed} → WordAt Quote a b → WrittenBefore Quote l.terms of_term b (a_term t) c → TermAt l a t c
  braced : {t : RawTm} {a b : List Placed} → WordAt (Braces (Full t)) a b → TermAt l a t b

-- a type between two words
pub data TypeAt (opens closes : Word) (l : FileLimits) : List Placed → RawTyp → List Placed → Type 0 where
  enclosed : {u : RawTyp} {a b c : List Placed} → WordAt opens a b → WrittenBefore closes l.types of_type b (a_type u) c → TypeAt opens closes l a u c

-- { P }
pub data Many {T : Type 0} (P : List Placed → T → List Placed → Type 0) : List Placed → List T → List Placed → Type 0 where
  no_more : {a : List Placed} → Many P a [] a
  one_more : {x : T} {xs : List T} {a b c : List Placed} → P a x b → Many P b xs c → Many P a (x ∷ xs) c

-- the word, then P
pub data After {T : Type 0} (w : Word) (P : List Placed → T → List Placed → Type 0) : List Placed → T → List Placed → Type 0 where
  after : {x : T} {a b c : List Placed} → WordAt w a b → P b x c → After w P a x c

-- P { w P }
pub data Parted {T : Type 0} (w : Word) (P : List Placed → T → List Placed → Type 0) : List Placed → List T → List Placed → Type 0 where
  parted : {x : T} {xs : List T} {a b c : List Placed} → P a x b → Many (After w P) b xs c → Parted w P a (x ∷ xs) c

pub data NameAt : List Placed → List ℕ → List Placed → Type 0 where
  name_at : {x : List ℕ} {a b : List Placed} → WordAt (Name x) a b → NameAt a x b

-- an argument that is one word
abbrev pub IsWordArg : FileLimits → Word → Arg → Type 0
IsWordArg l (Number n) x = (x ≡ a_number n) × Keeps l.number n
IsWordArg l (Name n) x = x ≡ a_name n
IsWordArg l (TyVar n) x = x ≡ a_variable n
IsWordArg l _ x = ⊥

-- arg = NUMBER | NAME | TYVAR | term | "[" type "]"
pub data ArgAt (l : FileLimits) : List Placed → Arg → List Placed → Type 0 where
  word_arg : {w : Word} {x : Arg} {a b : List Placed} → WordAt w a b → IsWordArg l w x → ArgAt l a x b
  term_arg : {t : RawTm} {a b : List Placed} → TermAt l a t b → ArgAt l a (term_argument t) b
  type_arg : {u : RawTyp} {a b : List Placed} → TypeAt OpenBracket CloseBracket l a u b → ArgAt l a (type_argument u) b

-- line ";" = NAME { arg } ";"
pub data LineAt (l : FileLimits) : List Placed → Line → List Placed → Type 0 where
  line : {x : List ℕ} {args : List Arg} {a b c d : List Placed} → NameAt a x b → Many (ArgAt l) b args c → WordAt Semicolon c d → LineAt l a (record { name = x; args = args }) d

-- head = NAME "::" QUOTE type QUOTE
pub data HeadAt (l : FileLimits) : List Placed → Head → List Placed → Type 0 where
  head : {x : List ℕ} {u : RawTyp} {a b c d : List Placed} → NameAt a x b → WordAt Colons b c → TypeAt Quote Quote l c u d → HeadAt l a (record { name = x; ty = u }) d

-- what follows the word of a command
pub data BodyAt (l : FileLimits) : Keyword → List Placed → Body → List Placed → Type 0 where
  -- NAME "=" term
  definition : {x : List ℕ} {t : RawTm} {a b c d : List Placed} → NameAt a x b → WordAt (Between Equal) b c → TermAt l c t d → BodyAt l Definition a (a_definition x t) d
  -- NAME "abs" NAME "rep" NAME "by" NAME
  typedef : {x y z n : List ℕ} {a b c d e f g h : List Placed} → NameAt a x b → WordAt (Reserved Abs) b c → NameAt c y d → WordAt (Reserved Rep) d e → NameAt e z f → WordAt (Reserved By) f g → NameAt g n h
      → BodyAt l Typedef a (a_typedef x y z n) h
  -- NAME ":" term "proof" { line ";" } "end"
  lemma : {x : List ℕ} {t : RawTm} {lines : List Line} {a b c d e f g : List Placed} → NameAt a x b → WordAt Colon b c → TermAt l c t d → WordAt (Reserved Proof) d e → Many (LineAt l) e lines f
      → WordAt (Reserved End) f g → Keeps l.lines (length lines) → BodyAt l Lemma a (a_lemma x t lines) g
  -- NAME
  simp_rule : {x : List ℕ} {a b : List Placed} → NameAt a x b → BodyAt l Simp a (a_simp x) b
  cong_rule : {x : List ℕ} {a b : List Placed} → NameAt a x b → BodyAt l Cong a (a_cong x) b
  -- NAME "=" NAME { "," NAME }
  constructors : {x : List ℕ} {cs : List (List ℕ)} {a b c d : List Placed} → NameAt a x b → WordAt (Between Equal) b c → Parted Comma NameAt c cs d → BodyAt l Constructors a (some_constructors x cs) d
  -- "[" type "]" term
  size_of : {u : RawTyp} {t : RawTm} {a b c : List Placed} → TypeAt OpenBracket CloseBracket l a u b → TermAt l b t c → BodyAt l Size a (a_size u t) c
  measure_of : {u : RawTyp} {t : RawTm} {a b c : List Placed} → TypeAt OpenBracket CloseBracket l a u b → TermAt l b t c → BodyAt l Measure a (a_measure u t) c
  -- head { "and" head } "where" term { "|" term }
  fun_group : {hs : List Head} {ts : List RawTm} {a b c d : List Placed} → Parted (Reserved And) (HeadAt l) a hs b → WordAt (Reserved Where) b c → Parted Bar (TermAt l) c ts d → BodyAt l Fun a (a_fun hs ts) d
  function_group : {hs : List Head} {ts : List RawTm} {a b c d : List Placed} → Parted (Reserved And) (HeadAt l) a hs b → WordAt (Reserved Where) b c → Parted Bar (TermAt l) c ts d → BodyAt l Function a (a_function hs ts) d

-- a command has the place of its word
pub data CommandAt (l : FileLimits) : List Placed → Command → List Placed → Type 0 where
  command : {k : Keyword} {at : ℕ} {body : Body} {a b : List Placed} → BodyAt l k a body b → CommandAt l (record { word = Reserved k; at = at } ∷ a) (record { at = at; body = body }) b

-- file = { command }
abbrev pub IsFile : FileLimits → List Placed → List Command → Type 0
IsFile l words commands = Many (CommandAt l) words commands []

-- the limits of files
abbrev pub file_limits : FileLimits
file_limits = record { terms = record { depth = Some 200; size = Some 10000; number = Some 255 }; types = record { depth = Some 200; size = None; number = None }; lines = Some 4000; number = Some 4000 }
