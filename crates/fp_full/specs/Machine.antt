-- Reading token by token, and byte by byte.
use Rattle.std.specs.Prelude.{◌+◌, ◌^◌, ℕ, suc, List, [], ◌∷◌, ◌++◌, length, Bool, true, false, not, ◌&&◌, ◌||◌, ◌==◌, nat_lt, nat_eq, ◌*◌, ◌-◌, cond, Option, Some, None, codes}
use Rattle.std.specs.Option.{option_and_then}
use Rattle.std.specs.List.{starts_with}
use Rattle.std.specs.Str.{bytes_eq, all_ascii_digits}
use Rattle.fp_term.specs.Names.{is_part_byte, is_name}
use Rattle.fp_term.specs.Types.{Typ, Typs, variable, applied, none, more}
use Rattle.fp_term.specs.Terms.{Tm, bound, free, constant, app, abs}
use Rattle.fp_full.specs.Tokens.{Token, left, right, equals, brace_left, brace_right, word, is_space}
use Rattle.fp_full.specs.Grammar.{Entry, is_reserved}
use Rattle.fp_full.specs.Texts.{Kind, of_term, of_statement, of_file, Parsed, a_term, a_statement, entries}

-- what a whole term is for
pub data Root : Type 0 where
  alone : Root
  hypothesis : List Tm → Root
  conclusion : List Tm → Root
  body : List Entry → ℕ → List ℕ → ℕ → Root

-- an open form that waits for a term: an application for its function, one for its argument, an abstraction for its body
pub data Frame : Type 0 where
  function_part : Frame
  argument_part : Tm → Frame
  body_part : Typ → Frame

-- the root, and the open forms, the innermost first
pub record Nest : Type 0 where
  pub root : Root
  pub frames : List Frame

-- what a whole type is for
pub data Use : Type 0 where
  free_type : List ℕ → Use
  constant_type : List ℕ → Use
  bound_type : Use

-- a type that is open, with its arguments so far
pub record Partial : Type 0 where
  pub name : List ℕ
  pub args : List Typ

-- what is due next
pub data State : Type 0 where
  term_due : Nest → State
  form_due : Nest → State
  number_due : Nest → State
  free_name_due : Nest → State
  constant_name_due : Nest → State
  type_due : Use → List Partial → Nest → State
  type_name_due : Use → List Partial → Nest → State
  close_due : Tm → Nest → State
  term_read : Tm → State
  statement_due : State
  s_due : State
  hypotheses_due : State
  h_due : State
  hypothesis_due : List Tm → State
  end_due : List Tm → Tm → State
  statement_read : List Tm → Tm → State
  entry_due : List Entry → State
  entry_name_due : List Entry → ℕ → State
  equals_due : List Entry → ℕ → List ℕ → State
  brace_due : List Entry → ℕ → List ℕ → State
  brace_close_due : List Entry → Entry → State

abbrev pub onto : List Typ → Typs → Typs
onto [] rest = rest
onto (t ∷ ts) rest = more t (onto ts rest)

abbrev pub typs : List Typ → Typs
typs ts = onto ts none

-- after a whole term
abbrev pub after_whole : Tm → Root → State
after_whole t alone = term_read t
after_whole t (hypothesis hyps) = hypothesis_due (hyps ++ t ∷ [])
after_whole t (conclusion hyps) = end_due hyps t
after_whole t (body es at name brace) = brace_close_due es (record { at = at; brace = brace; name = name; term = t })

abbrev pub after_part : Tm → Root → List Frame → State
after_part t root [] = after_whole t root
after_part t root (function_part ∷ fs) = term_due (record { root = root; frames = argument_part t ∷ fs })
after_part t root (argument_part f ∷ fs) = close_due (app f t) (record { root = root; frames = fs })
after_part t root (body_part s ∷ fs) = close_due (abs s t) (record { root = root; frames = fs })

-- after a term
abbrev pub after_term : Tm → Nest → State
after_term t nest = after_part t nest.root nest.frames

-- after a whole type
abbrev pub after_type : Typ → Use → Nest → State
after_type s (free_type name) nest = close_due (free name s) nest
after_type s (constant_type name) nest = close_due (constant name s) nest
after_type s bound_type nest = term_due (record { root = nest.root; frames = body_part s ∷ nest.frames })

-- after a type
abbrev pub after_argument : Typ → Use → List Partial → Nest → State
after_argument s role [] nest = after_type s role nest
after_argument s role (p ∷ ps) nest = type_due role (record { name = p.name; args = p.args ++ s ∷ [] } ∷ ps) nest

abbrev pub closed_type : Use → List Partial → Nest → Option State
closed_type role [] nest = None
closed_type role (p ∷ ps) nest = Some (after_argument (applied p.name (typs p.args)) role ps nest)

-- after a type variable's word
abbrev pub variable_word : List ℕ → Use → List Partial → Nest → Option State
variable_word [] role ps nest = None
variable_word (b ∷ name) role ps nest = cond (b == 39 && is_name name) (Some (after_argument (variable name) role ps nest)) None

-- after the word of a form
abbrev pub form_byte : ℕ → Nest → Option State
form_byte b nest =
    cond (b == 98) (Some (number_due nest))
    (cond (b == 118) (Some (free_name_due nest))
    (cond (b == 99) (Some (constant_name_due nest))
    (cond (b == 97) (Some (term_due (record { root = nest.root; frames = function_part ∷ nest.frames })))
    (cond (b == 108) (Some (type_due bound_type [] nest)) None))))

abbrev pub form_word : List ℕ → Nest → Option State
form_word [] nest = None
form_word (b ∷ []) nest = form_byte b nest
form_word (b ∷ c ∷ bs) nest = None

-- the number that digits stand for, after the number of the digits before them
abbrev pub read_on : ℕ → List ℕ → ℕ
read_on n [] = n
read_on n (c ∷ cs) = read_on (10 * n + (c - 48)) cs

-- digits without a leading zero, of a number below 2^32
abbrev pub is_plain : List ℕ → Bool
is_plain [] = false
is_plain (c ∷ []) = true
is_plain (c ∷ d ∷ cs) = not (c == 48)

abbrev pub is_numeral : List ℕ → Bool
is_numeral w = is_plain w && all_ascii_digits w && nat_lt (read_on 0 w) (2 ^ 32)

unfoldable pub step : State → Token → ℕ → Option State
step (term_due nest) left at = Some (form_due nest)
step (form_due nest) (word w) at = form_word w nest
step (number_due nest) (word w) at = cond (is_numeral w) (Some (close_due (bound (read_on 0 w)) nest)) None
step (free_name_due nest) (word w) at = cond (is_name w) (Some (type_due (free_type w) [] nest)) None
step (constant_name_due nest) (word w) at = cond (is_name w) (Some (type_due (constant_type w) [] nest)) None
step (type_due role ps nest) (word w) at = variable_word w role ps nest
step (type_due role ps nest) left at = Some (type_name_due role ps nest)
step (type_due role ps nest) right at = closed_type role ps nest
step (type_name_due role ps nest) (word w) at = cond (is_name w) (Some (type_due role (record { name = w; args = [] } ∷ ps) nest)) None
step (close_due t nest) right at = Some (after_term t nest)
step statement_due left at = Some s_due
step s_due (word w) at = cond (bytes_eq w (codes "s")) (Some hypotheses_due) None
step hypotheses_due left at = Some h_due
step h_due (word w) at = cond (bytes_eq w (codes "h")) (Some (hypothesis_due [])) None
step (hypothesis_due hyps) left at = Some (form_due (record { root = hypothesis hyps; frames = [] }))
step (hypothesis_due hyps) right at = Some (term_due (record { root = conclusion hyps; frames = [] }))
step (end_due hyps t) right at = Some (statement_read hyps t)
step (entry_due es) (word w) at = cond (bytes_eq w (codes "definition")) (Some (entry_name_due es at)) None
step (entry_name_due es first) (word w) at = cond (is_name w && not (is_reserved w)) (Some (equals_due es first w)) None
step (equals_due es first name) equals at = Some (brace_due es first name)
step (brace_due es first name) brace_left at = Some (term_due (record { root = body es first name at; frames = [] }))
step (brace_close_due es e) brace_right at = Some (entry_due (es ++ e ∷ []))
step _ _ at = None

-- what was read, where the text may end
unfoldable pub finish : State → Option Parsed
finish (term_read t) = Some (a_term t)
finish (statement_read hyps t) = Some (a_statement hyps t)
finish (entry_due es) = Some (entries es)
finish _ = None

abbrev pub start : Kind → State
start of_term = term_due (record { root = alone; frames = [] })
start of_statement = statement_due
start of_file = entry_due []

abbrev pub is_variable_front : List ℕ → Bool
is_variable_front [] = false
is_variable_front (b ∷ []) = b == 39
is_variable_front (b ∷ c ∷ bs) = b == 39 && is_name (c ∷ bs)

abbrev pub is_form : List ℕ → Bool
is_form (b ∷ []) = b == 98 || b == 118 || b == 99 || b == 97 || b == 108
is_form _ = false

-- whether a word that may come there begins so
unfoldable pub could : State → List ℕ → Bool
could (form_due nest) w = is_form w
could (number_due nest) w = is_numeral w
could (free_name_due nest) w = is_name w
could (constant_name_due nest) w = is_name w
could (type_due role ps nest) w = is_variable_front w
could (type_name_due role ps nest) w = is_name w
could s_due w = bytes_eq w (codes "s")
could h_due w = bytes_eq w (codes "h")
could (entry_due es) w = starts_with nat_eq (codes "definition") w
could (entry_name_due es at) w = is_name w
could _ w = false

-- between tokens, or in a word
pub data Phase : Type 0 where
  between : State → Phase
  in_word : List ℕ → State → Phase

abbrev pub mark_of : ℕ → Option Token
mark_of b = cond (b == 40) (Some left) (cond (b == 41) (Some right) (cond (b == 61) (Some equals) (cond (b == 123) (Some brace_left) (cond (b == 125) (Some brace_right) None))))

abbrev pub waiting : Option State → Option Phase
waiting None = None
waiting (Some s) = Some (between s)

-- a further byte of a word
abbrev pub in_longer : List ℕ → State → Option Phase
in_longer w s = cond (could s w) (Some (in_word w s)) None

-- after the byte at that place, where no word is open
unfoldable pub from_between : State → ℕ → ℕ → Option Phase
from_between s b at =
    cond (is_space b) (Some (between s))
    (cond (is_part_byte b) (in_longer (b ∷ []) s)
    (option_and_then (λ token. waiting (step s token at)) (mark_of b)))

unfoldable pub next_phase : Phase → ℕ → ℕ → Option Phase
next_phase (between s) b at = from_between s b at
next_phase (in_word w s) b at =
    cond (is_part_byte b) (in_longer (w ++ b ∷ []) s)
    (option_and_then (λ next. from_between next b at) (step s (word w) (at - length w)))

abbrev pub run : ℕ → Phase → List ℕ → Option Phase
run at p [] = Some p
run at p (b ∷ bs) = option_and_then (λ next. run (suc at) next bs) (next_phase p b at)

-- what was read where the bytes end at that place
unfoldable pub ended_at : Phase → ℕ → Option Parsed
ended_at (between s) at = finish s
ended_at (in_word w s) at = option_and_then finish (step s (word w) (at - length w))

abbrev pub reads_from : ℕ → Phase → List ℕ → Option Parsed
reads_from at p bytes = option_and_then (λ last. ended_at last (at + length bytes)) (run at p bytes)

abbrev pub open_word : Phase → List ℕ
open_word (between s) = []
open_word (in_word w s) = w
