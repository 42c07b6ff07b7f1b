-- What the tokens from a state on spell.
use Rattle.std.proofs.Common.{◌≡◌, ℕ, List, [], ◌∷◌, ◌++◌, codes}
use Rattle.fp_term.specs.Terms.{Tm}
use Rattle.fp_full.specs.Tokens.{Token, left, right, equals, brace_right, word, Placed, tokens_of}
use Rattle.fp_full.specs.Grammar.{shown_type, shown, shown_all, shown_statement, Entry, SpellsAll}
use Rattle.fp_full.specs.Texts.{Parsed, a_term, a_statement, entries}
use Rattle.fp_full.specs.Machine.{Root, alone, hypothesis, conclusion, body, Frame, function_part, argument_part, body_part, Use, free_type, constant_type, bound_type, Partial, State, term_due, form_due, number_due, free_name_due, constant_name_due, type_due, type_name_due, close_due, term_read, statement_due, s_due, hypotheses_due, h_due, hypothesis_due, end_due, statement_read, entry_due, entry_name_due, equals_due, brace_due, brace_close_due}
use Rattle.fp_full.proofs.Shown.{shown_list, open_shown}

-- tokens, and then the rest
abbrev pub Before : Type 0
Before = List Token → List Token

-- the tokens so far of the open types, of the open forms, and of the form that the type is in
abbrev pub types_before : List Partial → Before
types_before [] rest = rest
types_before (p ∷ ps) rest = types_before ps (left ∷ word p.name ∷ shown_list p.args rest)

abbrev pub frames_before : List Frame → Before
frames_before [] rest = rest
frames_before (function_part ∷ fs) rest = frames_before fs (left ∷ word (codes "a") ∷ rest)
frames_before (argument_part f ∷ fs) rest = frames_before fs (left ∷ word (codes "a") ∷ shown f rest)
frames_before (body_part s ∷ fs) rest = frames_before fs (left ∷ word (codes "l") ∷ shown_type s rest)

abbrev pub form_before : Use → Before
form_before (free_type name) rest = left ∷ word (codes "v") ∷ word name ∷ rest
form_before (constant_type name) rest = left ∷ word (codes "c") ∷ word name ∷ rest
form_before bound_type rest = left ∷ word (codes "l") ∷ rest

-- the statement so far, and its conclusion
abbrev pub hyps_before : List Tm → Before
hyps_before hyps rest = left ∷ word (codes "s") ∷ left ∷ word (codes "h") ∷ shown_all hyps rest

abbrev pub conclusion_before : List Tm → Tm → Before
conclusion_before hyps concl rest = hyps_before hyps (right ∷ shown concl rest)

-- the tokens spell the rest of a statement
pub record Stated (F : Before) (ts : List Placed) (p : Parsed) : Type 0 where
  pub hyps : List Tm
  pub concl : Tm
  pub is : p ≡ a_statement hyps concl
  pub spells : F (tokens_of ts) ≡ shown_statement hyps concl

-- the tokens spell further entries
pub record Entered (es : List Entry) (ts : List Placed) (p : Parsed) : Type 0 where
  pub further : List Entry
  pub is : p ≡ entries (es ++ further)
  pub spells : SpellsAll further ts

-- the tokens close the entry, and then spell further entries
pub record Closed (es : List Entry) (e : Entry) (ts : List Placed) (p : Parsed) : Type 0 where
  pub close_at : ℕ
  pub rest : List Placed
  pub split : ts ≡ record { token = brace_right; at = close_at } ∷ rest
  pub after : Entered (es ++ e ∷ []) rest p

-- what the tokens after a whole term spell
abbrev pub AfterRoot : Root → Tm → List Placed → Parsed → Type 0
AfterRoot alone t ts p = (p ≡ a_term t) × (ts ≡ [])
AfterRoot (hypothesis hyps) t ts p = Stated (hyps_before (hyps ++ t ∷ [])) ts p
AfterRoot (conclusion hyps) t ts p = Stated (conclusion_before hyps t) ts p
AfterRoot (body es first name brace) t ts p = Closed es (record { at = first; brace = brace; name = name; term = t }) ts p

-- the tokens spell the rest of a term, and then what follows it
pub record Inner (root : Root) (F : Before) (ts : List Placed) (p : Parsed) : Type 0 where
  pub term : Tm
  pub inner : List Placed
  pub rest : List Placed
  pub split : ts ≡ inner ++ rest
  pub spells : F (tokens_of inner) ≡ shown term []
  pub after : AfterRoot root term rest p

-- from that state the tokens spell the rest of what was read
abbrev pub Leads : State → List Placed → Parsed → Type 0
Leads (term_due nest) ts p = Inner nest.root (frames_before nest.frames) ts p
Leads (form_due nest) ts p = Inner nest.root (λ r. frames_before nest.frames (left ∷ r)) ts p
Leads (number_due nest) ts p = Inner nest.root (λ r. frames_before nest.frames (left ∷ word (codes "b") ∷ r)) ts p
Leads (free_name_due nest) ts p = Inner nest.root (λ r. frames_before nest.frames (left ∷ word (codes "v") ∷ r)) ts p
Leads (constant_name_due nest) ts p = Inner nest.root (λ r. frames_before nest.frames (left ∷ word (codes "c") ∷ r)) ts p
Leads (type_due role ps nest) ts p = Inner nest.root (λ r. frames_before nest.frames (form_before role (types_before ps r))) ts p
Leads (type_name_due role ps nest) ts p = Inner nest.root (λ r. frames_before nest.frames (form_before role (types_before ps (left ∷ r)))) ts p
Leads (close_due t nest) ts p = Inner nest.root (λ r. frames_before nest.frames (open_shown t r)) ts p
Leads (term_read t) ts p = (p ≡ a_term t) × (ts ≡ [])
Leads statement_due ts p = Stated (λ r. r) ts p
Leads s_due ts p = Stated (λ r. left ∷ r) ts p
Leads hypotheses_due ts p = Stated (λ r. left ∷ word (codes "s") ∷ r) ts p
Leads h_due ts p = Stated (λ r. left ∷ word (codes "s") ∷ left ∷ r) ts p
Leads (hypothesis_due hyps) ts p = Stated (hyps_before hyps) ts p
Leads (end_due hyps t) ts p = Stated (conclusion_before hyps t) ts p
Leads (statement_read hyps t) ts p = (p ≡ a_statement hyps t) × (ts ≡ [])
Leads (entry_due es) ts p = Entered es ts p
Leads (entry_name_due es first) ts p = Entered es (record { token = word (codes "definition"); at = first } ∷ ts) p
Leads (equals_due es first name) ts p = (n : ℕ) → Entered es (record { token = word (codes "definition"); at = first } ∷ record { token = word name; at = n } ∷ ts) p
Leads (brace_due es first name) ts p = (n m : ℕ) → Entered es (record { token = word (codes "definition"); at = first } ∷ record { token = word name; at = n } ∷ record { token = equals; at = m } ∷ ts) p
Leads (brace_close_due es e) ts p = Closed es e ts p
