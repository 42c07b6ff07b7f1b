-- From each state some tokens lead to an end.
use Rattle.std.proofs.Common.{◌≡◌, ◌+◌, ℕ, suc, List, [], ◌∷◌, ◌++◌, length, Some, refl, codes}
use Rattle.fp_term.specs.Names.{is_name}
use Rattle.fp_term.specs.Types.{Typ, variable, applied}
use Rattle.fp_term.specs.Terms.{Tm, bound, free, constant, app, abs}
use Rattle.fp_full.specs.Tokens.{Token, left, right, equals, brace_left, brace_right, word}
use Rattle.fp_full.specs.Grammar.{Entry}
use Rattle.fp_full.specs.Texts.{Parsed, a_term, a_statement, entries}
use Rattle.fp_full.specs.Machine.{Root, alone, hypothesis, conclusion, body, Frame, function_part, argument_part, body_part, Nest, Use, free_type, constant_type, bound_type, Partial, State, term_due, form_due, number_due, free_name_due, constant_name_due, type_due, type_name_due, close_due, term_read, statement_due, s_due, hypotheses_due, h_due, hypothesis_due, end_due, statement_read, entry_due, entry_name_due, equals_due, brace_due, brace_close_due, typs, after_whole, after_part, after_type, after_argument, step, finish}
use Rattle.fp_full.proofs.Steps.{finishes, laid_out, IsWord, AreWords}

-- tokens with which the text may end
pub record Leads (s : State) (at : ℕ) : Type 0 where
  pub tokens : List Token
  pub parsed : Parsed
  pub words : AreWords tokens
  pub ends : finishes s (laid_out at tokens) ≡ Some parsed

at_end : (s : State) (at : ℕ) (p : Parsed) → finish s ≡ Some p → Leads s at
at_end s at p e = record { tokens = []; parsed = p; words = tt; ends = e }

-- one token, and then those from the next state
by_word : (s : State) (w : List ℕ) (at : ℕ) (next : State) → IsWord w → step s (word w) (suc at) ≡ Some next → Leads next (suc at + length w) → Leads s at
by_word s w at next p e l = record { tokens = word w ∷ l.tokens; parsed = l.parsed; words = (p, l.words); ends = rw e l.ends }

by_left : (s : State) (at : ℕ) (next : State) → step s left (suc at) ≡ Some next → Leads next (suc at + 1) → Leads s at
by_left s at next e l = record { tokens = left ∷ l.tokens; parsed = l.parsed; words = l.words; ends = rw e l.ends }

by_right : (s : State) (at : ℕ) (next : State) → step s right (suc at) ≡ Some next → Leads next (suc at + 1) → Leads s at
by_right s at next e l = record { tokens = right ∷ l.tokens; parsed = l.parsed; words = l.words; ends = rw e l.ends }

by_equals : (s : State) (at : ℕ) (next : State) → step s equals (suc at) ≡ Some next → Leads next (suc at + 1) → Leads s at
by_equals s at next e l = record { tokens = equals ∷ l.tokens; parsed = l.parsed; words = l.words; ends = rw e l.ends }

by_brace_left : (s : State) (at : ℕ) (next : State) → step s brace_left (suc at) ≡ Some next → Leads next (suc at + 1) → Leads s at
by_brace_left s at next e l = record { tokens = brace_left ∷ l.tokens; parsed = l.parsed; words = l.words; ends = rw e l.ends }

by_brace_right : (s : State) (at : ℕ) (next : State) → step s brace_right (suc at) ≡ Some next → Leads next (suc at + 1) → Leads s at
by_brace_right s at next e l = record { tokens = brace_right ∷ l.tokens; parsed = l.parsed; words = l.words; ends = rw e l.ends }

-- with `(b 0)`, from what follows it
number : (nest : Nest) (at : ℕ) → ((at : ℕ) → Leads (close_due (bound 0) nest) at) → Leads (number_due nest) at
unfolding step
number nest at f = by_word (number_due nest) (codes "0") at (close_due (bound 0) nest) refl refl (f _)

form : (nest : Nest) (at : ℕ) → ((at : ℕ) → Leads (close_due (bound 0) nest) at) → Leads (form_due nest) at
unfolding step
form nest at f = by_word (form_due nest) (codes "b") at (number_due nest) refl refl (number nest _ f)

term : (nest : Nest) (at : ℕ) → ((at : ℕ) → Leads (close_due (bound 0) nest) at) → Leads (term_due nest) at
unfolding step
term nest at f = by_left (term_due nest) at (form_due nest) refl (form nest _ f)

close : (t : Tm) (nest : Nest) (at : ℕ) → ((at : ℕ) → Leads (after_part t nest.root nest.frames) at) → Leads (close_due t nest) at
unfolding step
close t nest at f = by_right (close_due t nest) at (after_part t nest.root nest.frames) refl (f _)

whole_term : (nest : Nest) (at : ℕ) → ((at : ℕ) → Leads (after_part (bound 0) nest.root nest.frames) at) → Leads (term_due nest) at
whole_term nest at f = term nest at (λ at. close (bound 0) nest at f)

-- after a term: its root, and then the open forms
from_end : (hyps : List Tm) (t : Tm) (at : ℕ) → Leads (end_due hyps t) at
unfolding step finish
from_end hyps t at = by_right (end_due hyps t) at (statement_read hyps t) refl (at_end _ _ (a_statement hyps t) refl)

from_hypothesis : (hyps : List Tm) (at : ℕ) → Leads (hypothesis_due hyps) at
unfolding step
from_hypothesis hyps at =
    let nest : Nest = record { root = conclusion hyps; frames = [] } in
    by_right (hypothesis_due hyps) at (term_due nest) refl (whole_term nest _ (λ at. from_end hyps (bound 0) at))

from_entry : (es : List Entry) (at : ℕ) → Leads (entry_due es) at
unfolding finish
from_entry es at = at_end (entry_due es) at (entries es) refl

from_brace_close : (es : List Entry) (e : Entry) (at : ℕ) → Leads (brace_close_due es e) at
unfolding step
from_brace_close es e at = by_brace_right (brace_close_due es e) at (entry_due (es ++ e ∷ [])) refl (from_entry (es ++ e ∷ []) _)

from_whole : (t : Tm) (root : Root) (at : ℕ) → Leads (after_whole t root) at
unfolding finish
from_whole t alone at = at_end (term_read t) at (a_term t) refl
from_whole t (hypothesis hyps) at = from_hypothesis (hyps ++ t ∷ []) at
from_whole t (conclusion hyps) at = from_end hyps t at
from_whole t (body es first name brace) at = from_brace_close es (record { at = first; brace = brace; name = name; term = t }) at

from_part : (fs : List Frame) (t : Tm) (root : Root) (at : ℕ) → Leads (after_part t root fs) at
from_part [] t root at = from_whole t root at
from_part (function_part ∷ fs) t root at =
    whole_term (record { root = root; frames = argument_part t ∷ fs }) at
    (λ at. close (app t (bound 0)) (record { root = root; frames = fs }) at (λ at. from_part fs (app t (bound 0)) root at))
from_part (argument_part f ∷ fs) t root at = close (app f t) (record { root = root; frames = fs }) at (λ at. from_part fs (app f t) root at)
from_part (body_part s ∷ fs) t root at = close (abs s t) (record { root = root; frames = fs }) at (λ at. from_part fs (abs s t) root at)

from_close : (t : Tm) (nest : Nest) (at : ℕ) → Leads (close_due t nest) at
from_close t nest at = close t nest at (λ at. from_part nest.frames t nest.root at)

from_term : (nest : Nest) (at : ℕ) → Leads (term_due nest) at
from_term nest at = whole_term nest at (λ at. from_part nest.frames (bound 0) nest.root at)

-- after a type: what it is for, and then the open types
from_type : (s : Typ) (role : Use) (nest : Nest) (at : ℕ) → Leads (after_type s role nest) at
from_type s (free_type name) nest at = from_close (free name s) nest at
from_type s (constant_type name) nest at = from_close (constant name s) nest at
from_type s bound_type nest at = from_term (record { root = nest.root; frames = body_part s ∷ nest.frames }) at

from_argument : (ps : List Partial) (s : Typ) (role : Use) (nest : Nest) (at : ℕ) → Leads (after_argument s role ps nest) at
unfolding step
from_argument [] s role nest at = from_type s role nest at
from_argument (p ∷ ps) s role nest at =
    let args : List Typ = p.args ++ s ∷ [] in
    by_right (type_due role (record { name = p.name; args = args } ∷ ps) nest) at (after_argument (applied p.name (typs args)) role ps nest) refl
    (from_argument ps (applied p.name (typs args)) role nest _)

from_variable : (role : Use) (ps : List Partial) (nest : Nest) (at : ℕ) → Leads (type_due role ps nest) at
unfolding step is_name
from_variable role ps nest at =
    by_word (type_due role ps nest) (39 ∷ 97 ∷ []) at (after_argument (variable (97 ∷ [])) role ps nest) refl refl (from_argument ps (variable (97 ∷ [])) role nest _)

from_brace : (es : List Entry) (first : ℕ) (name : List ℕ) (at : ℕ) → Leads (brace_due es first name) at
unfolding step
from_brace es first name at =
    let nest : Nest = record { root = body es first name (suc at); frames = [] } in
    by_brace_left (brace_due es first name) at (term_due nest) refl (from_term nest _)

from_equals : (es : List Entry) (first : ℕ) (name : List ℕ) (at : ℕ) → Leads (equals_due es first name) at
unfolding step
from_equals es first name at = by_equals (equals_due es first name) at (brace_due es first name) refl (from_brace es first name _)

from_h : (at : ℕ) → Leads h_due at
unfolding step
from_h at = by_word h_due (codes "h") at (hypothesis_due []) refl refl (from_hypothesis [] _)

from_hypotheses : (at : ℕ) → Leads hypotheses_due at
unfolding step
from_hypotheses at = by_left hypotheses_due at h_due refl (from_h _)

from_s : (at : ℕ) → Leads s_due at
unfolding step
from_s at = by_word s_due (codes "s") at hypotheses_due refl refl (from_hypotheses _)

-- from each state some tokens lead to an end
pub leads : (s : State) (at : ℕ) → Leads s at
unfolding step finish is_name
leads (term_due nest) at = from_term nest at
leads (form_due nest) at = form nest at (λ at. from_close (bound 0) nest at)
leads (number_due nest) at = number nest at (λ at. from_close (bound 0) nest at)
leads (free_name_due nest) at = by_word (free_name_due nest) (97 ∷ []) at (type_due (free_type (97 ∷ [])) [] nest) refl refl (from_variable (free_type (97 ∷ [])) [] nest _)
leads (constant_name_due nest) at = by_word (constant_name_due nest) (97 ∷ []) at (type_due (constant_type (97 ∷ [])) [] nest) refl refl (from_variable (constant_type (97 ∷ [])) [] nest _)
leads (type_due role ps nest) at = from_variable role ps nest at
leads (type_name_due role ps nest) at =
    let p : Partial = record { name = 97 ∷ []; args = [] } in
    by_word (type_name_due role ps nest) (97 ∷ []) at (type_due role (p ∷ ps) nest) refl refl (from_variable role (p ∷ ps) nest _)
leads (close_due t nest) at = from_close t nest at
leads (term_read t) at = at_end (term_read t) at (a_term t) refl
leads statement_due at = by_left statement_due at s_due refl (from_s _)
leads s_due at = from_s at
leads hypotheses_due at = from_hypotheses at
leads h_due at = from_h at
leads (hypothesis_due hyps) at = from_hypothesis hyps at
leads (end_due hyps t) at = from_end hyps t at
leads (statement_read hyps t) at = at_end (statement_read hyps t) at (a_statement hyps t) refl
leads (entry_due es) at = from_entry es at
leads (entry_name_due es first) at = by_word (entry_name_due es first) (97 ∷ []) at (equals_due es first (97 ∷ [])) refl refl (from_equals es first (97 ∷ []) _)
leads (equals_due es first name) at = from_equals es first name at
leads (brace_due es first name) at = from_brace es first name at
leads (brace_close_due es e) at = from_brace_close es e at
