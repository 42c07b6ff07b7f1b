-- What the machine takes tokens for is what they spell.
use Rattle.std.proofs.Common.{◌≡◌, ◌∙◌, ℕ, List, [], ◌∷◌, ◌++◌, Bool, true, false, cond, not, ◌&&◌, ◌==◌, Option, Some, None, IfSome, codes, refl, sym, ap, append_assoc, append-nil, bytes_eq}
use Rattle.std.specs.Option.{option_and_then}
use Rattle.std.proofs.lemmas.Option.{none-some, same_Some}
use Rattle.std.proofs.lemmas.Bool.{and_parts}
use Rattle.std.proofs.lemmas.Bool.Decides.{Decides-eqb}
use Rattle.std.proofs.lemmas.List.{map-append}
use Rattle.std.proofs.lemmas.Slice.Eq.{bytes_eq-Decides}
use Rattle.fp_term.specs.Names.{is_name}
use Rattle.fp_term.specs.Types.{Typ, variable, applied}
use Rattle.fp_term.specs.Terms.{Tm}
use Rattle.fp_full.specs.Tokens.{Token, left, right, equals, brace_left, brace_right, word, Placed, tokens_of}
use Rattle.fp_full.specs.Grammar.{shown_type, shown, is_reserved, Entry}
use Rattle.fp_full.specs.Texts.{Kind, of_term, of_statement, of_file, Parsed, a_term, a_statement, entries, kind_of, Spells}
use Rattle.fp_full.specs.Machine.{Root, alone, hypothesis, conclusion, body, Frame, function_part, argument_part, body_part, Nest, Use, free_type, constant_type, bound_type, Partial, State, term_due, form_due, number_due, free_name_due, constant_name_due, type_due, type_name_due, close_due, term_read, statement_due, s_due, hypotheses_due, h_due, hypothesis_due, end_due, statement_read, entry_due, entry_name_due, equals_due, brace_due, brace_close_due, typs, after_whole, after_part, after_argument, closed_type, variable_word, form_byte, form_word, is_numeral, step, finish, start}
use Rattle.fp_full.proofs.Steps.{finishes}
use Rattle.fp_full.proofs.Numerals.{numeral_decimal}
use Rattle.fp_full.proofs.Leading.{Before, types_before, frames_before, form_before, hyps_before, conclusion_before, Stated, AfterRoot, Inner, Leads}
use Rattle.fp_full.proofs.Shown.{shown_closed, shown_typs, shown_list_push, shown_all_push, shown_append}

-- one token more in front
front : (root : Root) (F G : Before) (token : Token) (at : ℕ) (ts : List Placed) (p : Parsed) → ((r : List Token) → F (token ∷ r) ≡ G r) → Inner root G ts p → Inner root F (record { token = token; at = at } ∷ ts) p
front root F G token at ts p same i = record {
  term = i.term;
  inner = record { token = token; at = at } ∷ i.inner;
  rest = i.rest;
  split = ap (λ x. record { token = token; at = at } ∷ x) i.split;
  spells = same (tokens_of i.inner) ∙ i.spells;
  after = i.after;
}

-- the same tokens before, put otherwise
alike : (root : Root) (F G : Before) (ts : List Placed) (p : Parsed) → ((r : List Token) → F r ≡ G r) → Inner root G ts p → Inner root F ts p
alike root F G ts p same i = record { term = i.term; inner = i.inner; rest = i.rest; split = i.split; spells = same (tokens_of i.inner) ∙ i.spells; after = i.after }

-- one token more of a statement in front
stated_front : (F G : Before) (token : Token) (at : ℕ) (ts : List Placed) (p : Parsed) → ((r : List Token) → F (token ∷ r) ≡ G r) → Stated G ts p → Stated F (record { token = token; at = at } ∷ ts) p
stated_front F G token at ts p same s = record { hyps = s.hyps; concl = s.concl; is = s.is; spells = same (tokens_of ts) ∙ s.spells }

-- after a whole term, a term, a type
after_root : (t : Tm) (root : Root) (ts : List Placed) (p : Parsed) → Leads (after_whole t root) ts p → AfterRoot root t ts p
after_root t alone ts p l = l
after_root t (hypothesis hyps) ts p l = l
after_root t (conclusion hyps) ts p l = l
after_root t (body es first name brace) ts p l = l

from_term : (t : Tm) (root : Root) (fs : List Frame) (ts : List Placed) (p : Parsed) → Leads (after_part t root fs) ts p → Inner root (λ r. frames_before fs (shown t r)) ts p
from_term t root [] ts p l = record { term = t; inner = []; rest = ts; split = refl; spells = refl; after = after_root t root ts p l }
from_term t root (function_part ∷ fs) ts p l = l
from_term t root (argument_part f ∷ fs) ts p l = l
from_term t root (body_part s ∷ fs) ts p l = l

from_type : (s : Typ) (role : Use) (ps : List Partial) (nest : Nest) (ts : List Placed) (p : Parsed) → Leads (after_argument s role ps nest) ts p →
    Inner nest.root (λ r. frames_before nest.frames (form_before role (types_before ps (shown_type s r)))) ts p
from_type s (free_type name) [] nest ts p l = l
from_type s (constant_type name) [] nest ts p l = l
from_type s bound_type [] nest ts p l = l
from_type s role (q ∷ ps) nest ts p l =
    alike nest.root _ _ ts p (λ r. ap (λ x. frames_before nest.frames (form_before role (types_before ps (left ∷ word q.name ∷ x)))) (shown_list_push q.args s r)) l

-- what holds of the state that a test allows
if_so : (c : Bool) (x : State) (P : State → Type 0) → (c ≡ true → P x) → IfSome (cond c (Some x) None) P
if_so true x P f = f refl
if_so false x P f = tt

or_else : (c : Bool) (x : State) (o : Option State) (P : State → Type 0) → (c ≡ true → P x) → IfSome o P → IfSome (cond c (Some x) o) P
or_else true x o P f g = f refl
or_else false x o P f g = g

-- back over one token, by what was due
Back : State → Option State → Token → ℕ → List Placed → Parsed → Type 0
Back s o token at ts p = IfSome o (λ next. Leads next ts p → Leads s (record { token = token; at = at } ∷ ts) p)

-- back over the word of a form
back_form : (b : ℕ) (nest : Nest) (at : ℕ) (ts : List Placed) (p : Parsed) → Back (form_due nest) (form_byte b nest) (word (b ∷ [])) at ts p
unfolding Back
back_form b nest at ts p =
    let P : State → Type 0 = λ next. Leads next ts p → Leads (form_due nest) (record { token = word (b ∷ []); at = at } ∷ ts) p in
    let same = λ (n : ℕ) (e : (b == n) ≡ true) (r : List Token). ap (λ x. frames_before nest.frames (left ∷ word (x ∷ []) ∷ r)) ((Decides-eqb b n).0 e) in
    or_else (b == 98) _ _ P (λ e. front nest.root _ _ _ at ts p (same 98 e))
    (or_else (b == 118) _ _ P (λ e. front nest.root _ _ _ at ts p (same 118 e))
    (or_else (b == 99) _ _ P (λ e. front nest.root _ _ _ at ts p (same 99 e))
    (or_else (b == 97) _ _ P (λ e. front nest.root _ _ _ at ts p (same 97 e))
    (if_so (b == 108) _ P (λ e. front nest.root _ _ _ at ts p (same 108 e))))))

back_form_word : (w : List ℕ) (nest : Nest) (at : ℕ) (ts : List Placed) (p : Parsed) → Back (form_due nest) (form_word w nest) (word w) at ts p
unfolding Back
back_form_word [] nest at ts p = tt
back_form_word (b ∷ []) nest at ts p = back_form b nest at ts p
back_form_word (b ∷ c ∷ bs) nest at ts p = tt

-- back over a type variable's word
back_variable : (w : List ℕ) (role : Use) (ps : List Partial) (nest : Nest) (at : ℕ) (ts : List Placed) (p : Parsed) → Back (type_due role ps nest) (variable_word w role ps nest) (word w) at ts p
unfolding Back
back_variable [] role ps nest at ts p = tt
back_variable (b ∷ name) role ps nest at ts p =
    if_so (b == 39 && is_name name) _ _ (λ e l. front nest.root _ _ _ at ts p
    (λ r. ap (λ x. frames_before nest.frames (form_before role (types_before ps (word (x ∷ name) ∷ r)))) ((Decides-eqb b 39).0 (and_parts (b == 39) (is_name name) e).0))
    (from_type (variable name) role ps nest ts p l))

-- back over the parenthesis that closes a type
back_closed : (role : Use) (ps : List Partial) (nest : Nest) (at : ℕ) (ts : List Placed) (p : Parsed) → Back (type_due role ps nest) (closed_type role ps nest) right at ts p
unfolding Back
back_closed role [] nest at ts p = tt
back_closed role (q ∷ ps) nest at ts p = λ l.
    front nest.root _ _ _ at ts p (λ r. ap (λ x. frames_before nest.frames (form_before role (types_before ps (left ∷ word q.name ∷ x)))) (shown_typs q.args (right ∷ r)))
    (from_type (applied q.name (typs q.args)) role ps nest ts p l)

-- the tokens of a whole term, some of them read before
whole : (read : List Token) (t : Tm) (inner rest ts : List Placed) → ts ≡ inner ++ rest → read ++ tokens_of inner ≡ shown t [] → read ++ tokens_of ts ≡ shown t (tokens_of rest)
whole read t inner rest ts split spells =
    ap (λ x. read ++ tokens_of x) split ∙ ap (λ x. read ++ x) (map-append _ inner rest) ∙ sym (append_assoc read (tokens_of inner) (tokens_of rest))
    ∙ ap (λ x. x ++ tokens_of rest) spells ∙ sym (shown_append t [] (tokens_of rest))

-- back over the parenthesis that opens a hypothesis
back_hypothesis : (hyps : List Tm) (at : ℕ) (ts : List Placed) (p : Parsed) → Leads (form_due (record { root = hypothesis hyps; frames = [] })) ts p → Leads (hypothesis_due hyps) (record { token = left; at = at } ∷ ts) p
back_hypothesis hyps at ts p i =
    let s = i.after in
    record {
      hyps = s.hyps;
      concl = s.concl;
      is = s.is;
      spells = ap (λ x. hyps_before hyps x) (whole (left ∷ []) i.term i.inner i.rest ts i.split i.spells)
          ∙ ap (λ x. hyps_before [] x) (shown_all_push hyps i.term (tokens_of i.rest)) ∙ s.spells;
    }

-- back over the parenthesis that closes the hypotheses
back_conclusion : (hyps : List Tm) (at : ℕ) (ts : List Placed) (p : Parsed) → Leads (term_due (record { root = conclusion hyps; frames = [] })) ts p → Leads (hypothesis_due hyps) (record { token = right; at = at } ∷ ts) p
back_conclusion hyps at ts p i =
    let s = i.after in
    record { hyps = s.hyps; concl = s.concl; is = s.is; spells = ap (λ x. hyps_before hyps (right ∷ x)) (whole [] i.term i.inner i.rest ts i.split i.spells) ∙ s.spells }

-- back over an entry's opening brace
back_body : (es : List Entry) (first brace : ℕ) (name : List ℕ) (ts : List Placed) (p : Parsed) → Leads (term_due (record { root = body es first name brace; frames = [] })) ts p → Leads (brace_due es first name) (record { token = brace_left; at = brace } ∷ ts) p
back_body es first brace name ts p i = λ n m.
    let e : Entry = record { at = first; brace = brace; name = name; term = i.term } in
    let c = i.after in
    record {
      further = e ∷ c.after.further;
      is = c.after.is ∙ ap entries (append_assoc es (e ∷ []) c.after.further);
      spells = (
        c.rest,
        record {
          name_at = n;
          equals_at = m;
          close_at = c.close_at;
          inner = i.inner;
          term = i.spells;
          split = ap (λ x. record { token = word (codes "definition"); at = first } ∷ record { token = word name; at = n } ∷ record { token = equals; at = m } ∷ record { token = brace_left; at = brace } ∷ x) (i.split ∙ ap (λ x. i.inner ++ x) c.split);
        },
        c.after.spells,
      );
    }

-- back over one token
back : (s : State) (token : Token) (at : ℕ) (ts : List Placed) (p : Parsed) → Back s (step s token at) token at ts p
unfolding Back step
back (term_due nest) left at ts p = front nest.root _ _ left at ts p (λ r. refl)
back (form_due nest) (word w) at ts p = back_form_word w nest at ts p
back (number_due nest) (word w) at ts p = if_so (is_numeral w) _ _ (λ e. front nest.root _ _ (word w) at ts p (λ r. ap (λ x. frames_before nest.frames (left ∷ word (codes "b") ∷ word x ∷ r)) (sym (numeral_decimal w e))))
back (free_name_due nest) (word w) at ts p = if_so (is_name w) _ _ (λ e. front nest.root _ _ (word w) at ts p (λ r. refl))
back (constant_name_due nest) (word w) at ts p = if_so (is_name w) _ _ (λ e. front nest.root _ _ (word w) at ts p (λ r. refl))
back (type_due role ps nest) (word w) at ts p = back_variable w role ps nest at ts p
back (type_due role ps nest) left at ts p = front nest.root _ _ left at ts p (λ r. refl)
back (type_due role ps nest) right at ts p = back_closed role ps nest at ts p
back (type_name_due role ps nest) (word w) at ts p = if_so (is_name w) _ _ (λ e. front nest.root _ _ (word w) at ts p (λ r. refl))
back (close_due t nest) right at ts p = λ l. front nest.root _ _ right at ts p (λ r. ap (λ x. frames_before nest.frames x) (shown_closed t r)) (from_term t nest.root nest.frames ts p l)
back statement_due left at ts p = stated_front _ _ left at ts p (λ r. refl)
back s_due (word w) at ts p = if_so (bytes_eq w (codes "s")) _ _ (λ e. stated_front _ _ (word w) at ts p (λ r. ap (λ x. left ∷ word x ∷ r) ((bytes_eq-Decides w (codes "s")).0 e)))
back hypotheses_due left at ts p = stated_front _ _ left at ts p (λ r. refl)
back h_due (word w) at ts p = if_so (bytes_eq w (codes "h")) _ _ (λ e. stated_front _ _ (word w) at ts p (λ r. ap (λ x. left ∷ word (codes "s") ∷ left ∷ word x ∷ r) ((bytes_eq-Decides w (codes "h")).0 e)))
back (hypothesis_due hyps) left at ts p = back_hypothesis hyps at ts p
back (hypothesis_due hyps) right at ts p = back_conclusion hyps at ts p
back (end_due hyps t) right at ts p = λ l. record { hyps = hyps; concl = t; is = l.0; spells = ap (λ x. conclusion_before hyps t (right ∷ tokens_of x)) l.1 }
back (entry_due es) (word w) at ts p = if_so (bytes_eq w (codes "definition")) _ _ (λ e l. rw ((bytes_eq-Decides w (codes "definition")).0 e) l)
back (entry_name_due es first) (word w) at ts p = if_so (is_name w && not (is_reserved w)) _ _ (λ e l. l at)
back (equals_due es first name) equals at ts p = λ l n. l n at
back (brace_due es first name) brace_left at ts p = back_body es first at name ts p
back (brace_close_due es e) brace_right at ts p = λ l. record { close_at = at; rest = ts; split = refl; after = l }
back _ _ at ts p = tt

-- where the text may end
at_end : (s : State) (p : Parsed) → finish s ≡ Some p → Leads s [] p
unfolding finish
at_end (term_read t) p e = (sym (same_Some (a_term t) p e), refl)
at_end (statement_read hyps t) p e = (sym (same_Some (a_statement hyps t) p e), refl)
at_end (entry_due es) p e = record { further = []; is = sym (same_Some (entries es) p e) ∙ ap entries (sym (append-nil es)); spells = refl }
at_end _ p e = absurd (none-some p e)

-- back over one token that the machine took
go_on : (s : State) (o : Option State) (q : Placed) (ts : List Placed) (p : Parsed) → Back s o q.token q.at ts p → ((next : State) → finishes next ts ≡ Some p → Leads next ts p) →
    option_and_then (λ next. finishes next ts) o ≡ Some p → Leads s (q ∷ ts) p
unfolding Back
go_on s None q ts p b leads e = absurd (none-some p e)
go_on s (Some next) q ts p b leads e = b (leads next e)

-- back over all tokens
leads : (ts : List Placed) (s : State) (p : Parsed) → finishes s ts ≡ Some p → Leads s ts p
leads [] s p e = at_end s p e
leads (q ∷ qs) s p e = go_on s (step s q.token q.at) q qs p (back s q.token q.at qs p) (λ next. leads qs next p) e

-- what the machine takes tokens for, they spell
pub spelled_from : (k : Kind) (ts : List Placed) (p : Parsed) → finishes (start k) ts ≡ Some p → Spells p ts × (kind_of p ≡ k)
spelled_from of_term ts p e =
    let l : Leads (start of_term) ts p = leads ts (start of_term) p e in
    rw l.after.0 (whole [] l.term l.inner l.rest ts l.split l.spells ∙ ap (λ x. shown l.term (tokens_of x)) l.after.1, refl)
spelled_from of_statement ts p e =
    let l : Leads (start of_statement) ts p = leads ts (start of_statement) p e in
    rw l.is (l.spells, refl)
spelled_from of_file ts p e =
    let l : Leads (start of_file) ts p = leads ts (start of_file) p e in
    rw l.is (l.spells, refl)
