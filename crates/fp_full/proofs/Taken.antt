-- What tokens spell is what the machine takes them for.
use Rattle.std.proofs.Common.{◌≡◌, ◌∙◌, ℕ, List, [], ◌∷◌, ◌++◌, true, false, cond, not, Some, None, codes, refl, sym, ap, append_assoc, append-nil}
use Rattle.std.specs.Option.{option_and_then}
use Rattle.std.proofs.lemmas.Bool.{and_from}
use Rattle.fp_term.specs.Names.{is_name}
use Rattle.fp_term.specs.Terms.{Tm, bound, free, constant, app, abs}
use Rattle.fp_full.specs.Tokens.{Token, left, right, equals, brace_left, brace_right, word, Placed, tokens_of}
use Rattle.fp_full.specs.Grammar.{shown, shown_all, shown_statement, IsNamed, AreNamed, is_reserved, Entry, AreEntries, SpellsAll}
use Rattle.fp_full.specs.Texts.{Parsed, a_term, a_statement, entries, kind_of, Spells, IsWell}
use Rattle.fp_full.specs.Machine.{alone, hypothesis, conclusion, body, Nest, State, term_due, form_due, term_read, statement_due, s_due, hypotheses_due, h_due, hypothesis_due, statement_read, entry_due, equals_due, brace_close_due, step, finish, start}
use Rattle.fp_full.proofs.Steps.{finishes}
use Rattle.fp_full.proofs.Runs.{Runs, first_token, no_token, one, both, term_runs}

-- no tokens are left
none_left : (ts : List Placed) → tokens_of ts ≡ [] → ts ≡ []
none_left [] e = refl
none_left (q ∷ qs) e = let f : ◌≡◌ {A = List Token} (q.token ∷ tokens_of qs) [] = e in cc

-- a run that leaves no token, with any others behind
run_through : (s u : State) (all : List Token) (ts tail : List Placed) → Runs tail s all u [] → tokens_of ts ≡ all → finishes s (ts ++ tail) ≡ finishes u tail
run_through s u all ts tail r e = let f = r.run ts e in f.same ∙ ap (λ x. finishes u (x ++ tail)) (none_left f.rest f.left_over)

-- a run that leaves no token, to the end
run_out : (s u : State) (all : List Token) (ts : List Placed) → Runs [] s all u [] → tokens_of ts ≡ all → finishes s ts ≡ finish u
run_out s u all ts r e = ap (λ x. finishes s x) (sym (append-nil ts)) ∙ run_through s u all ts [] r e

-- a term's first token is a parenthesis
shown_left : (t : Tm) (tokens : List Token) → (r : List Token) × (shown t tokens ≡ left ∷ r)
shown_left (bound n) tokens = (_, refl)
shown_left (free name s) tokens = (_, refl)
shown_left (constant name s) tokens = (_, refl)
shown_left (app f x) tokens = (_, refl)
shown_left (abs s x) tokens = (_, refl)

-- where a hypothesis's term is due
abbrev in_hypothesis : List Tm → Nest
in_hypothesis hyps = record { root = hypothesis hyps; frames = [] }

-- two states that a first token brings to the same state
same_first : (s t u : State) (token : Token) (tokens : List Token) (ts tail : List Placed) → ((at : ℕ) → step s token at ≡ Some u) → ((at : ℕ) → step t token at ≡ Some u) →
    tokens_of ts ≡ token ∷ tokens → finishes s (ts ++ tail) ≡ finishes t (ts ++ tail)
same_first s t u token tokens [] tail is as_is e = absurd (no_token token tokens e)
same_first s t u token tokens (q ∷ qs) tail is as_is e =
    let both_is : step s q.token q.at ≡ step t q.token q.at = rw ((first_token q qs token tokens e).0) (is q.at ∙ sym (as_is q.at)) in
    ap (λ o. option_and_then (λ next. finishes next (qs ++ tail)) o) both_is

-- where a hypothesis may come, a term is taken as where one is due
as_hypothesis : (t : Tm) (hyps : List Tm) (tail : List Placed) (tokens : List Token) → IsNamed t → Runs tail (hypothesis_due hyps) (shown t tokens) (hypothesis_due (hyps ++ t ∷ [])) tokens
unfolding step
as_hypothesis t hyps tail tokens h = record {
  run = λ ts e.
      let l = shown_left t tokens in
      let f = (term_runs t (in_hypothesis hyps) tail tokens h).run ts e in
      let begins = same_first (hypothesis_due hyps) (term_due (in_hypothesis hyps)) (form_due (in_hypothesis hyps)) left l.0 ts tail (λ at. refl) (λ at. refl) (e ∙ l.1) in
      record { rest = f.rest; left_over = f.left_over; same = begins ∙ f.same };
}

-- further hypotheses
hypotheses_run : (further hyps : List Tm) (tail : List Placed) (tokens : List Token) → AreNamed further → Runs tail (hypothesis_due hyps) (shown_all further (right ∷ tokens)) (term_due (record { root = conclusion (hyps ++ further); frames = [] })) tokens
unfolding step
hypotheses_run [] hyps tail tokens h = one (λ at. ap (λ x. Some (term_due (record { root = conclusion x; frames = [] }))) (sym (append-nil hyps)))
hypotheses_run (t ∷ further) hyps tail tokens h =
    both (as_hypothesis t hyps tail (shown_all further (right ∷ tokens)) h.0)
    (rw append_assoc at (hypotheses_run further (hyps ++ t ∷ []) tail tokens h.1))

-- a statement's tokens are taken for the statement
statement_runs : (hyps : List Tm) (concl : Tm) (tail : List Placed) → AreNamed hyps → IsNamed concl → Runs tail statement_due (shown_statement hyps concl) (statement_read hyps concl) []
unfolding step
statement_runs hyps concl tail h g =
    both (one {u = s_due} (λ at. refl)) (both (one {u = hypotheses_due} (λ at. refl)) (both (one {u = h_due} (λ at. refl)) (both (one {u = hypothesis_due []} (λ at. refl))
    (both (hypotheses_run hyps [] tail (shown concl (right ∷ [])) h)
    (both (term_runs concl (record { root = conclusion hyps; frames = [] }) tail (right ∷ []) g) (one (λ at. refl)))))))

-- an entry as far as its term
entry_begins : (es : List Entry) (first n m brace : ℕ) (name : List ℕ) (ts : List Placed) → is_name name ≡ true → is_reserved name ≡ false →
    finishes (entry_due es) (record { token = word (codes "definition"); at = first } ∷ record { token = word name; at = n } ∷ record { token = equals; at = m } ∷ record { token = brace_left; at = brace } ∷ ts)
    ≡ finishes (term_due (record { root = body es first name brace; frames = [] })) ts
unfolding step
entry_begins es first n m brace name ts h g =
    ap (λ b. option_and_then (λ next. finishes next (record { token = equals; at = m } ∷ record { token = brace_left; at = brace } ∷ ts)) (cond b (Some (equals_due es first name)) None))
    (and_from (is_name name) (not (is_reserved name)) h (ap not g))

-- an entry after its term
entry_ends : (es : List Entry) (e : Entry) (close : ℕ) (rest : List Placed) → finishes (brace_close_due es e) (record { token = brace_right; at = close } ∷ rest) ≡ finishes (entry_due (es ++ e ∷ [])) rest
unfolding step
entry_ends es e close rest = refl

-- entries are taken for the entries
entries_taken : (further es : List Entry) (ts : List Placed) → AreEntries further → SpellsAll further ts → finishes (entry_due es) ts ≡ Some (entries (es ++ further))
unfolding finish
entries_taken [] es ts h s = ap (λ x. finishes (entry_due es) x) s ∙ ap (λ x. Some (entries x)) (sym (append-nil es))
entries_taken (e ∷ further) es ts h s =
    let entry = s.1 in
    let close : Placed = record { token = brace_right; at = entry.close_at } in
    let nest : Nest = record { root = body es e.at e.name e.brace; frames = [] } in
    ap (λ x. finishes (entry_due es) x) entry.split ∙ entry_begins es e.at entry.name_at entry.equals_at e.brace e.name (entry.inner ++ close ∷ s.0) h.0.named h.0.allowed
    ∙ run_through (term_due nest) (brace_close_due es e) (shown e.term []) entry.inner (close ∷ s.0) (term_runs e.term nest (close ∷ s.0) [] h.0.terms) entry.term
    ∙ entry_ends es e entry.close_at s.0 ∙ entries_taken further (es ++ e ∷ []) s.0 h.1 s.2 ∙ ap (λ x. Some (entries x)) (append_assoc es (e ∷ []) further)

-- the machine takes tokens for what they spell
pub finishes_spelled : (p : Parsed) (ts : List Placed) → IsWell p → Spells p ts → finishes (start (kind_of p)) ts ≡ Some p
unfolding finish
finishes_spelled (a_term t) ts h s =
    let nest : Nest = record { root = alone; frames = [] } in
    run_out (term_due nest) (term_read t) (shown t []) ts (term_runs t nest [] [] h) s
finishes_spelled (a_statement hyps concl) ts h s = run_out statement_due (statement_read hyps concl) (shown_statement hyps concl) ts (statement_runs hyps concl [] h.0 h.1) s
finishes_spelled (entries es) ts h s = entries_taken es [] ts h s
