-- What is read has names of their form, and numbers below 2^32.
use Rattle.std.proofs.Common.{◌≡◌, ◌<◌, ◌^◌, ℕ, List, [], ◌∷◌, ◌++◌, true, false, not, ◌&&◌, ◌==◌, Option, Some, None, IfSome, nat_lt, subst, codes}
use Rattle.std.specs.Str.{bytes_eq, all_ascii_digits}
use Rattle.std.specs.Option.{option_and_then}
use Rattle.std.proofs.lemmas.Option.{none-some, same_Some}
use Rattle.std.proofs.lemmas.Bool.Decides.{Decides-ltb}
use borrow.Author.Tests.{not-true}
use Rattle.fp_term.specs.Names.{is_name}
use Rattle.fp_term.specs.Types.{Typ, variable, applied}
use Rattle.fp_term.specs.Terms.{Tm}
use Rattle.fp_full.specs.Tokens.{Token, left, right, equals, brace_left, brace_right, word, Placed}
use Rattle.fp_full.specs.Grammar.{IsNamedType, AreNamedTypes, IsNamed, AreNamed, is_reserved, Entry, IsEntry, AreEntries}
use Rattle.fp_full.specs.Texts.{Kind, of_term, of_statement, of_file, Parsed, a_term, a_statement, entries, IsWell}
use Rattle.fp_full.specs.Machine.{Root, alone, hypothesis, conclusion, body, Frame, function_part, argument_part, body_part, Nest, Use, free_type, constant_type, bound_type, Partial, State, term_due, form_due, number_due, free_name_due, constant_name_due, type_due, type_name_due, close_due, term_read, statement_due, s_due, hypotheses_due, h_due, hypothesis_due, end_due, statement_read, entry_due, entry_name_due, equals_due, brace_due, brace_close_due, typs, after_whole, after_part, after_type, after_argument, closed_type, variable_word, form_word, read_on, is_plain, is_numeral, step, finish, start}
use Rattle.fp_full.proofs.Steps.{finishes}
use Rattle.fp_full.proofs.Tests.{both, where_true}

abbrev AreNamedList : List Typ → Type 0
AreNamedList [] = Unit {0}
AreNamedList (t ∷ ts) = IsNamedType t × AreNamedList ts

abbrev AreWellPartials : List Partial → Type 0
AreWellPartials [] = Unit {0}
AreWellPartials (p ∷ ps) = (is_name p.name ≡ true) × AreNamedList p.args × AreWellPartials ps

abbrev IsWellUse : Use → Type 0
IsWellUse (free_type name) = is_name name ≡ true
IsWellUse (constant_type name) = is_name name ≡ true
IsWellUse bound_type = Unit {0}

abbrev AreWellFrames : List Frame → Type 0
AreWellFrames [] = Unit {0}
AreWellFrames (function_part ∷ fs) = AreWellFrames fs
AreWellFrames (argument_part f ∷ fs) = IsNamed f × AreWellFrames fs
AreWellFrames (body_part s ∷ fs) = IsNamedType s × AreWellFrames fs

abbrev IsEntryName : List ℕ → Type 0
IsEntryName name = (is_name name ≡ true) × (is_reserved name ≡ false)

abbrev IsWellRoot : Root → Type 0
IsWellRoot alone = Unit {0}
IsWellRoot (hypothesis hyps) = AreNamed hyps
IsWellRoot (conclusion hyps) = AreNamed hyps
IsWellRoot (body es at name brace) = AreEntries es × IsEntryName name

abbrev IsWellNest : Nest → Type 0
IsWellNest nest = IsWellRoot nest.root × AreWellFrames nest.frames

-- the names and the numbers in the state have their form
abbrev IsWellState : State → Type 0
IsWellState (term_due nest) = IsWellNest nest
IsWellState (form_due nest) = IsWellNest nest
IsWellState (number_due nest) = IsWellNest nest
IsWellState (free_name_due nest) = IsWellNest nest
IsWellState (constant_name_due nest) = IsWellNest nest
IsWellState (type_due role ps nest) = IsWellUse role × AreWellPartials ps × IsWellNest nest
IsWellState (type_name_due role ps nest) = IsWellUse role × AreWellPartials ps × IsWellNest nest
IsWellState (close_due t nest) = IsNamed t × IsWellNest nest
IsWellState (term_read t) = IsNamed t
IsWellState statement_due = Unit {0}
IsWellState s_due = Unit {0}
IsWellState hypotheses_due = Unit {0}
IsWellState h_due = Unit {0}
IsWellState (hypothesis_due hyps) = AreNamed hyps
IsWellState (end_due hyps t) = AreNamed hyps × IsNamed t
IsWellState (statement_read hyps t) = AreNamed hyps × IsNamed t
IsWellState (entry_due es) = AreEntries es
IsWellState (entry_name_due es first) = AreEntries es
IsWellState (equals_due es first name) = AreEntries es × IsEntryName name
IsWellState (brace_due es first name) = AreEntries es × IsEntryName name
IsWellState (brace_close_due es e) = AreEntries es × IsEntry e

named_onto : (ts : List Typ) → AreNamedList ts → AreNamedTypes (typs ts)
named_onto [] w = tt
named_onto (t ∷ ts) w = (w.0, named_onto ts w.1)

types_push : (ts : List Typ) (t : Typ) → AreNamedList ts → IsNamedType t → AreNamedList (ts ++ t ∷ [])
types_push [] t w n = (n, tt)
types_push (x ∷ xs) t w n = (w.0, types_push xs t w.1 n)

terms_push : (ts : List Tm) (t : Tm) → AreNamed ts → IsNamed t → AreNamed (ts ++ t ∷ [])
terms_push [] t w n = (n, tt)
terms_push (x ∷ xs) t w n = (w.0, terms_push xs t w.1 n)

entries_push : (es : List Entry) (e : Entry) → AreEntries es → IsEntry e → AreEntries (es ++ e ∷ [])
entries_push [] e w n = (n, tt)
entries_push (x ∷ xs) e w n = (w.0, entries_push xs e w.1 n)

-- after a term and after a type the state is well
well_whole : (t : Tm) (root : Root) → IsNamed t → IsWellRoot root → IsWellState (after_whole t root)
well_whole t alone n w = n
well_whole t (hypothesis hyps) n w = terms_push hyps t w n
well_whole t (conclusion hyps) n w = (w, n)
well_whole t (body es at name brace) n w = (w.0, record { named = w.1.0; allowed = w.1.1; terms = n })

well_part : (t : Tm) (root : Root) (fs : List Frame) → IsNamed t → IsWellRoot root → AreWellFrames fs → IsWellState (after_part t root fs)
well_part t root [] n w f = well_whole t root n w
well_part t root (function_part ∷ fs) n w f = (w, (n, f))
well_part t root (argument_part g ∷ fs) n w f = ((f.0, n), (w, f.1))
well_part t root (body_part s ∷ fs) n w f = ((f.0, n), (w, f.1))

well_type : (s : Typ) (role : Use) (nest : Nest) → IsNamedType s → IsWellUse role → IsWellNest nest → IsWellState (after_type s role nest)
well_type s (free_type name) nest n u w = ((u, n), w)
well_type s (constant_type name) nest n u w = ((u, n), w)
well_type s bound_type nest n u w = (w.0, (n, w.1))

well_argument : (s : Typ) (role : Use) (ps : List Partial) (nest : Nest) → IsNamedType s → IsWellUse role → AreWellPartials ps → IsWellNest nest → IsWellState (after_argument s role ps nest)
well_argument s role [] nest n u p w = well_type s role nest n u w
well_argument s role (q ∷ qs) nest n u p w = (u, (p.0, types_push q.args s p.1 n, p.2), w)

well_closed : (role : Use) (ps : List Partial) (nest : Nest) → IsWellUse role → AreWellPartials ps → IsWellNest nest → IfSome (closed_type role ps nest) IsWellState
well_closed role [] nest u p w = tt
well_closed role (q ∷ qs) nest u p w = well_argument (applied q.name (typs q.args)) role qs nest (p.0, named_onto q.args p.1) u p.2 w

well_variable : (bytes : List ℕ) (role : Use) (ps : List Partial) (nest : Nest) → IsWellUse role → AreWellPartials ps → IsWellNest nest → IfSome (variable_word bytes role ps nest) IsWellState
well_variable [] role ps nest u p w = tt
well_variable (b ∷ name) role ps nest u p w =
    where_true (b == 39 && is_name name) _ None IsWellState (λ e. well_argument (variable name) role ps nest (both (b == 39) (is_name name) e).1 u p w) tt

well_form : (bytes : List ℕ) (nest : Nest) → IsWellNest nest → IfSome (form_word bytes nest) IsWellState
well_form [] nest w = tt
well_form (b ∷ []) nest w =
    where_true (b == 98) _ _ IsWellState (λ _. w) (where_true (b == 118) _ _ IsWellState (λ _. w) (where_true (b == 99) _ _ IsWellState (λ _. w)
    (where_true (b == 97) _ _ IsWellState (λ _. w) (where_true (b == 108) _ None IsWellState (λ _. (tt, tt, w)) tt))))
well_form (b ∷ c ∷ bs) nest w = tt

small : (w : List ℕ) → is_numeral w ≡ true → read_on 0 w < 2 ^ 32
small w e = (Decides-ltb (read_on 0 w) (2 ^ 32)).0 (both (is_plain w && all_ascii_digits w) (nat_lt (read_on 0 w) (2 ^ 32)) e).1

-- a token keeps the state well
well_step : (s : State) (token : Token) (at : ℕ) → IsWellState s → IfSome (step s token at) IsWellState
unfolding step
well_step (term_due nest) left at h = h
well_step (form_due nest) (word w) at h = well_form w nest h
well_step (number_due nest) (word w) at h = where_true (is_numeral w) _ None IsWellState (λ e. (small w e, h)) tt
well_step (free_name_due nest) (word w) at h = where_true (is_name w) _ None IsWellState (λ e. (e, tt, h)) tt
well_step (constant_name_due nest) (word w) at h = where_true (is_name w) _ None IsWellState (λ e. (e, tt, h)) tt
well_step (type_due role ps nest) (word w) at h = well_variable w role ps nest h.0 h.1 h.2
well_step (type_due role ps nest) left at h = h
well_step (type_due role ps nest) right at h = well_closed role ps nest h.0 h.1 h.2
well_step (type_name_due role ps nest) (word w) at h = where_true (is_name w) _ None IsWellState (λ e. (h.0, (e, tt, h.1), h.2)) tt
well_step (close_due t nest) right at h = well_part t nest.root nest.frames h.0 h.1.0 h.1.1
well_step statement_due left at h = tt
well_step s_due (word w) at h = where_true (bytes_eq w (codes "s")) _ None IsWellState (λ _. tt) tt
well_step hypotheses_due left at h = tt
well_step h_due (word w) at h = where_true (bytes_eq w (codes "h")) _ None IsWellState (λ _. tt) tt
well_step (hypothesis_due hyps) left at h = (h, tt)
well_step (hypothesis_due hyps) right at h = (h, tt)
well_step (end_due hyps t) right at h = h
well_step (entry_due es) (word w) at h = where_true (bytes_eq w (codes "definition")) _ None IsWellState (λ _. h) tt
well_step (entry_name_due es first) (word w) at h =
    where_true (is_name w && not (is_reserved w)) _ None IsWellState (λ e. let b = both (is_name w) (not (is_reserved w)) e in (h, (b.0, not-true (is_reserved w) b.1))) tt
well_step (equals_due es first name) equals at h = h
well_step (brace_due es first name) brace_left at h = (h, tt)
well_step (brace_close_due es e) brace_right at h = entries_push es e h.0 h.1
well_step _ _ at h = tt

well_end : (s : State) (p : Parsed) → IsWellState s → finish s ≡ Some p → IsWell p
unfolding finish
well_end (term_read t) p h e = subst IsWell (same_Some (a_term t) p e) h
well_end (statement_read hyps t) p h e = subst IsWell (same_Some (a_statement hyps t) p e) h
well_end (entry_due es) p h e = subst IsWell (same_Some (entries es) p e) h
well_end _ p h e = absurd (none-some p e)

well_next : (o : Option State) (ts : List Placed) (p : Parsed) → IfSome o IsWellState → ((next : State) → IsWellState next → finishes next ts ≡ Some p → IsWell p) → option_and_then (λ next. finishes next ts) o ≡ Some p → IsWell p
well_next None ts p h f e = absurd (none-some p e)
well_next (Some next) ts p h f e = f next h e

well : (ts : List Placed) (s : State) (p : Parsed) → IsWellState s → finishes s ts ≡ Some p → IsWell p
well [] s p h e = well_end s p h e
well (t ∷ ts) s p h e = well_next (step s t.token t.at) ts p (well_step s t.token t.at h) (λ next. well ts next p) e

well_start : (k : Kind) → IsWellState (start k)
well_start of_term = (tt, tt)
well_start of_statement = tt
well_start of_file = tt

-- what tokens are read as is well
pub well_from : (k : Kind) (ts : List Placed) (p : Parsed) → finishes (start k) ts ≡ Some p → IsWell p
well_from k ts p e = well ts (start k) p (well_start k) e
