-- The laws of the whole completion.
use Rattle.std.proofs.Common.{◌≡◌, ◌∙◌, ◌≤◌, ◌<◌, ◌+◌, ◌^◌, ℕ, Bool, true, false, cond, ◌&&◌, List, [], ◌∷◌, ◌++◌, refl, sym, ap, arith}
use Rattle.std.specs.Prelude.{Option, Some, None, Result, Ok, Err, length}
use Rattle.std.specs.Fmt.{decimal}
use Rattle.std.specs.Str.{bytes_eq}
use Rattle.std.specs.Str.Parse.{digits_value}
use Rattle.std.proofs.lemmas.Fmt.{decimal_is_IsNumeral}
use Rattle.std.proofs.lemmas.Option.{none-some}
use Rattle.std.proofs.lemmas.Slice.Eq.{bytes_eq-Decides}
use Rattle.fp_term.specs.Types.{Typ, type_eq}
use Rattle.fp_term.specs.Terms.{Tm, bound, free, constant, app, abs}
use Rattle.fp_term.proofs.Equal.{type_eq-decides}
use Rattle.fp_term.specs.declared.signature.Signature.{Signature}
use Rattle.fp_group.specs.declared.constructors.ConTable.{ConTable}
use Rattle.fp_group.specs.declared.clause.Clause.{Clause}
use Rattle.fp_group.specs.declared.clause.Head.{Head}
use Rattle.fp_pattern.specs.declared.faults.PatternFault.{PatternFault}
use Rattle.fp_pattern.specs.Patterns.{is_pattern}
use Rattle.fp_pattern.specs.Subtraction.{numbered}
use Rattle.fp_pattern.specs.Values.{Value, AreValues, no_values, and_value, all_match, a_variable, ArePatternsOf, no_patterns, and_pattern, has, any_has, IsLinear, AreLinear, IsFine}
use Rattle.fp_pattern.specs.Completed.{is_seen, then_seen, noted, after_noted, or_fault, argument_fault, form_fault, undefined_clause, variables_from, IsCompletion, malformed, refused, added}
use Rattle.fp_pattern.specs.Laws.{AreFit, AreTyped, MatchOnce}
use Rattle.fp_pattern.proofs.Matching.{by_cases, or_cases, or_true}
use Rattle.fp_pattern.proofs.Fresh.{is_that, both_ways}
use Rattle.fp_pattern.specs.Conditions.{HasConstructors}
use Rattle.fp_pattern.proofs.Bridge.{ArePatterns, typed_patterns}
use Rattle.fp_pattern.proofs.Once.{completes_covers, adds_once}

-- different numbers have different names
numbered_differ : (n m : ℕ) → n < 2 ^ 64 → m < 2 ^ 64 → numbered n ≡ numbered m → n ≡ m
numbered_differ n m h k e =
    let d : decimal n ≡ decimal m = cc in
    sym (decimal_is_IsNumeral n h).1 ∙ ap (digits_value 10) d ∙ (decimal_is_IsNumeral m k).1

any_from : (n : ℕ) (ss : List Typ) (y : List ℕ) (s : Typ) (P : Type 0) → ((k : ℕ) → n ≤ k → k < n + length ss → y ≡ numbered k → P) → any_has y s (variables_from n ss) ≡ true → P
any_from n [] y s P f e = cc
any_from n (a ∷ ss) y s P f e =
    or_cases (has y s (free (numbered n) a)) (any_has y s (variables_from (n + 1) ss)) P (λ h. f n (omega arith) (omega arith) (is_that y (numbered n) s a h).0)
    (any_from (n + 1) ss y s P (λ k le lt e'. f k (omega arith) (omega arith) e')) e

linear_from : (n : ℕ) (ss : List Typ) → n + length ss ≤ 2 ^ 64 → AreLinear (variables_from n ss)
linear_from n [] h = tt
linear_from n (a ∷ ss) h = (
  tt,
  (
    linear_from (n + 1) ss (omega arith),
    λ y s i j.
        any_from (n + 1) ss y s ⊥
        (λ k le lt e.
        let same : n ≡ k = numbered_differ n k (omega arith) (omega arith) (sym (is_that y (numbered n) s a i).0 ∙ e) in
        let no : ⊥ = omega arith in
        no) j,
  ),
)

typed_from : (table : ConTable) (sig : Signature) (n : ℕ) (ss : List Typ) → ArePatternsOf table sig ss (variables_from n ss)
typed_from table sig n [] = no_patterns
typed_from table sig n (s ∷ ss) = and_pattern s ss (free (numbered n) s) (variables_from (n + 1) ss) (a_variable s (numbered n)) (typed_from table sig (n + 1) ss)

pub match_from : (table : ConTable) (sig : Signature) (d n : ℕ) (ss : List Typ) (vs : List Value) → AreValues table sig d ss vs → all_match (variables_from n ss) vs ≡ true
match_from table sig d n _ _ no_values = refl
match_from table sig d n _ _ (and_value s ss v vs one more) = match_from table sig d (n + 1) ss vs more

-- what noting the variables of a term tells
record IsNoted (seen : List (List ℕ × Typ)) (p : Tm) (more : List (List ℕ × Typ)) : Type 0 where
  linear : IsLinear p
  new : (x : List ℕ) (s : Typ) → has x s p ≡ true → is_seen seen x s ≡ false
  kept : (x : List ℕ) (s : Typ) → is_seen seen x s ≡ true → is_seen more x s ≡ true
  known : (x : List ℕ) (s : Typ) → has x s p ≡ true → is_seen more x s ≡ true

seen_append : (seen other : List (List ℕ × Typ)) (x : List ℕ) (s : Typ) → is_seen seen x s ≡ true → is_seen (seen ++ other) x s ≡ true
seen_append [] other x s e = cc
seen_append (k ∷ seen) other x s e = or_cases (bytes_eq k.0 x && type_eq k.1 s) (is_seen seen x s) _ (λ i. rw i refl) (λ i. rw (seen_append seen other x s i) (or_true (bytes_eq k.0 x && type_eq k.1 s))) e

seen_last : (seen : List (List ℕ × Typ)) (x : List ℕ) (s : Typ) → is_seen (seen ++ (x, s) ∷ []) x s ≡ true
seen_last [] x s = rw ((bytes_eq-Decides x x).1 refl, (type_eq-decides s s).1 refl) refl
seen_last (k ∷ seen) x s = rw (seen_last seen x s) (or_true (bytes_eq k.0 x && type_eq k.1 s))

noted_variable : (b : Bool) (seen : List (List ℕ × Typ)) (x : List ℕ) (s : Typ) (more : List (List ℕ × Typ)) → is_seen seen x s ≡ b → cond {A = Result (List (List ℕ × Typ)) (List ℕ)} b (Err x) (Ok (seen ++ (x, s) ∷ [])) ≡ Ok more → IsNoted seen (free x s) more
noted_variable true seen x s more e f = cc
noted_variable false seen x s more e f =
    let same : seen ++ (x, s) ∷ [] ≡ more = cc in
    record {
      linear = tt;
      new = λ y t h. rw ((is_that y x t s h).0, (is_that y x t s h).1) e;
      kept = λ y t h. rw (← same) (seen_append seen ((x, s) ∷ []) y t h);
      known = λ y t h. rw (← same, (is_that y x t s h).0, (is_that y x t s h).1) (seen_last seen x s);
    }

then_cases : (o : Result (List (List ℕ × Typ)) (List ℕ)) (next : List (List ℕ × Typ) → Result (List (List ℕ × Typ)) (List ℕ)) (more : List (List ℕ × Typ)) (P : Type 0) → ((seen : List (List ℕ × Typ)) → o ≡ Ok seen → next seen ≡ Ok more → P) → then_seen o next ≡ Ok more → P
then_cases (Ok seen) next more P f e = f seen refl e
then_cases (Err name) next more P f e = cc

noted_linear : (seen : List (List ℕ × Typ)) (p : Tm) (more : List (List ℕ × Typ)) → noted seen p ≡ Ok more → IsNoted seen p more
noted_linear seen (free x s) more e = noted_variable (is_seen seen x s) seen x s more refl e
noted_linear seen (app f y) more e =
    then_cases (noted seen f) (λ between. noted between y) more _
    (λ between i j.
    let g = noted_linear seen f between i in
    let h = noted_linear between y more j in
    record {
      linear = (g.linear, (h.linear, λ x s k l. both_ways (is_seen between x s) (g.known x s k) (h.new x s l)));
      new = λ x s k. or_cases (has x s f) (has x s y) _ (g.new x s) (λ l. by_cases (is_seen seen x s) _ (λ m. absurd (both_ways (is_seen between x s) (g.kept x s m) (h.new x s l))) (λ m. m)) k;
      kept = λ x s k. h.kept x s (g.kept x s k);
      known = λ x s k. or_cases (has x s f) (has x s y) _ (λ l. h.kept x s (g.known x s l)) (h.known x s) k;
    }) e
noted_linear seen (bound n) more e = let same : seen ≡ more = cc in record { linear = tt; new = λ x s k. cc; kept = λ x s k. rw (← same) k; known = λ x s k. cc }
noted_linear seen (constant a t) more e = let same : seen ≡ more = cc in record { linear = tt; new = λ x s k. cc; kept = λ x s k. rw (← same) k; known = λ x s k. cc }
noted_linear seen (abs t y) more e = let same : seen ≡ more = cc in record { linear = tt; new = λ x s k. cc; kept = λ x s k. rw (← same) k; known = λ x s k. cc }

record AreNoted (table : ConTable) (seen : List (List ℕ × Typ)) (ps : List Tm) : Type 0 where
  patterns : ArePatterns table ps
  linear : AreLinear ps
  new : (x : List ℕ) (s : Typ) → any_has x s ps ≡ true → is_seen seen x s ≡ false

after_cases : (o : Result (List (List ℕ × Typ)) (List ℕ)) (i : ℕ) (next : List (List ℕ × Typ) → Option PatternFault) (P : Type 0) → ((seen : List (List ℕ × Typ)) → o ≡ Ok seen → next seen ≡ None → P) → after_noted o i next ≡ None → P
after_cases (Ok seen) i next P f e = f seen refl e
after_cases (Err name) i next P f e = absurd (none-some _ (sym e))

pattern_cases : (b : Bool) (x : Option PatternFault) (y : PatternFault) → cond b x (Some y) ≡ None → (b ≡ true) × (x ≡ None)
pattern_cases true x y e = (refl, e)
pattern_cases false x y e = absurd (none-some _ (sym e))

arguments_linear : (table : ConTable) (i j : ℕ) (seen : List (List ℕ × Typ)) (ps : List Tm) → argument_fault table i j seen ps ≡ None → AreNoted table seen ps
arguments_linear table i j seen [] e = record { patterns = tt; linear = tt; new = λ x s h. cc }
arguments_linear table i j seen (p ∷ ps) e =
    let q = pattern_cases (is_pattern table p) (after_noted (noted seen p) i (λ more. argument_fault table i (j + 1) more ps)) _ e in
    after_cases (noted seen p) i (λ more. argument_fault table i (j + 1) more ps) _
    (λ between k l.
    let g = noted_linear seen p between k in
    let h = arguments_linear table i (j + 1) between ps l in
    record {
      patterns = (q.0, h.patterns);
      linear = (g.linear, (h.linear, λ x s m n. both_ways (is_seen between x s) (g.known x s m) (h.new x s n)));
      new = λ x s m. or_cases (has x s p) (any_has x s ps) _ (g.new x s) (λ n. by_cases (is_seen seen x s) _ (λ o. absurd (both_ways (is_seen between x s) (g.kept x s o) (h.new x s n))) (λ o. o)) m;
    })
    q.1

none_of_faults : (a b : Option PatternFault) → or_fault a b ≡ None → (a ≡ None) × (b ≡ None)
none_of_faults None b e = (refl, e)
none_of_faults (Some f) b e = absurd (none-some f (sym e))

pub fit_of_form : (table : ConTable) (sig : Signature) → HasConstructors table sig → (k : ℕ) (ss : List Typ) (d n : ℕ) (cs : List Clause) → form_fault table n cs ≡ None → AreTyped table sig k ss d cs → AreFit table sig k ss d cs
fit_of_form table sig have k ss d n [] e h = tt
fit_of_form table sig have k ss d n (c ∷ cs) e h =
    let o = none_of_faults (argument_fault table n 1 [] c.patterns) (form_fault table (n + 1) cs) e in
    let a = arguments_linear table n 1 [] c.patterns o.0 in
    ((λ own. (record { typed = typed_patterns table sig have ss c.patterns a.patterns (h.0 own).0; linear = a.linear }, (h.0 own).1)), fit_of_form table sig have k ss d (n + 1) cs o.1 h.1)

pub fine_start : (table : ConTable) (sig : Signature) (k : ℕ) (head : Head) → length head.args < 2 ^ 32 → IsFine table sig head.args (undefined_clause k head)
fine_start table sig k head small = record { typed = typed_from table sig 1 head.args; linear = linear_from 1 head.args (omega arith) }

-- each list of values matches exactly one clause
pub completion_once : (table : ConTable) (sig : Signature) (clauses : List Clause) (heads : List Head) (r : Result (List Clause) PatternFault) (all : List Clause) → IsCompletion table sig clauses heads r → r ≡ Ok all → MatchOnce table sig clauses heads all
completion_once table sig clauses heads _ all (malformed fault bad) e = cc
completion_once table sig clauses heads _ all (refused fault fine bad) e = cc
completion_once table sig clauses heads _ all (added out r fine done add) e =
    λ distinct have k d head vs at small typed values.
    let fits = fit_of_form table sig have k head.args d 1 clauses fine typed in
    let covers = completes_covers table sig distinct k d head.args vs values heads [] clauses [] (Ok out) out tt fits refl done refl in
    let own : IsFine table sig head.args (undefined_clause k head) = record { typed = typed_from table sig 1 head.args; linear = linear_from 1 head.args (omega arith) } in
    adds_once table sig distinct k d head.args vs values clauses fits k 0 heads out r all head (omega arith) at refl own (match_from table sig d 1 head.args vs values) covers add e
