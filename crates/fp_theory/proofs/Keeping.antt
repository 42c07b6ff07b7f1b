-- What every theory keeps is kept by what is done to it.
use Rattle.std.proofs.Common.{◌≡◌, ◌∙◌, ℕ, min, Bool, true, false, cond, List, [], ◌∷◌, ◌++◌, Bor, refl, sym, subst}
use Rattle.std.specs.Prelude.{Option, Some, None, codes, Result, Ok, Err, IfOk, OnOk, OnErr, IfSome}
use Rattle.std.specs.Option.{option_copied}
use Rattle.std.specs.Str.{bytes_eq}
use Rattle.std.proofs.lemmas.Option.{none-some, same_Some}
use Rattle.std.proofs.lemmas.List.{append_assoc, append_cancel_left}
use Rattle.std.proofs.lemmas.Slice.Eq.{bytes_eq-Decides}
use Rattle.fp_term.specs.Terms.{Tm}
use Rattle.fp_term.proofs.Choices.{chosen, chosen_alike}
use Rattle.fp_kernel.specs.Definitions.{Def, whole, newer, new_constant, new_type}
use Rattle.fp_kernel.specs.Theorems.{Theorem, plain}
use Rattle.fp_kernel.specs.Defining.{Defines, DefinesType}
use Rattle.fp_theory.specs.State.{State, found_theorem, IsNoted, AreNoted, IsTheory, IsRewriteRule, IsCongRule, AreRewriteRules, AreCongRules, with_theorem, with_named, with_simp, with_cong, over}
use Rattle.fp_theory.specs.Start.{start}
use Rattle.fp_theory.specs.Defining.{abs_rep_name, rep_abs_name}
use Rattle.fp_theory.specs.Changes.{least_with, least_number}

-- what is found can be named
pub found_noted : (defs : List Def) (named : List (List ℕ × Theorem)) (name : List ℕ) (th : Theorem) → AreNoted defs named → found_theorem name named ≡ Some th → IsNoted defs th
found_noted defs [] name th h e = absurd (none-some th e)
found_noted defs (m ∷ ms) name th h e =
    chosen (bytes_eq m.0 name) _ _ _ (IsNoted defs th) (λ _ f. subst (IsNoted defs) (same_Some m.1 th f) h.0) (λ _ f. found_noted defs ms name th h.2 f) e

-- a definition more
one_newer : (d : Def) (defs : List Def) (named : List (List ℕ × Theorem)) → AreNoted defs named → AreNoted (d ∷ defs) named
one_newer d defs [] h = tt
one_newer d defs (m ∷ ms) h = (record { hyps = h.0.hyps; promises = h.0.promises; within = newer d h.0.within }, h.1, one_newer d defs ms h.2)

-- another name isn't found at the end
unequal : (a b : List ℕ) → bytes_eq a b ≡ false → bytes_eq b a ≡ false
unequal a b e = elim (bytes_eq b a) as (λ r. bytes_eq b a ≡ r → r ≡ false)
    [ true ↦ (λ f. let g : bytes_eq a b ≡ true = (bytes_eq-Decides a b).1 (sym ((bytes_eq-Decides b a).0 f)) in cc) | false ↦ (λ f. refl) ] refl

still_none : (named : List (List ℕ × Theorem)) (name other : List ℕ) (th : Theorem) → found_theorem name named ≡ None → bytes_eq other name ≡ false →
    found_theorem name (named ++ (other, th) ∷ []) ≡ None
still_none [] name other th e f = rw f refl
still_none (m ∷ ms) name other th e f =
    chosen (bytes_eq m.0 name) _ _ _ (found_theorem name (m ∷ ms ++ (other, th) ∷ []) ≡ None) (λ _ g. absurd (none-some m.1 (sym g))) (λ no g. rw no (still_none ms name other th g f)) e

apart : (b : Bool) (th : Theorem) (o : Option Theorem) → cond b (Some th) o ≡ None → b ≡ false
apart true th o e = absurd (none-some th (sym e))
apart false th o e = refl

none_later : (b : Bool) (th : Theorem) (o : Option Theorem) → cond b (Some th) o ≡ None → o ≡ None
none_later true th o e = absurd (none-some th (sym e))
none_later false th o e = e

-- a theorem of a new name more
pub noted_pushed : (defs : List Def) (named : List (List ℕ × Theorem)) (name : List ℕ) (th : Theorem) → AreNoted defs named → found_theorem name named ≡ None → IsNoted defs th →
    AreNoted defs (named ++ (name, th) ∷ [])
noted_pushed defs [] name th h e k = (k, refl, tt)
noted_pushed defs (m ∷ ms) name th h e k = (
  h.0,
  still_none ms m.0 name th h.1 (unequal m.0 name (apart (bytes_eq m.0 name) m.1 (found_theorem name ms) e)),
  noted_pushed defs ms name th h.2 (none_later (bytes_eq m.0 name) m.1 (found_theorem name ms) e) k,
)

-- what is found is found with more at the end
still_found : (named : List (List ℕ × Theorem)) (entry : List ℕ × Theorem) (name : List ℕ) (th : Theorem) → found_theorem name named ≡ Some th →
    found_theorem name (named ++ entry ∷ []) ≡ Some th
still_found [] entry name th e = absurd (none-some th e)
still_found (m ∷ ms) entry name th e = chosen_alike (bytes_eq m.0 name) _ _ _ _ _ _ (λ _ f. f) (λ _ f. still_found ms entry name th f) e

simps_stay : (named : List (List ℕ × Theorem)) (entry : List ℕ × Theorem) (names : List (List ℕ)) → AreRewriteRules named names → AreRewriteRules (named ++ entry ∷ []) names
simps_stay named entry [] h = tt
simps_stay named entry (name ∷ names) h = (
  record { theorem = h.0.theorem; found = still_found named entry name h.0.theorem h.0.found; rule = h.0.rule; reads = h.0.reads },
  simps_stay named entry names h.1,
)

congs_stay : (named : List (List ℕ × Theorem)) (entry : List ℕ × Theorem) (names : List (List ℕ)) → AreCongRules named names → AreCongRules (named ++ entry ∷ []) names
congs_stay named entry [] h = tt
congs_stay named entry (name ∷ names) h = (
  record { theorem = h.0.theorem; found = still_found named entry name h.0.theorem h.0.found; rule = h.0.rule; reads = h.0.reads },
  congs_stay named entry names h.1,
)

-- a declared rule more
simps_with : (named : List (List ℕ × Theorem)) (names : List (List ℕ)) (name : List ℕ) → AreRewriteRules named names → IsRewriteRule named name → AreRewriteRules named (names ++ name ∷ [])
simps_with named [] name h k = (k, tt)
simps_with named (n ∷ names) name h k = (h.0, simps_with named names name h.1 k)

congs_with : (named : List (List ℕ × Theorem)) (names : List (List ℕ)) (name : List ℕ) → AreCongRules named names → IsCongRule named name → AreCongRules named (names ++ name ∷ [])
congs_with named [] name h k = (k, tt)
congs_with named (n ∷ names) name h k = (h.0, congs_with named names name h.1 k)

pub theory_with_simp : (state : State) (name : List ℕ) → IsTheory state → IsRewriteRule state.named name → IsTheory (with_simp name state)
theory_with_simp state name h k = record { noted = h.noted; simps = simps_with state.named state.simps name h.simps k; congs = h.congs }

pub theory_with_cong : (state : State) (name : List ℕ) → IsTheory state → IsCongRule state.named name → IsTheory (with_cong name state)
theory_with_cong state name h k = record { noted = h.noted; simps = h.simps; congs = congs_with state.named state.congs name h.congs k }

theory_pushed : (state : State) (name : List ℕ) (th : Theorem) → IsTheory state → found_theorem name state.named ≡ None → IsNoted state.defs th → IsTheory (with_theorem name th state)
theory_pushed state name th h e k = record {
  noted = noted_pushed state.defs state.named name th h.noted e k;
  simps = simps_stay state.named (name, th) state.simps h.simps;
  congs = congs_stay state.named (name, th) state.congs h.congs;
}

theory_newer : (state : State) (d : Def) → IsTheory state → IsTheory (over (d ∷ state.defs) state)
theory_newer state d h = record { noted = one_newer d state.defs state.named h.noted; simps = h.simps; congs = h.congs }

-- over a longer list
theory_over : (state : State) (defs : List Def) (d : Def) → defs ≡ d ∷ state.defs → IsTheory state → IsTheory (over defs state)
theory_over state defs d e h = subst (λ l. IsTheory (over l state)) (sym e) (theory_newer state d h)

plain_noted : (defs : List Def) (p : Tm) (th : Theorem) → th ≡ plain defs p → IsNoted defs th
plain_noted defs p th e = subst (IsNoted defs) (sym e) (record { hyps = refl; promises = refl; within = whole })

theory_defined : (state : State) (defs : List Def) (name label : List ℕ) (body : Tm) (th : Theorem) → IsTheory state → found_theorem label state.named ≡ None → Defines state.defs defs name body th →
    IsTheory (with_theorem label th (over defs state))
theory_defined state defs name label body th h e d =
    theory_pushed (over defs state) label th (theory_over state defs (new_constant name d.type body) d.list h) e (plain_noted defs _ th d.theorem)

not_both : (b : Bool) → b ≡ true → b ≡ false → ⊥
not_both b e f = cc

-- the endings of the theorems' names differ
pub endings : (name : List ℕ) → bytes_eq (abs_rep_name name) (rep_abs_name name) ≡ false
endings name = elim (bytes_eq (abs_rep_name name) (rep_abs_name name)) as (λ r. bytes_eq (abs_rep_name name) (rep_abs_name name) ≡ r → r ≡ false) [
  | true ↦ (λ f. let same = append_cancel_left name (codes "_abs_rep") (codes "_rep_abs") ((bytes_eq-Decides (abs_rep_name name) (rep_abs_name name)).0 f) in
      absurd (not_both (bytes_eq (codes "_abs_rep") (codes "_rep_abs")) ((bytes_eq-Decides (codes "_abs_rep") (codes "_rep_abs")).1 same) refl))
  | false ↦ (λ f. refl)
] refl

theory_with_type : (state : State) (defs : List Def) (name abstract represent label other : List ℕ) (inhabited first second : Theorem) → IsTheory state →
    found_theorem label state.named ≡ None → found_theorem other state.named ≡ None → bytes_eq label other ≡ false → DefinesType state.defs defs name abstract represent inhabited first second →
    IsTheory (with_theorem other second (with_theorem label first (over defs state)))
theory_with_type state defs name abstract represent label other inhabited first second h e f unlike d =
    let longer = theory_over state defs (new_type name d.params d.predicate d.inhabitant abstract represent) d.list h in
    let one = theory_pushed (over defs state) label first longer e (plain_noted defs _ first d.first_theorem) in
    theory_pushed (with_theorem label first (over defs state)) other second one
    (still_none state.named other label first f unlike) (plain_noted defs _ second d.second_theorem)

some_least : (n : ℕ) (o : Option ℕ) → least_with n o ≡ None → ⊥
some_least n None e = none-some n (sym e)
some_least n (Some m) e = none-some (min n m) (sym e)

-- the theory of the start
noted_at_start : (p : Tm) → IsNoted [] (plain [] p)
noted_at_start p = record { hyps = refl; promises = refl; within = whole }

pub start_theory : IsTheory start
start_theory = record {
  noted = (
    noted_at_start _,
    refl,
    (
      noted_at_start _,
      refl,
      (
        noted_at_start _,
        refl,
        (
          noted_at_start _,
          refl,
          (
            noted_at_start _,
            refl,
            (
              noted_at_start _,
              refl,
              (
                noted_at_start _,
                refl,
                (noted_at_start _, refl, (noted_at_start _, refl, (noted_at_start _, refl, (noted_at_start _, refl, tt)))),
              ),
            ),
          ),
        ),
      ),
    ),
  );
  simps = tt;
  congs = tt;
}

-- what a call leaves that names a theorem, that defines a constant and that defines a type
pub theory_added : {A E : Type 0} (state : State) (named : List (List ℕ × Theorem)) (name : List ℕ) (th : Theorem) (r : Result A E) → IsTheory state →
    found_theorem name state.named ≡ None → IsNoted state.defs th → OnOk r (named ≡ state.named ++ (name, th) ∷ []) → OnErr r (named ≡ state.named) → IsTheory (with_named named state)
theory_added state named name th (Ok u) h free noted e f = subst (λ l. IsTheory (with_named l state)) (sym e) (theory_pushed state name th h free noted)
theory_added state named name th (Err x) h free noted e f = subst (λ l. IsTheory (with_named l state)) (sym f) h

pub theory_after : {E : Type 0} (state : State) (defs : List Def) (named : List (List ℕ × Theorem)) (name label : List ℕ) (body : Tm) (r : Result Theorem E) → IsTheory state →
    found_theorem label state.named ≡ None → IfOk r (Defines state.defs defs name body) → IfOk r (λ th. named ≡ state.named ++ (label, th) ∷ []) →
    OnErr r (defs ≡ state.defs) → OnErr r (named ≡ state.named) → IsTheory (with_named named (over defs state))
theory_after state defs named name label body (Ok th) h free d n e f =
    subst (λ l. IsTheory (with_named l (over defs state))) (sym n) (theory_defined state defs name label body th h free d)
theory_after state defs named name label body (Err x) h free d n e f =
    subst (λ l. IsTheory (with_named l (over defs state))) (sym f) (subst (λ l. IsTheory (over l state)) (sym e) h)

pub theory_after_type : {E : Type 0} (state : State) (defs : List Def) (named : List (List ℕ × Theorem)) (name abstract represent first second : List ℕ) (inhabited : Theorem)
    (r : Result (Theorem × Theorem) E) → IsTheory state → found_theorem first state.named ≡ None → found_theorem second state.named ≡ None → bytes_eq first second ≡ false →
    IfOk r (λ p. DefinesType state.defs defs name abstract represent inhabited p.0 p.1) → IfOk r (λ p. named ≡ state.named ++ (first, p.0) ∷ (second, p.1) ∷ []) →
    OnErr r (defs ≡ state.defs) → OnErr r (named ≡ state.named) → IsTheory (with_named named (over defs state))
theory_after_type state defs named name abstract represent first second inhabited (Ok p) h free other_free apart d n e f =
    subst (λ l. IsTheory (with_named l (over defs state))) (append_assoc state.named ((first, p.0) ∷ []) ((second, p.1) ∷ []) ∙ sym n)
    (theory_with_type state defs name abstract represent first second inhabited p.0 p.1 h free other_free apart d)
theory_after_type state defs named name abstract represent first second inhabited (Err x) h free other_free apart d n e f =
    subst (λ l. IsTheory (with_named l (over defs state))) (sym f) (subst (λ l. IsTheory (over l state)) (sym e) h)

-- what is found, where something is
pub noted_if : (defs : List Def) (named : List (List ℕ × Theorem)) (name : List ℕ) (o : Option (Bor Theorem)) → AreNoted defs named → option_copied o ≡ found_theorem name named →
    IfSome o (λ th. IsNoted defs th.now)
noted_if defs named name (Some th) h e = found_noted defs named name th.now h (sym e)
noted_if defs named name None h e = tt

-- without a least number there is no promise
pub no_promises : (promises : List (ℕ × Tm)) → least_number promises ≡ None → promises ≡ []
no_promises [] e = refl
no_promises (p ∷ promises) e = absurd (some_least p.0 (least_number promises) e)
