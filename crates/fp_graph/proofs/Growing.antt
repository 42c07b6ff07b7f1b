-- A theory that grows by definitions.
use Rattle.std.proofs.Common.{◌≡◌, ◌∙◌, ℕ, zero, suc, ◌+◌, ◌≤◌, ◌<◌, List, [], ◌∷◌, ◌++◌, length, take, drop, get_or, refl, sym, ap, subst, arith, length-append}
use Rattle.std.specs.Prelude.{Result, Ok, Err, IsErrAnd, IfErr}
use Rattle.std.proofs.lemmas.List.{drop_more, drop_all, append_assoc, append-nil}
use Rattle.fp_term.specs.Terms.{Tm}
use Rattle.fp_kernel.specs.Definitions.{oldest}
use Rattle.fp_kernel.specs.Theorems.{Theorem}
use Rattle.fp_kernel.specs.Defining.{FaultIs}
use Rattle.fp_kernel.specs.declared.fault.DefFault.{DefFault}
use Rattle.fp_kernel.proofs.Oldest.{oldest_all, oldest_step}
use Rattle.fp_theory.specs.State.{State, with_theorem, over}
use Rattle.fp_theory.specs.Defining.{def_name, defining_in, DefinesIn}
use Rattle.fp_theory.specs.Changes.{IsAtMost, cut_to}
use Rattle.fp_theory.specs.declared.mark.Mark.{Mark}
use Rattle.fp_graph.specs.Each.{DefinesEach, none, next, RefusesAt, here, later, Extends}

abbrev Terms : Type 0
Terms = List (List ℕ × Tm)

-- lists that are cut
take_all : {X : Type 0} → (n : ℕ) (xs : List X) → n ≡ length xs → take n xs ≡ xs
take_all n [] e = rw e refl
take_all n (x ∷ xs) e = rw e (ap (λ ys. x ∷ ys) (take_all (length xs) xs refl))

take_before : {X : Type 0} → (n : ℕ) (xs ys : List X) → n ≤ length xs → take n (xs ++ ys) ≡ take n xs
take_before zero xs ys h = refl
take_before (suc n) [] ys h = absurd (omega (arith, h))
take_before (suc n) (x ∷ xs) ys h = ap (λ zs. x ∷ zs) (take_before n xs ys (omega (arith, h)))

pub unchanged : (s : State) → Extends s s
unchanged s = record {
  cut = λ m is. rw (oldest_all m.defs s.defs is.defs, take_all m.named s.named is.named, take_all m.simps s.simps is.simps, take_all m.congs s.congs is.congs, take_all m.types s.types is.types) refl;
  most = λ m is. record { defs = omega (arith, is.defs); named = omega (arith, is.named); simps = omega (arith, is.simps); congs = omega (arith, is.congs); types = omega (arith, is.types) };
}

-- one definition more changes nothing of what is cut to fewer
cut_same : (m : Mark) (s t : State) (name : List ℕ) (body : Tm) (th : Theorem) → DefinesIn s t name body th → IsAtMost m s → cut_to m t ≡ cut_to m s
cut_same m s t name body th d h =
    let e : t ≡ with_theorem (def_name name) th (over t.defs s) = d.state in
    let k : oldest m.defs t.defs ≡ oldest m.defs s.defs = ap (oldest m.defs) d.defines.list ∙ oldest_step m.defs _ s.defs h.defs in
    ap (cut_to m) e ∙ rw (k, take_before m.named s.named ((def_name name, th) ∷ []) h.named) refl

most_same : (m : Mark) (s t : State) (name : List ℕ) (body : Tm) (th : Theorem) → DefinesIn s t name body th → IsAtMost m s → IsAtMost m t
most_same m s t name body th d h =
    subst (IsAtMost m) (sym d.state) (record {
      defs = rw d.defines.list (omega (arith, h.defs));
      named = rw (length-append s.named ((def_name name, th) ∷ [])) (omega (arith, h.named));
      simps = h.simps;
      congs = h.congs;
      types = h.types;
    })

pub grown : (old s t : State) (name : List ℕ) (body : Tm) (th : Theorem) → Extends old s → DefinesIn s t name body th → Extends old t
grown old s t name body th e d = record {
  cut = λ m is. cut_same m s t name body th d (e.most m is) ∙ e.cut m is;
  most = λ m is. most_same m s t name body th d (e.most m is);
}

-- what the loop keeps: from what is left of the list to the whole of it
abbrev pub Leads : State → Terms → List Theorem → State → Terms → Type 0
Leads old terms ths now left = (more : List Theorem) (new : State) → DefinesEach now left more new → DefinesEach old terms (ths ++ more) new

abbrev pub Blames : State → Terms → State → Terms → Type 0
Blames old terms now left = (fault : DefFault) → RefusesAt now left fault → RefusesAt old terms fault

pub left_over : (terms : Terms) (i : ℕ) (p : List ℕ × Tm) → p ≡ get_or terms i p → i < length terms → drop i terms ≡ (p.0, p.1) ∷ drop (i + 1) terms
left_over terms i p is h = drop_more terms i p h ∙ ap (λ q. q ∷ drop (i + 1) terms) (sym is)

pub leads_on : (old now t : State) (terms : Terms) (ths : List Theorem) (i : ℕ) (p : List ℕ × Tm) (th : Theorem) → p ≡ get_or terms i p → i < length terms →
    DefinesIn now t p.0 p.1 th → Leads old terms ths now (drop i terms) → Leads old terms (ths ++ th ∷ []) t (drop (i + 1) terms)
leads_on old now t terms ths i p th is h d l more new e =
    subst (λ (all : List Theorem). DefinesEach old terms all new) (sym (append_assoc ths (th ∷ []) more))
    (l (th ∷ more) new (subst (λ (left : Terms). DefinesEach now left (th ∷ more) new) (sym (left_over terms i p is h)) (next d e)))

pub blames_on : (old now t : State) (terms : Terms) (i : ℕ) (p : List ℕ × Tm) (th : Theorem) → p ≡ get_or terms i p → i < length terms →
    DefinesIn now t p.0 p.1 th → Blames old terms now (drop i terms) → Blames old terms t (drop (i + 1) terms)
blames_on old now t terms i p th is h d b fault r =
    b fault (subst (λ (left : Terms). RefusesAt now left fault) (sym (left_over terms i p is h)) (later d r))

pub blamed : (old now : State) (terms : Terms) (i : ℕ) (p : List ℕ × Tm) (fault : DefFault) → p ≡ get_or terms i p → i < length terms →
    FaultIs fault (defining_in now p.0 p.1) → Blames old terms now (drop i terms) → RefusesAt old terms fault
blamed old now terms i p fault is h f b =
    b fault (subst (λ (left : Terms). RefusesAt now left fault) (sym (left_over terms i p is h)) (here f))

pub at_start : (old : State) (terms : Terms) → Leads old terms [] old terms × Blames old terms old terms × Extends old old
at_start old terms = (λ more new e. e, λ fault r. r, unchanged old)

pub ended : (old now : State) (terms : Terms) (ths : List Theorem) (i : ℕ) → length terms ≤ i → Leads old terms ths now (drop i terms) → DefinesEach old terms ths now
ended old now terms ths i h l =
    subst (λ (all : List Theorem). DefinesEach old terms all now) (append-nil ths)
    (l [] now (subst (λ (left : Terms). DefinesEach now left [] now) (sym (drop_all i terms h)) none))

pub err_of : {X : Type 0} {old : State} {terms : Terms} → (r : Result X DefFault) (fault : DefFault) → IsErrAnd r (λ f. f ≡ fault) → RefusesAt old terms fault → IfErr r (RefusesAt old terms)
err_of (Ok x) fault e r = tt
err_of {X} {old} {terms} (Err f) fault e r = subst (RefusesAt old terms) (sym e) r
