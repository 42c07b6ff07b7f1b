-- What lines tell, and the theorems that they leave to later ones.
use Rattle.std.proofs.Common.{◌≡◌, ◌∙◌, ℕ, ◌+◌, ◌-◌, ◌<◌, ◌≤◌, zero, suc, Bool, true, false, cond, List, [], ◌∷◌, ◌++◌, length, get_or, drop, refl, sym, ap, subst, arith, add-one}
use Rattle.std.specs.Prelude.{◌==◌, Some, None, Ok, Err, IfOk, slice_get}
use Rattle.std.proofs.Math.ListN.{drop_of_length-le}
use Rattle.std.proofs.lemmas.Option.{none-some}
use Rattle.fp_kernel.specs.Definitions.{Def, Within, whole}
use Rattle.fp_term.specs.Types.{Typ}
use Rattle.fp_term.specs.Terms.{Tm}
use Rattle.fp_kernel.specs.Theorems.{Theorem, plain}
use Rattle.fp_commands.specs.declared.command.Line.{Line}
use Rattle.fp_line_rules.specs.Standing.{IsUsable, IsLine, AreLines}
use Rattle.fp_line_rules.specs.Rules.{Told}
use Rattle.fp_rewriting.specs.declared.rule.Rule.{Rule}
use Rattle.fp_simp_eq.specs.Equation.{EquatesSimplified}
use Rattle.fp_lines.specs.Read.{Answer, line_numbered}
use Rattle.fp_lines.specs.Lines.{told}
use Rattle.fp_lines.specs.Checks.{IsEnd, EndFails, Gives, LineFails, Goes, Leads, next, fails, ends_otherwise, wanting}
use Rattle.fp_lines.specs.declared.fault.ProofFault.{ProofFault}
use Rattle.fp_lines.specs.declared.fault.ProofFault.TheVariants.{BadRuleName, BadLine, WrongEnd, NoMemory}

told_is : (defs : List Def) (q : Told) → IfOk q (IsLine defs) → IfOk (told q) (IsLine defs)
told_is defs (Ok th) h = h
told_is defs (Err f) h = tt

-- a line gives what its rule gives
pub told_line : (defs : List Def) (q : Told) (r : Answer) → r ≡ told q → IfOk q (IsLine defs) → IfOk r (IsLine defs)
told_line defs q r e h = subst (λ (u : Answer). IfOk u (IsLine defs)) (sym e) (told_is defs q h)

-- the equation of a term with what it simplifies to
pub simp_line : (defs : List Def) (rules : List Rule) (t : Tm) (q : Told) → EquatesSimplified defs rules t q → IfOk q (IsLine defs)
simp_line defs rules t (Ok th) h = rw h.equation.is (record { promises = refl; over = refl })
simp_line defs rules t (Err f) h = tt

line_usable : (defs : List Def) (th : Theorem) → IsLine defs th → IsUsable defs th
line_usable defs th h = record { promises = h.promises; within = subst (λ (ds : List Def). Within ds defs) (sym h.over) whole }

line_got : (defs : List Def) (ths : List Theorem) (i : ℕ) (th : Theorem) → AreLines defs ths → slice_get ths i ≡ Some th → IsLine defs th
line_got defs [] i th h e = absurd (none-some th e)
line_got defs (t ∷ ths) zero th h e = let same : t ≡ th = cc in subst (IsLine defs) same h.0
line_got defs (t ∷ ths) (suc i) th h e = line_got defs ths i th h.1 e

pub numbered_usable : (defs : List Def) (ths : List Theorem) (n : ℕ) (th : Theorem) → AreLines defs ths → line_numbered n ths ≡ Some th → IsUsable defs th
numbered_usable defs ths n th h e = line_usable defs th (chosen (n == 0) (n - 1) e)
  where
    chosen : (b : Bool) (i : ℕ) → cond b None (slice_get ths i) ≡ Some th → IsLine defs th
    chosen true i f = absurd (none-some th f)
    chosen false i f = line_got defs ths i th h f

pub one_line_more : (defs : List Def) (ths : List Theorem) (th : Theorem) → AreLines defs ths → IsLine defs th → AreLines defs (ths ++ th ∷ [])
one_line_more defs [] th h l = (l, tt)
one_line_more defs (t ∷ ths) th h l = (h.0, one_line_more defs ths th h.1 l)

pub last_line : (defs : List Def) (ths : List Theorem) (th : Theorem) → AreLines defs (ths ++ th ∷ []) → IsLine defs th
last_line defs [] th h = h.0
last_line defs (t ∷ ths) th h = last_line defs ths th h.1

-- a line that is the statement without hypotheses
theorem_of : List Def → List (ℕ × Tm) → List Tm → Tm → Theorem
theorem_of defs promises hyps p = record { defs = defs; promises = promises; hyps = hyps; concl = p }

pub ended : (defs : List Def) (p : Tm) (th : Theorem) → IsLine defs th → IsEnd p th → th ≡ plain defs p
unfolding theorem_of
ended defs p th l e =
    ap (λ (ds : List Def). theorem_of ds th.promises th.hyps th.concl) l.over ∙ ap (λ (ps : List (ℕ × Tm)). theorem_of defs ps th.hyps th.concl) l.promises
    ∙ ap (λ (hs : List Tm). theorem_of defs [] hs th.concl) e.hyps ∙ ap (λ (q : Tm). theorem_of defs [] [] q) e.concl

left_from : (ls : List Line) (i : ℕ) (l : Line) → i < length ls → l ≡ get_or ls i l → drop i ls ≡ l ∷ drop (suc i) ls
left_from [] i l h e = absurd (omega arith)
left_from (x ∷ ls) zero l h e = ap (λ (y : Line). y ∷ ls) (sym e)
left_from (x ∷ ls) (suc i) l h e = left_from ls i l (omega arith) e

-- the lines from a place on
pub left_at : (ls : List Line) (i : ℕ) (l : Line) → i < length ls → l ≡ get_or ls i l → drop i ls ≡ l ∷ drop (i + 1) ls
left_at ls i l h e = rw add-one (left_from ls i l h e)

pub left_none : (ls : List Line) (i : ℕ) → length ls ≤ i → drop i ls ≡ []
left_none ls i h = rw (drop_of_length-le ls h) refl

-- one line more leads on
pub leads_on : (defs : List Def) (named : List (List ℕ × Theorem)) (simps : List (List ℕ)) (given : List (List ℕ × Typ)) (statement : Tm) (before : List Theorem) (n : ℕ) (ls : List Line) (i : ℕ) (l : Line) (th : Theorem) →
    i < length ls → l ≡ get_or ls i l → Gives (record { defs = defs; named = named; simps = simps; given = given; before = before }) l th →
    Leads defs named simps given statement before n (drop i ls) ls → Leads defs named simps given statement (before ++ th ∷ []) (n + 1) (drop (i + 1) ls) ls
leads_on defs named simps given statement before n ls i l th h e g k = λ r goes. k r (rw (left_at ls i l h e) (next th g goes))

-- and where a line fails, that comes of all
pub leads_to_fault : (defs : List Def) (named : List (List ℕ × Theorem)) (simps : List (List ℕ)) (given : List (List ℕ × Typ)) (statement : Tm) (before : List Theorem) (n : ℕ) (ls : List Line) (i : ℕ) (l : Line) (f : ProofFault) →
    i < length ls → l ≡ get_or ls i l → LineFails (record { defs = defs; named = named; simps = simps; given = given; before = before }) l n f →
    Leads defs named simps given statement before n (drop i ls) ls → Goes defs named simps given statement [] 1 ls (Err f)
leads_to_fault defs named simps given statement before n ls i l f h e g k = k (Err f) (rw (left_at ls i l h e) (fails g))

-- what comes of a last theorem that isn't the statement
pub otherwise : (defs : List Def) (named : List (List ℕ × Theorem)) (simps : List (List ℕ)) (given : List (List ℕ × Typ)) (statement : Tm) (before : List Theorem) (n : ℕ) (th : Theorem) (f : ProofFault) →
    (IsEnd statement th → ⊥) → EndFails th f → Goes defs named simps given statement (before ++ th ∷ []) n [] (Err f)
otherwise defs named simps given statement before n th (BadRuleName line) other h = absurd h
otherwise defs named simps given statement before n th (BadLine line cause) other h = absurd h
otherwise defs named simps given statement before n th (WrongEnd None) other h = absurd h
otherwise defs named simps given statement before n th (WrongEnd (Some s)) other h = ends_otherwise before th other h
otherwise defs named simps given statement before n th NoMemory other h = wanting

pub not_true : {A : Type 0} (b : Bool) → (A → b ≡ true) → b ≡ false → A → ⊥
not_true b k e x = let t = k x in cc
