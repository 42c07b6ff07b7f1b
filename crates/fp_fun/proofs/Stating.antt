-- What is shown of named theorems.
use Rattle.std.proofs.Common.{◌≡◌, ℕ, List, [], ◌∷◌, ◌++◌}
use Rattle.std.specs.Prelude.{Some, Result, Ok, Err, OnOk, IfOk}
use Rattle.fp_term.specs.Terms.{Tm}
use Rattle.fp_term.specs.declared.signature.Signature.{Signature}
use Rattle.fp_term.specs.declared.statement.Statement.{Statement}
use Rattle.fp_conclude.specs.Logic.{truth_type}
use Rattle.fp_kernel.specs.Theorems.{Theorem, IsTheorem}
use Rattle.fp_kernel.specs.Conservative.{IsConservative}
use Rattle.fp_kernel.specs.Derivability.{IsFormula}
use Rattle.fp_print.proofs.Loose.{typed_has_only}
use Rattle.fp_theory.specs.State.{State, found_theorem, IsNoted}
use Rattle.fp_report.specs.Texts.{IsShownStatement}
use Rattle.fp_report.specs.Items.{IsShown, AreShown}
use Rattle.fp_report.specs.declared.item.Item.{Item}
use Rattle.fp_report.specs.declared.item.Item.TheVariants as item
use Rattle.fp_fun.specs.Named.{stated, IsNamed, IsNamedItem, AreNamed}

-- a theorem without hypotheses can be printed
pub statement_shown : (signature : Signature) (s : Statement) (t : Tm) → s.hyps ≡ [] → s.concl ≡ t → IsFormula signature t → IsShownStatement s
statement_shown signature s t h e f = rw (h, e) (tt, typed_has_only [] t truth_type f.typed)

pub named : (t : State) (name : List ℕ) (s : Statement) (th : Theorem) → found_theorem name t.named ≡ Some th → s ≡ stated th.concl → IsNoted t.defs th → IsTheorem th → IsConservative th.defs → IsNamed t name s
named t name s th found statement noted derived conservative = record {
  theorem = th;
  found = found;
  statement = statement;
  noted = noted;
  derived = derived;
  conservative = conservative;
}

one_more : (t : State) (items : List Item) (item : Item) → AreNamed t items → IsNamedItem t item → AreNamed t (items ++ item ∷ [])
one_more t [] item h k = (k, tt)
one_more t (i ∷ items) item h k = (h.0, one_more t items item h.1 k)

pub pushed : {A E : Type 0} (r : Result A E) (t : State) (old new : List Item) (item : Item) → OnOk r (new ≡ old ++ item ∷ []) → AreNamed t old → IsNamedItem t item → OnOk r (AreNamed t new)
pushed (Ok u) t old new item e h k = rw e (one_more t old item h k)
pushed (Err f) t old new item e h k = tt

-- named items can be printed
one_shown : (t : State) (i : Item) → IsNamedItem t i → IsShown i
one_shown t (item.Definition name s) h = h.1
one_shown t (item.Typedef name s) h = absurd h
one_shown t (item.Theorem name s) h = h.1
one_shown t (item.Simp name) h = absurd h
one_shown t (item.Cong name) h = absurd h
one_shown t (item.Constructors name names) h = absurd h
one_shown t (item.Size ty m) h = absurd h
one_shown t (item.Measure ty m) h = absurd h
one_shown t (item.Order names parts) h = h

each_shown : (t : State) (items : List Item) → AreNamed t items → AreShown items
each_shown t [] h = tt
each_shown t (i ∷ items) h = (one_shown t i h.0, each_shown t items h.1)

pub all_shown : {E : Type 0} (r : Result (List Item) E) (t : State) → IfOk r (AreNamed t) → IfOk r AreShown
all_shown (Ok items) t h = each_shown t items h
all_shown (Err f) t h = tt
