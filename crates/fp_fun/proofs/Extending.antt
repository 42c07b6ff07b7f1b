-- A theory that has grown by definitions and by named theorems.
use Rattle.std.proofs.Common.{◌≡◌, ◌∙◌, ℕ, List, [], ◌∷◌, ◌++◌, refl, sym, ap, subst}
use Rattle.std.specs.Prelude.{Result, Ok, Err}
use Rattle.std.proofs.lemmas.List.{append_assoc, append-nil}
use Rattle.fp_term.specs.Terms.{Tm}
use Rattle.fp_kernel.specs.Definitions.{Def, Within, whole, newer}
use Rattle.fp_kernel.specs.Theorems.{Theorem}
use Rattle.fp_theory.specs.State.{State, with_theorem}
use Rattle.fp_theory.specs.Defining.{def_name, DefinesIn}
use Rattle.fp_theory.specs.Changes.{Extends, Notes}
use Rattle.fp_theory.specs.declared.fault.NoteFault.{NoteFault}
use Rattle.fp_theory.specs.declared.fault.NoteFault.TheVariants.{NameTaken, HasPromise, NoMemory}
use Rattle.fp_theory.proofs.Marks.{extends_itself}
use Rattle.fp_graph.specs.Each.{DefinesEach, none, next}

within_both : {a b c : List Def} → Within a b → Within b c → Within a c
within_both w whole = w
within_both w (newer d v) = newer d (within_both w v)

more_both : {A : Type 0} (a b c : List A) → (x : List A) × (b ≡ a ++ x) → (y : List A) × (c ≡ b ++ y) → (z : List A) × (c ≡ a ++ z)
more_both a b c p q = (p.0 ++ q.0, q.1 ∙ ap (λ l. l ++ q.0) p.1 ∙ append_assoc a p.0 q.0)

pub extends_both : (a b c : State) → Extends a b → Extends b c → Extends a c
extends_both a b c h k = record {
  defs = within_both h.defs k.defs;
  named = more_both a.named b.named c.named h.named k.named;
  simps = more_both a.simps b.simps c.simps h.simps k.simps;
  congs = more_both a.congs b.congs c.congs h.congs k.congs;
  types = more_both a.types b.types c.types h.types k.types;
}

with_one : (s : State) (name : List ℕ) (th : Theorem) → Extends s (with_theorem name th s)
with_one s name th = record {
  defs = whole;
  named = ((name, th) ∷ [], refl);
  simps = ([], sym (append-nil s.simps));
  congs = ([], sym (append-nil s.congs));
  types = ([], sym (append-nil s.types));
}

with_definition : (s t : State) (name : List ℕ) (body : Tm) (th : Theorem) → DefinesIn s t name body th → Extends s t
with_definition s t name body th d = subst (Extends s) (sym d.state) (record {
  defs = rw d.defines.list (newer _ whole);
  named = ((def_name name, th) ∷ [], refl);
  simps = ([], sym (append-nil s.simps));
  congs = ([], sym (append-nil s.congs));
  types = ([], sym (append-nil s.types));
})

each : {s t : State} {terms : List (List ℕ × Tm)} {ths : List Theorem} → DefinesEach s terms ths t → Extends s t
each {s} none = extends_itself s
each (next {old} {between} {new} {name} {body} {th} d e) = extends_both old between new (with_definition old between name body th d) (each e)

pub group_defined : (s t : State) (terms : List (List ℕ × Tm)) (ths : List Theorem) → DefinesEach s terms ths t → Extends s t
group_defined s t terms ths h = each h

pub noted : (s t : State) (name : List ℕ) (th : Theorem) (r : Result (Unit {0}) NoteFault) → Notes s t name th r → Extends s t
noted s t name th (Ok u) h = subst (Extends s) (sym h.2) (with_one s name th)
noted s t name th (Err (NameTaken a)) h = subst (Extends s) (sym h.2) (extends_itself s)
noted s t name th (Err (HasPromise n)) h = subst (Extends s) (sym h.2) (extends_itself s)
noted s t name th (Err NoMemory) h = subst (Extends s) (sym h) (extends_itself s)

pub unchanged : (s t : State) → t ≡ s → Extends s t
unchanged s t e = subst (Extends s) (sym e) (extends_itself s)
