-- Why a measure isn't declared, and what comes where it is.
use Rattle.std.proofs.Common.{◌≡◌, ◌∙◌, ◌<◌, ◌+◌, ℕ, Bool, false, true, not, ◌&&◌, List, [], ◌∷◌, Some, None, Ok, refl, ap, subst, arith}
use Rattle.fp_term.specs.Types.{Typ}
use Rattle.fp_term.specs.Terms.{Tm, is_open}
use Rattle.fp_term.specs.Typing.{function_type}
use Rattle.fp_constrain.specs.Subterms.{plain}
use Rattle.fp_raw.specs.Raws.{RawTm, RawTyp, raw_size}
use Rattle.fp_infer.specs.declared.names.Search.TheVariants.{Unknown, Arity}
use Rattle.fp_print.proofs.Loose.{typed_has_only}
use Rattle.fp_measure.specs.Sources.{natural, IsMeasure}
use Rattle.fp_measure.specs.declared.source.DeclKind.{DeclKind}
use Rattle.fp_measure.specs.declared.source.DeclKind.TheVariants as declared
use Rattle.fp_measure.specs.declared.source.Decl.{Decl}
use Rattle.fp_sources.specs.Sources.{Source, told_each}
use Rattle.fp_report.specs.declared.item.Item.{Item}
use Rattle.fp_report.specs.declared.reason.Kind.TheVariants as kind
use Rattle.fp_report.specs.declared.reason.Naming.TheVariants as naming
use Rattle.fp_report.specs.declared.reason.Reason.TheVariants.{Plain, Of}
use Rattle.fp_report.specs.Items.{AreShown}
use Rattle.fp_theory.specs.State.{State}
use Rattle.fp_command.specs.Outcome.{session, wrong_type_name, wrong_name, AreNamed, Measures, is_fit, Declares, measure_item, AcceptsMeasure, FailsMeasure, Misnames, RefusesMeasure, AreProved}
use Rattle.fp_command.specs.Outcome as why
use Rattle.fp_command.specs.Answers.{Shows, IsRefusal}
use Rattle.fp_command.specs.declared.fault.CommandFault.{CommandFault}
use Rattle.fp_command.specs.declared.fault.CommandFault.TheVariants.{Refused, NoMemory}

-- names
pub type_name_refused : (s : State) (written : RawTyp) (raw : RawTm) (at : ℕ) (n : List ℕ) (fault : CommandFault) → wrong_type_name Unknown s written ≡ Some (at, n) →
    IsRefusal at (Of naming.UnknownName n) fault → Shows (Misnames s written raw) fault
type_name_refused s written raw at n (Refused r) wrong is = (rw (is.0, is.1) (why.Misnames.unknown_type_name at n wrong), rw is.1 tt)
type_name_refused s written raw at n NoMemory wrong is = absurd is

pub name_refused : (s : State) (written : RawTyp) (raw : RawTm) (at : ℕ) (n : List ℕ) (fault : CommandFault) → wrong_type_name Unknown s written ≡ None → wrong_name Unknown s raw ≡ Some (at, n) →
    IsRefusal at (Of naming.UnknownName n) fault → Shows (Misnames s written raw) fault
name_refused s written raw at n (Refused r) known wrong is = (rw (is.0, is.1) (why.Misnames.unknown_name at n known wrong), rw is.1 tt)
name_refused s written raw at n NoMemory known wrong is = absurd is

pub arity_refused : (s : State) (written : RawTyp) (raw : RawTm) (at : ℕ) (n : List ℕ) (fault : CommandFault) → wrong_type_name Unknown s written ≡ None → wrong_name Unknown s raw ≡ None →
    wrong_type_name Arity s written ≡ Some (at, n) → IsRefusal at (Of naming.BadArity n) fault → Shows (Misnames s written raw) fault
arity_refused s written raw at n (Refused r) known all_known wrong is = (rw (is.0, is.1) (why.Misnames.bad_arity at n known all_known wrong), rw is.1 tt)
arity_refused s written raw at n NoMemory known all_known wrong is = absurd is

pub misnamed_refused : (s : State) (begins : ℕ) (written : RawTyp) (raw : RawTm) (fault : CommandFault) → Shows (Misnames s written raw) fault → Shows (RefusesMeasure s begins written raw) fault
misnamed_refused s begins written raw (Refused r) sh = (why.RefusesMeasure.misnamed r.at r.reason sh.0, sh.1)
misnamed_refused s begins written raw NoMemory sh = tt

-- the term
pub untyped_refused : (s : State) (begins : ℕ) (written : RawTyp) (raw : RawTm) (type : Typ) (fault : CommandFault) → AreNamed s written raw → type ≡ plain written →
    Shows (FailsMeasure s type raw) fault → Shows (RefusesMeasure s begins written raw) fault
untyped_refused s begins written raw type (Refused r) names is sh = (why.RefusesMeasure.untyped r.at r.reason names (subst (λ (u : Typ). FailsMeasure s u raw r.at r.reason) is sh.0), sh.1)
untyped_refused s begins written raw type NoMemory names is sh = tt

pub unfit_refused : (s : State) (begins : ℕ) (written : RawTyp) (raw : RawTm) (type : Typ) (t : Tm) (fault : CommandFault) → AreNamed s written raw → type ≡ plain written →
    Measures s type raw (Ok t) → is_fit type t ≡ false → IsRefusal begins (Plain kind.NotMeasure) fault → Shows (RefusesMeasure s begins written raw) fault
unfit_refused s begins written raw type t (Refused r) names e typed unfit is = (rw (is.0, is.1) (why.RefusesMeasure.unfit t names (subst (λ (u : Typ). Measures s u raw (Ok t)) e typed) (rw e at unfit)), rw is.1 tt)
unfit_refused s begins written raw type t NoMemory names e typed unfit is = absurd is

closed_when : (a b : Bool) → not a && b ≡ true → a ≡ false
closed_when false b e = refl
closed_when true b e = absurd (cc)

pub measures_typed : (s : State) (type : Typ) (raw : RawTm) (t : Tm) → Measures s type raw (Ok t) → is_fit type t ≡ true → IsMeasure type t
measures_typed s type raw t typed fit =
    let e = typed.1 in
    let below : raw_size raw < raw_size raw + 1 = omega arith in
    record { closed = closed_when (is_open t) _ fit; typed = e.typed ∙ ap Some (e.typing.wanted below).0 }

pub declares : (of_kind : DeclKind) (s : State) (written : RawTyp) (raw : RawTm) (decl : Decl) → AreNamed s written raw → decl.kind ≡ of_kind → decl.ty ≡ plain written →
    Measures s decl.ty raw (Ok decl.term) → is_fit decl.ty decl.term ≡ true → Declares of_kind s written raw decl
declares of_kind s written raw decl names kind_is type_is typed fit = record {
  names = names;
  typed = subst (λ (u : Typ). Measures s u raw (Ok decl.term)) type_is typed;
  fit = rw type_is at fit;
  measure = measures_typed s decl.ty raw decl.term typed fit;
  kind_is = kind_is;
  type_is = type_is;
}

pub measure_shown : (of_kind : DeclKind) (type : Typ) (t : Tm) (items : List Item) → items ≡ measure_item of_kind type t ∷ [] → IsMeasure type t → AreShown items
measure_shown declared.Size type t items e m = rw e (typed_has_only [] t (function_type type natural) m.typed, tt)
measure_shown declared.Measure type t items e m = rw e (typed_has_only [] t (function_type type natural) m.typed, tt)

pub measure_proved : (s : State) (of_kind : DeclKind) (type : Typ) (t : Tm) (items : List Item) → items ≡ measure_item of_kind type t ∷ [] → AreProved s items
measure_proved s declared.Size type t items e = rw e (tt, tt)
measure_proved s declared.Measure type t items e = rw e (tt, tt)

pub measure_accepted : (of_kind : DeclKind) (s : State) (before after : List Source) (written : RawTyp) (raw : RawTm) (decl : Decl) (items : List Item) → Declares of_kind s written raw decl →
    after ≡ told_each decl.kind decl.ty decl.term before → items ≡ measure_item decl.kind decl.ty decl.term ∷ [] →
    AcceptsMeasure of_kind (session s before) written raw items (session s after)
measure_accepted of_kind s before after written raw decl items d told shown = record { decl = decl; declares = d; theory = refl; sources = told; shown = shown }
