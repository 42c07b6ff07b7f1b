-- Why constructors aren't declared, and what comes where they are.
use Rattle.std.proofs.Common.{◌≡◌, ℕ, false, true, List, [], ◌∷◌, map, Some, None, refl}
use Rattle.fp_kernel.specs.Start.{signature_of}
use Rattle.fp_group.specs.declared.constructors.ConType.{ConType}
use Rattle.fp_constructors.specs.Answers.{unknown_of, other_of, AreConstructors, named}
use Rattle.fp_constructors.specs.Needed.{needed}
use Rattle.fp_constructors.specs.declared.needed.Needed.{Needed}
use Rattle.fp_data.specs.Lacking.{first_lacking}
use Rattle.fp_report.specs.declared.item.Item.{Item}
use Rattle.fp_report.specs.declared.item.Item.TheVariants as item
use Rattle.fp_report.specs.declared.reason.Naming.TheVariants as naming
use Rattle.fp_report.specs.declared.reason.Reason.TheVariants.{Of}
use Rattle.fp_report.specs.Items.{AreShown}
use Rattle.fp_theory.specs.State.{State, with_type}
use Rattle.fp_command.specs.Outcome.{is_declared, con_type, AcceptsConstructors, RefusesConstructors, AreProved}
use Rattle.fp_command.specs.Outcome as why
use Rattle.fp_command.specs.Answers.{Shows, Leaves, IsRefusal, At}
use Rattle.fp_command.specs.declared.fault.CommandFault.{CommandFault}
use Rattle.fp_command.specs.declared.fault.CommandFault.TheVariants.{Refused, NoMemory}

pub unknown_refused : (s : State) (begins : ℕ) (type : ConType) (n : List ℕ) (fault : CommandFault) → is_declared s.types type.name ≡ false → unknown_of (signature_of s.defs) type ≡ Some n →
    IsRefusal begins (Of naming.UnknownName n) fault → Shows (At begins (RefusesConstructors s type)) fault
unknown_refused s begins type n (Refused r) free unknown is = ((is.0, rw is.1 (why.RefusesConstructors.unknown_name n free unknown)), rw is.1 tt)
unknown_refused s begins type n NoMemory free unknown is = absurd is

pub other_refused : (s : State) (begins : ℕ) (type : ConType) (n : List ℕ) (fault : CommandFault) → is_declared s.types type.name ≡ false →
    (unknown_of (signature_of s.defs) type ≡ None) × (other_of (signature_of s.defs) type ≡ Some n) → IsRefusal begins (Of naming.NotConstructor n) fault →
    Shows (At begins (RefusesConstructors s type)) fault
other_refused s begins type n (Refused r) free other is = ((is.0, rw is.1 (why.RefusesConstructors.no_constructor n free other.0 other.1)), rw is.1 tt)
other_refused s begins type n NoMemory free other is = absurd is

pub lack_refused : (s : State) (begins : ℕ) (type : ConType) (needs : List Needed) (n : List ℕ) (fault : CommandFault) → is_declared s.types type.name ≡ false →
    AreConstructors (signature_of s.defs) type → map named needs ≡ needed (signature_of s.defs) type → first_lacking s.named (map named needs) ≡ Some n →
    IsRefusal begins (Of naming.LacksLemma n) fault → Shows (At begins (RefusesConstructors s type)) fault
lack_refused s begins type needs n (Refused r) free fit e lacks is = ((is.0, rw is.1 (why.RefusesConstructors.lacks_lemma n free fit (rw e at lacks))), rw is.1 tt)
lack_refused s begins type needs n NoMemory free fit e lacks is = absurd is

pub none_lacking : (s : State) (type : ConType) (needs : List Needed) → map named needs ≡ needed (signature_of s.defs) type → first_lacking s.named (map named needs) ≡ None →
    first_lacking s.named (needed (signature_of s.defs) type) ≡ None
none_lacking s type needs e none = rw e at none

pub taken_refused : (s : State) (begins : ℕ) (name : List ℕ) (cons : List (List ℕ)) (n : List ℕ) (fault : CommandFault) → is_declared s.types name ≡ true → n ≡ name →
    IsRefusal begins (Of naming.NameTaken n) fault → Leaves s s (At begins (RefusesConstructors s (con_type name cons))) fault
taken_refused s begins name cons n (Refused r) taken e is = ((is.0, rw (is.1, e) (why.RefusesConstructors.name_taken taken)), rw is.1 tt, refl)
taken_refused s begins name cons n NoMemory taken e is = absurd is

pub constructors_accepted : (s t : State) (type : ConType) (items : List Item) → is_declared s.types type.name ≡ false → AreConstructors (signature_of s.defs) type →
    first_lacking s.named (needed (signature_of s.defs) type) ≡ None → items ≡ item.Constructors type.name type.cons ∷ [] → t ≡ with_type type s →
    AcceptsConstructors s type items t
constructors_accepted s t type items free fit known shown is = record { free = free; fit = fit; known = known; declared = is; shown = shown }

pub constructors_proved : (t : State) (name : List ℕ) (cons : List (List ℕ)) (items : List Item) → items ≡ item.Constructors name cons ∷ [] → AreProved t items
constructors_proved t name cons items e = rw e (tt, tt)

pub constructors_shown : (name : List ℕ) (cons : List (List ℕ)) (items : List Item) → items ≡ item.Constructors name cons ∷ [] → AreShown items
constructors_shown name cons items e = rw e (tt, tt)
