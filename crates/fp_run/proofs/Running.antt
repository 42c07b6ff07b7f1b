-- The run of a file and of those after it, together.
use Rattle.std.proofs.Common.{◌≡◌, ◌∙◌, ◌≤◌, ◌<◌, ◌+◌, ◌-◌, ◌⊎◌, inl, inr, ℕ, map, drop, get_or, String, string_bytes, List, [], ◌∷◌, ◌++◌, length, take, Bool, true, false, Option, Some, None, Ok, Err, refl, sym, ap, arith, append_assoc, take_all, append-nil, length-append}
use Rattle.std.proofs.Math.Seq.{take-append-add}
use Rattle.std.specs.Io.KnownBytes.{Appends, IsAtEnd}
use Rattle.fp_outside.specs.Held.{IsNamed, IsLonger}
use Rattle.fp_outside.specs.Sink.{AppendsPrefix}
use Rattle.fp_command.specs.Outcome.{Session}
use Rattle.fp_run.specs.declared.file.Written.{Written}
use Rattle.fp_run.specs.declared.file.FileFault.TheVariants.{Files, Sink, NoMemory}
use Rattle.fp_run.specs.Report.{Holds, Reports, finished, went_on, refused, none, more, last}
use Rattle.fp_run.specs.Runs.{OpensMore, Runs, LeavesRead, here, later}
use Rattle.fp_run.specs.Runs as runs
use Rattle.fp_run.specs.Files.{WritesFile}

appends_nothing : (a : Option (List ℕ)) → Appends a a []
appends_nothing None = tt
appends_nothing (Some xs) = sym (append-nil xs)

appends_none : (a b : Option (List ℕ)) → b ≡ a → Appends a b []
appends_none a b e = rw e (appends_nothing a)

appends_then : (a b c : Option (List ℕ)) (x y : List ℕ) → Appends a b x → Appends b c y → Appends a c (x ++ y)
appends_then None b c x y p q = tt
appends_then (Some xs) None c x y p q = absurd p
appends_then (Some xs) (Some ys) None x y p q = absurd q
appends_then (Some xs) (Some ys) (Some zs) x y p q = q ∙ ap (λ w. w ++ y) p ∙ append_assoc xs x y

prefix_then : (a b c : Option (List ℕ)) (x y : List ℕ) → Appends a b x → AppendsPrefix b c y → AppendsPrefix a c (x ++ y)
prefix_then a b c x y p q =
    (length x + q.0, rw (length-append x y) (omega (arith, q.1)), rw (take-append-add x y q.0) (appends_then a b c x (take q.0 y) p q.2))

opens_none : (a b : Option ℕ) → b ≡ a → OpensMore 0 a b
opens_none None b e = e
opens_none (Some k) b e = e ∙ ap Some (omega arith)

opens_then : (n : ℕ) (a b c : Option ℕ) → OpensMore 1 a b → OpensMore n b c → OpensMore (n + 1) a c
opens_then n None b c p q = rw (q, p) refl
opens_then n (Some k) b c p q = rw (q, p) (ap Some (omega arith))

-- no files
pub runs_none : (full : Bool) (held : Holds) (room : ℕ) (s : Session) (w : Option (List ℕ)) (o : Option ℕ) (current : Bool) → Runs full held room s [] w w o o current 0 s
runs_none full held room s w o current = runs.accepted 0 finished (appends_none w w refl) (opens_none o o refl)

-- a refused file
refused_first : (full : Bool) (held : Holds) (file : List ℕ) (files : List (List ℕ)) (room left : ℕ) (s t : Session) (text : List ℕ) (ends : Bool) (old new : Option (List ℕ)) (before after : Option ℕ) (current : Bool) →
    Reports full held file room s text ends t left → ends ≡ true → Appends old new text → OpensMore 1 before after → Runs full held room s (file ∷ files) old new before after current 1 t
refused_first full held file files room left s t text ends old new before after current r e a o = runs.refused 1 (refused (rw e at r)) a o

pub runs_refused : (full : Bool) (held : Holds) (file : List ℕ) (files : List (List ℕ)) (room : ℕ) (s t : Session) (old new : Option (List ℕ)) (before after : Option ℕ) (current : Bool) (w : Written) →
    WritesFile full held file room s old new before after current (Ok w) t → w.refused ≡ true → Runs full held room s (file ∷ files) old new before after current 1 t
runs_refused full held file files room s t old new before after current w f e =
    refused_first full held file files room w.left s t f.0 w.refused old new before after current f.1 e f.2 f.3

-- a file that isn't read or written
pub runs_files_fault : (full : Bool) (held : Holds) (file : List ℕ) (files : List (List ℕ)) (room : ℕ) (s t : Session) (old new : Option (List ℕ)) (before after : Option ℕ) (current : Bool) →
    WritesFile full held file room s old new before after current (Err Files) t → Runs full held room s (file ∷ files) old new before after current 3 t
runs_files_fault full held file files room s t old new before after false f = runs.unopened 0 none (appends_none old new f.0) (opens_none before after f.1)
runs_files_fault full held file files room s t old new before after true f = runs.unread 0 none (appends_none old new f.0) f.1

sink_fault : (full : Bool) (held : Holds) (file : List ℕ) (files : List (List ℕ)) (room left : ℕ) (s t : Session) (text : List ℕ) (ends : Bool) (old new : Option (List ℕ)) (before after : Option ℕ) (current : Bool) →
    Reports full held file room s text ends t left → AppendsPrefix old new text → OpensMore 1 before after → Runs full held room s (file ∷ files) old new before after current 4 t
sink_fault full held file files room left s t text false old new before after current r a o = runs.unwritten 1 (more r none) (rw (append-nil text) a) o
sink_fault full held file files room left s t text true old new before after current r a o = runs.unwritten 1 (last r) a o

pub runs_sink_fault : (full : Bool) (held : Holds) (file : List ℕ) (files : List (List ℕ)) (room : ℕ) (s t : Session) (old new : Option (List ℕ)) (before after : Option ℕ) (current : Bool) →
    WritesFile full held file room s old new before after current (Err Sink) t → Runs full held room s (file ∷ files) old new before after current 4 t
runs_sink_fault full held file files room s t old new before after current f = sink_fault full held file files room f.2 s t f.0 f.1 old new before after current f.3 f.4 f.5

pub runs_no_memory : (full : Bool) (held : Holds) (file : List ℕ) (files : List (List ℕ)) (room : ℕ) (s t : Session) (old new : Option (List ℕ)) (before after : Option ℕ) (current : Bool) →
    WritesFile full held file room s old new before after current (Err NoMemory) t → Runs full held room s (file ∷ files) old new before after current 5 t
runs_no_memory full held file files room s t old new before after current f = runs.unmade 0 none (appends_none old new f.0) f.1

-- the files after an accepted one
after_first : (full : Bool) (held : Holds) (file : List ℕ) (files : List (List ℕ)) (room left status : ℕ) (s t u : Session) (text : List ℕ) (old mid new : Option (List ℕ)) (before between after : Option ℕ) (current : Bool) →
    Reports full held file room s text false t left → Appends old mid text → OpensMore 1 before between → Runs full held left t files mid new between after current status u →
    Runs full held room s (file ∷ files) old new before after current status u
after_first full held file files room left _ s t u text old mid new before between after current r a o (runs.accepted {text = rest} n q b p) =
    runs.accepted (n + 1) (went_on r q) (appends_then old mid new text rest a b) (opens_then n before between after o p)
after_first full held file files room left _ s t u text old mid new before between after current r a o (runs.refused {text = rest} n q b p) =
    runs.refused (n + 1) (went_on r q) (appends_then old mid new text rest a b) (opens_then n before between after o p)
after_first full held file files room left _ s t u text old mid new before between after _ r a o (runs.unopened {text = rest} n q b p) =
    runs.unopened (n + 1) (more r q) (appends_then old mid new text rest a b) (opens_then n before between after o p)
after_first full held file files room left _ s t u text old mid new before between after _ r a o (runs.unread {text = rest} n q b p) =
    runs.unread (n + 1) (more r q) (appends_then old mid new text rest a b) (opens_then (n + 1) before between after o p)
after_first full held file files room left _ s t u text old mid new before between after current r a o (runs.unwritten {text = rest} n q b p) =
    runs.unwritten (n + 1) (more r q) (prefix_then old mid new text rest a b) (opens_then n before between after o p)
after_first full held file files room left _ s t u text old mid new before between after current r a o (runs.unmade {text = rest} n q b p) =
    runs.unmade (n + 1) (more r q) (appends_then old mid new text rest a b) (opens_then (n + 1) before between after o p)

pub runs_on : (full : Bool) (held : Holds) (file : List ℕ) (files : List (List ℕ)) (room status : ℕ) (s t u : Session) (old mid new : Option (List ℕ)) (before between after : Option ℕ) (first current : Bool) (w : Written) →
    WritesFile full held file room s old mid before between first (Ok w) t → w.refused ≡ false → Runs full held w.left t files mid new between after current status u →
    Runs full held room s (file ∷ files) old new before after current status u
runs_on full held file files room status s t u old mid new before between after first current w f e q =
    after_first full held file files room w.left status s t u f.0 old mid new before between after current (rw e at f.1) f.2 f.3 q

pub no_names : {Z : Type 0} (names : List (String Z)) → length names < 1 → map string_bytes names ≡ []
no_names [] l = refl
no_names (x ∷ names) l = absurd (omega (arith, l))

-- the first of the files, and those after it
pub names_from : {Z : Type 0} (names : List (String Z)) (name : String Z) (file : List ℕ) → 1 ≤ length names → name ≡ get_or names 0 name → file ≡ string_bytes name →
    map string_bytes names ≡ file ∷ map string_bytes (take (length names - 1) (drop 1 names))
names_from [] name file l e f = absurd (omega (arith, l))
names_from (x ∷ names) name file l e f = rw (f, e, take_all (length (x ∷ names) - 1) names (omega arith)) refl

-- the last file that was opened is the first one, where there are no others, else one of those
pub leaves_read : {A S : Type 0} (named left : S → Option (List ℕ)) (held : Holds) (before after : S) (rest : List A) (file : List ℕ) (files : List (List ℕ)) (room : ℕ) → (rest ≡ [] → after ≡ before) →
    IsNamed (named before) file → IsAtEnd (left before) ⊎ IsLonger held file room → (rest ≡ []) ⊎ LeavesRead held (named after) (left after) files → LeavesRead held (named after) (left after) (file ∷ files)
leaves_read named left held before after rest file files room same n r (inl e) = rw (same e) (here room n r)
leaves_read named left held before after rest file files room same n r (inr l) = later l
