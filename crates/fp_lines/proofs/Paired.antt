-- Arguments in pairs: those that come first, and those behind them.
use Rattle.std.proofs.Common.{◌≡◌, ◌&&◌, ◌<◌, ℕ, Bool, true, false, List, [], ◌∷◌, ◌++◌, length, subst, sym, ap, refl, arith}
use Rattle.std.specs.Prelude.{is_some, Some, None, Result, Ok, Err, IfOk, IfErr}
use Rattle.std.proofs.lemmas.Option.{none-some, same_Some}
use Rattle.fp_term.specs.Types.{Typ}
use Rattle.fp_term.specs.Terms.{Tm}
use Rattle.fp_term.specs.declared.signature.Signature.{Signature}
use Rattle.fp_raw.specs.Raws.{RawTm, RawTyp}
use Rattle.fp_commands.specs.declared.command.Arg.{Arg}
use Rattle.fp_commands.specs.declared.command.Arg.TheVariants.{Number, Name, TyVar, Term, Ty}
use Rattle.fp_lines.specs.Kinds.{variable_in, term_in, terms_first, types_first, are_term_pairs, are_type_pairs}
use Rattle.fp_lines.specs.Read.{Scene, signature_in, OnePair, OneUnread, no_room, no_variable, no_term, ReadsPairs, no_pairs, one_pair, UnreadPairs, wanting, at_variable, at_term, behind, Is, Types, type_read, types_read, TypesRead}
use Rattle.fp_lines.specs.declared.fault.LineFault.{LineFault}
use Rattle.fp_lines.specs.declared.fault.LineFault.TheVariants.{Bad, NoMemory}

-- the first two of the arguments
terms_are : (args : List Arg) (x t : RawTm) (rest : List Arg) → terms_first args ≡ Some (x, t, rest) → args ≡ Term x ∷ Term t ∷ rest
terms_are [] x t rest e = absurd (none-some _ e)
terms_are (a ∷ []) x t rest e = absurd (none-some _ e)
terms_are (Number n ∷ b ∷ more) x t rest e = absurd (none-some _ e)
terms_are (Name n ∷ b ∷ more) x t rest e = absurd (none-some _ e)
terms_are (TyVar n ∷ b ∷ more) x t rest e = absurd (none-some _ e)
terms_are (Ty n ∷ b ∷ more) x t rest e = absurd (none-some _ e)
terms_are (Term u ∷ Number n ∷ more) x t rest e = absurd (none-some _ e)
terms_are (Term u ∷ Name n ∷ more) x t rest e = absurd (none-some _ e)
terms_are (Term u ∷ TyVar n ∷ more) x t rest e = absurd (none-some _ e)
terms_are (Term u ∷ Ty n ∷ more) x t rest e = absurd (none-some _ e)
terms_are (Term u ∷ Term v ∷ more) x t rest e =
    let p = same_Some (u, v, more) (x, t, rest) e in
    let a : u ≡ x = ap (λ (q : RawTm × RawTm × List Arg). q.0) p in
    let b : v ≡ t = ap (λ (q : RawTm × RawTm × List Arg). q.1) p in
    let c : more ≡ rest = ap (λ (q : RawTm × RawTm × List Arg). q.2) p in
    rw (a, b, c) refl

types_are : (args : List Arg) (x : List ℕ) (t : RawTyp) (rest : List Arg) → types_first args ≡ Some (x, t, rest) → args ≡ TyVar x ∷ Ty t ∷ rest
types_are [] x t rest e = absurd (none-some _ e)
types_are (a ∷ []) x t rest e = absurd (none-some _ e)
types_are (Number n ∷ b ∷ more) x t rest e = absurd (none-some _ e)
types_are (Name n ∷ b ∷ more) x t rest e = absurd (none-some _ e)
types_are (Term n ∷ b ∷ more) x t rest e = absurd (none-some _ e)
types_are (Ty n ∷ b ∷ more) x t rest e = absurd (none-some _ e)
types_are (TyVar u ∷ Number n ∷ more) x t rest e = absurd (none-some _ e)
types_are (TyVar u ∷ Name n ∷ more) x t rest e = absurd (none-some _ e)
types_are (TyVar u ∷ Term n ∷ more) x t rest e = absurd (none-some _ e)
types_are (TyVar u ∷ TyVar n ∷ more) x t rest e = absurd (none-some _ e)
types_are (TyVar u ∷ Ty v ∷ more) x t rest e =
    let p = same_Some (u, v, more) (x, t, rest) e in
    let a : u ≡ x = ap (λ (q : List ℕ × RawTyp × List Arg). q.0) p in
    let b : v ≡ t = ap (λ (q : List ℕ × RawTyp × List Arg). q.1) p in
    let c : more ≡ rest = ap (λ (q : List ℕ × RawTyp × List Arg). q.2) p in
    rw (a, b, c) refl

shorter : (args : List Arg) (a b : Arg) (rest : List Arg) → args ≡ a ∷ b ∷ rest → length rest < length args
shorter args a b rest e = rw e (omega arith)

pub terms_shorter : (args : List Arg) (x t : RawTm) (rest : List Arg) → terms_first args ≡ Some (x, t, rest) → length rest < length args
terms_shorter args x t rest e = shorter args (Term x) (Term t) rest (terms_are args x t rest e)

pub types_shorter : (args : List Arg) (x : List ℕ) (t : RawTyp) (rest : List Arg) → types_first args ≡ Some (x, t, rest) → length rest < length args
types_shorter args x t rest e = shorter args (TyVar x) (Ty t) rest (types_are args x t rest e)

-- their kinds
last_of : (a b c : Bool) → a && b && c ≡ true → c ≡ true
last_of true true c e = e
last_of true false c e = absurd (cc)
last_of false b c e = absurd (cc)

middle_of : (a c : Bool) → a && false && c ≡ true → ⊥
middle_of true c e = cc
middle_of false c e = cc

first_of : (b c : Bool) → false && b && c ≡ true → ⊥
first_of b c e = cc

pub term_kinds_behind : (signature : Signature) (args : List Arg) (x t : RawTm) (rest : List Arg) → terms_first args ≡ Some (x, t, rest) → are_term_pairs signature args ≡ true →
    are_term_pairs signature rest ≡ true
term_kinds_behind signature args x t rest e kinds =
    let k : are_term_pairs signature (Term x ∷ Term t ∷ rest) ≡ true = subst (λ (rs : List Arg). are_term_pairs signature rs ≡ true) (terms_are args x t rest e) kinds in
    last_of (is_some (variable_in signature (Term x))) (is_some (term_in (Term t))) (are_term_pairs signature rest) k

pub type_kinds_behind : (args : List Arg) (x : List ℕ) (t : RawTyp) (rest : List Arg) → types_first args ≡ Some (x, t, rest) → are_type_pairs args ≡ true → are_type_pairs rest ≡ true
type_kinds_behind args x t rest e kinds = subst (λ (rs : List Arg). are_type_pairs rs ≡ true) (types_are args x t rest e) kinds

-- nothing is left
pub pairs_none : (s : Scene) (args : List Arg) (old : List (List ℕ × Typ × Tm)) → are_term_pairs (signature_in s) args ≡ true → terms_first args ≡ None → ReadsPairs s args old old
pairs_none s [] old kinds e = no_pairs
pairs_none s (a ∷ []) old kinds e = absurd (cc)
pairs_none s (Number n ∷ b ∷ rest) old kinds e = absurd (first_of (is_some (term_in b)) (are_term_pairs (signature_in s) rest) kinds)
pairs_none s (Name n ∷ b ∷ rest) old kinds e = absurd (first_of (is_some (term_in b)) (are_term_pairs (signature_in s) rest) kinds)
pairs_none s (TyVar n ∷ b ∷ rest) old kinds e = absurd (first_of (is_some (term_in b)) (are_term_pairs (signature_in s) rest) kinds)
pairs_none s (Ty n ∷ b ∷ rest) old kinds e = absurd (first_of (is_some (term_in b)) (are_term_pairs (signature_in s) rest) kinds)
pairs_none s (Term u ∷ Number n ∷ rest) old kinds e = absurd (middle_of (is_some (variable_in (signature_in s) (Term u))) (are_term_pairs (signature_in s) rest) kinds)
pairs_none s (Term u ∷ Name n ∷ rest) old kinds e = absurd (middle_of (is_some (variable_in (signature_in s) (Term u))) (are_term_pairs (signature_in s) rest) kinds)
pairs_none s (Term u ∷ TyVar n ∷ rest) old kinds e = absurd (middle_of (is_some (variable_in (signature_in s) (Term u))) (are_term_pairs (signature_in s) rest) kinds)
pairs_none s (Term u ∷ Ty n ∷ rest) old kinds e = absurd (middle_of (is_some (variable_in (signature_in s) (Term u))) (are_term_pairs (signature_in s) rest) kinds)
pairs_none s (Term u ∷ Term v ∷ rest) old kinds e = absurd (none-some _ (sym e))

pub types_none : (signature : Signature) (args : List Arg) (old : Types) → are_type_pairs args ≡ true → types_first args ≡ None → types_read signature args old ≡ Ok old
types_none signature [] old kinds e = refl
types_none signature (a ∷ []) old kinds e = absurd (no_kinds a kinds)
  where
    no_kinds : (a : Arg) → are_type_pairs (a ∷ []) ≡ true → ⊥
    no_kinds (Number n) k = cc
    no_kinds (Name n) k = cc
    no_kinds (TyVar n) k = cc
    no_kinds (Term n) k = cc
    no_kinds (Ty n) k = cc
types_none signature (Number n ∷ b ∷ rest) old kinds e = absurd (cc)
types_none signature (Name n ∷ b ∷ rest) old kinds e = absurd (cc)
types_none signature (Term n ∷ b ∷ rest) old kinds e = absurd (cc)
types_none signature (Ty n ∷ b ∷ rest) old kinds e = absurd (cc)
types_none signature (TyVar u ∷ Number n ∷ rest) old kinds e = absurd (cc)
types_none signature (TyVar u ∷ Name n ∷ rest) old kinds e = absurd (cc)
types_none signature (TyVar u ∷ Term n ∷ rest) old kinds e = absurd (cc)
types_none signature (TyVar u ∷ TyVar n ∷ rest) old kinds e = absurd (cc)
types_none signature (TyVar u ∷ Ty v ∷ rest) old kinds e = absurd (none-some _ (sym e))

-- a variable and a term, and whatever comes of those behind
pub pair_refused : (s : Scene) (args : List Arg) (x t : RawTm) (rest : List Arg) (f : LineFault) → terms_first args ≡ Some (x, t, rest) → OneUnread s x t f → UnreadPairs s args f
pair_refused s args x t rest f e no_room = wanting
pair_refused s args x t rest f e (no_variable u) = rw (terms_are args x t rest e) (at_variable u)
pair_refused s args x t rest f e (no_term v r u) = rw (terms_are args x t rest e) (at_term v r u)

pub pairs_behind : (s : Scene) (args : List Arg) (x t : RawTm) (rest : List Arg) (old mid new : List (List ℕ × Typ × Tm)) (result : Result (Unit {0}) LineFault) →
    terms_first args ≡ Some (x, t, rest) → OnePair s x t old mid → IfOk result (λ _. ReadsPairs s rest mid new) → IfOk result (λ _. ReadsPairs s args old new)
pairs_behind s args x t rest old mid new (Ok u) e o r =
    rw (terms_are args x t rest e) (one_pair o.variable o.term o.variable_read o.term_read (subst (λ (m : List (List ℕ × Typ × Tm)). ReadsPairs s rest m new) o.is r))
pairs_behind s args x t rest old mid new (Err f) e o r = tt

pub pairs_refused : (s : Scene) (args : List Arg) (x t : RawTm) (rest : List Arg) (old mid : List (List ℕ × Typ × Tm)) (result : Result (Unit {0}) LineFault) →
    terms_first args ≡ Some (x, t, rest) → OnePair s x t old mid → IfErr result (UnreadPairs s rest) → IfErr result (UnreadPairs s args)
pairs_refused s args x t rest old mid (Ok u) e o r = tt
pairs_refused s args x t rest old mid (Err f) e o r = rw (terms_are args x t rest e) (behind o.variable o.term o.variable_read o.term_read r)

-- a type variable and a type, and whatever comes of those behind
pub type_refused : (signature : Signature) (args : List Arg) (a : List ℕ) (raw : RawTyp) (rest : List Arg) (old new : Types) (f : LineFault) → types_first args ≡ Some (a, raw, rest) →
    Is (type_read signature raw) (Err f) → TypesRead (types_read signature args old) new (Err f)
type_refused signature args a raw rest old new (Bad cause) e r = rw (types_are args a raw rest e, r) refl
type_refused signature args a raw rest old new NoMemory e r = tt

pub types_behind : (signature : Signature) (args : List Arg) (a : List ℕ) (raw : RawTyp) (t : Typ) (rest : List Arg) (old mid new : Types) (result : Result (Unit {0}) LineFault) →
    types_first args ≡ Some (a, raw, rest) → type_read signature raw ≡ Ok t → mid ≡ old ++ (a, t) ∷ [] → TypesRead (types_read signature rest mid) new result →
    TypesRead (types_read signature args old) new result
types_behind signature args a raw t rest old mid new result e read m r =
    rw (types_are args a raw rest e, read) (subst (λ (u : Types). TypesRead (types_read signature rest u) new result) m r)

-- from an empty list on
pub types_fail : (used signature : Signature) (args : List Arg) (old new : Types) (f : LineFault) → used ≡ signature → old ≡ [] → TypesRead (types_read used args old) new (Err f) →
    Is (types_read signature args []) (Err f)
types_fail used signature args old new (Bad cause) s o r = rw (s, o) at r
types_fail used signature args old new NoMemory s o r = tt

pub types_fit : (used signature : Signature) (args : List Arg) (old new : Types) → used ≡ signature → old ≡ [] → types_read used args old ≡ Ok new → types_read signature args [] ≡ Ok new
types_fit used signature args old new s o r = rw (s, o) at r
