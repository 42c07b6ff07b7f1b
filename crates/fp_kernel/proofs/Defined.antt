-- What `defining` makes is a new constant, each new constant is made, and its equation is a formula.
use Rattle.std.proofs.Common.{◌≡◌, ◌∙◌, ℕ, List, [], ◌∷◌, ◌++◌, refl, sym, subst}
use Rattle.std.specs.Prelude.{Option, Some, None, Result, Ok, Err, IfErr}
use Rattle.std.proofs.lemmas.Option.{none-some}
use Rattle.fp_term.specs.Types.{Typ}
use Rattle.fp_term.specs.Terms.{Tm, constant}
use Rattle.fp_term.specs.Signatures.{IsWellTyped}
use Rattle.fp_term.specs.Variables.{type_names, type_names_in, is_among, first_beyond}
use Rattle.fp_term.proofs.Choices.{chosen}
use Rattle.fp_term.proofs.Typed.{typed_over}
use Rattle.fp_conclude.specs.Logic.{equal}
use Rattle.fp_conclude.specs.Outcomes.{Outcome, gives, refused, name_taken, unknown_name, ill_typed_at, not_inhabited_form, not_closed, hidden_type}
use Rattle.fp_conclude.proofs.Outcomes.{unless_gives, followed_gives, same_given}
use Rattle.fp_conclude.proofs.Checked.{well_typed}
use Rattle.fp_conclude.proofs.Gives.{typed_over_gives}
use Rattle.fp_kernel.specs.Definitions.{Def, new_constant}
use Rattle.fp_kernel.specs.Start.{signature_of}
use Rattle.fp_kernel.specs.Conservative.{AllAmong, IsNewConstant}
use Rattle.fp_kernel.specs.Derivability.{first, IsFormula, Derives, constant_of}
use Rattle.fp_kernel.specs.declared.fault.DefFault.{DefFault}
use Rattle.fp_kernel.specs.declared.fault.DefFault.TheVariants.{NameTaken, UnknownName, IllTyped, NotInhabitedForm, NotClosed, HiddenType, NoMemory}
use Rattle.fp_kernel.specs.Defining.{FaultIs, MadeUnlessMemory, taken, defining}
use Rattle.fp_kernel.proofs.Growing.{found_new, one_more, over_grows, own_instance}
use Rattle.fp_kernel.proofs.Formulas.{fun_is, equation}

pub not_taken : {A : Type 0} (name : List ℕ) (o : Option A) → taken name o ≡ None → o ≡ None
not_taken name None e = refl
not_taken name (Some s) e = absurd (none-some name (sym e))

pub none_beyond : (xs : List (List ℕ)) → first_beyond [] xs ≡ None → xs ≡ []
none_beyond [] e = refl
none_beyond (x ∷ xs) e = absurd (none-some x (sym e))

all_among : (known : List (List ℕ)) (xs : List (List ℕ)) → first_beyond known xs ≡ None → AllAmong known xs
all_among known [] e = tt
all_among known (x ∷ xs) e = chosen (is_among known x) _ _ _ (AllAmong known (x ∷ xs)) (λ is f. (is, all_among known xs f)) (λ _ f. absurd (none-some x (sym f))) e

among_all : (known : List (List ℕ)) (xs : List (List ℕ)) → AllAmong known xs → first_beyond known xs ≡ None
among_all known [] h = refl
among_all known (x ∷ xs) h = rw h.0 (among_all known xs h.1)

pub made_new : (defs : List Def) (name : List ℕ) (body : Tm) (s : Typ) → defining defs name body ≡ gives s → IsNewConstant defs name s body
made_new defs name body s e =
    let a = unless_gives name_taken _ _ s e in
    let b = followed_gives _ _ s a.1 in
    let c = unless_gives not_closed _ _ s b.2 in
    let d = unless_gives hidden_type _ _ s c.1 in
    let same = same_given b.0 s d.1 in
    record {
      fresh = not_taken name _ a.0;
      typed = subst (λ u. IsWellTyped (signature_of defs) body u) same (well_typed (signature_of defs) body b.0 b.1);
      closed = none_beyond _ c.0;
      shown = all_among (type_names s) (type_names_in body) (rw same at d.0);
    }

pub new_made : (defs : List Def) (name : List ℕ) (body : Tm) (s : Typ) → IsNewConstant defs name s body → defining defs name body ≡ gives s
new_made defs name body s h =
    rw (h.fresh, typed_over_gives (signature_of defs) body s h.typed, h.closed, among_all (type_names s) (type_names_in body) h.shown) refl

-- the equation of a new constant is a formula over the list with it
pub new_formula : (defs : List Def) (name : List ℕ) (body : Tm) (s : Typ) → IsNewConstant defs name s body → IsFormula (signature_of (new_constant name s body ∷ defs)) (equal s (constant name s) body)
new_formula defs name body s h =
    let all = new_constant name s body ∷ defs in
    let g = signature_of all in
    let body_is = over_grows (signature_of defs) g (one_more (new_constant name s body) defs) body h.typed.over in
    let type_is = typed_over g (fun_is all) body s body_is h.typed.typed in
    equation all s (constant name s) body (record {
      type = type_is;
      left = record {
        typed = refl;
        over = (record { declared = s; found = found_new (signature_of defs).consts [] name s h.fresh; instance = own_instance s }, type_is);
      };
      right = record { typed = h.typed.typed; over = body_is };
    })

pub new_derived : (defs : List Def) (name : List ℕ) (body : Tm) (s : Typ) → IsNewConstant defs name s body → Derives (new_constant name s body ∷ defs) [] [] (equal s (constant name s) body)
new_derived defs name body s h = constant_of first (new_formula defs name body s h)

only_memory : {A : Type 0} (fault : DefFault) (o : Outcome A) (x : A) → FaultIs fault o → o ≡ gives x → fault ≡ NoMemory
only_memory (NameTaken name) o x f e = let g : o ≡ refused (name_taken name) = f in cc
only_memory (UnknownName name) o x f e = let g : o ≡ refused (unknown_name name) = f in cc
only_memory (IllTyped place) o x f e = let g : o ≡ refused (ill_typed_at place) = f in cc
only_memory NotInhabitedForm o x f e = let g : o ≡ refused not_inhabited_form = f in cc
only_memory (NotClosed name) o x f e = let g : o ≡ refused (not_closed name) = f in cc
only_memory (HiddenType name) o x f e = let g : o ≡ refused (hidden_type name) = f in cc
only_memory NoMemory o x f e = refl

-- what gives something is refused for want of memory alone
pub only_for_memory : {A B : Type 0} (r : Result B DefFault) (o : Outcome A) (x : A) → IfErr r (λ fault. FaultIs fault o) → o ≡ gives x → MadeUnlessMemory r
only_for_memory (Ok made) o x f e = tt
only_for_memory (Err fault) o x f e = only_memory fault o x f e
