-- What `defining_type` gives is a new type, and what is said of a new type is derivable.
use Rattle.std.proofs.Common.{◌≡◌, ◌∙◌, ℕ, Bool, true, false, cond, ◌&&◌, ◌==◌, List, [], ◌∷◌, ◌++◌, length, refl, sym, ap, subst, arith}
use Rattle.std.specs.Prelude.{Option, Some, None, codes}
use Rattle.std.specs.Str.{bytes_eq}
use Rattle.std.proofs.lemmas.Option.{none-some, same_Some}
use Rattle.std.proofs.lemmas.Bool.Decides.{Decides-eqb}
use Rattle.fp_term.specs.declared.signature.Signature.{Signature}
use Rattle.fp_term.specs.Types.{Typ, count}
use Rattle.fp_term.specs.Terms.{Tm, bound, free, constant, app, abs}
use Rattle.fp_term.specs.Typing.{type_under, function_type}
use Rattle.fp_term.specs.Signatures.{first_of, arity_of, IsType, AreTypes, IsConstant, IsWellTyped}
use Rattle.fp_term.specs.Variables.{free_names, first_free_of, type_names_in}
use Rattle.fp_term.specs.Types.{found_type}
use Rattle.fp_term.proofs.Choices.{chosen}
use Rattle.fp_term.proofs.Typed.{app_parts, app_typed, typed_over}
use Rattle.fp_conclude.specs.Logic.{truth_type, predicate_type, equal}
use Rattle.fp_conclude.specs.Outcomes.{gives, name_taken, not_inhabited_form, not_closed}
use Rattle.fp_conclude.proofs.Outcomes.{unless_gives, part_gives, same_given}
use Rattle.fp_kernel.specs.Definitions.{Def, new_type, Within}
use Rattle.fp_kernel.specs.Start.{signature_of, distinct_after, variables, applied_to, domain, represented, abs_rep, rep_abs}
use Rattle.fp_kernel.specs.Conservative.{IsNewType}
use Rattle.fp_kernel.specs.Derivability.{first, IsFormula, Derives, abs_rep_of, rep_abs_of}
use Rattle.fp_kernel.specs.Theorems.{Theorem, IsTheorem}
use Rattle.fp_kernel.specs.Defining.{taken, first_taken, application_parts, is_unconditional, inhabited_parts, defining_type}
use Rattle.fp_kernel.proofs.Growing.{found_new, found_second, arity_new, one_more, over_grows, type_grows, own_instance}
use Rattle.fp_kernel.proofs.Formulas.{fun_is, function_is, equation, both_formula, formula_of}
use Rattle.fp_kernel.proofs.Later.{later_all}
use Rattle.fp_kernel.proofs.Defined.{not_taken, none_beyond}

-- the parameters are types
count_variables : (names : List (List ℕ)) → count (variables names) ≡ length names
count_variables [] = refl
count_variables (a ∷ names) = let e = count_variables names in omega arith

are_types : (g : Signature) (names : List (List ℕ)) → AreTypes g (variables names)
are_types g [] = tt
are_types g (a ∷ names) = (tt, are_types g names)

-- the predicate of a formula is one on the type of its argument
predicate_typed : (defs : List Def) (predicate inhabitant : Tm) → IsFormula (signature_of defs) (app predicate inhabitant) → (s : Typ) × (type_under [] predicate ≡ Some (predicate_type s))
predicate_typed defs predicate inhabitant h = let p = app_parts [] predicate inhabitant truth_type h.typed in (p.0, p.1)

module _ (defs : List Def) (name : List ℕ) (params : List (List ℕ)) (predicate inhabitant : Tm) (abstract represent : List ℕ) (h : IsNewType defs name params predicate inhabitant abstract represent) where
  pub typed_predicate : (s : Typ) × (type_under [] predicate ≡ Some (predicate_type s))
  typed_predicate = predicate_typed defs predicate inhabitant (formula_of h.inhabited)

  abbrev all : List Def
  all = new_type name params predicate inhabitant abstract represent ∷ defs

  abbrev old : Typ
  old = represented predicate

  abbrev new : Typ
  new = applied_to name params

  at_old : type_under [] predicate ≡ Some (predicate_type old)
  at_old = let p = typed_predicate in let is : p.0 ≡ old = sym (ap domain p.1) in p.1 ∙ ap (λ s. Some (predicate_type s)) is

  predicate_is : IsWellTyped (signature_of all) predicate (predicate_type old)
  predicate_is = record { typed = at_old; over = over_grows (signature_of defs) (signature_of all) (one_more (new_type name params predicate inhabitant abstract represent) defs) predicate (formula_of h.inhabited).over.0 }

  old_is : IsType (signature_of all) old
  old_is = let t = typed_over (signature_of all) (fun_is all) predicate (predicate_type old) predicate_is.over at_old in t.1.0

  new_is : IsType (signature_of all) new
  new_is = (arity_new (signature_of defs).types name (length params) h.fresh ∙ ap Some (sym (count_variables params)), are_types (signature_of all) params)

  abs_is : IsWellTyped (signature_of all) (constant abstract (function_type old new)) (function_type old new)
  abs_is = record {
    typed = refl;
    over = (
      record { declared = function_type old new; found = found_new (signature_of defs).consts ((represent, function_type new old) ∷ []) abstract (function_type old new) h.fresh_abstract; instance = own_instance (function_type old new) },
      function_is all old new old_is new_is,
    );
  }

  rep_is : IsWellTyped (signature_of all) (constant represent (function_type new old)) (function_type new old)
  rep_is = record {
    typed = refl;
    over = (
      record { declared = function_type new old; found = found_second (signature_of defs).consts abstract represent (function_type old new) (function_type new old) h.fresh_represent h.two; instance = own_instance (function_type new old) },
      function_is all new old new_is old_is,
    );
  }

  image_is : (f x : Tm) (s r : Typ) → IsWellTyped (signature_of all) f (function_type s r) → IsWellTyped (signature_of all) x s → IsWellTyped (signature_of all) (app f x) r
  image_is f x s r k l = record { typed = app_typed [] f x s r k.typed l.typed; over = (k.over, l.over) }

  variable_is : (a : List ℕ) (s : Typ) → IsType (signature_of all) s → IsWellTyped (signature_of all) (free a s) s
  variable_is a s k = record { typed = refl; over = k }

  pub abs_rep_derived : Derives all [] [] (abs_rep name params predicate abstract represent)
  abs_rep_derived =
      let a = free (codes "a") new in
      let there = app (constant represent (function_type new old)) a in
      let there_is = image_is (constant represent (function_type new old)) a new old rep_is (variable_is (codes "a") new new_is) in
      let back = app (constant abstract (function_type old new)) there in
      abs_rep_of first (equation all new back a (record {
        type = new_is;
        left = image_is (constant abstract (function_type old new)) there old new abs_is there_is;
        right = variable_is (codes "a") new new_is;
      }))

  pub rep_abs_derived : Derives all [] [] (rep_abs name params predicate abstract represent)
  rep_abs_derived =
      let r = free (codes "r") old in
      let r_is = variable_is (codes "r") old old_is in
      let there = app (constant abstract (function_type old new)) r in
      let there_is = image_is (constant abstract (function_type old new)) r old new abs_is r_is in
      let back = app (constant represent (function_type new old)) there in
      let back_is = image_is (constant represent (function_type new old)) there new old rep_is there_is in
      rep_abs_of first (both_formula all (app predicate r) (equal old back r) (image_is predicate r old truth_type predicate_is r_is)
      (equation all old back r (record { type = old_is; left = back_is; right = r_is })))

-- what is taken for none of the names
none_first : (a b : Option (List ℕ)) → first_of a b ≡ None → (a ≡ None) × (b ≡ None)
none_first None b e = (refl, e)
none_first (Some x) b e = absurd (none-some x (sym e))

both_of : (a b : Bool) → (a && b) ≡ true → (a ≡ true) × (b ≡ true)
both_of true b e = (refl, e)
both_of false b e = cc

applied_parts : (t : Tm) (p : Tm × Tm) → application_parts t ≡ Some p → t ≡ app p.0 p.1
applied_parts (app f x) p e = let same = same_Some {A = Tm × Tm} (f, x) p e in ap (λ (q : Tm × Tm). app q.0 q.1) same
applied_parts (bound n) p e = absurd (none-some p e)
applied_parts (free a s) p e = absurd (none-some p e)
applied_parts (constant a s) p e = absurd (none-some p e)
applied_parts (abs s x) p e = absurd (none-some p e)

none_left : {A : Type 0} (xs : List A) → length xs ≡ 0 → xs ≡ []
none_left [] e = refl
none_left (x ∷ xs) e = absurd (omega arith)

-- the theorem `P t`, over a longer list
inhabited_over : (defs : List Def) (th : Theorem) (p : Tm × Tm) → Within th.defs defs → IsTheorem th → inhabited_parts th ≡ Some p → Derives defs [] [] (app p.0 p.1)
inhabited_over defs th p w d e =
    chosen (is_unconditional th) _ _ _ (Derives defs [] [] (app p.0 p.1))
    (λ is f.
    let b = both_of (length th.hyps == 0) (length th.promises == 0) is in
    let hyps = none_left th.hyps ((Decides-eqb (length th.hyps) 0).0 b.0) in
    let promises = none_left th.promises ((Decides-eqb (length th.promises) 0).0 b.1) in
    let over : Derives defs th.promises th.hyps th.concl = later_all w (λ x i. i) d in
    rw (promises, hyps, applied_parts th.concl p f) at over)
    (λ _ f. absurd (none-some p f)) e

apart_of : (abstract represent : List ℕ) (o : Option (List ℕ)) → cond (bytes_eq abstract represent) (Some represent) o ≡ None → (bytes_eq abstract represent ≡ false) × (o ≡ None)
apart_of abstract represent o e =
    chosen (bytes_eq abstract represent) _ _ _ ((bytes_eq abstract represent ≡ false) × (o ≡ None)) (λ _ f. absurd (none-some represent (sym f))) (λ no f. (no, f)) e

same_new_type : (name : List ℕ) (ps qs : List (List ℕ)) (p q t u : Tm) (a r : List ℕ) → new_type name ps p t a r ≡ new_type name qs q u a r → (ps ≡ qs) × (p ≡ q) × (t ≡ u)
same_new_type name ps qs p q t u a r e = (cc, cc, cc)

pub type_made_new : (defs : List Def) (name abstract represent : List ℕ) (th : Theorem) (params : List (List ℕ)) (p t : Tm) → Within th.defs defs → IsTheorem th →
    defining_type defs name abstract represent th ≡ gives (new_type name params p t abstract represent) → IsNewType defs name params p t abstract represent
type_made_new defs name abstract represent th params p t w d e =
    let a = unless_gives name_taken (first_taken (signature_of defs) name abstract represent) _ _ e in
    let b = part_gives not_inhabited_form (inhabited_parts th) _ _ a.1 in
    let c = unless_gives not_closed (first_free_of b.0.0) _ _ b.2 in
    let s = same_new_type name (distinct_after [] (type_names_in b.0.0)) params b.0.0 p b.0.1 t abstract represent (same_given _ _ c.1) in
    let x = none_first (taken name (arity_of name (signature_of defs).types)) _ a.0 in
    let y = none_first (taken abstract (found_type abstract (signature_of defs).consts)) _ x.1 in
    let z = apart_of abstract represent (taken represent (found_type represent (signature_of defs).consts)) y.1 in
    record {
      fresh = not_taken name _ x.0;
      fresh_abstract = not_taken abstract _ y.0;
      fresh_represent = not_taken represent _ z.1;
      two = z.0;
      closed = subst (λ (u : Tm). free_names u ≡ []) s.1 (none_beyond _ c.0);
      in_order = sym s.0 ∙ ap (λ (u : Tm). distinct_after [] (type_names_in u)) s.1;
      inhabited = subst (λ (u : Tm). Derives defs [] [] (app p u)) s.2 (subst (λ (u : Tm). Derives defs [] [] (app u b.0.1)) s.1 (inhabited_over defs th b.0 w d b.1));
    }
