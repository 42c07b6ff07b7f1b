-- What a rule concludes from derivable premises is derivable.
use Rattle.std.proofs.Common.{◌≡◌, ◌∙◌, ℕ, true, List, [], ◌∷◌, sym, ap, refl as same_path}
use Rattle.std.specs.Prelude.{Option, Some, None}
use Rattle.std.proofs.lemmas.Option.{same_Some}
use Rattle.fp_term.specs.Types.{Typ, type_eq}
use Rattle.fp_term.specs.Terms.{Tm, app, abs, term_eq, opened, replaced, retyped_term}
use Rattle.fp_term.specs.Typing.{type_under}
use Rattle.fp_term.specs.Signatures.{unknown_in_type}
use Rattle.fp_term.proofs.Equal.{type_eq-decides, term_eq-decides}
use Rattle.fp_term.proofs.Known.{type_known}
use Rattle.fp_conclude.specs.Logic.{truth_type, equal}
use Rattle.fp_conclude.specs.Hypotheses.{union, all_replaced, all_retyped_terms, occurs_in_any}
use Rattle.fp_conclude.specs.Outcomes.{gives, with_part, unknown_name, ill_typed_at, not_equation, not_redex, not_bool, differ, free_in_hyps}
use Rattle.fp_conclude.specs.Parts.{function_parts, equation, redex}
use Rattle.fp_conclude.specs.Checks.{typed_over, fitting, unknown_in_pairs, unknown_in_type_pairs}
use Rattle.fp_conclude.specs.Rules.{refl_of, joined, trans_of, applied_at, mk_comb_of, abstracted, lam_of, beta_of, assume_of, replaced_by, eq_mp_of, inst_of, inst_ty_of}
use Rattle.fp_conclude.proofs.Equations.{function_shape, equation_shape}
use Rattle.fp_conclude.proofs.Checked.{well_typed, are_terms, are_types}
use Rattle.fp_conclude.proofs.Outcomes.{unless_gives, followed_gives, part_gives, same_given, gives_where, gives_unless}
use Rattle.fp_kernel.specs.Definitions.{Def}
use Rattle.fp_kernel.specs.Start.{signature_of}
use Rattle.fp_kernel.specs.Derivability.{Derives, refl, trans, mk_comb, lam, beta, assume, eq_mp, inst, inst_ty}
use Rattle.fp_kernel.proofs.Formulas.{formula_of, sides}

abbrev Three : Type 0
Three = Typ × Tm × Tm

-- the premise is that equation
as_equation : {defs : List Def} {promises : List (ℕ × Tm)} {hyps : List Tm} (p : Tm) (w : Three) → equation p ≡ Some w → Derives defs promises hyps p → Derives defs promises hyps (equal w.0 w.1 w.2)
as_equation p w e d = rw (equation_shape p w e) at d

module _ {defs : List Def} {promises : List (ℕ × Tm)} where
  pub refl_sound : (t c : Tm) → refl_of (signature_of defs) t ≡ gives c → Derives defs promises [] c
  refl_sound t c e =
      let a = followed_gives (typed_over (signature_of defs) t) (λ s. gives (equal s t t)) c e in
      rw (← same_given (equal a.0 t t) c a.2) (refl a.0 t (well_typed (signature_of defs) t a.0 a.1))

  -- equations with a common side are at one type
  one_type : {hyps more : List Tm} (s r : Typ) (t u v w : Tm) → u ≡ v → Derives defs promises hyps (equal s t u) → Derives defs promises more (equal r v w) → s ≡ r
  one_type s r t u v w same d e =
      let a = (sides (signature_of defs) s t u (formula_of d)).right in
      let b = (sides (signature_of defs) r v w (formula_of e)).left in
      same_Some s r (sym a.typed ∙ ap (type_under []) same ∙ b.typed)

  pub trans_sound : {hyps more : List Tm} (p q c : Tm) → trans_of p q ≡ gives c → Derives defs promises hyps p → Derives defs promises more q → Derives defs promises (union hyps more) c
  trans_sound p q c h d e =
      let a = part_gives not_equation (equation p) (λ x. with_part not_equation (equation q) (λ y. joined x y)) c h in
      let b = part_gives not_equation (equation q) (λ y. joined a.0 y) c a.2 in
      let x = a.0 in
      let y = b.0 in
      let k = gives_where (term_eq x.2 y.1) (equal x.0 x.1 y.2) (differ x.2 y.1) c b.2 in
      let same = (term_eq-decides x.2 y.1).0 k.0 in
      let left = as_equation p x a.1 d in
      let right = as_equation q y b.1 e in
      rw (← k.1) (trans left (rw (← one_type x.0 y.0 x.1 x.2 y.1 y.2 same left right, ← same) at right))

  applied_sound : {hyps more : List Tm} (x y : Three) (o : Option (Typ × Typ)) (c : Tm) → function_parts x.0 ≡ o → applied_at o x y ≡ gives c →
      Derives defs promises hyps (equal x.0 x.1 x.2) → Derives defs promises more (equal y.0 y.1 y.2) → Derives defs promises (union hyps more) c
  applied_sound x y None c o h d e = cc
  applied_sound x y (Some f) c o h d e =
      let k = gives_where (type_eq f.0 y.0) (equal f.1 (app x.1 y.1) (app x.2 y.2)) (ill_typed_at []) c h in
      let same = (type_eq-decides f.0 y.0).0 k.0 in
      rw (← k.1) (mk_comb (rw (function_shape x.0 f o, same) at d) e)

  pub mk_comb_sound : {hyps more : List Tm} (p q c : Tm) → mk_comb_of p q ≡ gives c → Derives defs promises hyps p → Derives defs promises more q → Derives defs promises (union hyps more) c
  mk_comb_sound p q c h d e =
      let a = part_gives not_equation (equation p) (λ x. with_part not_equation (equation q) (λ y. applied_at (function_parts x.0) x y)) c h in
      let b = part_gives not_equation (equation q) (λ y. applied_at (function_parts a.0.0) a.0 y) c a.2 in
      applied_sound a.0 b.0 (function_parts a.0.0) c same_path b.2 (as_equation p a.0 a.1 d) (as_equation q b.0 b.1 e)

  pub lam_sound : {hyps : List Tm} (name : List ℕ) (ty : Typ) (p c : Tm) → lam_of (signature_of defs) name ty hyps p ≡ gives c → Derives defs promises hyps p → Derives defs promises hyps c
  lam_sound {hyps} name ty p c h d =
      let u = unless_gives unknown_name (unknown_in_type (signature_of defs) ty) _ c h in
      let a = part_gives not_equation (equation p) _ c u.1 in
      let x = a.0 in
      let k = gives_unless (occurs_in_any name ty hyps) (abstracted name ty x) (free_in_hyps name) c a.2 in
      rw (← k.1) (lam name ty (type_known (signature_of defs) ty u.0) k.0 (as_equation p x a.1 d))

  reduced_sound : (s : Typ) (t : Tm) (o : Option (Tm × Tm)) (c : Tm) → redex t ≡ o → typed_over (signature_of defs) t ≡ gives s →
      with_part not_redex o (λ r. gives (equal s t (opened 0 r.1 r.0))) ≡ gives c → Derives defs promises [] c
  reduced_sound s (app (abs ty body) arg) (Some r) c o h e =
      let same = same_Some {A = Tm × Tm} (body, arg) r o in
      let is : opened 0 r.1 r.0 ≡ opened 0 arg body = rw (← ap (λ (q : Tm × Tm). q.0) same, ← ap (λ (q : Tm × Tm). q.1) same) same_path in
      let t = app (abs ty body) arg in
      rw (← same_given (equal s t (opened 0 r.1 r.0)) c e, is) (beta s ty body arg (well_typed (signature_of defs) t s h))
  reduced_sound s t None c o h e = cc
  reduced_sound s _ (Some r) c o h e = cc

  pub beta_sound : (t c : Tm) → beta_of (signature_of defs) t ≡ gives c → Derives defs promises [] c
  beta_sound t c e =
      let a = followed_gives (typed_over (signature_of defs) t) (λ s. with_part not_redex (redex t) (λ r. gives (equal s t (opened 0 r.1 r.0)))) c e in
      reduced_sound a.0 t (redex t) c same_path a.1 a.2

  pub assume_sound : (t c : Tm) → assume_of (signature_of defs) t ≡ gives c → Derives defs promises (t ∷ []) c
  assume_sound t c e =
      let a = followed_gives (typed_over (signature_of defs) t) _ c e in
      let k = gives_where (type_eq a.0 truth_type) t not_bool c a.2 in
      let same = (type_eq-decides a.0 truth_type).0 k.0 in
      let whole = well_typed (signature_of defs) t a.0 a.1 in
      rw (← k.1) (assume t (record { typed = whole.typed ∙ ap Some same; over = whole.over }))

  pub eq_mp_sound : {hyps more : List Tm} (p q c : Tm) → eq_mp_of p q ≡ gives c → Derives defs promises hyps p → Derives defs promises more q → Derives defs promises (union hyps more) c
  eq_mp_sound p q c h d e =
      let a = part_gives not_equation (equation p) (λ x. replaced_by x q) c h in
      let x = a.0 in
      let k = gives_where (term_eq x.1 q) x.2 (differ x.1 q) c a.2 in
      let same = (term_eq-decides x.1 q).0 k.0 in
      let left = as_equation p x a.1 d in
      let s = (sides (signature_of defs) x.0 x.1 x.2 (formula_of left)).left in
      let truth = same_Some x.0 truth_type (sym s.typed ∙ ap (type_under []) same ∙ (formula_of e).typed) in
      rw (← k.1) (eq_mp (rw truth at left) (rw (← same) at e))

  pub inst_sound : {hyps : List Tm} (pairs : List (List ℕ × Typ × Tm)) (p c : Tm) → inst_of (signature_of defs) pairs p ≡ gives c → Derives defs promises hyps p → Derives defs promises (all_replaced pairs hyps) c
  inst_sound pairs p c h d =
      let u = unless_gives unknown_name (unknown_in_pairs (signature_of defs) pairs) _ c h in
      let a = followed_gives (fitting true pairs) _ c u.1 in
      let k = gives_where a.0 (replaced pairs p) (ill_typed_at []) c a.2 in
      rw (← k.1) (inst pairs (are_terms (signature_of defs) pairs u.0 (a.1 ∙ ap gives k.0)) d)

  pub inst_ty_sound : {hyps : List Tm} (pairs : List (List ℕ × Typ)) (p c : Tm) → inst_ty_of (signature_of defs) pairs p ≡ gives c → Derives defs promises hyps p → Derives defs promises (all_retyped_terms pairs hyps) c
  inst_ty_sound pairs p c h d =
      let u = unless_gives unknown_name (unknown_in_type_pairs (signature_of defs) pairs) (gives (retyped_term pairs p)) c h in
      rw (← same_given (retyped_term pairs p) c u.1) (inst_ty pairs (are_types (signature_of defs) pairs u.0) d)
