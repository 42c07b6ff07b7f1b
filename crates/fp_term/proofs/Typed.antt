-- Putting terms in place of numbers and of variables keeps types, and what is over a signature.
use Rattle.std.proofs.Common.{◌≡◌, ◌∙◌, ℕ, zero, suc, ◌+◌, ◌==◌, Bool, true, false, cond, ◌&&◌, List, [], ◌∷◌, ◌++◌, length, refl, sym, ap, arith}
use Rattle.std.specs.Prelude.{Option, Some, None}
use Rattle.std.specs.List.{slice_get}
use Rattle.std.specs.Str.{bytes_eq}
use Rattle.std.proofs.lemmas.Option.{none-some, same_Some, cond_some}
use Rattle.std.proofs.lemmas.Bool.Decides.{Decides-and, Decides-eqb, not_from_Decides}
use Rattle.std.proofs.lemmas.Slice.Eq.{bytes_eq-Decides}
use Rattle.fp_term.specs.declared.signature.Signature.{Signature}
use Rattle.fp_term.specs.Names.{function}
use Rattle.fp_term.specs.Types.{Typ, applied, none, more, type_eq}
use Rattle.fp_term.specs.Terms.{Tm, bound, free, constant, app, abs, opened, closed, found, or_else, replaced}
use Rattle.fp_term.specs.Typing.{type_under, function_type, type_of_app, bind}
use Rattle.fp_term.specs.Signatures.{arity_of, IsType, IsOver}
use Rattle.fp_term.proofs.Equal.{type_eq-decides}

-- what applies to a type is a function from it
function_from : (f x s : Typ) → type_of_app f x ≡ Some s → f ≡ function_type x s
function_from (applied name (more from (more to none))) x s e =
    let c = cond_some (bytes_eq name function && type_eq from x) to s e in
    let d = (Decides-and (bytes_eq name function) (type_eq from x) (bytes_eq-Decides name function) (type_eq-decides from x)).0 c.0 in
    rw (d.0, d.1, c.1) refl
function_from _ x s e = absurd (none-some s e)

function_applies : (x s : Typ) → type_of_app (function_type x s) x ≡ Some s
function_applies x s = rw ((type_eq-decides x x).1 refl) refl

-- equal types of functions are from equal types and to equal types
pub same_function : (x s y t : Typ) → function_type x s ≡ function_type y t → (x ≡ y) × (s ≡ t)
same_function x s y t e = (cc, cc)

both_typed : (o p : Option Typ) (s : Typ) → bind o (λ f. bind p (type_of_app f)) ≡ Some s → (from : Typ) × (o ≡ Some (function_type from s)) × (p ≡ Some from)
both_typed None p s e = absurd (none-some s e)
both_typed (Some f) None s e = absurd (none-some s e)
both_typed (Some f) (Some x) s e = (x, ap Some (function_from f x s e), refl)

body_typed : (o : Option Typ) (u s : Typ) → bind o (λ t. Some (function_type u t)) ≡ Some s → (to : Typ) × (o ≡ Some to) × (function_type u to ≡ s)
body_typed None u s e = absurd (none-some s e)
body_typed (Some to) u s e = (to, refl, same_Some (function_type u to) s e)

-- the types of the parts, from the type of the whole, and the other way round
pub app_parts : (env : List Typ) (f x : Tm) (s : Typ) → type_under env (app f x) ≡ Some s →
    (from : Typ) × (type_under env f ≡ Some (function_type from s)) × (type_under env x ≡ Some from)
app_parts env f x s e = both_typed (type_under env f) (type_under env x) s e

pub abs_parts : (env : List Typ) (u : Typ) (x : Tm) (s : Typ) → type_under env (abs u x) ≡ Some s → (to : Typ) × (type_under (u ∷ env) x ≡ Some to) × (function_type u to ≡ s)
abs_parts env u x s e = body_typed (type_under (u ∷ env) x) u s e

pub app_typed : (env : List Typ) (f x : Tm) (from s : Typ) → type_under env f ≡ Some (function_type from s) → type_under env x ≡ Some from → type_under env (app f x) ≡ Some s
app_typed env f x from s h k = rw (h, k) (function_applies from s)

pub abs_typed : (env : List Typ) (u : Typ) (x : Tm) (to : Typ) → type_under (u ∷ env) x ≡ Some to → type_under env (abs u x) ≡ Some (function_type u to)
abs_typed env u x to h = rw h refl

-- a term keeps its type under a longer list
place_longer : (env later : List Typ) (n : ℕ) (s : Typ) → slice_get env n ≡ Some s → slice_get (env ++ later) n ≡ Some s
place_longer [] later n s e = absurd (none-some s e)
place_longer (t ∷ env) later zero s e = e
place_longer (t ∷ env) later (suc n) s e = place_longer env later n s e

pub typed_longer : (env later : List Typ) (t : Tm) (s : Typ) → type_under env t ≡ Some s → type_under (env ++ later) t ≡ Some s
typed_longer env later (bound n) s e = place_longer env later n s e
typed_longer env later (free a u) s e = e
typed_longer env later (constant a u) s e = e
typed_longer env later (app f x) s e =
    let p = app_parts env f x s e in
    app_typed (env ++ later) f x p.0 s (typed_longer env later f (function_type p.0 s) p.1) (typed_longer env later x p.0 p.2)
typed_longer env later (abs u x) s e =
    let p = abs_parts env u x s e in
    rw (← p.2) (abs_typed (env ++ later) u x p.0 (typed_longer (u ∷ env) later x p.0 p.1))

-- the outermost of the types, and those before it
place_last : (env : List Typ) (u : Typ) → slice_get (env ++ u ∷ []) (length env) ≡ Some u
place_last [] u = refl
place_last (t ∷ env) u = place_last env u

place_before : (env : List Typ) (u : Typ) (n : ℕ) (s : Typ) → (n ≡ length env → ⊥) → slice_get (env ++ u ∷ []) n ≡ Some s → slice_get env n ≡ Some s
place_before [] u zero s differs e = absurd (differs refl)
place_before [] u (suc n) s differs e = e
place_before (t ∷ env) u zero s differs e = e
place_before (t ∷ env) u (suc n) s differs e = place_before env u n s (λ same. differs (ap suc same)) e

-- with a term of the outermost type in place of the outermost number
module _ (by : Tm) (u : Typ) (by_is : type_under [] by ≡ Some u) where
  number_opened : (env : List Typ) (at n : ℕ) (s : Typ) (b : Bool) → (n == at) ≡ b → at ≡ length env → slice_get (env ++ u ∷ []) n ≡ Some s → type_under env (cond b by (bound n)) ≡ Some s
  number_opened env at n s true is here e =
      let same : n ≡ length env = (Decides-eqb n at).0 is ∙ here in
      let type_is : u ≡ s = same_Some u s (sym (place_last env u) ∙ sym (ap (slice_get (env ++ u ∷ [])) same) ∙ e) in
      rw (← type_is) (typed_longer [] env by u by_is)
  number_opened env at n s false is here e = place_before env u n s (λ same. not_from_Decides (n == at) (Decides-eqb n at) is (same ∙ sym here)) e

  pub opened_typed : (env : List Typ) (at : ℕ) (t : Tm) (s : Typ) → at ≡ length env → type_under (env ++ u ∷ []) t ≡ Some s → type_under env (opened at by t) ≡ Some s
  opened_typed env at (bound n) s here e = number_opened env at n s (n == at) refl here e
  opened_typed env at (free a v) s here e = e
  opened_typed env at (constant a v) s here e = e
  opened_typed env at (app f x) s here e =
      let p = app_parts (env ++ u ∷ []) f x s e in
      app_typed env (opened at by f) (opened at by x) p.0 s (opened_typed env at f (function_type p.0 s) here p.1) (opened_typed env at x p.0 here p.2)
  opened_typed env at (abs v x) s here e =
      let p = abs_parts (env ++ u ∷ []) v x s e in
      let next : at + 1 ≡ length (v ∷ env) = omega arith in
      rw (← p.2) (abs_typed env v (opened (at + 1) by x) p.0 (opened_typed (v ∷ env) (at + 1) x p.0 next p.1))

-- with the outermost number in place of a variable of that type
module _ (name : List ℕ) (ty : Typ) where
  variable_closed : (env : List Typ) (at : ℕ) (a : List ℕ) (v s : Typ) (b : Bool) → (bytes_eq a name && type_eq v ty) ≡ b → at ≡ length env → Some v ≡ Some s →
      type_under (env ++ ty ∷ []) (cond b (bound at) (free a v)) ≡ Some s
  variable_closed env at a v s true is here e =
      let d = (Decides-and (bytes_eq a name) (type_eq v ty) (bytes_eq-Decides a name) (type_eq-decides v ty)).0 is in
      ap (slice_get (env ++ ty ∷ [])) here ∙ place_last env ty ∙ ap Some (sym d.1) ∙ e
  variable_closed env at a v s false is here e = e

  pub closed_typed : (env : List Typ) (at : ℕ) (t : Tm) (s : Typ) → at ≡ length env → type_under env t ≡ Some s → type_under (env ++ ty ∷ []) (closed at name ty t) ≡ Some s
  closed_typed env at (bound n) s here e = place_longer env (ty ∷ []) n s e
  closed_typed env at (free a v) s here e = variable_closed env at a v s (bytes_eq a name && type_eq v ty) refl here e
  closed_typed env at (constant a v) s here e = e
  closed_typed env at (app f x) s here e =
      let p = app_parts env f x s e in
      app_typed (env ++ ty ∷ []) (closed at name ty f) (closed at name ty x) p.0 s (closed_typed env at f (function_type p.0 s) here p.1) (closed_typed env at x p.0 here p.2)
  closed_typed env at (abs v x) s here e =
      let p = abs_parts env v x s e in
      let next : at + 1 ≡ length (v ∷ env) = omega arith in
      rw (← p.2) (abs_typed (env ++ ty ∷ []) v (closed (at + 1) name ty x) p.0 (closed_typed (v ∷ env) (at + 1) x p.0 next p.1))

-- with terms in place of variables of their types
module _ (pairs : List (List ℕ × Typ × Tm)) (fits : (a : List ℕ) (v : Typ) (u : Tm) → found a v pairs ≡ Some u → type_under [] u ≡ Some v) where
  variable_replaced : (env : List Typ) (a : List ℕ) (v s : Typ) (o : Option Tm) → found a v pairs ≡ o → Some v ≡ Some s → type_under env (or_else o (free a v)) ≡ Some s
  variable_replaced env a v s None is e = e
  variable_replaced env a v s (Some u) is e = typed_longer [] env u s (fits a v u is ∙ e)

  pub replaced_typed : (env : List Typ) (t : Tm) (s : Typ) → type_under env t ≡ Some s → type_under env (replaced pairs t) ≡ Some s
  replaced_typed env (bound n) s e = e
  replaced_typed env (free a v) s e = variable_replaced env a v s (found a v pairs) refl e
  replaced_typed env (constant a v) s e = e
  replaced_typed env (app f x) s e =
      let p = app_parts env f x s e in
      app_typed env (replaced pairs f) (replaced pairs x) p.0 s (replaced_typed env f (function_type p.0 s) p.1) (replaced_typed env x p.0 p.2)
  replaced_typed env (abs v x) s e =
      let p = abs_parts env v x s e in
      rw (← p.2) (abs_typed env v (replaced pairs x) p.0 (replaced_typed (v ∷ env) x p.0 p.1))

-- what is over a signature stays over it
either_over : (g : Signature) (b : Bool) (x y : Tm) → IsOver g x → IsOver g y → IsOver g (cond b x y)
either_over g true x y h k = h
either_over g false x y h k = k

pub opened_over : (g : Signature) (by : Tm) → IsOver g by → (at : ℕ) (t : Tm) → IsOver g t → IsOver g (opened at by t)
opened_over g by k at (bound n) h = either_over g (n == at) by (bound n) k tt
opened_over g by k at (free a v) h = h
opened_over g by k at (constant a v) h = h
opened_over g by k at (app f x) h = (opened_over g by k at f h.0, opened_over g by k at x h.1)
opened_over g by k at (abs v x) h = (h.0, opened_over g by k (at + 1) x h.1)

pub closed_over : (g : Signature) (name : List ℕ) (ty : Typ) (at : ℕ) (t : Tm) → IsOver g t → IsOver g (closed at name ty t)
closed_over g name ty at (bound n) h = tt
closed_over g name ty at (free a v) h = either_over g (bytes_eq a name && type_eq v ty) (bound at) (free a v) tt h
closed_over g name ty at (constant a v) h = h
closed_over g name ty at (app f x) h = (closed_over g name ty at f h.0, closed_over g name ty at x h.1)
closed_over g name ty at (abs v x) h = (h.0, closed_over g name ty (at + 1) x h.1)

module _ (g : Signature) (pairs : List (List ℕ × Typ × Tm)) (over : (a : List ℕ) (v : Typ) (u : Tm) → found a v pairs ≡ Some u → IsOver g u) where
  found_over : (a : List ℕ) (v : Typ) (o : Option Tm) → found a v pairs ≡ o → IsType g v → IsOver g (or_else o (free a v))
  found_over a v None is h = h
  found_over a v (Some u) is h = over a v u is

  pub replaced_over : (t : Tm) → IsOver g t → IsOver g (replaced pairs t)
  replaced_over (bound n) h = tt
  replaced_over (free a v) h = found_over a v (found a v pairs) refl h
  replaced_over (constant a v) h = h
  replaced_over (app f x) h = (replaced_over f h.0, replaced_over x h.1)
  replaced_over (abs v x) h = (h.0, replaced_over x h.1)

-- the type of a term over a signature is one of the signature
AllTypes : Signature → List Typ → Type 0
AllTypes g [] = Unit {0}
AllTypes g (s ∷ env) = IsType g s × AllTypes g env

type_at : (g : Signature) (env : List Typ) (n : ℕ) (s : Typ) → AllTypes g env → slice_get env n ≡ Some s → IsType g s
unfolding AllTypes
type_at g [] n s h e = absurd (none-some s e)
type_at g (t ∷ env) zero s h e = rw (← same_Some t s e) h.0
type_at g (t ∷ env) (suc n) s h e = type_at g env n s h.1 e

module _ (g : Signature) (fun_is : arity_of function g.types ≡ Some 2) where
  type_under_all : (env : List Typ) (t : Tm) (s : Typ) → AllTypes g env → IsOver g t → type_under env t ≡ Some s → IsType g s
  unfolding AllTypes
  type_under_all env (bound n) s a h e = type_at g env n s a e
  type_under_all env (free name u) s a h e = rw (← same_Some u s e) h
  type_under_all env (constant name u) s a h e = rw (← same_Some u s e) h.1
  type_under_all env (app f x) s a h e =
      let p = app_parts env f x s e in
      (type_under_all env f (function_type p.0 s) a h.0 p.1).1.1.0
  type_under_all env (abs u x) s a h e =
      let p = abs_parts env u x s e in
      rw (← p.2) (fun_is, (h.0, (type_under_all (u ∷ env) x p.0 (h.0, a) h.1 p.1, tt)))

  pub typed_over : (t : Tm) (s : Typ) → IsOver g t → type_under [] t ≡ Some s → IsType g s
  unfolding AllTypes
  typed_over t s h e = type_under_all [] t s tt h e
