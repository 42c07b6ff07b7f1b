-- Equations for a term come of those for its parts.
use Rattle.std.proofs.Common.{◌≡◌, ◌∙◌, ◌<◌, ◌≤◌, ◌+◌, ℕ, zero, suc, true, false, cond, List, [], ◌∷◌, ◌++◌, length, get_or, ◌⊎◌, inl, inr, subst, refl, sym, ap, arith}
use Rattle.std.specs.Prelude.{Option, Some, None}
use Rattle.std.specs.Option.{option_map}
use Rattle.std.specs.List.{slice_get}
use Rattle.std.specs.Str.{bytes_eq}
use Rattle.std.proofs.Math.Path.{fun_ext}
use Rattle.fp_constrain.proofs.Choices.{chosen}
use Rattle.std.proofs.lemmas.Option.{none-some, same_Some}
use Rattle.fp_term.specs.Names.{function}
use Rattle.fp_term.specs.Types.{Typ, Typs, variable, applied, none, more, found_type, retyped, all_retyped}
use Rattle.fp_constrain.specs.Declarations.{Declared, exactly, instances, IsDeclared, declarations, Declarations}
use Rattle.fp_term.specs.declared.signature.Signature.{Signature}
use Rattle.fp_raw.specs.Raws.{RawTyp, RawTm, raw_name, raw_bound, raw_free, raw_constant, raw_app, raw_abs, raw_typed, raw_size}
use Rattle.fp_constrain.specs.Subterms.{top, plain, plain_option}
use Rattle.fp_constrain.specs.Rules.{Scope, is_named, innermost, NameHas, ConstantHas, BoundHas, IsWritten, Has}
use Rattle.fp_unify.specs.Facts.{IsAbout, AreAbout}
use Rattle.fp_constrain.specs.Drafts.{Grows, Lays, Leaf, WithWritten, IsKnownType, IsKnownOption, IsKnownDeclared}
use Rattle.fp_constrain.specs.Draws.{IsKnownTerm, number_among, types_of, Binders, scope_types, BindersBelow, innermost_number, typing, Sees, Draws, Binds}
use Rattle.fp_unify.specs.declared.fact.Fact.{Fact}
use Rattle.fp_unify.specs.declared.fact.Fact.TheVariants.{IsCon, Same, Never}
use Rattle.std.proofs.lemmas.List.{get_or_append_left, get_or_push}
use Rattle.std.proofs.lemmas.Bool.{cases_lt}
use Rattle.fp_unify.proofs.Ordered.{put, put_same}
use Rattle.fp_constrain.proofs.Numbered.{leaf_push}
use Rattle.fp_constrain.proofs.Laid.{known_push, solves_agree, about_more, about_push, solves_push, solves_pushed, solves_put, grows_push, grows_trans, put_agrees}

-- what a constant is declared as
pub declared_exact : (s : Signature) (exact : List (List ℕ × Typ)) (a : List ℕ) (t : Typ) → Some t ≡ found_type a exact → Some (exactly t) ≡ declarations s exact a
declared_exact s exact a t e = rw (← e) refl

pub declared_generic : (s : Signature) (exact : List (List ℕ × Typ)) (a : List ℕ) (t : Typ) → None ≡ found_type a exact → Some t ≡ found_type a s.consts → Some (instances t) ≡ declarations s exact a
declared_generic s exact a t e f = rw (← e, ← f) refl

pub declared_not : (s : Signature) (exact : List (List ℕ × Typ)) (a : List ℕ) → None ≡ found_type a exact → None ≡ found_type a s.consts → None ≡ declarations s exact a
declared_not s exact a e f = rw (← e, ← f) refl

mutual
  pub retyped_none : (t : Typ) → retyped [] t ≡ t
  retyped_none (variable a) = refl
  retyped_none (applied a ts) = ap (applied a) (all_retyped_none ts)

  all_retyped_none : (ts : Typs) → all_retyped [] ts ≡ ts
  all_retyped_none none = refl
  all_retyped_none (more t ts) = rw (retyped_none t, all_retyped_none ts) refl

pub among_within : (names : List (List ℕ)) (a : List ℕ) → number_among names a ≤ length names
among_within [] a = omega arith
among_within (b ∷ names) a = elim (bytes_eq b a) as (λ r. cond r 0 (number_among names a + 1) ≤ suc (length names)) [ true ↦ omega arith | false ↦ omega (arith, among_within names a) ]

-- types that are alike below n are alike for variables
module _ (n : ℕ) (v w : ℕ → Typ) (agree : (i : ℕ) → i < n → w i ≡ v i) where
  pub types_of_agree : (names : List (List ℕ)) → length names < n → types_of w names ≡ types_of v names
  types_of_agree names h = fun_ext (λ a. agree (number_among names a) (omega (arith, among_within names a)))

  scope_agrees : (binders : Binders) → BindersBelow n binders → scope_types w binders ≡ scope_types v binders
  scope_agrees [] h = refl
  scope_agrees (b ∷ binders) h = rw (agree b.1 h.0, scope_agrees binders h.1) refl

  has_agrees : (g : Declarations) (names : List (List ℕ)) (limit : ℕ) (binders : Binders) (i : ℕ) (raw : RawTm) (types : ℕ → Typ) → length names < n → BindersBelow n binders →
      Has g (types_of v names) types limit (scope_types v binders) i raw → Has g (types_of w names) types limit (scope_types w binders) i raw
  has_agrees g names limit binders i raw types h k has = rw (types_of_agree names h, scope_agrees binders k) has

pub binders_more : (n m : ℕ) (binders : Binders) → n ≤ m → BindersBelow n binders → BindersBelow m binders
binders_more n m [] h k = tt
binders_more n m (b ∷ binders) h k = (omega arith, binders_more n m binders h k.1)

-- the type of the innermost binder
innermost_in : (v : ℕ → Typ) (a : List ℕ) (binders : Binders) → innermost a (scope_types v binders) ≡ option_map v (innermost_number a binders)
innermost_in v a [] = refl
innermost_in v a (b ∷ binders) =
    elim (is_named b.0 a) as (λ r. cond r (Some (v b.1)) (innermost a (scope_types v binders)) ≡ option_map v (cond r (Some b.1) (innermost_number a binders))) [ true ↦ refl | false ↦ innermost_in v a binders ]

leaf_map : (P Q : (ℕ → Typ) → Typ → Type 0) (K L : Signature → List (List ℕ) → Type 0) (step n : ℕ) (old : List (ℕ × Fact)) (m : ℕ) (new : List (ℕ × Fact)) (at : ℕ) → ((v : ℕ → Typ) (t : Typ) → P v t → Q v t) → ((v : ℕ → Typ) (t : Typ) → Q v t → P v t) →
    ((s : Signature) (written : List (List ℕ)) → L s written → K s written) → Leaf P K step n old m new at → Leaf Q L step n old m new at
leaf_map P Q K L step n old m new at to from known l =
    record {
      grows = l.grows;
      inside = l.inside;
      sound = λ limit v some s below. to v (v at) (l.sound limit v some s below);
      complete = λ limit v t s h. l.complete limit v t s (λ below. from v t (h below));
      only = λ s written k facts. l.only s written (known s written k) facts;
    }

-- the numbers of the types of a term's subterms
get_before : (xs : List ℕ) (y k : ℕ) → k < length xs → get_or (xs ++ y ∷ []) k 0 ≡ get_or xs k 0
get_before xs y k h = get_or_append_left xs (y ∷ []) 0 k h

length_push : (xs : List ℕ) (y : ℕ) → length (xs ++ y ∷ []) ≡ length xs + 1
length_push [] y = refl
length_push (x ∷ xs) y = let e = length_push xs y in omega (arith, e)

pub top_last : (n : ℕ) (raw : RawTm) → top n raw + 1 ≡ n + raw_size raw
top_last n (raw_name a at) = refl
top_last n (raw_bound k at) = refl
top_last n (raw_free a t at) = refl
top_last n (raw_constant a t at) = refl
top_last n (raw_app f x at) = omega arith
top_last n (raw_abs a t x at) = omega arith
top_last n (raw_typed x t at) = omega arith

nodes_positive : (raw : RawTm) → 0 < raw_size raw
nodes_positive (raw_name a at) = omega arith
nodes_positive (raw_bound k at) = omega arith
nodes_positive (raw_free a t at) = omega arith
nodes_positive (raw_constant a t at) = omega arith
nodes_positive (raw_app f x at) = omega arith
nodes_positive (raw_abs a t x at) = omega arith
nodes_positive (raw_typed x t at) = omega arith

-- what the rules say of a term they say by the types of its own subterms
module _ (g : Declarations) (vars : List ℕ → Typ) (types others : ℕ → Typ) (limit : ℕ) where
  has_local : (scope : Scope) (n : ℕ) (raw : RawTm) → ((k : ℕ) → n ≤ k → k < n + raw_size raw → others k ≡ types k) → Has g vars types limit scope n raw → Has g vars others limit scope n raw
  has_local scope n (raw_name a at) alike h = rw (alike n (omega arith) (omega arith)) h
  has_local scope n (raw_bound k at) alike h = rw (alike n (omega arith) (omega arith)) h
  has_local scope n (raw_free a t at) alike h = rw (alike n (omega arith) (omega arith)) h
  has_local scope n (raw_constant a t at) alike h = rw (alike n (omega arith) (omega arith)) h
  has_local scope n (raw_app f x at) alike h =
      let f_is = alike (top n f) (omega (arith, top_last n f, nodes_positive f)) (omega (arith, top_last n f)) in
      let x_is = alike (top (n + raw_size f) x) (omega (arith, top_last (n + raw_size f) x, nodes_positive x)) (omega (arith, top_last (n + raw_size f) x)) in
      let is = alike (n + raw_size f + raw_size x) (omega arith) (omega arith) in
      (has_local scope n f (λ k low high. alike k low (omega arith)) h.0, has_local scope (n + raw_size f) x (λ k low high. alike k (omega arith) (omega arith)) h.1, λ counts. rw (f_is, x_is, is) (h.2 counts))
  has_local scope n (raw_abs a w x at) alike h =
      let x_is = alike (top n x) (omega (arith, top_last n x, nodes_positive x)) (omega (arith, top_last n x)) in
      let is = alike (n + raw_size x) (omega arith) (omega arith) in
      (h.0, h.1, has_local ((a, h.0) ∷ scope) n x (λ k low high. alike k low (omega arith)) h.2, λ counts. rw (x_is, is) (h.3 counts))
  has_local scope n (raw_typed x w at) alike h =
      let x_is = alike (top n x) (omega (arith, top_last n x, nodes_positive x)) (omega (arith, top_last n x)) in
      let is = alike (n + raw_size x) (omega arith) (omega arith) in
      (has_local scope n x (λ k low high. alike k low (omega arith)) h.0, λ counts. rw (x_is, is) (h.1 counts))

-- a term without parts
module _ (g : Declarations) (names : List (List ℕ)) (binders : Binders) (step n : ℕ) (old : List (ℕ × Fact)) (m : ℕ) (new : List (ℕ × Fact)) (at : ℕ) where
  draws_leaf : (P : (ℕ → Typ) → Typ → Type 0) (K : Signature → List (List ℕ) → Type 0) (raw : RawTm) (before : List ℕ) → raw_size raw ≡ 1 → top step raw ≡ step →
      ((v types : ℕ → Typ) (limit : ℕ) → (step < limit → P v (types step)) → Has g (types_of v names) types limit (scope_types v binders) step raw) →
      ((v types : ℕ → Typ) (limit : ℕ) → Has g (types_of v names) types limit (scope_types v binders) step raw → step < limit → P v (types step)) →
      ((s : Signature) (written : List (List ℕ)) → IsKnownTerm s written g raw → K s written) → length before ≡ step → Leaf P K step n old m new at → Draws g names binders raw step n old m new before (before ++ at ∷ []) at
  draws_leaf P K raw before one itself to from known counted l =
      let last : get_or (before ++ at ∷ []) step 0 ≡ at = get_or_push before at 0 step counted in
      record {
        grows = l.grows;
        inside = l.inside;
        sees =
            record {
              counted = length_push before at ∙ omega (arith, counted, one);
              kept = λ k less. get_before before at k (omega (arith, counted));
              below = λ k low high. let is : k ≡ step = omega (arith, one) in rw (is, last) l.inside;
              root = rw (itself, last) refl;
            };
        sound = λ limit v some s. to v (typing v (before ++ at ∷ [])) limit (λ counts. rw last (l.sound limit v some s counts));
        complete = λ limit v types s h.
            let e = l.complete limit v (types step) s (from v types limit h) in
            record { types = e.types; agree = e.agree; solves = e.solves; here = λ k low high. let is : k ≡ step = omega (arith, one) in rw (is, last) e.here };
        only = λ s written functions k facts. l.only s written (known s written k) facts;
      }

-- a leaf for a name, by what the name is
module _ (g : Declarations) (names : List (List ℕ)) (binders : Binders) (a : List ℕ) (step n : ℕ) (old : List (ℕ × Fact)) (m : ℕ) (new : List (ℕ × Fact)) (at : ℕ) where
  abbrev OfName : (ℕ → Typ) → Typ → Type 0
  OfName v t = NameHas (innermost a (scope_types v binders)) (g a) (types_of v names a) t

  abbrev KnownName : Signature → List (List ℕ) → Type 0
  KnownName s written = IsKnownDeclared s written (g a)

  pub name_bound : (k : ℕ) → Some k ≡ innermost_number a binders → Leaf (λ v t. t ≡ v k) (λ s written. Unit {0}) step n old m new at → Leaf OfName KnownName step n old m new at
  name_bound k e l =
      let is : (v : ℕ → Typ) → innermost a (scope_types v binders) ≡ Some (v k) = λ v. innermost_in v a binders ∙ ap (option_map v) (sym e) in
      leaf_map _ OfName _ KnownName step n old m new at (λ v t h. rw (is v) h) (λ v t h. rw (is v) at h) (λ s written k. tt) l

  pub name_constant : (d : Declared) → None ≡ innermost_number a binders → Some d ≡ g a → Leaf (λ v t. IsDeclared d t) (λ s written. IsKnownDeclared s written (Some d)) step n old m new at → Leaf OfName KnownName step n old m new at
  name_constant d e f l =
      let is : (v : ℕ → Typ) → innermost a (scope_types v binders) ≡ None = λ v. innermost_in v a binders ∙ ap (option_map v) (sym e) in
      leaf_map _ OfName _ KnownName step n old m new at (λ v t h. rw (is v, ← f) h) (λ v t h. rw (is v, ← f) at h) (λ s written k. subst (IsKnownDeclared s written) (sym f) k) l

  pub name_free : None ≡ innermost_number a binders → None ≡ g a → Leaf (λ v t. t ≡ v (number_among names a)) (λ s written. Unit {0}) step n old m new at → Leaf OfName KnownName step n old m new at
  name_free e f l =
      let is : (v : ℕ → Typ) → innermost a (scope_types v binders) ≡ None = λ v. innermost_in v a binders ∙ ap (option_map v) (sym e) in
      leaf_map _ OfName _ KnownName step n old m new at (λ v t h. rw (is v, ← f) h) (λ v t h. rw (is v, ← f) at h) (λ s written k. tt) l

  pub draws_name : (p : ℕ) (before : List ℕ) → length before ≡ step → Leaf OfName KnownName step n old m new at → Draws g names binders (raw_name a p) step n old m new before (before ++ at ∷ []) at
  draws_name p before counted l = draws_leaf g names binders step n old m new at OfName KnownName (raw_name a p) before refl refl (λ v types limit h. h) (λ v types limit h. h) (λ s written k. k) counted l

-- the numbers for an application come of those for its parts
module _ (f x : RawTm) (p step m k : ℕ) (before mid after : List ℕ) (of_f of_x : ℕ) (sf : Sees f step m before mid of_f) (sx : Sees x (step + raw_size f) k mid after of_x) (order : m ≤ k) where
  whole : List ℕ
  whole = after ++ k ∷ []

  in_fun : (i : ℕ) → i < step + raw_size f → get_or whole i 0 ≡ get_or mid i 0
  unfolding whole
  in_fun i h = get_before after k i (omega (arith, sx.counted)) ∙ sx.kept i h

  in_arg : (i : ℕ) → i < step + raw_size f + raw_size x → get_or whole i 0 ≡ get_or after i 0
  unfolding whole
  in_arg i h = get_before after k i (omega (arith, sx.counted))

  itself : get_or whole (step + raw_size f + raw_size x) 0 ≡ k
  unfolding whole
  itself = get_or_push after k 0 (step + raw_size f + raw_size x) sx.counted

  -- by the part in which a subterm is
  by_part : (i : ℕ) (P : ℕ → Type 0) → step ≤ i → i < step + raw_size (raw_app f x p) → (i < step + raw_size f → P (get_or mid i 0)) → (step + raw_size f ≤ i → i < step + raw_size f + raw_size x → P (get_or after i 0)) → (i ≡ step + raw_size f + raw_size x → P k) →
      (i < step + raw_size f) ⊎ (step + raw_size f ≤ i) → (i < step + raw_size f + raw_size x) ⊎ (step + raw_size f + raw_size x ≤ i) → P (get_or whole i 0)
  by_part i P low high in_f in_x here (inl l) c = rw (in_fun i l) (in_f l)
  by_part i P low high in_f in_x here (inr r) (inl l) = rw (in_arg i l) (in_x r l)
  by_part i P low high in_f in_x here (inr r) (inr q) = let is : i ≡ step + raw_size f + raw_size x = omega arith in rw (ap (λ j. get_or whole j 0) is ∙ itself) (here is)

  parts : (i : ℕ) (P : ℕ → Type 0) → step ≤ i → i < step + raw_size (raw_app f x p) → (i < step + raw_size f → P (get_or mid i 0)) → (step + raw_size f ≤ i → i < step + raw_size f + raw_size x → P (get_or after i 0)) → (i ≡ step + raw_size f + raw_size x → P k) → P (get_or whole i 0)
  parts i P low high in_f in_x here = by_part i P low high in_f in_x here (cases_lt i (step + raw_size f)) (cases_lt i (step + raw_size f + raw_size x))

  sees_app : Sees (raw_app f x p) step (k + 1) before whole k
  unfolding whole
  sees_app =
      record {
        counted = length_push after k ∙ omega (arith, sx.counted);
        kept = λ i h. in_fun i (omega arith) ∙ sf.kept i h;
        below = λ i low high. parts i (λ at. at < k + 1) low high (λ l. omega (arith, sf.below i low l)) (λ r l. omega (arith, sx.below i r l)) (λ is. omega arith);
        root = itself;
      }

-- the numbers for a term over one part
module _ (x : RawTm) (step k : ℕ) (before after : List ℕ) (of_x : ℕ) (sx : Sees x step k before after of_x) where
  over : List ℕ
  over = after ++ k ∷ []

  in_part : (i : ℕ) → i < step + raw_size x → get_or over i 0 ≡ get_or after i 0
  unfolding over
  in_part i h = get_before after k i (omega (arith, sx.counted))

  on_top : get_or over (step + raw_size x) 0 ≡ k
  unfolding over
  on_top = get_or_push after k 0 (step + raw_size x) sx.counted

  by_place : (i : ℕ) (P : ℕ → Type 0) → i < step + raw_size x + 1 → (i < step + raw_size x → P (get_or after i 0)) → (i ≡ step + raw_size x → P k) → (i < step + raw_size x) ⊎ (step + raw_size x ≤ i) → P (get_or over i 0)
  by_place i P high inner here (inl l) = rw (in_part i l) (inner l)
  by_place i P high inner here (inr r) = let is : i ≡ step + raw_size x = omega arith in rw (ap (λ j. get_or over j 0) is ∙ on_top) (here is)

  places : (i : ℕ) (P : ℕ → Type 0) → i < step + raw_size x + 1 → (i < step + raw_size x → P (get_or after i 0)) → (i ≡ step + raw_size x → P k) → P (get_or over i 0)
  places i P high inner here = by_place i P high inner here (cases_lt i (step + raw_size x))

  sees_over : (t : RawTm) → raw_size t ≡ raw_size x + 1 → top step t ≡ step + raw_size x → Sees t step (k + 1) before over k
  unfolding over
  sees_over t one_more at_top =
      record {
        counted = length_push after k ∙ omega (arith, sx.counted, one_more);
        kept = λ i h. in_part i (omega arith) ∙ sx.kept i h;
        below = λ i low high. places i (λ at. at < k + 1) (omega (arith, one_more)) (λ l. omega (arith, sx.below i low l)) (λ is. omega arith);
        root = ap (λ j. get_or over j 0) at_top ∙ on_top;
      }

sees_more : (x : RawTm) (step m k : ℕ) (before after : List ℕ) (of_x : ℕ) → m ≤ k → Sees x step m before after of_x → Sees x step k before after of_x
sees_more x step m k before after of_x h s = record { counted = s.counted; kept = s.kept; below = λ i low high. omega (arith, s.below i low high); root = s.root }

-- an application, from its parts
module _ (g : Declarations) (names : List (List ℕ)) (binders : Binders) (n : ℕ) (below : BindersBelow n binders) (named : length names < n) where
  pub draws_app : (f x : RawTm) (p step : ℕ) (old : List (ℕ × Fact)) (m : ℕ) (mid : List (ℕ × Fact)) (of_f k : ℕ) (last : List (ℕ × Fact)) (of_x : ℕ) (before between after : List ℕ) → Draws g names binders f step n old m mid before between of_f →
      Draws g names binders x (step + raw_size f) m mid k last between after of_x → Draws g names binders (raw_app f x p) step n old (k + 1) (last ++ (step + raw_size f + raw_size x, IsCon of_f function (of_x ∷ k ∷ [])) ∷ []) before (after ++ k ∷ []) k
  unfolding whole
  draws_app f x p step old m mid of_f k last of_x before between after df dx =
      let tag = step + raw_size f + raw_size x in
      let fact = IsCon of_f function (of_x ∷ k ∷ []) in
      let about : IsAbout (k + 1) fact = (omega (arith, df.inside, dx.grows.later), (omega (arith, dx.inside), (omega arith, tt))) in
      let fun_in = in_fun f x p step m k before between after of_f of_x df.sees dx.sees dx.grows.later in
      let arg_in = in_arg f x p step m k before between after of_f of_x df.sees dx.sees dx.grows.later in
      let self_in = itself f x p step m k before between after of_f of_x df.sees dx.sees dx.grows.later in
      let f_top : top step f < step + raw_size f = omega (arith, top_last step f) in
      let x_top : top (step + raw_size f) x < tag = omega (arith, top_last (step + raw_size f) x) in
      record {
        grows = grows_trans n m (k + 1) old mid _ df.grows (grows_trans m k (k + 1) mid last _ dx.grows (grows_push k tag fact last dx.grows.about about));
        inside = omega arith;
        sees = sees_app f x p step m k before between after of_f of_x df.sees dx.sees dx.grows.later;
        sound = λ limit v some s.
            let q = solves_pushed limit v tag fact last s in
            let types = typing v (after ++ k ∷ []) in (
              has_local g (types_of v names) (typing v between) types limit (scope_types v binders) step f (λ i low high. ap v (fun_in i high)) (df.sound limit v some (dx.grows.keeps limit v q.0)),
              has_local g (types_of v names) (typing v after) types limit (scope_types v binders) (step + raw_size f) x (λ i low high. ap v (arg_in i high)) (dx.sound limit v some q.0),
              λ counts. ap v (fun_in (top step f) f_top ∙ df.sees.root) ∙ q.1 counts ∙ sym (rw (arg_in (top (step + raw_size f) x) x_top, dx.sees.root, self_in) refl),
            );
        complete = λ limit v types s h.
            let e = df.complete limit v types s h.0 in
            let d = dx.complete limit e.types types e.solves (has_agrees n v e.types e.agree g names limit binders (step + raw_size f) x types named below h.1) in
            let t = types tag in
            let w = put d.types k t in
            let of_fun : (i : ℕ) → i < m → w i ≡ e.types i = λ i less. put_agrees d.types k t i (omega (arith, dx.grows.later)) ∙ d.agree i less in
            let f_is : w of_f ≡ types (top step f) = of_fun of_f df.inside ∙ ap e.types (sym df.sees.root) ∙ e.here (top step f) (omega (arith, top_last step f, nodes_positive f)) f_top in
            let x_is : w of_x ≡ types (top (step + raw_size f) x) = put_agrees d.types k t of_x dx.inside ∙ ap d.types (sym dx.sees.root) ∙ d.here (top (step + raw_size f) x) (omega (arith, top_last (step + raw_size f) x, nodes_positive x)) x_top in
            record {
              types = w;
              agree = λ i less. of_fun i (omega (arith, df.grows.later)) ∙ e.agree i less;
              solves = solves_put limit d.types k t tag fact last dx.grows.about d.solves (λ counts. f_is ∙ h.2 counts ∙ sym (rw (x_is, put_same d.types k t) refl));
              here = λ i low high.
                  parts f x p step m k before between after of_f of_x df.sees dx.sees dx.grows.later i (λ at. w at ≡ types i) low high (λ l. of_fun (get_or between i 0) (df.sees.below i low l) ∙ e.here i low l)
                  (λ r l. put_agrees d.types k t (get_or after i 0) (dx.sees.below i r l) ∙ d.here i r l) (λ is. put_same d.types k t ∙ ap types (sym is));
            };
        only = λ s written functions known facts. known_push s written tag fact last (dx.only s written functions known.1 (df.only s written functions known.0 facts)) functions;
      }

  pub draws_abs : (a : Option (List ℕ)) (written : Option RawTyp) (x : RawTm) (p step : ℕ) (old : List (ℕ × Fact)) (m : ℕ) (mid : List (ℕ × Fact)) (of_a k : ℕ) (last : List (ℕ × Fact)) (of_x : ℕ) (before after : List ℕ) → Binds (plain_option written) n old m mid of_a →
      Draws g names ((a, of_a) ∷ binders) x step m mid k last before after of_x → Draws g names binders (raw_abs a written x p) step n old (k + 1) (last ++ (step + raw_size x, IsCon k function (of_a ∷ of_x ∷ [])) ∷ []) before (after ++ k ∷ []) k
  unfolding over
  draws_abs a written x p step old m mid of_a k last of_x before after da dx =
      let tag = step + raw_size x in
      let fact = IsCon k function (of_a ∷ of_x ∷ []) in
      let about : IsAbout (k + 1) fact = (omega arith, (omega (arith, da.inside, dx.grows.later), (omega (arith, dx.inside), tt))) in
      let part_in = in_part x step k before after of_x dx.sees in
      let self_in = on_top x step k before after of_x dx.sees in
      let x_top : top step x < tag = omega (arith, top_last step x) in
      record {
        grows = grows_trans n m (k + 1) old mid _ da.grows (grows_trans m k (k + 1) mid last _ dx.grows (grows_push k tag fact last dx.grows.about about));
        inside = omega arith;
        sees = sees_over x step k before after of_x dx.sees (raw_abs a written x p) refl refl;
        sound = λ limit v some s.
            let q = solves_pushed limit v tag fact last s in
            let types = typing v (after ++ k ∷ []) in (
              v of_a,
              da.sound limit v some (dx.grows.keeps limit v q.0),
              has_local g (types_of v names) (typing v after) types limit ((a, v of_a) ∷ scope_types v binders) step x (λ i low high. ap v (part_in i high)) (dx.sound limit v some q.0),
              λ counts. ap v self_in ∙ q.1 counts ∙ sym (rw (part_in (top step x) x_top, dx.sees.root) refl),
            );
        complete = λ limit v types s h.
            let e = da.complete limit v h.0 s h.1 in
            let inner : Has g (types_of e.types names) types limit ((a, e.types of_a) ∷ scope_types e.types binders) step x =
            rw (types_of_agree n v e.types e.agree names named, scope_agrees n v e.types e.agree binders below, e.here) h.2 in
            let d = dx.complete limit e.types types e.solves inner in
            let t = types tag in
            let w = put d.types k t in
            let a_is : w of_a ≡ h.0 = put_agrees d.types k t of_a (omega (arith, da.inside, dx.grows.later)) ∙ d.agree of_a da.inside ∙ e.here in
            let x_is : w of_x ≡ types (top step x) = put_agrees d.types k t of_x dx.inside ∙ ap d.types (sym dx.sees.root) ∙ d.here (top step x) (omega (arith, top_last step x, nodes_positive x)) x_top in
            record {
              types = w;
              agree = λ i less. put_agrees d.types k t i (omega (arith, da.grows.later, dx.grows.later)) ∙ d.agree i (omega (arith, da.grows.later)) ∙ e.agree i less;
              solves = solves_put limit d.types k t tag fact last dx.grows.about d.solves (λ counts. put_same d.types k t ∙ h.3 counts ∙ sym (rw (a_is, x_is) refl));
              here = λ i low high.
                  places x step k before after of_x dx.sees i (λ at. w at ≡ types i) (omega arith) (λ l. put_agrees d.types k t (get_or after i 0) (dx.sees.below i low l) ∙ d.here i low l) (λ is. put_same d.types k t ∙ ap types (sym is));
            };
        only = λ s written_names functions known facts. known_push s written_names tag fact last (dx.only s written_names functions known.1 (da.only s written_names known.0 facts)) functions;
      }

-- the type of a bound variable
pub binds_any : (n : ℕ) (old : List (ℕ × Fact)) → AreAbout n old → Binds None n old (n + 1) old n
binds_any n old about =
    record {
      grows = record { later = omega arith; keeps = λ limit v s. s; about = about_more n (n + 1) old (omega arith) about };
      inside = omega arith;
      sound = λ limit v some s. tt;
      complete = λ limit v t s h. record { types = put v n t; agree = put_agrees v n t; solves = solves_agree n v (put v n t) (put_agrees v n t) limit old about s; here = put_same v n t };
      only = λ s written known facts. facts;
    }

pub binds_written : (ty : Typ) (n : ℕ) (old : List (ℕ × Fact)) (m : ℕ) (new : List (ℕ × Fact)) (at : ℕ) → Lays 0 [] ty n old m new at → Binds (Some ty) n old m new at
binds_written ty n old m new at l =
    record {
      grows = l.grows;
      inside = l.inside;
      sound = λ limit v some s. l.sound limit v some s ∙ retyped_none ty;
      complete = λ limit v t s h. let e = l.complete limit v s in record { types = e.types; agree = e.agree; solves = e.solves; here = e.here ∙ retyped_none ty ∙ sym h };
      only = l.only;
    }

-- one more equation about known types
pub grows_add : (n step : ℕ) (fact : Fact) (facts : List (ℕ × Fact)) → AreAbout n facts → IsAbout n fact → Grows n facts n (facts ++ (step, fact) ∷ [])
grows_add n step fact facts h k = record { later = omega arith; keeps = λ limit v s. (solves_pushed limit v step fact facts s).0; about = about_push n step fact facts h k }

-- a leaf with a written type
pub leaf_written : (P : (ℕ → Typ) → Typ → Type 0) (K : Signature → List (List ℕ) → Type 0) (ty : Typ) (step n : ℕ) (old : List (ℕ × Fact)) (m : ℕ) (mid : List (ℕ × Fact)) (at k : ℕ) (last : List (ℕ × Fact)) (node : ℕ) → Leaf P K step n old m mid at → Lays 0 [] ty m mid k last node →
    Leaf (λ v t. P v t × (t ≡ ty)) (λ s written. K s written × IsKnownType s written [] ty) step n old k (last ++ (step, Same at node) ∷ []) at
leaf_written P K ty step n old m mid at k last node leaf l =
    let fact = Same at node in
    let inside : at < k = omega (arith, leaf.inside, l.grows.later) in
    record {
      grows = grows_trans n m k old mid _ leaf.grows (grows_trans m k k mid last _ l.grows (grows_add k step fact last l.grows.about (inside, l.inside)));
      inside = inside;
      sound = λ limit v some s below.
          let q = solves_pushed limit v step fact last s in
          (leaf.sound limit v some (l.grows.keeps limit v q.0) below, q.1 below ∙ l.sound limit v some q.0 ∙ retyped_none ty);
      complete = λ limit v t s h.
          let e = leaf.complete limit v t s (λ below. (h below).0) in
          let d = l.complete limit e.types e.solves in
          let is : d.types at ≡ t = d.agree at leaf.inside ∙ e.here in
          record {
            types = d.types;
            agree = λ i less. d.agree i (omega (arith, leaf.grows.later)) ∙ e.agree i less;
            solves = solves_push limit d.types step fact last d.solves (λ below. is ∙ (h below).1 ∙ sym (d.here ∙ retyped_none ty));
            here = is;
          };
      only = λ s written known facts. known_push s written step fact last (l.only s written known.1 (leaf.only s written known.0 facts)) tt;
    }

pub leaf_unwritten : (P : (ℕ → Typ) → Typ → Type 0) (K : Signature → List (List ℕ) → Type 0) (step n : ℕ) (old : List (ℕ × Fact)) (m : ℕ) (new : List (ℕ × Fact)) (at : ℕ) → Leaf P K step n old m new at → Leaf (λ v t. P v t × IsWritten None t) (λ s written. K s written × IsKnownOption s written None) step n old m new at
leaf_unwritten P K step n old m new at l = leaf_map P _ K _ step n old m new at (λ v t h. (h, tt)) (λ v t h. h.0) (λ s written k. k.0) l

pub leaf_never : (step n : ℕ) (old : List (ℕ × Fact)) → AreAbout n old → Leaf (λ v t. ⊥) (λ s written. Unit {0}) step n old (n + 1) (old ++ (step, Never) ∷ []) n
leaf_never step n old about =
    record {
      grows = grows_push n step Never old about tt;
      inside = omega arith;
      sound = λ limit v some s below. (solves_pushed limit v step Never old s).1 below;
      complete = λ limit v t s h. record { types = put v n t; agree = put_agrees v n t; solves = solves_put limit v n t step Never old about s h; here = put_same v n t };
      only = λ s written known facts. known_push s written step Never old facts tt;
    }

-- the type of a bound number
bound_in : (v : ℕ → Typ) (binders : Binders) (k : ℕ) → slice_get (scope_types v binders) k ≡ option_map (λ b. (b.0, v b.1)) (slice_get binders k)
bound_in v [] k = refl
bound_in v (b ∷ binders) zero = refl
bound_in v (b ∷ binders) (suc k) = bound_in v binders k

module _ (g : Declarations) (names : List (List ℕ)) (binders : Binders) (step n : ℕ) (old : List (ℕ × Fact)) (m : ℕ) (new : List (ℕ × Fact)) (at : ℕ) where
  bound_has : (v : ℕ → Typ) (k i : ℕ) (o : Option (Option (List ℕ) × ℕ)) (t : Typ) → Some i ≡ option_map (λ b. b.1) o → BoundHas (option_map (λ b. (b.0, v b.1)) o) t ≡ (t ≡ v i)
  bound_has v k i None t e = absurd (none-some i (sym e))
  bound_has v k i (Some b) t e = ap (λ j. t ≡ v j) (sym (same_Some i b.1 e))

  bound_lacks : (v : ℕ → Typ) (o : Option (Option (List ℕ) × ℕ)) (t : Typ) → None ≡ option_map (λ b. b.1) o → BoundHas (option_map (λ b. (b.0, v b.1)) o) t → ⊥
  bound_lacks v None t e h = h
  bound_lacks v (Some b) t e h = none-some b.1 e

  pub draws_bound : (k p i : ℕ) (before : List ℕ) → length before ≡ step → Some i ≡ option_map (λ b. b.1) (slice_get binders k) → Leaf (λ v t. t ≡ v i) (λ s written. Unit {0}) step n old m new at → Draws g names binders (raw_bound k p) step n old m new before (before ++ at ∷ []) at
  draws_bound k p i before counted e l =
      draws_leaf g names binders step n old m new at (λ v t. t ≡ v i) (λ s written. Unit {0}) (raw_bound k p) before refl refl (λ v types limit h below. rw (bound_in v binders k, bound_has v k i (slice_get binders k) (types step) e) (h below))
      (λ v types limit h below. rw (bound_in v binders k, bound_has v k i (slice_get binders k) (types step) e) at (h below)) (λ s written k. tt) counted l

  pub draws_unbound : (k p : ℕ) (before : List ℕ) → length before ≡ step → None ≡ option_map (λ b. b.1) (slice_get binders k) → Leaf (λ v t. ⊥) (λ s written. Unit {0}) step n old m new at → Draws g names binders (raw_bound k p) step n old m new before (before ++ at ∷ []) at
  draws_unbound k p before counted e l =
      draws_leaf g names binders step n old m new at (λ v t. ⊥) (λ s written. Unit {0}) (raw_bound k p) before refl refl (λ v types limit h below. absurd (h below)) (λ v types limit h below. bound_lacks v (slice_get binders k) (types step) e (rw (bound_in v binders k) at (h below)))
      (λ s written k. tt) counted l

  pub draws_free : (a : List ℕ) (ty : RawTyp) (p : ℕ) (before : List ℕ) → length before ≡ step → Leaf (λ v t. (t ≡ v (number_among names a)) × (t ≡ plain ty)) (λ s written. Unit {0} × IsKnownType s written [] (plain ty)) step n old m new at → Draws g names binders (raw_free a ty p) step n old m new before (before ++ at ∷ []) at
  draws_free a ty p before counted l = draws_leaf g names binders step n old m new at (λ v t. (t ≡ v (number_among names a)) × (t ≡ plain ty)) (λ s written. Unit {0} × IsKnownType s written [] (plain ty)) (raw_free a ty p) before refl refl (λ v types limit h. h) (λ v types limit h. h) (λ s written k. (tt, k)) counted l

  pub draws_constant : (a : List ℕ) (ty : Option RawTyp) (p : ℕ) (before : List ℕ) → length before ≡ step → Leaf (λ v t. ConstantHas (g a) t × IsWritten (plain_option ty) t) (λ s written. IsKnownDeclared s written (g a) × IsKnownOption s written (plain_option ty)) step n old m new at →
      Draws g names binders (raw_constant a ty p) step n old m new before (before ++ at ∷ []) at
  draws_constant a ty p before counted l =
      draws_leaf g names binders step n old m new at (λ v t. ConstantHas (g a) t × IsWritten (plain_option ty) t) (λ s written. IsKnownDeclared s written (g a) × IsKnownOption s written (plain_option ty)) (raw_constant a ty p) before refl refl (λ v types limit h. h) (λ v types limit h. h) (λ s written k. k) counted l

  pub constant_known : (d : Declared) (a : List ℕ) → Some d ≡ g a → Leaf (λ v t. IsDeclared d t) (λ s written. IsKnownDeclared s written (Some d)) step n old m new at → Leaf (λ v t. ConstantHas (g a) t) (λ s written. IsKnownDeclared s written (g a)) step n old m new at
  constant_known d a e l = leaf_map _ _ _ _ step n old m new at (λ v t h. rw (← e) h) (λ v t h. rw (← e) at h) (λ s written k. subst (IsKnownDeclared s written) (sym e) k) l

  pub constant_unknown : (a : List ℕ) → None ≡ g a → Leaf (λ v t. ⊥) (λ s written. Unit {0}) step n old m new at → Leaf (λ v t. ConstantHas (g a) t) (λ s written. IsKnownDeclared s written (g a)) step n old m new at
  constant_unknown a e l = leaf_map _ _ _ _ step n old m new at (λ v t h. absurd h) (λ v t h. rw (← e) at h) (λ s written k. tt) l

-- a term with a written type
pub draws_typed : (g : Declarations) (names : List (List ℕ)) (binders : Binders) (x : RawTm) (ty : RawTyp) (p step n : ℕ) (old : List (ℕ × Fact)) (m : ℕ) (mid : List (ℕ × Fact)) (of_x k : ℕ) (last : List (ℕ × Fact)) (node : ℕ) (before after : List ℕ) →
    Draws g names binders x step n old m mid before after of_x → Lays 0 [] (plain ty) m mid k last node →
    Draws g names binders (raw_typed x ty p) step n old (k + 1) ((last ++ (step + raw_size x, Same of_x node) ∷ []) ++ (step + raw_size x, Same k node) ∷ []) before (after ++ k ∷ []) k
unfolding over
draws_typed g names binders x ty p step n old m mid of_x k last node before after dx l =
    let tag = step + raw_size x in
    let first = Same of_x node in
    let inside : of_x < k = omega (arith, dx.inside, l.grows.later) in
    let with_first = last ++ (tag, first) ∷ [] in
    let grows_first = grows_add k tag first last l.grows.about (inside, l.inside) in
    let sees_x = sees_more x step m k before after of_x l.grows.later dx.sees in
    let part_in = in_part x step k before after of_x sees_x in
    let self_in = on_top x step k before after of_x sees_x in
    let x_top : top step x < tag = omega (arith, top_last step x) in
    record {
      grows = grows_trans n m (k + 1) old mid _ dx.grows (grows_trans m k (k + 1) mid last _ l.grows (grows_trans k k (k + 1) last with_first _ grows_first (grows_push k tag (Same k node) with_first grows_first.about (omega arith, omega (arith, l.inside)))));
      inside = omega arith;
      sees = sees_over x step k before after of_x sees_x (raw_typed x ty p) refl refl;
      sound = λ limit v some s.
          let q = solves_pushed limit v tag (Same k node) with_first s in
          let r = solves_pushed limit v tag first last q.0 in
          let is : v node ≡ plain ty = l.sound limit v some r.0 ∙ retyped_none (plain ty) in (
            has_local g (types_of v names) (typing v after) (typing v (after ++ k ∷ [])) limit (scope_types v binders) step x (λ i low high. ap v (part_in i high)) (dx.sound limit v some (l.grows.keeps limit v r.0)),
            λ counts. (ap v (part_in (top step x) x_top ∙ dx.sees.root) ∙ r.1 counts ∙ is, ap v self_in ∙ q.1 counts ∙ is),
          );
      complete = λ limit v types s h.
          let e = dx.complete limit v types s h.0 in
          let d = l.complete limit e.types e.solves in
          let t = types tag in
          let w = put d.types k t in
          let is : d.types node ≡ plain ty = d.here ∙ retyped_none (plain ty) in
          let w_is : w node ≡ plain ty = put_agrees d.types k t node l.inside ∙ is in
          let x_is : d.types of_x ≡ types (top step x) = d.agree of_x dx.inside ∙ ap e.types (sym dx.sees.root) ∙ e.here (top step x) (omega (arith, top_last step x, nodes_positive x)) x_top in
          let both = solves_push limit d.types tag first last d.solves (λ counts. x_is ∙ (h.1 counts).0 ∙ sym is) in
          record {
            types = w;
            agree = λ i less. put_agrees d.types k t i (omega (arith, dx.grows.later, l.grows.later)) ∙ d.agree i (omega (arith, dx.grows.later)) ∙ e.agree i less;
            solves = solves_put limit d.types k t tag (Same k node) with_first grows_first.about both (λ counts. put_same d.types k t ∙ (h.1 counts).1 ∙ sym w_is);
            here = λ i low high.
                places x step k before after of_x sees_x i (λ at. w at ≡ types i) (omega arith)
                (λ l_in. put_agrees d.types k t (get_or after i 0) (sees_x.below i low l_in) ∙ d.agree (get_or after i 0) (dx.sees.below i low l_in) ∙ e.here i low l_in) (λ is_top. put_same d.types k t ∙ ap types (sym is_top));
          };
      only = λ s written functions known facts.
          known_push s written tag (Same k node) with_first (known_push s written tag first last (l.only s written known.1 (dx.only s written functions known.0 facts)) tt) tt;
    }

pub leaf_at : (P : (ℕ → Typ) → Typ → Type 0) (K : Signature → List (List ℕ) → Type 0) (step n : ℕ) (old : List (ℕ × Fact)) (m k : ℕ) (new last : List (ℕ × Fact)) (at here : ℕ) → Leaf P K step n old m new at → k ≡ m → last ≡ new → here ≡ at → Leaf P K step n old k last here
leaf_at P K step n old m k new last at here l k_is last_is here_is = rw (k_is, last_is, here_is) l

pub binder_below : (n : ℕ) (a : List ℕ) (binders : Binders) (k : ℕ) → BindersBelow n binders → Some k ≡ innermost_number a binders → k < n
binder_below n a [] k h e = absurd (none-some k (sym e))
binder_below n a (b ∷ binders) k h e = chosen (is_named b.0 a) _ _ _ (k < n) (λ is f. rw (← same_Some b.1 k f) h.0) (λ is f. binder_below n a binders k h.1 (sym f)) (sym e)

pub bound_below : (n : ℕ) (binders : Binders) (i k : ℕ) → BindersBelow n binders → Some k ≡ option_map (λ b. b.1) (slice_get binders i) → k < n
bound_below n [] i k h e = absurd (none-some k (sym e))
bound_below n (b ∷ binders) zero k h e = rw (same_Some k b.1 e) h.0
bound_below n (b ∷ binders) (suc i) k h e = bound_below n binders i k h.1 e

pub binds_at : (w u : Option Typ) (n : ℕ) (old : List (ℕ × Fact)) (m k : ℕ) (new last : List (ℕ × Fact)) (at here : ℕ) → Binds w n old m new at → k ≡ m → last ≡ new → here ≡ at → u ≡ w → Binds u n old k last here
binds_at w u n old m k new last at here b k_is last_is here_is u_is = rw (k_is, last_is, here_is, u_is) b

pub draws_at : (g : Declarations) (names : List (List ℕ)) (binders : Binders) (raw : RawTm) (step n : ℕ) (old : List (ℕ × Fact)) (m k : ℕ) (new last : List (ℕ × Fact)) (before after seen : List ℕ) (at : ℕ) → Draws g names binders raw step n old m new before after at → k ≡ m → last ≡ new → seen ≡ after →
    Draws g names binders raw step n old k last before seen at
draws_at g names binders raw step n old m k new last before after seen at d k_is last_is seen_is = rw (k_is, last_is, seen_is) d

pub app_at : (g : Declarations) (names : List (List ℕ)) (binders : Binders) (n : ℕ) (f x : RawTm) (p step tag : ℕ) (old : List (ℕ × Fact)) (m : ℕ) (mid : List (ℕ × Fact)) (of_f k : ℕ) (between : List (ℕ × Fact)) (of_x count : ℕ) (last : List (ℕ × Fact)) (at put_tag : ℕ) (before middle after seen : List ℕ) →
    BindersBelow n binders → length names < n → Draws g names binders f step n old m mid before middle of_f → tag ≡ step + raw_size f → Draws g names binders x tag m mid k between middle after of_x → put_tag ≡ tag + raw_size x → at ≡ k → count ≡ k + 1 →
    last ≡ between ++ (put_tag, IsCon of_f function (of_x ∷ at ∷ [])) ∷ [] → seen ≡ after ++ at ∷ [] → Draws g names binders (raw_app f x p) step n old count last before seen at
app_at g names binders n f x p step tag old m mid of_f k between of_x count last at put_tag before middle after seen below named df tag_is dx put_is at_is count_is last_is seen_is =
    rw (count_is, last_is, seen_is, put_is, at_is, tag_is) (draws_app g names binders n below named f x p step old m mid of_f k between of_x before middle after df (rw tag_is at dx))

pub abs_at : (g : Declarations) (names : List (List ℕ)) (binders : Binders) (n : ℕ) (a : Option (List ℕ)) (written : Option RawTyp) (x : RawTm) (p step tag : ℕ) (old : List (ℕ × Fact)) (m : ℕ) (mid : List (ℕ × Fact)) (of_a k : ℕ) (between : List (ℕ × Fact)) (of_x count : ℕ)
    (last : List (ℕ × Fact)) (at put_tag : ℕ) (before after seen : List ℕ) → BindersBelow n binders → length names < n → Binds (plain_option written) n old m mid of_a → tag ≡ step → Draws g names ((a, of_a) ∷ binders) x tag m mid k between before after of_x → put_tag ≡ tag + raw_size x → at ≡ k → count ≡ k + 1 →
    last ≡ between ++ (put_tag, IsCon at function (of_a ∷ of_x ∷ [])) ∷ [] → seen ≡ after ++ at ∷ [] → Draws g names binders (raw_abs a written x p) step n old count last before seen at
abs_at g names binders n a written x p step tag old m mid of_a k between of_x count last at put_tag before after seen below named da tag_is dx put_is at_is count_is last_is seen_is =
    rw (count_is, last_is, seen_is, put_is, at_is, tag_is) (draws_abs g names binders n below named a written x p step old m mid of_a k between of_x before after da (rw tag_is at dx))

pub typed_at : (g : Declarations) (names : List (List ℕ)) (binders : Binders) (x : RawTm) (ty : RawTyp) (p step n tag : ℕ) (old : List (ℕ × Fact)) (m : ℕ) (mid : List (ℕ × Fact)) (of_x k : ℕ) (between : List (ℕ × Fact)) (node count : ℕ) (last : List (ℕ × Fact)) (at put_tag : ℕ) (before after seen : List ℕ) →
    Draws g names binders x step n old m mid before after of_x → tag ≡ step + raw_size x → WithWritten tag of_x (plain ty) m mid k between node → put_tag ≡ tag → at ≡ k → count ≡ k + 1 → last ≡ between ++ (put_tag, Same k node) ∷ [] → seen ≡ after ++ at ∷ [] →
    Draws g names binders (raw_typed x ty p) step n old count last before seen at
typed_at g names binders x ty p step n tag old m mid of_x k between node count last at put_tag before after seen dx tag_is w put_is at_is count_is last_is seen_is =
    rw (count_is, last_is, seen_is, put_is, at_is, w.added, tag_is) (draws_typed g names binders x ty p step n old m mid of_x k w.middle node before after dx w.lays)

pub written_at : (P : (ℕ → Typ) → Typ → Type 0) (K : Signature → List (List ℕ) → Type 0) (ty : Typ) (step n tag : ℕ) (old : List (ℕ × Fact)) (m : ℕ) (mid : List (ℕ × Fact)) (at k : ℕ) (last : List (ℕ × Fact)) (node : ℕ) → Leaf P K step n old m mid at → tag ≡ step → WithWritten tag at ty m mid k last node →
    Leaf (λ v t. P v t × (t ≡ ty)) (λ s written. K s written × IsKnownType s written [] ty) step n old k last at
written_at P K ty step n tag old m mid at k last node leaf tag_is w = rw (w.added, tag_is) (leaf_written P K ty step n old m mid at k w.middle node leaf w.lays)

pub names_more : (n m : ℕ) (names : List (List ℕ)) → n ≤ m → length names < n → length names < m
names_more n m names h k = omega arith

pub draws_of : (g : Declarations) (names : List (List ℕ)) (binders : Binders) (raw whole : RawTm) (step n : ℕ) (old : List (ℕ × Fact)) (m : ℕ) (new : List (ℕ × Fact)) (before after : List ℕ) (at : ℕ) → raw ≡ whole → Draws g names binders raw step n old m new before after at →
    Draws g names binders whole step n old m new before after at
draws_of g names binders raw whole step n old m new before after at e d = rw (← e) d

pub leaf_given : (P : (ℕ → Typ) → Typ → Type 0) (K : Signature → List (List ℕ) → Type 0) (w u : Option Typ) (step n : ℕ) (old : List (ℕ × Fact)) (m : ℕ) (new : List (ℕ × Fact)) (at : ℕ) → u ≡ w → Leaf (λ v t. P v t × IsWritten w t) (λ s written. K s written × IsKnownOption s written w) step n old m new at → Leaf (λ v t. P v t × IsWritten u t) (λ s written. K s written × IsKnownOption s written u) step n old m new at
leaf_given P K w u step n old m new at e l = rw e l

-- a further type that is exactly a declared one
pub leaf_exact : (ty : Typ) (step n : ℕ) (old : List (ℕ × Fact)) (k : ℕ) (mid : List (ℕ × Fact)) (known : ℕ) → Lays 0 [] ty n old k mid known → Leaf (λ v t. t ≡ ty) (λ s written. IsKnownType s written [] ty) step n old (k + 1) (mid ++ (step, Same k known) ∷ []) k
leaf_exact ty step n old k mid known l =
    leaf_push (λ v t. t ≡ ty) (λ s written. IsKnownType s written [] ty) step n old k mid known l.grows l.inside (λ limit v some s below. l.sound limit v some s ∙ retyped_none ty)
    (λ limit v t s h. let e = l.complete limit v s in record { types = e.types; agree = e.agree; solves = e.solves; here = λ below. e.here ∙ retyped_none ty ∙ sym (h below) })
    l.only

pub exact_at : (ty : Typ) (step n : ℕ) (old : List (ℕ × Fact)) (k : ℕ) (mid : List (ℕ × Fact)) (known last : ℕ) (new : List (ℕ × Fact)) (at tag : ℕ) → Lays 0 [] ty n old k mid known → tag ≡ step → last ≡ k + 1 → new ≡ mid ++ (tag, Same k known) ∷ [] → at ≡ k →
    Leaf (λ v t. t ≡ ty) (λ s written. IsKnownType s written [] ty) step n old last new at
exact_at ty step n old k mid known last new at tag l tag_is last_is new_is at_is = rw (last_is, new_is, at_is, tag_is) (leaf_exact ty step n old k mid known l)

pub leaf_from : (P : (ℕ → Typ) → Typ → Type 0) (K : Signature → List (List ℕ) → Type 0) (step tag n k : ℕ) (old first : List (ℕ × Fact)) (m : ℕ) (new : List (ℕ × Fact)) (at : ℕ) → Leaf P K tag k first m new at → tag ≡ step → k ≡ n → first ≡ old → Leaf P K step n old m new at
leaf_from P K step tag n k old first m new at l tag_is k_is first_is = rw (← tag_is, ← k_is, ← first_is) l
