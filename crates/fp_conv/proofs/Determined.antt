-- What a term becomes is determined.
use Rattle.std.proofs.Common.{◌≡◌, ◌∙◌, ℕ, ◌+◌, ◌==◌, Bool, true, false, cond, ◌&&◌, List, [], ◌∷◌, refl, sym, ap, subst}
use Rattle.std.specs.Prelude.{Option, Some, None}
use Rattle.std.specs.Str.{bytes_eq}
use Rattle.std.proofs.lemmas.Option.{none-some, same_Some}
use Rattle.fp_term.specs.Types.{Typ, type_eq}
use Rattle.fp_term.specs.Terms.{Tm, bound, free, constant, app, abs, opened, closed, found, or_else, replaced, retyped_term}
use Rattle.fp_term.specs.Variables.{is_among, free_names}
use Rattle.fp_term.proofs.Choices.{chosen}
use Rattle.fp_term.proofs.Search.{among_append}
use Rattle.fp_match.specs.Instances.{AreTyped, has_variable, AreVariables}
use Rattle.fp_match.proofs.TypePairs.{Pairs}
use Rattle.fp_match.proofs.TermPairs.{Triples, term_at, is_variable}
use Rattle.fp_match.proofs.Unique.{either, unique_instance}
use Rattle.fp_conclude.specs.Hypotheses.{occurs}
use Rattle.fp_kernel.specs.Definitions.{Def}
use Rattle.fp_kernel.specs.Theorems.{Theorem}
use Rattle.fp_conv.specs.Outermost.{AreKept, Instance, is_used, is_simple, Rewrites, at_instance, in_application, in_abstraction, nowhere, Rewritten, Determined}
use Rattle.fp_conv.proofs.Opening.{neither, occurs_closed}
use Rattle.fp_conv.proofs.Unused.{apart_name, named_apart}
use Rattle.fp_conv.proofs.Swapped.{turned, turned_second, swapped, swapped_twice, swapped_opened, swapped_closed, swapped_apart, swapped_names, swapped_type, swapped_pairs, swapped_replaced}

names_retyped : (i : Pairs) (t : Tm) → free_names (retyped_term i t) ≡ free_names t
names_retyped i (bound n) = refl
names_retyped i (free x s) = refl
names_retyped i (constant x s) = refl
names_retyped i (app f x) = rw (names_retyped i f, names_retyped i x) refl
names_retyped i (abs s x) = names_retyped i x

unnamed_retyped : (i : Pairs) (t : Tm) (x : List ℕ) → is_among (free_names t) x ≡ false → is_among (free_names (retyped_term i t)) x ≡ false
unnamed_retyped i t x e = ap (λ (names : List (List ℕ)). is_among names x) (names_retyped i t) ∙ e

simple_swapped : (a b : List ℕ) (t : Tm) → is_simple t ≡ true → is_simple (swapped a b t) ≡ true
simple_swapped a b (bound n) e = refl
simple_swapped a b (free x s) e = refl
simple_swapped a b (constant x s) e = refl
simple_swapped a b (app f x) e = cc
simple_swapped a b (abs s x) e = cc

-- with two names exchanged that are used nowhere in the equation and its hypotheses
module _ (hyps : List Tm) (l r : Tm) (a b : List ℕ) (unused : is_used a (l ∷ r ∷ hyps) ≡ false) (other : is_used b (l ∷ r ∷ hyps) ≡ false) where
  typed_swapped : (ts : Triples) → AreTyped ts → AreTyped (swapped_pairs a b ts)
  typed_swapped [] h = tt
  typed_swapped (q ∷ ts) h = (swapped_type a b [] q.2 ∙ h.0, typed_swapped ts h.1)

  variables_swapped : (q : Tm) (ts : Triples) → AreVariables q ts → AreVariables q (swapped_pairs a b ts)
  variables_swapped q [] h = tt
  variables_swapped q (p ∷ ts) h = (h.0, variables_swapped q ts h.1)

  put_swapped : (i : Pairs) (ts : Triples) (t : Tm) → is_among (free_names t) a ≡ false → is_among (free_names t) b ≡ false →
      replaced (swapped_pairs a b ts) (retyped_term i t) ≡ swapped a b (replaced ts (retyped_term i t))
  put_swapped i ts t e f = swapped_replaced a b ts (retyped_term i t) (unnamed_retyped i t a e) (unnamed_retyped i t b f)

  kept_swapped : (i : Pairs) (ts : Triples) (hs : List Tm) → is_used a hs ≡ false → is_used b hs ≡ false → AreKept i ts hs → AreKept i (swapped_pairs a b ts) hs
  kept_swapped i ts [] e f k = tt
  kept_swapped i ts (h ∷ hs) e f k =
      let p = neither (is_among (free_names h) a) (is_used a hs) e in
      let q = neither (is_among (free_names h) b) (is_used b hs) f in (
        put_swapped i ts h p.0 q.0 ∙ ap (swapped a b) k.0 ∙ swapped_apart a b h (λ s. named_apart a s h p.0) (λ s. named_apart b s h q.0),
        kept_swapped i ts hs p.1 q.1 k.1,
      )

  left_unnamed : (is_among (free_names l) a ≡ false) × (is_among (free_names l) b ≡ false)
  left_unnamed = ((neither (is_among (free_names l) a) (is_used a (r ∷ hyps)) unused).0, (neither (is_among (free_names l) b) (is_used b (r ∷ hyps)) other).0)

  rest_unused : (is_used a (r ∷ hyps) ≡ false) × (is_used b (r ∷ hyps) ≡ false)
  rest_unused = ((neither (is_among (free_names l) a) (is_used a (r ∷ hyps)) unused).1, (neither (is_among (free_names l) b) (is_used b (r ∷ hyps)) other).1)

  instance_swapped : (t : Tm) → Instance hyps l t → Instance hyps l (swapped a b t)
  instance_swapped t i =
      let p = neither (is_among (free_names r) a) (is_used a hyps) rest_unused.0 in
      let q = neither (is_among (free_names r) b) (is_used b hyps) rest_unused.1 in
      record {
        types = i.types;
        terms = swapped_pairs a b i.terms;
        is = record {
          by = record {
            fit = typed_swapped i.terms i.is.by.fit;
            equal = put_swapped i.types i.terms l left_unnamed.0 left_unnamed.1 ∙ ap (swapped a b) i.is.by.equal;
          };
          own = record { types_own = i.is.own.types_own; terms_own = variables_swapped (retyped_term i.types l) i.terms i.is.own.terms_own };
          kept = kept_swapped i.types i.terms hyps p.1 q.1 i.is.kept;
        };
      }

  never_swapped : (t : Tm) → (Instance hyps l t → ⊥) → Instance hyps l (swapped a b t) → ⊥
  never_swapped t never i = let k = instance_swapped (swapped a b t) i in never (rw (swapped_twice a b t) at k)

  used_turned : (ts : List Tm) (x : List ℕ) → is_used a ts ≡ false → is_used b ts ≡ false → is_used x ts ≡ false → is_used (turned a b x) ts ≡ false
  used_turned [] x e f g = refl
  used_turned (t ∷ ts) x e f g =
      let p = neither (is_among (free_names t) a) (is_used a ts) e in
      let q = neither (is_among (free_names t) b) (is_used b ts) f in
      let k = neither (is_among (free_names t) x) (is_used x ts) g in
      let same = swapped_apart a b t (λ s. named_apart a s t p.0) (λ s. named_apart b s t q.0) in
      let here = rw same at (swapped_names a b t x) in
      rw (here, k.0) (used_turned ts x p.1 q.1 k.1)

  used_swapped : (body : Tm) (x : List ℕ) → is_used x (body ∷ l ∷ r ∷ hyps) ≡ false → is_used (turned a b x) (swapped a b body ∷ l ∷ r ∷ hyps) ≡ false
  used_swapped body x e =
      let p = neither (is_among (free_names body) x) (is_used x (l ∷ r ∷ hyps)) e in
      rw (swapped_names a b body x, p.0) (used_turned (l ∷ r ∷ hyps) x unused other p.1)

  rewrites_swapped : {t u : Tm} → Rewrites hyps l r t u → Rewrites hyps l r (swapped a b t) (swapped a b u)
  unfolding instance_swapped
  rewrites_swapped (at_instance {t = t} i) =
      let p = (neither (is_among (free_names r) a) (is_used a hyps) rest_unused.0).0 in
      let q = (neither (is_among (free_names r) b) (is_used b hyps) rest_unused.1).0 in
      let made : Rewrites hyps l r (swapped a b t) (replaced (swapped_pairs a b i.terms) (retyped_term i.types r)) = at_instance (instance_swapped t i) in
      rw (put_swapped i.types i.terms r p q) at made
  rewrites_swapped (in_application {f = f} {x = x} never d e) = in_application (never_swapped (app f x) never) (rewrites_swapped d) (rewrites_swapped e)
  rewrites_swapped (in_abstraction {body = body} {u = u} s name never free_name d) =
      let inner = rw (swapped_opened a b name s 0 body) at (rewrites_swapped d) in
      let made = in_abstraction s (turned a b name) (never_swapped (abs s body) never) (used_swapped body name free_name) inner in
      rw (swapped_closed a b name s 0 u) made
  rewrites_swapped (nowhere {t = t} never e) = nowhere (never_swapped t never) (simple_swapped a b t e)

-- a variable that is free in no term, and whose name the equation doesn't use, is free in nothing that the term becomes
module _ (x : List ℕ) (s : Typ) where
  part_apart : (ts : Triples) (q : Tm) (y : List ℕ) (w : Typ) → has_variable y w q ≡ true → occurs x s (replaced ts q) ≡ false → occurs x s (term_at ts y w) ≡ false
  part_apart ts (bound n) y w is e = cc
  part_apart ts (free z v) y w is e = let d = (is_variable z v y w).0 is in rw (d.0, d.1) at e
  part_apart ts (constant z v) y w is e = cc
  part_apart ts (app f z) y w is e =
      let p = neither (occurs x s (replaced ts f)) (occurs x s (replaced ts z)) e in
      either (has_variable y w f) (has_variable y w z) _ (λ h. part_apart ts f y w h p.0) (λ h. part_apart ts z y w h p.1) is
  part_apart ts (abs v z) y w is e = part_apart ts z y w is e

  found_variable : (q : Tm) (ts : Triples) (y : List ℕ) (w : Typ) (v : Tm) → AreVariables q ts → found y w ts ≡ Some v → has_variable y w q ≡ true
  found_variable q [] y w v h e = absurd (none-some v e)
  found_variable q (p ∷ ts) y w v h e =
      chosen (bytes_eq p.0 y && type_eq p.1 w) _ _ _ (has_variable y w q ≡ true)
      (λ is _. let d = (is_variable p.0 p.1 y w).0 is in rw (← d.0, ← d.1) h.0) (λ _ f. found_variable q ts y w v h.1 f) e

  placed_by : (o : Option Tm) (y : List ℕ) (w : Typ) → ((v : Tm) → o ≡ Some v → occurs x s v ≡ false) → (bytes_eq y x && type_eq w s) ≡ false → occurs x s (or_else o (free y w)) ≡ false
  placed_by None y w h e = e
  placed_by (Some v) y w h e = h v refl

  placed_apart : (ts : Triples) (q : Tm) → ((y : List ℕ) (w : Typ) (v : Tm) → found y w ts ≡ Some v → occurs x s v ≡ false) → is_among (free_names q) x ≡ false → occurs x s (replaced ts q) ≡ false
  placed_apart ts (bound n) h e = refl
  placed_apart ts (free y w) h e = placed_by (found y w ts) y w (h y w) (apart_name (bytes_eq y x) (type_eq w s) e)
  placed_apart ts (constant y w) h e = refl
  placed_apart ts (app f y) h e =
      let p = neither (is_among (free_names f) x) (is_among (free_names y) x) (sym (among_append (free_names f) (free_names y) x) ∙ e) in
      rw (placed_apart ts f h p.0, placed_apart ts y h p.1) refl
  placed_apart ts (abs w y) h e = placed_apart ts y h e

  opened_by : (c : Bool) (n : ℕ) (y : List ℕ) (w : Typ) → (bytes_eq y x && type_eq w s) ≡ false → occurs x s (cond c (free y w) (bound n)) ≡ false
  opened_by true n y w e = e
  opened_by false n y w e = refl

  opened_apart : (y : List ℕ) (w : Typ) → (bytes_eq y x && type_eq w s) ≡ false → (at : ℕ) (t : Tm) → occurs x s t ≡ false → occurs x s (opened at (free y w) t) ≡ false
  opened_apart y w h at (bound n) e = opened_by (n == at) n y w h
  opened_apart y w h at (free z v) e = e
  opened_apart y w h at (constant z v) e = refl
  opened_apart y w h at (app f z) e =
      let p = neither (occurs x s f) (occurs x s z) e in
      rw (opened_apart y w h at f p.0, opened_apart y w h at z p.1) refl
  opened_apart y w h at (abs v z) e = opened_apart y w h (at + 1) z e

  closed_by : (c : Bool) (at : ℕ) (z : List ℕ) (v : Typ) → occurs x s (free z v) ≡ false → occurs x s (cond c (bound at) (free z v)) ≡ false
  closed_by true at z v e = refl
  closed_by false at z v e = e

  still_apart : (y : List ℕ) (w : Typ) (at : ℕ) (t : Tm) → occurs x s t ≡ false → occurs x s (closed at y w t) ≡ false
  still_apart y w at (bound n) e = refl
  still_apart y w at (free z v) e = closed_by (bytes_eq z y && type_eq v w) at z v e
  still_apart y w at (constant z v) e = refl
  still_apart y w at (app f z) e =
      let p = neither (occurs x s f) (occurs x s z) e in
      rw (still_apart y w at f p.0, still_apart y w at z p.1) refl
  still_apart y w at (abs v z) e = still_apart y w (at + 1) z e

  module _ (hyps : List Tm) (l r : Tm) (unused : is_used x (l ∷ r ∷ hyps) ≡ false) where
    right_unnamed : is_among (free_names r) x ≡ false
    right_unnamed = (neither (is_among (free_names r) x) (is_used x hyps) (neither (is_among (free_names l) x) (is_used x (r ∷ hyps)) unused).1).0

    pair_apart : {t : Tm} (i : Instance hyps l t) → occurs x s t ≡ false → (y : List ℕ) (w : Typ) (v : Tm) → found y w i.terms ≡ Some v → occurs x s v ≡ false
    pair_apart i e y w v f =
        let is = found_variable (retyped_term i.types l) i.terms y w v i.is.own.terms_own f in
        let k = part_apart i.terms (retyped_term i.types l) y w is (rw i.is.by.equal e) in
        rw f at k

    closed_result : (c : Bool) (y : List ℕ) (w : Typ) (u : Tm) → (bytes_eq y x && type_eq w s) ≡ c → ((bytes_eq y x && type_eq w s) ≡ false → occurs x s u ≡ false) → occurs x s (closed 0 y w u) ≡ false
    closed_result true y w u e h =
        let d = (is_variable y w x s).0 e in
        rw (d.0, d.1) (occurs_closed x s 0 u)
    closed_result false y w u e h = still_apart y w 0 u (h e)

    pub result_apart : {t u : Tm} → Rewrites hyps l r t u → occurs x s t ≡ false → occurs x s u ≡ false
    result_apart (at_instance i) e = placed_apart i.terms (retyped_term i.types r) (pair_apart i e) (unnamed_retyped i.types r x right_unnamed)
    result_apart (in_application {f = f} {x = y} never d k) e =
        let p = neither (occurs x s f) (occurs x s y) e in
        rw (result_apart d p.0, result_apart k p.1) refl
    result_apart (in_abstraction {body = body} {u = u} w y never free_name d) e =
        closed_result (bytes_eq y x && type_eq w s) y w u refl (λ apart. result_apart d (opened_apart y w apart 0 body e))
    result_apart (nowhere never k) e = e

-- a term becomes one term only
pub determined : {hyps : List Tm} {l r t u v : Tm} → Rewrites hyps l r t u → Rewrites hyps l r t v → u ≡ v
determined {l = l} {r = r} (at_instance {t = t} i) (at_instance j) = unique_instance l t i.types j.types i.terms j.terms i.is.by j.is.by i.is.own j.is.own r
determined (at_instance i) (in_application never d e) = absurd (never i)
determined (at_instance i) (in_abstraction s name never unused d) = absurd (never i)
determined (at_instance i) (nowhere never e) = absurd (never i)
determined (in_application never d e) (at_instance j) = absurd (never j)
determined (in_application never d e) (in_application other f g) = rw (determined d f, determined e g) refl
determined (in_application never d e) (nowhere other k) = cc
determined (in_abstraction s name never unused d) (at_instance j) = absurd (never j)
determined {hyps} {l} {r} (in_abstraction {body = body} {u = u} s m never unused d) (in_abstraction {u = v} _ n other apart e) =
    let p = neither (is_among (free_names body) m) (is_used m (l ∷ r ∷ hyps)) unused in
    let q = neither (is_among (free_names body) n) (is_used n (l ∷ r ∷ hyps)) apart in
    let body_same = swapped_apart m n body (λ w. named_apart m w body p.0) (λ w. named_apart n w body q.0) in
    let turned_is = turned_second m n in
    let moved = rw (swapped_opened m n n s 0 body, turned_is, body_same) at (rewrites_swapped hyps l r m n p.1 q.1 e) in
    let same = determined d moved in
    let whole : Rewrites hyps l r (abs s body) (abs s (closed 0 n s v)) = in_abstraction s n other apart e in
    let closed_same : swapped m n (closed 0 n s v) ≡ closed 0 m s (swapped m n v) = rw turned_is at (swapped_closed m n n s 0 v) in
    let still : swapped m n (closed 0 n s v) ≡ closed 0 n s v =
    swapped_apart m n (closed 0 n s v) (λ w. result_apart m w hyps l r p.1 whole (named_apart m w body p.0)) (λ w. result_apart n w hyps l r q.1 whole (named_apart n w body q.0)) in
    rw same (ap (abs s) (sym closed_same ∙ still))
determined (in_abstraction s name never unused d) (nowhere other k) = cc
determined (nowhere never k) (at_instance j) = absurd (never j)
determined (nowhere never k) (in_application other f g) = cc
determined (nowhere never k) (in_abstraction s name other unused d) = cc
determined (nowhere never k) (nowhere other e) = refl

-- what a theorem was rewritten to is what its conclusion becomes
pub only_result : (defs : List Def) (a b th : Theorem) → Rewritten defs a b th → Determined a b th
only_result defs a b th h s l r u e d =
    let same = same_Some {A = Typ × Tm × Tm} (h.type, h.left, h.right) (s, l, r) (sym h.equation ∙ e) in
    ap (λ (x : Theorem). x.concl) h.is ∙ determined (subst (λ (p : Typ × Tm × Tm). Rewrites a.hyps p.1 p.2 b.concl h.result) same h.rewrites) d
