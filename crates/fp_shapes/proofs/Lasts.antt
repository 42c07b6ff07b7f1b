-- What is joined to the right, from its last part on.
use Rattle.std.proofs.Common.{◌≡◌, ◌∙◌, ℕ, zero, suc, ◌+◌, ◌-◌, ◌<◌, List, [], ◌∷◌, ◌++◌, take, drop, get_or, length, refl, sym, ap, arith}
use Rattle.std.proofs.lemmas.List.{drop_more, take-append-drop, drop_all}
use Rattle.fp_term.specs.Types.{Typ}
use Rattle.fp_term.specs.Terms.{Tm}
use Rattle.fp_conclude.specs.Logic.{conjunction}
use Rattle.fp_shapes.specs.Joined.{disjunction, before, disjunctions, with_each, conjunctions}
use Rattle.fp_shapes.specs.Tuples.{pair_type, pair, tuple_type, tuple}
use Rattle.fp_shapes.specs.Sums.{sum_type, sums}

-- what is left of a list
pub further : {X : Type 0} → (xs : List X) (i : ℕ) (x : X) → x ≡ get_or xs i x → i < length xs → drop i xs ≡ x ∷ drop (i + 1) xs
further xs i x is h = drop_more xs i x h ∙ ap (λ y. y ∷ drop (i + 1) xs) (sym is)

pub some_left : {X : Type 0} → (xs : List X) (i : ℕ) → i < length xs → (y : X) × (ys : List X) × (drop i xs ≡ y ∷ ys)
some_left [] i h = absurd (omega (arith, h))
some_left (x ∷ xs) zero h = (x, xs, refl)
some_left (x ∷ xs) (suc i) h = some_left xs i (omega (arith, h))

pub one_left : {X : Type 0} → (xs : List X) (x : X) → x ≡ get_or xs (length xs - 1) x → 0 < length xs → drop (length xs - 1) xs ≡ x ∷ []
one_left xs x is h =
    further xs (length xs - 1) x is (omega (arith, h)) ∙ ap (λ ys. x ∷ ys) (drop_all (length xs - 1 + 1) xs (omega (arith, h)))

around : (fs : List Tm) (q : Tm) → q ≡ get_or fs (length fs - 1) q → 0 < length fs → take (length fs - 1) fs ++ q ∷ [] ≡ fs
around fs q is h = ap (λ w. take (length fs - 1) fs ++ w) (sym (one_left fs q is h)) ∙ take-append-drop (length fs - 1) fs

-- disjunctions
more : (p : Tm) (ps : List Tm) (q : Tm) (qs : List Tm) → disjunctions (p ∷ (ps ++ q ∷ qs)) ≡ disjunction p (disjunctions (ps ++ q ∷ qs))
more p [] q qs = refl
more p (r ∷ ps) q qs = refl

pub before_joined : (ps : List Tm) (q : Tm) (qs : List Tm) → before ps (disjunctions (q ∷ qs)) ≡ disjunctions (ps ++ q ∷ qs)
before_joined [] q qs = refl
before_joined (p ∷ ps) q qs = ap (disjunction p) (before_joined ps q qs) ∙ sym (more p ps q qs)

pub last_before : (fs : List Tm) (q : Tm) → q ≡ get_or fs (length fs - 1) q → 0 < length fs → before (take (length fs - 1) fs) q ≡ disjunctions fs
last_before fs q is h = before_joined (take (length fs - 1) fs) q [] ∙ ap disjunctions (around fs q is h)

-- conjunctions
more_each : (p : Tm) (ps : List Tm) (q : Tm) (qs : List Tm) → conjunctions (p ∷ (ps ++ q ∷ qs)) ≡ conjunction p (conjunctions (ps ++ q ∷ qs))
more_each p [] q qs = refl
more_each p (r ∷ ps) q qs = refl

pub with_each_joined : (ps : List Tm) (q : Tm) (qs : List Tm) → with_each ps (conjunctions (q ∷ qs)) ≡ conjunctions (ps ++ q ∷ qs)
with_each_joined [] q qs = refl
with_each_joined (p ∷ ps) q qs = ap (conjunction p) (with_each_joined ps q qs) ∙ sym (more_each p ps q qs)

pub last_with_each : (fs : List Tm) (q : Tm) → q ≡ get_or fs (length fs - 1) q → 0 < length fs → with_each (take (length fs - 1) fs) q ≡ conjunctions fs
last_with_each fs q is h = with_each_joined (take (length fs - 1) fs) q [] ∙ ap conjunctions (around fs q is h)

-- types of tuples and sums
pub last_type : (tys : List Typ) (s : Typ) → s ≡ get_or tys (length tys - 1) s → 0 < length tys → s ≡ tuple_type (drop (length tys - 1) tys)
last_type tys s is h = sym (ap tuple_type (one_left tys s is h))

pub next_type : (tys : List Typ) (at : ℕ) (s made : Typ) → s ≡ get_or tys at s → at + 1 < length tys → made ≡ tuple_type (drop (at + 1) tys) → pair_type s made ≡ tuple_type (drop at tys)
next_type tys at s made is h e =
    let l = some_left tys (at + 1) h in
    ap (pair_type s) (e ∙ ap tuple_type l.2) ∙ sym (ap tuple_type (further tys at s is (omega (arith, h)) ∙ ap (λ ys. s ∷ ys) l.2))

pub last_sum : (tys : List Typ) (s : Typ) → s ≡ get_or tys (length tys - 1) s → 0 < length tys → s ≡ sums (drop (length tys - 1) tys)
last_sum tys s is h = sym (ap sums (one_left tys s is h))

pub next_sum : (tys : List Typ) (at : ℕ) (s made : Typ) → s ≡ get_or tys at s → at + 1 < length tys → made ≡ sums (drop (at + 1) tys) → sum_type s made ≡ sums (drop at tys)
next_sum tys at s made is h e =
    let l = some_left tys (at + 1) h in
    ap (sum_type s) (e ∙ ap sums l.2) ∙ sym (ap sums (further tys at s is (omega (arith, h)) ∙ ap (λ ys. s ∷ ys) l.2))

-- tuples
pub last_part : (tys : List Typ) (ts : List Tm) (s : Typ) (t : Tm) → length ts ≡ length tys → s ≡ get_or tys (length tys - 1) s → t ≡ get_or ts (length tys - 1) t → 0 < length tys →
    t ≡ tuple (drop (length tys - 1) tys) (drop (length tys - 1) ts)
last_part tys ts s t same is at h =
    let n : length ts - 1 ≡ length tys - 1 = ap (λ k. k - 1) same in
    let u : drop (length tys - 1) ts ≡ t ∷ [] = rw (← n) (one_left ts t (rw n at) (rw same h)) in
    rw (one_left tys s is h, u) refl

pub next_part : (tys : List Typ) (ts : List Tm) (at : ℕ) (s : Typ) (t : Tm) (ty : Typ) (made : Tm) → length ts ≡ length tys → s ≡ get_or tys at s → t ≡ get_or ts at t → at + 1 < length tys →
    ty ≡ tuple_type (drop (at + 1) tys) → made ≡ tuple (drop (at + 1) tys) (drop (at + 1) ts) → pair s ty t made ≡ tuple (drop at tys) (drop at ts)
next_part tys ts at s t ty made same is place h e f =
    let l = some_left tys (at + 1) h in
    let k : at < length ts = omega (arith, h, same) in
    let a : drop at tys ≡ s ∷ l.0 ∷ l.1 = further tys at s is (omega (arith, h)) ∙ ap (λ ys. s ∷ ys) l.2 in
    let b : drop at ts ≡ t ∷ drop (at + 1) ts = further ts at t place k in
    let whole : tuple (drop at tys) (drop at ts) ≡ pair s (tuple_type (l.0 ∷ l.1)) t (tuple (l.0 ∷ l.1) (drop (at + 1) ts)) = rw (a, b) refl in
    let parts : pair s ty t made ≡ pair s (tuple_type (l.0 ∷ l.1)) t (tuple (l.0 ∷ l.1) (drop (at + 1) ts)) = rw (e, f, l.2) refl in
    parts ∙ sym whole
