-- Terms in which two names of variables are exchanged.
use Rattle.std.proofs.Common.{◌≡◌, ◌∙◌, ℕ, ◌+◌, ◌==◌, Bool, true, false, cond, ◌&&◌, ◌||◌, List, [], ◌∷◌, refl, sym, ap}
use Rattle.std.specs.Prelude.{Option, Some, None}
use Rattle.std.specs.Option.{option_map}
use Rattle.std.specs.Str.{bytes_eq}
use Rattle.std.proofs.lemmas.Slice.Eq.{bytes_eq-Decides}
use Rattle.fp_term.specs.Types.{Typ, type_eq}
use Rattle.fp_term.specs.Terms.{Tm, bound, free, constant, app, abs, opened, closed, found, or_else, replaced}
use Rattle.fp_term.specs.Typing.{type_under}
use Rattle.fp_term.specs.Variables.{is_among, free_names}
use Rattle.fp_term.proofs.Equal.{type_eq-decides}
use Rattle.fp_term.proofs.Search.{among_append}
use Rattle.fp_match.proofs.TermPairs.{Triples}
use Rattle.fp_conclude.specs.Hypotheses.{occurs}
use Rattle.fp_conv.proofs.Opening.{neither}

-- tests that hold where the other does are equal
alike : (b c : Bool) → (b ≡ true → c ≡ true) → (c ≡ true → b ≡ true) → b ≡ c
alike true true f g = refl
alike true false f g = sym (f refl)
alike false true f g = g refl
alike false false f g = refl

pub differ : (x y : List ℕ) → bytes_eq x y ≡ false → x ≡ y → ⊥
differ x y e same = let f : bytes_eq x y ≡ true = (bytes_eq-Decides x y).1 same in cc

own_name : (x : List ℕ) → bytes_eq x x ≡ true
own_name x = (bytes_eq-Decides x x).1 refl

unnamed : (c d : Bool) → (c && d) ≡ false → d ≡ true → c ≡ false
unnamed true d e f = cc
unnamed false d e f = refl

not_named : (x a : List ℕ) (u : Typ) → (bytes_eq x a && type_eq u u) ≡ false → bytes_eq x a ≡ false
not_named x a u e = unnamed (bytes_eq x a) (type_eq u u) e ((type_eq-decides u u).1 refl)

module _ (a b : List ℕ) where
  -- the one name for the other
  pub turned : List ℕ → List ℕ
  turned x = cond (bytes_eq x a) b (cond (bytes_eq x b) a x)

  pub turned_first : turned a ≡ b
  unfolding turned
  turned_first = rw (own_name a) refl

  second_by : (c : Bool) → bytes_eq b a ≡ c → turned b ≡ a
  unfolding turned
  second_by true e = rw e ((bytes_eq-Decides b a).0 e)
  second_by false e = rw (e, own_name b) refl

  pub turned_second : turned b ≡ a
  turned_second = second_by (bytes_eq b a) refl

  pub turned_other : (x : List ℕ) → bytes_eq x a ≡ false → bytes_eq x b ≡ false → turned x ≡ x
  unfolding turned
  turned_other x e f = rw (e, f) refl

  twice_by : (x : List ℕ) (c d : Bool) → bytes_eq x a ≡ c → bytes_eq x b ≡ d → turned (turned x) ≡ x
  twice_by x true d e f =
      let is = (bytes_eq-Decides x a).0 e in
      rw (is, turned_first) turned_second
  twice_by x false true e f =
      let is = (bytes_eq-Decides x b).0 f in
      rw (is, turned_second) turned_first
  twice_by x false false e f = let same = turned_other x e f in rw (same, same) refl

  pub turned_twice : (x : List ℕ) → turned (turned x) ≡ x
  turned_twice x = twice_by x (bytes_eq x a) (bytes_eq x b) refl refl

  -- whether names are equal stays as it is
  pub turned_same : (x y : List ℕ) → bytes_eq (turned x) (turned y) ≡ bytes_eq x y
  turned_same x y =
      alike (bytes_eq (turned x) (turned y)) (bytes_eq x y)
      (λ is. (bytes_eq-Decides x y).1 (sym (turned_twice x) ∙ ap turned ((bytes_eq-Decides (turned x) (turned y)).0 is) ∙ turned_twice y))
      (λ is. (bytes_eq-Decides (turned x) (turned y)).1 (ap turned ((bytes_eq-Decides x y).0 is)))

  abbrev pub swapped : Tm → Tm
  swapped (bound n) = bound n
  swapped (free x s) = free (turned x) s
  swapped (constant x s) = constant x s
  swapped (app f x) = app (swapped f) (swapped x)
  swapped (abs s x) = abs s (swapped x)

  pub swapped_twice : (t : Tm) → swapped (swapped t) ≡ t
  swapped_twice (bound n) = refl
  swapped_twice (free x s) = ap (λ (y : List ℕ). free y s) (turned_twice x)
  swapped_twice (constant x s) = refl
  swapped_twice (app f x) = rw (swapped_twice f, swapped_twice x) refl
  swapped_twice (abs s x) = ap (abs s) (swapped_twice x)

  opened_by : (c : Bool) (n : ℕ) (x : List ℕ) (s : Typ) → swapped (cond c (free x s) (bound n)) ≡ cond c (free (turned x) s) (bound n)
  opened_by true n x s = refl
  opened_by false n x s = refl

  pub swapped_opened : (x : List ℕ) (s : Typ) (at : ℕ) (t : Tm) → swapped (opened at (free x s) t) ≡ opened at (free (turned x) s) (swapped t)
  swapped_opened x s at (bound n) = opened_by (n == at) n x s
  swapped_opened x s at (free y u) = refl
  swapped_opened x s at (constant y u) = refl
  swapped_opened x s at (app f y) = rw (swapped_opened x s at f, swapped_opened x s at y) refl
  swapped_opened x s at (abs u y) = ap (abs u) (swapped_opened x s (at + 1) y)

  closed_by : (c : Bool) (at : ℕ) (y : List ℕ) (u : Typ) → swapped (cond c (bound at) (free y u)) ≡ cond c (bound at) (free (turned y) u)
  closed_by true at y u = refl
  closed_by false at y u = refl

  pub swapped_closed : (x : List ℕ) (s : Typ) (at : ℕ) (t : Tm) → swapped (closed at x s t) ≡ closed at (turned x) s (swapped t)
  swapped_closed x s at (bound n) = refl
  swapped_closed x s at (free y u) = closed_by (bytes_eq y x && type_eq u s) at y u ∙ ap (λ (c : Bool). cond (c && type_eq u s) (bound at) (free (turned y) u)) (sym (turned_same y x))
  swapped_closed x s at (constant y u) = refl
  swapped_closed x s at (app f y) = rw (swapped_closed x s at f, swapped_closed x s at y) refl
  swapped_closed x s at (abs u y) = ap (abs u) (swapped_closed x s (at + 1) y)

  -- a term that has neither name
  pub swapped_apart : (t : Tm) → ((s : Typ) → occurs a s t ≡ false) → ((s : Typ) → occurs b s t ≡ false) → swapped t ≡ t
  swapped_apart (bound n) e f = refl
  swapped_apart (free x u) e f = ap (λ (y : List ℕ). free y u) (turned_other x (not_named x a u (e u)) (not_named x b u (f u)))
  swapped_apart (constant x u) e f = refl
  swapped_apart (app g x) e f =
      rw (
        swapped_apart g (λ s. (neither (occurs a s g) (occurs a s x) (e s)).0) (λ s. (neither (occurs b s g) (occurs b s x) (f s)).0),
        swapped_apart x (λ s. (neither (occurs a s g) (occurs a s x) (e s)).1) (λ s. (neither (occurs b s g) (occurs b s x) (f s)).1),
      ) refl
  swapped_apart (abs u x) e f = ap (abs u) (swapped_apart x e f)

  -- the names of an exchanged term
  pub swapped_names : (t : Tm) (x : List ℕ) → is_among (free_names (swapped t)) (turned x) ≡ is_among (free_names t) x
  swapped_names (bound n) x = refl
  swapped_names (free y s) x = ap (λ (c : Bool). c || false) (turned_same y x)
  swapped_names (constant y s) x = refl
  swapped_names (app f y) x =
      among_append (free_names (swapped f)) (free_names (swapped y)) (turned x)
      ∙ ap (λ (c : Bool). c || is_among (free_names (swapped y)) (turned x)) (swapped_names f x)
      ∙ ap (λ (c : Bool). is_among (free_names f) x || c) (swapped_names y x)
      ∙ sym (among_append (free_names f) (free_names y) x)
  swapped_names (abs s y) x = swapped_names y x

  pub swapped_type : (env : List Typ) (t : Tm) → type_under env (swapped t) ≡ type_under env t
  swapped_type env (bound n) = refl
  swapped_type env (free x s) = refl
  swapped_type env (constant x s) = refl
  swapped_type env (app f x) = rw (swapped_type env f, swapped_type env x) refl
  swapped_type env (abs s x) = rw (swapped_type (s ∷ env) x) refl

  -- the terms of pairs are exchanged, and their variables stay
  abbrev pub swapped_pairs : Triples → Triples
  swapped_pairs [] = []
  swapped_pairs (q ∷ qs) = (q.0, q.1, swapped q.2) ∷ swapped_pairs qs

  found_by : (c : Bool) (o p : Option Tm) (v : Tm) → p ≡ option_map swapped o → cond c (Some (swapped v)) p ≡ option_map swapped (cond c (Some v) o)
  found_by true o p v e = refl
  found_by false o p v e = e

  pub swapped_found : (qs : Triples) (x : List ℕ) (u : Typ) → found x u (swapped_pairs qs) ≡ option_map swapped (found x u qs)
  swapped_found [] x u = refl
  swapped_found (q ∷ qs) x u = found_by (bytes_eq q.0 x && type_eq q.1 u) (found x u qs) (found x u (swapped_pairs qs)) q.2 (swapped_found qs x u)

  placed_by : (o : Option Tm) (x : List ℕ) (u : Typ) → turned x ≡ x → or_else (option_map swapped o) (free x u) ≡ swapped (or_else o (free x u))
  placed_by None x u e = ap (λ (y : List ℕ). free y u) (sym e)
  placed_by (Some v) x u e = refl

  -- in a term that has neither name
  pub swapped_replaced : (qs : Triples) (t : Tm) → is_among (free_names t) a ≡ false → is_among (free_names t) b ≡ false → replaced (swapped_pairs qs) t ≡ swapped (replaced qs t)
  swapped_replaced qs (bound n) e f = refl
  swapped_replaced qs (free x u) e f =
      ap (λ (o : Option Tm). or_else o (free x u)) (swapped_found qs x u)
      ∙ placed_by (found x u qs) x u (turned_other x (neither (bytes_eq x a) false e).0 (neither (bytes_eq x b) false f).0)
  swapped_replaced qs (constant x u) e f = refl
  swapped_replaced qs (app g x) e f =
      let p = neither (is_among (free_names g) a) (is_among (free_names x) a) (sym (among_append (free_names g) (free_names x) a) ∙ e) in
      let q = neither (is_among (free_names g) b) (is_among (free_names x) b) (sym (among_append (free_names g) (free_names x) b) ∙ f) in
      rw (swapped_replaced qs g p.0 q.0, swapped_replaced qs x p.1 q.1) refl
  swapped_replaced qs (abs s x) e f = ap (abs s) (swapped_replaced qs x e f)
