-- A variable whose name is used nowhere.
use Rattle.std.proofs.Common.{◌≡◌, ◌∙◌, ℕ, Bool, true, false, cond, ◌&&◌, ◌||◌, List, [], ◌∷◌, map, refl, sym, ap}
use Rattle.std.specs.Prelude.{Some, None}
use Rattle.std.specs.Str.{bytes_eq}
use Rattle.std.proofs.lemmas.Bool.Decides.{Decides-and}
use Rattle.std.proofs.lemmas.Slice.Eq.{bytes_eq-Decides}
use Rattle.fp_term.specs.Types.{Typ, type_eq}
use Rattle.fp_term.specs.Terms.{Tm, bound, free, constant, app, abs, term_eq, or_else, replaced}
use Rattle.fp_term.specs.Variables.{is_among, free_names}
use Rattle.fp_term.proofs.Equal.{type_eq-decides, term_eq-decides}
use Rattle.fp_term.proofs.Search.{among_append}
use Rattle.fp_conclude.specs.Logic.{equal}
use Rattle.fp_conclude.specs.Hypotheses.{IsSet, member, without, all_replaced, occurs, occurs_in_any}
use Rattle.fp_conclude.proofs.Sets.{union_nothing}
use Rattle.fp_conv.specs.Outermost.{is_used}
use Rattle.fp_conv.proofs.Opening.{neither, itself}

pub apart_name : (b c : Bool) → (b || false) ≡ false → (b && c) ≡ false
apart_name true c e = cc
apart_name false c e = refl

-- what has no variable of the name has not the variable
pub named_apart : (name : List ℕ) (s : Typ) (t : Tm) → is_among (free_names t) name ≡ false → occurs name s t ≡ false
named_apart name s (bound n) e = refl
named_apart name s (free a u) e = apart_name (bytes_eq a name) (type_eq u s) e
named_apart name s (constant a u) e = refl
named_apart name s (app f x) e =
    let p = neither (is_among (free_names f) name) (is_among (free_names x) name) (sym (among_append (free_names f) (free_names x) name) ∙ e) in
    rw (named_apart name s f p.0, named_apart name s x p.1) refl
named_apart name s (abs u x) e = named_apart name s x e

any_apart : (name : List ℕ) (s : Typ) (ts : List Tm) → is_used name ts ≡ false → occurs_in_any name s ts ≡ false
any_apart name s [] e = refl
any_apart name s (t ∷ ts) e =
    let p = neither (is_among (free_names t) name) (is_used name ts) e in
    rw (named_apart name s t p.0, any_apart name s ts p.1) refl

module _ (name : List ℕ) (s : Typ) (t l r : Tm) (hyps : List Tm) (e : is_used name (t ∷ l ∷ r ∷ hyps) ≡ false) where
  pub unused_in_term : occurs name s t ≡ false
  unused_in_term = named_apart name s t (neither (is_among (free_names t) name) (is_used name (l ∷ r ∷ hyps)) e).0

  pub unused_in_hyps : occurs_in_any name s hyps ≡ false
  unused_in_hyps =
      let p = (neither (is_among (free_names t) name) (is_used name (l ∷ r ∷ hyps)) e).1 in
      let q = (neither (is_among (free_names l) name) (is_used name (r ∷ hyps)) p).1 in
      any_apart name s hyps (neither (is_among (free_names r) name) (is_used name hyps) q).1

-- what has the variable is none of the terms that haven't
module _ (name : List ℕ) (s : Typ) where
  differs_by : (b : Bool) (c h : Tm) → term_eq c h ≡ b → occurs name s c ≡ true → occurs name s h ≡ false → b ≡ false
  differs_by true c h e is no_occurrence = let same = (term_eq-decides c h).0 e in let f : occurs name s h ≡ true = rw same at is in cc
  differs_by false c h e is no_occurrence = refl

  pub not_member : (c : Tm) (hyps : List Tm) → occurs name s c ≡ true → occurs_in_any name s hyps ≡ false → member c hyps ≡ false
  not_member c [] is e = refl
  not_member c (h ∷ hyps) is e =
      let p = neither (occurs name s h) (occurs_in_any name s hyps) e in
      rw (differs_by (term_eq c h) c h refl is p.0) (not_member c hyps is p.1)

  -- the variable's equation with itself, and with a term in its place
  pub occurs_in_equation : (u : Typ) → occurs name s (equal u (free name s) (free name s)) ≡ true
  occurs_in_equation u = rw (itself name s) refl

  pub placed_in_equation : (by : Tm) (u : Typ) → replaced ((name, s, by) ∷ []) (equal u (free name s) (free name s)) ≡ equal u by by
  placed_in_equation by u = rw (itself name s) refl

  -- a term in place of the variable leaves what hasn't it as it is
  module _ (by : Tm) where
    unplaced : (b : Bool) (a : List ℕ) (u : Typ) → (bytes_eq name a && type_eq s u) ≡ b → (bytes_eq a name && type_eq u s) ≡ false → or_else (cond b (Some by) None) (free a u) ≡ free a u
    unplaced true a u e f =
        let d = (Decides-and (bytes_eq name a) (type_eq s u) (bytes_eq-Decides name a) (type_eq-decides s u)).0 e in
        let g : (bytes_eq a name && type_eq u s) ≡ true = (Decides-and (bytes_eq a name) (type_eq u s) (bytes_eq-Decides a name) (type_eq-decides u s)).1 (sym d.0, sym d.1) in
        cc
    unplaced false a u e f = refl

    replaced_apart : (t : Tm) → occurs name s t ≡ false → replaced ((name, s, by) ∷ []) t ≡ t
    replaced_apart (bound n) e = refl
    replaced_apart (free a u) e = unplaced (bytes_eq name a && type_eq s u) a u refl e
    replaced_apart (constant a u) e = refl
    replaced_apart (app f x) e =
        let p = neither (occurs name s f) (occurs name s x) e in
        rw (replaced_apart f p.0, replaced_apart x p.1) refl
    replaced_apart (abs u x) e = ap (abs u) (replaced_apart x e)

    map_apart : (hyps : List Tm) → occurs_in_any name s hyps ≡ false → map (replaced ((name, s, by) ∷ [])) hyps ≡ hyps
    map_apart [] e = refl
    map_apart (h ∷ hyps) e =
        let p = neither (occurs name s h) (occurs_in_any name s hyps) e in
        rw (replaced_apart h p.0, map_apart hyps p.1) refl

    pub all_apart : (hyps : List Tm) → occurs_in_any name s hyps ≡ false → IsSet hyps → all_replaced ((name, s, by) ∷ []) hyps ≡ hyps
    all_apart hyps e set = rw (map_apart hyps e) (union_nothing hyps set)

-- a list without what isn't in it
pub without_apart : (c : Tm) (hyps : List Tm) → member c hyps ≡ false → without c hyps ≡ hyps
without_apart c [] e = refl
without_apart c (h ∷ hyps) e =
    let p = neither (term_eq c h) (member c hyps) e in
    rw p.0 (ap (λ (more : List Tm). h ∷ more) (without_apart c hyps p.1))
