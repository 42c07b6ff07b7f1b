-- The tests of equality decide equality.
use Rattle.std.proofs.Common.{◌≡◌, ◌&&◌, refl, ap}
use Rattle.std.specs.Bool.{Decides}
use Rattle.std.specs.Str.{bytes_eq}
use Rattle.std.proofs.lemmas.Bool.Decides.{Decides-and, Decides-like, Decides-eqb}
use Rattle.std.proofs.lemmas.Slice.Eq.{bytes_eq-Decides}
use Rattle.fp_term.specs.Types.{Typ, Typs, variable, applied, none, more, type_eq, types_eq}
use Rattle.fp_term.specs.Terms.{Tm, bound, free, constant, app, abs, term_eq}

mutual
  pub type_eq-decides : (a b : Typ) → Decides (type_eq a b) (a ≡ b)
  type_eq-decides (variable a) (variable b) = let d = bytes_eq-Decides a b in ((λ h. ap variable (d.0 h)), (λ e. let f : a ≡ b = cc in d.1 f))
  type_eq-decides (variable a) (applied b ys) = ((λ h. cc), (λ e. cc))
  type_eq-decides (applied a xs) (variable b) = ((λ h. cc), (λ e. cc))
  type_eq-decides (applied a xs) (applied b ys) = Decides-like (bytes_eq a b && types_eq xs ys) (λ p. cc) (λ e. let f : a ≡ b = cc in let g : xs ≡ ys = cc in (f, g)) (Decides-and _ _ (bytes_eq-Decides a b) (types_eq-decides xs ys))

  pub types_eq-decides : (xs ys : Typs) → Decides (types_eq xs ys) (xs ≡ ys)
  types_eq-decides none none = ((λ h. refl), (λ e. refl))
  types_eq-decides none (more b ys) = ((λ h. cc), (λ e. cc))
  types_eq-decides (more a xs) none = ((λ h. cc), (λ e. cc))
  types_eq-decides (more a xs) (more b ys) = Decides-like (type_eq a b && types_eq xs ys) (λ p. cc) (λ e. let f : a ≡ b = cc in let g : xs ≡ ys = cc in (f, g)) (Decides-and _ _ (type_eq-decides a b) (types_eq-decides xs ys))

pub term_eq-decides : (a b : Tm) → Decides (term_eq a b) (a ≡ b)
term_eq-decides (bound n) (bound m) = let d = Decides-eqb n m in ((λ h. ap bound (d.0 h)), (λ e. let f : n ≡ m = cc in d.1 f))
term_eq-decides (free a s) (free b t) = Decides-like (bytes_eq a b && type_eq s t) (λ p. cc) (λ e. let f : a ≡ b = cc in let g : s ≡ t = cc in (f, g)) (Decides-and _ _ (bytes_eq-Decides a b) (type_eq-decides s t))
term_eq-decides (constant a s) (constant b t) = Decides-like (bytes_eq a b && type_eq s t) (λ p. cc) (λ e. let f : a ≡ b = cc in let g : s ≡ t = cc in (f, g)) (Decides-and _ _ (bytes_eq-Decides a b) (type_eq-decides s t))
term_eq-decides (app a s) (app b t) = Decides-like (term_eq a b && term_eq s t) (λ p. cc) (λ e. let f : a ≡ b = cc in let g : s ≡ t = cc in (f, g)) (Decides-and _ _ (term_eq-decides a b) (term_eq-decides s t))
term_eq-decides (abs a s) (abs b t) = Decides-like (type_eq a b && term_eq s t) (λ p. cc) (λ e. let f : a ≡ b = cc in let g : s ≡ t = cc in (f, g)) (Decides-and _ _ (type_eq-decides a b) (term_eq-decides s t))
term_eq-decides _ _ = ((λ h. cc), (λ e. cc))
