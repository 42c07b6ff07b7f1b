-- A split keeps the types of patterns, and that no variable stands twice.
use Rattle.std.proofs.Common.{◌≡◌, ℕ, Bool, true, false, cond, ◌&&◌, ◌||◌, List, [], ◌∷◌, refl, sym}
use Rattle.std.specs.Prelude.{Option, Some, None, map}
use Rattle.std.specs.Str.{bytes_eq}
use Rattle.std.proofs.lemmas.Slice.Eq.{bytes_eq-Decides}
use Rattle.fp_term.specs.Types.{Typ, type_eq}
use Rattle.fp_term.specs.Terms.{Tm, bound, free, constant, app, abs, or_else, replaced}
use Rattle.fp_term.specs.Variables.{is_among}
use Rattle.fp_term.specs.declared.signature.Signature.{Signature}
use Rattle.fp_term.proofs.Equal.{type_eq-decides}
use Rattle.fp_group.specs.declared.constructors.ConTable.{ConTable}
use Rattle.fp_group.specs.declared.clause.Clause.{Clause}
use Rattle.fp_pattern.specs.Patterns.{constructors}
use Rattle.fp_pattern.specs.Subtraction.{mentions, any_mentions, occurs, numbered, is_variable_of, IsFilled, full, one_more, IsPart, AreParts, no_more, unfit, fit}
use Rattle.fp_pattern.specs.Values.{IsPatternOf, a_variable, a_constructor, TakesPatterns, ended, one_taken, ArePatternsOf, no_patterns, and_pattern, has, any_has, IsLinear, AreLinear, IsFine, AreFine}
use Rattle.fp_pattern.proofs.Matching.{and_parts, or_parts, or_cases, or_true}

pub is_that : (x a : List ℕ) (s t : Typ) → (bytes_eq x a && type_eq s t) ≡ true → (x ≡ a) × (s ≡ t)
is_that x a s t e = let p = and_parts (bytes_eq x a) (type_eq s t) e in ((bytes_eq-Decides x a).0 p.0, (type_eq-decides s t).0 p.1)

true_or : (a b : Bool) → a ≡ true → (a || b) ≡ true
true_or a b e = rw e refl

or_second : (a b : Bool) → b ≡ true → (a || b) ≡ true
or_second a b e = rw e (or_true a)

pub both_ways : (b : Bool) → b ≡ true → b ≡ false → ⊥
both_ways b e f = cc

-- a variable of a pattern is named in it
has_named : (x : List ℕ) (s : Typ) (p : Tm) → has x s p ≡ true → is_variable_of p x ≡ true
has_named x s (free a t) e = (bytes_eq-Decides a x).1 (sym (is_that x a s t e).0)
has_named x s (app f y) e = or_cases (has x s f) (has x s y) _ (λ h. true_or (is_variable_of f x) (is_variable_of y x) (has_named x s f h)) (λ h. or_second (is_variable_of f x) (is_variable_of y x) (has_named x s y h)) e
has_named x s _ e = cc

has_mentioned : (x : List ℕ) (s : Typ) (p : Tm) → has x s p ≡ true → mentions p x ≡ true
has_mentioned x s (free a t) e = (bytes_eq-Decides a x).1 (sym (is_that x a s t e).0)
has_mentioned x s (app f y) e = or_cases (has x s f) (has x s y) _ (λ h. true_or (mentions f x) (mentions y x) (has_mentioned x s f h)) (λ h. or_second (mentions f x) (mentions y x) (has_mentioned x s y h)) e
has_mentioned x s _ e = cc

any_mentioned : (x : List ℕ) (s : Typ) (ps : List Tm) → any_has x s ps ≡ true → any_mentions ps x ≡ true
any_mentioned x s [] e = cc
any_mentioned x s (p ∷ ps) e = or_cases (has x s p) (any_has x s ps) _ (λ h. true_or (mentions p x) (any_mentions ps x) (has_mentioned x s p h)) (λ h. or_second (mentions p x) (any_mentions ps x) (any_mentioned x s ps h)) e

-- the variables of a term are new to the clause
abbrev IsNewTo : List ℕ → Clause → Tm → Type 0
IsNewTo f c u = (y : List ℕ) (s : Typ) → has y s u ≡ true → occurs f c y ≡ false

filled_new : (f : List ℕ) (c : Clause) (head : Tm) (s : Typ) (u : Tm) → IsFilled f c head s u → IsLinear head → IsNewTo f c head → IsLinear u × IsNewTo f c u
filled_new f c _ _ _ (full head s off) l new = (l, new)
filled_new f c _ _ _ (one_more n head s a b u is first more) l new =
    let o = or_parts (occurs f c (numbered n)) (is_variable_of head (numbered n)) first.new in
    filled_new f c (app head (free (numbered n) a)) b u more
    (l, (tt, λ y t h k. let e = (is_that y (numbered n) t a k).0 in both_ways (is_variable_of head (numbered n)) (rw e at (has_named y t head h)) o.1))
    (λ y t h. or_cases (has y t head) (has y t (free (numbered n) a)) _ (new y t) (λ k. rw (is_that y (numbered n) t a k).0 o.0) h)

not_in_clause : (f : List ℕ) (c : Clause) (u : Tm) → IsNewTo f c u → (y : List ℕ) (s : Typ) → has y s u ≡ true → any_has y s c.patterns ≡ true → ⊥
not_in_clause f c u new y s h k =
    let o = or_parts (bytes_eq f y || any_mentions c.patterns y) (mentions c.right y) (new y s h) in
    both_ways (any_mentions c.patterns y) (any_mentioned y s c.patterns k) (or_parts (bytes_eq f y) (any_mentions c.patterns y) o.0).1

module _ (x : List ℕ) (t : Typ) (u : Tm) where
  abbrev put : Tm → Tm
  put p = replaced ((x, t, u) ∷ []) p

  chosen_has : (b : Bool) (y : List ℕ) (s : Typ) (a : List ℕ) (v : Typ) (P : Type 0) → (has y s (free a v) ≡ true → P) → (b ≡ true → has y s u ≡ true → P) → has y s (or_else (cond {A = Option Tm} b (Some u) None) (free a v)) ≡ true → P
  chosen_has true y s a v P f g e = g refl e
  chosen_has false y s a v P f g e = f e

  -- a variable of the replaced pattern is one of the pattern, or of what was put in
  put_has : (y : List ℕ) (s : Typ) (p : Tm) (P : Type 0) → (has y s p ≡ true → P) → (has x t p ≡ true → has y s u ≡ true → P) → has y s (put p) ≡ true → P
  put_has y s (free a v) P f g e = chosen_has (bytes_eq x a && type_eq t v) y s a v P f g e
  put_has y s (app h z) P f g e =
      or_cases (has y s (put h)) (has y s (put z)) P
      (put_has y s h P (λ i. f (true_or (has y s h) (has y s z) i)) (λ i. g (true_or (has x t h) (has x t z) i)))
      (put_has y s z P (λ i. f (or_second (has y s h) (has y s z) i)) (λ i. g (or_second (has x t h) (has x t z) i))) e
  put_has y s (bound n) P f g e = cc
  put_has y s (constant a v) P f g e = cc
  put_has y s (abs v z) P f g e = cc

  put_any_has : (y : List ℕ) (s : Typ) (ps : List Tm) (P : Type 0) → (any_has y s ps ≡ true → P) → (any_has x t ps ≡ true → has y s u ≡ true → P) → any_has y s (map (replaced ((x, t, u) ∷ [])) ps) ≡ true → P
  put_any_has y s [] P f g e = cc
  put_any_has y s (p ∷ ps) P f g e =
      or_cases (has y s (put p)) (any_has y s (map (replaced ((x, t, u) ∷ [])) ps)) P
      (put_has y s p P (λ i. f (true_or (has y s p) (any_has y s ps) i)) (λ i. g (true_or (has x t p) (any_has x t ps) i)))
      (put_any_has y s ps P (λ i. f (or_second (has y s p) (any_has y s ps) i)) (λ i. g (or_second (has x t p) (any_has x t ps) i))) e

  chosen_linear : (b : Bool) (a : List ℕ) (v : Typ) → IsLinear u → IsLinear (or_else (cond {A = Option Tm} b (Some u) None) (free a v))
  chosen_linear true a v l = l
  chosen_linear false a v l = tt

  module _ (own : IsLinear u) where
    put_linear : (p : Tm) → IsLinear p → ((y : List ℕ) (s : Typ) → has y s u ≡ true → has y s p ≡ true → ⊥) → IsLinear (put p)
    put_linear (free a v) l new = chosen_linear (bytes_eq x a && type_eq t v) a v own
    put_linear (app h z) l new = (
      put_linear h l.0 (λ y s i j. new y s i (true_or (has y s h) (has y s z) j)),
      (
        put_linear z l.1.0 (λ y s i j. new y s i (or_second (has y s h) (has y s z) j)),
        λ y s i j.
            put_has y s h ⊥
            (λ k. put_has y s z ⊥ (λ m. l.1.1 y s k m) (λ _ m. new y s m (true_or (has y s h) (has y s z) k)) j)
            (λ k m. put_has y s z ⊥ (λ n. new y s m (or_second (has y s h) (has y s z) n)) (λ n _. l.1.1 x t k n) j) i,
      ),
    )
    put_linear (bound n) l new = tt
    put_linear (constant a v) l new = tt
    put_linear (abs v z) l new = tt

    put_all_linear : (ps : List Tm) → AreLinear ps → ((y : List ℕ) (s : Typ) → has y s u ≡ true → any_has y s ps ≡ true → ⊥) → AreLinear (map (replaced ((x, t, u) ∷ [])) ps)
    put_all_linear [] l new = tt
    put_all_linear (p ∷ ps) l new = (
      put_linear p l.0 (λ y s i j. new y s i (true_or (has y s p) (any_has y s ps) j)),
      (
        put_all_linear ps l.1.0 (λ y s i j. new y s i (or_second (has y s p) (any_has y s ps) j)),
        λ y s i j.
            put_has y s p ⊥
            (λ k. put_any_has y s ps ⊥ (λ m. l.1.1 y s k m) (λ _ m. new y s m (true_or (has y s p) (any_has y s ps) k)) j)
            (λ k m. put_any_has y s ps ⊥ (λ n. new y s m (or_second (has y s p) (any_has y s ps) n)) (λ n _. l.1.1 x t k n) j) i,
      ),
    )

  module _ (table : ConTable) (sig : Signature) (of : IsPatternOf table sig t u) where
    chosen_typed : (b : Bool) (a : List ℕ) (s : Typ) → (b ≡ true → t ≡ s) → IsPatternOf table sig s (or_else (cond {A = Option Tm} b (Some u) None) (free a s))
    chosen_typed true a s e = rw (← e refl) of
    chosen_typed false a s e = a_variable s a

    mutual
      put_typed : (s : Typ) (p : Tm) → IsPatternOf table sig s p → IsPatternOf table sig s (put p)
      put_typed _ _ (a_variable s a) = chosen_typed (bytes_eq x a && type_eq t s) a s (λ e. (is_that x a t s e).1)
      put_typed _ _ (a_constructor s con type p some is more) = a_constructor s con type (put p) some is (put_takes type (constant con type) p more)

      put_takes : (type : Typ) (head p : Tm) → TakesPatterns table sig type head p → TakesPatterns table sig type (put head) (put p)
      put_takes _ _ _ (ended type head off) = ended type (put head) off
      put_takes _ _ _ (one_taken type a b head z p is one more) = one_taken type a b (put head) (put z) (put p) is (put_typed a z one) (put_takes b (app head z) p more)

    put_all_typed : (ss : List Typ) (ps : List Tm) → ArePatternsOf table sig ss ps → ArePatternsOf table sig ss (map (replaced ((x, t, u) ∷ [])) ps)
    put_all_typed _ _ no_patterns = no_patterns
    put_all_typed _ _ (and_pattern s ss p ps one more) = and_pattern s ss (put p) (map (replaced ((x, t, u) ∷ [])) ps) (put_typed s p one) (put_all_typed ss ps more)

module _ (table : ConTable) (sig : Signature) where
  filled_takes : (f : List ℕ) (c : Clause) (head : Tm) (s : Typ) (u : Tm) → IsFilled f c head s u → TakesPatterns table sig s head u
  filled_takes f c _ _ _ (full head s off) = ended s head off
  filled_takes f c _ _ _ (one_more n head s a b u is first more) = one_taken s a b head (free (numbered n) a) u is (a_variable a (numbered n)) (filled_takes f c (app head (free (numbered n) a)) b u more)

  module _ (f : List ℕ) (ss : List Typ) where
    part_fine : (c : Clause) (x : List ℕ) (t : Typ) (con : List ℕ) (part : Clause) → is_among (constructors table t) con ≡ true → IsFine table sig ss c → IsPart sig f c x t con part → IsFine table sig ss part
    part_fine c x t con part some fine is =
        let new = filled_new f c (constant con is.type) is.type is.value is.filled tt (λ y s h. cc) in
        let of : IsPatternOf table sig t is.value = a_constructor t con is.type is.value some is.typed (filled_takes f c (constant con is.type) is.type is.value is.filled) in
        let typed = put_all_typed x t is.value table sig of ss c.patterns fine.typed in
        let linear = put_all_linear x t is.value new.0 c.patterns fine.linear (not_in_clause f c is.value new.1) in
        rw is.is (record { typed = typed; linear = linear })

    -- all of the names are among the constructors
    abbrev pub Within : Typ → List (List ℕ) → Type 0
    Within t cons = (con : List ℕ) → is_among cons con ≡ true → is_among (constructors table t) con ≡ true

    pub parts_fine : (c : Clause) (x : List ℕ) (t : Typ) (cons : List (List ℕ)) (parts : List Clause) → Within t cons → IsFine table sig ss c → AreParts sig f c x t cons parts → AreFine table sig ss parts
    parts_fine c x t _ _ within fine no_more = tt
    parts_fine c x t _ _ within fine (unfit con cons parts off more) = parts_fine c x t cons parts (λ k h. within k (or_second (bytes_eq con k) (is_among cons k) h)) fine more
    parts_fine c x t _ _ within fine (fit con cons part parts is more) = (
      part_fine c x t con part (within con (true_or (bytes_eq con con) (is_among cons con) ((bytes_eq-Decides con con).1 refl))) fine is,
      parts_fine c x t cons parts (λ k h. within k (or_second (bytes_eq con k) (is_among cons k) h)) fine more,
    )
