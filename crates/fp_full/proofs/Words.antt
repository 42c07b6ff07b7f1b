-- The words that a state takes, and their fronts.
use Rattle.std.proofs.Common.{◌≡◌, ◌∙◌, ◌<◌, ◌≤◌, ◌+◌, ◌-◌, ◌*◌, ◌^◌, ℕ, suc, List, [], ◌∷◌, ◌++◌, length, drop, Bool, true, false, not, cond, ◌&&◌, ◌||◌, ◌==◌, Some, None, nat_lt, refl, sym, subst, codes, arith, true≢false, append-nil, length-append, ltb-true, lt-ltb, ne_eqb}
use Rattle.std.specs.Str.{bytes_eq, all_ascii_digits}
use Rattle.std.specs.List.{list_all}
use Rattle.std.proofs.lemmas.Option.{none-some}
use Rattle.std.proofs.lemmas.Bool.Decides.{Decides-eqb}
use Rattle.std.proofs.lemmas.List.Folds.{list_all-append}
use Rattle.std.proofs.lemmas.Slice.Eq.{bytes_eq-Decides, starts_is}
use Rattle.fp_term.specs.Names.{is_part_byte, is_name}
use Rattle.fp_full.specs.Tokens.{word}
use Rattle.fp_full.specs.Grammar.{Entry, is_reserved}
use Rattle.fp_full.specs.Machine.{Nest, Use, Partial, State, form_due, number_due, free_name_due, constant_name_due, type_due, type_name_due, s_due, h_due, entry_due, entry_name_due, variable_word, form_word, read_on, is_plain, is_numeral, is_variable_front, is_form, could, step}
use Rattle.fp_full.proofs.Steps.{IsWord}
use Rattle.fp_full.proofs.Tests.{both, and_intro, or_by, passed, passes}

-- the five forms
form_found : (p q r s t : Bool) (u v w x y : State) → (p || q || r || s || t) ≡ true → (next : State) × (cond p (Some u) (cond q (Some v) (cond r (Some w) (cond s (Some x) (cond t (Some y) None)))) ≡ Some next)
form_found true q r s t u v w x y e = (u, refl)
form_found false true r s t u v w x y e = (v, refl)
form_found false false true s t u v w x y e = (w, refl)
form_found false false false true t u v w x y e = (x, refl)
form_found false false false false true u v w x y e = (y, refl)
form_found false false false false false u v w x y e = absurd (true≢false (sym e))

form_passed : (p q r s t : Bool) (u v w x y next : State) → cond p (Some u) (cond q (Some v) (cond r (Some w) (cond s (Some x) (cond t (Some y) None)))) ≡ Some next → (p || q || r || s || t) ≡ true
form_passed true q r s t u v w x y n e = refl
form_passed false true r s t u v w x y n e = refl
form_passed false false true s t u v w x y n e = refl
form_passed false false false true t u v w x y n e = refl
form_passed false false false false true u v w x y n e = refl
form_passed false false false false false u v w x y n e = absurd (none-some n e)

-- a front of a name, and of a numeral
all_front : (p : ℕ → Bool) (xs ys : List ℕ) → list_all p (xs ++ ys) ≡ true → list_all p xs ≡ true
all_front p xs ys e = (both (list_all p xs) (list_all p ys) (sym (list_all-append p xs ys) ∙ e)).0

all_rest : (p : ℕ → Bool) (xs ys : List ℕ) → list_all p (xs ++ ys) ≡ true → list_all p ys ≡ true
all_rest p xs ys e = (both (list_all p xs) (list_all p ys) (sym (list_all-append p xs ys) ∙ e)).1

name_parts : (w : List ℕ) → is_name w ≡ true → list_all is_part_byte w ≡ true
unfolding is_name
name_parts w e = (both _ (list_all is_part_byte w) e).1

not_empty : (n : ℕ) → not (suc n == 0) ≡ true
not_empty n = rw (ne_eqb (suc n) 0 (λ e. absurd (omega arith))) refl

short_front : (w m : List ℕ) (n : ℕ) → nat_lt (suc (length (w ++ m))) n ≡ true → nat_lt (suc (length w)) n ≡ true
short_front w m n e = let h : suc (length (w ++ m)) < n = ltb-true _ _ e in lt-ltb _ _ (omega (arith, length-append w m))

name_front : (b : ℕ) (w m : List ℕ) → is_name (b ∷ (w ++ m)) ≡ true → is_name (b ∷ w) ≡ true
unfolding is_name
name_front b w m e =
    let p = both _ (list_all is_part_byte (b ∷ (w ++ m))) e in
    let q = both _ _ p.0 in
    let r = both _ _ q.0 in
    and_intro _ _ (and_intro _ _ (and_intro _ _ (not_empty (length w)) (short_front w m 161 r.1)) q.1) (all_front is_part_byte (b ∷ w) m p.1)

digits_front : (w m : List ℕ) → all_ascii_digits (w ++ m) ≡ true → all_ascii_digits w ≡ true
digits_front [] m e = refl
digits_front (c ∷ w) m e = let p = both _ (all_ascii_digits (w ++ m)) e in and_intro _ _ p.0 (digits_front w m p.1)

read_grows : (n : ℕ) (m : List ℕ) → n ≤ read_on n m
read_grows n [] = omega arith
read_grows n (c ∷ m) = let h : 10 * n + (c - 48) ≤ read_on (10 * n + (c - 48)) m = read_grows (10 * n + (c - 48)) m in omega arith

read_front : (n : ℕ) (w m : List ℕ) → read_on n w ≤ read_on n (w ++ m)
read_front n [] m = read_grows n m
read_front n (c ∷ w) m = read_front (10 * n + (c - 48)) w m

small_front : (w m : List ℕ) (n : ℕ) → nat_lt (read_on 0 (w ++ m)) n ≡ true → nat_lt (read_on 0 w) n ≡ true
small_front w m n e = let h : read_on 0 (w ++ m) < n = ltb-true _ _ e in lt-ltb _ _ (omega (arith, read_front 0 w m))

plain_front : (b : ℕ) (w m : List ℕ) → is_plain (b ∷ (w ++ m)) ≡ true → is_plain (b ∷ w) ≡ true
plain_front b [] m e = refl
plain_front b (c ∷ w) m e = e

numeral_front : (b : ℕ) (w m : List ℕ) → is_numeral (b ∷ (w ++ m)) ≡ true → is_numeral (b ∷ w) ≡ true
numeral_front b w m e =
    let p = both (is_plain (b ∷ (w ++ m)) && all_ascii_digits (b ∷ (w ++ m))) (nat_lt (read_on 0 (b ∷ (w ++ m))) (2 ^ 32)) e in
    let q = both (is_plain (b ∷ (w ++ m))) (all_ascii_digits (b ∷ (w ++ m))) p.0 in
    and_intro _ _ (and_intro _ _ (plain_front b w m q.0) (digits_front (b ∷ w) m q.1)) (small_front (b ∷ w) m (2 ^ 32) p.1)

form_front : (b : ℕ) (w m : List ℕ) (nest : Nest) (next : State) → form_word (b ∷ (w ++ m)) nest ≡ Some next → is_form (b ∷ w) ≡ true
form_front b [] [] nest next e = form_passed (b == 98) (b == 118) (b == 99) (b == 97) (b == 108) _ _ _ _ _ next e
form_front b [] (c ∷ m) nest next e = absurd (none-some next e)
form_front b (c ∷ w) m nest next e = absurd (none-some next e)

variable_front : (b : ℕ) (w m : List ℕ) (role : Use) (ps : List Partial) (nest : Nest) (next : State) → variable_word (b ∷ (w ++ m)) role ps nest ≡ Some next → is_variable_front (b ∷ w) ≡ true
variable_front b [] m role ps nest next e = (both (b == 39) (is_name m) (passes _ _ next e)).0
variable_front b (c ∷ w) m role ps nest next e =
    let p = both (b == 39) (is_name (c ∷ (w ++ m))) (passes _ _ next e) in and_intro _ _ p.0 (name_front c w m p.1)

-- a front of a word of one byte
letter_front : (k b : ℕ) (w m : List ℕ) → bytes_eq (b ∷ (w ++ m)) (k ∷ []) ≡ true → bytes_eq (b ∷ w) (k ∷ []) ≡ true
letter_front k b [] m e = and_intro (b == k) true (both (b == k) (bytes_eq m []) e).0 refl
letter_front k b (c ∷ w) m e = absurd (true≢false (sym (both (b == k) false e).1))

definition_front : (w m : List ℕ) → bytes_eq (w ++ m) (codes "definition") ≡ true → could (entry_due []) w ≡ true
unfolding could
definition_front w m e = (starts_is Decides-eqb (codes "definition") w _ refl).1 m (sym ((bytes_eq-Decides (w ++ m) (codes "definition")).0 e))

-- what is at the front of a word that is taken could come
pub fronted : (s : State) (b : ℕ) (w m : List ℕ) (at : ℕ) (next : State) → step s (word ((b ∷ w) ++ m)) at ≡ Some next → could s (b ∷ w) ≡ true
unfolding step could
fronted (form_due nest) b w m at next e = form_front b w m nest next e
fronted (number_due nest) b w m at next e = numeral_front b w m (passes _ _ next e)
fronted (free_name_due nest) b w m at next e = name_front b w m (passes _ _ next e)
fronted (constant_name_due nest) b w m at next e = name_front b w m (passes _ _ next e)
fronted (type_due role ps nest) b w m at next e = variable_front b w m role ps nest next e
fronted (type_name_due role ps nest) b w m at next e = name_front b w m (passes _ _ next e)
fronted s_due b w m at next e = letter_front 115 b w m (passes _ _ next e)
fronted h_due b w m at next e = letter_front 104 b w m (passes _ _ next e)
fronted (entry_due es) b w m at next e = definition_front (b ∷ w) m (passes _ _ next e)
fronted (entry_name_due es first) b w m at next e = name_front b w m (both _ (not (is_reserved (b ∷ (w ++ m)))) (passes _ _ next e)).0
fronted _ b w m at next e = absurd (none-some next e)

-- a word that is taken has a byte, and only letters, digits, `_` and `'`
parts_at : (b k : ℕ) → is_part_byte k ≡ true → (b == k) ≡ true → is_part_byte b ≡ true
parts_at b k p e = subst (λ x. is_part_byte x ≡ true) (sym ((Decides-eqb b k).0 e)) p

form_part : (b : ℕ) → is_form (b ∷ []) ≡ true → is_part_byte b ≡ true
form_part b e =
    or_by _ (b == 108) _ e (λ e. or_by _ (b == 97) _ e (λ e. or_by _ (b == 99) _ e (λ e. or_by (b == 98) (b == 118) _ e (parts_at b 98 refl) (parts_at b 118 refl))
    (parts_at b 99 refl)) (parts_at b 97 refl)) (parts_at b 108 refl)

form_worded : (w : List ℕ) (nest : Nest) (next : State) → form_word w nest ≡ Some next → IsWord w
form_worded [] nest next e = absurd (none-some next e)
form_worded (b ∷ []) nest next e = and_intro _ _ (form_part b (form_front b [] [] nest next e)) refl
form_worded (b ∷ c ∷ w) nest next e = absurd (none-some next e)

digit_parts : (w : List ℕ) → all_ascii_digits w ≡ true → list_all is_part_byte w ≡ true
digit_parts [] e = refl
digit_parts (c ∷ w) e = let p = both _ (all_ascii_digits w) e in and_intro _ _ (rw p.0 refl) (digit_parts w p.1)

numeral_worded : (w : List ℕ) → is_numeral w ≡ true → IsWord w
numeral_worded [] e = absurd (true≢false (sym e))
numeral_worded (b ∷ w) e = digit_parts (b ∷ w) (both (is_plain (b ∷ w)) (all_ascii_digits (b ∷ w)) (both _ (nat_lt (read_on 0 (b ∷ w)) (2 ^ 32)) e).0).1

name_worded : (w : List ℕ) → is_name w ≡ true → IsWord w
unfolding is_name
name_worded [] e = absurd (true≢false (sym e))
name_worded (b ∷ w) e = name_parts (b ∷ w) e

variable_worded : (w : List ℕ) (role : Use) (ps : List Partial) (nest : Nest) (next : State) → variable_word w role ps nest ≡ Some next → IsWord w
variable_worded [] role ps nest next e = absurd (none-some next e)
variable_worded (b ∷ w) role ps nest next e =
    let p = both (b == 39) (is_name w) (passes _ _ next e) in and_intro _ _ (parts_at b 39 refl p.0) (name_parts w p.1)

known_worded : (w v : List ℕ) → IsWord v → bytes_eq w v ≡ true → IsWord w
known_worded w v p e = subst IsWord (sym ((bytes_eq-Decides w v).0 e)) p

pub worded : (s : State) (w : List ℕ) (at : ℕ) (next : State) → step s (word w) at ≡ Some next → IsWord w
unfolding step
worded (form_due nest) w at next e = form_worded w nest next e
worded (number_due nest) w at next e = numeral_worded w (passes _ _ next e)
worded (free_name_due nest) w at next e = name_worded w (passes _ _ next e)
worded (constant_name_due nest) w at next e = name_worded w (passes _ _ next e)
worded (type_due role ps nest) w at next e = variable_worded w role ps nest next e
worded (type_name_due role ps nest) w at next e = name_worded w (passes _ _ next e)
worded s_due w at next e = known_worded w (codes "s") refl (passes _ _ next e)
worded h_due w at next e = known_worded w (codes "h") refl (passes _ _ next e)
worded (entry_due es) w at next e = known_worded w (codes "definition") refl (passes _ _ next e)
worded (entry_name_due es first) w at next e = name_worded w (both _ (not (is_reserved w)) (passes _ _ next e)).0
worded _ w at next e = absurd (none-some next e)

-- a word that is taken begins with w
pub record Extends (s : State) (w : List ℕ) (at : ℕ) : Type 0 where
  pub further : List ℕ
  pub next : State
  pub parts : list_all is_part_byte further ≡ true
  pub taken : step s (word (w ++ further)) at ≡ Some next

whole : (s : State) (w : List ℕ) (at : ℕ) (next : State) → step s (word w) at ≡ Some next → Extends s w at
whole s w at next e = record { further = []; next = next; parts = refl; taken = rw append-nil e }

form_extended : (w : List ℕ) (nest : Nest) (at : ℕ) → is_form w ≡ true → Extends (form_due nest) w at
unfolding step
form_extended [] nest at e = absurd (true≢false (sym e))
form_extended (b ∷ []) nest at e = let f = form_found (b == 98) (b == 118) (b == 99) (b == 97) (b == 108) _ _ _ _ _ e in whole (form_due nest) (b ∷ []) at f.0 f.1
form_extended (b ∷ c ∷ w) nest at e = absurd (true≢false (sym e))

variable_extended : (w : List ℕ) (role : Use) (ps : List Partial) (nest : Nest) (at : ℕ) → is_variable_front w ≡ true → Extends (type_due role ps nest) w at
unfolding step is_name
variable_extended [] role ps nest at e = absurd (true≢false (sym e))
variable_extended (b ∷ []) role ps nest at e = record { further = 97 ∷ []; next = _; parts = refl; taken = passed (b == 39 && is_name (97 ∷ [])) _ (and_intro (b == 39) _ e refl) }
variable_extended (b ∷ c ∷ w) role ps nest at e = whole (type_due role ps nest) (b ∷ c ∷ w) at _ (passed (b == 39 && is_name (c ∷ w)) _ e)

definition_extended : (w : List ℕ) (es : List Entry) (at : ℕ) → could (entry_due es) w ≡ true → Extends (entry_due es) w at
unfolding step could
definition_extended w es at e =
    let rest : codes "definition" ≡ w ++ drop (length w) (codes "definition") = (starts_is Decides-eqb (codes "definition") w _ refl).0 e in
    record {
      further = drop (length w) (codes "definition");
      next = entry_name_due es at;
      parts = all_rest is_part_byte w _ (subst (λ x. list_all is_part_byte x ≡ true) rest refl);
      taken = passed _ _ ((bytes_eq-Decides _ (codes "definition")).1 (sym rest));
    }

-- a reserved word with `_` behind it is a name, and none that is reserved
abbrev is_free_longer : List ℕ → Bool
is_free_longer w = is_name (w ++ 95 ∷ []) && not (is_reserved (w ++ 95 ∷ []))

longer_at : (w v : List ℕ) → is_free_longer v ≡ true → bytes_eq w v ≡ true → is_free_longer w ≡ true
longer_at w v p e = subst (λ x. is_free_longer x ≡ true) (sym ((bytes_eq-Decides w v).0 e)) p

or_word : (w v : List ℕ) (b : Bool) → (b || bytes_eq w v) ≡ true → is_free_longer v ≡ true → (b ≡ true → is_free_longer w ≡ true) → is_free_longer w ≡ true
or_word w v b e p f = or_by b (bytes_eq w v) (is_free_longer w ≡ true) e f (longer_at w v p)

reserved_longer : (w : List ℕ) → is_reserved w ≡ true → is_free_longer w ≡ true
unfolding is_name
reserved_longer w e =
    or_word w (codes "else") _ e refl (λ e. or_word w (codes "then") _ e refl (λ e. or_word w (codes "if") _ e refl (λ e. or_word w (codes "by") _ e refl
    (λ e. or_word w (codes "rep") _ e refl (λ e. or_word w (codes "abs") _ e refl (λ e. or_word w (codes "end") _ e refl (λ e. or_word w (codes "proof") _ e refl
    (λ e. or_word w (codes "where") _ e refl (λ e. or_word w (codes "and") _ e refl (λ e. or_word w (codes "function") _ e refl (λ e. or_word w (codes "fun") _ e refl
    (λ e. or_word w (codes "measure") _ e refl (λ e. or_word w (codes "size") _ e refl (λ e. or_word w (codes "constructors") _ e refl (λ e. or_word w (codes "cong") _ e refl
    (λ e. or_word w (codes "simp") _ e refl (λ e. or_word w (codes "lemma") _ e refl (λ e. or_word w (codes "typedef") _ e refl (longer_at w (codes "definition") refl)))))))))))))))))))

entry_name_extended : (r : Bool) (w : List ℕ) (es : List Entry) (first at : ℕ) → is_reserved w ≡ r → is_name w ≡ true → Extends (entry_name_due es first) w at
unfolding step
entry_name_extended true w es first at r e = record { further = 95 ∷ []; next = _; parts = refl; taken = passed (is_free_longer w) _ (reserved_longer w r) }
entry_name_extended false w es first at r e = whole (entry_name_due es first) w at _ (passed (is_name w && not (is_reserved w)) _ (and_intro _ _ e (rw r refl)))

-- what could come is extended to a word that is taken
pub extended : (s : State) (w : List ℕ) (at : ℕ) → could s w ≡ true → Extends s w at
unfolding step could
extended (form_due nest) w at e = form_extended w nest at e
extended (number_due nest) w at e = whole (number_due nest) w at _ (passed (is_numeral w) _ e)
extended (free_name_due nest) w at e = whole (free_name_due nest) w at _ (passed (is_name w) _ e)
extended (constant_name_due nest) w at e = whole (constant_name_due nest) w at _ (passed (is_name w) _ e)
extended (type_due role ps nest) w at e = variable_extended w role ps nest at e
extended (type_name_due role ps nest) w at e = whole (type_name_due role ps nest) w at _ (passed (is_name w) _ e)
extended s_due w at e = whole s_due w at _ (passed (bytes_eq w (codes "s")) _ e)
extended h_due w at e = whole h_due w at _ (passed (bytes_eq w (codes "h")) _ e)
extended (entry_due es) w at e = definition_extended w es at e
extended (entry_name_due es first) w at e = entry_name_extended (is_reserved w) w es first at refl e
extended _ w at e = absurd (true≢false (sym e))
