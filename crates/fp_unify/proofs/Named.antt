-- Names for the types of which nothing is known.
use Rattle.std.proofs.Common.{◌≡◌, ◌∙◌, ℕ, zero, suc, ◌+◌, ◌-◌, ◌/◌, ◌%◌, ◌^◌, ◌<◌, ◌≤◌, ◌==◌, Bool, true, false, cond, ◌||◌, List, [], ◌∷◌, ◌++◌, length, drop, get_or, refl, sym, ap, arith}
use Rattle.std.specs.Prelude.{Some, None, nat_lt}
use Rattle.std.specs.Str.{bytes_eq}
use Rattle.std.specs.Fmt.{decimal}
use Rattle.std.proofs.lemmas.Bool.Decides.{nat_tests, Decides-eqb, Decides-ltb}
use Rattle.std.proofs.lemmas.Option.{none-some, same_Some}
use Rattle.std.proofs.lemmas.Slice.Eq.{bytes_eq-Decides}
use Rattle.std.proofs.lemmas.Fmt.{decimal_nonempty, decimal_injective, digits_decimal, length-decimal-le}
use Rattle.fp_term.specs.Types.{Typ, Typs, variable, applied, none, more}
use Rattle.fp_term.specs.Variables.{is_among, type_names, all_type_names}
use Rattle.std.proofs.lemmas.List.{drop_more, get_or_read_under}
use Rattle.std.specs.List.{list_all}
use Rattle.std.specs.Bool.{IsTrue}
use Rattle.std.specs.Int.{IsInRange}
use Rattle.std.proofs.lemmas.Str.Parse.{IsDigitsTest, numerals_by_value}
use Rattle.fp_term.specs.Names.{is_name, is_start_byte, is_part_byte}
use Rattle.fp_unify.specs.Facts.{types_at, AllBelow}
use Rattle.fp_unify.specs.Cells.{cell, Fits, AreFine}
use Rattle.fp_unify.specs.Settled.{Determines}
use Rattle.fp_unify.specs.Nodes.{type_nodes, types_nodes}
use Rattle.fp_unify.specs.Candidates.{candidate, fresh_before, with_unwritten}
use Rattle.fp_unify.specs.Naming.{Pairs, name_of, names_of, Agrees, AreOwn, IsNamer, AreWritten, Within, AreWithin, Shows, ShowsAll, listed, Showing}
use Rattle.fp_unify.specs.declared.table.Shape.{Shape}
use Rattle.fp_unify.specs.declared.table.Shape.TheVariants.{Open, Var, Con}

-- no two candidates are equal
same_round : (a b : Bool) (m n : ℕ) → (m == 0) ≡ a → (n == 0) ≡ b → m < 2 ^ 64 → n < 2 ^ 64 → cond a [] (decimal m) ≡ cond b [] (decimal n) → m ≡ n
same_round true true m n p q h k e = grind (arith, nat_tests)
same_round true false m n p q h k e = absurd (let l = decimal_nonempty n k in let g : 0 ≡ length (decimal n) = ap length e in omega arith)
same_round false true m n p q h k e = absurd (let l = decimal_nonempty m h in let g : length (decimal m) ≡ 0 = ap length e in omega arith)
same_round false false m n p q h k e = decimal_injective m n h k e

same_place : (j k : ℕ) → j < 2 ^ 64 → k < 2 ^ 64 → candidate j ≡ candidate k → j ≡ k
same_place j k h l e =
    let letters : 97 + j % 26 ≡ 97 + k % 26 = cc in
    let numbers : cond (j / 26 == 0) [] (decimal (j / 26)) ≡ cond (k / 26 == 0) [] (decimal (k / 26)) = cc in
    let rounds = same_round (j / 26 == 0) (k / 26 == 0) (j / 26) (k / 26) refl refl (omega arith) (omega arith) numbers in
    omega arith

digit_part : (x : ℕ) → 48 ≤ x → x ≤ 57 → is_part_byte x ≡ true
digit_part x l h = grind (arith, nat_tests)

abbrev Digits : List ℕ → Type 0
Digits [] = Unit {0}
Digits (c ∷ cs) = IsInRange 48 57 c × Digits cs

are_digits : IsDigitsTest Digits
are_digits = record { empty = tt; parts = λ c cs h. h; more = λ c cs r h. (r, h) }

digits_parts : (xs : List ℕ) → Digits xs → list_all is_part_byte xs ≡ true
digits_parts [] h = refl
digits_parts (x ∷ xs) h = rw (digit_part x h.0.0 h.0.1) (digits_parts xs h.1)

letter_start : (k : ℕ) → is_start_byte (97 + k % 26) ≡ true
letter_start k = grind (arith, nat_tests)

letter_part : (k : ℕ) → is_part_byte (97 + k % 26) ≡ true
letter_part k = grind (arith, nat_tests)

some_false : (m n : ℕ) (r : Bool) → (m == n) ≡ r → (m ≡ n → ⊥) → r ≡ false
some_false m n true e ne = absurd (ne ((Decides-eqb m n).0 e))
some_false m n false e ne = refl

name_by : (x : ℕ) (b : Bool) (n : ℕ) → n < 2 ^ 32 → is_start_byte x ≡ true → is_part_byte x ≡ true → is_name (x ∷ cond b [] (decimal n)) ≡ true
unfolding is_name
name_by x true n small s p = rw (s, p) refl
name_by x false n small s p =
    let some : (length (x ∷ decimal n) == 0) ≡ false = some_false (length (x ∷ decimal n)) 0 (length (x ∷ decimal n) == 0) refl (λ bad. omega arith) in
    let fits : nat_lt (length (x ∷ decimal n)) 161 ≡ true = (Decides-ltb (length (x ∷ decimal n)) 161).1 (omega (arith, length-decimal-le 10 n (omega arith) (omega arith) (omega arith))) in
    rw (some, fits, s, p) (digits_parts (decimal n) (digits_decimal (numerals_by_value Digits are_digits) n (omega arith)))

pub candidate_is_name : (k : ℕ) (bytes slice : List ℕ) → k < 2 ^ 32 → bytes ≡ candidate k → slice ≡ bytes → IsTrue (is_name slice)
candidate_is_name k bytes slice small e f = let is : is_name (candidate k) ≡ true = name_by (97 + k % 26) (k / 26 == 0) (k / 26) (omega arith) (letter_start k) (letter_part k) in rw (f, e, is) refl

differ_by : (b a : List ℕ) (r : Bool) → bytes_eq b a ≡ r → (b ≡ a → ⊥) → r ≡ false
differ_by b a true e ne = absurd (ne ((bytes_eq-Decides b a).0 e))
differ_by b a false e ne = refl

among_push : (xs : List (List ℕ)) (y a : List ℕ) → is_among xs a ≡ false → bytes_eq y a ≡ false → is_among (xs ++ y ∷ []) a ≡ false
among_push [] y a h e = rw e refl
among_push (x ∷ xs) y a h e = elim (bytes_eq x a) as (λ r. (r || is_among xs a) ≡ false → (r || is_among (xs ++ y ∷ []) a) ≡ false) [ true ↦ λ f. f | false ↦ λ f. among_push xs y a f e ] h

fresh_by : (xs : List (List ℕ)) (y a : List ℕ) (b : Bool) → is_among xs a ≡ false → bytes_eq y a ≡ false → is_among (cond b xs (xs ++ y ∷ [])) a ≡ false
fresh_by xs y a true h e = h
fresh_by xs y a false h e = among_push xs y a h e

-- a candidate isn't among those before it
pub fresh_apart : (written : List (List ℕ)) (k j : ℕ) → k ≤ j → j < 2 ^ 64 → is_among (fresh_before written k) (candidate j) ≡ false
fresh_apart written zero j h l = refl
fresh_apart written (suc k) j h l =
    fresh_by (fresh_before written k) (candidate k) (candidate j) (is_among written (candidate k)) (fresh_apart written k j (omega arith) l)
    (differ_by (candidate k) (candidate j) (bytes_eq (candidate k) (candidate j)) refl (λ same. let e = same_place k j (omega arith) l same in omega arith))

pub fresh_unused : (written : List (List ℕ)) (from place : ℕ) (name : List ℕ) → fresh_before written place ≡ fresh_before written from → place < 2 ^ 32 → name ≡ candidate place → is_among (fresh_before written from) name ≡ false
fresh_unused written from place name e small is = rw (is, ← e) (fresh_apart written place place (omega arith) (omega arith))

pub fresh_skip : (written : List (List ℕ)) (k : ℕ) → is_among written (candidate k) ≡ true → fresh_before written (k + 1) ≡ fresh_before written k
fresh_skip written k e = let n : k + 1 ≡ suc k = omega arith in rw (n, e) refl

pub fresh_next : (written : List (List ℕ)) (k : ℕ) → is_among written (candidate k) ≡ false → fresh_before written (k + 1) ≡ fresh_before written k ++ candidate k ∷ []
fresh_next written k e = let n : k + 1 ≡ suc k = omega arith in rw (n, e) refl

pub with_append : (written known xs ys : List (List ℕ)) → with_unwritten written known (xs ++ ys) ≡ with_unwritten written (with_unwritten written known xs) ys
with_append written known [] ys = refl
with_append written known (a ∷ xs) ys = with_append written (cond (is_among written a || is_among known a) known (known ++ a ∷ [])) xs ys

-- a type that has a name
agrees_found : (v : ℕ → Typ) (i : ℕ) (a : List ℕ) (pairs : Pairs) → Some a ≡ name_of i pairs → Agrees v pairs → variable a ≡ v i
agrees_found v i a [] e h = absurd (none-some a (sym e))
agrees_found v i a (p ∷ pairs) e h =
    elim (p.0 == i) as (λ b. (p.0 == i) ≡ b → Some a ≡ cond b (Some p.1) (name_of i pairs) → variable a ≡ v i)
    [ true ↦ λ is f. ap variable (same_Some a p.1 f) ∙ sym h.0 ∙ ap v ((Decides-eqb p.0 i).0 is) | false ↦ λ is f. agrees_found v i a pairs f h.1 ] refl e

found_among : (i : ℕ) (a : List ℕ) (pairs : Pairs) → Some a ≡ name_of i pairs → is_among (names_of pairs) a ≡ true
found_among i a [] e = absurd (none-some a (sym e))
found_among i a (p ∷ pairs) e =
    elim (p.0 == i) as (λ b. Some a ≡ cond b (Some p.1) (name_of i pairs) → (bytes_eq p.1 a || is_among (names_of pairs) a) ≡ true)
    [ true ↦ λ f. rw ((bytes_eq-Decides p.1 a).1 (sym (same_Some a p.1 f))) refl | false ↦ λ f. rw (found_among i a pairs f) (elim (bytes_eq p.1 a) as (λ b. (b || true) ≡ true) [ true ↦ refl | false ↦ refl ]) ] e

pub shows_known : (cells : List Shape) (written : List (List ℕ)) (i : ℕ) (a : List ℕ) (pairs : Pairs) → Some a ≡ name_of i pairs → Shows cells written i pairs pairs (variable a)
shows_known cells written i a pairs e =
    record {
      later = λ v h. h;
      is = λ v f h. agrees_found v i a pairs e h;
      names = rw (found_among i a pairs e) (elim (is_among written a) as (λ b. names_of pairs ≡ cond (b || true) (names_of pairs) (names_of pairs ++ a ∷ [])) [ true ↦ refl | false ↦ refl ]);
    }

agrees_push : (v : ℕ → Typ) (i : ℕ) (a : List ℕ) (pairs : Pairs) → Agrees v (pairs ++ (i, a) ∷ []) → Agrees v pairs × (v i ≡ variable a)
agrees_push v i a [] h = (tt, h.0)
agrees_push v i a (p ∷ pairs) h = let r = agrees_push v i a pairs h.1 in ((h.0, r.0), r.1)

names_push : (i : ℕ) (a : List ℕ) (pairs : Pairs) → names_of (pairs ++ (i, a) ∷ []) ≡ names_of pairs ++ a ∷ []
names_push i a [] = refl
names_push i a (p ∷ pairs) = ap (λ r. p.1 ∷ r) (names_push i a pairs)

name_kept : (j i : ℕ) (a b : List ℕ) (pairs : Pairs) → name_of j pairs ≡ Some b → name_of j (pairs ++ (i, a) ∷ []) ≡ Some b
name_kept j i a b [] e = absurd (none-some b e)
name_kept j i a b (p ∷ pairs) e = elim (p.0 == j) as (λ r. cond r (Some p.1) (name_of j pairs) ≡ Some b → cond r (Some p.1) (name_of j (pairs ++ (i, a) ∷ [])) ≡ Some b) [ true ↦ λ f. f | false ↦ λ f. name_kept j i a b pairs f ] e

name_put : (i : ℕ) (a : List ℕ) (pairs : Pairs) → None ≡ name_of i pairs → name_of i (pairs ++ (i, a) ∷ []) ≡ Some a
name_put i a [] e = rw ((Decides-eqb i i).1 refl) refl
name_put i a (p ∷ pairs) e = elim (p.0 == i) as (λ r. None ≡ cond r (Some p.1) (name_of i pairs) → cond r (Some p.1) (name_of i (pairs ++ (i, a) ∷ [])) ≡ Some a) [ true ↦ λ f. absurd (none-some p.1 f) | false ↦ λ f. name_put i a pairs f ] e

module _ (cells : List Shape) (i : ℕ) (a : List ℕ) (all : Pairs) (o : cell cells i ≡ Open) (n : None ≡ name_of i all) where
  own_push : (some : Pairs) → AreOwn cells all some → AreOwn cells (all ++ (i, a) ∷ []) (some ++ (i, a) ∷ [])
  own_push [] h = (o, name_put i a all n, tt)
  own_push (p ∷ some) h = (h.0, name_kept p.0 i a p.1 all h.1, own_push some h.2)

pub namer_push : (cells : List Shape) (written : List (List ℕ)) (next later i : ℕ) (a : List ℕ) (old new : Pairs) → cell cells i ≡ Open → None ≡ name_of i old → IsNamer cells written next old → fresh_before written later ≡ fresh_before written next ++ a ∷ [] → new ≡ old ++ (i, a) ∷ [] →
    IsNamer cells written later new
namer_push cells written next later i a old new o n h f e = rw e (record { own = own_push cells i a old o n old h.own; names = names_push i a old ∙ rw (h.names, f) refl })

pub shows_new : (cells : List Shape) (written : List (List ℕ)) (next i : ℕ) (a : List ℕ) (old new : Pairs) → IsNamer cells written next old → is_among written a ≡ false → is_among (fresh_before written next) a ≡ false → new ≡ old ++ (i, a) ∷ [] → Shows cells written i old new (variable a)
shows_new cells written next i a old new h unwritten unused e =
    let among_known : is_among (names_of old) a ≡ false = rw h.names unused in
    rw e (record { later = λ v k. (agrees_push v i a old k).0; is = λ v f k. sym (agrees_push v i a old k).1; names = names_push i a old ∙ rw (unwritten, among_known) refl })

-- a type of a known form
pub shows_var : (cells : List Shape) (written : List (List ℕ)) (at root : ℕ) (a : List ℕ) (pairs : Pairs) → cell cells root ≡ Var a → ((v : ℕ → Typ) → Fits v cells → v at ≡ v root) → AreWritten cells written → Shows cells written at pairs pairs (variable a)
shows_var cells written at root a pairs e same w =
    record { later = λ v h. h; is = λ v f h. sym (same v f ∙ (rw e at (f.at root))); names = rw (w.among root a e) refl }

pub shows_con : (cells : List Shape) (written : List (List ℕ)) (at root : ℕ) (a : List ℕ) (args : List ℕ) (ts : Typs) (old new : Pairs) → cell cells root ≡ Con a args → ((v : ℕ → Typ) → Fits v cells → v at ≡ v root) → ShowsAll cells written args old new ts →
    Shows cells written at old new (applied a ts)
shows_con cells written at root a args ts old new e same s =
    record { later = s.later; is = λ v f h. ap (applied a) (s.is v f h) ∙ sym (same v f ∙ (rw e at (f.at root))); names = s.names }

pub shows_root : (cells : List Shape) (written : List (List ℕ)) (at root : ℕ) (old new : Pairs) (t : Typ) → ((v : ℕ → Typ) → Fits v cells → v at ≡ v root) → Shows cells written root old new t → Shows cells written at old new t
shows_root cells written at root old new t same s = record { later = s.later; is = λ v f h. s.is v f h ∙ sym (same v f); names = s.names }

some_nodes : (t : Typ) → 0 < type_nodes t
some_nodes (variable a) = omega arith
some_nodes (applied a ts) = omega arith

pub within_some : (cells : List Shape) (at room : ℕ) → Determines cells → Within cells at room → 0 < room
within_some cells at room d w =
    let f = d.filled (λ i. variable []) in
    let h = w.small f.types (record { fits = f.fit; single = λ i o. ap type_nodes (f.chosen i o) }) in
    let p = some_nodes (f.types at) in
    omega arith

pub within_args : (cells : List Shape) (at root room : ℕ) (a : List ℕ) (args : List ℕ) → cell cells root ≡ Con a args → ((v : ℕ → Typ) → Fits v cells → v at ≡ v root) → Within cells at room → AreWithin cells args (room - 1)
within_args cells at root room a args e same w =
    record {
      small = λ v s.
          let is : v at ≡ applied a (types_at v args) = same v s.fits ∙ (rw e at (s.fits.at root)) in
          let h : types_nodes (types_at v args) + 1 ≤ room = rw is at (w.small v s) in
          omega arith;
    }

pub args_below : (cells : List Shape) (root : ℕ) (a : List ℕ) (args : List ℕ) → AreFine cells → cell cells root ≡ Con a args → AllBelow (length cells) args
args_below cells root a args f e = rw e at (f.at root)

-- several types, one after another
listed_push : (ts : List Typ) (t : Typ) (rest : Typs) → listed (ts ++ t ∷ []) rest ≡ listed ts (more t rest)
listed_push [] t rest = refl
listed_push (u ∷ ts) t rest = ap (more u) (listed_push ts t rest)

pub listed_pop : (old new : List Typ) (t : Typ) (all next whole : Typs) → old ≡ new ++ t ∷ [] → next ≡ more t all → listed old all ≡ whole → listed new next ≡ whole
listed_pop old new t all next whole e f h = rw f (sym (listed_push new t all) ∙ (rw e at h))

append_none : (xs : List (List ℕ)) → xs ++ [] ≡ xs
append_none [] = refl
append_none (x ∷ xs) = ap (λ r. x ∷ r) (append_none xs)

append_assoc : (xs ys zs : List (List ℕ)) → xs ++ (ys ++ zs) ≡ (xs ++ ys) ++ zs
append_assoc [] ys zs = refl
append_assoc (x ∷ xs) ys zs = ap (λ r. x ∷ r) (append_assoc xs ys zs)

names_listed : (ts : List Typ) (t : Typ) → all_type_names (listed (ts ++ t ∷ []) none) ≡ all_type_names (listed ts none) ++ type_names t
names_listed [] t = append_none (type_names t)
names_listed (u ∷ ts) t = ap (λ r. type_names u ++ r) (names_listed ts t) ∙ append_assoc (type_names u) (all_type_names (listed ts none)) (type_names t)

pub showing_none : (cells : List Shape) (written : List (List ℕ)) (all : List ℕ) (pairs : Pairs) → Showing cells written all all pairs pairs []
showing_none cells written all pairs = record { later = λ v h. h; is = λ v f h. refl; names = refl }

pub showing_next : (cells : List Shape) (written : List (List ℕ)) (all : List ℕ) (y : ℕ) (left rest : List ℕ) (old mid new : Pairs) (shown last : List Typ) (t : Typ) → left ≡ y ∷ rest → Showing cells written all left old mid shown → Shows cells written y mid new t → last ≡ shown ++ t ∷ [] →
    Showing cells written all rest old new last
showing_next cells written all y left rest old mid new shown last t split s h put =
    rw put
    (record {
      later = λ v k. s.later v (h.later v k);
      is = λ v f k. listed_push shown t (types_at v rest) ∙ rw (h.is v f k) ((rw split at (s.is v f (h.later v k))));
      names = h.names ∙ ap (λ known. with_unwritten written known (type_names t)) s.names ∙ sym (ap (with_unwritten written (names_of old)) (names_listed shown t) ∙ with_append written (names_of old) (all_type_names (listed shown none)) (type_names t));
    })

pub showing_all : (cells : List Shape) (written : List (List ℕ)) (all left : List ℕ) (old new : Pairs) (shown : List Typ) (ts : Typs) → left ≡ [] → Showing cells written all left old new shown → ts ≡ listed shown none → ShowsAll cells written all old new ts
showing_all cells written all left old new shown ts e s is = rw is (record { later = s.later; is = λ v f k. (rw e at (s.is v f k)); names = s.names })

pub within_first : (cells : List Shape) (y : ℕ) (left rest : List ℕ) (room : ℕ) → left ≡ y ∷ rest → AreWithin cells left room → Within cells y room × AreWithin cells rest room
within_first cells y left rest room e w =
    (record { small = λ v s. let h : type_nodes (v y) + types_nodes (types_at v rest) ≤ room = rw e at (w.small v s) in omega arith }, record { small = λ v s. let h : type_nodes (v y) + types_nodes (types_at v rest) ≤ room = rw e at (w.small v s) in omega arith })

-- the same for what the program holds
pub shows_known_at : (cells : List Shape) (written : List (List ℕ)) (i : ℕ) (a b : List ℕ) (pairs slice : Pairs) (t : Typ) → t ≡ variable b → b ≡ a → Some a ≡ name_of i slice → slice ≡ pairs → Shows cells written i pairs pairs t
shows_known_at cells written i a b pairs slice t e f g h = rw (e, f) (shows_known cells written i a pairs (rw h at g))

pub namer_put : (cells : List Shape) (written : List (List ℕ)) (next later i : ℕ) (a copy : List ℕ) (old slice new : Pairs) → cell cells i ≡ Open → None ≡ name_of i slice → slice ≡ old → IsNamer cells written next old → fresh_before written later ≡ fresh_before written next ++ a ∷ [] → copy ≡ a →
    new ≡ old ++ (i, copy) ∷ [] → IsNamer cells written later new
namer_put cells written next later i a copy old slice new o n s h f same put = namer_push cells written next later i a old new o (rw s at n) h f (rw same at put)

pub shows_put : (cells : List Shape) (written : List (List ℕ)) (next i : ℕ) (a copy : List ℕ) (old new : Pairs) (t : Typ) → IsNamer cells written next old → is_among written a ≡ false → is_among (fresh_before written next) a ≡ false → copy ≡ a → new ≡ old ++ (i, copy) ∷ [] → t ≡ variable a → Shows cells written i old new t
shows_put cells written next i a copy old new t h unwritten unused same put is = rw is (shows_new cells written next i a old new h unwritten unused (rw same at put))

pub args_within : (cells : List Shape) (at root room : ℕ) (a : List ℕ) (args slice : List ℕ) (r : Shape) → AreFine cells → r ≡ get_or cells root r → r ≡ Con a args → root < length cells → ((v : ℕ → Typ) → Fits v cells → v at ≡ v root) → Within cells at room → slice ≡ args →
    AllBelow (length cells) slice × AreWithin cells slice (room - 1)
args_within cells at root room a args slice r f read is inside same w s =
    let e : cell cells root ≡ Con a args = sym (get_or_read_under cells root (length cells) r Open read inside refl) ∙ is in
    rw s (args_below cells root a args f e, within_args cells at root room a args e same w)

pub rest_below : (n : ℕ) (all : List ℕ) (i d : ℕ) → i < length all → AllBelow n (drop i all) → AllBelow n (drop (i + 1) all)
rest_below n all i d less h = (rw (drop_more all i d less) at h).1

pub rest_within : (cells : List Shape) (room : ℕ) (all : List ℕ) (i d : ℕ) → i < length all → AreWithin cells (drop i all) room → AreWithin cells (drop (i + 1) all) room
rest_within cells room all i d less h = (within_first cells (get_or all i d) (drop i all) (drop (i + 1) all) room (drop_more all i d less) h).1

pub shown_next : (cells : List Shape) (written : List (List ℕ)) (all : List ℕ) (i d : ℕ) (old mid new : Pairs) (shown last : List Typ) (t : Typ) → i < length all → Showing cells written all (drop i all) old mid shown → Shows cells written (get_or all i d) mid new t → last ≡ shown ++ t ∷ [] →
    Showing cells written all (drop (i + 1) all) old new last
shown_next cells written all i d old mid new shown last t less s h put = showing_next cells written all (get_or all i d) (drop i all) (drop (i + 1) all) old mid new shown last t (drop_more all i d less) s h put
