-- The kept solution is most general.
use Rattle.std.proofs.Common.{◌≡◌, ◌∙◌, ◌<◌, ◌≤◌, ◌⊎◌, inl, inr, ℕ, zero, suc, Bool, true, false, cond, List, [], ◌∷◌, length, refl, sym, ap, arith}
use Rattle.std.specs.Prelude.{Option, Some, None, nat_lt}
use Rattle.std.specs.Str.{bytes_eq}
use Rattle.std.proofs.lemmas.Bool.{cases_eq, cases_lt, both_ways}
use Rattle.std.proofs.lemmas.List.{get_or_past}
use Rattle.std.proofs.lemmas.Slice.Eq.{bytes_eq-Decides}
use Rattle.std.proofs.lemmas.Bool.Decides.{Decides-ltb}
use Rattle.fp_term.specs.Types.{Typ, variable, applied, found_type, retyped, all_retyped}
use Rattle.fp_term.specs.Variables.{is_among}
use Rattle.fp_unify.specs.Facts.{types_at, AllBelow}
use Rattle.fp_unify.specs.Cells.{cell, Meets, Fits, IsFine, AreFine, is_open}
use Rattle.fp_unify.specs.Settled.{Determines}
use Rattle.fp_unify.specs.Solved.{IsSolution}
use Rattle.fp_unify.specs.General.{Naming, Instance, General}
use Rattle.fp_unify.specs.Naming.{AreWritten}
use Rattle.fp_unify.specs.declared.fact.Fact.{Fact}
use Rattle.fp_unify.specs.declared.table.Shape.{Shape}
use Rattle.fp_unify.specs.declared.table.Shape.TheVariants.{Open, Link, Var, Con}

is_it_open : (s : Shape) → (s ≡ Open) ⊎ (is_open s ≡ false)
is_it_open Open = inl refl
is_it_open (Link j) = inr refl
is_it_open (Var a) = inr refl
is_it_open (Con a xs) = inr refl

differ_by : (b a : List ℕ) (r : Bool) → bytes_eq b a ≡ r → (b ≡ a → ⊥) → r ≡ false
differ_by b a true e ne = absurd (ne ((bytes_eq-Decides b a).0 e))
differ_by b a false e ne = refl

differs : (b a : List ℕ) → (b ≡ a → ⊥) → bytes_eq b a ≡ false
differs b a ne = differ_by b a (bytes_eq b a) refl ne

lt_true : (i n : ℕ) → i < n → nat_lt i n ≡ true
lt_true i n h = (Decides-ltb i n).1 h

lt_false_by : (i n : ℕ) (b : Bool) → nat_lt i n ≡ b → n ≤ i → b ≡ false
lt_false_by i n true e h = absurd (let l : i < n = (Decides-ltb i n).0 e in omega arith)
lt_false_by i n false e h = refl

lt_false : (i n : ℕ) → n ≤ i → nat_lt i n ≡ false
lt_false i n h = lt_false_by i n (nat_lt i n) refl h

-- the pairs with one more, where nothing is known of a type
abbrev with_pair : Shape → List ℕ → Typ → List (List ℕ × Typ) → List (List ℕ × Typ)
with_pair Open a t pairs = (a, t) ∷ pairs
with_pair _ a t pairs = pairs

module _ (cells : List Shape) (written : List (List ℕ)) (names : ℕ → List ℕ) (naming : Naming cells written names) (v : ℕ → Typ) where
  -- the names of the first n types of which nothing is known, with the types v
  pairs_of : ℕ → List (List ℕ × Typ)
  pairs_of zero = []
  pairs_of (suc k) = with_pair (cell cells k) (names k) (v k) (pairs_of k)

  skipped : (k : ℕ) (s : Shape) (a : List ℕ) (pairs : List (List ℕ × Typ)) (t : Option Typ) → (s ≡ Open → names k ≡ a → ⊥) → found_type a pairs ≡ t → found_type a (with_pair s (names k) (v k) pairs) ≡ t
  skipped k Open a pairs t ne e = rw (differs (names k) a (ne refl)) e
  skipped k (Link j) a pairs t ne e = e
  skipped k (Var b) a pairs t ne e = e
  skipped k (Con b xs) a pairs t ne e = e

  -- no pair for a written name
  not_written : (a : List ℕ) → is_among written a ≡ true → (n : ℕ) → found_type a (pairs_of n) ≡ None
  unfolding pairs_of
  not_written a e zero = refl
  not_written a e (suc k) =
      skipped k (cell cells k) a (pairs_of k) None (λ o same. both_ways (is_among written a) (rw same at (naming.unwritten k o)) e) (not_written a e k)

  put_found : (i : ℕ) (s : Shape) (pairs : List (List ℕ × Typ)) → s ≡ Open → found_type (names i) (with_pair s (names i) (v i) pairs) ≡ Some (v i)
  put_found i s pairs e = rw (e, (bytes_eq-Decides (names i) (names i)).1 refl) refl

  found_step : (i k : ℕ) → cell cells i ≡ Open → (i ≡ k) ⊎ (i ≡ k → ⊥) → i < suc k → (i < k → found_type (names i) (pairs_of k) ≡ Some (v i)) → found_type (names i) (with_pair (cell cells k) (names k) (v k) (pairs_of k)) ≡ Some (v i)
  found_step i k e (inl same) h f = rw (← same) (put_found i (cell cells i) (pairs_of i) e)
  found_step i k e (inr ne) h f = skipped k (cell cells k) (names i) (pairs_of k) (Some (v i)) (λ o alike. ne (naming.apart i k e o (sym alike))) (f (omega (arith, ne)))

  found_open : (n i : ℕ) → cell cells i ≡ Open → i < n → found_type (names i) (pairs_of n) ≡ Some (v i)
  unfolding pairs_of
  found_open zero i e h = absurd (omega arith)
  found_open (suc k) i e h = found_step i k e (cases_eq i k) h (λ below. found_open k i e below)

  module _ (fine : AreFine cells) (known : AreWritten cells written) (w : ℕ → Typ) (fits : Fits w cells) (named : (i : ℕ) → cell cells i ≡ Open → w i ≡ variable (names i)) where
    abbrev all : List (List ℕ × Typ)
    all = pairs_of (length cells)

    -- the instance, and v past the table
    u : ℕ → Typ
    u i = cond (nat_lt i (length cells)) (retyped all (w i)) (v i)

    u_is : (i : ℕ) → i < length cells → u i ≡ retyped all (w i)
    unfolding u
    u_is i h = rw (lt_true i (length cells) h) refl

    u_types : (xs : List ℕ) → AllBelow (length cells) xs → types_at u xs ≡ all_retyped all (types_at w xs)
    u_types [] h = refl
    u_types (x ∷ xs) h = rw (u_is x h.0, u_types xs h.1) refl

    u_meets : (i : ℕ) (s : Shape) → i < length cells → cell cells i ≡ s → IsFine (length cells) i s → Meets w i s → Meets u i s
    u_meets i Open h e k m = tt
    u_meets i (Link j) h e k m = u_is i h ∙ ap (retyped all) m ∙ sym (u_is j (omega arith))
    u_meets i (Var a) h e k m = u_is i h ∙ ap (retyped all) m ∙ rw (not_written a (known.among i a e) (length cells)) refl
    u_meets i (Con a xs) h e k m = u_is i h ∙ ap (retyped all) m ∙ ap (applied a) (sym (u_types xs k))

    u_by : (i : ℕ) → (i < length cells) ⊎ (length cells ≤ i) → Meets u i (cell cells i)
    u_by i (inl h) = u_meets i (cell cells i) h refl (fine.at i) (fits.at i)
    u_by i (inr h) = rw (get_or_past cells i Open h) tt

    u_open : (i : ℕ) → (i < length cells) ⊎ (length cells ≤ i) → cell cells i ≡ Open → u i ≡ v i
    unfolding u
    u_open i (inl h) e = u_is i h ∙ ap (retyped all) (named i e) ∙ rw (found_open (length cells) i e h) refl
    u_open i (inr h) e = rw (lt_false i (length cells) h) refl

    pub instance_of : Determines cells → Fits v cells → Instance written (length cells) w v
    instance_of d f =
        record {
          pairs = all;
          kept = λ a e. not_written a e (length cells);
          is = λ i h. sym (u_is i h) ∙ d.same u v (record { at = λ j. u_by j (cases_lt j (length cells)) }) f (λ j e. u_open j (cases_lt j (length cells)) e) i;
        }

pub general : (limit : ℕ) (facts : List (ℕ × Fact)) (n : ℕ) (cells : List Shape) → IsSolution limit facts n cells → General limit facts n cells
general limit facts n cells s =
    record {
      principal = λ written names known naming types fits named.
          record {
            solves = s.back types fits;
            general = λ v h. rw (← s.counted) (instance_of cells written names naming v s.fine known types fits named s.determines (s.to v h));
          };
    }
