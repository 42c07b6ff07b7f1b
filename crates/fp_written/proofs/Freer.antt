-- Without a limit of depth the machine goes on wherever it does with one.
use Rattle.std.proofs.Common.{◌≡◌, ◌∙◌, ℕ, List, [], ◌∷◌, ◌++◌, true, false, cond, Option, Some, None, refl, ap}
use Rattle.fp_words.specs.declared.word.Placed.{Placed}
use Rattle.fp_written.specs.Symbols.{Symbol}
use Rattle.fp_written.specs.Machine.{keeps, Move, takes, passes, stops, Sized, SizedTy, Made, Does, reads, makes, does, State, state, Out, on, refused, too_deep, top_depth, top_ty_depth, moved, when_made, does_step, step, then_out, run}

-- what is too deep goes on without the limit, and nothing else changes
abbrev pub Freer : Out → Out → Type 0
Freer (on s) o = o ≡ on s
Freer refused o = o ≡ refused
Freer too_deep o = (s : State) × (o ≡ on s)

move_freer : (l : Option ℕ) (m : Move) (x y : Out) (ss : List Symbol) (ts : List Sized) (us : List SizedTy) → Freer x y → Freer (moved l m x ss ts us) (moved None m y ss ts us)
move_freer l (takes d these) x y ss ts us p = elim (keeps l d) as (λ c. Freer (cond c (on (state (these ++ ss) ts us)) too_deep) (on (state (these ++ ss) ts us))) [ true ↦ refl | false ↦ (state (these ++ ss) ts us, refl) ]
move_freer l passes x y ss ts us p = p
move_freer l stops x y ss ts us p = refl

when_freer : (l : Option ℕ) (a : Placed) (ss : List Symbol) (o : Option Made) → ((ts : List Sized) (us : List SizedTy) → Freer (step l a ss ts us) (step None a ss ts us)) → Freer (when_made (step l a ss) o) (when_made (step None a ss) o)
when_freer l a ss None f = refl
when_freer l a ss (Some m) f = f m.terms m.types

does_freer : (l : Option ℕ) (d : Does) (a : Placed) (ss : List Symbol) (ts : List Sized) (us : List SizedTy) → ((ts : List Sized) (us : List SizedTy) → Freer (step l a ss ts us) (step None a ss ts us)) → Freer (does_step l d (step l a ss) ss ts us a) (does_step None d (step None a ss) ss ts us a)
does_freer l (reads f b) a ss ts us q = move_freer l (f (top_depth ts) (top_ty_depth us) a.word a.at) _ _ ss ts us (q ts us)
does_freer l (makes f) a ss ts us q = when_freer l a ss (f ts us) q

pub step_freer : (l : Option ℕ) (a : Placed) (ss : List Symbol) (ts : List Sized) (us : List SizedTy) → Freer (step l a ss ts us) (step None a ss ts us)
step_freer l a [] ts us = refl
step_freer l a (s ∷ ss) ts us = does_freer l (does s) a ss ts us (λ ts us. step_freer l a ss ts us)

-- a run that goes on
on_out : Out → State → State
on_out (on s) d = s
on_out refused d = d
on_out too_deep d = d

pub same_on : (s t : State) → ◌≡◌ {A = Out} (on s) (on t) → s ≡ t
unfolding on_out
same_on s t e = ap (λ o. on_out o s) e

pub refused_on : (s : State) → refused ≡ on s → ⊥
refused_on s e = let bad : refused ≡ on s = e in cc

pub deep_on : (s : State) → too_deep ≡ on s → ⊥
deep_on s e = let bad : too_deep ≡ on s = e in cc

pub run_freer : (l : Option ℕ) (tokens : List Placed) (s t : State) → run l s tokens ≡ on t → run None s tokens ≡ on t
run_freer l [] s t e = e
run_freer l (a ∷ tail) s t e =
    elim (step l a s.todo s.terms s.types) as (λ o. Freer o (step None a s.todo s.terms s.types) → then_out (λ n. run l n tail) o ≡ on t → then_out (λ n. run None n tail) (step None a s.todo s.terms s.types) ≡ on t) [
      | on n ↦ λ p e. rw p (run_freer l tail n t e)
      | refused ↦ λ p e. absurd (refused_on t e)
      | too_deep ↦ λ p e. absurd (deep_on t e)
    ] (step_freer l a s.todo s.terms s.types) e

pub run_append : (l : Option ℕ) (s : State) (xs ys : List Placed) → run l s (xs ++ ys) ≡ then_out (λ n. run l n ys) (run l s xs)
run_append l s [] ys = refl
run_append l s (a ∷ tail) ys =
    elim (step l a s.todo s.terms s.types) as (λ o. then_out (λ next. run l next (tail ++ ys)) o ≡ then_out (λ n. run l n ys) (then_out (λ next. run l next tail) o))
    [ on next ↦ run_append l next tail ys | refused ↦ refl | too_deep ↦ refl ]

one_step : (o : Out) → then_out (λ n. on n) o ≡ o
one_step (on s) = refl
one_step refused = refl
one_step too_deep = refl

-- one more word
pub run_more : (l : Option ℕ) (s t : State) (xs : List Placed) (a : Placed) → run l s xs ≡ on t → run l s (xs ++ a ∷ []) ≡ step l a t.todo t.terms t.types
run_more l s t xs a e = run_append l s xs (a ∷ []) ∙ ap (λ o. then_out (λ n. run l n (a ∷ [])) o) e ∙ one_step (step l a t.todo t.terms t.types)
