-- A term's equations can be met exactly where its typing rules can hold.
use Rattle.std.proofs.Common.{◌≡◌, ◌∙◌, ◌<◌, ◌+◌, ℕ, zero, suc, Bool, true, false, cond, ◌||◌, List, [], ◌∷◌, ◌++◌, length, drop, get_or, subst, refl, sym, ap, arith}
use Rattle.std.specs.Prelude.{Option, Some, None, MatchOption, MatchBool, is_some}
use Rattle.std.specs.Str.{bytes_eq}
use Rattle.std.proofs.lemmas.List.{drop_more}
use Rattle.std.proofs.lemmas.Slice.Eq.{bytes_eq-Decides}
use Rattle.fp_term.specs.Types.{Typ, variable}
use Rattle.fp_term.specs.Variables.{is_among}
use Rattle.fp_constrain.specs.Declarations.{Declared, Declarations}
use Rattle.fp_raw.specs.Raws.{RawTyp, RawTm, raw_name, raw_bound, raw_free, raw_constant, raw_app, raw_abs, raw_typed, raw_size}
use Rattle.fp_constrain.specs.Rules.{Scope, innermost, NameHas, IsWritten, Has}
use Rattle.fp_unify.specs.Facts.{Solves, AreAbout, Unsolvable}
use Rattle.fp_constrain.specs.Draws.{number_among, types_of, typing, Draws}
use Rattle.fp_unify.specs.Solved.{IsSolution}
use Rattle.fp_unify.specs.General.{IsBest}
use Rattle.fp_constrain.specs.Clash.{Gives, IsWanted, Satisfiable, Clashes, Solvable, Traces, Covers, CoversAll, Collects, CollectsAll, Fixes, Wants, FirstUnsolvable}
use Rattle.fp_constrain.specs.Subterms.{top, plain_option}
use Rattle.fp_constrain.specs.Drafts.{Lays}
use Rattle.fp_constrain.proofs.Laid.{known_push, solves_push, solves_pushed, grows_trans, grows_none}
use Rattle.fp_constrain.proofs.Drawn.{retyped_none, among_within, types_of_agree, top_last, grows_add}
use Rattle.fp_term.specs.Signatures.{IsType}
use Rattle.fp_term.specs.declared.signature.Signature.{Signature}
use Rattle.fp_unify.specs.declared.fact.Fact.TheVariants.{Same, Never}
use Rattle.fp_unify.specs.declared.fact.Fact.{Fact}
use Rattle.fp_unify.specs.declared.table.Shape.{Shape}

get_next : (b : List ℕ) (names : List (List ℕ)) (n : ℕ) → get_or (b ∷ names) (n + 1) [] ≡ get_or names n []
get_next b names n = let e : n + 1 ≡ suc n = omega arith in rw e refl

-- a name's number is its place
among_at : (names : List (List ℕ)) (a : List ℕ) → is_among names a ≡ true → get_or names (number_among names a) [] ≡ a
among_at [] a h = cc
among_at (b ∷ names) a h =
    elim (bytes_eq b a) as (λ r. bytes_eq b a ≡ r → (r || is_among names a) ≡ true → get_or (b ∷ names) (cond r 0 (number_among names a + 1)) [] ≡ a)
    [ true ↦ λ e f. (bytes_eq-Decides b a).0 e | false ↦ λ e f. get_next b names (number_among names a) ∙ among_at names a f ] refl h

name_alike : (s : Option Typ) (d : Option Declared) (t u w : Typ) → u ≡ w → NameHas s d u t → NameHas s d w t
name_alike s d t u w e h = rw (← e) h

-- the rules ask for the types of the term's own variables alone
module _ (g : Declarations) (names : List (List ℕ)) (vars own : List ℕ → Typ) (alike : (a : List ℕ) → is_among names a ≡ true → vars a ≡ own a) (limit : ℕ) where
  has_covered : (types : ℕ → Typ) (scope : Scope) (n : ℕ) (raw : RawTm) → Covers names raw → Has g vars types limit scope n raw → Has g own types limit scope n raw
  has_covered types scope n (raw_name a at) c h = λ below. name_alike (innermost a scope) (g a) (types n) (vars a) (own a) (alike a c) (h below)
  has_covered types scope n (raw_bound k at) c h = h
  has_covered types scope n (raw_free a s at) c h = λ below. let r = h below in (r.0 ∙ alike a c, r.1)
  has_covered types scope n (raw_constant a s at) c h = h
  has_covered types scope n (raw_app f x at) c h = (has_covered types scope n f c.0 h.0, has_covered types scope (n + raw_size f) x c.1 h.1, h.2)
  has_covered types scope n (raw_abs a w x at) c h = (h.0, h.1, has_covered types ((a, h.0) ∷ scope) n x c h.2, h.3)
  has_covered types scope n (raw_typed x w at) c h = (has_covered types scope n x c h.0, h.1)

-- no rule below 0 asks for anything
chosen_type : (w : Option Typ) → (t : Typ) × IsWritten w t
chosen_type None = (variable [], tt)
chosen_type (Some t) = (t, refl)

has_nothing : (g : Declarations) (vars : List ℕ → Typ) (types : ℕ → Typ) (scope : Scope) (n : ℕ) (raw : RawTm) → Has g vars types 0 scope n raw
has_nothing g vars types scope n (raw_name a at) = λ below. absurd (omega arith)
has_nothing g vars types scope n (raw_bound k at) = λ below. absurd (omega arith)
has_nothing g vars types scope n (raw_free a s at) = λ below. absurd (omega arith)
has_nothing g vars types scope n (raw_constant a s at) = λ below. absurd (omega arith)
has_nothing g vars types scope n (raw_app f x at) = (has_nothing g vars types scope n f, has_nothing g vars types scope (n + raw_size f) x, λ below. absurd (omega arith))
has_nothing g vars types scope n (raw_abs a w x at) = let u = chosen_type (plain_option w) in (u.0, u.1, has_nothing g vars types ((a, u.0) ∷ scope) n x, λ below. absurd (omega arith))
has_nothing g vars types scope n (raw_typed x w at) = (has_nothing g vars types scope n x, λ below. absurd (omega arith))

pub satisfiable_none : (s : Signature) (g : Declarations) (given : List (List ℕ × Typ)) (want : Option Typ) (raw : RawTm) → Satisfiable s g given want 0 raw
satisfiable_none s g given want raw =
    let any = λ (a : List ℕ). variable [] in
    let types = λ (i : ℕ). variable [] in
    record { vars = any; types = types; typing = record { has = has_nothing g any types [] 0 raw; gives = λ h. absurd (omega arith); wanted = λ h. absurd (omega arith) } }

gives_covered : (names : List (List ℕ)) (vars own : List ℕ → Typ) → ((a : List ℕ) → is_among names a ≡ true → vars a ≡ own a) → (given : List (List ℕ × Typ)) → CoversAll names given → Gives vars given → Gives own given
gives_covered names vars own alike [] c h = tt
gives_covered names vars own alike (p ∷ given) c h = (sym (alike p.0 c.0) ∙ h.0, gives_covered names vars own alike given c.1 h.1)

-- the equations of a whole term, from those of what is given, of the term, and of what is wanted
module _ (s : Signature) (g : Declarations) (given : List (List ℕ × Typ)) (want : Option Typ) (names : List (List ℕ)) (raw : RawTm) (c : Covers names raw) (d : CoversAll names given)
    (n a b m : ℕ) (of_given of_term facts : List (ℕ × Fact)) (seen : List ℕ) (root : ℕ) (few : length names < n)
    (fixes : Fixes names given [] n [] a of_given) (draws : Draws g names [] raw 0 a of_given b of_term [] seen root) (wants : Wants s want (raw_size raw) root b of_term m facts) where
  typed_as : (v : ℕ → Typ) → v root ≡ typing v seen (top 0 raw)
  typed_as v = ap v (sym draws.sees.root)

  pub traces : Traces s g given want raw m seen facts
  traces =
      record {
        about = wants.grows.about;
        counted = draws.sees.counted ∙ omega arith;
        below = λ k less. omega (arith, wants.grows.later, draws.sees.below k (omega arith) (omega (arith, draws.sees.counted)));
        sound = λ limit v some h.
            let of_term_too = wants.grows.keeps limit v h in
            let of_given_too = draws.grows.keeps limit v of_term_too in (
              types_of v names,
              record {
                has = draws.sound limit v some of_term_too;
                gives = λ some_too. fixes.sound limit v some of_given_too tt;
                wanted = λ counts. subst (IsWanted s want) (typed_as v) (wants.sound limit v h counts);
              },
            );
        complete = λ limit vars types h.
            let v = λ (i : ℕ). vars (get_or names i []) in
            let alike = λ (x : List ℕ) (among : is_among names x ≡ true). ap vars (sym (among_at names x among)) in
            let start = fixes.complete limit v tt (λ some. gives_covered names vars (types_of v names) alike given d (h.gives some)) in
            let has = has_covered g names vars (types_of v names) alike limit types [] 0 raw c h.has in
            let same = types_of_agree n v start.types start.agree names few in
            let x = draws.complete limit start.types types start.solves (rw same has) in
            let at_root : x.types root ≡ types (top 0 raw) = typed_as x.types ∙ x.here (top 0 raw) (omega arith) (omega (arith, top_last 0 raw)) in
            let y = wants.complete limit x.types x.solves (λ counts. subst (IsWanted s want) (sym at_root) (h.wanted counts)) in
            (y.types, y.solves, λ k less. y.agree (get_or seen k 0) (draws.sees.below k (omega arith) (omega arith)) ∙ x.here k (omega arith) (omega arith));
        only = λ written functions given_known term_known want_known. wants.only written want_known (draws.only s written functions term_known (fixes.only s written given_known tt).1);
      }

pub solvable_from : (limit : ℕ) (facts : List (ℕ × Fact)) (n : ℕ) (cells : List Shape) → IsSolution limit facts n cells → Solvable limit facts
solvable_from limit facts n cells s = let f = s.determines.filled (λ i. variable []) in record { types = f.types; solves = s.back f.types f.fit }

solves_none : (v : ℕ → Typ) (facts : List (ℕ × Fact)) → Solves 0 v facts
solves_none v [] = tt
solves_none v (p ∷ facts) = ((λ below. absurd (omega arith)), solves_none v facts)

pub solvable_none : (facts : List (ℕ × Fact)) → Solvable 0 facts
solvable_none facts = record { types = λ i. variable []; solves = solves_none (λ i. variable []) facts }

-- with no equations below 0, the limit that can't be met is positive
pub unsolvable_some : (steps : ℕ) (facts : List (ℕ × Fact)) → Unsolvable steps facts → 0 < steps
unsolvable_some zero facts u = absurd (u.never (λ i. variable []) (solves_none (λ i. variable []) facts))
unsolvable_some (suc steps) facts u = omega arith

pub clashes : (s : Signature) (g : Declarations) (given : List (List ℕ × Typ)) (want : Option Typ) (raw : RawTm) (count : ℕ) (seen : List ℕ) (facts : List (ℕ × Fact)) (k : ℕ) →
    Traces s g given want raw count seen facts → FirstUnsolvable facts k (k + 1) → Clashes s g given want raw k
clashes s g given want raw count seen facts zero t f =
    record { before = satisfiable_none s g given want raw; never = λ h. let x = t.complete 1 h.vars h.types h.typing in f.never x.0 x.1 }
clashes s g given want raw count seen facts (suc k) t f =
    let b = t.sound (suc k) f.before.types (omega arith) f.before.solves in
    record {
      before = record { vars = b.0; types = typing f.before.types seen; typing = b.1 };
      never = λ h. let x = t.complete (suc k + 1) h.vars h.types h.typing in f.never x.0 x.1;
    }

pub solvable_or_not : {X : Type 0} (items : X → List Shape) (limit n : ℕ) (facts : List (ℕ × Fact)) (o : Option X) (b : Bool) → MatchOption o (Unsolvable limit facts) (λ x. IsBest limit facts n (items x)) → b ≡ is_some o → MatchBool b (Solvable limit facts) (Unsolvable limit facts)
solvable_or_not items limit n facts None b h e = rw e h
solvable_or_not items limit n facts (Some x) b h e = rw e (solvable_from limit facts n (items x) h.solution)

pub clashes_read : (s : Signature) (g : Declarations) (given : List (List ℕ × Typ)) (want : Option Typ) (raw : RawTm) (count : ℕ) (seen : List ℕ) (facts slice : List (ℕ × Fact)) (k : ℕ) →
    Traces s g given want raw count seen facts → slice ≡ facts → FirstUnsolvable slice k (k + 1) → Clashes s g given want raw k
clashes_read s g given want raw count seen facts slice k t e f = clashes s g given want raw count seen facts k t (rw e at f)

among_append_left : (xs ys : List (List ℕ)) (a : List ℕ) → is_among xs a ≡ true → is_among (xs ++ ys) a ≡ true
among_append_left [] ys a h = cc
among_append_left (x ∷ xs) ys a h = elim (bytes_eq x a) as (λ b. (b || is_among xs a) ≡ true → (b || is_among (xs ++ ys) a) ≡ true) [ true ↦ λ e. refl | false ↦ λ e. among_append_left xs ys a e ] h

among_last : (xs : List (List ℕ)) (a : List ℕ) → is_among (xs ++ a ∷ []) a ≡ true
among_last [] a = rw ((bytes_eq-Decides a a).1 refl) refl
among_last (x ∷ xs) a = elim (bytes_eq x a) as (λ b. (b || is_among (xs ++ a ∷ []) a) ≡ true) [ true ↦ refl | false ↦ among_last xs a ]

module _ (old new : List (List ℕ)) (kept : (a : List ℕ) → is_among old a ≡ true → is_among new a ≡ true) where
  covers_more : (raw : RawTm) → Covers old raw → Covers new raw
  covers_more (raw_name a at) c = kept a c
  covers_more (raw_bound k at) c = tt
  covers_more (raw_free a s at) c = kept a c
  covers_more (raw_constant a s at) c = tt
  covers_more (raw_app f x at) c = (covers_more f c.0, covers_more x c.1)
  covers_more (raw_abs a w x at) c = covers_more x c
  covers_more (raw_typed x w at) c = covers_more x c

pub collects_name : (old new : List (List ℕ)) (a : List ℕ) (p : ℕ) (raw : RawTm) → new ≡ old ++ a ∷ [] → raw_name a p ≡ raw → Collects old raw new
collects_name old new a p raw e r = rw (e, ← r) (record { kept = λ b h. among_append_left old (a ∷ []) b h; covers = among_last old a })

pub collects_free : (old new : List (List ℕ)) (a : List ℕ) (t : RawTyp) (p : ℕ) (raw : RawTm) → new ≡ old ++ a ∷ [] → raw_free a t p ≡ raw → Collects old raw new
collects_free old new a t p raw e r = rw (e, ← r) (record { kept = λ b h. among_append_left old (a ∷ []) b h; covers = among_last old a })

pub collects_app : (old mid new : List (List ℕ)) (f x : RawTm) (p : ℕ) (raw : RawTm) → Collects old f mid → Collects mid x new → raw_app f x p ≡ raw → Collects old raw new
collects_app old mid new f x p raw c d r = rw (← r) (record { kept = λ b h. d.kept b (c.kept b h); covers = (covers_more mid new d.kept f c.covers, d.covers) })

-- the names of given variables
pub collects_none : (old : List (List ℕ)) (all : List (List ℕ × Typ)) → CollectsAll old all all old
collects_none old all = record { kept = λ a h. h; covers = λ names more c. c }

pub collects_next : (old mid new : List (List ℕ)) (all left : List (List ℕ × Typ)) (p : List ℕ × Typ) → CollectsAll old all (p ∷ left) mid → new ≡ mid ++ p.0 ∷ [] → CollectsAll old all left new
collects_next old mid new all left p c e =
    let more : (a : List ℕ) → is_among mid a ≡ true → is_among new a ≡ true = λ a h. rw e (among_append_left mid (p.0 ∷ []) a h) in
    record {
      kept = λ a h. more a (c.kept a h);
      covers = λ names known rest. c.covers names (λ a h. known a (more a h)) (known p.0 (rw e (among_last mid p.0)), rest);
    }

pub covers_given : (old new last : List (List ℕ)) (all : List (List ℕ × Typ)) (raw : RawTm) → CollectsAll old all [] new → Collects new raw last → CoversAll last all
covers_given old new last all raw c d = c.covers last d.kept tt

-- one more given variable has its type
module _ (names : List (List ℕ)) (all left : List (List ℕ × Typ)) (p : List ℕ × Typ) (n : ℕ) (old : List (ℕ × Fact)) (m : ℕ) (mid : List (ℕ × Fact)) (k : ℕ) (between : List (ℕ × Fact)) (at : ℕ)
    (few : length names < n) (f : Fixes names all (p ∷ left) n old m mid) (l : Lays 0 [] p.1 m mid k between at) where
  pub fixes_next : Fixes names all left n old k (between ++ (0, Same (number_among names p.0) at) ∷ [])
  fixes_next =
      let number = number_among names p.0 in
      let fact = Same number at in
      let inside : number < k = omega (arith, among_within names p.0, f.grows.later, l.grows.later) in
      record {
        grows = grows_trans n m k old mid _ f.grows (grows_trans m k k mid between _ l.grows (grows_add k 0 fact between l.grows.about (inside, l.inside)));
        sound = λ limit v some h rest.
            let q = solves_pushed limit v 0 fact between h in
            f.sound limit v some (l.grows.keeps limit v q.0) (q.1 some ∙ l.sound limit v some q.0 ∙ retyped_none p.1, rest);
        complete = λ limit v h given.
            let e = f.complete limit v h given in
            let d = l.complete limit e.types e.solves in
            let same = types_of_agree m e.types d.types d.agree names (omega (arith, f.grows.later)) in
            record {
              types = d.types;
              agree = λ i less. d.agree i (omega (arith, f.grows.later)) ∙ e.agree i less;
              solves = solves_push limit d.types 0 fact between d.solves (λ some. ap (λ (own : List ℕ → Typ). own p.0) same ∙ (e.meets some).0 ∙ sym (d.here ∙ retyped_none p.1));
              meets = λ some. rw same (e.meets some).1;
            };
        only = λ s written known facts. let e = f.only s written known facts in (e.0.1, known_push s written 0 fact between (l.only s written e.0.0 e.1) tt);
      }

pub fixes_none : (names : List (List ℕ)) (all : List (List ℕ × Typ)) (n : ℕ) (old : List (ℕ × Fact)) → AreAbout n old → Fixes names all all n old n old
fixes_none names all n old about =
    record { grows = grows_none n old about; sound = λ limit v some h rest. rest; complete = λ limit v h given. record { types = v; agree = λ i less. refl; solves = h; meets = given }; only = λ s written known facts. (known, facts) }

-- what is wanted of a type
pub wants_none : (s : Signature) (step at n : ℕ) (old : List (ℕ × Fact)) → AreAbout n old → Wants s None step at n old n old
wants_none s step at n old about =
    record { grows = grows_none n old about; sound = λ limit v h counts. tt; complete = λ limit v h w. record { types = v; agree = λ i less. refl; solves = h; meets = tt }; only = λ written known facts. facts }

pub wants_never : (s : Signature) (w : Typ) (step at n : ℕ) (old : List (ℕ × Fact)) → AreAbout n old → (IsType s w → ⊥) → Wants s (Some w) step at n old n (old ++ (step, Never) ∷ [])
wants_never s w step at n old about apart =
    record {
      grows = grows_add n step Never old about tt;
      sound = λ limit v h counts. absurd ((solves_pushed limit v step Never old h).1 counts);
      complete = λ limit v h want. record { types = v; agree = λ i less. refl; solves = solves_push limit v step Never old h (λ counts. apart (want counts).1); meets = tt };
      only = λ written known facts. known_push s written step Never old facts tt;
    }

pub wants_type : (s : Signature) (w : Typ) (step at n : ℕ) (old : List (ℕ × Fact)) (m : ℕ) (mid : List (ℕ × Fact)) (node : ℕ) → at < n → IsType s w → Lays 0 [] w n old m mid node → Wants s (Some w) step at n old m (mid ++ (step, Same at node) ∷ [])
wants_type s w step at n old m mid node inside is l =
    let fact = Same at node in
    record {
      grows = grows_trans n m m old mid _ l.grows (grows_add m step fact mid l.grows.about (omega (arith, l.grows.later), l.inside));
      sound = λ limit v h counts. let q = solves_pushed limit v step fact mid h in (q.1 counts ∙ l.sound limit v (omega arith) q.0 ∙ retyped_none w, is);
      complete = λ limit v h want.
          let e = l.complete limit v h in
          record { types = e.types; agree = e.agree; solves = solves_push limit e.types step fact mid e.solves (λ counts. e.agree at inside ∙ (want counts).0 ∙ sym (e.here ∙ retyped_none w)); meets = tt };
      only = λ written known facts. known_push s written step fact mid (l.only s written (known is) facts) tt;
    }

-- the same for what the program holds
pub collects_at : (old mid new : List (List ℕ)) (all : List (List ℕ × Typ)) (i : ℕ) (p : List ℕ × Typ) → i < length all → p ≡ get_or all i p → CollectsAll old all (drop i all) mid → new ≡ mid ++ p.0 ∷ [] → CollectsAll old all (drop (i + 1) all) new
collects_at old mid new all i p less e c put =
    collects_next old mid new all (drop (i + 1) all) p (subst (λ left. CollectsAll old all left mid) (drop_more all i p less ∙ ap (λ x. x ∷ drop (i + 1) all) (sym e)) c) put

pub fixes_at : (names : List (List ℕ)) (all : List (List ℕ × Typ)) (i : ℕ) (p : List ℕ × Typ) (n : ℕ) (old : List (ℕ × Fact)) (m : ℕ) (mid : List (ℕ × Fact)) (k : ℕ) (between : List (ℕ × Fact)) (at number tag last : ℕ) (new : List (ℕ × Fact)) →
    i < length all → p ≡ get_or all i p → length names < n → Fixes names all (drop i all) n old m mid → Lays 0 [] p.1 m mid k between at → number ≡ number_among names p.0 → tag ≡ 0 → last ≡ k → new ≡ between ++ (tag, Same number at) ∷ [] → Fixes names all (drop (i + 1) all) n old last new
fixes_at names all i p n old m mid k between at number tag last new less e few f l number_is tag_is last_is new_is =
    rw (last_is, new_is, tag_is, number_is)
    (fixes_next names all (drop (i + 1) all) p n old m mid k between at few
    (subst (λ left. Fixes names all left n old m mid) (drop_more all i p less ∙ ap (λ x. x ∷ drop (i + 1) all) (sym e)) f) l)

pub wants_at : (s : Signature) (w u : Option Typ) (step tag at n : ℕ) (old : List (ℕ × Fact)) (m k : ℕ) (new last : List (ℕ × Fact)) → Wants s w tag at n old m new → tag ≡ step → k ≡ m → last ≡ new → u ≡ w → Wants s u step at n old k last
wants_at s w u step tag at n old m k new last h tag_is k_is last_is u_is = rw (k_is, last_is, u_is, ← tag_is) h

pub is_unknown : {X : Type 0} (o : Option X) (b : Bool) (P : Type 0) → b ≡ is_some o → b ≡ true → MatchOption o P (λ x. P → ⊥) → P → ⊥
is_unknown None b P e f h = cc
is_unknown (Some x) b P e f h = h

pub is_known : {X : Type 0} (o : Option X) (b : Bool) (P : Type 0) → b ≡ is_some o → b ≡ false → MatchOption o P (λ x. P → ⊥) → P
is_known None b P e f h = h
is_known (Some x) b P e f h = cc
