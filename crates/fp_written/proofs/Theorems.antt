-- The machine reads exactly the terms and types within the limits, and each fault is at its first place.
use Rattle.std.proofs.Common.{◌≡◌, ◌∙◌, ◌+◌, ◌<◌, ℕ, List, [], ◌∷◌, ◌++◌, Bool, true, false, cond, ◌&&◌, Option, Some, None, refl, sym, ap, append_assoc, append-nil, inl, inr, arith, codes, MatchOption}
use Rattle.std.proofs.lemmas.Bool.Decides.{nat_tests}
use Rattle.fp_words.specs.declared.word.Word.{Word}
use Rattle.fp_words.specs.declared.word.Word.TheVariants.{Number}
use Rattle.fp_words.specs.declared.word.Placed.{Placed}
use Rattle.fp_written.specs.declared.kinds.Kind.{Kind}
use Rattle.fp_written.specs.declared.kinds.Kind.TheVariants.{Term as TermKind, Ty as TypeKind}
use Rattle.fp_written.specs.Symbols.{Symbol}
use Rattle.fp_written.specs.Symbols.{Term, MoreTerm, AfterWhole, AfterTerm, AfterPart, Vars, MoreVars, VarName, Ty, MoreTy, AfterTy, AfterArg, ConName, WantColons, WantThen, WantElse, WantClose, MakeName, MakeNumber, MakeTyVar, MakeCon}
use Rattle.fp_raw.specs.Raws.{raw_variable, raw_applied, raw_none, raw_name}
use Rattle.fp_written.specs.Trees.{numeral_of}
use Rattle.fp_written.specs.Written.{constant, only_name, named, last_var, Keeps, WWhole, Tree, kind_of, whole_tokens, IsWhole, depth_of_whole, tree_of}
use Rattle.fp_written.specs.Machine.{keeps, Sized, SizedTy, sized, sized_ty, Made, State, Out, on, refused, too_deep, step, ended, then_out, run, out_ended, start}
use Rattle.std.proofs.Common.{get_or, length, take, drop, Result, Ok, Err, IfOk}
use Rattle.std.proofs.lemmas.Option.{none-some, same_Some}
use Rattle.std.proofs.lemmas.Bool.{cases_lt, false≢true}
use Rattle.std.proofs.lemmas.List.{take-append-drop, length-take-le, length-append, take_more}
use Rattle.std.proofs.Math.Seq.{take-length}
use Rattle.fp_written.specs.declared.kinds.Limits.{Limits}
use Rattle.fp_written.specs.declared.kinds.Found.{Found}
use Rattle.fp_written.specs.declared.kinds.ReadFault.{ReadFault}
use Rattle.fp_written.specs.declared.kinds.ReadFault.TheVariants.{Refused, TooDeep, TooLarge, NumberTooLarge, NoMemory}
use Rattle.fp_written.specs.Written.{NumberKeeps, NumbersKeep, Reads, Begins, FirstBad, FirstPast, no_limits, depth_only, depth_and_size}
use Rattle.fp_written.specs.Machine.{least, owed, number_in, Verdict, goes_on, is_refused, is_too_deep, is_too_large, has_large_number, judged}
use Rattle.fp_written.specs.Views.{tree_seen, numbers_keep, Reached, Halted, Early, at_word, at_end, Ran, FaultIs, IsReadAs}
use Rattle.fp_written.proofs.Bounds.{keeps_yes, keeps_is, keeps_less}
use Rattle.fp_written.proofs.Complete.{complete}
use Rattle.fp_written.proofs.Sizes.{needs}
use Rattle.fp_written.proofs.Freer.{step_freer, run_freer, run_append, run_more}
use Rattle.fp_written.proofs.Sound.{Cont, Promise, Grows, OutGrows, starts, run_keeps, sound, no_more, term_shut, part_shut, vars_body, type_shut, arg_shut}

an_x : List ℕ
an_x = codes "x"

-- what is promised can be had with the fewest words
record Had (s : Symbol) (K : Cont) (cs : List Placed) : Type 0 where
  more_tokens : List Placed
  terms : List Sized
  types : List SizedTy
  kept : K terms types (cs ++ more_tokens)
  few : length more_tokens ≡ least s
  small : (v : Option ℕ) → NumbersKeep v more_tokens

have_made : (s : Symbol) (o : Option Made) (K : Cont) (cs : List Placed) → least s ≡ 0 → MatchOption o ⊥ (λ m. K m.terms m.types cs) → Had s K cs
have_made s None K cs z k = absurd k
have_made s (Some m) K cs z k = record { more_tokens = []; terms = m.terms; types = m.types; kept = rw append-nil k; few = sym z; small = λ v. tt }

have : (l : Option ℕ) (s : Symbol) (K : Cont) (ts : List Sized) (us : List SizedTy) (cs : List Placed) → Promise l s K ts us cs → Had s K cs
have l (Term n k) K ts us cs (m, g, f) = record { more_tokens = _; terms = _; types = _; kept = f (named an_x 0) tt m g _ refl; few = refl; small = λ v. (tt, tt) }
have l (MoreTerm j n k) K ts us cs (t0, ts0, is, (w, lv, m, g, bs, e, f)) = record { more_tokens = []; terms = _; types = _; kept = f t0 w (omega arith) g _ (rw append-nil e); few = refl; small = λ v. tt }
have l AfterWhole K ts us cs (a, ts0, is, b, g, f) = record { more_tokens = []; terms = _; types = _; kept = f no_more tt g _ refl; few = refl; small = λ v. tt }
have l (AfterTerm k) K ts us cs (a, ts0, is, b, g, h, f) = record { more_tokens = _; terms = _; types = _; kept = f (term_shut 0) tt h _ refl; few = refl; small = λ v. (tt, tt) }
have l (AfterPart k) K ts us cs (a, ts0, is, g, h, f) = record { more_tokens = _; terms = _; types = _; kept = f (part_shut 0) tt h _ refl; few = refl; small = λ v. (tt, tt) }
have l (Vars b k) K ts us cs (g, f) = record { more_tokens = _; terms = _; types = _; kept = f (last_var (only_name an_x 0) 0 (named an_x 0)) (tt, tt) g _ refl; few = refl; small = λ v. (tt, (tt, (tt, tt))) }
have l (MoreVars b k) K ts us cs (g, f) = record { more_tokens = _; terms = _; types = _; kept = f (vars_body 0 (named an_x 0)) tt g _ refl; few = refl; small = λ v. (tt, (tt, tt)) }
have l (VarName b k) K ts us cs (g, f) = record { more_tokens = _; terms = _; types = _; kept = f an_x 0 0 (constant an_x 0) 0 tt (omega arith) g (vars_body 0 (named an_x 0)) tt (keeps_less l _ _ g (omega arith)) _ refl; few = refl; small = λ v. (tt, (tt, (tt, (tt, (tt, (tt, tt)))))) }
have l (Ty n k) K ts us cs (m, g, f) = record { more_tokens = _; terms = _; types = _; kept = f (constant an_x 0) tt m g _ refl; few = refl; small = λ v. (tt, tt) }
have l (MoreTy j n k) K ts us cs (t0, us0, is, (w, lv, m, g, bs, e, f)) = record { more_tokens = []; terms = _; types = _; kept = f t0 w (omega arith) g _ (rw append-nil e); few = refl; small = λ v. tt }
have l (AfterTy k) K ts us cs (a, us0, is, g, h, f) = record { more_tokens = _; terms = _; types = _; kept = f (type_shut 0) tt h _ refl; few = refl; small = λ v. (tt, tt) }
have l (AfterArg k) K ts us cs (g, f) = record { more_tokens = _; terms = _; types = _; kept = f (arg_shut 0) tt (keeps_less l _ _ g (omega arith)) an_x 0 _ refl; few = refl; small = λ v. (tt, (tt, tt)) }
have l ConName K ts us cs f = record { more_tokens = _; terms = _; types = _; kept = f an_x 0 _ refl; few = refl; small = λ v. (tt, tt) }
have l WantColons K ts us cs f = record { more_tokens = _; terms = _; types = _; kept = f 0 _ refl; few = refl; small = λ v. (tt, tt) }
have l WantThen K ts us cs f = record { more_tokens = _; terms = _; types = _; kept = f 0 _ refl; few = refl; small = λ v. (tt, tt) }
have l WantElse K ts us cs f = record { more_tokens = _; terms = _; types = _; kept = f 0 _ refl; few = refl; small = λ v. (tt, tt) }
have l WantClose K ts us cs f = record { more_tokens = _; terms = _; types = _; kept = f 0 _ refl; few = refl; small = λ v. (tt, tt) }
have l (MakeName x at) K ts us cs k = record { more_tokens = []; terms = sized (raw_name x at) 1 ∷ ts; types = us; kept = rw append-nil k; few = refl; small = λ v. tt }
have l (MakeNumber x at) K ts us cs k = record { more_tokens = []; terms = sized (numeral_of x at) 1 ∷ ts; types = us; kept = rw append-nil k; few = refl; small = λ v. tt }
have l (MakeTyVar x at) K ts us cs k = record { more_tokens = []; terms = ts; types = sized_ty (raw_variable x at) 1 ∷ us; kept = rw append-nil k; few = refl; small = λ v. tt }
have l (MakeCon x at) K ts us cs k = record { more_tokens = []; terms = ts; types = sized_ty (raw_applied x raw_none at) 1 ∷ us; kept = rw append-nil k; few = refl; small = λ v. tt }
have l s K ts us cs k = have_made s _ K cs refl k

keep_both : (v : Option ℕ) (xs ys : List Placed) → NumbersKeep v xs → NumbersKeep v ys → NumbersKeep v (xs ++ ys)
keep_both v [] ys p q = q
keep_both v (a ∷ xs) ys p q = (p.0, keep_both v xs ys p.1 q)

-- from a stack on there is a whole term or type, with the fewest words
record Finished (l : Option ℕ) (kind : Kind) (ss : List Symbol) (cs : List Placed) : Type 0 where
  more_tokens : List Placed
  what : WWhole
  written : IsWhole what
  of_kind : kind_of what ≡ kind
  shallow : Keeps l (depth_of_whole what)
  spelled : whole_tokens what ≡ cs ++ more_tokens
  few : length more_tokens ≡ owed ss
  small : (v : Option ℕ) → NumbersKeep v more_tokens

finished : (l : Option ℕ) (kind : Kind) (ss : List Symbol) (ts : List Sized) (us : List SizedTy) (cs : List Placed) → Grows l kind ss ts us cs → Finished l kind ss cs
unfolding Grows
finished l kind [] ts us cs (x, w, kd, g, is, e) = record { more_tokens = []; what = x; written = w; of_kind = kd; shallow = g; spelled = rw append-nil (sym e); few = refl; small = λ v. tt }
finished l kind (s ∷ ss) ts us cs g =
    let h = have l s (Grows l kind ss) ts us cs g in
    let b = finished l kind ss h.terms h.types (cs ++ h.more_tokens) h.kept in
    record {
      more_tokens = h.more_tokens ++ b.more_tokens;
      what = b.what;
      written = b.written;
      of_kind = b.of_kind;
      shallow = b.shallow;
      spelled = rw append_assoc at b.spelled;
      few = rw (length-append h.more_tokens b.more_tokens, h.few, b.few) refl;
      small = λ v. keep_both v h.more_tokens b.more_tokens (h.small v) (b.small v);
    }

grown : (l : Option ℕ) (kind : Kind) (tokens : List Placed) (s : State) → Keeps l 1 → run l (start kind) tokens ≡ on s → Grows l kind s.todo s.terms s.types tokens
unfolding OutGrows
grown l kind tokens s b e = rw e at (run_keeps l kind tokens (start kind) [] (starts l kind b))

number_is : (v : Option ℕ) (w : Word) → keeps v (number_in w) ≡ true → NumberKeeps v w
number_is v (Number n) e = keeps_is v n e
number_is v _ e = tt

number_yes : (v : Option ℕ) (w : Word) → NumberKeeps v w → keeps v 0 ≡ true → keeps v (number_in w) ≡ true
number_yes v (Number n) k z = keeps_yes v n k
number_yes v _ k z = z

both_true : (a b : Bool) → (a && b) ≡ true → (a ≡ true) × (b ≡ true)
both_true true b e = (refl, e)
both_true false b e = absurd (false≢true e)

numbers_is : (v : Option ℕ) (xs : List Placed) → numbers_keep v xs ≡ true → NumbersKeep v xs
numbers_is v [] e = tt
numbers_is v (a ∷ xs) e = let p = both_true (keeps v (number_in a.word)) (numbers_keep v xs) e in (number_is v a.word p.0, numbers_is v xs p.1)

-- the words up to a place, with the state there, begin some within the limits
begins_so : (limits : Limits) (kind : Kind) (xs : List Placed) (s : State) → Keeps limits.depth 1 → run limits.depth (start kind) xs ≡ on s → Keeps limits.size (length xs + owed s.todo) → NumbersKeep limits.number xs → Begins limits kind xs
begins_so limits kind xs s b e z v =
    let f = finished limits.depth kind s.todo s.terms s.types xs (grown limits.depth kind xs s b e) in
    record {
      tree = tree_of f.what;
      more_tokens = f.more_tokens;
      reads = record {
        what = f.what;
        of_kind = f.of_kind;
        written = f.written;
        shallow = f.shallow;
        short = rw (length-append xs f.more_tokens, f.few) z;
        small = keep_both limits.number xs f.more_tokens v (f.small limits.number);
        spelled = f.spelled;
        stands = refl;
      };
    }

-- what the grammar has within the depth, the machine reads
reads_run : (limits : Limits) (l : Option ℕ) (kind : Kind) (tokens : List Placed) (tree : Tree) → (r : Reads limits kind tokens tree) → Keeps l (depth_of_whole r.what) → out_ended (run l (start kind) tokens) ≡ Some tree
reads_run limits l kind tokens tree r k =
    rw (← r.of_kind, ← r.spelled, ← r.stands) (complete l r.what r.written k)

begins_run : (limits : Limits) (l : Option ℕ) (kind : Kind) (tokens : List Placed) (o : Out) → (b : Begins limits kind tokens) → Keeps l (depth_of_whole b.reads.what) → run l (start kind) tokens ≡ o → out_ended (then_out (λ n. run l n b.more_tokens) o) ≡ Some b.tree
begins_run limits l kind tokens o b k e =
    ap (λ o. out_ended (then_out (λ n. run l n b.more_tokens) o)) (sym e)
    ∙ ap (λ o. out_ended o) (sym (run_append l (start kind) tokens b.more_tokens))
    ∙ reads_run limits l kind (tokens ++ b.more_tokens) b.tree b.reads k

-- the place that the machine came to
reached_run : (limits : Limits) (kind : Kind) (tokens : List Placed) (at : ℕ) (s : State) → Reached limits kind tokens at s → length (take at tokens) ≡ at
reached_run limits kind tokens at s r = length-take-le at tokens r.within

good_so : (limits : Limits) (kind : Kind) (tokens : List Placed) (at : ℕ) (s : State) → Keeps limits.depth 1 → Reached limits kind tokens at s → Begins limits kind (take at tokens)
good_so limits kind tokens at s b r =
    begins_so limits kind (take at tokens) s b r.run_so (rw (reached_run limits kind tokens at s r) (keeps_is limits.size (at + owed s.todo) r.size_so)) (numbers_is limits.number (take at tokens) r.numbers_so)

-- verdicts
step_refused : (limits : Limits) (w : ℕ) (a : Placed) (o : Out) → judged limits w a o ≡ is_refused → o ≡ refused
step_refused limits w a refused e = refl
step_refused limits w a too_deep e = absurd (let bad : is_too_deep ≡ is_refused = e in cc)
step_refused limits w a (on s) e =
    elim (keeps limits.size (w + 1 + owed s.todo)) as (λ c. cond c (cond (keeps limits.number (number_in a.word)) (goes_on s) has_large_number) is_too_large ≡ is_refused → on s ≡ refused) [
      | true ↦ λ e. elim (keeps limits.number (number_in a.word)) as (λ d. cond d (goes_on s) has_large_number ≡ is_refused → on s ≡ refused) [
        | true ↦ λ e. absurd (let bad : goes_on s ≡ is_refused = e in cc)
        | false ↦ λ e. absurd (let bad : has_large_number ≡ is_refused = e in cc)
      ] e
      | false ↦ λ e. absurd (let bad : is_too_large ≡ is_refused = e in cc)
    ] e

step_deep : (limits : Limits) (w : ℕ) (a : Placed) (o : Out) → judged limits w a o ≡ is_too_deep → o ≡ too_deep
step_deep limits w a refused e = absurd (let bad : is_refused ≡ is_too_deep = e in cc)
step_deep limits w a too_deep e = refl
step_deep limits w a (on s) e =
    elim (keeps limits.size (w + 1 + owed s.todo)) as (λ c. cond c (cond (keeps limits.number (number_in a.word)) (goes_on s) has_large_number) is_too_large ≡ is_too_deep → on s ≡ too_deep) [
      | true ↦ λ e. elim (keeps limits.number (number_in a.word)) as (λ d. cond d (goes_on s) has_large_number ≡ is_too_deep → on s ≡ too_deep) [
        | true ↦ λ e. absurd (let bad : goes_on s ≡ is_too_deep = e in cc)
        | false ↦ λ e. absurd (let bad : has_large_number ≡ is_too_deep = e in cc)
      ] e
      | false ↦ λ e. absurd (let bad : is_too_large ≡ is_too_deep = e in cc)
    ] e

step_large : (limits : Limits) (w : ℕ) (a : Placed) (o : Out) → judged limits w a o ≡ is_too_large → (s : State) × (o ≡ on s) × (keeps limits.size (w + 1 + owed s.todo) ≡ false)
step_large limits w a refused e = absurd (let bad : is_refused ≡ is_too_large = e in cc)
step_large limits w a too_deep e = absurd (let bad : is_too_deep ≡ is_too_large = e in cc)
step_large limits w a (on s) e = (
  s,
  refl,
  elim (keeps limits.size (w + 1 + owed s.todo)) as (λ c. cond c (cond (keeps limits.number (number_in a.word)) (goes_on s) has_large_number) is_too_large ≡ is_too_large → c ≡ false) [
    | true ↦ λ e. elim (keeps limits.number (number_in a.word)) as (λ d. cond d (goes_on s) has_large_number ≡ is_too_large → true ≡ false) [
      | true ↦ λ e. absurd (let bad : goes_on s ≡ is_too_large = e in cc)
      | false ↦ λ e. absurd (let bad : has_large_number ≡ is_too_large = e in cc)
    ] e
    | false ↦ λ e. refl
  ] e,
)

step_number : (limits : Limits) (w : ℕ) (a : Placed) (o : Out) → judged limits w a o ≡ has_large_number → (s : State) × (o ≡ on s) × (keeps limits.size (w + 1 + owed s.todo) ≡ true) × (keeps limits.number (number_in a.word) ≡ false)
step_number limits w a refused e = absurd (let bad : is_refused ≡ has_large_number = e in cc)
step_number limits w a too_deep e = absurd (let bad : is_too_deep ≡ has_large_number = e in cc)
step_number limits w a (on s) e =
    elim (keeps limits.size (w + 1 + owed s.todo)) as (λ c. keeps limits.size (w + 1 + owed s.todo) ≡ c → cond c (cond (keeps limits.number (number_in a.word)) (goes_on s) has_large_number) is_too_large ≡ has_large_number → (t : State) × (on s ≡ on t) × (keeps limits.size (w + 1 + owed t.todo) ≡ true) × (keeps limits.number (number_in a.word) ≡ false)) [
      | true ↦ λ c e. (
        s,
        refl,
        c,
        elim (keeps limits.number (number_in a.word)) as (λ d. cond d (goes_on s) has_large_number ≡ has_large_number → d ≡ false) [
          | true ↦ λ e. absurd (let bad : goes_on s ≡ has_large_number = e in cc)
          | false ↦ λ e. refl
        ] e,
      )
      | false ↦ λ c e. absurd (let bad : is_too_large ≡ has_large_number = e in cc)
    ] refl e

pub step_goes : (limits : Limits) (w : ℕ) (a : Placed) (o : Out) (t : State) → judged limits w a o ≡ goes_on t → (o ≡ on t) × (keeps limits.size (w + 1 + owed t.todo) ≡ true) × (keeps limits.number (number_in a.word) ≡ true)
step_goes limits w a refused t e = absurd (let bad : is_refused ≡ goes_on t = e in cc)
step_goes limits w a too_deep t e = absurd (let bad : is_too_deep ≡ goes_on t = e in cc)
step_goes limits w a (on s) t e =
    elim (keeps limits.size (w + 1 + owed s.todo)) as (λ c. keeps limits.size (w + 1 + owed s.todo) ≡ c → cond c (cond (keeps limits.number (number_in a.word)) (goes_on s) has_large_number) is_too_large ≡ goes_on t → (on s ≡ on t) × (keeps limits.size (w + 1 + owed t.todo) ≡ true) × (keeps limits.number (number_in a.word) ≡ true)) [
      | true ↦ λ c e. elim (keeps limits.number (number_in a.word)) as (λ d. cond d (goes_on s) has_large_number ≡ goes_on t → (on s ≡ on t) × (keeps limits.size (w + 1 + owed t.todo) ≡ true) × (d ≡ true)) [
        | true ↦ λ e. (let same = goes_same s t e in (ap (λ x. on x) same, ap (λ x. keeps limits.size (w + 1 + owed x.todo)) (sym same) ∙ c, refl))
        | false ↦ λ e. absurd (let bad : has_large_number ≡ goes_on t = e in cc)
      ] e
      | false ↦ λ c e. absurd (let bad : is_too_large ≡ goes_on t = e in cc)
    ] refl e
  where
    goes_of : State → Verdict → State
    goes_of d (goes_on s) = s
    goes_of d _ = d

    goes_same : (s t : State) → goes_on s ≡ goes_on t → s ≡ t
    goes_same s t e = ap (λ v. goes_of s v) e

-- without the limit of depth
free_refused : (l : Option ℕ) (a : Placed) (s : State) → step l a s.todo s.terms s.types ≡ refused → step None a s.todo s.terms s.types ≡ refused
free_refused l a s e = rw e at (step_freer l a s.todo s.terms s.types)

free_deep : (l : Option ℕ) (a : Placed) (s : State) → step l a s.todo s.terms s.types ≡ too_deep → (t : State) × (step None a s.todo s.terms s.types ≡ on t)
free_deep l a s e = rw e at (step_freer l a s.todo s.terms s.types)

keeps_none : (n : ℕ) → Keeps None n
keeps_none n = tt

no_number : (w : Word) → NumberKeeps None w
no_number (Number n) = tt
no_number _ = tt

no_numbers : (xs : List Placed) → NumbersKeep None xs
no_numbers [] = tt
no_numbers (a ∷ xs) = (no_number a.word, no_numbers xs)

-- where the machine refuses a word nothing begins so
refused_there : (limits : Limits) (kind : Kind) (tokens : List Placed) (at : ℕ) → Keeps limits.depth 1 → Halted limits kind tokens at is_refused → FirstBad limits kind tokens at
refused_there limits kind tokens at b h =
    let r = h.reached in
    let e = step_refused limits at h.word _ h.judged_so in
    let stuck : run None (start kind) (take (at + 1) tokens) ≡ refused = rw h.is_next (run_more None (start kind) h.last (take at tokens) h.word (run_freer limits.depth (take at tokens) (start kind) h.last r.run_so) ∙ free_refused limits.depth h.word h.last e) in
    record {
      within = r.within;
      good = good_so limits kind tokens at h.last b r;
      bad = λ l g. none-some g.tree (begins_run no_limits None kind (take (at + 1) tokens) refused g tt stuck);
      early = λ z. absurd (omega (arith, h.inside));
    }

early_there : (limits : Limits) (kind : Kind) (tokens : List Placed) (at : ℕ) → Keeps limits.depth 1 → Early limits kind tokens → at ≡ length tokens → FirstBad limits kind tokens at
early_there limits kind tokens at b h z =
    let r = h.reached in
    let all : run limits.depth (start kind) tokens ≡ on h.last = rw take-length at r.run_so in
    let free = run_freer limits.depth tokens (start kind) h.last all in
    rw z
    (record {
      within = r.within;
      good = good_so limits kind tokens (length tokens) h.last b r;
      bad = λ l. absurd (omega (arith, l));
      early = λ _ tree d. none-some tree (sym h.none ∙ ap (λ o. out_ended o) (sym free) ∙ reads_run no_limits None kind tokens tree d tt);
    })

deep_there : (limits : Limits) (kind : Kind) (tokens : List Placed) (at : ℕ) → Keeps limits.depth 1 → Halted limits kind tokens at is_too_deep → FirstPast limits no_limits (depth_only limits) kind tokens at
deep_there limits kind tokens at b h =
    let r = h.reached in
    let e = step_deep limits at h.word _ h.judged_so in
    let f = free_deep limits.depth h.word h.last e in
    let free : run None (start kind) (take (at + 1) tokens) ≡ on f.0 = rw h.is_next (run_more None (start kind) h.last (take at tokens) h.word (run_freer limits.depth (take at tokens) (start kind) h.last r.run_so) ∙ f.1) in
    let stuck : run limits.depth (start kind) (take (at + 1) tokens) ≡ too_deep = rw h.is_next (run_more limits.depth (start kind) h.last (take at tokens) h.word r.run_so ∙ e) in
    record {
      within = h.inside;
      good = good_so limits kind tokens at h.last b r;
      still = begins_so no_limits kind (take (at + 1) tokens) f.0 tt free tt (no_numbers (take (at + 1) tokens));
      past = λ g. none-some g.tree (begins_run (depth_only limits) limits.depth kind (take (at + 1) tokens) too_deep g g.reads.shallow stuck);
    }

-- one word more within the depth
onward : (l : Option ℕ) (kind : Kind) (tokens : List Placed) (at : ℕ) (s t : State) (a : Placed) → run l (start kind) (take at tokens) ≡ on s → take (at + 1) tokens ≡ take at tokens ++ a ∷ [] → step l a s.todo s.terms s.types ≡ on t → run l (start kind) (take (at + 1) tokens) ≡ on t
onward l kind tokens at s t a r n e = rw n (run_more l (start kind) s (take at tokens) a r ∙ e)

length_more : (tokens : List Placed) (at : ℕ) → at < length tokens → length (take (at + 1) tokens) ≡ at + 1
length_more tokens at l = length-take-le (at + 1) tokens (omega arith)

large_there : (limits : Limits) (kind : Kind) (tokens : List Placed) (at : ℕ) → Keeps limits.depth 1 → Halted limits kind tokens at is_too_large → FirstPast limits (depth_only limits) (depth_and_size limits) kind tokens at
large_there limits kind tokens at b h =
    let r = h.reached in
    let e = step_large limits at h.word _ h.judged_so in
    let on_so = onward limits.depth kind tokens at h.last e.0 h.word r.run_so h.is_next e.1 in
    record {
      within = h.inside;
      good = good_so limits kind tokens at h.last b r;
      still = begins_so (depth_only limits) kind (take (at + 1) tokens) e.0 b on_so tt (no_numbers (take (at + 1) tokens));
      past = λ g.
          let d = begins_run (depth_and_size limits) limits.depth kind (take (at + 1) tokens) (on e.0) g g.reads.shallow on_so in
          let n = needs limits.depth g.more_tokens e.0 g.tree d in
          let k : Keeps limits.size (at + 1 + length g.more_tokens) = rw (length-append (take (at + 1) tokens) g.more_tokens, length_more tokens at h.inside) at g.reads.short in
          false≢true (sym e.2 ∙ keeps_yes limits.size _ (keeps_less limits.size _ (at + 1 + owed e.0.todo) k (omega (arith, n))));
    }

number_of_last : (v : Option ℕ) (xs : List Placed) (a : Placed) (ys : List Placed) → NumbersKeep v ((xs ++ a ∷ []) ++ ys) → NumberKeeps v a.word
number_of_last v [] a ys k = k.0
number_of_last v (x ∷ xs) a ys k = number_of_last v xs a ys k.1

number_no : (v : Option ℕ) (w : Word) → NumberKeeps v w → keeps v (number_in w) ≡ false → ⊥
number_no v (Number n) k e = false≢true (sym e ∙ keeps_yes v n k)
number_no v _ k e = zero_no v e
  where
    zero_no : (v : Option ℕ) → keeps v 0 ≡ false → ⊥
    zero_no None e = false≢true (sym e)
    zero_no (Some m) e = absurd (grind (arith, nat_tests))

number_there : (limits : Limits) (kind : Kind) (tokens : List Placed) (at : ℕ) → Keeps limits.depth 1 → Halted limits kind tokens at has_large_number → FirstPast limits (depth_and_size limits) limits kind tokens at
number_there limits kind tokens at b h =
    let r = h.reached in
    let e = step_number limits at h.word _ h.judged_so in
    let on_so = onward limits.depth kind tokens at h.last e.0 h.word r.run_so h.is_next e.1 in
    record {
      within = h.inside;
      good = good_so limits kind tokens at h.last b r;
      still = begins_so (depth_and_size limits) kind (take (at + 1) tokens) e.0 b on_so (rw (length_more tokens at h.inside) (keeps_is limits.size _ e.2)) (no_numbers (take (at + 1) tokens));
      past = λ g. number_no limits.number h.word.word (number_of_last limits.number (take at tokens) h.word g.more_tokens (rw h.is_next at g.reads.small)) e.3;
    }

pub fault_from : (limits : Limits) (kind : Kind) (tokens : List Placed) (x : Result Found ReadFault) → Keeps limits.depth 1 → Ran limits kind tokens x → FaultIs limits kind tokens x
fault_from limits kind tokens (Ok x) b r = tt
fault_from limits kind tokens (Err (Refused at)) b (at_word h) = refused_there limits kind tokens at b h
fault_from limits kind tokens (Err (Refused at)) b (at_end h z) = early_there limits kind tokens at b h z
fault_from limits kind tokens (Err (TooDeep at)) b h = deep_there limits kind tokens at b h
fault_from limits kind tokens (Err (TooLarge at)) b h = large_there limits kind tokens at b h
fault_from limits kind tokens (Err (NumberTooLarge at)) b h = number_there limits kind tokens at b h
fault_from limits kind tokens (Err NoMemory) b r = tt

-- what is read is of the grammar, and within the limits
found_tree : (limits : Limits) (kind : Kind) (tokens : List Placed) (tree : Tree) (s : State) → Keeps limits.depth 1 → Reached limits kind tokens (length tokens) s → ended s ≡ Some tree → Reads limits kind tokens tree
found_tree limits kind tokens tree s b r e =
    let all : run limits.depth (start kind) tokens ≡ on s = rw take-length at r.run_so in
    let x = sound limits.depth kind tokens tree b (ap (λ o. out_ended o) all ∙ e) in
    record {
      what = x.0;
      of_kind = x.2;
      written = x.1;
      shallow = x.3;
      short = keeps_less limits.size _ (length tokens) (keeps_is limits.size _ r.size_so) (omega arith);
      small = numbers_is limits.number tokens (rw take-length at r.numbers_so);
      spelled = sym x.5;
      stands = x.4;
    }

pub found_from : (limits : Limits) (kind : Kind) (tokens : List Placed) (x : Result Found ReadFault) → Keeps limits.depth 1 → Ran limits kind tokens x → IfOk x (λ f. Reads limits kind tokens (tree_seen f))
found_from limits kind tokens (Ok f) b (s, r, e) = found_tree limits kind tokens (tree_seen f) s b r e
found_from limits kind tokens (Err e) b r = tt

free_reads : (limits : Limits) (kind : Kind) (tokens : List Placed) (tree : Tree) → Reads limits kind tokens tree → Reads no_limits kind tokens tree
free_reads limits kind tokens tree r = record { what = r.what; of_kind = r.of_kind; written = r.written; shallow = tt; short = tt; small = no_numbers tokens; spelled = r.spelled; stands = r.stands }

deep_reads : (limits : Limits) (kind : Kind) (tokens : List Placed) (tree : Tree) → Reads limits kind tokens tree → Reads (depth_only limits) kind tokens tree
deep_reads limits kind tokens tree r = record { what = r.what; of_kind = r.of_kind; written = r.written; shallow = r.shallow; short = tt; small = no_numbers tokens; spelled = r.spelled; stands = r.stands }

sized_reads : (limits : Limits) (kind : Kind) (tokens : List Placed) (tree : Tree) → Reads limits kind tokens tree → Reads (depth_and_size limits) kind tokens tree
sized_reads limits kind tokens tree r = record { what = r.what; of_kind = r.of_kind; written = r.written; shallow = r.shallow; short = r.short; small = no_numbers tokens; spelled = r.spelled; stands = r.stands }

begins_front : (limits : Limits) (kind : Kind) (tokens : List Placed) (at : ℕ) (tree : Tree) → Reads limits kind tokens tree → Begins limits kind (take at tokens)
begins_front limits kind tokens at tree r = record { tree = tree; more_tokens = drop at tokens; reads = rw (take-append-drop at tokens) r }

not_bad : (limits : Limits) (kind : Kind) (tokens : List Placed) (at : ℕ) (tree : Tree) → FirstBad limits kind tokens at → Reads limits kind tokens tree → ⊥
not_bad limits kind tokens at tree f r =
    elim (cases_lt at (length tokens)) [
      | inl l ↦ f.bad l (begins_front no_limits kind tokens (at + 1) tree (free_reads limits kind tokens tree r))
      | inr e ↦ f.early (let same : at ≡ length tokens = omega (arith, f.within) in same) tree (free_reads limits kind tokens tree r)
    ]

pub only_from : (limits : Limits) (kind : Kind) (tokens : List Placed) (x : Result Found ReadFault) → Keeps limits.depth 1 → Ran limits kind tokens x → FaultIs limits kind tokens x → (tree : Tree) → Reads limits kind tokens tree → IsReadAs tree x
only_from limits kind tokens (Ok f) b (s, r, e) p tree d =
    let all : run limits.depth (start kind) tokens ≡ on s = rw take-length at r.run_so in
    same_Some (tree_seen f) tree (sym e ∙ ap (λ o. out_ended o) (sym all) ∙ reads_run limits limits.depth kind tokens tree d d.shallow)
only_from limits kind tokens (Err (Refused at)) b r p tree d = not_bad limits kind tokens at tree p d
only_from limits kind tokens (Err (TooDeep at)) b r p tree d = p.past (begins_front (depth_only limits) kind tokens (at + 1) tree (deep_reads limits kind tokens tree d))
only_from limits kind tokens (Err (TooLarge at)) b r p tree d = p.past (begins_front (depth_and_size limits) kind tokens (at + 1) tree (sized_reads limits kind tokens tree d))
only_from limits kind tokens (Err (NumberTooLarge at)) b r p tree d = p.past (begins_front limits kind tokens (at + 1) tree d)
only_from limits kind tokens (Err NoMemory) b r p tree d = tt

-- the words are those of one tree at most
pub one_tree : (limits : Limits) (kind : Kind) (tokens : List Placed) (x y : Tree) → Reads limits kind tokens x → Reads limits kind tokens y → x ≡ y
one_tree limits kind tokens x y p q = same_Some x y (sym (reads_run limits None kind tokens x p tt) ∙ reads_run limits None kind tokens y q tt)

-- the loop: at the start, after a word, and where it stops
pub start_reached : (limits : Limits) (kind : Kind) (tokens : List Placed) → Keeps limits.size 1 → Reached limits kind tokens 0 (start kind)
start_reached limits TermKind tokens k = record { within = omega arith; run_so = refl; size_so = keeps_yes limits.size 1 k; numbers_so = refl }
start_reached limits TypeKind tokens k = record { within = omega arith; run_so = refl; size_so = keeps_yes limits.size 1 k; numbers_so = refl }

numbers_more : (v : Option ℕ) (xs : List Placed) (a : Placed) → numbers_keep v xs ≡ true → keeps v (number_in a.word) ≡ true → numbers_keep v (xs ++ a ∷ []) ≡ true
numbers_more v [] a e k = rw k refl
numbers_more v (x ∷ xs) a e k = let p = both_true (keeps v (number_in x.word)) (numbers_keep v xs) e in rw (p.0, numbers_more v xs a p.1 k) refl

pub next_reached : (limits : Limits) (kind : Kind) (tokens : List Placed) (at : ℕ) (s t : State) (a : Placed) → Reached limits kind tokens at s → at < length tokens → take (at + 1) tokens ≡ take at tokens ++ a ∷ [] → judged limits at a (step limits.depth a s.todo s.terms s.types) ≡ goes_on t → Reached limits kind tokens (at + 1) t
next_reached limits kind tokens at s t a r l n j =
    let e = step_goes limits at a _ t j in
    record {
      within = omega arith;
      run_so = onward limits.depth kind tokens at s t a r.run_so n e.0;
      size_so = e.1;
      numbers_so = rw n (numbers_more limits.number (take at tokens) a r.numbers_so e.2);
    }

pub halted_at : (limits : Limits) (kind : Kind) (tokens : List Placed) (at : ℕ) (s : State) (a : Placed) (v : Verdict) → Reached limits kind tokens at s → at < length tokens → take (at + 1) tokens ≡ take at tokens ++ a ∷ [] → judged limits at a (step limits.depth a s.todo s.terms s.types) ≡ v → Halted limits kind tokens at v
halted_at limits kind tokens at s a v r l n j = record { last = s; reached = r; inside = l; word = a; is_next = n; judged_so = j }

pub next_is : (tokens : List Placed) (at : ℕ) (a : Placed) → at < length tokens → get_or tokens at a ≡ a → take (at + 1) tokens ≡ take at tokens ++ a ∷ []
next_is tokens at a l e = take_more tokens at a l ∙ ap (λ x. take at tokens ++ x ∷ []) e
