-- The entries of a source stay measures, and so are their instances.
use Rattle.std.proofs.Common.{◌≡◌, ◌∙◌, ◌<◌, ◌≤◌, ℕ, suc, Bool, true, false, cond, List, [], ◌∷◌, ◌++◌, length, get_or, set, take, drop, refl, sym, ap, subst, drop-cons}
use Rattle.std.proofs.lemmas.List.{set_split, drop_all, append-nil}
use Rattle.std.specs.Prelude.{Option, Some, None}
use Rattle.fp_term.specs.Types.{Typ, type_eq, retyped, matched}
use Rattle.fp_term.specs.Terms.{Tm, bound, free, constant, app, abs, is_open, retyped_term}
use Rattle.fp_term.specs.Typing.{function_type}
use Rattle.fp_term.proofs.Instances.{matched_instance}
use Rattle.fp_term.proofs.Retyped.{retyped_typed}
use Rattle.fp_measure.specs.Sources.{natural, IsMeasure, AreMeasures, AreEntries, put, with_instance, measures_of}

either_put : (b : Bool) (entry last : Typ × Tm) (more others : List (Typ × Tm)) → IsMeasure last.0 last.1 → AreEntries (entry ∷ more) → AreEntries others →
    AreEntries (cond b (last ∷ more) (entry ∷ others))
either_put true entry last more others m es os = (m, es.1)
either_put false entry last more others m es os = (es.0, os)

pub put_entries : (ty : Typ) (term : Tm) (entries : List (Typ × Tm)) → IsMeasure ty term → AreEntries entries → AreEntries (put ty term entries)
put_entries ty term [] m es = (m, tt)
put_entries ty term (entry ∷ more) m es = either_put (type_eq entry.0 ty) entry (ty, term) more (put ty term more) m es (put_entries ty term more m es.1)

pub more_entries : (ty : Typ) (term : Tm) (entries : List (Typ × Tm)) → IsMeasure ty term → AreEntries entries → AreEntries (entries ++ (ty, term) ∷ [])
more_entries ty term [] m es = (m, tt)
more_entries ty term (entry ∷ more) m es = (es.0, more_entries ty term more m es.1)

-- an instance of a closed term is closed
retyped_closed : (pairs : List (List ℕ × Typ)) (t : Tm) → is_open (retyped_term pairs t) ≡ is_open t
retyped_closed pairs (bound n) = refl
retyped_closed pairs (free a s) = refl
retyped_closed pairs (constant a s) = refl
retyped_closed pairs (app f x) = rw (retyped_closed pairs f, retyped_closed pairs x) refl
retyped_closed pairs (abs s x) = retyped_closed pairs x

instance_measures : (pairs : List (List ℕ × Typ)) (s ty : Typ) (t : Tm) → retyped pairs s ≡ ty → IsMeasure s t → IsMeasure ty (retyped_term pairs t)
instance_measures pairs s ty t is m = record {
  closed = retyped_closed pairs t ∙ m.closed;
  typed = rw (← is) (retyped_typed pairs [] t (function_type s natural) m.typed);
}

with_measures : (o : Option (List (List ℕ × Typ))) (s ty : Typ) (t : Tm) (others : List Tm) → matched [] s ty ≡ o → IsMeasure s t → AreMeasures ty others →
    AreMeasures ty (with_instance o t others)
with_measures None s ty t others is m ms = ms
with_measures (Some pairs) s ty t others is m ms = (instance_measures pairs s ty t (matched_instance s ty pairs is) m, ms)

pub instances_measure : (entries : List (Typ × Tm)) (ty : Typ) → AreEntries entries → AreMeasures ty (measures_of entries ty)
instances_measure [] ty es = tt
instances_measure (entry ∷ more) ty es =
    with_measures (matched [] entry.0 ty) entry.0 ty entry.1 (measures_of more ty) refl es.0 (instances_measure more ty es.1)

-- where the type's entry is found
put_here : (ty : Typ) (term : Tm) (entry : Typ × Tm) (more : List (Typ × Tm)) → type_eq entry.0 ty ≡ true → put ty term (entry ∷ more) ≡ (ty, term) ∷ more
put_here ty term entry more same = rw same refl

pub put_found : (ty : Typ) (term : Tm) (entries : List (Typ × Tm)) (place : ℕ) (entry : Typ × Tm) → entry ≡ get_or entries place entry → type_eq entry.0 ty ≡ true → place < length entries →
    put ty term entries ≡ take place entries ++ put ty term (drop place entries) → put ty term entries ≡ set entries place (ty, term)
put_found ty term entries place entry is same below e =
    let rest = drop-cons entries place entry below ∙ ap (λ (w : Typ × Tm). w ∷ drop (suc place) entries) (sym is) in
    e ∙ ap (λ (w : List (Typ × Tm)). take place entries ++ put ty term w) rest ∙
    ap (λ (w : List (Typ × Tm)). take place entries ++ w) (put_here ty term entry (drop (suc place) entries) same) ∙ sym (set_split entries place (ty, term) below)

-- the entries after one was put among them or after them
pub set_entries : (ty s : Typ) (term t : Tm) (entries found : List (Typ × Tm)) (place : ℕ) → found ≡ entries → put ty term found ≡ set found place (ty, term) → s ≡ ty → t ≡ term →
    IsMeasure ty term → AreEntries entries → AreEntries (set entries place (s, t))
set_entries ty s term t entries found place is e s_is t_is m es =
    let here : put ty term entries ≡ set entries place (ty, term) = subst (λ (w : List (Typ × Tm)). put ty term w ≡ set w place (ty, term)) is e in
    rw (s_is, t_is) (subst AreEntries here (put_entries ty term entries m es))

pub push_entries : (ty s : Typ) (term t : Tm) (entries new : List (Typ × Tm)) → new ≡ entries ++ (s, t) ∷ [] → s ≡ ty → t ≡ term →
    IsMeasure ty term → AreEntries entries → AreEntries new
push_entries ty s term t entries new is s_is t_is m es = rw (is, s_is, t_is) (more_entries ty term entries m es)

-- what is found in all entries are measures
pub found_measure : (ty : Typ) (found : List Tm) (entries : List (Typ × Tm)) (i : ℕ) → length entries ≤ i → found ++ measures_of (drop i entries) ty ≡ measures_of entries ty → AreEntries entries → AreMeasures ty found
found_measure ty found entries i past e es =
    let all : found ≡ measures_of entries ty = sym (append-nil found) ∙ sym (ap (λ (w : List (Typ × Tm)). found ++ measures_of w ty) (drop_all i entries past)) ∙ e in
    subst (AreMeasures ty) (sym all) (instances_measure entries ty es)
