-- What words say, one by one and in lists.
use Rattle.std.proofs.Common.{◌≡◌, ℕ, zero, suc, ◌+◌, ◌-◌, ◌<◌, ◌≤◌, List, [], ◌∷◌, length, set, sym, refl, ap, ◌∙◌, arith, Bool, false, cond, eqb, ne_eqb, Option, Some, None}
use Rattle.fp_order.specs.declared.entry.Entry.{Entry}
use Rattle.fp_order.specs.declared.entry.Entry.TheVariants.{Unknown, Leq, Less}
use Rattle.fp_shown.specs.declared.state.CellState.{CellState}
use Rattle.fp_shown.specs.declared.state.CellState.TheVariants.{Free, Claimed, Settled, Cancelled}
use Rattle.fp_shown.specs.Machine.{settled_of, settled, state_at}
use Rattle.fp_board_rule.specs.Words.{code, entry_of, state_of, word_at, known_in, settled_words, states_of}

pub code_low : (e : Entry) → (1 < code e) × (code e < 5)
code_low Unknown = (omega arith, omega arith)
code_low Leq = (omega arith, omega arith)
code_low Less = (omega arith, omega arith)

pub entry_of-code : (e : Entry) → entry_of (code e) ≡ Some e
entry_of-code Unknown = refl
entry_of-code Leq = refl
entry_of-code Less = refl

pub state_of-code : (e : Entry) → state_of (code e) ≡ Settled e
state_of-code Unknown = refl
state_of-code Leq = refl
state_of-code Less = refl

-- a word above 4 is that of no settled cell, and the native comparison computes only at literals
pub entry_of-high : (n : ℕ) → 4 < n → entry_of n ≡ None
entry_of-high n up = let a : eqb n 2 ≡ false = ne_eqb n 2 (λ e. omega arith) in let b : eqb n 3 ≡ false = ne_eqb n 3 (λ e. omega arith) in let c : eqb n 4 ≡ false = ne_eqb n 4 (λ e. omega arith) in
    ap (λ (t : Bool). cond t (Some Unknown) (cond (eqb n 3) (Some Leq) (cond (eqb n 4) (Some Less) None))) a ∙ (ap (λ (t : Bool). cond t (Some Leq) (cond (eqb n 4) (Some Less) None)) b ∙ ap (λ (t : Bool). cond t (Some Less) None) c)

pub state_of-high : (n : ℕ) → 4 < n → state_of n ≡ Claimed (n - 8)
state_of-high n up = let z : eqb n 0 ≡ false = ne_eqb n 0 (λ e. omega arith) in let o : eqb n 1 ≡ false = ne_eqb n 1 (λ e. omega arith) in
    let a : eqb n 2 ≡ false = ne_eqb n 2 (λ e. omega arith) in let b : eqb n 3 ≡ false = ne_eqb n 3 (λ e. omega arith) in let c : eqb n 4 ≡ false = ne_eqb n 4 (λ e. omega arith) in
    ap (λ (t : Bool). cond t Free (cond (eqb n 1) Cancelled (cond (eqb n 2) (Settled Unknown) (cond (eqb n 3) (Settled Leq) (cond (eqb n 4) (Settled Less) (Claimed (n - 8))))))) z
    ∙ (ap (λ (t : Bool). cond t Cancelled (cond (eqb n 2) (Settled Unknown) (cond (eqb n 3) (Settled Leq) (cond (eqb n 4) (Settled Less) (Claimed (n - 8)))))) o
    ∙ (ap (λ (t : Bool). cond t (Settled Unknown) (cond (eqb n 3) (Settled Leq) (cond (eqb n 4) (Settled Less) (Claimed (n - 8))))) a
    ∙ (ap (λ (t : Bool). cond t (Settled Leq) (cond (eqb n 4) (Settled Less) (Claimed (n - 8)))) b ∙ ap (λ (t : Bool). cond t (Settled Less) (Claimed (n - 8))) c)))

pub code_of-entry : (n : ℕ) (e : Entry) → entry_of n ≡ Some e → n ≡ code e
code_of-entry zero e is = absurd (let w : None ≡ Some e = is in cc)
code_of-entry (suc zero) e is = absurd (let w : None ≡ Some e = is in cc)
code_of-entry (suc (suc zero)) e is = ap code (let w : Some Unknown ≡ Some e = is in let t : Unknown ≡ e = cc in t)
code_of-entry (suc (suc (suc zero))) e is = ap code (let w : Some Leq ≡ Some e = is in let t : Leq ≡ e = cc in t)
code_of-entry (suc (suc (suc (suc zero)))) e is = ap code (let w : Some Less ≡ Some e = is in let t : Less ≡ e = cc in t)
code_of-entry (suc (suc (suc (suc (suc n))))) e is = absurd (let w : None ≡ Some e = sym (entry_of-high (suc (suc (suc (suc (suc n))))) (omega arith)) ∙ is in cc)

pub code_one : (a b : Entry) → code a ≡ code b → a ≡ b
code_one a b e = let w : Some a ≡ Some b = sym (entry_of-code a) ∙ ap entry_of e ∙ entry_of-code b in cc

settled_of_state : (n : ℕ) → settled_of (state_of n) ≡ entry_of n
settled_of_state zero = refl
settled_of_state (suc zero) = refl
settled_of_state (suc (suc zero)) = refl
settled_of_state (suc (suc (suc zero))) = refl
settled_of_state (suc (suc (suc (suc zero)))) = refl
settled_of_state (suc (suc (suc (suc (suc n))))) = ap settled_of (state_of-high (suc (suc (suc (suc (suc n))))) (omega arith)) ∙ sym (entry_of-high (suc (suc (suc (suc (suc n))))) (omega arith))

pub state_of-claimed : (n m : ℕ) → 0 < m → n ≡ 8 + m → state_of n ≡ Claimed m
state_of-claimed n m up is = state_of-high n (omega arith) ∙ ap Claimed (let q : n - 8 ≡ m = omega arith in q)

pub claimed-state_of : (n m : ℕ) → 0 < m → state_of n ≡ Claimed m → n ≡ 8 + m
claimed-state_of zero m up is = absurd (let w : Free ≡ Claimed m = is in cc)
claimed-state_of (suc zero) m up is = absurd (let w : Cancelled ≡ Claimed m = is in cc)
claimed-state_of (suc (suc zero)) m up is = absurd (let w : Settled Unknown ≡ Claimed m = is in cc)
claimed-state_of (suc (suc (suc zero))) m up is = absurd (let w : Settled Leq ≡ Claimed m = is in cc)
claimed-state_of (suc (suc (suc (suc zero)))) m up is = absurd (let w : Settled Less ≡ Claimed m = is in cc)
claimed-state_of (suc (suc (suc (suc (suc n))))) m up is =
    let w : Claimed (suc (suc (suc (suc (suc n)))) - 8) ≡ Claimed m = sym (state_of-high (suc (suc (suc (suc (suc n))))) (omega arith)) ∙ is in let q : suc (suc (suc (suc (suc n)))) - 8 ≡ m = cc in omega arith

pub settled-state_of : (n : ℕ) (e : Entry) → state_of n ≡ Settled e → n ≡ code e
settled-state_of n e is = code_of-entry n e (sym (settled_of_state n) ∙ ap settled_of is)

pub cancelled-state_of : (n : ℕ) → state_of n ≡ Cancelled → n ≡ 1
cancelled-state_of zero is = absurd (let w : Free ≡ Cancelled = is in cc)
cancelled-state_of (suc zero) is = refl
cancelled-state_of (suc (suc zero)) is = absurd (let w : Settled Unknown ≡ Cancelled = is in cc)
cancelled-state_of (suc (suc (suc zero))) is = absurd (let w : Settled Leq ≡ Cancelled = is in cc)
cancelled-state_of (suc (suc (suc (suc zero)))) is = absurd (let w : Settled Less ≡ Cancelled = is in cc)
cancelled-state_of (suc (suc (suc (suc (suc n))))) is = absurd (let w : Claimed (suc (suc (suc (suc (suc n)))) - 8) ≡ Cancelled = sym (state_of-high (suc (suc (suc (suc (suc n))))) (omega arith)) ∙ is in cc)

pub settled_at : (n : ℕ) (words : List ℕ) (k : ℕ) → k < n → known_in (settled_words n words) k ≡ entry_of (word_at words k)
settled_at zero words k l = absurd (omega arith)
settled_at (suc n) [] k l = refl
settled_at (suc n) (x ∷ words) zero l = refl
settled_at (suc n) (x ∷ words) (suc k) l = settled_at n words k (omega arith)

pub settled_was : (n : ℕ) (words : List ℕ) (k : ℕ) (e : Entry) → known_in (settled_words n words) k ≡ Some e → (k < n) × (word_at words k ≡ code e)
settled_was zero words k e is = absurd (let w : None ≡ Some e = is in cc)
settled_was (suc n) [] k e is = absurd (let w : None ≡ Some e = is in cc)
settled_was (suc n) (x ∷ words) zero e is = (omega arith, code_of-entry x e is)
settled_was (suc n) (x ∷ words) (suc k) e is = let p = settled_was n words k e is in (let q = p.0 in omega arith, p.1)

pub length_settled : (n : ℕ) (words : List ℕ) → n ≤ length words → length (settled_words n words) ≡ n
length_settled zero words l = refl
length_settled (suc n) [] l = absurd (omega arith)
length_settled (suc n) (x ∷ words) l = let h = length_settled n words (omega arith) in omega arith

pub states_at : (n : ℕ) (words : List ℕ) (k : ℕ) → k < n → state_at (states_of n words) k ≡ state_of (word_at words k)
states_at zero words k l = absurd (omega arith)
states_at (suc n) [] k l = refl
states_at (suc n) (x ∷ words) zero l = refl
states_at (suc n) (x ∷ words) (suc k) l = states_at n words k (omega arith)

pub length_states : (n : ℕ) (words : List ℕ) → n ≤ length words → length (states_of n words) ≡ n
length_states zero words l = refl
length_states (suc n) [] l = absurd (omega arith)
length_states (suc n) (x ∷ words) l = let h = length_states n words (omega arith) in omega arith

pub states_set : (n : ℕ) (words : List ℕ) (k y : ℕ) → k < n → states_of n (set words k y) ≡ set (states_of n words) k (state_of y)
states_set zero words k y l = absurd (omega arith)
states_set (suc n) [] k y l = refl
states_set (suc n) (x ∷ words) zero y l = refl
states_set (suc n) (x ∷ words) (suc k) y l = ap (λ (t : List CellState). state_of x ∷ t) (states_set n words k y (omega arith))

pub settled_states : (n : ℕ) (words : List ℕ) → settled (states_of n words) ≡ settled_words n words
settled_states zero words = refl
settled_states (suc n) [] = refl
settled_states (suc n) (x ∷ words) =
    ap (λ (h : Option Entry). h ∷ settled (states_of n words)) (settled_of_state x) ∙ ap (λ (t : List (Option Entry)). entry_of x ∷ t) (settled_states n words)
