-- The lines of items that are left.
use Rattle.std.proofs.Common.{◌≡◌, ◌∙◌, ◌+◌, ◌<◌, ◌≤◌, ℕ, zero, suc, List, [], ◌∷◌, ◌++◌, Bool, length, drop, get_or, sym, ap, arith, append_assoc, append-nil, add-one}
use Rattle.std.proofs.lemmas.List.{drop_more}
use Rattle.std.proofs.Math.ListN.{drop_of_length-le}
use Rattle.fp_report.specs.declared.item.Item.{Item}
use Rattle.fp_report.specs.Items.{IsShown, AreShown, item_line, item_lines}

pub shown_at : (items : List Item) (i : ℕ) (item : Item) → i < length items → item ≡ get_or items i item → AreShown (drop i items) → IsShown item
shown_at [] i item l e h = absurd (omega arith)
shown_at (x ∷ xs) zero item l e h = rw e h.0
shown_at (x ∷ xs) (suc i) item l e h = shown_at xs i item (omega arith) e h

shown_from : (items : List Item) (i : ℕ) → i < length items → AreShown (drop i items) → AreShown (drop (suc i) items)
shown_from [] i l h = absurd (omega arith)
shown_from (x ∷ xs) zero l h = h.1
shown_from (x ∷ xs) (suc i) l h = shown_from xs i (omega arith) h

pub shown_next : (items : List Item) (i : ℕ) → i < length items → AreShown (drop i items) → AreShown (drop (i + 1) items)
shown_next items i l h = rw add-one (shown_from items i l h)

-- a line goes behind the text
pub lines_next : (full : Bool) (text more all : List ℕ) (items : List Item) (i : ℕ) (item : Item) → i < length items → item ≡ get_or items i item →
    more ≡ text ++ item_line full item → text ++ item_lines full (drop i items) ≡ all → more ++ item_lines full (drop (i + 1) items) ≡ all
lines_next full text more all items i item l e grown before =
    let left : drop i items ≡ item ∷ drop (i + 1) items = drop_more items i item l ∙ ap (λ x. x ∷ drop (i + 1) items) (sym e) in
    ap (λ w. w ++ item_lines full (drop (i + 1) items)) grown ∙ append_assoc text (item_line full item) (item_lines full (drop (i + 1) items))
    ∙ ap (λ w. text ++ item_lines full w) (sym left) ∙ before

-- none is left
pub lines_all : (full : Bool) (text all : List ℕ) (items : List Item) (i : ℕ) → length items ≤ i → text ++ item_lines full (drop i items) ≡ all → text ≡ all
lines_all full text all items i l e = sym (append-nil text) ∙ ap (λ w. text ++ item_lines full w) (sym (drop_of_length-le items l)) ∙ e
