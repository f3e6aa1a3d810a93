-- What comes in with some parts, and what is answered.
-- Assumes nothing.
use Rattle.std.specs.Prelude as prelude
use Rattle.std.specs.Prelude.{◌≡◌, None, Some, refl, Bool, true, false, cond, ◌||◌, ◌⊎◌, ℕ, zero, suc, ◌+◌, ◌≤◌, ◌<◌, length, get_or, ltb}
use Rattle.std.proofs.Common.{sym, ap, ◌∙◌, inl, inr, arith, add-zero, lt-ltb, le-ltb, ltb-true, ltb-false, length-append}
use mathlib.Core.List.{List, [], ◌∷◌, ◌++◌, map, flat_map, append_assoc}
use Rattle.orders.specs.Lists.{pick}
use Rattle.orders.specs.ListLaws.{either_true, map_append}
use Rattle.definition_laws.specs.Basics.{flat_map_append}
use Rattle.run_model.specs.Store.{HeldNote, HeldChanged, with_row, Part, part_of, new_rows, placed_parts}
use Rattle.run_annotations.specs.Promises.{note_in}
use Rattle.run_tree_store.specs.Stored.{stored, stored_first}
use Rattle.run_prepare.specs.Parts.{notes_in}
use Rattle.run_prepare.specs.declared.Prepared.{Prepared}

-- the notes that come in with parts, the first of which comes to stand at the row `at`
unfoldable pub new_notes : ℕ → List Part → List HeldNote
new_notes at new = flat_map (λ y. map (λ n. with_row n (y.0 + n.row)) y.1.notes) (placed_parts at new)

-- the number of rows of each part
unfoldable pub part_sizes : List Part → List ℕ
part_sizes new = map (λ y. length y.rows) new

-- so many rows and notes come in
abbrev pub came_in : ℕ → ℕ → prelude.Option Prepared
came_in m c = Some (record { rows = m; notes = c })

pub came_same : {m c m' c' : ℕ} → came_in m c ≡ came_in m' c' → (m ≡ m') × (c ≡ c')
came_same {m} {c} {m'} {c'} e =
    let z : ◌≡◌ {A = Prepared} (record { rows = m; notes = c }) (record { rows = m'; notes = c' }) = cc in
    (ap (λ (p : Prepared). p.rows) z, ap (λ (p : Prepared). p.notes) z)

-- what is answered of so many rows and notes: a step takes at most 4,096 rows and 1,024 notes
unfoldable pub prepared_by : ℕ → ℕ → prelude.Option Prepared
prepared_by m c = cond (ltb 4096 m || ltb 1024 c) None (came_in m c)

-- the notes of `size` rows: of those held now from an element's mark on, of the first ones from its own row on once its path is dropped
abbrev pub notes_from : List ℕ → List HeldNote → ℕ → ℕ → ℕ → List HeldNote
notes_from first notes e size zero = pick (note_in (e + 1) (e + 1 + size)) (notes_in first)
notes_from first notes e size (suc m) = pick (note_in (suc m) (suc m + size)) notes

-- the notes that come along with the `size` rows of element e
unfoldable pub notes_with : List ℕ → List ℕ → List HeldNote → ℕ → ℕ → List HeldNote
notes_with marks first notes e size = notes_from first notes e size (get_or marks e 0)

module _ (rows : List ℕ) (n : ℕ) (source marks first : List ℕ) (notes : List HeldNote) where
  -- what element e yields. Text and changed elements are not read
  abbrev pub part_in : List ℕ → List HeldChanged → List HeldChanged → ℕ → Part
  part_in text changed₀ changed = part_of (stored_first text (length marks) source (notes_in first) changed₀) (stored text n rows marks notes changed)

-- ── Parts behind others ───────────────────────────────────────────────────────────────────────────────────────

pub new_rows_append : (p q : List Part) → new_rows (p ++ q) ≡ new_rows p ++ new_rows q
unfolding new_rows
new_rows_append p q = flat_map_append (λ y. y.rows) p q

pub part_sizes_append : (p q : List Part) → part_sizes (p ++ q) ≡ part_sizes p ++ part_sizes q
unfolding part_sizes
part_sizes_append p q = map_append (λ y. length y.rows) p q

-- what comes second stands behind the rows of what comes first
pub new_notes_append : (at : ℕ) (p q : List Part) → new_notes at (p ++ q) ≡ new_notes at p ++ new_notes (at + length (new_rows p)) q
unfolding new_notes new_rows placed_parts flat_map
new_notes_append at [] q = rw (add-zero at)
new_notes_append at (y ∷ p) q =
    let new : List HeldNote = map (λ n. with_row n (at + n.row)) y.notes in
    let next : ℕ = at + length y.rows in
    let e : at + length (y.rows ++ new_rows p) ≡ next + length (new_rows p) = omega (arith, length-append y.rows (new_rows p)) in
    ap (λ (l : List HeldNote). new ++ l) (new_notes_append next p q)
    ∙ (sym (append_assoc new (new_notes next p) (new_notes (next + length (new_rows p)) q)) ∙ ap (λ (i : ℕ). (new ++ new_notes next p) ++ new_notes i q) (sym e))

-- ── What is answered ────────────────────────────────────────────────────────────────────────────────────────

-- too many: of rows or of notes
pub over : (m c : ℕ) → None ≡ prepared_by m c → (4096 < m) ⊎ (1024 < c)
unfolding prepared_by
over m c = go (ltb 4096 m || ltb 1024 c) refl
  where
    go : (b : Bool) → (ltb 4096 m || ltb 1024 c) ≡ b → None ≡ cond b None (came_in m c) → (4096 < m) ⊎ (1024 < c)
    go true e h = elim (either_true (ltb 4096 m) (ltb 1024 c) e) [ inl x ↦ inl (ltb-true 4096 m x) | inr x ↦ inr (ltb-true 1024 c x) ]
    go false e h = let z : ◌≡◌ {A = ℕ} 0 1 = cc in absurd (omega arith)

pub rows_over : (m c : ℕ) → 4096 < m → None ≡ prepared_by m c
unfolding prepared_by
rows_over m c h = rw (lt-ltb 4096 m h)

pub notes_over : (m c : ℕ) → 1024 < c → None ≡ prepared_by m c
unfolding prepared_by
notes_over m c k = go (ltb 4096 m)
  where
    go : (b : Bool) → None ≡ cond (b || ltb 1024 c) None (came_in m c)
    go true = refl
    go false = rw (lt-ltb 1024 c k)

-- neither
pub none_over : (m c : ℕ) → m ≤ 4096 → c ≤ 1024 → came_in m c ≡ prepared_by m c
unfolding prepared_by
none_over m c h k = rw (le-ltb 4096 m h, le-ltb 1024 c k)

-- what came in is what there is, and not too much
pub record Few (m c m' c' : ℕ) : Type 0 where
  pub rows : m' ≡ m
  pub notes : c' ≡ c
  pub few_rows : m ≤ 4096
  pub few_notes : c ≤ 1024

pub within : (m c m' c' : ℕ) → came_in m' c' ≡ prepared_by m c → Few m c m' c'
unfolding prepared_by
within m c m' c' = go (ltb 4096 m) (ltb 1024 c) refl refl
  where
    go : (x y : Bool) → ltb 4096 m ≡ x → ltb 1024 c ≡ y → came_in m' c' ≡ cond (x || y) None (came_in m c) → Few m c m' c'
    go true y e f h = let z : ◌≡◌ {A = ℕ} 0 1 = cc in absurd (omega arith)
    go false true e f h = let z : ◌≡◌ {A = ℕ} 0 1 = cc in absurd (omega arith)
    go false false e f h = record { rows = (came_same h).0; notes = (came_same h).1; few_rows = ltb-false 4096 m e; few_notes = ltb-false 1024 c f }

-- more than too many is too many
pub over_more : (m c m' c' : ℕ) → None ≡ prepared_by m c → m ≤ m' → c ≤ c' → None ≡ prepared_by m' c'
over_more m c m' c' h a b = elim (over m c h) [ inl x ↦ rows_over m' c' (omega arith) | inr x ↦ notes_over m' c' (omega arith) ]
