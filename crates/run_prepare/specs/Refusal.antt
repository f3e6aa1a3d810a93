-- Where too much comes in, the step is refused: 12 is certain.
-- Assumes nothing.
use Rattle.std.specs.Prelude.{◌≡◌, None, refl, Bool, true, false, ◌||◌, List, ◌++◌, map, ℕ, ◌+◌, length, ltb}
use Rattle.std.proofs.Common.{ap, ◌∙◌, inl, inr, arith, lt-ltb, length-append}
use Rattle.std.proofs.Math.Option
use Rattle.std.proofs.Math.Option.{Option}
use Rattle.orders.specs.Lists.{pick}
use Rattle.orders.specs.Tree.{shift}
use Rattle.rows_model.specs.Row.{bytes, height}
use Rattle.run_model.specs.Store.{HeldNote, HeldChanged, with_row, Store, Gap, Part, new_rows, spliced_store, store_too_large}
use Rattle.run_model.specs.Sums.{Within}
use Rattle.run_model.proofs.Sums.{splice_length}
use Rattle.run_prepare.specs.Yields.{new_notes, prepared_by, over, part_in}
use Rattle.run_prepare.specs.Promises.{ElementsPrepared}
use Rattle.run_tree_store.specs.Stored.{stored}

third : (a b c d : Bool) → c ≡ true → (a || b || c || d) ≡ true
third true b c d h = refl
third false true c d h = refl
third false false c d h = rw h

-- More rows or notes than a step takes make too much, wherever they go.
pub too_many_refused : (above : ℕ) (g : Gap) (new : List Part) (recorded : Option ℕ) (s : Store) → Within (length s.rows) g → None ≡ prepared_by (length (new_rows new)) (length (new_notes g.from new))
    → store_too_large above new (spliced_store g new recorded s) ≡ true
unfolding store_too_large spliced_store new_notes
too_many_refused above g new recorded s w h = elim (over _ _ h) [
  | inl x ↦
      let l = splice_length s.rows g.parent g.from g.to g.lost (new_rows new) (length new) w.order w.high in
      rw (lt-ltb 4097 (length (spliced_store g new recorded s).rows) (omega (arith, l, w.below, w.order, w.high)))
  | inr x ↦
      let kept : List HeldNote = pick (λ n. Option.map (with_row n) (shift g.from g.to (length (new_rows new)) n.row)) s.notes in
      third (ltb 4097 (length (spliced_store g new recorded s).rows)) (ltb 16384 (bytes (spliced_store g new recorded s).rows)) _ (ltb 64 (above + height (new_rows new)))
      (lt-ltb 1024 (length (kept ++ new_notes g.from new)) (omega (arith, length-append kept (new_notes g.from new))))
]

-- So where nothing is answered, the step is refused.
pub prepared_refused : {rows : List ℕ} {n : ℕ} {source marks first : List ℕ} {notes : List HeldNote} {l : List ℕ} {at : ℕ} {prepared sizes incoming : List ℕ}
    → ElementsPrepared rows n source marks first notes l at prepared sizes incoming None
    → (text : List ℕ) (changed₀ changed : List HeldChanged) (above : ℕ) (g : Gap) (recorded : Option ℕ) → at ≡ g.from → Within (length (stored text n rows marks notes changed).rows) g
    → store_too_large above (map (part_in rows n source marks first notes text changed₀ changed) l)
    (spliced_store g (map (part_in rows n source marks first notes text changed₀ changed) l) recorded (stored text n rows marks notes changed))
    ≡ true
prepared_refused {rows} {n} {source} {marks} {first} {notes} {l} P text changed₀ changed above g recorded e w =
    let new : List Part = map (part_in rows n source marks first notes text changed₀ changed) l in
    too_many_refused above g new recorded (stored text n rows marks notes changed) w
    ((P.parts text changed₀ changed).answer ∙ ap (λ (i : ℕ). prepared_by (length (new_rows new)) (length (new_notes i new))) e)
