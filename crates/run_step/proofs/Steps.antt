-- One step, from what was done.
-- Assumes nothing.
use Rattle.std.specs.Prelude as prelude
use Rattle.std.specs.Prelude.{None, Some, Result, Err}
use mathlib.Core.Path.{◌≡◌, refl, sym, ◌∙◌, subst}
use mathlib.Core.List.{List, []}
use Prim.Native.Nat.{ℕ, ◌+◌, ◌*◌, ◌^◌, ◌≤◌, ◌<◌}
use native.Mathlib.Omega.{arith}
use lib.ListN.{length, take}
use lib.Seq.{length-take-le}
use Rattle.orders.specs.Lists.{All, meant}
use Rattle.definition.specs.Refusals.{most_listed}
use Rattle.definition.specs.Basics.{◌>>=◌, refuse}
use Rattle.definition.specs.Words.{words}
use Rattle.words.specs.Bytes.{length_words}
use Rattle.refusals.specs.Numbers.{number}
use Rattle.refusals.specs.declared.Refusal.{Refusal}
use Rattle.refusals.specs.declared.Refusal.TheVariants.{Large}
use Rattle.rows_model.specs.Row.{first_rows}
use Rattle.rows_model.proofs.Words.{length_first}
use Rattle.run_model.specs.Sums.{Within}
use Rattle.run_annotations.specs.Changed.{changed_in, count_by}
use Rattle.run_annotations.specs.Places.{part_rows}
use Rattle.run_tree_store.specs.Stored.{stored}
use Rattle.run_tree_store.specs.declared.Gap.{Gap}
use Rattle.run_tree_state.specs.Coming.{Coming}
use Rattle.run_tree_state.specs.Store.{gap_told, Open}
use Rattle.run_tree_state.specs.Applied.{executed_in, judged_store, Applied}
use Rattle.run_tree_state.specs.declared.TreeState.{TreeState}
use Rattle.run_prepare.specs.Yields.{new_notes, part_sizes}
use Rattle.run_prepare.specs.Promises.{ElementsPrepared}
use Rattle.run_prepare.specs.Bounds.{sizes_told, sizes_small, sizes_placed}
use Rattle.run_prepare.specs.Refusal.{prepared_refused}
use Rattle.run_prepare.specs.declared.Prepared.{Prepared}
use Rattle.run_prepare.specs.Parts.{notes_in, notes_part}
use Rattle.run_model.specs.Store.{HeldNote}
use Rattle.run_annotations.specs.Notes.{notes_of}
use Rattle.run_step.specs.Stepping.{yields_in, SteppedAt}

-- ── Parts of what is prepared ───────────────────────────────────────────────────────────────────────────────

module _ {s : TreeState} {rows marks notes changed : List ℕ} {g : Gap} {recorded : prelude.Option ℕ} {count : ℕ} (v : Open s rows marks notes changed g recorded count)
    (prepared : List ℕ) {m : ℕ} (sizes incoming : List ℕ) {c : ℕ}
    (w : (m ≤ 4096) × (3 * m ≤ length prepared) × (count ≤ most_listed) × (count ≤ length sizes) × All (λ x. x < 2 ^ 16) (take count sizes) × All (λ x. x < 2 ^ 16) (part_rows 0 (take count sizes)) × (c ≤ 1024) × (3 * c ≤ length incoming)) where
  part_open : Open s rows marks notes changed g recorded (length (take count sizes))
  part_open = subst (Open s rows marks notes changed g recorded) (sym (length-take-le count sizes w.3)) v

  part_coming : Coming (take (3 * m) prepared) (take count sizes) (take (3 * c) incoming)
  part_coming =
      let e = length-take-le (3 * m) prepared w.1 in
      let f = length-take-le (3 * c) incoming w.7 in
      record {
        whole = omega arith;
        short = omega (arith, w.0);
        few_parts = omega (arith, length-take-le count sizes w.3, w.2);
        sized = w.4;
        placed = w.5;
        whole_notes = omega arith;
        few_notes = omega (arith, w.6);
      }

-- the notes that are held, as a part of their words
pub notes_held : {s : TreeState} {rows marks notes changed : List ℕ} {g : Gap} {recorded : prelude.Option ℕ} {count : ℕ} → Open s rows marks notes changed g recorded count → length (take (3 * s.notes) notes) ≤ 3072
notes_held {s} {notes = notes} v = omega (arith, length-take-le (3 * s.notes) notes v.long_notes, v.few_notes)

-- ── What the listed elements yield goes in ──────────────────────────────────────────────────────────────────

module _ {s : TreeState} {rows marks notes changed : List ℕ} {g : Gap} {recorded : prelude.Option ℕ} {count : ℕ} (v : Open s rows marks notes changed g recorded count)
    (rest : List ℕ) {source first prepared sizes incoming : List ℕ} {made : prelude.Option Prepared}
    (exact : ElementsPrepared rows s.rows source marks first (notes_in (take (3 * s.notes) notes)) (words count rest) g.from prepared sizes incoming made) where
  u : ElementsPrepared rows s.rows source marks first (notes_of s.notes notes) (words count rest) g.from prepared sizes incoming made
  u = subst (λ (held : List HeldNote). ElementsPrepared rows s.rows source marks first held (words count rest) g.from prepared sizes incoming made) (notes_part s.notes notes v.long_notes) exact

  pub made_small : {p : Prepared} → made ≡ Some p → (p.rows ≤ 4096) × All (λ x. x < 2 ^ 16) (take count sizes) × All (λ x. x < 2 ^ 16) (part_rows 0 (take count sizes)) × (p.notes ≤ 1024)
  made_small {p} e =
      let z = (u.parts [] [] []).came p.rows p.notes e in
      let q = subst (ElementsPrepared rows s.rows source marks first (notes_of s.notes notes) (words count rest) g.from prepared sizes incoming) e u in
      (z.few_rows, sizes_small count rest q, sizes_placed count rest q, z.few_notes)

  pub asks_apply : {p : Prepared} → made ≡ Some p → 12288 ≤ length prepared → most_listed ≤ length sizes → 3072 ≤ length incoming → count ≤ most_listed
      → Open s rows marks notes changed g recorded (length (take count sizes)) × Coming (take (3 * p.rows) prepared) (take count sizes) (take (3 * p.notes) incoming)
  asks_apply {p} e lp ls li few =
      let z = made_small e in
      let w : (p.rows ≤ 4096) × (3 * p.rows ≤ length prepared) × (count ≤ most_listed) × (count ≤ length sizes) × All (λ x. x < 2 ^ 16) (take count sizes) × All (λ x. x < 2 ^ 16) (part_rows 0 (take count sizes)) × (p.notes ≤ 1024) × (3 * p.notes ≤ length incoming) =
      (z.0, omega (arith, z.0), few, omega arith, z.1, z.2, z.3, omega (arith, z.3)) in
      (part_open v prepared sizes incoming w, part_coming v prepared sizes incoming w)

  module _ {above : ℕ} where
    pub step_refused : made ≡ None → SteppedAt s rows marks notes changed source first g above recorded (words count rest) rows marks notes changed (Err Large)
    unfolding executed_in number judged_store refuse ◌>>=◌ yields_in gap_told stored
    step_refused e = record {
      answer = λ text.
          let q = subst (ElementsPrepared rows s.rows source marks first (notes_of s.notes notes) (words count rest) g.from prepared sizes incoming) e u in
          let z = length_first text s.rows rows v.long in
          let inside : Within (length (first_rows text s.rows rows)) (gap_told g) = record { below = v.below; order = v.order; high = omega (arith, v.high) } in
          rw (prepared_refused q text [] (changed_in s.changed changed) above (gap_told g) (meant recorded) refl inside);
      grown = λ t q. let z : ◌≡◌ {A = ℕ} 0 1 = cc in absurd (omega arith);
    }

    pub step_done : {p : Prepared} {rows' marks' notes' changed' : List ℕ} {r : Result TreeState Refusal} → made ≡ Some p → count ≤ length sizes → 3072 ≤ length incoming
        → Applied s rows marks notes changed g above recorded (take (3 * p.rows) prepared) (take count sizes) (take (3 * p.notes) incoming) rows' marks' notes' changed' r
        → SteppedAt s rows marks notes changed source first g above recorded (words count rest) rows' marks' notes' changed' r
    unfolding yields_in new_notes part_sizes
    step_done {p} {rows'} {marks'} {notes'} {changed'} {r} e long li w =
        let q = subst (ElementsPrepared rows s.rows source marks first (notes_of s.notes notes) (words count rest) g.from prepared sizes incoming) e u in
        let n : length (take count sizes) ≡ length (words count rest) = length-take-le count sizes long ∙ sym (length_words count rest) in
        record {
          answer = λ text.
              let z = (q.parts text [] (changed_in s.changed changed)).came p.rows p.notes refl in
              w.answer text (yields_in s rows marks notes changed source first text (words count rest)) (record { told = z.rows; each = sizes_told count rest q text [] (changed_in s.changed changed); noted = notes_part p.notes incoming (omega (arith, z.few_notes)) ∙ z.notes });
          grown = λ t q. record { place = w.place t q; measured = w.measured t q; few = w.few t q; risen = w.risen t q; most = subst (λ (k : ℕ). t.changed ≤ s.changed + count_by recorded k) n (w.most t q) };
        }
