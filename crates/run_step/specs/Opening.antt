-- What is held now has its rows in bounds, and where a change goes there is a gap, and room.
-- Assumes nothing.
use Rattle.std.specs.Prelude as prelude
use Rattle.std.specs.Prelude.{◌≡◌, refl, List, map, ℕ, ◌+◌, ◌*◌, ◌^◌, ◌≤◌, ◌<◌, length}
use Rattle.std.proofs.Common.{sym, ◌∙◌, arith}
use Rattle.std.proofs.Math.Path.{ap, subst}
use Rattle.std.proofs.Math.Option.{Option, none, some}
use Rattle.std.proofs.Math.ListN.{get_or}
use Rattle.std.proofs.lemmas.List.{length-map}
use Rattle.orders.specs.Lists.{All}
use Rattle.orders.specs.ListLaws.{map_some, All-over}
use Rattle.orders.specs.Tree.{Tree, node, token, list, Path, HasRun, text, children, text_of}
use Rattle.definition.specs.Elements.{Table, table}
use Rattle.definition.specs.Recording.{Change}
use Rattle.definition.specs.Running.{World, Run, place as run_at}
use Rattle.definition_laws.specs.Held.{Leads}
use Rattle.definition_laws.specs.Right.{Sits}
use Rattle.definition_laws.specs.Running.{place_fits}
use Rattle.rows_model.specs.Row.{first_rows, rows_of, bytes}
use Rattle.rows_model.proofs.RowLaws.{size_pos, size_below, children_few, bytes_tree}
use Rattle.rows_model.specs.Place.{size, place, mark_of, Held}
use Rattle.rows_model.proofs.PlaceLaws.{place_lt, place_bound}
use Rattle.rows_model.proofs.Words.{rows_many, node_at}
use Rattle.run_model.specs.Store as model
use Rattle.run_model.specs.Store.{held_note, held_changed, store, gap}
use Rattle.run_model.proofs.Gaps.{gap_at, gap_place}
use Rattle.run_model.specs.Sums.{Within}
use Rattle.run_model.proofs.Sums.{gap_within}
use Rattle.run_model.proofs.Step.{paths_held}
use Rattle.read_element_table.specs.View.{view}
use Rattle.run_annotations.specs.Notes.{notes_of, length_notes_of}
use Rattle.run_annotations.specs.Changed.{changed_in, Ruled, count_by}
use Rattle.run_tree_store.specs.Stored.{stored}
use Rattle.run_tree_store.specs.Gaps.{held}
use Rattle.run_tree_state.specs.Store.{held_in, Open}
use Rattle.run_tree_state.specs.declared.TreeState.{TreeState}
use Rattle.run_step.specs.Standing.{Standing}

-- the root of all has no text of its own
text_below : (t : Tree ℕ) → 0 < length (list (children t)) → length (text t) ≡ length (text_of (children t))
unfolding children text list
text_below (node k cs) h = refl
text_below (token k x) h = absurd (omega arith)

module _ {n : ℕ} {lines source first : List ℕ} {s : TreeState} {rows marks notes changed : List ℕ} (v : Standing n lines source first s rows marks notes changed) where
  abbrev w : World
  w = v.now.world

  -- ── Part by part ──

  rows_same : first_rows v.begun.text s.rows rows ≡ rows_of w.trees
  unfolding stored store
  rows_same = ap (λ (x : model.Store). x.rows) v.now.same

  marks_same : marks ≡ map (mark_of w.trees) w.paths
  unfolding stored store
  marks_same = ap (λ (x : model.Store). x.marks) v.now.same

  notes_same : notes_of s.notes notes ≡ map (held_note w.trees) w.notes
  unfolding stored store
  notes_same = ap (λ (x : model.Store). x.notes) v.now.same

  changed_same : changed_in s.changed changed ≡ map (held_changed w.trees) w.changed
  unfolding stored store
  changed_same = ap (λ (x : model.Store). x.changed) v.now.same

  rows_size : size w.trees ≡ s.rows
  rows_size = rows_many v.begun.text s.rows rows w.trees v.long rows_same

  pub rows_some : 0 < s.rows
  rows_some = omega (arith, rows_size, size_pos w.trees)

  pub rows_few : s.rows ≤ 4097
  rows_few = omega (arith, rows_size, size_below w.trees, v.now.small.elements)

  pub notes_few : s.notes ≤ 1024
  notes_few = omega (arith, length_notes_of s.notes notes, ap length notes_same, length-map w.notes (held_note w.trees), v.now.small.notes)

  pub bytes_few : s.bytes ≤ 16384
  bytes_few = omega (arith, v.measured v.begun.text, ap bytes rows_same, bytes_tree w.trees, text_below w.trees (omega (arith, v.now.kept.follows.roots, v.begun.some)), v.now.small.text)

  pub marks_below : All (λ m. m < s.rows) marks
  unfolding mark_of
  marks_below =
      rw marks_same
      (All-over (mark_of w.trees) (Held w.trees) (λ m. m < s.rows)
      (λ o h. go o h)
      w.paths
      (paths_held v.begun.trees w v.now.kept.follows))
    where
      go : (o : Option Path) → Held w.trees o → mark_of w.trees o < s.rows
      go none h = rows_some
      go (some p) h = omega (arith, rows_size, place_lt p w.trees h.0 h.1)

  lead_low : (p : Path) → Leads w.trees p → place p w.trees < 2 ^ 16
  lead_low p l = omega (arith, rows_size, rows_few, place_lt p w.trees l.found l.there)

  pub notes_low : All (λ m. m.row < 2 ^ 16) (notes_of s.notes notes)
  unfolding held_note
  notes_low = rw notes_same (All-over (held_note w.trees) (λ m. Leads w.trees m.path) (λ m. m.row < 2 ^ 16) (λ m l. lead_low m.path l) w.notes v.now.kept.holds.notes)

  pub changed_low : All (λ c. c.row < 2 ^ 16) (changed_in s.changed changed)
  unfolding held_changed
  changed_low = rw changed_same (All-over (held_changed w.trees) (λ c. Leads w.trees c.0) (λ c. c.row < 2 ^ 16) (λ c l. lead_low c.0 l) w.changed v.now.kept.holds.changed)

  -- ── The gap ──

  module _ (c : Change) (sits : Sits (view n lines source) c) (g : model.Gap) (found : gap (view n lines source) (held_in v.begun.text s rows marks notes changed) c ≡ some g) where
    T : Table
    T = table 0 0 v.begun.trees

    there : (r : Run) × (HasRun w.trees r.parent r.from r.to) × (gap_at w.trees r ≡ g)
    there =
        let z = v.begun.table_told in
        let sits' : Sits (table 0 0 v.begun.trees) c = subst (λ (T : Table). Sits T c) z sits in
        let e : gap (table 0 0 v.begun.trees) (store w) c ≡ some g = sym (ap (λ (T : Table). gap T (store w) c) z) ∙ (sym (ap (λ (x : model.Store). gap (view n lines source) x c) v.now.same) ∙ found) in
        let (r, x, y) = map_some (gap_at w.trees) (run_at (table 0 0 v.begun.trees) w c) (sym (gap_place v.begun.trees w v.now.kept.follows c sits') ∙ e) in
        (r, (place_fits v.begun.trees w v.now.kept.follows c r sits' x).run, y)

    pub gap_room : (recorded : prelude.Option ℕ) (gain : ℕ) → gain ≤ 1024 → 3072 ≤ length notes → s.changed + count_by recorded gain ≤ length changed → Ruled recorded → Open s rows marks notes changed (held g) recorded gain
    unfolding held gap_at
    gap_room recorded gain few long room ruled =
        let (r, run, y) = there in
        let inside : Within (size w.trees) g = subst (Within (size w.trees)) y (gap_within w.trees r run) in
        let (is_node, _, many) = node_at v.begun.text s.rows rows w.trees v.long rows_same r.parent run.kind run.children run.found in
        let p : place r.parent w.trees ≡ g.parent = ap (λ (x : model.Gap). x.parent) y in
        let bound = place_bound r.parent w.trees (node run.kind run.children) run.found in
        record {
          long = v.long;
          few = rows_few;
          below = inside.below;
          order = inside.order;
          high = omega (arith, inside.high, rows_size);
          marked = marks_below;
          risen = v.risen;
          node = subst (λ (x : ℕ). 2147483648 ≤ get_or rows (3 * x) 0) p is_node;
          lost = subst (λ (x : ℕ). g.lost ≤ get_or rows (3 * x + 1) 0) p (omega (arith, many, run.within, ap (λ (x : model.Gap). x.lost) y));
          gained = subst (λ (x : ℕ). get_or rows (3 * x + 1) 0 + gain < 2 ^ 32) p (omega (arith, many, rows_few, rows_size, bound, children_few run.children));
          few_notes = notes_few;
          long_notes = omega (arith, notes_few);
          noted = notes_low;
          held = changed_low;
          room = room;
          ruled = ruled;
          few_bytes = bytes_few;
          measured = v.measured;
        }
