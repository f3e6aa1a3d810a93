-- What the run starts from, and what is held between steps, as the words tell them.
-- Assumes nothing.
use Rattle.std.specs.Prelude.{◌≡◌}
use Rattle.std.proofs.Math.Path.{refl, sym, ap}
use Rattle.std.proofs.Common.{◌∙◌, add-one, arith}
use mathlib.Core.List.{List, [], ◌∷◌, map, flat_map}
use Rattle.std.proofs.Math.Option.{none, some}
use Prim.Native.Nat.{ℕ, ◌+◌, ◌*◌, ◌/◌, ◌≤◌, ◌<◌}
use Rattle.std.proofs.Math.ListN.{length, length-map}
use Rattle.std.proofs.Math.Seq.{ext_get_or}
use Rattle.orders.specs.Lists.{All}
use Rattle.orders.specs.Tree.{Tree, node, forest, text as text_in, deepest, children, Path}
use Rattle.orders.proofs.TreeLaws.{list_forest}
use Rattle.definition.specs.Basics.{Answer, gives, ◌>>=◌}
use Rattle.definition.specs.Elements.{Table, table, row, no_row}
use Rattle.definition.specs.Planning.{Planned}
use Rattle.definition.specs.Refusals.{most_listed}
use Rattle.definition.specs.Rewriting.{Note}
use Rattle.definition.specs.Running.{World, begin, present, step, steps}
use Rattle.definition_laws.specs.Answers.{gives_inj, both_given}
use Rattle.definition_laws.specs.Basics.{get_d_map, up_from, up_at, up_long}
use Rattle.definition_laws.specs.Measures.{text_of_list, deepest_each}
use Rattle.definition_laws.specs.Spelling.{Worded}
use Rattle.definition_laws.specs.Right.{Right}
use Rattle.definition_laws.specs.Running.{follows_begin}
use Rattle.definition_laws.specs.Held.{begin_holds}
use Rattle.definition_laws.specs.Limits.{Small}
use Rattle.definition_laws.proofs.Limits.{steps_small}
use Rattle.rows_model.specs.Row.{first_rows, rows_of, bytes}
use Rattle.rows_model.proofs.RowLaws.{size_below}
use Rattle.rows_model.specs.Place.{mark_of}
use Rattle.rows_model.proofs.Words.{rows_many}
use Rattle.rows_model.proofs.Numbers.{element_row}
use Rattle.rows_syntax_node.specs.Rising.{Rising}
use Rattle.run_model.specs.Store.{held_note, Store, store, store_step}
use Rattle.run_model.proofs.Step.{Kept, step_store, step_kept}
use Rattle.run_model.proofs.Spliced.{store_same}
use Rattle.read_element_table.specs.View.{view}
use Rattle.read_element_table.specs.Told.{length_view}
use Rattle.read_element_table.specs.Wellformed.{Lines}
use Rattle.run_annotations.specs.Notes.{length_notes_of}
use Rattle.run_tree_store.specs.Stored.{stored, stored_first}
use Rattle.run_tree_state.specs.Store.{held_in}
use Rattle.run_tree_state.specs.declared.TreeState.{TreeState}
use Rattle.run_prepare.specs.Parts.{notes_in}

-- room in the slices that are lent to the steps of a run: for rows and notes, and for what comes in with a step, its rows, the number of rows of each part, its notes
abbrev pub Lent : List ℕ → List ℕ → List ℕ → List ℕ → List ℕ → Type 0
Lent rows notes prepared sizes incoming = (12291 ≤ length rows) × (3072 ≤ length notes) × (12288 ≤ length prepared) × (most_listed ≤ length sizes) × (3072 ≤ length incoming)

-- ── The batch ───────────────────────────────────────────────────────────────────────────────────────────────

-- the batch's trees stand in the table of n elements and in the rows of `source`, and its notes, as first moved, in `first`
pub record Begun (n : ℕ) (lines source first : List ℕ) : Type 0 where
  pub text : List ℕ
  pub trees : List (Tree ℕ)
  pub notes : List Note
  pub table_told : view n lines source ≡ table 0 0 trees
  pub rows_told : first_rows text (n + 1) source ≡ rows_of (node 2147483648 (forest trees))
  pub notes_told : notes_in first ≡ map (held_note (node 2147483648 (forest trees))) notes
  pub noted : All (λ m. (e : ℕ) × (e < length (table 0 0 trees)) × (m.path ≡ (row (table 0 0 trees) e).path)) notes
  pub some : 0 < length trees
  pub worded : All Worded trees
  pub shallow : All (λ t. deepest t ≤ 64) trees
  pub written : length (flat_map text_in trees) ≤ 16384
  pub formed : Lines n lines
  pub long : 3 * n + 3 ≤ length source
  pub few_notes : length first ≤ 768

module _ {n : ℕ} {lines source first : List ℕ} (b : Begun n lines source first) where
  abbrev T : Table
  T = table 0 0 b.trees

  abbrev pub first_world : World
  first_world = begin b.trees T b.notes

  many : length T ≡ n
  many = ap length (sym b.table_told) ∙ length_view n lines source

  marks_first : up_from 1 n ≡ map (mark_of (node 2147483648 (forest b.trees))) (map (λ r. some r.path) T)
  unfolding mark_of row
  marks_first =
      let top : Tree ℕ = node 2147483648 (forest b.trees) in
      let long : length (map (mark_of top) (map (λ r. some r.path) T)) ≡ n = length-map (map (λ r. some r.path) T) (mark_of top) ∙ (length-map T (λ r. some r.path) ∙ many) in
      ext_get_or 0 (up_from 1 n) (map (mark_of top) (map (λ r. some r.path) T)) (up_long 1 n ∙ sym long)
      (λ e h.
      let k : e < n = omega (arith, up_long 1 n) in
      let l : e < length T = omega (arith, many) in
      up_at 1 n e k
      ∙ sym
      (get_d_map (mark_of top) (map (λ r. some r.path) T) e 0 none (omega (arith, length-map T (λ r. some r.path)))
      ∙ (ap (mark_of top) (get_d_map (λ r. some r.path) T e none no_row l) ∙ (element_row b.trees 2147483648 e l ∙ omega arith))))

  -- what the batch's own words tell is the definition's world before the first step
  pub first_told : stored_first b.text n source (notes_in first) [] ≡ store first_world
  unfolding stored_first stored store begin
  first_told = store_same (ap (λ (k : ℕ). first_rows b.text k source) (sym (add-one n)) ∙ b.rows_told) marks_first b.notes_told refl

  begin_present : (e : ℕ) → e < length T → (p : Path) × (present first_world e ≡ some p)
  unfolding begin present row
  begin_present e h = ((row T e).path, get_d_map (λ r. some r.path) T e none no_row h)

  first_kept : Kept b.trees first_world
  unfolding begin children
  first_kept = record { follows = follows_begin b.trees b.notes b.worded; holds = begin_holds b.trees b.notes b.noted; shallow = deepest_each 64 b.trees b.shallow }

  first_small : Small first_world
  unfolding begin children
  first_small =
      let top : Tree ℕ = node 2147483648 (forest b.trees) in
      let m = rows_many b.text (n + 1) source top (omega (arith, b.long)) b.rows_told in
      record {
        elements = omega (arith, size_below top, m, b.formed.few);
        text = omega (arith, b.written, ap length (text_of_list (forest b.trees) ∙ ap (flat_map text_in) (list_forest b.trees)));
        notes = omega (arith, ap length b.notes_told, length_notes_of (length first / 3) first, length-map b.notes (held_note top), b.few_notes);
        depth = deepest_each 64 b.trees b.shallow;
      }

-- ── Now ─────────────────────────────────────────────────────────────────────────────────────────────────────

-- a store is that of a world that the steps keep, within line 12
pub record Now (ts : List (Tree ℕ)) (s : Store) : Type 0 where
  pub world : World
  pub kept : Kept ts world
  pub small : Small world
  pub same : s ≡ store world

module _ {n : ℕ} {lines source first : List ℕ} (b : Begun n lines source first) where
  pub now_first : (text : List ℕ) → text ≡ b.text → Now b.trees (stored_first text n source (notes_in first) [])
  now_first text e = record { world = first_world b; kept = first_kept b; small = first_small b; same = rw e (first_told b) }

  -- one step on
  pub now_next : (s t : Store) (p : Planned) → Now b.trees s → Right (view n lines source) p.change
      → store_step (view n lines source) (stored_first b.text n source (notes_in first) []) s p ≡ gives t → Now b.trees t
  unfolding ◌>>=◌ steps
  now_next s t p v c e =
      let z = b.table_told in
      let right : Right (T b) p.change = rw z at c in
      let told : store_step (T b) (store (first_world b)) (store v.world) p ≡ gives t = rw (z, first_told b, v.same) at e in
      let (w, x, y) = both_given (step (T b) (first_world b) v.world p) (λ w. gives (store w)) (sym (step_store b.trees (first_world b) (first_kept b) (begin_present b) v.world p v.kept right) ∙ told) in
      record {
        world = w;
        kept = step_kept b.trees (first_world b) (first_kept b) (begin_present b) v.world w p v.kept right x;
        small = steps_small (T b) (first_world b) (p ∷ []) v.world w v.small (ap (λ (o : Answer World). o >>= λ next. steps (T b) (first_world b) next []) x);
        same = sym (gives_inj y);
      }

-- what is held now, in words
pub record Standing (n : ℕ) (lines source first : List ℕ) (s : TreeState) (rows marks notes changed : List ℕ) : Type 0 where
  pub begun : Begun n lines source first
  pub now : Now begun.trees (held_in begun.text s rows marks notes changed)
  pub place : s.root ≡ 1
  pub long : 3 * s.rows ≤ length rows
  pub held : s.changed ≤ length changed
  pub measured : (text : List ℕ) → s.bytes ≡ bytes (first_rows text s.rows rows)
  pub risen : Rising marks
