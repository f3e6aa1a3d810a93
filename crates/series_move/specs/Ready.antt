-- An accepted batch on a lent memory: what its run leaves is what the functions ask, and what they write is the memory that the definition leaves.
-- Assumes nothing.
use Rattle.std.specs.Prelude.{◌≡◌, Bool, true, ℕ, zero, suc, ◌+◌, ◌*◌, ◌^◌, ◌≤◌, ◌<◌, ltb, take, drop}
use Rattle.std.proofs.Math.Path.{refl, sym, ap}
use Rattle.std.proofs.Common.{◌∙◌, subst, arith, drop-drop}
use Rattle.std.proofs.Math.Bool.{false, not}
use mathlib.Core.List.{List, ◌∷◌, map}
use Rattle.std.proofs.Math.Option.{Option, none, some}
use Rattle.std.proofs.Math.ListN.{length, get_or}
use borrow.Author.Tests.{ltb-false}
use Rattle.orders.specs.Lists.{any, All}
use Rattle.orders.specs.ListLaws.{bool_absurd, either_false, none_passes, any_over}
use Rattle.orders.specs.Tree.{Tree, Path, resolve}
use Rattle.definition.specs.Basics.{gives, ◌>>=◌, refuse, is_some}
use Rattle.definition.specs.Choices.{Choices}
use Rattle.definition.specs.Words.{word}
use Rattle.definition.specs.Refusals.{Accepted, accepted}
use Rattle.definition.specs.Running.{World}
use Rattle.definition.specs.Finishing.{result}
use Rattle.definition.specs.Answers.{Plan, plan, ran}
use Rattle.definition_laws.specs.Running.{top, Follows, present_moved}
use Rattle.definition_laws.proofs.Limits.{ran_known}
use Rattle.definition_account.specs.Moved.{in_a_row}
use Rattle.rows_model.specs.Row.{rows_of, first_rows}
use Rattle.rows_model.specs.Place.{mark_of}
use Rattle.check_laws.specs.Claimed.{old_tree, flat_of}
use Rattle.check_laws.proofs.Alone.{first_resolve}
use Rattle.series_laws.specs.Memory.{Bookmark, Memory, most_later, astray, same_tree}
use Rattle.series_laws.specs.Follow.{moves, survivors, tree_of, Step, step}
use Rattle.series_laws.specs.Lent.{Lent, slot_words, longest_path, tree_bytes, cut_off, slots, slots_in, bookmark_in, beyond_slot, memory_in, lent, slots_out, left_in}
use Rattle.series_laws.proofs.Moves.{row_head}
use Rattle.series_laws.proofs.Passing.{Held, held_passed, Done, tree_left, moves_in0, bookmark_stands}
use Rattle.series_laws.proofs.Series.{lent_passed}
use Rattle.series_check.specs.Slots.{slot_at}
use Rattle.series_move.specs.Kept.{Moves, Leads}
use Rattle.series_move.specs.Packing.{Moving, bookmarks_after}

-- what a run of the trees leaves in words: the rows of the batch's e elements behind that of the node above all trees, n rows of the current trees, and where each element stands
pub record LeftBy (trees : List (Tree ℕ)) (w : World) (source : List ℕ) (e : ℕ) (marks rows : List ℕ) (n : ℕ) : Type 0 where
  pub old_text : List ℕ
  pub old : first_rows old_text (e + 1) source ≡ rows_of (top trees)
  pub new_text : List ℕ
  pub new : first_rows new_text n rows ≡ rows_of w.trees
  pub told : take e marks ≡ map (mark_of w.trees) w.paths
  pub many : e ≤ length marks
  pub long_old : 3 * (e + 1) ≤ length source
  pub long_new : 3 * n ≤ length rows
  pub few : e < 2 ^ 12
  pub few_new : n ≤ 4097

-- ── What a batch comes to ───────────────────────────────────────────────────────────────────────────────────

-- a batch, its plan and what its steps leave, on a memory
abbrev pub step_of : Accepted → Plan → World → Memory → Step
step_of a p w m =
    let r = result p.changes p.climbs w in
    record { moves = moves a p; result = r; memory = record { tree = tree_of r; bookmarks = survivors (moves a p) m.bookmarks } }

module _ (h : Choices) (m : Memory) (bytes : List ℕ) (a : Accepted) (p : Plan) (w : World) (accepts : accepted bytes ≡ gives a) (same : same_tree (flat_of (old_tree a.trees)) m.tree ≡ true) (plans : plan h a ≡ gives p)
    (runs : ran a p ≡ gives w)
  where
    abbrev pub done_of : Done h m bytes (step_of a p w m)
    done_of = record { batch = a; planned = p; world = w; accepts = accepts; same = same; plans = plans; runs = runs; moves = refl; result = refl; tree = refl; bookmarks = refl }

    pub step_of_lem : step h m bytes ≡ gives (step_of a p w m)
    unfolding step refuse ◌>>=◌
    step_of_lem = rw (accepts, same, plans, runs)

-- ── Slots that pass ─────────────────────────────────────────────────────────────────────────────────────────

-- what all slots are, slot i is
slot_all : (P : List ℕ → Type 0) (k : ℕ) (l : List ℕ) → All P (slots k l) → (i : ℕ) → i < k → P (take slot_words (drop (slot_words * i) l))
unfolding slots
slot_all P zero l h i m = absurd (omega arith)
slot_all P (suc k) l h zero m = h.0
slot_all P (suc k) l h (suc i) m =
    let e : slot_words + slot_words * i ≡ slot_words * suc i = omega arith in
    subst (λ (d : List ℕ). P (take slot_words d)) (drop-drop (slot_words * i) slot_words l ∙ ap (λ (a : ℕ). drop a l) e) (slot_all P k (drop slot_words l) h.1 i (omega arith))

slot_passes : (p : List ℕ → Bool) (b : List ℕ) → any p (slots_in b) ≡ false → (i : ℕ) → i < get_or b 0 0 → p (slot_at b i) ≡ false
unfolding slots_in slot_at
slot_passes p b e i h = ap (λ (d : List ℕ). p (take slot_words d)) (sym (drop-drop (slot_words * i) 1 b)) ∙ slot_all (λ s. p s ≡ false) (get_or b 0 0) (drop 1 b) (none_passes p (slots (get_or b 0 0) (drop 1 b)) e) i h

-- ── A batch ─────────────────────────────────────────────────────────────────────────────────────────────────

module _ {h : Choices} {m : Memory} {bytes : List ℕ} {s : Step} (d : Done h m bytes s) {source : List ℕ} {e : ℕ} {marks rows : List ℕ} {n : ℕ} (f : LeftBy d.batch.trees d.world source e marks rows n) where
  abbrev pub follows : Follows d.batch.trees d.world
  follows = (ran_known h bytes d.batch d.planned d.world d.accepts d.plans d.runs).follows

  -- A PATH OF TREE 0 MOVES AS THE BATCH'S MOVES IN A ROW DO
  pub moved_as : (p : Path) (v : Tree ℕ) → resolve (0 ∷ p) (top d.batch.trees) ≡ some v → follows.move (0 ∷ p) ≡ in_a_row s.moves (0 ∷ p)
  moved_as p v x =
      let b = bookmark_stands d p v x in
      ap follows.move (sym b.path) ∙ (sym (present_moved d.batch.trees d.world follows b.number b.within) ∙ b.moves)

  abbrev pub ready_run : Moves source e marks rows n
  ready_run = record {
    stood = record {
      trees = d.batch.trees;
      world = d.world;
      follows = follows;
      old_text = f.old_text;
      old = f.old;
      new_text = f.new_text;
      new = f.new;
      told = f.told;
      home = λ p u v x y. row_head s.moves p u (moves_in0 d) (sym (moved_as p v x) ∙ y);
      many = f.many;
      long_old = f.long_old;
      long_new = f.long_new;
      few = f.few;
      few_new = f.few_new;
    };
    moves = s.moves;
    told = moved_as;
  }

  module _ (l : Lent) (passes : lent most_later l ≡ gives m) where
    -- each bookmark is an element of tree 0
    pub found_old : (us : List (Tree ℕ)) → Held most_later m us → (i : ℕ) → i < get_or l.bookmarks 0 0 → (v : Tree ℕ) × (resolve (0 ∷ (bookmark_in (slot_at l.bookmarks i)).1) (top d.batch.trees) ≡ some v)
    unfolding memory_in astray old_tree is_some
    found_old us k i x =
        let P = lent_passed most_later l m passes in
        let all : any (astray us) (map bookmark_in (slots_in l.bookmarks)) ≡ false = ap (λ (m : Memory). any (astray us) m.bookmarks) P.is ∙ k.found in
        let one : astray us (bookmark_in (slot_at l.bookmarks i)) ≡ false = slot_passes (λ s. astray us (bookmark_in s)) l.bookmarks (sym (any_over bookmark_in (λ s. astray us (bookmark_in s)) (astray us) (λ s. refl) (slots_in l.bookmarks)) ∙ all) i x in
        let q : Path = (bookmark_in (slot_at l.bookmarks i)).1 in
        go q (resolve (0 ∷ q) (top (old_tree d.batch.trees))) refl (subst (λ (us : List (Tree ℕ)). astray us (bookmark_in (slot_at l.bookmarks i)) ≡ false) (tree_left d most_later us k) one)
      where
        go : (q : Path) (o : Option (Tree ℕ)) → resolve (0 ∷ q) (top (old_tree d.batch.trees)) ≡ o → not (is_some o) ≡ false → (v : Tree ℕ) × (resolve (0 ∷ q) (top d.batch.trees) ≡ some v)
        go q none e f = bool_absurd refl f
        go q (some v) e f = (v, sym (first_resolve d.batch.trees 2147483648 2147483648 q) ∙ e)

    pub found_short : (i : ℕ) → i < get_or l.bookmarks 0 0 → get_or (slot_at l.bookmarks i) 1 0 ≤ 63
    unfolding beyond_slot
    found_short i x = ltb-false longest_path (get_or (slot_at l.bookmarks i) 1 0) (slot_passes beyond_slot l.bookmarks (lent_passed most_later l m passes).slots i x)

    pub found_at : (i : ℕ) → i < get_or l.bookmarks 0 0 → Leads ready_run (slot_at l.bookmarks i)
    found_at i x =
        let P = lent_passed most_later l m passes in
        let (v, y) = found_old P.trees (held_passed most_later m P.trees P.held) i x in
        record { short = found_short i x; end = v; leads = y }

    -- what the functions ask
    abbrev pub ready_moving : Moving source e marks rows n l.bookmarks (get_or l.bookmarks 0 0)
    ready_moving = record { run = ready_run; found = found_at }

    pub ready_room : 1 + 65 * get_or l.bookmarks 0 0 ≤ length l.bookmarks
    unfolding cut_off
    ready_room =
        let (a, b) = either_false (ltb (length l.tree) (tree_bytes (word l.tree) (word (drop 4 l.tree)))) (ltb (length l.bookmarks) (1 + slot_words * get_or l.bookmarks 0 0)) (lent_passed most_later l m passes).whole in
        ltb-false (length l.bookmarks) (1 + slot_words * get_or l.bookmarks 0 0) b

    -- WHAT THEY WRITE IS WHAT THE DEFINITION LEAVES
    pub ready_left : {out : List ℕ} → ((v : Moving source e marks rows n l.bookmarks (get_or l.bookmarks 0 0)) → out ≡ bookmarks_after v.run.moves l.bookmarks) → out ≡ (left_in l s.memory).bookmarks
    unfolding bookmarks_after left_in memory_in
    ready_left q =
        let is : s.memory.bookmarks ≡ survivors s.moves (map bookmark_in (slots_in l.bookmarks)) = d.bookmarks ∙ ap (λ (m : Memory). survivors s.moves m.bookmarks) (sym (lent_passed most_later l m passes).is) in
        q ready_moving ∙ ap {B = List ℕ} (λ (cs : List Bookmark). length cs ∷ slots_out cs (drop 1 l.bookmarks)) (sym is)
