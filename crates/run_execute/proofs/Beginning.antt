-- Before the first step: what is held.
-- Assumes nothing.
use Rattle.std.specs.Prelude.{Result}
use mathlib.Core.Path.{◌≡◌, refl, sym, ap, ◌∙◌, subst}
use mathlib.Core.List.{List, []}
use Prim.Native.Nat.{ℕ, ◌+◌, ◌-◌, ◌*◌, ◌/◌, ◌≤◌, ◌<◌}
use native.Mathlib.Nat.{zero-add}
use native.Mathlib.Numerals.{add-one}
use native.Mathlib.Omega.{arith}
use lib.ListN.{length, get_or, take, drop}
use lib.Seq.{paste, take-paste, take-take, length-take-le, get_or-take}
use Rattle.orders.specs.Lists.{All}
use Rattle.refusals.specs.declared.Refusal.{Refusal}
use Rattle.run_model.specs.Store.{Store, store_steps}
use Rattle.rows_model.specs.Row.{triples, first_rows, bytes}
use Rattle.rows_syntax_node.specs.Rising.{up_rising}
use Rattle.definition_laws.specs.Basics.{up_from}
use Rattle.read_element_table.specs.View.{view}
use Rattle.record_changes.specs.ChangeRowLaws.{row_at}
use Rattle.run_annotations.specs.Notes.{notes_of, notes_same}
use Rattle.run_annotations.specs.Changed.{changed_in}
use Rattle.run_tree_store.specs.Stored.{stored, stored_first}
use Rattle.run_tree_state.specs.Store.{held_in}
use Rattle.run_tree_state.specs.declared.TreeState.{TreeState}
use Rattle.run_step.specs.Standing.{Begun, Now, now_first, Standing}
use Rattle.run_step.specs.Stepping.{Performs}
use Rattle.run_prepare.specs.Parts.{notes_in, words_in}
use Rattle.run_execute.specs.Running.{plans_in, lists_all, RanSteps, TextLength, Began, Ran, marks_many}

-- ── What is held ────────────────────────────────────────────────────────────────────────────────────────────

-- words copied to the front stand there
front_copied : (d s : List ℕ) {out : List ℕ} → out ≡ paste d 0 s (length s) → take (length s) out ≡ take (length s) s
front_copied d s e = ap (take (length s)) e ∙ (ap (λ (j : ℕ). take j (paste d 0 s (length s))) (sym (zero-add (length s))) ∙ take-paste d 0 s (length s) (omega arith) (omega arith))

-- as the first k of s
part_copied : (d s : List ℕ) (k : ℕ) {out : List ℕ} → k ≤ length s → out ≡ paste d 0 (take (k - 0) (drop 0 s)) (length (take (k - 0) (drop 0 s))) → take k out ≡ take k s
part_copied d s k {out} h e =
    let z : k - 0 ≡ k = omega arith in
    let n : length (take k s) ≡ k = length-take-le k s h in
    (rw n at (front_copied d (take k s) (rw z at e))) ∙ take-take k k s (omega arith)

-- notes by the words at the front
notes_front : (k m : ℕ) (w v : List ℕ) → 3 * k ≤ m → take m w ≡ take m v → notes_of k w ≡ notes_of k v
notes_front k m w v h e = notes_same w v k (λ j b. sym (get_or-take m w j 0 (omega arith)) ∙ (ap (λ (l : List ℕ). get_or l j 0) e ∙ get_or-take m v j 0 (omega arith)))

pub begins : {n : ℕ} (rows source notes first : List ℕ) {sum : ℕ} {rows' marks' notes' : List ℕ} → 3 * n + 3 ≤ length source
    → TextLength n source sum
    → rows' ≡ paste rows 0 (take (3 * (n + 1) - 0) (drop 0 source)) (length (take (3 * (n + 1) - 0) (drop 0 source)))
    → marks' ≡ up_from 1 n
    → notes' ≡ paste notes 0 first (length first)
    → Began n source first rows' marks' notes' (record { root = 1; rows = n + 1; bytes = sum; notes = length first / 3; changed = 0 })
unfolding stored stored_first changed_in
begins {n} rows source notes first {sum} {rows'} {marks'} {notes'} h s e f g =
    let copied : take (3 * (n + 1)) rows' ≡ take (3 * (n + 1)) source = part_copied rows source (3 * (n + 1)) (omega arith) e in
    record {
      told = λ text changed i. record {
        rows = (ap (triples text) copied ∙ ap (λ (m : ℕ). first_rows text m source) (add-one n)) i;
        marks = f i;
        notes = notes_front (length first / 3) (length first) notes' first (omega arith) (front_copied notes first g) i;
        changed = [];
      };
      place = refl;
      count = refl;
      none = refl;
      measured = λ text. s text ∙ ap (λ (l : List ℕ). bytes (triples text l)) (sym copied);
      risen = rw f (up_rising 1 n);
    }

-- ── From there the run ──────────────────────────────────────────────────────────────────────────────────────

module _ {n : ℕ} {lines source first : List ℕ} (b : Begun n lines source first) {rows marks notes : List ℕ} {s : TreeState} (w : Began n source first rows marks notes s) (changed : List ℕ) (long : 12291 ≤ length rows) where
  stands : Standing n lines source first s rows marks notes changed
  stands = record {
    begun = b;
    now = subst (Now b.trees) (sym (w.told b.text changed)) (now_first b b.text refl);
    place = w.place;
    long = omega (arith, w.count, b.formed.few);
    held = omega (arith, w.none);
    measured = w.measured;
    risen = w.risen;
  }

  many : length marks ≡ n
  many = marks_many stands

  pub begun_standing : Standing (length marks) lines source first s rows marks notes changed
  begun_standing = subst (λ (k : ℕ). Standing k lines source first s rows marks notes changed) (sym many) stands

  pub begun_listed : (b : List ℕ) → All (λ e. e < n) (words_in b) → All (λ e. e < length marks) (words_in b)
  begun_listed b x = subst (λ (n : ℕ). All (λ e. e < n) (words_in b)) (sym many) x

  module _ (listed changes running : List ℕ) where
    pub begun_performs : All (λ k. Performs n (view n lines source) listed (row_at changes k)) running → All (λ k. Performs (length marks) (view (length marks) lines source) listed (row_at changes k)) running
    begun_performs x = subst (λ (n : ℕ). All (λ k. Performs n (view n lines source) listed (row_at changes k)) running) (sym many) x

    pub begun_room : {m : ℕ} → lists_all (view n lines source) listed changes running ≤ m → s.changed + lists_all (view (length marks) lines source) listed changes running ≤ m
    begun_room {m} h = subst (λ (n : ℕ). s.changed + lists_all (view n lines source) listed changes running ≤ m) (sym many) (omega (arith, w.none))

    pub executed : {rows' marks' notes' changed' : List ℕ} {x : Result TreeState Refusal}
        → RanSteps lines source first listed changes running s rows marks notes changed rows' marks' notes' changed' x → Ran n lines source first listed changes running rows' marks' notes' changed' x
    executed {rows'} {marks'} {notes'} {changed'} {x} u = record {
      answer = λ text.
          let F : ℕ → Store = λ n. stored_first text n source (notes_in first) [] in
          u.answer text
          ∙ (ap (λ (n : ℕ). store_steps (view n lines source) (F n) (held_in text s rows marks notes changed) (plans_in listed changes running)) many
          ∙ ap (λ (z : Store). store_steps (view n lines source) (F n) z (plans_in listed changes running)) (w.told text changed));
      standing = λ t q. subst (λ (k : ℕ). Standing k lines source first t rows' marks' notes' changed') many (u.standing t q);
    }
