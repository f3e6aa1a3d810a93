-- The run's loop: its invariant, that it holds at the start, after a turn, and what it says at the end.
-- Assumes nothing.
use Rattle.std.specs.Prelude.{Result, Ok, Err}
use mathlib.Core.Path.{◌≡◌, refl, sym, ap, ◌∙◌, subst}
use mathlib.Core.List.{List, [], ◌∷◌}
use Prim.Native.Nat.{ℕ, suc, ◌+◌, ◌^◌, ◌≤◌, ◌<◌}
use native.Mathlib.Numerals.{add-one}
use native.Mathlib.Omega.{arith}
use lib.ListN.{length, get_or, drop, drop_of_length-le}
use lib.Seq.{drop-cons}
use Rattle.orders.specs.Lists.{All}
use Rattle.orders.specs.ListLaws.{All-at}
use Rattle.definition.specs.Basics.{Answer, refused, ◌>>=◌}
use Rattle.definition.specs.Elements.{Table}
use Rattle.refusals.specs.Numbers.{number}
use Rattle.refusals.specs.declared.Refusal.{Refusal}
use Rattle.run_model.specs.Store.{Store, store_step, store_steps}
use Rattle.read_element_table.specs.View.{view}
use Rattle.record_changes.specs.ChangeRowLaws.{row_at}
use Rattle.record_rewritten.specs.Stated.{plan_of}
use Rattle.run_tree_store.specs.Stored.{stored_first}
use Rattle.run_tree_state.specs.Store.{held_in}
use Rattle.run_tree_state.specs.Applied.{executed_in}
use Rattle.run_tree_state.specs.declared.TreeState.{TreeState}
use Rattle.run_step.specs.Standing.{Standing}
use Rattle.run_step.specs.Stepping.{Performs, lists_in, Stepped}
use Rattle.run_prepare.specs.Parts.{notes_in, words_in}
use Rattle.run_execute.specs.Running.{plans_in, lists_all, RanSteps, marks_many, standing_next}

-- the changes at the first i places are performed, from what was held at first (n elements, m changed elements at most)
pub record Walking (n : ℕ) (lines source first listed changes running : List ℕ) (m : ℕ) (s₀ : TreeState) (rows₀ marks₀ notes₀ changed₀ : List ℕ) (s : TreeState) (rows marks notes changed : List ℕ) (i : ℕ) : Type 0 where
  pub standing : Standing n lines source first s rows marks notes changed
  pub steps : (text : List ℕ)
      → store_steps (view n lines source) (stored_first text n source (notes_in first) []) (held_in text s₀ rows₀ marks₀ notes₀ changed₀) (plans_in listed changes running)
      ≡ store_steps (view n lines source) (stored_first text n source (notes_in first) []) (held_in text s rows marks notes changed) (plans_in listed changes (drop i running))
  pub room : s.changed + lists_all (view n lines source) listed changes (drop i running) ≤ m
  pub inside : i ≤ length running

module _ {n : ℕ} {lines source first listed changes running : List ℕ} {m : ℕ} {s₀ : TreeState} {rows₀ marks₀ notes₀ changed₀ : List ℕ} {s : TreeState} {rows marks notes changed : List ℕ} {i : ℕ}
    (v : Walking n lines source first listed changes running m s₀ rows₀ marks₀ notes₀ changed₀ s rows marks notes changed i) where
  many : length marks ≡ n
  many = marks_many v.standing

  pub walking_standing : Standing (length marks) lines source first s rows marks notes changed
  walking_standing = subst (λ (k : ℕ). Standing k lines source first s rows marks notes changed) (sym many) v.standing

  pub walking_listed : (b : List ℕ) (k : ℕ) → All (λ e. e < n) (words_in b) → k < 2 ^ 32 → All (λ e. e < length marks) (words_in b) × (k < 2 ^ 32)
  walking_listed b k x h = (subst (λ (n : ℕ). All (λ e. e < n) (words_in b)) (sym many) x, h)

  module _ {k : ℕ} (h : i < length running) (e : (k ≡ get_or running i 0) × (k < 2 ^ 32)) (all : All (λ k. Performs n (view n lines source) listed (row_at changes k)) running) where
    here : drop i running ≡ k ∷ drop (suc i) running
    here = drop-cons running i 0 h ∙ ap (λ (x : ℕ). x ∷ drop (suc i) running) (sym e.0)

    performs : Performs n (view n lines source) listed (row_at changes k)
    performs = subst (λ (k : ℕ). Performs n (view n lines source) listed (row_at changes k)) (sym e.0) (All-at (λ k. Performs n (view n lines source) listed (row_at changes k)) 0 running i h all)

    pub walking_performs : Performs (length marks) (view (length marks) lines source) listed (row_at changes k)
    walking_performs = subst (λ (n : ℕ). Performs n (view n lines source) listed (row_at changes k)) (sym many) performs

    parted : lists_all (view n lines source) listed changes (drop i running) ≡ lists_in (view n lines source) listed (row_at changes k) + lists_all (view n lines source) listed changes (drop (suc i) running)
    unfolding lists_all
    parted = ap (lists_all (view n lines source) listed changes) here

    pub walking_room : s.changed + lists_in (view (length marks) lines source) listed (row_at changes k) ≤ m
    walking_room = subst (λ (n : ℕ). s.changed + lists_in (view n lines source) listed (row_at changes k) ≤ m) (sym many) (omega (arith, v.room, parted))

    module _ {rows' marks' notes' changed' : List ℕ} {r : Result TreeState Refusal} (w : Stepped lines source first listed (row_at changes k) s rows marks notes changed rows' marks' notes' changed' r) where
      answered : (text : List ℕ) → executed_in text rows' marks' notes' changed' r ≡ store_step (view n lines source) (stored_first text n source (notes_in first) []) (held_in text s rows marks notes changed) (plan_of listed (row_at changes k))
      answered text =
          subst (λ (n : ℕ). executed_in text rows' marks' notes' changed' r ≡ store_step (view n lines source) (stored_first text n source (notes_in first) []) (held_in text s rows marks notes changed) (plan_of listed (row_at changes k))) many
          (w.answer text)

      -- the run is this step and the others
      turned : (text : List ℕ)
          → store_steps (view n lines source) (stored_first text n source (notes_in first) []) (held_in text s₀ rows₀ marks₀ notes₀ changed₀) (plans_in listed changes running)
          ≡ (executed_in text rows' marks' notes' changed' r >>= λ next. store_steps (view n lines source) (stored_first text n source (notes_in first) []) next (plans_in listed changes (drop (suc i) running)))
      unfolding store_steps plans_in
      turned text =
          let T : Table = view n lines source in
          let F : Store = stored_first text n source (notes_in first) [] in
          let S : Store = held_in text s rows marks notes changed in
          v.steps text
          ∙ (ap (λ (ks : List ℕ). store_steps T F S (plans_in listed changes ks)) here
          ∙ ap (λ (o : Answer Store). o >>= λ next. store_steps T F next (plans_in listed changes (drop (suc i) running))) (sym (answered text)))

      pub walking_refused : {x : Refusal} (text : List ℕ) → r ≡ Err x
          → refused (number x) ≡ store_steps (view n lines source) (stored_first text n source (notes_in first) []) (held_in text s₀ rows₀ marks₀ notes₀ changed₀) (plans_in listed changes running)
      unfolding executed_in ◌>>=◌
      walking_refused text q = sym (turned text ∙ ap (λ (o : Result TreeState Refusal). executed_in text rows' marks' notes' changed' o >>= λ next. store_steps (view n lines source) (stored_first text n source (notes_in first) []) next (plans_in listed changes (drop (suc i) running))) q)

      pub walking_next : {t : TreeState} → r ≡ Ok t → 12291 ≤ length rows' → length changed' ≡ m → Walking n lines source first listed changes running m s₀ rows₀ marks₀ notes₀ changed₀ t rows' marks' notes' changed' (i + 1)
      unfolding executed_in ◌>>=◌
      walking_next {t} q long full =
          let w' : Stepped lines source first listed (row_at changes k) s rows marks notes changed rows' marks' notes' changed' (Ok t) = subst (Stepped lines source first listed (row_at changes k) s rows marks notes changed rows' marks' notes' changed') q w in
          let g = w'.grown t refl in
          let next = standing_next walking_standing walking_performs w' long (omega (arith, walking_room)) in
          let few : t.changed ≤ s.changed + lists_in (view n lines source) listed (row_at changes k) = subst (λ (n : ℕ). t.changed ≤ s.changed + lists_in (view n lines source) listed (row_at changes k)) many g.most in
          record {
            standing = subst (λ (k : ℕ). Standing k lines source first t rows' marks' notes' changed') many next;
            steps = λ text. rw (add-one i) (turned text ∙ ap (λ (o : Result TreeState Refusal). executed_in text rows' marks' notes' changed' o >>= λ next. store_steps (view n lines source) (stored_first text n source (notes_in first) []) next (plans_in listed changes (drop (suc i) running))) q);
            room = rw (add-one i) (omega (arith, v.room, parted, few));
            inside = omega arith;
          }

-- ── The answers ─────────────────────────────────────────────────────────────────────────────────────────────

module _ {lines source first listed changes running : List ℕ} {m : ℕ} {s₀ : TreeState} {rows₀ marks₀ notes₀ changed₀ : List ℕ} {s : TreeState} {rows marks notes changed : List ℕ} {i : ℕ}
    (v : Walking (length marks₀) lines source first listed changes running m s₀ rows₀ marks₀ notes₀ changed₀ s rows marks notes changed i) where
  pub run_done : length running ≤ i → RanSteps lines source first listed changes running s₀ rows₀ marks₀ notes₀ changed₀ rows marks notes changed (Ok s)
  unfolding executed_in store_steps plans_in
  run_done h =
      let z : drop i running ≡ [] = drop_of_length-le running {i = i} h in
      record {
        answer = λ text. sym (v.steps text ∙ rw z);
        standing = λ t q. let y : s ≡ t = cc in subst (λ (t : TreeState). Standing (length marks₀) lines source first t rows marks notes changed) y v.standing;
      }

  pub run_refused : {k : ℕ} {x : Refusal} {rows' marks' notes' changed' : List ℕ} {r : Result TreeState Refusal} → i < length running → (k ≡ get_or running i 0) × (k < 2 ^ 32)
      → All (λ k. Performs (length marks₀) (view (length marks₀) lines source) listed (row_at changes k)) running
      → Stepped lines source first listed (row_at changes k) s rows marks notes changed rows' marks' notes' changed' r → r ≡ Err x
      → RanSteps lines source first listed changes running s₀ rows₀ marks₀ notes₀ changed₀ rows' marks' notes' changed' (Err x)
  unfolding executed_in
  run_refused h e all w q = record { answer = λ text. walking_refused v h e all w text q; standing = λ t q. let z : ◌≡◌ {A = ℕ} 0 1 = cc in absurd (omega arith) }
