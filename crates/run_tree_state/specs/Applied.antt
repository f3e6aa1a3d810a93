-- One step, where its gap and its parts are known.
-- Assumes nothing.
use Rattle.std.specs.Prelude as prelude
use Rattle.std.specs.Prelude.{◌≡◌, Result, Ok, Err, List, ℕ, ◌+◌, ◌≤◌, length}
use Rattle.definition.specs.Basics.{Answer, refused, gives, ◌>>=◌, refuse}
use Rattle.refusals.specs.Numbers.{number}
use Rattle.refusals.specs.declared.Refusal.{Refusal}
use Rattle.rows_model.specs.Row.{first_rows, bytes}
use Rattle.rows_syntax_node.specs.Rising.{Rising}
use Rattle.run_model.specs.Store.{Store, Part, spliced_store, store_too_large}
use Rattle.run_annotations.specs.Changed.{count_by}
use Rattle.run_tree_store.specs.declared.Gap.{Gap}
use Rattle.run_tree_state.specs.Store.{held_in, gap_told, Comes}
use Rattle.run_tree_state.specs.declared.TreeState.{TreeState}
use Rattle.orders.specs.Lists.{meant}

-- the answer that the words tell
unfoldable pub executed_in : List ℕ → List ℕ → List ℕ → List ℕ → List ℕ → Result TreeState Refusal → Answer Store
executed_in text rows marks notes changed (Err r) = refused (number r)
executed_in text rows marks notes changed (Ok s) = gives (held_in text s rows marks notes changed)

-- 12, or what is held then
unfoldable pub judged_store : ℕ → List Part → Store → Answer Store
judged_store above new next = refuse 12 (store_too_large above new next) >>= λ _. gives next

-- the gap has given way to what comes in, or that was too much
pub record Applied (s : TreeState) (rows marks notes changed : List ℕ) (g : Gap) (above : ℕ) (recorded : prelude.Option ℕ) (run sizes incoming : List ℕ) (rows' marks' notes' changed' : List ℕ) (r : Result TreeState Refusal) : Type 0 where
  pub answer : (text : List ℕ) (new : List Part) → Comes text new g.from run sizes incoming
      → executed_in text rows' marks' notes' changed' r ≡ judged_store above new (spliced_store (gap_told g) new (meant recorded) (held_in text s rows marks notes changed))
  pub measured : (t : TreeState) → r ≡ Ok t → (text : List ℕ) → t.bytes ≡ bytes (first_rows text t.rows rows')
  pub place : (t : TreeState) → r ≡ Ok t → t.root ≡ s.root
  pub most : (t : TreeState) → r ≡ Ok t → t.changed ≤ s.changed + count_by recorded (length sizes)
  pub few : (t : TreeState) → r ≡ Ok t → t.rows ≤ 4097
  pub risen : (t : TreeState) → r ≡ Ok t → Rising marks'
