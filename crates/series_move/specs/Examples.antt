-- Lent bookmarks moved, by computation: what the must-fail edits would write is another list.
-- Assumes nothing.
use Rattle.std.specs.Prelude.{◌≡◌, refl, List, [], ◌∷◌, ◌++◌, ℕ, replicate}
use Rattle.std.proofs.Math.Option.{bind}
use Rattle.orders.specs.Lists.{pick}
use Rattle.orders.specs.Tree.{Run, zone, adjust}
use Rattle.definition_account.specs.Moved.{in_a_row}
use Rattle.series_laws.specs.Follow.{moved, kept, survivors}
use Rattle.series_laws.specs.Lent.{slots, slots_in, bookmark_in, bookmark_out, over, slots_out}
use Rattle.series_move.specs.Packing.{bookmarks_after}

-- bookmark 3 at the root's child 0, bookmark 5 at child 1 of child 1; the rest of their slots holds 9 and 8
abbrev two : List ℕ
two = 2 ∷ (3 ∷ 1 ∷ 0 ∷ replicate 62 9) ++ (5 ∷ 2 ∷ 1 ∷ 1 ∷ replicate 61 8)

-- children 0 up to 1 of the root give way to n others
abbrev first : ℕ → Run × ℕ
first n = (record { parent = 0 ∷ []; from = 0; to = 1 }, n)

-- child 0 goes: 3 is dropped; 5 moves up, by its first child number alone, and stands in the first slot, whose rest is as it was
pub packed : bookmarks_after (first 0 ∷ []) two ≡ 1 ∷ (5 ∷ 2 ∷ 0 ∷ 1 ∷ replicate 61 9) ++ (5 ∷ 2 ∷ 1 ∷ 1 ∷ replicate 61 8)
unfolding bookmarks_after slots_in slots bookmark_in bookmark_out over slots_out survivors kept moved in_a_row adjust zone pick bind
packed = refl

-- three come in its place
pub moved_on : bookmarks_after (first 3 ∷ []) two ≡ 1 ∷ (5 ∷ 2 ∷ 3 ∷ 1 ∷ replicate 61 9) ++ (5 ∷ 2 ∷ 1 ∷ 1 ∷ replicate 61 8)
unfolding bookmarks_after slots_in slots bookmark_in bookmark_out over slots_out survivors kept moved in_a_row adjust zone pick bind
moved_on = refl

-- tree 0 is replaced: "A replaced root drops all"; only the count is written
pub root_replaced : bookmarks_after ((record { parent = []; from = 0; to = 1 }, 1) ∷ []) two ≡ 0 ∷ (3 ∷ 1 ∷ 0 ∷ replicate 62 9) ++ (5 ∷ 2 ∷ 1 ∷ 1 ∷ replicate 61 8)
unfolding bookmarks_after slots_in slots bookmark_in bookmark_out over slots_out survivors kept moved in_a_row adjust zone pick bind
root_replaced = refl
