-- The row of what a call asks for is the definition's.
-- Assumes nothing.
use Rattle.std.specs.Prelude.{Bool, cond, ◌≡◌, length, eqb}
use Rattle.std.proofs.Math.Bool.{true, false}
use mathlib.Core.List.{List, [], ◌∷◌, head_d, tail}
use Prim.Native.Nat.{ℕ, zero, suc, ◌-◌, ◌≤◌}
use Rattle.std.proofs.Math.Nat.{zero-sub}
use Rattle.std.proofs.Math.Numerals.{add-one}
use Rattle.std.proofs.Common.{◌∙◌, arith}
use borrow.Author.Tests.{ne_eqb, le-ltb}
use Rattle.definition.specs.Elements.{Table}
use Rattle.definition.specs.Recording.{change, run, replace_with_many, replace_all}
use Rattle.definition.specs.Planning.{target, rank, from, to, parent_depth, adds_region, node_by_node}
use Rattle.definition.specs.Running.{news}
use Rattle.record_changes.specs.ChangeRow.{ChangeRow, change_row, operation, end_of, region_of}
use Rattle.record_queue.specs.Recorded.{news_at}
use Rattle.record_queue.specs.CallList.{call_as}
use Rattle.record_changes.specs.Numbers.{numbers_of, as_change, row_with, run_asked, change_asked}
use Rattle.record_changes.specs.Spots.{spot_of, row_told, row_told_lem}
use Rattle.record_changes.specs.declared.Change.{Change}
use Rattle.record_changes.specs.declared.Change.TheVariants.{ReplaceWithMany, ReplaceAll}

-- the row of one of the code's changes by the rule n, y the first of its call's listed elements
unfoldable pub row_of_change : Table → ℕ → ℕ → Change → ChangeRow
row_of_change T y n c = row_with (numbers_of c) (spot_of T (as_change (y ∷ []) c)) n

length_tail : (l : List ℕ) → length l - 1 ≡ length (tail l)
length_tail [] = zero-sub 1
length_tail (x ∷ l) = omega arith

module _ (T : Table) (x at k y n : ℕ) (l : List ℕ) (ek : k ≡ length l) (ey : y ≡ head_d l 0) where
  told : (c : Change) → row_of_change T y n c ≡ row_told (numbers_of c) T (as_change (y ∷ []) c) n
  unfolding row_of_change
  told c = row_told_lem (numbers_of c) T (as_change (y ∷ []) c) n

  runs : (t : Bool) → row_of_change T y n (cond t (ReplaceWithMany x (record { at = suc at; count = length (tail l) })) (ReplaceAll x y (record { at = suc at; count = length (tail l) }))) ≡ change_row T (suc at) n (cond t (replace_with_many x (tail l)) (replace_all x y (tail l)))
  unfolding row_told change_row operation end_of target rank from to parent_depth region_of adds_region node_by_node news
  runs true = told (ReplaceWithMany x (record { at = suc at; count = length (tail l) }))
  runs false = told (ReplaceAll x y (record { at = suc at; count = length (tail l) }))

  rest : (op : ℕ) → 5 ≤ op → row_of_change T y n (change_asked op x at k y) ≡ change_row T (news_at at (call_as op x l n)) n (change (call_as op x l n))
  unfolding change_asked news_at change run run_asked
  rest op h =
      rw (ne_eqb op 0 (λ e. omega arith), ne_eqb op 1 (λ e. omega arith), ne_eqb op 2 (λ e. omega arith), ne_eqb op 3 (λ e. omega arith), ne_eqb op 4 (λ e. omega arith), le-ltb op 5 h, add-one at, ek, length_tail l, ← ey)
      (runs (eqb x y))

  pub row_asked : (op : ℕ) → row_of_change T y n (change_asked op x at k y) ≡ change_row T (news_at at (call_as op x l n)) n (change (call_as op x l n))
  unfolding change_asked news_at change row_told change_row operation end_of target rank from to parent_depth region_of adds_region node_by_node news head_d
  row_asked zero = told (change_asked 0 x at k y) ∙ rw ek
  row_asked (suc zero) = told (change_asked 1 x at k y) ∙ rw ek
  row_asked (suc (suc zero)) = told (change_asked 2 x at k y) ∙ rw ey
  row_asked (suc (suc (suc zero))) = told (change_asked 3 x at k y)
  row_asked (suc (suc (suc (suc zero)))) = told (change_asked 4 x at k y) ∙ rw ek
  row_asked (suc (suc (suc (suc (suc op))))) = rest (suc (suc (suc (suc (suc op))))) (omega arith)
