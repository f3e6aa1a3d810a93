-- Rows that are just the rows of the changes they state.
-- Assumes nothing.
use mathlib.Core.List.{List, [], ◌∷◌}
use Rattle.std.specs.Prelude.{◌≡◌, ℕ, ◌+◌, ◌≤◌, ◌<◌, length, drop}
use Rattle.std.proofs.Math.Path.{refl, ap}
use Rattle.std.proofs.Common.{sym, ◌∙◌, subst, add-zero, get_or-drop}
use Rattle.std.proofs.Math.ListN.{get_or, take}
use Rattle.definition.specs.Elements.{Table}
use Rattle.definition.specs.Recording.{first_child, after, Change, insert, replace, delete, replace_with_many, replace_all}
use Rattle.definition.specs.Planning.{Fate, target}
use Rattle.definition.specs.Running.{news}
use Rattle.record_changes.specs.ChangeRow.{ChangeRow, operation, end_of, change_row}
use Rattle.plan_sort.specs.Rows.{row_fate, with_fate, fate_stated, Tells, row_tells, fate_tells}
use Rattle.record_rewritten.specs.Stated.{change_by, new_of, change_of, Stated}
use Rattle.orders.specs.ListLaws.{head_taken}

-- the row of the change that it states, with its fate
pub record Exact (T : Table) (listed : List ℕ) (r : ChangeRow) : Type 0 where
  pub same : r ≡ with_fate (change_row T r.list r.rule (change_of listed r)) (row_fate r)

-- it tells what planning goes by
pub exact_tells : {T : Table} {listed : List ℕ} {r : ChangeRow} → Exact T listed r → Tells T r (change_of listed r)
exact_tells {T} {listed} {r} e =
    subst (λ (q : ChangeRow). Tells T q (change_of listed r)) (sym e.same)
    (fate_tells T (change_row T r.list r.rule (change_of listed r)) (change_of listed r) (row_fate r) (row_tells T r.list r.rule (change_of listed r)))

-- and states a change, if its numbers are in bounds
pub exact_stated : (n : ℕ) (T : Table) (listed : List ℕ) (r : ChangeRow) → Exact T listed r → r.operation ≤ 5 → r.target < n → r.end < n → r.list + r.count ≤ length listed → Stated n listed r
unfolding with_fate change_row
exact_stated n T listed r e h t d l =
    record { known = h; target = t; end = d; within = l; counted = ap (λ (q : ChangeRow). q.count) e.same; ranked = ap (λ (q : ChangeRow). q.rank) e.same }

-- ── The row of a recorded change ────────────────────────────────────────────────────────────────────────────

module _ (T : Table) (listed : List ℕ) (at n : ℕ) (f : Fate) where
  -- it states the change whose elements stand at its place among the listed ones
  pub recorded_states : (c : Change) → take (length (news c)) (drop at listed) ≡ news c → change_of listed (with_fate (change_row T at n c) f) ≡ c
  unfolding change_of new_of change_by with_fate change_row operation target end_of news
  recorded_states (insert first_child x l) h = ap (insert first_child x) h
  recorded_states (insert after x l) h = ap (insert after x) h
  recorded_states (replace x y) h = ap (replace x) (ap (λ (i : ℕ). get_or listed i 0) (sym (add-zero at)) ∙ (sym (get_or-drop at listed 0 0) ∙ head_taken (drop at listed) h))
  recorded_states (delete x) h = refl
  recorded_states (replace_with_many x l) h = ap (replace_with_many x) h
  recorded_states (replace_all x y l) h = ap (replace_all x y) h

  pub recorded_exact : (c : Change) → take (length (news c)) (drop at listed) ≡ news c → Exact T listed (with_fate (change_row T at n c) f)
  unfolding with_fate change_row
  recorded_exact c h = record { same = rw (recorded_states c h, fate_stated (change_row T at n c) f) }
