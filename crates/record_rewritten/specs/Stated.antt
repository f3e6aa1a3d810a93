-- The change that a row states, and the row of a change with other ends.
-- Assumes nothing.
use mathlib.Core.List.{List, [], ◌∷◌, ◌++◌, head_d}
use Rattle.std.specs.Prelude.{cond, ◌≡◌, length, get_or, take, drop, eqb}
use Rattle.std.proofs.Math.Path.{refl}
use Rattle.std.proofs.Common.{sym, ap, ◌∙◌, arith}
use Prim.Native.Nat.{ℕ, zero, suc, ◌+◌, ◌*◌, ◌≤◌, ◌<◌}
use Rattle.definition.specs.Elements.{Table}
use Rattle.definition.specs.Recording.{first_child, after, Change, insert, replace, delete, replace_with_many, replace_all}
use Rattle.definition.specs.Planning.{own, dependent, discarded, Planned, target, rank, from, to, parent_depth, adds_region, node_by_node}
use Rattle.definition.specs.Running.{news}
use Rattle.record_changes.specs.ChangeRow.{ChangeRow, row_words, row_of, operation, end_of, region_of, change_row, fate_of, owner_of}
use Rattle.record_changes.specs.ChangeRowLaws.{row_at}
use Rattle.record_changes.specs.Numbers.{numbers_of, as_change, row_with, NumbersFit, change_by as code_by}
use Rattle.record_changes.specs.Spots.{spot_of, row_told, row_told_lem, Named}
use Rattle.record_changes.specs.declared.Change as code
use Rattle.plan_sort.specs.Rows.{row_fate, with_fate}
use Rattle.orders.specs.Lists.{All}

-- ── The change ──────────────────────────────────────────────────────────────────────────────────────────────

-- by its number in document 01: with the target x, a run's end y, the first listed element z and all that go in
unfoldable pub change_by : ℕ → ℕ → ℕ → ℕ → List ℕ → Change
change_by zero x y z new = insert first_child x new
change_by (suc zero) x y z new = insert after x new
change_by (suc (suc zero)) x y z new = replace x z
change_by (suc (suc (suc zero))) x y z new = delete x
change_by (suc (suc (suc (suc zero)))) x y z new = replace_with_many x new
change_by (suc (suc (suc (suc (suc op))))) x y z new = replace_all x y new

-- the elements that go in, among the batch's listed elements
unfoldable pub new_of : List ℕ → ChangeRow → List ℕ
new_of listed r = take r.count (drop r.list listed)

-- the change that a row states
unfoldable pub change_of : List ℕ → ChangeRow → Change
change_of listed r = change_by r.operation r.target r.end (get_or listed r.list 0) (new_of listed r)

-- and what becomes of it, with its rule number
unfoldable pub plan_of : List ℕ → ChangeRow → Planned
plan_of listed r = record { change = change_of listed r; fate = row_fate r; rule = r.rule }

-- a row of a batch with n elements that states a change
pub record Stated (n : ℕ) (listed : List ℕ) (r : ChangeRow) : Type 0 where
  pub known : r.operation ≤ 5
  pub target : r.target < n
  pub end : r.end < n
  pub within : r.list + r.count ≤ length listed
  pub counted : r.count ≡ length (news (change_of listed r))
  pub ranked : r.rank ≡ rank (change_of listed r)

-- r depends on o, which is a call 2
pub record Dependent (n : ℕ) (listed : List ℕ) (o r : ChangeRow) : Type 0 where
  pub elements : All (λ e. e < n) listed
  pub owner : Stated n listed o
  pub replaces : o.operation ≡ 2
  pub itself : Stated n listed r
  pub fated : r.fate ≡ 1

-- the dependent r may have these ends: elements
pub record NewEnds (n : ℕ) (listed : List ℕ) (r : ChangeRow) (x y : ℕ) : Type 0 where
  pub elements : All (λ e. e < n) listed
  pub itself : Stated n listed r
  pub fated : r.fate ≡ 1
  pub target : x < n
  pub end : y < n

-- the row at place i is one of 256 and states a change; as a dependent it has an owner
pub record Fated (n : ℕ) (listed w : List ℕ) (i : ℕ) : Type 0 where
  pub few : i < 256
  pub long : 14 * i + 14 ≤ length w
  pub owned : (row_at w i).fate ≡ 1 → ((row_at w i).owner < 256) × Dependent n listed (row_at w (row_at w i).owner) (row_at w i)

-- c rows that state changes, each dependent with a call 2 as owner
pub record Rewritable (n : ℕ) (listed w : List ℕ) (c : ℕ) : Type 0 where
  pub few : c ≤ 256
  pub long : 14 * c ≤ length w
  pub elements : All (λ e. e < n) listed
  pub stated : (i : ℕ) → i < c → Stated n listed (row_at w i)
  pub owned : (i : ℕ) → i < c → (row_at w i).fate ≡ 1 → ((row_at w i).owner < c) × ((row_at w (row_at w i).owner).operation ≡ 2)

pub fated_row : (n : ℕ) (listed w : List ℕ) (c i : ℕ) → Rewritable n listed w c → i < c → Fated n listed w i
fated_row n listed w c i R h =
    record {
      few = omega (arith, R.few);
      long = omega (arith, R.long);
      owned = λ f.
          let o = R.owned i h f in
          (omega (arith, o.0, R.few), record { elements = R.elements; owner = R.stated (row_at w i).owner o.0; replaces = o.1; itself = R.stated i h; fated = f });
    }

-- ── The row anew ────────────────────────────────────────────────────────────────────────────────────────────

-- the code's change of the row r with the target x and the end y
unfoldable pub change_anew : ChangeRow → ℕ → ℕ → code.Change
change_anew r x y = code_by r.operation x y (record { at = r.list; count = r.count })

-- c is that change: its ends are elements, and its numbers fit words
pub record ChangedEnds (n : ℕ) (r : ChangeRow) (x y : ℕ) (c : code.Change) : Type 0 where
  pub change : c ≡ change_anew r x y
  pub named : Named n c
  pub fits : NumbersFit (numbers_of c)

-- the row q with the fate, owner and rule number of r
unfoldable pub kept_fate : ChangeRow → ChangeRow → ChangeRow
kept_fate r q = row_of (take 11 (row_words q) ++ (r.fate ∷ r.owner ∷ r.rule ∷ []))

-- the row r with the target x, the end y and the first listed element z
unfoldable pub row_anew : Table → ChangeRow → ℕ → ℕ → ℕ → ChangeRow
row_anew T r x y z = kept_fate r (row_with (numbers_of (change_anew r x y)) (spot_of T (as_change (z ∷ []) (change_anew r x y))) 0)

-- ── A change by its number, part by part ────────────────────────────────────────────────────────────────────

pub operation_by : (op x y z : ℕ) (new : List ℕ) → op ≤ 5 → operation (change_by op x y z new) ≡ op
unfolding change_by operation
operation_by zero x y z new h = refl
operation_by (suc zero) x y z new h = refl
operation_by (suc (suc zero)) x y z new h = refl
operation_by (suc (suc (suc zero))) x y z new h = refl
operation_by (suc (suc (suc (suc zero)))) x y z new h = refl
operation_by (suc (suc (suc (suc (suc zero))))) x y z new h = refl
operation_by (suc (suc (suc (suc (suc (suc op)))))) x y z new h = absurd (omega arith)

pub target_by : (op x y z : ℕ) (new : List ℕ) → op ≤ 5 → target (change_by op x y z new) ≡ x
unfolding change_by target
target_by zero x y z new h = refl
target_by (suc zero) x y z new h = refl
target_by (suc (suc zero)) x y z new h = refl
target_by (suc (suc (suc zero))) x y z new h = refl
target_by (suc (suc (suc (suc zero)))) x y z new h = refl
target_by (suc (suc (suc (suc (suc zero))))) x y z new h = refl
target_by (suc (suc (suc (suc (suc (suc op)))))) x y z new h = absurd (omega arith)

-- the elements that go in are the same for every target and end
pub news_by : (op x y z x' y' : ℕ) (new : List ℕ) → op ≤ 5 → news (change_by op x y z new) ≡ news (change_by op x' y' z new)
unfolding change_by news
news_by zero x y z x' y' new h = refl
news_by (suc zero) x y z x' y' new h = refl
news_by (suc (suc zero)) x y z x' y' new h = refl
news_by (suc (suc (suc zero))) x y z x' y' new h = refl
news_by (suc (suc (suc (suc zero)))) x y z x' y' new h = refl
news_by (suc (suc (suc (suc (suc zero))))) x y z x' y' new h = refl
news_by (suc (suc (suc (suc (suc (suc op)))))) x y z x' y' new h = absurd (omega arith)

pub fate_dependent : (r : ChangeRow) → r.fate ≡ 1 → row_fate r ≡ dependent r.owner
unfolding row_fate
fate_dependent r f = go r.fate f
  where
    go : (k : ℕ) → k ≡ 1 → cond (eqb k 0) own (cond (eqb k 1) (dependent r.owner) (discarded r.owner)) ≡ dependent r.owner
    go k q = rw q

-- a dependent's fate is kept by its words, and so is its rule number
fate_kept : (T : Table) (at : ℕ) (r : ChangeRow) (c : Change) → r.fate ≡ 1 → with_fate (change_row T at r.rule c) (row_fate r) ≡ kept_fate r (change_row T at 0 c)
unfolding with_fate change_row kept_fate fate_of owner_of row_of row_words
fate_kept T at r c f = rw (fate_dependent r f) (ap (λ (k : ℕ). row_of (take 11 (row_words (change_row T at 0 c)) ++ (k ∷ r.owner ∷ r.rule ∷ []))) (sym f))

module _ (T : Table) (at k x y z z' : ℕ) (new : List ℕ) where
  abbrev coded : ℕ → code.Change
  coded op = code_by op x y (record { at = at; count = k })

  told : (op : ℕ) → row_with (numbers_of (coded op)) (spot_of T (as_change (z' ∷ []) (coded op))) 0 ≡ row_told (numbers_of (coded op)) T (as_change (z' ∷ []) (coded op)) 0
  told op = row_told_lem (numbers_of (coded op)) T (as_change (z' ∷ []) (coded op)) 0

  -- the row of a change by its number, by the numbers of the code's change
  row_by : (op : ℕ) → op ≤ 5 → k ≡ length (news (change_by op x y z new)) → (op ≡ 2 → z' ≡ z)
      → change_row T at 0 (change_by op x y z new) ≡ row_with (numbers_of (code_by op x y (record { at = at; count = k }))) (spot_of T (as_change (z' ∷ []) (code_by op x y (record { at = at; count = k })))) 0
  unfolding change_by code_by news change_row row_told operation end_of target rank from to parent_depth region_of adds_region node_by_node head_d
  row_by zero h c g = sym (told 0 ∙ rw c)
  row_by (suc zero) h c g = sym (told 1 ∙ rw c)
  row_by (suc (suc zero)) h c g = sym (told 2 ∙ rw (g refl))
  row_by (suc (suc (suc zero))) h c g = sym (told 3)
  row_by (suc (suc (suc (suc zero)))) h c g = sym (told 4 ∙ rw c)
  row_by (suc (suc (suc (suc (suc zero))))) h c g = sym (told 5 ∙ rw c)
  row_by (suc (suc (suc (suc (suc (suc op)))))) h c g = absurd (omega arith)

-- the row anew is that of the change with the new target and end, and with the fate and the rule number as they were
pub row_anew_lem : (T : Table) (n : ℕ) (listed : List ℕ) (r : ChangeRow) (x y z : ℕ) → Stated n listed r → r.fate ≡ 1 → (r.operation ≡ 2 → z ≡ get_or listed r.list 0)
    → with_fate (change_row T r.list r.rule (change_by r.operation x y (get_or listed r.list 0) (new_of listed r))) (row_fate r) ≡ row_anew T r x y z
unfolding row_anew change_anew change_of
row_anew_lem T n listed r x y z' S f g =
    let op : ℕ = r.operation in
    let z : ℕ = get_or listed r.list 0 in
    let new : List ℕ = new_of listed r in
    let c : r.count ≡ length (news (change_by op x y z new)) = S.counted ∙ ap length (news_by op r.target r.end z x y new S.known) in
    fate_kept T r.list r (change_by op x y z new) f ∙ ap (kept_fate r) (row_by T r.list r.count x y z z' new op S.known c g)
