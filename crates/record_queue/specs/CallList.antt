-- The calls of a batch, one by one.
-- Assumes nothing.
use Rattle.std.specs.Prelude.{Bool, true, false, cond, ◌≡◌, refl, length, take, drop, leb, get_or}
use mathlib.Core.List.{List, [], ◌∷◌, head_d, zip, zip_with}
use Rattle.std.proofs.Math.Option.{Option, none, some, map}
use Rattle.std.proofs.Common.{sym, ap, ◌∙◌, leb-true, add-one, drop-cons}
use Rattle.std.proofs.Math.ListN.{drop_of_length-le}
use Prim.Native.Nat.{ℕ, ◌+◌, ◌*◌, ◌^◌, ◌≤◌, ◌<◌}
use native.Mathlib.Omega.{arith}
use Rattle.orders.specs.Lists.{All}
use Rattle.orders.specs.ListLaws.{either_false, none_some, some_inj, map_some}
use Rattle.definition.specs.Basics.{any}
use Rattle.definition.specs.Elements.{Table}
use Rattle.definition.specs.Refusals.{operation_of, count_of, Call, call_of, calls, wrong_count, wrong_call}
use Rattle.definition_laws.specs.Right.{judged, below_E}
use Rattle.record_changes.specs.ChangeRow.{ChangeRow, rows_of}
use Rattle.record_queue.specs.Queueing.{through}
use Rattle.record_queue.specs.Recorded.{asked_at}
use Rattle.record_queue.specs.RecordedRows.{meets_row, merged_row, row_for}

-- ── The calls ───────────────────────────────────────────────────────────────────────────────────────────────

-- a call as the batch has it
abbrev pub call_as : ℕ → ℕ → List ℕ → ℕ → Call
call_as op x l n = record { operation = op; target = x; listed = l; rule = n }

-- from call words with their targets, and the listed elements: each call takes its count of them
unfoldable pub calls_of : List (ℕ × ℕ) → List ℕ → List Call
calls_of [] l = []
calls_of (c ∷ cs) l = call_of c.0 c.1 (take (count_of c.0) l) ∷ calls_of cs (drop (count_of c.0) l)

-- each call has its count of listed elements, as many as it may; its target and all these are below n
abbrev pub Fit : ℕ → List (ℕ × ℕ) → List ℕ → Type 0
Fit n [] l = Unit {0}
Fit n (c ∷ cs) l = (count_of c.0 ≤ length l) × (c.1 < n) × All (λ e. e < n) (take (count_of c.0) l) × (wrong_count (operation_of c.0) (length (take (count_of c.0) l)) ≡ false) × Fit n cs (drop (count_of c.0) l)

-- ── What line 6 accepts ─────────────────────────────────────────────────────────────────────────────────────

-- a call that is not wrong names elements only
pub names_elements : (T : Table) (c : Call) → wrong_call T c ≡ false → All (λ e. e < length T) (c.target ∷ c.listed)
names_elements T c q = below_E T (c.target ∷ c.listed) (judged T c q).within

-- the calls of an accepted batch are these, and fit
pub accepted_calls : (T : Table) (cs : List (ℕ × ℕ)) (l : List ℕ) (r : List Call) → calls cs l ≡ some r → any (wrong_call T) r ≡ false → (r ≡ calls_of cs l) × Fit (length T) cs l
unfolding calls calls_of any
accepted_calls T [] [] r e q = (sym (some_inj e), tt)
accepted_calls T [] (x ∷ l) r e q = none_some e
accepted_calls T (c ∷ cs) l r e q = go (leb (count_of c.0) (length l)) refl e (accepted_calls T cs (drop (count_of c.0) l))
  where
    d : Call
    d = call_of c.0 c.1 (take (count_of c.0) l)

    go : (t : Bool) → leb (count_of c.0) (length l) ≡ t → cond t (map (λ r. d ∷ r) (calls cs (drop (count_of c.0) l))) none ≡ some r
        → ((m : List Call) → calls cs (drop (count_of c.0) l) ≡ some m → any (wrong_call T) m ≡ false → (m ≡ calls_of cs (drop (count_of c.0) l)) × Fit (length T) cs (drop (count_of c.0) l))
        → (r ≡ calls_of (c ∷ cs) l) × Fit (length T) (c ∷ cs) l
    go false t e f = none_some e
    go true t e f =
        let (m, em, er) = map_some (λ (r : List Call). d ∷ r) (calls cs (drop (count_of c.0) l)) e in
        let (a, b) = either_false (wrong_call T d) (any (wrong_call T) m) (rw (← er) at q) in
        let g = names_elements T d a in
        let h = f m em b in
        (sym er ∙ ap {B = List Call} (λ r. d ∷ r) h.0, (leb-true (count_of c.0) (length l) t, g.0, g.1, (judged T d a).count, h.1))

-- ── The calls from a place on ───────────────────────────────────────────────────────────────────────────────

module _ (a b : List ℕ) where
  -- call words with their targets, from call i on
  abbrev pub calls_from : ℕ → List (ℕ × ℕ)
  calls_from i = zip (drop i a) (drop i b)

  pub calls_more : (i : ℕ) → i < length a → length b ≡ length a → calls_from i ≡ (get_or a i 0, get_or b i 0) ∷ calls_from (i + 1)
  unfolding zip zip_with
  calls_more i h k =
      let j : i < length b = omega arith in
      rw (add-one i, drop-cons a i 0 h, drop-cons b i 0 j)

  pub calls_none : (i : ℕ) → length a ≤ i → calls_from i ≡ []
  unfolding zip zip_with
  calls_none i h = rw (drop_of_length-le a {i = i} h)

-- ── One call ────────────────────────────────────────────────────────────────────────────────────────────────

-- what is asked of a call with target x that lists the elements l, which stand at `at` in the batch's list
pub record CallFits (n : ℕ) (l : List ℕ) (at x : ℕ) : Type 0 where
  pub target : x < n
  pub first : head_d l 0 < n
  pub low : at < 2 ^ 31
  pub few : length l < 2 ^ 32

-- a call is recorded: the rows w, of which the present editor's start at `start`, become w'
pub record CallPut (T : Table) (L : List ℕ) (at : ℕ) (c : Call) (start count : ℕ) (w : List ℕ) (start' count' : ℕ) (w' : List ℕ) : Type 0 where
  pub sound : start' ≤ count'
  pub low : count ≤ count'
  pub high : count' ≤ count + 1
  pub beyond : drop (14 * count') w' ≡ drop (14 * count') w
  pub step : (cs : List (Option ChangeRow))
      → through meets_row (merged_row L) (take start (rows_of count w)) (drop start (rows_of count w)) (map (row_for T) (asked_at at c) ∷ cs)
      ≡ through meets_row (merged_row L) (take start' (rows_of count' w')) (drop start' (rows_of count' w')) cs
