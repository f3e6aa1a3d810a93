-- The choice off, or equal numbers: nothing is withdrawn, and all that was sorted is left.
-- Assumes nothing.
use Rattle.std.specs.Prelude.{◌≡◌, Bool, ℕ, eqb, length}
use Rattle.std.proofs.Math.Path.{refl, sym}
use Rattle.std.proofs.Common.{ap, ◌∙◌, arith, eq-eqb}
use Rattle.std.proofs.Math.Bool.{true, false, cond}
use mathlib.Core.List.{List, [], ◌∷◌, map}
use Rattle.std.proofs.Math.Option
use Rattle.std.proofs.Math.Option.{Option, none}
use Rattle.std.proofs.lemmas.List.{length-map}
use Rattle.orders.specs.Lists.{All}
use Rattle.orders.specs.ListLaws.{All-map}
use Rattle.definition.specs.Basics.{Answer, refused, gives, ◌>>=◌, numbered, falling}
use Rattle.definition.specs.Choices.{Choices}
use Rattle.definition.specs.Elements.{Table}
use Rattle.definition.specs.Refusals.{Accepted, accepted}
use Rattle.definition.specs.Recording.{Recorded}
use Rattle.definition.specs.EdgeRule.{fates_by, planned, judge}
use Rattle.definition.specs.Finishing.{result}
use Rattle.definition.specs.Answers.{sorted_changes, withdrawing, remaining, judge_changes, plan, ran, edit}
use Rattle.definition.specs.Account.{said, account}
use Rattle.definition_laws.specs.Basics.{All-keep}
use Rattle.definition_laws.specs.Sorting.{sort_all}
use Rattle.definition_laws.specs.Stages.{numbered_all}
use Rattle.definition.specs.Withdrawing.{Numbered, replaces, gives_way, stronger, kept, withdrawn_by, withdrawals, withdrawals_by}
use Rattle.withdraw_laws.specs.Lists.{none_first}
use Rattle.definition_laws.specs.Staying.{staying_whole}
use Rattle.withdraw_laws.proofs.Kept.{keeping_all, no_way}

-- ── Equal numbers ───────────────────────────────────────────────────────────────────────────────────────────

module _ (T : Table) (n : ℕ) where
  -- those kept have the number that all have
  kept_equal : (rs : List Recorded) → All (λ r. r.rule ≡ n) rs → All (λ d. d.1.rule ≡ n) (kept T rs)
  unfolding kept falling
  kept_equal rs h =
      keeping_all T (λ d. d.1.rule ≡ n) [] _ tt
      (sort_all _ (λ d. d.1.rule ≡ n) _ (All-keep (λ d. d.1.rule ≡ n) (λ c. replaces c.1.change) (numbered 0 rs) (numbered_all (λ r. r.rule ≡ n) 0 rs h)))

  none_by : (ks : List Numbered) (r : Recorded) → All (λ d. d.1.rule ≡ n) ks → r.rule ≡ n → withdrawn_by T ks r ≡ none
  unfolding withdrawn_by stronger
  none_by ks r h e = rw (none_first (λ d. gives_way T r d.1) ks (All-map (λ d k. no_way T r d.1 (omega arith)) ks h)) (go (replaces r.change))
    where
      go : (b : Bool) → cond b (Option.map {A = Numbered} (λ d. d.0) none) none ≡ none
      go true = refl
      go false = refl

  all_none : (ks : List Numbered) (rs : List Recorded) → All (λ d. d.1.rule ≡ n) ks → All (λ r. r.rule ≡ n) rs → map (withdrawn_by T ks) rs ≡ map (λ r. none) rs
  all_none ks [] h k = refl
  all_none ks (r ∷ rs) h k = rw (none_by ks r h k.0) (ap {B = List (Option ℕ)} (λ l. none ∷ l) (all_none ks rs h k.1))

  -- WITH EQUAL NUMBERS NOTHING IS WITHDRAWN
  pub equal_numbers : (rs : List Recorded) → All (λ r. r.rule ≡ n) rs → withdrawals T rs ≡ map (λ r. none) rs
  unfolding withdrawals
  equal_numbers rs h = all_none (kept T rs) rs (kept_equal rs h) h

-- ── What is left ────────────────────────────────────────────────────────────────────────────────────────────

module _ (h : Choices) (T : Table) (rs : List Recorded) where
  -- OFF, nothing is withdrawn
  pub none_off : h.stronger ≡ 0 → withdrawals_by h T rs ≡ map (λ r. none) rs
  unfolding withdrawals_by
  none_off e = rw (eq-eqb h.stronger 0 e)

  -- ON, with equal numbers, the same
  pub none_equal : (n : ℕ) → All (λ r. r.rule ≡ n) rs → withdrawals_by h T rs ≡ map (λ r. none) rs
  unfolding withdrawals_by
  none_equal n k = rw (equal_numbers T n rs k) (go (eqb h.stronger 0))
    where
      go : (b : Bool) → cond b (map {B = Option ℕ} (λ r. none) rs) (map (λ r. none) rs) ≡ map (λ r. none) rs
      go true = refl
      go false = refl

-- ── The answers ─────────────────────────────────────────────────────────────────────────────────────────────

-- what is recorded of an accepted batch has one number
abbrev pub EqualNumbers : List ℕ → Type 0
EqualNumbers bytes = (a : Accepted) → accepted bytes ≡ gives a → (n : ℕ) × All (λ r. r.rule ≡ n) (sorted_changes a)

module _ (edge n : ℕ) where
  -- the edge rule without the choice, and with the number n for it
  abbrev off : Choices
  off = record { edge = edge; stronger = 0 }

  abbrev on : Choices
  on = record { edge = edge; stronger = n }

  module _ (a : Accepted) (m : ℕ) (k : All (λ r. r.rule ≡ m) (sorted_changes a)) where
    withdrawing_same : withdrawing on a ≡ withdrawing off a
    unfolding withdrawing
    withdrawing_same = none_equal on a.table (sorted_changes a) m k ∙ sym (none_off off a.table (sorted_changes a) refl)

    judged_same : judge_changes on a ≡ judge_changes off a
    unfolding judge_changes remaining judge planned fates_by
    judged_same = rw withdrawing_same refl

  -- WITH EQUAL NUMBERS the edit and the account are those of the choice off
  pub edit_equal : (bytes : List ℕ) → EqualNumbers bytes → edit on bytes ≡ edit off bytes
  unfolding edit plan ◌>>=◌
  edit_equal bytes k = go (accepted bytes) refl
    where
      go : (o : Answer Accepted) → accepted bytes ≡ o → (o >>= λ a. plan on a >>= λ p. ran a p >>= λ w. gives (result p.changes p.climbs w)) ≡ (o >>= λ a. plan off a >>= λ p. ran a p >>= λ w. gives (result p.changes p.climbs w))
      go (refused r) e = refl
      go (gives a) e = let (m, all) = k a e in rw (judged_same a m all) refl

  pub account_equal : (bytes : List ℕ) → EqualNumbers bytes → account on bytes ≡ account off bytes
  unfolding account ◌>>=◌
  account_equal bytes k = go (accepted bytes) refl
    where
      go : (o : Answer Accepted) → accepted bytes ≡ o → (o >>= λ a. said a (withdrawing on a) (judge_changes on a)) ≡ (o >>= λ a. said a (withdrawing off a) (judge_changes off a))
      go (refused r) e = refl
      go (gives a) e = let (m, all) = k a e in rw (judged_same a m all, withdrawing_same a m all) refl

-- of each sorted change it is told whether it is withdrawn
pub withdrawing_length : (h : Choices) (a : Accepted) → length (withdrawing h a) ≡ length (sorted_changes a)
unfolding withdrawing withdrawals_by withdrawals
withdrawing_length h a = go (eqb h.stronger 0)
  where
    go : (b : Bool) → length (cond b (map {B = Option ℕ} (λ r. none) (sorted_changes a)) (map (withdrawn_by a.table (kept a.table (sorted_changes a))) (sorted_changes a))) ≡ length (sorted_changes a)
    go true = length-map (sorted_changes a) _
    go false = length-map (sorted_changes a) _

-- OFF, all that was sorted stays: the answer is that of the base
pub remaining_off : (h : Choices) (a : Accepted) → h.stronger ≡ 0 → remaining h a ≡ sorted_changes a
unfolding remaining withdrawing
remaining_off h a e = rw (none_off h a.table (sorted_changes a) e) (staying_whole (sorted_changes a) (sorted_changes a) refl)
