-- The elements that a recorded change puts in stand in the batch's list where its row says.
-- Assumes nothing.
use Rattle.std.specs.Prelude.{Bool, cond, ◌≡◌, length, eqb}
use Rattle.std.proofs.Math.Bool.{true, false}
use mathlib.Core.List.{List, [], ◌∷◌, head_d, tail}
use Rattle.std.proofs.Math.Option.{none, some}
use Rattle.std.proofs.Math.Path.{refl, ap}
use Rattle.std.proofs.Common.{sym, ◌∙◌, drop-drop, length-take-le}
use Prim.Native.Nat.{ℕ, zero, suc, ◌+◌, ◌≤◌}
use native.Mathlib.Omega.{arith}
use Rattle.std.proofs.Math.ListN.{take, drop}
use borrow.Author.Tests.{ne_eqb, le-ltb}
use Rattle.orders.specs.Lists.{All}
use Rattle.orders.specs.ListLaws.{bool_absurd}
use Rattle.definition.specs.Basics.{any, among}
use Rattle.definition.specs.Elements.{Table}
use Rattle.definition.specs.Refusals.{operation_of, count_of, rule_of, Call, calls, wrong_count, wrong_call}
use Rattle.definition.specs.Recording.{change, run, replace_with_many, replace_all}
use Rattle.definition.specs.Running.{news}
use Rattle.definition_laws.specs.Stages.{asks}
use Rattle.record_queue.specs.Queueing.{Asks, through_all}
use Rattle.record_queue.specs.Recorded.{news_at, asked_at, all_asked, meets_at, merged_at, merged_keeps, recorded_at, StandsIn}
use Rattle.record_queue.specs.CallList.{call_as, calls_of, Fit, accepted_calls}

-- ── One call ────────────────────────────────────────────────────────────────────────────────────────────────

take_same : (k : ℕ) (l : List ℕ) → k ≤ length l → take (length (take k l)) l ≡ take k l
take_same k l h = rw (length-take-le k l h)

-- a call 2 lists one element
take_one : (k : ℕ) (l : List ℕ) → wrong_count 2 (length (take k l)) ≡ false → k ≤ length l → take 1 l ≡ head_d (take k l) 0 ∷ []
unfolding wrong_count among any head_d
take_one zero l q h = bool_absurd refl q
take_one (suc k) [] q h = absurd (omega arith)
take_one (suc k) (x ∷ l) q h = refl

take_rest : (k : ℕ) (l : List ℕ) → k ≤ length l → take (length (tail (take k l))) (drop 1 l) ≡ tail (take k l)
take_rest zero l h = refl
take_rest (suc k) [] h = refl
take_rest (suc k) (x ∷ l) h = take_same k l (omega arith)

module _ (L : List ℕ) (at x k n : ℕ) (l : List ℕ) (e : drop at L ≡ l) (h : k ≤ length l) where
  runs : (op : ℕ) → 5 ≤ op → StandsIn L (news_at at (call_as op x (take k l) n), asks (call_as op x (take k l) n))
  unfolding news_at change run news
  runs op b =
      let z : suc at ≡ at + 1 = omega arith in
      let f : drop (suc at) L ≡ drop 1 l = ap (λ (n : ℕ). drop n L) z ∙ (sym (drop-drop 1 at L) ∙ ap (λ (m : List ℕ). drop 1 m) e) in
      rw (ne_eqb op 0 (λ e. omega arith), ne_eqb op 1 (λ e. omega arith), ne_eqb op 2 (λ e. omega arith), ne_eqb op 3 (λ e. omega arith), ne_eqb op 4 (λ e. omega arith), le-ltb op 5 b, f)
      (go (eqb x (head_d (take k l) 0)))
    where
      go : (t : Bool) → take (length (news (cond t (replace_with_many x (tail (take k l))) (replace_all x (head_d (take k l) 0) (tail (take k l)))))) (drop 1 l) ≡ news (cond t (replace_with_many x (tail (take k l))) (replace_all x (head_d (take k l) 0) (tail (take k l))))
      go true = take_rest k l h
      go false = take_rest k l h

  stands : (op : ℕ) → wrong_count op (length (take k l)) ≡ false → StandsIn L (news_at at (call_as op x (take k l) n), asks (call_as op x (take k l) n))
  unfolding news_at change news
  stands zero q = rw e (take_same k l h)
  stands (suc zero) q = rw e (take_same k l h)
  stands (suc (suc zero)) q = rw e (take_one k l q h)
  stands (suc (suc (suc zero))) q = refl
  stands (suc (suc (suc (suc zero)))) q = rw e (take_same k l h)
  stands (suc (suc (suc (suc (suc op))))) q = runs (suc (suc (suc (suc (suc op))))) (omega arith)

  asked_stands : (op : ℕ) → wrong_count op (length (take k l)) ≡ false → Asks (StandsIn L) (asked_at at (call_as op x (take k l) n))
  unfolding asked_at
  asked_stands op q = go (eqb op 6) (stands op q)
    where
      go : (t : Bool) → StandsIn L (news_at at (call_as op x (take k l) n), asks (call_as op x (take k l) n)) → Asks (StandsIn L) (cond t none (some (news_at at (call_as op x (take k l) n), asks (call_as op x (take k l) n))))
      go true s = tt
      go false s = s

-- ── All calls ───────────────────────────────────────────────────────────────────────────────────────────────

-- what calls that fit ask for stands in the batch's list L, of which the elements from `at` on are theirs
pub fit_stand : (n : ℕ) (L : List ℕ) (cs : List (ℕ × ℕ)) (at : ℕ) (l : List ℕ) → drop at L ≡ l → Fit n cs l → All (Asks (StandsIn L)) (all_asked at (calls_of cs l))
unfolding calls_of all_asked
fit_stand n L [] at l e f = tt
fit_stand n L (c ∷ cs) at l e f =
    let k : ℕ = count_of c.0 in
    let next : drop (at + length (take k l)) L ≡ drop k l = rw (length-take-le k l f.0, ← drop-drop k at L, e) in
    (asked_stands L at c.1 k (rule_of c.0) l e f.0 (operation_of c.0) f.3, fit_stand n L cs (at + length (take k l)) (drop k l) next f.4)

-- the elements that a recorded change of an accepted batch puts in stand in the batch's list, from its place on
pub recorded_stand : (T : Table) (cs : List (ℕ × ℕ)) (l : List ℕ) (r : List Call) → calls cs l ≡ some r → any (wrong_call T) r ≡ false → All (StandsIn l) (recorded_at r)
unfolding recorded_at
recorded_stand T cs l r q w =
    let (same, fit) = accepted_calls T cs l r q w in
    rw same (through_all meets_at merged_at (StandsIn l) (merged_keeps (StandsIn l)) [] [] (all_asked 0 (calls_of cs l)) tt tt (fit_stand (length T) l cs 0 l refl fit))
