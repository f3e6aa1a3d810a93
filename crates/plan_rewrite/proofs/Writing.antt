-- A row written at its place, and the row of a judged change.
-- Assumes nothing.
use mathlib.Core.Bool.{Bool, true, false, cond, not}
use mathlib.Core.List.{List, [], ◌∷◌, ◌++◌, append_assoc}
use mathlib.Core.Path.{◌≡◌, refl, sym, ap, ◌∙◌}
use Prim.Native.Nat.{ℕ, zero, suc, ◌+◌, ◌*◌, ◌≤◌, ◌<◌}
use native.Mathlib.Omega.{arith}
use lib.ListN.{length, get_or, take, drop, get_or-append}
use lib.Seq.{paste, drop-paste, drop_at, length-take-le, get_or-take}
use lib.Dec.{eqb}
use borrow.Author.Tests.{eq-eqb, eqb-true}
use Rattle.orders.specs.Lists.{All}
use Rattle.definition.specs.Basics.{Answer, refused, gives, ◌>>=◌, refuse}
use Rattle.definition.specs.Refusals.{wrong_call}
use Rattle.definition.specs.Recording.{call}
use Rattle.read_element_table.specs.View.{view}
use Rattle.read_element_table.specs.Wellformed.{Wellformed}
use Rattle.read_calls.specs.Fits.{call_fits}
use Rattle.record_changes.specs.ChangeRow.{ChangeRow, row_words, row_of}
use Rattle.record_changes.specs.ChangeRowLaws.{row_at, row_ext}
use Rattle.record_rewritten.specs.Stated.{new_of, change_by, NewEnds, row_anew, row_anew_lem}
use Rattle.std.specs.Prelude.{Ok, Err}
use Rattle.refusals.specs.declared.Refusal.TheVariants.{Unmapped}
use Rattle.refusals.specs.Numbers.{number}
use Rattle.plan_rewrite.specs.Judged.{wrong_by}
use Rattle.plan_rewrite.specs.Answers.{rewritten_by, steps_of, RowRewritten, judged_row}
use Rattle.plan_rewrite.proofs.Owning.{all_at, one_listed}

-- ── A row written at its place ──────────────────────────────────────────────────────────────────────────────

module _ (d s : List ℕ) (i : ℕ) (h : 14 * i + 14 ≤ length d) (l : 14 ≤ length s) where
  -- it is read there
  pub row_there : row_at (paste d (14 * i) s 14) i ≡ row_of s
  unfolding row_at
  row_there =
      rw (append_assoc (take (14 * i) d) (take 14 s) (drop (14 * i + 14) d), drop_at (take (14 * i) d) (take 14 s ++ drop (14 * i + 14) d) (14 * i) (length-take-le (14 * i) d (omega arith)))
      (row_ext (take 14 s ++ drop (14 * i + 14) d) s (λ j b. get_or-append (take 14 s) (drop (14 * i + 14) d) 0 j (omega (arith, length-take-le 14 s l)) ∙ get_or-take 14 s j 0 b))

  -- and those behind it stay
  pub rows_behind : drop (14 * suc i) (paste d (14 * i) s 14) ≡ drop (14 * suc i) d
  rows_behind = let e : 14 * suc i ≡ 14 * i + 14 = omega arith in rw e (drop-paste d (14 * i) s 14 (omega arith) l)

-- ── A judged change ─────────────────────────────────────────────────────────────────────────────────────────

-- those of a part of a list
all_part : (n : ℕ) (a k : ℕ) (l : List ℕ) → All (λ e. e < n) l → All (λ e. e < n) (take k (drop a l))
all_part n zero k l h = front k l h
  where
    front : (k : ℕ) (l : List ℕ) → All (λ e. e < n) l → All (λ e. e < n) (take k l)
    front zero l h = tt
    front (suc k) [] h = tt
    front (suc k) (x ∷ l) h = (h.0, front k l h.1)
all_part n (suc a) zero [] h = tt
all_part n (suc a) (suc k) [] h = tt
all_part n (suc a) k (x ∷ l) h = all_part n a k l h.1

-- by what the change of a row is judged beside its target
judge : List ℕ → ChangeRow → ℕ → ℕ
judge listed r y = cond (eqb r.operation 2) (get_or listed r.list 0) y

judge_listed : (listed : List ℕ) (r : ChangeRow) (y : ℕ) → r.operation ≡ 2 → judge listed r y ≡ get_or listed r.list 0
unfolding judge
judge_listed listed r y h = rw (eq-eqb r.operation 2 h)

module _ (n : ℕ) (listed : List ℕ) (r : ChangeRow) (x y : ℕ) (E : NewEnds n listed r x y) where
  listed_low : r.operation ≡ 2 → get_or listed r.list 0 < n
  listed_low h = all_at n listed r.list E.elements (one_listed n listed r E.itself h)

  judge_low : judge listed r y < n
  unfolding judge
  judge_low = go (eqb r.operation 2) refl
    where
      go : (b : Bool) → eqb r.operation 2 ≡ b → cond b (get_or listed r.list 0) y < n
      go true q = listed_low (eqb-true r.operation 2 q)
      go false q = E.end

module _ (n : ℕ) (w s : List ℕ) (listed : List ℕ) (r : ChangeRow) (x y k : ℕ) (E : NewEnds n listed r x y) where
  wrong_is : wrong_call (view n w s) (call (change_by r.operation x y (get_or listed r.list 0) (new_of listed r))) ≡ not (call_fits (view n w s) r.operation x (judge listed r y))
  unfolding new_of judge
  wrong_is =
      wrong_by n w s r.operation x y (get_or listed r.list 0) (new_of listed r) E.itself.known E.target E.end (listed_low n listed r x y E)
      (all_part n r.list r.count listed E.elements)

  row_of_fitting : call_fits (view n w s) r.operation x (judge listed r y) ≡ true → judged_row (view n w s) listed r (x, y, k) ≡ gives (row_anew (view n w s) r x y (judge listed r y), k)
  unfolding judged_row refuse ◌>>=◌
  row_of_fitting h =
      rw (wrong_is, h)
      (ap {B = Answer (ChangeRow × ℕ)} (λ q. gives (q, k)) (row_anew_lem (view n w s) n listed r x y (judge listed r y) E.itself E.fated (judge_listed listed r y)))

  row_of_wrong : call_fits (view n w s) r.operation x (judge listed r y) ≡ false → judged_row (view n w s) listed r (x, y, k) ≡ refused 9
  unfolding judged_row refuse ◌>>=◌
  row_of_wrong h = rw (wrong_is, h)

-- ── By the words ────────────────────────────────────────────────────────────────────────────────────────────

module _ (n : ℕ) (listed v : List ℕ) (i x y : ℕ) (E : NewEnds n listed (row_at v i) x y) (op list : ℕ) (qo : op ≡ get_or (drop (14 * i) v) 0 0) (ql : list ≡ get_or (drop (14 * i) v) 3 0) where
  module _ (z : ℕ) (qz : z ≡ cond (eqb op 2) (get_or listed list 0) y) where
    judge_is : z ≡ judge listed (row_at v i) y
    unfolding row_at row_of judge
    judge_is = qz ∙ rw (qo, ql)

    pub call_known : (op ≤ 6) × (x < n) × (z < n)
    unfolding row_at row_of
    call_known = (omega (arith, E.itself.known), E.target, rw judge_is (judge_low n listed (row_at v i) x y E))

    module _ (w s : List ℕ) (k : ℕ) (before : List ℕ) (t : Bool) (q : t ≡ call_fits (view n w s) op x z) where
      fits_is : t ≡ call_fits (view n w s) (row_at v i).operation x (judge listed (row_at v i) y)
      unfolding row_at row_of
      fits_is = q ∙ rw (judge_is, qo)

      pub row_written : t ≡ true → (after : List ℕ) → after ≡ paste before (14 * i) (row_words (row_anew (view n w s) (row_at v i) x y z)) 14 → 14 * i + 14 ≤ length before → k ≤ 2 * n → Wellformed n w s
          → RowRewritten (judged_row (view n w s) listed (row_at v i) (x, y, k)) i before after (Ok k)
      unfolding rewritten_by steps_of row_words row_of
      row_written h after e g f W =
          let a : List ℕ = row_words (row_anew (view n w s) (row_at v i) x y z) in
          record {
            row =
                ap {B = Answer (ChangeRow × ℕ)} (λ p. gives (p, k)) (ap (λ (m : List ℕ). row_at m i) e ∙ (row_there before a i g (omega arith) ∙ ap (λ (j : ℕ). row_anew (view n w s) (row_at v i) x y j) judge_is))
                ∙ sym (row_of_fitting n w s listed (row_at v i) x y k E (sym fits_is ∙ h));
            behind = rw e (rows_behind before a i g (omega arith));
            few = omega (arith, W.lines.few);
          }

      pub row_refused : t ≡ false → RowRewritten (judged_row (view n w s) listed (row_at v i) (x, y, k)) i before before (Err Unmapped)
      unfolding rewritten_by steps_of number
      row_refused h = record { row = sym (row_of_wrong n w s listed (row_at v i) x y k E (sym fits_is ∙ h)); behind = refl; few = omega arith }
