-- A dependent and its owner, by the words of their rows.
-- Assumes nothing.
use mathlib.Core.List.{List, [], ◌∷◌}
use mathlib.Core.Path.{◌≡◌, ◌∙◌}
use Prim.Native.Nat.{ℕ, zero, suc, ◌*◌, ◌<◌}
use native.Mathlib.Omega.{arith}
use lib.ListN.{length, get_or, drop}
use Rattle.orders.specs.Lists.{All}
use Rattle.definition.specs.Rewriting.{replacement}
use Rattle.definition.specs.Running.{news}
use Rattle.record_changes.specs.ChangeRow.{ChangeRow, row_of}
use Rattle.record_changes.specs.ChangeRowLaws.{row_at}
use Rattle.record_rewritten.specs.Stated.{change_by, new_of, change_of, Stated, Dependent, target_by}
use Rattle.std.specs.Prelude.{Result}
use Rattle.refusals.specs.declared.Refusal.{Refusal}
use Rattle.plan_rewrite.specs.declared.Ends.{Ends}
use Rattle.plan_rewrite.specs.Answers.{MovedEnds, OwnedEnds}

-- ── Listed elements ─────────────────────────────────────────────────────────────────────────────────────────

pub all_at : (n : ℕ) (l : List ℕ) (i : ℕ) → All (λ e. e < n) l → i < length l → get_or l i 0 < n
all_at n [] i a h = absurd (omega arith)
all_at n (x ∷ l) zero a h = a.0
all_at n (x ∷ l) (suc i) a h = all_at n l i a.1 (omega arith)

-- ── A call 2 ────────────────────────────────────────────────────────────────────────────────────────────────

one_new : (op x y z : ℕ) (new : List ℕ) → op ≡ 2 → length (news (change_by op x y z new)) ≡ 1
unfolding change_by news
one_new op x y z new h = rw h

replaced_by : (op x y z : ℕ) (new : List ℕ) → op ≡ 2 → replacement (change_by op x y z new) ≡ z
unfolding change_by replacement
replaced_by op x y z new h = rw h

-- it lists an element
pub one_listed : (n : ℕ) (listed : List ℕ) (r : ChangeRow) → Stated n listed r → r.operation ≡ 2 → r.list < length listed
unfolding change_of
one_listed n listed r S h = omega (arith, S.within, S.counted ∙ one_new r.operation r.target r.end (get_or listed r.list 0) (new_of listed r) h)

-- the ends of a dependent move by its owner's own target and replacement
owned_from : (n : ℕ) (ws s m listed : List ℕ) (o r : ChangeRow) (a : Result Ends Refusal) → Dependent n listed o r → MovedEnds n ws s m o.target (get_or listed o.list 0) r.operation r.target r.end a → OwnedEnds n ws s m listed o r a
unfolding change_of
owned_from n ws s m listed o r a D M =
    record {
      ends =
          rw (target_by o.operation o.target o.end (get_or listed o.list 0) (new_of listed o) D.owner.known, replaced_by o.operation o.target o.end (get_or listed o.list 0) (new_of listed o) D.replaces)
          M.ends;
      within = M.within;
    }

-- ── By the words ────────────────────────────────────────────────────────────────────────────────────────────

module _ (n : ℕ) (listed w : List ℕ) (k i : ℕ) (D : Dependent n listed (row_at w k) (row_at w i)) where
  module _ (x v r op t e : ℕ) (qx : x ≡ get_or (drop (14 * k) w) 1 0) (qv : v ≡ get_or (drop (14 * k) w) 3 0) (qr : r ≡ get_or listed v 0)
      (qo : op ≡ get_or (drop (14 * i) w) 0 0) (qt : t ≡ get_or (drop (14 * i) w) 1 0) (qe : e ≡ get_or (drop (14 * i) w) 2 0) where
    pub ends_elements : (x < n) × (r < n) × (t < n) × (e < n)
    unfolding row_at row_of
    ends_elements = (
      rw qx D.owner.target,
      rw (qr, qv) (all_at n listed (get_or (drop (14 * k) w) 3 0) D.elements (one_listed n listed (row_at w k) D.owner D.replaces)),
      rw qt D.itself.target,
      rw qe D.itself.end,
    )

    pub owned_ends : (ws s m : List ℕ) (a : Result Ends Refusal) → MovedEnds n ws s m x r op t e a → OwnedEnds n ws s m listed (row_at w k) (row_at w i) a
    unfolding row_at row_of
    owned_ends ws s m a M =
        owned_from n ws s m listed (row_at w k) (row_at w i) a D
        (rw (qx, qr, qv, qo, qt, qe) at M)
