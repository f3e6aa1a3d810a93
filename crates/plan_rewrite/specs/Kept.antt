-- What rewriting keeps of every row: it is exact, and states a change of elements.
-- Assumes nothing.
use Rattle.std.specs.Prelude.{Bool, true, false, ◌⊎◌, ◌≡◌, refl}
use mathlib.Core.List.{List, [], ◌∷◌}
use Rattle.std.proofs.Math.Logic.{⊎_elim, inl, inr}
use Rattle.std.proofs.Math.Option.{Option}
use Rattle.std.proofs.Math.Path.{sym, ap, subst}
use Rattle.std.proofs.Common.{◌∙◌, arith}
use Prim.Native.Nat.{ℕ, zero, suc, ◌+◌, ◌≤◌, ◌<◌}
use Rattle.std.proofs.Math.ListN.{length, get_or}
use Rattle.orders.specs.Lists.{All}
use Rattle.definition.specs.Basics.{Answer, refused, gives, ◌>>=◌, refuse}
use Rattle.definition.specs.Elements.{Table}
use Rattle.definition.specs.Refusals.{wrong_call}
use Rattle.definition.specs.Recording.{Change, call}
use Rattle.definition.specs.Planning.{Fate, own, dependent, discarded, target}
use Rattle.definition.specs.Rewriting.{replacement, moved, rewrite_into}
use Rattle.definition.specs.Running.{news}
use Rattle.definition_laws.specs.Answers.{gives_inj}
use Rattle.definition_laws.specs.Right.{judged, below_E}
use Rattle.record_changes.specs.ChangeRow.{ChangeRow, end_of, change_row}
use Rattle.plan_sort.specs.Rows.{row_fate, with_fate, fate_stated}
use Rattle.record_rewritten.specs.Stated.{change_by, new_of, change_of, Stated, operation_by, news_by}
use Rattle.record_rewritten.specs.Exact.{Exact, exact_stated}
use Rattle.plan_rewrite.specs.Rewritten.{no_change, rewrite_under, rewrite_fated, rewrite_row, rewrite_rows, moved_ends, judged_ends, with_ends, rewrite_into_by, change_back}

-- ── A row rewritten ─────────────────────────────────────────────────────────────────────────────────────────

then_gives : {A B : Type 0} (a : Answer A) (f : A → Answer B) (y : B) → ◌>>=◌ {B = B} a f ≡ gives y → (x : A) × (a ≡ gives x) × (f x ≡ gives y)
unfolding ◌>>=◌
then_gives (refused n) f y e = absurd (let z : ◌≡◌ {A = ℕ} 0 1 = cc in omega arith)
then_gives (gives x) f y e = (x, refl, e)

accepts : (b : Bool) (u : Unit) → refuse 9 b ≡ gives u → b ≡ false
unfolding refuse
accepts true u e = absurd (let z : ◌≡◌ {A = ℕ} 0 1 = cc in omega arith)
accepts false u e = refl

-- the row m is that of the change of r with other ends, which line 6 takes
record Anew (T : Table) (listed : List ℕ) (r m : ChangeRow) : Type 0 where
  x : ℕ
  y : ℕ
  row : m ≡ with_fate (change_row T r.list r.rule (change_by r.operation x y (get_or listed r.list 0) (new_of listed r))) (row_fate r)
  right : wrong_call T (call (change_by r.operation x y (get_or listed r.list 0) (new_of listed r))) ≡ false

module _ (T : Table) (mapped : ℕ → Option ℕ) (listed : List ℕ) where
  same_or_anew : (rs : List ChangeRow) (r : ChangeRow) (f : Fate) (m : ChangeRow × ℕ) → r.operation ≤ 5 → rewrite_fated T mapped listed rs f r ≡ gives m → (r ≡ m.0) ⊎ Anew T listed r m.0
  unfolding rewrite_fated rewrite_under change_of
  same_or_anew rs r own m h e = inl (ap (λ (q : ChangeRow × ℕ). q.0) (gives_inj e))
  same_or_anew rs r (dependent k) m h e =
      let o : Change = change_of listed (get_or rs k no_change) in
      let z : ℕ = get_or listed r.list 0 in
      let new : List ℕ = new_of listed r in
      let u = then_gives (rewrite_into T mapped (target o) (replacement o) (change_by r.operation r.target r.end z new)) (λ p. gives (with_fate (change_row T r.list r.rule p.0) (row_fate r), p.1)) m e in
      let v =
      then_gives (moved_ends (moved T mapped (target o) (replacement o)) r.operation r.target r.end) (judged_ends T r.operation z new) u.0
      (sym (rewrite_into_by T mapped (target o) (replacement o) r.operation r.target r.end z new h) ∙ u.1) in
      let q : ℕ × ℕ × ℕ = v.0 in
      let w = then_gives (refuse 9 (wrong_call T (call (change_by r.operation q.0 q.1 z new)))) (λ _. with_ends r.operation z new q) u.0 v.2 in
      let c : change_by r.operation q.0 q.1 z new ≡ u.0.0 = ap (λ (p : Change × ℕ). p.0) (gives_inj w.2) in
      let d : with_fate (change_row T r.list r.rule u.0.0) (row_fate r) ≡ m.0 = ap (λ (p : ChangeRow × ℕ). p.0) (gives_inj u.2) in
      inr (record { x = q.0; y = q.1; row = sym (ap (λ (p : Change). with_fate (change_row T r.list r.rule p) (row_fate r)) c ∙ d); right = accepts (wrong_call T (call (change_by r.operation q.0 q.1 z new))) w.0 w.1 })
  same_or_anew rs r (discarded k) m h e = inl (ap (λ (q : ChangeRow × ℕ). q.0) (gives_inj e))

-- ── Exact, and a change of elements ─────────────────────────────────────────────────────────────────────────

exact_by : (T : Table) (listed : List ℕ) (r : ChangeRow) (x y : ℕ) → r.operation ≤ 5 → Exact T listed (with_fate (change_row T r.list r.rule (change_by r.operation x y (get_or listed r.list 0) (new_of listed r))) (row_fate r))
unfolding with_fate change_row new_of
exact_by T listed r x y h =
    record {
      same =
          rw (change_back T listed r.list r.rule r.count (row_fate r) r.operation x y h, fate_stated (change_row T r.list r.rule (change_by r.operation x y (get_or listed r.list 0) (new_of listed r))) (row_fate r));
    }

-- the numbers of a call that line 6 takes
ends_low : (n op x y z : ℕ) (new : List ℕ) → op ≤ 5 → All (λ e. e < n) ((call (change_by op x y z new)).target ∷ (call (change_by op x y z new)).listed)
    → (target (change_by op x y z new) < n) × (end_of (change_by op x y z new) < n)
unfolding change_by call target end_of
ends_low n zero x y z new h a = (a.0, a.0)
ends_low n (suc zero) x y z new h a = (a.0, a.0)
ends_low n (suc (suc zero)) x y z new h a = (a.0, a.0)
ends_low n (suc (suc (suc zero))) x y z new h a = (a.0, a.0)
ends_low n (suc (suc (suc (suc zero)))) x y z new h a = (a.0, a.0)
ends_low n (suc (suc (suc (suc (suc zero))))) x y z new h a = (a.0, a.1.0)
ends_low n (suc (suc (suc (suc (suc (suc op)))))) x y z new h a = absurd (omega arith)

-- what is kept: the row is exact, states a change, and its rule number has twelve bits
pub record Kept (n : ℕ) (T : Table) (listed : List ℕ) (r : ChangeRow) : Type 0 where
  pub exact : Exact T listed r
  pub stated : Stated n listed r
  pub ruled : r.rule < 4096

module _ (n : ℕ) (T : Table) (mapped : ℕ → Option ℕ) (listed : List ℕ) (long : length T ≡ n) where
  kept_anew : (r : ChangeRow) (x y : ℕ) → Stated n listed r → r.rule < 4096 → wrong_call T (call (change_by r.operation x y (get_or listed r.list 0) (new_of listed r))) ≡ false
      → Kept n T listed (with_fate (change_row T r.list r.rule (change_by r.operation x y (get_or listed r.list 0) (new_of listed r))) (row_fate r))
  unfolding with_fate change_row change_of
  kept_anew r x y S u w =
      let op : ℕ = r.operation in
      let z : ℕ = get_or listed r.list 0 in
      let new : List ℕ = new_of listed r in
      let c : Change = change_by op x y z new in
      let e = exact_by T listed r x y S.known in
      let a = below_E T ((call c).target ∷ (call c).listed) (judged T (call c) w).within in
      let b = ends_low (length T) op x y z new S.known a in
      let k : length (news c) ≡ r.count = ap length (news_by op x y z r.target r.end new S.known) ∙ sym S.counted in
      record {
        exact = e;
        stated = exact_stated n T listed (with_fate (change_row T r.list r.rule c) (row_fate r)) e (omega (arith, operation_by op x y z new S.known, S.known)) (omega (arith, b.0, long)) (omega (arith, b.1, long)) (omega (arith, k, S.within));
        ruled = u;
      }

  kept_row : (rs : List ChangeRow) (r : ChangeRow) (m : ChangeRow × ℕ) → Kept n T listed r → rewrite_row T mapped listed rs r ≡ gives m → Kept n T listed m.0
  unfolding rewrite_row
  kept_row rs r m K e =
      ⊎_elim (λ q. subst (Kept n T listed) q K) (λ q. subst (Kept n T listed) (sym q.row) (kept_anew r q.x q.y K.stated K.ruled q.right))
      (same_or_anew T mapped listed rs r (row_fate r) m K.stated.known e)

  pub rewritten_kept : (rs later : List ChangeRow) (q : List ChangeRow × ℕ) → All (Kept n T listed) later → rewrite_rows T mapped listed rs later ≡ gives q → All (Kept n T listed) q.0
  unfolding rewrite_rows
  rewritten_kept rs [] q K e = subst (All (Kept n T listed)) (ap (λ (p : List ChangeRow × ℕ). p.0) (gives_inj e)) tt
  rewritten_kept rs (r ∷ later) q K e =
      let u = then_gives (rewrite_rows T mapped listed rs later) (λ l. ◌>>=◌ {B = List ChangeRow × ℕ} (rewrite_row T mapped listed rs r) (λ m. gives (m.0 ∷ l.0, m.1 + l.1))) q e in
      let l : List ChangeRow × ℕ = u.0 in
      let v = then_gives (rewrite_row T mapped listed rs r) (λ m. gives (m.0 ∷ l.0, m.1 + l.1)) q u.2 in
      subst (All (Kept n T listed)) (ap (λ (p : List ChangeRow × ℕ). p.0) (gives_inj v.2)) (kept_row rs r v.0 K.0 v.1, rewritten_kept rs later l K.1 u.1)
