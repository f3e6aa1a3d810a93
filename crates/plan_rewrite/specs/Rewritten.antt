-- The rows rewritten, and that they are what the definition says.
-- Assumes nothing.
use Rattle.std.specs.Prelude.{Bool, true, false, cond, ◌≡◌, length, get_or, take, drop, eqb}
use mathlib.Core.List.{List, [], ◌∷◌, map}
use Rattle.std.proofs.Math.Option.{Option}
use Rattle.std.proofs.Math.Path.{refl, ap}
use Rattle.std.proofs.Common.{sym, arith, drop-drop}
use Prim.Native.Nat.{ℕ, zero, suc, ◌+◌, ◌*◌, ◌≤◌, ◌<◌}
use Rattle.std.proofs.Math.ListN.{get_or-map}
use Rattle.orders.specs.Lists.{All}
use Rattle.definition.specs.Basics.{Answer, refused, gives, ◌>>=◌, refuse}
use Rattle.definition.specs.Elements.{Table}
use Rattle.definition.specs.Refusals.{wrong_call}
use Rattle.definition.specs.Recording.{first_child, after, Change, insert, replace, delete, replace_with_many, replace_all, call}
use Rattle.definition.specs.Planning.{Fate, own, dependent, discarded, Planned, target}
use Rattle.definition.specs.Rewriting.{replacement, moved, retarget, rewrite_into, rewrite_one, rewriting, rewritten}
use Rattle.definition.specs.Running.{news}
use Rattle.definition_laws.specs.Answers.{gives_inj}
use Rattle.record_changes.specs.ChangeRow.{ChangeRow, rows_of, operation, end_of, change_row}
use Rattle.record_changes.specs.ChangeRowLaws.{row_at}
use Rattle.plan_sort.specs.Rows.{row_fate, with_fate, fate_stated}
use Rattle.record_rewritten.specs.Stated.{change_by, new_of, change_of, plan_of, Stated, Rewritable}

-- ── Rewriting on rows ───────────────────────────────────────────────────────────────────────────────────────

-- what stands at a place where no row is
unfoldable pub no_change : ChangeRow
no_change = record {
  operation = 3;
  target = 0;
  end = 0;
  list = 0;
  count = 0;
  tree = 0;
  from = 0;
  to = 0;
  depth = 0;
  rank = 0;
  region = 0;
  fate = 0;
  owner = 0;
  rule = 0;
}

module _ (T : Table) (mapped : ℕ → Option ℕ) (listed : List ℕ) where
  -- the row r as a dependent of the change o
  unfoldable pub rewrite_under : Change → ChangeRow → Answer (ChangeRow × ℕ)
  rewrite_under o r = do
    m ← rewrite_into T mapped (target o) (replacement o) (change_of listed r)
    gives (with_fate (change_row T r.list r.rule m.0) (row_fate r), m.1)

  -- only a dependent is rewritten, by its owner as sorted; all rows as sorted are rs
  unfoldable pub rewrite_fated : List ChangeRow → Fate → ChangeRow → Answer (ChangeRow × ℕ)
  rewrite_fated rs own r = gives (r, 0)
  rewrite_fated rs (dependent k) r = rewrite_under (change_of listed (get_or rs k no_change)) r
  rewrite_fated rs (discarded k) r = gives (r, 0)

  unfoldable pub rewrite_row : List ChangeRow → ChangeRow → Answer (ChangeRow × ℕ)
  rewrite_row rs r = rewrite_fated rs (row_fate r) r

  -- "From the last dependent to the first": the rows rewritten, and all climb steps
  unfoldable pub rewrite_rows : List ChangeRow → List ChangeRow → Answer (List ChangeRow × ℕ)
  rewrite_rows rs [] = gives ([], 0)
  rewrite_rows rs (r ∷ later) = do
    l ← rewrite_rows rs later
    m ← rewrite_row rs r
    gives (m.0 ∷ l.0, m.1 + l.1)

  -- the same of the row at place i of sorted rows in words
  unfoldable pub rewrite_at : List ℕ → ℕ → Answer (ChangeRow × ℕ)
  rewrite_at w i = cond (eqb (row_at w i).fate 1) (rewrite_under (change_of listed (row_at w (row_at w i).owner)) (row_at w i)) (gives (row_at w i, 0))

-- ── A change by its number, rewritten ───────────────────────────────────────────────────────────────────────

-- where the target and, of a run, the end go, and the steps
unfoldable pub moved_ends : (ℕ → Answer (ℕ × ℕ)) → ℕ → ℕ → ℕ → Answer (ℕ × ℕ × ℕ)
moved_ends f op x y = do
  m ← f x
  elim (eqb op 5) as (λ _. Answer (ℕ × ℕ × ℕ)) [ true ↦ f y >>= λ k. gives (m.0, k.0, m.1 + k.1) | false ↦ gives (m.0, m.0, m.1) ]

-- the change with the new target and end
abbrev pub with_ends : ℕ → ℕ → List ℕ → ℕ × ℕ × ℕ → Answer (Change × ℕ)
with_ends op z new q = gives (change_by op q.0 q.1 z new, q.2)

-- "a rewritten call that 6 would refuse: 9"
abbrev pub judged_ends : Table → ℕ → ℕ → List ℕ → ℕ × ℕ × ℕ → Answer (Change × ℕ)
judged_ends T op z new q = ◌>>=◌ {B = Change × ℕ} (refuse 9 (wrong_call T (call (change_by op q.0 q.1 z new)))) (λ _. with_ends op z new q)

one_end : (g : ℕ → Change) (k : ℕ × ℕ × ℕ → Answer (Change × ℕ)) (a : Answer (ℕ × ℕ)) → ((m : ℕ × ℕ) → k (m.0, m.0, m.1) ≡ gives (g m.0, m.1))
    → ◌>>=◌ {B = Change × ℕ} a (λ m. gives (g m.0, m.1)) ≡ ◌>>=◌ {A = ℕ × ℕ × ℕ} (◌>>=◌ {B = ℕ × ℕ × ℕ} a (λ m. gives (m.0, m.0, m.1))) k
unfolding ◌>>=◌
one_end g k (refused n) e = refl
one_end g k (gives m) e = sym (e m)

two_ends : (g : ℕ → ℕ → Change) (k : ℕ × ℕ × ℕ → Answer (Change × ℕ)) (a b : Answer (ℕ × ℕ)) → ((m n : ℕ × ℕ) → k (m.0, n.0, m.1 + n.1) ≡ gives (g m.0 n.0, m.1 + n.1))
    → ◌>>=◌ {B = Change × ℕ} a (λ m. ◌>>=◌ {B = Change × ℕ} b (λ n. gives (g m.0 n.0, m.1 + n.1)))
    ≡ ◌>>=◌ {A = ℕ × ℕ × ℕ} (◌>>=◌ {B = ℕ × ℕ × ℕ} a (λ m. ◌>>=◌ {B = ℕ × ℕ × ℕ} b (λ n. gives (m.0, n.0, m.1 + n.1)))) k
unfolding ◌>>=◌
two_ends g k (refused n) b e = refl
two_ends g k (gives m) (refused n) e = refl
two_ends g k (gives m) (gives n) e = sym (e m n)

module _ (T : Table) (mapped : ℕ → Option ℕ) where
  pub retarget_by : (f : ℕ → Answer (ℕ × ℕ)) (op x y z : ℕ) (new : List ℕ) → op ≤ 5 → retarget T mapped f (change_by op x y z new) ≡ moved_ends f op x y >>= with_ends op z new
  unfolding change_by retarget moved_ends
  retarget_by f zero x y z new h = one_end (λ e. insert first_child e new) (with_ends 0 z new) (f x) (λ m. refl)
  retarget_by f (suc zero) x y z new h = one_end (λ e. insert after e new) (with_ends 1 z new) (f x) (λ m. refl)
  retarget_by f (suc (suc zero)) x y z new h = one_end (λ e. replace e z) (with_ends 2 z new) (f x) (λ m. refl)
  retarget_by f (suc (suc (suc zero))) x y z new h = one_end (λ e. delete e) (with_ends 3 z new) (f x) (λ m. refl)
  retarget_by f (suc (suc (suc (suc zero)))) x y z new h = one_end (λ e. replace_with_many e new) (with_ends 4 z new) (f x) (λ m. refl)
  retarget_by f (suc (suc (suc (suc (suc zero))))) x y z new h = two_ends (λ e d. replace_all e d new) (with_ends 5 z new) (f x) (f y) (λ m n. refl)
  retarget_by f (suc (suc (suc (suc (suc (suc op)))))) x y z new h = absurd (omega arith)

  into_by : (op z : ℕ) (new : List ℕ) (a : Answer (ℕ × ℕ × ℕ))
      → ◌>>=◌ {A = Change × ℕ} {B = Change × ℕ} (a >>= with_ends op z new) (λ m. refuse 9 (wrong_call T (call m.0)) >>= λ _. gives m) ≡ a >>= judged_ends T op z new
  unfolding ◌>>=◌
  into_by op z new (refused n) = refl
  into_by op z new (gives q) = refl

  pub rewrite_into_by : (x r op t e z : ℕ) (new : List ℕ) → op ≤ 5 → rewrite_into T mapped x r (change_by op t e z new) ≡ moved_ends (moved T mapped x r) op t e >>= judged_ends T op z new
  unfolding rewrite_into
  rewrite_into_by x r op t e z new h = rw (retarget_by (moved T mapped x r) op t e z new h) (into_by op z new (moved_ends (moved T mapped x r) op t e))

-- ── The change that the row of a change states ──────────────────────────────────────────────────────────────

take_again : (k : ℕ) (l : List ℕ) → take (length (take k l)) l ≡ take k l
take_again zero l = refl
take_again (suc k) [] = refl
take_again (suc k) (x ∷ l) = ap (λ m. x ∷ m) (take_again k l)

module _ (T : Table) (listed : List ℕ) (at n k : ℕ) (f : Fate) where
  -- the row of a change by the rule n, with its fate, whose elements stand at `at`
  abbrev pub row_by : ℕ → ℕ → ℕ → ChangeRow
  row_by op x y = with_fate (change_row T at n (change_by op x y (get_or listed at 0) (take k (drop at listed)))) f

  pub change_back : (op x y : ℕ) → op ≤ 5 → change_of listed (row_by op x y) ≡ change_by op x y (get_or listed at 0) (take k (drop at listed))
  unfolding change_of new_of change_by with_fate change_row operation target end_of news
  change_back zero x y h = ap (insert first_child x) (take_again k (drop at listed))
  change_back (suc zero) x y h = ap (insert after x) (take_again k (drop at listed))
  change_back (suc (suc zero)) x y h = refl
  change_back (suc (suc (suc zero))) x y h = refl
  change_back (suc (suc (suc (suc zero)))) x y h = ap (replace_with_many x) (take_again k (drop at listed))
  change_back (suc (suc (suc (suc (suc zero))))) x y h = ap (replace_all x y) (take_again k (drop at listed))
  change_back (suc (suc (suc (suc (suc (suc op)))))) x y h = absurd (omega arith)

  plan_back : (op x y : ℕ) → op ≤ 5 → plan_of listed (row_by op x y) ≡ record { change = change_by op x y (get_or listed at 0) (take k (drop at listed)); fate = f; rule = n }
  unfolding plan_of with_fate change_row
  plan_back op x y h = λ i. record { change = change_back op x y h i; fate = fate_stated (change_row T at n (change_by op x y (get_or listed at 0) (take k (drop at listed)))) f i; rule = n }

-- ── The definition's rewriting ──────────────────────────────────────────────────────────────────────────────

-- a row, and rows, told as planned changes
unfoldable pub told_row : List ℕ → Answer (ChangeRow × ℕ) → Answer (Planned × ℕ)
told_row listed (refused n) = refused n
told_row listed (gives m) = gives (plan_of listed m.0, m.1)

unfoldable pub told_rows : List ℕ → Answer (List ChangeRow × ℕ) → Answer (List Planned × ℕ)
told_rows listed (refused n) = refused n
told_rows listed (gives q) = gives (map (plan_of listed) q.0, q.1)

-- a change with its fate and rule number, and the steps
abbrev planned_with : Fate → ℕ → Change × ℕ → Answer (Planned × ℕ)
planned_with f n m = gives (record { change = m.0; fate = f; rule = n }, m.1)

module _ (T : Table) (mapped : ℕ → Option ℕ) (listed : List ℕ) where
  judged_told : (r : ChangeRow) (a : Answer (ℕ × ℕ × ℕ)) → r.operation ≤ 5
      → ◌>>=◌ {A = Change × ℕ} {B = Planned × ℕ} (a >>= judged_ends T r.operation (get_or listed r.list 0) (new_of listed r)) (planned_with (row_fate r) r.rule)
      ≡ told_row listed (◌>>=◌ {A = Change × ℕ} {B = ChangeRow × ℕ} (a >>= judged_ends T r.operation (get_or listed r.list 0) (new_of listed r)) (λ m. gives (with_fate (change_row T r.list r.rule m.0) (row_fate r), m.1)))
  unfolding ◌>>=◌ told_row refuse new_of
  judged_told r (refused n) h = refl
  judged_told r (gives q) h = go (wrong_call T (call (change_by r.operation q.0 q.1 (get_or listed r.list 0) (new_of listed r))))
    where
      c : Change
      c = change_by r.operation q.0 q.1 (get_or listed r.list 0) (new_of listed r)

      go : (b : Bool)
          → ◌>>=◌ {A = Change × ℕ} {B = Planned × ℕ} (◌>>=◌ {B = Change × ℕ} (refuse 9 b) (λ _. gives (c, q.2))) (planned_with (row_fate r) r.rule)
          ≡ told_row listed (◌>>=◌ {A = Change × ℕ} {B = ChangeRow × ℕ} (◌>>=◌ {B = Change × ℕ} (refuse 9 b) (λ _. gives (c, q.2))) (λ m. gives (with_fate (change_row T r.list r.rule m.0) (row_fate r), m.1)))
      go true = refl
      go false = ap {B = Answer (Planned × ℕ)} (λ p. gives (p, q.2)) (sym (plan_back T listed r.list r.rule r.count (row_fate r) r.operation q.0 q.1 h))

  owner_at : (rs : List ChangeRow) (k : ℕ) → get_or (map (change_of listed) rs) k (delete 0) ≡ change_of listed (get_or rs k no_change)
  unfolding change_of change_by no_change
  owner_at rs k = get_or-map (change_of listed) rs k no_change

  under_told : (x y : ℕ) (r : ChangeRow) → r.operation ≤ 5
      → ◌>>=◌ {A = Change × ℕ} {B = Planned × ℕ} (rewrite_into T mapped x y (change_of listed r)) (planned_with (row_fate r) r.rule)
      ≡ told_row listed (◌>>=◌ {A = Change × ℕ} {B = ChangeRow × ℕ} (rewrite_into T mapped x y (change_of listed r)) (λ m. gives (with_fate (change_row T r.list r.rule m.0) (row_fate r), m.1)))
  unfolding change_of
  under_told x y r h =
      rw (rewrite_into_by T mapped x y r.operation r.target r.end (get_or listed r.list 0) (new_of listed r) h)
      (judged_told r (moved_ends (moved T mapped x y) r.operation r.target r.end) h)

  row_told_lem : (n : ℕ) (rs : List ChangeRow) (r : ChangeRow) (f : Fate) → row_fate r ≡ f → Stated n listed r
      → ◌>>=◌ {A = Change × ℕ} {B = Planned × ℕ} (rewrite_one T mapped (map (change_of listed) rs) f (change_of listed r)) (planned_with f r.rule) ≡ told_row listed (rewrite_fated T mapped listed rs f r)
  unfolding rewrite_one rewrite_fated rewrite_under told_row plan_of ◌>>=◌
  row_told_lem n rs r own q S = ap {B = Answer (Planned × ℕ)} (λ f. gives (record { change = change_of listed r; fate = f; rule = r.rule }, 0)) (sym q)
  row_told_lem n rs r (dependent k) q S =
      rw (owner_at rs k, ← q) (under_told (target (change_of listed (get_or rs k no_change))) (replacement (change_of listed (get_or rs k no_change))) r S.known)
  row_told_lem n rs r (discarded k) q S = ap {B = Answer (Planned × ℕ)} (λ f. gives (record { change = change_of listed r; fate = f; rule = r.rule }, 0)) (sym q)

  one_more : (f : Fate) (n : ℕ) (a : Answer (Change × ℕ)) (b : Answer (ChangeRow × ℕ)) (l : List ChangeRow × ℕ) → ◌>>=◌ {B = Planned × ℕ} a (planned_with f n) ≡ told_row listed b
      → ◌>>=◌ {B = List Planned × ℕ} a (λ m. gives (record { change = m.0; fate = f; rule = n } ∷ map (plan_of listed) l.0, m.1 + l.1)) ≡ told_rows listed (◌>>=◌ {B = List ChangeRow × ℕ} b (λ m. gives (m.0 ∷ l.0, m.1 + l.1)))
  unfolding ◌>>=◌ told_row told_rows
  one_more f r (refused n) (refused m) l e = cc
  one_more f r (refused n) (gives m) l e = cc
  one_more f r (gives n) (refused m) l e = cc
  one_more f r (gives n) (gives m) l e = ap {B = Answer (List Planned × ℕ)} (λ p. gives (p.0 ∷ map (plan_of listed) l.0, p.1 + l.1)) (gives_inj e)

  -- on rows that state changes it is the definition's
  pub rewrite_told : (n : ℕ) (rs later : List ChangeRow) → All (Stated n listed) later
      → rewriting T mapped (map (change_of listed) rs) (map (plan_of listed) later) ≡ told_rows listed (rewrite_rows T mapped listed rs later)
  unfolding rewriting rewrite_rows rewrite_row told_rows plan_of ◌>>=◌
  rewrite_told n rs [] h = refl
  rewrite_told n rs (r ∷ later) h = rw (rewrite_told n rs later h.1) (go (rewrite_rows T mapped listed rs later))
    where
      go : (a : Answer (List ChangeRow × ℕ))
          → ◌>>=◌ {A = List Planned × ℕ} {B = List Planned × ℕ} (told_rows listed a)
          (λ l. ◌>>=◌ {B = List Planned × ℕ} (rewrite_one T mapped (map (change_of listed) rs) (row_fate r) (change_of listed r)) (λ m. gives (record { change = m.0; fate = row_fate r; rule = r.rule } ∷ l.0, m.1 + l.1)))
          ≡ told_rows listed (◌>>=◌ {B = List ChangeRow × ℕ} a (λ l. ◌>>=◌ {B = List ChangeRow × ℕ} (rewrite_row T mapped listed rs r) (λ m. gives (m.0 ∷ l.0, m.1 + l.1))))
      go (refused x) = refl
      go (gives l) =
          one_more (row_fate r) r.rule (rewrite_one T mapped (map (change_of listed) rs) (row_fate r) (change_of listed r)) (rewrite_row T mapped listed rs r) l
          (row_told_lem n rs r (row_fate r) refl h.0)

-- ── The whole, for rows in words ────────────────────────────────────────────────────────────────────────────

all_rows : (P : ChangeRow → Type 0) (w : List ℕ) (c : ℕ) → ((i : ℕ) → i < c → P (row_at w i)) → All P (rows_of c w)
unfolding rows_of row_at
all_rows P w zero h = tt
all_rows P w (suc c) h = (h 0 (omega arith), all_rows P (drop 14 w) c (λ i b. rw (behind i) (h (suc i) (omega arith))))
  where
    behind : (i : ℕ) → drop (14 * i) (drop 14 w) ≡ drop (14 * suc i) w
    behind i = let e : 14 * suc i ≡ 14 + 14 * i = omega arith in rw e (drop-drop (14 * i) 14 w)

map_both : (listed : List ℕ) (rs : List ChangeRow) → map (λ (p : Planned). p.change) (map (plan_of listed) rs) ≡ map (change_of listed) rs
unfolding plan_of
map_both listed [] = refl
map_both listed (r ∷ rs) = ap (λ l. change_of listed r ∷ l) (map_both listed rs)

-- "From the last dependent to the first": the definition's rewriting of all planned changes
pub rewritten_told : (n : ℕ) (T : Table) (mapped : ℕ → Option ℕ) (listed v : List ℕ) (c : ℕ) → Rewritable n listed v c
    → rewritten T mapped (map (plan_of listed) (rows_of c v)) ≡ told_rows listed (rewrite_rows T mapped listed (rows_of c v) (rows_of c v))
unfolding rewritten
rewritten_told n T mapped listed v c R = rw (map_both listed (rows_of c v)) (rewrite_told T mapped listed n (rows_of c v) (rows_of c v) (all_rows (Stated n listed) v c R.stated))
