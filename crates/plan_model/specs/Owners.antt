-- A dependent's owner is a call 2 of a node by a node, and stands among the changes: before its dependent by rule 0, before or after it by rule 1.
-- Assumes nothing.
use Rattle.std.specs.Prelude.{Bool, cond, not, ◌&&◌, ◌≡◌, eqb, length, get_or, set, drop, replicate}
use Rattle.std.proofs.Math.Bool.{true, false}
use mathlib.Core.List.{List, [], ◌∷◌}
use Rattle.std.proofs.Math.Path.{refl}
use Rattle.std.proofs.Common.{ap, arith}
use Prim.Native.Nat.{ℕ, zero, suc, ◌<◌}
use Rattle.orders.specs.Lists.{All}
use Rattle.orders.specs.ListLaws.{both_true, All-map, All-getD, All-set}
use Rattle.definition.specs.Choices.{Choices}
use Rattle.definition.specs.Elements.{Table, tree}
use Rattle.definition.specs.Recording.{Change, delete}
use Rattle.definition.specs.Planning.{Fate, own, dependent, discarded, is_discarded, Region, contains, around, fate, target, from, to, adds_region, node_by_node, inner, pushed, fates_from, fates}
use Rattle.definition.specs.EdgeRule.{fates1, fates_by}
use Rattle.plan_edge.specs.Owners.{Owns, edge_owned}

-- ── Lists ───────────────────────────────────────────────────────────────────────────────────────────────────

module _ {A : Type 0} (P : A → Type 0) where
  replicate_all : (n : ℕ) (x : A) → P x → All P (replicate n x)
  replicate_all zero x p = tt
  replicate_all (suc n) x p = (p, replicate_all n x p)

-- what stands first behind k others
module _ {A : Type 0} where
  front : (k : ℕ) (l : List A) (x z : A) (r : List A) → drop k l ≡ x ∷ r → (k < length l) × (get_or l k z ≡ x) × (drop (suc k) l ≡ r)
  front zero [] x z r e = absurd (let n : ◌≡◌ {A = ℕ} 0 (suc (length r)) = ap length e in omega arith)
  front zero (y ∷ l) x z r e = (omega arith, cc, cc)
  front (suc k) [] x z r e = absurd (let n : ◌≡◌ {A = ℕ} 0 (suc (length r)) = ap length e in omega arith)
  front (suc k) (y ∷ l) x z r e = let f = front k l x z r e in (omega (arith, f.0), f.1, f.2)

-- ── Owners ──────────────────────────────────────────────────────────────────────────────────────────────────

module _ (T : Table) (cs : List Change) where
  -- whoever a fate makes the owner
  abbrev pub Owned : Fate → Type 0
  Owned own = Unit {0}
  Owned (dependent k) = (k < length cs) × (node_by_node T (get_or cs k (delete 0)) ≡ true)
  Owned (discarded k) = Unit {0}

  -- the regions of a stack make owners of such changes only
  abbrev OwnedAll : List Region → Type 0
  OwnedAll rs = All (λ r. Owned r.inner) rs

  around_owned : (a b : ℕ) (rs : List Region) → OwnedAll rs → OwnedAll (around a b rs)
  unfolding around
  around_owned a b [] h = tt
  around_owned a b (r ∷ rs) h = go (contains a b r) (around_owned a b rs h.1)
    where
      go : (t : Bool) → OwnedAll (around a b rs) → OwnedAll (cond t (r ∷ rs) (around a b rs))
      go true f = h
      go false f = f

  fate_owned : (rs : List Region) → OwnedAll rs → Owned (fate rs)
  unfolding fate
  fate_owned [] h = tt
  fate_owned (r ∷ rs) h = h.0

  pushed_owned : (k : ℕ) (c : Change) (rs : List Region) → k < length cs → get_or cs k (delete 0) ≡ c → OwnedAll rs → OwnedAll (pushed T k c rs)
  unfolding pushed inner
  pushed_owned k c rs l e h = go (adds_region T c)
    where
      makes : (t : Bool) → (t ≡ true → node_by_node T c ≡ true) → Owned (cond t (dependent k) (discarded k))
      makes true f = (l, rw e (f refl))
      makes false f = tt

      go : (t : Bool) → OwnedAll (cond t (record { from = from T c; to = to T c; inner = cond (not (is_discarded (fate rs)) && node_by_node T c) (dependent k) (discarded k) } ∷ rs) rs)
      go true = (makes (not (is_discarded (fate rs)) && node_by_node T c) (λ q. (both_true (not (is_discarded (fate rs))) (node_by_node T c) q).1), h)
      go false = h

  from_owned : (k : ℕ) (stacks : List (List Region)) (ds : List Change) → drop k cs ≡ ds → All OwnedAll stacks → All Owned (fates_from T k stacks ds)
  unfolding fates_from
  from_owned k stacks [] e h = tt
  from_owned k stacks (c ∷ ds) e h =
      let t : ℕ = tree T (target c) in
      let rs : List Region = around (from T c) (to T c) (get_or stacks t []) in
      let g : OwnedAll rs = around_owned (from T c) (to T c) (get_or stacks t []) (All-getD OwnedAll [] tt stacks t h) in
      let f = front k cs c (delete 0) ds e in
      (fate_owned rs g, from_owned (suc k) (set stacks t (pushed T k c rs)) ds f.2 (All-set OwnedAll stacks t (pushed T k c rs) (pushed_owned k c rs f.0 f.1 g) h))

  -- by rule 0 each dependent has such an owner
  fates_owned : All Owned (fates T cs)
  unfolding fates
  fates_owned = from_owned 0 (replicate 16 []) cs refl (replicate_all OwnedAll 16 [] tt)

  -- by rule 1 too
  one_owned : (f : Fate) → Owns T cs f → Owned f
  one_owned own h = tt
  one_owned (dependent k) h = h k refl
  one_owned (discarded k) h = tt

  -- so by whatever choice
  pub by_owned : (h : Choices) → All Owned (fates_by h T cs)
  unfolding fates_by
  by_owned h = go (eqb h.edge 0)
    where
      go : (b : Bool) → All Owned (cond b (fates T cs) (fates1 T cs))
      go true = fates_owned
      go false = All-map one_owned (fates1 T cs) (edge_owned T cs)
