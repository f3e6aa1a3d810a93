-- What each test tells of elements, changes and regions.
-- Assumes nothing.
use mathlib.Core.Path.{◌≡◌, refl, sym}
use mathlib.Core.Bool.{Bool, true, false, cond, not, ◌&&◌, ◌||◌}
use mathlib.Core.List.{List}
use mathlib.Core.Logic.{⊎_elim}
use Prim.Native.Nat.{ℕ, ◌+◌, ◌-◌, ◌*◌, ◌≤◌, ◌<◌}
use native.Mathlib.Omega.{arith}
use lib.ListN.{get_or, drop}
use Rattle.std.specs.Prelude.{None, Some, SomeIff}
use Rattle.std.specs.Prelude.{Option as Maybe}
use Rattle.std.specs.Option.{unwrap_or}
use lib.Dec.{leb, ltb, eqb}
use borrow.Author.Tests.{eq-eqb, ne_eqb, le-leb, lt-leb, lt-ltb, le-ltb}
use Rattle.orders.specs.ListLaws.{lt_or_le}
use Rattle.record_changes.specs.ChangeRow.{row_of}
use Rattle.record_changes.specs.ChangeRowLaws.{row_at}
use Rattle.plan_edge.specs.Rule.{parent_or_root, target_parent, of_root, in_run, removes, only_in, is_run_of, inside, takes}

not_leb : (k j : ℕ) → not (leb k j) ≡ ltb j k
not_leb k j = ⊎_elim (λ h. rw (lt-leb k j h, lt-ltb j k h)) (λ h. rw (le-leb k j h, le-ltb j k h)) (lt_or_le j k)

-- ── Where elements stand ────────────────────────────────────────────────────────────────────────────────────

pub parent_or_itself : (w : List ℕ) (x p : ℕ) → p ≡ get_or w (8 * x + 1) 0 → (o : Maybe ℕ) → SomeIff o (1 ≤ p) (p - 1) → (r : ℕ) → r ≡ unwrap_or o x → r ≡ parent_or_root w x
unfolding parent_or_root
parent_or_itself w x p e None n r f = let z : p ≡ 0 = omega (arith, n) in rw (f, ← e, z)
parent_or_itself w x p e (Some y) n r f = rw (f, n.1, ← e, ne_eqb p 0 (λ z. omega (arith, n.0)))

module _ (w : List ℕ) (x y e p q : ℕ) (a : p ≡ get_or w (8 * e + 1) 0) (b : q ≡ get_or w (8 * x + 1) 0) where
  pub other_parent : (p ≡ q → ⊥) → false ≡ in_run w x y e
  unfolding in_run
  other_parent z = rw (← a, ← b, ne_eqb p q z)

  module _ (z : p ≡ q) (i j : ℕ) (c : i ≡ get_or w (8 * e + 2) 0) (d : j ≡ get_or w (8 * x + 2) 0) where
    pub before_run : i < j → false ≡ in_run w x y e
    unfolding in_run
    before_run h = rw (← a, ← b, ← c, ← d, eq-eqb p q z, lt-leb j i h)

    pub to_run_end : j ≤ i → (k : ℕ) → k ≡ get_or w (8 * y + 2) 0 → leb i k ≡ in_run w x y e
    unfolding in_run
    to_run_end h k f = rw (← a, ← b, ← c, ← d, ← f, eq-eqb p q z, le-leb j i h)

-- ── A change ────────────────────────────────────────────────────────────────────────────────────────────────

module _ (w v : List ℕ) (k x : ℕ) (t : x ≡ get_or (drop (14 * k) v) 1 0) (op : ℕ) (o : op ≡ get_or (drop (14 * k) v) 0 0) where
  pub first_child_parent : op ≡ 0 → x ≡ target_parent w (row_at v k)
  unfolding target_parent row_at row_of
  first_child_parent z = rw (← o, ← t, z)

  pub other_target_parent : (op ≡ 0 → ⊥) → (p : ℕ) → p ≡ parent_or_root w x → p ≡ target_parent w (row_at v k)
  unfolding target_parent row_at row_of
  other_target_parent z p e = rw (← o, ← t, ne_eqb op 0 z) e

module _ (w v : List ℕ) (k op : ℕ) (o : op ≡ get_or (drop (14 * k) v) 0 0) where
  pub no_replacement : (op ≡ 2 → ⊥) → false ≡ of_root w (row_at v k)
  unfolding of_root row_at row_of
  no_replacement z = rw (← o, ne_eqb op 2 z)

  pub replacement_of : op ≡ 2 → (x : ℕ) → x ≡ get_or (drop (14 * k) v) 1 0 → (p : ℕ) → p ≡ get_or w (8 * x + 1) 0 → eqb p 0 ≡ of_root w (row_at v k)
  unfolding of_root row_at row_of
  replacement_of z x t p e = rw (← o, ← t, ← e, z)

module _ (w v : List ℕ) (x y k op e : ℕ) (o : op ≡ get_or (drop (14 * k) v) 0 0) (t : e ≡ get_or (drop (14 * k) v) 1 0) where
  pub first_child_none : op ≡ 0 → false ≡ only_in w x y (row_at v k)
  unfolding only_in row_at row_of
  first_child_none z = rw (← o, z)

  module _ (z : op ≡ 0 → ⊥) (r : Bool) (f : r ≡ in_run w x y e) where
    pub target_outside : r ≡ false → false ≡ only_in w x y (row_at v k)
    unfolding only_in row_at row_of
    target_outside q = rw (← o, ← t, ← f, ne_eqb op 0 z, q) (go (eqb op 1))
      where
        go : (b : Bool) → false ≡ cond b false false
        go true = refl
        go false = refl

    module _ (q : r ≡ true) where
      pub insert_before_last : op ≡ 1 → not (eqb e y) ≡ only_in w x y (row_at v k)
      unfolding only_in row_at row_of
      insert_before_last g = rw (← o, ← t, ← f, g, q)

      pub replaces_to : (op ≡ 1 → ⊥) → (d : ℕ) → d ≡ get_or (drop (14 * k) v) 2 0 → (b : Bool) → b ≡ in_run w x y d → b ≡ only_in w x y (row_at v k)
      unfolding only_in row_at row_of
      replaces_to g d u b i = rw (← o, ← t, ← u, ← f, ne_eqb op 0 z, ne_eqb op 1 g, q) i

module _ (v : List ℕ) (x y k op : ℕ) (o : op ≡ get_or (drop (14 * k) v) 0 0) where
  pub no_run : (op ≡ 5 → ⊥) → false ≡ is_run_of x y (row_at v k)
  unfolding is_run_of row_at row_of
  no_run z = rw (← o, ne_eqb op 5 z)

  module _ (z : op ≡ 5) (e : ℕ) (t : e ≡ get_or (drop (14 * k) v) 1 0) where
    pub other_start : (e ≡ x → ⊥) → false ≡ is_run_of x y (row_at v k)
    unfolding is_run_of row_at row_of
    other_start q = rw (← o, ← t, z, ne_eqb e x q)

    pub same_start : e ≡ x → (d : ℕ) → d ≡ get_or (drop (14 * k) v) 2 0 → eqb d y ≡ is_run_of x y (row_at v k)
    unfolding is_run_of row_at row_of
    same_start q d u = rw (← o, ← t, ← u, z, eq-eqb e x q)

-- ── A region ────────────────────────────────────────────────────────────────────────────────────────────────

module _ (w v : List ℕ) (j e x : ℕ) (t : x ≡ get_or (drop (14 * j) v) 1 0) where
  pub before_target : e < x → false ≡ removes w (row_at v j) e
  unfolding removes row_at row_of
  before_target h = rw (← t, lt-leb x e h)

  pub before_after : x ≤ e → (y : ℕ) → y ≡ get_or (drop (14 * j) v) 2 0 → (a : ℕ) → a ≡ get_or w (8 * y + 6) 0 → ltb e a ≡ removes w (row_at v j) e
  unfolding removes row_at row_of
  before_after h y u a f = rw (← t, ← u, ← f, le-leb x e h)

module _ (w v : List ℕ) (j k op : ℕ) (o : op ≡ get_or (drop (14 * j) v) 0 0) where
  pub no_run_around : (op ≡ 5 → ⊥) → false ≡ inside w j (row_at v j) k (row_at v k)
  unfolding inside row_at row_of
  no_run_around z = rw (← o, ne_eqb op 5 z)

  module _ (z : op ≡ 5) (x y : ℕ) (t : x ≡ get_or (drop (14 * j) v) 1 0) (u : y ≡ get_or (drop (14 * j) v) 2 0) (a : Bool) (e : a ≡ only_in w x y (row_at v k)) where
    opens : inside w j (row_at v j) k (row_at v k) ≡ (eqb op 5 && (only_in w x y (row_at v k) && not (is_run_of x y (row_at v k) && leb k j)))
    unfolding inside row_at row_of
    opens = rw (o, t, u)

    pub not_only_in : a ≡ false → false ≡ inside w j (row_at v j) k (row_at v k)
    not_only_in q = rw (opens, eq-eqb op 5 z, ← e, q)

    module _ (q : a ≡ true) (b : Bool) (f : b ≡ is_run_of x y (row_at v k)) where
      pub other_run : b ≡ false → true ≡ inside w j (row_at v j) k (row_at v k)
      other_run g = rw (opens, eq-eqb op 5 z, ← e, q, ← f, g)

      pub equal_run : b ≡ true → ltb j k ≡ inside w j (row_at v j) k (row_at v k)
      equal_run g = rw (opens, eq-eqb op 5 z, ← e, q, ← f, g) (sym (not_leb k j))

module _ (w v : List ℕ) (j k g : ℕ) (r : g ≡ get_or (drop (14 * j) v) 10 0) where
  taking : takes w j (row_at v j) k (row_at v k) ≡ (not (eqb g 0) && (not (of_root w (row_at v k)) && (removes w (row_at v j) (target_parent w (row_at v k)) || inside w j (row_at v j) k (row_at v k))))
  unfolding takes row_at row_of
  taking = rw r

  pub no_region : g ≡ 0 → false ≡ takes w j (row_at v j) k (row_at v k)
  no_region z = rw (taking, eq-eqb g 0 z)

  module _ (z : g ≡ 0 → ⊥) (e : of_root w (row_at v k) ≡ false) (p : ℕ) (f : p ≡ target_parent w (row_at v k)) (b : Bool) (h : b ≡ removes w (row_at v j) p) where
    pub removes_parent : b ≡ true → true ≡ takes w j (row_at v j) k (row_at v k)
    removes_parent m = rw (taking, ne_eqb g 0 z, e, ← f, ← h, m)

    pub or_inside : b ≡ false → (d : Bool) → d ≡ inside w j (row_at v j) k (row_at v k) → d ≡ takes w j (row_at v j) k (row_at v k)
    or_inside m d i = rw (taking, ne_eqb g 0 z, e, ← f, ← h, m) i
