-- The loop of `path_in_tree`, and the ways out of `old_start`.
-- Assumes nothing.
use mathlib.Core.Path.{◌≡◌, refl, sym, ap, ◌∙◌}
use mathlib.Core.List.{List, [], ◌∷◌, ◌++◌, head_d, append-nil, append_assoc}
use Prim.Native.Nat.{ℕ, suc, ◌+◌, ◌-◌, ◌*◌, ◌^◌, ◌≤◌, ◌<◌}
use native.Mathlib.Omega.{arith}
use lib.ListN.{length, get_or, set, take, drop, length-set, length-drop, drop_of_length-le}
use lib.Seq.{drop-cons, get_or-set_same, drop-set-lt, take_all, length-take-le}
use Rattle.orders.specs.Tree.{Path}
use Rattle.definition.specs.Elements.{row, tree}
use Rattle.read_element_table.specs.View.{field, path_to, row_at, view}
use Rattle.read_element_table.specs.Wellformed.{Lines}
use Rattle.read_element_table.specs.Told.{row_view, parent_below, deep}
use Rattle.std.specs.Prelude.{Option, Some, is_some, IsSome}
use Rattle.rows_path.specs.Promises.{Resolves, at_row}
use Rattle.rows_path.specs.declared.Resolved.{Resolved}
use Rattle.finish_find.specs.OldStart.{TreesTold, PathFrom, old_resolved}

-- ── The path of an element ──────────────────────────────────────────────────────────────────────────────────

-- the way up from element k has come to `at`, and the child numbers passed stand from `from` on
pub record Rising (n : ℕ) (w : List ℕ) (k : ℕ) (a : List ℕ) (at from : ℕ) : Type 0 where
  pub here : at < n
  pub deeper : get_or w (8 * at + 3) 0 + 64 ≡ get_or w (8 * k + 3) 0 + from
  pub high : from ≤ 64
  pub long : length a ≡ 64
  pub rest : (s : List ℕ) → path_to w s (get_or w (8 * k + 3) 0) k ≡ path_to w s (get_or w (8 * at + 3) 0) at ++ drop from a

-- one more number before those that stand
drop_set : (l : List ℕ) (i v : ℕ) → i < length l → drop i (set l i v) ≡ v ∷ drop (suc i) l
drop_set l i v h =
    drop-cons (set l i v) i 0 (simp length-set h)
    ∙ rw (get_or-set_same l i v 0 h, drop-set-lt (suc i) l i v (omega arith))

-- a path goes up by one step
path_up : (n : ℕ) (w s : List ℕ) (L : Lines n w) (e p : ℕ) → e < n → get_or w (8 * e + 1) 0 ≡ suc p → path_to w s (get_or w (8 * e + 3) 0) e ≡ path_to w s (get_or w (8 * p + 3) 0) p ++ (get_or w (8 * e + 2) 0 ∷ [])
unfolding field path_to
path_up n w s L e p h z = go (get_or w (8 * e + 3) 0) (L.below e p h z).0
  where
    go : (d : ℕ) → d ≡ suc (get_or w (8 * p + 3) 0) → path_to w s d e ≡ path_to w s (get_or w (8 * p + 3) 0) p ++ (get_or w (8 * e + 2) 0 ∷ [])
    go d q = rw (q, path_to, z)

-- up to a root
path_top : (n : ℕ) (w s : List ℕ) (L : Lines n w) (e : ℕ) → e < n → get_or w (8 * e + 1) 0 ≡ 0 → path_to w s (get_or w (8 * e + 3) 0) e ≡ get_or w (8 * e + 2) 0 ∷ []
unfolding field path_to
path_top n w s L e h z = go (get_or w (8 * e + 3) 0) (L.root e h z).0
  where
    go : (d : ℕ) → d ≡ 1 → path_to w s d e ≡ get_or w (8 * e + 2) 0 ∷ []
    go d q = rw (q, path_to, z)

module _ {n : ℕ} {w : List ℕ} {k : ℕ} {a : List ℕ} where
  pub rising_start : (k < n) × (length a ≡ 64) → Rising n w k a k 64
  rising_start h = record {
    here = h.0;
    deeper = refl;
    high = omega arith;
    long = h.1;
    rest = λ s. sym (ap (λ r. path_to w s (get_or w (8 * k + 3) 0) k ++ r) (drop_of_length-le a {i = 64} (omega (arith, h.1))) ∙ append-nil (path_to w s (get_or w (8 * k + 3) 0) k));
  }

module _ {n : ℕ} {w : List ℕ} {k : ℕ} {a : List ℕ} {at from : ℕ} (v : Rising n w k a at from) (L : Lines n w) (hk : k < n) where
  pub rising_entry : 8 * at + 8 ≤ length w
  rising_entry = omega (arith, v.here, L.long)

  module _ {p : ℕ} (e : (p ≡ get_or w (8 * at + 1) 0) × (p < 2 ^ 32)) where
    -- an element above it
    module _ {x : ℕ} (z : (1 ≤ p) × (x ≡ p - 1)) where
      above : get_or w (8 * at + 1) 0 ≡ suc x
      above = omega (arith, e.0, z.0, z.1)

      pub rising_room : 0 < from
      rising_room = omega (arith, v.deeper, L.shallow k hk, deep n w L at v.here)

      pub rising_less : x < at
      rising_less = omega (arith, L.before at v.here, above)

      pub rising_next : {c : ℕ} → (c ≡ get_or w (8 * at + 2) 0) × (c < 2 ^ 32) → Rising n w k (set a (from - 1) c) x (from - 1)
      rising_next {c} f =
          let i : suc (from - 1) ≡ from = omega (arith, rising_room) in
          let h : from - 1 < length a = omega (arith, v.long, v.high, rising_room) in
          record {
            here = parent_below n w L at x v.here above;
            deeper = omega (arith, v.deeper, (L.below at x v.here above).0);
            high = omega (arith, v.high);
            long = length-set a (from - 1) c ∙ v.long;
            rest = λ s.
                let P : Path = path_to w s (get_or w (8 * x + 3) 0) x in
                v.rest s ∙ (ap (λ q. q ++ drop from a) (path_up n w s L at x v.here above ∙ ap (λ x. P ++ (x ∷ [])) (sym f.0)) ∙ (append_assoc P (c ∷ []) (drop from a) ∙ ap (λ r. P ++ r) (sym (drop_set a (from - 1) c h ∙ ap (λ j. c ∷ drop j a) i))));
          }

    pub rising_done : (1 ≤ p → ⊥) → PathFrom n w k a from
    unfolding row_at field tree head_d
    rising_done z = record { high = v.high; long = v.long; numbers = go }
      where
        go : (s : List ℕ) → (row (view n w s) k).path ≡ tree (view n w s) k ∷ drop from a
        go s =
            let t : get_or w (8 * at + 1) 0 ≡ 0 = omega (arith, e.0) in
            let e : (row (view n w s) k).path ≡ get_or w (8 * at + 2) 0 ∷ drop from a =
            ap (λ r. r.path) (row_view n w s k hk) ∙ (v.rest s ∙ ap (λ q. q ++ drop from a) (path_top n w s L at v.here t)) in
            e ∙ ap (λ q. head_d q 0 ∷ drop from a) (sym e)

-- ── What resolving it gives ─────────────────────────────────────────────────────────────────────────────────

module _ {n : ℕ} {t s : List ℕ} (v : TreesTold n t s) {k : ℕ} (h : (k < n) × (tree (view n t s) k ≡ 0)) where
  -- tree 0 ends within the rows
  pub first_ends : {a : ℕ} → (a ≡ get_or t (8 * 0 + 6) 0) × (a < 2 ^ 32) → 3 * (a + 1) ≤ length s
  first_ends e = omega (arith, v.formed.long, v.formed.ends 0 (omega (arith, h.0)))

  pub first_short : {a : ℕ} → (a ≡ get_or t (8 * 0 + 6) 0) × (a < 2 ^ 32) → length (take (3 * (a + 1) - 3) (drop 3 s)) < 3 * 2 ^ 16
  first_short {a} e = omega (arith, length-take-le (3 * (a + 1) - 3) (drop 3 s) (omega (arith, length-drop 3 s, first_ends e)), v.formed.ends 0 (omega (arith, h.0)), v.formed.lines.few)

module _ {n : ℕ} {t s : List ℕ} (v : TreesTold n t s) {k : ℕ} (h : (k < n) × (tree (view n t s) k ≡ 0)) {path : List ℕ} {r : ℕ} (f : PathFrom n t k path r)
    {a : ℕ} (z : (a ≡ get_or t (8 * 0 + 6) 0) × (a < 2 ^ 32)) {x : Option Resolved} (q : Resolves (take (3 * (a + 1) - 3) (drop 3 s)) (take (64 - r) (drop r path)) x) where
  told : (i : ℕ) × (x ≡ at_row i (row (view n t s) k).start)
  told = old_resolved v h.0 h.1 f (rw (z.0, take_all (64 - r) (drop r path) (omega (arith, f.long, length-drop r path))) at q)

  pub start_somewhere : IsSome x
  start_somewhere = ap is_some told.1

  pub start_there : {f : Resolved} → x ≡ Some f → f.start ≡ (row (view n t s) k).start
  start_there {f} y = let e : f ≡ record { row = told.0; start = (row (view n t s) k).start } = let g = told.1 in cc in ap (λ (r : Resolved). r.start) e
