-- Line 7: each answer, from the tests that led there.
-- Assumes nothing.
use mathlib.Core.Path.{◌≡◌, refl}
use mathlib.Core.Bool.{Bool, true, false, not, ◌&&◌, ◌||◌, or-true}
use mathlib.Core.List.{List}
use Prim.Native.Nat.{ℕ, suc, ◌+◌, ◌*◌, ◌≤◌, ◌<◌}
use lib.ListN.{get_or}
use lib.Dec.{eqb}
use borrow.Author.Tests.{le-leb, lt-leb}
use Rattle.definition.specs.Basics.{any}
use Rattle.definition.specs.Elements.{is_node}
use Rattle.definition.specs.Refusals.{wrong_mapping}
use Rattle.read_element_table.specs.View.{view}
use Rattle.read_element_table.specs.Wellformed.{Wellformed}
use Rattle.read_element_table.specs.Told.{length_view, node_told, root_told}

-- ── A mapping ───────────────────────────────────────────────────────────────────────────────────────────────

module _ (n : ℕ) (w r : List ℕ) (x y : ℕ) where
  pub input_beyond : n ≤ x → wrong_mapping (view n w r) (x, y) ≡ true
  unfolding wrong_mapping any
  input_beyond h = rw (length_view n w r, le-leb n x h)

  pub output_beyond : n ≤ y → wrong_mapping (view n w r) (x, y) ≡ true
  unfolding wrong_mapping any
  output_beyond h = rw (length_view n w r, le-leb n y h, or-true)

  pub mapping_told : Wellformed n w r → x < n → y < n → wrong_mapping (view n w r) (x, y) ≡ not (is_node (get_or r (3 * suc x) 0) && (is_node (get_or r (3 * suc y) 0) && not (eqb (get_or w (8 * y + 1) 0) 0)))
  unfolding wrong_mapping any
  mapping_told W hx hy =
      rw (length_view n w r, lt-leb n x hx, lt-leb n y hy, node_told n w r x hx, node_told n w r y hy, root_told n w r W.lines y hy)
      (go (is_node (get_or r (3 * suc x) 0)) (is_node (get_or r (3 * suc y) 0)) (eqb (get_or w (8 * y + 1) 0) 0))
    where
      go : (a b d : Bool) → ((not a || (not b || false)) || d) ≡ not (a && (b && not d))
      go true true true = refl
      go true true false = refl
      go true false d = refl
      go false b d = refl
