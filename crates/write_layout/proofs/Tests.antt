-- What is tested before anything is laid out: each answer, from the tests that led there.
-- Assumes nothing.
use mathlib.Core.Path.{◌≡◌, refl, sym, ◌∙◌}
use mathlib.Core.Bool.{Bool, true, false, not}
use mathlib.Core.List.{List, [], ◌∷◌}
use Prim.Native.Nat.{ℕ, zero, suc, ◌<◌}
use native.Mathlib.Omega.{arith}
use lib.Dec.{leb}
use lib.ListN.{length, get_or}
use borrow.Author.Tests.{leb-false, lt-leb}
use Rattle.std.specs.Prelude.{IsTrue, ◌↔◌, slice_index_or}
use Rattle.std.specs.List.{All}
use Rattle.definition.specs.Basics.{any}
use Rattle.definition_laws.specs.Right.{neither}

-- ── Words below a limit ─────────────────────────────────────────────────────────────────────────────────────

below_none : (k : ℕ) (s : List ℕ) → All (λ w. w < k) s → any (leb k) s ≡ false
unfolding any
below_none k [] a = refl
below_none k (x ∷ s) a = rw (lt-leb k x (a 0 0 (omega arith)), below_none k s (λ i d h. a (suc i) d (omega arith))) refl

none_below : (k : ℕ) (s : List ℕ) → any (leb k) s ≡ false → (i d : ℕ) → i < length s → slice_index_or s i d < k
unfolding any
none_below k [] q i d h = absurd (omega arith)
none_below k (x ∷ s) q zero d h = leb-false k x (neither (leb k x) (any (leb k) s) q).0
none_below k (x ∷ s) q (suc i) d h = none_below k s (neither (leb k x) (any (leb k) s) q).1 i d (omega arith)

-- all are below the limit: none is not
pub all_told : (k : ℕ) (s : List ℕ) (t : Bool) → (IsTrue t ↔ All (λ w. w < k) s) → t ≡ not (any (leb k) s)
all_told k s t e = go (any (leb k) s) refl t refl
  where
    go : (a : Bool) → any (leb k) s ≡ a → (u : Bool) → t ≡ u → u ≡ not a
    go true p true z = let y : any (leb k) s ≡ false = below_none k s (e.0 z) in cc
    go true p false z = refl
    go false p u z = sym z ∙ e.1 (none_below k s p)
