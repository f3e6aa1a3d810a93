-- The element of a bookmark, and what its mark tells.
-- Assumes nothing.
use Rattle.std.specs.Prelude.{◌≡◌, refl, ℕ}
use Rattle.std.proofs.Common.{sym, ap, ◌∙◌, arith}
use mathlib.Core.List.{List, ◌∷◌, tail}
use Rattle.std.proofs.Math.Option.{Option, none, some}
use Rattle.orders.specs.Tree.{Tree, Path, resolve}
use Rattle.definition_laws.specs.Running.{top}
use Rattle.rows_model.specs.Place.{place, mark_of}
use Rattle.rows_model.proofs.PlaceLaws.{place_pos}
use Rattle.series_move.specs.Standing.{Stood}

-- the path leads to an element of tree 0
pub record Stands (source : List ℕ) (e : ℕ) (marks rows : List ℕ) (n : ℕ) (path : List ℕ) : Type 0 where
  pub stood : Stood source e marks rows n
  pub end : Tree ℕ
  pub leads : resolve (0 ∷ path) (top stood.trees) ≡ some end

-- where it stands now
abbrev pub moved_by : {source : List ℕ} {e : ℕ} {marks rows : List ℕ} {n : ℕ} {path : List ℕ} → Stands source e marks rows n path → Option Path
moved_by {path = path} s = s.stood.follows.move (0 ∷ path)

-- a mark that is not 0 is that of an element that survives
pub moved_some : {source : List ℕ} {e : ℕ} {marks rows : List ℕ} {n : ℕ} {path : List ℕ} (s : Stands source e marks rows n path) → ¬ (mark_of s.stood.world.trees (moved_by s) ≡ 0) → (q : Path) × (moved_by s ≡ some (0 ∷ q))
unfolding mark_of
moved_some {path = path} s h = go (moved_by s) refl h
  where
    go : (o : Option Path) → moved_by s ≡ o → ¬ (mark_of s.stood.world.trees o ≡ 0) → (q : Path) × (moved_by s ≡ some (0 ∷ q))
    go none q h = absurd (h refl)
    go (some u) q h = (tail u, q ∙ ap {B = Option Path} some (s.stood.home path u s.end s.leads q))

-- a mark that is 0 is that of one that is gone
pub gone : {source : List ℕ} {e : ℕ} {marks rows : List ℕ} {n : ℕ} {path : List ℕ} (s : Stands source e marks rows n path) → mark_of s.stood.world.trees (moved_by s) ≡ 0 → moved_by s ≡ none
unfolding mark_of
gone {path = path} s h = go (moved_by s) refl h
  where
    go : (o : Option Path) → moved_by s ≡ o → mark_of s.stood.world.trees o ≡ 0 → moved_by s ≡ none
    go none q h = q
    go (some u) q h =
        let z = s.stood.home path u s.end s.leads q in
        let (y, a, b) = s.stood.follows.leads (0 ∷ path) u s.end s.leads q in
        absurd (omega (arith, place_pos 0 (tail u) s.stood.world.trees y (ap (λ (p : Path). resolve p s.stood.world.trees) (sym z) ∙ a), h, ap (λ (p : Path). place p s.stood.world.trees) z))
