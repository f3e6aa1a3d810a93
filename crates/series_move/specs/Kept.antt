-- One bookmark after a run: written to a slot that is no later than its own, or dropped.
-- Assumes nothing.
use Rattle.std.specs.Prelude.{◌≡◌, Bool, true, false, drop}
use Rattle.std.proofs.Math.Path.{sym, ap}
use Rattle.std.proofs.Common.{◌∙◌, length-take}
use mathlib.Core.List.{List, ◌∷◌, tail}
use Rattle.std.proofs.Math.Option.{Option, none, some, map}
use Prim.Native.Nat.{ℕ, ◌+◌, ◌-◌, ◌*◌, ◌^◌, ◌≤◌, ◌<◌}
use native.Mathlib.Omega.{arith}
use Rattle.std.proofs.Math.ListN.{length, get_or, take, length-drop}
use Rattle.std.proofs.Math.Seq.{paste, length-take-le}
use Rattle.orders.specs.Tree.{Tree, Path, Run, resolve}
use Rattle.definition_laws.specs.Running.{top}
use Rattle.definition_account.specs.Moved.{in_a_row}
use Rattle.series_laws.specs.Memory.{Bookmark}
use Rattle.series_laws.specs.Follow.{moved, kept}
use Rattle.series_laws.specs.Lent.{slot_words, bookmark_in, bookmark_out}
use Rattle.series_check.specs.Slots.{slot_at, slot_word, slot_path}
use Rattle.series_move.specs.Standing.{Stood}
use Rattle.series_move.specs.Found.{Stands, moved_by}
use Rattle.series_move.specs.Paths.{PathNow}

-- ── What is known ───────────────────────────────────────────────────────────────────────────────────────────

-- what a run leaves, and its moves: "all its splices and root replacements in a row" move the paths of tree 0
pub record Moves (source : List ℕ) (e : ℕ) (marks rows : List ℕ) (n : ℕ) : Type 0 where
  pub stood : Stood source e marks rows n
  pub moves : List (Run × ℕ)
  pub told : (p : Path) (v : Tree ℕ) → resolve (0 ∷ p) (top stood.trees) ≡ some v → stood.follows.move (0 ∷ p) ≡ in_a_row moves (0 ∷ p)

-- the bookmark of a slot is an element of tree 0
pub record Leads {source : List ℕ} {e : ℕ} {marks rows : List ℕ} {n : ℕ} (m : Moves source e marks rows n) (slot : List ℕ) : Type 0 where
  pub short : get_or slot 1 0 ≤ 63
  pub end : Tree ℕ
  pub leads : resolve (0 ∷ (bookmark_in slot).1) (top m.stood.trees) ≡ some end

pub record Here (source : List ℕ) (e : ℕ) (marks rows : List ℕ) (n : ℕ) (slot : List ℕ) : Type 0 where
  pub run : Moves source e marks rows n
  pub found : Leads run slot

-- ── What is left ────────────────────────────────────────────────────────────────────────────────────────────

-- the words of bookmarks with one more in slot `to`, if there is one
unfoldable pub put_at : Option Bookmark → List ℕ → ℕ → List ℕ
put_at none b to = b
put_at (some c) b to = paste b (1 + slot_words * to) (bookmark_out c) (2 + length c.1)

-- the slot behind it
unfoldable pub slot_after : Option Bookmark → ℕ → ℕ
slot_after none to = to
slot_after (some c) to = to + 1

pub record Put (b : List ℕ) (to : ℕ) (o : Option Bookmark) (out : List ℕ) (r : ℕ) : Type 0 where
  pub words : out ≡ put_at o b to
  pub next : r ≡ slot_after o to

-- ── The laws ────────────────────────────────────────────────────────────────────────────────────────────────

-- a front is no longer than it says
pub front_short : {k m : ℕ} (l : List ℕ) → k ≤ m → length (take k l) ≤ m
front_short {k} {m} l h = omega (arith, length-take k l)

module _ {source : List ℕ} {e : ℕ} {marks rows : List ℕ} {n : ℕ} (b : List ℕ) (i : ℕ) {at k : ℕ} (ea : at ≡ 1 + 65 * i) (ek : (k ≡ get_or b (at + 1) 0) × (k < 2 ^ 32)) (h : Here source e marks rows n (slot_at b i)) where
  long : get_or (slot_at b i) 1 0 ≡ k
  long = slot_word b i 1 (at + 1) (omega arith) (omega arith) ∙ sym ek.0

  -- its path is no longer than a slot has room for
  pub here_short : k ≤ 63
  here_short = omega (arith, long, h.found.short)

  -- the words of its path
  pub path_is : (bookmark_in (slot_at b i)).1 ≡ take (at + 2 + k - (at + 2)) (drop (at + 2) b)
  unfolding bookmark_in
  path_is =
      let same : at + 2 + k - (at + 2) ≡ k = omega arith in
      ap (λ (j : ℕ). take j (drop 2 (slot_at b i))) long ∙ (slot_path b i k (at + 2) here_short (omega arith) ∙ sym (ap (λ (j : ℕ). take j (drop (at + 2) b)) same))

  abbrev pub here_stands : Stands source e marks rows n (take (at + 2 + k - (at + 2)) (drop (at + 2) b))
  here_stands = record { stood = h.run.stood; end = h.found.end; leads = ap (λ (p : Path). resolve (0 ∷ p) (top h.run.stood.trees)) (sym path_is) ∙ h.found.leads }

  -- its path moves as the moves in a row do
  moved_is : map tail (moved_by here_stands) ≡ moved h.run.moves (bookmark_in (slot_at b i)).1
  unfolding moved
  moved_is = ap (λ (p : Path). map tail (h.run.stood.follows.move (0 ∷ p))) (sym path_is) ∙ ap (map tail) (h.run.told (bookmark_in (slot_at b i)).1 h.found.end h.found.leads)

  module _ {out : List ℕ} {r : Bool} (p : PathNow source e marks rows n (take (at + 2 + k - (at + 2)) (drop (at + 2) b)) out r) (to : ℕ) where
    -- it is dropped
    pub here_dropped : r ≡ false → Put b to (kept h.run.moves (bookmark_in (slot_at b i))) b to
    unfolding kept put_at slot_after
    here_dropped z =
        let gone : moved h.run.moves (bookmark_in (slot_at b i)).1 ≡ none = sym moved_is ∙ ap (map tail) (p.dropped z here_stands) in
        record { words = rw gone; next = rw gone }

    -- it is kept
    pub here_kept : r ≡ true → {number : ℕ} {words : List ℕ} → number ≡ get_or b at 0 → words ≡ paste b (1 + 65 * to) (bookmark_out (number, take k out)) (2 + length (take k out)) → 1 + 65 * (i + 1) ≤ length b
        → Put b to (kept h.run.moves (bookmark_in (slot_at b i))) words (to + 1)
    unfolding kept put_at slot_after bookmark_in
    here_kept z {number} {words} en ew room =
        let path : List ℕ = take (at + 2 + k - (at + 2)) (drop (at + 2) b) in
        let same : at + 2 + k - (at + 2) ≡ k = omega arith in
        let size : length path ≡ k = length-take-le (at + 2 + k - (at + 2)) (drop (at + 2) b) (omega (arith, here_short, length-drop (at + 2) b)) ∙ same in
        let stays : moved h.run.moves (bookmark_in (slot_at b i)).1 ≡ some (take k out) = sym moved_is ∙ (ap (map tail) (p.kept z here_stands) ∙ ap {B = Option Path} (λ (j : ℕ). some (take j out)) size) in
        let is : number ≡ get_or (slot_at b i) 0 0 = en ∙ sym (slot_word b i 0 at (omega arith) (omega arith)) in
        record { words = ew ∙ rw (stays, is); next = rw stays }
