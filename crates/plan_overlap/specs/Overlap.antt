-- Refusal 8 on sorted rows, and that it is the definition's.
-- Assumes nothing.
use Rattle.std.specs.Prelude.{◌≡◌, false, ◌&&◌, drop, ltb, eqb, Result, Ok, Err, Option as Maybe, Some, None}
use Rattle.std.proofs.Math.Path.{refl, sym}
use Rattle.std.proofs.Math.Bool.{Bool, cond, not}
use mathlib.Core.List.{List, [], ◌∷◌, map}
use Rattle.std.proofs.Math.Option
use Rattle.std.proofs.Math.Option.{Option, none, some}
use Prim.Native.Nat.{ℕ, zero, suc, ◌-◌, ◌*◌}
use Rattle.definition.specs.Basics.{keep, first, numbered}
use Rattle.definition.specs.Elements.{Table}
use Rattle.definition.specs.Recording.{Change}
use Rattle.definition.specs.Planning.{rank, peers, exceeds, overlapping, overlap}
use Rattle.record_changes.specs.ChangeRow.{ChangeRow, rows_of}
use Rattle.plan_sort.specs.Lists.{map_numbered, map_keep, map_first}
use Rattle.record_changes.specs.ChangeRowLaws.{row_at}
use Rattle.plan_sort.specs.Rows.{Tells}
use Rattle.plan_overlap.specs.declared.Overlap.{Overlap}

-- ── On rows ─────────────────────────────────────────────────────────────────────────────────────────────────

-- "of the same tree and depth of target parent"
unfoldable pub row_peers : ChangeRow → ChangeRow → Bool
row_peers r s = eqb r.tree s.tree && eqb r.depth s.depth

-- "the earlier end exceeds the next start"
unfoldable pub row_exceeds : Option (ℕ × ChangeRow) → ChangeRow → Bool
row_exceeds none r = false
row_exceeds (some s) r = ltb r.from s.1.to

-- of rows with their places, those before it `seen`, the last first: the first that the one before it among its peers exceeds, as both places
unfoldable pub rows_overlapping : List (ℕ × ChangeRow) → List (ℕ × ChangeRow) → Option (ℕ × ℕ)
rows_overlapping seen [] = none
rows_overlapping seen (r ∷ rs) =
    let before = first (λ s. row_peers r.1 s.1) seen in
    let later = rows_overlapping (r ∷ seen) rs in
    cond (row_exceeds before r.1) (elim before [ none ↦ none | some s ↦ some (s.0, r.0) ]) later

-- a replacement or a run
unfoldable pub removes : ChangeRow → Bool
removes r = not (eqb r.rank 0)

-- 8: "among replacements and runs of the same tree and depth of target parent, the earlier end exceeds the next start": such a pair
unfoldable pub rows_overlap : List ChangeRow → Option (ℕ × ℕ)
rows_overlap rs = rows_overlapping [] (keep (λ r. removes r.1) (numbered 0 rs))

-- ── The definition's overlap ────────────────────────────────────────────────────────────────────────────────

-- things that have a row and a change each
module _ (T : Table) {X : Type 0} (row : X → ChangeRow) (change : X → Change) (tells : (x : X) → Tells T (row x) (change x)) where
  abbrev rowed : ℕ × X → ℕ × ChangeRow
  rowed q = (q.0, row q.1)

  abbrev changed : ℕ × X → ℕ × Change
  changed q = (q.0, change q.1)

  peers_told : (x y : X) → peers T (change x) (change y) ≡ row_peers (row x) (row y)
  unfolding peers row_peers
  peers_told x y = sym (rw ((tells x).tree_told, (tells y).tree_told, (tells x).depth_told, (tells y).depth_told))

  overlapping_told : (seen qs : List (ℕ × X)) → rows_overlapping (map rowed seen) (map rowed qs) ≡ overlapping T (map changed seen) (map changed qs)
  unfolding rows_overlapping overlapping row_exceeds exceeds
  overlapping_told seen [] = refl
  overlapping_told seen (q ∷ qs) =
      let p : ℕ × X → Bool = λ s. row_peers (row q.1) (row s.1) in
      rw (map_first rowed p (λ s. row_peers (row q.1) s.1) (λ s. refl) seen, map_first changed p (λ s. peers T (change q.1) s.1) (λ s. sym (peers_told q.1 s.1)) seen)
      (go (first p seen) (overlapping_told (q ∷ seen) qs))
    where
      go : (o : Option (ℕ × X)) → rows_overlapping (map rowed (q ∷ seen)) (map rowed qs) ≡ overlapping T (map changed (q ∷ seen)) (map changed qs)
          → cond (row_exceeds (Option.map rowed o) (row q.1)) (elim (Option.map rowed o) as (λ _. Option (ℕ × ℕ)) [ none ↦ none | some s ↦ some (s.0, q.0) ]) (rows_overlapping (map rowed (q ∷ seen)) (map rowed qs))
          ≡ cond (exceeds T (Option.map changed o) (change q.1)) (elim (Option.map changed o) as (λ _. Option (ℕ × ℕ)) [ none ↦ none | some s ↦ some (s.0, q.0) ]) (overlapping T (map changed (q ∷ seen)) (map changed qs))
      go none e = e
      go (some s) e = rw (e, ← (tells q.1).from_told, ← (tells s.1).to_told)

  pub overlap_told : (xs : List X) → rows_overlap (map row xs) ≡ overlap T (map change xs)
  unfolding rows_overlap overlap removes
  overlap_told xs =
      let keeps : ℕ × X → Bool = λ q. not (eqb (rank (change q.1)) 0) in
      rw (
        ← map_numbered row 0 xs,
        ← map_numbered change 0 xs,
        ← map_keep rowed keeps (λ r. not (eqb r.1.rank 0)) (λ q. sym (rw (tells q.1).rank_told)) (numbered 0 xs),
        ← map_keep changed keeps (λ c. not (eqb (rank c.1) 0)) (λ q. refl) (numbered 0 xs),
      )
      (overlapping_told [] (keep keeps (numbered 0 xs)))

-- ── On rows in words ────────────────────────────────────────────────────────────────────────────────────────

-- a replacement or a run in this tree and at this depth
unfoldable pub is_peer : ℕ → ℕ → ChangeRow → Bool
is_peer t d r = removes r && (eqb t r.tree && eqb d r.depth)

-- the replacements and runs before place k, the last first
unfoldable pub removers_before : List ℕ → ℕ → List (ℕ × ChangeRow)
removers_before w zero = []
removers_before w (suc j) = cond (removes (row_at w j)) ((j, row_at w j) ∷ removers_before w j) (removers_before w j)

-- the last of them among the peers of the row at place k
unfoldable pub peer_before : List ℕ → ℕ → Option (ℕ × ChangeRow)
peer_before w k = first (λ s. row_peers (row_at w k) s.1) (removers_before w k)

-- a place as index + 1; 0 = none
unfoldable pub place_after : Option (ℕ × ChangeRow) → ℕ
place_after none = 0
place_after (some s) = suc s.0

-- a place told so, as the code gives it
unfoldable pub place_found : ℕ → Maybe ℕ
place_found zero = None
place_found (suc j) = Some j

-- the place, told so, of the peer before the row at place k that exceeds it
unfoldable pub exceeding : List ℕ → ℕ → ℕ
exceeding w k =
    let before = peer_before w k in
    cond (removes (row_at w k) && row_exceeds before (row_at w k)) (place_after before) 0

-- what is left to find of n rows, from place k on
unfoldable pub overlap_from : List ℕ → ℕ → ℕ → Option (ℕ × ℕ)
overlap_from w n k = rows_overlapping (removers_before w k) (keep (λ r. removes r.1) (numbered k (rows_of (n - k) (drop (14 * k) w))))

-- the answer that the code gives
unfoldable pub replacements : Option (ℕ × ℕ) → Result (Unit {0}) Overlap
replacements none = Ok tt
replacements (some p) = Err (record { earlier = p.0; later = p.1 })
