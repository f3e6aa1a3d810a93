-- A row written with other ends.
-- Assumes nothing.
use mathlib.Core.Bool.{Bool, true, false, cond}
use mathlib.Core.List.{List, [], ◌∷◌, ◌++◌, append_assoc}
use mathlib.Core.Path.{◌≡◌, refl, sym, ap, ◌∙◌}
use Prim.Native.Nat.{ℕ, ◌+◌, ◌*◌, ◌^◌, ◌≤◌, ◌<◌}
use native.Mathlib.Omega.{arith}
use lib.ListN.{length, get_or, take, drop}
use lib.Seq.{paste, take_at, drop-paste, length-take-le, length-paste}
use lib.Dec.{eqb}
use Rattle.definition.specs.Elements.{Table}
use Rattle.words.specs.Parts.{paste_paste}
use Rattle.record_changes.specs.ChangeRow.{ChangeRow, row_words, row_of}
use Rattle.record_changes.specs.ChangeRowLaws.{row_at}
use Rattle.record_changes.specs.Numbers.{numbers_of, as_change, row_with, NumbersFit, change_by}
use Rattle.record_changes.specs.Spots.{spot_of, Named}
use Rattle.record_changes.proofs.Changing.{numbers_low}
use Rattle.record_changes.specs.declared.Place.TheVariants.{FirstChild, After}
use Rattle.record_changes.specs.declared.Listed.{Listed}
use Rattle.record_changes.specs.declared.Change.{Change}
use Rattle.record_changes.specs.declared.Change.TheVariants.{Insert, Replace, Delete, ReplaceWithMany, ReplaceAll}
use Rattle.record_changes.specs.declared.Numbers.{Numbers}
use Rattle.record_changes.specs.declared.Spot.{Spot}
use Rattle.record_rewritten.specs.Stated.{change_anew, ChangedEnds, kept_fate, row_anew}

-- ── The change with other ends ──────────────────────────────────────────────────────────────────────────────

-- what holds of each case holds of the change by its number
each : (P : Change → Type 0) (op x y : ℕ) (l : Listed) → P (Insert FirstChild x l) → P (Insert After x l) → P (Replace x l.at) → P (Delete x l.at) → P (ReplaceWithMany x l) → P (ReplaceAll x y l) → P (change_by op x y l)
unfolding change_by
each P op x y l a b c d e f = go (eqb op 0) a (go (eqb op 1) b (go (eqb op 2) c (go (eqb op 3) d (go (eqb op 4) e f))))
  where
    go : (t : Bool) {u v : Change} → P u → P v → P (cond t u v)
    go true p q = p
    go false p q = q

module _ (n op x y : ℕ) (l : Listed) (few : n ≤ 2048) (hx : x < n) (hy : y < n) (ha : l.at < 2 ^ 32) (hk : l.count < 2 ^ 32) where
  -- each number is below its bound
  low : Change → Type 0
  low d = ((numbers_of d).target < n) × ((numbers_of d).end < n) × ((numbers_of d).list < 2 ^ 32) × ((numbers_of d).count < 2 ^ 32)

  named_fits : Named n (change_by op x y l) × NumbersFit (numbers_of (change_by op x y l))
  unfolding low
  named_fits =
      let a = each low op x y l (omega arith) (omega arith) (omega arith) (omega arith) (omega arith) (omega arith) in
      let b = numbers_low (change_by op x y l) in
      (record { target = a.0; end = a.1 }, record { operation = b.0; target = omega arith; end = omega arith; list = a.2; count = a.3; rank = b.1 })

-- the words that tell the change
pub change_read : (w : List ℕ) (n i x y op at k : ℕ) (c : Change) → n ≤ 2048 → x < n → y < n
    → (op ≡ get_or (drop (14 * i) w) 0 0) × (op < 2 ^ 32) → (at ≡ get_or (drop (14 * i) w) 3 0) × (at < 2 ^ 32) → (k ≡ get_or (drop (14 * i) w) 4 0) × (k < 2 ^ 32)
    → c ≡ change_by op x y (record { at = at; count = k }) → ChangedEnds n (row_at w i) x y c
unfolding change_anew row_at row_of
change_read w n i x y op at k c few hx hy qo qa qk e =
    let l : Listed = record { at = at; count = k } in
    let h = named_fits n op x y l few hx hy qa.1 qk.1 in
    record { change = e ∙ rw (qo.0, qa.0, qk.0); named = rw e h.0; fits = rw e h.1 }

-- told by another function
pub fits_told : {n x y : ℕ} {r : ChangeRow} {c : Change} {m : Numbers} → ChangedEnds n r x y c → m ≡ numbers_of c → NumbersFit m
fits_told C e = rw e C.fits

-- ── The row written ─────────────────────────────────────────────────────────────────────────────────────────

-- a part written over again
paste_again : (d s t : List ℕ) (p n : ℕ) → p ≤ length d → n ≤ length s → paste (paste d p s n) p t n ≡ paste d p t n
paste_again d s t p n h k =
    let e : take p (paste d p s n) ≡ take p d = rw (append_assoc (take p d) (take n s) (drop (p + n) d)) (take_at (take p d) (take n s ++ drop (p + n) d) p (length-take-le p d h)) in
    rw (e, drop-paste d p s n h k)

-- fate, owner and rule number of r written over those of q
fate_written : (d : List ℕ) (i : ℕ) (r q : ChangeRow) → 14 * i + 14 ≤ length d → paste (paste d (14 * i) (row_words q) 14) (14 * i + 11) (r.fate ∷ r.owner ∷ r.rule ∷ []) 3 ≡ paste d (14 * i) (row_words (kept_fate r q)) 14
unfolding kept_fate row_words row_of
fate_written d i r q h =
    let first : List ℕ = take 11 (row_words q) in
    let old : List ℕ = q.fate ∷ q.owner ∷ q.rule ∷ [] in
    let new : List ℕ = r.fate ∷ r.owner ∷ r.rule ∷ [] in
    let d' : List ℕ = paste d (14 * i) first 11 in
    let behind : (t : List ℕ) → paste d' (14 * i + 11) t 3 ≡ paste d (14 * i) (first ++ t) 14 = λ t. paste_paste d (14 * i) first 11 t 3 (14 * i + 11) 14 refl refl (omega arith) (omega arith) refl in
    ap (λ (v : List ℕ). paste v (14 * i + 11) new 3) (sym (behind old))
    ∙ (paste_again d' old new (14 * i + 11) 3 (omega (arith, length-paste d (14 * i) first 11 (omega arith) (omega arith))) (omega arith) ∙ behind new)

-- they are the last three words of a row
pub fate_copied : (w d d' : List ℕ) (i f o n : ℕ) → f ≡ get_or (drop (14 * i) w) 11 0 → o ≡ get_or (drop (14 * i) w) 12 0 → n ≡ get_or (drop (14 * i) w) 13 0 → d' ≡ paste d (14 * i + 11) (f ∷ o ∷ n ∷ []) 3
    → d' ≡ paste d (14 * i + 11) ((row_at w i).fate ∷ (row_at w i).owner ∷ (row_at w i).rule ∷ []) 3
unfolding row_at row_of
fate_copied w d d' i f o n ef eo en e = rw (← ef, ← eo, ← en) e

-- the row of the change, and then its fate, owner and rule number
pub row_written : (T : Table) (w d d₁ d₂ : List ℕ) (n i x y z : ℕ) (c : Change) (m : Numbers) (s : Spot)
    → d₂ ≡ paste d₁ (14 * i + 11) ((row_at w i).fate ∷ (row_at w i).owner ∷ (row_at w i).rule ∷ []) 3 → d₁ ≡ paste d (14 * i) (row_words (row_with m s 0)) 14 → m ≡ numbers_of c → s ≡ spot_of T (as_change (z ∷ []) c)
    → ChangedEnds n (row_at w i) x y c → 14 * i + 14 ≤ length d → d₂ ≡ paste d (14 * i) (row_words (row_anew T (row_at w i) x y z)) 14
unfolding row_anew
row_written T w d d₁ d₂ n i x y z c m s e₂ e₁ em es C h =
    rw (e₂, e₁, em, es, C.change) (fate_written d i (row_at w i) (row_with (numbers_of (change_anew (row_at w i) x y)) (spot_of T (as_change (z ∷ []) (change_anew (row_at w i) x y))) 0) h)
