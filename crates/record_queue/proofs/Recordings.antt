-- A change recorded among rows: each answer, from the tests that led there.
-- Assumes nothing.
use mathlib.Core.Bool.{Bool, true, false, cond, ◌&&◌, and-true, and-false}
use mathlib.Core.List.{List, [], ◌∷◌, ◌++◌, head_d, zip}
use mathlib.Core.Option.{Option, map}
use Rattle.std.specs.Prelude.{Option as Maybe, None, Some, unwrap_or, IfSome, MatchOption}
use mathlib.Core.Path.{◌≡◌, refl, sym, ap, ◌∙◌}
use Prim.Native.Nat.{ℕ, zero, suc, ◌+◌, ◌-◌, ◌*◌, ◌^◌, ◌≤◌, ◌<◌}
use native.Mathlib.Numerals.{add-one}
use Rattle.std.proofs.Common.{add-zero, rules}
use native.Mathlib.Omega.{arith}
use lib.ListN.{length, get_or, take, drop, length-drop, drop_of_length-le, take-append-drop}
use lib.Seq.{paste, get_or-drop, split_at, drop-drop, drop-paste}
use lib.Dec.{eqb}
use borrow.Author.Tests.{eq-eqb, ne_eqb}
use Rattle.record_changes.specs.ChangeRow.{ChangeRow, row_words, row_of, rows_of, change_row}
use Rattle.record_changes.specs.ChangeRowLaws.{row_at, length_row, length_rows_of, rows_written, row_among, row_set, row_added}
use Rattle.record_queue.specs.Queueing.{place, place_none, place_passed, place_found, put, put_found, put_new, through, through_editor, through_put, through_end}
use Rattle.definition.specs.Elements.{Table}
use Rattle.definition.specs.Refusals.{Call, call_of, operation_of, count_of, rule_of}
use Rattle.orders.specs.Lists.{All}
use Rattle.definition.specs.Recording.{change}
use Rattle.read_calls.proofs.Own.{own_taken}
use Rattle.record_changes.specs.Numbers.{numbers_of, as_change, run_asked, change_asked, row_with, NumbersFit}
use Rattle.record_changes.specs.Spots.{spot_of, Named}
use Rattle.record_changes.proofs.Changing.{numbers_low}
use Rattle.record_queue.specs.Recorded.{news_at, asked_at, all_asked}
use Rattle.read_element_table.specs.Wellformed.{Wellformed}
use Rattle.words.specs.List.{words_of, length_of}
use Rattle.words.specs.declared.list.WordList.{WordList}
use Rattle.record_queue.specs.CallList.{call_as, calls_of, Fit, calls_from, calls_more, calls_none, CallFits, CallPut}
use Rattle.record_queue.specs.Placed.{fit_stand}
use Rattle.record_queue.specs.Asked.{row_of_change, row_asked}
use Rattle.record_changes.specs.declared.Place.{Place}
use Rattle.record_changes.specs.declared.Place.TheVariants.{FirstChild, After}
use Rattle.record_changes.specs.declared.Change.{Change}
use Rattle.record_changes.specs.declared.Change.TheVariants.{Insert, Replace, Delete, ReplaceWithMany, ReplaceAll}
use Rattle.record_changes.specs.declared.Numbers.{Numbers}
use Rattle.record_changes.specs.declared.Spot.{Spot}
use Rattle.record_queue.specs.RecordedRows.{is_single, meets_single, meets_by, meets_row, idle_by, merged_row, row_for, change_rows, rows_asked, rows_through, Put, RowsRecorded}

-- ── Which row ───────────────────────────────────────────────────────────────────────────────────────────────

pub single_replace : (op : ℕ) → op ≡ 2 → true ≡ is_single op
unfolding is_single
single_replace op e = rw e

pub single_delete : (op : ℕ) → (op ≡ 2 → ⊥) → eqb op 3 ≡ is_single op
unfolding is_single
single_delete op e = rw (ne_eqb op 2 e)

module _ (w : List ℕ) (k : ℕ) where
  first_word : (v : ℕ) → v ≡ get_or w (14 * k) 0 → v ≡ (row_at w k).operation
  unfolding row_at row_of
  first_word v e = e ∙ sym (get_or-drop (14 * k) w 0 0 ∙ ap (λ (i : ℕ). get_or w i 0) (omega arith))

  second_word : (v : ℕ) → v ≡ get_or w (14 * k + 1) 0 → v ≡ (row_at w k).target
  unfolding row_at row_of
  second_word v e = e ∙ sym (get_or-drop (14 * k) w 1 0)

  fourth_word : (v : ℕ) → v ≡ get_or w (14 * k + 3) 0 → v ≡ (row_at w k).list
  unfolding row_at row_of
  fourth_word v e = e ∙ sym (get_or-drop (14 * k) w 3 0)

  module _ (x z : ℕ) (h : z ≡ get_or w (14 * k + 1) 0) where
    pub meets_other : (x ≡ z → ⊥) → false ≡ meets_single x (row_at w k)
    unfolding meets_single
    meets_other n = rw (← second_word z h, ne_eqb x z n, and-false)

    pub meets_target : x ≡ z → (v : ℕ) → v ≡ get_or w (14 * k) 0 → (t : Bool) → t ≡ is_single v → t ≡ meets_single x (row_at w k)
    unfolding meets_single
    meets_target e v f t g = rw (← second_word z h, eq-eqb x z e, and-true, ← first_word v f) g

-- ── Whether a change has an effect ──────────────────────────────────────────────────────────────────────────

module _ (L w : List ℕ) (k op at v : ℕ) (h : v ≡ get_or w (14 * k) 0) where
  pub idle_delete : v ≡ 3 → true ≡ idle_by L op at (row_at w k)
  unfolding idle_by
  idle_delete e = rw (← first_word w k v h, e)

  pub idle_others : (v ≡ 3 → ⊥) → (v ≡ 2 → ⊥) → false ≡ idle_by L op at (row_at w k)
  unfolding idle_by
  idle_others d n = rw (← first_word w k v h, ne_eqb v 3 d, ne_eqb v 2 n)

  pub idle_deleting : v ≡ 2 → (op ≡ 2 → ⊥) → false ≡ idle_by L op at (row_at w k)
  unfolding idle_by
  idle_deleting e n = rw (← first_word w k v h, e, ne_eqb op 2 n)

  pub idle_same : v ≡ 2 → op ≡ 2 → (u x y : ℕ) → u ≡ get_or w (14 * k + 3) 0 → x ≡ get_or L u 0 → y ≡ get_or L at 0 → eqb x y ≡ idle_by L op at (row_at w k)
  unfolding idle_by
  idle_same e f u x y eu ex ey = rw (← first_word w k v h, e, f, ← fourth_word w k u eu, ← ex, ← ey)

-- ── The place ───────────────────────────────────────────────────────────────────────────────────────────────

-- what is sought stands from k on
pub record Seeking (w : List ℕ) (start count x k : ℕ) : Type 0 where
  pub inside : k ≤ count
  pub same : start + place (meets_single x) (drop start (rows_of count w)) ≡ k + place (meets_single x) (drop k (rows_of count w))

pub seeking_start : (w : List ℕ) (start count x : ℕ) → start ≤ count → Seeking w start count x start
seeking_start w start count x h = record { inside = h; same = refl }

module _ {w : List ℕ} {start count x k : ℕ} (v : Seeking w start count x k) where
  pub seeking_none : count ≤ k → unwrap_or None count ≡ start + place (meets_single x) (drop start (rows_of count w))
  unfolding place
  seeking_none h =
      let e : k ≡ count = omega (arith, v.inside) in
      sym (v.same ∙ rw (drop_of_length-le (rows_of count w) {i = k} (omega (arith, length_rows_of count w)), e) (omega arith))

  module _ (h : k < count) {t : Bool} (e : t ≡ meets_single x (row_at w k)) where
    known : meets_single x (get_or (rows_of count w) k (row_at w k)) ≡ t
    known = rw (row_among w count k (row_at w k) h) (sym e)

    pub seeking_found : t ≡ true → unwrap_or (Some k) count ≡ start + place (meets_single x) (drop start (rows_of count w))
    seeking_found q = sym (v.same ∙ place_found (meets_single x) (rows_of count w) k (row_at w k) (omega (arith, length_rows_of count w)) (known ∙ q))

    pub seeking_next : t ≡ false → Seeking w start count x (k + 1)
    seeking_next q =
        record {
          inside = omega arith;
          same = v.same ∙ rw (add-one k) (place_passed (meets_single x) (rows_of count w) k (row_at w k) (omega (arith, length_rows_of count w)) (known ∙ q));
        }

module _ (w : List ℕ) (start count x : ℕ) (h : start ≤ count) where
  -- no row of those before start + j is met
  passing : (j : ℕ) → start + j ≤ count → ((k : ℕ) → start ≤ k → k < start + j → false ≡ meets_single x (row_at w k)) → Seeking w start count x (start + j)
  passing zero l n = rw (add-zero start) (seeking_start w start count x h)
  passing (suc j) l n =
      let e : start + suc j ≡ start + j + 1 = omega arith in
      rw e (seeking_next (passing j (omega arith) (λ k a b. n k a (omega arith))) (omega arith) (n (start + j) (omega arith) (omega arith)) refl)

  passed : (i : ℕ) → start ≤ i → i ≤ count → ((k : ℕ) → start ≤ k → k < i → false ≡ meets_single x (row_at w k)) → Seeking w start count x i
  passed i a b n = let e : start + (i - start) ≡ i = omega arith in rw e at (passing (i - start) (omega arith) (λ k c d. n k c (omega arith)))

  -- the first row that is met
  pub first_place : (r : Maybe ℕ) → MatchOption r ((k : ℕ) → start ≤ k → k < count → false ≡ meets_single x (row_at w k)) (λ i. (start ≤ i) × (i < count) × (true ≡ meets_single x (row_at w i)) × ((k : ℕ) → start ≤ k → k < i → false ≡ meets_single x (row_at w k)))
      → (unwrap_or r count ≡ start + place (meets_single x) (drop start (rows_of count w))) × IfSome r (λ k. k < count)
  first_place None n = (seeking_none (passed count h (omega arith) n) (omega arith), search rules)
  first_place (Some i) m = (seeking_found (passed i m.0 (omega arith) m.3) m.1 m.2 refl, m.1)

module _ (w : List ℕ) (start count op x : ℕ) (t : Bool) (e : t ≡ is_single op) where
  -- the place is sought if the operation merges; else no row is met
  place_by : (l : List ChangeRow) → place (meets_by op x) l ≡ cond t (place (meets_single x) l) (length l)
  unfolding meets_by
  place_by l = ap (λ (u : Bool). place (λ s. u && meets_single x s) l) (sym e) ∙ go t
    where
      go : (u : Bool) → place (λ s. u && meets_single x s) l ≡ cond u (place (meets_single x) l) (length l)
      go true = refl
      go false = place_none l

  pub place_neither : start ≤ count → t ≡ false → unwrap_or None count ≡ start + place (meets_by op x) (drop start (rows_of count w))
  place_neither h q = rw (place_by (drop start (rows_of count w)), q, length-drop, length_rows_of) (omega arith)

  pub place_single : (k : Maybe ℕ) → t ≡ true → unwrap_or k count ≡ start + place (meets_single x) (drop start (rows_of count w)) → unwrap_or k count ≡ start + place (meets_by op x) (drop start (rows_of count w))
  place_single k q f = rw (place_by (drop start (rows_of count w)), q) f

-- ── One change more ─────────────────────────────────────────────────────────────────────────────────────────

module _ (L : List ℕ) (r : ChangeRow) (start count : ℕ) (w : List ℕ) (h : start ≤ count) (k : ℕ) (e : k ≡ start + place (meets_by r.operation r.target) (drop start (rows_of count w))) where
  -- what is written at the place of a row leaves what stands behind it
  behind : (c : ℕ) → suc k ≤ c → 14 * k + 14 ≤ length w → drop (14 * c) (paste w (14 * k) (row_words r) 14) ≡ drop (14 * c) w
  behind c b l =
      let f : 14 * c ≡ 14 * k + 14 + (14 * c - (14 * k + 14)) = omega arith in
      let j : ℕ = 14 * c - (14 * k + 14) in
      rw (f, ← drop-drop j (14 * k + 14) (paste w (14 * k) (row_words r) 14), drop-paste w (14 * k) (row_words r) 14 (omega arith) (omega (arith, length_row r)), drop-drop j (14 * k + 14) w)

  pub put_added : (w' : List ℕ) → k ≡ count → 14 * count + 14 ≤ length w → w' ≡ paste w (14 * k) (row_words r) 14 → Put L r start count w (count + 1) w'
  put_added w' q l p =
      record {
        low = omega arith;
        high = omega arith;
        rows =
            rw (p, q) (row_added count w r l)
            ∙ sym (put_new meets_row (merged_row L) (rows_of count w) start (omega (arith, length_rows_of count w)) r (omega (arith, length_rows_of count w)));
        beyond = rw p (behind (count + 1) (omega arith) (omega arith));
      }

  module _ (m : k < count) (l : 14 * count + 14 ≤ length w) (t : Bool) (f : t ≡ idle_by L r.operation r.list (row_at w k)) where
    found : take start (rows_of count w) ++ put meets_row (merged_row L) r (drop start (rows_of count w)) ≡ take k (rows_of count w) ++ (merged_row L r (row_at w k) ∷ drop (suc k) (rows_of count w))
    found =
        put_found meets_row (merged_row L) (rows_of count w) start (omega (arith, length_rows_of count w)) r k (row_at w k) e (omega (arith, length_rows_of count w))
        ∙ rw (row_among w count k (row_at w k) m)

    -- the row that it has no effect on stays
    pub put_stays : t ≡ true → Put L r start count w count w
    unfolding merged_row
    put_stays q =
        let g : idle_by L r.operation r.list (row_at w k) ≡ true = sym f ∙ q in
        record {
          low = omega arith;
          high = omega arith;
          rows = sym (found ∙ rw g (ap (λ (s : ChangeRow). take k (rows_of count w) ++ (s ∷ drop (suc k) (rows_of count w))) (sym (row_among w count k (row_at w k) m)) ∙ sym (split_at (rows_of count w) k (row_at w k) (omega (arith, length_rows_of count w)))));
          beyond = refl;
        }

    -- any other row is written over
    pub put_over : (w' : List ℕ) → t ≡ false → w' ≡ paste w (14 * k) (row_words r) 14 → Put L r start count w count w'
    unfolding merged_row
    put_over w' q p =
        let g : idle_by L r.operation r.list (row_at w k) ≡ false = sym f ∙ q in
        let over : take k (rows_of count w) ++ (r ∷ drop (suc k) (rows_of count w)) ≡ take start (rows_of count w) ++ put meets_row (merged_row L) r (drop start (rows_of count w)) =
        sym (found ∙ rw g) in
        record {
          low = omega arith;
          high = omega arith;
          rows = rw p (row_set count k w r m (omega arith) ∙ over);
          beyond = rw p (behind count m (omega arith));
        }

-- the row of a change by its numbers
module _ (L : List ℕ) (m : Numbers) (s : Spot) (n start count : ℕ) (w : List ℕ) (h : start ≤ count) (l : 14 * count + 14 ≤ length w) where
  pub record_added : (w' : List ℕ) → unwrap_or None count ≡ start + place (meets_by m.operation m.target) (drop start (rows_of count w)) → w' ≡ paste w (14 * count) (row_words (row_with m s n)) 14
      → Put L (row_with m s n) start count w (count + 1) w'
  unfolding row_with
  record_added w' e p = put_added L (row_with m s n) start count w h count e w' refl l p

  module _ (k : ℕ) (e : unwrap_or (Some k) count ≡ start + place (meets_by m.operation m.target) (drop start (rows_of count w))) (b : k < count) (t : Bool) (f : t ≡ idle_by L m.operation m.list (row_at w k)) where
    pub record_stays : t ≡ true → Put L (row_with m s n) start count w count w
    unfolding row_with
    record_stays q = put_stays L (row_with m s n) start count w h k e b l t f q

    pub record_over : (w' : List ℕ) → t ≡ false → w' ≡ paste w (14 * k) (row_words (row_with m s n)) 14 → Put L (row_with m s n) start count w count w'
    unfolding row_with
    record_over w' q p = put_over L (row_with m s n) start count w h k e b l t f w' q p

-- ── One call ────────────────────────────────────────────────────────────────────────────────────────────────

-- what a call's change names, and its numbers
module _ (op x at k y : ℕ) where
  -- a fact of each case
  cases : (P : Change → Type 0) → ((p : Place) → P (Insert p x (record { at = at; count = k }))) → P (Replace x at) → P (Delete x at) → P (ReplaceWithMany x (record { at = at; count = k })) → P (ReplaceWithMany x (record { at = at + 1; count = k - 1 })) → P (ReplaceAll x y (record { at = at + 1; count = k - 1 })) → P (change_asked op x at k y)
  unfolding change_asked run_asked
  cases P a b c d e f = go (eqb op 0) (eqb op 1) (eqb op 2) (eqb op 3) (eqb op 4) (eqb x y)
    where
      go : (t₀ t₁ t₂ t₃ t₄ t₅ : Bool)
          → P (cond t₀ (Insert FirstChild x (record { at = at; count = k }))
          (cond t₁ (Insert After x (record { at = at; count = k }))
          (cond t₂ (Replace x at)
          (cond t₃ (Delete x at)
          (cond t₄ (ReplaceWithMany x (record { at = at; count = k }))
          (cond t₅ (ReplaceWithMany x (record { at = at + 1; count = k - 1 })) (ReplaceAll x y (record { at = at + 1; count = k - 1 }))))))))
      go true t₁ t₂ t₃ t₄ t₅ = a FirstChild
      go false true t₂ t₃ t₄ t₅ = a After
      go false false true t₃ t₄ t₅ = b
      go false false false true t₄ t₅ = c
      go false false false false true t₅ = d
      go false false false false false true = e
      go false false false false false false = f

  asked_named : (n : ℕ) (c : Change) → c ≡ change_asked op x at k y → x < n → y < n → Named n c
  asked_named n c e h j =
      rw e
      (cases (Named n) (λ p. record { target = h; end = h }) (record { target = h; end = h }) (record { target = h; end = h }) (record { target = h; end = h }) (record { target = h; end = h }) (record { target = h; end = j }))

  asked_fits : (m : Numbers) (c : Change) → c ≡ change_asked op x at k y → m ≡ numbers_of c → x < 2 ^ 32 → y < 2 ^ 32 → at < 2 ^ 31 → k < 2 ^ 32 → NumbersFit m
  asked_fits m c e f h j a b =
      rw (f, e)
      (cases (λ c. NumbersFit (numbers_of c)) (λ p. record { operation = (numbers_low (Insert p x (record { at = at; count = k }))).0; target = h; end = h; list = omega arith; count = b; rank = omega arith })
      (record { operation = omega arith; target = h; end = h; list = omega arith; count = omega arith; rank = omega arith })
      (record { operation = omega arith; target = h; end = h; list = omega arith; count = omega arith; rank = omega arith })
      (record { operation = omega arith; target = h; end = h; list = omega arith; count = b; rank = omega arith })
      (record { operation = omega arith; target = h; end = h; list = omega arith; count = omega arith; rank = omega arith })
      (record { operation = omega arith; target = h; end = j; list = omega arith; count = omega arith; rank = omega arith }))

module _ {n : ℕ} (l : WordList) {at x : ℕ} (F : CallFits n (words_of l) at x) {y : ℕ} (e : y ≡ head_d (words_of l) 0) where
  pub first_below : y < n
  first_below = rw e F.first

  module _ (op : ℕ) {c : Change} (ec : c ≡ change_asked op x at l.count y) where
    pub call_named : Named n c
    call_named = asked_named op x at l.count y n c ec F.target first_below

    pub call_numbers : {w s : List ℕ} → Wellformed n w s → {m : Numbers} → m ≡ numbers_of c → NumbersFit m
    call_numbers W {m} em =
        asked_fits op x at l.count y m c ec em (omega (arith, F.target, W.lines.few)) (omega (arith, first_below, W.lines.few)) F.low (omega (arith, F.few, length_of l))

pub rule_fits : (w : ℕ) {n : ℕ} → n ≡ rule_of w → n < 2 ^ 32
unfolding rule_of
rule_fits w e = omega (arith, e)

module _ (T : Table) (L : List ℕ) (at word₁ op x start count : ℕ) (l w : List ℕ) (eo : op ≡ operation_of word₁) where
  -- a further editor starts
  pub call_editor : op ≡ 6 → CallPut T L at (call_of word₁ x l) start count w count count w
  unfolding asked_at
  call_editor e =
      record {
        sound = omega arith;
        low = omega arith;
        high = omega arith;
        beyond = refl;
        step = λ cs.
            rw (← eo, eq-eqb op 6 e) (through_editor meets_row (merged_row L) (rows_of count w) start cs)
            ∙ ap (λ (k : ℕ). through meets_row (merged_row L) (take k (rows_of count w)) (drop k (rows_of count w)) cs) (length_rows_of count w);
      }

  -- any other call
  pub call_put : (k y n next : ℕ) (c : Change) (m : Numbers) (s : Spot) (w' : List ℕ) → (op ≡ 6 → ⊥) → start ≤ count → k ≡ length l → n ≡ rule_of word₁ → y ≡ head_d l 0 → c ≡ change_asked op x at k y → m ≡ numbers_of c → s ≡ spot_of T (as_change (y ∷ []) c)
      → Put L (row_with m s n) start count w next w' → CallPut T L at (call_of word₁ x l) start count w start next w'
  unfolding asked_at row_of_change
  call_put k y n next c m s w' z h ek en ey ec em es p =
      let row : row_with m s n ≡ change_row T (news_at at (call_as op x l n)) n (change (call_as op x l n)) = rw (em, es, ec) (row_asked T x at k y n l ek ey op) in
      record {
        sound = omega (arith, p.low);
        low = p.low;
        high = p.high;
        beyond = p.beyond;
        step = λ cs.
            rw (← eo, ← en, ne_eqb op 6 z, ← row)
            (through_put meets_row (merged_row L) (rows_of count w) start (omega (arith, length_rows_of count w)) (row_with m s n) (rows_of next w') cs p.rows);
      }

-- ── All calls ───────────────────────────────────────────────────────────────────────────────────────────────

module _ (T : Table) (n : ℕ) (calls targets listed : WordList) (w₀ : List ℕ) where
  abbrev all : List Call
  all = calls_of (zip (words_of calls) (words_of targets)) (words_of listed)

  -- i calls are recorded, and have taken so many of the listed elements
  pub record Recording (start count taken i : ℕ) (w : List ℕ) : Type 0 where
    pub inside : i ≤ calls.count
    pub few : taken ≤ listed.count
    pub sound : start ≤ count
    pub high : count ≤ i
    pub long : length w ≡ length w₀
    pub fit : Fit n (calls_from (words_of calls) (words_of targets) i) (drop taken (words_of listed))
    pub beyond : drop (14 * count) w ≡ drop (14 * count) w₀
    pub verdict : change_rows T all
        ≡ through meets_row (merged_row (words_of listed)) (take start (rows_of count w)) (drop start (rows_of count w)) (rows_asked T taken (calls_of (calls_from (words_of calls) (words_of targets) i) (drop taken (words_of listed))))

  pub recording_start : Fit n (zip (words_of calls) (words_of targets)) (words_of listed) → Recording 0 0 0 0 w₀
  unfolding rows_of
  recording_start h =
      record {
        inside = omega arith;
        few = omega arith;
        sound = omega arith;
        high = omega arith;
        long = refl;
        fit = h;
        beyond = refl;
        verdict = rows_through T (words_of listed) all (fit_stand n (words_of listed) (zip (words_of calls) (words_of targets)) 0 (words_of listed) refl h);
      }

module _ {T : Table} {n : ℕ} {calls targets listed : WordList} {w₀ : List ℕ} {start count taken i : ℕ} {w : List ℕ} (v : Recording T n calls targets listed w₀ start count taken i w) where
  -- no call is left
  pub recording_done : calls.count ≤ i → 14 * calls.count ≤ length w₀ → RowsRecorded calls.count (change_rows T (all T n calls targets listed w₀)) w₀ count w
  unfolding calls_of all_asked
  recording_done h l =
      let e : change_rows T (all T n calls targets listed w₀) ≡ rows_of count w = v.verdict ∙ rw (calls_none (words_of calls) (words_of targets) i (omega (arith, length_of calls))) (through_end meets_row (merged_row (words_of listed)) (rows_of count w) start) in
      record {
        few = omega (arith, v.high, v.inside);
        counted = rw e (sym (length_rows_of count w));
        written = rw (e, length_rows_of count w, rows_written count w (omega (arith, v.long, v.high, v.inside)), ← v.beyond) (sym (take-append-drop (14 * count) w));
      }

  module _ (h : i < calls.count) (s : targets.count ≡ calls.count) {word₁ x : ℕ} (ew : word₁ ≡ get_or (words_of calls) i 0) (ex : x ≡ get_or (words_of targets) i 0) {k : ℕ} (ek : k ≡ count_of word₁) where
    abbrev rest : List ℕ
    rest = drop taken (words_of listed)

    more : calls_from (words_of calls) (words_of targets) i ≡ (word₁, x) ∷ calls_from (words_of calls) (words_of targets) (i + 1)
    more = rw (ew, ex) (calls_more (words_of calls) (words_of targets) i (omega (arith, length_of calls)) (omega (arith, length_of calls, length_of targets)))

    pub recording_front : k ≤ listed.count - taken
    recording_front = let f = rw more at v.fit in omega (arith, ek, f.0, length-drop taken (words_of listed), length_of listed)

    -- no more than there are
    pub recording_taken : taken + k ≤ listed.count
    recording_taken = omega (arith, recording_front, v.few)

    left : drop (count_of word₁) rest ≡ drop (taken + k) (words_of listed)
    left = rw (← ek, drop-drop k taken (words_of listed))

    -- its own elements
    module _ (o : WordList) (eo : (o.bytes.now ≡ listed.bytes.now) × (o.at ≡ listed.at + 4 * taken) × (o.count ≡ k)) where
      taking : take (count_of word₁) rest ≡ words_of o
      taking = rw (← ek) (own_taken listed o taken k eo recording_taken)

      long : length (words_of o) ≡ k
      long = length_of o ∙ eo.2

      fits : (x < n) × All (λ e. e < n) (words_of o) × Fit n (calls_from (words_of calls) (words_of targets) (i + 1)) (drop (taken + k) (words_of listed))
      fits = let f = rw more at v.fit in (f.1, rw taking at f.2, rw left at f.4)

      head_below : (l : List ℕ) → All (λ e. e < n) l → 0 < n → head_d l 0 < n
      unfolding head_d
      head_below [] a p = p
      head_below (e ∷ l) a p = a.0

      pub recording_fits : listed.count ≤ 1024 → CallFits n (words_of o) taken x
      recording_fits few =
          let f = fits in
          record {
            target = f.0;
            first = head_below (words_of o) f.1 (omega (arith, f.0));
            low = omega (arith, v.few);
            few = omega (arith, recording_front, long);
          }

      turn : rows_asked T taken (calls_of (calls_from (words_of calls) (words_of targets) i) rest)
          ≡ map (row_for T) (asked_at taken (call_of word₁ x (words_of o))) ∷ rows_asked T (taken + k) (calls_of (calls_from (words_of calls) (words_of targets) (i + 1)) (drop (taken + k) (words_of listed)))
      unfolding calls_of all_asked
      turn = rw (more, taking, left, long)

      pub recording_next : {start' count' : ℕ} {w' : List ℕ} → CallPut T (words_of listed) taken (call_of word₁ x (words_of o)) start count w start' count' w' → length w' ≡ length w → Recording T n calls targets listed w₀ start' count' (taken + k) (i + 1) w'
      recording_next {start'} {count'} {w'} p l =
          let rows : List (Option ChangeRow) = rows_asked T (taken + k) (calls_of (calls_from (words_of calls) (words_of targets) (i + 1)) (drop (taken + k) (words_of listed))) in
          let j : ℕ = 14 * count' - 14 * count in
          let e : 14 * count' ≡ 14 * count + j = omega (arith, p.low) in
          record {
            inside = omega arith;
            few = omega (arith, recording_front, v.few);
            sound = p.sound;
            high = omega (arith, p.high, v.high);
            long = l ∙ v.long;
            fit = fits.2;
            beyond = p.beyond ∙ rw (e, ← drop-drop j (14 * count) w, v.beyond, drop-drop j (14 * count) w₀);
            verdict = v.verdict ∙ (ap (λ (cs : List (Option ChangeRow)). through meets_row (merged_row (words_of listed)) (take start (rows_of count w)) (drop start (rows_of count w)) cs) turn ∙ p.step rows);
          }
