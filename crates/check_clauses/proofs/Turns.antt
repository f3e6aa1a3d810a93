-- The loops: for each its invariant, that it holds at the start and after a turn, and what it says at each way out.
-- Assumes nothing.
use Rattle.std.specs.List.{list_all, range_with_len, zip}
use mathlib.Core.Path.{◌≡◌, refl, sym, ap, ◌∙◌}
use mathlib.Core.Bool.{Bool, true, false, ◌&&◌}
use mathlib.Core.List.{List, [], ◌∷◌, zip as pairs}
use Prim.Native.Nat.{ℕ, zero, suc, ◌+◌, ◌*◌, ◌≤◌, ◌<◌}
use native.Mathlib.Numerals.{add-one}
use native.Mathlib.Omega.{arith}
use borrow.Author.Tests.{eq-eqb, ne_eqb, lt-ltb, le-ltb}
use lib.Dec.{eqb, ltb}
use lib.ListN.{length, get_or, set, drop, length-set, drop_of_length-le}
use lib.Pointwise.{pointwise}
use lib.Seq.{drop-cons}
use Rattle.orders.specs.Lists.{All}
use Rattle.orders.specs.ListLaws.{bool_absurd, All-map, All-map₂, All-at}
use Rattle.check_laws.specs.Check.{every, same_bytes}
use Rattle.check_model.specs.Clauses.{partnered, fresh, marked, rises, each}
use Rattle.check_model.proofs.Pairing.{pairs_from, pairs_more, pairs_none}
use Rattle.check_model.specs.Pairing.{Below}
use Rattle.check_clauses.specs.Asked.{PairsUp, Reaches, Climbs, Climbed, Reached}

-- ── Partners ────────────────────────────────────────────────────────────────────────────────────────────────

module _ (l m w₀ : List ℕ) where
  pub record Pairing (w : List ℕ) (i : ℕ) : Type 0 where
    pub inside : i ≤ length l
    pub long : length w ≡ length w₀
    pub verdict : fresh w₀ (pairs l m) ≡ fresh w (pairs_from l m i)
    pub written : partnered w₀ (pairs l m) ≡ partnered w (pairs_from l m i)

  pub pairing_start : Pairing w₀ 0
  unfolding pairs_from
  pairing_start = record { inside = omega arith; long = refl; verdict = refl; written = refl }

  module _ {w : List ℕ} {i : ℕ} (v : Pairing w i) (alike : length m ≡ length l) where
    pub pairing_end : length l ≤ i → PairsUp (pairs l m) w₀ true w
    unfolding fresh partnered
    pairing_end h = record { verdict = sym (v.verdict ∙ rw (pairs_none l m i h)); written = λ e. sym (v.written ∙ rw (pairs_none l m i h)) }

    module _ (h : i < length l) {x y : ℕ} (ex : x ≡ get_or l i 0) (ey : y ≡ get_or m i 0) where
      pairing_turn : fresh w₀ (pairs l m) ≡ (eqb (get_or w y 0) 0 && fresh (set w y (suc x)) (pairs_from l m (i + 1)))
      unfolding fresh
      pairing_turn = v.verdict ∙ rw (pairs_more l m i alike h, ← ex, ← ey)

      pub pairing_twice : (get_or w y 0 ≡ 0 → ⊥) → PairsUp (pairs l m) w₀ false w
      pairing_twice k = record { verdict = sym (pairing_turn ∙ rw (ne_eqb (get_or w y 0) 0 k)); written = λ e. bool_absurd e refl }

      pub pairing_next : get_or w y 0 ≡ 0 → Pairing (set w y (x + 1)) (i + 1)
      unfolding partnered
      pairing_next k =
          record {
            inside = omega arith;
            long = simp length-set v.long;
            verdict = pairing_turn ∙ rw (eq-eqb (get_or w y 0) 0 k, add-one x);
            written = v.written ∙ rw (pairs_more l m i alike h, ← ex, ← ey, add-one x);
          }

-- ── Marks ───────────────────────────────────────────────────────────────────────────────────────────────────

module _ (l w₀ : List ℕ) where
  pub record Marking (w : List ℕ) (i : ℕ) : Type 0 where
    pub inside : i ≤ length l
    pub long : length w ≡ length w₀
    pub written : marked w₀ l ≡ marked w (drop i l)

  module _ {w : List ℕ} {i : ℕ} (v : Marking w i) where
    pub marking_next : {y : ℕ} → i < length l → y ≡ get_or l i 0 → Marking (set w y 1) (i + 1)
    unfolding marked
    marking_next {y} h e = record { inside = omega arith; long = simp length-set v.long; written = v.written ∙ rw (drop-cons l i 0 h, ← e, add-one i) }

    pub marking_end : length l ≤ i → w ≡ marked w₀ l
    unfolding marked
    marking_end h = sym (v.written ∙ rw (drop_of_length-le l h))

-- ── Bytes ───────────────────────────────────────────────────────────────────────────────────────────────────

-- the comparison of lists is the definition's
pub bytes_alike : (a b : List ℕ) → pointwise eqb a b ≡ same_bytes a b
unfolding same_bytes
bytes_alike [] [] = refl
bytes_alike [] (y ∷ b) = refl
bytes_alike (x ∷ a) [] = refl
bytes_alike (x ∷ a) (y ∷ b) = ap (λ (t : Bool). eqb x y && t) (bytes_alike a b)

-- ── Each passes a test ──────────────────────────────────────────────────────────────────────────────────────

-- the library's test of a list is the definition's
pub every_alike : {A : Type 0} (p : A → Bool) (l : List A) → list_all p l ≡ every p l
unfolding every
every_alike p [] = refl
every_alike p (x ∷ l) = ap (λ b. p x && b) (every_alike p l)

zip_alike : (l m : List ℕ) → zip l m ≡ pairs l m
unfolding mathlib.Core.List.zip mathlib.Core.List.zip_with
zip_alike [] m = refl
zip_alike (x ∷ l) [] = refl
zip_alike (x ∷ l) (y ∷ m) = ap {B = List (ℕ × ℕ)} (λ r. (x, y) ∷ r) (zip_alike l m)

pub pairs_alike : (p : ℕ × ℕ → Bool) (l m : List ℕ) → list_all p (zip l m) ≡ every p (pairs l m)
pairs_alike p l m = every_alike p (zip l m) ∙ ap (every p) (zip_alike l m)

-- and that of the numbers from i on
pub each_alike : (p : ℕ → Bool) (i n : ℕ) → list_all p (range_with_len i n) ≡ each p i n
unfolding each
each_alike p i zero = refl
each_alike p i (suc n) = rw (← add-one i) (ap (λ b. p i && b) (each_alike p (i + 1) n))

-- ── Partners that rise ──────────────────────────────────────────────────────────────────────────────────────

rises_step : (k w : ℕ) (l : List ℕ) → (w ≡ 0 → ⊥) → rises k (w ∷ l) ≡ (ltb k w && rises w l)
unfolding rises
rises_step k zero l h = absurd (h refl)
rises_step k (suc w) l h = refl

module _ (l : List ℕ) where
  pub record Rising (last i : ℕ) : Type 0 where
    pub inside : i ≤ length l
    pub verdict : rises 0 l ≡ rises last (drop i l)

  module _ {last i : ℕ} (v : Rising last i) where
    pub rising_end : length l ≤ i → true ≡ rises 0 l
    unfolding rises
    rising_end h = sym (v.verdict ∙ rw (drop_of_length-le l h))

    module _ (h : i < length l) {w : ℕ} (e : w ≡ get_or l i 0) where
      rising_turn : rises 0 l ≡ rises last (w ∷ drop (i + 1) l)
      rising_turn = v.verdict ∙ rw (drop-cons l i 0 h, ← e, add-one i)

      pub rising_none : w ≡ 0 → {last' : ℕ} → last' ≡ last → Rising last' (i + 1)
      unfolding rises
      rising_none z k = record { inside = omega arith; verdict = rising_turn ∙ rw (z, k) }

      pub rising_no : (w ≡ 0 → ⊥) → w ≤ last → false ≡ rises 0 l
      rising_no z k = sym (rising_turn ∙ (rises_step last w _ z ∙ rw (le-ltb last w k)))

      pub rising_next : (w ≡ 0 → ⊥) → last < w → {last' : ℕ} → last' ≡ w → Rising last' (i + 1)
      rising_next z k q = record { inside = omega arith; verdict = rising_turn ∙ (rises_step last w _ z ∙ rw (lt-ltb last w k, q)) }

-- ── The elements of a list that is asked of ─────────────────────────────────────────────────────────────────

pub below_at : {n : ℕ} (list : List ℕ) (i : ℕ) {x : ℕ} → i < length list → x ≡ get_or list i 0 → Below n list → x < n
below_at {n} list i h e b = rw e (All-at (λ y. y < n) 0 list i h b)

module _ {table list : List ℕ} where
  pub climbed_long : Climbed table list → All (λ x. 4 * x + 4 ≤ length table) list
  climbed_long c = All-map (λ x h. omega (arith, c.linked.long)) list c.below

  pub climbed_all : (elements : ℕ) → Climbed table list → Below elements list → All (Climbs table elements) list
  climbed_all elements c b = All-map₂ (λ x h k. record { long = omega (arith, c.linked.long); parent = omega (arith, c.linked.before x h) }) list c.below b

  pub reached_all : {bytes : ℕ} → Reached table bytes list → All (Reaches table bytes) list
  reached_all r = All-map (λ x h. record { long = omega (arith, r.long); starts = r.sound.starts x h; ends = r.sound.ends x h }) list r.below

module _ (P Q : ℕ → Type 0) where
  zip_all : (l m : List ℕ) → All P l → All Q m → All (λ p. P p.0 × Q p.1) (zip l m)
  zip_all [] m h k = tt
  zip_all (x ∷ l) [] h k = tt
  zip_all (x ∷ l) (y ∷ m) h k = ((h.0, k.0), zip_all l m h.1 k.1)

  -- what the elements of two lists have, each pair has
  pub pair_has : (l m : List ℕ) {p : ℕ × ℕ} (k : ℕ) → k < length (zip l m) → p ≡ get_or (zip l m) k p → All P l → All Q m → P p.0 × Q p.1
  pair_has l m {p} k h e a b = rw e (All-at (λ p. P p.0 × Q p.1) p (zip l m) k h (zip_all l m a b))
