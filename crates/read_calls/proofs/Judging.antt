-- Each answer of `first_listed`, `word_fits` and `call_fits`, from the tests that led there.
-- Assumes nothing.
use mathlib.Core.Bool.{Bool, true, false, not, ◌&&◌, ◌||◌, or-false, and-false, not-not}
use mathlib.Core.List.{List, [], ◌∷◌, head_d}
use mathlib.Core.Path.{◌≡◌, refl, sym, ◌∙◌}
use Prim.Native.Nat.{ℕ, zero, suc, ◌+◌, ◌*◌, ◌≤◌, ◌<◌}
use native.Mathlib.Omega.{arith}
use lib.ListN.{get_or}
use lib.Dec.{eqb, leb, ltb, eqb-suc-zero, eqb-zero-suc, eqb-suc-suc}
use borrow.Author.Tests.{eq-eqb, ne_eqb, lt-ltb, le-ltb, le-leb, lt-leb}
use Rattle.orders.specs.ListLaws.{lt_or_le}
use mathlib.Core.Logic.{⊎_elim}
use Rattle.definition.specs.Basics.{any, among}
use Rattle.definition.specs.Elements.{Table, is_node}
use Rattle.definition.specs.Refusals.{wrong_count, ruled_start, same_parent, wrong_run, misplaced}
use Rattle.read_element_table.specs.View.{view}
use Rattle.read_element_table.specs.Wellformed.{Wellformed}
use Rattle.read_element_table.specs.Told.{element_of, node_told, parent_told, root_told, child_told}
use Rattle.read_calls.specs.Fits.{word_fits, call_fits, run_fits}

-- ── The first listed element ────────────────────────────────────────────────────────────────────────────────

pub first_told : (l : List ℕ) (x : ℕ) → x ≡ get_or l 0 0 → x ≡ head_d l 0
unfolding head_d
first_told [] x e = e
first_told (y ∷ l) x e = e

-- ── Tests ───────────────────────────────────────────────────────────────────────────────────────────────────

pub not_less : (a b : ℕ) → not (ltb a b) ≡ leb b a
not_less a b = ⊎_elim (λ h. rw (lt-ltb a b h, lt-leb b a h)) (λ h. rw (le-ltb a b h, le-leb b a h)) (lt_or_le a b)

above_zero : (k : ℕ) → ltb 0 k ≡ not (eqb k 0)
above_zero zero = refl
above_zero (suc k) = rw (lt-ltb 0 (suc k) (omega arith), eqb-suc-zero k)

-- ── The call word ───────────────────────────────────────────────────────────────────────────────────────────

module _ (op k n : ℕ) where
  pub count_one : op ≡ 2 → eqb k 1 ≡ word_fits op k n
  unfolding word_fits wrong_count ruled_start among any
  count_one h = rw h (simp (or-false, not-not))

  pub count_none : op ≡ 3 → eqb k 0 ≡ word_fits op k n
  unfolding word_fits wrong_count ruled_start among any
  count_none h = rw h (simp (above_zero k, or-false, not-not))

  pub count_some : op ≡ 5 → ltb 0 k ≡ word_fits op k n
  unfolding word_fits wrong_count ruled_start among any
  count_some h = rw h (simp (above_zero k, or-false))

  pub start_alone : op ≡ 6 → k ≡ 0 → eqb n 0 ≡ word_fits op k n
  unfolding word_fits wrong_count ruled_start among any
  start_alone h z = rw (h, z) (simp not-not)

  pub start_lists : op ≡ 6 → (k ≡ 0 → ⊥) → eqb k 0 ≡ word_fits op k n
  unfolding word_fits wrong_count ruled_start among any
  start_lists h z = rw (h, above_zero k, ne_eqb k 0 z)

  pub count_any : (op ≡ 2 → ⊥) → (op ≡ 3 → ⊥) → (op ≡ 5 → ⊥) → (op ≡ 6 → ⊥) → leb op 6 ≡ word_fits op k n
  unfolding word_fits wrong_count ruled_start among any
  count_any a b c d = rw (ne_eqb op 2 a, ne_eqb op 3 b, ne_eqb op 5 c, ne_eqb op 6 d, or-false (ltb 6 op), or-false (ltb 6 op), not_less 6 op)

-- ── The place ───────────────────────────────────────────────────────────────────────────────────────────────

same_parent_lem : (j k : ℕ) → same_parent (element_of j) (element_of k) ≡ eqb j k
unfolding same_parent element_of
same_parent_lem zero zero = refl
same_parent_lem zero (suc k) = sym (eqb-zero-suc k)
same_parent_lem (suc j) zero = sym (eqb-suc-zero j)
same_parent_lem (suc j) (suc k) = sym (eqb-suc-suc j k)

both : (a b : Bool) → (a && not b) ≡ not (not a || b)
both true b = refl
both false b = refl

among_others : (op : ℕ) → op ≤ 6 → (op ≡ 0 → ⊥) → (op ≡ 6 → ⊥) → (op ≡ 2 → ⊥) → among (1 ∷ 3 ∷ 4 ∷ 5 ∷ []) op ≡ true
unfolding among any
among_others zero h a b c = absurd (a refl)
among_others (suc zero) h a b c = refl
among_others (suc (suc zero)) h a b c = absurd (c refl)
among_others (suc (suc (suc zero))) h a b c = refl
among_others (suc (suc (suc (suc zero)))) h a b c = refl
among_others (suc (suc (suc (suc (suc zero))))) h a b c = refl
among_others (suc (suc (suc (suc (suc (suc zero)))))) h a b c = absurd (b refl)
among_others (suc (suc (suc (suc (suc (suc (suc k))))))) h a b c = absurd (omega arith)

pub fits_first_child : (n : ℕ) (w r : List ℕ) (op x y : ℕ) (u : Bool) → x < n → op ≡ 0 → u ≡ is_node (get_or r (3 * suc x) 0) → u ≡ call_fits (view n w r) op x y
unfolding call_fits misplaced among any
fits_first_child n w r op x y u hx h e = rw (h, node_told n w r x hx) (e ∙ simp (or-false, not-not))

pub fits_editor : (T : Table) (op x y : ℕ) → op ≡ 6 → eqb x 0 ≡ call_fits T op x y
unfolding call_fits misplaced among any
fits_editor T op x y h = rw h (rw not-not)

module _ (n : ℕ) (w r : List ℕ) (op x y : ℕ) (t : Bool) (W : Wellformed n w r) (hx : x < n) where
  module _ (e : t ≡ eqb (get_or w (8 * x + 1) 0) 0) where
    pub fits_root_by : (hy : y < n) (u : Bool) → op ≡ 2 → t ≡ true → u ≡ is_node (get_or r (3 * suc y) 0) → u ≡ call_fits (view n w r) op x y
    unfolding call_fits misplaced among any
    fits_root_by hy u h q k = rw (h, root_told n w r W.lines x hx, ← e, q, node_told n w r y hy) (k ∙ simp (or-false, not-not))

    pub fits_root : op ≤ 6 → (op ≡ 0 → ⊥) → (op ≡ 6 → ⊥) → (op ≡ 2 → ⊥) → t ≡ true → eqb op 2 ≡ call_fits (view n w r) op x y
    unfolding call_fits misplaced
    fits_root h a b c q = rw (ne_eqb op 2 c, among_others op h a b c, root_told n w r W.lines x hx, ← e, q, ne_eqb op 0 a)

    pub fits_run : (hy : y < n) (u : Bool) → op ≡ 5 → t ≡ false → u ≡ run_fits w x y → u ≡ call_fits (view n w r) op x y
    unfolding call_fits misplaced among any run_fits wrong_run
    fits_run hy u h q k = rw (h, root_told n w r W.lines x hx, ← e, q, parent_told n w r W.lines x hx, parent_told n w r W.lines y hy, same_parent_lem, child_told n w r W.lines x hx, child_told n w r W.lines y hy, or-false, ← (both (eqb (get_or w (8 * x + 1) 0) (get_or w (8 * y + 1) 0))), not_less) k

    pub fits_rest : (op ≡ 0 → ⊥) → (op ≡ 6 → ⊥) → (op ≡ 5 → ⊥) → t ≡ false → true ≡ call_fits (view n w r) op x y
    unfolding call_fits misplaced
    fits_rest a b c q = rw (root_told n w r W.lines x hx, ← e, q, ne_eqb op 0 a, ne_eqb op 6 b, ne_eqb op 5 c, and-false, and-false)

module _ (w : List ℕ) (x y a b : ℕ) (ha : a ≡ get_or w (8 * x + 1) 0) (hb : b ≡ get_or w (8 * y + 1) 0) where
  pub run_in_order : (c d : ℕ) → a ≡ b → c ≡ get_or w (8 * x + 2) 0 → d ≡ get_or w (8 * y + 2) 0 → leb c d ≡ run_fits w x y
  unfolding run_fits
  run_in_order c d q hc hd = rw (← ha, ← hb, eq-eqb a b q, hc, hd)

  pub run_apart : (a ≡ b → ⊥) → eqb a b ≡ run_fits w x y
  unfolding run_fits
  run_apart q = rw (← ha, ← hb, ne_eqb a b q)
