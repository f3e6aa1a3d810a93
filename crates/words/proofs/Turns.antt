-- The loops: for each its invariant, that it holds at the start, after a turn, and what it says at the end.
-- Assumes nothing.
use mathlib.Core.Path.{◌≡◌, refl, sym, ap, ◌∙◌}
use mathlib.Core.List.{List, [], ◌∷◌, ◌++◌}
use Prim.Native.Nat.{ℕ, suc, ◌+◌, ◌-◌, ◌*◌, ◌≤◌, ◌<◌}
use native.Mathlib.Nat.{sub_self}
use native.Mathlib.Numerals.{add-one}
use native.Mathlib.Omega.{arith}
use lib.ListN.{length, get_or, set, drop, length-set, length-drop}
use lib.Seq.{paste, paste-zero, paste-suc, length-paste, drop-cons, drop-drop, get_or-drop}
use Rattle.definition.specs.Words.{word, words, bytes, written}
use Rattle.words.specs.Bytes.{get_d_words, length_words, length_written, drop_written, written_cons}
use Rattle.words.specs.Parts.{paste_on, paste_before, set_paste, get_d_below, get_d_above}

-- ── A copy, from the first to the last ──────────────────────────────────────────────────────────────────────

-- l is d with the first i of the n elements of s copied to `at`
pub record Copying {A : Type 0} (d : List A) (at : ℕ) (s : List A) (n : ℕ) (l : List A) (i : ℕ) : Type 0 where
  pub inside : i ≤ n
  pub long : length l ≡ length d
  pub copied : l ≡ paste d at s i

pub copying_start : {A : Type 0} (d : List A) (at : ℕ) (s : List A) (n : ℕ) → Copying d at s n d 0
copying_start d at s n = record { inside = omega arith; long = refl; copied = paste-zero d at s }

module _ {A : Type 0} {d : List A} {at : ℕ} {s : List A} {n : ℕ} {l : List A} {i : ℕ} (v : Copying d at s n l i) where
  pub copying_more : (x : A) → i < n → at + n ≤ length d → n ≤ length s → x ≡ get_or s i x → Copying d at s n (set l (at + i) x) (i + 1)
  copying_more x h j k e =
      record {
        inside = omega arith;
        long = simp length-set v.long;
        copied = rw (v.copied, add-one i) (ap (λ y. set (paste d at s i) (at + i) y) e ∙ paste-suc d at s i x (omega arith) (omega arith));
      }

  pub copying_done : n ≤ i → l ≡ paste d at s n
  copying_done h = let e : n ≡ i = omega arith in rw e v.copied

pub copying_next : {d : List ℕ} {at : ℕ} {s : List ℕ} {n : ℕ} {l : List ℕ} {i : ℕ} → Copying d at s n l i → {x : ℕ} → i < n → at + n ≤ length d → n ≤ length s → x ≡ get_or s i 0 → Copying d at s n (set l (at + i) x) (i + 1)
copying_next {d} {at} {s} {n} {l} {i} v {x} h j k e =
    record {
      inside = omega arith;
      long = simp length-set v.long;
      copied = rw (v.copied, e, add-one i) (paste-suc d at s i 0 (omega arith) (omega arith));
    }

-- words read out of bytes
pub reading_next : (b : List ℕ) (at : ℕ) {n : ℕ} {d : List ℕ} {to : ℕ} {l : List ℕ} {i r : ℕ} → Copying d to (words n (drop at b)) n l i → i < n → to + n ≤ length d → r ≡ word (drop (at + 4 * i) b)
    → Copying d to (words n (drop at b)) n (set l (to + i) r) (i + 1)
reading_next b at {n} {i = i} v h j e =
    copying_next v h j (omega (arith, length_words n (drop at b))) (e ∙ sym (get_d_words n (drop at b) i h ∙ ap word (drop-drop (4 * i) at b)))

-- a move to a lower place: what is still to be read is as it was
pub lowering_next : {d : List ℕ} (from : ℕ) {to n : ℕ} {l : List ℕ} {i : ℕ} → Copying d to (drop from d) n l i → i < n → to ≤ from → from + n ≤ length d
    → Copying d to (drop from d) n (set l (to + i) (get_or l (from + i) 0)) (i + 1)
lowering_next {d} from {to} {n} {l} {i} v h j k =
    let m = length-drop from d in
    let e : get_or l (from + i) 0 ≡ get_or d (from + i) 0 = rw v.copied (get_d_above d to (drop from d) i (omega arith) (omega arith) 0 (from + i) (omega arith)) in
    copying_next v h (omega arith) (omega arith) (e ∙ sym (get_or-drop from d i 0))

-- ── A move to a higher place, from the last to the first ────────────────────────────────────────────────────

-- l is d with all but the first i of the n elements at `from` written at `to`
pub record Raising (d : List ℕ) (from to n : ℕ) (l : List ℕ) (i : ℕ) : Type 0 where
  pub inside : i ≤ n
  pub long : length l ≡ length d
  pub copied : l ≡ paste d (to + i) (drop (from + i) d) (n - i)

pub raising_start : (d : List ℕ) (from to n : ℕ) → Raising d from to n d n
raising_start d from to n = record { inside = omega arith; long = refl; copied = rw sub_self (paste-zero d (to + n) (drop (from + n) d)) }

-- one element more at the front of a copy, read below it
paste_first : (d : List ℕ) (f f' t t' n n' : ℕ) → f' ≡ suc f → t' ≡ t + 1 → n' ≡ 1 + n → f ≤ t → t' + n ≤ length d
    → set (paste d t' (drop f' d) n) t (get_or (paste d t' (drop f' d) n) f 0) ≡ paste d t (drop f d) n'
paste_first d f f' t t' n n' ef et en h k =
    let m = length-drop f' d in
    let x : ℕ = get_or d f 0 in
    let l = length-paste d t' (drop f' d) n k (omega arith) in
    rw (get_d_below d t' (drop f' d) n k (omega arith) 0 f (omega arith), set_paste (paste d t' (drop f' d) n) t x (omega arith))
    (paste_before d t (x ∷ []) 1 (drop f' d) n t' n' et en (omega arith) (omega arith) ∙ rw (drop-cons d f 0 (omega arith), ef))

module _ {d : List ℕ} {from to n : ℕ} {l : List ℕ} {i : ℕ} (v : Raising d from to n l i) where
  pub raising_next : 0 < i → from ≤ to → to + n ≤ length d → Raising d from to n (set l (to + (i - 1)) (get_or l (from + (i - 1)) 0)) (i - 1)
  raising_next h j k =
      record {
        inside = omega arith;
        long = simp length-set v.long;
        copied =
            rw v.copied (paste_first d (from + (i - 1)) (from + i) (to + (i - 1)) (to + i) (n - i) (n - (i - 1)) (omega arith) (omega arith) (omega arith) (omega arith) (omega arith));
      }

  pub raising_done : i ≤ 0 → l ≡ paste d to (drop from d) n
  raising_done h =
      let a : to + i ≡ to = omega arith in
      let b : from + i ≡ from = omega arith in
      let c : n - i ≡ n = omega arith in
      v.copied ∙ rw (a, b, c)

-- ── Words written as bytes ──────────────────────────────────────────────────────────────────────────────────

-- l is d with the bytes of the first i words written at `at`
pub record Writing (d : List ℕ) (at : ℕ) (ws l : List ℕ) (i : ℕ) : Type 0 where
  pub inside : i ≤ length ws
  pub long : length l ≡ length d
  pub copied : l ≡ paste d at (written ws) (4 * i)

module _ {d : List ℕ} {at : ℕ} {ws l : List ℕ} {i : ℕ} (v : Writing d at ws l i) where
  pub writing_next : {l' : List ℕ} {w : ℕ} → i < length ws → at + 4 * length ws ≤ length d → w ≡ get_or ws i 0 → length l' ≡ length l → l' ≡ paste l (at + 4 * i) (bytes w) 4
      → Writing d at ws l' (i + 1)
  unfolding bytes
  writing_next {l'} {w} h k e m q =
      let f : drop (4 * i) (written ws) ≡ bytes w ++ written (drop (suc i) ws) =
      drop_written i ws (omega arith) ∙ (ap written (drop-cons ws i 0 h) ∙ rw (written_cons, e)) in
      record {
        inside = omega arith;
        long = m ∙ v.long;
        copied =
            q
            ∙ rw v.copied
            (paste_on d at (written ws) (4 * i) (bytes w) 4 (at + 4 * i) (4 * (i + 1)) refl (omega arith) (omega arith) (omega (arith, length_written ws)) (rw f));
      }
