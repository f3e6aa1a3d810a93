-- The loops: for each its invariant, that it holds at the start, after a turn, and what it says at the end.
-- Assumes nothing.
use mathlib.Core.Path.{◌≡◌, refl, sym, ap, ◌∙◌}
use mathlib.Core.List.{List, [], ◌∷◌, ◌++◌, map, flat_map, append_assoc}
use Rattle.std.proofs.Common.{◌⊎◌, inl, inr}
use Rattle.std.specs.List.{sum, range_with_len}
use Rattle.std.proofs.lemmas.List.Concat.{length-flat_map}
use Prim.Native.Nat.{ℕ, zero, suc, ◌+◌, ◌-◌, ◌*◌, ◌/◌, ◌^◌, ◌≤◌, ◌<◌}
use native.Mathlib.Omega.{arith}
use native.Mathlib.Nat.{zero-add, add-zero, sub_self}
use native.Mathlib.Numerals.{add-one}
use lib.ListN.{length, get_or, set, take, drop, length-set, length-map, length-append, length-drop, take-append-drop}
use lib.Seq.{paste, paste-zero, paste-suc, length-paste, length-take-le, get_or-drop, drop-drop, drop_at, drop-append-le, take_at, take-take, take-length, set-get_or}
use borrow.Author.Tests.{lt-ltb, lt-leb}
use Rattle.definition.specs.Words.{bytes as bytes_of, written}
use Rattle.orders.specs.ListLaws.{lt_or_le}
use Rattle.definition_laws.specs.Basics.{get_d_map, flat_map_append}
use Rattle.words.proofs.Turns.{Writing, writing_next}
use Rattle.rows_model.specs.Row.{Row, nod, kind, measure, own, row_at, row_in, text_length, triples, bytes}
use Rattle.words.specs.Bytes.{length_written}
use Rattle.words.specs.Parts.{paste_on, paste_swap}
use Rattle.rows_model.proofs.RowLaws.{bytes_append}
use Rattle.rows_model.proofs.Words.{rows_summed, kind_word, measure_word, node_row, length_triples, triples_at, triples_end, triples_take, token_row}
use Rattle.rows_syntax_node.specs.Promises.{Counted, Measured, After}
use Rattle.rows_syntax_node.proofs.Turns.{Owing, owing_start, owing_next, owing_out, owing_done}
use Rattle.finish_model.specs.Finished.{starts}
use Rattle.finish_model.proofs.Numbers.{starts_at}
use Rattle.finish_arrays.specs.declared.Stretch.{Stretch}
use Rattle.finish_arrays.specs.Stretches.{stretch_over, StandsAt, Added}
use Rattle.finish_arrays.specs.Starts.{Starts, length_starts, starts_listed}
use Rattle.finish_arrays.specs.Scanned.{Scanned}
use Rattle.finish_arrays.specs.Sweep.{elements_over, Swept, row_each}
use Rattle.finish_arrays.specs.TextSizes.{bytes_any, own_few}

-- ── How long the text is ────────────────────────────────────────────────────────────────────────────────────

module _ (tree text : List ℕ) where
  -- how long the own text of row i is
  abbrev pub part_at : ℕ → ℕ
  part_at i = length (own (row_in text tree i))

  pub text_summed : sum (map part_at (range_with_len 0 (length tree / 3))) ≡ length (flat_map own (triples text tree))
  unfolding flat_map
  text_summed = rows_summed text (λ r. length (own r)) tree 0 (length tree / 3) (omega arith) ∙ sym (length-flat_map own (triples text tree))

  pub text_few : bytes (triples [] tree) < 2 ^ 32 → length (flat_map own (triples text tree)) < 2 ^ 32
  text_few b = omega (arith, own_few (triples text tree), bytes_any text [] tree)

-- ── The walk over a tree ────────────────────────────────────────────────────────────────────────────────────

-- the text of the first i rows is summed
pub record Summing (run : List ℕ) (sum i : ℕ) : Type 0 where
  pub inside : 3 * i ≤ length run
  pub small : sum ≤ 2 ^ 32 * i
  pub rest : (text : List ℕ) → bytes (triples text run) ≡ sum + bytes (drop i (triples text run))

summing_start : (run : List ℕ) → Summing run 0 0
summing_start run = record { inside = omega arith; small = omega arith; rest = λ text. omega arith }

summing_next : {run : List ℕ} {sum i r : ℕ} → Summing run sum i → 3 * i + 2 < length run → Measured run i r → Summing run (sum + r) (i + 1)
summing_next {run} {sum} {i} v h c =
    record {
      inside = omega arith;
      small = omega (arith, v.small, c.small);
      rest = λ text. rw (add-one i) (v.rest text ∙ rw (triples_at text i run h) (omega (arith, c.own text)));
    }

-- l, as long as the run has rows, is d with the starts of the first i rows at its front; their text is `sum` long
pub record Starting (run d l : List ℕ) (sum i : ℕ) : Type 0 where
  pub summing : Summing run sum i
  pub whole : length d ≡ length run / 3
  pub low : sum ≤ bytes (triples [] run)
  pub long : length l ≡ length d
  pub filled : (text : List ℕ) → l ≡ paste d 0 (starts 0 (triples text run)) i

starting : (run out : List ℕ) → length run ≤ 3 * length out → Starting run (take (length run / 3) out) (take (length run / 3) out) 0 0
starting run out h =
    let d : List ℕ = take (length run / 3) out in
    record { summing = summing_start run; whole = length-take-le (length run / 3) out (omega arith); low = omega arith; long = refl; filled = λ text. paste-zero d 0 (starts 0 (triples text run)) }

module _ {run d l : List ℕ} {sum i : ℕ} (v : Starting run d l sum i) where
  starting_next : {r : ℕ} → i < length d → Measured run i r → Starting run d (set l i sum) (sum + r) (i + 1)
  starting_next h m =
      let next = summing_next v.summing (omega (arith, v.whole)) m in
      record {
        summing = next;
        whole = v.whole;
        low = omega (arith, next.rest []);
        long = simp length-set v.long;
        filled = λ text. rw (add-one i) (go text);
      }
    where
      go : (text : List ℕ) → set l i sum ≡ paste d 0 (starts 0 (triples text run)) (suc i)
      go text =
          let rs = triples text run in
          let n : length rs ≡ length run / 3 = length_triples text run in
          let s : bytes rs ≡ bytes (take i rs) + bytes (drop i rs) = ap bytes (sym (take-append-drop i rs)) ∙ bytes_append (take i rs) (drop i rs) in
          let e : sum ≡ get_or (starts 0 rs) i 0 = sym (starts_at rs 0 i (omega (arith, v.whole)) ∙ omega (arith, v.summing.rest text)) in
          rw (v.filled text, e) (ap (λ n. set (paste d 0 (starts 0 rs) i) n (get_or (starts 0 rs) i 0)) (sym (zero-add i)) ∙ paste-suc d 0 (starts 0 rs) i 0 (omega arith) (omega (arith, v.whole, length_starts 0 rs)))

-- the front of a list written over, and the rest
front_over : (d s : List ℕ) (n i : ℕ) → i ≤ length (take n d) → paste (take n d) 0 s i ++ drop n d ≡ paste d 0 s i
front_over d s n i h =
    rw (zero-add i) (append_assoc (take i s) (drop i (take n d)) (drop n d) ∙ ap (λ l. take i s ++ l) (sym (drop-append-le i (take n d) (drop n d) h) ∙ ap (drop i) (take-append-drop n d)))

starts_take : (i s : ℕ) (rs : List Row) → starts s (take i rs) ≡ take i (starts s rs)
unfolding starts
starts_take zero s rs = refl
starts_take (suc i) s [] = refl
starts_take (suc i) s (r ∷ rs) = ap {B = List ℕ} (λ l. s ∷ l) (starts_take i (s + text_length r) rs)

-- the starts of the run's first tree, which ends before row i
starting_done : {run out l : List ℕ} {sum i : ℕ} → Starting run (take (length run / 3) out) l sum i → length run ≤ 3 * length out → Starts (take (3 * i) run) out (l ++ drop (length run / 3) out)
starting_done {run} {out} {l} {sum} {i} v h = starts_listed (take (3 * i) run) out (omega (arith, long, v.whole, v.summing.inside)) go
  where
    long : length (take (3 * i) run) ≡ 3 * i
    long = length-take-le (3 * i) run v.summing.inside

    go : (text : List ℕ) → l ++ drop (length run / 3) out ≡ paste out 0 (starts 0 (triples text (take (3 * i) run))) (length (take (3 * i) run) / 3)
    go text =
        let S : List ℕ = starts 0 (triples text run) in
        let e : length (take (3 * i) run) / 3 ≡ i = omega (arith, long) in
        let f : starts 0 (triples text (take (3 * i) run)) ≡ take i S = ap (starts 0) (triples_take text i run) ∙ starts_take i 0 (triples text run) in
        rw (v.filled text, e, f, take-take i i S (omega arith)) (front_over out S (length run / 3) i (omega (arith, v.whole, v.summing.inside)))

-- of the run's first tree `owed` elements are still owed at row i; where the text of the rows before it starts stands at the front of l, and `size` bytes of it are there
pub record Scanning (run text d l : List ℕ) (owed sum size i : ℕ) : Type 0 where
  pub starting : Starting run d l sum i
  pub owing : Owing run (length run / 3) 0 1 i owed
  pub rest : length (flat_map own (triples text run)) ≡ size + length (flat_map own (drop i (triples text run)))

pub scanning : (run text out : List ℕ) → length run ≤ 3 * length out → Scanning run text (take (length run / 3) out) (take (length run / 3) out) 1 0 0 0
scanning run text out h = record { starting = starting run out h; owing = owing_start run (length run / 3) 0 1 (omega arith) (omega arith); rest = omega arith }

module _ {run text d l : List ℕ} {owed sum size i : ℕ} (v : Scanning run text d l owed sum size i) where
  -- the text of row i, and of those behind it
  own_rest : i < length d → length (flat_map own (triples text run)) ≡ size + (length (own (row_in text run i)) + length (flat_map own (drop (suc i) (triples text run))))
  unfolding flat_map
  own_rest h = v.rest ∙ rw (triples_at text i run (omega (arith, v.starting.whole)), length-append (own (row_in text run i)) (flat_map own (drop (suc i) (triples text run))))

  pub scanning_room : {k : ℕ} → bytes (triples [] run) < 2 ^ 32 → i < length d → k ≡ length (own (row_in text run i)) → size + k < 2 ^ 32
  scanning_room b h e = omega (arith, own_rest h, text_few run text b)

  pub scanning_next : {k m r : ℕ} → i < length d → (owed ≡ 0 → ⊥) → Counted run i m → Measured run i r → k ≡ length (own (row_in text run i)) → Scanning run text d (set l i sum) (owed - 1 + m) (sum + r) (size + k) (i + 1)
  scanning_next h z c m e =
      record {
        starting = starting_next v.starting h m;
        owing = owing_next v.owing (omega arith) (omega (arith, v.starting.whole)) z c;
        rest = rw (add-one i, e) (own_rest h ∙ omega arith);
      }

  scanned : {out : List ℕ} {n : ℕ} → d ≡ take (length run / 3) out → length run ≤ 3 * length out → bytes (triples [] run) < 2 ^ 32 → n ≡ i → After run (length run / 3) 0 1 n → Scanned run text out (l ++ drop (length run / 3) out) (record { rows = n; size = size })
  scanned {out} {n} e h b f a =
      let rs = triples text run in
      let split : length (flat_map own rs) ≡ length (flat_map own (take i rs)) + length (flat_map own (drop i rs)) =
      ap (λ l. length (flat_map own l)) (sym (take-append-drop i rs)) ∙ (ap length (flat_map_append own (take i rs) (drop i rs)) ∙ length-append (flat_map own (take i rs)) (flat_map own (drop i rs))) in
      record {
        rows = a;
        starts = rw f (starting_done {sum = sum} (rw (← e) v.starting) h);
        size = rw (f, triples_take text i run) (omega (arith, v.rest, split));
        small = omega (arith, v.rest, text_few run text b);
      }

module _ {run text out l : List ℕ} {owed sum size i : ℕ} (v : Scanning run text (take (length run / 3) out) l owed sum size i) (h : length run ≤ 3 * length out) (b : bytes (triples [] run) < 2 ^ 32) where
  -- nothing is owed: the word at hand stays
  pub scanning_done : owed ≡ 0 → Scanned run text out (set l i (get_or l i 0) ++ drop (length run / 3) out) (record { rows = i; size = size })
  scanning_done z = rw (set-get_or l i 0) (scanned v refl h b refl (owing_done v.owing (omega arith) z))

  pub scanning_out : length (take (length run / 3) out) ≤ i → Scanned run text out (l ++ drop (length run / 3) out) (record { rows = length run / 3; size = size })
  scanning_out k = scanned v refl h b (omega (arith, v.starting.whole, v.starting.summing.inside)) (owing_out v.owing (omega arith) (omega (arith, v.starting.whole)))

-- ── Kinds and measures ──────────────────────────────────────────────────────────────────────────────────────

module _ (f : Row → ℕ) (text tree : List ℕ) where
  told : (i : ℕ) → 3 * i + 2 < length tree → get_or (map f (triples text tree)) i 0 ≡ f (row_in text tree i)
  told i h =
      let e : get_or (drop i (triples text tree)) 0 (nod 0 0) ≡ row_in text tree i = rw (triples_at text i tree h) in
      get_d_map f (triples text tree) i 0 (nod 0 0) (omega (arith, length_triples text tree))
      ∙ ap f (ap (λ n. get_or (triples text tree) n (nod 0 0)) (sym (add-zero i)) ∙ (sym (get_or-drop i (triples text tree) 0 (nod 0 0)) ∙ e))

  many : length (map f (triples text tree)) ≡ length tree / 3
  many = length-map (triples text tree) f ∙ length_triples text tree

-- a row is read, and two of its words are written
pub element_written : (tree d : List ℕ) (row kinds measures : ℕ) {k m : ℕ} {a l : List ℕ} → k ≡ get_or tree (3 * row) 0 → m ≡ get_or tree (3 * row + 1) 0 → a ≡ paste d kinds (bytes_of k) 4 → l ≡ paste a measures (bytes_of m) 4
    → l ≡ paste (paste d kinds (bytes_of (get_or tree (3 * row) 0)) 4) measures (bytes_of (get_or tree (3 * row + 1) 0)) 4
element_written tree d row kinds measures e f p q = q ∙ rw (p, e, f)

-- l is d with the kinds of the first i rows written at `at` and their measures at `measures`; each of them was read once
pub record Sweeping (tree d : List ℕ) (at measures : ℕ) (l : List ℕ) (reads i : ℕ) : Type 0 where
  pub inside : i ≤ length tree / 3
  pub counted : reads ≡ i
  pub behind : measures ≡ at + 4 * (length tree / 3)
  pub room : at + 8 * (length tree / 3) ≤ length d
  pub long : length l ≡ length d
  pub swept : (text : List ℕ) → l ≡ paste (paste d at (written (map kind (triples text tree))) (4 * i)) measures (written (map measure (triples text tree))) (4 * i)

pub sweeping : (tree d : List ℕ) (at : ℕ) → at + 8 * (length tree / 3) ≤ length d → Sweeping tree d at (at + 4 * (length tree / 3)) d 0 0
sweeping tree d at h = record {
  inside = omega arith;
  counted = refl;
  behind = refl;
  room = h;
  long = refl;
  swept = λ text.
      paste-zero d (at + 4 * (length tree / 3)) (written (map measure (triples text tree)))
      ∙ ap (λ x. paste x (at + 4 * (length tree / 3)) (written (map measure (triples text tree))) 0) (paste-zero d at (written (map kind (triples text tree))));
}

module _ {tree d : List ℕ} {at measures : ℕ} {l : List ℕ} {reads i : ℕ} (v : Sweeping tree d at measures l reads i) where
  module _ (text : List ℕ) (h : i < length tree / 3) where
    -- one kind more goes below the measures that are written
    kind_more : paste l (at + 4 * i) (bytes_of (get_or tree (3 * i) 0)) 4 ≡ paste (paste d at (written (map kind (triples text tree))) (4 * (i + 1))) measures (written (map measure (triples text tree))) (4 * i)
    unfolding bytes_of
    kind_more =
        let K : List ℕ = map kind (triples text tree) in
        let M : List ℕ = written (map measure (triples text tree)) in
        let k : List ℕ = bytes_of (get_or tree (3 * i) 0) in
        let P : List ℕ = paste d at (written K) (4 * i) in
        let n = many kind text tree in
        let a : length P ≡ length d = length-paste d at (written K) (4 * i) (omega (arith, v.room)) (omega (arith, length_written K)) in
        let b : length (paste P (at + 4 * i) k 4) ≡ length P = length-paste P (at + 4 * i) k 4 (omega (arith, v.room)) (omega arith) in
        let w : Writing d at K P i = record { inside = omega arith; long = a; copied = refl } in
        let e : get_or tree (3 * i) 0 ≡ get_or K i 0 = sym (kind_word text (get_or tree (3 * i) 0) (get_or tree (3 * i + 1) 0) (get_or tree (3 * i + 2) 0)) ∙ sym (told kind text tree i (omega arith)) in
        ap (λ x. paste x (at + 4 * i) k 4) (v.swept text)
        ∙ (paste_swap P k M (at + 4 * i) 4 measures (4 * i) (omega (arith, v.behind)) (omega (arith, v.behind, v.room)) (omega arith)
        ∙ ap (λ x. paste x measures M (4 * i)) (writing_next w (omega arith) (omega (arith, v.room)) e b refl).copied)

  pub sweeping_next : {l' : List ℕ} → i < length tree / 3 → length l' ≡ length l
      → l' ≡ paste (paste l (at + 4 * i) (bytes_of (get_or tree (3 * i) 0)) 4) (measures + 4 * i) (bytes_of (get_or tree (3 * i + 1) 0)) 4 → Sweeping tree d at measures l' (reads + 1) (i + 1)
  unfolding bytes_of
  sweeping_next {l'} h m q = record {
    inside = omega arith;
    counted = omega (arith, v.counted);
    behind = v.behind;
    room = v.room;
    long = m ∙ v.long;
    swept = go;
  }
    where
      go : (text : List ℕ) → l' ≡ paste (paste d at (written (map kind (triples text tree))) (4 * (i + 1))) measures (written (map measure (triples text tree))) (4 * (i + 1))
      go text =
          let K : List ℕ = map kind (triples text tree) in
          let M : List ℕ = map measure (triples text tree) in
          let Q : List ℕ = paste d at (written K) (4 * (i + 1)) in
          let l₁ : List ℕ = paste l (at + 4 * i) (bytes_of (get_or tree (3 * i) 0)) 4 in
          let a : length l₁ ≡ length l = length-paste l (at + 4 * i) (bytes_of (get_or tree (3 * i) 0)) 4 (omega (arith, v.long, v.room)) (omega arith) in
          let b : length Q ≡ length d = length-paste d at (written K) (4 * (i + 1)) (omega (arith, v.room)) (omega (arith, length_written K, many kind text tree)) in
          let w : Writing Q measures M l₁ i = record { inside = omega (arith, many measure text tree); long = omega (arith, v.long); copied = kind_more text h } in
          let e : get_or tree (3 * i + 1) 0 ≡ get_or M i 0 = sym (measure_word text (get_or tree (3 * i) 0) (get_or tree (3 * i + 1) 0) (get_or tree (3 * i + 2) 0)) ∙ sym (told measure text tree i (omega arith)) in
          (writing_next w (omega (arith, many measure text tree)) (omega (arith, many measure text tree, v.room, v.behind)) e (m ∙ sym a) q).copied

  pub sweeping_done : length tree / 3 ≤ i → Swept tree at d l reads
  unfolding elements_over
  sweeping_done h =
      let e : length tree / 3 ≡ i = omega (arith, v.inside) in
      let r : reads ≡ length tree / 3 = omega (arith, v.counted) in
      record { count = row_each tree r; arrays = λ text. v.swept text ∙ rw (v.behind, e) }

-- ── The text ────────────────────────────────────────────────────────────────────────────────────────────────

module _ (text : List ℕ) (k m o : ℕ) where
  -- own text, if there is any, stands where the words say
  stands : (length (own (row_at text k m o)) ≡ 0 → ⊥) → StandsAt text (own (row_at text k m o)) o
  stands z = go (lt_or_le k 2147483648) (lt_or_le (length text) (o + m))
    where
      go : (k < 2147483648) ⊎ (2147483648 ≤ k) → (length text < o + m) ⊎ (o + m ≤ length text) → StandsAt text (own (row_at text k m o)) o
      go (inr h) w = absurd (z (ap (λ r. length (own r)) (node_row text k m o h)))
      go (inl h) (inl w) = absurd (z (rw (lt-ltb k 2147483648 h, lt-leb (o + m) (length text) w) refl))
      go (inl h) (inr w) =
          let e : own (row_at text k m o) ≡ take m (drop o text) = ap own (token_row text k m o h w) in
          let n : length (own (row_at text k m o)) ≡ m = ap length e ∙ length-take-le m (drop o text) (omega (arith, length-drop o text)) in
          record { inside = omega (arith, n); is = rw n e }

pub own_stands : (tree text : List ℕ) (i : ℕ) {o len : ℕ} → len ≡ length (own (row_in text tree i)) → (len ≡ 0 → ⊥) → o ≡ get_or tree (3 * i + 2) 0 → StandsAt text (own (row_in text tree i)) o
own_stands tree text i e z a = rw a (stands text _ _ _ (λ y. z (e ∙ y)))

-- l is d with the text of the first i rows written from `at` up to `to`
pub record Texting (tree text d : List ℕ) (at : ℕ) (l : List ℕ) (to i : ℕ) : Type 0 where
  pub inside : i ≤ length tree / 3
  pub long : length l ≡ length d
  pub low : at ≤ to
  pub high : to - at ≤ length (flat_map own (triples text tree))
  pub left : drop (to - at) (flat_map own (triples text tree)) ≡ flat_map own (drop i (triples text tree))
  pub copied : l ≡ paste d at (flat_map own (triples text tree)) (to - at)

texting : (tree text d : List ℕ) (at : ℕ) → Texting tree text d at d at 0
texting tree text d at = record {
  inside = omega arith;
  long = refl;
  low = omega arith;
  high = omega arith;
  left = rw (sub_self at);
  copied = rw (sub_self at) (paste-zero d at (flat_map own (triples text tree)));
}

module _ {tree text d : List ℕ} {at : ℕ} {l : List ℕ} {to i : ℕ} (v : Texting tree text d at l to i) where
  module _ {s : List ℕ} (h : i < length tree / 3) (k : at + length (flat_map own (triples text tree)) ≤ length d) (e : s ≡ own (row_in text tree i)) where
    next_left : drop (to - at) (flat_map own (triples text tree)) ≡ s ++ flat_map own (drop (suc i) (triples text tree))
    unfolding flat_map
    next_left = v.left ∙ rw (triples_at text i tree (omega arith), e)

    fits : (to - at) + length s ≤ length (flat_map own (triples text tree))
    fits =
        let a : length (flat_map own (triples text tree)) - (to - at) ≡ length s + length (flat_map own (drop (suc i) (triples text tree))) =
        sym (length-drop (to - at) (flat_map own (triples text tree))) ∙ (ap length next_left ∙ length-append s (flat_map own (drop (suc i) (triples text tree)))) in
        omega (arith, v.high)

    texting_room : to + length s ≤ length l
    texting_room = omega (arith, fits, v.low, v.long)

    texting_next : {l' : List ℕ} → length l' ≡ length l → l' ≡ paste l to s (length s) → Texting tree text d at l' (to + length s) (i + 1)
    texting_next m q =
        let n : to + length s - at ≡ (to - at) + length s = omega (arith, v.low) in
        let rest = flat_map own (drop (suc i) (triples text tree)) in
        record {
          inside = omega arith;
          long = m ∙ v.long;
          low = omega (arith, v.low);
          high = omega (arith, n, fits);
          left = rw (n, add-one i) (sym (drop-drop (length s) (to - at) (flat_map own (triples text tree))) ∙ (ap (drop (length s)) next_left ∙ drop_at s rest (length s) refl));
          copied =
              q
              ∙ rw (v.copied, n)
              (paste_on d at (flat_map own (triples text tree)) (to - at) s (length s) to ((to - at) + length s) (omega (arith, v.low)) refl (omega (arith, v.high)) v.high
              (take-length s ∙ sym (ap (take (length s)) next_left ∙ take_at s rest (length s) refl)));
        }

  texting_done : length tree / 3 ≤ i → l ≡ paste d at (flat_map own (triples text tree)) (length (flat_map own (triples text tree)))
  unfolding flat_map
  texting_done h =
      let a : drop (to - at) (flat_map own (triples text tree)) ≡ [] = v.left ∙ rw (triples_end text i tree (omega arith)) in
      let b : length (flat_map own (triples text tree)) - (to - at) ≡ 0 = sym (length-drop (to - at) (flat_map own (triples text tree))) ∙ ap length a in
      let n : length (flat_map own (triples text tree)) ≡ to - at = omega (arith, v.high) in
      rw n v.copied

-- once the stretch is copied, l is d with the text of the first i rows
pub record Pending (tree text d : List ℕ) (at : ℕ) (l : List ℕ) (r : Stretch) (i : ℕ) : Type 0 where
  pub there : r.from + r.len ≤ length text
  pub room : r.to + r.len ≤ length l
  pub long : length l ≡ length d
  pub written : Texting tree text d at (stretch_over text r l) (r.to + r.len) i

pub pending : (tree text d : List ℕ) (at : ℕ) → at ≤ length d → Pending tree text d at d (record { to = at; from = 0; len = 0 }) 0
unfolding stretch_over
pending tree text d at h = record {
  there = omega arith;
  room = omega arith;
  long = refl;
  written = rw (← paste-zero d at text, add-zero at) (texting tree text d at);
}

module _ {tree text d : List ℕ} {at : ℕ} {l : List ℕ} {r : Stretch} {i : ℕ} (v : Pending tree text d at l r i) where
  pub pending_next : {l' : List ℕ} {q : Stretch} → i < length tree / 3 → at + length (flat_map own (triples text tree)) ≤ length d → length l' ≡ length l → Added text (own (row_in text tree i)) l r l' q → Pending tree text d at l' q (i + 1)
  pending_next {l'} {q} h k m g =
      let s = own (row_in text tree i) in
      let e : length (stretch_over text q l') ≡ length (stretch_over text r l) =
      ap length g.copied ∙ length-paste (stretch_over text r l) (r.to + r.len) s (length s) (texting_room v.written h k refl) (omega arith) in
      let w = texting_next v.written h k refl e g.copied in
      record {
        there = g.there;
        room = omega (arith, g.place, m, v.long, v.written.long, texting_room v.written h k refl);
        long = m ∙ v.long;
        written = rw g.place w;
      }

  pub pending_done : {l' : List ℕ} → length tree / 3 ≤ i → l' ≡ stretch_over text r l → l' ≡ paste d at (flat_map own (triples text tree)) (length (flat_map own (triples text tree)))
  pending_done h q = q ∙ texting_done v.written h
