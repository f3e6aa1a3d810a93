-- What is laid out, array behind array.
-- Assumes nothing.
use mathlib.Core.Path.{◌≡◌, refl, sym, ap, ◌∙◌}
use mathlib.Core.List.{List, [], ◌∷◌, ◌++◌, append-nil, append_assoc}
use Prim.Native.Nat.{ℕ, zero, suc, ◌+◌, ◌*◌, ◌≤◌, ◌<◌}
use native.Mathlib.Nat.{add-zero}
use native.Mathlib.Numerals.{add-one}
use native.Mathlib.Omega.{arith}
use lib.ListN.{length, get_or, take, length-append}
use lib.Seq.{paste, take-suc, take_all}
use Rattle.definition.specs.Refusals.{call_word}
use Rattle.definition.specs.Words.{bytes, written}
use Rattle.definition.specs.Writing.{Lists, sizes_of, seven_sizes, call_words, laid_out}
use Rattle.read_layout.specs.Layout as read
use Rattle.read_layout.specs.declared.Sizes.{Sizes}
use Rattle.words.specs.Bytes.{length_bytes, length_written, written_append}
use Rattle.write_laws.specs.CallWords.{length_calls}
use Rattle.write_laws.specs.RoundTrip.{InStep}
use Rattle.write_layout.specs.Appending.{Appended, appended, appended_on}

pub words_appended : (s : List ℕ) {d e : List ℕ} {at : ℕ} → at + 4 * length s ≤ length d → e ≡ paste d at (written s) (4 * length s) → Appended d at (written s) e (at + 4 * length s)
words_appended s h q = appended h (sym (length_written s)) q refl

pub text_appended : {d e : List ℕ} {at : ℕ} {s : List ℕ} → at + length s ≤ length d → e ≡ paste d at s (length s) → Appended d at s e (at + length s)
text_appended h q = appended h refl q refl

-- the next array has room
pub room_next : (s t : List ℕ) {d e : List ℕ} {at r : ℕ} → Appended d at (written s) e r → at + 4 * length s + 4 * length t ≤ length d → length e ≡ length d → r + 4 * length t ≤ length e
room_next s t p h l = omega (arith, p.ends, length_written s)

-- ── The call words ──────────────────────────────────────────────────────────────────────────────────────────

-- the first i call words stand behind the first `at` bytes
pub record Calling (d : List ℕ) (at : ℕ) (os ns rs e : List ℕ) (i : ℕ) : Type 0 where
  pub inside : i ≤ length os
  pub long : length e ≡ length d
  pub begun : Appended d at (written (take i (call_words os ns rs))) e (at + 4 * i)

get_d_calls : (os ns rs : List ℕ) (i : ℕ) → i < length os → i < length ns → i < length rs → get_or (call_words os ns rs) i 0 ≡ call_word (get_or os i 0) (get_or ns i 0) (get_or rs i 0)
unfolding call_words
get_d_calls [] ns rs i h k l = absurd (omega arith)
get_d_calls (o ∷ os) [] rs i h k l = absurd (omega arith)
get_d_calls (o ∷ os) (n ∷ ns) [] i h k l = absurd (omega arith)
get_d_calls (o ∷ os) (n ∷ ns) (r ∷ rs) zero h k l = refl
get_d_calls (o ∷ os) (n ∷ ns) (r ∷ rs) (suc i) h k l = get_d_calls os ns rs i (omega arith) (omega arith) (omega arith)

one_written : (w : ℕ) → written (w ∷ []) ≡ bytes w
unfolding written mathlib.Core.List.flat_map
one_written w = append-nil (bytes w)

pub calling_start : (d : List ℕ) (at : ℕ) (os ns rs : List ℕ) → Calling d at os ns rs d 0
unfolding written mathlib.Core.List.flat_map
calling_start d at os ns rs = record { inside = omega arith; long = refl; begun = record { ends = refl; stands = ap (λ (k : ℕ). take k d) (add-zero at) ∙ sym (append-nil (take at d)) } }

module _ {d : List ℕ} {at : ℕ} {os ns rs e : List ℕ} {i : ℕ} (v : Calling d at os ns rs e i) (q : (length os ≡ length ns) × (length os ≡ length rs)) where
  pub calling_next : {f : List ℕ} {w : ℕ} → i < length os → at + 4 * length os ≤ length d → w ≡ call_word (get_or os i 0) (get_or ns i 0) (get_or rs i 0) → length f ≡ length e → f ≡ paste e (at + 4 * i) (bytes w) 4
      → Calling d at os ns rs f (i + 1)
  calling_next {f} {w} h k g m p =
      let n = length_calls os ns rs q.0 q.1 in
      let one : Appended e (at + 4 * i) (bytes w) f (at + 4 * (i + 1)) = appended (omega (arith, v.long)) (sym (length_bytes w)) p (omega arith) in
      let more : written (take (i + 1) (call_words os ns rs)) ≡ written (take i (call_words os ns rs)) ++ bytes w =
      rw (add-one i, take-suc (call_words os ns rs) i 0 (omega arith), get_d_calls os ns rs i h (omega (arith, q.0)) (omega (arith, q.1)), ← g, ← one_written w) (written_append (take i (call_words os ns rs)) (w ∷ [])) in
      record { inside = omega arith; long = m ∙ v.long; begun = rw more (appended_on v.begun one) }

  pub calling_done : length os ≤ i → Appended d at (written (call_words os ns rs)) e (at + 4 * length os)
  calling_done h =
      let z = v.begun in
      let z = rw (take_all i (call_words os ns rs) (omega (arith, length_calls os ns rs q.0 q.1))) at z in
      let r : at + 4 * i ≡ at + 4 * length os = omega (arith, v.inside) in
      rw r at z

-- ── A batch ─────────────────────────────────────────────────────────────────────────────────────────────────

length_two : (s t : List ℕ) → length (written s ++ written t) ≡ 4 * length s + 4 * length t
length_two s t = rw (length-append, length_written, length_written) refl

-- two arrays more have room behind two
pub room_two : (s t u v : List ℕ) {d e : List ℕ} {at r : ℕ} → Appended d at (written s ++ written t) e r → at + 4 * length s + 4 * length t + 4 * length u + 4 * length v ≤ length d → length e ≡ length d
    → r + 4 * length u + 4 * length v ≤ length e
room_two s t u v p h l = omega (arith, p.ends, length_two s t)

-- and behind the call words
pub room_targets : (os ns rs t u : List ℕ) {d e : List ℕ} {at r : ℕ} → (length os ≡ length ns) × (length os ≡ length rs) → Appended d at (written (call_words os ns rs)) e r → at + 4 * length os + 4 * length t + 4 * length u ≤ length d → length e ≡ length d
    → r + 4 * length t + 4 * length u ≤ length e
room_targets os ns rs t u q p h l = omega (arith, p.ends, length_written (call_words os ns rs), length_calls os ns rs q.0 q.1)

laid_out_lem : (l : Lists) → written (seven_sizes (sizes_of l)) ++ ((written l.kinds ++ written l.measures) ++ ((written (call_words l.operations l.counts l.rules) ++ (written l.targets ++ written l.listed)) ++ (((written l.inputs ++ written l.outputs) ++ (written l.noted ++ written l.numbers)) ++ l.text))) ≡ laid_out l
unfolding laid_out
laid_out_lem l = simp append_assoc

-- the sizes that the code has come first
pub sizes_appended : (l : Lists) (s : Sizes) {d e : List ℕ} {r : ℕ} → read.sizes_of s ≡ sizes_of l → Appended d 0 (written (s.trees ∷ s.elements ∷ s.text ∷ s.calls ∷ s.listed ∷ s.mappings ∷ s.notes ∷ [])) e r → Appended d 0 (written (seven_sizes (sizes_of l))) e r
unfolding seven_sizes
sizes_appended l s q p = rw (← q) p

module _ (l : Lists) (y : InStep l) where
  module _ {d d₁ : List ℕ} {r₁ : ℕ} (room : 49180 ≤ length d) (p₁ : Appended d 0 (written (seven_sizes (sizes_of l))) d₁ r₁) (e₁ : length d₁ ≡ length d) where
    sizes_end : r₁ ≡ 28
    unfolding seven_sizes
    sizes_end = omega (arith, p₁.ends, length_written (seven_sizes (sizes_of l)))

    pub room_trees : r₁ + 4 * length l.kinds + 4 * length l.measures ≤ length d₁
    unfolding sizes_of
    room_trees = omega (arith, sizes_end, y.limits.elements, y.measures)

    module _ {d₂ : List ℕ} {r₂ : ℕ} (p₂ : Appended d₁ r₁ (written l.kinds ++ written l.measures) d₂ r₂) (e₂ : length d₂ ≡ length d₁) where
      trees_end : r₂ ≤ 16412
      unfolding sizes_of
      trees_end = omega (arith, sizes_end, p₂.ends, length_two l.kinds l.measures, y.limits.elements, y.measures)

      pub room_queue : r₂ + 4 * length l.operations + 4 * length l.targets + 4 * length l.listed ≤ length d₂
      unfolding sizes_of
      room_queue = omega (arith, trees_end, y.limits.calls, y.limits.listed, y.targets)

      module _ {d₃ : List ℕ} {r₃ : ℕ} (p₃ : Appended d₂ r₂ (written (call_words l.operations l.counts l.rules) ++ (written l.targets ++ written l.listed)) d₃ r₃) (e₃ : length d₃ ≡ length d₂) where
        queue_long : length (written (call_words l.operations l.counts l.rules) ++ (written l.targets ++ written l.listed)) ≤ 6144
        unfolding sizes_of
        queue_long = rw (length-append, length_two l.targets l.listed, length_written, length_calls l.operations l.counts l.rules y.counts y.rules) (omega (arith, y.limits.calls, y.limits.listed, y.targets))

        queue_end : r₃ ≤ 22556
        queue_end = omega (arith, trees_end, p₃.ends, queue_long)

        pub room_names : r₃ + 4 * length l.inputs + 4 * length l.outputs + 4 * length l.noted + 4 * length l.numbers ≤ length d₃
        unfolding sizes_of
        room_names = omega (arith, queue_end, y.limits.mappings, y.limits.notes, y.outputs, y.numbers)

        module _ {d₄ : List ℕ} {r₄ : ℕ} (p₄ : Appended d₃ r₃ ((written l.inputs ++ written l.outputs) ++ (written l.noted ++ written l.numbers)) d₄ r₄) (e₄ : length d₄ ≡ length d₃) where
          names_long : length ((written l.inputs ++ written l.outputs) ++ (written l.noted ++ written l.numbers)) ≤ 10240
          unfolding sizes_of
          names_long = rw (length-append, length_two l.inputs l.outputs, length_two l.noted l.numbers) (omega (arith, y.limits.mappings, y.limits.notes, y.outputs, y.numbers))

          pub room_text : r₄ + length l.text ≤ length d₄
          unfolding sizes_of
          room_text = omega (arith, queue_end, p₄.ends, names_long, y.limits.text)

          pub all_laid : {d₅ : List ℕ} {r₅ : ℕ} → Appended d₄ r₄ l.text d₅ r₅ → Appended d 0 (laid_out l) d₅ r₅
          all_laid p₅ = rw (← laid_out_lem l) (appended_on p₁ (appended_on p₂ (appended_on p₃ (appended_on p₄ p₅))))
