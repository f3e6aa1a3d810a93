-- Lists that can be laid out pass lines 2 to 4. "What it writes is read as the same lists, and any batch that passes lines 2 to 7 comes out byte for byte after reading and writing."
-- Assumes nothing.
use Rattle.std.specs.Prelude.{◌≡◌, false, not, ◌||◌, List, [], ◌∷◌, ◌++◌, map, leb, ltb, eqb, length, get_or}
use Rattle.std.proofs.Math.Path.{refl, sym, ap}
use Rattle.std.proofs.Common.{◌∙◌, length-drop, length-append, drop-drop, eqb-true, eq-eqb, le-ltb}
use Prim.Native.Nat.{ℕ, zero, suc, ◌+◌, ◌*◌, ◌≤◌}
use native.Mathlib.Omega.{arith}
use Rattle.std.proofs.Math.ListN.{drop, length-map}
use Rattle.std.proofs.Math.Seq.{drop_at}
use Rattle.std.proofs.lemmas.Bool.{not-false}
use Rattle.orders.specs.Lists.{All}
use Rattle.orders.specs.ListLaws.{either_false}
use Rattle.definition.specs.Basics.{Answer, refused, gives, ◌>>=◌, refuse, is_refused, any}
use Rattle.definition.specs.Words.{words, written}
use Rattle.definition.specs.Batch.{Sizes, Batch, sizes, beyond, whole, arrays, batch}
use Rattle.definition.specs.Refusals.{operation_of, count_of, rule_of, Accepted, accepted}
use Rattle.definition.specs.Writing.{Lists, sizes_of, seven_sizes, call_words, laid_out, differ, out_of_step, unfitting, unlayable, wrong_lists, write, lists_of, lists}
use Rattle.definition_laws.specs.Answers.{gives_inj, given, not_wrong}
use Rattle.definition_laws.specs.Accepted.{Limited, limited, Sized, batch_sized}
use Rattle.words.specs.Bytes.{Words, Bytes, drop_bytes, words_small, length_written, words_written}
use Rattle.write_laws.specs.Arrays.{parted, behind, taken, joined, parted_joined, behind_joined, rejoined, joined_parted}
use Rattle.write_laws.specs.CallWords.{Below, none_over, over_none, length_calls, calls_read, calls_small, calls_again, operations_small, counts_small, rules_small}

-- the lists of words are made of words
abbrev pub Worded : Lists → Type 0
Worded l = All Words (l.kinds ∷ l.measures ∷ l.targets ∷ l.listed ∷ l.inputs ∷ l.outputs ∷ l.noted ∷ l.numbers ∷ [])

-- ── A batch as nine arrays between its sizes and its text ───────────────────────────────────────────────────

-- how many words each array has
counts : Sizes → List ℕ
counts s = s.elements ∷ s.elements ∷ s.calls ∷ s.calls ∷ s.listed ∷ s.mappings ∷ s.mappings ∷ s.notes ∷ s.notes ∷ []

-- the batch with these arrays
unfoldable pub batch_of : ℕ → List (List ℕ) → List ℕ → Batch
batch_of trees ls text = record {
  trees = trees;
  kinds = get_or ls 0 [];
  measures = get_or ls 1 [];
  calls = get_or ls 2 [];
  targets = get_or ls 3 [];
  listed = get_or ls 4 [];
  inputs = get_or ls 5 [];
  outputs = get_or ls 6 [];
  noted = get_or ls 7 [];
  numbers = get_or ls 8 [];
  text = text;
}

-- the arrays that are laid out
unfoldable pub arrays_of : Lists → List (List ℕ)
arrays_of l = l.kinds ∷ l.measures ∷ call_words l.operations l.counts l.rules ∷ l.targets ∷ l.listed ∷ l.inputs ∷ l.outputs ∷ l.noted ∷ l.numbers ∷ []

-- the batch that lists are laid out as
abbrev pub laid_batch : Lists → Batch
laid_batch l = batch_of l.trees (arrays_of l) l.text

arrays_parted : (s : Sizes) (b : List ℕ) → arrays s b ≡ batch_of s.trees (parted (counts s) (drop 28 b)) (behind (counts s) (drop 28 b))
unfolding arrays batch_of parted behind counts
arrays_parted s b = refl

laid_joined : (l : Lists) → laid_out l ≡ written (seven_sizes (sizes_of l)) ++ joined (arrays_of l) l.text
unfolding laid_out joined arrays_of
laid_joined l = refl

-- the seven sizes of some bytes, as a list
seven : (b : List ℕ) → words 7 b ≡ seven_sizes (sizes b)
unfolding words seven_sizes sizes
seven b = simp drop-drop

-- sizes with the same numbers
same_sizes : {s t : Sizes} → s.trees ≡ t.trees → s.elements ≡ t.elements → s.text ≡ t.text → s.calls ≡ t.calls → s.listed ≡ t.listed → s.mappings ≡ t.mappings → s.notes ≡ t.notes → s ≡ t
same_sizes a b c d e f g i = record { trees = a i; elements = b i; text = c i; calls = d i; listed = e i; mappings = f i; notes = g i }

seven_same : (s t : Sizes) → seven_sizes s ≡ seven_sizes t → s ≡ t
unfolding seven_sizes
seven_same s t e = same_sizes (at 0) (at 1) (at 2) (at 3) (at 4) (at 5) (at 6)
  where
    at : (i : ℕ) → get_or (seven_sizes s) i 0 ≡ get_or (seven_sizes t) i 0
    at i = ap (λ (l : List ℕ). get_or l i 0) e

-- ── Lists that are not refused ──────────────────────────────────────────────────────────────────────────────

-- lists whose sizes are within their limits, in step where they are to be
pub record InStep (l : Lists) : Type 0 where
  pub limits : Limited (sizes_of l)
  pub measures : length l.kinds ≡ length l.measures
  pub counts : length l.operations ≡ length l.counts
  pub rules : length l.operations ≡ length l.rules
  pub targets : length l.operations ≡ length l.targets
  pub outputs : length l.inputs ≡ length l.outputs
  pub numbers : length l.noted ≡ length l.numbers

-- lists that can be laid out
pub record Layable (l : Lists) : Type 0 where
  pub step : InStep l
  pub operations : Below 256 l.operations
  pub few : Below 4096 l.counts
  pub ruled : Below 4096 l.rules

same_length : (l m : List ℕ) → differ l m ≡ false → length l ≡ length m
unfolding differ
same_length l m e = eqb-true (length l) (length m) (not-false _ e)

in_step : (l m : List ℕ) → length l ≡ length m → differ l m ≡ false
unfolding differ
in_step l m e = rw (eq-eqb (length l) (length m) e) refl

not_refused : {A : Type 0} (o : Answer A) → is_refused o ≡ false → (a : A) × (o ≡ gives a)
unfolding is_refused
not_refused (refused n) e = absurd (let z : ◌≡◌ {A = ℕ} 0 1 = cc in omega arith)
not_refused (gives a) e = (a, refl)

pub layable : (l : Lists) → unlayable l ≡ false → Layable l
unfolding unlayable out_of_step unfitting
layable l e =
    let (e, fits) = either_false _ (any (leb 256) l.operations || any (leb 4096) l.counts || any (leb 4096) l.rules) e in
    let (step, within) = either_false _ (beyond (sizes_of l)) e in
    let (step, numbers) = either_false _ (differ l.noted l.numbers) step in
    let (step, outputs) = either_false _ (differ l.inputs l.outputs) step in
    let (step, targets) = either_false _ (differ l.operations l.targets) step in
    let (step, rules) = either_false _ (differ l.operations l.rules) step in
    let (measures, counts) = either_false (differ l.kinds l.measures) (differ l.operations l.counts) step in
    let (fits, ruled) = either_false _ (any (leb 4096) l.rules) fits in
    let (operations, few) = either_false (any (leb 256) l.operations) (any (leb 4096) l.counts) fits in
    record {
      step = record {
        limits = limited (sizes_of l) within;
        measures = same_length l.kinds l.measures measures;
        counts = same_length l.operations l.counts counts;
        rules = same_length l.operations l.rules rules;
        targets = same_length l.operations l.targets targets;
        outputs = same_length l.inputs l.outputs outputs;
        numbers = same_length l.noted l.numbers numbers;
      };
      operations = none_over 256 l.operations (omega arith) operations;
      few = none_over 4096 l.counts (omega arith) few;
      ruled = none_over 4096 l.rules (omega arith) ruled;
    }

-- lists that can be laid out, and are not refused then, are not wrong
pub lists_right : (l : Lists) → Layable l → beyond (sizes_of l) ≡ false → is_refused (accepted (laid_out l)) ≡ false → wrong_lists l ≡ false
unfolding wrong_lists unlayable out_of_step unfitting
lists_right l y small x =
    rw (
      in_step l.kinds l.measures y.step.measures,
      in_step l.operations l.counts y.step.counts,
      in_step l.operations l.rules y.step.rules,
      in_step l.operations l.targets y.step.targets,
      in_step l.inputs l.outputs y.step.outputs,
      in_step l.noted l.numbers y.step.numbers,
      small,
      over_none 256 l.operations y.operations,
      over_none 4096 l.counts y.few,
      over_none 4096 l.rules y.ruled,
      x,
    )
    refl

-- ── What is laid out is read ────────────────────────────────────────────────────────────────────────────────

module _ (l : Lists) (y : Layable l) where
  sizes_small : Words (seven_sizes (sizes_of l))
  unfolding seven_sizes
  sizes_small zero = omega (arith, y.step.limits.trees)
  sizes_small (suc zero) = omega (arith, y.step.limits.elements)
  sizes_small (suc (suc zero)) = omega (arith, y.step.limits.text)
  sizes_small (suc (suc (suc zero))) = omega (arith, y.step.limits.calls)
  sizes_small (suc (suc (suc (suc zero)))) = omega (arith, y.step.limits.listed)
  sizes_small (suc (suc (suc (suc (suc zero))))) = omega (arith, y.step.limits.mappings)
  sizes_small (suc (suc (suc (suc (suc (suc zero)))))) = omega (arith, y.step.limits.notes)
  sizes_small (suc (suc (suc (suc (suc (suc (suc i))))))) = omega arith

  sizes_read : sizes (laid_out l) ≡ sizes_of l
  unfolding seven_sizes
  sizes_read = seven_same (sizes (laid_out l)) (sizes_of l) (sym (seven (laid_out l)) ∙ rw (laid_joined l) (words_written (seven_sizes (sizes_of l)) (joined (arrays_of l) l.text) sizes_small))

  counts_told : counts (sizes_of l) ≡ map length (arrays_of l)
  unfolding counts sizes_of arrays_of
  counts_told = rw (length_calls l.operations l.counts l.rules y.step.counts y.step.rules, ← y.step.measures, ← y.step.targets, ← y.step.outputs, ← y.step.numbers) refl

  front_passed : drop 28 (laid_out l) ≡ joined (arrays_of l) l.text
  unfolding seven_sizes
  front_passed = ap (drop 28) (laid_joined l) ∙ drop_at (written (seven_sizes (sizes_of l))) (joined (arrays_of l) l.text) 28 (length_written (seven_sizes (sizes_of l)))

  arrays_worded : Worded l → All Words (arrays_of l)
  unfolding arrays_of
  arrays_worded w = (w.0, (w.1.0, (calls_small l.operations l.counts l.rules y.operations y.few y.ruled, w.1.1)))

  -- the arrays that are read are those that were laid out
  laid_arrays : Worded l → arrays (sizes (laid_out l)) (laid_out l) ≡ laid_batch l
  unfolding sizes_of
  laid_arrays w =
      rw (sizes_read, arrays_parted (sizes_of l) (laid_out l), front_passed, counts_told, parted_joined (arrays_of l) l.text (arrays_worded w), behind_joined (arrays_of l) l.text) refl

  -- and tell the same lists
  told_lists : lists_of (laid_batch l) ≡ l
  unfolding lists_of batch_of arrays_of
  told_lists = let c = calls_read l.operations l.counts l.rules y.step.counts y.step.rules y.operations y.few y.ruled in rw (c.operations, c.counts, c.rules) refl

  -- how long it is
  pub laid_length : length (laid_out l) ≡ whole (sizes_of l)
  unfolding laid_out whole seven_sizes sizes_of
  laid_length =
      simp (length-append, length_written)
      (omega (arith, length_calls l.operations l.counts l.rules y.step.counts y.step.rules, y.step.measures, y.step.targets, y.step.outputs, y.step.numbers))

whole_28 : (s : Sizes) → 28 ≤ whole s
unfolding whole
whole_28 s = omega arith

-- LINES 2 TO 4 LET PASS WHAT IS LAID OUT.
pub batch_laid : (l : Lists) → Layable l → Worded l → beyond (sizes_of l) ≡ false → batch (laid_out l) ≡ gives (laid_batch l)
unfolding batch ◌>>=◌ refuse
batch_laid l y w small =
    let n = laid_length l y in
    let e : ltb (length (laid_out l)) 28 ≡ false = le-ltb (length (laid_out l)) 28 (omega (arith, n, whole_28 (sizes_of l))) in
    let f : not (eqb (length (laid_out l)) (whole (sizes_of l))) ≡ false = rw (eq-eqb (length (laid_out l)) (whole (sizes_of l)) n) refl in
    rw (e, ← laid_arrays l y w, sizes_read l y, small, f) refl

-- what lines 2 to 4 give
batch_given : (b : List ℕ) (B : Batch) → batch b ≡ gives B → (arrays (sizes b) b ≡ B) × (length b ≡ whole (sizes b)) × (beyond (sizes b) ≡ false)
unfolding batch
batch_given b B e =
    given (refuse 2 (ltb (length b) 28)) _ e λ u x e.
    given (refuse 3 (beyond (sizes b))) _ e λ u y e.
    given (refuse 4 (not (eqb (length b) (whole (sizes b))))) _ e λ u z e.
    (gives_inj e, eqb-true (length b) (whole (sizes b)) (not-false _ (not_wrong 4 _ z)), not_wrong 3 _ y)

-- what is accepted has arrays
batch_there : (b : List ℕ) (a : Accepted) → accepted b ≡ gives a → (B : Batch) × (batch b ≡ gives B)
unfolding accepted
batch_there b a e = given (batch b) _ e λ B x e. (B, x)

-- WHAT IT WRITES IS READ AS THE SAME LISTS.
pub written_read : (l : Lists) → Worded l → (room : ℕ) (b : List ℕ) → write l room ≡ gives b → lists b ≡ gives l
unfolding write lists wrong_lists ◌>>=◌
written_read l w room b e =
    given (refuse 14 (wrong_lists l)) _ e λ u x e.
    given (refuse 15 (ltb room (length (laid_out l)))) _ e λ u z e.
    let (right, passes) = either_false (unlayable l) (is_refused (accepted (laid_out l))) (not_wrong 14 (wrong_lists l) x) in
    let y = layable l right in
    let (a, g) = not_refused (accepted (laid_out l)) passes in
    let (B, h) = batch_there (laid_out l) a g in
    let k : laid_batch l ≡ B = sym (laid_arrays l y w) ∙ (batch_given (laid_out l) B h).0 in
    rw (← gives_inj e, g, h) (ap gives (ap lists_of (sym k) ∙ told_lists l y))

-- ── What is read is laid out ────────────────────────────────────────────────────────────────────────────────

module _ (b : List ℕ) (h : Bytes b) (q : length b ≡ whole (sizes b)) (z : Sized (sizes b) (arrays (sizes b) b)) where
  sizes_again : sizes_of (lists_of (arrays (sizes b) b)) ≡ sizes b
  unfolding sizes_of lists_of
  sizes_again = same_sizes z.trees z.kinds z.text (length-map (arrays (sizes b) b).calls operation_of ∙ z.calls) z.listed z.inputs z.noted

  calls_words : Words (arrays (sizes b) b).calls
  unfolding arrays
  calls_words =
      let s = sizes b in
      let k = drop 28 b in
      let m = drop (4 * s.elements) k in
      words_small s.calls (drop (4 * s.elements) m) (drop_bytes (4 * s.elements) m (drop_bytes (4 * s.elements) k (drop_bytes 28 b h)))

  arrays_again : arrays_of (lists_of (arrays (sizes b) b)) ≡ parted (counts (sizes b)) (drop 28 b)
  unfolding arrays_of lists_of arrays parted counts
  arrays_again = rw (calls_again (arrays (sizes b) b).calls calls_words) refl

  text_again : (lists_of (arrays (sizes b) b)).text ≡ behind (counts (sizes b)) (drop 28 b)
  unfolding lists_of arrays behind counts
  text_again = refl

  long : 28 + taken (counts (sizes b)) ≤ length b
  unfolding taken counts whole
  long = omega (arith, q)

  again : laid_out (lists_of (arrays (sizes b) b)) ≡ b
  again =
      let front = joined_parted (counts (sizes b)) (drop 28 b) (omega (arith, long, length-drop 28 b)) (drop_bytes 28 b h) in
      rw (laid_joined (lists_of (arrays (sizes b) b)), sizes_again, ← seven b, arrays_again, text_again, front) (rejoined 7 b (omega (arith, long)) h)

  read_layable : beyond (sizes b) ≡ false → Layable (lists_of (arrays (sizes b) b))
  unfolding lists_of
  read_layable small =
      let B = arrays (sizes b) b in
      let operations = length-map B.calls operation_of ∙ z.calls in
      record {
        step = record {
          limits = limited (sizes_of (lists_of B)) (rw sizes_again small);
          measures = z.kinds ∙ sym z.measures;
          counts = operations ∙ sym (length-map B.calls count_of ∙ z.calls);
          rules = operations ∙ sym (length-map B.calls rule_of ∙ z.calls);
          targets = operations ∙ sym z.targets;
          outputs = z.inputs ∙ sym z.outputs;
          numbers = z.noted ∙ sym z.numbers;
        };
        operations = operations_small B.calls;
        few = counts_small B.calls;
        ruled = rules_small B.calls;
      }

  -- what is read is not wrong
  read_right : beyond (sizes b) ≡ false → {a : Accepted} → accepted b ≡ gives a → wrong_lists (lists_of (arrays (sizes b) b)) ≡ false
  unfolding is_refused
  read_right small x = lists_right (lists_of (arrays (sizes b) b)) (read_layable small) (rw sizes_again small) (rw (again, x) refl)

-- ANY BATCH THAT PASSES LINES 2 TO 7 COMES OUT BYTE FOR BYTE AFTER READING AND WRITING.
pub read_written : (b : List ℕ) → Bytes b → (l : Lists) → lists b ≡ gives l → (room : ℕ) → length b ≤ room → write l room ≡ gives b
unfolding lists write ◌>>=◌ refuse
read_written b h l e room k =
    given (accepted b) _ e λ a x e.
    given (batch b) _ e λ B y e.
    let (is, q, small) = batch_given b B y in
    let z : Sized (sizes b) (arrays (sizes b) b) = rw is (batch_sized b B y).1 in
    rw (← gives_inj e, ← is, read_right b h q z small x, again b h q z, le-ltb room (length b) k) refl
