-- "Every starting number must give a batch of at least 64 calls that passes lines 2 to 7 and uses an insertion, a replacement and a change inside a
-- replaced node. The writer lays it out, 15 included."
-- Assumes nothing.
use Rattle.std.specs.Prelude.{◌≡◌, false, ℕ, zero, suc, ◌+◌, ◌*◌, ◌%◌, ◌≤◌, ◌<◌, leb}
use Rattle.std.proofs.Math.Path.{refl, sym}
use Rattle.std.proofs.Common.{ap, ◌∙◌, length-append, take_at, drop_at}
use mathlib.Core.List as List
use mathlib.Core.List.{List, [], ◌∷◌, ◌++◌, map, flat_map, zip}
use Rattle.std.proofs.Math.Option.{some}
use native.Mathlib.Omega.{arith}
use Rattle.std.proofs.Math.ListN.{length, length-map}
use borrow.Author.Tests.{lt-leb, le-leb, le-ltb, lt-ltb, ne_eqb}
use Rattle.orders.specs.Lists.{All}
use Rattle.orders.specs.ListLaws.{All-map, All-over, passes_none}
use Rattle.definition.specs.Basics.{refused, gives, ◌>>=◌, refuse, or_refuse, is_refused, any}
use Rattle.definition.specs.Batch.{beyond, whole}
use Rattle.definition.specs.Elements.{table}
use Rattle.definition.specs.Refusals as Refusals
use Rattle.definition.specs.Refusals.{Call, lists_too_many, wrong_call, wrong_mapping, wrong_note, Accepted, accepted}
use Rattle.definition.specs.Writing.{sizes_of, call_words, laid_out, wrong_lists, write}
use Rattle.definition_laws.specs.Basics.{All-append}
use Rattle.definition_laws.specs.Accepted.{limited}
use Rattle.words.specs.Bytes.{Words}
use Rattle.write_laws.specs.CallWords.{Below, none_over, parts}
use Rattle.write_laws.specs.RoundTrip.{Worded, batch_of, arrays_of, laid_batch, Layable, lists_right, laid_length, batch_laid}
use Rattle.load_laws.specs.Load.{next, drawn, after, draws, block, replaced, copy, elements, kind_at, measure_at, byte_at, along, calls, noted, load}
use Rattle.load_laws.proofs.Trees.{load_trees, T, spells, many, group_told, copied}
use Rattle.load_laws.proofs.Calls.{Fine, replaced_low, block_low, calls_fine, calls_many, call_known, call_few}

-- ── Lists of words ──────────────────────────────────────────────────────────────────────────────────────────

below_all : (k : ℕ) → 0 < k → (l : List ℕ) → All (λ x. x < k) l → Below k l
below_all k z [] h i = z
below_all k z (x ∷ l) h zero = h.0
below_all k z (x ∷ l) h (suc i) = below_all k z l h.1 i

all_words : (l : List ℕ) → All (λ x. x < 4294967296) l → Words l
all_words l h = below_all 4294967296 (omega arith) l h

length_along : (f : ℕ → ℕ) (k n : ℕ) → length (along f k n) ≡ n
unfolding along
length_along f k zero = refl
length_along f k (suc n) = ap suc (length_along f (suc k) n)

length_draws : (n s : ℕ) → length (draws n s) ≡ n
unfolding draws
length_draws zero s = refl
length_draws (suc n) s = ap suc (length_draws n (next s))

-- kinds, measures and the notes' numbers are words, by computation
tree_words : (any (leb 4294967296) (along kind_at 0 elements) ≡ false) × (any (leb 4294967296) (along measure_at 0 elements) ≡ false) × (any (leb 4294967296) (along (λ n. n) 1 8) ≡ false)
unfolding any along kind_at measure_at
tree_words = (refl, refl, refl)

computed_words : (l : List ℕ) → any (leb 4294967296) l ≡ false → Words l
computed_words l e = none_over 4294967296 l (omega arith) e

-- ── The notes ───────────────────────────────────────────────────────────────────────────────────────────────

length_noted : (s : ℕ) → length (noted s) ≡ 8
unfolding noted
length_noted s = length-map (draws 8 (after 187 s)) (λ d. d % 769) ∙ length_draws 8 (after 187 s)

some_noted : (n s : ℕ) → All (λ e. e < 769) (map (λ d. d % 769) (draws n s))
unfolding draws
some_noted zero s = tt
some_noted (suc n) s = (omega arith, some_noted n (next s))

all_noted : (s : ℕ) → All (λ e. e < 769) (noted s)
unfolding noted
all_noted s = some_noted 8 (after 187 s)

-- ── The calls, laid out and read ────────────────────────────────────────────────────────────────────────────

listed_few : (cs : List Call) → All Fine cs → length (flat_map (λ c. c.listed) cs) ≤ 2 * length cs
unfolding flat_map
listed_few [] h = omega arith
listed_few (c ∷ cs) h = omega (arith, length-append c.listed (flat_map (λ c. c.listed) cs), listed_few cs h.1, h.0.few)

-- what calls are laid out as is read as them
calls_again : (cs : List Call) → All Fine cs
    → Refusals.calls (zip (call_words (map (λ c. c.operation) cs) (map (λ c. length c.listed) cs) (map (λ c. c.rule) cs)) (map (λ c. c.target) cs)) (flat_map (λ c. c.listed) cs) ≡ some cs
unfolding flat_map call_words Refusals.calls List.zip
calls_again [] h = refl
calls_again (c ∷ cs) h =
    let l = c.listed in
    let r = flat_map (λ c. c.listed) cs in
    let w = parts c.operation (length l) c.rule (call_known c h.0).0 (omega (arith, h.0.few)) h.0.rule in
    rw (w.operation, w.count, w.rule, le-leb (length l) (length (l ++ r)) (omega (arith, length-append l r)), take_at l r (length l) refl, drop_at l r (length l) refl, calls_again cs h.1) refl

over_listed : (cs : List Call) → All Fine cs → All (λ e. e < 4294967296) (flat_map (λ c. c.listed) cs)
unfolding flat_map
over_listed [] h = tt
over_listed (c ∷ cs) h = All-append (λ e. e < 4294967296) c.listed (flat_map (λ c. c.listed) cs) (All-map (λ e k. omega arith) c.listed (call_known c h.0).2) (over_listed cs h.1)

-- ── The lists ───────────────────────────────────────────────────────────────────────────────────────────────

module _ (s : ℕ) where
  listed_most : length (flat_map (λ c. c.listed) (calls s)) ≤ 192
  listed_most = omega (arith, listed_few (calls s) (calls_fine s), calls_many s)

  within : beyond (sizes_of (load s)) ≡ false
  unfolding beyond sizes_of load
  within =
      rw (
        length_along kind_at 0 elements,
        length_along byte_at 0 660,
        length-map (calls s) (λ c. c.operation) ∙ calls_many s,
        le-ltb 1024 (length (flat_map (λ c. c.listed) (calls s))) (omega (arith, listed_most)),
        length_noted s,
      )
      refl

  sizes_said : whole (sizes_of (load s)) ≡ 7864 + 4 * length (load s).listed
  unfolding whole sizes_of load
  sizes_said = omega (arith, length_along kind_at 0 elements, length_along byte_at 0 660, length-map (calls s) (λ c. c.operation), calls_many s, length_noted s)

  listed_said : length (load s).listed ≤ 192
  unfolding load
  listed_said = listed_most

  layable : Layable (load s)
  unfolding load
  layable = record {
    step = record {
      limits = limited (sizes_of (load s)) within;
      measures = length_along kind_at 0 elements ∙ sym (length_along measure_at 0 elements);
      counts = length-map (calls s) (λ c. c.operation) ∙ sym (length-map (calls s) (λ c. length c.listed));
      rules = length-map (calls s) (λ c. c.operation) ∙ sym (length-map (calls s) (λ c. c.rule));
      targets = length-map (calls s) (λ c. c.operation) ∙ sym (length-map (calls s) (λ c. c.target));
      outputs = refl;
      numbers = length_noted s ∙ sym (length_along (λ n. n) 1 8);
    };
    operations = below_all 256 (omega arith) (map (λ c. c.operation) (calls s)) (All-over (λ c. c.operation) Fine (λ x. x < 256) (λ c f. (call_known c f).0) (calls s) (calls_fine s));
    few = below_all 4096 (omega arith) (map (λ c. length c.listed) (calls s)) (All-over (λ c. length c.listed) Fine (λ x. x < 4096) (λ c f. omega (arith, f.few)) (calls s) (calls_fine s));
    ruled = below_all 4096 (omega arith) (map (λ c. c.rule) (calls s)) (All-over (λ c. c.rule) Fine (λ x. x < 4096) (λ c f. f.rule) (calls s) (calls_fine s));
  }

  worded : Worded (load s)
  unfolding load
  worded = (
    computed_words (along kind_at 0 elements) tree_words.0,
    (
      computed_words (along measure_at 0 elements) tree_words.1,
      (
        all_words (map (λ c. c.target) (calls s)) (All-over (λ c. c.target) Fine (λ x. x < 4294967296) (λ c f. let h = (call_known c f).1 in omega arith) (calls s) (calls_fine s)),
        (
          all_words (flat_map (λ c. c.listed) (calls s)) (over_listed (calls s) (calls_fine s)),
          (
            all_words (block (replaced (drawn s)) ∷ []) (let h = block_low (replaced (drawn s)) (omega (arith, replaced_low (drawn s))) in omega arith, tt),
            (
              all_words (copy ∷ []) (omega arith, tt),
              (
                all_words (noted s) (All-map (λ e k. omega arith) (noted s) (all_noted s)),
                (
                  computed_words (along (λ n. n) 1 8) tree_words.2,
                  tt,
                ),
              ),
            ),
          ),
        ),
      ),
    ),
  )

-- ── Lines 2 to 7 ────────────────────────────────────────────────────────────────────────────────────────────

some_notes : (es : List ℕ) (k n : ℕ) → 1 ≤ k → All (λ e. e < 769) es → any (wrong_note T) (zip es (along (λ n. n) k n)) ≡ false
unfolding any wrong_note along List.zip
some_notes [] k n h l = refl
some_notes (e ∷ es) k zero h l = refl
some_notes (e ∷ es) k (suc n) h l =
    rw (lt-leb (length T) e (omega (arith, many, l.0)), ne_eqb k 0 (λ z. omega arith), some_notes es (suc k) n (omega arith) l.1) refl

mapping_fine : (x : ℕ) → x < 128 → any (wrong_mapping T) ((block x, copy) ∷ []) ≡ false
unfolding any wrong_mapping
mapping_fine x h =
    rw (lt-leb (length T) (block x) (omega (arith, many, block_low x h)), (group_told x h).node, lt-leb (length T) copy (omega (arith, many)), copied.0, copied.1) refl

-- what is accepted of the load of a starting number
unfoldable pub taken : ℕ → Accepted
taken s = record {
  trees = load_trees;
  table = T;
  calls = calls s;
  mappings = (block (replaced (drawn s)), copy) ∷ [];
  notes = zip (noted s) (along (λ n. n) 1 8);
}

module _ (s : ℕ) where
  calls_read : Refusals.calls (zip (laid_batch (load s)).calls (laid_batch (load s)).targets) (laid_batch (load s)).listed ≡ some (calls s)
  unfolding batch_of arrays_of load
  calls_read = calls_again (calls s) (calls_fine s)

  pairs : (zip (laid_batch (load s)).inputs (laid_batch (load s)).outputs ≡ (block (replaced (drawn s)), copy) ∷ []) × (zip (laid_batch (load s)).noted (laid_batch (load s)).numbers ≡ zip (noted s) (along (λ n. n) 1 8))
  unfolding batch_of arrays_of load List.zip
  pairs = (refl, refl)

  -- EVERY LOAD PASSES LINES 2 TO 7, 16 among them.
  pub load_accepted : accepted (laid_out (load s)) ≡ gives (taken s)
  unfolding accepted ◌>>=◌ or_refuse refuse taken T
  load_accepted =
      rw (
        batch_laid (load s) (layable s) (worded s) (within s),
        spells s,
        calls_read,
        passes_none (wrong_call T) (calls s) (All-map (λ c f. f.right) (calls s) (calls_fine s)),
        passes_none lists_too_many (calls s) (All-map (λ c f. call_few c f) (calls s) (calls_fine s)),
        pairs.0,
        pairs.1,
        mapping_fine (replaced (drawn s)) (omega (arith, replaced_low (drawn s))),
        some_notes (noted s) 1 8 (omega arith) (all_noted s),
      )
      refl

  -- "The writer lays it out": never 14.
  pub load_right : wrong_lists (load s) ≡ false
  unfolding is_refused
  load_right = lists_right (load s) (layable s) (within s) (rw load_accepted refl)

  -- how long it is: 8,632 bytes at most
  pub load_length : (length (laid_out (load s)) ≡ 7864 + 4 * length (load s).listed) × (length (laid_out (load s)) ≤ 8632)
  load_length =
      let e = laid_length (load s) (layable s) ∙ sizes_said s in
      (e, omega (arith, e, listed_said s))

  -- where there is room the writer gives its bytes
  pub load_written : (room : ℕ) → length (laid_out (load s)) ≤ room → write (load s) room ≡ gives (laid_out (load s))
  unfolding write ◌>>=◌ refuse
  load_written room h = rw (load_right, le-ltb room (length (laid_out (load s))) h) refl

  -- "15 included": where there is not
  pub load_short : (room : ℕ) → room < length (laid_out (load s)) → write (load s) room ≡ refused 15
  unfolding write ◌>>=◌ refuse
  load_short room h = rw (load_right, lt-ltb room (length (laid_out (load s))) h) refl
