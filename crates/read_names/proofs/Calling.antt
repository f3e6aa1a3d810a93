-- Lines 6 and 16: each answer, from the tests that led there.
-- Assumes nothing.
use mathlib.Core.Path.{◌≡◌, refl, sym, ap, ◌∙◌}
use mathlib.Core.Bool.{Bool, true, false, not, ◌&&◌, ◌||◌, or-true, not-not}
use mathlib.Core.List.{List, [], ◌∷◌, head_d, zip}
use mathlib.Core.Logic.{inl, inr}
use Prim.Native.Nat.{ℕ, ◌+◌, ◌-◌, ◌*◌, ◌≤◌, ◌<◌}
use native.Mathlib.Omega.{arith}
use lib.ListN.{take, drop, length, get_or, length-drop}
use lib.Seq.{drop-drop}
use lib.Dec.{leb, ltb, eqb}
use borrow.Author.Tests.{ltb-false, leb-false, le-leb, lt-leb, lt-ltb, le-ltb, eq-eqb, ne_eqb, not-true, not-false}
use Rattle.orders.specs.Lists.{All}
use Rattle.orders.specs.ListLaws.{lt_or_le, All-map}
use Rattle.definition.specs.Basics.{any}
use Rattle.definition.specs.Refusals.{operation_of, count_of, rule_of, call_of, wrong_count, ruled_start, most_listed, too_many, wrong_call}
use Rattle.words.specs.List.{words_of, length_of}
use Rattle.words.specs.declared.list.WordList.{WordList}
use Rattle.definition.specs.Elements.{Table}
use Rattle.read_element_table.specs.View.{view}
use Rattle.read_element_table.specs.Told.{length_view}
use Rattle.read_calls.specs.Fits.{word_fits, call_fits, judged}
use Rattle.read_calls.proofs.Own.{own_taken}
use Rattle.definition_laws.specs.Right.{neither, none_passes}
use Rattle.read_names.specs.Called.{calls_fit, word_too_many, fit_end, fit_more}
use Rattle.words.specs.List.{length_of}
use Rattle.read_names.proofs.Passing.{pairs_from, pairs_all, pairs_none, pairs_more}

-- ── One call ────────────────────────────────────────────────────────────────────────────────────────────────

all_below : (n : ℕ) (l : List ℕ) → any (leb n) l ≡ false → All (λ e. e < n) l
all_below n l q = All-map (λ e. leb-false n e) l (none_passes (leb n) l q)

head_below : (n : ℕ) (l : List ℕ) → 0 < n → All (λ e. e < n) l → head_d l 0 < n
unfolding head_d
head_below n [] p h = p
head_below n (e ∷ l) p h = h.0

pub known_operation : (op k rule : ℕ) (t : Bool) → t ≡ word_fits op k rule → t ≡ true → op ≤ 6
unfolding word_fits
known_operation op k rule t g q =
    let (known, _) = neither (ltb 6 op || wrong_count op k) (ruled_start op rule) (not-true _ (sym g ∙ q)) in
    ltb-false 6 op (neither (ltb 6 op) (wrong_count op k) known).0

pub first_below : (n x y : ℕ) (l : List ℕ) (u : Bool) → x < n → u ≡ not (any (leb n) l) → u ≡ true → y ≡ head_d l 0 → y < n
first_below n x y l u h g q d = rw d (head_below n l (omega arith) (all_below n l (not-true _ (sym g ∙ q))))

module _ (n : ℕ) (w r : List ℕ) (word x : ℕ) (l : WordList) (e : l.count ≡ count_of word) where
  module _ (op : ℕ) (f : op ≡ operation_of word) (rule : ℕ) (i : rule ≡ rule_of word) (t : Bool) (g : t ≡ word_fits op l.count rule) where
    pub wrong_word : t ≡ false → false ≡ not (wrong_call (view n w r) (call_of word x (words_of l)))
    unfolding wrong_call word_fits
    wrong_word q =
        rw (length_of l, ← f, ← i)
        (one_wrong (ltb 6 op) (wrong_count op l.count) _ _ (ruled_start op rule) (not-false (ltb 6 op || wrong_count op l.count || ruled_start op rule) (sym g ∙ q)))
      where
        one_wrong : (a b c d e : Bool) → (a || b || e) ≡ true → false ≡ not (a || b || c || d || e)
        one_wrong true b c d e h = refl
        one_wrong false true c d e h = refl
        one_wrong false false c d e h = rw (h, or-true (c || d))

  pub wrong_target : n ≤ x → false ≡ not (wrong_call (view n w r) (call_of word x (words_of l)))
  unfolding wrong_call any
  wrong_target h = rw (length_view n w r, le-leb n x h, or-true)

  module _ (u : Bool) (g : u ≡ not (any (leb n) (words_of l))) where
    pub wrong_listed : u ≡ false → false ≡ not (wrong_call (view n w r) (call_of word x (words_of l)))
    unfolding wrong_call any
    wrong_listed q =
        let h : any (leb (length (view n w r))) (words_of l) ≡ true = ap (λ z. any (leb z) (words_of l)) (length_view n w r) ∙ not-false (any (leb n) (words_of l)) (sym g ∙ q) in
        rw (h, or-true, or-true)

    pub call_judged : (op : ℕ) → op ≡ operation_of word → (rule : ℕ) → rule ≡ rule_of word → (t : Bool) → t ≡ word_fits op l.count rule → t ≡ true → x < n → u ≡ true → (y : ℕ) → y ≡ head_d (words_of l) 0 → (v : Bool) → v ≡ call_fits (view n w r) op x y
        → v ≡ not (wrong_call (view n w r) (call_of word x (words_of l)))
    call_judged op f rule i t a b h q y d v z =
        let s = all_below n (words_of l) (not-true _ (sym g ∙ q)) in
        let j = judged n w r (call_of word x (words_of l)) (h, s) in
        rw (j, ← f, ← i, ← d, length_of l, ← a, b) (z ∙ sym (not-not _))

-- ── How many it lists ───────────────────────────────────────────────────────────────────────────────────────

module _ (word op k : ℕ) (f : op ≡ operation_of word) (e : k ≡ count_of word) where
  pub run_few : op ≡ 5 → leb k (most_listed + 1) ≡ not (word_too_many word)
  unfolding word_too_many too_many
  run_few h = rw (← f, ← e, h) (elim (lt_or_le (most_listed + 1) k) [ inl q ↦ rw (lt-leb k (most_listed + 1) q, lt-ltb most_listed (k - 1) (omega arith)) | inr q ↦ rw (le-leb k (most_listed + 1) q, le-ltb most_listed (k - 1) (omega arith)) ])

  pub others_few : (op ≡ 5 → ⊥) → leb k most_listed ≡ not (word_too_many word)
  unfolding word_too_many too_many
  others_few h = rw (← f, ← e, ne_eqb op 5 h) (elim (lt_or_le most_listed k) [ inl q ↦ rw (lt-leb k most_listed q, lt-ltb most_listed k q) | inr q ↦ rw (le-leb k most_listed q, le-ltb most_listed k q) ])

-- ── All calls ───────────────────────────────────────────────────────────────────────────────────────────────

module _ (T : Table) (calls targets listed : WordList) where
  -- line 6 of all calls
  abbrev pub judged_all : Bool
  judged_all = calls_fit T (zip (words_of calls) (words_of targets)) (words_of listed)

  -- i calls are passed, and have taken so many of the listed elements
  pub record Calling (taken i : ℕ) : Type 0 where
    pub few : taken ≤ listed.count
    pub verdict : judged_all ≡ calls_fit T (pairs_from calls targets i) (drop taken (words_of listed))

  pub calling_start : Calling 0 0
  calling_start = record { few = omega arith; verdict = rw pairs_all }

module _ {T : Table} {calls targets listed : WordList} {taken i : ℕ} (v : Calling T calls targets listed taken i) where
  abbrev rest : List ℕ
  rest = drop taken (words_of listed)

  length_rest : length rest ≡ listed.count - taken
  length_rest = length-drop taken (words_of listed) ∙ ap (λ n. n - taken) (length_of listed)

  -- no call is left
  pub calling_end : calls.count ≤ i → eqb taken listed.count ≡ judged_all T calls targets listed
  calling_end h =
      sym (v.verdict ∙ rw (pairs_none calls targets i h, fit_end T rest, length_rest) (left listed.count taken v.few))
    where
      left : (l t : ℕ) → t ≤ l → eqb (l - t) 0 ≡ eqb t l
      left l t h = elim (lt_or_le t l) [ inl k ↦ rw (ne_eqb (l - t) 0 (λ e. omega arith), ne_eqb t l (λ e. omega arith)) | inr k ↦ rw (eq-eqb (l - t) 0 (omega arith), eq-eqb t l (omega arith)) ]

  module _ (h : i < calls.count) (j : targets.count ≡ calls.count) {w x k : ℕ} (ew : w ≡ get_or (words_of calls) i 0) (ex : x ≡ get_or (words_of targets) i 0) (ek : k ≡ count_of w) where
    turn : judged_all T calls targets listed
        ≡ (leb k (listed.count - taken) && (not (wrong_call T (call_of w x (take k rest))) && calls_fit T (pairs_from calls targets (i + 1)) (drop k rest)))
    turn = v.verdict ∙ rw (pairs_more calls targets i h j, ← ew, ← ex, fit_more T w x, length_rest, ← ek)

    -- it lists more elements than there are
    pub calling_short : listed.count - taken < k → false ≡ judged_all T calls targets listed
    calling_short s = sym (turn ∙ rw (lt-leb k (listed.count - taken) s))

    -- its own elements
    module _ (o : WordList) (eo : (o.bytes.now ≡ listed.bytes.now) × (o.at ≡ listed.at + 4 * taken) × (o.count ≡ k)) {t : Bool} (s : k ≤ listed.count - taken) (et : t ≡ not (wrong_call T (call_of w x (words_of o)))) where
      next : judged_all T calls targets listed ≡ (t && calls_fit T (pairs_from calls targets (i + 1)) (drop (taken + k) (words_of listed)))
      next = turn ∙ rw (le-leb k (listed.count - taken) s, own_taken listed o taken k eo (omega (arith, v.few)), ← et, drop-drop k taken (words_of listed))

      -- it does not stand as it should
      pub calling_wrong : t ≡ false → false ≡ judged_all T calls targets listed
      calling_wrong q = sym (next ∙ rw q)

      -- it does
      pub calling_next : t ≡ true → Calling T calls targets listed (taken + k) (i + 1)
      calling_next q = record { few = omega (arith, v.few); verdict = next ∙ rw q }
