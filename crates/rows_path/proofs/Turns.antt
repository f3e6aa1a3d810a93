-- The loops: for each its invariant, that it holds at the start, after a turn, and what it says at the end.
-- Assumes nothing.
use mathlib.Core.Path.{◌≡◌, refl, sym, ap, ◌∙◌}
use mathlib.Core.Bool.{cond}
use mathlib.Core.List.{List, [], ◌∷◌}
use mathlib.Core.Option.{Option, none, some, bind}
use Prim.Native.Nat.{ℕ, suc, ◌+◌, ◌-◌, ◌*◌, ◌/◌, ◌^◌, ◌≤◌, ◌<◌}
use Rattle.std.specs.Prelude.{Option as Answer, None}
use native.Mathlib.Omega.{arith}
use native.Mathlib.Numerals.{add-one}
use lib.Dec.{ltb}
use lib.ListN.{length, get_elem?, get_or, take, drop, drop_of_length-le}
use lib.Seq.{drop-cons, take_all}
use Rattle.std.proofs.Common.{take-append-drop}
use borrow.Author.Tests.{lt-ltb, le-ltb}
use Rattle.orders.specs.ListLaws.{get_none}
use Rattle.rows_model.specs.Row.{Row, tok, nod, outside, owes, text_length, row_in, first_rows, triples, bytes}
use Rattle.rows_model.specs.Place.{child_row, follow}
use Rattle.rows_model.proofs.RowLaws.{bytes_append}
use Rattle.rows_model.proofs.Words.{first_at, first_get, length_first, length_triples, triples_take}
use Rattle.rows_syntax_node.specs.Promises.{Counted, Measured}
use Rattle.rows_syntax_node.proofs.Turns.{Owing, owing_start, owing_next, owing_out, owing_done, child_found}
use Rattle.rows_path.specs.Promises.{Passes, resolved, at_row, Resolves}
use Rattle.rows_path.proofs.Promises.{resolves}
use Rattle.rows_path.specs.declared.Passed.{Passed}
use Rattle.rows_path.specs.declared.Resolved.{Resolved}

-- ── The next trees ──────────────────────────────────────────────────────────────────────────────────────────

-- the text up to a row, and with that row
parted : (rs : List Row) (i : ℕ) → bytes rs ≡ bytes (take i rs) + bytes (drop i rs)
parted rs i = ap bytes (sym (take-append-drop i rs)) ∙ bytes_append (take i rs) (drop i rs)

bytes_next : (rs : List Row) (i : ℕ) (r : Row) → drop i rs ≡ r ∷ drop (suc i) rs → bytes (take (suc i) rs) ≡ bytes (take i rs) + text_length r
bytes_next rs i r e = omega (arith, parted rs i, parted rs (suc i), ap bytes e)

-- o elements are owed at row i, before which so much more text stands than before row `at`
pub record Passing (rows : List ℕ) (n at owed o sum i : ℕ) : Type 0 where
  pub owing : Owing rows n at owed i o
  pub text : (text : List ℕ) → bytes (take i (first_rows text n rows)) ≡ bytes (take at (first_rows text n rows)) + sum
  pub small : sum ≤ 2 ^ 32 * (i - at)

pub passing_start : (rows : List ℕ) (n at owed : ℕ) → at ≤ n → owed < 2 ^ 32 → Passing rows n at owed owed 0 at
passing_start rows n at owed h k = record { owing = owing_start rows n at owed h k; text = λ text. omega arith; small = omega arith }

module _ {rows : List ℕ} {n at owed o sum i : ℕ} (v : Passing rows n at owed o sum i) (long : 3 * n ≤ length rows) where
  pub passing_next : {m r : ℕ} → i < n → (o ≡ 0 → ⊥) → Counted rows i m → Measured rows i r → Passing rows n at owed (o - 1 + m) (sum + r) (i + 1)
  passing_next {m} {r} h k c d =
      record {
        owing = owing_next v.owing long h k c;
        text = λ text. rw (add-one i) (omega (arith, v.text text, bytes_next (first_rows text n rows) i (row_in text rows i) (first_at text n rows long i h), d.own text));
        small = omega (arith, v.small, v.owing.low, d.small);
      }

  -- where no row is left, or nothing is owed
  pub passing_out : n ≤ i → Passes rows n at owed (record { row = n; text = sum })
  passing_out h =
      let e : i ≡ n = omega (arith, v.owing.high) in
      record { after = owing_out v.owing long h; text = rw e at v.text; small = rw e at v.small }

  pub passing_done : o ≡ 0 → Passes rows n at owed (record { row = i; text = sum })
  passing_done z = record { after = owing_done v.owing long z; text = v.text; small = v.small }

-- ── The way down ────────────────────────────────────────────────────────────────────────────────────────────

-- the first j steps of the path lead to row `at` of n, which are all, and `start` is the text before it
pub record Following (tree : List ℕ) (n : ℕ) (path : List ℕ) (at start j : ℕ) : Type 0 where
  pub all : n ≡ length tree / 3
  pub inside : j ≤ length path
  pub bound : at ≤ n
  pub rest : (text : List ℕ) → follow (first_rows text n tree) 0 path ≡ follow (first_rows text n tree) at (drop j path)
  pub before : (text : List ℕ) → start ≡ bytes (take at (first_rows text n tree))
  pub small : start ≤ 2 ^ 32 * at

-- the rows of a tree are all that its words tell
whole : (text tree : List ℕ) (n : ℕ) → n ≡ length tree / 3 → first_rows text n tree ≡ triples text tree
whole text tree n e = triples_take text n tree ∙ take_all n (triples text tree) (omega (arith, length_triples text tree))

-- a row that owes children has no text of its own
no_text : (r : Row) → 0 < owes r → text_length r ≡ 0
no_text (tok k x) h = absurd (omega arith)
no_text (nod k m) h = refl
no_text (outside k m) h = absurd (omega arith)

module _ {tree : List ℕ} {n : ℕ} {path : List ℕ} {at start j : ℕ} (v : Following tree n path at start j) where
  long : 3 * n ≤ length tree
  long = omega (arith, v.all)

  -- what the path leads to, told of all rows
  answer : {r : Answer Resolved} (o : List ℕ → Option ℕ) → ((text : List ℕ) → follow (first_rows text n tree) at (drop j path) ≡ o text) → ((text : List ℕ) → r ≡ resolved (triples text tree) (o text)) → Resolves tree path r
  answer o f e = resolves (λ text. e text ∙ ap (resolved (triples text tree)) (sym (ap (λ rs. follow rs 0 path) (sym (whole text tree n v.all)) ∙ (v.rest text ∙ f text))))

  -- beyond the rows
  pub following_out : n ≤ at → Resolves tree path None
  unfolding resolved follow bind
  following_out k = answer (λ text. none) (λ text. go text (drop j path)) (λ text. refl)
    where
      none_there : (text : List ℕ) → get_elem? (first_rows text n tree) at ≡ none
      none_there text = get_none (first_rows text n tree) at (omega (arith, length_first text n tree long))

      go : (text p : List ℕ) → follow (first_rows text n tree) at p ≡ none
      go text [] = rw (none_there text)
      go text (i ∷ p) = rw (none_there text)

  module _ {i m : ℕ} (k : at < n) (l : j < length path) (e : (i ≡ get_or path j 0) × (i < 2 ^ 32)) (c : Counted tree at m) where
    -- one step
    step : (text : List ℕ) → follow (first_rows text n tree) at (drop j path) ≡ cond (ltb i m) (follow (first_rows text n tree) (child_row (first_rows text n tree) at i) (drop (suc j) path)) none
    unfolding follow bind
    step text = rw (drop-cons path j 0 l, ← e.0, first_get text n tree long at k, ← c.count text)

    pub following_none : m ≤ i → Resolves tree path None
    unfolding resolved
    following_none g = answer (λ text. none) (λ text. step text ∙ rw (le-ltb i m g)) (λ text. refl)

    pub following_next : {p : Passed} → i < m → Passes tree n (at + 1) i p → Following tree n path p.row (start + p.text) (j + 1)
    following_next {p} g d =
        let f = child_found d.after in
        record {
          all = v.all;
          inside = omega arith;
          bound = f.high;
          rest = λ text. rw (add-one j) (v.rest text ∙ (step text ∙ rw (lt-ltb i m g, ← f.row text)));
          before = λ text.
              let here : bytes (take (suc at) (first_rows text n tree)) ≡ bytes (take at (first_rows text n tree)) + text_length (row_in text tree at) = bytes_next (first_rows text n tree) at (row_in text tree at) (first_at text n tree long at k) in
              let none_own : text_length (row_in text tree at) ≡ 0 = no_text (row_in text tree at) (omega (arith, c.count text)) in
              let below : bytes (take p.row (first_rows text n tree)) ≡ bytes (take (suc at) (first_rows text n tree)) + p.text = rw (add-one at) at (d.text text) in
              omega (arith, v.before text, here, none_own, below);
          small = omega (arith, v.small, d.small, f.low);
        }

  -- all steps are done
  pub following_done : length path ≤ j → at < n → Resolves tree path (at_row at start)
  unfolding resolved follow
  following_done k l = answer (λ text. some at) (λ text. rw (drop_of_length-le path {i = j} k, first_get text n tree long at l)) (λ text. ap (at_row at) (v.before text ∙ ap (λ rs. bytes (take at rs)) (whole text tree n v.all)))
