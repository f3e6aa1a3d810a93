-- What each way out and each turn of a loop knows.
-- Assumes nothing.
use mathlib.Core.Path.{◌≡◌, refl, sym, ap, ◌∙◌}
use mathlib.Core.Bool.{Bool, true, false}
use mathlib.Core.List.{List, ◌∷◌}
use Prim.Native.Nat.{ℕ, suc, ◌+◌, ◌-◌, ◌*◌, ◌^◌, ◌≤◌, ◌<◌}
use native.Mathlib.Omega.{arith}
use native.Mathlib.Nat.{zero-add}
use native.Mathlib.Numerals.{add-one}
use lib.Dec.{leb, ltb}
use lib.ListN.{length, get_or}
use borrow.Author.Tests.{leb-true, ltb-true, lt-ltb, le-leb}
use Rattle.orders.specs.Lists.{All, total}
use Rattle.orders.specs.ListLaws.{both_true, bool_absurd}
use Rattle.orders.specs.Tree.{Tree, node, list, Run}
use Rattle.orders.specs.Splices.{Splice, State}
use Rattle.rows_syntax_node.specs.Promises.{TreesIn, After, ChildAt}
use Rattle.rows_syntax_node.specs.Rising.{Rising}
use Rattle.rows_model.specs.Place.{place}
use Rattle.rows_model.proofs.RowLaws.{children_few}
use Rattle.rows_model.proofs.PlaceLaws.{place_bound}
use Rattle.rows_model.proofs.Words.{node_at, rows_many}
use Rattle.run_splice.specs.Promises.{SplicedMarks}
use Rattle.splices_model.specs.Cuts.{part_at, left_cut, start_cut, cut_at, cuts_to, Holds, Told}
use Rattle.splices_model.specs.Bounds.{Bounded, BoundedTo, part_long}
use Rattle.splices_model.specs.Step.{Due, parent_row, lost_trees, step_holds}
use Rattle.splices_step.specs.declared.Gap.{Gap}
use Rattle.splices_step.specs.Promises.{left_run, left_at, TreesOf, Deletes, Shifted, Started, GapAt, takes_by, Stepped}

-- what `word` tells
abbrev Read : ℕ → ℕ → Type 0
Read x y = (x ≡ y) × (x < 2 ^ 32)

-- ── The prepared rows ───────────────────────────────────────────────────────────────────────────────────────

pub part_trees : (s p : List ℕ) (j : ℕ) {run : List ℕ} {r : ℕ} → 3 * get_or s (6 * j + 4) 0 + 3 * get_or s (6 * j + 5) 0 ≤ length p → length p < 3 * 2 ^ 16 → run ≡ part_at s p j → TreesIn run r → TreesOf s p j r
part_trees s p j w l e t =
    let u : TreesIn (part_at s p j) _ = rw e at t in
    record { count = λ text. u.count text; few = omega (arith, u.few, part_long s p j w) }

-- ── What is done to the left ────────────────────────────────────────────────────────────────────────────────

left_cuts : (text s p : List ℕ) (i j : ℕ) → left_cut (cut_at text s p i) (cut_at text s p j) ≡ left_at s i j
unfolding left_cut cut_at left_at left_run
left_cuts text s p i j = refl

-- the first j splices are summed
pub record Summing (s p : List ℕ) (i j gained lost : ℕ) : Type 0 where
  pub inside : j ≤ i
  pub sums : Shifted s p i j gained lost

pub summing_start : (s p : List ℕ) (i : ℕ) → Summing s p i 0 0 0
unfolding cuts_to total
summing_start s p i = record { inside = omega arith; sums = record { comes = λ text. refl; goes = λ text. refl; few = omega arith; fewer = omega arith } }

pub summing_done : {s p : List ℕ} {i j gained lost : ℕ} → Summing s p i j gained lost → i ≤ j → Shifted s p i i gained lost
summing_done {s} {p} {i} {j} {gained} {lost} v h =
    let e : j ≡ i = omega (arith, v.inside) in
    rw e at v.sums

module _ {e : ℕ} {s p : List ℕ} {i : ℕ} (bounds : BoundedTo e s p i) where
  module _ {j : ℕ} (h : j < i) where
    pub inside_one : 6 * j + 5 < length s
    inside_one = (bounds.each j h).inside

    pub ordered_one : get_or s (6 * j + 2) 0 ≤ get_or s (6 * j + 3) 0
    ordered_one = (bounds.each j h).ordered

    pub part_one : 3 * get_or s (6 * j + 4) 0 + 3 * get_or s (6 * j + 5) 0 ≤ length p
    part_one = (bounds.each j h).part

module _ {s p : List ℕ} {i j gained lost : ℕ} (v : Summing s p i j gained lost) (h : j < i) {b : Bool} (l : b ≡ left_at s i j) where
  pub summing_other : b ≡ false → Summing s p i (j + 1) gained lost
  unfolding cuts_to total
  summing_other z = rw (add-one j) (record {
    inside = omega arith;
    sums = record {
      comes = λ text. v.sums.comes text ∙ rw (left_cuts text s p i j, ← l, z) (sym (zero-add _));
      goes = λ text. v.sums.goes text ∙ rw (left_cuts text s p i j, ← l, z) (sym (zero-add _));
      few = omega (arith, v.sums.few);
      fewer = omega (arith, v.sums.fewer);
    };
  })

  pub summing_left : {g d : ℕ} → b ≡ true → TreesOf s p j g → Deletes s j d → Summing s p i (j + 1) (gained + g) (lost + d)
  unfolding cuts_to total cut_at
  summing_left {g} {d} z t q = rw (add-one j) (record {
    inside = omega arith;
    sums = record {
      comes = λ text. rw (left_cuts text s p i j, ← l, z) (omega (arith, v.sums.comes text, t.count text));
      goes = λ text. rw (left_cuts text s p i j, ← l, z) (omega (arith, v.sums.goes text, q.count));
      few = omega (arith, v.sums.few, t.few);
      fewer = omega (arith, v.sums.fewer, q.small);
    };
  })

-- ── Where a splice goes ─────────────────────────────────────────────────────────────────────────────────────

module _ {s p : List ℕ} {i gained lost from : ℕ} (v : Shifted s p i i gained lost) (f : Read from (get_or s (6 * i + 2) 0)) where
  start_told : (text : List ℕ) → from + gained - lost ≡ start_cut (cuts_to text s p i) (cut_at text s p i)
  unfolding start_cut cut_at
  start_told text = unfold cut_at in (rw (v.comes text, v.goes text, f.0) refl)

  pub started : {e x : ℕ} → Bounded e s p i → e < 2 ^ 16 → i < 2 ^ 15 → x ≡ from + gained - lost → Started s p i x
  started h k l z = rw z (record { start = start_told; small = omega (arith, v.few, f.0, h.ordered, h.within) })

pub gap_told : {rows : List ℕ} {n : ℕ} {marks s p : List ℕ} {i parent start lost from to gained : ℕ} → parent ≡ get_or marks (get_or s (6 * i + 1) 0) 0 → parent < n → Started s p i start → Deletes s i lost
    → ChildAt rows n parent start from → After rows n from lost to → TreesOf s p i gained → GapAt rows n marks s p i (record { parent = parent; from = from; to = to; lost = lost; gain = gained })
gap_told u b st d c a t = record {
  sited = record {
    under = u;
    first = λ text. c.row text ∙ rw (st.start text);
    goes = d.count;
    behind = λ text. a.row text;
    comes = λ text. t.count text;
  };
  below = b;
  low = c.low;
  order = a.low;
  high = a.high;
  few = t.few;
}

-- ── One splice ──────────────────────────────────────────────────────────────────────────────────────────────

module _ (rows : List ℕ) (parent lost gained : ℕ) (e : takes_by rows parent lost gained ≡ true) where
  taken : (leb 2147483648 (get_or rows (3 * parent) 0) ≡ true) × (leb lost (get_or rows (3 * parent + 1) 0) ≡ true) × (ltb (get_or rows (3 * parent + 1) 0 + gained) (2 ^ 32) ≡ true)
  unfolding takes_by
  taken = let x = both_true _ _ e in let y = both_true _ _ x.1 in (x.0, y.0, y.1)

  pub takes_node : 2147483648 ≤ get_or rows (3 * parent) 0
  takes_node = leb-true _ _ taken.0

  pub takes_lost : lost ≤ get_or rows (3 * parent + 1) 0
  takes_lost = leb-true _ _ taken.1

  pub takes_gained : get_or rows (3 * parent + 1) 0 + gained < 2 ^ 32
  takes_gained = ltb-true _ _ taken.2

module _ (s p : List ℕ) (i : ℕ) {run : List ℕ} (bound : 3 * get_or s (6 * i + 4) 0 + 3 * get_or s (6 * i + 5) 0 ≤ length p) (e : run ≡ part_at s p i) where
  pub run_long : length run ≡ 3 * get_or s (6 * i + 5) 0
  run_long = ap length e ∙ part_long s p i bound

  -- the run is spliced in
  pub stepped : {rows : List ℕ} {n : ℕ} {marks : List ℕ} {g : Gap} {out marked : List ℕ} {r : ℕ} → GapAt rows n marks s p i g → SplicedMarks rows n marks g.parent g.from g.to g.lost run g.gain out marked r → Stepped rows n marks s p i out marked r
  stepped {rows} {n} {marks} {g} {out} {marked} {r} w x =
      let y : SplicedMarks rows n marks g.parent g.from g.to g.lost (part_at s p i) g.gain out marked r = rw e at x in
      record {
        step = λ text old now z run d t f. step_holds d w.sited z run f t (y.told text) y.moved;
        few = omega (arith, y.count, part_long s p i bound);
        beyond = y.beyond;
        below = y.below;
        risen = y.risen;
      }

-- ── A splice that cannot be done ────────────────────────────────────────────────────────────────────────────

module _ (rows : List ℕ) (n : ℕ) (marks s p : List ℕ) (i : ℕ) (g : Gap) (w : GapAt rows n marks s p i g) (long : 3 * n + 3 * get_or s (6 * i + 5) 0 ≤ length rows) (small : n < 2 ^ 16) where
  -- where the rows are those of a state, and the splice has a run there, its parent takes it
  takes_always : (text : List ℕ) (old : Tree ℕ) (now : State ℕ) (z : Splice ℕ) (run : Run) → Holds text old now rows n marks → Told text old s p (suc i) (z ∷ now.done) → Due now z run
      → takes_by rows g.parent g.lost g.gain ≡ true
  unfolding takes_by
  takes_always text old now z run d t f =
      let l : 3 * n ≤ length rows = omega arith in
      let e = parent_row d w.sited z run f t in
      let v = node_at text n rows now.tree l d.tree run.parent f.has.kind f.has.children f.has.found in
      let few : length (list f.has.children) < 2 ^ 16 = omega (arith, children_few f.has.children, place_bound run.parent now.tree (node f.has.kind f.has.children) f.has.found, rows_many text n rows now.tree l d.tree) in
      let m : ℕ = get_or rows (3 * place run.parent now.tree + 1) 0 in
      rw (e, le-leb 2147483648 (get_or rows (3 * place run.parent now.tree) 0) v.0, le-leb g.lost m (omega (arith, lost_trees d w.sited z run f t, v.2, f.has.within))) (lt-ltb (m + g.gain) (2 ^ 32) (omega (arith, v.2, w.few)))

  pub unstepped : {b : Bool} → b ≡ takes_by rows g.parent g.lost g.gain → b ≡ false → All (λ m. m < n) marks → Rising marks → Stepped rows n marks s p i rows marks n
  unstepped e q a x = record {
    step = λ text old now z run d t f. bool_absurd (takes_always text old now z run d t f) (sym e ∙ q);
    few = omega arith;
    beyond = refl;
    below = a;
    risen = x;
  }
