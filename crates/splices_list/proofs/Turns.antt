-- What each way out and each turn of a loop knows.
-- Assumes nothing.
use Rattle.std.specs.Prelude.{Result, Ok, Err}
use mathlib.Core.Path.{◌≡◌, refl, sym, ap, ◌∙◌}
use mathlib.Core.List.{List, [], ◌∷◌}
use Prim.Native.Nat.{ℕ, zero, suc, ◌+◌, ◌*◌, ◌/◌, ◌^◌, ◌≤◌, ◌<◌, ◌-◌}
use native.Mathlib.Omega.{arith}
use native.Mathlib.Numerals.{add-one}
use lib.ListN.{length, get_or, set, length-set, take, drop, replicate}
use lib.Seq.{drop-drop, length-take-le}
use borrow.Rule.Slice.PartMut.{mid_of, post_of, put_mid, mid_len, Post-is}
use Rattle.orders.specs.Lists.{All}
use Rattle.orders.specs.Tree.{Tree}
use Rattle.orders.specs.Splices.{Splice, begin, one_go, AllApart}
use Rattle.rows_syntax_node.specs.Rising.{Rising, up_rising}
use Rattle.rows_model.specs.Row.{rows_of}
use Rattle.rows_model.specs.Place.{size}
use Rattle.rows_model.proofs.Words.{rows_many}
use Rattle.definition.specs.Basics.{Answer, gives}
use Rattle.splices_model.specs.Refusals.{number, refusal_in}
use Rattle.splices_model.specs.declared.SpliceRefusal.{SpliceRefusal}
use Rattle.splices_model.specs.declared.SpliceRefusal.TheVariants.{OutOfLimits, NoRoom, NoTree, Unfit, NotApart}
use Rattle.splices_model.specs.Cuts.{cuts_to, Holds, Told, state_of}
use Rattle.splices_model.specs.Bounds.{BoundedTo, BoundedAll, rows_to, rows_to_more, rows_to_mono, bounded_to}
use Rattle.splices_model.specs.Orders.{one_more, one_go_rows}
use Rattle.splices_model.specs.Verdict.{judged_bounds}
use Rattle.splices_model.specs.SpliceList.{old_tree, words_of, splices_to, filled, rewritten}
use Rattle.splices_model.specs.Found.{places_below, legible, old_told, list_told, wrong, judged_wrong, answer_wrong, Right, none_right, answer_right}
use Rattle.splices_check.specs.Promises.{Judged}
use Rattle.definition_laws.specs.Basics.{up_from, up_long}
use Rattle.splices_model.specs.Step.{begin_holds}
use Rattle.splices_step.specs.Promises.{Stepped}
use Rattle.splices_list.specs.Plain.{plain_word, plain, plain_next, plain_long, plain_beyond, plain_words, rows_inside}
use Rattle.splices_list.specs.Promises.{Listed, Good, ListedAll, Tidied, outcome_of, rows_left, marks_left, Spliced}

-- ── A list ──────────────────────────────────────────────────────────────────────────────────────────────────

-- what is the same from a on is so from further on
drop_more : (a b : ℕ) (x y : List ℕ) → a ≤ b → drop a x ≡ drop a y → drop b x ≡ drop b y
drop_more a b x y h e =
    let q : a + (b - a) ≡ b = omega arith in
    rw (← q, ← drop-drop (b - a) a x, ← drop-drop (b - a) a y, e)

-- the first k splices are done
pub record Going (rows₀ : List ℕ) (n₀ : ℕ) (marks₀ splices prepared : List ℕ) (c : ℕ) (rows : List ℕ) (n : ℕ) (marks : List ℕ) (k : ℕ) : Type 0 where
  pub inside : k ≤ c
  pub long : length rows ≡ length rows₀
  pub many : length marks ≡ length marks₀
  pub few : n ≤ n₀ + rows_to splices k
  pub beyond : drop (3 * (n₀ + rows_to splices c)) rows ≡ drop (3 * (n₀ + rows_to splices c)) rows₀
  pub below : All (λ x. x < n) marks
  pub risen : Rising marks
  pub law : (text : List ℕ) (old : Tree ℕ) (D : List (Splice ℕ)) → Holds text old (begin old) rows₀ n₀ marks₀ → Told text old splices prepared k D → AllApart old D → Holds text old (state_of old D) rows n marks

none_told : (text : List ℕ) (old : Tree ℕ) (splices prepared : List ℕ) (D : List (Splice ℕ)) → Told text old splices prepared 0 D → state_of old D ≡ begin old
unfolding cuts_to state_of
none_told text old splices prepared [] t = refl
none_told text old splices prepared (s ∷ D) t = let z : ◌≡◌ {A = ℕ} 0 1 = cc t.cuts in absurd (omega arith)

pub going_start : (rows : List ℕ) (n : ℕ) (marks splices prepared : List ℕ) (c : ℕ) → All (λ x. x < n) marks → Rising marks → Going rows n marks splices prepared c rows n marks 0
going_start rows n marks splices prepared c a x = record {
  inside = omega arith;
  long = refl;
  many = refl;
  few = omega arith;
  beyond = refl;
  below = a;
  risen = x;
  law = λ text old D h t w. rw (none_told text old splices prepared D t) h;
}

module _ {rows₀ : List ℕ} {n₀ : ℕ} {marks₀ s p : List ℕ} {c : ℕ} {rows : List ℕ} {n : ℕ} {marks : List ℕ} {k : ℕ} (v : Going rows₀ n₀ marks₀ s p c rows n marks k) where
  pub going_next : {out marked : List ℕ} {r : ℕ} → k < c → length out ≡ length rows → length marked ≡ length marks → Stepped rows n marks s p k out marked r → Going rows₀ n₀ marks₀ s p c out r marked (k + 1)
  going_next {out} {marked} {r} h e f w = rw (add-one k) (record {
    inside = omega arith;
    long = e ∙ v.long;
    many = f ∙ v.many;
    few = omega (arith, v.few, w.few, rows_to_more s k);
    beyond = drop_more (3 * r) (3 * (n₀ + rows_to s c)) out rows (omega (arith, v.few, w.few, rows_to_more s k, rows_to_mono s c (suc k) h)) w.beyond ∙ v.beyond;
    below = w.below;
    risen = w.risen;
    law = λ text old D b t a. one_more text old s p k rows n marks out r marked (λ D' t' a'. v.law text old D' b t' a') (λ now z run d t' f'. w.step text old now z run d t' f') D t a;
  })

  pub going_done : c ≤ k → Listed rows₀ n₀ marks₀ s p c rows marks n
  going_done h = let e : k ≡ c = omega (arith, v.inside) in record { done = λ text old D b t a. v.law text old D b (rw (sym e) at t) a; few = rw e at v.few; beyond = v.beyond }

  module _ (room : 3 * n₀ + 3 * rows_to s c ≤ length rows₀) (h : k < c) where
    pub going_room : 3 * n + 3 * get_or s (6 * k + 5) 0 ≤ length rows
    going_room = omega (arith, v.few, v.long, rows_to_more s k, rows_to_mono s c (suc k) h)

    pub going_small : n₀ + rows_to s c < 2 ^ 16 → n < 2 ^ 16
    going_small l = omega (arith, v.few, rows_to_mono s c (suc k) h, rows_to_more s k)

    pub going_bounds : BoundedAll (length marks₀) s p c → BoundedTo (length marks) s p k
    going_bounds b = rw v.many (bounded_to b h)

-- ── Third words ─────────────────────────────────────────────────────────────────────────────────────────────

-- the first i rows are plain
pub record Plaining (rows : List ℕ) (n : ℕ) (l : List ℕ) (i : ℕ) : Type 0 where
  pub inside : i ≤ n
  pub long : length l ≡ length rows
  pub is : l ≡ plain i rows

pub plaining_start : (rows : List ℕ) (n : ℕ) → Plaining rows n rows 0
unfolding plain
plaining_start rows n = record { inside = omega arith; long = refl; is = refl }

module _ {rows : List ℕ} {n : ℕ} {l : List ℕ} {i : ℕ} (v : Plaining rows n l i) where
  pub plaining_next : {x : ℕ} → 3 * n ≤ length rows → i < n → x ≡ plain_word (get_or l (3 * i) 0) (get_or l (3 * i + 1) 0) (get_or l (3 * i + 2) 0) → Plaining rows n (set l (3 * i + 2) x) (i + 1)
  plaining_next {x} g h e = record {
    inside = omega arith;
    long = simp length-set v.long;
    is = rw (e, v.is, add-one i) (plain_next i rows (omega arith));
  }

  pub plaining_done : n ≤ i → l ≡ plain n rows
  plaining_done h = let e : i ≡ n = omega (arith, v.inside) in rw e at v.is

-- ── From the old tree on ────────────────────────────────────────────────────────────────────────────────────

up_from_below : (a n m : ℕ) → a + n ≤ m → All (λ x. x < m) (up_from a n)
unfolding up_from
up_from_below a zero m h = tt
up_from_below a (suc n) m h = (omega arith, up_from_below (suc a) n m (omega arith))

pub numbered_below : (n : ℕ) {l : List ℕ} → l ≡ up_from 0 n → All (λ x. x < n) l
numbered_below n e = rw e (up_from_below 0 n n (omega arith))

pub numbered_rising : (n : ℕ) {l : List ℕ} → l ≡ up_from 0 n → Rising l
numbered_rising n e = rw e (up_rising 0 n)

pub numbered_few : (n : ℕ) (l : List ℕ) → l ≡ up_from 0 n → n < 2 ^ 16 → length l < 2 ^ 16
numbered_few n l e h = omega (arith, ap length e, up_long 0 n)

pub numbered_bounds : (n : ℕ) (l : List ℕ) {s p : List ℕ} {c : ℕ} → l ≡ up_from 0 n → BoundedAll n s p c → BoundedAll (length l) s p c
numbered_bounds n l e b = let m : length l ≡ n = ap length e ∙ up_long 0 n in rw m b

pub listed_all : {rows marks s p : List ℕ} {c : ℕ} {numbered out marked : List ℕ} {r : ℕ} → Good rows marks s p c → numbered ≡ up_from 0 (length marks) → Listed rows (length marks) numbered s p c out marked r
    → ListedAll rows marks s p c out marked r
listed_all {rows} {marks} g e w = let l : 3 * length marks ≤ length rows = omega (arith, g.room.words) in record {
  done = λ text old D f t a. w.done text old D (rw e (begin_holds text old rows (length marks) f (rows_many text (length marks) rows old l f))) t a;
  few = w.few;
  beyond = w.beyond;
}

-- ── The words that are left ─────────────────────────────────────────────────────────────────────────────────

-- plain rows, and behind them zeros
pub tidied : (n to : ℕ) (l m : List ℕ) {ys : List ℕ} → 3 * n ≤ to → to ≤ length l → m ≡ plain n l → ys ≡ replicate (length (mid_of (3 * n) (to - 3 * n) m)) 0 → put_mid (3 * n) (to - 3 * n) m ys ≡ filled (take (3 * n) (plain n l)) to l
unfolding filled
tidied n to l m {ys} h k e f =
    let z : length m ≡ length l = ap length e ∙ plain_long n l in
    let a : length (take (3 * n) (plain n l)) ≡ 3 * n = length-take-le (3 * n) (plain n l) (omega (arith, plain_long n l)) in
    let b : length (mid_of (3 * n) (to - 3 * n) m) ≡ to - 3 * n = mid_len (3 * n) to m (omega arith) in
    let q : post_of (3 * n) (to - 3 * n) m ≡ drop to m = Post-is (3 * n) to m h in
    rw (q, f, b, e, a, drop_more (3 * n) to (plain n l) l h (plain_beyond n l))

module _ {rows marks s p : List ℕ} {c : ℕ} {sum : ℕ} (S : (sum ≡ rows_to s c) × (sum < 2 ^ 48)) {left marked : List ℕ} {r : ℕ} (w : ListedAll rows marks s p c left marked r) (l : length left ≡ length rows) where
  pub tidied_all : {out : List ℕ} → out ≡ filled (take (3 * r) (plain r left)) (3 * (length marks + sum)) left → Tidied rows marks s p c out marked r
  tidied_all u = record { left = left; long = l; listed = w; is = rw S.0 at u }

-- ── The whole list ──────────────────────────────────────────────────────────────────────────────────────────

-- a refusal has a number
numbered : (r : SpliceRefusal) → number r ≡ 0 → ⊥
numbered OutOfLimits z = omega arith
numbered NoRoom z = omega arith
numbered NoTree z = omega arith
numbered Unfit z = omega arith
numbered NotApart z = omega arith

module _ (rows marks s p : List ℕ) {A : Type 0} (v : Result A SpliceRefusal) (J : Judged rows (length marks) s p (length s / 6) (refusal_in v)) where
  wrong_is : wrong rows (length marks) s p (length s / 6) ≡ refusal_in v
  wrong_is =
      let n = legible rows (length marks) s p in
      sym (J.says (places_below n.0) ∙ judged_wrong rows (length marks) s p n.0 n.1 (length s / 6))

  pub spliced_refused : {r : SpliceRefusal} → v ≡ Err r → Spliced rows marks s p rows marks (Err r)
  unfolding outcome_of rows_left marks_left
  spliced_refused {r} z =
      let f : wrong rows (length marks) s p (length s / 6) ≡ number r = wrong_is ∙ ap refusal_in z in
      let e = answer_wrong rows marks s p (number r) f (numbered r) in
      record { outcome = rw e; result = rw e; moved = rw e }

  module _ {u : A} (y : v ≡ Ok u) where
    z : refusal_in v ≡ 0
    z = ap refusal_in y

    pub good : Good rows marks s p (length s / 6)
    good = let w = judged_bounds [] rows (length marks) s p (length s / 6) (sym (J.says []) ∙ z) in record { room = w.0; bounds = w.1 }

    pub spliced_done : {out marked : List ℕ} {r : ℕ} → Tidied rows marks s p (length s / 6) out marked r → Spliced rows marks s p out marked (Ok r)
    unfolding outcome_of rows_left marks_left rewritten filled
    spliced_done {out} {marked} {r} t =
        let L = legible rows (length marks) s p in
        let R : Right rows (length marks) s p (length s / 6) = none_right rows (length marks) s p (length s / 6) (wrong_is ∙ z) in
        let w = t.listed in
        let g = good in
        let long : 3 * length marks ≤ length rows = omega (arith, g.room.words) in
        let k : 3 * r ≤ length t.left = omega (arith, w.few, g.room.words, t.long) in
        let tree = old_told rows (length marks) s p L.0 L.1 R.tree in
        let told = list_told rows (length marks) s p L.0 L.1 long tree (length s / 6) R.suits in
        let o = one_go_rows (places_below L.0) (old_tree rows (length marks)) (splices_to (old_tree rows (length marks)) s p (length s / 6)) t.left r marked R.apart (w.done _ _ _ tree told R.apart) in
        let new : Tree ℕ = one_go (splices_to (old_tree rows (length marks)) s p (length s / 6)) (old_tree rows (length marks)) in
        let words : take (3 * r) (plain r t.left) ≡ words_of (rows_of new) = plain_words L.0 r t.left (rw o.0 (rows_inside new)) k ∙ ap words_of o.0 in
        let many : r ≡ size new = sym (rows_many (places_below L.0) r t.left new k o.0) in
        let e = answer_right rows marks s p R in
        record { outcome = rw e (ap {B = Answer ℕ} gives many); result = rw e (t.is ∙ rw (words, w.beyond)); moved = rw e o.1 }
