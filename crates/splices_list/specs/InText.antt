-- The words that are left, read again: they tell the one-go tree; and in a text that has the tokens' places, that tree with its text.
-- Assumes nothing.
use Rattle.std.specs.Prelude.{◌≡◌, Ok, true, drop, leb, ltb}
use Rattle.std.proofs.Math.Path.{refl, ap}
use Rattle.std.proofs.Common.{sym, subst, ◌∙◌, drop-cons}
use mathlib.Core.List.{List, [], ◌∷◌, ◌++◌, map}
use Rattle.std.proofs.Math.Logic.{inl, inr}
use Prim.Native.Nat.{ℕ, zero, suc, ◌+◌, ◌-◌, ◌*◌, ◌/◌, ◌≤◌, ◌<◌}
use native.Mathlib.Omega.{arith}
use Rattle.std.proofs.Math.ListN.{length, take, get_or}
use borrow.Author.Tests.{lt-ltb, le-ltb}
use Rattle.orders.specs.Lists.{All}
use Rattle.orders.specs.ListLaws.{lt_or_le, both_true, All-pick}
use Rattle.orders.specs.Tree.{Tree, Trees, node, token, nil, cons}
use Rattle.orders.specs.Splices.{Splice, under, from_root, from_child, at_root, below, left_to_right, new_children, one_go, one_go_all}
use Rattle.orders.proofs.Parts.{from_root_some, from_child_some}
use Rattle.orders.proofs.Children.{All-sort}
use Rattle.orders.proofs.Check.{fits?}
use Rattle.definition_laws.specs.Basics.{All-append, append_All, All-take, All-drop, up_from, up_long}
use Rattle.rows_model.specs.Row.{Row, tok, nod, outside, row_at, rows_of, rows_in, rows_all, triples, first_rows}
use Rattle.rows_model.proofs.RowLaws.{rows_node}
use Rattle.rows_model.proofs.Words.{token_row, node_row}
use Rattle.splices_model.specs.Cuts.{part_at}
use Rattle.splices_model.specs.Verdict.{closed}
use Rattle.splices_model.specs.SpliceList.{row_told, rows_told, trees_of, old_tree, words_of, splice_at, splices_to, tells_at, suits_at, suits_to}
use Rattle.splices_model.specs.Found.{Inside, told_inside, closed_trees, old_tree_says}
use Rattle.splices_list.specs.Plain.{text_there}
use Rattle.splices_list.specs.Promises.{Spliced}
use Rattle.splices_list.specs.TwoOrders.{told, spliced_done}

-- ── What holds of every row, the one go keeps ───────────────────────────────────────────────────────────────

module _ (P : Row → Type 0) (measured : (k m n : ℕ) → P (nod k m) → P (nod k n)) where
  -- it holds of the rows of each tree
  abbrev Trees-hold : List (Tree ℕ) → Type 0
  Trees-hold ts = All (λ t. All P (rows_of t)) ts

  rows_hold : (ts : List (Tree ℕ)) → Trees-hold ts → All P (rows_all ts)
  rows_hold [] h = tt
  rows_hold (t ∷ ts) h = All-append P (rows_of t) (rows_all ts) h.0 (rows_hold ts h.1)

  trees_hold : (ts : List (Tree ℕ)) → All P (rows_all ts) → Trees-hold ts
  trees_hold [] h = tt
  trees_hold (t ∷ ts) h = let r = append_All P (rows_of t) (rows_all ts) h in (r.0, trees_hold ts r.1)

  -- and of what a splice brings
  abbrev Brings : Splice ℕ → Type 0
  Brings s = Trees-hold s.prepared

  children_hold : (n : ℕ) (H : List (Splice ℕ)) (xs : List (Tree ℕ)) → All Brings H → Trees-hold xs → Trees-hold (new_children n H xs)
  unfolding new_children
  children_hold n [] xs h k = k
  children_hold n (s ∷ H) xs h k =
      All-append (λ t. All P (rows_of t)) (take (s.from - n) xs) (s.prepared ++ new_children s.to H (drop (s.to - n) xs)) (All-take (λ t. All P (rows_of t)) (s.from - n) xs k)
      (All-append (λ t. All P (rows_of t)) s.prepared (new_children s.to H (drop (s.to - n) xs)) h.0 (children_hold s.to H (drop (s.to - n) xs) h.1 (All-drop (λ t. All P (rows_of t)) (s.to - n) xs k)))

  mutual
    unfolding one_go at_root below under

    pub one_go_holds : (S : List (Splice ℕ)) (t : Tree ℕ) → All Brings S → All P (rows_of t) → All P (rows_of (one_go S t))
    one_go_holds S (token a x) h k = k
    one_go_holds S (node a cs) h k =
        let H : List (Splice ℕ) = left_to_right (at_root S) in
        let r : All Brings H = All-sort Brings (at_root S) (All-pick from_root Brings Brings (λ x y e b. subst Brings (from_root_some x y e).1 b) S h) in
        let l : List (Tree ℕ) = new_children 0 H (one_go_all S 0 cs) in
        subst (All P) (sym (rows_node a l)) (measured a _ (length l) k.0, rows_hold l (children_hold 0 H (one_go_all S 0 cs) r (one_goes_hold S 0 cs h k.1)))

    one_goes_hold : (S : List (Splice ℕ)) (n : ℕ) (cs : Trees ℕ) → All Brings S → All P (rows_in cs) → Trees-hold (one_go_all S n cs)
    one_goes_hold S n nil h k = tt
    one_goes_hold S n (cons c cs) h k =
        let r = append_All P (rows_of c) (rows_in cs) k in
        (one_go_holds (below n S) c (All-pick (from_child n) Brings Brings (λ x y e b. rw (from_child_some n x y e).2 b) S h) r.0, one_goes_hold S (suc n) cs h r.1)

-- ── Words that tell rows ────────────────────────────────────────────────────────────────────────────────────

-- the row of a token whose text is told by its places, or of a node
abbrev Proper : Row → Type 0
Proper (tok k x) = (k < 2147483648) × (x ≡ up_from (get_or x 0 0) (length x))
Proper (nod k m) = 2147483648 ≤ k
Proper (outside k m) = ⊥

row_proper : (k m o : ℕ) → Proper (row_told k m o)
unfolding up_from
row_proper k m o = elim (lt_or_le k 2147483648) [ inl h ↦ rw (lt-ltb k 2147483648 h) (h, places m) | inr h ↦ rw (le-ltb k 2147483648 h) h ]
  where
    places : (m : ℕ) → up_from o m ≡ up_from (get_or (up_from o m) 0 0) (length (up_from o m))
    places zero = refl
    places (suc m) = rw (up_long (suc o) m)

rows_proper : (l : List ℕ) → All Proper (rows_told l)
rows_proper [] = tt
rows_proper (k ∷ []) = tt
rows_proper (k ∷ m ∷ []) = tt
rows_proper (k ∷ m ∷ o ∷ l) = (row_proper k m o, rows_proper l)

-- such rows are told by the words that are written of them
proper_words : (rs : List Row) → All Proper rs → rows_told (words_of rs) ≡ rs
unfolding words_of
proper_words [] h = refl
proper_words (tok k x ∷ rs) h = rw (lt-ltb k 2147483648 h.0.0, ← h.0.1, proper_words rs h.1)
proper_words (nod k m ∷ rs) h = rw (le-ltb k 2147483648 h.0, proper_words rs h.1)
proper_words (outside k m ∷ rs) h = absurd h.0

-- ── In a text ───────────────────────────────────────────────────────────────────────────────────────────────

module _ (text : List ℕ) where
  -- a row with the text that stands at its places
  abbrev pub with_text : Row → Row
  with_text (tok k x) = tok k (map (λ i. get_or text i 0) x)
  with_text (nod k m) = nod k m
  with_text (outside k m) = outside k m

  -- these places are in the text
  abbrev Within : Row → Type 0
  Within (tok k x) = get_or x 0 0 + length x ≤ length text
  Within (nod k m) = Unit {0}
  Within (outside k m) = Unit {0}

  places_read : (m o : ℕ) → o + m ≤ length text → take m (drop o text) ≡ map (λ i. get_or text i 0) (up_from o m)
  unfolding up_from
  places_read zero o h = refl
  places_read (suc m) o h = rw (drop-cons text o 0 (omega arith)) (ap (λ (l : List ℕ). get_or text o 0 ∷ l) (places_read m (suc o) (omega arith)))

  -- words tell the rows that they tell by places, with the text that stands there
  row_read : (k m o : ℕ) → Inside (row_at text k m o) → (row_at text k m o ≡ with_text (row_told k m o)) × Within (row_told k m o)
  unfolding up_from
  row_read k m o w = elim (lt_or_le k 2147483648) [
    | inl h ↦
        let t : o + m ≤ length text = text_there k m o text w h in
        rw (token_row text k m o h t, lt-ltb k 2147483648 h) (ap (tok k) (places_read m o t), first m t)
    | inr h ↦ rw (node_row text k m o h, le-ltb k 2147483648 h) (refl, tt)
  ]
    where
      first : (m : ℕ) → o + m ≤ length text → get_or (up_from o m) 0 0 + length (up_from o m) ≤ length text
      first zero h = omega arith
      first (suc m) h = omega (arith, up_long (suc o) m)

  pub rows_read : (l : List ℕ) → All Inside (triples text l) → (triples text l ≡ map with_text (rows_told l)) × All Within (rows_told l)
  rows_read [] h = (refl, tt)
  rows_read (k ∷ []) h = (refl, tt)
  rows_read (k ∷ m ∷ []) h = (refl, tt)
  rows_read (k ∷ m ∷ o ∷ l) h =
      let r = row_read k m o h.0 in
      let t = rows_read l h.1 in
      (cc (r.0, t.0), (r.1, t.1))

  -- and so do the words that are written of rows
  words_read : (rs : List Row) → All Proper rs → All Within rs → triples text (words_of rs) ≡ map with_text rs
  unfolding words_of
  words_read [] h g = refl
  words_read (tok k x ∷ rs) h g =
      let e : take (length x) (drop (get_or x 0 0) text) ≡ map (λ i. get_or text i 0) x = places_read (length x) (get_or x 0 0) g.0 ∙ ap (map (λ i. get_or text i 0)) (sym h.0.1) in
      cc (token_row text k (length x) (get_or x 0 0) h.0.0 g.0, e, words_read rs h.1 g.1)
  words_read (nod k m ∷ rs) h g = cc (node_row text k m 0 h.0, words_read rs h.1 g.1)
  words_read (outside k m ∷ rs) h g = absurd h.0

-- ── What is left, read again ────────────────────────────────────────────────────────────────────────────────

module _ (P : Row → Type 0) where
  -- it holds of the rows that each of the first k splices tells
  abbrev Parts-hold : List ℕ → List ℕ → ℕ → Type 0
  Parts-hold s p k = (j : ℕ) → j < k → All P (rows_told (part_at s p j))

  -- so of the trees that it brings
  brought : (measured : (k m n : ℕ) → P (nod k m) → P (nod k n)) (old : Tree ℕ) (e : ℕ) (s p : List ℕ) (k : ℕ) → suits_to old e s p k ≡ true → Parts-hold s p k → All (Brings P measured) (splices_to old s p k)
  unfolding suits_to suits_at tells_at splices_to splice_at
  brought measured old e s p zero z h = tt
  brought measured old e s p (suc k) z h =
      let x = both_true (suits_at old e s p k) (suits_to old e s p k) z in
      let y = both_true (tells_at e s p k) (fits? old (splice_at old s p k)) x.0 in
      let a = both_true (ltb (get_or s (6 * k + 1) 0) e) _ y.0 in
      let b = both_true (leb (3 * get_or s (6 * k + 4) 0 + 3 * get_or s (6 * k + 5) 0) (length p)) (closed (rows_told (part_at s p k))) a.1 in
      let t : rows_told (part_at s p k) ≡ rows_all (trees_of (rows_told (part_at s p k))) = closed_trees (rows_told (part_at s p k)) b.1 (told_inside (part_at s p k)) in
      (trees_hold P measured (trees_of (rows_told (part_at s p k))) (subst (All P) t (h k (omega arith))), brought measured old e s p k x.1 (λ j g. h j (omega arith)))

module _ (rows marks s p out marked : List ℕ) (n : ℕ) (w : Spliced rows marks s p out marked (Ok n)) where
  new : Tree ℕ
  new = one_go (told rows marks s p) (old_tree rows (length marks))

  -- the first rows tell the old tree
  pub old_rows : rows_told (take (3 * length marks) rows) ≡ rows_of (old_tree rows (length marks))
  old_rows = (old_tree_says rows (length marks) (old_tree rows (length marks))).1 ((spliced_done rows marks s p out marked n w).right.tree, refl)

  -- what holds of the rows that come in holds of those that are left
  left_holds : (P : Row → Type 0) → ((k m n : ℕ) → P (nod k m) → P (nod k n)) → All P (rows_told (take (3 * length marks) rows)) → Parts-hold P s p (length s / 6) → All P (rows_of new)
  unfolding new
  left_holds P measured h g =
      one_go_holds P measured (told rows marks s p) (old_tree rows (length marks)) (brought P measured (old_tree rows (length marks)) (length marks) s p (length s / 6) (spliced_done rows marks s p out marked n w).right.suits g) (subst (All P) old_rows h)

  proper : All Proper (rows_of new)
  proper = left_holds Proper (λ k m n h. h) (rows_proper (take (3 * length marks) rows)) (λ j h. rows_proper (part_at s p j))

  -- THE ROWS THAT ARE LEFT TELL THE ONE-GO TREE
  pub spliced_rows : rows_told (take (3 * n) out) ≡ rows_of (one_go (told rows marks s p) (old_tree rows (length marks)))
  unfolding new
  spliced_rows = ap rows_told (spliced_done rows marks s p out marked n w).words ∙ proper_words (rows_of new) proper

  -- IN A TEXT that has what the tokens of the old rows and of the prepared rows tell, the rows tell the old tree before, and the one-go tree after, each token with its text
  pub spliced_in_text : (text : List ℕ) → All Inside (first_rows text (length marks) rows) → ((j : ℕ) → j < length s / 6 → All Inside (triples text (part_at s p j)))
      → (first_rows text (length marks) rows ≡ map (with_text text) (rows_of (old_tree rows (length marks)))) × (first_rows text n out ≡ map (with_text text) (rows_of (one_go (told rows marks s p) (old_tree rows (length marks)))))
  unfolding new
  spliced_in_text text h g =
      let r = rows_read text (take (3 * length marks) rows) h in
      let q : All (Within text) (rows_of new) = left_holds (Within text) (λ k m n h. h) r.1 (λ j l. (rows_read text (part_at s p j) (g j l)).1) in
      (r.0 ∙ ap (map (with_text text)) old_rows, ap (triples text) (spliced_done rows marks s p out marked n w).words ∙ words_read text (rows_of new) proper q)
