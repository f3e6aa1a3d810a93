-- One node: its new children, and what one more splice, or a child that is changed, does to them.
-- Assumes nothing.
use Rattle.std.specs.Prelude.{◌≡◌, Bool, cond, ℕ, suc, ◌+◌, ◌-◌, ◌≤◌, drop}
use Rattle.std.proofs.Math.Path.{refl, ap}
use Rattle.std.proofs.Common.{◌∙◌, zero-add, length-drop}
use Rattle.std.proofs.Math.Bool.{true, false}
use mathlib.Core.List.Permᴰ
use mathlib.Core.List.{List, [], ◌∷◌, ◌++◌, append_assoc, Permᴰ}
use Rattle.std.proofs.Math.Option.{some}
use native.Mathlib.Omega.{arith}
use Rattle.std.proofs.Math.ListN.{length, take, get_elem?, length-append}
use Rattle.std.proofs.Math.Seq.{take_at, drop_at, length-take-le, take-append-le, drop-append-le, take-append-add, drop-append-add}
use Rattle.orders.specs.Lists.{All, Pairs, total}
use Rattle.orders.specs.Tree.{Tree, modify}
use Rattle.orders.specs.Splices.{Splice, inserted, deleted, left_of, insert_by_left, left_to_right, new_children}
use Rattle.orders.specs.ListLaws.{parts, All-map, All-map₂, All-perm, total_none, total_one, total_perm, get_lt, get_split, get_right, modify_split, modify_right, part_out}
use Rattle.orders.proofs.Left.{Ordered, left_le, left_trans, left_asym, OneLeft, first, second}
use Rattle.orders.proofs.Numbers.{child, new_number, number_some, all_apart, start_among, start_exact}

-- ── From left to right ──────────────────────────────────────────────────────────────────────────────────────

module _ {A : Type 0} where
  pub insert_perm : (s : Splice A) (H : List (Splice A)) → Permᴰ (insert_by_left s H) (s ∷ H)
  unfolding insert_by_left
  insert_perm s [] = Permᴰ.refl (s ∷ [])
  insert_perm s (t ∷ H) = go (left_of s t) (insert_perm s H)
    where
      go : (b : Bool) → Permᴰ (insert_by_left s H) (s ∷ H) → Permᴰ (cond b (s ∷ t ∷ H) (t ∷ insert_by_left s H)) (s ∷ t ∷ H)
      go true d = Permᴰ.refl (s ∷ t ∷ H)
      go false d = Permᴰ.trans (Permᴰ.cons refl d) (Permᴰ.swap refl refl)

  pub sort_perm : (S : List (Splice A)) → Permᴰ (left_to_right S) S
  unfolding left_to_right
  sort_perm [] = Permᴰ.nil
  sort_perm (s ∷ S) = Permᴰ.trans (insert_perm s (left_to_right S)) (Permᴰ.cons refl (sort_perm S))

  pub All-sort : (P : Splice A → Type 0) (S : List (Splice A)) → All P S → All P (left_to_right S)
  All-sort P S h = All-perm P (Permᴰ.symm (sort_perm S)) h

  pub insert_first : (s h : Splice A) (H : List (Splice A)) → left_of s h ≡ true → insert_by_left s (h ∷ H) ≡ s ∷ h ∷ H
  unfolding insert_by_left
  insert_first s h H e = rw e

  pub insert_second : (s h : Splice A) (H : List (Splice A)) → left_of s h ≡ false → insert_by_left s (h ∷ H) ≡ h ∷ insert_by_left s H
  unfolding insert_by_left
  insert_second s h H e = rw e

  -- each splice is left of each later one
  abbrev pub Sorted : List (Splice A) → Type 0
  Sorted H = Pairs (λ h t. left_of h t ≡ true) H

  -- what t is left of, s is left of if it is left of t
  left_of_rest : (s t : Splice A) (H : List (Splice A)) → Ordered s → All Ordered (t ∷ H) → left_of s t ≡ true → All (λ u. left_of t u ≡ true) H → All (λ u. left_of s u ≡ true) H
  left_of_rest s t H os o e k = All-map₂ (λ u ou l. left_trans s t u os o.0 ou e l) H o.1 k

  -- and none of that is left of s
  none_left : (s t : Splice A) (H : List (Splice A)) → Ordered s → All Ordered (t ∷ H) → left_of s t ≡ true → Sorted (t ∷ H) → All (λ u. left_of u s ≡ false) (t ∷ H)
  none_left s t H os o e k = (left_asym s t os o.0 e, All-map₂ (λ u ou l. left_asym s u os ou l) H o.1 (left_of_rest s t H os o e k.0))

  sorted_insert : (s : Splice A) (H : List (Splice A)) → Ordered s → All Ordered H → All (OneLeft s) H → Sorted H → Sorted (insert_by_left s H)
  unfolding insert_by_left
  sorted_insert s [] os o h k = (tt, tt)
  sorted_insert s (t ∷ H) os o h k = go h.0 (sorted_insert s H os o.1 h.1 k.1)
    where
      go : OneLeft s t → Sorted (insert_by_left s H) → Sorted (insert_by_left s (t ∷ H))
      go (first p q) r = rw (insert_first s t H p) ((p, left_of_rest s t H os o p k.0), k)
      go (second p q) r = rw (insert_second s t H q) (All-perm (λ u. left_of t u ≡ true) (Permᴰ.symm (insert_perm s H)) (p, k.0), r)

  pub sorted : (S : List (Splice A)) → All Ordered S → Pairs OneLeft S → Sorted (left_to_right S)
  unfolding left_to_right
  sorted [] o h = tt
  sorted (s ∷ S) o h = sorted_insert s (left_to_right S) o.0 (All-sort Ordered S o.1) (All-sort (OneLeft s) S h.0) (sorted S o.1 h.1)

  -- the runs follow one another from n on, as far as m
  abbrev pub Chain : ℕ → ℕ → List (Splice A) → Type 0
  Chain n m [] = n ≤ m
  Chain n m (h ∷ H) = (n ≤ h.from) × (h.from ≤ h.to) × Chain h.to m H

  pub chain : (n m : ℕ) (H : List (Splice A)) → n ≤ m → All (λ t. n ≤ t.from) H → All (λ t. (t.from ≤ t.to) × (t.to ≤ m)) H → Sorted H → Chain n m H
  chain n m [] l a b k = l
  chain n m (t ∷ H) l a b k = (a.0, b.0.0, chain t.to m H b.0.1 (All-map (λ u e. left_le t u e) H k.0) b.1 k.1)

  pub chain_le : (n m : ℕ) (H : List (Splice A)) → Chain n m H → n ≤ m
  chain_le n m [] c = c
  chain_le n m (h ∷ H) c = omega (arith, chain_le h.to m H c.2)

  chain_ordered : (n m : ℕ) (H : List (Splice A)) → Chain n m H → All Ordered H
  chain_ordered n m [] c = tt
  chain_ordered n m (h ∷ H) c = (c.1, chain_ordered h.to m H c.2)

  -- what is left behind the first run
  pub left_over : (n m : ℕ) (t : Splice A) (H : List (Splice A)) (xs : List (Tree A)) → n + length xs ≡ m → Chain n m (t ∷ H) → t.to + length (drop (t.to - n) xs) ≡ m
  left_over n m t H xs e c = rw (length-drop (t.to - n) xs) (omega (arith, chain_le t.to m H c.2, c.0, c.1))

-- ── One more splice ─────────────────────────────────────────────────────────────────────────────────────────

module _ {A : Type 0} where
  -- The node's children from number n on are u, then the run of s, then w. Whatever the run holds, it stands as it is between X and Y; with s, the prepared list stands there.
  pub record Around (n : ℕ) (H : List (Splice A)) (s : Splice A) (u w : List (Tree A)) : Type 0 where
    pub X : List (Tree A)
    pub Y : List (Tree A)
    pub place : length X + n + total (λ t. left_of t s) deleted H ≡ s.from + total (λ t. left_of t s) inserted H
    pub was : (v : List (Tree A)) → length v ≡ deleted s → new_children n H (u ++ (v ++ w)) ≡ X ++ (v ++ Y)
    pub is : (v : List (Tree A)) → length v ≡ deleted s → new_children n (insert_by_left s H) (u ++ (v ++ w)) ≡ X ++ (s.prepared ++ Y)

  -- before the first run there is nothing but children
  skip : (n k m : ℕ) (H : List (Splice A)) (u w : List (Tree A)) → n + length u ≡ k → Chain k m H → new_children n H (u ++ w) ≡ u ++ new_children k H w
  unfolding new_children
  skip n k m [] u w e c = refl
  skip n k m (t ∷ H) u w e c =
      let a : t.from - n ≡ length u + (t.from - k) = omega (arith, c.0) in
      let b : t.to - n ≡ length u + (t.to - k) = omega (arith, c.0, c.1) in
      rw (a, b, take-append-add u w (t.from - k), drop-append-add u w (t.to - k)) (simp append_assoc)

  module _ (n : ℕ) (s : Splice A) (u w : List (Tree A)) (e : n + length u ≡ s.from) (b : s.from ≤ s.to) where
    -- s is left of all
    around_front : (m : ℕ) (K : List (Splice A)) → Chain s.to m K → All (λ t. left_of t s ≡ false) K → insert_by_left s K ≡ s ∷ K → Around n K s u w
    unfolding new_children deleted
    around_front m K c z f = record {
      X = u;
      Y = new_children s.to K w;
      place = rw (total_none (λ t. left_of t s) deleted K z, total_none (λ t. left_of t s) inserted K z) (omega arith);
      was = λ v l. rw (← append_assoc u v w, skip n s.to m K (u ++ v) w (omega (arith, length-append u v)) c) (append_assoc u v (new_children s.to K w));
      is = λ v l. rw (f, take_at u (v ++ w) (s.from - n) (omega arith), ← append_assoc u v w, drop_at (u ++ v) w (s.to - n) (length-append u v ∙ omega arith));
    }

    -- t is left of s
    around_second : (m : ℕ) (t : Splice A) (H : List (Splice A)) → Chain n m (t ∷ H) → left_of t s ≡ true → left_of s t ≡ false → Around t.to H s (drop (t.to - n) u) w → Around n (t ∷ H) s u w
    unfolding new_children deleted inserted
    around_second m t H c l l' r =
        let ts = left_le t s l in
        let x : t.from - n ≤ length u = omega (arith, c.1) in
        let y : t.to - n ≤ length u = omega arith in
        record {
          X = take (t.from - n) u ++ (t.prepared ++ r.X);
          Y = r.Y;
          place =
              rw (length-append (take (t.from - n) u) (t.prepared ++ r.X), length-append t.prepared r.X, length-take-le (t.from - n) u x, total_one (λ t. left_of t s) deleted t H l, total_one (λ t. left_of t s) inserted t H l)
              (omega (arith, r.place, c.0, c.1));
          was = λ v q. rw (take-append-le (t.from - n) u (v ++ w) x, drop-append-le (t.to - n) u (v ++ w) y, r.was v q) (simp append_assoc);
          is = λ v q. rw (insert_second s t H l', take-append-le (t.from - n) u (v ++ w) x, drop-append-le (t.to - n) u (v ++ w) y, r.is v q) (simp append_assoc);
        }

  around : (n m : ℕ) (H : List (Splice A)) (s : Splice A) (u w : List (Tree A)) → n + length u ≡ s.from → Ordered s → Chain n m H → Sorted H → All (OneLeft s) H → Around n H s u w
  unfolding insert_by_left
  around n m [] s u w e b c o h = around_front n s u w e b s.to [] (omega arith) tt refl
  around n m (t ∷ H) s u w e b c o h =
      go h.0 (λ l. around t.to m H s (drop (t.to - n) u) w (rw (length-drop (t.to - n) u) (omega (arith, left_le t s l, c.0, c.1))) b c.2 o.1 h.1)
    where
      go : OneLeft s t → (left_of t s ≡ true → Around t.to H s (drop (t.to - n) u) w) → Around n (t ∷ H) s u w
      go (first p q) k = around_front n s u w e b m (t ∷ H) (left_le s t p, c.1, c.2) (none_left s t H b (chain_ordered n m (t ∷ H) c) p o) (insert_first s t H p)
      go (second p q) k = around_second n s u w e b m t H c p q (k p)

-- ── What others use ─────────────────────────────────────────────────────────────────────────────────────────

-- splices in one node with m children
pub record Level {A : Type 0} (m : ℕ) (H : List (Splice A)) : Type 0 where
  pub ordered : All Ordered H
  pub within : All (λ t. t.to ≤ m) H
  pub apart : Pairs OneLeft H

module _ {A : Type 0} (m : ℕ) (H : List (Splice A)) where
  pub level_chain : Level m H → Chain 0 m (left_to_right H)
  level_chain l =
      chain 0 m (left_to_right H) (omega arith) (All-sort (λ t. 0 ≤ t.from) H (All-map (λ t o. omega arith) H l.ordered))
      (All-sort (λ t. (t.from ≤ t.to) × (t.to ≤ m)) H (All-map₂ (λ t o w. (o, w)) H l.ordered l.within)) (sorted H l.ordered l.apart)

  -- around s, with the place told by its start
  module _ (l : Level m H) (s : Splice A) (b : Ordered s) (k : All (OneLeft s) H) (xs : List (Tree A)) where
    level_around : s.from ≤ length xs → Around 0 (left_to_right H) s (take s.from xs) (drop s.to xs)
    level_around w = around 0 m (left_to_right H) s (take s.from xs) (drop s.to xs) (zero-add _ ∙ length-take-le s.from xs w) b (level_chain l) (sorted H l.ordered l.apart) (All-sort (OneLeft s) H k)

    level_place : (r : Around 0 (left_to_right H) s (take s.from xs) (drop s.to xs)) → length r.X ≡ start_among H s
    level_place r = omega (arith, r.place, start_exact H l.ordered l.apart s, total_perm (λ t. left_of t s) deleted (sort_perm H), total_perm (λ t. left_of t s) inserted (sort_perm H))

module _ {A : Type 0} (m : ℕ) (H : List (Splice A)) (xs : List (Tree A)) where
  -- One more splice takes its run, where it is by then, and puts its prepared list there.
  pub splice_children : (s : Splice A) → Level m (s ∷ H) → length xs ≡ m
      → (start_among H s + deleted s ≤ length (new_children 0 (left_to_right H) xs))
      × (take (start_among H s) (new_children 0 (left_to_right H) xs) ++ (s.prepared ++ drop (start_among H s + deleted s) (new_children 0 (left_to_right H) xs)) ≡ new_children 0 (left_to_right (s ∷ H)) xs)
  unfolding left_to_right
  splice_children s l e = go (level_around m H rest s l.ordered.0 l.apart.0 xs (omega (arith, l.ordered.0, l.within.0)))
    where
      rest : Level m H
      rest = record { ordered = l.ordered.1; within = l.within.1; apart = l.apart.1 }

      v : List (Tree A)
      v = take (deleted s) (drop s.from xs)

      lv : length v ≡ deleted s
      lv = length-take-le (deleted s) (drop s.from xs) (rw (length-drop s.from xs) (unfold deleted in (omega (arith, l.ordered.0, l.within.0))))

      whole : xs ≡ take s.from xs ++ (v ++ drop s.to xs)
      whole = let z : s.from + deleted s ≡ s.to = unfold deleted in (omega (arith, l.ordered.0)) in parts s.from (deleted s) xs ∙ rw z

      go : Around 0 (left_to_right H) s (take s.from xs) (drop s.to xs)
          → (start_among H s + deleted s ≤ length (new_children 0 (left_to_right H) xs))
          × (take (start_among H s) (new_children 0 (left_to_right H) xs) ++ (s.prepared ++ drop (start_among H s + deleted s) (new_children 0 (left_to_right H) xs)) ≡ new_children 0 (insert_by_left s (left_to_right H)) xs)
      go r =
          let p = level_place m H rest s l.ordered.0 l.apart.0 xs r in
          let was : new_children 0 (left_to_right H) xs ≡ r.X ++ (v ++ r.Y) = ap (new_children 0 (left_to_right H)) whole ∙ r.was v lv in
          let is : new_children 0 (insert_by_left s (left_to_right H)) xs ≡ r.X ++ (s.prepared ++ r.Y) = ap (new_children 0 (insert_by_left s (left_to_right H))) whole ∙ r.is v lv in
          (rw (was, length-append r.X (v ++ r.Y), length-append v r.Y) (omega (arith, p, lv)), rw (was, part_out r.X v r.Y s.prepared (start_among H s) (deleted s) p lv, is))

  module _ (l : Level m H) (i j : ℕ) (e : new_number H i ≡ some j) (c : Tree A) (g : get_elem? xs i ≡ some c) where
    apart : All (OneLeft (child i)) H
    apart = all_apart i H l.ordered (number_some H i j e).0

    alone : Around 0 (left_to_right H) (child i) (take i xs) (drop (suc i) xs)
    alone = level_around m H l (child i) (omega arith) apart xs (omega (arith, get_lt xs i g))

    here : length alone.X ≡ j
    here = level_place m H l (child i) (omega arith) apart xs alone ∙ (number_some H i j e).1

    only : (d : Tree A) → new_children 0 (left_to_right H) (take i xs ++ (d ∷ drop (suc i) xs)) ≡ alone.X ++ (d ∷ alone.Y)
    unfolding deleted
    only d = alone.was (d ∷ []) (omega arith)

    -- A child that is kept stands at its new number,
    pub get_child : get_elem? (new_children 0 (left_to_right H) xs) j ≡ some c
    get_child = ap (λ (l : List (Tree A)). get_elem? (new_children 0 (left_to_right H) l) j) (get_split xs i c g) ∙ rw (only c) (get_right alone.X (c ∷ alone.Y) j 0 (omega (arith, here)))

    -- and if it is changed, nothing else is.
    pub modify_child : (f : Tree A → Tree A) → modify j f (new_children 0 (left_to_right H) xs) ≡ new_children 0 (left_to_right H) (modify i f xs)
    unfolding modify
    modify_child f =
        ap (λ (l : List (Tree A)). modify j f (new_children 0 (left_to_right H) l)) (get_split xs i c g)
        ∙ rw (only c, modify_right f alone.X (c ∷ alone.Y) j 0 (omega (arith, here)), modify_split f xs i c g, only (f c))
