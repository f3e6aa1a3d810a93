-- One node: where a run starts after other splices, and the new numbers of the node's children. A child is a run of one.
-- Assumes nothing.
use Rattle.std.specs.Prelude.{◌≡◌, refl, Bool, true, false, ◌&&◌, ◌||◌, ◌⊎◌, leb, ltb}
use Rattle.std.proofs.Common.{sym, ap, ◌∙◌}
use Rattle.std.proofs.Math.Bool.{cond}
use mathlib.Core.List.{List, [], ◌∷◌}
use Rattle.std.proofs.Math.Logic.{inl, inr}
use Rattle.std.proofs.Math.Option.{Option, none, some, bind}
use Prim.Native.Nat.{ℕ, suc, ◌+◌, ◌-◌, ◌≤◌, ◌<◌}
use native.Mathlib.Omega.{arith}
use borrow.Author.Tests.{leb-true, ltb-true, le-leb, lt-leb, lt-ltb, le-ltb}
use Rattle.orders.specs.Lists.{any, All, Pairs, total}
use Rattle.orders.specs.Tree.{shift}
use Rattle.orders.specs.Splices.{Splice, inserted, deleted, left_of}
use Rattle.orders.specs.ListLaws.{bool_absurd, both_true, bool?, some_inj, none_some, Zone, before, inside, after, zone?, All-map, All-map₂, total_none, total_same, none_passes, passes_none}
use Rattle.orders.proofs.TreeLaws.{shift_before, shift_inside, shift_after}
use Rattle.orders.proofs.Left.{Ordered, left_le, left_if, left_trans, left_asym, OneLeft, first, second}

module _ {A : Type 0} where
  -- where the run of s starts after the splices H of the same parent
  unfoldable pub start_among : List (Splice A) → Splice A → ℕ
  start_among H s = s.from + total (λ t. left_of t s) inserted H - total (λ t. left_of t s) deleted H

  -- child i, as the run that it is
  abbrev pub child : ℕ → Splice A
  child i = record { number = 0; parent = []; from = i; to = suc i; prepared = [] }

  -- t deletes child i
  unfoldable pub holds : ℕ → Splice A → Bool
  holds i t = leb t.from i && ltb i t.to

  -- H are splices in one node: the new number of its child i, none if they delete it
  unfoldable pub new_number : List (Splice A) → ℕ → Option ℕ
  new_number H i = cond (any (holds i) H) none (some (start_among H (child i)))

  pub number_some : (H : List (Splice A)) (i j : ℕ) → new_number H i ≡ some j → (any (holds i) H ≡ false) × (start_among H (child i) ≡ j)
  unfolding new_number
  number_some H i j e = go (bool? (any (holds i) H))
    where
      go : (any (holds i) H ≡ true) ⊎ (any (holds i) H ≡ false) → (any (holds i) H ≡ false) × (start_among H (child i) ≡ j)
      go (inl x) = none_some (rw x at e)
      go (inr x) = (x, some_inj (rw x at e))

  pub holds_yes : (i : ℕ) (t : Splice A) → t.from ≤ i → i < t.to → holds i t ≡ true
  unfolding holds
  holds_yes i t h k = rw (le-leb _ _ h, lt-ltb _ _ k)

  pub holds_in : (i : ℕ) (t : Splice A) → holds i t ≡ true → (t.from ≤ i) × (i < t.to)
  unfolding holds
  holds_in i t e = let r = both_true (leb t.from i) (ltb i t.to) e in (leb-true _ _ r.0, ltb-true _ _ r.1)

  pub holds_no : (i : ℕ) (t : Splice A) → (t.from ≤ i → t.to ≤ i) → holds i t ≡ false
  unfolding holds
  holds_no i t h = elim (zone? i t.from t.to) [
    | before k ↦ rw (lt-leb _ _ k)
    | inside k l ↦ rw (le-leb _ _ k, le-ltb _ _ (h k))
    | after k l ↦ rw (le-leb _ _ k, le-ltb _ _ l)
  ]

  -- a child that is kept is apart from what keeps it
  kept_apart : (i : ℕ) (t : Splice A) → Ordered t → holds i t ≡ false → OneLeft (child i) t
  kept_apart i t o h = elim (zone? i t.from t.to) [
    | before k ↦ let e = left_if (child i) t k (inl (omega arith)) in first e (left_asym (child i) t (omega arith) o e)
    | inside k l ↦ bool_absurd (holds_yes i t k l) h
    | after k l ↦ let e = left_if t (child i) l (inl (omega arith)) in second e (left_asym t (child i) o (omega arith) e)
  ]

  pub all_apart : (i : ℕ) (H : List (Splice A)) → All Ordered H → any (holds i) H ≡ false → All (OneLeft (child i)) H
  all_apart i H o h = All-map₂ (kept_apart i) H o (none_passes (holds i) H h)

-- ── Runs do not cross ───────────────────────────────────────────────────────────────────────────────────────

-- of two tests, the second passes what the first passes, and besides that only what the third passes
data Grows (p q r : Bool) : Type 0 where
  both : p ≡ true → q ≡ true → Grows p q r
  more : p ≡ false → q ≡ true → r ≡ true → Grows p q r
  neither : p ≡ false → q ≡ false → Grows p q r

grows : (p q r : Bool) → (p ≡ true → q ≡ true) → (q ≡ true → (p ≡ true) ⊎ (r ≡ true)) → Grows p q r
grows true q r h k = both refl (h refl)
grows false false r h k = neither refl refl
grows false true true h k = more refl refl refl
grows false true false h k = absurd (elim (k refl) [ inl e ↦ bool_absurd e refl | inr e ↦ bool_absurd e refl ])

module _ {A : Type 0} where
  total_grows : (p q r : Splice A → Bool) (f : Splice A → ℕ) (H : List (Splice A)) → All (λ t. Grows (p t) (q t) (r t)) H → (total p f H ≤ total q f H) × (total q f H ≤ total p f H + total r f H)
  unfolding total
  total_grows p q r f [] h = (omega arith, omega arith)
  total_grows p q r f (t ∷ H) h = go h.0 (total_grows p q r f H h.1)
    where
      go : Grows (p t) (q t) (r t) → (total p f H ≤ total q f H) × (total q f H ≤ total p f H + total r f H)
          → (cond (p t) (f t) 0 + total p f H ≤ cond (q t) (f t) 0 + total q f H) × (cond (q t) (f t) 0 + total q f H ≤ cond (p t) (f t) 0 + total p f H + (cond (r t) (f t) 0 + total r f H))
      go (both a b) k = rw (a, b) (omega (arith, k.0), omega (arith, k.1))
      go (more a b c) k = rw (a, b, c) (omega (arith, k.0), omega (arith, k.1))
      go (neither a b) k = rw (a, b) (omega (arith, k.0), omega (arith, k.1))

  -- the run of t lies in x..y
  unfoldable lies : ℕ → ℕ → Splice A → Bool
  lies x y t = leb x t.from && leb t.to y

  lies_yes : (x y : ℕ) (t : Splice A) → x ≤ t.from → t.to ≤ y → lies x y t ≡ true
  unfolding lies
  lies_yes x y t h k = rw (le-leb _ _ h, le-leb _ _ k)

  lies_in : (x y : ℕ) (t : Splice A) → lies x y t ≡ true → (x ≤ t.from) × (t.to ≤ y)
  unfolding lies
  lies_in x y t e = let r = both_true (leb x t.from) (leb t.to y) e in (leb-true _ _ r.0, leb-true _ _ r.1)

  -- runs in x..y that do not overlap have at most as many children
  room : (H : List (Splice A)) → All Ordered H → Pairs OneLeft H → (x y : ℕ) → x ≤ y → total (lies x y) deleted H ≤ y - x
  unfolding total deleted
  room [] o h x y k = omega arith
  room (t ∷ H) o h x y k = go (bool? (lies x y t)) (room H o.1 h.1)
    where
      split : x ≤ t.from → t.to ≤ y → (u : Splice A) → OneLeft t u → Grows (lies x t.from u) (lies x y u) (lies t.to y u)
      split a b u s = grows _ _ _ (λ e. let l = lies_in x t.from u e in lies_yes x y u l.0 (omega (arith, l.1, o.0))) (λ e. let l = lies_in x y u e in elim s [
        | first p q ↦ inr (lies_yes t.to y u (left_le t u p) l.1)
        | second p q ↦ inl (lies_yes x t.from u l.0 (left_le u t p))
      ])

      go : (lies x y t ≡ true) ⊎ (lies x y t ≡ false) → ((x y : ℕ) → x ≤ y → total (lies x y) deleted H ≤ y - x) → cond (lies x y t) (deleted t) 0 + total (lies x y) deleted H ≤ y - x
      go (inl e) r =
          let l = lies_in x y t e in
          let g = total_grows (lies x t.from) (lies x y) (lies t.to y) deleted H (All-map (split l.0 l.1) H h.0) in
          rw e (omega (arith, l.0, l.1, o.0, g.1, r x t.from l.0, r t.to y l.1))
      go (inr e) r = rw e (omega (arith, r x y k))

  module _ (H : List (Splice A)) (o : All Ordered H) (h : Pairs OneLeft H) where
    -- what is deleted to the left of s was there: its start is a true difference
    pub start_exact : (s : Splice A) → start_among H s + total (λ t. left_of t s) deleted H ≡ s.from + total (λ t. left_of t s) inserted H
    unfolding start_among
    start_exact s =
        let g = total_grows (λ t. false) (λ t. left_of t s) (lies 0 s.from) deleted H (All-map (λ t k. grows _ _ _ (λ e. bool_absurd e refl) (λ e. inr (lies_yes 0 s.from t (omega arith) (left_le t s e)))) H o) in
        omega (arith, g.1, total_none (λ t. false) deleted H (All-map (λ t k. refl) H o), room H o h 0 s.from (omega arith))

    -- what is left of another stays left of it
    pub stays_left : (s t : Splice A) → Ordered s → Ordered t → All (OneLeft s) H → left_of s t ≡ true → start_among H s + deleted s ≤ start_among H t
    unfolding deleted
    stays_left s t os ot k l =
        let st = left_le s t l in
        let ins = total_grows (λ u. left_of u s) (λ u. left_of u t) (lies s.to t.from) inserted H (All-map₂ between H o k) in
        let del = total_grows (λ u. left_of u s) (λ u. left_of u t) (lies s.to t.from) deleted H (All-map₂ between H o k) in
        omega (arith, start_exact s, start_exact t, ins.0, del.1, room H o h s.to t.from st)
      where
        between : (u : Splice A) → Ordered u → OneLeft s u → Grows (left_of u s) (left_of u t) (lies s.to t.from u)
        between u ou z = grows _ _ _ (λ e. left_trans u s t ou os ot e l) (λ e. elim z [
          | first p q ↦ inr (lies_yes s.to t.from u (left_le s u p) (left_le u t e))
          | second p q ↦ inl p
        ])

    -- two children are not written at one place
    pub number_inj : (i k j : ℕ) → new_number H i ≡ some j → new_number H k ≡ some j → i ≡ k
    unfolding deleted
    number_inj i k j e f =
        let (x, y) = number_some H i j e in
        let (x', y') = number_some H k j f in
        elim (zone? i k (suc k)) [
          | before l ↦ absurd (omega (arith, stays_left (child i) (child k) (omega arith) (omega arith) (all_apart i H o x) (left_if (child i) (child k) l (inl (omega arith)))))
          | inside l m ↦ omega arith
          | after l m ↦ absurd (omega (arith, stays_left (child k) (child i) (omega arith) (omega arith) (all_apart k H o x') (left_if (child k) (child i) m (inl (omega arith)))))
        ]

-- ── One more splice ─────────────────────────────────────────────────────────────────────────────────────────

module _ {A : Type 0} (s : Splice A) (H : List (Splice A)) (os : Ordered s) (o : All Ordered H) (h : Pairs OneLeft H) (k : All (OneLeft s) H) (i : ℕ) where
  -- the children of its run are kept till then, and stand together
  pub run_kept : s.from ≤ i → i < s.to → any (holds i) H ≡ false
  run_kept a b = passes_none (holds i) H (All-map (λ t z. holds_no i t (λ w. elim z [
    | first p q ↦ absurd (omega (arith, left_le s t p))
    | second p q ↦ omega (arith, left_le t s p)
  ])) H k)

  pub run_number : s.from ≤ i → i < s.to → start_among H (child i) ≡ start_among H s + (i - s.from)
  run_number a b = omega (arith, start_exact H o h (child i), start_exact H o h s, total_same (λ t. left_of t (child i)) inserted (λ t. left_of t s) H same, total_same (λ t. left_of t (child i)) deleted (λ t. left_of t s) H same)
    where
      g : (t : Splice A) → Ordered t → OneLeft s t → left_of t (child i) ≡ left_of t s
      g t ot (first p q) = left_asym (child i) t (omega arith) ot (left_if (child i) t (omega (arith, left_le s t p)) (inl (omega (arith, left_le s t p)))) ∙ sym q
      g t ot (second p q) = left_if t (child i) (omega (arith, left_le t s p)) (inl (omega (arith, left_le t s p))) ∙ sym p

      same : All (λ t. left_of t (child i) ≡ left_of t s) H
      same = All-map₂ g H o k

  -- it moves the children's numbers as the path rule says
  pub moved : new_number (s ∷ H) i ≡ bind (new_number H i) (shift (start_among H s) (start_among H s + deleted s) (inserted s))
  unfolding new_number start_among any total bind deleted
  moved = go (bool? (any (holds i) H))
    where
      a : ℕ
      a = start_among H s

      or : (x : Bool) → cond (x || true) none (some (start_among (s ∷ H) (child i))) ≡ none
      or true = refl
      or false = refl

      at : any (holds i) H ≡ false → Zone i s.from s.to → cond (holds i s || false) none (some (start_among (s ∷ H) (child i))) ≡ shift a (a + deleted s) (inserted s) (start_among H (child i))
      at e (before l) =
          let c = left_if (child i) s l (inl (omega arith)) in
          let r = stays_left H o h (child i) s (omega arith) os (all_apart i H o e) c in
          rw (holds_no i s (λ w. absurd (omega arith)), left_asym (child i) s (omega arith) os c, shift_before a (a + deleted s) (inserted s) (start_among H (child i)) (omega arith)) (ap {B = Option ℕ} some (omega arith))
      at e (inside l m) =
          rw (holds_yes i s l m) (sym (shift_inside a (a + deleted s) (inserted s) (start_among H (child i)) (omega (arith, run_number l m)) (omega (arith, run_number l m))))
      at e (after l m) =
          let c = left_if s (child i) m (inl (omega arith)) in
          let r = stays_left H o h s (child i) os (omega arith) k c in
          rw (holds_no i s (λ w. m), c, shift_after a (a + deleted s) (inserted s) (start_among H (child i)) (omega arith) r) (ap {B = Option ℕ} some (omega (arith, start_exact H o h (child i))))

      go : (any (holds i) H ≡ true) ⊎ (any (holds i) H ≡ false) → new_number (s ∷ H) i ≡ bind (new_number H i) (shift a (a + deleted s) (inserted s))
      go (inl e) = rw e (or (holds i s))
      go (inr e) = rw e (at e (zone? i s.from s.to))
