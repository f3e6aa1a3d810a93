-- Where the path of a target tells the place of a splice: a list of splices placed by their targets' present paths, numbered as performed, is performed as demand 3 says.
-- Assumes nothing.
use Rattle.std.proofs.Math.Path.{◌≡◌, refl, sym, ap, subst}
use Rattle.std.proofs.Common.{◌∙◌}
use Rattle.std.specs.Prelude.{true, ◌⊎◌}
use Rattle.std.proofs.Math.Bool.{false}
use mathlib.Core.List.Permᴰ
use mathlib.Core.List.{List, [], ◌∷◌, ◌++◌, reverse_aux}
use Rattle.std.proofs.Math.Logic.{inl, inr}
use Rattle.std.proofs.Math.Option.{Option, none, some, map, bind}
use Prim.Native.Nat.{ℕ, suc, ◌+◌, ◌-◌, ◌≤◌, ◌<◌}
use native.Mathlib.Omega.{arith}
use Rattle.orders.specs.Lists.{any, All, Pairs}
use Rattle.orders.specs.Tree.{Tree, Path, Run, front, last}
use Rattle.orders.specs.Splices.{Splice, State, inserted, deleted, left_of, start, begin, run_now, perform_at, perform, performs, under, from_root, from_child, at_root, below, splices_in, AllApart}
use Rattle.orders.specs.ListLaws.{some_inj, map_some, bind_some, bool?, All-map, All-map₂, All-pick, total_none, total_same}
use Rattle.orders.proofs.TreeLaws.{front_child, last_child}
use Rattle.orders.proofs.Left.{Ordered, left_le, left_why, left_if, OneLeft, first, second}
use Rattle.orders.proofs.Numbers.{child, holds, new_number, number_some, all_apart, start_among, start_exact, run_kept, run_number}
use Rattle.orders.proofs.Parts.{from_root_some, from_child_some, below_in, Neat, neat, below_neat, root_ordered, root_apart, at_root_root, start_below, start_root}
use Rattle.orders.proofs.Paths.{one_go_path, down}
use Rattle.orders.proofs.Order.{apart_perm}
use Rattle.orders.proofs.Done.{After, Ready, ready, perform_at_lem, perform_after, apart_done, begin_after, reversed}
use Rattle.orders.proofs.Demand.{Demanded, demand}

-- ── Performed by targets ────────────────────────────────────────────────────────────────────────────────────

module _ {A : Type 0} where
  -- what a splice is placed by: "call 0 at 0..0 in its target, call 1 on child i at i+1..i+1, calls 2, 3 and 4 at i..i+1, call 5 to child j at i..j+1"
  pub data Target (s : Splice A) : Type 0 where
    first_child : s.from ≡ 0 → s.to ≡ 0 → Target s
    after_child : (i : ℕ) → s.from ≡ suc i → s.to ≡ suc i → Target s
    children : (i j : ℕ) → i ≤ j → s.from ≡ i → s.to ≡ suc j → Target s

  -- the run that the present paths of the target tell; none if the target is gone
  unfoldable pub run_by_target : (Path → Option Path) → (s : Splice A) → Target s → Option Run
  run_by_target path s (first_child a b) = map (λ p. record { parent = p; from = 0; to = 0 }) (path s.parent)
  run_by_target path s (after_child i a b) = map (λ p. record { parent = front p; from = suc (last p); to = suc (last p) }) (path (s.parent ++ (i ∷ [])))
  run_by_target path s (children i j l a b) = bind (path (s.parent ++ (i ∷ []))) (λ p. map (λ q. record { parent = front p; from = last p; to = suc (last q) }) (path (s.parent ++ (j ∷ []))))

  -- splices done one after the other, each where its target tells; none once a target is gone
  unfoldable pub perform_by_targets : (S : List (Splice A)) → All Target S → State A → Option (State A)
  perform_by_targets [] T now = some now
  perform_by_targets (s ∷ S) T now = bind (run_by_target now.path s T.0) (λ r. perform_by_targets S T.1 (perform_at r s now))

-- ── One node ────────────────────────────────────────────────────────────────────────────────────────────────

module _ {A : Type 0} (H : List (Splice A)) (o : All Ordered H) (h : Pairs OneLeft H) (s : Splice A) (l : All (λ t. t.number < s.number) H) where
  -- no splice that is done has a higher number: an empty run just behind child i is behind it still
  after_number : (i : ℕ) → s.from ≡ suc i → s.to ≡ suc i → any (holds i) H ≡ false → start_among H s ≡ suc (start_among H (child i))
  after_number i a b n = omega (arith, start_exact H o h (child i), start_exact H o h s, total_same (λ t. left_of t (child i)) inserted (λ t. left_of t s) H g, total_same (λ t. left_of t (child i)) deleted (λ t. left_of t s) H g)
    where
      not_left : (t : Splice A) → t.number < s.number → i < t.from → (left_of t s ≡ true) ⊎ (left_of t s ≡ false) → left_of t s ≡ false
      not_left t m w (inl e) = absurd (elim (left_why t s e) [ inl x ↦ omega arith | inr x ↦ omega arith ])
      not_left t m w (inr e) = e

      same : (t : Splice A) → Ordered t → t.number < s.number → OneLeft (child i) t → left_of t (child i) ≡ left_of t s
      same t ot m (first p q) = q ∙ sym (not_left t m (left_le (child i) t p) (bool? (left_of t s)))
      same t ot m (second p q) = p ∙ sym (left_if t s (omega (arith, left_le t (child i) p)) (inl (omega (arith, left_le t (child i) p))))

      g : All (λ t. left_of t (child i) ≡ left_of t s) H
      g = All-map₂ {P = λ t. Ordered t × (t.number < s.number)} (λ t z k. same t z.0 z.1 k) H (All-map₂ (λ t x y. (x, y)) H o l) (all_apart i H o n)

  -- and one before the first child is before it still
  first_number : s.from ≡ 0 → s.to ≡ 0 → start_among H s ≡ 0
  unfolding start_among
  first_number a b = rw (total_none (λ t. left_of t s) inserted H g, total_none (λ t. left_of t s) deleted H g) (omega arith)
    where
      not_left : (t : Splice A) → t.number < s.number → (left_of t s ≡ true) ⊎ (left_of t s ≡ false) → left_of t s ≡ false
      not_left t m (inl e) = absurd (elim (left_why t s e) [ inl x ↦ omega arith | inr x ↦ omega arith ])
      not_left t m (inr e) = e

      g : All (λ t. left_of t s ≡ false) H
      g = All-map (λ t m. not_left t m (bool? (left_of t s))) H l

-- ── The parent's own splices ────────────────────────────────────────────────────────────────────────────────

module _ {A : Type 0} where
  -- those done in the element at p, told from there
  own : Path → List (Splice A) → List (Splice A)
  own p S = at_root (splices_in p S)

  child_path : (p : Path) (S : List (Splice A)) (q : Path) (i : ℕ) → one_go_path S p ≡ some q → one_go_path S (p ++ (i ∷ [])) ≡ map (λ j. q ++ (j ∷ [])) (new_number (own p S) i)
  unfolding own one_go_path splices_in bind
  child_path [] S q i e = rw (← some_inj e) (go (new_number (at_root S) i))
    where
      go : (o : Option ℕ) → bind o (λ j. map (λ r. j ∷ r) (some [])) ≡ map (λ j. j ∷ []) o
      go none = refl
      go (some j) = refl
  child_path (k ∷ p) S q i e =
      let d = down S k p q e in
      rw (← d.is, d.at, child_path p (below k S) d.rest i d.on) (go d.j d.rest (new_number (own p (below k S)) i))
    where
      go : (j : ℕ) (q : Path) (o : Option ℕ) → map (λ r. j ∷ r) (map (λ n. q ++ (n ∷ [])) o) ≡ map (λ n. (j ∷ q) ++ (n ∷ [])) o
      go j q none = refl
      go j q (some n) = refl

  own_start : (p : Path) (S : List (Splice A)) (s : Splice A) → start S (under p s) ≡ start_among (own p S) (under [] s)
  unfolding own splices_in
  own_start [] S s = start_root s S
  own_start (k ∷ p) S s = start_below k p s S ∙ own_start p (below k S) s

  own_neat : (p : Path) (S : List (Splice A)) (s : Splice A) → Neat (under p s ∷ S) → Neat (under [] s ∷ splices_in p S)
  unfolding splices_in
  own_neat [] S s h = h
  own_neat (k ∷ p) S s h = own_neat p (below k S) s (rw below_in at (below_neat k (under (k ∷ p) s ∷ S) h))

  lower : (n : ℕ) (p : Path) (S : List (Splice A)) → All (λ t. t.number < n) S → All (λ t. t.number < n) (own p S)
  unfolding own splices_in at_root below under
  lower n [] S h = All-pick from_root (λ t. t.number < n) (λ t. t.number < n) (λ x y e l. subst (λ (t : Splice A). t.number < n) (from_root_some x y e).1 l) S h
  lower n (k ∷ p) S h = lower n p (below k S) (All-pick (from_child k) (λ t. t.number < n) (λ t. t.number < n) (λ x y e l. subst (λ (t : Splice A). t.number < n) (sym (from_child_some k x y e).2) l) S h)

-- ── The place that a target tells ───────────────────────────────────────────────────────────────────────────

module _ {A : Type 0} (old : Tree A) (D : List (Splice A)) (s : Splice A) (now : State A) (h : AllApart old (s ∷ D)) (k : After old D now) where
  ordered : All Ordered (under [] s ∷ own s.parent D)
  unfolding own under
  ordered = rw at_root_root at (root_ordered (under [] s ∷ splices_in s.parent D) (own_neat s.parent D s (neat old (s ∷ D) h)))

  one_lefts : Pairs OneLeft (under [] s ∷ own s.parent D)
  unfolding own under
  one_lefts = rw at_root_root at (root_apart (under [] s ∷ splices_in s.parent D) (own_neat s.parent D s (neat old (s ∷ D) h)))

  -- a child of a run that is not empty
  pub run_child_path : (q : Path) (i : ℕ) → now.path s.parent ≡ some q → s.from ≤ i → i < s.to → now.path (s.parent ++ (i ∷ [])) ≡ some (q ++ ((start D s + (i - s.from)) ∷ []))
  unfolding under new_number
  run_child_path q i e a b =
      let H = own s.parent D in
      k.path (s.parent ++ (i ∷ [])) ∙ rw (
        child_path s.parent D q i (sym (k.path s.parent) ∙ e),
        run_kept (under [] s) H ordered.0 ordered.1 one_lefts.1 one_lefts.0 i a b,
        run_number (under [] s) H ordered.0 ordered.1 one_lefts.1 one_lefts.0 i a b,
        own_start s.parent D s,
      )

  -- after a child that is kept
  pub after_child_path : All (λ t. t.number < s.number) D → (q p : Path) (i : ℕ) → now.path s.parent ≡ some q → s.from ≡ suc i → s.to ≡ suc i → now.path (s.parent ++ (i ∷ [])) ≡ some p
      → (j : ℕ) × (p ≡ q ++ (j ∷ [])) × (start D s ≡ suc j)
  unfolding under
  after_child_path l q p i e a b f =
      let H = own s.parent D in
      let r = map_some (λ j. q ++ (j ∷ [])) (new_number H i) (sym (child_path s.parent D q i (sym (k.path s.parent) ∙ e)) ∙ (sym (k.path (s.parent ++ (i ∷ []))) ∙ f)) in
      let (x, y) = number_some H i r.0 r.1 in
      (r.0, sym r.2, own_start s.parent D s ∙ (after_number H ordered.1 one_lefts.1 (under [] s) (lower s.number s.parent D l) i a b x ∙ ap suc y))

  -- before the first child
  pub first_child_start : All (λ t. t.number < s.number) D → s.from ≡ 0 → s.to ≡ 0 → start D s ≡ 0
  unfolding under
  first_child_start l a b = own_start s.parent D s ∙ first_number (own s.parent D) ordered.1 one_lefts.1 (under [] s) (lower s.number s.parent D l) a b

  -- So the run that the target tells is the run of the splice.
  pub target_run : All (λ t. t.number < s.number) D → (t : Target s) (r : Run) → run_by_target now.path s t ≡ some r → run_now now s ≡ some r
  unfolding run_by_target deleted bind
  target_run l t r e = go (ready old D s now h k) t e
    where
      same : (q q' : Path) (a a' b b' : ℕ) → q ≡ q' → a ≡ a' → b ≡ b' → ◌≡◌ {A = Option Run} (some (record { parent = q; from = a; to = b })) (some (record { parent = q'; from = a'; to = b' }))
      same q q' a a' b b' x y z = rw (x, y, z)

      go : Ready old D s now → (t : Target s) → run_by_target now.path s t ≡ some r → run_now now s ≡ some r
      go w (first_child a b) e =
          let p : now.path s.parent ≡ some w.q = k.path s.parent ∙ w.at in
          let z = first_child_start l a b in
          w.run ∙ (same w.q w.q _ 0 _ 0 refl z (omega arith) ∙ (rw p at e))
      go w (after_child i a b) e =
          let (p, x, y) = map_some (λ (p : Path). record { parent = front p; from = suc (last p); to = suc (last p) }) (now.path (s.parent ++ (i ∷ []))) e in
          let (j, u, z) = after_child_path l w.q p i (k.path s.parent ∙ w.at) a b x in
          let f : w.q ≡ front p = sym (ap front u ∙ front_child w.q j) in
          let g : j ≡ last p = sym (ap last u ∙ last_child w.q j) in
          w.run ∙ (same w.q (front p) _ (suc (last p)) _ (suc (last p)) f (omega arith) (omega arith) ∙ ap {B = Option Run} some y)
      go w (children i j m a b) e =
          let q : now.path s.parent ≡ some w.q = k.path s.parent ∙ w.at in
          let f = front_child w.q (start D s + (i - s.from)) in
          let g = last_child w.q (start D s + (i - s.from)) in
          let g' = last_child w.q (start D s + (j - s.from)) in
          w.run ∙ (same w.q _ _ _ _ _ (sym f) (omega arith) (omega arith) ∙ (rw (run_child_path w.q i q (omega arith) (omega arith), run_child_path w.q j q (omega arith) (omega arith)) at e))

-- ── The whole list ──────────────────────────────────────────────────────────────────────────────────────────

module _ {A : Type 0} where
  -- "numbered as performed"
  abbrev pub Rising : List (Splice A) → Type 0
  Rising S = Pairs (λ s t. s.number < t.number) S

  performed : (old : Tree A) (S D : List (Splice A)) (T : All Target S) (now final : State A) → AllApart old (reverse_aux S D) → Rising S → All (λ s. All (λ t. t.number < s.number) D) S → After old D now
      → perform_by_targets S T now ≡ some final → final ≡ performs S now
  unfolding perform_by_targets performs
  performed old [] D T now final h n l k e = sym (some_inj e)
  performed old (s ∷ S) D T now final h n l k e =
      let g = apart_done old S (s ∷ D) h in
      let (r, x, y) = bind_some (run_by_target now.path s T.0) (λ r. perform_by_targets S T.1 (perform_at r s now)) e in
      let z : perform s now ≡ perform_at r s now = perform_at_lem s now r (target_run old D s now g k l.0 T.0 r x) in
      performed old S (s ∷ D) T.1 (perform s now) final h n.1 (All-map₂ (λ t a b. (a, b)) S n.0 l.1) (perform_after old D s now g k) (rw z y)

  -- Splices that are apart, numbered as performed and placed by their targets' present paths: if no target is gone, the same is done as by shifted starts.
  pub performed_by_targets : (old : Tree A) (S : List (Splice A)) (T : All Target S) (final : State A) → AllApart old S → Rising S
      → perform_by_targets S T (begin old) ≡ some final → final ≡ performs S (begin old)
  performed_by_targets old S T final h n e =
      performed old S [] T (begin old) final (apart_perm old S (reverse_aux S []) (Permᴰ.symm (reversed S)) h) n (nothing S) (begin_after old) e
    where
      nothing : (S : List (Splice A)) → All (λ s. All (λ (t : Splice A). t.number < s.number) []) S
      nothing [] = tt
      nothing (s ∷ S) = (tt, nothing S)

  -- So all that demand 3 says holds of what they make.
  pub demanded_by_targets : (old : Tree A) (S : List (Splice A)) (T : All Target S) (final : State A) → AllApart old S → Rising S
      → perform_by_targets S T (begin old) ≡ some final → Demanded old S final
  demanded_by_targets old S T final h n e = rw (performed_by_targets old S T final h n e) (demand old S S h (Permᴰ.refl S))
