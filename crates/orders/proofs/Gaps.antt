-- The one go said once more, gap by gap: it is the same, so a reader may take either.
-- Assumes nothing.
use Rattle.std.specs.Prelude.{◌≡◌, true, false, cond, length, take, drop, eqb}
use Rattle.std.proofs.Math.Path.{refl}
use Rattle.std.proofs.Common.{◌∙◌, zero-add, suc-add, eq-eqb, ne_eqb}
use mathlib.Core.List.{List, [], ◌∷◌, ◌++◌, append_assoc, append-nil}
use Rattle.std.proofs.Math.Option.{some}
use Prim.Native.Nat.{ℕ, zero, suc, ◌+◌, ◌-◌, ◌≤◌, ◌<◌}
use native.Mathlib.Omega.{arith}
use Rattle.std.proofs.Math.ListN.{get_elem?}
use Rattle.orders.specs.Lists.{any}
use Rattle.orders.specs.Tree.{Tree, Trees, node, token, nil, cons, list, forest}
use Rattle.orders.specs.Splices.{Splice, at_root, below, left_to_right, new_children, one_go, one_go_all, AllApart}
use Rattle.orders.proofs.Numbers.{holds, holds_yes, holds_no}
use Rattle.orders.proofs.Children.{Chain, chain_le, left_over, level_chain}
use Rattle.orders.proofs.Parts.{root_level, below_apart}
use Rattle.orders.proofs.Paths.{length_children}

-- ── The walk ────────────────────────────────────────────────────────────────────────────────────────────────

module _ {A : Type 0} where
  -- the prepared lists of the runs that start at child n; H are the splices in the node, from left to right
  unfoldable pub starting_at : ℕ → List (Splice A) → List (Tree A)
  starting_at n [] = []
  starting_at n (h ∷ H) = cond (eqb h.from n) h.prepared [] ++ starting_at n H

  -- the walk comes to each gap between the children, and writes there what starts there; then the child, rewritten likewise, unless a run holds it
  unfoldable mutual
    pub walk : List (Splice A) → Tree A → Tree A
    walk S (node a cs) = node a (forest (walk_all S (left_to_right (at_root S)) 0 cs))
    walk S (token a text) = token a text

    -- from child n on
    pub walk_all : List (Splice A) → List (Splice A) → ℕ → Trees A → List (Tree A)
    walk_all S H n nil = starting_at n H
    walk_all S H n (cons c cs) = starting_at n H ++ (cond (any (holds n) H) [] (walk (below n S) c ∷ []) ++ walk_all S H (suc n) cs)

-- ── It is the one go ────────────────────────────────────────────────────────────────────────────────────────

module _ {A : Type 0} where
  -- the walk over children that are rewritten already
  unfoldable gap_by_gap : List (Splice A) → ℕ → List (Tree A) → List (Tree A)
  gap_by_gap H n [] = starting_at n H
  gap_by_gap H n (x ∷ xs) = starting_at n H ++ (cond (any (holds n) H) [] (x ∷ []) ++ gap_by_gap H (suc n) xs)

  nothing : (n : ℕ) (xs : List (Tree A)) → gap_by_gap [] n xs ≡ xs
  unfolding gap_by_gap starting_at any
  nothing n [] = refl
  nothing n (x ∷ xs) = rw (nothing (suc n) xs)

  -- past a run it plays no part
  starting_past : (n : ℕ) (h : Splice A) (H : List (Splice A)) → h.from < n → starting_at n (h ∷ H) ≡ starting_at n H
  unfolding starting_at
  starting_past n h H l = rw (ne_eqb h.from n (λ e. omega arith))

  held_past : (n : ℕ) (h : Splice A) (H : List (Splice A)) → h.to ≤ n → any (holds n) (h ∷ H) ≡ any (holds n) H
  unfolding any
  held_past n h H k = rw (holds_no n h (λ w. k))

  past_run : (n : ℕ) (h : Splice A) (H : List (Splice A)) (xs : List (Tree A)) → h.from < n → h.to ≤ n → gap_by_gap (h ∷ H) n xs ≡ gap_by_gap H n xs
  unfolding gap_by_gap
  past_run n h H [] l k = starting_past n h H l
  past_run n h H (x ∷ xs) l k = rw (starting_past n h H l, held_past n h H k, past_run (suc n) h H xs (omega arith) (omega arith))

  -- before the first run there is nothing but children
  starting_before : (n k m : ℕ) (H : List (Splice A)) → Chain k m H → n < k → starting_at n H ≡ []
  unfolding starting_at
  starting_before n k m [] c l = refl
  starting_before n k m (h ∷ H) c l = rw (ne_eqb h.from n (λ e. omega (arith, c.0)), starting_before n h.to m H c.2 (omega (arith, c.0, c.1)))

  held_before : (n k m : ℕ) (H : List (Splice A)) → Chain k m H → n < k → any (holds n) H ≡ false
  unfolding any
  held_before n k m [] c l = refl
  held_before n k m (h ∷ H) c l = rw (holds_no n h (λ w. absurd (omega (arith, c.0))), held_before n h.to m H c.2 (omega (arith, c.0, c.1)))

  held_in : (n : ℕ) (h : Splice A) (H : List (Splice A)) → h.from ≤ n → n < h.to → any (holds n) (h ∷ H) ≡ true
  unfolding any
  held_in n h H l k = rw (holds_yes n h l k)

  -- in a run nothing is written
  in_run_lem : (n m : ℕ) (h : Splice A) (H : List (Splice A)) (xs : List (Tree A)) (d : ℕ) → Chain h.to m H → h.from < n → n + d ≡ h.to → d ≤ length xs → gap_by_gap (h ∷ H) n xs ≡ gap_by_gap H h.to (drop d xs)
  unfolding gap_by_gap
  in_run_lem n m h H xs zero c l e k = let z : n ≡ h.to = omega arith in rw z (past_run h.to h H xs (omega arith) (omega arith))
  in_run_lem n m h H [] (suc d) c l e k = absurd (omega arith)
  in_run_lem n m h H (x ∷ xs) (suc d) c l e k =
      rw (starting_past n h H l, starting_before n h.to m H c (omega arith), held_in n h H (omega arith) (omega arith)) (in_run_lem (suc n) m h H xs d c (omega arith) (omega arith) (omega arith))

  starting_at_lem : (n : ℕ) (h : Splice A) (H : List (Splice A)) → h.from ≡ n → starting_at n (h ∷ H) ≡ h.prepared ++ starting_at n H
  unfolding starting_at
  starting_at_lem n h H e = rw (eq-eqb h.from n e)

  -- at the start of a run its prepared list is written, and the walk goes on at its end
  at_run : (n m : ℕ) (h : Splice A) (H : List (Splice A)) (xs : List (Tree A)) (d : ℕ) → h.from ≡ n → Chain h.to m H → n + d ≡ h.to → n + length xs ≡ m → gap_by_gap (h ∷ H) n xs ≡ h.prepared ++ gap_by_gap H h.to (drop d xs)
  unfolding gap_by_gap
  at_run n m h H [] zero f c e k = let z : n ≡ h.to = omega arith in rw z (starting_at_lem h.to h H (f ∙ z))
  at_run n m h H (x ∷ xs) zero f c e k = let z : n ≡ h.to = omega arith in
      rw (starting_at_lem n h H f, held_past n h H (omega arith), past_run (suc n) h H xs (omega arith) (omega arith), z) (simp append_assoc)
  at_run n m h H [] (suc d) f c e k = absurd (omega (arith, chain_le h.to m H c))
  at_run n m h H (x ∷ xs) (suc d) f c e k =
      rw (starting_at_lem n h H f, starting_before n h.to m H c (omega arith), held_in n h H (omega arith) (omega arith), append-nil h.prepared, in_run_lem (suc n) m h H xs d c (omega arith) (omega arith) (omega (arith, chain_le h.to m H c)))

  to_run : (n m : ℕ) (h : Splice A) (H : List (Splice A)) (xs : List (Tree A)) (d w : ℕ) → n + d ≡ h.from → h.from + w ≡ h.to → Chain h.to m H → n + length xs ≡ m
      → gap_by_gap (h ∷ H) n xs ≡ take d xs ++ (h.prepared ++ gap_by_gap H h.to (drop (d + w) xs))
  unfolding gap_by_gap
  to_run n m h H xs zero w f e c k = let z : 0 + w ≡ w = omega arith in rw z (at_run n m h H xs w (omega arith) c (omega arith) k)
  to_run n m h H [] (suc d) w f e c k = absurd (omega (arith, chain_le h.to m H c))
  to_run n m h H (x ∷ xs) (suc d) w f e c k =
      rw (suc-add d w, starting_before n h.from m (h ∷ H) (omega arith, omega arith, c) (omega arith), held_before n h.from m (h ∷ H) (omega arith, omega arith, c) (omega arith), to_run (suc n) m h H xs d w (omega arith) e c (omega arith))

  gaps_children : (n m : ℕ) (H : List (Splice A)) (xs : List (Tree A)) → Chain n m H → n + length xs ≡ m → gap_by_gap H n xs ≡ new_children n H xs
  unfolding new_children
  gaps_children n m [] xs c k = nothing n xs
  gaps_children n m (h ∷ H) xs c k =
      let z : (h.from - n) + (h.to - h.from) ≡ h.to - n = omega (arith, c.0, c.1) in
      to_run n m h H xs (h.from - n) (h.to - h.from) (omega (arith, c.0)) (omega (arith, c.1)) c.2 k ∙ rw (z, gaps_children h.to m H (drop (h.to - n) xs) c.2 (left_over n m h H xs k c))

  mutual
    unfolding walk one_go gap_by_gap list

    -- the walk gap by gap is the one go
    pub walk_one_go : (S : List (Splice A)) (old : Tree A) → AllApart old S → walk S old ≡ one_go S old
    walk_one_go S (token a text) h = refl
    walk_one_go S (node a cs) h =
        rw (
          walks_one_go S (left_to_right (at_root S)) 0 cs (λ k i c e g. below_apart a cs i c S (rw (← e, zero-add k) g) h),
          gaps_children 0 (length (list cs)) (left_to_right (at_root S)) (one_go_all S 0 cs) (level_chain (length (list cs)) (at_root S) (root_level a cs S h)) (zero-add _ ∙ length_children S 0 cs),
        )

    walks_one_go : (S H : List (Splice A)) (n : ℕ) (cs : Trees A) → ((k i : ℕ) (c : Tree A) → n + k ≡ i → get_elem? (list cs) k ≡ some c → AllApart c (below i S)) → walk_all S H n cs ≡ gap_by_gap H n (one_go_all S n cs)
    walks_one_go S H n nil h = refl
    walks_one_go S H n (cons c cs) h = rw (walk_one_go (below n S) c (h 0 n c (omega arith) refl), walks_one_go S H (suc n) cs (λ k i d e g. h (suc k) i d (omega arith) g))
