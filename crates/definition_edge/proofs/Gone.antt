-- Splices done one after the other where their targets tell: none of them has an end among the children that an earlier one deletes, for that end would be gone.
-- Assumes nothing.
use Rattle.std.specs.Prelude.{◌≡◌, ◌⊎◌, ℕ, suc, ◌≤◌, ◌<◌}
use Rattle.std.proofs.Math.Path.{refl}
use Rattle.std.proofs.Common.{sym, ◌∙◌, inl, inr}
use mathlib.Core.List.{List, [], ◌∷◌, ◌++◌}
use Rattle.std.proofs.Math.Option.{Option, none, some, bind}
use native.Mathlib.Omega.{arith}
use Rattle.orders.specs.Lists.{All, Pairs}
use Rattle.orders.specs.ListLaws.{none_some, map_some, bind_some, All-map}
use Rattle.orders.specs.Tree.{Run, Path, adjust}
use Rattle.orders.specs.Splices.{Splice, State, inserted, perform_at}
use Rattle.orders.proofs.Target.{Target, first_child, after_child, children, run_by_target, perform_by_targets}
use Rattle.definition_laws.specs.Moves.{Keeps, adjust_keeps, more_keeps}
use Rattle.definition_account.proofs.Dropped.{target_drops}

-- child k is the first or the last that t deletes
pub record End {A : Type 0} (t : Splice A) (k : ℕ) : Type 0 where
  pub some : t.from < t.to
  pub one : (k ≡ t.from) ⊎ (suc k ≡ t.to)

-- neither end of t is a child that s deletes
abbrev pub Missed : {A : Type 0} → Splice A → Splice A → Type 0
Missed s t = (k : ℕ) → End t k → s.parent ≡ t.parent → s.from ≤ k → k < s.to → ⊥

module _ {A : Type 0} where
  -- what is there after a splice was there before it
  was_there : (r : Run) (s : Splice A) (now : State A) (e p : Path) → (perform_at r s now).path e ≡ some p → (q : Path) × (now.path e ≡ some q)
  unfolding perform_at
  was_there r s now e p z = let (q, a, b) = bind_some (now.path e) _ z in (q, a)

  -- the ends of what is done are there
  end_there : (path : Path → Option Path) (s : Splice A) (t : Target s) (r : Run) → run_by_target path s t ≡ some r → (k : ℕ) → End s k → (p : Path) × (path (s.parent ++ (k ∷ [])) ≡ some p)
  unfolding run_by_target
  end_there path s (first_child a b) r e k h = absurd (omega (arith, h.some))
  end_there path s (after_child i a b) r e k h = absurd (omega (arith, h.some))
  end_there path s (children i j l a b) r e k h =
      let (p, x, e) = bind_some (path (s.parent ++ (i ∷ []))) _ e in
      let (q, y, e) = map_some _ (path (s.parent ++ (j ∷ []))) e in
      go h.one p q x y
    where
      go : (k ≡ s.from) ⊎ (suc k ≡ s.to) → (p q : Path) → path (s.parent ++ (i ∷ [])) ≡ some p → path (s.parent ++ (j ∷ [])) ≡ some q → (p : Path) × (path (s.parent ++ (k ∷ [])) ≡ some p)
      go (inl z) p q x y = let w : k ≡ i = omega arith in (p, rw w x)
      go (inr z) p q x y = let w : k ≡ j = omega arith in (q, rw w y)

  ends_there : (S : List (Splice A)) (T : All Target S) (now final : State A) → perform_by_targets S T now ≡ some final → All (λ t. (k : ℕ) → End t k → (p : Path) × (now.path (t.parent ++ (k ∷ [])) ≡ some p)) S
  unfolding perform_by_targets
  ends_there [] T now final e = tt
  ends_there (s ∷ S) T now final e =
      let (r, x, e) = bind_some (run_by_target now.path s T.0) _ e in
      (end_there now.path s T.0 r x, All-map (λ t f k h. let (p, z) = f k h in was_there r s now _ p z) S (ends_there S T.1 (perform_at r s now) final e))

  -- ── What is deleted is gone ──

  module _ (now : State A) (h : Keeps now.path) (s : Splice A) where
    deleted_gone : (t : Target s) (r : Run) → run_by_target now.path s t ≡ some r → (k : ℕ) → s.from ≤ k → k < s.to → (perform_at r s now).path (s.parent ++ (k ∷ [])) ≡ none
    unfolding perform_at bind
    deleted_gone t r e k low high = go (now.path (s.parent ++ (k ∷ []))) refl
      where
        go : (o : Option Path) → now.path (s.parent ++ (k ∷ [])) ≡ o → bind o (λ p. adjust r.parent r.from r.to (inserted s) p) ≡ none
        go none z = refl
        go (some p) z = (target_drops now.path h s t r (inserted s) e _ p z).1 (record { child = k; rest = []; leads = refl; low = low; high = high })

    step_missed : (S : List (Splice A)) (T : All Target S) (final : State A) (t : Target s) (r : Run) → run_by_target now.path s t ≡ some r → perform_by_targets S T (perform_at r s now) ≡ some final → All (Missed s) S
    unfolding perform_at inserted
    step_missed S T final t r x e = All-map (λ u f k z same low high. gone u k (f k z) same low high) S (ends_there S T (perform_at r s now) final e)
      where
        gone : (u : Splice A) (k : ℕ) → (p : Path) × ((perform_at r s now).path (u.parent ++ (k ∷ [])) ≡ some p) → s.parent ≡ u.parent → s.from ≤ k → k < s.to → ⊥
        gone u k (p, z) same low high = none_some {a = p} (sym (deleted_gone t r x k low high) ∙ (rw same z))

  -- EACH LATER SPLICE misses the children that an earlier one deletes
  pub missed : (S : List (Splice A)) (T : All Target S) (now final : State A) → Keeps now.path → perform_by_targets S T now ≡ some final → Pairs Missed S
  unfolding perform_by_targets perform_at
  missed [] T now final h e = tt
  missed (s ∷ S) T now final h e =
      let (r, x, e) = bind_some (run_by_target now.path s T.0) _ e in (
        step_missed now h s S T.1 final T.0 r x e,
        missed S T.1 (perform_at r s now) final (more_keeps now.path (adjust r.parent r.from r.to (inserted s)) h (adjust_keeps r.parent r.from r.to (inserted s))) e,
      )
