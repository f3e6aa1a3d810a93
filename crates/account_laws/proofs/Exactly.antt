-- Just which pair is told, from both halves.
-- Assumes nothing.
use Rattle.std.specs.Prelude.{◌≡◌, ◌↔◌}
use Rattle.std.proofs.Math.Path.{refl, sym, ap}
use Rattle.std.proofs.Common.{◌∙◌}
use mathlib.Core.List.{List}
use Rattle.std.proofs.Math.Option.{Option, none, some}
use Prim.Native.Nat.{ℕ, ◌≤◌}
use native.Mathlib.Omega.{arith}
use Rattle.orders.specs.ListLaws.{some_inj}
use Rattle.definition.specs.Elements.{Table}
use Rattle.definition.specs.Recording.{Change}
use Rattle.definition.specs.Planning.{overlap}
use Rattle.account_laws.specs.Words.{last_below, at, Overlap}
use Rattle.account_laws.proofs.Overlap.{tells_all, is_peer, overlap_peer, overlap_true, overlap_first}

module _ (T : Table) (cs : List Change) where
  -- none is told exactly if no pair overlaps
  pub overlap_none : (overlap T cs ≡ none) ↔ ((j k : ℕ) → ¬ Overlap T cs j k)
  overlap_none = (λ e j k o. (rw e at (tells_all T cs)) j k (omega arith) o, λ h. go h (overlap T cs) refl)
    where
      go : ((j k : ℕ) → ¬ Overlap T cs j k) → (o : Option (ℕ × ℕ)) → overlap T cs ≡ o → overlap T cs ≡ none
      go h none e = e
      go h (some p) e = absurd (h p.0 p.1 (overlap_true T cs p.0 p.1 e))

  -- both together, and that they settle what is told
  pub overlap_exactly : (j k : ℕ) → (overlap T cs ≡ some (j, k)) ↔ (Overlap T cs j k × ((i m : ℕ) → Overlap T cs i m → k ≤ m))
  overlap_exactly j k = (λ e. (overlap_true T cs j k e, overlap_first T cs j k e), λ h. go h.0 h.1 (overlap T cs) refl)
    where
      go : Overlap T cs j k → ((i m : ℕ) → Overlap T cs i m → k ≤ m) → (o : Option (ℕ × ℕ)) → overlap T cs ≡ o → overlap T cs ≡ some (j, k)
      go o h none e = absurd (overlap_none.0 e j k o)
      go o h (some p) e =
          let q = overlap_true T cs p.0 p.1 e in
          let a : p.1 ≡ k = omega (arith, h p.0 p.1 q, overlap_first T cs p.0 p.1 e j k o) in
          let b : p.0 ≡ j = some_inj (sym (overlap_peer T cs p.0 p.1 q) ∙ (ap (λ n. last_below n (is_peer T cs (at cs n))) a ∙ overlap_peer T cs j k o)) in
          e ∙ rw (a, b)
