-- By edge rule 1 too a dependent's owner is a call 2 of a node by a node, and one of the changes. It may be sorted before its dependent or after it.
-- Assumes nothing.
use Rattle.std.specs.Prelude.{◌≡◌, Bool, cond, not, ◌&&◌, ltb}
use Rattle.std.proofs.Math.Path.{refl, sym, ap}
use Rattle.std.proofs.Common.{◌∙◌}
use Rattle.std.proofs.Math.Bool.{true, false}
use mathlib.Core.List.{List, [], ◌∷◌, ◌++◌, map, append_assoc}
use Rattle.std.proofs.Math.Option.{Option, none, some}
use Prim.Native.Nat.{ℕ, suc, ◌<◌}
use native.Mathlib.Omega.{arith}
use Rattle.std.proofs.Math.ListN.{length, get_or, length-append}
use Rattle.std.proofs.Math.Seq.{get_or_at}
use Rattle.orders.specs.Lists.{All}
use Rattle.orders.specs.ListLaws.{bool_absurd, both_true}
use Rattle.definition.specs.Basics.{keep, numbered}
use Rattle.definition.specs.Elements.{Table}
use Rattle.definition.specs.Recording.{Change, delete}
use Rattle.definition.specs.Planning.{Fate, dependent, discarded, is_discarded, node_by_node, inner}
use Rattle.definition.specs.EdgeRule.{takes, region_depth, innermost, region_of, fate_in, fate_within, fate_among, fates1}
use Rattle.definition.specs.Running.{owned}
use Rattle.definition_laws.specs.Basics.{All-keep}

-- of what may be there
abbrev Holds : {A : Type 0} → (A → Type 0) → Option A → Type 0
Holds P none = Unit {0}
Holds P (some x) = P x

module _ (T : Table) (cs : List Change) where
  -- r is one of the changes, by its place
  abbrev One : ℕ × Change → Type 0
  One r = (r.0 < length cs) × (get_or cs r.0 (delete 0) ≡ r.1)

  each_one : (p l : List Change) (k : ℕ) → length p ≡ k → cs ≡ p ++ l → All One (numbered k l)
  unfolding numbered
  each_one p [] k e q = tt
  each_one p (c ∷ l) k e q =
      let long = ap length q ∙ length-append p (c ∷ l) in (
        (omega arith, ap (λ (l : List Change). get_or l k (delete 0)) q ∙ get_or_at p c l (delete 0) k e),
        each_one (p ++ (c ∷ [])) l (suc k) (length-append p (c ∷ []) ∙ omega arith) (q ∙ sym (append_assoc p (c ∷ []) l)),
      )

  innermost_one : (l : List (ℕ × Change)) → All One l → Holds One (innermost T l)
  unfolding innermost
  innermost_one [] h = tt
  innermost_one (r ∷ l) h = go (innermost T l) (innermost_one l h.1)
    where
      pick : (s : ℕ × Change) (b : Bool) → One s → Holds One (cond b (some r) (some s))
      pick s true k = h.0
      pick s false k = k

      go : (o : Option (ℕ × Change)) → Holds One o → Holds One (elim o as (λ o. Option (ℕ × Change)) [ none ↦ some r | some s ↦ cond (ltb (region_depth T s.1) (region_depth T r.1)) (some r) (some s) ])
      go none k = h.0
      go (some s) k = pick s (ltb (region_depth T s.1) (region_depth T r.1)) k

  -- whoever a fate makes the owner
  abbrev pub Owns : Fate → Type 0
  Owns f = (k : ℕ) → f ≡ dependent k → (k < length cs) × (node_by_node T (get_or cs k (delete 0)) ≡ true)

  fate_owned : (n : ℕ) (c : ℕ × Change) → Owns (fate_within T (numbered 0 cs) (suc n) c)
  unfolding fate_within fate_in inner region_of is_discarded owned
  fate_owned n c = go (region_of T (numbered 0 cs) c) (innermost_one (keep (λ r. takes T r c) (numbered 0 cs)) (All-keep One (λ r. takes T r c) (numbered 0 cs) (each_one [] cs 0 refl refl)))
    where
      by : (r : ℕ × Change) (b : Bool) → (b ≡ true → node_by_node T r.1 ≡ true) → One r → Owns (cond b (dependent r.0) (discarded r.0))
      by r true f h k e = let z : r.0 ≡ k = cc in rw (← z) (h.0, rw h.1 (f refl))
      by r false f h k e = bool_absurd refl (ap is_discarded e)

      go : (o : Option (ℕ × Change)) → Holds One o → Owns (fate_in T (fate_within T (numbered 0 cs) n) o)
      go none h = λ k e. bool_absurd refl (ap (owned none) e)
      go (some r) h = by r (not (is_discarded (fate_within T (numbered 0 cs) n r)) && node_by_node T r.1) (λ q. (both_true (not (is_discarded (fate_within T (numbered 0 cs) n r))) (node_by_node T r.1) q).1) h

  every : (l : List (ℕ × Change)) → All Owns (map (fate_among T (numbered 0 cs)) l)
  unfolding fate_among
  every [] = tt
  every (c ∷ l) = (fate_owned (region_depth T c.1) c, every l)

  -- each dependent has such an owner
  pub edge_owned : All Owns (fates1 T cs)
  unfolding fates1
  edge_owned = every (numbered 0 cs)
