-- THE ACCOUNT OF RULE 1 IS TRUE: what it says of a change is so, and where it is so it says so.
-- Assumes nothing.
use Rattle.std.specs.Prelude.{◌≡◌, Bool, not, ◌&&◌, ◌↔◌}
use Rattle.std.proofs.Math.Path.{refl, ap}
use Rattle.std.proofs.Common.{sym, ◌∙◌}
use Rattle.std.proofs.Math.Bool.{true, false, cond}
use mathlib.Core.List.Memᴰ
use mathlib.Core.List.{List, Memᴰ}
use Rattle.std.proofs.Math.Option.{Option, none, some}
use Prim.Native.Nat.{ℕ, zero, suc, ◌<◌}
use native.Mathlib.Omega.{arith}
use Rattle.std.proofs.Math.ListN.{get_elem?}
use Rattle.orders.specs.Lists.{All}
use Rattle.orders.specs.ListLaws.{some_inj, All-mem, get_mem, get_map}
use Rattle.orders.specs.Tree.{Tree}
use Rattle.definition.specs.Basics.{numbered}
use Rattle.definition.specs.Elements.{Table, table}
use Rattle.definition.specs.Recording.{Change}
use Rattle.definition.specs.Planning.{Fate, own, dependent, discarded, is_discarded, node_by_node, inner}
use Rattle.definition.specs.EdgeRule.{region_depth, region_of, fate_in, fate_within, fate_among, fates1}
use Rattle.definition_laws.specs.Basics.{get_numbered, numbered_get}
use Rattle.definition_laws.specs.Performed.{numbered_rising}
use Rattle.definition_laws.specs.Right.{Sits}
use Rattle.definition_laws.specs.Stages.{numbered_all}
use Rattle.definition_edge.specs.Region.{Rising, Innermost}
use Rattle.definition_edge.proofs.Region.{region_some, region_innermost, region_nowhere}
use Rattle.definition_edge.proofs.Depths.{taken_deeper}
use Rattle.definition_edge.specs.Fates.{FateAt, Under, Says, owns}

-- ── What a region makes of inner changes ────────────────────────────────────────────────────────────────────

module _ (T : Table) where
  -- only of such a call does the fate matter
  inner_same : (k : ℕ) (f g : Fate) (c : Change) → (node_by_node T c ≡ true → f ≡ g) → inner T k f c ≡ inner T k g c
  unfolding inner
  inner_same k f g c h = go (node_by_node T c) refl
    where
      off : (a : Bool) → cond (a && false) (dependent k) (discarded k) ≡ discarded k
      off true = refl
      off false = refl

      go : (b : Bool) → node_by_node T c ≡ b → inner T k f c ≡ inner T k g c
      go true e = rw (h e)
      go false e = rw (e, off (not (is_discarded f)), off (not (is_discarded g)))

module _ (ts : List (Tree ℕ)) where
  abbrev T : Table
  T = table 0 0 ts

  module _ (all : List (ℕ × Change)) (h : Rising all) (s : All (λ c. Sits T c.1) all) where
    sits : (c : ℕ × Change) → Memᴰ c all → Sits T c.1
    sits c m = All-mem (λ c. Sits T c.1) all c s m

    -- as many regions as the depth of the target parent are enough, and more do not matter
    stable : (n m : ℕ) (c : ℕ × Change) → Memᴰ c all → region_depth T c.1 < n → region_depth T c.1 < m → fate_within T all n c ≡ fate_within T all m c
    unfolding fate_within fate_in
    stable zero m c z a b = absurd (omega arith)
    stable (suc n) zero c z a b = absurd (omega arith)
    stable (suc n) (suc m) c z a b = go (region_of T all c) refl (λ r z a b. stable n m r z a b)
      where
        go : (o : Option (ℕ × Change)) → region_of T all c ≡ o → ((r : ℕ × Change) → Memᴰ r all → region_depth T r.1 < n → region_depth T r.1 < m → fate_within T all n r ≡ fate_within T all m r)
            → fate_in T (fate_within T all n) o ≡ fate_in T (fate_within T all m) o
        go none e ih = refl
        go (some r) e ih =
            let k = region_some T all h c r e in
            inner_same T r.0 (fate_within T all n r) (fate_within T all m r) r.1 (λ q.
            let d = taken_deeper ts r c (sits r k.one) (sits c z) k.belongs q in
            ih r k.one (omega (arith, d)) (omega (arith, d)))

    -- THE RULE FOR FATES, without counting: by the region, and by what becomes of that
    pub fate_by_region : (c : ℕ × Change) → Memᴰ c all → fate_among T all c ≡ fate_in T (fate_among T all) (region_of T all c)
    unfolding fate_among fate_within fate_in
    fate_by_region c z = go (region_of T all c) refl
      where
        d : ℕ
        d = region_depth T c.1

        go : (o : Option (ℕ × Change)) → region_of T all c ≡ o → fate_in T (fate_within T all d) o ≡ fate_in T (fate_among T all) o
        go none e = refl
        go (some r) e =
            let k = region_some T all h c r e in
            inner_same T r.0 (fate_within T all d r) (fate_among T all r) r.1 (λ q.
            stable d (suc (region_depth T r.1)) r k.one (taken_deeper ts r c (sits r k.one) (sits c z) k.belongs q) (omega arith))

-- ── The account ─────────────────────────────────────────────────────────────────────────────────────────────

module _ (ts : List (Tree ℕ)) (cs : List Change) (s : All (Sits (table 0 0 ts)) cs) where
  abbrev T₀ : Table
  T₀ = table 0 0 ts

  abbrev all : List (ℕ × Change)
  all = numbered 0 cs

  rising : Rising all
  rising = (numbered_rising 0 cs).1

  -- at each place, what is told of the change there
  fate_at : (i : ℕ) (c : Change) → get_elem? cs i ≡ some c → FateAt T₀ cs i (fate_among T₀ all (i, c))
  unfolding fates1
  fate_at i c e = get_map (fate_among T₀ all) all i (i, c) (get_numbered 0 i cs i c (omega arith) e)

  fate_of : (r : ℕ × Change) → Memᴰ r all → FateAt T₀ cs r.0 (fate_among T₀ all r)
  fate_of r m = let (i, a, b) = numbered_get 0 cs r m in let z : r.0 ≡ i = omega arith in fate_at r.0 r.1 (rw z b)

  module _ (i : ℕ) (c : Change) (e : get_elem? cs i ≡ some c) where
    mem : Memᴰ (i, c) all
    mem = get_mem all i (i, c) (get_numbered 0 i cs i c (omega arith) e)

    by_region : fate_among T₀ all (i, c) ≡ fate_in T₀ (fate_among T₀ all) (region_of T₀ all (i, c))
    by_region = fate_by_region ts all rising (numbered_all (Sits T₀) 0 cs s) (i, c) mem

    -- by the region
    says_region : (o : Option (ℕ × Change)) → region_of T₀ all (i, c) ≡ o → Says T₀ cs i c (fate_in T₀ (fate_among T₀ all) o)
    unfolding fate_in inner
    says_region none q = (region_nowhere T₀ all rising (i, c)).0 q
    says_region (some r) q =
        let k = region_some T₀ all rising (i, c) r q in
        go k (owns T₀ (fate_among T₀ all r) r.1) refl
      where
        under : Innermost T₀ all (i, c) r → (b : Bool) → owns T₀ (fate_among T₀ all r) r.1 ≡ b → Under T₀ cs i c r.0 b
        under k b z = record { region = r.1; innermost = k; fate = fate_among T₀ all r; told = fate_of r k.one; owns = z }

        go : Innermost T₀ all (i, c) r → (b : Bool) → owns T₀ (fate_among T₀ all r) r.1 ≡ b → Says T₀ cs i c (cond b (dependent r.0) (discarded r.0))
        go k true z = under k true z
        go k false z = under k false z

    says : Says T₀ cs i c (fate_among T₀ all (i, c))
    says = rw by_region (says_region (region_of T₀ all (i, c)) refl)

    -- what it says settles it
    under_is : (k : ℕ) (keeps : Bool) → Under T₀ cs i c k keeps → fate_among T₀ all (i, c) ≡ cond keeps (dependent k) (discarded k)
    unfolding fate_in inner
    under_is k keeps u =
        let f : u.fate ≡ fate_among T₀ all (k, u.region) = some_inj (sym u.told ∙ fate_of (k, u.region) u.innermost.one) in
        by_region ∙ (ap (fate_in T₀ (fate_among T₀ all)) ((region_innermost T₀ all rising (i, c) (k, u.region)).1 u.innermost) ∙ ap (λ b. cond b (dependent k) (discarded k)) (ap (λ g. owns T₀ g u.region) (sym f) ∙ u.owns))

    only : (f : Fate) → Says T₀ cs i c f → fate_among T₀ all (i, c) ≡ f
    unfolding fate_in
    only own h = by_region ∙ ap (fate_in T₀ (fate_among T₀ all)) ((region_nowhere T₀ all rising (i, c)).1 h)
    only (dependent k) h = under_is k true h
    only (discarded k) h = under_is k false h

    -- THE ACCOUNT IS TRUE: the fate at a place is f exactly if what f says of the change there is so
    pub fates_true : (f : Fate) → FateAt T₀ cs i f ↔ Says T₀ cs i c f
    fates_true f = (λ z. rw (← some_inj (sym (fate_at i c e) ∙ z)) says, λ h. rw (← only f h) (fate_at i c e))
