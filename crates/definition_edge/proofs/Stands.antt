-- What splices that are apart put in stands in the new tree: every prepared list, as it is, among the children of where its parent went.
-- Assumes nothing.
use Rattle.std.specs.Prelude.{◌≡◌, ◌⊎◌, ℕ, ◌-◌, length, drop}
use Rattle.std.proofs.Math.Path.{refl, sym, ap}
use Rattle.std.proofs.Common.{◌∙◌, inl, inr, arith, length-append}
use mathlib.Core.List.Memᴰ
use mathlib.Core.List.{List, [], ◌∷◌, ◌++◌, append_assoc, Memᴰ}
use Rattle.std.proofs.Math.Option.{Option, none, some}
use Rattle.std.proofs.Math.ListN.{take}
use Rattle.orders.specs.Lists.{All, Pairs}
use Rattle.orders.specs.ListLaws.{All-mem, All-perm, mem_pick}
use Rattle.orders.specs.Tree.{Tree, Trees, node, list, Path}
use Rattle.orders.proofs.TreeLaws.{list_forest}
use Rattle.orders.specs.Splices.{Splice, State, under, from_root, from_child, at_root, below, left_to_right, new_children, one_go, one_go_all, splices_in, EntersDeleted, Apart, AllApart}
use Rattle.orders.proofs.Children.{sort_perm}
use Rattle.orders.proofs.Parts.{from_child_in}
use Rattle.orders.proofs.Demand.{Demanded}
use Rattle.definition_edge.specs.Stands.{Holds, StandsIn}

module _ {A : Type 0} where
  -- ── One node ──

  children_hold : (n : ℕ) (H : List (Splice A)) (xs : List (Tree A)) → All (λ h. Holds (new_children n H xs) h.prepared) H
  unfolding new_children
  children_hold n [] xs = tt
  children_hold n (h ∷ H) xs =
      let front = take (h.from - n) xs in
      let rest = new_children h.to H (drop (h.to - n) xs) in (
        record { before = front; behind = rest; parted = refl },
        later front h.prepared rest H (children_hold h.to H (drop (h.to - n) xs)),
      )
    where
      later : (f p r : List (Tree A)) (G : List (Splice A)) → All (λ g. Holds r g.prepared) G → All (λ g. Holds (f ++ (p ++ r)) g.prepared) G
      later f p r [] k = tt
      later f p r (g ∷ G) k = (
        record {
          before = f ++ (p ++ k.0.before);
          behind = k.0.behind;
          parted = ap (λ l. f ++ (p ++ l)) k.0.parted ∙ (ap (λ l. f ++ l) (sym (append_assoc p k.0.before _)) ∙ sym (append_assoc f (p ++ k.0.before) _));
        },
        later f p r G k.1,
      )

  -- a splice is among those in its parent
  mem_in : (e : Path) (s : Splice A) (S : List (Splice A)) → Memᴰ (under e s) S → Memᴰ (under [] s) (splices_in e S)
  unfolding splices_in below
  mem_in [] s S m = m
  mem_in (i ∷ e) s S m = mem_in e s (below i S) (mem_pick (from_child i) S (under (i ∷ e) s) (under e s) m (from_child_in i e s))

  node_holds : (s : Splice A) (S : List (Splice A)) (k : A) (cs : Trees A) → Memᴰ (under [] s) S → (new : Trees A) × (one_go S (node k cs) ≡ node k new) × Holds (list new) s.prepared
  unfolding one_go at_root from_root under
  node_holds s S k cs m =
      let xs = one_go_all S 0 cs in
      let H = at_root S in
      let all = All-perm (λ h. Holds (new_children 0 (left_to_right H) xs) h.prepared) (sort_perm H) (children_hold 0 (left_to_right H) xs) in
      let one = All-mem (λ h. Holds (new_children 0 (left_to_right H) xs) h.prepared) H (under [] s) all (mem_pick from_root S (under [] s) (under [] s) m refl) in
      (_, refl, rw (list_forest (new_children 0 (left_to_right H) xs)) one)

  -- ── The whole tree ──

  -- of any two splices, one before the other
  either_apart : (S : List (Splice A)) (s t : Splice A) → Pairs Apart S → Memᴰ s S → Memᴰ t S → (s ≡ t) ⊎ (Apart s t ⊎ Apart t s)
  either_apart [] s t h m n = absurd (Memᴰ.not-nil m)
  either_apart (x ∷ S) s t h m n = go (Memᴰ.cases_cons m) (Memᴰ.cases_cons n) (λ m n. either_apart S s t h.1 m n)
    where
      go : (s ≡ x) ⊎ Memᴰ s S → (t ≡ x) ⊎ Memᴰ t S → (Memᴰ s S → Memᴰ t S → (s ≡ t) ⊎ (Apart s t ⊎ Apart t s)) → (s ≡ t) ⊎ (Apart s t ⊎ Apart t s)
      go (inl a) (inl b) k = inl (a ∙ sym b)
      go (inl a) (inr b) k = inr (inl (rw a (All-mem (Apart x) S t h.0 b)))
      go (inr a) (inl b) k = inr (inr (rw b (All-mem (Apart x) S s h.0 a)))
      go (inr a) (inr b) k = k a b

  -- no parent is dropped
  parent_stays : (S : List (Splice A)) (s : Splice A) → Pairs Apart S → Memᴰ s S → EntersDeleted S s.parent → ⊥
  parent_stays S s h m d = go (either_apart S s d.by h m d.one)
    where
      go : (s ≡ d.by) ⊎ (Apart s d.by ⊎ Apart d.by s) → ⊥
      go (inl e) = omega (arith, ap length (d.enters.leads ∙ ap (λ (t : Splice A). t.parent ++ (d.enters.child ∷ d.enters.rest)) (sym e)), length-append s.parent (d.enters.child ∷ d.enters.rest))
      go (inr (inl a)) = a.kept' d.enters
      go (inr (inr a)) = a.kept d.enters

  -- EVERY PREPARED LIST STANDS in the new tree
  pub prepared_stands : (old : Tree A) (S : List (Splice A)) (now : State A) → AllApart old S → Demanded old S now → (s : Splice A) → Memᴰ s S → (q : Path) × (now.path s.parent ≡ some q) × StandsIn now.tree q s.prepared
  unfolding under
  prepared_stands old S now h d s m = go (now.path s.parent) refl
    where
      go : (o : Option Path) → now.path s.parent ≡ o → (q : Path) × (now.path s.parent ≡ some q) × StandsIn now.tree q s.prepared
      go none e = absurd (parent_stays S s h.apart m ((d.dropped s.parent).0 e))
      go (some q) e =
          let f = All-mem _ S s h.fits m in
          let (new, z, k) = node_holds s (splices_in s.parent S) f.kind f.children (mem_in s.parent s S m) in
          (q, e, record { kind = f.kind; children = new; found = d.subtree s.parent q _ f.found e ∙ ap {B = Option (Tree A)} some z; holds = k })
