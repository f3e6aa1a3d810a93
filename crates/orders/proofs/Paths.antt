-- Where the one go writes the element of an old path: which paths are dropped, and what stands where the others lead.
-- Assumes nothing.
use Rattle.std.specs.Prelude.{◌≡◌, true, false, ◌⊎◌, length}
use Rattle.std.proofs.Math.Path.{refl, ap}
use Rattle.std.proofs.Common.{sym, ◌∙◌, inl, inr, zero-add}
use mathlib.Core.List.{List, [], ◌∷◌, ◌++◌, Memᴰ}
use Rattle.std.proofs.Math.Option.{Option, none, some, map, bind}
use Prim.Native.Nat.{ℕ, zero, suc, ◌+◌, ◌≤◌, ◌<◌}
use native.Mathlib.Omega.{arith}
use Rattle.std.proofs.Math.ListN.{get_elem?}
use Rattle.orders.specs.Lists.{pick, any, All}
use Rattle.orders.specs.Tree.{Tree, Trees, node, token, nil, cons, list, label, Path, resolve}
use Rattle.orders.specs.Splices.{Splice, under, from_root, from_child, at_root, below, left_to_right, new_children, one_go, one_go_all, Enters, EntersDeleted, AtOrBelow, splices_in, AllApart}
use Rattle.orders.specs.ListLaws.{some_inj, none_some, map_some, bind_some, bind_none, bool?, any_mem, mem_any, All-pick, pick_mem, mem_pick}
use Rattle.orders.proofs.TreeLaws.{forest_list, resolve_child, resolve_forest}
use Rattle.orders.proofs.Numbers.{holds, holds_in, holds_yes, new_number}
use Rattle.orders.proofs.Children.{get_child}
use Rattle.orders.proofs.Parts.{from_root_some, from_child_some, from_child_in, root_level, below_apart}

module _ {A : Type 0} where
  -- none where the one go deletes it
  unfoldable pub one_go_path : List (Splice A) → Path → Option Path
  one_go_path S [] = some []
  one_go_path S (i ∷ e) = bind (new_number (at_root S) i) (λ j. map (λ r. j ∷ r) (one_go_path (below i S) e))

  -- its first step, and the rest
  pub record Down (S : List (Splice A)) (i : ℕ) (e q : Path) : Type 0 where
    pub j : ℕ
    pub at : new_number (at_root S) i ≡ some j
    pub rest : Path
    pub on : one_go_path (below i S) e ≡ some rest
    pub is : j ∷ rest ≡ q

  pub down : (S : List (Splice A)) (i : ℕ) (e q : Path) → one_go_path S (i ∷ e) ≡ some q → Down S i e q
  unfolding one_go_path
  down S i e q g =
      let x = bind_some (new_number (at_root S) i) (λ j. map (λ r. j ∷ r) (one_go_path (below i S) e)) g in
      let y = map_some (λ r. x.0 ∷ r) (one_go_path (below i S) e) x.2 in
      record { j = x.0; at = x.1; rest = y.0; on = y.1; is = y.2 }

-- ── Which paths are dropped ─────────────────────────────────────────────────────────────────────────────────

module _ {A : Type 0} where
  enters_here : (S : List (Splice A)) (i : ℕ) (e : Path) → any (holds i) (at_root S) ≡ true → EntersDeleted S (i ∷ e)
  unfolding at_root
  enters_here S i e z =
      let (y, m, h) = any_mem (holds i) (at_root S) z in
      let (x, n, q) = pick_mem from_root S y m in
      let (p, w) = from_root_some x y q in
      let l = holds_in i y h in
      record { by = x; one = n; enters = record { child = i; rest = e; leads = rw p; low = rw w l.0; high = rw w l.1 } }

  enters_below : (S : List (Splice A)) (i : ℕ) (e : Path) → EntersDeleted (below i S) e → EntersDeleted S (i ∷ e)
  unfolding below under
  enters_below S i e r =
      let (x, m, q) = pick_mem (from_child i) S r.by r.one in
      let (p, w, z) = from_child_some i x r.by q in
      let k : Enters (under p x) e = rw z at r.enters in
      record { by = x; one = m; enters = record { child = k.child; rest = k.rest; leads = rw w (ap {B = Path} (λ v. i ∷ v) k.leads); low = k.low; high = k.high } }

  pub dropped_enters : (S : List (Splice A)) (e : Path) → one_go_path S e ≡ none → EntersDeleted S e
  unfolding one_go_path new_number bind
  dropped_enters S [] z = none_some (sym z)
  dropped_enters S (i ∷ e) z = go (bool? (any (holds i) (at_root S))) (one_go_path (below i S) e) refl (dropped_enters (below i S) e)
    where
      go : (any (holds i) (at_root S) ≡ true) ⊎ (any (holds i) (at_root S) ≡ false) → (o : Option Path) → one_go_path (below i S) e ≡ o → (one_go_path (below i S) e ≡ none → EntersDeleted (below i S) e) → EntersDeleted S (i ∷ e)
      go (inl h) o q r = enters_here S i e h
      go (inr h) none q r = enters_below S i e (r q)
      go (inr h) (some g) q r = none_some (sym (rw (h, q) at z))

  held : (S : List (Splice A)) (s : Splice A) → Memᴰ (under [] s) S → (c : ℕ) → s.from ≤ c → c < s.to → new_number (at_root S) c ≡ none
  unfolding new_number at_root from_root under
  held S s m c l h = rw (mem_any (holds c) (at_root S) (under [] s) (mem_pick from_root S (under [] s) (under [] s) m refl) (holds_yes c (under [] s) l h))

  gone : (P : Path) (S : List (Splice A)) (s : Splice A) → Memᴰ (under P s) S → (c : ℕ) (r : Path) → s.from ≤ c → c < s.to → one_go_path S (P ++ (c ∷ r)) ≡ none
  unfolding one_go_path bind
  gone [] S s m c r l h = rw (held S s m c l h)
  gone (i ∷ P) S s m c r l h =
      rw (gone P (below i S) s (unfold below in (mem_pick (from_child i) S (under (i ∷ P) s) (under P s) m (from_child_in i P s))) c r l h) (bind_none (new_number (at_root S) i) (λ j. map {B = Path} (λ r. j ∷ r) none) (λ x. refl))

  pub enters_dropped : (S : List (Splice A)) (e : Path) → EntersDeleted S e → one_go_path S e ≡ none
  unfolding under
  enters_dropped S e d = rw d.enters.leads (gone d.by.parent S d.by d.one d.enters.child d.enters.rest d.enters.low d.enters.high)

-- ── What stands where a path leads ──────────────────────────────────────────────────────────────────────────

module _ {A : Type 0} where
  pub length_children : (S : List (Splice A)) (n : ℕ) (cs : Trees A) → length (one_go_all S n cs) ≡ length (list cs)
  unfolding one_go list
  length_children S n nil = refl
  length_children S n (cons c cs) = ap suc (length_children S (suc n) cs)

  pub label_one_go : (S : List (Splice A)) (t : Tree A) → label (one_go S t) ≡ label t
  unfolding label one_go
  label_one_go S (node a cs) = refl
  label_one_go S (token a text) = refl

  pub get_rewritten : (S : List (Splice A)) (n : ℕ) (cs : Trees A) (k i : ℕ) (c : Tree A) → n + k ≡ i → get_elem? (list cs) k ≡ some c → get_elem? (one_go_all S n cs) k ≡ some (one_go (below i S) c)
  unfolding one_go list
  get_rewritten S n nil k i c e g = none_some g
  get_rewritten S n (cons d cs) zero i c e g = let z : n ≡ i = omega arith in rw (z, some_inj g)
  get_rewritten S n (cons d cs) (suc k) i c e g = get_rewritten S (suc n) cs k i c (omega arith) g

  pub rewritten_child : (a : A) (cs : Trees A) (S : List (Splice A)) → AllApart (node a cs) S → (i : ℕ) (c : Tree A) (j : ℕ) (q : Path) → get_elem? (list cs) i ≡ some c → new_number (at_root S) i ≡ some j
      → resolve (j ∷ q) (one_go S (node a cs)) ≡ resolve q (one_go (below i S) c)
  unfolding one_go
  rewritten_child a cs S h i c j q g p =
      resolve_forest a (new_children 0 (left_to_right (at_root S)) (one_go_all S 0 cs)) j q (one_go (below i S) c) (get_child (length (list cs)) (at_root S) (one_go_all S 0 cs) (root_level a cs S h) i j p (one_go (below i S) c) (get_rewritten S 0 cs i i c (zero-add i) g))

  -- the old subtree, rewritten by the splices in it
  pub resolve_one_go : (e : Path) (old t : Tree A) (S : List (Splice A)) (q : Path) → AllApart old S → resolve e old ≡ some t → one_go_path S e ≡ some q
      → resolve q (one_go S old) ≡ some (one_go (splices_in e S) t)
  unfolding one_go_path resolve splices_in
  resolve_one_go [] old t S q h f g = rw (← some_inj g, some_inj f)
  resolve_one_go (i ∷ e) (token a text) t S q h f g = none_some f
  resolve_one_go (i ∷ e) (node a cs) t S q h f g =
      let (c, z, y) = resolve_child a cs i e t f in
      let d = down S i e q g in
      rw (← d.is) (rewritten_child a cs S h i c d.j d.rest z d.at ∙ resolve_one_go e c t (below i S) d.rest (below_apart a cs i c S z h) y d.on)

  mutual
    unfolding one_go at_root below pick left_to_right new_children list

    pub rewrite_nothing : (t : Tree A) → one_go [] t ≡ t
    rewrite_nothing (node a cs) = rw (rewrite_nothings 0 cs, forest_list cs)
    rewrite_nothing (token a text) = refl

    rewrite_nothings : (n : ℕ) (cs : Trees A) → one_go_all [] n cs ≡ list cs
    rewrite_nothings n nil = refl
    rewrite_nothings n (cons c cs) = rw (rewrite_nothing c, rewrite_nothings (suc n) cs)

  not_below : (i : ℕ) (e : Path) (x y : Splice A) → from_child i x ≡ some y → ¬ AtOrBelow (i ∷ e) x → ¬ AtOrBelow e y
  unfolding under
  not_below i e x y q h t =
      let (p, w, z) = from_child_some i x y q in
      let k : AtOrBelow e (under p x) = rw z at t in
      h (record { rest = k.rest; leads = rw w (ap {B = Path} (λ v. i ∷ v) k.leads) })

  -- no splice in it
  pub none_in : (e : Path) (S : List (Splice A)) → All (λ s. ¬ AtOrBelow e s) S → splices_in e S ≡ []
  unfolding splices_in below
  none_in [] [] h = refl
  none_in [] (s ∷ S) h = absurd (h.0 (record { rest = s.parent; leads = refl }))
  none_in (i ∷ e) S h = none_in e (below i S) (All-pick (from_child i) (λ s. ¬ AtOrBelow (i ∷ e) s) (λ s. ¬ AtOrBelow e s) (not_below i e) S h)
