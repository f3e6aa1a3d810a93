-- Marks after a splice, one and all; what an element that survives keeps; the elements that come in.
-- Assumes nothing.
use Rattle.std.specs.Prelude.{◌≡◌, length, take, drop}
use Rattle.std.proofs.Math.Path.{refl, ap}
use Rattle.std.proofs.Common.{sym, ◌∙◌, arith, length-take-le}
use mathlib.Core.List.{List, [], ◌∷◌, ◌++◌, map, append-nil}
use Rattle.std.proofs.Math.Option
use Rattle.std.proofs.Math.Option.{Option, none, some, bind}
use Prim.Native.Nat.{ℕ, ◌+◌, ◌-◌, ◌≤◌, ◌<◌}
use Rattle.std.proofs.Math.ListN.{get_elem?}
use Rattle.std.proofs.Math.Seq.{take-append-add}
use Rattle.std.proofs.lemmas.List.{take-append-le}
use Rattle.orders.specs.Lists.{more, pick, All}
use Rattle.orders.specs.Tree.{Tree, node, list, Path, resolve, label, adjust, shift, splice, HasRun, forest, strip}
use Rattle.orders.specs.ListLaws.{some_inj, before, inside, after, zone?, get_lt, get_left, get_right, All-over}
use Rattle.orders.proofs.TreeLaws.{shift_before, shift_inside, shift_after, adjust_root, adjust_in, resolve_splice, splice_in, label_splice_in, strip_append}
use Rattle.rows_model.specs.Place.{size_all, place, mark, mark_of, moved_mark, Held}
use Rattle.rows_model.proofs.RowLaws.{size_all_append}
use Rattle.rows_model.proofs.PlaceLaws.{place_forest, place_child, place_down, run_after}
use Rattle.rows_model.proofs.Moves.{adjust_place}

-- ── What an element that survives keeps ─────────────────────────────────────────────────────────────────────

-- its kind: the path leads to an element with the same label (and the path is as long: `adjust_length`)
pub kept : (q : Path) (t : Tree ℕ) (a b : ℕ) (new : List (Tree ℕ)) (e : Path) (v : Tree ℕ) (e' : Path) → HasRun t q a b → resolve e t ≡ some v → adjust q a b (length new) e ≡ some e'
    → (w : Tree ℕ) × (resolve e' (splice q a b new t) ≡ some w) × (label w ≡ label v)
kept q t a b new e v e' h f s = (splice_in a b new (strip e q) v, resolve_splice a b new q t e v e' h f s, label_splice_in a b new (strip e q) v)

-- ── Marks ───────────────────────────────────────────────────────────────────────────────────────────────────

module _ (q : Path) (t : Tree ℕ) (a b : ℕ) (new : List (Tree ℕ)) (h : HasRun t q a b) where
  -- the mark of a path after the splice is the mark before, moved
  pub mark_follows : (o : Option Path) → Held t o
      → mark_of (splice q a b new t) (bind o (adjust q a b (length new))) ≡ moved_mark (place (q ++ (a ∷ [])) t) (place (q ++ (b ∷ [])) t) (size_all new) (mark_of t o)
  unfolding mark_of moved_mark bind
  mark_follows none w = ap mark (sym (shift_before (place (q ++ (a ∷ [])) t) (place (q ++ (b ∷ [])) t) (size_all new) 0 (omega (arith, run_after q t a b h))))
  mark_follows (some e) w = ap mark (adjust_place q t a b new e w.0 h w.1)

  pub held_after : (o : Option Path) → Held t o → Held (splice q a b new t) (bind o (adjust q a b (length new)))
  unfolding bind
  held_after none w = tt
  held_after (some e) w = go (adjust q a b (length new) e) refl
    where
      go : (o : Option Path) → adjust q a b (length new) e ≡ o → Held (splice q a b new t) o
      go none s = tt
      go (some e') s = let (u, f, l) = kept q t a b new e w.0 e' h w.1 s in (u, f)

  -- all marks together
  pub marks_follow : (os : List (Option Path)) → All (Held t) os
      → map (mark_of (splice q a b new t)) (map (λ o. bind o (adjust q a b (length new))) os)
      ≡ map (moved_mark (place (q ++ (a ∷ [])) t) (place (q ++ (b ∷ [])) t) (size_all new)) (map (mark_of t) os)
  marks_follow [] w = refl
  marks_follow (o ∷ os) w = cc (mark_follows o w.0, marks_follow os w.1)

  -- the places of those paths of a list that survive
  pub places_follow : (es : List Path) → All (λ e. Held t (some e)) es
      → map (λ e. place e (splice q a b new t)) (pick (adjust q a b (length new)) es) ≡ pick (shift (place (q ++ (a ∷ [])) t) (place (q ++ (b ∷ [])) t) (size_all new)) (map (λ e. place e t) es)
  unfolding pick
  places_follow [] w = refl
  places_follow (e ∷ es) w = go (adjust q a b (length new) e) (shift (place (q ++ (a ∷ [])) t) (place (q ++ (b ∷ [])) t) (size_all new) (place e t)) _ _ (adjust_place q t a b new e w.0.0 h w.0.1) (places_follow es w.1)
    where
      F : Path → ℕ
      F y = place y (splice q a b new t)

      go : (o : Option Path) (x : Option ℕ) (l : List Path) (m : List ℕ) → Option.map F o ≡ x → map F l ≡ m → map F (more o l) ≡ more x m
      go none x l m z y = rw (← z) y
      go (some e') x l m z y = rw (← z, ← y)

-- where there are n rows, a mark is below the number of rows after the splice
pub moved_below : (n p q m x : ℕ) → 0 < p → p ≤ q → q ≤ n → x < n → moved_mark p q m x < n - (q - p) + m
unfolding moved_mark
moved_below n p q m x z h k l = elim (zone? x p q) [
  | before w ↦ rw (shift_before p q m x w) (omega arith)
  | inside w u ↦ rw (shift_inside p q m x w u) (omega arith)
  | after w u ↦ rw (shift_after p q m x w u) (omega arith)
]

pub marks_below : (n p q m : ℕ) → 0 < p → p ≤ q → q ≤ n → (xs : List ℕ) → All (λ x. x < n) xs → All (λ x. x < n - (q - p) + m) (map (moved_mark p q m) xs)
marks_below n p q m z h k xs w = All-over (moved_mark p q m) (λ x. x < n) (λ x. x < n - (q - p) + m) (λ x l. moved_below n p q m x z h k l) xs w

-- ── The elements that come in ───────────────────────────────────────────────────────────────────────────────

adjust_self : (a b n : ℕ) (q : Path) → adjust q a b n q ≡ some q
adjust_self a b n [] = adjust_root a b n []
adjust_self a b n (j ∷ q) = rw (adjust_in a b n j j q q refl, adjust_self a b n q)

module _ (q : Path) (t : Tree ℕ) (a b : ℕ) (new : List (Tree ℕ)) (h : HasRun t q a b) where
  -- the parent stays where it is, with its new children
  pub parent_stays : place q (splice q a b new t) ≡ place q t
  parent_stays =
      let u : Tree ℕ = node h.kind h.children in
      let e = adjust_place q t a b new q u h h.found in
      some_inj (sym (ap (Option.map (λ r. place r (splice q a b new t))) (adjust_self a b (length new) q)) ∙ (e ∙ shift_before (place (q ++ (a ∷ [])) t) (place (q ++ (b ∷ [])) t) (size_all new) (place q t) (run_after q t a b h)))

  parent_is : resolve q (splice q a b new t) ≡ some (node h.kind (forest (take a (list h.children) ++ (new ++ drop b (list h.children)))))
  unfolding splice_in splice
  parent_is = rw (strip_self q) at (resolve_splice a b new q t q (node h.kind h.children) q h h.found (adjust_self a b (length new) q))
    where
      strip_self : (p : Path) → strip p p ≡ some []
      strip_self p = rw (append-nil p) at (strip_append p [])

  -- element i of those that come in is child a + i of the parent
  module _ (i : ℕ) (y : Tree ℕ) (g : get_elem? new i ≡ some y) (r : Path) where
    among : get_elem? (take a (list h.children) ++ (new ++ drop b (list h.children))) (a + i) ≡ some y
    among =
        let l = length-take-le a (list h.children) (omega (arith, h.ordered, h.within)) in
        get_right (take a (list h.children)) (new ++ drop b (list h.children)) (a + i) i (omega arith) ∙ (get_left new (drop b (list h.children)) i (get_lt new i g) ∙ g)

    pub new_place : place (q ++ ((a + i) ∷ r)) (splice q a b new t) ≡ place (q ++ (a ∷ [])) t + size_all (take i new) + place r y
    new_place =
        let l : List (Tree ℕ) = list h.children in
        let l' : List (Tree ℕ) = take a l ++ (new ++ drop b l) in
        let n : length (take a l) + i ≡ a + i = omega (arith, length-take-le a l (omega (arith, h.ordered, h.within))) in
        let w : size_all (take (a + i) l') ≡ size_all (take a l) + size_all (take i new) =
        rw (← n, take-append-add (take a l) (new ++ drop b l) i, take-append-le i new (drop b l) (omega (arith, get_lt new i g))) (size_all_append (take a l) (take i new)) in
        let p = place_down q t (node h.kind h.children) h.found (a ∷ []) in
        place_down q (splice q a b new t) (node h.kind (forest l')) parent_is ((a + i) ∷ r) ∙ omega (arith, parent_stays, place_forest h.kind l' (a + i) r y among, p, place_child h.kind h.children a)
