-- Where a change goes, in rows: the rows of the run that the definition finds.
-- Assumes nothing.
use Rattle.std.specs.Prelude.{◌≡◌, Bool, cond, get_or}
use Rattle.std.proofs.Math.Path.{refl, sym, ap}
use Rattle.std.proofs.Common.{◌∙◌, arith}
use Rattle.std.proofs.Math.Bool.{true, false}
use mathlib.Core.List.{List, [], ◌∷◌, ◌++◌, map}
use Rattle.std.proofs.Math.Option
use Rattle.std.proofs.Math.Option.{Option, none, some, bind}
use Prim.Native.Nat.{ℕ, zero, suc, ◌-◌, ◌<◌}
use Rattle.std.proofs.Math.ListN.{length, length-append}
use Rattle.orders.specs.ListLaws.{some_inj, lt_get}
use Rattle.orders.specs.Tree.{Tree, list, Path, resolve, HasRun, last, front}
use Rattle.orders.proofs.TreeLaws.{front_child, last_child, resolve_append}
use Rattle.definition.specs.Elements.{Table, table, row, root?, parent, depth, tree}
use Rattle.definition.specs.Recording.{first_child, after, Change, insert, replace, delete, replace_with_many, replace_all}
use Rattle.definition.specs.Running.{World, present, Run, from_to, empty_at, place as run_at}
use Rattle.definition_laws.specs.Answers.{bound}
use Rattle.definition_laws.specs.Kin.{IsParent, path_long, parent_is, root_is, not_root, depth_path}
use Rattle.definition_laws.specs.Right.{Sits}
use Rattle.definition_laws.specs.Running.{Follows, present_kind, present_depth, present_under, present_order, Fits, place_fits}
use Rattle.rows_model.specs.Row.{rows_of, trees_in}
use Rattle.rows_model.specs.Place.{place, run_of, rows_after, child_row, between, mark_of}
use Rattle.rows_model.proofs.RowLaws.{trees_count}
use Rattle.rows_model.proofs.PlaceLaws.{place_pos, place_first, child_at, after_child, site, run_rows}
use Rattle.run_model.specs.Store.{store, there, marked, row_or_top, parent_row, end_row, Gap, gap_of, gap_after, gap_run, gap, depth_above}

-- a run of the current trees, in rows
unfoldable pub gap_at : Tree ℕ → Run → Gap
gap_at t r = record { parent = place r.parent t; from = place (r.parent ++ (r.from ∷ [])) t; to = place (r.parent ++ (r.to ∷ [])) t; lost = r.to - r.from }

gap_same : {p p' a a' b b' l l' : ℕ} → p ≡ p' → a ≡ a' → b ≡ b' → l ≡ l'
    → ◌≡◌ {A = Gap} (record { parent = p; from = a; to = b; lost = l }) (record { parent = p'; from = a'; to = b'; lost = l' })
gap_same e f g h = rw (e, f, g, h)

there_pos : (m : ℕ) → 0 < m → there m ≡ some m
there_pos zero h = absurd (omega arith)
there_pos (suc m) h = refl

get_d_over : {A B : Type 0} (f : A → B) (l : List A) (k : ℕ) (d : A) → get_or (map f l) k (f d) ≡ f (get_or l k d)
get_d_over f [] k d = refl
get_d_over f (x ∷ l) zero d = refl
get_d_over f (x ∷ l) (suc k) d = get_d_over f l k d

-- the mark of an element is the place of its present path
pub mark_present : (w : World) (e : ℕ) → get_or (store w).marks e 0 ≡ mark_of w.trees (present w e)
unfolding store present mark_of
mark_present w e = get_d_over (mark_of w.trees) w.paths e none

pub marked_none : (w : World) (e : ℕ) → present w e ≡ none → marked (store w) e ≡ none
unfolding marked mark_of
marked_none w e h = ap there (mark_present w e ∙ ap (mark_of w.trees) h)

place_long : (p : Path) (t u : Tree ℕ) → 0 < length p → resolve p t ≡ some u → 0 < place p t
place_long [] t u h e = absurd (omega arith)
place_long (i ∷ p) t u h e = place_pos i p t u e

module _ (ts : List (Tree ℕ)) (w : World) (f : Follows ts w) where
  abbrev T : Table
  T = table 0 0 ts

  pub marked_some : (e : ℕ) (p : Path) → e < length T → present w e ≡ some p → marked (store w) e ≡ some (place p w.trees)
  unfolding marked mark_of
  marked_some e p h g =
      let (y, a, b) = present_kind ts w f e p h g in
      let l : 0 < length p = omega (arith, present_depth ts w f e p h g, depth_path ts e h, path_long ts e h) in
      ap there (mark_present w e ∙ ap (mark_of w.trees) g) ∙ there_pos (place p w.trees) (place_long p w.trees y l a)

  -- ── An element that is no root ──

  -- the element x at the path p, in rows
  record Stood (x : ℕ) (p : Path) : Type 0 where
    above : parent_row T (store w) x ≡ place (front p) w.trees
    from : place p w.trees ≡ place (front p ++ (last p ∷ [])) w.trees
    to : end_row (store w) (place p w.trees) ≡ place (front p ++ (suc (last p) ∷ [])) w.trees
    deep : depth T x - 1 ≡ length (front p)

  stood : (x m : ℕ) (p : Path) → x < length T → IsParent ts m x → present w x ≡ some p → Stood x p
  unfolding parent_row end_row store mark_of
  stood x m p h i g =
      let u = present_under ts w f x m p h i g in
      let (y, a, b) = present_kind ts w f x p h g in
      let fp : front p ≡ u.above = ap front u.parted ∙ front_child u.above u.number in
      let lp : last p ≡ u.number = ap last u.parted ∙ last_child u.above u.number in
      let pp : front p ++ (last p ∷ []) ≡ p = rw (fp, lp) (sym u.parted) in
      let here : place p w.trees ≡ place (front p ++ (last p ∷ [])) w.trees = ap (λ q. place q w.trees) (sym pp) in
      record {
        above = ap (row_or_top (store w)) i.parent ∙ (mark_present w m ∙ (ap (mark_of w.trees) u.parent ∙ ap (λ q. place q w.trees) (sym fp)));
        from = here;
        to = ap (λ n. rows_after (rows_of w.trees) n 1) here ∙ after_child (front p) (last p) w.trees y (ap (λ q. resolve q w.trees) pp ∙ a);
        deep = omega (arith, present_depth ts w f x p h g, ap length pp, length-append (front p) (last p ∷ []));
      }

  stands : (x : ℕ) (p : Path) → x < length T → root? T x ≡ false → present w x ≡ some p → Stood x p
  stands x p h e g = let (m, i) = not_root ts x h e in stood x m p h i g

  -- it gives way
  gap_one : (x : ℕ) → x < length T → root? T x ≡ false → Option.map (gap_of T (store w) x) (marked (store w) x) ≡ Option.map (gap_at w.trees) (bind (present w x) (λ p. some (from_to p p)))
  unfolding gap_of gap_at from_to bind
  gap_one x h e = go (present w x) refl
    where
      go : (o : Option Path) → present w x ≡ o → Option.map (gap_of T (store w) x) (marked (store w) x) ≡ Option.map (gap_at w.trees) (bind o (λ p. some (from_to p p)))
      go none g = ap (Option.map (gap_of T (store w) x)) (marked_none w x g)
      go (some p) g =
          let s = stands x p h e g in
          ap (Option.map (gap_of T (store w) x)) (marked_some x p h g) ∙ ap {B = Option Gap} some (gap_same s.above s.from s.to (omega arith))

  -- the place behind it
  gap_after_lem : (x : ℕ) → x < length T → root? T x ≡ false
      → Option.map (gap_after T (store w) x) (marked (store w) x) ≡ Option.map (gap_at w.trees) (bind (present w x) (λ p. some (empty_at (front p) (suc (last p)))))
  unfolding gap_after gap_at empty_at bind
  gap_after_lem x h e = go (present w x) refl
    where
      go : (o : Option Path) → present w x ≡ o → Option.map (gap_after T (store w) x) (marked (store w) x) ≡ Option.map (gap_at w.trees) (bind o (λ p. some (empty_at (front p) (suc (last p)))))
      go none g = ap (Option.map (gap_after T (store w) x)) (marked_none w x g)
      go (some p) g =
          let s = stands x p h e g in
          ap (Option.map (gap_after T (store w) x)) (marked_some x p h g) ∙ ap {B = Option Gap} some (gap_same s.above s.to s.to (omega arith))

  -- the run from x to y
  gap_run_lem : (x y : ℕ) (l : List ℕ) → Sits T (replace_all x y l) → gap T (store w) (replace_all x y l) ≡ Option.map (gap_at w.trees) (run_at T w (replace_all x y l))
  unfolding gap gap_run gap_at run_at from_to bind store
  gap_run_lem x y l s = go (present w x) (present w y) refl refl
    where
      go : (o o' : Option Path) → present w x ≡ o → present w y ≡ o'
          → bind (marked (store w) x) (λ m. Option.map (gap_run T (store w) x m) (marked (store w) y)) ≡ Option.map (gap_at w.trees) (bind o (λ p. bind o' (λ q. some (from_to p q))))
      go none o' g k = ap (λ a. bind a (λ m. Option.map (gap_run T (store w) x m) (marked (store w) y))) (marked_none w x g)
      go (some p) none g k =
          ap (λ a. bind a (λ m. Option.map (gap_run T (store w) x m) (marked (store w) y))) (marked_some x p s.0 g) ∙ ap (Option.map (gap_run T (store w) x (place p w.trees))) (marked_none w y k)
      go (some p) (some q) g k =
          ap (λ a. bind a (λ m. Option.map (gap_run T (store w) x m) (marked (store w) y))) (marked_some x p s.0 g)
          ∙ (ap (Option.map (gap_run T (store w) x (place p w.trees))) (marked_some y q s.1 k) ∙ ap {B = Option Gap} some (gap_same a.above a.from to lost))
        where
          m : (m : ℕ) × IsParent ts m x
          m = not_root ts x s.0 s.2

          under : IsParent ts m.0 y
          under = parent_is ts y m.0 s.1 (sym s.3 ∙ m.1.parent)

          a : Stood x p
          a = stood x m.0 p s.0 m.1 g

          b : Stood y q
          b = stood y m.0 q s.1 under k

          fq : front q ≡ front p
          fq = (present_order ts w f m.0 x y p q s.0 s.1 m.1 under s.4 g k).0

          to : end_row (store w) (place q w.trees) ≡ place (front p ++ (suc (last q) ∷ [])) w.trees
          to = b.to ∙ ap (λ r. place (r ++ (suc (last q) ∷ [])) w.trees) fq

          run : HasRun w.trees (front p) (last p) (suc (last q))
          run = (place_fits ts w f (replace_all x y l) (from_to p q) s (ap (λ o. bind o (λ p. bind (present w y) (λ q. some (from_to p q)))) g ∙ ap (λ o. bind o (λ q. some (from_to p q))) k)).run

          lost : trees_in (between (place p w.trees) (end_row (store w) (place q w.trees)) (rows_of w.trees)) ≡ suc (last q) - last p
          lost =
              ap (λ n. trees_in (between n (end_row (store w) (place q w.trees)) (rows_of w.trees))) a.from
              ∙ (ap (λ n. trees_in (between (place (front p ++ (last p ∷ [])) w.trees) n (rows_of w.trees))) to
              ∙ (ap trees_in (run_rows (front p) w.trees (last p) (suc (last q)) run) ∙ (trees_count (run_of run) ∙ (site (front p) w.trees (last p) (suc (last q)) run).trees)))

  -- before the first child
  gap_first : (x : ℕ) (l : List ℕ) → Sits T (insert first_child x l) → gap T (store w) (insert first_child x l) ≡ Option.map (gap_at w.trees) (run_at T w (insert first_child x l))
  unfolding gap gap_at run_at empty_at bind
  gap_first x l s = go (present w x) refl
    where
      at : ℕ → Gap
      at m = record { parent = m; from = suc m; to = suc m; lost = 0 }

      go : (o : Option Path) → present w x ≡ o → Option.map at (marked (store w) x) ≡ Option.map (gap_at w.trees) (bind o (λ p. some (empty_at p 0)))
      go none g = ap (Option.map at) (marked_none w x g)
      go (some p) g =
          let run : HasRun w.trees p 0 0 = (place_fits ts w f (insert first_child x l) (empty_at p 0) s (ap (λ o. bind o (λ p. some (empty_at p 0))) g)).run in
          let from = sym (place_first p w.trees run.kind run.children run.found) in
          ap (Option.map at) (marked_some x p s.0 g) ∙ ap {B = Option Gap} some (gap_same refl from from (omega arith))

  -- a root gives way: it is found by counting
  gap_root : (x n : ℕ) → parent T x ≡ none → HasRun w.trees [] n (suc n) → gap_of T (store w) x (child_row (store w).rows 0 n) ≡ gap_at w.trees (from_to (n ∷ []) (n ∷ []))
  unfolding gap_of gap_at from_to front last parent_row end_row store resolve bind
  gap_root x n e run = gap_same (ap (row_or_top (store w)) e) from (ap (λ m. rows_after (rows_of w.trees) m 1) from ∙ to) (omega arith)
    where
      from : child_row (rows_of w.trees) 0 n ≡ place (n ∷ []) w.trees
      from = sym (child_at [] w.trees run.kind run.children run.found n (omega (arith, run.within)))

      to : rows_after (rows_of w.trees) (place (n ∷ []) w.trees) 1 ≡ place (suc n ∷ []) w.trees
      to =
          let (c, g) = lt_get (list run.children) n run.within in
          after_child [] n w.trees c (resolve_append [] (n ∷ []) w.trees ∙ (ap (λ o. bind o (λ u. resolve (n ∷ []) u)) run.found ∙ ap (λ o. bind o (λ c. resolve [] c)) g))

  gap_replace : (x y : ℕ) → x < length T → gap T (store w) (replace x y) ≡ Option.map (gap_at w.trees) (run_at T w (replace x y))
  unfolding gap run_at bind from_to front last
  gap_replace x y h = go (root? T x) refl
    where
      go : (b : Bool) → root? T x ≡ b
          → Option.map (gap_of T (store w) x) (cond b (some (child_row (store w).rows 0 (tree T x))) (marked (store w) x))
          ≡ Option.map (gap_at w.trees) (bind (cond b (some (row T x).path) (present w x)) (λ p. some (from_to p p)))
      go false e = gap_one x h e
      go true e =
          let r = root_is ts x h e in
          let fits : Fits ts w f (replace x y) (from_to (row T x).path (row T x).path) = place_fits ts w f (replace x y) _ h (ap (λ b. bind (cond b (some (row T x).path) (present w x)) (λ p. some (from_to p p))) e) in
          let run : HasRun w.trees [] (tree T x) (suc (tree T x)) = top (tree T x) (row T x).path r.path fits.run in
          ap {B = Option Gap} some (gap_root x (tree T x) r.parent run ∙ ap (λ p. gap_at w.trees (from_to p p)) (sym r.path))
        where
          top : (n : ℕ) (p : Path) → p ≡ n ∷ [] → HasRun w.trees (from_to p p).parent (from_to p p).from (from_to p p).to → HasRun w.trees [] n (suc n)
          top n p z h = rw z at h

  -- ── All changes ──

  -- Where a change goes in rows is where it goes in the current trees.
  pub gap_place : (c : Change) → Sits T c → gap T (store w) c ≡ Option.map (gap_at w.trees) (run_at T w c)
  unfolding gap run_at
  gap_place (insert first_child x l) s = gap_first x l s
  gap_place (insert after x l) s = gap_after_lem x s.0 s.1
  gap_place (replace x y) s = gap_replace x y s
  gap_place (delete x) s = gap_one x s.0 s.1
  gap_place (replace_with_many x l) s = gap_one x s.0 s.1
  gap_place (replace_all x y l) s = gap_run_lem x y l s

  -- the depth of the parent is the length of its path
  pub depth_above_lem : (c : Change) (r : Run) → Sits T c → run_at T w c ≡ some r → depth_above T (store w) c ≡ length r.parent
  unfolding depth_above run_at empty_at from_to front
  depth_above_lem (insert first_child x l) r s e = bound (present w x) _ e λ p g e. sym (present_depth ts w f x p s.0 g) ∙ ap (λ r. length r.parent) (some_inj e)
  depth_above_lem (insert after x l) r s e = bound (present w x) _ e λ p g e. (stands x p s.0 s.1 g).deep ∙ ap (λ r. length r.parent) (some_inj e)
  depth_above_lem (replace x y) r s e = go (root? T x) refl e
    where
      go : (b : Bool) → root? T x ≡ b → bind (cond b (some (row T x).path) (present w x)) (λ p. some (from_to p p)) ≡ some r → depth T x - 1 ≡ length r.parent
      go true t e = bound (some (row T x).path) _ e λ p g e.
          let z : p ≡ tree T x ∷ [] = sym (some_inj g) ∙ (root_is ts x s t).path in
          let d : depth T x ≡ 1 = depth_path ts x s ∙ ap length (root_is ts x s t).path in
          omega (arith, ap (λ q. length (front q)) z, ap (λ r. length r.parent) (some_inj e))
      go false t e = bound (present w x) _ e λ p g e. (stands x p s t g).deep ∙ ap (λ r. length r.parent) (some_inj e)
  depth_above_lem (delete x) r s e = bound (present w x) _ e λ p g e. (stands x p s.0 s.1 g).deep ∙ ap (λ r. length r.parent) (some_inj e)
  depth_above_lem (replace_with_many x l) r s e = bound (present w x) _ e λ p g e. (stands x p s.0 s.1 g).deep ∙ ap (λ r. length r.parent) (some_inj e)
  depth_above_lem (replace_all x y l) r s e = bound (present w x) _ e λ p g e. bound (present w y) _ e λ q i e. (stands x p s.0 s.2 g).deep ∙ ap (λ r. length r.parent) (some_inj e)
