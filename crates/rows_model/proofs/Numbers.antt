-- Element n of a batch stands at row n + 1, where all trees stand under one root.
-- Assumes nothing.
use Rattle.std.specs.Prelude.{◌≡◌, take}
use Rattle.std.proofs.Common.{sym, ◌∙◌, arith}
use Rattle.std.proofs.Math.Path.{ap}
use mathlib.Core.List.{List, [], ◌∷◌, map}
use Rattle.std.proofs.Math.Option.{some}
use Prim.Native.Nat.{ℕ, suc, ◌+◌, ◌<◌}
use Rattle.std.proofs.Math.ListN.{length, get_elem?}
use Rattle.orders.specs.Lists.{All}
use Rattle.orders.specs.Tree.{Tree, node, token, list, forest, Path, children}
use Rattle.orders.specs.ListLaws.{some_inj, none_some, map_some, bind_some, All-over}
use Rattle.definition.specs.Elements.{Table, table, row}
use Rattle.definition_laws.specs.Rows.{Element, row_of, before, child_of, element_at, root_of, element}
use Rattle.definition_laws.specs.Kin.{child_is, stands, path_leads}
use Rattle.rows_model.specs.Place.{size_all, place, Held}
use Rattle.rows_model.proofs.RowLaws.{size_all_elements}
use Rattle.rows_model.proofs.PlaceLaws.{place_at, place_forest}

place_below : (t : Tree ℕ) (i : ℕ) (p : Path) (c : Tree ℕ) → get_elem? (list (children t)) i ≡ some c → place (i ∷ p) t ≡ suc (size_all (take i (list (children t))) + place p c)
unfolding children list
place_below (node k cs) i p c g = place_at k cs i p c g
place_below (token k x) i p c g = none_some g

-- an element below e is numbered from e on as it stands in the rows of e
below_number : (p : Path) (e d : Element) → element_at e p ≡ some d → d.number ≡ e.number + place p e.tree
unfolding element_at before
below_number [] e d g = ap (λ x. x.number) (sym (some_inj g)) ∙ omega arith
below_number (i ∷ p) e d g =
    let (c, a, b) = bind_some (child_of e i) (λ c. element_at c p) g in
    let k = child_is e c i a in
    below_number p c d b ∙ omega (arith, k.number, place_below e.tree i p c.tree k.found, size_all_elements (take i (list (children e.tree))))

-- the place of an element is one more than its number: the root of all stands before the first
pub element_place : (ts : List (Tree ℕ)) (w : ℕ) (p : Path) (e : Element) → element ts p ≡ some e → place p (node w (forest ts)) ≡ suc e.number
unfolding element root_of
element_place ts w [] e g = none_some g
element_place ts w (t ∷ p) e g =
    let (r, a, b) = bind_some (root_of ts t) (λ r. element_at r p) g in
    let (c, f, h) = map_some _ (get_elem? ts t) a in
    place_forest w ts t p c f ∙ omega (arith, below_number p r e b, size_all_elements (take t ts), ap (λ x. x.number) h, ap (λ x. place p x.tree) h)

module _ (ts : List (Tree ℕ)) (w : ℕ) where
  pub element_row : (n : ℕ) → n < length (table 0 0 ts) → place (row (table 0 0 ts) n).path (node w (forest ts)) ≡ suc n
  unfolding row_of
  element_row n h = let s = stands ts n h in rw s.told (element_place ts w s.here.path s.here s.at ∙ ap suc s.number)

  -- and all paths lead to elements
  pub elements_held : All (Held (node w (forest ts))) (map (λ r. some r.path) (table 0 0 ts))
  unfolding row
  elements_held = All-over (λ r. some r.path) (λ r. Held (node w (forest ts)) (some r.path)) (Held (node w (forest ts))) (λ r x. x) (table 0 0 ts) (go (table 0 0 ts) (λ n h. let (x, f, l) = path_leads ts n w h in (x, f)))
    where
      go : (l : Table) → ((n : ℕ) → n < length l → Held (node w (forest ts)) (some (row l n).path)) → All (λ r. Held (node w (forest ts)) (some r.path)) l
      go [] f = tt
      go (r ∷ l) f = (f 0 (omega arith), go l (λ n h. f (suc n) (omega arith)))
