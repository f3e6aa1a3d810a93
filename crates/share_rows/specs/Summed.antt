-- The share from what a run leaves: the texts of the changed elements in tree 0 added up, by rows.
-- Assumes nothing.
use Rattle.std.specs.Prelude.{◌≡◌, Bool, ℕ, ◌+◌, take}
use Rattle.std.proofs.Math.Path.{refl, sym, ap}
use Rattle.std.proofs.Common.{subst, ◌∙◌, eqb-true}
use Rattle.std.proofs.Math.Bool.{true, false, cond}
use mathlib.Core.List.{List, [], ◌∷◌, map, flat_map}
use Rattle.std.proofs.Math.Option.{Option, none, get_or}
use Rattle.std.proofs.Math.ListN.{length}
use Rattle.std.proofs.Math.Dec.{eqb}
use Rattle.orders.specs.Lists.{All, total}
use Rattle.orders.specs.Tree.{Tree, token, list, forest, children, Path, text}
use Rattle.orders.proofs.TreeLaws.{list_forest}
use Rattle.definition.specs.Basics.{gives, is_some}
use Rattle.definition.specs.Choices.{Choices}
use Rattle.definition.specs.Elements.{descend}
use Rattle.definition.specs.Refusals.{Accepted, accepted}
use Rattle.definition.specs.Running.{Changed, World}
use Rattle.definition.specs.Finishing.{new_tree, new_table, number_at}
use Rattle.definition.specs.Answers.{Plan, plan, ran}
use Rattle.definition_laws.specs.Measures.{text_of_list}
use Rattle.definition_laws.specs.Held.{Leads, number_found}
use Rattle.definition_laws.proofs.Limits.{ran_known}
use Rattle.definition_account.specs.Words.{changed_paths}
use Rattle.rows_model.specs.Row.{Row, rows_of, bytes}
use Rattle.rows_model.proofs.RowLaws.{bytes_tree, bytes_all}
use Rattle.rows_model.specs.Place.{subtree}
use Rattle.rows_model.proofs.PlaceLaws.{subtree_at}
use Rattle.run_model.specs.Store.{HeldChanged, held_changed}
use Rattle.finish_model.specs.Finished.{first_tree, number_of}
use Rattle.finish_model.proofs.Numbers.{first_tree_lem, number_row}
use Rattle.share_laws.specs.Share.{new_text, thousandths, share_in}
use Rattle.share_laws.specs.Texts.{in0, length_at}
use Rattle.share_laws.proofs.Texts.{ran_share}

-- a changed element stands in tree 0
unfoldable pub in_new : List Row → HeldChanged → Bool
in_new rs c = is_some (number_of rs c.row)

-- how long its text is, with all that is below it
unfoldable pub text_at : List Row → HeldChanged → ℕ
text_at rs c = bytes (subtree rs c.row)

-- the texts of those in tree 0 added up
unfoldable pub texts_of : List Row → List HeldChanged → ℕ
texts_of rs cs = total (in_new rs) (text_at rs) cs

-- THE SHARE, from rows
unfoldable pub share_of : List Row → List HeldChanged → ℕ × ℕ
share_of rs cs = thousandths (texts_of rs cs) (bytes (first_tree rs))

-- ── It is the definition's ──────────────────────────────────────────────────────────────────────────────────

module _ (w : World) where
  same_in : (c : Changed) → Leads w.trees c.0 → in_new (rows_of w.trees) (held_changed w.trees c) ≡ in0 c.0
  unfolding in_new held_changed number_at in0 is_some
  same_in c l = ap is_some (number_row w c.0 l) ∙ found c.0 l
    where
      found : (p : Path) → Leads w.trees p → is_some (number_at (new_table w) p) ≡ in0 p
      found [] l = refl
      found (t ∷ p) l = go (eqb t 0) refl
        where
          go : (b : Bool) → eqb t 0 ≡ b → is_some (cond b (descend (new_table w) 0 p) none) ≡ b
          go false e = refl
          go true e = let (n, a, i, q) = number_found w p (subst (λ (j : ℕ). Leads w.trees (j ∷ p)) (eqb-true t 0 e) l) in ap is_some a

  same_text : (c : Changed) → Leads w.trees c.0 → text_at (rows_of w.trees) (held_changed w.trees c) ≡ length_at w c.0
  unfolding text_at held_changed length_at
  same_text c l = ap bytes (subtree_at c.0 w.trees l.found l.there) ∙ (bytes_tree l.found ∙ ap (λ (o : Option (Tree ℕ)). length (text (get_or o (token 0 [])))) (sym l.there))

  same_sum : (cs : List Changed) → All (λ c. Leads w.trees c.0) cs → total in0 (length_at w) (map (λ c. c.0) cs) ≡ texts_of (rows_of w.trees) (map (held_changed w.trees) cs)
  unfolding texts_of total
  same_sum [] h = refl
  same_sum (c ∷ cs) h = rw (same_in c h.0, same_text c h.0) (ap (λ (n : ℕ). cond (in0 c.0) (length_at w c.0) 0 + n) (same_sum cs h.1))

  same_all : length (new_text w) ≡ bytes (first_tree (rows_of w.trees))
  unfolding new_text new_tree
  same_all = sym (ap bytes (first_tree_lem w.trees) ∙ (bytes_all (take 1 (list (children w.trees))) ∙ ap length (text_of_list (forest (take 1 (list (children w.trees)))) ∙ ap (flat_map text) (list_forest (take 1 (list (children w.trees)))))))

-- THE SHARE of a batch, whatever the choices
pub share_rows : (h : Choices) (bytes : List ℕ) (a : Accepted) (p : Plan) (w : World) → accepted bytes ≡ gives a → plan h a ≡ gives p → ran a p ≡ gives w → share_in w ≡ share_of (rows_of w.trees) (map (held_changed w.trees) w.changed)
unfolding share_of changed_paths
share_rows h bytes a p w x y z = rw (ran_share h bytes a p w x y z, same_sum w w.changed (ran_known h bytes a p w x y z).holds.changed, same_all w)
