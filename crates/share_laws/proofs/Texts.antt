-- The sum law by the trees themselves: the texts of what stands at the changed paths in tree 0, which is what a run holds.
-- Assumes nothing.
use Rattle.std.specs.Prelude.{◌≡◌, Bool, true, false, cond, ◌⊎◌, ℕ, ◌+◌, ◌-◌, eqb, take}
use Rattle.std.proofs.Math.Path.{refl}
use Rattle.std.proofs.Common.{sym, ap, ◌∙◌, inr, arith, eqb-true}
use mathlib.Core.List.{List, [], ◌∷◌}
use Rattle.std.proofs.Math.Logic.{inl}
use Rattle.std.proofs.Math.Option.{Option, none, some, map, get_or, bind}
use Rattle.std.proofs.Math.ListN.{length, get_elem?}
use Rattle.orders.specs.Lists.{All, pick, total}
use Rattle.orders.specs.ListLaws.{some_inj, none_some, map_some, bind_some, pick_none, pick_some, All-map}
use Rattle.orders.specs.Tree.{Tree, token, list, forest, children, Path, resolve, elements, text}
use Rattle.definition.specs.Basics.{gives}
use Rattle.definition.specs.Choices.{Choices}
use Rattle.definition.specs.Elements.{Row, Table, table, descend}
use Rattle.definition.specs.Refusals.{Accepted, accepted}
use Rattle.definition.specs.Running.{World}
use Rattle.definition.specs.Finishing.{new_tree, new_table, number_at}
use Rattle.definition.specs.Answers.{Plan, plan, ran}
use Rattle.definition_laws.specs.Rows.{Element, row_of, element, root_of, element_at}
use Rattle.definition_laws.specs.Kin.{resolve_down, element_at_tree, row_told_lem, descend_element}
use Rattle.definition_laws.specs.Held.{Leads, Holds}
use Rattle.definition_laws.proofs.Limits.{ran_known}
use Rattle.definition_account.specs.Words.{changed_paths, ChangedApartInNew}
use Rattle.definition_account.proofs.Changed.{changed_lead}
use Rattle.definition_account.proofs.Account.{ran_apart}
use Rattle.share_laws.specs.Share.{new_text, rewritten_bytes, thousandths, share_in}
use Rattle.share_laws.specs.Sum.{text_length, text_lengths}
use Rattle.share_laws.proofs.Sum.{sum_in_time}
use Rattle.share_laws.specs.Texts.{in0, length_at}

-- a text length, by the table of one tree and by what stands there
length_alone : (c : Tree ℕ) (p : Path) (v : Tree ℕ) → resolve p c ≡ some v → (n : ℕ) × (descend (table 0 0 (c ∷ [])) 0 p ≡ some n) × (text_length (table 0 0 (c ∷ [])) n ≡ length (text v))
unfolding element root_of element_at bind forest elements text_length row_of
length_alone c p v e =
    let ts : List (Tree ℕ) = c ∷ [] in
    let top : Element = record { tree = c; number = 0; above = []; path = 0 ∷ []; start = 0 } in
    let (d, a, b) = map_some (λ (z : Element). z.tree) (element_at top p) (element_at_tree top p ∙ e) in (
      d.number,
      descend_element ts p (0 ∷ []) top refl ∙ ap (map (λ (z : Element). z.number)) a,
      ap (λ (r : Row). r.end - r.start) (row_told_lem ts (0 ∷ p) d a) ∙ omega (arith, ap (λ (t : Tree ℕ). length (text t)) b),
    )

module _ (w : World) where
  -- what a changed path gives to either sum
  abbrev Same : Path → Type 0
  Same p = ((number_at (new_table w) p ≡ none) × (in0 p ≡ false)) ⊎ ((n : ℕ) × (number_at (new_table w) p ≡ some n) × (in0 p ≡ true) × (text_length (new_table w) n ≡ length_at w p))

  same : (p : Path) → Leads w.trees p → Same p
  unfolding number_at in0 new_table new_tree length_at
  same [] l = inl (refl, refl)
  same (t ∷ p) l = go (eqb t 0) refl
    where
      at : (cs : List (Tree ℕ)) (c v : Tree ℕ) → get_elem? cs 0 ≡ some c → resolve p c ≡ some v → (n : ℕ) × (descend (table 0 0 (take 1 cs)) 0 p ≡ some n) × (text_length (table 0 0 (take 1 cs)) n ≡ length (text v))
      at [] c v g r = none_some g
      at (d ∷ cs) c v g r = length_alone d p v (rw (some_inj g) r)

      go : (b : Bool) → eqb t 0 ≡ b → Same (t ∷ p)
      go false e = inl (rw e, e)
      go true e =
          let z : t ≡ 0 = eqb-true t 0 e in
          let (c, a, b) = bind_some (get_elem? (list (children w.trees)) t) (λ c. resolve p c) (sym (resolve_down t p w.trees) ∙ l.there) in
          let (n, x, y) = at (list (children w.trees)) c l.found (ap (get_elem? (list (children w.trees))) (sym z) ∙ a) b in
          inr (n, rw e x, e, y ∙ ap (λ (o : Option (Tree ℕ)). length (text (get_or o (token 0 [])))) (sym l.there))

  sums : (l : List Path) → All Same l → text_lengths (new_table w) (pick (number_at (new_table w)) l) ≡ total in0 (length_at w) l
  unfolding text_lengths total pick
  sums [] h = refl
  sums (p ∷ l) h = go h.0 (sums l h.1)
    where
      F : Table
      F = new_table w

      go : Same p → total (λ e. true) (text_length F) (pick (number_at F) l) ≡ total in0 (length_at w) l → total (λ e. true) (text_length F) (pick (number_at F) (p ∷ l)) ≡ cond (in0 p) (length_at w p) 0 + total in0 (length_at w) l
      go (inl (a, b)) r = rw (pick_none (number_at F) p l a, b) (omega (arith, r))
      go (inr (n, a, b, c)) r = rw (pick_some (number_at F) p l n a, b) (omega (arith, r, c))

  -- THE SUM LAW by what the current trees hold
  pub sum_of_texts : Holds w → ChangedApartInNew w → length (rewritten_bytes w) ≡ total in0 (length_at w) (changed_paths w)
  sum_of_texts h k = sum_in_time w k ∙ sums (changed_paths w) (All-map same (changed_paths w) (changed_lead w h))

-- THE SHARE of a batch, as it can be computed: one sum, one product, one division
pub ran_share : (h : Choices) (bytes : List ℕ) (a : Accepted) (p : Plan) (w : World) → accepted bytes ≡ gives a → plan h a ≡ gives p → ran a p ≡ gives w
    → share_in w ≡ thousandths (total in0 (length_at w) (changed_paths w)) (length (new_text w))
unfolding share_in
ran_share h bytes a p w x y z = ap (λ (n : ℕ). thousandths n (length (new_text w))) (sum_of_texts w (ran_known h bytes a p w x y z).holds (ran_apart h bytes a p w x y z).1)
