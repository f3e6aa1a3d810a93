-- What a listed element yields, in rows: the rows of the tree that the definition yields, and its notes by their rows.
-- Assumes nothing.
use Rattle.std.specs.Prelude.{◌≡◌, ℕ, ◌+◌, ◌<◌, length, get_or}
use Rattle.std.proofs.Math.Path.{refl, ap}
use Rattle.std.proofs.Common.{sym, ◌∙◌}
use mathlib.Core.List.{List, [], ◌∷◌, map}
use Rattle.std.proofs.Math.Option
use Rattle.std.proofs.Math.Option.{Option, none, some}
use Rattle.orders.specs.Lists.{All, pick, more}
use Rattle.orders.specs.ListLaws.{All-map}
use Rattle.orders.specs.Tree.{Tree, token, Path, resolve, strip}
use Rattle.definition.specs.Elements.{table}
use Rattle.definition.specs.Rewriting.{Note}
use Rattle.definition.specs.Running.{World, present, with_path, notes_at, Yield, yield_at, yield}
use Rattle.definition_laws.specs.Running.{Follows, present_kind}
use Rattle.definition_laws.specs.Held.{Leads, Holds}
use Rattle.rows_model.specs.Row.{Row, rows_of}
use Rattle.rows_model.specs.Place.{size, place, mark_of, in_run}
use Rattle.rows_model.proofs.PlaceLaws.{after_at, subtree_at}
use Rattle.rows_model.proofs.Moves.{strip_place}
use Rattle.run_model.specs.Store.{HeldNote, held_note, store, with_row, marked, end_row, Part, part_at, part_of}
use Rattle.run_model.proofs.Gaps.{mark_present, marked_none, marked_some}

-- what is picked from a list, told in another way
module _ {A B C D : Type 0} (h : A → C) (k : B → D) (f : A → Option B) (g : C → Option D) where
  pub pick_square : (l : List A) → All (λ x. g (h x) ≡ Option.map k (f x)) l → pick g (map h l) ≡ map k (pick f l)
  unfolding pick
  pick_square [] e = refl
  pick_square (x ∷ l) e = ap (λ o. more o (pick g (map h l))) e.0 ∙ (ap (more (Option.map k (f x))) (pick_square l e.1) ∙ go (f x) (pick f l))
    where
      go : (o : Option B) (m : List B) → more (Option.map k o) (map k m) ≡ map k (more o m)
      go none m = refl
      go (some y) m = refl

-- what is yielded, in rows
unfoldable pub part_in : Yield → Part
part_in y = record { rows = rows_of y.tree; notes = map (held_note y.tree) y.notes }

-- the element at a path
pub part_at_lem : (w : World) (p : Path) (u : Tree ℕ) → Holds w → resolve p w.trees ≡ some u → part_at (store w) (place p w.trees) ≡ part_in (yield_at w p)
unfolding part_at store part_in yield_at notes_at end_row held_note with_row with_path
part_at_lem w p u h e =
    part_same (subtree_at p w.trees u e) (ap (λ n. pick (inside n) (map (held_note w.trees) w.notes)) (after_at p w.trees u e) ∙ pick_square (held_note w.trees) (held_note u) below (inside (place p w.trees + size u)) w.notes (All-map one w.notes h.notes))
    ∙ ap (λ o. part_in (record { tree = Option.get_or o (token 0 []); notes = pick below w.notes })) (sym e)
  where
    part_same : {r r' : List Row} {n n' : List HeldNote} → r ≡ r' → n ≡ n' → ◌≡◌ {A = Part} (record { rows = r; notes = n }) (record { rows = r'; notes = n' })
    part_same a b = rw (a, b)

    inside : ℕ → HeldNote → Option HeldNote
    inside n x = Option.map (with_row x) (in_run (place p w.trees) n x.row)

    below : Note → Option Note
    below n = Option.map (with_path n) (strip p n.path)

    one : (n : Note) → Leads w.trees n.path → inside (place p w.trees + size u) (held_note w.trees n) ≡ Option.map (held_note u) (below n)
    one n l = ap (Option.map (with_row (held_note w.trees n))) (sym (strip_place p n.path w.trees u l.found e l.there)) ∙ told n (strip p n.path)
      where
        told : (n : Note) (o : Option Path) → Option.map (with_row (held_note w.trees n)) (Option.map (λ r. place r u) o) ≡ Option.map (held_note u) (Option.map (with_path n) o)
        told n none = refl
        told n (some r) = refl

-- What a listed element yields in rows is what the definition yields.
pub part_yields : (ts : List (Tree ℕ)) (first w : World) (e : ℕ) (p₀ : Path) → Follows ts first → Follows ts w → Holds first → Holds w → e < length (table 0 0 ts) → present first e ≡ some p₀
    → part_of (store first) (store w) e ≡ part_in (yield first w e)
unfolding part_of yield mark_of
part_yields ts first w e p₀ f₀ f h₀ h k g₀ = go (present w e) refl
  where
    chosen : Option ℕ → Part
    chosen o = elim o as (λ o. Part) [ none ↦ part_at (store first) (get_or (store first).marks e 0) | some m ↦ part_at (store w) m ]

    go : (o : Option Path) → present w e ≡ o → chosen (marked (store w) e) ≡ part_in (elim o as (λ o. Yield) [ none ↦ yield_at first (Option.get_or (present first e) []) | some p ↦ yield_at w p ])
    go none g =
        let (u, a, b) = present_kind ts first f₀ e p₀ k g₀ in
        ap chosen (marked_none w e g)
        ∙ (ap (part_at (store first)) (mark_present first e ∙ ap (mark_of first.trees) g₀) ∙ (part_at_lem first p₀ u h₀ a ∙ ap (λ o. part_in (yield_at first (Option.get_or o []))) (sym g₀)))
    go (some p) g =
        let (u, a, b) = present_kind ts w f e p k g in
        ap chosen (marked_some ts w f e p k g) ∙ part_at_lem w p u h a
