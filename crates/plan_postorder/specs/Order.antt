-- The order in which changes run, as places of rows, and that it is what the definition says.
-- Assumes nothing.
use Rattle.std.specs.Prelude.{◌≡◌}
use Rattle.std.proofs.Math.Path.{refl, sym}
use Rattle.std.proofs.Common.{ap, ◌∙◌}
use Rattle.std.proofs.Math.Bool.{Bool}
use mathlib.Core.List.{List, [], ◌∷◌, ◌++◌, map, flat_map, map-map, map-id}
use Rattle.std.proofs.Math.Option.{Option, none, some}
use Prim.Native.Nat.{ℕ, zero, suc}
use Rattle.orders.specs.ListLaws.{map_append}
use Rattle.definition.specs.Basics.{keep, numbered, falling}
use Rattle.definition.specs.Elements.{Table}
use Rattle.definition.specs.Planning.{Planned, key}
use Rattle.definition.specs.Running.{owned, ranked, order}
use Rattle.record_changes.specs.ChangeRow.{ChangeRow, rows_of}
use Rattle.definition_laws.specs.Sorting.{map_falling}
use Rattle.plan_sort.specs.Lists.{map_numbered, map_keep}
use Rattle.record_changes.specs.ChangeRowLaws.{row_at}
use Rattle.plan_sort.specs.Rows.{row_key, row_fate}
use Rattle.plan_sort.specs.Sorting.{ranked_places, ranked_places_lem}

-- ── The order of things that have a place and an owner ──────────────────────────────────────────────────────

-- "Dependents run before their owner": of qs, the things of one owner (or those without), each after its own dependents; n may remain
unfoldable pub ordered : {A : Type 0} → (Option ℕ → A → Bool) → (A → ℕ) → List A → ℕ → Option ℕ → List A
ordered owns place qs zero owner = []
ordered owns place qs (suc n) owner = flat_map (λ q. ordered owns place qs n (some (place q)) ++ (q ∷ [])) (keep (owns owner) qs)

-- an owner as index + 1; 0 = none
unfoldable pub owner_told : ℕ → Option ℕ
owner_told zero = none
owner_told (suc k) = some k

-- the row at place k has this owner, told so
unfoldable pub owned_at : List ℕ → ℕ → ℕ → Bool
owned_at w o k = owned (owner_told o) (row_fate (row_at w k))

-- of the places qs, those that have this owner, each after its own dependents; n may remain
unfoldable pub runs : List ℕ → List ℕ → ℕ → ℕ → List ℕ
runs w qs n o = ordered (λ o k. owned o (row_fate (row_at w k))) (λ k. k) qs n (owner_told o)

-- the places of n rows in the order in which they run
unfoldable pub running_places : List ℕ → ℕ → List ℕ
running_places w n = runs w (ranked_places w n) n 0

-- ── Each thing changed ──────────────────────────────────────────────────────────────────────────────────────

module _ {X Y Z : Type 0} where
  -- the same lists joined, where each is another's with each element changed
  pub map_joined : (f : X → Y) (g : X → List X) (g' : Y → List Z) (h : X → Z) → ((x : X) → map h (g x) ≡ g' (f x)) → (l : List X) → map h (flat_map g l) ≡ flat_map g' (map f l)
  unfolding flat_map
  map_joined f g g' h same [] = refl
  map_joined f g g' h same (x ∷ l) = map_append h (g x) (flat_map g l) ∙ rw (same x, map_joined f g g' h same l)

module _ {X Y : Type 0} (f : X → Y) (owns : Option ℕ → X → Bool) (place : X → ℕ) (owns' : Option ℕ → Y → Bool) (place' : Y → ℕ)
    (same-owner : (o : Option ℕ) (x : X) → owns o x ≡ owns' o (f x)) (same_place : (x : X) → place x ≡ place' (f x)) where
  pub map_ordered : (qs : List X) (n : ℕ) (o : Option ℕ) → map f (ordered owns place qs n o) ≡ ordered owns' place' (map f qs) n o
  unfolding ordered
  map_ordered qs zero o = refl
  map_ordered qs (suc n) o =
      map_joined f (λ q. ordered owns place qs n (some (place q)) ++ (q ∷ [])) (λ q. ordered owns' place' (map f qs) n (some (place' q)) ++ (q ∷ [])) f
      (λ q. map_append f (ordered owns place qs n (some (place q))) (q ∷ []) ∙ rw (map_ordered qs n (some (place q)), same_place q)) (keep (owns o) qs)
      ∙ rw (map_keep f (owns o) (owns' o) (same-owner o) qs)

-- the definition's order is of this kind
pub order_ordered : (qs : List (ℕ × Planned)) (n : ℕ) (o : Option ℕ) → map (λ q. q.1) (ordered (λ o q. owned o q.1.fate) (λ q. q.0) qs n o) ≡ order qs n o
unfolding ordered order
order_ordered qs zero o = refl
order_ordered qs (suc n) o =
    map_joined (λ q. q) (λ q. ordered (λ o q. owned o q.1.fate) (λ q. q.0) qs n (some q.0) ++ (q ∷ [])) (λ q. order qs n (some q.0) ++ (q.1 ∷ [])) (λ q. q.1)
    (λ q. map_append (λ (q : ℕ × Planned). q.1) (ordered (λ o q. owned o q.1.fate) (λ q. q.0) qs n (some q.0)) (q ∷ []) ∙ rw (order_ordered qs n (some q.0)))
    (keep (λ q. owned o q.1.fate) qs)
    ∙ rw (map-id (keep (λ q. owned o q.1.fate) qs))

-- ── The definition's order ──────────────────────────────────────────────────────────────────────────────────

-- things that have a row and a planned change each, with the same key and fate
module _ (T : Table) {X : Type 0} (row : X → ChangeRow) (plan : X → Planned) (keys : (x : X) → row_key (row x) ≡ key T (plan x).change) (fated : (x : X) → row_fate (row x) ≡ (plan x).fate) where
  -- the things with their places, in the order in which they run
  unfoldable pub in_order : List X → ℕ → List (ℕ × X)
  in_order xs n = ordered (λ o q. owned o (plan q.1).fate) (λ q. q.0) (falling (λ q. key T (plan q.1).change) (numbered 0 xs)) n none

  abbrev keyed : ℕ × X → List ℕ
  keyed q = key T (plan q.1).change

  abbrev owns : Option ℕ → ℕ × X → Bool
  owns o q = owned o (plan q.1).fate

  abbrev plan_at : ℕ × X → ℕ × Planned
  plan_at q = (q.0, plan q.1)

  abbrev rowed_at : ℕ × X → ℕ × ChangeRow
  rowed_at q = (q.0, row q.1)

  pub order_told : (xs : List X) (n : ℕ) → order (ranked T (map plan xs)) n none ≡ map (λ q. plan q.1) (in_order xs n)
  unfolding in_order ranked
  order_told xs n =
      let qs : List (ℕ × X) = falling keyed (numbered 0 xs) in
      let e : ranked T (map plan xs) ≡ map plan_at qs = rw (← map_numbered plan 0 xs) (sym (map_falling plan_at keyed (λ q. key T q.1.change) (λ q. refl) (numbered 0 xs))) in
      rw (e, ← order_ordered (map plan_at qs) n none, ← map_ordered plan_at owns (λ q. q.0) (λ o q. owned o q.1.fate) (λ q. q.0) (λ o q. refl) (λ q. refl) qs n none)
      (map-map (λ (q : ℕ × Planned). q.1) plan_at (ordered owns (λ q. q.0) qs n none))

  module _ (w : List ℕ) (xs : List X) (n : ℕ) (e : rows_of n w ≡ map row xs) where
    abbrev row_at_place : ℕ → ℕ × ChangeRow
    row_at_place k = (k, row_at w k)

    ranked_told : map row_at_place (ranked_places w n) ≡ map rowed_at (falling keyed (numbered 0 xs))
    ranked_told =
        ranked_places_lem w n
        ∙ rw (e, ← map_numbered row 0 xs) (sym (map_falling rowed_at keyed (λ q. row_key q.1) (λ q. sym (keys q.1)) (numbered 0 xs)))

    both_told : map row_at_place (running_places w n) ≡ map rowed_at (in_order xs n)
    unfolding in_order running_places runs owner_told
    both_told =
        let owns_row : Option ℕ → ℕ × ChangeRow → Bool = λ o q. owned o (row_fate q.1) in
        map_ordered row_at_place (λ o k. owned o (row_fate (row_at w k))) (λ k. k) owns_row (λ q. q.0) (λ o k. refl) (λ k. refl) (ranked_places w n) n none
        ∙ (ap (λ (qs : List (ℕ × ChangeRow)). ordered owns_row (λ q. q.0) qs n none) ranked_told
        ∙ sym (map_ordered rowed_at owns (λ q. q.0) owns_row (λ q. q.0) (λ o q. rw (fated q.1)) (λ q. refl) (falling keyed (numbered 0 xs)) n none))

    -- the rows at the places that are computed
    pub rows_told_lem : map (row_at w) (running_places w n) ≡ map (λ q. row q.1) (in_order xs n)
    rows_told_lem =
        sym (map-map (λ (q : ℕ × ChangeRow). q.1) row_at_place (running_places w n)) ∙ (ap (map (λ (q : ℕ × ChangeRow). q.1)) both_told ∙ map-map (λ (q : ℕ × ChangeRow). q.1) rowed_at (in_order xs n))
