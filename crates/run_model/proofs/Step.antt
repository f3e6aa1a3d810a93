-- The run on rows is the definition's run: step by step, refusals included.
-- Assumes nothing.
use Rattle.std.specs.Prelude.{◌≡◌, Bool, true, false, ℕ, ◌≤◌, ◌<◌, length}
use Rattle.std.proofs.Math.Path.{refl, ap}
use Rattle.std.proofs.Common.{◌∙◌}
use mathlib.Core.List.{List, [], ◌∷◌, map}
use Rattle.std.proofs.Math.Option
use Rattle.std.proofs.Math.Option.{Option, none, some}
use Rattle.orders.specs.Lists.{All}
use Rattle.orders.specs.ListLaws.{All-over}
use Rattle.orders.specs.Tree.{Tree, Path, deepest, deepest_of, children}
use Rattle.definition.specs.Basics.{Answer, refused, gives, ◌>>=◌, refuse, or_refuse}
use Rattle.definition.specs.Elements.{Table, table, row, no_row}
use Rattle.definition.specs.Planning.{Planned}
use Rattle.definition.specs.Running.{World, begin, present, Yield, yield, news, Run, place as run_at, spliced, too_large, recorded_by, step, steps}
use Rattle.definition.specs.Refusals.{Accepted}
use Rattle.definition.specs.Rewriting.{Note}
use Rattle.definition.specs.Answers.{Plan, performed, at_first, ran}
use Rattle.definition_laws.specs.Basics.{map_All, get_d_map}
use Rattle.definition_laws.specs.Answers.{gives_inj, given, not_wrong}
use Rattle.definition_laws.specs.Measures.{deepest_each}
use Rattle.definition_laws.specs.Spelling.{Worded}
use Rattle.definition_laws.specs.Accepted.{Known}
use Rattle.definition_laws.specs.Right.{Right, Sits, right_sits, right_news}
use Rattle.definition_laws.specs.Plans.{Planning, performed_right}
use Rattle.definition_laws.specs.Running.{top, Follows, follows_begin, place_fits, step_follows}
use Rattle.definition_laws.specs.Held.{Holds, begin_holds, step_holds}
use Rattle.definition_laws.proofs.Limits.{small}
use Rattle.rows_model.specs.Place.{Held}
use Rattle.rows_model.proofs.Numbers.{elements_held}
use Rattle.run_model.specs.Store.{Store, store, Gap, depth_above, Part, part_of, spliced_store, store_too_large, store_step, store_steps}
use Rattle.run_model.proofs.Gaps.{gap_at, gap_place, depth_above_lem}
use Rattle.run_model.proofs.Parts.{part_in, part_yields}
use Rattle.run_model.proofs.Spliced.{spliced_store_lem}
use Rattle.run_model.proofs.Sizes.{store_too_large_lem}

-- what is kept from step to step
pub record Kept (ts : List (Tree ℕ)) (w : World) : Type 0 where
  pub follows : Follows ts w
  pub holds : Holds w
  pub shallow : deepest_of (children w.trees) ≤ 64

-- each present path leads to an element
pub paths_held : (ts : List (Tree ℕ)) (w : World) → Follows ts w → All (Held w.trees) w.paths
paths_held ts w f =
    rw f.paths (All-over (λ r. f.move r.path) (λ r. Held (top ts) (some r.path)) (Held w.trees) (λ r k. go r.path k (f.move r.path) refl) (table 0 0 ts) (map_All (Held (top ts)) (λ r. some r.path) (table 0 0 ts) (elements_held ts 2147483648)))
  where
    go : (p : Path) → Held (top ts) (some p) → (o : Option Path) → f.move p ≡ o → Held w.trees o
    go p k none e = tt
    go p k (some q) e = let (y, a, b) = f.leads p q k.0 k.1 e in (y, a)

-- what is held of an answer, in rows
abbrev pub in_rows : Answer World → Answer Store
in_rows a = a >>= λ w. gives (store w)

module _ (ts : List (Tree ℕ)) (first : World) (k₀ : Kept ts first) (all : (e : ℕ) → e < length (table 0 0 ts) → (p : Path) × (present first e ≡ some p)) where
  abbrev T : Table
  T = table 0 0 ts

  parts_yield : (w : World) → Kept ts w → (l : List ℕ) → All (λ e. e < length T) l → map (part_of (store first) (store w)) l ≡ map part_in (map (yield first w) l)
  parts_yield w k [] h = refl
  parts_yield w k (e ∷ l) h =
      let (p, g) = all e h.0 in
      ap {B = List Part} (λ y. y ∷ map (part_of (store first) (store w)) l) (part_yields ts first w e p k₀.follows k.follows k₀.holds k.holds h.0 g)
      ∙ ap {B = List Part} (λ l. part_in (yield first w e) ∷ l) (parts_yield w k l h.1)

  -- One step on rows is the definition's step, refused or not.
  pub step_store : (w : World) (p : Planned) → Kept ts w → Right T p.change → store_step T (store first) (store w) p ≡ in_rows (step T first w p)
  unfolding store_step step ◌>>=◌ or_refuse refuse
  step_store w p k c = ap (λ g. or_refuse 11 g >>= on_gap) (gap_place ts w k.follows p.change sits) ∙ go (run_at T w p.change) refl
    where
      sits : Sits T p.change
      sits = right_sits T p.change c

      judged : ℕ → List Part → Store → Answer Store
      judged d new next = refuse 12 (store_too_large d new next) >>= λ u. gives next

      parts : List Part
      parts = map (part_of (store first) (store w)) (news p.change)

      new : List Yield
      new = map (yield first w) (news p.change)

      on_gap : Gap → Answer Store
      on_gap g = judged (depth_above T (store w) p.change) parts (spliced_store g parts (recorded_by T p) (store w))

      on_run : Run → Answer World
      on_run r = refuse 12 (too_large (spliced r new (recorded_by T p) w)) >>= λ u. gives (spliced r new (recorded_by T p) w)

      last : (next : World) (b : Bool) → (refuse 12 b >>= λ u. gives (store next)) ≡ in_rows (refuse 12 b >>= λ u. gives next)
      last next true = refl
      last next false = refl

      go : (o : Option Run) → run_at T w p.change ≡ o → (or_refuse 11 (Option.map (gap_at w.trees) o) >>= on_gap) ≡ in_rows (or_refuse 11 o >>= on_run)
      go none e = refl
      go (some r) e =
          let run = (place_fits ts w k.follows p.change r sits e).run in
          let next = spliced r new (recorded_by T p) w in
          ap (λ y. judged (depth_above T (store w) p.change) y (spliced_store (gap_at w.trees r) y (recorded_by T p) (store w))) (parts_yield w k (news p.change) (right_news T p.change c))
          ∙ (ap (judged (depth_above T (store w) p.change) (map part_in new)) (spliced_store_lem w r new (recorded_by T p) run k.holds (paths_held ts w k.follows))
          ∙ (ap (λ d. judged d (map part_in new) (store next)) (depth_above_lem ts w k.follows p.change r sits e)
          ∙ (ap (λ b. refuse 12 b >>= λ u. gives (store next)) (store_too_large_lem w r new (recorded_by T p) run k.shallow) ∙ last next (too_large next))))

  -- and keeps what is kept
  pub step_kept : (w next : World) (p : Planned) → Kept ts w → Right T p.change → step T first w p ≡ gives next → Kept ts next
  unfolding step
  step_kept w next p k c e = record {
    follows = step_follows ts first k₀.follows.worded w next p k.follows c e;
    holds = step_holds ts first k₀.follows.worded k₀.holds w next p k.follows k.holds c e;
    shallow =
        given (or_refuse 11 (run_at T w p.change)) _ e λ r a e.
        given (refuse 12 (too_large (spliced r (map (yield first w) (news p.change)) (recorded_by T p) w))) _ e λ u b e.
        rw (← gives_inj e) (small _ (not_wrong 12 _ b)).depth;
  }

  -- All steps on rows are the definition's.
  pub steps_store : (ps : List Planned) (w : World) → Kept ts w → All (λ p. Right T p.change) ps → store_steps T (store first) (store w) ps ≡ in_rows (steps T first w ps)
  unfolding store_steps steps ◌>>=◌
  steps_store [] w k c = refl
  steps_store (p ∷ ps) w k c =
      ap (λ a. a >>= λ s. store_steps T (store first) s ps) (step_store w p k c.0) ∙ go (step T first w p) (λ next e. steps_store ps next (step_kept w next p k c.0 e) c.1)
    where
      go : (a : Answer World) → ((next : World) → a ≡ gives next → store_steps T (store first) (store next) ps ≡ in_rows (steps T first next ps))
          → (in_rows a >>= λ s. store_steps T (store first) s ps) ≡ in_rows (a >>= λ next. steps T first next ps)
      go (refused n) ih = refl
      go (gives next) ih = ih next refl

-- ── From the first step to the last ─────────────────────────────────────────────────────────────────────────

module _ (ts : List (Tree ℕ)) (notes : List Note) where
  -- before the first step each element of the batch has its path
  begin_present : (e : ℕ) → e < length (table 0 0 ts) → (p : Path) × (present (begin ts (table 0 0 ts) notes) e ≡ some p)
  unfolding begin present row
  begin_present e h = ((row (table 0 0 ts) e).path, get_d_map (λ r. some r.path) (table 0 0 ts) e none no_row h)

  begin_kept : All Worded ts → All (λ t. deepest t ≤ 64) ts → All (λ n. (e : ℕ) × (e < length (table 0 0 ts)) × (n.path ≡ (row (table 0 0 ts) e).path)) notes → Kept ts (begin ts (table 0 0 ts) notes)
  unfolding begin children
  begin_kept h d n = record { follows = follows_begin ts notes h; holds = begin_holds ts notes n; shallow = deepest_each 64 ts d }

-- What a plan performs runs on rows as it does by the definition: refused alike at the same step, or held in rows is what is there at the end.
pub ran_store : (bytes : List ℕ) (a : Accepted) (p : Plan) → Known bytes a → Planning a p → store_steps a.table (store (at_first a p)) (store (at_first a p)) (performed a p) ≡ in_rows (ran a p)
unfolding ran at_first
ran_store bytes a p k q = go a.table k.table (performed a p) q.noted (performed_right a p q)
  where
    go : (T : Table) → T ≡ table 0 0 a.trees → (ps : List Planned) → All (λ n. (e : ℕ) × (e < length T) × (n.path ≡ (row T e).path)) p.notes → All (λ q. Right T q.change) ps
        → store_steps T (store (begin a.trees T p.notes)) (store (begin a.trees T p.notes)) ps ≡ in_rows (steps T (begin a.trees T p.notes) (begin a.trees T p.notes) ps)
    go T e ps =
        rw e (λ n c.
        let b = begin_kept a.trees p.notes k.spells.worded k.shallow n in
        steps_store a.trees (begin a.trees (table 0 0 a.trees) p.notes) b (begin_present a.trees p.notes) ps (begin a.trees (table 0 0 a.trees) p.notes) b c)
