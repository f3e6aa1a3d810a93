-- A FULL ACCOUNT OF THE NEW TREE (document 02, Note 13): of any performed changes, and of a batch.
-- Assumes nothing.
use Rattle.std.specs.Prelude.{◌≡◌, Bool, not, ◌&&◌, ◌⊎◌, ◌↔◌, ℕ, ◌<◌, eqb, length}
use Rattle.std.proofs.Math.Path.{refl, ap}
use Rattle.std.proofs.Common.{sym, ◌∙◌, subst, inl, inr, arith, eq-eqb}
use Rattle.std.proofs.Math.Bool.{true, false}
use mathlib.Core.List.{List, [], ◌∷◌, head_d}
use Rattle.std.proofs.Math.Option.{Option, none, some, map, bind}
use Rattle.std.proofs.lemmas.Bool.{not-true}
use Rattle.orders.specs.Lists.{All}
use Rattle.orders.specs.ListLaws.{bool_absurd, none_some, none_passes, All-map}
use Rattle.orders.specs.Tree.{Tree, Path}
use Rattle.orders.specs.Splices as Splices
use Rattle.orders.specs.Splices.{Splice, State, EntersDeleted}
use Rattle.definition.specs.Basics.{gives}
use Rattle.definition.specs.Choices.{Choices}
use Rattle.definition.specs.Elements.{Table, table, row, no_row, tree}
use Rattle.definition.specs.Refusals.{Accepted, accepted}
use Rattle.definition.specs.Planning.{Planned, target}
use Rattle.definition.specs.Rewriting.{Note}
use Rattle.definition.specs.Running.{World, begin, present, owned, records, steps}
use Rattle.definition.specs.Finishing.{number_at, new_table}
use Rattle.definition.specs.Answers.{Plan, plan, performed, at_first, ran}
use Rattle.definition.specs.Performed.{splices}
use Rattle.definition_laws.specs.Basics.{get_d_map}
use Rattle.definition_laws.specs.Spelling.{Worded}
use Rattle.definition_laws.specs.Moves.{stay_keeps}
use Rattle.definition_laws.specs.Right.{Right, right_sits}
use Rattle.definition_laws.specs.Running.{follows_begin}
use Rattle.definition_laws.specs.Held.{Leads, Holds, begin_holds, steps_hold, number_found}
use Rattle.definition_laws.proofs.Limits.{ran_known}
use Rattle.definition_demand.specs.Aims.{replaces_root}
use Rattle.definition_demand.proofs.Tree0.{Tree0}
use Rattle.definition_demand.specs.Run.{splices_in0}
use Rattle.definition_demand.proofs.Run.{run_made, tree0_begin}
use Rattle.definition_account.specs.Words.{ChangedApart, Full, went_to, ChangedApartInNew, dependent_in0, keeps_root, no_dependent_in0, EachOneOf, NowhereIfDeleted, FullAccount}
use Rattle.definition_account.proofs.Run.{Kept, Recorded, first_kept, first_full, steps_kept}
use Rattle.definition_account.proofs.Numbers.{present_leads, apart_in_new, full_each}
use Rattle.definition_account.proofs.Dropped.{targets_drop}

-- ── Any performed changes ───────────────────────────────────────────────────────────────────────────────────

-- changes performed on trees, all of them, whatever planned them; w is what they leave
pub record Performed (ts : List (Tree ℕ)) (notes : List Note) (ps : List Planned) (w : World) : Type 0 where
  -- kind words fit nodes and tokens
  pub worded : All Worded ts
  -- notes stand where elements do
  pub noted : All (λ n. (e : ℕ) × (e < length (table 0 0 ts)) × (n.path ≡ (row (table 0 0 ts) e).path)) notes
  -- line 6 accepts each change
  pub right : All (λ p. Right (table 0 0 ts) p.change) ps
  pub ran : steps (table 0 0 ts) (begin ts (table 0 0 ts) notes) (begin ts (table 0 0 ts) notes) ps ≡ gives w

module _ (ts : List (Tree ℕ)) (notes : List Note) (ps : List Planned) (w : World) (h : Performed ts notes ps w) where
  abbrev T : Table
  T = table 0 0 ts

  abbrev first : World
  first = begin ts T notes

  all_kept : Kept ts w × (All (Recorded T) ps → Full first → Full w)
  all_kept = let k = first_kept ts notes h.worded in steps_kept ts first k.follows.worded ps first w k h.right h.ran

  all_hold : Holds w
  all_hold =
      let f = follows_begin ts notes h.worded in
      let b = begin_holds ts notes h.noted in
      steps_hold ts first f.worded b ps first w f b h.right h.ran

  -- THE INVARIANT: by paths, and by the numbers of the result
  pub performed_apart : ChangedApart w
  performed_apart = all_kept.0.apart

  pub performed_apart_in_new : ChangedApartInNew w
  performed_apart_in_new = apart_in_new w ts all_kept.0 all_hold

  -- ── "every element of the new tree" ──

  recorded_each : (p : Planned) → dependent_in0 T p ≡ false → Recorded T p
  unfolding dependent_in0 records
  recorded_each p e z = go (owned none p.fate) (eqb (tree T (target p.change)) 0) (eq-eqb (tree T (target p.change)) 0 z) e
    where
      go : (o t : Bool) → t ≡ true → (not o && t) ≡ false → (o && t) ≡ true
      go true t e f = e
      go false t e f = bool_absurd e f

  pub each_one_of : no_dependent_in0 T ps ≡ true → EachOneOf T w
  unfolding no_dependent_in0
  each_one_of e = full_each w ts all_kept.0 all_hold (all_kept.1 (All-map recorded_each ps (none_passes (dependent_in0 T) ps (not-true _ e))) (first_full ts notes))

  -- ── "old elements that go nowhere" ──

  -- an old element that is present is in the new tree
  gone : (x : ℕ) (e : Path) → (row T x).path ≡ 0 ∷ e → (went_to w x ≡ none) ↔ (present w x ≡ none)
  unfolding went_to bind tree head_d
  gone x e z = (λ y. go (present w x) refl y, λ y. ap (λ (o : Option Path). bind o (number_at (new_table w))) y)
    where
      go : (o : Option Path) → present w x ≡ o → bind o (number_at (new_table w)) ≡ none → present w x ≡ none
      go none y n = y
      go (some p) y n =
          let (q, u) = all_kept.0.home x p y in
          let is : p ≡ 0 ∷ q = u ∙ ap {B = Path} (λ (s : Path). head_d s 0 ∷ q) z in
          let (m, a, i, b) = number_found w q (subst (Leads w.trees) is (present_leads w ts all_kept.0 all_hold x p y)) in
          none_some (sym n ∙ (ap (number_at (new_table w)) is ∙ a))

-- where an element of tree 0 is, by what its path came to
present_here : (T : Table) (w : World) (now : State ℕ) → Tree0 T w now → (x : ℕ) (e : Path) → x < length T → (row T x).path ≡ 0 ∷ e → present w x ≡ map (λ p. 0 ∷ p) (now.path e)
unfolding present row
present_here T w now h x e l z = rw h.paths (get_d_map (λ r. h.move r.path) T x none no_row l ∙ (ap h.move z ∙ h.here e))

pub nowhere_if_deleted : (ts : List (Tree ℕ)) (notes : List Note) (ps : List Planned) (w : World) → Performed ts notes ps w → keeps_root (table 0 0 ts) ps ≡ true → NowhereIfDeleted (table 0 0 ts) (splices_in0 (table 0 0 ts) (begin ts (table 0 0 ts) notes) ps) w
unfolding table keeps_root Splices.begin
nowhere_if_deleted [] notes ps w h c x e l z = absurd (omega arith)
nowhere_if_deleted (old ∷ others) notes ps w h c x e l z =
    let ts : List (Tree ℕ) = old ∷ others in
    let T = table 0 0 ts in
    let first = begin ts T notes in
    let sits = All-map (λ p s. right_sits T p.change s) ps h.right in
    let m = run_made ts notes ps 0 first w (Splices.begin old) (tree0_begin old others notes) sits (none_passes (λ p. replaces_root T p.change) ps (not-true _ c)) h.ran in
    let there = present_here T w m.final m.tree0 x e l z in
    let (to, from) = targets_drop (splices_in0 T first ps) m.targets (Splices.begin old) m.final stay_keeps m.made e in
    let (gone, lost) = gone ts notes ps w h x e z in
    ((λ y. dropped (to (none_of (m.final.path e) (sym there ∙ gone y)))), λ y. lost (there ∙ ap (map (λ p. 0 ∷ p)) (from (inr y))))
  where
    none_of : (o : Option Path) → map (λ p. 0 ∷ p) o ≡ none → o ≡ none
    none_of none y = refl
    none_of (some p) y = none_some (sym y)

    dropped : {S : List (Splice ℕ)} → (◌≡◌ {A = Option Path} (some e) none) ⊎ EntersDeleted S e → EntersDeleted S e
    dropped (inl y) = none_some (sym y)
    dropped (inr y) = y

-- ── NOTE 13 ─────────────────────────────────────────────────────────────────────────────────────────────────

-- of any performed changes
pub full_account : (ts : List (Tree ℕ)) (notes : List Note) (ps : List Planned) (w : World) → Performed ts notes ps w
    → keeps_root (table 0 0 ts) ps ≡ true → no_dependent_in0 (table 0 0 ts) ps ≡ true → FullAccount (table 0 0 ts) (splices_in0 (table 0 0 ts) (begin ts (table 0 0 ts) notes) ps) w
full_account ts notes ps w h r d = record { each = each_one_of ts notes ps w h d; nowhere = nowhere_if_deleted ts notes ps w h r }

-- what a batch performs
pub ran_performed : (h : Choices) (bytes : List ℕ) (a : Accepted) (p : Plan) (w : World) → accepted bytes ≡ gives a → plan h a ≡ gives p → ran a p ≡ gives w → Performed a.trees p.notes (performed a p) w
unfolding ran at_first
ran_performed h bytes a p w x y e =
    let R = ran_known h bytes a p w x y e in
    let t : a.table ≡ table 0 0 a.trees = R.known.table in
    record {
      worded = R.known.spells.worded;
      noted = subst (λ (T : Table). All (λ n. (e : ℕ) × (e < length T) × (n.path ≡ (row T e).path)) p.notes) t R.planning.noted;
      right = subst (λ (T : Table). All (λ q. Right T q.change) (performed a p)) t R.right;
      ran = subst (λ (T : Table). steps T (begin a.trees T p.notes) (begin a.trees T p.notes) (performed a p) ≡ gives w) t e;
    }

-- the invariant, of every batch that is not refused
pub ran_apart : (h : Choices) (bytes : List ℕ) (a : Accepted) (p : Plan) (w : World) → accepted bytes ≡ gives a → plan h a ≡ gives p → ran a p ≡ gives w → ChangedApart w × ChangedApartInNew w
ran_apart h bytes a p w x y e =
    let k = ran_performed h bytes a p w x y e in
    (performed_apart a.trees p.notes (performed a p) w k, performed_apart_in_new a.trees p.notes (performed a p) w k)

-- "It holds for an accepted batch that does not replace the root and has no dependent change ending in tree 0."
pub note_13 : (h : Choices) (bytes : List ℕ) (a : Accepted) (p : Plan) (w : World) → accepted bytes ≡ gives a → plan h a ≡ gives p → ran a p ≡ gives w
    → keeps_root a.table (performed a p) ≡ true → no_dependent_in0 a.table (performed a p) ≡ true → FullAccount a.table (splices a p) w
unfolding splices at_first
note_13 h bytes a p w x y e =
    let R = ran_known h bytes a p w x y e in
    subst (λ (T : Table). keeps_root T (performed a p) ≡ true → no_dependent_in0 T (performed a p) ≡ true → FullAccount T (splices_in0 T (begin a.trees T p.notes) (performed a p)) w)
    (sym R.known.table) (full_account a.trees p.notes (performed a p) w (ran_performed h bytes a p w x y e))
