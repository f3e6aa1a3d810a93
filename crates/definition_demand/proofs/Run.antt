-- A whole run: the steps in tree 0 are its splices done where their targets tell, so where they are apart all that demand 3 says holds of it, whatever planned it.
-- Assumes nothing.
use Rattle.std.specs.Prelude.{◌≡◌, refl, false, ℕ, suc, ◌≤◌, ◌<◌, length}
use Rattle.std.proofs.Math.Path.{sym, ap, subst}
use Rattle.std.proofs.Common.{◌∙◌, arith}
use mathlib.Core.List.{List, [], ◌∷◌, map}
use Rattle.std.proofs.Math.Option.{none, some, bind}
use Rattle.std.proofs.Math.ListN.{take}
use Rattle.orders.specs.Lists.{pick, All}
use Rattle.orders.specs.ListLaws.{some_inj, map_some, All-map, pick_none, pick_some}
use Rattle.orders.specs.Tree.{Tree, forest, list, children, Path, resolve}
use Rattle.orders.specs.Tree as Tree
use Rattle.orders.specs.Splices.{Splice, State, perform_at, AllApart}
use Rattle.orders.specs.Splices as Splices
use Rattle.orders.proofs.Demand.{Demanded}
use Rattle.orders.proofs.Target.{Target, run_by_target, perform_by_targets, Rising, demanded_by_targets}
use Rattle.definition.specs.Basics.{gives, numbered}
use Rattle.definition.specs.Elements.{Table, table, no_row, row}
use Rattle.definition.specs.Planning.{Planned}
use Rattle.definition.specs.Rewriting.{Note}
use Rattle.definition.specs.Running.{World, begin, present, step, steps}
use Rattle.definition.specs.Finishing.{new_tree}
use Rattle.definition.specs.Performed.{to_splice, met, yields, told}
use Rattle.definition_laws.specs.Basics.{get_d_map}
use Rattle.definition_laws.specs.Answers.{gives_inj, given}
use Rattle.definition_laws.specs.Rows.{Element, row_of, element}
use Rattle.definition_laws.specs.Kin.{element_path, element_tree, row_told_lem, element_stands, stands_within}
use Rattle.definition_laws.specs.Moves.{stay_keeps}
use Rattle.definition_laws.specs.Right.{Sits}
use Rattle.definition_demand.proofs.Tree0.{Tree0}
use Rattle.definition_demand.specs.Aims.{old_run, replaces_root}
use Rattle.definition_demand.proofs.Step.{aim_splice, aim_target, Stepped, apart, done, stepped}
use Rattle.definition_demand.specs.Run.{splices_from, splices_in0, DemandedOf}

-- ── The splices of a run ────────────────────────────────────────────────────────────────────────────────────

module _ {R : Type 0} (f : ℕ × R → Splice ℕ) (k : (s : ℕ × R) → (f s).number ≡ s.0) where
  numbers_from : (n : ℕ) (l : List R) → All (λ s. n ≤ s.number) (map f (numbered n l))
  unfolding numbered
  numbers_from n [] = tt
  numbers_from n (x ∷ l) = (omega (arith, k (n, x)), All-map (λ s h. omega arith) (map f (numbered (suc n) l)) (numbers_from (suc n) l))

  numbers_rise : (n : ℕ) (l : List R) → Rising (map f (numbered n l))
  unfolding numbered
  numbers_rise n [] = tt
  numbers_rise n (x ∷ l) = (All-map (λ s h. omega (arith, k (n, x))) (map f (numbered (suc n) l)) (numbers_from (suc n) l), numbers_rise (suc n) l)

pub splices_rise : (T : Table) (first : World) (n : ℕ) (ms : List (World × Planned)) → Rising (splices_from T first n ms)
unfolding to_splice
splices_rise T first n ms = numbers_rise to_splice (λ s. refl) n (pick (told T first) ms)

-- ── The whole list ──────────────────────────────────────────────────────────────────────────────────────────

-- the splices done where their targets tell, from the state on, are what a run makes of tree 0
pub record Made (T : Table) (S : List (Splice ℕ)) (now : State ℕ) (end : World) : Type 0 where
  pub targets : All Target S
  pub final : State ℕ
  pub made : perform_by_targets S targets now ≡ some final
  pub tree0 : Tree0 T end final

module _ (T : Table) (first : World) where
  pub met_step : (w next : World) (p : Planned) (ps : List Planned) → step T first w p ≡ gives next → met T first w (p ∷ ps) ≡ (w, p) ∷ met T first next ps
  unfolding met
  met_step w next p ps e = rw (e, met)

  -- one splice more in front
  more_made : (s : Splice ℕ) (S : List (Splice ℕ)) (t : Target s) (now : State ℕ) (end : World) (r : Tree.Run) → run_by_target now.path s t ≡ some r → Made T S (perform_at r s now) end → Made T (s ∷ S) now end
  unfolding perform_by_targets bind
  more_made s S t now end r e m = record { targets = (t, m.targets); final = m.final; made = rw e m.made; tree0 = m.tree0 }

  -- by what the first step is
  step_made : (n : ℕ) (m : World × Planned) (next end : World) (now : State ℕ) (ms : List (World × Planned)) → Stepped T first now m next
      → ((n : ℕ) (now : State ℕ) → Tree0 T next now → Made T (splices_from T first n ms) now end) → Made T (splices_from T first n (m ∷ ms)) now end
  unfolding numbered
  step_made n m next end now ms (apart t h) k = rw (pick_none (told T first) m ms t) (k n now h)
  step_made n m next end now ms (done b t f) k =
      let (r, e, h) = f n in
      rw (pick_some (told T first) m ms (old_run b, yields T first m) t)
      (more_made (aim_splice n b (yields T first m)) (splices_from T first (suc n) ms) (aim_target n b (yields T first m)) now end r e (k (suc n) (perform_at r (aim_splice n b (yields T first m)) now) h))

module _ (ts : List (Tree ℕ)) (notes : List Note) where
  abbrev T : Table
  T = table 0 0 ts

  abbrev first : World
  first = begin ts T notes

  pub run_made : (ps : List Planned) (n : ℕ) (w end : World) (now : State ℕ) → Tree0 T w now → All (λ p. Sits T p.change) ps → All (λ p. replaces_root T p.change ≡ false) ps
      → steps T first w ps ≡ gives end → Made T (splices_from T first n (met T first w ps)) now end
  unfolding steps met pick numbered perform_by_targets
  run_made [] n w end now h s k e = record { targets = tt; final = now; made = refl; tree0 = rw (← gives_inj e) h }
  run_made (p ∷ ps) n w end now h s k e =
      given (step T first w p) _ e λ next a e.
      subst (λ (ms : List (World × Planned)). Made T (splices_from T first n ms) now end) (sym (met_step T first w next p ps a))
      (step_made T first n (w, p) next end now (met T first next ps) (stepped ts notes w next p now h s.0 k.0 a)
      (λ n now h. run_made ps n next end now h s.1 k.1 e))

-- ── Demand 3 of a run ───────────────────────────────────────────────────────────────────────────────────────

module _ (old : Tree ℕ) (others : List (Tree ℕ)) (notes : List Note) where
  abbrev T₀ : Table
  T₀ = table 0 0 (old ∷ others)

  abbrev first₀ : World
  first₀ = begin (old ∷ others) T₀ notes

  -- before the first step
  pub tree0_begin : Tree0 T₀ first₀ (Splices.begin old)
  unfolding begin forest Splices.begin
  tree0_begin = record {
    kind = 2147483648;
    others = forest others;
    trees = refl;
    move = λ p. some p;
    keeps = stay_keeps;
    paths = refl;
    here = λ e. refl;
    elsewhere = λ t e q z. (e, sym (some_inj z));
  }

  old_row : (e : Path) (t : Tree ℕ) → resolve e old ≡ some t → (x : ℕ) × (x < length T₀) × ((row T₀ x).path ≡ 0 ∷ e)
  unfolding forest list resolve bind row_of
  old_row e t z =
      let ts : List (Tree ℕ) = old ∷ others in
      let (d, a, b) = map_some (λ (d : Element). d.tree) (element ts (0 ∷ e)) (element_tree ts 0 e 0 ∙ z) in
      (d.number, stands_within ts d.number (element_stands ts (0 ∷ e) d a), ap (λ r. r.path) (row_told_lem ts (0 ∷ e) d a) ∙ element_path ts (0 ∷ e) d a)

  tree0_told : (w : World) (S : List (Splice ℕ)) (now : State ℕ) → Tree0 T₀ w now → Demanded old S now → DemandedOf old S T₀ w
  unfolding new_tree children list present row
  tree0_told w S now h d = record {
    now = now;
    demanded = d;
    tree = ap (λ t. take 1 (list (children t))) h.trees;
    paths = λ x e l z. rw h.paths (get_d_map (λ r. h.move r.path) T₀ x none no_row l ∙ (ap h.move z ∙ h.here e));
    elements = old_row;
  }

  -- Any steps performed on the batch's trees, whatever planned them: if their splices in tree 0 are apart and none replaces its root, tree 0 is the old tree rewritten in one go, and each old path is where
  -- the one go puts it.
  pub run_demanded : (ps : List Planned) (w : World) → All (λ p. Sits T₀ p.change) ps → All (λ p. replaces_root T₀ p.change ≡ false) ps → steps T₀ first₀ first₀ ps ≡ gives w
      → AllApart old (splices_in0 T₀ first₀ ps) → DemandedOf old (splices_in0 T₀ first₀ ps) T₀ w
  run_demanded ps w s k e h =
      let m = run_made (old ∷ others) notes ps 0 first₀ w (Splices.begin old) tree0_begin s k e in
      let S = splices_in0 T₀ first₀ ps in
      tree0_told w S m.final m.tree0 (demanded_by_targets old S m.targets m.final h (splices_rise T₀ first₀ 0 (met T₀ first₀ first₀ ps)) m.made)
