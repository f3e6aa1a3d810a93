-- UNDER RULE 1 NO OWN INSERTION IS LOST: a batch that replaces no root of tree 0, and has no dependent change ending there, answers with the one-go tree, and what each own
-- change puts into tree 0 stands in it.
-- Assumes nothing.
use Rattle.std.specs.Prelude.{◌≡◌, Bool, cond, ◌⊎◌, ℕ, suc, ◌<◌}
use Rattle.std.proofs.Math.Path.{refl, sym, ap}
use Rattle.std.proofs.Common.{◌∙◌, inl, inr, arith}
use Rattle.std.proofs.Math.Bool.{true, false}
use mathlib.Core.List.Memᴰ
use mathlib.Core.List.{List, [], ◌∷◌, head_d, Memᴰ}
use Rattle.std.proofs.Math.Option.{some, map, bind}
use Rattle.std.proofs.Math.ListN.{length}
use borrow.Author.Tests.{eq-eqb}
use Rattle.orders.specs.Lists.{pick, All}
use Rattle.orders.specs.ListLaws.{bool_absurd, All-map, All-mem, mem_pick}
use Rattle.orders.specs.Tree.{Tree, Path, front, last}
use Rattle.orders.proofs.TreeLaws.{front_child}
use Rattle.orders.specs.Splices.{AllApart}
use Rattle.definition.specs.Basics.{gives, ◌>>=◌}
use Rattle.definition.specs.Choices.{Choices}
use Rattle.definition.specs.Elements.{Table, table, row, root?, tree, child}
use Rattle.definition.specs.Refusals.{Accepted, accepted}
use Rattle.definition.specs.Recording.{first_child, after, Change, insert, replace, delete, replace_with_many, replace_all}
use Rattle.definition.specs.Planning.{own, Planned, target}
use Rattle.definition.specs.Rewriting.{Note}
use Rattle.definition.specs.EdgeRule.{target_parent, fates1, planned}
use Rattle.definition.specs.Running.{World, Run, begin, present, place, from_to, empty_at, step, steps}
use Rattle.definition.specs.Finishing.{result}
use Rattle.definition.specs.Answers.{remaining, Plan, plan, performed, at_first, ran, edit}
use Rattle.definition.specs.Performed.{in_tree0, to_splice, met, told, yields, splices}
use Rattle.definition_laws.specs.Answers.{given}
use Rattle.definition_laws.specs.Accepted.{Known, accepts}
use Rattle.definition_laws.specs.Kin.{path_long, not_root}
use Rattle.definition_laws.specs.Plans.{checked, changes, changes_right, plan_parts}
use Rattle.definition_laws.specs.Stages.{fates_by_1}
use Rattle.definition_laws.specs.Right.{Right, Sits, right_sits}
use Rattle.definition_demand.specs.Aims.{replaces_root}
use Rattle.definition_demand.specs.Run.{splices_in0, DemandedOf}
use Rattle.definition_demand.proofs.Run.{met_step}
use Rattle.definition_demand.specs.Answered.{ApartIn}
use Rattle.definition_demand.proofs.Answered.{ran_demanded, answers_one_go}
use Rattle.definition_account.proofs.Run.{first_present}
use Rattle.definition_edge.proofs.Where.{goes_at}
use Rattle.definition_edge.specs.Own.{planned_by, planned1, alone}
use Rattle.definition_edge.proofs.Own.{performed_right, mem_numbered, own_performed}
use Rattle.definition_edge.proofs.Apart.{apart_by_rule_1}
use Rattle.definition_edge.proofs.Stands.{prepared_stands}
use Rattle.definition_edge.specs.Kept.{Stood, Ran1, Kept1}

-- ── Where a performed change stands ─────────────────────────────────────────────────────────────────────────

-- each performed step is met
met_mem : (T : Table) (first : World) (ps : List Planned) (w last : World) (q : Planned) → steps T first w ps ≡ gives last → Memᴰ q ps → (m : World) × Memᴰ (m, q) (met T first w ps)
unfolding steps
met_mem T first [] w last q e m = absurd (Memᴰ.not-nil m)
met_mem T first (p ∷ ps) w last q e m =
    given (step T first w p) _ e λ next a e.
    rw (met_step T first w next p ps a) (go next (Memᴰ.cases_cons m) (λ m. met_mem T first ps next last q e m))
  where
    go : (next : World) → (q ≡ p) ⊎ Memᴰ q ps → (Memᴰ q ps → (m : World) × Memᴰ (m, q) (met T first next ps)) → (m : World) × Memᴰ (m, q) ((w, p) ∷ met T first next ps)
    go next (inl z) k = (w, Memᴰ.head (ap (λ (q : Planned). (w, q)) z))
    go next (inr z) k = let (m, y) = k z in (m, Memᴰ.tail y)

module _ (ts : List (Tree ℕ)) (notes : List Note) where
  abbrev T : Table
  T = table 0 0 ts

  abbrev first : World
  first = begin ts T notes

  path_here : (x : ℕ) → x < length T → tree T x ≡ 0 → (p : Path) × ((row T x).path ≡ 0 ∷ p)
  unfolding tree head_d
  path_here x h e = go (row T x).path (path_long ts x h) refl
    where
      go : (p : Path) → 0 < length p → (row T x).path ≡ p → (p : Path) × ((row T x).path ≡ 0 ∷ p)
      go [] l z = absurd (omega arith)
      go (i ∷ p) l z = let o : i ≡ 0 = sym (ap (λ (q : Path). head_d q 0) z) ∙ e in (p, z ∙ ap (λ (i : ℕ). i ∷ p) o)

  above_here : (x : ℕ) → x < length T → root? T x ≡ false → tree T x ≡ 0 → (p : Path) × (front (row T x).path ≡ 0 ∷ p)
  above_here x h r e =
      let (m, k) = not_root ts x h r in
      let (p, z) = path_here m k.within (sym k.tree ∙ e) in
      (p, ap front k.path ∙ (front_child (row T m).path (child T x) ∙ z))

  -- a change with its target in tree 0 goes to a run there, unless it replaces the root
  goes_here : (c : Change) → Sits T c → replaces_root T c ≡ false → tree T (target c) ≡ 0 → (r : Run) × (p : Path) × (place T first c ≡ some r) × (r.parent ≡ 0 ∷ p)
  unfolding place target replaces_root bind empty_at from_to
  goes_here (insert first_child x l) s n e = let (p, z) = path_here x s.0 e in (empty_at (row T x).path 0, p, rw (first_present ts notes x s.0), z)
  goes_here (insert after x l) s n e = let (p, z) = above_here x s.0 s.1 e in (empty_at (front (row T x).path) (suc (last (row T x).path)), p, rw (first_present ts notes x s.0), z)
  goes_here (replace x y) s n e = go (root? T x) refl
    where
      go : (b : Bool) → root? T x ≡ b → (r : Run) × (p : Path) × (bind (cond (root? T x) (some (row T x).path) (present first x)) (λ p. some (from_to p p)) ≡ some r) × (r.parent ≡ 0 ∷ p)
      go true z = bool_absurd (rw (z, eq-eqb (tree T x) 0 e)) n
      go false z = let (p, u) = above_here x s z e in (from_to (row T x).path (row T x).path, p, rw (z, first_present ts notes x s), u)
  goes_here (delete x) s n e = let (p, z) = above_here x s.0 s.1 e in (from_to (row T x).path (row T x).path, p, rw (first_present ts notes x s.0), z)
  goes_here (replace_with_many x l) s n e = let (p, z) = above_here x s.0 s.1 e in (from_to (row T x).path (row T x).path, p, rw (first_present ts notes x s.0), z)
  goes_here (replace_all x y l) s n e = let (p, z) = above_here x s.0 s.2 e in (from_to (row T x).path (row T y).path, p, rw (first_present ts notes x s.0, first_present ts notes y s.1), z)

  in0 : (r : Run) (p : Path) → r.parent ≡ 0 ∷ p → in_tree0 r ≡ some (record { parent = p; from = r.from; to = r.to })
  unfolding in_tree0
  in0 r p e = rw e

  module _ (old : Tree ℕ) (ps : List Planned) (w : World) (d : DemandedOf old (splices_in0 T first ps) T w) (h : AllApart old (splices_in0 T first ps)) where
    stood : All (λ q. Sits T q.change) ps → All (λ q. replaces_root T q.change ≡ false) ps → steps T first first ps ≡ gives w → (q : Planned) → Memᴰ q ps → tree T (target q.change) ≡ 0 → Stood T first ps w q
    unfolding told bind to_splice
    stood sits roots e q m z =
        let s = All-mem (λ q. Sits T q.change) ps q sits m in
        let (r, p, x, y) = goes_here q.change s (All-mem (λ q. replaces_root T q.change ≡ false) ps q roots m) z in
        let (v, n) = met_mem T first ps first w q e m in
        let run : Run = record { parent = p; from = r.from; to = r.to } in
        let tells : told T first (v, q) ≡ some (run, yields T first (v, q)) = rw (x, in0 r p y) in
        let (k, one) = mem_numbered 0 (pick (told T first) (met T first first ps)) (run, yields T first (v, q)) (mem_pick (told T first) (met T first first ps) (v, q) (run, yields T first (v, q)) n tells) in
        let (g, u, stands) = prepared_stands old (splices_in0 T first ps) d.now h d.demanded (to_splice (k, (run, yields T first (v, q)))) (Memᴰ.map to_splice one) in
        let at = goes_at ts notes q.change r run s x (in0 r p y) in
        record { then = v; met = n; path = g; parent = d.paths (target_parent T q.change) p at.within at.parent ∙ ap (map (λ p. 0 ∷ p)) u; tree = d.now.tree; new = d.tree; stands = stands }

table_stood : (notes : List Note) (old : Tree ℕ) (ps : List Planned) (w : World) (T : Table) (ts : List (Tree ℕ)) → T ≡ table 0 0 ts → DemandedOf old (splices_in0 T (begin ts T notes) ps) T w → AllApart old (splices_in0 T (begin ts T notes) ps)
    → All (λ q. Sits T q.change) ps → All (λ q. replaces_root T q.change ≡ false) ps → steps T (begin ts T notes) (begin ts T notes) ps ≡ gives w → (q : Planned) → Memᴰ q ps → tree T (target q.change) ≡ 0 → Stood T (begin ts T notes) ps w q
table_stood notes old ps w T ts e = rw e (λ d h. stood ts notes old ps w d h)

-- ── Planned by rule 1 ───────────────────────────────────────────────────────────────────────────────────────

-- a batch's plan by rule 1 is that of its changes with the fates of rule 1
plan_by_1 : (h : Choices) (a : Accepted) (p : Plan) → h.edge ≡ 1 → plan h a ≡ gives p → planned1 a (remaining h a) ≡ gives p
unfolding planned
plan_by_1 h a p e y = ap (planned_by a (remaining h a)) (sym (fates_by_1 h a.table e (changes h a))) ∙ (plan_parts h a p y).1

module _ (h : Choices) (bytes : List ℕ) (a : Accepted) (p : Plan) (w : World) (g : Ran1 h bytes a p w) where
  abbrev known : Known bytes a
  known = accepts bytes a g.accepted

  abbrev right : All (Right a.table) (changes h a)
  right = changes_right a (checked bytes a known) h

  by_1 : planned1 a (remaining h a) ≡ gives p
  by_1 = plan_by_1 h a p g.rule g.planned

  splices_apart : (old : Tree ℕ) × ApartIn old a p
  splices_apart = apart_by_rule_1 bytes a g.accepted (remaining h a) right p by_1 w g.ran g.unreplaced g.aside

  edits_so : edit h bytes ≡ gives (result p.changes p.climbs w)
  unfolding edit ◌>>=◌
  edits_so = rw (g.accepted, g.planned, g.ran)

  stands_so : (q : Planned) → Memᴰ q (performed a p) → tree a.table (target q.change) ≡ 0 → Stood a.table (at_first a p) (performed a p) w q
  unfolding ran at_first splices
  stands_so =
      let (old, x) = splices_apart in
      let d = ran_demanded h old bytes a p w g.accepted g.planned g.ran x in
      let sits = All-map (λ q c. right_sits a.table q.change c) (performed a p) (performed_right a (remaining h a) (fates1 a.table (changes h a)) p by_1 right) in
      table_stood p.notes old (performed a p) w a.table a.trees known.table d x.apart sits x.unreplaced g.ran

  -- UNDER RULE 1 NO OWN INSERTION IS LOST
  pub kept_by_rule_1 : Kept1 h bytes a p w
  kept_by_rule_1 =
      let (old, x) = splices_apart in
      record {
        edits = edits_so;
        old = old;
        apart = x;
        answers = answers_one_go h bytes (result p.changes p.climbs w) edits_so a p g.accepted g.planned old x;
        stood = stands_so;
        own = λ i c e f z. stands_so (alone c) (own_performed a (remaining h a) p by_1 i c e f) z;
      }
