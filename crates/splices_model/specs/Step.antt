-- One step of a list of splices on rows and marks is the law's step.
-- Assumes nothing.
use Rattle.std.specs.Prelude.{◌≡◌, true, false, ◌⊎◌, ℕ, zero, suc, ◌+◌, ◌-◌, ◌*◌, ◌/◌, length, drop, eqb}
use Rattle.std.proofs.Math.Path.{refl, ap}
use Rattle.std.proofs.Common.{sym, ◌∙◌, inl, inr, arith, zero-add, suc-add, drop-drop, eq-eqb, ne_eqb}
use mathlib.Core.List.{List, [], ◌∷◌, ◌++◌, map, head-eq_of_cons-eq, tail-eq_of_cons-eq}
use Rattle.std.proofs.Math.Option.{Option, some, bind}
use Rattle.std.proofs.Math.ListN.{get_or, get_elem?}
use Rattle.orders.specs.Lists.{All, total}
use Rattle.orders.specs.ListLaws.{bool?, bool_absurd, map_some, get_map, All-map}
use Rattle.orders.specs.Tree.{Tree, Path, adjust, splice, Run, HasRun}
use Rattle.orders.specs.Splices.{Splice, State, begin, perform, perform_at, run_now, start, left_in, left_of, inserted, deleted, same_path}
use Rattle.orders.proofs.Check.{says_same}
use Rattle.orders.proofs.Done.{perform_at_lem}
use Rattle.definition_laws.specs.Kin.{get_get_d}
use Rattle.rows_model.specs.Row.{Row, rows_of, rows_all, first_rows, skip, owes, trees_in, triples}
use Rattle.rows_model.specs.Place.{size, size_all, place, mark_of, moved_mark, Held, rows_after, child_row, splice_rows}
use Rattle.rows_model.proofs.RowLaws.{trees_count}
use Rattle.rows_model.proofs.PlaceLaws.{child_at, rows_splice}
use Rattle.rows_model.proofs.Moves.{place_inj}
use Rattle.rows_model.proofs.Marks.{mark_follows, held_after}
use Rattle.rows_model.proofs.Words.{length_triples}
use Rattle.splices_model.specs.Cuts.{Cut, cut_of, cut_at, cuts_to, part_at, gain, loss, left_cut, start_cut, paths, Holds, Stands, Told}
use Rattle.definition_laws.specs.Basics.{up_from}
use Rattle.splices_model.specs.Places.{paths_at, places_count, paths_lead}

-- ── The start of a run ──────────────────────────────────────────────────────────────────────────────────────

-- in one tree two paths with the same place are the same path
pub same_place : (old : Tree ℕ) (s t : Splice ℕ) → Stands old s → Stands old t → eqb (place t.parent old) (place s.parent old) ≡ same_path t.parent s.parent
same_place old s t u v = go (bool? (same_path t.parent s.parent))
  where
    go : (same_path t.parent s.parent ≡ true) ⊎ (same_path t.parent s.parent ≡ false) → eqb (place t.parent old) (place s.parent old) ≡ same_path t.parent s.parent
    go (inl e) = eq-eqb _ _ (ap (λ p. place p old) ((says_same t.parent s.parent).0 e)) ∙ sym e
    go (inr e) = ne_eqb _ _ (λ z. bool_absurd ((says_same t.parent s.parent).1 (place_inj t.parent s.parent old v.0 u.0 v.1 u.1 z)) e) ∙ sym e

left_cut_lem : (old : Tree ℕ) (s t : Splice ℕ) → Stands old s → Stands old t → left_cut (cut_of old s) (cut_of old t) ≡ left_in s t
unfolding left_cut left_in left_of cut_of
left_cut_lem old s t u v = rw (same_place old s t u v)

total_cuts : (old : Tree ℕ) (s : Splice ℕ) (f : Cut → ℕ) (g : Splice ℕ → ℕ) → ((t : Splice ℕ) → f (cut_of old t) ≡ g t) → Stands old s → (D : List (Splice ℕ)) → All (Stands old) D
    → total (left_cut (cut_of old s)) f (map (cut_of old) D) ≡ total (left_in s) g D
unfolding total
total_cuts old s f g e u [] h = refl
total_cuts old s f g e u (t ∷ D) h = rw (left_cut_lem old s t u h.0, e t, total_cuts old s f g e u D h.1)

-- the present start of a run, told in rows
pub start_cut_lem : (old : Tree ℕ) (s : Splice ℕ) (D : List (Splice ℕ)) → Stands old s → All (Stands old) D → start_cut (map (cut_of old) D) (cut_of old s) ≡ start D s
unfolding start_cut start cut_of inserted deleted
start_cut_lem old s D u h =
    rw (total_cuts old s gain inserted (λ t. trees_count t.prepared) u D h, total_cuts old s loss deleted (λ t. refl) u D h)

-- ── Rows behind rows ────────────────────────────────────────────────────────────────────────────────────────

skip_add : (rs : List Row) (a b : ℕ) → skip (a + b) rs ≡ skip a rs + skip b (drop (skip a rs) rs)
skip_add [] a b = refl
skip_add (r ∷ rs) zero b = rw (zero-add b) (sym (zero-add (skip b (r ∷ rs))))
skip_add (r ∷ rs) (suc a) b =
    let e : a + b + owes r ≡ a + owes r + b = omega arith in
    rw (suc-add a b, e) (ap suc (skip_add rs (a + owes r) b) ∙ omega arith)

-- the row behind d children from child i on
pub child_after : (rs : List Row) (parent i d : ℕ) → rows_after rs (child_row rs parent i) d ≡ child_row rs parent (i + d)
unfolding child_row rows_after
child_after rs parent i d = rw (← drop-drop (skip i (drop (suc parent) rs)) (suc parent) rs) (omega (arith, skip_add (drop (suc parent) rs) i d))

-- ── What the code finds ─────────────────────────────────────────────────────────────────────────────────────

-- where splice i goes in the present rows: the run `from` up to `to` below the row `parent`; so many trees go, and so many come
pub record Sited (rows : List ℕ) (n : ℕ) (marks splices prepared : List ℕ) (i parent from to lost gained : ℕ) : Type 0 where
  pub under : parent ≡ get_or marks (get_or splices (6 * i + 1) 0) 0
  pub first : (text : List ℕ) → from ≡ child_row (first_rows text n rows) parent (start_cut (cuts_to text splices prepared i) (cut_at text splices prepared i))
  pub goes : lost ≡ get_or splices (6 * i + 3) 0 - get_or splices (6 * i + 2) 0
  pub behind : (text : List ℕ) → to ≡ rows_after (first_rows text n rows) from lost
  pub comes : (text : List ℕ) → gained ≡ trees_in (triples text (part_at splices prepared i))

-- ── The law's step ──────────────────────────────────────────────────────────────────────────────────────────

-- the run of s is r now, and r is a run of the present tree
pub record Due (now : State ℕ) (s : Splice ℕ) (r : Run) : Type 0 where
  pub run : run_now now s ≡ some r
  pub has : HasRun now.tree r.parent r.from r.to

record Now (now : State ℕ) (s : Splice ℕ) (r : Run) : Type 0 where
  pub path : now.path s.parent ≡ some r.parent
  pub from : r.from ≡ start now.done s
  pub to : r.to ≡ r.from + (s.to - s.from)

due_now : {now : State ℕ} {s : Splice ℕ} {r : Run} → run_now now s ≡ some r → Now now s r
unfolding run_now deleted
due_now {now} {s} {r} e =
    let (q, p, z) = map_some _ (now.path s.parent) e in
    record { path = p ∙ ap {B = Option Path} (λ x. some x.parent) z; from = sym (ap (λ x. x.from) z); to = sym (ap (λ x. x.to) z) ∙ ap (λ x. x.from + (s.to - s.from)) z }

-- splice i is s, and those before it are D
pub record First (text : List ℕ) (old : Tree ℕ) (splices prepared : List ℕ) (i : ℕ) (s : Splice ℕ) (D : List (Splice ℕ)) : Type 0 where
  pub cut : cut_at text splices prepared i ≡ cut_of old s
  pub before : cuts_to text splices prepared i ≡ map (cut_of old) D

pub told_first : {text : List ℕ} {old : Tree ℕ} {splices prepared : List ℕ} {i : ℕ} {s : Splice ℕ} {D : List (Splice ℕ)} → Told text old splices prepared (suc i) (s ∷ D) → First text old splices prepared i s D
unfolding cuts_to
told_first h = record { cut = head-eq_of_cons-eq h.cuts; before = tail-eq_of_cons-eq h.cuts }

pub told_before : {text : List ℕ} {old : Tree ℕ} {splices prepared : List ℕ} {i : ℕ} {s : Splice ℕ} {D : List (Splice ℕ)} → Told text old splices prepared (suc i) (s ∷ D) → Told text old splices prepared i D
told_before h = record { cuts = (told_first h).before; stand = h.stand.1 }

module _ {text : List ℕ} {old : Tree ℕ} {now : State ℕ} {rows : List ℕ} {n : ℕ} {marks splices prepared : List ℕ} {i parent from to lost gained : ℕ}
    (h : Holds text old now rows n marks) (g : Sited rows n marks splices prepared i parent from to lost gained) (s : Splice ℕ) (r : Run) (due : Due now s r)
    (told : Told text old splices prepared (suc i) (s ∷ now.done)) where
  at : Now now s r
  at = due_now due.run

  cut : First text old splices prepared i s now.done
  cut = told_first told

  run_rows : triples text (part_at splices prepared i) ≡ rows_all s.prepared
  unfolding cut_at cut_of
  run_rows = ap (λ c. c.rows) cut.cut

  -- the parent's present row
  pub parent_row : parent ≡ place r.parent now.tree
  unfolding cut_at cut_of mark_of
  parent_row =
      let e : get_or splices (6 * i + 1) 0 ≡ place s.parent old = ap (λ c. c.parent) cut.cut in
      let m : get_elem? marks (place s.parent old) ≡ some (mark_of now.tree (now.path s.parent)) =
      rw h.marked (get_map (λ e. mark_of now.tree (now.path e)) (paths old) (place s.parent old) s.parent (paths_at s.parent old told.stand.0.0 told.stand.0.1)) in
      g.under ∙ (ap (λ x. get_or marks x 0) e ∙ (get_get_d marks (place s.parent old) (mark_of now.tree (now.path s.parent)) 0 m ∙ ap (λ o. mark_of now.tree o) at.path))

  pub lost_trees : lost ≡ r.to - r.from
  unfolding cut_at cut_of
  lost_trees =
      let e : get_or splices (6 * i + 3) 0 ≡ s.to = ap (λ c. c.to) cut.cut in
      let f : get_or splices (6 * i + 2) 0 ≡ s.from = ap (λ c. c.from) cut.cut in
      omega (arith, g.goes, at.to)

  starts : start_cut (cuts_to text splices prepared i) (cut_at text splices prepared i) ≡ r.from
  starts = rw (cut.cut, cut.before) (start_cut_lem old s now.done told.stand.0 told.stand.1 ∙ sym at.from)

  -- the run's first row, and the row behind it
  pub from_row : from ≡ place (r.parent ++ (r.from ∷ [])) now.tree
  from_row =
      g.first text ∙ rw (h.tree, starts, parent_row) (sym (child_at r.parent now.tree due.has.kind due.has.children due.has.found r.from (omega (arith, due.has.ordered, due.has.within))))

  pub to_row : to ≡ place (r.parent ++ (r.to ∷ [])) now.tree
  to_row =
      let c = child_at r.parent now.tree due.has.kind due.has.children due.has.found in
      let e : r.from + lost ≡ r.to = omega (arith, lost_trees, due.has.ordered) in
      g.behind text ∙ rw (h.tree, from_row, c r.from (omega (arith, due.has.ordered, due.has.within)), child_after (rows_of now.tree) (place r.parent now.tree) r.from lost, e) (sym (c r.to due.has.within))

  pub gained_trees : gained ≡ length s.prepared
  gained_trees = g.comes text ∙ (ap trees_in run_rows ∙ trees_count s.prepared)

  run_many : length (part_at splices prepared i) / 3 ≡ size_all s.prepared
  run_many = sym (length_triples text (part_at splices prepared i)) ∙ ap length run_rows

  -- rows and marks that are spliced there hold what the law's step leaves
  pub step_holds : {rows' : List ℕ} {n' : ℕ} {marks' : List ℕ}
      → first_rows text n' rows' ≡ splice_rows (first_rows text n rows) parent from to lost (triples text (part_at splices prepared i)) gained
      → marks' ≡ map (moved_mark from to (length (part_at splices prepared i) / 3)) marks
      → Holds text old (perform s now) rows' n' marks'
  unfolding perform_at inserted
  step_holds x y = rw (perform_at_lem s now r due.run) (record {
    tree = x ∙ (rw (h.tree, run_rows, parent_row, from_row, to_row, lost_trees, gained_trees) (sym (rows_splice r.parent now.tree r.from r.to due.has s.prepared)));
    marked = y ∙ rw (h.marked, run_many, from_row, to_row) (moved (paths old) h.held);
    held = All-map (λ e w. held_after r.parent now.tree r.from r.to s.prepared due.has (now.path e) w) (paths old) h.held;
  })
    where
      moved : (es : List Path) → All (λ e. Held now.tree (now.path e)) es
          → map (moved_mark (place (r.parent ++ (r.from ∷ [])) now.tree) (place (r.parent ++ (r.to ∷ [])) now.tree) (size_all s.prepared)) (map (λ e. mark_of now.tree (now.path e)) es)
          ≡ map (λ e. mark_of (splice r.parent r.from r.to s.prepared now.tree) (bind (now.path e) (λ p. adjust r.parent r.from r.to (length s.prepared) p))) es
      moved [] w = refl
      moved (e ∷ es) w = cc (mark_follows r.parent now.tree r.from r.to s.prepared due.has (now.path e) w.0, moved es w.1)

-- ── The start ───────────────────────────────────────────────────────────────────────────────────────────────

-- the old tree with its elements' own rows
pub begin_holds : (text : List ℕ) (old : Tree ℕ) (rows : List ℕ) (n : ℕ) → first_rows text n rows ≡ rows_of old → size old ≡ n → Holds text old (begin old) rows n (up_from 0 n)
unfolding begin mark_of
begin_holds text old rows n e z = record { tree = e; marked = rw (← z) (sym (places_count old)); held = paths_lead old }
