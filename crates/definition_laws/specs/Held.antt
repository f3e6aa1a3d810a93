-- The notes held and the elements recorded as changed stand in the current trees, whatever steps are performed.
-- Assumes nothing.
use Rattle.std.specs.Prelude.{◌≡◌, refl, Bool, true, false, cond, ℕ, suc, ◌+◌, ◌<◌, length, take, drop}
use Rattle.std.proofs.Common.{sym, ap, ◌∙◌, arith, length-append, length-take-le}
use mathlib.Core.List.{List, [], ◌∷◌, ◌++◌, map, flat_map, append_assoc}
use Rattle.std.proofs.Math.Option
use Rattle.std.proofs.Math.Option.{Option, none, some, get_or, bind}
use Rattle.std.proofs.Math.ListN.{get_elem?}
use Rattle.std.proofs.lemmas.List.{length-map}
use Rattle.orders.specs.Lists.{All, pick}
use Rattle.orders.specs.ListLaws.{some_inj, none_some, map_some, bind_some, get_lt, get_left, get_right, get_modify, All-map, All-over, All-pick}
use Rattle.orders.specs.Tree.{Tree, node, token, list, forest, Path, resolve, adjust, modify, splice, HasRun, elements, children, strip}
use Rattle.orders.proofs.TreeLaws.{resolve_forest, resolve_append, run_here, run_child, run_token, adjust_length, strip_some, splice_in, resolve_splice}
use Rattle.definition.specs.Basics.{gives, refuse, or_refuse}
use Rattle.definition.specs.Elements.{Table, table, row, descend}
use Rattle.definition.specs.Planning.{Planned}
use Rattle.definition.specs.Rewriting.{Note}
use Rattle.definition.specs.Running.{Changed, World, begin, present, with_path, notes_at, Yield, yield_at, yield, news, Run, place, placed, spliced, too_large, recorded_by, step, steps}
use Rattle.definition.specs.Refusals.{Accepted}
use Rattle.definition.specs.Finishing.{new_tree, new_table, number_at}
use Rattle.definition.specs.Answers.{Plan, performed, at_first, ran}
use Rattle.definition_laws.specs.Rows.{Element, row_of, element, root_of, element_at}
use Rattle.definition_laws.specs.Kin.{path_leads, path_long, resolve_down, element_at_tree, element_path, row_told_lem, element_stands, stands_within, descend_element}
use Rattle.definition_laws.specs.Spelling.{Worded}
use Rattle.definition_laws.specs.Right.{Right, right_sits}
use Rattle.definition_laws.specs.Plans.{Planning}
use Rattle.definition_laws.specs.Running.{top, Follows, follows_begin, place_fits, step_follows}
use Rattle.definition_laws.specs.Basics.{All-append, All-flatMap}
use Rattle.definition_laws.specs.Answers.{gives_inj, given, is_there}

-- a path that leads to an element of a tree, not to the node above all trees
pub record Leads (t : Tree ℕ) (p : Path) : Type 0 where
  pub long : 0 < length p
  pub found : Tree ℕ
  pub there : resolve p t ≡ some found

-- ── One splice ──────────────────────────────────────────────────────────────────────────────────────────────

-- what goes in stands where it was put
pub resolve_new : (q : Path) (a b : ℕ) (new : List (Tree ℕ)) (t c : Tree ℕ) (i : ℕ) (p : Path) → HasRun t q a b → get_elem? new i ≡ some c → resolve (q ++ ((a + i) ∷ p)) (splice q a b new t) ≡ resolve p c
unfolding splice
resolve_new [] a b new (token w own) c i p h g = absurd (run_token w own [] a b h)
resolve_new [] a b new (node w cs) c i p h g = resolve_forest w (take a (list cs) ++ (new ++ drop b (list cs))) (a + i) p c at
  where
    at : get_elem? (take a (list cs) ++ (new ++ drop b (list cs))) (a + i) ≡ some c
    at =
        get_right (take a (list cs)) (new ++ drop b (list cs)) (a + i) i (omega (arith, length-take-le a (list cs) (omega (arith, h.ordered, run_here w cs a b h))))
        ∙ (get_left new (drop b (list cs)) i (get_lt new i g) ∙ g)
resolve_new (j ∷ q) a b new (token w own) c i p h g = absurd (run_token w own (j ∷ q) a b h)
resolve_new (j ∷ q) a b new (node w cs) c i p h g =
    let (d, x, y) = run_child w cs j q a b h in
    resolve_forest w (modify j (λ e. splice q a b new e) (list cs)) j (q ++ ((a + i) ∷ p)) (splice q a b new d) (get_modify (λ e. splice q a b new e) (list cs) j d x)
    ∙ resolve_new q a b new d c i p y g

-- a path that survives leads on
kept_leads : (t : Tree ℕ) (q : Path) (a b n : ℕ) (new : List (Tree ℕ)) (p r : Path) → HasRun t q a b → length new ≡ n → Leads t p → adjust q a b n p ≡ some r → Leads (splice q a b new t) r
kept_leads t q a b n new p r h z l e = record {
  long = omega (arith, l.long, adjust_length a b n q p r e);
  found = splice_in a b new (strip p q) l.found;
  there = resolve_splice a b new q t p l.found r h l.there (rw z e);
}

-- what a listed element yields: its notes lead to elements of it
abbrev Good : Yield → Type 0
Good y = All (λ n. (x : Tree ℕ) × (resolve n.path y.tree ≡ some x)) y.notes

-- a place that was filled, and the notes that came with it, are in the tree t
abbrev Filled : Tree ℕ → Path × Yield → Type 0
Filled t y = Leads t y.0 × All (λ n. Leads t (y.0 ++ n.path)) y.1.notes

placed_filled : (t : Tree ℕ) (q : Path) (a : ℕ) (ys : List Yield) → All Good ys → ((k : ℕ) (c : Tree ℕ) (p : Path) → get_elem? (map (λ y. y.tree) ys) k ≡ some c → resolve (q ++ ((a + k) ∷ p)) t ≡ resolve p c)
    → All (Filled t) (placed q a ys)
unfolding placed resolve
placed_filled t q a [] g at = tt
placed_filled t q a (y ∷ ys) g at = ((here, All-map notes y.notes g.0), placed_filled t q (suc a) ys g.1 (λ k c p e. ap (λ n. resolve (q ++ (n ∷ p)) t) (omega arith) ∙ at (suc k) c p e))
  where
    first : (p : Path) → resolve (q ++ (a ∷ p)) t ≡ resolve p y.tree
    first p = ap (λ n. resolve (q ++ (n ∷ p)) t) (omega arith) ∙ at 0 y.tree p refl

    here : Leads t (q ++ (a ∷ []))
    here = record { long = omega (arith, length-append q (a ∷ [])); found = y.tree; there = first [] }

    notes : (n : Note) → (x : Tree ℕ) × (resolve n.path y.tree ≡ some x) → Leads t ((q ++ (a ∷ [])) ++ n.path)
    notes n f = record {
      long = omega (arith, length-append (q ++ (a ∷ [])) n.path, length-append q (a ∷ []));
      found = f.0;
      there = ap (λ p. resolve p t) (append_assoc q (a ∷ []) n.path) ∙ (first n.path ∙ f.1);
    }

-- ── Whatever steps are performed ────────────────────────────────────────────────────────────────────────────

-- every note held, and every element recorded as changed, is in the current trees
pub record Holds (w : World) : Type 0 where
  pub notes : All (λ n. Leads w.trees n.path) w.notes
  pub changed : All (λ c. Leads w.trees c.0) w.changed

yield_at_good : (w : World) (p : Path) → Holds w → Good (yield_at w p)
unfolding yield_at notes_at with_path
yield_at_good w p h = All-pick (λ n. Option.map (with_path n) (strip p n.path)) (λ n. Leads w.trees n.path) (λ n. (x : Tree ℕ) × (resolve n.path (get_or (resolve p w.trees) (token 0 [])) ≡ some x)) one w.notes h.notes
  where
    one : (n m : Note) → Option.map (with_path n) (strip p n.path) ≡ some m → Leads w.trees n.path → (x : Tree ℕ) × (resolve m.path (get_or (resolve p w.trees) (token 0 [])) ≡ some x)
    one n m e l =
        let (r, a, b) = map_some (with_path n) (strip p n.path) e in
        let (u, c, d) = bind_some (resolve p w.trees) (λ u. resolve r u) (sym (resolve_append p r w.trees) ∙ (ap (λ q. resolve q w.trees) (sym (strip_some p n.path r a)) ∙ l.there)) in
        (l.found, ap (λ k. resolve k.path (get_or (resolve p w.trees) (token 0 []))) (sym b) ∙ (ap (λ o. resolve r (get_or o (token 0 []))) c ∙ d))

yield_good : (first w : World) (e : ℕ) → Holds first → Holds w → Good (yield first w e)
unfolding yield
yield_good first w e h k = go (present w e)
  where
    go : (o : Option Path) → Good (elim o as (λ o. Yield) [ none ↦ yield_at first (get_or (present first e) []) | some p ↦ yield_at w p ])
    go none = yield_at_good first (get_or (present first e) []) h
    go (some p) = yield_at_good w p k

yields_good : (first w : World) (es : List ℕ) → Holds first → Holds w → All Good (map (yield first w) es)
yields_good first w [] h k = tt
yields_good first w (e ∷ es) h k = (yield_good first w e h k, yields_good first w es h k)

pub spliced_holds : (w : World) (r : Run) (new : List Yield) (rec : Option ℕ) → Holds w → HasRun w.trees r.parent r.from r.to → All Good new → Holds (spliced r new rec w)
unfolding spliced with_path
spliced_holds w r new rec h run g = record {
  notes = All-append (λ (n : Note). Leads tree n.path) (pick (λ n. Option.map (with_path n) (moves n.path)) w.notes) (flat_map (λ y. map (λ n. with_path n (y.0 ++ n.path)) y.1.notes) (placed r.parent r.from new)) kept_notes new_notes;
  changed = All-append (λ (c : Changed). Leads tree c.0) (pick moved w.changed) (elim rec [ none ↦ [] | some n ↦ map (λ y. (y.0, n)) (placed r.parent r.from new) ]) kept_changed (new_changed rec);
}
  where
    trees : List (Tree ℕ)
    trees = map (λ y. y.tree) new

    tree : Tree ℕ
    tree = splice r.parent r.from r.to trees w.trees

    moves : Path → Option Path
    moves = adjust r.parent r.from r.to (length new)

    kept : (p q : Path) → Leads w.trees p → moves p ≡ some q → Leads tree q
    kept p q l e = kept_leads w.trees r.parent r.from r.to (length new) trees p q run (length-map new (λ y. y.tree)) l e

    filled : All (Filled tree) (placed r.parent r.from new)
    filled = placed_filled tree r.parent r.from new g (λ k c p e. resolve_new r.parent r.from r.to trees w.trees c k p run e)

    kept_notes : All (λ n. Leads tree n.path) (pick (λ n. Option.map (with_path n) (moves n.path)) w.notes)
    kept_notes = All-pick (λ n. Option.map (with_path n) (moves n.path)) (λ n. Leads w.trees n.path) (λ n. Leads tree n.path) one w.notes h.notes
      where
        one : (n m : Note) → Option.map (with_path n) (moves n.path) ≡ some m → Leads w.trees n.path → Leads tree m.path
        one n m e l = let (q, a, b) = map_some (with_path n) (moves n.path) e in rw (← b) (kept n.path q l a)

    new_notes : All (λ n. Leads tree n.path) (flat_map (λ y. map (λ n. with_path n (y.0 ++ n.path)) y.1.notes) (placed r.parent r.from new))
    new_notes =
        All-flatMap (Filled tree) (λ (n : Note). Leads tree n.path) (λ y. map (λ n. with_path n (y.0 ++ n.path)) y.1.notes)
        (λ y k. All-over (λ n. with_path n (y.0 ++ n.path)) (λ n. Leads tree (y.0 ++ n.path)) (λ n. Leads tree n.path) (λ n l. l) y.1.notes k.1)
        (placed r.parent r.from new) filled

    moved : Changed → Option Changed
    moved c = Option.map (λ p. (p, c.1)) (moves c.0)

    kept_changed : All (λ (c : Changed). Leads tree c.0) (pick moved w.changed)
    kept_changed = All-pick moved (λ c. Leads w.trees c.0) (λ c. Leads tree c.0) one w.changed h.changed
      where
        one : (c d : Changed) → Option.map (λ p. (p, c.1)) (moves c.0) ≡ some d → Leads w.trees c.0 → Leads tree d.0
        one c d e l = let (q, a, b) = map_some (λ (p : Path). (p, c.1)) (moves c.0) e in rw (← b) (kept c.0 q l a)

    new_changed : (o : Option ℕ) → All (λ (c : Changed). Leads tree c.0) (elim o as (λ _. List Changed) [ none ↦ [] | some n ↦ map (λ y. (y.0, n)) (placed r.parent r.from new) ])
    new_changed (some n) = All-over (λ y. (y.0, n)) (Filled tree) (λ (c : Changed). Leads tree c.0) (λ y k. k.0) (placed r.parent r.from new) filled
    new_changed none = tt

-- before the first step: notes stand where elements of the batch do
pub begin_holds : (ts : List (Tree ℕ)) (notes : List Note) → All (λ n. (e : ℕ) × (e < length (table 0 0 ts)) × (n.path ≡ (row (table 0 0 ts) e).path)) notes → Holds (begin ts (table 0 0 ts) notes)
unfolding begin
begin_holds ts notes h = record { notes = All-map one notes h; changed = tt }
  where
    one : (n : Note) → (e : ℕ) × (e < length (table 0 0 ts)) × (n.path ≡ (row (table 0 0 ts) e).path) → Leads (top ts) n.path
    one n k =
        let (x, a, b) = path_leads ts k.0 2147483648 k.1 in
        rw k.2 (record { long = path_long ts k.0 k.1; found = x; there = a })

module _ (ts : List (Tree ℕ)) (first : World) (f₀ : Worded first.trees) (h₀ : Holds first) where
  pub step_holds : (w next : World) (p : Planned) → Follows ts w → Holds w → Right (table 0 0 ts) p.change → step (table 0 0 ts) first w p ≡ gives next → Holds next
  unfolding step
  step_holds w next p f h c e =
      given (or_refuse 11 (place (table 0 0 ts) w p.change)) _ e λ r a e.
      given (refuse 12 (too_large (spliced r (map (yield first w) (news p.change)) (recorded_by (table 0 0 ts) p) w))) _ e λ u b e.
      let fits = place_fits ts w f p.change r (right_sits (table 0 0 ts) p.change c) (is_there 11 _ a) in
      rw (← gives_inj e) (spliced_holds w r (map (yield first w) (news p.change)) (recorded_by (table 0 0 ts) p) h fits.run (yields_good first w (news p.change) h₀ h))

  pub steps_hold : (ps : List Planned) (w last : World) → Follows ts w → Holds w → All (λ p. Right (table 0 0 ts) p.change) ps → steps (table 0 0 ts) first w ps ≡ gives last → Holds last
  unfolding steps
  steps_hold [] w last f h c e = rw (← gives_inj e) h
  steps_hold (p ∷ ps) w last f h c e =
      given (step (table 0 0 ts) first w p) _ e λ next a e.
      steps_hold ps next last (step_follows ts first f₀ w next p f c.0 a) (step_holds w next p f h c.0 a) c.1 e

-- the same of a plan's performed changes, from the first step to the last
pub ran_holds : (a : Accepted) (p : Plan) (w : World) → a.table ≡ table 0 0 a.trees → All Worded a.trees → Planning a p → All (λ q. Right a.table q.change) (performed a p) → ran a p ≡ gives w → Holds w
unfolding ran at_first
ran_holds a p w q h k c e = go a.table q (performed a p) k.noted c e
  where
    go : (T : Table) → T ≡ table 0 0 a.trees → (ps : List Planned) → All (λ n. (e : ℕ) × (e < length T) × (n.path ≡ (row T e).path)) p.notes → All (λ q. Right T q.change) ps
        → steps T (begin a.trees T p.notes) (begin a.trees T p.notes) ps ≡ gives w → Holds w
    go T q ps =
        let first = begin a.trees (table 0 0 a.trees) p.notes in
        let f = follows_begin a.trees p.notes h in
        rw q (λ n c e. let b = begin_holds a.trees p.notes n in steps_hold a.trees first f.worded b ps first w f b c e)

-- ── Numbers in the new tree ─────────────────────────────────────────────────────────────────────────────────

-- in one tree alone, each path that leads to an element gives its number
number_alone : (c : Tree ℕ) (p : Path) (x : Tree ℕ) → resolve p c ≡ some x
    → (n : ℕ) × (descend (table 0 0 (c ∷ [])) 0 p ≡ some n) × (n < length (table 0 0 (c ∷ []))) × ((row (table 0 0 (c ∷ [])) n).path ≡ 0 ∷ p)
unfolding element root_of element_at bind forest elements row_of
number_alone c p x e =
    let ts : List (Tree ℕ) = c ∷ [] in
    let root : Element = record { tree = c; number = 0; above = []; path = 0 ∷ []; start = 0 } in
    let (d, a, b) = map_some (λ (z : Element). z.tree) (element_at root p) (element_at_tree root p ∙ e) in (
      d.number,
      descend_element ts p (0 ∷ []) root refl ∙ ap (Option.map (λ (z : Element). z.number)) a,
      stands_within ts d.number (element_stands ts (0 ∷ p) d a),
      ap (λ r. r.path) (row_told_lem ts (0 ∷ p) d a) ∙ element_path ts (0 ∷ p) d a,
    )

-- A path of tree 0 that leads to an element of the current trees has a number in the new tree, and that element has the path.
pub number_found : (w : World) (p : Path) → Leads w.trees (0 ∷ p) → (n : ℕ) × (number_at (new_table w) (0 ∷ p) ≡ some n) × (n < length (new_table w)) × ((row (new_table w) n).path ≡ 0 ∷ p)
unfolding number_at new_table new_tree
number_found w p l =
    let (c, a, b) = bind_some (get_elem? (list (children w.trees)) 0) (λ c. resolve p c) (sym (resolve_down 0 p w.trees) ∙ l.there) in
    go (list (children w.trees)) c a b
  where
    go : (cs : List (Tree ℕ)) (c : Tree ℕ) → get_elem? cs 0 ≡ some c → resolve p c ≡ some l.found
        → (n : ℕ) × (descend (table 0 0 (take 1 cs)) 0 p ≡ some n) × (n < length (table 0 0 (take 1 cs))) × ((row (table 0 0 (take 1 cs)) n).path ≡ 0 ∷ p)
    go [] c a b = none_some a
    go (d ∷ cs) c a b = number_alone d p l.found (rw (some_inj a) b)
