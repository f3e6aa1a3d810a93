-- One accepted batch: each bookmark goes where its element goes, and the memory that is left passes its own checks again.
-- Assumes nothing.
use Rattle.std.specs.Prelude.{◌≡◌, Bool, true, ◌&&◌, ◌⊎◌, ℕ, ◌≤◌, ◌<◌, ltb, eqb}
use Rattle.std.proofs.Math.Path.{refl, sym, ap}
use Rattle.std.proofs.Common.{◌∙◌, subst, inl, inr, arith}
use Rattle.std.proofs.Math.Bool.{false, not}
use mathlib.Core.List.{List, [], ◌∷◌, map, flat_map, tail, Memᴰ}
use Rattle.std.proofs.Math.Option
use Rattle.std.proofs.Math.Option.{Option, none, some}
use Rattle.std.proofs.Math.ListN.{length}
use borrow.Author.Tests.{le-ltb, ltb-false, eq-eqb}
use Rattle.orders.specs.Lists.{any, All, pick}
use Rattle.orders.specs.ListLaws.{bool_absurd, either_false, both_true, some_inj, map_some, All-mem, pick_none, pick_some, pick_mem, none_passes}
use Rattle.orders.specs.Tree.{Tree, label, preorder, Path, Run, resolve}
use Rattle.definition.specs.Basics.{gives, ◌>>=◌, refuse, or_refuse, is_some, among}
use Rattle.definition.specs.Choices.{Choices}
use Rattle.definition.specs.Elements.{Table, table, row, malformed, spelled}
use Rattle.definition.specs.Refusals.{Accepted, accepted}
use Rattle.definition.specs.Writing.{differ}
use Rattle.definition.specs.Running.{World, begin, present}
use Rattle.definition.specs.Finishing.{new_tree, result}
use Rattle.definition.specs.Answers.{Plan, plan, performed, at_first, ran, edit}
use Rattle.definition_laws.specs.Answers.{gives_inj, given, not_wrong, is_there}
use Rattle.definition_laws.specs.Rows.{Element, row_of, element}
use Rattle.definition_laws.specs.Kin.{element_path, element_tree, element_stands, stands_within, row_told_lem}
use Rattle.definition_laws.specs.Running.{top, present_kind}
use Rattle.definition_laws.proofs.Limits.{edit_within, ran_known}
use Rattle.definition_account.proofs.Account.{Performed, ran_performed}
use Rattle.definition_account.specs.Moved.{moves_of, in_a_row}
use Rattle.definition_account.proofs.Moved.{performed_moved}
use Rattle.check_laws.specs.Check.{Flat, alone, no_repeat, same_bytes}
use Rattle.check_laws.specs.Claimed.{old_tree, flat_of}
use Rattle.check_laws.specs.ListLaws.{none_any}
use Rattle.check_laws.proofs.Meaning.{bytes_same}
use Rattle.check_laws.proofs.Alone.{first_resolve, tops_resolve}
use Rattle.check_laws.proofs.Output.{old_spelled}
use Rattle.series_laws.specs.Memory.{Bookmark, Memory, most_bookmarks, most_later, too_big, wrong_numbers, astray, held, same_tree}
use Rattle.series_laws.specs.Follow.{moves, moved, kept, survivors, tree_of, Step, step}
use Rattle.series_laws.proofs.Moves.{In0, row_head, performed_in0}
use Rattle.series_laws.proofs.Roots.{new_spelled}

-- ── What is passed ──────────────────────────────────────────────────────────────────────────────────────────

-- what a memory's own lines let pass
pub record Held (most : ℕ) (m : Memory) (ts : List (Tree ℕ)) : Type 0 where
  pub small : too_big most m.tree ≡ false
  pub step : differ m.tree.kinds m.tree.measures ≡ false
  pub spells : spelled (alone m.tree) ≡ some ts
  pub numbers : wrong_numbers m.bookmarks ≡ false
  pub found : any (astray ts) m.bookmarks ≡ false

pub held_passed : (most : ℕ) (m : Memory) (ts : List (Tree ℕ)) → held most m ≡ gives ts → Held most m ts
unfolding held
held_passed most m ts e =
    given (refuse 3 (too_big most m.tree)) _ e λ u x e.
    given (refuse 4 (differ m.tree.kinds m.tree.measures)) _ e λ u y e.
    given (or_refuse 5 (spelled (alone m.tree))) _ e λ us z e.
    given (refuse 20 (wrong_numbers m.bookmarks)) _ e λ u n e.
    given (refuse 21 (any (astray us) m.bookmarks)) _ e λ u f e.
    let same : us ≡ ts = gives_inj e in
    record {
      small = not_wrong 3 _ x;
      step = not_wrong 4 _ y;
      spells = is_there 5 _ z ∙ ap {B = Option (List (Tree ℕ))} some same;
      numbers = not_wrong 20 _ n;
      found = subst (λ (us : List (Tree ℕ)). any (astray us) m.bookmarks ≡ false) same (not_wrong 21 _ f);
    }

pub passed_held : (most : ℕ) (m : Memory) (ts : List (Tree ℕ)) → Held most m ts → held most m ≡ gives ts
unfolding held refuse or_refuse ◌>>=◌
passed_held most m ts h = rw (h.small, h.step, h.spells, h.numbers, h.found)

-- a batch on a memory, stage by stage
pub record Done (h : Choices) (m : Memory) (bytes : List ℕ) (s : Step) : Type 0 where
  pub batch : Accepted
  pub planned : Plan
  pub world : World
  pub accepts : accepted bytes ≡ gives batch
  pub same : same_tree (flat_of (old_tree batch.trees)) m.tree ≡ true
  pub plans : plan h batch ≡ gives planned
  pub runs : ran batch planned ≡ gives world
  pub moves : s.moves ≡ moves batch planned
  pub result : s.result ≡ result planned.changes planned.climbs world
  pub tree : s.memory.tree ≡ tree_of s.result
  pub bookmarks : s.memory.bookmarks ≡ survivors s.moves m.bookmarks

pub step_done : (h : Choices) (m : Memory) (bytes : List ℕ) (s : Step) → step h m bytes ≡ gives s → Done h m bytes s
unfolding step
step_done h m bytes s e =
    given (accepted bytes) _ e λ a x e.
    given (refuse 22 (not (same_tree (flat_of (old_tree a.trees)) m.tree))) _ e λ u y e.
    given (plan h a) _ e λ p z e.
    given (ran a p) _ e λ w r e.
    let is = gives_inj e in
    record {
      batch = a;
      planned = p;
      world = w;
      accepts = x;
      same = there (same_tree (flat_of (old_tree a.trees)) m.tree) (not_wrong 22 _ y);
      plans = z;
      runs = r;
      moves = ap (λ (s : Step). s.moves) (sym is);
      result = ap (λ (s : Step). s.result) (sym is);
      tree = ap (λ (s : Step). s.memory.tree) (sym is) ∙ ap (λ (s : Step). tree_of s.result) is;
      bookmarks = ap (λ (s : Step). s.memory.bookmarks) (sym is) ∙ ap (λ (s : Step). survivors s.moves m.bookmarks) is;
    }
  where
    there : (b : Bool) → not b ≡ false → b ≡ true
    there true e = refl
    there false e = bool_absurd refl e

-- ── Numbers ─────────────────────────────────────────────────────────────────────────────────────────────────

-- one bookmark more, or one that is gone
survivors_cons : (ms : List (Run × ℕ)) (b : Bookmark) (bs : List Bookmark) → (survivors ms (b ∷ bs) ≡ survivors ms bs) ⊎ ((p : Path) × (survivors ms (b ∷ bs) ≡ (b.0, p) ∷ survivors ms bs))
unfolding survivors kept
survivors_cons ms b bs = go (moved ms b.1) refl
  where
    go : (o : Option Path) → moved ms b.1 ≡ o → (survivors ms (b ∷ bs) ≡ survivors ms bs) ⊎ ((p : Path) × (survivors ms (b ∷ bs) ≡ (b.0, p) ∷ survivors ms bs))
    go none e = inl (pick_none (kept ms) b bs (ap (Option.map (λ p. (b.0, p))) e))
    go (some p) e = inr (p, pick_some (kept ms) b bs (b.0, p) (ap (Option.map (λ p. (b.0, p))) e))

pub survivors_length : (ms : List (Run × ℕ)) (bs : List Bookmark) → length (survivors ms bs) ≤ length bs
unfolding survivors pick
survivors_length ms [] = omega arith
survivors_length ms (b ∷ bs) = elim (survivors_cons ms b bs) [
  | inl e ↦ omega (arith, ap length e, survivors_length ms bs)
  | inr (p, e) ↦ omega (arith, ap length e, survivors_length ms bs)
]

-- a number that is none of theirs stays so
pub survivors_among : (ms : List (Run × ℕ)) (bs : List Bookmark) (x : ℕ) → among (map (λ b. b.0) bs) x ≡ false → among (map (λ b. b.0) (survivors ms bs)) x ≡ false
unfolding survivors pick among any
survivors_among ms [] x e = e
survivors_among ms (b ∷ bs) x e =
    let (h, k) = either_false (eqb x b.0) (any (eqb x) (map (λ b. b.0) bs)) e in
    let r = survivors_among ms bs x k in
    elim (survivors_cons ms b bs) [
      | inl z ↦ ap (λ (l : List Bookmark). any (eqb x) (map (λ b. b.0) l)) z ∙ r
      | inr (p, z) ↦ ap (λ (l : List Bookmark). any (eqb x) (map (λ b. b.0) l)) z ∙ rw (h, r)
    ]

survivors_repeat : (ms : List (Run × ℕ)) (bs : List Bookmark) → no_repeat (map (λ b. b.0) bs) ≡ true → no_repeat (map (λ b. b.0) (survivors ms bs)) ≡ true
unfolding survivors pick no_repeat
survivors_repeat ms [] e = e
survivors_repeat ms (b ∷ bs) e =
    let (h, k) = both_true (not (among (map (λ b. b.0) bs) b.0)) (no_repeat (map (λ b. b.0) bs)) e in
    let r = survivors_repeat ms bs k in
    elim (survivors_cons ms b bs) [
      | inl z ↦ ap (λ (l : List Bookmark). no_repeat (map (λ b. b.0) l)) z ∙ r
      | inr (p, z) ↦ ap (λ (l : List Bookmark). no_repeat (map (λ b. b.0) l)) z ∙ rw (survivors_among ms bs b.0 (gone (among (map (λ b. b.0) bs) b.0) h), r)
    ]
  where
    gone : (b : Bool) → not b ≡ true → b ≡ false
    gone true e = bool_absurd e refl
    gone false e = refl

-- 20 lets survivors pass
survivors_numbers : (ms : List (Run × ℕ)) (bs : List Bookmark) → wrong_numbers bs ≡ false → wrong_numbers (survivors ms bs) ≡ false
unfolding wrong_numbers
survivors_numbers ms bs e =
    let (h, k) = either_false (ltb most_bookmarks (length bs)) (not (no_repeat (map (λ b. b.0) bs))) e in
    let l : length bs ≤ most_bookmarks = ltb-false most_bookmarks (length bs) h in
    rw (le-ltb most_bookmarks (length (survivors ms bs)) (omega (arith, survivors_length ms bs)), survivors_repeat ms bs (right (no_repeat (map (λ b. b.0) bs)) k))
  where
    right : (b : Bool) → not b ≡ false → b ≡ true
    right true e = refl
    right false e = bool_absurd refl e

-- ── Trees ───────────────────────────────────────────────────────────────────────────────────────────────────

-- equal trees have the same lists
pub tree_same : (s t : Flat) → same_tree s t ≡ true → s ≡ t
unfolding same_tree
tree_same s t e =
    let (a, r) = both_true (same_bytes s.kinds t.kinds) (same_bytes s.measures t.measures && same_bytes s.text t.text) e in
    let (b, c) = both_true (same_bytes s.measures t.measures) (same_bytes s.text t.text) r in
    go (bytes_same s.kinds t.kinds a) (bytes_same s.measures t.measures b) (bytes_same s.text t.text c)
  where
    go : s.kinds ≡ t.kinds → s.measures ≡ t.measures → s.text ≡ t.text → s ≡ t
    go a b c = λ i. record { kinds = a i; measures = b i; text = c i }

module _ {h : Choices} {m : Memory} {bytes : List ℕ} {s : Step} (d : Done h m bytes s) where
  abbrev a : Accepted
  a = d.batch

  abbrev p : Plan
  p = d.planned

  abbrev w : World
  w = d.world

  abbrev ts : List (Tree ℕ)
  ts = a.trees

  H : Performed d.batch.trees d.planned.notes (performed d.batch d.planned) d.world
  H = ran_performed h bytes a p w d.accepts d.plans d.runs

  formed : All (λ k. malformed k ≡ false) (map label (flat_map preorder d.batch.trees))
  formed = let K = (ran_known h bytes a p w d.accepts d.plans d.runs).known in subst (All (λ k. malformed k ≡ false)) (sym K.spells.kinds) K.well_formed

  -- 22: the batch's tree 0 is the memory's tree
  pub tree_left : (most : ℕ) (us : List (Tree ℕ)) → Held most m us → us ≡ old_tree d.batch.trees
  tree_left most us k =
      let K = (ran_known h bytes a p w d.accepts d.plans d.runs).known in
      some_inj (sym k.spells ∙ (ap (λ (t : Flat). spelled (alone t)) (sym (tree_same (flat_of (old_tree ts)) m.tree d.same))
      ∙ old_spelled ts (omega (arith, K.roots, K.limits.some_tree)) K.spells.worded K.begins K.shallow formed))

  -- the moves, by the table of the batch's trees
  moves_told : s.moves ≡ moves_of (table 0 0 d.batch.trees) (begin d.batch.trees (table 0 0 d.batch.trees) d.planned.notes) (performed d.batch d.planned)
  unfolding moves at_first
  moves_told = d.moves ∙ ap (λ (T : Table). moves_of T (begin ts T p.notes) (performed a p)) (ran_known h bytes a p w d.accepts d.plans d.runs).known.table

  -- each is a move of tree 0
  pub moves_in0 : All In0 s.moves
  moves_in0 = subst (All In0) (sym moves_told) (performed_in0 ts p.notes (performed a p) w H)

  -- A BOOKMARK IS AN OLD ELEMENT: the one to which its path leads; and it moves "as all its splices and root replacements in a row do"
  pub record Stands (q : Path) : Type 0 where
    pub number : ℕ
    pub within : number < length (table 0 0 d.batch.trees)
    pub path : (row (table 0 0 d.batch.trees) number).path ≡ 0 ∷ q
    pub moves : present d.world number ≡ in_a_row s.moves (0 ∷ q)

  pub bookmark_stands : (q : Path) (v : Tree ℕ) → resolve (0 ∷ q) (top d.batch.trees) ≡ some v → Stands q
  unfolding row_of
  bookmark_stands q v e =
      let (x, i, j) = map_some (λ (x : Element). x.tree) (element ts (0 ∷ q)) (element_tree ts 0 q 2147483648 ∙ e) in
      let l : x.number < length (table 0 0 ts) = stands_within ts x.number (element_stands ts (0 ∷ q) x i) in
      let z : (row (table 0 0 ts) x.number).path ≡ 0 ∷ q = ap (λ r. r.path) (row_told_lem ts (0 ∷ q) x i) ∙ element_path ts (0 ∷ q) x i in
      record { number = x.number; within = l; path = z; moves = performed_moved ts p.notes (performed a p) w H x.number q l z ∙ ap (λ (ms : List (Run × ℕ)). in_a_row ms (0 ∷ q)) (sym moves_told) }

  -- where it survives it finds its element in the new tree
  bookmark_found : (q r : Path) (v : Tree ℕ) → resolve (0 ∷ q) (top d.batch.trees) ≡ some v → moved s.moves q ≡ some r → (y : Tree ℕ) × (resolve (0 ∷ r) (top (new_tree d.world)) ≡ some y)
  unfolding moved new_tree
  bookmark_found q r v e f =
      let b = bookmark_stands q v e in
      let (u, i, j) = map_some tail (in_a_row s.moves (0 ∷ q)) f in
      let z : present w b.number ≡ some (0 ∷ r) = b.moves ∙ (i ∙ ap {B = Option Path} some (row_head s.moves q u moves_in0 i ∙ ap {B = Path} (λ (x : Path). 0 ∷ x) j)) in
      let R = ran_known h bytes a p w d.accepts d.plans d.runs in
      let (y, t, k) = present_kind ts w R.follows b.number (0 ∷ r) b.within z in
      (y, tops_resolve w.trees 2147483648 r ∙ t)

  -- 21 lets survivors pass
  survivors_found : (most : ℕ) (us : List (Tree ℕ)) → Held most m us → any (astray (new_tree d.world)) (survivors s.moves m.bookmarks) ≡ false
  unfolding survivors kept astray old_tree is_some
  survivors_found most us k = none_any (astray (new_tree w)) (survivors s.moves m.bookmarks) one
    where
      old : (b : Bookmark) → Memᴰ b m.bookmarks → (v : Tree ℕ) × (resolve (0 ∷ b.1) (top d.batch.trees) ≡ some v)
      old b e = go (resolve (0 ∷ b.1) (top (old_tree ts))) refl (subst (λ (us : List (Tree ℕ)). astray us b ≡ false) (tree_left most us k) (All-mem (λ b. astray us b ≡ false) m.bookmarks b (none_passes (astray us) m.bookmarks k.found) e))
        where
          go : (o : Option (Tree ℕ)) → resolve (0 ∷ b.1) (top (old_tree ts)) ≡ o → not (is_some o) ≡ false → (v : Tree ℕ) × (resolve (0 ∷ b.1) (top ts) ≡ some v)
          go none e f = bool_absurd refl f
          go (some v) e f = (v, sym (first_resolve ts 2147483648 2147483648 b.1) ∙ e)

      one : (b : Bookmark) → Memᴰ b (survivors s.moves m.bookmarks) → astray (new_tree w) b ≡ false
      one b e =
          let (c, i, j) = pick_mem (kept s.moves) m.bookmarks b e in
          let (r, x, y) = map_some (λ (p : Path). (c.0, p)) (moved s.moves c.1) j in
          let (v, z) = old c i in
          let (t, u) = bookmark_found c.1 r v z x in
          let same : r ≡ b.1 = ap (λ (b : Bookmark). b.1) y in
          ap (λ (o : Option (Tree ℕ)). not (is_some o)) (ap (λ (q : Path). resolve (0 ∷ q) (top (new_tree w))) (sym same) ∙ u)

  tree_told : s.memory.tree ≡ flat_of (new_tree d.world)
  unfolding tree_of result flat_of
  tree_told = d.tree ∙ ap tree_of d.result

  -- AFTER AN ACCEPTED BATCH THE MEMORY PASSES ITS OWN CHECKS: "a surviving bookmark resolves"
  pub left_held : (most : ℕ) (us : List (Tree ℕ)) → Held most m us → Held most_later s.memory (new_tree d.world)
  unfolding too_big differ edit ◌>>=◌ result tree_of
  left_held most us k =
      let R = ran_known h bytes a p w d.accepts d.plans d.runs in
      let K = R.known in
      let r = result p.changes p.climbs w in
      let within = edit_within h bytes r (rw (d.accepts, d.plans, d.runs)) in
      let is : s.memory.tree ≡ tree_of r = d.tree ∙ ap tree_of d.result in
      record {
        small = ap (too_big most_later) is ∙ rw (le-ltb 4096 (length r.kinds) within.elements, le-ltb 4096 (length r.measures) (omega (arith, within.elements, within.measures)), le-ltb 16384 (length r.text) within.text);
        step = ap (λ (t : Flat). differ t.kinds t.measures) is ∙ rw (eq-eqb (length r.kinds) (length r.measures) (sym within.measures));
        spells = ap (λ (t : Flat). spelled (alone t)) tree_told ∙ new_spelled ts p.notes (performed a p) w H K.begins formed (omega (arith, K.roots, K.limits.some_tree)) R.small.depth;
        numbers = ap wrong_numbers d.bookmarks ∙ survivors_numbers s.moves m.bookmarks k.numbers;
        found = ap (any (astray (new_tree w))) d.bookmarks ∙ survivors_found most us k;
      }
