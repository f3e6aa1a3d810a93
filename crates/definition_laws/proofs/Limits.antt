-- The sizes of an accepted answer are within document 01's limits, and its bytes are as many as the sizes tell: so 13 cannot come with room for the most bytes that a result has.
-- Assumes nothing.
use Rattle.std.specs.Prelude.{◌≡◌, refl, Bool, ◌&&◌, leb, eqb, take, drop}
use Rattle.std.proofs.Common.{sym, ap, ◌∙◌, mul-le-mul_right, length-append, length-drop, take-append-drop, length-take-le, ltb-false, le-ltb, leb-true}
use Rattle.std.proofs.Math.Bool.{true, false, cond}
use mathlib.Core.List.{List, [], ◌∷◌, map, flat_map, zip}
use Rattle.std.proofs.Math.Option
use Rattle.std.proofs.Math.Option.{Option, none, some}
use Prim.Native.Nat.{ℕ, suc, ◌+◌, ◌*◌, ◌≤◌}
use native.Mathlib.Omega.{arith}
use Rattle.std.proofs.Math.ListN.{length}
use Rattle.std.proofs.lemmas.List.{length-map}
use Rattle.orders.specs.Lists.{All, pick, more, total}
use Rattle.orders.specs.ListLaws.{some_inj, none_some, map_some}
use Rattle.orders.specs.Tree.{list, forest, label, measure, text, preorder, Path, adjust, elements_of, text_of, children}
use Rattle.orders.proofs.TreeLaws.{list_forest, forest_list}
use Rattle.definition.specs.Basics.{Answer, refused, gives, ◌>>=◌, refuse, or_refuse, keep}
use Rattle.definition.specs.Words.{bytes, written}
use Rattle.definition.specs.Elements.{Table, table, row, tree}
use Rattle.definition.specs.Choices.{Choices}
use Rattle.definition.specs.Refusals.{Call, calls, count_of, operation_of, rule_of, Accepted, accepted}
use Rattle.definition.specs.Planning.{Planned, target, is_discarded}
use Rattle.definition.specs.Rewriting.{Note}
use Rattle.definition.specs.Running.{Changed, World, begin, Yield, yield, Run, news, place, placed, spliced, too_large, records, recorded_by, step, steps}
use Rattle.definition.specs.Finishing.{new_tree, new_table, number_at, changed_elements, note_elements, Result, result, six_sizes, encoded, fitting}
use Rattle.definition.specs.Answers.{Plan, plan, performed, at_first, ran, edit}
use Rattle.definition_laws.specs.Basics.{flat_map_append, total_le}
use Rattle.definition_laws.specs.Answers.{gives_inj, given, not_wrong}
use Rattle.definition_laws.specs.Measures.{text_of_list, preorder_list_length, deepest_each}
use Rattle.definition_laws.specs.Rows.{table_length}
use Rattle.definition_laws.specs.Sorting.{rising_length}
use Rattle.definition_laws.specs.Right.{Right, neither}
use Rattle.definition_laws.specs.Stages.{is_own, performed_own}
use Rattle.definition_laws.specs.Accepted.{Known, accepts}
use Rattle.definition_laws.specs.Plans.{Planning, checked, plan_known, performed_right}
use Rattle.definition_laws.specs.Running.{Follows, ran_follows}
use Rattle.definition_laws.specs.Held.{Holds, ran_holds}
use Rattle.definition_laws.specs.Limits.{Small, Within, most_bytes}

-- ── The bytes of a result ───────────────────────────────────────────────────────────────────────────────────

pub written_length : (ws : List ℕ) → length (written ws) ≡ 4 * length ws
unfolding written flat_map bytes
written_length [] = refl
written_length (w ∷ ws) = omega (arith, written_length ws)

-- a result has 24 bytes for its sizes, 8 for each element, 8 for each changed element, 8 for each note, and its text
pub encoded_length : (r : Result) → length r.measures ≡ length r.kinds → length r.rules ≡ length r.changed → length r.noted ≡ length r.numbers
    → length (encoded r) ≡ 24 + 8 * length r.kinds + 8 * length r.changed + 8 * length r.numbers + length r.text
unfolding encoded six_sizes
encoded_length r m c n = simp (length-append, written_length) (omega arith)

zip_length : {A B : Type 0} (l : List A) (m : List B) → length (zip l m) ≤ length l
unfolding zip
zip_length [] m = omega arith
zip_length (x ∷ l) [] = omega arith
zip_length (x ∷ l) (y ∷ m) = omega (arith, zip_length l m)

-- ── What the limits of line 12 leave ────────────────────────────────────────────────────────────────────────

pub small : (w : World) → too_large w ≡ false → Small w
unfolding too_large
small w e =
    let (e, d) = neither _ _ e in
    let (e, c) = neither _ _ e in
    let (a, b) = neither _ _ e in
    record { elements = ltb-false 4096 _ a; text = ltb-false 16384 _ b; notes = ltb-false 1024 _ c; depth = ltb-false 64 _ d }

-- the batch's trees are
small_begin : (bytes : List ℕ) (a : Accepted) (p : Plan) → Known bytes a → Planning a p → Small (at_first a p)
unfolding at_first begin children
small_begin bytes a p k q =
    let l = k.limits in
    let z = k.long in
    record {
      elements = omega (arith, l.elements, z.kinds, sym (preorder_list_length a.trees), length-map (flat_map preorder a.trees) label, ap length k.spells.kinds);
      text = omega (arith, l.text, z.text, ap length (text_of_list (forest a.trees) ∙ (ap (flat_map text) (list_forest a.trees) ∙ k.spells.written)));
      notes = omega (arith, l.notes, z.noted, q.notes, ap length k.noted, zip_length k.arrays.noted k.arrays.numbers);
      depth = deepest_each 64 a.trees k.shallow;
    }

pub steps_small : (T : Table) (first : World) (ps : List Planned) (w last : World) → Small w → steps T first w ps ≡ gives last → Small last
unfolding steps step
steps_small T first [] w last s e = rw (← gives_inj e) s
steps_small T first (p ∷ ps) w last s e =
    given (step T first w p) _ e λ next a e.
    steps_small T first ps next last (next_small next a) e
  where
    next_small : (next : World) → step T first w p ≡ gives next → Small next
    next_small next a =
        given (or_refuse 11 (place T w p.change)) _ a λ r b a.
        given (refuse 12 (too_large (spliced r (map (yield first w) (news p.change)) (recorded_by T p) w))) _ a λ u c a.
        rw (← gives_inj a) (small _ (not_wrong 12 _ c))

-- ── Changed elements ────────────────────────────────────────────────────────────────────────────────────────

pick_length : {A B : Type 0} (f : A → Option B) (l : List A) → length (pick f l) ≤ length l
unfolding pick
pick_length f [] = omega arith
pick_length {A} {B} f (x ∷ l) = go (f x) (pick_length f l)
  where
    go : (o : Option B) → length (pick f l) ≤ length l → length (more o (pick f l)) ≤ suc (length l)
    go none r = omega arith
    go (some y) r = omega arith

placed_length : (q : Path) (a : ℕ) (ys : List Yield) → length (placed q a ys) ≡ length ys
unfolding placed
placed_length q a [] = refl
placed_length q a (y ∷ ys) = ap suc (placed_length q (suc a) ys)

-- a step records what it lists, if it records
step_changed : (T : Table) (first w next : World) (p : Planned) → step T first w p ≡ gives next → length next.changed ≤ length w.changed + cond (records T p) (length (news p.change)) 0
unfolding step spliced recorded_by
step_changed T first w next p e =
    given (or_refuse 11 (place T w p.change)) _ e λ r b e.
    given (refuse 12 (too_large (spliced r (map (yield first w) (news p.change)) (recorded_by T p) w))) _ e λ u c e.
    rw (← gives_inj e) (go r (map (yield first w) (news p.change)) (length-map (news p.change) (yield first w)) (records T p))
  where
    moved : Run → List Yield → Changed → Option Changed
    moved r new c = Option.map (λ q. (q, c.1)) (adjust r.parent r.from r.to (length new) c.0)

    go : (r : Run) (new : List Yield) → length new ≡ length (news p.change) → (b : Bool) → length (spliced r new (cond b (some p.rule) none) w).changed ≤ length w.changed + cond b (length (news p.change)) 0
    go r new z true =
        let places = placed r.parent r.from new in
        let news : List Changed = map (λ y. (y.0, p.rule)) places in
        omega (arith, length-append (pick (moved r new) w.changed) news, pick_length (moved r new) w.changed, length-map {B = Changed} places (λ y. (y.0, p.rule)), placed_length r.parent r.from new)
    go r new z false = omega (arith, length-append (pick (moved r new) w.changed) [], pick_length (moved r new) w.changed)

pub steps_changed : (T : Table) (first : World) (ps : List Planned) (w last : World) → steps T first w ps ≡ gives last
    → length last.changed ≤ length w.changed + total (records T) (λ p. length (news p.change)) ps
unfolding steps total
steps_changed T first [] w last e = omega (arith, ap (λ z. length z.changed) (gives_inj e))
steps_changed T first (p ∷ ps) w last e = given (step T first w p) _ e λ next a e. omega (arith, step_changed T first w next p a, steps_changed T first ps next last e)

-- calls list as many elements as there are, and are as many as their words
calls_listed : (ws : List (ℕ × ℕ)) (l : List ℕ) (cs : List Call) → calls ws l ≡ some cs → (total (λ c. true) (λ c. length c.listed) cs ≡ length l) × (length cs ≡ length ws)
unfolding calls total
calls_listed [] [] cs e = rw (← some_inj e) (refl, refl)
calls_listed [] (x ∷ l) cs e = none_some e
calls_listed (c ∷ ws) l cs e = go (count_of c.0) (leb (count_of c.0) (length l)) refl e (calls_listed ws (drop (count_of c.0) l))
  where
    go : (n : ℕ) (b : Bool) → leb n (length l) ≡ b → cond b (Option.map (λ r. record { operation = operation_of c.0; target = c.1; listed = take n l; rule = rule_of c.0 } ∷ r) (calls ws (drop n l))) none ≡ some cs
        → ((ds : List Call) → calls ws (drop n l) ≡ some ds → (total (λ c. true) (λ c. length c.listed) ds ≡ length (drop n l)) × (length ds ≡ length ws))
        → (total (λ c. true) (λ c. length c.listed) cs ≡ length l) × (length cs ≡ suc (length ws))
    go n false h q ih = none_some q
    go n true h q ih =
        let (ds, a, b) = map_some _ (calls ws (drop n l)) q in
        let (x, y) = ih ds a in
        let fits = leb-true n (length l) h in
        let sum : length (take n l) + total (λ c. true) (λ c. length c.listed) ds ≡ length l = omega (arith, x, length-take-le n l fits, length-drop n l) in
        rw (← b) (sum, ap suc y)

-- ── The limits ──────────────────────────────────────────────────────────────────────────────────────────────

-- no more pass than there are
pub keep_length : {A : Type 0} (p : A → Bool) (l : List A) → length (keep p l) ≤ length l
unfolding keep
keep_length p l = pick_length (λ x. cond (p x) (some x) none) l

part_length : {A B : Type 0} (f : A → List B) (n : ℕ) (l : List A) → length (flat_map f (take n l)) ≤ length (flat_map f l)
part_length f n l = omega (arith, length-append (flat_map f (take n l)) (flat_map f (drop n l)), ap length (sym (flat_map_append f (take n l) (drop n l)) ∙ ap (flat_map f) (take-append-drop n l)))

-- the new tree is one of the current trees
pub new_elements : (w : World) → length (flat_map preorder (new_tree w)) ≤ elements_of (children w.trees)
unfolding new_tree
new_elements w =
    let l = list (children w.trees) in
    omega (arith, part_length preorder 1 l, preorder_list_length l, ap elements_of (forest_list (children w.trees)))

new_text : (w : World) → length (flat_map text (new_tree w)) ≤ length (text_of (children w.trees))
unfolding new_tree
new_text w = omega (arith, part_length text 1 (list (children w.trees)), ap length (text_of_list (children w.trees)))

-- the lists of a result are no longer than what they are made of
changed_length : (F : Table) (w : World) → length (changed_elements F w) ≤ length w.changed
unfolding changed_elements
changed_length F w =
    let at : Changed → Option (ℕ × ℕ) = λ c. Option.map (λ e. (e, c.1)) (number_at F c.0) in
    omega (arith, rising_length (λ (m : ℕ × ℕ). (row F m.0).start ∷ []) (pick at w.changed), pick_length at w.changed)

notes_length : (F : Table) (w : World) → length (note_elements F w) ≤ length w.notes
unfolding note_elements
notes_length F w =
    let at : Note → Option (Note × ℕ) = λ n. Option.map (λ e. (n, e)) (number_at F n.path) in
    omega (arith, rising_length (λ (m : Note × ℕ). m.0.number ∷ m.0.place ∷ (row F m.1).start ∷ []) (pick at w.notes), pick_length at w.notes)

result_within : (ps : List Planned) (climbs : ℕ) (w : World) → Small w → length ps ≤ 256 → climbs ≤ 1048576 → length w.changed ≤ 1024 → Within (result ps climbs w)
unfolding result
result_within ps climbs w s n c h =
    let els = flat_map preorder (new_tree w) in
    let notes = note_elements (new_table w) w in
    let changed = changed_elements (new_table w) w in
    record {
      elements = omega (arith, length-map els label, new_elements w, s.elements);
      measures = length-map els measure ∙ sym (length-map els label);
      text = omega (arith, new_text w, s.text);
      changed = omega (arith, length-map changed (λ m. m.0), changed_length (new_table w) w);
      ruled = length-map changed (λ m. m.1) ∙ sym (length-map changed (λ m. m.0));
      notes = omega (arith, length-map notes (λ m. m.0.number), notes_length (new_table w) w, s.notes);
      noted = length-map notes (λ m. m.1) ∙ sym (length-map notes (λ m. m.0.number));
      discarded = omega (arith, keep_length (λ p. is_discarded p.fate) ps);
      climbs = c;
    }

-- the parts, for a batch that lines 2 to 10 accept
module _ (bytes : List ℕ) (a : Accepted) (p : Plan) where
  ran_small : (w : World) → Known bytes a → Planning a p → ran a p ≡ gives w → Small w
  unfolding ran
  ran_small w k q e = steps_small a.table (at_first a p) (performed a p) (at_first a p) w (small_begin bytes a p k q) e

  edit_count : Known bytes a → Planning a p → length p.changes ≤ 256
  edit_count k q =
      let b = k.arrays in
      omega (arith, q.count, (calls_listed (zip b.calls b.targets) b.listed a.calls k.parted).1, zip_length b.calls b.targets, k.long.calls, k.limits.calls)

  edit_elements : Known bytes a → length a.table ≤ 2048
  edit_elements k =
      omega (arith, ap length k.table, table_length a.trees 0 0, sym (preorder_list_length a.trees), length-map (flat_map preorder a.trees) label, ap length k.spells.kinds, k.long.kinds, k.limits.elements)

  edit_climbs : Known bytes a → Planning a p → length p.changes ≤ 256 → p.climbs ≤ 1048576
  edit_climbs k q n =
      let m = edit_elements k in
      let x : 2 * length a.table * length p.changes ≤ 4096 * length p.changes = mul-le-mul_right (length p.changes) (omega arith) in
      omega (arith, q.climbs)

  -- what is performed records no more than the calls list
  pub performed_records : Known bytes a → Planning a p → total (records a.table) (λ c. length (news c.change)) (performed a p) ≤ 1024
  unfolding performed records
  performed_records k q =
      let f : Planned → ℕ = λ c. length (news c.change) in
      let ps = performed a p in
      let own : total (records a.table) f ps ≤ total is_own f ps = total_le (records a.table) f is_own f (λ c. one (is_own c) (eqb (tree a.table (target c.change)) 0) (f c)) ps in
      let all : total is_own f p.changes ≤ total (λ c. true) f p.changes = total_le is_own f (λ c. true) f (λ c. less (is_own c) (f c)) p.changes in
      let b = k.arrays in
      omega (
        arith,
        own,
        performed_own a.table f p.changes (length p.changes),
        all,
        q.listed,
        (calls_listed (zip b.calls b.targets) b.listed a.calls k.parted).0,
        k.long.listed,
        k.limits.listed,
      )
    where
      one : (b c : Bool) (n : ℕ) → cond (b && c) n 0 ≤ cond b n 0
      one true true n = omega arith
      one true false n = omega arith
      one false c n = omega arith

      less : (b : Bool) (n : ℕ) → cond b n 0 ≤ n
      less true n = omega arith
      less false n = omega arith

  pub ran_changed : (w : World) → Known bytes a → Planning a p → ran a p ≡ gives w → length w.changed ≤ 1024
  unfolding ran at_first begin
  ran_changed w k q e =
      let first = at_first a p in
      omega (arith, steps_changed a.table first (performed a p) first w e, performed_records k q)

-- Every accepted answer is within the limits.
pub edit_within : (h : Choices) (bytes : List ℕ) (r : Result) → edit h bytes ≡ gives r → Within r
unfolding edit
edit_within h bytes r e =
    given (accepted bytes) _ e λ a x e.
    given (plan h a) _ e λ p y e.
    given (ran a p) _ e λ w z e.
    let k = accepts bytes a x in
    let q = plan_known a (checked bytes a k) h p y in
    let n = edit_count bytes a p k q in
    rw (← gives_inj e) (result_within p.changes p.climbs w (ran_small bytes a p w k q z) n (edit_climbs bytes a p k q n) (ran_changed bytes a p w k q z))

-- ── The longest result ──────────────────────────────────────────────────────────────────────────────────────

-- An accepted answer has at most so many.
pub encoded_within : (h : Choices) (bytes : List ℕ) (r : Result) → edit h bytes ≡ gives r → length (encoded r) ≤ most_bytes
encoded_within h bytes r e = let w = edit_within h bytes r e in omega (arith, encoded_length r w.measures w.ruled w.noted, w.elements, w.changed, w.notes, w.text)

-- With that much room the buffer is never too short.
pub room_suffices : (h : Choices) (bytes : List ℕ) (room : ℕ) → most_bytes ≤ room → (edit h bytes >>= λ r. fitting room r) ≡ edit h bytes
unfolding fitting refuse ◌>>=◌
room_suffices h bytes room l = go (edit h bytes) refl
  where
    go : (o : Answer Result) → edit h bytes ≡ o → (o >>= λ r. fitting room r) ≡ o
    go (refused n) e = refl
    go (gives r) e = rw (le-ltb room (length (encoded r)) (omega (arith, encoded_within h bytes r e)))

-- ── A run, all together ─────────────────────────────────────────────────────────────────────────────────────

-- what is known of a batch whose edit is not refused
pub record Ran (bytes : List ℕ) (a : Accepted) (p : Plan) (w : World) : Type 0 where
  pub known : Known bytes a
  pub planning : Planning a p
  pub right : All (λ q. Right a.table q.change) (performed a p)
  pub follows : Follows a.trees w
  pub holds : Holds w
  pub small : Small w

pub ran_known : (h : Choices) (bytes : List ℕ) (a : Accepted) (p : Plan) (w : World) → accepted bytes ≡ gives a → plan h a ≡ gives p → ran a p ≡ gives w → Ran bytes a p w
ran_known h bytes a p w x y z =
    let k = accepts bytes a x in
    let q = plan_known a (checked bytes a k) h p y in
    let c = performed_right a p q in
    record {
      known = k;
      planning = q;
      right = c;
      follows = ran_follows a p w k.table k.spells.worded c z;
      holds = ran_holds a p w k.table k.spells.worded q c z;
      small = ran_small bytes a p w k q z;
    }
