-- Every number of an accepted answer is a word of 32 bits, if the batch is made of bytes.
-- Assumes nothing.
use Rattle.std.specs.Prelude.{◌≡◌, Bool, not, ◌||◌, ℕ, zero, suc, ◌+◌, ◌*◌, ◌^◌, ◌≤◌, ◌<◌, leb, ltb, length, take, drop}
use Rattle.std.proofs.Math.Path.{refl}
use Rattle.std.proofs.Common.{sym, ap, ◌∙◌, length-append, take-append-drop, leb-false}
use Rattle.std.proofs.Math.Bool.{true, false, cond}
use mathlib.Core.List.{List, [], ◌∷◌, ◌++◌, map, flat_map, zip}
use Rattle.std.proofs.Math.Option
use Rattle.std.proofs.Math.Option.{Option, none, some, get_or}
use native.Mathlib.Omega.{arith}
use Rattle.std.proofs.Math.Dec.{eqb, eqb→eq}
use Rattle.orders.specs.Lists.{All, pick}
use Rattle.orders.specs.ListLaws.{none_passes, some_inj, none_some, All-map, All-map₂, All-over, All-pick, map_some, bind_some}
use Rattle.orders.specs.Tree.{Tree, node, token, list, label, measure, text, preorder, children, elements_of, Path, resolve, adjust, strip}
use Rattle.definition.specs.Basics.{gives, refuse, or_refuse, any, rising}
use Rattle.definition.specs.Words.{words}
use Rattle.definition.specs.Batch.{Batch, sizes, beyond, whole, arrays, batch}
use Rattle.definition.specs.Choices.{Choices}
use Rattle.definition.specs.Elements.{Table, table, pieces, grow, unspelled, spelled, descend}
use Rattle.definition.specs.Finishing.{new_tree, new_table, number_at, changed_elements, note_elements, Result, result}
use Rattle.definition.specs.Refusals.{Accepted, accepted, calls, lists_too_many, wrong_call, wrong_mapping, wrong_note}
use Rattle.definition.specs.Answers.{judge_changes, disjoint, Plan, rewrite_changes, plan, performed, at_first, ran, edit}
use Rattle.definition.specs.Planning.{Planned}
use Rattle.definition.specs.Rewriting.{Note, settle, settled, mapping, rewritten}
use Rattle.definition.specs.Running.{Changed, World, begin, present, with_path, notes_at, Yield, yield_at, yield, news, Run, place, placed, spliced, too_large, records, recorded_by, step, steps}
use Rattle.definition_laws.specs.Basics.{All-append, append_All, flat_map_append, All-flatMap, All-take, map_All}
use Rattle.definition_laws.specs.Spelling.{read_spells}
pub use Rattle.words.specs.Bytes.{Words, Bytes, take_bytes}
use Rattle.words.specs.Bytes.{length_words, word_small, drop_bytes}
use Rattle.definition_laws.specs.Held.{Leads, Holds, number_found}
use Rattle.definition_laws.specs.Sorting.{sort_all}
use Rattle.definition_laws.specs.Measures.{preorders_list, preorder_list_length}
use Rattle.definition_laws.specs.Rows.{table_length}
use Rattle.definition_laws.specs.Accepted.{accepts}
use Rattle.definition_laws.specs.Plans.{performed_ruled}
use Rattle.definition_laws.specs.Limits.{Small}
use Rattle.definition_laws.proofs.Limits.{ran_known}
use Rattle.orders.proofs.TreeLaws.{forest_list}
use Rattle.definition_laws.specs.Answers.{gives_inj, given, is_there}
use Rattle.result_laws.proofs.Labels.{Labelled, labelled_list, forest_labelled, labelled_resolve, labelled_splice, labelled_preorder, preorder_labelled, measured_all}

-- ── Words of bytes ──────────────────────────────────────────────────────────────────────────────────────────

abbrev Word : ℕ → Type 0
Word w = w < 2 ^ 32

pub all_words : (ws : List ℕ) → All Word ws → Words ws
all_words [] h i = omega arith
all_words (w ∷ ws) h zero = h.0
all_words (w ∷ ws) h (suc i) = all_words ws h.1 i

-- told by a test
pub tested_bytes : (b : List ℕ) → any (leb 256) b ≡ false → Bytes b
tested_bytes b e = each b (none_passes (leb 256) b e)
  where
    each : (b : List ℕ) → All (λ x. leb 256 x ≡ false) b → Bytes b
    each [] h i = omega arith
    each (x ∷ b) h zero = leb-false 256 x h.0
    each (x ∷ b) h (suc i) = each b h.1 i

words_bytes : (n : ℕ) (b : List ℕ) → Bytes b → All Word (words n b)
unfolding words
words_bytes zero b h = tt
words_bytes (suc n) b h = (word_small b h, words_bytes n (drop 4 b) (drop_bytes 4 b h))

-- the kind words and the numbers of notes of a batch of bytes
batch_words : (bytes : List ℕ) (b : Batch) → Bytes bytes → batch bytes ≡ gives b → All Word b.kinds × All Word b.numbers
unfolding batch arrays
batch_words bytes b h e =
    given (refuse 2 (ltb (length bytes) 28)) _ e λ _ _ e.
    given (refuse 3 (beyond (sizes bytes))) _ e λ _ _ e.
    given (refuse 4 (not (eqb (length bytes) (whole (sizes bytes))))) _ e λ _ _ e.
    let s = sizes bytes in
    let k = drop_bytes 28 bytes h in
    rw (← gives_inj e) (
      words_bytes s.elements (drop 28 bytes) k,
      words_bytes s.notes _ (drop_bytes (4 * s.notes) _ (drop_bytes (4 * s.mappings) _ (drop_bytes (4 * s.mappings) _ (drop_bytes (4 * s.listed) _ (drop_bytes (4 * s.calls) _ (drop_bytes (4 * s.calls) _ (drop_bytes (4 * s.elements) _ (drop_bytes (4 * s.elements) _ k)))))))),
    )

-- ── What the steps keep ─────────────────────────────────────────────────────────────────────────────────────

-- kind words, numbers of notes and rule numbers are words
pub record Kept (w : World) : Type 0 where
  pub trees : Labelled w.trees
  pub notes : All (λ n. Word n.number) w.notes
  pub changed : All (λ c. Word c.1) w.changed

-- and so in what a listed element yields
Yielded : Yield → Type 0
Yielded y = Labelled y.tree × All (λ n. Word n.number) y.notes

moved : (f : Note → Option Path) (n m : Note) → Word n.number → Option.map (with_path n) (f n) ≡ some m → Word m.number
unfolding with_path
moved f n m h e = let (p, a, b) = map_some (with_path n) (f n) e in rw (← b) h

yield_at_kept : (w : World) (p : Path) → Kept w → Yielded (yield_at w p)
unfolding yield_at notes_at Yielded
yield_at_kept w p k = (go (resolve p w.trees) refl, All-pick (λ n. Option.map (with_path n) (strip p n.path)) (λ n. Word n.number) (λ n. Word n.number) (λ n m e h. moved (λ n. strip p n.path) n m h e) w.notes k.notes)
  where
    go : (o : Option (Tree ℕ)) → resolve p w.trees ≡ o → Labelled (get_or o (token 0 []))
    go none e = omega arith
    go (some x) e = labelled_resolve p w.trees x k.trees e

yield_kept : (first w : World) (e : ℕ) → Kept first → Kept w → Yielded (yield first w e)
unfolding yield
yield_kept first w e f k = go (present w e)
  where
    go : (o : Option Path) → Yielded (elim o [ none ↦ yield_at first (get_or (present first e) []) | some p ↦ yield_at w p ])
    go none = yield_at_kept first (get_or (present first e) []) f
    go (some p) = yield_at_kept w p k

yields_kept : (first w : World) (es : List ℕ) → Kept first → Kept w → All Yielded (map (yield first w) es)
yields_kept first w [] f k = tt
yields_kept first w (e ∷ es) f k = (yield_kept first w e f k, yields_kept first w es f k)

placed_kept : (q : Path) (a : ℕ) (ys : List Yield) → All Yielded ys → All (λ y. Yielded y.1) (placed q a ys)
unfolding placed
placed_kept q a [] h = tt
placed_kept q a (y ∷ ys) h = (h.0, placed_kept q (suc a) ys h.1)

-- the rule number by which a change is recorded is a word
Ruled : Option ℕ → Type 0
Ruled none = Unit
Ruled (some n) = Word n

spliced_kept : (r : Run) (new : List Yield) (recorded : Option ℕ) (w : World) → Ruled recorded → All Yielded new → Kept w → Kept (spliced r new recorded w)
unfolding spliced Yielded with_path Ruled
spliced_kept r new recorded w rule n k =
    let move = adjust r.parent r.from r.to (length new) in
    let places = placed r.parent r.from new in
    record {
      trees = labelled_splice r.parent r.from r.to (map (λ y. y.tree) new) w.trees (All-over (λ y. y.tree) Yielded Labelled (λ y h. h.0) new n) k.trees;
      notes =
          All-append (λ n. Word n.number) (pick (λ n. Option.map (with_path n) (move n.path)) w.notes) (flat_map (λ y. map (λ n. with_path n (y.0 ++ n.path)) y.1.notes) places)
          (All-pick (λ n. Option.map (with_path n) (move n.path)) (λ n. Word n.number) (λ n. Word n.number) (λ n m e h. moved (λ n. move n.path) n m h e) w.notes k.notes)
          (All-flatMap (λ y. Yielded y.1) (λ n. Word n.number) (λ y. map (λ n. with_path n (y.0 ++ n.path)) y.1.notes)
          (λ y h. All-over (λ n. with_path n (y.0 ++ n.path)) (λ n. Word n.number) (λ n. Word n.number) (λ n h. h) y.1.notes h.1) places (placed_kept r.parent r.from new n));
      changed =
          All-append (λ (c : Changed). Word c.1) (pick (λ c. Option.map (λ p. (p, c.1)) (move c.0)) w.changed) (elim recorded [ none ↦ [] | some n ↦ map (λ y. (y.0, n)) places ])
          (All-pick (λ c. Option.map (λ p. (p, c.1)) (move c.0)) (λ c. Word c.1) (λ c. Word c.1) (same move) w.changed k.changed) (coming recorded rule places);
    }
  where
    same : (move : Path → Option Path) (c d : Changed) → Option.map (λ p. (p, c.1)) (move c.0) ≡ some d → Word c.1 → Word d.1
    same move c d e h = let (p, a, b) = map_some (λ (p : Path). (p, c.1)) (move c.0) e in rw (← b) h

    coming : (o : Option ℕ) → Ruled o → (ys : List (Path × Yield)) → All (λ (c : Changed). Word c.1) (elim o as (λ _. List Changed) [ none ↦ [] | some n ↦ map (λ y. (y.0, n)) ys ])
    coming none h ys = tt
    coming (some n) h [] = tt
    coming (some n) h (y ∷ ys) = (h, coming (some n) h ys)

recorded_by_ruled : (T : Table) (p : Planned) → Word p.rule → Ruled (recorded_by T p)
unfolding recorded_by Ruled
recorded_by_ruled T p h = go (records T p)
  where
    go : (b : Bool) → Ruled (cond b (some p.rule) none)
    go true = h
    go false = tt

steps_kept : (T : Table) (first : World) (ps : List Planned) (w last : World) → All (λ p. Word p.rule) ps → Kept first → Kept w → steps T first w ps ≡ gives last → Kept last
unfolding steps step
steps_kept T first [] w last r f k e = rw (← gives_inj e) k
steps_kept T first (p ∷ ps) w last r f k e = given (step T first w p) _ e λ next a e. steps_kept T first ps next last r.1 f (next_kept next a) e
  where
    next_kept : (next : World) → step T first w p ≡ gives next → Kept next
    next_kept next a =
        given (or_refuse 11 (place T w p.change)) _ a λ run b a.
        given (refuse 12 (too_large (spliced run (map (yield first w) (news p.change)) (recorded_by T p) w))) _ a λ u c a.
        rw (← gives_inj a) (spliced_kept run (map (yield first w) (news p.change)) (recorded_by T p) w (recorded_by_ruled T p r.0) (yields_kept first w (news p.change) f k) k)

-- ── What a batch begins with ────────────────────────────────────────────────────────────────────────────────

batch_long : (bytes : List ℕ) (b : Batch) → batch bytes ≡ gives b → length b.kinds ≡ length b.measures
unfolding batch arrays
batch_long bytes b e =
    given (refuse 2 (ltb (length bytes) 28)) _ e λ _ _ e.
    given (refuse 3 (beyond (sizes bytes))) _ e λ _ _ e.
    given (refuse 4 (not (eqb (length bytes) (whole (sizes bytes))))) _ e λ _ _ e.
    rw (← gives_inj e) (length_words _ _ ∙ sym (length_words _ _))

spelled_labelled : (b : Batch) (ts : List (Tree ℕ)) → length b.kinds ≡ length b.measures → All Word b.kinds → spelled b ≡ some ts → All Labelled ts
unfolding spelled flat_map
spelled_labelled b ts z h e =
    let (ps, x, e) = bind_some (pieces (zip b.kinds b.measures) b.text) _ e in
    let (us, y, e) = bind_some (grow ps) _ e in
    let s = read_spells b.kinds b.measures b.text ps us z x y in
    rw (← chosen (unspelled b us) us e) (each us (map_All Word label (flat_map preorder us) (rw s.kinds h)))
  where
    chosen : (wrong : Bool) (us : List (Tree ℕ)) → cond wrong none (some us) ≡ some ts → us ≡ ts
    chosen true us e = none_some e
    chosen false us e = some_inj e

    each : (us : List (Tree ℕ)) → All (λ x. label x < 2 ^ 32) (flat_map preorder us) → All Labelled us
    each [] h = tt
    each (u ∷ us) h = let (a, b) = append_All (λ x. label x < 2 ^ 32) (preorder u) (flat_map preorder us) h in (preorder_labelled u a, each us b)

zip_words : (xs ws : List ℕ) → All Word ws → All (λ n. Word n.1) (zip xs ws)
unfolding zip
zip_words [] ws h = tt
zip_words (x ∷ xs) [] h = tt
zip_words (x ∷ xs) (w ∷ ws) h = (h.0, zip_words xs ws h.1)

accepted_kept : (bytes : List ℕ) (a : Accepted) → Bytes bytes → accepted bytes ≡ gives a → All Labelled a.trees × All (λ n. Word n.1) a.notes
unfolding accepted
accepted_kept bytes a h e =
    given (batch bytes) _ e λ b x e.
    given (or_refuse 5 (spelled b)) _ e λ ts y e.
    given (or_refuse 6 (calls (zip b.calls b.targets) b.listed)) _ e λ cs _ e.
    given (refuse 6 (any (wrong_call (table 0 0 ts)) cs)) _ e λ _ _ e.
    given (refuse 16 (any lists_too_many cs)) _ e λ _ _ e.
    given (refuse 7 (any (wrong_mapping (table 0 0 ts)) (zip b.inputs b.outputs) || any (wrong_note (table 0 0 ts)) (zip b.noted b.numbers))) _ e λ _ _ e.
    let (k, n) = batch_words bytes b h x in
    rw (← gives_inj e) (spelled_labelled b ts (batch_long bytes b x) k (is_there 5 (spelled b) y), zip_words b.noted b.numbers n)

settled_kept : (T : Table) (mapped : ℕ → Option ℕ) (i : ℕ) (ns : List (ℕ × ℕ)) (notes : List Note) → All (λ n. Word n.1) ns → settled T mapped i ns ≡ gives notes → All (λ n. Word n.number) notes
unfolding settled
settled_kept T mapped i [] notes h e = rw (← gives_inj e) tt
settled_kept T mapped i (n ∷ ns) notes h e =
    given (settle T mapped (length T) n.0) _ e λ _ _ e.
    given (settled T mapped (suc i) ns) _ e λ rest x e.
    rw (← gives_inj e) (h.0, settled_kept T mapped (suc i) ns rest h.1 x)

plan_kept : (h : Choices) (a : Accepted) (p : Plan) → All (λ n. Word n.1) a.notes → plan h a ≡ gives p → All (λ n. Word n.number) p.notes
unfolding plan rewrite_changes
plan_kept h a p g e =
    given (disjoint (judge_changes h a)) _ e λ ps _ e.
    given (rewritten a.table (mapping a.mappings) ps) _ e λ _ _ e.
    given (settled a.table (mapping a.mappings) 0 a.notes) _ e λ notes x e.
    rw (← gives_inj e) (settled_kept a.table (mapping a.mappings) 0 a.notes notes g x)

ran_kept : (a : Accepted) (p : Plan) (w : World) → All Labelled a.trees → All (λ n. Word n.number) p.notes → All (λ q. Word q.rule) (performed a p) → ran a p ≡ gives w → Kept w
unfolding ran at_first begin
ran_kept a p w h k r e = steps_kept a.table (at_first a p) (performed a p) (at_first a p) w r first first e
  where
    first : Kept (at_first a p)
    first = record { trees = (omega arith, forest_labelled a.trees h); notes = k; changed = tt }

-- ── The answer ──────────────────────────────────────────────────────────────────────────────────────────────

-- a result of words
pub record Worded (r : Result) : Type 0 where
  pub kinds : Words r.kinds
  pub measures : Words r.measures
  pub changed : Words r.changed
  pub rules : Words r.rules
  pub numbers : Words r.numbers
  pub noted : Words r.noted

below_word : (n : ℕ) → n ≤ 65536 → Word n
below_word n h = omega arith

-- numbers of elements of the new tree
module _ (w : World) (h : length (new_table w) ≤ 65536) where
  number_word : (p : Path) (n : ℕ) → number_at (new_table w) p ≡ some n → Leads w.trees p → Word n
  unfolding number_at
  number_word [] n e l = none_some e
  number_word (t ∷ p) n e l = go (eqb t 0) refl e
    where
      go : (b : Bool) → eqb t 0 ≡ b → cond b (descend (new_table w) 0 p) none ≡ some n → Word n
      go false f e = none_some e
      go true f e =
          let z : t ≡ 0 = eqb→eq t 0 (rw f tt) in
          let (m, a, b, c) = number_found w p (rw z at l) in
          let s : n ≡ m = some_inj (sym e ∙ a) in
          omega arith

  changed_words : All (λ c. Leads w.trees c.0) w.changed → All (λ c. Word c.1) w.changed → All (λ m. Word m.0 × Word m.1) (changed_elements (new_table w) w)
  unfolding changed_elements rising
  changed_words l k =
      let at : Changed → Option (ℕ × ℕ) = λ c. Option.map (λ e. (e, c.1)) (number_at (new_table w) c.0) in
      sort_all _ (λ m. Word m.0 × Word m.1) (pick at w.changed)
      (All-pick at (λ c. Leads w.trees c.0 × Word c.1) (λ m. Word m.0 × Word m.1)
      (λ c m e x. let (d, a, b) = map_some (λ (e : ℕ). (e, c.1)) (number_at (new_table w) c.0) e in rw (← b) (number_word c.0 d a x.0, x.1)) w.changed (All-map₂ (λ c a b. (a, b)) w.changed l k))

  notes_words : All (λ n. Leads w.trees n.path) w.notes → All (λ n. Word n.number) w.notes → All (λ m. Word m.0.number × Word m.1) (note_elements (new_table w) w)
  unfolding note_elements rising
  notes_words l k =
      let at : Note → Option (Note × ℕ) = λ n. Option.map (λ e. (n, e)) (number_at (new_table w) n.path) in
      sort_all _ (λ m. Word m.0.number × Word m.1) (pick at w.notes)
      (All-pick at (λ n. Leads w.trees n.path × Word n.number) (λ m. Word m.0.number × Word m.1)
      (λ n m e x. let (d, a, b) = map_some (λ e. (n, e)) (number_at (new_table w) n.path) e in rw (← b) (x.1, number_word n.path d a x.0)) w.notes (All-map₂ (λ n a b. (a, b)) w.notes l k))

-- kind words and measures of the new tree
new_labels : (w : World) → Labelled w.trees → All Word (map label (flat_map preorder (new_tree w)))
unfolding new_tree children list
new_labels w h =
    All-over label (λ x. label x < 2 ^ 32) Word (λ x k. k) (flat_map preorder (take 1 (list (children w.trees))))
    (All-flatMap Labelled (λ x. label x < 2 ^ 32) preorder labelled_preorder (take 1 (list (children w.trees))) (All-take Labelled 1 (list (children w.trees)) (below w.trees h)))
  where
    below : (t : Tree ℕ) → Labelled t → All Labelled (list (children t))
    below (node k cs) h = labelled_list cs h.1
    below (token k own) h = tt

new_measures : (w : World) → Small w → All Word (map measure (flat_map preorder (new_tree w)))
unfolding new_tree
new_measures w s =
    let l = list (children w.trees) in
    let all : All (λ x. measure x ≤ 20480) (flat_map preorder l) = rw (preorders_list (children w.trees)) at (measured_all (children w.trees) 20480 (omega (arith, s.elements, s.text))) in
    let parts : flat_map preorder l ≡ flat_map preorder (take 1 l) ++ flat_map preorder (drop 1 l) = ap (flat_map preorder) (sym (take-append-drop 1 l)) ∙ flat_map_append preorder (take 1 l) (drop 1 l) in
    let some : All (λ x. measure x ≤ 20480) (flat_map preorder (take 1 l)) = (append_All (λ x. measure x ≤ 20480) (flat_map preorder (take 1 l)) (flat_map preorder (drop 1 l)) (rw parts at all)).0 in
    All-over measure (λ x. measure x ≤ 20480) Word (λ x k. below_word (measure x) (omega arith)) (flat_map preorder (take 1 l)) some

result_worded : (ps : List Planned) (climbs : ℕ) (w : World) → Kept w → Small w → Holds w → length (new_table w) ≤ 65536 → Worded (result ps climbs w)
unfolding result
result_worded ps climbs w k s h n =
    let notes = notes_words w n h.notes k.notes in
    let changed = changed_words w n h.changed k.changed in
    record {
      kinds = all_words (map label (flat_map preorder (new_tree w))) (new_labels w k.trees);
      measures = all_words (map measure (flat_map preorder (new_tree w))) (new_measures w s);
      changed = all_words (map (λ m. m.0) (changed_elements (new_table w) w)) (All-over (λ m. m.0) (λ m. Word m.0 × Word m.1) Word (λ m x. x.0) (changed_elements (new_table w) w) changed);
      rules = all_words (map (λ m. m.1) (changed_elements (new_table w) w)) (All-over (λ m. m.1) (λ m. Word m.0 × Word m.1) Word (λ m x. x.1) (changed_elements (new_table w) w) changed);
      numbers = all_words (map (λ m. m.0.number) (note_elements (new_table w) w)) (All-over (λ m. m.0.number) (λ m. Word m.0.number × Word m.1) Word (λ m x. x.0) (note_elements (new_table w) w) notes);
      noted = all_words (map (λ m. m.1) (note_elements (new_table w) w)) (All-over (λ m. m.1) (λ m. Word m.0.number × Word m.1) Word (λ m x. x.1) (note_elements (new_table w) w) notes);
    }

table_long : (w : World) → Small w → length (new_table w) ≤ 65536
unfolding new_table new_tree
table_long w s =
    let l = list (children w.trees) in
    let parts : flat_map preorder l ≡ flat_map preorder (take 1 l) ++ flat_map preorder (drop 1 l) = ap (flat_map preorder) (sym (take-append-drop 1 l)) ∙ flat_map_append preorder (take 1 l) (drop 1 l) in
    omega (
      arith,
      table_length (take 1 l) 0 0,
      preorder_list_length (take 1 l),
      preorder_list_length l,
      ap elements_of (forest_list (children w.trees)),
      ap length parts,
      length-append (flat_map preorder (take 1 l)) (flat_map preorder (drop 1 l)),
      s.elements,
    )

-- Every number of the answer of a batch of bytes is a word.
pub edit_worded : (h : Choices) (bytes : List ℕ) (r : Result) → Bytes bytes → edit h bytes ≡ gives r → Worded r
unfolding edit
edit_worded h bytes r g e =
    given (accepted bytes) _ e λ a x e.
    given (plan h a) _ e λ p y e.
    given (ran a p) _ e λ w z e.
    let (ts, ns) = accepted_kept bytes a g x in
    let k = ran_known h bytes a p w x y z in
    let ruled = All-map (λ q s. below_word q.rule (omega arith)) (performed a p) (performed_ruled h bytes a p (accepts bytes a x) y) in
    rw (← gives_inj e) (result_worded p.changes p.climbs w (ran_kept a p w ts (plan_kept h a p ns y) ruled z) k.small k.holds (table_long w k.small))
