-- NOTE 14: calls one after another, refused ones among them. The memory passes its own checks after each; each bookmark moves as all splices and root replacements of the whole
-- series in a row do; survivors keep their order; a dropped number never comes back.
-- Assumes nothing.
use Rattle.std.specs.Prelude.{◌≡◌, refl, Bool, true, false, not, ◌||◌, ℕ, zero, suc, ◌+◌, ◌*◌, ◌≤◌, ltb, eqb, length, get_or, take, drop}
use Rattle.std.proofs.Common.{sym, ap, ◌∙◌, subst, arith, length-append, length-drop, le-ltb, ltb-false, eqb-true}
use mathlib.Core.List.{List, [], ◌∷◌, ◌++◌, map, tail}
use Rattle.std.proofs.Math.Option.{some}
use Rattle.std.proofs.lemmas.List.{length-map}
use Rattle.orders.specs.Lists.{any, All, pick}
use Rattle.orders.specs.ListLaws.{bool_absurd, either_false, some_inj, map_some, bind_some, none_passes, All-pick}
use Rattle.orders.specs.Tree.{Tree, Path, Run, adjust}
use Rattle.definition.specs.Basics.{Answer, refused, gives, ◌>>=◌, refuse, among}
use Rattle.definition.specs.Choices.{chosen}
use Rattle.definition.specs.Words.{word}
use Rattle.definition.specs.Finishing.{Result, fitting}
use Rattle.definition.specs.Answers.{too_short, with_work, with_choices, edit}
use Rattle.definition.specs.Writing.{differ}
use Rattle.definition_laws.specs.Answers.{gives_inj, given, not_wrong}
use Rattle.definition_laws.specs.Moves.{adjust_keeps}
use Rattle.definition_account.specs.Moved.{in_a_row}
use Rattle.result_laws.proofs.Worded.{edit_worded}
use Rattle.words.specs.Bytes.{Words, Bytes}
use Rattle.check_laws.specs.Check.{Flat}
use Rattle.series_laws.specs.Memory.{Bookmark, Memory, most_at_start, most_later, too_big, held}
use Rattle.series_laws.specs.Follow.{moved, kept, survivors, tree_of, Step, step}
use Rattle.series_laws.specs.Lent.{Lent, slot_words, longest_path, tree_in, slots, bookmark_in, beyond_slot, slots_in, memory_in, tree_bytes, cut_off, lent, tree_out, over, slots_out, left_in, fits, followed, Call, answers, leaves, series, did, all_moves}
use Rattle.series_laws.proofs.Moves.{survivors_append}
use Rattle.series_laws.proofs.Passing.{Held, held_passed, passed_held, step_done, moves_in0, left_held, survivors_among, survivors_length}
use Rattle.series_laws.proofs.ReadBack.{tree_length, elements_read, text_read, tree_read, slots_read, slots_length}

-- ── What the slices pass ────────────────────────────────────────────────────────────────────────────────────

pub record Passed (most : ℕ) (l : Lent) (m : Memory) : Type 0 where
  pub sizes : ltb (length l.tree) 8 ≡ false
  pub small : (ltb most (word l.tree) || ltb 16384 (word (drop 4 l.tree))) ≡ false
  pub whole : cut_off l ≡ false
  pub trees : List (Tree ℕ)
  pub held : held most m ≡ gives trees
  pub slots : any beyond_slot (slots_in l.bookmarks) ≡ false
  pub is : memory_in l ≡ m

pub lent_passed : (most : ℕ) (l : Lent) (m : Memory) → lent most l ≡ gives m → Passed most l m
unfolding lent
lent_passed most l m e =
    given (refuse 4 (ltb (length l.tree) 8)) _ e λ u x e.
    given (refuse 3 (ltb most (word l.tree) || ltb 16384 (word (drop 4 l.tree)))) _ e λ u y e.
    given (refuse 4 (cut_off l)) _ e λ u z e.
    given (held most (memory_in l)) _ e λ ts h e.
    given (refuse 21 (any beyond_slot (slots_in l.bookmarks))) _ e λ u s e.
    record { sizes = not_wrong 4 _ x; small = not_wrong 3 _ y; whole = not_wrong 4 _ z; trees = ts; held = ap (held most) (sym (gives_inj e)) ∙ h; slots = not_wrong 21 _ s; is = gives_inj e }

pub passed_lent : (most : ℕ) (l : Lent) (m : Memory) → Passed most l m → lent most l ≡ gives m
unfolding lent refuse ◌>>=◌
passed_lent most l m p = rw (p.sizes, p.small, p.whole, p.is, p.held, p.slots)

-- what `start` lets pass a later call lets pass
pub start_later : (l : Lent) (m : Memory) → lent most_at_start l ≡ gives m → lent most_later l ≡ gives m
unfolding too_big
start_later l m e =
    let p = lent_passed most_at_start l m e in
    let h = held_passed most_at_start m p.trees p.held in
    let (a, b) = either_false (ltb most_at_start (word l.tree)) (ltb 16384 (word (drop 4 l.tree))) p.small in
    let (c, d) = either_false (ltb most_at_start (length m.tree.kinds) || ltb most_at_start (length m.tree.measures)) (ltb 16384 (length m.tree.text)) h.small in
    let (f, g) = either_false (ltb most_at_start (length m.tree.kinds)) (ltb most_at_start (length m.tree.measures)) c in
    passed_lent most_later l m (record {
      sizes = p.sizes;
      small = rw (le-ltb most_later (word l.tree) (omega (arith, ltb-false most_at_start (word l.tree) a)), b);
      whole = p.whole;
      trees = p.trees;
      held = passed_held most_later m p.trees (record {
        small = rw (le-ltb most_later (length m.tree.kinds) (omega (arith, ltb-false most_at_start (length m.tree.kinds) f)), le-ltb most_later (length m.tree.measures) (omega (arith, ltb-false most_at_start (length m.tree.measures) g)), d);
        step = h.step;
        spells = h.spells;
        numbers = h.numbers;
        found = h.found;
      });
      slots = p.slots;
      is = p.is;
    })

-- a call that is not refused
pub record Answered (c : Call) (l : Lent) (s : Step) : Type 0 where
  pub memory : Memory
  pub passes : lent most_later l ≡ gives memory
  pub steps : step c.choices memory c.batch ≡ gives s
  pub room : ltb (length l.tree) (tree_bytes (length s.memory.tree.kinds) (length s.memory.tree.text)) ≡ false

pub answered : (c : Call) (l : Lent) (s : Step) → answers c l ≡ gives s → Answered c l s
unfolding answers followed with_choices with_work fits
answered c l s e =
    given (chosen c.choices) _ e λ u x e.
    given (refuse 1 (too_short c.work)) _ e λ u x e.
    given (lent most_later l) _ e λ m x e.
    given (step c.choices m c.batch) _ e λ t y e.
    given (fitting c.room t.result) _ e λ u z e.
    given (refuse 13 (ltb (length l.tree) (tree_bytes (length t.memory.tree.kinds) (length t.memory.tree.text)))) _ e λ u v e.
    let same : t ≡ s = gives_inj e in
    record { memory = m; passes = x; steps = y ∙ ap {B = Answer Step} gives same; room = subst (λ (t : Step). ltb (length l.tree) (tree_bytes (length t.memory.tree.kinds) (length t.memory.tree.text)) ≡ false) same (not_wrong 13 _ v) }

-- ── One call ────────────────────────────────────────────────────────────────────────────────────────────────

-- a path that moves stays as long as it is
row_length : (ms : List (Run × ℕ)) (p q : Path) → in_a_row ms p ≡ some q → length q ≡ length p
unfolding in_a_row
row_length [] p q e = ap length (sym (some_inj e))
row_length (m ∷ ms) p q e =
    let (r, a, b) = bind_some (adjust m.0.parent m.0.from m.0.to m.1 p) (λ q. in_a_row ms q) e in
    row_length ms r q b ∙ (adjust_keeps m.0.parent m.0.from m.0.to m.1).size p r a

pub moved_length : (ms : List (Run × ℕ)) (p r : Path) → moved ms p ≡ some r → length r ≡ length p
unfolding moved
moved_length ms p r e =
    let (q, a, b) = map_some tail (in_a_row ms (0 ∷ p)) e in
    let l = row_length ms (0 ∷ p) q a in
    go q l b
  where
    go : (q : Path) → length q ≡ suc (length p) → tail q ≡ r → length r ≡ length p
    go [] l b = absurd (omega arith)
    go (i ∷ q) l b = omega (arith, ap length b)

-- no bookmark's path is longer than its slot has room for
slots_short : (k : ℕ) (l : List ℕ) → any beyond_slot (slots k l) ≡ false → All (λ b. length b.1 ≤ longest_path) (map bookmark_in (slots k l))
unfolding beyond_slot bookmark_in
slots_short k l e = go (slots k l) (none_passes beyond_slot (slots k l) e)
  where
    most : (n : ℕ) (l : List ℕ) → length (take n l) ≤ n
    most zero l = omega arith
    most (suc n) [] = omega arith
    most (suc n) (x ∷ l) = omega (arith, most n l)

    go : (ss : List (List ℕ)) → All (λ s. beyond_slot s ≡ false) ss → All (λ b. length b.1 ≤ longest_path) (map bookmark_in ss)
    go [] h = tt
    go (s ∷ ss) h = (omega (arith, ltb-false longest_path (get_or s 1 0) h.0, most (get_or s 1 0) (drop 2 s)), go ss h.1)

survivors_short : (ms : List (Run × ℕ)) (bs : List Bookmark) → All (λ b. length b.1 ≤ longest_path) bs → All (λ b. length b.1 ≤ longest_path) (survivors ms bs)
unfolding survivors kept
survivors_short ms bs h = All-pick (kept ms) (λ b. length b.1 ≤ longest_path) (λ b. length b.1 ≤ longest_path) (λ b c e k.
    let (r, x, y) = map_some (λ (p : Path). (b.0, p)) (moved ms b.1) e in
    omega (arith, moved_length ms b.1 r x, ap (λ (c : Bookmark). length c.1) y)) bs h

slots_many : (k : ℕ) (l : List ℕ) → length (slots k l) ≡ k
unfolding slots
slots_many zero l = refl
slots_many (suc k) l = ap suc (slots_many k (drop slot_words l))

-- the bookmarks that a memory has are as many as its slots
bookmarks_many : (l : Lent) (m : Memory) → memory_in l ≡ m → length m.bookmarks ≡ get_or l.bookmarks 0 0
unfolding memory_in slots_in
bookmarks_many l m e = ap (λ (m : Memory). length m.bookmarks) (sym e) ∙ (length-map (slots (get_or l.bookmarks 0 0) (drop 1 l.bookmarks)) bookmark_in ∙ slots_many (get_or l.bookmarks 0 0) (drop 1 l.bookmarks))

bookmarks_short : (l : Lent) (m : Memory) → memory_in l ≡ m → any beyond_slot (slots_in l.bookmarks) ≡ false → All (λ b. length b.1 ≤ longest_path) m.bookmarks
unfolding memory_in slots_in
bookmarks_short l m e h = subst (λ (m : Memory). All (λ b. length b.1 ≤ longest_path) m.bookmarks) e (slots_short (get_or l.bookmarks 0 0) (drop 1 l.bookmarks) h)

-- a memory that passes its own lines, written to slices with room for it, is read from them
pub written_lent : (l : Lent) (n : Memory) (ts : List (Tree ℕ)) → Held most_later n ts → Words n.tree.kinds → Words n.tree.measures → All (λ b. length b.1 ≤ longest_path) n.bookmarks
    → tree_bytes (length n.tree.kinds) (length n.tree.text) ≤ length l.tree → 1 + slot_words * length n.bookmarks ≤ length l.bookmarks → lent most_later (left_in l n) ≡ gives n
unfolding left_in memory_in slots_in cut_off over tree_bytes too_big differ
written_lent l n ts h k m b room slot =
    let t = n.tree in
    let rest = drop (length (tree_out t)) l.tree in
    let (x, text) = either_false (ltb most_later (length t.kinds) || ltb most_later (length t.measures)) (ltb 16384 (length t.text)) h.small in
    let (kinds, measures) = either_false (ltb most_later (length t.kinds)) (ltb most_later (length t.measures)) x in
    let few : length t.kinds ≤ 4096 = ltb-false most_later (length t.kinds) kinds in
    let short : length t.text ≤ 16384 = ltb-false 16384 (length t.text) text in
    let step : length t.measures ≡ length t.kinds = sym (eqb-true (length t.kinds) (length t.measures) (right (eqb (length t.kinds) (length t.measures)) h.step)) in
    let e = elements_read t rest (omega arith) (omega arith) in
    let f = text_read t rest (omega arith) (omega arith) in
    let tree : tree_in (word (tree_out t ++ rest)) (word (drop 4 (tree_out t ++ rest))) (tree_out t ++ rest) ≡ t = rw (e, f) (tree_read t rest (omega arith) (omega arith) step k m) in
    let long : length (tree_out t ++ rest) ≡ length l.tree = omega (arith, length-append (tree_out t) rest, length-drop (length (tree_out t)) l.tree, tree_length t rest step) in
    let many : slot_words * length n.bookmarks ≤ length (drop 1 l.bookmarks) = omega (arith, length-drop 1 l.bookmarks) in
    let (read, within) = slots_read n.bookmarks (drop 1 l.bookmarks) b many in
    passed_lent most_later (left_in l n) n (record {
      sizes = le-ltb (length (tree_out t ++ rest)) 8 (omega arith);
      small = rw (e, f, le-ltb most_later (length t.kinds) few, le-ltb 16384 (length t.text) short);
      whole = rw (e, f, le-ltb (length (tree_out t ++ rest)) (tree_bytes (length t.kinds) (length t.text)) (omega arith), le-ltb (suc (length (slots_out n.bookmarks (drop 1 l.bookmarks)))) (1 + slot_words * length n.bookmarks) (omega (arith, slots_length n.bookmarks (drop 1 l.bookmarks) b many)));
      trees = ts;
      held = passed_held most_later n ts h;
      slots = within;
      is = λ i. record { tree = tree i; bookmarks = read i };
    })
  where
    right : (b : Bool) → not b ≡ false → b ≡ true
    right true e = refl
    right false e = bool_absurd refl e

-- AFTER AN ACCEPTED CALL THE LENT MEMORY PASSES ITS OWN CHECKS, and is the memory that the call left
pub left_lent : (c : Call) (l : Lent) (s : Step) → Bytes c.batch → answers c l ≡ gives s → lent most_later (left_in l s.memory) ≡ gives s.memory
unfolding edit ◌>>=◌ tree_of cut_off
left_lent c l s b e =
    let A = answered c l s e in
    let m = A.memory in
    let P = lent_passed most_later l m A.passes in
    let D = step_done c.choices m c.batch s A.steps in
    let edited : edit c.choices c.batch ≡ gives s.result = rw (D.accepts, D.plans, D.runs) (ap {B = Answer Result} gives (sym D.result)) in
    let W = edit_worded c.choices c.batch s.result b edited in
    let (x, y) = either_false (ltb (length l.tree) (tree_bytes (word l.tree) (word (drop 4 l.tree)))) (ltb (length l.bookmarks) (1 + slot_words * get_or l.bookmarks 0 0)) P.whole in
    written_lent l s.memory _ (left_held D most_later P.trees (held_passed most_later m P.trees P.held))
    (subst (λ (t : Flat). Words t.kinds) (sym D.tree) W.kinds) (subst (λ (t : Flat). Words t.measures) (sym D.tree) W.measures)
    (subst (All (λ b. length b.1 ≤ longest_path)) (sym D.bookmarks) (survivors_short s.moves m.bookmarks (bookmarks_short l m P.is P.slots)))
    (ltb-false (length l.tree) (tree_bytes (length s.memory.tree.kinds) (length s.memory.tree.text)) A.room)
    (omega (arith, ltb-false (length l.bookmarks) (1 + slot_words * get_or l.bookmarks 0 0) y, bookmarks_many l m P.is, survivors_length s.moves m.bookmarks, ap length D.bookmarks))

-- ── A series ────────────────────────────────────────────────────────────────────────────────────────────────

survivors_none : (bs : List Bookmark) → survivors [] bs ≡ bs
unfolding survivors kept moved in_a_row pick
survivors_none [] = refl
survivors_none (b ∷ bs) = ap {B = List Bookmark} (λ (l : List Bookmark). b ∷ l) (survivors_none bs)

-- what is left after calls: the slices pass their checks, and the bookmarks moved by all that the calls did
pub record Follows (cs : List Call) (l : Lent) (m : Memory) : Type 0 where
  pub memory : Memory
  pub passes : lent most_later (series cs l) ≡ gives memory
  pub bookmarks : memory.bookmarks ≡ survivors (all_moves cs l) m.bookmarks

-- THE WHOLE SERIES, "whatever its edge rules and choices, moves each as all its splices and root replacements in a row do"; "After each batch a surviving bookmark resolves"
pub series_follows : (cs : List Call) (l : Lent) (m : Memory) → All (λ c. Bytes c.batch) cs → lent most_later l ≡ gives m → Follows cs l m
unfolding series all_moves leaves did
series_follows [] l m b e = record { memory = m; passes = e; bookmarks = sym (survivors_none m.bookmarks) }
series_follows (c ∷ cs) l m b e = go (answers c l) refl (λ l m e. series_follows cs l m b.1 e)
  where
    go : (o : Answer Step) → answers c l ≡ o → ((l : Lent) (m : Memory) → lent most_later l ≡ gives m → Follows cs l m) → Follows (c ∷ cs) l m
    go (refused n) x r =
        let f = r l m e in
        record { memory = f.memory; passes = rw x f.passes; bookmarks = rw x f.bookmarks }
    go (gives s) x r =
        let A = answered c l s x in
        let D = step_done c.choices A.memory c.batch s A.steps in
        let same : A.memory ≡ m = gives_inj (sym A.passes ∙ e) in
        let f = r (left_in l s.memory) s.memory (left_lent c l s b.0 x) in
        record {
          memory = f.memory;
          passes = rw x f.passes;
          bookmarks = rw x (f.bookmarks ∙ (ap (survivors (all_moves cs (left_in l s.memory))) (D.bookmarks ∙ ap (λ (m : Memory). survivors s.moves m.bookmarks) same) ∙ sym (survivors_append s.moves (all_moves cs (left_in l s.memory)) m.bookmarks (moves_in0 D))));
        }

-- calls after calls
pub series_append : (cs ds : List Call) (l : Lent) → series (cs ++ ds) l ≡ series ds (series cs l)
unfolding series
series_append [] ds l = refl
series_append (c ∷ cs) ds l = series_append cs ds (leaves l (answers c l))

-- "a dropped number never comes back": a number that none of the bookmarks has after some calls, none has after more
pub never_back : (cs ds : List Call) (l : Lent) (m n : Memory) (x : ℕ) → All (λ c. Bytes c.batch) ds → lent most_later (series cs l) ≡ gives m → lent most_later (series (cs ++ ds) l) ≡ gives n
    → among (map (λ b. b.0) m.bookmarks) x ≡ false → among (map (λ b. b.0) n.bookmarks) x ≡ false
never_back cs ds l m n x b e f h =
    let k = series_follows ds (series cs l) m b e in
    let same : k.memory ≡ n = gives_inj (sym k.passes ∙ (ap (lent most_later) (sym (series_append cs ds l)) ∙ f)) in
    ap (λ (n : Memory). among (map (λ b. b.0) n.bookmarks) x) (sym same) ∙ (ap (λ (bs : List Bookmark). among (map (λ b. b.0) bs) x) k.bookmarks ∙ survivors_among (all_moves ds (series cs l)) m.bookmarks x h)
