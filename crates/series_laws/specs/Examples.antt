-- Series that are written out, by computation: what moves a bookmark, what drops it, each refusal and their order, and calls one after another.
-- Assumes nothing.
use Rattle.std.specs.Prelude.{◌≡◌, refl, List, [], ◌∷◌, ◌++◌, map, ℕ, length, replicate, take, drop}
use Rattle.orders.specs.Tree.{Tree, Path}
use Rattle.definition.specs.Basics.{Answer, refused, gives, ◌>>=◌}
use Rattle.definition.specs.Choices.{by_default, given}
use Rattle.definition.specs.Refusals.{Call}
use Rattle.definition.specs.Computing.{computed}
use Rattle.definition.specs.Examples.{in_lists, in_bytes, node_of, token_of, call}
use Rattle.definition_account.specs.Moved.{in0, move_at, moves_of, in_a_row}
use Rattle.check_laws.specs.Check.{alone, no_repeat, same_bytes}
use Rattle.check_laws.specs.Claimed.{old_tree, flat_of}
use Rattle.series_laws.specs.Memory
use Rattle.series_laws.specs.Memory.{Bookmark, Memory}
use Rattle.series_laws.specs.Follow
use Rattle.series_laws.specs.Follow.{Step}
use Rattle.series_laws.specs.Lent
use Rattle.series_laws.specs.Lent.{Lent, tree_out, left_in, lent, started, answers, series}

-- ── What is computed ────────────────────────────────────────────────────────────────────────────────────────

-- root(P(a, z), b), z a node without children, beside trees W(c) and V(d): P is 1, a 2, z 3, b 4; W is 5, c 6; V 7, d 8
abbrev P : Tree ℕ
P = node_of 1 (node_of 2 (token_of 3 "a" ∷ node_of 2 [] ∷ []) ∷ token_of 3 "b" ∷ [])

abbrev on : Tree ℕ → List Call → List ℕ
on t calls = in_bytes (record { trees = t ∷ node_of 5 (token_of 3 "c" ∷ []) ∷ node_of 5 (token_of 3 "d" ∷ []) ∷ []; calls = calls; mappings = []; notes = [] })

-- slices with room for a tree of this many bytes, which hold a tree and bookmarks
unfoldable pub holding : ℕ → Tree ℕ → List Bookmark → Lent
holding room t bs = left_in (record { tree = replicate room 1; bookmarks = replicate 400 1 }) (record { tree = flat_of (t ∷ []); bookmarks = bs })

-- each element of P but c and d has its bookmark: the root 7, P 3, a 9, z 4, b 5
abbrev all : List Bookmark
all = (7, []) ∷ (3, 0 ∷ []) ∷ (9, 0 ∷ 0 ∷ []) ∷ (4, 0 ∷ 1 ∷ []) ∷ (5, 1 ∷ []) ∷ []

-- a call by default
abbrev by : List ℕ → Lent.Call
by bytes = record { choices = by_default; work = []; batch = bytes; room = 1000 }

-- what is done to the paths, and the bookmarks that are left
unfoldable pub shown : Answer Step → Answer (List (Path × ℕ × ℕ × ℕ) × List Bookmark)
shown o = o >>= λ s. gives (map (λ m. (m.0.parent, m.0.from, m.0.to, m.1)) s.moves, s.memory.bookmarks)

-- the bookmarks that slices hold
unfoldable pub read : Lent → Answer (List Bookmark)
read l = lent 4096 l >>= λ m. gives m.bookmarks

-- ── One batch ───────────────────────────────────────────────────────────────────────────────────────────────

-- THE FIXED CASE: the run a..z goes, b gives way to d, c comes after a. c comes first, so at that moment the run is 0..3, and not 0..2 as its old places say
pub fixed_case : shown (answers (by (on P (call 5 2 (3 ∷ []) ∷ call 2 4 (8 ∷ []) ∷ call 1 2 (6 ∷ []) ∷ []))) (holding 200 P all))
    ≡ gives ((0 ∷ 0 ∷ [], 1, 1, 1) ∷ (0 ∷ [], 1, 2, 1) ∷ (0 ∷ 0 ∷ [], 0, 3, 0) ∷ [], (7, []) ∷ (3, 0 ∷ []) ∷ [])
unfolding
    computed in_lists in_bytes holding shown read
    in0 move_at moves_of in_a_row alone no_repeat same_bytes old_tree flat_of
    Memory.too_big Memory.wrong_numbers Memory.astray Memory.held Memory.same_tree
    Follow.moves Follow.moved Follow.kept Follow.survivors Follow.tree_of Follow.step
    Lent.tree_in Lent.slots Lent.bookmark_in Lent.beyond_slot Lent.slots_in Lent.memory_in Lent.tree_bytes Lent.cut_off Lent.lent Lent.tree_out Lent.bookmark_out Lent.over Lent.slots_out Lent.left_in Lent.started Lent.fits Lent.followed Lent.answers Lent.leaves Lent.series Lent.did Lent.all_moves
fixed_case = refl

-- c after a: z moves, at the run's end; P deleted: b moves up; the root by W, or by itself: all are dropped; a deleted: a is dropped, z moves
pub moved_cases : map (λ cs. shown (answers (by (on P cs)) (holding 200 P all))) ((call 1 2 (6 ∷ []) ∷ []) ∷ (call 3 1 [] ∷ []) ∷ (call 2 0 (5 ∷ []) ∷ []) ∷ (call 2 0 (0 ∷ []) ∷ []) ∷ (call 3 2 [] ∷ []) ∷ [])
    ≡ gives ((0 ∷ 0 ∷ [], 1, 1, 1) ∷ [], (7, []) ∷ (3, 0 ∷ []) ∷ (9, 0 ∷ 0 ∷ []) ∷ (4, 0 ∷ 2 ∷ []) ∷ (5, 1 ∷ []) ∷ [])
    ∷ gives ((0 ∷ [], 0, 1, 0) ∷ [], (7, []) ∷ (5, 0 ∷ []) ∷ [])
    ∷ gives (([], 0, 1, 1) ∷ [], [])
    ∷ gives (([], 0, 1, 1) ∷ [], [])
    ∷ gives ((0 ∷ 0 ∷ [], 0, 1, 0) ∷ [], (7, []) ∷ (3, 0 ∷ []) ∷ (4, 0 ∷ 0 ∷ []) ∷ (5, 1 ∷ []) ∷ [])
    ∷ []
unfolding
    computed in_lists in_bytes holding shown read
    in0 move_at moves_of in_a_row alone no_repeat same_bytes old_tree flat_of
    Memory.too_big Memory.wrong_numbers Memory.astray Memory.held Memory.same_tree
    Follow.moves Follow.moved Follow.kept Follow.survivors Follow.tree_of Follow.step
    Lent.tree_in Lent.slots Lent.bookmark_in Lent.beyond_slot Lent.slots_in Lent.memory_in Lent.tree_bytes Lent.cut_off Lent.lent Lent.tree_out Lent.bookmark_out Lent.over Lent.slots_out Lent.left_in Lent.started Lent.fits Lent.followed Lent.answers Lent.leaves Lent.series Lent.did Lent.all_moves
moved_cases = refl

-- P moved behind b by a copy: its bookmarks do not follow the copy
pub copy_not_followed : shown (answers (by (on P (call 1 4 (1 ∷ []) ∷ call 3 1 [] ∷ []))) (holding 200 P all)) ≡ gives ((0 ∷ [], 2, 2, 1) ∷ (0 ∷ [], 0, 1, 0) ∷ [], (7, []) ∷ (5, 0 ∷ []) ∷ [])
unfolding
    computed in_lists in_bytes holding shown read
    in0 move_at moves_of in_a_row alone no_repeat same_bytes old_tree flat_of
    Memory.too_big Memory.wrong_numbers Memory.astray Memory.held Memory.same_tree
    Follow.moves Follow.moved Follow.kept Follow.survivors Follow.tree_of Follow.step
    Lent.tree_in Lent.slots Lent.bookmark_in Lent.beyond_slot Lent.slots_in Lent.memory_in Lent.tree_bytes Lent.cut_off Lent.lent Lent.tree_out Lent.bookmark_out Lent.over Lent.slots_out Lent.left_in Lent.started Lent.fits Lent.followed Lent.answers Lent.leaves Lent.series Lent.did Lent.all_moves
copy_not_followed = refl

-- ── Refusals ────────────────────────────────────────────────────────────────────────────────────────────────

-- the same tree but for a letter
abbrev Q : Tree ℕ
Q = node_of 1 (node_of 2 (token_of 3 "x" ∷ node_of 2 [] ∷ []) ∷ token_of 3 "b" ∷ [])

-- slices whose tree is other bytes, or whose bookmarks are other words
abbrev with_tree : List ℕ → Lent
with_tree t = record { tree = t; bookmarks = (holding 200 P all).bookmarks }

abbrev with_words : List ℕ → Lent
with_words b = record { tree = (holding 200 P all).tree; bookmarks = b }

-- a call whose batch is not long enough for line 2, and one on P that does nothing
abbrev short : Lent.Call
short = by []

abbrev nothing : Lent.Call
nothing = by (on P [])

-- "17, checked before line 1"; 1; then the memory's own lines "before line 2": no two sizes; 5,000 elements; 16,385 bytes of text; a slice that ends too early, of either kind; two roots;
-- a number given twice; a path that finds no element; a path longer than a slot. Then 2, 7, 22 by text alone, 8
pub refusals : map (λ (q : Lent.Call × Lent). shown (answers q.0 q.1)) (
    (record { choices = given ((50 ∷ []) ∷ []); work = (0, 1) ∷ []; batch = []; room = 0 }, with_tree [])
    ∷ (record { choices = by_default; work = (0, 1) ∷ []; batch = []; room = 0 }, with_tree [])
    ∷ (short, with_tree (0 ∷ 0 ∷ 255 ∷ 255 ∷ 0 ∷ 0 ∷ 0 ∷ []))
    ∷ (short, with_tree (136 ∷ 19 ∷ 0 ∷ 0 ∷ 0 ∷ 0 ∷ 0 ∷ 0 ∷ []))
    ∷ (short, with_tree (1 ∷ 0 ∷ 0 ∷ 0 ∷ 1 ∷ 64 ∷ 0 ∷ 0 ∷ []))
    ∷ (short, with_tree (take 49 (holding 200 P all).tree))
    ∷ (short, with_words [])
    ∷ (short, with_words (1 ∷ replicate 64 0))
    ∷ (short, with_tree (2 ∷ 0 ∷ 0 ∷ 0 ∷ 0 ∷ 0 ∷ 0 ∷ 0 ∷ 1 ∷ 0 ∷ 0 ∷ 128 ∷ 1 ∷ 0 ∷ 0 ∷ 128 ∷ replicate 8 0))
    ∷ (short, holding 200 P ((4, 0 ∷ []) ∷ (4, 1 ∷ []) ∷ (5, 9 ∷ []) ∷ []))
    ∷ (short, holding 200 P ((4, 0 ∷ []) ∷ (5, 2 ∷ []) ∷ []))
    ∷ (short, with_words (1 ∷ 4 ∷ 64 ∷ replicate 63 0))
    ∷ (short, holding 200 P all)
    ∷ (by (in_bytes (record { trees = Q ∷ []; calls = []; mappings = (9, 9) ∷ []; notes = [] })), holding 200 P all)
    ∷ (by (on Q (call 2 0 (5 ∷ []) ∷ call 2 1 (8 ∷ []) ∷ [])), holding 200 P all)
    ∷ (by (on P (call 2 0 (5 ∷ []) ∷ call 2 1 (8 ∷ []) ∷ [])), holding 200 P all)
    ∷ [])
    ≡ map refused (17 ∷ 1 ∷ 4 ∷ 3 ∷ 3 ∷ 4 ∷ 4 ∷ 4 ∷ 5 ∷ 20 ∷ 21 ∷ 21 ∷ 2 ∷ 7 ∷ 22 ∷ 8 ∷ [])
unfolding
    computed in_lists in_bytes holding shown read
    in0 move_at moves_of in_a_row alone no_repeat same_bytes old_tree flat_of
    Memory.too_big Memory.wrong_numbers Memory.astray Memory.held Memory.same_tree
    Follow.moves Follow.moved Follow.kept Follow.survivors Follow.tree_of Follow.step
    Lent.tree_in Lent.slots Lent.bookmark_in Lent.beyond_slot Lent.slots_in Lent.memory_in Lent.tree_bytes Lent.cut_off Lent.lent Lent.tree_out Lent.bookmark_out Lent.over Lent.slots_out Lent.left_in Lent.started Lent.fits Lent.followed Lent.answers Lent.leaves Lent.series Lent.did Lent.all_moves
refusals = refl

-- 13: the result buffer is a byte too short (its 24 bytes of sizes, 5 elements, 2 bytes of text); the memory is a byte too short for c; the same tree just fits
pub short_of_room : map shown (answers (record { choices = by_default; work = []; batch = on P []; room = 65 }) (holding 50 P []) ∷ answers (by (on P (call 1 2 (6 ∷ []) ∷ []))) (holding 58 P []) ∷ answers nothing (holding 50 P []) ∷ [])
    ≡ refused 13 ∷ refused 13 ∷ gives ([], []) ∷ []
unfolding
    computed in_lists in_bytes holding shown read
    in0 move_at moves_of in_a_row alone no_repeat same_bytes old_tree flat_of
    Memory.too_big Memory.wrong_numbers Memory.astray Memory.held Memory.same_tree
    Follow.moves Follow.moved Follow.kept Follow.survivors Follow.tree_of Follow.step
    Lent.tree_in Lent.slots Lent.bookmark_in Lent.beyond_slot Lent.slots_in Lent.memory_in Lent.tree_bytes Lent.cut_off Lent.lent Lent.tree_out Lent.bookmark_out Lent.over Lent.slots_out Lent.left_in Lent.started Lent.fits Lent.followed Lent.answers Lent.leaves Lent.series Lent.did Lent.all_moves
short_of_room = refl

-- `start` holds to the same, after 1
pub starts : map (λ (q : List (ℕ × ℕ) × Lent). started q.0 q.1 >>= λ m. gives (length m.bookmarks)) (([], holding 50 P all) ∷ ((0, 1) ∷ [], with_tree []) ∷ ([], with_tree (1 ∷ 8 ∷ 0 ∷ 0 ∷ 0 ∷ 0 ∷ 0 ∷ 0 ∷ [])) ∷ []) ≡ gives 5 ∷ refused 1 ∷ refused 3 ∷ []
unfolding
    computed in_lists in_bytes holding shown read
    in0 move_at moves_of in_a_row alone no_repeat same_bytes old_tree flat_of
    Memory.too_big Memory.wrong_numbers Memory.astray Memory.held Memory.same_tree
    Follow.moves Follow.moved Follow.kept Follow.survivors Follow.tree_of Follow.step
    Lent.tree_in Lent.slots Lent.bookmark_in Lent.beyond_slot Lent.slots_in Lent.memory_in Lent.tree_bytes Lent.cut_off Lent.lent Lent.tree_out Lent.bookmark_out Lent.over Lent.slots_out Lent.left_in Lent.started Lent.fits Lent.followed Lent.answers Lent.leaves Lent.series Lent.did Lent.all_moves
starts = refl

-- ── A series ────────────────────────────────────────────────────────────────────────────────────────────────

-- P with c after a
abbrev P+c : Tree ℕ
P+c = node_of 1 (node_of 2 (token_of 3 "a" ∷ token_of 3 "c" ∷ node_of 2 [] ∷ []) ∷ token_of 3 "b" ∷ [])

-- c after a; the same again, which is 22; a deleted in what was left (there W is 6, c 7, V 8, d 9); the root by W
abbrev calls : List Lent.Call
calls = by (on P (call 1 2 (6 ∷ []) ∷ [])) ∷ by (on P (call 1 2 (6 ∷ []) ∷ [])) ∷ by (on P+c (call 3 2 [] ∷ [])) ∷ []

pub a_series : map (λ n. read (series (take n calls) (holding 200 P all))) (1 ∷ 2 ∷ 3 ∷ [])
    ≡ gives ((7, []) ∷ (3, 0 ∷ []) ∷ (9, 0 ∷ 0 ∷ []) ∷ (4, 0 ∷ 2 ∷ []) ∷ (5, 1 ∷ []) ∷ [])
    ∷ gives ((7, []) ∷ (3, 0 ∷ []) ∷ (9, 0 ∷ 0 ∷ []) ∷ (4, 0 ∷ 2 ∷ []) ∷ (5, 1 ∷ []) ∷ [])
    ∷ gives ((7, []) ∷ (3, 0 ∷ []) ∷ (4, 0 ∷ 1 ∷ []) ∷ (5, 1 ∷ []) ∷ [])
    ∷ []
unfolding
    computed in_lists in_bytes holding shown read
    in0 move_at moves_of in_a_row alone no_repeat same_bytes old_tree flat_of
    Memory.too_big Memory.wrong_numbers Memory.astray Memory.held Memory.same_tree
    Follow.moves Follow.moved Follow.kept Follow.survivors Follow.tree_of Follow.step
    Lent.tree_in Lent.slots Lent.bookmark_in Lent.beyond_slot Lent.slots_in Lent.memory_in Lent.tree_bytes Lent.cut_off Lent.lent Lent.tree_out Lent.bookmark_out Lent.over Lent.slots_out Lent.left_in Lent.started Lent.fits Lent.followed Lent.answers Lent.leaves Lent.series Lent.did Lent.all_moves
a_series = refl

-- beyond the new tree and the bookmarks that are left the slices hold what they held: the tail of the tree's bytes and, from the second slot on, all words
pub beyond_held : ◌≡◌ {A = Lent} (series (by (on P (call 2 0 (5 ∷ []) ∷ [])) ∷ []) (holding 200 P all)) (record { tree = tree_out (flat_of (node_of 5 (token_of 3 "c" ∷ []) ∷ [])) ++ drop 25 (holding 200 P all).tree; bookmarks = 0 ∷ drop 1 (holding 200 P all).bookmarks })
unfolding
    computed in_lists in_bytes holding shown read
    in0 move_at moves_of in_a_row alone no_repeat same_bytes old_tree flat_of
    Memory.too_big Memory.wrong_numbers Memory.astray Memory.held Memory.same_tree
    Follow.moves Follow.moved Follow.kept Follow.survivors Follow.tree_of Follow.step
    Lent.tree_in Lent.slots Lent.bookmark_in Lent.beyond_slot Lent.slots_in Lent.memory_in Lent.tree_bytes Lent.cut_off Lent.lent Lent.tree_out Lent.bookmark_out Lent.over Lent.slots_out Lent.left_in Lent.started Lent.fits Lent.followed Lent.answers Lent.leaves Lent.series Lent.did Lent.all_moves
beyond_held = refl
