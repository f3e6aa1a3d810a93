-- The memory as two lent slices: how it is read, the calls `start` and `follow` on it, what they leave, and calls one after another; 13 (document 02, Note 14).
-- Assumes nothing.
use Rattle.std.specs.Prelude.{Bool, ◌||◌, List, [], ◌∷◌, ◌++◌, map, ℕ, zero, suc, ◌+◌, ◌*◌, length, get_or, take, drop, ltb}
use Rattle.orders.specs.Tree.{Run}
use Rattle.definition.specs.Basics.{Answer, refused, gives, ◌>>=◌, refuse, any}
use Rattle.definition.specs.Choices.{Choices}
use Rattle.definition.specs.Words.{word, words, written}
use Rattle.definition.specs.Finishing.{fitting}
use Rattle.definition.specs.Answers.{with_work, with_choices}
use Rattle.check_laws.specs.Check.{Flat}
use Rattle.series_laws.specs.Memory.{Bookmark, Memory, most_at_start, most_later, held}
use Rattle.series_laws.specs.Follow.{Step, step}

-- ── The slices ──────────────────────────────────────────────────────────────────────────────────────────────

-- The tree is lent as bytes, laid out as a batch's: two sizes (elements, text bytes), kinds, measures, text. The bookmarks are lent as words: their count, then a slot
-- of 65 words for each: its number, how many child numbers its path has, those (to 63, for no element is deeper than 64). Beyond all that the slices hold anything
pub record Lent : Type 0 where
  pub tree : List ℕ
  pub bookmarks : List ℕ

abbrev pub slot_words : ℕ
slot_words = 65

abbrev pub longest_path : ℕ
longest_path = 63

-- ── How they are read ───────────────────────────────────────────────────────────────────────────────────────

-- the tree that n elements and b bytes of text are
unfoldable pub tree_in : ℕ → ℕ → List ℕ → Flat
tree_in n b t =
    let kinds = drop 8 t in
    let measures = drop (4 * n) kinds in
    let text = drop (4 * n) measures in
    record { kinds = words n kinds; measures = words n measures; text = take b text }

-- k slots, one after another
unfoldable pub slots : ℕ → List ℕ → List (List ℕ)
slots zero l = []
slots (suc k) l = take slot_words l ∷ slots k (drop slot_words l)

-- the bookmark of a slot
unfoldable pub bookmark_in : List ℕ → Bookmark
bookmark_in s = (get_or s 0 0, take (get_or s 1 0) (drop 2 s))

-- a slot that states a path of more child numbers than it has words: no element is so deep
unfoldable pub beyond_slot : List ℕ → Bool
beyond_slot s = ltb longest_path (get_or s 1 0)

-- the slots of lent bookmarks
unfoldable pub slots_in : List ℕ → List (List ℕ)
slots_in b = slots (get_or b 0 0) (drop 1 b)

unfoldable pub memory_in : Lent → Memory
memory_in l = record { tree = tree_in (word l.tree) (word (drop 4 l.tree)) l.tree; bookmarks = map bookmark_in (slots_in l.bookmarks) }

-- how many bytes a tree takes
unfoldable pub tree_bytes : ℕ → ℕ → ℕ
tree_bytes n b = 8 + 8 * n + b

-- 4: a slice is too short for its sizes, or for what they say
unfoldable pub cut_off : Lent → Bool
cut_off l = ltb (length l.tree) (tree_bytes (word l.tree) (word (drop 4 l.tree))) || ltb (length l.bookmarks) (1 + slot_words * get_or l.bookmarks 0 0)

-- WHAT THE SLICES ARE HELD TO, and the memory that they are: 4 where the two sizes are missing, 3, 4, and then what a memory is held to
unfoldable pub lent : ℕ → Lent → Answer Memory
lent most l = do
  _ ← refuse 4 (ltb (length l.tree) 8)
  _ ← refuse 3 (ltb most (word l.tree) || ltb 16384 (word (drop 4 l.tree)))
  _ ← refuse 4 (cut_off l)
  _ ← held most (memory_in l)
  _ ← refuse 21 (any beyond_slot (slots_in l.bookmarks))
  gives (memory_in l)

-- ── How they are written ────────────────────────────────────────────────────────────────────────────────────

-- a tree as bytes
unfoldable pub tree_out : Flat → List ℕ
tree_out t = written (length t.kinds ∷ length t.text ∷ (t.kinds ++ t.measures)) ++ t.text

-- a bookmark as words
unfoldable pub bookmark_out : Bookmark → List ℕ
bookmark_out b = b.0 ∷ length b.1 ∷ b.1

-- in place of what l began with
unfoldable pub over : List ℕ → List ℕ → List ℕ
over new l = new ++ drop (length new) l

-- bookmarks in the slots of l; the rest of a slot is what it was
unfoldable pub slots_out : List Bookmark → List ℕ → List ℕ
slots_out [] l = l
slots_out (b ∷ bs) l = over (bookmark_out b) (take slot_words l) ++ slots_out bs (drop slot_words l)

-- "the lent memory" with another memory in it
unfoldable pub left_in : Lent → Memory → Lent
left_in l m = record { tree = over (tree_out m.tree) l.tree; bookmarks = length m.bookmarks ∷ slots_out m.bookmarks (drop 1 l.bookmarks) }

-- ── The calls ───────────────────────────────────────────────────────────────────────────────────────────────

-- THE FIRST CALL, with work slices of these lengths: "The starting tree is first held to lines 3 and 5, as a batch's single tree, the bookmarks to 20 and 21." It judges
-- and writes nothing
unfoldable pub started : List (ℕ × ℕ) → Lent → Answer Memory
started work l = with_work work (lent most_at_start l)

-- 13: "The result buffer is too short", of `room` bytes, "also if the lent memory cannot hold the new tree", in `space` bytes
unfoldable pub fits : ℕ → ℕ → Step → Answer Step
fits room space s = do
  _ ← fitting room s.result
  _ ← refuse 13 (ltb space (tree_bytes (length s.memory.tree.kinds) (length s.memory.tree.text)))
  gives s

-- A LATER CALL: 17, 1, the memory's own lines "before line 2", then the batch's, 22 among them, then 13
unfoldable pub followed : Choices → List (ℕ × ℕ) → Lent → List ℕ → ℕ → Answer Step
followed h work l bytes room = with_choices h work (do
  m ← lent most_later l
  s ← step h m bytes
  fits room (length l.tree) s)

-- what is lent to a call beside the memory: choices, work slices, a batch, a result buffer
pub record Call : Type 0 where
  pub choices : Choices
  pub work : List (ℕ × ℕ)
  pub batch : List ℕ
  pub room : ℕ

unfoldable pub answers : Call → Lent → Answer Step
answers c l = followed c.choices c.work l c.batch c.room

-- what an answer leaves of the slices: "beyond them what was held"; refused, all that they held
unfoldable pub leaves : Lent → Answer Step → Lent
leaves l (refused n) = l
leaves l (gives s) = left_in l s.memory

-- ── A series ────────────────────────────────────────────────────────────────────────────────────────────────

-- "while only later calls write that memory": calls one after another
unfoldable pub series : List Call → Lent → Lent
series [] l = l
series (c ∷ cs) l = series cs (leaves l (answers c l))

-- what an answer did to the paths of tree 0; refused, nothing
unfoldable pub did : Answer Step → List (Run × ℕ)
did (refused n) = []
did (gives s) = s.moves

-- "all its splices and root replacements in a row": those of the whole series
unfoldable pub all_moves : List Call → Lent → List (Run × ℕ)
all_moves [] l = []
all_moves (c ∷ cs) l = did (answers c l) ++ all_moves cs (leaves l (answers c l))
