-- The settled notes in words: the definition's first notes, by their rows.
-- Assumes nothing.
use mathlib.Core.List.{List, [], ◌∷◌, ◌++◌, map, zip, zip_with}
use Rattle.std.proofs.Math.Option.{Option}
use Rattle.std.specs.Prelude.{◌≡◌, refl, ℕ, zero, suc, ◌+◌, ◌*◌, ◌<◌, length, drop}
use Rattle.std.proofs.Common.{sym, ap, ◌∙◌, arith, take_all}
use Rattle.std.proofs.Math.Seq.{paste}
use Rattle.orders.specs.Lists.{All}
use Rattle.orders.specs.Tree.{Tree, node, forest}
use Rattle.definition.specs.Basics.{gives}
use Rattle.definition.specs.Elements.{Table, table}
use Rattle.definition.specs.Rewriting.{settle}
use Rattle.definition.specs.Words.{words}
use Rattle.definition_laws.specs.Answers.{gives_inj, both_given}
use Rattle.rows_model.proofs.Numbers.{element_row}
use Rattle.run_model.specs.Store.{HeldNote, held_note}
use Rattle.run_annotations.specs.Notes.{note_of as note_read, notes_of}
use Rattle.plan_notes.specs.Notes.{note_of, settled_at, note_words}
use Rattle.plan_model.specs.Noted.{note_held}

-- ── The definition's notes ──────────────────────────────────────────────────────────────────────────────────

pub notes_held : (ts : List (Tree ℕ)) (k : ℕ) (l : List (ℕ × ℕ × ℕ)) → All (λ m. m.0 < length (table 0 0 ts)) l → map (held_note (node k (forest ts))) (map (note_of (table 0 0 ts)) l) ≡ map note_held l
unfolding held_note note_of note_held
notes_held ts k [] h = refl
notes_held ts k (m ∷ l) h = rw (element_row ts k m.0 h.0, notes_held ts k l h.1)

-- ── In words ────────────────────────────────────────────────────────────────────────────────────────────────

notes_read : (l : List (ℕ × ℕ × ℕ)) (rest : List ℕ) (k : ℕ) → length l ≡ k → notes_of k (note_words l ++ rest) ≡ map note_held l
unfolding notes_of note_read note_words note_held
notes_read [] rest zero e = refl
notes_read [] rest (suc k) e = absurd (omega arith)
notes_read (m ∷ l) rest zero e = absurd (omega arith)
notes_read (m ∷ l) rest (suc k) e = ap {B = List HeldNote} (λ r. note_held m ∷ r) (notes_read l rest k (omega arith))

length_note_words : (l : List (ℕ × ℕ × ℕ)) → length (note_words l) ≡ 3 * length l
unfolding note_words
length_note_words [] = refl
length_note_words (m ∷ l) = omega (arith, length_note_words l)

pub notes_pasted : (before : List ℕ) (l : List (ℕ × ℕ × ℕ)) (k : ℕ) → length l ≡ k → notes_of k (paste before 0 (note_words l) (3 * k)) ≡ map note_held l
notes_pasted before l k e = rw (take_all (3 * k) (note_words l) (omega (arith, length_note_words l))) (notes_read l (drop (0 + 3 * k) before) k e)

-- ── How many ────────────────────────────────────────────────────────────────────────────────────────────────

pub length_settled : (T : Table) (mapped : ℕ → Option ℕ) (i : ℕ) (ns : List (ℕ × ℕ)) (l : List (ℕ × ℕ × ℕ)) → settled_at T mapped i ns ≡ gives l → length l ≡ length ns
unfolding settled_at
length_settled T mapped i [] l e = ap length (sym (gives_inj e))
length_settled T mapped i (n ∷ ns) l e =
    let (x, a, e) = both_given (settle T mapped (length T) n.0) _ e in
    let (r, b, e) = both_given (settled_at T mapped (suc i) ns) _ e in
    ap length (sym (gives_inj e)) ∙ ap suc (length_settled T mapped (suc i) ns r b)

pub length_pairs : (k : ℕ) (a b : List ℕ) → length (zip (words k a) (words k b)) ≡ k
unfolding words zip zip_with
length_pairs zero a b = refl
length_pairs (suc k) a b = ap suc (length_pairs k (drop 4 a) (drop 4 b))
