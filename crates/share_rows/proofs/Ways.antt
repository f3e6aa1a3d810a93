-- Each answer, from what the code knows there.
-- Assumes nothing.
use mathlib.Core.Path.{◌≡◌, refl, ap, ◌∙◌}
use mathlib.Core.List.{List, [], ◌∷◌, map}
use mathlib.Core.Option.{Option, none, some}
use Rattle.std.specs.Prelude.{Option as Answered, Some, None}
use Rattle.std.specs.List.{sum}
use Rattle.std.proofs.lemmas.List.Sums.{sum_by-cons}
use Prim.Native.Nat.{ℕ, zero, suc, ◌+◌, ◌*◌, ◌/◌, ◌%◌, ◌^◌, ◌≤◌, ◌<◌}
use native.Mathlib.Omega.{arith}
use lib.ListN.{length, take, drop, take-append-drop, length-drop}
use lib.Seq.{length-take-le}
use Rattle.orders.specs.Lists.{total}
use Rattle.definition.specs.Basics.{is_some}
use Rattle.rows_model.specs.Row.{Row, skip, bytes, first_rows}
use Rattle.rows_model.proofs.RowLaws.{bytes_append, skip_le}
use Rattle.rows_model.specs.Place.{rows_after, subtree, in_run}
use Rattle.rows_model.proofs.Words.{length_first}
use Rattle.rows_syntax_node.specs.Promises.{Part, Bytes}
use Rattle.run_annotations.specs.Changed.{changed_of}
use Rattle.finish_model.specs.Finished.{first_tree, number_of}
use Rattle.finish_model.specs.Numbered.{told, told_some, told_none}
use Rattle.finish_model.proofs.Numbers.{tree_end}
use Rattle.share_laws.specs.Share.{thousandths}
use Rattle.share_rows.specs.Summed.{in_new, text_at, texts_of, share_of}
use Rattle.share_rows.specs.Promises.{ElementBytes, ChangedText, before, ChangedTexts, Divided, Shares}
use Rattle.share_rows.specs.declared.Thousandths.{Thousandths}

-- ── Thousandths ─────────────────────────────────────────────────────────────────────────────────────────────

pub nothing_of : (part all : ℕ) → all ≡ 0 → (0, 0) ≡ thousandths part all
unfolding thousandths
nothing_of part zero e = refl
nothing_of part (suc n) e = absurd (omega arith)

pub part_of : (part all : ℕ) → (all ≡ 0 → ⊥) → (1000 * part / all, 1000 * part % all) ≡ thousandths part all
unfolding thousandths
part_of part zero h = absurd (h refl)
part_of part (suc n) h = refl

-- ── One element ─────────────────────────────────────────────────────────────────────────────────────────────

bytes_part : (rs : List Row) (n k : ℕ) → bytes (take k (drop n rs)) ≤ bytes rs
bytes_part rs n k =
    omega (
      arith,
      bytes_append (take n rs) (drop n rs),
      ap bytes (take-append-drop n rs),
      bytes_append (take k (drop n rs)) (drop k (drop n rs)),
      ap bytes (take-append-drop k (drop n rs)),
    )

-- an element has no more text than all rows
subtree_few : (rs : List Row) (at : ℕ) → bytes (subtree rs at) ≤ bytes rs
unfolding subtree
subtree_few rs at = bytes_part rs at (skip 1 (drop at rs))

subtree_short : (rs : List Row) (at : ℕ) → length (subtree rs at) ≤ length rs
unfolding subtree
subtree_short rs at = omega (arith, length-take-le (skip 1 (drop at rs)) (drop at rs) (skip_le 1 (drop at rs)), skip_le 1 (drop at rs), length-drop at rs)

module _ {rows : List ℕ} {n row : ℕ} {run : List ℕ} (p : Part rows n row run) (h : 3 * n ≤ length rows) (k : n < 2 ^ 16) where
  pub part_short : length run < 3 * 2 ^ 16
  part_short = omega (arith, p.long [], subtree_short (first_rows [] n rows) row, length_first [] n rows h)

  pub element_told : {r : ℕ} → Bytes run r → bytes (first_rows [] n rows) < 2 ^ 32 → ElementBytes rows n row r
  element_told b s = record {
    told = λ text. b.sum text ∙ ap bytes (p.told text);
    small = omega (arith, b.sum [] ∙ ap bytes (p.told []), subtree_few (first_rows [] n rows) row);
  }

-- ── One changed element ─────────────────────────────────────────────────────────────────────────────────────

module _ (rows : List ℕ) (n end w : ℕ) {row : ℕ} (e : row ≡ (changed_of w).row) {o : Answered ℕ} (q : o ≡ told (in_run 1 end row)) where
  in_there : (t : Option ℕ) → in_run 1 end row ≡ t → in_run 1 end (changed_of w).row ≡ t
  in_there t i = rw e at i

  pub text_none : o ≡ None → ChangedText rows n end w 0
  unfolding total is_some
  text_none z = record { told = λ text. rw (in_there none (told_none (in_run 1 end row) q z)) refl; small = omega arith }

  pub text_there : {x r : ℕ} → o ≡ Some x → ElementBytes rows n row r → ChangedText rows n end w r
  unfolding total is_some text_at
  text_there {x} {r} z b = record {
    told = λ text. rw (in_there (some x) (told_some (in_run 1 end row) q z), ← e) (omega (arith, b.told text));
    small = b.small;
  }

-- ── All of them ─────────────────────────────────────────────────────────────────────────────────────────────

-- the text of one
abbrev pub one_text : List ℕ → ℕ → ℕ → List ℕ → ℕ → ℕ
one_text rows n end text w = total (before end) (text_at (first_rows text n rows)) (changed_of w ∷ [])

-- the library's sum over the words is the model's
texts_summed : (rows : List ℕ) (n end : ℕ) (text changed : List ℕ) → sum (map (one_text rows n end text) changed) ≡ total (before end) (text_at (first_rows text n rows)) (map changed_of changed)
unfolding total
texts_summed rows n end text [] = refl
texts_summed rows n end text (w ∷ changed) =
    omega (arith, sum_by-cons (λ x. x) (one_text rows n end text w) (map (one_text rows n end text) changed), texts_summed rows n end text changed)

pub texts_told : {rows : List ℕ} {n end : ℕ} {changed : List ℕ} {r : ℕ} → ((text : List ℕ) → r ≡ sum (map (one_text rows n end text) changed)) → r < 2 ^ 48 → ChangedTexts rows n end changed r
texts_told {rows} {n} {end} {changed} h s = record { told = λ text. h text ∙ texts_summed rows n end text changed; small = s }

-- ── The share ───────────────────────────────────────────────────────────────────────────────────────────────

module _ {rows : List ℕ} {n : ℕ} {tree : List ℕ} (p : Part rows n 1 tree) where
  end_told : (text : List ℕ) → length tree / 3 + 1 ≡ rows_after (first_rows text n rows) 1 1
  unfolding first_tree
  end_told text = let e : length tree / 3 ≡ length (first_tree (first_rows text n rows)) = omega (arith, p.long text) in omega (arith, e, tree_end (first_rows text n rows))

  pub shares : {changed : List ℕ} {all part : ℕ} {r : Thousandths} → Bytes tree all → ChangedTexts rows n (length tree / 3 + 1) changed part → Divided part all r → Shares rows n changed r
  unfolding share_of texts_of in_new number_of first_tree
  shares {changed} {all} {part} {r} b c d text =
      let z : all ≡ bytes (first_tree (first_rows text n rows)) = b.sum text ∙ ap bytes (p.told text) in
      d ∙ rw (c.told text, z, end_told text) refl
