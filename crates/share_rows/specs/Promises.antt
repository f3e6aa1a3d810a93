-- What each function promises, part by part.
-- Assumes nothing.
use Rattle.std.specs.Prelude.{◌≡◌, Bool, List, [], ◌∷◌, map, ℕ, ◌^◌, ◌<◌}
use Rattle.orders.specs.Lists.{total}
use Rattle.definition.specs.Basics.{is_some}
use Rattle.rows_model.specs.Row.{bytes, first_rows}
use Rattle.rows_model.specs.Place.{subtree, in_run}
use Rattle.run_model.specs.Store.{HeldChanged}
use Rattle.run_annotations.specs.Changed.{changed_of}
use Rattle.share_laws.specs.Share.{thousandths}
use Rattle.share_rows.specs.Summed.{text_at, share_of}
use Rattle.share_rows.specs.declared.Thousandths.{Thousandths}

-- the text of the element at a row
pub record ElementBytes (rows : List ℕ) (n row r : ℕ) : Type 0 where
  pub told : (text : List ℕ) → r ≡ bytes (subtree (first_rows text n rows) row)
  pub small : r < 2 ^ 32

-- a changed element is at one of the rows 1 up to `end`
abbrev pub before : ℕ → HeldChanged → Bool
before end c = is_some (in_run 1 end c.row)

-- the text of the changed element of a word, where it is before `end`
pub record ChangedText (rows : List ℕ) (n end w r : ℕ) : Type 0 where
  pub told : (text : List ℕ) → r ≡ total (before end) (text_at (first_rows text n rows)) (changed_of w ∷ [])
  pub small : r < 2 ^ 32

-- those of all
pub record ChangedTexts (rows : List ℕ) (n end : ℕ) (changed : List ℕ) (r : ℕ) : Type 0 where
  pub told : (text : List ℕ) → r ≡ total (before end) (text_at (first_rows text n rows)) (map changed_of changed)
  pub small : r < 2 ^ 48

-- a share's two numbers
abbrev pub parts : Thousandths → ℕ × ℕ
parts s = (s.quotient, s.remainder)

-- THE PROMISE of `share`
abbrev pub Shares : List ℕ → ℕ → List ℕ → Thousandths → Type 0
Shares rows n changed r = (text : List ℕ) → parts r ≡ share_of (first_rows text n rows) (map changed_of changed)

-- a part of a text in thousandths
abbrev pub Divided : ℕ → ℕ → Thousandths → Type 0
Divided part all r = parts r ≡ thousandths part all
