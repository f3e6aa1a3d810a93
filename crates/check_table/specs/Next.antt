-- What the next element tells, where it may stand.
-- Assumes nothing.
use Rattle.std.specs.Prelude.{◌≡◌, true, List, ℕ, ◌+◌, ◌^◌, ◌≤◌, ◌<◌, length, get_or, Option, None, Some}
use Rattle.read_spelling.specs.Spelling.{children_of, length_of, stands}
use Rattle.check_table.specs.declared.Next.{Next}

module _ (kinds measures : List ℕ) (i d sum bytes : ℕ) where
  -- element i, at depth d, may stand there, and its text, which starts at `sum`, ends within so many bytes
  pub record Opened (e : Next) : Type 0 where
    pub there : i < length kinds
    pub kind : e.kind ≡ get_or kinds i 0
    pub small : e.kind < 2 ^ 32
    pub stands : stands e.kind d ≡ true
    pub end : e.end ≡ sum + length_of e.kind (get_or measures i 0)
    pub fits : e.end ≤ bytes
    pub children : e.children ≡ children_of e.kind (get_or measures i 0)

  -- or it is not so
  abbrev pub Opens : Option Next → Type 0
  Opens None = i < length kinds → stands (get_or kinds i 0) d ≡ true → bytes < sum + length_of (get_or kinds i 0) (get_or measures i 0)
  Opens (Some e) = Opened e
