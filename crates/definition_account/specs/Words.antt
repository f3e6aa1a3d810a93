-- What document 02's Notes 10, 11 and 13 say of changed elements and old ones, in words.
-- Assumes nothing.
use Rattle.std.specs.Prelude.{◌≡◌, Bool, false, not, ◌&&◌, ◌⊎◌, ◌↔◌, ℕ, ◌<◌, eqb, length}
use mathlib.Core.List.{List, ◌∷◌, ◌++◌, map, Memᴰ}
use Rattle.std.proofs.Math.Option.{Option, none, some, bind}
use Rattle.orders.specs.Lists.{any, All, Pairs, total}
use Rattle.orders.specs.Tree.{Tree, Path, resolve}
use Rattle.orders.specs.Splices.{Splice, EntersDeleted}
use Rattle.definition.specs.Basics.{is_some, keep, numbered}
use Rattle.definition.specs.Elements.{Table, row, tree, place_below}
use Rattle.definition.specs.Planning.{Planned, target}
use Rattle.definition.specs.Running.{World, present, owned}
use Rattle.definition.specs.Finishing.{new_table, number_at, changed_elements}
use Rattle.definition_demand.specs.Aims.{replaces_root}

-- ── Paths ───────────────────────────────────────────────────────────────────────────────────────────────────

-- the paths of the changed elements, in the order of time
unfoldable pub changed_paths : World → List Path
changed_paths w = map (λ c. c.0) w.changed

-- the numbers of the changed elements in the new tree, in the result's order
unfoldable pub changed_in : Table → World → List ℕ
changed_in F w = map (λ m. m.0) (changed_elements F w)

-- p is c, or below it
abbrev pub Under : Path → Path → Type 0
Under c p = (r : Path) × (p ≡ c ++ r)

-- neither is at or below the other
abbrev pub Aside : Path → Path → Type 0
Aside c d = (¬ Under c d) × (¬ Under d c)

-- no surviving path of an element of the batch is at or below c
abbrev pub Bare : World → Path → Type 0
Bare w c = (x : ℕ) (p : Path) → present w x ≡ some p → ¬ Under c p

-- THE INVARIANT OF EVERY RUN
pub record ChangedApart (w : World) : Type 0 where
  -- a changed element is in some tree
  pub long : All (λ c. 0 < length c) (changed_paths w)
  -- changed elements never nest and never repeat: none is at or below another
  pub aside : Pairs Aside (changed_paths w)
  -- no surviving old path is at or below one
  pub bare : All (Bare w) (changed_paths w)

-- an element of the batch is there
abbrev pub Went : World → Path → Type 0
Went w p = (x : ℕ) × (present w x ≡ some p)

-- a changed element is there or above
pub record Covered (w : World) (p : Path) : Type 0 where
  pub by : Path
  pub one : Memᴰ by (changed_paths w)
  pub under : Under by p

-- each element of tree 0 is where an element of the batch went, or lies at or below a changed one
abbrev pub Full : World → Type 0
Full w = (q : Path) (v : Tree ℕ) → resolve (0 ∷ q) w.trees ≡ some v → Went w (0 ∷ q) ⊎ Covered w (0 ∷ q)

-- ── Numbers in the new tree ─────────────────────────────────────────────────────────────────────────────────

-- where element x of the batch went: its number in the new tree, none if it is not there
unfoldable pub went_to : World → ℕ → Option ℕ
went_to w x = bind (present w x) (number_at (new_table w))

-- the same in the words of the result: by the array of changed elements
pub record ChangedApartInNew (w : World) : Type 0 where
  -- none of them is at or below another
  pub aside : Pairs (λ c d. (place_below (new_table w) c d ≡ none) × (place_below (new_table w) d c ≡ none)) (changed_in (new_table w) w)
  -- where an element of the batch went is at or below none
  pub bare : (x n : ℕ) → went_to w x ≡ some n → All (λ c. place_below (new_table w) c n ≡ none) (changed_in (new_table w) w)
  -- two elements of the batch never go to one place
  pub once : (x y n : ℕ) → went_to w x ≡ some n → went_to w y ≡ some n → x ≡ y

-- ── Note 13 ─────────────────────────────────────────────────────────────────────────────────────────────────

-- how many pass a test
unfoldable pub count : {A : Type 0} → (A → Bool) → List A → ℕ
count p l = total p (λ x. 1) l

-- how many changed elements the element n of the new tree "lies at or below"
unfoldable pub changed_over : World → ℕ → ℕ
changed_over w n = count (λ c. is_some (place_below (new_table w) c n)) (changed_in (new_table w) w)

-- the old elements: those of tree 0
unfoldable pub old_elements : Table → List ℕ
old_elements T = keep (λ x. eqb (tree T x) 0) (map (λ m. m.0) (numbered 0 T))

-- this is the element n
unfoldable pub is? : ℕ → Option ℕ → Bool
is? n o = elim o [ none ↦ false | some m ↦ eqb m n ]

-- how many old elements went to the element n of the new tree ("is where .. old element went")
unfoldable pub old_at : Table → World → ℕ → ℕ
old_at T w n = count (λ x. is? n (went_to w x)) (old_elements T)

-- "either lies at or below exactly one changed element, or is where exactly one old element went, and never both": by these two numbers
pub data OneOf : ℕ → ℕ → Type 0 where
  changed : OneOf 1 0
  old : OneOf 0 1

-- "every element of the new tree either lies at or below exactly one changed element, or is where exactly one old element went, and never both"
abbrev pub EachOneOf : Table → World → Type 0
EachOneOf T w = (n : ℕ) → n < length (new_table w) → OneOf (changed_over w n) (old_at T w n)

-- "old elements that go nowhere are exactly those at or below a child deleted in tree 0", by the splices performed there
abbrev pub NowhereIfDeleted : Table → List (Splice ℕ) → World → Type 0
NowhereIfDeleted T S w = (x : ℕ) (e : Path) → x < length T → (row T x).path ≡ 0 ∷ e → (went_to w x ≡ none) ↔ EntersDeleted S e

-- a "dependent change ending in tree 0": performed for an owner, with its rewritten target in tree 0
unfoldable pub dependent_in0 : Table → Planned → Bool
dependent_in0 T p = not (owned none p.fate) && eqb (tree T (target p.change)) 0

-- "does not replace the root"
unfoldable pub keeps_root : Table → List Planned → Bool
keeps_root T ps = not (any (λ p. replaces_root T p.change) ps)

-- "has no dependent change ending in tree 0"
unfoldable pub no_dependent_in0 : Table → List Planned → Bool
no_dependent_in0 T ps = not (any (dependent_in0 T) ps)

-- WHAT NOTE 13 SAYS of the table of a batch, of the splices performed on tree 0 and of what they leave
pub record FullAccount (T : Table) (S : List (Splice ℕ)) (w : World) : Type 0 where
  pub each : EachOneOf T w
  pub nowhere : NowhereIfDeleted T S w
