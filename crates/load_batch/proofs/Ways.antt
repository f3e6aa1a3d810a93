-- What each stage hands on: the lists that it made are those of the load.
-- Assumes nothing.
use mathlib.Core.Path.{◌≡◌, sym}
use mathlib.Core.List.{List, [], ◌∷◌}
use Prim.Native.Nat.{ℕ}
use lib.ListN.{length, take}
use lib.Seq.{length-take-le}
use Rattle.definition.specs.Basics.{Answer}
use Rattle.definition.specs.Writing.{Lists}
use Rattle.promises.specs.Writing.{Writes}
use Rattle.load_laws.specs.Load.{drawn, block, replaced, load}
use Rattle.load_lists.specs.Filled.{TreesFilled, Filled, NotesFilled}
use Rattle.load_batch.specs.Lists.{with_notes, with_calls, with_trees}

-- lists as the code has them
abbrev lists_of : List ℕ → List ℕ → List ℕ → List ℕ → List ℕ → List ℕ → List ℕ → List ℕ → List ℕ → List ℕ → List ℕ → List ℕ → Lists
lists_of kinds measures text operations counts rules targets listed inputs outputs noted numbers = record {
  trees = 3;
  kinds = kinds;
  measures = measures;
  text = text;
  operations = operations;
  counts = counts;
  rules = rules;
  targets = targets;
  listed = listed;
  inputs = inputs;
  outputs = outputs;
  noted = noted;
  numbers = numbers;
}

module _ (start : ℕ) (held : List ℕ) (work : List (List ℕ)) (r : Answer ℕ) (holds : List ℕ) (left : List (List ℕ)) where
  module _ (ks ms bs : List ℕ) where
    -- the calls, the mapping and the notes
    pub calls_written : (os ns rs ts ls : List ℕ) (n d x : ℕ) (es xs : List ℕ) → Filled start os ns rs ts ls n → d ≡ drawn start → x ≡ block (replaced d) → NotesFilled start es xs
        → Writes (lists_of ks ms bs os ns rs ts (take n ls) (x ∷ []) (787 ∷ []) es xs) held work r holds left → Writes (with_calls start ks ms bs) held work r holds left
    unfolding with_calls with_notes
    calls_written os ns rs ts ls n d x es xs g e f h w = rw (← g.operations, ← g.counts, ← g.rules, ← g.targets, ← g.listed, ← e, ← f, ← h.noted, ← h.numbers) w

  -- the trees
  pub trees_written : (ks ms bs : List ℕ) → TreesFilled ks ms bs → Writes (with_calls start ks ms bs) held work r holds left → Writes (load start) held work r holds left
  trees_written ks ms bs h w = rw (← with_trees start, ← h.kinds, ← h.measures, ← h.text) w

-- the listed elements are as many as are lent
pub as_many : (start : ℕ) (os ns rs ts ls : List ℕ) (n : ℕ) → Filled start os ns rs ts ls n → n ≡ length (take n ls)
as_many start os ns rs ts ls n h = sym (length-take-le n ls h.within)
