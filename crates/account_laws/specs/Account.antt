-- THE ACCOUNT OF A BATCH (document 02, Note 5): the fates said are true, the overlap told is true, and both agree with the edit itself.
-- Assumes nothing.
use Rattle.std.specs.Prelude.{◌≡◌, true, false, not, ◌↔◌, ℕ, ◌<◌, length, get_or}
use mathlib.Core.List.{List, map, Permᴰ}
use Rattle.std.proofs.Math.Option.{some}
use Rattle.definition.specs.Basics.{keep}
use Rattle.definition.specs.Elements.{Table}
use Rattle.definition.specs.Refusals.{Accepted}
use Rattle.definition.specs.Recording.{Change}
use Rattle.definition.specs.Planning.{Fate, own, dependent, is_discarded, node_by_node}
use Rattle.definition.specs.Finishing.{Result, six_sizes}
use Rattle.definition.specs.Answers.{Plan, performed}
use Rattle.account_laws.specs.Words.{at, named, Contains, Owns, Owner}

-- the fates fs of changes cs in sorted order are told truly
pub record Accounted (T : Table) (cs : List Change) (fs : List Fate) : Type 0 where
  -- one for each change
  pub long : length fs ≡ length cs
  -- "the named region contains the change"
  pub contains : (i k : ℕ) → i < length cs → named (get_or fs i own) ≡ some k → Contains T cs k i
  -- "it is the one the stack rule picks": named exactly if it is the last change that owns change i
  pub picked : (i k : ℕ) → i < length cs → (named (get_or fs i own) ≡ some k) ↔ Owner T cs k i
  -- `own` exactly if no change owns it
  pub alone : (i : ℕ) → i < length cs → (get_or fs i own ≡ own) ↔ ((k : ℕ) → ¬ Owns T cs k i)
  -- "Only an undiscarded call 2 of a node by a node makes inner changes dependent"
  pub leads : (i k : ℕ) → i < length cs → (get_or fs i own ≡ dependent k) ↔ (Owner T cs k i × (is_discarded (get_or fs k own) ≡ false) × (node_by_node T (at cs k) ≡ true))

-- "the fate agrees with the edit itself": fates fs, and the plan and the result of an edit
pub record Agrees (a : Accepted) (fs : List Fate) (p : Plan) (r : Result) : Type 0 where
  -- what becomes of each change in the plan is what is said
  pub said : map (λ q. q.fate) p.changes ≡ fs
  -- what is performed is a permutation of what is not said to be discarded
  pub runs : Permᴰ (keep (λ q. not (is_discarded q.fate)) p.changes) (performed a p)
  -- the result's fifth size counts those that are said to be
  pub counted : get_or (six_sizes r) 4 0 ≡ length (keep is_discarded fs)
