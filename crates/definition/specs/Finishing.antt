-- Finishing: the result, and its bytes; refusal 13.
-- Assumes nothing.
use Rattle.std.specs.Prelude.{cond, ℕ, length, take, ltb, eqb}
use mathlib.Core.List.{List, [], ◌∷◌, ◌++◌, map, flat_map}
use Rattle.std.proofs.Math.Option
use Rattle.std.proofs.Math.Option.{Option, none}
use Rattle.orders.specs.Lists.{pick}
use Rattle.orders.specs.Tree.{Tree, Path, list, label, text, measure, children, preorder}
use Rattle.definition.specs.Basics.{Answer, gives, ◌>>=◌, refuse, keep, rising}
use Rattle.definition.specs.Words.{written}
use Rattle.definition.specs.Elements.{Table, table, row, descend}
use Rattle.definition.specs.Planning.{Planned, is_discarded}
use Rattle.definition.specs.Rewriting.{Note}
use Rattle.definition.specs.Running.{World}

-- ── The new tree ────────────────────────────────────────────────────────────────────────────────────────────

-- tree 0 as it is now (a list of one)
unfoldable pub new_tree : World → List (Tree ℕ)
new_tree w = take 1 (list (children w.trees))

-- what is known of each element of the new tree
unfoldable pub new_table : World → Table
new_table w = table 0 0 (new_tree w)

-- the element of the new tree to which a path leads; none in another tree
unfoldable pub number_at : Table → Path → Option ℕ
number_at F [] = none
number_at F (t ∷ p) = cond (eqb t 0) (descend F 0 p) none

-- "those left are sorted by text start, ties by time". Each with its rule number
unfoldable pub changed_elements : Table → World → List (ℕ × ℕ)
changed_elements F w = rising (λ m. (row F m.0).start ∷ []) (pick (λ c. Option.map (λ e. (e, c.1)) (number_at F c.0)) w.changed)

-- "Notes rise by number, then by queue place, then start, ties by time." Each with its element
unfoldable pub note_elements : Table → World → List (Note × ℕ)
note_elements F w =
    rising (λ m. m.0.number ∷ m.0.place ∷ (row F m.1).start ∷ []) (pick (λ n. Option.map (λ e. (n, e)) (number_at F n.path)) w.notes)

-- ── The result ──────────────────────────────────────────────────────────────────────────────────────────────

-- "The result: sizes (elements, text bytes, changed, notes, discarded changes, climb steps), kinds, measures, changed element numbers, note numbers,
-- note elements, text, array after array." "In the result an array of rule numbers follows the changed elements, one for each." (document 02, Note 8)
pub record Result : Type 0 where
  pub kinds : List ℕ
  pub measures : List ℕ
  pub changed : List ℕ
  pub rules : List ℕ
  pub numbers : List ℕ
  pub noted : List ℕ
  pub text : List ℕ
  pub discarded : ℕ
  pub climbs : ℕ

-- the result, from the changes with their fates, the climb steps, and what the steps left
unfoldable pub result : List Planned → ℕ → World → Result
result ps climbs w =
    let elements = flat_map preorder (new_tree w) in
    let F = new_table w in
    let changed = changed_elements F w in
    let notes = note_elements F w in
    record {
      kinds = map label elements;
      measures = map measure elements;
      changed = map (λ m. m.0) changed;
      rules = map (λ m. m.1) changed;
      numbers = map (λ m. m.0.number) notes;
      noted = map (λ m. m.1) notes;
      text = flat_map text (new_tree w);
      discarded = length (keep (λ p. is_discarded p.fate) ps);
      climbs = climbs;
    }

-- "sizes (elements, text bytes, changed, notes, discarded changes, climb steps)"
unfoldable pub six_sizes : Result → List ℕ
six_sizes r = length r.kinds ∷ length r.text ∷ length r.changed ∷ length r.numbers ∷ r.discarded ∷ r.climbs ∷ []

-- the result as bytes, "array after array"
unfoldable pub encoded : Result → List ℕ
encoded r = written (six_sizes r ++ r.kinds ++ r.measures ++ r.changed ++ r.rules ++ r.numbers ++ r.noted) ++ r.text

-- 13: "The result buffer is too short."
unfoldable pub fitting : ℕ → Result → Answer Result
fitting room r = do
  _ ← refuse 13 (ltb room (length (encoded r)))
  gives r
