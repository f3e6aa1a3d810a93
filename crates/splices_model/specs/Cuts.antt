-- A list of splices as words, six for each: number, row of its parent in the old tree, from, to, where its prepared rows start, how many they are.
-- Assumes nothing.
use Rattle.std.specs.Prelude.{◌≡◌, Bool, ◌&&◌, ◌||◌, List, [], ◌∷◌, ◌++◌, map, ℕ, zero, suc, ◌+◌, ◌-◌, ◌*◌, take, drop, get_or, leb, ltb, eqb}
use Rattle.std.proofs.Math.Option.{some}
use Rattle.orders.specs.Lists.{All, total}
use Rattle.orders.specs.Tree.{Tree, Trees, node, token, nil, cons, Path, resolve}
use Rattle.orders.specs.Splices.{Splice, State, begin, perform}
use Rattle.rows_model.specs.Row.{Row, rows_of, rows_all, triples, first_rows, trees_in}
use Rattle.rows_model.specs.Place.{place, mark_of, Held}

-- ── A splice in rows ────────────────────────────────────────────────────────────────────────────────────────

-- a splice told in rows: `parent` is a row of the old tree, `rows` are those of the prepared list
pub record Cut : Type 0 where
  pub number : ℕ
  pub parent : ℕ
  pub from : ℕ
  pub to : ℕ
  pub rows : List Row

-- a splice of the old tree, in rows
unfoldable pub cut_of : Tree ℕ → Splice ℕ → Cut
cut_of old s = record { number = s.number; parent = place s.parent old; from = s.from; to = s.to; rows = rows_all s.prepared }

-- the words of the prepared rows of splice i
abbrev pub part_at : List ℕ → List ℕ → ℕ → List ℕ
part_at splices prepared i = take (3 * get_or splices (6 * i + 5) 0) (drop (3 * get_or splices (6 * i + 4) 0) prepared)

-- splice i, as its words tell it
unfoldable pub cut_at : List ℕ → List ℕ → List ℕ → ℕ → Cut
cut_at text splices prepared i = record {
  number = get_or splices (6 * i) 0;
  parent = get_or splices (6 * i + 1) 0;
  from = get_or splices (6 * i + 2) 0;
  to = get_or splices (6 * i + 3) 0;
  rows = triples text (part_at splices prepared i);
}

-- the first k splices, the last first: as a state holds those that are done
unfoldable pub cuts_to : List ℕ → List ℕ → List ℕ → ℕ → List Cut
cuts_to text splices prepared zero = []
cuts_to text splices prepared (suc k) = cut_at text splices prepared k ∷ cuts_to text splices prepared k

-- ── Where a splice goes now, in rows ────────────────────────────────────────────────────────────────────────

-- how many trees come, and how many go
abbrev pub gain : Cut → ℕ
gain c = trees_in c.rows

abbrev pub loss : Cut → ℕ
loss c = c.to - c.from

-- t is in the parent of s, and left of s: by place, and by number where two empty runs tie
unfoldable pub left_cut : Cut → Cut → Bool
left_cut s t = eqb t.parent s.parent && (leb t.to s.from && (ltb t.from s.to || ltb s.number t.number))

-- the present start of a run
unfoldable pub start_cut : List Cut → Cut → ℕ
start_cut done s = s.from + total (left_cut s) gain done - total (left_cut s) loss done

-- ── The paths of old elements ───────────────────────────────────────────────────────────────────────────────

-- the path of each element of a tree, in preorder
unfoldable mutual
  pub paths : Tree ℕ → List Path
  paths (node k cs) = [] ∷ paths_from 0 cs
  paths (token k x) = [] ∷ []

  -- below the children from number i on
  pub paths_from : ℕ → Trees ℕ → List Path
  paths_from i nil = []
  paths_from i (cons c cs) = map (λ p. i ∷ p) (paths c) ++ paths_from (suc i) cs

-- ── What the words hold ─────────────────────────────────────────────────────────────────────────────────────

-- the rows are those of the present tree, and the mark of each old element is the row where its path leads now
pub record Holds (text : List ℕ) (old : Tree ℕ) (now : State ℕ) (rows : List ℕ) (n : ℕ) (marks : List ℕ) : Type 0 where
  pub tree : first_rows text n rows ≡ rows_of now.tree
  pub marked : marks ≡ map (λ e. mark_of now.tree (now.path e)) (paths old)
  pub held : All (λ e. Held now.tree (now.path e)) (paths old)

-- the parent of a splice is an element of the old tree
abbrev pub Stands : Tree ℕ → Splice ℕ → Type 0
Stands old s = (u : Tree ℕ) × (resolve s.parent old ≡ some u)

-- the first k splices of the words are those of D, the last first
pub record Told (text : List ℕ) (old : Tree ℕ) (splices prepared : List ℕ) (k : ℕ) (D : List (Splice ℕ)) : Type 0 where
  pub cuts : cuts_to text splices prepared k ≡ map (cut_of old) D
  pub stand : All (Stands old) D

-- the state that the splices of a list leave, its last first
unfoldable pub state_of : Tree ℕ → List (Splice ℕ) → State ℕ
state_of old [] = begin old
state_of old (s ∷ D) = perform s (state_of old D)
