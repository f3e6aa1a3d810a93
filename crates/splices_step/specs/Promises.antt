-- What the functions of one splice promise, part by part. Text is not read, so that each promise holds for any.
-- Assumes nothing.
use Rattle.std.specs.Prelude.{◌≡◌, Bool, ◌&&◌, ◌||◌, List, ◌∷◌, ℕ, suc, ◌+◌, ◌-◌, ◌*◌, ◌^◌, ◌≤◌, ◌<◌, get_or, drop, leb, ltb, eqb}
use Rattle.orders.specs.Lists.{All, total}
use Rattle.orders.specs.Tree.{Tree, Run}
use Rattle.orders.specs.Splices.{Splice, State, perform}
use Rattle.rows_model.specs.Row.{triples, trees_in}
use Rattle.rows_syntax_node.specs.Rising.{Rising}
use Rattle.splices_model.specs.Cuts.{part_at, gain, loss, left_cut, start_cut, cut_at, cuts_to, Holds, Told}
use Rattle.splices_model.specs.Step.{Sited, Due}
use Rattle.splices_step.specs.declared.Gap.{Gap}

-- of two runs the one is left of the other: by place, and by number where two empty ones tie
unfoldable pub left_run : ℕ → ℕ → ℕ → ℕ → ℕ → ℕ → Bool
left_run number from to number' from' to' = leb to from' && (ltb from to' || ltb number' number)

-- splice j is in the parent of splice i, and left of it
unfoldable pub left_at : List ℕ → ℕ → ℕ → Bool
left_at splices i j =
    eqb (get_or splices (6 * j + 1) 0) (get_or splices (6 * i + 1) 0)
    && left_run (get_or splices (6 * j) 0) (get_or splices (6 * j + 2) 0) (get_or splices (6 * j + 3) 0) (get_or splices (6 * i) 0) (get_or splices (6 * i + 2) 0) (get_or splices (6 * i + 3) 0)

-- the number of trees that splice j brings
pub record TreesOf (splices prepared : List ℕ) (j r : ℕ) : Type 0 where
  pub count : (text : List ℕ) → r ≡ trees_in (triples text (part_at splices prepared j))
  pub few : r < 2 ^ 16

-- the number of children that splice j deletes
pub record Deletes (splices : List ℕ) (j r : ℕ) : Type 0 where
  pub count : r ≡ get_or splices (6 * j + 3) 0 - get_or splices (6 * j + 2) 0
  pub small : r < 2 ^ 32

-- what the splices done to the left of splice i insert and delete, of the first j
pub record Shifted (splices prepared : List ℕ) (i j gained lost : ℕ) : Type 0 where
  pub comes : (text : List ℕ) → gained ≡ total (left_cut (cut_at text splices prepared i)) gain (cuts_to text splices prepared j)
  pub goes : (text : List ℕ) → lost ≡ total (left_cut (cut_at text splices prepared i)) loss (cuts_to text splices prepared j)
  pub few : gained ≤ 2 ^ 16 * j
  pub fewer : lost ≤ 2 ^ 32 * j

-- the present start of the run of splice i
pub record Started (splices prepared : List ℕ) (i r : ℕ) : Type 0 where
  pub start : (text : List ℕ) → r ≡ start_cut (cuts_to text splices prepared i) (cut_at text splices prepared i)
  pub small : r < 2 ^ 32

-- where splice i goes in the present rows
pub record GapAt (rows : List ℕ) (n : ℕ) (marks splices prepared : List ℕ) (i : ℕ) (g : Gap) : Type 0 where
  pub sited : Sited rows n marks splices prepared i g.parent g.from g.to g.lost g.gain
  pub below : g.parent < n
  pub low : g.parent < g.from
  pub order : g.from ≤ g.to
  pub high : g.to ≤ n
  pub few : g.gain < 2 ^ 16

-- the row `parent` is a node's, which can lose so many children and gain so many
unfoldable pub takes_by : List ℕ → ℕ → ℕ → ℕ → Bool
takes_by rows parent lost gained = leb 2147483648 (get_or rows (3 * parent) 0) && (leb lost (get_or rows (3 * parent + 1) 0) && ltb (get_or rows (3 * parent + 1) 0 + gained) (2 ^ 32))

-- splice i done, those before it being done: where rows and marks hold a state of the law, they hold the law's next; r rows then, and the marks rise
pub record Stepped (rows : List ℕ) (n : ℕ) (marks splices prepared : List ℕ) (i : ℕ) (out marked : List ℕ) (r : ℕ) : Type 0 where
  pub step : (text : List ℕ) (old : Tree ℕ) (now : State ℕ) (s : Splice ℕ) (run : Run)
      → Holds text old now rows n marks → Told text old splices prepared (suc i) (s ∷ now.done) → Due now s run → Holds text old (perform s now) out r marked
  pub few : r ≤ n + get_or splices (6 * i + 5) 0
  pub beyond : drop (3 * r) out ≡ drop (3 * r) rows
  pub below : All (λ x. x < r) marked
  pub risen : Rising marked
