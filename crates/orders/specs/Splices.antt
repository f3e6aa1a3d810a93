-- The words of demand 3, in the order of document 01's "Running and splicing": splices, done one after the other and in one go.
-- Assumes nothing.
use Rattle.std.specs.Prelude.{◌≡◌, Bool, true, false, cond, ◌&&◌, ◌||◌, ◌≢◌, ℕ, suc, ◌+◌, ◌-◌, ◌≤◌, ◌<◌, length, take, drop, leb, ltb, eqb}
use mathlib.Core.List.{List, [], ◌∷◌, ◌++◌, map, Memᴰ}
use Rattle.std.proofs.Math.Option
use Rattle.std.proofs.Math.Option.{Option, none, some, bind}
use Rattle.orders.specs.Lists.{pick, All, Pairs, total}
use Rattle.orders.specs.Tree.{Tree, Trees, node, token, nil, cons, forest, label, Path, resolve, adjust, splice, Run, HasRun}

-- ── Splices ─────────────────────────────────────────────────────────────────────────────────────────────────

-- "a splice is a number, a parent node and a run a..b of its children, both told as places in the old tree, and a prepared list of subtrees. Run and prepared list
-- may be empty": children `from` to `to` - 1 of the element at `parent` are to give way to the subtrees `prepared`
pub record Splice (A : Type 0) : Type 0 where
  pub number : ℕ
  pub parent : Path
  pub from : ℕ
  pub to : ℕ
  pub prepared : List (Tree A)

module _ {A : Type 0} where
  -- how many subtrees come
  unfoldable pub inserted : Splice A → ℕ
  inserted s = length s.prepared

  -- how many children go
  unfoldable pub deleted : Splice A → ℕ
  deleted s = s.to - s.from

  -- "Of two empty runs at one place the higher number is left, in every order; an empty run is left of a run that starts there, right of one that ends there": of two splices
  -- in one parent, s is left of t if its run ends where t's starts or before, and (since s.from = t.to only where both are empty and at one place) by number if they tie
  unfoldable pub left_of : Splice A → Splice A → Bool
  left_of s t = leb s.to t.from && (ltb s.from t.to || ltb t.number s.number)

  -- two runs in one parent overlap: they share a child, or one of them is empty and "strictly inside" the other
  abbrev pub Overlap : Splice A → Splice A → Type 0
  Overlap s t = (s.from < t.to) × (t.from < s.to)

-- ── Done one after the other ────────────────────────────────────────────────────────────────────────────────

-- what a list of splices has made so far: the tree, the present path of each old element (by its old path; none once it is dropped), and the splices done, the last first
pub record State (A : Type 0) : Type 0 where
  pub tree : Tree A
  pub path : Path → Option Path
  pub done : List (Splice A)

-- two paths are the same
unfoldable pub same_path : Path → Path → Bool
same_path [] [] = true
same_path [] (j ∷ q) = false
same_path (i ∷ p) [] = false
same_path (i ∷ p) (j ∷ q) = eqb i j && same_path p q

module _ {A : Type 0} where
  -- "A list of splices starts from the old tree and its elements' paths"
  unfoldable pub begin : Tree A → State A
  begin old = record { tree = old; path = λ e. some e; done = [] }

  -- t is in the parent of s, and left of s
  unfoldable pub left_in : Splice A → Splice A → Bool
  left_in s t = same_path t.parent s.parent && left_of t s

  -- "A run's start moves by inserted minus deleted of each splice already done to its left in the same parent."
  unfoldable pub start : List (Splice A) → Splice A → ℕ
  start done s = s.from + total (left_in s) inserted done - total (left_in s) deleted done

  -- where the run of s is now: "its parent is where the parent's path then leads"; none if that path is dropped
  unfoldable pub run_now : State A → Splice A → Option Run
  run_now now s = Option.map (λ q. record { parent = q; from = start now.done s; to = start now.done s + deleted s }) (now.path s.parent)

  -- the run r gives way to the prepared list of s, and every path follows
  unfoldable pub perform_at : Run → Splice A → State A → State A
  perform_at r s now = record {
    tree = splice r.parent r.from r.to s.prepared now.tree;
    path = λ e. bind (now.path e) (λ p. adjust r.parent r.from r.to (inserted s) p);
    done = s ∷ now.done;
  }

  -- s done; nothing, if its parent is gone
  unfoldable pub perform : Splice A → State A → State A
  perform s now = elim (run_now now s) [ none ↦ now | some r ↦ perform_at r s now ]

  -- "each splice gets the tree and paths the last one left", the first of the list first
  unfoldable pub performs : List (Splice A) → State A → State A
  performs [] now = now
  performs (s ∷ S) now = performs S (perform s now)

-- ── One go ──────────────────────────────────────────────────────────────────────────────────────────────────

module _ {A : Type 0} where
  -- the same splice with another parent
  unfoldable pub under : Path → Splice A → Splice A
  under p s = record { number = s.number; parent = p; from = s.from; to = s.to; prepared = s.prepared }

  -- s, if its parent is the root
  unfoldable pub from_root : Splice A → Option (Splice A)
  from_root s = elim s.parent [ [] ↦ some s | i ∷ p ↦ none ]

  -- s told from child i, if its parent is that child or below it
  unfoldable pub from_child : ℕ → Splice A → Option (Splice A)
  from_child i s = elim s.parent [ [] ↦ none | j ∷ p ↦ cond (eqb j i) (some (under p s)) none ]

  -- the splices in the root itself
  unfoldable pub at_root : List (Splice A) → List (Splice A)
  at_root S = pick from_root S

  -- the splices in child i or below it, told from that child
  unfoldable pub below : ℕ → List (Splice A) → List (Splice A)
  below i S = pick (from_child i) S

  -- s among splices of the same parent that stand from left to right
  unfoldable pub insert_by_left : Splice A → List (Splice A) → List (Splice A)
  insert_by_left s [] = s ∷ []
  insert_by_left s (t ∷ T) = cond (left_of s t) (s ∷ t ∷ T) (t ∷ insert_by_left s T)

  -- splices of one parent, from left to right: sorted, one inserted after the other
  unfoldable pub left_to_right : List (Splice A) → List (Splice A)
  left_to_right [] = []
  left_to_right (s ∷ S) = insert_by_left s (left_to_right S)

  -- "each node's new children are, from left to right, its undeleted children, .. and every prepared list, as it is, where its run stood": xs are a node's children from
  -- number n on, H the splices in it from left to right
  unfoldable pub new_children : ℕ → List (Splice A) → List (Tree A) → List (Tree A)
  new_children n [] xs = xs
  new_children n (h ∷ H) xs = take (h.from - n) xs ++ (h.prepared ++ new_children h.to H (drop (h.to - n) xs))

  -- "One go is a single walk of the old tree, with no splice done before another"; the children "each rewritten likewise"
  unfoldable mutual
    pub one_go : List (Splice A) → Tree A → Tree A
    one_go S (node a cs) = node a (forest (new_children 0 (left_to_right (at_root S)) (one_go_all S 0 cs)))
    one_go S (token a text) = token a text

    -- the children from number n on
    pub one_go_all : List (Splice A) → ℕ → Trees A → List (Tree A)
    one_go_all S n nil = []
    one_go_all S n (cons c cs) = one_go (below n S) c ∷ one_go_all S (suc n) cs

-- ── Old paths ───────────────────────────────────────────────────────────────────────────────────────────────

-- "It enters a child that it leads to or through": the path e enters a child that s deletes
pub record Enters {A : Type 0} (s : Splice A) (e : Path) : Type 0 where
  pub child : ℕ
  pub rest : Path
  pub leads : e ≡ s.parent ++ (child ∷ rest)
  pub low : s.from ≤ child
  pub high : child < s.to

-- the path e enters a child that some splice of S deletes
pub record EntersDeleted {A : Type 0} (S : List (Splice A)) (e : Path) : Type 0 where
  pub by : Splice A
  pub one : Memᴰ by S
  pub enters : Enters by e

-- the parent of s is the element at e "or below it"
pub record AtOrBelow {A : Type 0} (e : Path) (s : Splice A) : Type 0 where
  pub rest : Path
  pub leads : s.parent ≡ e ++ rest

-- the splices whose parent is the element at e or below it, told from there
unfoldable pub splices_in : {A : Type 0} → Path → List (Splice A) → List (Splice A)
splices_in [] S = S
splices_in (i ∷ e) S = splices_in e (below i S)

-- Where the walk wrote an element is told by names: each old element carries its old path beside its label, and those of prepared lists carry none.
abbrev pub Named : Type 0 → Type 0
Named A = A × Option Path

-- the tree whose root has the old path p, each element with its name
unfoldable mutual
  pub named : {A : Type 0} → Path → Tree A → Tree (Named A)
  named p (node a cs) = node (a, some p) (named_all p 0 cs)
  named p (token a text) = token (a, some p) text

  -- the children from number n on
  pub named_all : {A : Type 0} → Path → ℕ → Trees A → Trees (Named A)
  named_all p n nil = nil
  named_all p n (cons c cs) = cons (named (p ++ (n ∷ [])) c) (named_all p (suc n) cs)

-- a tree with each label changed by f
unfoldable mutual
  pub relabel : {A B : Type 0} → (A → B) → Tree A → Tree B
  relabel f (node a cs) = node (f a) (relabel_all f cs)
  relabel f (token a text) = token (f a) text

  -- each tree of a list
  pub relabel_all : {A B : Type 0} → (A → B) → Trees A → Trees B
  relabel_all f nil = nil
  relabel_all f (cons c cs) = cons (relabel f c) (relabel_all f cs)

-- a prepared tree: no element has a name
unfoldable pub nameless : {A : Type 0} → Tree A → Tree (Named A)
nameless t = relabel (λ a. (a, none)) t

-- a tree without the names
unfoldable pub unnamed : {A : Type 0} → Tree (Named A) → Tree A
unnamed t = relabel (λ a. a.0) t

-- the same splice with each prepared tree changed by g
unfoldable pub map_prepared : {A B : Type 0} → (Tree A → Tree B) → Splice A → Splice B
map_prepared g s = record { number = s.number; parent = s.parent; from = s.from; to = s.to; prepared = map g s.prepared }

-- what the walk writes, with the names that it carries
unfoldable pub one_go_named : {A : Type 0} → List (Splice A) → Tree A → Tree (Named A)
one_go_named S old = one_go (map (map_prepared nameless) S) (named [] old)

-- an old path "finds its element if it then leads to where the walk wrote that element": q leads to where it wrote that of old path e
pub record Finds {A : Type 0} (S : List (Splice A)) (old : Tree A) (e q : Path) : Type 0 where
  pub element : Tree (Named A)
  pub there : resolve q (one_go_named S old) ≡ some element
  pub name : (label element).1 ≡ some e

-- ── Apart ───────────────────────────────────────────────────────────────────────────────────────────────────

-- Two splices are apart: "no two splices share a number", "no splice's parent is, or is below, a child another deletes, and runs in one parent don't overlap"
pub record Apart {A : Type 0} (s t : Splice A) : Type 0 where
  pub numbers : s.number ≢ t.number
  pub kept : ¬ Enters s t.parent
  pub kept' : ¬ Enters t s.parent
  pub clear : s.parent ≡ t.parent → ¬ Overlap s t

-- s fits the old tree: its parent is a node of it, and its run a run of that node's children
abbrev pub Fits : {A : Type 0} → Tree A → Splice A → Type 0
Fits old s = HasRun old s.parent s.from s.to

-- A list of splices of the old tree any two of which are apart. This is all that demand 3 asks of it.
pub record AllApart {A : Type 0} (old : Tree A) (S : List (Splice A)) : Type 0 where
  pub fits : All (Fits old) S
  pub apart : Pairs Apart S
