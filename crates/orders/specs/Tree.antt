-- Trees, paths, a splice done, and what is measured of them.
-- Assumes nothing.
use Rattle.std.specs.Prelude.{◌≡◌, cond, ℕ, zero, suc, ◌+◌, ◌-◌, ◌≤◌, max, length, take, drop, ltb, eqb}
use mathlib.Core.List.{List, [], ◌∷◌, ◌++◌, drop_last}
use Rattle.std.proofs.Math.Option.{Option, none, some, map, bind}
use Rattle.std.proofs.Math.ListN.{get_elem?}

-- ── Trees and paths ─────────────────────────────────────────────────────────────────────────────────────────

-- A node has a label and its children, a token a label and its text. The label is the kind word; or the kind word with a name, to tell elements apart.
-- `Trees` is a list of trees (antt has no data type that is nested through `List`): `list` and `forest` go from the one to the other.
mutual
  pub data Tree (A : Type 0) : Type 0 where
    node : A → Trees A → Tree A
    token : A → List ℕ → Tree A

  pub data Trees (A : Type 0) : Type 0 where
    nil : Trees A
    cons : Tree A → Trees A → Trees A

-- trees as a list
unfoldable pub list : {A : Type 0} → Trees A → List (Tree A)
list nil = []
list (cons t ts) = t ∷ list ts

-- a list as trees
unfoldable pub forest : {A : Type 0} → List (Tree A) → Trees A
forest [] = nil
forest (t ∷ ts) = cons t (forest ts)

-- what an element carries
unfoldable pub label : {A : Type 0} → Tree A → A
label (node a cs) = a
label (token a own) = a

-- "A path is a list of child numbers."
abbrev pub Path : Type 0
Path = List ℕ

-- the element to which a path leads, with what is below it; none where it leads to no element
unfoldable pub resolve : {A : Type 0} → Path → Tree A → Option (Tree A)
resolve [] t = some t
resolve (i ∷ p) (token a own) = none
resolve (i ∷ p) (node a cs) = bind (get_elem? (list cs) i) (λ c. resolve p c)

-- ── A splice done ───────────────────────────────────────────────────────────────────────────────────────────

-- a choice by where i stands: before a, from a to b - 1, or from b on
unfoldable pub zone {ℓ} : {A : Type ℓ} → ℕ → ℕ → ℕ → A → A → A → A
zone i a b before inside after = cond (ltb i a) before (cond (ltb i b) inside after)

-- "For a splice that deletes a..b (b not included) and inserts n: paths not strictly below the parent stay; child a to b−1 drops; child b or more becomes
-- child + n − (b − a)." The first path is the parent's
unfoldable pub adjust : Path → ℕ → ℕ → ℕ → Path → Option Path
adjust [] a b n [] = some []
adjust [] a b n (i ∷ e) = zone i a b (some (i ∷ e)) none (some ((i + n - (b - a)) ∷ e))
adjust (j ∷ q) a b n [] = some []
adjust (j ∷ q) a b n (i ∷ e) = cond (eqb i j) (map (λ r. i ∷ r) (adjust q a b n e)) (some (i ∷ e))

-- the same of one child number: children a to b - 1 give way to n others, and this becomes of child i
unfoldable pub shift : ℕ → ℕ → ℕ → ℕ → Option ℕ
shift a b n i = zone i a b (some i) none (some (i + n - (b - a)))

-- the list with its element n changed by f
unfoldable pub modify : {A : Type 0} → ℕ → (A → A) → List A → List A
modify n f [] = []
modify zero f (x ∷ xs) = f x ∷ xs
modify (suc n) f (x ∷ xs) = x ∷ modify n f xs

-- the children a to b - 1 of the element at the path give way to `new`
unfoldable pub splice : {A : Type 0} → Path → ℕ → ℕ → List (Tree A) → Tree A → Tree A
splice [] a b new (token w own) = token w own
splice [] a b new (node w cs) = node w (forest (take a (list cs) ++ (new ++ drop b (list cs))))
splice (j ∷ q) a b new (token w own) = token w own
splice (j ∷ q) a b new (node w cs) = node w (forest (modify j (λ c. splice q a b new c) (list cs)))

-- the children `from` to `to` - 1 of the element at `parent`
pub record Run : Type 0 where
  pub parent : Path
  pub from : ℕ
  pub to : ℕ

-- the path leads to a node of the tree, and a..b (b not included) is a run of its children, perhaps an empty one
pub record HasRun {A : Type 0} (t : Tree A) (p : Path) (a b : ℕ) : Type 0 where
  pub kind : A
  pub children : Trees A
  pub found : resolve p t ≡ some (node kind children)
  pub ordered : a ≤ b
  pub within : b ≤ length (list children)

-- ── The elements of a tree ──────────────────────────────────────────────────────────────────────────────────

-- "in preorder": each element, with what is below it
unfoldable mutual
  pub preorder : {A : Type 0} → Tree A → List (Tree A)
  preorder (node w cs) = node w cs ∷ preorders cs
  preorder (token w own) = token w own ∷ []

  pub preorders : {A : Type 0} → Trees A → List (Tree A)
  preorders nil = []
  preorders (cons c cs) = preorder c ++ preorders cs

-- ── What is measured of a tree, and of a path ───────────────────────────────────────────────────────────────

module _ {A : Type 0} where
  -- the number of elements of a tree
  unfoldable mutual
    pub elements : Tree A → ℕ
    elements (node w cs) = suc (elements_of cs)
    elements (token w own) = 1

    pub elements_of : Trees A → ℕ
    elements_of nil = 0
    elements_of (cons c cs) = elements c + elements_of cs

  -- the text of a tree: that of its tokens, in element order
  unfoldable mutual
    pub text : Tree A → List ℕ
    text (node w cs) = text_of cs
    text (token w own) = own

    pub text_of : Trees A → List ℕ
    text_of nil = []
    text_of (cons c cs) = text c ++ text_of cs

  -- "Depth counts ancestors with the element itself: a root has 1": the greatest depth in a tree
  unfoldable mutual
    pub deepest : Tree A → ℕ
    deepest (node w cs) = suc (deepest_of cs)
    deepest (token w own) = 1

    pub deepest_of : Trees A → ℕ
    deepest_of nil = 0
    deepest_of (cons c cs) = max (deepest c) (deepest_of cs)

  -- "A node's measure is its count of direct children, a token's its text length."
  unfoldable pub measure : Tree A → ℕ
  measure (node w cs) = length (list cs)
  measure (token w own) = length own

  -- a node's children
  unfoldable pub children : Tree A → Trees A
  children (node w cs) = cs
  children (token w own) = nil

-- a path's last child number
unfoldable pub last : Path → ℕ
last [] = 0
last (i ∷ []) = i
last (i ∷ j ∷ p) = last (j ∷ p)

-- the path of the parent
unfoldable pub front : Path → Path
front p = drop_last p

-- what is left of a path at the element at `top` or below it; none elsewhere
unfoldable pub strip : Path → Path → Option Path
strip [] p = some p
strip (i ∷ top) [] = none
strip (i ∷ top) (j ∷ p) = cond (eqb i j) (strip top p) none
