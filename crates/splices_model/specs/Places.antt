-- The paths of a tree's elements, in preorder: the path at row x leads to the element there.
-- Assumes nothing.
use Rattle.std.specs.Prelude.{◌≡◌, refl, List, [], ◌∷◌, map, ◌⊎◌, ℕ, zero, suc, ◌+◌, ◌-◌, ◌≤◌, ◌<◌, length, take, drop}
use Rattle.std.proofs.Common.{sym, ap, ◌∙◌, inl, inr, arith, zero-add, length-append}
use Rattle.std.proofs.Math.Option.{Option, some}
use Rattle.std.proofs.Math.ListN.{get_elem?}
use Rattle.std.proofs.lemmas.List.{length-map}
use Rattle.orders.specs.Lists.{All}
use Rattle.orders.specs.Tree.{Tree, Trees, node, token, nil, cons, list, Path, resolve}
use Rattle.orders.specs.ListLaws.{some_inj, none_some, lt_or_le, get_lt, get_left, get_right, get_map}
use Rattle.orders.proofs.TreeLaws.{resolve_child, resolve_at}
use Rattle.definition_laws.specs.Basics.{up_from}
use Rattle.rows_model.specs.Row.{rows_of, rows_in, rows_all}
use Rattle.rows_model.specs.Place.{size, size_all, place}
use Rattle.rows_model.proofs.PlaceLaws.{place_at}
use Rattle.splices_model.specs.Cuts.{paths, paths_from}

-- ── Elements of a mapped list ───────────────────────────────────────────────────────────────────────────────

module _ {X Y : Type 0} (f : X → Y) where
  pub map_get : (l : List X) (i : ℕ) (y : Y) → get_elem? (map f l) i ≡ some y → (x : X) × (get_elem? l i ≡ some x) × (f x ≡ y)
  map_get [] i y e = none_some e
  map_get (x ∷ l) zero y e = (x, refl, some_inj e)
  map_get (x ∷ l) (suc i) y e = map_get l i y e

-- ── As many paths as rows ───────────────────────────────────────────────────────────────────────────────────

mutual
  unfolding paths

  pub paths_many : (t : Tree ℕ) → length (paths t) ≡ size t
  paths_many (node k cs) = ap suc (paths_below 0 cs)
  paths_many (token k x) = refl

  paths_below : (i : ℕ) (cs : Trees ℕ) → length (paths_from i cs) ≡ length (rows_in cs)
  paths_below i nil = refl
  paths_below i (cons c cs) =
      let e : length (map {B = Path} (λ p. i ∷ p) (paths c)) ≡ length (paths c) = length-map (paths c) (λ p. i ∷ p) in
      rw (length-append (map {B = Path} (λ p. i ∷ p) (paths c)) (paths_from (suc i) cs), length-append (rows_of c) (rows_in cs)) (omega (arith, paths_many c, paths_below (suc i) cs))

-- ── The path at an element's row is its own ─────────────────────────────────────────────────────────────────

-- the paths below a child
abbrev down : ℕ → List Path → List Path
down i l = map (λ p. i ∷ p) l

down_many : (i : ℕ) (c : Tree ℕ) → length (down i (paths c)) ≡ size c
down_many i c = length-map (paths c) (λ p. i ∷ p) ∙ paths_many c

below_at : (j : ℕ) (cs : Trees ℕ) (i : ℕ) (c : Tree ℕ) (x : ℕ) (y : Path) → get_elem? (list cs) i ≡ some c → get_elem? (paths c) x ≡ some y
    → get_elem? (paths_from j cs) (size_all (take i (list cs)) + x) ≡ some ((j + i) ∷ y)
unfolding paths list
below_at j nil i c x y g h = none_some g
below_at j (cons d cs) zero c x y g h =
    let dc : d ≡ c = some_inj g in
    let e : j + 0 ≡ j = omega arith in
    let z : 0 + x ≡ x = omega arith in
    rw (z, e, dc) (get_left (down j (paths c)) (paths_from (suc j) cs) x (omega (arith, get_lt (paths c) x h, down_many j c, paths_many c)) ∙ get_map (λ p. j ∷ p) (paths c) x y h)
below_at j (cons d cs) (suc i) c x y g h =
    let e : suc j + i ≡ j + suc i = omega arith in
    get_right (down j (paths d)) (paths_from (suc j) cs) (size_all (d ∷ take i (list cs)) + x) (size_all (take i (list cs)) + x) (omega (arith, down_many j d, length-append (rows_of d) (rows_all (take i (list cs)))))
    ∙ (below_at (suc j) cs i c x y g h ∙ ap {B = Option Path} (λ n. some (n ∷ y)) e)

pub paths_at : (p : Path) (t u : Tree ℕ) → resolve p t ≡ some u → get_elem? (paths t) (place p t) ≡ some p
unfolding paths resolve
paths_at [] (node k cs) u f = refl
paths_at [] (token k x) u f = refl
paths_at (i ∷ p) (token k x) u f = none_some f
paths_at (i ∷ p) (node k cs) u f =
    let (c, g, z) = resolve_child k cs i p u f in
    ap (get_elem? (paths (node k cs))) (place_at k cs i p c g) ∙ (below_at 0 cs i c (place p c) p g (paths_at p c u z) ∙ ap {B = Option Path} (λ n. some (n ∷ p)) (zero-add i))

-- ── Each path leads to the element at its row ───────────────────────────────────────────────────────────────

-- p leads to an element of t, which stands at row x
pub record Stood (t : Tree ℕ) (x : ℕ) (p : Path) : Type 0 where
  pub element : Tree ℕ
  pub leads : resolve p t ≡ some element
  pub at : place p t ≡ x

-- p leads to an element of a child, which stands at row x of those from child j on
record Below (j : ℕ) (cs : Trees ℕ) (x : ℕ) (p : Path) : Type 0 where
  pub i : ℕ
  pub rest : Path
  pub row : ℕ
  pub child : Tree ℕ
  pub is : p ≡ (j + i) ∷ rest
  pub found : get_elem? (list cs) i ≡ some child
  pub inside : Stood child row rest
  pub at : size_all (take i (list cs)) + row ≡ x

below_next : (j : ℕ) (d : Tree ℕ) (cs : Trees ℕ) (x y : ℕ) (p : Path) → size d + y ≡ x → Below (suc j) cs y p → Below j (cons d cs) x p
unfolding list
below_next j d cs x y p e b = record {
  i = suc b.i;
  rest = b.rest;
  row = b.row;
  child = b.child;
  is = b.is ∙ ap {B = Path} (λ n. n ∷ b.rest) (omega arith);
  found = b.found;
  inside = b.inside;
  at = omega (arith, b.at, length-append (rows_of d) (rows_all (take b.i (list cs))));
}

mutual
  unfolding paths list resolve

  pub paths_stood : (t : Tree ℕ) (x : ℕ) (p : Path) → get_elem? (paths t) x ≡ some p → Stood t x p
  paths_stood (token k y) zero p g = rw (← some_inj g) (record { element = token k y; leads = refl; at = refl })
  paths_stood (token k y) (suc x) p g = none_some g
  paths_stood (node k cs) zero p g = rw (← some_inj g) (record { element = node k cs; leads = refl; at = refl })
  paths_stood (node k cs) (suc x) p g =
      let b = below_stood 0 cs x p g in
      let e : p ≡ b.i ∷ b.rest = b.is ∙ ap {B = Path} (λ n. n ∷ b.rest) (zero-add b.i) in
      rw e (record {
        element = b.inside.element;
        leads = resolve_at k cs b.i b.rest b.child b.found ∙ b.inside.leads;
        at = place_at k cs b.i b.rest b.child b.found ∙ omega (arith, b.at, b.inside.at);
      })

  below_stood : (j : ℕ) (cs : Trees ℕ) (x : ℕ) (p : Path) → get_elem? (paths_from j cs) x ≡ some p → Below j cs x p
  below_stood j nil x p g = none_some g
  below_stood j (cons d cs) x p g = go (lt_or_le x (size d)) (λ y z. paths_stood d x y z) (λ z. below_stood (suc j) cs (x - size d) p z)
    where
      go : (x < size d) ⊎ (size d ≤ x) → ((y : Path) → get_elem? (paths d) x ≡ some y → Stood d x y) → (get_elem? (paths_from (suc j) cs) (x - size d) ≡ some p → Below (suc j) cs (x - size d) p) → Below j (cons d cs) x p
      go (inl h) here rest =
          let (y, z, w) = map_get (λ p. j ∷ p) (paths d) x p (sym (get_left (down j (paths d)) (paths_from (suc j) cs) x (omega (arith, down_many j d))) ∙ g) in
          record { i = 0; rest = y; row = x; child = d; is = sym w ∙ ap {B = Path} (λ n. n ∷ y) (omega arith); found = refl; inside = here y z; at = omega arith }
      go (inr h) here rest =
          below_next j d cs x (x - size d) p (omega arith) (rest (sym (get_right (down j (paths d)) (paths_from (suc j) cs) x (x - size d) (omega (arith, down_many j d))) ∙ g))

-- ── Together ────────────────────────────────────────────────────────────────────────────────────────────────

-- what holds of the element at each index holds of each
pub each_get : {X : Type 0} (P : X → Type 0) (l : List X) → ((i : ℕ) (x : X) → get_elem? l i ≡ some x → P x) → All P l
each_get P [] f = tt
each_get P (x ∷ l) f = (f 0 x refl, each_get P l (λ i y g. f (suc i) y g))

pub paths_lead : (t : Tree ℕ) → All (λ p. (u : Tree ℕ) × (resolve p t ≡ some u)) (paths t)
paths_lead t = each_get _ (paths t) (λ i p g. let s = paths_stood t i p g in (s.element, s.leads))

up_from_take : (a n m : ℕ) → m ≤ n → take m (up_from a n) ≡ up_from a m
unfolding up_from
up_from_take a n zero h = refl
up_from_take a zero (suc m) h = absurd (omega arith)
up_from_take a (suc n) (suc m) h = ap (λ (l : List ℕ). a ∷ l) (up_from_take (suc a) n m (omega arith))

-- a part of them
pub up_from_part : (o a n m : ℕ) → o + m ≤ n → take m (drop o (up_from a n)) ≡ up_from (a + o) m
unfolding up_from
up_from_part zero a n m h = let e : a + 0 ≡ a = omega arith in rw e (up_from_take a n m (omega arith))
up_from_part (suc o) a zero m h = absurd (omega arith)
up_from_part (suc o) a (suc n) m h = let e : suc a + o ≡ a + suc o = omega arith in up_from_part o (suc a) n m (omega arith) ∙ ap (λ (x : ℕ). up_from x m) e

counted : {X : Type 0} (f : X → ℕ) (a : ℕ) (l : List X) → ((i : ℕ) (x : X) → get_elem? l i ≡ some x → f x ≡ a + i) → map f l ≡ up_from a (length l)
unfolding up_from
counted f a [] h = refl
counted f a (x ∷ l) h =
    let e : f x ≡ a = omega (arith, h 0 x refl) in
    rw (e, counted f (suc a) l (λ i y g. omega (arith, h (suc i) y g)))

-- the rows of the elements, in preorder, are 0, 1, 2 ..
pub places_count : (t : Tree ℕ) → map (λ p. place p t) (paths t) ≡ up_from 0 (size t)
places_count t = counted (λ p. place p t) 0 (paths t) (λ i p g. (paths_stood t i p g).at ∙ sym (zero-add i)) ∙ ap (up_from 0) (paths_many t)
