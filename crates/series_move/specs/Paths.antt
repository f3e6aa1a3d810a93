-- The path of a bookmark now is written, child number by child number.
-- Assumes nothing.
use Rattle.std.specs.Prelude.{◌≡◌, refl, Bool, true, false, not, eqb, List, [], ◌∷◌, ◌++◌, ℕ, suc, ◌+◌, ◌-◌, ◌^◌, ◌≤◌, ◌<◌, length, get_or, set, take}
use Rattle.std.proofs.Common.{sym, ap, ◌∙◌, add-one, arith, length-set, take_all, take-suc-set, eqb-true, eq-eqb}
use Rattle.std.proofs.Math.Option.{Option, none, some}
use Rattle.std.proofs.Math.Seq.{take-suc}
use Rattle.orders.specs.ListLaws.{bool_absurd}
use Rattle.orders.specs.Tree.{forest, Path}
use Rattle.definition_laws.specs.Running.{top}
use Rattle.rows_model.specs.Place.{place, mark_of}
use Rattle.rows_model.proofs.PlaceLaws.{place_child}
use Rattle.series_move.specs.Standing.{Tables, path_long, mark_at, mark_now, child_told, number_told}
use Rattle.series_move.specs.Found.{Stands, moved_by, moved_some, gone}

-- whether the element survives, and its path, which the first words of `out` are
pub record PathNow (source : List ℕ) (e : ℕ) (marks rows : List ℕ) (n : ℕ) (path out : List ℕ) (r : Bool) : Type 0 where
  pub dropped : r ≡ false → (s : Stands source e marks rows n path) → moved_by s ≡ none
  pub kept : r ≡ true → (s : Stands source e marks rows n path) → moved_by s ≡ some (0 ∷ take (length path) out)

-- the first j child numbers are written; the row at hand is that of the element to which those of the old path lead, and its mark
pub record Writing (source : List ℕ) (e : ℕ) (marks rows : List ℕ) (n : ℕ) (path out₀ out : List ℕ) (x mark j : ℕ) : Type 0 where
  pub bound : j ≤ length path
  pub same : length out ≡ length out₀
  pub small : mark < 2 ^ 32
  pub row : (s : Stands source e marks rows n path) → x ≡ place (0 ∷ take j path) (top s.stood.trees)
  pub stands : (s : Stands source e marks rows n path) → mark ≡ mark_of s.stood.world.trees (s.stood.follows.move (0 ∷ take j path))
  pub told : (s : Stands source e marks rows n path) (q : Path) → moved_by s ≡ some (0 ∷ q) → take j out ≡ take j q

module _ {source : List ℕ} {e : ℕ} {marks rows : List ℕ} {n : ℕ} {path : List ℕ} (s : Stands source e marks rows n path) where
  -- the mark of an element on the way, by its row
  marked : (j x : ℕ) → x ≡ place (0 ∷ take j path) (top s.stood.trees) → (1 ≤ x) × (get_or marks (x - 1) 0 ≡ mark_of s.stood.world.trees (s.stood.follows.move (0 ∷ take j path)))
  marked j x q =
      let (k, a, b, c) = mark_at s.stood path s.end s.leads j in
      let z : x - 1 ≡ k = omega (arith, q, b) in
      (omega (arith, q, b), ap (λ (i : ℕ). get_or marks i 0) z ∙ c)

pub writing_start : (source : List ℕ) (e : ℕ) (marks rows : List ℕ) (n : ℕ) (path out : List ℕ) {mark : ℕ} → (mark ≡ get_or marks 0 0) × (mark < 2 ^ 32) → Writing source e marks rows n path out out 1 mark 0
writing_start source e marks rows n path out m = record {
  bound = omega arith;
  same = refl;
  small = m.1;
  row = λ s. sym (place_child 2147483648 (forest s.stood.trees) 0);
  stands = λ s. m.0 ∙ (marked s 0 1 (sym (place_child 2147483648 (forest s.stood.trees) 0))).1;
  told = λ s q z. refl;
}

module _ {source : List ℕ} {e : ℕ} {marks rows : List ℕ} {n : ℕ} {path out₀ out : List ℕ} {x mark j : ℕ} (v : Writing source e marks rows n path out₀ out x mark j) {first child begun : List ℕ} (t : Tables source e rows n first child begun)
    (h : j < length path) {y : ℕ} (c : y ≡ get_or child (get_or first x 0 + get_or path j 0) 0)
  where
    row_next : (s : Stands source e marks rows n path) → y ≡ place (0 ∷ take (suc j) path) (top s.stood.trees)
    row_next s = c ∙ (ap (λ (r : ℕ). get_or child (get_or first r 0 + get_or path j 0) 0) (v.row s) ∙ child_told s.stood path s.end s.leads j h t.children)

    -- it has a row
    pub writing_row : Stands source e marks rows n path → 1 ≤ y
    writing_row s = (marked s (suc j) y (row_next s)).0

    -- one more child number
    pub writing_next : length path ≤ length out₀ → {here behind from r : ℕ} → (here ≡ get_or marks (y - 1) 0) × (here < 2 ^ 32) → behind ≡ get_or begun (mark + 1) 0 → from ≡ get_or begun here 0 → r ≡ behind - from
        → Writing source e marks rows n path out₀ (set out j r) y here (j + 1)
    writing_next room {here} {behind} {from} {r} m a b d = record {
      bound = omega arith;
      same = length-set out j r ∙ v.same;
      small = m.1;
      row = λ s. rw (add-one j) (row_next s);
      stands = λ s. rw (add-one j) (m.0 ∙ (marked s (suc j) y (row_next s)).1);
      told = λ s q z.
          let (k, l, p, is) = mark_now s.stood path s.end s.leads q z j (omega arith) in
          let (k', l', p', is') = mark_now s.stood path s.end s.leads q z (suc j) (omega arith) in
          let was : mark ≡ place (0 ∷ take j q) s.stood.world.trees = omega (arith, v.stands s, (marked s j x (v.row s)).1, is, p, v.row s, ap (λ (i : ℕ). get_or marks i 0) (before s p)) in
          let now : here ≡ place (0 ∷ take (suc j) q) s.stood.world.trees = omega (arith, m.0, is', ap (λ (i : ℕ). get_or marks i 0) (behind_it s p')) in
          let at : get_or begun (mark + 1) 0 ≡ get_or begun (suc (place (0 ∷ take j q) s.stood.world.trees)) 0 = let w : mark + 1 ≡ suc (place (0 ∷ take j q) s.stood.world.trees) = omega (arith, was) in ap (λ (i : ℕ). get_or begun i 0) w in
          let to : get_or begun here 0 ≡ get_or begun (place (0 ∷ take (suc j) q) s.stood.world.trees) 0 = ap (λ (i : ℕ). get_or begun i 0) now in
          let number : r ≡ get_or q j 0 = omega (arith, a, b, d, at, to, number_told s.stood path s.end s.leads q z j h t.trees) in
          let long : length q ≡ length path = path_long s.stood path s.end s.leads q z in
          rw (add-one j) (take-suc-set out j r (omega (arith, v.same)) ∙ (ap (λ (p : Path). p ++ (r ∷ [])) (v.told s q z) ∙ (ap (λ (k : ℕ). take j q ++ (k ∷ [])) number ∙ sym (take-suc q j 0 (omega (arith, long))))));
    }
      where
        before : (s : Stands source e marks rows n path) {k : ℕ} → place (0 ∷ take j path) (top s.stood.trees) ≡ suc k → x - 1 ≡ k
        before s p = omega (arith, v.row s)

        behind_it : (s : Stands source e marks rows n path) {k : ℕ} → place (0 ∷ take (suc j) path) (top s.stood.trees) ≡ suc k → y - 1 ≡ k
        behind_it s p = omega (arith, row_next s)

-- the test of a mark
is_zero : {m : ℕ} {q : Bool} → q ≡ not (eqb m 0) → q ≡ false → m ≡ 0
is_zero {m} t z = go (eqb m 0) refl (sym t ∙ z)
  where
    go : (b : Bool) → eqb m 0 ≡ b → not b ≡ false → m ≡ 0
    go true e z = eqb-true m 0 e
    go false e z = bool_absurd refl z

no_zero : {m : ℕ} {q : Bool} → q ≡ not (eqb m 0) → q ≡ true → ¬ (m ≡ 0)
no_zero {m} t z e = let w : false ≡ true = sym (t ∙ ap not (eq-eqb m 0 e)) ∙ z in bool_absurd w refl

-- at the end of the path
pub writing_done : {source : List ℕ} {e : ℕ} {marks rows : List ℕ} {n : ℕ} {path out₀ out : List ℕ} {x mark j : ℕ} → Writing source e marks rows n path out₀ out x mark j → length path ≤ j → {r : Bool} → r ≡ not (eqb mark 0) → PathNow source e marks rows n path out r
writing_done {source} {e} {marks} {rows} {n} {path} {out₀} {out} {x} {mark} {j} v h t =
    let all : take j path ≡ path = take_all j path h in
    let z : j ≡ length path = omega (arith, v.bound) in
    let is : (s : Stands source e marks rows n path) → mark ≡ mark_of s.stood.world.trees (moved_by s) = λ s. v.stands s ∙ ap (λ (p : Path). mark_of s.stood.world.trees (s.stood.follows.move (0 ∷ p))) all in
    record {
      dropped = λ e s. gone s (sym (is s) ∙ is_zero t e);
      kept = λ e s.
          let (q, m) = moved_some s (λ w. no_zero t e (is s ∙ w)) in
          let long : length q ≡ length path = path_long s.stood path s.end s.leads q m in
          m ∙ ap {B = Option Path} (λ (p : Path). some (0 ∷ p)) (sym (ap (λ (k : ℕ). take k out) (sym z) ∙ (v.told s q m ∙ take_all j q (omega (arith, long)))));
    }
