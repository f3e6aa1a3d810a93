-- The loop of `fill_elements`: its invariant, that it holds at the start and after a turn, and what it says at the end.
-- Assumes nothing.
use mathlib.Core.Path.{◌≡◌, refl, sym, ap, ◌∙◌}
use mathlib.Core.Bool.{Bool, true, false, cond, not, ◌&&◌, ◌||◌}
use mathlib.Core.Logic.{◌⊎◌, inl, inr}
use mathlib.Core.List.{List, [], ◌∷◌, ◌++◌, map}
use Prim.Native.Nat.{ℕ, zero, suc, ◌+◌, ◌-◌, ◌*◌, ◌≤◌, ◌<◌}
use native.Mathlib.Nat.{zero-add, add-zero}
use native.Mathlib.Omega.{arith}
use borrow.Author.Tests.{ne_eqb, lt-leb, ltb-true}
use lib.Dec.{eqb, leb, ltb}
use lib.ListN.{length, get_or, set, take, drop, replicate, length-set, length-map, take-append-drop, length-drop}
use lib.Seq.{length-take-le, paste, paste-zero, take-paste, drop-paste, drop-drop, take-take, take-set-lt, drop-set-lt}
use Rattle.orders.specs.ListLaws.{lt_or_le, both_true}
use Rattle.definition.specs.Words.{word}
use Rattle.definition.specs.Elements.{is_node, malformed}
use Rattle.words.specs.Parts.{paste_on, paste_paste}
use Rattle.read_element_table.specs.declared.Open.{Open}
use Rattle.read_spelling.specs.Spelling.{elements_at, children_of, length_of, stands, fills, accepts}
use Rattle.read_spelling.specs.SpellingLaws.{children_token, children_node, length_token, length_node, stands_shallow, fills_close, fills_open, fills_short, fills_long, fills_over, fills_end}
use Rattle.read_element_table.specs.Filling.{open_of, ended, if_root, table_from, table_of, rows_from, source_of}
use Rattle.read_element_table.specs.FillingLaws.{table_close, table_open, table_end, ended_at}
use Rattle.read_spelling.specs.Stack.{held, held_none, length_held, held_top, held_push, elements_from, elements_all, elements_none, elements_more}

-- no open element
abbrev pub shut : Open
shut = open_of 0 0 0

-- how many children are to come, of each open element
abbrev pub counts : List Open → List ℕ
counts s = map (λ x. x.left) s

-- what a root sets
root_first : (l : List Open) (z : Open) (d x y : ℕ) → 0 < d → if_root (held shut l z (d - 1)) x y ≡ cond (eqb d 1) x y
unfolding if_root held
root_first l z zero x y h = absurd (omega arith)
root_first l z (suc zero) x y h = refl
root_first l z (suc (suc d)) x y h =
    let e : suc (suc d) - 1 ≡ suc d = omega arith in
    rw (e, ne_eqb (suc (suc d)) 1 (λ q. omega arith))

cond_le : (t : Bool) (x y n : ℕ) → x ≤ n → y ≤ n → cond t x y ≤ n
cond_le true x y n h k = h
cond_le false x y n h k = k

-- a token that may stand there is no root
no_root : (k d : ℕ) → stands k d ≡ true → k < 0x8000_0000 → 1 < d
unfolding stands is_node
no_root k d z h =
    let deep : (leb 0x8000_0000 k || ltb 1 d) ≡ true = (both_true (leb d 64) _ (both_true (not (malformed k)) _ z).1).1 in
    ltb-true 1 d (rw (lt-leb 0x8000_0000 k h) at deep)

-- a bound on all that an array holds, after a store
bounded : (f : Open → ℕ) (l : List Open) (i : ℕ) (x : Open) (n : ℕ) → ((j : ℕ) → f (get_or l j shut) ≤ n) → f x ≤ n → (j : ℕ) → f (get_or (set l i x) j shut) ≤ n
bounded f [] i x n h k j = h j
bounded f (y ∷ l) zero x n h k zero = k
bounded f (y ∷ l) zero x n h k (suc j) = h (suc j)
bounded f (y ∷ l) (suc i) x n h k zero = h 0
bounded f (y ∷ l) (suc i) x n h k (suc j) = bounded f l i x n (λ j'. h (suc j')) k j

-- the words of a closed element, before element i
module _ (end after i : ℕ) (l : List ℕ) where
  take_ended : (p : ℕ) → p ≤ i → take (8 * i) (ended p end after l) ≡ ended p end after (take (8 * i) l)
  unfolding ended
  take_ended zero h = refl
  take_ended (suc e) h = rw (take-set-lt (8 * i) (set l (8 * e + 5) end) (8 * e + 6) after (omega arith), take-set-lt (8 * i) l (8 * e + 5) end (omega arith))

  drop_ended : (p : ℕ) → p ≤ i → drop (8 * i) (ended p end after l) ≡ drop (8 * i) l
  unfolding ended
  drop_ended zero h = refl
  drop_ended (suc e) h = rw (drop-set-lt (8 * i) (set l (8 * e + 5) end) (8 * e + 6) after (omega arith), drop-set-lt (8 * i) l (8 * e + 5) end (omega arith))

module _ (b : List ℕ) (kinds measures n trees bytes : ℕ) where
  -- i elements are written, and those on the stack, the innermost of them x, are not closed yet
  pub record Writing (table₀ source₀ table source : List ℕ) (open' : List Open) (x : Open) (d o at tree i : ℕ) : Type 0 where
    pub inside : i ≤ n
    pub long : length open' ≡ 65
    pub low : d ≤ 65
    pub few : o ≤ bytes
    pub starts : at ≤ o
    pub number : tree ≤ i
    pub owner : x.owner ≤ i
    pub next : x.next ≤ i
    pub owners : (j : ℕ) → (get_or open' j shut).owner ≤ i
    pub nexts : (j : ℕ) → (get_or open' j shut).next ≤ i
    pub table_long : length table ≡ length table₀
    pub source_long : length source ≡ length source₀
    pub verdict : accepts trees bytes (elements_at b kinds measures n) ≡ fills bytes (counts (held shut open' x d)) o (elements_from b kinds measures n i)
    pub walked : table_from (held shut open' x d) i o at tree (take (8 * i) table) (elements_from b kinds measures n i) ≡ table_of trees (elements_from b kinds measures n 0)
    pub beyond : drop (8 * i) table ≡ drop (8 * i) table₀
    pub rows_left : drop (3 * i) (rows_from 0 (elements_from b kinds measures n 0)) ≡ rows_from o (elements_from b kinds measures n i)
    pub rows : source ≡ paste source₀ 3 (rows_from 0 (elements_from b kinds measures n 0)) (3 * i)

  same : (f : Open → ℕ) (x : Open) (n m j : ℕ) → f shut ≤ n → f x ≤ n → f (get_or (replicate m x) j shut) ≤ n
  same f x n zero j h k = h
  same f x n (suc m) zero h k = k
  same f x n (suc m) (suc j) h k = same f x n m j h k

  pub writing_start : {table source : List ℕ} {x : Open} → x ≡ open_of trees 0 0 → Writing table source table source (replicate 65 x) x 1 0 0 0 0
  unfolding held accepts table_of
  writing_start {table} {source} {x} e =
      let z : x.owner ≤ 0 = rw e (omega arith) in
      let y : x.next ≤ 0 = rw e (omega arith) in
      record {
        inside = omega arith;
        long = refl;
        low = omega arith;
        few = omega arith;
        starts = omega arith;
        number = omega arith;
        owner = z;
        next = y;
        owners = λ j. same (λ f. f.owner) x 0 65 j (omega arith) z;
        nexts = λ j. same (λ f. f.next) x 0 65 j (omega arith) y;
        table_long = refl;
        source_long = refl;
        verdict = rw e (ap (fills bytes (trees ∷ []) 0) (sym (elements_all b kinds measures n)));
        walked = rw e;
        beyond = refl;
        rows_left = refl;
        rows = paste-zero source 3 (rows_from 0 (elements_from b kinds measures n 0));
      }

module _ {b : List ℕ} {kinds measures n trees bytes : ℕ} {table₀ source₀ table source : List ℕ} {open' : List Open} {x : Open} {d o at tree i : ℕ} (v : Writing b kinds measures n trees bytes table₀ source₀ table source open' x d o at tree i) where
  -- an element to which no child is to come is closed
  pub writing_close : {table' : List ℕ} → 0 < d → x.left ≡ 0 → length table' ≡ length table → table' ≡ ended x.owner at i table
      → Writing b kinds measures n trees bytes table₀ source₀ table' source open' (get_or open' (d - 1) shut) (d - 1) o at tree i
  writing_close {table'} h e l q =
      let s : List Open = held shut open' (get_or open' (d - 1) shut) (d - 1) in
      let es : List (ℕ × ℕ) = elements_from b kinds measures n i in
      let f : fills bytes (counts (held shut open' x d)) o es ≡ fills bytes (counts s) o es = rw (held_top shut open' x d h, e) (fills_close bytes (counts s) o es) in
      let g : table_from (held shut open' x d) i o at tree (take (8 * i) table) es ≡ table_from s i o at tree (take (8 * i) table') es = rw (held_top shut open' x d h, q, take_ended at i i table x.owner (v.owner)) (table_close x s i o at tree (take (8 * i) table) es e) in
      record {
        inside = v.inside;
        long = v.long;
        low = omega (arith, v.low);
        few = v.few;
        starts = v.starts;
        number = v.number;
        owner = v.owners (d - 1);
        next = v.nexts (d - 1);
        owners = v.owners;
        nexts = v.nexts;
        table_long = l ∙ v.table_long;
        source_long = v.source_long;
        verdict = v.verdict ∙ f;
        walked = sym g ∙ v.walked;
        beyond = rw q (drop_ended at i i table x.owner v.owner ∙ v.beyond);
        rows_left = v.rows_left;
        rows = v.rows;
      }

  -- none is open: all is written
  over : d ≤ 0 → held shut open' x d ≡ []
  over h = held_none shut open' x d h

  -- elements that are left are too many
  pub writing_long : d ≤ 0 → (i ≡ n → ⊥) → eqb i n ≡ accepts trees bytes (elements_at b kinds measures n)
  writing_long h ne =
      let q : i < n = omega (arith, v.inside) in
      ne_eqb i n ne ∙ sym (v.verdict ∙ rw (over h, elements_more b kinds measures n i q) (fills_long bytes o _ _))

  -- all are written: the text must be as long as it should be
  pub writing_end : d ≤ 0 → n ≤ i → eqb o bytes ≡ accepts trees bytes (elements_at b kinds measures n)
  writing_end h q = sym (v.verdict ∙ rw (over h, elements_none b kinds measures n i q) (fills_end bytes o))

  module _ (h : d ≤ 0) (q : n ≤ i) where
    all : i ≡ n
    all = omega (arith, v.inside)

    pub writing_table : table ≡ paste table₀ 0 (table_of trees (elements_at b kinds measures n)) (8 * n)
    writing_table =
        let w : List ℕ = take (8 * i) table in
        let es : List (ℕ × ℕ) = elements_from b kinds measures n 0 in
        let whole : w ≡ table_of trees es = sym (rw (over h, elements_none b kinds measures n i q) (table_end i o at tree w)) ∙ v.walked in
        let e : table ≡ paste table₀ 0 (table_of trees es) (8 * i) = rw (← whole, take-take (8 * i) (8 * i) table (omega arith), zero-add (8 * i), ← v.beyond) (sym (take-append-drop (8 * i) table)) in
        e ∙ (ap (λ m. paste table₀ 0 (table_of trees es) (8 * m)) all ∙ rw (elements_all b kinds measures n))

    pub writing_rows : source ≡ paste source₀ 3 (rows_from 0 (elements_at b kinds measures n)) (3 * n)
    writing_rows = v.rows ∙ (ap (λ m. paste source₀ 3 (rows_from 0 (elements_from b kinds measures n 0)) (3 * m)) all ∙ rw (elements_all b kinds measures n))

  -- where the text of the next element starts in its own tree, and that tree's number
  pub writing_start_of : {s : ℕ} → s ≡ cond (eqb d 1) 0 at → s ≤ o
  writing_start_of e = rw e (cond_le (eqb d 1) 0 at o (omega arith) v.starts)

  pub writing_tree_of : {t : ℕ} → t ≡ cond (eqb d 1) x.next tree → t ≤ i
  writing_tree_of e = rw e (cond_le (eqb d 1) x.next tree i v.next v.number)

  -- the rows of all elements
  r : List ℕ
  r = rows_from 0 (elements_from b kinds measures n 0)

  -- a child is to come
  module _ (h : 0 < d) (ne : x.left ≡ 0 → ⊥) where
    below : List Open
    below = held shut open' (get_or open' (d - 1) shut) (d - 1)

    l : ℕ
    l = x.left - 1

    some_left : x.left ≡ suc l
    unfolding l
    some_left = omega arith

    top : counts (held shut open' x d) ≡ suc l ∷ counts below
    unfolding below l
    top = rw (held_top shut open' x d h) (ap (λ y. y ∷ counts below) some_left)

    -- none is left
    pub writing_short : n ≤ i → false ≡ accepts trees bytes (elements_at b kinds measures n)
    writing_short q = sym (v.verdict ∙ rw (top, elements_none b kinds measures n i q) (fills_short bytes l (counts below) o))

    -- the words of its row
    row : ℕ → ℕ → ℕ → List ℕ
    row s end t = o ∷ x.owner ∷ x.next ∷ d ∷ s ∷ end ∷ (i + 1) ∷ t ∷ []

    -- an element is left
    module _ (q : i < n) where
      module _ {table' : List ℕ} (s end t : ℕ) (ht : 8 * n ≤ length table₀) (qt : table' ≡ paste table (8 * i) (row s end t) 8) where
        front : take (8 * (i + 1)) table' ≡ take (8 * i) table ++ row s end t
        unfolding row
        front =
            let e₈ : 8 * (i + 1) ≡ 8 * i + 8 = omega arith in
            rw (qt, e₈) (take-paste table (8 * i) (row s end t) 8 (omega (arith, v.table_long)) (omega arith))

        back : drop (8 * (i + 1)) table' ≡ drop (8 * (i + 1)) table₀
        unfolding row
        back =
            let e₈ : 8 * (i + 1) ≡ 8 * i + 8 = omega arith in
            rw (qt, e₈) (drop-paste table (8 * i) (row s end t) 8 (omega (arith, v.table_long)) (omega arith) ∙ rw (← drop-drop 8 (8 * i) table, ← drop-drop 8 (8 * i) table₀, v.beyond))

      module _ {k m : ℕ} (ek : k ≡ word (drop (kinds + 4 * i) b)) (em : m ≡ word (drop (measures + 4 * i) b)) where
        turn : accepts trees bytes (elements_at b kinds measures n) ≡ (stands k d && fills bytes (children_of k m ∷ l ∷ counts below) (o + length_of k m) (elements_from b kinds measures n (i + 1)))
        unfolding below
        turn =
            let e : suc (length (counts below)) ≡ d = omega (arith, length-map below (λ y. y.left), length_held shut open' (get_or open' (d - 1) shut) (d - 1)) in
            v.verdict ∙ rw (top, elements_more b kinds measures n i q, ← ek, ← em) (fills_open bytes l (counts below) o k m _ d e)

        walked' : (s t : ℕ) (w : List ℕ) → s ≡ cond (eqb d 1) 0 at → t ≡ cond (eqb d 1) x.next tree
            → table_from (held shut open' x d) i o at tree w (elements_from b kinds measures n i)
            ≡ table_from (open_of (children_of k m) (i + 1) 0 ∷ open_of l x.owner (x.next + 1) ∷ below) (i + 1) (o + length_of k m) (s + length_of k m) t (w ++ row s (s + length_of k m) t) (elements_from b kinds measures n (i + 1))
        unfolding below row
        walked' s t w es et =
            let z : Open = get_or open' (d - 1) shut in
            let e : length below + 1 ≡ d = omega (arith, length_held shut open' z (d - 1)) in
            let f : if_root below 0 at ≡ s = root_first open' z d 0 at h ∙ sym es in
            let g : if_root below x.next tree ≡ t = root_first open' z d x.next tree h ∙ sym et in
            rw (held_top shut open' x d h, elements_more b kinds measures n i q, ← ek, ← em) (table_open x below i o at tree w l k m _ some_left ∙ rw (e, f, g))

        rows_next : drop (3 * i) (rows_from 0 (elements_from b kinds measures n 0)) ≡ k ∷ m ∷ o ∷ rows_from (o + length_of k m) (elements_from b kinds measures n (i + 1))
        unfolding rows_from
        rows_next = v.rows_left ∙ rw (elements_more b kinds measures n i q, ← ek, ← em)

        rows_left' : drop (3 * (i + 1)) r ≡ rows_from (o + length_of k m) (elements_from b kinds measures n (i + 1))
        unfolding r
        rows_left' = let e₃ : 3 * (i + 1) ≡ 3 * i + 3 = omega arith in rw (e₃, ← drop-drop 3 (3 * i) r, rows_next)

        rows' : {source' : List ℕ} → 3 * (n + 1) ≤ length source₀ → source' ≡ paste source (3 * (i + 1)) (k ∷ m ∷ o ∷ []) 3 → source' ≡ paste source₀ 3 r (3 * (i + 1))
        unfolding r
        rows' hs qs =
            let lr : 3 * i ≤ length r = omega (arith, length-drop (3 * i) r, ap length rows_next) in
            rw (qs, v.rows) (paste_on source₀ 3 r (3 * i) (k ∷ m ∷ o ∷ []) 3 (3 * (i + 1)) (3 * (i + 1)) (omega arith) (omega arith) (omega arith) lr (rw rows_next))

        -- it may not stand there
        pub writing_wrong : stands k d ≡ false → false ≡ accepts trees bytes (elements_at b kinds measures n)
        writing_wrong z = sym (turn ∙ rw z)

        -- it may: it is no deeper than 64, and no root if it is a token
        module _ (z : stands k d ≡ true) where
          pub writing_shallow : d ≤ 64
          writing_shallow = stands_shallow k d z

          filled : accepts trees bytes (elements_at b kinds measures n) ≡ fills bytes (children_of k m ∷ l ∷ counts below) (o + length_of k m) (elements_from b kinds measures n (i + 1))
          filled = turn ∙ rw z

          -- there is no room for its text
          pub writing_over : k < 0x8000_0000 → bytes - o < m → false ≡ accepts trees bytes (elements_at b kinds measures n)
          writing_over t p = sym (filled ∙ fills_over bytes (elements_from b kinds measures n (i + 1)) (children_of k m ∷ l ∷ counts below) (o + length_of k m) (omega (arith, length_token k m t)))

          module _ (tx : o + length_of k m ≤ bytes) where
            -- the next element is written
            module _ {s t y : ℕ} {table' source' : List ℕ} {f : Open} (es : s ≡ cond (eqb d 1) 0 at) (et : t ≡ cond (eqb d 1) x.next tree) (ey : y ≡ length_of k m)
                (lt : length table' ≡ length table) (qt : table' ≡ paste table (8 * i) (o ∷ x.owner ∷ x.next ∷ d ∷ s ∷ (s + y) ∷ (i + 1) ∷ t ∷ []) 8)
                (ls : length source' ≡ length source) (qs : source' ≡ paste source (3 * (i + 1)) (k ∷ m ∷ o ∷ []) 3)
                (ef : f ≡ open_of (x.left - 1) x.owner (x.next + 1)) (ht : 8 * n ≤ length table₀) (hs : 3 * (n + 1) ≤ length source₀) where
              -- a token is opened and closed
              entered_token : k < 0x8000_0000 → Writing b kinds measures n trees bytes table₀ source₀ table' source' open' f d (o + y) (s + y) t (i + 1)
              unfolding below l row r
              entered_token z =
                  let cs = elements_from b kinds measures n (i + 1) in
                  let w : List ℕ = take (8 * i) table in
                  let p : Open = open_of l x.owner (x.next + 1) in
                  let c₀ = children_token k m z in
                  let n₀ : ℕ = length_of k m in
                  let lw : length w ≡ 8 * i = length-take-le (8 * i) table (omega (arith, v.table_long)) in
                  let put : held shut open' f d ≡ p ∷ below = rw (← ef) (held_top shut open' f d h) in
                  let full : accepts trees bytes (elements_at b kinds measures n) ≡ fills bytes (0 ∷ l ∷ counts below) (o + n₀) cs = rw c₀ at filled in
                  let closed : table_from (held shut open' x d) i o at tree w (elements_from b kinds measures n i) ≡ table_from (p ∷ below) (i + 1) (o + n₀) (s + n₀) t (w ++ row s (s + n₀) t) cs =
                  walked' s t w es et ∙ rw c₀ (table_close (open_of 0 (i + 1) 0) (p ∷ below) (i + 1) (o + n₀) (s + n₀) t (w ++ row s (s + n₀) t) cs refl ∙ rw (ended_at w [] i o x.owner x.next d s (s + n₀) (i + 1) t (s + n₀) (i + 1) lw)) in
                  record {
                    inside = omega arith;
                    long = v.long;
                    low = v.low;
                    few = omega arith;
                    starts = omega (arith, writing_start_of es);
                    number = omega (arith, writing_tree_of et);
                    owner = rw ef (omega (arith, v.owner));
                    next = rw ef (omega (arith, v.next));
                    owners = λ j. omega (arith, v.owners j);
                    nexts = λ j. omega (arith, v.nexts j);
                    table_long = lt ∙ v.table_long;
                    source_long = ls ∙ v.source_long;
                    verdict = rw (put, ey) (full ∙ fills_close bytes (l ∷ counts below) (o + n₀) cs);
                    walked = rw (put, front s (s + y) t ht qt, ey) (sym closed ∙ v.walked);
                    beyond = back s (s + y) t ht qt;
                    rows_left = rows_left' ∙ rw ey;
                    rows = rows' hs qs;
                  }

              -- a node is opened
              entered_node : {g : Open} → 0x8000_0000 ≤ k → g ≡ open_of m (i + 1) 0 → Writing b kinds measures n trees bytes table₀ source₀ table' source' (set open' d f) g (d + 1) (o + y) (s + y) t (i + 1)
              unfolding below l row r
              entered_node {g} z eg =
                  let sh = writing_shallow in
                  let c₀ = children_node k m z in
                  let push : held shut (set open' d f) g (d + 1) ≡ open_of m (i + 1) 0 ∷ open_of l x.owner (x.next + 1) ∷ below =
                  rw (← ef, ← eg) (held_push shut open' g f d (omega (arith, v.long)) ∙ ap (λ z. g ∷ z) (held_top shut open' f d h)) in
                  record {
                    inside = omega arith;
                    long = simp length-set v.long;
                    low = omega arith;
                    few = omega arith;
                    starts = omega (arith, writing_start_of es);
                    number = omega (arith, writing_tree_of et);
                    owner = rw eg (omega arith);
                    next = rw eg (omega arith);
                    owners = bounded (λ z. z.owner) open' d f (i + 1) (λ j. omega (arith, v.owners j)) (rw ef (omega (arith, v.owner)));
                    nexts = bounded (λ z. z.next) open' d f (i + 1) (λ j. omega (arith, v.nexts j)) (rw ef (omega (arith, v.next)));
                    table_long = lt ∙ v.table_long;
                    source_long = ls ∙ v.source_long;
                    verdict = rw (push, ey) (rw c₀ at filled);
                    walked = rw (push, front s (s + y) t ht qt, ey) (sym (walked' s t (take (8 * i) table) es et ∙ rw c₀) ∙ v.walked);
                    beyond = back s (s + y) t ht qt;
                    rows_left = rows_left' ∙ rw ey;
                    rows = rows' hs qs;
                  }

          module _ {table' source' : List ℕ} {f : Open} (ls : length source' ≡ length source) (qs : source' ≡ paste source (3 * (i + 1)) (k ∷ m ∷ o ∷ []) 3)
              (lt : length table' ≡ length table) (ef : f ≡ open_of (x.left - 1) x.owner (x.next + 1)) (ht : 8 * n ≤ length table₀) (hs : 3 * (n + 1) ≤ length source₀) where
            -- a token is opened and closed
            pub writing_token : k < 0x8000_0000 → m ≤ bytes - o → table' ≡ paste table (8 * i) (o ∷ x.owner ∷ x.next ∷ d ∷ at ∷ (at + m) ∷ (i + 1) ∷ tree ∷ []) 8
                → Writing b kinds measures n trees bytes table₀ source₀ table' source' open' f d (o + m) (at + m) tree (i + 1)
            writing_token y room qt =
                let own = length_token k m y in
                let deep : eqb d 1 ≡ false = ne_eqb d 1 (λ e. omega (arith, no_root k d z y)) in
                entered_token (omega (arith, own, v.few)) (rw deep) (rw deep) (sym own) lt qt ls qs ef ht hs y

            -- a node is opened
            pub writing_node : {s t : ℕ} {g : Open} → s ≡ cond (eqb d 1) 0 at → t ≡ cond (eqb d 1) x.next tree → 0x8000_0000 ≤ k → g ≡ open_of m (i + 1) 0
                → table' ≡ paste table (8 * i) (o ∷ x.owner ∷ x.next ∷ d ∷ s ∷ s ∷ (i + 1) ∷ t ∷ []) 8
                → Writing b kinds measures n trees bytes table₀ source₀ table' source' (set open' d f) g (d + 1) o s t (i + 1)
            writing_node {s} {t} es et y eg qt =
                let own = length_node k m y in
                rw (add-zero o, add-zero s) at (entered_node (omega (arith, own, v.few)) es et (sym own) lt (rw (add-zero s) qt) ls qs ef ht hs y eg)

  -- none is left, or it may not stand there
  pub writing_refused : 0 < d → (x.left ≡ 0 → ⊥) → (i < n → stands (word (drop (kinds + 4 * i) b)) d ≡ false) → false ≡ accepts trees bytes (elements_at b kinds measures n)
  writing_refused h ne f = go (lt_or_le i n)
    where
      go : (i < n) ⊎ (n ≤ i) → false ≡ accepts trees bytes (elements_at b kinds measures n)
      go (inl q) = writing_wrong h ne q {k = word (drop (kinds + 4 * i) b)} {m = word (drop (measures + 4 * i) b)} refl refl (f q)
      go (inr q) = writing_short h ne q

-- the rows behind the first one
pub rows_behind : (trees n : ℕ) (es : List (ℕ × ℕ)) (source₀ source₁ source₂ : List ℕ) → 3 * (n + 1) ≤ length source₀ → source₁ ≡ paste source₀ 0 (2147483648 ∷ trees ∷ 0 ∷ []) 3 → source₂ ≡ paste source₁ 3 (rows_from 0 es) (3 * n)
    → source₂ ≡ paste source₀ 0 (source_of trees es) (3 * (n + 1))
unfolding source_of
rows_behind trees n es source₀ source₁ source₂ h e f =
    f ∙ rw e (paste_paste source₀ 0 (2147483648 ∷ trees ∷ 0 ∷ []) 3 (rows_from 0 es) (3 * n) 3 (3 * (n + 1)) (omega arith) (omega arith) (omega arith) (omega arith) refl)
