-- The loop of `read_tree`: its invariant, that it holds at the start and after a turn, and what it says at each way out.
-- Assumes nothing.
use mathlib.Core.Path.{◌≡◌, refl, sym, ap, ◌∙◌}
use mathlib.Core.Bool.{Bool, true, false, ◌&&◌}
use mathlib.Core.List.{List, [], ◌∷◌, ◌++◌, map, zip, append_assoc, append-nil}
use Prim.Native.Nat.{ℕ, zero, suc, ◌+◌, ◌-◌, ◌*◌, ◌≤◌, ◌<◌}
use native.Mathlib.Omega.{arith}
use lib.Dec.{eqb}
use lib.ListN.{length, get_or, set, take, replicate, length-set}
use lib.Seq.{set-get_or, paste, length-paste, take-paste}
use mathlib.Core.Logic.{inl, inr}
use Rattle.std.specs.Prelude.{Option, None, Some}
use Rattle.orders.specs.ListLaws.{bool_absurd, bool?, lt_or_le}
use Rattle.check_table.specs.declared.Next.{Next}
use Rattle.check_table.specs.declared.Open.{Open}
use Rattle.check_table.specs.Next.{Opened, Opens}
use Rattle.read_spelling.specs.Spelling.{children_of, length_of, stands, fills, accepts}
use Rattle.read_spelling.specs.SpellingLaws.{fills_close, stands_shallow, fills_open, fills_short, fills_long, fills_end, fills_over}
use Rattle.read_spelling.specs.Stack.{stack, stack_none, length_stack, stack_top, stack_push}
use Rattle.check_model.proofs.Pairing.{length_zip, pairs_from, pairs_more, pairs_none}
use Rattle.check_table.specs.Walk.{words_from, words_of, Reads}
use Rattle.check_table.specs.WalkLaws.{words_close, words_open, words_none}

-- what a store keeps below a bound
set_below : (l : List ℕ) (i x n : ℕ) → ((j : ℕ) → get_or l j 0 ≤ n) → x ≤ n → (j : ℕ) → get_or (set l i x) j 0 ≤ n
set_below [] i x n h k j = h j
set_below (y ∷ l) zero x n h k zero = k
set_below (y ∷ l) zero x n h k (suc j) = h (suc j)
set_below (y ∷ l) (suc i) x n h k zero = h 0
set_below (y ∷ l) (suc i) x n h k (suc j) = set_below l i x n (λ j'. h (suc j')) k j

-- the element that is told may be opened
pub opened : {kinds measures : List ℕ} {i d sum bytes : ℕ} {o : Option Next} {e : Next} → Opens kinds measures i d sum bytes o → o ≡ Some e → Opened kinds measures i d sum bytes e
opened w z = rw z at w

-- ── The loop ────────────────────────────────────────────────────────────────────────────────────────────────

module _ (kinds measures : List ℕ) (bytes : ℕ) where
  abbrev es : List (ℕ × ℕ)
  es = zip kinds measures

  -- after i elements the walk has these stacks, and the words of those elements stand in the table
  pub record Reading (table₀ table left owner : List ℕ) (d sum i : ℕ) : Type 0 where
    pub inside : i ≤ length kinds
    pub long : length left ≡ 65
    pub owners : length owner ≡ 65
    pub same : length table ≡ length table₀
    pub low : d ≤ 65
    pub few : sum ≤ bytes
    pub small : (j : ℕ) → get_or owner j 0 ≤ i
    pub verdict : accepts 1 bytes (zip kinds measures) ≡ fills bytes (stack 0 left d) sum (pairs_from kinds measures i)
    pub words : words_of (zip kinds measures) ≡ take (4 * i) table ++ words_from (stack 0 left d) (stack 0 owner d) i sum (pairs_from kinds measures i)

module _ {kinds measures : List ℕ} {bytes : ℕ} {table₀ table left owner : List ℕ} {d sum i : ℕ} (v : Reading kinds measures bytes table₀ table left owner d sum i) where
  -- an element to which no child is to come is closed
  pub reading_close : 0 < d → get_or left (d - 1) 0 ≡ 0 → Reading kinds measures bytes table₀ table left owner (d - 1) sum i
  reading_close h e =
      record {
        inside = v.inside;
        long = v.long;
        owners = v.owners;
        same = v.same;
        low = omega (arith, v.low);
        few = v.few;
        small = v.small;
        verdict = v.verdict ∙ rw (stack_top 0 left d h, e) (fills_close bytes (stack 0 left (d - 1)) sum (pairs_from kinds measures i));
        words = v.words ∙ rw (stack_top 0 left d h, stack_top 0 owner d h, e) (ap (λ (l : List ℕ). take (4 * i) table ++ l) (words_close (stack 0 left (d - 1)) (stack 0 owner (d - 1)) (get_or owner (d - 1) 0) i sum (pairs_from kinds measures i)));
      }

  -- it is not accepted
  rejects : {r : List ℕ} → accepts 1 bytes (zip kinds measures) ≡ false → Reads (zip kinds measures) bytes false r
  rejects e = record { verdict = sym e; words = λ q. bool_absurd q refl }

  -- none is open: the elements must be at their end, and the text as long as it should be
  module _ (alike : length measures ≡ length kinds) where
    pub reading_long : d ≤ 0 → i < length kinds → Reads (zip kinds measures) bytes false table
    reading_long h j = rejects (v.verdict ∙ rw (stack_none 0 left d h, pairs_more kinds measures i alike j) (fills_long bytes sum _ _))

    pub reading_end : d ≤ 0 → length kinds ≤ i → Reads (zip kinds measures) bytes (eqb sum bytes) table
    reading_end h j =
        let e : length kinds ≡ i = omega (arith, v.inside) in
        let f : 4 * length (zip kinds measures) ≡ 4 * i = omega (arith, length_zip kinds measures alike) in
        record {
          verdict = sym (v.verdict ∙ rw (stack_none 0 left d h, pairs_none kinds measures i (omega arith)) (fills_end bytes sum));
          words = λ q. rw f (sym (v.words ∙ rw (pairs_none kinds measures i (omega arith), words_none (stack 0 left d) (stack 0 owner d) i sum) (append-nil (take (4 * i) table))));
        }

    module _ (h : 0 < d) (ne : get_or left (d - 1) 0 ≡ 0 → ⊥) where
      top : stack 0 left d ≡ suc (get_or left (d - 1) 0 - 1) ∷ stack 0 left (d - 1)
      top = stack_top 0 left d h ∙ ap (λ x. x ∷ stack 0 left (d - 1)) (omega arith)

      -- a child is to come, and no element is left
      pub reading_short : length kinds ≤ i → Reads (zip kinds measures) bytes false table
      reading_short j = let e : length kinds ≡ i = omega (arith, v.inside) in rejects (v.verdict ∙ rw (top, pairs_none kinds measures i (omega arith)) (fills_short bytes _ _ sum))

      module _ (j : i < length kinds) {k m : ℕ} (ek : k ≡ get_or kinds i 0) (em : m ≡ get_or measures i 0) where
        -- the next element
        turn : accepts 1 bytes (zip kinds measures)
            ≡ (stands k d && fills bytes (children_of k m ∷ (get_or left (d - 1) 0 - 1) ∷ stack 0 left (d - 1)) (sum + length_of k m) (pairs_from kinds measures (i + 1)))
        turn =
            let e : suc (length (stack 0 left (d - 1))) ≡ d = omega (arith, length_stack 0 left (d - 1)) in
            v.verdict ∙ rw (top, pairs_more kinds measures i alike j, ← ek, ← em) (fills_open bytes _ (stack 0 left (d - 1)) sum k m _ d e)

        -- it may not stand there
        pub reading_wrong : {r : Bool} → r ≡ stands k d → r ≡ false → Reads (zip kinds measures) bytes false table
        reading_wrong {r} e q = let w : stands k d ≡ false = sym e ∙ q in rejects (turn ∙ rw w)

        module _ {r : Bool} {l : ℕ} (e : r ≡ stands k d) (q : r ≡ true) (el : l ≡ length_of k m) where
          may : stands k d ≡ true
          may = sym e ∙ q

          -- its text is too long
          pub reading_over : bytes < sum + l → Reads (zip kinds measures) bytes false table
          reading_over o = rejects (turn ∙ rw (may, ← el) (fills_over bytes (pairs_from kinds measures (i + 1)) (children_of k m ∷ (get_or left (d - 1) 0 - 1) ∷ stack 0 left (d - 1)) (sum + l) o))

          -- it is opened
          pub reading_open : {c sum' : ℕ} {table' : List ℕ} → c ≡ children_of k m → sum' ≡ sum + l → sum' ≤ bytes → 4 * length kinds ≤ length table₀ → table' ≡ paste table (4 * i) (k ∷ sum ∷ sum' ∷ get_or owner (d - 1) 0 ∷ []) 4
              → Reading kinds measures bytes table₀ table' (set (set left (d - 1) (get_or left (d - 1) 0 - 1)) d c) (set owner d (i + 1)) (d + 1) sum' (i + 1)
          reading_open {c} {sum'} {table'} ec es hs hl et = rw es (opened (rw es at et))
            where
              opened : table' ≡ paste table (4 * i) (k ∷ sum ∷ (sum + l) ∷ get_or owner (d - 1) 0 ∷ []) 4 → Reading kinds measures bytes table₀ table' (set (set left (d - 1) (get_or left (d - 1) 0 - 1)) d c) (set owner d (i + 1)) (d + 1) (sum + l) (i + 1)
              opened et =
                  let s = stands_shallow k d may in
                  let row : List ℕ = k ∷ sum ∷ (sum + l) ∷ get_or owner (d - 1) 0 ∷ [] in
                  let room : 4 * i + 4 ≤ length table = omega (arith, v.same) in
                  let four : 4 * (i + 1) ≡ 4 * i + 4 = omega arith in
                  let front : take (4 * (i + 1)) table' ≡ take (4 * i) table ++ row = rw (four, et) (take-paste table (4 * i) row 4 (omega arith) (omega arith)) in
                  let pushed : stack 0 (set owner d (i + 1)) (d + 1) ≡ (i + 1) ∷ get_or owner (d - 1) 0 ∷ stack 0 owner (d - 1) =
                  ap (λ (o : List ℕ). stack 0 (set o d (i + 1)) (d + 1)) (sym (set-get_or owner (d - 1) 0)) ∙ stack_push 0 owner d (get_or owner (d - 1) 0) (i + 1) h (omega (arith, v.owners)) in
                  record {
                    inside = omega arith;
                    long = simp length-set v.long;
                    owners = simp length-set v.owners;
                    same = ap length et ∙ (length-paste table (4 * i) row 4 room (omega arith) ∙ v.same);
                    low = omega arith;
                    few = omega (arith, es, hs);
                    small = set_below owner d (i + 1) (i + 1) (λ j. omega (arith, v.small j)) (omega arith);
                    verdict = turn ∙ rw (may, ← ec, ← el, stack_push 0 left d (get_or left (d - 1) 0 - 1) c h (omega (arith, v.long)));
                    words =
                        v.words ∙ rw (top, stack_top 0 owner d h, pairs_more kinds measures i alike j, ← ek, ← em, words_open _ (stack 0 left (d - 1)) (get_or owner (d - 1) 0) (stack 0 owner (d - 1)) i sum k m (pairs_from kinds measures (i + 1)), ← ec, ← el, front, stack_push 0 left d (get_or left (d - 1) 0 - 1) c h (omega (arith, v.long)), pushed)
                        (sym (append_assoc (take (4 * i) table) row _));
                  }

      module _ {o : Option Next} (w : Opens kinds measures i d sum bytes o) where
        -- the next element may not be opened
        pub reading_refused : o ≡ None → Reads (zip kinds measures) bytes false table
        reading_refused z = go (rw z at w)
          where
            go : (i < length kinds → stands (get_or kinds i 0) d ≡ true → bytes < sum + length_of (get_or kinds i 0) (get_or measures i 0)) → Reads (zip kinds measures) bytes false table
            go f = elim (lt_or_le i (length kinds)) [
              | inl j ↦ elim (bool? (stands (get_or kinds i 0) d)) [ inl q ↦ reading_over j refl refl refl q refl (f j q) | inr q ↦ reading_wrong j refl refl refl q ]
              | inr j ↦ reading_short j
            ]

        -- or it is
        pub reading_next : {e : Next} {table' : List ℕ} → o ≡ Some e → 4 * length kinds ≤ length table₀ → table' ≡ paste table (4 * i) (e.kind ∷ sum ∷ e.end ∷ get_or owner (d - 1) 0 ∷ []) 4
            → Reading kinds measures bytes table₀ table' (set (set left (d - 1) (get_or left (d - 1) 0 - 1)) d e.children) (set owner d (i + 1)) (d + 1) e.end (i + 1)
        reading_next {e} z hl et = let f : Opened kinds measures i d sum bytes e = opened w z in reading_open f.there f.kind refl refl f.stands refl f.children f.end f.fits hl et

-- ── Open elements as values ─────────────────────────────────────────────────────────────────────────────────

-- how many of its children are to come, and whose child comes next
abbrev pub lefts : List Open → List ℕ
lefts l = map (λ o. o.left) l

abbrev pub owners_of : List Open → List ℕ
owners_of l = map (λ o. o.owner) l

-- one of which there is none
abbrev pub shut : Open
shut = record { left = 0; owner = 0 }

map_set : (f : Open → ℕ) (l : List Open) (i : ℕ) (x : Open) → map f (set l i x) ≡ set (map f l) i (f x)
map_set f [] i x = refl
map_set f (y ∷ l) zero x = refl
map_set f (y ∷ l) (suc i) x = ap {B = List ℕ} (λ r. f y ∷ r) (map_set f l i x)

pub left_at : (l : List Open) (i : ℕ) → get_or (lefts l) i 0 ≡ (get_or l i shut).left
left_at [] i = refl
left_at (y ∷ l) zero = refl
left_at (y ∷ l) (suc i) = left_at l i

pub owner_at : (l : List Open) (i : ℕ) → get_or (owners_of l) i 0 ≡ (get_or l i shut).owner
owner_at [] i = refl
owner_at (y ∷ l) zero = refl
owner_at (y ∷ l) (suc i) = owner_at l i

-- that above the tree, whose one child is the root
abbrev pub above : Open
above = record { left = 1; owner = 0 }

none_above : (m j : ℕ) → get_or (owners_of (replicate m above)) j 0 ≤ 0
none_above zero j = omega arith
none_above (suc m) zero = omega arith
none_above (suc m) (suc j) = none_above m j

module _ (kinds measures : List ℕ) (bytes : ℕ) (table : List ℕ) where
  pub walk_start : Reading kinds measures bytes table table (lefts (replicate 65 above)) (owners_of (replicate 65 above)) 1 0 0
  unfolding accepts stack words_of pairs_from
  walk_start = record { inside = omega arith; long = refl; owners = refl; same = refl; low = omega arith; few = omega arith; small = none_above 65; verdict = refl; words = refl }

module _ {kinds measures : List ℕ} {bytes : ℕ} {table₀ table : List ℕ} (open' : List Open) {d sum i : ℕ} (v : Reading kinds measures bytes table₀ table (lefts open') (owners_of open') d sum i) where
  pub walk_close : 0 < d → (get_or open' (d - 1) shut).left ≡ 0 → Reading kinds measures bytes table₀ table (lefts open') (owners_of open') (d - 1) sum i
  walk_close h e = reading_close v h (left_at open' (d - 1) ∙ e)

  pub walk_owner : (j : ℕ) → (get_or open' j shut).owner ≤ i
  walk_owner j = omega (arith, v.small j, owner_at open' j)

  module _ (alike : length measures ≡ length kinds) (h : 0 < d) (ne : (get_or open' (d - 1) shut).left ≡ 0 → ⊥) {o : Option Next} (w : Opens kinds measures i d sum bytes o) where
    pub walk_refused : o ≡ None → Reads (zip kinds measures) bytes false table
    walk_refused z = reading_refused v alike h (λ q. ne (sym (left_at open' (d - 1)) ∙ q)) w z

    pub walk_next : {e : Next} {table' : List ℕ} → o ≡ Some e → 4 * length kinds ≤ length table₀ → table' ≡ paste table (4 * i) (e.kind ∷ sum ∷ e.end ∷ (get_or open' (d - 1) shut).owner ∷ []) 4
        → Reading kinds measures bytes table₀ table'
        (lefts (set (set open' (d - 1) (record { left = (get_or open' (d - 1) shut).left - 1; owner = (get_or open' (d - 1) shut).owner })) d (record { left = e.children; owner = i + 1 })))
        (owners_of (set (set open' (d - 1) (record { left = (get_or open' (d - 1) shut).left - 1; owner = (get_or open' (d - 1) shut).owner })) d (record { left = e.children; owner = i + 1 })))
        (d + 1) e.end (i + 1)
    walk_next {e} {table'} z hl et =
        let x : Open = record { left = (get_or open' (d - 1) shut).left - 1; owner = (get_or open' (d - 1) shut).owner } in
        let y : Open = record { left = e.children; owner = i + 1 } in
        let p : lefts (set (set open' (d - 1) x) d y) ≡ set (set (lefts open') (d - 1) (get_or (lefts open') (d - 1) 0 - 1)) d e.children =
        map_set (λ o. o.left) (set open' (d - 1) x) d y ∙ ap (λ (l : List ℕ). set l d e.children) (map_set (λ o. o.left) open' (d - 1) x ∙ ap (λ (n : ℕ). set (lefts open') (d - 1) (n - 1)) (sym (left_at open' (d - 1)))) in
        let q : owners_of (set (set open' (d - 1) x) d y) ≡ set (owners_of open') d (i + 1) =
        map_set (λ o. o.owner) (set open' (d - 1) x) d y
        ∙ ap (λ (l : List ℕ). set l d (i + 1)) (map_set (λ o. o.owner) open' (d - 1) x ∙ (ap (λ (n : ℕ). set (owners_of open') (d - 1) n) (sym (owner_at open' (d - 1))) ∙ set-get_or (owners_of open') (d - 1) 0)) in
        let t : table' ≡ paste table (4 * i) (e.kind ∷ sum ∷ e.end ∷ get_or (owners_of open') (d - 1) 0 ∷ []) 4 = et ∙ ap (λ (n : ℕ). paste table (4 * i) (e.kind ∷ sum ∷ e.end ∷ n ∷ []) 4) (sym (owner_at open' (d - 1))) in
        rw (p, q) (reading_next v alike h (λ n. ne (sym (left_at open' (d - 1)) ∙ n)) w z hl t)
