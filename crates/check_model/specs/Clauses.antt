-- The clauses of the checker on words. The elements of a tree are four words each in a slice (`entry`); partners and marks are one word each, by new element.
-- Assumes nothing.
use Rattle.std.specs.Prelude.{Bool, true, false, cond, not, ◌&&◌, ◌||◌, List, [], ◌∷◌, ℕ, zero, suc, ◌+◌, ◌-◌, ◌*◌, get_or, set, take, drop, replicate, ltb, eqb}
use Rattle.definition.specs.Elements.{is_node}
use Rattle.check_laws.specs.Check.{every, same_bytes}

-- word k of element e: 0 its kind word, 1 and 2 where its own text starts and ends (a node has none), 3 its parent + 1 (0 for the root)
unfoldable pub entry : List ℕ → ℕ → ℕ → ℕ
entry words e k = get_or words (4 * e + k) 0

-- the text from a to b
unfoldable pub part : List ℕ → ℕ → ℕ → List ℕ
part text a b = take (b - a) (drop a text)

-- ── Partners ────────────────────────────────────────────────────────────────────────────────────────────────

-- each pair (x, y) writes x + 1 as the partner of y
unfoldable pub partnered : List ℕ → List (ℕ × ℕ) → List ℕ
partnered w [] = w
partnered w (p ∷ P) = partnered (set w p.1 (suc p.0)) P

-- and finds none there yet
unfoldable pub fresh : List ℕ → List (ℕ × ℕ) → Bool
fresh w [] = true
fresh w (p ∷ P) = eqb (get_or w p.1 0) 0 && fresh (set w p.1 (suc p.0)) P

-- each changed element is marked
unfoldable pub marked : List ℕ → List ℕ → List ℕ
marked w [] = w
marked w (c ∷ l) = marked (set w c 1) l

-- ── Clauses ─────────────────────────────────────────────────────────────────────────────────────────────────

-- 3, of the old element x and the new one y
unfoldable pub alike : List ℕ → List ℕ → List ℕ → List ℕ → ℕ × ℕ → Bool
alike old new text text' p =
    eqb (entry old p.0 0) (entry new p.1 0)
    && (is_node (entry old p.0 0) || same_bytes (part text (entry old p.0 1) (entry old p.0 2)) (part text' (entry new p.1 1) (entry new p.1 2)))

-- 4: two parents, each as its number + 1: none both, or a pair
unfoldable pub meet : List ℕ → ℕ → ℕ → Bool
meet w x zero = eqb x 0
meet w x (suc y) = not (eqb x 0) && eqb (get_or w y 0) x

unfoldable pub parents_meet : List ℕ → List ℕ → List ℕ → ℕ × ℕ → Bool
parents_meet old new w p = meet w (entry old p.0 3) (entry new p.1 3)

-- 5: the partners that there are rise
unfoldable pub rises : ℕ → List ℕ → Bool
rises last [] = true
rises last (zero ∷ l) = rises last l
rises last (suc w ∷ l) = ltb last (suc w) && rises (suc w) l

-- the parent, as its number + 1, is there and has no partner
unfoldable pub loose : List ℕ → ℕ → Bool
loose w zero = false
loose w (suc y) = eqb (get_or w y 0) 0

-- 6: an element that has a partner is not marked; one that has none is, or its parent has none
unfoldable pub accounted : List ℕ → List ℕ → List ℕ → ℕ → Bool
accounted new w c y = cond (eqb (get_or w y 0) 0) (not (eqb (get_or c y 0) 0) || loose w (entry new y 3)) (eqb (get_or c y 0) 0)

-- a test holds of the k numbers from i on
unfoldable pub each : (ℕ → Bool) → ℕ → ℕ → Bool
each p i zero = true
each p i (suc k) = p i && each p (suc i) k

-- ── All six ─────────────────────────────────────────────────────────────────────────────────────────────────

-- of n new elements, with the partners w and the marks c
unfoldable pub judged_by : List ℕ → List ℕ → List ℕ → List ℕ → ℕ → List (ℕ × ℕ) → List ℕ → List ℕ → Bool
judged_by old new text text' n P w c =
    eqb (get_or w 0 0) 1 && (every (alike old new text text') P && (every (parents_meet old new w) P && (rises 0 (take n w) && each (accounted new w c) 0 n)))

-- with room for m partners and m' marks
unfoldable pub judged : List ℕ → List ℕ → List ℕ → List ℕ → ℕ → ℕ → ℕ → List (ℕ × ℕ) → List ℕ → Bool
judged old new text text' n m m' P changed = fresh (replicate m 0) P && judged_by old new text text' n P (partnered (replicate m 0) P) (marked (replicate m' 0) changed)
