-- Line 6 of one call, in two parts: what its call word says, and where the call stands. Numbers of E or more are judged where they are read.
-- Assumes nothing.
use Rattle.std.specs.Prelude.{Bool, true, false, not, ◌&&◌, ◌||◌, ◌≡◌, refl, ℕ, ◌+◌, ◌*◌, ◌<◌, length, get_or, eqb, leb, ltb}
use mathlib.Core.List.{List, [], ◌∷◌, head_d}
use Rattle.std.proofs.lemmas.Bool.{lt-leb}
use Rattle.orders.specs.Lists.{All}
use Rattle.orders.specs.ListLaws.{bool_absurd}
use Rattle.definition.specs.Basics.{any}
use Rattle.definition.specs.Elements.{Table}
use Rattle.definition.specs.Refusals.{Call, wrong_count, ruled_start, misplaced, wrong_call}
use Rattle.read_element_table.specs.View.{view}
use Rattle.read_element_table.specs.Told.{length_view}

-- the operation is known, may list so many elements, and may carry the rule number
unfoldable pub word_fits : ℕ → ℕ → ℕ → Bool
word_fits op count rule = not (ltb 6 op || wrong_count op count || ruled_start op rule)

-- a call of the operation op with target x and first listed element y stands where it may
unfoldable pub call_fits : Table → ℕ → ℕ → ℕ → Bool
call_fits T op x y = not (misplaced T op x y)

-- ── Both parts make line 6 ──────────────────────────────────────────────────────────────────────────────────

none_beyond : (n : ℕ) (l : List ℕ) → All (λ e. e < n) l → any (λ e. leb n e) l ≡ false
unfolding any
none_beyond n [] h = refl
none_beyond n (e ∷ l) h = rw (lt-leb n e h.0, none_beyond n l h.1)

parts : (a b c d e : Bool) → c ≡ false → (a || b || c || d || e) ≡ not (not (a || b || e) && not d)
parts true b c d e q = refl
parts false true c d e q = refl
parts false false true d e q = bool_absurd refl q
parts false false false true true q = refl
parts false false false true false q = refl
parts false false false false true q = refl
parts false false false false false q = refl

pub judged : (n : ℕ) (w r : List ℕ) (c : Call) → All (λ e. e < n) (c.target ∷ c.listed)
    → wrong_call (view n w r) c ≡ not (word_fits c.operation (length c.listed) c.rule && call_fits (view n w r) c.operation c.target (head_d c.listed 0))
unfolding wrong_call word_fits call_fits
judged n w r c h =
    let T : Table = view n w r in
    parts (ltb 6 c.operation) (wrong_count c.operation (length c.listed)) (any (λ e. leb (length T) e) (c.target ∷ c.listed)) (misplaced T c.operation c.target (head_d c.listed 0)) (ruled_start c.operation c.rule)
    (rw (length_view n w r) (none_beyond n (c.target ∷ c.listed) h))

-- ── By the words ────────────────────────────────────────────────────────────────────────────────────────────

-- two children of one parent, or two roots, not reversed
unfoldable pub run_fits : List ℕ → ℕ → ℕ → Bool
run_fits table x y = eqb (get_or table (8 * x + 1) 0) (get_or table (8 * y + 1) 0) && leb (get_or table (8 * x + 2) 0) (get_or table (8 * y + 2) 0)
