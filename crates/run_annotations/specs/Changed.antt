-- Changed elements in words: one word each, the row in bits 0 to 16 and the rule number in bits 17 to 28. Rows are below 2^16, and a splice of fewer than 2^16 rows moves
-- none beyond bit 16. What is written is read back, and a changed element added behind others.
-- Assumes nothing.
use Rattle.std.specs.Prelude as prelude
use Rattle.std.specs.Prelude.{◌≡◌, None, Some, refl, List, [], ◌∷◌, ◌++◌, map, ℕ, suc, ◌+◌, ◌*◌, ◌/◌, ◌%◌, ◌≤◌, ◌<◌, length, get_or, set, take}
use Rattle.std.proofs.Common.{ap, ◌∙◌, arith, take-suc, take-suc-set, length-take-le}
use Rattle.std.proofs.lemmas.List.{length-map}
use Rattle.orders.specs.Lists.{All}
use Rattle.orders.specs.ListLaws.{map_append}
use Rattle.run_model.specs.Store.{HeldChanged, put_in}

-- a changed element's word
unfoldable pub changed_word : HeldChanged → ℕ
changed_word c = c.row + 131072 * c.rule

-- the changed element of a word
unfoldable pub changed_of : ℕ → HeldChanged
changed_of w = record { row = w % 131072; rule = w / 131072 }

-- the k changed elements at the front of some words
unfoldable pub changed_in : ℕ → List ℕ → List HeldChanged
changed_in k l = map changed_of (take k l)

-- ── What a step records ─────────────────────────────────────────────────────────────────────────────────────

-- it has twelve bits
abbrev pub Ruled : prelude.Option ℕ → Type 0
Ruled None = Unit {0}
Ruled (Some rule) = rule < 4096

-- how many of n parts are recorded
abbrev pub count_by : prelude.Option ℕ → ℕ → ℕ
count_by None n = 0
count_by (Some rule) n = n

-- the parts at some rows, recorded
abbrev pub put_by : prelude.Option ℕ → List ℕ → List HeldChanged
put_by None rows = []
put_by (Some rule) rows = map (put_in rule) rows

-- ── One changed element ─────────────────────────────────────────────────────────────────────────────────────

-- one that was written is read back
pub changed_read : (c : HeldChanged) → c.row < 131072 → changed_of (changed_word c) ≡ c
unfolding changed_of changed_word
changed_read c h =
    let e : (c.row + 131072 * c.rule) % 131072 ≡ c.row = omega arith in
    let f : (c.row + 131072 * c.rule) / 131072 ≡ c.rule = omega arith in
    rw (e, f)

-- ── Some changed elements ───────────────────────────────────────────────────────────────────────────────────

pub length_changed_in : (k : ℕ) (w : List ℕ) → k ≤ length w → length (changed_in k w) ≡ k
unfolding changed_in
length_changed_in k w h = length-map (take k w) changed_of ∙ length-take-le k w h

-- the changed elements before a place, and the one there
pub changed_to : (w : List ℕ) (k : ℕ) → k < length w → changed_in (suc k) w ≡ changed_in k w ++ (changed_of (get_or w k 0) ∷ [])
unfolding changed_in
changed_to w k h = ap (map changed_of) (take-suc w k 0 h) ∙ map_append changed_of (take k w) (get_or w k 0 ∷ [])

-- one written behind the first k
pub changed_added : (w : List ℕ) (k x : ℕ) → k < length w → changed_in (suc k) (set w k x) ≡ changed_in k w ++ (changed_of x ∷ [])
unfolding changed_in
changed_added w k x h = ap (map changed_of) (take-suc-set w k x h) ∙ map_append changed_of (take k w) (x ∷ [])

-- parts that were written are read back
pub changed_put : (rule : ℕ) (rows : List ℕ) → All (λ x. x < 131072) rows → map changed_of (map (λ row. changed_word (put_in rule row)) rows) ≡ map (put_in rule) rows
changed_put rule [] h = refl
changed_put rule (row ∷ rows) h =
    ap {B = List HeldChanged} (λ c. c ∷ map changed_of (map (λ row. changed_word (put_in rule row)) rows)) (changed_read (put_in rule row) h.0) ∙ ap {B = List HeldChanged} (λ l. put_in rule row ∷ l) (changed_put rule rows h.1)
