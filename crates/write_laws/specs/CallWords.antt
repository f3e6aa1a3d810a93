-- Operations, counts and rule numbers in call words, and out of them.
-- Assumes nothing.
use Rattle.std.specs.Prelude.{◌≡◌, refl, false, List, [], ◌∷◌, map, ℕ, zero, suc, ◌+◌, ◌*◌, ◌/◌, ◌%◌, ◌<◌, leb, length, get_or}
use Rattle.std.proofs.Common.{ap, arith, leb-false}
use Rattle.std.proofs.lemmas.Bool.{lt-leb}
use Rattle.orders.specs.ListLaws.{either_false}
use Rattle.definition.specs.Basics.{any}
use Rattle.definition.specs.Refusals.{call_word, operation_of, count_of, rule_of}
use Rattle.definition.specs.Writing.{call_words}
use Rattle.words.specs.Bytes.{Words}

-- each is below k
abbrev pub Below : ℕ → List ℕ → Type 0
Below k l = (i : ℕ) → get_or l i 0 < k

pub none_over : (k : ℕ) (l : List ℕ) → 0 < k → any (leb k) l ≡ false → Below k l
unfolding any
none_over k [] h e i = h
none_over k (x ∷ l) h e zero = leb-false k x (either_false (leb k x) (any (leb k) l) e).0
none_over k (x ∷ l) h e (suc i) = none_over k l h (either_false (leb k x) (any (leb k) l) e).1 i

pub over_none : (k : ℕ) (l : List ℕ) → Below k l → any (leb k) l ≡ false
unfolding any
over_none k [] h = refl
over_none k (x ∷ l) h = rw (lt-leb k x (h 0)) (over_none k l (λ i. h (suc i)))

-- ── Into words ──────────────────────────────────────────────────────────────────────────────────────────────

pub record Parts (o n r w : ℕ) : Type 0 where
  pub operation : operation_of w ≡ o
  pub count : count_of w ≡ n
  pub rule : rule_of w ≡ r

-- a word tells the three parts that it was made of
pub parts : (o n r : ℕ) → o < 256 → n < 4096 → r < 4096 → Parts o n r (call_word o n r)
unfolding call_word operation_of count_of rule_of
parts o n r h k l = record { operation = omega arith; count = omega arith; rule = omega arith }

pub length_calls : (os ns rs : List ℕ) → length os ≡ length ns → length os ≡ length rs → length (call_words os ns rs) ≡ length os
unfolding call_words
length_calls [] ns rs e f = refl
length_calls (o ∷ os) [] rs e f = absurd (omega arith)
length_calls (o ∷ os) (n ∷ ns) [] e f = absurd (omega arith)
length_calls (o ∷ os) (n ∷ ns) (r ∷ rs) e f = ap suc (length_calls os ns rs (omega arith) (omega arith))

-- what is read of some call words
pub record CallsRead (os ns rs ws : List ℕ) : Type 0 where
  pub operations : map operation_of ws ≡ os
  pub counts : map count_of ws ≡ ns
  pub rules : map rule_of ws ≡ rs

pub calls_read : (os ns rs : List ℕ) → length os ≡ length ns → length os ≡ length rs → Below 256 os → Below 4096 ns → Below 4096 rs → CallsRead os ns rs (call_words os ns rs)
unfolding call_words
calls_read [] [] [] e f h k l = record { operations = refl; counts = refl; rules = refl }
calls_read [] [] (r ∷ rs) e f h k l = absurd (omega arith)
calls_read [] (n ∷ ns) rs e f h k l = absurd (omega arith)
calls_read (o ∷ os) [] rs e f h k l = absurd (omega arith)
calls_read (o ∷ os) (n ∷ ns) [] e f h k l = absurd (omega arith)
calls_read (o ∷ os) (n ∷ ns) (r ∷ rs) e f h k l =
    let p = parts o n r (h 0) (k 0) (l 0) in
    let q = calls_read os ns rs (omega arith) (omega arith) (λ i. h (suc i)) (λ i. k (suc i)) (λ i. l (suc i)) in
    record { operations = rw (p.operation, q.operations); counts = rw (p.count, q.counts); rules = rw (p.rule, q.rules) }

pub calls_small : (os ns rs : List ℕ) → Below 256 os → Below 4096 ns → Below 4096 rs → Words (call_words os ns rs)
unfolding call_words call_word
calls_small [] ns rs h k l i = omega arith
calls_small (o ∷ os) [] rs h k l i = omega arith
calls_small (o ∷ os) (n ∷ ns) [] h k l i = omega arith
calls_small (o ∷ os) (n ∷ ns) (r ∷ rs) h k l zero = omega (arith, h 0, k 0, l 0)
calls_small (o ∷ os) (n ∷ ns) (r ∷ rs) h k l (suc i) = calls_small os ns rs (λ i. h (suc i)) (λ i. k (suc i)) (λ i. l (suc i)) i

-- ── Out of words ────────────────────────────────────────────────────────────────────────────────────────────

whole_word : (w : ℕ) → w < 4294967296 → w % 256 + 256 * (w / 256 % 4096) + 1048576 * (w / 1048576 % 4096) ≡ w
whole_word w h = omega arith

pub calls_again : (ws : List ℕ) → Words ws → call_words (map operation_of ws) (map count_of ws) (map rule_of ws) ≡ ws
unfolding call_words call_word operation_of count_of rule_of
calls_again [] h = refl
calls_again (w ∷ ws) h = rw (whole_word w (omega (arith, h 0))) (ap (λ (l : List ℕ). w ∷ l) (calls_again ws (λ j. h (suc j))))

pub operations_small : (ws : List ℕ) → Below 256 (map operation_of ws)
unfolding operation_of
operations_small [] i = omega arith
operations_small (w ∷ ws) zero = omega arith
operations_small (w ∷ ws) (suc i) = operations_small ws i

pub counts_small : (ws : List ℕ) → Below 4096 (map count_of ws)
unfolding count_of
counts_small [] i = omega arith
counts_small (w ∷ ws) zero = omega arith
counts_small (w ∷ ws) (suc i) = counts_small ws i

pub rules_small : (ws : List ℕ) → Below 4096 (map rule_of ws)
unfolding rule_of
rules_small [] i = omega arith
rules_small (w ∷ ws) zero = omega arith
rules_small (w ∷ ws) (suc i) = rules_small ws i
