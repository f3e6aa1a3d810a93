-- The mappings as an array by element number: word e is 0 if element e is not mapped, y + 1 if it is mapped to y.
-- Assumes nothing.
use Rattle.std.proofs.Props.{props}
use Rattle.std.specs.Prelude.{Bool, true, false, cond, not, ◌||◌, ◌≡◌, refl, ℕ, zero, suc, ◌≤◌, ◌<◌, length, get_or, drop, set, replicate, eqb, leb}
use mathlib.Core.List.{List, [], ◌∷◌, foldl}
use Rattle.std.proofs.Math.Option.{Option, none, some}
use Rattle.std.proofs.Common.{sym, ap, ◌∙◌, arith, length-set, get_or-set_same, get_or-set_other, eqb-true, leb-false, ⊎_elim}
use Rattle.std.proofs.Math.Path.{fun_ext}
use Rattle.std.proofs.lemmas.List.{length-replicate}
use Rattle.std.proofs.Math.Seq.{set_out}
use Rattle.std.proofs.lemmas.Bool.{eqb-false}
use Rattle.orders.specs.Lists.{All}
use Rattle.orders.specs.ListLaws.{lt_or_le, either_false, get_zeros}
use Rattle.definition.specs.Words.{words}
use Rattle.definition.specs.Basics.{any}
use Rattle.definition.specs.Elements.{Table, node?, root?}
use Rattle.definition.specs.Refusals.{wrong_mapping}
use Rattle.definition.specs.Rewriting.{mapping}
use Rattle.read_element_table.specs.Told.{element_of}

-- the k words that stand at a place of some bytes
unfoldable pub words_at : List ℕ → ℕ → ℕ → List ℕ
words_at b at k = words k (drop at b)

-- the output of element e, if it is mapped
unfoldable pub mapped_by : List ℕ → ℕ → Option ℕ
mapped_by words e = element_of (get_or words e 0)

-- there is a word for each of n elements, and each output is one of them
pub record Mapped (n : ℕ) (words : List ℕ) : Type 0 where
  pub long : n ≤ length words
  pub low : (e : ℕ) → get_or words e 0 ≤ n

-- there is at most one proof of it, so that it can be a field
pub mapped_prop : (n : ℕ) (words : List ℕ) → IsProp (Mapped n words)
mapped_prop n words = hlevel props

-- ── The array of some mappings ──────────────────────────────────────────────────────────────────────────────

-- one more mapping (input and output)
unfoldable pub noted : List ℕ → ℕ × ℕ → List ℕ
noted words m = set words m.0 (suc m.1)

-- k words with some mappings, the later over the earlier
unfoldable pub mapping_words : ℕ → List (ℕ × ℕ) → List ℕ
mapping_words k ms = foldl noted (replicate k 0) ms

-- inputs and outputs are below bounds
abbrev pub Bounded : ℕ → ℕ → List (ℕ × ℕ) → Type 0
Bounded k n ms = All (λ m. (m.0 < k) × (m.1 < n)) ms

length_noted : (ms : List (ℕ × ℕ)) (w : List ℕ) → length (foldl noted w ms) ≡ length w
unfolding noted
length_noted [] w = refl
length_noted (m ∷ ms) w = length_noted ms (noted w m) ∙ length-set w m.0 (suc m.1)

pub length_mapping_words : (k : ℕ) (ms : List (ℕ × ℕ)) → length (mapping_words k ms) ≡ k
unfolding mapping_words
length_mapping_words k ms = length_noted ms (replicate k 0) ∙ length-replicate k 0

or_else : Option ℕ → Option ℕ → Option ℕ
or_else none o = o
or_else (some y) o = some y

one_noted : (w : List ℕ) (m : ℕ × ℕ) (e : ℕ) → m.0 < length w → mapped_by (noted w m) e ≡ or_else (cond (eqb m.0 e) (some m.1) none) (mapped_by w e)
unfolding mapped_by noted element_of or_else
one_noted w m e h = go (eqb m.0 e) refl
  where
    go : (b : Bool) → eqb m.0 e ≡ b → element_of (get_or (set w m.0 (suc m.1)) e 0) ≡ or_else (cond b (some m.1) none) (element_of (get_or w e 0))
    go true q = ap element_of (ap (λ (i : ℕ). get_or (set w m.0 (suc m.1)) i 0) (sym (eqb-true m.0 e q)) ∙ get_or-set_same w m.0 (suc m.1) 0 h)
    go false q = ap element_of (get_or-set_other w m.0 e (suc m.1) 0 (λ z. eqb-false m.0 e q (sym z)))

all_noted : (k n : ℕ) (ms : List (ℕ × ℕ)) (w : List ℕ) (e : ℕ) → length w ≡ k → Bounded k n ms → mapped_by (foldl noted w ms) e ≡ or_else (mapping ms e) (mapped_by w e)
unfolding mapping or_else noted
all_noted k n [] w e l h = refl
all_noted k n (m ∷ ms) w e l h =
    all_noted k n ms (noted w m) e (length-set w m.0 (suc m.1) ∙ l) h.1
    ∙ go (mapping ms e) (one_noted w m e (omega (arith, h.0.0)))
  where
    go : (o : Option ℕ) → mapped_by (noted w m) e ≡ or_else (cond (eqb m.0 e) (some m.1) none) (mapped_by w e)
        → or_else o (mapped_by (noted w m) e) ≡ or_else (elim o as (λ _. Option ℕ) [ none ↦ cond (eqb m.0 e) (some m.1) none | some y ↦ some y ]) (mapped_by w e)
    go none q = q
    go (some y) q = refl

none_noted : (k e : ℕ) → mapped_by (replicate k 0) e ≡ none
unfolding mapped_by element_of
none_noted k e = ap element_of (get_zeros k e)

or_none : (o : Option ℕ) → or_else o none ≡ o
unfolding or_else
or_none none = refl
or_none (some y) = refl

-- the array tells what the mappings say
pub mapped_words : (k n : ℕ) (ms : List (ℕ × ℕ)) → Bounded k n ms → mapped_by (mapping_words k ms) ≡ mapping ms
unfolding mapping_words
mapped_words k n ms h =
    fun_ext (λ e. all_noted k n ms (replicate k 0) e (length-replicate k 0) h ∙ (ap (or_else (mapping ms e)) (none_noted k e) ∙ or_none (mapping ms e)))

low_noted : (k n : ℕ) (ms : List (ℕ × ℕ)) (w : List ℕ) → Bounded k n ms → ((e : ℕ) → get_or w e 0 ≤ n) → (e : ℕ) → get_or (foldl noted w ms) e 0 ≤ n
unfolding noted
low_noted k n [] w h f = f
low_noted k n (m ∷ ms) w h f = low_noted k n ms (noted w m) h.1 (λ e. one e (eqb e m.0) refl)
  where
    one : (e : ℕ) (b : Bool) → eqb e m.0 ≡ b → get_or (set w m.0 (suc m.1)) e 0 ≤ n
    one e true q =
        rw (eqb-true e m.0 q)
        (⊎_elim (λ l. rw (get_or-set_same w m.0 (suc m.1) 0 l) h.0.1) (λ l. rw (set_out w m.0 (suc m.1) l) (f m.0)) (lt_or_le m.0 (length w)))
    one e false q = rw (get_or-set_other w m.0 e (suc m.1) 0 (eqb-false e m.0 q)) (f e)

-- and its words are those of n elements
pub mapped_elements : (k n : ℕ) (ms : List (ℕ × ℕ)) → n ≤ k → Bounded k n ms → Mapped n (mapping_words k ms)
unfolding mapping_words
mapped_elements k n ms l h = record { long = omega (arith, length_mapping_words k ms); low = low_noted k n ms (replicate k 0) h (λ e. omega (arith, get_zeros k e)) }

-- ── What line 7 accepts ─────────────────────────────────────────────────────────────────────────────────────

pub accepted_bounded : (T : Table) (k : ℕ) (ms : List (ℕ × ℕ)) → length T ≤ k → any (wrong_mapping T) ms ≡ false → Bounded k (length T) ms
unfolding any wrong_mapping
accepted_bounded T k [] l h = tt
accepted_bounded T k (m ∷ ms) l h =
    let both = either_false _ (any (wrong_mapping T) ms) h in
    let ends = (either_false _ (root? T m.1) both.0).0 in
    let each = either_false (leb (length T) m.0 || not (node? T m.0)) _ ends in
    let low = (either_false (leb (length T) m.0) (not (node? T m.0)) each.0).0 in
    let out = (either_false (leb (length T) m.1) (not (node? T m.1)) (either_false _ false each.1).0).0 in
    ((omega (arith, leb-false (length T) m.0 low), leb-false (length T) m.1 out), accepted_bounded T k ms l both.1)

-- a higher bound of outputs
pub bounded_more : (k n m : ℕ) (ms : List (ℕ × ℕ)) → n ≤ m → Bounded k n ms → Bounded k m ms
bounded_more k n m [] l h = tt
bounded_more k n m (p ∷ ms) l h = ((h.0.0, omega (arith, h.0.1)), bounded_more k n m ms l h.1)
