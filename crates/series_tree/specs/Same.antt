-- 22: tree 0 of a batch is the tree left before. "Trees are equal .. if kind words, measures and text agree in preorder"
-- Assumes nothing.
use Rattle.std.specs.Prelude.{◌≡◌, Bool, not, ◌&&◌, List, [], ◌∷◌, ◌++◌, ℕ, suc, ◌+◌, ◌-◌, ◌*◌, ◌/◌, ◌^◌, ◌≤◌, ◌<◌, eqb, take, drop}
use Rattle.std.proofs.Math.Path.{refl, sym}
use Rattle.std.proofs.Common.{ap, ◌∙◌, drop-drop, append-nil, eqb-true}
use Rattle.std.proofs.Math.Bool.{true, false, and-false}
use native.Mathlib.Omega.{arith}
use Rattle.std.proofs.Math.ListN.{length, length-drop}
use Rattle.std.proofs.Math.Seq.{length-take-le}
use borrow.Author.Tests.{eq-eqb, not-true, not-false}
use Rattle.definition.specs.Basics.{gives}
use Rattle.definition.specs.Words.{word, words, written}
use Rattle.definition.specs.Refusals.{Accepted, accepted}
use Rattle.definition_laws.specs.Answers.{gives_inj}
use Rattle.words.specs.Bytes.{Bytes as Octets, length_words, drop_bytes, words_small, words_written, written_words}
use Rattle.orders.specs.ListLaws.{bool_absurd, both_true}
use Rattle.rows_syntax_node.specs.Promises.{Part, Bytes}
use Rattle.read_layout.specs.declared.Layout.{Layout}
use Rattle.check_laws.specs.Check.{Flat, same_bytes}
use Rattle.check_laws.specs.Claimed.{old_tree, flat_of}
use Rattle.series_laws.specs.Memory.{same_tree}
use Rattle.series_laws.specs.Lent.{tree_in}
use Rattle.series_tree.specs.Old.{Read, flat_at, flat_beside, size_few, bytes_within, old_told}

-- ── Words ───────────────────────────────────────────────────────────────────────────────────────────────────

-- lists that differ in length are not the same
differ_length : (l m : List ℕ) → (length l ≡ length m → ⊥) → same_bytes l m ≡ false
unfolding same_bytes
differ_length [] [] h = absurd (h refl)
differ_length [] (y ∷ m) h = refl
differ_length (x ∷ l) [] h = refl
differ_length (x ∷ l) (y ∷ m) h = rw (differ_length l m (λ e. h (ap suc e))) (and-false (eqb x y))

same_equal : (l m : List ℕ) → same_bytes l m ≡ true → l ≡ m
unfolding same_bytes
same_equal [] [] e = refl
same_equal [] (y ∷ m) e = bool_absurd e refl
same_equal (x ∷ l) [] e = bool_absurd e refl
same_equal (x ∷ l) (y ∷ m) e =
    let w = both_true (eqb x y) (same_bytes l m) e in
    let p : x ≡ y = eqb-true x y w.0 in
    let q : l ≡ m = same_equal l m w.1 in
    cc

same_self : (l : List ℕ) → same_bytes l l ≡ true
unfolding same_bytes
same_self [] = refl
same_self (x ∷ l) = rw (eq-eqb x x refl, same_self l) refl

module _ (n : ℕ) (l : List ℕ) (h : 4 * n ≤ length l) (b : Octets l) where
  -- the words at the front are those of its bytes alone
  words_front : words n (take (4 * n) l) ≡ words n l
  words_front =
      let e : written (words n l) ++ [] ≡ take (4 * n) l = append-nil (written (words n l)) ∙ written_words n l h b in
      ap (λ (x : List ℕ). words n x) (sym e) ∙ (ap (λ (k : ℕ). words k (written (words n l) ++ [])) (sym (length_words n l)) ∙ words_written (words n l) [] (words_small n l b))

-- words are the same just where their bytes are
same_words : (n : ℕ) (l m : List ℕ) → 4 * n ≤ length l → 4 * n ≤ length m → Octets l → Octets m → same_bytes (take (4 * n) l) (take (4 * n) m) ≡ same_bytes (words n l) (words n m)
same_words n l m h k b c = go (same_bytes (take (4 * n) l) (take (4 * n) m)) (same_bytes (words n l) (words n m)) refl refl
  where
    go : (x y : Bool) → same_bytes (take (4 * n) l) (take (4 * n) m) ≡ x → same_bytes (words n l) (words n m) ≡ y → same_bytes (take (4 * n) l) (take (4 * n) m) ≡ same_bytes (words n l) (words n m)
    go true true e f = e ∙ sym f
    go false false e f = e ∙ sym f
    go true false e f =
        let w : words n l ≡ words n m = sym (words_front n l h b) ∙ (ap (words n) (same_equal (take (4 * n) l) (take (4 * n) m) e) ∙ words_front n m k c) in
        bool_absurd (ap (same_bytes (words n l)) (sym w) ∙ same_self (words n l)) f
    go false true e f =
        let w : take (4 * n) l ≡ take (4 * n) m = sym (written_words n l h b) ∙ (ap written (same_equal (words n l) (words n m) f) ∙ written_words n m k c) in
        bool_absurd (ap (same_bytes (take (4 * n) l)) (sym w) ∙ same_self (take (4 * n) l)) e

-- the same of words that stand in some bytes
pub words_told : (a : List ℕ) (i : ℕ) (b : List ℕ) (j n : ℕ) {r : Bool} → r ≡ same_bytes (take (i + 4 * n - i) (drop i a)) (take (j + 4 * n - j) (drop j b)) → i + 4 * n ≤ length a → j + 4 * n ≤ length b → Octets a → Octets b
    → r ≡ same_bytes (words n (drop i a)) (words n (drop j b))
words_told a i b j n e h k f g =
    let x : i + 4 * n - i ≡ 4 * n = omega arith in
    let y : j + 4 * n - j ≡ 4 * n = omega arith in
    e ∙ rw (x, y) (same_words n (drop i a) (drop j b) (omega (arith, length-drop i a)) (omega (arith, length-drop j b)) (drop_bytes i a f) (drop_bytes j b g))

-- ── Arrays ──────────────────────────────────────────────────────────────────────────────────────────────────

-- the tree of a memory, at its places
pub tree_at : (t : List ℕ) (n m : ℕ) → tree_in n m t ≡ flat_at t 8 (8 + 4 * n) (8 + 8 * n) n m
unfolding tree_in flat_at
tree_at t n m =
    let e : 8 + 4 * n + 4 * n ≡ 8 + 8 * n = omega arith in
    rw (drop-drop (4 * n) 8 t, drop-drop (4 * n) (8 + 4 * n) t, e)

module _ (b t : List ℕ) (kinds measures size : ℕ) (text : List ℕ) {n m : ℕ} (en : (n ≡ word t) × (n < 2 ^ 32)) (em : (m ≡ word (drop 4 t)) × (m < 2 ^ 32)) where
  -- what is told, by what is read
  told : {r : Bool} → r ≡ same_tree (flat_beside b kinds measures size text) (flat_at t 8 (8 + 4 * n) (8 + 8 * n) n m) → r ≡ same_tree (flat_beside b kinds measures size text) (tree_in (word t) (word (drop 4 t)) t)
  told q = q ∙ ap (same_tree (flat_beside b kinds measures size text)) (sym (tree_at t n m) ∙ (ap (λ (k : ℕ). tree_in k m t) en.0 ∙ ap (λ (k : ℕ). tree_in (word t) k t) em.0))

  pub other_size : (size ≡ n → ⊥) → false ≡ same_tree (flat_beside b kinds measures size text) (tree_in (word t) (word (drop 4 t)) t)
  unfolding same_tree flat_at flat_beside
  other_size h = told (rw (differ_length (words size (drop kinds b)) (words n (drop 8 t)) (λ e. h (omega (arith, length_words size (drop kinds b), length_words n (drop 8 t))))))

  pub other_length : 8 + 8 * n + m ≤ length t → (length text ≡ m → ⊥) → false ≡ same_tree (flat_beside b kinds measures size text) (tree_in (word t) (word (drop 4 t)) t)
  unfolding same_tree flat_at flat_beside
  other_length space h =
      let y : length (take m (drop (8 + 8 * n) t)) ≡ m = length-take-le m (drop (8 + 8 * n) t) (omega (arith, length-drop (8 + 8 * n) t)) in
      told (rw (differ_length text (take m (drop (8 + 8 * n) t)) (λ e. h (omega arith))) (twice (same_bytes (words size (drop kinds b)) (words n (drop 8 t))) (same_bytes (words size (drop measures b)) (words n (drop (8 + 4 * n) t)))))
    where
      twice : (a b : Bool) → false ≡ (a && (b && false))
      twice true true = refl
      twice true false = refl
      twice false b = refl

  module _ (same : size ≡ n) {r : Bool} (k : r ≡ same_bytes (words n (drop kinds b)) (words n (drop 8 t))) where
    pub other_kinds : not r ≡ true → false ≡ same_tree (flat_beside b kinds measures size text) (tree_in (word t) (word (drop 4 t)) t)
    unfolding same_tree flat_at flat_beside
    other_kinds h = told (rw (same, ← k, not-true r h))

    module _ (is : not r ≡ false) {q : Bool} (l : q ≡ same_bytes (words n (drop measures b)) (words n (drop (8 + 4 * n) t))) where
      pub other_measures : not q ≡ true → false ≡ same_tree (flat_beside b kinds measures size text) (tree_in (word t) (word (drop 4 t)) t)
      unfolding same_tree flat_at flat_beside
      other_measures h = told (rw (same, ← k, ← l, not-false r is, not-true q h))

      -- all is the same but, perhaps, the text
      pub same_text : not q ≡ false → {c : Bool} → c ≡ same_bytes text (take (8 + 8 * n + m - (8 + 8 * n)) (drop (8 + 8 * n) t)) → c ≡ same_tree (flat_beside b kinds measures size text) (tree_in (word t) (word (drop 4 t)) t)
      unfolding same_tree flat_at flat_beside
      same_text h {c} e =
          let y : 8 + 8 * n + m - (8 + 8 * n) ≡ m = omega arith in
          told (rw (same, ← k, ← l, not-false r is, not-false q h) (e ∙ rw y))

-- ── Tree 0 ──────────────────────────────────────────────────────────────────────────────────────────────────

module _ {b : List ℕ} {l : Layout} {source : List ℕ} (r : Read b l source) {part : List ℕ} (p : Part source (l.sizes.elements + 1) 1 part) {n : ℕ} (h : Bytes part n) where
  -- its arrays stand within the batch
  pub same_within : (l.kinds + 4 * (length part / 3) ≤ length b) × (l.measures + 4 * (length part / 3) ≤ length b) × (l.text + n ≤ length b)
  same_within =
      let few = size_few r p {size = length part / 3} refl in
      (omega (arith, few, r.kinds), omega (arith, few, r.measures), bytes_within r p {size = length part / 3} refl h)

  pub same_told : {c : Bool} (m : Flat) → c ≡ same_tree (flat_beside b l.kinds l.measures (length part / 3) (take (l.text + n - l.text) (drop l.text b))) m → (a : Accepted) → accepted b ≡ gives a → c ≡ same_tree (flat_of (old_tree a.trees)) m
  unfolding flat_at flat_beside
  same_told {c} m q a x =
      let e : l.text + n - l.text ≡ n = omega arith in
      rw e at q ∙ (ap (λ (f : Flat). same_tree f m) (sym (old_told r p refl h)) ∙ ap (λ (a : Accepted). same_tree (flat_of (old_tree a.trees)) m) (gives_inj (sym r.accepts ∙ x)))
