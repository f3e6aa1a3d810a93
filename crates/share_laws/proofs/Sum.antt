-- THE SUM LAW: the bytes of the new tree that lie in at least one changed element are as many as the text lengths of the changed elements add up to, since no two of them are at or below each other.
-- Assumes nothing.
use Rattle.std.specs.Prelude.{◌≡◌, refl, Bool, false, cond, ◌&&◌, ◌||◌, ◌⊎◌, ℕ, suc, ◌+◌, ◌-◌, ◌≤◌, ◌<◌, leb, ltb, length, take}
use Rattle.std.proofs.Math.Path.{sym}
use Rattle.std.proofs.Common.{ap, ◌∙◌, inl, inr, ltb-true, leb-true, lt-ltb, le-ltb, le-leb}
use Rattle.std.proofs.Math.Bool.{true}
use mathlib.Core.List.{List, [], ◌∷◌, flat_map, append-nil}
use native.Mathlib.Omega.{arith}
use Rattle.std.proofs.lemmas.Bool.{lt-leb}
use Rattle.orders.specs.Lists.{Pairs, any, pick, total}
use Rattle.orders.specs.ListLaws.{both_true, lt_or_le, any_mem, All-mem, total_perm}
use Rattle.orders.specs.Tree.{Tree, list, children, text}
use Rattle.definition.specs.Basics.{gives, keep, numbered}
use Rattle.definition.specs.Choices.{Choices}
use Rattle.definition.specs.Elements.{Row, Table, table, row, no_row}
use Rattle.definition.specs.Refusals.{Accepted, accepted}
use Rattle.definition.specs.Running.{World}
use Rattle.definition.specs.Finishing.{new_tree, new_table, number_at}
use Rattle.definition.specs.Answers.{Plan, plan, ran}
use Rattle.definition_account.specs.Words.{changed_paths, changed_in, ChangedApartInNew}
use Rattle.definition_account.proofs.Changed.{changed_numbers}
use Rattle.definition_account.proofs.Account.{ran_apart}
use Rattle.share_laws.specs.Share.{lies_in, lies_in_one, bytes_in, new_text, rewritten_bytes}
use Rattle.share_laws.proofs.Ranges.{range_in, ranges_apart}
use Rattle.share_laws.specs.Sum.{text_length, text_lengths, Beside, hits}

-- ── Words ───────────────────────────────────────────────────────────────────────────────────────────────────

-- ── Counting positions ──────────────────────────────────────────────────────────────────────────────────────

pub hits_cons : (p : ℕ → Bool) (n b : ℕ) (l : List ℕ) → hits p n (b ∷ l) ≡ cond (p n) 1 0 + hits p (suc n) l
unfolding keep numbered pick
hits_cons p n b l = go (p n) refl
  where
    go : (t : Bool) → p n ≡ t → hits p n (b ∷ l) ≡ cond (p n) 1 0 + hits p (suc n) l
    go true e = rw e (omega arith)
    go false e = rw e (omega arith)

pub hits_none : (p : ℕ → Bool) → ((i : ℕ) → p i ≡ false) → (n : ℕ) (l : List ℕ) → hits p n l ≡ 0
unfolding keep numbered pick
hits_none p h n [] = refl
hits_none p h n (b ∷ l) = hits_cons p n b l ∙ rw (h n) (omega (arith, hits_none p h (suc n) l))

-- two tests that no position passes both
hits_either : (p q : ℕ → Bool) → ((i : ℕ) → p i ≡ true → q i ≡ true → ⊥) → (n : ℕ) (l : List ℕ) → hits (λ i. p i || q i) n l ≡ hits p n l + hits q n l
unfolding keep numbered pick
hits_either p q h n [] = refl
hits_either p q h n (b ∷ l) =
    hits_cons (λ i. p i || q i) n b l ∙ go (p n) (q n) (h n) (hits (λ i. p i || q i) (suc n) l) (hits p (suc n) l) (hits q (suc n) l) (hits p n (b ∷ l)) (hits q n (b ∷ l)) (hits_either p q h (suc n) l) (hits_cons p n b l) (hits_cons q n b l)
  where
    go : (s t : Bool) → (s ≡ true → t ≡ true → ⊥) → (x y z u v : ℕ) → x ≡ y + z → u ≡ cond s 1 0 + y → v ≡ cond t 1 0 + z → cond (s || t) 1 0 + x ≡ u + v
    go true true h x y z u v e f g = absurd (h refl refl)
    go true false h x y z u v e f g = omega arith
    go false true h x y z u v e f g = omega arith
    go false false h x y z u v e f g = omega arith

-- as many positions as a range is long
hits_range : (s e n : ℕ) (l : List ℕ) → s ≤ e → e ≤ n + length l → hits (λ i. leb s i && ltb i e) n l ≡ (e - n) - (s - n)
unfolding keep numbered pick
hits_range s e n [] h k = omega arith
hits_range s e n (b ∷ l) h k = hits_cons (λ i. leb s i && ltb i e) n b l ∙ go (lt_or_le n s) (lt_or_le n e) (hits_range s e (suc n) l h (omega arith))
  where
    go : (n < s) ⊎ (s ≤ n) → (n < e) ⊎ (e ≤ n) → hits (λ i. leb s i && ltb i e) (suc n) l ≡ (e - suc n) - (s - suc n) → cond (leb s n && ltb n e) 1 0 + hits (λ i. leb s i && ltb i e) (suc n) l ≡ (e - n) - (s - n)
    go (inl a) c r = rw (lt-leb s n a) (omega arith)
    go (inr a) (inl c) r = rw (le-leb s n a, lt-ltb n e c) (omega arith)
    go (inr a) (inr c) r = rw (le-leb s n a, le-ltb n e c) (omega arith)

-- what it is to lie in an element
lies : (i : ℕ) (r : Row) → lies_in i r ≡ true → (r.start ≤ i) × (i < r.end)
unfolding lies_in
lies i r e = let (a, b) = both_true _ _ e in (leb-true _ _ a, ltb-true _ _ b)

-- ── One tree ────────────────────────────────────────────────────────────────────────────────────────────────

module _ (t : Tree ℕ) where
  abbrev F : Table
  F = table 0 0 (t ∷ [])

  -- no byte lies in two elements that are beside each other
  not_both : (i m n : ℕ) → Beside F m n → lies_in i (row F m) ≡ true → lies_in i (row F n) ≡ true → ⊥
  not_both i m n a x y =
      let (b, c) = lies i (row F m) x in
      let (d, e) = lies i (row F n) y in
      elim (ranges_apart t m n a.0 a.1) [
        | inl z ↦ omega arith
        | inr z ↦ omega arith
      ]

  -- as many lie in an element as its text is long
  one_in : (e : ℕ) → hits (λ i. lies_in i (row F e)) 0 (text t) ≡ text_length F e
  unfolding lies_in text_length
  one_in e = let (a, b) = range_in t e in hits_range (row F e).start (row F e).end 0 (text t) a (omega (arith, b)) ∙ omega arith

  -- of elements that are all beside each other
  pub sum_in : (l : List ℕ) → Pairs (Beside F) l → length (bytes_in F l (text t)) ≡ text_lengths F l
  unfolding bytes_in lies_in_one text_lengths any total
  sum_in [] h = hits_none (λ i. false) (λ i. refl) 0 (text t)
  sum_in (e ∷ l) h =
      hits_either (λ i. lies_in i (row F e)) (lies_in_one F l) (λ i x y. no i x y) 0 (text t)
      ∙ omega (arith, sum_in l h.1, one_in e)
    where
      no : (i : ℕ) → lies_in i (row F e) ≡ true → lies_in_one F l i ≡ true → ⊥
      no i x y = let (d, m, z) = any_mem (λ d. lies_in i (row F d)) l y in not_both i e d (All-mem (Beside F e) l d h.0 m) x z

-- the same where there is no tree
sum_nowhere : (l : List ℕ) → text_lengths [] l ≡ 0
unfolding text_lengths text_length total row no_row
sum_nowhere [] = refl
sum_nowhere (e ∷ l) = omega (arith, sum_nowhere l)

-- and where the first tree is what counts
sum_first : (cs : List (Tree ℕ)) (l : List ℕ) → Pairs (Beside (table 0 0 (take 1 cs))) l → length (bytes_in (table 0 0 (take 1 cs)) l (flat_map text (take 1 cs))) ≡ text_lengths (table 0 0 (take 1 cs)) l
unfolding table flat_map bytes_in keep numbered pick
sum_first [] l h = sym (sum_nowhere l)
sum_first (c ∷ cs) l h = ap (λ (b : List ℕ). length (bytes_in (table 0 0 (c ∷ [])) l b)) (append-nil (text c)) ∙ sum_in c l h

-- ── The new tree ────────────────────────────────────────────────────────────────────────────────────────────

module _ (w : World) (h : ChangedApartInNew w) where
  -- THE SUM LAW of what any steps left
  pub sum_law : length (rewritten_bytes w) ≡ text_lengths (new_table w) (changed_in (new_table w) w)
  unfolding rewritten_bytes new_text new_table new_tree
  sum_law = sum_first (list (children w.trees)) (changed_in (new_table w) w) h.aside

  -- the same in the order of time, as the changed elements stand before they are sorted
  pub sum_in_time : length (rewritten_bytes w) ≡ text_lengths (new_table w) (pick (number_at (new_table w)) (changed_paths w))
  unfolding text_lengths
  sum_in_time = sum_law ∙ sym (total_perm (λ e. true) (text_length (new_table w)) (changed_numbers (new_table w) w))

-- of a batch, whatever the choices
pub ran_sum : (h : Choices) (bytes : List ℕ) (a : Accepted) (p : Plan) (w : World) → accepted bytes ≡ gives a → plan h a ≡ gives p → ran a p ≡ gives w
    → length (rewritten_bytes w) ≡ text_lengths (new_table w) (changed_in (new_table w) w)
ran_sum h bytes a p w x y z = sum_law w (ran_apart h bytes a p w x y z).1
