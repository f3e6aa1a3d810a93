-- THE OVERLAP THAT IS TOLD (document 02, Note 5) is true, and no pair overlaps whose later change comes before its own.
-- Assumes nothing.
use Rattle.std.specs.Prelude.{◌≡◌, Bool, cond, not, ◌&&◌, ◌⊎◌, length}
use Rattle.std.proofs.Math.Path.{refl, sym, ap}
use Rattle.std.proofs.Common.{◌∙◌, inl, inr}
use Rattle.std.proofs.Math.Bool.{true, false}
use mathlib.Core.List.{List, [], ◌∷◌}
use Rattle.std.proofs.Math.Option.{Option, none, some, map}
use Prim.Native.Nat.{ℕ, zero, suc, ◌+◌, ◌≤◌, ◌<◌}
use native.Mathlib.Omega.{arith}
use Rattle.std.proofs.Math.Dec.{ltb, eqb}
use borrow.Author.Tests.{ltb-true, lt-ltb, eqb-true, eqb-false, eq-eqb, ne_eqb, not-true, not-false}
use Rattle.orders.specs.ListLaws.{bool_absurd, both_true, some_inj, none_some, lt_or_le}
use Rattle.orders.specs.Lists.{pick}
use Rattle.definition.specs.Basics.{keep, first, numbered}
use Rattle.definition.specs.Elements.{Table}
use Rattle.definition.specs.Recording.{Change}
use Rattle.definition.specs.Planning.{rank, from, to, parent_depth, peers, exceeds, overlapping, overlap}
use Rattle.definition_laws.specs.Basics.{keep_yes, keep_no}
use Rattle.account_laws.specs.Words.{last_below, at, tree_of, Peers, Overlap}
use Rattle.account_laws.proofs.Below.{last_some, some_last}

-- a replacement or a run
abbrev removes : Change → Bool
removes c = not (eqb (rank c) 0)

removes_why : (c : Change) → removes c ≡ true → ¬ (rank c ≡ 0)
removes_why c e q = eqb-false (rank c) 0 (not-true (eqb (rank c) 0) e) q

why_removes : (c : Change) → ¬ (rank c ≡ 0) → removes c ≡ true
why_removes c h = rw (ne_eqb (rank c) 0 h)

module _ (T : Table) (cs : List Change) where
  -- ── The peer before a change ──────────────────────────────────────────────────────────────────────────────

  -- change j is a replacement or a run, and a peer of c
  unfoldable pub is_peer : Change → ℕ → Bool
  is_peer c j = removes (at cs j) && peers T c (at cs j)

  peer_why : (k j : ℕ) → is_peer (at cs k) j ≡ true → Peers T cs j k
  unfolding is_peer peers
  peer_why k j e =
      let c = at cs k in
      let d = at cs j in
      let (a, e) = both_true (removes d) (eqb (tree_of T c) (tree_of T d) && eqb (parent_depth T c) (parent_depth T d)) e in
      let (b, e) = both_true (eqb (tree_of T c) (tree_of T d)) (eqb (parent_depth T c) (parent_depth T d)) e in
      record { removes = removes_why d a; tree = sym (eqb-true (tree_of T c) (tree_of T d) b); depth = sym (eqb-true (parent_depth T c) (parent_depth T d) e) }

  why_peer : (k j : ℕ) → Peers T cs j k → is_peer (at cs k) j ≡ true
  unfolding is_peer peers
  why_peer k j p =
      let c = at cs k in
      let d = at cs j in
      rw (why_removes d p.removes, eq-eqb (tree_of T c) (tree_of T d) (sym p.tree), eq-eqb (parent_depth T c) (parent_depth T d) (sym p.depth))

  -- a pair that overlaps: the earlier change is the last peer before the later one
  pub overlap_peer : (j k : ℕ) → Overlap T cs j k → last_below k (is_peer (at cs k)) ≡ some j
  overlap_peer j k o = some_last (is_peer (at cs k)) k j (record { below = o.earlier; passes = why_peer k j o.peers; later = λ m a b. no m a b (is_peer (at cs k) m) refl })
    where
      no : (m : ℕ) → j < m → m < k → (b : Bool) → is_peer (at cs k) m ≡ b → is_peer (at cs k) m ≡ false
      no m a b true e = absurd (o.next m a b (peer_why k m e))
      no m a b false e = e

  peer_overlap : (j k : ℕ) → k < length cs → removes (at cs k) ≡ true → last_below k (is_peer (at cs k)) ≡ some j → from T (at cs k) < to T (at cs j) → Overlap T cs j k
  peer_overlap j k h r e x =
      let l = last_some (is_peer (at cs k)) k j e in
      record {
        earlier = l.below;
        within = h;
        removes = removes_why (at cs k) r;
        peers = peer_why k j l.passes;
        next = λ m a b p. bool_absurd (why_peer k m p) (l.later m a b);
        exceeds = x;
      }

  -- ── Those seen ────────────────────────────────────────────────────────────────────────────────────────────

  -- the replacements and runs before place n with their places, the last first
  unfoldable seen : ℕ → List (ℕ × Change)
  seen zero = []
  seen (suc n) = let before = seen n in cond (removes (at cs n)) ((n, at cs n) ∷ before) before

  seen_first : (c : Change) (n : ℕ) → first (λ d. peers T c d.1) (seen n) ≡ map (λ j. (j, at cs j)) (last_below n (is_peer c))
  unfolding seen first last_below is_peer
  seen_first c zero = refl
  seen_first c (suc n) = go (removes (at cs n)) (peers T c (at cs n)) refl (seen_first c n)
    where
      go : (a b : Bool) → peers T c (at cs n) ≡ b → first (λ d. peers T c d.1) (seen n) ≡ map (λ j. (j, at cs j)) (last_below n (is_peer c))
          → first (λ d. peers T c d.1) (cond a ((n, at cs n) ∷ seen n) (seen n)) ≡ map (λ j. (j, at cs j)) (cond (a && b) (some n) (last_below n (is_peer c)))
      go true true e h = rw e
      go true false e h = rw e h
      go false b e h = h

  seen_yes : (n : ℕ) → removes (at cs n) ≡ true → seen (suc n) ≡ (n, at cs n) ∷ seen n
  unfolding seen
  seen_yes n e = rw e

  seen_no : (n : ℕ) → removes (at cs n) ≡ false → seen (suc n) ≡ seen n
  unfolding seen
  seen_no n e = rw e

  -- ── What is told ──────────────────────────────────────────────────────────────────────────────────────────

  -- of the pairs whose later change stands at place n or after it: none overlaps, or this one does and none with a later change before its own
  abbrev pub Tells : ℕ → Option (ℕ × ℕ) → Type 0
  Tells n none = (j k : ℕ) → n ≤ k → ¬ Overlap T cs j k
  Tells n (some p) = Overlap T cs p.0 p.1 × ((j k : ℕ) → n ≤ k → k < p.1 → ¬ Overlap T cs j k)

  -- no pair has the later change n
  tells_more : (n : ℕ) (o : Option (ℕ × ℕ)) → ((j : ℕ) → ¬ Overlap T cs j n) → Tells (suc n) o → Tells n o
  tells_more n none h r = λ j k b o. go j k b o (lt_or_le n k)
    where
      go : (j k : ℕ) → n ≤ k → Overlap T cs j k → (n < k) ⊎ (k ≤ n) → ⊥
      go j k b o (inl c) = r j k c o
      go j k b o (inr c) = let e : k ≡ n = omega arith in h j (rw e at o)
  tells_more n (some p) h r = (r.0, λ j k b d o. go j k b d o (lt_or_le n k))
    where
      go : (j k : ℕ) → n ≤ k → k < p.1 → Overlap T cs j k → (n < k) ⊎ (k ≤ n) → ⊥
      go j k b d o (inl c) = r.1 j k c d o
      go j k b d o (inr c) = let e : k ≡ n = omega arith in h j (rw e at o)

  -- change n is a replacement or a run
  tells_here : (n : ℕ) (later : Option (ℕ × ℕ)) → n < length cs → removes (at cs n) ≡ true → Tells (suc n) later → (o : Option ℕ) → last_below n (is_peer (at cs n)) ≡ o
      → Tells n (cond (exceeds T (map (λ j. (j, at cs j)) o) (at cs n)) (elim (map {B = ℕ × Change} (λ j. (j, at cs j)) o) as (λ _. Option (ℕ × ℕ)) [ none ↦ none | some d ↦ some (d.0, n) ]) later)
  unfolding exceeds
  tells_here n later h r t none e = tells_more n later (λ j o. none_some (sym e ∙ overlap_peer j n o)) t
  tells_here n later h r t (some j) e = go (ltb (from T (at cs n)) (to T (at cs j))) refl
    where
      go : (b : Bool) → ltb (from T (at cs n)) (to T (at cs j)) ≡ b → Tells n (cond b (some (j, n)) later)
      go true q = (peer_overlap j n h r e (ltb-true (from T (at cs n)) (to T (at cs j)) q), λ i k b d o. absurd (omega arith))
      go false q = tells_more n later (λ i o. no i o (some_inj (sym e ∙ overlap_peer i n o))) t
        where
          no : (i : ℕ) → Overlap T cs i n → j ≡ i → ⊥
          no i o s = bool_absurd (lt-ltb (from T (at cs n)) (to T (at cs j)) (rw s o.exceeds)) q

  -- of changes with their places, the replacements and runs
  abbrev removers : List (ℕ × Change) → List (ℕ × Change)
  removers qs = keep (λ c. not (eqb (rank c.1) 0)) qs

  removers_none : removers [] ≡ []
  unfolding keep pick
  removers_none = refl

  removers_yes : (q : ℕ × Change) (qs : List (ℕ × Change)) → removes q.1 ≡ true → removers (q ∷ qs) ≡ q ∷ removers qs
  removers_yes q qs e = keep_yes (λ c. not (eqb (rank c.1) 0)) q qs e

  removers_no : (q : ℕ × Change) (qs : List (ℕ × Change)) → removes q.1 ≡ false → removers (q ∷ qs) ≡ removers qs
  removers_no q qs e = keep_no (λ c. not (eqb (rank c.1) 0)) q qs e

  tells_from : (n : ℕ) (l : List Change) → ((i : ℕ) → at l i ≡ at cs (n + i)) → n + length l ≡ length cs → Tells n (overlapping T (seen n) (removers (numbered n l)))
  unfolding numbered overlapping
  tells_from n [] h z = rw removers_none (λ j k b o. absurd (omega (arith, o.within)))
  tells_from n (c ∷ l) h z =
      let here : n + 0 ≡ n = omega arith in
      let e : c ≡ at cs n = h 0 ∙ ap (at cs) here in
      rw e (go (removes (at cs n)) refl (tells_from (suc n) l (λ i. h (suc i) ∙ (let z : n + suc i ≡ suc n + i = omega arith in ap (at cs) z)) (omega arith)))
    where
      rest : List (ℕ × Change)
      rest = numbered (suc n) l

      go : (b : Bool) → removes (at cs n) ≡ b → Tells (suc n) (overlapping T (seen (suc n)) (removers rest)) → Tells n (overlapping T (seen n) (removers ((n, at cs n) ∷ rest)))
      go true e t =
          rw (removers_yes (n, at cs n) rest e, seen_first (at cs n) n)
          (tells_here n (overlapping T ((n, at cs n) ∷ seen n) (removers rest)) (omega (arith, z)) e (rw (seen_yes n e) at t) (last_below n (is_peer (at cs n))) refl)
      go false e t =
          rw (removers_no (n, at cs n) rest e)
          (tells_more n (overlapping T (seen n) (removers rest)) (λ j o. o.removes (eqb-true (rank (at cs n)) 0 (not-false (eqb (rank (at cs n)) 0) e))) (rw (seen_no n e) at t))

  pub tells_all : Tells 0 (overlap T cs)
  unfolding overlap seen
  tells_all = tells_from 0 cs (λ i. let z : i ≡ 0 + i = omega arith in ap (at cs) z) (omega arith)

  -- ── Theorems ──────────────────────────────────────────────────────────────────────────────────────────────

  -- THE PAIR THAT IS TOLD OVERLAPS
  pub overlap_true : (j k : ℕ) → overlap T cs ≡ some (j, k) → Overlap T cs j k
  overlap_true j k e = (rw e at tells_all).0

  -- AND IT IS THE FIRST: no pair overlaps whose later change comes before k
  pub overlap_first : (j k : ℕ) → overlap T cs ≡ some (j, k) → (i m : ℕ) → Overlap T cs i m → k ≤ m
  overlap_first j k e i m o = go (lt_or_le m k)
    where
      go : (m < k) ⊎ (k ≤ m) → k ≤ m
      go (inl h) = absurd ((rw e at tells_all).1 i m (omega arith) h o)
      go (inr h) = h
