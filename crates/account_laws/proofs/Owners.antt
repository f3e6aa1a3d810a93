-- THE REGION THAT A FATE NAMES (document 02, Note 5): it contains the change, and it is the one that the stack rule picks.
-- Assumes nothing.
use Rattle.std.proofs.Math.Path.{◌≡◌, refl, ap}
use Rattle.std.proofs.Common.{sym, ◌∙◌, arith}
use Rattle.std.specs.Prelude.{Bool, cond, not, ◌&&◌, ◌||◌, List, ◌↔◌, ℕ, ◌<◌, leb, length}
use Rattle.std.proofs.Math.Bool.{true, false}
use Rattle.std.proofs.Math.Option.{Option, none, some}
use Rattle.std.proofs.Math.Dec.{ltb, eqb}
use borrow.Author.Tests.{leb-true, le-leb, ltb-true, lt-ltb, eqb-true, eq-eqb, not-true}
use Rattle.orders.specs.ListLaws.{bool_absurd, both_true, none_some}
use Rattle.definition.specs.Elements.{Table}
use Rattle.definition.specs.Recording.{Change}
use Rattle.definition.specs.Planning.{from, to, Fate, own, dependent, discarded, is_discarded, adds_region, node_by_node}
use Rattle.account_laws.specs.Words.{every_below, at, named, tree_of, InTrees, covers, Covers, fate_at, Contains, Owns, Owner, spares, owns, owner, fate_under}
use Rattle.account_laws.proofs.Below.{Last, last_none, last_some, some_last, every_passes, passes_every}
use Rattle.account_laws.proofs.Stacks.{fate_here, here_owned, fates_here}

module _ (T : Table) (cs : List Change) where
  -- ── The test ──────────────────────────────────────────────────────────────────────────────────────────────

  covers_why : (c d : Change) → covers T c d ≡ true → Covers T c d
  covers_why c d e = let b = both_true (leb (from T c) (from T d)) (leb (to T d) (to T c)) e in (leb-true (from T c) (from T d) b.0, leb-true (to T d) (to T c) b.1)

  why_covers : (c d : Change) → Covers T c d → covers T c d ≡ true
  why_covers c d h = rw (le-leb (from T c) (from T d) h.0, le-leb (to T d) (to T c) h.1)

  spares_why : (t k j : ℕ) → k < j → tree_of T (at cs j) ≡ t → spares T cs t k j ≡ true → covers T (at cs k) (at cs j) ≡ true
  unfolding spares
  spares_why t k j h q e = rw (lt-ltb k j h, eq-eqb (tree_of T (at cs j)) t q) at e

  why_spares : (t k j : ℕ) → (k < j → tree_of T (at cs j) ≡ t → covers T (at cs k) (at cs j) ≡ true) → spares T cs t k j ≡ true
  unfolding spares
  why_spares t k j h = go (ltb k j) refl (eqb (tree_of T (at cs j)) t) refl
    where
      go : (a : Bool) → ltb k j ≡ a → (b : Bool) → eqb (tree_of T (at cs j)) t ≡ b → (not (a && b) || covers T (at cs k) (at cs j)) ≡ true
      go true e true f = h (ltb-true k j e) (eqb-true (tree_of T (at cs j)) t f)
      go true e false f = refl
      go false e b f = refl

  -- the test says what the stack rule says
  pub owns_why : (i k : ℕ) → k < i → owns T cs i k ≡ true → Owns T cs k i
  unfolding owns
  owns_why i k h e =
      let t = tree_of T (at cs i) in
      let every = every_below i (spares T cs t k) in
      let (a, e) = both_true (adds_region T (at cs k)) (eqb (tree_of T (at cs k)) t && (covers T (at cs k) (at cs i) && every)) e in
      let (b, e) = both_true (eqb (tree_of T (at cs k)) t) (covers T (at cs k) (at cs i) && every) e in
      let (c, d) = both_true (covers T (at cs k) (at cs i)) every e in
      record {
        contains = record { before = h; adds = a; tree = eqb-true (tree_of T (at cs k)) t b; covers = covers_why (at cs k) (at cs i) c };
        between = λ j x y z. covers_why (at cs k) (at cs j) (spares_why t k j x z (every_passes (spares T cs t k) i d j y));
      }

  pub why_owns : (i k : ℕ) → Owns T cs k i → owns T cs i k ≡ true
  unfolding owns
  why_owns i k o =
      let t = tree_of T (at cs i) in
      rw (
        o.contains.adds,
        eq-eqb (tree_of T (at cs k)) t o.contains.tree,
        why_covers (at cs k) (at cs i) o.contains.covers,
        passes_every (spares T cs t k) i (λ j h. why_spares t k j (λ x z. why_covers (at cs k) (at cs j) (o.between j x h z))),
      )

  -- the owner is the last change that owns; there is none exactly if none owns
  pub owner_last : (i k : ℕ) → (owner T cs i ≡ some k) ↔ Owner T cs k i
  unfolding owner
  owner_last i k = (λ e. from_last (last_some (owns T cs i) i k e), λ o. some_last (owns T cs i) i k (to_last o))
    where
      from_last : Last (owns T cs i) i k → Owner T cs k i
      from_last l = record { owns = owns_why i k l.below l.passes; last = λ m h o. bool_absurd (why_owns i m o) (l.later m h o.contains.before) }

      to_last : Owner T cs k i → Last (owns T cs i) i k
      to_last o = record { below = o.owns.contains.before; passes = why_owns i k o.owns; later = λ m a b. no m a b (owns T cs i m) refl }
        where
          no : (m : ℕ) → k < m → m < i → (b : Bool) → owns T cs i m ≡ b → owns T cs i m ≡ false
          no m a b true e = absurd (o.last m a (owns_why i m b e))
          no m a b false e = e

  pub owner_none : (i : ℕ) → (owner T cs i ≡ none) ↔ ((k : ℕ) → ¬ Owns T cs k i)
  unfolding owner
  owner_none i = (λ e k o. none_owns e k o, λ h. go h (owner T cs i) refl)
    where
      none_owns : owner T cs i ≡ none → (k : ℕ) → ¬ Owns T cs k i
      none_owns e k o = bool_absurd (why_owns i k o) (last_none (owns T cs i) i e k o.contains.before)

      go : ((k : ℕ) → ¬ Owns T cs k i) → (o : Option ℕ) → owner T cs i ≡ o → owner T cs i ≡ none
      go h none e = e
      go h (some k) e = absurd (h k ((owner_last i k).0 e).owns)

  module _ (few : InTrees T cs) (i : ℕ) (inside : i < length cs) where
    -- ── Theorems ────────────────────────────────────────────────────────────────────────────────────────────

    -- what becomes of a change, by its owner: nothing if there is none; dependent if the owner is an undiscarded call 2 of a node by a node; else discarded
    pub fate_of_owner : fate_at T cs i ≡ fate_under T cs (fate_at T cs) (owner T cs i)
    unfolding fate_under
    fate_of_owner = fates_here T cs few i inside ∙ (here_owned T cs i ∙ go (owner T cs i) refl)
      where
        go : (o : Option ℕ) → owner T cs i ≡ o → fate_under T cs (fate_here T cs) o ≡ fate_under T cs (fate_at T cs) o
        go none e = refl
        go (some k) e = rw (fates_here T cs few k (omega (arith, ((owner_last i k).0 e).owns.contains.before)))

    -- THE STACK RULE, IN CLOSED FORM: the change named is the owner, and none is named exactly if there is no owner
    pub stack_rule : named (fate_at T cs i) ≡ owner T cs i
    unfolding named fate_under
    stack_rule = ap named fate_of_owner ∙ go (owner T cs i)
      where
        one : (k : ℕ) (b : Bool) → named (cond b (dependent k) (discarded k)) ≡ some k
        one k true = refl
        one k false = refl

        go : (o : Option ℕ) → named (fate_under T cs (fate_at T cs) o) ≡ o
        go none = refl
        go (some k) = one k (not (is_discarded (fate_at T cs k)) && node_by_node T (at cs k))

    -- the same as facts: k is named exactly if it is the last change that owns change i
    pub named_exactly : (k : ℕ) → (named (fate_at T cs i) ≡ some k) ↔ Owner T cs k i
    named_exactly k = (λ e. (owner_last i k).0 (sym stack_rule ∙ e), λ o. stack_rule ∙ (owner_last i k).1 o)

    -- `own` exactly if no change owns change i
    pub own_exactly : (fate_at T cs i ≡ own) ↔ ((k : ℕ) → ¬ Owns T cs k i)
    unfolding named
    own_exactly = (λ e. (owner_none i).0 (sym stack_rule ∙ ap named e), λ h. is_own (fate_at T cs i) (stack_rule ∙ (owner_none i).1 h))
      where
        is_own : (f : Fate) → named f ≡ none → f ≡ own
        is_own own e = refl
        is_own (dependent k) e = none_some (sym e)
        is_own (discarded k) e = none_some (sym e)

    -- which of the two: `dependent` exactly under an owner that is an undiscarded call 2 of a node by a node
    pub dependent_exactly : (k : ℕ) → (fate_at T cs i ≡ dependent k) ↔ (Owner T cs k i × (is_discarded (fate_at T cs k) ≡ false) × (node_by_node T (at cs k) ≡ true))
    unfolding named fate_under is_discarded
    dependent_exactly k = (λ e. there (sym stack_rule ∙ ap named e) e, λ h. fate_of_owner ∙ rw ((owner_last i k).1 h.0, h.1, h.2))
      where
        so : (b : Bool) → ◌≡◌ {A = Fate} (cond b (dependent k) (discarded k)) (dependent k) → b ≡ true
        so true e = refl
        so false e = bool_absurd refl (ap is_discarded e)

        there : owner T cs i ≡ some k → fate_at T cs i ≡ dependent k → Owner T cs k i × (is_discarded (fate_at T cs k) ≡ false) × (node_by_node T (at cs k) ≡ true)
        there o e =
            let b = so (not (is_discarded (fate_at T cs k)) && node_by_node T (at cs k)) (ap (fate_under T cs (fate_at T cs)) (sym o) ∙ (sym fate_of_owner ∙ e)) in
            let (c, d) = both_true (not (is_discarded (fate_at T cs k))) (node_by_node T (at cs k)) b in
            ((owner_last i k).0 o, not-true (is_discarded (fate_at T cs k)) c, d)

    -- A CHANGE THAT IS NAMED IS A REGION OF THE SAME TREE THAT CONTAINS THE CHANGE, ends included
    pub named_contains : (k : ℕ) → named (fate_at T cs i) ≡ some k → Contains T cs k i
    named_contains k e = ((named_exactly k).0 e).owns.contains
