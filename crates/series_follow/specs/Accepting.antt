-- Lines 2 to 7 with 16, and 22 after them.
-- Assumes nothing.
use Rattle.std.specs.Prelude.{◌≡◌, refl, Result, Ok, Err, Bool, true, not, List, ℕ, ◌≤◌, length, drop}
use Rattle.std.proofs.Math.Path.{sym, ap}
use Rattle.std.proofs.Common.{◌∙◌, arith}
use Rattle.std.proofs.Math.Bool.{false}
use Rattle.definition.specs.Basics.{Answer, refused, gives, ◌>>=◌, refuse}
use Rattle.definition.specs.Words.{word}
use Rattle.definition.specs.Refusals.{Accepted, accepted}
use Rattle.refusals.specs.Numbers.{number, answered}
use Rattle.refusals.specs.declared.Refusal.{Refusal}
use Rattle.refusals.specs.declared.Refusal.TheVariants.{AnotherTree}
use Rattle.read_layout.specs.declared.Layout.{Layout}
use Rattle.read_batch.specs.Accepting.{judged_refuses}
use Rattle.read_batch.specs.Leaving.{Judged}
use Rattle.check_laws.specs.Check.{Flat}
use Rattle.check_laws.specs.Claimed.{old_tree, flat_of}
use Rattle.series_laws.specs.Memory.{same_tree}
use Rattle.series_laws.specs.Lent.{tree_in}
use Rattle.series_tree.specs.Old.{Read}
use Rattle.series_tree.specs.Accepted.{leaves_read}
use Rattle.edit_perform.specs.Beginning.{LaidOut, judged_laid}

-- a batch's tree 0 is this tree
abbrev pub same_as : Flat → Accepted → Bool
same_as f a = same_tree (flat_of (old_tree a.trees)) f

-- "22: tree 0 is not the tree left before, checked after 7"
unfoldable pub accepted_on : Flat → List ℕ → Answer Accepted
accepted_on f bytes = do
  a ← accepted bytes
  _ ← refuse 22 (not (same_as f a))
  gives a

-- the tree that a slice holds
abbrev pub held_in : List ℕ → Flat
held_in tree = tree_in (word tree) (word (drop 4 tree)) tree

-- THE PROMISE of `accept_same`: the refusal, or the batch laid out, whose tree 0 is the memory's
pub record AcceptsOn (b tree t s : List ℕ) (r : Result Layout Refusal) : Type 0 where
  pub refuses : (e : Refusal) → r ≡ Err e → accepted_on (held_in tree) b ≡ refused (number e)
  pub left : (l : Layout) → r ≡ Ok l → LaidOut b l t s
  pub same : (l : Layout) → r ≡ Ok l → (a : Accepted) → accepted b ≡ gives a → same_as (held_in tree) a ≡ true

refused_on : {b tree t s : List ℕ} (f : Refusal) → accepted_on (held_in tree) b ≡ refused (number f) → AcceptsOn b tree t s (Err f)
refused_on f e = record {
  refuses = λ g i. let same : f ≡ g = cc in e ∙ ap (λ (x : Refusal). refused (number x)) same;
  left = λ l i. absurd (let z : ◌≡◌ {A = ℕ} 0 1 = cc in omega arith);
  same = λ l i. absurd (let z : ◌≡◌ {A = ℕ} 0 1 = cc in omega arith);
}

-- what 22 asks
pub accepts_read : {b t₀ s₀ t s : List ℕ} {r : Result Layout Refusal} → Judged b t₀ s₀ t s r → (l : Layout) → r ≡ Ok l → (16384 ≤ length t₀) × (6147 ≤ length s₀) → length s ≡ length s₀ → Read b l s
accepts_read J l e h q =
    let v = J.left l e in
    let few = v.within.limits.elements in
    leaves_read v (omega (arith, h.0)) (omega (arith, h.1)) (omega (arith, h.1))

module _ {b tree t₀ s₀ t s : List ℕ} {r : Result Layout Refusal} (J : Judged b t₀ s₀ t s r) where
  pub accepts_refused : (f : Refusal) → r ≡ Err f → AcceptsOn b tree t s (Err f)
  unfolding answered accepted_on ◌>>=◌
  accepts_refused f e = refused_on f (rw (judged_refuses b (number f) (sym J.answer ∙ ap answered e)) refl)

  module _ (l : Layout) (e : r ≡ Ok l) (q : Bool) (f : (a : Accepted) → accepted b ≡ gives a → q ≡ same_tree (flat_of (old_tree a.trees)) (held_in tree)) where
    pub accepts_22 : q ≡ false → AcceptsOn b tree t s (Err AnotherTree)
    unfolding number accepted_on refuse ◌>>=◌
    accepts_22 z =
        let v = J.left l e in
        let other : same_as (held_in tree) v.what ≡ false = sym (f v.what v.accepted) ∙ z in
        refused_on AnotherTree (rw (v.accepted, other) refl)

    pub accepts_same : (16384 ≤ length t₀) × (6147 ≤ length s₀) → q ≡ true → AcceptsOn b tree t s (Ok l)
    accepts_same h z = record {
      refuses = λ k i. absurd (let z : ◌≡◌ {A = ℕ} 0 1 = cc in omega arith);
      left = λ m i. let is : l ≡ m = cc in judged_laid J m (e ∙ ap Ok is) h.0 h.1;
      same = λ m i a x. sym (f a x) ∙ z;
    }
