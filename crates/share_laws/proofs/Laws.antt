-- What the share of text rewritten tells: its bounds, what it is where all or nothing is changed, that its numbers fit words, and that it is refused where the edit is.
-- Assumes nothing.
use Rattle.std.specs.Prelude.{◌≡◌, refl, false, ℕ, zero, suc, ◌+◌, ◌*◌, ◌≤◌, ◌<◌, length, take}
use Rattle.std.proofs.Common.{ap, ◌∙◌, mod-lt, mul-div_cancel, arith, length-append}
use mathlib.Core.List.{List, [], ◌∷◌, map, flat_map}
use Rattle.std.proofs.Math.Option.{Option, none, some}
use Rattle.std.proofs.Math.Nat.{zero-div, zero-mod, div-add-mod, div-le_of_le-mul, mul-mod_left}
use Rattle.orders.specs.Lists.{any, pick, total}
use Rattle.orders.specs.Tree.{Tree, Trees, nil, cons, list, children, label, measure, preorder, text, text_of}
use Rattle.definition.specs.Basics.{Answer, refused, gives, ◌>>=◌, refuse, numbered, sort_by, rising}
use Rattle.definition.specs.Choices.{Choices, chosen}
use Rattle.definition.specs.Elements.{table, row}
use Rattle.definition.specs.Refusals.{Accepted, accepted}
use Rattle.definition.specs.Running.{World, Changed, begin, news, records}
use Rattle.definition.specs.Finishing.{new_tree, new_table, number_at, changed_elements, Result, result}
use Rattle.definition.specs.Answers.{Plan, plan, performed, at_first, ran, edit, too_short, with_work, with_choices}
use Rattle.definition_laws.specs.Answers.{gives_inj, given}
use Rattle.definition_laws.specs.Limits.{Small}
use Rattle.definition_laws.proofs.Limits.{keep_length, steps_changed, ran_known}
use Rattle.definition_laws.specs.Stages.{numbered_length}
use Rattle.definition_account.specs.Words.{changed_in}
use Rattle.share_laws.specs.Share.{lies_in_one, bytes_in, new_text, rewritten_bytes, thousandths, share_in, share, shared}
use Rattle.share_laws.proofs.Sum.{hits_none}

-- ── Thousandths ─────────────────────────────────────────────────────────────────────────────────────────────

-- "whole quotient and exact remainder"
pub record Exact (part all : ℕ) : Type 0 where
  pub quotient : (thousandths part all).0 ≤ 1000
  pub remainder : 0 < all → (thousandths part all).1 < all
  pub exact : 0 < all → all * (thousandths part all).0 + (thousandths part all).1 ≡ 1000 * part

pub thousandths_exact : (part all : ℕ) → part ≤ all → Exact part all
unfolding thousandths
thousandths_exact part zero h = record { quotient = omega arith; remainder = λ k. absurd (omega arith); exact = λ k. absurd (omega arith) }
thousandths_exact part (suc n) h = record {
  quotient = div-le_of_le-mul (suc n) (omega arith);
  remainder = λ k. mod-lt _ k;
  exact = λ k. div-add-mod (1000 * part) (suc n);
}

pub thousandths_all : (all : ℕ) → 0 < all → thousandths all all ≡ (1000, 0)
unfolding thousandths
thousandths_all zero h = absurd (omega arith)
thousandths_all (suc n) h = rw (mul-div_cancel 1000 h, mul-mod_left 1000 (suc n))

pub thousandths_nothing : (all : ℕ) → thousandths 0 all ≡ (0, 0)
unfolding thousandths
thousandths_nothing zero = refl
thousandths_nothing (suc n) = rw (zero-div (suc n), zero-mod (suc n))

pub thousandths_empty : (part : ℕ) → thousandths part 0 ≡ (0, 0)
unfolding thousandths
thousandths_empty part = refl

-- ── The new tree ────────────────────────────────────────────────────────────────────────────────────────────

-- no more bytes are rewritten than there are
pub rewritten_within : (w : World) → length (rewritten_bytes w) ≤ length (new_text w)
unfolding rewritten_bytes bytes_in
rewritten_within w = omega (arith, keep_length (λ b. lies_in_one (new_table w) (changed_in (new_table w) w) b.0) (numbered 0 (new_text w)), numbered_length 0 (new_text w))

-- THE BOUNDS
pub share_exact : (w : World) → Exact (length (rewritten_bytes w)) (length (new_text w))
share_exact w = thousandths_exact (length (rewritten_bytes w)) (length (new_text w)) (rewritten_within w)

-- nothing changed gives 0 and 0
pub share_nothing : (w : World) → changed_in (new_table w) w ≡ [] → share_in w ≡ (0, 0)
unfolding share_in rewritten_bytes bytes_in lies_in_one any
share_nothing w e = ap (λ (n : ℕ). thousandths n (length (new_text w))) (ap (λ (l : List ℕ). length (bytes_in (new_table w) l (new_text w))) e ∙ hits_none (λ i. false) (λ i. refl) 0 (new_text w)) ∙ thousandths_nothing (length (new_text w))

-- an empty text gives 0 and 0
pub share_empty : (w : World) → new_text w ≡ [] → share_in w ≡ (0, 0)
unfolding share_in
share_empty w e = ap (λ (l : List ℕ). thousandths (length (rewritten_bytes w)) (length l)) e ∙ thousandths_empty (length (rewritten_bytes w))

-- ── Numbers that fit ────────────────────────────────────────────────────────────────────────────────────────

-- the new tree is one of the current trees
new_text_within : (w : World) → length (new_text w) ≤ length (text_of (children w.trees))
unfolding new_text new_tree flat_map text list
new_text_within w = go (children w.trees)
  where
    go : (cs : Trees ℕ) → length (flat_map text (take 1 (list cs))) ≤ length (text_of cs)
    go nil = omega arith
    go (cons c cs) = omega (arith, length-append (text c) [], length-append (text c) (text_of cs))

-- numbers that a computation of the share meets
pub record Fits (w : World) : Type 0 where
  pub text : length (new_text w) ≤ 16384
  pub product : 1000 * length (rewritten_bytes w) ≤ 16384000
  pub quotient : (share_in w).0 ≤ 1000
  pub remainder : (share_in w).1 < 16384

-- 1,000 times 16,384 is below 2^32
pub product_in_word : 16384000 < 4294967296
product_in_word = omega arith

pub share_fits : (w : World) → Small w → Fits w
unfolding share_in thousandths
share_fits w s =
    let t : length (new_text w) ≤ 16384 = omega (arith, new_text_within w, s.text) in
    let e = share_exact w in
    record { text = t; product = omega (arith, rewritten_within w); quotient = e.quotient; remainder = go (length (new_text w)) t e.remainder }
  where
    go : (all : ℕ) → all ≤ 16384 → (0 < all → (thousandths (length (rewritten_bytes w)) all).1 < all) → (thousandths (length (rewritten_bytes w)) all).1 < 16384
    go zero h k = omega arith
    go (suc n) h k = omega (arith, k (omega arith))

-- ── A batch ─────────────────────────────────────────────────────────────────────────────────────────────────

-- what is not refused, and what is left then
pub share_ran : (h : Choices) (bytes : List ℕ) (s : ℕ × ℕ) → share h bytes ≡ gives s → (a : Accepted) × (p : Plan) × (w : World) × (accepted bytes ≡ gives a) × (plan h a ≡ gives p) × (ran a p ≡ gives w) × (share_in w ≡ s)
unfolding share
share_ran h bytes s e =
    given (accepted bytes) _ e λ a x e.
    given (plan h a) _ e λ p y e.
    given (ran a p) _ e λ w z e.
    (a, p, w, x, y, z, gives_inj e)

-- the result that the same batch has by the edit, and what the share has to do with it
pub record OfEdit (h : Choices) (bytes : List ℕ) (s : ℕ × ℕ) : Type 0 where
  pub result : Result
  pub edited : edit h bytes ≡ gives result
  -- the new tree that it spells (a list of one)
  pub tree : List (Tree ℕ)
  pub kinds : map label (flat_map preorder tree) ≡ result.kinds
  pub measures : map measure (flat_map preorder tree) ≡ result.measures
  pub text : flat_map text tree ≡ result.text
  -- so many bytes of its text lie in an element that it tells as changed
  pub share : thousandths (length (bytes_in (table 0 0 tree) result.changed result.text)) (length result.text) ≡ s

pub share_of_edit : (h : Choices) (bytes : List ℕ) (s : ℕ × ℕ) → share h bytes ≡ gives s → OfEdit h bytes s
unfolding edit result new_text new_table share_in rewritten_bytes changed_in ◌>>=◌
share_of_edit h bytes s e =
    let (a, p, w, x, y, z, q) = share_ran h bytes s e in
    record { result = result p.changes p.climbs w; edited = rw (x, y, z); tree = new_tree w; kinds = refl; measures = refl; text = refl; share = q }

-- the share fits, whatever the choices
pub ran_fits : (h : Choices) (bytes : List ℕ) (a : Accepted) (p : Plan) (w : World) → accepted bytes ≡ gives a → plan h a ≡ gives p → ran a p ≡ gives w → Fits w
ran_fits h bytes a p w x y z = share_fits w (ran_known h bytes a p w x y z).small

-- nothing put into tree 0 and recorded, as by deletions alone: 0 and 0
pub ran_nothing : (h : Choices) (bytes : List ℕ) (a : Accepted) (p : Plan) (w : World) → accepted bytes ≡ gives a → plan h a ≡ gives p → ran a p ≡ gives w
    → total (records a.table) (λ q. length (news q.change)) (performed a p) ≡ 0 → share_in w ≡ (0, 0)
unfolding ran at_first begin changed_in changed_elements rising sort_by pick
ran_nothing h bytes a p w x y z e =
    share_nothing w (none_in w.changed (omega (arith, steps_changed a.table (at_first a p) (performed a p) (at_first a p) w z)) refl)
  where
    none_in : (l : List Changed) → length l ≤ 0 → w.changed ≡ l → changed_in (new_table w) w ≡ []
    none_in [] k e = rw e
    none_in (c ∷ l) k e = absurd (omega arith)

-- the number of a refusal, or none
unfoldable pub refusal : {A : Type 0} → Answer A → Option ℕ
refusal (refused n) = some n
refusal (gives a) = none

-- "A call on a batch, whose refusals come first": it is refused just where the edit is, by the same number
pub refused_alike : (h : Choices) (bytes : List ℕ) → refusal (share h bytes) ≡ refusal (edit h bytes)
unfolding share edit refusal ◌>>=◌
refused_alike h bytes = by_batch (accepted bytes)
  where
    by_world : (p : Plan) (o : Answer World) → refusal (o >>= λ w. gives (share_in w)) ≡ refusal (o >>= λ w. gives (result p.changes p.climbs w))
    by_world p (refused n) = refl
    by_world p (gives w) = refl

    by_plan : (a : Accepted) (o : Answer Plan) → refusal (o >>= λ p. ran a p >>= λ w. gives (share_in w)) ≡ refusal (o >>= λ p. ran a p >>= λ w. gives (result p.changes p.climbs w))
    by_plan a (refused n) = refl
    by_plan a (gives p) = by_world p (ran a p)

    by_batch : (o : Answer Accepted) → refusal (o >>= λ a. plan h a >>= λ p. ran a p >>= λ w. gives (share_in w)) ≡ refusal (o >>= λ a. plan h a >>= λ p. ran a p >>= λ w. gives (result p.changes p.climbs w))
    by_batch (refused n) = refl
    by_batch (gives a) = by_plan a (plan h a)

-- the public call too, with 17, 18 and 1 before that: what `edited` refuses but for 13
pub shared_alike : (h : Choices) (work : List (ℕ × ℕ)) (bytes : List ℕ) → refusal (shared h work bytes) ≡ refusal (with_choices h work (edit h bytes))
unfolding shared with_choices with_work refusal ◌>>=◌
shared_alike h work bytes = go (chosen h) (refuse 1 (too_short work))
  where
    go : (c s : Answer (Unit {0})) → refusal (c >>= λ u. s >>= λ v. share h bytes) ≡ refusal (c >>= λ u. s >>= λ v. edit h bytes)
    go (refused n) s = refl
    go (gives u) (refused n) = refl
    go (gives u) (gives v) = refused_alike h bytes
