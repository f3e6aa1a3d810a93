-- The test of Words says just what Note 13 says.
-- Assumes nothing.
use Rattle.std.specs.Prelude.{◌≡◌, Bool, cond, not, ◌&&◌, ◌||◌, ◌⊎◌, ◌↔◌, ℕ, suc, ◌+◌, ◌≤◌, ◌<◌, leb, ltb, drop}
use Rattle.std.proofs.Math.Path.{refl, subst}
use Rattle.std.proofs.Common.{sym, ap, ◌∙◌, leb-true, ltb-true, eqb-true, le-leb, lt-ltb, eq-eqb}
use Rattle.std.proofs.Math.Bool.{true, false}
use mathlib.Core.List.{List, [], ◌∷◌, map, head_d}
use Rattle.std.proofs.Math.Logic.{inl, inr}
use Rattle.std.proofs.Math.Option.{Option, none, some}
use native.Mathlib.Omega.{arith}
use Rattle.std.proofs.Math.Dec.{eqb}
use Rattle.std.proofs.Math.ListN.{length}
use Rattle.orders.specs.Lists.{All, pick, more}
use Rattle.orders.specs.ListLaws.{bool_absurd, both_true, either_true, none_some, lt_or_le, any_mem, mem_any}
use Rattle.orders.specs.Tree.{Tree, Path, strip}
use Rattle.orders.proofs.TreeLaws.{strip_append, strip_some}
use Rattle.orders.specs.Splices.{Splice, Enters, EntersDeleted}
use Rattle.orders.proofs.Check.{each, Says}
use Rattle.definition.specs.Basics.{is_some, keep, numbered}
use Rattle.definition.specs.Elements.{Table, table, row, tree}
use Rattle.definition.specs.Refusals.{Accepted}
use Rattle.definition.specs.Running.{World}
use Rattle.definition.specs.Finishing.{Result}
use Rattle.definition.specs.Answers.{Plan}
use Rattle.definition.specs.Performed.{splices}
use Rattle.definition_laws.specs.Kin.{path_long}
use Rattle.definition_account.specs.Words.{went_to, old_elements, old_at, OneOf, changed, old, NowhereIfDeleted}
use Rattle.full_account.specs.Words.{changed_above, Accounted, in_run?, deleted?, sheet_of, one_of?, alike?, full?}

-- ── Lists ───────────────────────────────────────────────────────────────────────────────────────────────────

-- each element of a mapped list passes just if a property holds of each element
says_mapped : {X Y : Type 0} (f : X → Y) (p : Y → Bool) (P : X → Type 0) (l : List X) → All (λ x. Says (p (f x)) (P x)) l → Says (each p (map f l)) (All P l)
unfolding each
says_mapped f p P [] h = (λ e. tt, λ k. refl)
says_mapped f p P (x ∷ l) h =
    let r = says_mapped f p P l h.1 in
    (λ e. let (a, b) = both_true (p (f x)) (each p (map f l)) e in (h.0.0 a, r.0 b), λ k. rw (h.0.1 k.0, r.1 k.1))

module _ {A : Type 0} (P : ℕ → Type 0) where
  -- all numbers from k on
  all_numbers : (k : ℕ) (l : List A) → ((n : ℕ) → k ≤ n → n < k + length l → P n) → All P (map (λ m. m.0) (numbered k l))
  unfolding numbered
  all_numbers k [] f = tt
  all_numbers k (x ∷ l) f = (f k (omega arith) (omega arith), all_numbers (suc k) l (λ n a b. f n (omega arith) (omega arith)))

  number_of : (k : ℕ) (l : List A) → All P (map (λ m. m.0) (numbered k l)) → (n : ℕ) → k ≤ n → n < k + length l → P n
  unfolding numbered
  number_of k [] h n a b = absurd (omega arith)
  number_of k (x ∷ l) h n a b = elim (lt_or_le k n) [ inl g ↦ number_of (suc k) l h.1 n (omega arith) (omega arith) | inr g ↦ let z : k ≡ n = omega arith in subst P z h.0 ]

module _ (p : ℕ → Bool) (P : ℕ → Type 0) where
  -- all that pass a test
  pub all_kept : (l : List ℕ) → All (λ x. p x ≡ true → P x) l → All P (keep p l)
  unfolding keep pick
  all_kept [] h = tt
  all_kept (x ∷ l) h = go (p x) refl (all_kept l h.1)
    where
      go : (b : Bool) → p x ≡ b → All P (keep p l) → All P (more (cond b (some x) none) (keep p l))
      go true e k = (h.0 e, k)
      go false e k = k

  kept_of : (l : List ℕ) → All P (keep p l) → All (λ x. p x ≡ true → P x) l
  unfolding keep pick
  kept_of [] h = tt
  kept_of (x ∷ l) h = go (p x) refl h (λ k. kept_of l k)
    where
      go : (b : Bool) → p x ≡ b → All P (more (cond b (some x) none) (keep p l)) → (All P (keep p l) → All (λ x. p x ≡ true → P x) l) → (p x ≡ true → P x) × All (λ x. p x ≡ true → P x) l
      go true e k f = (λ y. k.0, f k.1)
      go false e k f = (λ y. bool_absurd y e, f k)

pub each_of : {X : Type 0} {P : X → Type 0} → ((x : X) → P x) → (l : List X) → All P l
each_of f [] = tt
each_of f (x ∷ l) = (f x, each_of f l)

-- ── One element ─────────────────────────────────────────────────────────────────────────────────────────────

says_one : (c o : ℕ) → Says (one_of? (c, o)) (OneOf c o)
unfolding one_of?
says_one c o = (λ e. there (either_true (eqb c 1 && eqb o 0) (eqb c 0 && eqb o 1) e), back)
  where
    there : ((eqb c 1 && eqb o 0) ≡ true) ⊎ ((eqb c 0 && eqb o 1) ≡ true) → OneOf c o
    there (inl e) = let (x, y) = both_true (eqb c 1) (eqb o 0) e in rw (eqb-true c 1 x, eqb-true o 0 y) changed
    there (inr e) = let (x, y) = both_true (eqb c 0) (eqb o 1) e in rw (eqb-true c 0 x, eqb-true o 1 y) old

    back : {c o : ℕ} → OneOf c o → ((eqb c 1 && eqb o 0) || (eqb c 0 && eqb o 1)) ≡ true
    back changed = refl
    back old = refl

-- ── Deleted children ────────────────────────────────────────────────────────────────────────────────────────

says_in_run : (s : Splice ℕ) (e : Path) → Says (in_run? s (strip s.parent e)) (Enters s e)
unfolding in_run?
says_in_run s e = (there (strip s.parent e) refl, λ h. ap (in_run? s) (ap (strip s.parent) h.leads ∙ strip_append s.parent (h.child ∷ h.rest)) ∙ rw (le-leb s.from h.child h.low, lt-ltb h.child s.to h.high))
  where
    there : (o : Option Path) → strip s.parent e ≡ o → in_run? s o ≡ true → Enters s e
    there none z y = bool_absurd y refl
    there (some []) z y = bool_absurd y refl
    there (some (i ∷ r)) z y =
        let (a, b) = both_true (leb s.from i) (ltb i s.to) y in
        record { child = i; rest = r; leads = strip_some s.parent e (i ∷ r) z; low = leb-true s.from i a; high = ltb-true i s.to b }

pub says_deleted : (S : List (Splice ℕ)) (e : Path) → Says (deleted? S e) (EntersDeleted S e)
unfolding deleted?
says_deleted S e = (
  λ y. let (s, m, z) = any_mem (λ s. in_run? s (strip s.parent e)) S y in record { by = s; one = m; enters = (says_in_run s e).0 z },
  λ d. mem_any (λ s. in_run? s (strip s.parent e)) S d.by d.one ((says_in_run d.by e).1 d.enters),
)

-- ── One old element ─────────────────────────────────────────────────────────────────────────────────────────

says_alike : (b : Bool) (P : Type 0) (o : Option ℕ) → Says b P → Says (alike? (not (is_some o), b)) ((o ≡ none) ↔ P)
unfolding alike? is_some
says_alike true P none h = (λ e. (λ z. h.0 refl, λ x. refl), λ k. refl)
says_alike false P none h = (λ e. bool_absurd e refl, λ k. h.1 (k.0 refl))
says_alike true P (some n) h = (λ e. bool_absurd e refl, λ k. none_some (sym (k.1 (h.0 refl))))
says_alike false P (some n) h = (λ e. (λ z. none_some (sym z), λ x. bool_absurd (h.1 x) refl), λ k. refl)

-- the old element x goes nowhere just if it is deleted
abbrev Nowhere : Table → List (Splice ℕ) → World → ℕ → Type 0
Nowhere T S w x = (went_to w x ≡ none) ↔ EntersDeleted S (drop 1 (row T x).path)

-- a path of tree 0
from_0 : (p : Path) → 0 < length p → head_d p 0 ≡ 0 → p ≡ 0 ∷ drop 1 p
unfolding head_d
from_0 [] h e = absurd (omega arith)
from_0 (i ∷ p) h e = ap {B = Path} (λ (j : ℕ). j ∷ p) e

module _ (ts : List (Tree ℕ)) (S : List (Splice ℕ)) (w : World) where
  abbrev T : Table
  T = table 0 0 ts

  abbrev numbers : List ℕ
  numbers = map (λ m. m.0) (numbered 0 T)

  -- of each old element, and of each element of tree 0 by its path
  all_nowhere : NowhereIfDeleted T S w → All (Nowhere T S w) (old_elements T)
  unfolding old_elements tree
  all_nowhere k = all_kept (λ x. eqb (tree T x) 0) (Nowhere T S w) numbers (all_numbers (λ x. eqb (tree T x) 0 ≡ true → Nowhere T S w x) 0 T one)
    where
      one : (x : ℕ) → 0 ≤ x → x < 0 + length T → eqb (tree T x) 0 ≡ true → Nowhere T S w x
      one x a b e = k x (drop 1 (row T x).path) (omega arith) (from_0 (row T x).path (path_long ts x (omega arith)) (eqb-true (tree T x) 0 e))

  nowhere_of : All (Nowhere T S w) (old_elements T) → NowhereIfDeleted T S w
  unfolding old_elements tree head_d
  nowhere_of h x e l z =
      let k = number_of (λ x. eqb (tree T x) 0 ≡ true → Nowhere T S w x) 0 T (kept_of (λ x. eqb (tree T x) 0) (Nowhere T S w) numbers h) x (omega arith) (omega arith) in
      subst (λ (q : Path). (went_to w x ≡ none) ↔ EntersDeleted S q) (ap (drop 1) z) (k (eq-eqb (tree T x) 0 (ap (λ (q : Path). head_d q 0) z)))

-- ── The test ────────────────────────────────────────────────────────────────────────────────────────────────

pub full_says : (a : Accepted) (p : Plan) (w : World) (R : Result) → a.table ≡ table 0 0 a.trees → (full? (sheet_of a p w R) ≡ true) ↔ Accounted a p w R
unfolding full? sheet_of
full_says a p w R t = (there, back)
  where
    count : ℕ → ℕ × ℕ
    count n = (changed_above R n, old_at a.table w n)

    gone : ℕ → Bool × Bool
    gone x = (not (is_some (went_to w x)), deleted? (splices a p) (drop 1 (row a.table x).path))

    places : List ℕ
    places = map (λ m. m.0) (numbered 0 R.kinds)

    One : ℕ → Type 0
    One n = OneOf (changed_above R n) (old_at a.table w n)

    says_elements : Says (each one_of? (map count places)) (All One places)
    says_elements = says_mapped count one_of? One places (each_of (λ n. says_one (changed_above R n) (old_at a.table w n)) places)

    says_olds : Says (each alike? (map gone (old_elements a.table))) (All (Nowhere a.table (splices a p) w) (old_elements a.table))
    says_olds = says_mapped gone alike? (Nowhere a.table (splices a p) w) (old_elements a.table) (each_of (λ x. says_alike _ _ (went_to w x) (says_deleted (splices a p) (drop 1 (row a.table x).path))) (old_elements a.table))

    there : (each one_of? (map count places) && each alike? (map gone (old_elements a.table))) ≡ true → Accounted a p w R
    there e =
        let (x, y) = both_true (each one_of? (map count places)) (each alike? (map gone (old_elements a.table))) e in
        record {
          each = λ n l. number_of One 0 R.kinds (says_elements.0 x) n (omega arith) (omega arith);
          nowhere = subst (λ (T : Table). All (Nowhere T (splices a p) w) (old_elements T) → NowhereIfDeleted T (splices a p) w) (sym t) (nowhere_of a.trees (splices a p) w) (says_olds.0 y);
        }

    back : Accounted a p w R → (each one_of? (map count places) && each alike? (map gone (old_elements a.table))) ≡ true
    back k =
        let x = says_elements.1 (all_numbers One 0 R.kinds (λ n i l. k.each n (omega arith))) in
        let y = says_olds.1 (subst (λ (T : Table). NowhereIfDeleted T (splices a p) w → All (Nowhere T (splices a p) w) (old_elements T)) (sym t) (all_nowhere a.trees (splices a p) w) k.nowhere) in
        rw (x, y)
