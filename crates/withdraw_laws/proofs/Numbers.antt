-- "Numbers count withdrawn changes too": the places of what is left and the numbers of all, and what the account says of each.
-- Assumes nothing.
use Rattle.std.specs.Prelude.{◌≡◌, refl, length, get_or}
use Rattle.std.proofs.Common.{sym, ◌∙◌, arith}
use Rattle.std.proofs.Math.Path.{ap}
use mathlib.Core.List.{List, [], ◌∷◌, ◌++◌, map, flat_map}
use Rattle.std.proofs.Math.Option.{Option, none, some}
use Prim.Native.Nat.{ℕ, zero, suc, ◌+◌, ◌≤◌, ◌<◌}
use Rattle.std.proofs.Math.ListN.{get_elem?}
use Rattle.std.proofs.lemmas.List.{length-map}
use Rattle.orders.specs.Lists.{All, Pairs}
use Rattle.orders.specs.ListLaws.{some_inj, none_some, get_mem, get_map, All-map, All-mem}
use Rattle.definition.specs.Basics.{numbered}
use Rattle.definition.specs.Planning.{Fate, own, dependent, discarded}
use Rattle.definition_laws.specs.Basics.{up_from, up_at}
use Rattle.definition.specs.Withdrawing.{staying, numbers_left}
use Rattle.definition.specs.Account.{fate_line, Said, planned, withdrawn, renumbered, sayings, account_of, said_line, said_lines}

-- ── Places and numbers ──────────────────────────────────────────────────────────────────────────────────────

-- the numbers from n on of those that stay
unfoldable pub numbers_from : ℕ → List (Option ℕ) → List ℕ
numbers_from n [] = []
numbers_from n (none ∷ ws) = n ∷ numbers_from (suc n) ws
numbers_from n (some k ∷ ws) = numbers_from (suc n) ws

left_from : (n : ℕ) (ws : List (Option ℕ)) → staying ws (map (λ w. w.0) (numbered n ws)) ≡ numbers_from n ws
unfolding staying numbered numbers_from
left_from n [] = refl
left_from n (none ∷ ws) = ap {B = List ℕ} (λ r. n ∷ r) (left_from (suc n) ws)
left_from n (some k ∷ ws) = left_from (suc n) ws

pub numbers_are : (ws : List (Option ℕ)) → numbers_left ws ≡ numbers_from 0 ws
unfolding numbers_left
numbers_are ws = left_from 0 ws

-- number i is that of place m of those that stay, in a list in step: there stands what stands at i, which is not withdrawn
pub record Left {A : Type 0} (ws : List (Option ℕ)) (l : List A) (m i : ℕ) (x : A) : Type 0 where
  pub number : get_elem? (numbers_left ws) m ≡ some i
  pub at : get_elem? l i ≡ some x
  pub stays : get_elem? ws i ≡ some none

module _ {A : Type 0} where
  place_from : (n : ℕ) (ws : List (Option ℕ)) (l : List A) (m : ℕ) (x : A) → get_elem? (staying ws l) m ≡ some x
      → (i : ℕ) × (get_elem? (numbers_from n ws) m ≡ some (n + i)) × (get_elem? l i ≡ some x) × (get_elem? ws i ≡ some none)
  unfolding staying numbers_from
  place_from n [] l m x e = none_some e
  place_from n (w ∷ ws) [] m x e = none_some e
  place_from n (none ∷ ws) (y ∷ l) zero x e = (0, ap {B = Option ℕ} some (omega arith), e, refl)
  place_from n (none ∷ ws) (y ∷ l) (suc m) x e = let (i, a, b, c) = place_from (suc n) ws l m x e in (suc i, a ∙ ap {B = Option ℕ} some (omega arith), b, c)
  place_from n (some k ∷ ws) (y ∷ l) m x e = let (i, a, b, c) = place_from (suc n) ws l m x e in (suc i, a ∙ ap {B = Option ℕ} some (omega arith), b, c)

  number_from : (n : ℕ) (ws : List (Option ℕ)) (l : List A) (i : ℕ) (x : A) → get_elem? l i ≡ some x → get_elem? ws i ≡ some none
      → (m : ℕ) × (get_elem? (numbers_from n ws) m ≡ some (n + i)) × (get_elem? (staying ws l) m ≡ some x)
  unfolding staying numbers_from
  number_from n [] l i x e f = none_some f
  number_from n (w ∷ ws) [] i x e f = none_some e
  number_from n (none ∷ ws) (y ∷ l) zero x e f = (0, ap {B = Option ℕ} some (omega arith), e)
  number_from n (some k ∷ ws) (y ∷ l) zero x e f = none_some (sym (some_inj f))
  number_from n (none ∷ ws) (y ∷ l) (suc i) x e f = let (m, a, b) = number_from (suc n) ws l i x e f in (suc m, a ∙ ap {B = Option ℕ} some (omega arith), b)
  number_from n (some k ∷ ws) (y ∷ l) (suc i) x e f = let (m, a, b) = number_from (suc n) ws l i x e f in (m, a ∙ ap {B = Option ℕ} some (omega arith), b)

  -- each place of what is left has a number
  pub place_number : (ws : List (Option ℕ)) (l : List A) (m : ℕ) (x : A) → get_elem? (staying ws l) m ≡ some x → (i : ℕ) × Left ws l m i x
  place_number ws l m x e =
      let (i, a, b, c) = place_from 0 ws l m x e in
      (i, record { number = ap (λ ns. get_elem? ns m) (numbers_are ws) ∙ (a ∙ ap {B = Option ℕ} some (omega arith)); at = b; stays = c })

  -- and each that stays has a place
  pub number_place : (ws : List (Option ℕ)) (l : List A) (i : ℕ) (x : A) → get_elem? l i ≡ some x → get_elem? ws i ≡ some none
      → (m : ℕ) × (get_elem? (numbers_left ws) m ≡ some i) × (get_elem? (staying ws l) m ≡ some x)
  number_place ws l i x e f =
      let (m, a, b) = number_from 0 ws l i x e f in
      (m, ap (λ ns. get_elem? ns m) (numbers_are ws) ∙ (a ∙ ap {B = Option ℕ} some (omega arith)), b)

numbers_rise_from : (n : ℕ) (ws : List (Option ℕ)) → All (λ x. n ≤ x) (numbers_from n ws) × Pairs (λ x y. x < y) (numbers_from n ws)
unfolding numbers_from
numbers_rise_from n [] = (tt, tt)
numbers_rise_from n (none ∷ ws) = let (a, b) = numbers_rise_from (suc n) ws in ((omega arith, All-map (λ x h. omega arith) (numbers_from (suc n) ws) a), (All-map (λ x h. h) (numbers_from (suc n) ws) a, b))
numbers_rise_from n (some k ∷ ws) = let (a, b) = numbers_rise_from (suc n) ws in (All-map (λ x h. omega arith) (numbers_from (suc n) ws) a, b)

-- what is left keeps its order
pub numbers_rise : (ws : List (Option ℕ)) → Pairs (λ x y. x < y) (numbers_left ws)
numbers_rise ws = rw (numbers_are ws) (numbers_rise_from 0 ws).1

-- ── What the account says ───────────────────────────────────────────────────────────────────────────────────

-- a line a change, if those that are left have a fate each
sayings_length : (ws : List (Option ℕ)) (fs : List Fate) (n : ℕ) → length fs ≡ length (numbers_from n ws) → length (sayings ws fs) ≡ length ws
unfolding sayings numbers_from
sayings_length [] fs n e = refl
sayings_length (some k ∷ ws) fs n e = ap suc (sayings_length ws fs (suc n) e)
sayings_length (none ∷ ws) [] n e = absurd (omega arith)
sayings_length (none ∷ ws) (f ∷ fs) n e = ap suc (sayings_length ws fs (suc n) (omega arith))

-- of one withdrawn that it is
sayings_withdrawn : (ws : List (Option ℕ)) (fs : List Fate) (n i k : ℕ) → length fs ≡ length (numbers_from n ws) → get_elem? ws i ≡ some (some k) → get_elem? (sayings ws fs) i ≡ some (withdrawn k)
unfolding sayings numbers_from
sayings_withdrawn [] fs n i k e g = none_some g
sayings_withdrawn (some j ∷ ws) fs n zero k e g = ap {B = Option Said} (λ x. some (withdrawn x)) (some_inj (some_inj g))
sayings_withdrawn (some j ∷ ws) fs n (suc i) k e g = sayings_withdrawn ws fs (suc n) i k e g
sayings_withdrawn (none ∷ ws) [] n i k e g = absurd (omega arith)
sayings_withdrawn (none ∷ ws) (f ∷ fs) n zero k e g = none_some (some_inj g)
sayings_withdrawn (none ∷ ws) (f ∷ fs) n (suc i) k e g = sayings_withdrawn ws fs (suc n) i k (omega arith) g

-- no number is below the first
not_below : (n : ℕ) (ws : List (Option ℕ)) (m i : ℕ) → get_elem? (numbers_from n ws) m ≡ some i → n ≤ i
not_below n ws m i e = All-mem (λ x. n ≤ x) (numbers_from n ws) i (numbers_rise_from n ws).0 (get_mem (numbers_from n ws) m i e)

-- of another its fate
sayings_planned : (ws : List (Option ℕ)) (fs : List Fate) (n m i : ℕ) (f : Fate) → get_elem? (numbers_from n ws) m ≡ some (n + i) → get_elem? fs m ≡ some f → get_elem? (sayings ws fs) i ≡ some (planned f)
unfolding sayings numbers_from
sayings_planned [] fs n m i f e g = none_some e
sayings_planned (some j ∷ ws) fs n m zero f e g = absurd (omega (arith, not_below (suc n) ws m (n + 0) e))
sayings_planned (some j ∷ ws) fs n m (suc i) f e g = sayings_planned ws fs (suc n) m i f (e ∙ ap {B = Option ℕ} some (omega arith)) g
sayings_planned (none ∷ ws) [] n m i f e g = none_some g
sayings_planned (none ∷ ws) (x ∷ fs) n zero zero f e g = ap {B = Option Said} (λ x. some (planned x)) (some_inj g)
sayings_planned (none ∷ ws) (x ∷ fs) n zero (suc i) f e g = absurd (omega (arith, some_inj e))
sayings_planned (none ∷ ws) (x ∷ fs) n (suc m) zero f e g = absurd (omega (arith, not_below (suc n) ws m (n + 0) e))
sayings_planned (none ∷ ws) (x ∷ fs) n (suc m) (suc i) f e g = sayings_planned ws fs (suc n) m i f (e ∙ ap {B = Option ℕ} some (omega arith)) g

-- THE ACCOUNT of changes in sorted order, of which these are withdrawn and the others, which are left, have these fates
module _ (ws : List (Option ℕ)) (fs : List Fate) (each : length fs ≡ length (numbers_left ws)) where
  abbrev ns : List ℕ
  ns = numbers_left ws

  enough : length (map (renumbered ns) fs) ≡ length (numbers_from 0 ws)
  enough = length-map fs (renumbered ns) ∙ (each ∙ ap length (numbers_are ws))

  -- a line a change
  pub account_length : length (account_of ws fs) ≡ length ws
  unfolding account_of
  account_length = sayings_length ws (map (renumbered ns) fs) 0 enough

  -- one withdrawn under k is said to be so
  pub account_withdrawn : (i k : ℕ) → get_elem? ws i ≡ some (some k) → get_elem? (account_of ws fs) i ≡ some (withdrawn k)
  unfolding account_of
  account_withdrawn i k g = sayings_withdrawn ws (map (renumbered ns) fs) 0 i k enough g

  -- of the one that is left at place m, with number i, its fate is said, the places in it told by their numbers
  pub account_planned : (m i : ℕ) (f : Fate) → get_elem? ns m ≡ some i → get_elem? fs m ≡ some f → get_elem? (account_of ws fs) i ≡ some (planned (renumbered ns f))
  unfolding account_of
  account_planned m i f e g =
      sayings_planned ws (map (renumbered ns) fs) 0 m i (renumbered ns f) (ap (λ ns. get_elem? ns m) (sym (numbers_are ws)) ∙ (e ∙ ap {B = Option ℕ} some (omega arith))) (get_map (renumbered ns) fs m f g)

-- ── Nothing withdrawn ───────────────────────────────────────────────────────────────────────────────────────

numbers_all : {A : Type 0} (n : ℕ) (l : List A) → numbers_from n (map (λ x. none) l) ≡ up_from n (length l)
unfolding numbers_from up_from
numbers_all n [] = refl
numbers_all n (x ∷ l) = ap {B = List ℕ} (λ r. n ∷ r) (numbers_all (suc n) l)

-- places are numbers
pub numbers_same : {A : Type 0} (l : List A) (k : ℕ) → k < length l → get_or (numbers_left (map (λ x. none) l)) k 0 ≡ k
numbers_same l k h = rw (numbers_are (map (λ x. none) l), numbers_all 0 l) (up_at 0 (length l) k h ∙ omega arith)

-- a fate that names a place below n, or none
abbrev pub Names : ℕ → Fate → Type 0
Names n own = Unit
Names n (dependent k) = k < n
Names n (discarded k) = k < n

fate_same : {A : Type 0} (l : List A) (f : Fate) → Names (length l) f → renumbered (numbers_left (map (λ x. none) l)) f ≡ f
unfolding renumbered
fate_same l own h = refl
fate_same l (dependent k) h = ap dependent (numbers_same l k h)
fate_same l (discarded k) h = ap discarded (numbers_same l k h)

fates_same : {A : Type 0} (l : List A) (fs : List Fate) → All (Names (length l)) fs → map (renumbered (numbers_left (map (λ x. none) l))) fs ≡ fs
fates_same l [] h = refl
fates_same l (f ∷ fs) h = cons_same (fate_same l f h.0) (fates_same l fs h.1)
  where
    cons_same : {x y : Fate} {k m : List Fate} → x ≡ y → k ≡ m → ◌≡◌ {A = List Fate} (x ∷ k) (y ∷ m)
    cons_same a b = rw (a, b)

sayings_all : {A : Type 0} (l : List A) (fs : List Fate) → length fs ≡ length l → sayings (map (λ x. none) l) fs ≡ map planned fs
unfolding sayings
sayings_all [] [] e = refl
sayings_all [] (f ∷ fs) e = absurd (omega arith)
sayings_all (x ∷ l) [] e = absurd (omega arith)
sayings_all (x ∷ l) (f ∷ fs) e = ap {B = List Said} (λ r. planned f ∷ r) (sayings_all l fs (omega arith))

-- the account is that of Note 5: of each change its fate
pub account_same : {A : Type 0} (l : List A) (fs : List Fate) → length fs ≡ length l → All (Names (length l)) fs → account_of (map (λ x. none) l) fs ≡ map planned fs
unfolding account_of
account_same l fs e h = rw (fates_same l fs h) (sayings_all l fs e)

lines_from : (n : ℕ) (fs : List Fate) → flat_map said_line (numbered n (map planned fs)) ≡ flat_map fate_line (numbered n fs)
unfolding numbered said_line flat_map
lines_from n [] = refl
lines_from n (f ∷ fs) = ap (λ r. fate_line (n, f) ++ r) (lines_from (suc n) fs)

pub lines_same : (fs : List Fate) → said_lines (map planned fs) ≡ flat_map fate_line (numbered 0 fs)
unfolding said_lines
lines_same fs = lines_from 0 fs
