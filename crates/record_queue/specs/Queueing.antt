-- Queues of changes in any form: the definition's, those that carry where their elements stand, and rows.
-- Assumes nothing.
use Rattle.std.specs.Prelude.{Bool, ◌≡◌, get_or}
use Rattle.std.proofs.Math.Bool.{true, false, cond}
use mathlib.Core.List.{List, [], ◌∷◌, ◌++◌, map, append_assoc}
use Rattle.std.proofs.Math.Option
use Rattle.std.proofs.Math.Option.{Option, none, some}
use Rattle.std.proofs.Math.Path.{refl, ap}
use Rattle.std.proofs.Common.{sym, ◌∙◌, arith, length-drop, drop-cons, drop-drop, take-add, get_or-drop}
use Prim.Native.Nat.{ℕ, zero, suc, ◌+◌, ◌≤◌, ◌<◌}
use Rattle.std.proofs.Math.ListN.{length, take, drop, take-append-drop}
use Rattle.std.proofs.Math.Seq.{drop-length, take-length, take_at, drop_at, length-take-le}
use Rattle.orders.specs.Lists.{All}
use Rattle.orders.specs.ListLaws.{map_append}

-- the place of the first element that passes the test; the length if there is none
unfoldable pub place : {A : Type 0} → (A → Bool) → List A → ℕ
place p [] = 0
place p (d ∷ l) = cond (p d) 0 (suc (place p l))

-- no element passes
pub place_none : {A : Type 0} (l : List A) → place (λ d. false) l ≡ length l
unfolding place
place_none [] = refl
place_none (d ∷ l) = ap suc (place_none l)

-- ── A search from the place k on ────────────────────────────────────────────────────────────────────────────

module _ {A : Type 0} (p : A → Bool) (l : List A) (k : ℕ) (z : A) (h : k < length l) where
  pub place_passed : p (get_or l k z) ≡ false → k + place p (drop k l) ≡ suc k + place p (drop (suc k) l)
  unfolding place
  place_passed q = rw (drop-cons l k z h, q) (omega arith)

  pub place_found : p (get_or l k z) ≡ true → k + place p (drop k l) ≡ k
  unfolding place
  place_found q = rw (drop-cons l k z h, q) (omega arith)

-- what a call asks for, if it asks for anything, has the property
abbrev pub Asks : {A : Type 0} → (A → Type 0) → Option A → Type 0
Asks P none = Unit {0}
Asks P (some c) = P c

All-append : {A : Type 0} (P : A → Type 0) (l m : List A) → All P l → All P m → All P (l ++ m)
All-append P [] m a b = b
All-append P (x ∷ l) m a b = (a.0, All-append P l m a.1 b)

-- ── Queues ──────────────────────────────────────────────────────────────────────────────────────────────────

-- `meets c d`: c and the earlier d are both calls 2 or 3 of one element; `merged c d` is what d then becomes
module _ {A : Type 0} (meets : A → A → Bool) (merged : A → A → A) where
  -- a queue after one more change: the first that it meets is altered, and if there is none it goes to the end
  unfoldable pub put : A → List A → List A
  put c [] = c ∷ []
  put c (d ∷ q) = cond (meets c d) (merged c d ∷ q) (d ∷ put c q)

  -- all changes after some calls more: those of the editors before, the present editor's queue, and what each call asks (nothing: a further editor starts)
  unfoldable pub through : List A → List A → List (Option A) → List A
  through js q [] = js ++ q
  through js q (none ∷ cs) = through (js ++ q) [] cs
  through js q (some c ∷ cs) = through js (put c q) cs

  -- ── What holds of each change that is asked for holds of all ──────────────────────────────────────────────

  module _ (P : A → Type 0) (keeps : (c d : A) → P c → P d → P (merged c d)) where
    put_all : (c : A) (q : List A) → P c → All P q → All P (put c q)
    unfolding put
    put_all c [] h a = (h, tt)
    put_all c (d ∷ q) h a = go (meets c d) (put_all c q h a.1)
      where
        go : (t : Bool) → All P (put c q) → All P (cond t (merged c d ∷ q) (d ∷ put c q))
        go true b = (keeps c d h a.0, a.1)
        go false b = (a.0, b)

    pub through_all : (js q : List A) (cs : List (Option A)) → All P js → All P q → All (Asks P) cs → All P (through js q cs)
    unfolding through
    through_all js q [] a b h = All-append P js q a b
    through_all js q (none ∷ cs) a b h = through_all (js ++ q) [] cs (All-append P js q a b) tt h.1
    through_all js q (some c ∷ cs) a b h = through_all js (put c q) cs a (put_all c q h.0 b) h.1

  -- ── One more change, by its place ─────────────────────────────────────────────────────────────────────────

  pub put_at : (c : A) (q : List A) (k : ℕ) (z : A) → k ≡ place (meets c) q → k < length q → put c q ≡ take k q ++ (merged c (get_or q k z) ∷ drop (suc k) q)
  unfolding put place
  put_at c [] k z e h = absurd (omega arith)
  put_at c (d ∷ q) k z e h = go (meets c d) k e h (λ j. put_at c q j z)
    where
      go : (t : Bool) (k : ℕ) → k ≡ cond t 0 (suc (place (meets c) q)) → k < suc (length q)
          → ((j : ℕ) → j ≡ place (meets c) q → j < length q → put c q ≡ take j q ++ (merged c (get_or q j z) ∷ drop (suc j) q))
          → cond t (merged c d ∷ q) (d ∷ put c q) ≡ take k (d ∷ q) ++ (merged c (get_or (d ∷ q) k z) ∷ drop (suc k) (d ∷ q))
      go true zero e h f = refl
      go true (suc k) e h f = absurd (omega arith)
      go false zero e h f = absurd (omega arith)
      go false (suc k) e h f = ap {B = List A} (λ r. d ∷ r) (f k (omega arith) (omega arith))

  pub put_last : (c : A) (q : List A) → place (meets c) q ≡ length q → put c q ≡ q ++ (c ∷ [])
  unfolding put place
  put_last c [] e = refl
  put_last c (d ∷ q) e = go (meets c d) e (put_last c q)
    where
      go : (t : Bool) → cond t 0 (suc (place (meets c) q)) ≡ suc (length q) → (place (meets c) q ≡ length q → put c q ≡ q ++ (c ∷ [])) → cond t (merged c d ∷ q) (d ∷ put c q) ≡ d ∷ (q ++ (c ∷ []))
      go true e f = absurd (omega arith)
      go false e f = ap {B = List A} (λ r. d ∷ r) (f (omega arith))

  -- ── All changes, of which the present editor's start at the place `start` ─────────────────────────────────

  module _ (l : List A) (start : ℕ) (h : start ≤ length l) (c : A) where
    -- the first one that it meets stands at k
    pub put_found : (k : ℕ) (z : A) → k ≡ start + place (meets c) (drop start l) → k < length l
        → take start l ++ put c (drop start l) ≡ take k l ++ (merged c (get_or l k z) ∷ drop (suc k) l)
    put_found k z e b =
        let j : ℕ = place (meets c) (drop start l) in
        let f : suc (start + j) ≡ start + suc j = omega arith in
        rw (put_at c (drop start l) j z refl (omega (arith, length-drop start l)), get_or-drop start l j z, drop-drop (suc j) start l, e, take-add start j l, f)
        (sym (append_assoc (take start l) (take j (drop start l)) (merged c (get_or l (start + j) z) ∷ drop (start + suc j) l)))

    pub put_new : length l ≡ start + place (meets c) (drop start l) → take start l ++ put c (drop start l) ≡ l ++ (c ∷ [])
    put_new e =
        rw (put_last c (drop start l) (omega (arith, length-drop start l)), ← append_assoc (take start l) (drop start l) (c ∷ []), take-append-drop start l)

    -- one change more, and those that follow
    pub through_put : (m : List A) (cs : List (Option A)) → m ≡ take start l ++ put c (drop start l) → through (take start l) (drop start l) (some c ∷ cs) ≡ through (take start m) (drop start m) cs
    unfolding through
    through_put m cs e =
        let f = length-take-le start l h in
        rw (e, take_at (take start l) (put c (drop start l)) start f, drop_at (take start l) (put c (drop start l)) start f)

  -- a further editor starts
  pub through_editor : (l : List A) (start : ℕ) (cs : List (Option A)) → through (take start l) (drop start l) (none ∷ cs) ≡ through (take (length l) l) (drop (length l) l) cs
  unfolding through
  through_editor l start cs = rw (take-append-drop start l, take-length l, drop-length l)

  -- no call is left
  pub through_end : (l : List A) (start : ℕ) → through (take start l) (drop start l) [] ≡ l
  unfolding through
  through_end l start = take-append-drop start l

-- ── From one form to another ────────────────────────────────────────────────────────────────────────────────

-- the two forms merge alike where P holds, as it does of all that is asked for
module _ {A B : Type 0} (meets : A → A → Bool) (merged : A → A → A) (meets' : B → B → Bool) (merged' : B → B → B) (g : A → B) (P : A → Type 0) (keeps : (c d : A) → P c → P d → P (merged c d))
    (same : (c d : A) → meets' (g c) (g d) ≡ meets c d) (alike : (c d : A) → P c → P d → g (merged c d) ≡ merged' (g c) (g d)) where
  put_map : (c : A) (q : List A) → P c → All P q → map g (put meets merged c q) ≡ put meets' merged' (g c) (map g q)
  unfolding put
  put_map c [] h a = refl
  put_map c (d ∷ q) h a = rw (same c d, ← put_map c q h a.1) (go (meets c d))
    where
      go : (t : Bool) → map g (cond t (merged c d ∷ q) (d ∷ put meets merged c q)) ≡ cond t (merged' (g c) (g d) ∷ map g q) (g d ∷ map g (put meets merged c q))
      go true = rw (alike c d h a.0)
      go false = refl

  pub through_map : (js q : List A) (cs : List (Option A)) → All P q → All (Asks P) cs → map g (through meets merged js q cs) ≡ through meets' merged' (map g js) (map g q) (map (Option.map g) cs)
  unfolding through
  through_map js q [] a h = map_append g js q
  through_map js q (none ∷ cs) a h = through_map (js ++ q) [] cs tt h.1 ∙ rw (map_append g js q)
  through_map js q (some c ∷ cs) a h = through_map js (put meets merged c q) cs (put_all meets merged P keeps c q h.0 a) h.1 ∙ rw (put_map c q h.0 a)

-- nothing is asked of what is asked for
pub asks_any : {A : Type 0} (cs : List (Option A)) → All (Asks (λ c. Unit {0})) cs
asks_any [] = tt
asks_any (none ∷ cs) = (tt, asks_any cs)
asks_any (some c ∷ cs) = (tt, asks_any cs)
