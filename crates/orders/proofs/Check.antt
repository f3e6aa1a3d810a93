-- A test that says just whether splices are all apart.
-- Assumes nothing.
use Rattle.std.proofs.Math.Path.{◌≡◌, refl}
use Rattle.std.proofs.Common.{sym, ◌∙◌, arith, leb-true, ltb-true, eqb-true, le-leb, lt-ltb, eq-eqb}
use Rattle.std.specs.Prelude.{Bool, true, false, not, ◌&&◌, ◌↔◌, ℕ, ◌≤◌, ◌<◌, length, leb, ltb, eqb}
use mathlib.Core.List.{List, [], ◌∷◌, head-eq_of_cons-eq, tail-eq_of_cons-eq, nil≢cons, cons≢nil}
use Rattle.std.proofs.Math.Option.{Option, none, some}
use Rattle.orders.specs.Lists.{All, Pairs}
use Rattle.orders.specs.Tree.{Tree, node, token, list, Path, resolve, HasRun}
use Rattle.orders.specs.Splices.{same_path, Splice, under, Enters, Fits, Apart, AllApart}
use Rattle.orders.specs.ListLaws.{bool_absurd, both_true, none_some}

-- ── The test ────────────────────────────────────────────────────────────────────────────────────────────────

-- each element passes
unfoldable pub each : {X : Type 0} → (X → Bool) → List X → Bool
each p [] = true
each p (x ∷ l) = p x && each p l

-- each element passes with each later one
unfoldable pub pairs : {X : Type 0} → (X → X → Bool) → List X → Bool
pairs p [] = true
pairs p (x ∷ l) = each (p x) l && pairs p l

-- the path e enters one of the children a to b - 1 of the element at p
unfoldable pub enters? : Path → ℕ → ℕ → Path → Bool
enters? p a b [] = false
enters? [] a b (i ∷ e) = leb a i && ltb i b
enters? (j ∷ p) a b (i ∷ e) = eqb i j && enters? p a b e

module _ {A : Type 0} where
  -- a..b is a run of the children of what a path led to
  unfoldable pub run? : ℕ → ℕ → Option (Tree A) → Bool
  run? a b none = false
  run? a b (some (token w text)) = false
  run? a b (some (node w cs)) = leb a b && leb b (length (list cs))

  -- s fits the old tree
  unfoldable pub fits? : Tree A → Splice A → Bool
  fits? old s = run? s.from s.to (resolve s.parent old)

  -- two splices are apart
  unfoldable pub apart? : Splice A → Splice A → Bool
  apart? s t =
      not (eqb s.number t.number)
      && (not (enters? s.parent s.from s.to t.parent)
      && (not (enters? t.parent t.from t.to s.parent)
      && not (same_path s.parent t.parent && (ltb s.from t.to && ltb t.from s.to))))

  -- splices of the old tree are all apart
  unfoldable pub all_apart? : Tree A → List (Splice A) → Bool
  all_apart? old S = each (fits? old) S && pairs apart? S

-- ── It is right ─────────────────────────────────────────────────────────────────────────────────────────────

-- b says just whether P
abbrev pub Says : Bool → Type 0 → Type 0
Says b P = (b ≡ true) ↔ P

says_both : {P Q : Type 0} (a b : Bool) → Says a P → Says b Q → Says (a && b) (P × Q)
says_both a b h k = (λ e. let r = both_true a b e in (h.0 r.0, k.0 r.1), λ z. rw (h.1 z.0, k.1 z.1))

says_not : {P : Type 0} (a : Bool) → Says a P → Says (not a) (¬ P)
says_not true h = (λ e. bool_absurd e refl, λ n. absurd (n (h.0 refl)))
says_not false h = (λ e z. bool_absurd (h.1 z) refl, λ n. refl)

says_leb : (a b : ℕ) → Says (leb a b) (a ≤ b)
says_leb a b = (leb-true a b, le-leb a b)

says_ltb : (a b : ℕ) → Says (ltb a b) (a < b)
says_ltb a b = (ltb-true a b, lt-ltb a b)

says_eqb : (a b : ℕ) → Says (eqb a b) (a ≡ b)
says_eqb a b = (eqb-true a b, eq-eqb a b)

says_each : {X : Type 0} (p : X → Bool) (P : X → Type 0) → ((x : X) → Says (p x) (P x)) → (l : List X) → Says (each p l) (All P l)
unfolding each
says_each p P k [] = (λ e. tt, λ h. refl)
says_each p P k (x ∷ l) = says_both (p x) (each p l) (k x) (says_each p P k l)

says_pairs : {X : Type 0} (p : X → X → Bool) (R : X → X → Type 0) → ((x y : X) → Says (p x y) (R x y)) → (l : List X) → Says (pairs p l) (Pairs R l)
unfolding pairs
says_pairs p R k [] = (λ e. tt, λ h. refl)
says_pairs p R k (x ∷ l) = says_both (each (p x) l) (pairs p l) (says_each (p x) (R x) (k x) l) (says_pairs p R k l)

pub says_same : (p q : Path) → Says (same_path p q) (p ≡ q)
unfolding same_path
says_same [] [] = (λ e. refl, λ z. refl)
says_same [] (j ∷ q) = (λ e. bool_absurd e refl, λ z. absurd (nil≢cons z))
says_same (i ∷ p) [] = (λ e. bool_absurd e refl, λ z. absurd (cons≢nil z))
says_same (i ∷ p) (j ∷ q) =
    let r = says_both (eqb i j) (same_path p q) (says_eqb i j) (says_same p q) in
    (λ e. let z = r.0 e in cc (z.0, z.1), λ z. r.1 (head-eq_of_cons-eq z, tail-eq_of_cons-eq z))

module _ {A : Type 0} where
  says_enters : (s : Splice A) (e p : Path) → Says (enters? p s.from s.to e) (Enters (under p s) e)
  unfolding enters? under
  says_enters s [] [] = (λ z. bool_absurd z refl, λ h. absurd (nil≢cons h.leads))
  says_enters s [] (j ∷ p) = (λ z. bool_absurd z refl, λ h. absurd (nil≢cons h.leads))
  says_enters s (i ∷ e) [] =
      let r = says_both (leb s.from i) (ltb i s.to) (says_leb s.from i) (says_ltb i s.to) in
      (λ z. record { child = i; rest = e; leads = refl; low = (r.0 z).0; high = (r.0 z).1 }, λ h. let c : i ≡ h.child = head-eq_of_cons-eq h.leads in r.1 (rw c h.low, rw c h.high))
  says_enters s (i ∷ e) (j ∷ p) =
      let r = says_both (eqb i j) (enters? p s.from s.to e) (says_eqb i j) (says_enters s e p) in (
        λ z. let (x, y) = r.0 z in record { child = y.child; rest = y.rest; leads = cc (x, y.leads); low = y.low; high = y.high },
        λ h. r.1 (head-eq_of_cons-eq h.leads, record { child = h.child; rest = h.rest; leads = tail-eq_of_cons-eq h.leads; low = h.low; high = h.high }),
      )

  pub says_run : (old : Tree A) (p : Path) (a b : ℕ) → Says (run? a b (resolve p old)) (HasRun old p a b)
  unfolding run?
  says_run old p a b = go (resolve p old) refl
    where
      go : (o : Option (Tree A)) → resolve p old ≡ o → Says (run? a b o) (HasRun old p a b)
      go none f = (λ e. bool_absurd e refl, λ h. none_some (sym f ∙ h.found))
      go (some (token w text)) f = (λ e. bool_absurd e refl, λ h. let z : ◌≡◌ {A = ℕ} 0 1 = cc (f, h.found) in absurd (omega arith))
      go (some (node w cs)) f =
          let r = says_both (leb a b) (leb b (length (list cs))) (says_leb a b) (says_leb b (length (list cs))) in (
            λ e. let z = r.0 e in record { kind = w; children = cs; found = f; ordered = z.0; within = z.1 },
            λ h. let z : cs ≡ h.children = cc (f, h.found) in r.1 (h.ordered, rw z h.within),
          )

  says_apart : (s t : Splice A) → Says (apart? s t) (Apart s t)
  unfolding apart? under
  says_apart s t =
      let over = says_both (same_path s.parent t.parent) _ (says_same s.parent t.parent) (says_both _ _ (says_ltb s.from t.to) (says_ltb t.from s.to)) in
      let r = says_both _ _ (says_not _ (says_eqb s.number t.number)) (says_both _ _ (says_not _ (says_enters s t.parent s.parent)) (says_both _ _ (says_not _ (says_enters t s.parent t.parent)) (says_not _ over))) in (
        λ e. let (x, (y, (z, w))) = r.0 e in record { numbers = x; kept = y; kept' = z; clear = λ p o. w (p, o) },
        λ h. r.1 (h.numbers, (h.kept, (h.kept', λ z. h.clear z.0 z.1))),
      )

  -- what it says is so, and where it is so it says so
  pub says_all_apart : (old : Tree A) (S : List (Splice A)) → (all_apart? old S ≡ true) ↔ AllApart old S
  unfolding all_apart? fits?
  says_all_apart old S =
      let r = says_both (each (fits? old) S) (pairs apart? S) (says_each (fits? old) (Fits old) (λ s. says_run old s.parent s.from s.to) S) (says_pairs apart? Apart says_apart S) in
      (λ e. let z = r.0 e in record { fits = z.0; apart = z.1 }, λ h. r.1 (h.fits, h.apart))
