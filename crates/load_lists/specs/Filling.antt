-- One more of a list: what stands at the front of a slice once its next place is written.
-- Assumes nothing.
use Rattle.std.specs.Prelude.{◌≡◌, refl, ℕ, zero, suc, ◌+◌, ◌%◌, ◌≤◌, ◌<◌, length, get_or, set, take}
use Rattle.std.proofs.Common.{sym, ap, ◌∙◌, arith, add-one, add-zero, length-set, take-suc, take-suc-set, take_all, take-take, length-take-le}
use mathlib.Core.List.{List, [], ◌∷◌, ◌++◌, map, flat_map, append_assoc}
use Rattle.std.proofs.Math.Seq.{take-append-add}
use Rattle.definition.specs.Refusals.{Call}
use Rattle.load_laws.specs.Load.{next, drawn, after, draws, along}
use Rattle.load_laws.specs.Draws.{none}

-- the first i of a slice are this list
pub record Front (i : ℕ) (list s : List ℕ) : Type 0 where
  pub within : i ≤ length s
  pub holds : take i s ≡ list

pub none_yet : (list s : List ℕ) → list ≡ [] → Front 0 list s
none_yet list s e = record { within = omega arith; holds = sym e }

pub whole : (i : ℕ) (list s : List ℕ) → Front i list s → length s ≤ i → s ≡ list
whole i list s f h = sym (take_all i s h) ∙ f.holds

one_more : (i v : ℕ) (list s : List ℕ) → Front i list s → i < length s → Front (i + 1) (list ++ (v ∷ [])) (set s i v)
one_more i v list s f h = record {
  within = simp length-set (omega arith);
  holds = rw (add-one i, take-suc-set s i v h, f.holds) refl;
}

-- ── By a formula ────────────────────────────────────────────────────────────────────────────────────────────

along_more : (f : ℕ → ℕ) (k n : ℕ) → along f k (suc n) ≡ along f k n ++ (f (k + n) ∷ [])
unfolding along
along_more f k zero = rw (add-zero k) refl
along_more f k (suc n) = let z : k + suc n ≡ suc k + n = omega arith in rw z (ap (λ (l : List ℕ). f k ∷ l) (along_more f (suc k) n))

pub along_step : (f : ℕ → ℕ) (k i v : ℕ) (s : List ℕ) → Front i (along f k i) s → i < length s → v ≡ f (k + i) → Front (i + 1) (along f k (i + 1)) (set s i v)
along_step f k i v s h l e = rw (add-one i, along_more f k i, ← e) (rw (add-one i) at (one_more i v (along f k i) s h l))

-- ── By the calls ────────────────────────────────────────────────────────────────────────────────────────────

map_snoc : (f : Call → ℕ) (cs : List Call) (c : Call) → map f (cs ++ (c ∷ [])) ≡ map f cs ++ (f c ∷ [])
map_snoc f [] c = refl
map_snoc f (x ∷ cs) c = ap (λ (l : List ℕ). f x ∷ l) (map_snoc f cs c)

pub column_step : (f : Call → ℕ) (cs : List Call) (i v : ℕ) (s : List ℕ) → Front i (map f (take i cs)) s → i < length s → i < length cs → v ≡ f (get_or cs i none)
    → Front (i + 1) (map f (take (i + 1) cs)) (set s i v)
column_step f cs i v s h l k e =
    rw (add-one i, take-suc cs i none k, map_snoc f (take i cs) (get_or cs i none), ← e) (rw (add-one i) at (one_more i v (map f (take i cs)) s h l))

flat_map_snoc : (cs : List Call) (c : Call) → flat_map (λ c. c.listed) (cs ++ (c ∷ [])) ≡ flat_map (λ c. c.listed) cs ++ c.listed
unfolding flat_map
flat_map_snoc [] c = append-nil c.listed
  where
    append-nil : (l : List ℕ) → l ++ [] ≡ l
    append-nil [] = refl
    append-nil (x ∷ l) = ap (λ (m : List ℕ). x ∷ m) (append-nil l)
flat_map_snoc (x ∷ cs) c = ap (λ (l : List ℕ). x.listed ++ l) (flat_map_snoc cs c) ∙ sym (append_assoc x.listed (flat_map (λ c. c.listed) cs) c.listed)

-- the first n of two
two_more : (at n x y : ℕ) (list s : List ℕ) → Front at list s → at + 1 < length s → n ≤ 2 → Front (at + n) (list ++ take n (x ∷ y ∷ [])) (set (set s at x) (at + 1) y)
two_more at n x y list s f h k =
    let a = one_more at x list s f (omega arith) in
    let b = one_more (at + 1) y (list ++ (x ∷ [])) (set s at x) a (simp length-set (omega arith)) in
    let z : at + 1 + 1 ≡ at + 2 = omega arith in
    let e : take (at + 2) (set (set s at x) (at + 1) y) ≡ list ++ (x ∷ y ∷ []) = rw z at b.holds ∙ append_assoc list (x ∷ []) (y ∷ []) in
    record {
      within = simp length-set (omega arith);
      holds = sym (take-take (at + n) (at + 2) (set (set s at x) (at + 1) y) (omega arith)) ∙ (ap (take (at + n)) e ∙ front list f.within f.holds);
    }
  where
    front : (l : List ℕ) → at ≤ length s → take at s ≡ l → take (at + n) (l ++ (x ∷ y ∷ [])) ≡ l ++ take n (x ∷ y ∷ [])
    front l w e = let z : length l ≡ at = ap length (sym e) ∙ length-take-le at s w in rw (← z) (take-append-add l (x ∷ y ∷ []) n)

pub listed_step : (cs : List Call) (i at n x y : ℕ) (s : List ℕ) → Front at (flat_map (λ c. c.listed) (take i cs)) s → at + 1 < length s → i < length cs → n ≤ 2
    → take n (x ∷ y ∷ []) ≡ (get_or cs i none).listed → Front (at + n) (flat_map (λ c. c.listed) (take (i + 1) cs)) (set (set s at x) (at + 1) y)
listed_step cs i at n x y s h l k m e =
    rw (add-one i, take-suc cs i none k, flat_map_snoc (take i cs) (get_or cs i none), ← e) (two_more at n x y (flat_map (λ c. c.listed) (take i cs)) s h l m)

-- ── By the draws ────────────────────────────────────────────────────────────────────────────────────────────

draws_more : (n s : ℕ) → draws (suc n) s ≡ draws n s ++ (drawn (after n s) ∷ [])
unfolding draws after
draws_more zero s = refl
draws_more (suc n) s = ap (λ (l : List ℕ). drawn s ∷ l) (draws_more n (next s))

noted_snoc : (l : List ℕ) (d : ℕ) → map (λ d. d % 769) (l ++ (d ∷ [])) ≡ map (λ d. d % 769) l ++ (d % 769 ∷ [])
noted_snoc [] d = refl
noted_snoc (x ∷ l) d = ap (λ (m : List ℕ). x % 769 ∷ m) (noted_snoc l d)

pub noted_step : (start i v : ℕ) (s : List ℕ) → Front i (map (λ d. d % 769) (draws i start)) s → i < length s → v ≡ drawn (after i start) % 769
    → Front (i + 1) (map (λ d. d % 769) (draws (i + 1) start)) (set s i v)
noted_step start i v s h l e =
    rw (add-one i, draws_more i start, noted_snoc (draws i start) (drawn (after i start)), ← e) (rw (add-one i) at (one_more i v (map (λ d. d % 769) (draws i start)) s h l))
