-- Laws on truth values, options, numbers and lists that know nothing of trees. Others use them too.
-- Assumes nothing.
use Rattle.std.specs.Coded.{×_prop, Unit-prop}
use Rattle.std.specs.List.{list_all, list_any}
use Rattle.std.specs.Prelude.{◌≡◌, Bool, ◌&&◌, ◌||◌, ◌≢◌, ◌⊎◌, ltb, length, get_or, set, take, drop, replicate}
use Rattle.std.proofs.Math.Path.{refl, ap}
use Rattle.std.proofs.Common.{sym, ◌∙◌, subst, inl, inr, arith, zero-add, le_of_suc-le-suc, not-suc-le-zero, length-append, length-drop, take-append-drop, take_at, drop_at, drop-drop, length-take-le, take-take}
use Rattle.std.proofs.Math.Bool.{true, false, not, or-true}
use Rattle.std.proofs.lemmas.Bool.{false≢true}
use mathlib.Core.List.Memᴰ
use mathlib.Core.List.Permᴰ
use mathlib.Core.List.{List, [], ◌∷◌, ◌++◌, map, append_assoc, Memᴰ, Permᴰ, filter_map}
use Rattle.std.proofs.Math.Option
use Rattle.std.proofs.Math.Option.{Option, none, some, bind, Option-elim, map-eq-some_iff, bind-eq-some_iff, none-ne-some}
use Prim.Native.Nat.{ℕ, zero, suc, ◌+◌, ◌-◌, ◌≤◌, ◌<◌}
use Rattle.std.proofs.Math.ListN.{get_elem?}
use Rattle.std.proofs.lemmas.List.{take-append-le}
use borrow.Author.Tests.{ltb-true, ltb-false, lt-ltb, le-ltb}
use Rattle.orders.specs.Lists.{more, pick, any, All, Pairs, total}
use Rattle.orders.specs.Tree.{zone, modify}

-- ── Truth values and options ────────────────────────────────────────────────────────────────────────────────

pub bool_absurd {ℓ} : {X : Type ℓ} {b : Bool} → b ≡ true → b ≡ false → X
bool_absurd p q = absurd (false≢true (sym q ∙ p))

pub bool? : (b : Bool) → (b ≡ true) ⊎ (b ≡ false)
bool? true = inl refl
bool? false = inr refl

pub either_true : (a b : Bool) → (a || b) ≡ true → (a ≡ true) ⊎ (b ≡ true)
either_true true b e = inl refl
either_true false b e = inr e

pub either_false : (a b : Bool) → (a || b) ≡ false → (a ≡ false) × (b ≡ false)
either_false true b e = bool_absurd refl e
either_false false b e = (refl, e)

pub both_true : (a b : Bool) → (a && b) ≡ true → (a ≡ true) × (b ≡ true)
both_true true b e = (refl, e)
both_true false b e = bool_absurd e refl

pub some_inj {ℓ} : {X : Type ℓ} {a b : X} → ◌≡◌ {A = Option X} (some a) (some b) → a ≡ b
some_inj e = cc

pub none_some {ℓ κ} : {X : Type ℓ} {Y : Type κ} {a : X} → ◌≡◌ {A = Option X} none (some a) → Y
none_some {a = a} e = absurd (none-ne-some a e)

pub map_some {ℓ κ} : {X : Type ℓ} {Y : Type κ} (f : X → Y) (o : Option X) {y : Y} → Option.map f o ≡ some y → (x : X) × (o ≡ some x) × (f x ≡ y)
map_some f o e = (map-eq-some_iff f o).0 e

pub bind_some {ℓ κ} : {X : Type ℓ} {Y : Type κ} (o : Option X) (f : X → Option Y) {y : Y} → bind o f ≡ some y → (x : X) × (o ≡ some x) × (f x ≡ some y)
bind_some o f e = (bind-eq-some_iff o f).0 e

pub bind_none {ℓ κ} : {X : Type ℓ} {Y : Type κ} (o : Option X) (f : X → Option Y) → ((x : X) → f x ≡ none) → bind o f ≡ none
unfolding bind
bind_none none f h = refl
bind_none (some x) f h = h x

-- ── A number and a run ──────────────────────────────────────────────────────────────────────────────────────

pub lt_or_le : (m n : ℕ) → (m < n) ⊎ (n ≤ m)
lt_or_le m n = go (ltb m n) refl
  where
    go : (b : Bool) → ltb m n ≡ b → (m < n) ⊎ (n ≤ m)
    go true e = inl (ltb-true m n e)
    go false e = inr (ltb-false m n e)

-- where i stands: before a, from a to b - 1, or from b on
pub data Zone (i a b : ℕ) : Type 0 where
  before : i < a → Zone i a b
  inside : a ≤ i → i < b → Zone i a b
  after : a ≤ i → b ≤ i → Zone i a b

pub zone? : (i a b : ℕ) → Zone i a b
zone? i a b = go (lt_or_le i a) (lt_or_le i b)
  where
    go : (i < a) ⊎ (a ≤ i) → (i < b) ⊎ (b ≤ i) → Zone i a b
    go (inl h) k = before h
    go (inr h) (inl k) = inside h k
    go (inr h) (inr k) = after h k

module _ {ℓ} {X : Type ℓ} (i a b : ℕ) (x y z : X) where
  pub zone_before : i < a → zone i a b x y z ≡ x
  unfolding zone
  zone_before h = rw (lt-ltb i a h)

  pub zone_inside : a ≤ i → i < b → zone i a b x y z ≡ y
  unfolding zone
  zone_inside h k = rw (le-ltb i a h, lt-ltb i b k)

  pub zone_after : a ≤ i → b ≤ i → zone i a b x y z ≡ z
  unfolding zone
  zone_after h k = rw (le-ltb i a h, le-ltb i b k)

-- ── An element of a list ────────────────────────────────────────────────────────────────────────────────────

module _ {ℓ} {A : Type ℓ} where
  pub get_lt : (l : List A) (i : ℕ) {x : A} → get_elem? l i ≡ some x → i < length l
  get_lt [] i e = none_some e
  get_lt (y ∷ l) zero e = omega arith
  get_lt (y ∷ l) (suc i) e = omega (arith, get_lt l i e)

  pub lt_get : (l : List A) (i : ℕ) → i < length l → (x : A) × (get_elem? l i ≡ some x)
  lt_get [] i h = absurd (not-suc-le-zero h)
  lt_get (y ∷ l) zero h = (y, refl)
  lt_get (y ∷ l) (suc i) h = lt_get l i (le_of_suc-le-suc h)

  pub get_none : (l : List A) (i : ℕ) → length l ≤ i → get_elem? l i ≡ none
  get_none [] i h = refl
  get_none (x ∷ l) zero h = absurd (omega arith)
  get_none (x ∷ l) (suc i) h = get_none l i (omega arith)

  pub get_mem : (l : List A) (i : ℕ) (x : A) → get_elem? l i ≡ some x → Memᴰ x l
  get_mem [] i x e = none_some e
  get_mem (y ∷ l) zero x e = Memᴰ.head (sym (some_inj e))
  get_mem (y ∷ l) (suc i) x e = Memᴰ.tail (get_mem l i x e)

  pub get_left : (xs ys : List A) (i : ℕ) → i < length xs → get_elem? (xs ++ ys) i ≡ get_elem? xs i
  get_left [] ys i h = absurd (not-suc-le-zero h)
  get_left (x ∷ xs) ys zero h = refl
  get_left (x ∷ xs) ys (suc i) h = get_left xs ys i (le_of_suc-le-suc h)

  pub get_right : (xs ys : List A) (i n : ℕ) → length xs + n ≡ i → get_elem? (xs ++ ys) i ≡ get_elem? ys n
  get_right [] ys i n e = ap (get_elem? ys) (omega arith)
  get_right (x ∷ xs) ys zero n e = absurd (omega arith)
  get_right (x ∷ xs) ys (suc i) n e = get_right xs ys i n (omega arith)

  pub get_take : (c : ℕ) (xs : List A) (i : ℕ) → i < c → get_elem? (take c xs) i ≡ get_elem? xs i
  get_take zero xs i h = absurd (not-suc-le-zero h)
  get_take (suc c) [] i h = refl
  get_take (suc c) (x ∷ xs) zero h = refl
  get_take (suc c) (x ∷ xs) (suc i) h = get_take c xs i (le_of_suc-le-suc h)

  pub get_drop : (c : ℕ) (xs : List A) (i n : ℕ) → c + n ≡ i → get_elem? (drop c xs) n ≡ get_elem? xs i
  get_drop zero xs i n e = ap (get_elem? xs) (omega arith)
  get_drop (suc c) [] i n e = refl
  get_drop (suc c) (x ∷ xs) zero n e = absurd (omega arith)
  get_drop (suc c) (x ∷ xs) (suc i) n e = get_drop c xs i n (omega arith)

  -- a list parted at an element
  pub get_split : (l : List A) (i : ℕ) (x : A) → get_elem? l i ≡ some x → l ≡ take i l ++ (x ∷ drop (suc i) l)
  get_split [] i x e = none_some e
  get_split (y ∷ l) zero x e = rw (some_inj e)
  get_split (y ∷ l) (suc i) x e = ap {B = List A} (λ r. y ∷ r) (get_split l i x e)

-- ── A list parted, and a run of it that gives way to another list ───────────────────────────────────────────

module _ {ℓ} {A : Type ℓ} where
  pub parts : (b c : ℕ) (xs : List A) → xs ≡ take b xs ++ (take c (drop b xs) ++ drop (b + c) xs)
  parts b c xs = sym (rw (← drop-drop c b xs, take-append-drop c (drop b xs), take-append-drop b xs))

  -- of a list in three parts, the middle one gives way
  pub part_out : (L M R new : List A) (a d : ℕ) → length L ≡ a → length M ≡ d → take a (L ++ (M ++ R)) ++ (new ++ drop (a + d) (L ++ (M ++ R))) ≡ L ++ (new ++ R)
  part_out L M R new a d p q = rw (take_at L (M ++ R) a p, ← append_assoc L M R, drop_at (L ++ M) R (a + d) (length-append L M ∙ cc))

  module _ (l new : List A) (a b : ℕ) (h : a ≤ b) (k : b ≤ length l) where
    length_front : length (take a l) ≡ a
    length_front = length-take-le a l (omega arith)

    pub length_cut : length (take a l ++ (new ++ drop b l)) ≡ length l + length new - (b - a)
    length_cut = length-append (take a l) (new ++ drop b l) ∙ rw (length-append new (drop b l), length_front, length-drop b l) (omega arith)

    pub get_cut_before : (i : ℕ) → i < a → get_elem? (take a l ++ (new ++ drop b l)) i ≡ get_elem? l i
    get_cut_before i w = get_left (take a l) (new ++ drop b l) i (omega (arith, length_front)) ∙ get_take a l i w

    pub get_cut_new : (i : ℕ) → i < length new → get_elem? (take a l ++ (new ++ drop b l)) (a + i) ≡ get_elem? new i
    get_cut_new i w = get_right (take a l) (new ++ drop b l) (a + i) i (omega (arith, length_front)) ∙ get_left new (drop b l) i w

    pub get_cut_after : (i : ℕ) → b ≤ i → get_elem? (take a l ++ (new ++ drop b l)) (i + length new - (b - a)) ≡ get_elem? l i
    get_cut_after i w =
        get_right (take a l) (new ++ drop b l) (i + length new - (b - a)) (length new + (i - b)) (omega (arith, length_front))
        ∙ (get_right new (drop b l) (length new + (i - b)) (i - b) refl ∙ get_drop b l i (i - b) (omega arith))

    pub take_cut_before : (i : ℕ) → i ≤ a → take i (take a l ++ (new ++ drop b l)) ≡ take i l
    take_cut_before i w = take-append-le i (take a l) (new ++ drop b l) (omega (arith, length_front)) ∙ take-take i a l w

-- ── A list with one element changed ─────────────────────────────────────────────────────────────────────────

module _ {A : Type 0} (f : A → A) where
  pub length_modify : (xs : List A) (i : ℕ) → length (modify i f xs) ≡ length xs
  unfolding modify
  length_modify [] i = refl
  length_modify (x ∷ xs) zero = refl
  length_modify (x ∷ xs) (suc i) = ap suc (length_modify xs i)

  pub get_modify : (l : List A) (i : ℕ) (x : A) → get_elem? l i ≡ some x → get_elem? (modify i f l) i ≡ some (f x)
  unfolding modify
  get_modify [] i x e = none_some e
  get_modify (y ∷ l) zero x e = rw (some_inj e)
  get_modify (y ∷ l) (suc i) x e = get_modify l i x e

  pub get_modify_other : (l : List A) (j i : ℕ) → i ≢ j → get_elem? (modify j f l) i ≡ get_elem? l i
  unfolding modify
  get_modify_other [] j i n = refl
  get_modify_other (y ∷ l) zero zero n = absurd (n refl)
  get_modify_other (y ∷ l) zero (suc i) n = refl
  get_modify_other (y ∷ l) (suc j) zero n = refl
  get_modify_other (y ∷ l) (suc j) (suc i) n = get_modify_other l j i (λ e. n (ap suc e))

  pub modify_split : (l : List A) (i : ℕ) (x : A) → get_elem? l i ≡ some x → modify i f l ≡ take i l ++ (f x ∷ drop (suc i) l)
  unfolding modify
  modify_split [] i x e = none_some e
  modify_split (y ∷ l) zero x e = rw (some_inj e)
  modify_split (y ∷ l) (suc i) x e = ap {B = List A} (λ r. y ∷ r) (modify_split l i x e)

  pub modify_left : (xs ys : List A) (i : ℕ) → i < length xs → modify i f (xs ++ ys) ≡ modify i f xs ++ ys
  unfolding modify
  modify_left [] ys i h = absurd (not-suc-le-zero h)
  modify_left (x ∷ xs) ys zero h = refl
  modify_left (x ∷ xs) ys (suc i) h = ap {B = List A} (λ r. x ∷ r) (modify_left xs ys i (le_of_suc-le-suc h))

  pub modify_right : (xs ys : List A) (i n : ℕ) → length xs + n ≡ i → modify i f (xs ++ ys) ≡ xs ++ modify n f ys
  unfolding modify
  modify_right [] ys i n e = ap (λ k. modify k f ys) (omega arith)
  modify_right (x ∷ xs) ys zero n e = absurd (omega arith)
  modify_right (x ∷ xs) ys (suc i) n e = ap {B = List A} (λ r. x ∷ r) (modify_right xs ys i n (omega arith))

  pub take_modify : (c : ℕ) (xs : List A) (i : ℕ) → i < c → take c (modify i f xs) ≡ modify i f (take c xs)
  unfolding modify
  take_modify zero xs i h = absurd (not-suc-le-zero h)
  take_modify (suc c) [] i h = refl
  take_modify (suc c) (x ∷ xs) zero h = refl
  take_modify (suc c) (x ∷ xs) (suc i) h = ap {B = List A} (λ r. x ∷ r) (take_modify c xs i (le_of_suc-le-suc h))

  pub take_modify_before : (c : ℕ) (xs : List A) (i : ℕ) → c ≤ i → take c (modify i f xs) ≡ take c xs
  unfolding modify
  take_modify_before zero xs i h = refl
  take_modify_before (suc c) [] i h = refl
  take_modify_before (suc c) (x ∷ xs) zero h = absurd (not-suc-le-zero h)
  take_modify_before (suc c) (x ∷ xs) (suc i) h = ap {B = List A} (λ r. x ∷ r) (take_modify_before c xs i (le_of_suc-le-suc h))

  pub drop_modify_before : (c : ℕ) (xs : List A) (i : ℕ) → i < c → drop c (modify i f xs) ≡ drop c xs
  unfolding modify
  drop_modify_before zero xs i h = absurd (not-suc-le-zero h)
  drop_modify_before (suc c) [] i h = refl
  drop_modify_before (suc c) (x ∷ xs) zero h = refl
  drop_modify_before (suc c) (x ∷ xs) (suc i) h = drop_modify_before c xs i (le_of_suc-le-suc h)

-- ── A list with each element changed ────────────────────────────────────────────────────────────────────────

module _ {ℓ κ} {X : Type ℓ} {Y : Type κ} (f : X → Y) where
  pub map_append : (l m : List X) → map f (l ++ m) ≡ map f l ++ map f m
  map_append [] m = refl
  map_append (x ∷ l) m = ap {B = List Y} (λ r. f x ∷ r) (map_append l m)

  pub map_take : (n : ℕ) (l : List X) → map f (take n l) ≡ take n (map f l)
  map_take zero l = refl
  map_take (suc n) [] = refl
  map_take (suc n) (x ∷ l) = ap {B = List Y} (λ r. f x ∷ r) (map_take n l)

  pub map_drop : (n : ℕ) (l : List X) → map f (drop n l) ≡ drop n (map f l)
  map_drop zero l = refl
  map_drop (suc n) [] = refl
  map_drop (suc n) (x ∷ l) = map_drop n l

  pub get_map : (l : List X) (i : ℕ) (x : X) → get_elem? l i ≡ some x → get_elem? (map f l) i ≡ some (f x)
  get_map [] i x e = none_some e
  get_map (y ∷ l) zero x e = ap {B = Option Y} (λ z. some (f z)) (some_inj e)
  get_map (y ∷ l) (suc i) x e = get_map l i x e

-- ── A property of each element, a relation between any two ──────────────────────────────────────────────────

pub All-map {ℓ κ μ} : {A : Type ℓ} {P : A → Type κ} {Q : A → Type μ} → ((x : A) → P x → Q x) → (l : List A) → All P l → All Q l
All-map f [] h = tt
All-map f (x ∷ l) h = (f x h.0, All-map f l h.1)

pub All-map₂ {ℓ κ μ ν} : {A : Type ℓ} {P : A → Type κ} {Q : A → Type μ} {R : A → Type ν} → ((x : A) → P x → Q x → R x) → (l : List A) → All P l → All Q l → All R l
All-map₂ f [] h k = tt
All-map₂ f (x ∷ l) h k = (f x h.0 k.0, All-map₂ f l h.1 k.1)

-- what each element has, the one at place i has; d where there is none
pub All-at : {X : Type 0} (P : X → Type 0) (d : X) (l : List X) (i : ℕ) → i < length l → All P l → P (get_or l i d)
All-at P d [] i b h = absurd (omega arith)
All-at P d (x ∷ l) zero b h = h.0
All-at P d (x ∷ l) (suc i) b h = All-at P d l i (omega arith) h.1

pub All-getD : {X : Type 0} (P : X → Type 0) (d : X) → P d → (l : List X) (i : ℕ) → All P l → P (get_or l i d)
All-getD P d p [] i h = p
All-getD P d p (x ∷ l) zero h = h.0
All-getD P d p (x ∷ l) (suc i) h = All-getD P d p l i h.1

pub All-set : {X : Type 0} (P : X → Type 0) (l : List X) (i : ℕ) (x : X) → P x → All P l → All P (set l i x)
All-set P [] i x p h = tt
All-set P (y ∷ l) zero x p h = (p, h.1)
All-set P (y ∷ l) (suc i) x p h = (h.0, All-set P l i x p h.1)

pub All-mem : {X : Type 0} (P : X → Type 0) (l : List X) (x : X) → All P l → Memᴰ x l → P x
All-mem P [] x h m = absurd (Memᴰ.not-nil m)
All-mem P (y ∷ l) x h m = go (Memᴰ.cases_cons m) (All-mem P l x h.1)
  where
    go : (x ≡ y) ⊎ Memᴰ x l → (Memᴰ x l → P x) → P x
    go (inl e) r = rw e h.0
    go (inr q) r = r q

-- any two elements, with a property that each has
pub Pairs-with : {X : Type 0} (P : X → Type 0) (R : X → X → Type 0) (l : List X) → All P l → Pairs R l → Pairs (λ x y. P x × P y × R x y) l
Pairs-with P R [] h k = tt
Pairs-with P R (x ∷ l) h k = (All-map₂ (λ y a b. (h.0, a, b)) l h.1 k.0, Pairs-with P R l h.1 k.1)

module _ {X Y : Type 0} (f : X → Y) where
  pub All-over : (P : X → Type 0) (Q : Y → Type 0) → ((x : X) → P x → Q (f x)) → (l : List X) → All P l → All Q (map f l)
  All-over P Q k [] h = tt
  All-over P Q k (x ∷ l) h = (k x h.0, All-over P Q k l h.1)

  pub Pairs-over : (R : X → X → Type 0) (T : Y → Y → Type 0) → ((x y : X) → R x y → T (f x) (f y)) → (l : List X) → Pairs R l → Pairs T (map f l)
  Pairs-over R T k [] h = tt
  Pairs-over R T k (x ∷ l) h = (All-over (R x) (T (f x)) (k x) l h.0, Pairs-over R T k l h.1)

  pub any_over : (p : X → Bool) (q : Y → Bool) → ((x : X) → q (f x) ≡ p x) → (l : List X) → any q (map f l) ≡ any p l
  unfolding any
  any_over p q k [] = refl
  any_over p q k (x ∷ l) = rw (k x, any_over p q k l)

  pub total_over : (p : X → Bool) (g : X → ℕ) (q : Y → Bool) (h : Y → ℕ) → ((x : X) → q (f x) ≡ p x) → ((x : X) → h (f x) ≡ g x) → (l : List X) → total q h (map f l) ≡ total p g l
  unfolding total
  total_over p g q h k m [] = refl
  total_over p g q h k m (x ∷ l) = rw (k x, m x, total_over p g q h k m l)

-- ── What f picks of a list ──────────────────────────────────────────────────────────────────────────────────

module _ {X Y : Type 0} (f : X → Option Y) where
  pub pick_none : (x : X) (l : List X) → f x ≡ none → pick f (x ∷ l) ≡ pick f l
  unfolding pick
  pick_none x l e = rw e

  pub pick_some : (x : X) (l : List X) (y : Y) → f x ≡ some y → pick f (x ∷ l) ≡ y ∷ pick f l
  unfolding pick
  pick_some x l y e = rw e

  module _ (P : X → Type 0) (Q : Y → Type 0) (k : (x : X) (y : Y) → f x ≡ some y → P x → Q y) where
    pub All-pick : (l : List X) → All P l → All Q (pick f l)
    unfolding pick
    All-pick [] h = tt
    All-pick (x ∷ l) h = go (f x) refl (All-pick l h.1)
      where
        go : (o : Option Y) → f x ≡ o → All Q (pick f l) → All Q (pick f (x ∷ l))
        go none e r = rw (pick_none x l e) r
        go (some y) e r = rw (pick_some x l y e) (k x y e h.0, r)

  module _ (R : X → X → Type 0) (T : Y → Y → Type 0) (k : (x : X) (y : Y) (x' : X) (y' : Y) → f x ≡ some y → f x' ≡ some y' → R x x' → T y y') where
    pub Pairs-pick : (l : List X) → Pairs R l → Pairs T (pick f l)
    unfolding pick
    Pairs-pick [] h = tt
    Pairs-pick (x ∷ l) h = go (f x) refl (Pairs-pick l h.1)
      where
        go : (o : Option Y) → f x ≡ o → Pairs T (pick f l) → Pairs T (pick f (x ∷ l))
        go none e r = rw (pick_none x l e) r
        go (some y) e r = rw (pick_some x l y e) (All-pick (R x) (T y) (λ x' y' e' q. k x y x' y' e e' q) l h.0, r)

  pub pick_mem : (l : List X) (y : Y) → Memᴰ y (pick f l) → (x : X) × Memᴰ x l × (f x ≡ some y)
  unfolding pick
  pick_mem [] y m = absurd (Memᴰ.not-nil m)
  pick_mem (x ∷ l) y m = go (f x) refl (pick_mem l y)
    where
      deeper : (x : X) × Memᴰ x l × (f x ≡ some y) → (x' : X) × Memᴰ x' (x ∷ l) × (f x' ≡ some y)
      deeper r = (r.0, Memᴰ.tail r.1, r.2)

      at : (z : Y) → f x ≡ some z → (y ≡ z) ⊎ Memᴰ y (pick f l) → (Memᴰ y (pick f l) → (x : X) × Memᴰ x l × (f x ≡ some y)) → (x' : X) × Memᴰ x' (x ∷ l) × (f x' ≡ some y)
      at z e (inl q) r = (x, Memᴰ.head refl, e ∙ ap {B = Option Y} some (sym q))
      at z e (inr q) r = deeper (r q)

      go : (o : Option Y) → f x ≡ o → (Memᴰ y (pick f l) → (x : X) × Memᴰ x l × (f x ≡ some y)) → (x' : X) × Memᴰ x' (x ∷ l) × (f x' ≡ some y)
      go none e r = deeper (r (subst (Memᴰ y) (pick_none x l e) m))
      go (some z) e r = at z e (Memᴰ.cases_cons (subst (Memᴰ y) (pick_some x l z e) m)) r

  pub mem_pick : (l : List X) (x : X) (y : Y) → Memᴰ x l → f x ≡ some y → Memᴰ y (pick f l)
  mem_pick [] x y m e = absurd (Memᴰ.not-nil m)
  mem_pick (z ∷ l) x y m e = go (Memᴰ.cases_cons m) (f z) refl (λ q. mem_pick l x y q e)
    where
      go : (x ≡ z) ⊎ Memᴰ x l → (o : Option Y) → f z ≡ o → (Memᴰ x l → Memᴰ y (pick f l)) → Memᴰ y (pick f (z ∷ l))
      go (inl q) o p r = rw (pick_some z l y (ap f (sym q) ∙ e)) (Memᴰ.head refl)
      go (inr q) none p r = rw (pick_none z l p) (r q)
      go (inr q) (some w) p r = rw (pick_some z l w p) (Memᴰ.tail (r q))

-- ── A sum over those that pass a test ───────────────────────────────────────────────────────────────────────

module _ {X : Type 0} (p : X → Bool) (f : X → ℕ) where
  pub total_none : (l : List X) → All (λ x. p x ≡ false) l → total p f l ≡ 0
  unfolding total
  total_none [] h = refl
  total_none (x ∷ l) h = rw (h.0, total_none l h.1) (zero-add 0)

  pub total_one : (x : X) (l : List X) → p x ≡ true → total p f (x ∷ l) ≡ f x + total p f l
  unfolding total
  total_one x l e = rw e

  -- tests that agree
  pub total_same : (q : X → Bool) (l : List X) → All (λ x. p x ≡ q x) l → total p f l ≡ total q f l
  unfolding total
  total_same q [] h = refl
  total_same q (x ∷ l) h = rw (h.0, total_same q l h.1)

-- ── Some element passes a test ──────────────────────────────────────────────────────────────────────────────

module _ {X : Type 0} (p : X → Bool) where
  pub any_mem : (l : List X) → any p l ≡ true → (x : X) × Memᴰ x l × (p x ≡ true)
  unfolding any
  any_mem [] e = bool_absurd e refl
  any_mem (x ∷ l) e = go (either_true (p x) (any p l) e) (any_mem l)
    where
      go : (p x ≡ true) ⊎ (any p l ≡ true) → (any p l ≡ true → (y : X) × Memᴰ y l × (p y ≡ true)) → (y : X) × Memᴰ y (x ∷ l) × (p y ≡ true)
      go (inl q) r = (x, Memᴰ.head refl, q)
      go (inr q) r = let z = r q in (z.0, Memᴰ.tail z.1, z.2)

  pub mem_any : (l : List X) (x : X) → Memᴰ x l → p x ≡ true → any p l ≡ true
  unfolding any
  mem_any [] x m e = absurd (Memᴰ.not-nil m)
  mem_any (y ∷ l) x m e = go (Memᴰ.cases_cons m) (λ q. mem_any l x q e)
    where
      go : (x ≡ y) ⊎ Memᴰ x l → (Memᴰ x l → any p l ≡ true) → (p y || any p l) ≡ true
      go (inl q) r = rw (← q, e)
      go (inr q) r = rw (r q) (or-true (p y))

  pub none_passes : (l : List X) → any p l ≡ false → All (λ x. p x ≡ false) l
  unfolding any
  none_passes [] e = tt
  none_passes (x ∷ l) e = let r = either_false (p x) (any p l) e in (r.0, none_passes l r.1)

  pub passes_none : (l : List X) → All (λ x. p x ≡ false) l → any p l ≡ false
  unfolding any
  passes_none [] h = refl
  passes_none (x ∷ l) h = rw (h.0, passes_none l h.1)

-- ── A list in another order ─────────────────────────────────────────────────────────────────────────────────

module _ {X : Type 0} where
  pub All-perm : (P : X → Type 0) {l m : List X} → Permᴰ l m → All P l → All P m
  All-perm P Permᴰ.nil h = h
  All-perm P (Permᴰ.cons e d) h = (subst P e h.0, All-perm P d h.1)
  All-perm P (Permᴰ.swap e f) h = (subst P f h.1.0, (subst P e h.0, h.1.1))
  All-perm P (Permᴰ.trans d f) h = All-perm P f (All-perm P d h)

  pub Pairs-perm : (R : X → X → Type 0) → ((x y : X) → R x y → R y x) → {l m : List X} → Permᴰ l m → Pairs R l → Pairs R m
  Pairs-perm R s Permᴰ.nil h = h
  Pairs-perm R s (Permᴰ.cons {a = a} {l₂ = m} e d) h = (subst (λ x. All (R x) m) e (All-perm (R a) d h.0), Pairs-perm R s d h.1)
  Pairs-perm R s (Permᴰ.swap {a = a} {b = b} {a' = c} {b' = d} {l = l} e f) h =
      let last = subst (λ x. All (R x) l) e h.0.1 in
      let first = subst (λ y. All (R y) l) f h.1.0 in
      ((subst (λ y. R y d) f (subst (R b) e (s a b h.0.0)), first), (last, h.1.1))
  Pairs-perm R s (Permᴰ.trans d f) h = Pairs-perm R s f (Pairs-perm R s d h)

  pub any_perm : (p : X → Bool) {l m : List X} → Permᴰ l m → any p l ≡ any p m
  unfolding any
  any_perm p Permᴰ.nil = refl
  any_perm p (Permᴰ.cons e d) = rw (e, any_perm p d)
  any_perm p (Permᴰ.swap {a = a} {b = b} {l = l} e f) = rw (← e, ← f) (go (p a) (p b))
    where
      go : (x y : Bool) → (x || (y || any p l)) ≡ (y || (x || any p l))
      go true true = refl
      go true false = refl
      go false y = refl
  any_perm p (Permᴰ.trans d f) = any_perm p d ∙ any_perm p f

  pub total_perm : (p : X → Bool) (f : X → ℕ) {l m : List X} → Permᴰ l m → total p f l ≡ total p f m
  unfolding total
  total_perm p f Permᴰ.nil = refl
  total_perm p f (Permᴰ.cons e d) = rw (e, total_perm p f d)
  total_perm p f (Permᴰ.swap e g) = rw (← e, ← g) (omega arith)
  total_perm p f (Permᴰ.trans d g) = total_perm p f d ∙ total_perm p f g

  -- the library's word for what f picks
  pick_filter_map : {Y : Type 0} (f : X → Option Y) (l : List X) → pick f l ≡ filter_map f l
  unfolding pick filter_map Option-elim
  pick_filter_map f [] = refl
  pick_filter_map {Y} f (x ∷ l) = go (f x) (pick_filter_map f l)
    where
      go : (o : Option Y) → pick f l ≡ filter_map f l → more o (pick f l) ≡ Option-elim o (filter_map f l) (λ b. b ∷ filter_map f l)
      go none e = e
      go (some y) e = rw e

  pub pick_perm : {Y : Type 0} (f : X → Option Y) {l m : List X} → Permᴰ l m → Permᴰ (pick f l) (pick f m)
  pick_perm f {l} {m} d = rw (pick_filter_map f l, pick_filter_map f m) (Permᴰ.filter_map f d)

-- ── The library's words ─────────────────────────────────────────────────────────────────────────────────────

-- there is at most one proof that all elements have a property of which there is at most one
pub all_prop : {A : Type 0} (P : A → Type 0) → ((x : A) → IsProp (P x)) → (l : List A) → IsProp (All P l)
all_prop P each [] = Unit-prop
all_prop P each (x ∷ l) = ×_prop (each x) (all_prop P each l)

-- the library's test of a list is this one
pub some_alike : {A : Type 0} (p : A → Bool) (l : List A) → list_any p l ≡ any p l
unfolding any
some_alike p [] = refl
some_alike p (x ∷ l) = ap (λ (t : Bool). p x || t) (some_alike p l)

-- an element of zeros
pub get_zeros : (n i : ℕ) → ◌≡◌ {A = ℕ} (get_or (replicate n 0) i 0) 0
get_zeros zero i = refl
get_zeros (suc n) zero = refl
get_zeros (suc n) (suc i) = get_zeros n i

-- the first of what begins with an element
pub head_taken : (l : List ℕ) {y : ℕ} → take 1 l ≡ y ∷ [] → get_or l 0 0 ≡ y
head_taken [] e = cc
head_taken (x ∷ l) e = cc

-- each passes by the library's test just if none is found among what they tell
pub none_found : {X : Type 0} {A : Type 0} (p : A → Bool) (f : X → A) (l : List X) → list_all (λ x. not (p (f x))) l ≡ not (any p (map f l))
unfolding any
none_found p f [] = refl
none_found p f (x ∷ l) = rw (none_found p f l) (go (p (f x)) (any p (map f l)))
  where
    go : (a b : Bool) → (not a && not b) ≡ not (a || b)
    go true b = refl
    go false b = refl
