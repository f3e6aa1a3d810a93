-- The machine of line 5 accepts just the batches that spell trees.
-- Assumes nothing.
use Rattle.std.specs.Prelude.{◌≡◌, Bool, cond, not, ◌&&◌, ◌||◌, ◌⊎◌, leb, ltb, eqb, length, take, drop}
use Rattle.std.proofs.Math.Path.{refl}
use Rattle.std.proofs.Common.{sym, ap, ◌∙◌, inl, inr, arith, length-drop}
use Rattle.std.proofs.Math.Bool.{true, false, and-false, and-true}
use mathlib.Core.List.{List, [], ◌∷◌, map, zip}
use Rattle.std.proofs.Math.Option
use Rattle.std.proofs.Math.Option.{Option, none, some, bind}
use Prim.Native.Nat.{ℕ, zero, suc, ◌+◌, ◌≤◌, ◌<◌, ◌%◌, max}
use Rattle.std.proofs.Math.Dec.{leb-zero, leb-suc-suc, leb-suc-zero, eqb-zero-suc, eqb-suc-zero, eqb-suc-suc}
use borrow.Author.Tests.{le-leb, lt-leb, lt-ltb, le-ltb, eq-eqb, ne_eqb, leb-true}
use Rattle.orders.specs.ListLaws.{lt_or_le, both_true}
use Rattle.orders.specs.Tree.{Tree, node, token, forest, deepest, deepest_of}
use Rattle.definition.specs.Basics.{any, is_some}
use Rattle.definition.specs.Batch.{Batch}
use Rattle.definition.specs.Elements.{Piece, is_node, malformed, pieces, plant, grow, starts_with_token, unspelled, spelled}
use Rattle.read_spelling.specs.Spelling.{children_of, length_of, stands, settled, none_open, opened, fills, accepts}

-- ── One element ─────────────────────────────────────────────────────────────────────────────────────────────

module _ (k m : ℕ) where
  pub children_token : k < 0x8000_0000 → children_of k m ≡ 0
  unfolding children_of is_node
  children_token h = rw (lt-leb 0x8000_0000 k h)

  pub children_node : 0x8000_0000 ≤ k → children_of k m ≡ m
  unfolding children_of is_node
  children_node h = rw (le-leb 0x8000_0000 k h)

  pub length_token : k < 0x8000_0000 → length_of k m ≡ m
  unfolding length_of is_node
  length_token h = rw (lt-leb 0x8000_0000 k h)

  pub length_node : 0x8000_0000 ≤ k → length_of k m ≡ 0
  unfolding length_of is_node
  length_node h = rw (le-leb 0x8000_0000 k h)

module _ (k d : ℕ) where
  pub stands_malformed : 0x1_0000 ≤ k % 0x8000_0000 → stands k d ≡ false
  unfolding stands malformed
  stands_malformed h = rw (le-leb 0x1_0000 (k % 0x8000_0000) h)

  pub stands_deep : 64 < d → stands k d ≡ false
  unfolding stands
  stands_deep h = rw (lt-leb d 64 h) (and-false (not (malformed k)))

  module _ (h : k % 0x8000_0000 < 0x1_0000) (l : d ≤ 64) where
    pub stands_node : 0x8000_0000 ≤ k → stands k d ≡ true
    unfolding stands malformed is_node
    stands_node n = rw (lt-leb 0x1_0000 (k % 0x8000_0000) h, le-leb d 64 l, le-leb 0x8000_0000 k n)

    pub stands_token : k < 0x8000_0000 → stands k d ≡ ltb 1 d
    unfolding stands malformed is_node
    stands_token n = rw (lt-leb 0x1_0000 (k % 0x8000_0000) h, le-leb d 64 l, lt-leb 0x8000_0000 k n)

  -- an element that may stand is no deeper than 64
  pub stands_shallow : stands k d ≡ true → d ≤ 64
  unfolding stands
  stands_shallow h = leb-true d 64 (both_true (leb d 64) _ (both_true (not (malformed k)) _ h).1).0

-- ── A turn of the machine ───────────────────────────────────────────────────────────────────────────────────

module _ (bytes : ℕ) where
  -- an element to which no child is to come is closed
  pub fills_close : (s : List ℕ) (sum : ℕ) (es : List (ℕ × ℕ)) → fills bytes (0 ∷ s) sum es ≡ fills bytes s sum es
  unfolding fills
  fills_close s sum [] = refl
  fills_close s sum (e ∷ es) = refl

  -- the next element is opened
  pub fills_open : (l : ℕ) (s : List ℕ) (sum k m : ℕ) (es : List (ℕ × ℕ)) (d : ℕ) → suc (length s) ≡ d
      → fills bytes (suc l ∷ s) sum ((k, m) ∷ es) ≡ (stands k d && fills bytes (children_of k m ∷ l ∷ s) (sum + length_of k m) es)
  unfolding fills
  fills_open l s sum k m es d h = rw (← h)

  -- a child is to come, and no element is left
  pub fills_short : (l : ℕ) (s : List ℕ) (sum : ℕ) → fills bytes (suc l ∷ s) sum [] ≡ false
  unfolding fills
  fills_short l s sum = refl

  -- none is open, and an element is left
  pub fills_long : (sum : ℕ) (e : ℕ × ℕ) (es : List (ℕ × ℕ)) → fills bytes [] sum (e ∷ es) ≡ false
  unfolding fills
  fills_long sum e es = refl

  pub fills_end : (sum : ℕ) → fills bytes [] sum [] ≡ eqb sum bytes
  unfolding fills
  fills_end sum = refl

-- ── The trees that elements spell ───────────────────────────────────────────────────────────────────────────

-- the trees that elements with some text spell, however many and however deep
unfoldable pub grown : List (ℕ × ℕ) → List ℕ → Option (List (Tree ℕ))
grown es text = bind (pieces es text) (λ ps. grow ps)

-- an element with the text that is its own
unfoldable pub piece_at : ℕ × ℕ → List ℕ → Piece
piece_at e text = record { kind = e.0; measure = e.1; own = take (length_of e.0 e.1) text }

pub grown_more : (e : ℕ × ℕ) (es : List (ℕ × ℕ)) (text : List ℕ)
    → grown (e ∷ es) text ≡ cond (leb (length_of e.0 e.1) (length text)) (bind (grown es (drop (length_of e.0 e.1) text)) (plant (piece_at e text))) none
unfolding grown pieces grow length_of piece_at bind
grown_more e es text = go (leb (cond (is_node e.0) 0 e.1) (length text)) (pieces es (drop (cond (is_node e.0) 0 e.1) text))
  where
    p : Piece
    p = record { kind = e.0; measure = e.1; own = take (cond (is_node e.0) 0 e.1) text }

    go : (t : Bool) (o : Option (List Piece)) → bind (cond t (Option.map (λ ps. p ∷ ps) o) none) (λ ps. grow ps) ≡ cond t (bind (bind o (λ ps. grow ps)) (plant p)) none
    go true none = refl
    go true (some ps) = refl
    go false o = refl

-- ── Those trees given out to a stack ────────────────────────────────────────────────────────────────────────

-- a tree may stand at this depth
standing : ℕ → Tree ℕ → Bool
standing d t = leb (d + deepest t) 65 && (not (starts_with_token t) || ltb 1 d)

all_standing : ℕ → List (Tree ℕ) → Bool
all_standing d [] = true
all_standing d (t ∷ ts) = standing d t && all_standing d ts

-- the open elements of a stack get their children from the trees, the innermost the first of them, and no tree is left
shared : List ℕ → List (Tree ℕ) → Bool
shared [] [] = true
shared [] (t ∷ ts) = false
shared (l ∷ s) ts = leb l (length ts) && (all_standing (suc (length s)) (take l ts) && shared s (drop l ts))

shared_by : List ℕ → Option (List (Tree ℕ)) → Bool
shared_by s none = false
shared_by s (some ts) = shared s ts

shared_pop : (s : List ℕ) (o : Option (List (Tree ℕ))) → shared_by (0 ∷ s) o ≡ shared_by s o
unfolding shared_by shared all_standing
shared_pop s none = refl
shared_pop s (some ts) = rw (leb-zero (length ts))

-- ── Truth values ────────────────────────────────────────────────────────────────────────────────────────────

same_leb : (a b c d : ℕ) → (a ≤ b → c ≤ d) → (c ≤ d → a ≤ b) → leb a b ≡ leb c d
same_leb a b c d f g = go (lt_or_le b a) (lt_or_le d c)
  where
    go : (b < a) ⊎ (a ≤ b) → (d < c) ⊎ (c ≤ d) → leb a b ≡ leb c d
    go (inl h) (inl k) = lt-leb a b h ∙ sym (lt-leb c d k)
    go (inl h) (inr k) = absurd (omega (arith, g k))
    go (inr h) k = le-leb a b h ∙ sym (le-leb c d (f h))

both_leb : (a b c k : ℕ) → (c ≤ k → a ≤ k) → (c ≤ k → b ≤ k) → (a ≤ k → b ≤ k → c ≤ k) → (leb a k && leb b k) ≡ leb c k
both_leb a b c k f g h = go (lt_or_le k a) (lt_or_le k b)
  where
    over : (c ≤ k → ⊥) → leb c k ≡ false
    over n = over' (lt_or_le k c)
      where
        over' : (k < c) ⊎ (c ≤ k) → leb c k ≡ false
        over' (inl q) = lt-leb c k q
        over' (inr q) = absurd (n q)

    go : (k < a) ⊎ (a ≤ k) → (k < b) ⊎ (b ≤ k) → (leb a k && leb b k) ≡ leb c k
    go (inl p) q = rw (lt-leb a k p) (sym (over (λ z. omega (arith, f z))))
    go (inr p) (inl q) = rw (le-leb a k p, lt-leb b k q) (sym (over (λ z. omega (arith, g z))))
    go (inr p) (inr q) = rw (le-leb a k p, le-leb b k q) (sym (le-leb c k (h p q)))

-- ── One element ─────────────────────────────────────────────────────────────────────────────────────────────

-- the children of a node may stand below it, and it itself, just if its tree may stand
below : (c : ℕ) (ts : List (Tree ℕ)) → (leb (suc c) 64 && all_standing (suc (suc c)) ts) ≡ leb (suc c + suc (deepest_of (forest ts))) 65
unfolding all_standing standing deepest_of forest
below c [] = and-true (leb (suc c) 64) ∙ same_leb (suc c) 64 (suc c + 1) 65 (λ h. omega arith) (λ h. omega arith)
below c (t ∷ ts) =
    let d : ℕ = suc (suc c) in
    let a : Bool = leb (suc c) 64 in
    let m = both_leb (d + deepest t) (suc c + suc (deepest_of (forest ts))) (suc c + suc (max (deepest t) (deepest_of (forest ts)))) 65 (λ h. omega arith) (λ h. omega arith) (λ h k. omega arith) in
    rw (lt-ltb 1 d (omega arith)) (go a (leb (d + deepest t) 65) (not (starts_with_token t)) (all_standing d ts) ∙ ap (λ z. leb (d + deepest t) 65 && z) (below c ts) ∙ m)
  where
    go : (a b x r : Bool) → (a && ((b && (x || true)) && r)) ≡ (b && (a && r))
    go true true true r = refl
    go true true false r = refl
    go true false x r = refl
    go false true x r = refl
    go false false x r = refl

module _ (k m : ℕ) (own : List ℕ) (l : ℕ) (s : List ℕ) (ts : List (Tree ℕ)) where
  given_token : ((leb (suc (length s)) 64 && ltb 1 (suc (length s))) && shared (0 ∷ l ∷ s) ts) ≡ shared (suc l ∷ s) (token k own ∷ ts)
  unfolding shared all_standing standing starts_with_token deepest
  given_token =
      let d : ℕ = suc (length s) in
      rw (leb-zero (length ts), leb-suc-suc l (length ts), same_leb d 64 (d + 1) 65 (λ h. omega arith) (λ h. omega arith))
      (go (leb (d + 1) 65) (ltb 1 d) (leb l (length ts)) (all_standing d (take l ts)) (shared s (drop l ts)))
    where
      go : (a b c x y : Bool) → ((a && b) && (c && (x && y))) ≡ (c && (((a && b) && x) && y))
      go true true true x y = refl
      go true true false x y = refl
      go true false true x y = refl
      go true false false x y = refl
      go false b true x y = refl
      go false b false x y = refl

  given_node : (leb (suc (length s)) 64 && shared (m ∷ l ∷ s) ts) ≡ shared_by (suc l ∷ s) (cond (leb m (length ts)) (some (node k (forest (take m ts)) ∷ drop m ts)) none)
  unfolding shared shared_by all_standing standing starts_with_token deepest
  given_node = choose (leb m (length ts))
    where
      d : ℕ
      d = suc (length s)

      rest : List (Tree ℕ)
      rest = drop m ts

      go : (a b z c x y : Bool) → (a && b) ≡ z → (a && (b && (c && (x && y)))) ≡ (c && (((z && true) && x) && y))
      go true true z true x y e = rw (← e)
      go true true z false x y e = refl
      go true false z true x y e = rw (← e)
      go true false z false x y e = refl
      go false b z true x y e = rw (← e)
      go false b z false x y e = refl

      choose : (t : Bool) → (leb d 64 && (t && (all_standing (suc d) (take m ts) && shared (l ∷ s) rest))) ≡ shared_by (suc l ∷ s) (cond t (some (node k (forest (take m ts)) ∷ rest)) none)
      choose true = rw (leb-suc-suc l (length rest)) (go (leb d 64) (all_standing (suc d) (take m ts)) _ (leb l (length rest)) (all_standing d (take l rest)) (shared s (drop l rest)) (below (length s) (take m ts)))
      choose false = and-false (leb d 64)

-- an element that may stand, and the trees after it given out with its children: the trees with its own given out
given : (p : Piece) (l : ℕ) (s : List ℕ) (ts : List (Tree ℕ))
    → ((leb (suc (length s)) 64 && (is_node p.kind || ltb 1 (suc (length s)))) && shared (children_of p.kind p.measure ∷ l ∷ s) ts) ≡ shared_by (suc l ∷ s) (plant p ts)
unfolding plant children_of shared_by
given p l s ts = choose (is_node p.kind)
  where
    d : ℕ
    d = suc (length s)

    choose : (t : Bool) → ((leb d 64 && (t || ltb 1 d)) && shared (cond t p.measure 0 ∷ l ∷ s) ts)
        ≡ shared_by (suc l ∷ s) (cond t (cond (leb p.measure (length ts)) (some (node p.kind (forest (take p.measure ts)) ∷ drop p.measure ts)) none) (some (token p.kind p.own ∷ ts)))
    choose true = rw (and-true (leb d 64)) (given_node p.kind p.measure p.own l s ts)
    choose false = given_token p.kind p.measure p.own l s ts

-- ── All elements ────────────────────────────────────────────────────────────────────────────────────────────

-- more text than there is
pub fills_over : (bytes : ℕ) (es : List (ℕ × ℕ)) (s : List ℕ) (sum : ℕ) → bytes < sum → fills bytes s sum es ≡ false
unfolding fills
fills_over bytes [] s sum h = rw (ne_eqb sum bytes (λ e. omega arith)) (and-false (none_open (settled s)))
fills_over bytes (e ∷ es) s sum h = go (settled s) (fills_over bytes es)
  where
    go : (s' : List ℕ) → ((s'' : List ℕ) (sum' : ℕ) → bytes < sum' → fills bytes s'' sum' es ≡ false) → opened s' sum e (λ s'' sum'. fills bytes s'' sum' es) ≡ false
    go [] ih = refl
    go (zero ∷ s') ih = refl
    go (suc l ∷ s') ih = rw (ih (children_of e.0 e.1 ∷ l ∷ s') (sum + length_of e.0 e.1) (omega arith)) (and-false (stands e.0 (suc (length s'))))

-- the kind words of elements
abbrev pub kinds_of : List (ℕ × ℕ) → List ℕ
kinds_of es = map (λ e. e.0) es

-- no element is left
closed : (s : List ℕ) → none_open (settled s) ≡ shared s []
unfolding settled none_open shared all_standing
closed [] = refl
closed (zero ∷ s) = closed s
closed (suc l ∷ s) = rw (leb-suc-zero l)

ends : (bytes sum : ℕ) (s text : List ℕ) → sum + length text ≡ bytes → (none_open (settled s) && eqb sum bytes) ≡ shared_by s (grown [] text)
unfolding grown pieces grow bind shared_by
ends bytes sum s [] h = rw (eq-eqb sum bytes (omega arith)) (and-true (none_open (settled s)) ∙ closed s)
ends bytes sum s (x ∷ text) h = rw (ne_eqb sum bytes (λ e. omega arith)) (and-false (none_open (settled s)))

-- a tree has come: a stack with nothing open has no place for it
no_place : (p : Piece) (o : Option (List (Tree ℕ))) → shared_by [] (bind o (plant p)) ≡ false
unfolding shared_by bind plant shared
no_place p none = refl
no_place p (some ts) = choose (is_node p.kind) (leb p.measure (length ts))
  where
    choose : (t u : Bool) → shared_by [] (cond t (cond u (some (node p.kind (forest (take p.measure ts)) ∷ drop p.measure ts)) none) (some (token p.kind p.own ∷ ts))) ≡ false
    choose true true = refl
    choose true false = refl
    choose false u = refl

-- one element more
shared_more : (e : ℕ × ℕ) (text : List ℕ) (l : ℕ) (s : List ℕ) (a : Bool) (o : Option (List (Tree ℕ)))
    → (stands e.0 (suc (length s)) && (not a && shared_by (children_of e.0 e.1 ∷ l ∷ s) o)) ≡ (not (malformed e.0 || a) && shared_by (suc l ∷ s) (bind o (plant (piece_at e text))))
unfolding stands shared_by bind piece_at
shared_more e text l s a o = go o
  where
    d : ℕ
    d = suc (length s)

    both : (f a x y : Bool) → ((not f && x) && (not a && y)) ≡ (not (f || a) && (x && y))
    both true a x y = refl
    both false true true y = refl
    both false true false y = refl
    both false false x y = refl

    go : (o : Option (List (Tree ℕ))) → (stands e.0 d && (not a && shared_by (children_of e.0 e.1 ∷ l ∷ s) o)) ≡ (not (malformed e.0 || a) && shared_by (suc l ∷ s) (bind o (plant (piece_at e text))))
    go none = rw (and-false (not a)) (and-false (stands e.0 d) ∙ sym (and-false (not (malformed e.0 || a))))
    go (some ts) = both (malformed e.0) a (leb d 64 && (is_node e.0 || ltb 1 d)) (shared (children_of e.0 e.1 ∷ l ∷ s) ts) ∙ ap (λ z. not (malformed e.0 || a) && z) (given (piece_at e text) l s ts)

-- the machine accepts what is left just if its kind words have their form and its trees can be given out to the stack
fills_shared : (bytes : ℕ) (es : List (ℕ × ℕ)) (s : List ℕ) (sum : ℕ) (text : List ℕ) → sum + length text ≡ bytes
    → fills bytes s sum es ≡ (not (any malformed (kinds_of es)) && shared_by s (grown es text))
unfolding fills any shared_by
fills_shared bytes [] s sum text h = ends bytes sum s text h
fills_shared bytes (e ∷ es) s sum text h = go (fills_shared bytes es) s
  where
    n : ℕ
    n = length_of e.0 e.1

    a : Bool
    a = any malformed (kinds_of es)

    after : Option (List (Tree ℕ))
    after = grown es (drop n text)

    IH : Type 0
    IH = (s : List ℕ) (sum : ℕ) (text : List ℕ) → sum + length text ≡ bytes → fills bytes s sum es ≡ (not a && shared_by s (grown es text))

    long : n ≤ length text → grown (e ∷ es) text ≡ bind after (plant (piece_at e text))
    long k = grown_more e es text ∙ rw (le-leb n (length text) k)

    short : length text < n → grown (e ∷ es) text ≡ none
    short k = grown_more e es text ∙ rw (lt-leb n (length text) k)

    go : IH → (s : List ℕ) → fills bytes s sum (e ∷ es) ≡ (not (malformed e.0 || a) && shared_by s (grown (e ∷ es) text))
    go ih [] = elim (lt_or_le (length text) n) [ inl k ↦ rw (short k) (sym (and-false (not (malformed e.0 || a)))) | inr k ↦ rw (long k, no_place (piece_at e text) after) (sym (and-false (not (malformed e.0 || a)))) ]
    go ih (zero ∷ s) = go ih s ∙ ap (λ z. not (malformed e.0 || a) && z) (sym (shared_pop s (grown (e ∷ es) text)))
    go ih (suc l ∷ s) = elim (lt_or_le (length text) n) [
      | inl k ↦ rw (short k, fills_over bytes es (children_of e.0 e.1 ∷ l ∷ s) (sum + n) (omega arith)) (and-false (stands e.0 (suc (length s))) ∙ sym (and-false (not (malformed e.0 || a))))
      | inr k ↦ rw (long k, ih (children_of e.0 e.1 ∷ l ∷ s) (sum + n) (drop n text) (omega (arith, length-drop n text))) (shared_more e text l s a after)
    ]

-- ── The law ─────────────────────────────────────────────────────────────────────────────────────────────────

pub spelled_grown : (b : Batch) → spelled b ≡ bind (grown (zip b.kinds b.measures) b.text) (λ ts. cond (unspelled b ts) none (some ts))
unfolding spelled grown bind
spelled_grown b = go (pieces (zip b.kinds b.measures) b.text)
  where
    judged : List (Tree ℕ) → Option (List (Tree ℕ))
    judged ts = cond (unspelled b ts) none (some ts)

    go : (o : Option (List Piece)) → bind o (λ ps. bind (grow ps) judged) ≡ bind (bind o (λ ps. grow ps)) judged
    go none = refl
    go (some ps) = refl

pub kinds_zip : (ks ms : List ℕ) → length ks ≡ length ms → kinds_of (zip ks ms) ≡ ks
unfolding zip
kinds_zip [] ms h = refl
kinds_zip (k ∷ ks) [] h = absurd (omega arith)
kinds_zip (k ∷ ks) (m ∷ ms) h = ap (λ l. k ∷ l) (kinds_zip ks ms (omega arith))

-- trees that stand as roots
roots : (ts : List (Tree ℕ)) → all_standing 1 ts ≡ not (any starts_with_token ts || any (λ t. ltb 64 (deepest t)) ts)
unfolding all_standing standing any
roots [] = refl
roots (t ∷ ts) = rw (roots ts, low) (go (ltb 64 (deepest t)) (starts_with_token t) (any starts_with_token ts) (any (λ t. ltb 64 (deepest t)) ts))
  where
    low : leb (1 + deepest t) 65 ≡ not (ltb 64 (deepest t))
    low = elim (lt_or_le 64 (deepest t)) [ inl h ↦ rw (lt-ltb 64 (deepest t) h) (lt-leb (1 + deepest t) 65 (omega arith)) | inr h ↦ rw (le-ltb 64 (deepest t) h) (le-leb (1 + deepest t) 65 (omega arith)) ]

    go : (d s S D : Bool) → ((not d && (not s || false)) && not (S || D)) ≡ not ((s || S) || (d || D))
    go true true S D = refl
    go true false true D = refl
    go true false false D = refl
    go false true S D = refl
    go false false S D = refl

-- all trees as the children of the last place of a stack
all_shared : (n : ℕ) (ts : List (Tree ℕ)) → shared (n ∷ []) ts ≡ (eqb (length ts) n && all_standing 1 ts)
unfolding shared all_standing
all_shared zero [] = refl
all_shared zero (t ∷ ts) = rw (leb-zero (suc (length ts)), eqb-suc-zero (length ts))
all_shared (suc n) [] = rw (leb-suc-zero n, eqb-zero-suc n)
all_shared (suc n) (t ∷ ts) = rw (leb-suc-suc n (length ts), eqb-suc-suc (length ts) n) (go (leb n (length ts)) (standing 1 t) (all_standing 1 (take n ts)) (shared [] (drop n ts)) (eqb (length ts) n) (all_standing 1 ts) (all_shared n ts))
  where
    go : (l t a s e b : Bool) → (l && (a && s)) ≡ (e && b) → (l && ((t && a) && s)) ≡ (e && (t && b))
    go l true a s e b h = h
    go l false a s e b h = and-false l ∙ sym (and-false e)

-- THE LAW: line 5 accepts a batch just if it spells trees
pub accepts_spelled : (b : Batch) → length b.kinds ≡ length b.measures → accepts b.trees (length b.text) (zip b.kinds b.measures) ≡ is_some (spelled b)
unfolding accepts shared_by bind is_some unspelled
accepts_spelled b h =
    fills_shared (length b.text) es (b.trees ∷ []) 0 b.text (omega arith) ∙ (ap (λ z. not (any malformed z) && shared_by (b.trees ∷ []) (grown es b.text)) (kinds_zip b.kinds b.measures h) ∙ (go (grown es b.text) ∙ ap is_some (sym (spelled_grown b))))
  where
    es : List (ℕ × ℕ)
    es = zip b.kinds b.measures

    judged : {A : Type 0} (f e x y : Bool) (a : A) → (not f && (e && not (x || y))) ≡ is_some (cond (((f || not e) || x) || y) none (some a))
    judged true e x y a = refl
    judged false true true y a = refl
    judged false true false true a = refl
    judged false true false false a = refl
    judged false false x y a = refl

    go : (o : Option (List (Tree ℕ))) → (not (any malformed b.kinds) && shared_by (b.trees ∷ []) o) ≡ is_some (bind o (λ ts. cond (unspelled b ts) none (some ts)))
    go none = and-false (not (any malformed b.kinds))
    go (some ts) = rw (all_shared b.trees ts, roots ts) (judged (any malformed b.kinds) (eqb (length ts) b.trees) (any starts_with_token ts) (any (λ t. ltb 64 (deepest t)) ts) ts)
