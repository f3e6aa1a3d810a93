-- The loop of `spells`: its invariant, that it holds at the start and after a turn, and what it says at each way out.
-- Assumes nothing.
use mathlib.Core.Path.{◌≡◌, refl, sym, ap, ◌∙◌}
use mathlib.Core.Bool.{Bool, true, false, ◌&&◌}
use mathlib.Core.List.{List, [], ◌∷◌}
use Prim.Native.Nat.{ℕ, suc, ◌+◌, ◌-◌, ◌*◌, ◌^◌, ◌≤◌, ◌<◌}
use native.Mathlib.Nat.{add-zero}
use native.Mathlib.Omega.{arith}
use lib.Dec.{eqb}
use lib.ListN.{length, get_or, set, drop, replicate, length-set}
use Rattle.definition.specs.Words.{word}
use Rattle.read_spelling.specs.Spelling.{elements_at, children_of, length_of, stands, fills, accepts}
use Rattle.read_spelling.specs.SpellingLaws.{children_token, children_node, length_token, length_node, fills_close, stands_shallow, fills_open, fills_short, fills_long, fills_end}
use Rattle.read_spelling.specs.Stack.{stack, stack_none, length_stack, stack_top, stack_put, stack_push, elements_from, elements_all, elements_none, elements_more}

module _ (b : List ℕ) (kinds measures n trees bytes : ℕ) where
  -- after i elements the machine has this stack and this sum
  pub record Reading (left : List ℕ) (d sum i : ℕ) : Type 0 where
    pub inside : i ≤ n
    pub long : length left ≡ 65
    pub low : d ≤ 65
    pub small : sum ≤ i * 2 ^ 32
    pub verdict : accepts trees bytes (elements_at b kinds measures n) ≡ fills bytes (stack 0 left d) sum (elements_from b kinds measures n i)

  pub reading_start : Reading (set (replicate 65 0) 0 trees) 1 0 0
  unfolding accepts stack
  reading_start = record { inside = omega arith; long = refl; low = omega arith; small = omega arith; verdict = ap (fills bytes (trees ∷ []) 0) (sym (elements_all b kinds measures n)) }

module _ {b : List ℕ} {kinds measures n trees bytes : ℕ} {left : List ℕ} {d sum i : ℕ} (v : Reading b kinds measures n trees bytes left d sum i) where
  -- an element to which no child is to come is closed
  pub reading_close : 0 < d → get_or left (d - 1) 0 ≡ 0 → Reading b kinds measures n trees bytes left (d - 1) sum i
  reading_close h e =
      record {
        inside = v.inside;
        long = v.long;
        low = omega (arith, v.low);
        small = v.small;
        verdict = v.verdict ∙ rw (stack_top 0 left d h, e) (fills_close bytes (stack 0 left (d - 1)) sum (elements_from b kinds measures n i));
      }

  -- none is open: the elements must be at their end, and the text as long as it should be
  pub reading_long : d ≤ 0 → i < n → false ≡ accepts trees bytes (elements_at b kinds measures n)
  reading_long h j = sym (v.verdict ∙ rw (stack_none 0 left d h, elements_more b kinds measures n i j) (fills_long bytes sum _ _))

  pub reading_end : d ≤ 0 → n ≤ i → eqb sum bytes ≡ accepts trees bytes (elements_at b kinds measures n)
  reading_end h j = sym (v.verdict ∙ rw (stack_none 0 left d h, elements_none b kinds measures n i j) (fills_end bytes sum))

  module _ (h : 0 < d) (ne : get_or left (d - 1) 0 ≡ 0 → ⊥) where
    top : stack 0 left d ≡ suc (get_or left (d - 1) 0 - 1) ∷ stack 0 left (d - 1)
    top = stack_top 0 left d h ∙ ap (λ x. x ∷ stack 0 left (d - 1)) (omega arith)

    -- a child is to come, and no element is left
    pub reading_short : n ≤ i → false ≡ accepts trees bytes (elements_at b kinds measures n)
    reading_short j = sym (v.verdict ∙ rw (top, elements_none b kinds measures n i j) (fills_short bytes _ _ sum))

    module _ (j : i < n) {k m : ℕ} (ek : k ≡ word (drop (kinds + 4 * i) b)) (em : m ≡ word (drop (measures + 4 * i) b)) where
      -- the next element
      turn : accepts trees bytes (elements_at b kinds measures n)
          ≡ (stands k d && fills bytes (children_of k m ∷ (get_or left (d - 1) 0 - 1) ∷ stack 0 left (d - 1)) (sum + length_of k m) (elements_from b kinds measures n (i + 1)))
      turn =
          let e : suc (length (stack 0 left (d - 1))) ≡ d = omega (arith, length_stack 0 left (d - 1)) in
          v.verdict ∙ rw (top, elements_more b kinds measures n i j, ← ek, ← em) (fills_open bytes _ (stack 0 left (d - 1)) sum k m _ d e)

      -- it may not stand there
      pub reading_wrong : {r : Bool} → r ≡ stands k d → r ≡ false → false ≡ accepts trees bytes (elements_at b kinds measures n)
      reading_wrong {r} e q = let w : stands k d ≡ false = sym e ∙ q in sym (turn ∙ rw w)

      module _ {r : Bool} (e : r ≡ stands k d) (q : r ≡ true) where
        deep : d ≤ 64
        deep = let w : stands k d ≡ true = sym e ∙ q in stands_shallow k d w

        taken : accepts trees bytes (elements_at b kinds measures n) ≡ fills bytes (children_of k m ∷ (get_or left (d - 1) 0 - 1) ∷ stack 0 left (d - 1)) (sum + length_of k m) (elements_from b kinds measures n (i + 1))
        taken = let w : stands k d ≡ true = sym e ∙ q in turn ∙ rw w

        -- a token is opened and closed
        pub reading_token : k < 0x8000_0000 → m < 2 ^ 32 → Reading b kinds measures n trees bytes (set left (d - 1) (get_or left (d - 1) 0 - 1)) d (sum + m) (i + 1)
        reading_token t s =
            record {
              inside = omega arith;
              long = simp length-set v.long;
              low = omega (arith, deep);
              small = omega (arith, v.small);
              verdict = taken ∙ rw (children_token k m t, length_token k m t, stack_put 0 left d (get_or left (d - 1) 0 - 1) h (omega (arith, v.long, v.low))) (fills_close bytes _ (sum + m) _);
            }

        -- a node is opened
        pub reading_node : 0x8000_0000 ≤ k → Reading b kinds measures n trees bytes (set (set left (d - 1) (get_or left (d - 1) 0 - 1)) d m) (d + 1) sum (i + 1)
        reading_node t =
            record {
              inside = omega arith;
              long = simp length-set v.long;
              low = omega (arith, deep);
              small = omega (arith, v.small);
              verdict = taken ∙ rw (children_node k m t, length_node k m t, add-zero sum, stack_push 0 left d (get_or left (d - 1) 0 - 1) m h (omega (arith, v.long, deep)));
            }
