-- The rows of a tree, from its bytes; how much text the elements have.
-- Assumes nothing.
use Rattle.std.specs.Prelude.{◌≡◌, refl, true, ℕ, zero, suc, ◌+◌, ◌*◌, ◌^◌, ◌≤◌, ◌<◌, eqb, take}
use Rattle.std.proofs.Common.{sym, ◌∙◌, drop-drop, eqb-true}
use Rattle.std.proofs.Math.Path.{ap}
use mathlib.Core.List.{List, [], ◌∷◌}
use native.Mathlib.Omega.{arith}
use Rattle.std.proofs.Math.ListN.{length, drop, length-drop}
use Rattle.std.proofs.Math.Seq.{paste, paste-zero}
use Rattle.std.proofs.lemmas.List.Edits.{length-paste}
use Rattle.orders.specs.ListLaws.{bool_absurd, both_true}
use Rattle.definition.specs.Words.{word}
use Rattle.words.specs.Parts.{paste_on}
use Rattle.read_spelling.specs.Spelling.{elements_at, children_of, length_of, stands, settled, none_open, opened, fills, accepts}
use Rattle.read_spelling.specs.Stack.{elements_from, elements_all, elements_more}
use Rattle.read_element_table.specs.Filling.{rows_from}
use Rattle.read_element_table.specs.FillingLaws.{length_rows}

-- the length of the text of elements
unfoldable pub text_sum : List (ℕ × ℕ) → ℕ
text_sum [] = 0
text_sum (e ∷ es) = length_of e.0 e.1 + text_sum es

-- line 5 has counted it
fills_sum : (bytes : ℕ) (es : List (ℕ × ℕ)) (s : List ℕ) (sum : ℕ) → fills bytes s sum es ≡ true → sum + text_sum es ≡ bytes
unfolding fills text_sum
fills_sum bytes [] s sum e = omega (arith, eqb-true sum bytes (both_true (none_open (settled s)) (eqb sum bytes) e).1)
fills_sum bytes (x ∷ es) s sum e = go (settled s) e (λ t n e. fills_sum bytes es t n e)
  where
    go : (s : List ℕ) → opened s sum x (λ t n. fills bytes t n es) ≡ true → ((t : List ℕ) (n : ℕ) → fills bytes t n es ≡ true → n + text_sum es ≡ bytes) → sum + (length_of x.0 x.1 + text_sum es) ≡ bytes
    go [] e r = bool_absurd e refl
    go (zero ∷ s) e r = bool_absurd e refl
    go (suc l ∷ s) e r = omega (arith, r (children_of x.0 x.1 ∷ l ∷ s) (sum + length_of x.0 x.1) (both_true (stands x.0 (suc (length s))) (fills bytes (children_of x.0 x.1 ∷ l ∷ s) (sum + length_of x.0 x.1) es) e).1)

pub accepts_sum : (trees bytes : ℕ) (es : List (ℕ × ℕ)) → accepts trees bytes es ≡ true → text_sum es ≡ bytes
unfolding accepts
accepts_sum trees bytes es e = omega (arith, fills_sum bytes es (trees ∷ []) 0 e)

-- ── The loop ────────────────────────────────────────────────────────────────────────────────────────────────

-- the rows of the first i elements are written
pub record Filling (tree : List ℕ) (kinds measures n : ℕ) (rows₀ rows : List ℕ) (offset i : ℕ) : Type 0 where
  pub bound : i ≤ n
  pub long : 3 * n ≤ length rows₀
  pub same : length rows ≡ length rows₀
  pub words : rows ≡ paste rows₀ 0 (rows_from 0 (elements_at tree kinds measures n)) (3 * i)
  pub rest : drop (3 * i) (rows_from 0 (elements_at tree kinds measures n)) ≡ rows_from offset (elements_from tree kinds measures n i)
  pub sum : offset + text_sum (elements_from tree kinds measures n i) ≤ 16384

pub filling_start : (tree : List ℕ) (kinds measures n : ℕ) (rows : List ℕ) → 3 * n ≤ length rows → text_sum (elements_at tree kinds measures n) ≤ 16384 → Filling tree kinds measures n rows rows 0 0
filling_start tree kinds measures n rows l s =
    let all = elements_all tree kinds measures n in
    record { bound = omega arith; long = l; same = refl; words = paste-zero rows 0 (rows_from 0 (elements_at tree kinds measures n)); rest = ap (rows_from 0) (sym all); sum = omega (arith, ap text_sum all) }

module _ {tree : List ℕ} {kinds measures n : ℕ} {rows₀ rows : List ℕ} {offset i : ℕ} (v : Filling tree kinds measures n rows₀ rows offset i) where
  -- there is room for three words more
  pub filling_room : i < n → 3 * i + 3 ≤ length rows
  filling_room h = omega (arith, v.long, v.same)

  -- the offset is a word
  pub filling_small : offset < 2 ^ 32
  filling_small = omega (arith, v.sum)

  pub filling_next : {kind measure len : ℕ} {rows' : List ℕ} → i < n → (kind ≡ word (drop (kinds + 4 * i) tree)) × (kind < 2 ^ 32) → (measure ≡ word (drop (measures + 4 * i) tree)) × (measure < 2 ^ 32)
      → rows' ≡ paste rows (3 * i) (kind ∷ measure ∷ offset ∷ []) 3 → (len ≡ length_of kind measure) × (len ≤ measure) → Filling tree kinds measures n rows₀ rows' (offset + len) (i + 1)
  unfolding rows_from text_sum
  filling_next {kind} {measure} {len} {rows'} h k m w l =
      let s = rows_from 0 (elements_at tree kinds measures n) in
      let more : elements_from tree kinds measures n i ≡ (kind, measure) ∷ elements_from tree kinds measures n (i + 1) = rw (k.0, m.0) (elements_more tree kinds measures n i h) in
      let here : drop (3 * i) s ≡ kind ∷ measure ∷ offset ∷ rows_from (offset + length_of kind measure) (elements_from tree kinds measures n (i + 1)) = v.rest ∙ ap (rows_from offset) more in
      let long : length s ≡ 3 * length (elements_at tree kinds measures n) = length_rows 0 (elements_at tree kinds measures n) in
      let behind : 3 * (i + 1) ≡ 3 * i + 3 = omega arith in
      record {
        bound = omega arith;
        long = v.long;
        same = ap length w ∙ (length-paste rows (3 * i) (kind ∷ measure ∷ offset ∷ []) 3 (omega (arith, v.long, v.same)) (omega arith) ∙ v.same);
        words = w ∙ (ap (λ (r : List ℕ). paste r (3 * i) (kind ∷ measure ∷ offset ∷ []) 3) v.words ∙ paste_on rows₀ 0 s (3 * i) (kind ∷ measure ∷ offset ∷ []) 3 (3 * i) (3 * (i + 1)) (omega arith) (omega arith) (omega (arith, v.long)) (omega (arith, ap length here, length-drop (3 * i) s)) (sym (ap (take 3) here)));
        rest = ap (λ (j : ℕ). drop j s) behind ∙ (sym (drop-drop 3 (3 * i) s) ∙ (ap (drop 3) here ∙ ap (λ (j : ℕ). rows_from (offset + j) (elements_from tree kinds measures n (i + 1))) (sym l.0)));
        sum = omega (arith, v.sum, ap text_sum more, l.0);
      }

  pub filling_done : n ≤ i → rows ≡ paste rows₀ 0 (rows_from 0 (elements_at tree kinds measures n)) (3 * n)
  filling_done h = let e : i ≡ n = omega (arith, v.bound) in v.words ∙ ap (λ (j : ℕ). paste rows₀ 0 (rows_from 0 (elements_at tree kinds measures n)) (3 * j)) e
