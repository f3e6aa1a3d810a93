-- Lines 2, 3 and 4: each answer, from the tests that led there.
-- Assumes nothing.
use mathlib.Core.Bool.{Bool, true, false, not}
use mathlib.Core.List.{List}
use mathlib.Core.Path.{◌≡◌, refl, sym, ap, ◌∙◌}
use Prim.Native.Nat.{ℕ, ◌+◌, ◌≤◌, ◌<◌}
use native.Mathlib.Omega.{arith}
use lib.ListN.{length, drop}
use lib.Dec.{eqb}
use mir.Syntax.{w64}
use mir.Val.{Fits}
use borrow.Author.Tests.{lt-ltb, le-ltb, eq-eqb, ne_eqb, not-true, not-false}
use Rattle.definition.specs.Basics.{gives, ◌>>=◌, refuse}
use Rattle.definition.specs.Batch.{sizes, beyond, whole, arrays, batch}
use Rattle.definition.specs.Words.{word}
use Rattle.definition_laws.specs.Accepted.{Limited, limited}
use Rattle.std.specs.Prelude.{Result, Ok, Err}
use Rattle.refusals.specs.Numbers.{number, answered}
use Rattle.refusals.specs.declared.Refusal.{Refusal}
use Rattle.refusals.specs.declared.Refusal.TheVariants.{ShortBatch, Size, Length}
use Rattle.read_layout.specs.Layout.{sizes_of, layout_of, ends_at, laid}
use Rattle.read_layout.specs.declared.Sizes.{Sizes}
use Rattle.read_layout.specs.declared.Layout.{Layout}

-- ── The sizes ───────────────────────────────────────────────────────────────────────────────────────────────

pub sizes_read : (b : List ℕ) (t e x c l m a : ℕ) → t ≡ word (drop 0 b) → e ≡ word (drop 4 b) → x ≡ word (drop 8 b) → c ≡ word (drop 12 b) → l ≡ word (drop 16 b) → m ≡ word (drop 20 b) → a ≡ word (drop 24 b)
    → sizes_of (record { trees = t; elements = e; text = x; calls = c; listed = l; mappings = m; notes = a }) ≡ sizes b
unfolding sizes
sizes_read b t e x c l m a p q r s u v w = rw (p, q, r, s, u, v, w)

-- ── The limits ──────────────────────────────────────────────────────────────────────────────────────────────

module _ (s : Sizes) where
  pub limits : (t : Bool) → t ≡ not (beyond (sizes_of s)) → t ≡ true → Limited (sizes_of s)
  limits t e h = limited (sizes_of s) (not-true (beyond (sizes_of s)) (sym e ∙ h))

-- ── The layout ──────────────────────────────────────────────────────────────────────────────────────────────

module _ (n : ℕ) (s : Sizes) (l : Layout) (e : l ≡ layout_of (sizes_of s)) where
  -- the text ends the batch
  pub text_ends : l.text + s.text ≡ whole (sizes_of s)
  unfolding layout_of whole
  text_ends = ap (λ (k : Layout). k.text + s.text) e ∙ omega arith

  pub text_fits : Limited (sizes_of s) → Fits w64 (l.text + s.text)
  unfolding whole
  text_fits h = record { fits = omega (arith, text_ends) }

  pub ends : n ≡ l.text + s.text → answered (Ok l) ≡ ends_at n (sizes_of s)
  unfolding answered number ends_at ◌>>=◌ refuse
  ends h = rw (eq-eqb n (whole (sizes_of s)) (h ∙ text_ends)) (ap gives e)

  pub ends_elsewhere : (n ≡ l.text + s.text → ⊥) → answered (Err Length) ≡ ends_at n (sizes_of s)
  unfolding answered number ends_at ◌>>=◌ refuse
  ends_elsewhere h = rw (ne_eqb n (whole (sizes_of s)) (λ z. h (z ∙ sym text_ends)))

pub too_short : (b : List ℕ) → length b < 28 → answered (Err ShortBatch) ≡ laid b
unfolding answered number laid batch ◌>>=◌ refuse
too_short b h = rw (lt-ltb (length b) 28 h)

module _ (b : List ℕ) (s : Sizes) (t : Bool) (h : 28 ≤ length b) (e : sizes_of s ≡ sizes b) (f : t ≡ not (beyond (sizes_of s))) where
  pub out_of_limits : t ≡ false → answered (Err Size) ≡ laid b
  unfolding answered number laid batch ◌>>=◌ refuse
  out_of_limits q = rw (le-ltb (length b) 28 h, ← e, not-false (beyond (sizes_of s)) (sym f ∙ q))

  pub in_limits : (r : Result Layout Refusal) → t ≡ true → answered r ≡ ends_at (length b) (sizes_of s) → answered r ≡ laid b
  unfolding laid batch ends_at ◌>>=◌ refuse
  in_limits r q g = g ∙ rw (le-ltb (length b) 28 h, ← e, not-true (beyond (sizes_of s)) (sym f ∙ q)) (go (not (eqb (length b) (whole (sizes_of s)))))
    where
      go : (w : Bool) → (refuse 4 w >>= (λ _. gives (layout_of (sizes_of s)))) ≡ ((refuse 4 w >>= (λ _. gives (arrays (sizes_of s) b))) >>= (λ _. gives (layout_of (sizes_of s))))
      go true = refl
      go false = refl
