-- Calls, from the tests that led there.
-- Assumes nothing.
use mathlib.Core.Path.{◌≡◌}
use Prim.Native.Nat.{ℕ, ◌≤◌, ◌<◌}
use lib.ListN.{get_or}
use borrow.Author.Tests.{lt-ltb, le-ltb}
use Rattle.load_laws.specs.Load.{next, drawn, first_calls, call_at}
use Rattle.load_laws.specs.Draws.{none}
use Rattle.load_laws.proofs.Calls.{drawn_low}
use Rattle.load_draws.specs.declared.DrawnCall.{DrawnCall}
use Rattle.load_draws.specs.Called.{Called}
use Rattle.load_lists.specs.Numbered.{numbered}

-- ── Calls ───────────────────────────────────────────────────────────────────────────────────────────────────

pub draw_low : (s d : ℕ) → d ≡ drawn s → d < 65536
draw_low s d e = rw e (drawn_low s)

module _ (r : DrawnCall) (i s d : ℕ) (e : d ≡ drawn s) where
  pub numbered_first : Called r (get_or (first_calls d) i none) → i < 3 → Called r (numbered i s)
  unfolding numbered
  numbered_first h k = rw (lt-ltb i 3 k, ← e) h

  pub numbered_later : (n p : ℕ) → n ≡ next s → p ≡ drawn n → Called r (call_at i d p) → 3 ≤ i → Called r (numbered i s)
  unfolding numbered
  numbered_later n p f g h k = rw (le-ltb i 3 k, ← f, ← g, ← e) h
