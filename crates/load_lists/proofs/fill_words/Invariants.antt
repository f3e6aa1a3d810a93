use mathlib.Core.Path.{◌≡◌}
use Prim.Native.Nat.{ℕ, ◌<◌}
use lib.ListN.{length}
use Rattle.load_lists.specs.Turns.{AlongTo}
use Rattle.load_lists.proofs.fill_words.Given as goal

abbrev pub invariant-loop-i : goal.invariant-loop-i
invariant-loop-i g l = (f : ℕ → ℕ) → ((i x : ℕ) → i < length l.initial.words → goal.F-post g l.item i x → x ≡ f i) → AlongTo f l.initial.words l.words l.i
