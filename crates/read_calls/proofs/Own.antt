-- The elements that a call lists, as a part of those of all calls.
-- Assumes nothing.
use mathlib.Core.Path.{◌≡◌}
use Prim.Native.Nat.{ℕ, ◌+◌, ◌-◌, ◌*◌, ◌≤◌}
use native.Mathlib.Omega.{arith}
use lib.ListN.{take, drop}
use lib.Seq.{drop-drop}
use Rattle.words.specs.Bytes.{take_words, drop_words}
use Rattle.words.specs.List.{words_of}
use Rattle.words.specs.declared.list.WordList.{WordList}

pub own_taken : (l o : WordList) (i n : ℕ) → (o.bytes.now ≡ l.bytes.now) × (o.at ≡ l.at + 4 * i) × (o.count ≡ n) → i + n ≤ l.count → take n (drop i (words_of l)) ≡ words_of o
own_taken l o i n e h =
    let j : ℕ = l.count - (i + n) in
    rw (e.0, e.1, e.2, drop_words i (l.count - i) l.count (drop l.at l.bytes.now) (omega arith), drop-drop (4 * i) l.at l.bytes.now)
    (take_words n j (l.count - i) _ (omega arith))
