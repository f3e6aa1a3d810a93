-- The elements that a change lists, where they stand in the batch.
-- Assumes nothing.
use Rattle.std.specs.Prelude.{◌≡◌, refl, List, ℕ, zero, suc, ◌+◌, ◌-◌, ◌*◌, ◌/◌, ◌≤◌, ◌<◌, length, get_or, take, drop}
use Rattle.std.proofs.Common.{sym, ap, ◌∙◌, arith, drop-cons}
use Rattle.orders.specs.Lists.{All}
use Rattle.definition.specs.Running.{news}
use Rattle.definition_laws.specs.Basics.{All-take, All-drop}
use Rattle.words.specs.Bytes.{take_words, drop_words}
use Rattle.run_prepare.specs.Parts as parts
use Rattle.run_prepare.specs.Parts.{words_in, words_part}
use Rattle.record_changes.specs.ChangeRow.{ChangeRow}
use Rattle.record_rewritten.specs.Stated.{change_by, new_of, change_of, Stated}

-- What goes in by a change is what its row lists.
pub news_new : (n : ℕ) (listed : List ℕ) (r : ChangeRow) → Stated n listed r → news (change_of listed r) ≡ new_of listed r
unfolding change_of change_by news new_of
news_new n listed r S = go r.operation S.counted
  where
    go : (op : ℕ) → r.count ≡ length (news (change_by op r.target r.end (get_or listed r.list 0) (new_of listed r))) → news (change_by op r.target r.end (get_or listed r.list 0) (new_of listed r)) ≡ new_of listed r
    go zero e = refl
    go (suc zero) e = refl
    go (suc (suc zero)) e = let h : r.list < length listed = omega (arith, S.within) in rw (e, drop-cons listed r.list 0 h)
    go (suc (suc (suc zero))) e = rw e
    go (suc (suc (suc (suc zero)))) e = refl
    go (suc (suc (suc (suc (suc op))))) e = refl

-- the bytes of `count` listed elements, from place i on
abbrev pub part_from : List ℕ → ℕ → ℕ → List ℕ
part_from listed i count = take (4 * i + 4 * count - 4 * i) (drop (4 * i) listed)

module _ (listed : List ℕ) (i count : ℕ) (h : 4 * i + 4 * count ≤ length listed) where
  pub part_long : length (part_from listed i count) ≡ 4 * count
  part_long = parts.part_long listed (4 * i) count (4 * i + 4 * count) refl h

  pub part_many : length (part_from listed i count) / 4 ≡ count
  part_many = parts.part_words listed (4 * i) count (4 * i + 4 * count) refl h

  listed_part : take count (drop i (words_in listed)) ≡ words_in (part_from listed i count)
  listed_part =
      let l : ℕ = length listed / 4 in
      ap (take count) (drop_words i (l - i) l listed (omega arith))
      ∙ (take_words count (l - i - count) (l - i) (drop (4 * i) listed) (omega arith) ∙ sym (words_part listed (4 * i) count (4 * i + 4 * count) refl h))

  pub part_listed : (P : ℕ → Type 0) → All P (words_in listed) → All P (words_in (part_from listed i count))
  part_listed P a = rw listed_part at (All-take P count (drop i (words_in listed)) (All-drop P i (words_in listed) a))

  -- So what goes in by a change that lists them is what these bytes tell.
  pub news_listed : (n : ℕ) (r : ChangeRow) → Stated n (words_in listed) r → i ≡ r.list → count ≡ r.count → news (change_of (words_in listed) r) ≡ words_in (part_from listed i count)
  unfolding new_of
  news_listed n r S e f = news_new n (words_in listed) r S ∙ (rw (← e, ← f) listed_part)
