-- The account of each change (document 02, Notes 5 and 9): what is said of a batch's changes, and what the account program prints.
-- Assumes nothing.
use mathlib.Core.List.{List, [], ◌∷◌, ◌++◌, map, flat_map}
use Rattle.std.proofs.Math.Option.{Option, none, some}
use Rattle.std.specs.Prelude.{ℕ, length, take, get_or, ltb}
use Rattle.definition.specs.Basics.{Answer, refused, gives, ◌>>=◌, refuse, numbered}
use Rattle.definition.specs.Choices.{Choices, chosen}
use Rattle.definition.specs.Refusals.{Accepted, accepted}
use Rattle.definition.specs.Planning.{Fate, own, dependent, discarded, Planned, Judgement, overlaps, fated}
use Rattle.definition.specs.Finishing.{result, fitting}
use Rattle.definition.specs.Withdrawing.{numbers_left}
use Rattle.definition.specs.Answers.{withdrawing, judge_changes, rewrite_changes, ran, with_choices}
use Rattle.definition.specs.Printed.{decimal, line, program_room}

-- ── What is said ────────────────────────────────────────────────────────────────────────────────────────────

-- what is said of a change: what becomes of it; or that it is withdrawn under change k
pub data Said : Type 0 where
  planned : Fate → Said
  withdrawn : ℕ → Said

-- "numbers count withdrawn changes too": a fate that names a place of what is left, by its number; what is left has the numbers ns
unfoldable pub renumbered : List ℕ → Fate → Fate
renumbered ns own = own
renumbered ns (dependent k) = dependent (get_or ns k 0)
renumbered ns (discarded k) = discarded (get_or ns k 0)

-- "for every change recorded", in sorted order: of those withdrawn that they are, of the others their fates
unfoldable pub sayings : List (Option ℕ) → List Fate → List Said
sayings [] fs = []
sayings (some k ∷ ws) fs = withdrawn k ∷ sayings ws fs
sayings (none ∷ ws) [] = []
sayings (none ∷ ws) (f ∷ fs) = planned f ∷ sayings ws fs

-- what is said of changes of which these are withdrawn, and the others, which are left, have these fates
unfoldable pub account_of : List (Option ℕ) → List Fate → List Said
account_of ws fs = sayings ws (map (renumbered (numbers_left ws)) fs)

-- ── In words ────────────────────────────────────────────────────────────────────────────────────────────────

-- a number, then the rest of its line: a word, and numbers
unfoldable pub after : ℕ → List ℕ → List ℕ
after n rest = decimal n ++ rest

-- "its number, then `own`, `dependent k` or `discarded k`"
unfoldable pub fate_line : ℕ × Fate → List ℕ
fate_line (n, own) = after n (line " own" [])
fate_line (n, dependent k) = after n (line " dependent" (k ∷ []))
fate_line (n, discarded k) = after n (line " discarded" (k ∷ []))

-- "the account of Note 5 says `withdrawn k`"
unfoldable pub said_line : ℕ × Said → List ℕ
said_line (n, planned f) = fate_line (n, f)
said_line (n, withdrawn k) = after n (line " withdrawn" (k ∷ []))

-- "one line a change, in that order": in sorted order, "from 0"
unfoldable pub said_lines : List Said → List ℕ
said_lines ss = flat_map said_line (numbered 0 ss)

-- "After 8 it prints only `overlap j k`, the overlapping pair whose later change k comes first."
unfoldable pub overlap_line : ℕ → ℕ → List ℕ
overlap_line j k = line "overlap" (j ∷ k ∷ [])

-- ── The account ─────────────────────────────────────────────────────────────────────────────────────────────

-- of changes of which these are withdrawn and the others judged: it "judges its input as the edit program does", so 9 to 12 are refused, and by 13 a result that the
-- edit program's buffer cannot hold
unfoldable pub said : Accepted → List (Option ℕ) → Judgement → Answer (List ℕ)
said a ws (overlaps j k) = let ns = numbers_left ws in gives (overlap_line (get_or ns j 0) (get_or ns k 0))
said a ws (fated ps) = do
  p ← rewrite_changes a ps
  w ← ran a p
  _ ← fitting program_room (result p.changes p.climbs w)
  gives (said_lines (account_of ws (map (λ q. q.fate) ps)))

-- THE ACCOUNT of a batch's changes, or its refusal other than 8
unfoldable pub account : Choices → List ℕ → Answer (List ℕ)
account h bytes = do
  a ← accepted bytes
  said a (withdrawing h a) (judge_changes h a)

-- 13: "The result buffer is too short."
unfoldable pub in_room : ℕ → List ℕ → Answer (List ℕ)
in_room room text = do
  _ ← refuse 13 (ltb room (length text))
  gives text

-- the account as a public call gives it, in a buffer of `room` bytes
unfoldable pub accounted : Choices → List (ℕ × ℕ) → List ℕ → ℕ → Answer (List ℕ)
accounted h work bytes room = with_choices h work (do
  text ← account h bytes
  in_room room text)

-- ── Printed ─────────────────────────────────────────────────────────────────────────────────────────────────

-- "After a refusal other than 8 it prints that number alone."
unfoldable pub tell : Answer (List ℕ) → List ℕ
tell (refused k) = after k (line "" [])
tell (gives text) = text

-- what the account program prints for an input
unfoldable pub account_printed : Choices → List ℕ → List ℕ
account_printed h input = tell (do
  _ ← chosen h
  account h (take program_room input))
