-- The account's lines: how long they are, and one more behind others.
-- Assumes nothing.
use Rattle.std.specs.Prelude.{◌≡◌, Bool, eqb, length, get_or, drop}
use Rattle.std.proofs.Math.Path.{refl}
use Rattle.std.proofs.Common.{ap, arith, length-append}
use Rattle.std.proofs.Math.Bool.{true, false, cond}
use mathlib.Core.List.{List, [], ◌∷◌, ◌++◌, map, flat_map}
use Rattle.std.proofs.Math.Option.{Option, none, some}
use Prim.Native.Nat.{ℕ, suc, ◌+◌, ◌-◌, ◌*◌, ◌≤◌}
use Rattle.definition.specs.Basics.{Answer, ◌>>=◌, numbered}
use Rattle.definition_laws.specs.Stages.{numbered_length}
use Rattle.definition.specs.Planning.{Fate, own, dependent, discarded}
use Rattle.definition.specs.Printed.{ascii, digits, decimal, line}
use Rattle.definition.specs.Withdrawing.{staying, numbers_left}
use Rattle.definition.specs.Account.{Said, planned, withdrawn, renumbered, sayings, account_of, after, fate_line, said_line, said_lines, in_room}
use Rattle.record_changes.specs.ChangeRow.{row_of, rows_of}
use Rattle.record_changes.specs.ChangeRowLaws.{row_at, rows_from}
use Rattle.plan_sort.specs.Rows.{row_fate}
use Rattle.plan_withdraw.specs.Rule.{told, number_at}
use Rattle.plan_withdraw.specs.Told.{number_told}
use Rattle.promises.specs.Serving.{tell_bytes}
use Rattle.promises.specs.declared.Told.{Told}
use Rattle.edit_print.specs.Lines.{digits_length, spaced, line_of, line_of_length, texts_length}

-- what is told of a text, and the text, in so much room; or 13
abbrev pub tell_in : ℕ → List ℕ → Answer (Told × List ℕ)
tell_in room text = in_room room text >>= tell_bytes

-- the fate that two words of a row state
unfoldable pub fate_in : ℕ → ℕ → Fate
fate_in fate owner = cond (eqb fate 0) own (cond (eqb fate 1) (dependent owner) (discarded owner))

-- that is the fate of the row
fate_in_lem : (w : List ℕ) (i : ℕ) → row_fate (row_at w i) ≡ fate_in (get_or (drop (14 * i) w) 11 0) (get_or (drop (14 * i) w) 12 0)
unfolding row_fate row_at row_of fate_in
fate_in_lem w i = refl

-- ── What is said ────────────────────────────────────────────────────────────────────────────────────────────

-- the rows w are those of the changes that stay; the words ps tell of each change under which it is withdrawn, index + 1 (0 = it stays)
module _ (w ps : List ℕ) where
  -- the fate of the row at place m, what it names told by its number
  abbrev pub fate_at : ℕ → Fate
  fate_at m = fate_in (get_or (drop (14 * m) w) 11 0) (number_at 0 ps (get_or (drop (14 * m) w) 12 0))

  -- what is said of the last changes, the first of them that stays having its row at place m
  unfoldable pub said_from : ℕ → List ℕ → List Said
  said_from m [] = []
  said_from m (p ∷ rest) = cond (eqb p 0) (planned (fate_at m) ∷ said_from (suc m) rest) (withdrawn (p - 1) ∷ said_from m rest)

  -- of all
  unfoldable pub said_rows : List Said
  said_rows = said_from 0 ps

  abbrev ns : List ℕ
  ns = numbers_left (map told ps)

  fate_numbered : (m : ℕ) → renumbered ns (row_fate (row_at w m)) ≡ fate_at m
  unfolding fate_in renumbered
  fate_numbered m =
      rw (fate_in_lem w m, number_told ps (get_or (drop (14 * m) w) 12 0)) (go (eqb (get_or (drop (14 * m) w) 11 0) 0) (eqb (get_or (drop (14 * m) w) 11 0) 1) (get_or (drop (14 * m) w) 12 0))
    where
      go : (a b : Bool) (k : ℕ) → renumbered ns (cond a own (cond b (dependent k) (discarded k))) ≡ cond a own (cond b (dependent (get_or ns k 0)) (discarded (get_or ns k 0)))
      go true b k = refl
      go false true k = refl
      go false false k = refl

  said_from_lem : (m : ℕ) (rest : List ℕ) → said_from m rest ≡ sayings (map told rest) (map (renumbered ns) (map row_fate (rows_of (length (staying (map told rest) rest)) (drop (14 * m) w))))
  unfolding said_from sayings told staying
  said_from_lem m [] = refl
  said_from_lem m (p ∷ rest) = go (eqb p 0) (said_from_lem (suc m) rest) (said_from_lem m rest)
    where
      us : List ℕ
      us = staying (map told rest) rest

      go : (b : Bool) → said_from (suc m) rest ≡ sayings (map told rest) (map (renumbered ns) (map row_fate (rows_of (length us) (drop (14 * suc m) w))))
          → said_from m rest ≡ sayings (map told rest) (map (renumbered ns) (map row_fate (rows_of (length us) (drop (14 * m) w))))
          → cond b (planned (fate_at m) ∷ said_from (suc m) rest) (withdrawn (p - 1) ∷ said_from m rest)
          ≡ sayings (cond b none (some (p - 1)) ∷ map told rest) (map (renumbered ns) (map row_fate (rows_of (length (staying (cond b none (some (p - 1)) ∷ map told rest) (p ∷ rest))) (drop (14 * m) w))))
      go true e f = rw (rows_from w m (length us), fate_numbered m, e) refl
      go false e f = rw f refl

  -- it is the account of the changes, if there are as many rows as changes that stay
  pub said_rows_lem : (c : ℕ) → c ≡ length (staying (map told ps) ps) → said_rows ≡ account_of (map told ps) (map row_fate (rows_of c w))
  unfolding said_rows account_of
  said_rows_lem c e = rw e (said_from_lem 0 ps)

-- ── Its lines ───────────────────────────────────────────────────────────────────────────────────────────────

-- a line has at most 32 bytes: a number of 10, a space, a word of 9, a space, a number of 10, and its end
rest_length : (n : ℕ) (name ns : List ℕ) → length name + 11 * length ns ≤ 21 → length (after n (line_of name ns)) ≤ 32
unfolding after decimal
rest_length n name ns h = omega (arith, length-append (digits 10 n) (line_of name ns), digits_length 10 n, line_of_length name ns)

pub line_length : (n : ℕ) (s : Said) → length (said_line (n, s)) ≤ 32
unfolding said_line fate_line line line_of ascii spaced
line_length n (planned own) = rest_length n (32 ∷ 111 ∷ 119 ∷ 110 ∷ []) [] (omega arith)
line_length n (planned (dependent k)) = rest_length n (32 ∷ 100 ∷ 101 ∷ 112 ∷ 101 ∷ 110 ∷ 100 ∷ 101 ∷ 110 ∷ 116 ∷ []) (k ∷ []) (omega arith)
line_length n (planned (discarded k)) = rest_length n (32 ∷ 100 ∷ 105 ∷ 115 ∷ 99 ∷ 97 ∷ 114 ∷ 100 ∷ 101 ∷ 100 ∷ []) (k ∷ []) (omega arith)
line_length n (withdrawn k) = rest_length n (32 ∷ 119 ∷ 105 ∷ 116 ∷ 104 ∷ 100 ∷ 114 ∷ 97 ∷ 119 ∷ 110 ∷ []) (k ∷ []) (omega arith)

pub lines_length : (ss : List Said) → length (said_lines ss) ≤ 32 * length ss
unfolding said_lines
lines_length ss = omega (arith, texts_length said_line 32 (λ e. line_length e.0 e.1) (numbered 0 ss), ap (λ (k : ℕ). 32 * k) (numbered_length 0 ss))

-- no more is said than there are changes
pub sayings_length : (ws : List (Option ℕ)) (fs : List Fate) → length (sayings ws fs) ≤ length ws
unfolding sayings
sayings_length [] fs = omega arith
sayings_length (some k ∷ ws) fs = omega (arith, sayings_length ws fs)
sayings_length (none ∷ ws) [] = omega arith
sayings_length (none ∷ ws) (f ∷ fs) = omega (arith, sayings_length ws fs)

-- the lines from number n on
abbrev pub lines_from : ℕ → List Said → List ℕ
lines_from n ss = flat_map said_line (numbered n ss)

pub lines_cons : (n : ℕ) (s : Said) (ss : List Said) → lines_from n (s ∷ ss) ≡ said_line (n, s) ++ lines_from (suc n) ss
unfolding numbered flat_map
lines_cons n s ss = refl
