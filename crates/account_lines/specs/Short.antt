-- The account of a batch is short: its room need never be missing.
-- Assumes nothing.
use Rattle.std.specs.Prelude.{◌≡◌, refl, Bool, true, false, cond, ℕ, suc, ◌≤◌, leb, length, take, drop}
use Rattle.std.proofs.Common.{ap, arith, le-ltb}
use mathlib.Core.List.{List, [], ◌∷◌, map, zip}
use Rattle.std.proofs.Math.Option
use Rattle.std.proofs.Math.Option.{none, some}
use Rattle.orders.specs.ListLaws.{some_inj, none_some, map_some}
use Rattle.definition.specs.Basics.{gives, ◌>>=◌, refuse}
use Rattle.definition.specs.Choices.{Choices}
use Rattle.definition.specs.Refusals.{Call, call_of, count_of, calls, Accepted, accepted}
use Rattle.definition.specs.Planning.{Fate, Judgement, overlaps, fated}
use Rattle.definition.specs.Withdrawing.{numbers_left}
use Rattle.definition.specs.Finishing.{result, fitting}
use Rattle.definition.specs.Answers.{withdrawing, judge_changes, rewrite_changes, ran}
use Rattle.definition.specs.Printed.{ascii, line, program_room}
use Rattle.definition.specs.Account.{renumbered, account_of, overlap_line, said, account, in_room}
use Rattle.definition_laws.specs.Answers.{given, gives_inj}
use Rattle.definition_laws.specs.Accepted.{Known, accepts}
use Rattle.definition_laws.specs.Plans.{checked, sorted_count}
use Rattle.withdraw_laws.proofs.Choice.{withdrawing_length}
use Rattle.edit_print.specs.Lines.{line_of, line_of_length, spaced}
use Rattle.account_lines.specs.Lines.{lines_length, sayings_length}

-- the most bytes that an account has: 256 lines of 32
abbrev pub most_text : ℕ
most_text = 8192

-- as many calls as call words
calls_many : (ws : List (ℕ × ℕ)) (l : List ℕ) (cs : List Call) → calls ws l ≡ some cs → length cs ≡ length ws
unfolding calls
calls_many [] [] cs e = rw (← some_inj e) refl
calls_many [] (x ∷ l) cs e = none_some e
calls_many (w ∷ ws) l cs e = go (leb (count_of w.0) (length l)) e (calls_many ws (drop (count_of w.0) l))
  where
    go : (b : Bool) → cond b (Option.map (λ r. call_of w.0 w.1 (take (count_of w.0) l) ∷ r) (calls ws (drop (count_of w.0) l))) none ≡ some cs
        → ((ds : List Call) → calls ws (drop (count_of w.0) l) ≡ some ds → length ds ≡ length ws) → length cs ≡ suc (length ws)
    go false q h = none_some q
    go true q h =
        let (ds, a, b) = map_some _ (calls ws (drop (count_of w.0) l)) q in
        rw (← b) (ap suc (h ds a))

zip_most : {A B : Type 0} (l : List A) (m : List B) → length (zip l m) ≤ length l
unfolding zip
zip_most [] m = omega arith
zip_most (x ∷ l) [] = omega arith
zip_most (x ∷ l) (y ∷ m) = omega (arith, zip_most l m)

few_calls : (b : List ℕ) (a : Accepted) → Known b a → length a.calls ≤ 256
few_calls b a k =
    let r = k.arrays in
    omega (arith, calls_many (zip r.calls r.targets) r.listed a.calls k.parted, zip_most r.calls r.targets, k.long.calls, k.limits.calls)

overlap_length : (j k : ℕ) → length (overlap_line j k) ≤ most_text
unfolding overlap_line line line_of ascii spaced
overlap_length j k = omega (arith, line_of_length (111 ∷ 118 ∷ 101 ∷ 114 ∷ 108 ∷ 97 ∷ 112 ∷ []) (j ∷ k ∷ []))

-- An account has at most 8,192 bytes.
pub account_short : (h : Choices) (b text : List ℕ) → account h b ≡ gives text → length text ≤ most_text
unfolding account said account_of
account_short h b text e = given (accepted b) _ e λ a x e. go a (accepts b a x) (judge_changes h a) e
  where
    go : (a : Accepted) → Known b a → (j : Judgement) → said a (withdrawing h a) j ≡ gives text → length text ≤ most_text
    go a k (overlaps i j) e = rw (← gives_inj e) (overlap_length _ _)
    go a k (fated ps) e =
        given (rewrite_changes a ps) _ e λ p y e.
        given (ran a p) _ e λ w y e.
        given (fitting program_room (result p.changes p.climbs w)) _ e λ r y e.
        let ws = withdrawing h a in
        let fs : List Fate = map (λ q. q.fate) ps in
        rw (← gives_inj e)
        (omega (arith, lines_length (account_of ws fs), sayings_length ws (map (renumbered (numbers_left ws)) fs), withdrawing_length h a, sorted_count a (checked b a k), few_calls b a k))

-- With that much room 13 never comes of it.
pub room_enough : (room : ℕ) (text : List ℕ) → most_text ≤ room → length text ≤ most_text → in_room room text ≡ gives text
unfolding in_room refuse ◌>>=◌
room_enough room text h k = rw (le-ltb room (length text) (omega arith))
