-- What each way out and each turn of the loop has written.
-- Assumes nothing.
use Rattle.std.specs.Prelude.{Result, Ok, Err}
use mathlib.Core.Path.{◌≡◌, refl, sym, ap, ◌∙◌}
use mathlib.Core.List.{List, [], ◌∷◌, ◌++◌, flat_map, append-nil, append_assoc}
use Prim.Native.Nat.{ℕ, suc, ◌+◌, ◌-◌, ◌*◌, ◌≤◌, ◌<◌}
use native.Mathlib.Nat.{zero-add}
use native.Mathlib.Numerals.{add-one}
use native.Mathlib.Omega.{arith}
use borrow.Author.Tests.{lt-ltb, le-ltb, ne_eqb}
use lib.ListN.{length, get_or, take, drop, length-append, drop_of_length-le}
use lib.Seq.{paste, paste-zero, take-length, drop-cons}
use Rattle.definition.specs.Basics.{refused, refuse, numbered, ◌>>=◌}
use Rattle.definition.specs.Printed.{ascii, digits, decimal, line}
use Rattle.definition.specs.Account.{Said, planned, withdrawn, after, fate_line, said_line, said_lines, overlap_line, in_room, tell}
use Rattle.plan_withdraw.specs.Rule.{number_at}
use Rattle.edit_print.specs.Lines.{Put, put_more, put_front, digits_length, line_of, spaced}
use Rattle.promises.specs.Promises.{left_in}
use Rattle.promises.specs.Serving.{outcome, written, Tells}
use Rattle.promises.specs.declared.Told.{Told}
use Rattle.promises.specs.declared.Told.TheVariants.{Bytes}
use Rattle.refusals.specs.Numbers.{number, answered}
use Rattle.refusals.specs.declared.Refusal.{Refusal}
use Rattle.refusals.specs.declared.Refusal.TheVariants.{ShortResult}
use Rattle.account_lines.specs.Lines.{tell_in, fate_in, said_from, said_rows, line_length, lines_from, lines_cons}

-- ── One line ────────────────────────────────────────────────────────────────────────────────────────────────

-- behind a number there is room for the rest of its line
module _ {d : List ℕ} {at : ℕ} (n : ℕ) {l : List ℕ} {to : ℕ} (e : length l ≡ length d) (p : Put d at (digits 10 n) l to) where
  rest_room : (k : ℕ) → at + 10 + k ≤ length d → to + k ≤ length l
  rest_room k h = omega (arith, p.end, digits_length 10 n)

  pub own_room : at + 32 ≤ length d → to + 4 + 11 * 0 + 1 ≤ length l
  own_room h = omega (arith, rest_room 5 (omega arith))

  pub named_room : at + 32 ≤ length d → to + 10 + 11 * 1 + 1 ≤ length l
  named_room h = omega (arith, rest_room 22 (omega arith))

  pub nothing_room : at + 11 ≤ length d → to + 0 + 11 * 0 + 1 ≤ length l
  nothing_room h = omega (arith, rest_room 1 (omega arith))

module _ {d : List ℕ} {at : ℕ} (n fate owner : ℕ) {l : List ℕ} {to : ℕ} {l' : List ℕ} {to' : ℕ} (h : at + 32 ≤ length d) (p : Put d at (digits 10 n) l to) where
  numbered_put : {s : List ℕ} → Put l to s l' to' → Put d at (after n s) l' to'
  unfolding after decimal
  numbered_put q = put_more p q (omega (arith, p.end, digits_length 10 n))

  pub own_put : fate ≡ 0 → Put l to (line_of (32 ∷ 111 ∷ 119 ∷ 110 ∷ []) []) l' to' → Put d at (fate_line (n, fate_in fate owner)) l' to'
  unfolding fate_line fate_in line line_of ascii spaced
  own_put e q = rw e (numbered_put q)

  pub dependent_put : fate ≡ 1 → Put l to (line_of (32 ∷ 100 ∷ 101 ∷ 112 ∷ 101 ∷ 110 ∷ 100 ∷ 101 ∷ 110 ∷ 116 ∷ []) (owner ∷ [])) l' to' → Put d at (fate_line (n, fate_in fate owner)) l' to'
  unfolding fate_line fate_in line line_of ascii spaced
  dependent_put e q = rw e (numbered_put q)

  pub discarded_put : (fate ≡ 0 → ⊥) → (fate ≡ 1 → ⊥) → Put l to (line_of (32 ∷ 100 ∷ 105 ∷ 115 ∷ 99 ∷ 97 ∷ 114 ∷ 100 ∷ 101 ∷ 100 ∷ []) (owner ∷ [])) l' to'
      → Put d at (fate_line (n, fate_in fate owner)) l' to'
  unfolding fate_line fate_in line line_of ascii spaced
  discarded_put z e q = rw (ne_eqb fate 0 z, ne_eqb fate 1 e) (numbered_put q)

-- one that is withdrawn
pub withdrawn_put : {d : List ℕ} {at : ℕ} (n k : ℕ) {l : List ℕ} {to : ℕ} {l' : List ℕ} {to' : ℕ} → at + 32 ≤ length d → Put d at (digits 10 n) l to
    → Put l to (line_of (32 ∷ 119 ∷ 105 ∷ 116 ∷ 104 ∷ 100 ∷ 114 ∷ 97 ∷ 119 ∷ 110 ∷ []) (k ∷ [])) l' to' → Put d at (said_line (n, withdrawn k)) l' to'
unfolding said_line after decimal line line_of ascii spaced
withdrawn_put n k h p q = put_more p q (omega (arith, p.end, digits_length 10 n))

-- ── Line after line ─────────────────────────────────────────────────────────────────────────────────────────

-- l is d with the lines of the first i changes at its front, up to `to`; m of these stay. There is room for the lines of all
pub record Putting (w ps d l : List ℕ) (to m i : ℕ) : Type 0 where
  pub inside : i ≤ length ps
  pub few : m ≤ i
  pub room : 32 * length ps ≤ length d
  pub long : length l ≡ length d
  pub done : List ℕ
  pub put : Put d 0 done l to
  pub short : length done ≤ 32 * i
  pub left : done ++ lines_from i (said_from w ps m (drop i ps)) ≡ said_lines (said_rows w ps)

pub account_start : (w ps d : List ℕ) → 32 * length ps ≤ length d → Putting w ps d d 0 0 0
unfolding said_lines said_rows
account_start w ps d h = record { inside = omega arith; few = omega arith; room = h; long = refl; done = []; put = record { end = refl; is = paste-zero d 0 [] }; short = omega arith; left = refl }

module _ {w ps d l : List ℕ} {to m i : ℕ} (v : Putting w ps d l to m i) where
  end_within : to ≤ 32 * i
  end_within = omega (arith, v.put.end, v.short)

  -- there is room for one line more
  pub line_room : i < length ps → to + 32 ≤ length l
  line_room h = omega (arith, end_within, v.room, v.long)

  -- one line more is put
  more : {m' : ℕ} {l' : List ℕ} {to' : ℕ} (s : Said) → i < length ps → m' ≤ i + 1 → said_from w ps m (drop i ps) ≡ s ∷ said_from w ps m' (drop (suc i) ps) → length l' ≡ length l → Put l to (said_line (i, s)) l' to' → Putting w ps d l' to' m' (i + 1)
  more {m'} s h k e f q = record {
    inside = omega arith;
    few = k;
    room = v.room;
    long = f ∙ v.long;
    done = v.done ++ said_line (i, s);
    put = put_more v.put q (omega (arith, end_within, v.room));
    short = omega (arith, length-append v.done (said_line (i, s)), line_length i s, v.short);
    left =
        rw (add-one i) (append_assoc v.done (said_line (i, s)) (lines_from (suc i) (said_from w ps m' (drop (suc i) ps)))
        ∙ (ap (λ r. v.done ++ r) (sym (ap (lines_from i) e ∙ lines_cons i s (said_from w ps m' (drop (suc i) ps)))) ∙ v.left));
  }

  pub account_stays : {fate owner number : ℕ} {l' : List ℕ} {to' : ℕ} → i < length ps → get_or ps i 0 ≡ 0 → fate ≡ get_or (drop (14 * m) w) 11 0 → owner ≡ get_or (drop (14 * m) w) 12 0 → number ≡ number_at 0 ps owner → length l' ≡ length l
      → Put l to (fate_line (i, fate_in fate number)) l' to' → Putting w ps d l' to' (m + 1) (i + 1)
  unfolding said_from said_line
  account_stays {fate} {owner} {number} h y e g n f q = more (planned (fate_in fate number)) h (omega (arith, v.few)) (rw (drop-cons ps i 0 h, y, e, n, g, add-one m) refl) f q

  pub account_leaves : {k : ℕ} {l' : List ℕ} {to' : ℕ} → i < length ps → (1 ≤ get_or ps i 0) × (k ≡ get_or ps i 0 - 1) → length l' ≡ length l → Put l to (said_line (i, withdrawn k)) l' to' → Putting w ps d l' to' m (i + 1)
  unfolding said_from
  account_leaves {k} h u f q = more (withdrawn k) h (omega (arith, v.few)) (rw (drop-cons ps i 0 h, u.1, ne_eqb (get_or ps i 0) 0 (λ z. omega (arith, u.0, z))) refl) f q

  pub account_done : length ps ≤ i → Put d 0 (said_lines (said_rows w ps)) l to
  unfolding said_from numbered flat_map
  account_done h = rw (← v.left, drop_of_length-le ps h, append-nil) v.put

-- ── The draft handed out ────────────────────────────────────────────────────────────────────────────────────

module _ (draft held : List ℕ) where
  pub draft_13 : length held < length draft → Tells (tell_in (length held) draft) held (Err ShortResult) held
  unfolding in_room refuse outcome written left_in answered number ◌>>=◌
  draft_13 s = rw (lt-ltb (length held) (length draft) s) (record { answer = refl; result = refl })

  pub draft_given : {holds : List ℕ} → length draft ≤ length held → holds ≡ paste held 0 draft (length draft) → Tells (tell_in (length held) draft) held (Ok (Bytes (length draft))) holds
  unfolding in_room refuse outcome written left_in answered number ◌>>=◌
  draft_given s e = rw (le-ltb (length held) (length draft) s) (record { answer = refl; result = e ∙ rw (take-length draft, zero-add (length draft)) refl })

-- what stands at the front of the draft is the text
pub text_handed : {d s l : List ℕ} {n : ℕ} {held holds : List ℕ} {r : Result Told Refusal} → Put d 0 s l n → length l ≡ length d → Tells (tell_in (length held) (take n l)) held r holds
    → Tells (tell_in (length held) s) held r holds
text_handed p e t = rw (put_front p e) at t

pub overlap_handed : {d l : List ℕ} {n : ℕ} (j k : ℕ) {held holds : List ℕ} {r : Result Told Refusal} → Put d 0 (line_of (111 ∷ 118 ∷ 101 ∷ 114 ∷ 108 ∷ 97 ∷ 112 ∷ []) (j ∷ k ∷ [])) l n → length l ≡ length d
    → Tells (tell_in (length held) (take n l)) held r holds → Tells (tell_in (length held) (overlap_line j k)) held r holds
unfolding overlap_line line line_of ascii spaced
overlap_handed j k p e t = text_handed p e t

-- ── A refusal ───────────────────────────────────────────────────────────────────────────────────────────────

pub number_put : {d : List ℕ} (k : ℕ) {l : List ℕ} {to : ℕ} {l' : List ℕ} {to' : ℕ} → 11 ≤ length d → Put d 0 (digits 10 k) l to → Put l to (line_of [] []) l' to' → Put d 0 (tell (refused k)) l' to'
unfolding tell after decimal line line_of ascii flat_map
number_put k h p q = put_more p q (omega (arith, p.end, digits_length 10 k))
