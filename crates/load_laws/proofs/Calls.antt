-- Every call of every load is as lines 6 and 16 ask.
-- Assumes nothing.
use Rattle.std.specs.Prelude.{◌≡◌, refl, Bool, true, false, cond, List, [], ◌∷◌, ℕ, zero, suc, ◌+◌, ◌-◌, ◌*◌, ◌/◌, ◌%◌, ◌≤◌, ◌<◌, length, leb, ltb, eqb}
use Rattle.std.proofs.Common.{ap, subst, le-ltb, ltb-false, eq-eqb}
use mathlib.Core.List as List
use native.Mathlib.Omega.{arith}
use Rattle.std.proofs.lemmas.Bool.{lt-leb}
use Rattle.orders.specs.Lists as Lists
use Rattle.orders.specs.Lists.{All}
use Rattle.definition.specs.Basics as Basics
use Rattle.definition.specs.Elements.{root?, node?}
use Rattle.definition.specs.Refusals.{Call, wrong_count, same_parent, wrong_run, misplaced, ruled_start, wrong_call, too_many, lists_too_many}
use Rattle.definition_laws.specs.Basics.{All-append}
use Rattle.definition_laws.specs.Right.{judged, below_E}
use Rattle.load_laws.specs.Load.{next, drawn, separator, block, block_token, donor, replacement, call, rule_drawn, replaced, token_drawn, donor_drawn, other_drawn, first_calls, free_call, own_call, further_editor, call_at, calls_from, calls}
use Rattle.load_laws.proofs.Trees.{T, many, Token, Group, group_told}

-- as line 6 asks, listing at most two elements, by a rule number that its part of the call word holds
pub record Fine (c : Call) : Type 0 where
  pub right : wrong_call T c ≡ false
  pub few : length c.listed ≤ 2
  pub rule : c.rule < 4096

below : (e : ℕ) → e < 792 → leb (length T) e ≡ false
below e h = lt-leb (length T) e (omega (arith, many))

-- ── Each kind of call ───────────────────────────────────────────────────────────────────────────────────────

module _ (r : ℕ) (q : r < 4096) (x : ℕ) (h : x < 792) where
  first_fine : (y : ℕ) → y < 792 → node? T x ≡ true → Fine (call r 0 x (y ∷ []))
  unfolding wrong_call misplaced wrong_count ruled_start Basics.among Lists.any List.head_d
  first_fine y k n = record { right = rw (below x h, below y k, n) refl; few = omega arith; rule = q }

  module _ (z : root? T x ≡ false) where
    after_fine : (y : ℕ) → y < 792 → Fine (call r 1 x (y ∷ []))
    unfolding wrong_call misplaced wrong_count ruled_start Basics.among Lists.any List.head_d
    after_fine y k = record { right = rw (below x h, below y k, z) refl; few = omega arith; rule = q }

    two_fine : (y w : ℕ) → y < 792 → w < 792 → Fine (call r 1 x (y ∷ w ∷ []))
    unfolding wrong_call misplaced wrong_count ruled_start Basics.among Lists.any List.head_d
    two_fine y w k l = record { right = rw (below x h, below y k, below w l, z) refl; few = omega arith; rule = q }

    replace_fine : (y : ℕ) → y < 792 → Fine (call r 2 x (y ∷ []))
    unfolding wrong_call misplaced wrong_count ruled_start Basics.among Lists.any List.head_d
    replace_fine y k = record { right = rw (below x h, below y k, z) refl; few = omega arith; rule = q }

    delete_fine : Fine (call r 3 x [])
    unfolding wrong_call misplaced wrong_count ruled_start Basics.among Lists.any List.head_d
    delete_fine = record { right = rw (below x h, z) refl; few = omega arith; rule = q }

    many_fine : (y w : ℕ) → y < 792 → w < 792 → Fine (call r 4 x (y ∷ w ∷ []))
    unfolding wrong_call misplaced wrong_count ruled_start Basics.among Lists.any List.head_d
    many_fine y w k l = record { right = rw (below x h, below y k, below w l, z) refl; few = omega arith; rule = q }

-- the run from token 0 of a block
run_fine : (r i j y : ℕ) → r < 4096 → Token i 0 → Token i j → block_token i 0 < 792 → block_token i j < 792 → y < 792 → Fine (call r 5 (block_token i 0) (block_token i j ∷ y ∷ []))
unfolding wrong_call misplaced wrong_count wrong_run same_parent ruled_start Basics.among Lists.any List.head_d
run_fine r i j y q s t h k l =
    record {
      right = rw (below (block_token i 0) h, below (block_token i j) k, below y l, s.hangs, s.in_block_lem, t.in_block_lem, s.at, t.at, eq-eqb (block i) (block i) refl, le-ltb j 0 (omega arith)) refl;
      few = omega arith;
      rule = q;
    }

editor_fine : Fine further_editor
unfolding wrong_call misplaced wrong_count ruled_start Basics.among Lists.any List.head_d
editor_fine = record { right = rw (below 0 (omega arith)) refl; few = omega arith; rule = omega arith }

-- ── Each call, from its draws ───────────────────────────────────────────────────────────────────────────────

-- a draw has 16 bits
pub drawn_low : (s : ℕ) → drawn s < 65536
unfolding drawn next
drawn_low s = let h : (1664525 * s + 1013904223) % 4294967296 < 4294967296 = omega arith in omega arith

rule_low : (d : ℕ) → d < 65536 → rule_drawn d < 4096
unfolding rule_drawn
rule_low d h = omega arith

pub replaced_low : (d : ℕ) → replaced d < 64
unfolding replaced
replaced_low d = omega arith

pub token_few : (p : ℕ) → token_drawn p < 4
unfolding token_drawn
token_few p = omega arith

donor_low : (d : ℕ) → d < 16 → donor d < 792
unfolding donor
donor_low d h = omega arith

donors_low : (p : ℕ) → p < 65536 → (donor_drawn p < 792) × (other_drawn p < 792)
unfolding donor_drawn other_drawn
donors_low p h = (donor_low (p / 256 % 16) (omega arith), donor_low (p / 4096) (omega arith))

module _ (i : ℕ) (l : i < 128) where
  token_low : (j : ℕ) → j < 4 → block_token i j < 792
  unfolding block_token
  token_low j h = omega arith

  pub block_low : block i < 792
  unfolding block
  block_low = omega arith

  separator_low : separator i < 792
  unfolding separator
  separator_low = omega arith

-- by a test
pub by : (P : Call → Type 0) (b : Bool) (c d : Call) → (b ≡ true → P c) → (b ≡ false → P d) → P (cond b c d)
by P true c d f g = f refl
by P false c d f g = g refl

module _ (b : ℕ) (l : b < 128) (w p : ℕ) (h : w < 65536) (k : p < 65536) where
  abbrev here : Group b
  here = group_told b l

  abbrev token : Token b (token_drawn p)
  token = here.tokens (token_drawn p) (token_few p)

  abbrev low : block_token b (token_drawn p) < 792
  low = token_low b l (token_drawn p) (token_few p)

  free_fine : (later : Bool) → Fine (free_call later b w p)
  unfolding free_call
  free_fine later =
      let r = rule_drawn w in
      let q = rule_low w h in
      let (x, y) = donors_low p k in
      by Fine (eqb (w % 8) 0) _ _ (λ e. first_fine r q (block b) (block_low b l) (donor_drawn p) x here.node) λ e.
      by Fine (ltb (w % 8) 3) _ _ (λ e. after_fine r q (block_token b (token_drawn p)) low token.hangs (donor_drawn p) x) λ e.
      by Fine (eqb (w % 8) 3) _ _ (λ e. two_fine r q (separator b) (separator_low b l) here.separator_hangs (donor_drawn p) (other_drawn p) x y) λ e.
      by Fine (ltb (w % 8) 6) _ _ (λ e. replace_fine r q (block_token b (token_drawn p)) low token.hangs (donor_drawn p) x) λ e.
      by Fine (eqb (w % 8) 6) _ _ (λ e. delete_fine r q (block_token b (token_drawn p)) low token.hangs) λ e.
      by Fine later _ _ (λ e. delete_fine r q (block b) (block_low b l) here.block_hangs) λ e.
      after_fine r q (separator b) (separator_low b l) here.separator_hangs (donor_drawn p) x

  own_fine : Fine (own_call b w p)
  unfolding own_call
  own_fine =
      let r = rule_drawn w in
      let q = rule_low w h in
      let (x, y) = donors_low p k in
      by Fine (eqb (w % 2) 0) _ _ (λ e. many_fine r q (block_token b (token_drawn p)) low token.hangs (donor_drawn p) (other_drawn p) x y) λ e.
      run_fine r b (token_drawn p) (donor_drawn p) q (here.tokens 0 (omega arith)) token (token_low b l 0 (omega arith)) low x

-- every further call
pub call_fine : (i w p : ℕ) → i < 96 → w < 65536 → p < 65536 → Fine (call_at i w p)
unfolding call_at
call_fine i w p h k l =
    by Fine (ltb i 32) _ _ (λ e. free_fine (p % 64) (omega arith) w p k l false) λ e.
    by Fine (eqb i 32) _ _ (λ e. editor_fine) λ e.
    by Fine (ltb i 64) _ _ (λ e. free_fine (64 + p % 32) (omega arith) w p k l true) λ e.
    own_fine (i + 32) (omega arith) w p k l

-- calls 0, 1 and 2
first_three : (d : ℕ) → d < 65536 → All Fine (first_calls d)
unfolding first_calls
first_three d h =
    let r = rule_drawn d in
    let q = rule_low d h in
    let x : replaced d < 128 = omega (arith, replaced_low d) in
    let y : d / 1024 < 128 = omega arith in
    let j : d / 64 % 4 < 4 = omega arith in
    let k : d / 256 % 4 < 4 = omega arith in
    let s = (group_told (replaced d) x).tokens (d / 64 % 4) j in
    let t = (group_told (d / 1024) y).tokens (d / 256 % 4) k in (
      replace_fine r q (block (replaced d)) (block_low (replaced d) x) (group_told (replaced d) x).block_hangs replacement (omega arith),
      (
        after_fine r q (block_token (replaced d) (d / 64 % 4)) (token_low (replaced d) x (d / 64 % 4) j) s.hangs (donor 0) (donor_low 0 (omega arith)),
        (
          after_fine r q (block_token (d / 1024) (d / 256 % 4)) (token_low (d / 1024) y (d / 256 % 4) k) t.hangs (donor 1) (donor_low 1 (omega arith)),
          tt,
        ),
      ),
    )

-- what holds of each call from its draws holds of all
pub from_all : (P : Call → Type 0) → ((i w p : ℕ) → i < 96 → w < 65536 → p < 65536 → P (call_at i w p)) → (i n s : ℕ) → i + n ≤ 96 → All P (calls_from i n s)
unfolding calls_from
from_all P f i zero s h = tt
from_all P f i (suc n) s h = (f i (drawn s) (drawn (next s)) (omega arith) (drawn_low s) (drawn_low (next s)), from_all P f (suc i) n (next (next s)) (omega arith))

-- LINES 6 AND 16 let every call pass.
pub calls_fine : (s : ℕ) → All Fine (calls s)
unfolding calls
calls_fine s = All-append Fine (first_calls (drawn s)) _ (first_three (drawn s) (drawn_low s)) (from_all Fine call_fine 3 93 (next s) (omega arith))

length_from : (i n s : ℕ) → length (calls_from i n s) ≡ n
unfolding calls_from
length_from i zero s = refl
length_from i (suc n) s = ap suc (length_from (suc i) n (next (next s)))

-- "a batch of at least 64 calls"
pub calls_many : (s : ℕ) → length (calls s) ≡ 96
unfolding calls first_calls
calls_many s = rw length_from refl

-- ── What is known of a call ─────────────────────────────────────────────────────────────────────────────────

pub call_known : (c : Call) → Fine c → (c.operation < 256) × (c.target < 792) × All (λ e. e < 792) c.listed
call_known c f =
    let j = judged T c f.right in
    let b = subst (λ n. All (λ e. e < n) (c.target ∷ c.listed)) many (below_E T (c.target ∷ c.listed) j.within) in
    (omega (arith, ltb-false 6 c.operation j.known), b.0, b.1)

-- 16: it lists no more than 41
pub call_few : (c : Call) → Fine c → lists_too_many c ≡ false
unfolding lists_too_many too_many
call_few c f = go (eqb c.operation 5)
  where
    go : (b : Bool) → ltb 41 (cond b (length c.listed - 1) (length c.listed)) ≡ false
    go true = le-ltb 41 (length c.listed - 1) (omega (arith, f.few))
    go false = le-ltb 41 (length c.listed) (omega (arith, f.few))
