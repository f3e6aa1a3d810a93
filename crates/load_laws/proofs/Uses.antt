-- "a batch of at least 64 calls that .. uses an insertion, a replacement and a change inside a replaced node", of what is accepted of every load. The node
-- stays replaced: no other call removes it.
-- Assumes nothing.
use Rattle.std.proofs.Math.Path.{◌≡◌, refl}
use Rattle.std.specs.Prelude.{Bool, cond, ◌&&◌, ◌||◌, List, [], ◌∷◌, ℕ, suc, ◌+◌, ◌*◌, ◌/◌, ◌%◌, ◌≤◌, ◌<◌, leb, ltb, length}
use Rattle.std.proofs.Math.Bool.{true, false, or-true}
use Rattle.std.proofs.Math.Option.{some}
use Rattle.std.proofs.Common.{arith, eq-eqb, ne_eqb}
use Rattle.std.proofs.Math.Dec.{eqb}
use Rattle.orders.specs.Lists.{All}
use Rattle.definition.specs.Basics.{any}
use Rattle.definition.specs.Elements.{Table, node?, parent}
use Rattle.definition.specs.Refusals.{Call, same_parent, Accepted}
use Rattle.load_laws.specs.Load.{next, drawn, block, block_token, call, rule_drawn, replaced, token_drawn, first_calls, free_call, own_call, call_at, calls_from, calls}
use Rattle.load_laws.proofs.Trees.{T, group_told}
use Rattle.load_laws.proofs.Calls.{by, token_few, replaced_low, from_all, calls_many}
use Rattle.load_laws.proofs.Good.{taken}

-- operations 0 and 1 insert
unfoldable pub inserts : Call → Bool
inserts c = leb c.operation 1

-- operation 2 replaces
unfoldable pub replaces : Call → Bool
replaces c = eqb c.operation 2

-- operations 2 to 5 remove their target
unfoldable pub removes : ℕ → Call → Bool
removes x c = leb 2 c.operation && (leb c.operation 5 && eqb c.target x)

-- how many calls remove x
unfoldable pub removals : ℕ → List Call → ℕ
removals x [] = 0
removals x (c ∷ cs) = let n = removals x cs in cond (removes x c) (suc n) n

-- call c's target is a child of the node that call r replaces
unfoldable pub inside : Table → Call → Call → Bool
inside T r c = replaces r && (node? T r.target && same_parent (parent T c.target) (some r.target))

pub record Uses (a : Accepted) : Type 0 where
  pub calls : 64 ≤ length a.calls
  pub insertion : any inserts a.calls ≡ true
  pub replacement : any replaces a.calls ≡ true
  -- and the replacement is the only call that removes the node
  pub inside : any (λ r. any (inside a.table r) a.calls && eqb (removals r.target a.calls) 1) a.calls ≡ true

-- ── No other call removes the replaced block ────────────────────────────────────────────────────────────────

block_or_token : (i x j : ℕ) → j < 4 → eqb (block_token i j) (block x) ≡ false
unfolding block_token block
block_or_token i x j h = ne_eqb (3 + 6 * i + j) (2 + 6 * x) (λ e. omega arith)

other_block : (i x : ℕ) → x < i → eqb (block i) (block x) ≡ false
unfolding block
other_block i x h = ne_eqb (2 + 6 * i) (2 + 6 * x) (λ e. omega arith)

-- block x stays
abbrev Spares : ℕ → Call → Type 0
Spares x c = removes (block x) c ≡ false

module _ (x : ℕ) (h : x < 64) where
  free_spares : (later : Bool) (b w p : ℕ) → (later ≡ true → x < b) → Spares x (free_call later b w p)
  unfolding free_call removes
  free_spares later b w p k =
      let t = block_or_token b x (token_drawn p) (token_few p) in
      by (Spares x) (eqb (w % 8) 0) _ _ (λ e. refl) λ e.
      by (Spares x) (ltb (w % 8) 3) _ _ (λ e. refl) λ e.
      by (Spares x) (eqb (w % 8) 3) _ _ (λ e. refl) λ e.
      by (Spares x) (ltb (w % 8) 6) _ _ (λ e. t) λ e.
      by (Spares x) (eqb (w % 8) 6) _ _ (λ e. t) λ e.
      by (Spares x) later _ _ (λ e. other_block b x (k e)) λ e.
      refl

  own_spares : (b w p : ℕ) → Spares x (own_call b w p)
  unfolding own_call removes
  own_spares b w p = by (Spares x) (eqb (w % 2) 0) _ _ (λ e. block_or_token b x (token_drawn p) (token_few p)) λ e. block_or_token b x 0 (omega arith)

  call_spares : (i w p : ℕ) → i < 96 → w < 65536 → p < 65536 → Spares x (call_at i w p)
  unfolding call_at removes
  call_spares i w p _ _ _ =
      by (Spares x) (ltb i 32) _ _ (λ e. free_spares false (p % 64) w p (λ z. absurd (let f : ◌≡◌ {A = ℕ} 0 1 = cc in omega arith))) λ e.
      by (Spares x) (eqb i 32) _ _ (λ e. refl) λ e.
      by (Spares x) (ltb i 64) _ _ (λ e. free_spares true (64 + p % 32) w p (λ z. omega arith)) λ e.
      own_spares (i + 32) w p

none_removed : (x : ℕ) (cs : List Call) → All (λ c. removes x c ≡ false) cs → removals x cs ≡ 0
unfolding removals
none_removed x [] h = refl
none_removed x (c ∷ cs) h = rw h.0 (none_removed x cs h.1)

-- call 0 alone removes it
pub removed_once : (s : ℕ) → removals (block (replaced (drawn s))) (calls s) ≡ 1
unfolding removals removes calls first_calls
removed_once s =
    let x = replaced (drawn s) in
    let n = none_removed (block x) (calls_from 3 93 (next s)) (from_all (Spares x) (call_spares x (replaced_low (drawn s))) 3 93 (next s) (omega arith)) in
    rw (eq-eqb (block x) (block x) refl, n) refl

-- ── The uses ────────────────────────────────────────────────────────────────────────────────────────────────

module _ (s : ℕ) where
  -- call 1's target stands in the block that call 0 replaces
  second_inside : (node? T (block (replaced (drawn s))) ≡ true) × (same_parent (parent T (block_token (replaced (drawn s)) (drawn s / 64 % 4))) (some (block (replaced (drawn s)))) ≡ true)
  unfolding same_parent
  second_inside =
      let g = group_told (replaced (drawn s)) (omega (arith, replaced_low (drawn s))) in
      (g.node, rw (g.tokens (drawn s / 64 % 4) (omega arith)).in_block_lem (eq-eqb (block (replaced (drawn s))) (block (replaced (drawn s))) refl))

  first_once : eqb (removals (block (replaced (drawn s))) (calls s)) 1 ≡ true
  first_once = eq-eqb (removals (block (replaced (drawn s))) (calls s)) 1 (removed_once s)

  -- call 0
  abbrev replacing : Call
  replacing = call (rule_drawn (drawn s)) 2 (block (replaced (drawn s))) (786 ∷ [])

  first_inside : any (inside T replacing) (calls s) ≡ true
  unfolding calls first_calls any inside replaces
  first_inside = rw (second_inside.0, second_inside.1, or-true (same_parent (parent T (block (replaced (drawn s)))) (some (block (replaced (drawn s)))))) refl

  first_passes : (p : Call → Bool) → p replacing ≡ true → any p (calls s) ≡ true
  unfolding calls first_calls any
  first_passes p e = rw e refl

  -- EVERY LOAD USES THEM.
  pub load_uses : Uses (taken s)
  unfolding taken calls first_calls any inserts replaces
  load_uses = record {
    calls = omega (arith, calls_many s);
    insertion = refl;
    replacement = refl;
    inside = first_passes (λ r. any (inside T r) (calls s) && eqb (removals r.target (calls s)) 1) (rw (first_inside, first_once) refl);
  }
