-- "From 0 to 255 no two batches agree in operations and targets": the targets of calls 0, 1 and 2 tell draw 1, and draw 1 tells the starting number.
-- Assumes nothing.
use Rattle.std.specs.Prelude.{◌≡◌, List, get_or, ℕ, ◌+◌, ◌*◌, ◌/◌, ◌%◌, ◌<◌}
use Rattle.std.proofs.Common.{sym, ap, ◌∙◌, arith}
use Rattle.std.proofs.Math.Nat.{div-div-eq-div-mul}
use Rattle.load_laws.specs.Load.{next, drawn, block, block_token, replaced, first_calls, calls, load}

small : (s : ℕ) → s < 256 → next s ≡ 1664525 * s + 1013904223
unfolding next
small s h = omega arith

-- draw 1 of a starting number of 0 to 255 tells it
pub draw_tells : (s t : ℕ) → s < 256 → t < 256 → drawn s ≡ drawn t → s ≡ t
unfolding drawn
draw_tells s t h k e = omega (arith, small s h, small t k, e)

by_64 : (d e : ℕ) → d % 64 ≡ e % 64 → d / 64 ≡ e / 64 → d ≡ e
by_64 d e a b = omega arith

by_4 : (d e : ℕ) → d % 4 ≡ e % 4 → d / 4 ≡ e / 4 → d ≡ e
by_4 d e a b = omega arith

near : (x u y v : ℕ) → 2 + 6 * x ≡ 2 + 6 * y → 3 + 6 * x + u ≡ 3 + 6 * y + v → (x ≡ y) × (u ≡ v)
near x u y v a b = (omega arith, omega arith)

-- a token's element tells its block and itself
parts : (x u y v : ℕ) → u < 4 → v < 4 → 3 + 6 * x + u ≡ 3 + 6 * y + v → (x ≡ y) × (u ≡ v)
parts x u y v h k e = (omega arith, omega arith)

-- the places that draw d gives tell d
places_tell : (d e : ℕ) → 2 + 6 * (d % 64) ≡ 2 + 6 * (e % 64) → 3 + 6 * (d % 64) + d / 64 % 4 ≡ 3 + 6 * (e % 64) + e / 64 % 4
    → 3 + 6 * (d / 1024) + d / 256 % 4 ≡ 3 + 6 * (e / 1024) + e / 256 % 4 → d ≡ e
places_tell d e a b c =
    let (x, y) = near (d % 64) (d / 64 % 4) (e % 64) (e / 64 % 4) a b in
    let (z, w) = parts (d / 1024) (d / 256 % 4) (e / 1024) (e / 256 % 4) (omega arith) (omega arith) c in
    let u : d / 256 ≡ e / 256 = by_4 (d / 256) (e / 256) w (div-div-eq-div-mul d 256 4 ∙ (z ∙ sym (div-div-eq-div-mul e 256 4))) in
    by_64 d e x (by_4 (d / 64) (e / 64) y (div-div-eq-div-mul d 64 4 ∙ (u ∙ sym (div-div-eq-div-mul e 64 4))))

-- the targets of a load tell its draw 1, whatever the starting number
pub targets_tell : (s t : ℕ) → (load s).targets ≡ (load t).targets → drawn s ≡ drawn t
unfolding load calls first_calls block block_token replaced
targets_tell s t e =
    let at : (i : ℕ) → get_or (load s).targets i 0 ≡ get_or (load t).targets i 0 = λ i. ap (λ (l : List ℕ). get_or l i 0) e in
    places_tell (drawn s) (drawn t) (at 0) (at 1) (at 2)

-- NO TWO LOADS FROM 0 TO 255 AGREE in operations and targets: those that do have one starting number.
pub loads_differ : (s t : ℕ) → s < 256 → t < 256 → (load s).operations ≡ (load t).operations → (load s).targets ≡ (load t).targets → s ≡ t
loads_differ s t h k o e = draw_tells s t h k (targets_tell s t e)
