-- The checker's ways out: each answer, from the tests and the calls that led there.
-- Assumes nothing.
use mathlib.Core.Path.{◌≡◌, refl, sym, ap, ◌∙◌}
use mathlib.Core.Bool.{Bool, true, false, not, ◌||◌}
use mathlib.Core.List.{List, [], ◌∷◌, zip, zip_with}
use mathlib.Core.Logic.{◌⊎◌, inl, inr}
use Prim.Native.Nat.{ℕ, ◌≤◌}
use native.Mathlib.Omega.{arith}
use lib.Dec.{ltb, eqb}
use lib.ListN.{length, replicate, length-replicate}
use borrow.Author.Tests.{ltb-true, ltb-false, eqb-true, not-false}
use Rattle.orders.specs.ListLaws.{either_false, All-map}
use Rattle.definition.specs.Basics.{Answer, refused, ◌>>=◌, refuse, any}
use Rattle.definition.specs.Answers.{too_short, with_work}
use Rattle.definition.specs.Writing.{differ}
use Rattle.promises.specs.Slices.{lengths, zeros, zeroed}
use Rattle.check_laws.specs.Check.{Claims, too_big, unequal, checked}
use Rattle.check_model.specs.Clauses.{fresh, partnered, marked}
use Rattle.check_model.specs.Pairing.{Below}
use Rattle.check_model.proofs.Pairing.{length_partnered, length_marked}
use Rattle.check_table.specs.Walk.{Reads}
use Rattle.check_table.specs.Spelled.{Tells, reads_none, reads_tells}
use Rattle.check_clauses.specs.Asked.{Ready, PairsUp}
use Rattle.std.specs.Prelude.{Result, Ok, Err}
use Rattle.refusals.specs.Numbers.{number, answered}
use Rattle.refusals.specs.declared.Refusal.{Refusal}
use Rattle.check_claim.specs.Promise.{checker_needs, told, Checks}
use Rattle.check_claim.specs.Judging.{sizes_refusal, ReadsBoth, Telling, naming, WritesClaims, judging}
use Rattle.check_claim.specs.Checked.{named_below, sizes_refuse, sizes_pass, old_unspelled, new_unspelled, tells_checked}

-- ── The work slices ─────────────────────────────────────────────────────────────────────────────────────────

module _ (o n p m : List ℕ) where
  abbrev Short : Bool → Type 0
  Short r = r ≡ too_short (lengths checker_needs (o ∷ n ∷ p ∷ m ∷ []))

  pub long_enough : (r : Bool) → Short r → r ≡ false → (16384 ≤ length o) × (16384 ≤ length n) × (4096 ≤ length p) × (4096 ≤ length m)
  unfolding too_short lengths checker_needs any zip zip_with
  long_enough r e h =
      let (a, q) = either_false (ltb (length o) 16384) _ (sym e ∙ h) in
      let (b, q) = either_false (ltb (length n) 16384) _ q in
      let (c, q) = either_false (ltb (length p) 4096) _ q in
      let (d, q) = either_false (ltb (length m) 4096) false q in
      (ltb-false (length o) 16384 a, ltb-false (length n) 16384 b, ltb-false (length p) 4096 c, ltb-false (length m) 4096 d)

-- ── The claims ──────────────────────────────────────────────────────────────────────────────────────────────

pub below_cleared : (m : ℕ) {w : List ℕ} (l : List ℕ) → w ≡ replicate m 0 → Below m l → Below (length w) l
below_cleared m {w} l e b = let h : length w ≡ m = ap length e ∙ length-replicate m 0 in All-map (λ x k. omega arith) l b

pub writes_claims : {P : List (ℕ × ℕ)} {changed w w' c c' : List ℕ} {m m' : ℕ} {r : Bool} → w ≡ replicate m 0 → c ≡ replicate m' 0 → c' ≡ marked c changed → PairsUp P w r w' → WritesClaims P changed m m' r w' c'
writes_claims {P} {changed} ew ec em p = record { verdict = p.verdict ∙ ap (λ l. fresh l P) ew; partners = λ q. p.written q ∙ ap (λ l. partnered l P) ew; marks = em ∙ ap (λ l. marked l changed) ec }

pub claims_fit : (o n m m' : ℕ) (olds news changed : List ℕ) {x : Bool} → x ≡ naming o n olds news changed → x ≡ false → o ≤ 4096 → n ≤ 4096 → 4096 ≤ m → 4096 ≤ m' → Below 4096 olds × Below m news × Below m' changed
claims_fit o n m m' olds news changed ex qx a b c d =
    let (p, q, r) = named_below o n olds news changed (sym ex ∙ qx) in
    (All-map (λ y h. omega arith) olds p, All-map (λ y h. omega arith) news q, All-map (λ y h. omega arith) changed r)

module _ (old new text text' : List ℕ) (o n m m' : ℕ) (olds news changed : List ℕ) {x : Bool} (ex : x ≡ naming o n olds news changed) (qx : x ≡ false) {r : Bool} {w c : List ℕ} (k : WritesClaims (zip olds news) changed m m' r w c) (q : r ≡ true) where
  pub ready : length news ≡ length olds → Telling old (length text) o → Telling new (length text') n → 4096 ≤ m → 4096 ≤ m' → Ready olds news old new (length text) (length text') (length w) (length c) n
  ready e s t a b =
      let (p, q', r') = named_below o n olds news changed (sym ex ∙ qx) in
      let lw : length w ≡ m = ap length (k.partners q) ∙ (length_partnered (zip olds news) (replicate m 0) ∙ length-replicate m 0) in
      let lc : length c ≡ m' = ap length k.marks ∙ (length_marked changed (replicate m' 0) ∙ length-replicate m' 0) in
      record {
        alike = e;
        old_reached = record { n = o; long = s.long; sound = s.sound; below = p };
        new_reached = record { n = n; long = t.long; sound = t.sound; below = q' };
        linked = record { long = t.long; before = t.sound.before };
        below = All-map (λ y h. omega (arith, t.few)) news q';
        some = omega arith;
        room = omega (arith, t.few);
        room' = omega (arith, t.few);
      }

-- ── All lists ───────────────────────────────────────────────────────────────────────────────────────────────

module _ (c : Claims) (o n p m : List ℕ) {x : Bool} (ex : x ≡ too_short (lengths checker_needs (o ∷ n ∷ p ∷ m ∷ []))) where
  abbrev Tell : Answer Bool → Type 0
  Tell r = r ≡ told (o ∷ n ∷ p ∷ m ∷ []) c

  module _ (qx : x ≡ false) where
    then : {r : Answer Bool} → r ≡ checked c → Tell r
    unfolding told with_work refuse ◌>>=◌
    then e = e ∙ rw (← ex, qx)

    abbrev refusing : ℕ
    refusing = sizes_refusal (length c.old.kinds) (length c.old.measures) (length c.old.text) (length c.new.kinds) (length c.new.measures) (length c.new.text) (length c.olds) (length c.news)

    module _ {r : Result (Unit {0}) Refusal} (er : answered r ≡ refuse refusing (ltb 0 refusing)) where
      pub refused_size : (e : Refusal) → r ≡ Err e → Tell (refused (number e))
      unfolding answered refuse
      refused_size e q = then (go (ltb 0 refusing) refl (rw q at er))
        where
          go : (b : Bool) → ltb 0 refusing ≡ b → answered (Err e) ≡ refuse refusing b → refused (number e) ≡ checked c
          go true p k = let q : number e ≡ refusing = cc in sizes_refuse c q (λ z. omega (arith, ltb-true 0 refusing p))
          go false p k = absurd (cc)

      module _ (ok : r ≡ Ok tt) where
        zr : refusing ≡ 0
        unfolding answered refuse
        zr = go (ltb 0 refusing) refl (rw ok at er)
          where
            go : (b : Bool) → ltb 0 refusing ≡ b → answered (Ok tt) ≡ refuse refusing b → refusing ≡ 0
            go true p k = absurd (cc)
            go false p k = omega (arith, ltb-false 0 refusing p)

        pub record Fits : Type 0 where
          pub old_alike : length c.old.measures ≡ length c.old.kinds
          pub old_few : length c.old.kinds ≤ 4096
          pub old_short : length c.old.text ≤ 16384
          pub new_alike : length c.new.measures ≡ length c.new.kinds
          pub new_few : length c.new.kinds ≤ 4096
          pub new_short : length c.new.text ≤ 16384
          pub pairs : length c.news ≡ length c.olds

        pub fits : Fits
        unfolding too_big unequal differ
        fits =
            let (big, step) = sizes_pass c zr in
            let (a, b) = either_false (too_big c.old) (too_big c.new) big in
            let (ak, at) = either_false (ltb 4096 (length c.old.kinds) || ltb 4096 (length c.old.measures)) _ a in
            let (ak, am) = either_false (ltb 4096 (length c.old.kinds)) _ ak in
            let (bk, bt) = either_false (ltb 4096 (length c.new.kinds) || ltb 4096 (length c.new.measures)) _ b in
            let (bk, bm) = either_false (ltb 4096 (length c.new.kinds)) _ bk in
            let (s, pairs) = either_false (not (eqb (length c.old.kinds) (length c.old.measures)) || not (eqb (length c.new.kinds) (length c.new.measures))) _ step in
            let (s, s') = either_false (not (eqb (length c.old.kinds) (length c.old.measures))) _ s in
            record {
              old_alike = sym (eqb-true _ _ (not-false _ s));
              old_few = ltb-false _ _ ak;
              old_short = ltb-false _ _ at;
              new_alike = sym (eqb-true _ _ (not-false _ s'));
              new_few = ltb-false _ _ bk;
              new_short = ltb-false _ _ bt;
              pairs = sym (eqb-true _ _ (not-false _ pairs));
            }

        module _ {b : Bool} {old new : List ℕ} (k : ReadsBoth (zip c.old.kinds c.old.measures) (length c.old.text) (zip c.new.kinds c.new.measures) (length c.new.text) b old new) where
          pub refused_5 : b ≡ false → Tell (refused 5)
          refused_5 q = then (go (k.no q))
            where
              go : ((w : List ℕ) × Reads (zip c.old.kinds c.old.measures) (length c.old.text) false w) ⊎ ((w : List ℕ) × Reads (zip c.old.kinds c.old.measures) (length c.old.text) true old × Reads (zip c.new.kinds c.new.measures) (length c.new.text) false w) → refused 5 ≡ checked c
              go (inl (w, e)) = old_unspelled c zr (reads_none c.old w fits.old_alike e)
              go (inr (w, e, f)) = let t = reads_tells c.old old fits.old_alike e in new_unspelled c zr t.trees t.spells (reads_none c.new w fits.new_alike f)

          module _ (q : b ≡ true) where
            old_tells : Tells c.old old
            old_tells = reads_tells c.old old fits.old_alike (k.yes q).0

            new_tells : Tells c.new new
            new_tells = reads_tells c.new new fits.new_alike (k.yes q).1

            pub old_telling : 16384 ≤ length old → Telling old (length c.old.text) (length c.old.kinds)
            old_telling h = record { few = fits.old_few; long = omega (arith, fits.old_few); sound = old_tells.sound }

            pub new_telling : 16384 ≤ length new → Telling new (length c.new.text) (length c.new.kinds)
            new_telling h = record { few = fits.new_few; long = omega (arith, fits.new_few); sound = new_tells.sound }

            pub all_judged : {a : Answer Bool} {u v : ℕ} → 4096 ≤ u → 4096 ≤ v → a ≡ judging old new c.old.text c.new.text (length c.old.kinds) (length c.new.kinds) u v c.olds c.news c.changed → Tell a
            all_judged {a} {u} {v} h j e = then (e ∙ tells_checked c zr old new u v old_tells new_tells (omega (arith, fits.new_few)) (omega (arith, fits.new_few)))

-- ── All ─────────────────────────────────────────────────────────────────────────────────────────────────────

pub all_told : (c : Claims) (o n p m o₁ n₁ p₁ m₁ : List ℕ) {r : Answer Bool} {left : List (List ℕ)} → r ≡ told (o ∷ n ∷ p ∷ m ∷ []) c → length o₁ ≡ length o → length n₁ ≡ length n → length p₁ ≡ length p → length m₁ ≡ length m
    → left ≡ zeroed (o₁ ∷ n₁ ∷ p₁ ∷ m₁ ∷ []) → Checks c (o ∷ n ∷ p ∷ m ∷ []) r left
unfolding zeroed zeros
all_told c o n p m o₁ n₁ p₁ m₁ t a b d e z = record { answer = t; zeros = z ∙ rw (a, b, d, e) refl }
