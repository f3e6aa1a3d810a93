-- The writer's ways out: each answer, from the tests and the calls that led there.
-- Assumes nothing.
use mathlib.Core.Path.{◌≡◌, refl, sym, ap, ◌∙◌}
use mathlib.Core.Bool.{Bool, true, false, not, ◌||◌}
use mathlib.Core.List.{List, [], ◌∷◌, map, zip, zip_with}
use Prim.Native.Nat.{ℕ, ◌≤◌, ◌<◌}
use native.Mathlib.Nat.{zero-add}
use native.Mathlib.Omega.{arith}
use lib.Dec.{ltb}
use lib.ListN.{length, take, drop, length-append, take-append-drop}
use lib.Seq.{paste, take-length}
use borrow.Author.Tests.{lt-ltb, le-ltb, ltb-false, not-true, not-false}
use Rattle.orders.specs.ListLaws.{either_false}
use Rattle.definition.specs.Basics.{Answer, ◌>>=◌, refuse, is_refused, any}
use Rattle.definition.specs.Answers.{too_short, with_work}
use Rattle.definition.specs.Writing.{Lists, laid_out, unlayable, wrong_lists, write}
use Rattle.promises.specs.Slices.{lengths, zeroed}
use Rattle.promises.proofs.Alike.{zeroed_alike}
use Rattle.promises.specs.Promises.{left_in}
use Rattle.promises.specs.Writing.{writer_needs, wrote, Writes}
use Rattle.std.specs.Prelude.{Result, Ok, Err, is_err}
use Rattle.refusals.specs.Numbers.{number, answered}
use Rattle.refusals.specs.declared.Refusal.{Refusal}
use Rattle.refusals.specs.declared.Refusal.TheVariants.{ShortWork, Lists as NoLists, ShortDestination}
use Rattle.read_layout.specs.declared.Layout.{Layout}
use Rattle.read_batch.specs.Accepting.{judged_refuses}
use Rattle.read_batch.specs.Leaving.{Judged}
use Rattle.write_laws.specs.RoundTrip.{InStep, layable}
use Rattle.write_layout.specs.Appending.{Appended}
use Rattle.write_batch.specs.Handing.{Told, fitted, handed}

-- ── The work slices ─────────────────────────────────────────────────────────────────────────────────────────

module _ (d t s : List ℕ) where
  abbrev Short : Bool → Type 0
  Short r = r ≡ too_short (lengths writer_needs (d ∷ t ∷ s ∷ []))

  pub one_short : (r : Bool) → r ≡ (ltb (length d) 49180 || (ltb (length t) 16384 || ltb (length s) 6147)) → Short r
  unfolding too_short lengths writer_needs any zip zip_with
  one_short r e = e ∙ go (ltb (length d) 49180) (ltb (length t) 16384) (ltb (length s) 6147)
    where
      go : (a b c : Bool) → (a || (b || c)) ≡ (a || (b || (c || false)))
      go true b c = refl
      go false true c = refl
      go false false true = refl
      go false false false = refl

  pub long_enough : (r : Bool) → Short r → r ≡ false → (49180 ≤ length d) × (16384 ≤ length t) × (6147 ≤ length s)
  unfolding too_short lengths writer_needs any zip zip_with
  long_enough r e h =
      let (draft, q) = either_false (ltb (length d) 49180) _ (sym e ∙ h) in
      let (table, q) = either_false (ltb (length t) 16384) _ q in
      let (source, q) = either_false (ltb (length s) 6147) false q in
      (ltb-false (length d) 49180 draft, ltb-false (length t) 16384 table, ltb-false (length s) 6147 source)

-- ── A batch that is laid out ────────────────────────────────────────────────────────────────────────────────

module _ (b held : List ℕ) where
  pub no_room : length held < length b → Told (fitted b (length held)) held (answered (Err ShortDestination)) held
  unfolding fitted answered number left_in ◌>>=◌ refuse
  no_room h = rw (lt-ltb (length held) (length b) h) (record { answer = refl; destination = refl })

  pub copied : (holds : List ℕ) → length b ≤ length held → holds ≡ paste held 0 b (length b) → Told (fitted b (length held)) held (answered (Ok (length b))) holds
  unfolding fitted answered left_in ◌>>=◌ refuse
  copied holds h e = rw (le-ltb (length held) (length b) h) (record { answer = refl; destination = e ∙ rw (take-length b, zero-add (length b)) refl })

  module _ {t₀ s₀ t s : List ℕ} {o : Result Layout Refusal} (j : Judged b t₀ s₀ t s o) where
    pub laid_wrong : (x : Bool) → x ≡ is_err o → x ≡ true → Told (handed b (length held)) held (answered (Err NoLists)) held
    unfolding handed answered number left_in is_refused ◌>>=◌ refuse
    laid_wrong x p q = go o refl (sym p ∙ q)
      where
        go : (r : Result Layout Refusal) → o ≡ r → is_err r ≡ true → Told (handed b (length held)) held (answered (Err NoLists)) held
        go (Err e) u z = rw (judged_refuses b (number e) (sym j.answer ∙ ap answered u)) (record { answer = refl; destination = refl })
        go (Ok l) u z = cc

    pub laid_right : (x : Bool) {r : Answer ℕ} {holds : List ℕ} → x ≡ is_err o → x ≡ false → Told (fitted b (length held)) held r holds → Told (handed b (length held)) held r holds
    unfolding handed is_refused ◌>>=◌ refuse
    laid_right x {r} {holds} p q told = go o refl (sym p ∙ q)
      where
        go : (k : Result Layout Refusal) → o ≡ k → is_err k ≡ false → Told (handed b (length held)) held r holds
        go (Err e) u z = cc
        go (Ok l) u z = rw (j.left l u).accepted told

-- ── The lists ───────────────────────────────────────────────────────────────────────────────────────────────

module _ (l : Lists) (held d t s : List ℕ) (q : Bool) (e : q ≡ too_short (lengths writer_needs (d ∷ t ∷ s ∷ []))) where
  abbrev Tells : Answer ℕ → List ℕ → Type 0
  Tells r holds = Told (wrote (d ∷ t ∷ s ∷ []) l (length held)) held r holds

  pub refused_1 : q ≡ true → Tells (answered (Err ShortWork)) held
  unfolding wrote with_work answered number left_in ◌>>=◌ refuse
  refused_1 h = rw (sym e ∙ h) (record { answer = refl; destination = refl })

  module _ (h : q ≡ false) (u : Bool) (f : u ≡ not (unlayable l)) where
    pub refused_14 : u ≡ false → Tells (answered (Err NoLists)) held
    unfolding wrote with_work write wrong_lists answered number left_in ◌>>=◌ refuse
    refused_14 k = rw (sym e ∙ h, not-false (unlayable l) (sym f ∙ k)) (record { answer = refl; destination = refl })

    pub handed_over : u ≡ true → {r : Answer ℕ} {holds : List ℕ} → Told (handed (laid_out l) (length held)) held r holds → Tells r holds
    unfolding wrote with_work write wrong_lists handed fitted ◌>>=◌ refuse
    handed_over k p = rw (sym e ∙ h, not-true (unlayable l) (sym f ∙ k)) p

-- what is laid out is handed over
pub laid_handed : (l : Lists) (held b : List ℕ) {r : Answer ℕ} {holds : List ℕ} → b ≡ laid_out l → Told (handed b (length held)) held r holds → Told (handed (laid_out l) (length held)) held r holds
laid_handed l held b same p = rw same at p

pub may_lay : (l : Lists) (u : Bool) → u ≡ not (unlayable l) → u ≡ true → InStep l
may_lay l u f k = (layable l (not-true (unlayable l) (sym f ∙ k))).step

-- what is laid out stands within the draft
module _ {d new e : List ℕ} {n : ℕ} (p : Appended d 0 new e n) where
  pub part_long : n ≡ length (take n e)
  part_long = p.ends ∙ (zero-add (length new) ∙ ap length (sym p.stands))

  pub part_within : n ≤ length e
  part_within = omega (arith, part_long, length-append (take n e) (drop n e), ap length (take-append-drop n e))

-- ── All ─────────────────────────────────────────────────────────────────────────────────────────────────────

pub all_told : (l : Lists) (held : List ℕ) (work mid : List (List ℕ)) {r : Answer ℕ} {holds : List ℕ} {left : List (List ℕ)} → Told (wrote work l (length held)) held r holds → map length mid ≡ map length work → left ≡ zeroed mid → Writes l held work r holds left
all_told l held work mid p a z = record { answer = p.answer; destination = p.destination; zeros = z ∙ zeroed_alike mid work a }
