-- A stretch of text that is still to be copied, and what it is once more text is added to it.
-- Assumes nothing.
use Rattle.std.specs.Prelude.{◌≡◌, List, ℕ, ◌+◌, ◌-◌, ◌≤◌, length, take, drop}
use Rattle.std.proofs.Common.{sym, ap, ◌∙◌, arith, length-drop, length-take-le, drop-drop}
use Rattle.std.proofs.Math.Seq.{paste, take-take, take-length}
use Rattle.std.proofs.Math.Path.{refl}
use Rattle.words.specs.Parts.{paste_on}
use Rattle.finish_arrays.specs.declared.Stretch.{Stretch}

-- d once the stretch is copied into it
unfoldable pub stretch_over : List ℕ → Stretch → List ℕ → List ℕ
stretch_over text r d = paste d r.to (drop r.from text) r.len

-- `own` stands in the text at o
pub record StandsAt (text own : List ℕ) (o : ℕ) : Type 0 where
  pub inside : o + length own ≤ length text
  pub is : own ≡ take (length own) (drop o text)

-- A stretch and the list it goes to, before and after some text is added: once it is copied, the list is as it was to be, with that text behind it
pub record Added (text own d : List ℕ) (r : Stretch) (l : List ℕ) (q : Stretch) : Type 0 where
  pub there : q.from + q.len ≤ length text
  pub place : q.to + q.len ≡ r.to + r.len + length own
  pub copied : stretch_over text q l ≡ paste (stretch_over text r d) (r.to + r.len) own (length own)

module _ (text d : List ℕ) (r : Stretch) (t : r.from + r.len ≤ length text) where
  -- the stretch as a part of the text, which is copied
  pub stretch_copied : {l : List ℕ} → l ≡ paste d r.to (take (r.from + r.len - r.from) (drop r.from text)) (length (take (r.from + r.len - r.from) (drop r.from text))) → l ≡ stretch_over text r d
  unfolding stretch_over
  stretch_copied q =
      let e : r.from + r.len - r.from ≡ r.len = omega arith in
      let f : length (take r.len (drop r.from text)) ≡ r.len = length-take-le r.len (drop r.from text) (omega (arith, length-drop r.from text)) in
      q ∙ rw (e, f, take-take r.len r.len (drop r.from text) (omega arith)) refl

  module _ (own : List ℕ) {o m : ℕ} (e : m ≡ length own) (s : StandsAt text own o) where
    -- text that goes on where the stretch ends
    pub added_on : r.to + r.len ≤ length d → o ≡ r.from + r.len → Added text own d r d (record { to = r.to; from = r.from; len = r.len + m })
    unfolding stretch_over
    added_on h a =
        let z : take (length own) own ≡ take (length own) (drop r.len (drop r.from text)) =
        take-length own ∙ (s.is ∙ ap (take (length own)) (rw a (sym (drop-drop r.len r.from text)))) in
        record {
          there = omega (arith, s.inside);
          place = omega arith;
          copied = sym (paste_on d r.to (drop r.from text) r.len own (length own) (r.to + r.len) (r.len + m) refl (omega arith) h (omega (arith, length-drop r.from text)) z);
        }

    -- text that stands elsewhere: the stretch is copied, and this is the next
    pub added_anew : {l : List ℕ} → l ≡ stretch_over text r d → Added text own d r l (record { to = r.to + r.len; from = o; len = m })
    unfolding stretch_over
    added_anew {l} q =
        let z : take (length own) (drop o text) ≡ take (length own) own = sym s.is ∙ sym (take-length own) in
        record {
          there = omega (arith, s.inside);
          place = omega arith;
          copied = rw (e, z, q) refl;
        }
