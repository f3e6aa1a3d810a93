-- What stands at the front of the output, of a batch.
-- Assumes nothing.
use Rattle.std.specs.Prelude.{◌≡◌, refl, false, ℕ, ◌≤◌, length, take}
use Rattle.std.proofs.Math.Path.{sym, ap}
use Rattle.std.proofs.Common.{◌∙◌, arith, take_all, length-take-le}
use mathlib.Core.List.{List, [], ◌∷◌}
use Rattle.std.proofs.lemmas.List.{take-take}
use Rattle.program_input.specs.Told.{Prints}
use Rattle.definition.specs.Basics as basics
use Rattle.definition.specs.Basics.{gives, refused, ◌>>=◌}
use Rattle.definition.specs.Choices.{Choices, chosen}
use Rattle.definition.specs.Answers.{too_short}
use Rattle.definition.specs.Printed.{program_room, ascii, line, print}
use Rattle.promises.specs.Slices.{needed, lengths}
use Rattle.promises.specs.Promises.{Shares, wrongly_chosen, with_long}
use Rattle.edit_print.specs.Lines.{Put, put_fits, put_front, line_of, spaced}
use Rattle.share_laws.specs.Share.{share, shared}
use Rattle.share_laws.specs.Printed.{share_line, share_printed}

-- the share of the batch b, which a wrong choice refuses first
abbrev pub reckoned : Choices → List ℕ → basics.Answer (ℕ × ℕ)
reckoned h b = chosen h >>= λ u. share h b

-- an answer tells it
pub record Tells (h : Choices) (b : List ℕ) (r : basics.Answer (ℕ × ℕ)) : Type 0 where
  pub says : r ≡ reckoned h b

-- no more of the input is judged than the buffer has room for
pub judged_in_room : (h : Choices) (bs : List ℕ) → share_printed h (take 65536 bs) ≡ share_printed h bs
unfolding share_printed
judged_in_room h bs = rw (take-take 65536 65536 bs (omega arith)) refl

-- ── From what is promised ───────────────────────────────────────────────────────────────────────────────────

-- where no work slice is too short, 1 does not come
shared_whole : (h : Choices) (work : List (ℕ × ℕ)) (b : List ℕ) → too_short work ≡ false → shared h work b ≡ reckoned h b
unfolding shared ◌>>=◌
shared_whole h work b s = go (chosen h) refl
  where
    go : (o : basics.Answer (Unit {0})) → chosen h ≡ o → shared h work b ≡ (o >>= λ u. share h b)
    go (refused k) c = wrongly_chosen h work (share h b) k c
    go (gives u) c = with_long h work (share h b) c s

pub share_tells : {h : Choices} {b : List ℕ} {work left : List (List ℕ)} (r : basics.Answer (ℕ × ℕ)) → Shares h b work r left → too_short (lengths needed work) ≡ false → Tells h b r
share_tells {h} {b} {work} r p s = record { says = p.share ∙ shared_whole h (lengths needed work) b s }

-- ── Printed ─────────────────────────────────────────────────────────────────────────────────────────────────

module _ {h : Choices} (b : List ℕ) {r : basics.Answer (ℕ × ℕ)} (n : length b ≤ 65536) (t : Tells h b r) where
  whole : take program_room b ≡ b
  whole = take_all 65536 b n

  printed : share_printed h b ≡ share_line r
  unfolding share_printed
  printed = ap (λ (l : List ℕ). share_line (reckoned h l)) whole ∙ ap share_line (sym t.says)

  pub refused_responds : {k : ℕ} {d out : List ℕ} {to : ℕ} → r ≡ refused k → Put d 0 (print (refused k)) out to → length out ≡ length d → Prints (share_printed h) b out to
  unfolding share_line print
  refused_responds {k} {d} {out} {to} e p m = record { fits = (put_fits p m, sym (length-take-le to out (put_fits p m))); says = put_front p m ∙ sym (printed ∙ rw e refl) }

  pub told_responds : {q s : ℕ} {d out : List ℕ} {to : ℕ} → r ≡ gives (q, s) → Put d 0 (line_of (115 ∷ 104 ∷ 97 ∷ 114 ∷ 101 ∷ []) (q ∷ s ∷ [])) out to → length out ≡ length d → Prints (share_printed h) b out to
  unfolding share_line line line_of spaced ascii
  told_responds {q} {s} {d} {out} {to} e p m = record { fits = (put_fits p m, sym (length-take-le to out (put_fits p m))); says = put_front p m ∙ sym (printed ∙ rw e refl) }
