-- A bookmark's words in a slot.
-- Assumes nothing.
use Rattle.std.specs.Prelude.{◌≡◌, refl, List, [], ◌∷◌, ℕ, ◌+◌, ◌*◌, ◌≤◌, length, set}
use Rattle.std.proofs.Common.{ap, ◌∙◌, arith, length-set}
use Rattle.std.proofs.Math.Seq.{paste}
use Rattle.std.proofs.lemmas.List.Edits.{length-paste}
use Rattle.words.specs.Parts.{set_paste, paste_paste}
use Rattle.series_laws.specs.Lent.{bookmark_out}

-- the number, the length of the path, and the path
pub put_told : (b : List ℕ) (to number : ℕ) (path : List ℕ) {at : ℕ} {out : List ℕ} → at ≡ 1 + 65 * to → 1 + 65 * (to + 1) ≤ length b → length path ≤ 63
    → out ≡ paste (set (set b at number) (at + 1) (length path)) (at + 2) path (length path) → out ≡ paste b (1 + 65 * to) (bookmark_out (number, path)) (2 + length path)
unfolding bookmark_out
put_told b to number path {at} {out} e l h w =
    let d : List ℕ = set b at number in
    let ld : length d ≡ length b = length-set b at number in
    let one : set d (at + 1) (length path) ≡ paste b at (number ∷ length path ∷ []) 2 =
    set_paste d (at + 1) (length path) (omega arith) ∙ (ap (λ (x : List ℕ). paste x (at + 1) (length path ∷ []) 1) (set_paste b at number (omega arith)) ∙ paste_paste b at (number ∷ []) 1 (length path ∷ []) 1 (at + 1) 2 refl (omega arith) (omega arith) (omega arith) refl) in
    w ∙ (ap (λ (x : List ℕ). paste x (at + 2) path (length path)) one
    ∙ (paste_paste b at (number ∷ length path ∷ []) 2 path (length path) (at + 2) (2 + length path) refl refl (omega arith) (omega arith) refl ∙ ap (λ (a : ℕ). paste b a (number ∷ length path ∷ path) (2 + length path)) e))

-- nothing is written beyond
pub put_length : (b : List ℕ) (to number : ℕ) (path : List ℕ) {at : ℕ} {out : List ℕ} → at ≡ 1 + 65 * to → 1 + 65 * (to + 1) ≤ length b → length path ≤ 63
    → out ≡ paste (set (set b at number) (at + 1) (length path)) (at + 2) path (length path) → length out ≡ length b
put_length b to number path {at} {out} e l h w =
    let d : List ℕ = set b at number in
    ap length w ∙ (length-paste (set d (at + 1) (length path)) (at + 2) path (length path) (simp length-set (omega arith)) (omega arith) ∙ (length-set d (at + 1) (length path) ∙ length-set b at number))
