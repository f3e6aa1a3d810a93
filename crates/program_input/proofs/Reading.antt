-- What a turn of `read_full` reads stands behind what was read before, and was taken from the input in that order.
-- Assumes nothing.
use Rattle.std.specs.Prelude.{◌≡◌, ℕ, ◌+◌, ◌≤◌, List, ◌++◌, length, take, None, Some}
use Rattle.std.proofs.Common.{sym, ap, ◌∙◌, append_assoc, length-take-le}
use Rattle.std.proofs.Math.Seq.{take-append-add}
use Rattle.std.proofs.lemmas.List.{take-append-le}
use Rattle.std.specs.Io.KnownBytes.{Consumes}
use Rattle.std.specs.declared.option.Option.{Option}
use borrow.Rule.Slice.PartMut.{put_mid, post_of}

-- bytes taken after others
pub consumes_more : (a b c : Option (List ℕ)) (xs ys : List ℕ) → Consumes a b xs → Consumes b c ys → Consumes a c (xs ++ ys)
consumes_more None b c xs ys p q = p
consumes_more (Some l) None c xs ys p q = absurd p
consumes_more (Some l) (Some m) None xs ys p q = absurd q
consumes_more (Some l) (Some m) (Some n) xs ys p q = p ∙ ap (λ (t : List ℕ). xs ++ t) q ∙ sym (append_assoc xs ys n)

-- what stands at the front after the turn
pub front_more : (d k n : ℕ) (s ys : List ℕ) → d ≤ length s → n ≤ length ys → take (d + n) (put_mid d k s ys) ≡ take d s ++ take n ys
front_more d k n s ys h m =
    let e : length (take d s) ≡ d = length-take-le d s h in
    let w = take-append-add (take d s) (ys ++ post_of d k s) n in
    let v : take n (ys ++ post_of d k s) ≡ take n ys = take-append-le n ys (post_of d k s) m in
    rw (e, v) at w
