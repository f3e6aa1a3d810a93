-- Where the text of each row starts, and that it is what the path that leads to the row gives.
-- Assumes nothing.
use Rattle.std.specs.Prelude.{◌≡◌, refl, List, [], ◌∷◌, ℕ, suc, ◌+◌, ◌*◌, ◌/◌, ◌≤◌, ◌<◌, length, get_or, take}
use Rattle.std.proofs.Common.{sym, ap, ◌∙◌, zero-add, arith}
use Rattle.std.proofs.Math.Option.{some}
use Rattle.std.proofs.Math.Seq.{paste}
use Rattle.orders.specs.Tree.{Tree, Path, resolve}
use Rattle.words.specs.Parts.{get_d_inside}
use Rattle.rows_model.specs.Row.{Row, text_length, triples, rows_of, bytes}
use Rattle.rows_model.specs.Place.{place}
use Rattle.rows_model.proofs.PlaceLaws.{place_lt}
use Rattle.rows_model.proofs.Words.{length_triples}
use Rattle.rows_path.specs.Offset.{offset}
use Rattle.rows_path.proofs.Offset.{path_start}
use Rattle.finish_model.specs.Finished.{starts}
use Rattle.finish_model.proofs.Numbers.{starts_at}

-- l is d with the text start of each row of a tree at its front
pub record Starts (tree d l : List ℕ) : Type 0 where
  pub listed : (text : List ℕ) → l ≡ paste d 0 (starts 0 (triples text tree)) (length tree / 3)
  -- of each element what resolving its path gives
  pub paths : (text : List ℕ) (t : Tree ℕ) (p : Path) (u : Tree ℕ) → triples text tree ≡ rows_of t → resolve p t ≡ some u → get_or l (place p t) 0 ≡ offset p t

pub length_starts : (s : ℕ) (rs : List Row) → length (starts s rs) ≡ length rs
unfolding starts
length_starts s [] = refl
length_starts s (r ∷ rs) = ap suc (length_starts (s + text_length r) rs)

-- the starts that are listed are those of the paths
pub starts_listed : (tree d : List ℕ) {l : List ℕ} → length tree ≤ 3 * length d + 2 → ((text : List ℕ) → l ≡ paste d 0 (starts 0 (triples text tree)) (length tree / 3)) → Starts tree d l
starts_listed tree d {l} room e = record { listed = e; paths = go }
  where
    go : (text : List ℕ) (t : Tree ℕ) (p : Path) (u : Tree ℕ) → triples text tree ≡ rows_of t → resolve p t ≡ some u → get_or l (place p t) 0 ≡ offset p t
    go text t p u told f =
        let S : List ℕ = starts 0 (triples text tree) in
        let n = length_triples text tree in
        let m : length S ≡ length tree / 3 = length_starts 0 (triples text tree) ∙ n in
        let h : place p t < length (triples text tree) = rw told (place_lt p t u f) in
        ap (λ x. get_or x (place p t) 0) (e text)
        ∙ (get_d_inside d 0 S (length tree / 3) (omega arith) (omega arith) 0 (place p t) (place p t) (omega arith) (sym (zero-add (place p t)))
        ∙ (starts_at (triples text tree) 0 (place p t) h ∙ (zero-add (bytes (take (place p t) (triples text tree))) ∙ (ap (λ x. bytes (take (place p t) x)) told ∙ path_start p t u f))))
