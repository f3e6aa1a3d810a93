-- What a clause needs of the words that it reads, and the promise of `pair_up`.
-- Assumes nothing.
use Rattle.std.specs.Prelude.{◌≡◌, Bool, true, List, ℕ, ◌+◌, ◌*◌, ◌≤◌, ◌<◌, length}
use Rattle.check_model.specs.Clauses.{entry, partnered, fresh}
use Rattle.check_model.specs.Pairing.{Below}
use Rattle.check_model.specs.Table.{Sound}

-- the words of element x are there, and its own text stands in a text of so many bytes
pub record Reaches (table : List ℕ) (bytes x : ℕ) : Type 0 where
  pub long : 4 * x + 4 ≤ length table
  pub starts : entry table x 1 ≤ entry table x 2
  pub ends : entry table x 2 ≤ bytes

-- and its parent is one of so many elements
pub record Climbs (table : List ℕ) (elements x : ℕ) : Type 0 where
  pub long : 4 * x + 4 ≤ length table
  pub parent : entry table x 3 ≤ elements

-- the words of n elements are there, and parents stand before their children
pub record Linked (table : List ℕ) (n : ℕ) : Type 0 where
  pub long : 4 * n ≤ length table
  pub before : (x : ℕ) → x < n → entry table x 3 ≤ x

-- the numbers of a list are of such elements
pub record Climbed (table list : List ℕ) : Type 0 where
  pub n : ℕ
  pub linked : Linked table n
  pub below : Below n list

-- or of elements whose own texts stand in a text of so many bytes
pub record Reached (table : List ℕ) (bytes : ℕ) (list : List ℕ) : Type 0 where
  pub n : ℕ
  pub long : 4 * n ≤ length table
  pub sound : Sound n bytes table
  pub below : Below n list

-- what all clauses together need, of pairs, the words of two trees, texts, partners and marks of these lengths, and n new elements
pub record Ready (olds news old new : List ℕ) (bytes bytes' partners marks n : ℕ) : Type 0 where
  pub alike : length news ≡ length olds
  pub old_reached : Reached old bytes olds
  pub new_reached : Reached new bytes' news
  pub linked : Linked new n
  pub below : Below partners news
  pub some : 0 < partners
  pub room : n ≤ partners
  pub room' : n ≤ marks

-- THE PROMISE of `pair_up`: no new element stands twice, and then all partners are written
pub record PairsUp (P : List (ℕ × ℕ)) (w : List ℕ) (r : Bool) (w' : List ℕ) : Type 0 where
  pub verdict : r ≡ fresh w P
  pub written : r ≡ true → w' ≡ partnered w P
