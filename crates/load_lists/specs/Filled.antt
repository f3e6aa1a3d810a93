-- What the lists of trees, calls and notes hold once they are filled.
-- Assumes nothing.
use Rattle.std.specs.Prelude.{◌≡◌, ℕ, ◌≤◌, length, take}
use mathlib.Core.List.{List, map, flat_map}
use Rattle.load_laws.specs.Load.{elements, kind_at, measure_at, byte_at, along, calls, noted}

-- the lists of the trees
pub record TreesFilled (ks ms bs : List ℕ) : Type 0 where
  pub kinds : ks ≡ along kind_at 0 elements
  pub measures : ms ≡ along measure_at 0 elements
  pub text : bs ≡ along byte_at 0 660

pub trees_filled : (ks ms bs ks₀ ms₀ bs₀ : List ℕ) → (792 ≡ length ks₀) × (792 ≡ length ms₀) × (660 ≡ length bs₀)
    → ks ≡ along kind_at 0 (length ks₀) → ms ≡ along measure_at 0 (length ms₀) → bs ≡ along byte_at 0 (length bs₀) → TreesFilled ks ms bs
trees_filled ks ms bs ks₀ ms₀ bs₀ (a, b, c) k m t = record { kinds = rw a k; measures = rw b m; text = rw c t }

-- the lists of the calls of a starting number; r elements are listed
pub record Filled (start : ℕ) (os ns rs ts ls : List ℕ) (r : ℕ) : Type 0 where
  pub operations : os ≡ map (λ c. c.operation) (calls start)
  pub counts : ns ≡ map (λ c. length c.listed) (calls start)
  pub rules : rs ≡ map (λ c. c.rule) (calls start)
  pub targets : ts ≡ map (λ c. c.target) (calls start)
  pub within : r ≤ length ls
  pub listed : take r ls ≡ flat_map (λ c. c.listed) (calls start)

-- the lists of its notes
pub record NotesFilled (start : ℕ) (es ns : List ℕ) : Type 0 where
  pub noted : es ≡ noted start
  pub numbers : ns ≡ along (λ n. n) 1 8
