-- What the next element tells, where there is one and it may stand.
-- Assumes nothing.
use Rattle.std.specs.Prelude.{◌≡◌, true, false, ℕ, ◌+◌, ◌*◌, ◌^◌, ◌<◌, drop, Option, None, Some}
use Rattle.std.proofs.Math.Path.{subst}
use Rattle.definition.specs.Words.{word}
use Rattle.read_spelling.specs.Spelling.{stands}
use Rattle.read_spelling.specs.declared.columns.Columns.{Columns}

module _ (c : Columns) (i d : ℕ) where
  -- the kind word and the measure of element i, which may stand at depth d
  pub record Standing (e : ℕ × ℕ) : Type 0 where
    pub there : i < c.count
    pub kind : e.0 ≡ word (drop (c.kinds + 4 * i) c.bytes.now)
    pub measure : e.1 ≡ word (drop (c.measures + 4 * i) c.bytes.now)
    pub small : (e.0 < 2 ^ 32) × (e.1 < 2 ^ 32)
    pub stands : stands e.0 d ≡ true

  -- or there is none, or it may not
  abbrev pub Next : Option (ℕ × ℕ) → Type 0
  Next None = i < c.count → stands (word (drop (c.kinds + 4 * i) c.bytes.now)) d ≡ false
  Next (Some e) = Standing e

  pub none_stands : {o : Option (ℕ × ℕ)} → Next o → o ≡ None → i < c.count → stands (word (drop (c.kinds + 4 * i) c.bytes.now)) d ≡ false
  none_stands n e = subst (λ o. Next o) e n

  pub one_stands : {o : Option (ℕ × ℕ)} {e : ℕ × ℕ} → Next o → o ≡ Some e → Standing e
  one_stands n e = subst (λ o. Next o) e n
