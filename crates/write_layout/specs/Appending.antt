-- Some bytes go behind those that stand at the front of a draft.
-- Assumes nothing.
use Rattle.std.specs.Prelude.{◌≡◌, List, ◌++◌, ℕ, ◌+◌, ◌≤◌, length, take}
use Rattle.std.proofs.Common.{ap, ◌∙◌, append_assoc, arith, length-append, take_all}
use Rattle.std.proofs.Math.Seq.{paste}
use Rattle.std.proofs.lemmas.List.Edits.{take-paste}

-- `new` behind the first `at` bytes of a draft that held d; it holds e then, and its first r bytes are those
pub record Appended (d : List ℕ) (at : ℕ) (new e : List ℕ) (r : ℕ) : Type 0 where
  pub ends : r ≡ at + length new
  pub stands : take r e ≡ take at d ++ new

pub appended : {d e : List ℕ} {at n r : ℕ} {new : List ℕ} → at + n ≤ length d → n ≡ length new → e ≡ paste d at new n → r ≡ at + n → Appended d at new e r
appended {d} {e} {at} {n} {r} {new} h m q s = record {
  ends = omega arith;
  stands = rw (q, s) (take-paste d at new n (omega arith) (omega arith) ∙ ap (λ (l : List ℕ). take at d ++ l) (take_all n new (omega arith)));
}

-- one after another
pub appended_on : {d e f : List ℕ} {at r s : ℕ} {a b : List ℕ} → Appended d at a e r → Appended e r b f s → Appended d at (a ++ b) f s
appended_on {d} {e} {f} {at} {r} {s} {a} {b} p q = record {
  ends = omega (arith, p.ends, q.ends, length-append a b);
  stands = q.stands ∙ (ap (λ (l : List ℕ). l ++ b) p.stands ∙ append_assoc (take at d) a b);
}
