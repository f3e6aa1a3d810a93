-- `put_text` meets its contract.
use mathlib.Core.Path.{◌≡◌, sym}
use mathlib.Core.Bool.{false}
use Prim.Native.Nat.{ℕ}
use borrow.Author.Tests.{eqb-true}
use lib.Dec.{eqb}
use lib.ListN.{length}
use borrow.Author.Rules.{rules}
use Rattle.edit_print.proofs.Turns.{no_text, text_put, text_room}
use Rattle.edit_print.proofs.put_text.Goals as goal

pub returns-then-is_empty : goal.returns-then-is_empty
returns-then-is_empty c = no_text _ (eqb-true _ _ (sym c.if-is_empty.ensures)) c.put_line.ensures

pub put-requires : goal.put-requires
put-requires c = search (text_room, rules)

-- the text is not empty
some : (n : ℕ) → false ≡ eqb n 0 → n ≡ 0 → ⊥
some n e z = let w = rw z at e in cc

pub returns : goal.returns
returns c = let h : length c.args.text.now ≡ 0 → ⊥ = some _ c.if-is_empty.ensures in search (text_put, rules)
