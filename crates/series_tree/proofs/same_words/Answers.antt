-- `same_words` meets its contract.
use native.Mathlib.Omega.{arith}
use Rattle.series_tree.specs.Same.{words_told}
use Rattle.series_tree.proofs.same_words.Goals as goal

pub returns : goal.returns
returns c =
    words_told c.args.a.now c.args.i c.args.b.now c.args.j c.args.n c.same_bytes.ensures c.requires.0 c.requires.1 (λ k. omega (arith, c.type_inv.a k)) (λ k. omega (arith, c.type_inv.b k))
