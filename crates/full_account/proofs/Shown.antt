-- The examples of the account, of every call that keeps its promise: what is counted in its result slice is what is told.
-- Assumes nothing.
use Rattle.std.specs.Prelude.{◌≡◌, refl, false, ℕ, leb}
use Rattle.std.proofs.Common.{sym, ap, ◌∙◌}
use mathlib.Core.List.{List, [], ◌∷◌, map, head-eq_of_cons-eq, tail-eq_of_cons-eq}
use Rattle.orders.specs.Lists.{any, All}
use Rattle.orders.specs.ListLaws.{none_passes}
use Rattle.definition.specs.Basics.{Answer, gives}
use Rattle.definition.specs.Answers.{edit}
use Rattle.definition.specs.Computing.{computed}
use Rattle.definition.specs.Examples.{in_lists, in_bytes}
use Rattle.definition.specs.EdgeExamples.{edge}
use Rattle.definition_laws.specs.Answers.{gives_inj, given}
use Rattle.result_laws.proofs.Worded.{tested_bytes}
use Rattle.result_laws.specs.Decoded.{decoded}
use Rattle.promises.specs.Promises.{Edits}
use Rattle.promises_read.proofs.Demand1.{demand_1}
use Rattle.promises_read.proofs.Demand3.{finished_read}
use Rattle.full_account.specs.Words.{sheet_of, sheet}
use Rattle.full_account.proofs.Answered.{Counted, note_13_answered}
use Rattle.full_account.specs.Examples.{Case, table, account, counted}

-- every call on this batch by this edge rule that keeps its promise and does not refuse: in its slice stand the changed elements that are told, and what is counted there is the sheet that is told
abbrev pub Shows : Case → Type 0
Shows m =
    (held : List ℕ) (work : List (List ℕ)) (r : Answer ℕ) (holds : List ℕ) (left : List (List ℕ)) → Edits (edge m.0.0) (in_bytes m.0.1) held work r holds left → (n : ℕ) → r ≡ gives n
    → ((decoded holds).changed ≡ m.1.0) × (c : Counted (edge m.0.0) (in_bytes m.0.1) holds) × (sheet_of c.batch c.planned c.end (decoded holds) ≡ m.1.1)

case_shown : (m : Case) → any (leb 256) (in_bytes m.0.1) ≡ false → account m.0 ≡ gives m.1 → Shows m
unfolding account
case_shown m y e held work r holds left q n z =
    let h = edge m.0.0 in
    let b = in_bytes m.0.1 in
    let f = (demand_1 h b held work r holds left q).finished n z in
    let c = note_13_answered h b held work r holds left q (tested_bytes b y) n z in
    given (edit h b) _ e λ R i e.
    given (sheet h b) _ e λ s j e.
    let told : (R.changed, s) ≡ m.1 = gives_inj e in
    let read : decoded holds ≡ R = finished_read h b held n holds (tested_bytes b y) f ∙ gives_inj (sym f.edits ∙ i) in
    (ap (λ x. x.changed) read ∙ ap (λ x. x.0) told, c, gives_inj (sym c.counts ∙ j) ∙ ap (λ x. x.1) told)

-- the batches of the table are of bytes
in_bytes_lem : any (λ m. any (leb 256) (in_bytes m.0.1)) table ≡ false
unfolding computed in_lists in_bytes
in_bytes_lem = refl

-- THE TABLE, of every call
pub table_shown : All Shows table
table_shown = go table (none_passes (λ m. any (leb 256) (in_bytes m.0.1)) table in_bytes_lem) counted.0
  where
    go : (es : List Case) → All (λ m. any (leb 256) (in_bytes m.0.1) ≡ false) es → map (λ m. account m.0) es ≡ map (λ m. gives m.1) es → All Shows es
    go [] h e = tt
    go (m ∷ es) h e = (case_shown m h.0 (head-eq_of_cons-eq e), go es h.1 (tail-eq_of_cons-eq e))
