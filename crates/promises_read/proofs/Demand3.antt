-- DEMAND 3, its last sentence, of every call that keeps its promise: what stands in the result slice is the old tree rewritten in one go.
-- Assumes nothing.
use Rattle.std.specs.Prelude.{◌≡◌, refl, true, List, [], ◌∷◌, ◌++◌, ℕ, ◌+◌, ◌-◌, ◌*◌, drop}
use Rattle.std.proofs.Common.{sym, ◌∙◌, arith, take-append-drop}
use Rattle.std.proofs.Math.Path.{ap}
use Rattle.std.proofs.Math.ListN.{length, length-map}
use Rattle.orders.specs.Tree.{Tree, label, preorder}
use Rattle.orders.specs.Splices.{one_go}
use Rattle.definition.specs.Basics.{Answer, gives, ◌>>=◌}
use Rattle.definition.specs.Choices.{Choices}
use Rattle.definition.specs.Words.{word, words}
use Rattle.definition.specs.Refusals.{Accepted, accepted}
use Rattle.definition.specs.Finishing.{Result, encoded}
use Rattle.definition.specs.Answers.{Plan, plan}
use Rattle.definition.specs.Performed.{splices, splices_of}
use Rattle.definition_laws.specs.Limits.{Within}
use Rattle.definition_laws.proofs.Limits.{encoded_length, edit_within}
use Rattle.definition_demand.specs.Answered.{ApartIn, Shows, apart_batch?, one_go_of}
use Rattle.definition_demand.proofs.Answered.{tested_one_go}
use Rattle.definition_demand.proofs.Demand3.{demand_3}
use Rattle.result_laws.proofs.Worded.{Bytes, edit_worded}
use Rattle.result_laws.specs.Decoded.{text_at, told, decoded}
use Rattle.result_laws.proofs.Encoded.{elements_read, text_read, text_behind, decoded_encoded}
use Rattle.promises.specs.Promises.{Edits}
use Rattle.promises_read.specs.Demand1.{Finished}
use Rattle.promises_read.proofs.Demand1.{demand_1}
use Rattle.promises_read.specs.Demand3.{Shown}

-- ── The three arrays ────────────────────────────────────────────────────────────────────────────────────────

module _ (h : Choices) (b held : List ℕ) (n : ℕ) (holds : List ℕ) (y : Bytes b) (f : Finished h b held n holds) where
  -- the result that is answered
  abbrev R : Result
  R = f.result

  there : holds ≡ encoded R ++ drop n holds
  there = sym (take-append-drop n holds) ∙ ap (λ (l : List ℕ). l ++ drop n holds) f.front

  within : Within R
  within = edit_within h b R f.edits

  -- which is read in the slice
  pub finished_read : decoded holds ≡ R
  finished_read = decoded_encoded R holds (drop n holds) there within (edit_worded h b R y f.edits)

  -- what is finished shows its tree at these places
  pub finished_shown : (t : Tree ℕ) → Shows t R → Shown t n holds
  unfolding decoded told
  finished_shown t s =
      let many : length R.kinds ≡ length (preorder t) = ap length s.kinds ∙ length-map (preorder t) label in
      let elements : word holds ≡ length (preorder t) = elements_read R holds (drop n holds) there within ∙ many in
      let last : n - length R.text ≡ text_at (length R.kinds) (length R.changed) (length R.numbers) = omega (arith, f.size, encoded_length R within.measures within.ruled within.noted) in
      record {
        elements = elements;
        size = text_read R holds (drop n holds) there within ∙ ap length s.text;
        kinds = ap (λ (k : ℕ). words k (drop 24 holds)) (sym elements) ∙ (ap (λ x. x.kinds) finished_read ∙ s.kinds);
        measures = ap (λ (k : ℕ). words k (drop (24 + 4 * k) holds)) (sym elements) ∙ (ap (λ x. x.measures) finished_read ∙ s.measures);
        text = rw (← s.text, last) (text_behind R holds (drop n holds) there within);
      }

-- ── The demand ──────────────────────────────────────────────────────────────────────────────────────────────

-- "every accepted batch whose splices are apart and leave the root unreplaced answers with that tree": so does every call that keeps its promise and does not refuse,
-- whatever edge rule is chosen.
-- Its splices are `splices_of` of the batch, `old` is tree 0; of the result the kind words, measures and text are meant.
pub demand_3_answered : (h : Choices) (b held : List ℕ) (work : List (List ℕ)) (r : Answer ℕ) (holds : List ℕ) (left : List (List ℕ)) → Edits h b held work r holds left → Bytes b
    → (n : ℕ) → r ≡ gives n → (a : Accepted) (p : Plan) → accepted b ≡ gives a → plan h a ≡ gives p → (old : Tree ℕ) → ApartIn old a p
    → (splices_of h b ≡ gives (splices a p)) × Shown (one_go (splices a p) old) n holds
unfolding splices_of ◌>>=◌
demand_3_answered c b held work r holds left q h n e a p x y old s =
    let f = (demand_1 c b held work r holds left q).finished n e in
    let o = demand_3.answer c b f.result f.edits a p x y old s in
    (rw (x, y, o.run) refl, finished_shown c b held n holds h f (one_go (splices a p) old) o.shows)

-- The same where a test on the batch alone says that its splices are apart and leave the root.
pub demand_3_tested : (h : Choices) (b held : List ℕ) (work : List (List ℕ)) (r : Answer ℕ) (holds : List ℕ) (left : List (List ℕ)) → Edits h b held work r holds left → Bytes b
    → (n : ℕ) → r ≡ gives n → apart_batch? h b ≡ gives true → (t : Tree ℕ) × (one_go_of h b ≡ gives (t ∷ [])) × Shown t n holds
demand_3_tested h b held work r holds left q y n e c =
    let f = (demand_1 h b held work r holds left q).finished n e in
    let (t, o, s) = tested_one_go h b f.result f.edits c in
    (t, o, finished_shown h b held n holds y f t s)
