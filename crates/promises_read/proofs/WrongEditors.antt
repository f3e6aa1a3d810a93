-- The reviewer's checklist, "Editors to try": each of them answers some batch with what no call that keeps its promise leaves. By computation.
-- Assumes nothing.
use Rattle.std.specs.Prelude.{◌≡◌, refl, Bool, true, false, ◌⊎◌, List, [], ◌∷◌, ◌++◌, ℕ, leb, eqb, length, get_or, take, drop}
use Rattle.std.proofs.Common.{sym, ap, ◌∙◌, inl, inr, arith, eqb-true}
use Rattle.std.proofs.lemmas.Bool.{eqb-false}
use Rattle.orders.specs.Lists.{any}
use Rattle.orders.specs.Tree.{Tree, text}
use Rattle.orders.specs.Splices
use Rattle.orders.proofs.Check
use Rattle.definition.specs.Basics.{Answer, refused, gives}
use Rattle.definition.specs.Choices.{by_default}
use Rattle.definition.specs.Finishing.{Result, encoded}
use Rattle.definition.specs.Answers.{edit}
use Rattle.definition.specs.Computing.{computed}
use Rattle.definition.specs.Examples.{Told, in_lists, in_bytes, two_after_x, with_notes}
use Rattle.definition_demand.specs.Aims.{replaces_root}
use Rattle.definition_demand.specs.Answered.{apart_in?, apart_plan?, apart_batch?, one_go_of}
use Rattle.result_laws.proofs.Worded.{tested_bytes}
use Rattle.promises.specs.Promises.{Edits}
use Rattle.promises_read.specs.Answered.{Lent, Leaves, edit_answered}
use Rattle.promises_read.specs.Demand3.{Shown}
use Rattle.promises_read.proofs.Demand3.{demand_3_tested}
use Rattle.promises_read.specs.WrongEditors.{Editor, Excluded, refusal, of_result, one_discarded, untouched, text_of_first, first_step_only, discards_made_up, climbs_made_up, before_the_step, always_overlaps, always}

-- ── An editor, and what excludes it ─────────────────────────────────────────────────────────────────────────

-- ONE LAW: an editor is excluded where a number that is told of its answer is not that of the definition's.
pub excluded : (number : Answer Result → ℕ) (b : Told) (e : Editor) → any (leb 256) (in_bytes b) ≡ false → eqb (number (e (in_bytes b))) (number (edit by_default (in_bytes b))) ≡ false → Excluded b e
excluded number b e y d held work r holds left p l q =
    let z = edit_answered by_default (in_bytes b) held work r holds left p (tested_bytes (in_bytes b) y) l in
    eqb-false (number (e (in_bytes b))) (number (edit by_default (in_bytes b))) d (ap number (sym q ∙ z.read))

-- An editor of which one number is told on two batches is excluded on one of them, where the definition's numbers differ.
pub either_excluded : (number : Answer Result → ℕ) (b c : Told) (e : Editor) → any (leb 256) (in_bytes b) ≡ false → any (leb 256) (in_bytes c) ≡ false → number (e (in_bytes b)) ≡ number (e (in_bytes c))
    → eqb (number (edit by_default (in_bytes b))) (number (edit by_default (in_bytes c))) ≡ false → Excluded b e ⊎ Excluded c e
either_excluded number b c e y z one d = go (eqb (number (e (in_bytes b))) (number (edit by_default (in_bytes b)))) refl
  where
    go : (t : Bool) → eqb (number (e (in_bytes b))) (number (edit by_default (in_bytes b))) ≡ t → Excluded b e ⊎ Excluded c e
    go false q = inl (excluded number b e y q)
    go true q = inr (excluded number c e z (rw (← one, eqb-true (number (e (in_bytes b))) (number (edit by_default (in_bytes b))) q) d))

-- ── The batches ─────────────────────────────────────────────────────────────────────────────────────────────

-- Of `two_after_x` (c after X, then d after X) two steps are performed, nothing is discarded and no climb taken; in `with_notes` one climb step is taken.

-- ── The editors ─────────────────────────────────────────────────────────────────────────────────────────────

pub untouched_excluded : Excluded two_after_x untouched
unfolding computed in_lists in_bytes untouched of_result
untouched_excluded = excluded (of_result (λ r. length r.text)) two_after_x untouched refl refl

-- ".. and 3's one-go tree": by demand 3 alone, a result slice that shows tree 0 as it was is excluded.
pub untouched_one_go_excluded : (held : List ℕ) (work : List (List ℕ)) (r : Answer ℕ) (holds : List ℕ) (left : List (List ℕ)) → Edits by_default (in_bytes two_after_x) held work r holds left
    → (n : ℕ) → r ≡ gives n → (old : Tree ℕ) → take 1 two_after_x.trees ≡ old ∷ [] → Shown old n holds → ⊥
unfolding
    computed in_lists in_bytes text_of_first replaces_root apart_in? apart_plan? apart_batch? one_go_of
    Check.each Check.pairs Check.enters? Check.run? Check.fits? Check.apart? Check.all_apart?
    Splices.same_path Splices.left_of Splices.under Splices.from_root Splices.from_child Splices.at_root Splices.below Splices.insert_by_left Splices.left_to_right Splices.new_children Splices.one_go Splices.one_go_all
untouched_one_go_excluded held work r holds left p n e old first h =
    let (t, o, s) = demand_3_tested by_default (in_bytes two_after_x) held work r holds left p (tested_bytes (in_bytes two_after_x) refl) n e refl in
    let two : 2 ≡ length (text old) = ap (λ ts. text_of_first (gives ts)) first in
    let four : 4 ≡ length (text t) = ap text_of_first o in
    absurd (omega (arith, two, four, h.size, s.size))

pub first_step_excluded : Excluded two_after_x first_step_only
unfolding computed in_lists in_bytes first_step_only of_result
first_step_excluded = excluded (of_result (λ r. length r.text)) two_after_x first_step_only refl refl

pub discards_excluded : (n : ℕ) → Excluded two_after_x (discards_made_up n) ⊎ Excluded one_discarded (discards_made_up n)
unfolding computed in_lists in_bytes discards_made_up of_result
discards_excluded n = either_excluded (of_result (λ r. r.discarded)) two_after_x one_discarded (discards_made_up n) refl refl refl refl

pub climbs_excluded : (n : ℕ) → Excluded two_after_x (climbs_made_up n) ⊎ Excluded with_notes (climbs_made_up n)
unfolding computed in_lists in_bytes climbs_made_up of_result
climbs_excluded n = either_excluded (of_result (λ r. r.climbs)) two_after_x with_notes (climbs_made_up n) refl refl refl refl

pub refusals_excluded : Excluded two_after_x (before_the_step 11) × Excluded two_after_x (before_the_step 12) × Excluded two_after_x always_overlaps
unfolding computed in_lists in_bytes before_the_step always_overlaps refusal
refusals_excluded = (excluded refusal two_after_x (before_the_step 11) refl refl, excluded refusal two_after_x (before_the_step 12) refl refl, excluded refusal two_after_x always_overlaps refl refl)

pub one_tree_excluded : (a : Answer Result) → Excluded two_after_x (always a) ⊎ Excluded one_discarded (always a)
unfolding computed in_lists in_bytes always of_result
one_tree_excluded a = either_excluded (of_result (λ r. length r.text)) two_after_x one_discarded (always a) refl refl refl refl

-- ── Writes nothing ──────────────────────────────────────────────────────────────────────────────────────────

-- "writes nothing": the result slice is as it was, whatever is answered. The answer to `two_after_x` begins with 6, its number of elements; so a slice that does
-- not is never left as it was.
pub nothing_written_excluded : (held : List ℕ) (work : List (List ℕ)) (r : Answer ℕ) (holds : List ℕ) (left : List (List ℕ)) → Edits by_default (in_bytes two_after_x) held work r holds left → Lent by_default (in_bytes two_after_x) held work
    → eqb (get_or held 0 0) 6 ≡ false → holds ≡ held → ⊥
unfolding computed in_lists in_bytes of_result
nothing_written_excluded held work r holds left p l d q =
    let z = edit_answered by_default (in_bytes two_after_x) held work r holds left p (tested_bytes (in_bytes two_after_x) refl) l in
    eqb-false (get_or held 0 0) 6 d (go (edit by_default (in_bytes two_after_x)) refl z.leaves)
  where
    begins : (bytes rest : List ℕ) → get_or bytes 0 0 ≡ 6 → get_or (bytes ++ rest) 0 0 ≡ 6
    begins [] rest e = absurd (omega (arith, e))
    begins (x ∷ bytes) rest e = e

    go : (o : Answer Result) → of_result (λ R. get_or (encoded R) 0 0) o ≡ 6 → Leaves o held r holds → get_or held 0 0 ≡ 6
    go (refused k) e h = absurd (omega (arith, e))
    go (gives R) e h = ap (λ l. get_or l 0 0) (sym q ∙ h.1) ∙ begins (encoded R) (drop (length (encoded R)) held) e
