-- The surviving pairs from what a run leaves: by the marks of the old tree's elements.
-- Assumes nothing.
use Rattle.std.specs.Prelude.{◌≡◌, refl, List, [], ◌∷◌, ◌++◌, map, ℕ, suc, ◌+◌, ◌-◌, ◌≤◌, ◌<◌, length, get_or, take}
use Rattle.std.proofs.Common.{sym, ap, ◌∙◌, append_assoc, add-zero, zero-add, arith, length-take-le, get_or-take}
use Rattle.std.proofs.Math.Option
use Rattle.std.proofs.Math.Option.{Option, none, some, bind}
use Rattle.std.proofs.lemmas.List.{length-map}
use Rattle.orders.specs.Lists.{pick}
use Rattle.orders.specs.ListLaws.{zone_before}
use Rattle.orders.specs.Tree.{Tree, children, elements_of, Path}
use Rattle.orders.proofs.TreeLaws.{list_forest}
use Rattle.definition.specs.Basics.{gives, numbered}
use Rattle.definition.specs.Choices.{Choices}
use Rattle.definition.specs.Elements.{table}
use Rattle.definition.specs.Refusals.{Accepted, accepted}
use Rattle.definition.specs.Running.{World, present}
use Rattle.definition.specs.Finishing.{new_table, number_at}
use Rattle.definition.specs.Answers.{Plan, plan, performed, ran}
use Rattle.definition_laws.specs.Basics.{get_d_map}
use Rattle.definition_laws.specs.Rows.{table_length}
use Rattle.definition_laws.specs.Running.{top}
use Rattle.definition_laws.specs.Held.{Holds}
use Rattle.definition_account.specs.Words.{went_to}
use Rattle.definition_account.proofs.Run.{Kept}
use Rattle.definition_account.proofs.Numbers.{present_leads}
use Rattle.definition_account.proofs.Account.{ran_performed}
use Rattle.check_laws.specs.ListLaws.{numbers_of}
use Rattle.check_laws.specs.Claimed.{old_tree, own_pairs}
use Rattle.check_laws.proofs.Own as own
use Rattle.rows_model.specs.Row.{Row, rows_of, rows_all}
use Rattle.rows_model.proofs.RowLaws.{size_all_elements, size_below}
use Rattle.rows_model.specs.Place.{rows_after, in_run, mark_of}
use Rattle.finish_model.specs.Finished.{first_tree, number_of}
use Rattle.finish_model.proofs.Numbers.{first_tree_lem, tree_few, number_row}

-- the pair of the element x, where there is a new number
unfoldable pub pair_at : ℕ → Option ℕ → List (ℕ × ℕ)
pair_at x none = []
pair_at x (some n) = (x, n) ∷ []

-- the pair of the element x with a mark, where that is one of the rows 1 up to `end`; new numbers count from row 1 on
abbrev pub pair_of : ℕ → ℕ → ℕ → List (ℕ × ℕ)
pair_of end x m = pair_at x (in_run 1 end m)

-- those of marks of which the first is the element x's
unfoldable pub pairs_from : ℕ → ℕ → List ℕ → List (ℕ × ℕ)
pairs_from end x [] = []
pairs_from end x (m ∷ ms) = pair_of end x m ++ pairs_from end (suc x) ms

-- THE PAIRS, from the rows before and after and the marks: of the elements of the old tree alone
unfoldable pub kept_rows : List Row → List Row → List ℕ → List (ℕ × ℕ)
kept_rows before after marks = pairs_from (rows_after after 1 1) 0 (take (length (first_tree before)) marks)

pub pairs_append : (end x : ℕ) (a b : List ℕ) → pairs_from end x (a ++ b) ≡ pairs_from end x a ++ pairs_from end (x + length a) b
unfolding pairs_from
pairs_append end x [] b = ap (λ (y : ℕ). pairs_from end y b) (sym (add-zero x))
pairs_append end x (m ∷ a) b =
    let e : suc x + length a ≡ x + suc (length a) = omega arith in
    ap {B = List (ℕ × ℕ)} (λ l. pair_of end x m ++ l) (pairs_append end (suc x) a b ∙ ap {B = List (ℕ × ℕ)} (λ (y : ℕ). pairs_from end (suc x) a ++ pairs_from end y b) e)
    ∙ sym (append_assoc (pair_of end x m) (pairs_from end (suc x) a) (pairs_from end (x + suc (length a)) b))

-- ── They are the definition's ───────────────────────────────────────────────────────────────────────────────

-- what is picked by number from as many elements as there are marks
picked : {A : Type 0} (end : ℕ) (went : ℕ → Option ℕ) (k : ℕ) (l : List A) (ms : List ℕ) → length ms ≡ length l → ((i : ℕ) → i < length ms → in_run 1 end (get_or ms i 0) ≡ went (k + i))
    → pick (λ x. Option.map (λ n. (x, n)) (went x)) (numbers_of k l) ≡ pairs_from end k ms
unfolding numbers_of numbered pick pairs_from pair_at
picked end went k [] [] h f = refl
picked end went k [] (m ∷ ms) h f = absurd (omega arith)
picked end went k (y ∷ l) [] h f = absurd (omega arith)
picked end went k (y ∷ l) (m ∷ ms) h f =
    let rest = picked end went (suc k) l ms (omega arith) (λ i j. f (suc i) (omega arith) ∙ ap went (omega arith)) in
    let here : in_run 1 end m ≡ went k = f 0 (omega arith) ∙ ap went (add-zero k) in
    go (went k) refl (here) rest
  where
    go : (o : Option ℕ) → went k ≡ o → in_run 1 end m ≡ went k → pick (λ x. Option.map (λ n. (x, n)) (went x)) (numbers_of (suc k) l) ≡ pairs_from end (suc k) ms
        → pick (λ x. Option.map (λ n. (x, n)) (went x)) (numbers_of k (y ∷ l)) ≡ pairs_from end k (m ∷ ms)
    go none e i r = rw (e, i ∙ e) r
    go (some n) e i r = rw (e, i ∙ e) (ap {B = List (ℕ × ℕ)} (λ q. (k, n) ∷ q) r)

-- where an element went is told by its mark
mark_told : (ts : List (Tree ℕ)) (w : World) → Kept ts w → Holds w → (x : ℕ) → in_run 1 (rows_after (rows_of w.trees) 1 1) (mark_of w.trees (present w x)) ≡ went_to w x
unfolding went_to in_run mark_of bind number_of
mark_told ts w k h x = go (present w x) refl
  where
    go : (o : Option Path) → present w x ≡ o → in_run 1 (rows_after (rows_of w.trees) 1 1) (mark_of w.trees o) ≡ bind o (number_at (new_table w))
    go none e = zone_before 0 1 (rows_after (rows_of w.trees) 1 1) none (some (0 - 1)) none (omega arith)
    go (some p) e = number_row w p (present_leads w ts k h x p e)

-- the old tree has a row for each of its elements
old_rows : (ts : List (Tree ℕ)) → length (first_tree (rows_of (top ts))) ≡ length (table 0 0 (old_tree ts))
unfolding old_tree children
old_rows ts = ap length (first_tree_lem (top ts)) ∙ (ap (λ us. length (rows_all (take 1 us))) (list_forest ts) ∙ (size_all_elements (take 1 ts) ∙ sym (table_length (take 1 ts) 0 0)))

-- THE PAIRS of a batch, whatever the choices
pub kept_rows_lem : (h : Choices) (bytes : List ℕ) (a : Accepted) (p : Plan) (w : World) → accepted bytes ≡ gives a → plan h a ≡ gives p → ran a p ≡ gives w → (e : ℕ) (marks : List ℕ) → e ≤ length marks
    → take e marks ≡ map (mark_of w.trees) w.paths → kept_rows (rows_of (top a.trees)) (rows_of w.trees) marks ≡ own_pairs a.trees w
unfolding kept_rows own_pairs present children elements_of
kept_rows_lem h bytes a p w x y z e marks l t =
    let H = ran_performed h bytes a p w x y z in
    let K = own.kept a.trees p.notes (performed a p) w H in
    let paths : length w.paths ≡ length (table 0 0 a.trees) = ap length K.follows.paths ∙ length-map (table 0 0 a.trees) (λ r. K.follows.move r.path) in
    let many : e ≡ length w.paths = sym (length-take-le e marks l) ∙ (ap length t ∙ length-map w.paths (mark_of w.trees)) in
    let N = length (first_tree (rows_of (top a.trees))) in
    let few : N ≤ e = omega (arith, tree_few (rows_of (top a.trees)), size_below (top a.trees), table_length a.trees 0 0) in
    let long : length (take N marks) ≡ N = length-take-le N marks (omega arith) in
    let one : (i : ℕ) → i < length (take N marks) → get_or (take N marks) i 0 ≡ mark_of w.trees (present w i) =
    λ i j. get_or-take N marks i 0 (omega arith) ∙ (sym (get_or-take e marks i 0 (omega arith)) ∙ (ap (λ (m : List ℕ). get_or m i 0) t ∙ get_d_map (mark_of w.trees) w.paths i 0 none (omega arith))) in
    sym (picked (rows_after (rows_of w.trees) 1 1) (went_to w) 0 (table 0 0 (old_tree a.trees)) (take N marks) (long ∙ old_rows a.trees) (λ i j.
    ap (in_run 1 (rows_after (rows_of w.trees) 1 1)) (one i j) ∙ (mark_told a.trees w K (own.held a.trees p.notes (performed a p) w H) i ∙ ap (went_to w) (sym (zero-add i)))))
