-- READING ONLY THE CHANGED ELEMENTS SUFFICES (document 02, Note 13): what lies at or below none of them is an old element, as it was.
-- Assumes nothing.
use Rattle.std.specs.Prelude.{◌≡◌, refl, Bool, true, false, List, ◌∷◌, map, ◌⊎◌, ℕ, ◌<◌, eqb, length}
use Rattle.std.proofs.Math.Path.{sym}
use Rattle.std.proofs.Common.{ap, ◌∙◌, subst, inl, inr, arith, eqb-true}
use Rattle.std.proofs.Math.Option.{Option, none, some, bind}
use Rattle.std.proofs.Math.ListN.{get_elem?}
use Rattle.orders.specs.Lists.{any, All}
use Rattle.orders.specs.ListLaws.{bool_absurd, bool?, some_inj, get_take, any_mem, none_passes, total_none, All-mem}
use Rattle.orders.specs.Tree.{Tree, node, token, list, forest, children, label, Path, resolve}
use Rattle.orders.proofs.TreeLaws.{list_forest}
use Rattle.definition.specs.Basics.{gives, numbered}
use Rattle.definition.specs.Choices.{Choices}
use Rattle.definition.specs.Elements.{Table, table, row, tree}
use Rattle.definition.specs.Refusals.{Accepted, accepted}
use Rattle.definition.specs.Planning.{Planned}
use Rattle.definition.specs.Rewriting.{Note}
use Rattle.definition.specs.Running.{World, begin, present}
use Rattle.definition.specs.Finishing.{new_tree, new_table, Result, result}
use Rattle.definition.specs.Answers.{Plan, plan, performed, ran}
use Rattle.definition_laws.specs.Kin.{path_leads, resolve_down}
use Rattle.definition_laws.specs.Running.{present_kind}
use Rattle.definition_laws.specs.Held.{Holds}
use Rattle.definition_laws.proofs.Limits.{ran_known}
use Rattle.definition_account.specs.Words.{went_to, count, old_elements, is?, old_at, OneOf, changed, old, no_dependent_in0}
use Rattle.definition_account.proofs.Run.{Kept, first_present, first_kept, steps_kept, present_within}
use Rattle.definition_account.proofs.Numbers.{went_path}
use Rattle.definition_account.proofs.Account.{Performed, ran_performed}
use Rattle.definition_account.proofs.Tokens.{performed_tokens}
use Rattle.full_account.specs.Words.{trees_in, table_in, changed_above}
use Rattle.full_account.proofs.Says.{all_kept, each_of}
use Rattle.full_account.proofs.Holds.{trees_read, each_accounted}

-- what stands at the element n of these trees, with what is below it
unfoldable pub standing : List (Tree ℕ) → ℕ → Option (Tree ℕ)
standing ts n = resolve (row (table 0 0 ts) n).path (node 2147483648 (forest ts))

-- the element n of a result is an old element as it was; T is the table of the batch's trees ts
pub record AsItWas (T : Table) (ts : List (Tree ℕ)) (w : World) (R : Result) (n : ℕ) : Type 0 where
  pub old : ℕ
  pub within : old < length T
  pub in_tree0 : tree T old ≡ 0
  pub went : went_to w old ≡ some n
  -- its kind word
  pub kind : (row (table_in R) n).kind ≡ (row T old).kind
  -- and, if it is a token, its text
  pub text : (k : ℕ) (own : List ℕ) → standing ts old ≡ some (token k own) → standing (trees_in R) n ≡ some (token k own)

-- ── One old element went there ──────────────────────────────────────────────────────────────────────────────

old_in_0 : (T : Table) → All (λ x. tree T x ≡ 0) (old_elements T)
unfolding old_elements
old_in_0 T = let numbers : List ℕ = map (λ m. m.0) (numbered 0 T) in all_kept (λ x. eqb (tree T x) 0) (λ x. tree T x ≡ 0) numbers (each_of (λ x e. eqb-true (tree T x) 0 e) numbers)

is_there : (n : ℕ) (o : Option ℕ) → is? n o ≡ true → o ≡ some n
unfolding is?
is_there n none e = bool_absurd e refl
is_there n (some m) e = ap {B = Option ℕ} some (eqb-true m n e)

one_went : (T : Table) (w : World) (n : ℕ) → old_at T w n ≡ 1 → (x : ℕ) × (tree T x ≡ 0) × (went_to w x ≡ some n)
unfolding old_at count
one_went T w n e = go (bool? (any here (old_elements T)))
  where
    here : ℕ → Bool
    here x = is? n (went_to w x)

    go : (any here (old_elements T) ≡ true) ⊎ (any here (old_elements T) ≡ false) → (x : ℕ) × (tree T x ≡ 0) × (went_to w x ≡ some n)
    go (inl h) = let (x, m, q) = any_mem here (old_elements T) h in (x, All-mem (λ x. tree T x ≡ 0) (old_elements T) x (old_in_0 T) m, is_there n (went_to w x) q)
    go (inr h) = absurd (omega (arith, e, total_none here (λ x. 1) (old_elements T) (none_passes here (old_elements T) h)))

not_changed : {c o : ℕ} → OneOf c o → c ≡ 0 → o ≡ 1
not_changed changed e = absurd (omega arith)
not_changed old e = refl

-- ── It is as it was ─────────────────────────────────────────────────────────────────────────────────────────

-- the new tree stands in the current trees
same_place : (w : World) (q : Path) → resolve (0 ∷ q) (node 2147483648 (forest (new_tree w))) ≡ resolve (0 ∷ q) w.trees
unfolding new_tree children
same_place w q =
    let l : List (Tree ℕ) = list (children w.trees) in
    resolve_down 0 q (node 2147483648 (forest (new_tree w))) ∙ (ap (λ (m : List (Tree ℕ)). bind (get_elem? m 0) (λ c. resolve q c)) (list_forest (new_tree w))
    ∙ (ap (λ (o : Option (Tree ℕ)). bind o (λ c. resolve q c)) (get_take 1 l 0 (omega arith)) ∙ sym (resolve_down 0 q w.trees)))

module _ (ts : List (Tree ℕ)) (notes : List Note) (ps : List Planned) (w : World) (d : Performed ts notes ps w) (h : Holds w) where
  abbrev T : Table
  T = table 0 0 ts

  abbrev F : Table
  F = new_table w

  kept : Kept ts w
  kept = let k = first_kept ts notes d.worded in (steps_kept ts (begin ts T notes) k.follows.worded ps (begin ts T notes) w k d.right d.ran).0

  module _ (x n : ℕ) (i : tree T x ≡ 0) (e : went_to w x ≡ some n) where
    new : (n < length F) × (present w x ≡ some (row F n).path)
    new = went_path w ts kept h x n e

    within : x < length T
    within = present_within ts w kept x (row F n).path new.1

    -- what stands there in the new tree stands there in the current trees
    found : resolve (row F n).path (node 2147483648 (forest (new_tree w))) ≡ resolve (row F n).path w.trees
    found =
        let (q, y) = kept.home x (row F n).path new.1 in
        let z : (row F n).path ≡ 0 ∷ q = y ∙ ap {B = Path} (λ (t : ℕ). t ∷ q) i in
        rw z (same_place w q)

    same_kind : (row F n).kind ≡ (row T x).kind
    unfolding new_table
    same_kind =
        let (v, a, b) = path_leads (new_tree w) n 2147483648 new.0 in
        let (u, c, f) = present_kind ts w kept.follows x (row F n).path within new.1 in
        let z : v ≡ u = some_inj (sym a ∙ (found ∙ c)) in
        sym b ∙ (ap label z ∙ f)

    same_text : (k : ℕ) (own : List ℕ) → standing ts x ≡ some (token k own) → standing (new_tree w) n ≡ some (token k own)
    unfolding standing new_table begin
    same_text k own s = found ∙ performed_tokens ts notes ps w d x (row T x).path (row F n).path k own (first_present ts notes x within) s new.1

    as_it_was : (R : Result) → trees_in R ≡ new_tree w → AsItWas T ts w R n
    unfolding table_in new_table
    as_it_was R read = record { old = x; within = within; in_tree0 = i; went = e; kind = rw read same_kind; text = λ k own s. rw read (same_text k own s) }

-- ── Of a batch ──────────────────────────────────────────────────────────────────────────────────────────────

-- Every element of the new tree that lies at or below no changed element is an old element as it was, unless a dependent change ends in tree 0.
pub rest_as_it_was : (h : Choices) (bytes : List ℕ) (a : Accepted) (p : Plan) (w : World) → accepted bytes ≡ gives a → plan h a ≡ gives p → ran a p ≡ gives w → no_dependent_in0 a.table (performed a p) ≡ true
    → (n : ℕ) → n < length (result p.changes p.climbs w).kinds → changed_above (result p.changes p.climbs w) n ≡ 0 → AsItWas a.table a.trees w (result p.changes p.climbs w) n
rest_as_it_was h bytes a p w x y z d n l e =
    let K = ran_known h bytes a p w x y z in
    let R = result p.changes p.climbs w in
    let t : a.table ≡ table 0 0 a.trees = K.known.table in
    let (o, i, g) = one_went a.table w n (not_changed (each_accounted h bytes a p w x y z d n l) e) in
    subst (λ (T : Table). AsItWas T a.trees w R n) (sym t)
    (as_it_was a.trees p.notes (performed a p) w (ran_performed h bytes a p w x y z) K.holds o n (subst (λ (T : Table). tree T o ≡ 0) t i) g R (trees_read p.changes p.climbs w K.follows.worded))
