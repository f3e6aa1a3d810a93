-- THE ACCOUNT OF A BATCH (document 02, Note 5): the fates said are true, the overlap told is true, and both agree with the edit itself.
-- Assumes nothing.
use Rattle.std.specs.Prelude.{◌≡◌, refl, Bool, true, false, cond, not, ◌↔◌, ℕ, zero, suc, ◌≤◌, ◌<◌, eqb, length, get_or}
use Rattle.std.proofs.Common.{sym, ap, ◌∙◌, arith}
use mathlib.Core.List.{List, [], ◌∷◌, map, head_d, Permᴰ}
use Rattle.std.proofs.Math.Option.{Option, none, some}
use Rattle.std.proofs.lemmas.Bool.{not-true}
use Rattle.std.proofs.Math.ListN.{get_elem?, get_or-map}
use Rattle.std.proofs.lemmas.List.{length-map}
use Rattle.orders.specs.Lists.{All, pick}
use Rattle.orders.specs.ListLaws.{some_inj, both_true, get_lt, lt_get, get_mem, All-map, All-mem}
use Rattle.orders.specs.Tree.{Tree, node, forest, Path, resolve}
use Rattle.orders.proofs.TreeLaws.{list_forest, resolve_child}
use Rattle.definition.specs.Basics.{gives, keep}
use Rattle.definition.specs.Choices.{Choices}
use Rattle.definition.specs.Elements.{Table, table, row, tree}
use Rattle.definition.specs.Refusals.{Accepted, accepted}
use Rattle.definition.specs.Recording.{first_child, after, Change, insert, replace, delete, replace_with_many, replace_all}
use Rattle.definition.specs.Planning.{target, overlap, Fate, own, dependent, is_discarded, node_by_node, fates, Planned, Judgement, overlaps, fated}
use Rattle.definition.specs.EdgeRule.{region_depth, fates1, fates_by, planned, judge}
use Rattle.definition.specs.Rewriting.{mapping, rewritten, settled}
use Rattle.definition.specs.Running.{World}
use Rattle.definition.specs.Finishing.{Result, result, six_sizes}
use Rattle.definition.specs.Answers.{remaining, judge_changes, disjoint, rewrite_changes, Plan, plan, performed, ran, edit}
use Rattle.definition_laws.specs.Basics.{keep_yes, keep_no, numbered_get}
use Rattle.definition_laws.specs.Answers.{given, gives_inj}
use Rattle.definition_laws.specs.Kin.{path_leads, path_long, get_get_d}
use Rattle.definition_laws.specs.Right.{Right, Sits, right_sits}
use Rattle.definition_laws.specs.Accepted.{Known, accepts}
use Rattle.definition_laws.specs.Stages.{planned_fates, judge_fated, rewritten_all, fates_length, fates1_length, fates_by_0, fates_by_1}
use Rattle.definition_laws.specs.Plans.{disjoint_fated, checked, changes, changes_right}
use Rattle.definition_edge.proofs.Depths.{taken_deeper}
use Rattle.definition_edge.specs.Fates.{FateAt, Says}
use Rattle.definition_edge.proofs.Fates.{fates_true}
use Rattle.account_laws.specs.Words.{at, tree_of, InTrees, fate_at, Overlap}
use Rattle.account_laws.proofs.Owners.{named_exactly, own_exactly, dependent_exactly, named_contains}
use Rattle.account_laws.proofs.Overlap.{overlap_true, overlap_first}
use Rattle.account_laws.proofs.Exactly.{overlap_none}
use Rattle.account_laws.proofs.Runs.{nothing, Led, led_by, fate_of, order_permutes}
use Rattle.account_laws.specs.Account.{Accounted, Agrees}

-- ── Trees ───────────────────────────────────────────────────────────────────────────────────────────────────

-- an element's tree is one of the trees
tree_within : (ts : List (Tree ℕ)) (n : ℕ) → n < length (table 0 0 ts) → tree (table 0 0 ts) n < length ts
unfolding tree head_d
tree_within ts n h = let (x, e, l) = path_leads ts n 0 h in go (row (table 0 0 ts) n).path x (path_long ts n h) e
  where
    go : (p : Path) (x : Tree ℕ) → 0 < length p → resolve p (node 0 (forest ts)) ≡ some x → head_d p 0 < length ts
    go [] x h e = absurd (omega arith)
    go (t ∷ p) x h e = let (c, g, r) = resolve_child 0 (forest ts) t p x e in get_lt ts t (rw (list_forest ts) at g)

target_within : (T : Table) (c : Change) → Sits T c → target c < length T
unfolding target
target_within T (insert first_child x l) s = s.0
target_within T (insert after x l) s = s.0
target_within T (replace x y) s = s
target_within T (delete x) s = s.0
target_within T (replace_with_many x l) s = s.0
target_within T (replace_all x y l) s = s.0

-- ── The changes of a batch ──────────────────────────────────────────────────────────────────────────────────

-- "at most 16 trees": every change of an accepted batch is of one of the trees 0 to 15
pub sorted_in_trees : (h : Choices) (bytes : List ℕ) (a : Accepted) → accepted bytes ≡ gives a → InTrees a.table (changes h a)
sorted_in_trees h bytes a e = let k = accepts bytes a e in All-map (λ c r. few k c r) (changes h a) (changes_right a (checked bytes a k) h)
  where
    few : Known bytes a → (c : Change) → Right a.table c → tree_of a.table c < 16
    few k c r =
        let inside : target c < length (table 0 0 a.trees) = rw k.table at (target_within a.table c (right_sits a.table c r)) in
        rw k.table (omega (arith, tree_within a.trees (target c) inside, k.roots, k.limits.trees))

-- ── What is said ────────────────────────────────────────────────────────────────────────────────────────────

pub fates_accounted : (T : Table) (cs : List Change) → InTrees T cs → Accounted T cs (fates T cs)
fates_accounted T cs h = record {
  long = fates_length T cs;
  contains = λ i k b e. named_contains T cs h i b k e;
  picked = λ i k b. named_exactly T cs h i b k;
  alone = λ i b. own_exactly T cs h i b;
  leads = λ i k b. dependent_exactly T cs h i b k;
}

-- what is judged without overlap has the definition's fates
judged_fates : (h : Choices) (a : Accepted) (ps : List Planned) → judge_changes h a ≡ fated ps → map (λ p. p.fate) ps ≡ fates_by h a.table (changes h a)
unfolding judge_changes
judged_fates h a ps e = ap (map (λ p. p.fate)) (judge_fated h a.table (remaining h a) ps e).1 ∙ planned_fates h a.table (remaining h a)

-- WHAT IS SAID OF EACH CHANGE IS TRUE, by rule 0
pub account_true : (h : Choices) (bytes : List ℕ) (a : Accepted) (ps : List Planned) → h.edge ≡ 0 → accepted bytes ≡ gives a → judge_changes h a ≡ fated ps → Accounted a.table (changes h a) (map (λ p. p.fate) ps)
account_true h bytes a ps z e j = rw (judged_fates h a ps j, fates_by_0 h a.table z (changes h a)) (fates_accounted a.table (changes h a) (sorted_in_trees h bytes a e))

-- the changes of an accepted batch have their targets in its trees
changes_sit : (h : Choices) (bytes : List ℕ) (a : Accepted) → accepted bytes ≡ gives a → All (Sits a.table) (changes h a)
changes_sit h bytes a e = All-map (λ c r. right_sits a.table c r) (changes h a) (changes_right a (checked bytes a (accepts bytes a e)) h)

table_true : (ts : List (Tree ℕ)) (T : Table) → T ≡ table 0 0 ts → (cs : List Change) → All (Sits T) cs → (i : ℕ) (c : Change) → get_elem? cs i ≡ some c → (f : Fate) → FateAt T cs i f ↔ Says T cs i c f
table_true ts T q = rw q (λ cs s i c e f. fates_true ts cs s i c e f)

-- AND BY RULE 1: "The account of Note 5 names that region instead.": the innermost that takes the change, and `own` exactly if none does
pub account_true_1 : (h : Choices) (bytes : List ℕ) (a : Accepted) (ps : List Planned) → h.edge ≡ 1 → accepted bytes ≡ gives a → judge_changes h a ≡ fated ps
    → (i : ℕ) (c : Change) → get_elem? (changes h a) i ≡ some c → (f : Fate) → (get_elem? (map (λ p. p.fate) ps) i ≡ some f) ↔ Says a.table (changes h a) i c f
account_true_1 h bytes a ps z e j = rw (judged_fates h a ps j, fates_by_1 h a.table z (changes h a)) (table_true a.trees a.table (accepts bytes a e).table (changes h a) (changes_sit h bytes a e))

judged_overlap : (h : Choices) (a : Accepted) (j k : ℕ) → judge_changes h a ≡ overlaps j k → overlap a.table (changes h a) ≡ some (j, k)
unfolding judge_changes judge
judged_overlap h a j k e = go (overlap a.table (changes h a)) refl e
  where
    go : (o : Option (ℕ × ℕ)) → overlap a.table (changes h a) ≡ o → elim o as (λ _. Judgement) [ none ↦ fated (planned h a.table (remaining h a)) | some p ↦ overlaps p.0 p.1 ] ≡ overlaps j k → overlap a.table (changes h a) ≡ some (j, k)
    go none g e = absurd (let z : ◌≡◌ {A = ℕ} 0 1 = cc in omega arith)
    go (some p) g e =
        let x : p.0 ≡ j = cc in
        let y : p.1 ≡ k = cc in
        g ∙ rw (← x, ← y)

-- THE PAIR THAT IS TOLD OVERLAPS, and no pair overlaps whose later change comes before k
pub overlap_told : (h : Choices) (a : Accepted) (j k : ℕ) → judge_changes h a ≡ overlaps j k → Overlap a.table (changes h a) j k × ((i m : ℕ) → Overlap a.table (changes h a) i m → k ≤ m)
overlap_told h a j k e = let o = judged_overlap h a j k e in (overlap_true a.table (changes h a) j k o, λ i m. overlap_first a.table (changes h a) j k o i m)

-- what is judged without overlap has no pair that overlaps
pub disjoint_told : (h : Choices) (a : Accepted) (ps : List Planned) → judge_changes h a ≡ fated ps → (j k : ℕ) → ¬ Overlap a.table (changes h a) j k
unfolding judge_changes
disjoint_told h a ps e j k = (overlap_none a.table (changes h a)).0 (judge_fated h a.table (remaining h a) ps e).0 j k

-- ── The edit itself ─────────────────────────────────────────────────────────────────────────────────────────

-- a plan's changes were judged, and each keeps its fate as it is rewritten
plan_judged : (h : Choices) (a : Accepted) (p : Plan) → plan h a ≡ gives p → (ps : List Planned) × (judge_changes h a ≡ fated ps) × (map (λ q. q.fate) p.changes ≡ map (λ q. q.fate) ps)
unfolding plan rewrite_changes
plan_judged h a p e =
    given (disjoint (judge_changes h a)) _ e λ ps x e.
    given (rewritten a.table (mapping a.mappings) ps) _ e λ r y e.
    given (settled a.table (mapping a.mappings) 0 a.notes) _ e λ notes z e.
    (ps, disjoint_fated (judge_changes h a) ps x, rw (← gives_inj e) (rewritten_all a.table (mapping a.mappings) ps r y).fates)

-- THE FATES SAID ARE THOSE OF THE PLAN
pub plan_fates : (h : Choices) (a : Accepted) (p : Plan) → plan h a ≡ gives p → map (λ q. q.fate) p.changes ≡ fates_by h a.table (changes h a)
plan_fates h a p e = let (ps, j, s) = plan_judged h a p e in s ∙ judged_fates h a ps j

-- of changes with the definition's fates, each dependent one's owner comes before it and is not discarded
fates_led : (T : Table) (cs : List Change) (qs : List Planned) → InTrees T cs → map (λ q. q.fate) qs ≡ fates T cs → Led (fate_of qs) (length qs)
fates_led T cs qs h e = record { level = λ x. x; low = λ x b. b; owner = one }
  where
    said : (i : ℕ) → fate_at T cs i ≡ fate_of qs i
    said i = ap (λ l. get_or l i own) (sym e) ∙ get_or-map (λ q. q.fate) qs i nothing

    one : (x y : ℕ) → x < length qs → fate_of qs x ≡ dependent y → (y < length qs) × (y < x) × (is_discarded (fate_of qs y) ≡ false)
    one x y b d =
        let long : length qs ≡ length cs = sym (length-map qs (λ q. q.fate)) ∙ (ap length e ∙ fates_length T cs) in
        let (o, c, n) = (dependent_exactly T cs h x (omega arith) y).0 (said x ∙ d) in
        let before : y < x = o.owns.contains.before in
        (omega arith, before, ap is_discarded (sym (said y)) ∙ c)

-- the fate at a place
get_fate : (qs : List Planned) (i : ℕ) → i < length qs → get_elem? (map (λ q. q.fate) qs) i ≡ some (fate_of qs i)
get_fate [] i h = absurd (omega arith)
get_fate (q ∷ qs) zero h = refl
get_fate (q ∷ qs) (suc i) h = get_fate qs i (omega arith)

-- by rule 1 the owner is one of them, not discarded, and its target parent is further out
fates1_led : (ts : List (Tree ℕ)) (T : Table) → T ≡ table 0 0 ts → (cs : List Change) → All (Sits T) cs → (qs : List Planned) → map (λ q. q.fate) qs ≡ fates1 T cs → Led (fate_of qs) (length qs)
fates1_led ts T z = rw z led
  where
    led : (cs : List Change) → All (Sits (table 0 0 ts)) cs → (qs : List Planned) → map (λ q. q.fate) qs ≡ fates1 (table 0 0 ts) cs → Led (fate_of qs) (length qs)
    led cs s qs e = led_by (fate_of qs) (length qs) (λ x. region_depth (table 0 0 ts) (at cs x)) one
      where
        long : length qs ≡ length cs
        long = sym (length-map qs (λ q. q.fate)) ∙ (ap length e ∙ fates1_length (table 0 0 ts) cs)

        told : (i : ℕ) → i < length qs → FateAt (table 0 0 ts) cs i (fate_of qs i)
        told i b = ap (λ l. get_elem? l i) (sym e) ∙ get_fate qs i b

        one : (x y : ℕ) → x < length qs → fate_of qs x ≡ dependent y → (y < length qs) × (region_depth (table 0 0 ts) (at cs y) < region_depth (table 0 0 ts) (at cs x)) × (is_discarded (fate_of qs y) ≡ false)
        one x y b d =
            let (c, g) = lt_get cs x (omega (arith, long)) in
            let u = (fates_true ts cs s x c g (dependent y)).0 (told x b ∙ ap some d) in
            let (j, n, r) = numbered_get 0 cs (y, u.region) u.innermost.one in
            let k : j ≡ y = omega arith in
            let r : get_elem? cs y ≡ some u.region = rw k at r in
            let within : y < length qs = omega (arith, get_lt cs y r, long) in
            let (stays, whole) = both_true (not (is_discarded u.fate)) (node_by_node (table 0 0 ts) u.region) u.owns in
            let same : fate_of qs y ≡ u.fate = some_inj (sym (told y within) ∙ u.told) in
            let sits : (i : ℕ) (m : Change) → get_elem? cs i ≡ some m → Sits (table 0 0 ts) m = λ i m q. All-mem (Sits (table 0 0 ts)) cs m s (get_mem cs i m q) in
            (within, rw (get_get_d cs y u.region (delete 0) r, get_get_d cs x c (delete 0) g) (taken_deeper ts (y, u.region) (x, c) (sits y u.region r) (sits x c g) u.innermost.belongs whole), rw same (not-true _ stays))

-- so by whatever choice
by_led : (h : Choices) (bytes : List ℕ) (a : Accepted) → accepted bytes ≡ gives a → (qs : List Planned) → map (λ q. q.fate) qs ≡ fates_by h a.table (changes h a) → Led (fate_of qs) (length qs)
unfolding fates_by
by_led h bytes a x qs e = go (eqb h.edge 0) e
  where
    go : (b : Bool) → map (λ q. q.fate) qs ≡ cond b (fates a.table (changes h a)) (fates1 a.table (changes h a)) → Led (fate_of qs) (length qs)
    go true e = fates_led a.table (changes h a) qs (sorted_in_trees h bytes a x) e
    go false e = fates1_led a.trees a.table (accepts bytes a x).table (changes h a) (changes_sit h bytes a x) qs e

-- WHAT IS PERFORMED IS A PERMUTATION OF WHAT IS NOT DISCARDED
pub performed_not_discarded : (h : Choices) (bytes : List ℕ) (a : Accepted) (p : Plan) → accepted bytes ≡ gives a → plan h a ≡ gives p → Permᴰ (keep (λ q. not (is_discarded q.fate)) p.changes) (performed a p)
unfolding performed
performed_not_discarded h bytes a p e g = order_permutes a.table p.changes (by_led h bytes a e p.changes (plan_fates h a p g))

-- as many planned changes are discarded as fates say
kept_fates : (qs : List Planned) → length (keep (λ q. is_discarded q.fate) qs) ≡ length (keep is_discarded (map (λ q. q.fate) qs))
unfolding keep pick
kept_fates [] = refl
kept_fates (q ∷ qs) = go (is_discarded q.fate) refl (kept_fates qs)
  where
    go : (b : Bool) → is_discarded q.fate ≡ b → length (keep (λ q. is_discarded q.fate) qs) ≡ length (keep is_discarded (map (λ q. q.fate) qs))
        → length (keep (λ q. is_discarded q.fate) (q ∷ qs)) ≡ length (keep is_discarded (q.fate ∷ map (λ q. q.fate) qs))
    go true e h = rw (keep_yes (λ q. is_discarded q.fate) q qs e, keep_yes is_discarded q.fate (map (λ q. q.fate) qs) e, h)
    go false e h = rw (keep_no (λ q. is_discarded q.fate) q qs e, keep_no is_discarded q.fate (map (λ q. q.fate) qs) e) h

-- THE RESULT'S FIFTH SIZE COUNTS THE FATES THAT SAY `discarded`
pub discards_counted : (h : Choices) (a : Accepted) (p : Plan) (w : World) → plan h a ≡ gives p → get_or (six_sizes (result p.changes p.climbs w)) 4 0 ≡ length (keep is_discarded (fates_by h a.table (changes h a)))
unfolding six_sizes result
discards_counted h a p w e = kept_fates p.changes ∙ ap (λ l. length (keep is_discarded l)) (plan_fates h a p e)

-- THE ACCOUNT AGREES WITH THE EDIT: a batch that is edited was judged without overlap, and the fates said of its changes are those of the edit
pub account_agrees : (h : Choices) (bytes : List ℕ) (r : Result) → edit h bytes ≡ gives r
    → (a : Accepted) × (ps : List Planned) × (p : Plan) × (accepted bytes ≡ gives a) × (judge_changes h a ≡ fated ps) × (plan h a ≡ gives p) × Agrees a (map (λ q. q.fate) ps) p r
unfolding edit
account_agrees h bytes r e =
    given (accepted bytes) _ e λ a x e.
    given (plan h a) _ e λ p y e.
    given (ran a p) _ e λ w z e.
    let (ps, j, s) = plan_judged h a p y in
    (a, ps, p, x, j, y, record { said = s; runs = performed_not_discarded h bytes a p x y; counted = rw (← gives_inj e, judged_fates h a ps j) (discards_counted h a p w y) })
