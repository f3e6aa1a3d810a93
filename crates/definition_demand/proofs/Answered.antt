-- A batch: where its splices are apart and leave the root, it answers with the old tree rewritten in one go; and a test that says just whether they do.
-- Assumes nothing.
use Rattle.std.specs.Prelude.{◌≡◌, refl, true, false, not, ◌&&◌, ℕ, ltb, length, take}
use Rattle.std.proofs.Common.{ap, ◌∙◌}
use mathlib.Core.List.{List, [], ◌∷◌, map, flat_map, append-nil, head-eq_of_cons-eq, nil≢cons}
use Rattle.std.proofs.lemmas.Bool.{not-true}
use Rattle.orders.specs.Lists.{any, All}
use Rattle.orders.specs.ListLaws.{bool_absurd, both_true, All-map, none_passes, passes_none}
use Rattle.orders.specs.Tree.{Tree, label, preorder, text, measure}
use Rattle.orders.specs.Splices.{one_go, AllApart}
use Rattle.orders.proofs.Check.{says_all_apart}
use Rattle.definition.specs.Basics.{gives, ◌>>=◌, refuse}
use Rattle.definition.specs.Choices.{Choices, chosen}
use Rattle.definition.specs.Elements.{Table, table}
use Rattle.definition.specs.Refusals.{Accepted, accepted}
use Rattle.definition.specs.Planning.{Planned}
use Rattle.definition.specs.Rewriting.{Note}
use Rattle.definition.specs.Running.{World, begin, steps}
use Rattle.definition.specs.Finishing.{new_tree, Result, result, encoded, fitting}
use Rattle.definition.specs.Answers.{Plan, plan, performed, at_first, ran, edit, too_short, with_work, with_choices, edited}
use Rattle.definition.specs.Performed.{splices}
use Rattle.definition_laws.specs.Answers.{gives_inj, given, both_given}
use Rattle.definition_laws.specs.Accepted.{accepts}
use Rattle.definition_laws.specs.Plans.{plan_known, checked, performed_right}
use Rattle.definition_laws.specs.Right.{Sits, right_sits}
use Rattle.definition_demand.specs.Aims.{replaces_root}
use Rattle.definition_demand.specs.Run.{splices_in0, DemandedOf}
use Rattle.definition_demand.proofs.Run.{run_demanded}
use Rattle.definition_demand.specs.Answered.{ApartIn, Shows, AnswersOneGo, apart_in?, apart_plan?, apart_batch?, one_go_of}

-- ── What demand 3 asks of a batch, and what it then says ────────────────────────────────────────────────────

-- ── It does ─────────────────────────────────────────────────────────────────────────────────────────────────

pub table_demanded : (old : Tree ℕ) (notes : List Note) (w : World) (ps : List Planned) (T : Table) (ts : List (Tree ℕ)) → take 1 ts ≡ old ∷ [] → T ≡ table 0 0 ts
    → All (λ q. Sits T q.change) ps → All (λ q. replaces_root T q.change ≡ false) ps → steps T (begin ts T notes) (begin ts T notes) ps ≡ gives w
    → AllApart old (splices_in0 T (begin ts T notes) ps) → DemandedOf old (splices_in0 T (begin ts T notes) ps) T w
table_demanded old notes w ps T [] t q = absurd (nil≢cons t)
table_demanded old notes w ps T (c ∷ others) t q = let z : c ≡ old = head-eq_of_cons-eq t in rw (← z, q) (λ s k e h. run_demanded c others notes ps w s k e h)

-- the run of an accepted batch whose splices are apart
pub ran_demanded : (h : Choices) (old : Tree ℕ) (bytes : List ℕ) (a : Accepted) (p : Plan) (w : World) → accepted bytes ≡ gives a → plan h a ≡ gives p → ran a p ≡ gives w → ApartIn old a p → DemandedOf old (splices a p) a.table w
unfolding ran at_first splices
ran_demanded c old bytes a p w x y e h =
    let k = accepts bytes a x in
    let right = performed_right a p (plan_known a (checked bytes a k) c p y) in
    table_demanded old p.notes w (performed a p) a.table a.trees h.tree0 k.table (All-map (λ q s. right_sits a.table q.change s) (performed a p) right) h.unreplaced e h.apart

pub result_shows : (t : Tree ℕ) (ps : List Planned) (climbs : ℕ) (w : World) → new_tree w ≡ t ∷ [] → Shows t (result ps climbs w)
unfolding result flat_map
result_shows t ps climbs w e = record {
  kinds = ap (λ l. map label (flat_map preorder l)) e ∙ ap (map label) (append-nil (preorder t));
  measures = ap (λ l. map measure (flat_map preorder l)) e ∙ ap (map measure) (append-nil (preorder t));
  text = ap (λ l. flat_map text l) e ∙ append-nil (text t);
}

-- an answer that is given has each of its parts
edit_parts : (h : Choices) (bytes : List ℕ) (r : Result) → edit h bytes ≡ gives r
    → (a : Accepted) × (p : Plan) × (w : World) × (accepted bytes ≡ gives a) × (plan h a ≡ gives p) × (ran a p ≡ gives w) × (result p.changes p.climbs w ≡ r)
unfolding edit
edit_parts h bytes r e = given (accepted bytes) _ e λ a x e. given (plan h a) _ e λ p y e. given (ran a p) _ e λ w z e. (a, p, w, x, y, z, gives_inj e)

-- "every accepted batch whose splices are apart and leave the root unreplaced answers with that tree"
pub answers_one_go : (h : Choices) (bytes : List ℕ) (r : Result) → edit h bytes ≡ gives r → (a : Accepted) (p : Plan) → accepted bytes ≡ gives a → plan h a ≡ gives p → (old : Tree ℕ) → ApartIn old a p → AnswersOneGo old a p r
unfolding edit ◌>>=◌
answers_one_go c bytes r e a p x y old h =
    let (w, z, u) = both_given (ran a p) (λ w. gives (result p.changes p.climbs w)) (rw (x, y) at e) in
    let d = ran_demanded c old bytes a p w x y z h in
    record { end = w; run = z; demanded = d; shows = rw (← gives_inj u) (result_shows (one_go (splices a p) old) p.changes p.climbs w (d.tree ∙ ap (λ t. t ∷ []) d.demanded.tree)) }

-- the bytes that an edit writes are those of its result
pub edited_result : (h : Choices) (work : List (ℕ × ℕ)) (bytes : List ℕ) (room : ℕ) (out : List ℕ) → edited h work bytes room ≡ gives out → (r : Result) × (edit h bytes ≡ gives r) × (encoded r ≡ out)
unfolding edited with_choices with_work fitting
edited_result h work bytes room out e =
    given (chosen h) _ e λ s i e.
    given (refuse 1 (too_short work)) _ e λ u x e.
    given (edit h bytes) _ e λ r y e.
    given (fitting room r) _ e λ s z e.
    given (refuse 13 (ltb room (length (encoded r)))) _ z λ v a z.
    (r, y, ap encoded (gives_inj z) ∙ gives_inj e)

-- ── The test ────────────────────────────────────────────────────────────────────────────────────────────────

pub plan_apart : (a : Accepted) (p : Plan) → apart_plan? a p ≡ true → (old : Tree ℕ) × ApartIn old a p
unfolding apart_plan? apart_in?
plan_apart a p e =
    let (x, y) = both_true (apart_in? a.trees (splices a p)) (not (any (λ q. replaces_root a.table q.change) (performed a p))) e in
    let k = none_passes (λ q. replaces_root a.table q.change) (performed a p) (not-true _ y) in
    go a.trees refl x k
  where
    go : (ts : List (Tree ℕ)) → a.trees ≡ ts → apart_in? ts (splices a p) ≡ true → All (λ q. replaces_root a.table q.change ≡ false) (performed a p) → (old : Tree ℕ) × ApartIn old a p
    go [] z x k = bool_absurd x refl
    go (old ∷ others) z x k = (old, record { tree0 = ap (λ ts. take 1 ts) z; apart = (says_all_apart old (splices a p)).0 x; unreplaced = k })

pub apart_plan : (old : Tree ℕ) (a : Accepted) (p : Plan) → ApartIn old a p → apart_plan? a p ≡ true
unfolding apart_plan? apart_in?
apart_plan old a p h = rw (passes_none (λ q. replaces_root a.table q.change) (performed a p) h.unreplaced) (go a.trees h.tree0)
  where
    go : (ts : List (Tree ℕ)) → take 1 ts ≡ old ∷ [] → (apart_in? ts (splices a p) && true) ≡ true
    go [] t = absurd (nil≢cons t)
    go (c ∷ others) t = let z : c ≡ old = head-eq_of_cons-eq t in rw ((says_all_apart c (splices a p)).1 (rw z h.apart))

-- Where the test says so, the answer shows the tree rewritten in one go.
pub tested_one_go : (h : Choices) (bytes : List ℕ) (r : Result) → edit h bytes ≡ gives r → apart_batch? h bytes ≡ gives true → (t : Tree ℕ) × (one_go_of h bytes ≡ gives (t ∷ [])) × Shows t r
unfolding apart_batch? one_go_of ◌>>=◌
tested_one_go h bytes r e c =
    let (a, p, w, x, y, z, u) = edit_parts h bytes r e in
    let (old, k) = plan_apart a p (gives_inj (rw (x, y, z) at c)) in
    let o = answers_one_go h bytes r e a p x y old k in
    (one_go (splices a p) old, rw (x, y) (ap (λ ts. gives (map (one_go (splices a p)) ts)) k.tree0), o.shows)
