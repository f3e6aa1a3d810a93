-- The splices that a batch performs on tree 0: each fits the old tree, is placed by a target as demand 3 says, their numbers rise, and none inserts more than 41
-- subtrees.
-- Assumes nothing.
use Rattle.std.specs.Prelude.{◌≡◌, Bool, List, [], ◌∷◌, map, ℕ, suc, ◌≤◌, ◌<◌, length}
use Rattle.std.proofs.Math.Path.{refl}
use Rattle.std.proofs.Common.{sym, ap, ◌∙◌, arith, eqb-true}
use Rattle.std.proofs.Math.Bool.{true, false, cond}
use Rattle.std.proofs.Math.Option.{Option, none, some}
use Rattle.std.proofs.Math.Dec.{eqb}
use Rattle.std.proofs.lemmas.List.{length-map}
use Rattle.std.proofs.Math.ListN.{get_elem?}
use Rattle.orders.specs.Lists.{All, Pairs, pick}
use Rattle.orders.specs.ListLaws.{some_inj, none_some, All-map, All-over, Pairs-over, All-pick}
use Rattle.orders.specs.Tree.{Tree, forest, Path, HasRun, Run, last}
use Rattle.orders.proofs.TreeLaws.{list_forest, run_child}
use Rattle.orders.specs.Splices.{Splice, Fits}
use Rattle.orders.proofs.Target.{Target, first_child, after_child, children, Rising}
use Rattle.definition.specs.Basics.{Answer, refused, gives, numbered}
use Rattle.definition.specs.Choices.{Choices}
use Rattle.definition.specs.Elements.{Table, table, row, root?}
use Rattle.definition.specs.Refusals.{most_listed, Accepted, accepted}
use Rattle.definition.specs.Recording.{Place, Change, insert, replace, delete, replace_with_many, replace_all}
use Rattle.definition.specs.Planning.{Planned}
use Rattle.definition.specs.Rewriting.{Note}
use Rattle.definition.specs.Running.{World, begin, present, yield, news, empty_at, from_to, place, step}
use Rattle.definition.specs.Answers.{Plan, plan, performed, at_first, ran}
use Rattle.definition.specs.Performed.{in_tree0, to_splice, met, yields, told, splices, splices_of, InsertsFew}
use Rattle.definition_laws.specs.Answers.{gives_inj, given, bound}
use Rattle.definition_laws.specs.Spelling.{Worded}
use Rattle.definition_laws.specs.Kin.{IsParent, not_root, parent_is}
use Rattle.definition_laws.specs.Right.{Right, Sits, right_sits}
use Rattle.definition_laws.specs.Stages.{numbered_all}
use Rattle.definition_laws.specs.Accepted.{accepts}
use Rattle.definition_laws.specs.Plans.{checked, plan_known, performed_few}
use Rattle.definition_laws.specs.Running.{top, Follows, follows_begin, present_order, place_fits}

-- ── Runs ────────────────────────────────────────────────────────────────────────────────────────────────────

-- what a run is placed by
data Aimed (r : Run) : Type 0 where
  at_front : r.from ≡ 0 → r.to ≡ 0 → Aimed r
  behind : (i : ℕ) → r.from ≡ suc i → r.to ≡ suc i → Aimed r
  these : (i j : ℕ) → i ≤ j → r.from ≡ i → r.to ≡ suc j → Aimed r

place_aimed : (ts : List (Tree ℕ)) (w : World) → Follows ts w → (c : Change) (r : Run) → Sits (table 0 0 ts) c → place (table 0 0 ts) w c ≡ some r → Aimed r
unfolding place empty_at from_to
place_aimed ts w f (insert Place.first_child x l) r s e = bound (present w x) _ e λ p g e. rw (← some_inj e) (at_front refl refl)
place_aimed ts w f (insert Place.after x l) r s e = bound (present w x) _ e λ p g e. rw (← some_inj e) (behind (last p) refl refl)
place_aimed ts w f (replace x y) r s e =
    bound (cond (root? (table 0 0 ts) x) (some (row (table 0 0 ts) x).path) (present w x)) _ e λ p g e. rw (← some_inj e) (these (last p) (last p) (omega arith) refl refl)
place_aimed ts w f (delete x) r s e = bound (present w x) _ e λ p g e. rw (← some_inj e) (these (last p) (last p) (omega arith) refl refl)
place_aimed ts w f (replace_with_many x l) r s e = bound (present w x) _ e λ p g e. rw (← some_inj e) (these (last p) (last p) (omega arith) refl refl)
place_aimed ts w f (replace_all x y l) r s e =
    bound (present w x) _ e λ p g e. bound (present w y) _ e λ q i e. rw (← some_inj e) (these (last p) (last q) (run p q g i) refl refl)
  where
    run : (p q : Path) → present w x ≡ some p → present w y ≡ some q → last p ≤ last q
    run p q g i =
        let (m, a) = not_root ts x s.0 s.2 in
        let b : IsParent ts m y = parent_is ts y m s.1 (sym s.3 ∙ a.parent) in
        (present_order ts w f m x y p q s.0 s.1 a b s.4 g i).1

-- ── Tree 0 ──────────────────────────────────────────────────────────────────────────────────────────────────

module _ (ts : List (Tree ℕ)) (old : Tree ℕ) (zeroth : get_elem? ts 0 ≡ some old) where
  -- a run in tree 0 is one of the old tree's
  in_tree0_run : (r s : Run) → HasRun (top ts) r.parent r.from r.to → in_tree0 r ≡ some s → HasRun old s.parent s.from s.to × (s.from ≡ r.from) × (s.to ≡ r.to)
  unfolding in_tree0
  in_tree0_run r s h e = go r.parent h e
    where
      at : (t : ℕ) (p : Path) (b : Bool) → eqb t 0 ≡ b → HasRun (top ts) (t ∷ p) r.from r.to → cond b (some (record { parent = p; from = r.from; to = r.to })) none ≡ some s
          → HasRun old s.parent s.from s.to × (s.from ≡ r.from) × (s.to ≡ r.to)
      at t p false z h e = none_some e
      at t p true z h e =
          let (c, a, k) = run_child 2147483648 (forest ts) t p r.from r.to h in
          let is : c ≡ old = some_inj (sym a ∙ (ap (λ l. get_elem? l t) (list_forest ts) ∙ (ap (get_elem? ts) (eqb-true t 0 z) ∙ zeroth))) in
          rw (← some_inj e) (rw is at k, refl, refl)

      go : (q : Path) → HasRun (top ts) q r.from r.to → elim q as (λ q. Option Run) [ [] ↦ none | t ∷ p ↦ cond (eqb t 0) (some (record { parent = p; from = r.from; to = r.to })) none ] ≡ some s
          → HasRun old s.parent s.from s.to × (s.from ≡ r.from) × (s.to ≡ r.to)
      go [] h e = none_some e
      go (t ∷ p) h e = at t p (eqb t 0) refl h e

  -- a step that is told in tree 0
  told_fits : (notes : List Note) → All Worded ts → (m : World × Planned) (x : Run × List (Tree ℕ)) → Right (table 0 0 ts) m.1.change → told (table 0 0 ts) (begin ts (table 0 0 ts) notes) m ≡ some x
      → HasRun old x.0.parent x.0.from x.0.to × Aimed x.0
  unfolding told begin
  told_fits notes w m x c e =
      let first = begin ts (table 0 0 ts) notes in
      let f = follows_begin ts notes w in
      bound (place (table 0 0 ts) first m.1.change) _ e λ r a e.
      bound (in_tree0 r) _ e λ s b e.
      let sits = right_sits (table 0 0 ts) m.1.change c in
      let (h, i, j) = in_tree0_run r s (place_fits ts first f m.1.change r sits a).run b in
      rw (← some_inj e) (h, aim r s i j (place_aimed ts first f m.1.change r sits a))
    where
      aim : (r s : Run) → s.from ≡ r.from → s.to ≡ r.to → Aimed r → Aimed s
      aim r s i j (at_front a b) = at_front (i ∙ a) (j ∙ b)
      aim r s i j (behind k a b) = behind k (i ∙ a) (j ∙ b)
      aim r s i j (these k l h a b) = these k l h (i ∙ a) (j ∙ b)

-- what each performed change has, each has that is met
pub met_all : (T : Table) (first : World) (P : Planned → Type 0) (w : World) (ps : List Planned) → All P ps → All (λ m. P m.1) (met T first w ps)
unfolding met
met_all T first P w [] h = tt
met_all T first P w (p ∷ ps) h = (h.0, go (step T first w p) (λ next. met_all T first P next ps h.1))
  where
    go : (o : Answer World) → ((next : World) → All (λ (m : World × Planned). P m.1) (met T first next ps)) → All (λ (m : World × Planned). P m.1) (elim o as (λ o. List (World × Planned)) [ refused k ↦ [] | gives next ↦ met T first next ps ])
    go (refused k) r = tt
    go (gives next) r = r next

-- numbers as given rise
pub numbered_rising : {A : Type 0} (n : ℕ) (l : List A) → All (λ q. n ≤ q.0) (numbered n l) × Pairs (λ q r. q.0 < r.0) (numbered n l)
unfolding numbered
numbered_rising n [] = (tt, tt)
numbered_rising n (x ∷ l) =
    let (a, b) = numbered_rising (suc n) l in
    ((omega arith, All-map (λ q h. omega arith) (numbered (suc n) l) a), (All-map (λ q h. h) (numbered (suc n) l) a, b))

-- each splice fits the old tree and is placed by a target, and their numbers rise
pub record Placed (old : Tree ℕ) (S : List (Splice ℕ)) : Type 0 where
  pub fits : All (Fits old) S
  pub targets : All Target S
  pub rising : Rising S

placed_splices : (old : Tree ℕ) (l : List (Run × List (Tree ℕ))) → All (λ x. HasRun old x.0.parent x.0.from x.0.to × Aimed x.0) l → Placed old (map to_splice (numbered 0 l))
unfolding to_splice
placed_splices old l h =
    let P : Run × List (Tree ℕ) → Type 0 = λ x. HasRun old x.0.parent x.0.from x.0.to × Aimed x.0 in
    let k = numbered_all P 0 l h in
    record {
      fits = All-over to_splice (λ q. P q.1) (Fits old) (λ q k. k.0) (numbered 0 l) k;
      targets = All-over to_splice (λ q. P q.1) Target (λ q k. aimed q.0 q.1 k.1) (numbered 0 l) k;
      rising = Pairs-over to_splice (λ q r. q.0 < r.0) (λ s t. s.number < t.number) (λ q r k. k) (numbered 0 l) (numbered_rising 0 l).1;
    }
  where
    aimed : (n : ℕ) (x : Run × List (Tree ℕ)) → Aimed x.0 → Target (to_splice (n, x))
    aimed n x (at_front a b) = first_child a b
    aimed n x (behind i a b) = after_child i a b
    aimed n x (these i j h a b) = children i j h a b

-- The splices of a batch are so placed.
pub splices_placed : (a : Accepted) (p : Plan) (old : Tree ℕ) → get_elem? a.trees 0 ≡ some old → a.table ≡ table 0 0 a.trees → All Worded a.trees → All (λ q. Right a.table q.change) (performed a p) → Placed old (splices a p)
unfolding splices at_first
splices_placed a p old z q h c = go a.table q (performed a p) c
  where
    go : (T : Table) → T ≡ table 0 0 a.trees → (ps : List Planned) → All (λ q. Right T q.change) ps
        → Placed old (map to_splice (numbered 0 (pick (told T (begin a.trees T p.notes)) (met T (begin a.trees T p.notes) (begin a.trees T p.notes) ps))))
    go T q ps =
        let T₀ = table 0 0 a.trees in
        let first = begin a.trees T₀ p.notes in
        rw q (λ c. placed_splices old (pick (told T₀ first) (met T₀ first first ps))
        (All-pick (told T₀ first) (λ m. Right T₀ m.1.change) (λ x. HasRun old x.0.parent x.0.from x.0.to × Aimed x.0)
        (λ m x e k. told_fits a.trees old z p.notes h m x k e) (met T₀ first first ps) (met_all T₀ first (λ q. Right T₀ q.change) first ps c)))

-- ── "no splice inserts more than 41 subtrees" ───────────────────────────────────────────────────────────────

-- Every change that a batch performs inserts no more, in whichever tree.
pub performed_inserts : (h : Choices) (bytes : List ℕ) (a : Accepted) (p : Plan) → accepted bytes ≡ gives a → plan h a ≡ gives p
    → All (λ m. length (yields a.table (at_first a p) m) ≤ most_listed) (met a.table (at_first a p) (at_first a p) (performed a p))
unfolding yields
performed_inserts h bytes a p x y =
    let first = at_first a p in
    let few = performed_few a p (plan_known a (checked bytes a (accepts bytes a x)) h p y) in
    All-map (λ m h. rw (length-map (news m.1.change) (λ e. (yield first m.0 e).tree)) h) (met a.table first first (performed a p)) (met_all a.table first (λ q. length (news q.change) ≤ most_listed) first (performed a p) few)

-- So no splice of a batch does.
pub inserts_few : (h : Choices) (bytes : List ℕ) → InsertsFew h bytes
unfolding splices_of splices told to_splice
inserts_few h bytes S e =
    given (accepted bytes) _ e λ a x e.
    given (plan h a) _ e λ p y e.
    given (ran a p) _ e λ w z e.
    let first = at_first a p in
    let steps = met a.table first first (performed a p) in
    rw (← gives_inj e)
    (All-over to_splice (λ q. length q.1.1 ≤ most_listed) (λ s. length s.prepared ≤ most_listed) (λ q h. h) (numbered 0 (pick (told a.table first) steps))
    (numbered_all (λ x. length x.1 ≤ most_listed) 0 (pick (told a.table first) steps)
    (All-pick (told a.table first) (λ m. length (yields a.table first m) ≤ most_listed) (λ x. length x.1 ≤ most_listed) (λ m x e h. as_told a p m x e h) steps (performed_inserts h bytes a p x y))))
  where
    as_told : (a : Accepted) (p : Plan) (m : World × Planned) (x : Run × List (Tree ℕ)) → told a.table (at_first a p) m ≡ some x → length (yields a.table (at_first a p) m) ≤ most_listed → length x.1 ≤ most_listed
    as_told a p m x e h =
        bound (place a.table (at_first a p) m.1.change) _ e λ r i e.
        bound (in_tree0 r) _ e λ s j e.
        rw (← some_inj e) h
