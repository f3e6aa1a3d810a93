-- UNDER RULE 1 a batch that replaces no root of tree 0, and has no dependent change ending there, has splices that are apart. So it answers with the one-go tree.
-- Assumes nothing.
use Rattle.std.specs.Prelude.{◌≡◌, Bool, not, ◌&&◌, ◌⊎◌, ℕ, ◌-◌, ◌≤◌, ◌<◌, length, take}
use Rattle.std.proofs.Math.Path.{refl, ap}
use Rattle.std.proofs.Common.{sym, ◌∙◌, subst, inl, inr, eq-eqb}
use Rattle.std.proofs.Math.Bool.{true, false}
use mathlib.Core.List.{List, [], ◌∷◌, ◌++◌, head_d, nil≢cons}
use Rattle.std.proofs.Math.Option.{none, some}
use native.Mathlib.Omega.{arith}
use Rattle.std.proofs.Math.Dec.{eqb}
use Rattle.std.proofs.Math.ListN.{get_elem?}
use Rattle.std.proofs.lemmas.Bool.{not-true}
use Rattle.orders.specs.Lists.{pick, All, Pairs}
use Rattle.orders.specs.ListLaws.{bool_absurd, some_inj, lt_or_le, All-map, All-map₂, All-mem, All-over, All-pick, none_passes}
use Rattle.orders.specs.Tree.{Tree, Path}
use Rattle.orders.specs.Splices.{Splice, Enters, Overlap, Apart}
use Rattle.orders.specs.Splices as Splices
use Rattle.orders.proofs.Target.{Rising}
use Rattle.definition.specs.Basics.{gives, numbered}
use Rattle.definition.specs.Elements.{Table, table, row, tree, child}
use Rattle.definition.specs.Refusals.{Accepted, accepted}
use Rattle.definition.specs.Recording.{Recorded, first_child, after, Change, insert, replace, delete, replace_with_many, replace_all}
use Rattle.definition.specs.Planning.{Fate, own, dependent, discarded, Planned, changes_of, target}
use Rattle.definition.specs.Rewriting.{Note}
use Rattle.definition.specs.EdgeRule.{parent_or_root, target_parent, of_root, takes, fates1}
use Rattle.definition.specs.Running.{World, Run, begin, place, owned, steps}
use Rattle.definition.specs.Answers.{Plan, performed, at_first, ran}
use Rattle.definition.specs.Performed.{in_tree0, to_splice, met, told, splices}
use Rattle.definition_laws.specs.Answers.{bound}
use Rattle.definition_laws.specs.Accepted.{accepts}
use Rattle.definition_laws.specs.Spelling.{Worded}
use Rattle.definition_laws.specs.Right.{Right, Sits, right_sits}
use Rattle.definition_laws.specs.Stages.{numbered_all}
use Rattle.definition_laws.specs.Moves.{stay_keeps}
use Rattle.definition_laws.specs.Performed.{met_all, splices_placed}
use Rattle.definition_demand.specs.Aims.{replaces_root}
use Rattle.definition_demand.specs.Run.{splices_in0}
use Rattle.definition_demand.proofs.Run.{splices_rise, run_made, tree0_begin}
use Rattle.definition_demand.specs.Answered.{ApartIn}
use Rattle.definition_account.specs.Words.{dependent_in0, keeps_root, no_dependent_in0}
use Rattle.definition_edge.proofs.Gone.{Missed, missed}
use Rattle.definition_edge.proofs.Where.{span, At, Beside, beside, goes_at}
use Rattle.definition_edge.proofs.Taking.{deeper_taken, inside_taken}
use Rattle.definition_edge.specs.Own.{Free, OwnFree, planned1}
use Rattle.definition_edge.proofs.Own.{performed_free, performed_right}

-- ── Two splices ─────────────────────────────────────────────────────────────────────────────────────────────

-- the run a..b of the element of tree 0 at q is that of a change which no region takes
pub record Comes (T : Table) (cs : List Change) (q : Path) (a b : ℕ) : Type 0 where
  pub change : Change
  pub sits : Sits T change
  pub at : At T change q a b
  pub free : Free T cs change

module _ (ts : List (Tree ℕ)) (w : All Worded ts) (cs : List Change) where
  abbrev T : Table
  T = table 0 0 ts

  abbrev ComesTo : Splice ℕ → Type 0
  ComesTo s = Comes T cs s.parent s.from s.to

  -- no region takes it, whatever the region
  none_takes : (c d : Change) → (f : Free T cs c) → (g : Free T cs d) → takes T (f.place, c) (g.place, d) ≡ true → ⊥
  none_takes c d f g e = bool_absurd e (All-mem (λ r. takes T r (g.place, d) ≡ false) (numbered 0 cs) (f.place, c) g.free f.one)

  ordered : (c : Change) → Sits T c → (span T c).0 ≤ (span T c).1
  unfolding span
  ordered (insert first_child x l) s = omega arith
  ordered (insert after x l) s = omega arith
  ordered (replace x y) s = omega arith
  ordered (delete x) s = omega arith
  ordered (replace_with_many x l) s = omega arith
  ordered (replace_all x y l) s = omega (arith, s.4)

  -- no parent is at or below a child that the other deletes: that other would take it
  not_deeper : (s t : Splice ℕ) → ComesTo s → ComesTo t → ¬ Enters s t.parent
  not_deeper s t x y e =
      none_takes x.change y.change x.free y.free (deeper_taken ts w x.free.place y.free.place x.change y.change s.parent s.from s.to e.child e.rest t.from t.to x.sits y.sits x.at
      (subst (λ (q : Path). At T y.change q t.from t.to) e.leads y.at) e.low e.high)

  -- neither stands strictly inside the other
  not_inside : (s t : Splice ℕ) → ComesTo s → ComesTo t → s.parent ≡ t.parent → t.from < s.from → s.to < t.to → ⊥
  not_inside s t x y e low high =
      none_takes y.change x.change y.free x.free (inside_taken ts x.free.place y.free.place x.change y.change s.parent s.from s.to t.from t.to x.sits y.sits x.at
      (subst (λ (q : Path). At T y.change q t.from t.to) (sym e) y.at) (omega (arith, ordered x.change x.sits, x.at.from, x.at.to)) low high)

  -- a later one that overlaps an earlier one has lost an end, or one stands inside the other
  not_over : (s t : Splice ℕ) → ComesTo s → ComesTo t → Missed s t → s.parent ≡ t.parent → ¬ Overlap s t
  not_over s t x y m e o = go (lt_or_le t.from t.to) (lt_or_le t.from s.from) (lt_or_le s.to t.to)
    where
      go : (t.from < t.to) ⊎ (t.to ≤ t.from) → (t.from < s.from) ⊎ (s.from ≤ t.from) → (s.to < t.to) ⊎ (t.to ≤ s.to) → ⊥
      go (inr h) a b = not_inside t s y x (sym e) (omega (arith, o.0)) (omega (arith, o.1))
      go (inl h) (inr a) b = m t.from (record { some = h; one = inl refl }) e a o.1
      go (inl h) (inl a) (inl b) = not_inside s t x y e a b
      go (inl h) (inl a) (inr b) = m (t.to - 1) (record { some = h; one = inr (omega arith) }) e (omega (arith, o.0)) (omega arith)

  two_apart : (s t : Splice ℕ) → ComesTo s → ComesTo t → Missed s t → s.number < t.number → Apart s t
  two_apart s t x y m n = record { numbers = λ z. omega arith; kept = not_deeper s t x y; kept' = not_deeper t s y x; clear = not_over s t x y m }

  all_apart : (S : List (Splice ℕ)) → All ComesTo S → Pairs Missed S → Rising S → Pairs Apart S
  all_apart [] c m r = tt
  all_apart (s ∷ S) c m r =
      (All-map₂ {P = λ t. ComesTo t × Missed s t} (λ t x z. two_apart s t c.0 x.0 x.1 z) S (All-map₂ (λ t x y. (x, y)) S c.1 m.0) r.0, all_apart S c.1 m.1 r.1)

-- ── From performed changes to splices ───────────────────────────────────────────────────────────────────────

-- what is known of a performed change
record Performs1 (T : Table) (cs : List Change) (q : Planned) : Type 0 where
  right : Right T q.change
  free : OwnFree T cs q
  stays : dependent_in0 T q ≡ false

owned_own : (f : Fate) → owned none f ≡ true → f ≡ own
unfolding owned
owned_own own e = refl
owned_own (dependent k) e = bool_absurd e refl
owned_own (discarded k) e = bool_absurd e refl

module _ (ts : List (Tree ℕ)) (cs : List Change) where
  abbrev T₁ : Table
  T₁ = table 0 0 ts

  -- a change that goes into tree 0 has its target there
  below_here : (x : ℕ) (q : Path) → Beside ts x → (row T₁ (parent_or_root T₁ x)).path ≡ 0 ∷ q → tree T₁ x ≡ 0
  unfolding tree head_d
  below_here x q b e = ap (λ (p : Path). head_d p 0) (b.path ∙ ap (λ (p : Path). p ++ (child T₁ x ∷ [])) e)

  target_here : (c : Change) (q : Path) (a b : ℕ) → Sits T₁ c → At T₁ c q a b → tree T₁ (target c) ≡ 0
  unfolding target_parent target tree head_d of_root
  target_here (insert first_child x l) q a b s h = ap (λ (p : Path). head_d p 0) h.parent
  target_here (insert after x l) q a b s h = below_here x q (beside ts x s.0 s.1) h.parent
  target_here (replace x y) q a b s h = below_here x q (beside ts x s h.no_root) h.parent
  target_here (delete x) q a b s h = below_here x q (beside ts x s.0 s.1) h.parent
  target_here (replace_with_many x l) q a b s h = below_here x q (beside ts x s.0 s.1) h.parent
  target_here (replace_all x y l) q a b s h = below_here x q (beside ts x s.0 s.2) h.parent

  module _ (notes : List Note) where
    abbrev first : World
    first = begin ts T₁ notes

    told_comes : (m : World × Planned) (x : Run × List (Tree ℕ)) → told T₁ first m ≡ some x → Performs1 T₁ cs m.1 → Comes T₁ cs x.0.parent x.0.from x.0.to
    unfolding told dependent_in0
    told_comes m x e k =
        bound (place T₁ first m.1.change) _ e λ r a e.
        bound (in_tree0 r) _ e λ s b e.
        let sits = right_sits T₁ m.1.change k.right in
        let at = goes_at ts notes m.1.change r s sits a b in
        rw (← some_inj e) (record { change = m.1.change; sits = sits; at = at; free = k.free (alone m.1 k.stays (target_here m.1.change s.parent s.from s.to sits at)) })
      where
        alone : (q : Planned) → (not (owned none q.fate) && eqb (tree T₁ (target q.change)) 0) ≡ false → tree T₁ (target q.change) ≡ 0 → q.fate ≡ own
        alone q e z = owned_own q.fate (go (owned none q.fate) (eqb (tree T₁ (target q.change)) 0) (eq-eqb (tree T₁ (target q.change)) 0 z) e)
          where
            go : (o t : Bool) → t ≡ true → (not o && t) ≡ false → o ≡ true
            go true t e f = refl
            go false t e f = bool_absurd e f

    splices_come : (ps : List Planned) → All (Performs1 T₁ cs) ps → All (λ s. Comes T₁ cs s.parent s.from s.to) (splices_in0 T₁ first ps)
    unfolding to_splice
    splices_come ps h =
        let ms = met T₁ first first ps in
        let C : Run × List (Tree ℕ) → Type 0 = λ x. Comes T₁ cs x.0.parent x.0.from x.0.to in
        let k = All-pick (told T₁ first) (λ m. Performs1 T₁ cs m.1) C told_comes ms (met_all T₁ first (Performs1 T₁ cs) first ps h) in
        All-over to_splice (λ q. C q.1) (λ s. Comes T₁ cs s.parent s.from s.to) (λ q c. c) (numbered 0 (pick (told T₁ first) ms)) (numbered_all C 0 (pick (told T₁ first) ms) k)

-- ANY PERFORMED CHANGES, whatever planned them: if no region of the changes takes an own one, their splices are apart
pub performed_pairs : (old : Tree ℕ) (others : List (Tree ℕ)) (notes : List Note) (cs : List Change) (ps : List Planned) (w : World) → let ts = old ∷ others in let T = table 0 0 ts in let first = begin ts T notes in
    All Worded ts → All (λ q. Right T q.change) ps → All (OwnFree T cs) ps → steps T first first ps ≡ gives w → keeps_root T ps ≡ true → no_dependent_in0 T ps ≡ true → Pairs Apart (splices_in0 T first ps)
unfolding keeps_root no_dependent_in0 Splices.begin
performed_pairs old others notes cs ps w worded right free e r d =
    let ts : List (Tree ℕ) = old ∷ others in
    let T = table 0 0 ts in
    let first = begin ts T notes in
    let sits = All-map (λ q s. right_sits T q.change s) ps right in
    let m = run_made ts notes ps 0 first w (Splices.begin old) (tree0_begin old others notes) sits (none_passes (λ q. replaces_root T q.change) ps (not-true _ r)) e in
    let S = splices_in0 T first ps in
    let known : All (Performs1 T cs) ps = All-map₂ {P = λ q. Right T q.change × OwnFree T cs q} (λ q a b. record { right = a.0; free = a.1; stays = b }) ps (All-map₂ (λ q a b. (a, b)) ps right free) (none_passes (dependent_in0 T) ps (not-true _ d)) in
    all_apart ts worded cs S (splices_come ts cs notes ps known) (missed S m.targets (Splices.begin old) m.final stay_keeps m.made) (splices_rise T first 0 (met T first first ps))

-- ── A batch ─────────────────────────────────────────────────────────────────────────────────────────────────

-- tree 0, of trees of which there is one
zeroth : (ts : List (Tree ℕ)) → 1 ≤ length ts → (old : Tree ℕ) × (take 1 ts ≡ old ∷ []) × (get_elem? ts 0 ≡ some old)
zeroth [] h = absurd (omega arith)
zeroth (old ∷ others) h = (old, refl, refl)

table_pairs : (old : Tree ℕ) (notes : List Note) (cs : List Change) (ps : List Planned) (w : World) (T : Table) (ts : List (Tree ℕ)) → take 1 ts ≡ old ∷ [] → T ≡ table 0 0 ts → All Worded ts
    → All (λ q. Right T q.change) ps → All (OwnFree T cs) ps → steps T (begin ts T notes) (begin ts T notes) ps ≡ gives w → keeps_root T ps ≡ true → no_dependent_in0 T ps ≡ true
    → Pairs Apart (splices_in0 T (begin ts T notes) ps)
table_pairs old notes cs ps w T [] t q = absurd (nil≢cons t)
table_pairs old notes cs ps w T (c ∷ others) t q = rw q (λ a b f e r d. performed_pairs c others notes cs ps w a b f e r d)

-- A BATCH PLANNED BY RULE 1 whose run is not refused: if it does not replace the root and has no dependent change ending in tree 0, its splices are apart
pub apart_by_rule_1 : (bytes : List ℕ) (a : Accepted) → accepted bytes ≡ gives a → (rs : List Recorded) → All (Right a.table) (changes_of rs) → (p : Plan) → planned1 a rs ≡ gives p → (w : World) → ran a p ≡ gives w
    → keeps_root a.table (performed a p) ≡ true → no_dependent_in0 a.table (performed a p) ≡ true → (old : Tree ℕ) × ApartIn old a p
unfolding ran splices at_first keeps_root
apart_by_rule_1 bytes a x rs h p y w e r d =
    let k = accepts bytes a x in
    let (old, t, z) = zeroth a.trees (omega (arith, k.limits.some_tree, k.roots)) in
    let right = performed_right a rs (fates1 a.table (changes_of rs)) p y h in
    let pairs = table_pairs old p.notes (changes_of rs) (performed a p) w a.table a.trees t k.table k.spells.worded right (performed_free a rs p y) e r d in
    let placed = splices_placed a p old z k.table k.spells.worded right in
    (old, record { tree0 = t; apart = record { fits = placed.fits; apart = pairs }; unreplaced = none_passes (λ q. replaces_root a.table q.change) (performed a p) (not-true _ r) })
