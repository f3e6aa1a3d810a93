-- Kind words keep the form that line 5 asks for, whatever steps are performed.
-- Assumes nothing.
use Rattle.std.specs.Prelude.{◌≡◌, refl, Bool, false, ◌⊎◌, ℕ, suc, ◌<◌, length, get_or, take}
use Rattle.std.proofs.Common.{sym, ap, ◌∙◌, inl, inr, arith}
use Rattle.std.proofs.Math.Path.{subst}
use mathlib.Core.List.Memᴰ
use mathlib.Core.List.{List, [], ◌∷◌, ◌++◌, map, flat_map, Memᴰ}
use Rattle.std.proofs.Math.Option
use Rattle.std.proofs.Math.Option.{Option, none, some, bind}
use Rattle.orders.specs.Lists.{any, All}
use Rattle.orders.specs.ListLaws.{some_inj, none_some, map_some, get_mem, All-mem}
use Rattle.orders.specs.Tree.{Tree, node, token, forest, label, preorder, Path, resolve, splice, HasRun, strip}
use Rattle.orders.proofs.TreeLaws.{resolve_append, label_splice_in, Origin, kept, came, splice_origin}
use Rattle.definition.specs.Basics.{gives}
use Rattle.definition.specs.Elements.{Row, table, row, no_row, malformed}
use Rattle.definition.specs.Planning.{Planned}
use Rattle.definition.specs.Rewriting.{Note}
use Rattle.definition.specs.Running.{World, begin, present, Yield, yield_at, yield, news, Run, spliced, recorded_by, step, steps}
use Rattle.definition_laws.specs.Answers.{gives_inj, given}
use Rattle.definition_laws.specs.Spelling.{Worded}
use Rattle.definition_laws.specs.Rows.{Element, row_of, element, row_element, table_kinds}
use Rattle.definition_laws.specs.Kin.{path_leads, element_tree}
use Rattle.definition_laws.specs.Right.{Right, right_sits}
use Rattle.definition_laws.specs.Running.{top, place_fits}
use Rattle.definition_account.proofs.Run.{performs, Kept, step_kept, first_kept}
use Rattle.definition_account.proofs.Account.{Performed}
use Rattle.check_laws.specs.ListLaws.{none_any, mem_map, map_mem}
use Rattle.check_laws.proofs.Alone.{first_table, first_path}

-- each kind word of a tree has its form
abbrev pub Formed : Tree ℕ → Type 0
Formed t = (e : Path) (v : Tree ℕ) → resolve e t ≡ some v → malformed (label v) ≡ false

-- ── One splice ──────────────────────────────────────────────────────────────────────────────────────────────

formed_part : (p : Path) (t x : Tree ℕ) → Formed t → resolve p t ≡ some x → Formed x
unfolding bind
formed_part p t x h a e v b = h (p ++ e) v (resolve_append p e t ∙ (ap (λ (o : Option (Tree ℕ)). bind o (λ u. resolve e u)) a ∙ b))

formed_splice : (q : Path) (a b : ℕ) (new : List (Tree ℕ)) (t : Tree ℕ) → HasRun t q a b → All Formed new → Formed t → Formed (splice q a b new t)
formed_splice q a b new t run n h e v f = go (splice_origin a b new q t e v run f)
  where
    go : Origin a b new q t e v → malformed (label v) ≡ false
    go (kept p u r m z) = ap malformed (ap label z ∙ label_splice_in a b new (strip p q) u) ∙ h p u r
    go (came i c r g y z) = All-mem Formed new c n (get_mem new i c g) r v z

-- what a listed element yields
found_formed : (p : Path) (t : Tree ℕ) → Formed t → Formed (Option.get_or (resolve p t) (token 0 []))
unfolding resolve label malformed
found_formed p t h = go (resolve p t) refl
  where
    go : (o : Option (Tree ℕ)) → resolve p t ≡ o → Formed (Option.get_or o (token 0 []))
    go none z [] v e = ap (λ (x : Tree ℕ). malformed (label x)) (sym (some_inj e))
    go none z (i ∷ q) v e = none_some e
    go (some x) z q v e = formed_part p t x h z q v e

yield_formed : (first w : World) (e : ℕ) → Formed first.trees → Formed w.trees → Formed (yield first w e).tree
unfolding yield yield_at
yield_formed first w e h k = go (present w e)
  where
    go : (o : Option Path) → Formed (elim o as (λ o. Yield) [ none ↦ yield_at first (Option.get_or (present first e) []) | some p ↦ yield_at w p ]).tree
    go none = found_formed (Option.get_or (present first e) []) first.trees h
    go (some p) = found_formed p w.trees k

yields_formed : (first w : World) (es : List ℕ) → Formed first.trees → Formed w.trees → All Formed (map (λ y. y.tree) (map (yield first w) es))
yields_formed first w [] h k = tt
yields_formed first w (e ∷ es) h k = (yield_formed first w e h k, yields_formed first w es h k)

spliced_formed : (w : World) (r : Run) (new : List Yield) (recorded : Option ℕ) → HasRun w.trees r.parent r.from r.to → All Formed (map (λ y. y.tree) new) → Formed w.trees → Formed (spliced r new recorded w).trees
unfolding spliced
spliced_formed w r new recorded run n h = formed_splice r.parent r.from r.to (map (λ y. y.tree) new) w.trees run n h

-- ── All steps ───────────────────────────────────────────────────────────────────────────────────────────────

module _ (ts : List (Tree ℕ)) (first : World) (f₀ : Worded first.trees) (m₀ : Formed first.trees) where
  steps_formed : (ps : List Planned) (w last : World) → Kept ts w → Formed w.trees → All (λ p. Right (table 0 0 ts) p.change) ps → steps (table 0 0 ts) first w ps ≡ gives last → Formed last.trees
  unfolding steps
  steps_formed [] w last k t c e = subst (λ (z : World). Formed z.trees) (gives_inj e) t
  steps_formed (p ∷ ps) w last k t c e =
      given (step (table 0 0 ts) first w p) _ e λ next a e.
      let d = performs (table 0 0 ts) first w next p a in
      let fits = place_fits ts w k.follows p.change d.run (right_sits (table 0 0 ts) p.change c.0) d.there in
      steps_formed ps next last (step_kept ts first f₀ w next p k c.0 a).0
      (subst (λ (z : World). Formed z.trees) d.leaves (spliced_formed w d.run (map (yield first w) (news p.change)) (recorded_by (table 0 0 ts) p) fits.run (yields_formed first w (news p.change) m₀ t) t)) c.1 e

-- the batch's trees
pub top_formed : (ts : List (Tree ℕ)) → All (λ k. malformed k ≡ false) (map label (flat_map preorder ts)) → Formed (top ts)
unfolding resolve label malformed row_of
top_formed ts h [] v e = ap (λ (x : Tree ℕ). malformed (label x)) (sym (some_inj e))
top_formed ts h (t ∷ p) v e =
    let (d, a, b) = map_some (λ (d : Element). d.tree) (element ts (t ∷ p)) (element_tree ts t p 2147483648 ∙ e) in
    let m = map_mem (λ (r : Row). r.kind) (table 0 0 ts) (row_of d) (get_mem (table 0 0 ts) d.number (row_of d) (row_element ts (t ∷ p) d a)) in
    ap (λ (x : Tree ℕ). malformed (label x)) (sym b) ∙ All-mem (λ k. malformed k ≡ false) (map (λ (r : Row). r.kind) (table 0 0 ts)) (row_of d).kind (subst (All (λ k. malformed k ≡ false)) (sym (table_kinds ts 0 0)) h) m

-- of any performed changes
pub performed_formed : (ts : List (Tree ℕ)) (notes : List Note) (ps : List Planned) (w : World) → Performed ts notes ps w → All (λ k. malformed k ≡ false) (map label (flat_map preorder ts)) → Formed w.trees
unfolding begin
performed_formed ts notes ps w h m =
    let k = first_kept ts notes h.worded in
    let f = top_formed ts m in
    steps_formed ts (begin ts (table 0 0 ts) notes) k.follows.worded f ps (begin ts (table 0 0 ts) notes) w k f h.right h.ran

-- ── The kind words of the first tree ────────────────────────────────────────────────────────────────────────

mem_at : {A : Type 0} (d : A) (l : List A) (x : A) → Memᴰ x l → (n : ℕ) × (n < length l) × (get_or l n d ≡ x)
mem_at d [] x m = absurd (Memᴰ.not-nil m)
mem_at {A} d (y ∷ l) x m = go (Memᴰ.cases_cons m) (mem_at d l x)
  where
    go : (x ≡ y) ⊎ Memᴰ x l → (Memᴰ x l → (n : ℕ) × (n < length l) × (get_or l n d ≡ x)) → (n : ℕ) × (n < suc (length l)) × (get_or (y ∷ l) n d ≡ x)
    go (inl e) r = (0, omega arith, sym e)
    go (inr e) r = let (n, a, b) = r e in (suc n, omega arith, b)

-- trees whose first tree, taken alone, is that of t
pub first_formed : (ts : List (Tree ℕ)) (t : Tree ℕ) → ((q : Path) → resolve (0 ∷ q) (node 2147483648 (forest (take 1 ts))) ≡ resolve (0 ∷ q) t) → Formed t → any malformed (map label (flat_map preorder (take 1 ts))) ≡ false
unfolding row
first_formed ts t same h = ap (any malformed) (sym (table_kinds (take 1 ts) 0 0)) ∙ none_any malformed (map (λ (r : Row). r.kind) (first_table ts)) one
  where
    at : (n : ℕ) → n < length (first_table ts) → malformed (row (first_table ts) n).kind ≡ false
    at n l =
        let (y, a, b) = path_leads (take 1 ts) n 2147483648 l in
        let (q, e) = first_path ts n l in
        ap malformed (sym b) ∙ h (0 ∷ q) y (sym (same q) ∙ (ap (λ (p : Path). resolve p (node 2147483648 (forest (take 1 ts)))) (sym e) ∙ a))

    one : (k : ℕ) → Memᴰ k (map (λ (r : Row). r.kind) (first_table ts)) → malformed k ≡ false
    one k m =
        let (r, a, b) = mem_map (λ (r : Row). r.kind) (first_table ts) k m in
        let (n, l, e) = mem_at no_row (first_table ts) r a in
        ap malformed (sym b ∙ ap (λ (r : Row). r.kind) (sym e)) ∙ at n l
