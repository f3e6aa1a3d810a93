-- THE ROOT REPLACED: all of the new tree's text is rewritten, so the share is 1,000 and 0 unless the text is empty.
-- Assumes nothing.
use Rattle.std.specs.Prelude.{◌≡◌, Bool, not, ◌&&◌, ℕ, zero, suc, ◌+◌, ◌≤◌, ◌<◌, eqb, take}
use Rattle.std.proofs.Math.Path.{refl, ap, subst}
use Rattle.std.proofs.Common.{sym, ap₂, ◌∙◌, arith, le-leb, lt-ltb, eq-eqb, eqb-true}
use Rattle.std.proofs.Math.Bool.{true, false, cond}
use mathlib.Core.List.Memᴰ
use mathlib.Core.List.{List, [], ◌∷◌, ◌++◌, map, flat_map, append-nil, Permᴰ, Memᴰ}
use Rattle.std.proofs.Math.Logic.{inl, inr}
use Rattle.std.proofs.Math.Option
use Rattle.std.proofs.Math.Option.{Option, none, some, bind}
use Rattle.std.proofs.Math.ListN.{length}
use Rattle.std.proofs.lemmas.List.{length-map}
use Rattle.std.proofs.lemmas.Bool.{not-true, not-false}
use Rattle.orders.specs.Lists.{All, any, pick}
use Rattle.orders.specs.ListLaws.{bool_absurd, both_true, either_true, some_inj, mem_pick, mem_any, any_mem, any_perm, none_passes, passes_none, All-map, zone_before}
use Rattle.orders.specs.Tree.{Tree, node, token, list, children, Path, adjust, front, last, text}
use Rattle.orders.proofs.TreeLaws.{front_child, adjust_root}
use Rattle.definition.specs.Basics.{gives, is_some, keep, numbered}
use Rattle.definition.specs.Choices.{Choices}
use Rattle.definition.specs.Elements.{Table, table, row, rows, root?, tree, descend}
use Rattle.definition.specs.Refusals.{Accepted, accepted}
use Rattle.definition.specs.Recording.{Change, insert, replace, delete, replace_with_many, replace_all}
use Rattle.definition.specs.Planning.{Planned, target}
use Rattle.definition.specs.Rewriting.{Note}
use Rattle.definition.specs.Running.{World, begin, Yield, yield, news, Run, from_to, empty_at, place, placed, spliced, owned, records, recorded_by, step, steps}
use Rattle.definition.specs.Finishing.{new_tree, new_table, number_at}
use Rattle.definition.specs.Answers.{Plan, plan, performed, ran}
use Rattle.definition_laws.specs.Answers.{gives_inj, given, bound}
use Rattle.definition_laws.specs.Kin.{root_is}
use Rattle.definition_laws.proofs.Limits.{ran_known}
use Rattle.definition_laws.specs.Spelling.{Worded}
use Rattle.definition_laws.specs.Right.{Right, Sits, right_sits}
use Rattle.definition_laws.specs.Running.{Follows, follows_begin, step_follows}
use Rattle.definition_demand.specs.Aims.{Aim, aimed, replaces_root, AtRoot}
use Rattle.definition_demand.specs.Aims.{within, root, at_first, behind, over}
use Rattle.definition_demand.proofs.Aims.{aims}
use Rattle.definition_account.specs.Words.{changed_paths, changed_in, keeps_root, dependent_in0, no_dependent_in0}
use Rattle.definition_account.proofs.Changed.{filled, spliced_changed, changed_numbers}
use Rattle.definition_account.proofs.Run.{performs, recorded_some}
use Rattle.definition_account.proofs.Account.{Performed, ran_performed}
use Rattle.share_laws.specs.Share.{lies_in, lies_in_one, bytes_in, new_text, rewritten_bytes, thousandths, share_in}
use Rattle.share_laws.proofs.Sum.{hits_cons}
use Rattle.share_laws.proofs.Laws.{thousandths_all}

-- ── All of a text ───────────────────────────────────────────────────────────────────────────────────────────

hits_all : (p : ℕ → Bool) (n : ℕ) (l : List ℕ) → ((i : ℕ) → n ≤ i → i < n + length l → p i ≡ true) → length (keep (λ b. p b.0) (numbered n l)) ≡ length l
unfolding keep numbered pick
hits_all p n [] h = refl
hits_all p n (b ∷ l) h = hits_cons p n b l ∙ rw (h n (omega arith) (omega arith)) (omega (arith, hits_all p (suc n) l (λ i x y. h i (omega arith) (omega arith))))

-- every byte of a tree lies in its root
in_root : (c : Tree ℕ) (i : ℕ) → i < length (text c) → lies_in i (row (table 0 0 (c ∷ [])) 0) ≡ true
unfolding lies_in row table rows text
in_root (node w cs) i h = rw (le-leb 0 i (omega arith)) (lt-ltb i _ (omega arith))
in_root (token w own) i h = rw (le-leb 0 i (omega arith)) (lt-ltb i _ (omega arith))

-- the root of the new tree is recorded as changed
abbrev pub RootChanged : World → Type 0
RootChanged w = Memᴰ (0 ∷ []) (changed_paths w)

all_first : (cs : List (Tree ℕ)) (l : List ℕ) → Memᴰ 0 l → length (bytes_in (table 0 0 (take 1 cs)) l (flat_map text (take 1 cs))) ≡ length (flat_map text (take 1 cs))
unfolding bytes_in lies_in_one flat_map keep numbered pick
all_first [] l m = refl
all_first (c ∷ cs) l m = hits_all (lies_in_one (table 0 0 (c ∷ [])) l) 0 (text c ++ []) λ i a b. mem_any (λ e. lies_in i (row (table 0 0 (c ∷ [])) e)) l 0 m (in_root c i (omega (arith, ap length (append-nil (text c)))))

mem_perm : (x : ℕ) (l m : List ℕ) → Permᴰ l m → Memᴰ x l → Memᴰ x m
mem_perm x l m p h =
    let (y, k, e) = any_mem (eqb x) m (sym (any_perm (eqb x) p) ∙ mem_any (eqb x) l x h (eq-eqb x x refl)) in
    subst (λ (z : ℕ). Memᴰ z m) (sym (eqb-true x y e)) k

-- THE SHARE where the root is recorded as changed
pub share_root : (w : World) → RootChanged w → 0 < length (new_text w) → share_in w ≡ (1000, 0)
unfolding share_in rewritten_bytes new_text new_table new_tree number_at descend
share_root w m h =
    let F = new_table w in
    let in-numbers = mem_perm 0 (pick (number_at F) (changed_paths w)) (changed_in F w) (changed_numbers F w) (mem_pick (number_at F) (changed_paths w) (0 ∷ []) 0 m refl) in
    ap (λ (n : ℕ). thousandths n (length (new_text w))) (all_first (list (children w.trees)) (changed_in F w) in-numbers) ∙ thousandths_all (length (new_text w)) h

-- ── Where a change goes ─────────────────────────────────────────────────────────────────────────────────────

-- strictly inside a tree; or a whole tree gives way, and if that is tree 0, its root is replaced
data Goes (T : Table) (c : Change) (r : Run) : Type 0 where
  inside : (j : ℕ) (q : Path) → r.parent ≡ j ∷ q → Goes T c r
  whole : r.parent ≡ [] → length (news c) ≡ 1 → (r.from ≡ 0 → replaces_root T c ≡ true) → Goes T c r

long : (p : Path) → 0 < length p → (j : ℕ) × (q : Path) × (p ≡ j ∷ q)
long [] h = absurd (omega arith)
long (j ∷ q) h = (j, q, refl)

module _ (ts : List (Tree ℕ)) where
  abbrev T : Table
  T = table 0 0 ts

  module _ (w : World) (f : Follows ts w) where
    goes : (c : Change) (r : Run) → Sits T c → place T w c ≡ some r → Goes T c r
    unfolding aimed empty_at from_to
    goes c r s e = let a = aims ts c s in go a.aim a.roots (sym (a.goes w f.move f.paths) ∙ e)
      where
        -- the parent of a child that stays
        parent : (t : ℕ) (q p : Path) (i : ℕ) → f.move (t ∷ (q ++ (i ∷ []))) ≡ some p → (j : ℕ) × (u : Path) × (front p ≡ j ∷ u)
        parent t q p i g =
            let (u, k, m, z) = f.keeps.child (t ∷ q) p i g in
            let (j, v, y) = long u (omega (arith, f.keeps.size (t ∷ q) u m)) in
            (j, v, ap front z ∙ (front_child u k ∙ y))

        go : (a : Aim) → AtRoot T c a → aimed a f.move ≡ some r → Goes T c r
        go (within t (at_first q)) o e =
            bound (f.move (t ∷ q)) _ e λ p g e.
            let (j, u, y) = long p (omega (arith, f.keeps.size (t ∷ q) p g)) in
            subst (Goes T c) (some_inj e) (inside j u y)
        go (within t (behind q i)) o e =
            bound (f.move (t ∷ (q ++ (i ∷ [])))) _ e λ p g e.
            let (j, u, y) = parent t q p i g in
            subst (Goes T c) (some_inj e) (inside j u y)
        go (within t (over q i k l)) o e =
            bound (f.move (t ∷ (q ++ (i ∷ [])))) _ e λ p g e.
            bound (f.move (t ∷ (q ++ (k ∷ [])))) _ e λ p' g' e.
            let (j, u, y) = parent t q p i g in
            subst (Goes T c) (some_inj e) (inside j u y)
        go (root t) o e = subst (Goes T c) (some_inj e) (whole refl o.0 o.1)

    -- the root of tree 0 replaced
    goes_root : (c : Change) (r : Run) → Sits T c → replaces_root T c ≡ true → place T w c ≡ some r → (r.parent ≡ []) × (r.from ≡ 0) × (length (news c) ≡ 1)
    unfolding replaces_root place from_to front last news bind
    goes_root (insert p x l) r s h e = bool_absurd h refl
    goes_root (replace x y) r s h e =
        let (a, b) = both_true (root? T x) (eqb (tree T x) 0) h in
        let z : (row T x).path ≡ 0 ∷ [] = (root_is ts x s a).path ∙ ap {B = Path} (λ (t : ℕ). t ∷ []) (eqb-true (tree T x) 0 b) in
        let e = rw (a, z) at e in
        rw (← some_inj e) (refl, refl, refl)
    goes_root (delete x) r s h e = bool_absurd h refl
    goes_root (replace_with_many x l) r s h e = bool_absurd h refl
    goes_root (replace_all x y l) r s h e = bool_absurd h refl

  -- ── One splice ──

  -- what is put in as tree 0, and recorded
  put : (w : World) (r : Run) (new : List Yield) (rec : Option ℕ) → r.parent ≡ [] → r.from ≡ 0 → length new ≡ 1 → is_some rec ≡ true → RootChanged (spliced r new rec w)
  unfolding placed
  put w r new rec a b n e = subst (Memᴰ (0 ∷ [])) (sym (spliced_changed w r new rec)) (Memᴰ.append_right (pick (adjust r.parent r.from r.to (length new)) (changed_paths w)) (rw (e, a, b) (go new n)))
    where
      go : (new : List Yield) → length new ≡ 1 → Memᴰ (0 ∷ []) (filled [] 0 new)
      go [] n = absurd (omega arith)
      go (y ∷ ys) n = Memᴰ.head refl

  -- what is there already
  stay : (w : World) (r : Run) (new : List Yield) (rec : Option ℕ) → RootChanged w → adjust r.parent r.from r.to (length new) (0 ∷ []) ≡ some (0 ∷ []) → RootChanged (spliced r new rec w)
  stay w r new rec m e =
      subst (Memᴰ (0 ∷ [])) (sym (spliced_changed w r new rec))
      (Memᴰ.append_left (cond (is_some rec) (filled r.parent r.from new) []) (mem_pick (adjust r.parent r.from r.to (length new)) (changed_paths w) (0 ∷ []) (0 ∷ []) m e))

  stay_inside : (j a b n : ℕ) (q : Path) → adjust (j ∷ q) a b n (0 ∷ []) ≡ some (0 ∷ [])
  unfolding adjust
  stay_inside j a b n q = rw (adjust_root a b n q) (go (eqb 0 j))
    where
      go : (c : Bool) → cond c (Option.map (λ (r : Path). 0 ∷ r) (some [])) (some (0 ∷ [])) ≡ some (0 ∷ [])
      go true = refl
      go false = refl

  stay_before : (t b n : ℕ) → adjust [] (suc t) b n (0 ∷ []) ≡ some (0 ∷ [])
  unfolding adjust
  stay_before t b n = zone_before 0 (suc t) b (some (0 ∷ [])) none _ (omega arith)

  -- ── Steps ──

  -- a change that replaces the root of tree 0 records what it puts there
  abbrev Records : Planned → Type 0
  Records p = replaces_root T p.change ≡ true → records T p ≡ true

  module _ (first : World) (f₀ : Worded first.trees) where
    -- a root that is changed stays so
    step_stays : (w next : World) (p : Planned) → Follows ts w → Right T p.change → Records p → RootChanged w → step T first w p ≡ gives next → RootChanged next
    step_stays w next p f c h m e =
        let d = performs T first w next p e in
        let new = map (yield first w) (news p.change) in
        subst RootChanged d.leaves (go d.run new (length-map (news p.change) (yield first w)) (goes w f p.change d.run (right_sits T p.change c) d.there))
      where
        go : (r : Run) (new : List Yield) → length new ≡ length (news p.change) → Goes T p.change r → RootChanged (spliced r new (recorded_by T p) w)
        go r new n (inside j q z) = stay w r new (recorded_by T p) m (ap (λ (u : Path). adjust u r.from r.to (length new) (0 ∷ [])) z ∙ stay_inside j r.from r.to (length new) q)
        go r new n (whole z l o) = by r.from refl
          where
            by : (a : ℕ) → r.from ≡ a → RootChanged (spliced r new (recorded_by T p) w)
            by zero y = put w r new (recorded_by T p) z y (n ∙ l) (recorded_some T p (h (o y)))
            by (suc t) y = stay w r new (recorded_by T p) m (ap₂ (λ (u : Path) (a : ℕ). adjust u a r.to (length new) (0 ∷ [])) z y ∙ stay_before t r.to (length new))

    -- a root that is replaced is changed
    step_puts : (w next : World) (p : Planned) → Follows ts w → Right T p.change → Records p → replaces_root T p.change ≡ true → step T first w p ≡ gives next → RootChanged next
    step_puts w next p f c h o e =
        let d = performs T first w next p e in
        let (z, y, l) = goes_root w f p.change d.run (right_sits T p.change c) o d.there in
        subst RootChanged d.leaves (put w d.run (map (yield first w) (news p.change)) (recorded_by T p) z y (length-map (news p.change) (yield first w) ∙ l) (recorded_some T p (h o)))

    steps_stay : (ps : List Planned) (w last : World) → Follows ts w → All (λ p. Right T p.change) ps → All Records ps → RootChanged w → steps T first w ps ≡ gives last → RootChanged last
    unfolding steps
    steps_stay [] w last f c h m e = subst RootChanged (gives_inj e) m
    steps_stay (p ∷ ps) w last f c h m e =
        given (step T first w p) _ e λ next a e.
        steps_stay ps next last (step_follows ts first f₀ w next p f c.0 a) c.1 h.1 (step_stays w next p f c.0 h.0 m a) e

    steps_put : (ps : List Planned) (w last : World) → Follows ts w → All (λ p. Right T p.change) ps → All Records ps → any (λ p. replaces_root T p.change) ps ≡ true → steps T first w ps ≡ gives last → RootChanged last
    unfolding steps any
    steps_put [] w last f c h m e = bool_absurd m refl
    steps_put (p ∷ ps) w last f c h m e =
        given (step T first w p) _ e λ next a e.
        let f' = step_follows ts first f₀ w next p f c.0 a in
        elim (either_true (replaces_root T p.change) (any (λ p. replaces_root T p.change) ps) m) [
          | inl o ↦ steps_stay ps next last f' c.1 h.1 (step_puts w next p f c.0 h.0 o a) e
          | inr o ↦ steps_put ps next last f' c.1 h.1 o e
        ]

-- ── A root that is replaced ─────────────────────────────────────────────────────────────────────────────────

-- no dependent change replaces the root of tree 0
unfoldable pub own_roots : Table → List Planned → Bool
own_roots T ps = not (any (λ p. replaces_root T p.change && not (owned none p.fate)) ps)

own_records : (T : Table) (p : Planned) → (replaces_root T p.change && not (owned none p.fate)) ≡ false → replaces_root T p.change ≡ true → records T p ≡ true
unfolding records replaces_root target
own_records T p e h = go p.change (owned none p.fate) e h
  where
    go : (c : Change) (o : Bool) → (replaces_root T c && not o) ≡ false → replaces_root T c ≡ true → (o && eqb (tree T (target c)) 0) ≡ true
    go (insert q x l) o e h = bool_absurd h refl
    go (delete x) o e h = bool_absurd h refl
    go (replace_with_many x l) o e h = bool_absurd h refl
    go (replace_all x y l) o e h = bool_absurd h refl
    go (replace x y) false e h = bool_absurd (ap (λ (b : Bool). b && true) h) e
    go (replace x y) true e h = (both_true (root? T x) (eqb (tree T x) 0) h).1

-- as where no dependent change ends in tree 0 at all, which is Note 13's condition
pub own_roots_lem : (T : Table) (ps : List Planned) → no_dependent_in0 T ps ≡ true → own_roots T ps ≡ true
unfolding own_roots no_dependent_in0 dependent_in0 replaces_root target
own_roots_lem T ps h = ap not (passes_none (λ p. replaces_root T p.change && not (owned none p.fate)) ps (All-map (λ p e. go p.change (owned none p.fate) e) ps (none_passes (dependent_in0 T) ps (not-true _ h))))
  where
    go : (c : Change) (o : Bool) → (not o && eqb (tree T (target c)) 0) ≡ false → (replaces_root T c && not o) ≡ false
    go (insert q x l) o e = refl
    go (delete x) o e = refl
    go (replace_with_many x l) o e = refl
    go (replace_all x y l) o e = refl
    go (replace x y) o e = by (root? T x) (eqb (tree T x) 0) o e
      where
        by : (r t o : Bool) → (not o && t) ≡ false → ((r && t) && not o) ≡ false
        by false t o e = refl
        by true false o e = refl
        by true true true e = refl
        by true true false e = e

-- THE ROOT REPLACED, by any performed changes
pub performed_root : (ts : List (Tree ℕ)) (notes : List Note) (ps : List Planned) (w : World) → Performed ts notes ps w → keeps_root (table 0 0 ts) ps ≡ false → own_roots (table 0 0 ts) ps ≡ true → RootChanged w
unfolding keeps_root own_roots
performed_root ts notes ps w h r o =
    let T = table 0 0 ts in
    let first = begin ts T notes in
    let f = follows_begin ts notes h.worded in
    steps_put ts first f.worded ps first w f h.right (All-map (own_records T) ps (none_passes (λ p. replaces_root T p.change && not (owned none p.fate)) ps (not-true _ o))) (not-false _ r) h.ran

-- of a batch, whatever the choices
pub ran_root : (h : Choices) (bytes : List ℕ) (a : Accepted) (p : Plan) (w : World) → accepted bytes ≡ gives a → plan h a ≡ gives p → ran a p ≡ gives w
    → keeps_root a.table (performed a p) ≡ false → own_roots a.table (performed a p) ≡ true → 0 < length (new_text w) → share_in w ≡ (1000, 0)
ran_root h bytes a p w x y z r o l =
    let t : a.table ≡ table 0 0 a.trees = (ran_known h bytes a p w x y z).known.table in
    share_root w (performed_root a.trees p.notes (performed a p) w (ran_performed h bytes a p w x y z) (ap (λ (T : Table). keeps_root T (performed a p)) (sym t) ∙ r) (ap (λ (T : Table). own_roots T (performed a p)) (sym t) ∙ o)) l
