-- EVERY RUN keeps changed elements apart from each other and from old ones: the steps of any plan, whatever planned them, from the first to the last.
-- Assumes nothing.
use Rattle.std.specs.Prelude.{◌≡◌, Bool, true, false, cond, ◌⊎◌, ℕ, zero, suc, ◌+◌, ◌<◌, get_or}
use Rattle.std.proofs.Math.Path.{refl, sym, ap, subst}
use Rattle.std.proofs.Common.{◌∙◌, inr, arith}
use mathlib.Core.List.{List, [], ◌∷◌, ◌++◌, map, head_d, head-eq_of_cons-eq}
use Rattle.std.proofs.Math.Logic.{inl}
use Rattle.std.proofs.Math.Option.{Option, none, some, bind}
use Rattle.std.proofs.Math.ListN.{length, length-map}
use Rattle.orders.specs.Lists.{All}
use Rattle.orders.specs.ListLaws.{some_inj, none_some, map_some, All-map}
use Rattle.orders.specs.Tree.{Tree, Path, adjust, front, last}
use Rattle.orders.proofs.TreeLaws.{front_child, adjust_root}
use Rattle.definition.specs.Basics.{Answer, refused, gives, refuse, or_refuse, is_some}
use Rattle.definition.specs.Elements.{Table, table, row, no_row, root?, tree}
use Rattle.definition.specs.Recording.{first_child, after, Change, insert, replace, delete, replace_with_many, replace_all}
use Rattle.definition.specs.Planning.{Planned, target}
use Rattle.definition.specs.Rewriting.{Note}
use Rattle.definition.specs.Running.{World, begin, present, Yield, yield, news, Run, from_to, empty_at, place, spliced, too_large, records, recorded_by, step, steps}
use Rattle.definition.specs.Performed.{met}
use Rattle.definition_laws.specs.Basics.{get_d_map}
use Rattle.definition_laws.specs.Answers.{gives_inj, given, is_there, bound}
use Rattle.definition_laws.specs.Rows.{Element, row_of, element}
use Rattle.definition_laws.specs.Kin.{path_long, path_tells, not_root, root_is, element_path, element_tree, row_told_lem, element_stands, stands_within}
use Rattle.definition_laws.specs.Spelling.{Worded}
use Rattle.definition_laws.specs.Right.{Right, Sits, right_sits}
use Rattle.definition_laws.specs.Running.{Follows, Under, follows_begin, present_moved, present_under, place_fits, step_follows}
use Rattle.definition_demand.proofs.Tree0.{adjust_first, root_first}
use Rattle.definition_account.specs.Words.{changed_paths, ChangedApart, Went, Full}
use Rattle.definition_account.proofs.Changed.{begin_changed}
use Rattle.definition_account.proofs.Moving.{keeps_inj}
use Rattle.definition_account.proofs.Splice.{was_before, spliced_apart, spliced_full}

-- every element of the batch stays in its tree
abbrev pub Home : Table → World → Type 0
Home T w = (x : ℕ) (p : Path) → present w x ≡ some p → (q : Path) × (p ≡ tree T x ∷ q)

-- what goes into tree 0 is recorded as changed
abbrev pub Recorded : Table → Planned → Type 0
Recorded T p = tree T (target p.change) ≡ 0 → records T p ≡ true

pub recorded_some : (T : Table) (p : Planned) → records T p ≡ true → is_some (recorded_by T p) ≡ true
unfolding recorded_by is_some
recorded_some T p e = rw e refl

some_within : {A : Type 0} (l : List (Option A)) (x : ℕ) (a : A) → get_or l x none ≡ some a → x < length l
some_within [] x a e = none_some e
some_within (y ∷ l) zero a e = omega arith
some_within (y ∷ l) (suc x) a e = omega (arith, some_within l x a e)

-- a step that is performed: the run to which it goes, and what it leaves
pub record Performs (T : Table) (first w next : World) (p : Planned) : Type 0 where
  pub run : Run
  pub there : place T w p.change ≡ some run
  pub leaves : spliced run (map (yield first w) (news p.change)) (recorded_by T p) w ≡ next

pub performs : (T : Table) (first w next : World) (p : Planned) → step T first w p ≡ gives next → Performs T first w next p
unfolding step
performs T first w next p e =
    given (or_refuse 11 (place T w p.change)) _ e λ r a e.
    given (refuse 12 (too_large (spliced r (map (yield first w) (news p.change)) (recorded_by T p) w))) _ e λ u b e.
    record { run = r; there = is_there 11 _ a; leaves = gives_inj e }

module _ (ts : List (Tree ℕ)) where
  abbrev T : Table
  T = table 0 0 ts

  -- what is held between steps
  pub record Kept (w : World) : Type 0 where
    pub follows : Follows ts w
    pub home : Home T w
    pub apart : ChangedApart w

  -- ── Before the first step ──

  module _ (notes : List Note) where
    abbrev first : World
    first = begin ts T notes

    pub first_present : (x : ℕ) → x < length T → present first x ≡ some (row T x).path
    unfolding begin present row
    first_present x h = get_d_map (λ r. some r.path) T x none no_row h

    first_home : Home T first
    unfolding begin present tree head_d
    first_home x p e =
        let h : x < length T = omega (arith, some_within (map (λ r. some r.path) T) x p e, length-map T (λ r. some r.path)) in
        go (row T x).path (path_long ts x h) (some_inj (sym (first_present x h) ∙ e))
      where
        go : (s : Path) → 0 < length s → s ≡ p → (q : Path) × (p ≡ head_d s 0 ∷ q)
        go [] l z = absurd (omega arith)
        go (i ∷ s) l z = (s, sym z)

    pub first_kept : All Worded ts → Kept first
    first_kept h = record {
      follows = follows_begin ts notes h;
      home = first_home;
      apart = record { long = none_yet (λ c. 0 < length c); aside = rw (begin_changed ts T notes) tt; bare = none_yet _ };
    }
      where
        none_yet : (P : Path → Type 0) → All P (changed_paths first)
        none_yet P = subst (All P) (sym (begin_changed ts T notes)) tt

    -- every element of tree 0 is where it was
    pub first_full : Full first
    unfolding begin row_of
    first_full q v e =
        let (d, a, b) = map_some (λ (d : Element). d.tree) (element ts (0 ∷ q)) (element_tree ts 0 q 2147483648 ∙ e) in
        let h : d.number < length T = stands_within ts d.number (element_stands ts (0 ∷ q) d a) in
        inl (d.number, first_present d.number h ∙ ap {B = Option Path} some (ap (λ r. r.path) (row_told_lem ts (0 ∷ q) d a) ∙ element_path ts (0 ∷ q) d a))

  -- ── Where a change goes ──

  -- below an element of the batch that is there, in the tree of its target; or it replaces a root
  data Goes (w : World) (c : Change) (r : Run) : Type 0 where
    below : (q : Path) → Went w r.parent → r.parent ≡ tree T (target c) ∷ q → Goes w c r
    root : r.parent ≡ [] → r.from ≡ tree T (target c) → r.to ≡ suc (tree T (target c)) → length (news c) ≡ 1 → Goes w c r

  module _ (w : World) (k : Kept w) where
    -- in the parent of an element that is there
    beside : (c : Change) (p : Path) (a b : ℕ) → target c < length T → root? T (target c) ≡ false → present w (target c) ≡ some p → Goes w c (record { parent = front p; from = a; to = b })
    beside c p a b l e g =
        let (m, i) = not_root ts (target c) l e in
        go m (present_under ts w k.follows (target c) m p l i g)
      where
        go : (m : ℕ) → Under ts w k.follows m p → Goes w c (record { parent = front p; from = a; to = b })
        go m u =
            let fp : front p ≡ u.above = ap front u.parted ∙ front_child u.above u.number in
            let (q, y) = k.home (target c) p g in
            let (s, v) = k.home m u.above u.parent in
            let heads : tree T m ∷ (s ++ (u.number ∷ [])) ≡ tree T (target c) ∷ q = ap (λ z. z ++ (u.number ∷ [])) (sym v) ∙ (sym u.parted ∙ y) in
            below s (m, u.parent ∙ ap {B = Option Path} some (sym fp)) (fp ∙ (v ∙ ap (λ (t : ℕ). t ∷ s) (head-eq_of_cons-eq heads)))

    goes : (c : Change) (r : Run) → Sits T c → place T w c ≡ some r → Goes w c r
    unfolding place empty_at from_to news target front last
    goes (insert first_child x l) r s e = bound (present w x) _ e λ p g e. let (q, y) = k.home x p g in subst (Goes w (insert first_child x l)) (some_inj e) (below q (x, g) y)
    goes (insert after x l) r s e = bound (present w x) _ e λ p g e. subst (Goes w (insert after x l)) (some_inj e) (beside (insert after x l) p _ _ s.0 s.1 g)
    goes (replace x y) r s e = go (root? T x) refl e
      where
        at_root : (p : Path) → p ≡ tree T x ∷ [] → Goes w (replace x y) (from_to p p)
        at_root p z = rw z (root refl refl refl refl)

        go : (b : Bool) → root? T x ≡ b → bind (cond b (some (row T x).path) (present w x)) (λ p. some (from_to p p)) ≡ some r → Goes w (replace x y) r
        go true t e = bound (some (row T x).path) _ e λ p g e. subst (Goes w (replace x y)) (some_inj e) (at_root p (sym (some_inj g) ∙ (root_is ts x s t).path))
        go false t e = bound (present w x) _ e λ p g e. subst (Goes w (replace x y)) (some_inj e) (beside (replace x y) p _ _ s t g)
    goes (delete x) r s e = bound (present w x) _ e λ p g e. subst (Goes w (delete x)) (some_inj e) (beside (delete x) p _ _ s.0 s.1 g)
    goes (replace_with_many x l) r s e = bound (present w x) _ e λ p g e. subst (Goes w (replace_with_many x l)) (some_inj e) (beside (replace_with_many x l) p _ _ s.0 s.1 g)
    goes (replace_all x y l) r s e = bound (present w x) _ e λ p g e. bound (present w y) _ e λ q i e. subst (Goes w (replace_all x y l)) (some_inj e) (beside (replace_all x y l) p _ _ s.0 s.2 g)

    module _ (c : Change) (r : Run) (new : List Yield) (n : length new ≡ length (news c)) where
      -- no path leaves its tree
      stays_home : Goes w c r → (i : ℕ) (e g : Path) → adjust r.parent r.from r.to (length new) (i ∷ e) ≡ some g → (u : Path) × (g ≡ i ∷ u)
      stays_home (below q o y) i e g m = adjust_first r.from r.to (length new) i (tree T (target c)) q e g (ap (λ (z : Path). adjust z r.from r.to (length new) (i ∷ e)) (sym y) ∙ m)
      stays_home (root y a b l) i e g m = root_first (tree T (target c)) (length new) i e g (n ∙ l) (rw (y, a, b) at m)

      -- and none comes into tree 0
      was_home : Goes w c r → (e g : Path) → adjust r.parent r.from r.to (length new) e ≡ some (0 ∷ g) → (q : Path) × (e ≡ 0 ∷ q)
      was_home o [] g m = absurd (let z : [] ≡ 0 ∷ g = some_inj (sym (adjust_root r.from r.to (length new) r.parent) ∙ m) in omega (arith, ap length z))
      was_home o (i ∷ e) g m = let (u, z) = stays_home o i e (0 ∷ g) m in (e, ap (λ (j : ℕ). j ∷ e) (sym (head-eq_of_cons-eq z)))

      home_next : Goes w c r → (recorded : Option ℕ) → Home T (spliced r new recorded w)
      home_next o recorded x p e =
          let (s, a, b) = was_before w r new recorded x p e in
          let (q, y) = k.home x s a in
          stays_home o (tree T x) q p (ap (adjust r.parent r.from r.to (length new)) (sym y) ∙ b)

      at_element : Goes w c r → (r.parent ≡ []) ⊎ Went w r.parent
      at_element (below q o y) = inr o
      at_element (root y a b l) = inl y

      -- what comes into tree 0 has its target there
      comes_home : Goes w c r → (i : ℕ) (s g : Path) → 0 ∷ g ≡ r.parent ++ ((r.from + i) ∷ s) → i < length new → tree T (target c) ≡ 0
      comes_home (below q o y) i s g e h = sym (head-eq_of_cons-eq (e ∙ ap (λ (u : Path). u ++ ((r.from + i) ∷ s)) y))
      comes_home (root y a b l) i s g e h = omega (arith, head-eq_of_cons-eq (e ∙ ap (λ (u : Path). u ++ ((r.from + i) ∷ s)) y))

  -- ── One step ──

  module _ (first : World) (f₀ : Worded first.trees) where
    -- a step that is performed keeps what is held; and if it records what it puts into tree 0, each element there stays accounted for
    pub step_kept : (w next : World) (p : Planned) → Kept w → Right T p.change → step T first w p ≡ gives next → Kept next × (Recorded T p → Full w → Full next)
    step_kept w next p k c e =
        let d = performs T first w next p e in
        let r : Run = d.run in
        let s = right_sits T p.change c in
        let new = map (yield first w) (news p.change) in
        let n = length-map (news p.change) (yield first w) in
        let o = goes w k p.change r s d.there in (
          record {
            follows = step_follows ts first f₀ w next p k.follows c e;
            home = subst (Home T) d.leaves (home_next w k p.change r new n o (recorded_by T p));
            apart = subst ChangedApart d.leaves (spliced_apart w r new (recorded_by T p) (at_element w k p.change r new n o) k.apart);
          },
          λ h f. subst Full d.leaves (spliced_full w r new (recorded_by T p) (place_fits ts w k.follows p.change r s d.there).run (was_home w k p.change r new n o)
              (λ i s g z l. recorded_some T p (h (comes_home w k p.change r new n o i s g z l))) f),
        )

    -- ── All steps ──

    pub steps_kept : (ps : List Planned) (w last : World) → Kept w → All (λ p. Right T p.change) ps → steps T first w ps ≡ gives last → Kept last × (All (Recorded T) ps → Full w → Full last)
    unfolding steps
    steps_kept [] w last k c e = (subst Kept (gives_inj e) k, λ a f. subst Full (gives_inj e) f)
    steps_kept (p ∷ ps) w last k c e =
        given (step T first w p) _ e λ next a e.
        let (x, y) = step_kept w next p k c.0 a in
        let (u, v) = steps_kept ps next last x c.1 e in
        (u, λ a f. v a.1 (y a.0 f))

    -- also at each step that is met, should a later one be refused
    pub met_kept : (ps : List Planned) (w : World) → Kept w → All (λ p. Right T p.change) ps → All (λ (m : World × Planned). Kept m.0) (met T first w ps)
    unfolding met
    met_kept [] w k c = tt
    met_kept (p ∷ ps) w k c = (k, go (step T first w p) refl (λ next x. met_kept ps next x c.1))
      where
        go : (o : Answer World) → step T first w p ≡ o → ((next : World) → Kept next → All (λ (m : World × Planned). Kept m.0) (met T first next ps)) → All (λ (m : World × Planned). Kept m.0) (elim o as (λ o. List (World × Planned)) [ refused n ↦ [] | gives next ↦ met T first next ps ])
        go (refused n) e f = tt
        go (gives next) e f = f next (step_kept w next p k c.0 e).0

  -- FROM THE FIRST STEP TO THE LAST that is met: changed elements never nest or repeat, and no surviving old path is at or below one
  pub every_step_apart : (notes : List Note) (ps : List Planned) → All Worded ts → All (λ p. Right T p.change) ps → All (λ (m : World × Planned). ChangedApart m.0) (met T (begin ts T notes) (begin ts T notes) ps)
  every_step_apart notes ps h c =
      let k = first_kept notes h in
      All-map (λ m a. a.apart) (met T (begin ts T notes) (begin ts T notes) ps) (met_kept (begin ts T notes) k.follows.worded ps (begin ts T notes) k c)

  -- ── What is then known of present paths ──

  module _ (w : World) (k : Kept w) where
    -- only an element of the batch has one
    pub present_within : (x : ℕ) (p : Path) → present w x ≡ some p → x < length T
    unfolding present
    present_within x p e = omega (arith, some_within w.paths x p e, ap length k.follows.paths, length-map T (λ r. k.follows.move r.path))

    -- two elements of the batch never go to one place
    pub present_once : (x y : ℕ) (p : Path) → present w x ≡ some p → present w y ≡ some p → x ≡ y
    present_once x y p e g =
        let f = k.follows in
        let l = present_within x p e in
        let m = present_within y p g in
        path_tells ts x y l m (keeps_inj f.move f.keeps (row T x).path (row T y).path p (sym (present_moved ts w f x l) ∙ e) (sym (present_moved ts w f y m) ∙ g))
