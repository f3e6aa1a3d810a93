-- Our own output keeps each clause, of any performed changes.
-- Assumes nothing.
use Rattle.std.specs.Prelude.{◌≡◌, Bool, not, ◌&&◌, ◌||◌, ◌⊎◌, take}
use Rattle.std.proofs.Math.Path.{refl, sym, ap}
use Rattle.std.proofs.Common.{◌∙◌, inl, inr}
use Rattle.std.proofs.Math.Bool.{true, false, cond, or-true}
use mathlib.Core.List.{List, [], ◌∷◌, ◌++◌, map, head_d, head-eq_of_cons-eq, Memᴰ}
use Rattle.std.proofs.Math.Option
use Rattle.std.proofs.Math.Option.{Option, none, some}
use Prim.Native.Nat.{ℕ, suc, ◌+◌, ◌≤◌, ◌<◌}
use native.Mathlib.Omega.{arith}
use Rattle.std.proofs.Math.Dec.{eqb, ltb}
use Rattle.std.proofs.Math.ListN.{length}
use borrow.Author.Tests.{eqb-true, eq-eqb, lt-ltb, ltb-true}
use Rattle.orders.specs.Lists.{any, All, Pairs}
use Rattle.orders.specs.ListLaws.{bool_absurd, both_true, some_inj, none_some, map_some, lt_or_le, mem_pick, pick_mem, mem_any, any_mem, All-mem, Pairs-pick}
use Rattle.orders.specs.Tree.{Tree, node, token, forest, list, children, label, Path, resolve, front, last}
use Rattle.orders.proofs.TreeLaws.{front_same, front_last}
use Rattle.orders.specs.Splices.{Splice, EntersDeleted}
use Rattle.definition.specs.Basics.{is_some, among, keep, numbered}
use Rattle.definition.specs.Elements.{Table, table, row, is_node, node?, parent, child, tree, place_below}
use Rattle.definition.specs.Refusals.{same_parent}
use Rattle.definition.specs.Planning.{Planned}
use Rattle.definition.specs.Rewriting.{Note}
use Rattle.definition.specs.Running.{World, begin, present}
use Rattle.definition.specs.Finishing.{new_tree, new_table}
use Rattle.definition_laws.specs.Spelling.{Worded, forest_worded}
use Rattle.definition_laws.specs.Kin.{path_leads, path_long, path_tells, depth_path, IsRoot, IsParent, Kin, root, below, kin, parent_is}
use Rattle.definition_laws.specs.Running.{worded_resolve, follows_begin, present_kind, present_depth, Under, present_under, present_order}
use Rattle.definition_laws.specs.Held.{Holds, begin_holds, steps_hold}
use Rattle.definition_account.specs.Words.{changed_in, went_to, changed_over, old_elements, is?, old_at, OneOf, changed, old, EachOneOf, keeps_root, no_dependent_in0}
use Rattle.definition_account.proofs.Run.{Kept, first_present, first_kept, steps_kept, present_within, present_once}
use Rattle.definition_account.proofs.Numbers.{went_path, path_went}
use Rattle.definition_account.proofs.Account.{Performed, performed_apart_in_new, each_one_of, nowhere_if_deleted}
use Rattle.definition_account.proofs.Tokens.{performed_tokens}
use Rattle.check_laws.specs.Check.{same_bytes, own_text, text_at, are_pair, earlier, just_one, roots_paired, none_twice, pairs_alike, parents_paired, orders_agree, is_paired, is_covered, all_accounted, accepts}
use Rattle.check_laws.specs.ListLaws.{Pairs-map, every_all, none_any, mem_map, map_mem, numbers_of, numbers_within, within_numbers, numbers_rise, every_number, mem_pair, same_bytes_lem, differ_once, count_any}
use Rattle.check_laws.proofs.Alone.{first_table, tops_resolve, first_resolve, first_row, first_path, within_first, first_parent, first_child}
use Rattle.check_laws.specs.Claimed.{old_tree, own_pairs}

module _ (ts : List (Tree ℕ)) (notes : List Note) (ps : List Planned) (w : World) (h : Performed ts notes ps w) where
  abbrev T : Table
  T = table 0 0 ts

  abbrev O : Table
  O = first_table ts

  abbrev F : Table
  F = new_table w

  abbrev P : List (ℕ × ℕ)
  P = own_pairs ts w

  pub kept : Kept ts w
  kept = let k = first_kept ts notes h.worded in (steps_kept ts (begin ts T notes) k.follows.worded ps (begin ts T notes) w k h.right h.ran).0

  pub held : Holds w
  held =
      let f = follows_begin ts notes h.worded in
      let b = begin_holds ts notes h.noted in
      steps_hold ts (begin ts T notes) f.worded b ps (begin ts T notes) w f b h.right h.ran

  -- ── What a pair is ──

  -- an old element that went to n
  pub record Pair (x n : ℕ) : Type 0 where
    pub old : x < length O
    pub went : went_to w x ≡ some n

  pair_in : (x n : ℕ) → Pair x n → Memᴰ (x, n) P
  unfolding own_pairs old_tree
  pair_in x n k = mem_pick (λ x. Option.map (λ n. (x, n)) (went_to w x)) (numbers_of 0 O) x (x, n) (within_numbers 0 O x (omega arith) (omega (arith, k.old))) (ap (Option.map (λ n. (x, n))) k.went)

  pub in_pair : (p : ℕ × ℕ) → Memᴰ p P → Pair p.0 p.1
  unfolding own_pairs old_tree
  in_pair p m =
      let (x, a, b) = pick_mem (λ x. Option.map (λ n. (x, n)) (went_to w x)) (numbers_of 0 O) p m in
      let (n, c, d) = map_some (λ n. (x, n)) (went_to w x) b in
      let (i, j) = numbers_within 0 O x a in
      rw (← d) (record { old = omega arith; went = c })

  module _ (x n : ℕ) (k : Pair x n) where
    pub in_new : n < length F
    in_new = (went_path w ts kept held x n k.went).0

    in_old : x < length T
    in_old = (first_row ts x k.old).0

    now : present w x ≡ some (row F n).path
    now = (went_path w ts kept held x n k.went).1

  new_path : (n : ℕ) → n < length F → (q : Path) × ((row F n).path ≡ 0 ∷ q)
  unfolding new_table new_tree
  new_path n l = first_path (list (children w.trees)) n l

  old_path : (x : ℕ) → x < length O → (q : Path) × ((row T x).path ≡ 0 ∷ q)
  old_path x l = let (q, e) = first_path ts x l in (q, ap (λ r. r.path) (sym (first_row ts x l).1) ∙ e)

  -- ── 2: "no element is paired twice" ──

  pairs_differ : Pairs (λ (p q : ℕ × ℕ). (p.0 ≡ q.0 → ⊥) × (p.1 ≡ q.1 → ⊥)) P
  unfolding own_pairs old_tree
  pairs_differ = Pairs-pick at (λ x y. x < y) (λ (p q : ℕ × ℕ). (p.0 ≡ q.0 → ⊥) × (p.1 ≡ q.1 → ⊥)) one (numbers_of 0 O) (numbers_rise 0 O)
    where
      at : ℕ → Option (ℕ × ℕ)
      at x = Option.map (λ n. (x, n)) (went_to w x)

      told : (x : ℕ) (p : ℕ × ℕ) → at x ≡ some p → (p.0 ≡ x) × (went_to w x ≡ some p.1)
      told x p e = let (n, a, b) = map_some (λ n. (x, n)) (went_to w x) e in (ap (λ q. q.0) (sym b), a ∙ ap {B = Option ℕ} (λ q. some q.1) b)

      one : (x : ℕ) (p : ℕ × ℕ) (y : ℕ) (q : ℕ × ℕ) → at x ≡ some p → at y ≡ some q → x < y → (p.0 ≡ q.0 → ⊥) × (p.1 ≡ q.1 → ⊥)
      one x p y q e f l =
          let (a, b) = told x p e in
          let (c, d) = told y q f in
          (λ z. omega arith, λ z. omega (arith, (performed_apart_in_new ts notes ps w h).once x y p.1 b (d ∙ ap {B = Option ℕ} some (sym z))))

  pub own_2 : none_twice (old_tree ts) (new_tree w) P ≡ true
  unfolding none_twice
  own_2 = rw (differ_once (λ p. p.0) P (Pairs-map (λ p q a. a.0) P pairs_differ), differ_once (λ p. p.1) P (Pairs-map (λ p q a. a.1) P pairs_differ))

  -- ── 3: "paired elements have equal kind words and, for tokens, equal text" ──

  -- what stands at an element of the new tree, there and in the current trees
  new_stands : (n : ℕ) → n < length F → (z : Tree ℕ) × (resolve (row F n).path (node 2147483648 (forest (new_tree w))) ≡ some z) × (label z ≡ (row F n).kind) × (resolve (row F n).path w.trees ≡ some z)
  unfolding new_table new_tree
  new_stands n l =
      let (z, a, b) = path_leads (new_tree w) n 2147483648 l in
      let (q, e) = new_path n l in
      (z, a, b, ap (λ (p : Path). resolve p w.trees) e ∙ (sym (tops_resolve w.trees 2147483648 q) ∙ (ap (λ (p : Path). resolve p (node 2147483648 (forest (new_tree w)))) (sym e) ∙ a)))

  module _ (x n : ℕ) (k : Pair x n) where
    pub same_kind : (row O x).kind ≡ (row F n).kind
    same_kind =
        let (z, a, b, c) = new_stands n (in_new x n k) in
        let (y, d, e) = present_kind ts w kept.follows x (row F n).path (in_old x n k) (now x n k) in
        ap (λ r. r.kind) (first_row ts x k.old).1 ∙ (sym e ∙ (ap label (some_inj (sym d ∙ c)) ∙ b))

    -- a token of the old tree is that token in the new one
    same_token : (j : ℕ) (own : List ℕ) → resolve (row O x).path (node 2147483648 (forest (take 1 ts))) ≡ some (token j own) → same_bytes (text_at (old_tree ts) x) (text_at (new_tree w) n) ≡ true
    unfolding text_at own_text old_tree begin new_table
    same_token j own e =
        let (q, p) = first_path ts x k.old in
        let (z, a, b, c) = new_stands n (in_new x n k) in
        let path : (row T x).path ≡ 0 ∷ q = ap (λ r. r.path) (sym (first_row ts x k.old).1) ∙ p in
        let there : resolve (row T x).path (node 2147483648 (forest ts)) ≡ some (token j own) = ap (λ (p : Path). resolve p (node 2147483648 (forest ts))) path ∙ (sym (first_resolve ts 2147483648 2147483648 q) ∙ (ap (λ (p : Path). resolve p (node 2147483648 (forest (take 1 ts)))) (sym p) ∙ e)) in
        let stays = performed_tokens ts notes ps w h x (row T x).path (row F n).path j own (first_present ts notes x (in_old x n k)) there (now x n k) in
        let new : resolve (row F n).path (node 2147483648 (forest (new_tree w))) ≡ some (token j own) = a ∙ (sym c ∙ stays) in
        rw (e, new) (same_bytes_lem own)

    alike : (eqb (row O x).kind (row F n).kind && (node? O x || same_bytes (text_at (old_tree ts) x) (text_at (new_tree w) n))) ≡ true
    unfolding node? is_node label
    alike = rw (eq-eqb (row O x).kind (row F n).kind same_kind) (let (y, a, b) = path_leads (take 1 ts) x 2147483648 k.old in go y a b)
      where
        firsts : (l : List (Tree ℕ)) → All Worded l → All Worded (take 1 l)
        firsts [] h = tt
        firsts (c ∷ cs) h = (h.0, tt)

        go : (y : Tree ℕ) → resolve (row O x).path (node 2147483648 (forest (take 1 ts))) ≡ some y → label y ≡ (row O x).kind → (is_node (row O x).kind || same_bytes (text_at (old_tree ts) x) (text_at (new_tree w) n)) ≡ true
        go (token j own) a b = rw (same_token j own a) (or-true (is_node (row O x).kind))
        go (node j cs) a b = rw (← b, (worded_resolve (row O x).path (node 2147483648 (forest (take 1 ts))) (node j cs) (refl, forest_worded (take 1 ts) (firsts ts h.worded)) a).0)

  pub own_3 : pairs_alike (old_tree ts) (new_tree w) P ≡ true
  unfolding pairs_alike old_tree new_table
  own_3 = every_all _ P (λ p m. alike p.0 p.1 (in_pair p m))

  -- ── 4: "paired elements other than the roots have parents that are a pair" ──

  -- the parent of an old element that went somewhere went to the parent there
  record Parents (x n m : ℕ) : Type 0 where
    up : ℕ
    parents : Pair m up
    new : IsParent (new_tree w) up n

  parents_went : (x n m : ℕ) → Pair x n → IsParent ts m x → Parents x n m
  unfolding new_table
  parents_went x n m k i =
      let u = present_under ts w kept.follows x m (row F n).path (in_old x n k) i (now x n k) in
      go u (kin (new_tree w) n (in_new x n k))
    where
      old_parent : m < length O
      old_parent = go (old_path x k.old) (row T m).path refl (path_long ts m i.within)
        where
          go : (q : Path) × ((row T x).path ≡ 0 ∷ q) → (p : Path) → (row T m).path ≡ p → 0 < length p → m < length O
          go (q, z) [] e l = absurd (omega arith)
          go (q, z) (t ∷ p) e l =
              let t0 : t ≡ 0 = head-eq_of_cons-eq (ap (λ (s : Path). s ++ (child T x ∷ [])) (sym e) ∙ (sym i.path ∙ z)) in
              within_first ts m p i.within (e ∙ ap {B = Path} (λ (j : ℕ). j ∷ p) t0)

      go : Under ts w kept.follows m (row F n).path → Kin (new_tree w) n → Parents x n m
      go u (root r) = absurd (omega (arith, u.nonempty, length_child u.above u.number, ap length (sym u.parted ∙ r.path)))
        where
          length_child : (p : Path) (j : ℕ) → length (p ++ (j ∷ [])) ≡ suc (length p)
          length_child [] j = refl
          length_child (t ∷ p) j = ap suc (length_child p j)
      go u (below b r) =
          let same : u.above ≡ (row F b).path = front_same u.above (row F b).path u.number (child F n) (sym u.parted ∙ r.path) in
          record { up = b; parents = record { old = old_parent; went = path_went w ts kept held m b r.within (u.parent ∙ ap {B = Option Path} some same) }; new = r }

  -- only the root is one in the old tree
  root_first : (x : ℕ) → x < length O → IsRoot ts x → (row T x).path ≡ 0 ∷ []
  root_first x l r =
      let (q, e) = old_path x l in
      let z : tree T x ≡ 0 = head-eq_of_cons-eq (sym r.path ∙ e) in
      r.path ∙ ap {B = Path} (λ (t : ℕ). t ∷ []) z

  zero_path : 0 < length O → (row T 0).path ≡ 0 ∷ []
  zero_path l = by (kin ts 0 (first_row ts 0 l).0)
    where
      by : Kin ts 0 → (row T 0).path ≡ 0 ∷ []
      by (root r) = root_first 0 l r
      by (below m i) = absurd (omega (arith, i.before))

  -- the roots, if they are a pair
  module _ (roots : Pair 0 0) where
    -- ── 1: "the roots are paired" ──

    pub own_1 : roots_paired (old_tree ts) (new_tree w) P ≡ true
    unfolding roots_paired
    own_1 = mem_pair P 0 0 (pair_in 0 0 roots)

    parents_pair : (x n : ℕ) → Pair x n → ((eqb x 0 && eqb n 0) || are_pair P (parent O x) (parent F n)) ≡ true
    unfolding are_pair new_table
    parents_pair x n k = go (kin ts x (in_old x n k))
      where
        go : Kin ts x → ((eqb x 0 && eqb n 0) || are_pair P (parent O x) (parent F n)) ≡ true
        go (root r) =
            let x0 : x ≡ 0 = path_tells ts x 0 (in_old x n k) (in_old 0 0 roots) (root_first x k.old r ∙ sym (zero_path roots.old)) in
            let n0 : n ≡ 0 = some_inj (sym k.went ∙ (ap (went_to w) x0 ∙ roots.went)) in
            rw (eq-eqb x 0 x0, eq-eqb n 0 n0)
        go (below m i) =
            let u = parents_went x n m k i in
            rw (first_parent ts x k.old, i.parent, u.new.parent, mem_pair P m u.up (pair_in m u.up u.parents)) (or-true (eqb x 0 && eqb n 0))

    pub own_4 : parents_paired (old_tree ts) (new_tree w) P ≡ true
    unfolding parents_paired old_tree new_table
    own_4 = every_all _ P (λ p m. parents_pair p.0 p.1 (in_pair p m))

  -- ── 5: "paired siblings stand in the same order in both trees" ──

  implied : (a b : Bool) → (a ≡ true → b ≡ true) → (not a || b) ≡ true
  implied true b f = f refl
  implied false b f = refl

  same_parent_lem : (o : Option ℕ) (m : ℕ) → same_parent o (some m) ≡ true → o ≡ some m
  unfolding same_parent
  same_parent_lem none m e = bool_absurd e refl
  same_parent_lem (some j) m e = ap {B = Option ℕ} some (eqb-true j m e)

  -- a root has no number among children
  root_child : (y : ℕ) → y < length O → IsRoot ts y → child T y ≡ 0
  unfolding child last
  root_child y l r = ap last (root_first y l r)

  order_kept : (x n y j : ℕ) → Pair x n → Pair y j → earlier O x y ≡ true → earlier F n j ≡ true
  unfolding earlier new_table same_parent child
  order_kept x n y j k l e =
      let (a, b) = both_true (same_parent (parent O x) (parent O y)) (ltb (child O x) (child O y)) e in
      go (kin ts y (in_old y j l)) a (ltb-true (child O x) (child O y) b)
    where
      go : Kin ts y → same_parent (parent O x) (parent O y) ≡ true → child O x < child O y → (same_parent (parent F n) (parent F j) && ltb (child F n) (child F j)) ≡ true
      go (root r) a b = absurd (omega (arith, first_child ts y l.old, root_child y l.old r))
      go (below m i) a b =
          let xm : parent T x ≡ some m = sym (first_parent ts x k.old) ∙ same_parent_lem (parent O x) m (ap (same_parent (parent O x)) (sym (first_parent ts y l.old ∙ i.parent)) ∙ a) in
          let c = parent_is ts x m (in_old x n k) xm in
          let low : child T x < child T y = omega (arith, first_child ts x k.old, first_child ts y l.old) in
          let u = parents_went x n m k c in
          let v = parents_went y j m l i in
          let same : u.up ≡ v.up = some_inj (sym u.parents.went ∙ v.parents.went) in
          rw (u.new.parent, v.new.parent, eq-eqb u.up v.up same, lt-ltb (child F n) (child F j) (strict c i low))
        where
          strict : IsParent ts m x → IsParent ts m y → child T x < child T y → child F n < child F j
          strict c i low =
              let p = (row F n).path in
              let q = (row F j).path in
              let (fs, le) = present_order ts w kept.follows m x y p q (in_old x n k) (in_old y j l) c i (omega arith) (now x n k) (now y j l) in
              by (lt_or_le (last p) (last q)) fs le
            where
              by : (last (row F n).path < last (row F j).path) ⊎ (last (row F j).path ≤ last (row F n).path) → front (row F j).path ≡ front (row F n).path → last (row F n).path ≤ last (row F j).path → child F n < child F j
              by (inl z) fs le = z
              by (inr z) fs le =
                  let ls : last (row F j).path ≡ last (row F n).path = omega arith in
                  let (s, a) = new_path n (in_new x n k) in
                  let (t, b) = new_path j (in_new y j l) in
                  let is : (row F j).path ≡ (row F n).path = whole (row F j).path t b ∙ (ap (λ (r : Path). r ++ (last (row F j).path ∷ [])) fs ∙ (ap (λ (i : ℕ). front (row F n).path ++ (i ∷ [])) ls ∙ sym (whole (row F n).path s a))) in
                  let xy : x ≡ y = present_once ts w kept x y (row F n).path (now x n k) (now y j l ∙ ap {B = Option Path} some is) in
                  absurd (omega (arith, ap (child T) xy))
                where
                  whole : (p s : Path) → p ≡ 0 ∷ s → p ≡ front p ++ (last p ∷ [])
                  whole p s e = rw e (sym (front_last 0 s))

  pub own_5 : orders_agree (old_tree ts) (new_tree w) P ≡ true
  unfolding orders_agree old_tree new_table
  own_5 = every_all _ P (λ p m. every_all _ P (λ q o. implied (earlier O p.0 q.0) (earlier F p.1 q.1) (order_kept p.0 p.1 q.0 q.1 (in_pair p m) (in_pair q o))))

  -- ── 6: "every unpaired new element is at or below a changed one, and no paired one is" ──

  -- an old element that went to n, as the account counts them
  counted_pair : (n : ℕ) → old_at T w n ≡ 1 → (x : ℕ) × Pair x n
  unfolding old_at old_elements keep is? tree head_d
  counted_pair n e =
      let (x, a, b) = any_mem (λ x. is? n (went_to w x)) (old_elements T) (count_any (λ x. is? n (went_to w x)) (old_elements T) e) in
      let (y, c, d) = pick_mem (λ x. cond (eqb (tree T x) 0) (some x) none) (map (λ m. m.0) (numbered 0 T)) x a in
      let went = is_went (went_to w x) b in
      let (l, p) = went_path w ts kept held x n went in
      (x, record { old = first_tree_lem x (row F n).path p (kept_0 (eqb (tree T y) 0) y x refl d); went = went })
    where
      is_went : (o : Option ℕ) → elim o as (λ o. Bool) [ none ↦ false | some m ↦ eqb m n ] ≡ true → o ≡ some n
      is_went none e = bool_absurd e refl
      is_went (some m) e = ap {B = Option ℕ} some (eqb-true m n e)

      kept_0 : (b : Bool) (y x : ℕ) → eqb (tree T y) 0 ≡ b → cond b (some y) none ≡ some x → tree T x ≡ 0
      kept_0 true y x z e = ap (tree T) (sym (some_inj e)) ∙ eqb-true (tree T y) 0 z
      kept_0 false y x z e = none_some e

      -- an element of the batch that is there, in tree 0
      first_tree_lem : (x : ℕ) (p : Path) → present w x ≡ some p → tree T x ≡ 0 → x < length O
      first_tree_lem x p e z = let l = present_within ts w kept x p e in by (row T x).path refl (path_long ts x l) l
        where
          by : (s : Path) → (row T x).path ≡ s → 0 < length s → x < length T → x < length O
          by [] y i l = absurd (omega arith)
          by (t ∷ q) y i l = let t0 : t ≡ 0 = ap (λ (s : Path). head_d s 0) (sym y) ∙ z in within_first ts x q l (y ∙ ap {B = Path} (λ (j : ℕ). j ∷ q) t0)

  module _ (each : EachOneOf T w) where
    accounted : (n : ℕ) → n < length F → just_one (is_paired (old_tree ts) (new_tree w) P n) (is_covered (old_tree ts) (new_tree w) P (changed_in F w) n) ≡ true
    unfolding just_one is_paired is_covered among changed_over new_table is_some
    accounted n l = go (any (eqb n) (map (λ p. p.1) P)) refl
      where
        go : (b : Bool) → any (eqb n) (map (λ p. p.1) P) ≡ b → just_one b (any (λ c. is_some (place_below F c n)) (changed_in F w)) ≡ true
        go true e =
            let (y, a, b) = any_mem (eqb n) (map (λ p. p.1) P) e in
            let (p, c, d) = mem_map (λ (p : ℕ × ℕ). p.1) P y a in
            let k = in_pair p c in
            let went : went_to w p.0 ≡ some n = k.went ∙ ap {B = Option ℕ} some (d ∙ sym (eqb-true n y b)) in
            rw (none_any (λ c. is_some (place_below F c n)) (changed_in F w) (λ c m. ap is_some (All-mem (λ c. place_below F c n ≡ none) (changed_in F w) c ((performed_apart_in_new ts notes ps w h).bare p.0 n went) m)))
        go false e = by (changed_over w n) (old_at T w n) refl refl (each n l)
          where
            by : (i j : ℕ) → changed_over w n ≡ i → old_at T w n ≡ j → OneOf i j → any (λ c. is_some (place_below F c n)) (changed_in F w) ≡ true
            by i j a b changed = count_any (λ c. is_some (place_below F c n)) (changed_in F w) a
            by i j a b old =
                let (x, k) = counted_pair n b in
                bool_absurd (mem_any (eqb n) (map (λ p. p.1) P) n (map_mem (λ (p : ℕ × ℕ). p.1) P (x, n) (pair_in x n k)) (eq-eqb n n refl)) e

    pub own_6 : all_accounted (old_tree ts) (new_tree w) P (changed_in F w) ≡ true
    unfolding all_accounted new_table
    own_6 = every_number (λ n. just_one (is_paired (old_tree ts) (new_tree w) P n) (is_covered (old_tree ts) (new_tree w) P (changed_in F w) n)) F accounted

  -- ── The condition ──

  -- "if the root was not replaced", it is where it was
  pub roots_stay : 0 < length O → keeps_root T ps ≡ true → Pair 0 0
  unfolding new_table
  roots_stay l c = go (went_to w 0) refl
    where
      not_deleted : {S : List (Splice ℕ)} → EntersDeleted S [] → ⊥
      not_deleted d = no d.by.parent d.enters.leads
        where
          no : (p : Path) → [] ≡ p ++ (d.enters.child ∷ d.enters.rest) → ⊥
          no [] e = omega (arith, ap length e)
          no (t ∷ p) e = omega (arith, ap length e)

      new_zero : (n : ℕ) → n < length F → (row F n).path ≡ 0 ∷ [] → n ≡ 0
      new_zero n i e = by (kin (new_tree w) 0 (omega arith))
        where
          by : Kin (new_tree w) 0 → n ≡ 0
          by (below b r) = absurd (omega (arith, r.before))
          by (root r) =
              let z : 0 < length F = omega arith in
              let (q, y) = new_path 0 z in
              let t : tree F 0 ≡ 0 = head-eq_of_cons-eq (sym r.path ∙ y) in
              path_tells (new_tree w) n 0 i z (e ∙ sym (r.path ∙ ap {B = Path} (λ (j : ℕ). j ∷ []) t))

      alone : (q : Path) → length (0 ∷ q) ≡ 1 → 0 ∷ q ≡ 0 ∷ []
      alone [] e = refl
      alone (t ∷ q) e = absurd (omega arith)

      go : (o : Option ℕ) → went_to w 0 ≡ o → Pair 0 0
      go none e = absurd (not_deleted ((nowhere_if_deleted ts notes ps w h c 0 [] (first_row ts 0 l).0 (zero_path l)).0 e))
      go (some n) e =
          let (i, a) = went_path w ts kept held 0 n e in
          let (q, y) = new_path n i in
          let long : length (0 ∷ q) ≡ 1 = ap length (sym y) ∙ (present_depth ts w kept.follows 0 (row F n).path (first_row ts 0 l).0 a ∙ (depth_path ts 0 (first_row ts 0 l).0 ∙ ap length (zero_path l))) in
          record { old = l; went = e ∙ ap {B = Option ℕ} some (new_zero n i (y ∙ alone q long)) }

  -- ALL SIX: "Our own output .. must be accepted if the root was not replaced and no dependent change ended in tree 0"
  pub own_accepts : 0 < length O → keeps_root T ps ≡ true → no_dependent_in0 T ps ≡ true → accepts (old_tree ts) (new_tree w) P (changed_in F w) ≡ true
  unfolding accepts
  own_accepts l r d = let k = roots_stay l r in rw (own_1 k, own_2, own_3, own_4 k, own_5, own_6 (each_one_of ts notes ps w h d))
