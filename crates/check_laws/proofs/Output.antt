-- OUR OWN OUTPUT IS ACCEPTED (document 02, Note 11): of a batch, whatever the choices.
-- Assumes nothing.
use Rattle.std.specs.Prelude.{◌≡◌, Bool, ◌||◌, ℕ, ◌+◌, ◌≤◌, ◌<◌, leb, take}
use Rattle.std.proofs.Math.Path.{refl, subst}
use Rattle.std.proofs.Common.{sym, ap, ◌∙◌, length-append, eqb-true, eq-eqb, le-ltb}
use Rattle.std.proofs.Math.Bool.{true, false, cond}
use mathlib.Core.List.{List, [], ◌∷◌, ◌++◌, map, flat_map, zip}
use Rattle.std.proofs.Math.Option.{none, some, bind}
use native.Mathlib.Omega.{arith}
use Rattle.std.proofs.Math.Dec.{eqb}
use Rattle.std.proofs.Math.ListN.{length}
use Rattle.std.proofs.lemmas.List.{length-map}
use Rattle.std.proofs.lemmas.Bool.{lt-leb}
use Rattle.orders.specs.Lists.{any, All}
use Rattle.orders.specs.ListLaws.{bool_absurd, both_true, some_inj, none_some, All-mem, All-pick, All-perm}
use Rattle.orders.specs.Tree.{Tree, Trees, node, token, nil, cons, list, children, label, measure, text, preorder, deepest, deepest_of, Path}
use Rattle.definition.specs.Basics.{Answer, gives, ◌>>=◌}
use Rattle.definition.specs.Choices.{Choices}
use Rattle.definition.specs.Elements.{Table, rows, table, row, is_node, malformed, starts_with_token, unspelled, spelled, descend}
use Rattle.definition.specs.Refusals.{Accepted, accepted}
use Rattle.definition.specs.Writing.{differ}
use Rattle.definition.specs.Planning.{Planned}
use Rattle.definition.specs.Rewriting.{Note}
use Rattle.definition.specs.Running.{World}
use Rattle.definition.specs.Finishing.{new_tree, new_table, number_at, result}
use Rattle.definition.specs.Answers.{Plan, plan, performed, ran, edit}
use Rattle.definition_laws.specs.Basics.{zip_map}
use Rattle.definition_laws.specs.Answers.{gives_inj, given}
use Rattle.definition_laws.specs.Spelling.{Worded, WordedAll, spells_read}
use Rattle.definition_laws.specs.Running.{top}
use Rattle.definition_laws.specs.Held.{Leads, number_found}
use Rattle.definition_laws.proofs.Limits.{edit_within, ran_known}
use Rattle.definition_account.specs.Words.{changed_paths, changed_in, keeps_root, no_dependent_in0}
use Rattle.definition_account.proofs.Changed.{changed_lead, changed_numbers}
use Rattle.definition_account.proofs.Account.{Performed, ran_performed}
use Rattle.check_laws.specs.Check.{Flat, Claims, too_big, unequal, alone, names_none, accepts, checked}
use Rattle.check_laws.specs.ListLaws.{none_any, none_append, mem_map, same_pairs}
use Rattle.check_laws.proofs.Meaning.{passed_gives}
use Rattle.check_laws.proofs.Alone.{first_table, first_resolve, tops_resolve, first_there}
use Rattle.check_laws.specs.Claimed.{old_tree, flat_of, own_pairs, own_claims, own_output, plain_run}
use Rattle.check_laws.proofs.Own.{Pair, in_pair, in_new, roots_stay, same_kind, kept, held, own_accepts}
use Rattle.check_laws.proofs.Formed.{top_formed, performed_formed, first_formed}

-- ── Line 5 ──────────────────────────────────────────────────────────────────────────────────────────────────

-- a tree that line 5 lets pass is read as it was written
pub flat_spelled : (c : Tree ℕ) → Worded c → starts_with_token c ≡ false → deepest c ≤ 64 → any malformed (map label (flat_map preorder (c ∷ []))) ≡ false → spelled (alone (flat_of (c ∷ []))) ≡ some (c ∷ [])
unfolding spelled alone flat_of unspelled any bind
flat_spelled c w s d m =
    let us : List (Tree ℕ) = c ∷ [] in
    let (a, b) = spells_read us (map label (flat_map preorder us)) (map measure (flat_map preorder us)) (flat_map text us) (record { worded = (w, tt); kinds = refl; measures = refl; written = refl }) in
    rw (a, b, m, s, le-ltb 64 (deepest c) d)

-- the old tree passes it
pub old_spelled : (ts : List (Tree ℕ)) → 0 < length ts → All Worded ts → All (λ t. starts_with_token t ≡ false) ts → All (λ t. deepest t ≤ 64) ts → All (λ k. malformed k ≡ false) (map label (flat_map preorder ts)) → spelled (alone (flat_of (old_tree ts))) ≡ some (old_tree ts)
unfolding old_tree
old_spelled [] l w b d m = absurd (omega arith)
old_spelled (c ∷ cs) l w b d m = flat_spelled c w.0 b.0 d.0 (first_formed (c ∷ cs) (top (c ∷ cs)) (λ q. first_resolve (c ∷ cs) 2147483648 2147483648 q) (top_formed (c ∷ cs) m))

-- a tree of the same kind word as a node is a node
node_alike : (c d : Tree ℕ) → Worded c → Worded d → starts_with_token c ≡ false → label c ≡ label d → starts_with_token d ≡ false
unfolding starts_with_token label
node_alike (token v own) d w x s e = bool_absurd refl s
node_alike (node v cs) (node u ds) w x s e = refl
node_alike (node v cs) (token u own) w x s e = bool_absurd w.0 (ap is_node e ∙ x)

root_kind : (c : Tree ℕ) (cs : List (Tree ℕ)) → (row (table 0 0 (c ∷ cs)) 0).kind ≡ label c
unfolding table rows row label
root_kind (node w ds) cs = refl
root_kind (token w own) cs = refl

-- the first of the current trees
pub record NewTree (w : World) : Type 0 where
  pub root : Tree ℕ
  pub is : new_tree w ≡ root ∷ []
  pub worded : Worded root
  pub shallow : deepest root ≤ 64

pub new_tree_lem : (w : World) → 0 < length (list (children w.trees)) → Worded w.trees → deepest_of (children w.trees) ≤ 64 → NewTree w
unfolding new_tree list deepest children
new_tree_lem w l h d = go (children w.trees) refl l (below w.trees h) d
  where
    below : (t : Tree ℕ) → Worded t → WordedAll (children t)
    below (node k cs) h = h.1
    below (token k own) h = tt

    go : (cs : Trees ℕ) → children w.trees ≡ cs → 0 < length (list cs) → WordedAll cs → deepest_of cs ≤ 64 → NewTree w
    go nil e l h d = absurd (omega arith)
    go (cons c cs) e l h d = record { root = c; is = ap (λ (z : Trees ℕ). take 1 (list z)) e; worded = h.0; shallow = omega arith }

-- ── Our own output ──────────────────────────────────────────────────────────────────────────────────────────

module _ (ts : List (Tree ℕ)) (notes : List Note) (ps : List Planned) (w : World) (h : Performed ts notes ps w) where
  -- the new tree's root is a node if the old one was, and stayed
  new_node : Pair ts notes ps w h 0 0 → All (λ t. starts_with_token t ≡ false) ts → (c : Tree ℕ) → new_tree w ≡ c ∷ [] → Worded c → starts_with_token c ≡ false
  unfolding new_table table
  new_node k b c e x = go ts k.old h.worded b (same_kind ts notes ps w h 0 0 k)
    where
      go : (us : List (Tree ℕ)) → 0 < length (first_table us) → All Worded us → All (λ t. starts_with_token t ≡ false) us → (row (first_table us) 0).kind ≡ (row (table 0 0 (new_tree w)) 0).kind → starts_with_token c ≡ false
      go [] l v b z = absurd (omega arith)
      go (d ∷ ds) l w b z = node_alike d c w.0 x b.0 (sym (root_kind d []) ∙ (z ∙ (ap (λ (us : List (Tree ℕ)). (row (table 0 0 us) 0).kind) e ∙ root_kind c [])))

  -- a changed element is one of the new tree
  changed_within : All (λ n. n < length (new_table w)) (changed_in (new_table w) w)
  unfolding number_at
  changed_within = All-perm (λ n. n < length (new_table w)) (changed_numbers (new_table w) w) (All-pick (number_at (new_table w)) (Leads w.trees) (λ n. n < length (new_table w)) one (changed_paths w) (changed_lead w (held ts notes ps w h)))
    where
      one : (p : Path) (n : ℕ) → number_at (new_table w) p ≡ some n → Leads w.trees p → n < length (new_table w)
      one [] n e l = none_some e
      one (t ∷ p) n e l = go (eqb t 0) refl e
        where
          go : (b : Bool) → eqb t 0 ≡ b → cond b (descend (new_table w) 0 p) none ≡ some n → n < length (new_table w)
          go false z e = none_some e
          go true z e =
              let (m, a, i, b) = number_found w p (subst (λ (j : ℕ). Leads w.trees (j ∷ p)) (eqb-true t 0 z) l) in
              let mn : m ≡ n = some_inj (sym a ∙ e) in
              omega arith

  -- the new tree passes line 5
  new_spelled : Pair ts notes ps w h 0 0 → All (λ t. starts_with_token t ≡ false) ts → All (λ k. malformed k ≡ false) (map label (flat_map preorder ts)) → 0 < length ts → deepest_of (children w.trees) ≤ 64
      → spelled (alone (flat_of (new_tree w))) ≡ some (new_tree w)
  unfolding new_tree
  new_spelled k b m l d =
      let f = (kept ts notes ps w h).follows in
      let t = new_tree_lem w (omega (arith, f.roots)) f.worded d in
      let formed = first_formed (list (children w.trees)) w.trees (λ q. tops_resolve w.trees 2147483648 q) (performed_formed ts notes ps w h m) in
      subst (λ (us : List (Tree ℕ)). spelled (alone (flat_of us)) ≡ some us) (sym t.is)
      (flat_spelled t.root t.worded (new_node k b t.root t.is t.worded) t.shallow (subst (λ (us : List (Tree ℕ)). any malformed (map label (flat_map preorder us)) ≡ false) t.is formed))

  -- no claim names what is no element
  own_named : any (leb (length (first_table ts))) (map (λ p. p.0) (own_pairs ts w)) ≡ false
  own_named = none_any (leb (length (first_table ts))) (map (λ p. p.0) (own_pairs ts w)) (λ x m.
      let (p, a, b) = mem_map (λ (p : ℕ × ℕ). p.0) (own_pairs ts w) x m in
      lt-leb (length (first_table ts)) x (omega (arith, (in_pair ts notes ps w h p a).old)))

  new_named : any (leb (length (new_table w))) (map (λ p. p.1) (own_pairs ts w) ++ changed_in (new_table w) w) ≡ false
  new_named = none_append (leb (length (new_table w))) (map (λ p. p.1) (own_pairs ts w)) (changed_in (new_table w) w)
      (none_any (leb (length (new_table w))) (map (λ p. p.1) (own_pairs ts w)) (λ n m.
      let (p, a, b) = mem_map (λ (p : ℕ × ℕ). p.1) (own_pairs ts w) n m in
      lt-leb (length (new_table w)) n (omega (arith, in_new ts notes ps w h p.0 p.1 (in_pair ts notes ps w h p a)))))
      (none_any (leb (length (new_table w))) (changed_in (new_table w) w) (λ n m. lt-leb (length (new_table w)) n (All-mem (λ n. n < length (new_table w)) (changed_in (new_table w) w) n changed_within m)))

  own_names : (any (leb (length (table 0 0 (old_tree ts)))) (map (λ p. p.0) (own_pairs ts w)) || any (leb (length (table 0 0 (new_tree w)))) (map (λ p. p.1) (own_pairs ts w) ++ changed_in (new_table w) w)) ≡ false
  unfolding old_tree new_table
  own_names = neither (any (leb (length (table 0 0 (old_tree ts)))) (map (λ p. p.0) (own_pairs ts w))) _ own_named new_named
    where
      neither : (a b : Bool) → a ≡ false → b ≡ false → (a || b) ≡ false
      neither true b e f = bool_absurd refl e
      neither false b e f = f

-- the pairs are those of the two lists
own_zipped : (P : List (ℕ × ℕ)) → zip (map (λ p. p.0) P) (map (λ p. p.1) P) ≡ P
own_zipped P = zip_map (λ p. p.0) (λ p. p.1) P ∙ same_pairs P

-- a tree of so many elements and bytes passes 3
small_flat : (t : Flat) → length t.kinds ≤ 4096 → length t.measures ≤ 4096 → length t.text ≤ 16384 → too_big t ≡ false
unfolding too_big
small_flat t a b c = rw (le-ltb 4096 (length t.kinds) a, le-ltb 4096 (length t.measures) b, le-ltb 16384 (length t.text) c)

part_length : {A : Type 0} (f : Tree ℕ → List A) (ts : List (Tree ℕ)) → length (flat_map f (old_tree ts)) ≤ length (flat_map f ts)
unfolding old_tree flat_map
part_length f [] = omega arith
part_length f (c ∷ cs) = omega (arith, length-append (f c) [], length-append (f c) (flat_map f cs))

same_length : (l m : List ℕ) → length l ≡ length m → differ l m ≡ false
unfolding differ
same_length l m e = rw (eq-eqb (length l) (length m) e)

-- by the stages of a batch
pub own_claims_accepted : (h : Choices) (bytes : List ℕ) (a : Accepted) (p : Plan) (w : World) → accepted bytes ≡ gives a → plan h a ≡ gives p → ran a p ≡ gives w
    → keeps_root a.table (performed a p) ≡ true → no_dependent_in0 a.table (performed a p) ≡ true → checked (own_claims a w (result p.changes p.climbs w)) ≡ gives true
unfolding own_claims result changed_in edit ◌>>=◌ flat_of unequal names_none
own_claims_accepted h bytes a p w x y e r d =
    let R = ran_known h bytes a p w x y e in
    let K = R.known in
    let H = ran_performed h bytes a p w x y e in
    let ts = a.trees in
    let ps = performed a p in
    let P = own_pairs ts w in
    let within = edit_within h bytes (result p.changes p.climbs w) (rw (x, y, e)) in
    let some_tree : 0 < length ts = omega (arith, K.roots, K.limits.some_tree) in
    let formed : All (λ k. malformed k ≡ false) (map label (flat_map preorder ts)) = subst (All (λ k. malformed k ≡ false)) (sym K.spells.kinds) K.well_formed in
    let roots : keeps_root (table 0 0 ts) ps ≡ true = subst (λ (T : Table). keeps_root T ps ≡ true) K.table r in
    let owners : no_dependent_in0 (table 0 0 ts) ps ≡ true = subst (λ (T : Table). no_dependent_in0 T ps ≡ true) K.table d in
    let some-old : 0 < length (first_table ts) = first_there ts some_tree in
    let k = roots_stay ts p.notes ps w H some-old roots in
    let els = flat_map preorder (old_tree ts) in
    let news = flat_map preorder (new_tree w) in
    let long : length (flat_map preorder ts) ≤ 2048 = omega (arith, length-map (flat_map preorder ts) label, ap length K.spells.kinds, K.long.kinds, K.limits.elements) in
    let old_small = small_flat (flat_of (old_tree ts)) (omega (arith, length-map els label, part_length preorder ts)) (omega (arith, length-map els measure, part_length preorder ts)) (omega (arith, part_length text ts, ap length K.spells.written, K.long.text, K.limits.text)) in
    let new_small = small_flat (flat_of (new_tree w)) within.elements (omega (arith, within.elements, within.measures)) within.text in
    passed_gives (own_claims a w (result p.changes p.climbs w)) (record {
      os = old_tree ts;
      ns = new_tree w;
      old_small = old_small;
      new_small = new_small;
      equal = rw (
        same_length (map label els) (map measure els) (length-map els label ∙ sym (length-map els measure)),
        same_length (map label news) (map measure news) (length-map news label ∙ sym (length-map news measure)),
        same_length (map (λ q. q.0) P) (map (λ q. q.1) P) (length-map P (λ q. q.0) ∙ sym (length-map P (λ q. q.1))),
      );
      old = old_spelled ts some_tree K.spells.worded K.begins K.shallow formed;
      new = new_spelled ts p.notes ps w H k K.begins formed some_tree R.small.depth;
      named = own_names ts p.notes ps w H;
    })
    ∙ ap {B = Answer Bool} gives (ap (λ (Q : List (ℕ × ℕ)). accepts (old_tree ts) (new_tree w) Q (changed_in (new_table w) w)) (own_zipped P) ∙ own_accepts ts p.notes ps w H some-old roots owners)

-- THE THEOREM: "Our own output, with the surviving paths as pairs, must be accepted if the root was not replaced and no dependent change ended in tree 0."
pub own_accepted : (h : Choices) (bytes : List ℕ) (c : Claims) → own_output h bytes ≡ gives c → plain_run h bytes ≡ gives true → checked c ≡ gives true
unfolding own_output plain_run ◌>>=◌
own_accepted h bytes c o q =
    given (accepted bytes) _ o λ a x o.
    given (plan h a) _ o λ p y o.
    given (ran a p) _ o λ w e o.
    let (r, d) = both_true (keeps_root a.table (performed a p)) (no_dependent_in0 a.table (performed a p)) (gives_inj (rw (x, y, e) at q)) in
    ap checked (sym (gives_inj o)) ∙ own_claims_accepted h bytes a p w x y e r d
