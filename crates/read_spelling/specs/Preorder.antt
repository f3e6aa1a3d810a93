-- The elements of a batch that spells trees are the elements of those trees, in preorder, and its text is theirs.
-- Assumes nothing.
use Rattle.std.specs.Prelude.{◌≡◌, refl, Bool, true, false, cond, ℕ, zero, suc, ◌≤◌, leb}
use Rattle.std.proofs.Math.Path.{sym}
use Rattle.std.proofs.Common.{ap, ◌∙◌, leb-true, take-append-drop, length-append}
use mathlib.Core.List.{List, [], ◌∷◌, ◌++◌, map, append_assoc}
use Rattle.std.proofs.Math.Option.{none, some, bind}
use Rattle.std.proofs.Math.ListN.{length, take, drop}
use Rattle.std.proofs.Math.Seq.{length-take-le}
use Rattle.orders.specs.ListLaws.{map_append, bind_some, some_inj, none_some}
use Rattle.orders.specs.Tree.{Tree, Trees, node, token, nil, cons, list, forest, label, measure, preorder, preorders, elements, elements_of, text, text_of}
use Rattle.orders.proofs.TreeLaws.{list_forest}
use Rattle.definition.specs.Elements.{is_node, pieces, plant, grow}
use Rattle.read_spelling.specs.Spelling.{length_of}
use Rattle.read_spelling.specs.SpellingLaws.{grown, piece_at, grown_more}

-- ── The elements of trees ───────────────────────────────────────────────────────────────────────────────────

-- kind word and measure of the root of a tree
unfoldable pub element : Tree ℕ → ℕ × ℕ
element t = (label t, measure t)

-- those of all elements of a tree, and of trees
unfoldable pub flat : Tree ℕ → List (ℕ × ℕ)
flat t = map element (preorder t)

unfoldable pub flats : Trees ℕ → List (ℕ × ℕ)
flats ts = map element (preorders ts)

pub flat_node : (k : ℕ) (cs : Trees ℕ) → flat (node k cs) ≡ (k, length (list cs)) ∷ flats cs
unfolding flat flats element preorder label measure
flat_node k cs = refl

pub flat_token : (k : ℕ) (own : List ℕ) → flat (token k own) ≡ (k, length own) ∷ []
unfolding flat element preorder label measure
flat_token k own = refl

pub flats_cons : (c : Tree ℕ) (cs : Trees ℕ) → flats (cons c cs) ≡ flat c ++ flats cs
unfolding flat flats preorders
flats_cons c cs = map_append element (preorder c) (preorders cs)

mutual
  unfolding elements elements_of flats preorders

  pub length_flat : (t : Tree ℕ) → length (flat t) ≡ elements t
  length_flat (node k cs) = rw (flat_node k cs) (ap suc (length_flats cs))
  length_flat (token k own) = rw (flat_token k own)

  pub length_flats : (cs : Trees ℕ) → length (flats cs) ≡ elements_of cs
  length_flats nil = refl
  length_flats (cons c cs) = rw (flats_cons c cs, length-append, length_flat c, length_flats cs)

-- a node's kind word has bit 31, a token's has not
abbrev mutual
  pub Worded : Tree ℕ → Type 0
  Worded (node k cs) = (is_node k ≡ true) × WordedAll cs
  Worded (token k own) = is_node k ≡ false

  pub WordedAll : Trees ℕ → Type 0
  WordedAll nil = Unit {0}
  WordedAll (cons c cs) = Worded c × WordedAll cs

-- ── Trees that are split ────────────────────────────────────────────────────────────────────────────────────

flats_append : (xs ys : List (Tree ℕ)) → flats (forest (xs ++ ys)) ≡ flats (forest xs) ++ flats (forest ys)
unfolding forest flats preorders element
flats_append [] ys = refl
flats_append (x ∷ xs) ys = rw (flats_cons x (forest (xs ++ ys)), flats_cons x (forest xs), flats_append xs ys) (sym (append_assoc (flat x) (flats (forest xs)) (flats (forest ys))))

text_append : (xs ys : List (Tree ℕ)) → text_of (forest (xs ++ ys)) ≡ text_of (forest xs) ++ text_of (forest ys)
unfolding forest text_of
text_append [] ys = refl
text_append (x ∷ xs) ys = rw (text_append xs ys) (sym (append_assoc (text x) (text_of (forest xs)) (text_of (forest ys))))

worded_take : (m : ℕ) (ts : List (Tree ℕ)) → WordedAll (forest ts) → WordedAll (forest (take m ts))
unfolding forest
worded_take zero ts w = tt
worded_take (suc m) [] w = tt
worded_take (suc m) (t ∷ ts) w = (w.0, worded_take m ts w.1)

worded_drop : (m : ℕ) (ts : List (Tree ℕ)) → WordedAll (forest ts) → WordedAll (forest (drop m ts))
unfolding forest
worded_drop zero ts w = w
worded_drop (suc m) [] w = tt
worded_drop (suc m) (t ∷ ts) w = worded_drop m ts w.1

-- ── What elements spell ─────────────────────────────────────────────────────────────────────────────────────

-- elements and text are those of the trees
pub record Spelt (es : List (ℕ × ℕ)) (all-text : List ℕ) (ts : List (Tree ℕ)) : Type 0 where
  pub elements : flats (forest ts) ≡ es
  pub text : text_of (forest ts) ≡ all-text
  pub worded : WordedAll (forest ts)

-- one element more, with its own text before that of the others
module _ (k m : ℕ) (es : List (ℕ × ℕ)) (x : List ℕ) (us : List (Tree ℕ)) (s : Spelt es (drop (length_of k m) x) us) (h : length_of k m ≤ length x) where
  spelt_token : is_node k ≡ false → Spelt ((k, m) ∷ es) x (token k (take (length_of k m) x) ∷ us)
  unfolding forest text_of length_of
  spelt_token n =
      let f : length_of k m ≡ m = rw n in
      record {
        elements = rw (flats_cons (token k (take (length_of k m) x)) (forest us), flat_token k (take (length_of k m) x), length-take-le (length_of k m) x h, s.elements) (ap (λ z. (k, z) ∷ es) f);
        text = rw s.text (take-append-drop (length_of k m) x);
        worded = (n, s.worded);
      }

  spelt_node : is_node k ≡ true → m ≤ length us → Spelt ((k, m) ∷ es) x (node k (forest (take m us)) ∷ drop m us)
  unfolding forest text_of length_of
  spelt_node n l =
      let cs : List (Tree ℕ) = take m us in
      let f : length (list (forest cs)) ≡ m = rw (list_forest cs) (length-take-le m us l) in
      let g : drop (length_of k m) x ≡ x = rw n in
      record {
        elements =
            rw (flats_cons (node k (forest cs)) (forest (drop m us)), flat_node k (forest cs), f) (ap (λ z. (k, m) ∷ z) (sym (flats_append cs (drop m us)) ∙ (ap (λ z. flats (forest z)) (take-append-drop m us) ∙ s.elements)));
        text = sym (text_append cs (drop m us)) ∙ (ap (λ z. text_of (forest z)) (take-append-drop m us) ∙ (s.text ∙ g));
        worded = ((n, worded_take m us s.worded), worded_drop m us s.worded);
      }

-- the trees after one element more
spelt_more : (k m : ℕ) (es : List (ℕ × ℕ)) (x : List ℕ) (us ts : List (Tree ℕ)) → Spelt es (drop (length_of k m) x) us → length_of k m ≤ length x → plant (piece_at (k, m) x) us ≡ some ts → Spelt ((k, m) ∷ es) x ts
unfolding plant piece_at
spelt_more k m es x us ts s h e = choose (is_node k) refl e
  where
    N : List (Tree ℕ)
    N = node k (forest (take m us)) ∷ drop m us

    T : List (Tree ℕ)
    T = token k (take (length_of k m) x) ∷ us

    among : (b : Bool) → leb m (length us) ≡ b → is_node k ≡ true → cond b (some N) none ≡ some ts → Spelt ((k, m) ∷ es) x ts
    among true l n e = rw (← some_inj e) (spelt_node k m es x us s h n (leb-true m (length us) l))
    among false l n e = none_some e

    choose : (b : Bool) → is_node k ≡ b → cond b (cond (leb m (length us)) (some N) none) (some T) ≡ some ts → Spelt ((k, m) ∷ es) x ts
    choose true n e = among (leb m (length us)) refl n e
    choose false n e = rw (← some_inj e) (spelt_token k m es x us s h n)

-- elements that spell trees
pub spelt : (es : List (ℕ × ℕ)) (x : List ℕ) (ts : List (Tree ℕ)) → grown es x ≡ some ts → Spelt es x ts
unfolding grown pieces grow bind forest flats text_of preorders
spelt [] [] ts h = rw (← some_inj h) (record { elements = refl; text = refl; worded = tt })
spelt [] (y ∷ x) ts h = none_some h
spelt (e ∷ es) x ts h = choose (leb n (length x)) refl (sym (grown_more e es x) ∙ h) (spelt es (drop n x))
  where
    n : ℕ
    n = length_of e.0 e.1

    choose : (b : Bool) → leb n (length x) ≡ b → cond b (bind (grown es (drop n x)) (plant (piece_at e x))) none ≡ some ts → ((us : List (Tree ℕ)) → grown es (drop n x) ≡ some us → Spelt es (drop n x) us) → Spelt (e ∷ es) x ts
    choose true l q ih = let u = bind_some (grown es (drop n x)) (plant (piece_at e x)) q in spelt_more e.0 e.1 es x u.0 ts (ih u.0 u.1) (leb-true n (length x) l) u.2
    choose false l q ih = none_some q
