-- Tree 0 of an accepted batch stands at the front of the batch's arrays.
-- Assumes nothing.
use Rattle.std.proofs.Math.Path.{◌≡◌, refl, ap}
use Rattle.std.proofs.Common.{sym, ◌∙◌, arith, length-append, length-drop, take-append-drop, take_at}
use mathlib.Core.List.{List, [], ◌∷◌, ◌++◌, map, flat_map, append-nil}
use Rattle.std.specs.Prelude.{ℕ, ◌+◌, ◌-◌, ◌*◌, ◌/◌, ◌≤◌, take, drop}
use Rattle.std.proofs.Math.ListN.{length, length-map}
use Rattle.orders.specs.ListLaws.{map_append}
use Rattle.orders.specs.Tree.{Tree, children, label, measure, text, preorder}
use Rattle.orders.proofs.TreeLaws.{list_forest}
use Rattle.definition.specs.Basics.{gives}
use Rattle.definition.specs.Words.{words}
use Rattle.definition.specs.Refusals.{Accepted, accepted}
use Rattle.definition_laws.specs.Basics.{flat_map_append}
use Rattle.definition_laws.specs.Spelling.{Spells}
use Rattle.definition_laws.specs.Running.{top}
use Rattle.words.specs.Bytes.{length_words, take_words}
use Rattle.rows_model.specs.Row.{kind, rows_of, rows_all, first_rows, bytes}
use Rattle.rows_model.proofs.RowLaws.{kinds_preorder, bytes_tree}
use Rattle.rows_syntax_node.specs.Promises.{Part, Bytes}
use Rattle.read_layout.specs.declared.Layout.{Layout}
use Rattle.finish_model.specs.Finished.{first_tree}
use Rattle.finish_model.proofs.Numbers.{first_tree_lem}
use Rattle.finish_model.proofs.Result.{one_told}
use Rattle.check_laws.specs.Check.{Flat}
use Rattle.check_laws.specs.Claimed.{old_tree, flat_of}

-- what an accepted batch leaves: where its arrays stand, and the rows of its trees behind that of the node above them all
pub record Read (b : List ℕ) (l : Layout) (source : List ℕ) : Type 0 where
  pub what : Accepted
  pub accepts : accepted b ≡ gives what
  pub spells : Spells what.trees (words l.sizes.elements (drop l.kinds b)) (words l.sizes.elements (drop l.measures b)) (drop l.text b)
  pub text : List ℕ
  pub rows : first_rows text (l.sizes.elements + 1) source ≡ rows_of (top what.trees)
  pub kinds : l.kinds + 4 * l.sizes.elements ≤ length b
  pub measures : l.measures + 4 * l.sizes.elements ≤ length b
  pub text_from : l.text ≤ length b
  pub long : 3 * (l.sizes.elements + 1) ≤ length source
  pub few : l.sizes.elements ≤ 2048

-- a tree of so many elements and so many bytes, at these places of some bytes
unfoldable pub flat_at : List ℕ → ℕ → ℕ → ℕ → ℕ → ℕ → Flat
flat_at b kinds measures text size bytes = record { kinds = words size (drop kinds b); measures = words size (drop measures b); text = take bytes (drop text b) }

-- the same of a tree whose text is given
unfoldable pub flat_beside : List ℕ → ℕ → ℕ → ℕ → List ℕ → Flat
flat_beside b kinds measures size text = record { kinds = words size (drop kinds b); measures = words size (drop measures b); text = text }

-- the front of a list that is told in whole
front_told : {A : Type 0} (x y z : List A) (n : ℕ) → n ≡ length x → x ++ y ≡ z → x ≡ take n z
front_told x y z n e q = sym (ap (take n) (sym q) ∙ take_at x y n (sym e))

module _ {b : List ℕ} {l : Layout} {source : List ℕ} (r : Read b l source) {part : List ℕ} (p : Part source (l.sizes.elements + 1) 1 part) where
  abbrev ts : List (Tree ℕ)
  ts = r.what.trees

  first_rows_lem : first_tree (first_rows r.text (l.sizes.elements + 1) source) ≡ rows_all (take 1 r.what.trees)
  unfolding children
  first_rows_lem = ap first_tree r.rows ∙ (first_tree_lem (top r.what.trees) ∙ ap (λ (us : List (Tree ℕ)). rows_all (take 1 us)) (list_forest r.what.trees))

  abbrev F : List (Tree ℕ)
  F = flat_map preorder (take 1 r.what.trees)

  abbrev G : List (Tree ℕ)
  G = flat_map preorder (drop 1 r.what.trees)

  parted : {X : Type 0} (f : Tree ℕ → List X) → flat_map f (take 1 r.what.trees) ++ flat_map f (drop 1 r.what.trees) ≡ flat_map f r.what.trees
  parted f = sym (flat_map_append f (take 1 r.what.trees) (drop 1 r.what.trees)) ∙ ap (flat_map f) (take-append-drop 1 r.what.trees)

  size_is : (size : ℕ) → size ≡ length part / 3 → size ≡ length F
  unfolding first_tree
  size_is size e =
      let rs = rows_all (take 1 r.what.trees) in
      let a : length (map kind rs) ≡ length (map label F) = ap length (one_told kind label kinds_preorder r.what.trees) in
      omega (arith, p.long r.text, ap length first_rows_lem, length-map rs kind, length-map F label)

  bytes_is : (n : ℕ) → Bytes part n → n ≡ length (flat_map text (take 1 r.what.trees))
  unfolding first_tree flat_map
  bytes_is n h = h.sum r.text ∙ (ap bytes (p.told r.text ∙ first_rows_lem) ∙ go r.what.trees)
    where
      go : (us : List (Tree ℕ)) → bytes (rows_all (take 1 us)) ≡ length (flat_map text (take 1 us))
      go [] = refl
      go (c ∷ us) = ap bytes (append-nil (rows_of c)) ∙ (bytes_tree c ∙ ap length (sym (append-nil (text c))))

  -- no more elements than the batch has
  pub size_few : {size : ℕ} → size ≡ length part / 3 → size ≤ l.sizes.elements
  size_few {size} e =
      omega (arith, size_is size e, length-append F G, ap length (parted preorder), length-map (flat_map preorder r.what.trees) label, ap length r.spells.kinds, length_words l.sizes.elements (drop l.kinds b))

  module _ {size n : ℕ} (e : size ≡ length part / 3) (h : Bytes part n) where
    pub bytes_within : l.text + n ≤ length b
    bytes_within =
        omega (arith, bytes_is n h, length-append (flat_map text (take 1 r.what.trees)) (flat_map text (drop 1 r.what.trees)), ap length (parted text), ap length r.spells.written, length-drop l.text b, r.text_from)

    array_told : (f : Tree ℕ → ℕ) (at : ℕ) → map f (flat_map preorder r.what.trees) ≡ words l.sizes.elements (drop at b) → map f F ≡ words size (drop at b)
    array_told f at q =
        let E = l.sizes.elements in
        front_told (map f F) (map f G) (words E (drop at b)) size (size_is size e ∙ sym (length-map F f)) (sym (map_append f F G) ∙ (ap (map f) (parted preorder) ∙ q))
        ∙ take_words size (E - size) E (drop at b) (omega (arith, size_few e))

    pub old_told : flat_of (old_tree r.what.trees) ≡ flat_at b l.kinds l.measures l.text size n
    unfolding flat_of old_tree flat_at
    old_told =
        go
        (array_told label l.kinds r.spells.kinds)
        (array_told measure l.measures r.spells.measures)
        (front_told (flat_map text (take 1 r.what.trees)) (flat_map text (drop 1 r.what.trees)) (drop l.text b) n (bytes_is n h) (parted text ∙ r.spells.written))
      where
        go : {k k' m m' x x' : List ℕ} → k ≡ k' → m ≡ m' → x ≡ x' → ◌≡◌ {A = Flat} (record { kinds = k; measures = m; text = x }) (record { kinds = k'; measures = m'; text = x' })
        go a b c = λ i. record { kinds = a i; measures = b i; text = c i }
