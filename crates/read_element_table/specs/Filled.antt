-- THE THEOREMS of line 5 and the element table, for a batch that spells trees.
-- Assumes nothing.
use Rattle.std.specs.Prelude.{◌≡◌, Bool, ◌&&◌, ◌||◌, leb, eqb, get_or}
use Rattle.std.proofs.Math.Path.{refl, sym, ap, subst}
use Rattle.std.proofs.Common.{◌∙◌, arith, eqb-true, take_at}
use Rattle.std.proofs.Math.Bool.{true, false, cond, not}
use mathlib.Core.List.{List, [], ◌∷◌, ◌++◌, zip, append-nil}
use Rattle.std.proofs.Math.Option.{Option, none, some}
use Prim.Native.Nat.{ℕ, ◌+◌, ◌*◌, ◌≤◌, ◌<◌}
use Rattle.std.proofs.Math.Dec.{ltb}
use Rattle.std.proofs.Math.ListN.{length, take, drop}
use Rattle.std.proofs.lemmas.List.{length-map}
use Rattle.std.proofs.Math.Seq.{paste, take_all, length-paste}
use Rattle.orders.specs.ListLaws.{bind_some, some_inj, none_some, bool_absurd}
use Rattle.orders.specs.Tree.{Tree, node, forest, text_of, deepest, elements_of}
use Rattle.orders.proofs.TreeLaws.{list_forest}
use Rattle.definition.specs.Basics.{any, is_some}
use Rattle.definition.specs.Words.{words}
use Rattle.definition.specs.Batch.{Batch}
use Rattle.definition.specs.Elements.{malformed, starts_with_token, unspelled, spelled, table, parent, child}
use Rattle.definition_laws.specs.Rows.{table_length}
use Rattle.definition.specs.EdgeRule.{at_or_below}
use Rattle.definition_laws.specs.Intervals.{after, interval}
use Rattle.read_element_table.specs.View.{view, field}
use Rattle.rows_model.specs.Row.{nod, rows_of, rows_in, triples, first_rows}
use Rattle.words.specs.Bytes.{length_words}
use Rattle.read_spelling.specs.Spelling.{elements_at, accepts}
use Rattle.read_spelling.specs.SpellingLaws.{kinds_zip, grown, spelled_grown, accepts_spelled}
use Rattle.read_element_table.specs.Filling.{table_of, source_of, rows_from, Filled}
use Rattle.read_spelling.specs.Preorder.{length_flats, Spelt, spelt}
use Rattle.read_element_table.specs.FillingLaws.{words_all, length_all, table_words, length_source}
use Rattle.read_element_table.specs.ViewLaws.{told_all}
use Rattle.read_element_table.specs.Wellformed.{Wellformed}
use Rattle.read_element_table.specs.SourceRows.{rows_told_lem as source_told}
use Rattle.read_element_table.specs.Sound.{hop, Sound, sound_all}
use Rattle.read_element_table.specs.Afters.{afters, after_within}

-- the elements of a batch, each with kind word and measure
unfoldable pub elements_in : Batch → List (ℕ × ℕ)
elements_in b = zip b.kinds b.measures

-- line 5 accepts: there are trees
pub accepted : (b : Batch) → length b.kinds ≡ length b.measures → accepts b.trees (length b.text) (elements_in b) ≡ true → (ts : List (Tree ℕ)) × (spelled b ≡ some ts)
unfolding elements_in is_some
accepted b l h = go (spelled b) refl (sym (accepts_spelled b l) ∙ h)
  where
    go : (o : Option (List (Tree ℕ))) → spelled b ≡ o → is_some o ≡ true → (ts : List (Tree ℕ)) × (spelled b ≡ some ts)
    go none e q = bool_absurd q refl
    go (some ts) e q = (ts, e)

-- a batch spells these trees
module _ (b : Batch) (ts : List (Tree ℕ)) (h : spelled b ≡ some ts) where
  found : (us : List (Tree ℕ)) × (grown (elements_in b) b.text ≡ some us) × (cond (unspelled b us) none (some us) ≡ some ts)
  unfolding elements_in
  found = bind_some (grown (zip b.kinds b.measures) b.text) (λ us. cond (unspelled b us) none (some us)) (sym (spelled_grown b) ∙ h)

  judged : (t : Bool) (us : List (Tree ℕ)) → unspelled b us ≡ t → cond t none (some us) ≡ some ts → (us ≡ ts) × (unspelled b us ≡ false)
  judged true us e q = none_some q
  judged false us e q = (some_inj q, e)

  verdict : unspelled b ts ≡ false
  verdict = let f = judged (unspelled b found.0) found.0 refl found.2 in ap (unspelled b) (sym f.0) ∙ f.1

  -- they are no fewer and no more than the sizes say, and not too deep
  passed : (eqb (length ts) b.trees ≡ true) × (any (λ t. ltb 64 (deepest t)) ts ≡ false)
  unfolding unspelled
  passed = go (any malformed b.kinds) (eqb (length ts) b.trees) (any starts_with_token ts) (any (λ t. ltb 64 (deepest t)) ts) verdict
    where
      go : (a e c d : Bool) → (((a || not e) || c) || d) ≡ false → (e ≡ true) × (d ≡ false)
      go true e c d q = bool_absurd refl q
      go false true true d q = bool_absurd refl q
      go false true false d q = (refl, q)
      go false false c d q = bool_absurd refl q

  pub spelled_trees : length ts ≡ b.trees
  spelled_trees = eqb-true (length ts) b.trees passed.0

  -- elements and text are theirs
  pub spelled_spelt : Spelt (elements_in b) b.text ts
  spelled_spelt =
      let f = judged (unspelled b found.0) found.0 refl found.2 in
      spelt (elements_in b) b.text ts (found.1 ∙ ap some f.0)

  module _ (l : length b.kinds ≡ length b.measures) where
    s : Spelt (elements_in b) b.text ts
    s = spelled_spelt

    count : length (elements_in b) ≡ length b.kinds
    unfolding elements_in
    count = sym (length-map (elements_in b) (λ e. e.0)) ∙ ap length (kinds_zip b.kinds b.measures l)

    pub spelled_count : elements_of (forest ts) ≡ length b.kinds
    spelled_count = sym (length_flats (forest ts)) ∙ (ap length s.elements ∙ count)

    -- the words of the table are those of the trees
    pub spelled_words : table_of b.trees (elements_in b) ≡ words_all ts 0 0 0
    spelled_words = rw (← s.elements, ← spelled_trees) (table_words ts s.worded)

    pub length_table : length (table_of b.trees (elements_in b)) ≡ 8 * length b.kinds
    length_table = rw (spelled_words, length_all ts 0 0 0, spelled_count)

    -- THE THEOREM: whatever the slices held, and whatever they hold beyond, they tell the definition's table of the trees
    pub filled_view : (t₀ s₀ : List ℕ)
        → view (length b.kinds) (paste t₀ 0 (table_of b.trees (elements_in b)) (8 * length b.kinds)) (paste s₀ 0 (source_of b.trees (elements_in b)) (3 * (length b.kinds + 1))) ≡ table 0 0 ts
    unfolding view
    filled_view t₀ s₀ =
        let n : ℕ = length b.kinds in
        let w : List ℕ = table_of b.trees (elements_in b) in
        let r : List ℕ = drop (0 + 8 * n) t₀ in
        let z : List ℕ = drop (0 + 3 * (n + 1)) s₀ in
        rw (take_all (8 * n) w (omega (arith, length_table)), take_all (3 * (n + 1)) (source_of b.trees (elements_in b)) (omega (arith, length_source b.trees (elements_in b), count)))
        (rw spelled_count at (told_all (w ++ r) b.trees (elements_in b) z ts s.worded 0 0 0 r [] (rw spelled_words) (rw (append-nil, s.elements))))

    -- THE THEOREM: the rows of the source are those of the trees, in preorder, under the node above them all
    pub filled_rows : (s₀ : List ℕ) → first_rows b.text (length b.kinds + 1) (paste s₀ 0 (source_of b.trees (elements_in b)) (3 * (length b.kinds + 1))) ≡ rows_of (node 2147483648 (forest ts))
    unfolding source_of
    filled_rows s₀ =
        let n : ℕ = length b.kinds in
        let r : List ℕ = source_of b.trees (elements_in b) in
        let l : length r ≡ 3 * (n + 1) = omega (arith, length_source b.trees (elements_in b), count) in
        let whole : take (3 * (n + 1)) (paste s₀ 0 r (3 * (n + 1))) ≡ r = rw (take_all (3 * (n + 1)) r (omega arith)) (take_at r (drop (0 + 3 * (n + 1)) s₀) (3 * (n + 1)) l) in
        rw (whole, list_forest ts, spelled_trees) (ap (λ z. nod 2147483648 b.trees ∷ z) (subst (λ x. triples x (rows_from 0 (elements_in b)) ≡ rows_in (forest ts)) s.text (subst (λ e. triples (text_of (forest ts)) (rows_from 0 e) ≡ rows_in (forest ts)) s.elements (source_told (forest ts) s.worded))))

    -- and the words are well formed
    module _ (t₀ s₀ : List ℕ) where
      ws : List ℕ
      ws = paste t₀ 0 (table_of b.trees (elements_in b)) (8 * length b.kinds)

      rs : List ℕ
      rs = paste s₀ 0 (source_of b.trees (elements_in b)) (3 * (length b.kinds + 1))

      sound : (e : ℕ) → e < length b.kinds → Sound ws rs (length b.kinds) e
      unfolding ws rs hop
      sound e q =
          let n : ℕ = length b.kinds in
          let w : List ℕ = table_of b.trees (elements_in b) in
          let r : List ℕ = drop (0 + 8 * n) t₀ in
          let z : List ℕ = drop (0 + 3 * (n + 1)) s₀ in
          rw (take_all (8 * n) w (omega (arith, length_table)), take_all (3 * (n + 1)) (source_of b.trees (elements_in b)) (omega (arith, length_source b.trees (elements_in b), count)))
          (sound_all (w ++ r) b.trees (elements_in b) z n ts s.worded passed.1 0 0 0 r [] (rw spelled_words) (rw (append-nil, s.elements)) refl (omega (arith, spelled_count)) e (omega arith) (omega (arith, spelled_count)))

      -- word 6 is the element after the subtree
      behind : (e : ℕ) → e < length b.kinds → get_or ws (8 * e + 6) 0 ≡ after ts e
      unfolding ws rs field
      behind e q =
          let n : ℕ = length b.kinds in
          let w : List ℕ = table_of b.trees (elements_in b) in
          let long : length (table 0 0 ts) ≡ n = table_length ts 0 0 ∙ spelled_count in
          let words : ws ≡ words_all ts 0 0 0 ++ drop (0 + 8 * n) t₀ = rw (take_all (8 * n) w (omega (arith, length_table)), spelled_words) in
          afters ws rs ts (drop (0 + 8 * n) t₀) words e (omega arith)

      end : (e : ℕ) → e < length b.kinds → get_or ws (8 * e + 6) 0 ≤ length b.kinds
      end e q =
          let long : length (table 0 0 ts) ≡ length b.kinds = table_length ts 0 0 ∙ spelled_count in
          omega (arith, behind e q, after_within ts e (omega arith))

      -- so siblings bound what is below them
      between : (x y e : ℕ) → x < length b.kinds → y < length b.kinds → e < length b.kinds
          → parent (view (length b.kinds) ws rs) x ≡ parent (view (length b.kinds) ws rs) y → child (view (length b.kinds) ws rs) x ≤ child (view (length b.kinds) ws rs) y
          → at_or_below (view (length b.kinds) ws rs) x y e ≡ (leb x e && ltb e (get_or ws (8 * y + 6) 0))
      unfolding ws rs field
      between x y e qx qy qe =
          let long : length (table 0 0 ts) ≡ length b.kinds = table_length ts 0 0 ∙ spelled_count in
          rw (filled_view t₀ s₀, behind y qy)
          (λ p c. interval ts (record { first = omega arith; last = omega arith; parent = p; order = c }) e (omega arith))

      pub filled_wellformed : length b.kinds ≤ 2048 → 8 * length b.kinds ≤ length t₀ → 3 * (length b.kinds + 1) ≤ length s₀
          → Wellformed (length b.kinds) (paste t₀ 0 (table_of b.trees (elements_in b)) (8 * length b.kinds)) (paste s₀ 0 (source_of b.trees (elements_in b)) (3 * (length b.kinds + 1)))
      unfolding ws rs field
      filled_wellformed few lt ls =
          let n : ℕ = length b.kinds in
          let w : List ℕ = table_of b.trees (elements_in b) in
          let x : List ℕ = source_of b.trees (elements_in b) in
          record {
            lines = record {
              few = few;
              long = omega (arith, length-paste t₀ 0 w (8 * n) (omega arith) (omega (arith, length_table)));
              before = λ e q. (sound e q).before;
              root = λ e q. (sound e q).root;
              below = λ e p q. (sound e q).below p;
              shallow = λ e q. (sound e q).shallow;
              apart = λ a c qa qc ep ec. sym (sound a qa).place ∙ rw (ep, ec) (sound c qc).place;
            };
            long = omega (arith, length-paste s₀ 0 x (3 * (n + 1)) (omega arith) (omega (arith, length_source b.trees (elements_in b), count)));
            children = λ e q. (sound e q).children;
            interval = λ x y e qx qy qe p c. between x y e qx qy qe p c;
            ends = λ e q. end e q;
          }

-- ── What a caller of the fill has ───────────────────────────────────────────────────────────────────────────

-- what the two slices tell of the trees
pub record Tells (b : Batch) (ts : List (Tree ℕ)) (n : ℕ) (table' source : List ℕ) : Type 0 where
  pub table_told_lem : view n table' source ≡ table 0 0 ts
  pub rows_told_lem : first_rows b.text (n + 1) source ≡ rows_of (node 2147483648 (forest ts))
  pub wellformed : Wellformed n table' source

-- the arrays of the batch stand in its bytes
module _ (b : Batch) (input : List ℕ) (kinds measures n : ℕ) (ek : b.kinds ≡ words n (drop kinds input)) (em : b.measures ≡ words n (drop measures input)) where
  pub elements_in_lem : elements_in b ≡ elements_at input kinds measures n
  unfolding elements_in elements_at
  elements_in_lem = rw (ek, em)

  long : length b.kinds ≡ n
  long = rw ek (length_words n (drop kinds input))

  alike : length b.kinds ≡ length b.measures
  alike = long ∙ sym (rw em (length_words n (drop measures input)))

  -- where trees are spelled, what is filled tells of them
  pub filled_tells : {ts : List (Tree ℕ)} {t₀ s₀ t s : List ℕ} → spelled b ≡ some ts → Filled b.trees n (elements_at input kinds measures n) t₀ s₀ t s → n ≤ 2048 → 8 * n ≤ length t₀ → 3 * (n + 1) ≤ length s₀ → Tells b ts n t s
  filled_tells {ts} {t₀} {s₀} {t} {s} h f few lt ls =
      let wt : t ≡ paste t₀ 0 (table_of b.trees (elements_in b)) (8 * length b.kinds) = rw (elements_in_lem, long) f.words in
      let ws : s ≡ paste s₀ 0 (source_of b.trees (elements_in b)) (3 * (length b.kinds + 1)) = rw (elements_in_lem, long) f.rows in
      record {
        table_told_lem = rw (wt, ws, ← long) (filled_view b ts h alike t₀ s₀);
        rows_told_lem = rw (ws, ← long) (filled_rows b ts h alike s₀);
        wellformed = rw (wt, ws, ← long) (filled_wellformed b ts h alike t₀ s₀ (omega (arith, long)) (omega (arith, long)) (omega (arith, long)));
      }
