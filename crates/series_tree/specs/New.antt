-- The new tree from its rows: the definition's, 13, and its bytes over what the memory held.
-- Assumes nothing.
use Rattle.std.specs.Prelude.{◌≡◌, Bool, ltb, take, drop}
use Rattle.std.proofs.Math.Path.{refl, sym, ap}
use Rattle.std.proofs.Common.{◌∙◌, take_all}
use mathlib.Core.List.{List, ◌∷◌, ◌++◌, map, flat_map, append_assoc}
use Prim.Native.Nat.{ℕ, ◌+◌, ◌*◌, ◌/◌, ◌^◌, ◌≤◌, ◌<◌}
use native.Mathlib.Omega.{arith}
use Rattle.std.proofs.Math.ListN.{length, length-map, length-append}
use Rattle.std.proofs.Math.Seq.{paste}
use Rattle.orders.specs.Tree.{list, children, label, measure as measure_of}
use Rattle.definition.specs.Choices.{Choices}
use Rattle.definition.specs.Words.{bytes as bytes_of, written}
use Rattle.definition.specs.Planning.{Planned}
use Rattle.definition.specs.Running.{World}
use Rattle.definition.specs.Finishing.{new_tree, result}
use Rattle.words.specs.Bytes.{length_bytes, written_cons, written_append, length_written}
use Rattle.rows_model.specs.Row.{Row, kind, measure, own, rows_of, first_rows, triples}
use Rattle.rows_model.proofs.Words.{length_triples}
use Rattle.rows_model.proofs.RowLaws.{kinds_preorder, measures_preorder}
use Rattle.rows_syntax_node.specs.Promises.{Part}
use Rattle.finish_model.specs.Finished.{first_tree}
use Rattle.finish_model.proofs.Numbers.{first_tree_lem}
use Rattle.finish_model.proofs.Result.{one_told, one_text}
use Rattle.finish_arrays.specs.Sweep.{elements_over, Swept}
use Rattle.finish_arrays.specs.Encoding.{Wrote, wrote_more}
use Rattle.check_laws.specs.Check.{Flat}
use Rattle.series_laws.specs.Memory.{Memory}
use Rattle.series_laws.specs.Follow.{tree_of, Step}
use Rattle.series_laws.specs.Lent.{Lent, tree_bytes, tree_out, over, left_in}
use Rattle.series_laws.proofs.Passing.{Done}

-- a tree by its rows
unfoldable pub flat_in : List Row → Flat
flat_in rs = record { kinds = map kind rs; measures = map measure rs; text = flat_map own rs }

-- the first of the trees that n rows are, the node above them all first
unfoldable pub new_in : List ℕ → ℕ → List ℕ → Flat
new_in text n rows = flat_in (first_tree (first_rows text n rows))

-- THE NEW TREE IS THE DEFINITION'S
pub new_told : (ps : List Planned) (climbs : ℕ) (w : World) (text : List ℕ) (n : ℕ) (rows : List ℕ) → first_rows text n rows ≡ rows_of w.trees → new_in text n rows ≡ tree_of (result ps climbs w)
unfolding new_in flat_in tree_of result new_tree
new_told ps climbs w text n rows e =
    let is : first_tree (first_rows text n rows) ≡ _ = ap first_tree e ∙ first_tree_lem w.trees in
    go
    (ap (map kind) is ∙ one_told kind label kinds_preorder (list (children w.trees)))
    (ap (map measure) is ∙ one_told measure measure_of measures_preorder (list (children w.trees)))
    (ap (flat_map own) is ∙ one_text (list (children w.trees)))
  where
    go : {k k' m m' x x' : List ℕ} → k ≡ k' → m ≡ m' → x ≡ x' → ◌≡◌ {A = Flat} (record { kinds = k; measures = m; text = x }) (record { kinds = k'; measures = m'; text = x' })
    go a b c = λ i. record { kinds = a i; measures = b i; text = c i }

-- the words of tree 0 tell it
pub part_new : {rows : List ℕ} {n : ℕ} {tree : List ℕ} (text : List ℕ) → Part rows n 1 tree → flat_in (triples text tree) ≡ new_in text n rows
unfolding new_in first_tree
part_new text p = ap flat_in (p.told text)

module _ (tree text : List ℕ) where
  pub kinds_many : length (flat_in (triples text tree)).kinds ≡ length tree / 3
  unfolding flat_in
  kinds_many = length-map (triples text tree) kind ∙ length_triples text tree

  measures_many : length (map measure (triples text tree)) ≡ length tree / 3
  measures_many = length-map (triples text tree) measure ∙ length_triples text tree

  -- written front to back
  module _ (d : List ℕ) {size : ℕ} (p : (size ≡ length (flat_map own (triples text tree))) × (size < 2 ^ 32)) (room : 8 + 8 * (length tree / 3) + size ≤ length d) where
    pub flat_written : {a b c e : List ℕ} {reads : ℕ} → a ≡ paste d 0 (bytes_of (length tree / 3)) 4 → b ≡ paste a 4 (bytes_of size) 4 → Swept tree 8 b c reads
        → e ≡ paste c (8 + 8 * reads) (flat_map own (triples text tree)) (length (flat_map own (triples text tree))) → e ≡ over (tree_out (flat_in (triples text tree))) d
    unfolding elements_over over tree_out flat_in
    flat_written {a} {b} {c} {e} {reads} qa qb qc qe =
        let n : ℕ = length tree / 3 in
        let ks : List ℕ = map kind (triples text tree) in
        let ms : List ℕ = map measure (triples text tree) in
        let own' : List ℕ = flat_map own (triples text tree) in
        let lk : length ks ≡ n = length-map (triples text tree) kind ∙ length_triples text tree in
        let lm = measures_many in
        let s₀ = bytes_of n in
        let w₀ : Wrote d s₀ a = record { room = omega (arith, length_bytes n); is = qa ∙ ap (paste d 0 s₀) (sym (length_bytes n)) } in
        let s₁ = s₀ ++ bytes_of size in
        let n₁ : length s₁ ≡ 8 = length-append s₀ (bytes_of size) ∙ omega (arith, length_bytes n, length_bytes size) in
        let w₁ : Wrote d s₁ b = wrote_more (bytes_of size) 4 4 w₀ (sym (length_bytes n)) (sym (length_bytes size)) (omega (arith, length_bytes n, length_bytes size)) qb in
        let s₂ = s₁ ++ written ks in
        let n₂ : length s₂ ≡ 8 + 4 * n = length-append s₁ (written ks) ∙ omega (arith, length_written ks) in
        let w₂ : Wrote d s₂ (paste b 8 (written ks) (4 * n)) = wrote_more (written ks) 8 (4 * n) w₁ (sym n₁) (omega (arith, length_written ks)) (omega (arith, length_written ks)) refl in
        let s₃ = s₂ ++ written ms in
        let n₃ : length s₃ ≡ 8 + 8 * n = length-append s₂ (written ms) ∙ omega (arith, length_written ms) in
        let w₃ : Wrote d s₃ c = wrote_more (written ms) (8 + 4 * n) (4 * n) w₂ (sym n₂) (omega (arith, length_written ms)) (omega (arith, length_written ms)) (qc.arrays text) in
        let w₄ : Wrote d (s₃ ++ own') e = wrote_more own' (8 + 8 * reads) (length own') w₃ (omega (arith, qc.count.rows)) refl (omega arith) qe in
        let S : List ℕ = written (length ks ∷ length own' ∷ (ks ++ ms)) ++ own' in
        let same : s₃ ++ own' ≡ S =
        ap (λ (l : List ℕ). l ++ own')
        (sym
        (written_cons (length ks) (length own' ∷ (ks ++ ms))
        ∙ (ap (λ (l : List ℕ). bytes_of (length ks) ++ l) (written_cons (length own') (ks ++ ms) ∙ ap (λ (l : List ℕ). bytes_of (length own') ++ l) (written_append ks ms))
        ∙ (ap (λ (k : ℕ). bytes_of k ++ (bytes_of (length own') ++ (written ks ++ written ms))) lk
        ∙ (ap (λ (k : ℕ). bytes_of n ++ (bytes_of k ++ (written ks ++ written ms))) (sym p.0) ∙ left (bytes_of n) (bytes_of size) (written ks) (written ms)))))) in
        w₄.is ∙ (ap (λ (s : List ℕ). paste d 0 s (length s)) same ∙ front S)
      where
        left : (a b c d : List ℕ) → a ++ (b ++ (c ++ d)) ≡ ((a ++ b) ++ c) ++ d
        left a b c d = rw (append_assoc a b c, append_assoc a (b ++ c) d, append_assoc b c d)

        front : (S : List ℕ) → paste d 0 S (length S) ≡ S ++ drop (length S) d
        front S = let e : 0 + length S ≡ length S = omega arith in ap (λ (k : ℕ). take (length S) S ++ drop k d) e ∙ ap (λ (l : List ℕ). l ++ drop (length S) d) (take_all (length S) S (omega arith))

-- how many bytes the new tree takes
module _ {rows : List ℕ} {n : ℕ} {tree : List ℕ} (text : List ℕ) (p : Part rows n 1 tree) {size : ℕ} (e : (size ≡ length (flat_map own (triples text tree))) × (size < 2 ^ 32)) where
  pub bytes_told : 8 + 8 * (length tree / 3) + size ≡ tree_bytes (length (new_in text n rows).kinds) (length (new_in text n rows).text)
  unfolding tree_bytes flat_in
  bytes_told =
      let k : length (new_in text n rows).kinds ≡ length tree / 3 = ap (λ (f : Flat). length f.kinds) (sym (part_new text p)) ∙ kinds_many tree text in
      let t : length (new_in text n rows).text ≡ size = ap (λ (f : Flat). length f.text) (sym (part_new text p)) ∙ sym e.0 in
      omega arith

  pub room_told : (space : ℕ) → ltb space (8 + 8 * (length tree / 3) + size) ≡ ltb space (tree_bytes (length (new_in text n rows).kinds) (length (new_in text n rows).text))
  room_told space = ap (ltb space) bytes_told

-- ── A batch on a memory ─────────────────────────────────────────────────────────────────────────────────────

module _ {h : Choices} {m : Memory} {bytes : List ℕ} {s : Step} (d : Done h m bytes s) (text : List ℕ) (n : ℕ) (rows : List ℕ) (e : first_rows text n rows ≡ rows_of d.world.trees) where
  -- the rows that its run leaves tell the tree that the definition leaves
  pub memory_told : new_in text n rows ≡ s.memory.tree
  memory_told = new_told d.planned.changes d.planned.climbs d.world text n rows e ∙ (ap tree_of (sym d.result) ∙ sym d.tree)

  -- 13: "also if the lent memory cannot hold the new tree"
  pub room_left : {r : Bool} (space : ℕ) → r ≡ ltb space (tree_bytes (length (new_in text n rows).kinds) (length (new_in text n rows).text)) → r ≡ ltb space (tree_bytes (length s.memory.tree.kinds) (length s.memory.tree.text))
  room_left space q = q ∙ ap (λ (f : Flat). ltb space (tree_bytes (length f.kinds) (length f.text))) memory_told

  -- WHAT IS WRITTEN IS WHAT THE DEFINITION LEAVES
  pub tree_left : {out : List ℕ} (l : Lent) → out ≡ over (tree_out (new_in text n rows)) l.tree → out ≡ (left_in l s.memory).tree
  unfolding left_in
  tree_left l q = q ∙ ap (λ (f : Flat). over (tree_out f) l.tree) memory_told
