-- Kind words, measures and text in preorder spell trees: what is written out is read again, and what is read is written out so.
-- Assumes nothing.
use Rattle.std.specs.Prelude.{◌≡◌, refl, Bool, true, false, cond, ℕ, leb, length, take, drop}
use Rattle.std.proofs.Common.{sym, ap, ap₂, ◌∙◌, arith, length-append, take-append-drop, length-take-le, le-leb, leb-true}
use mathlib.Core.List.{List, [], ◌∷◌, ◌++◌, map, flat_map, zip, append_assoc, append-nil, map-map}
use Rattle.std.proofs.Math.Option
use Rattle.std.proofs.Math.Option.{none, some, bind}
use Rattle.std.proofs.Math.Seq.{take-append_seam, drop-append_seam}
use Rattle.orders.specs.Lists.{All}
use Rattle.orders.specs.ListLaws.{some_inj, none_some, map_some, bind_some, map_append}
use Rattle.orders.specs.Tree.{Tree, Trees, node, token, nil, cons, list, forest, label, measure, text, text_of, preorder, preorders}
use Rattle.orders.proofs.TreeLaws.{list_forest, forest_list}
use Rattle.definition.specs.Elements.{is_node, Piece, pieces, plant, grow}
use Rattle.definition_laws.specs.Measures.{preorder_node}
use Rattle.definition_laws.specs.Basics.{All-append, append_All, flat_map_append, flat_map_map, zip_map, first_zip, second_zip}

-- ── Words ───────────────────────────────────────────────────────────────────────────────────────────────────

-- a tree whose kind words fit: nodes have bit 31, tokens have not
abbrev mutual
  pub Worded : Tree ℕ → Type 0
  Worded (node w cs) = (is_node w ≡ true) × WordedAll cs
  Worded (token w own) = is_node w ≡ false

  pub WordedAll : Trees ℕ → Type 0
  WordedAll nil = Unit
  WordedAll (cons c cs) = Worded c × WordedAll cs

-- an element's own text: a node has none
unfoldable pub own : Tree ℕ → List ℕ
own (node w cs) = []
own (token w t) = t

-- an element as the arrays have it
unfoldable pub piece : Tree ℕ → Piece
piece t = record { kind = label t; measure = measure t; own = own t }

-- a piece of the arrays takes as much text as a token's measure says, a node none
abbrev pub Fit : Piece → Type 0
Fit p = length p.own ≡ cond (is_node p.kind) 0 p.measure

-- ── Trees and lists of trees ────────────────────────────────────────────────────────────────────────────────

pub worded_list : (cs : Trees ℕ) → WordedAll cs → All Worded (list cs)
unfolding list
worded_list nil h = tt
worded_list (cons c cs) h = (h.0, worded_list cs h.1)

pub list_worded : (cs : Trees ℕ) → All Worded (list cs) → WordedAll cs
unfolding list
list_worded nil h = tt
list_worded (cons c cs) h = (h.0, list_worded cs h.1)

pub forest_worded : (l : List (Tree ℕ)) → All Worded l → WordedAll (forest l)
forest_worded l h = list_worded (forest l) (rw (list_forest l) h)

-- the text of trees is that of their elements
mutual
  unfolding preorder text flat_map own

  pub own_text : (t : Tree ℕ) → flat_map own (preorder t) ≡ text t
  own_text (node w cs) = own_texts cs
  own_text (token w t) = append-nil t

  pub own_texts : (cs : Trees ℕ) → flat_map own (preorders cs) ≡ text_of cs
  own_texts nil = refl
  own_texts (cons c cs) = flat_map_append own (preorder c) (preorders cs) ∙ rw (own_text c, own_texts cs)

-- ── What is written out is read again ───────────────────────────────────────────────────────────────────────

mutual
  unfolding preorder list piece grow plant bind label measure own

  grow_tree : (t : Tree ℕ) → Worded t → (r : List Piece) (g : List (Tree ℕ)) → grow r ≡ some g → grow (map piece (preorder t) ++ r) ≡ some (t ∷ g)
  grow_tree (node w cs) h r g e =
      rw (grow_trees cs h.1 r g e, h.0, le-leb (length (list cs)) (length (list cs ++ g)) (omega (arith, length-append (list cs) g)), take-append_seam (list cs) g, drop-append_seam (list cs) g, forest_list cs)
  grow_tree (token w t) h r g e = rw (e, h)

  grow_trees : (cs : Trees ℕ) → WordedAll cs → (r : List Piece) (g : List (Tree ℕ)) → grow r ≡ some g → grow (map piece (preorders cs) ++ r) ≡ some (list cs ++ g)
  grow_trees nil h r g e = e
  grow_trees (cons c cs) h r g e =
      rw (map_append piece (preorder c) (preorders cs), append_assoc) (grow_tree c h.0 (map piece (preorders cs) ++ r) (list cs ++ g) (grow_trees cs h.1 r g e))

pub grow_pieces : (ts : List (Tree ℕ)) → All Worded ts → grow (map piece (flat_map preorder ts)) ≡ some ts
unfolding grow flat_map
grow_pieces [] h = refl
grow_pieces (t ∷ ts) h = rw (map_append piece (preorder t) (flat_map preorder ts)) (grow_tree t h.0 (map piece (flat_map preorder ts)) ts (grow_pieces ts h.1))

-- the kind word and the measure of a piece
abbrev pub entry : Piece → ℕ × ℕ
entry p = (p.kind, p.measure)

-- pieces are told by their entries and their text
pub pieces_told : (ps : List Piece) → All Fit ps → pieces (map entry ps) (flat_map (λ p. p.own) ps) ≡ some ps
unfolding pieces flat_map
pieces_told [] h = refl
pieces_told (p ∷ ps) h =
    let rest = flat_map (λ q. q.own) ps in
    rw (← h.0, le-leb (length p.own) (length (p.own ++ rest)) (omega (arith, length-append p.own rest)), take-append_seam p.own rest, drop-append_seam p.own rest, pieces_told ps h.1)

mutual
  unfolding preorder piece label measure own

  fit_tree : (t : Tree ℕ) → Worded t → All Fit (map piece (preorder t))
  fit_tree (node w cs) h = (rw h.0, fit_trees cs h.1)
  fit_tree (token w t) h = (rw h, tt)

  fit_trees : (cs : Trees ℕ) → WordedAll cs → All Fit (map piece (preorders cs))
  fit_trees nil h = tt
  fit_trees (cons c cs) h = rw (map_append piece (preorder c) (preorders cs)) (All-append Fit (map piece (preorder c)) (map piece (preorders cs)) (fit_tree c h.0) (fit_trees cs h.1))

pub fit_list : (ts : List (Tree ℕ)) → All Worded ts → All Fit (map piece (flat_map preorder ts))
unfolding flat_map
fit_list [] h = tt
fit_list (t ∷ ts) h = rw (map_append piece (preorder t) (flat_map preorder ts)) (All-append Fit (map piece (preorder t)) (map piece (flat_map preorder ts)) (fit_tree t h.0) (fit_list ts h.1))

pub own_list : (ts : List (Tree ℕ)) → flat_map own (flat_map preorder ts) ≡ flat_map text ts
unfolding flat_map
own_list [] = refl
own_list (t ∷ ts) = flat_map_append own (preorder t) (flat_map preorder ts) ∙ rw (own_text t, own_list ts)

text_pieces : (ts : List (Tree ℕ)) → flat_map (λ p. p.own) (map piece (flat_map preorder ts)) ≡ flat_map text ts
unfolding piece
text_pieces ts = flat_map_map (λ p. p.own) piece (flat_map preorder ts) ∙ own_list ts

-- trees are spelled by kind words, measures and text
pub record Spells (ts : List (Tree ℕ)) (ks ms bytes : List ℕ) : Type 0 where
  pub worded : All Worded ts
  pub kinds : map label (flat_map preorder ts) ≡ ks
  pub measures : map measure (flat_map preorder ts) ≡ ms
  pub written : flat_map text ts ≡ bytes

-- What is written out is read again.
pub spells_read : (ts : List (Tree ℕ)) (ks ms bytes : List ℕ) → Spells ts ks ms bytes → (pieces (zip ks ms) bytes ≡ some (map piece (flat_map preorder ts))) × (grow (map piece (flat_map preorder ts)) ≡ some ts)
unfolding piece
spells_read ts ks ms bytes s =
    let els : List (Tree ℕ) = flat_map preorder ts in
    let entries : map entry (map piece els) ≡ zip ks ms = map-map entry piece els ∙ (sym (zip_map label measure els) ∙ ap₂ zip s.kinds s.measures) in
    let bytes : flat_map (λ p. p.own) (map piece els) ≡ bytes = text_pieces ts ∙ s.written in
    (rw (← entries, ← bytes) (pieces_told (map piece els) (fit_list ts s.worded)), grow_pieces ts s.worded)

-- ── What is read is written out so ──────────────────────────────────────────────────────────────────────────

pieces_some : (es : List (ℕ × ℕ)) (bytes : List ℕ) (ps : List Piece) → pieces es bytes ≡ some ps → (map entry ps ≡ es) × (flat_map (λ p. p.own) ps ≡ bytes) × All Fit ps
unfolding pieces flat_map
pieces_some [] [] ps e = rw (← some_inj e) (refl, refl, tt)
pieces_some [] (b ∷ t) ps e = none_some e
pieces_some (x ∷ es) t ps e = go (cond (is_node x.0) 0 x.1) refl (leb (cond (is_node x.0) 0 x.1) (length t)) refl e (pieces_some es (drop (cond (is_node x.0) 0 x.1) t))
  where
    go : (n : ℕ) → n ≡ cond (is_node x.0) 0 x.1 → (b : Bool) → leb n (length t) ≡ b
        → cond b (Option.map (λ ps. record { kind = x.0; measure = x.1; own = take n t } ∷ ps) (pieces es (drop n t))) none ≡ some ps
        → ((qs : List Piece) → pieces es (drop n t) ≡ some qs → (map entry qs ≡ es) × (flat_map (λ p. p.own) qs ≡ drop n t) × All Fit qs)
        → (map entry ps ≡ x ∷ es) × (flat_map (λ p. p.own) ps ≡ t) × All Fit ps
    go n z true h q ih =
        let (qs, f, g) = map_some (λ qs. record { kind = x.0; measure = x.1; own = take n t } ∷ qs) (pieces es (drop n t)) q in
        let (a, b, c) = ih qs f in
        rw (← g) (rw a, rw b (take-append-drop n t), (length-take-le n t (leb-true n (length t) h) ∙ z, c))
    go n z false h q ih = none_some q

same_piece : (p q : Piece) → p.kind ≡ q.kind → p.measure ≡ q.measure → p.own ≡ q.own → p ≡ q
same_piece p q a b c = λ i. record { kind = a i; measure = b i; own = c i }

none_long : (l : List ℕ) → length l ≡ 0 → [] ≡ l
none_long [] e = refl
none_long (x ∷ l) e = absurd (omega arith)

-- a piece planted before trees
plant_some : (p : Piece) (g ts : List (Tree ℕ)) → Fit p → All Worded g → plant p g ≡ some ts → (map piece (flat_map preorder ts) ≡ p ∷ map piece (flat_map preorder g)) × All Worded ts
unfolding plant piece measure own label flat_map preorder
plant_some p g ts f w e = go (is_node p.kind) refl (leb p.measure (length g)) refl f e
  where
    go : (n : Bool) → is_node p.kind ≡ n → (b : Bool) → leb p.measure (length g) ≡ b → length p.own ≡ cond n 0 p.measure
        → cond n (cond b (some (node p.kind (forest (take p.measure g)) ∷ drop p.measure g)) none) (some (token p.kind p.own ∷ g)) ≡ some ts
        → (map piece (flat_map preorder ts) ≡ p ∷ map piece (flat_map preorder g)) × All Worded ts
    go true n true b f q =
        let m = p.measure in
        let t = node p.kind (forest (take m g)) in
        let own : own t ≡ p.own = none_long p.own f in
        let size : measure t ≡ m = ap length (list_forest (take m g)) ∙ length-take-le m g (leb-true m (length g) b) in
        let (x, y) = append_All Worded (take m g) (drop m g) (rw (take-append-drop m g) w) in
        rw (← some_inj q) (
          ap (map piece) (preorder_node p.kind (take m g) (drop m g)) ∙ rw (take-append-drop m g) (ap {B = List Piece} (λ r. r ∷ map piece (flat_map preorder g)) (same_piece (piece t) p refl size own)),
          ((n, forest_worded (take m g) x), y),
        )
    go true n false b f q = none_some q
    go false n b c f q = rw (← some_inj q) (ap {B = List Piece} (λ r. r ∷ map piece (flat_map preorder g)) (same_piece (piece (token p.kind p.own)) p refl f refl), (n, w))

-- pieces that grow are those of the trees
pub grow_some : (ps : List Piece) (ts : List (Tree ℕ)) → All Fit ps → grow ps ≡ some ts → (map piece (flat_map preorder ts) ≡ ps) × All Worded ts
unfolding grow flat_map
grow_some [] ts f e = rw (← some_inj e) (refl, tt)
grow_some (p ∷ ps) ts f e =
    let (g, a, b) = bind_some (grow ps) (λ us. plant p us) e in
    let (c, w) = grow_some ps g f.1 a in
    rw (← c) (plant_some p g ts f.0 w b)

-- What is read is written out so.
pub read_spells : (ks ms bytes : List ℕ) (ps : List Piece) (ts : List (Tree ℕ)) → length ks ≡ length ms → pieces (zip ks ms) bytes ≡ some ps → grow ps ≡ some ts → Spells ts ks ms bytes
unfolding piece
read_spells ks ms bytes ps ts h e f =
    let (a, b, c) = pieces_some (zip ks ms) bytes ps e in
    let (d, w) = grow_some ps ts c f in
    let els : List (Tree ℕ) = flat_map preorder ts in
    let both : map (λ x. (label x, measure x)) els ≡ zip ks ms = sym (map-map entry piece els) ∙ (ap (map entry) d ∙ a) in
    record {
      worded = w;
      kinds = sym (map-map (λ e. e.0) (λ x. (label x, measure x)) els) ∙ (ap (map (λ e. e.0)) both ∙ first_zip ks ms h);
      measures = sym (map-map (λ e. e.1) (λ x. (label x, measure x)) els) ∙ (ap (map (λ e. e.1)) both ∙ second_zip ks ms h);
      written = sym (text_pieces ts) ∙ (ap (flat_map (λ p. p.own)) d ∙ b);
    }

-- Trees are equal exactly if kind words, measures and text agree in preorder (the one way; the other is plain).
pub trees_equal : (ts us : List (Tree ℕ)) → All Worded ts → All Worded us → map label (flat_map preorder ts) ≡ map label (flat_map preorder us)
    → map measure (flat_map preorder ts) ≡ map measure (flat_map preorder us) → flat_map text ts ≡ flat_map text us → ts ≡ us
trees_equal ts us v w a b c =
    let s : Spells ts (map label (flat_map preorder us)) (map measure (flat_map preorder us)) (flat_map text us) = record { worded = v; kinds = a; measures = b; written = c } in
    let u : Spells us (map label (flat_map preorder us)) (map measure (flat_map preorder us)) (flat_map text us) = record { worded = w; kinds = refl; measures = refl; written = refl } in
    let x = spells_read ts (map label (flat_map preorder us)) (map measure (flat_map preorder us)) (flat_map text us) s in
    let y = spells_read us (map label (flat_map preorder us)) (map measure (flat_map preorder us)) (flat_map text us) u in
    some_inj (sym x.1 ∙ (ap grow (some_inj (sym x.0 ∙ y.0)) ∙ y.1))
