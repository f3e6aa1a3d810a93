-- Four words for each element of a tree, and what they tell of the definition's table.
-- Assumes nothing.
use Rattle.std.specs.Prelude.{◌≡◌, Bool, true, cond, take, drop}
use Rattle.std.proofs.Math.Path.{refl, sym, ap}
use Rattle.std.proofs.Common.{◌∙◌, get_or-take, get_or-drop, take_at, drop_at}
use Rattle.std.proofs.Math.Bool.{false}
use mathlib.Core.List.{List, [], ◌∷◌, ◌++◌, tail, append_assoc, append-nil}
use Rattle.std.proofs.Math.Option.{Option, none, some, map, bind}
use Prim.Native.Nat.{ℕ, zero, suc, ◌+◌, ◌-◌, ◌*◌, ◌≤◌, ◌<◌}
use native.Mathlib.Omega.{arith}
use Rattle.std.proofs.Math.ListN.{length, get_or, get_elem?, length-append}
use Rattle.orders.specs.ListLaws.{bool_absurd, some_inj, none_some, bind_some}
use Rattle.orders.specs.Tree.{Tree, Trees, node, token, nil, cons, list, forest, label, children, text, text_of, resolve, Path, elements_of}
use Rattle.definition.specs.Elements.{Row, Table, is_node, table, no_row, row, node?, parent}
use Rattle.definition_laws.specs.Rows.{Element, row_of, before, child_of, element_at, root_of, element}
use Rattle.definition_laws.specs.Kin.{child_is, element_tree, Stands, stands, Kin, root, below, kin, parent_is}
use Rattle.read_spelling.specs.Preorder.{Worded, WordedAll}
use Rattle.read_element_table.specs.Told.{element_of}
use Rattle.check_laws.specs.Check.{own_text, text_at}
use Rattle.check_model.specs.Clauses.{entry, part}

-- ── The words ───────────────────────────────────────────────────────────────────────────────────────────────

-- the parent + 1, by the line above an element; 0 for a root
unfoldable pub up_of : List ℕ → ℕ
up_of [] = 0
up_of (p ∷ above) = suc p

-- where an element's own text ends: a node's where it starts
unfoldable pub own_end : Row → ℕ
own_end r = cond (is_node r.kind) r.start r.end

-- the words of all elements
unfoldable pub told_all : Table → List ℕ
told_all [] = []
told_all (r ∷ T) = r.kind ∷ r.start ∷ own_end r ∷ up_of (tail r.line) ∷ told_all T

pub told_append : (T U : Table) → told_all (T ++ U) ≡ told_all T ++ told_all U
unfolding told_all
told_append [] U = refl
told_append (r ∷ T) U = ap (λ (l : List ℕ). r.kind ∷ r.start ∷ own_end r ∷ up_of (tail r.line) ∷ l) (told_append T U)

-- those of element e
told_at : (T : Table) (e : ℕ) → e < length T
    → (l : List ℕ) × (drop (4 * e) (told_all T) ≡ (get_or T e no_row).kind ∷ (get_or T e no_row).start ∷ own_end (get_or T e no_row) ∷ up_of (tail (get_or T e no_row).line) ∷ l)
unfolding told_all
told_at [] e h = absurd (omega arith)
told_at (r ∷ T) zero h = (told_all T, refl)
told_at (r ∷ T) (suc e) h = let q : 4 * suc e ≡ suc (suc (suc (suc (4 * e)))) = omega arith in rw q (told_at T e (omega arith))

-- a part of the text, by where it starts and ends
cut : (L M R all-text : List ℕ) (a b : ℕ) → all-text ≡ L ++ (M ++ R) → a ≡ length L → b ≡ length L + length M → part all-text a b ≡ M
unfolding part
cut L M R all-text a b e p q = let len : b - a ≡ length M = omega arith in rw (len, p, e, drop_at L (M ++ R) (length L) refl) (take_at M R (length M) refl)

-- ── What they tell ──────────────────────────────────────────────────────────────────────────────────────────

-- of the one tree of ts, of n elements, with this text
pub record Known (ts : List (Tree ℕ)) (all-text : List ℕ) (n : ℕ) (words : List ℕ) : Type 0 where
  pub count : length (table 0 0 ts) ≡ n
  pub kind : (x : ℕ) → x < n → entry words x 0 ≡ (row (table 0 0 ts) x).kind
  pub own : (x : ℕ) → x < n → node? (table 0 0 ts) x ≡ false → part all-text (entry words x 1) (entry words x 2) ≡ text_at ts x
  pub up : (x : ℕ) → x < n → parent (table 0 0 ts) x ≡ element_of (entry words x 3)
  pub alone : (x : ℕ) → x < n → parent (table 0 0 ts) x ≡ none → x ≡ 0

-- own texts stand in the text, and parents before their children
pub record Sound (n bytes : ℕ) (words : List ℕ) : Type 0 where
  pub starts : (x : ℕ) → x < n → entry words x 1 ≤ entry words x 2
  pub ends : (x : ℕ) → x < n → entry words x 2 ≤ bytes
  pub before : (x : ℕ) → x < n → entry words x 3 ≤ x

-- ── An element's text in that of one above it ───────────────────────────────────────────────────────────────

record Inside (e d : Element) : Type 0 where
  left : List ℕ
  right : List ℕ
  text : text e.tree ≡ left ++ (text d.tree ++ right)
  start : d.start ≡ e.start + length left
  worded : Worded d.tree

among_children : (cs : Trees ℕ) (i : ℕ) (c : Tree ℕ) → get_elem? (list cs) i ≡ some c → WordedAll cs → (r : List ℕ) × (text_of cs ≡ text_of (forest (take i (list cs))) ++ (text c ++ r)) × Worded c
unfolding list forest text_of
among_children nil i c g w = none_some g
among_children (cons x cs) zero c g w = rw (← some_inj g) (text_of cs, refl, w.0)
among_children (cons x cs) (suc i) c g w =
    let (r, e, v) = among_children cs i c g w.1 in
    (r, ap (λ (l : List ℕ). text x ++ l) e ∙ sym (append_assoc (text x) (text_of (forest (take i (list cs)))) (text c ++ r)), v)

among_tree : (t : Tree ℕ) (i : ℕ) (c : Tree ℕ) → get_elem? (list (children t)) i ≡ some c → Worded t → (r : List ℕ) × (text t ≡ text_of (forest (take i (list (children t)))) ++ (text c ++ r)) × Worded c
unfolding children text list
among_tree (node k cs) i c g w = among_children cs i c g w.1
among_tree (token k own) i c g w = none_some g

inside : (p : Path) (e d : Element) → element_at e p ≡ some d → Worded e.tree → Inside e d
unfolding element_at before
inside [] e d s w = rw (← some_inj s) (record { left = []; right = []; text = sym (append-nil (text e.tree)); start = omega arith; worded = w })
inside (i ∷ p) e d s w =
    let (c, g, r) = bind_some (child_of e i) (λ c. element_at c p) s in
    let k = child_is e c i g in
    let (rest, t, v) = among_tree e.tree i c.tree k.found w in
    let h = inside p c d r v in
    let L : List ℕ = text_of (forest (take i (list (children e.tree)))) in
    record {
      left = L ++ h.left;
      right = h.right ++ rest;
      text =
          t ∙ (ap (λ (l : List ℕ). L ++ (l ++ rest)) h.text
          ∙ (ap (λ (l : List ℕ). L ++ l) (append_assoc h.left (text d.tree ++ h.right) rest ∙ ap (λ (l : List ℕ). h.left ++ l) (append_assoc (text d.tree) h.right rest))
          ∙ sym (append_assoc L h.left (text d.tree ++ (h.right ++ rest)))));
      start = omega (arith, h.start, k.start, length-append L h.left);
      worded = h.worded;
    }

-- ── One tree ────────────────────────────────────────────────────────────────────────────────────────────────

module _ (c : Tree ℕ) (w : Worded c) where
  abbrev ts : List (Tree ℕ)
  ts = c ∷ []

  abbrev T : Table
  T = table 0 0 ts

  -- what stands at a path
  record Found (x : ℕ) : Type 0 where
    here : Element
    told : row T x ≡ row_of here
    place : Inside (record { tree = c; number = 0; above = []; path = 0 ∷ []; start = 0 }) here
    tree : resolve (row T x).path (node 2147483648 (forest ts)) ≡ some here.tree
    top : parent T x ≡ none → x ≡ 0

  abbrev top : Element
  top = record { tree = c; number = 0; above = []; path = 0 ∷ []; start = 0 }

  one_long : (p : Path) (t : ℕ) → ◌≡◌ {A = Path} (0 ∷ p) (t ∷ []) → p ≡ []
  one_long p t q = cc

  found : (x : ℕ) → x < length T → Found x
  unfolding element root_of row_of forest elements_of bind element_at
  found x h = let s = stands ts x h in go s s.here.path refl
    where
      tree_at : (s : Stands ts x) (t : ℕ) (p : Path) → s.here.path ≡ t ∷ p → resolve (row T x).path (node 2147483648 (forest ts)) ≡ some s.here.tree
      tree_at s t p e =
          ap (λ r. resolve r.path (node 2147483648 (forest ts))) s.told
          ∙ (ap (λ (q : Path). resolve q (node 2147483648 (forest ts))) e
          ∙ (sym (element_tree ts t p 2147483648) ∙ ap (map (λ d. d.tree)) (ap (element ts) (sym e) ∙ s.at)))

      zero_root : (s : Stands ts x) (p : Path) → s.here.path ≡ 0 ∷ p → element_at top p ≡ some s.here → Kin ts x → parent T x ≡ none → x ≡ 0
      zero_root s p e q (root r) z =
          let none_left : p ≡ [] = one_long p _ (sym e ∙ (ap (λ r. r.path) (sym s.told) ∙ r.path)) in
          let same : top ≡ s.here = some_inj (ap (element_at top) (sym none_left) ∙ q) in
          sym (ap (λ d. d.number) same ∙ s.number)
      zero_root s p e q (below m r) z = none_some (sym z ∙ r.parent)

      go : (s : Stands ts x) (q : Path) → s.here.path ≡ q → Found x
      go s [] e = none_some (ap (element ts) (sym e) ∙ s.at)
      go s (zero ∷ p) e =
          let at : element_at top p ≡ some s.here = ap (element ts) (sym e) ∙ s.at in
          record { here = s.here; told = s.told; place = inside p top s.here at w; tree = tree_at s 0 p e; top = zero_root s p e at (kin ts x h) }
      go s (suc t ∷ p) e = none_some (ap (element ts) (sym e) ∙ s.at)

  -- ── The words of the tree ──

  module _ (n : ℕ) (words all-text : List ℕ) (long : length T ≡ n) (written : take (4 * n) words ≡ told_all T) (texts : text_of (forest ts) ≡ all-text) where
    -- word k of an element, if it is one of the first four
    word_at : (x k : ℕ) → x < n → k < 4 → (l : List ℕ) → drop (4 * x) (told_all T) ≡ l → entry words x k ≡ get_or l k 0
    unfolding entry
    word_at x k h j l e = sym (get_or-take (4 * n) words (4 * x + k) 0 (omega arith)) ∙ (ap (λ (z : List ℕ). get_or z (4 * x + k) 0) written ∙ (sym (get_or-drop (4 * x) (told_all T) k 0) ∙ ap (λ (z : List ℕ). get_or z k 0) e))

    module _ (x : ℕ) (h : x < n) where
      at : (l : List ℕ) × (drop (4 * x) (told_all T) ≡ (row T x).kind ∷ (row T x).start ∷ own_end (row T x) ∷ up_of (tail (row T x).line) ∷ l)
      unfolding row
      at = told_at T x (omega arith)

      kind_at : entry words x 0 ≡ (row T x).kind
      kind_at = word_at x 0 h (omega arith) _ at.1

      start_at : entry words x 1 ≡ (row T x).start
      start_at = word_at x 1 h (omega arith) _ at.1

      end_at : entry words x 2 ≡ own_end (row T x)
      end_at = word_at x 2 h (omega arith) _ at.1

      up_at : parent T x ≡ element_of (entry words x 3)
      unfolding parent element_of up_of
      up_at = go (tail (row T x).line) ∙ ap element_of (sym (word_at x 3 h (omega arith) _ at.1))
        where
          go : (above : List ℕ) → elim above as (λ _. Option ℕ) [ [] ↦ none | p ∷ above ↦ some p ] ≡ element_of (up_of above)
          go [] = refl
          go (p ∷ above) = refl

      here : Found x
      here = found x (omega arith)

      -- its text among all
      whole : all-text ≡ here.place.left ++ (text here.here.tree ++ here.place.right)
      unfolding forest text_of
      whole = sym texts ∙ (append-nil (text c) ∙ here.place.text)

      starts_at : (row T x).start ≡ length here.place.left
      unfolding row_of
      starts_at = ap (λ r. r.start) here.told ∙ (here.place.start ∙ omega arith)

      ends_at : (row T x).end ≡ length here.place.left + length (text here.here.tree)
      unfolding row_of
      ends_at = ap (λ r. r.end) here.told ∙ ap (λ (k : ℕ). k + length (text here.here.tree)) (here.place.start ∙ omega arith)

      own_at : node? T x ≡ false → part all-text (entry words x 1) (entry words x 2) ≡ text_at ts x
      unfolding node? text_at own_text own_end row_of label text
      own_at b =
          let end : entry words x 2 ≡ length here.place.left + length (text here.here.tree) = end_at ∙ (rw b ends_at) in
          let start : entry words x 1 ≡ length here.place.left = start_at ∙ starts_at in
          cut here.place.left (text here.here.tree) here.place.right all-text (entry words x 1) (entry words x 2) whole start end
          ∙ (token_text here.here.tree here.place.worded (ap (λ r. is_node r.kind) (sym here.told) ∙ b) ∙ sym (ap own_text here.tree))
        where
          token_text : (t : Tree ℕ) → Worded t → is_node (label t) ≡ false → text t ≡ own_text (some t)
          token_text (node k cs) v q = bool_absurd v.0 q
          token_text (token k own) v q = refl

      span : (entry words x 1 ≤ entry words x 2) × (entry words x 2 ≤ length all-text)
      unfolding own_end
      span = go (is_node (row T x).kind) end_at
        where
          all_long : length all-text ≡ length here.place.left + (length (text here.here.tree) + length here.place.right)
          all_long = ap length whole ∙ simp length-append

          go : (b : Bool) → entry words x 2 ≡ cond b (row T x).start (row T x).end → (entry words x 1 ≤ entry words x 2) × (entry words x 2 ≤ length all-text)
          go true e = (omega (arith, start_at), omega (arith, starts_at, all_long))
          go false e = (omega (arith, start_at, starts_at, ends_at), omega (arith, ends_at, all_long))

      before_at : entry words x 3 ≤ x
      unfolding element_of
      before_at = go (entry words x 3) up_at
        where
          go : (k : ℕ) → parent T x ≡ element_of k → k ≤ x
          go zero e = omega arith
          go (suc m) e = omega (arith, (parent_is ts x m (omega arith) e).before)

    pub told_known : Known ts all-text n words
    told_known = record { count = long; kind = kind_at; own = own_at; up = up_at; alone = λ x h. (here x h).top }

    pub told_sound : Sound n (length all-text) words
    told_sound = record { starts = λ x h. (span x h).0; ends = λ x h. (span x h).1; before = before_at }
