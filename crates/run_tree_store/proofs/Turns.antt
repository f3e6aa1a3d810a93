-- Each answer, from the tests that led there.
-- Assumes nothing.
use Rattle.std.specs.Prelude as prelude
use Rattle.std.specs.Prelude.{None, Some, min, SomeIff}
use mathlib.Core.Path.{◌≡◌, refl, sym, ap, ◌∙◌}
use mathlib.Core.Bool.{Bool, true, false, cond}
use mathlib.Core.List.{List}
use mathlib.Core.Option.{Option, none, some, map}
use Prim.Native.Nat.{ℕ, zero, suc, ◌+◌, ◌-◌, ◌*◌, ◌^◌, ◌≤◌, ◌<◌}
use native.Mathlib.Omega.{arith}
use mathlib.Core.Logic.{inl, inr}
use lib.ListN.{length, get_or}
use lib.Dec.{eqb}
use borrow.Author.Tests.{ne_eqb}
use Rattle.orders.specs.Lists.{All, meant}
use Rattle.orders.specs.ListLaws.{All-at, lt_or_le, none_some, some_inj}
use Rattle.definition_laws.specs.Basics.{up_from, up_at}
use Rattle.read_element_table.specs.View.{view}
use Rattle.read_element_table.specs.Wellformed.{Lines}
use Rattle.read_element_table.specs.Told.{root_told, tree_told}
use Rattle.definition.specs.Elements.{Table, root?, tree}
use Rattle.rows_model.specs.Row.{Row, first_rows, trees_in}
use Rattle.rows_model.specs.Place.{child_row, between, subtree}
use Rattle.run_model.specs.Store.{HeldNote, HeldChanged, Store, there, marked, parent_row, end_row, gap_of, gap_after, gap_run, Part, part_at, part_of}
use Rattle.rows_syntax_node.specs.Promises as node
use Rattle.run_tree_store.specs.Stored.{stored, stored_first}
use Rattle.run_tree_store.specs.Gaps.{mark_or_top, parent_mark, parent_mark_lem, gap_marked, gap_by, held, site_of}
use Rattle.run_tree_store.specs.Promises.{Prepared, GapOf, GapAfter, GapRun, RunSite, SiteAt}
use Rattle.run_tree_store.specs.declared.Gap.{Gap}

-- ── Marks ───────────────────────────────────────────────────────────────────────────────────────────────────

-- a mark is a row
pub row_low : (n : ℕ) (l : List ℕ) (i m : ℕ) {r : prelude.Option ℕ} → All (λ m. m < n) l → i < length l → meant r ≡ there (get_or l i 0) → r ≡ Some m → m < n
row_low n l i m h k v z = go (get_or l i 0) (All-at (λ x. x < n) 0 l i k h) (rw z at v)
  where
    go : (k : ℕ) → k < n → some m ≡ there k → m < n
    go zero b e = none_some (sym e)
    go (suc k) b e = rw (some_inj e) b

-- ── What a listed element yields ────────────────────────────────────────────────────────────────────────────

module _ (rows : List ℕ) (n : ℕ) (source marks : List ℕ) (e m : ℕ)
    (k : (e < length marks) × (length marks ≤ 2048) × (3 * length marks + 3 ≤ length source))
    (r : prelude.Option ℕ) (v : meant r ≡ there (get_or marks e 0)) where
  abbrev chosen : Store → Store → Option ℕ → Part
  chosen first s o = elim o as (λ o. Part) [ none ↦ part_at first (get_or first.marks e 0) | some m ↦ part_at s m ]

  pub prepared_first : (run : List ℕ) → r ≡ None → node.Part source (length marks + 1) (e + 1) run → Prepared rows n source marks e run
  unfolding part_of stored stored_first marked part_at
  prepared_first run z p = record {
    told = λ text notes₀ notes changed₀ changed.
        let a : length marks + 1 ≡ suc (length marks) = omega arith in
        let b : e + 1 ≡ get_or (up_from 1 (length marks)) e 0 = omega (arith, up_at 1 (length marks) e k.0) in
        p.told text
        ∙ (ap (λ (i : ℕ). subtree (first_rows text i source) (e + 1)) a
        ∙ (ap (λ (i : ℕ). subtree (first_rows text (suc (length marks)) source) i) b
        ∙ ap (λ (o : Option ℕ). (chosen (stored_first text (length marks) source notes₀ changed₀) (stored text n rows marks notes changed) o).rows) (rw z at v)));
    long = λ text. p.long text ∙ ap (λ (l : List Row). 3 * length l) (sym (p.told text));
  }

  pub prepared_now : (run : List ℕ) → r ≡ Some m → node.Part rows n m run → Prepared rows n source marks e run
  unfolding part_of stored stored_first marked part_at
  prepared_now run z p = record {
    told = λ text notes₀ notes changed₀ changed.
        p.told text
        ∙ ap (λ (o : Option ℕ). (chosen (stored_first text (length marks) source notes₀ changed₀) (stored text n rows marks notes changed) o).rows) (rw z at v);
    long = λ text. p.long text ∙ ap (λ (l : List Row). 3 * length l) (sym (p.told text));
  }

-- ── Where a change goes ─────────────────────────────────────────────────────────────────────────────────────

gap_same : {p p' a a' b b' l l' : ℕ} → p ≡ p' → a ≡ a' → b ≡ b' → l ≡ l'
    → ◌≡◌ {A = Gap} (record { parent = p; from = a; to = b; lost = l }) (record { parent = p'; from = a'; to = b'; lost = l' })
gap_same e f g h = rw (e, f, g, h)

module _ (table marks : List ℕ) (x : ℕ) {p : ℕ} (e : p ≡ get_or table (8 * x + 1) 0) {o : prelude.Option ℕ} (c : SomeIff o (1 ≤ p) (p - 1)) where
  pub parent_reach : {y : ℕ} → Lines (length marks) table → x < length marks → o ≡ Some y → y < length marks
  parent_reach L h z = let d = rw z at c in let b = L.before x h in omega (arith, e, h, d.0, d.1)

  pub parent_found : {y r : ℕ} → o ≡ Some y → (r ≡ get_or marks y 0) × (r < 2 ^ 32) → r ≡ parent_mark table marks x
  unfolding parent_mark
  parent_found {y} z v =
      let d = rw z at c in
      let f : suc y ≡ p = omega (arith, d.0, d.1) in
      v.0 ∙ ap (mark_or_top marks) (f ∙ e)

  pub parent_top : o ≡ None → 0 ≡ parent_mark table marks x
  unfolding parent_mark
  parent_top z = let f : 0 ≡ p = omega (arith, rw z at c) in ap (mark_or_top marks) (f ∙ e)

-- no rows lie between where the end comes first
between_low : (m b : ℕ) (l : List Row) → between (min m b) b l ≡ between m b l
unfolding between
between_low m b l = elim (lt_or_le b m) [
  | inl h ↦ let e : b - min m b ≡ 0 = omega arith in let f : b - m ≡ 0 = omega arith in rw (e, f)
  | inr h ↦ let e : min m b ≡ m = omega arith in rw e
]

module _ (rows : List ℕ) (n : ℕ) (table marks : List ℕ) (x m a b : ℕ) (L : Lines (length marks) table) (h : x < length marks) (e : a ≡ parent_mark table marks x) where
  above : (text source : List ℕ) (notes : List HeldNote) (changed : List HeldChanged) → a ≡ parent_row (view (length marks) table source) (stored text n rows marks notes changed) x
  unfolding stored
  above text source notes changed = e ∙ parent_mark_lem table source (stored text n rows marks notes changed) x L h

  pub gap_of_lem : node.After rows n m 1 b → GapOf rows n table marks x m (record { parent = a; from = m; to = b; lost = 1 })
  unfolding held gap_of end_row stored
  gap_of_lem f = record { gap = λ text source notes changed. gap_same (above text source notes changed) refl (f.row text) refl }

  pub gap_after_lem : node.After rows n m 1 b → GapAfter rows n table marks x m (record { parent = a; from = b; to = b; lost = 0 })
  unfolding held gap_after end_row stored
  gap_after_lem f = record { gap = λ text source notes changed. gap_same (above text source notes changed) (f.row text) (f.row text) refl }

  pub gap_run_lem : (k l : ℕ) → node.After rows n k 1 b → node.TreesBetween rows n (min m b) b l → GapRun rows n table marks x m k (record { parent = a; from = m; to = b; lost = l })
  unfolding held gap_run end_row stored
  gap_run_lem k l f g = record { gap = λ text source notes changed. gap_same (above text source notes changed) refl (f.row text) (g.count text ∙ (ap trees_in (between_low m b (first_rows text n rows)) ∙ ap (λ (i : ℕ). trees_in (between m i (first_rows text n rows))) (f.row text))) }

module _ (rows : List ℕ) (n : ℕ) (table marks : List ℕ) (x m y k : ℕ) (r : prelude.Option ℕ) (v : meant r ≡ there (get_or marks y 0)) where
  pub run_gone : {o : prelude.Option Gap} → r ≡ None → o ≡ None → RunSite rows n table marks x m y o
  unfolding site_of marked stored
  run_gone z u = rw u (record { site = λ text source notes changed. ap (λ (o : Option ℕ). site_of (map (gap_run (view (length marks) table source) (stored text n rows marks notes changed) x m) o)) (rw z at v) })

  pub run_there : (g : Gap) → r ≡ Some k → GapRun rows n table marks x m k g → RunSite rows n table marks x m y (Some g)
  unfolding site_of marked stored
  run_there g z h = record {
    site = λ text source notes changed.
        ap Some (h.gap text source notes changed)
        ∙ ap (λ (o : Option ℕ). site_of (map (gap_run (view (length marks) table source) (stored text n rows marks notes changed) x m) o)) (rw z at v);
  }

-- a call 2
abbrev replaced_by : Table → Store → ℕ → Option ℕ → prelude.Option Gap
replaced_by T s x o = site_of (map (gap_of T s x) o)

pub replaced_root : (rows : List ℕ) (n : ℕ) (table marks : List ℕ) (x t m : ℕ) (b : Bool) (g : Gap) → Lines (length marks) table → x < length marks → b ≡ eqb (get_or table (8 * x + 1) 0) 0 → b ≡ true
    → (t ≡ get_or table (8 * x + 7) 0) × (t < 2 ^ 32) → node.ChildAt rows n 0 t m → GapOf rows n table marks x m g → SiteAt rows n table marks 2 x x (Some g)
unfolding gap_by site_of stored
replaced_root rows n table marks x t m b g L k e z f c h = record {
  site = λ text source notes changed.
      let T : Table = view (length marks) table source in
      let s : Store = stored text n rows marks notes changed in
      let r : root? T x ≡ true = root_told (length marks) table source L x k ∙ (sym e ∙ z) in
      let d : m ≡ child_row (first_rows text n rows) 0 (tree T x) = c.row text ∙ ap (child_row (first_rows text n rows) 0) (f.0 ∙ sym (tree_told (length marks) table source L x k)) in
      ap Some (h.gap text source notes changed)
      ∙ (ap (λ (i : ℕ). replaced_by T s x (some i)) d ∙ ap (λ (a : Bool). replaced_by T s x (cond a (some (child_row (first_rows text n rows) 0 (tree T x))) (marked s x))) (sym r));
}

module _ (rows : List ℕ) (n : ℕ) (table marks : List ℕ) (x m : ℕ) (b : Bool) (L : Lines (length marks) table) (k : x < length marks) (e : b ≡ eqb (get_or table (8 * x + 1) 0) 0) (z : b ≡ false) (found : prelude.Option ℕ) (v : meant found ≡ there (get_or marks x 0)) where
  replaced : (o : Option ℕ) → meant found ≡ o → (text source : List ℕ) (notes : List HeldNote) (changed : List HeldChanged)
      → replaced_by (view (length marks) table source) (stored text n rows marks notes changed) x o ≡ site_of (gap_by (view (length marks) table source) (stored text n rows marks notes changed) 2 x x)
  unfolding gap_by stored marked
  replaced o q text source notes changed =
      let T : Table = view (length marks) table source in
      let s : Store = stored text n rows marks notes changed in
      let r : root? T x ≡ false = root_told (length marks) table source L x k ∙ (sym e ∙ z) in
      ap (replaced_by T s x) (sym q ∙ v) ∙ ap (λ (a : Bool). replaced_by T s x (cond a (some (child_row (first_rows text n rows) 0 (tree T x))) (marked s x))) (sym r)

  pub replaced_gone : {o : prelude.Option Gap} → found ≡ None → o ≡ None → SiteAt rows n table marks 2 x x o
  unfolding site_of
  replaced_gone q u = rw u (record { site = replaced none (rw q) })

  pub replaced_there : (g : Gap) → found ≡ Some m → GapOf rows n table marks x m g → SiteAt rows n table marks 2 x x (Some g)
  unfolding site_of
  replaced_there g q h = record { site = λ text source notes changed. ap Some (h.gap text source notes changed) ∙ replaced (some m) (rw q) text source notes changed }

-- any operation
pub site_replaced : (rows : List ℕ) (n : ℕ) (table marks : List ℕ) (op x y : ℕ) (r : prelude.Option Gap) → op ≡ 2 → SiteAt rows n table marks 2 x x r → SiteAt rows n table marks op x y r
unfolding gap_by
site_replaced rows n table marks op x y r e h = rw e (record { site = λ text source notes changed. h.site text source notes changed })

module _ (rows : List ℕ) (n : ℕ) (table marks : List ℕ) (op x y m : ℕ) (z : op ≡ 2 → ⊥) (found : prelude.Option ℕ) (v : meant found ≡ there (get_or marks x 0)) where
  by_mark : (o : Option ℕ) → meant found ≡ o → (text source : List ℕ) (notes : List HeldNote) (changed : List HeldChanged)
      → site_of (gap_marked (view (length marks) table source) (stored text n rows marks notes changed) op x y o) ≡ site_of (gap_by (view (length marks) table source) (stored text n rows marks notes changed) op x y)
  unfolding gap_by stored marked
  by_mark o q text source notes changed =
      let T : Table = view (length marks) table source in
      let s : Store = stored text n rows marks notes changed in
      ap (λ (o : Option ℕ). site_of (gap_marked T s op x y o)) (sym q ∙ v)
      ∙ ap (λ (a : Bool). site_of (cond a (map (gap_of T s x) (cond (root? T x) (some (child_row (first_rows text n rows) 0 (tree T x))) (marked s x))) (gap_marked T s op x y (marked s x)))) (sym (ne_eqb op 2 z))

  pub site_gone : {o : prelude.Option Gap} → found ≡ None → o ≡ None → SiteAt rows n table marks op x y o
  unfolding site_of gap_marked
  site_gone q u = rw u (record { site = by_mark none (rw q) })

  module _ (q : found ≡ Some m) where
    pub site_first : op ≡ 0 → SiteAt rows n table marks op x y (Some (record { parent = m; from = m + 1; to = m + 1; lost = 0 }))
    unfolding site_of gap_marked held
    site_first e = record {
      site = λ text source notes changed.
          let i : m + 1 ≡ suc m = omega arith in
          ap Some (gap_same refl i i refl)
          ∙ (ap (λ (j : ℕ). site_of (gap_marked (view (length marks) table source) (stored text n rows marks notes changed) j x y (some m))) (sym e) ∙ by_mark (some m) (rw q) text source notes changed);
    }

    pub site_after : (g : Gap) → op ≡ 1 → GapAfter rows n table marks x m g → SiteAt rows n table marks op x y (Some g)
    unfolding site_of gap_marked
    site_after g e h = record {
      site = λ text source notes changed.
          ap Some (h.gap text source notes changed)
          ∙ (ap (λ (j : ℕ). site_of (gap_marked (view (length marks) table source) (stored text n rows marks notes changed) j x y (some m))) (sym e) ∙ by_mark (some m) (rw q) text source notes changed);
    }

    pub site_run : (r : prelude.Option Gap) → op ≡ 5 → RunSite rows n table marks x m y r → SiteAt rows n table marks op x y r
    unfolding gap_marked
    site_run r e h = record {
      site = λ text source notes changed.
          h.site text source notes changed
          ∙ (ap (λ (j : ℕ). site_of (gap_marked (view (length marks) table source) (stored text n rows marks notes changed) j x y (some m))) (sym e) ∙ by_mark (some m) (rw q) text source notes changed);
    }

    pub site_one : (g : Gap) → (op ≡ 0 → ⊥) → (op ≡ 1 → ⊥) → (op ≡ 5 → ⊥) → GapOf rows n table marks x m g → SiteAt rows n table marks op x y (Some g)
    unfolding site_of gap_marked
    site_one g a b c h = record {
      site = λ text source notes changed. ap Some (h.gap text source notes changed) ∙ (ap site_of (sym (one text source notes changed)) ∙ by_mark (some m) (rw q) text source notes changed);
    }
      where
        one : (text source : List ℕ) (notes : List HeldNote) (changed : List HeldChanged)
            → gap_marked (view (length marks) table source) (stored text n rows marks notes changed) op x y (some m) ≡ some (gap_of (view (length marks) table source) (stored text n rows marks notes changed) x m)
        one text source notes changed = rw (ne_eqb op 0 a, ne_eqb op 1 b, ne_eqb op 5 c)
