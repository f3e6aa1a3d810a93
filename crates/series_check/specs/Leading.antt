-- Whether the path of a slot finds an element, by the rows of the tree. `text` is the text of all: it is not read, so that the promise holds for any.
-- Assumes nothing.
use Rattle.std.proofs.Math.Path.{◌≡◌, refl, sym, ap}
use Rattle.std.proofs.Common.{◌∙◌}
use Rattle.std.specs.List.{list_all, range_with_len}
use Rattle.std.specs.Prelude.{Bool, ◌||◌, ◌&&◌, zero, suc, Option as Answer, is_some as found, List, ℕ, ◌+◌, ◌-◌, ◌*◌, ◌^◌, ◌≤◌, ◌<◌, get_or, drop}
use Rattle.std.proofs.Math.Bool.{true, false, not, not-not}
use Rattle.std.proofs.Math.Option.{Option, none, some}
use native.Mathlib.Omega.{arith}
use Rattle.std.proofs.Math.ListN.{take}
use borrow.Author.Tests.{lt-ltb, le-ltb}
use Rattle.orders.specs.Lists.{any}
use Rattle.orders.specs.Tree.{Tree, resolve}
use Rattle.definition.specs.Basics.{is_some}
use Rattle.rows_model.specs.Row.{rows_of, triples}
use Rattle.rows_children.specs.Tables.{row_by, RowAt}
use Rattle.series_laws.specs.Lent.{longest_path, bookmark_in, beyond_slot}
use Rattle.series_check.specs.Slots.{slot_at, slots_from, slots_none, slots_more, slot_word, slot_path}

-- the bookmark of a slot finds no element of a tree
unfoldable pub lost : Tree ℕ → List ℕ → Bool
lost t s = beyond_slot s || not (is_some (resolve (bookmark_in s).1 t))

-- whether it does, by the rows of the tree
abbrev pub Leads : List ℕ → List ℕ → Bool → Type 0
Leads rows s r = (text : List ℕ) (t : Tree ℕ) → triples text rows ≡ rows_of t → r ≡ not (lost t s)

-- whether all do, of k
abbrev pub AllLead : List ℕ → List ℕ → ℕ → Bool → Type 0
AllLead rows b k r = (text : List ℕ) (t : Tree ℕ) → triples text rows ≡ rows_of t → r ≡ not (any (lost t) (slots_from b k 0))

-- ── One ─────────────────────────────────────────────────────────────────────────────────────────────────────

module _ (rows : List ℕ) (m : ℕ) (b : List ℕ) (i : ℕ) {at n : ℕ} (ea : at ≡ 1 + 65 * i) (en : (n ≡ get_or b (at + 1) 0) × (n < 2 ^ 32)) where
  long : get_or (slot_at b i) 1 0 ≡ n
  long = slot_word b i 1 (at + 1) (omega arith) (omega arith) ∙ sym en.0

  -- a path that is too long for its slot
  pub leads_beyond : 63 < n → Leads (take (3 * m) rows) (slot_at b i) false
  unfolding lost beyond_slot
  leads_beyond h text t q = rw (long, lt-ltb longest_path n h)

  module _ (h : n ≤ 63) {path : List ℕ} (p : path ≡ take (at + 2 + n - (at + 2)) (drop (at + 2) b)) where
    within : (t : Tree ℕ) → lost t (slot_at b i) ≡ not (is_some (resolve path t))
    unfolding lost beyond_slot bookmark_in
    within t =
        let same : at + 2 + n - (at + 2) ≡ n = omega arith in
        let z : take (get_or (slot_at b i) 1 0) (drop 2 (slot_at b i)) ≡ path = ap (λ (k : ℕ). take k (drop 2 (slot_at b i))) long ∙ (slot_path b i n (at + 2) h (omega arith) ∙ sym (p ∙ ap (λ (k : ℕ). take k (drop (at + 2) b)) same)) in
        rw (z, long, le-ltb longest_path n h)

    -- the answer is whether resolving finds a row
    pub leads_found : {r : Answer ℕ} {c : Bool} → RowAt rows m path r → c ≡ found r → Leads (take (3 * m) rows) (slot_at b i) c
    unfolding row_by is_some
    leads_found {r} {c} v is text t q = is ∙ (ap found (v text t q) ∙ (go (resolve path t) ∙ sym (ap not (within t) ∙ not-not (is_some (resolve path t)))))
      where
        go : (o : Option (Tree ℕ)) → found (row_by path t o) ≡ is_some o
        go none = refl
        go (some u) = refl

-- ── All ─────────────────────────────────────────────────────────────────────────────────────────────────────

-- the library's test of the places from i on is the definition's of the slots
pub lead_listed : (b : List ℕ) (k : ℕ) (t : Tree ℕ) (i n : ℕ) → k - i ≡ n → list_all (λ j. not (lost t (slot_at b j))) (range_with_len i n) ≡ not (any (lost t) (slots_from b k i))
unfolding any
lead_listed b k t i zero h = sym (ap (λ l. not (any (lost t) l)) (slots_none b k i (omega arith)))
lead_listed b k t i (suc n) h =
    ap (λ (x : Bool). not (lost t (slot_at b i)) && x) (lead_listed b k t (i + 1) n (omega arith))
    ∙ (both (lost t (slot_at b i)) (any (lost t) (slots_from b k (i + 1))) ∙ sym (ap (λ l. not (any (lost t) l)) (slots_more b k i (omega arith))))
  where
    both : (x y : Bool) → (not x && not y) ≡ not (x || y)
    both true y = refl
    both false y = refl

pub all_told : (rows b : List ℕ) (k : ℕ) {r : Bool} → ((text : List ℕ) (t : Tree ℕ) → triples text rows ≡ rows_of t → r ≡ list_all (λ j. not (lost t (slot_at b j))) (range_with_len 0 k)) → AllLead rows b k r
all_told rows b k h text t q = h text t q ∙ lead_listed b k t 0 k (omega arith)
