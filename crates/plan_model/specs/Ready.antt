-- What lines 2 to 7 leave, as planning goes by it: the parts of an accepted batch, read where its layout says.
-- Assumes nothing.
use Rattle.std.specs.Prelude.{false, ◌≡◌, ℕ, ◌≤◌, ◌<◌, length, drop}
use mathlib.Core.List.{List, zip}
use Rattle.std.proofs.Common.{sym, ap, ◌∙◌, subst, arith, leb-false}
use Rattle.orders.specs.Lists.{All}
use Rattle.orders.specs.ListLaws.{All-map, passes_none}
use Rattle.orders.specs.Tree.{Tree}
use Rattle.definition.specs.Basics.{gives, any}
use Rattle.definition.specs.Elements.{Table, table}
use Rattle.definition.specs.Refusals.{Call, wrong_call, wrong_mapping, wrong_note, Accepted, accepted}
use Rattle.definition.specs.Words.{words}
use Rattle.definition_laws.specs.Accepted.{accepts}
use Rattle.definition_laws.specs.Right.{neither}
use Rattle.read_element_table.specs.View.{view}
use Rattle.read_element_table.specs.Told.{length_view}
use Rattle.read_element_table.specs.Wellformed.{Wellformed}
use Rattle.read_layout.specs.Layout.{Within, laid, arrays_at}
use Rattle.read_layout.specs.declared.Layout.{Layout}
use Rattle.read_batch.specs.Accepting.{accepted_parts}
use Rattle.read_batch.specs.Leaving.{Leaves}
use Rattle.record_queue.specs.Recorded.{recorded_at}
use Rattle.record_queue.specs.CallList.{calls_of, Fit, accepted_calls}
use Rattle.plan_mapping.specs.Mapped.{Bounded, accepted_bounded}
use Rattle.plan_model.specs.Recorded.{Known, recorded_known, listed_elements}

-- ── The parts of a batch ────────────────────────────────────────────────────────────────────────────────────

module _ (l : Layout) (b : List ℕ) where
  -- call words with their targets
  abbrev pub call_words : List (ℕ × ℕ)
  call_words = zip (words l.sizes.calls (drop l.words b)) (words l.sizes.calls (drop l.targets b))

  abbrev pub listed_in : List ℕ
  listed_in = words l.sizes.listed (drop l.list b)

  abbrev pub calls_in : List Call
  calls_in = calls_of call_words listed_in

  -- input and output
  abbrev pub mappings_in : List (ℕ × ℕ)
  mappings_in = zip (words l.sizes.mappings (drop l.inputs b)) (words l.sizes.mappings (drop l.outputs b))

  -- element and number
  abbrev pub notes_in : List (ℕ × ℕ)
  notes_in = zip (words l.sizes.notes (drop l.noted b)) (words l.sizes.notes (drop l.numbers b))

-- what the words tell of each element
abbrev pub table_in : Layout → List ℕ → List ℕ → Table
table_in l t s = view l.sizes.elements t s

-- the accepted batch, read where its layout says
abbrev pub accepted_in : Layout → List ℕ → List ℕ → List ℕ → List (Tree ℕ) → Accepted
accepted_in l b t s ts = record { trees = ts; table = table_in l t s; calls = calls_in l b; mappings = mappings_in l b; notes = notes_in l b }

-- ── What is known of them ───────────────────────────────────────────────────────────────────────────────────

-- the batch b has this layout, and the words t and s tell of its elements
pub record Ready (b : List ℕ) (l : Layout) (t s : List ℕ) : Type 0 where
  pub laid : laid b ≡ gives l
  pub within : Within b l
  pub formed : Wellformed l.sizes.elements t s
  pub what : Accepted
  pub accepted : accepted b ≡ gives what
  pub told : table_in l t s ≡ what.table

-- what an accepted batch leaves is that
pub leaves_ready : {b : List ℕ} {l : Layout} {t₀ s₀ t s : List ℕ} → Leaves b l t₀ s₀ t s → Ready b l t s
leaves_ready v = record { laid = v.laid; within = v.within; formed = v.formed; what = v.what; accepted = v.accepted; told = v.told }

-- what is known of the parts
pub record Facts (b : List ℕ) (l : Layout) (t s : List ℕ) : Type 0 where
  pub trees : List (Tree ℕ)
  pub accepted : accepted b ≡ gives (accepted_in l b t s trees)
  pub table : table_in l t s ≡ table 0 0 trees
  pub fit : Fit l.sizes.elements (call_words l b) (listed_in l b)
  pub elements : All (λ e. e < l.sizes.elements) (listed_in l b)
  pub recorded : All (Known (table_in l t s) (listed_in l b)) (recorded_at (calls_in l b))
  pub mappings : (k : ℕ) → l.sizes.elements ≤ k → Bounded k l.sizes.elements (mappings_in l b)
  pub notes : All (λ m. m.0 < l.sizes.elements) (notes_in l b)

note_elements_lem : (T : Table) (ns : List (ℕ × ℕ)) → All (λ m. wrong_note T m ≡ false) ns → All (λ m. m.0 < length T) ns
unfolding wrong_note
note_elements_lem T ns h = All-map (λ m e. leb-false (length T) m.0 (neither _ _ e).0) ns h

pub ready_facts : {b : List ℕ} {l : Layout} {t s : List ℕ} → Ready b l t s → Facts b l t s
unfolding arrays_at
ready_facts {b} {l} {t} {s} r =
    let a : Accepted = r.what in
    let T : Table = table_in l t s in
    let n : ℕ = l.sizes.elements in
    let p = accepted_parts b l a r.laid r.accepted in
    let k = accepts b a r.accepted in
    let long : length T ≡ n = length_view n t s in
    let right : any (wrong_call T) a.calls ≡ false = passes_none (wrong_call T) a.calls (subst (λ (U : Table). All (λ c. wrong_call U c ≡ false) a.calls) (sym r.told) k.calls) in
    let c = accepted_calls T (call_words l b) (listed_in l b) a.calls p.calls right in
    let e : a.calls ≡ calls_in l b = c.0 in
    let ms : any (wrong_mapping T) (mappings_in l b) ≡ false =
    passes_none (wrong_mapping T) (mappings_in l b) (subst (λ (m : List (ℕ × ℕ)). All (λ c. wrong_mapping T c ≡ false) m) p.mappings (subst (λ (U : Table). All (λ c. wrong_mapping U c ≡ false) a.mappings) (sym r.told) k.mappings)) in
    let ns : All (λ m. wrong_note T m ≡ false) (notes_in l b) =
    subst (λ (m : List (ℕ × ℕ)). All (λ c. wrong_note T c ≡ false) m) p.notes (subst (λ (U : Table). All (λ c. wrong_note U c ≡ false) a.notes) (sym r.told) k.notes) in
    record {
      trees = a.trees;
      accepted = r.accepted ∙ ap gives (λ i. record { trees = a.trees; table = sym r.told i; calls = e i; mappings = p.mappings i; notes = p.notes i });
      table = r.told ∙ p.table;
      fit = subst (λ (m : ℕ). Fit m (call_words l b) (listed_in l b)) long c.1;
      elements = subst (λ (m : ℕ). All (λ e. e < m) (listed_in l b)) long (listed_elements T (call_words l b) (listed_in l b) a.calls p.calls right);
      recorded = subst (λ (cs : List Call). All (Known T (listed_in l b)) (recorded_at cs)) e (recorded_known T (call_words l b) (listed_in l b) a.calls p.calls right);
      mappings = λ j h. subst (λ (m : ℕ). Bounded j m (mappings_in l b)) long (accepted_bounded T j (mappings_in l b) (omega arith) ms);
      notes = subst (λ (m : ℕ). All (λ q. q.0 < m) (notes_in l b)) long (note_elements_lem T (notes_in l b) ns);
    }
