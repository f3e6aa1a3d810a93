-- A batch that lines 2 to 10 accept: what is then known of its trees, calls, mappings, notes and changes.
-- Assumes nothing.
use Rattle.std.specs.Prelude.{◌≡◌, refl, Bool, true, false, cond, not, ◌||◌, ℕ, zero, suc, ◌≤◌, ltb, eqb, length, drop}
use Rattle.std.proofs.Common.{sym, ap, ◌∙◌, arith, length-drop, drop-drop, ltb-false, eqb-true}
use mathlib.Core.List.{List, zip}
use Rattle.std.proofs.Math.Option.{none, some}
use Rattle.std.proofs.lemmas.Bool.{not-false}
use Rattle.orders.specs.Lists.{All}
use Rattle.orders.specs.ListLaws.{some_inj, none_some, bind_some, All-map}
use Rattle.orders.specs.Tree.{Tree, deepest}
use Rattle.definition.specs.Basics.{gives, refuse, or_refuse, any}
use Rattle.definition.specs.Words.{words}
use Rattle.definition.specs.Batch.{Sizes, sizes, beyond, whole, Batch, arrays, batch}
use Rattle.definition.specs.Elements.{table, pieces, grow, unspelled, spelled, malformed, starts_with_token}
use Rattle.definition.specs.Refusals.{Call, calls, lists_too_many, wrong_call, wrong_mapping, wrong_note, Accepted, accepted}
use Rattle.definition_laws.specs.Answers.{gives_inj, both_given, given, not_wrong, is_there}
use Rattle.definition_laws.specs.Spelling.{Spells, read_spells}
use Rattle.definition_laws.specs.Right.{neither, none_passes}

-- ── Lines 2 to 4 ────────────────────────────────────────────────────────────────────────────────────────────

-- "trees T (1 to 16), elements E (to 2,048), text bytes B (to 16,384), calls C (to 256), listed elements L (to 1,024), mappings M (to 1,024), notes A (to 256)"
pub record Limited (s : Sizes) : Type 0 where
  pub some_tree : 1 ≤ s.trees
  pub trees : s.trees ≤ 16
  pub elements : s.elements ≤ 2048
  pub text : s.text ≤ 16384
  pub calls : s.calls ≤ 256
  pub listed : s.listed ≤ 1024
  pub mappings : s.mappings ≤ 1024
  pub notes : s.notes ≤ 256

pub limited : (s : Sizes) → beyond s ≡ false → Limited s
unfolding beyond
limited s e =
    let (e, h) = neither _ _ e in
    let (e, g) = neither _ _ e in
    let (e, f) = neither _ _ e in
    let (e, d) = neither _ _ e in
    let (e, c) = neither _ _ e in
    let (e, b) = neither _ _ e in
    let (z, a) = neither _ _ e in
    record {
      some_tree = ltb-false s.trees 1 z;
      trees = ltb-false 16 s.trees a;
      elements = ltb-false 2048 s.elements b;
      text = ltb-false 16384 s.text c;
      calls = ltb-false 256 s.calls d;
      listed = ltb-false 1024 s.listed f;
      mappings = ltb-false 1024 s.mappings g;
      notes = ltb-false 256 s.notes h;
    }

-- each array has its length
pub record Sized (s : Sizes) (b : Batch) : Type 0 where
  pub trees : b.trees ≡ s.trees
  pub kinds : length b.kinds ≡ s.elements
  pub measures : length b.measures ≡ s.elements
  pub calls : length b.calls ≡ s.calls
  pub targets : length b.targets ≡ s.calls
  pub listed : length b.listed ≡ s.listed
  pub inputs : length b.inputs ≡ s.mappings
  pub outputs : length b.outputs ≡ s.mappings
  pub noted : length b.noted ≡ s.notes
  pub numbers : length b.numbers ≡ s.notes
  pub text : length b.text ≡ s.text

pub words_length : (n : ℕ) (l : List ℕ) → length (words n l) ≡ n
unfolding words
words_length zero l = refl
words_length (suc n) l = ap suc (words_length n (drop 4 l))

sized : (s : Sizes) (bytes : List ℕ) → length bytes ≡ whole s → Sized s (arrays s bytes)
unfolding arrays whole
sized s bytes e = record {
  trees = refl;
  kinds = words_length s.elements _;
  measures = words_length s.elements _;
  calls = words_length s.calls _;
  targets = words_length s.calls _;
  listed = words_length s.listed _;
  inputs = words_length s.mappings _;
  outputs = words_length s.mappings _;
  noted = words_length s.notes _;
  numbers = words_length s.notes _;
  text = simp drop-drop (simp length-drop (omega arith));
}

pub batch_sized : (bytes : List ℕ) (b : Batch) → batch bytes ≡ gives b → Limited (sizes bytes) × Sized (sizes bytes) b
unfolding batch
batch_sized bytes b e =
    let (u, x, e) = both_given (refuse 2 (ltb (length bytes) 28)) _ e in
    let (v, y, e) = both_given (refuse 3 (beyond (sizes bytes))) _ e in
    let (w, z, e) = both_given (refuse 4 (not (eqb (length bytes) (whole (sizes bytes))))) _ e in
    let q = eqb-true (length bytes) (whole (sizes bytes)) (not-false _ (not_wrong 4 _ z)) in
    (limited (sizes bytes) (not_wrong 3 (beyond (sizes bytes)) y), rw (← gives_inj e) (sized (sizes bytes) bytes q))

-- ── Lines 5 to 7 ────────────────────────────────────────────────────────────────────────────────────────────

-- what lines 2 to 7 say of what they accept
pub record Known (bytes : List ℕ) (a : Accepted) : Type 0 where
  pub limits : Limited (sizes bytes)
  pub arrays : Batch
  pub read : batch bytes ≡ gives arrays
  pub long : Sized (sizes bytes) arrays
  pub spells : Spells a.trees arrays.kinds arrays.measures arrays.text
  pub roots : length a.trees ≡ (sizes bytes).trees
  pub well_formed : All (λ w. malformed w ≡ false) arrays.kinds
  pub begins : All (λ t. starts_with_token t ≡ false) a.trees
  pub shallow : All (λ t. deepest t ≤ 64) a.trees
  pub table : a.table ≡ table 0 0 a.trees
  pub parted : calls (zip arrays.calls arrays.targets) arrays.listed ≡ some a.calls
  pub calls : All (λ c. wrong_call a.table c ≡ false) a.calls
  pub few : All (λ c. lists_too_many c ≡ false) a.calls
  pub mappings : All (λ m. wrong_mapping a.table m ≡ false) a.mappings
  pub paired : a.mappings ≡ zip arrays.inputs arrays.outputs
  pub notes : All (λ n. wrong_note a.table n ≡ false) a.notes
  pub noted : a.notes ≡ zip arrays.noted arrays.numbers

-- the trees that a batch spells
spelled_spells : (s : Sizes) (b : Batch) (ts : List (Tree ℕ)) → Sized s b → spelled b ≡ some ts → Spells ts b.kinds b.measures b.text × (unspelled b ts ≡ false)
unfolding spelled
spelled_spells s b ts z e =
    let (ps, x, e) = bind_some (pieces (zip b.kinds b.measures) b.text) _ e in
    let (us, y, e) = bind_some (grow ps) _ e in
    let (w, r) = chosen (unspelled b us) us ts e in
    (rw (← w) (read_spells b.kinds b.measures b.text ps us (z.kinds ∙ sym z.measures) x y), rw w at r)
  where
    chosen : (wrong : Bool) (us ts : List (Tree ℕ)) → cond wrong none (some us) ≡ some ts → (us ≡ ts) × (wrong ≡ false)
    chosen true us ts e = none_some e
    chosen false us ts e = (some_inj e, refl)

-- from what each line lets pass
known : (bytes : List ℕ) (b : Batch) (ts : List (Tree ℕ)) (cs : List Call) → batch bytes ≡ gives b → spelled b ≡ some ts → calls (zip b.calls b.targets) b.listed ≡ some cs
    → any (wrong_call (table 0 0 ts)) cs ≡ false → any lists_too_many cs ≡ false
    → (any (wrong_mapping (table 0 0 ts)) (zip b.inputs b.outputs) || any (wrong_note (table 0 0 ts)) (zip b.noted b.numbers)) ≡ false
    → Known bytes (record { trees = ts; table = table 0 0 ts; calls = cs; mappings = zip b.inputs b.outputs; notes = zip b.noted b.numbers })
unfolding unspelled
known bytes b ts cs x y z w f k =
    let (l, s) = batch_sized bytes b x in
    let (sp, un) = spelled_spells (sizes bytes) b ts s y in
    let (un, d) = neither _ _ un in
    let (un, t) = neither _ _ un in
    let (m, n) = neither _ _ un in
    let (km, kn) = neither _ _ k in
    record {
      limits = l;
      arrays = b;
      read = x;
      long = s;
      spells = sp;
      roots = eqb-true (length ts) b.trees (not-false _ n) ∙ s.trees;
      well_formed = none_passes malformed b.kinds m;
      begins = none_passes starts_with_token ts t;
      shallow = All-map (λ u h. ltb-false 64 (deepest u) h) ts (none_passes (λ u. ltb 64 (deepest u)) ts d);
      table = refl;
      parted = z;
      calls = none_passes (wrong_call (table 0 0 ts)) cs w;
      few = none_passes lists_too_many cs f;
      mappings = none_passes (wrong_mapping (table 0 0 ts)) (zip b.inputs b.outputs) km;
      paired = refl;
      notes = none_passes (wrong_note (table 0 0 ts)) (zip b.noted b.numbers) kn;
      noted = refl;
    }

pub accepts : (bytes : List ℕ) (a : Accepted) → accepted bytes ≡ gives a → Known bytes a
unfolding accepted
accepts bytes a e =
    given (batch bytes) _ e λ b x e.
    given (or_refuse 5 (spelled b)) _ e λ ts y e.
    given (or_refuse 6 (calls (zip b.calls b.targets) b.listed)) _ e λ cs z e.
    given (refuse 6 (any (wrong_call (table 0 0 ts)) cs)) _ e λ u w e.
    given (refuse 16 (any lists_too_many cs)) _ e λ t f e.
    given (refuse 7 (any (wrong_mapping (table 0 0 ts)) (zip b.inputs b.outputs) || any (wrong_note (table 0 0 ts)) (zip b.noted b.numbers))) _ e λ v k e.
    rw (← gives_inj e) (known bytes b ts cs x (is_there 5 (spelled b) y) (is_there 6 _ z) (not_wrong 6 _ w) (not_wrong 16 _ f) (not_wrong 7 _ k))
