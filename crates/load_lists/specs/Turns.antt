-- What each loop has filled so far: at first, after a turn, at last.
-- Assumes nothing.
use Rattle.std.specs.Prelude.{◌≡◌, ℕ, zero, suc, ◌+◌, ◌*◌, ◌%◌, ◌≤◌, ◌<◌, length, get_or, set, take}
use Rattle.std.proofs.Math.Path.{refl}
use Rattle.std.proofs.Common.{sym, ap, ◌∙◌, arith, zero-add, length-set, take_all}
use mathlib.Core.List.{List, [], ◌∷◌, map, flat_map}
use Rattle.definition.specs.Refusals.{Call}
use Rattle.load_laws.specs.Load.{next, drawn, after, draws, along, calls, noted}
use Rattle.load_laws.specs.Draws.{none}
use Rattle.load_laws.proofs.Calls.{calls_many}
use Rattle.load_draws.specs.declared.DrawnCall.{DrawnCall}
use Rattle.load_draws.specs.Called.{call_of, Called}
use Rattle.load_lists.specs.Numbered.{before, numbered, passed, before_next, call_numbered}
use Rattle.load_lists.specs.Filled.{Filled, NotesFilled}
use Rattle.load_lists.specs.Filling.{Front, none_yet, whole, along_step, column_step, listed_step, noted_step}

-- ── By a formula ────────────────────────────────────────────────────────────────────────────────────────────

-- the first i places of a slice hold f of their places
pub record AlongTo (f : ℕ → ℕ) (held s : List ℕ) (i : ℕ) : Type 0 where
  pub same : length s ≡ length held
  pub front : Front i (along f 0 i) s

module _ (f : ℕ → ℕ) (held : List ℕ) where
  pub along_first : AlongTo f held held 0
  unfolding along
  along_first = record { same = refl; front = none_yet [] held refl }

  pub along_turn : (s : List ℕ) (i v : ℕ) → AlongTo f held s i → i < length s → v ≡ f i → AlongTo f held (set s i v) (i + 1)
  along_turn s i v h k e = record { same = simp length-set h.same; front = along_step f 0 i v s h.front k (rw (zero-add i) e) }

  pub along_last : (s : List ℕ) (i : ℕ) → AlongTo f held s i → length s ≤ i → s ≡ along f 0 (length held)
  along_last s i h k = let z : i ≡ length held = omega (arith, h.same, h.front.within) in rw (← z) (whole i (along f 0 i) s h.front k)

-- ── The calls ───────────────────────────────────────────────────────────────────────────────────────────────

-- the first i calls are in the lists, the generator stands before call i
pub record CallsTo (start : ℕ) (os ns rs ts ls : List ℕ) (present at i : ℕ) : Type 0 where
  pub lengths : (length os ≡ 96) × (length ns ≡ 96) × (length rs ≡ 96) × (length ts ≡ 96) × (length ls ≡ 192)
  pub generator : present ≡ before start i
  pub most : at ≤ 2 * i
  pub within : i ≤ 96
  pub operations : Front i (map (λ c. c.operation) (take i (calls start))) os
  pub counts : Front i (map (λ c. length c.listed) (take i (calls start))) ns
  pub rules : Front i (map (λ c. c.rule) (take i (calls start))) rs
  pub targets : Front i (map (λ c. c.target) (take i (calls start))) ts
  pub listed : Front at (flat_map (λ c. c.listed) (take i (calls start))) ls

pub calls_first : (start : ℕ) (os ns rs ts ls : List ℕ) → (96 ≡ length os) × (96 ≡ length ns) × (96 ≡ length rs) × (96 ≡ length ts) × (192 ≡ length ls) → CallsTo start os ns rs ts ls start 0 0
unfolding before after flat_map
calls_first start os ns rs ts ls (a, b, c, d, e) = record {
  lengths = (sym a, sym b, sym c, sym d, sym e);
  generator = refl;
  most = omega arith;
  within = omega arith;
  operations = none_yet [] os refl;
  counts = none_yet [] ns refl;
  rules = none_yet [] rs refl;
  targets = none_yet [] ts refl;
  listed = none_yet [] ls refl;
}

-- as many as it says are listed
count_told : (n x y : ℕ) → n ≤ 2 → length (take n (x ∷ y ∷ [])) ≡ n
count_told zero x y h = refl
count_told (suc zero) x y h = refl
count_told (suc (suc zero)) x y h = refl
count_told (suc (suc (suc n))) x y h = absurd (omega arith)

pub calls_turn : (start : ℕ) (os ns rs ts ls : List ℕ) (present at i : ℕ) (r : DrawnCall) (p : ℕ) → CallsTo start os ns rs ts ls present at i → i < 96
    → Called r (numbered i present) → p ≡ passed i present
    → CallsTo start (set os i r.operation) (set ns i r.count) (set rs i r.rule) (set ts i r.target) (set (set ls at r.first) (at + 1) r.second) p (at + r.count) (i + 1)
unfolding call_of
calls_turn start os ns rs ts ls present at i r p h k c e =
    let cs = calls start in
    let l = calls_many start in
    let (a, b, d, f, g) = h.lengths in
    let is : call_of r ≡ get_or cs i none = c.call ∙ (ap (numbered i) h.generator ∙ sym (call_numbered start i k)) in
    let counted : r.count ≡ length (get_or cs i none).listed = sym (count_told r.count r.first r.second c.few) ∙ ap (λ (c : Call). length c.listed) is in
    record {
      lengths = (simp length-set a, simp length-set b, simp length-set d, simp length-set f, simp length-set g);
      generator = e ∙ (ap (passed i) h.generator ∙ before_next start i);
      most = omega (arith, h.most, c.few);
      within = omega arith;
      operations = column_step (λ c. c.operation) cs i r.operation os h.operations (omega arith) (omega arith) (ap (λ (c : Call). c.operation) is);
      counts = column_step (λ c. length c.listed) cs i r.count ns h.counts (omega arith) (omega arith) counted;
      rules = column_step (λ c. c.rule) cs i r.rule rs h.rules (omega arith) (omega arith) (ap (λ (c : Call). c.rule) is);
      targets = column_step (λ c. c.target) cs i r.target ts h.targets (omega arith) (omega arith) (ap (λ (c : Call). c.target) is);
      listed = listed_step cs i at r.count r.first r.second ls h.listed (omega (arith, h.most)) (omega arith) c.few (ap (λ (c : Call). c.listed) is);
    }

pub calls_last : (start : ℕ) (os ns rs ts ls : List ℕ) (present at i : ℕ) → CallsTo start os ns rs ts ls present at i → 96 ≤ i → Filled start os ns rs ts ls at
calls_last start os ns rs ts ls present at i h k =
    let (a, b, d, f, g) = h.lengths in
    let e : take i (calls start) ≡ calls start = take_all i (calls start) (omega (arith, calls_many start)) in
    record {
      operations = whole i _ os h.operations (omega arith) ∙ rw e refl;
      counts = whole i _ ns h.counts (omega arith) ∙ rw e refl;
      rules = whole i _ rs h.rules (omega arith) ∙ rw e refl;
      targets = whole i _ ts h.targets (omega arith) ∙ rw e refl;
      within = h.listed.within;
      listed = h.listed.holds ∙ rw e refl;
    }

-- ── The notes ───────────────────────────────────────────────────────────────────────────────────────────────

-- the first i notes are in the lists, from a generator that held `from`
pub record NotesTo (from : ℕ) (es ns : List ℕ) (present i : ℕ) : Type 0 where
  pub lengths : (length es ≡ 8) × (length ns ≡ 8)
  pub generator : present ≡ after i from
  pub within : i ≤ 8
  pub noted : Front i (map (λ d. d % 769) (draws i from)) es
  pub numbers : Front i (along (λ n. n) 1 i) ns

after_suc : (n s : ℕ) → after (n + 1) s ≡ next (after n s)
unfolding after
after_suc zero s = refl
after_suc (suc n) s = let z : suc n + 1 ≡ suc (n + 1) = omega arith in rw z (after_suc n (next s))

pub notes_first : (from : ℕ) (es ns : List ℕ) → (8 ≡ length es) × (8 ≡ length ns) → NotesTo from es ns from 0
unfolding after draws along
notes_first from es ns (a, b) = record { lengths = (sym a, sym b); generator = refl; within = omega arith; noted = none_yet [] es refl; numbers = none_yet [] ns refl }

pub notes_turn : (from : ℕ) (es ns : List ℕ) (present i d n p : ℕ) → NotesTo from es ns present i → i < 8 → d ≡ drawn present → n ≡ i + 1 → p ≡ next present
    → NotesTo from (set es i (d % 769)) (set ns i n) p (i + 1)
notes_turn from es ns present i d n p h k e f g = record {
  lengths = (simp length-set h.lengths.0, simp length-set h.lengths.1);
  generator = g ∙ (ap next h.generator ∙ sym (after_suc i from));
  within = omega arith;
  noted = noted_step from i (d % 769) es h.noted (omega arith) (rw (e, h.generator) refl);
  numbers = along_step (λ n. n) 1 i n ns h.numbers (omega arith) (omega arith);
}

pub notes_last : (start from : ℕ) (es ns : List ℕ) (present i : ℕ) → from ≡ after 187 start → NotesTo from es ns present i → 8 ≤ i → NotesFilled start es ns
unfolding noted
notes_last start from es ns present i e h k =
    let z : i ≡ 8 = omega (arith, h.within) in
    record {
      noted = whole i _ es h.noted (omega arith) ∙ rw (z, e) refl;
      numbers = whole i _ ns h.numbers (omega arith) ∙ rw z refl;
    }

-- ── Draws passed ────────────────────────────────────────────────────────────────────────────────────────────

-- i draws are passed
pub record PassedTo (n start present i : ℕ) : Type 0 where
  pub generator : present ≡ after i start
  pub within : i ≤ n

pub passed_first : (n start : ℕ) → PassedTo n start start 0
unfolding after
passed_first n start = record { generator = refl; within = omega arith }

pub passed_turn : (n start present i p : ℕ) → PassedTo n start present i → i < n → p ≡ next present → PassedTo n start p (i + 1)
passed_turn n start present i p h k e = record { generator = e ∙ (ap next h.generator ∙ sym (after_suc i start)); within = omega arith }

pub passed_last : (n start present i : ℕ) → PassedTo n start present i → n ≤ i → present ≡ after n start
passed_last n start present i h k = let z : i ≡ n = omega (arith, h.within) in rw (← z) h.generator
