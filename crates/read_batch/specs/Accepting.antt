-- Lines 5 to 7, of a batch with a layout.
-- Assumes nothing.
use Rattle.std.specs.Prelude.{◌≡◌, refl, Bool, true, false, not, ◌||◌, ℕ}
use Rattle.std.proofs.Common.{sym, ap, ◌∙◌}
use mathlib.Core.List.{List, zip}
use Rattle.std.proofs.Math.Option.{Option, none, some}
use Rattle.definition.specs.Basics.{Answer, refused, gives, ◌>>=◌, refuse, or_refuse, any}
use Rattle.orders.specs.Tree.{Tree}
use Rattle.definition.specs.Batch.{Batch, sizes, batch}
use Rattle.definition.specs.Elements.{Table, spelled, table}
use Rattle.definition.specs.Refusals.{Call, calls, lists_too_many, wrong_call, wrong_mapping, wrong_note, Accepted, accepted}
use Rattle.definition_laws.specs.Answers.{gives_inj, refused_gives, both_given, is_there}
use Rattle.read_layout.specs.Layout.{layout_of, laid, arrays_at, batch_laid, given}
use Rattle.read_layout.specs.declared.Layout.{Layout}
use Rattle.definition_laws.specs.Accepted.{batch_sized}
use Rattle.read_names.specs.Called.{calls_fit, none_wrong, word_too_many, listed_told, words_told}

-- lines 6, 16 and 7 of a batch, by its table
unfoldable pub named : Batch → Table → Layout → Answer Layout
named b T l = do
  _ ← refuse 6 (not (calls_fit T (zip b.calls b.targets) b.listed))
  _ ← refuse 16 (any word_too_many b.calls)
  _ ← refuse 7 (any (wrong_mapping T) (zip b.inputs b.outputs) || any (wrong_note T) (zip b.noted b.numbers))
  gives l

-- lines 2 to 7: the layout of a batch that is accepted
unfoldable pub judged : List ℕ → Answer Layout
judged b = accepted b >>= (λ _. gives (layout_of (sizes b)))

-- lines 6, 16 and 7 with what they leave, or with the layout in its place
leaves : {A : Type 0} (T : Table) (o : Option (List Call)) (m v : Bool) (f : List Call → A) (x : Layout) → ((cs : List Call) → o ≡ some cs → any lists_too_many cs ≡ m)
    → ((or_refuse 6 o >>= (λ cs. refuse 6 (any (wrong_call T) cs) >>= (λ _. refuse 16 (any lists_too_many cs) >>= (λ _. refuse 7 v >>= (λ _. gives (f cs)))))) >>= (λ _. gives x))
    ≡ (refuse 6 (not (none_wrong T o)) >>= (λ _. refuse 16 m >>= (λ _. refuse 7 v >>= (λ _. gives x))))
unfolding none_wrong ◌>>=◌ or_refuse refuse
leaves T none m v f x h = refl
leaves T (some cs) m v f x h = rw (h cs refl) (go (any (wrong_call T) cs) m v)
  where
    go : (u m v : Bool) → ((refuse 6 u >>= (λ _. refuse 16 m >>= (λ _. refuse 7 v >>= (λ _. gives (f cs))))) >>= (λ _. gives x)) ≡ (refuse 6 (not (not u)) >>= (λ _. refuse 16 m >>= (λ _. refuse 7 v >>= (λ _. gives x))))
    go true m v = refl
    go false true v = refl
    go false false true = refl
    go false false false = refl

-- ── Line by line ────────────────────────────────────────────────────────────────────────────────────────────

module _ (b : List ℕ) where
  -- 2, 3 or 4
  pub judged_unlaid : (k : ℕ) → laid b ≡ refused k → judged b ≡ refused k
  unfolding judged accepted ◌>>=◌
  judged_unlaid k q = rw (batch_laid b, q)

  module _ (l : Layout) (q : laid b ≡ gives l) where
    is_batch : batch b ≡ gives (arrays_at l b)
    unfolding ◌>>=◌
    is_batch = batch_laid b ∙ rw q

    -- 5
    pub judged_unspelled : spelled (arrays_at l b) ≡ none → judged b ≡ refused 5
    unfolding judged accepted ◌>>=◌ or_refuse
    judged_unspelled e = rw (is_batch, e)

    module _ (ts : List (Tree ℕ)) (e : spelled (arrays_at l b) ≡ some ts) where
      -- 16, by the call words
      lists_told : (cs : List Call) → calls (zip (arrays_at l b).calls (arrays_at l b).targets) (arrays_at l b).listed ≡ some cs → any lists_too_many cs ≡ any word_too_many (arrays_at l b).calls
      lists_told cs h =
          let c : Batch = arrays_at l b in
          let sized = (batch_sized b c is_batch).1 in
          listed_told (zip c.calls c.targets) c.listed cs h ∙ words_told word_too_many c.calls c.targets (sized.calls ∙ sym sized.targets)

      -- 6, 16 and 7
      pub judged_spelled : judged b ≡ named (arrays_at l b) (table 0 0 ts) l
      unfolding judged accepted named calls_fit ◌>>=◌ or_refuse
      judged_spelled =
          let c : Batch = arrays_at l b in
          let T : Table = table 0 0 ts in
          rw (is_batch, e, ← (given b l q).3)
          (leaves T (calls (zip c.calls c.targets) c.listed) (any word_too_many c.calls) (any (wrong_mapping T) (zip c.inputs c.outputs) || any (wrong_note T) (zip c.noted c.numbers))
          (λ cs. record { trees = ts; table = T; calls = cs; mappings = zip c.inputs c.outputs; notes = zip c.noted c.numbers }) l lists_told)

-- ── What is accepted ────────────────────────────────────────────────────────────────────────────────────────

-- what an accepted batch with this layout is, by its arrays
pub record Parts (b : Batch) (a : Accepted) : Type 0 where
  pub trees : spelled b ≡ some a.trees
  pub table : a.table ≡ table 0 0 a.trees
  pub calls : calls (zip b.calls b.targets) b.listed ≡ some a.calls
  pub mappings : a.mappings ≡ zip b.inputs b.outputs
  pub notes : a.notes ≡ zip b.noted b.numbers

pub accepted_parts : (b : List ℕ) (l : Layout) (a : Accepted) → laid b ≡ gives l → accepted b ≡ gives a → Parts (arrays_at l b) a
unfolding accepted ◌>>=◌
accepted_parts b l a q g =
    let c : Batch = arrays_at l b in
    let g = rw (is_batch b l q) at g in
    let (ts, spells, g) = both_given (or_refuse 5 (spelled c)) _ g in
    let T : Table = table 0 0 ts in
    let (cs, counts, g) = both_given (or_refuse 6 (calls (zip c.calls c.targets) c.listed)) _ g in
    let (_, _, g) = both_given (refuse 6 (any (wrong_call T) cs)) _ g in
    let (_, _, g) = both_given (refuse 16 (any lists_too_many cs)) _ g in
    let (_, _, g) = both_given (refuse 7 (any (wrong_mapping T) (zip c.inputs c.outputs) || any (wrong_note T) (zip c.noted c.numbers))) _ g in
    rw (← gives_inj g) (record { trees = is_there 5 (spelled c) spells; table = refl; calls = is_there 6 (calls (zip c.calls c.targets) c.listed) counts; mappings = refl; notes = refl })

-- the layout that is answered is the batch's, and the definition accepts
pub judged_given : (b : List ℕ) (l : Layout) → judged b ≡ gives l → (laid b ≡ gives l) × (a : Accepted) × (accepted b ≡ gives a)
unfolding judged laid accepted ◌>>=◌
judged_given b l g =
    let (a, accepts, same) = both_given (accepted b) _ g in
    let (c, is, _) = both_given (batch b) _ accepts in
    (rw is same, a, accepts)

-- what is refused, the definition refuses
pub judged_refuses : (b : List ℕ) (n : ℕ) → judged b ≡ refused n → accepted b ≡ refused n
unfolding judged ◌>>=◌
judged_refuses b n g = go (accepted b) g
  where
    go : (o : Answer Accepted) → (o >>= (λ _. gives (layout_of (sizes b)))) ≡ refused n → o ≡ refused n
    go (refused k) g = let z : k ≡ n = cc in ap refused z
    go (gives a) g = refused_gives (sym g)
