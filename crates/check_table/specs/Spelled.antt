-- What `read_tree` tells of the definition: whether the lists spell a tree, and what the words then say of it.
-- Assumes nothing.
use Rattle.std.specs.Prelude.{◌≡◌, true, ℕ, ◌*◌}
use Rattle.std.proofs.Math.Path.{refl, sym, ap}
use Rattle.std.proofs.Common.{◌∙◌, arith}
use Rattle.std.proofs.Math.Bool.{false}
use mathlib.Core.List.{List, [], ◌∷◌, zip}
use Rattle.std.proofs.Math.Option.{Option, none, some}
use Rattle.std.proofs.Math.ListN.{length, take}
use Rattle.orders.specs.ListLaws.{bool_absurd}
use Rattle.orders.specs.Tree.{Tree, forest}
use Rattle.definition.specs.Basics.{is_some}
use Rattle.definition.specs.Elements.{table, spelled}
use Rattle.definition_laws.specs.Rows.{table_length}
use Rattle.read_spelling.specs.SpellingLaws.{accepts_spelled}
use Rattle.read_element_table.specs.Filled.{elements_in, accepted, spelled_trees, spelled_spelt, spelled_count}
use Rattle.check_laws.specs.Check.{Flat, alone}
use Rattle.check_model.proofs.Pairing.{length_zip}
use Rattle.check_model.specs.Table.{Known, Sound, told_all, told_known, told_sound}
use Rattle.check_table.specs.Walk.{words_of, Reads}
use Rattle.check_table.specs.WalkLaws.{walk_words}

-- the lists spell one tree, and the words tell of it
pub record Tells (f : Flat) (words : List ℕ) : Type 0 where
  pub trees : List (Tree ℕ)
  pub spells : spelled (alone f) ≡ some trees
  pub known : Known trees f.text (length f.kinds) words
  pub sound : Sound (length f.kinds) (length f.text) words

module _ (f : Flat) (words : List ℕ) (alike : length f.measures ≡ length f.kinds) where
  pub reads_none : Reads (zip f.kinds f.measures) (length f.text) false words → spelled (alone f) ≡ none
  unfolding is_some alone
  reads_none r = go (spelled (alone f)) refl (sym (accepts_spelled (alone f) (sym alike)) ∙ sym r.verdict)
    where
      go : (o : Option (List (Tree ℕ))) → spelled (alone f) ≡ o → is_some o ≡ false → spelled (alone f) ≡ none
      go none e q = e
      go (some ts) e q = bool_absurd refl q

  pub reads_tells : Reads (zip f.kinds f.measures) (length f.text) true words → Tells f words
  unfolding alone elements_in forest
  reads_tells r = let (ts, e) = accepted (alone f) (sym alike) (sym r.verdict) in go ts e (spelled_trees (alone f) ts e)
    where
      go : (ts : List (Tree ℕ)) → spelled (alone f) ≡ some ts → length ts ≡ 1 → Tells f words
      go [] e h = absurd (omega arith)
      go (c ∷ d ∷ ts) e h = absurd (omega arith)
      go (c ∷ []) e h =
          let s = spelled_spelt (alone f) (c ∷ []) e in
          let n : length (table 0 0 (c ∷ [])) ≡ length f.kinds = table_length (c ∷ []) 0 0 ∙ spelled_count (alone f) (c ∷ []) e (sym alike) in
          let w : take (4 * length f.kinds) words ≡ told_all (table 0 0 (c ∷ [])) =
          ap (λ (k : ℕ). take (4 * k) words) (sym (length_zip f.kinds f.measures alike)) ∙ (r.words refl ∙ (ap words_of (sym s.elements) ∙ walk_words c s.worded.0)) in
          record {
            trees = c ∷ [];
            spells = e;
            known = told_known c s.worded.0 (length f.kinds) words f.text n w s.text;
            sound = told_sound c s.worded.0 (length f.kinds) words f.text n w s.text;
          }
