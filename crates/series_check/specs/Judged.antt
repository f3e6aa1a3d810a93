-- The refusals of a lent memory in order, one after another.
-- Assumes nothing.
use Rattle.std.specs.Prelude.{◌≡◌, Bool, ◌||◌, take, drop, Result, Ok, Err}
use Rattle.std.proofs.Math.Path.{refl, sym, ap}
use Rattle.std.proofs.Common.{◌∙◌, arith, drop-drop, take_at, take_all}
use Rattle.std.proofs.Math.Bool.{true, false, cond, not}
use mathlib.Core.List.{List, [], ◌∷◌, ◌++◌, map, map-map, zip, append-nil}
use Rattle.std.proofs.Math.Option.{Option, none, some, bind}
use Prim.Native.Nat.{ℕ, zero, suc, ◌+◌, ◌*◌, ◌^◌, ◌≤◌, ◌<◌}
use Rattle.std.proofs.Math.ListN.{length, get_or, length-drop}
use Rattle.std.proofs.lemmas.List.{length-map}
use Rattle.std.proofs.Math.Seq.{paste, length-take-le}
use borrow.Author.Tests.{lt-ltb, le-ltb, eq-eqb}
use Rattle.orders.specs.Lists.{any}
use Rattle.orders.specs.ListLaws.{bool_absurd}
use Rattle.orders.specs.Tree.{Tree, forest, list, resolve}
use Rattle.definition.specs.Basics.{Answer, refused, gives, ◌>>=◌, refuse, or_refuse, is_some}
use Rattle.definition.specs.Words.{word, words}
use Rattle.definition.specs.Batch.{Batch}
use Rattle.definition.specs.Elements.{spelled}
use Rattle.definition.specs.Writing.{differ}
use Rattle.refusals.specs.Numbers.{number, answered}
use Rattle.refusals.specs.declared.Refusal.{Refusal}
use Rattle.refusals.specs.declared.Refusal.TheVariants.{Size, Length, Spelling, Bookmarks, Astray}
use Rattle.words.specs.Bytes.{length_words}
use Rattle.rows_model.specs.Row.{rows_of, rows_in, triples}
use Rattle.read_spelling.specs.Spelling.{elements_at, accepts}
use Rattle.read_spelling.specs.SpellingLaws.{accepts_spelled}
use Rattle.read_spelling.specs.Preorder.{flats}
use Rattle.read_element_table.specs.Filling.{rows_from}
use Rattle.read_element_table.specs.Filled.{elements_in, spelled_trees, spelled_spelt}
use Rattle.read_element_table.specs.SourceRows.{rows_told_lem}
use Rattle.check_laws.specs.Check.{alone, no_repeat}
use Rattle.series_laws.specs.Memory.{Bookmark, Memory, most_bookmarks, too_big, wrong_numbers, astray, held}
use Rattle.series_laws.specs.Lent.{slot_words, tree_in, slots, bookmark_in, beyond_slot, slots_in, memory_in, tree_bytes, cut_off, lent}
use Rattle.series_check.specs.Slots.{numbers_from, slots_all}
use Rattle.series_check.specs.Leading.{lost, AllLead}
use Rattle.read_element_table.specs.FillingLaws.{length_rows}

-- a refusal's number, 0 where there is none
unfoldable pub number_of : {A : Type 0} → Answer A → ℕ
number_of (refused k) = k
number_of (gives a) = 0

-- a refusal, or that there is none: nothing of what is given
unfoldable pub judged : {A : Type 0} → Answer A → Answer (Unit {0})
judged (refused k) = refused k
judged (gives a) = gives tt

-- 20, of k bookmarks
unfoldable pub wrong_in : List ℕ → ℕ → Bool
wrong_in marks k = wrong_numbers (map bookmark_in (slots k (drop 1 marks)))

-- 5, 20 and 21, of a tree of n elements with b bytes of text, and of k bookmarks
unfoldable pub remaining : List ℕ → ℕ → ℕ → List ℕ → ℕ → Answer (Unit {0})
remaining t n b marks k = do
  ts ← or_refuse 5 (spelled (alone (tree_in n b t)))
  _ ← refuse 20 (wrong_numbers (map bookmark_in (slots k (drop 1 marks))))
  _ ← refuse 21 (any (astray ts) (map bookmark_in (slots k (drop 1 marks))))
  refuse 21 (any beyond_slot (slots k (drop 1 marks)))

abbrev pub Remains : List ℕ → ℕ → ℕ → List ℕ → ℕ → Result (Unit {0}) Refusal → Type 0
Remains t n b marks k r = answered r ≡ remaining t n b marks k

-- ── 20 ──────────────────────────────────────────────────────────────────────────────────────────────────────

slots_many : (k : ℕ) (l : List ℕ) → length (slots k l) ≡ k
unfolding slots
slots_many zero l = refl
slots_many (suc k) l = ap suc (slots_many k (drop slot_words l))

module _ (marks : List ℕ) (k : ℕ) where
  many : length (map bookmark_in (slots k (drop 1 marks))) ≡ k
  many = length-map (slots k (drop 1 marks)) bookmark_in ∙ slots_many k (drop 1 marks)

  pub wrong_many : most_bookmarks < k → true ≡ wrong_in marks k
  unfolding wrong_in wrong_numbers
  wrong_many e = sym (rw (many, lt-ltb most_bookmarks k e))

  numbers_are : map (λ (b : Bookmark). b.0) (map bookmark_in (slots k (drop 1 marks))) ≡ numbers_from marks k 0
  unfolding numbers_from bookmark_in
  numbers_are = map-map (λ (b : Bookmark). b.0) bookmark_in (slots k (drop 1 marks)) ∙ ap (map (λ s. get_or s 0 0)) (sym (slots_all marks k))

  pub wrong_twice : k ≤ most_bookmarks → {r : Bool} → r ≡ not (no_repeat (numbers_from marks k 0)) → r ≡ wrong_in marks k
  unfolding wrong_in wrong_numbers
  wrong_twice few e = e ∙ sym (rw (many, le-ltb most_bookmarks k few, numbers_are))

-- ── 5 ───────────────────────────────────────────────────────────────────────────────────────────────────────

module _ (t : List ℕ) (n b : ℕ) (room : 8 + 8 * n + b ≤ length t) where
  one : Batch
  one = alone (tree_in n b t)

  kinds_are : (alone (tree_in n b t)).kinds ≡ words n (drop 8 t)
  unfolding alone tree_in
  kinds_are = refl

  measures_are : (alone (tree_in n b t)).measures ≡ words n (drop (8 + 4 * n) t)
  unfolding alone tree_in
  measures_are = ap (words n) (drop-drop (4 * n) 8 t)

  text_long : length (alone (tree_in n b t)).text ≡ b
  unfolding alone tree_in
  text_long = length-take-le b (drop (4 * n) (drop (4 * n) (drop 8 t))) (omega (arith, length-drop (4 * n) (drop (4 * n) (drop 8 t)), length-drop (4 * n) (drop 8 t), length-drop 8 t))

  step : length (alone (tree_in n b t)).kinds ≡ length (alone (tree_in n b t)).measures
  step = ap length kinds_are ∙ (length_words n (drop 8 t) ∙ sym (ap length measures_are ∙ length_words n (drop (8 + 4 * n) t)))

  elements_are : elements_in (alone (tree_in n b t)) ≡ elements_at t 8 (8 + 4 * n) n
  unfolding elements_in elements_at
  elements_are = rw (kinds_are, measures_are)

  line_5 : accepts 1 b (elements_at t 8 (8 + 4 * n) n) ≡ is_some (spelled (alone (tree_in n b t)))
  unfolding elements_in alone
  line_5 = ap (accepts 1 b) (sym elements_are) ∙ (ap (λ (k : ℕ). accepts 1 k (elements_in (alone (tree_in n b t)))) (sym text_long) ∙ accepts_spelled (alone (tree_in n b t)) step)

  module _ (marks : List ℕ) (k : ℕ) where
    pub remains_unspelled : false ≡ accepts 1 b (elements_at t 8 (8 + 4 * n) n) → Remains t n b marks k (Err Spelling)
    unfolding remaining answered number or_refuse ◌>>=◌ is_some
    remains_unspelled e = sym (go (spelled (alone (tree_in n b t))) refl (sym line_5 ∙ sym e))
      where
        go : (o : Option (List (Tree ℕ))) → spelled (alone (tree_in n b t)) ≡ o → is_some o ≡ false → remaining t n b marks k ≡ refused 5
        go none z f = rw z
        go (some ts) z f = bool_absurd refl f

    module _ (h : true ≡ accepts 1 b (elements_at t 8 (8 + 4 * n) n)) where
      spelt : (ts : List (Tree ℕ)) × (spelled (alone (tree_in n b t)) ≡ some ts)
      unfolding is_some
      spelt = go (spelled (alone (tree_in n b t))) refl (sym line_5 ∙ sym h)
        where
          go : (o : Option (List (Tree ℕ))) → spelled (alone (tree_in n b t)) ≡ o → is_some o ≡ true → (ts : List (Tree ℕ)) × (spelled (alone (tree_in n b t)) ≡ some ts)
          go none z f = bool_absurd f refl
          go (some ts) z f = (ts, z)

      -- ── 20 ──

      pub remains_wrong : true ≡ wrong_in marks k → Remains t n b marks k (Err Bookmarks)
      unfolding wrong_in remaining answered number or_refuse refuse ◌>>=◌
      remains_wrong e = sym (rw (spelt.1, ← e))

      -- ── 21 ──

      es_long : length (elements_at t 8 (8 + 4 * n) n) ≡ n
      unfolding elements_in zip
      es_long = ap length (sym elements_are) ∙ zipped (alone (tree_in n b t)).kinds (alone (tree_in n b t)).measures step ∙ (ap length kinds_are ∙ length_words n (drop 8 t))
        where
          zipped : (l m : List ℕ) → length l ≡ length m → length (zip l m) ≡ length l
          zipped [] m e = refl
          zipped (x ∷ l) [] e = absurd (omega arith)
          zipped (x ∷ l) (y ∷ m) e = ap suc (zipped l m (omega arith))

      -- the tree is one
      single : (r : Tree ℕ) × (spelt.0 ≡ r ∷ [])
      unfolding alone
      single = go spelt.0 refl (spelled_trees (alone (tree_in n b t)) spelt.0 spelt.1)
        where
          go : (ts : List (Tree ℕ)) → spelt.0 ≡ ts → length spelt.0 ≡ 1 → (r : Tree ℕ) × (spelt.0 ≡ r ∷ [])
          go [] e l = absurd (omega (arith, ap length e))
          go (r ∷ []) e l = (r, e)
          go (r ∷ s ∷ ts) e l = absurd (omega (arith, ap length e))

      -- 21 in one: a path that is too long, or finds no element
      lost_is : (r : Tree ℕ) (ss : List (List ℕ)) → any (lost r) ss ≡ (any (astray (r ∷ [])) (map bookmark_in ss) || any beyond_slot ss)
      unfolding any lost astray resolve bind list forest
      lost_is r [] = refl
      lost_is r (s ∷ ss) = ap (λ (x : Bool). (beyond_slot s || not (is_some (resolve (bookmark_in s).1 r))) || x) (lost_is r ss) ∙ shuffle (beyond_slot s) (not (is_some (resolve (bookmark_in s).1 r))) (any (astray (r ∷ [])) (map bookmark_in ss)) (any beyond_slot ss)
        where
          shuffle : (a b c d : Bool) → ((a || b) || (c || d)) ≡ ((b || c) || (a || d))
          shuffle true true c d = refl
          shuffle true false true d = refl
          shuffle true false false d = refl
          shuffle false true c d = refl
          shuffle false false c d = refl

      module _ (fine : false ≡ wrong_in marks k) (rows₀ rows part : List ℕ) (long : 3 * n ≤ length rows₀)
          (filled : rows ≡ paste rows₀ 0 (rows_from 0 (elements_at t 8 (8 + 4 * n) n)) (3 * n)) (is : part ≡ take (3 * n) rows) where
        part_is : part ≡ rows_from 0 (elements_at t 8 (8 + 4 * n) n)
        part_is =
            let s = rows_from 0 (elements_at t 8 (8 + 4 * n) n) in
            let l : length s ≡ 3 * n = length_rows 0 (elements_at t 8 (8 + 4 * n) n) ∙ ap (λ (k : ℕ). 3 * k) es_long in
            is ∙ (ap (take (3 * n)) (filled ∙ ap (λ (x : List ℕ). [] ++ x ++ drop (0 + 3 * n) rows₀) (take_all (3 * n) s (omega arith))) ∙ take_at s (drop (0 + 3 * n) rows₀) (3 * n) l)

        pub part_long : length part ≡ 3 * n
        part_long = ap length part_is ∙ (length_rows 0 (elements_at t 8 (8 + 4 * n) n) ∙ ap (λ (k : ℕ). 3 * k) es_long)

        told : (r : Tree ℕ) → spelt.0 ≡ r ∷ [] → triples (alone (tree_in n b t)).text part ≡ rows_of r
        unfolding forest
        told r e =
            let S = spelled_spelt (alone (tree_in n b t)) spelt.0 spelt.1 in
            ap (triples (alone (tree_in n b t)).text) (part_is ∙ ap (rows_from 0) (sym (S.elements ∙ elements_are)))
            ∙ (ap (λ (x : List ℕ). triples x (rows_from 0 (flats (forest spelt.0)))) (sym S.text) ∙ (rows_told_lem (forest spelt.0) S.worded ∙ (ap (λ (ts : List (Tree ℕ)). rows_in (forest ts)) e ∙ append-nil (rows_of r))))

        -- nothing given, or 21
        abbrev led : Bool → Answer (Unit {0})
        led x = cond x (gives tt) (refused 21)

        fine_numbers : wrong_numbers (map bookmark_in (slots k (drop 1 marks))) ≡ false
        unfolding wrong_in
        fine_numbers = sym fine

        pub remains_all : (x : Bool) → AllLead part marks k x → remaining t n b marks k ≡ led x
        unfolding remaining or_refuse refuse ◌>>=◌
        remains_all x l =
            let (r, e) = single in
            let q : x ≡ not (any (astray (r ∷ [])) (map bookmark_in (slots k (drop 1 marks))) || any beyond_slot (slots k (drop 1 marks))) = l (alone (tree_in n b t)).text r (told r e) ∙ ap not (ap (any (lost r)) (slots_all marks k) ∙ lost_is r (slots k (drop 1 marks))) in
            rw (spelt.1, e, fine_numbers) (go (any (astray (r ∷ [])) (map bookmark_in (slots k (drop 1 marks)))) (any beyond_slot (slots k (drop 1 marks))) x q)
          where
            go : (a c x : Bool) → x ≡ not (a || c) → (refuse 21 a >>= (λ _. refuse 21 c)) ≡ led x
            go true c true e = bool_absurd refl (e ∙ refl)
            go true c false e = refl
            go false true true e = bool_absurd refl e
            go false true false e = refl
            go false false true e = refl
            go false false false e = bool_absurd e refl

        pub remains_lead : {x : Bool} → AllLead part marks k x → x ≡ true → Remains t n b marks k (Ok tt)
        unfolding answered
        remains_lead {x} l e = sym (remains_all x l ∙ ap led e)

        pub remains_astray : {x : Bool} → AllLead part marks k x → x ≡ false → Remains t n b marks k (Err Astray)
        unfolding answered number
        remains_astray {x} l e = sym (remains_all x l ∙ ap led e)

-- ── 3 and 4 ─────────────────────────────────────────────────────────────────────────────────────────────────

module _ (most : ℕ) (t marks : List ℕ) where
  pub judged_cut : length t < 8 → answered (Err Length) ≡ judged (lent most (record { tree = t; bookmarks = marks }))
  unfolding lent refuse ◌>>=◌ judged answered number
  judged_cut h = rw (lt-ltb (length t) 8 h)

  module _ (sized : 8 ≤ length t) {n b : ℕ} (en : (n ≡ word (drop 0 t)) × (n < 2 ^ 32)) (eb : (b ≡ word (drop 4 t)) × (b < 2 ^ 32)) where
    pub judged_many : most < n → answered (Err Size) ≡ judged (lent most (record { tree = t; bookmarks = marks }))
    unfolding lent refuse ◌>>=◌ judged answered number
    judged_many h = rw (le-ltb (length t) 8 sized, ← en.0, lt-ltb most n h)

    module _ (few : n ≤ most) where
      pub judged_long : 16384 < b → answered (Err Size) ≡ judged (lent most (record { tree = t; bookmarks = marks }))
      unfolding lent refuse ◌>>=◌ judged answered number
      judged_long h = rw (le-ltb (length t) 8 sized, ← en.0, ← eb.0, le-ltb most n few, lt-ltb 16384 b h)

      module _ (short : b ≤ 16384) where
        pub judged_whole : length t < 8 + 8 * n + b → answered (Err Length) ≡ judged (lent most (record { tree = t; bookmarks = marks }))
        unfolding lent refuse ◌>>=◌ judged answered number cut_off tree_bytes
        judged_whole h = rw (le-ltb (length t) 8 sized, ← en.0, ← eb.0, le-ltb most n few, le-ltb 16384 b short, lt-ltb (length t) (8 + 8 * n + b) h)

        module _ (room : 8 + 8 * n + b ≤ length t) where
          slots_short : {k : ℕ} → k ≡ get_or marks 0 0 → length marks < 1 + slot_words * k → answered (Err Length) ≡ judged (lent most (record { tree = t; bookmarks = marks }))
          unfolding lent refuse ◌>>=◌ judged answered number cut_off tree_bytes
          slots_short {k} e h = rw (le-ltb (length t) 8 sized, ← en.0, ← eb.0, le-ltb most n few, le-ltb 16384 b short, le-ltb (length t) (8 + 8 * n + b) room, ← e, lt-ltb (length marks) (1 + slot_words * k) h)

          pub judged_empty : length marks ≡ 0 → answered (Err Length) ≡ judged (lent most (record { tree = t; bookmarks = marks }))
          judged_empty h = slots_short {k = get_or marks 0 0} refl (omega arith)

          module _ {k at : ℕ} (ek : (k ≡ get_or marks 0 0) × (k < 2 ^ 32)) (ea : at ≡ 1 + 65 * k) where
            pub judged_cut_slots : length marks < at → answered (Err Length) ≡ judged (lent most (record { tree = t; bookmarks = marks }))
            judged_cut_slots h = slots_short {k = k} ek.0 (omega arith)

            pub judged_rest : (o : Answer (Unit {0})) → at ≤ length marks → o ≡ remaining t n b marks k → o ≡ judged (lent most (record { tree = t; bookmarks = marks }))
            unfolding lent held refuse ◌>>=◌ judged cut_off tree_bytes memory_in slots_in too_big differ remaining tree_in
            judged_rest o h q =
                let lk = length_words n (drop 8 t) in
                let lm = length_words n (drop (4 * n) (drop 8 t)) in
                let lt = length-take-le b (drop (4 * n) (drop (4 * n) (drop 8 t))) (omega (arith, length-drop (4 * n) (drop (4 * n) (drop 8 t)), length-drop (4 * n) (drop 8 t), length-drop 8 t)) in
                q ∙ sym (rw (le-ltb (length t) 8 sized, ← en.0, ← eb.0, le-ltb most n few, le-ltb 16384 b short, le-ltb (length t) (8 + 8 * n + b) room, ← ek.0, le-ltb (length marks) (1 + slot_words * k) (omega arith), lk, lm, lt, le-ltb most n few, le-ltb 16384 b short, eq-eqb n n refl)
                (go (or_refuse 5 (spelled (alone (tree_in n b t)))) (wrong_numbers (map bookmark_in (slots k (drop 1 marks)))) (λ ts. any (astray ts) (map bookmark_in (slots k (drop 1 marks)))) (any beyond_slot (slots k (drop 1 marks))) _))
              where
                go : (o : Answer (List (Tree ℕ))) (a : Bool) (f : List (Tree ℕ) → Bool) (c : Bool) (m : Memory)
                    → judged ((o >>= (λ ts. refuse 20 a >>= (λ _. refuse 21 (f ts) >>= (λ _. gives ts)))) >>= (λ _. refuse 21 c >>= (λ _. gives m)))
                    ≡ (o >>= (λ ts. refuse 20 a >>= (λ _. refuse 21 (f ts) >>= (λ _. refuse 21 c))))
                go (refused j) a f c m = refl
                go (gives ts) true f c m = refl
                go (gives ts) false f c m = last (f ts) c
                  where
                    last : (x c : Bool) → judged ((refuse 21 x >>= (λ _. gives ts)) >>= (λ _. refuse 21 c >>= (λ _. gives m))) ≡ (refuse 21 x >>= (λ _. refuse 21 c))
                    last true c = refl
                    last false true = refl
                    last false false = refl
