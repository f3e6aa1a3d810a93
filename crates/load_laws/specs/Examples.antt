-- Loads by computation: their trees as one would tell them, and four starting numbers.
-- Assumes nothing.
use Rattle.std.specs.Prelude.{◌≡◌, refl, ℕ, ◌+◌, ◌%◌, length, get_or, take}
use mathlib.Core.List as List
use mathlib.Core.List.{List, [], ◌∷◌, map, flat_map}
use Rattle.orders.specs.Tree as Tree
use Rattle.orders.specs.Tree.{Tree, token}
use Rattle.definition.specs.Words as Words
use Rattle.definition.specs.Refusals as Refusals
use Rattle.definition.specs.Writing as Writing
use Rattle.definition.specs.Refusals.{Call}
use Rattle.definition.specs.Writing.{laid_out}
use Rattle.definition.specs.Printed as Printed
use Rattle.definition.specs.Examples.{Told, in_lists, node_of, token_of}
use Rattle.load_laws.specs.Load as Load
use Rattle.load_laws.specs.Load.{draws, call, along, calls, noted, load}
use Rattle.load_laws.specs.Draws.{none}

-- ── The trees ───────────────────────────────────────────────────────────────────────────────────────────────

-- a token of this kind, one byte long
abbrev one : ℕ → ℕ → Tree ℕ
one kind byte = token kind (byte ∷ [])

-- separator i and block i
unfoldable pub pair : ℕ → List (Tree ℕ)
pair i = token_of 2 ";" ∷ node_of 3 (map (λ j. one 4 (97 + (i + j) % 26)) (along (λ j. j) 0 4)) ∷ []

-- the three trees
unfoldable pub told : Told
told = record {
  trees =
      node_of 1 (flat_map pair (along (λ i. i) 0 128))
      ∷ node_of 5 (map (λ d. one 6 (65 + d)) (along (λ d. d) 0 16))
      ∷ node_of 7 (node_of 3 (map (λ j. one 4 (48 + j)) (along (λ j. j) 0 4)) ∷ [])
      ∷ [];
  calls = [];
  mappings = [];
  notes = [];
}

-- kinds, measures and text of every load are those of these trees
pub trees_told : (s : ℕ) → ((in_lists told).trees ≡ (load s).trees) × ((in_lists told).kinds ≡ (load s).kinds) × ((in_lists told).measures ≡ (load s).measures) × ((in_lists told).text ≡ (load s).text)
unfolding
    List.flat_map Tree.list Tree.forest Tree.label Tree.preorder Tree.preorders Tree.text Tree.text_of Tree.measure Tree.children Printed.ascii in_lists pair told
    Load.kind_at Load.measure_at Load.byte_at along load
trees_told s = (refl, refl, refl, refl)

-- ── Four starting numbers ───────────────────────────────────────────────────────────────────────────────────

-- some numbers, added up
unfoldable pub sum : List ℕ → ℕ
sum [] = 0
sum (n ∷ l) = n + sum l

-- draws 1 to 4, calls 0 to 3, calls 31, 32, 33, 64 and 95, the elements of the notes; how many elements are listed in all, how many bytes it has, and their sum
pub record Shown : Type 0 where
  pub draws : List ℕ
  pub first : List Call
  pub later : List Call
  pub noted : List ℕ
  pub listed : ℕ
  pub bytes : ℕ
  pub sum : ℕ

unfoldable pub shown : ℕ → Shown
shown s = record { draws = draws 4 s; first = take 4 (calls s); later = map (λ i. get_or (calls s) i none) (31 ∷ 32 ∷ 33 ∷ 64 ∷ 95 ∷ []); noted = noted s; listed = length (load s).listed; bytes = length (laid_out (load s)); sum = sum (laid_out (load s)) }

-- 0, 1, 255 and the greatest
pub examples : map shown (0 ∷ 1 ∷ 255 ∷ 4294967295 ∷ []) ≡
    (record { draws = 15470 ∷ 18256 ∷ 53708 ∷ 43769 ∷ []; first = call 966 2 278 (786 ∷ []) ∷ call 966 1 280 (770 ∷ []) ∷ call 966 1 93 (771 ∷ []) ∷ call 1141 0 74 (771 ∷ []) ∷ []; later = call 1975 1 375 (780 ∷ []) ∷ call 0 6 0 [] ∷ call 3478 2 498 (775 ∷ []) ∷ call 3267 5 579 (580 ∷ 780 ∷ []) ∷ call 3162 4 768 (773 ∷ 780 ∷ []) ∷ []; noted = 100 ∷ 109 ∷ 294 ∷ 64 ∷ 413 ∷ 448 ∷ 489 ∷ 723 ∷ []; listed = 124; bytes = 8360; sum = 127616 }
    ∷ record { draws = 15496 ∷ 24200 ∷ 33046 ∷ 46195 ∷ []; first = call 968 2 50 (786 ∷ []) ∷ call 968 1 53 (770 ∷ []) ∷ call 968 1 93 (771 ∷ []) ∷ call 1512 0 134 (771 ∷ []) ∷ []; later = call 191 1 313 (778 ∷ []) ∷ call 0 6 0 [] ∷ call 1670 1 521 (775 ∷ []) ∷ call 3376 5 579 (580 ∷ 772 ∷ []) ∷ call 2658 4 768 (779 ∷ 770 ∷ []) ∷ []; noted = 121 ∷ 115 ∷ 359 ∷ 153 ∷ 614 ∷ 557 ∷ 457 ∷ 537 ∷ []; listed = 120; bytes = 8344; sum = 124426 }
    ∷ record { draws = 21947 ∷ 26740 ∷ 27534 ∷ 7014 ∷ []; first = call 1371 2 356 (786 ∷ []) ∷ call 1371 1 359 (770 ∷ []) ∷ call 1371 1 130 (771 ∷ []) ∷ call 1671 2 89 (781 ∷ []) ∷ []; later = call 1797 1 347 (771 ∷ []) ∷ call 0 6 0 [] ∷ call 1294 3 561 [] ∷ call 2525 4 580 (778 ∷ 784 ∷ []) ∷ call 1480 4 765 (779 ∷ 772 ∷ []) ∷ []; noted = 14 ∷ 38 ∷ 99 ∷ 257 ∷ 214 ∷ 38 ∷ 671 ∷ 451 ∷ []; listed = 113; bytes = 8316; sum = 126297 }
    ∷ record { draws = 15445 ∷ 12311 ∷ 8835 ∷ 41343 ∷ []; first = call 965 2 128 (786 ∷ []) ∷ call 965 1 130 (770 ∷ []) ∷ call 965 1 93 (771 ∷ []) ∷ call 769 1 19 (772 ∷ []) ∷ []; later = call 3758 2 51 (782 ∷ []) ∷ call 0 6 0 [] ∷ call 1189 2 480 (775 ∷ []) ∷ call 3157 4 579 (772 ∷ 781 ∷ []) ∷ call 3667 5 765 (765 ∷ 784 ∷ []) ∷ []; noted = 678 ∷ 102 ∷ 401 ∷ 744 ∷ 382 ∷ 169 ∷ 350 ∷ 140 ∷ []; listed = 125; bytes = 8364; sum = 131439 }
    ∷ [])
unfolding
    List.flat_map Words.bytes Words.written Refusals.call_word Writing.sizes_of Writing.seven_sizes Writing.call_words laid_out
    Load.next Load.drawn Load.after draws Load.separator Load.block Load.block_token Load.donor Load.kind_at Load.measure_at Load.byte_at along
    Load.rule_drawn Load.replaced Load.token_drawn Load.donor_drawn Load.other_drawn Load.first_calls Load.free_call Load.own_call Load.call_at Load.calls_from calls noted load sum shown
examples = refl
