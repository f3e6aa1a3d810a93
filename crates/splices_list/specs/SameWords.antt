-- Two orders of the same words: the six words of each splice, in two orders, leave the same words, or are refused by the same number.
-- Assumes nothing.
use Rattle.std.specs.Prelude.{◌≡◌, Result, Bool, true, false, not, ◌&&◌, take, drop, get_or}
use Rattle.std.proofs.Math.Path.{refl, ap}
use Rattle.std.proofs.Common.{sym, ◌∙◌, arith, get_or-take, get_or-drop}
use mathlib.Core.List.Permᴰ
use mathlib.Core.List.{List, [], ◌∷◌, map, Permᴰ}
use Prim.Native.Nat.{ℕ, zero, suc, ◌+◌, ◌*◌, ◌/◌, ◌<◌}
use Rattle.std.proofs.Math.ListN.{length}
use Rattle.orders.specs.Lists.{total}
use Rattle.orders.specs.ListLaws.{total_perm}
use Rattle.orders.specs.Tree.{Tree}
use Rattle.orders.specs.Splices.{Splice, one_go}
use Rattle.orders.proofs.Check.{each, pairs, apart?}
use Rattle.orders.proofs.Parts.{neat}
use Rattle.orders.proofs.Order.{one_go_same, path_same, apart_perm}
use Rattle.definition.specs.Basics.{Answer, gives, ◌>>=◌, refuse}
use Rattle.rows_model.specs.Place.{mark_of}
use Rattle.splices_model.specs.Bounds.{rows_to}
use Rattle.splices_model.specs.Cuts.{paths}
use Rattle.splices_model.specs.Orders.{map_same}
use Rattle.splices_model.specs.Verdict.{tree_rows, limited, roomy}
use Rattle.splices_model.specs.SpliceList.{rows_told, old_tree, splice_at, splices_to, tells_at, suits_at, suits_to, Left, rewritten, splice_list}
use Rattle.splices_model.specs.Found.{suits_apart}
use Rattle.splices_list.specs.Promises.{outcome_of, rows_left, marks_left, Spliced}
use Rattle.splices_model.specs.Refusals.{answered_same}
use Rattle.splices_model.specs.declared.SpliceRefusal.{SpliceRefusal}

-- ── Six words for each splice ───────────────────────────────────────────────────────────────────────────────

-- the six words of each of the first k splices, the last first
unfoldable pub sixes : List ℕ → ℕ → List (List ℕ)
sixes splices zero = []
sixes splices (suc k) = take 6 (drop (6 * k) splices) ∷ sixes splices k

six_get : (s : List ℕ) (k j : ℕ) → j < 6 → get_or (take 6 (drop (6 * k) s)) j 0 ≡ get_or s (6 * k + j) 0
six_get s k j h = get_or-take 6 (drop (6 * k) s) j 0 h ∙ get_or-drop (6 * k) s j 0

six_first : (s : List ℕ) (k : ℕ) → get_or (take 6 (drop (6 * k) s)) 0 0 ≡ get_or s (6 * k) 0
six_first s k = let z : 6 * k + 0 ≡ 6 * k = omega arith in six_get s k 0 (omega arith) ∙ ap (λ (x : ℕ). get_or s x 0) z

module _ (old : Tree ℕ) (e : ℕ) (p : List ℕ) where
  -- a splice, and whether it fits, by its six words
  abbrev by_six : List ℕ → Splice ℕ
  by_six b = splice_at old b p 0

  abbrev suits_six : List ℕ → Bool
  suits_six b = suits_at old e b p 0

  splice_six : (s : List ℕ) (k : ℕ) → splice_at old s p k ≡ by_six (take 6 (drop (6 * k) s))
  unfolding splice_at
  splice_six s k = rw (six_first s k, six_get s k 1 (omega arith), six_get s k 2 (omega arith), six_get s k 3 (omega arith), six_get s k 4 (omega arith), six_get s k 5 (omega arith))

  splices_six : (s : List ℕ) (k : ℕ) → splices_to old s p k ≡ map by_six (sixes s k)
  unfolding splices_to sixes
  splices_six s zero = refl
  splices_six s (suc k) = cc (splice_six s k, splices_six s k)

  suits_six_lem : (s : List ℕ) (k : ℕ) → suits_to old e s p k ≡ each suits_six (sixes s k)
  unfolding suits_to suits_at tells_at sixes each
  suits_six_lem s zero = refl
  suits_six_lem s (suc k) = rw (splice_six s k, suits_six_lem s k, six_get s k 1 (omega arith), six_get s k 4 (omega arith), six_get s k 5 (omega arith))

rows_six : (s : List ℕ) (k : ℕ) → rows_to s k ≡ total (λ b. true) (λ b. get_or b 5 0) (sixes s k)
unfolding rows_to total sixes
rows_six s zero = refl
rows_six s (suc k) = omega (arith, rows_six s k, six_get s k 5 (omega arith))

-- ── In another order ────────────────────────────────────────────────────────────────────────────────────────

each_perm : {X : Type 0} (q : X → Bool) {l m : List X} → Permᴰ l m → each q l ≡ each q m
unfolding each
each_perm q Permᴰ.nil = refl
each_perm q (Permᴰ.cons e d) = rw (e, each_perm q d)
each_perm q (Permᴰ.swap {a = a} {b = b} {l = l} e f) = rw (← e, ← f) (go (q a) (q b))
  where
    go : (x y : Bool) → (x && (y && each q l)) ≡ (y && (x && each q l))
    go true true = refl
    go true false = refl
    go false true = refl
    go false false = refl
each_perm q (Permᴰ.trans d f) = each_perm q d ∙ each_perm q f

-- two tests are the same if the one says yes just where the other does
same_test : (a b : Bool) → (a ≡ true → b ≡ true) → (b ≡ true → a ≡ true) → a ≡ b
same_test true b f g = sym (f refl)
same_test false true f g = g refl
same_test false false f g = refl

-- the last two refusals and the answer are the same if what they ask is
same_answer : (d d' e e' : Bool) (l l' : Left) → d ≡ d' → (d ≡ true → e ≡ e') → (d ≡ true → e ≡ true → l ≡ l')
    → (refuse 4 (not d) >>= λ _. refuse 5 (not e) >>= λ _. gives l) ≡ (refuse 4 (not d') >>= λ _. refuse 5 (not e') >>= λ _. gives l')
unfolding ◌>>=◌ refuse
same_answer true d' true e' l l' f g h = rw (← f, ← g refl, h refl refl)
same_answer true d' false e' l l' f g h = rw (← f, ← g refl)
same_answer false d' e e' l l' f g h = rw (← f)

same_refusals : {a a' b b' : Bool} (c : Bool) {x x' : Answer Left} → a ≡ a' → b ≡ b' → x ≡ x'
    → (refuse 1 (not a) >>= λ _. refuse 2 (not b) >>= λ _. refuse 3 (not c) >>= λ _. x) ≡ (refuse 1 (not a') >>= λ _. refuse 2 (not b') >>= λ _. refuse 3 (not c) >>= λ _. x')
same_refusals c f g h = rw (f, g, h)

module _ (rows marks s s' p : List ℕ) (same : Permᴰ (sixes s (length s / 6)) (sixes s' (length s' / 6))) (long : length s' ≡ length s) where
  sums : rows_to s (length s / 6) ≡ rows_to s' (length s' / 6)
  sums = rows_six s (length s / 6) ∙ (total_perm (λ b. true) (λ b. get_or b 5 0) same ∙ sym (rows_six s' (length s' / 6)))

  module _ (old : Tree ℕ) where
    suits : suits_to old (length marks) s p (length s / 6) ≡ suits_to old (length marks) s' p (length s' / 6)
    suits = suits_six_lem old (length marks) p s (length s / 6) ∙ (each_perm (suits_six old (length marks) p) same ∙ sym (suits_six_lem old (length marks) p s' (length s' / 6)))

    order : Permᴰ (splices_to old s p (length s / 6)) (splices_to old s' p (length s' / 6))
    order = rw (splices_six old (length marks) p s (length s / 6), splices_six old (length marks) p s' (length s' / 6)) (Permᴰ.map (by_six old (length marks) p) same)

    module _ (z : suits_to old (length marks) s p (length s / 6) ≡ true) where
      tests : pairs apart? (splices_to old s p (length s / 6)) ≡ pairs apart? (splices_to old s' p (length s' / 6))
      tests =
          let a = suits_apart old (length marks) s p (length s / 6) z in
          let a' = suits_apart old (length marks) s' p (length s' / 6) (sym suits ∙ z) in
          same_test _ _ (λ x. a'.1 (apart_perm old _ _ order (a.0 x))) (λ x. a.1 (apart_perm old _ _ (Permᴰ.symm order) (a'.0 x)))

      left : pairs apart? (splices_to old s p (length s / 6)) ≡ true
          → rewritten rows old (splices_to old s p (length s / 6)) (3 * (length marks + rows_to s (length s / 6))) ≡ rewritten rows old (splices_to old s' p (length s' / 6)) (3 * (length marks + rows_to s' (length s' / 6)))
      unfolding rewritten
      left x =
          let t : one_go (splices_to old s p (length s / 6)) old ≡ one_go (splices_to old s' p (length s' / 6)) old = one_go_same _ _ order (neat old _ ((suits_apart old (length marks) s p (length s / 6) z).0 x)) old in
          rw (t, sums, map_same _ _ (λ q. ap (mark_of (one_go (splices_to old s' p (length s' / 6)) old)) (path_same _ _ order q)) (paths old))

  -- EVERY ORDER HAS ONE ANSWER: where the words of two lists are the same six by six, but for their order, both are refused by the same number, or both leave the same words
  pub every_order : splice_list rows marks s p ≡ splice_list rows marks s' p
  unfolding splice_list
  every_order =
      let old = old_tree rows (length marks) in
      same_refusals (tree_rows (rows_told (take (3 * length marks) rows))) limits room (same_answer _ _ _ _ _ _ (suits old) (tests old) (left old))
    where
      limits : limited (length marks) s p (length s / 6) ≡ limited (length marks) s' p (length s' / 6)
      limits = unfold limited in rw long

      room : roomy (length rows) (length marks) s (length s / 6) ≡ roomy (length rows) (length marks) s' (length s' / 6)
      room = unfold roomy in rw sums

  -- TWO ORDERS LEAVE THE SAME WORDS: the outcome, every word of the rows slice and every mark are the same
  pub same_every_word : {out marked out' marked' : List ℕ} {r r' : Result ℕ SpliceRefusal} → Spliced rows marks s p out marked r → Spliced rows marks s' p out' marked' r' → (r ≡ r') × (out ≡ out') × (marked ≡ marked')
  same_every_word {r = r} {r' = r'} w w' = (answered_same r r' (w.outcome ∙ (ap outcome_of every_order ∙ sym w'.outcome)), w.result ∙ (ap (rows_left rows) every_order ∙ sym w'.result), w.moved ∙ (ap (marks_left marks) every_order ∙ sym w'.moved))
