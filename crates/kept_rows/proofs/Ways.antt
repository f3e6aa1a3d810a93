-- Each answer, from what the code knows there.
-- Assumes nothing.
use Rattle.std.specs.Prelude.{Result, Ok, Err, Option as Answered, Some, None}
use Rattle.std.specs.List.{filter}
use mathlib.Core.Bool.{Bool, true, false, cond}
use mathlib.Core.Path.{◌≡◌, refl, sym, ap, ◌∙◌}
use mathlib.Core.List.{List, [], ◌∷◌, ◌++◌, map, flat_map, append-nil}
use mathlib.Core.Option.{Option, none, some}
use Prim.Native.Nat.{ℕ, suc, ◌+◌, ◌*◌, ◌/◌, ◌^◌, ◌≤◌, ◌<◌}
use native.Mathlib.Nat.{zero-add}
use native.Mathlib.Numerals.{add-one}
use native.Mathlib.Omega.{arith}
use lib.ListN.{length, get_or, take, drop, take-append-drop, length-append, length-map}
use lib.Seq.{paste, paste-zero, length-paste, length-take-le, take-suc, take_all}
use borrow.Author.Tests.{lt-ltb, le-ltb}
use Rattle.orders.specs.ListLaws.{map_append}
use Rattle.definition.specs.Basics.{gives, is_some, ◌>>=◌, refuse}
use Rattle.definition.specs.Words.{bytes, written}
use Rattle.definition.specs.Account.{in_room}
use Rattle.words.specs.Bytes.{length_written, written_append}
use Rattle.words.specs.Parts.{paste_paste, paste_swap}
use Rattle.rows_model.specs.Row.{first_rows}
use Rattle.rows_model.specs.Place.{in_run, rows_after}
use Rattle.rows_syntax_node.specs.Promises.{Part}
use Rattle.finish_model.specs.Finished.{first_tree}
use Rattle.finish_model.specs.Numbered.{told, told_some, told_none}
use Rattle.finish_model.proofs.Numbers.{tree_end}
use Rattle.promises.specs.Promises.{left_in}
use Rattle.promises.specs.Keeping.{pair_bytes, pairs_length}
use Rattle.promises.specs.Serving.{outcome, written as bytes_told, Tells}
use Rattle.promises.specs.declared.Told.{Told}
use Rattle.promises.specs.declared.Told.TheVariants.{Bytes}
use Rattle.refusals.specs.Numbers.{number, answered}
use Rattle.refusals.specs.declared.Refusal.{Refusal}
use Rattle.refusals.specs.declared.Refusal.TheVariants.{ShortResult}
use Rattle.kept_rows.specs.Pairs.{pair_at, pair_of, pairs_from, kept_rows, pairs_append}
use Rattle.kept_rows.specs.Promises.{pairs_over, PairWritten, tell_pairs}

-- ── One element ─────────────────────────────────────────────────────────────────────────────────────────────

module _ (end m : ℕ) {r : Answered ℕ} (q : r ≡ told (in_run 1 end m)) where
  none_there : r ≡ None → (x : ℕ) → pair_of end x m ≡ []
  unfolding pair_at
  none_there z x = ap (pair_at x) (told_none (in_run 1 end m) q z)

  one_there : {n : ℕ} → r ≡ Some n → (x : ℕ) → pair_of end x m ≡ (x, n) ∷ []
  unfolding pair_at
  one_there z x = ap (pair_at x) (told_some (in_run 1 end m) q z)

  module _ (olds news x : ℕ) (b : List ℕ) where
    pub written_none : r ≡ None → PairWritten (pair_of end x m) olds news b b 0
    written_none z = rw (none_there z x) (record { bytes = refl; told = paste-zero b news (written []) ∙ ap (λ (l : List ℕ). paste l news (written []) 0) (paste-zero b olds (written [])) })

    one_word : (w : ℕ) → bytes w ≡ written (w ∷ [])
    unfolding written flat_map
    one_word w = sym (append-nil (bytes w))

    module _ {n : ℕ} (z : r ≡ Some n) where
      pub written_one : {b' out : List ℕ} → b' ≡ paste b olds (bytes x) 4 → out ≡ paste b' news (bytes n) 4 → PairWritten (pair_of end x m) olds news b out 4
      written_one {b'} {out} s t = rw (one_there z x) (record { bytes = refl; told = t ∙ (rw (s, one_word x, one_word n) refl) })

      pub room_one : olds + 4 * length (pair_of end x m) ≤ length b → olds + 4 ≤ length b
      room_one l = let e : length (pair_of end x m) ≡ 1 = ap length (one_there z x) in omega arith

      -- the first word leaves room for the second
      pub room_again : (b' : List ℕ) → length b' ≡ length b → news + 4 * length (pair_of end x m) ≤ length b → news + 4 ≤ length b'
      room_again b' s l = let e : length (pair_of end x m) ≡ 1 = ap length (one_there z x) in omega arith

-- ── Counting ────────────────────────────────────────────────────────────────────────────────────────────────

-- one more mark
pairs_next : (end : ℕ) (marks : List ℕ) (i : ℕ) → i < length marks → pairs_from end 0 (take (i + 1) marks) ≡ pairs_from end 0 (take i marks) ++ pair_of end i (get_or marks i 0)
unfolding pairs_from
pairs_next end marks i h =
    let e : 0 + length (take i marks) ≡ i = omega (arith, length-take-le i marks (omega arith)) in
    rw (add-one i, take-suc marks i 0 h, pairs_append end 0 (take i marks) (get_or marks i 0 ∷ []), e, append-nil) refl

-- the pairs of the first marks are no more than all
pairs_few : (end : ℕ) (marks : List ℕ) (i : ℕ) → length (pairs_from end 0 (take i marks)) ≤ length (pairs_from end 0 marks)
pairs_few end marks i =
    omega (arith, ap (λ (l : List ℕ). length (pairs_from end 0 l)) (sym (take-append-drop i marks)) ∙ (ap length (pairs_append end 0 (take i marks) (drop i marks)) ∙ length-append (pairs_from end 0 (take i marks)) (pairs_from end (0 + length (take i marks)) (drop i marks))))

-- nor more than marks
pairs_most : (end x : ℕ) (marks : List ℕ) → length (pairs_from end x marks) ≤ length marks
unfolding pairs_from pair_at
pairs_most end x [] = omega arith
pairs_most end x (m ∷ marks) = omega (arith, length-append (pair_of end x m) (pairs_from end (suc x) marks), one_at_most x (in_run 1 end m), pairs_most end (suc x) marks)
  where
    one_at_most : (x : ℕ) (o : Option ℕ) → length (pair_at x o) ≤ 1
    one_at_most x none = omega arith
    one_at_most x (some n) = omega arith

-- the marks that pass a test are as many as pairs, where the test says whether there is a number
module _ (end : ℕ) (p : ℕ → Bool) (e : (m : ℕ) → p m ≡ is_some (in_run 1 end m)) where
  pub marks_kept : (x : ℕ) (marks : List ℕ) → length {A = ℕ} (filter p marks) ≡ length {A = ℕ × ℕ} (pairs_from end x marks)
  unfolding pairs_from pair_at is_some
  marks_kept x [] = refl
  marks_kept x (m ∷ marks) = go (in_run 1 end m) (p m) (e m) (marks_kept (suc x) marks)
    where
      go : (o : Option ℕ) (b : Bool) → b ≡ is_some o → length {A = ℕ} (filter p marks) ≡ length {A = ℕ × ℕ} (pairs_from end (suc x) marks) → length {A = ℕ} (cond b (m ∷ filter p marks) (filter p marks)) ≡ length {A = ℕ × ℕ} (pair_at x o ++ pairs_from end (suc x) marks)
      go none true q h = let z = q in cc
      go none false q h = h
      go (some n) true q h = omega arith
      go (some n) false q h = let z = q in cc

  pub kept_counted : (marks : List ℕ) {r : ℕ} → r ≡ length {A = ℕ} (filter p marks) → length marks < 2 ^ 16 → (r ≡ length (pairs_from end 0 marks)) × (r < 2 ^ 16)
  kept_counted marks q h = (q ∙ marks_kept 0 marks, omega (arith, q, marks_kept 0 marks, pairs_most end 0 marks))

-- ── Writing ─────────────────────────────────────────────────────────────────────────────────────────────────

module _ (f : ℕ × ℕ → ℕ) where
  column_long : (ps : List (ℕ × ℕ)) → length (written (map f ps)) ≡ 4 * length ps
  column_long ps = length_written (map f ps) ∙ ap (λ (n : ℕ). 4 * n) (length-map ps f)

  column_append : (ps qs : List (ℕ × ℕ)) → written (map f ps) ++ written (map f qs) ≡ written (map f (ps ++ qs))
  column_append ps qs = sym (ap written (map_append f ps qs) ∙ written_append (map f ps) (map f qs))

  -- one column goes on
  column_on : (d : List ℕ) (at to : ℕ) (ps qs : List (ℕ × ℕ)) → to ≡ at + 4 * length ps → to ≤ length d
      → paste (paste d at (written (map f ps)) (4 * length ps)) to (written (map f qs)) (4 * length qs) ≡ paste d at (written (map f (ps ++ qs))) (4 * length (ps ++ qs))
  column_on d at to ps qs e h =
      paste_paste d at (written (map f ps)) (4 * length ps) (written (map f qs)) (4 * length qs) to (4 * length (ps ++ qs)) e (omega (arith, length-append ps qs)) (omega arith) (omega (arith, column_long ps)) (sym (column_long ps))
      ∙ ap (λ (l : List ℕ). paste d at l (4 * length (ps ++ qs))) (column_append ps qs)

-- pairs behind pairs
pairs_on : (d : List ℕ) (half to : ℕ) (ps qs : List (ℕ × ℕ)) → to ≡ 4 * length ps → to + 4 * length qs ≤ half → half + to ≤ length d
    → pairs_over qs to (half + to) (pairs_over ps 0 half d) ≡ pairs_over (ps ++ qs) 0 half d
pairs_on d half to ps qs e h k =
    let O : List ℕ = written (map (λ p. p.0) ps) in
    let N : List ℕ = written (map (λ p. p.1) ps) in
    let o : List ℕ = written (map (λ p. p.0) qs) in
    let n : List ℕ = written (map (λ p. p.1) qs) in
    let P : List ℕ = paste d 0 O (4 * length ps) in
    let Q : List ℕ = paste d 0 (written (map (λ p. p.0) (ps ++ qs))) (4 * length (ps ++ qs)) in
    let lp : length P ≡ length d = length-paste d 0 O (4 * length ps) (omega arith) (omega (arith, column_long (λ p. p.0) ps)) in
    let lq : length Q ≡ length d = length-paste d 0 (written (map (λ p. p.0) (ps ++ qs))) (4 * length (ps ++ qs)) (omega (arith, length-append ps qs)) (omega (arith, column_long (λ p. p.0) (ps ++ qs))) in
    let a : paste (paste P half N (4 * length ps)) to o (4 * length qs) ≡ paste (paste P to o (4 * length qs)) half N (4 * length ps) =
    paste_swap P o N to (4 * length qs) half (4 * length ps) h (omega (arith, lp)) (omega (arith, column_long (λ p. p.0) qs)) in
    let b : paste P to o (4 * length qs) ≡ Q = column_on (λ p. p.0) d 0 to ps qs (omega arith) (omega arith) in
    ap (λ (l : List ℕ). paste l (half + to) n (4 * length qs)) (a ∙ ap (λ (l : List ℕ). paste l half N (4 * length ps)) b)
    ∙ column_on (λ p. p.1) Q half (half + to) ps qs (omega arith) (omega (arith, lq))

-- l is d with the pairs of the first i marks written
pub record Pairing (marks d : List ℕ) (end half : ℕ) (l : List ℕ) (to i : ℕ) : Type 0 where
  pub inside : i ≤ length marks
  pub told : to ≡ 4 * length (pairs_from end 0 (take i marks))
  pub long : length l ≡ length d
  pub copied : l ≡ pairs_over (pairs_from end 0 (take i marks)) 0 half d

pub pairing : (marks d : List ℕ) (end half : ℕ) → Pairing marks d end half d 0 0
unfolding pairs_from
pairing marks d end half = record {
  inside = omega arith;
  told = refl;
  long = refl;
  copied = paste-zero d half (written []) ∙ ap (λ (l : List ℕ). paste l half (written []) 0) (paste-zero d 0 (written []));
}

module _ {marks d : List ℕ} {end half : ℕ} {l : List ℕ} {to i : ℕ} (v : Pairing marks d end half l to i) (q : half ≡ 4 * length (pairs_from end 0 marks)) (room : 2 * half ≤ length d) where
  module _ (h : i < length marks) (m : ℕ) (e : m ≡ get_or marks i 0) where
    more : pairs_from end 0 (take (i + 1) marks) ≡ pairs_from end 0 (take i marks) ++ pair_of end i m
    more = pairs_next end marks i h ∙ ap (λ (n : ℕ). pairs_from end 0 (take i marks) ++ pair_of end i n) (sym e)

    fits : to + 4 * length (pair_of end i m) ≤ half
    fits = omega (arith, v.told, pairs_few end marks (i + 1), ap length more, length-append (pairs_from end 0 (take i marks)) (pair_of end i m))

    pub old_room : to + 4 * length (pair_of end i m) ≤ length l
    old_room = omega (arith, fits, v.long)

    pub new_room : half + to + 4 * length (pair_of end i m) ≤ length l
    new_room = omega (arith, fits, v.long)

    pub pairing_next : {out : List ℕ} {r : ℕ} → length out ≡ length l → PairWritten (pair_of end i m) to (half + to) l out r → Pairing marks d end half out (to + r) (i + 1)
    pairing_next {out} {r} s p = record {
      inside = omega arith;
      told = omega (arith, v.told, p.bytes, ap length more, length-append (pairs_from end 0 (take i marks)) (pair_of end i m));
      long = s ∙ v.long;
      copied = p.told ∙ (ap (pairs_over (pair_of end i m) to (half + to)) v.copied ∙ (pairs_on d half to (pairs_from end 0 (take i marks)) (pair_of end i m) v.told fits (omega (arith, fits)) ∙ ap (λ ps. pairs_over ps 0 half d) (sym more)));
    }

    pub pairing_sum : {out : List ℕ} {r : ℕ} → length marks < 2 ^ 16 → PairWritten (pair_of end i m) to (half + to) l out r → to + r < 2 ^ 64
    pairing_sum k p = omega (arith, fits, p.bytes, q, pairs_most end 0 marks)

  pub pairing_half : i < length marks → length marks < 2 ^ 16 → half + to < 2 ^ 64
  pairing_half h k = omega (arith, fits h (get_or marks i 0) refl, q, pairs_most end 0 marks)

  pub pairing_done : length marks ≤ i → l ≡ paste d 0 (pair_bytes (pairs_from end 0 marks)) (2 * half)
  unfolding pair_bytes
  pairing_done h =
      let ps : List (ℕ × ℕ) = pairs_from end 0 marks in
      let O : List ℕ = written (map (λ p. p.0) ps) in
      let N : List ℕ = written (map (λ p. p.1) ps) in
      v.copied ∙ (ap (λ (m : List ℕ). pairs_over (pairs_from end 0 m) 0 half d) (take_all i marks h)
      ∙ (paste_paste d 0 O (4 * length ps) N (4 * length ps) half (2 * half) (omega arith) (omega arith) (omega arith) (omega (arith, column_long (λ p. p.0) ps)) (sym (column_long (λ p. p.0) ps))
      ∙ ap (λ (b : List ℕ). paste d 0 b (2 * half)) (sym (written_append (map (λ p. p.0) ps) (map (λ p. p.1) ps)))))

-- ── All pairs, or 13 ────────────────────────────────────────────────────────────────────────────────────────

module _ (ps : List (ℕ × ℕ)) (held : List ℕ) {count : ℕ} (e : count ≡ length ps) where
  pub pairs_13 : length held < 8 * count → Tells (tell_pairs (length held) ps) held (Err ShortResult) held
  unfolding in_room refuse outcome bytes_told left_in answered number ◌>>=◌
  pairs_13 h = rw (lt-ltb (length held) (length (pair_bytes ps)) (omega (arith, pairs_length ps))) (record { answer = refl; result = refl })

  pub pairs_given : {out : List ℕ} → 8 * count ≤ length held → out ≡ paste held 0 (pair_bytes ps) (2 * (4 * count)) → Tells (tell_pairs (length held) ps) held (Ok (Bytes (8 * count))) out
  unfolding in_room refuse outcome bytes_told left_in answered number ◌>>=◌
  pairs_given {out} h q =
      let n : 8 * count ≡ length (pair_bytes ps) = omega (arith, pairs_length ps) in
      let m : 2 * (4 * count) ≡ length (pair_bytes ps) = omega (arith, pairs_length ps) in
      rw (le-ltb (length held) (length (pair_bytes ps)) (omega (arith, pairs_length ps)))
      (record { answer = ap (λ (m : ℕ). gives (Bytes m)) n; result = q ∙ (ap (paste held 0 (pair_bytes ps)) m ∙ rw (take_all (length (pair_bytes ps)) (pair_bytes ps) (omega arith), zero-add (length (pair_bytes ps))) refl) })

-- ── Tree 0, before and after ────────────────────────────────────────────────────────────────────────────────

module _ {rows : List ℕ} {n : ℕ} {tree : List ℕ} (p : Part rows n 1 tree) where
  tree_rows : (text : List ℕ) → length tree / 3 ≡ length (first_tree (first_rows text n rows))
  unfolding first_tree
  tree_rows text = omega (arith, p.long text)

-- the marks of the old tree's elements
module _ {source : List ℕ} {c : ℕ} {old : List ℕ} (p : Part source c 1 old) (short : length old + 3 ≤ 3 * c) (marks : List ℕ) (k : c ≤ length marks + 1) where
  pub marks_cut : length old / 3 ≡ length (take (length old / 3) marks)
  marks_cut = sym (length-take-le (length old / 3) marks (omega arith))

  pub marks_few : c ≤ 2 ^ 12 → length (take (length old / 3) marks) < 2 ^ 16
  marks_few l = omega (arith, marks_cut)

  pub kept_told : {rows : List ℕ} {n : ℕ} {new held out : List ℕ} {r : Result Told Refusal} → Part rows n 1 new → Tells (tell_pairs (length held) (pairs_from (length new / 3 + 1) 0 (take (length old / 3) marks))) held r out → (before after : List ℕ)
      → Tells (tell_pairs (length held) (kept_rows (first_rows before c source) (first_rows after n rows) marks)) held r out
  unfolding kept_rows
  kept_told {rows} {n} {new} v t before after =
      let end : length new / 3 + 1 ≡ rows_after (first_rows after n rows) 1 1 = omega (arith, tree_rows v after, tree_end (first_rows after n rows)) in
      rw (← end, ← tree_rows p before) t
