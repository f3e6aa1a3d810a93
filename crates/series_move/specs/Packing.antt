-- All bookmarks after a run: "survivors keep their order", packed to the front; beyond them what the slots held.
-- Assumes nothing.
use Rattle.std.specs.Prelude.{◌≡◌, refl, List, [], ◌∷◌, ◌++◌, map, ℕ, zero, suc, ◌+◌, ◌-◌, ◌*◌, ◌^◌, ◌≤◌, ◌<◌, length, get_or, set, take, drop}
use Rattle.std.proofs.Common.{sym, ◌∙◌, subst, append_assoc, append-nil, add-one, arith, length-append, length-drop, take-append-drop, length-take-le, take_all, drop-drop}
use Rattle.std.proofs.Math.Path.{ap}
use Rattle.std.proofs.Math.Option.{Option, none, some}
use Rattle.std.proofs.Math.Seq.{paste, take-append-add, drop-append-add}
use Rattle.std.proofs.lemmas.List.Edits.{length-paste, drop-paste}
use Rattle.std.proofs.lemmas.List.{drop-append-le}
use Rattle.orders.specs.Lists.{All, pick}
use Rattle.orders.specs.ListLaws.{map_some, pick_none, pick_some}
use Rattle.orders.specs.Tree.{Path, Run}
use Rattle.definition_laws.specs.Basics.{All-append}
use Rattle.series_laws.proofs.Series.{moved_length}
use Rattle.series_laws.specs.Memory.{Bookmark}
use Rattle.series_laws.specs.Follow.{moved, kept, survivors}
use Rattle.series_laws.specs.Lent.{slot_words, longest_path, slots, slots_in, bookmark_in, bookmark_out, over, slots_out}
use Rattle.series_laws.proofs.ReadBack.{slots_length}
use Rattle.series_check.specs.Slots.{slot_at}
use Rattle.series_move.specs.Kept.{Moves, Leads, Here, put_at, slot_after, Put, front_short}

-- ── What is known, and what is left ─────────────────────────────────────────────────────────────────────────

-- what a run leaves, and k bookmarks of tree 0
pub record Moving (source : List ℕ) (e : ℕ) (marks rows : List ℕ) (n : ℕ) (b : List ℕ) (k : ℕ) : Type 0 where
  pub run : Moves source e marks rows n
  pub found : (i : ℕ) → i < k → Leads run (slot_at b i)

-- the first i bookmarks, as moved
unfoldable pub survivors_to : List (Run × ℕ) → List ℕ → ℕ → List Bookmark
survivors_to ms b i = survivors ms (map bookmark_in (slots i (drop 1 b)))

-- those of b in their slots, and how many they are
pub record Packs (ms : List (Run × ℕ)) (b : List ℕ) (i : ℕ) (out : List ℕ) (to : ℕ) : Type 0 where
  pub count : to ≡ length (survivors_to ms b i)
  pub words : drop 1 out ≡ slots_out (survivors_to ms b i) (drop 1 b)

-- ── Slots ───────────────────────────────────────────────────────────────────────────────────────────────────

slots_snoc : (k : ℕ) (l : List ℕ) → slots (suc k) l ≡ slots k l ++ (take slot_words (drop (slot_words * k) l) ∷ [])
unfolding slots
slots_snoc zero l = refl
slots_snoc (suc k) l =
    let e : slot_words + slot_words * k ≡ slot_words * suc k = omega arith in
    ap {B = List (List ℕ)} (λ (s : List (List ℕ)). take slot_words l ∷ s) (slots_snoc k (drop slot_words l) ∙ ap (λ (d : List ℕ). slots k (drop slot_words l) ++ (take slot_words d ∷ [])) (drop-drop (slot_words * k) slot_words l ∙ ap (λ (a : ℕ). drop a l) e))

map_snoc : (l : List (List ℕ)) (s : List ℕ) → map bookmark_in (l ++ (s ∷ [])) ≡ map bookmark_in l ++ (bookmark_in s ∷ [])
map_snoc [] s = refl
map_snoc (x ∷ l) s = ap {B = List Bookmark} (λ (y : List Bookmark). bookmark_in x ∷ y) (map_snoc l s)

-- one bookmark more, or none
abbrev one : Option Bookmark → List Bookmark
one none = []
one (some c) = c ∷ []

survivors_snoc : (ms : List (Run × ℕ)) (bs : List Bookmark) (b : Bookmark) → survivors ms (bs ++ (b ∷ [])) ≡ survivors ms bs ++ one (kept ms b)
unfolding survivors pick
survivors_snoc ms bs b = go bs
  where
    end : (o : Option Bookmark) → kept ms b ≡ o → pick (kept ms) (b ∷ []) ≡ one o
    end none e = pick_none (kept ms) b [] e
    end (some c) e = pick_some (kept ms) b [] c e

    next : (o : Option Bookmark) (x : Bookmark) (bs : List Bookmark) → kept ms x ≡ o → pick (kept ms) (bs ++ (b ∷ [])) ≡ pick (kept ms) bs ++ one (kept ms b) → pick (kept ms) (x ∷ (bs ++ (b ∷ []))) ≡ pick (kept ms) (x ∷ bs) ++ one (kept ms b)
    next none x bs e r = pick_none (kept ms) x (bs ++ (b ∷ [])) e ∙ (r ∙ ap (λ (l : List Bookmark). l ++ one (kept ms b)) (sym (pick_none (kept ms) x bs e)))
    next (some c) x bs e r = pick_some (kept ms) x (bs ++ (b ∷ [])) c e ∙ (ap {B = List Bookmark} (λ (l : List Bookmark). c ∷ l) r ∙ ap (λ (l : List Bookmark). l ++ one (kept ms b)) (sym (pick_some (kept ms) x bs c e)))

    go : (bs : List Bookmark) → pick (kept ms) (bs ++ (b ∷ [])) ≡ pick (kept ms) bs ++ one (kept ms b)
    go [] = end (kept ms b) refl
    go (x ∷ bs) = next (kept ms x) x bs refl (go bs)

-- the survivors so far, and the next
to_next : (ms : List (Run × ℕ)) (b : List ℕ) (i : ℕ) → survivors_to ms b (suc i) ≡ survivors_to ms b i ++ one (kept ms (bookmark_in (slot_at b i)))
unfolding survivors_to slot_at
to_next ms b i =
    ap (λ (l : List (List ℕ)). survivors ms (map bookmark_in l)) (slots_snoc i (drop 1 b))
    ∙ (ap (survivors ms) (map_snoc (slots i (drop 1 b)) (take slot_words (drop (slot_words * i) (drop 1 b))))
    ∙ (survivors_snoc ms (map bookmark_in (slots i (drop 1 b))) (bookmark_in (take slot_words (drop (slot_words * i) (drop 1 b))))
    ∙ ap (λ (d : List ℕ). survivors ms (map bookmark_in (slots i (drop 1 b))) ++ one (kept ms (bookmark_in (take slot_words d)))) (drop-drop (slot_words * i) 1 b)))

-- a copy behind a front
paste_behind : (x y s : List ℕ) (at n : ℕ) → paste (x ++ y) (length x + at) s n ≡ x ++ paste y at s n
paste_behind x y s at n =
    let e : length x + at + n ≡ length x + (at + n) = omega arith in
    rw (e, take-append-add x y at, drop-append-add x y (at + n), append_assoc x (take at y) (take n s), append_assoc x (take at y ++ take n s) (drop (at + n) y))

-- one bookmark behind those that are there
slots_put : (cs : List Bookmark) (c : Bookmark) (l : List ℕ) → All (λ c. length c.1 ≤ longest_path) cs → length c.1 ≤ longest_path → slot_words * suc (length cs) ≤ length l
    → slots_out (cs ++ (c ∷ [])) l ≡ paste (slots_out cs l) (slot_words * length cs) (bookmark_out c) (2 + length c.1)
unfolding slots_out over bookmark_out
slots_put [] c l h k m =
    let new : List ℕ = c.0 ∷ length c.1 ∷ c.1 in
    let split : drop (length new) (take slot_words l) ++ drop slot_words l ≡ drop (length new) l =
    sym (drop-append-le (length new) (take slot_words l) (drop slot_words l) (omega (arith, length-take-le slot_words l (omega arith)))) ∙ ap (drop (length new)) (take-append-drop slot_words l) in
    let at : length new ≡ slot_words * 0 + (2 + length c.1) = omega arith in
    append_assoc new (drop (length new) (take slot_words l)) (drop slot_words l)
    ∙ (ap (λ (d : List ℕ). new ++ d) split ∙ (ap (λ (d : List ℕ). d ++ drop (length new) l) (sym (take_all (2 + length c.1) new (omega arith))) ∙ ap (λ (a : ℕ). take (2 + length c.1) new ++ drop a l) at))
slots_put (d ∷ cs) c l h k m =
    let x : List ℕ = over (bookmark_out d) (take slot_words l) in
    let long : length x ≡ slot_words =
    omega (arith, slots_length (d ∷ []) l (h.0, tt) (omega arith), length-append x (drop slot_words l), length-drop slot_words l) in
    let e : slot_words * suc (length cs) ≡ length x + slot_words * length cs = omega arith in
    ap (λ (y : List ℕ). x ++ y) (slots_put cs c (drop slot_words l) h.1 k (omega (arith, length-drop slot_words l)))
    ∙ (sym (paste_behind x (slots_out cs (drop slot_words l)) (bookmark_out c) (slot_words * length cs) (2 + length c.1)) ∙ ap (λ (a : ℕ). paste (x ++ slots_out cs (drop slot_words l)) a (bookmark_out c) (2 + length c.1)) (sym e))

-- the words behind the count
paste_below : (b s : List ℕ) (at n : ℕ) → 1 ≤ length b → drop 1 (paste b (1 + at) s n) ≡ paste (drop 1 b) at s n
paste_below [] s at n h = absurd (omega arith)
paste_below (x ∷ b) s at n h = ap (drop 1) (paste_behind (x ∷ []) b s at n)

-- ── One after another ───────────────────────────────────────────────────────────────────────────────────────

-- the first i bookmarks are moved: those that survive stand in the first `to` slots, and the slots from i on are as they were
pub record Packing (source : List ℕ) (e : ℕ) (marks rows : List ℕ) (n : ℕ) (b₀ b : List ℕ) (k i to : ℕ) : Type 0 where
  pub bound : i ≤ k
  pub low : to ≤ i
  pub same : length b ≡ length b₀
  pub rest : drop (1 + 65 * i) b ≡ drop (1 + 65 * i) b₀
  pub told : (v : Moving source e marks rows n b₀ k) → Packs v.run.moves b₀ i b to
  pub short : (v : Moving source e marks rows n b₀ k) → All (λ c. length c.1 ≤ longest_path) (survivors_to v.run.moves b₀ i)

pub packing_start : (source : List ℕ) (e : ℕ) (marks rows : List ℕ) (n : ℕ) (b : List ℕ) (k : ℕ) → Packing source e marks rows n b b k 0 0
unfolding survivors_to survivors slots slots_out pick
packing_start source e marks rows n b k = record { bound = omega arith; low = omega arith; same = refl; rest = refl; told = λ v. record { count = refl; words = refl }; short = λ v. tt }

module _ {source : List ℕ} {e : ℕ} {marks rows : List ℕ} {n : ℕ} {b₀ b : List ℕ} {k i to : ℕ} (p : Packing source e marks rows n b₀ b k i to) where
  pub slot_same : slot_at b i ≡ slot_at b₀ i
  unfolding slot_at
  slot_same = ap (take slot_words) p.rest

  -- the next bookmark is an element of tree 0
  abbrev pub packing_here : Moving source e marks rows n b₀ k → i < k → Here source e marks rows n (slot_at b i)
  packing_here v h = record { run = v.run; found = subst (Leads v.run) (sym slot_same) (v.found i h) }

-- no path of a bookmark that is kept is longer than a slot has room for
kept_short : (ms : List (Run × ℕ)) (s : List ℕ) → get_or s 1 0 ≤ 63 → (c : Bookmark) → kept ms (bookmark_in s) ≡ some c → length c.1 ≤ longest_path
unfolding kept bookmark_in
kept_short ms s h c e =
    let (p, a, b) = map_some (λ (p : Path). ((bookmark_in s).0, p)) (moved ms (bookmark_in s).1) e in
    omega (arith, moved_length ms (bookmark_in s).1 p a, ap (λ (c : Bookmark). length c.1) b, front_short (drop 2 s) h)

-- what was put leaves the slots from the next on
put_beyond : (b : List ℕ) (i to : ℕ) (o : Option Bookmark) {out : List ℕ} {r : ℕ} → to ≤ i → 1 + 65 * (i + 1) ≤ length b → ((c : Bookmark) → o ≡ some c → length c.1 ≤ longest_path) → Put b to o out r
    → (r ≤ i + 1) × (length out ≡ length b) × (drop (1 + 65 * (i + 1)) out ≡ drop (1 + 65 * (i + 1)) b)
unfolding put_at slot_after bookmark_out
put_beyond b i to none l h s q = (omega (arith, q.next), ap length q.words, ap (drop (1 + 65 * (i + 1))) q.words)
put_beyond b i to (some c) {out} l h s q =
    let x = s c refl in
    let new : List ℕ = bookmark_out c in
    let at : ℕ = 1 + slot_words * to in
    let m : ℕ = 2 + length c.1 in
    let g : ℕ = 1 + 65 * (i + 1) - (at + m) in
    let e : at + m + g ≡ 1 + 65 * (i + 1) = omega arith in (
      omega (arith, q.next),
      ap length q.words ∙ length-paste b at new m (omega arith) (omega arith),
      ap (drop (1 + 65 * (i + 1))) q.words
          ∙ (ap (λ (j : ℕ). drop j (paste b at new m)) (sym e) ∙ (sym (drop-drop g (at + m) (paste b at new m)) ∙ (ap (drop g) (drop-paste b at new m (omega arith) (omega arith)) ∙ (drop-drop g (at + m) b ∙ ap (λ (j : ℕ). drop j b) e)))),
    )

-- and is one more behind those that were there
put_packs : (ms : List (Run × ℕ)) (b₀ b : List ℕ) (i to : ℕ) (o : Option Bookmark) {out : List ℕ} {r : ℕ} → kept ms (bookmark_in (slot_at b₀ i)) ≡ o → to ≤ i → 1 + 65 * (i + 1) ≤ length b₀ → length b ≡ length b₀
    → All (λ c. length c.1 ≤ longest_path) (survivors_to ms b₀ i) → ((c : Bookmark) → o ≡ some c → length c.1 ≤ longest_path) → Packs ms b₀ i b to → Put b to o out r → Packs ms b₀ (i + 1) out r
unfolding put_at slot_after
put_packs ms b₀ b i to none {out} {r} e l h z a s p q =
    let is : survivors_to ms b₀ (i + 1) ≡ survivors_to ms b₀ i = rw (add-one i) (to_next ms b₀ i ∙ (ap (λ o. survivors_to ms b₀ i ++ one o) e ∙ append-nil (survivors_to ms b₀ i))) in
    record { count = q.next ∙ (p.count ∙ ap length (sym is)); words = ap (drop 1) q.words ∙ (p.words ∙ ap (λ cs. slots_out cs (drop 1 b₀)) (sym is)) }
put_packs ms b₀ b i to (some c) {out} {r} e l h z a s p q =
    let cs : List Bookmark = survivors_to ms b₀ i in
    let is : survivors_to ms b₀ (i + 1) ≡ cs ++ (c ∷ []) = rw (add-one i) (to_next ms b₀ i ∙ ap (λ o. cs ++ one o) e) in
    let many : length (cs ++ (c ∷ [])) ≡ length cs + 1 = length-append cs (c ∷ []) in
    let n = p.count in
    record {
      count = omega (arith, q.next, ap length is);
      words =
          ap (drop 1) q.words
          ∙ (paste_below b (bookmark_out c) (slot_words * to) (2 + length c.1) (omega arith)
          ∙ (ap (λ (d : List ℕ). paste d (slot_words * to) (bookmark_out c) (2 + length c.1)) p.words
          ∙ (ap (λ (j : ℕ). paste (slots_out cs (drop 1 b₀)) (slot_words * j) (bookmark_out c) (2 + length c.1)) n
          ∙ (sym (slots_put cs c (drop 1 b₀) a (s c refl) (omega (arith, length-drop 1 b₀))) ∙ ap (λ cs. slots_out cs (drop 1 b₀)) (sym is)))));
    }

put_short : (ms : List (Run × ℕ)) (b : List ℕ) (i : ℕ) (o : Option Bookmark) → kept ms (bookmark_in (slot_at b i)) ≡ o → All (λ c. length c.1 ≤ longest_path) (survivors_to ms b i) → ((c : Bookmark) → o ≡ some c → length c.1 ≤ longest_path)
    → All (λ c. length c.1 ≤ longest_path) (survivors_to ms b (i + 1))
put_short ms b i o e a s = rw (add-one i) (subst (All (λ c. length c.1 ≤ longest_path)) (sym (to_next ms b i ∙ ap (λ o. survivors_to ms b i ++ one o) e)) (All-append (λ (c : Bookmark). length c.1 ≤ longest_path) (survivors_to ms b i) (one o) a (go o s)))
  where
    go : (o : Option Bookmark) → ((c : Bookmark) → o ≡ some c → length c.1 ≤ longest_path) → All (λ c. length c.1 ≤ longest_path) (one o)
    go none s = tt
    go (some c) s = (s c refl, tt)

-- one bookmark more
pub packing_next : {source : List ℕ} {e : ℕ} {marks rows : List ℕ} {n : ℕ} {b₀ b : List ℕ} {k i to : ℕ} → Packing source e marks rows n b₀ b k i to → Moving source e marks rows n b₀ k → i < k → 1 + 65 * k ≤ length b₀
    → {out : List ℕ} {r : ℕ} → ((h : Here source e marks rows n (slot_at b i)) → Put b to (kept h.run.moves (bookmark_in (slot_at b i))) out r) → Packing source e marks rows n b₀ out k (i + 1) r
packing_next {source} {e} {marks} {rows} {n} {b₀} {b} {k} {i} {to} p v h room {out} {r} q =
    let is = slot_same p in
    let put : (v : Moving source e marks rows n b₀ k) → Put b to (kept v.run.moves (bookmark_in (slot_at b₀ i))) out r = λ v. subst (λ (s : List ℕ). Put b to (kept v.run.moves (bookmark_in s)) out r) is (q (packing_here p v h)) in
    let s : (v : Moving source e marks rows n b₀ k) (c : Bookmark) → kept v.run.moves (bookmark_in (slot_at b₀ i)) ≡ some c → length c.1 ≤ longest_path = λ v c x. kept_short v.run.moves (slot_at b₀ i) (v.found i h).short c x in
    let z = p.same in
    let (low, same, rest) = put_beyond b i to (kept v.run.moves (bookmark_in (slot_at b₀ i))) p.low (omega arith) (s v) (put v) in
    let f : 1 + 65 * i + 65 ≡ 1 + 65 * (i + 1) = omega arith in
    record {
      bound = omega arith;
      low = low;
      same = same ∙ p.same;
      rest = rest ∙ (ap (λ (j : ℕ). drop j b) (sym f) ∙ (sym (drop-drop 65 (1 + 65 * i) b) ∙ (ap (drop 65) p.rest ∙ (drop-drop 65 (1 + 65 * i) b₀ ∙ ap (λ (j : ℕ). drop j b₀) f))));
      told = λ v. put_packs v.run.moves b₀ b i to (kept v.run.moves (bookmark_in (slot_at b₀ i))) refl p.low (omega arith) p.same (p.short v) (s v) (p.told v) (put v);
      short = λ v. put_short v.run.moves b₀ i (kept v.run.moves (bookmark_in (slot_at b₀ i))) refl (p.short v) (s v);
    }

-- all of them
pub packing_done : {source : List ℕ} {e : ℕ} {marks rows : List ℕ} {n : ℕ} {b₀ b : List ℕ} {k i to : ℕ} → Packing source e marks rows n b₀ b k i to → k ≤ i → (v : Moving source e marks rows n b₀ k) → Packs v.run.moves b₀ k b to
packing_done {b₀ = b₀} {b = b} {k = k} {i = i} {to = to} p h v =
    let is : i ≡ k = omega (arith, p.bound) in
    subst (λ (i : ℕ). Packs v.run.moves b₀ i b to) is (p.told v)

-- ── The slice ───────────────────────────────────────────────────────────────────────────────────────────────

-- lent bookmarks after these moves: how many survive, and those; beyond them what was held
unfoldable pub bookmarks_after : List (Run × ℕ) → List ℕ → List ℕ
bookmarks_after ms b =
    let cs = survivors ms (map bookmark_in (slots_in b)) in
    length cs ∷ slots_out cs (drop 1 b)

-- the count is written last
pub after_told : {source : List ℕ} {e : ℕ} {marks rows : List ℕ} {n : ℕ} (b : List ℕ) {k : ℕ} {out : List ℕ} {to : ℕ} → (k ≡ get_or b 0 0) × (k < 2 ^ 32) → 1 ≤ length out
    → ((v : Moving source e marks rows n b k) → Packs v.run.moves b k out to) → (v : Moving source e marks rows n b (get_or b 0 0)) → set out 0 to ≡ bookmarks_after v.run.moves b
unfolding bookmarks_after slots_in survivors_to
after_told {source} {e} {marks} {rows} {n} b {k} {out} {to} f h q v =
    let p : Packs v.run.moves b (get_or b 0 0) out to = subst (λ (k : ℕ). (v : Moving source e marks rows n b k) → Packs v.run.moves b k out to) f.0 q v in
    front out h ∙ rw (p.words, p.count)
  where
    front : (l : List ℕ) → 1 ≤ length l → set l 0 to ≡ to ∷ drop 1 l
    front [] h = absurd (omega arith)
    front (x ∷ l) h = refl

pub count_moving : {source : List ℕ} {e : ℕ} {marks rows : List ℕ} {n : ℕ} {b : List ℕ} {k : ℕ} → (k ≡ get_or b 0 0) × (k < 2 ^ 32) → Moving source e marks rows n b (get_or b 0 0) → Moving source e marks rows n b k
count_moving {source} {e} {marks} {rows} {n} {b} {k} f v = subst (Moving source e marks rows n b) (sym f.0) v
