-- THE LAW for code: the definition accepts exactly if `judged` says so, of the words of two trees.
-- Assumes nothing.
use Rattle.std.specs.Prelude.{◌≡◌, Bool, ◌||◌, ◌⊎◌, eqb, length, take, replicate}
use Rattle.std.proofs.Math.Path.{refl, sym}
use Rattle.std.proofs.Common.{ap, ◌∙◌, subst, inr, ⊎_elim, arith, get_or-take}
use Rattle.std.proofs.Math.Bool.{true, false, not}
use mathlib.Core.List.{List, [], ◌∷◌, Memᴰ}
use Rattle.std.proofs.Math.Logic.{inl}
use Rattle.std.proofs.Math.Option.{Option, none, some}
use Prim.Native.Nat.{ℕ, zero, suc, ◌+◌, ◌≤◌, ◌<◌}
use Rattle.std.proofs.Math.ListN.{get_or}
use Rattle.std.proofs.lemmas.List.{length-replicate}
use borrow.Author.Tests.{eqb-true, eq-eqb, ne_eqb}
use Rattle.orders.specs.Lists.{All, Pairs}
use Rattle.orders.specs.ListLaws.{bool_absurd, both_true, some_inj, none_some, lt_or_le, All-map, All-mem, get_zeros}
use Rattle.orders.specs.Tree.{Tree}
use Rattle.definition.specs.Basics.{among}
use Rattle.definition.specs.Elements.{Table, table, row, node?, parent, child, is_node}
use Rattle.definition_laws.specs.Kin.{parent_is}
use Rattle.read_element_table.specs.Told.{element_of}
use Rattle.check_laws.specs.Check.{every, same_bytes, text_at, accepts}
use Rattle.check_laws.specs.ListLaws.{every_all, same_bytes_lem}
use Rattle.check_laws.proofs.Meaning.{Before, ParentsPair, Says, accepts_says, says_accepts, every_mem, bytes_same}
use Rattle.check_laws.proofs.Sweep.{sibling_order}
use Rattle.check_model.specs.Clauses.{entry, part, partnered, fresh, marked, alike, meet, parents_meet, rises, accounted, each, judged_by, judged}
use Rattle.check_model.specs.Pairing.{Within, Apart}
use Rattle.check_model.proofs.Pairing.{same?, mem_partner, partner_mem, fresh_apart, apart_fresh, marks_told, rises_told, told_rises}
use Rattle.check_model.proofs.Rising.{pairs_rise}
use Rattle.check_model.proofs.Covered.{asked_new, asked_kept, says_accounted}
use Rattle.check_model.specs.Table.{Known}

-- ── Tests ───────────────────────────────────────────────────────────────────────────────────────────────────

both_ways : (a b : Bool) → (a ≡ true → b ≡ true) → (b ≡ true → a ≡ true) → a ≡ b
both_ways true b f g = sym (f refl)
both_ways false true f g = g refl
both_ways false false f g = refl

each_told : (p : ℕ → Bool) (i k y : ℕ) → each p i k ≡ true → i ≤ y → y < i + k → p y ≡ true
unfolding each
each_told p i zero y e h l = absurd (omega arith)
each_told p i (suc k) y e h l = let (a, b) = both_true (p i) (each p (suc i) k) e in go a (same? i y) (each_told p (suc i) k y b)
  where
    go : p i ≡ true → (i ≡ y) ⊎ (i ≡ y → ⊥) → (suc i ≤ y → y < suc i + k → p y ≡ true) → p y ≡ true
    go a (inl s) r = ap p (sym s) ∙ a
    go a (inr s) r = r (⊎_elim (λ z. z) (λ z. absurd (s (omega arith))) (lt_or_le i y)) (omega arith)

told_each : (p : ℕ → Bool) (i k : ℕ) → ((y : ℕ) → i ≤ y → y < i + k → p y ≡ true) → each p i k ≡ true
unfolding each
told_each p i zero f = refl
told_each p i (suc k) f = rw (f i (omega arith) (omega arith)) (told_each p (suc i) k (λ y h l. f y (omega arith) (omega arith)))

-- what each element has
all_of : {A : Type 0} (R : A → Type 0) (l : List A) → ((x : A) → Memᴰ x l → R x) → All R l
all_of R [] f = tt
all_of R (x ∷ l) f = (f x (Memᴰ.head refl), all_of R l (λ y h. f y (Memᴰ.tail h)))

-- what the front of a list holds, the list holds
front_holds : (n : ℕ) (w : List ℕ) (y x : ℕ) → get_or (take n w) y 0 ≡ suc x → get_or w y 0 ≡ suc x
front_holds zero w y x e = absurd (omega arith)
front_holds (suc n) [] y x e = e
front_holds (suc n) (a ∷ w) zero x e = e
front_holds (suc n) (a ∷ w) (suc y) x e = front_holds n w y x e

-- ── The law ─────────────────────────────────────────────────────────────────────────────────────────────────

module _ (os ns : List (Tree ℕ)) (old new text text' : List ℕ) (n n' m m' : ℕ) (P : List (ℕ × ℕ)) (changed : List ℕ)
    (K : Known os text n old) (L : Known ns text' n' new)
    (olds : All (λ p. p.0 < n) P) (news : Within n' P) (named : All (λ c. c < n') changed) (room : n' ≤ m) (room' : n' ≤ m') where
  abbrev O : Table
  O = table 0 0 os

  abbrev N : Table
  N = table 0 0 ns

  abbrev z : List ℕ
  z = replicate m 0

  abbrev z' : List ℕ
  z' = replicate m' 0

  abbrev w : List ℕ
  w = partnered z P

  abbrev c : List ℕ
  c = marked z' changed

  long : length z ≡ m
  long = length-replicate m 0

  long' : length z' ≡ m'
  long' = length-replicate m' 0

  within : Within (length z) P
  within = All-map (λ p h. omega (arith, long)) P news

  old_in : (x y : ℕ) → Memᴰ (x, y) P → x < n
  old_in x y h = All-mem (λ p. p.0 < n) P (x, y) olds h

  new_in : (x y : ℕ) → Memᴰ (x, y) P → y < n'
  new_in x y h = All-mem (λ p. p.1 < n') P (x, y) news h

  inside : (x y : ℕ) → Memᴰ (x, y) P → (x < length O) × (y < length N)
  inside x y h = (omega (arith, old_in x y h, K.count), omega (arith, new_in x y h, L.count))

  named' : All (λ y. y < length N) changed
  named' = All-map (λ y h. omega (arith, L.count)) changed named

  up : (y : ℕ) → y < length N → parent N y ≡ element_of (entry new y 3)
  up y h = L.up y (omega (arith, L.count))

  alone : (y : ℕ) → y < length N → parent N y ≡ none → y ≡ 0
  alone y h = L.alone y (omega (arith, L.count))

  pair : (x y : ℕ) → get_or w y 0 ≡ suc x → Memᴰ (x, y) P
  pair x y e = ⊎_elim (λ q. absurd (omega (arith, sym (get_zeros m y) ∙ q))) (λ q. q) (partner_mem P z x y within e)

  mark : (y : ℕ) → eqb (get_or c y 0) 0 ≡ not (among changed y)
  mark y = go (eqb (get_or c y 0) 0) refl (marks_told changed z' y (All-map (λ y h. omega (arith, long')) changed named))
    where
      go : (b : Bool) → eqb (get_or c y 0) 0 ≡ b → (eqb (get_or c y 0) 0 ≡ true → (eqb (get_or z' y 0) 0 ≡ true) × (among changed y ≡ false)) × (eqb (get_or c y 0) 0 ≡ false → (eqb (get_or z' y 0) 0 ≡ false) ⊎ (among changed y ≡ true)) → eqb (get_or c y 0) 0 ≡ not (among changed y)
      go true e t = e ∙ ap not (sym (t.0 e).1)
      go false e t = ⊎_elim (λ q. bool_absurd (eq-eqb (get_or z' y 0) 0 (get_zeros m' y)) q) (λ q. e ∙ ap not (sym q)) (t.1 e)

  -- ── 3 and 4, of one pair ──

  alike_is : (x y : ℕ) → Memᴰ (x, y) P → alike old new text text' (x, y) ≡ true → ((row O x).kind ≡ (row N y).kind) × (node? O x ≡ false → text_at os x ≡ text_at ns y)
  unfolding alike node?
  alike_is x y h e =
      let (a, b) = both_true (eqb (entry old x 0) (entry new y 0)) _ e in
      let k : (row O x).kind ≡ (row N y).kind = sym (K.kind x (old_in x y h)) ∙ (eqb-true (entry old x 0) (entry new y 0) a ∙ L.kind y (new_in x y h)) in
      (k, λ f. sym (K.own x (old_in x y h) f) ∙ (bytes_same _ _ (ap (λ (t : Bool). t || same_bytes (part text (entry old x 1) (entry old x 2)) (part text' (entry new y 1) (entry new y 2))) (sym (ap is_node (K.kind x (old_in x y h)) ∙ f)) ∙ b) ∙ L.own y (new_in x y h) (ap is_node (sym k) ∙ f)))

  is_alike : (x y : ℕ) → Memᴰ (x, y) P → (row O x).kind ≡ (row N y).kind → (node? O x ≡ false → text_at os x ≡ text_at ns y) → alike old new text text' (x, y) ≡ true
  unfolding alike node?
  is_alike x y h k t = rw (eq-eqb (entry old x 0) (entry new y 0) (K.kind x (old_in x y h) ∙ (k ∙ sym (L.kind y (new_in x y h))))) (go (is_node (entry old x 0)) (ap is_node (sym (K.kind x (old_in x y h)))))
    where
      go : (b : Bool) → is_node (row O x).kind ≡ b → (b || same_bytes (part text (entry old x 1) (entry old x 2)) (part text' (entry new y 1) (entry new y 2))) ≡ true
      go true e = refl
      go false e = rw (K.own x (old_in x y h) e, L.own y (new_in x y h) (ap is_node (sym k) ∙ e), t e) (same_bytes_lem (text_at ns y))

  meet_is : (x y : ℕ) → Memᴰ (x, y) P → parents_meet old new w (x, y) ≡ true → ((x ≡ 0) × (y ≡ 0)) ⊎ ParentsPair O N P x y
  unfolding parents_meet meet element_of
  meet_is x y h e = go (entry old x 3) (entry new y 3) (K.up x (old_in x y h)) (L.up y (new_in x y h)) e
    where
      go : (a b : ℕ) → parent O x ≡ element_of a → parent N y ≡ element_of b → meet w a b ≡ true → ((x ≡ 0) × (y ≡ 0)) ⊎ ParentsPair O N P x y
      go zero zero p q t = inl (K.alone x (old_in x y h) p, L.alone y (new_in x y h) q)
      go (suc a) zero p q t = absurd (omega (arith, eqb-true (suc a) 0 t))
      go a (suc b) p q t = let (u, v) = both_true (not (eqb a 0)) (eqb (get_or w b 0) a) t in under a p (not_true' u) (eqb-true (get_or w b 0) a v)
        where
          not_true' : not (eqb a 0) ≡ true → a ≡ 0 → ⊥
          not_true' u s = bool_absurd u (ap not (eq-eqb a 0 s))

          under : (a : ℕ) → parent O x ≡ element_of a → (a ≡ 0 → ⊥) → get_or w b 0 ≡ a → ((x ≡ 0) × (y ≡ 0)) ⊎ ParentsPair O N P x y
          under zero p u v = absurd (u refl)
          under (suc a) p u v = inr (record { old = a; new = b; up = p; up' = q; paired = pair a b v })

  module _ (apart : Apart P) where
    partner : (x y : ℕ) → Memᴰ (x, y) P → get_or w y 0 ≡ suc x
    partner x y h = mem_partner P z x y apart within h

    is_meet : (x y : ℕ) → Memᴰ (x, y) P → ((x ≡ 0) × (y ≡ 0)) ⊎ ParentsPair O N P x y → parents_meet old new w (x, y) ≡ true
    unfolding parents_meet meet element_of
    is_meet x y h k = go (entry old x 3) (entry new y 3) (K.up x (old_in x y h)) (L.up y (new_in x y h)) (before_old (old_in x y h)) (before_new (new_in x y h)) k
      where
        root_of : (a : ℕ) → none ≡ element_of a → a ≡ 0
        root_of zero q = refl
        root_of (suc a) q = none_some q

        before_old : x < n → x ≡ 0 → (a : ℕ) → parent O x ≡ element_of a → a ≡ 0
        before_old l e zero q = refl
        before_old l e (suc a) q = absurd (omega (arith, (parent_is os x a (omega (arith, K.count)) q).before))

        before_new : y < n' → y ≡ 0 → (a : ℕ) → parent N y ≡ element_of a → a ≡ 0
        before_new l e zero q = refl
        before_new l e (suc a) q = absurd (omega (arith, (parent_is ns y a (omega (arith, L.count)) q).before))

        go : (a b : ℕ) → parent O x ≡ element_of a → parent N y ≡ element_of b → (x ≡ 0 → (a : ℕ) → parent O x ≡ element_of a → a ≡ 0) → (y ≡ 0 → (a : ℕ) → parent N y ≡ element_of a → a ≡ 0) → ((x ≡ 0) × (y ≡ 0)) ⊎ ParentsPair O N P x y → meet w a b ≡ true
        go a b p q f g (inl t) = rw (f t.0 a p, g t.1 b q)
        go zero b p q f g (inr k) = none_some (sym p ∙ k.up)
        go (suc a) zero p q f g (inr k) = none_some (sym q ∙ k.up')
        go (suc a) (suc b) p q f g (inr k) =
            let ea : a ≡ k.old = some_inj (sym p ∙ k.up) in
            let eb : b ≡ k.new = some_inj (sym q ∙ k.up') in
            rw (ne_eqb (suc a) 0 (λ s. omega arith)) (eq-eqb (get_or w b 0) (suc a) (ap (λ (j : ℕ). get_or w j 0) eb ∙ (partner k.old k.new k.paired ∙ ap suc (sym ea))))

  -- ── Judged, so accepted ──

  module _ (e : judged old new text text' n' m m' P changed ≡ true) where
    parts : (fresh z P ≡ true) × (eqb (get_or w 0 0) 1 ≡ true) × (every (alike old new text text') P ≡ true) × (every (parents_meet old new w) P ≡ true) × (rises 0 (take n' w) ≡ true) × (each (accounted new w c) 0 n' ≡ true)
    unfolding judged judged_by
    parts =
        let (f, e) = both_true (fresh z P) _ e in
        let (r, e) = both_true (eqb (get_or w 0 0) 1) _ e in
        let (a, e) = both_true (every (alike old new text text') P) _ e in
        let (p, e) = both_true (every (parents_meet old new w) P) _ e in
        let (s, k) = both_true (rises 0 (take n' w)) _ e in
        (f, r, a, p, s, k)

    apart : Apart P
    apart = fresh_apart P z within parts.0

    roots : Memᴰ (0, 0) P
    roots = pair 0 0 (eqb-true (get_or w 0 0) 1 parts.1)

    parents : (x y : ℕ) → Memᴰ (x, y) P → ((x ≡ 0) × (y ≡ 0)) ⊎ ParentsPair O N P x y
    parents x y h = meet_is x y h (every_mem (parents_meet old new w) P (x, y) parts.3 h)

    rising : (x y x' y' : ℕ) → Memᴰ (x, y) P → Memᴰ (x', y') P → y < y' → x < x'
    rising x y x' y' h k l = rises_told (take n' w) 0 y y' x x' parts.4 l (at x y h) (at x' y' k)
      where
        at : (x y : ℕ) → Memᴰ (x, y) P → get_or (take n' w) y 0 ≡ suc x
        at x y h = get_or-take n' w y 0 (new_in x y h) ∙ partner apart x y h

    -- an old element has one new one
    one_new : (x y y' : ℕ) → Memᴰ (x, y) P → Memᴰ (x, y') P → y ≡ y'
    one_new x y y' h k = ⊎_elim (λ q. q) (λ q. absurd (⊎_elim (λ l. omega (arith, rising x y x y' h k l)) (λ l. omega (arith, rising x y' x y k h (⊎_elim (λ j. j) (λ j. absurd (q (omega arith))) (lt_or_le y' y)))) (lt_or_le y y'))) (same? y y')

    olds_apart : Pairs (λ (p q : ℕ × ℕ). p.0 ≡ q.0 → ⊥) P
    olds_apart = go P (λ p h. h) apart
      where
        go : (Q : List (ℕ × ℕ)) → ((p : ℕ × ℕ) → Memᴰ p Q → Memᴰ p P) → Pairs (λ (p q : ℕ × ℕ). p.1 ≡ q.1 → ⊥) Q → Pairs (λ (p q : ℕ × ℕ). p.0 ≡ q.0 → ⊥) Q
        go [] i a = tt
        go (p ∷ Q) i a = (
          all_of (λ q. p.0 ≡ q.0 → ⊥) Q (λ q h t. All-mem (λ q. p.1 ≡ q.1 → ⊥) Q q a.0 h (one_new p.0 p.1 q.1 (i p (Memᴰ.head refl)) (subst (λ (j : ℕ). Memᴰ (j, q.1) P) (sym t) (i q (Memᴰ.tail h))))),
          go Q (λ q h. i q (Memᴰ.tail h)) a.1,
        )

    -- siblings
    order : (x y x' y' : ℕ) → Memᴰ (x, y) P → Memᴰ (x', y') P → Before O x x' → Before N y y'
    order x y x' y' h k b = go (parents x y h) (parents x' y' k)
      where
        no_parent : (x : ℕ) → x < length O → x ≡ 0 → (o : Option ℕ) → parent O x ≡ o → o ≡ none
        no_parent x l t none e = refl
        no_parent x l t (some p) e = absurd (omega (arith, (parent_is os x p l e).before))

        go : ((x ≡ 0) × (y ≡ 0)) ⊎ ParentsPair O N P x y → ((x' ≡ 0) × (y' ≡ 0)) ⊎ ParentsPair O N P x' y' → Before N y y'
        go (inl t) u =
            let same : x' ≡ 0 = K.alone x' (old_in x' y' k) (sym b.0 ∙ no_parent x (inside x y h).0 t.0 (parent O x) refl) in
            absurd (omega (arith, b.1, ap (child O) (t.0 ∙ sym same)))
        go (inr t) (inl u) = absurd (omega (arith, (parent_is os x' t.old (inside x' y' k).0 (sym b.0 ∙ t.up)).before, u.0))
        go (inr t) (inr u) =
            let eo : u.old ≡ t.old = some_inj (sym u.up ∙ (sym b.0 ∙ t.up)) in
            let en : t.new ≡ u.new = one_new t.old t.new u.new t.paired (subst (λ (j : ℕ). Memᴰ (j, u.new) P) eo u.paired) in
            let up : parent N y' ≡ some t.new = u.up' ∙ ap {B = Option ℕ} some (sym en) in
            let l : x < x' = (sibling_order os t.old x x' (parent_is os x t.old (inside x y h).0 t.up) (parent_is os x' t.old (inside x' y' k).0 (sym b.0 ∙ t.up))).0 b.1 in
            (t.up' ∙ sym up, (sibling_order ns t.new y y' (parent_is ns y t.new (inside x y h).1 t.up') (parent_is ns y' t.new (inside x' y' k).1 up)).1 (new_order l))
          where
            new_order : x < x' → y < y'
            new_order l = ⊎_elim (λ j. j) (λ j. absurd (⊎_elim (λ i. omega (arith, rising x' y' x y k h i)) (λ i. same (omega arith)) (lt_or_le y' y))) (lt_or_le y y')
              where
                same : y ≡ y' → ⊥
                same q = omega (arith, sym (partner apart x y h) ∙ (ap (λ (j : ℕ). get_or w j 0) q ∙ partner apart x' y' k))

    asked : (y : ℕ) → y < length N → accounted new w c y ≡ true
    asked y h = each_told (accounted new w c) 0 n' y parts.5 (omega arith) (omega (arith, L.count))

    says : Says os ns P changed
    says = record {
      roots = roots;
      olds = olds_apart;
      news = apart;
      kinds = λ x y h. (alike_is x y h (every_mem (alike old new text text') P (x, y) parts.2 h)).0;
      texts = λ x y h. (alike_is x y h (every_mem (alike old new text text') P (x, y) parts.2 h)).1;
      parents = parents;
      order = order;
      new = asked_new os ns P changed new w c (partner apart) pair mark up alone named' roots parents asked;
      kept = λ x y h. asked_kept os ns P changed new w c (partner apart) pair mark up alone named' roots parents asked x y (inside x y h).1 h;
    }

  -- ── Accepted, so judged ──

  module _ (s : Says os ns P changed) where
    rises_all : rises 0 (take n' w) ≡ true
    rises_all = told_rises (take n' w) 0 (λ y x e. omega arith) (λ y y' x x' l e f. pairs_rise os ns P changed s inside x y x' y' (pair x y (front_holds n' w y x e)) (pair x' y' (front_holds n' w y' x' f)) l)

    says_judged : judged old new text text' n' m m' P changed ≡ true
    unfolding judged judged_by
    says_judged =
        rw (
          apart_fresh P z s.news (all_of (λ q. get_or z q.1 0 ≡ 0) P (λ q h. get_zeros m q.1)),
          eq-eqb (get_or w 0 0) 1 (partner s.news 0 0 s.roots),
          every_all (alike old new text text') P (λ p h. is_alike p.0 p.1 h (s.kinds p.0 p.1 h) (s.texts p.0 p.1 h)),
          every_all (parents_meet old new w) P (λ p h. is_meet s.news p.0 p.1 h (s.parents p.0 p.1 h)),
          rises_all,
          told_each (accounted new w c) 0 n' (λ y h l. says_accounted os ns P changed new w c (partner s.news) pair mark up alone named' s.roots s.new s.kept y (omega (arith, L.count))),
        )

  -- THE LAW
  pub judged_accepts : accepts os ns P changed ≡ judged old new text text' n' m m' P changed
  judged_accepts =
      both_ways (accepts os ns P changed) (judged old new text text' n' m m' P changed)
      (λ e. says_judged (accepts_says os ns P changed (λ x y h. (inside x y h).1) e))
      (λ e. says_accepts os ns P changed (says e))
