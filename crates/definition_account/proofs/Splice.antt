-- One splice: changed elements stay apart, and each element of tree 0 stays accounted for.
-- Assumes nothing.
use Rattle.std.specs.Prelude.{◌≡◌, refl, Bool, true, false, cond, ◌⊎◌, ℕ, zero, suc, ◌+◌, ◌<◌, get_or}
use Rattle.std.proofs.Common.{sym, ap, ◌∙◌, subst, inl, inr, arith, length-append}
use mathlib.Core.List.Memᴰ
use mathlib.Core.List.{List, [], ◌∷◌, ◌++◌, map, append_assoc, append-nil, Memᴰ}
use Rattle.std.proofs.Math.Option.{Option, none, some, bind}
use Rattle.std.proofs.Math.ListN.{length, length-map}
use Rattle.orders.specs.Lists.{All, Pairs, pick}
use Rattle.orders.specs.ListLaws.{bind_some, get_lt, mem_pick, All-map₂, All-pick, Pairs-pick}
use Rattle.orders.specs.Tree.{Path, resolve, adjust, HasRun, front, last}
use Rattle.orders.proofs.TreeLaws.{front_same, last_same, front_last, Origin, kept, came, splice_origin}
use Rattle.definition.specs.Basics.{is_some}
use Rattle.definition.specs.Running.{World, present, Yield, Run, placed, spliced}
use Rattle.definition_laws.specs.Basics.{All-append}
use Rattle.definition_laws.specs.Moves.{Keeps, adjust_keeps}
use Rattle.definition_account.specs.Words.{changed_paths, Under, Aside, Bare, ChangedApart, Went, Covered, Full}
use Rattle.definition_account.proofs.Changed.{filled, spliced_changed}
use Rattle.definition_account.proofs.Moving.{keeps_above, keeps_below, adjust_self, adjust_new}

-- ── Places that are filled ──────────────────────────────────────────────────────────────────────────────────

-- the children from a on, n of them, one by one
filled_all : (Q : Path → Type 0) (q : Path) (a : ℕ) (new : List Yield) → ((i : ℕ) → i < length new → Q (q ++ ((a + i) ∷ []))) → All Q (filled q a new)
unfolding placed
filled_all Q q a [] k = tt
filled_all Q q a (y ∷ new) k =
    let z : a + 0 ≡ a = omega arith in (
      subst (λ (m : ℕ). Q (q ++ (m ∷ []))) z (k 0 (omega arith)),
      filled_all Q q (suc a) new (λ i h. let z : a + suc i ≡ suc a + i = omega arith in subst (λ (m : ℕ). Q (q ++ (m ∷ []))) z (k (suc i) (omega arith))),
    )

-- two children of one parent
children_aside : (q : Path) (i j : ℕ) → i < j → Aside (q ++ (i ∷ [])) (q ++ (j ∷ []))
children_aside q i j h = ((λ u. no i j u.0 u.1 (λ z. omega arith)), λ u. no j i u.0 u.1 (λ z. omega arith))
  where
    no : (i j : ℕ) (r : Path) → q ++ (j ∷ []) ≡ (q ++ (i ∷ [])) ++ r → ¬ (i ≡ j) → ⊥
    no i j [] e f = f (sym (last_same q q j i (e ∙ append-nil (q ++ (i ∷ [])))))
    no i j (k ∷ r) e f = omega (arith, ap length e, length-append q (j ∷ []), length-append (q ++ (i ∷ [])) (k ∷ r), length-append q (i ∷ []))

filled_aside : (q : Path) (a : ℕ) (new : List Yield) → Pairs Aside (filled q a new)
unfolding placed
filled_aside q a [] = tt
filled_aside q a (y ∷ new) = (filled_all (Aside (q ++ (a ∷ []))) q (suc a) new (λ i h. children_aside q a (suc a + i) (omega arith)), filled_aside q (suc a) new)

filled_one : (q : Path) (a : ℕ) (new : List Yield) (i : ℕ) → i < length new → Memᴰ (q ++ ((a + i) ∷ [])) (filled q a new)
unfolding placed
filled_one q a [] i h = absurd (omega arith)
filled_one q a (y ∷ new) zero h = let z : a + 0 ≡ a = omega arith in Memᴰ.head (ap (λ (m : ℕ). q ++ (m ∷ [])) z)
filled_one q a (y ∷ new) (suc i) h =
    let z : suc a + i ≡ a + suc i = omega arith in
    Memᴰ.tail (subst (λ (m : ℕ). Memᴰ (q ++ (m ∷ [])) (filled q (suc a) new)) z (filled_one q (suc a) new i (omega arith)))

-- ── Lists ───────────────────────────────────────────────────────────────────────────────────────────────────

pairs_append : {A : Type 0} (R : A → A → Type 0) (l m : List A) → Pairs R l → Pairs R m → All (λ x. All (R x) m) l → Pairs R (l ++ m)
pairs_append R [] m h k b = k
pairs_append R (x ∷ l) m h k b = (All-append (R x) l m h.0 b.0, pairs_append R l m h.1 k b.1)

all_if : {A : Type 0} (P : A → Type 0) (b : Bool) (l : List A) → All P l → All P (cond b l [])
all_if P true l h = h
all_if P false l h = tt

pairs_if : {A : Type 0} (R : A → A → Type 0) (b : Bool) (l : List A) → Pairs R l → Pairs R (cond b l [])
pairs_if R true l h = h
pairs_if R false l h = tt

get_d_over : {A B : Type 0} (f : A → B) (d : A) (l : List A) (x : ℕ) → get_or (map f l) x (f d) ≡ f (get_or l x d)
get_d_over f d [] x = refl
get_d_over f d (y ∷ l) zero = refl
get_d_over f d (y ∷ l) (suc x) = get_d_over f d l x

-- ── One splice ──────────────────────────────────────────────────────────────────────────────────────────────

module _ (w : World) (r : Run) (new : List Yield) (recorded : Option ℕ) where
  abbrev moves : Path → Option Path
  moves p = adjust r.parent r.from r.to (length new) p

  abbrev next : World
  next = spliced r new recorded w

  moving : Keeps (adjust r.parent r.from r.to (length new))
  moving = adjust_keeps r.parent r.from r.to (length new)

  -- every present path moves
  pub present_spliced : (x : ℕ) → present next x ≡ bind (present w x) (adjust r.parent r.from r.to (length new))
  unfolding present spliced bind
  present_spliced x = get_d_over (λ o. bind o (adjust r.parent r.from r.to (length new))) none w.paths x

  -- so an element that is somewhere then was somewhere before
  pub was_before : (x : ℕ) (p : Path) → present next x ≡ some p → (s : Path) × (present w x ≡ some s) × (moves s ≡ some p)
  was_before x p e = bind_some (present w x) (adjust r.parent r.from r.to (length new)) (sym (present_spliced x) ∙ e)

  -- and one that was where the splice leaves it is there then
  goes_on : (s p : Path) → Went w s → moves s ≡ some p → Went next p
  unfolding bind
  goes_on s p o e = (o.0, present_spliced o.0 ∙ rw o.1 e)

  -- what came to be below a path that stays was below it
  was_under : (c c' p p' : Path) → moves c ≡ some c' → moves p ≡ some p' → Under c' p' → Under c p
  was_under c c' p p' e f u = let (s, y, l) = keeps_below (adjust r.parent r.from r.to (length new)) moving p c c' u.0 (f ∙ ap {B = Option Path} some u.1) e in (s, y)

  stays_bare : (c c' : Path) → moves c ≡ some c' → Bare w c → Bare next c'
  stays_bare c c' e h x p t u = let (s, a, f) = was_before x p t in h x s a (was_under c c' s p e f u)

  stays_aside : (c c' d d' : Path) → moves c ≡ some c' → moves d ≡ some d' → Aside c d → Aside c' d'
  stays_aside c c' d d' e f h = ((λ u. h.0 (was_under c c' d d' e f u)), λ u. h.1 (was_under d d' c c' f e u))

  -- ── What goes in ──

  -- the paths of what goes in and is recorded
  abbrev come : List Path
  come = cond (is_some recorded) (filled r.parent r.from new) []

  come_all : (Q : Path → Type 0) → ((i : ℕ) → i < length new → Q (r.parent ++ ((r.from + i) ∷ []))) → All Q come
  come_all Q f = all_if Q (is_some recorded) (filled r.parent r.from new) (filled_all Q r.parent r.from new f)

  -- of each changed element then: of those that stay, and of those that come
  all_changed : (P Q : Path → Type 0) → ((c c' : Path) → moves c ≡ some c' → P c → Q c') → All P (changed_paths w) → ((i : ℕ) → i < length new → Q (r.parent ++ ((r.from + i) ∷ []))) → All Q (changed_paths next)
  all_changed P Q f h g = subst (All Q) (sym (spliced_changed w r new recorded)) (All-append Q (pick moves (changed_paths w)) come (All-pick moves P Q f (changed_paths w) h) (come_all Q g))

  -- no path comes to be at or below it
  none_comes : (i : ℕ) (s p : Path) → i < length new → moves s ≡ some p → ¬ Under (r.parent ++ ((r.from + i) ∷ [])) p
  none_comes i s p h e u = adjust_new r.from r.to (length new) r.parent s u.0 i h (e ∙ ap {B = Option Path} some (u.1 ∙ append_assoc r.parent ((r.from + i) ∷ []) u.0))

  new_bare : (i : ℕ) → i < length new → Bare next (r.parent ++ ((r.from + i) ∷ []))
  new_bare i h x p t u = let (s, a, e) = was_before x p t in none_comes i s p h e u

  -- an element that stays is above it only if it is at or above the parent
  above_parent : (c c' : Path) (i : ℕ) → i < length new → moves c ≡ some c' → Under c' (r.parent ++ ((r.from + i) ∷ [])) → Under c r.parent
  above_parent c c' i h e ([], z) = absurd (none_comes i c c' h e ([], sym (append-nil c') ∙ (sym z ∙ sym (append-nil (r.parent ++ ((r.from + i) ∷ []))))))
  above_parent c c' i h e (j ∷ s, z) =
      let y : r.parent ++ ((r.from + i) ∷ []) ≡ (c' ++ front (j ∷ s)) ++ (last (j ∷ s) ∷ []) = z ∙ (ap (λ q. c' ++ q) (sym (front_last j s)) ∙ sym (append_assoc c' (front (j ∷ s)) (last (j ∷ s) ∷ []))) in
      was_under c c' r.parent r.parent e (adjust_self r.from r.to (length new) r.parent) (front (j ∷ s), front_same r.parent (c' ++ front (j ∷ s)) (r.from + i) (last (j ∷ s)) y)

  -- the parent is where an element of the batch is, or the node above all trees
  module _ (o : (r.parent ≡ []) ⊎ Went w r.parent) (k : ChangedApart w) where
    clear_parent : (c : Path) → 0 < length c → Bare w c → ¬ Under c r.parent
    clear_parent c l b u = elim o [ inl z ↦ omega (arith, ap length (sym z ∙ u.1), length-append c u.0) | inr z ↦ b z.0 r.parent z.1 u ]

    new_aside : (c c' : Path) → moves c ≡ some c' → (0 < length c) × Bare w c → All (Aside c') come
    new_aside c c' e (l, b) = come_all (Aside c') (λ i h. ((λ u. clear_parent c l b (above_parent c c' i h e u)), none_comes i c c' h e))

    -- changed elements stay apart
    pub spliced_apart : ChangedApart next
    spliced_apart = record {
      long = all_changed (λ c. 0 < length c) (λ c. 0 < length c) (λ c c' e l. omega (arith, moving.size c c' e)) k.long (λ i h. omega (arith, length-append r.parent ((r.from + i) ∷ [])));
      aside =
          subst (Pairs Aside) (sym (spliced_changed w r new recorded))
          (pairs_append Aside (pick moves (changed_paths w)) come (Pairs-pick moves Aside Aside stays_aside (changed_paths w) k.aside) (pairs_if Aside (is_some recorded) (filled r.parent r.from new) (filled_aside r.parent r.from new))
          (All-pick moves (λ c. (0 < length c) × Bare w c) (λ c'. All (Aside c') come) new_aside (changed_paths w) (All-map₂ (λ c l b. (l, b)) (changed_paths w) k.long k.bare)));
      bare = all_changed (Bare w) (Bare next) stays_bare k.bare new_bare;
    }

  -- ── Each element of tree 0 ──

  -- what stays is accounted for as it was
  stays_accounted : (s p : Path) → moves s ≡ some p → Went w s ⊎ Covered w s → Went next p ⊎ Covered next p
  stays_accounted s p e (inl o) = inl (goes_on s p o e)
  stays_accounted s p e (inr c) =
      let (c', t, x, y, l) = keeps_above moves moving c.by c.under.0 p (ap moves (sym c.under.1) ∙ e) in
      inr (record { by = c'; one = subst (Memᴰ c') (sym (spliced_changed w r new recorded)) (Memᴰ.append_left come (mem_pick moves (changed_paths w) c.by c' c.one x)); under = (t, y) })

  -- what comes in is, if it is recorded
  comes_accounted : is_some recorded ≡ true → (i : ℕ) (s p : Path) → i < length new → p ≡ r.parent ++ ((r.from + i) ∷ s) → Covered next p
  comes_accounted e i s p h z = record {
    by = r.parent ++ ((r.from + i) ∷ []);
    one = subst (Memᴰ (r.parent ++ ((r.from + i) ∷ []))) (sym (spliced_changed w r new recorded)) (Memᴰ.append_right (pick moves (changed_paths w)) (rw e (filled_one r.parent r.from new i h)));
    under = (s, z ∙ sym (append_assoc r.parent ((r.from + i) ∷ []) s));
  }

  -- If no path comes into tree 0 from another, and what comes into it is recorded, tree 0 stays accounted for.
  pub spliced_full : HasRun w.trees r.parent r.from r.to → ((s g : Path) → moves s ≡ some (0 ∷ g) → (q : Path) × (s ≡ 0 ∷ q))
      → ((i : ℕ) (s g : Path) → 0 ∷ g ≡ r.parent ++ ((r.from + i) ∷ s) → i < length new → is_some recorded ≡ true) → Full w → Full next
  unfolding spliced
  spliced_full run home put f g v e = at (splice_origin r.from r.to (map (λ y. y.tree) new) r.parent w.trees (0 ∷ g) v run e)
    where
      long : length (map (λ y. y.tree) new) ≡ length new
      long = length-map new (λ y. y.tree)

      at : Origin r.from r.to (map (λ y. y.tree) new) r.parent w.trees (0 ∷ g) v → Went next (0 ∷ g) ⊎ Covered next (0 ∷ g)
      at (kept d u x m z) =
          let m' : moves d ≡ some (0 ∷ g) = ap (λ (n : ℕ). adjust r.parent r.from r.to n d) (sym long) ∙ m in
          let (q, y) = home d g m' in
          stays_accounted d (0 ∷ g) m' (subst (λ (d : Path). Went w d ⊎ Covered w d) (sym y) (f q u (ap (λ d. resolve d w.trees) (sym y) ∙ x)))
      at (came i c s x m z) =
          let h : i < length new = omega (arith, get_lt (map (λ y. y.tree) new) i x, long) in
          inr (comes_accounted (put i s g m h) i s (0 ∷ g) h m)
