-- Which old paths are dropped: just those that enter a child that some splice deletes, whether or not the splices are apart.
-- Assumes nothing.
use Rattle.std.specs.Prelude.{◌≡◌, refl, ◌⊎◌, ◌↔◌, length}
use Rattle.std.proofs.Math.Path.{sym, ap}
use Rattle.std.proofs.Common.{◌∙◌, arith}
use mathlib.Core.List.Memᴰ
use mathlib.Core.List.{List, [], ◌∷◌, ◌++◌, append_assoc, head-eq_of_cons-eq, append_cancel_left}
use Rattle.std.proofs.Math.Logic.{inl, inr}
use Rattle.std.proofs.Math.Option.{Option, none, some, bind}
use Prim.Native.Nat.{ℕ, suc, ◌≤◌, ◌<◌}
use Rattle.orders.specs.Lists.{All}
use Rattle.orders.specs.ListLaws.{some_inj, none_some, map_some, bind_some, lt_or_le}
use Rattle.orders.specs.Tree.{Path, Run, adjust, front, last}
use Rattle.orders.proofs.TreeLaws.{front_child, last_child}
use Rattle.orders.specs.Splices.{Splice, State, inserted, perform_at, Enters, EntersDeleted}
use Rattle.orders.proofs.Target.{Target, first_child, after_child, children, run_by_target, perform_by_targets}
use Rattle.definition_laws.specs.Moves.{Keeps, adjust_keeps, more_keeps}
use Rattle.definition_account.proofs.Moving.{keeps_above, keeps_below, adjust_none, adjust_inside}

module _ {A : Type 0} (path : Path → Option Path) (k : Keeps path) (s : Splice A) where
  -- where a path through a child of the parent of s goes
  record Through (u : Path) (c : ℕ) (p : Path) : Type 0 where
    number : ℕ
    behind : Path
    at : path (s.parent ++ (c ∷ [])) ≡ some (u ++ (number ∷ []))
    is : p ≡ u ++ (number ∷ behind)

  through : (u : Path) (c : ℕ) (rest p : Path) → path s.parent ≡ some u → path (s.parent ++ (c ∷ rest)) ≡ some p → Through u c p
  through u c rest p e g =
      let (d, t, x, y, l) = keeps_above path k (s.parent ++ (c ∷ [])) rest p (ap path (append_assoc s.parent (c ∷ []) rest) ∙ g) in
      let (u', m, v, z) = k.child s.parent d c x in
      let same : u' ≡ u = some_inj (sym v ∙ e) in
      let is : d ≡ u ++ (m ∷ []) = z ∙ ap (λ w. w ++ (m ∷ [])) same in
      record { number = m; behind = t; at = x ∙ ap {B = Option Path} some is; is = y ∙ (ap (λ w. w ++ t) is ∙ append_assoc u (m ∷ []) t) }

  -- children keep their order, and two are never one
  order_le : (u : Path) (i j x y : ℕ) → i ≤ j → path (s.parent ++ (i ∷ [])) ≡ some (u ++ (x ∷ [])) → path (s.parent ++ (j ∷ [])) ≡ some (u ++ (y ∷ [])) → x ≤ y
  order_le u i j x y h a b = elim (lt_or_le i j) [
    | inl l ↦ let z = k.order s.parent u i j x y l a b in omega arith
    | inr l ↦
        let e : i ≡ j = omega arith in
        let z : u ++ (x ∷ []) ≡ u ++ (y ∷ []) = some_inj (sym a ∙ (ap (λ (m : ℕ). path (s.parent ++ (m ∷ []))) e ∙ b)) in
        let w : x ≡ y = head-eq_of_cons-eq (append_cancel_left u (x ∷ []) (y ∷ []) z) in
        omega arith
  ]

  order_back : (u : Path) (i j x y : ℕ) → x ≤ y → path (s.parent ++ (i ∷ [])) ≡ some (u ++ (x ∷ [])) → path (s.parent ++ (j ∷ [])) ≡ some (u ++ (y ∷ [])) → i ≤ j
  order_back u i j x y h a b = elim (lt_or_le j i) [ inl l ↦ absurd (let z = k.order s.parent u j i y x l b a in omega arith) | inr l ↦ l ]

  -- the run of a target's present children: what drops is what enters the run
  run_drops : (i j : ℕ) (u : Path) (x y n : ℕ) → s.from ≡ i → s.to ≡ suc j → path s.parent ≡ some u → path (s.parent ++ (i ∷ [])) ≡ some (u ++ (x ∷ [])) → path (s.parent ++ (j ∷ [])) ≡ some (u ++ (y ∷ []))
      → (e p : Path) → path e ≡ some p → (adjust u x (suc y) n p ≡ none) ↔ Enters s e
  run_drops i j u x y n a b o f g e p h = (to, from)
    where
      to : adjust u x (suc y) n p ≡ none → Enters s e
      to z =
          let (m, t, w, lo, hi) = adjust_none x (suc y) n u p z in
          let (rest, v, l) = keeps_below path k e s.parent u (m ∷ t) (h ∙ ap {B = Option Path} some w) o in
          go m t w lo hi rest v l
        where
          go : (m : ℕ) (t : Path) → p ≡ u ++ (m ∷ t) → x ≤ m → m < suc y → (rest : Path) → e ≡ s.parent ++ rest → length rest ≡ suc (length t) → Enters s e
          go m t w lo hi [] v l = absurd (omega arith)
          go m t w lo hi (c ∷ rest) v l =
              let q = through u c rest p o (ap path (sym v) ∙ h) in
              let same : q.number ≡ m = head-eq_of_cons-eq (append_cancel_left u (q.number ∷ q.behind) (m ∷ t) (sym q.is ∙ w)) in
              let low = order_back u i c x q.number (omega arith) f q.at in
              let high = order_back u c j q.number y (omega arith) q.at g in
              record { child = c; rest = rest; leads = v; low = omega arith; high = omega arith }

      from : Enters s e → adjust u x (suc y) n p ≡ none
      from z =
          let q = through u z.child z.rest p o (ap path (sym z.leads) ∙ h) in
          let low = order_le u i z.child x q.number (omega (arith, z.low)) f q.at in
          let high = order_le u z.child j q.number y (omega (arith, z.high)) q.at g in
          ap (adjust u x (suc y) n) q.is ∙ adjust_inside x (suc y) n u q.number q.behind (omega arith) (omega arith)

  same_run : {q q' : Path} {a a' b b' : ℕ} → q ≡ q' → a ≡ a' → b ≡ b' → ◌≡◌ {A = Run} (record { parent = q; from = a; to = b }) (record { parent = q'; from = a'; to = b' })
  same_run x y z = cc

  none_drops : (e p : Path) (q : Path) (a n : ℕ) → s.from ≡ s.to → (adjust q a a n p ≡ none) ↔ Enters s e
  none_drops e p q a n h = ((λ z. let (m, t, w, lo, hi) = adjust_none a a n q p z in absurd (omega arith)), λ z. absurd (omega (arith, z.low, z.high)))

  -- what drops where a target tells the run
  pub target_drops : (t : Target s) (r : Run) (n : ℕ) → run_by_target path s t ≡ some r → (e p : Path) → path e ≡ some p → (adjust r.parent r.from r.to n p ≡ none) ↔ Enters s e
  unfolding run_by_target
  target_drops (first_child a b) r n g e p h = let (q, x, y) = map_some _ (path s.parent) g in rw (← y) (none_drops e p q 0 n (a ∙ sym b))
  target_drops (after_child i a b) r n g e p h = let (q, x, y) = map_some _ (path (s.parent ++ (i ∷ []))) g in rw (← y) (none_drops e p (front q) (suc (last q)) n (a ∙ sym b))
  target_drops (children i j l a b) r n g e p h =
      let (q, x, y) = bind_some (path (s.parent ++ (i ∷ []))) _ g in
      let (v, z, w) = map_some _ (path (s.parent ++ (j ∷ []))) y in
      let (u, c, f, d) = k.child s.parent q i x in
      let (u', c', f', d') = k.child s.parent v j z in
      let same : u' ≡ u = some_inj (sym f' ∙ f) in
      at q v u c c' f x d z (d' ∙ ap (λ (m : Path). m ++ (c' ∷ [])) same) r w
    where
      at : (q v u : Path) (c c' : ℕ) → path s.parent ≡ some u → path (s.parent ++ (i ∷ [])) ≡ some q → q ≡ u ++ (c ∷ []) → path (s.parent ++ (j ∷ [])) ≡ some v → v ≡ u ++ (c' ∷ [])
          → (r : Run) → record { parent = front q; from = last q; to = suc (last v) } ≡ r → (adjust r.parent r.from r.to n p ≡ none) ↔ Enters s e
      at q v u c c' f x d z d' r w =
          let run : record { parent = u; from = c; to = suc c' } ≡ r = same_run (sym (ap front d ∙ front_child u c)) (sym (ap last d ∙ last_child u c)) (ap suc (sym (ap last d' ∙ last_child u c'))) ∙ w in
          rw (← run) (run_drops i j u c c' n a b f (x ∙ ap {B = Option Path} some d) (z ∙ ap {B = Option Path} some d') e p h)

-- ── All splices of a list ───────────────────────────────────────────────────────────────────────────────────

module _ {A : Type 0} where
  -- dropped before, or by one of the list
  pub targets_drop : (S : List (Splice A)) (T : All Target S) (now final : State A) → Keeps now.path → perform_by_targets S T now ≡ some final → (e : Path) → (final.path e ≡ none) ↔ ((now.path e ≡ none) ⊎ EntersDeleted S e)
  unfolding perform_by_targets perform_at bind
  targets_drop [] T now final k g e =
      let z : now.path e ≡ final.path e = ap (λ (s : State A). s.path e) (some_inj g) in
      ((λ d. inl (z ∙ d)), λ d. elim d [ inl x ↦ sym z ∙ x | inr x ↦ absurd (Memᴰ.not-nil x.one) ])
  targets_drop (s ∷ S) T now final k g e =
      let (r, x, y) = bind_some (run_by_target now.path s T.0) (λ r. perform_by_targets S T.1 (perform_at r s now)) g in
      one r x (targets_drop S T.1 (perform_at r s now) final (keeps_next r) y e)
    where
      keeps_next : (r : Run) → Keeps (perform_at r s now).path
      keeps_next r = more_keeps now.path (adjust r.parent r.from r.to (inserted s)) k (adjust_keeps r.parent r.from r.to (inserted s))

      tail_in : EntersDeleted S e → EntersDeleted (s ∷ S) e
      tail_in d = record { by = d.by; one = Memᴰ.tail d.one; enters = d.enters }

      head_in : Enters s e → EntersDeleted (s ∷ S) e
      head_in d = record { by = s; one = Memᴰ.head refl; enters = d }

      -- what is dropped by this one
      this : (r : Run) → run_by_target now.path s T.0 ≡ some r → (o : Option Path) → now.path e ≡ o → (bind o (λ p. adjust r.parent r.from r.to (inserted s) p) ≡ none) ↔ ((o ≡ none) ⊎ Enters s e)
      this r x none h = ((λ z. inl refl), λ z. refl)
      this r x (some p) h =
          let (to, from) = target_drops now.path k s T.0 r (inserted s) x e p h in
          ((λ z. inr (to z)), λ z. elim z [ inl y ↦ none_some (sym y) | inr y ↦ from y ])

      one : (r : Run) → run_by_target now.path s T.0 ≡ some r → (final.path e ≡ none) ↔ (((perform_at r s now).path e ≡ none) ⊎ EntersDeleted S e) → (final.path e ≡ none) ↔ ((now.path e ≡ none) ⊎ EntersDeleted (s ∷ S) e)
      one r x ih =
          let (to, from) = this r x (now.path e) refl in (
            (λ z. elim (ih.0 z) [ inl y ↦ elim (to y) [ inl q ↦ inl q | inr q ↦ inr (head_in q) ] | inr y ↦ inr (tail_in y) ]),
            λ z. elim z [ inl y ↦ ih.1 (inl (from (inl y))) | inr y ↦ back y ],
          )
        where
          back : EntersDeleted (s ∷ S) e → final.path e ≡ none
          back d = elim (Memᴰ.cases_cons d.one) [
            | inl q ↦ ih.1 (inl ((this r x (now.path e) refl).1 (inr (rw q at d.enters))))
            | inr q ↦ ih.1 (inr (record { by = d.by; one = q; enters = d.enters }))
          ]
