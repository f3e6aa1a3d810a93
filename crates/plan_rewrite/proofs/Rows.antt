-- One row rewritten, and all of them.
-- Assumes nothing.
use mathlib.Core.Bool.{Bool, true, false, cond}
use mathlib.Core.List.{List, ◌∷◌}
use mathlib.Core.Option.{Option}
use mathlib.Core.Path.{◌≡◌, refl, sym, ap, ◌∙◌, subst}
use Prim.Native.Nat.{ℕ, zero, suc, ◌+◌, ◌-◌, ◌*◌, ◌≤◌, ◌<◌}
use native.Mathlib.Omega.{arith}
use lib.ListN.{length, get_or, drop}
use lib.Seq.{paste}
use lib.Dec.{eqb}
use borrow.Author.Tests.{eq-eqb, ne_eqb, eqb-true}
use Rattle.orders.specs.ListLaws.{bool_absurd}
use Rattle.definition.specs.Basics.{Answer, refused, gives, ◌>>=◌}
use Rattle.definition.specs.Elements.{Table}
use Rattle.definition.specs.Planning.{own, dependent, discarded, target}
use Rattle.definition.specs.Rewriting.{replacement}
use Rattle.read_element_table.specs.View.{view}
use Rattle.record_changes.specs.ChangeRow.{ChangeRow, row_words, row_of, rows_of}
use Rattle.record_changes.specs.ChangeRowLaws.{row_at, rows_from, row_among}
use Rattle.plan_sort.specs.Rows.{row_fate}
use Rattle.plan_mapping.specs.Mapped.{mapped_by}
use Rattle.record_rewritten.specs.Stated.{new_of, change_of, Dependent, NewEnds, Fated, Rewritable, fate_dependent}
use Rattle.std.specs.Prelude.{Result, Ok, Err}
use Rattle.refusals.specs.declared.Refusal.{Refusal}
use Rattle.refusals.specs.Numbers.{number}
use Rattle.plan_rewrite.specs.declared.Ends.{Ends}
use Rattle.plan_rewrite.specs.Rewritten.{rewrite_into_by, rewrite_under, rewrite_fated, rewrite_at, no_change, rewrite_row, rewrite_rows}
use Rattle.plan_rewrite.proofs.Writing.{row_there, rows_behind}
use Rattle.plan_rewrite.specs.Answers.{ends_by, OwnedEnds, rewritten_by, steps_of, RowRewritten, judged_row, RowsRewritten}

-- the steps of one row
pub few_steps : {want : Answer (ChangeRow × ℕ)} {i : ℕ} {before after : List ℕ} {a : Result ℕ Refusal} {k : ℕ} → RowRewritten want i before after a → a ≡ Ok k → k ≤ 4096
unfolding steps_of
few_steps R q = rw q at R.few

-- ── A dependent ─────────────────────────────────────────────────────────────────────────────────────────────

then_again : {A B C : Type 0} (a : Answer A) (f : A → Answer B) (g : B → Answer C) → ◌>>=◌ {B = C} (◌>>=◌ {B = B} a f) g ≡ ◌>>=◌ {B = C} a (λ x. ◌>>=◌ {B = C} (f x) g)
unfolding ◌>>=◌
then_again (refused n) f g = refl
then_again (gives a) f g = refl

module _ (n : ℕ) (w s m listed : List ℕ) (o r : ChangeRow) (D : Dependent n listed o r) (a : Result Ends Refusal) (O : OwnedEnds n w s m listed o r a) where
  under_by : rewrite_under (view n w s) (mapped_by m) listed (change_of listed o) r ≡ ends_by a >>= judged_row (view n w s) listed r
  unfolding rewrite_under judged_row change_of
  under_by =
      rw (rewrite_into_by (view n w s) (mapped_by m) (target (change_of listed o)) (replacement (change_of listed o)) r.operation r.target r.end (get_or listed r.list 0) (new_of listed r) D.itself.known, O.ends)
      (then_again _ _ _)

  pub dependent_refused : (i : ℕ) (before : List ℕ) (k : Refusal) → a ≡ Err k → RowRewritten (rewrite_under (view n w s) (mapped_by m) listed (change_of listed o) r) i before before (Err k)
  unfolding ends_by rewritten_by steps_of ◌>>=◌
  dependent_refused i before k z = record { row = sym (under_by ∙ rw z); behind = refl; few = omega arith }

  module _ (e : Ends) (z : a ≡ Ok e) where
    pub new_ends : (e.steps ≤ 2 * n) × NewEnds n listed r e.target e.end
    new_ends = let h = rw z at O.within in (h.2, record { elements = D.elements; itself = D.itself; fated = D.fated; target = h.0; end = h.1 })

    pub dependent_written : (i : ℕ) (before after : List ℕ) (q : Result ℕ Refusal) → RowRewritten (judged_row (view n w s) listed r (e.target, e.end, e.steps)) i before after q
        → RowRewritten (rewrite_under (view n w s) (mapped_by m) listed (change_of listed o) r) i before after q
    unfolding ends_by ◌>>=◌
    dependent_written i before after q R = record { row = R.row ∙ sym (under_by ∙ rw z); behind = R.behind; few = R.few }

-- ── One row ─────────────────────────────────────────────────────────────────────────────────────────────────

-- the owner that a dependent names
pub owner_named : (n : ℕ) (listed v : List ℕ) (i f k : ℕ) → Fated n listed v i → f ≡ get_or (drop (14 * i) v) 11 0 → f ≡ 1 → k ≡ get_or (drop (14 * i) v) 12 0 → (k < 256) × Dependent n listed (row_at v k) (row_at v i)
unfolding row_at row_of
owner_named n listed v i f k F q h e = rw e (F.owned (sym q ∙ h))

module _ (n : ℕ) (ws s m listed : List ℕ) (v : List ℕ) (i : ℕ) (f : ℕ) (q : f ≡ get_or (drop (14 * i) v) 11 0) where
  pub at_dependent : (k : ℕ) → f ≡ 1 → k ≡ get_or (drop (14 * i) v) 12 0 → (before after : List ℕ) (r : Result ℕ Refusal)
      → RowRewritten (rewrite_under (view n ws s) (mapped_by m) listed (change_of listed (row_at v k)) (row_at v i)) i before after r
      → RowRewritten (rewrite_at (view n ws s) (mapped_by m) listed v i) i before after r
  unfolding rewrite_at row_at row_of
  at_dependent k h e before after r R = record { row = R.row ∙ sym (rw (eq-eqb (get_or (drop (14 * i) v) 11 0) 1 (sym q ∙ h), ← e)); behind = R.behind; few = R.few }

  other_is : (f ≡ 1 → ⊥) → rewrite_at (view n ws s) (mapped_by m) listed v i ≡ gives (row_at v i, 0)
  unfolding rewrite_at row_at row_of
  other_is h = rw (ne_eqb (get_or (drop (14 * i) v) 11 0) 1 (λ z. h (q ∙ z)))

  pub at_other : (f ≡ 1 → ⊥) → (before after : List ℕ) → after ≡ paste before (14 * i) (row_words (row_at v i)) 14 → 14 * i + 14 ≤ length before
      → RowRewritten (rewrite_at (view n ws s) (mapped_by m) listed v i) i before after (Ok 0)
  unfolding rewritten_by steps_of row_words row_of
  at_other h before after e g =
      let r : List ℕ = row_words (row_at v i) in
      record {
        row = ap {B = Answer (ChangeRow × ℕ)} (λ p. gives (p, 0)) (ap (λ (p : List ℕ). row_at p i) e ∙ row_there before r i g (omega arith)) ∙ sym (other_is h);
        behind = rw e (rows_behind before r i g (omega arith));
        few = omega arith;
      }

-- ── All rows ────────────────────────────────────────────────────────────────────────────────────────────────

module _ (n : ℕ) (T : Table) (mapped : ℕ → Option ℕ) (listed v : List ℕ) (c : ℕ) (R : Rewritable n listed v c) where
  -- a row that is no dependent stays
  other_fate : (rs : List ChangeRow) (r : ChangeRow) → eqb r.fate 1 ≡ false → rewrite_fated T mapped listed rs (row_fate r) r ≡ gives (r, 0)
  unfolding row_fate rewrite_fated
  other_fate rs r q = go (eqb r.fate 1) q (eqb r.fate 0)
    where
      go : (b : Bool) → b ≡ false → (a : Bool) → rewrite_fated T mapped listed rs (cond a own (cond b (dependent r.owner) (discarded r.owner))) r ≡ gives (r, 0)
      go true e a = bool_absurd refl e
      go false e true = refl
      go false e false = refl

  -- the owner is read where it stands
  at_row : (i : ℕ) → i < c → rewrite_row T mapped listed (rows_of c v) (row_at v i) ≡ rewrite_at T mapped listed v i
  unfolding rewrite_row rewrite_at rewrite_fated
  at_row i h = go (eqb (row_at v i).fate 1) refl
    where
      go : (b : Bool) → eqb (row_at v i).fate 1 ≡ b
          → rewrite_fated T mapped listed (rows_of c v) (row_fate (row_at v i)) (row_at v i) ≡ cond b (rewrite_under T mapped listed (change_of listed (row_at v (row_at v i).owner)) (row_at v i)) (gives (row_at v i, 0))
      go true q =
          let f : (row_at v i).fate ≡ 1 = eqb-true (row_at v i).fate 1 q in
          rw (fate_dependent (row_at v i) f, row_among v c (row_at v i).owner no_change (R.owned i h f).0)
      go false q = other_fate (rows_of c v) (row_at v i) q

-- the rows from place i on are rewritten in `out`, by this many steps
pub record Rewriting (n : ℕ) (w s m listed v : List ℕ) (c : ℕ) (out : List ℕ) (i steps : ℕ) : Type 0 where
  pub inside : i ≤ c
  pub long : 14 * c ≤ length out
  pub few : steps ≤ 4096 * (c - i)
  pub rest : rewrite_rows (view n w s) (mapped_by m) listed (rows_of c v) (rows_of (c - i) (drop (14 * i) v)) ≡ gives (rows_of (c - i) (drop (14 * i) out), steps)

module _ (n : ℕ) (w s m listed v : List ℕ) (c : ℕ) where
  abbrev rewrite_from : ℕ → Answer (List ChangeRow × ℕ)
  rewrite_from i = rewrite_rows (view n w s) (mapped_by m) listed (rows_of c v) (rows_of (c - i) (drop (14 * i) v))

  pub rewriting_start : (out : List ℕ) → 14 * c ≤ length out → Rewriting n w s m listed v c out c 0
  unfolding rewrite_rows rows_of
  rewriting_start out h = let e : c - c ≡ 0 = omega arith in record { inside = omega arith; long = h; few = omega arith; rest = rw e }

  pub rewriting_done : (out : List ℕ) (i steps : ℕ) → Rewriting n w s m listed v c out i steps → i ≤ 0 → RowsRewritten n w s m listed v c out (Ok steps)
  unfolding rewritten_by steps_of
  rewriting_done out zero steps Q h =
      let e : c - 0 ≡ c = omega arith in
      record { rows = sym (rw e at Q.rest); few = rw e at Q.few }
  rewriting_done out (suc i) steps Q h = absurd (omega arith)

  -- one more row before those rewritten
  one_before : (j : ℕ) → j < c
      → rewrite_from j ≡ ◌>>=◌ {B = List ChangeRow × ℕ} (rewrite_from (suc j)) (λ l. ◌>>=◌ {B = List ChangeRow × ℕ} (rewrite_row (view n w s) (mapped_by m) listed (rows_of c v) (row_at v j)) (λ q. gives (q.0 ∷ l.0, q.1 + l.1)))
  unfolding rewrite_rows
  one_before j h =
      let e : c - j ≡ suc (c - suc j) = omega arith in
      rw (e, rows_from v j (c - suc j))

  refused_before : (x j : ℕ) → j ≤ c → rewrite_from j ≡ refused x → rewrite_rows (view n w s) (mapped_by m) listed (rows_of c v) (rows_of c v) ≡ refused x
  unfolding ◌>>=◌
  refused_before x zero h q = let e : c - 0 ≡ c = omega arith in rw e at q
  refused_before x (suc j) h q = refused_before x j (omega arith) (one_before j h ∙ rw q)

  module _ (R : Rewritable n listed v c) (out : List ℕ) (steps : ℕ) where
    step_is : (j : ℕ) → Rewriting n w s m listed v c out (suc j) steps → (after : List ℕ) (a : Result ℕ Refusal) → RowRewritten (rewrite_at (view n w s) (mapped_by m) listed v j) j out after a
        → rewrite_from j ≡ ◌>>=◌ {B = List ChangeRow × ℕ} (rewritten_by a (row_at after j)) (λ q. gives (q.0 ∷ rows_of (c - suc j) (drop (14 * suc j) after), q.1 + steps))
    unfolding ◌>>=◌
    step_is j Q after a G = one_before j Q.inside ∙ rw (Q.rest, at_row n (view n w s) (mapped_by m) listed v c R j Q.inside, ← G.row, ← G.behind)

    module _ (i : ℕ) (Q : Rewriting n w s m listed v c out i steps) (h : 0 < i) (after : List ℕ) (a : Result ℕ Refusal) (G : RowRewritten (rewrite_at (view n w s) (mapped_by m) listed v (i - 1)) (i - 1) out after a) where
      here : Rewriting n w s m listed v c out (suc (i - 1)) steps
      here = let e : i ≡ suc (i - 1) = omega arith in subst (λ (p : ℕ). Rewriting n w s m listed v c out p steps) e Q

      pub rewriting_next : (k : ℕ) → a ≡ Ok k → length after ≡ length out → Rewriting n w s m listed v c after (i - 1) (steps + k)
      unfolding rewritten_by steps_of ◌>>=◌
      rewriting_next k z l =
          let j : ℕ = i - 1 in
          let e : c - j ≡ suc (c - suc j) = omega (arith, Q.inside) in
          let f : k ≤ 4096 = rw z at G.few in
          let p : k + steps ≡ steps + k = omega arith in
          record {
            inside = omega (arith, Q.inside);
            long = omega (arith, Q.long);
            few = omega (arith, here.few, f);
            rest = step_is j here after a G ∙ rw (z, e, rows_from after j (c - suc j), p);
          }

      pub rewriting_refused : (x : Refusal) → a ≡ Err x → RowsRewritten n w s m listed v c after (Err x)
      unfolding rewritten_by steps_of ◌>>=◌
      rewriting_refused x z = record { rows = sym (refused_before (number x) (i - 1) (omega (arith, Q.inside)) (step_is (i - 1) here after a G ∙ rw z)); few = omega arith }
