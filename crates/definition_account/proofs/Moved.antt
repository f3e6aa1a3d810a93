-- A run moves the paths of tree 0 as all its splices and root replacements in a row do, each at its place of that moment (document 02, Note 14).
-- Assumes nothing.
use Rattle.std.specs.Prelude.{◌≡◌, refl, Bool, true, false, ℕ, zero, suc, ◌<◌, eqb, length}
use Rattle.std.proofs.Math.Path.{sym, ap}
use Rattle.std.proofs.Common.{◌∙◌, arith}
use mathlib.Core.List.{List, [], ◌∷◌, map, head_d}
use Rattle.std.proofs.Math.Option
use Rattle.std.proofs.Math.Option.{Option, none, some, bind}
use Rattle.std.proofs.lemmas.List.{length-map}
use Rattle.std.proofs.lemmas.Bool.{eqb-false}
use Rattle.orders.specs.Lists.{All, pick}
use Rattle.orders.specs.ListLaws.{pick_none, pick_some}
use Rattle.orders.specs.Tree.{Tree, Path, adjust}
use Rattle.orders.proofs.TreeLaws.{adjust_out, adjust_shift, shift_before}
use Rattle.definition.specs.Basics.{gives}
use Rattle.definition.specs.Elements.{Table, table, row, tree}
use Rattle.definition.specs.Planning.{Planned}
use Rattle.definition.specs.Rewriting.{Note}
use Rattle.definition.specs.Running.{World, begin, present, yield, news, Run, place, recorded_by, step, steps}
use Rattle.definition.specs.Performed.{met}
use Rattle.definition_laws.specs.Answers.{gives_inj, given}
use Rattle.definition_laws.specs.Spelling.{Worded}
use Rattle.definition_laws.specs.Right.{Right}
use Rattle.definition_account.proofs.Splice.{present_spliced}
use Rattle.definition_account.proofs.Run.{Performs, performs, Kept, step_kept, first_kept, first_present}
use Rattle.definition_account.proofs.Account.{Performed}
use Rattle.definition_account.specs.Moved.{in0, move_at, moves_of, in_a_row}

-- ── The words ───────────────────────────────────────────────────────────────────────────────────────────────

-- ── One step ────────────────────────────────────────────────────────────────────────────────────────────────

-- a run elsewhere leaves the paths of tree 0
elsewhere_stays : (r : Run) (n : ℕ) (e : Path) → in0 r ≡ false → adjust r.parent r.from r.to n (0 ∷ e) ≡ some (0 ∷ e)
unfolding in0
elsewhere_stays r n e h = go r.parent refl h
  where
    positive : (m : ℕ) → ¬ (m ≡ 0) → 0 < m
    positive zero k = absurd (k refl)
    positive (suc m) k = omega arith

    go : (q : Path) → r.parent ≡ q → elim q as (λ q. Bool) [ [] ↦ eqb r.from 0 | t ∷ q ↦ eqb t 0 ] ≡ false → adjust r.parent r.from r.to n (0 ∷ e) ≡ some (0 ∷ e)
    go [] y z = rw y (adjust_shift r.from r.to n 0 e ∙ ap (Option.map (λ j. j ∷ e)) (shift_before r.from r.to n 0 (positive r.from (eqb-false r.from 0 z))))
    go (t ∷ q) y z = rw y (adjust_out r.from r.to n 0 t q e (λ k. eqb-false t 0 z (sym k)))

-- a step moves every present path
step_moves : (T : Table) (first w next : World) (p : Planned) (d : Performs T first w next p) (x : ℕ) → present next x ≡ bind (present w x) (λ s. adjust d.run.parent d.run.from d.run.to (length (news p.change)) s)
step_moves T first w next p d x =
    let r : Run = d.run in
    ap (λ (z : World). present z x) (sym d.leaves) ∙ (present_spliced w r (map (yield first w) (news p.change)) (recorded_by T p) x
    ∙ ap (λ (m : ℕ). bind (present w x) (λ s. adjust r.parent r.from r.to m s)) (length-map (news p.change) (yield first w)))

-- so the row of moves begins with that step, also if it goes elsewhere
row_begins : (T : Table) (w : World) (p : Planned) (r : Run) (ms : List (World × Planned)) (e : Path) → place T w p.change ≡ some r
    → in_a_row (pick (move_at T) ((w, p) ∷ ms)) (0 ∷ e) ≡ bind (adjust r.parent r.from r.to (length (news p.change)) (0 ∷ e)) (λ q. in_a_row (pick (move_at T) ms) q)
unfolding move_at in_a_row bind
row_begins T w p r ms e a = go (in0 r) refl
  where
    go : (b : Bool) → in0 r ≡ b → in_a_row (pick (move_at T) ((w, p) ∷ ms)) (0 ∷ e) ≡ bind (adjust r.parent r.from r.to (length (news p.change)) (0 ∷ e)) (λ q. in_a_row (pick (move_at T) ms) q)
    go true i = ap (λ l. in_a_row l (0 ∷ e)) (pick_some (move_at T) (w, p) ms (r, length (news p.change)) (rw (a, i)))
    go false i = ap (λ l. in_a_row l (0 ∷ e)) (pick_none (move_at T) (w, p) ms (rw (a, i))) ∙ sym (rw (elsewhere_stays r (length (news p.change)) e i))

-- ── All steps ───────────────────────────────────────────────────────────────────────────────────────────────

-- what is lost stays lost
pub steps_lost : (T : Table) (first : World) (ps : List Planned) (w last : World) → steps T first w ps ≡ gives last → (x : ℕ) → present w x ≡ none → present last x ≡ none
unfolding steps bind
steps_lost T first [] w last e x o = ap (λ (z : World). present z x) (sym (gives_inj e)) ∙ o
steps_lost T first (p ∷ ps) w last e x o =
    given (step T first w p) _ e λ next a e.
    let d = performs T first w next p a in
    steps_lost T first ps next last e x (step_moves T first w next p d x ∙ rw o)

met_next : (T : Table) (first w next : World) (p : Planned) (ps : List Planned) → step T first w p ≡ gives next → met T first w (p ∷ ps) ≡ (w, p) ∷ met T first next ps
unfolding met
met_next T first w next p ps e = rw (e, met)

module _ (ts : List (Tree ℕ)) (first : World) (f₀ : Worded first.trees) where
  abbrev T : Table
  T = table 0 0 ts

  pub steps_moved : (ps : List Planned) (w last : World) → Kept ts w → All (λ p. Right T p.change) ps → steps T first w ps ≡ gives last → (x : ℕ) (e : Path) → tree T x ≡ 0 → present w x ≡ some (0 ∷ e)
      → present last x ≡ in_a_row (pick (move_at T) (met T first w ps)) (0 ∷ e)
  unfolding steps met pick in_a_row bind
  steps_moved [] w last k c g x e t o = ap (λ (z : World). present z x) (sym (gives_inj g)) ∙ o
  steps_moved (p ∷ ps) w last k c g x e t o =
      given (step T first w p) _ g λ next a g.
      let k' = (step_kept ts first f₀ w next p k c.0 a).0 in
      let d = performs T first w next p a in
      let r : Run = d.run in
      go next k' g (λ e o. steps_moved ps next last k' c.1 g x e t o) (adjust r.parent r.from r.to (length (news p.change)) (0 ∷ e)) (step_moves T first w next p d x ∙ rw o)
      ∙ sym (ap (λ ms. in_a_row (pick (move_at T) ms) (0 ∷ e)) (met_next T first w next p ps a) ∙ row_begins T w p r (met T first next ps) e d.there)
    where
      go : (next : World) → Kept ts next → steps T first next ps ≡ gives last → ((e : Path) → present next x ≡ some (0 ∷ e) → present last x ≡ in_a_row (pick (move_at T) (met T first next ps)) (0 ∷ e))
          → (o : Option Path) → present next x ≡ o → present last x ≡ bind o (λ q. in_a_row (pick (move_at T) (met T first next ps)) q)
      go next k' g ih none y = steps_lost T first ps next last g x y
      go next k' g ih (some u) y =
          let (q, v) = k'.home x u y in
          let is : u ≡ 0 ∷ q = v ∙ ap {B = Path} (λ (j : ℕ). j ∷ q) t in
          ih q (y ∙ ap {B = Option Path} some is) ∙ ap (λ (u : Path). in_a_row (pick (move_at T) (met T first next ps)) u) (sym is)

-- ── NOTE 14, of one batch ───────────────────────────────────────────────────────────────────────────────────

-- any performed changes move the path of each element of tree 0 "as all its splices and root replacements in a row do"
pub performed_moved : (ts : List (Tree ℕ)) (notes : List Note) (ps : List Planned) (w : World) → Performed ts notes ps w →
    let T = table 0 0 ts in
    (x : ℕ) (e : Path) → x < length T → (row T x).path ≡ 0 ∷ e → present w x ≡ in_a_row (moves_of T (begin ts T notes) ps) (0 ∷ e)
unfolding moves_of tree head_d
performed_moved ts notes ps w h x e l z =
    let T = table 0 0 ts in
    let first = begin ts T notes in
    let k = first_kept ts notes h.worded in
    steps_moved ts first k.follows.worded ps first w k h.right h.ran x e (ap (λ (p : Path). head_d p 0) z) (first_present ts notes x l ∙ ap {B = Option Path} some z)
