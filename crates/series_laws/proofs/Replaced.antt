-- "A replaced root drops all", also where the root is replaced by itself.
-- Assumes nothing.
use Rattle.std.specs.Prelude.{◌≡◌, Bool, not, ◌||◌, ℕ, eqb}
use Rattle.std.proofs.Math.Path.{refl, ap}
use Rattle.std.proofs.Common.{◌∙◌, subst, eqb-true}
use Rattle.std.proofs.Math.Bool.{true, false, or-true}
use mathlib.Core.List.{List, [], ◌∷◌, tail}
use Rattle.std.proofs.Math.Logic.{inl, inr}
use Rattle.std.proofs.Math.Option.{Option, none, some, map, bind}
use Rattle.std.proofs.Math.ListN.{length}
use Rattle.orders.specs.Lists.{any, All, pick}
use Rattle.orders.specs.ListLaws.{bool_absurd, either_true, both_true, pick_none, pick_some}
use Rattle.orders.specs.Tree.{Tree, Path, Run, adjust, front, last}
use Rattle.definition.specs.Basics.{gives}
use Rattle.definition.specs.Elements.{Table, table, row, root?, tree}
use Rattle.definition.specs.Recording.{Change, insert, replace, delete, replace_with_many, replace_all}
use Rattle.definition.specs.Planning.{Planned}
use Rattle.definition.specs.Running.{World, begin, news, place, from_to, step, steps}
use Rattle.definition.specs.Performed.{met}
use Rattle.definition.specs.Answers.{performed, at_first}
use Rattle.definition_laws.specs.Answers.{given}
use Rattle.definition_laws.specs.Kin.{root_is}
use Rattle.definition_laws.specs.Right.{Right, right_sits}
use Rattle.definition_laws.proofs.Limits.{ran_known}
use Rattle.definition_demand.specs.Aims.{replaces_root}
use Rattle.definition_account.specs.Words.{keeps_root}
use Rattle.definition_account.proofs.Account.{ran_performed}
use Rattle.definition_account.specs.Moved.{in0, move_at, moves_of, in_a_row}
use Rattle.definition.specs.Choices.{Choices}
use Rattle.series_laws.specs.Memory.{Bookmark, Memory}
use Rattle.series_laws.specs.Follow.{moves, moved, kept, survivors, Step}
use Rattle.series_laws.proofs.Moves.{In0, in0_head, in0_root, met_next}
use Rattle.series_laws.proofs.Passing.{Done, moves_in0}

-- a move that replaces the root
unfoldable pub at_root : Run × ℕ → Bool
at_root m = elim m.0.parent [ [] ↦ true | t ∷ q ↦ false ]

-- such a move drops every path of tree 0
row_dropped : (ms : List (Run × ℕ)) (e : Path) → All In0 ms → any at_root ms ≡ true → in_a_row ms (0 ∷ e) ≡ none
unfolding any in_a_row bind at_root
row_dropped [] e h r = bool_absurd r refl
row_dropped (m ∷ ms) e h r = elim (either_true (at_root m) (any at_root ms) r) [
  | inl x ↦ ap (λ (o : Option Path). bind o (λ q. in_a_row ms q)) (in0_root m e h.0 (top m.0.parent refl x))
  | inr x ↦ go (adjust m.0.parent m.0.from m.0.to m.1 (0 ∷ e)) refl (λ e. row_dropped ms e h.1 x)
]
  where
    top : (q : Path) → m.0.parent ≡ q → at_root m ≡ true → m.0.parent ≡ []
    top [] z x = z
    top (t ∷ q) z x = bool_absurd x (ap {B = Bool} (λ (q : Path). elim q as (λ q. Bool) [ [] ↦ true | t ∷ q ↦ false ]) z)

    go : (o : Option Path) → adjust m.0.parent m.0.from m.0.to m.1 (0 ∷ e) ≡ o → ((e : Path) → in_a_row ms (0 ∷ e) ≡ none) → bind o (λ q. in_a_row ms q) ≡ none
    go none z r = refl
    go (some q) z r = ap (in_a_row ms) (in0_head m e q h.0 z) ∙ r (tail q)

survivors_dropped : (ms : List (Run × ℕ)) (bs : List Bookmark) → All In0 ms → any at_root ms ≡ true → survivors ms bs ≡ []
unfolding survivors kept moved pick
survivors_dropped ms [] h r = refl
survivors_dropped ms (b ∷ bs) h r = pick_none (kept ms) b bs (ap (λ (o : Option Path). map (λ p. (b.0, p)) (map tail o)) (row_dropped ms b.1 h r)) ∙ survivors_dropped ms bs h r

-- ── Where a root's replacement goes ─────────────────────────────────────────────────────────────────────────

module _ (ts : List (Tree ℕ)) (first : World) where
  abbrev T : Table
  T = table 0 0 ts

  abbrev whole : Run
  whole = record { parent = []; from = 0; to = 1 }

  root_place : (w : World) (c : Change) → Right T c → replaces_root T c ≡ true → place T w c ≡ some whole
  unfolding replaces_root place from_to front last bind
  root_place w (insert p x l) s r = bool_absurd r refl
  root_place w (replace x y) s r =
      let (a, b) = both_true (root? T x) (eqb (tree T x) 0) r in
      let z : (row T x).path ≡ 0 ∷ [] = (root_is ts x (right_sits T (replace x y) s) a).path ∙ ap {B = Path} (λ (t : ℕ). t ∷ []) (eqb-true (tree T x) 0 b) in
      rw (a, z)
  root_place w (delete x) s r = bool_absurd r refl
  root_place w (replace_with_many x l) s r = bool_absurd r refl
  root_place w (replace_all x y l) s r = bool_absurd r refl

  any_more : (m : World × Planned) (ms : List (World × Planned)) → any at_root (pick (move_at T) ms) ≡ true → any at_root (pick (move_at T) (m ∷ ms)) ≡ true
  unfolding any
  any_more m ms r = go (move_at T m) refl
    where
      go : (o : Option (Run × ℕ)) → move_at T m ≡ o → any at_root (pick (move_at T) (m ∷ ms)) ≡ true
      go none e = ap (any at_root) (pick_none (move_at T) m ms e) ∙ r
      go (some x) e = ap (any at_root) (pick_some (move_at T) m ms x e) ∙ (ap (λ (b : Bool). at_root x || b) r ∙ or-true (at_root x))

  steps_root : (ps : List Planned) (w last : World) → All (λ p. Right T p.change) ps → steps T first w ps ≡ gives last → any (λ p. replaces_root T p.change) ps ≡ true → any at_root (pick (move_at T) (met T first w ps)) ≡ true
  unfolding steps any move_at bind in0 at_root
  steps_root [] w last c g r = bool_absurd r refl
  steps_root (p ∷ ps) w last c g r =
      given (step T first w p) _ g λ next a g.
      let more = met_next T first w next p ps a in
      elim (either_true (replaces_root T p.change) (any (λ p. replaces_root T p.change) ps) r) [
        | inl x ↦ ap (λ ms. any at_root (pick (move_at T) ms)) more ∙ ap (any at_root) (pick_some (move_at T) (w, p) (met T first next ps) (whole, length (news p.change)) (rw (root_place w p.change c.0 x)))
        | inr x ↦ ap (λ ms. any at_root (pick (move_at T) ms)) more ∙ any_more (w, p) (met T first next ps) (steps_root ps next last c.1 g x)
      ]

-- A REPLACED ROOT DROPS ALL
pub root_drops : {h : Choices} {m : Memory} {bytes : List ℕ} {s : Step} (d : Done h m bytes s) → keeps_root d.batch.table (performed d.batch d.planned) ≡ false → s.memory.bookmarks ≡ []
unfolding keeps_root moves moves_of at_first
root_drops {h} {m} {bytes} {s} d r =
    let a = d.batch in
    let p = d.planned in
    let w = d.world in
    let H = ran_performed h bytes a p w d.accepts d.plans d.runs in
    let t : a.table ≡ table 0 0 a.trees = (ran_known h bytes a p w d.accepts d.plans d.runs).known.table in
    let some : any (λ q. replaces_root (table 0 0 a.trees) q.change) (performed a p) ≡ true = subst (λ (T : Table). any (λ q. replaces_root T q.change) (performed a p) ≡ true) t (flip (any (λ q. replaces_root a.table q.change) (performed a p)) r) in
    let first = begin a.trees (table 0 0 a.trees) p.notes in
    let there : any at_root (moves_of (table 0 0 a.trees) first (performed a p)) ≡ true = steps_root a.trees first (performed a p) first w H.right H.ran some in
    let told : s.moves ≡ moves_of (table 0 0 a.trees) first (performed a p) = d.moves ∙ ap (λ (T : Table). moves_of T (begin a.trees T p.notes) (performed a p)) t in
    d.bookmarks ∙ survivors_dropped s.moves m.bookmarks (moves_in0 d) (ap (any at_root) told ∙ there)
  where
    flip : (b : Bool) → not b ≡ false → b ≡ true
    flip true e = refl
    flip false e = bool_absurd refl e
