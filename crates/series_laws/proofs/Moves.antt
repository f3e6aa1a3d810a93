-- Moves in a row: a bookmark's path stays a path of tree 0; two rows one after the other; a replaced root drops all.
-- Assumes nothing.
use Rattle.std.specs.Prelude.{◌≡◌, Bool, ◌⊎◌, eqb}
use Rattle.std.proofs.Math.Path.{refl, subst}
use Rattle.std.proofs.Common.{sym, ap, ◌∙◌, inl, inr, arith, eqb-true}
use Rattle.std.proofs.Math.Bool.{true, false}
use mathlib.Core.List.{List, [], ◌∷◌, ◌++◌, tail}
use Rattle.std.proofs.Math.Option
use Rattle.std.proofs.Math.Option.{Option, none, some, bind}
use Prim.Native.Nat.{ℕ, suc}
use Rattle.std.proofs.Math.ListN.{length}
use Rattle.orders.specs.Lists.{All, pick}
use Rattle.orders.specs.ListLaws.{some_inj, none_some, map_some, bind_some, pick_none, pick_some}
use Rattle.orders.specs.Tree.{Tree, Path, Run, adjust}
use Rattle.orders.proofs.TreeLaws.{adjust_in, adjust_shift, shift_inside}
use Rattle.definition.specs.Basics.{gives}
use Rattle.definition.specs.Elements.{Table, table}
use Rattle.definition.specs.Planning.{Planned}
use Rattle.definition.specs.Rewriting.{Note}
use Rattle.definition.specs.Running.{World, begin, news, place, step, steps}
use Rattle.definition.specs.Performed.{met}
use Rattle.definition_laws.specs.Answers.{given}
use Rattle.definition_laws.specs.Spelling.{Worded}
use Rattle.definition_laws.specs.Right.{Right, right_sits}
use Rattle.definition_laws.specs.Running.{Follows, follows_begin, place_fits, step_follows}
use Rattle.definition_account.proofs.Run.{performs}
use Rattle.definition_account.proofs.Account.{Performed}
use Rattle.definition_account.specs.Moved.{in0, move_at, moves_of, in_a_row}
use Rattle.series_laws.specs.Memory.{Bookmark}
use Rattle.series_laws.specs.Follow.{moved, kept, survivors}

-- ── Moves of tree 0 ─────────────────────────────────────────────────────────────────────────────────────────

-- a run of children in tree 0, or tree 0 itself
abbrev pub In0 : Run × ℕ → Type 0
In0 m = ((q : Path) × (m.0.parent ≡ 0 ∷ q)) ⊎ ((m.0.parent ≡ []) × (m.0.from ≡ 0) × (m.0.to ≡ 1))

-- one that puts something in place of tree 0 drops its paths
pub in0_root : (m : Run × ℕ) (e : Path) → In0 m → m.0.parent ≡ [] → adjust m.0.parent m.0.from m.0.to m.1 (0 ∷ e) ≡ none
in0_root m e (inl (q, x)) z = absurd (omega (arith, ap length (sym x ∙ z)))
in0_root m e (inr (x, a, b)) z = rw (x, a, b) (adjust_shift 0 1 m.1 0 e ∙ ap (Option.map (λ (j : ℕ). j ∷ e)) (shift_inside 0 1 m.1 0 (omega arith) (omega arith)))

-- what such a move leaves of a path of tree 0 is one
pub in0_head : (m : Run × ℕ) (e q : Path) → In0 m → adjust m.0.parent m.0.from m.0.to m.1 (0 ∷ e) ≡ some q → q ≡ 0 ∷ tail q
in0_head m e q (inl (s, z)) g =
    let (r, a, b) = map_some (λ (r : Path). 0 ∷ r) (adjust s m.0.from m.0.to m.1 e) (sym (adjust_in m.0.from m.0.to m.1 0 0 s e refl) ∙ (ap (λ (s : Path). adjust s m.0.from m.0.to m.1 (0 ∷ e)) (sym z) ∙ g)) in
    sym b ∙ (ap (λ (x : Path). 0 ∷ x) (ap tail b))
in0_head m e q (inr z) g = none_some (sym (in0_root m e (inr z) z.0) ∙ g)

-- and so of all in a row
pub row_head : (ms : List (Run × ℕ)) (e q : Path) → All In0 ms → in_a_row ms (0 ∷ e) ≡ some q → q ≡ 0 ∷ tail q
unfolding in_a_row
row_head [] e q h g = sym (some_inj g) ∙ ap (λ (x : Path). 0 ∷ tail x) (some_inj g)
row_head (m ∷ ms) e q h g =
    let (r, a, b) = bind_some (adjust m.0.parent m.0.from m.0.to m.1 (0 ∷ e)) (λ q. in_a_row ms q) g in
    let z = in0_head m e r h.0 a in
    row_head ms (tail r) q h.1 (ap (in_a_row ms) (sym z) ∙ b)

-- ── Two rows ────────────────────────────────────────────────────────────────────────────────────────────────

pub row_append : (ms ns : List (Run × ℕ)) (p : Path) → in_a_row (ms ++ ns) p ≡ bind (in_a_row ms p) (λ q. in_a_row ns q)
unfolding in_a_row bind
row_append [] ns p = refl
row_append (m ∷ ms) ns p = go (adjust m.0.parent m.0.from m.0.to m.1 p) (λ q. row_append ms ns q)
  where
    go : (o : Option Path) → ((q : Path) → in_a_row (ms ++ ns) q ≡ bind (in_a_row ms q) (λ q. in_a_row ns q)) → bind o (λ q. in_a_row (ms ++ ns) q) ≡ bind (bind o (λ q. in_a_row ms q)) (λ q. in_a_row ns q)
    go none r = refl
    go (some q) r = r q

-- a bookmark's path moves by the one, then by the other
pub moved_append : (ms ns : List (Run × ℕ)) (p : Path) → All In0 ms → moved (ms ++ ns) p ≡ bind (moved ms p) (λ q. moved ns q)
unfolding moved bind
moved_append ms ns p h = ap (Option.map tail) (row_append ms ns (0 ∷ p)) ∙ go (in_a_row ms (0 ∷ p)) refl
  where
    go : (o : Option Path) → in_a_row ms (0 ∷ p) ≡ o → Option.map tail (bind o (λ q. in_a_row ns q)) ≡ bind (Option.map tail o) (λ q. Option.map tail (in_a_row ns (0 ∷ q)))
    go none e = refl
    go (some q) e = ap (λ (x : Path). Option.map tail (in_a_row ns x)) (row_head ms p q h e)

-- and so do bookmarks
pub survivors_append : (ms ns : List (Run × ℕ)) (bs : List Bookmark) → All In0 ms → survivors (ms ++ ns) bs ≡ survivors ns (survivors ms bs)
unfolding survivors kept pick bind
survivors_append ms ns [] h = refl
survivors_append ms ns (b ∷ bs) h = go (moved ms b.1) refl (moved_append ms ns b.1 h) (survivors_append ms ns bs h)
  where
    go : (o : Option Path) → moved ms b.1 ≡ o → moved (ms ++ ns) b.1 ≡ bind (moved ms b.1) (λ q. moved ns q) → survivors (ms ++ ns) bs ≡ survivors ns (survivors ms bs)
        → survivors (ms ++ ns) (b ∷ bs) ≡ survivors ns (survivors ms (b ∷ bs))
    go none e z r =
        pick_none (kept (ms ++ ns)) b bs (ap (Option.map (λ p. (b.0, p))) (z ∙ ap (λ (o : Option Path). bind o (λ q. moved ns q)) e))
        ∙ (r ∙ ap (survivors ns) (sym (pick_none (kept ms) b bs (ap (Option.map (λ p. (b.0, p))) e))))
    go (some q) e z r =
        let y : moved (ms ++ ns) b.1 ≡ moved ns q = z ∙ ap (λ (o : Option Path). bind o (λ q. moved ns q)) e in
        last (moved ns q) refl y
        ∙ ap (survivors ns) (sym (pick_some (kept ms) b bs (b.0, q) (ap (Option.map (λ p. (b.0, p))) e)))
      where
        last : (o : Option Path) → moved ns q ≡ o → moved (ms ++ ns) b.1 ≡ moved ns q → survivors (ms ++ ns) (b ∷ bs) ≡ survivors ns ((b.0, q) ∷ survivors ms bs)
        last none f y =
            pick_none (kept (ms ++ ns)) b bs (ap (Option.map (λ p. (b.0, p))) (y ∙ f))
            ∙ (r ∙ sym (pick_none (kept ns) (b.0, q) (survivors ms bs) (ap (Option.map (λ p. (b.0, p))) f)))
        last (some t) f y =
            pick_some (kept (ms ++ ns)) b bs (b.0, t) (ap (Option.map (λ p. (b.0, p))) (y ∙ f))
            ∙ (ap (λ (l : List Bookmark). (b.0, t) ∷ l) r ∙ sym (pick_some (kept ns) (b.0, q) (survivors ms bs) (b.0, t) (ap (Option.map (λ p. (b.0, p))) f)))

-- ── The moves of performed changes ──────────────────────────────────────────────────────────────────────────

run_in0 : (r : Run) (n : ℕ) → (r.parent ≡ [] → r.to ≡ suc r.from) → in0 r ≡ true → In0 (r, n)
unfolding in0
run_in0 r n h e = go r.parent refl e
  where
    go : (q : Path) → r.parent ≡ q → elim q as (λ q. Bool) [ [] ↦ eqb r.from 0 | t ∷ q ↦ eqb t 0 ] ≡ true → In0 (r, n)
    go [] z y = let f : r.from ≡ 0 = eqb-true r.from 0 y in inr (z, f, h z ∙ ap suc f)
    go (t ∷ q) z y = inl (q, z ∙ ap {B = Path} (λ (s : ℕ). s ∷ q) (eqb-true t 0 y))

pub met_next : (T : Table) (first w next : World) (p : Planned) (ps : List Planned) → step T first w p ≡ gives next → met T first w (p ∷ ps) ≡ (w, p) ∷ met T first next ps
unfolding met
met_next T first w next p ps e = rw (e, met)

module _ (ts : List (Tree ℕ)) (first : World) (f₀ : Worded first.trees) where
  abbrev T : Table
  T = table 0 0 ts

  steps_in0 : (ps : List Planned) (w last : World) → Follows ts w → All (λ p. Right T p.change) ps → steps T first w ps ≡ gives last → All In0 (pick (move_at T) (met T first w ps))
  unfolding steps met pick move_at bind
  steps_in0 [] w last k c g = tt
  steps_in0 (p ∷ ps) w last k c g =
      given (step T first w p) _ g λ next a g.
      let d = performs T first w next p a in
      let fits = place_fits ts w k p.change d.run (right_sits T p.change c.0) d.there in
      subst (λ ms. All In0 (pick (move_at T) ms)) (sym (met_next T first w next p ps a))
      (go d.run d.there (λ z. (fits.roots z).0) (in0 d.run) refl (met T first next ps) (steps_in0 ps next last (step_follows ts first f₀ w next p k c.0 a) c.1 g))
    where
      go : (r : Run) → place T w p.change ≡ some r → (r.parent ≡ [] → r.to ≡ suc r.from) → (b : Bool) → in0 r ≡ b → (ms : List (World × Planned)) → All In0 (pick (move_at T) ms) → All In0 (pick (move_at T) ((w, p) ∷ ms))
      go r x h true e ms l = rw (pick_some (move_at T) (w, p) ms (r, length (news p.change)) (rw (x, e))) (run_in0 r (length (news p.change)) h e, l)
      go r x h false e ms l = rw (pick_none (move_at T) (w, p) ms (rw (x, e))) l

-- each is a move of tree 0
pub performed_in0 : (ts : List (Tree ℕ)) (notes : List Note) (ps : List Planned) (w : World) → Performed ts notes ps w → All In0 (moves_of (table 0 0 ts) (begin ts (table 0 0 ts) notes) ps)
unfolding moves_of
performed_in0 ts notes ps w h =
    let first = begin ts (table 0 0 ts) notes in
    let f = follows_begin ts notes h.worded in
    steps_in0 ts first f.worded ps first w f h.right h.ran
