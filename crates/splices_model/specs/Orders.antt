-- A list of splices done one after the other, on rows and marks: the state of the law.
-- Assumes nothing.
use Rattle.std.specs.Prelude.{◌≡◌, refl, ℕ, suc, ◌+◌}
use Rattle.std.proofs.Common.{ap, ◌∙◌, arith}
use mathlib.Core.List.{List, [], ◌∷◌, map, reverse_aux}
use Rattle.orders.specs.Tree.{Tree, Run}
use Rattle.orders.specs.Splices.{Splice, State, perform, performs, start, deleted, one_go, AllApart}
use Rattle.orders.proofs.Paths.{one_go_path}
use Rattle.orders.proofs.Step.{apart_rest}
use Rattle.orders.proofs.Done.{After, ready, perform_after, begin_after}
use Rattle.rows_model.specs.Row.{rows_of, first_rows}
use Rattle.rows_model.specs.Place.{mark_of}
use Rattle.splices_model.specs.Cuts.{cuts_to, paths, Holds, Told, state_of}
use Rattle.splices_model.specs.Step.{Due, told_before}

-- the state that a list leaves is what the one go makes of it
pub state_after : (old : Tree ℕ) (D : List (Splice ℕ)) → AllApart old D → After old D (state_of old D)
unfolding state_of
state_after old [] h = begin_after old
state_after old (s ∷ D) h = perform_after old D s (state_of old D) h (state_after old D (apart_rest old s D h))

-- the next splice of an apart list has its run there
pub next_due : (old : Tree ℕ) (D : List (Splice ℕ)) (s : Splice ℕ) → AllApart old (s ∷ D) → (r : Run) × Due (state_of old D) s r
next_due old D s h =
    let k = ready old D s (state_of old D) h (state_after old D (apart_rest old s D h)) in
    (record { parent = k.q; from = start D s; to = start D s + deleted s }, record { run = k.run; has = k.has })

-- the list in the order in which it is done
pub performs_state : (old : Tree ℕ) (S D : List (Splice ℕ)) → performs S (state_of old D) ≡ state_of old (reverse_aux S D)
unfolding performs state_of
performs_state old [] D = refl
performs_state old (s ∷ S) D = performs_state old S (s ∷ D)

pub map_same : {X Y : Type 0} (f g : X → Y) → ((x : X) → f x ≡ g x) → (l : List X) → map f l ≡ map g l
map_same f g h [] = refl
map_same f g h (x ∷ l) = cc (h x, map_same f g h l)

-- rows and marks that hold the state of an apart list hold the one-go tree, and where it writes each old element (0 where it deletes it)
pub one_go_rows : (text : List ℕ) (old : Tree ℕ) (D : List (Splice ℕ)) (rows : List ℕ) (n : ℕ) (marks : List ℕ) → AllApart old D → Holds text old (state_of old D) rows n marks
    → (first_rows text n rows ≡ rows_of (one_go D old)) × (marks ≡ map (λ e. mark_of (one_go D old) (one_go_path D e)) (paths old))
one_go_rows text old D rows n marks h w =
    let a = state_after old D h in
    (w.tree ∙ ap rows_of a.tree, w.marked ∙ map_same _ _ (λ e. cc (a.tree, a.path e)) (paths old))

-- one splice more: where each step holds the law's, the list does
pub one_more : (text : List ℕ) (old : Tree ℕ) (splices prepared : List ℕ) (k : ℕ) (rows : List ℕ) (n : ℕ) (marks out : List ℕ) (r : ℕ) (marked : List ℕ)
    → ((D : List (Splice ℕ)) → Told text old splices prepared k D → AllApart old D → Holds text old (state_of old D) rows n marks)
    → ((now : State ℕ) (s : Splice ℕ) (run : Run) → Holds text old now rows n marks → Told text old splices prepared (suc k) (s ∷ now.done) → Due now s run → Holds text old (perform s now) out r marked)
    → (D : List (Splice ℕ)) → Told text old splices prepared (suc k) D → AllApart old D → Holds text old (state_of old D) out r marked
unfolding state_of cuts_to
one_more text old splices prepared k rows n marks out r marked before step [] t h = let z : ◌≡◌ {A = ℕ} 0 1 = cc t.cuts in absurd (omega arith)
one_more text old splices prepared k rows n marks out r marked before step (s ∷ D) t h =
    let a = state_after old D (apart_rest old s D h) in
    let d = next_due old D s h in
    step (state_of old D) s d.0 (before D (told_before t) (apart_rest old s D h)) (rw a.done t) d.1
