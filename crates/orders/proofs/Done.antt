-- A list of splices done one after the other makes what the one go makes of it.
-- Assumes nothing.
use Rattle.std.specs.Prelude.{◌≡◌, ◌+◌}
use Rattle.std.proofs.Math.Path.{refl, sym}
use Rattle.std.proofs.Common.{◌∙◌, add-zero}
use mathlib.Core.List.{List, [], ◌∷◌, reverse_aux, append-nil, Permᴰ}
use Rattle.std.proofs.Math.Option.{Option, none, some, bind}
use Rattle.std.proofs.Math.Nat.{sub-zero}
use Rattle.orders.specs.Lists.{pick, any, total}
use Rattle.orders.specs.Tree.{Tree, Path, Run, HasRun}
use Rattle.orders.specs.Splices.{Splice, under, at_root, below, one_go, start, deleted, State, begin, run_now, perform_at, perform, performs, Apart, AllApart}
use Rattle.orders.specs.ListLaws.{All-mem}
use Rattle.orders.proofs.Numbers.{start_among, new_number}
use Rattle.orders.proofs.Parts.{neat}
use Rattle.orders.proofs.Paths.{one_go_path, dropped_enters, rewrite_nothing}
use Rattle.orders.proofs.Step.{apart_rest, step_tree, step_path, step_run}
use Rattle.orders.proofs.Order.{one_go_same, path_same, apart_perm}

-- with nothing done, each path leads to itself
path_nothing : (A : Type 0) (e : Path) → one_go_path {A = A} [] e ≡ some e
unfolding one_go_path new_number start_among at_root below pick any total bind
path_nothing A [] = refl
path_nothing A (i ∷ e) = rw (path_nothing A e, sub-zero, add-zero)

module _ {A : Type 0} where
  -- the state is what the one go makes of the splices D, which are done
  pub record After (old : Tree A) (D : List (Splice A)) (now : State A) : Type 0 where
    pub tree : now.tree ≡ one_go D old
    pub path : (e : Path) → now.path e ≡ one_go_path D e
    pub done : now.done ≡ D

  -- a further splice finds its parent, and its run there
  pub record Ready (old : Tree A) (D : List (Splice A)) (s : Splice A) (now : State A) : Type 0 where
    pub q : Path
    pub at : one_go_path D s.parent ≡ some q
    pub run : run_now now s ≡ some (record { parent = q; from = start D s; to = start D s + deleted s })
    pub has : HasRun now.tree q (start D s) (start D s + deleted s)

  pub ready : (old : Tree A) (D : List (Splice A)) (s : Splice A) (now : State A) → AllApart old (s ∷ D) → After old D now → Ready old D s now
  unfolding run_now under
  ready old D s now h k = go (one_go_path D s.parent) refl
    where
      go : (o : Option Path) → one_go_path D s.parent ≡ o → Ready old D s now
      go none e = let d = dropped_enters D s.parent e in absurd ((All-mem (Apart s) D d.by h.apart.0 d.one).kept' d.enters)
      go (some q) e = record { q = q; at = e; run = rw (k.path s.parent, e, k.done); has = rw k.tree (step_run s.parent old D s q h e) }

  pub perform_at_lem : (s : Splice A) (now : State A) (r : Run) → run_now now s ≡ some r → perform s now ≡ perform_at r s now
  unfolding perform
  perform_at_lem s now r e = rw (e, perform)

  pub perform_after : (old : Tree A) (D : List (Splice A)) (s : Splice A) (now : State A) → AllApart old (s ∷ D) → After old D now → After old (s ∷ D) (perform s now)
  unfolding perform_at under
  perform_after old D s now h k = go (ready old D s now h k)
    where
      go : Ready old D s now → After old (s ∷ D) (perform s now)
      go r = rw (perform_at_lem s now _ r.run) (record {
        tree = rw k.tree (step_tree s.parent old D s r.q h r.at);
        path = λ e. rw (k.path e) (step_path s.parent D s r.q (neat old (s ∷ D) h) r.at e);
        done = rw k.done;
      })

  pub apart_done : (old : Tree A) (S D : List (Splice A)) → AllApart old (reverse_aux S D) → AllApart old D
  apart_done old [] D h = h
  apart_done old (s ∷ S) D h = apart_rest old s D (apart_done old S (s ∷ D) h)

  pub performs_after : (old : Tree A) (S D : List (Splice A)) (now : State A) → AllApart old (reverse_aux S D) → After old D now → After old (reverse_aux S D) (performs S now)
  unfolding performs
  performs_after old [] D now h k = k
  performs_after old (s ∷ S) D now h k = performs_after old S (s ∷ D) (perform s now) h (perform_after old D s now (apart_done old S (s ∷ D) h) k)

  pub begin_after : (old : Tree A) → After old [] (begin old)
  unfolding begin
  begin_after old = record { tree = sym (rewrite_nothing old); path = λ e. sym (path_nothing A e); done = refl }

  -- a list in the order in which it is not done, but held as done
  pub reversed : (l : List (Splice A)) → Permᴰ (reverse_aux l []) l
  reversed l = rw append-nil at (mathlib.Core.List.Permᴰ.reverse_aux l [])

  pub performs_one_go : (old : Tree A) (S order : List (Splice A)) → AllApart old S → Permᴰ S order
      → ((performs order (begin old)).tree ≡ one_go S old) × ((e : Path) → (performs order (begin old)).path e ≡ one_go_path S e) × Permᴰ S (performs order (begin old)).done
  performs_one_go old S order h r =
      let all : Permᴰ S (reverse_aux order []) = mathlib.Core.List.Permᴰ.trans r (mathlib.Core.List.Permᴰ.symm (reversed order)) in
      let k = performs_after old order [] (begin old) (apart_perm old S (reverse_aux order []) all h) (begin_after old) in
      (k.tree ∙ sym (one_go_same S (reverse_aux order []) all (neat old S h) old), λ e. k.path e ∙ sym (path_same S (reverse_aux order []) all e), rw k.done all)
