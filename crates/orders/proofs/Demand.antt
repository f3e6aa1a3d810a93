-- Demand 3, but for its last sentence. The words are those of Splices.
-- Assumes nothing.
use Rattle.std.specs.Prelude.{◌≡◌, ◌↔◌}
use Rattle.std.proofs.Common.{sym, ◌∙◌}
use mathlib.Core.List.{List, Permᴰ}
use Rattle.std.proofs.Math.Option.{none, some}
use Rattle.orders.specs.Lists.{All}
use Rattle.orders.specs.Tree.{Tree, Path, resolve}
use Rattle.orders.specs.Splices.{Splice, State, begin, performs, one_go, EntersDeleted, AtOrBelow, splices_in, unnamed, one_go_named, Finds, AllApart}
use Rattle.orders.proofs.Paths.{dropped_enters, enters_dropped, resolve_one_go, none_in, rewrite_nothing}
use Rattle.orders.proofs.Done.{performs_one_go}
use Rattle.orders.proofs.Names.{finds, finds_only, unnamed_one_go}

-- what demand 3 says of the state that comes of the old tree by the splices S
pub record Demanded {A : Type 0} (old : Tree A) (S : List (Splice A)) (now : State A) : Type 0 where
  -- each splice found its parent, and was done
  pub all : Permᴰ S now.done
  -- "the tree equals the old tree rewritten in one go"
  pub tree : now.tree ≡ one_go S old
  -- "An old path is dropped exactly when it enters a deleted child" (this holds of any path)
  pub dropped : (e : Path) → (now.path e ≡ none) ↔ EntersDeleted S e
  -- "else it finds its element where the one go puts it", and it alone leads there
  pub found : (e q : Path) (t : Tree A) → resolve e old ≡ some t → now.path e ≡ some q → Finds S old e q
  pub only : (e q : Path) → Finds S old e q → now.path e ≡ some q
  -- what stands there is the old subtree, rewritten by the splices in it
  pub subtree : (e q : Path) (t : Tree A) → resolve e old ≡ some t → now.path e ≡ some q → resolve q now.tree ≡ some (one_go (splices_in e S) t)
  -- "with an identical subtree unless some splice's parent is that element or below it"
  pub identical : (e q : Path) (t : Tree A) → resolve e old ≡ some t → now.path e ≡ some q → All (λ s. ¬ AtOrBelow e s) S → resolve q now.tree ≡ some t

module _ {A : Type 0} where
  -- "Whatever the old tree, whatever list of numbered splices that are apart .., and in whatever order they are done from that tree, each on the tree and paths the last one left"
  pub demand : (old : Tree A) (S order : List (Splice A)) → AllApart old S → Permᴰ S order → Demanded old S (performs order (begin old))
  demand old S order h r =
      let k = performs_one_go old S order h r in
      record {
        all = k.2;
        tree = k.0;
        dropped = λ e. (λ z. dropped_enters S e (sym (k.1 e) ∙ z), λ d. k.1 e ∙ enters_dropped S e d);
        found = λ e q t f z. finds old t S e q h f (sym (k.1 e) ∙ z);
        only = λ e q f. k.1 e ∙ finds_only old S e q h f;
        subtree = λ e q t f z. rw k.0 (resolve_one_go e old t S q h f (sym (k.1 e) ∙ z));
        identical = λ e q t f z n. rw k.0 (resolve_one_go e old t S q h f (sym (k.1 e) ∙ z) ∙ rw (none_in e S n, rewrite_nothing t));
      }

  -- "no two orders differ in tree or paths"
  pub orders_agree : (old : Tree A) (S one other : List (Splice A)) → AllApart old S → Permᴰ S one → Permᴰ S other
      → ((performs one (begin old)).tree ≡ (performs other (begin old)).tree) × ((e : Path) → (performs one (begin old)).path e ≡ (performs other (begin old)).path e)
  orders_agree old S one other h r q =
      let k = performs_one_go old S one h r in
      let l = performs_one_go old S other h q in
      (k.0 ∙ sym l.0, λ e. k.1 e ∙ sym (l.1 e))

  -- the walk that carries names is the walk: without the names, it writes what the one go writes
  pub names_off : (old : Tree A) (S : List (Splice A)) → unnamed (one_go_named S old) ≡ one_go S old
  names_off old S = unnamed_one_go S old
