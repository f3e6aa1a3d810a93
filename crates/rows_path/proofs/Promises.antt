-- What resolving a path promises. `text` is the text of all: it is not read, so that the promise holds for any.
-- Assumes nothing.
use Rattle.std.specs.Prelude.{◌≡◌, refl, List, ℕ, Option as Answer}
use Rattle.std.proofs.Common.{ap, ◌∙◌}
use Rattle.std.proofs.Math.Option.{Option, none, some, map}
use Rattle.orders.specs.Tree.{Tree, resolve}
use Rattle.rows_model.specs.Row.{rows_of, triples}
use Rattle.rows_model.specs.Place.{place, follow}
use Rattle.rows_model.proofs.PlaceLaws.{follow_path}
use Rattle.rows_path.specs.Offset.{offset}
use Rattle.rows_path.proofs.Offset.{path_start}
use Rattle.rows_path.specs.declared.Resolved.{Resolved}
use Rattle.rows_path.specs.Promises.{resolved, standing, at_row, Resolves}

-- of the rows of a tree the first says the second
pub resolves : {tree path : List ℕ} {r : Answer Resolved} → ((text : List ℕ) → r ≡ resolved (triples text tree) (follow (triples text tree) 0 path)) → Resolves tree path r
unfolding resolved standing
resolves {tree} {path} {r} e = record { rows = e; element = λ text t q. e text ∙ (ap (λ rs. resolved rs (follow rs 0 path)) q ∙ (ap (resolved (rows_of t)) (follow_path path t) ∙ go t (resolve path t) refl)) }
  where
    go : (t : Tree ℕ) (o : Option (Tree ℕ)) → resolve path t ≡ o → resolved (rows_of t) (map (λ v. place path t) o) ≡ standing path t o
    go t none q = refl
    go t (some u) q = ap (at_row (place path t)) (path_start path t u q)

-- the element of a tree that is there
pub resolves_there : {tree path : List ℕ} {r : Answer Resolved} → Resolves tree path r → (text : List ℕ) (t u : Tree ℕ) → triples text tree ≡ rows_of t → resolve path t ≡ some u → r ≡ at_row (place path t) (offset path t)
unfolding standing
resolves_there {path = path} v text t u q f = v.element text t q ∙ ap (standing path t) f
