-- Note 7: changed elements and notes are sorted by the text start that resolving the path of each gives.
-- Assumes nothing.
use Rattle.std.proofs.Math.Path.{◌≡◌, refl, sym, ap}
use Rattle.std.proofs.Common.{◌∙◌, arith}
use Rattle.std.specs.Prelude.{List, [], ◌∷◌, ℕ, ◌/◌, ◌<◌, take}
use Rattle.std.proofs.Math.Option.{Option, none, some}
use Rattle.std.proofs.Math.ListN.{length, get_or}
use Rattle.std.proofs.Math.Seq.{get_or-take}
use Rattle.orders.specs.Tree.{Tree, Path, resolve}
use Rattle.rows_model.specs.Row.{triples, rows_of}
use Rattle.rows_model.specs.Place.{place}
use Rattle.rows_model.proofs.PlaceLaws.{place_lt}
use Rattle.rows_model.proofs.Words.{length_triples}
use Rattle.rows_path.specs.Offset.{offset}
use Rattle.rows_path.specs.Promises.{at_row, standing, Resolves}
use Rattle.rows_path.specs.declared.Resolved.{Resolved}
use Rattle.run_model.specs.Store.{HeldNote, HeldChanged}
use Rattle.finish_arrays.specs.Starts.{Starts}
use Rattle.finish_sort.specs.Keys.{start_key, note_key}

-- `finish` has the starts of the rows of the new tree t listed, and hands one for each row on to sorting. Resolving a path in those rows gives element e and a start
module _ {tree d l : List ℕ} (v : Starts tree d l) (text : List ℕ) (t : Tree ℕ) (told : triples text tree ≡ rows_of t) {path : Path} {e start : ℕ} (q : Resolves tree path (at_row e start)) where
  -- the start that is listed for e
  pub start_listed : get_or (take (length tree / 3) l) e 0 ≡ start
  unfolding standing
  start_listed = go (resolve path t) refl (q.element text t told)
    where
      go : (o : Option (Tree ℕ)) → resolve path t ≡ o → at_row e start ≡ standing path t o → get_or (take (length tree / 3) l) e 0 ≡ start
      go none f g = cc
      go (some u) f g =
          let s : ◌≡◌ {A = Resolved} (record { row = e; start = start }) (record { row = place path t; start = offset path t }) = cc in
          let a : e ≡ place path t = ap (λ (r : Resolved). r.row) s in
          let b : start ≡ offset path t = ap (λ (r : Resolved). r.start) s in
          let h : e < length tree / 3 = omega (arith, place_lt path t u f, ap length told, length_triples text tree) in
          get_or-take (length tree / 3) l e 0 h ∙ (ap (λ i. get_or l i 0) a ∙ (v.paths text t path u told f ∙ sym b))

  -- the key of a changed element, if it is e
  pub changed_key : (c : HeldChanged) → c.row ≡ e → start_key (take (length tree / 3) l) c ≡ start ∷ []
  changed_key c f = ap (λ s. s ∷ []) (ap (λ i. get_or (take (length tree / 3) l) i 0) f ∙ start_listed)

  -- the key of a note at e
  pub note_key_lem : (n : HeldNote) → n.row ≡ e → note_key (take (length tree / 3) l) n ≡ n.number ∷ n.place ∷ start ∷ []
  note_key_lem n f = ap (λ s. n.number ∷ n.place ∷ s ∷ []) (ap (λ i. get_or (take (length tree / 3) l) i 0) f ∙ start_listed)
