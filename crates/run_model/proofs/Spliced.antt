-- What is held after a splice of rows is what the definition's splice leaves, in rows.
-- Assumes nothing.
use Rattle.std.specs.Prelude.{◌≡◌, ℕ, suc, ◌+◌, ◌-◌, take}
use Rattle.std.proofs.Math.Path.{refl, sym, ap}
use Rattle.std.proofs.Common.{◌∙◌, arith, length-append}
use mathlib.Core.List.{List, [], ◌∷◌, ◌++◌, map, flat_map, append_assoc}
use Rattle.std.proofs.Math.Option
use Rattle.std.proofs.Math.Option.{Option, none, some, bind}
use Rattle.std.proofs.Math.ListN.{length, get_elem?}
use Rattle.std.proofs.lemmas.List.{length-map}
use Rattle.orders.specs.Lists.{All, pick}
use Rattle.orders.specs.ListLaws.{map_append, All-map}
use Rattle.orders.specs.Tree.{Tree, Path, adjust, shift, splice, HasRun}
use Rattle.definition.specs.Rewriting.{Note}
use Rattle.definition.specs.Running.{Changed, World, with_path, Yield, Run, placed, spliced}
use Rattle.definition_laws.specs.Held.{Leads, Holds}
use Rattle.rows_model.specs.Row.{Row, rows_of, rows_all}
use Rattle.rows_model.specs.Place.{size_all, place, splice_rows, mark_of, moved_mark, Held}
use Rattle.rows_model.proofs.PlaceLaws.{rows_splice}
use Rattle.rows_model.proofs.Moves.{adjust_place}
use Rattle.rows_model.proofs.Marks.{marks_follow, new_place}
use Rattle.run_model.specs.Store.{HeldNote, HeldChanged, Store, held_note, held_changed, store, with_row, at_row, put_in, new_rows, placed_parts, spliced_store}
use Rattle.run_model.proofs.Gaps.{gap_at}
use Rattle.run_model.proofs.Parts.{pick_square, part_in}

-- the trees that are yielded
abbrev pub trees_of : List Yield → List (Tree ℕ)
trees_of ys = map (λ y. y.tree) ys

pub new_rows_lem : (ys : List Yield) → new_rows (map part_in ys) ≡ rows_all (trees_of ys)
unfolding new_rows flat_map part_in
new_rows_lem [] = refl
new_rows_lem (y ∷ ys) = ap (λ (r : List Row). rows_of y.tree ++ r) (new_rows_lem ys)

-- ── What comes in ───────────────────────────────────────────────────────────────────────────────────────────

-- the trees of ys stand in t as children a and on of the element at q, the first of them at the row `at`
abbrev Standing : Tree ℕ → Path → ℕ → ℕ → List Yield → Type 0
Standing t q a at ys = (i : ℕ) (c : Tree ℕ) (p : Path) → get_elem? (trees_of ys) i ≡ some c → place (q ++ ((a + i) ∷ p)) t ≡ at + size_all (take i (trees_of ys)) + place p c

module _ (t : Tree ℕ) (q : Path) where
  head_place : (a at : ℕ) (y : Yield) (ys : List Yield) → Standing t q a at (y ∷ ys) → (p : Path) → place (q ++ (a ∷ p)) t ≡ at + place p y.tree
  head_place a at y ys s p = ap (λ n. place (q ++ (n ∷ p)) t) (omega arith) ∙ (s 0 y.tree p refl ∙ omega arith)

  rest_standing : (a at : ℕ) (y : Yield) (ys : List Yield) → Standing t q a at (y ∷ ys) → Standing t q (suc a) (at + length (rows_of y.tree)) ys
  rest_standing a at y ys s i c p g =
      ap (λ n. place (q ++ (n ∷ p)) t) (omega arith) ∙ (s (suc i) c p g ∙ omega (arith, length-append (rows_of y.tree) (rows_all (take i (trees_of ys)))))

  -- what comes in, by its rows, with the rule number that it is recorded by
  new_places : (rule a at : ℕ) (ys : List Yield) → Standing t q a at ys
      → map (λ y. put_in rule y.0) (placed_parts at (map part_in ys)) ≡ map (held_changed t) (map (λ y. (y.0, rule)) (placed q a ys))
  unfolding placed_parts placed part_in held_changed
  new_places rule a at [] s = refl
  new_places rule a at (y ∷ ys) s =
      let here : at ≡ place (q ++ (a ∷ [])) t = sym (head_place a at y ys s [] ∙ omega arith) in
      ap {B = List HeldChanged} (λ n. put_in rule n ∷ map (λ y. put_in rule y.0) (placed_parts (at + length (rows_of y.tree)) (map part_in ys))) here
      ∙ ap {B = List HeldChanged} (λ l. put_in rule (place (q ++ (a ∷ [])) t) ∷ l) (new_places rule (suc a) (at + length (rows_of y.tree)) ys (rest_standing a at y ys s))

  -- and of their notes
  notes_one : (a at : ℕ) (y : Tree ℕ) → ((p : Path) → place (q ++ (a ∷ p)) t ≡ at + place p y) → (ns : List Note)
      → map (λ n. with_row n (at + n.row)) (map (held_note y) ns) ≡ map (held_note t) (map (λ n. with_path n ((q ++ (a ∷ [])) ++ n.path)) ns)
  unfolding with_row held_note with_path
  notes_one a at y s [] = refl
  notes_one a at y s (n ∷ ns) =
      let here : at + place n.path y ≡ place ((q ++ (a ∷ [])) ++ n.path) t = sym (ap (λ r. place r t) (append_assoc q (a ∷ []) n.path) ∙ s n.path) in
      ap {B = List HeldNote} (λ m. record { row = m; number = n.number; place = n.place } ∷ map (λ n. with_row n (at + n.row)) (map (held_note y) ns)) here
      ∙ ap {B = List HeldNote} (λ l. held_note t (with_path n ((q ++ (a ∷ [])) ++ n.path)) ∷ l) (notes_one a at y s ns)

  new_notes_lem : (a at : ℕ) (ys : List Yield) → Standing t q a at ys
      → flat_map (λ y. map (λ n. with_row n (y.0 + n.row)) y.1.notes) (placed_parts at (map part_in ys))
      ≡ map (held_note t) (flat_map (λ y. map (λ n. with_path n (y.0 ++ n.path)) y.1.notes) (placed q a ys))
  unfolding placed_parts placed part_in flat_map
  new_notes_lem a at [] s = refl
  new_notes_lem a at (y ∷ ys) s =
      let one = notes_one a at y.tree (head_place a at y ys s) y.notes in
      let all = new_notes_lem (suc a) (at + length (rows_of y.tree)) ys (rest_standing a at y ys s) in
      ap (λ (l : List HeldNote). l ++ flat_map (λ y. map (λ n. with_row n (y.0 + n.row)) y.1.notes) (placed_parts (at + length (rows_of y.tree)) (map part_in ys))) one
      ∙ (ap (λ (l : List HeldNote). map (held_note t) (map (λ n. with_path n ((q ++ (a ∷ [])) ++ n.path)) y.notes) ++ l) all
      ∙ sym (map_append (held_note t) (map (λ n. with_path n ((q ++ (a ∷ [])) ++ n.path)) y.notes) (flat_map (λ y. map (λ n. with_path n (y.0 ++ n.path)) y.1.notes) (placed q (suc a) ys))))

-- ── The whole ───────────────────────────────────────────────────────────────────────────────────────────────

pub store_same : {r r' : List Row} {m m' : List ℕ} {n n' : List HeldNote} {c c' : List HeldChanged} → r ≡ r' → m ≡ m' → n ≡ n' → c ≡ c'
    → ◌≡◌ {A = Store} (record { rows = r; marks = m; notes = n; changed = c }) (record { rows = r'; marks = m'; notes = n'; changed = c' })
store_same e f g h = rw (e, f, g, h)

-- A splice of what is held in rows is the definition's splice.
pub spliced_store_lem : (w : World) (r : Run) (new : List Yield) (recorded : Option ℕ) → HasRun w.trees r.parent r.from r.to → Holds w → All (Held w.trees) w.paths
    → spliced_store (gap_at w.trees r) (map part_in new) recorded (store w) ≡ store (spliced r new recorded w)
unfolding spliced_store gap_at store spliced held_note held_changed with_row at_row with_path
spliced_store_lem w r new recorded run h held = store_same rows marks notes (changed recorded)
  where
    t : Tree ℕ
    t = w.trees

    next : Tree ℕ
    next = splice r.parent r.from r.to (trees_of new) w.trees

    P : ℕ
    P = place (r.parent ++ (r.from ∷ [])) w.trees

    Q : ℕ
    Q = place (r.parent ++ (r.to ∷ [])) w.trees

    long : length (trees_of new) ≡ length new
    long = length-map new (λ y. y.tree)

    many : length (new_rows (map part_in new)) ≡ size_all (trees_of new)
    many = ap length (new_rows_lem new)

    standing : Standing next r.parent r.from P new
    standing i c p g = new_place r.parent t r.from r.to (trees_of new) run i c g p

    rows : splice_rows (rows_of t) (place r.parent t) P Q (r.to - r.from) (new_rows (map part_in new)) (length (map part_in new)) ≡ rows_of next
    rows =
        ap (λ n. splice_rows (rows_of t) (place r.parent t) P Q (r.to - r.from) n (length (map part_in new))) (new_rows_lem new)
        ∙ (ap (splice_rows (rows_of t) (place r.parent t) P Q (r.to - r.from) (rows_all (trees_of new))) (length-map new part_in ∙ sym long) ∙ sym (rows_splice r.parent t r.from r.to run (trees_of new)))

    marks : map (moved_mark P Q (length (new_rows (map part_in new)))) (map (mark_of t) w.paths) ≡ map (mark_of next) (map (λ o. bind o (adjust r.parent r.from r.to (length new))) w.paths)
    marks =
        ap (λ m. map (moved_mark P Q m) (map (mark_of t) w.paths)) many
        ∙ (sym (marks_follow r.parent t r.from r.to (trees_of new) run w.paths held) ∙ ap (λ n. map (mark_of next) (map (λ o. bind o (adjust r.parent r.from r.to n)) w.paths)) long)

    keep : Note → Option Note
    keep n = Option.map (with_path n) (adjust r.parent r.from r.to (length new) n.path)

    keep_row : ℕ → HeldNote → Option HeldNote
    keep_row m n = Option.map (with_row n) (shift P Q m n.row)

    one : (n : Note) → Leads t n.path → keep_row (size_all (trees_of new)) (held_note t n) ≡ Option.map (held_note next) (keep n)
    one n l =
        ap (Option.map (with_row (held_note t n))) (sym (adjust_place r.parent t r.from r.to (trees_of new) n.path l.found run l.there) ∙ ap (λ k. Option.map (λ r. place r next) (adjust r.parent r.from r.to k n.path)) long)
        ∙ told (adjust r.parent r.from r.to (length new) n.path)
      where
        told : (o : Option Path) → Option.map (with_row (held_note t n)) (Option.map (λ r. place r next) o) ≡ Option.map (held_note next) (Option.map (with_path n) o)
        told none = refl
        told (some e) = refl

    kept_notes : pick (keep_row (length (new_rows (map part_in new)))) (map (held_note t) w.notes) ≡ map (held_note next) (pick keep w.notes)
    kept_notes =
        ap (λ m. pick (keep_row m) (map (held_note t) w.notes)) many ∙ pick_square (held_note t) (held_note next) keep (keep_row (size_all (trees_of new))) w.notes (All-map one w.notes h.notes)

    new_notes : List Note
    new_notes = flat_map (λ y. map (λ n. with_path n (y.0 ++ n.path)) y.1.notes) (placed r.parent r.from new)

    new_held : List HeldNote
    new_held = flat_map (λ y. map (λ n. with_row n (y.0 + n.row)) y.1.notes) (placed_parts P (map part_in new))

    notes : pick (keep_row (length (new_rows (map part_in new)))) (map (held_note t) w.notes) ++ new_held ≡ map (held_note next) (pick keep w.notes ++ new_notes)
    notes =
        ap (λ (l : List HeldNote). l ++ new_held) kept_notes
        ∙ (ap (λ (l : List HeldNote). map (held_note next) (pick keep w.notes) ++ l) (new_notes_lem next r.parent r.from P new standing) ∙ sym (map_append (held_note next) (pick keep w.notes) new_notes))

    moved : Changed → Option Changed
    moved c = Option.map (λ p. (p, c.1)) (adjust r.parent r.from r.to (length new) c.0)

    moved_row : ℕ → HeldChanged → Option HeldChanged
    moved_row m c = Option.map (at_row c) (shift P Q m c.row)

    one_changed : (c : Changed) → Leads t c.0 → moved_row (size_all (trees_of new)) (held_changed t c) ≡ Option.map (held_changed next) (moved c)
    one_changed c l =
        ap (Option.map (at_row (held_changed t c))) (sym (adjust_place r.parent t r.from r.to (trees_of new) c.0 l.found run l.there) ∙ ap (λ k. Option.map (λ r. place r next) (adjust r.parent r.from r.to k c.0)) long)
        ∙ told (adjust r.parent r.from r.to (length new) c.0)
      where
        told : (o : Option Path) → Option.map (at_row (held_changed t c)) (Option.map (λ r. place r next) o) ≡ Option.map (held_changed next) (Option.map (λ p. (p, c.1)) o)
        told none = refl
        told (some e) = refl

    kept_changed : pick (moved_row (length (new_rows (map part_in new)))) (map (held_changed t) w.changed) ≡ map (held_changed next) (pick moved w.changed)
    kept_changed =
        ap (λ m. pick (moved_row m) (map (held_changed t) w.changed)) many
        ∙ pick_square (held_changed t) (held_changed next) moved (moved_row (size_all (trees_of new))) w.changed (All-map one_changed w.changed h.changed)

    come : Option ℕ → List Changed
    come none = []
    come (some rule) = map (λ y. (y.0, rule)) (placed r.parent r.from new)

    come_held : Option ℕ → List HeldChanged
    come_held none = []
    come_held (some rule) = map (λ y. put_in rule y.0) (placed_parts P (map part_in new))

    new_changed : (o : Option ℕ) → come_held o ≡ map (held_changed next) (come o)
    new_changed (some rule) = new_places next r.parent rule r.from P new standing
    new_changed none = refl

    changed : (o : Option ℕ) → pick (moved_row (length (new_rows (map part_in new)))) (map (held_changed t) w.changed) ++ come_held o ≡ map (held_changed next) (pick moved w.changed ++ come o)
    changed o =
        ap (λ (l : List HeldChanged). l ++ come_held o) kept_changed
        ∙ (ap (λ (l : List HeldChanged). map (held_changed next) (pick moved w.changed) ++ l) (new_changed o) ∙ sym (map_append (held_changed next) (pick moved w.changed) (come o)))
