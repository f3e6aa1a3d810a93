-- What a list that is done leaves is the law's state; two orders of one list leave the same.
-- Assumes nothing.
use Rattle.std.specs.Prelude.{◌≡◌, Ok, refl, ◌↔◌, ℕ, zero, suc, ◌*◌, ◌/◌, ◌<◌, length, take, get_or}
use Rattle.std.proofs.Common.{sym, ap, ◌∙◌, arith, take_at}
use mathlib.Core.List.Permᴰ
use mathlib.Core.List.{List, [], ◌∷◌, ◌++◌, map, append-nil, reverse_aux, Permᴰ, cons≢nil}
use Rattle.std.proofs.Math.Option.{Option, none, some}
use Rattle.std.proofs.Math.ListN.{get_elem?}
use Rattle.orders.specs.ListLaws.{none_some, get_map}
use Rattle.orders.specs.Tree.{Tree, Path, resolve}
use Rattle.orders.specs.Splices.{Splice, State, begin, performs, one_go, EntersDeleted, AllApart}
use Rattle.orders.proofs.Parts.{neat}
use Rattle.orders.proofs.Paths.{one_go_path, down}
use Rattle.orders.proofs.Order.{one_go_same, path_same, apart_perm}
use Rattle.orders.proofs.Demand.{Demanded, demand}
use Rattle.orders.proofs.Done.{performs_one_go, reversed}
use Rattle.rows_model.specs.Row.{Row, tok, nod, outside, rows_of}
use Rattle.rows_model.specs.Place.{size, place, mark_of, Held}
use Rattle.rows_model.proofs.PlaceLaws.{place_pos}
use Rattle.rows_model.proofs.Moves.{place_inj}
use Rattle.definition_laws.specs.Kin.{get_get_d}
use Rattle.splices_model.specs.Cuts.{paths, state_of}
use Rattle.splices_model.specs.Places.{paths_at}
use Rattle.splices_model.specs.Orders.{map_same, state_after, performs_state}
use Rattle.definition.specs.Basics.{Answer, refused, gives}
use Rattle.splices_model.specs.SpliceList.{old_tree, words_of, splices_to, filled, rewritten}
use Rattle.splices_model.specs.Found.{wrong, answer_wrong, Right, none_right, answer_right}
use Rattle.splices_list.specs.Promises.{outcome_of, rows_left, marks_left, Spliced}

-- ── What is done ────────────────────────────────────────────────────────────────────────────────────────────

-- the splices that the words tell, the last first
abbrev pub told : List ℕ → List ℕ → List ℕ → List ℕ → List (Splice ℕ)
told rows marks s p = splices_to (old_tree rows (length marks)) s p (length s / 6)

-- the same in the order given
abbrev pub given : List ℕ → List ℕ → List ℕ → List ℕ → List (Splice ℕ)
given rows marks s p = reverse_aux (told rows marks s p) []

words_of_many : (rs : List Row) → length (words_of rs) ≡ 3 * length rs
unfolding words_of
words_of_many [] = refl
words_of_many (tok k x ∷ rs) = omega (arith, words_of_many rs)
words_of_many (nod k m ∷ rs) = omega (arith, words_of_many rs)
words_of_many (outside k m ∷ rs) = omega (arith, words_of_many rs)

-- a list that is done is apart; the rows are those of the one-go tree, and the marks the rows of the law's paths
pub record DoneAll (rows marks s p out marked : List ℕ) (n : ℕ) : Type 0 where
  pub right : Right rows (length marks) s p (length s / 6)
  pub many : n ≡ size (one_go (told rows marks s p) (old_tree rows (length marks)))
  pub words : take (3 * n) out ≡ words_of (rows_of (one_go (told rows marks s p) (old_tree rows (length marks))))
  pub paths : marked ≡ map (λ e. mark_of (one_go (told rows marks s p) (old_tree rows (length marks))) (one_go_path (told rows marks s p) e)) (paths (old_tree rows (length marks)))

pub spliced_done : (rows marks s p out marked : List ℕ) (n : ℕ) → Spliced rows marks s p out marked (Ok n) → DoneAll rows marks s p out marked n
unfolding outcome_of rows_left marks_left rewritten filled
spliced_done rows marks s p out marked n w = go (wrong rows (length marks) s p (length s / 6)) refl
  where
    go : (k : ℕ) → wrong rows (length marks) s p (length s / 6) ≡ k → DoneAll rows marks s p out marked n
    go (suc k) z = let u : ◌≡◌ {A = Answer ℕ} (gives n) (refused (suc k)) = w.outcome ∙ ap outcome_of (answer_wrong rows marks s p (suc k) z (λ e. omega arith)) in let y : ◌≡◌ {A = ℕ} 0 1 = cc in absurd (omega arith)
    go zero z =
        let R = none_right rows (length marks) s p (length s / 6) z in
        let e = answer_right rows marks s p R in
        let new : Tree ℕ = one_go (told rows marks s p) (old_tree rows (length marks)) in
        let u : ◌≡◌ {A = Answer ℕ} (gives n) (gives (size new)) = w.outcome ∙ ap outcome_of e in
        let m : n ≡ size new = cc in
        record {
          right = R;
          many = m;
          words = rw (w.result, e, m) (take_at (words_of (rows_of new)) _ (3 * size new) (words_of_many (rows_of new)));
          paths = w.moved ∙ ap (marks_left marks) e;
        }

-- ── The law's state ─────────────────────────────────────────────────────────────────────────────────────────

-- the rows are those of a state's tree, and the marks the rows where its paths lead
pub record Leaves (old : Tree ℕ) (now : State ℕ) (out : List ℕ) (n : ℕ) (marked : List ℕ) : Type 0 where
  pub rows : take (3 * n) out ≡ words_of (rows_of now.tree)
  pub marks : marked ≡ map (λ e. mark_of now.tree (now.path e)) (paths old)

reversed_twice : {X : Type 0} (D A B : List X) → reverse_aux (reverse_aux D A) B ≡ reverse_aux A (D ++ B)
reversed_twice [] A B = refl
reversed_twice (x ∷ D) A B = reversed_twice D (x ∷ A) B

-- what is done is what the law does with the list, from its first splice to its last; and that is what demand 3 demands
pub spliced_demanded : (rows marks s p out marked : List ℕ) (n : ℕ) → Spliced rows marks s p out marked (Ok n)
    → Leaves (old_tree rows (length marks)) (performs (given rows marks s p) (begin (old_tree rows (length marks)))) out n marked
    × Demanded (old_tree rows (length marks)) (given rows marks s p) (performs (given rows marks s p) (begin (old_tree rows (length marks))))
unfolding state_of
spliced_demanded rows marks s p out marked n w =
    let old = old_tree rows (length marks) in
    let D = told rows marks s p in
    let d = spliced_done rows marks s p out marked n w in
    let a = state_after old D d.right.apart in
    let e : performs (given rows marks s p) (begin old) ≡ state_of old D = performs_state old (given rows marks s p) [] ∙ ap (state_of old) (reversed_twice D [] [] ∙ append-nil D) in (
      rw e (record { rows = d.words ∙ ap (λ t. words_of (rows_of t)) (sym a.tree); marks = d.paths ∙ map_same _ _ (λ q. cc (a.tree, a.path q)) (paths old) }),
      demand old (given rows marks s p) (given rows marks s p) (apart_perm old D (given rows marks s p) (Permᴰ.symm (reversed D)) d.right.apart) (Permᴰ.refl (given rows marks s p)),
    )

-- ── Two orders ──────────────────────────────────────────────────────────────────────────────────────────────

-- two orders of one list leave the same rows and the same marks, wherever their prepared rows stand
pub two_orders : (rows marks s p s' p' : List ℕ) → Permᴰ (told rows marks s p) (told rows marks s' p') → {out marked out' marked' : List ℕ} {n n' : ℕ}
    → Spliced rows marks s p out marked (Ok n) → Spliced rows marks s' p' out' marked' (Ok n') → (n ≡ n') × (take (3 * n) out ≡ take (3 * n') out') × (marked ≡ marked')
two_orders rows marks s p s' p' same {n = n} {n' = n'} w w' =
    let old = old_tree rows (length marks) in
    let d = spliced_done rows marks s p _ _ n w in
    let d' = spliced_done rows marks s' p' _ _ n' w' in
    let t : one_go (told rows marks s p) old ≡ one_go (told rows marks s' p') old = one_go_same (told rows marks s p) (told rows marks s' p') same (neat old (told rows marks s p) d.right.apart) old in
    (d.many ∙ (ap size t ∙ sym d'.many), d.words ∙ (ap (λ t. words_of (rows_of t)) t ∙ sym d'.words), d.paths ∙ (map_same _ _ (λ q. cc (t, path_same (told rows marks s p) (told rows marks s' p') same q)) (paths old) ∙ sym d'.paths))

-- MARKS TELL PATHS: in one tree two paths with the same place are the same path (`place_inj`); so two marks of elements below the root, there or dropped, are the same just where the paths are.
pub marks_tell : (t : Tree ℕ) (o o' : Option Path) → Held t o → Held t o' → ((x : Path) → o ≡ some x → x ≡ [] → ⊥) → ((x : Path) → o' ≡ some x → x ≡ [] → ⊥) → mark_of t o ≡ mark_of t o' → o ≡ o'
unfolding mark_of
marks_tell t none none h k u v e = refl
marks_tell t none (some []) h k u v e = absurd (v [] refl refl)
marks_tell t none (some (i ∷ q)) h k u v e = absurd (omega (arith, place_pos i q t k.0 k.1))
marks_tell t (some []) o h k u v e = absurd (u [] refl refl)
marks_tell t (some (i ∷ q)) none h k u v e = absurd (omega (arith, place_pos i q t h.0 h.1))
marks_tell t (some (i ∷ q)) (some r) h k u v e = ap {B = Option Path} some (place_inj (i ∷ q) r t h.0 k.0 h.1 k.1 e)

-- a path below the root stays below it
stays_below : (old : Tree ℕ) (S : List (Splice ℕ)) → AllApart old S → (i : ℕ) (e q : Path) → (performs S (begin old)).path (i ∷ e) ≡ some q → q ≡ [] → ⊥
stays_below old S h i e q z n = cons≢nil ((down S i e q (sym ((performs_one_go old S S h (Permᴰ.refl S)).1 (i ∷ e)) ∙ z)).is ∙ n)

-- the mark of an old element below the root is 0 just where its path enters a child that some splice deletes
pub mark_dropped : (old : Tree ℕ) (S : List (Splice ℕ)) (out : List ℕ) (n : ℕ) (marked : List ℕ) → AllApart old S → Leaves old (performs S (begin old)) out n marked
    → (i : ℕ) (e : Path) (t : Tree ℕ) → resolve (i ∷ e) old ≡ some t → (get_or marked (place (i ∷ e) old) 0 ≡ 0) ↔ EntersDeleted S (i ∷ e)
unfolding mark_of
mark_dropped old S out n marked h l i e t f = go (now.path (i ∷ e)) refl
  where
    now : State ℕ
    now = performs S (begin old)

    d : Demanded old S now
    d = demand old S S h (Permᴰ.refl S)

    at : get_or marked (place (i ∷ e) old) 0 ≡ mark_of now.tree (now.path (i ∷ e))
    at =
        let g : get_elem? marked (place (i ∷ e) old) ≡ some (mark_of now.tree (now.path (i ∷ e))) = rw l.marks (get_map (λ q. mark_of now.tree (now.path q)) (paths old) (place (i ∷ e) old) (i ∷ e) (paths_at (i ∷ e) old t f)) in
        get_get_d marked (place (i ∷ e) old) (mark_of now.tree (now.path (i ∷ e))) 0 g

    go : (o : Option Path) → now.path (i ∷ e) ≡ o → (get_or marked (place (i ∷ e) old) 0 ≡ 0) ↔ EntersDeleted S (i ∷ e)
    go none z = (λ y. (d.dropped (i ∷ e)).0 z, λ y. at ∙ ap (λ o. mark_of now.tree o) z)
    go (some []) z = absurd (stays_below old S h i e [] z refl)
    go (some (j ∷ q)) z =
        let p : 0 < place (j ∷ q) now.tree = place_pos j q now.tree _ (d.subtree (i ∷ e) (j ∷ q) t f z) in
        let m : get_or marked (place (i ∷ e) old) 0 ≡ place (j ∷ q) now.tree = at ∙ ap (λ o. mark_of now.tree o) z in
        (λ y. absurd (omega arith), λ y. none_some (sym ((d.dropped (i ∷ e)).1 y) ∙ z))
