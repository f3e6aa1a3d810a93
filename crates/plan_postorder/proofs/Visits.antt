-- Each turn of the running order, and that the links tell it.
-- Assumes nothing.
use mathlib.Core.Path.{◌≡◌, refl, sym, ap, ◌∙◌}
use mathlib.Core.List.{List, [], ◌∷◌, ◌++◌, flat_map, append_assoc, append-nil}
use Prim.Native.Nat.{ℕ, zero, suc, ◌+◌, ◌-◌, ◌^◌, ◌≤◌, ◌<◌}
use native.Mathlib.Nat.{zero-add}
use native.Mathlib.Numerals.{add-one}
use native.Mathlib.Omega.{arith}
use lib.ListN.{length, get_or, set, take, drop, length-set, length-append, take-append-drop}
use lib.Seq.{length-take-le, take_at, drop_at, drop-drop, take-suc-set, drop-set-lt}
use Rattle.std.specs.Prelude.{Some, None}
use Rattle.std.specs.Prelude.{Option as Maybe}
use Rattle.std.specs.Option.{SomeIff}
use Rattle.plan_sort.specs.Sorting.{ranked_places, length_ranked}
use Rattle.plan_postorder.specs.Order.{ordered, owner_told, owned_at, runs, running_places}
use Rattle.definition_laws.proofs.Limits.{keep_length}
use Rattle.plan_postorder.specs.Counting.{joined_same, running_most, runs_all}
use Rattle.plan_postorder.specs.Links.{Linked, Links, owned_by, chain, linked_to, linked_runs, dependents}

-- ── A turn ──────────────────────────────────────────────────────────────────────────────────────────────────

-- where what runs is less than may remain, that one more may remain changes nothing
linked_more : (first next : List ℕ) (m o : ℕ) → length (linked_runs first next m o) < m → linked_runs first next (suc m) o ≡ linked_runs first next m o
unfolding linked_runs
linked_more first next zero o h = absurd (omega arith)
linked_more first next (suc m) o h =
    joined_same (λ q. linked_runs first next m (suc q)) (λ q. linked_runs first next (suc m) (suc q)) m (λ q b. linked_more first next m (suc q) b) (linked_to first next o) (omega arith)

-- what the places qs give, each after its own dependents
abbrev pub visits : List ℕ → List ℕ → List ℕ → List ℕ
visits first next qs = flat_map (λ q. dependents first next (suc q) ++ (q ∷ [])) qs

visits_all : (first next : List ℕ) (o : ℕ) → length (dependents first next o) ≤ 256 → visits first next (linked_to first next o) ≡ dependents first next o
unfolding linked_runs
visits_all first next o h = linked_more first next 257 o (omega arith)

-- the changes of the owner o are to be written at `at` of l₀; l is l₀ with what the first of them gave, up to `end`, and `link` tells the next one
pub record Appending (first next : List ℕ) (o : ℕ) (l₀ : List ℕ) (at : ℕ) (l : List ℕ) (end link : ℕ) : Type 0 where
  pub rest : List ℕ
  pub told : Linked next link rest
  pub from : at ≤ end
  pub room : end ≤ at + length (dependents first next o)
  pub long : length l ≡ length l₀
  pub done : take end l ++ visits first next rest ≡ take at l₀ ++ dependents first next o
  pub beyond : drop end l ≡ drop end l₀

pub appending_start : (first next : List ℕ) (o left : ℕ) (l : List ℕ) (at k : ℕ) → Links (linked_to first next) first next → o ≤ 256 → left ≤ 256 → length (dependents first next o) ≤ left
    → k ≡ get_or first o 0 → Appending first next o l at l at k
appending_start first next o left l at k v h few most e = record {
  rest = linked_to first next o;
  told = rw e (v.told o h);
  from = omega arith;
  room = omega arith;
  long = refl;
  done = rw (visits_all first next o (omega arith));
  beyond = refl;
}

-- the place k, of which a link told tells, and the others
record Parts (next qs : List ℕ) (k : ℕ) : Type 0 where
  others : List ℕ
  parted : qs ≡ k ∷ others
  low : k < 256
  linked : Linked next (get_or next k 0) others

parts : (next qs : List ℕ) (link k : ℕ) → Linked next link qs → link ≡ suc k → Parts next qs k
parts next [] link k h p = absurd (omega arith)
parts next (q ∷ qs) link k h p =
    let e : q ≡ k = omega (arith, h.0) in
    record { others = qs; parted = rw e; low = omega (arith, h.0, h.1); linked = rw e at h.2 }

none_linked : (next qs : List ℕ) (link : ℕ) → Linked next link qs → link ≤ 0 → qs ≡ []
none_linked next [] link h p = refl
none_linked next (q ∷ qs) link h p = absurd (omega (arith, h.0))

-- a link as the code reads it
link_past : (told : Maybe ℕ) (link k : ℕ) → SomeIff told (1 ≤ link) (link - 1) → told ≡ Some k → link ≡ suc k
link_past None link k s e = cc
link_past (Some j) link k s e = let i : j ≡ k = cc in omega (arith, s.0, s.1)

link_none : (told : Maybe ℕ) (link : ℕ) → SomeIff told (1 ≤ link) (link - 1) → told ≡ None → link ≤ 0
link_none None link s e = omega (arith, s)
link_none (Some j) link s e = cc

module _ {first next : List ℕ} {o : ℕ} {l₀ : List ℕ} {at : ℕ} {l : List ℕ} {end link : ℕ} (v : Appending first next o l₀ at l end link) {told : Maybe ℕ} (i : SomeIff told (1 ≤ link) (link - 1)) {k : ℕ} (h : told ≡ Some k) where
  abbrev turn : Parts next v.rest k
  turn = parts next v.rest link k v.told (link_past told link k i h)

  pub told_low : k + 1 ≤ 256
  told_low = omega (arith, turn.low)

  pub told_fits : k < 2 ^ 32
  told_fits = omega (arith, turn.low)

  pub told_inside : Links (linked_to first next) first next → k < length next
  told_inside e = omega (arith, turn.low, e.nexts)

module _ {first next : List ℕ} {o left : ℕ} {l₀ : List ℕ} {at : ℕ} {l : List ℕ} {end link : ℕ} (v : Appending first next o l₀ at l end link)
    (fits : at + left ≤ length l₀) (most : length (dependents first next o) ≤ left) where
  abbrev all : List ℕ
  all = dependents first next o

  long_front : length (take end l) ≡ end
  long_front = length-take-le end l (omega (arith, v.room, v.long))

  -- what is still to come has room
  counted : end + length (visits first next v.rest) ≡ at + length all
  counted =
      let a = length-append (take end l) (visits first next v.rest) in
      let b = length-append (take at l₀) all in
      let c = ap length v.done in
      omega (arith, long_front, length-take-le at l₀ (omega arith))

  module _ {told : Maybe ℕ} (i : SomeIff told (1 ≤ link) (link - 1)) (h : told ≡ None) where
    rest_none : visits first next v.rest ≡ []
    unfolding flat_map
    rest_none = rw (none_linked next v.rest link v.told (link_none told link i h))

    pub appended_to : end ≡ at + length all
    appended_to = omega (arith, counted, ap length rest_none)

    pub appended : l ≡ take at l₀ ++ (all ++ drop end l₀)
    appended =
        let e : take end l ≡ take at l₀ ++ all = sym (append-nil (take end l)) ∙ (ap {B = List ℕ} (λ r. take end l ++ r) (sym rest_none) ∙ v.done) in
        sym (take-append-drop end l) ∙ rw (e, v.beyond) (append_assoc (take at l₀) all (drop end l₀))

  module _ {told : Maybe ℕ} (i : SomeIff told (1 ≤ link) (link - 1)) {k : ℕ} (h : told ≡ Some k) where
    abbrev others : List ℕ
    others = (turn v i h).others

    abbrev S : List ℕ
    S = dependents first next (k + 1)

    visited : visits first next v.rest ≡ (S ++ (k ∷ [])) ++ visits first next others
    unfolding flat_map
    visited = let c : suc k ≡ k + 1 = omega arith in ap (visits first next) (turn v i h).parted ∙ rw c

    -- what was appended, what runs below the change, and the change itself are among those of the owner
    below_room : end + length S + 1 ≤ at + length all
    below_room =
        let a = length-append (S ++ (k ∷ [])) (visits first next others) in
        let c = length-append S (k ∷ []) in
        omega (arith, counted, ap length visited)

    pub some_left : 1 ≤ left - (end - at)
    some_left = omega (arith, below_room, v.from)

    pub left_falls : (t : ℕ) → left ≡ t → left - (end - at) - 1 < t
    left_falls t u = omega (arith, some_left)

    pub left_room : end + (left - (end - at) - 1) ≤ length l
    left_room = omega (arith, some_left, v.from, v.long)

    pub below_most : length S ≤ left - (end - at) - 1
    below_most = omega (arith, below_room, v.from)

    module _ (place : ℕ) (l₁ : List ℕ) (p : place ≡ end + length S) (m : length l₁ ≡ length l) where
      pub place_inside : place < length l₁
      place_inside = omega (arith, below_room, v.long)

      pub unvisited_fall : left - (place + 1 - at) < left - (end - at)
      unvisited_fall = omega (arith, some_left, v.from)

      module _ (s : l₁ ≡ take end l ++ (S ++ drop place l)) where
        parted : l₁ ≡ (take end l ++ S) ++ drop place l
        parted = s ∙ sym (append_assoc (take end l) S (drop place l))

        long_parted : length (take end l ++ S) ≡ place
        long_parted = length-append (take end l) S ∙ omega (arith, long_front)

        front : take place l₁ ≡ take end l ++ S
        front = rw parted (take_at (take end l ++ S) (drop place l) place long_parted)

        back : drop (place + 1) l₁ ≡ drop (place + 1) l
        back =
            rw (← drop-drop 1 place l₁, ← drop-drop 1 place l)
            (ap (drop 1) (ap (drop place) parted ∙ drop_at (take end l ++ S) (drop place l) place long_parted))

        further : drop (place + 1) l ≡ drop (place + 1) l₀
        further =
            let d : place + 1 ≡ end + (length S + 1) = omega arith in
            rw (d, ← drop-drop (length S + 1) end l, ← drop-drop (length S + 1) end l₀, v.beyond)

        written : take (place + 1) (set l₁ place k) ++ visits first next others ≡ take end l ++ ((S ++ (k ∷ [])) ++ visits first next others)
        written = rw (add-one place, take-suc-set l₁ place k place_inside, front) (simp append_assoc)

        pub appending_next : (link' : ℕ) → link' ≡ get_or next k 0 → Appending first next o l₀ at (set l₁ place k) (place + 1) link'
        appending_next link' e = record {
          rest = others;
          told = rw e (turn v i h).linked;
          from = omega (arith, v.from);
          room = omega (arith, below_room);
          long = simp length-set (m ∙ v.long);
          done = written ∙ (ap {B = List ℕ} (λ r. take end l ++ r) (sym visited) ∙ v.done);
          beyond = drop-set-lt (place + 1) l₁ place k (omega arith) ∙ (back ∙ further);
        }

-- ── All changes ─────────────────────────────────────────────────────────────────────────────────────────────

chain_linked : (next : List ℕ) (m k : ℕ) (qs : List ℕ) → Linked next k qs → length qs ≤ m → chain next m k ≡ qs
unfolding chain
chain_linked next zero k [] h p = refl
chain_linked next (suc m) k [] h p = rw h
chain_linked next zero k (q ∷ qs) h p = absurd (omega arith)
chain_linked next (suc m) k (q ∷ qs) h p = rw (h.0, chain_linked next m (get_or next q 0) qs h.2 (omega arith))

module _ (w first next ranked : List ℕ) (n : ℕ) (told : ranked ≡ ranked_places w n) (v : Links (owned_by w ranked) first next) (few : n ≤ 256) where
  long : length ranked ≡ n
  long = rw told (length_ranked w n)

  linked_kept : (o : ℕ) → o ≤ 256 → linked_to first next o ≡ owned_by w ranked o
  linked_kept o h = chain_linked next 256 (get_or first o 0) (owned_by w ranked o) (v.told o h) (omega (arith, keep_length (owned_at w o) ranked, long))

  pub links_kept : Links (linked_to first next) first next
  links_kept = record { firsts = v.firsts; nexts = v.nexts; told = λ o h. rw (linked_kept o h) (v.told o h) }

  linked_runs_lem : (m o : ℕ) → o ≤ 256 → linked_runs first next m o ≡ runs w ranked m o
  unfolding linked_runs runs ordered owned_at owner_told flat_map
  linked_runs_lem zero o h = refl
  linked_runs_lem (suc m) o h = rw (linked_kept o h) (go (linked_runs_lem m) (get_or first o 0) (owned_by w ranked o) (v.told o h))
    where
      go : ((o : ℕ) → o ≤ 256 → linked_runs first next m o ≡ runs w ranked m o) → (k : ℕ) (qs : List ℕ) → Linked next k qs
          → flat_map (λ q. linked_runs first next m (suc q) ++ (q ∷ [])) qs ≡ flat_map (λ q. runs w ranked m (suc q) ++ (q ∷ [])) qs
      go same k [] l = refl
      go same k (q ∷ qs) l = rw (same (suc q) (omega (arith, l.1)), go same (get_or next q 0) qs l.2)

  -- what the links tell runs
  all_run : dependents first next 0 ≡ running_places w n
  all_run = linked_runs_lem 257 0 (omega arith) ∙ rw told (runs_all w n 257 (omega arith))

  pub all_most : length (dependents first next 0) ≤ length ranked
  all_most = rw (all_run, long) (running_most w n)

  pub all_counted : (r : ℕ) → r ≡ 0 + length (dependents first next 0) → r ≡ length (running_places w n)
  all_counted r q = q ∙ rw all_run (zero-add (length (running_places w n)))

  pub all_written : (r : ℕ) (l₀ l : List ℕ) → l ≡ take 0 l₀ ++ (dependents first next 0 ++ drop r l₀) → l ≡ running_places w n ++ drop r l₀
  all_written r l₀ l q = q ∙ rw all_run
