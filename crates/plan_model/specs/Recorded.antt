-- What is known of each recorded change of an accepted batch, and of the listed elements.
-- Assumes nothing.
use Rattle.std.specs.Prelude.{Bool, cond, ◌≡◌, take, drop, leb, eqb}
use Rattle.std.proofs.Math.Bool.{true, false}
use mathlib.Core.List.{List, [], ◌∷◌, head_d}
use Rattle.std.proofs.Math.Option.{none, some, map}
use Rattle.std.proofs.Math.Path.{refl}
use Rattle.std.proofs.Common.{subst, length-drop, take-append-drop, length-take-le}
use Prim.Native.Nat.{ℕ, zero, suc, ◌+◌, ◌≤◌, ◌<◌}
use native.Mathlib.Omega.{arith}
use Rattle.std.proofs.Math.ListN.{length}
use borrow.Author.Tests.{leb-true, ltb-false}
use Rattle.orders.specs.Lists.{All}
use Rattle.orders.specs.ListLaws.{bool_absurd, either_false, none_some, some_inj, map_some, All-map, All-map₂, none_passes}
use Rattle.definition.specs.Basics.{any, among}
use Rattle.definition.specs.Elements.{Table}
use Rattle.definition.specs.Refusals.{count_of, Call, call_of, calls, wrong_count, wrong_call}
use Rattle.definition.specs.Recording.{Recorded, change, run, replace_with_many, replace_all}
use Rattle.definition.specs.Running.{news}
use Rattle.definition_laws.specs.Basics.{All-append, map_All}
use Rattle.definition_laws.specs.Right.{Right, judged, change_right, change_lists}
use Rattle.definition_laws.specs.Plans.{calls_ruled}
use Rattle.definition_laws.specs.Stages.{asks, recorded_all}
use Rattle.record_queue.specs.Queueing.{Asks, through_all}
use Rattle.record_queue.specs.Recorded.{news_at, asked_at, all_asked, meets_at, merged_at, merged_keeps, recorded_at, StandsIn, snd, recorded_changes}
use Rattle.record_queue.specs.CallList.{call_as, names_elements}
use Rattle.record_queue.specs.Placed.{recorded_stand}

-- ── The listed elements ─────────────────────────────────────────────────────────────────────────────────────

-- all of them are elements, since each belongs to a call
pub listed_elements : (T : Table) (cs : List (ℕ × ℕ)) (l : List ℕ) (r : List Call) → calls cs l ≡ some r → any (wrong_call T) r ≡ false → All (λ e. e < length T) l
unfolding calls any
listed_elements T [] [] r e q = tt
listed_elements T [] (x ∷ l) r e q = none_some e
listed_elements T (c ∷ cs) l r e q = go (leb (count_of c.0) (length l)) refl e (listed_elements T cs (drop (count_of c.0) l))
  where
    k : ℕ
    k = count_of c.0

    d : Call
    d = call_of c.0 c.1 (take k l)

    go : (t : Bool) → leb k (length l) ≡ t → cond t (map (λ r. d ∷ r) (calls cs (drop k l))) none ≡ some r
        → ((m : List Call) → calls cs (drop k l) ≡ some m → any (wrong_call T) m ≡ false → All (λ e. e < length T) (drop k l))
        → All (λ e. e < length T) l
    go false t e f = none_some e
    go true t e f =
        let (m, em, er) = map_some (λ (r : List Call). d ∷ r) (calls cs (drop k l)) e in
        let (a, b) = either_false (wrong_call T d) (any (wrong_call T) m) (rw (← er) at q) in
        subst (All (λ e. e < length T)) (take-append-drop k l) (All-append (λ e. e < length T) (take k l) (drop k l) (names_elements T d a).1 (f m em b))

-- ── Where the elements of a change stand ────────────────────────────────────────────────────────────────────

-- they end within the batch's list
abbrev pub EndsIn : List ℕ → ℕ × Recorded → Type 0
EndsIn l p = p.0 + length (news p.1.change) ≤ length l

module _ (T : Table) (N at x n : ℕ) where
  run_ends : (l : List ℕ) → wrong_count 5 (length l) ≡ false → at + length l ≤ N → suc at + length (news (change (call_as 5 x l n))) ≤ N
  unfolding change run news head_d wrong_count among any
  run_ends [] w h = bool_absurd refl w
  run_ends (y ∷ l) w h = go (eqb x y)
    where
      go : (t : Bool) → suc at + length (news (cond t (replace_with_many x l) (replace_all x y l))) ≤ N
      go true = omega arith
      go false = omega arith

  ends : (op : ℕ) (l : List ℕ) → wrong_call T (call_as op x l n) ≡ false → at + length l ≤ N → eqb op 6 ≡ false → news_at at (call_as op x l n) + length (news (change (call_as op x l n))) ≤ N
  unfolding news_at
  ends zero l w h e = omega (arith, change_lists T (call_as 0 x l n) w)
  ends (suc zero) l w h e = omega (arith, change_lists T (call_as 1 x l n) w)
  ends (suc (suc zero)) l w h e = omega (arith, change_lists T (call_as 2 x l n) w)
  ends (suc (suc (suc zero))) l w h e = omega (arith, change_lists T (call_as 3 x l n) w)
  ends (suc (suc (suc (suc zero)))) l w h e = omega (arith, change_lists T (call_as 4 x l n) w)
  ends (suc (suc (suc (suc (suc zero))))) l w h e = run_ends l (judged T (call_as 5 x l n) w).count h
  ends (suc (suc (suc (suc (suc (suc zero)))))) l w h e = bool_absurd refl e
  ends (suc (suc (suc (suc (suc (suc (suc op))))))) l w h e = absurd (omega (arith, ltb-false 6 (suc (suc (suc (suc (suc (suc (suc op))))))) (judged T (call_as (suc (suc (suc (suc (suc (suc (suc op))))))) x l n) w).known))

all_end : (T : Table) (L : List ℕ) (cs : List (ℕ × ℕ)) (at : ℕ) (l : List ℕ) (r : List Call) → at + length l ≤ length L → calls cs l ≡ some r → any (wrong_call T) r ≡ false → All (Asks (EndsIn L)) (all_asked at r)
unfolding calls all_asked any asked_at
all_end T L [] at [] r e q w = rw (← some_inj q) tt
all_end T L [] at (x ∷ l) r e q w = none_some q
all_end T L (c ∷ cs) at l r e q w = go (leb (count_of c.0) (length l)) refl q (all_end T L cs)
  where
    k : ℕ
    k = count_of c.0

    d : Call
    d = call_of c.0 c.1 (take k l)

    asked_ends : wrong_call T d ≡ false → k ≤ length l → Asks (EndsIn L) (asked_at at d)
    asked_ends a h = one (eqb d.operation 6) (ends T (length L) at c.1 d.rule d.operation (take k l) a (rw (length-take-le k l h) (omega arith)))
      where
        one : (t : Bool) → (t ≡ false → news_at at d + length (news (change d)) ≤ length L) → Asks (EndsIn L) (cond t none (some (news_at at d, asks d)))
        one true f = tt
        one false f = f refl

    go : (t : Bool) → leb k (length l) ≡ t → cond t (map (λ r. d ∷ r) (calls cs (drop k l))) none ≡ some r
        → ((at : ℕ) (l : List ℕ) (r : List Call) → at + length l ≤ length L → calls cs l ≡ some r → any (wrong_call T) r ≡ false → All (Asks (EndsIn L)) (all_asked at r))
        → All (Asks (EndsIn L)) (all_asked at r)
    go false t q f = none_some q
    go true t q f =
        let (m, em, er) = map_some (λ (r : List Call). d ∷ r) (calls cs (drop k l)) q in
        let (a, b) = either_false (wrong_call T d) (any (wrong_call T) m) (rw (← er) at w) in
        let h : k ≤ length l = leb-true k (length l) t in
        rw (← er) (asked_ends a h, f (at + length (take k l)) (drop k l) m (rw (length-take-le k l h) (omega (arith, length-drop k l))) em b)

recorded_ends : (T : Table) (cs : List (ℕ × ℕ)) (l : List ℕ) (r : List Call) → calls cs l ≡ some r → any (wrong_call T) r ≡ false → All (EndsIn l) (recorded_at r)
unfolding recorded_at
recorded_ends T cs l r q w = through_all meets_at merged_at (EndsIn l) (merged_keeps (EndsIn l)) [] [] (all_asked 0 r) tt tt (all_end T l cs 0 l r (omega arith) q w)

-- ── All that is known ───────────────────────────────────────────────────────────────────────────────────────

-- its elements stand in the list at its place, line 6 would not refuse it, and its rule number has twelve bits
pub record Known (T : Table) (listed : List ℕ) (p : ℕ × Recorded) : Type 0 where
  pub stands : StandsIn listed p
  pub ends : EndsIn listed p
  pub right : Right T p.1.change
  pub ruled : p.1.rule < 4096

pub recorded_known : (T : Table) (cs : List (ℕ × ℕ)) (l : List ℕ) (r : List Call) → calls cs l ≡ some r → any (wrong_call T) r ≡ false → All (Known T l) (recorded_at r)
recorded_known T cs l r q w =
    let rights : All (λ p. Right T p.1.change) (recorded_at r) =
    map_All (λ q. Right T q.change) snd (recorded_at r) (rw (recorded_changes r) (recorded_all (λ q. Right T q.change) r (All-map (λ c e h. change_right T c e h) r (none_passes (wrong_call T) r w)))) in
    let rules : All (λ p. p.1.rule < 4096) (recorded_at r) =
    map_All (λ q. q.rule < 4096) snd (recorded_at r) (rw (recorded_changes r) (recorded_all (λ q. q.rule < 4096) r (All-map (λ c s h. s) r (calls_ruled cs l r q)))) in
    All-map₂ (λ p s k. record { stands = s; ends = k.0; right = k.1.0; ruled = k.1.1 }) (recorded_at r) (recorded_stand T cs l r q w)
    (All-map₂ {P = EndsIn l} {Q = λ p. Right T p.1.change × (p.1.rule < 4096)} {R = λ p. EndsIn l p × (Right T p.1.change × (p.1.rule < 4096))} (λ p e k. (e, k)) (recorded_at r) (recorded_ends T cs l r q w)
    (All-map₂ {P = λ p. Right T p.1.change} {Q = λ p. p.1.rule < 4096} {R = λ p. Right T p.1.change × (p.1.rule < 4096)} (λ p e k. (e, k)) (recorded_at r) rights rules))
