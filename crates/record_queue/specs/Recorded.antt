-- The recorded changes, each with the place in the batch's list where its elements start.
-- Assumes nothing.
use Rattle.std.specs.Prelude.{Bool, true, false, cond, ◌≡◌, refl, ℕ, suc, ◌+◌, length, take, drop, ltb, eqb}
use mathlib.Core.List.{List, [], ◌∷◌, ◌++◌, map, foldl}
use Rattle.std.proofs.Math.Option
use Rattle.std.proofs.Math.Option.{Option, none, some}
use Rattle.std.proofs.Common.{ap, ◌∙◌}
use Rattle.definition.specs.Refusals.{Call}
use Rattle.definition.specs.Recording.{Recorded, Change, insert, replace, delete, replace_with_many, replace_all, change, merges, idle, merged, merge, queued, Queues, record_call, recorded}
use Rattle.definition.specs.Running.{news}
use Rattle.definition_laws.specs.Stages.{asks}
use Rattle.record_queue.specs.Queueing.{put, through, through_map, asks_any}

-- ── The definition's recording, in one form ─────────────────────────────────────────────────────────────────

-- both are calls 2 or 3 of one element
unfoldable pub meets : Change → Change → Bool
meets (insert p x l) d = false
meets (replace x y) d = merges x d
meets (delete x) d = merges x d
meets (replace_with_many x l) d = false
meets (replace_all x y l) d = false

abbrev meets_recorded : Recorded → Recorded → Bool
meets_recorded c d = meets c.change d.change

-- what a call asks; nothing where a further editor starts
unfoldable pub asked : Call → Option Recorded
asked c = cond (eqb c.operation 6) none (some (asks c))

put_merge : (x : ℕ) (c : Recorded) → ((d : Change) → meets c.change d ≡ merges x d) → (q : List Recorded) → put meets_recorded merged c q ≡ merge x c q
unfolding put merge
put_merge x c e [] = refl
put_merge x c e (d ∷ q) = rw (e d.change, put_merge x c e q)

put_end : (c : Recorded) → ((d : Change) → meets c.change d ≡ false) → (q : List Recorded) → put meets_recorded merged c q ≡ q ++ (c ∷ [])
unfolding put
put_end c e [] = refl
put_end c e (d ∷ q) = rw (e d.change, put_end c e q)

put_queued : (c : Change) (n : ℕ) (q : List Recorded) → put meets_recorded merged (record { change = c; rule = n }) q ≡ queued c n q
unfolding queued meets
put_queued (insert p x l) n q = put_end (record { change = insert p x l; rule = n }) (λ d. refl) q
put_queued (replace x y) n q = put_merge x (record { change = replace x y; rule = n }) (λ d. refl) q
put_queued (delete x) n q = put_merge x (record { change = delete x; rule = n }) (λ d. refl) q
put_queued (replace_with_many x l) n q = put_end (record { change = replace_with_many x l; rule = n }) (λ d. refl) q
put_queued (replace_all x y l) n q = put_end (record { change = replace_all x y l; rule = n }) (λ d. refl) q

-- the queues joined
abbrev all : Queues → List Recorded
all q = q.joined ++ q.queue

through_calls : (js q : List Recorded) (cs : List Call) → through meets_recorded merged js q (map asked cs) ≡ all (foldl record_call (record { joined = js; queue = q }) cs)
unfolding through asked record_call
through_calls js q [] = refl
through_calls js q (c ∷ cs) = go (eqb c.operation 6) (through_calls (js ++ q) [] cs) (through_calls js (queued (change c) c.rule q) cs)
  where
    go : (t : Bool)
        → through meets_recorded merged (js ++ q) [] (map asked cs) ≡ all (foldl record_call (record { joined = js ++ q; queue = [] }) cs)
        → through meets_recorded merged js (queued (change c) c.rule q) (map asked cs) ≡ all (foldl record_call (record { joined = js; queue = queued (change c) c.rule q }) cs)
        → through meets_recorded merged js q (cond t none (some (asks c)) ∷ map asked cs) ≡ all (foldl record_call (cond t (record { joined = js ++ q; queue = [] }) (record { joined = js; queue = queued (change c) c.rule q })) cs)
    go true f g = f
    go false f g = ap (λ (p : List Recorded). through meets_recorded merged js p (map asked cs)) (put_queued (change c) c.rule q) ∙ g

pub through_recorded : (cs : List Call) → through meets_recorded merged [] [] (map asked cs) ≡ recorded cs
unfolding recorded
through_recorded cs = through_calls [] [] cs

-- ── Where the elements stand ────────────────────────────────────────────────────────────────────────────────

-- "5: replace the run from the target to the first listed element by the other listed ones": where what goes in starts, for a call whose listed elements start at `at`
unfoldable pub news_at : ℕ → Call → ℕ
news_at at c = cond (ltb c.operation 5) at (suc at)

-- what a call asks, and where its elements start
unfoldable pub asked_at : ℕ → Call → Option (ℕ × Recorded)
asked_at at c = cond (eqb c.operation 6) none (some (news_at at c, asks c))

-- what calls ask, of which the first one's listed elements start at `at`
unfoldable pub all_asked : ℕ → List Call → List (Option (ℕ × Recorded))
all_asked at [] = []
all_asked at (c ∷ cs) = asked_at at c ∷ all_asked (at + length c.listed) cs

abbrev pub meets_at : ℕ × Recorded → ℕ × Recorded → Bool
meets_at c d = meets c.1.change d.1.change

-- as the definition merges: what "had the last effect" goes on, with its number and its place
unfoldable pub merged_at : ℕ × Recorded → ℕ × Recorded → ℕ × Recorded
merged_at c d = cond (idle c.1.change d.1.change) d c

-- what holds of both holds of what is merged
pub merged_keeps : (P : ℕ × Recorded → Type 0) (c d : ℕ × Recorded) → P c → P d → P (merged_at c d)
unfolding merged_at
merged_keeps P c d a b = go (idle c.1.change d.1.change)
  where
    go : (t : Bool) → P (cond t d c)
    go true = b
    go false = a

-- all that is recorded, each with the place where its elements start
unfoldable pub recorded_at : List Call → List (ℕ × Recorded)
recorded_at cs = through meets_at merged_at [] [] (all_asked 0 cs)

-- the elements that a change puts in stand in l, from its place on
abbrev pub StandsIn : List ℕ → ℕ × Recorded → Type 0
StandsIn l p = take (length (news p.1.change)) (drop p.0 l) ≡ news p.1.change

-- a pair's second part
abbrev pub snd : ℕ × Recorded → Recorded
snd p = p.1

merged_alike : (c d : ℕ × Recorded) → snd (merged_at c d) ≡ merged (snd c) (snd d)
unfolding merged_at merged
merged_alike c d = go (idle c.1.change d.1.change)
  where
    go : (t : Bool) → snd (cond t d c) ≡ cond t (snd d) (snd c)
    go true = refl
    go false = refl

asked_alike : (at : ℕ) (cs : List Call) → map (Option.map snd) (all_asked at cs) ≡ map asked cs
unfolding all_asked asked_at asked
asked_alike at [] = refl
asked_alike at (c ∷ cs) = rw (asked_alike (at + length c.listed) cs) (go (eqb c.operation 6))
  where
    go : (t : Bool) → Option.map snd (cond t none (some (news_at at c, asks c))) ∷ map asked cs ≡ cond t none (some (asks c)) ∷ map asked cs
    go true = refl
    go false = refl

-- WHAT IS RECORDED is the definition's
pub recorded_changes : (cs : List Call) → map snd (recorded_at cs) ≡ recorded cs
unfolding recorded_at
recorded_changes cs =
    through_map meets_at merged_at meets_recorded merged snd (λ c. Unit {0}) (λ c d a b. tt) (λ c d. refl) (λ c d a b. merged_alike c d) [] [] (all_asked 0 cs) tt (asks_any (all_asked 0 cs))
    ∙ (rw (asked_alike 0 cs) (through_recorded cs))
