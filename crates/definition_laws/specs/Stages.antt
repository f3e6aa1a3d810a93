-- From calls to performed changes: what each stage (recording, sorting, planning, rewriting, ordering) keeps of every change.
-- Assumes nothing.
use Rattle.std.proofs.Math.Path.{◌≡◌, refl, ap}
use Rattle.std.proofs.Common.{◌∙◌, eq-eqb, ne_eqb}
use Rattle.std.specs.Prelude.{Bool}
use Rattle.std.proofs.Math.Bool.{true, false, cond}
use mathlib.Core.List.{List, [], ◌∷◌, ◌++◌, map, zip_with, foldl}
use Rattle.std.proofs.Math.Option.{Option, none, some}
use Prim.Native.Nat.{ℕ, zero, suc, ◌+◌, ◌*◌, ◌≤◌, ◌<◌}
use native.Mathlib.Omega.{arith}
use Rattle.std.proofs.Math.Dec.{eqb}
use Rattle.std.proofs.Math.ListN.{length, get_or, length-map}
use Rattle.orders.specs.Lists.{All, total}
use Rattle.orders.specs.Tree.{Path}
use Rattle.orders.specs.ListLaws.{bool_absurd}
use Rattle.definition.specs.Basics.{Answer, refused, gives, refuse, or_refuse, keep, numbered, rising, falling, lower}
use Rattle.definition.specs.Choices.{Choices}
use Rattle.definition.specs.Elements.{Table, parent, child, place_below}
use Rattle.definition.specs.Refusals.{Call, wrong_call}
use Rattle.definition.specs.Recording.{Recorded, Change, insert, replace, delete, replace_with_many, replace_all, change, call, merges, idle, merged, merge, queued, Queues, record_call, recorded}
use Rattle.definition.specs.Planning.{Fate, own, dependent, discarded, Planned, Region, target, sorted, key, overlap, fates_from, fates, changes_of, with_fates, Judgement, overlaps, fated}
use Rattle.definition.specs.EdgeRule.{fate_among, fates1, fates_by, planned, judge}
use Rattle.definition.specs.Rewriting.{replacement, mapped_or, climb, trail, land, moved, retarget, rewrite_into, rewrite_one, rewriting, rewritten}
use Rattle.definition.specs.Running.{news, owned, ranked, order}
use Rattle.definition_laws.specs.Basics.{All-append, All-keep, All-flatMap, total_append, total_le, total_zeros, total_flat_map}
use Rattle.definition_laws.specs.Answers.{gives_inj, refused_gives, both_given, not_wrong}
use Rattle.definition_laws.specs.Sorting.{sort_all, sort_total}
use Rattle.definition_laws.specs.Right.{Right}

-- ── Recording ───────────────────────────────────────────────────────────────────────────────────────────────

-- how many elements a change lists
abbrev pub lists : Change → ℕ
lists c = length (news c)

-- and all changes of a list together
abbrev pub lists_all : List Change → ℕ
lists_all cs = total (λ c. true) lists cs

total_nil : {A : Type 0} (p : A → Bool) (f : A → ℕ) → total p f [] ≡ 0
unfolding total
total_nil p f = refl

-- what a call asks to be recorded
abbrev pub asks : Call → Recorded
asks c = record { change = change c; rule = c.rule }

-- a queue after one more change: as many changes or one more, each of them there before or new
module _ (P : Recorded → Type 0) where
  merged_one : (c d : Recorded) → P c → P d → P (merged c d)
  unfolding merged
  merged_one c d h k = go (idle c.change d.change)
    where
      go : (b : Bool) → P (cond b d c)
      go true = k
      go false = h

  merge_all : (x : ℕ) (c : Recorded) (q : List Recorded) → P c → All P q → All P (merge x c q)
  unfolding merge
  merge_all x c [] h k = (h, tt)
  merge_all x c (d ∷ q) h k = go (merges x d.change) (merge_all x c q h k.1)
    where
      go : (b : Bool) → All P (merge x c q) → All P (cond b (merged c d ∷ q) (d ∷ merge x c q))
      go true r = (merged_one c d h k.0, k.1)
      go false r = (k.0, r)

  pub queued_all : (c : Change) (n : ℕ) (q : List Recorded) → P (record { change = c; rule = n }) → All P q → All P (queued c n q)
  unfolding queued
  queued_all (insert p x l) n q h k = All-append P q (record { change = insert p x l; rule = n } ∷ []) k (h, tt)
  queued_all (replace x y) n q h k = merge_all x (record { change = replace x y; rule = n }) q h k
  queued_all (delete x) n q h k = merge_all x (record { change = delete x; rule = n }) q h k
  queued_all (replace_with_many x l) n q h k = All-append P q (record { change = replace_with_many x l; rule = n } ∷ []) k (h, tt)
  queued_all (replace_all x y l) n q h k = All-append P q (record { change = replace_all x y l; rule = n } ∷ []) k (h, tt)

-- of a number told of each change, a queue's sum grows by the new change's at most
module _ (f : Recorded → ℕ) where
  merged_total : (c d : Recorded) → f (merged c d) ≤ f d + f c
  unfolding merged
  merged_total c d = go (idle c.change d.change)
    where
      go : (b : Bool) → f (cond b d c) ≤ f d + f c
      go true = omega arith
      go false = omega arith

  merge_total : (x : ℕ) (c : Recorded) (q : List Recorded) → total (λ d. true) f (merge x c q) ≤ total (λ d. true) f q + f c
  unfolding merge total
  merge_total x c [] = omega arith
  merge_total x c (d ∷ q) = go (merges x d.change) (merge_total x c q)
    where
      go : (b : Bool) → total (λ d. true) f (merge x c q) ≤ total (λ d. true) f q + f c → total (λ d. true) f (cond b (merged c d ∷ q) (d ∷ merge x c q)) ≤ f d + total (λ d. true) f q + f c
      go true r = omega (arith, merged_total c d)
      go false r = omega arith

  pub queued_total : (c : Change) (n : ℕ) (q : List Recorded) → total (λ d. true) f (queued c n q) ≤ total (λ d. true) f q + f (record { change = c; rule = n })
  unfolding queued total
  queued_total (insert p x l) n q = omega (arith, total_append (λ d. true) f q (record { change = insert p x l; rule = n } ∷ []))
  queued_total (replace x y) n q = merge_total x (record { change = replace x y; rule = n }) q
  queued_total (delete x) n q = merge_total x (record { change = delete x; rule = n }) q
  queued_total (replace_with_many x l) n q = omega (arith, total_append (λ d. true) f q (record { change = replace_with_many x l; rule = n } ∷ []))
  queued_total (replace_all x y l) n q = omega (arith, total_append (λ d. true) f q (record { change = replace_all x y l; rule = n } ∷ []))

-- before the first call
abbrev empty : Queues
empty = record { joined = []; queue = [] }

-- all changes that are recorded come from calls other than 6
module _ (P : Recorded → Type 0) where
  record_one : (q : Queues) (c : Call) → All P q.joined → All P q.queue → (eqb c.operation 6 ≡ false → P (asks c)) → All P (record_call q c).joined × All P (record_call q c).queue
  unfolding record_call
  record_one q c h k g = go (eqb c.operation 6) refl
    where
      go : (b : Bool) → eqb c.operation 6 ≡ b
          → let r : Queues = cond b (record { joined = q.joined ++ q.queue; queue = [] }) (record { joined = q.joined; queue = queued (change c) c.rule q.queue }) in All P r.joined × All P r.queue
      go true e = (All-append P q.joined q.queue h k, tt)
      go false e = (h, queued_all P (change c) c.rule q.queue (g e) k)

  record_all : (q : Queues) (cs : List Call) → All P q.joined → All P q.queue → All (λ c. eqb c.operation 6 ≡ false → P (asks c)) cs
      → All P (foldl record_call q cs).joined × All P (foldl record_call q cs).queue
  record_all q [] h k g = (h, k)
  record_all q (c ∷ cs) h k g = let r = record_one q c h k g.0 in record_all (record_call q c) cs r.0 r.1 g.1

  pub recorded_all : (cs : List Call) → All (λ c. eqb c.operation 6 ≡ false → P (asks c)) cs → All P (recorded cs)
  unfolding recorded
  recorded_all cs g = let r = record_all empty cs tt tt g in All-append P (foldl record_call empty cs).joined (foldl record_call empty cs).queue r.0 r.1

module _ (f : Recorded → ℕ) (g : Call → ℕ) where
  record_one_total : (q : Queues) (c : Call) → (eqb c.operation 6 ≡ false → f (asks c) ≤ g c)
      → total (λ d. true) f (record_call q c).joined + total (λ d. true) f (record_call q c).queue ≤ total (λ d. true) f q.joined + total (λ d. true) f q.queue + g c
  unfolding record_call
  record_one_total q c h = go (eqb c.operation 6) refl
    where
      go : (b : Bool) → eqb c.operation 6 ≡ b
          → let r : Queues = cond b (record { joined = q.joined ++ q.queue; queue = [] }) (record { joined = q.joined; queue = queued (change c) c.rule q.queue }) in
          total (λ d. true) f r.joined + total (λ d. true) f r.queue ≤ total (λ d. true) f q.joined + total (λ d. true) f q.queue + g c
      go true e = omega (arith, total_append (λ d. true) f q.joined q.queue, total_nil (λ c. true) f)
      go false e = omega (arith, queued_total f (change c) c.rule q.queue, h e)

  record_total : (q : Queues) (cs : List Call) → All (λ c. eqb c.operation 6 ≡ false → f (asks c) ≤ g c) cs
      → total (λ c. true) f (foldl record_call q cs).joined + total (λ c. true) f (foldl record_call q cs).queue ≤ total (λ c. true) f q.joined + total (λ c. true) f q.queue + total (λ c. true) g cs
  unfolding total
  record_total q [] h = omega arith
  record_total q (c ∷ cs) h = omega (arith, record_total (record_call q c) cs h.1, record_one_total q c h.0)

  pub recorded_total : (cs : List Call) → All (λ c. eqb c.operation 6 ≡ false → f (asks c) ≤ g c) cs → total (λ c. true) f (recorded cs) ≤ total (λ c. true) g cs
  unfolding recorded
  recorded_total cs h = omega (arith, total_append (λ c. true) f (foldl record_call empty cs).joined (foldl record_call empty cs).queue, record_total empty cs h, total_nil (λ c. true) f)

-- ── Planning ────────────────────────────────────────────────────────────────────────────────────────────────

-- changes with fates, as many of each: both are kept
pub with_fates_changes : (rs : List Recorded) (fs : List Fate) → length fs ≡ length rs → map (λ p. p.change) (with_fates rs fs) ≡ changes_of rs
unfolding with_fates changes_of zip_with
with_fates_changes [] fs e = refl
with_fates_changes (c ∷ cs) [] e = absurd (omega arith)
with_fates_changes (c ∷ cs) (f ∷ fs) e = ap {B = List Change} (λ r. c.change ∷ r) (with_fates_changes cs fs (omega arith))

pub with_fates_rules : (rs : List Recorded) (fs : List Fate) → length fs ≡ length rs → map (λ p. p.rule) (with_fates rs fs) ≡ map (λ r. r.rule) rs
unfolding with_fates zip_with
with_fates_rules [] fs e = refl
with_fates_rules (c ∷ cs) [] e = absurd (omega arith)
with_fates_rules (c ∷ cs) (f ∷ fs) e = ap {B = List ℕ} (λ r. c.rule ∷ r) (with_fates_rules cs fs (omega arith))

pub with_fates_fates : (cs : List Recorded) (fs : List Fate) → length fs ≡ length cs → map (λ p. p.fate) (with_fates cs fs) ≡ fs
unfolding with_fates zip_with
with_fates_fates [] [] e = refl
with_fates_fates [] (f ∷ fs) e = absurd (omega arith)
with_fates_fates (c ∷ cs) [] e = absurd (omega arith)
with_fates_fates (c ∷ cs) (f ∷ fs) e = ap {B = List Fate} (λ r. f ∷ r) (with_fates_fates cs fs (omega arith))

-- as many places as elements
pub numbered_length : {A : Type 0} (n : ℕ) (l : List A) → length (numbered n l) ≡ length l
unfolding numbered
numbered_length n [] = refl
numbered_length n (x ∷ l) = ap suc (numbered_length (suc n) l)

module _ (T : Table) where
  fates_from_length : (k : ℕ) (stacks : List (List Region)) (cs : List Change) → length (fates_from T k stacks cs) ≡ length cs
  unfolding fates_from
  fates_from_length k stacks [] = refl
  fates_from_length k stacks (c ∷ cs) = ap suc (fates_from_length (suc k) _ cs)

  -- as many fates as changes, by either rule
  pub fates_length : (cs : List Change) → length (fates T cs) ≡ length cs
  unfolding fates
  fates_length cs = fates_from_length 0 _ cs

  pub fates1_length : (cs : List Change) → length (fates1 T cs) ≡ length cs
  unfolding fates1
  fates1_length cs = length-map (numbered 0 cs) (fate_among T (numbered 0 cs)) ∙ numbered_length 0 cs

  pub sorted_all : (P : Recorded → Type 0) (rs : List Recorded) → All P rs → All P (sorted T rs)
  unfolding sorted rising
  sorted_all P rs h = sort_all (λ (x y : Recorded). lower (key T x.change) (key T y.change)) P rs h

  pub sorted_total : (p : Recorded → Bool) (f : Recorded → ℕ) (rs : List Recorded) → total p f (sorted T rs) ≡ total p f rs
  unfolding sorted rising
  sorted_total p f rs = sort_total (λ (x y : Recorded). lower (key T x.change) (key T y.change)) p f rs

-- by whatever choice
module _ (h : Choices) (T : Table) where
  pub fates_by_length : (cs : List Change) → length (fates_by h T cs) ≡ length cs
  unfolding fates_by
  fates_by_length cs = go (eqb h.edge 0)
    where
      go : (b : Bool) → length (cond b (fates T cs) (fates1 T cs)) ≡ length cs
      go true = fates_length T cs
      go false = fates1_length T cs

  planned_long : (rs : List Recorded) → length (fates_by h T (changes_of rs)) ≡ length rs
  unfolding changes_of
  planned_long rs = fates_by_length (changes_of rs) ∙ length-map rs (λ r. r.change)

  -- planning keeps the changes and their rule numbers, and gives each its fate
  pub planned_changes : (rs : List Recorded) → map (λ p. p.change) (planned h T rs) ≡ changes_of rs
  unfolding planned
  planned_changes rs = with_fates_changes rs (fates_by h T (changes_of rs)) (planned_long rs)

  pub planned_rules : (rs : List Recorded) → map (λ p. p.rule) (planned h T rs) ≡ map (λ r. r.rule) rs
  unfolding planned
  planned_rules rs = with_fates_rules rs (fates_by h T (changes_of rs)) (planned_long rs)

  pub planned_fates : (rs : List Recorded) → map (λ p. p.fate) (planned h T rs) ≡ fates_by h T (changes_of rs)
  unfolding planned
  planned_fates rs = with_fates_fates rs (fates_by h T (changes_of rs)) (planned_long rs)

  -- changes that overlap are judged so, and others are planned
  pub judge_overlap : (rs : List Recorded) (j k : ℕ) → overlap T (changes_of rs) ≡ some (j, k) → judge h T rs ≡ overlaps j k
  unfolding judge
  judge_overlap rs j k e = rw (e, judge)

  pub judge_disjoint : (rs : List Recorded) → overlap T (changes_of rs) ≡ none → judge h T rs ≡ fated (planned h T rs)
  unfolding judge
  judge_disjoint rs e = rw (e, judge)

  pub judge_fated : (rs : List Recorded) (ps : List Planned) → judge h T rs ≡ fated ps → (overlap T (changes_of rs) ≡ none) × (ps ≡ planned h T rs)
  unfolding judge
  judge_fated rs ps e = go (overlap T (changes_of rs)) refl e
    where
      go : (o : Option (ℕ × ℕ)) → overlap T (changes_of rs) ≡ o → elim o as (λ _. Judgement) [ none ↦ fated (planned h T rs) | some p ↦ overlaps p.0 p.1 ] ≡ fated ps → (overlap T (changes_of rs) ≡ none) × (ps ≡ planned h T rs)
      go none g e = (g, cc)
      go (some p) g e = absurd (let z : ◌≡◌ {A = ℕ} 0 1 = cc in omega arith)

  -- the rule that is chosen
  pub fates_by_0 : h.edge ≡ 0 → (cs : List Change) → fates_by h T cs ≡ fates T cs
  unfolding fates_by
  fates_by_0 e cs = rw (eq-eqb h.edge 0 e) refl

  pub fates_by_1 : h.edge ≡ 1 → (cs : List Change) → fates_by h T cs ≡ fates1 T cs
  unfolding fates_by
  fates_by_1 e cs = rw (ne_eqb h.edge 0 (λ z. omega arith)) refl

-- ── Rewriting ───────────────────────────────────────────────────────────────────────────────────────────────

module _ (T : Table) (mapped : ℕ → Option ℕ) where
  -- a climb yields at most as many child numbers as steps are left
  climb_length : (n r x : ℕ) (t q : Path) → climb T mapped n r x t ≡ gives q → length q < length t + n
  unfolding climb
  climb_length zero r x t q e = go (parent T x) e
    where
      go : (o : Option ℕ) → elim o as (λ o. Answer Path) [ none ↦ refused 9 | some p ↦ refused 10 ] ≡ gives q → length q < length t + 0
      go none e = refused_gives e
      go (some p) e = refused_gives e
  climb_length (suc n) r x t q e = go (parent T x) e (λ y. climb_length n r y (child T y ∷ t) q)
    where
      at : (p : ℕ) (b : Bool) → elim b as (λ b. Answer Path) [ true ↦ gives t | false ↦ climb T mapped n r (mapped_or T mapped p) (child T (mapped_or T mapped p) ∷ t) ] ≡ gives q
          → ((y : ℕ) → climb T mapped n r y (child T y ∷ t) ≡ gives q → length q < suc (length t) + n) → length q < length t + suc n
      at p true e ih = omega (arith, ap length (gives_inj e))
      at p false e ih = omega (arith, ih (mapped_or T mapped p) e)

      go : (o : Option ℕ) → elim o as (λ o. Answer Path) [ none ↦ refused 9 | some p ↦ elim (eqb p r) [ true ↦ gives t | false ↦ climb T mapped n r (mapped_or T mapped p) (child T (mapped_or T mapped p) ∷ t) ] ] ≡ gives q
          → ((y : ℕ) → climb T mapped n r y (child T y ∷ t) ≡ gives q → length q < suc (length t) + n) → length q < length t + suc n
      go none e ih = refused_gives e
      go (some p) e ih = at p (eqb p r) e ih

  -- "at most E in each climb"
  pub trail_length : (x r : ℕ) (q : Path) → trail T mapped x r ≡ gives q → length q ≤ length T
  unfolding trail
  trail_length x r q e = go (eqb x r) e
    where
      go : (b : Bool) → elim b as (λ b. Answer Path) [ true ↦ gives [] | false ↦ climb T mapped (length T) r (mapped_or T mapped x) (child T (mapped_or T mapped x) ∷ []) ] ≡ gives q → length q ≤ length T
      go true e = omega (arith, ap length (gives_inj e))
      go false e = omega (arith, climb_length (length T) r (mapped_or T mapped x) (child T (mapped_or T mapped x) ∷ []) q e)

  -- a moved target: at most E climb steps
  moved_steps : (x r e : ℕ) (m : ℕ × ℕ) → moved T mapped x r e ≡ gives m → m.1 ≤ length T
  unfolding moved
  moved_steps x r e m g =
      let (p, a, g) = both_given (or_refuse 9 (place_below T x e)) _ g in
      let (q, b, g) = both_given (trail T mapped x r) _ g in
      let (to, c, g) = both_given (land T mapped e r (q ++ p)) _ g in
      omega (arith, trail_length x r q b, ap (λ z. z.1) (gives_inj g))

  -- retargeting keeps what is listed, and adds the steps of one target or two
  record Retargeted (b : ℕ) (c : Change) (m : Change × ℕ) : Type 0 where
    listed : news m.0 ≡ news c
    steps : m.1 ≤ 2 * b

  retargeted : (f : ℕ → Answer (ℕ × ℕ)) (b : ℕ) → ((x : ℕ) (m : ℕ × ℕ) → f x ≡ gives m → m.1 ≤ b) → (c : Change) (m : Change × ℕ) → retarget T mapped f c ≡ gives m → Retargeted b c m
  unfolding retarget news
  retargeted f b h (insert p x l) m e = let (k, g, z) = both_given (f x) _ e in rw (← gives_inj z) (record { listed = refl; steps = omega (arith, h x k g) })
  retargeted f b h (replace x y) m e = let (k, g, z) = both_given (f x) _ e in rw (← gives_inj z) (record { listed = refl; steps = omega (arith, h x k g) })
  retargeted f b h (delete x) m e = let (k, g, z) = both_given (f x) _ e in rw (← gives_inj z) (record { listed = refl; steps = omega (arith, h x k g) })
  retargeted f b h (replace_with_many x l) m e = let (k, g, z) = both_given (f x) _ e in rw (← gives_inj z) (record { listed = refl; steps = omega (arith, h x k g) })
  retargeted f b h (replace_all x y l) m e =
      let (k, g, z) = both_given (f x) _ e in
      let (j, g', z') = both_given (f y) _ z in
      rw (← gives_inj z') (record { listed = refl; steps = omega (arith, h x k g, h y j g') })

  -- one change rewritten
  pub record Rewrote (c : Change) (m : Change × ℕ) : Type 0 where
    pub listed : news m.0 ≡ news c
    pub right : Right T c → Right T m.0
    pub steps : m.1 ≤ 2 * length T

  rewrote : (cs : List Change) (f : Fate) (c : Change) (m : Change × ℕ) → rewrite_one T mapped cs f c ≡ gives m → Rewrote c m
  unfolding rewrite_one rewrite_into
  rewrote cs own c m e = rw (← gives_inj e) (record { listed = refl; right = λ h. h; steps = omega arith })
  rewrote cs (discarded k) c m e = rw (← gives_inj e) (record { listed = refl; right = λ h. h; steps = omega arith })
  rewrote cs (dependent k) c m e =
      let o = get_or cs k (delete 0) in
      let x = target o in
      let r = replacement o in
      let (n, a, e) = both_given (retarget T mapped (moved T mapped x r) c) _ e in
      let (u, b, e) = both_given (refuse 9 (wrong_call T (call n.0))) _ e in
      let d = retargeted (moved T mapped x r) (length T) (λ y k. moved_steps x r y k) c n a in
      rw (← gives_inj e) (record { listed = d.listed; right = λ h. not_wrong 9 (wrong_call T (call n.0)) b; steps = d.steps })

  -- changes rewritten, and all climb steps: each change keeps its fate, its rule number and what it lists
  pub record RewroteAll (ps : List Planned) (r : List Planned × ℕ) : Type 0 where
    pub fates : map (λ p. p.fate) r.0 ≡ map (λ p. p.fate) ps
    pub rules : map (λ p. p.rule) r.0 ≡ map (λ p. p.rule) ps
    pub listed : map (λ p. news p.change) r.0 ≡ map (λ p. news p.change) ps
    pub right : All (λ p. Right T p.change) ps → All (λ p. Right T p.change) r.0
    pub steps : r.1 ≤ 2 * length T * length ps

  rewrote_all : (cs : List Change) (ps : List Planned) (r : List Planned × ℕ) → rewriting T mapped cs ps ≡ gives r → RewroteAll ps r
  unfolding rewriting
  rewrote_all cs [] r e = rw (← gives_inj e) (record { fates = refl; rules = refl; listed = refl; right = λ h. h; steps = omega arith })
  rewrote_all cs (p ∷ ps) r e =
      let (later, a, e) = both_given (rewriting T mapped cs ps) _ e in
      let (m, b, e) = both_given (rewrite_one T mapped cs p.fate p.change) _ e in
      go later (rewrote_all cs ps later a) m (rewrote cs p.fate p.change m b) (gives_inj e)
    where
      go : (later : List Planned × ℕ) → RewroteAll ps later → (m : Change × ℕ) → Rewrote p.change m → (record { change = m.0; fate = p.fate; rule = p.rule } ∷ later.0, m.1 + later.1) ≡ r → RewroteAll (p ∷ ps) r
      go later l m o z = rw (← z) (record {
        fates = ap {B = List Fate} (λ k. p.fate ∷ k) l.fates;
        rules = ap {B = List ℕ} (λ k. p.rule ∷ k) l.rules;
        listed = rw (o.listed, l.listed);
        right = λ h. (o.right h.0, l.right h.1);
        steps = omega (arith, o.steps, l.steps);
      })

  pub rewritten_all : (ps : List Planned) (r : List Planned × ℕ) → rewritten T mapped ps ≡ gives r → RewroteAll ps r
  unfolding rewritten
  rewritten_all ps r e = rewrote_all (map (λ p. p.change) ps) ps r e

-- ── The order of running ────────────────────────────────────────────────────────────────────────────────────

module _ {A : Type 0} where
  pub numbered_all : (P : A → Type 0) (n : ℕ) (l : List A) → All P l → All (λ q. P q.1) (numbered n l)
  unfolding numbered
  numbered_all P n [] h = tt
  numbered_all P n (x ∷ l) h = (h.0, numbered_all P (suc n) l h.1)

  numbered_total : (p : A → Bool) (f : A → ℕ) (n : ℕ) (l : List A) → total (λ q. p q.1) (λ q. f q.1) (numbered n l) ≡ total p f l
  unfolding numbered total
  numbered_total p f n [] = refl
  numbered_total p f n (x ∷ l) = ap (λ k. cond (p x) (f x) 0 + k) (numbered_total p f (suc n) l)

-- what each change has, each performed change has
pub order_all : (P : Planned → Type 0) (qs : List (ℕ × Planned)) (n : ℕ) (owner : Option ℕ) → All (λ q. P q.1) qs → All P (order qs n owner)
unfolding order
order_all P qs zero owner h = tt
order_all P qs (suc n) owner h =
    All-flatMap (λ (q : ℕ × Planned). P q.1) P (λ q. order qs n (some q.0) ++ (q.1 ∷ []))
    (λ q k. All-append P (order qs n (some q.0)) (q.1 ∷ []) (order_all P qs n (some q.0) h) (k, tt))
    (keep (λ q. owned owner q.1.fate) qs) (All-keep (λ (q : ℕ × Planned). P q.1) (λ q. owned owner q.1.fate) qs h)

pub ranked_all : (T : Table) (P : Planned → Type 0) (ps : List Planned) → All P ps → All (λ q. P q.1) (ranked T ps)
unfolding ranked falling
ranked_all T P ps h = sort_all (λ (x y : ℕ × Planned). lower (key T y.1.change) (key T x.1.change)) (λ (q : ℕ × Planned). P q.1) (numbered 0 ps) (numbered_all P 0 ps h)

-- a change without an owner
abbrev pub is_own : Planned → Bool
is_own p = owned none p.fate

owned_one : (k : ℕ) (f : Fate) → owned (some k) f ≡ true → owned none f ≡ false
unfolding owned
owned_one k own e = bool_absurd e refl
owned_one k (dependent j) e = refl
owned_one k (discarded j) e = bool_absurd e refl

module _ (f : Planned → ℕ) (qs : List (ℕ × Planned)) where
  one_total : (p : Planned) → total is_own f (p ∷ []) ≡ cond (is_own p) (f p) 0
  unfolding total
  one_total p = omega arith

  -- those that run for an owner have one
  order_owned : (n k : ℕ) → total is_own f (order qs n (some k)) ≡ 0
  unfolding order total
  order_owned zero k = refl
  order_owned (suc n) k =
      total_flat_map is_own f (λ q. owned (some k) q.1.fate) (λ q. order qs n (some q.0) ++ (q.1 ∷ [])) qs
      ∙ total_zeros (λ (q : ℕ × Planned). owned (some k) q.1.fate) (λ q. total is_own f (order qs n (some q.0) ++ (q.1 ∷ []))) (λ q e. go q e (order_owned n q.0)) qs
    where
      go : (q : ℕ × Planned) → owned (some k) q.1.fate ≡ true → total is_own f (order qs n (some q.0)) ≡ 0 → total is_own f (order qs n (some q.0) ++ (q.1 ∷ [])) ≡ 0
      go q e r = total_append is_own f (order qs n (some q.0)) (q.1 ∷ []) ∙ rw (r, one_total q.1, owned_one k q.1.fate e) (omega arith)

  -- those without an owner run once at most
  order_own : (n : ℕ) → total is_own f (order qs n none) ≤ total (λ q. is_own q.1) (λ q. f q.1) qs
  unfolding order
  order_own zero = omega (arith, total_nil is_own f)
  order_own (suc n) =
      rw (total_flat_map is_own f (λ q. owned none q.1.fate) (λ q. order qs n (some q.0) ++ (q.1 ∷ [])) qs)
      (total_le (λ (q : ℕ × Planned). is_own q.1) (λ q. total is_own f (order qs n (some q.0) ++ (q.1 ∷ []))) (λ q. is_own q.1) (λ q. f q.1) (λ q. go q (is_own q.1) refl) qs)
    where
      go : (q : ℕ × Planned) (b : Bool) → is_own q.1 ≡ b → cond b (total is_own f (order qs n (some q.0) ++ (q.1 ∷ []))) 0 ≤ cond b (f q.1) 0
      go q false e = omega arith
      go q true e = rw (total_append is_own f (order qs n (some q.0)) (q.1 ∷ []), order_owned n q.0, one_total q.1, e) (omega arith)

-- of performed changes, those without an owner list no more than all changes do
pub performed_own : (T : Table) (f : Planned → ℕ) (ps : List Planned) (n : ℕ) → total is_own f (order (ranked T ps) n none) ≤ total is_own f ps
unfolding ranked falling
performed_own T f ps n =
    let q = ranked T ps in
    omega (
      arith,
      order_own f q n,
      sort_total (λ (x y : ℕ × Planned). lower (key T y.1.change) (key T x.1.change)) (λ q. is_own q.1) (λ q. f q.1) (numbered 0 ps),
      numbered_total is_own f 0 ps,
    )
