-- A plan, where lines 8 to 10 refuse nothing: its changes, climb steps and notes.
-- Assumes nothing.
use Rattle.std.specs.Prelude.{◌≡◌, Bool, cond, ◌&&◌, leb, eqb, take, drop}
use Rattle.std.proofs.Math.Path.{refl, sym, ap}
use Rattle.std.proofs.Common.{◌∙◌, arith}
use Rattle.std.proofs.Math.Bool.{true, false, not}
use mathlib.Core.List.{List, [], ◌∷◌, map}
use Rattle.std.proofs.Math.Option
use Rattle.std.proofs.Math.Option.{Option, none, some, get_or}
use Prim.Native.Nat.{ℕ, zero, suc, ◌*◌, ◌/◌, ◌≤◌, ◌<◌}
use Rattle.std.proofs.Math.ListN.{length, length-map}
use borrow.Author.Tests.{leb-false}
use Rattle.orders.specs.Lists.{All, total}
use Rattle.orders.specs.ListLaws.{bool_absurd, some_inj, none_some, map_some, All-map, All-over}
use Rattle.orders.specs.Tree.{Tree}
use Rattle.definition.specs.Basics.{Answer, refused, gives, ◌>>=◌, refuse, or_refuse, is_some}
use Rattle.definition.specs.Choices.{Choices}
use Rattle.definition.specs.Elements.{Table, table, row, node?, place_below, descend}
use Rattle.definition.specs.Refusals.{Call, call_of, count_of, rule_of, calls, most_listed, lists_too_many, wrong_call, wrong_mapping, wrong_note, Accepted}
use Rattle.definition.specs.Recording.{Recorded, Change, change, recorded}
use Rattle.definition.specs.EdgeRule.{planned}
use Rattle.definition.specs.Planning.{Planned, changes_of, overlap, Judgement, overlaps, fated}
use Rattle.definition.specs.Rewriting.{mapping, mapped_or, land, rewritten, nearest, is_parent, note_from, settle, Note, settled}
use Rattle.definition.specs.Running.{news, ranked}
use Rattle.definition.specs.Answers.{sorted_changes, withdrawing, remaining, judge_changes, disjoint, Plan, rewrite_changes, plan, performed}
use Rattle.definition_laws.specs.Basics.{map_All, total_length, total_map, first_passes}
use Rattle.definition_laws.specs.Answers.{gives_inj, refused_gives, given, is_there}
use Rattle.definition_laws.specs.Kin.{descends_place}
use Rattle.definition_laws.specs.Accepted.{Known}
use Rattle.definition_laws.specs.Right.{Right, neither, none_passes, change_right, change_lists, change_few}
use Rattle.definition_laws.specs.Staying.{staying_all, staying_total, staying_length}
use Rattle.definition_laws.specs.Stages.{lists, lists_all, recorded_all, recorded_total, sorted_all, sorted_total, planned_changes, planned_rules, judge_fated, RewroteAll, rewritten_all, order_all, ranked_all}

-- ── Notes ───────────────────────────────────────────────────────────────────────────────────────────────────

-- what outputs have, what mappings give has
pub mapping_all : (P : ℕ → Type 0) (ms : List (ℕ × ℕ)) (e y : ℕ) → All (λ m. P m.1) ms → mapping ms e ≡ some y → P y
unfolding mapping
mapping_all P [] e y h g = none_some g
mapping_all P (m ∷ ms) e y h g = go (mapping ms e) refl g (λ k. mapping_all P ms e y h.1 k)
  where
    one : (b : Bool) → cond b (some m.1) none ≡ some y → P y
    one true q = rw (some_inj q) at h.0
    one false q = none_some q

    go : (o : Option ℕ) → mapping ms e ≡ o → elim o as (λ o. Option ℕ) [ none ↦ cond (eqb m.0 e) (some m.1) none | some z ↦ some z ] ≡ some y → (mapping ms e ≡ some y → P y) → P y
    go none z q k = one (eqb m.0 e) q
    go (some x) z q k = k (z ∙ q)

module _ (ts : List (Tree ℕ)) (mapped : ℕ → Option ℕ) (within : (a y : ℕ) → mapped a ≡ some y → y < length (table 0 0 ts)) where
  -- what is known of each element of the trees
  abbrev T : Table
  T = table 0 0 ts

  -- a move ends at an element
  note_within : (a e to : ℕ) → is_some (mapped a) ≡ true → note_from T mapped a e ≡ gives to → to < length T
  unfolding note_from land mapped_or is_some
  note_within a e to h g =
      given (refuse 10 (is_parent T mapped a (mapped_or T mapped a))) _ g λ u x g.
      given (or_refuse 9 (place_below T a e)) _ g λ p y g.
      given (or_refuse 9 (descend T (mapped_or T mapped a) p)) _ g λ d z g.
      given (refuse 9 (node? T e && not (node? T d))) _ g λ v w g.
      rw (← gives_inj g) (descends_place ts (mapped_or T mapped a) d p (out (mapped a) h (within a)) (is_there 9 _ z)).0
    where
      out : (o : Option ℕ) → is_some o ≡ true → ((y : ℕ) → o ≡ some y → y < length T) → get_or o a < length T
      out none e k = bool_absurd e refl
      out (some y) e k = k y refl

  settle_within : (n e to : ℕ) → e < length T → settle T mapped n e ≡ gives to → to < length T
  unfolding settle nearest
  settle_within zero e to h g = go (nearest T mapped e) g
    where
      go : (o : Option ℕ) → elim o as (λ o. Answer ℕ) [ none ↦ gives e | some a ↦ refused 10 ] ≡ gives to → to < length T
      go none q = rw (← gives_inj q) h
      go (some a) q = refused_gives q
  settle_within (suc n) e to h g = go (nearest T mapped e) refl g (λ d k q. settle_within n d to k q)
    where
      go : (o : Option ℕ) → nearest T mapped e ≡ o → elim o as (λ o. Answer ℕ) [ none ↦ gives e | some a ↦ note_from T mapped a e >>= λ to. settle T mapped n to ] ≡ gives to
          → ((d : ℕ) → d < length T → settle T mapped n d ≡ gives to → to < length T) → to < length T
      go none z q ih = rw (← gives_inj q) h
      go (some a) z q ih = given (note_from T mapped a e) _ q λ d x q. ih d (note_within a e d (first_passes (λ a. is_some (mapped a)) (row T e).line a z) x) q

  -- as many notes as before, each where an element of the batch stands
  pub settled_notes : (i : ℕ) (ns : List (ℕ × ℕ)) (notes : List Note) → All (λ n. n.0 < length T) ns → settled T mapped i ns ≡ gives notes
      → (length notes ≡ length ns) × All (λ n. (e : ℕ) × (e < length T) × (n.path ≡ (row T e).path)) notes
  unfolding settled
  settled_notes i [] notes h e = rw (← gives_inj e) (refl, tt)
  settled_notes i (n ∷ ns) notes h e =
      given (settle T mapped (length T) n.0) _ e λ to x e.
      given (settled T mapped (suc i) ns) _ e λ rest y e.
      let r = settled_notes (suc i) ns rest h.1 y in
      rw (← gives_inj e) (ap suc r.0, ((to, settle_within (length T) n.0 to h.0 x, refl), r.1))

-- ── The plan ────────────────────────────────────────────────────────────────────────────────────────────────

-- what lines 6, 16 and 7 say of what they let pass, as far as a plan needs it
pub record Checked (a : Accepted) : Type 0 where
  pub table : a.table ≡ table 0 0 a.trees
  pub calls : All (λ c. wrong_call a.table c ≡ false) a.calls
  pub few : All (λ c. lists_too_many c ≡ false) a.calls
  pub mappings : All (λ m. wrong_mapping a.table m ≡ false) a.mappings
  pub notes : All (λ n. wrong_note a.table n ≡ false) a.notes

-- what is known of the changes that are judged
pub record Judging (a : Accepted) (ps : List Planned) : Type 0 where
  -- line 6 would refuse none of them
  pub right : All (λ q. Right a.table q.change) ps
  -- none lists more than 41 elements
  pub few : All (λ q. lists q.change ≤ most_listed) ps
  -- there are no more of them than calls, and they list no more than the calls do
  pub count : length ps ≤ length a.calls
  pub listed : total (λ q. true) (λ q. lists q.change) ps ≤ total (λ c. true) (λ c. length c.listed) a.calls

-- what is known of a plan
pub record Planning (a : Accepted) (p : Plan) : Type 0 where
  -- line 6 would refuse none of its changes, as rewritten
  pub right : All (λ q. Right a.table q.change) p.changes
  -- none lists more than 41 elements
  pub few : All (λ q. lists q.change ≤ most_listed) p.changes
  -- there are no more of them than calls, and they list no more than the calls do
  pub count : length p.changes ≤ length a.calls
  pub listed : total (λ q. true) (λ q. lists q.change) p.changes ≤ total (λ c. true) (λ c. length c.listed) a.calls
  -- no climb has more than E steps, and no change more than two climbs
  pub climbs : p.climbs ≤ 2 * length a.table * length p.changes
  -- every note stands where an element of the batch does
  pub notes : length p.notes ≡ length a.notes
  pub noted : All (λ n. (e : ℕ) × (e < length a.table) × (n.path ≡ (row a.table e).path)) p.notes

-- 8 does not refuse the changes
pub disjoint_fated : (j : Judgement) (ps : List Planned) → disjoint j ≡ gives ps → j ≡ fated ps
unfolding disjoint
disjoint_fated (overlaps i k) ps e = refused_gives e
disjoint_fated (fated qs) ps e = ap fated (gives_inj e)

-- the plan by what the first stage finds
pub plan_overlap : (h : Choices) (a : Accepted) (j k : ℕ) → judge_changes h a ≡ overlaps j k → plan h a ≡ refused 8
unfolding plan disjoint ◌>>=◌
plan_overlap h a j k e = rw (e, disjoint)

pub plan_fated : (h : Choices) (a : Accepted) (ps : List Planned) → judge_changes h a ≡ fated ps → plan h a ≡ rewrite_changes a ps
unfolding plan disjoint ◌>>=◌
plan_fated h a ps e = rw (e, disjoint)

-- the changes that stay, as sorted, before they are rewritten
abbrev pub changes : Choices → Accepted → List Change
changes h a = changes_of (remaining h a)

module _ (h : Choices) (a : Accepted) where
  -- what each recorded change has, each that stays has; and no sum grows
  pub remaining_all : (P : Recorded → Type 0) → All P (recorded a.calls) → All P (remaining h a)
  unfolding remaining sorted_changes
  remaining_all P k = staying_all P (withdrawing h a) (sorted_changes a) (sorted_all a.table P (recorded a.calls) k)

  pub remaining_total : (f : Recorded → ℕ) → total (λ r. true) f (remaining h a) ≤ total (λ r. true) f (recorded a.calls)
  unfolding remaining sorted_changes
  remaining_total f = omega (arith, staying_total (λ r. true) f (withdrawing h a) (sorted_changes a), sorted_total a.table (λ r. true) f (recorded a.calls))

  -- a plan's changes were judged so, and then rewritten
  pub plan_parts : (p : Plan) → plan h a ≡ gives p → (overlap a.table (changes h a) ≡ none) × (rewrite_changes a (planned h a.table (remaining h a)) ≡ gives p)
  unfolding plan judge_changes
  plan_parts p e =
      given (disjoint (judge_changes h a)) _ e λ ps x e.
      let (apart, same) = judge_fated h a.table (remaining h a) ps (disjoint_fated (judge_changes h a) ps x) in
      (apart, ap (rewrite_changes a) (sym same) ∙ e)

module _ (a : Accepted) (k : Checked a) where
  pub changes_right : (h : Choices) → All (Right a.table) (changes h a)
  unfolding changes_of
  changes_right h =
      All-over (λ r. r.change) (λ (r : Recorded). Right a.table r.change) (Right a.table) (λ r g. g) (remaining h a)
      (remaining_all h a (λ r. Right a.table r.change)
      (recorded_all (λ r. Right a.table r.change) a.calls (All-map (λ c e g. change_right a.table c e g) a.calls k.calls)))

  changes_few : (h : Choices) → All (λ c. lists c ≤ most_listed) (changes h a)
  unfolding changes_of
  changes_few h =
      All-over (λ r. r.change) (λ (r : Recorded). lists r.change ≤ most_listed) (λ c. lists c ≤ most_listed) (λ r g. g) (remaining h a)
      (remaining_all h a (λ r. lists r.change ≤ most_listed)
      (recorded_all (λ r. lists r.change ≤ most_listed) a.calls (All-map (λ c e g. change_few c e) a.calls k.few)))

  changes_listed : (h : Choices) → lists_all (changes h a) ≤ total (λ c. true) (λ c. length c.listed) a.calls
  unfolding changes_of
  changes_listed h =
      rw (← total_map (λ r. r.change) lists (remaining h a))
      (omega (arith, remaining_total h a (λ r. lists r.change), recorded_total (λ r. lists r.change) (λ c. length c.listed) a.calls (All-map (λ c e g. change_lists a.table c e) a.calls k.calls)))

  -- there are no more changes than calls, withdrawn ones among them or not
  pub sorted_count : length (sorted_changes a) ≤ length a.calls
  unfolding sorted_changes
  sorted_count =
      let one : total (λ c. true) (λ (c : Recorded). 1) (recorded a.calls) ≤ total (λ c. true) (λ (c : Call). 1) a.calls = recorded_total (λ c. 1) (λ c. 1) a.calls (All-map (λ c e g. omega arith) a.calls k.calls) in
      omega (arith, total_length (sorted_changes a), sorted_total a.table (λ c. true) (λ c. 1) (recorded a.calls), one, total_length a.calls)

  changes_count : (h : Choices) → length (changes h a) ≤ length a.calls
  unfolding changes_of remaining
  changes_count h = omega (arith, length-map (remaining h a) (λ r. r.change), staying_length (withdrawing h a) (sorted_changes a), sorted_count)

  -- the changes that are judged are those that stay
  pub judged_known : (h : Choices) (ps : List Planned) → judge_changes h a ≡ fated ps → Judging a ps
  unfolding judge_changes
  judged_known h ps e =
      let T = a.table in
      let cs = changes h a in
      let same : map (λ q. q.change) ps ≡ cs = ap (map (λ q. q.change)) (judge_fated h T (remaining h a) ps e).1 ∙ planned_changes h T (remaining h a) in
      let long : length ps ≡ length cs = sym (length-map ps (λ q. q.change)) ∙ ap length same in
      let sum : total (λ q. true) (λ q. lists q.change) ps ≡ lists_all cs = total_map (λ q. q.change) lists ps ∙ ap lists_all same in
      record { right = map_All (Right T) (λ q. q.change) ps (rw same (changes_right h)); few = map_All (λ c. lists c ≤ most_listed) (λ q. q.change) ps (rw same (changes_few h)); count = omega (arith, changes_count h); listed = omega (arith, changes_listed h) }

  -- what holds of the rewritten changes, from what holds of the judged ones
  rewritten_known : (ps : List Planned) (r : List Planned × ℕ) (notes : List Note) → RewroteAll a.table (mapping a.mappings) ps r → Judging a ps
      → (length notes ≡ length a.notes) × All (λ n. (e : ℕ) × (e < length a.table) × (n.path ≡ (row a.table e).path)) notes
      → Planning a (record { changes = r.0; climbs = r.1; notes = notes })
  rewritten_known ps r notes w j n =
      let long : length r.0 ≡ length ps = sym (length-map r.0 (λ q. q.fate)) ∙ (ap length w.fates ∙ length-map ps (λ q. q.fate)) in
      let sum : total (λ q. true) (λ q. lists q.change) r.0 ≡ total (λ q. true) (λ q. lists q.change) ps =
      total_map (λ q. news q.change) length r.0 ∙ (ap (total (λ q. true) length) w.listed ∙ sym (total_map (λ q. news q.change) length ps)) in
      record {
        right = w.right j.right;
        few = map_All (λ l. length l ≤ most_listed) (λ q. news q.change) r.0 (rw w.listed (All-over (λ q. news q.change) (λ q. lists q.change ≤ most_listed) (λ l. length l ≤ most_listed) (λ q h. h) ps j.few));
        count = omega (arith, j.count);
        listed = omega (arith, j.listed);
        climbs = rw long w.steps;
        notes = n.0;
        noted = n.1;
      }

  -- what mappings give, and what notes name, are elements
  outputs_within : (e y : ℕ) → mapping a.mappings e ≡ some y → y < length a.table
  unfolding wrong_mapping
  outputs_within e y g = mapping_all (λ y. y < length a.table) a.mappings e y (All-map (λ m h. output m h) a.mappings k.mappings) g
    where
      output : (m : ℕ × ℕ) → wrong_mapping a.table m ≡ false → m.1 < length a.table
      output m h = leb-false (length a.table) m.1 (neither _ _ (none_passes _ (m.0 ∷ m.1 ∷ []) (neither _ _ h).0).1.0).0

  notes_within : All (λ n. n.0 < length a.table) a.notes
  unfolding wrong_note
  notes_within = All-map (λ n h. leb-false (length a.table) n.0 (neither _ _ h).0) a.notes k.notes

  settled_known : (notes : List Note) (T : Table) → T ≡ table 0 0 a.trees → ((e y : ℕ) → mapping a.mappings e ≡ some y → y < length T) → All (λ n. n.0 < length T) a.notes
      → settled T (mapping a.mappings) 0 a.notes ≡ gives notes → (length notes ≡ length a.notes) × All (λ n. (e : ℕ) × (e < length T) × (n.path ≡ (row T e).path)) notes
  settled_known notes T q = rw q (λ w n g. settled_notes a.trees (mapping a.mappings) w 0 a.notes notes n g)

  pub plan_known : (h : Choices) (p : Plan) → plan h a ≡ gives p → Planning a p
  unfolding plan rewrite_changes
  plan_known h p e =
      let T = a.table in
      given (disjoint (judge_changes h a)) _ e λ ps x e.
      given (rewritten T (mapping a.mappings) ps) _ e λ r y e.
      given (settled T (mapping a.mappings) 0 a.notes) _ e λ notes z e.
      rw (← gives_inj e) (rewritten_known ps r notes (rewritten_all T (mapping a.mappings) ps r y) (judged_known h ps (disjoint_fated (judge_changes h a) ps x)) (settled_known notes T k.table outputs_within notes_within z))

-- lines 6, 16 and 7 have passed what is accepted
pub checked : (bytes : List ℕ) (a : Accepted) → Known bytes a → Checked a
checked bytes a k = record { table = k.table; calls = k.calls; few = k.few; mappings = k.mappings; notes = k.notes }

-- ── Rule numbers ────────────────────────────────────────────────────────────────────────────────────────────

-- "bits 20 to 31": a call's rule number has twelve bits
pub calls_ruled : (ws : List (ℕ × ℕ)) (l : List ℕ) (cs : List Call) → calls ws l ≡ some cs → All (λ c. c.rule < 4096) cs
unfolding calls rule_of
calls_ruled [] [] cs e = rw (← some_inj e) tt
calls_ruled [] (x ∷ l) cs e = none_some e
calls_ruled (c ∷ ws) l cs e = go (count_of c.0) (leb (count_of c.0) (length l)) e (calls_ruled ws (drop (count_of c.0) l))
  where
    go : (n : ℕ) (b : Bool) → cond b (Option.map (λ r. call_of c.0 c.1 (take n l) ∷ r) (calls ws (drop n l))) none ≡ some cs
        → ((ds : List Call) → calls ws (drop n l) ≡ some ds → All (λ d. d.rule < 4096) ds) → All (λ d. d.rule < 4096) cs
    go n false q ih = none_some q
    go n true q ih = let (ds, a, b) = map_some _ (calls ws (drop n l)) q in rw (← b) (omega arith, ih ds a)

-- so has that of each change of a plan, and of each that is performed
pub plan_ruled : (h : Choices) (bytes : List ℕ) (a : Accepted) (p : Plan) → Known bytes a → plan h a ≡ gives p → All (λ q. q.rule < 4096) p.changes
unfolding rewrite_changes
plan_ruled h bytes a p k e =
    let T = a.table in
    let rs = remaining h a in
    let small : All (λ r. r.rule < 4096) rs =
    remaining_all h a (λ r. r.rule < 4096) (recorded_all (λ r. r.rule < 4096) a.calls (All-map (λ c s z. s) a.calls (calls_ruled _ _ a.calls k.parted))) in
    given (rewritten T (mapping a.mappings) (planned h T rs)) _ (plan_parts h a p e).1 λ r y g.
    given (settled T (mapping a.mappings) 0 a.notes) _ g λ notes z g.
    rw (← gives_inj g)
    (map_All (λ n. n < 4096) (λ q. q.rule) r.0 (rw ((rewritten_all T (mapping a.mappings) (planned h T rs) r y).rules, planned_rules h T rs) (All-over (λ r. r.rule) (λ r. r.rule < 4096) (λ n. n < 4096) (λ r s. s) rs small)))

pub performed_ruled : (h : Choices) (bytes : List ℕ) (a : Accepted) (p : Plan) → Known bytes a → plan h a ≡ gives p → All (λ q. q.rule < 4096) (performed a p)
unfolding performed
performed_ruled h bytes a p k e =
    order_all (λ q. q.rule < 4096) (ranked a.table p.changes) (length p.changes) none (ranked_all a.table (λ q. q.rule < 4096) p.changes (plan_ruled h bytes a p k e))

-- ── What is performed ───────────────────────────────────────────────────────────────────────────────────────

-- each performed change is one that line 6 would not refuse
pub performed_right : (a : Accepted) (p : Plan) → Planning a p → All (λ q. Right a.table q.change) (performed a p)
unfolding performed
performed_right a p k = order_all (λ q. Right a.table q.change) (ranked a.table p.changes) (length p.changes) none (ranked_all a.table (λ q. Right a.table q.change) p.changes k.right)

-- and lists no more than 41 elements
pub performed_few : (a : Accepted) (p : Plan) → Planning a p → All (λ q. lists q.change ≤ most_listed) (performed a p)
unfolding performed
performed_few a p k = order_all (λ q. lists q.change ≤ most_listed) (ranked a.table p.changes) (length p.changes) none (ranked_all a.table (λ q. lists q.change ≤ most_listed) p.changes k.few)
