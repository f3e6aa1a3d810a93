-- A change that rule 1 calls own is taken by no region, and stays so: it is not rewritten, and performed as it was recorded.
-- Assumes nothing.
use Rattle.std.specs.Prelude.{◌≡◌, Bool, true, false, cond, not, ◌&&◌, ◌⊎◌, length}
use Rattle.std.proofs.Math.Path.{refl, ap}
use Rattle.std.proofs.Common.{sym, ◌∙◌, inl, inr, arith}
use mathlib.Core.List.Memᴰ
use mathlib.Core.List.Permᴰ
use mathlib.Core.List.{List, [], ◌∷◌, ◌++◌, map, flat_map, zip_with, Memᴰ, Permᴰ}
use Rattle.std.proofs.Math.Option.{Option, none, some}
use Prim.Native.Nat.{ℕ, zero, suc, ◌<◌}
use Rattle.std.proofs.Math.ListN.{get_elem?}
use Rattle.orders.specs.Lists.{All}
use Rattle.orders.specs.ListLaws.{bool_absurd, some_inj, none_some, All-mem, All-perm}
use Rattle.definition.specs.Basics.{gives, keep, numbered, falling}
use Rattle.definition.specs.Elements.{Table}
use Rattle.definition.specs.Refusals.{Accepted}
use Rattle.definition.specs.Recording.{Recorded, Change}
use Rattle.definition.specs.Planning.{Fate, own, dependent, discarded, is_discarded, node_by_node, inner, Planned, key, changes_of, with_fates}
use Rattle.definition.specs.Rewriting.{mapping, rewrite_one, rewriting, rewritten, settled}
use Rattle.definition.specs.EdgeRule.{takes, region_depth, region_of, fate_in, fate_within, fate_among, fates1}
use Rattle.definition.specs.Running.{owned, ranked, order}
use Rattle.definition.specs.Answers.{Plan, rewrite_changes, performed}
use Rattle.definition_laws.specs.Answers.{gives_inj, given}
use Rattle.definition_laws.specs.Right.{Right}
use Rattle.definition_laws.specs.Performed.{numbered_rising}
use Rattle.definition_laws.specs.Sorting.{falling_perm}
use Rattle.definition_laws.specs.Stages.{order_all, ranked_all, rewritten_all}
use Rattle.definition_edge.proofs.Region.{mem_All, mem_keep, region_none}
use Rattle.definition_edge.specs.Own.{Free, OwnFree, planned_by, planned1, alone}

not_own {ℓ} : {X : Type ℓ} (b : Bool) (k : ℕ) → cond b (dependent k) (discarded k) ≡ own → X
unfolding owned
not_own true k e = bool_absurd (ap (owned none) e) refl
not_own false k e = bool_absurd (ap (owned none) e) refl

module _ (T : Table) (cs : List Change) where
  abbrev all : List (ℕ × Change)
  all = numbered 0 cs

  own_taken : (q : ℕ × Change) → fate_among T all q ≡ own → All (λ r. takes T r q ≡ false) all
  unfolding fate_among fate_within fate_in inner
  own_taken q e = go (fate_within T all (region_depth T q.1)) (region_of T all q) refl e
    where
      go : (f : ℕ × Change → Fate) (o : Option (ℕ × Change)) → region_of T all q ≡ o → fate_in T f o ≡ own → All (λ r. takes T r q ≡ false) all
      go f none z e = region_none T all (numbered_rising 0 cs).1 q z
      go f (some r) z e = not_own (not (is_discarded (f r)) && node_by_node T r.1) r.0 e

-- changes with their fates
zipped : (F : Change → Type 0) (fate : ℕ × Change → Fate) (n : ℕ) (l : List Recorded) → All (λ q. fate q ≡ own → F q.1) (numbered n (changes_of l)) → All (λ q. q.fate ≡ own → F q.change) (with_fates l (map fate (numbered n (changes_of l))))
unfolding changes_of with_fates zip_with numbered
zipped F fate n [] h = tt
zipped F fate n (c ∷ l) h = (h.0, zipped F fate (suc n) l h.1)

pub planned_free : (T : Table) (rs : List Recorded) → All (OwnFree T (changes_of rs)) (with_fates rs (fates1 T (changes_of rs)))
unfolding fates1
planned_free T rs =
    let cs = changes_of rs in
    let all = numbered 0 cs in
    zipped (Free T cs) (fate_among T all) 0 rs (mem_All (λ q. fate_among T all q ≡ own → Free T cs q.1) all (λ q m e. record { place = q.0; one = m; free = own_taken T cs q e }))

-- ── Rewriting ───────────────────────────────────────────────────────────────────────────────────────────────

module _ (T : Table) (mapped : ℕ → Option ℕ) (F : Change → Type 0) where
  one_stays : (cs : List Change) (f : Fate) (c : Change) (m : Change × ℕ) → rewrite_one T mapped cs f c ≡ gives m → (f ≡ own → F c) → f ≡ own → F m.0
  unfolding rewrite_one
  one_stays cs f c m e h z = rw (← ap (λ (m : Change × ℕ). m.0) (gives_inj (ap (λ (f : Fate). rewrite_one T mapped cs f c) (sym z) ∙ e))) (h z)

  all_stay : (cs : List Change) (ps : List Planned) (r : List Planned × ℕ) → rewriting T mapped cs ps ≡ gives r → All (λ q. q.fate ≡ own → F q.change) ps → All (λ q. q.fate ≡ own → F q.change) r.0
  unfolding rewriting
  all_stay cs [] r e h = rw (← gives_inj e) tt
  all_stay cs (p ∷ ps) r e h =
      given (rewriting T mapped cs ps) _ e λ later a e.
      given (rewrite_one T mapped cs p.fate p.change) _ e λ m b e.
      let k = one_stays cs p.fate p.change m b h.0 in
      let l = all_stay cs ps later a h.1 in
      rw (← gives_inj e) (k, l)

-- ── What is performed ───────────────────────────────────────────────────────────────────────────────────────

with_fates_lem : (P : Change → Type 0) (rs : List Recorded) (fs : List Fate) → All P (changes_of rs) → All (λ q. P q.change) (with_fates rs fs)
unfolding changes_of with_fates zip_with
with_fates_lem P [] fs h = tt
with_fates_lem P (c ∷ cs) [] h = tt
with_fates_lem P (c ∷ cs) (f ∷ fs) h = (h.0, with_fates_lem P cs fs h.1)

module _ (a : Accepted) (cs : List Recorded) (fs : List Fate) (p : Plan) (e : planned_by a cs fs ≡ gives p) where
  -- what each rewritten change has, each performed one has
  performed_all : (P : Planned → Type 0) → ((r : List Planned × ℕ) → rewritten a.table (mapping a.mappings) (with_fates cs fs) ≡ gives r → All P r.0) → All P (performed a p)
  unfolding performed rewrite_changes
  performed_all P f =
      given (rewritten a.table (mapping a.mappings) (with_fates cs fs)) _ e λ r y e.
      given (settled a.table (mapping a.mappings) 0 a.notes) _ e λ notes z e.
      rw (← gives_inj e) (order_all P (ranked a.table r.0) (length r.0) none (ranked_all a.table P r.0 (f r y)))

  -- whatever the fates
  pub performed_right : All (Right a.table) (changes_of cs) → All (λ q. Right a.table q.change) (performed a p)
  performed_right h = performed_all (λ q. Right a.table q.change) (λ r y. (rewritten_all a.table (mapping a.mappings) (with_fates cs fs) r y).right (with_fates_lem (Right a.table) cs fs h))

pub performed_free : (a : Accepted) (rs : List Recorded) (p : Plan) → planned1 a rs ≡ gives p → All (OwnFree a.table (changes_of rs)) (performed a p)
unfolding rewritten
performed_free a rs p e =
    let cs = changes_of rs in
    let ps = with_fates rs (fates1 a.table cs) in
    performed_all a rs (fates1 a.table cs) p e (OwnFree a.table cs) (λ r y. all_stay a.table (mapping a.mappings) (Free a.table cs) (map (λ q. q.change) ps) ps r y (planned_free a.table rs))

-- ── Every own change is performed ───────────────────────────────────────────────────────────────────────────

module _ {A : Type 0} where
  perm_mem : {l m : List A} → Permᴰ l m → (x : A) → Memᴰ x l → Memᴰ x m
  perm_mem {l} {m} d x k = All-mem (λ y. Memᴰ y m) l x (All-perm (λ y. Memᴰ y m) (Permᴰ.symm d) (mem_All (λ y. Memᴰ y m) m (λ y z. z))) k

  pub mem_numbered : (n : ℕ) (l : List A) (x : A) → Memᴰ x l → (i : ℕ) × Memᴰ (i, x) (numbered n l)
  unfolding numbered
  mem_numbered n [] x m = absurd (Memᴰ.not-nil m)
  mem_numbered n (y ∷ l) x m = go (Memᴰ.cases_cons m) (λ m. mem_numbered (suc n) l x m)
    where
      go : (x ≡ y) ⊎ Memᴰ x l → (Memᴰ x l → (i : ℕ) × Memᴰ (i, x) (numbered (suc n) l)) → (i : ℕ) × Memᴰ (i, x) (numbered n (y ∷ l))
      go (inl e) k = (n, Memᴰ.head (ap (λ x. (n, x)) e))
      go (inr m) k = let (i, q) = k m in (i, Memᴰ.tail q)

mem_flat_map : {A B : Type 0} (f : A → List B) (l : List A) (x : A) (y : B) → Memᴰ x l → Memᴰ y (f x) → Memᴰ y (flat_map f l)
unfolding flat_map
mem_flat_map f [] x y m n = absurd (Memᴰ.not-nil m)
mem_flat_map {B = B} f (z ∷ l) x y m n = go (Memᴰ.cases_cons m) (λ m. mem_flat_map f l x y m n)
  where
    go : (x ≡ z) ⊎ Memᴰ x l → (Memᴰ x l → Memᴰ y (flat_map f l)) → Memᴰ y (f z ++ flat_map f l)
    go (inl e) k = let m : Memᴰ y (f z) = rw (← e) n in Memᴰ.append_left (flat_map f l) m
    go (inr m) k = Memᴰ.append_right (f z) (k m)

mem_fates : (cs : List Recorded) (fs : List Fate) (i : ℕ) (c : Recorded) (f : Fate) → get_elem? cs i ≡ some c → get_elem? fs i ≡ some f → Memᴰ (record { change = c.change; fate = f; rule = c.rule }) (with_fates cs fs)
unfolding with_fates zip_with
mem_fates [] fs i c f e z = none_some e
mem_fates (d ∷ cs) [] i c f e z = none_some z
mem_fates (d ∷ cs) (g ∷ fs) zero c f e z = let same : ◌≡◌ {A = Planned} (record { change = c.change; fate = f; rule = c.rule }) (record { change = d.change; fate = g; rule = d.rule }) = rw (some_inj e, some_inj z) in Memᴰ.head same
mem_fates (d ∷ cs) (g ∷ fs) (suc i) c f e z = Memᴰ.tail (mem_fates cs fs i c f e z)

module _ (T : Table) (mapped : ℕ → Option ℕ) (c : Recorded) where
  mem_stays : (cs : List Change) (ps : List Planned) (r : List Planned × ℕ) → rewriting T mapped cs ps ≡ gives r → Memᴰ (alone c) ps → Memᴰ (alone c) r.0
  unfolding rewriting rewrite_one
  mem_stays cs [] r e m = absurd (Memᴰ.not-nil m)
  mem_stays cs (p ∷ ps) r e m =
      given (rewriting T mapped cs ps) _ e λ later a e.
      given (rewrite_one T mapped cs p.fate p.change) _ e λ n b e.
      rw (← gives_inj e) (go later n b (Memᴰ.cases_cons m) (λ m. mem_stays cs ps later a m))
    where
      go : (later : List Planned × ℕ) (n : Change × ℕ) → rewrite_one T mapped cs p.fate p.change ≡ gives n → (alone c ≡ p) ⊎ Memᴰ (alone c) ps → (Memᴰ (alone c) ps → Memᴰ (alone c) later.0)
          → Memᴰ (alone c) (record { change = n.0; fate = p.fate; rule = p.rule } ∷ later.0)
      go later n b (inl z) k =
          let same : (c.change, 0) ≡ n = gives_inj (ap (λ (p : Planned). rewrite_one T mapped cs p.fate p.change) z ∙ b) in
          let is : alone c ≡ record { change = n.0; fate = p.fate; rule = p.rule } = rw (← same, ← z) in
          Memᴰ.head is
      go later n b (inr m) k = Memᴰ.tail (k m)

  order_mem : (qs : List (ℕ × Planned)) (n i : ℕ) → Memᴰ (i, alone c) qs → 0 < n → Memᴰ (alone c) (order qs n none)
  unfolding order owned
  order_mem qs zero i m h = absurd (omega arith)
  order_mem qs (suc n) i m h =
      mem_flat_map (λ (q : ℕ × Planned). order qs n (some q.0) ++ (q.1 ∷ [])) (keep (λ (q : ℕ × Planned). owned none q.1.fate) qs) (i, alone c) (alone c)
      (mem_keep (λ (q : ℕ × Planned). owned none q.1.fate) qs (i, alone c) m refl) (Memᴰ.append_right (order qs n (some i)) (Memᴰ.head refl))

-- a change that the account calls own is performed, as it was recorded
pub own_performed : (a : Accepted) (cs : List Recorded) (p : Plan) → planned1 a cs ≡ gives p → (i : ℕ) (c : Recorded) → get_elem? cs i ≡ some c → get_elem? (fates1 a.table (changes_of cs)) i ≡ some own → Memᴰ (alone c) (performed a p)
unfolding performed rewrite_changes rewritten ranked falling
own_performed a cs p e i c x y =
    let T = a.table in
    let ps = with_fates cs (fates1 T (changes_of cs)) in
    let m = mem_fates cs (fates1 T (changes_of cs)) i c own x y in
    given (rewritten T (mapping a.mappings) ps) _ e λ r z e.
    given (settled T (mapping a.mappings) 0 a.notes) _ e λ notes u e.
    let k = mem_stays T (mapping a.mappings) c (map (λ q. q.change) ps) ps r z m in
    let (j, n) = mem_numbered 0 r.0 (alone c) k in
    rw (← gives_inj e) (order_mem T (mapping a.mappings) c (ranked T r.0) (length r.0) j (perm_mem (falling_perm (λ q. key T q.1.change) (numbered 0 r.0)) (j, alone c) n) (long r.0 k))
  where
    long : (l : List Planned) → Memᴰ (alone c) l → 0 < length l
    long [] m = absurd (Memᴰ.not-nil m)
    long (q ∷ l) m = omega arith
