-- THE SURVIVING PAIRS (document 02, Note 11): they are few, who reads the result slice reads the definition's, and our own output with them is accepted.
-- Assumes nothing.
use Rattle.std.specs.Prelude.{◌≡◌, refl, true, ℕ, suc, ◌+◌, ◌*◌, ◌/◌, ◌^◌, ◌≤◌, ◌<◌, length, take, drop}
use Rattle.std.proofs.Common.{sym, ap, ◌∙◌, subst, arith, length-append, take_at, drop_at}
use mathlib.Core.List.{List, [], ◌∷◌, ◌++◌, map, flat_map, Memᴰ}
use Rattle.std.proofs.Math.Option
use Rattle.std.proofs.Math.Option.{Option, none, some}
use Rattle.std.proofs.lemmas.List.{length-map}
use Rattle.orders.specs.Lists.{All, pick, more}
use Rattle.orders.specs.ListLaws.{All-over}
use Rattle.orders.specs.Tree.{Tree, forest, label, preorder, elements, elements_of, children}
use Rattle.definition.specs.Basics.{Answer, gives, ◌>>=◌, numbered}
use Rattle.definition.specs.Choices.{Choices}
use Rattle.definition.specs.Words.{words, written}
use Rattle.definition.specs.Elements.{table}
use Rattle.definition.specs.Refusals.{Accepted, accepted}
use Rattle.definition.specs.Running.{World}
use Rattle.definition.specs.Finishing.{Result, result, new_tree, new_table}
use Rattle.definition.specs.Account.{in_room}
use Rattle.definition.specs.Answers.{Plan, plan, performed, ran, edit, with_work, with_choices}
use Rattle.definition_laws.specs.Answers.{given, gives_inj}
use Rattle.definition_laws.specs.Basics.{All-append}
use Rattle.definition_laws.specs.Measures.{preorder_list_length}
use Rattle.definition_laws.specs.Rows.{table_length}
use Rattle.definition_laws.proofs.Limits.{ran_known, new_elements}
use Rattle.definition_account.specs.Words.{went_to}
use Rattle.definition_account.proofs.Account.{ran_performed}
use Rattle.words.specs.Bytes.{length_written, words_written, take_words, drop_words}
use Rattle.result_laws.proofs.Worded.{all_words}
use Rattle.check_laws.specs.Check.{Claims, checked}
use Rattle.check_laws.specs.ListLaws.{numbers_of}
use Rattle.check_laws.proofs.Alone.{first_row}
use Rattle.check_laws.specs.Claimed.{old_tree, flat_of, own_pairs, own_claims, own_output, plain_run}
use Rattle.check_laws.proofs.Own as own
use Rattle.check_laws.proofs.Output.{own_accepted}
use Rattle.promises.specs.Slices.{needed, lengths}
use Rattle.promises.specs.Keeping.{kept_pairs, pair_bytes, paired, kept, pairs_length}
use Rattle.promises.specs.Promises.{left_in, Keeps}

-- ── They are few ────────────────────────────────────────────────────────────────────────────────────────────

-- an old number and a new one
pub record Fits (p : ℕ × ℕ) : Type 0 where
  pub old : p.0 < 2048
  pub new : p.1 < 4096

pub record Few (ps : List (ℕ × ℕ)) : Type 0 where
  pub count : length ps ≤ 2048
  pub each : All Fits ps

picked_few : {A B : Type 0} (f : A → Option B) (l : List A) → length (pick f l) ≤ length l
unfolding pick
picked_few f [] = omega arith
picked_few {A} {B} f (x ∷ l) = go (f x) (picked_few f l)
  where
    go : (o : Option B) → length (pick f l) ≤ length l → length (more o (pick f l)) ≤ suc (length l)
    go none h = omega arith
    go (some y) h = omega arith

numbers_long : {A : Type 0} (n : ℕ) (l : List A) → length (numbers_of n l) ≡ length l
unfolding numbers_of numbered
numbers_long n [] = refl
numbers_long n (x ∷ l) = ap suc (numbers_long (suc n) l)

all_of : {A : Type 0} (R : A → Type 0) (l : List A) → ((x : A) → Memᴰ x l → R x) → All R l
all_of R [] f = tt
all_of R (x ∷ l) f = (f x (Memᴰ.head refl), all_of R l (λ y h. f y (Memᴰ.tail h)))

first_few : (ts : List (Tree ℕ)) → length (table 0 0 (old_tree ts)) ≤ length (table 0 0 ts)
unfolding old_tree forest elements
first_few [] = omega arith
first_few (c ∷ cs) =
    let a : length (table 0 0 (old_tree (c ∷ cs))) ≡ elements c + 0 = table_length (c ∷ []) 0 0 in
    let b : length (table 0 0 (c ∷ cs)) ≡ elements c + elements_of (forest cs) = table_length (c ∷ cs) 0 0 in
    omega arith

-- A batch's pairs are few, and so are their numbers.
pub pairs_few : (h : Choices) (b : List ℕ) (ps : List (ℕ × ℕ)) → kept_pairs h b ≡ gives ps → Few ps
unfolding kept_pairs own_pairs new_table old_tree
pairs_few h b ps e =
    given (accepted b) _ e λ a x e.
    given (plan h a) _ e λ p y e.
    given (ran a p) _ e λ w z e.
    let K = ran_known h b a p w x y z in
    let H = ran_performed h b a p w x y z in
    let k = K.known in
    let ts = a.trees in
    let old : length (table 0 0 ts) ≤ 2048 = omega (arith, table_length ts 0 0, preorder_list_length ts, length-map (flat_map preorder ts) label, ap length k.spells.kinds, k.long.kinds, k.limits.elements) in
    let new : length (new_table w) ≤ 4096 = omega (arith, table_length (new_tree w) 0 0, preorder_list_length (new_tree w), new_elements w, K.small.elements) in
    subst Few (gives_inj e) (record {
      count = omega (arith, picked_few {B = ℕ × ℕ} (λ x. Option.map (λ n. (x, n)) (went_to w x)) (numbers_of 0 (table 0 0 (old_tree ts))), numbers_long 0 (table 0 0 (old_tree ts)), first_few ts);
      each = all_of Fits (own_pairs ts w) (λ q m.
          let P = own.in_pair ts p.notes (performed a p) w H q m in
          record { old = omega (arith, (first_row ts q.0 P.old).0); new = omega (arith, own.in_new ts p.notes (performed a p) w H q.0 q.1 P) });
    })

-- ── In the result slice ─────────────────────────────────────────────────────────────────────────────────────

-- the old numbers that stand in n bytes of pairs
unfoldable pub olds_in : ℕ → List ℕ → List ℕ
olds_in n holds = words (n / 8) holds

-- and the new ones, behind them
unfoldable pub news_in : ℕ → List ℕ → List ℕ
news_in n holds = words (n / 8) (drop (4 * (n / 8)) holds)

-- the pairs of the batch b stand in n bytes of a slice
pub record Stand (h : Choices) (b holds : List ℕ) (n : ℕ) : Type 0 where
  pub pairs : List (ℕ × ℕ)
  pub are : kept_pairs h b ≡ gives pairs
  pub long : n ≡ 8 * length pairs
  pub olds : olds_in n holds ≡ map (λ p. p.0) pairs
  pub news : news_in n holds ≡ map (λ p. p.1) pairs

pairs_written : (ps : List (ℕ × ℕ)) → Few ps → (rest : List ℕ) → words (length ps + length ps) (pair_bytes ps ++ rest) ≡ map (λ p. p.0) ps ++ map (λ p. p.1) ps
unfolding pair_bytes
pairs_written ps f rest =
    let O : List ℕ = map (λ p. p.0) ps in
    let N : List ℕ = map (λ p. p.1) ps in
    let n : length (O ++ N) ≡ length ps + length ps = omega (arith, length-append O N, length-map ps (λ p. p.0), length-map ps (λ p. p.1)) in
    let small : All (λ x. x < 2 ^ 32) (O ++ N) = All-append (λ x. x < 2 ^ 32) O N (All-over (λ p. p.0) Fits (λ x. x < 2 ^ 32) (λ p q. omega (arith, q.old)) ps f.each) (All-over (λ p. p.1) Fits (λ x. x < 2 ^ 32) (λ p q. omega (arith, q.new)) ps f.each) in
    ap (λ (k : ℕ). words k (written (O ++ N) ++ rest)) (sym n) ∙ words_written (O ++ N) rest (all_words (O ++ N) small)

-- what is given is the bytes of the batch's pairs
pub pairs_given : (h : Choices) (work : List (ℕ × ℕ)) (b bytes : List ℕ) (room : ℕ) → kept h work b room ≡ gives bytes → (ps : List (ℕ × ℕ)) × (kept_pairs h b ≡ gives ps) × (pair_bytes ps ≡ bytes)
unfolding kept paired in_room with_choices with_work
pairs_given h work b bytes room e =
    given _ _ e λ u x e.
    given _ _ e λ u x e.
    given (kept_pairs h b) _ e λ ps are e.
    given _ _ e λ u x e.
    (ps, are, gives_inj e)

-- so they are at most 16,384
pub pairs_short : (h : Choices) (work : List (ℕ × ℕ)) (b bytes : List ℕ) (room : ℕ) → kept h work b room ≡ gives bytes → length bytes ≤ 16384
pairs_short h work b bytes room e = let (ps, are, is) = pairs_given h work b bytes room e in omega (arith, ap length is, pairs_length ps, (pairs_few h b ps are).count)

-- WHO READS THE RESULT SLICE READS THE PAIRS, of every call that keeps its promise and is not refused.
pub pairs_stand : (h : Choices) (b held : List ℕ) (work : List (List ℕ)) (n : ℕ) (holds : List ℕ) (left : List (List ℕ)) → Keeps h b held work (gives n) holds left → Stand h b holds n
unfolding left_in olds_in news_in
pairs_stand h b held work n holds left k =
    given (kept h (lengths needed work) b (length held)) _ (sym k.answer) λ bytes x q.
    let (ps, are, is) = pairs_given h (lengths needed work) b bytes (length held) x in
    let f = pairs_few h b ps are in
    let c = length ps in
    let long : n ≡ 8 * c = sym (gives_inj q) ∙ (ap length (sym is) ∙ pairs_length ps) in
    let eighth : n / 8 ≡ c = omega arith in
    let rest = drop (length bytes) held in
    let there : holds ≡ pair_bytes ps ++ rest = k.result ∙ (ap (left_in held) x ∙ ap (λ (l : List ℕ). l ++ rest) (sym is)) in
    let both : words (c + c) holds ≡ map (λ p. p.0) ps ++ map (λ p. p.1) ps = ap (words (c + c)) there ∙ pairs_written ps f rest in
    record {
      pairs = ps;
      are = are;
      long = long;
      olds = ap (λ (m : ℕ). words m holds) eighth ∙ (sym (take_words c c (c + c) holds refl) ∙ (ap (take c) both ∙ take_at (map (λ p. p.0) ps) (map (λ p. p.1) ps) c (length-map ps (λ p. p.0))));
      news = ap (λ (m : ℕ). words m (drop (4 * m) holds)) eighth ∙ (sym (drop_words c c (c + c) holds refl) ∙ (ap (drop c) both ∙ drop_at (map (λ p. p.0) ps) (map (λ p. p.1) ps) c (length-map ps (λ p. p.0))));
    }

-- ── Accepted ────────────────────────────────────────────────────────────────────────────────────────────────

-- our own output as claims: the old tree of a batch, the new tree and the changed elements of its result, and the pairs that stand in n bytes of a slice
unfoldable pub claims_of : Accepted → Result → ℕ → List ℕ → Claims
claims_of a r n holds = record {
  old = flat_of (old_tree a.trees);
  new = record { kinds = r.kinds; measures = r.measures; text = r.text };
  olds = olds_in n holds;
  news = news_in n holds;
  changed = r.changed;
}

-- "Our own output, with the surviving paths as pairs, must be accepted if the root was not replaced and no dependent change ended in tree 0.": with the pairs of every call of `kept` that keeps its promise.
pub kept_accepted : (h : Choices) (b held : List ℕ) (work : List (List ℕ)) (n : ℕ) (holds : List ℕ) (left : List (List ℕ)) → Keeps h b held work (gives n) holds left
    → (a : Accepted) → accepted b ≡ gives a → (r : Result) → edit h b ≡ gives r → plain_run h b ≡ gives true → checked (claims_of a r n holds) ≡ gives true
unfolding edit kept_pairs own_output own_claims claims_of ◌>>=◌
kept_accepted h b held work n holds left k a x r e plain =
    let s = pairs_stand h b held work n holds left k in
    let e : (plan h a >>= λ p. ran a p >>= λ w. gives (result p.changes p.climbs w)) ≡ gives r = rw x at e in
    given (plan h a) _ e λ p y e.
    given (ran a p) _ e λ w z e.
    let are : own_pairs a.trees w ≡ s.pairs = gives_inj (sym (rw (x, y, z) refl) ∙ s.are) in
    let is : result p.changes p.climbs w ≡ r = gives_inj e in
    let own : own_output h b ≡ gives (own_claims a w r) = rw (x, y, z, is) refl in
    let same : own_claims a w r ≡ claims_of a r n holds = rw (are, ← s.olds, ← s.news) refl in
    ap checked (sym same) ∙ own_accepted h b (own_claims a w r) own plain
