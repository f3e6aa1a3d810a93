-- The bytes of an answer, and the element that is found, are few.
-- Assumes nothing.
use Rattle.std.specs.Prelude.{◌≡◌, refl, Bool, true, false, cond, ◌&&◌, ℕ, suc, ◌+◌, ◌≤◌, ◌<◌, length, take, eqb}
use mathlib.Core.List.{List, [], ◌∷◌, ◌++◌, head_d}
use Rattle.std.proofs.Math.Option.{Option, none, some, map}
use Rattle.std.proofs.Common.{arith}
use Rattle.orders.specs.Lists.{All}
use Rattle.orders.specs.ListLaws.{some_inj, none_some}
use Rattle.orders.specs.Tree.{Tree, Trees, node, token, nil, cons, Path, list, children, elements, elements_of, text}
use Rattle.definition.specs.Basics.{gives, first}
use Rattle.definition.specs.Choices.{Choices}
use Rattle.definition.specs.Elements.{Table, Row, row, node?, tree, rows, rows_below, table}
use Rattle.definition.specs.Refusals.{accepted}
use Rattle.definition.specs.Running.{World}
use Rattle.definition.specs.Finishing.{new_tree, new_table, fitting}
use Rattle.definition.specs.Answers.{plan, ran, edit, with_work, with_choices, edited}
use Rattle.definition.specs.FindElement.{alike, find_in, find_element}
use Rattle.definition.specs.Account.{account, in_room, accounted}
use Rattle.definition_laws.specs.Answers.{given, gives_inj}
use Rattle.account_lines.specs.Short.{most_text, account_short}
use Rattle.definition_laws.specs.Basics.{All-append}
use Rattle.share_laws.specs.Share.{shared}
use Rattle.share_laws.proofs.Laws.{share_ran, ran_fits}
use Rattle.definition_laws.specs.Limits.{most_bytes}
use Rattle.definition_laws.proofs.Limits.{encoded_within, ran_known}

-- ── The bytes ───────────────────────────────────────────────────────────────────────────────────────────────

fitting_same : (room : ℕ) {r q : _} → fitting room r ≡ gives q → r ≡ q
unfolding fitting
fitting_same room e = given _ _ e λ u x e. gives_inj e

-- An answer has at most as many bytes as the longest result.
pub edited_short : (h : Choices) (work : List (ℕ × ℕ)) (b bytes : List ℕ) (room : ℕ) → edited h work b room ≡ gives bytes → length bytes ≤ most_bytes
unfolding edited with_choices with_work
edited_short h work b bytes room e =
    given _ _ e λ u x e.
    given _ _ e λ u x e.
    given (edit h b) _ e λ r y e.
    given (fitting room r) _ e λ q z e.
    rw (← gives_inj e, ← fitting_same room z) (encoded_within h b r y)

-- An account too.
pub accounted_short : (h : Choices) (work : List (ℕ × ℕ)) (b text : List ℕ) (room : ℕ) → accounted h work b room ≡ gives text → length text ≤ most_text
unfolding accounted in_room with_choices with_work
accounted_short h work b text room e =
    given _ _ e λ u x e.
    given _ _ e λ u x e.
    given (account h b) _ e λ t y e.
    given _ _ e λ u z e.
    rw (← gives_inj e) (account_short h b t y)

-- ── The share ───────────────────────────────────────────────────────────────────────────────────────────────

-- A share has a quotient of at most 1,000, and its remainder is less than 65,536.
pub shared_few : (h : Choices) (work : List (ℕ × ℕ)) (b : List ℕ) (s : ℕ × ℕ) → shared h work b ≡ gives s → (s.0 ≤ 1000) × (s.1 < 65536)
unfolding shared with_choices with_work
shared_few h work b s e =
    given _ _ e λ u x e.
    given _ _ e λ u x e.
    let (a, p, w, x, y, z, q) = share_ran h b s e in
    let f = ran_fits h b a p w x y z in
    rw (← q) (f.quotient, omega (arith, f.remainder))

-- ── The element ─────────────────────────────────────────────────────────────────────────────────────────────

-- a row's element has a number below m
abbrev Low : ℕ → Row → Type 0
Low m r = head_d r.line 0 < m

mutual
  unfolding rows elements head_d

  rows_low : (m : ℕ) (t : Tree ℕ) (n : ℕ) (above : List ℕ) (p : Path) (s : ℕ) → n + elements t ≤ m → All (Low m) (rows t n above p s)
  rows_low m (node w cs) n above p s h = (omega arith, below_low m cs (suc n) (n ∷ above) p 0 s (omega arith))
  rows_low m (token w own) n above p s h = (omega arith, tt)

  below_low : (m : ℕ) (cs : Trees ℕ) (n : ℕ) (above : List ℕ) (p : Path) (i s : ℕ) → n + elements_of cs ≤ m → All (Low m) (rows_below cs n above p i s)
  below_low m nil n above p i s h = tt
  below_low m (cons c cs) n above p i s h =
      All-append (Low m) (rows c n above (p ++ (i ∷ [])) s) _ (rows_low m c n above (p ++ (i ∷ [])) s (omega arith)) (below_low m cs (n + elements c) above p (suc i) (s + length (text c)) (omega arith))

new_low : (ts : Trees ℕ) → All (Low (elements_of ts)) (table 0 0 (take 1 (list ts)))
unfolding table elements list
new_low nil = tt
new_low (cons c cs) = All-append (Low (elements_of (cons c cs))) (rows c 0 [] (0 ∷ []) 0) _ (rows_low _ c 0 [] (0 ∷ []) 0 (omega arith)) tt

first_has : {A : Type 0} (P : A → Type 0) (p : A → Bool) (l : List A) (x : A) → All P l → first p l ≡ some x → P x
unfolding first
first_has P p [] x h e = none_some e
first_has P p (y ∷ l) x h e = go (p y) e (first_has P p l x h.1)
  where
    go : (b : Bool) → cond b (some y) (first p l) ≡ some x → (first p l ≡ some x → P x) → P x
    go true q k = rw (some_inj q) at h.0
    go false q k = k q

found_low : (T : Table) (w : World) (n e : ℕ) → find_in T w n ≡ some e → e < elements_of (children w.trees)
unfolding find_in new_table new_tree
found_low T w n e q = outer (node? T n && eqb (tree T n) 0) q
  where
    inner : (o : Option Row) → first (alike (row T n)) (table 0 0 (take 1 (list (children w.trees)))) ≡ o → map (λ r. head_d r.line 0) o ≡ some e → e < elements_of (children w.trees)
    inner none h q = none_some q
    inner (some r) h q = rw (some_inj q) at (first_has (Low _) (alike (row T n)) _ r (new_low (children w.trees)) h)

    outer : (b : Bool) → cond b (map (λ r. head_d r.line 0) (first (alike (row T n)) (table 0 0 (take 1 (list (children w.trees)))))) none ≡ some e → e < elements_of (children w.trees)
    outer true q = inner _ refl q
    outer false q = none_some q

-- An element that is found is one of at most 4,096.
pub found_short : (h : Choices) (work : List (ℕ × ℕ)) (b : List ℕ) (n e : ℕ) → find_element h work b n ≡ gives (some e) → e < 4096
unfolding find_element with_choices with_work
found_short h work b n e q =
    given _ _ q λ u x q.
    given _ _ q λ u x q.
    given (accepted b) _ q λ a x q.
    given (plan h a) _ q λ p y q.
    given (ran a p) _ q λ w z q.
    omega (arith, found_low a.table w n e (gives_inj q), (ran_known h b a p w x y z).small.elements)
