-- The parts of the checker together answer as the definition does.
-- Assumes nothing.
use Rattle.std.proofs.Math.Path.{◌≡◌, refl}
use Rattle.std.proofs.Common.{sym, ap, ◌∙◌, arith, leb-false}
use Rattle.std.specs.Prelude.{Bool, ◌||◌, ℕ, ◌≤◌, ◌<◌, leb, length}
use Rattle.std.proofs.Math.Bool.{true, false, cond}
use mathlib.Core.List.{List, [], ◌∷◌, ◌++◌, zip, zip_with}
use Rattle.std.proofs.Math.Option.{none, some}
use Rattle.orders.specs.Lists.{All}
use Rattle.orders.specs.ListLaws.{either_false, All-map, none_passes}
use Rattle.orders.specs.Tree.{Tree}
use Rattle.definition.specs.Basics.{Answer, gives, refused, ◌>>=◌, refuse, or_refuse, any}
use Rattle.definition.specs.Elements.{table, spelled}
use Rattle.definition.specs.Writing.{differ}
use Rattle.check_laws.specs.Check.{Claims, too_big, unequal, alone, names_none, accepts, checked}
use Rattle.check_model.specs.Clauses.{judged}
use Rattle.check_model.specs.Pairing.{Below}
use Rattle.check_model.proofs.Judged.{judged_accepts}
use Rattle.check_table.specs.Spelled.{Tells}
use Rattle.check_claim.specs.Judging.{big_sizes, sizes_refusal, naming, judging}

-- ── Lists ───────────────────────────────────────────────────────────────────────────────────────────────────

below_of : (n : ℕ) (l : List ℕ) → any (leb n) l ≡ false → Below n l
below_of n l e = All-map (λ x q. leb-false n x q) l (none_passes (leb n) l e)

zip_olds : (n : ℕ) (l m : List ℕ) → Below n l → All (λ p. p.0 < n) (zip l m)
unfolding zip zip_with
zip_olds n [] m b = tt
zip_olds n (x ∷ l) [] b = tt
zip_olds n (x ∷ l) (y ∷ m) b = (b.0, zip_olds n l m b.1)

zip_news : (n : ℕ) (l m : List ℕ) → Below n m → All (λ p. p.1 < n) (zip l m)
unfolding zip zip_with
zip_news n [] m b = tt
zip_news n (x ∷ l) [] b = tt
zip_news n (x ∷ l) (y ∷ m) b = (b.0, zip_news n l m b.1)

pub any_append : (p : ℕ → Bool) (l m : List ℕ) → any p (l ++ m) ≡ (any p l || any p m)
unfolding any
any_append p [] m = refl
any_append p (x ∷ l) m = rw (any_append p l m) (go (p x) (any p l) (any p m))
  where
    go : (a b c : Bool) → (a || (b || c)) ≡ ((a || b) || c)
    go true b c = refl
    go false b c = refl

-- what a claim that is not refused by 19 names
pub named_below : (o n : ℕ) (olds news changed : List ℕ) → naming o n olds news changed ≡ false → Below o olds × Below n news × Below n changed
unfolding naming
named_below o n olds news changed e =
    let (a, b) = either_false (any (leb o) olds) (any (leb n) (news ++ changed)) e in
    let (b, c) = either_false (any (leb n) news) (any (leb n) changed) (sym (any_append (leb n) news changed) ∙ b) in
    (below_of o olds a, below_of n news b, below_of n changed c)

-- 19, then one of two equal answers
after : (b x y : Bool) → (b ≡ false → x ≡ y) → (refuse 19 b >>= λ _. gives x) ≡ (refuse 19 b >>= λ _. gives y)
unfolding refuse ◌>>=◌
after true x y f = refl
after false x y f = ap {B = Answer Bool} gives (f refl)

-- ── The refusals ────────────────────────────────────────────────────────────────────────────────────────────

module _ (c : Claims) where
  abbrev sizes : ℕ
  sizes = sizes_refusal (length c.old.kinds) (length c.old.measures) (length c.old.text) (length c.new.kinds) (length c.new.measures) (length c.new.text) (length c.olds) (length c.news)

  -- 3 and 4
  pub sizes_refuse : {r : ℕ} → r ≡ sizes → (r ≡ 0 → ⊥) → refused r ≡ checked c
  unfolding sizes_refusal big_sizes checked too_big unequal differ refuse ◌>>=◌
  sizes_refuse {r} e h = go (too_big c.old || too_big c.new) (unequal c) refl refl e
    where
      go : (a b : Bool) → (too_big c.old || too_big c.new) ≡ a → unequal c ≡ b → r ≡ cond a 3 (cond b 4 0) → refused r ≡ checked c
      go true b p q k = rw (p, k)
      go false true p q k = rw (p, q, k)
      go false false p q k = absurd (h k)

  pub sizes_pass : sizes ≡ 0 → (too_big c.old || too_big c.new ≡ false) × (unequal c ≡ false)
  unfolding sizes_refusal big_sizes too_big unequal differ
  sizes_pass e = go (too_big c.old || too_big c.new) (unequal c) refl refl e
    where
      go : (a b : Bool) → (too_big c.old || too_big c.new) ≡ a → unequal c ≡ b → ◌≡◌ {A = ℕ} (cond a 3 (cond b 4 0)) 0 → (too_big c.old || too_big c.new ≡ false) × (unequal c ≡ false)
      go true b p q k = absurd (omega arith)
      go false true p q k = absurd (omega arith)
      go false false p q k = (p, q)

  module _ (z : sizes ≡ 0) where
    -- 5
    pub old_unspelled : spelled (alone c.old) ≡ none → refused 5 ≡ checked c
    unfolding checked refuse or_refuse ◌>>=◌
    old_unspelled e = let (p, q) = sizes_pass z in rw (p, q, e)

    pub new_unspelled : (os : List (Tree ℕ)) → spelled (alone c.old) ≡ some os → spelled (alone c.new) ≡ none → refused 5 ≡ checked c
    unfolding checked refuse or_refuse ◌>>=◌
    new_unspelled os e f = let (p, q) = sizes_pass z in rw (p, q, e, f)

    -- ── The clauses ──

    pub tells_checked : (old new : List ℕ) (m m' : ℕ) → Tells c.old old → Tells c.new new → length c.new.kinds ≤ m → length c.new.kinds ≤ m'
        → judging old new c.old.text c.new.text (length c.old.kinds) (length c.new.kinds) m m' c.olds c.news c.changed ≡ checked c
    unfolding checked refuse or_refuse ◌>>=◌ judging names_none naming
    tells_checked old new m m' s t h k =
        let (p, q) = sizes_pass z in
        rw (p, q, s.spells, t.spells, same) (after (naming (length c.old.kinds) (length c.new.kinds) c.olds c.news c.changed) _ _ agrees)
      where
        same : names_none (table 0 0 s.trees) (table 0 0 t.trees) c ≡ naming (length c.old.kinds) (length c.new.kinds) c.olds c.news c.changed
        same = rw (s.known.count, t.known.count)

        agrees : naming (length c.old.kinds) (length c.new.kinds) c.olds c.news c.changed ≡ false
            → judged old new c.old.text c.new.text (length c.new.kinds) m m' (zip c.olds c.news) c.changed ≡ accepts s.trees t.trees (zip c.olds c.news) c.changed
        agrees e =
            let (x, y, w) = named_below (length c.old.kinds) (length c.new.kinds) c.olds c.news c.changed e in
            sym (judged_accepts s.trees t.trees old new c.old.text c.new.text (length c.old.kinds) (length c.new.kinds) m m' (zip c.olds c.news) c.changed s.known t.known
            (zip_olds (length c.old.kinds) c.olds c.news x) (zip_news (length c.new.kinds) c.olds c.news y) w h k)
