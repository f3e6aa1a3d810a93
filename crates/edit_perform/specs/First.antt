-- What the refusals before everything else tell: 17, 18, 1, or none.
-- Assumes nothing.
use Rattle.std.specs.Prelude.{◌≡◌, Bool, List, ℕ}
use Rattle.std.proofs.Math.Path.{refl}
use Rattle.std.proofs.Common.{sym, ap}
use Rattle.std.proofs.Math.Bool.{true, false}
use Rattle.definition.specs.Basics.{Answer, refused, gives, ◌>>=◌, refuse}
use Rattle.definition.specs.Choices as definition
use Rattle.definition.specs.Choices.{chosen}
use Rattle.definition.specs.Answers.{too_short, with_work, with_choices}
use Rattle.definition_laws.specs.Answers.{refused_gives}

-- what comes before an answer, where it would give nothing
abbrev pub before : definition.Choices → List (ℕ × ℕ) → Answer (Unit {0})
before h work = with_choices h work (gives tt)

module _ (h : definition.Choices) (work : List (ℕ × ℕ)) where
  -- it refuses every answer
  pub stopped_early : {A : Type 0} (x : Answer A) (k : ℕ) → before h work ≡ refused k → with_choices h work x ≡ refused k
  unfolding with_choices with_work refuse ◌>>=◌
  stopped_early {A} x k e = go (chosen h) refl (too_short work) refl e
    where
      go : (o : Answer (Unit {0})) → chosen h ≡ o → (t : Bool) → too_short work ≡ t → before h work ≡ refused k → with_choices h work x ≡ refused k
      go (refused j) c t f e =
          let z : ◌≡◌ {A = Answer (Unit {0})} (refused j) (refused k) = rw c at e in
          let y : j ≡ k = cc in
          rw c (ap refused y)
      go (gives u) c true f e =
          let z : ◌≡◌ {A = Answer (Unit {0})} (refused 1) (refused k) = rw (c, f) at e in
          let y : 1 ≡ k = cc in
          rw (c, f) (ap refused y)
      go (gives u) c false f e =
          let z : ◌≡◌ {A = Answer (Unit {0})} (gives tt) (refused k) = rw (c, f) at e in
          refused_gives (sym z)

  pub nothing_wrong : before h work ≡ gives tt → (chosen h ≡ gives tt) × (too_short work ≡ false)
  unfolding with_choices with_work refuse ◌>>=◌
  nothing_wrong e = go (chosen h) refl (too_short work) refl e
    where
      go : (o : Answer (Unit {0})) → chosen h ≡ o → (t : Bool) → too_short work ≡ t → before h work ≡ gives tt → (chosen h ≡ gives tt) × (too_short work ≡ false)
      go (refused j) c t f e =
          let z : ◌≡◌ {A = Answer (Unit {0})} (refused j) (gives tt) = rw c at e in
          refused_gives z
      go (gives u) c true f e =
          let z : ◌≡◌ {A = Answer (Unit {0})} (refused 1) (gives tt) = rw (c, f) at e in
          refused_gives z
      go (gives u) c false f e = (c, f)
