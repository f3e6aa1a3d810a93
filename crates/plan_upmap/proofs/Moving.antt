-- Each answer of `upmap_below` and `upmap_child`.
-- Assumes nothing.
use mathlib.Core.List.{List, [], ◌∷◌, ◌++◌}
use mathlib.Core.Option.{Option, none, some, bind}
use mathlib.Core.Path.{◌≡◌, refl, sym, ap, ◌∙◌}
use Prim.Native.Nat.{ℕ}
use lib.ListN.{length, get_elem?, take}
use Rattle.orders.specs.Tree.{Path}
use Rattle.definition.specs.Basics.{refused, gives, ◌>>=◌, or_refuse}
use Rattle.definition.specs.Elements.{Table, row, descend}
use Rattle.definition.specs.Rewriting.{trail, land, moved}
use Rattle.read_element_table.specs.View.{view}
use Rattle.std.specs.Prelude.{Option as Opt, Some, Result, Ok, Err}
use Rattle.std.specs.Option.{ok_or}
use Rattle.refusals.specs.declared.Refusal.{Refusal}
use Rattle.refusals.specs.declared.Refusal.TheVariants.{Unmapped}
use Rattle.refusals.specs.Numbers.{number}
use Rattle.plan_upmap.specs.declared.Moved.{Moved}
use Rattle.plan_mapping.specs.Mapped.{mapped_by}
use Rattle.plan_mapping.proofs.Told.{nothing}
use Rattle.plan_mapping.specs.Backward.{backward, backward_front, length_backward}
use Rattle.plan_mapping.specs.Answers.{below, Placed, climbed, Climbed, trail_room}
use Rattle.plan_upmap.specs.Answers.{within_at, Descended, Landed, moved_by, moved_from, MovedFrom, MovedTo}
use Rattle.orders.specs.Lists.{meant}

-- down one path, and then down another
descend_append : (T : Table) (r : ℕ) (q p : Path) → descend T r (q ++ p) ≡ bind (descend T r q) (λ x. descend T x p)
unfolding descend bind
descend_append T r [] p = refl
descend_append T r (i ∷ q) p = go (get_elem? (row T r).children i) (λ c. descend_append T c q p)
  where
    go : (o : Option ℕ) → ((c : ℕ) → descend T c (q ++ p) ≡ bind (descend T c q) (λ x. descend T x p)) → bind o (λ c. descend T c (q ++ p)) ≡ bind (bind o (λ c. descend T c q)) (λ x. descend T x p)
    go none ih = refl
    go (some c) ih = ih c

land_missing : (T : Table) (mapped : ℕ → Option ℕ) (e r : ℕ) (q p : Path) → descend T r q ≡ none → land T mapped e r (q ++ p) ≡ refused 9
unfolding land bind or_refuse ◌>>=◌
land_missing T mapped e r q p h = rw (descend_append T r q p, h)

land_on : (T : Table) (mapped : ℕ → Option ℕ) (e r x : ℕ) (q p : Path) → descend T r q ≡ some x → land T mapped e r (q ++ p) ≡ land T mapped e x p
unfolding land bind
land_on T mapped e r x q p h = rw (descend_append T r q p, h)

module _ (n : ℕ) (w s m : List ℕ) (x r e : ℕ) (p : Path) (a : List ℕ) (o : Result ℕ Refusal) (C : Climbed n w m x r o a) where
  pub moving_refused : (y : Refusal) → o ≡ Err y → MovedFrom n w s m x r e p (Err y)
  unfolding climbed moved_by moved_from ◌>>=◌
  moving_refused y z = record { move = rw (← (C.trail s), z); within = tt }

  module _ (k : ℕ) (z : o ≡ Ok k) where
    abbrev numbers : Path
    numbers = backward (length (take k a)) (take k a)

    trail_is : trail (view n w s) (mapped_by m) x r ≡ gives numbers
    unfolding climbed
    trail_is = sym (C.trail s) ∙ rw (z, backward_front k a)

    module _ (f : Opt ℕ) (D : Descended n w s r numbers f) where
      pub moving_missing : {q : Result ℕ Refusal} (v : Refusal) → q ≡ ok_or f Unmapped → q ≡ Err v → MovedFrom n w s m x r e p (Err v)
      unfolding number moved_by moved_from ◌>>=◌
      moving_missing v y g =
          let (h, u) = nothing f (sym y ∙ g) in
          record { move = rw (trail_is, land_missing (view n w s) (mapped_by m) e r numbers p (sym D.element ∙ rw h), u); within = tt }

      module _ (y : ℕ) (g : f ≡ Some y) (f' : Opt ℕ) (G : Landed n w s e y p f') where
        landed : land (view n w s) (mapped_by m) e r (numbers ++ p) ≡ or_refuse 9 (meant f')
        landed = land_on (view n w s) (mapped_by m) e r y numbers p (sym D.element ∙ rw g) ∙ sym (G.landing (mapped_by m))

        pub moving_nowhere : {q : Result ℕ Refusal} (v : Refusal) → q ≡ ok_or f' Unmapped → q ≡ Err v → MovedFrom n w s m x r e p (Err v)
        unfolding number moved_by moved_from ◌>>=◌ or_refuse
        moving_nowhere v y g = let (h, u) = nothing f' (sym y ∙ g) in record { move = rw (trail_is, landed, h, u); within = tt }

        pub moving_to : (to : ℕ) → f' ≡ Some to → MovedFrom n w s m x r e p (Ok (record { element = to; steps = k }))
        unfolding moved_by moved_from ◌>>=◌ or_refuse
        moving_to to h =
            let l = trail_room C z in
            record {
              move = rw (trail_is, landed, h, ap length (backward_front k a) ∙ length_backward a k l.1);
              within = (within_at n f' to G.within h, l.0);
            }

module _ (n : ℕ) (w s m : List ℕ) (x r e : ℕ) (a : List ℕ) (o : Opt ℕ) (P : Placed n w x e o a) where
  pub moving_elsewhere : {q : Result ℕ Refusal} (v : Refusal) → q ≡ ok_or o Unmapped → q ≡ Err v → MovedTo n w s m x r e (Err v)
  unfolding number below moved_by moved or_refuse ◌>>=◌
  moving_elsewhere v y g = let (z, u) = nothing o (sym y ∙ g) in record { move = rw (← (P.place s), z, u); within = tt }

  module _ (k : ℕ) (z : o ≡ Some k) where
    pub moving_from : (t : Result Moved Refusal) → MovedFrom n w s m x r e (backward (length (take k a)) (take k a)) t → MovedTo n w s m x r e t
    unfolding below moved moved_from or_refuse ◌>>=◌
    moving_from t M = record { move = M.move ∙ rw (backward_front k a, ← (P.place s), z); within = M.within }
