-- A token that stays keeps its text, whatever steps are performed.
-- Assumes nothing.
use Rattle.std.specs.Prelude.{◌≡◌, refl, Bool, ℕ}
use Rattle.std.proofs.Common.{sym, ap, ◌∙◌}
use Rattle.std.proofs.Math.Path.{subst}
use mathlib.Core.List.{List, [], ◌∷◌, map}
use Rattle.std.proofs.Math.Option.{Option, none, some}
use Rattle.std.proofs.lemmas.List.{length-map}
use Rattle.orders.specs.Lists.{All}
use Rattle.orders.specs.ListLaws.{some_inj}
use Rattle.orders.specs.Tree.{Tree, token, Path, resolve, adjust, splice, HasRun, strip}
use Rattle.orders.proofs.TreeLaws.{splice_in, resolve_splice}
use Rattle.definition.specs.Basics.{gives}
use Rattle.definition.specs.Elements.{table}
use Rattle.definition.specs.Planning.{Planned}
use Rattle.definition.specs.Rewriting.{Note}
use Rattle.definition.specs.Running.{World, begin, present, Yield, yield, news, Run, spliced, recorded_by, step, steps}
use Rattle.definition_laws.specs.Answers.{gives_inj, given}
use Rattle.definition_laws.specs.Spelling.{Worded}
use Rattle.definition_laws.specs.Right.{Right, right_sits}
use Rattle.definition_laws.specs.Running.{place_fits}
use Rattle.definition_account.proofs.Splice.{was_before}
use Rattle.definition_account.proofs.Run.{performs, Kept, step_kept, first_kept}
use Rattle.definition_account.proofs.Account.{Performed}

-- where an element of the batch is that was a token at first, there is that token: its kind word and its text
abbrev pub TokensStay : World → World → Type 0
TokensStay first w = (x : ℕ) (s p : Path) (k : ℕ) (own : List ℕ) → present first x ≡ some s → resolve s first.trees ≡ some (token k own) → present w x ≡ some p → resolve p w.trees ≡ some (token k own)

token_same : (a b : ℕ) (new : List (Tree ℕ)) (o : Option Path) (k : ℕ) (own : List ℕ) → splice_in a b new o (token k own) ≡ token k own
unfolding splice_in splice
token_same a b new none k own = refl
token_same a b new (some []) k own = refl
token_same a b new (some (i ∷ q)) k own = refl

spliced_tokens : (first w : World) (r : Run) (new : List Yield) (recorded : Option ℕ) → HasRun w.trees r.parent r.from r.to → TokensStay first w → TokensStay first (spliced r new recorded w)
unfolding spliced
spliced_tokens first w r new recorded run t x s p k own a b e =
    let (q, c, d) = was_before w r new recorded x p e in
    let trees : List (Tree ℕ) = map (λ y. y.tree) new in
    resolve_splice r.from r.to trees r.parent w.trees q (token k own) p run (t x s q k own a b c) (ap (λ (n : ℕ). adjust r.parent r.from r.to n q) (length-map new (λ y. y.tree)) ∙ d)
    ∙ ap {B = Option (Tree ℕ)} some (token_same r.from r.to trees (strip q r.parent) k own)

module _ (ts : List (Tree ℕ)) (first : World) (f₀ : Worded first.trees) where
  pub steps_tokens : (ps : List Planned) (w last : World) → Kept ts w → TokensStay first w → All (λ p. Right (table 0 0 ts) p.change) ps → steps (table 0 0 ts) first w ps ≡ gives last → TokensStay first last
  unfolding steps
  steps_tokens [] w last k t c e = subst (TokensStay first) (gives_inj e) t
  steps_tokens (p ∷ ps) w last k t c e =
      given (step (table 0 0 ts) first w p) _ e λ next a e.
      let d = performs (table 0 0 ts) first w next p a in
      let fits = place_fits ts w k.follows p.change d.run (right_sits (table 0 0 ts) p.change c.0) d.there in
      steps_tokens ps next last (step_kept ts first f₀ w next p k c.0 a).0
      (subst (TokensStay first) d.leaves (spliced_tokens first w d.run (map (yield first w) (news p.change)) (recorded_by (table 0 0 ts) p) fits.run t)) c.1 e

-- of any performed changes
pub performed_tokens : (ts : List (Tree ℕ)) (notes : List Note) (ps : List Planned) (w : World) → Performed ts notes ps w → TokensStay (begin ts (table 0 0 ts) notes) w
performed_tokens ts notes ps w h =
    let first = begin ts (table 0 0 ts) notes in
    let k = first_kept ts notes h.worded in
    steps_tokens ts first k.follows.worded ps first w k (λ x s p k own a b c. ap (λ q. resolve q first.trees) (some_inj (sym c ∙ a)) ∙ b) h.right h.ran
