-- `answer` meets its contract.
-- Assumes nothing.
use mathlib.Core.Path.{◌≡◌, sym, ap, ◌∙◌}
use mathlib.Core.Bool.{false}
use borrow.Author.Rules.{rules}
use Rattle.choices.specs.Meant.{meant}
use Rattle.definition.specs.Basics.{refused}
use Rattle.definition.specs.Answers.{too_short}
use Rattle.edit_algo.specs.Numbers.{share_of}
use Rattle.promises.specs.Lent.{held}
use Rattle.promises.specs.Promises.{Shares}
use Rattle.promises.specs.Slices.{needed, lengths, filled_suffice}
use Rattle.share_program.specs.Responds.{share_tells, refused_responds, told_responds}
use Rattle.share_program.proofs.SharingProgram6553664.answer.Goals as goal

pub returns-in-Err : goal.returns-in-Err
unfolding share_of
returns-in-Err c =
    let (w, v, h, p) = c.with_work-told.ensures in
    let s : too_short (lengths needed (held w.now)) ≡ false = ap (λ l. too_short (lengths needed l)) h ∙ filled_suffice 0 in
    let q : Shares (meant c.args.self.now.choices) c.args.batch.now (held w.now) (share_of c.with_work-told.result) (held v.now) = search rules in
    let t = share_tells _ q s in
    refused_responds _ (search rules) t (ap share_of c.in-Err.is ∙ ap refused (sym c.number.ensures)) c.print_refusal.ensures (search rules)

pub returns-in-Ok : goal.returns-in-Ok
unfolding share_of
returns-in-Ok c =
    let (w, v, h, p) = c.with_work-told.ensures in
    let s : too_short (lengths needed (held w.now)) ≡ false = ap (λ l. too_short (lengths needed l)) h ∙ filled_suffice 0 in
    let q : Shares (meant c.args.self.now.choices) c.args.batch.now (held w.now) (share_of c.with_work-told.result) (held v.now) = search rules in
    let t = share_tells _ q s in
    told_responds _ (search rules) t (ap share_of c.in-Ok.is) c.put_line.ensures (search rules)
