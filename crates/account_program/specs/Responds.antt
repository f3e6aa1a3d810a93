-- What stands at the front of the output, of a batch.
-- Assumes nothing.
use Rattle.std.specs.Prelude.{◌≡◌, Result, Ok, Err, false, List, ◌++◌, ℕ, ◌≤◌, length, take, drop}
use Rattle.std.proofs.Math.Path.{refl, sym}
use Rattle.std.proofs.Common.{ap, ◌∙◌, arith, length-append, take_at, take_all, length-take-le}
use Rattle.std.proofs.lemmas.List.{take-take}
use Rattle.program_input.specs.Told.{Prints}
use Rattle.definition.specs.Basics as basics
use Rattle.definition.specs.Basics.{gives, refused, ◌>>=◌}
use Rattle.definition.specs.Choices.{Choices, chosen}
use Rattle.definition.specs.Answers.{too_short}
use Rattle.definition.specs.Printed.{program_room}
use Rattle.definition.specs.Account.{account, accounted, in_room, tell, account_printed}
use Rattle.definition_laws.specs.Answers.{gives_inj, refused_gives}
use Rattle.promises.specs.Slices.{needed, lengths}
use Rattle.promises.specs.Promises.{left_in, Accounts, wrongly_chosen, with_long}
use Rattle.edit_print.specs.Lines.{Put, put_fits, put_front}
use Rattle.account_lines.specs.Short.{most_text, account_short, room_enough}
use Rattle.refusals.specs.Numbers.{number, answered}
use Rattle.refusals.specs.declared.Refusal.{Refusal}

-- the account of the batch b, which a wrong choice refuses first
abbrev pub recount : Choices → List ℕ → basics.Answer (List ℕ)
recount h b = chosen h >>= λ u. account h b

-- it is refused by this number, or is the text at the front of the output
abbrev pub Says : Choices → List ℕ → Result ℕ Refusal → List ℕ → Type 0
Says h b (Err k) out = recount h b ≡ refused (number k)
Says h b (Ok n) out = (n ≤ length out) × (recount h b ≡ gives (take n out))

-- so of an answer, and the output keeps its length
pub record Tells (h : Choices) (b : List ℕ) (r : Result ℕ Refusal) (out : List ℕ) : Type 0 where
  pub says : Says h b r out
  pub long : length out ≡ most_text

-- no more of the input is judged than the buffer has room for
pub judged_in_room : (h : Choices) (bs : List ℕ) → account_printed h (take 65536 bs) ≡ account_printed h bs
unfolding account_printed
judged_in_room h bs = rw (take-take 65536 65536 bs (omega arith)) refl

-- ── From what is promised ───────────────────────────────────────────────────────────────────────────────────

-- where no work slice is too short and there is room for every account, 1 does not come, and 13 only where the edit program's buffer could not hold the result
accounted_whole : (h : Choices) (work : List (ℕ × ℕ)) (b : List ℕ) (room : ℕ) → too_short work ≡ false → room ≡ most_text → accounted h work b room ≡ recount h b
unfolding accounted ◌>>=◌
accounted_whole h work b room s m = go (chosen h) refl
  where
    roomy : (o : basics.Answer (List ℕ)) → account h b ≡ o → (o >>= in_room room) ≡ o
    roomy (refused k) e = refl
    roomy (gives text) e = room_enough room text (omega arith) (account_short h b text e)

    go : (o : basics.Answer (Unit {0})) → chosen h ≡ o → accounted h work b room ≡ (o >>= λ u. account h b)
    go (refused k) c = wrongly_chosen h work (account h b >>= in_room room) k c
    go (gives u) c = with_long h work (account h b >>= in_room room) c s ∙ roomy (account h b) refl

-- an answer that keeps its promise tells the account
pub account_tells : {h : Choices} {b held : List ℕ} {work : List (List ℕ)} {holds : List ℕ} {left : List (List ℕ)} {r : Result ℕ Refusal} → Accounts h b held work (answered r) holds left → 8192 ≡ length held → length holds ≡ length held
    → too_short (lengths needed work) ≡ false → Tells h b r holds
unfolding answered left_in ◌>>=◌
account_tells {h} {b} {held} {work} {holds} {left} {r} p e l s = record { says = go r (recount h b) refl (p.answer ∙ ap (λ (x : basics.Answer (List ℕ)). x >>= λ text. gives (length text)) same) (p.result ∙ ap (left_in held) same); long = omega arith }
  where
    same : accounted h (lengths needed work) b (length held) ≡ recount h b
    same = accounted_whole h (lengths needed work) b (length held) s (omega arith)

    go : (r : Result ℕ Refusal) (o : basics.Answer (List ℕ)) → recount h b ≡ o → answered r ≡ (recount h b >>= λ text. gives (length text)) → holds ≡ left_in held (recount h b) → Says h b r holds
    go (Err k) (refused n) i m q =
        let z : ◌≡◌ {A = basics.Answer ℕ} (refused (number k)) (refused n) = rw i at m in
        let y : n ≡ number k = cc in
        i ∙ ap refused y
    go (Err k) (gives text) i m q = let z : ◌≡◌ {A = basics.Answer ℕ} (refused (number k)) (gives (length text)) = rw i at m in refused_gives z
    go (Ok k) (refused n) i m q = let z : ◌≡◌ {A = basics.Answer ℕ} (gives k) (refused n) = rw i at m in refused_gives (sym z)
    go (Ok k) (gives text) i m q =
        let y : ◌≡◌ {A = basics.Answer ℕ} (gives k) (gives (length text)) = rw i at m in
        let n : k ≡ length text = gives_inj y in
        let z : holds ≡ text ++ drop (length text) held = rw i at q in
        (omega (arith, ap length z, length-append text (drop (length text) held)), i ∙ ap gives (sym (rw (z, n) (take_at text (drop (length text) held) (length text) refl))))

-- ── Printed ─────────────────────────────────────────────────────────────────────────────────────────────────

module _ {h : Choices} (b : List ℕ) {r : Result ℕ Refusal} {out : List ℕ} (n : length b ≤ 65536) (t : Tells h b r out) where
  whole : take program_room b ≡ b
  whole = take_all 65536 b n

  pub refused_responds : {e : Refusal} {k : ℕ} {l : List ℕ} {to : ℕ} → r ≡ Err e → k ≡ number e → Put out 0 (tell (refused k)) l to → length l ≡ length out → Prints (account_printed h) b l to
  unfolding account_printed
  refused_responds {k = k} {l} {to} e q p m =
      let s : recount h b ≡ refused k = rw (e, ← q) at t.says in
      record { fits = (put_fits p m, sym (length-take-le to l (put_fits p m))); says = put_front p m ∙ rw (whole, s) refl }

  pub told_responds : {n : ℕ} → r ≡ Ok n → Prints (account_printed h) b out n
  unfolding account_printed tell
  told_responds {n} e =
      let s : Says h b (Ok n) out = rw e at t.says in
      record { fits = (s.0, sym (length-take-le n out s.0)); says = rw (whole, s.1) refl }
