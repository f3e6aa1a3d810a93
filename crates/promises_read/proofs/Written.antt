-- THE WRITER, of every call that keeps its promise: what each lent slice holds then, and document 02's two sentences.
-- Assumes nothing.
use Rattle.std.specs.Prelude.{◌≡◌, true, false, List, ◌++◌, ℕ, ◌≤◌, ltb, take}
use Rattle.std.proofs.Math.Path.{refl, ap}
use Rattle.std.proofs.Common.{sym, ◌∙◌, arith, length-append, drop_at, ltb-false}
use Rattle.std.proofs.Math.ListN.{length, drop, length-drop}
use Rattle.std.proofs.Math.Seq.{take_at}
use Rattle.definition.specs.Basics.{Answer, refused, gives, ◌>>=◌, refuse, any, among}
use Rattle.definition.specs.Answers.{too_short, with_work}
use Rattle.definition.specs.Writing.{Lists, laid_out, wrong_lists, write, lists}
use Rattle.definition_laws.specs.Answers.{refused_inj, gives_inj, refused_gives, given, not_wrong}
use Rattle.words.specs.Bytes.{Bytes}
use Rattle.promises.specs.Slices.{lengths}
use Rattle.promises.specs.Promises.{left_in}
use Rattle.promises.specs.Writing.{writer_needs, wrote, Writes}
use Rattle.write_laws.specs.RoundTrip.{Worded, written_read, read_written}
use Rattle.promises_read.specs.Refused.{By, by_then, by_refuse}
use Rattle.promises_read.specs.Demand1.{Cleared}
use Rattle.promises_read.proofs.Demand1.{zeroed_cleared}
use Rattle.promises_read.specs.Written.{write_numbers, Laid}

pub wrote_by : (work : List (List ℕ)) (l : Lists) (room : ℕ) → By write_numbers (wrote work l room)
unfolding wrote with_work write among any
wrote_by work l room =
    by_then write_numbers (refuse 1 (too_short (lengths writer_needs work))) _ (by_refuse write_numbers 1 _ refl) λ u.
    by_then write_numbers (refuse 14 (wrong_lists l)) _ (by_refuse write_numbers 14 _ refl) λ u.
    by_then write_numbers (refuse 15 (ltb room (length (laid_out l)))) _ (by_refuse write_numbers 15 _ refl) λ u. tt

-- what is written was not refused by 1, and has room
wrote_given : (work : List (List ℕ)) (l : Lists) (room : ℕ) (b : List ℕ) → wrote work l room ≡ gives b → (write l room ≡ gives b) × (length b ≤ room)
unfolding wrote with_work write
wrote_given work l room b e =
    given (refuse 1 (too_short (lengths writer_needs work))) _ e λ u x w.
    given (refuse 14 (wrong_lists l)) _ w λ u y f.
    given (refuse 15 (ltb room (length (laid_out l)))) _ f λ u z f.
    (w, omega (arith, ltb-false room (length (laid_out l)) (not_wrong 15 _ z), ap length (gives_inj f)))

-- ── The slices ──────────────────────────────────────────────────────────────────────────────────────────────

-- what a call leaves, for every content and length of what was lent
pub record Left (l : Lists) (held : List ℕ) (work : List (List ℕ)) (r : Answer ℕ) (holds : List ℕ) (left : List (List ℕ)) : Type 0 where
  pub numbered : (k : ℕ) → r ≡ refused k → among write_numbers k ≡ true
  -- "A refused write leaves the destination untouched."
  pub untouched : (k : ℕ) → r ≡ refused k → holds ≡ held
  pub laid : (n : ℕ) → r ≡ gives n → Laid l held n holds
  -- no slice grows or shrinks; work slices end as zeros
  pub holds_length : length holds ≡ length held
  pub cleared : Cleared work left

module _ (l : Lists) (held : List ℕ) (work : List (List ℕ)) (r : Answer ℕ) (holds : List ℕ) (left : List (List ℕ)) (p : Writes l held work r holds left) where
  -- Every call that keeps its promise leaves just that.
  pub writes_left : Left l held work r holds left
  unfolding left_in ◌>>=◌
  writes_left = go (wrote work l (length held)) refl p.answer p.destination
    where
      go : (want : Answer (List ℕ)) → wrote work l (length held) ≡ want → r ≡ (want >>= λ bytes. gives (length bytes)) → holds ≡ left_in held want → Left l held work r holds left
      go (refused m) e a h = record {
        numbered = λ k q. let by = wrote_by work l (length held) in let z = refused_inj (sym a ∙ q) in rw (e ∙ ap {B = Answer (List ℕ)} refused z) at by;
        untouched = λ k q. h;
        laid = λ n q. refused_gives (sym a ∙ q);
        holds_length = ap length h;
        cleared = zeroed_cleared work left p.zeros;
      }
      go (gives b) e a h =
          let (w, fits) = wrote_given work l (length held) b e in
          record {
            numbered = λ k q. refused_gives (sym q ∙ a);
            untouched = λ k q. refused_gives (sym q ∙ a);
            laid = λ n q.
                let long : length b ≡ n = gives_inj (sym a ∙ q) in
                record {
                  batch = b;
                  writes = w;
                  size = long;
                  room = omega arith;
                  front = ap (take n) h ∙ take_at b (drop (length b) held) n long;
                  beyond = ap (drop n) h ∙ (drop_at b (drop (length b) held) n long ∙ ap (λ (k : ℕ). drop k held) long);
                };
            holds_length = ap length h ∙ (length-append b (drop (length b) held) ∙ omega (arith, length-drop (length b) held));
            cleared = zeroed_cleared work left p.zeros;
          }

  -- "What it writes is read as the same lists"
  pub writes_read : Worded l → (n : ℕ) → r ≡ gives n → lists (take n holds) ≡ gives l
  writes_read w n e = let k = writes_left.laid n e in rw k.front (written_read l w (length held) k.batch k.writes)

  -- "any batch that passes lines 2 to 7 comes out byte for byte after reading and writing"
  pub writes_again : (b : List ℕ) → Bytes b → lists b ≡ gives l → length b ≤ length held → too_short (lengths writer_needs work) ≡ false → (r ≡ gives (length b)) × (holds ≡ b ++ drop (length b) held)
  unfolding wrote with_work left_in refuse ◌>>=◌
  writes_again b h e room long =
      let w : wrote work l (length held) ≡ gives b = rw (long, read_written b h l e (length held) room) refl in
      (p.answer ∙ rw w refl, p.destination ∙ rw w refl)

-- What was lent settles the answer and every slice: two calls that keep the promise agree.
pub writes_settled : (l : Lists) (held : List ℕ) (work : List (List ℕ)) (r s : Answer ℕ) (holds keeps : List ℕ) (left last : List (List ℕ)) → Writes l held work r holds left → Writes l held work s keeps last → (r ≡ s) × (holds ≡ keeps) × (left ≡ last)
writes_settled l held work r s holds keeps left last p q = (p.answer ∙ sym q.answer, p.destination ∙ sym q.destination, p.zeros ∙ sym q.zeros)
