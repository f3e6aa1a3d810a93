-- Printed case, and the marked examples of S: one table, by computation.
-- Assumes nothing.
use Rattle.std.specs.Prelude.{◌≡◌, refl, ℕ, ◌+◌, length, replicate}
use mathlib.Core.List.{List, [], ◌∷◌, ◌++◌, map, flat_map}
use Rattle.std.proofs.Math.Option.{none, some}
use Prim.Native.String.{String}
use Rattle.definition.specs.Basics.{Answer, refused, gives, ◌>>=◌}
use Rattle.orders.specs.Tree.{Tree, node, token, forest, label, text, measure, preorder}
use Rattle.orders.specs.Splices.{Splice}
use Rattle.definition.specs.Words.{written}
use Rattle.definition.specs.Choices.{by_default}
use Rattle.definition.specs.Refusals.{Call, accepted}
use Rattle.definition.specs.Writing.{Lists, laid_out, write, lists}
use Rattle.definition.specs.Recording.{recorded}
use Rattle.definition.specs.Planning.{Fate, own, discarded, sorted}
use Rattle.definition.specs.EdgeRule.{planned}
use Rattle.definition.specs.Finishing.{Result}
use Rattle.definition.specs.Answers.{edit, edited}
use Rattle.definition.specs.FindElement.{find_element}
use Rattle.definition.specs.Performed.{splices_of}
use Rattle.definition.specs.Printed.{ascii, printed}
use Rattle.definition.specs.Account.{accounted, account_printed}
use Rattle.definition.specs.Computing.{computed}

-- ── A batch told, and its bytes ─────────────────────────────────────────────────────────────────────────────

-- a batch as one would tell it
pub record Told : Type 0 where
  pub trees : List (Tree ℕ)
  pub calls : List Call
  pub mappings : List (ℕ × ℕ)
  pub notes : List (ℕ × ℕ)

-- the lists that such a batch has
unfoldable pub in_lists : Told → Lists
in_lists b =
    let elements = flat_map preorder b.trees in
    record {
      trees = length b.trees;
      kinds = map label elements;
      measures = map measure elements;
      text = flat_map text b.trees;
      operations = map (λ c. c.operation) b.calls;
      counts = map (λ c. length c.listed) b.calls;
      rules = map (λ c. c.rule) b.calls;
      targets = map (λ c. c.target) b.calls;
      listed = flat_map (λ c. c.listed) b.calls;
      inputs = map (λ m. m.0) b.mappings;
      outputs = map (λ m. m.1) b.mappings;
      noted = map (λ n. n.0) b.notes;
      numbers = map (λ n. n.1) b.notes;
    }

-- its bytes
unfoldable pub in_bytes : Told → List ℕ
in_bytes b = laid_out (in_lists b)

-- a node of this kind
abbrev pub node_of : ℕ → List (Tree ℕ) → Tree ℕ
node_of kind children = node (2147483648 + kind) (forest children)

-- a token of this kind and text
abbrev pub token_of : ℕ → String → Tree ℕ
token_of kind text = token kind (ascii text)

-- a call by a rule: its number, operation, target, listed elements
abbrev pub call_by : ℕ → ℕ → ℕ → List ℕ → Call
call_by rule op x listed = record { operation = op; target = x; listed = listed; rule = rule }

-- a call by none
abbrev pub call : ℕ → ℕ → List ℕ → Call
call op x listed = call_by 0 op x listed

-- ── Printed case ────────────────────────────────────────────────────────────────────────────────────────────

-- "Tree 0: node kind 1 of tokens kind 2 "a", kind 3 "b"; tree 1: node kind 1 of token kind 4 "c". One call, word 257, target 1, listing 4; note 9 on 4."
abbrev pub printed_case : Told
printed_case = record {
  trees = node_of 1 (token_of 2 "a" ∷ token_of 3 "b" ∷ []) ∷ node_of 1 (token_of 4 "c" ∷ []) ∷ [];
  calls = call 1 1 (4 ∷ []) ∷ [];
  mappings = [];
  notes = (4, 9) ∷ [];
}

-- what it prints
abbrev pub printed_lines : String
printed_lines = "ok 4 3 1 1 0 0\nn 1 3\nt 2 1\nt 4 1\nt 3 1\ntext 616362\nchanged 2 0\nnote 9 2\n"

-- ── The marked examples ─────────────────────────────────────────────────────────────────────────────────────

-- "one-letter tokens"
abbrev a : Tree ℕ
a = token_of 3 "a"

abbrev b : Tree ℕ
b = token_of 4 "b"

abbrev c : Tree ℕ
c = token_of 6 "c"

abbrev d : Tree ℕ
d = token_of 6 "d"

-- a root, a node of the kind of X and X', and one of the kind of R, with these children
abbrev root : List (Tree ℕ) → Tree ℕ
root = node_of 1

abbrev X : List (Tree ℕ) → Tree ℕ
X = node_of 2

abbrev R : List (Tree ℕ) → Tree ℕ
R = node_of 7

-- a tree of which an element is taken
abbrev other : List (Tree ℕ) → Tree ℕ
other = node_of 5

-- "S is root(X(a), b), one-letter tokens; c, d are tokens of other trees." One more tree is R(X'(a)).
-- The root is element 0, X 1, a 2, b 3; c 5 in tree 1, whose root is 4; d 7 in tree 2; R 8, X' 9.
abbrev S : List (Tree ℕ)
S = root (X (a ∷ []) ∷ b ∷ []) ∷ other (c ∷ []) ∷ other (d ∷ []) ∷ R (X (a ∷ []) ∷ []) ∷ []

-- calls on S
abbrev pub on_s : List Call → Told
on_s calls = record { trees = S; calls = calls; mappings = []; notes = [] }

-- the same with X mapped to X'
abbrev on_mapped_s : List Call → Told
on_mapped_s calls = record { trees = S; calls = calls; mappings = (1, 9) ∷ []; notes = [] }

-- "Root(Z, b), Z empty": Z is 1, b 2; c is 4
abbrev on_z : List Call → Told
on_z calls = record {
  trees = root (X [] ∷ b ∷ []) ∷ other (c ∷ []) ∷ [];
  calls = calls;
  mappings = [];
  notes = [];
}

-- what the examples tell of a result: the new tree by its kind words, measures and text, the changed elements, and how many changes are discarded
abbrev pub Summary : Type 0
Summary = (List ℕ × List ℕ × List ℕ) × List ℕ × ℕ

-- the same of an answer
abbrev pub Short : Type 0
Short = Answer Summary

-- that much of an answer
unfoldable pub short : Answer Result → Short
short answer = answer >>= λ r. gives ((r.kinds, r.measures, r.text), r.changed, r.discarded)

-- the answer that an example tells. "Trees are equal .. if kind words, measures and text agree in preorder"
abbrev becomes : Tree ℕ → List ℕ → ℕ → Short
becomes new changed lost = gives ((map label (preorder new), map measure (preorder new), text new), changed, lost)

-- each marked example, and what is told of it
abbrev pub marked : List (Told × Short)
marked =
    -- c after X, then d after X: adcb
    (on_s (call 1 1 (5 ∷ []) ∷ call 1 1 (7 ∷ []) ∷ []), becomes (root (X (a ∷ []) ∷ d ∷ c ∷ b ∷ [])) (3 ∷ 4 ∷ []) 0)
    -- Delete X, c after X: b, 1 discarded
    ∷ (on_s (call 3 1 [] ∷ call 1 1 (5 ∷ []) ∷ []), becomes (root (b ∷ [])) [] 1)
    -- Delete token a, c after a: cb
    ∷ (on_s (call 3 2 [] ∷ call 1 2 (5 ∷ []) ∷ []), becomes (root (X (c ∷ []) ∷ b ∷ [])) (2 ∷ []) 0)
    -- Delete X, c after b: bc
    ∷ (on_s (call 3 1 [] ∷ call 1 3 (5 ∷ []) ∷ []), becomes (root (b ∷ c ∷ [])) (2 ∷ []) 0)
    -- Replace X by c, delete X: b. The reverse: b
    ∷ (on_s (call 2 1 (5 ∷ []) ∷ call 3 1 [] ∷ []), becomes (root (b ∷ [])) [] 0)
    ∷ (on_s (call 3 1 [] ∷ call 2 1 (5 ∷ []) ∷ []), becomes (root (b ∷ [])) [] 0)
    -- X by many (d), a by c: db, 1 discarded
    ∷ (on_s (call 4 1 (7 ∷ []) ∷ call 2 2 (5 ∷ []) ∷ []), becomes (root (d ∷ b ∷ [])) (1 ∷ []) 1)
    -- Run X to b, and b replaced: 8
    ∷ (on_s (call 5 1 (3 ∷ []) ∷ call 2 3 (5 ∷ []) ∷ []), refused 8)
    -- Root replaced and X replaced: 8
    ∷ (on_s (call 2 0 (4 ∷ []) ∷ call 2 1 (5 ∷ []) ∷ []), refused 8)
    -- X by R(X'(a)), X mapped to X', c after a: acb; only R changed. Unmapped: 9
    ∷ (on_mapped_s (call 2 1 (8 ∷ []) ∷ call 1 2 (5 ∷ []) ∷ []), becomes (root (R (X (a ∷ c ∷ []) ∷ []) ∷ b ∷ [])) (1 ∷ []) 0)
    ∷ (on_s (call 2 1 (8 ∷ []) ∷ call 1 2 (5 ∷ []) ∷ []), refused 9)
    -- Root(Z, b), Z empty: delete Z, c after Z: 11
    ∷ (on_z (call 3 1 [] ∷ call 1 1 (4 ∷ []) ∷ []), refused 11)
    ∷ []

-- ── Further examples ────────────────────────────────────────────────────────────────────────────────────────

-- "Each editor has its own queue": a call that starts a further editor
abbrev further_editor : Call
further_editor = call 6 0 []

-- calls on S with mappings
abbrev on_s_with : List (ℕ × ℕ) → List Call → Told
on_s_with mappings calls = record { trees = S; calls = calls; mappings = mappings; notes = [] }

-- calls on root(P(z), Q(a)), z an empty node: P is 1, z 2, Q 3, a 4; c is 6
abbrev on_p : List Call → Told
on_p calls = record {
  trees = root (X (node_of 3 [] ∷ []) ∷ X (a ∷ []) ∷ []) ∷ other (c ∷ []) ∷ [];
  calls = calls;
  mappings = [];
  notes = [];
}

-- calls on root(X(Y(a)), b): X is 1, Y 2, a 3, b 4; c is 6, its root 5
abbrev on_y : List Call → Told
on_y calls = record {
  trees = root (X (node_of 3 (a ∷ []) ∷ []) ∷ b ∷ []) ∷ other (c ∷ []) ∷ [];
  calls = calls;
  mappings = [];
  notes = [];
}

-- X by Q and c after a, on root(X(a), Q(X'(a))) with X mapped to X': X is 1, a 2, Q 3, X' 4; c is 7
abbrev into_q : Told
into_q = record {
  trees = root (X (a ∷ []) ∷ R (X (a ∷ []) ∷ []) ∷ []) ∷ other (c ∷ []) ∷ [];
  calls = call 2 1 (3 ∷ []) ∷ call 1 2 (7 ∷ []) ∷ [];
  mappings = (1, 4) ∷ [];
  notes = [];
}

-- calls on root(Y, Z), both empty: Y is 1, Z 2; c is 4, d 5, their root 3; R(Z'), Z' empty too: R is 6, Z' 7
abbrev on_empty : List (ℕ × ℕ) → List Call → Told
on_empty mappings calls = record {
  trees = root (X [] ∷ X [] ∷ []) ∷ other (c ∷ d ∷ []) ∷ R (X [] ∷ []) ∷ [];
  calls = calls;
  mappings = mappings;
  notes = [];
}

-- delete X, b by d, c after a
abbrev pub lost_with_x : Told
lost_with_x = on_s (call 3 1 [] ∷ call 2 3 (7 ∷ []) ∷ call 1 2 (5 ∷ []) ∷ [])

-- each further example, and what is told of it
abbrev pub further : List (Told × Short)
further =
    -- X by many (d), then delete X: 4 does not merge
    (on_s (call 4 1 (7 ∷ []) ∷ call 3 1 [] ∷ []), refused 8)
    -- replace X by c, a further editor deletes X: queues are not merged
    ∷ (on_s (call 2 1 (5 ∷ []) ∷ further_editor ∷ call 3 1 [] ∷ []), refused 8)
    -- run a to a by c, d after a: recorded as 4, which adds no region on a token
    ∷ (on_s (call 5 2 (2 ∷ 5 ∷ []) ∷ call 1 2 (7 ∷ []) ∷ []), becomes (root (X (c ∷ d ∷ []) ∷ b ∷ [])) (2 ∷ 3 ∷ []) 0)
    -- c as first child of X
    ∷ (on_s (call 0 1 (5 ∷ []) ∷ []), becomes (root (X (c ∷ a ∷ []) ∷ b ∷ [])) (2 ∷ []) 0)
    -- delete X, c as first child of X: the target parent is X, so the delete sorts first and discards
    ∷ (on_s (call 3 1 [] ∷ call 0 1 (5 ∷ []) ∷ []), becomes (root (b ∷ [])) [] 1)
    -- a by c, delete z: peers by depth, not by parent, and the end of a exceeds the start of z. In the other order: no overlap
    ∷ (on_p (call 2 4 (6 ∷ []) ∷ call 3 2 [] ∷ []), refused 8)
    ∷ (on_p (call 3 2 [] ∷ call 2 4 (6 ∷ []) ∷ []), becomes (root (X [] ∷ X (c ∷ []) ∷ [])) (3 ∷ []) 0)
    -- delete X, Y by a node, c after a: a discarded replacement discards too
    ∷ (on_y (call 3 1 [] ∷ call 2 2 (5 ∷ []) ∷ call 1 3 (6 ∷ []) ∷ []), becomes (root (b ∷ [])) [] 2)
    -- X by R, c after a, X mapped to itself and then to X': the later mapping wins
    ∷ (on_s_with ((1, 1) ∷ (1, 9) ∷ []) (call 2 1 (8 ∷ []) ∷ call 1 2 (5 ∷ []) ∷ []), becomes (root (R (X (a ∷ c ∷ []) ∷ []) ∷ b ∷ [])) (1 ∷ []) 0)
    -- the same, X mapped to X' and R to X: the climb stops at R before R's mapping is looked at
    ∷ (on_s_with ((1, 9) ∷ (8, 1) ∷ []) (call 2 1 (8 ∷ []) ∷ call 1 2 (5 ∷ []) ∷ []), becomes (root (R (X (a ∷ c ∷ []) ∷ []) ∷ b ∷ [])) (1 ∷ []) 0)
    -- c goes into Q, which stands in tree 0: a dependent change is not recorded
    ∷ (into_q, becomes (root (R (X (a ∷ c ∷ []) ∷ []) ∷ R (X (a ∷ c ∷ []) ∷ []) ∷ [])) (1 ∷ []) 0)
    -- delete b, b as first child of X: its path is lost, so it yields its original
    ∷ (on_s (call 3 3 [] ∷ call 0 1 (3 ∷ []) ∷ []), becomes (root (X (b ∷ a ∷ []) ∷ [])) (2 ∷ []) 0)
    -- "A first-child position in a childless node is allowed, with an empty range at the node's own start, also after rewriting." (document 02, Note 1)
    -- c into an empty root
    ∷ (record { trees = root [] ∷ other (c ∷ []) ∷ []; calls = call 0 0 (2 ∷ []) ∷ []; mappings = []; notes = [] }, becomes (root (c ∷ [])) (1 ∷ []) 0)
    -- c into Y, then d into Y: the later one is left
    ∷ (on_empty [] (call 0 1 (4 ∷ []) ∷ call 0 1 (5 ∷ []) ∷ []), becomes (root (X (d ∷ c ∷ []) ∷ X [] ∷ [])) (2 ∷ 3 ∷ []) 0)
    -- delete Y, c into Y
    ∷ (on_empty [] (call 3 1 [] ∷ call 0 1 (4 ∷ []) ∷ []), becomes (root (X [] ∷ [])) [] 1)
    -- delete Z, c into Y: both stand at one offset, so Z's region contains the insertion
    ∷ (on_empty [] (call 3 2 [] ∷ call 0 1 (4 ∷ []) ∷ []), becomes (root (X [] ∷ [])) [] 1)
    -- root(Y, X(a)): delete Y, which is empty, c as first child of X: the position is at the start of X, where Y ends
    ∷ (record { trees = root (X [] ∷ X (a ∷ []) ∷ []) ∷ other (c ∷ []) ∷ []; calls = call 3 1 [] ∷ call 0 2 (5 ∷ []) ∷ []; mappings = []; notes = [] }, becomes (root (X (a ∷ []) ∷ [])) [] 1)
    -- Z by R, Z mapped to Z', c into Z: it lands in Z', which is empty; c into Y: dependent too, and Y is not below Z
    ∷ (on_empty ((2, 7) ∷ []) (call 2 2 (6 ∷ []) ∷ call 0 2 (4 ∷ []) ∷ []), becomes (root (X [] ∷ R (X (c ∷ []) ∷ []) ∷ [])) (2 ∷ []) 0)
    ∷ (on_empty ((2, 7) ∷ []) (call 2 2 (6 ∷ []) ∷ call 0 1 (4 ∷ []) ∷ []), refused 9)
    -- c into the token d: a token is no parent
    ∷ (on_empty [] (call 0 5 (4 ∷ []) ∷ []), refused 6)
    -- delete X, b by d, c after a: b's change empties the stack, so c is performed on its own; it goes into X, and X goes
    ∷ (lost_with_x, becomes (root (d ∷ [])) (1 ∷ []) 0)
    ∷ []

-- by which number lines 2 to 7 refuse a batch, 0 if they accept it
unfoldable pub refusal : Told → ℕ
refusal b = elim (accepted (in_bytes b)) [ refused n ↦ n | gives a ↦ 0 ]

-- a call of this operation on X that lists c n times; a run from X to y by as many
abbrev many : ℕ → ℕ → Call
many op n = call op 1 (replicate n 5)

abbrev run_by : ℕ → ℕ → Call
run_by y n = call 5 1 (y ∷ replicate n 5)

-- each batch that is tried for its longest list, with its refusal. "Make 41 the most a call may list, a run's end element not counted." (document 02, Note 3)
abbrev pub longest : List (Told × ℕ)
longest =
    -- 41 and 42 as first children of X, after X, in its place
    (on_s (many 0 41 ∷ []), 0)
    ∷ (on_s (many 0 42 ∷ []), 16)
    ∷ (on_s (many 1 41 ∷ []), 0)
    ∷ (on_s (many 1 42 ∷ []), 16)
    ∷ (on_s (many 4 41 ∷ []), 0)
    ∷ (on_s (many 4 42 ∷ []), 16)
    -- in place of the run from X to b, and of that from X to X: 42 and 43 words
    ∷ (on_s (run_by 3 41 ∷ []), 0)
    ∷ (on_s (run_by 3 42 ∷ []), 16)
    ∷ (on_s (run_by 1 41 ∷ []), 0)
    ∷ (on_s (run_by 1 42 ∷ []), 16)
    -- a replacement or a delete that lists 42 has a wrong count
    ∷ (on_s (many 2 42 ∷ []), 6)
    ∷ (on_s (many 3 42 ∷ []), 6)
    -- X deleted, so that what follows would be discarded
    ∷ (on_s (call 3 1 [] ∷ many 1 42 ∷ []), 16)
    -- b, a token, as parent in a later call: all of 6 comes first
    ∷ (on_s (many 1 42 ∷ call 0 3 [] ∷ []), 6)
    -- a root as output: 7 comes after
    ∷ (on_s_with ((1, 0) ∷ []) (many 1 42 ∷ []), 16)
    ∷ (on_s_with ((1, 0) ∷ []) (many 1 41 ∷ []), 7)
    ∷ []

-- X by R, X mapped to X', c after a; notes 2 on a, 1 on b, 2 on X: one climb step, and the notes of X and a move into R
abbrev pub with_notes : Told
with_notes = record {
  trees = S;
  calls = call 2 1 (8 ∷ []) ∷ call 1 2 (5 ∷ []) ∷ [];
  mappings = (1, 9) ∷ [];
  notes = (2, 2) ∷ (3, 1) ∷ (1, 2) ∷ [];
}

-- what it prints
abbrev pub with_notes_lines : String
with_notes_lines = "ok 6 3 1 3 0 1\nn 1 2\nn 7 1\nn 2 2\nt 3 1\nt 6 1\nt 4 1\ntext 616362\nchanged 1 0\nnote 1 5\nnote 2 3\nnote 2 2\n"

-- the fates of a batch's changes, in sorted order
unfoldable pub fates_of : List ℕ → Answer (List Fate)
fates_of bytes = accepted bytes >>= λ a. gives (map (λ p. p.fate) (planned by_default a.table (sorted a.table (recorded a.calls))))

-- delete X, delete Y, c after a: a discarded change adds a region too
abbrev nested : Told
nested = on_y (call 3 1 [] ∷ call 3 2 [] ∷ call 1 3 (6 ∷ []) ∷ [])

-- c after X, then d after X
abbrev pub two_after_x : Told
two_after_x = on_s (call 1 1 (5 ∷ []) ∷ call 1 1 (7 ∷ []) ∷ [])

-- its splices: both at the empty run before child 1 of the root, numbered as performed
abbrev two_splices : List (Splice ℕ)
two_splices =
    record { number = 0; parent = []; from = 1; to = 1; prepared = c ∷ [] }
    ∷ record { number = 1; parent = []; from = 1; to = 1; prepared = d ∷ [] }
    ∷ []

-- each example of the account, and what its program prints
abbrev pub accounts : List (Told × String)
accounts =
    -- no change
    (on_s [], "")
    -- delete X, c after X: discarded
    ∷ (on_s (call 3 1 [] ∷ call 1 1 (5 ∷ []) ∷ []), "0 own\n1 discarded 0\n")
    -- the innermost region is named
    ∷ (nested, "0 own\n1 discarded 0\n2 discarded 1\n")
    -- X by R(X'(a)), X mapped to X', c after a: dependent. Unmapped: 9
    ∷ (on_mapped_s (call 2 1 (8 ∷ []) ∷ call 1 2 (5 ∷ []) ∷ []), "0 own\n1 dependent 0\n")
    ∷ (on_s (call 2 1 (8 ∷ []) ∷ call 1 2 (5 ∷ []) ∷ []), "9\n")
    -- c as first child of the root, run X to b, b replaced: the second and the third overlap
    ∷ (on_s (call 0 0 (5 ∷ []) ∷ call 5 1 (3 ∷ []) ∷ call 2 3 (5 ∷ []) ∷ []), "overlap 1 2\n")
    -- Root(Z, b), Z empty: delete Z, c after Z: 11, though planning finds nothing wrong
    ∷ (on_z (call 3 1 [] ∷ call 1 1 (4 ∷ []) ∷ []), "11\n")
    -- the account is true, and does not say that c is lost with X
    ∷ (lost_with_x, "0 own\n1 own\n2 own\n")
    ∷ []

-- the lists of S with calls by these lists
abbrev calls_on_s : List ℕ → List ℕ → List ℕ → List ℕ → List ℕ → Lists
calls_on_s operations counts rules targets listed =
    let l = in_lists (on_s []) in
    record {
      trees = l.trees;
      kinds = l.kinds;
      measures = l.measures;
      text = l.text;
      operations = operations;
      counts = counts;
      rules = rules;
      targets = targets;
      listed = listed;
      inputs = [];
      outputs = [];
      noted = [];
      numbers = [];
    }

-- c after X by rule 7; the same with one count too many; with one rule number too many; with an operation, a count and a rule number that their parts of the word
-- cannot hold; with an element of E; with 42 elements. The second to the fifth would be laid out as the first
abbrev tried : List Lists
tried =
    calls_on_s (1 ∷ []) (1 ∷ []) (7 ∷ []) (1 ∷ []) (5 ∷ [])
    ∷ calls_on_s (1 ∷ []) (1 ∷ 1 ∷ []) (7 ∷ []) (1 ∷ []) (5 ∷ [])
    ∷ calls_on_s (1 ∷ []) (1 ∷ []) (7 ∷ 7 ∷ []) (1 ∷ []) (5 ∷ [])
    ∷ calls_on_s (257 ∷ []) (0 ∷ []) (7 ∷ []) (1 ∷ []) (5 ∷ [])
    ∷ calls_on_s (1 ∷ []) (4097 ∷ []) (6 ∷ []) (1 ∷ []) (5 ∷ [])
    ∷ calls_on_s (1 ∷ []) (1 ∷ []) (4096 ∷ []) (1 ∷ []) (5 ∷ [])
    ∷ calls_on_s (1 ∷ []) (1 ∷ []) (7 ∷ []) (1 ∷ []) (11 ∷ [])
    ∷ calls_on_s (1 ∷ []) (42 ∷ []) (7 ∷ []) (1 ∷ []) (replicate 42 5)
    ∷ []

-- ── Rule numbers ────────────────────────────────────────────────────────────────────────────────────────────

-- X by c, by d (elements 5 and 7), or X deleted, by a rule
abbrev by_c : ℕ → Call
by_c rule = call_by rule 2 1 (5 ∷ [])

abbrev by_d : ℕ → Call
by_d rule = call_by rule 2 1 (7 ∷ [])

abbrev delete_x : ℕ → Call
delete_x rule = call_by rule 3 1 []

-- each list of calls, and the rule numbers of what is recorded. "Merging keeps the number of the call that had the last effect: an ignored replacement, a second
-- delete or a replacement by the same element leaves it." (document 02, Note 8)
abbrev pub ruled : List (List Call × List ℕ)
ruled =
    -- c, d, c: each had an effect
    (by_c 1 ∷ by_d 2 ∷ by_c 3 ∷ [], 3 ∷ [])
    -- c, c: the same element
    ∷ (by_c 1 ∷ by_c 2 ∷ [], 1 ∷ [])
    -- delete, c, delete: the replacement is ignored, the second delete too
    ∷ (delete_x 1 ∷ by_c 2 ∷ delete_x 3 ∷ [], 1 ∷ [])
    -- c, delete
    ∷ (by_c 1 ∷ delete_x 2 ∷ [], 2 ∷ [])
    -- another editor: queues are not merged
    ∷ (by_c 1 ∷ further_editor ∷ by_c 2 ∷ by_d 3 ∷ [], 1 ∷ 3 ∷ [])
    -- 4 does not merge
    ∷ (call_by 1 4 1 (5 ∷ []) ∷ by_c 2 ∷ [], 1 ∷ 2 ∷ [])
    ∷ []

-- the changed elements of an answer, with their rule numbers
unfoldable pub changed_by : Answer Result → Answer (List ℕ × List ℕ)
changed_by answer = answer >>= λ r. gives (r.changed, r.rules)

-- each batch, its changed elements, and the number of the rule that put each in
abbrev pub changed_by_rules : List (Told × Answer (List ℕ × List ℕ))
changed_by_rules =
    -- c after X by 4,095, d after X by 2: d stands before c
    (on_s (call_by 4095 1 1 (5 ∷ []) ∷ call_by 2 1 1 (7 ∷ []) ∷ []), gives (3 ∷ 4 ∷ [], 2 ∷ 4095 ∷ []))
    -- X by many (c, d) by 6: both by 6
    ∷ (on_s (call_by 6 4 1 (5 ∷ 7 ∷ []) ∷ []), gives (1 ∷ 2 ∷ [], 6 ∷ 6 ∷ []))
    -- X by R by 8, c after a by 9: the dependent change records nothing
    ∷ (on_mapped_s (call_by 8 2 1 (8 ∷ []) ∷ call_by 9 1 2 (5 ∷ []) ∷ []), gives (1 ∷ [], 8 ∷ []))
    -- a further editor's start with a number
    ∷ (on_s (call_by 1 6 0 [] ∷ []), refused 6)
    ∷ []

-- ── The table ───────────────────────────────────────────────────────────────────────────────────────────────

-- what is told of each example
abbrev pub told : List (Told × Short) → List Short
told es = map (λ m. m.1) es

-- the answer to each example
abbrev pub answered : List (Told × Short) → List Short
answered es = map (λ m. short (edit by_default (in_bytes m.0))) es

-- Each marked example gives what is told of it; the printed case has 91 bytes and prints its lines. So with the further examples; and of `with_notes`
-- `find_element` finds X (element 1) as X' (2), and nothing for the token a or for a number of E. A batch is read as the lists that it was laid out from; the
-- writer lays the printed case out where there is room for it, and without room it refuses wrong lists by 14, before 15. Lists of 41 elements pass, of 42 not.
pub examples : (answered marked ≡ told marked)
    × (length (in_bytes printed_case) ≡ 91)
    × (printed by_default (in_bytes printed_case) ≡ ascii printed_lines)
    × (answered further ≡ told further)
    × (printed by_default (in_bytes with_notes) ≡ ascii with_notes_lines)
    × (fates_of (in_bytes nested) ≡ gives (own ∷ discarded 0 ∷ discarded 1 ∷ []))
    × (splices_of by_default (in_bytes two_after_x) ≡ gives two_splices)
    × (map (find_element by_default [] (in_bytes with_notes)) (1 ∷ 2 ∷ 11 ∷ []) ≡ gives (some 2) ∷ gives none ∷ gives none ∷ [])
    × (lists (in_bytes with_notes) ≡ gives (in_lists with_notes))
    × (map (write (in_lists printed_case)) (91 ∷ 90 ∷ []) ≡ gives (in_bytes printed_case) ∷ refused 15 ∷ [])
    × (map (λ l. write l 0) tried ≡ refused 15 ∷ replicate 7 (refused 14))
    × (map (λ m. refusal m.0) longest ≡ map (λ m. m.1) longest)
unfolding computed short in_lists in_bytes fates_of refusal
examples = (refl, refl, refl, refl, refl, refl, refl, refl, refl, refl, refl, refl)

-- d after X by rule 2, with note 9 on d: the words of its result behind the sizes are kinds, measures, the changed element, its rule number, the note's number and element
abbrev pub ruled_note : Told
ruled_note = record { trees = S; calls = call_by 2 1 1 (7 ∷ []) ∷ []; mappings = []; notes = (7, 9) ∷ [] }

abbrev ruled_note_words : List ℕ
ruled_note_words = map label (preorder (root (X (a ∷ []) ∷ d ∷ b ∷ []))) ++ map measure (preorder (root (X (a ∷ []) ∷ d ∷ b ∷ []))) ++ (3 ∷ 2 ∷ 9 ∷ 3 ∷ [])

-- Rule numbers: what is recorded has the number that is told, and so has each changed element; in the result's bytes they follow the changed elements.
pub rules_told : (map (λ m. map (λ r. r.rule) (recorded m.0)) ruled ≡ map (λ m. m.1) ruled)
    × (map (λ m. changed_by (edit by_default (in_bytes m.0))) changed_by_rules ≡ map (λ m. m.1) changed_by_rules)
    × (edited by_default [] (in_bytes ruled_note) 100 ≡ gives (written (5 ∷ 3 ∷ 1 ∷ 1 ∷ 0 ∷ 0 ∷ ruled_note_words) ++ ascii "adb"))
unfolding computed in_lists in_bytes changed_by
rules_told = (refl, refl, refl)

-- Each example of the account prints what is told of it; the last, of 18 bytes, is refused by 13 where there is room for 17.
pub accounts_told : (map (λ m. account_printed by_default (in_bytes m.0)) accounts ≡ map (λ m. ascii m.1) accounts)
    × (map (accounted by_default [] (in_bytes lost_with_x)) (18 ∷ 17 ∷ []) ≡ gives (ascii "0 own\n1 own\n2 own\n") ∷ refused 13 ∷ [])
unfolding computed in_lists in_bytes
accounts_told = (refl, refl)
