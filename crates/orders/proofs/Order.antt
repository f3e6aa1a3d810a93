-- The one go and its paths do not depend on the order in which the splices are listed.
-- Assumes nothing.
use Rattle.std.specs.Prelude.{◌≡◌, ℕ, suc}
use Rattle.std.proofs.Math.Path.{refl}
use Rattle.std.proofs.Common.{sym, ap, ◌∙◌}
use Rattle.std.proofs.Math.Bool.{true, false}
use mathlib.Core.List.{List, [], ◌∷◌, Permᴰ}
use Rattle.orders.specs.Lists.{All, Pairs}
use Rattle.orders.specs.Tree.{Tree, Trees, node, token, nil, cons, Path}
use Rattle.orders.specs.Splices.{Splice, left_of, from_root, from_child, at_root, below, insert_by_left, left_to_right, one_go, one_go_all, inserted, deleted, Fits, Apart, AllApart}
use Rattle.orders.specs.ListLaws.{All-perm, Pairs-perm, any_perm, total_perm, pick_perm}
use Rattle.orders.proofs.Left.{Ordered, left_trans, left_asym, OneLeft, first, second, one_left_sym}
use Rattle.orders.proofs.Numbers.{child, holds, start_among, new_number}
use Rattle.orders.proofs.Children.{All-sort}
use Rattle.orders.proofs.Parts.{Neat, root_ordered, root_apart, below_neat}
use Rattle.orders.proofs.Paths.{one_go_path}

module _ {A : Type 0} where
  pub apart_sym : (s t : Splice A) → Apart s t → Apart t s
  apart_sym s t h = record { numbers = λ e. h.numbers (sym e); kept = h.kept'; kept' = h.kept; clear = λ e k. h.clear (sym e) (k.1, k.0) }

  insert_swap : (s t : Splice A) (H : List (Splice A)) → Ordered s → Ordered t → All Ordered H → OneLeft s t → All (OneLeft s) H → All (OneLeft t) H → insert_by_left s (insert_by_left t H) ≡ insert_by_left t (insert_by_left s H)
  unfolding insert_by_left
  insert_swap s t [] os ot o_h (first p q) hs ht = rw (p, q)
  insert_swap s t [] os ot o_h (second p q) hs ht = rw (p, q)
  insert_swap s t (h ∷ H) os ot o_h st hs ht = go st hs.0 ht.0 (insert_swap s t H os ot o_h.1 st hs.1 ht.1)
    where
      across : (x y : Splice A) → Ordered x → Ordered y → left_of x h ≡ true → left_of h y ≡ true → left_of y x ≡ false
      across x y ox oy p q = left_asym x y ox oy (left_trans x h y ox o_h.0 oy p q)

      go : OneLeft s t → OneLeft s h → OneLeft t h → insert_by_left s (insert_by_left t H) ≡ insert_by_left t (insert_by_left s H) → insert_by_left s (insert_by_left t (h ∷ H)) ≡ insert_by_left t (insert_by_left s (h ∷ H))
      go (first p q) (first a b) (first c d) r = simp (a, c, p, q)
      go (second p q) (first a b) (first c d) r = simp (c, a, p, q)
      go z (first a b) (second c d) r = simp (a, d, across s t os ot a c)
      go z (second a b) (first c d) r = simp (b, c, across t s ot os c a)
      go z (second a b) (second c d) r = simp (b, d, r)

  sort_same : {S T : List (Splice A)} → Permᴰ S T → All Ordered S → Pairs OneLeft S → left_to_right S ≡ left_to_right T
  unfolding left_to_right
  sort_same Permᴰ.nil o h = refl
  sort_same (Permᴰ.cons {a = x} e d) o h = rw (← e) (ap (insert_by_left x) (sort_same d o.1 h.1))
  sort_same (Permᴰ.swap {a = x} {b = y} {l = l} e f) o h = rw (← e, ← f) (insert_swap x y (left_to_right l) o.0 o.1.0 (All-sort Ordered l o.1.1) h.0.0 (All-sort (OneLeft x) l h.0.1) (All-sort (OneLeft y) l h.1.0))
  sort_same (Permᴰ.trans d f) o h = sort_same d o h ∙ sort_same f (All-perm Ordered d o) (Pairs-perm OneLeft one_left_sym d h)

  root_same : {S T : List (Splice A)} → Permᴰ S T → Neat S → left_to_right (at_root S) ≡ left_to_right (at_root T)
  unfolding at_root
  root_same {S} r h = sort_same (pick_perm from_root r) (root_ordered S h) (root_apart S h)

  below_perm : (i : ℕ) {S T : List (Splice A)} → Permᴰ S T → Permᴰ (below i S) (below i T)
  unfolding below
  below_perm i r = pick_perm (from_child i) r

  mutual
    unfolding one_go

    pub one_go_same : (S T : List (Splice A)) → Permᴰ S T → Neat S → (t : Tree A) → one_go S t ≡ one_go T t
    one_go_same S T r h (node a cs) = rw (root_same r h, one_goes_same S T r h 0 cs)
    one_go_same S T r h (token a text) = refl

    one_goes_same : (S T : List (Splice A)) → Permᴰ S T → Neat S → (n : ℕ) (cs : Trees A) → one_go_all S n cs ≡ one_go_all T n cs
    one_goes_same S T r h n nil = refl
    one_goes_same S T r h n (cons c cs) = rw (one_go_same (below n S) (below n T) (below_perm n r) (below_neat n S h) c, one_goes_same S T r h (suc n) cs)

  pub path_same : (S T : List (Splice A)) → Permᴰ S T → (e : Path) → one_go_path S e ≡ one_go_path T e
  unfolding one_go_path new_number start_among at_root
  path_same S T r [] = refl
  path_same S T r (i ∷ e) =
      let d = pick_perm from_root r in
      rw (any_perm (holds i) d, total_perm (λ t. left_of t (child i)) inserted d, total_perm (λ t. left_of t (child i)) deleted d, path_same (below i S) (below i T) (below_perm i r) e)

  pub apart_perm : (old : Tree A) (S T : List (Splice A)) → Permᴰ S T → AllApart old S → AllApart old T
  apart_perm old S T r h = record { fits = All-perm (Fits old) r h.fits; apart = Pairs-perm Apart apart_sym r h.apart }
