-- Links written behind the rows in use are then in use with them. Assumes nothing.
use Prim.Native.Nat.{ℕ, ◌+◌, ◌*◌, ◌≤◌}
use mathlib.Core.Path.{◌≡◌, sym, ap, ap₂, ◌∙◌}
use mathlib.Core.List.{List, [], ◌∷◌, ◌++◌, append_assoc}
use native.Mathlib.Omega.{arith}
use lib.ListN.{length, get_or, take, drop, length-take}
use lib.Seq.{get_or-drop, drop_at}
use Rattle.folds.specs.Folds.{upto}
use Rattle.folds.specs.Lists.{put}
use Rattle.folds.proofs.Folds.{upto-same}
use Rattle.folds.proofs.TwoParts.{upto_split}
use Rattle.store_rules.specs.Store.{Store, Link, lent, per_link, row_parent, row_position, row_width, row_child, row_kind, link_at, link_number, links_of}
use Rattle.store_rules.specs.Appended.{row_numbers}
use Rattle.store_rules.proofs.LinkRows.{links_back}
use Rattle.store_link_rows.specs.Copies.{in_use, Copied}
use Rattle.store_link_rows.proofs.Copying.{still_in_use}

module _ (ls counts : List ℕ) (new : List Link) (room : per_link * (get_or counts 2 0 + length new) ≤ length ls) (out : List ℕ) (r : ℕ)
    (done : Copied ls (get_or counts 2 0) new out r) where
  abbrev k : ℕ
  k = get_or counts 2 0

  -- the rows from the first new one on
  abbrev behind : Store
  behind = lent [] [] (drop (per_link * get_or counts 2 0) out) (0 ∷ 0 ∷ length new ∷ [])

  abbrev whole : Store
  whole = lent [] [] out (0 ∷ 0 ∷ r ∷ [])

  new_behind : links_of behind ≡ new
  unfolding put
  new_behind =
      let at = per_link * k in
      let numbers : List ℕ = row_numbers new in
      let rest : List ℕ = drop (at + length numbers) ls in
      links_back behind new rest
      (ap (drop at) (done.rows_are ∙ append_assoc (take at ls) numbers rest)
      ∙ drop_at (take at ls) (numbers ++ rest) at (simp length-take (omega arith)))
      (omega arith)

  number_behind : (j i : ℕ) → link_number whole (k + j) i ≡ link_number behind j i
  number_behind j i =
      ap (λ (n : ℕ). get_or out n 0) (omega arith) ∙ sym (get_or-drop (per_link * k) out (per_link * j + i) 0)

  link_behind : (j : ℕ) → link_at whole (k + j) ≡ link_at behind j
  link_behind j =
      λ i. record {
        parent = number_behind j row_parent i;
        position = number_behind j row_position i;
        width = number_behind j row_width i;
        child = number_behind j row_child i;
        kind = number_behind j row_kind i;
      }

  pub all_in_use : in_use out (0 ∷ 0 ∷ r ∷ []) ≡ in_use ls counts ++ new
  unfolding links_of
  all_in_use =
      let kept : upto (link_at whole) k ≡ in_use ls counts
      = still_in_use ls counts k new (record { behind = omega arith; fits = room }) out r done in
      ap (upto (link_at whole)) done.next
      ∙ upto_split (link_at whole) k (length new)
      ∙ ap₂ (λ (x y : List Link). x ++ y) kept (upto-same (λ j. link_at whole (k + j)) (link_at behind) (length new) (λ j l. link_behind j) ∙ new_behind)
