-- A link that is redirected by marks leads to what `redirect` says. Assumes nothing.
use Prim.Native.Nat.{ℕ, ◌+◌, ◌-◌, ◌*◌, ◌≤◌, ◌<◌}
use mathlib.Core.Path.{◌≡◌, refl, sym, ap, ap₂, ◌∙◌}
use mathlib.Core.List.{List, [], ◌∷◌, map}
use mathlib.Core.Logic.{⊎_elim}
use native.Mathlib.Omega.{arith}
use lib.ListN.{length, get_or, set}
use borrow.Author.Tests.{le-leb, lt-leb}
use Rattle.folds.specs.Lists.{put}
use Rattle.folds.proofs.Tests.{either}
use Rattle.store_rules.specs.Store.{Link, per_link, row_child, leading_to, lent}
use Rattle.store_rules.specs.Appended.{row_numbers}
use Rattle.store_link_rows.specs.Rows.{segment, link_in, changed_row}
use Rattle.store_link_rows.proofs.Changing.{changed_numbers, child_changed}
use Rattle.lookup_rules.specs.Written.{redirect, redirected}
use Rattle.lookup_rules.specs.Marks.{Marked}
use Rattle.lookup_rules.proofs.Marks.{mark_below}
use Rattle.lookup_links.specs.Redirecting.{links_in, moved_by, Leading}

-- a link, redirected by marks
abbrev pub redirected_by : List ℕ → ℕ → Link → Link
redirected_by marks n l = leading_to (moved_by marks n l.child) l

pub stays_there : (marks : List ℕ) (n c : ℕ) → get_or marks c 0 < 2 → c ≡ moved_by marks n c
unfolding moved_by
stays_there marks n c h = rw (lt-leb 2 (get_or marks c 0) h)

pub moves_there : (marks : List ℕ) (n c : ℕ) → 2 ≤ get_or marks c 0 → n + (get_or marks c 0 - 2) ≡ moved_by marks n c
unfolding moved_by
moves_there marks n c h = rw (le-leb 2 (get_or marks c 0) h)

pub numbers_fit : {ls : List ℕ} {count : ℕ} {marks : List ℕ} {n : ℕ} → Leading ls count marks n → (c : ℕ) → 2 ≤ get_or marks c 0
    → n + (get_or marks c 0 - 2) < 4294967296
numbers_fit r c h = omega (arith, r.numbers, mark_below r.marked c h)

-- of row k the child alone is written
pub row_redirected : (marks : List ℕ) (n : ℕ) (d : List ℕ) (k : ℕ) → per_link * (k + 1) ≤ length d → (x : ℕ) → x ≡ moved_by marks n (link_in d k).child
    → set d (per_link * k + row_child) x ≡ put d (per_link * k) (changed_row (redirected_by marks n) d k)
row_redirected marks n d k l x e = child_changed (redirected_by marks n) d k l x (ap (λ (c : ℕ). leading_to c (link_in d k)) (sym e))

-- ---- of all rows

module _ (ps marks : List ℕ) (w : Marked ps marks) (n : ℕ) where
  redirect_by : (c : ℕ) → redirect n ps c ≡ moved_by marks n c
  redirect_by c =
      ⊎_elim (λ l. w.stays n c l ∙ stays_there marks n c l) (λ h. w.moves n c h ∙ moves_there marks n c h) (either (get_or marks c 0) 2)

  redirected_by_lem : (l : Link) → redirected n ps l ≡ redirected_by marks n l
  unfolding redirected
  redirected_by_lem l = ap (λ (c : ℕ). leading_to c l) (redirect_by l.child)

  all_by : (ls : List Link) → map (redirected_by marks n) ls ≡ map (redirected n ps) ls
  all_by [] = refl
  all_by (l ∷ ls) = ap₂ (λ (x : Link) (xs : List Link). x ∷ xs) (sym (redirected_by_lem l)) (all_by ls)

  pub all-redirected : (ls : List ℕ) (count : ℕ) {out : List ℕ} → out ≡ put ls 0 (segment (changed_row (redirected_by marks n) ls) 0 count)
      → out ≡ put ls 0 (row_numbers (map (redirected n ps) (links_in ls count)))
  all-redirected ls count e =
      e ∙ ap (put ls 0) (sym (changed_numbers (redirected_by marks n) (lent [] [] ls (0 ∷ 0 ∷ count ∷ []))) ∙ ap row_numbers (all_by (links_in ls count)))
