-- Rows of an old lookup copied one by one, with the new tables behind each that leads to the old one. Assumes nothing.
use Prim.Native.Nat.{ℕ, ◌+◌, ◌*◌, ◌≤◌, ◌<◌}
use mathlib.Core.Path.{◌≡◌, sym, ap, subst}
use mathlib.Core.Bool.{cond}
use mathlib.Core.List.{List, [], ◌∷◌, ◌++◌}
use native.Mathlib.Omega.{arith}
use lib.ListN.{length, get_or}
use lib.Dec.{eqb}
use borrow.Author.Tests.{eq-eqb, ne_eqb}
use Rattle.folds.specs.Lists.{put}
use Rattle.folds.proofs.Tests.{by_test}
use Rattle.folds.proofs.Folds.{length-upto}
use Rattle.store_rules.specs.Store.{Link, per_link}
use Rattle.store_rules.specs.Appended.{link, numbers_of, row_numbers}
use Rattle.store_link_rows.specs.Rows.{link_in}
use Rattle.store_link_rows.specs.Copies.{RowsRoom, Copied}
use Rattle.store_link_rows.proofs.Copying.{room_rest, copied_more, Turns, turns_start, turns_turn, turns_stop}
use Rattle.lookup_links.specs.Copies.{new_table_links, link_entered, links_entered, RowReady}

-- one row
pub one_copied : {ls : List ℕ} {at u q c : ℕ} {out : List ℕ} → out ≡ put ls (per_link * at) (numbers_of (link u q c)) → Copied ls at (link u q c ∷ []) out (at + 1)
unfolding row_numbers
one_copied e = record { rows_are = e; next = omega arith }

-- ---- the new tables

-- the link to new table j
abbrev table_turn : List ℕ → ℕ → ℕ → List Link → ℕ → List Link
table_turn us u q old j = link u (q + 2 * j) (get_or us j 0) ∷ []

-- the first j are written
pub record TablesPut (ls : List ℕ) (at : ℕ) (us : List ℕ) (u q : ℕ) (out : List ℕ) (j : ℕ) : Type 0 where
  pub turns : Turns ls [] at (table_turn us u q) (length us) out (at + j) j

module _ (ls : List ℕ) (at : ℕ) (us : List ℕ) (u q : ℕ) where
  pub tables_start : per_link * (at + length us) ≤ length ls → TablesPut ls at us u q ls 0
  tables_start room =
      let z : at ≡ at + 0 = omega arith in
      let long = length-upto (λ j. link u (q + 2 * j) (get_or us j 0)) (length us) in
      record {
        turns = subst (λ (n : ℕ). Turns ls [] at (table_turn us u q) (length us) ls n 0) z
            (turns_start ls [] at (table_turn us u q) (length us) (record { behind = omega arith; fits = omega arith }));
      }

  module _ (out : List ℕ) (j : ℕ) (done : TablesPut ls at us u q out j) where
    pub tables_turn : j < length us → {out' : List ℕ} → out' ≡ put out (per_link * (at + j)) (numbers_of (link u (q + 2 * j) (get_or us j 0)))
        → TablesPut ls at us u q out' (j + 1)
    tables_turn l {out'} e =
        let z : at + j + 1 ≡ at + (j + 1) = omega arith in
        record {
          turns = subst (λ (n : ℕ). Turns ls [] at (table_turn us u q) (length us) out' n (j + 1)) z
              (turns_turn ls [] at (table_turn us u q) (length us) done.turns l (one_copied e));
        }

    pub tables_stop : length us ≤ j → Copied ls at (new_table_links us u q) out (at + length us)
    tables_stop l =
        let z : j ≡ length us = omega (arith, done.turns.some) in
        subst (λ (n : ℕ). Copied ls at (new_table_links us u q) out (at + n)) z (turns_stop ls [] at (table_turn us u q) (length us) done.turns l)

-- ---- a row of the old lookup

module _ (t : ℕ) (us : List ℕ) (u up : ℕ) (l : Link) where
  -- how many new tables are entered behind it
  abbrev pub behind : ℕ
  behind = cond (eqb l.child t) (length us) 0

  pub entered_long : length (link_entered t us u up l) ≡ 1 + behind
  unfolding link_entered
  entered_long =
      by_test (eqb l.child t)
      (λ e. rw e (omega (arith, length-upto (λ j. link u (l.position + 2 * up + 2 + 2 * j) (get_or us j 0)) (length us))))
      (λ e. rw e)

  -- it leads elsewhere
  pub entered_other : (l.child ≡ t → ⊥) → link_entered t us u up l ≡ link u (l.position + 2 * up) l.child ∷ []
  unfolding link_entered
  entered_other ne = rw (ne_eqb l.child t ne)

  -- it leads to the old table
  pub entered_listing : l.child ≡ t → link_entered t us u up l ≡ (link u (l.position + 2 * up) l.child ∷ []) ++ new_table_links us u (l.position + 2 * up + 2)
  unfolding link_entered
  entered_listing e = rw (eq-eqb l.child t e)

  pub entered_next : (ls : List Link) → links_entered t us u up (l ∷ ls) ≡ link_entered t us u up l ++ links_entered t us u (up + behind) ls
  unfolding links_entered
  entered_next ls =
      ap (λ (n : ℕ). link_entered t us u up l ++ links_entered t us u n ls)
      (by_test (eqb l.child t) (λ e. rw e) (λ e. let z : up ≡ up + 0 = omega arith in rw e z))

-- ---- row k copied, as row `at`

module _ {ls : List ℕ} {t : ℕ} {us : List ℕ} {k up at u : ℕ} (ready : RowReady ls t us k up at u) where
  -- the row, and its copy
  abbrev old : Link
  old = link_in ls k

  abbrev new : Link
  new = link u (old.position + 2 * up) old.child

  pub copy_room : per_link * (at + 1) ≤ length ls
  copy_room = omega (arith, ready.room, entered_long t us u up old)

  module _ {out : List ℕ} (written : out ≡ put ls (per_link * at) (numbers_of new)) where
    pub other_copied : (old.child ≡ t → ⊥) → Copied ls at (link_entered t us u up old) out (at + 1)
    other_copied ne = subst (λ (x : List Link). Copied ls at x out (at + 1)) (sym (entered_other t us u up old ne)) (one_copied written)

    module _ (e : old.child ≡ t) where
      both_room : RowsRoom ls [] at ((new ∷ []) ++ new_table_links us u (old.position + 2 * up + 2))
      both_room =
          subst (λ (x : List Link). RowsRoom ls [] at x) (entered_listing t us u up old e)
          (record { behind = omega arith; fits = ready.room })

      pub listing_room : per_link * (at + 1 + length us) ≤ length out
      listing_room =
          let long = length-upto (λ j. link u (old.position + 2 * up + 2 + 2 * j) (get_or us j 0)) (length us) in
          let rest = room_rest (new ∷ []) (new_table_links us u (old.position + 2 * up + 2)) both_room (one_copied written) in
          omega (arith, rest.fits)

      pub listing_copied : {out' : List ℕ} {r : ℕ} → Copied out (at + 1) (new_table_links us u (old.position + 2 * up + 2)) out' r
          → Copied ls at (link_entered t us u up old) out' r
      listing_copied {out'} {r} more =
          subst (λ (x : List Link). Copied ls at x out' r) (sym (entered_listing t us u up old e))
          (copied_more (new ∷ []) (new_table_links us u (old.position + 2 * up + 2)) both_room (one_copied written) more)
