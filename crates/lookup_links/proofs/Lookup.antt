-- The rows of an old lookup, one after another. Assumes nothing.
use Prim.Native.Nat.{ℕ, ◌+◌, ◌-◌, ◌*◌, ◌≤◌, ◌<◌}
use mathlib.Core.Path.{◌≡◌, refl, sym, ap, ap₂, subst, ◌∙◌}
use mathlib.Core.List.{List, [], ◌∷◌, ◌++◌, append_assoc, append-nil}
use native.Mathlib.Omega.{arith}
use lib.ListN.{length, get_or, length-append}
use Rattle.store_rules.specs.Store.{Link, lent, per_link}
use Rattle.store_reader.specs.declared.LinkRows.{LinkRows}
use Rattle.store_reader.specs.Rows.{ParentRows}
use Rattle.store_link_rows.specs.Rows.{link_in, position_in}
use Rattle.store_link_rows.specs.Copies.{in_use, RowsRoom, Copied}
use Rattle.store_link_rows.proofs.OwnLinks.{links_between, between_next, between_none, own_links}
use Rattle.store_link_rows.proofs.Copying.{copied_long, still_link, room_first, room_rest, copied_more, copied_none}
use Rattle.lookup_links.specs.Copies.{link_entered, links_entered, lookup_copies, RowReady, LookupReady}
use Rattle.lookup_links.proofs.Rows.{behind, entered_long, entered_next}

-- the links of the rows from lo up to hi
abbrev links_in : List ℕ → ℕ → ℕ → List Link
links_in ls lo hi = links_between (lent [] [] ls []) lo hi

-- all links of the new lookup u
abbrev all_in : List ℕ → ℕ → List ℕ → ℕ → LinkRows → List Link
all_in ls t us u rows = links_entered t us u 0 (links_in ls rows.first rows.after)

-- those of the rows before k are written, with so many new tables among them
pub record Entered (ls : List ℕ) (t : ℕ) (us : List ℕ) (u at : ℕ) (rows : LinkRows) (out : List ℕ) (next k : ℕ) : Type 0 where
  pub low : rows.first ≤ k
  pub high : k ≤ rows.after
  pub apart : rows.after ≤ at
  pub room : per_link * (at + length (all_in ls t us u rows)) ≤ length ls
  pub most : at + length (all_in ls t us u rows) ≤ 262144
  pub same : length out ≡ length ls
  pub done : List Link
  pub copied : Copied ls at done out next
  pub entered : ℕ
  pub next_is : next ≡ at + (k - rows.first) + entered
  pub rest : all_in ls t us u rows ≡ done ++ links_entered t us u entered (links_in ls k rows.after)

module _ (ls : List ℕ) (t : ℕ) (us : List ℕ) (u at : ℕ) (rows : LinkRows) where
  -- ---- the first

  module _ (counts : List ℕ) (p : ℕ) (ready : LookupReady ls counts t us p u at) (own : ParentRows ls (get_or counts 2 0) p rows) where
    pub all_are : lookup_copies t us (in_use ls counts) p u ≡ all_in ls t us u rows
    unfolding lookup_copies
    all_are = ap (links_entered t us u 0) (own_links (lent [] [] ls counts) ready.order ready.small p own)

    pub entered_start : Entered ls t us u at rows ls at rows.first
    entered_start =
        let long = ap length all_are in
        let room = ready.room in
        record {
          low = omega arith;
          high = own.rise;
          apart = omega (arith, own.after.within, room.behind);
          room = omega (arith, room.fits);
          most = omega (arith, ready.most);
          same = refl;
          done = [];
          copied = copied_none ls at;
          entered = 0;
          next_is = omega arith;
          rest = refl;
        }

  module _ (out : List ℕ) (next k : ℕ) (e : Entered ls t us u at rows out next k) where
    -- ---- the last

    pub entered_stop : rows.after ≤ k → {all : List Link} → all ≡ all_in ls t us u rows → Copied ls at all out next
    unfolding links_entered
    entered_stop l same =
        let none : all_in ls t us u rows ≡ e.done
        = e.rest ∙ ap (λ (x : List Link). e.done ++ links_entered t us u e.entered x) (between_none (lent [] [] ls []) k rows.after l) ∙ append-nil e.done in
        subst (λ (x : List Link). Copied ls at x out next) (sym (same ∙ none)) e.copied

    -- ---- row k

    module _ (l : k < rows.after) where
      -- the rows before the last one's end, as counts
      abbrev counts : List ℕ
      counts = 0 ∷ 0 ∷ rows.after ∷ []

      -- what is written for it, and what follows
      abbrev here : List Link
      here = link_entered t us u e.entered (link_in ls k)

      abbrev later : List Link
      later = links_entered t us u (e.entered + behind t us u e.entered (link_in ls k)) (links_in ls (k + 1) rows.after)

      split : all_in ls t us u rows ≡ e.done ++ here ++ later
      split =
          e.rest
          ∙ ap (λ (x : List Link). e.done ++ x)
          (ap (links_entered t us u e.entered) (between_next (lent [] [] ls []) k rows.after l)
          ∙ entered_next t us u e.entered (link_in ls k) (links_in ls (k + 1) rows.after))
          ∙ sym (append_assoc e.done here later)

      room_here : RowsRoom ls counts at (e.done ++ here)
      room_here = room_first (e.done ++ here) later (subst (λ (x : List Link). RowsRoom ls counts at x) split (record { behind = e.apart; fits = e.room }))

      same_link : link_in out k ≡ link_in ls k
      same_link = still_link ls counts at e.done (room_first e.done here room_here) out next e.copied k l

      -- how many slots up, as it is computed
      abbrev up : ℕ
      up = next - at - (k - rows.first)

      up_is : up ≡ e.entered
      up_is = omega (arith, e.next_is, e.low)

      same_here : link_entered t us u up (link_in out k) ≡ here
      same_here = ap₂ (λ (n : ℕ) (x : Link). link_entered t us u n x) up_is same_link

      pub row_ready : position_in ls k < 16777216 → length us ≤ 65536 → RowReady out t us k up next u
      row_ready small few =
          let rest = links_entered t us u e.entered (links_in ls k rows.after) in
          let place : position_in out k ≡ position_in ls k = ap (λ (x : Link). x.position) same_link in
          let many : length e.done ≤ length (all_in ls t us u rows) = omega (arith, ap length e.rest, length-append e.done rest) in
          record {
            there = omega (arith, e.room, e.apart, e.same);
            small = omega (arith, up_is, e.next_is, e.copied.next, e.most);
            room = omega (arith, (room_rest e.done here room_here e.copied).fits, ap length same_here);
          }

      pub entered_turn : {out' : List ℕ} {r : ℕ} → Copied out next (link_entered t us u up (link_in out k)) out' r → Entered ls t us u at rows out' r (k + 1)
      entered_turn {out'} {r} more =
          let mine : Copied out next here out' r = subst (λ (x : List Link). Copied out next x out' r) same_here more in
          let both = copied_more e.done here room_here e.copied mine in
          record {
            low = omega (arith, e.low);
            high = omega arith;
            apart = e.apart;
            room = e.room;
            most = e.most;
            same = copied_long ls counts at (e.done ++ here) room_here out' r both;
            done = e.done ++ here;
            copied = both;
            entered = e.entered + behind t us u e.entered (link_in ls k);
            next_is = omega (arith, mine.next, entered_long t us u e.entered (link_in ls k), e.next_is, e.low);
            rest = split;
          }
