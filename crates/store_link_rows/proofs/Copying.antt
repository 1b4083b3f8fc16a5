-- Links written one behind another: the rows in use stay as they came. Assumes nothing.
use Prim.Native.Nat.{ℕ, ◌+◌, ◌*◌, ◌≤◌, ◌<◌}
use mathlib.Core.Path.{◌≡◌, refl, sym, subst, ap, ap₂, ◌∙◌}
use mathlib.Core.List.{List, [], ◌++◌}
use native.Mathlib.Omega.{arith}
use lib.ListN.{length, get_or, length-append}
use Rattle.folds.specs.Folds.{flat}
use Rattle.folds.specs.Lists.{put}
use Rattle.folds.proofs.Folds.{flat_none, flat-more, flat_split, upto-same}
use Rattle.folds.proofs.Put.{put-nil, put-put, put-below, length-put}
use Rattle.store_rules.specs.Store.{Link, lent, per_link, row_parent, link_at, links_of}
use Rattle.store_rules.specs.Appended.{row_numbers}
use Rattle.store_rules.proofs.LinkRows.{rows_numbers}
use Rattle.store_rules.proofs.LinksAscend.{place}
use Rattle.store_reader.specs.declared.LinkRows.{LinkRows}
use Rattle.store_reader.specs.Rows.{orders, row_place, row_key, key_of, InOrder, FirstRow}
use Rattle.store_reader.proofs.Rows.{row_place_lem}
use Rattle.store_link_rows.specs.Copies.{in_use, Source, RowsRoom, Copied}
use Rattle.store_link_rows.proofs.Links.{numbers_append}
use Rattle.store_link_rows.proofs.RowLaws.{row_same, same_link}

-- ---- rows that agree below the count are the same links

module _ (ls out counts : List ℕ) (same : (i : ℕ) → i < per_link * get_or counts 2 0 → get_or out i 0 ≡ get_or ls i 0) where
  abbrev count : ℕ
  count = get_or counts 2 0

  link_same : (k : ℕ) → k < count → link_at (lent [] [] out counts) k ≡ link_at (lent [] [] ls counts) k
  link_same k l = same_link out ls k k (row_same out ls k (λ i from h. same i (omega arith)))

  in_use_same : in_use out counts ≡ in_use ls counts
  unfolding links_of
  in_use_same = upto-same (link_at (lent [] [] out counts)) (link_at (lent [] [] ls counts)) count link_same

  place_same : (k : ℕ) → k < count → row_place out k ≡ row_place ls k
  place_same k l = row_place_lem (lent [] [] out counts) k ∙ ap place (link_same k l) ∙ sym (row_place_lem (lent [] [] ls counts) k)

  key_same : (k : ℕ) → k < count → row_key out k ≡ row_key ls k
  key_same k l = ap₂ (λ (p q : ℕ). key_of p q) (same (per_link * k + row_parent) (omega arith)) (place_same k l)

  first_same : (key r : ℕ) → FirstRow ls count key r → FirstRow out count key r
  first_same key r f =
      record {
        within = f.within;
        below = λ k l. omega (arith, f.below k l, f.within, key_same k (omega (arith, f.within)));
        above = λ k l h. omega (arith, f.above k l h, key_same k h);
      }

  order_same : length out ≡ length ls → InOrder ls count → InOrder out count
  order_same n o =
      record {
        room = omega (arith, o.room);
        places = λ k h. omega (arith, o.places k h, place_same k h);
        rising = λ j k l h. omega (arith, o.rising j k l h, key_same j (omega arith), key_same k h);
      }

  source_same : length out ≡ length ls → (p : ℕ) (rows : LinkRows) → Source ls counts p rows → Source out counts p rows
  source_same n p rows s =
      record {
        order = order_same n s.order;
        rows_are = record {
          first = first_same (key_of p 0) rows.first s.rows_are.first;
          after = first_same (key_of p orders) rows.after s.rows_are.after;
          rise = s.rows_are.rise;
        };
      }

-- ---- one write

module _ (ls counts : List ℕ) (at : ℕ) (new : List Link) (room : RowsRoom ls counts at new) (out : List ℕ) (r : ℕ) (done : Copied ls at new out r) where
  pub copied_long : length out ≡ length ls
  copied_long = ap length done.rows_are ∙ length-put ls (per_link * at) (row_numbers new) (omega (arith, room.fits, rows_numbers new))

  stays : (i : ℕ) → i < per_link * get_or counts 2 0 → get_or out i 0 ≡ get_or ls i 0
  stays i l =
      ap (λ (x : List ℕ). get_or x i 0) done.rows_are
      ∙ put-below ls (per_link * at) (row_numbers new) (omega (arith, room.fits)) i (omega (arith, room.behind))

  pub still_link : (k : ℕ) → k < get_or counts 2 0 → link_at (lent [] [] out counts) k ≡ link_at (lent [] [] ls counts) k
  still_link = link_same ls out counts stays

  pub still_in_order : InOrder ls (get_or counts 2 0) → InOrder out (get_or counts 2 0)
  still_in_order = order_same ls out counts stays copied_long

  pub still_in_use : in_use out counts ≡ in_use ls counts
  still_in_use = in_use_same ls out counts stays

  pub still_source : (p : ℕ) (rows : LinkRows) → Source ls counts p rows → Source out counts p rows
  still_source p rows s = source_same ls out counts stays copied_long p rows s

-- ---- one behind another

module _ {ls counts : List ℕ} {at : ℕ} (xs ys : List Link) (room : RowsRoom ls counts at (xs ++ ys)) where
  pub room_first : RowsRoom ls counts at xs
  room_first = record { behind = room.behind; fits = omega (arith, room.fits, length-append xs ys) }

  module _ {out : List ℕ} {r : ℕ} (done : Copied ls at xs out r) where
    pub room_rest : RowsRoom out counts r ys
    room_rest =
        record {
          behind = omega (arith, room.behind, done.next);
          fits = omega (arith, room.fits, done.next, length-append xs ys, copied_long ls counts at xs room_first out r done);
        }

    pub copied_more : {out' : List ℕ} {r' : ℕ} → Copied out r ys out' r' → Copied ls at (xs ++ ys) out' r'
    copied_more {out'} {r'} more =
        record {
          rows_are =
              more.rows_are
              ∙ ap₂ (λ (o : List ℕ) (n : ℕ). put o (per_link * n) (row_numbers ys)) done.rows_are done.next
              ∙ put-put ls (per_link * at) (row_numbers xs) (per_link * (at + length xs)) (row_numbers ys) (omega (arith, room.fits))
              (omega (arith, rows_numbers xs))
              ∙ ap (put ls (per_link * at)) (sym (numbers_append xs ys));
          next = omega (arith, more.next, done.next, length-append xs ys);
        }

pub copied_none : (ls : List ℕ) (at : ℕ) → Copied ls at [] ls at
unfolding row_numbers
copied_none ls at = record { rows_are = put-nil ls (per_link * at); next = omega arith }

-- the same, where what is written second is copied from the links in use as they are then
module _ {ls counts : List ℕ} {at : ℕ} (xs : List Link) (ys : List Link → List Link) (room : RowsRoom ls counts at (xs ++ ys (in_use ls counts)))
    {out : List ℕ} {r : ℕ} (done : Copied ls at xs out r) where
  in_use_lem : in_use out counts ≡ in_use ls counts
  in_use_lem = still_in_use ls counts at xs (room_first xs (ys (in_use ls counts)) room) out r done

  pub room_then : RowsRoom out counts r (ys (in_use out counts))
  room_then = subst (λ (old : List Link). RowsRoom out counts r (ys old)) (sym in_use_lem) (room_rest xs (ys (in_use ls counts)) room done)

  pub copied_then : {out' : List ℕ} {r' : ℕ} → Copied out r (ys (in_use out counts)) out' r' → Copied ls at (xs ++ ys (in_use ls counts)) out' r'
  copied_then {out'} {r'} more = copied_more xs (ys (in_use ls counts)) room done (subst (λ (old : List Link). Copied out r (ys old) out' r') in_use_lem more)

  pub source_then : (p : ℕ) (rows : LinkRows) → Source ls counts p rows → Source out counts p rows
  source_then p rows s = still_source ls counts at xs (room_first xs (ys (in_use ls counts)) room) out r done p rows s

-- ---- turn by turn: of n turns, which copy from the links in use, those before k are done

pub record Turns (ls counts : List ℕ) (at : ℕ) (new : List Link → ℕ → List Link) (n : ℕ) (out : List ℕ) (next k : ℕ) : Type 0 where
  pub some : k ≤ n
  pub room : RowsRoom ls counts at (flat (new (in_use ls counts)) n)
  pub copied : Copied ls at (flat (new (in_use ls counts)) k) out next
  pub same : length out ≡ length ls

module _ (ls counts : List ℕ) (at : ℕ) (new : List Link → ℕ → List Link) (n : ℕ) where
  -- turn k
  abbrev turn : ℕ → List Link
  turn k = new (in_use ls counts) k

  pub turns_start : RowsRoom ls counts at (flat turn n) → Turns ls counts at new n ls at 0
  turns_start room =
      record {
        some = omega arith;
        room = room;
        copied = subst (λ (x : List Link). Copied ls at x ls at) (sym (flat_none turn)) (copied_none ls at);
        same = refl;
      }

  module _ {out : List ℕ} {next k : ℕ} (t : Turns ls counts at new n out next k) where
    pub turns_stop : n ≤ k → Copied ls at (flat turn n) out next
    turns_stop l = let e : k ≡ n = omega (arith, t.some) in subst (λ (m : ℕ). Copied ls at (flat turn m) out next) e t.copied

    module _ (l : k < n) where
      more_room : RowsRoom ls counts at (flat turn k ++ turn k)
      more_room =
          let (rest, e) = flat_split turn k n l in
          room_first (flat turn k ++ turn k) rest (subst (λ (x : List Link). RowsRoom ls counts at x) e t.room)

      -- what is done
      done_room : RowsRoom ls counts at (flat turn k)
      done_room = room_first (flat turn k) (turn k) more_room

      pub turns_link : (i : ℕ) → i < get_or counts 2 0 → link_at (lent [] [] out counts) i ≡ link_at (lent [] [] ls counts) i
      turns_link = still_link ls counts at (flat turn k) done_room out next t.copied

      pub turns_in_order : InOrder ls (get_or counts 2 0) → InOrder out (get_or counts 2 0)
      turns_in_order = still_in_order ls counts at (flat turn k) done_room out next t.copied

      pub turns_source : (p : ℕ) (rows : LinkRows) → Source ls counts p rows → Source out counts p rows
      turns_source p rows s = source_then (flat turn k) (λ old. new old k) more_room t.copied p rows s

      pub turns_room : RowsRoom out counts next (new (in_use out counts) k)
      turns_room = room_then (flat turn k) (λ old. new old k) more_room t.copied

      -- and no row passes a bound that the last keeps
      pub turns_most : (most : ℕ) → at + length (flat turn n) ≤ most → next + length (new (in_use out counts) k) ≤ most
      turns_most most all =
          let same = ap (λ (old : List Link). length (new old k)) (still_in_use ls counts at (flat turn k) done_room out next t.copied) in
          let (rest, e) = flat_split turn k n l in
          omega (arith, t.copied.next, ap length e, length-append (flat turn k ++ turn k) rest, length-append (flat turn k) (turn k))

      pub turns_turn : {out' : List ℕ} {next' : ℕ} → Copied out next (new (in_use out counts) k) out' next' → Turns ls counts at new n out' next' (k + 1)
      turns_turn {out'} {next'} more =
          let both = copied_then (flat turn k) (λ old. new old k) more_room t.copied more in
          record {
            some = omega arith;
            room = t.room;
            copied = subst (λ (x : List Link). Copied ls at x out' next') (sym (flat-more turn k)) both;
            same = copied_long ls counts at (flat turn k ++ turn k) more_room out' next' both;
          }
