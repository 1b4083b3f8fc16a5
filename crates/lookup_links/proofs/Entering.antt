-- The lookups one after another, for a caller. Assumes nothing.
use Prim.Native.Nat.{ℕ, ◌+◌, ◌≤◌, ◌<◌}
use mathlib.Core.Path.{◌≡◌, ap, subst}
use mathlib.Core.List.{List}
use native.Mathlib.Omega.{arith}
use lib.ListN.{length, get_or}
use Rattle.folds.specs.Folds.{flat}
use Rattle.store_rules.specs.Store.{Link, lent, links_of}
use Rattle.store_rules.proofs.Sound.{sound_fits}
use Rattle.store_reader.proofs.Rows.{in_order_lem, positions_low}
use Rattle.store_link_rows.specs.Copies.{in_use, Copied}
use Rattle.store_link_rows.proofs.Copying.{Turns, turns_start, turns_link, turns_in_order, turns_room, turns_most, turns_turn, turns_stop}
use Rattle.lookup_rules.specs.Written.{new_lookup_links}
use Rattle.lookup_links.specs.Copies.{lookup_copies, LookupReady}
use Rattle.lookup_links.specs.Entering.{Entering, EnteringLent}
use Rattle.lookup_links.proofs.BySlots.{all_by_rows}

-- the links of new lookup m, of which the first is object n
abbrev lookup_turn : ℕ → List ℕ → List ℕ → ℕ → List Link → ℕ → List Link
lookup_turn t us ps n old m = lookup_copies t us old (get_or ps m 0) (n + m)

-- those of the lookups before m are written
pub record AllEntered (ls counts : List ℕ) (t : ℕ) (us ps : List ℕ) (n : ℕ) (out : List ℕ) (next m : ℕ) : Type 0 where
  pub turns : Turns ls counts (get_or counts 2 0) (lookup_turn t us ps n) (length ps) out next m

module _ (ls counts : List ℕ) (t : ℕ) (us ps : List ℕ) (n : ℕ) where
  abbrev all : List Link
  all = flat (lookup_turn t us ps n (in_use ls counts)) (length ps)

  all_are : (b o : List ℕ) → Entering (lent b o ls counts) t us ps n → all ≡ new_lookup_links (lent b o ls counts) t us ps n
  unfolding links_of
  all_are b o e = let s = lent b o ls counts in all_by_rows s (sound_fits s e.sound_is) t us ps n (λ m l. (e.lookups m l).good)

  pub all_start : EnteringLent ls counts t us ps n → AllEntered ls counts t us ps n ls (get_or counts 2 0) 0
  all_start g =
      let many = ap length (all_are g.bytes g.objects g.known) in
      record {
        turns = turns_start ls counts (get_or counts 2 0) (lookup_turn t us ps n) (length ps)
            (record { behind = omega arith; fits = omega (arith, g.known.room) });
      }

  module _ (out : List ℕ) (next m : ℕ) (done : AllEntered ls counts t us ps n out next m) where
    pub all_stop : length ps ≤ m → (b o : List ℕ) → Entering (lent b o ls counts) t us ps n
        → Copied ls (get_or counts 2 0) (new_lookup_links (lent b o ls counts) t us ps n) out next
    all_stop l b o e =
        subst (λ (x : List Link). Copied ls (get_or counts 2 0) x out next) (all_are b o e)
        (turns_stop ls counts (get_or counts 2 0) (lookup_turn t us ps n) (length ps) done.turns l)

    module _ (l : m < length ps) where
      pub lookup_ready : EnteringLent ls counts t us ps n → LookupReady out counts t us (get_or ps m 0) (n + m) next
      lookup_ready g =
          let s = lent g.bytes g.objects ls counts in
          let fits = sound_fits s g.known.sound_is in
          let many = ap length (all_are g.bytes g.objects g.known) in
          let at = get_or counts 2 0 in
          record {
            order = turns_in_order ls counts at (lookup_turn t us ps n) (length ps) done.turns l (in_order_lem s fits);
            used = omega (arith, (g.known.lookups m l).used, fits.objects_most);
            small = λ k h.
                let same = ap (λ (x : Link). x.position) (turns_link ls counts at (lookup_turn t us ps n) (length ps) done.turns l k h) in
                omega (arith, positions_low s fits k h);
            few = g.known.few;
            room = turns_room ls counts at (lookup_turn t us ps n) (length ps) done.turns l;
            most = turns_most ls counts at (lookup_turn t us ps n) (length ps) done.turns l 262144 (omega (arith, g.known.most));
          }

      pub all-turn : {out' : List ℕ} {r : ℕ} → Copied out next (lookup_copies t us (in_use out counts) (get_or ps m 0) (n + m)) out' r
          → AllEntered ls counts t us ps n out' r (m + 1)
      all-turn more = record { turns = turns_turn ls counts (get_or counts 2 0) (lookup_turn t us ps n) (length ps) done.turns l more }
