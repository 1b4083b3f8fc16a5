-- "Freed room is used by the next split": a call on what is kept, after a compaction, beside the same call before it. Assumes nothing.
use Rattle.std.specs.Prelude.{ℕ, ◌<◌, ◌≡◌, Bool, true, false, List}
use Rattle.store_rules.specs.Store.{Store}
use Rattle.call_rules.specs.declared.Settings.{Settings}
use Rattle.call_rules.specs.Scratch.{Scratch}
use Rattle.call_rules.specs.Outcomes.{Outcome}
use Rattle.pair_rules.specs.Table as pair_tables
use Rattle.pair_rules.specs.Reads as pair_reads
use Rattle.pair_rules.specs.Written as pair_written
use Rattle.pair_rules.specs.Calls.{split_call}
use Rattle.mark_rules.specs.Table as mark_tables
use Rattle.mark_rules.specs.Reads as mark_reads
use Rattle.mark_rules.specs.Written as mark_written
use Rattle.mark_rules.specs.Calls.{mark_split_call}
use Rattle.lookup_rules.specs.Written.{needed_in_all}
use Rattle.lookup_rules.specs.Calls.{lookup_call}
use Rattle.compact_rules.specs.Kept.{kept}
use Rattle.promise_compaction.specs.Kept.{new_number}
use Rattle.promise_compaction.specs.Rests.{freed, short_having}

-- a kept table is cut where it would have been cut before
pub record CutsKept (s : Store) (roots : List ℕ) (left : Store) : Type 0 where
  pub pairs : (how : Settings) (t : ℕ) → kept s roots t ≡ true → pair_reads.Reads s t → pair_tables.cut_places how left (new_number s roots t) ≡ pair_tables.cut_places how s t
  pub marks : (how : Settings) (t : ℕ) → kept s roots t ≡ true → mark_reads.Reads s t → mark_tables.cut_places how left (new_number s roots t) ≡ mark_tables.cut_places how s t

-- what a call left before, and what it leaves after; `short` says whether 8 would have applied before with the freed room
pub record NextCall (before after : Outcome) (short : Bool) : Type 0 where
  -- one that 8 refused for want of room that dead objects took is not refused, and splits
  pub freed : before.answer ≡ 8 → short ≡ false → (after.answer ≡ 0) × (0 < after.count)
  -- one for which the freed room is too little is refused again
  pub refused : before.answer ≡ 8 → short ≡ true → after.answer ≡ 8
  -- any other answers what it answered, with as many new tables; but for 6, of which fewer objects ask for less
  pub stays : (before.answer ≡ 6 → ⊥) → (before.answer ≡ 8 → ⊥) → (after.answer ≡ before.answer) × (after.count ≡ before.count)

-- "the next split": of each kind, with any settings, scratch and list
pub record NextSplits (s : Store) (roots : List ℕ) (left : Store) : Type 0 where
  pub pairs : (how : Settings) (t : ℕ) → kept s roots t ≡ true → (w : Scratch) (list : List ℕ)
      → NextCall (split_call how s t w list) (split_call how left (new_number s roots t) w list)
      (short_having (freed s left) s list (pair_written.needed s t (pair_tables.cut_places how s t)))
  pub marks : (how : Settings) (t : ℕ) → kept s roots t ≡ true → (w : Scratch) (list : List ℕ)
      → NextCall (mark_split_call how s t w list) (mark_split_call how left (new_number s roots t) w list)
      (short_having (freed s left) s list (mark_written.needed s t (mark_tables.cut_places how s t)))
  -- and so where new tables are entered in the lookups of list l
  pub lookups : (how : Settings) (l t : ℕ) → kept s roots l ≡ true → kept s roots t ≡ true → (w : Scratch) (list : List ℕ)
      → NextCall (lookup_call how s l t w list) (lookup_call how left (new_number s roots l) (new_number s roots t) w list)
      (short_having (freed s left) s list (needed_in_all s l t (pair_tables.cut_places how s t)))
