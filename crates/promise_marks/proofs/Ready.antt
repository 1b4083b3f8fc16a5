-- A split that goes ahead: what its checks give of the store, the table and its cuts. Assumes nothing.
use Rattle.std.specs.Prelude.{Option, None}
use Prim.Native.Nat.{ℕ, ◌+◌, ◌*◌, ◌<◌, ◌≤◌}
use mathlib.Core.Path.{◌≡◌, sym, ap, ◌∙◌}
use mathlib.Core.Bool.{false}
use mathlib.Core.List.{List}
use native.Mathlib.Omega.{arith}
use native.Mathlib.Nat.{mul-le-mul_left, mul-add}
use lib.ListN.{length}
use Rattle.folds.specs.Lists.{join}
use Rattle.ot_layouts.specs.MarkBasePos.{table_size}
use Rattle.store_rules.specs.Store.{Store, per_link, size_of, object_room, byte_room, link_room}
use Rattle.store_rules.specs.Reach.{on_cycle}
use Rattle.store_rules.specs.Appended.{new_number, with_bytes}
use Rattle.store_rules.proofs.Sound.{Fits, sound_fits, size_bytes}
use Rattle.store_rules.proofs.Appended as behind
use Rattle.cut_rules.specs.Places.{Places}
use Rattle.cut_rules.specs.Ranges.{from}
use Rattle.call_rules.specs.declared.Settings.{Settings}
use Rattle.call_rules.specs.Answers.{first_case}
use Rattle.call_rules.specs.Scratch.{Scratch}
use Rattle.call_rules.specs.Outcomes.{Outcome, done, settle}
use Rattle.mark_rules.specs.Table.{classes_of, bases_in, marks_of, cut_places}
use Rattle.mark_rules.specs.Written.{new_of, per_table, need_objects, need_links, kept_table, new_links, split_store, new_tables}
use Rattle.mark_rules.specs.Reads.{Reads}
use Rattle.mark_rules.specs.Calls.{split_cases, mark_split_call}
use Rattle.mark_rules.proofs.Checks.{Parts, AtSlots, parts_read, at_slots_lem}
use Rattle.mark_rules.proofs.NewCounts.{table_cuts, new_many}
use Rattle.promise_calls.proofs.Settled.{went}
use Rattle.promise_marks.specs.Demands.{Splits, store_then}
use Rattle.promise_marks.specs.Exactly.{MaySplit}
use Rattle.promise_marks.proofs.Exactly.{no_case_splits}

-- table t of s is ready to be split at cs
pub record Ready (s : Store) (t : ℕ) (cs : List ℕ) : Type 0 where
  -- 1 to 5 do not apply
  pub reads : Reads s t
  pub fit : Fits s
  pub size : size_of s t ≡ table_size
  pub parts : Parts s t
  -- nor does 7
  pub at_slots : AtSlots s t
  pub acyclic : on_cycle s t ≡ false
  -- there is a cut, and each is a class
  pub cuts : Places (classes_of s t) cs
  pub some_cut : 0 < length cs
  -- and 8 does not apply
  pub objects_room : 2 * (s.object_count + length (new_of s t cs)) ≤ length s.objects
  pub objects_most : s.object_count + length (new_of s t cs) ≤ 65536
  pub bytes_room : s.byte_count + length (join (new_of s t cs)) ≤ length s.bytes
  pub bytes_most : s.byte_count + length (join (new_of s t cs)) ≤ 16777216
  pub links_room : per_link * (s.link_count + need_links s t (length cs)) ≤ length s.links
  pub links_most : s.link_count + need_links s t (length cs) ≤ 262144

ready : (how : Settings) (s : Store) (t : ℕ) (w : Scratch) (list : List ℕ) → MaySplit how s t w list → Ready s t (cut_places how s t)
unfolding object_room byte_room link_room
ready how s t w list m =
    let cs = cut_places how s t in
    let r = m.checked.reads in
    let f = sound_fits s r.sounds in
    let many : length (new_of s t cs) ≡ need_objects (length cs) = new_many (marks_of s t) (bases_in s t) (classes_of s t) cs in
    record {
      reads = r;
      fit = f;
      size = sym (size_bytes s f t r.used) ∙ r.exactly;
      parts = parts_read s t r.parts;
      at_slots = at_slots_lem s t m.checked.at_slots;
      acyclic = m.checked.acyclic;
      cuts = table_cuts how s t;
      some_cut = m.cuts;
      objects_room = omega (arith, m.objects);
      objects_most = omega (arith, m.objects);
      bytes_room = omega (arith, m.bytes);
      bytes_most = omega (arith, m.bytes);
      links_room = omega (arith, m.links);
      links_most = omega (arith, m.links);
    }

-- what a split leaves that goes ahead
abbrev pub split_ahead : Settings → Store → ℕ → Scratch → List ℕ → Outcome
split_ahead how s t w list = done (split_store s t (cut_places how s t)) (new_tables s t (cut_places how s t)) list w

-- a call that splits goes ahead: no case applies
none_applies : (how : Settings) (s : Store) (t : ℕ) (w : Scratch) (list : List ℕ) → Splits how s t w list → first_case (split_cases how s t w list) ≡ None
unfolding mark_split_call
none_applies how s t w list p = went s w list (split_ahead how s t w list) (first_case (split_cases how s t w list)) p.cuts

pub splits_may : (how : Settings) (s : Store) (t : ℕ) (w : Scratch) (list : List ℕ) → Splits how s t w list → MaySplit how s t w list
splits_may how s t w list p = no_case_splits how s t w list (none_applies how s t w list p)

-- and it leaves the store that is written
pub splits_ready : (how : Settings) (s : Store) (t : ℕ) (w : Scratch) (list : List ℕ) → Splits how s t w list
    → Ready s t (cut_places how s t) × (mark_split_call how s t w list ≡ split_ahead how s t w list)
unfolding mark_split_call settle
splits_ready how s t w list p = (
  ready how s t w list (splits_may how s t w list p),
  ap (λ (c : Option ℕ). settle c s list w (split_ahead how s t w list)) (none_applies how s t w list p),
)

-- the store at exit is the written one
pub store_written : (how : Settings) (s : Store) (t : ℕ) (w : Scratch) (list : List ℕ) → Splits how s t w list → store_then how s t w list ≡ split_store s t (cut_places how s t)
unfolding done
store_written how s t w list p = ap (λ (o : Outcome). o.store) (splits_ready how s t w list p).1

module _ (s : Store) (t : ℕ) (cs : List ℕ) (g : Ready s t cs) where
  -- the first cut is a class
  pub first_cut : from cs 0 < classes_of s t
  first_cut = g.cuts.below 0 g.some_cut

  -- how many objects are new
  pub many_new : length (new_of s t cs) ≡ per_table * length cs + 3
  unfolding need_objects
  many_new = new_many (marks_of s t) (bases_in s t) (classes_of s t) cs

  pub objects_then : (split_store s t cs).object_count ≡ s.object_count + (per_table * length cs + 3)
  unfolding split_store kept_table with_bytes
  objects_then = behind.objects_then (kept_table s t (from cs 0)) (new_of s t cs) (new_links s t cs) ∙ ap (λ (n : ℕ). s.object_count + n) many_new

  -- object r of new table j is in use
  pub new_used : (j r : ℕ) → j < length cs → r < per_table → new_number s per_table j + r < (split_store s t cs).object_count
  new_used j r l h = omega (arith, mul-le-mul_left {m = j + 1} {n = length cs} per_table (omega arith), mul-add per_table j 1, objects_then)
