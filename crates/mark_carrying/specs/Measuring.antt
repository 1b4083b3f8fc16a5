-- What a split needs, counted. Assumes nothing.
use Rattle.std.specs.Prelude.{ℕ, ◌≡◌, List}
use Rattle.store_rules.specs.Store.{Store}
use Rattle.call_rules.specs.declared.Needs.{Needs}
use Rattle.cut_parts.specs.Order.{Arranged}
use Rattle.mark_rules.specs.Table.{classes_of, marks_of}
use Rattle.mark_rules.specs.Written.{needed}
use Rattle.mark_new_objects.specs.Marks.{entries_from}

-- each table has its marks in the lists, by their glyphs, and n is what the split at cs needs
pub record Measured (s : Store) (t : ℕ) (gs ks cs : List ℕ) (n : Needs) : Type 0 where
  pub arranged : Arranged gs ks cs (classes_of s t) (entries_from (marks_of s t))
  pub needs : n ≡ needed s t cs
