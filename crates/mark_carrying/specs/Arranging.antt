-- Marks put together by table, by their glyphs or by their places. Assumes nothing.
use Rattle.std.specs.Prelude.{ℕ, ◌+◌, ◌*◌, ◌<◌, ◌≤◌, ◌≡◌, List, length, get_or}
use Rattle.folds.specs.Lists.{part}
use Rattle.store_rules.specs.Store.{Store, lent}
use Rattle.cut_rules.specs.Places.{Places}
use Rattle.cut_parts.specs.Order.{Arranged}
use Rattle.mark_rules.specs.Table.{classes_of, marks_of}
use Rattle.mark_checks.specs.declared.MarkTable.{MarkTable}
use Rattle.mark_checks.specs.Opens.{Opens}
use Rattle.mark_new_objects.specs.Marks.{entries_from}
use Rattle.mark_order.specs.Marks.{mark_places}

-- ascending numbers for the marks of the array b, lists and scratch that are long enough, and places at which n classes can be cut
pub record MarksNumbered (b xs ks set cs : List ℕ) (n : ℕ) : Type 0 where
  pub same : length ks ≡ length xs
  pub long : 2 + 4 * length xs ≤ length b
  pub rising : (i j : ℕ) → i < j → j < length xs → get_or xs i 0 < get_or xs j 0
  pub scratch : 8192 ≤ length set
  pub places : Places n cs

-- a table that is open, places at which it can be cut, room for so many numbers and for each mark's class, and scratch
pub record Arranging (s : Store) (t : ℕ) (p : MarkTable) (many : ℕ) (xs ks set cs : List ℕ) : Type 0 where
  pub opens : Opens s t p
  pub places : Places (classes_of s t) cs
  pub some : 0 < length cs
  pub numbers : length xs ≡ many
  pub classes : length ks ≡ p.marks.count
  pub scratch : 8192 ≤ length set

-- each table has its marks' glyphs, at the front of the list, whatever the links of the store
abbrev pub ArrangesGlyphs : List ℕ → List ℕ → MarkTable → List ℕ → List ℕ → List ℕ → List ℕ → List ℕ → List ℕ → Type 0
ArrangesGlyphs b o p gs ks set cs gs' ks' =
    (l c : List ℕ) (t : ℕ)
    → Arranging (lent b o l c) t p p.glyphs gs ks set cs
    → Arranged (part gs' 0 p.marks.count) ks' cs (classes_of (lent b o l c) t) (entries_from (marks_of (lent b o l c) t))

-- each has its marks' places
abbrev pub ArrangesPlaces : List ℕ → List ℕ → MarkTable → List ℕ → List ℕ → List ℕ → List ℕ → List ℕ → List ℕ → Type 0
ArrangesPlaces b o p ps ks set cs ps' ks' =
    (l c : List ℕ) (t : ℕ)
    → Arranging (lent b o l c) t p p.marks.count ps ks set cs
    → Arranged ps' ks' cs (classes_of (lent b o l c) t) (mark_places (lent b o l c) t)
