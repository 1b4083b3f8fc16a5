-- The links of a split: the marks' places are arranged from the old mark array, and the link rows then written are those after the split. Assumes nothing.
use Prim.Native.Nat.{ℕ}
use mathlib.Core.Path.{◌≡◌, sym, subst}
use mathlib.Core.List.{List}
use Rattle.ot_layouts.specs.Coverage.{Entry}
use Rattle.store_rules.specs.Store.{Store}
use Rattle.store_object_rows.proofs.Behind.{with}
use Rattle.cut_rules.specs.Places.{Places}
use Rattle.cut_parts.specs.Order.{Arranged}
use Rattle.mark_rules.specs.Table.{classes_of}
use Rattle.mark_rules.specs.Reads.{Reads}
use Rattle.mark_checks.specs.declared.MarkTable.{MarkTable}
use Rattle.mark_checks.specs.Opens.{Opens}
use Rattle.mark_checks.proofs.Opened.{bases_are}
use Rattle.mark_arrays.specs.declared.Arrays.{Arrays}
use Rattle.mark_arrays.specs.Arrays.{arrays_of}
use Rattle.mark_order.specs.Marks.{mark_places}
use Rattle.mark_links.specs.Splitting.{Splitting}
use Rattle.mark_carrying.specs.Arranging.{Arranging}
use Rattle.mark_carrying.specs.Carrying.{Relinking}
use Rattle.mark_carrying.proofs.StillOpen.{classes_same, places_same, still_open}

module _ {s : Store} {t : ℕ} {p : MarkTable} {d o ps ks set cs : List ℕ} (k : Relinking s t p d o ps ks set cs) where
  abbrev opens : Opens s t p
  opens = k.arranging.opens

  abbrev reads : Reads s t
  reads = opens.reads

  pub places_asked : Arranging (with s d o) t p p.marks.count ps ks set cs
  places_asked =
      record {
        opens = still_open k.behind reads opens;
        places = subst (λ (n : ℕ). Places n cs) (sym (classes_same k.behind reads)) k.arranging.places;
        some = k.arranging.some;
        numbers = k.arranging.numbers;
        classes = k.arranging.classes;
        scratch = k.arranging.scratch;
      }

  pub links_asked : {a : Arrays} → a ≡ arrays_of p → {ps' ks' : List ℕ}
      → Arranged ps' ks' cs (classes_of (with s d o) t) (mark_places (with s d o) t) → Splitting s t a ps' ks' cs
  links_asked e {ps'} {ks'} arranged =
      rw e (record {
        reads = reads;
        at_slots = k.slots;
        mark_array_is = opens.marks.linked;
        base_array_is = opens.bases.linked;
        base_cover_is = opens.base_coverage.linked;
        classes_is = opens.classes;
        bases_is = bases_are opens;
        cuts = k.arranging.places;
        some = k.arranging.some;
        arranged =
            subst (λ (n : ℕ). Arranged ps' ks' cs n (mark_places s t)) (classes_same k.behind reads)
            (subst (λ (es : List Entry). Arranged ps' ks' cs (classes_of (with s d o) t) es) (places_same k.behind reads) arranged);
        link_room = k.link_room;
        numbers = k.numbers;
      })
