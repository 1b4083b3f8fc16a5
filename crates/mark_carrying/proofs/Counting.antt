-- The needs that the code counts are those of the split. Assumes nothing.
use Prim.Native.Nat.{ℕ, ◌+◌, ◌*◌, ◌≤◌, ◌<◌}
use mathlib.Core.Path.{◌≡◌, sym, ap, ap₂, subst, ◌∙◌}
use mathlib.Core.List.{List}
use native.Mathlib.Omega.{arith}
use lib.ListN.{length}
use Rattle.folds.specs.Lists.{join, Bytes}
use Rattle.store_rules.specs.Store.{Store}
use Rattle.store_rules.specs.SlotLinks.{links_from}
use Rattle.store_rules.proofs.Sound.{sound_fits}
use Rattle.call_rules.specs.declared.Needs.{Needs}
use Rattle.cut_rules.proofs.CutPlaces.{few_places}
use Rattle.cut_parts.specs.Order.{Arranged}
use Rattle.mark_rules.specs.Table.{classes_of, mark_array, base_array, marks_of}
use Rattle.mark_rules.specs.Written.{need_objects, need_links, needs_of, new_of, needed}
use Rattle.mark_checks.specs.declared.MarkTable.{MarkTable}
use Rattle.mark_checks.specs.Opens.{Opens}
use Rattle.mark_checks.proofs.Opened.{bases_are}
use Rattle.mark_new_objects.specs.Marks.{entries_from}
use Rattle.mark_new_objects.specs.Planned.{PlannedParts}
use Rattle.mark_new_objects.specs.Objects.{objects_of}
use Rattle.mark_new_objects.proofs.Stored.{stored_objects, stored_plan}
use Rattle.mark_carrying.specs.Arranging.{Arranging}
use Rattle.mark_carrying.specs.Measuring.{Measured}

pub few_links : {s : Store} {t : ℕ} {p : MarkTable} → Opens s t p → {a b : ℕ} → a ≤ s.link_count → b ≤ s.link_count → a + b ≤ 524288
few_links {s} o h l = omega (arith, (sound_fits s o.reads.sounds).links_most)

pub counted : (k links bytes : ℕ) (s : Store) (t : ℕ) → links ≡ links_from s (mark_array s t) + links_from s (base_array s t)
    → record { objects = 4 * k + 3; links = 4 * k + links; bytes = bytes; entries = k } ≡ needs_of s t k bytes
unfolding needs_of need_objects need_links
counted k links bytes s t e =
    let many : 4 * k + links ≡ 4 * k + links_from s (mark_array s t) + links_from s (base_array s t) = omega arith in
    λ i. record { objects = 4 * k + 3; links = many i; bytes = bytes; entries = k }

module _ {s : Store} {t : ℕ} {p : MarkTable} {gs ks set cs : List ℕ} (k : Arranging s t p p.glyphs gs ks set cs) (octets : Bytes s.bytes)
    {gs' ks' : List ℕ} (arranged : Arranged gs' ks' cs (classes_of s t) (entries_from (marks_of s t))) where
  abbrev o : Opens s t p
  o = k.opens

  pub planned : PlannedParts gs' ks' cs p.classes
  planned = subst (PlannedParts gs' ks' cs) (sym o.classes) (stored_plan s t o.reads octets gs' ks' cs arranged k.places k.some)

  pub few_cuts : length cs < 65536
  few_cuts = omega (arith, few_places p.classes cs planned.parts.places, planned.count)

  length_is : {bytes : ℕ} → bytes ≡ length (join (objects_of gs' ks' p.bases.count p.classes cs)) → bytes ≡ length (join (new_of s t cs))
  length_is e =
      e
      ∙ ap₂ (λ (b n : ℕ). length (join (objects_of gs' ks' b n cs))) (bases_are o) o.classes
      ∙ ap (λ (x : List (List ℕ)). length (join x)) (stored_objects s t gs' ks' cs arranged k.some)

  pub measured : {bytes a b : ℕ} {n : Needs} → bytes ≡ length (join (objects_of gs' ks' p.bases.count p.classes cs))
      → a ≡ links_from s p.marks.object → b ≡ links_from s p.bases.object
      → ((s : Store) (t : ℕ) → a + b ≡ links_from s (mark_array s t) + links_from s (base_array s t) → n ≡ needs_of s t (length cs) bytes)
      → Measured s t gs' ks' cs n
  unfolding needed
  measured e f g h =
      let linked = ap₂ ◌+◌ (f ∙ ap (links_from s) o.marks.linked) (g ∙ ap (links_from s) o.bases.linked) in
      record { arranged = arranged; needs = h s t linked ∙ ap (needs_of s t (length cs)) (length_is e) }
