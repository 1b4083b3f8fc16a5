-- New tables entered at any places: too many subtables, no room, or carried out. Assumes nothing.
use Rattle.std.specs.Prelude.{Result, Ok, Err}
use Prim.Native.Nat.{ℕ}
use mathlib.Core.Path.{◌≡◌, sym, ap, ap₂, subst, ◌∙◌}
use mathlib.Core.Bool.{Bool, true, false}
use mathlib.Core.List.{List}
use native.Mathlib.Omega.{arith}
use lib.ListN.{length}
use Rattle.folds.proofs.Each.{each_at}
use Rattle.store_rules.specs.Store.{Store, lent}
use Rattle.store_rules.proofs.Sound.{Fits, sound_fits}
use Rattle.call_rules.specs.declared.Answer.TheVariants.{ManySubtables, NoRoom}
use Rattle.call_rules.specs.declared.Needs.{Needs}
use Rattle.call_rules.specs.Answers.{number, first_case}
use Rattle.call_rules.specs.Needs.{InUse, lent_of, counts_of, short_by, room_short, together}
use Rattle.call_rules.specs.Scratch.{Scratch, cleared}
use Rattle.call_rules.specs.Outcomes.{done, settle, outcome}
use Rattle.call_rules.proofs.Room.{sound_in_use}
use Rattle.call_rules.specs.declared.Lent.{Lent}
use Rattle.call_room.proofs.Together.{first_held}
use Rattle.pair_checks.specs.declared.PairTable.{PairTable}
use Rattle.pair_carrying.proofs.Counting.{tables_many}
use Rattle.lookup_rules.specs.Listed.{rewritten}
use Rattle.lookup_rules.specs.Rewritable.{EachRewritable}
use Rattle.lookup_rules.proofs.Listed.{Named, each_named, rewritten_few}
use Rattle.lookup_carrying.specs.declared.measuring.Measures.{Measures}
use Rattle.lookup_carrying.specs.Measuring.{MeasuringAll, BothMeasured, MeasuredAll}
use Rattle.lookup_carrying.specs.Carrying.{all_needed, EnteredAt, CarryingAll}
use Rattle.lookup_split.specs.Entering.{room_cases, entered_unless, Placing}

module _ {b o l : List ℕ} (c : List ℕ) {t : ℕ} {p : PairTable} {gs ks cs marks ps : List ℕ} (k : Placing (lent b o l c) t p gs ks cs marks ps) where
  abbrev s : Store
  s = lent b o l c

  fit : Fits s
  fit = sound_fits s k.arranging.opens.reads.sounds

  -- the lookups of a good list that are rewritten
  each : EachRewritable s ps
  each =
      let f = k.found in
      subst (EachRewritable s) (sym f.lookups)
      (λ m h.
      let n = each_at (Named s t) (rewritten s f.list t) (each_named s f.list t f.good.fine fit) m h 0 in
      record { used = n.used; good = n.good })

  pub measure_asked : MeasuringAll s t p gs ks cs ps
  measure_asked =
      let f = k.found in
      let few = rewritten_few s f.list t fit in
      let same : length ps ≡ length (rewritten s f.list t) = λ i. length (f.lookups i) in
      record { arranging = k.arranging; few = k.few; lookups = each; short = omega (arith, fit.objects_most) }

  module _ (list : List ℕ) where
    module _ {n : Lent} (e : n ≡ lent_of s list) where
      pub in_use_lem : InUse n c
      in_use_lem = rw e (let u = sound_in_use s list k.arranging.opens.reads.sounds in record { bytes = u.bytes; objects = u.objects; links = u.links })

      pub short_is : {x : Bool} (needs : Needs) → x ≡ short_by n c needs → x ≡ short_by (lent_of s list) c needs
      short_is needs f = f ∙ ap (λ (m : Lent). short_by m c needs) e

    -- the outcome, where the count is that of the cuts or none
    abbrev Leaves : ℕ → ℕ → Store → List ℕ → Type 0
    Leaves r k s' list' =
        (w : Scratch) → outcome r k s' list' (cleared w) ≡ entered_unless (room_cases (lent b o l c) t cs ps list) (lent b o l c) t cs ps w list

    module _ {gs' ks' : List ℕ} {r : Result Measures Measures} (d : MeasuredAll s t gs' ks' cs ps r) where
      pub too_many : {m : Measures} → r ≡ Err m → Leaves (number ManySubtables) 0 s list
      unfolding first_case settle
      too_many {m} y w = let (both, over) = d.over m y in rw over

      module _ {m : Measures} (y : r ≡ Ok m) {short : Bool} (e : short ≡ short_by (lent_of s list) c (together m.split m.lookups)) where
        abbrev measured : BothMeasured s t gs' ks' cs ps m
        measured = d.fit m y

        both : together m.split m.lookups ≡ all_needed s t cs ps
        both = ap₂ (λ (x y : Needs). together x y) measured.split.needs measured.lookups

        asked : room_short s list (together m.split m.lookups) ≡ short
        unfolding short_by
        asked = sym e

        room : room_short s list (all_needed s t cs ps) ≡ short
        room = subst (λ (x : Needs). room_short s list x ≡ short) both asked

        pub no_room_lem : short ≡ true → Leaves (number NoRoom) 0 s list
        unfolding first_case settle
        no_room_lem z w = let full : room_short s list (all_needed s t cs ps) ≡ true = room ∙ z in rw (measured.fits, full)

        module _ (z : short ≡ false) where
          pub can_carry : CarryingAll s t p m.split gs' ks' cs list marks ps
          can_carry =
              record {
                carrying = record {
                  opens = k.arranging.opens;
                  places = k.arranging.places;
                  some = k.arranging.some;
                  measured = measured.split;
                  room = first_held (lent_of s list) (counts_of s) m.split m.lookups (asked ∙ z);
                };
                few = k.few;
                linked = k.linked;
                found = k.found;
                fits = measured.fits;
                room = room ∙ z;
              }

          pub all-entered : {s' : Store} {list' : List ℕ} → EnteredAt s t cs ps list s' list' → Leaves 0 (length cs) s' list'
          unfolding first_case settle done
          all-entered x w =
              let enough : room_short s list (all_needed s t cs ps) ≡ false = room ∙ z in
              rw (measured.fits, enough, x.store, x.list_is, tables_many s t cs)
